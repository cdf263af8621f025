-- What the parts of a command answer.
use Rattle.std.specs.Prelude.{◌≡◌, ℕ, ◌<◌, ◌≤◌, ◌⊎◌, List, [], ◌∷◌, length, Ok, Err, IfOk, IfErr}
use Rattle.std.specs.declared.result.Result.{Result}
use Rattle.std.specs.declared.vec.Vec.{Vec}
use Rattle.std.specs.declared.alloc.Global.{Global}
use Rattle.dk_io.specs.Causes.{Rose}
use Rattle.dk_io.specs.Outside.{Told, IsAbsent, IsFile as IsFileOf, Tells}
use Rattle.derivation_graph.specs.Graphs.{IsGraphAnswer}
use Rattle.dk_syntax.specs.Problems.{HasItsSymbols}
use Rattle.dk_syntax.specs.declared.Problem.{Problem}
use Rattle.plan.specs.Laws.{AreWellFormed}
use Rattle.plan_typing.specs.Laws.{item_names}
use Rattle.step_check.specs.Steps.{nodes_of}
use Rattle.tstp_trace.specs.Names.{AreDistinct}
use Rattle.tstp_trace.specs.Problems.{HasProperFormulas}
use Rattle.tstp_trace.specs.Traces.{HaveFitParents, names_of}
use Rattle.tstp_trace.specs.declared.Trace.{Trace}
use Rattle.dk_cli.specs.Answer.{IsAnswer, IsOfDevelopment, IsOfTrace, IsTold, LacksOneOf}
use Rattle.words.specs.Commands.{Names}
use Rattle.dk_cli.specs.Commands.{files_of_names}
use Rattle.dk_cli.specs.Derivations.{IsDerivationAt, IsFile, byte_limit}
use Rattle.dk_cli.specs.declared.derivation.Derivation.{Derivation}
use Rattle.dk_cli.specs.declared.refusal.Refusal.{Refusal}
use Rattle.dk_cli.specs.declared.refusal.Refusal.TheVariants.{ReadFault, TooLong, Memory}
use Rattle.dk_cli.specs.declared.refusal.File.{File}

-- An answer, without where it lies in memory.
abbrev pub answer_view : Result (Vec ℕ Global) Refusal → Result (List ℕ) Refusal
answer_view (Ok text) = Ok text.items
answer_view (Err refusal) = Err refusal

abbrev pub FileCause : Told → List ℕ → File → ℕ → ℕ → Refusal → Type 0
FileCause told name file before now (ReadFault f) = (f ≡ file) × (Rose before now ⊎ IsAbsent told name)
FileCause told name file before now (TooLong f) = (f ≡ file) × ((bytes : List ℕ) → Tells told name bytes → byte_limit < length bytes)
FileCause told name file before now Memory = Unit {0}
FileCause told name file before now refusal = ⊥

-- A file was read whole, or why not.
pub record ReadsFile (told : Told) (name : List ℕ) (file : File) (before now : ℕ) (result : Result (Vec ℕ Global) Refusal) : Type 0 where
  pub later : before ≤ now
  pub bytes : IfOk result (λ v. IsFileOf told name v.items × (length v.items ≤ byte_limit))
  pub rose : before < now → result ≡ Err (ReadFault file)
  pub absent : IsAbsent told name → result ≡ Err (ReadFault file)
  pub cause : IfErr result (λ refusal. FileCause told name file before now refusal)

-- The answer to the reading of the file of a development.
abbrev pub AnswersFile : Told → List ℕ → File → ℕ → ℕ → Result (List ℕ) Refusal → Type 0
AnswersFile told name file before now answer = IsAnswer (LacksOneOf told (name ∷ [])) IsOfDevelopment (IsTold told (λ files. IsFile file (files name))) before now answer

-- The answer to the reading of a derivation from two files.
abbrev pub AnswersDerivation : Told → Names → ℕ → ℕ → Result Derivation Refusal → Type 0
AnswersDerivation told names before now answer = IsAnswer (LacksOneOf told (files_of_names names)) IsOfTrace (IsTold told (IsDerivationAt names)) before now answer

-- What holds of a problem and a trace that were read, whether or not their bytes are told.
pub record AreRead (problem : Problem) (trace : Trace) : Type 0 where
  pub proper : HasProperFormulas problem
  pub symbols : HasItsSymbols problem
  pub items : AreDistinct (item_names problem)
  pub formed : AreWellFormed trace.steps

-- And of a derivation.
pub record IsDerived (d : Derivation) : Type 0 where
  pub graph : IsGraphAnswer (nodes_of d.trace) (Ok d.graph)
  pub names : AreDistinct (names_of d.trace)
  pub parents : HaveFitParents d.trace.steps
  pub read : AreRead d.problem d.trace
