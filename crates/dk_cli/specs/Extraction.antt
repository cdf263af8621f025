-- What `extract` writes of a derivation: each derived step as a problem.
use Rattle.std.specs.Prelude.{◌≡◌, ℕ, List, Ok, None, Some}
use Rattle.std.specs.declared.result.Result.{Result}
use Rattle.std.specs.Io.KnownBytes.{Appends}
use Rattle.dk_io.specs.Outside.{Told}
use Rattle.extract.specs.StepProblems.{problems_of}
use Rattle.words.specs.Commands.{Names}
use Rattle.dk_cli.specs.Delivery.{Change}
use Rattle.dk_cli.specs.Derivations.{IsDerivationAt}
use Rattle.dk_cli.specs.declared.derivation.Derivation.{Derivation}
use Rattle.dk_cli.specs.declared.refusal.Refusal.{Refusal}

-- No step is judged: the text says of each what it claims.
abbrev pub IsExtracted : Derivation → Result (List ℕ) Refusal → Type 0
IsExtracted d answer = answer ≡ Ok (problems_of d.trace.steps d.graph.parents)

-- Where the inputs tell their bytes, the sink has the derived steps of the two files' derivation as problems more.
abbrev pub WritesProblems : Told → Names → Change → Type 0
WritesProblems None names out = Unit {0}
WritesProblems (Some files) names out = (d : Derivation) × IsDerivationAt names files (Ok d)
    × Appends out.old out.new (problems_of d.trace.steps d.graph.parents)
