-- No symbol that a step introduces is in what is written.
use Rattle.std.specs.Prelude.{◌≢◌, ℕ, List, Contains, Ok, None, Some}
use Rattle.std.specs.Io.KnownBytes.{Appends}
use Rattle.dk_io.specs.Outside.{Told}
use Rattle.dk_syntax.specs.declared.Problem.{Problem}
use Rattle.dk_syntax.specs.declared.SymKey.{SymKey}
use Rattle.lp_term.specs.Identifiers.{identifier_of}
use Rattle.lp_term.specs.LambdaPi.{Term, app, con, kind, lam, pat, pi, type, var}
use Rattle.lp_term.specs.Problems.{goal_type_of}
use Rattle.lp_term.specs.Reserved.{IsSymbol}
use Rattle.lp_term.specs.Typing.{Declares}
use Rattle.lp_term.specs.View.{term_of}
use Rattle.lp_term.specs.declared.Lp.{Lp}
use Rattle.step_check.specs.Freshness.{introduced_by}
use Rattle.step_check.specs.declared.verdict.Verdict.{Verdict}
use Rattle.words.specs.Commands.{Names}
use Rattle.dk_cli.specs.Delivery.{Change}
use Rattle.dk_cli.specs.Derivations.{IsDerivationAt}
use Rattle.dk_cli.specs.Judging.{HasVerdicts}
use Rattle.dk_cli.specs.Proof.{IsProofText, signature_for}
use Rattle.dk_cli.specs.declared.derivation.Derivation.{Derivation}
use Rattle.dk_cli.specs.declared.syntax.Syntax.{Syntax}

-- No symbol of the term has the name.
abbrev pub Lacks : List ℕ → Term → Type 0
Lacks name type = Unit {0}
Lacks name kind = Unit {0}
Lacks name (con other) = other ≢ name
Lacks name (pat other) = Unit {0}
Lacks name (var number) = Unit {0}
Lacks name (app t u) = Lacks name t × Lacks name u
Lacks name (lam a t) = Lacks name a × Lacks name t
Lacks name (pi a b) = Lacks name a × Lacks name b

-- The symbol's identifier is declared by no command of a development for the problem with this body, and stands neither in the
-- type nor in the body of `goal`.
pub record IsLeftOut (problem : Problem) (body : Lp) (symbol : SymKey) : Type 0 where
  pub undeclared : (of : Term) → ¬ Declares (signature_for problem) (identifier_of symbol) of
  pub type_lacks : Lacks (identifier_of symbol) (term_of (goal_type_of problem))
  pub body_lacks : Lacks (identifier_of symbol) (term_of body)

-- Each symbol that a step introduces, as these verdicts tell, is left out.
abbrev pub LeavesOut : Problem → List Verdict → Lp → Type 0
LeavesOut problem verdicts body = (symbol : SymKey) → IsSymbol symbol → Contains (introduced_by verdicts) symbol → IsLeftOut problem body symbol

-- Where the inputs tell their bytes, the sink has the text of a proof more, in which each symbol that a step of the two files'
-- derivation introduces is left out.
abbrev pub WritesNoIntroduced : Syntax → Told → Names → Change → Type 0
WritesNoIntroduced syntax None names out = Unit {0}
WritesNoIntroduced syntax (Some files) names out = (d : Derivation) × IsDerivationAt names files (Ok d)
    × ((verdicts : List Verdict) × HasVerdicts d verdicts
    × ((text : List ℕ) × (proof : IsProofText syntax d.problem text) × LeavesOut d.problem verdicts proof.is_proof.body × Appends out.old out.new text))
