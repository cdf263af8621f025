-- What `convert` and `dedukti` write of a derivation: the text of a development, or the first refusal.
use Rattle.std.specs.Prelude.{◌≡◌, ℕ, List, All, Ok}
use Rattle.std.specs.declared.result.Result.{Result}
use Rattle.development.specs.Development.{IsDevelopment}
use Rattle.dk_syntax.specs.declared.Problem.{Problem}
use Rattle.dk_syntax.specs.declared.SymKey.{SymKey}
use Rattle.lp_term.specs.Identifiers.{identifier_of}
use Rattle.lp_term.specs.Reserved.{IsFree, IsGrammarName, IsOfOne}
use Rattle.lp_term.specs.declared.Dev.{Dev}
use Rattle.lp_text.specs.Levels.{commands_over}
use Rattle.plan.specs.declared.plan.Plan.{Plan}
use Rattle.dk_cli.specs.Planning.{IsPlanOf}
use Rattle.dk_cli.specs.Stages.{Follows}
use Rattle.dk_cli.specs.Syntaxes.{text_in}
use Rattle.dk_cli.specs.declared.derivation.Derivation.{Derivation}
use Rattle.dk_cli.specs.declared.refusal.Refusal.{Refusal}
use Rattle.dk_cli.specs.declared.syntax.Syntax.{Syntax}

-- The symbol's identifier is one of the grammar, free, and no other symbol's.
pub record HasName (symbol : SymKey) : Type 0 where
  pub grammar : IsGrammarName (identifier_of symbol)
  pub free : IsFree (identifier_of symbol)
  pub of_one : IsOfOne symbol (identifier_of symbol)

-- A development for a problem that can be printed: fewer than 2 ^ 32 binders stand around each place, else memory
-- lacks, and the symbols have such identifiers, as all have whose names are bytes.
pub record IsPrinted (problem : Problem) (development : Dev) : Type 0 where
  pub places : commands_over development.commands ≡ 0
  pub names : All HasName problem.symbols

-- The text of the development of the plan, in the syntax.
abbrev pub IsWritten : Syntax → Derivation → Plan → Result (List ℕ) Refusal → Type 0
IsWritten syntax d plan answer = (development : Dev) × IsDevelopment d.problem d.trace plan development × IsPrinted d.problem development × (answer ≡ Ok (text_in syntax development))

-- What a derivation gives, with that limit on the weight.
abbrev pub IsDeveloped : Syntax → ℕ → Derivation → Result (List ℕ) Refusal → Type 0
IsDeveloped syntax limit d answer = Follows (IsPlanOf limit d) (IsWritten syntax d) answer
