-- Most general substitutions put no symbol that stands in none of the clauses.
use Rattle.std.proofs.Common.{List}
use Rattle.dk_syntax.specs.declared.symbol.SymKey.{SymKey}
use Rattle.plan_symbols.proofs.Chained.{chain_over}
use Rattle.plan_symbols.proofs.Justified.{justification_over}
use Rattle.plan_symbols.proofs.RootsFormed.{roots_by}
use Rattle.plan_symbols.proofs.VerdictsOver.{PutNoOthers}
use Rattle.plan_symbols.specs.Laws.{RootsAreWellFormed}

pub no_others : (symbols : List SymKey) → PutNoOthers symbols
no_others symbols = record {
  justified = λ target lists step h a b. justification_over symbols target lists step h a b;
  chained = λ target lists chain h n a b. let w = chain_over symbols target lists chain h a b n in record { steps = w.steps; mids = w.mids };
}

pub roots_are_well_formed : RootsAreWellFormed
roots_are_well_formed = roots_by no_others
