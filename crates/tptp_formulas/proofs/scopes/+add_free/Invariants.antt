use Rattle.std.proofs.Common.{◌≡◌, drop, map}
use Rattle.dk_syntax.specs.Symbols.{joined}
use Rattle.tptp_formulas.specs.FewNames.{few_names}
use Rattle.tptp_formulas.specs.Scopes.{each, free_in}
use Rattle.tptp_formulas.proofs.scopes.+add_free.Given as goal

abbrev pub invariant-add_all_free-loop-formula : goal.invariant-add_all_free-loop-formula
invariant-add_all_free-loop-formula l = record {
  added :
      few_names l.seen (joined (each l.initial.bound (map free_in (drop l.formula-index l.formulas))))
      ≡ few_names l.initial.seen (joined (each l.initial.bound (map free_in l.formulas)));
  bound : l.bound ≡ l.initial.bound;
}
