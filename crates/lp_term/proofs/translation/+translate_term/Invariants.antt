use Rattle.std.proofs.Common.{◌≡◌, map, drop}
use Rattle.lp_term.specs.Translation.{apply_each, translated_term}
use Rattle.lp_term.proofs.translation.+translate_term.Given as goal

abbrev pub invariant-apply_to-loop-arg : goal.invariant-apply_to-loop-arg
invariant-apply_to-loop-arg l =
    apply_each l.all (map translated_term (drop l.arg-index l.args)) ≡ apply_each l.fn.head (map translated_term l.args)
