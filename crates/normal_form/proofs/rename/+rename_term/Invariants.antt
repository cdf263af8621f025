use Rattle.std.proofs.Common.{◌≡◌, ◌++◌, drop, map}
use Rattle.normal_form.specs.Renaming.{new_number, renamed}
use Rattle.normal_form.proofs.rename.+rename_term.Given as goal

-- the terms made, with those to come, are all
abbrev pub invariant-rename_terms-loop-term : goal.invariant-rename_terms-loop-term
invariant-rename_terms-loop-term l =
    l.all ++ map (renamed (new_number l.naming)) (drop l.term-index l.terms) ≡ map (renamed (new_number l.naming)) l.terms
