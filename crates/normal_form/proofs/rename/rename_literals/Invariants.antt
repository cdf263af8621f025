use Rattle.std.proofs.Common.{◌≡◌, ◌++◌, drop, map}
use Rattle.normal_form.specs.Renaming.{place_of, renamed_literal}
use Rattle.normal_form.proofs.rename.rename_literals.Given as goal

-- the literals made, with those to come, are all
abbrev pub invariant-loop-literal : goal.invariant-loop-literal
invariant-loop-literal l =
    l.all ++ map (renamed_literal (place_of l.universals.keys)) (drop l.literal-index l.literals) ≡ map (renamed_literal (place_of l.universals.keys)) l.literals
