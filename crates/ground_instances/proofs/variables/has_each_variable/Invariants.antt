use Rattle.std.proofs.Common.{◌≡◌, ℕ, true, false, get_or, length, take}
use Rattle.ground_instances.specs.Naming.{HasVariable}
use Rattle.ground_instances.proofs.variables.has_each_variable.Given as goal

-- each variable that is marked stands in a literal so far
abbrev pub invariant-loop-literal : goal.invariant-loop-literal
invariant-loop-literal l =
    (length l.marks.items ≡ l.clause.vars)
    × ((k : ℕ) → get_or l.marks.items k false ≡ true → HasVariable (take l.literal-index l.literal-items) k)
