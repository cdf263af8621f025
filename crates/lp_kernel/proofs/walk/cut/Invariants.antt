use Rattle.std.proofs.Common.{◌≡◌, List, length}
use Rattle.lp_term.specs.declared.lp.Lp.{Lp}
use Rattle.lp_kernel.specs.Walking.{IsExtended}
use Rattle.lp_kernel.proofs.walk.cut.Given as goal

abbrev pub invariant-longer : goal.invariant-longer
invariant-longer l = (base : List Lp) → length base ≡ l.level → IsExtended base l.initial.types → IsExtended base l.types

abbrev pub decreases-longer : goal.decreases-longer
decreases-longer l = length l.types
