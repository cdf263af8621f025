-- The root may be looked for by marks in place of formulas.
use Rattle.std.proofs.Common.{◌≡◌, ℕ, Bool, List, Option, Some, None}
use Rattle.dk_syntax.specs.declared.Formula.{Formula}
use Rattle.derivation_graph.specs.Roots.{IsFirstFreeMark, IsFreeMark, IsRootAnswer, MarksFalsities, MayBeRoot}

module _ (formulas : List Formula) (marks barred : List Bool) (marked : MarksFalsities formulas marks) where
  may_be_root : (place : ℕ) → IsFreeMark marks barred place → MayBeRoot formulas barred place
  may_be_root place h = ((marked place).0 h.0, h.1)

  is_free_mark : (place : ℕ) → MayBeRoot formulas barred place → IsFreeMark marks barred place
  is_free_mark place h = ((marked place).1 h.0, h.1)

  pub root_by_marks : (answer : Option ℕ) → IsFirstFreeMark marks barred answer → IsRootAnswer formulas barred answer
  root_by_marks None none = λ place h. none place (is_free_mark place h)
  root_by_marks (Some step) (place, number, free, first) =
      (place, number, may_be_root place free, λ earlier below h. first earlier below (is_free_mark earlier h))
