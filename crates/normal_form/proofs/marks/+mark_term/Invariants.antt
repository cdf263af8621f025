use Rattle.std.proofs.Common.{map, take}
use Rattle.normal_form.specs.Marks.{Marked}
use Rattle.normal_form.specs.Occurrence.{any_true, has_variable}
use Rattle.normal_form.proofs.marks.+mark_term.Given as goal

-- the variables of the passed terms are marked
abbrev pub invariant-mark_terms-loop-term : goal.invariant-mark_terms-loop-term
invariant-mark_terms-loop-term l = Marked (λ k. any_true (map (has_variable k) (take l.term-index l.terms))) l.initial.marks.items l.marks.items
