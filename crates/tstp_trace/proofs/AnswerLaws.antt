-- Items have one problem and one trace.
use Rattle.std.proofs.Common.{◌≡◌, ◌≢◌, ℕ, ◌<◌, List, [], ◌∷◌, length, map, Option, Some, None, Result, Ok, Err, slice_get, take, refl, sym, ◌∙◌, ap, ap₂, subst, arith}
use Rattle.std.specs.Prelude.{option_to_list}
use Rattle.std.proofs.lemmas.Option.{none-some, same_Some, slice_get_within}
use native.Mathlib.Decide.{dec_lt}
use Rattle.dk_syntax.specs.Problems.{formulas_of, symbols_of_formulas}
use Rattle.dk_syntax.specs.declared.Formula.{Formula}
use Rattle.dk_syntax.specs.declared.Named.{Named}
use Rattle.dk_syntax.specs.declared.Problem.{Problem}
use Rattle.tptp_text.specs.declared.Body.{Body}
use Rattle.tptp_text.specs.declared.Body.TheVariants.{Plain, Outside}
use Rattle.tptp_text.specs.declared.Item.{Item}
use Rattle.tstp_trace.specs.Faults.{AreSound, IsFirstFault, Judgement}
use Rattle.tstp_trace.specs.Laws.{HasOneProblem, HasOneTrace}
use Rattle.tstp_trace.specs.Problems.{IsProblemOf, item_fault, part_of_named}
use Rattle.tstp_trace.specs.Traces.{part_of_step, step_fault}
use Rattle.tstp_trace.specs.declared.fault.ProblemFault.TheVariants as problem_fault
use Rattle.tstp_trace.specs.declared.fault.TraceFault.TheVariants as trace_fault
use Rattle.tstp_trace.specs.declared.step.Step.{Step}
use Rattle.tstp_trace.specs.declared.step.Trace.{Trace}

-- ---- options and lists

found_same : {A : Type 0} (x y : A) (found : Option A) → found ≡ Some x → found ≡ Some y → x ≡ y
found_same x y found e d = same_Some x y (sym e ∙ d)

found_none : {A : Type 0} (x : A) (found : Option A) → found ≡ Some x → found ≡ None → ⊥
found_none x found e d = none-some x (sym d ∙ e)

abbrev head_of : {A : Type 0} → A → List A → A
head_of other [] = other
head_of other (x ∷ xs) = x

abbrev tail_of : {A : Type 0} → List A → List A
tail_of [] = []
tail_of (x ∷ xs) = xs

-- lists whose parts are the same are the same, where a part tells what it is a part of
same_list : {A B : Type 0} (part : A → B) → ((x y : A) → part x ≡ part y → x ≡ y) → (xs ys : List A) → map part xs ≡ map part ys → xs ≡ ys
same_list part tells [] [] e = refl
same_list part tells [] (y ∷ ys) e = absurd cc
same_list part tells (x ∷ xs) [] e = absurd cc
same_list part tells (x ∷ xs) (y ∷ ys) e =
    ap₂ (λ z zs. z ∷ zs) (tells x y (ap (head_of (part x)) e)) (same_list part tells xs ys (ap tail_of e))

same_option : {A : Type 0} (one other : Option A) → option_to_list one ≡ option_to_list other → one ≡ other
same_option None None e = refl
same_option None (Some y) e = absurd cc
same_option (Some x) None e = absurd cc
same_option (Some x) (Some y) e = ap Some (ap (head_of x) e)

-- ---- the first fault of items

module _ {Fault : Type 0} (judge : Judgement Fault) (items : List Item) where
  none_at_fault : (fault : Fault) → AreSound judge items → IsFirstFault judge items fault → ⊥
  none_at_fault fault sound (place, before, (item, stands, is)) =
      found_none fault (judge (take place items) item) is (sound place item (slice_get_within items place item stands) stands)

  one_first_fault : (one other : Fault) → IsFirstFault judge items one → IsFirstFault judge items other → one ≡ other
  one_first_fault one other (place, before, (item, stands, is)) (place', before', (item', stands', is')) = elim (dec_lt place place') [
    | yes less ↦ absurd (found_none one (judge (take place items) item) is (before' place item less stands))
    | no not_less ↦ elim (dec_lt place' place) [
      | yes less ↦ absurd (found_none other (judge (take place' items) item') is' (before place' item' less stands'))
      | no not_more ↦
          let same : place ≡ place' = omega arith in
          let here = subst (λ p. slice_get items p ≡ Some item') (sym same) stands' in
          let same_item = found_same item item' (slice_get items place) stands here in
          found_same one other (judge (take place items) item) is (subst (λ i. judge (take place items) i ≡ Some other) (sym same_item) (subst (λ p. judge (take p items) item' ≡ Some other) (sym same) is'))
    ]
  ]

-- ---- problems

abbrev plain_of : Formula → Body → Formula
plain_of other (Plain formula) = formula
plain_of other (Outside kind) = other

named_tells : (x y : Named) → part_of_named x ≡ part_of_named y → x ≡ y
named_tells x y e = ap (λ part. record { name = part.0; formula = plain_of x.formula part.1 }) e

same_problem : (items : List Item) (one other : Problem) → IsProblemOf items one → IsProblemOf items other → one ≡ other
same_problem items one other is so =
    let hyps = same_list part_of_named named_tells one.hyps other.hyps (is.hypotheses ∙ sym so.hypotheses) in
    let conjecture = same_option one.conjecture other.conjecture
    (same_list part_of_named named_tells (option_to_list one.conjecture) (option_to_list other.conjecture) (is.conjecture ∙ sym so.conjecture)) in
    let made = λ (h : List Named) (c : Option Named). (let p : Problem = record { hyps = h; conjecture = c; symbols = [] } in p) in
    let symbols : one.symbols ≡ other.symbols = is.symbols ∙ ap₂ (λ h c. symbols_of_formulas (formulas_of (made h c))) hyps conjecture ∙ sym so.symbols in
    built hyps conjecture symbols
  where
    built : one.hyps ≡ other.hyps → one.conjecture ≡ other.conjecture → one.symbols ≡ other.symbols → one ≡ other
    built e d f = λ i. record { hyps = e i; conjecture = d i; symbols = f i }

pub one_problem : (items : List Item) → HasOneProblem items
one_problem items (Ok one) (Ok other) h k not_one not_other = ap Ok (same_problem items one other h k)
one_problem items (Ok one) (Err problem_fault.Memory) h k not_one not_other = absurd (not_other refl)
one_problem items (Ok one) (Err fault) h k not_one not_other = absurd (none_at_fault item_fault items _ h.sound k)
one_problem items (Err problem_fault.Memory) other h k not_one not_other = absurd (not_one refl)
one_problem items (Err fault) (Ok other) h k not_one not_other = absurd (none_at_fault item_fault items _ k.sound h)
one_problem items (Err fault) (Err problem_fault.Memory) h k not_one not_other = absurd (not_other refl)
one_problem items (Err fault) (Err another) h k not_one not_other = ap Err (one_first_fault item_fault items _ _ h k)

-- ---- traces

step_tells : (x y : Step) → part_of_step x ≡ part_of_step y → x ≡ y
step_tells x y e = ap (λ part. record { name = part.name; role = part.role; formula = plain_of x.formula part.body; source = part.source }) e

pub one_trace : (items : List Item) → HasOneTrace items
one_trace items (Ok one) (Ok other) h k not_one not_other =
    let steps = same_list part_of_step step_tells one.steps other.steps (h.steps ∙ sym k.steps) in
    ap (λ s. Ok (let t : Trace = record { steps = s } in t)) steps
one_trace items (Ok one) (Err trace_fault.Memory) h k not_one not_other = absurd (not_other refl)
one_trace items (Ok one) (Err fault) h k not_one not_other = absurd (none_at_fault step_fault items _ h.sound k)
one_trace items (Err trace_fault.Memory) other h k not_one not_other = absurd (not_one refl)
one_trace items (Err fault) (Ok other) h k not_one not_other = absurd (none_at_fault step_fault items _ k.sound h)
one_trace items (Err fault) (Err trace_fault.Memory) h k not_one not_other = absurd (not_other refl)
one_trace items (Err fault) (Err another) h k not_one not_other = ap Err (one_first_fault step_fault items _ _ h k)
