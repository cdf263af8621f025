-- Laws on traces, and on the first item at fault.
use Rattle.std.proofs.Common.{◌≡◌, ℕ, zero, suc, ◌+◌, ◌<◌, Bool, true, false, if◌then◌else◌, List, [], ◌∷◌, ◌++◌, Option, Some, None, Err, length, map, take, slice_get, get_or, inl, inr, refl, subst, sym, ap, ◌∙◌, arith}
use Rattle.std.proofs.lemmas.List.{length-map, length-take, map-append, take_more}
use Rattle.std.proofs.lemmas.Option.{none-some, same_Some, slice_get_within}
use Rattle.std.proofs.lemmas.Bool.{cases_eq}
use Rattle.tptp_text.specs.declared.Item.{Item}
use Rattle.std.specs.Option.{option_map, option_or}
use Rattle.tstp_trace.specs.Faults.{AreSoundBefore, Judgement}
use Rattle.tstp_trace.specs.Names.{AreDistinct, is_among, with_name}
use Rattle.tstp_trace.specs.Sources.{source_fault}
use Rattle.tstp_trace.specs.Traces.{fault_by, HasFitParents, HaveFitParents, IsStepAnswer, IsTraceAnswer, IsTraceOf, names_of, outside_fault, Part, part_of_item, part_of_step, step_fault}
use Rattle.tstp_trace.specs.declared.fault.TraceFault.{TraceFault}
use Rattle.tstp_trace.specs.declared.fault.TraceFault.TheVariants.{Outside, DuplicateName, Unsupported, Memory}
use Rattle.tstp_trace.specs.declared.step.Step.{Step}
use Rattle.tstp_trace.specs.declared.step.Trace.{Trace}
use Rattle.tstp_trace.proofs.DistinctLaws.{distinct_names}
use Rattle.tstp_trace.proofs.FitLaws.{fit_source}

-- a list's front with the next item
pub front_grows : {X : Type 0} (xs : List X) (i : ℕ) (x : X) → i < length xs → x ≡ get_or xs i x → take (i + 1) xs ≡ take i xs ++ x ∷ []
front_grows xs i x below is = take_more xs i x below ∙ ap (λ y. take i xs ++ y ∷ []) (sym is)

-- what is made of the front and of the next item
pub made_grows : {X Y : Type 0} (f : X → Y) (xs : List X) (i : ℕ) (x : X) → i < length xs → x ≡ get_or xs i x → map f (take (i + 1) xs) ≡ map f (take i xs) ++ f x ∷ []
made_grows f xs i x below is = ap (map f) (front_grows xs i x below is) ∙ map-append f (take i xs) (x ∷ [])

-- the next item isn't at fault either
pub sound_so_far : {Fault : Type 0} (judge : Judgement Fault) (items : List Item) (place : ℕ) (item : Item) → slice_get items place ≡ Some item → AreSoundBefore judge items place → judge (take place items) item ≡ None
    → AreSoundBefore judge items (place + 1)
sound_so_far judge items place item here sound none earlier one below there = elim (cases_eq earlier place) [
  | inl same ↦
      let both : Some item ≡ Some one = sym here ∙ (ap (slice_get items) (sym same) ∙ there) in
      subst (λ n. judge (take earlier items) n ≡ None) (same_Some item one both) (subst (λ p. judge (take p items) item ≡ None) (sym same) none)
  | inr differs ↦ sound earlier one (omega arith) there
]

-- ---- faults that aren't there

pub or_none : {X : Type 0} (first second : Option X) → option_or first second ≡ None → (first ≡ None) × (second ≡ None)
or_none None second e = (refl, e)
or_none (Some x) second e = absurd (none-some x (sym e))

pub where_none : {X : Type 0} (test : Bool) (x : X) → (if test then Some x else None) ≡ None → test ≡ false
where_none true x e = absurd (none-some x (sym e))
where_none false x e = refl

pub map_none : {X Y : Type 0} (f : X → Y) (o : Option X) → option_map f o ≡ None → o ≡ None
map_none f None e = refl
map_none f (Some x) e = absurd (none-some (f x) (sym e))

-- ---- items of parts

-- what stands in a list that was made of items is made of the item at its place
pub item_at : {X Y : Type 0} (f : X → Y) (xs : List X) (k : ℕ) (y : Y) → slice_get (map f xs) k ≡ Some y → (x : X) × (slice_get xs k ≡ Some x) × (f x ≡ y)
item_at f [] k y here = absurd (none-some y here)
item_at f (x ∷ xs) zero y here = (x, refl, same_Some (f x) y here)
item_at f (x ∷ xs) (suc k) y here = item_at f xs k y here

pub made_at : {X Y : Type 0} (f : X → Y) (xs : List X) (k : ℕ) (x : X) → slice_get xs k ≡ Some x → slice_get (map f xs) k ≡ Some (f x)
made_at f [] k x here = absurd (none-some x here)
made_at f (z ∷ xs) zero x here = ap Some (ap f (same_Some z x here))
made_at f (z ∷ xs) (suc k) x here = made_at f xs k x here

pub take_of_made : {X Y : Type 0} (f : X → Y) (k : ℕ) (xs : List X) → map f (take k xs) ≡ take k (map f xs)
take_of_made f zero xs = refl
take_of_made f (suc k) [] = refl
take_of_made f (suc k) (x ∷ xs) = ap (λ l. f x ∷ l) (take_of_made f k xs)

pub made_of_made : {X Y Z : Type 0} (f : X → Y) (g : Y → Z) (xs : List X) → map g (map f xs) ≡ map (λ x. g (f x)) xs
made_of_made f g [] = refl
made_of_made f g (x ∷ xs) = ap (λ l. g (f x) ∷ l) (made_of_made f g xs)

-- ---- the trace

pub not_duplicate : (names : List (List ℕ)) (number : ℕ) (item : Item) → fault_by names number item ≡ None → is_among names item.name ≡ false
not_duplicate names number item e =
    let rest = (or_none (outside_fault number item.body) _ e).1 in
    where_none (is_among names item.name) (DuplicateName number) (or_none (if is_among names item.name then Some (DuplicateName number) else None) _ rest).0

pub no_source_fault : (names : List (List ℕ)) (number : ℕ) (item : Item) → fault_by names number item ≡ None → source_fault item.source ≡ None
no_source_fault names number item e =
    let rest = (or_none (outside_fault number item.body) _ e).1 in
    map_none (λ kind. Unsupported number kind) (source_fault item.source) (or_none (if is_among names item.name then Some (DuplicateName number) else None) _ rest).1

pub long_trace : (items : List Item) (trace : Trace) → IsTraceOf items trace → length trace.steps ≡ length items
long_trace items trace h = sym (length-map trace.steps part_of_step) ∙ (ap length h.steps ∙ length-map items part_of_item)

pub distinct_trace : (items : List Item) (trace : Trace) → IsTraceOf items trace → AreDistinct (names_of trace)
distinct_trace items trace h =
    let same : names_of trace ≡ map (λ (item : Item). item.name) items =
    sym (made_of_made part_of_step (λ (part : Part). part.name) trace.steps) ∙ (ap (map (λ (part : Part). part.name)) h.steps ∙ made_of_made part_of_item (λ (part : Part). part.name) items) in
    subst AreDistinct (sym same) (distinct_names (map (λ (item : Item). item.name) items) (λ k name here.
    let at = item_at (λ (item : Item). item.name) items k name here in
    let fresh = not_duplicate (map (λ (item : Item). item.name) (take k items)) (length (take k items) + 1) at.0 (h.sound k at.0 (slice_get_within items k at.0 at.1) at.1) in
    subst (λ n. is_among (take k (map (λ (item : Item). item.name) items)) n ≡ false) at.2 (subst (λ l. is_among l at.0.name ≡ false) (take_of_made (λ (item : Item). item.name) k items) fresh)))

pub fit_trace : (items : List Item) (trace : Trace) → IsTraceOf items trace → HaveFitParents trace.steps
fit_trace items trace h place step here =
    let part : slice_get (map part_of_item items) place ≡ Some (part_of_step step) = ap (λ l. slice_get l place) (sym h.steps) ∙ made_at part_of_step trace.steps place step here in
    let at = item_at part_of_item items place (part_of_step step) part in
    let sound = h.sound place at.0 (slice_get_within items place at.0 at.1) at.1 in
    let fit = fit_source at.0.name at.0.source (no_source_fault (map (λ (item : Item). item.name) (take place items)) (length (take place items) + 1) at.0 sound) in
    subst HasFitParents (ap (λ (p : Part). p.source) at.2) fit

-- ---- the loop over the items

-- the fault of an item is the same by the names and the number as by the items before it
pub step_judged : (items : List Item) (place number : ℕ) (names : List (List ℕ)) (item : Item) → names ≡ map (λ (one : Item). one.name) (take place items) → number ≡ place + 1 → place < length items
    → fault_by names number item ≡ step_fault (take place items) item
step_judged items place number names item all is below =
    let long : number ≡ length (take place items) + 1 = omega (arith, length-take place items) in
    rw (all, long) refl

-- the fault of the first item that has one
pub first_step_fault : (items : List Item) (place number : ℕ) (names : List (List ℕ)) (item : Item) (fault : TraceFault) → names ≡ map (λ (one : Item). one.name) (take place items) → number ≡ place + 1 → place < length items
    → slice_get items place ≡ Some item → AreSoundBefore step_fault items place → IsStepAnswer names number item (Err fault) → IsTraceAnswer items (Err fault)
first_step_fault items place number names item (Outside step kind) all is below here sound h = (place, sound, (item, here, sym (step_judged items place number names item all is below) ∙ h))
first_step_fault items place number names item (DuplicateName step) all is below here sound h = (place, sound, (item, here, sym (step_judged items place number names item all is below) ∙ h))
first_step_fault items place number names item (Unsupported step kind) all is below here sound h = (place, sound, (item, here, sym (step_judged items place number names item all is below) ∙ h))
first_step_fault items place number names item Memory all is below here sound h = tt

-- a new name goes to the end
pub new_name : (names : List (List ℕ)) (name : List ℕ) → is_among names name ≡ false → with_name names name ≡ names ++ name ∷ []
new_name names name absent = rw absent refl

pub names_so_far : (items : List Item) (place : ℕ) (item : Item) (names after : List (List ℕ)) → place < length items → item ≡ get_or items place item → names ≡ map (λ (one : Item). one.name) (take place items)
    → is_among names item.name ≡ false → after ≡ with_name names item.name → after ≡ map (λ (one : Item). one.name) (take (place + 1) items)
names_so_far items place item names after below is all absent now =
    now ∙ (new_name names item.name absent ∙ (ap (λ l. l ++ item.name ∷ []) all ∙ sym (made_grows (λ (one : Item). one.name) items place item below is)))

pub steps_so_far : (items : List Item) (place : ℕ) (item : Item) (steps after : List Step) (step : Step) → place < length items → item ≡ get_or items place item → map part_of_step steps ≡ map part_of_item (take place items)
    → part_of_step step ≡ part_of_item item → after ≡ steps ++ step ∷ [] → map part_of_step after ≡ map part_of_item (take (place + 1) items)
steps_so_far items place item steps after step below is all same now =
    ap (map part_of_step) now ∙ (map-append part_of_step steps (step ∷ []) ∙ (ap (λ l. l ++ part_of_step step ∷ []) all ∙ (ap (λ p. map part_of_item (take place items) ++ p ∷ []) same ∙ sym (made_grows part_of_item items place item below is))))
