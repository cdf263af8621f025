-- Laws on problems.
use Rattle.std.proofs.Common.{◌≡◌, ℕ, suc, ◌+◌, ◌<◌, Bool, true, false, not, nat_eq, if◌then◌else◌, ◌||◌, ◌&&◌, List, [], ◌∷◌, ◌++◌, Option, Some, None, Err, length, map, take, filter, slice_get, get_or, codes, refl, subst, sym, ap, ◌∙◌, arith, append_assoc}
use Rattle.std.proofs.lemmas.List.{append-nil, length-map, length-take, map-append}
use Rattle.std.proofs.lemmas.List.Elements.{filter-append}
use Rattle.std.specs.Prelude.{option_to_list}
use Rattle.std.specs.List.{list_any}
use Rattle.std.specs.Option.{is_some}
use Rattle.std.specs.Cmp.Lexicographic.{bytes_decides, pointwise}
use Rattle.tptp_text.specs.declared.Item.{Item}
use Rattle.dk_syntax.proofs.FirstOccurrences.{with_symbols-append}
use Rattle.dk_syntax.specs.Problems.{symbols_of_formulas}
use Rattle.dk_syntax.specs.Symbols.{formula_occurrences, joined, with_symbols}
use Rattle.dk_syntax.specs.declared.Formula.{Formula}
use Rattle.dk_syntax.specs.declared.SymKey.{SymKey}
use Rattle.dk_syntax.specs.declared.Named.{Named}
use Rattle.tstp_trace.specs.Faults.{AreSoundBefore}
use Rattle.tstp_trace.specs.Names.{is_among}
use Rattle.tstp_trace.specs.Problems.{fault_by, fault_where, free_fault, hypothesis_roles, is_conjecture, is_hypothesis, IsNamedAnswer, IsProblemAnswer, item_fault, outside_fault, part_of_item, part_of_named}
use Rattle.tstp_trace.specs.declared.fault.ProblemFault.{ProblemFault}
use Rattle.tstp_trace.specs.declared.fault.ProblemFault.TheVariants.{Outside, BadRole, FreeVariable, DuplicateName, TwoConjectures, Memory}
use Rattle.tstp_trace.proofs.TraceLaws.{front_grows, or_none, where_none}

-- ---- an item without a fault

-- its role is known, its name is new, and it is no second conjecture
pub record Sound (names : List (List ℕ)) (conjectured : Bool) (item : Item) : Type 0 where
  pub role : (is_hypothesis item || is_conjecture item) ≡ true
  pub fresh : is_among names item.name ≡ false
  pub single : (is_conjecture item && conjectured) ≡ false

not_false : (b : Bool) → not b ≡ false → b ≡ true
not_false true e = refl
not_false false e = absurd cc

pub sound_item : (names : List (List ℕ)) (conjectured : Bool) (number : ℕ) (item : Item) → fault_by names conjectured number item ≡ None → Sound names conjectured item
sound_item names conjectured number item e =
    let a = or_none (outside_fault number item.body) _ e in
    let b = or_none (fault_where (not (is_hypothesis item || is_conjecture item)) (BadRole number)) _ a.1 in
    let c = or_none (free_fault number item.free) _ b.1 in
    let d = or_none (fault_where (is_among names item.name) (DuplicateName number)) _ c.1 in
    record {
      role = not_false (is_hypothesis item || is_conjecture item) (where_none (not (is_hypothesis item || is_conjecture item)) (BadRole number) b.0);
      fresh = where_none (is_among names item.name) (DuplicateName number) d.0;
      single = where_none (is_conjecture item && conjectured) (TwoConjectures number) d.1;
    }

or_false : (b : Bool) → (b || false) ≡ true → b ≡ true
or_false true e = refl
or_false false e = absurd cc

-- a conjecture is no hypothesis
pub no_hypothesis : (item : Item) → is_conjecture item ≡ true → is_hypothesis item ≡ false
no_hypothesis item e =
    let role : item.role ≡ codes "conjecture" = (bytes_decides item.role (codes "conjecture")).0 (or_false (pointwise nat_eq item.role (codes "conjecture")) e) in
    subst (λ r. is_among hypothesis_roles r ≡ false) (sym role) refl

other_role : (h c : Bool) → (h || c) ≡ true → c ≡ false → h ≡ true
other_role true c e n = refl
other_role false c e n = absurd cc

pub some_hypothesis : (item : Item) → (is_hypothesis item || is_conjecture item) ≡ true → is_conjecture item ≡ false → is_hypothesis item ≡ true
some_hypothesis item e n = other_role (is_hypothesis item) (is_conjecture item) e n

-- ---- filters

-- where nothing is kept no item passes, and where one is kept one does
none_kept : {X : Type 0} (p : X → Bool) (xs : List X) → length (filter p xs) ≡ 0 → list_any p xs ≡ false
none_kept p [] e = refl
none_kept p (x ∷ xs) e = by_test (none_kept p xs) (p x) e
  where
    by_test : (length (filter p xs) ≡ 0 → list_any p xs ≡ false) → (b : Bool) → length (if b then x ∷ filter p xs else filter p xs) ≡ 0 → (b || list_any p xs) ≡ false
    by_test later true n = absurd (omega arith)
    by_test later false n = later n

some_kept : {X : Type 0} (p : X → Bool) (xs : List X) (n : ℕ) → length (filter p xs) ≡ suc n → list_any p xs ≡ true
some_kept p [] n e = absurd (omega arith)
some_kept p (x ∷ xs) n e = by_test (some_kept p xs n) (p x) e
  where
    by_test : (length (filter p xs) ≡ suc n → list_any p xs ≡ true) → (b : Bool) → length (if b then x ∷ filter p xs else filter p xs) ≡ suc n → (b || list_any p xs) ≡ true
    by_test later true m = refl
    by_test later false m = later m

-- whether there is a conjecture
pub conjectured_so_far : (conjecture : Option Named) (items : List Item) → map part_of_named (option_to_list conjecture) ≡ map part_of_item (filter is_conjecture items) → is_some conjecture ≡ list_any is_conjecture items
conjectured_so_far None items e =
    sym (none_kept is_conjecture items (sym (length-map (filter is_conjecture items) part_of_item) ∙ ap length (sym e)))
conjectured_so_far (Some named) items e =
    sym (some_kept is_conjecture items 0 (sym (length-map (filter is_conjecture items) part_of_item) ∙ ap length (sym e)))

-- what is kept of the front and of the next item
kept_grows : (p : Item → Bool) (items : List Item) (place : ℕ) (item : Item) → place < length items → item ≡ get_or items place item → map part_of_item (filter p (take (place + 1) items)) ≡ map part_of_item (filter p (take place items)) ++ map part_of_item (filter p (item ∷ []))
kept_grows p items place item below is =
    ap (λ l. map part_of_item (filter p l)) (front_grows items place item below is) ∙ (ap (map part_of_item) (filter-append p (take place items) (item ∷ [])) ∙ map-append part_of_item (filter p (take place items)) (filter p (item ∷ [])))

pub kept_more : (p : Item → Bool) (items : List Item) (place : ℕ) (item : Item) (hyps after : List Named) (named : Named) → place < length items → item ≡ get_or items place item → p item ≡ true
    → map part_of_named hyps ≡ map part_of_item (filter p (take place items)) → part_of_named named ≡ part_of_item item → after ≡ hyps ++ named ∷ [] → map part_of_named after ≡ map part_of_item (filter p (take (place + 1) items))
kept_more p items place item hyps after named below is passes all same now =
    let one : map part_of_item (filter p (item ∷ [])) ≡ part_of_item item ∷ [] = rw passes refl in
    ap (map part_of_named) now ∙ (map-append part_of_named hyps (named ∷ []) ∙ (ap (λ l. l ++ part_of_named named ∷ []) all ∙ (ap (λ q. map part_of_item (filter p (take place items)) ++ q ∷ []) same
    ∙ (ap (λ l. map part_of_item (filter p (take place items)) ++ l) (sym one) ∙ sym (kept_grows p items place item below is)))))

pub kept_same : (p : Item → Bool) (items : List Item) (place : ℕ) (item : Item) (hyps : List Named) → place < length items → item ≡ get_or items place item → p item ≡ false
    → map part_of_named hyps ≡ map part_of_item (filter p (take place items)) → map part_of_named hyps ≡ map part_of_item (filter p (take (place + 1) items))
kept_same p items place item hyps below is fails all =
    let none : map part_of_item (filter p (item ∷ [])) ≡ [] = rw fails refl in
    all ∙ (sym (append-nil (map part_of_item (filter p (take place items)))) ∙ (ap (λ l. map part_of_item (filter p (take place items)) ++ l) (sym none) ∙ sym (kept_grows p items place item below is)))

-- the first conjecture
pub conjecture_now : (items : List Item) (place : ℕ) (item : Item) (conjecture : Option Named) (conjectured : Bool) (named : Named) → place < length items → item ≡ get_or items place item → is_conjecture item ≡ true
    → (is_conjecture item && conjectured) ≡ false → conjectured ≡ is_some conjecture → map part_of_named (option_to_list conjecture) ≡ map part_of_item (filter is_conjecture (take place items)) → part_of_named named ≡ part_of_item item
    → map part_of_named (option_to_list (Some named)) ≡ map part_of_item (filter is_conjecture (take (place + 1) items))
conjecture_now items place item None conjectured named below is passes single told all same = kept_more is_conjecture items place item [] (named ∷ []) named below is passes all same refl
conjecture_now items place item (Some other) conjectured named below is passes single told all same =
    let a = subst (λ b. (b && conjectured) ≡ false) passes single in absurd cc

-- ---- the loop over the items

pub item_judged : (items : List Item) (place number : ℕ) (names : List (List ℕ)) (conjectured : Bool) (item : Item) → names ≡ map (λ (one : Item). one.name) (take place items) → conjectured ≡ list_any is_conjecture (take place items) → number ≡ place + 1 → place < length items
    → fault_by names conjectured number item ≡ item_fault (take place items) item
item_judged items place number names conjectured item all told is below =
    let long : number ≡ length (take place items) + 1 = omega (arith, length-take place items) in
    rw (all, told, long) refl

-- the fault of the first item that has one
pub first_item_fault : (items : List Item) (place number : ℕ) (names : List (List ℕ)) (conjectured : Bool) (item : Item) (fault : ProblemFault) → fault_by names conjectured number item ≡ item_fault (take place items) item
    → slice_get items place ≡ Some item → AreSoundBefore item_fault items place → IsNamedAnswer names conjectured number item (Err fault) → IsProblemAnswer items (Err fault)
first_item_fault items place number names conjectured item (Outside n kind) judged here sound h = (place, sound, (item, here, sym judged ∙ h))
first_item_fault items place number names conjectured item (BadRole n) judged here sound h = (place, sound, (item, here, sym judged ∙ h))
first_item_fault items place number names conjectured item (FreeVariable n variable) judged here sound h = (place, sound, (item, here, sym judged ∙ h))
first_item_fault items place number names conjectured item (DuplicateName n) judged here sound h = (place, sound, (item, here, sym judged ∙ h))
first_item_fault items place number names conjectured item (TwoConjectures n) judged here sound h = (place, sound, (item, here, sym judged ∙ h))
first_item_fault items place number names conjectured item Memory judged here sound h = tt

-- ---- what is kept of an item

pub hypotheses_now : (items : List Item) (place : ℕ) (item : Item) (conjectured : Bool) (hyps after : List Named) (named : Named) → place < length items → item ≡ get_or items place item → conjectured ≡ is_conjecture item
    → (is_hypothesis item || is_conjecture item) ≡ true → map part_of_named hyps ≡ map part_of_item (filter is_hypothesis (take place items)) → part_of_named named ≡ part_of_item item
    → after ≡ (if conjectured then hyps else hyps ++ named ∷ []) → map part_of_named after ≡ map part_of_item (filter is_hypothesis (take (place + 1) items))
hypotheses_now items place item true hyps after named below is told role all same now =
    rw now (kept_same is_hypothesis items place item hyps below is (no_hypothesis item (sym told)) all)
hypotheses_now items place item false hyps after named below is told role all same now =
    kept_more is_hypothesis items place item hyps after named below is (some_hypothesis item role (sym told)) all same now

pub conjectures_now : (items : List Item) (place : ℕ) (item : Item) (conjectured before : Bool) (conjecture after : Option Named) (named : Named) → place < length items → item ≡ get_or items place item → conjectured ≡ is_conjecture item
    → (is_conjecture item && before) ≡ false → before ≡ is_some conjecture → map part_of_named (option_to_list conjecture) ≡ map part_of_item (filter is_conjecture (take place items)) → part_of_named named ≡ part_of_item item
    → after ≡ (if conjectured then Some named else conjecture) → map part_of_named (option_to_list after) ≡ map part_of_item (filter is_conjecture (take (place + 1) items))
conjectures_now items place item true before conjecture after named below is told single known all same now =
    rw now (conjecture_now items place item conjecture before named below is (sym told) single known all same)
conjectures_now items place item false before conjecture after named below is told single known all same now =
    rw now (kept_same is_conjecture items place item (option_to_list conjecture) below is (sym told) all)

-- ---- symbols

joined_append : (xs ys : List (List SymKey)) → joined (xs ++ ys) ≡ joined xs ++ joined ys
joined_append [] ys = refl
joined_append (x ∷ xs) ys = ap (λ l. x ++ l) (joined_append xs ys) ∙ sym (append_assoc x (joined xs) (joined ys))

-- the symbols of some formulas, and then of others
pub symbols_of_both : (xs ys : List Formula) (seen all : List SymKey) → seen ≡ with_symbols [] (joined (map formula_occurrences xs)) → all ≡ with_symbols seen (joined (map formula_occurrences ys)) → all ≡ symbols_of_formulas (xs ++ ys)
symbols_of_both xs ys seen all first second =
    second ∙ (ap (λ l. with_symbols l (joined (map formula_occurrences ys))) first ∙ (sym (with_symbols-append [] (joined (map formula_occurrences xs)) (joined (map formula_occurrences ys)))
    ∙ ap (with_symbols []) (sym (joined_append (map formula_occurrences xs) (map formula_occurrences ys)) ∙ ap joined (sym (map-append formula_occurrences xs ys)))))
