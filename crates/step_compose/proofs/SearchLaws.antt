-- The search among the maps, one existential after the other.
use Rattle.std.proofs.Common.{append_assoc, ◌≡◌, ◌<◌, ◌≤◌, ℕ, zero, suc, ◌+◌, Bool, true, false, not, nat_eq, ◌||◌, List, [], ◌∷◌, ◌++◌, get_or, length, length-append, Option, Some, None, refl, sym, subst, ap, ◌∙◌, arith, eq-eqb, inl, inr}
use Rattle.std.specs.List.{All}
use Rattle.std.proofs.lemmas.Bool.{and_from, and_parts, cases_order, eqb-true, or_left, or_right}
use Rattle.std.proofs.lemmas.List.{append-nil, get_or_append_left, get_or-map, length-map}
use Rattle.dk_syntax.specs.declared.Kind.TheVariants.{Function}
use Rattle.dk_syntax.specs.declared.SymKey.{SymKey}
use Rattle.normal_form.specs.ClauseLists.{clause_rows, has_number}
use Rattle.normal_form.specs.Forms.{exs, form_of}
use Rattle.normal_form.specs.declared.clause_list.ClauseList.{ClauseList}
use Rattle.normal_form.specs.declared.clause_list.ClauseRow.{ClauseRow}
use Rattle.normal_form.specs.declared.form.Nf.{Nf}
use Rattle.step_clause.specs.Candidates.{IsListBefore}
use Rattle.step_compose.proofs.Justified.{not_justified}
use Rattle.step_compose.proofs.MapLaws.{arguments_count, entries_at, entries_count, full_entries_are}
use Rattle.step_compose.proofs.OneComposed.{list_of}
use Rattle.step_compose.proofs.RelaxedFull.{relaxed_is_full}
use Rattle.step_compose.specs.Arguments.{arguments_of, entries_from}
use Rattle.step_compose.specs.Composing.{AreJustified, Composes, HasItsArity, IsComposedAnswer, symbol_by, symbol_in, symbols_at}
use Rattle.step_compose.specs.FullImages.{full_image, full_map, nameless}
use Rattle.step_compose.specs.Relaxing.{relaxed}
use Rattle.step_compose.specs.Searching.{CanFollow, Fits, HasUnjustified, HaveArities, IsAnswerAfter, IsLeastAfter, NoneAfter}
use Rattle.step_compose.specs.declared.composed.Composed.{Composed}
use Rattle.step_skolem.specs.Images.{are_distinct, entry}
use Rattle.step_skolem.specs.declared.map.SkEntry.{SkEntry}

-- ---- places, each another

not_by : (b : Bool) → b ≡ false → not b ≡ true
not_by b h = cc

not_true : (b : Bool) → not b ≡ true → b ≡ false
not_true true h = cc
not_true false h = refl

false_or : (a b : Bool) → a || b ≡ false → (a ≡ false) × (b ≡ false)
false_or true b h = cc
false_or false b h = (refl, h)

neither : (a b : Bool) → a ≡ false → b ≡ false → a || b ≡ false
neither true b h k = cc
neither false b h k = k

other_way : (a b : ℕ) → nat_eq a b ≡ false → nat_eq b a ≡ false
other_way a b h = by_test (nat_eq b a) refl
  where
    by_test : (t : Bool) → nat_eq b a ≡ t → nat_eq b a ≡ false
    by_test false e = e
    by_test true e = let same : nat_eq a b ≡ true = eq-eqb a b (sym (eqb-true b a e)) in cc

has_end : (ns : List ℕ) (p k : ℕ) → has_number ns k ≡ false → nat_eq p k ≡ false → has_number (ns ++ p ∷ []) k ≡ false
has_end [] p k h e = neither (nat_eq p k) false e refl
has_end (n ∷ ns) p k h e = let parts = false_or (nat_eq n k) (has_number ns k) h in neither (nat_eq n k) (has_number (ns ++ p ∷ []) k) parts.0 (has_end ns p k parts.1 e)

distinct_more : (ns : List ℕ) (p : ℕ) → are_distinct ns ≡ true → has_number ns p ≡ false → are_distinct (ns ++ p ∷ []) ≡ true
distinct_more [] p h k = refl
distinct_more (n ∷ ns) p h k =
    let parts = and_parts (not (has_number ns n)) (are_distinct ns) h in
    let no = false_or (nat_eq n p) (has_number ns p) k in
    and_from (not (has_number (ns ++ p ∷ []) n)) (are_distinct (ns ++ p ∷ []))
    (not_by (has_number (ns ++ p ∷ []) n) (has_end ns p n (not_true (has_number ns n) parts.0) (other_way n p no.0)))
    (distinct_more ns p parts.1 no.1)

has_here : (ns : List ℕ) (p : ℕ) (rest : List ℕ) → has_number (ns ++ p ∷ rest) p ≡ true
has_here [] p rest = or_left (nat_eq p p) (has_number rest p) (eq-eqb p p refl)
has_here (n ∷ ns) p rest = or_right (nat_eq n p) (has_number (ns ++ p ∷ rest) p) (has_here ns p rest)

-- a place that comes after others isn't one of them
not_before : (ns : List ℕ) (p : ℕ) (rest : List ℕ) → are_distinct (ns ++ p ∷ rest) ≡ true → has_number ns p ≡ false
not_before [] p rest h = refl
not_before (n ∷ ns) p rest h =
    let parts = and_parts (not (has_number (ns ++ p ∷ rest) n)) (are_distinct (ns ++ p ∷ rest)) h in
    let here = not_true (has_number (ns ++ p ∷ rest) n) parts.0 in
    neither (nat_eq n p) (has_number ns p) (by_test (nat_eq n p) refl) (not_before ns p rest parts.1)
  where
    by_test : (t : Bool) → nat_eq n p ≡ t → nat_eq n p ≡ false
    by_test false e = e
    by_test true e =
        let same : n ≡ p = eqb-true n p e in
        let parts = and_parts (not (has_number (ns ++ p ∷ rest) n)) (are_distinct (ns ++ p ∷ rest)) h in
        let here = not_true (has_number (ns ++ p ∷ rest) n) parts.0 in
        let there = subst (λ x. has_number (ns ++ p ∷ rest) x ≡ true) (sym same) (has_here ns p rest) in
        cc

-- ---- arities

at_end : (ns : List ℕ) (p : ℕ) (rest : List ℕ) (d : ℕ) → get_or (ns ++ p ∷ rest) (length ns) d ≡ p
at_end [] p rest d = refl
at_end (n ∷ ns) p rest d = at_end ns p rest d

symbol_at_place : (aliens : List SymKey) (places : List ℕ) (k : ℕ) → k < length places → symbol_by aliens places k ≡ symbol_in aliens (get_or places k 0)
symbol_at_place aliens places k less = get_or-map (λ place. get_or aliens place nameless) places k 0 nameless less

map_is_by : (aliens : List SymKey) (places : List ℕ) (n : Nf) → full_map (symbol_by aliens places) n ≡ entries_from (symbol_by aliens places) 0 (arguments_of n)
map_is_by aliens places n = full_entries_are (symbol_by aliens places) [] 0 0 (form_of n)

arguments_are : (n : Nf) → length (arguments_of n) ≡ exs (form_of n)
arguments_are n = arguments_count [] 0 (form_of n)

no_entry : SkEntry
no_entry = entry 0 nameless []

-- the arity of the symbol of an existential
entry_arity : (aliens : List SymKey) (places : List ℕ) (lists : List (List ℕ)) (k : ℕ) → k < length lists → k < length places
    → All HasItsArity (entries_from (symbol_by aliens places) 0 lists) → (symbol_in aliens (get_or places k 0)).arity ≡ length (get_or lists k [])
entry_arity aliens places lists k less within h =
    let at = entries_at (symbol_by aliens places) 0 lists k no_entry [] less in
    let j : k + 0 ≡ k = omega arith in
    let here = h k no_entry (subst (λ n. k < n) (sym (entries_count (symbol_by aliens places) 0 lists)) less) in
    let moved = subst HasItsArity at here in
    ap (λ (x : SymKey). x.arity) (sym (symbol_at_place aliens places k within)) ∙ ap (λ i. (symbol_by aliens places i).arity) (sym j) ∙ moved

-- ---- one existential more

all_more : (P : ℕ → Type 0) (ns : List ℕ) (n : ℕ) → All P ns → P n → All P (ns ++ n ∷ [])
all_more P [] n h here zero d less = here
all_more P [] n h here (suc k) d less = absurd (omega arith)
all_more P (m ∷ ns) n h here zero d less = h 0 d (omega arith)
all_more P (m ∷ ns) n h here (suc k) d less = all_more P ns n (λ i e within. h (suc i) e (omega arith)) here k d (omega arith)

arities_more : (aliens : List SymKey) (arguments : List (List ℕ)) (places : List ℕ) (place : ℕ) → HaveArities aliens arguments places
    → (symbol_in aliens place).arity ≡ length (get_or arguments (length places) []) → HaveArities aliens arguments (places ++ place ∷ [])
arities_more aliens arguments places place h arity k less = elim (cases_order k (length places)) [
  | inl same ↦
      ap (λ i. (symbol_in aliens (get_or (places ++ place ∷ []) i 0)).arity) same ∙ ap (λ p. (symbol_in aliens p).arity) (at_end places place [] 0)
      ∙ arity ∙ ap (λ i. length (get_or arguments i [])) (sym same)
  | inr other ↦ elim other [
    | inl before ↦ ap (λ p. (symbol_in aliens p).arity) (get_or_append_left places (place ∷ []) 0 k before) ∙ h k before
    | inr after ↦ (let e = length-append places (place ∷ []) in absurd (omega arith))
  ]
]

-- a symbol that can follow is one more
pub fits_more : (aliens : List SymKey) (arguments : List (List ℕ)) (places : List ℕ) (place : ℕ) → Fits aliens arguments places → length places < length arguments
    → place < length aliens → CanFollow aliens arguments places place → Fits aliens arguments (places ++ place ∷ [])
fits_more aliens arguments places place fits next less (new, arity) = record {
  short = let e = length-append places (place ∷ []) in omega arith;
  within = all_more (λ p. p < length aliens) places place fits.within less;
  once = distinct_more places place fits.once new;
  arities = arities_more aliens arguments places place fits.arities arity;
}

-- with a symbol that can't follow no map composes
none_after : (n : Nf) (aliens : List SymKey) (targets : List ClauseRow) (places : List ℕ) (place : ℕ) → (CanFollow aliens (arguments_of n) places place → ⊥)
    → NoneAfter n aliens targets (places ++ place ∷ [])
none_after n aliens targets places place cannot rest composed h =
    let ps : List ℕ = places ++ place ∷ rest in
    let same : (places ++ place ∷ []) ++ rest ≡ places ++ place ∷ rest = append_assoc places (place ∷ []) rest in
    let it : Composes n aliens targets (places ++ place ∷ rest) composed = subst (λ x. Composes n aliens targets x composed) same h in
    let sum = length-append places (place ∷ rest) in
    let each = it.each in
    let lists = arguments_are n in
    let all : All HasItsArity (entries_from (symbol_by aliens (places ++ place ∷ rest)) 0 (arguments_of n)) =
    subst (λ x. All HasItsArity x) (it.map_is ∙ map_is_by aliens (places ++ place ∷ rest) n) it.arities in
    let arity = entry_arity aliens (places ++ place ∷ rest) (arguments_of n) (length places) (omega arith) (omega arith) all in
    cannot (not_before places place rest it.once, ap (λ p. (symbol_in aliens p).arity) (sym (at_end places place rest 0)) ∙ arity)

pub none_follows : (n : Nf) (aliens : List SymKey) (targets : List ClauseRow) (arguments : List (List ℕ)) (places : List ℕ) (place : ℕ) → arguments ≡ arguments_of n
    → (CanFollow aliens arguments places place → ⊥) → NoneAfter n aliens targets (places ++ place ∷ [])
none_follows n aliens targets arguments places place is cannot = none_after n aliens targets places place (subst (λ x. CanFollow aliens x places place → ⊥) is cannot)

-- ---- each place in turn

-- no map composes with one of the first places for the next existential
abbrev pub NoneBelow : Nf → List SymKey → List ClauseRow → List ℕ → ℕ → Type 0
NoneBelow n aliens targets places place = (p : ℕ) → p < place → NoneAfter n aliens targets (places ++ p ∷ [])

-- none composes where none does with any place
none_at_all : (n : Nf) (aliens : List SymKey) (targets : List ClauseRow) (places : List ℕ) (k : ℕ) → length places ≤ length (arguments_of n)
    → (length places ≡ length (arguments_of n) → ⊥) → length aliens ≤ k → NoneBelow n aliens targets places k → NoneAfter n aliens targets places
none_at_all n aliens targets places k short more all h [] composed it =
    let e : length (places ++ []) ≡ exs (form_of n) = it.each in
    let same = ap length (append-nil places) in
    let lists = arguments_are n in
    more (omega arith)
none_at_all n aliens targets places k short more all h (p ∷ rest) composed it =
    let within : p < length aliens = subst (λ x. x < length aliens) (at_end places p rest 0) (it.within (length places) 0 (let e = length-append places (p ∷ rest) in omega arith)) in
    h p (omega arith) rest composed (subst (λ x. Composes n aliens targets x composed) (sym (append_assoc places (p ∷ []) rest)) it)

pub none_among : (n : Nf) (aliens : List SymKey) (targets : List ClauseRow) (arguments : List (List ℕ)) (places : List ℕ) (k : ℕ) → arguments ≡ arguments_of n
    → length places ≤ length arguments → (length places ≡ length arguments → ⊥) → length aliens ≤ k → NoneBelow n aliens targets places k → NoneAfter n aliens targets places
none_among n aliens targets arguments places k is short more all h =
    none_at_all n aliens targets places k (subst (λ (x : List (List ℕ)). length places ≤ length x) is short) (subst (λ (x : List (List ℕ)). length places ≡ length x → ⊥) is more) all h

-- the first found is the least
pub first_found : (n : Nf) (aliens : List SymKey) (targets : List ClauseRow) (places : List ℕ) (k place : ℕ) (found : Option Composed) (composed : Composed) → place ≡ k
    → NoneBelow n aliens targets places k → IsAnswerAfter n aliens targets (places ++ place ∷ []) found → found ≡ Some composed → IsLeastAfter n aliens targets places composed
first_found n aliens targets places k place found composed same h answer is =
    let it : IsLeastAfter n aliens targets (places ++ place ∷ []) composed = subst (IsAnswerAfter n aliens targets (places ++ place ∷ [])) is answer in
    (place ∷ it.0, subst (λ x. Composes n aliens targets x composed) (append_assoc places (place ∷ []) it.0) it.1, least it.0 it.2)
  where
    least : (rest : List ℕ) → ((other : List ℕ) (that : Composed) → Composes n aliens targets ((places ++ place ∷ []) ++ other) that → IsListBefore other rest → ⊥)
        → (other : List ℕ) (that : Composed) → Composes n aliens targets (places ++ other) that → IsListBefore other (place ∷ rest) → ⊥
    least rest none [] that c before = before
    least rest none (p ∷ others) that c before = elim before [
      | inl less ↦ h p (subst (λ x. p < x) same less) others that (subst (λ x. Composes n aliens targets x that) (sym (append_assoc places (p ∷ []) others)) c)
      | inr (e, rest_before) ↦ none others that (subst (λ x. Composes n aliens targets x that) (sym (append_assoc places (place ∷ []) others)) (subst (λ x. Composes n aliens targets (places ++ x ∷ others) that) e c)) rest_before
    ]

-- ---- a place for each

no_rest : (n : Nf) (aliens : List SymKey) (targets : List ClauseRow) (places rest : List ℕ) (composed : Composed) → length places ≡ length (arguments_of n)
    → Composes n aliens targets (places ++ rest) composed → rest ≡ []
no_rest n aliens targets places [] composed all it = refl
no_rest n aliens targets places (p ∷ rest) composed all it =
    let each = it.each in
    let sum = length-append places (p ∷ rest) in
    let lists = arguments_are n in
    absurd (omega arith)

image_is : (n : Nf) (aliens : List SymKey) (places : List ℕ) (symbols : List SymKey) → length places ≡ length (arguments_of n) → symbols ≡ symbols_at aliens places
    → relaxed symbols n ≡ full_image (symbol_by aliens places) n
image_is n aliens places symbols all same =
    let size : length (symbols_at aliens places) ≡ length places = length-map places (λ place. get_or aliens place nameless) in
    let lists = arguments_are n in
    ap (λ x. relaxed x n) same ∙ relaxed_is_full (symbols_at aliens places) n (omega arith)

-- none composes where a target has no justification
pub none_here : (n : Nf) (aliens : List SymKey) (targets : List ClauseRow) (places : List ℕ) (symbols : List SymKey) (image : ClauseList)
    → length places ≡ length (arguments_of n) → symbols ≡ symbols_at aliens places → image.rows ≡ clause_rows (relaxed symbols n)
    → HasUnjustified targets (image ∷ []) → NoneAfter n aliens targets places
none_here n aliens targets places symbols image all same rows not rest composed it =
    let here : Composes n aliens targets places composed =
    subst (λ x. Composes n aliens targets x composed) (ap (λ x. places ++ x) (no_rest n aliens targets places rest composed all it) ∙ append-nil places) it in
    let list : composed.image ≡ image = one_list composed.image image (here.image ∙ sym (rows ∙ ap clause_rows (image_is n aliens places symbols all same))) in
    not_justified targets (image ∷ []) composed.steps not (subst (λ x. AreJustified targets (x ∷ []) composed.steps) list here.steps)
  where
    one_list : (a b : ClauseList) → a.rows ≡ b.rows → a ≡ b
    one_list a b e = ap list_of e

-- ---- a map for all

all_arities : (aliens : List SymKey) (lists : List (List ℕ)) (places : List ℕ) → length places ≡ length lists → HaveArities aliens lists places
    → All HasItsArity (entries_from (symbol_by aliens places) 0 lists)
all_arities aliens lists places all h k d less =
    let within : k < length lists = subst (λ n. k < n) (entries_count (symbol_by aliens places) 0 lists) less in
    let at = entries_at (symbol_by aliens places) 0 lists k d [] within in
    let j : k + 0 ≡ k = omega arith in
    subst HasItsArity (sym at)
    (ap (λ i. (symbol_by aliens places i).arity) j ∙ ap (λ (x : SymKey). x.arity) (symbol_at_place aliens places k (omega arith)) ∙ h k (omega arith))

-- the value that is made composes, and no other of these places comes before
made_here : (n : Nf) (aliens : List SymKey) (targets : List ClauseRow) (places : List ℕ) (symbols : List SymKey) (composed : Composed)
    → All (λ symbol. symbol.kind ≡ Function) aliens → length aliens ≡ length (arguments_of n) → Fits aliens (arguments_of n) places
    → length places ≡ length (arguments_of n) → symbols ≡ symbols_at aliens places → composed.map.entries ≡ entries_from (symbol_in symbols) 0 (arguments_of n)
    → composed.image.rows ≡ clause_rows (relaxed symbols n) → AreJustified targets (composed.image ∷ []) composed.steps → IsLeastAfter n aliens targets places composed
made_here n aliens targets places symbols composed functions exactly fits all same map rows steps =
    ([], subst (λ x. Composes n aliens targets x composed) (sym (append-nil places)) here, λ other that it before. nothing_before other that it before)
  where
    entries : composed.map.entries ≡ entries_from (symbol_by aliens places) 0 (arguments_of n)
    entries = map ∙ ap (λ x. entries_from (symbol_in x) 0 (arguments_of n)) same

    here : Composes n aliens targets places composed
    here = record {
      functions = functions;
      exactly = exactly ∙ arguments_are n;
      each = all ∙ arguments_are n;
      within = fits.within;
      once = fits.once;
      map_is = entries ∙ sym (map_is_by aliens places n);
      arities = subst (λ x. All HasItsArity x) (sym entries) (all_arities aliens (arguments_of n) places all fits.arities);
      image = rows ∙ ap clause_rows (image_is n aliens places symbols all same);
      steps = steps;
    }

    nothing_before : (other : List ℕ) (that : Composed) → Composes n aliens targets (places ++ other) that → IsListBefore other [] → ⊥
    nothing_before [] that it before = before
    nothing_before (p ∷ others) that it before = before

pub made_by : (n : Nf) (aliens : List SymKey) (targets : List ClauseRow) (arguments : List (List ℕ)) (places : List ℕ) (symbols : List SymKey) (composed : Composed)
    → All (λ symbol. symbol.kind ≡ Function) aliens → arguments ≡ arguments_of n → length aliens ≡ length arguments → Fits aliens arguments places
    → length places ≡ length arguments → symbols ≡ symbols_at aliens places → composed.map.entries ≡ entries_from (symbol_in symbols) 0 arguments
    → composed.image.rows ≡ clause_rows (relaxed symbols n) → AreJustified targets (composed.image ∷ []) composed.steps → IsLeastAfter n aliens targets places composed
made_by n aliens targets arguments places symbols composed functions is exactly fits all same map rows steps =
    made_here n aliens targets places symbols composed functions (exactly ∙ ap length is) (subst (λ x. Fits aliens x places) is fits) (all ∙ ap length is) same
    (map ∙ ap (entries_from (symbol_in symbols) 0) is) rows steps

-- ---- from the start

pub from_start : (n : Nf) (given aliens : List SymKey) (targets : List ClauseRow) (places : List ℕ) (answer : Option Composed) → given ≡ aliens → places ≡ []
    → IsAnswerAfter n given targets places answer → IsComposedAnswer n aliens targets answer
from_start n given aliens targets places answer same e h =
    at_once answer (subst (λ x. IsAnswerAfter n x targets [] answer) same (subst (λ x. IsAnswerAfter n given targets x answer) e h))
  where
    at_once : (answer : Option Composed) → IsAnswerAfter n aliens targets [] answer → IsComposedAnswer n aliens targets answer
    at_once None h = h
    at_once (Some composed) h = h

pub too_many : (n : Nf) (aliens : List SymKey) (targets : List ClauseRow) → (length aliens ≡ length (arguments_of n) → ⊥) → IsComposedAnswer n aliens targets None
too_many n aliens targets differ places composed h = differ (h.exactly ∙ sym (arguments_are n))
