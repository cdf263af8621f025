-- Laws of the entries of a table of terms.
use Rattle.std.proofs.Common.{◌≡◌, ◌<◌, ◌≤◌, ◌+◌, ℕ, zero, suc, Bool, true, false, ◌&&◌, cond, List, [], ◌∷◌, ◌++◌, map, get_or, length, length-append, sum, slice_get, Option, Some, None, is_some, arith, refl, sym, ap, ap₂, subst, ◌∙◌, inl, inr}
use Rattle.std.specs.List.{All, position, sum_by}
use Rattle.std.specs.Map.{keys_of, lookup, values_of}
use Rattle.std.proofs.lemmas.List.{get_or_append_left, get_or-append-add, get_or-map, length-map, map-append}
use Rattle.std.proofs.lemmas.List.Quantifiers.{position-Some}
use Rattle.std.proofs.lemmas.List.Sums.{sum_by-cons}
use Rattle.std.proofs.lemmas.Option.{get_or_from_slice_get, slice_get_within}
use Rattle.dk_syntax.proofs.TermLaws.{App-injective, App-not-Any}
use Rattle.dk_syntax.proofs.WellFormedLaws.{closed-Any, closed-App}
use Rattle.dk_syntax.specs.WellFormed.{all_true, term_closed_under}
use Rattle.dk_syntax.proofs.ListLaws.{or_equal}
use Rattle.dk_syntax.proofs.ShapeLaws.{AreBelow, distinct_more, length-terms_of, stands_nowhere, term_of-shapes, terms_of-append, wider}
use Rattle.dk_syntax.proofs.SubstitutionLaws.{term_size-Any, term_size-App}
use Rattle.dk_syntax.specs.Depth.{capped}
use Rattle.dk_syntax.specs.Shapes.{AreKept, IsEntered, numbers_of, shaped, terms_of}
use Rattle.dk_syntax.specs.TermTables.{IsDistinct, IsNumbered, IsTermTable, term_of}
use Rattle.dk_syntax.specs.Terms.{term_size}
use Rattle.dk_syntax.specs.declared.symbol.SymKey.{SymKey}
use Rattle.dk_syntax.specs.declared.term.Term.{Term}
use Rattle.dk_syntax.specs.declared.term.Term.TheVariants as term
use Rattle.dk_syntax.specs.declared.term_table.Shape.{Shape}
use Rattle.dk_syntax.specs.declared.term_table.Shape.TheVariants.{Any, App}

-- ---- looked up

pub found_entered : (test : Shape → Bool) (es : List (Shape × ℕ)) (shape : Shape) (size place : ℕ) → ((b : Shape) → test b ≡ true → b ≡ shape) → position test (keys_of es) ≡ Some place → IsEntered es shape size es place
found_entered test es shape size place means e =
    let h = position-Some test (keys_of es) place Any e in
    let many = length-map es (λ (e : Shape × ℕ). e.0) in
    let within = h.0 in
    inl (refl, omega arith, means (get_or (keys_of es) place Any) h.1)

pub absent_lookup : (o p : Option ℕ) → ((x : ℕ) → o ≡ Some x → ⊥) → is_some o ≡ is_some p → p ≡ None
absent_lookup None None none e = refl
absent_lookup None (Some y) none e = absurd (cc)
absent_lookup (Some x) p none e = absurd (none x refl)

unlisted : (test : Shape → Bool) (es : List (Shape × ℕ)) → lookup test es ≡ None → (k : ℕ) → k < length es → test (get_or (keys_of es) k Any) ≡ true → ⊥
unlisted test [] none k l h = omega arith
unlisted test (e ∷ es) none zero l h = let found = ap (λ b. cond b (Some e.1) (lookup test es)) h in cc
unlisted test (e ∷ es) none (suc k) l h = later (test e.0) refl (λ n. unlisted test es n k (omega arith) h)
  where
    later : (b : Bool) → test e.0 ≡ b → (lookup test es ≡ None → ⊥) → ⊥
    later true is more = let found = ap (λ b. cond b (Some e.1) (lookup test es)) is in cc
    later false is more = more (sym (ap (λ b. cond b (Some e.1) (lookup test es)) is) ∙ none)

pub absent_entered : (test : Shape → Bool) (es new : List (Shape × ℕ)) (shape : Shape) (size place : ℕ) → ((b : Shape) → b ≡ shape → test b ≡ true) → lookup test es ≡ None
    → new ≡ es ++ (shape, size) ∷ [] → place ≡ length es → IsEntered es shape size new place
absent_entered test es new shape size place means none is at = inr (λ k l e. unlisted test es none k l (means (get_or (keys_of es) k Any) e), is, at)

-- ---- one more entry

read_old : {A : Type 0} (xs : List A) (x d : A) (k : ℕ) → k < length xs → get_or (xs ++ x ∷ []) k d ≡ get_or xs k d
read_old xs x d k l = get_or_append_left xs (x ∷ []) d k l

read_new : {A : Type 0} (xs : List A) (x d : A) → get_or (xs ++ x ∷ []) (length xs) d ≡ x
read_new xs x d = subst (λ n. get_or (xs ++ x ∷ []) n d ≡ x) (let e : length xs + 0 ≡ length xs = omega arith in e) (get_or-append-add xs (x ∷ []) 0 d)

pub kept_append : (shapes : List Shape) (sizes : List ℕ) (shape : Shape) (size : ℕ) → AreKept shapes sizes → AreBelow (length shapes) (numbers_of shape)
    → ((k : ℕ) → k < length shapes → ¬ get_or shapes k Any ≡ shape) → size ≡ capped (term_size (shaped (terms_of shapes) shape)) → length shapes < 4294967295
    → AreKept (shapes ++ shape ∷ []) (sizes ++ size ∷ [])
kept_append shapes sizes shape size kept below none is few =
    let longer = length-append shapes (shape ∷ []) in
    let many = length-terms_of shapes in
    let more = terms_of-append shapes shape in
    record {
      before = λ k l. elim (or_equal k (length shapes) (omega arith)) [
        | inl p ↦ subst (λ s. AreBelow k (numbers_of s)) (sym (read_old shapes shape Any k p)) (kept.before k p)
        | inr p ↦ subst (λ s. AreBelow k (numbers_of s)) (sym (ap (λ n. get_or (shapes ++ shape ∷ []) n Any) p ∙ read_new shapes shape Any))
            (subst (λ n. AreBelow n (numbers_of shape)) (sym p) below)
      ];
      distinct = subst IsDistinct (sym more) (distinct_more (terms_of shapes) (shaped (terms_of shapes) shape) kept.distinct
          (stands_nowhere shapes shape kept.distinct kept.before below none));
      sized = ap₂ (λ xs x. xs ++ x ∷ []) kept.sized is
          ∙ sym (map-append (λ t. capped (term_size t)) (terms_of shapes) (shaped (terms_of shapes) shape ∷ []))
          ∙ ap (map (λ t. capped (term_size t))) (sym more);
      few = omega arith;
    }

pub kept_entered : (es new : List (Shape × ℕ)) (shape : Shape) (size n : ℕ) → AreKept (keys_of es) (values_of es) → AreBelow (length es) (numbers_of shape)
    → size ≡ capped (term_size (shaped (terms_of (keys_of es)) shape)) → length es < 4294967295 → IsEntered es shape size new n → AreKept (keys_of new) (values_of new)
kept_entered es new shape size n kept below is few (inl h) = subst (λ l. AreKept (keys_of l) (values_of l)) (sym h.0) kept
kept_entered es new shape size n kept below is few (inr h) =
    let many = length-map es (λ (e : Shape × ℕ). e.0) in
    let keys : keys_of new ≡ keys_of es ++ shape ∷ [] = ap keys_of h.1 ∙ map-append (λ (e : Shape × ℕ). e.0) es ((shape, size) ∷ []) in
    let values : values_of new ≡ values_of es ++ size ∷ [] = ap values_of h.1 ∙ map-append (λ (e : Shape × ℕ). e.1) es ((shape, size) ∷ []) in
    subst (λ l. AreKept l (values_of new)) (sym keys) (subst (AreKept (keys_of es ++ shape ∷ [])) (sym values)
    (kept_append (keys_of es) (values_of es) shape size kept (wider (length es) (length (keys_of es)) (numbers_of shape) (omega arith) below)
    (λ k l. h.0 k (omega arith)) is (omega arith)))

pub numbered : (es new : List (Shape × ℕ)) (shape : Shape) (size n : ℕ) → AreKept (keys_of es) (values_of es) → AreBelow (length es) (numbers_of shape)
    → IsEntered es shape size new n → IsNumbered (terms_of (keys_of es)) (shaped (terms_of (keys_of es)) shape) (terms_of (keys_of new)) n
numbered es new shape size n kept below (inl h) =
    let many = length-map es (λ (e : Shape × ℕ). e.0) in
    let terms = length-terms_of (keys_of es) in
    let within = h.1 in
    let l : n < length (keys_of es) = omega arith in
    inl (ap (λ l. terms_of (keys_of l)) h.0, omega arith, term_of-shapes (keys_of es) n l (kept.before n l) ∙ ap (shaped (terms_of (keys_of es))) h.2)
numbered es new shape size n kept below (inr h) =
    let many = length-map es (λ (e : Shape × ℕ). e.0) in
    let terms = length-terms_of (keys_of es) in
    let at = h.2 in
    inr (
      stands_nowhere (keys_of es) shape kept.distinct kept.before (wider (length es) (length (keys_of es)) (numbers_of shape) (omega arith) below) (λ k l. h.0 k (omega arith)),
      ap (λ l. terms_of (keys_of l)) h.1 ∙ ap terms_of (map-append (λ (e : Shape × ℕ). e.0) es ((shape, size) ∷ [])) ∙ terms_of-append (keys_of es) shape,
      omega arith,
    )

-- ---- sizes

pub size_kept : (shapes : List Shape) (sizes : List ℕ) (n : ℕ) → AreKept shapes sizes → n < length shapes → get_or sizes n 0 ≡ capped (term_size (term_of (terms_of shapes) n))
size_kept shapes sizes n kept l =
    let many = length-terms_of shapes in
    ap (λ xs. get_or xs n 0) kept.sized ∙ get_or-map (λ t. capped (term_size t)) (terms_of shapes) n term.Any 0 (omega arith)

sums_kept : (shapes : List Shape) (sizes ns : List ℕ) → AreKept shapes sizes → AreBelow (length shapes) ns
    → capped (sum_by (λ n. get_or sizes n 0) ns) ≡ capped (sum (map term_size (map (term_of (terms_of shapes)) ns)))
sums_kept shapes sizes [] kept below = refl
sums_kept shapes sizes (n ∷ ns) kept below =
    let here = size_kept shapes sizes n kept (below zero 0 (omega arith)) in
    let rest = sums_kept shapes sizes ns kept (λ k d l. below (suc k) d (omega arith)) in
    let one = sum_by-cons (λ n. get_or sizes n 0) n ns in
    let other = sum_by-cons (λ n. n) (term_size (term_of (terms_of shapes) n)) (map term_size (map (term_of (terms_of shapes)) ns)) in
    omega arith

pub size_added : (shapes : List Shape) (sizes ns : List ℕ) (f : SymKey) (total size : ℕ) → AreKept shapes sizes → AreBelow (length shapes) ns
    → total ≡ capped (sum_by (λ n. get_or sizes n 0) ns) → size ≡ capped (total + 1) → size ≡ capped (term_size (shaped (terms_of shapes) (App f ns)))
size_added shapes sizes ns f total size kept below e is =
    let sums = sums_kept shapes sizes ns kept below in
    let whole = term_size-App f (map (term_of (terms_of shapes)) ns) in
    omega arith

-- ---- the table as callers see it

closed_terms : (m : ℕ) (terms : List Term) (ns : List ℕ) → ((n : ℕ) → n < m → term_closed_under 0 (term_of terms n) ≡ true) → AreBelow m ns → all_true (map (term_closed_under 0) (map (term_of terms) ns)) ≡ true
closed_terms m terms [] known below = refl
closed_terms m terms (n ∷ ns) known below =
    let here = known n (below zero 0 (omega arith)) in
    let rest = closed_terms m terms ns known (λ k d l. below (suc k) d (omega arith)) in
    ap₂ (λ a b. a && b) here rest

closed_shaped : (m : ℕ) (terms : List Term) (shape : Shape) → ((n : ℕ) → n < m → term_closed_under 0 (term_of terms n) ≡ true) → AreBelow m (numbers_of shape) → term_closed_under 0 (shaped terms shape) ≡ true
closed_shaped m terms Any known below = closed-Any 0
closed_shaped m terms (App f ns) known below = closed-App f (map (term_of terms) ns) 0 ∙ closed_terms m terms ns known below

ground_below : (shapes : List Shape) (sizes : List ℕ) → AreKept shapes sizes → (m : ℕ) → m ≤ length shapes → (n : ℕ) → n < m → term_closed_under 0 (term_of (terms_of shapes) n) ≡ true
ground_below shapes sizes kept zero le n l = absurd (omega arith)
ground_below shapes sizes kept (suc m) le n l =
    ap (term_closed_under 0) (term_of-shapes shapes n (omega arith) (kept.before n (omega arith)))
    ∙ closed_shaped n (terms_of shapes) (get_or shapes n Any) (λ k h. ground_below shapes sizes kept m (omega arith) k (omega arith)) (kept.before n (omega arith))

earlier : (terms : List Term) (ns : List ℕ) (i : ℕ) → AreBelow i ns → All (λ arg. (j : ℕ) × (j < i) × (term_of terms j ≡ arg)) (map (term_of terms) ns)
earlier terms [] i below k d l = absurd (omega arith)
earlier terms (n ∷ ns) i below zero d l = (n, below zero 0 (omega arith), refl)
earlier terms (n ∷ ns) i below (suc k) d l = earlier terms ns i (λ k d l. below (suc k) d (omega arith)) k d (omega arith)

arguments_before : (terms : List Term) (i : ℕ) (shape : Shape) (f : SymKey) (args : List Term) → AreBelow i (numbers_of shape) → shaped terms shape ≡ term.App f args
    → All (λ arg. (j : ℕ) × (j < i) × (term_of terms j ≡ arg)) args
arguments_before terms i Any f args below e = absurd (App-not-Any f args (sym e))
arguments_before terms i (App g ns) f args below e =
    subst (All (λ arg. (j : ℕ) × (j < i) × (term_of terms j ≡ arg))) (App-injective g f (map (term_of terms) ns) args e).1 (earlier terms ns i below)

-- what is kept is a list of distinct ground terms, each after its arguments
pub kept_table : (shapes : List Shape) (sizes : List ℕ) → AreKept shapes sizes → IsTermTable (terms_of shapes)
kept_table shapes sizes kept =
    let many = length-terms_of shapes in
    record {
      distinct = kept.distinct;
      ground = λ i l. ground_below shapes sizes kept (length shapes) (omega arith) i (omega arith);
      arguments_before = λ i f args l e. let within : i < length shapes = omega arith in
          arguments_before (terms_of shapes) i (get_or shapes i Any) f args (kept.before i within) (sym (term_of-shapes shapes i within (kept.before i within)) ∙ e);
    }

-- ---- what is read

pub key_at : (es : List (Shape × ℕ)) (n : ℕ) (shape : Shape) (size : ℕ) → slice_get es n ≡ Some (shape, size) → get_or (keys_of es) n Any ≡ shape
key_at es n shape size e =
    let l = slice_get_within es n (shape, size) e in
    get_or-map (λ (e : Shape × ℕ). e.0) es n (shape, size) Any l ∙ ap (λ (e : Shape × ℕ). e.0) (get_or_from_slice_get es n (shape, size) (shape, size) e)

pub term_read : (es : List (Shape × ℕ)) (n : ℕ) (shape : Shape) (size : ℕ) → AreKept (keys_of es) (values_of es) → n < length es → slice_get es n ≡ Some (shape, size)
    → term_of (terms_of (keys_of es)) n ≡ shaped (terms_of (keys_of es)) shape
term_read es n shape size kept l e =
    let many = length-map es (λ (e : Shape × ℕ). e.0) in
    let within : n < length (keys_of es) = omega arith in
    term_of-shapes (keys_of es) n within (kept.before n within) ∙ ap (shaped (terms_of (keys_of es))) (key_at es n shape size e)

pub numbers_read : (es : List (Shape × ℕ)) (n : ℕ) (shape : Shape) (size : ℕ) → AreKept (keys_of es) (values_of es) → n < length es → slice_get es n ≡ Some (shape, size) → AreBelow n (numbers_of shape)
numbers_read es n shape size kept l e =
    let many = length-map es (λ (e : Shape × ℕ). e.0) in
    subst (λ s. AreBelow n (numbers_of s)) (key_at es n shape size e) (kept.before n (omega arith))

-- ---- the view

pub length_view : (es : List (Shape × ℕ)) (table : List Term) → terms_of (keys_of es) ≡ table → length table ≡ length es
length_view es table view = sym (ap length view) ∙ length-terms_of (keys_of es) ∙ length-map es (λ (e : Shape × ℕ). e.0)

pub below_view : (es : List (Shape × ℕ)) (table : List Term) (ns : List ℕ) → terms_of (keys_of es) ≡ table → All (λ n. n < length table) ns → AreBelow (length es) ns
below_view es table ns view all = subst (λ m. AreBelow m ns) (length_view es table view) all

pub numbered_view : (es new : List (Shape × ℕ)) (table : List Term) (shape : Shape) (size n : ℕ) → terms_of (keys_of es) ≡ table → AreKept (keys_of es) (values_of es)
    → AreBelow (length es) (numbers_of shape) → IsEntered es shape size new n → IsNumbered table (shaped table shape) (terms_of (keys_of new)) n
numbered_view es new table shape size n view kept below entered =
    subst (λ t. IsNumbered t (shaped t shape) (terms_of (keys_of new)) n) view (numbered es new shape size n kept below entered)

pub size_view : (es : List (Shape × ℕ)) (ns : List ℕ) (f : SymKey) (total size : ℕ) → AreKept (keys_of es) (values_of es) → AreBelow (length es) ns
    → total ≡ capped (sum_by (λ n. get_or (values_of es) n 0) ns) → size ≡ capped (total + 1) → size ≡ capped (term_size (shaped (terms_of (keys_of es)) (App f ns)))
size_view es ns f total size kept below e is =
    size_added (keys_of es) (values_of es) ns f total size kept (subst (λ m. AreBelow m ns) (sym (length-map es (λ (e : Shape × ℕ). e.0))) below) e is

pub any_below : (n : ℕ) → AreBelow n (numbers_of Any)
any_below n k d l = absurd (omega arith)

pub any_size : (table : List Term) → 1 ≡ capped (term_size (shaped table Any))
any_size table = let h = term_size-Any in omega arith
