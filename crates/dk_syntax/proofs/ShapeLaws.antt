-- Laws of what a table of terms keeps.
use Rattle.std.proofs.Common.{◌≡◌, ◌<◌, ◌≤◌, ◌+◌, ℕ, zero, suc, List, [], ◌∷◌, ◌++◌, map, get_or, length, length-append, arith, refl, sym, ap, ap₂, subst, ◌∙◌, inl, inr}
use Rattle.std.specs.List.{All, Contains}
use Rattle.std.proofs.lemmas.List.{get_or_append_left, get_or-append-add, get_or_default}
use Rattle.dk_syntax.proofs.ListLaws.{or_equal}
use Rattle.dk_syntax.proofs.TermLaws.{App-injective, App-not-Any}
use Rattle.dk_syntax.specs.Shapes.{numbers_of, shaped, terms_of, with_shapes}
use Rattle.dk_syntax.specs.TermTables.{IsDistinct, term_of}
use Rattle.dk_syntax.specs.declared.term.Term.{Term}
use Rattle.dk_syntax.specs.declared.term.Term.TheVariants as term
use Rattle.dk_syntax.specs.declared.term_table.Shape.{Shape}
use Rattle.dk_syntax.specs.declared.term_table.Shape.TheVariants.{Any, App}

-- ---- lists of numbers below a length

abbrev pub AreBelow : ℕ → List ℕ → Type 0
AreBelow n numbers = All (λ k. k < n) numbers

first_below : (n k : ℕ) (ks : List ℕ) → AreBelow n (k ∷ ks) → k < n
first_below n k ks all = all zero k (omega arith)

rest_below : (n k : ℕ) (ks : List ℕ) → AreBelow n (k ∷ ks) → AreBelow n ks
rest_below n k ks all i d l = all (suc i) d (omega arith)

pub wider : (m n : ℕ) (ks : List ℕ) → m ≤ n → AreBelow m ks → AreBelow n ks
wider m n ks le all i d l = let h = all i d l in omega arith

-- tables that agree below a length give numbers below it the same terms
pub same_terms : (xs ys : List Term) (n : ℕ) (ks : List ℕ) → ((k : ℕ) → k < n → term_of xs k ≡ term_of ys k) → AreBelow n ks → map (term_of xs) ks ≡ map (term_of ys) ks
same_terms xs ys n [] agree all = refl
same_terms xs ys n (k ∷ ks) agree all = ap₂ (λ t ts. t ∷ ts) (agree k (first_below n k ks all)) (same_terms xs ys n ks agree (rest_below n k ks all))

pub same_shaped : (xs ys : List Term) (n : ℕ) (shape : Shape) → ((k : ℕ) → k < n → term_of xs k ≡ term_of ys k) → AreBelow n (numbers_of shape) → shaped xs shape ≡ shaped ys shape
same_shaped xs ys n Any agree all = refl
same_shaped xs ys n (App f ks) agree all = ap (term.App f) (same_terms xs ys n ks agree all)

-- ---- the terms of shapes, one by one

pub with_shapes-append : (table : List Term) (xs ys : List Shape) → with_shapes table (xs ++ ys) ≡ with_shapes (with_shapes table xs) ys
with_shapes-append table [] ys = refl
with_shapes-append table (x ∷ xs) ys = with_shapes-append (table ++ shaped table x ∷ []) xs ys

pub terms_of-append : (shapes : List Shape) (shape : Shape) → terms_of (shapes ++ shape ∷ []) ≡ terms_of shapes ++ shaped (terms_of shapes) shape ∷ []
terms_of-append shapes shape = with_shapes-append [] shapes (shape ∷ [])

length-with_shapes : (table : List Term) (shapes : List Shape) → length (with_shapes table shapes) ≡ length table + length shapes
length-with_shapes table [] = omega arith
length-with_shapes table (x ∷ xs) = let a = length-with_shapes (table ++ shaped table x ∷ []) xs in let b = length-append table (shaped table x ∷ []) in omega arith

pub length-terms_of : (shapes : List Shape) → length (terms_of shapes) ≡ length shapes
length-terms_of shapes = let h = length-with_shapes [] shapes in omega arith

-- what stood in the table stays
stays : (table : List Term) (shapes : List Shape) (k : ℕ) → k < length table → term_of (with_shapes table shapes) k ≡ term_of table k
stays table [] k l = refl
stays table (x ∷ xs) k l =
    let longer = length-append table (shaped table x ∷ []) in
    stays (table ++ shaped table x ∷ []) xs k (omega arith) ∙ get_or_append_left table (shaped table x ∷ []) term.Any k l

shape_at : (table : List Term) (shapes : List Shape) (k : ℕ) → k < length shapes → AreBelow (length table + k) (numbers_of (get_or shapes k Any))
    → term_of (with_shapes table shapes) (length table + k) ≡ shaped (with_shapes table shapes) (get_or shapes k Any)
shape_at table [] k l all = absurd (omega arith)
shape_at table (x ∷ xs) zero l all =
    let next = table ++ shaped table x ∷ [] in
    let longer = length-append table (shaped table x ∷ []) in
    stays next xs (length table + 0) (omega arith) ∙ get_or-append-add table (shaped table x ∷ []) 0 term.Any
    ∙ same_shaped table (with_shapes next xs) (length table + 0) x
    (λ k h. sym (get_or_append_left table (shaped table x ∷ []) term.Any k (omega arith)) ∙ sym (stays next xs k (omega arith))) all
shape_at table (x ∷ xs) (suc k) l all =
    let next = table ++ shaped table x ∷ [] in
    let longer = length-append table (shaped table x ∷ []) in
    let same : length next + k ≡ length table + suc k = omega arith in
    subst (λ n. term_of (with_shapes next xs) n ≡ shaped (with_shapes next xs) (get_or xs k Any)) same
    (shape_at next xs k (omega arith) (subst (λ n. AreBelow n (numbers_of (get_or xs k Any))) (sym same) all))

-- the term of a number has the shape of that number
pub term_of-shapes : (shapes : List Shape) (k : ℕ) → k < length shapes → AreBelow k (numbers_of (get_or shapes k Any))
    → term_of (terms_of shapes) k ≡ shaped (terms_of shapes) (get_or shapes k Any)
term_of-shapes shapes k l all =
    let same : 0 + k ≡ k = omega arith in
    subst (λ n. term_of (terms_of shapes) n ≡ shaped (terms_of shapes) (get_or shapes k Any)) same
    (shape_at [] shapes k l (subst (λ n. AreBelow n (numbers_of (get_or shapes k Any))) (sym same) all))

-- ---- distinct terms have distinct shapes

same_numbers : (table : List Term) (xs ys : List ℕ) → IsDistinct table → AreBelow (length table) xs → AreBelow (length table) ys → map (term_of table) xs ≡ map (term_of table) ys → xs ≡ ys
same_numbers table [] [] distinct a b e = refl
same_numbers table [] (y ∷ ys) distinct a b e = absurd (cc)
same_numbers table (x ∷ xs) [] distinct a b e = absurd (cc)
same_numbers table (x ∷ xs) (y ∷ ys) distinct a b e =
    ap₂ (λ k ks. k ∷ ks) (distinct x y (first_below (length table) x xs a) (first_below (length table) y ys b) (cc))
    (same_numbers table xs ys distinct (rest_below (length table) x xs a) (rest_below (length table) y ys b) (cc))

pub shaped-injective : (table : List Term) (x y : Shape) → IsDistinct table → AreBelow (length table) (numbers_of x) → AreBelow (length table) (numbers_of y) → shaped table x ≡ shaped table y → x ≡ y
shaped-injective table Any Any distinct a b e = refl
shaped-injective table Any (App g ys) distinct a b e = absurd (App-not-Any g (map (term_of table) ys) (sym e))
shaped-injective table (App f xs) Any distinct a b e = absurd (App-not-Any f (map (term_of table) xs) e)
shaped-injective table (App f xs) (App g ys) distinct a b e =
    let parts = App-injective f g (map (term_of table) xs) (map (term_of table) ys) e in
    ap₂ App parts.0 (same_numbers table xs ys distinct a b parts.1)

-- a term whose shape none of the shapes is stands nowhere
pub stands_nowhere : (shapes : List Shape) (shape : Shape) → IsDistinct (terms_of shapes) → ((k : ℕ) → k < length shapes → AreBelow k (numbers_of (get_or shapes k Any)))
    → AreBelow (length shapes) (numbers_of shape) → ((k : ℕ) → k < length shapes → ¬ get_or shapes k Any ≡ shape) → ¬ Contains (terms_of shapes) (shaped (terms_of shapes) shape)
stands_nowhere shapes shape distinct before below none found =
    let many = length-terms_of shapes in
    let l : found.0 < length shapes = let h = found.1 in omega arith in
    let widen = λ (ks : List ℕ) (all : AreBelow (length shapes) ks). subst (λ n. AreBelow n ks) (sym many) all in
    none found.0 l (shaped-injective (terms_of shapes) (get_or shapes found.0 Any) shape distinct
    (widen (numbers_of (get_or shapes found.0 Any)) (wider found.0 (length shapes) (numbers_of (get_or shapes found.0 Any)) (omega arith) (before found.0 l)))
    (widen (numbers_of shape) below)
    (sym (term_of-shapes shapes found.0 l (before found.0 l)) ∙ get_or_default (terms_of shapes) found.0 term.Any (shaped (terms_of shapes) shape) found.1 ∙ found.2))

-- ---- one more term

pub distinct_more : (table : List Term) (t : Term) → IsDistinct table → ¬ Contains table t → IsDistinct (table ++ t ∷ [])
distinct_more table t distinct absent i j li lj e =
    let longer = length-append table (t ∷ []) in
    elim (or_equal i (length table) (omega arith)) [
      | inl p ↦ elim (or_equal j (length table) (omega arith)) [
        | inl q ↦ distinct i j p q (sym (old i p) ∙ e ∙ old j q)
        | inr q ↦ absurd (absent (i, p, get_or_default table i t term.Any p ∙ sym (old i p) ∙ e ∙ ap (term_of (table ++ t ∷ [])) q ∙ new))
      ]
      | inr p ↦ elim (or_equal j (length table) (omega arith)) [
        | inl q ↦ absurd (absent (j, q, get_or_default table j t term.Any q ∙ sym (old j q) ∙ sym e ∙ ap (term_of (table ++ t ∷ [])) p ∙ new))
        | inr q ↦ p ∙ sym q
      ]
    ]
  where
    old : (k : ℕ) → k < length table → term_of (table ++ t ∷ []) k ≡ term_of table k
    old k l = get_or_append_left table (t ∷ []) term.Any k l

    new : term_of (table ++ t ∷ []) (length table) ≡ t
    new = subst (λ n. term_of (table ++ t ∷ []) n ≡ t) (let e : length table + 0 ≡ length table = omega arith in e) (get_or-append-add table (t ∷ []) 0 term.Any)
