-- Each choice of sides in a form has its row.
use Rattle.std.proofs.Common.{◌≡◌, ℕ, suc, ◌+◌, ◌⊎◌, inl, inr, Bool, true, false, List, [], ◌∷◌, ◌++◌, map, refl, sym, subst, arith}
use Rattle.dk_syntax.specs.Lists.{Entry, entry_here, entry_later}
use Rattle.dk_syntax.specs.declared.Literal.{Literal}
use Rattle.normal_form.proofs.FormInduction.{form_induction}
use Rattle.normal_form.proofs.FormLaws.{form-All, form-And, form-Ex, form-False, form-Lit, form-Or, form-True}
use Rattle.normal_form.proofs.RowLaws.{literals_back, rows-All, rows-And, rows-False, rows-Lit, rows-Or, universals_are}
use Rattle.normal_form.specs.ClauseLists.{beside, pairs_of, raw, row_of, rows_of, taking}
use Rattle.normal_form.specs.Forms.{Form, alls, exs, form_of}
use Rattle.normal_form.specs.Forms as form
use Rattle.normal_form.specs.Laws.{ChoicesAreRows}
use Rattle.normal_form.specs.Renaming.{owner, renamed_literal}
use Rattle.normal_form.specs.RowFacts.{HasChoice, both, inside, left, none, one, right}
use Rattle.normal_form.specs.Sorting.{Numbered, all, and, ex, lit, no, numbered_from, or, yes}
use Rattle.normal_form.specs.declared.form.Nf.{Nf}
use Rattle.normal_form.specs.declared.form.Nf.TheVariants as nf
use Rattle.normal_form.specs.declared.raw.Raw.{Raw}

-- the list has the element somewhere
abbrev Has : {A : Type 0} → List A → A → Type 0
Has l a = (k : ℕ) × Entry l k a

has_left : {A : Type 0} {l : List A} {k : ℕ} {a : A} (m : List A) → Entry l k a → Has (l ++ m) a
has_left m (entry_here a l) = (0, entry_here a (l ++ m))
has_left m (entry_later b h) = let w = has_left m h in (suc w.0, entry_later b w.1)

has_right : {A : Type 0} {m : List A} {a : A} (l : List A) → Has m a → Has (l ++ m) a
has_right [] h = h
has_right (b ∷ l) h = let w = has_right l h in (suc w.0, entry_later b w.1)

has_map : {A B : Type 0} {l : List A} {k : ℕ} {a : A} (f : A → B) → Entry l k a → Has (map f l) (f a)
has_map f (entry_here a l) = (0, entry_here (f a) (map f l))
has_map f (entry_later b h) = let w = has_map f h in (suc w.0, entry_later (f b) w.1)

has_pair : {l m : List Raw} {k : ℕ} {a b : Raw} → Entry l k a → Has m b → Has (pairs_of l m) (beside a b)
has_pair {m = m} {b = b} (entry_here a l) w = let v = has_map (beside a) w.1 in has_left (pairs_of l m) v.1
has_pair {m = m} (entry_later c h) w = has_right (map (beside c) m) (has_pair h w)

abbrev HasRaw : ℕ → List ℕ → Nf → List Literal → List Bool → Type 0
HasRaw n r a lits picks = Has ((rows_of a).1 n r) (raw lits picks)

abbrev HasAll : Nf → Type 0
HasAll a = (n e : ℕ) (r : List ℕ) (lits : List Literal) (picks : List Bool) → HasChoice r (numbered_from n e (form_of a)) lits picks → HasRaw n r a lits picks

-- ---- the ways in which a choice is made

as_form : (n e : ℕ) (r : List ℕ) {lits : List Literal} {picks : List Bool} (a b : Form) → a ≡ b → HasChoice r (numbered_from n e a) lits picks → HasChoice r (numbered_from n e b) lits picks
as_form n e r {lits} {picks} a b h = subst (λ z. HasChoice r (numbered_from n e z) lits picks) h

at_rows : (n : ℕ) (r : List ℕ) (a : Nf) (rows : List Raw) (x y : Raw) → (rows_of a).1 n r ≡ rows → x ≡ y → Has rows x → Has ((rows_of a).1 n r) y
at_rows n r a rows x y h w v = subst (λ z. Has z y) (sym h) (subst (Has rows) w v)

no_case : {r : List ℕ} {lits : List Literal} {picks : List Bool} → HasChoice r no lits picks → raw [] [] ≡ raw lits picks
no_case (none r) = refl

lit_case : {r : List ℕ} {l : Literal} {lits : List Literal} {picks : List Bool} → HasChoice r (lit l) lits picks → raw (renamed_literal (owner r) l ∷ []) [] ≡ raw lits picks
lit_case (one r l) = refl

and_case : {r : List ℕ} {t u : Numbered} {lits : List Literal} {picks : List Bool} → HasChoice r (and t u) lits picks
    → ((rest : List Bool) × HasChoice r t lits rest × (taking false (raw lits rest) ≡ raw lits picks))
    ⊎ ((rest : List Bool) × HasChoice r u lits rest × (taking true (raw lits rest) ≡ raw lits picks))
and_case (left r t u lits rest h) = inl (rest, h, refl)
and_case (right r t u lits rest h) = inr (rest, h, refl)

or_case : {r : List ℕ} {t u : Numbered} {lits : List Literal} {picks : List Bool} → HasChoice r (or t u) lits picks
    → (x y : Raw) × HasChoice r t x.lits x.picks × HasChoice r u y.lits y.picks × (beside x y ≡ raw lits picks)
or_case (both r t u lits more picks sides h k) = (raw lits picks, raw more sides, h, k, refl)

all_case : {r : List ℕ} {m : ℕ} {t : Numbered} {lits : List Literal} {picks : List Bool} → HasChoice r (all m t) lits picks → HasChoice (m ∷ r) t lits picks
all_case (inside r m t lits picks h) = h

yes_case : {B : Type 0} {r : List ℕ} {lits : List Literal} {picks : List Bool} → HasChoice r yes lits picks → B
yes_case h = elim h [ ]

ex_case : {B : Type 0} {r : List ℕ} {m : ℕ} {t : Numbered} {lits : List Literal} {picks : List Bool} → HasChoice r (ex m t) lits picks → B
ex_case h = elim h [ ]

-- ---- rows

second_has : (a b : Nf) (n e : ℕ) (r : List ℕ) (lits : List Literal) (picks : List Bool) → HasAll b
    → HasChoice r (numbered_from (alls (form_of a) + n) (exs (form_of a) + e) (form_of b)) lits picks → HasRaw (n + (rows_of a).0) r b lits picks
second_has a b n e r lits picks h w =
    let q : alls (form_of a) + n ≡ n + (rows_of a).0 = (let u = universals_are a in omega (arith, u)) in
    subst (λ m. HasRaw m r b lits picks) q (h (alls (form_of a) + n) (exs (form_of a) + e) r lits picks w)

has_all : (a : Nf) → HasAll a
has_all = form_induction HasAll
    (λ n e r lits picks w. yes_case (as_form n e r (form_of nf.True) form.yes form-True w))
    (λ n e r lits picks w. at_rows n r nf.False (raw [] [] ∷ []) (raw [] []) (raw lits picks) (rows-False n r) (no_case (as_form n e r (form_of nf.False) form.no form-False w)) (0, entry_here (raw [] []) []))
    (λ l n e r lits picks w.
    let one_raw = raw (renamed_literal (owner r) l ∷ []) [] in
    at_rows n r (nf.Lit l) (one_raw ∷ []) one_raw (raw lits picks) (rows-Lit l n r) (lit_case (as_form n e r (form_of (nf.Lit l)) (form.lit l) (form-Lit l) w)) (0, entry_here one_raw []))
    (λ a b h k n e r lits picks w.
    let lefts = map (taking false) ((rows_of a).1 n r) in let rights = map (taking true) ((rows_of b).1 (n + (rows_of a).0) r) in
    elim (and_case (as_form n e r (form_of (nf.And a b)) (form.and (form_of a) (form_of b)) (form-And a b) w)) [
      | inl c ↦
          let v = h n e r lits c.0 c.1 in let u = has_map (taking false) v.1 in
          at_rows n r (nf.And a b) (lefts ++ rights) (taking false (raw lits c.0)) (raw lits picks) (rows-And a b n r) c.2 (has_left rights u.1)
      | inr c ↦
          let v = second_has a b n e r lits c.0 k c.1 in
          at_rows n r (nf.And a b) (lefts ++ rights) (taking true (raw lits c.0)) (raw lits picks) (rows-And a b n r) c.2 (has_right lefts (has_map (taking true) v.1))
    ])
    (λ a b h k n e r lits picks w.
    let c = or_case (as_form n e r (form_of (nf.Or a b)) (form.or (form_of a) (form_of b)) (form-Or a b) w) in
    let v = h n e r c.0.lits c.0.picks c.2 in
    at_rows n r (nf.Or a b) (pairs_of ((rows_of a).1 n r) ((rows_of b).1 (n + (rows_of a).0) r)) (beside c.0 c.1) (raw lits picks) (rows-Or a b n r) c.4
    (has_pair v.1 (second_has a b n e r c.1.lits c.1.picks k c.3)))
    (λ a h n e r lits picks w.
    let q : suc n ≡ n + 1 = omega arith in
    let v = h (suc n) e (n ∷ r) lits picks (all_case (as_form n e r (form_of (nf.All a)) (form.all (form_of a)) (form-All a) w)) in
    at_rows n r (nf.All a) ((rows_of a).1 (n + 1) (n ∷ r)) (raw lits picks) (raw lits picks) (rows-All a n r) refl
    (subst (λ m. Has ((rows_of a).1 m (n ∷ r)) (raw lits picks)) q v))
    (λ a h n e r lits picks w. ex_case (as_form n e r (form_of (nf.Ex a)) (form.ex (form_of a)) (form-Ex a) w))

pub choices_are_rows : ChoicesAreRows
choices_are_rows n lits picks h =
    let v = has_all n 0 0 [] lits picks h in let w = has_map row_of v.1 in
    (w.0, row_of (raw lits picks), w.1, literals_back (raw lits picks), refl)
