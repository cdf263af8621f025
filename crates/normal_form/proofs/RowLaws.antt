-- What the rows of a clause list say of the form: picks are sides of conjunctions, quants the universals of variables.
use Rattle.std.proofs.Common.{◌≡◌, ◌<◌, ℕ, suc, ◌+◌, inl, inr, true, false, ◌||◌, nat_eq, nat_lt, if◌then◌else◌, List, [], ◌∷◌, ◌++◌, length, map, refl, sym, ap, ap₂, ◌∙◌, subst, arith, rules}
use Rattle.std.proofs.lemmas.Bool.Decides.{nat_tests}
use Rattle.dk_syntax.proofs.ListLaws.{ForEach, for_each}
use Rattle.dk_syntax.proofs.TermLaws.{term_induction}
use Rattle.dk_syntax.proofs.WellFormedLaws.{closed-Any, closed-App, closed-Var}
use Rattle.dk_syntax.specs.Lists.{Every, every_cons, every_nil}
use Rattle.dk_syntax.specs.Symbols.{joined}
use Rattle.dk_syntax.specs.WellFormed.{all_true, literal_closed_under, term_closed_under}
use Rattle.dk_syntax.specs.declared.Literal.{Literal}
use Rattle.dk_syntax.specs.declared.Term.{App, Term, Var}
use Rattle.normal_form.proofs.AgreeingValues.{has-append, literal_lists, same_number}
use Rattle.normal_form.proofs.BoolLaws.{and_both, or_of_left, or_of_right, test_cases}
use Rattle.normal_form.proofs.DroppedNumbers.{renamed-Any, renamed-App, renamed-Var}
use Rattle.normal_form.proofs.FormEquations.{in-App, in-Var}
use Rattle.normal_form.proofs.FormInduction.{form_induction}
use Rattle.normal_form.proofs.FormLaws.{form-All, form-And, form-Ex, form-False, form-Lit, form-Or, form-True}
use Rattle.normal_form.proofs.NumberedRows.{has-each, owner-place}
use Rattle.normal_form.specs.ClauseLists.{beside, has_number, literal_variables, pairs_of, quants_of, raw, row_of, rows_of, taking}
use Rattle.normal_form.specs.Forms.{Form, alls, exs, form_of}
use Rattle.normal_form.specs.Forms as form
use Rattle.normal_form.specs.Laws.{RowsAreChoices}
use Rattle.normal_form.specs.Occurrence.{any_true, has_variable}
use Rattle.normal_form.specs.Renaming.{owner, place_of, renamed, renamed_literal}
use Rattle.normal_form.specs.RowFacts.{HasChoice, IsNumberedRow, both, inside, left, literals_of, none, one, right}
use Rattle.normal_form.specs.Sorting.{Numbered, numbered_from}
use Rattle.normal_form.specs.declared.form.Nf.{Nf, the_lemmas as of_forms}
use Rattle.normal_form.specs.declared.form.Nf.TheVariants as nf
use Rattle.normal_form.specs.declared.raw.Raw.{Raw}

-- ---- a number's place, and back

place_below : (ns : List ℕ) (n : ℕ) → has_number ns n ≡ true → place_of ns n < length ns
place_below [] n h = absurd (cc)
place_below (m ∷ rest) n h = elim (test_cases (nat_eq m n)) [
  | inl p ↦ let e : place_of (m ∷ rest) n ≡ 0 = ap (λ b. if b then 0 else 1 + place_of rest n) p in omega (arith, e)
  | inr p ↦
      let e : place_of (m ∷ rest) n ≡ 1 + place_of rest n = ap (λ b. if b then 0 else 1 + place_of rest n) p in
      let k = place_below rest n (ap (λ z. z || has_number rest n) (sym p) ∙ h) in omega (arith, e, k)
]

module _ (ns : List ℕ) where
  -- each variable of the term stands in the list
  abbrev IsListed : Term → Type 0
  IsListed t = (k : ℕ) → has_variable k t ≡ true → has_number ns k ≡ true

  abbrev AreListed : List Term → Type 0
  AreListed ts = (k : ℕ) → any_true (map (has_variable k) ts) ≡ true → has_number ns k ≡ true

  first_listed : (t : Term) (ts : List Term) → AreListed (t ∷ ts) → IsListed t
  first_listed t ts h k o = h k (or_of_left (has_variable k t) (any_true (map (has_variable k) ts)) o)

  rest_listed : (t : Term) (ts : List Term) → AreListed (t ∷ ts) → AreListed ts
  rest_listed t ts h k o = h k (or_of_right (has_variable k t) (any_true (map (has_variable k) ts)) o)

  abbrev ComesBack : Term → Type 0
  ComesBack t = IsListed t → renamed (owner ns) (renamed (place_of ns) t) ≡ t

  args_back : (ts : List Term) → ForEach ComesBack ts → AreListed ts → map (renamed (owner ns)) (map (renamed (place_of ns)) ts) ≡ ts
  args_back [] h w = refl
  args_back (t ∷ ts) h w = ap₂ (λ x xs. x ∷ xs) (h.0 (first_listed t ts w)) (args_back ts h.1 (rest_listed t ts w))

  term_back : (t : Term) → ComesBack t
  term_back = term_induction ComesBack
      (λ n w.
      ap (renamed (owner ns)) (renamed-Var (place_of ns) n) ∙ renamed-Var (owner ns) (place_of ns n)
      ∙ ap Var (owner-place ns n (w n (in-Var n n ∙ same_number n))))
      (λ s args h w.
      ap (renamed (owner ns)) (renamed-App (place_of ns) s args) ∙ renamed-App (owner ns) s (map (renamed (place_of ns)) args)
      ∙ ap (App s) (args_back args h (λ k o. w k (in-App k s args ∙ o))))
      (λ w. ap (renamed (owner ns)) (renamed-Any (place_of ns)) ∙ renamed-Any (owner ns))

  abbrev IsNumbered : Term → Type 0
  IsNumbered t = IsListed t → term_closed_under (length ns) (renamed (place_of ns) t) ≡ true

  args_numbered : (ts : List Term) → ForEach IsNumbered ts → AreListed ts → all_true (map (term_closed_under (length ns)) (map (renamed (place_of ns)) ts)) ≡ true
  args_numbered [] h w = refl
  args_numbered (t ∷ ts) h w =
      and_both (term_closed_under (length ns) (renamed (place_of ns) t)) (all_true (map (term_closed_under (length ns)) (map (renamed (place_of ns)) ts)))
      (h.0 (first_listed t ts w)) (args_numbered ts h.1 (rest_listed t ts w))

  below_test : (n m : ℕ) → n < m → nat_lt n m ≡ true
  below_test n m h = grind (arith, nat_tests)

  term_numbered : (t : Term) → IsNumbered t
  term_numbered = term_induction IsNumbered
      (λ n w.
      ap (term_closed_under (length ns)) (renamed-Var (place_of ns) n) ∙ closed-Var (place_of ns n) (length ns)
      ∙ below_test (place_of ns n) (length ns) (place_below ns n (w n (in-Var n n ∙ same_number n))))
      (λ s args h w.
      ap (term_closed_under (length ns)) (renamed-App (place_of ns) s args) ∙ closed-App s (map (renamed (place_of ns)) args) (length ns)
      ∙ args_numbered args h (λ k o. w k (in-App k s args ∙ o)))
      (λ w. ap (term_closed_under (length ns)) (renamed-Any (place_of ns)) ∙ closed-Any (length ns))

  -- ---- literals

  abbrev LitsListed : List Literal → Type 0
  LitsListed lits = (k : ℕ) → has_number (joined (map literal_variables lits)) k ≡ true → has_number ns k ≡ true

  of_first : (l : Literal) (lits : List Literal) → LitsListed (l ∷ lits) → AreListed l.args
  of_first l lits h k o =
      h k (has-append (literal_variables l) (joined (map literal_variables lits)) k
      ∙ or_of_left (has_number (literal_variables l) k) (has_number (joined (map literal_variables lits)) k) (literal_lists l k ∙ o))

  of_rest : (l : Literal) (lits : List Literal) → LitsListed (l ∷ lits) → LitsListed lits
  of_rest l lits h k o =
      h k (has-append (literal_variables l) (joined (map literal_variables lits)) k
      ∙ or_of_right (has_number (literal_variables l) k) (has_number (joined (map literal_variables lits)) k) o)

  abbrev with_args : Literal → List Term → Literal
  with_args l args = record { positive = l.positive; pred = l.pred; args = args }

  lits_back : (lits : List Literal) → LitsListed lits → map (renamed_literal (owner ns)) (map (renamed_literal (place_of ns)) lits) ≡ lits
  lits_back [] h = refl
  lits_back (l ∷ lits) h =
      ap₂ (λ x xs. x ∷ xs) (ap (with_args l) (args_back l.args (for_each ComesBack term_back l.args) (of_first l lits h))) (lits_back lits (of_rest l lits h))

  lits_numbered : (lits : List Literal) → LitsListed lits → all_true (map (literal_closed_under (length ns)) (map (renamed_literal (place_of ns)) lits)) ≡ true
  lits_numbered [] h = refl
  lits_numbered (l ∷ lits) h =
      and_both (literal_closed_under (length ns) (renamed_literal (place_of ns) l)) (all_true (map (literal_closed_under (length ns)) (map (renamed_literal (place_of ns)) lits)))
      (args_numbered l.args (for_each IsNumbered term_numbered l.args) (of_first l lits h)) (lits_numbered lits (of_rest l lits h))

-- ---- lists

every_append : {A : Type 0} {p : A → Type 0} {l m : List A} → Every p l → Every p m → Every p (l ++ m)
every_append every_nil w = w
every_append (every_cons i h) w = every_cons i (every_append h w)

every_map : {A B : Type 0} {p : A → Type 0} {q : B → Type 0} {l : List A} (f : A → B) → ((a : A) → p a → q (f a)) → Every p l → Every q (map f l)
every_map f w every_nil = every_nil
every_map f w (every_cons {a = a} i h) = every_cons (w a i) (every_map f w h)

every_pair : {p q r : Raw → Type 0} {l m : List Raw} → ((a b : Raw) → p a → q b → r (beside a b)) → Every p l → Every q m → Every r (pairs_of l m)
every_pair w every_nil k = every_nil
every_pair w (every_cons {a = a} i h) k = every_append (every_map (beside a) (λ b. w a b i) k) (every_pair w h k)

-- ---- rows

rows-True : (n : ℕ) (r : List ℕ) → (rows_of nf.True).1 n r ≡ []
rows-True n r = ap (λ z. z.1 n r) (let q : rows_of nf.True ≡ (0, λ n r. []) = search (rules, of_forms) in q)

pub rows-False : (n : ℕ) (r : List ℕ) → (rows_of nf.False).1 n r ≡ raw [] [] ∷ []
rows-False n r = ap (λ z. z.1 n r) (let q : rows_of nf.False ≡ (0, λ n r. raw [] [] ∷ []) = search (rules, of_forms) in q)

pub rows-Lit : (l : Literal) (n : ℕ) (r : List ℕ) → (rows_of (nf.Lit l)).1 n r ≡ raw (renamed_literal (owner r) l ∷ []) [] ∷ []
rows-Lit l n r = ap (λ z. z.1 n r) (let q : rows_of (nf.Lit l) ≡ (0, λ n r. raw (renamed_literal (owner r) l ∷ []) [] ∷ []) = search (rules, of_forms) in q)

pub rows-And : (a b : Nf) (n : ℕ) (r : List ℕ) → (rows_of (nf.And a b)).1 n r ≡ map (taking false) ((rows_of a).1 n r) ++ map (taking true) ((rows_of b).1 (n + (rows_of a).0) r)
rows-And a b n r = ap (λ z. z.1 n r) (let q : rows_of (nf.And a b) ≡ ((rows_of a).0 + (rows_of b).0, λ n r. map (taking false) ((rows_of a).1 n r) ++ map (taking true) ((rows_of b).1 (n + (rows_of a).0) r)) = search (rules, of_forms) in q)

pub rows-Or : (a b : Nf) (n : ℕ) (r : List ℕ) → (rows_of (nf.Or a b)).1 n r ≡ pairs_of ((rows_of a).1 n r) ((rows_of b).1 (n + (rows_of a).0) r)
rows-Or a b n r = ap (λ z. z.1 n r) (let q : rows_of (nf.Or a b) ≡ ((rows_of a).0 + (rows_of b).0, λ n r. pairs_of ((rows_of a).1 n r) ((rows_of b).1 (n + (rows_of a).0) r)) = search (rules, of_forms) in q)

pub rows-All : (a : Nf) (n : ℕ) (r : List ℕ) → (rows_of (nf.All a)).1 n r ≡ (rows_of a).1 (n + 1) (n ∷ r)
rows-All a n r = ap (λ z. z.1 n r) (let q : rows_of (nf.All a) ≡ (1 + (rows_of a).0, λ n r. (rows_of a).1 (n + 1) (n ∷ r)) = search (rules, of_forms) in q)

rows-Ex : (a : Nf) (n : ℕ) (r : List ℕ) → (rows_of (nf.Ex a)).1 n r ≡ []
rows-Ex a n r = ap (λ z. z.1 n r) (let q : rows_of (nf.Ex a) ≡ ((rows_of a).0, λ n r. []) = search (rules, of_forms) in q)

-- universals are counted alike
pub universals_are : (a : Nf) → (rows_of a).0 ≡ alls (form_of a)
universals_are = form_induction (λ a. (rows_of a).0 ≡ alls (form_of a))
    (ap (λ z. z.0) (let q : rows_of nf.True ≡ (0, λ n r. []) = search (rules, of_forms) in q) ∙ sym (ap alls form-True))
    (ap (λ z. z.0) (let q : rows_of nf.False ≡ (0, λ n r. raw [] [] ∷ []) = search (rules, of_forms) in q) ∙ sym (ap alls form-False))
    (λ l. ap (λ z. z.0) (let q : rows_of (nf.Lit l) ≡ (0, λ n r. raw (renamed_literal (owner r) l ∷ []) [] ∷ []) = search (rules, of_forms) in q) ∙ sym (ap alls (form-Lit l)))
    (λ a b h k.
    ap (λ z. z.0) (let q : rows_of (nf.And a b) ≡ ((rows_of a).0 + (rows_of b).0, λ n r. map (taking false) ((rows_of a).1 n r) ++ map (taking true) ((rows_of b).1 (n + (rows_of a).0) r)) = search (rules, of_forms) in q)
    ∙ ap₂ (λ x y. x + y) h k ∙ sym (ap alls (form-And a b)))
    (λ a b h k.
    ap (λ z. z.0) (let q : rows_of (nf.Or a b) ≡ ((rows_of a).0 + (rows_of b).0, λ n r. pairs_of ((rows_of a).1 n r) ((rows_of b).1 (n + (rows_of a).0) r)) = search (rules, of_forms) in q)
    ∙ ap₂ (λ x y. x + y) h k ∙ sym (ap alls (form-Or a b)))
    (λ a h.
    let e : 1 + alls (form_of a) ≡ suc (alls (form_of a)) = omega arith in
    ap (λ z. z.0) (let q : rows_of (nf.All a) ≡ (1 + (rows_of a).0, λ n r. (rows_of a).1 (n + 1) (n ∷ r)) = search (rules, of_forms) in q)
    ∙ ap (λ x. 1 + x) h ∙ e ∙ sym (ap alls (form-All a)))
    (λ a h. ap (λ z. z.0) (let q : rows_of (nf.Ex a) ≡ ((rows_of a).0, λ n r. []) = search (rules, of_forms) in q) ∙ h ∙ sym (ap alls (form-Ex a)))

abbrev IsChoice : List ℕ → Numbered → Raw → Type 0
IsChoice r t row = HasChoice r t row.lits row.picks

abbrev AreChoices : Nf → Type 0
AreChoices a = (n e : ℕ) (r : List ℕ) → Every (IsChoice r (numbered_from n e (form_of a))) ((rows_of a).1 n r)

choices_at : (r : List ℕ) (a : Nf) (n e : ℕ) (b : Form) (rows : List Raw) → form_of a ≡ b → (rows_of a).1 n r ≡ rows
    → Every (IsChoice r (numbered_from n e b)) rows → Every (IsChoice r (numbered_from n e (form_of a))) ((rows_of a).1 n r)
choices_at r a n e b rows h k w =
    subst (λ z. Every (IsChoice r (numbered_from n e z)) ((rows_of a).1 n r)) (sym h) (subst (λ z. Every (IsChoice r (numbered_from n e b)) z) (sym k) w)

-- the rows of the second part begin after the universals of the first
second : (a b : Nf) (n e : ℕ) (r : List ℕ) → AreChoices b → Every (IsChoice r (numbered_from (alls (form_of a) + n) (exs (form_of a) + e) (form_of b))) ((rows_of b).1 (n + (rows_of a).0) r)
second a b n e r h =
    let q : alls (form_of a) + n ≡ n + (rows_of a).0 = (let u = universals_are a in omega (arith, u)) in
    subst (λ m. Every (IsChoice r (numbered_from (alls (form_of a) + n) (exs (form_of a) + e) (form_of b))) ((rows_of b).1 m r)) q
    (h (alls (form_of a) + n) (exs (form_of a) + e) r)

are_choices : (a : Nf) → AreChoices a
are_choices = form_induction AreChoices
    (λ n e r. choices_at r nf.True n e form.yes [] form-True (rows-True n r) every_nil)
    (λ n e r. choices_at r nf.False n e form.no (raw [] [] ∷ []) form-False (rows-False n r) (every_cons (none r) every_nil))
    (λ l n e r. choices_at r (nf.Lit l) n e (form.lit l) (raw (renamed_literal (owner r) l ∷ []) [] ∷ []) (form-Lit l) (rows-Lit l n r) (every_cons (one r l) every_nil))
    (λ a b h k n e r.
    let t = numbered_from n e (form_of a) in let u = numbered_from (alls (form_of a) + n) (exs (form_of a) + e) (form_of b) in
    choices_at r (nf.And a b) n e (form.and (form_of a) (form_of b)) (map (taking false) ((rows_of a).1 n r) ++ map (taking true) ((rows_of b).1 (n + (rows_of a).0) r))
    (form-And a b) (rows-And a b n r)
    (every_append (every_map (taking false) (λ row w. left r t u row.lits row.picks w) (h n e r)) (every_map (taking true) (λ row w. right r t u row.lits row.picks w) (second a b n e r k))))
    (λ a b h k n e r.
    let t = numbered_from n e (form_of a) in let u = numbered_from (alls (form_of a) + n) (exs (form_of a) + e) (form_of b) in
    choices_at r (nf.Or a b) n e (form.or (form_of a) (form_of b)) (pairs_of ((rows_of a).1 n r) ((rows_of b).1 (n + (rows_of a).0) r))
    (form-Or a b) (rows-Or a b n r)
    (every_pair (λ x y w v. both r t u x.lits y.lits x.picks y.picks w v) (h n e r) (second a b n e r k)))
    (λ a h n e r.
    let q : n + 1 ≡ suc n = omega arith in
    choices_at r (nf.All a) n e (form.all (form_of a)) ((rows_of a).1 (n + 1) (n ∷ r)) (form-All a) (rows-All a n r)
    (every_only (λ row w. inside r n (numbered_from (suc n) e (form_of a)) row.lits row.picks w)
    (subst (λ m. Every (IsChoice (n ∷ r) (numbered_from (suc n) e (form_of a))) ((rows_of a).1 m (n ∷ r))) (sym q) (h (suc n) e (n ∷ r)))))
    (λ a h n e r. choices_at r (nf.Ex a) n e (form.ex (form_of a)) [] (form-Ex a) (rows-Ex a n r) every_nil)
  where
    every_only : {p q : Raw → Type 0} {l : List Raw} → ((a : Raw) → p a → q a) → Every p l → Every q l
    every_only w every_nil = every_nil
    every_only w (every_cons {a = a} i h) = every_cons (w a i) (every_only w h)

-- each variable of the row's literals has a place
all_listed : (row : Raw) → LitsListed (quants_of row.lits) row.lits
all_listed row = has-each (joined (map literal_variables row.lits)) []

-- the row's literals come back from its clause
pub literals_back : (row : Raw) → literals_of (row_of row) ≡ row.lits
literals_back row = lits_back (quants_of row.lits) row.lits (all_listed row)

row_is : (t : Numbered) (row : Raw) → IsChoice [] t row → HasChoice [] t (literals_of (row_of row)) row.picks × IsNumberedRow (row_of row)
row_is t row h = (subst (λ lits. HasChoice [] t lits row.picks) (sym (literals_back row)) h, lits_numbered (quants_of row.lits) row.lits (all_listed row))

pub rows_are_choices : RowsAreChoices
rows_are_choices n = every_map row_of (λ row h. row_is (numbered_from 0 0 (form_of n)) row h) (are_choices n 0 0 [])
