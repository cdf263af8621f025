-- Where the clauses of a closed form without existentials are true, the form is.
use Rattle.std.proofs.Common.{◌≡◌, ℕ, zero, suc, ◌+◌, ◌<◌, ◌≤◌, inl, inr, Bool, true, false, ◌&&◌, ◌||◌, nat_eq, nat_lt, if◌then◌else◌, List, [], ◌∷◌, ◌++◌, length, map, refl, subst, sym, ap, ap₂, ◌∙◌, arith, rules}
use Rattle.std.proofs.lemmas.Bool.Decides.{nat_tests}
use Rattle.dk_syntax.specs.declared.Literal.{Literal}
use Rattle.normal_form.proofs.AgreeingValues.{literal_agrees}
use Rattle.normal_form.proofs.BoolLaws.{and_both, and_left, and_right, left_false, or_of_left, or_of_right, or_only_left, right_false, test_cases}
use Rattle.normal_form.proofs.FormEquations.{in-All, in-And, in-Lit, in-Or, truth-All, truth-And, truth-Lit, truth-Or, truth-True}
use Rattle.normal_form.proofs.FormInduction.{form_induction}
use Rattle.normal_form.proofs.NumberedRows.{rows_hold}
use Rattle.normal_form.proofs.SoundLists.{literal-renamed, rows-append, rows-pairs, rows-taking, rows_truth}
use Rattle.normal_form.specs.ClauseLists.{Rows, clause_rows, pairs_of, raw, rows_of, taking}
use Rattle.normal_form.specs.ClauseTruth.{ClausesSuffice, EachIsAll, RowsHold}
use Rattle.normal_form.specs.Existentials.{existential_in}
use Rattle.normal_form.specs.Occurrence.{IsClosedForm, any_true, in_form, has_variable}
use Rattle.normal_form.specs.Renaming.{owner, renamed_literal}
use Rattle.normal_form.specs.Truth.{Interpretation, form_truth, literal_truth, with_value}
use Rattle.normal_form.specs.declared.clause_list.ClauseRow.{ClauseRow}
use Rattle.normal_form.specs.declared.form.Nf.{Nf, the_lemmas as of_forms}
use Rattle.normal_form.specs.declared.form.Nf.TheVariants as nf
use Rattle.normal_form.specs.declared.raw.Raw.{Raw}

-- ---- what the definitions say of each kind of form

rows-True : rows_of nf.True ≡ (0, λ n r. [])
rows-True = search (rules, of_forms)

rows-False : rows_of nf.False ≡ (0, λ n r. raw [] [] ∷ [])
rows-False = search (rules, of_forms)

rows-Lit : (l : Literal) → rows_of (nf.Lit l) ≡ (0, λ n r. raw (renamed_literal (owner r) l ∷ []) [] ∷ [])
rows-Lit l = search (rules, of_forms)

rows-And : (a b : Nf) → rows_of (nf.And a b) ≡ ((rows_of a).0 + (rows_of b).0, λ n r. map (taking false) ((rows_of a).1 n r) ++ map (taking true) ((rows_of b).1 (n + (rows_of a).0) r))
rows-And a b = search (rules, of_forms)

rows-Or : (a b : Nf) → rows_of (nf.Or a b) ≡ ((rows_of a).0 + (rows_of b).0, λ n r. pairs_of ((rows_of a).1 n r) ((rows_of b).1 (n + (rows_of a).0) r))
rows-Or a b = search (rules, of_forms)

rows-All : (a : Nf) → rows_of (nf.All a) ≡ (1 + (rows_of a).0, λ n r. (rows_of a).1 (n + 1) (n ∷ r))
rows-All a = search (rules, of_forms)

rows-Ex : (a : Nf) → rows_of (nf.Ex a) ≡ ((rows_of a).0, λ n r. [])
rows-Ex a = search (rules, of_forms)

existential-And : (a b : Nf) → existential_in (nf.And a b) ≡ existential_in a || existential_in b
existential-And a b = search (rules, of_forms)

existential-Or : (a b : Nf) → existential_in (nf.Or a b) ≡ existential_in a || existential_in b
existential-Or a b = search (rules, of_forms)

existential-All : (a : Nf) → existential_in (nf.All a) ≡ existential_in a
existential-All a = search (rules, of_forms)

existential-Ex : (a : Nf) → existential_in (nf.Ex a) ≡ true
existential-Ex a = search (rules, of_forms)

-- ---- free variables

-- the form's free variables are below the bound
abbrev pub FreeBelow : ℕ → Nf → Type 0
FreeBelow bound a = (k : ℕ) → bound ≤ k → in_form a k ≡ false

in_bound : (bound k : ℕ) (b : Bool) → (bound ≤ k → b ≡ false) → b ≡ true → k < bound
in_bound bound k b h o = elim (test_cases (nat_lt k bound)) [
  | inl p ↦ grind (arith, nat_tests)
  | inr p ↦ let above : bound ≤ k = grind (arith, nat_tests) in let none : b ≡ false = h above in absurd (cc)
]

literal_bound : (bound : ℕ) (l : Literal) → FreeBelow bound (nf.Lit l) → (k : ℕ) → any_true (map (has_variable k) l.args) ≡ true → k < bound
literal_bound bound l free k o = in_bound bound k (in_form (nf.Lit l) k) (free k) (in-Lit k l ∙ o)

free-And-left : (bound : ℕ) (a b : Nf) → FreeBelow bound (nf.And a b) → FreeBelow bound a
free-And-left bound a b free k h = left_false (in_form a k) (in_form b k) (sym (in-And k a b) ∙ free k h)

free-And-right : (bound : ℕ) (a b : Nf) → FreeBelow bound (nf.And a b) → FreeBelow bound b
free-And-right bound a b free k h = right_false (in_form a k) (in_form b k) (sym (in-And k a b) ∙ free k h)

free-Or-left : (bound : ℕ) (a b : Nf) → FreeBelow bound (nf.Or a b) → FreeBelow bound a
free-Or-left bound a b free k h = left_false (in_form a k) (in_form b k) (sym (in-Or k a b) ∙ free k h)

free-Or-right : (bound : ℕ) (a b : Nf) → FreeBelow bound (nf.Or a b) → FreeBelow bound b
free-Or-right bound a b free k h = right_false (in_form a k) (in_form b k) (sym (in-Or k a b) ∙ free k h)

free-All : (n : ℕ) (r : List ℕ) (a : Nf) → FreeBelow (length r) (nf.All a) → FreeBelow (length (n ∷ r)) a
free-All n r a free zero h = absurd (omega arith)
free-All n r a free (suc k) h = sym (in-All k a) ∙ free k (omega arith)

-- ---- values of universals

-- the universals around have these numbers
abbrev pub AroundBelow : ℕ → List ℕ → Type 0
AroundBelow next around = (k : ℕ) → k < length around → owner around k < next

around_more : (n : ℕ) (r : List ℕ) → AroundBelow n r → AroundBelow (n + 1) (n ∷ r)
around_more n r below zero h = omega arith
around_more n r below (suc k) h = let one : owner r k < n = below k (omega arith) in omega arith

around_later : (n m : ℕ) (r : List ℕ) → AroundBelow n r → AroundBelow (n + m) r
around_later n m r below k h = let one : owner r k < n = below k h in omega arith

module _ {D : Type 0} where
  -- the same values of the universals around
  abbrev pub AgreeAround : List ℕ → (ℕ → D) → (ℕ → D) → Type 0
  AgreeAround around w v = (k : ℕ) → k < length around → w (owner around k) ≡ v (owner around k)

  -- the same values of as many universals, from the next on
  abbrev pub AgreeFrom : ℕ → ℕ → (ℕ → D) → (ℕ → D) → Type 0
  AgreeFrom next count w v = (q : ℕ) → next ≤ q → q < next + count → w q ≡ v q

  -- the values w with d for n
  abbrev pub put_at : ℕ → D → (ℕ → D) → ℕ → D
  put_at n d w q = if nat_eq q n then d else w q

  put-here : (n : ℕ) (d : D) (w : ℕ → D) → put_at n d w n ≡ d
  put-here n d w = let p : nat_eq n n ≡ true = grind (arith, nat_tests) in ap (λ x. if x then d else w n) p

  put-below : (n : ℕ) (d : D) (w : ℕ → D) (q : ℕ) → q < n → put_at n d w q ≡ w q
  put-below n d w q h = let p : nat_eq q n ≡ false = grind (arith, nat_tests) in ap (λ x. if x then d else w q) p

  -- the values w below n, and v from there on
  abbrev pub switched : ℕ → (ℕ → D) → (ℕ → D) → ℕ → D
  switched n w v q = if nat_lt q n then w q else v q

  switched-below : (n : ℕ) (w v : ℕ → D) (q : ℕ) → q < n → switched n w v q ≡ w q
  switched-below n w v q h = let p : nat_lt q n ≡ true = grind (arith, nat_tests) in ap (λ x. if x then w q else v q) p

  switched-above : (n : ℕ) (w v : ℕ → D) (q : ℕ) → n ≤ q → switched n w v q ≡ v q
  switched-above n w v q h = let p : nat_lt q n ≡ false = grind (arith, nat_tests) in ap (λ x. if x then w q else v q) p

-- ---- the rows of a form look only at the universals around it and in it

module _ {D : Type 0} (i : Interpretation D) where
  -- the rows at the numbers that the definition gives
  rows_are : (w : ℕ → D) (n : ℕ) (r : List ℕ) (xs ys : Rows) → xs ≡ ys → rows_truth i w (xs.1 n r) ≡ rows_truth i w (ys.1 n r)
  rows_are w n r xs ys same = ap (λ z. rows_truth i w (z.1 n r)) same

  -- the form's rows are as true at any values that are the same there
  abbrev pub LooksWithin : Nf → Type 0
  LooksWithin a =
      (n : ℕ) (r : List ℕ) (w v : ℕ → D) → FreeBelow (length r) a → AgreeAround r w v → AgreeFrom n (rows_of a).0 w v
      → rows_truth i w ((rows_of a).1 n r) ≡ rows_truth i v ((rows_of a).1 n r)

  within-True : LooksWithin nf.True
  within-True n r w v free near far = rows_are w n r _ _ rows-True ∙ sym (rows_are v n r _ _ rows-True)

  within-False : LooksWithin nf.False
  within-False n r w v free near far = rows_are w n r _ _ rows-False ∙ sym (rows_are v n r _ _ rows-False)

  within-Lit : (l : Literal) → LooksWithin (nf.Lit l)
  within-Lit l n r w v free near far =
      let same = literal-renamed i w (owner r) l
      ∙ literal_agrees i (λ k. w (owner r k)) (λ k. v (owner r k)) l (λ k o. near k (literal_bound (length r) l free k o))
      ∙ sym (literal-renamed i v (owner r) l) in
      rows_are w n r _ _ (rows-Lit l) ∙ ap (λ b. (b || false) && true) same ∙ sym (rows_are v n r _ _ (rows-Lit l))

  rows_both : (w : ℕ → D) (xs ys : List Raw) → rows_truth i w (map (taking false) xs ++ map (taking true) ys) ≡ rows_truth i w xs && rows_truth i w ys
  rows_both w xs ys = rows-append i w (map (taking false) xs) (map (taking true) ys) ∙ ap₂ (λ x y. x && y) (rows-taking i w false xs) (rows-taking i w true ys)

  truth-rows-And : (a b : Nf) (n : ℕ) (r : List ℕ) (w : ℕ → D) →
      rows_truth i w ((rows_of (nf.And a b)).1 n r) ≡ rows_truth i w ((rows_of a).1 n r) && rows_truth i w ((rows_of b).1 (n + (rows_of a).0) r)
  truth-rows-And a b n r w = rows_are w n r _ _ (rows-And a b) ∙ rows_both w ((rows_of a).1 n r) ((rows_of b).1 (n + (rows_of a).0) r)

  truth-rows-Or : (a b : Nf) (n : ℕ) (r : List ℕ) (w : ℕ → D) →
      rows_truth i w ((rows_of (nf.Or a b)).1 n r) ≡ rows_truth i w ((rows_of a).1 n r) || rows_truth i w ((rows_of b).1 (n + (rows_of a).0) r)
  truth-rows-Or a b n r w = rows_are w n r _ _ (rows-Or a b) ∙ rows-pairs i w ((rows_of a).1 n r) ((rows_of b).1 (n + (rows_of a).0) r)

  first_part : (n x y z : ℕ) (w v : ℕ → D) → z ≡ x + y → AgreeFrom n z w v → AgreeFrom n x w v
  first_part n x y z w v e far q h l = far q h (omega arith)

  second_part : (n x y z : ℕ) (w v : ℕ → D) → z ≡ x + y → AgreeFrom n z w v → AgreeFrom (n + x) y w v
  second_part n x y z w v e far q h l = far q (omega arith) (omega arith)

  within-And : (a b : Nf) → LooksWithin a → LooksWithin b → LooksWithin (nf.And a b)
  within-And a b g h n r w v free near far =
      let counts : (rows_of (nf.And a b)).0 ≡ (rows_of a).0 + (rows_of b).0 = ap (λ z. z.0) (rows-And a b) in
      truth-rows-And a b n r w
      ∙ ap₂ (λ x y. x && y)
      (g n r w v (free-And-left (length r) a b free) near (first_part n _ _ _ w v counts far))
      (h (n + (rows_of a).0) r w v (free-And-right (length r) a b free) near (second_part n _ _ _ w v counts far))
      ∙ sym (truth-rows-And a b n r v)

  within-Or : (a b : Nf) → LooksWithin a → LooksWithin b → LooksWithin (nf.Or a b)
  within-Or a b g h n r w v free near far =
      let counts : (rows_of (nf.Or a b)).0 ≡ (rows_of a).0 + (rows_of b).0 = ap (λ z. z.0) (rows-Or a b) in
      truth-rows-Or a b n r w
      ∙ ap₂ (λ x y. x || y)
      (g n r w v (free-Or-left (length r) a b free) near (first_part n _ _ _ w v counts far))
      (h (n + (rows_of a).0) r w v (free-Or-right (length r) a b free) near (second_part n _ _ _ w v counts far))
      ∙ sym (truth-rows-Or a b n r v)

  near_more : (n c : ℕ) (r : List ℕ) (w v : ℕ → D) → AgreeAround r w v → AgreeFrom n (1 + c) w v → AgreeAround (n ∷ r) w v
  near_more n c r w v near far zero l = far n (omega arith) (omega arith)
  near_more n c r w v near far (suc k) l = near k (omega arith)

  within-All : (a : Nf) → LooksWithin a → LooksWithin (nf.All a)
  within-All a g n r w v free near far =
      let counts : (rows_of (nf.All a)).0 ≡ 1 + (rows_of a).0 = ap (λ z. z.0) (rows-All a) in
      let rest : AgreeFrom n (1 + (rows_of a).0) w v = λ q h l. far q h (omega arith) in
      rows_are w n r _ _ (rows-All a)
      ∙ g (n + 1) (n ∷ r) w v (free-All n r a free) (near_more n (rows_of a).0 r w v near rest) (λ q h l. rest q (omega arith) (omega arith))
      ∙ sym (rows_are v n r _ _ (rows-All a))

  within-Ex : (a : Nf) → LooksWithin a → LooksWithin (nf.Ex a)
  within-Ex a g n r w v free near far = rows_are w n r _ _ (rows-Ex a) ∙ sym (rows_are v n r _ _ (rows-Ex a))

  looks_within : (a : Nf) → LooksWithin a
  looks_within = form_induction LooksWithin within-True within-False within-Lit within-And within-Or within-All within-Ex

  -- ---- where the rows are true at all values of the form's own universals, the form is

  -- the rows are true at all values that agree with w on the universals that come before
  abbrev pub TrueFrom : ℕ → List ℕ → (ℕ → D) → Nf → Type 0
  TrueFrom n r w a = (v : ℕ → D) → ((q : ℕ) → q < n → v q ≡ w q) → rows_truth i v ((rows_of a).1 n r) ≡ true

  -- then the form is true at the values of the universals that its variables belong to
  abbrev pub Suffices : Nf → Type 0
  Suffices a =
      existential_in a ≡ false → (n : ℕ) (r : List ℕ) (w e : ℕ → D) → FreeBelow (length r) a → AroundBelow n r
      → ((k : ℕ) → k < length r → e k ≡ w (owner r k)) → TrueFrom n r w a → form_truth i a e ≡ true

  suffices-True : Suffices nf.True
  suffices-True without n r w e free below near holds = truth-True i e

  suffices-False : Suffices nf.False
  suffices-False without n r w e free below near holds =
      let one : false ≡ true = sym (rows_are w n r _ _ rows-False) ∙ holds w (λ q l. refl) in absurd (cc)

  row_one : (b : Bool) → (b || false) && true ≡ true → b ≡ true
  row_one true h = refl
  row_one false h = absurd (cc)

  suffices-Lit : (l : Literal) → Suffices (nf.Lit l)
  suffices-Lit l without n r w e free below near holds =
      truth-Lit i e l
      ∙ literal_agrees i e (λ k. w (owner r k)) l (λ k o. near k (literal_bound (length r) l free k o))
      ∙ sym (literal-renamed i w (owner r) l)
      ∙ row_one (literal_truth i w (renamed_literal (owner r) l)) (sym (rows_are w n r _ _ (rows-Lit l)) ∙ holds w (λ q l. refl))

  suffices-And : (a b : Nf) → Suffices a → Suffices b → Suffices (nf.And a b)
  suffices-And a b g h without n r w e free below near holds =
      let c = (rows_of a).0 in
      let none = sym (existential-And a b) ∙ without in
      let both = λ (v : ℕ → D) (same : (q : ℕ) → q < n → v q ≡ w q). sym (truth-rows-And a b n r v) ∙ holds v same in
      truth-And i e a b
      ∙ and_both (form_truth i a e) (form_truth i b e)
      (g (left_false (existential_in a) (existential_in b) none) n r w e (free-And-left (length r) a b free) below near
      (λ v same. and_left (rows_truth i v ((rows_of a).1 n r)) (rows_truth i v ((rows_of b).1 (n + c) r)) (both v same)))
      (h (right_false (existential_in a) (existential_in b) none) (n + c) r w e (free-And-right (length r) a b free) (around_later n c r below) near
      (λ v same. and_right (rows_truth i v ((rows_of a).1 n r)) (rows_truth i v ((rows_of b).1 (n + c) r)) (both v (λ q l. same q (omega arith)))))

  -- where some values make a right row false, no values make a left one false: a row of both would be
  left_rows : (a b : Nf) (n : ℕ) (r : List ℕ) (w v : ℕ → D) → FreeBelow (length r) (nf.Or a b) → AroundBelow n r → TrueFrom n r w (nf.Or a b)
      → ((q : ℕ) → q < n + (rows_of a).0 → v q ≡ w q) → rows_truth i v ((rows_of b).1 (n + (rows_of a).0) r) ≡ false → TrueFrom n r w a
  left_rows a b n r w v free below holds same fails u with_w =
      let c = (rows_of a).0 in
      let m : ℕ → D = switched (n + c) u v in
      let at_left : rows_truth i m ((rows_of a).1 n r) ≡ rows_truth i u ((rows_of a).1 n r) =
      looks_within a n r m u (free-Or-left (length r) a b free)
      (λ k l. let one : owner r k < n = below k l in switched-below (n + c) u v (owner r k) (omega arith))
      (λ q h l. switched-below (n + c) u v q l) in
      let at_right : rows_truth i m ((rows_of b).1 (n + c) r) ≡ rows_truth i v ((rows_of b).1 (n + c) r) =
      looks_within b (n + c) r m v (free-Or-right (length r) a b free)
      (λ k l. let one : owner r k < n = below k l in
      switched-below (n + c) u v (owner r k) (omega arith) ∙ with_w (owner r k) one ∙ sym (same (owner r k) (omega arith)))
      (λ q h l. switched-above (n + c) u v q h) in
      sym at_left
      ∙ or_only_left (rows_truth i m ((rows_of a).1 n r)) (rows_truth i m ((rows_of b).1 (n + c) r))
      (sym (truth-rows-Or a b n r m) ∙ holds m (λ q l. switched-below (n + c) u v q (omega arith) ∙ with_w q l))
      (at_right ∙ fails)

  suffices-Or : (a b : Nf) → Suffices a → Suffices b → Suffices (nf.Or a b)
  suffices-Or a b g h without n r w e free below near holds =
      let c = (rows_of a).0 in
      let none = sym (existential-Or a b) ∙ without in
      truth-Or i e a b ∙ elim (test_cases (form_truth i a e)) [
        | inl p ↦ or_of_left (form_truth i a e) (form_truth i b e) p
        | inr p ↦
            or_of_right (form_truth i a e) (form_truth i b e)
            (h (right_false (existential_in a) (existential_in b) none) (n + c) r w e (free-Or-right (length r) a b free) (around_later n c r below) near
            (λ v same. elim (test_cases (rows_truth i v ((rows_of b).1 (n + c) r))) [
              | inl t ↦ t
              | inr t ↦
                  let left : form_truth i a e ≡ true =
                  g (left_false (existential_in a) (existential_in b) none) n r w e (free-Or-left (length r) a b free) below near
                  (left_rows a b n r w v free below holds same t) in absurd (cc)
            ]))
      ]

  near_put : (n : ℕ) (r : List ℕ) (w e : ℕ → D) (d : D) → AroundBelow n r → ((k : ℕ) → k < length r → e k ≡ w (owner r k))
      → (k : ℕ) → k < length (n ∷ r) → with_value d e k ≡ put_at n d w (owner (n ∷ r) k)
  near_put n r w e d below near zero l = sym (put-here n d w)
  near_put n r w e d below near (suc k) l =
      let here : k < length r = omega arith in near k here ∙ sym (put-below n d w (owner r k) (below k here))

  suffices-All : EachIsAll i → (a : Nf) → Suffices a → Suffices (nf.All a)
  suffices-All each a g without n r w e free below near holds =
      truth-All i e a ∙ each (λ d. form_truth i a (with_value d e)) (λ d.
      g (sym (existential-All a) ∙ without) (n + 1) (n ∷ r) (put_at n d w) (with_value d e) (free-All n r a free) (around_more n r below)
      (near_put n r w e d below near)
      (λ v same. sym (rows_are v n r _ _ (rows-All a)) ∙ holds v (λ q l. same q (omega arith) ∙ put-below n d w q l)))

  suffices-Ex : (a : Nf) → Suffices a → Suffices (nf.Ex a)
  suffices-Ex a g without n r w e free below near holds = let one = sym (existential-Ex a) ∙ without in absurd (cc)

  suffices : EachIsAll i → (a : Nf) → Suffices a
  suffices each = form_induction Suffices suffices-True suffices-False suffices-Lit suffices-And suffices-Or (suffices-All each) suffices-Ex

  pub clauses_suffice : EachIsAll i → (a : Nf) → existential_in a ≡ false → IsClosedForm a → RowsHold i (clause_rows a) → (values : ℕ → D) → form_truth i a values ≡ true
  clauses_suffice each a without closed holds values =
      suffices each a without 0 [] values values (λ k h. closed k) (λ k h. absurd (omega arith)) (λ k h. absurd (omega arith))
      (λ v same. rows_hold i ((rows_of a).1 0 []) holds v)

-- for a list that is the form's clause list
pub list_suffices : {D : Type 0} (a : Nf) (rows : List ClauseRow) → rows ≡ clause_rows a → ClausesSuffice D a rows
list_suffices {D = D} a rows same = subst (ClausesSuffice D a) (sym same) (λ without closed i each holds values. clauses_suffice i each a without closed holds values)
