-- Where a form is true, the clauses of its list are.
use Rattle.std.proofs.Common.{◌≡◌, ℕ, zero, suc, ◌+◌, Bool, true, false, ◌&&◌, ◌||◌, List, [], ◌∷◌, ◌++◌, map, refl, subst, sym, ap, ap₂, ◌∙◌, rules}
use mathlib.Core.Path.{fun_ext}
use Rattle.dk_syntax.proofs.ListLaws.{ForEach, for_each}
use Rattle.dk_syntax.proofs.TermLaws.{term_induction}
use Rattle.dk_syntax.specs.declared.Literal.{Literal}
use Rattle.dk_syntax.specs.declared.Term.{Any, App, Term, Var, the_lemmas as of_terms}
use Rattle.normal_form.proofs.BoolLaws.{and_both, and_left, and_or, and_right, and_step, or_and, or_left_step, or_map, or_true}
use Rattle.normal_form.proofs.FormEquations.{truth-All, truth-And, truth-False, truth-Lit, truth-Or, value-Any, value-App, value-Var}
use Rattle.normal_form.proofs.FormInduction.{form_induction}
use Rattle.normal_form.specs.ClauseLists.{beside, clause_rows, pairs_of, quants_of, raw, row_of, rows_of, taking}
use Rattle.normal_form.specs.ClauseTruth.{AllIsEach, ClausesFollow, RowsHold, clause_truth}
use Rattle.normal_form.specs.Renaming.{owner, place_of, renamed, renamed_literal}
use Rattle.normal_form.specs.Truth.{Interpretation, form_truth, literal_truth, signed, value, with_value}
use Rattle.normal_form.specs.declared.clause_list.ClauseRow.{ClauseRow}
use Rattle.normal_form.specs.declared.form.Nf.{Nf, the_lemmas as of_forms}
use Rattle.normal_form.specs.declared.form.Nf.TheVariants as nf
use Rattle.normal_form.specs.declared.raw.Raw.{Raw}

-- each row is true where each universal has the value given
abbrev pub rows_truth : {D : Type 0} (i : Interpretation D) → (ℕ → D) → List Raw → Bool
rows_truth i w [] = true
rows_truth i w (row ∷ rest) = clause_truth i w row.lits && rows_truth i w rest

module _ {D : Type 0} (i : Interpretation D) (w : ℕ → D) where
  clause-append : (xs ys : List Literal) → clause_truth i w (xs ++ ys) ≡ clause_truth i w xs || clause_truth i w ys
  clause-append [] ys = refl
  clause-append (x ∷ xs) ys = ap (λ z. literal_truth i w x || z) (clause-append xs ys) ∙ or_left_step (literal_truth i w x) (clause_truth i w xs) (clause_truth i w ys)

  pub rows-append : (xs ys : List Raw) → rows_truth i w (xs ++ ys) ≡ rows_truth i w xs && rows_truth i w ys
  rows-append [] ys = refl
  rows-append (x ∷ xs) ys = ap (λ z. clause_truth i w x.lits && z) (rows-append xs ys) ∙ and_step (clause_truth i w x.lits) (rows_truth i w xs) (rows_truth i w ys)

  pub rows-taking : (side : Bool) (xs : List Raw) → rows_truth i w (map (taking side) xs) ≡ rows_truth i w xs
  rows-taking side [] = refl
  rows-taking side (x ∷ xs) = ap (λ z. clause_truth i w x.lits && z) (rows-taking side xs)

  rows-beside : (x : Raw) (ys : List Raw) → rows_truth i w (map (beside x) ys) ≡ clause_truth i w x.lits || rows_truth i w ys
  rows-beside x [] = or_true (clause_truth i w x.lits)
  rows-beside x (y ∷ ys) = ap₂ (λ a b. a && b) (clause-append x.lits y.lits) (rows-beside x ys) ∙ or_and (clause_truth i w x.lits) (clause_truth i w y.lits) (rows_truth i w ys)

  pub rows-pairs : (xs ys : List Raw) → rows_truth i w (pairs_of xs ys) ≡ rows_truth i w xs || rows_truth i w ys
  rows-pairs [] ys = refl
  rows-pairs (x ∷ xs) ys = rows-append (map (beside x) ys) (pairs_of xs ys) ∙ ap₂ (λ a b. a && b) (rows-beside x ys) (rows-pairs xs ys) ∙ and_or (clause_truth i w x.lits) (rows_truth i w xs) (rows_truth i w ys)

  abbrev pub RenamedValue : (r : ℕ → ℕ) → Term → Type 0
  RenamedValue r t = value i w (renamed r t) ≡ value i (λ n. w (r n)) t

  renamed-values : (r : ℕ → ℕ) (ts : List Term) → ForEach (RenamedValue r) ts → map (value i w) (map (renamed r) ts) ≡ map (value i (λ n. w (r n))) ts
  renamed-values r [] h = refl
  renamed-values r (t ∷ ts) h = ap₂ (λ x xs. x ∷ xs) h.0 (renamed-values r ts h.1)

  renamed-value : (r : ℕ → ℕ) (t : Term) → RenamedValue r t
  renamed-value r = term_induction (RenamedValue r)
      (λ k. ap (value i w) (let q : renamed r (Var k) ≡ Var (r k) = search (rules, of_terms) in q) ∙ value-Var i w (r k) ∙ sym (value-Var i (λ n. w (r n)) k))
      (λ s args h. ap (value i w) (let q : renamed r (App s args) ≡ App s (map (renamed r) args) = search (rules, of_terms) in q) ∙ value-App i w s (map (renamed r) args) ∙ ap (i.function s) (renamed-values r args h) ∙ sym (value-App i (λ n. w (r n)) s args))
      (ap (value i w) (let q : renamed r Any ≡ Any = search (rules, of_terms) in q) ∙ value-Any i w ∙ sym (value-Any i (λ n. w (r n))))

  pub literal-renamed : (r : ℕ → ℕ) (l : Literal) → literal_truth i w (renamed_literal r l) ≡ literal_truth i (λ n. w (r n)) l
  literal-renamed r l = ap (λ vs. signed l.positive (i.predicate l.pred vs)) (renamed-values r l.args (for_each (RenamedValue r) (renamed-value r) l.args))

  next_value : (next : ℕ) (around : List ℕ) (n : ℕ) → with_value (w next) (λ m. w (owner around m)) n ≡ w (owner (next ∷ around) n)
  next_value next around zero = refl
  next_value next around (suc n) = refl

  abbrev pub Sound : Nf → Type 0
  Sound a = (next : ℕ) (around : List ℕ) → form_truth i a (λ n. w (owner around n)) ≡ true → rows_truth i w ((rows_of a).1 next around) ≡ true

  one_row : (b : Bool) → b ≡ true → (b || false) && true ≡ true
  one_row true e = refl
  one_row false e = absurd (cc)

  -- where the form is true, so is each row, at any values of the universals
  pub rows_sound : ((p : D → Bool) → i.all p ≡ true → (d : D) → p d ≡ true) → (a : Nf) → Sound a
  rows_sound each = form_induction Sound
      (λ n r t. ap (λ z. rows_truth i w (z.1 n r)) (let q : rows_of nf.True ≡ (0, λ n r. []) = search (rules, of_forms) in q))
      (λ n r t. absurd (let x = truth-False i (λ n. w (owner r n)) in cc))
      (λ l n r t.
      ap (λ z. rows_truth i w (z.1 n r)) (let q : rows_of (nf.Lit l) ≡ (0, λ n r. raw (renamed_literal (owner r) l ∷ []) [] ∷ []) = search (rules, of_forms) in q)
      ∙ one_row (literal_truth i w (renamed_literal (owner r) l)) (literal-renamed (owner r) l ∙ sym (truth-Lit i (λ n. w (owner r n)) l) ∙ t))
      (λ a b g h n r t.
      let e : ℕ → D = λ m. w (owner r m) in let u = sym (truth-And i e a b) ∙ t in
      let xs = (rows_of a).1 n r in let ys = (rows_of b).1 (n + (rows_of a).0) r in
      ap (λ z. rows_truth i w (z.1 n r)) (let q : rows_of (nf.And a b) ≡ ((rows_of a).0 + (rows_of b).0, λ n r. map (taking false) ((rows_of a).1 n r) ++ map (taking true) ((rows_of b).1 (n + (rows_of a).0) r)) = search (rules, of_forms) in q)
      ∙ rows-append (map (taking false) xs) (map (taking true) ys) ∙ ap₂ (λ x y. x && y) (rows-taking false xs) (rows-taking true ys)
      ∙ and_both (rows_truth i w xs) (rows_truth i w ys) (g n r (and_left (form_truth i a e) (form_truth i b e) u)) (h (n + (rows_of a).0) r (and_right (form_truth i a e) (form_truth i b e) u)))
      (λ a b g h n r t.
      let e : ℕ → D = λ m. w (owner r m) in let u = sym (truth-Or i e a b) ∙ t in
      let xs = (rows_of a).1 n r in let ys = (rows_of b).1 (n + (rows_of a).0) r in
      ap (λ z. rows_truth i w (z.1 n r)) (let q : rows_of (nf.Or a b) ≡ ((rows_of a).0 + (rows_of b).0, λ n r. pairs_of ((rows_of a).1 n r) ((rows_of b).1 (n + (rows_of a).0) r)) = search (rules, of_forms) in q)
      ∙ rows-pairs xs ys ∙ or_map (form_truth i a e) (form_truth i b e) (rows_truth i w xs) (rows_truth i w ys) (g n r) (h (n + (rows_of a).0) r) u)
      (λ a g n r t.
      let e : ℕ → D = λ m. w (owner r m) in
      let u = each (λ d. form_truth i a (with_value d e)) (sym (truth-All i e a) ∙ t) (w n) in
      ap (λ z. rows_truth i w (z.1 n r)) (let q : rows_of (nf.All a) ≡ (1 + (rows_of a).0, λ n r. (rows_of a).1 (n + 1) (n ∷ r)) = search (rules, of_forms) in q)
      ∙ g (n + 1) (n ∷ r) (sym (ap (form_truth i a) (fun_ext (next_value n r))) ∙ u))
      (λ a g n r t. ap (λ z. rows_truth i w (z.1 n r)) (let q : rows_of (nf.Ex a) ≡ ((rows_of a).0, λ n r. []) = search (rules, of_forms) in q))

  -- numbering the variables is giving each universal the value of its variable
  pub clause-renamed : (r : ℕ → ℕ) (lits : List Literal) → clause_truth i w (map (renamed_literal r) lits) ≡ clause_truth i (λ n. w (r n)) lits
  clause-renamed r [] = refl
  clause-renamed r (l ∷ rest) = ap₂ (λ a b. a || b) (literal-renamed r l) (clause-renamed r rest)

module _ {D : Type 0} (i : Interpretation D) where
  each_row : (rows : List Raw) → ((w : ℕ → D) → rows_truth i w rows ≡ true) → RowsHold i (map row_of rows)
  each_row [] h = tt
  each_row (row ∷ rest) h =
      let r = place_of (quants_of row.lits) in (
        (λ values. clause-renamed i values r row.lits ∙ and_left (clause_truth i (λ n. values (r n)) row.lits) (rows_truth i (λ n. values (r n)) rest) (h (λ n. values (r n)))),
        each_row rest (λ w. and_right (clause_truth i w row.lits) (rows_truth i w rest) (h w)),
      )

  pub clauses_follow : AllIsEach i → (a : Nf) → ((values : ℕ → D) → form_truth i a values ≡ true) → RowsHold i (clause_rows a)
  clauses_follow each a holds = each_row ((rows_of a).1 0 []) (λ w. rows_sound i w each a 0 [] (holds (λ n. w (owner [] n))))

-- a list that is the form's clause list follows from it
pub list_follows : {D : Type 0} (a : Nf) (rows : List ClauseRow) → rows ≡ clause_rows a → ClausesFollow D a rows
list_follows {D = D} a rows same = subst (ClausesFollow D a) (sym same) (λ i each holds. clauses_follow i each a holds)
