-- A thin tree that meets origins is, as proof terms read it, one that fits the formula.
use Rattle.std.proofs.Common.{◌≡◌, ℕ, zero, suc, Bool, true, false, not, ◌||◌, cond, List, [], ◌∷◌, ◌++◌, map, None, Some, refl, sym, ap, ap₂, subst, ◌∙◌, append-nil, append_assoc, rules}
use Rattle.std.specs.List.{list_any}
use Rattle.std.proofs.lemmas.Bool.{or_left, or_right}
use mathlib.Core.Path.{fun_ext}
use Rattle.dk_syntax.proofs.FormulaLaws.{formula_induction, occurrences-All, occurrences-And, occurrences-Atom, occurrences-Ex, occurrences-Iff, occurrences-Imp, occurrences-Not, occurrences-Or}
use Rattle.dk_syntax.proofs.ListLaws.{ForEach, for_each}
use Rattle.dk_syntax.proofs.SubstitutionLaws.{substituted-Any, substituted-App, substituted-Var}
use Rattle.dk_syntax.proofs.SymbolLaws.{symbols_same}
use Rattle.dk_syntax.proofs.TermLaws.{occurrences-App, term_induction}
use Rattle.dk_syntax.specs.Lists.{Entry, Every, entry_here, entry_later}
use Rattle.dk_syntax.specs.Symbols.{formula_occurrences, joined as occurrences_joined, same_symbol, term_occurrences}
use Rattle.dk_syntax.specs.Terms.{instance, substituted}
use Rattle.dk_syntax.specs.declared.Formula.{Formula, the_lemmas as of_formulas}
use Rattle.dk_syntax.specs.declared.Formula.TheVariants as formula
use Rattle.dk_syntax.specs.declared.Literal.{Literal}
use Rattle.dk_syntax.specs.declared.SymKey.{SymKey}
use Rattle.dk_syntax.specs.declared.Term.{Any, App, Term, Var, the_lemmas as of_terms}
use Rattle.expansion.proofs.Everywhere.{every_back, every_front, every_head, every_tail, map_both}
use Rattle.expansion.specs.Rows.{term_at}
use Rattle.lp_term.proofs.QuantifierRules.{any_declared}
use Rattle.lp_term.specs.Connectives.{individuals}
use Rattle.lp_term.specs.Identifiers.{identifier_of}
use Rattle.lp_term.specs.LambdaPi.{Term as TheoryTerm, under_binder}
use Rattle.lp_term.specs.Names.{any_name}
use Rattle.lp_term.specs.Signature.{Extends}
use Rattle.lp_term.specs.Typing.{Declaration}
use Rattle.nd_term.proofs.FormulaViews.{theory-All, theory-And, theory-Any, theory-App, theory-Atom, theory-Ex, theory-False, theory-Iff, theory-Imp, theory-Not, theory-Or, theory-True, theory-Var}
use Rattle.nd_term.proofs.ListLaws.{every_parts}
use Rattle.nd_term.proofs.OutputSteps.{output-Any, output_plain, output_skolem}
use Rattle.nd_term.specs.Eigenvariables.{IsOrigin, Unused}
use Rattle.nd_term.specs.Formulas.{Formula as TheoryFormula, FormulaTerm, GroundTerm, applied, atomic, conjunction, disjunction, eigenvariable, equivalence, existential, extended, falsity, ground_by, ground_symbol, implication, literal, negation, symbol, truth, unassigned, universal}
use Rattle.nd_term.specs.Outputs.{ground_applied_each, output_clause, output_literal, place_of}
use Rattle.nd_term.specs.Reading.{Choices, read, read_as, with_both, with_choice, with_node, with_witness}
use Rattle.nd_term.specs.Symbols.{GroundOver, over_ground_symbol}
use Rattle.nd_term.specs.ThinTrees.{Fits, ThinTree, below_not, both, choice, eigenvariable_at, fits_all, fits_all_eigenvariable, fits_all_vacuous, fits_and, fits_and_left, fits_and_right, fits_atom, fits_ex, fits_ex_eigenvariable, fits_ex_vacuous, fits_false, fits_iff_either, fits_iff_left, fits_iff_neither, fits_iff_right, fits_imp, fits_imp_left, fits_imp_right, fits_not, fits_or, fits_or_left, fits_or_right, fits_true, leaf, left, no_literal, right, vacuous}
use Rattle.nd_term.specs.Translation.{translated, translated_ground}
use Rattle.nd_term.specs.Views.{applied_each, theory_formula, theory_term}
use Rattle.normal_form.proofs.FormulaEquations.{occurs-All, occurs-Ex}
use Rattle.normal_form.specs.Normal.{literal_of}
use Rattle.normal_form.specs.Occurrence.{in_formula}
use Rattle.skolem_order.proofs.SignedLaws.{form-All, form-And, form-Atom, form-Ex, form-False, form-Iff, form-Imp, form-Not, form-Or, form-True}
use Rattle.skolem_order.specs.Meetings.{IsOriginAt, Meets, at_all, at_both, at_ex, at_false, at_left, at_lit, at_right, at_vacuous}
use Rattle.skolem_order.specs.Origins.{args_of, origin_for, origin_of_term, terms_around}
use Rattle.skolem_order.specs.SignedForms.{SignedForm, constant, joined, lit, quantified, signed_form}
use Rattle.skolem_order.specs.declared.origins.Origin.{Origin}
use Rattle.step_skolem.specs.Substitutions.{with_term}
use Rattle.assemble.proofs.ViewLaws.{formula_occurs, translated_same}
use Rattle.assemble.specs.Fitting.{IsPlain, TreesFit, body_of, choices_of, eigenvariable_at as eigenvariable_there, eigenvariable_from, eigenvariable_of, eigenvariables_of, output_of, put_for, quantified_by, symbols_of}

entry_map : {A B : Type 0} (f : A → B) {l : List A} {k : ℕ} {a : A} → Entry l k a → Entry (map f l) k (f a)
entry_map f (entry_here a l) = entry_here (f a) (map f l)
entry_map f (entry_later b e) = entry_later (f b) (entry_map f e)

-- ---- a term with an origin has a Skolem symbol

listed : (origins : List Origin) (x : SymKey) (origin : Origin) → origin_for origins x ≡ Some origin → list_any (same_symbol x) (symbols_of origins) ≡ true
listed [] x origin h = cc
listed (o ∷ origins) x origin h = by_test (same_symbol o.symbol x) refl h (λ w. listed origins x origin w)
  where
    by_test : (b : Bool) → same_symbol o.symbol x ≡ b → cond b (Some o) (origin_for origins x) ≡ Some origin
        → (origin_for origins x ≡ Some origin → list_any (same_symbol x) (symbols_of origins) ≡ true) → (same_symbol x o.symbol || list_any (same_symbol x) (symbols_of origins)) ≡ true
    by_test true e w later =
        let same : o.symbol ≡ x = symbols_same o.symbol x e in
        or_left (same_symbol x o.symbol) (list_any (same_symbol x) (symbols_of origins)) (ap (same_symbol x) same ∙ sym (ap (λ y. same_symbol y x) same) ∙ e)
    by_test false e w later = or_right (same_symbol x o.symbol) (list_any (same_symbol x) (symbols_of origins)) (later w)

origin_App : (origins : List Origin) (f : SymKey) (args : List Term) → origin_of_term origins (App f args) ≡ origin_for origins f
origin_App origins f args = search (rules, of_terms)

origin_Var : (origins : List Origin) (n : ℕ) → origin_of_term origins (Var n) ≡ None
origin_Var origins n = search (rules, of_terms)

origin_Any : (origins : List Origin) → origin_of_term origins Any ≡ None
origin_Any origins = search (rules, of_terms)

-- its head is a Skolem symbol
record IsHeaded (origins : List Origin) (t : Term) : Type 0 where
  pub head : SymKey
  pub args : List Term
  pub same : t ≡ App head args
  pub skolem : list_any (same_symbol head) (symbols_of origins) ≡ true

headed : (origins : List Origin) (t : Term) (origin : Origin) → origin_of_term origins t ≡ Some origin → IsHeaded origins t
headed origins = term_induction (λ t. (origin : Origin) → origin_of_term origins t ≡ Some origin → IsHeaded origins t)
    (λ n origin h. absurd (let e = sym (origin_Var origins n) ∙ h in cc))
    (λ f args each origin h. record { head = f; args = args; same = refl; skolem = listed origins f origin (sym (origin_App origins f args) ∙ h) })
    (λ origin h. absurd (let e = sym (origin_Any origins) ∙ h in cc))

module _ (sig : List Declaration) (extends : Extends sig) (origins : List Origin) (order : List Term) where
  -- the terms of variables in proof terms
  abbrev outputs : (ℕ → Term) → ℕ → GroundTerm
  outputs z n = output_of origins order (z n)

  outputs_with : (z : ℕ → Term) (t : Term) (u : GroundTerm) → output_of origins order t ≡ u → outputs (with_term t z) ≡ extended u (outputs z)
  outputs_with z t u e = fun_ext each
    where
      each : (n : ℕ) → outputs (with_term t z) n ≡ extended u (outputs z) n
      each zero = e
      each (suc n) = refl

  -- ---- terms of the formula

  ground_each : (s : ℕ → GroundTerm) (h : FormulaTerm) (args : List Term)
      → ground_by s (applied_each h (map theory_term args)) ≡ ground_applied_each (ground_by s h) (map (λ t. ground_by s (theory_term t)) args)
  ground_each s h [] = refl
  ground_each s h (t ∷ rest) = ground_each s (applied h (theory_term t)) rest

  module _ (z : ℕ → Term) where
    abbrev IsPut : Term → Type 0
    IsPut t = Every (IsPlain origins order) (term_occurrences t) → output_of origins order (substituted z t) ≡ ground_by (outputs z) (theory_term t)

    args_put : (args : List Term) → ForEach IsPut args → Every (IsPlain origins order) (occurrences_joined (map term_occurrences args))
        → map (output_of origins order) (map (substituted z) args) ≡ map (λ t. ground_by (outputs z) (theory_term t)) args
    args_put [] h w = refl
    args_put (t ∷ args) h w =
        let parts = every_parts (term_occurrences t) (occurrences_joined (map term_occurrences args)) w in ap₂ (λ x xs. x ∷ xs) (h.0 parts.0) (args_put args h.1 parts.1)

    head_put : (head : SymKey) (args : List Term) → ForEach IsPut args → Every (IsPlain origins order) (occurrences_joined (map term_occurrences args))
        → ground_applied_each (ground_symbol (identifier_of head)) (map (output_of origins order) (map (substituted z) args))
        ≡ ground_by (outputs z) (applied_each (symbol (identifier_of head)) (map theory_term args))
    head_put head args h w =
        ap (ground_applied_each (ground_symbol (identifier_of head))) (args_put args h w) ∙ sym (ground_each (outputs z) (symbol (identifier_of head)) args)

    term_put : (t : Term) → IsPut t
    term_put = term_induction IsPut
        (λ n w. ap (output_of origins order) (substituted-Var z n) ∙ sym (ap (ground_by (outputs z)) (theory-Var n)))
        (λ head args h w. let plain = subst (Every (IsPlain origins order)) (occurrences-App head args) w in
        ap (output_of origins order) (substituted-App z head args)
        ∙ output_plain (symbols_of origins) order (App head (map (substituted z) args)) head (map (substituted z) args) refl (every_head plain)
        ∙ head_put head args h (every_tail plain) ∙ sym (ap (ground_by (outputs z)) (theory-App head args)))
        (λ w. ap (output_of origins order) (substituted-Any z) ∙ output-Any (symbols_of origins) order ∙ sym (ap (ground_by (outputs z)) theory-Any))

    literal_put : (sign : Bool) (p : SymKey) (args : List Term) → Every (IsPlain origins order) (p ∷ occurrences_joined (map term_occurrences args))
        → output_literal (symbols_of origins) order (instance z (literal_of sign p args)) ≡ literal sign (ground_by (outputs z) (applied_each (symbol (identifier_of p)) (map theory_term args)))
    literal_put sign p args w = ap (literal sign) (head_put p args (for_each IsPut term_put args) (every_tail w))

  -- ---- origins

  met_positive : (t : Term) (sign : Bool) (f : Formula) (z : ℕ → Term) → IsOriginAt origins t sign f z → (eigenvariable_of origins order t).positive ≡ sign
  met_positive t sign f z at =
      ap (λ o. (eigenvariable_from origins order (args_of t) o).positive) at.listed ∙ ap (λ x. (eigenvariable_there origins order (args_of t) at.origin x).positive) at.found ∙ at.positive

  met_is : (t : Term) (sign : Bool) (f : Formula) (z : ℕ → Term) (at : IsOriginAt origins t sign f z)
      → eigenvariable_of origins order t ≡ quantified_by origins order sign f (terms_around at.origin at.spot.around (args_of t))
  met_is t sign f z at =
      ap (eigenvariable_from origins order (args_of t)) at.listed ∙ ap (eigenvariable_there origins order (args_of t) at.origin) at.found
      ∙ ap₂ (λ b g. quantified_by origins order b g (terms_around at.origin at.spot.around (args_of t))) at.positive at.formula

  met_origin : (t : Term) (sign : Bool) (f a : Formula) (z : ℕ → Term) → IsOriginAt origins t sign f z → body_of f ≡ a → ((k : ℕ) → in_formula f k ≡ in_formula a (suc k))
      → IsOrigin (eigenvariable_of origins order t) (theory_formula a) (outputs z)
  met_origin t sign f a z at body inside =
      subst (λ o. IsOrigin o (theory_formula a) (outputs z)) (sym (met_is t sign f z at)) here
    where
      around : List Term
      around = terms_around at.origin at.spot.around (args_of t)

      put_same : (k : ℕ) → in_formula f k ≡ true → output_of origins order (z k) ≡ put_for origins order f around k
      put_same k i =
          ap (output_of origins order) (sym (at.terms k i)) ∙ sym (ap (λ b. cond b (output_of origins order (term_at around k)) (ground_symbol any_name)) i)

      below : (x : ℕ → TheoryTerm) (k : ℕ) → in_formula a k ≡ true
          → under_binder (λ n. translated_ground x (output_of origins order (z n))) k ≡ under_binder (λ n. translated_ground x (put_for origins order f around n)) k
      below x zero i = refl
      below x (suc k) i = ap (λ u. under_binder (λ n. u) 1) (ap (translated_ground x) (put_same k (inside k ∙ i)))

      here : IsOrigin (quantified_by origins order sign f around) (theory_formula a) (outputs z)
      here x =
          translated_same a (under_binder (λ n. translated_ground x (output_of origins order (z n)))) (under_binder (λ n. translated_ground x (put_for origins order f around n))) (below x)
          ∙ ap (λ g. translated (under_binder (λ n. translated_ground x (put_for origins order f around n))) (theory_formula g)) (sym body)

  unused : (a : Formula) → in_formula a 0 ≡ false → Unused (theory_formula a)
  unused a none v w h = translated_same a v w agree
    where
      agree : (k : ℕ) → in_formula a k ≡ true → v k ≡ w k
      agree zero i = absurd (let e : true ≡ false = sym i ∙ none in cc)
      agree (suc k) i = h k

  -- ---- choices

  abbrev in_front : List Bool → List Term → List Term → Choices → Choices
  in_front picks terms skolems rest = record {
    sides = picks ++ rest.sides;
    terms = map (output_of origins order) terms ++ rest.terms;
    eigens = map (place_of order) skolems ++ rest.eigens;
  }

  abbrev choices_as : List Bool → List GroundTerm → List ℕ → Choices
  choices_as sides terms eigens = record { sides = sides; terms = terms; eigens = eigens }

  front_both : (p q : List Bool) (t u k l : List Term) (rest : Choices) → in_front (p ++ q) (t ++ u) (k ++ l) rest ≡ in_front p t k (in_front q u l rest)
  front_both p q t u k l rest =
      ap (λ x. choices_as x (map (output_of origins order) (t ++ u) ++ rest.terms) (map (place_of order) (k ++ l) ++ rest.eigens)) (append_assoc p q rest.sides)
      ∙ ap (λ x. choices_as (p ++ (q ++ rest.sides)) x (map (place_of order) (k ++ l) ++ rest.eigens))
      (ap (λ x. x ++ rest.terms) (map_both (output_of origins order) t u) ∙ append_assoc (map (output_of origins order) t) (map (output_of origins order) u) rest.terms)
      ∙ ap (λ x. choices_as (p ++ (q ++ rest.sides)) (map (output_of origins order) t ++ (map (output_of origins order) u ++ rest.terms)) x)
      (ap (λ x. x ++ rest.eigens) (map_both (place_of order) k l) ∙ append_assoc (map (place_of order) k) (map (place_of order) l) rest.eigens)

  -- ---- trees

  record IsFitted (f : TheoryFormula) (b : Bool) (z : ℕ → Term) (picks : List Bool) (terms skolems : List Term) (ends : List Literal) : Type 0 where
    pub tree : ThinTree
    pub reads : (rest : Choices) → read f b (in_front picks terms skolems rest) ≡ read_as tree rest
    pub fits : Fits sig (eigenvariables_of origins order) b f (outputs z) tree (output_clause (symbols_of origins) order ends)

  -- two trees one after the other, as they are read
  both_read : {f h : TheoryFormula} {b c : Bool} {z : ℕ → Term} {p q : List Bool} {t u k l : List Term} {e d : List Literal}
      → (i : IsFitted f b z p t k e) (j : IsFitted h c z q u l d) (rest : Choices)
      → with_both (read f b (in_front (p ++ q) (t ++ u) (k ++ l) rest)) (read h c) ≡ read_as (both i.tree j.tree) rest
  both_read {f = f} {h = h} {b = b} {c = c} {p = p} {q = q} {t = t} {u = u} {k = k} {l = l} i j rest =
      ap (λ x. with_both (read f b x) (read h c)) (front_both p q t u k l rest) ∙ ap (λ r. with_both r (read h c)) (i.reads (in_front q u l rest))
      ∙ ap (λ r. read_as (both i.tree r.tree) r.rest) (j.reads rest)

  both_ends : (e d : List Literal) → output_clause (symbols_of origins) order e ++ output_clause (symbols_of origins) order d ≡ output_clause (symbols_of origins) order (e ++ d)
  both_ends e d = sym (map_both (output_literal (symbols_of origins) order) e d)

  abbrev FitsTo : TheoryFormula → Bool → (ℕ → Term) → ThinTree → List Literal → Type 0
  FitsTo f b z tree ends = Fits sig (eigenvariables_of origins order) b f (outputs z) tree (output_clause (symbols_of origins) order ends)

  -- the same with the literals of both, where the parts' clauses are appended
  of_both : (f : TheoryFormula) (b : Bool) (z : ℕ → Term) (tree : ThinTree) (e d : List Literal)
      → Fits sig (eigenvariables_of origins order) b f (outputs z) tree (output_clause (symbols_of origins) order e ++ output_clause (symbols_of origins) order d) → FitsTo f b z tree (e ++ d)
  of_both f b z tree e d w = subst (Fits sig (eigenvariables_of origins order) b f (outputs z) tree) (both_ends e d) w

  -- ---- formulas

  abbrev AreOver : List Term → Type 0
  AreOver terms = Every (λ t. GroundOver sig individuals 0 (output_of origins order t)) terms

  abbrev ArePlaced : List Term → Type 0
  ArePlaced skolems = Every (λ t. Entry order (place_of order t) t) skolems

  abbrev IsFit : Formula → Type 0
  IsFit f =
      (b : Bool) (z : ℕ → Term) (picks : List Bool) (terms skolems : List Term) (ends : List Literal)
      → Meets origins z (signed_form f b) picks terms skolems ends → Every (IsPlain origins order) (formula_occurrences f) → AreOver terms → ArePlaced skolems
      → IsFitted (theory_formula f) b z picks terms skolems ends

  by_view : {f g : TheoryFormula} {b : Bool} {z : ℕ → Term} {picks : List Bool} {terms skolems : List Term} {ends : List Literal} → f ≡ g
      → IsFitted g b z picks terms skolems ends → IsFitted f b z picks terms skolems ends
  by_view {b = b} {z = z} {picks = picks} {terms = terms} {skolems = skolems} {ends = ends} e i = subst (λ f. IsFitted f b z picks terms skolems ends) (sym e) i

  by_form : {m n : SignedForm} {z : ℕ → Term} {picks : List Bool} {terms skolems : List Term} {ends : List Literal} → m ≡ n
      → Meets origins z m picks terms skolems ends → Meets origins z n picks terms skolems ends
  by_form {z = z} {picks = picks} {terms = terms} {skolems = skolems} {ends = ends} e m = subst (λ n. Meets origins z n picks terms skolems ends) e m

  -- ---- one kind of formula after the other

  module _ (a : Formula) (h : IsFit a) where
    at_not : (b : Bool) (z : ℕ → Term) (picks : List Bool) (terms skolems : List Term) (ends : List Literal) → IsFitted (theory_formula a) (not b) z picks terms skolems ends
        → IsFitted (negation (theory_formula a)) b z picks terms skolems ends
    at_not b z picks terms skolems ends i = record { tree = below_not i.tree; reads = λ rest. ap (with_node below_not) (i.reads rest); fits = fits_not b i.fits }

    -- a universal with a term for its variable, which occurs
    choice_all : (z : ℕ → Term) (t : Term) (picks : List Bool) (terms skolems : List Term) (ends : List Literal) → in_formula a 0 ≡ true → GroundOver sig individuals 0 (output_of origins order t)
        → IsFitted (theory_formula a) true (with_term t z) picks terms skolems ends → IsFitted (universal (theory_formula a)) true z picks (t ∷ terms) skolems ends
    choice_all z t picks terms skolems ends o over i = record {
      tree = choice (output_of origins order t) i.tree;
      reads = λ rest. ap (λ x. with_choice x (read (theory_formula a) true) (in_front picks (t ∷ terms) skolems rest)) (formula_occurs a 0 ∙ o)
          ∙ ap (with_node (choice (output_of origins order t))) (i.reads rest);
      fits = fits_all over (subst (λ s. Fits sig (eigenvariables_of origins order) true (theory_formula a) s i.tree (output_clause (symbols_of origins) order ends))
          (outputs_with z t (output_of origins order t) refl) i.fits);
    }

    choice_ex : (z : ℕ → Term) (t : Term) (picks : List Bool) (terms skolems : List Term) (ends : List Literal) → in_formula a 0 ≡ true → GroundOver sig individuals 0 (output_of origins order t)
        → IsFitted (theory_formula a) false (with_term t z) picks terms skolems ends → IsFitted (existential (theory_formula a)) false z picks (t ∷ terms) skolems ends
    choice_ex z t picks terms skolems ends o over i = record {
      tree = choice (output_of origins order t) i.tree;
      reads = λ rest. ap (λ x. with_choice x (read (theory_formula a) false) (in_front picks (t ∷ terms) skolems rest)) (formula_occurs a 0 ∙ o)
          ∙ ap (with_node (choice (output_of origins order t))) (i.reads rest);
      fits = fits_ex over (subst (λ s. Fits sig (eigenvariables_of origins order) false (theory_formula a) s i.tree (output_clause (symbols_of origins) order ends))
          (outputs_with z t (output_of origins order t) refl) i.fits);
    }

    any_over : GroundOver sig individuals 0 (ground_symbol any_name)
    any_over = over_ground_symbol 0 (any_declared sig extends)

    below_any : (b : Bool) (z : ℕ → Term) (picks : List Bool) (terms skolems : List Term) (ends : List Literal) (i : IsFitted (theory_formula a) b (with_term Any z) picks terms skolems ends)
        → Fits sig (eigenvariables_of origins order) b (theory_formula a) (extended (ground_symbol any_name) (outputs z)) i.tree (output_clause (symbols_of origins) order ends)
    below_any b z picks terms skolems ends i =
        subst (λ s. Fits sig (eigenvariables_of origins order) b (theory_formula a) s i.tree (output_clause (symbols_of origins) order ends))
        (outputs_with z Any (ground_symbol any_name) (output-Any (symbols_of origins) order)) i.fits

    -- a quantifier whose variable doesn't occur
    vacuous_choice_all : (z : ℕ → Term) (picks : List Bool) (terms skolems : List Term) (ends : List Literal) → in_formula a 0 ≡ false
        → IsFitted (theory_formula a) true (with_term Any z) picks terms skolems ends → IsFitted (universal (theory_formula a)) true z picks terms skolems ends
    vacuous_choice_all z picks terms skolems ends o i = record {
      tree = choice (ground_symbol any_name) i.tree;
      reads = λ rest. ap (λ x. with_choice x (read (theory_formula a) true) (in_front picks terms skolems rest)) (formula_occurs a 0 ∙ o)
          ∙ ap (with_node (choice (ground_symbol any_name))) (i.reads rest);
      fits = fits_all any_over (below_any true z picks terms skolems ends i);
    }

    vacuous_choice_ex : (z : ℕ → Term) (picks : List Bool) (terms skolems : List Term) (ends : List Literal) → in_formula a 0 ≡ false
        → IsFitted (theory_formula a) false (with_term Any z) picks terms skolems ends → IsFitted (existential (theory_formula a)) false z picks terms skolems ends
    vacuous_choice_ex z picks terms skolems ends o i = record {
      tree = choice (ground_symbol any_name) i.tree;
      reads = λ rest. ap (λ x. with_choice x (read (theory_formula a) false) (in_front picks terms skolems rest)) (formula_occurs a 0 ∙ o)
          ∙ ap (with_node (choice (ground_symbol any_name))) (i.reads rest);
      fits = fits_ex any_over (below_any false z picks terms skolems ends i);
    }

    vacuous_ex : (z : ℕ → Term) (picks : List Bool) (terms skolems : List Term) (ends : List Literal) → in_formula a 0 ≡ false
        → IsFitted (theory_formula a) true (with_term Any z) picks terms skolems ends → IsFitted (existential (theory_formula a)) true z picks terms skolems ends
    vacuous_ex z picks terms skolems ends o i = record {
      tree = vacuous i.tree;
      reads = λ rest. ap (λ x. with_witness x (read (theory_formula a) true) (in_front picks terms skolems rest)) (formula_occurs a 0 ∙ o) ∙ ap (with_node vacuous) (i.reads rest);
      fits = fits_ex_vacuous (unused a o) (below_any true z picks terms skolems ends i);
    }

    vacuous_all : (z : ℕ → Term) (picks : List Bool) (terms skolems : List Term) (ends : List Literal) → in_formula a 0 ≡ false
        → IsFitted (theory_formula a) false (with_term Any z) picks terms skolems ends → IsFitted (universal (theory_formula a)) false z picks terms skolems ends
    vacuous_all z picks terms skolems ends o i = record {
      tree = vacuous i.tree;
      reads = λ rest. ap (λ x. with_witness x (read (theory_formula a) false) (in_front picks terms skolems rest)) (formula_occurs a 0 ∙ o) ∙ ap (with_node vacuous) (i.reads rest);
      fits = fits_all_vacuous (unused a o) (below_any false z picks terms skolems ends i);
    }

    below_eigen : (b : Bool) (z : ℕ → Term) (t : Term) (picks : List Bool) (terms skolems : List Term) (ends : List Literal) → IsHeaded origins t
        → (i : IsFitted (theory_formula a) b (with_term t z) picks terms skolems ends)
        → Fits sig (eigenvariables_of origins order) b (theory_formula a) (extended (eigenvariable (place_of order t)) (outputs z)) i.tree (output_clause (symbols_of origins) order ends)
    below_eigen b z t picks terms skolems ends w i =
        subst (λ s. Fits sig (eigenvariables_of origins order) b (theory_formula a) s i.tree (output_clause (symbols_of origins) order ends))
        (outputs_with z t (eigenvariable (place_of order t)) (output_skolem (symbols_of origins) order t w.head w.args w.same w.skolem)) i.fits

    -- an existential with the term whose origin it is
    eigen_ex : (z : ℕ → Term) (t : Term) (picks : List Bool) (terms skolems : List Term) (ends : List Literal) → in_formula a 0 ≡ true → IsOriginAt origins t true (formula.Ex a) z
        → Entry order (place_of order t) t → IsFitted (theory_formula a) true (with_term t z) picks terms skolems ends
        → IsFitted (existential (theory_formula a)) true z picks terms (t ∷ skolems) ends
    eigen_ex z t picks terms skolems ends o at placed i = record {
      tree = eigenvariable_at (place_of order t) i.tree;
      reads = λ rest. ap (λ x. with_witness x (read (theory_formula a) true) (in_front picks terms (t ∷ skolems) rest)) (formula_occurs a 0 ∙ o)
          ∙ ap (with_node (eigenvariable_at (place_of order t))) (i.reads rest);
      fits = fits_ex_eigenvariable (entry_map (eigenvariable_of origins order) placed) (met_positive t true (formula.Ex a) z at)
          (met_origin t true (formula.Ex a) a z at body (λ k. occurs-Ex k a)) (below_eigen true z t picks terms skolems ends (headed origins t at.origin at.listed) i);
    }
      where
        body : body_of (formula.Ex a) ≡ a
        body = search (rules, of_formulas)

    eigen_all : (z : ℕ → Term) (t : Term) (picks : List Bool) (terms skolems : List Term) (ends : List Literal) → in_formula a 0 ≡ true → IsOriginAt origins t false (formula.All a) z
        → Entry order (place_of order t) t → IsFitted (theory_formula a) false (with_term t z) picks terms skolems ends
        → IsFitted (universal (theory_formula a)) false z picks terms (t ∷ skolems) ends
    eigen_all z t picks terms skolems ends o at placed i = record {
      tree = eigenvariable_at (place_of order t) i.tree;
      reads = λ rest. ap (λ x. with_witness x (read (theory_formula a) false) (in_front picks terms (t ∷ skolems) rest)) (formula_occurs a 0 ∙ o)
          ∙ ap (with_node (eigenvariable_at (place_of order t))) (i.reads rest);
      fits = fits_all_eigenvariable (entry_map (eigenvariable_of origins order) placed) (met_positive t false (formula.All a) z at)
          (met_origin t false (formula.All a) a z at body (λ k. occurs-All k a)) (below_eigen false z t picks terms skolems ends (headed origins t at.origin at.listed) i);
    }
      where
        body : body_of (formula.All a) ≡ a
        body = search (rules, of_formulas)

    -- a quantified formula, by its form
    all_true : (o : Bool) (z : ℕ → Term) (picks : List Bool) (terms skolems : List Term) (ends : List Literal) → in_formula a 0 ≡ o
        → Meets origins z (quantified o true true (formula.All a) (signed_form a true)) picks terms skolems ends → Every (IsPlain origins order) (formula_occurrences a)
        → AreOver terms → ArePlaced skolems → IsFitted (universal (theory_formula a)) true z picks terms skolems ends
    all_true true z picks _ skolems ends e (at_all _ _ t _ terms _ _ ground m) p v w =
        choice_all z t picks terms skolems ends e (every_head v) (h true (with_term t z) picks terms skolems ends m p (every_tail v) w)
    all_true false z picks terms skolems ends e (at_vacuous _ _ _ _ _ _ m) p v w =
        vacuous_choice_all z picks terms skolems ends e (h true (with_term Any z) picks terms skolems ends m p v w)

    all_false : (o : Bool) (z : ℕ → Term) (picks : List Bool) (terms skolems : List Term) (ends : List Literal) → in_formula a 0 ≡ o
        → Meets origins z (quantified o false false (formula.All a) (signed_form a false)) picks terms skolems ends → Every (IsPlain origins order) (formula_occurrences a)
        → AreOver terms → ArePlaced skolems → IsFitted (universal (theory_formula a)) false z picks terms skolems ends
    all_false true z picks terms _ ends e (at_ex _ _ _ _ t _ _ skolems _ at m) p v w =
        eigen_all z t picks terms skolems ends e at (every_head w) (h false (with_term t z) picks terms skolems ends m p v (every_tail w))
    all_false false z picks terms skolems ends e (at_vacuous _ _ _ _ _ _ m) p v w =
        vacuous_all z picks terms skolems ends e (h false (with_term Any z) picks terms skolems ends m p v w)

    ex_true : (o : Bool) (z : ℕ → Term) (picks : List Bool) (terms skolems : List Term) (ends : List Literal) → in_formula a 0 ≡ o
        → Meets origins z (quantified o false true (formula.Ex a) (signed_form a true)) picks terms skolems ends → Every (IsPlain origins order) (formula_occurrences a)
        → AreOver terms → ArePlaced skolems → IsFitted (existential (theory_formula a)) true z picks terms skolems ends
    ex_true true z picks terms _ ends e (at_ex _ _ _ _ t _ _ skolems _ at m) p v w =
        eigen_ex z t picks terms skolems ends e at (every_head w) (h true (with_term t z) picks terms skolems ends m p v (every_tail w))
    ex_true false z picks terms skolems ends e (at_vacuous _ _ _ _ _ _ m) p v w =
        vacuous_ex z picks terms skolems ends e (h true (with_term Any z) picks terms skolems ends m p v w)

    ex_false : (o : Bool) (z : ℕ → Term) (picks : List Bool) (terms skolems : List Term) (ends : List Literal) → in_formula a 0 ≡ o
        → Meets origins z (quantified o true false (formula.Ex a) (signed_form a false)) picks terms skolems ends → Every (IsPlain origins order) (formula_occurrences a)
        → AreOver terms → ArePlaced skolems → IsFitted (existential (theory_formula a)) false z picks terms skolems ends
    ex_false true z picks _ skolems ends e (at_all _ _ t _ terms _ _ ground m) p v w =
        choice_ex z t picks terms skolems ends e (every_head v) (h false (with_term t z) picks terms skolems ends m p (every_tail v) w)
    ex_false false z picks terms skolems ends e (at_vacuous _ _ _ _ _ _ m) p v w =
        vacuous_choice_ex z picks terms skolems ends e (h false (with_term Any z) picks terms skolems ends m p v w)

  module _ (a b : Formula) (h : IsFit a) (j : IsFit b) where
    -- both parts of an "or"
    two : (x y : Bool) (z : ℕ → Term) (p q : List Bool) (t u k l : List Term) (e d : List Literal)
        → Meets origins z (signed_form a x) p t k e → Meets origins z (signed_form b y) q u l d → Every (IsPlain origins order) (formula_occurrences a) → Every (IsPlain origins order) (formula_occurrences b)
        → AreOver (t ++ u) → ArePlaced (k ++ l) → IsFitted (theory_formula a) x z p t k e × IsFitted (theory_formula b) y z q u l d
    two x y z p q t u k l e d m n pa pb v w = (h x z p t k e m pa (every_front t u v) (every_front k l w), j y z q u l d n pb (every_back t u v) (every_back k l w))

    and_true : (z : ℕ → Term) (picks : List Bool) (terms skolems : List Term) (ends : List Literal) → Meets origins z (joined true (signed_form a true) (signed_form b true)) picks terms skolems ends
        → Every (IsPlain origins order) (formula_occurrences a) → Every (IsPlain origins order) (formula_occurrences b) → AreOver terms → ArePlaced skolems
        → IsFitted (conjunction (theory_formula a) (theory_formula b)) true z picks terms skolems ends
    and_true z _ terms skolems ends (at_left _ _ _ picks _ _ _ m) pa pb v w =
        let i = h true z picks terms skolems ends m pa v w in
        record { tree = left i.tree; reads = λ rest. ap (with_node left) (i.reads rest); fits = fits_and_left (theory_formula b) i.fits }
    and_true z _ terms skolems ends (at_right _ _ _ picks _ _ _ m) pa pb v w =
        let i = j true z picks terms skolems ends m pb v w in
        record { tree = right i.tree; reads = λ rest. ap (with_node right) (i.reads rest); fits = fits_and_right (theory_formula a) i.fits }

    and_false : (z : ℕ → Term) (picks : List Bool) (terms skolems : List Term) (ends : List Literal) → Meets origins z (joined false (signed_form a false) (signed_form b false)) picks terms skolems ends
        → Every (IsPlain origins order) (formula_occurrences a) → Every (IsPlain origins order) (formula_occurrences b) → AreOver terms → ArePlaced skolems
        → IsFitted (conjunction (theory_formula a) (theory_formula b)) false z picks terms skolems ends
    and_false z _ _ _ _ (at_both _ _ _ p q t u k l e d m n) pa pb v w =
        let i = two false false z p q t u k l e d m n pa pb v w in
        record {
          tree = both i.0.tree i.1.tree;
          reads = λ rest. both_read i.0 i.1 rest;
          fits = of_both (conjunction (theory_formula a) (theory_formula b)) false z (both i.0.tree i.1.tree) e d (fits_and i.0.fits i.1.fits);
        }

    or_true : (z : ℕ → Term) (picks : List Bool) (terms skolems : List Term) (ends : List Literal) → Meets origins z (joined false (signed_form a true) (signed_form b true)) picks terms skolems ends
        → Every (IsPlain origins order) (formula_occurrences a) → Every (IsPlain origins order) (formula_occurrences b) → AreOver terms → ArePlaced skolems
        → IsFitted (disjunction (theory_formula a) (theory_formula b)) true z picks terms skolems ends
    or_true z _ _ _ _ (at_both _ _ _ p q t u k l e d m n) pa pb v w =
        let i = two true true z p q t u k l e d m n pa pb v w in
        record {
          tree = both i.0.tree i.1.tree;
          reads = λ rest. both_read i.0 i.1 rest;
          fits = of_both (disjunction (theory_formula a) (theory_formula b)) true z (both i.0.tree i.1.tree) e d (fits_or i.0.fits i.1.fits);
        }

    or_false : (z : ℕ → Term) (picks : List Bool) (terms skolems : List Term) (ends : List Literal) → Meets origins z (joined true (signed_form a false) (signed_form b false)) picks terms skolems ends
        → Every (IsPlain origins order) (formula_occurrences a) → Every (IsPlain origins order) (formula_occurrences b) → AreOver terms → ArePlaced skolems
        → IsFitted (disjunction (theory_formula a) (theory_formula b)) false z picks terms skolems ends
    or_false z _ terms skolems ends (at_left _ _ _ picks _ _ _ m) pa pb v w =
        let i = h false z picks terms skolems ends m pa v w in
        record { tree = left i.tree; reads = λ rest. ap (with_node left) (i.reads rest); fits = fits_or_left (theory_formula b) i.fits }
    or_false z _ terms skolems ends (at_right _ _ _ picks _ _ _ m) pa pb v w =
        let i = j false z picks terms skolems ends m pb v w in
        record { tree = right i.tree; reads = λ rest. ap (with_node right) (i.reads rest); fits = fits_or_right (theory_formula a) i.fits }

    imp_true : (z : ℕ → Term) (picks : List Bool) (terms skolems : List Term) (ends : List Literal) → Meets origins z (joined false (signed_form a false) (signed_form b true)) picks terms skolems ends
        → Every (IsPlain origins order) (formula_occurrences a) → Every (IsPlain origins order) (formula_occurrences b) → AreOver terms → ArePlaced skolems
        → IsFitted (implication (theory_formula a) (theory_formula b)) true z picks terms skolems ends
    imp_true z _ _ _ _ (at_both _ _ _ p q t u k l e d m n) pa pb v w =
        let i = two false true z p q t u k l e d m n pa pb v w in
        record {
          tree = both i.0.tree i.1.tree;
          reads = λ rest. both_read i.0 i.1 rest;
          fits = of_both (implication (theory_formula a) (theory_formula b)) true z (both i.0.tree i.1.tree) e d (fits_imp i.0.fits i.1.fits);
        }

    imp_false : (z : ℕ → Term) (picks : List Bool) (terms skolems : List Term) (ends : List Literal) → Meets origins z (joined true (signed_form a true) (signed_form b false)) picks terms skolems ends
        → Every (IsPlain origins order) (formula_occurrences a) → Every (IsPlain origins order) (formula_occurrences b) → AreOver terms → ArePlaced skolems
        → IsFitted (implication (theory_formula a) (theory_formula b)) false z picks terms skolems ends
    imp_false z _ terms skolems ends (at_left _ _ _ picks _ _ _ m) pa pb v w =
        let i = h true z picks terms skolems ends m pa v w in
        record { tree = left i.tree; reads = λ rest. ap (with_node left) (i.reads rest); fits = fits_imp_left (theory_formula b) i.fits }
    imp_false z _ terms skolems ends (at_right _ _ _ picks _ _ _ m) pa pb v w =
        let i = j false z picks terms skolems ends m pb v w in
        record { tree = right i.tree; reads = λ rest. ap (with_node right) (i.reads rest); fits = fits_imp_right (theory_formula a) i.fits }

  module _ (a b : Formula) (h : IsFit a) (j : IsFit b) where
    iff_true : (z : ℕ → Term) (picks : List Bool) (terms skolems : List Term) (ends : List Literal)
        → Meets origins z (joined true (joined false (signed_form a false) (signed_form b true)) (joined false (signed_form b false) (signed_form a true))) picks terms skolems ends
        → Every (IsPlain origins order) (formula_occurrences a) → Every (IsPlain origins order) (formula_occurrences b) → AreOver terms → ArePlaced skolems
        → IsFitted (equivalence (theory_formula a) (theory_formula b)) true z picks terms skolems ends
    iff_true z _ _ _ _ (at_left _ _ _ _ _ _ _ (at_both _ _ _ p q t u k l e d m n)) pa pb v w =
        let i = two a b h j false true z p q t u k l e d m n pa pb v w in
        record {
          tree = left (both i.0.tree i.1.tree);
          reads = λ rest. ap (with_node left) (both_read i.0 i.1 rest);
          fits = of_both (equivalence (theory_formula a) (theory_formula b)) true z (left (both i.0.tree i.1.tree)) e d (fits_iff_left i.0.fits i.1.fits);
        }
    iff_true z _ _ _ _ (at_right _ _ _ _ _ _ _ (at_both _ _ _ p q t u k l e d m n)) pa pb v w =
        let i = two b a j h false true z p q t u k l e d m n pb pa v w in
        record {
          tree = right (both i.0.tree i.1.tree);
          reads = λ rest. ap (with_node right) (both_read i.0 i.1 rest);
          fits = of_both (equivalence (theory_formula a) (theory_formula b)) true z (right (both i.0.tree i.1.tree)) e d (fits_iff_right i.0.fits i.1.fits);
        }

    iff_false : (z : ℕ → Term) (picks : List Bool) (terms skolems : List Term) (ends : List Literal)
        → Meets origins z (joined true (joined false (signed_form a true) (signed_form b true)) (joined false (signed_form a false) (signed_form b false))) picks terms skolems ends
        → Every (IsPlain origins order) (formula_occurrences a) → Every (IsPlain origins order) (formula_occurrences b) → AreOver terms → ArePlaced skolems
        → IsFitted (equivalence (theory_formula a) (theory_formula b)) false z picks terms skolems ends
    iff_false z _ _ _ _ (at_left _ _ _ _ _ _ _ (at_both _ _ _ p q t u k l e d m n)) pa pb v w =
        let i = two a b h j true true z p q t u k l e d m n pa pb v w in
        record {
          tree = left (both i.0.tree i.1.tree);
          reads = λ rest. ap (with_node left) (both_read i.0 i.1 rest);
          fits = of_both (equivalence (theory_formula a) (theory_formula b)) false z (left (both i.0.tree i.1.tree)) e d (fits_iff_either i.0.fits i.1.fits);
        }
    iff_false z _ _ _ _ (at_right _ _ _ _ _ _ _ (at_both _ _ _ p q t u k l e d m n)) pa pb v w =
        let i = two a b h j false false z p q t u k l e d m n pa pb v w in
        record {
          tree = right (both i.0.tree i.1.tree);
          reads = λ rest. ap (with_node right) (both_read i.0 i.1 rest);
          fits = of_both (equivalence (theory_formula a) (theory_formula b)) false z (right (both i.0.tree i.1.tree)) e d (fits_iff_neither i.0.fits i.1.fits);
        }

  -- ---- every formula

  front_none : (rest : Choices) → in_front [] [] [] rest ≡ rest
  front_none rest = refl

  -- a constant of which a thin tree can be
  constant_fit : (f : TheoryFormula) (b truth_of : Bool) (z : ℕ → Term) (picks : List Bool) (terms skolems : List Term) (ends : List Literal)
      → ((c : Choices) → read f b c ≡ read_as no_literal c) → (truth_of ≡ false → Fits sig (eigenvariables_of origins order) b f (outputs z) no_literal [])
      → Meets origins z (constant truth_of) picks terms skolems ends → IsFitted f b z picks terms skolems ends
  constant_fit f b _ z _ _ _ _ reads fits (at_false _) = record { tree = no_literal; reads = λ rest. reads (in_front [] [] [] rest) ∙ ap (read_as no_literal) (front_none rest); fits = fits refl }

  atom_fit : (p : SymKey) (args : List Term) (b : Bool) (z : ℕ → Term) (picks : List Bool) (terms skolems : List Term) (ends : List Literal)
      → Meets origins z (lit (literal_of b p args)) picks terms skolems ends → Every (IsPlain origins order) (p ∷ occurrences_joined (map term_occurrences args))
      → IsFitted (atomic (applied_each (symbol (identifier_of p)) (map theory_term args))) b z picks terms skolems ends
  atom_fit p args b z _ _ _ _ (at_lit _ _) w = record {
    tree = leaf;
    reads = λ rest. ap (read_as leaf) (front_none rest);
    fits = subst (λ l. Fits sig (eigenvariables_of origins order) b (atomic (applied_each (symbol (identifier_of p)) (map theory_term args))) (outputs z) leaf (l ∷ []))
        (sym (literal_put z b p args w)) (fits_atom b (applied_each (symbol (identifier_of p)) (map theory_term args)) (outputs z));
  }

  formula_fit : (f : Formula) → IsFit f
  formula_fit = formula_induction IsFit at_true at_false_formula at_atom at_negation at_and at_or at_imp at_iff at_universal at_existential
    where
      at_true : IsFit formula.True
      at_true b z picks terms skolems ends m p v w =
          by_view theory-True (constant_fit truth b b z picks terms skolems ends (λ c. refl) (λ e. subst (λ x. Fits sig (eigenvariables_of origins order) x truth (outputs z) no_literal []) (sym e) (fits_true (outputs z)))
          (by_form (form-True b) m))

      at_false_formula : IsFit formula.False
      at_false_formula b z picks terms skolems ends m p v w =
          by_view theory-False (constant_fit falsity b (not b) z picks terms skolems ends (λ c. refl) (λ e. of_sign b e) (by_form (form-False b) m))
        where
          of_sign : (x : Bool) → not x ≡ false → Fits sig (eigenvariables_of origins order) x falsity (outputs z) no_literal []
          of_sign true e = fits_false (outputs z)
          of_sign false e = cc

      at_atom : (p : SymKey) (args : List Term) → IsFit (formula.Atom p args)
      at_atom q args b z picks terms skolems ends m p v w =
          by_view (theory-Atom q args) (atom_fit q args b z picks terms skolems ends (by_form (form-Atom q args b) m) (subst (Every (IsPlain origins order)) (occurrences-Atom q args) p))

      at_negation : (a : Formula) → IsFit a → IsFit (formula.Not a)
      at_negation a h b z picks terms skolems ends m p v w =
          by_view (theory-Not a) (at_not a h b z picks terms skolems ends
          (h (not b) z picks terms skolems ends (by_form (form-Not a b) m) (subst (Every (IsPlain origins order)) (occurrences-Not a) p) v w))

      parts : (a b : Formula) (l : List SymKey) → l ≡ formula_occurrences a ++ formula_occurrences b → Every (IsPlain origins order) l
          → Every (IsPlain origins order) (formula_occurrences a) × Every (IsPlain origins order) (formula_occurrences b)
      parts a b l e p = every_parts (formula_occurrences a) (formula_occurrences b) (subst (Every (IsPlain origins order)) e p)

      at_and : (a b : Formula) → IsFit a → IsFit b → IsFit (formula.And a b)
      at_and a b h j true z picks terms skolems ends m p v w =
          let o = parts a b (formula_occurrences (formula.And a b)) (occurrences-And a b) p in
          by_view (theory-And a b) (and_true a b h j z picks terms skolems ends (by_form (form-And a b true) m) o.0 o.1 v w)
      at_and a b h j false z picks terms skolems ends m p v w =
          let o = parts a b (formula_occurrences (formula.And a b)) (occurrences-And a b) p in
          by_view (theory-And a b) (and_false a b h j z picks terms skolems ends (by_form (form-And a b false) m) o.0 o.1 v w)

      at_or : (a b : Formula) → IsFit a → IsFit b → IsFit (formula.Or a b)
      at_or a b h j true z picks terms skolems ends m p v w =
          let o = parts a b (formula_occurrences (formula.Or a b)) (occurrences-Or a b) p in
          by_view (theory-Or a b) (or_true a b h j z picks terms skolems ends (by_form (form-Or a b true) m) o.0 o.1 v w)
      at_or a b h j false z picks terms skolems ends m p v w =
          let o = parts a b (formula_occurrences (formula.Or a b)) (occurrences-Or a b) p in
          by_view (theory-Or a b) (or_false a b h j z picks terms skolems ends (by_form (form-Or a b false) m) o.0 o.1 v w)

      at_imp : (a b : Formula) → IsFit a → IsFit b → IsFit (formula.Imp a b)
      at_imp a b h j true z picks terms skolems ends m p v w =
          let o = parts a b (formula_occurrences (formula.Imp a b)) (occurrences-Imp a b) p in
          by_view (theory-Imp a b) (imp_true a b h j z picks terms skolems ends (by_form (form-Imp a b true) m) o.0 o.1 v w)
      at_imp a b h j false z picks terms skolems ends m p v w =
          let o = parts a b (formula_occurrences (formula.Imp a b)) (occurrences-Imp a b) p in
          by_view (theory-Imp a b) (imp_false a b h j z picks terms skolems ends (by_form (form-Imp a b false) m) o.0 o.1 v w)

      at_iff : (a b : Formula) → IsFit a → IsFit b → IsFit (formula.Iff a b)
      at_iff a b h j true z picks terms skolems ends m p v w =
          let o = parts a b (formula_occurrences (formula.Iff a b)) (occurrences-Iff a b) p in
          by_view (theory-Iff a b) (iff_true a b h j z picks terms skolems ends (by_form (form-Iff a b true) m) o.0 o.1 v w)
      at_iff a b h j false z picks terms skolems ends m p v w =
          let o = parts a b (formula_occurrences (formula.Iff a b)) (occurrences-Iff a b) p in
          by_view (theory-Iff a b) (iff_false a b h j z picks terms skolems ends (by_form (form-Iff a b false) m) o.0 o.1 v w)

      at_universal : (a : Formula) → IsFit a → IsFit (formula.All a)
      at_universal a h true z picks terms skolems ends m p v w =
          by_view (theory-All a) (all_true a h (in_formula a 0) z picks terms skolems ends refl (by_form (form-All a true) m) (subst (Every (IsPlain origins order)) (occurrences-All a) p) v w)
      at_universal a h false z picks terms skolems ends m p v w =
          by_view (theory-All a) (all_false a h (in_formula a 0) z picks terms skolems ends refl (by_form (form-All a false) m) (subst (Every (IsPlain origins order)) (occurrences-All a) p) v w)

      at_existential : (a : Formula) → IsFit a → IsFit (formula.Ex a)
      at_existential a h true z picks terms skolems ends m p v w =
          by_view (theory-Ex a) (ex_true a h (in_formula a 0) z picks terms skolems ends refl (by_form (form-Ex a true) m) (subst (Every (IsPlain origins order)) (occurrences-Ex a) p) v w)
      at_existential a h false z picks terms skolems ends m p v w =
          by_view (theory-Ex a) (ex_false a h (in_formula a 0) z picks terms skolems ends refl (by_form (form-Ex a false) m) (subst (Every (IsPlain origins order)) (occurrences-Ex a) p) v w)

abbrev nothing_left : Choices
nothing_left = record { sides = []; terms = []; eigens = [] }

pub trees_fit : TreesFit
trees_fit sig origins order f thin ends extends meets plain over placed =
    let i = formula_fit sig extends origins order f thin.sign (λ k. Any) thin.picks thin.terms thin.skolems ends meets plain over placed in
    let values = fun_ext (λ (n : ℕ). output-Any (symbols_of origins) order) in
    let front : in_front sig extends origins order thin.picks thin.terms thin.skolems nothing_left ≡ choices_of origins order thin =
    ap (λ x. choices_as sig extends origins order x (map (output_of origins order) thin.terms ++ []) (map (place_of order) thin.skolems ++ [])) (append-nil thin.picks)
    ∙ ap₂ (choices_as sig extends origins order thin.picks) (append-nil (map (output_of origins order) thin.terms)) (append-nil (map (place_of order) thin.skolems)) in
    let tree = ap (λ r. r.tree) (sym (i.reads nothing_left) ∙ ap (read (theory_formula f) thin.sign) front) in
    subst (λ t. Fits sig (eigenvariables_of origins order) thin.sign (theory_formula f) unassigned t (output_clause (symbols_of origins) order ends)) tree
    (subst (λ s. Fits sig (eigenvariables_of origins order) thin.sign (theory_formula f) s i.tree (output_clause (symbols_of origins) order ends)) values i.fits)
