-- What follows from a full image follows from the relaxed image under its first symbols.
use Rattle.std.proofs.Common.{◌≡◌, ◌<◌, ℕ, zero, suc, List, [], ◌∷◌, ◌++◌, get_or, slice_get, length, map, Some, refl, sym, subst, ap, ap₂, ◌∙◌, arith, inl, inr}
use Rattle.std.proofs.lemmas.List.{get_or_append_left, map-append}
use Rattle.dk_syntax.proofs.SubstitutionLaws.{substituted-Var}
use Rattle.dk_syntax.specs.Terms.{substituted, instance}
use Rattle.dk_syntax.specs.declared.Clause.{Clause}
use Rattle.dk_syntax.specs.declared.Literal.{Literal}
use Rattle.dk_syntax.specs.declared.SymKey.{SymKey}
use Rattle.dk_syntax.specs.declared.Term.{Term}
use Rattle.dk_syntax.specs.declared.Term.TheVariants.{Var}
use Rattle.normal_form.proofs.RowLaws.{literals_back}
use Rattle.normal_form.specs.ClauseLists.{clause_rows, quants_of, row_of, rows_of}
use Rattle.normal_form.specs.Forms.{form_of}
use Rattle.normal_form.specs.Renaming.{owner, place_of, renamed_literal}
use Rattle.normal_form.specs.declared.clause_list.ClauseList.{ClauseList}
use Rattle.normal_form.specs.declared.clause_list.ClauseRow.{ClauseRow}
use Rattle.normal_form.specs.declared.form.Nf.{Nf}
use Rattle.normal_form.specs.declared.raw.Raw.{Raw}
use Rattle.step_clause.specs.Candidates.{affirmed, ArePicked, Candidate, denied, IsClause, resolution, Subsumes, subsumption, Works}
use Rattle.step_clause.specs.Justifications.{candidate_of}
use Rattle.step_compose.proofs.Justified.{justified_at}
use Rattle.step_compose.proofs.OneComposed.{same_some}
use Rattle.step_compose.proofs.Relaxation.{args_agree, by_list, instance_after, put_in, renames_literal, rows_are_put, terms_for, with_args}
use Rattle.step_compose.specs.Composing.{symbol_by, symbol_in, symbols_at}
use Rattle.step_compose.specs.FullImages.{nameless}
use Rattle.step_compose.specs.Relaxing.{relaxed}
use Rattle.step_compose.specs.Searching.{FreeBelow, HasUnjustified, NoneAfter}

-- ---- clauses

fused : (p o : ℕ → ℕ) (s : ℕ → Term) (l : Literal) → renamed_literal p (instance s (renamed_literal o l)) ≡ instance (λ j. substituted (λ k. Var (p k)) (s (o j))) l
fused p o s l =
    renames_literal p (instance s (renamed_literal o l))
    ∙ ap (λ x. instance (λ k. Var (p k)) (instance s x)) (renames_literal o l)
    ∙ ap (instance (λ k. Var (p k))) (instance_after s (λ j. Var (o j)) l)
    ∙ instance_after (λ k. Var (p k)) (λ j. substituted s (Var (o j))) l
    ∙ ap (with_args l) (args_agree (λ j. substituted (λ k. Var (p k)) (substituted s (Var (o j)))) (λ j. substituted (λ k. Var (p k)) (s (o j))) l.args
    (λ j e. ap (substituted (λ k. Var (p k))) (substituted-Var s (o j))))

all_fused : (p o : ℕ → ℕ) (s : ℕ → Term) (lits : List Literal)
    → map (renamed_literal p) (map (instance s) (map (renamed_literal o) lits)) ≡ map (instance (λ j. substituted (λ k. Var (p k)) (s (o j)))) lits
all_fused p o s [] = refl
all_fused p o s (l ∷ lits) = ap₂ (λ a b. a ∷ b) (fused p o s l) (all_fused p o s lits)

-- the terms for the variables of a row's clause, where s puts terms for its universals
terms_of : (ℕ → Term) → Raw → ℕ → Term
terms_of s r j = substituted (λ k. Var (place_of (quants_of (map (instance s) r.lits)) k)) (s (owner (quants_of r.lits) j))

clause_put : (s : ℕ → Term) (r : Raw) → (row_of (put_in s r)).clause.lits ≡ map (instance (terms_of s r)) (row_of r).clause.lits
unfolding terms_of
clause_put s r =
    ap (λ x. map (renamed_literal (place_of (quants_of (map (instance s) r.lits)))) (map (instance s) x)) (sym (literals_back r))
    ∙ all_fused (place_of (quants_of (map (instance s) r.lits))) (owner (quants_of r.lits)) s (row_of r).clause.lits

row_at : (s : ℕ → Term) (rows : List Raw) (number : ℕ) (row : ClauseRow) → slice_get (map row_of (map (put_in s) rows)) number ≡ Some row
    → (r : Raw) × (slice_get (map row_of rows) number ≡ Some (row_of r)) × (row_of (put_in s r) ≡ row)
row_at s [] number row h = cc
row_at s (r ∷ rows) zero row h = (r, refl, same_some (Some (row_of (put_in s r))) (row_of (put_in s r)) row refl h)
row_at s (r ∷ rows) (suc k) row h = row_at s rows k row h

-- ---- candidates

subsumes_back : (t u : ℕ → Term) (target lits : List Literal) (picks : List ℕ) → Subsumes t target (map (instance u) lits) picks → Subsumes (λ k. substituted t (u k)) target lits picks
subsumes_back t u target [] [] h = h
subsumes_back t u target [] (p ∷ picks) h = h
subsumes_back t u target (l ∷ lits) [] h = h
subsumes_back t u target (l ∷ lits) (p ∷ picks) h = (h.0 ∙ ap Some (instance_after t u l), subsumes_back t u target lits picks h.1)

picked_back : (t u : ℕ → Term) (target : List Literal) (pivot : Literal) (lits : List Literal) (picks : List ℕ) → ArePicked t target pivot (map (instance u) lits) picks
    → ArePicked (λ k. substituted t (u k)) target pivot lits picks
picked_back t u target pivot [] [] h = h
picked_back t u target pivot [] (p ∷ picks) h = h
picked_back t u target pivot (l ∷ lits) [] h = h
picked_back t u target pivot (l ∷ lits) (p ∷ picks) h =
    (elim h.0 [ inl e ↦ inl (e ∙ ap Some (instance_after t u l)) | inr (e, q) ↦ inr (sym (instance_after t u l) ∙ e, q) ], picked_back t u target pivot lits picks h.1)

module _ (s : ℕ → Term) (rows : List Raw) (image more : ClauseList) (full : image.rows ≡ map row_of (map (put_in s) rows)) (few : more.rows ≡ map row_of rows) where
  clause_back : (parent number : ℕ) (c : Clause) → IsClause (image ∷ []) parent number c
      → (d : Clause) × (u : ℕ → Term) × IsClause (more ∷ []) parent number d × (c.lits ≡ map (instance u) d.lits)
  clause_back (suc parent) number c (list, row, at, is, e) = cc
  clause_back zero number c (list, row, at, is, e) =
      let same : image ≡ list = same_some (Some image) image list refl at in
      let w = row_at s rows number row (ap (λ x. slice_get x number) (sym full) ∙ ap (λ (x : ClauseList). slice_get x.rows number) same ∙ is) in (
        (row_of w.0).clause,
        terms_of s w.0,
        (more, row_of w.0, refl, ap (λ x. slice_get x number) few ∙ w.1, refl),
        ap (λ (x : Clause). x.lits) (sym e) ∙ ap (λ (x : ClauseRow). x.clause.lits) (sym w.2) ∙ clause_put s w.0,
      )

  works_back : (target : Clause) (c : Candidate) → Works target (image ∷ []) c → Works target (more ∷ []) c
  works_back target (subsumption parent number picks) (c, is, (t, h)) =
      let w = clause_back parent number c is in
      (w.0, w.2, ((λ k. substituted t (w.1 k)), subsumes_back t w.1 target.lits w.0.lits picks (subst (λ x. Subsumes t target.lits x picks) w.3 h)))
  works_back target (resolution parent number other other_number picks other_picks) (c, d, is, so, (t, u, (pred, args, h, k))) =
      let w = clause_back parent number c is in
      let v = clause_back other other_number d so in (
        w.0,
        v.0,
        w.2,
        v.2,
        (
          (λ k. substituted t (w.1 k)),
          (λ k. substituted u (v.1 k)),
          (
            pred,
            args,
            (picked_back t w.1 target.lits (affirmed pred args) w.0.lits picks (subst (λ x. ArePicked t target.lits (affirmed pred args) x picks) w.3 h.0), h.1),
            (picked_back u v.1 target.lits (denied pred args) v.0.lits other_picks (subst (λ x. ArePicked u target.lits (denied pred args) x other_picks) v.3 k.0), k.1),
          ),
        ),
      )

-- ---- branches that end

first_symbols : (aliens : List SymKey) (places rest : List ℕ) (symbols : List SymKey) → symbols ≡ symbols_at aliens places → (e : ℕ) → e < length symbols
    → symbol_by aliens (places ++ rest) e ≡ symbol_in symbols e
first_symbols aliens places rest symbols same e less =
    ap (λ x. get_or x e nameless) (map-append (λ place. get_or aliens place nameless) places rest)
    ∙ get_or_append_left (symbols_at aliens places) (symbols_at aliens rest) nameless e (subst (λ (x : List SymKey). e < length x) same less)
    ∙ ap (λ x. get_or x e nameless) (sym same)

-- where a target doesn't follow from the relaxed image under the symbols chosen, no map with them composes
pub hopeless : (n : Nf) (aliens : List SymKey) (targets : List ClauseRow) (places : List ℕ) (symbols : List SymKey) (image : ClauseList) → FreeBelow 0 n → symbols ≡ symbols_at aliens places
    → image.rows ≡ clause_rows (relaxed symbols n) → HasUnjustified targets (image ∷ []) → NoneAfter n aliens targets places
hopeless n aliens targets places symbols image closed same listed (k, row, at, none) rest composed it =
    let put = rows_are_put symbols (symbol_by aliens (places ++ rest)) (form_of n) (first_symbols aliens places rest symbols same) (λ k f. let l = closed k f in omega (arith, l)) in
    let found = justified_at targets (composed.image ∷ []) composed.steps it.steps k row at in
    none (candidate_of found.0)
    (works_back (by_list (terms_for symbols (symbol_by aliens (places ++ rest)) Var 0 0 0 [] (form_of n) ++ [])) ((rows_of (relaxed symbols n)).1 0 []) composed.image image
    (it.image ∙ ap (map row_of) put) listed row.clause (candidate_of found.0) found.1.0.0)
