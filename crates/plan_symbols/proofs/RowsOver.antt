-- The clauses of a form whose literals are over a list of symbols.
use Rattle.std.proofs.Common.{◌≡◌, ℕ, ◌+◌, false, true, List, [], ◌∷◌, map, Some, slice_get, zero, suc, sym, ap, subst, rules}
use Rattle.std.proofs.lemmas.Option.{same_Some}
use Rattle.dk_syntax.specs.Lists.{Every, every_cons, every_nil}
use Rattle.dk_syntax.specs.declared.clause.Literal.{Literal}
use Rattle.dk_syntax.specs.declared.symbol.SymKey.{SymKey}
use Rattle.dk_syntax.specs.declared.term.Term.{Term, the_lemmas as of_terms}
use Rattle.dk_syntax.specs.declared.term.Term.TheVariants.{Any, App, Var}
use Rattle.normal_form.proofs.FormInduction.{form_induction}
use Rattle.normal_form.proofs.FormLaws.{form-All, form-And, form-Lit, form-Or}
use Rattle.normal_form.proofs.RowLaws.{rows-All, rows-And, rows-False, rows-Lit, rows-Or}
use Rattle.normal_form.specs.ClauseLists.{beside, clause_rows, pairs_of, quants_of, row_of, rows_of, taking}
use Rattle.normal_form.specs.Forms.{form_of}
use Rattle.normal_form.specs.Renaming.{owner, place_of, renamed, renamed_literal}
use Rattle.normal_form.specs.declared.clause_list.ClauseRow.{ClauseRow}
use Rattle.normal_form.specs.declared.form.Nf.{Nf, the_lemmas as of_forms}
use Rattle.normal_form.specs.declared.form.Nf.TheVariants as nf
use Rattle.normal_form.specs.declared.raw.Raw.{Raw}
use Rattle.plan_symbols.proofs.FormSymbols.{IsFormOver}
use Rattle.plan_symbols.proofs.EveryLaws.{every_both, every_map}
use Rattle.plan_symbols.proofs.TermsOver.{atom_kept, literal_apart, literal_over, var_over}
use Rattle.plan_symbols.specs.Over.{IsLiteralOver, IsTermOver}

-- ---- new numbers

renamed-Var : (p : ℕ → ℕ) (n : ℕ) → renamed p (Var n) ≡ Var (p n)
renamed-Var p n = search (rules, of_terms)

renamed-App : (p : ℕ → ℕ) (s : SymKey) (args : List Term) → renamed p (App s args) ≡ App s (map (renamed p) args)
renamed-App p s args = search (rules, of_terms)

renamed-Any : (p : ℕ → ℕ) → renamed p Any ≡ Any
renamed-Any p = search (rules, of_terms)

-- ---- rows of forms

rows-True : (n : ℕ) (r : List ℕ) → (rows_of nf.True).1 n r ≡ []
rows-True n r = ap (λ z. z.1 n r) (let q : rows_of nf.True ≡ (0, λ n r. []) = search (rules, of_forms) in q)

rows-Ex : (a : Nf) (n : ℕ) (r : List ℕ) → (rows_of (nf.Ex a)).1 n r ≡ []
rows-Ex a n r = ap (λ z. z.1 n r) (let q : rows_of (nf.Ex a) ≡ ((rows_of a).0, λ n r. []) = search (rules, of_forms) in q)

module _ (symbols : List SymKey) where
  pub renamed_over : (new : ℕ → ℕ) (l : Literal) → IsLiteralOver symbols l → IsLiteralOver symbols (renamed_literal new l)
  renamed_over new l h =
      literal_over symbols (renamed_literal new l)
      (atom_kept symbols (renamed new) (λ n. subst (IsTermOver symbols) (sym (renamed-Var new n)) (var_over symbols (new n))) (renamed-App new) (renamed-Any new) l.pred l.args (literal_apart symbols l h))

  abbrev IsRawOver : Raw → Type 0
  IsRawOver row = Every (IsLiteralOver symbols) row.lits

  pairs_over : {l m : List Raw} → Every IsRawOver l → Every IsRawOver m → Every IsRawOver (pairs_of l m)
  pairs_over every_nil k = every_nil
  pairs_over (every_cons {a = a} i h) k = every_both (every_map (beside a) (λ b w. every_both i w) k) (pairs_over h k)

  abbrev HasRows : Nf → Type 0
  HasRows a = IsFormOver symbols (form_of a) → (n : ℕ) (r : List ℕ) → Every IsRawOver ((rows_of a).1 n r)

  raws_over : (a : Nf) → HasRows a
  raws_over = form_induction HasRows
      (λ h n r. subst (Every IsRawOver) (sym (rows-True n r)) every_nil)
      (λ h n r. subst (Every IsRawOver) (sym (rows-False n r)) (every_cons every_nil every_nil))
      (λ l h n r. subst (Every IsRawOver) (sym (rows-Lit l n r)) (every_cons (every_cons (renamed_over (owner r) l (subst (IsFormOver symbols) (form-Lit l) h)) every_nil) every_nil))
      (λ a b g k h n r.
      let w = subst (IsFormOver symbols) (form-And a b) h in
      subst (Every IsRawOver) (sym (rows-And a b n r))
      (every_both (every_map (taking false) (λ x v. v) (g w.0 n r)) (every_map (taking true) (λ x v. v) (k w.1 (n + (rows_of a).0) r))))
      (λ a b g k h n r.
      let w = subst (IsFormOver symbols) (form-Or a b) h in
      subst (Every IsRawOver) (sym (rows-Or a b n r)) (pairs_over (g w.0 n r) (k w.1 (n + (rows_of a).0) r)))
      (λ a g h n r. subst (Every IsRawOver) (sym (rows-All a n r)) (g (subst (IsFormOver symbols) (form-All a) h) (n + 1) (n ∷ r)))
      (λ a g h n r. subst (Every IsRawOver) (sym (rows-Ex a n r)) every_nil)

  -- the literals of the clause are over the symbols
  abbrev pub IsRowOver : ClauseRow → Type 0
  IsRowOver row = Every (IsLiteralOver symbols) row.clause.lits

  row_over : (row : Raw) → IsRawOver row → IsRowOver (row_of row)
  row_over row h = every_map (renamed_literal (place_of (quants_of row.lits))) (renamed_over (place_of (quants_of row.lits))) h

  pub rows_over : (a : Nf) → IsFormOver symbols (form_of a) → Every IsRowOver (clause_rows a)
  rows_over a h = every_map row_of row_over (raws_over a h 0 [])

-- what holds of each element of a list, at a number
pub every_slice : {A : Type 0} {p : A → Type 0} (l : List A) (k : ℕ) (a : A) → Every p l → slice_get l k ≡ Some a → p a
every_slice [] k a h e = absurd cc
every_slice {p = p} (b ∷ l) zero a (every_cons w ws) e = let s : b ≡ a = same_Some b a e in subst p s w
every_slice (b ∷ l) (suc k) a (every_cons w ws) e = every_slice l k a ws e

pub every_only : {A : Type 0} {p q : A → Type 0} {l : List A} → ((a : A) → p a → q a) → Every p l → Every q l
every_only w every_nil = every_nil
every_only w (every_cons {a = a} i h) = every_cons (w a i) (every_only w h)
