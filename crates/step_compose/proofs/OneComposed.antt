-- There is one composed image at most.
use Rattle.std.proofs.Common.{◌≡◌, ℕ, List, [], ◌∷◌, length, Option, Some, None, refl, sym, ap, ap₂, ◌∙◌, subst, arith, inl, inr}
use Rattle.std.proofs.lemmas.Bool.{cases_order}
use Rattle.dk_syntax.specs.declared.SymKey.{SymKey}
use Rattle.normal_form.specs.declared.clause_list.ClauseList.{ClauseList}
use Rattle.normal_form.specs.declared.clause_list.ClauseRow.{ClauseRow}
use Rattle.normal_form.specs.declared.form.Nf.{Nf}
use Rattle.step_clause.proofs.Uniqueness.{one_justification}
use Rattle.step_clause.specs.Candidates.{IsListBefore}
use Rattle.step_clause.specs.Justifications.{IsJustification}
use Rattle.step_clause.specs.declared.justification.Justification.{Justification}
use Rattle.step_compose.specs.Composing.{AreJustified, Composes, IsLeastComposed}
use Rattle.step_compose.specs.Laws.{ComposedIsOne}
use Rattle.step_compose.specs.declared.composed.Composed.{Composed}
use Rattle.step_skolem.specs.declared.map.SkEntry.{SkEntry}

equal_lists : (ns ms : List ℕ) → length ns ≡ length ms → (IsListBefore ns ms → ⊥) → (IsListBefore ms ns → ⊥) → ns ≡ ms
equal_lists [] [] e h k = refl
equal_lists [] (m ∷ ms) e h k = absurd (omega arith)
equal_lists (n ∷ ns) [] e h k = absurd (omega arith)
equal_lists (n ∷ ns) (m ∷ ms) e h k = elim (cases_order n m) [
  | inl same ↦ ap₂ (λ a b. a ∷ b) same (equal_lists ns ms (omega arith) (λ x. h (inr (same, x))) (λ x. k (inr (sym same, x))))
  | inr other ↦ elim other [ inl less ↦ absurd (h (inl less)) | inr more ↦ absurd (k (inl more)) ]
]

-- ---- options

pub some_or_none : {A : Type 0} (x : Option A) (a : A) → x ≡ Some a → x ≡ None → ⊥
some_or_none x a h k = cc

pub same_some : {A : Type 0} (x : Option A) (a b : A) → x ≡ Some a → x ≡ Some b → a ≡ b
same_some x a b h k = cc

-- ---- justified clauses

one_step : (row : ClauseRow) (lists : List ClauseList) (s t : Justification) → IsJustification row.clause lists (Some s) → IsJustification row.clause lists (Some t) → s ≡ t
one_step row lists s t h k = same_some (Some s) s t refl (one_justification row.clause lists (Some s) (Some t) h k)

-- the justifications of the rows' clauses are one list
pub one_justified : (rows : List ClauseRow) (lists : List ClauseList) (ss ts : List Justification) → AreJustified rows lists ss → AreJustified rows lists ts → ss ≡ ts
one_justified [] lists [] [] h k = refl
one_justified [] lists [] (t ∷ ts) h k = absurd k
one_justified [] lists (s ∷ ss) ts h k = absurd h
one_justified (row ∷ rows) lists [] ts h k = absurd h
one_justified (row ∷ rows) lists (s ∷ ss) [] h k = absurd k
one_justified (row ∷ rows) lists (s ∷ ss) (t ∷ ts) h k = ap₂ (λ a b. a ∷ b) (one_step row lists s t h.0 k.0) (one_justified rows lists ss ts h.1 k.1)

-- ---- composed images

abbrev pub list_of : List ClauseRow → ClauseList
list_of rows = record { rows = rows }

abbrev composed_by : List SkEntry → List ClauseRow → List Justification → Composed
composed_by entries rows steps = record { map = record { entries = entries }; image = record { rows = rows }; steps = steps }

-- one value at most composes at some places
pub one_at : (n : Nf) (aliens : List SymKey) (targets : List ClauseRow) (places : List ℕ) (c d : Composed) → Composes n aliens targets places c → Composes n aliens targets places d → c ≡ d
one_at n aliens targets places c d h k =
    let maps : c.map.entries ≡ d.map.entries = h.map_is ∙ sym k.map_is in
    let images : c.image.rows ≡ d.image.rows = h.image ∙ sym k.image in
    let moved = subst (λ x. AreJustified targets (list_of x ∷ []) c.steps) images h.steps in
    let steps : c.steps ≡ d.steps = one_justified targets (d.image ∷ []) c.steps d.steps moved k.steps in
    ap (λ x. composed_by x c.image.rows c.steps) maps ∙ ap (λ x. composed_by d.map.entries x c.steps) images ∙ ap (λ x. composed_by d.map.entries d.image.rows x) steps

one_least : (n : Nf) (aliens : List SymKey) (targets : List ClauseRow) (c d : Composed) → IsLeastComposed n aliens targets c → IsLeastComposed n aliens targets d → c ≡ d
one_least n aliens targets c d (places, h, least) (others, k, least') =
    let e : places ≡ others = equal_lists places others (h.each ∙ sym k.each) (least' places c h) (least others d k) in
    one_at n aliens targets others c d (subst (λ x. Composes n aliens targets x c) e h) k

pub composed_is_one : ComposedIsOne
composed_is_one n aliens targets None None h k = refl
composed_is_one n aliens targets None (Some d) h k = absurd (h k.0 d k.1)
composed_is_one n aliens targets (Some c) None h k = absurd (k h.0 c h.1)
composed_is_one n aliens targets (Some c) (Some d) h k = ap Some (one_least n aliens targets c d h k)
