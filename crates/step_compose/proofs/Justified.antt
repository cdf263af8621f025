-- Justifications of one target after the other.
use Rattle.std.proofs.Common.{◌≡◌, ◌<◌, ℕ, zero, suc, ◌+◌, List, [], ◌∷◌, ◌++◌, get_or, slice_get, length, take, Option, Some, None, MatchOption, refl, sym, subst, ap, ◌∙◌, arith}
use Rattle.std.proofs.lemmas.List.{take_more}
use Rattle.std.proofs.lemmas.Option.{slice_get_read}
use Rattle.std.specs.List.{All}
use Rattle.normal_form.specs.declared.clause_list.ClauseList.{ClauseList}
use Rattle.normal_form.specs.declared.clause_list.ClauseRow.{ClauseRow}
use Rattle.step_clause.proofs.Uniqueness.{one_justification}
use Rattle.step_clause.specs.Justifications.{AreNumbered, IsJustification, IsNumbered, IsNumberedList}
use Rattle.step_clause.specs.declared.justification.Justification.{Justification}
use Rattle.step_compose.proofs.OneComposed.{same_some, some_or_none}
use Rattle.step_compose.specs.Composing.{AreJustified}
use Rattle.step_compose.specs.Searching.{HasUnjustified}
use Rattle.step_compose.specs.declared.targets.Justified.{Justified}

justified_append : (rows : List ClauseRow) (row : ClauseRow) (lists : List ClauseList) (steps : List Justification) (step : Justification)
    → AreJustified rows lists steps → IsJustification row.clause lists (Some step) → AreJustified (rows ++ row ∷ []) lists (steps ++ step ∷ [])
justified_append [] row lists [] step h k = (k, tt)
justified_append [] row lists (s ∷ ss) step h k = absurd h
justified_append (r ∷ rs) row lists [] step h k = absurd h
justified_append (r ∷ rs) row lists (s ∷ ss) step h k = (h.0, justified_append rs row lists ss step h.1 k)

-- the row at a place, in a list that is the same
row_in : (xs rows : List ClauseRow) (i : ℕ) (row : ClauseRow) → xs ≡ rows → row ≡ get_or xs i row → row ≡ get_or rows i row
row_in xs rows i row same is = is ∙ ap (λ l. get_or l i row) same

-- one target more
pub justified_more : (xs rows : List ClauseRow) (i : ℕ) (row : ClauseRow) (lists : List ClauseList) (steps now : List Justification) (found : Option Justification) (step : Justification)
    → xs ≡ rows → i < length xs → row ≡ get_or xs i row → AreJustified (take i rows) lists steps → IsJustification row.clause lists found → found ≡ Some step
    → now ≡ steps ++ step ∷ [] → AreJustified (take (i + 1) rows) lists now
justified_more xs rows i row lists steps now found step same less is h k e made =
    let within : i < length rows = subst (λ (l : List ClauseRow). i < length l) same less in
    subst (λ x. AreJustified (take (i + 1) rows) lists x) (sym made)
    (subst (λ x. AreJustified x lists (steps ++ step ∷ [])) (ap (λ x. take i rows ++ x ∷ []) (row_in xs rows i row same is) ∙ sym (take_more rows i row within))
    (justified_append (take i rows) row lists steps step h (subst (IsJustification row.clause lists) e k)))

-- a target that has none
pub unjustified : (xs rows : List ClauseRow) (i : ℕ) (row : ClauseRow) (lists : List ClauseList) (found : Option Justification) → xs ≡ rows → i < length xs → row ≡ get_or xs i row
    → IsJustification row.clause lists found → found ≡ None → HasUnjustified rows lists
unjustified xs rows i row lists found same less is k e =
    (i, row, slice_get_read rows (length rows) i row refl (subst (λ (l : List ClauseRow). i < length l) same less) (row_in xs rows i row same is), subst (IsJustification row.clause lists) e k)

-- a target is numbered where all are
pub numbered_item : (xs rows : List ClauseRow) (i : ℕ) (row : ClauseRow) → xs ≡ rows → i < length xs → row ≡ get_or xs i row → All (λ r. IsNumbered r.clause) rows → IsNumbered row.clause
numbered_item xs rows i row same less is all =
    subst (λ (x : ClauseRow). IsNumbered x.clause) (sym (row_in xs rows i row same is)) (all i row (subst (λ (l : List ClauseRow). i < length l) same less))

-- the justification of the row at a place
pub justified_at : (rows : List ClauseRow) (lists : List ClauseList) (ss : List Justification) → AreJustified rows lists ss → (k : ℕ) (row : ClauseRow) → slice_get rows k ≡ Some row
    → (s : Justification) × IsJustification row.clause lists (Some s)
justified_at [] lists ss h k row e = cc
justified_at (first ∷ rows) lists [] h k row e = absurd h
justified_at (first ∷ rows) lists (s ∷ ss) h zero row e = (s, subst (λ x. IsJustification x.clause lists (Some s)) (same_some (Some first) first row refl e) h.0)
justified_at (first ∷ rows) lists (s ∷ ss) h (suc k) row e = justified_at rows lists ss h.1 k row e

-- not all are justified where one isn't
pub not_justified : (rows : List ClauseRow) (lists : List ClauseList) (steps : List Justification) → HasUnjustified rows lists → AreJustified rows lists steps → ⊥
not_justified rows lists steps (k, row, at, none) h =
    let s = justified_at rows lists steps h k row at in
    some_or_none (Some s.0) s.0 refl (one_justification row.clause lists (Some s.0) None s.1 none)

-- ---- one list alone

pub alone_numbered : (lists : List ClauseList) (image : ClauseList) → lists ≡ image ∷ [] → IsNumberedList image → AreNumbered lists
alone_numbered lists image e h = subst (λ (l : List ClauseList). AreNumbered l) (sym e) (one_only h)
  where
    one_only : IsNumberedList image → AreNumbered (image ∷ [])
    one_only h zero d less = h
    one_only h (suc k) d less = absurd (omega arith)

abbrev IsJustifiedFrom : List ClauseRow → ClauseList → Option Justified → Type 0
IsJustifiedFrom targets image found =
    MatchOption found (HasUnjustified targets (image ∷ [])) (λ (it : Justified). (it.image ≡ image) × AreJustified targets (image ∷ []) it.steps)

pub unjustified_from : (targets : List ClauseRow) (image : ClauseList) (found : Option Justified) → IsJustifiedFrom targets image found → found ≡ None → HasUnjustified targets (image ∷ [])
unjustified_from targets image found h e = subst (IsJustifiedFrom targets image) e h

pub justified_from : (targets : List ClauseRow) (image : ClauseList) (found : Option Justified) (it : Justified) → IsJustifiedFrom targets image found → found ≡ Some it
    → (it.image ≡ image) × AreJustified targets (it.image ∷ []) it.steps
justified_from targets image found it h e =
    let (same, steps) = subst (IsJustifiedFrom targets image) e h in
    (same, subst (λ x. AreJustified targets (x ∷ []) it.steps) (sym same) steps)
