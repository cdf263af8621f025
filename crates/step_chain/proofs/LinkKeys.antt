-- Links whose keys are level are one link.
use Rattle.std.proofs.Common.{◌≡◌, ℕ, zero, suc, Bool, true, false, not, List, [], ◌∷◌, ◌++◌, map, length, Some, slice_get, refl, sym, ap, ap₂, ◌∙◌, subst, arith, append_assoc, inl, inr}
use Rattle.std.proofs.lemmas.Bool.{cases_order}
use Rattle.std.specs.List.{All}
use Rattle.dk_syntax.specs.declared.Clause.{Clause}
use Rattle.dk_syntax.specs.declared.Literal.{Literal}
use Rattle.dk_syntax.specs.declared.Term.{Term}
use Rattle.normal_form.specs.declared.ClauseList.{ClauseList}
use Rattle.normal_form.specs.declared.ClauseRow.{ClauseRow}
use Rattle.step_clause.specs.Candidates.{IsListBefore}
use Rattle.step_clause.specs.declared.justification.Justification.{Justification}
use Rattle.step_chain.proofs.Items.{same_some}
use Rattle.step_chain.specs.Chains.{bit, link_key}
use Rattle.step_chain.specs.Resolvents.{AreTaken, IsResolvent, Link}

-- neither is before the other
abbrev pub Level : List ℕ → List ℕ → Type 0
Level xs ys = (IsListBefore xs ys → ⊥) × (IsListBefore ys xs → ⊥)

-- fronts of one length are equal, and the ends are level
pub split : (xs ys ends bs : List ℕ) → length xs ≡ length ys → Level (xs ++ ends) (ys ++ bs) → (xs ≡ ys) × Level ends bs
split [] [] ends bs e h = (refl, h)
split [] (y ∷ ys) ends bs e h = absurd (omega arith)
split (x ∷ xs) [] ends bs e h = absurd (omega arith)
split (x ∷ xs) (y ∷ ys) ends bs e h = elim (cases_order x y) [
  | inl same ↦
      let w = split xs ys ends bs (omega arith) ((λ l. h.0 (inr (same, l))), (λ l. h.1 (inr (sym same, l)))) in
      (ap₂ (λ a b. a ∷ b) same w.0, w.1)
  | inr other ↦ elim other [ inl less ↦ absurd (h.0 (inl less)) | inr more ↦ absurd (h.1 (inl more)) ]
]

pub taken_long : (t : ℕ → Term) (pivot : Literal) (lits : List Literal) (taken : List Bool) → AreTaken t pivot lits taken → length taken ≡ length lits
taken_long t pivot [] [] h = refl
taken_long t pivot [] (b ∷ taken) h = absurd h
taken_long t pivot (l ∷ lits) [] h = absurd h
taken_long t pivot (l ∷ lits) (true ∷ taken) h = ap suc (taken_long t pivot lits taken h.1)
taken_long t pivot (l ∷ lits) (false ∷ taken) h = ap suc (taken_long t pivot lits taken h)

bits_long : (bs : List Bool) → length (map bit bs) ≡ length bs
bits_long [] = refl
bits_long (b ∷ bs) = ap suc (bits_long bs)

bit_one : (a b : Bool) → bit a ≡ bit b → a ≡ b
bit_one true true h = refl
bit_one true false h = cc
bit_one false true h = cc
bit_one false false h = refl

not_one : (a b : Bool) → not a ≡ not b → a ≡ b
not_one true true h = refl
not_one true false h = cc
not_one false true h = cc
not_one false false h = refl

head_one : (x y : ℕ) (xs ys : List ℕ) → x ∷ xs ≡ y ∷ ys → x ≡ y
head_one x y xs ys h = cc

tail_one : (x y : ℕ) (xs ys : List ℕ) → x ∷ xs ≡ y ∷ ys → xs ≡ ys
tail_one x y xs ys h = cc

bits_one : (ends bs : List Bool) → map bit ends ≡ map bit bs → ends ≡ bs
bits_one [] [] h = refl
bits_one [] (b ∷ bs) h = cc
bits_one (a ∷ ends) [] h = cc
bits_one (a ∷ ends) (b ∷ bs) h = ap₂ (λ x y. x ∷ y) (bit_one a b (head_one (bit a) (bit b) (map bit ends) (map bit bs) h)) (bits_one ends bs (tail_one (bit a) (bit b) (map bit ends) (map bit bs) h))

-- the clauses of numbered lists
pub row_numbered : (P : ClauseRow → Type 0) (rows : List ClauseRow) (k : ℕ) (row : ClauseRow) → All P rows → slice_get rows k ≡ Some row → P row
row_numbered P [] k row h at = cc
row_numbered P (x ∷ rows) zero row h at = subst P (same_some (Some x) x row refl at) (h zero x (omega arith))
row_numbered P (x ∷ rows) (suc k) row h at = row_numbered P rows k row (λ j d less. h (suc j) d (omega arith)) at

abbrev link_of : ℕ → Bool → List Bool → List Bool → Link
link_of number sign taken others = record { number = number; sign = sign; taken = taken; others = others }

-- links whose keys are level are one, where both make a resolvent of the same first clause
module _ (k : ℕ) (c : Clause) (next : ClauseList) where
  pub one_link : (link other : Link) (row row' : ClauseRow) (m m' : Clause) (step step' : Justification) (ends bs : List ℕ)
      → slice_get next.rows link.number ≡ Some row → slice_get next.rows other.number ≡ Some row'
      → IsResolvent k c row.clause link m step → IsResolvent k c row'.clause other m' step' → Level (link_key link ++ ends) (link_key other ++ bs) → (link ≡ other) × Level ends bs
  one_link link other row row' m m' step step' ends bs at at' x y h =
      let first = split (link.number ∷ []) (other.number ∷ []) (bit (not link.sign) ∷ ((map bit link.taken ++ map bit link.others) ++ ends)) (bit (not other.sign) ∷ ((map bit other.taken ++ map bit other.others) ++ bs)) refl h in
      let n : link.number ≡ other.number = head_one link.number other.number [] [] first.0 in
      let rows : row ≡ row' = same_some (slice_get next.rows other.number) row row' (subst (λ z. slice_get next.rows z ≡ Some row) n at) at' in
      let second = split (bit (not link.sign) ∷ []) (bit (not other.sign) ∷ []) ((map bit link.taken ++ map bit link.others) ++ ends) ((map bit other.taken ++ map bit other.others) ++ bs) refl first.1 in
      let s : link.sign ≡ other.sign = not_one link.sign other.sign (bit_one (not link.sign) (not other.sign) (head_one (bit (not link.sign)) (bit (not other.sign)) [] [] second.0)) in
      let long : length (map bit link.taken) ≡ length (map bit other.taken) =
      bits_long link.taken ∙ taken_long x.t _ c.lits link.taken x.general.0.2 ∙ sym (taken_long y.t _ c.lits other.taken y.general.0.2) ∙ sym (bits_long other.taken) in
      let long' : length (map bit link.others) ≡ length (map bit other.others) =
      bits_long link.others ∙ taken_long x.u _ row.clause.lits link.others x.general.0.3 ∙ ap (λ z. length z.clause.lits) rows
      ∙ sym (taken_long y.u _ row'.clause.lits other.others y.general.0.3) ∙ sym (bits_long other.others) in
      let level : Level (map bit link.taken ++ (map bit link.others ++ ends)) (map bit other.taken ++ (map bit other.others ++ bs)) =
      subst (λ z. Level z (map bit other.taken ++ (map bit other.others ++ bs))) (append_assoc (map bit link.taken) (map bit link.others) ends)
      (subst (λ z. Level ((map bit link.taken ++ map bit link.others) ++ ends) z) (append_assoc (map bit other.taken) (map bit other.others) bs) second.1) in
      let third = split (map bit link.taken) (map bit other.taken) (map bit link.others ++ ends) (map bit other.others ++ bs) long level in
      let fourth = split (map bit link.others) (map bit other.others) ends bs long' third.1 in (
        ap (λ z. link_of z link.sign link.taken link.others) n ∙ ap (λ z. link_of other.number z link.taken link.others) s
            ∙ ap₂ (λ z w. link_of other.number other.sign z w) (bits_one link.taken other.taken third.0) (bits_one link.others other.others fourth.0),
        fourth.1,
      )
