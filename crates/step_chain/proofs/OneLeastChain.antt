-- There is one least chain at most from numbered lists, and so one answer.
use Rattle.std.proofs.Common.{◌≡◌, ℕ, zero, suc, List, [], ◌∷◌, map, Option, Some, None, slice_get, refl, sym, ap, ap₂, ◌∙◌, subst, arith}
use Rattle.dk_syntax.specs.Symbols.{joined}
use Rattle.dk_syntax.specs.declared.Clause.{Clause}
use Rattle.normal_form.specs.declared.ClauseList.{ClauseList}
use Rattle.step_clause.proofs.Uniqueness.{one_justification}
use Rattle.step_clause.specs.Justifications.{AreNumbered, IsNumbered, IsNumberedList}
use Rattle.step_clause.specs.declared.justification.Justification.{Justification}
use Rattle.step_chain.proofs.Items.{same_some}
use Rattle.step_chain.proofs.LinkKeys.{Level, one_link, row_numbered, split}
use Rattle.step_chain.proofs.Numbered.{over_numbered}
use Rattle.step_chain.proofs.OneResolvent.{one_resolvent}
use Rattle.step_chain.specs.Chains.{alone, IsContinuation, ends, goes, IsChainAnswer, IsLeastChain, link_key, way_key}
use Rattle.step_chain.specs.Resolvents.{IsResolvent, Link}
use Rattle.step_chain.specs.declared.chain.Chain.{Chain}

-- ---- lists

pub first_numbered : (list : ClauseList) (rest : List ClauseList) → AreNumbered (list ∷ rest) → IsNumberedList list
first_numbered list rest h = h zero list (omega arith)

pub rest_numbered : (list : ClauseList) (rest : List ClauseList) → AreNumbered (list ∷ rest) → AreNumbered rest
rest_numbered list rest h k d less = h (suc k) d (omega arith)

first_one : (a b : ClauseList) (xs ys : List ClauseList) → a ∷ xs ≡ b ∷ ys → (a ≡ b) × (xs ≡ ys)
first_one a b xs ys h = (cc, cc)

head_number : (x y : ℕ) → x ∷ [] ≡ y ∷ [] → x ≡ y
head_number x y h = cc

-- ---- from a middle clause on

module _ (target : Clause) where
  one_continuation : {k : ℕ} {middle : Clause} {rest : List ClauseList} {links : List Link} {mids : List Clause} {steps : List Justification} → IsContinuation target k middle rest links mids steps
      → (others : List Link) (mids' : List Clause) (steps' : List Justification) → IsContinuation target k middle rest others mids' steps' → IsNumbered middle → AreNumbered rest
      → Level (joined (map link_key links)) (joined (map link_key others)) → (mids ≡ mids') × (steps ≡ steps')
  one_continuation (ends k middle last step is) _ _ _ (ends _ _ _ step' is') n ns level =
      (refl, ap (λ s. s ∷ []) (same_some (Some step) step step' refl (one_justification target (alone middle ∷ last ∷ []) (Some step) (Some step') is is')))
  one_continuation (ends k middle last step is) _ _ _ (goes _ _ _ _ link' links' row' m' mids' step' steps' at1 is1 more1) n ns level = elim more1 [ ]
  one_continuation (goes k middle next _ link links row m mids step steps at is more) _ _ _ (ends _ _ _ step' is') n ns level = elim more [ ]
  one_continuation (goes k middle next rest link links row m mids step steps at is more) _ _ _ (goes _ _ _ _ link' links' row' m' mids' step' steps' at1 is1 more1) n ns level =
      let l = one_link k middle next link link' row row' m m' step step' (joined (map link_key links)) (joined (map link_key links')) at at1 is is1 level in
      let o : row' ≡ row = same_some (slice_get next.rows link.number) row' row (subst (λ z. slice_get next.rows z.number ≡ Some row') (sym l.0) at1) at in
      let is2 : IsResolvent k middle row.clause link m' step' = subst (λ z. IsResolvent k middle row.clause z m' step') (sym l.0) (subst (λ z. IsResolvent k middle z.clause link' m' step') o is1) in
      let w = one_resolvent k middle row.clause link m m' step step' n (row_numbered (λ z. IsNumbered z.clause) next.rows link.number row (first_numbered next rest ns) at) is is2 in
      let nm : IsNumbered m = subst IsNumbered (sym is.clause) (over_numbered is.lits) in
      let others_are = one_continuation more links' mids' steps' (subst (λ z. IsContinuation target 0 z rest links' mids' steps') (sym w.0) more1) nm (rest_numbered next rest ns) l.1 in
      (ap₂ (λ x y. x ∷ y) w.0 others_are.0, ap₂ (λ x y. x ∷ y) w.1 others_are.1)

-- ---- chains

abbrev chain_with : List Clause → List Justification → Chain
chain_with mids steps = record { mids = mids; steps = steps }

pub one_least_chain : (target : Clause) (parents : List ClauseList) → AreNumbered parents → (c d : Chain) → IsLeastChain target parents c → IsLeastChain target parents d → c ≡ d
one_least_chain target parents n c d (way, x, least) (other, y, least') =
    let parts = first_one x.first y.first x.rest y.rest (sym x.whole ∙ y.whole) in
    let nx : AreNumbered (x.first ∷ x.rest) = subst AreNumbered x.whole n in
    let level : Level (way_key way) (way_key other) = (least' way c x, least other d y) in
    let s = split (way.start ∷ []) (other.start ∷ []) (joined (map link_key way.links)) (joined (map link_key other.links)) refl level in
    let start : other.start ≡ way.start = head_number other.start way.start (sym s.0) in
    let at : slice_get x.first.rows way.start ≡ Some y.row = subst (λ z. slice_get x.first.rows z ≡ Some y.row) start (subst (λ z. slice_get z.rows other.start ≡ Some y.row) (sym parts.0) y.at) in
    let row : y.row ≡ x.row = same_some (slice_get x.first.rows way.start) y.row x.row at x.at in
    let more : IsContinuation target way.start x.row.clause x.rest other.links d.mids d.steps =
    subst (λ z. IsContinuation target z x.row.clause x.rest other.links d.mids d.steps) start
    (subst (λ z. IsContinuation target other.start z.clause x.rest other.links d.mids d.steps) row
    (subst (λ z. IsContinuation target other.start y.row.clause z other.links d.mids d.steps) (sym parts.1) y.continues)) in
    let nm : IsNumbered x.row.clause = row_numbered (λ z. IsNumbered z.clause) x.first.rows way.start x.row (first_numbered x.first x.rest nx) x.at in
    let w = one_continuation target x.continues other.links d.mids d.steps more nm (rest_numbered x.first x.rest nx) s.1 in
    ap₂ chain_with w.0 w.1

-- ---- answers

pub one_chain_answer : (target : Clause) (parents : List ClauseList) → AreNumbered parents → (a b : Option Chain) → IsChainAnswer target parents a → IsChainAnswer target parents b → a ≡ b
one_chain_answer target parents n None None h k = refl
one_chain_answer target parents n None (Some d) h k = absurd (h k.0 d k.1)
one_chain_answer target parents n (Some c) None h k = absurd (k h.0 c h.1)
one_chain_answer target parents n (Some c) (Some d) h k = ap Some (one_least_chain target parents n c d h k)
