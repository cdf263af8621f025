-- The least answer of a choice from those of its alternatives, over plain properties of keys and chains.
use Rattle.std.proofs.Common.{◌≡◌, ◌<◌, ◌≤◌, ℕ, suc, ◌+◌, Bool, true, false, List, [], ◌∷◌, ◌++◌, map, length, Option, Some, None, slice_get, refl, sym, ap, ◌∙◌, subst, arith, append_assoc, inl, inr}
use Rattle.std.proofs.lemmas.Option.{slice_get_within}
use Rattle.dk_syntax.proofs.ListLaws.{or_equal}
use Rattle.step_clause.specs.Candidates.{IsListBefore}
use Rattle.step_chain.proofs.Items.{same_some}
use Rattle.step_chain.specs.Chains.{bit}
use Rattle.step_chain.specs.Search.{ByBit, ByNumber, HasChoice, IsLeastOf}
use Rattle.step_chain.specs.declared.chain.Chain.{Chain}

-- ---- another property that says the same

pub least_along : (Q R : List ℕ → Chain → Type 0) (answer : Option Chain) → ((key : List ℕ) (chain : Chain) → Q key chain → R key chain) → ((key : List ℕ) (chain : Chain) → R key chain → Q key chain) → IsLeastOf Q answer → IsLeastOf R answer
least_along Q R None there back h = λ key chain r. h key chain (back key chain r)
least_along Q R (Some chain) there back h = (h.0, there h.0 chain h.1, λ other that r before. h.2 other that (back other that r) before)

-- ---- a truth value first

module _ (Q : Bool → List ℕ → Chain → Type 0) where
  pub bit_false : (chain : Chain) → IsLeastOf (Q false) (Some chain) → IsLeastOf (ByBit Q) (Some chain)
  bit_false chain h = (0 ∷ h.0, (false, refl, h.1), none_before)
    where
      none_before : (other : List ℕ) (that : Chain) → ByBit Q other that → IsListBefore other (0 ∷ h.0) → ⊥
      none_before [] that q before = q
      none_before (n ∷ other) that (false, is, q) (inl less) = omega (arith, less)
      none_before (n ∷ other) that (false, is, q) (inr w) = h.2 other that q w.1
      none_before (n ∷ other) that (true, is, q) (inl less) = omega (arith, less)
      none_before (n ∷ other) that (true, is, q) (inr w) = let e = w.0 in omega (arith, is, e)

  pub bit_true : (answer : Option Chain) → IsLeastOf (Q false) None → IsLeastOf (Q true) answer → IsLeastOf (ByBit Q) answer
  bit_true None none h = neither
    where
      neither : (key : List ℕ) (chain : Chain) → ByBit Q key chain → ⊥
      neither [] chain q = q
      neither (n ∷ key) chain (false, is, q) = none key chain q
      neither (n ∷ key) chain (true, is, q) = h key chain q
  bit_true (Some chain) none h = (1 ∷ h.0, (true, refl, h.1), none_before)
    where
      none_before : (other : List ℕ) (that : Chain) → ByBit Q other that → IsListBefore other (1 ∷ h.0) → ⊥
      none_before [] that q before = q
      none_before (n ∷ other) that (false, is, q) before = none other that q
      none_before (n ∷ other) that (true, is, q) (inl less) = omega (arith, is, less)
      none_before (n ∷ other) that (true, is, q) (inr w) = h.2 other that q w.1

-- ---- an item's number first

-- nothing has the property by one of the first p items
abbrev pub NoneUpTo : {X : Type 0} → (ℕ → X → List ℕ → Chain → Type 0) → List X → ℕ → Type 0
NoneUpTo Q items p = (n : ℕ) (x : _) → n < p → slice_get items n ≡ Some x → (key : List ℕ) (chain : Chain) → Q n x key chain → ⊥

module _ {X : Type 0} (Q : ℕ → X → List ℕ → Chain → Type 0) (items : List X) where
  pub none_more : (p number : ℕ) (x : X) → number ≡ p → slice_get items p ≡ Some x → NoneUpTo Q items p → IsLeastOf (Q number x) None → NoneUpTo Q items (p + 1)
  none_more p number x is at none here n y less at' key chain q = elim (or_equal n p less) [
    | inl e ↦ none n y e at' key chain q
    | inr e ↦
        let y_is : y ≡ x = same_some (slice_get items p) y x (subst (λ z. slice_get items z ≡ Some y) e at') at in
        here key chain (subst (λ z. Q z x key chain) (e ∙ sym is) (subst (λ z. Q n z key chain) y_is q))
  ]

  pub none_at_all : (p : ℕ) → length items ≤ p → NoneUpTo Q items p → IsLeastOf (ByNumber Q items) None
  none_at_all p long none [] chain q = q
  none_at_all p long none (n ∷ key) chain q = none n q.0 (let a = slice_get_within items n q.0 q.1 in omega arith) q.1 key chain q.2

  pub first_found : (p number : ℕ) (x : X) (chain : Chain) → number ≡ p → slice_get items p ≡ Some x → NoneUpTo Q items p → IsLeastOf (Q number x) (Some chain) → IsLeastOf (ByNumber Q items) (Some chain)
  first_found p number x chain is at none h = (p ∷ h.0, (x, at, subst (λ z. Q z x h.0 chain) is h.1), none_before)
    where
      none_before : (other : List ℕ) (that : Chain) → ByNumber Q items other that → IsListBefore other (p ∷ h.0) → ⊥
      none_before [] that q before = q
      none_before (n ∷ other) that q (inl less) = none n q.0 less q.1 other that q.2
      none_before (n ∷ other) that q (inr w) =
          let y_is : q.0 ≡ x = same_some (slice_get items p) q.0 x (subst (λ z. slice_get items z ≡ Some q.0) w.0 q.1) at in
          h.2 other that (subst (λ z. Q z x other that) (w.0 ∙ sym is) (subst (λ z. Q n z other that) y_is q.2)) w.1

-- ---- truth values one by one

module _ (Q : List Bool → List ℕ → Chain → Type 0) (size : ℕ) where
  append_nothing : (bits : List Bool) → bits ++ [] ≡ bits
  append_nothing [] = refl
  append_nothing (b ∷ bits) = ap (λ z. b ∷ z) (append_nothing bits)

  length_more : (bits more : List Bool) (b : Bool) → length (bits ++ b ∷ []) + length more ≡ length bits + suc (length more)
  length_more [] more b = omega arith
  length_more (c ∷ bits) more b = let e = length_more bits more b in omega arith

  choice_next : (bits : List Bool) (key : List ℕ) (chain : Chain) → length bits < size → HasChoice Q size bits key chain → ByBit (λ b. HasChoice Q size (bits ++ b ∷ [])) key chain
  choice_next bits key chain less h = by_more h.more h.whole h.all h.holds
    where
      by_more : (more : List Bool) → key ≡ map bit more ++ h.rest → length bits + length more ≡ size → Q (bits ++ more) h.rest chain → ByBit (λ b. HasChoice Q size (bits ++ b ∷ [])) key chain
      by_more [] whole all holds = absurd (omega arith)
      by_more (b ∷ more) whole all holds =
          subst (λ z. ByBit (λ c. HasChoice Q size (bits ++ c ∷ [])) z chain) (sym whole) (
            b,
            refl,
            record {
              more = more;
              rest = h.rest;
              whole = refl;
              all = length_more bits more b ∙ all;
              holds = subst (λ z. Q z h.rest chain) (sym (append_assoc bits (b ∷ []) more)) holds;
            },
          )

  choice_back : (bits : List Bool) (key : List ℕ) (chain : Chain) → ByBit (λ b. HasChoice Q size (bits ++ b ∷ [])) key chain → HasChoice Q size bits key chain
  choice_back bits [] chain h = absurd h
  choice_back bits (n ∷ key) chain (b, is, h) =
      let e = length_more bits h.more b in
      record {
        more = b ∷ h.more;
        rest = h.rest;
        whole = ap (λ z. z ∷ key) is ∙ ap (λ z. bit b ∷ z) h.whole;
        all = sym e ∙ h.all;
        holds = subst (λ z. Q z h.rest chain) (append_assoc bits (b ∷ []) h.more) h.holds;
      }

  pub choice_false : (bits : List Bool) (chain : Chain) → length bits < size → IsLeastOf (HasChoice Q size (bits ++ false ∷ [])) (Some chain) → IsLeastOf (HasChoice Q size bits) (Some chain)
  choice_false bits chain less h =
      least_along (ByBit (λ b. HasChoice Q size (bits ++ b ∷ []))) (HasChoice Q size bits) (Some chain) (choice_back bits) (λ key that q. choice_next bits key that less q)
      (bit_false (λ b. HasChoice Q size (bits ++ b ∷ [])) chain h)

  pub choice_true : (bits : List Bool) (answer : Option Chain) → length bits < size → IsLeastOf (HasChoice Q size (bits ++ false ∷ [])) None → IsLeastOf (HasChoice Q size (bits ++ true ∷ [])) answer → IsLeastOf (HasChoice Q size bits) answer
  choice_true bits answer less none h =
      least_along (ByBit (λ b. HasChoice Q size (bits ++ b ∷ []))) (HasChoice Q size bits) answer (choice_back bits) (λ key that q. choice_next bits key that less q)
      (bit_true (λ b. HasChoice Q size (bits ++ b ∷ [])) answer none h)

  -- nothing is left to choose
  choice_end : (bits : List Bool) (key : List ℕ) (chain : Chain) → length bits ≡ size → HasChoice Q size bits key chain → Q bits key chain
  choice_end bits key chain e h = by_more h.more h.whole h.all h.holds
    where
      by_more : (more : List Bool) → key ≡ map bit more ++ h.rest → length bits + length more ≡ size → Q (bits ++ more) h.rest chain → Q bits key chain
      by_more [] whole all holds = subst (λ z. Q bits z chain) (sym whole) (subst (λ z. Q z h.rest chain) (append_nothing bits) holds)
      by_more (b ∷ more) whole all holds = absurd (omega arith)

  pub choice_done : (bits : List Bool) (answer : Option Chain) → length bits ≡ size → IsLeastOf (Q bits) answer → IsLeastOf (HasChoice Q size bits) answer
  choice_done bits answer e h =
      least_along (Q bits) (HasChoice Q size bits) answer
      (λ key chain q. record { more = []; rest = key; whole = refl; all = omega arith; holds = subst (λ z. Q z key chain) (sym (append_nothing bits)) q })
      (λ key chain q. choice_end bits key chain e q) h
