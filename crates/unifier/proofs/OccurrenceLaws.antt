-- Whether a variable stands in a term through bindings, step by step.
use Rattle.std.proofs.Common.{◌≡◌, ℕ, Bool, true, false, List, Option, Some, None, get_or, refl, sym, ap, ◌∙◌, ◌⊎◌, inl, inr}
use Rattle.std.specs.Prelude.{nat_eq}
use Rattle.std.proofs.lemmas.Bool.{eq-eqb, eqb-true, false_from_ne_true}
use Rattle.dk_syntax.specs.declared.Term.{Term}
use Rattle.unifier.proofs.BoundLaws.{bound_form}
use Rattle.dk_syntax.proofs.SubstitutionLaws.{has_variable-Var}
use Rattle.unifier.specs.Comparing.{Marked}
use Rattle.unifier.specs.Outcomes.{IsSettledBy}
use Rattle.dk_syntax.specs.Terms.{has_variable, substituted}

-- ---- what a variable leads to

pub leads_to_itself : (s : List (Option Term)) (k j : ℕ) (m : ℕ → Term) → IsSettledBy s m → get_or s k None ≡ None → j ≡ k → true ≡ has_variable k (m j)
leads_to_itself s k j m ok free e = sym (ap (λ i. has_variable k (m i)) e ∙ ap (has_variable k) (ok.free k free) ∙ has_variable-Var k k ∙ eq-eqb k k refl)

pub leads_nowhere : (s : List (Option Term)) (k j : ℕ) (m : ℕ → Term) → IsSettledBy s m → get_or s j None ≡ None → (j ≡ k → ⊥) → false ≡ has_variable k (m j)
leads_nowhere s k j m ok free other = sym (ap (has_variable k) (ok.free j free) ∙ has_variable-Var k j ∙ false_from_ne_true (nat_eq j k) (λ h. other (eqb-true j k h)))

pub leads_along : (s : List (Option Term)) (k j : ℕ) (t : Term) (m : ℕ → Term) (found : Bool) → IsSettledBy s m → get_or s j None ≡ Some t → found ≡ has_variable k (substituted m t) → found ≡ has_variable k (m j)
leads_along s k j t m found ok e h = h ∙ ap (has_variable k) (sym (bound_form s m j t ok e))

pub marked_more : (s : List (Option Term)) (k j : ℕ) (old new : List Bool) → Marked s k old → ((i : ℕ) → get_or new i false ≡ true → (get_or old i false ≡ true) ⊎ (i ≡ j)) → ((m : ℕ → Term) → IsSettledBy s m → false ≡ has_variable k (m j)) → Marked s k new
marked_more s k j old new known more here i e m ok = elim (more i e) [
  | inl p ↦ known i p m ok
  | inr p ↦ ap (λ n. has_variable k (m n)) p ∙ sym (here m ok)
]
