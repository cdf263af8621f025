-- When all variables of equations are below a number.
use Rattle.std.proofs.Common.{◌≡◌, ◌<◌, ◌+◌, ℕ, List, get_or, length, subst, sym, ap, ◌∙◌, inl, inr}
use Rattle.dk_syntax.specs.declared.Term.{Term}
use Rattle.std.proofs.lemmas.List.{get_or_default}
use Rattle.dk_syntax.proofs.ListLaws.{or_equal}
use Rattle.dk_syntax.specs.Terms.{Below}

abbrev pub PairsTo : ℕ → List (Term × Term) → ℕ → Type 0
PairsTo n es i = (k : ℕ) (d : Term × Term) → k < i → Below n (get_or es k d).0 × Below n (get_or es k d).1

pub pairs_more : (n : ℕ) (es : List (Term × Term)) (i : ℕ) (x : Term × Term) → i < length es → x ≡ get_or es i x → Below n x.0 → Below n x.1 → PairsTo n es i → PairsTo n es (i + 1)
pairs_more n es i x l e first second all k d lt = elim (or_equal k i lt) [
  | inl p ↦ all k d p
  | inr p ↦ subst (λ z. Below n z.0 × Below n z.1) (e ∙ get_or_default es i x d l ∙ ap (λ j. get_or es j d) (sym p)) (first, second)
]
