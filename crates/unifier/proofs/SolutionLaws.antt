-- The steps of `solve`, as lemmas over plain values.
use Rattle.std.proofs.Common.{◌≡◌, ◌≤◌, ◌<◌, ◌+◌, ℕ, true, List, Option, get_or, length, subst, arith, sym, ap, ◌∙◌, inl, inr}
use Rattle.dk_syntax.specs.declared.Term.{Term}
use Rattle.unifier.proofs.BoundLaws.{unbound, unbound_refined}
use Rattle.std.proofs.lemmas.List.{get_or_default}
use Rattle.dk_syntax.proofs.ListLaws.{or_equal}
use Rattle.unifier.proofs.OutcomeLaws.{later}
use Rattle.unifier.proofs.SettlingLaws.{refines_itself, value_fixes}
use Rattle.unifier.specs.Outcomes.{Extended, Outcome, Refuted}
use Rattle.unifier.specs.Solutions.{Equal, Solves}
use Rattle.unifier.specs.Substitution.{Refines, SameInstances, Settled, value}
use Rattle.dk_syntax.specs.Terms.{substituted}

-- the equations hold up to a place
abbrev pub SolvesTo : (ℕ → Term) → List (Term × Term) → ℕ → Type 0
SolvesTo r eqs i = (k : ℕ) (d : Term × Term) → k < i → Equal r (get_or eqs k d)

pub unbound_extended : (frozen n : ℕ) (eqs : List (Term × Term)) → Extended frozen (λ r. SolvesTo r eqs 0) (unbound n) (unbound n)
unbound_extended frozen n eqs = record {
  forth = λ r f h. (h, λ k d l. absurd (omega arith));
  back = λ r f h q. h;
}

pub solves_more : (r : ℕ → Term) (eqs : List (Term × Term)) (i : ℕ) (e : Term × Term) → e ≡ get_or eqs i e → i < length eqs → SolvesTo r eqs i → substituted r e.0 ≡ substituted r e.1 → SolvesTo r eqs (i + 1)
solves_more r eqs i e is l h q k d m = elim (or_equal k i m) [
  | inl p ↦ h k d p
  | inr p ↦ subst (Equal r) (is ∙ get_or_default eqs i e d l ∙ ap (λ j. get_or eqs j d) (sym p)) q
]

pub solves_here : (r : ℕ → Term) (eqs : List (Term × Term)) (i : ℕ) (e : Term × Term) → e ≡ get_or eqs i e → Equal r (get_or eqs i e) → substituted r e.0 ≡ substituted r e.1
solves_here r eqs i e is h = subst (Equal r) (sym is) h

pub solve_step : (frozen : ℕ) (eqs : List (Term × Term)) (i : ℕ) (e : Term × Term) (s m n : List (Option Term)) → e ≡ get_or eqs i e → i < length eqs → length m ≡ length s → Extended frozen (λ r. SolvesTo r eqs i) s m → Outcome frozen (λ r. substituted r e.0 ≡ substituted r e.1) m n true → Outcome frozen (λ r. SolvesTo r eqs (i + 1)) s n true
solve_step frozen eqs i e s m n is l len a o =
    later frozen (λ r. SolvesTo r eqs i) (λ r. substituted r e.0 ≡ substituted r e.1) (λ r. SolvesTo r eqs (i + 1)) s m n
    (λ r h q. solves_more r eqs i e is l h q)
    (λ r h k d m. h k d (omega arith))
    (λ r h. solves_here r eqs i e is (h i e (omega arith)))
    len a o

pub solve_refuted : (frozen vars : ℕ) (eqs : List (Term × Term)) (i : ℕ) (e : Term × Term) (m : List (Option Term)) → e ≡ get_or eqs i e → i < length eqs → Extended frozen (λ r. SolvesTo r eqs i) (unbound vars) m → Refuted frozen (λ r. substituted r e.0 ≡ substituted r e.1) m → (r : ℕ → Term) → Solves frozen eqs r → ⊥
solve_refuted frozen vars eqs i e m is l a o r s =
    o r s.0 (a.back r s.0 (unbound_refined vars r) (λ k d lt. s.1 k d (omega arith))) (solves_here r eqs i e is (s.1 i e l))

pub solved : (frozen vars : ℕ) (eqs : List (Term × Term)) (i : ℕ) (b n : List (Option Term)) → length eqs ≤ i → Extended frozen (λ r. SolvesTo r eqs i) (unbound vars) b → Settled frozen n → SameInstances b n → Solves frozen eqs (value n)
solved frozen vars eqs i b n l a ok same =
    let fixes = value_fixes frozen n ok in
    (fixes, λ k d m. (a.forth (value n) fixes ((same (value n)).1 (refines_itself frozen n ok))).1 k d (omega arith))

pub general : (frozen vars : ℕ) (eqs : List (Term × Term)) (i : ℕ) (b n : List (Option Term)) → i ≤ length eqs → Extended frozen (λ r. SolvesTo r eqs i) (unbound vars) b → SameInstances b n → (r : ℕ → Term) → Solves frozen eqs r → Refines n r
general frozen vars eqs i b n l a same r s = (same r).0 (a.back r s.0 (unbound_refined vars r) (λ k d m. s.1 k d (omega arith)))
