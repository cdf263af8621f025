-- Laws of terms: induction, when two terms are one, and what the definitions say of each kind of term.
use Rattle.std.proofs.Common.{◌≡◌, ◌+◌, ℕ, List, [], ◌∷◌, map, ap, subst, sym, ◌∙◌, rules}
use Rattle.dk_syntax.proofs.ListLaws.{ForEach, for_each}
use Rattle.dk_syntax.specs.Depth.{greatest, term_depth_of}
use Rattle.dk_syntax.specs.Symbols.{joined, term_occurrences}
use Rattle.dk_syntax.specs.declared.symbol.SymKey.{SymKey}
use Rattle.dk_syntax.specs.declared.term.Term.{Any, App, Term, Term-F, Var, ind-Term, map-Term, out-Term, roll-Term, the_lemmas as of_terms}
use Rattle.dk_syntax.specs.declared.term.Term.TheOpen as layer
use Rattle.dk_syntax.specs.declared.term.Term.TheVariants.{outs-App, outs-Var, rolls-Any, rolls-App, rolls-Var}

-- ---- induction

module _ (P : Term → Type 0) (at_var : (number : ℕ) → P (Var number)) (at_app : (symbol : SymKey) (args : List Term) → ForEach P args → P (App symbol args)) (at_any : P Any) where
  facts : (known : List ((term : Term) × P term)) → ForEach P (map (λ one. one.0) known)
  facts [] = tt
  facts (one ∷ rest) = (one.1, facts rest)

  at_layer : (y : Term-F ((term : Term) × P term)) → P (roll-Term (map-Term ((term : Term) × P term) Term (λ one. one.0) y))
  at_layer (layer.Var number) = rw (rolls-Var number) (at_var number)
  at_layer (layer.App symbol known) = rw (rolls-App symbol (map (λ one. one.0) known)) (at_app symbol (map (λ one. one.0) known) (facts known))
  at_layer layer.Any = rw rolls-Any at_any

  pub term_induction : (term : Term) → P term
  term_induction = ind-Term P (λ x y e. subst (λ z. P (roll-Term z)) e (at_layer y))

  pub terms_induction : (terms : List Term) → ForEach P terms
  terms_induction = for_each P term_induction

-- ---- when two terms are one

pub Var-injective : (m n : ℕ) → Var m ≡ Var n → m ≡ n
Var-injective m n e = let h = sym (outs-Var m) ∙ ap out-Term e ∙ outs-Var n in cc

pub App-injective : (f g : SymKey) (xs ys : List Term) → App f xs ≡ App g ys → (f ≡ g) × (xs ≡ ys)
App-injective f g xs ys e = let h = sym (outs-App f xs) ∙ ap out-Term e ∙ outs-App g ys in (cc, cc)

pub Var-not-App : (n : ℕ) (f : SymKey) (xs : List Term) → ¬ Var n ≡ App f xs
Var-not-App n f xs e = cc

pub Var-not-Any : (n : ℕ) → ¬ Var n ≡ Any
Var-not-Any n e = cc

pub App-not-Any : (f : SymKey) (xs : List Term) → ¬ App f xs ≡ Any
App-not-Any f xs e = cc

-- ---- the definitions at each kind of term

pub depth-Var : (n : ℕ) → term_depth_of (Var n) ≡ 1
depth-Var n = search (rules, of_terms)

pub depth-App : (f : SymKey) (xs : List Term) → term_depth_of (App f xs) ≡ 1 + greatest (map term_depth_of xs)
depth-App f xs = search (rules, of_terms)

pub depth-Any : term_depth_of Any ≡ 1
depth-Any = search (rules, of_terms)

pub occurrences-Var : (n : ℕ) → term_occurrences (Var n) ≡ []
occurrences-Var n = search (rules, of_terms)

pub occurrences-App : (f : SymKey) (xs : List Term) → term_occurrences (App f xs) ≡ f ∷ joined (map term_occurrences xs)
occurrences-App f xs = search (rules, of_terms)

pub occurrences-Any : term_occurrences Any ≡ []
occurrences-Any = search (rules, of_terms)
