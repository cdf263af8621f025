-- What it is to add an equation to bindings.
use Rattle.std.specs.Prelude.{ℕ, ◌≡◌, ◌<◌, ◌≤◌, Bool, true, false, List, get_or, length, Option, Some, None}
use Rattle.dk_syntax.specs.declared.Term.{Term}
use Rattle.dk_syntax.specs.declared.Term.TheVariants.{Var}
use Rattle.unifier.specs.Substitution.{Fixes, Refines}
use Rattle.dk_syntax.specs.Terms.{substituted, has_variable, Below}

-- m is a most general substitution that refines the bindings, and no bound variable stands in its terms
pub record IsSettledBy (s : List (Option Term)) (m : ℕ → Term) : Type 0 where
  pub free : (k : ℕ) → get_or s k None ≡ None → m k ≡ Var k
  pub refines : Refines s m
  pub general : (r : ℕ → Term) → Refines s r → (k : ℕ) → r k ≡ substituted r (m k)
  pub apart : (k j : ℕ) (u : Term) → get_or s j None ≡ Some u → has_variable j (m k) ≡ false
  pub within : (k : ℕ) → k < length s → Below (length s) (m k)

-- only variables from `frozen` on are bound, their variables are below the length, and the bindings have a most general substitution:
-- so no variable leads back to itself
pub record Sound (frozen : ℕ) (s : List (Option Term)) : Type 0 where
  pub unfrozen : (k : ℕ) (t : Term) → get_or s k None ≡ Some t → frozen ≤ k
  pub below : (k : ℕ) (t : Term) → get_or s k None ≡ Some t → Below (length s) t
  pub form : ℕ → Term
  pub settles : IsSettledBy s form

-- r refines n exactly where it refines s and has Q
pub record Extended (frozen : ℕ) (Q : (ℕ → Term) → Type 0) (s n : List (Option Term)) : Type 0 where
  pub forth : (r : ℕ → Term) → Fixes frozen r → Refines n r → Refines s r × Q r
  pub back : (r : ℕ → Term) → Fixes frozen r → Refines s r → Q r → Refines n r

-- nothing that refines s has Q
abbrev pub Refuted : ℕ → ((ℕ → Term) → Type 0) → List (Option Term) → Type 0
Refuted frozen Q s = (r : ℕ → Term) → Fixes frozen r → Refines s r → Q r → ⊥

-- where the answer is true, n is s with Q added, and where it is false, nothing that refines s has Q
abbrev pub Outcome : ℕ → ((ℕ → Term) → Type 0) → List (Option Term) → List (Option Term) → Bool → Type 0
Outcome frozen Q s n true = (length n ≡ length s) × Sound frozen n × Extended frozen Q s n
Outcome frozen Q s n false = Refuted frozen Q s
