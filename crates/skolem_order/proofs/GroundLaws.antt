-- Ground terms.
use Rattle.std.proofs.Common.{◌≡◌, ℕ, zero, suc, ◌<◌, nat_eq, Bool, true, false, List, [], ◌∷◌, cond, get_or, map, Option, None, Some, refl, sym, ap, ap₂, ◌∙◌, ◌⊎◌, inl, inr, ⊎_elim, arith, ◌&&◌}
use Rattle.std.specs.List.{Contains, position}
use Rattle.dk_syntax.proofs.BelowLaws.{closed_below}
use Rattle.dk_syntax.proofs.ListLaws.{each_true}
use Rattle.dk_syntax.proofs.SubstitutionLaws.{agree, same, substituted-Any, substituted-App, substituted-Var}
use Rattle.dk_syntax.proofs.WellFormedLaws.{closed-Any, closed-App}
use Rattle.dk_syntax.specs.WellFormed.{IsGround, all_true, term_closed_under}
use Rattle.dk_syntax.specs.declared.SymKey.{SymKey}
use Rattle.dk_syntax.specs.declared.Term.{Any, App, Term, Var}
use Rattle.expansion.specs.Choices.{assigned, skolem_term, term_there}
use Rattle.skolem_order.proofs.ListFacts.{contains_first, contains_rest, for_each_at}
use Rattle.skolem_order.specs.Tables.{grounded}
use Rattle.step_skolem.specs.declared.SkEntry.{SkEntry}

pub grounded-App : (f : SymKey) (args : List Term) → grounded (App f args) ≡ App f (map grounded args)
unfolding grounded
grounded-App f args = substituted-App (λ k. Any) f args

pub grounded-Var : (n : ℕ) → grounded (Var n) ≡ Any
unfolding grounded
grounded-Var n = substituted-Var (λ k. Any) n

pub grounded-Any : grounded Any ≡ Any
unfolding grounded
grounded-Any = substituted-Any (λ k. Any)

pub ground_same : (t : Term) → IsGround t → grounded t ≡ t
unfolding grounded
ground_same t h = agree (λ k. Any) Var t (λ k i. absurd (none k (closed_below 0 t h k i))) ∙ same t
  where
    none : (k : ℕ) → k < 0 → ⊥
    none k l = omega (arith, l)

pub ground_argument : (f : SymKey) (args : List Term) (arg : Term) → IsGround (App f args) → Contains args arg → IsGround arg
ground_argument f args arg h c =
    for_each_at (λ t. term_closed_under 0 t ≡ true) args arg (each_true (term_closed_under 0) args (sym (closed-App f args 0) ∙ h)) c

-- what is read is one of the terms, or Any
pub read_is : (terms : List Term) (k : ℕ) → Contains terms (get_or terms k Any) ⊎ (get_or terms k Any ≡ Any)
read_is [] k = inr refl
read_is (t ∷ terms) zero = inl (contains_first t terms)
read_is (t ∷ terms) (suc k) = ⊎_elim (λ l. inl (contains_rest t terms (get_or terms k Any) l)) (λ r. inr r) (read_is terms k)

there_is : (terms : List Term) (place : Option ℕ) → Contains terms (term_there terms place) ⊎ (term_there terms place ≡ Any)
there_is terms None = inr refl
there_is terms (Some k) = read_is terms k

-- the term of a universal is an argument, or Any
pub assigned_is : (numbers : List ℕ) (args : List Term) (n : ℕ) → Contains args (assigned numbers args n) ⊎ (assigned numbers args n ≡ Any)
assigned_is numbers args n = there_is args (position (λ m. nat_eq m n) numbers)

pub assigned_ground : (numbers : List ℕ) (args : List Term) → ((arg : Term) → Contains args arg → IsGround arg) → (n : ℕ) → IsGround (assigned numbers args n)
assigned_ground numbers args h n =
    ⊎_elim (λ c. h (assigned numbers args n) c) (λ e. ap (term_closed_under 0) e ∙ closed-Any 0) (assigned_is numbers args n)

all_ground : (v : ℕ → Term) → ((n : ℕ) → IsGround (v n)) → (numbers : List ℕ) → all_true (map (term_closed_under 0) (map v numbers)) ≡ true
all_ground v w [] = refl
all_ground v w (n ∷ numbers) = ap₂ (λ a b. a && b) (w n) (all_ground v w numbers)

pub skolem_ground : (v : ℕ → Term) → ((n : ℕ) → IsGround (v n)) → (entries : List SkEntry) (e : ℕ) → IsGround (skolem_term v entries e)
skolem_ground v w [] e = closed-Any 0
skolem_ground v w (one ∷ entries) e = by_test (nat_eq one.ex e) (closed-App one.symbol (map v one.args) 0 ∙ all_ground v w one.args) (skolem_ground v w entries e)
  where
    by_test : (b : Bool) → IsGround (App one.symbol (map v one.args)) → IsGround (skolem_term v entries e) → IsGround (cond b (App one.symbol (map v one.args)) (skolem_term v entries e))
    by_test true h k = h
    by_test false h k = k
