-- Origin formulas are closed.
use Rattle.std.proofs.Common.{◌≡◌, ℕ, ◌+◌, ◌-◌, ◌<◌, nat_lt, Bool, true, false, ◌&&◌, List, [], ◌∷◌, cond, map, Option, None, Some, refl, sym, ap, ap₂, subst, ◌∙◌, ⊎_elim, arith}
use Rattle.std.specs.List.{Contains}
use Rattle.dk_syntax.proofs.BelowLaws.{below_closed, closed_below}
use Rattle.dk_syntax.proofs.FormulaLaws.{formula_induction}
use Rattle.dk_syntax.proofs.ListLaws.{ForEach, for_each}
use Rattle.dk_syntax.proofs.SubstitutionLaws.{substituted-Any, substituted-App, substituted-Var}
use Rattle.dk_syntax.proofs.TermLaws.{term_induction}
use Rattle.dk_syntax.proofs.WellFormedLaws.{closed-All, closed-And, closed-Any, closed-App, closed-Atom, closed-Ex, closed-False, closed-Iff, closed-Imp, closed-Not, closed-Or, closed-True, closed-Var}
use Rattle.dk_syntax.specs.Terms.{substituted}
use Rattle.dk_syntax.specs.WellFormed.{IsClosed, IsGround, all_true, closed_under, term_closed_under}
use Rattle.dk_syntax.specs.declared.Formula.{Formula}
use Rattle.dk_syntax.specs.declared.Term.{Any, App, Term, Var}
use Rattle.expansion.specs.Rows.{term_at}
use Rattle.skolem_order.proofs.GroundLaws.{assigned_ground, ground_argument, read_is, skolem_ground}
use Rattle.skolem_order.proofs.ListFacts.{contains_same, map_contains, none_in_nil}
use Rattle.skolem_order.proofs.PartLaws.{args-Any, args-App, args-Var}
use Rattle.skolem_order.proofs.PutLaws.{put-All, put-And, put-Atom, put-Ex, put-False, put-Iff, put-Imp, put-Not, put-Or, put-True}
use Rattle.skolem_order.specs.Laws.{OriginFormulasAreClosed}
use Rattle.skolem_order.specs.Origins.{args_for, args_of, formula_at, formula_from, origin_of_term, outside, put_in, spot_of, terms_around, universals_by, value}
use Rattle.skolem_order.specs.Spots.{Spot}
use Rattle.skolem_order.specs.declared.origins.Origin.{Origin}
use Rattle.skolem_order.specs.declared.walk.Around.{Around}
use Rattle.skolem_order.specs.declared.walk.Around.TheVariants.{Existential, Universal, Vacant}
use Rattle.step_skolem.specs.declared.SkEntry.{SkEntry}

-- ---- a formula with ground terms for the variables around is closed

ground_under : (n : ℕ) (u : Term) → IsGround u → term_closed_under n u ≡ true
ground_under n u h = below_closed n u (λ k i. absurd (none k (closed_below 0 u h k i)))
  where
    none : (k : ℕ) → k < 0 → ⊥
    none k l = omega (arith, l)

module _ (s : ℕ → Term) (grounds : (k : ℕ) → IsGround (s k)) where
  outside_closed : (n k : ℕ) → term_closed_under n (outside s n k) ≡ true
  outside_closed n k = by_test (nat_lt k n) refl
    where
      by_test : (b : Bool) → nat_lt k n ≡ b → term_closed_under n (cond b (Var k) (s (k - n))) ≡ true
      by_test true h = closed-Var k n ∙ h
      by_test false h = ground_under n (s (k - n)) (grounds (k - n))

  abbrev IsPutClosed : ℕ → Term → Type 0
  IsPutClosed n u = term_closed_under n (substituted (outside s n) u) ≡ true

  all_closed : (n : ℕ) (args : List Term) → ForEach (IsPutClosed n) args → all_true (map (term_closed_under n) (map (substituted (outside s n)) args)) ≡ true
  all_closed n [] each = refl
  all_closed n (a ∷ args) each = ap₂ (λ x y. x && y) each.0 (all_closed n args each.1)

  term_closed : (n : ℕ) (u : Term) → IsPutClosed n u
  term_closed n = term_induction (IsPutClosed n)
      (λ k. ap (term_closed_under n) (substituted-Var (outside s n) k) ∙ outside_closed n k)
      (λ f args each. ap (term_closed_under n) (substituted-App (outside s n) f args) ∙ closed-App f (map (substituted (outside s n)) args) n ∙ all_closed n args each)
      (ap (term_closed_under n) (substituted-Any (outside s n)) ∙ closed-Any n)

  abbrev IsClosedWith : Formula → Type 0
  IsClosedWith f = (n : ℕ) → closed_under (put_in s f n) n ≡ true

  same_formula : (f g : Formula) (n : ℕ) → f ≡ g → closed_under f n ≡ closed_under g n
  same_formula f g n e = ap (λ x. closed_under x n) e

  formula_closed : (f : Formula) → IsClosedWith f
  formula_closed = formula_induction IsClosedWith
      (λ n. same_formula _ _ n (put-True s n) ∙ closed-True n)
      (λ n. same_formula _ _ n (put-False s n) ∙ closed-False n)
      (λ p args n. same_formula _ _ n (put-Atom s p args n) ∙ closed-Atom p (map (substituted (outside s n)) args) n ∙ all_closed n args (for_each (IsPutClosed n) (term_closed n) args))
      (λ a h n. same_formula _ _ n (put-Not s a n) ∙ closed-Not (put_in s a n) n ∙ h n)
      (λ a b h j n. same_formula _ _ n (put-And s a b n) ∙ closed-And (put_in s a n) (put_in s b n) n ∙ ap₂ (λ x y. x && y) (h n) (j n))
      (λ a b h j n. same_formula _ _ n (put-Or s a b n) ∙ closed-Or (put_in s a n) (put_in s b n) n ∙ ap₂ (λ x y. x && y) (h n) (j n))
      (λ a b h j n. same_formula _ _ n (put-Imp s a b n) ∙ closed-Imp (put_in s a n) (put_in s b n) n ∙ ap₂ (λ x y. x && y) (h n) (j n))
      (λ a b h j n. same_formula _ _ n (put-Iff s a b n) ∙ closed-Iff (put_in s a n) (put_in s b n) n ∙ ap₂ (λ x y. x && y) (h n) (j n))
      (λ a h n. same_formula _ _ n (put-All s a n) ∙ closed-All (put_in s a (n + 1)) n ∙ h (n + 1))
      (λ a h n. same_formula _ _ n (put-Ex s a n) ∙ closed-Ex (put_in s a (n + 1)) n ∙ h (n + 1))

-- ---- the terms around an origin are ground

ground_args : (t : Term) → IsGround t → (arg : Term) → Contains (args_of t) arg → IsGround arg
ground_args = term_induction (λ t. IsGround t → (arg : Term) → Contains (args_of t) arg → IsGround arg)
    (λ n h arg c. absurd (none_in_nil arg (contains_same (args_of (Var n)) [] arg (args-Var n) c)))
    (λ f args each h arg c. ground_argument f args arg h (contains_same (args_of (App f args)) args arg (args-App f args) c))
    (λ h arg c. absurd (none_in_nil arg (contains_same (args_of Any) [] arg args-Any c)))

value_ground : (v : ℕ → Term) → ((n : ℕ) → IsGround (v n)) → (entries : List SkEntry) (a : Around) → IsGround (value v entries a)
value_ground v h entries (Universal n) = h n
value_ground v h entries (Existential e) = skolem_ground v h entries e
value_ground v h entries Vacant = closed-Any 0

around_ground : (v : ℕ → Term) → ((n : ℕ) → IsGround (v n)) → (entries : List SkEntry) (around : List Around) (k : ℕ) → IsGround (term_at (map (value v entries) around) k)
around_ground v h entries around k =
    ⊎_elim (λ c. let m = map_contains (value v entries) around (term_at (map (value v entries) around) k) c in subst IsGround (sym m.2) (value_ground v h entries m.0))
    (λ e. ap (term_closed_under 0) e ∙ closed-Any 0) (read_is (map (value v entries) around) k)

pub origin_closed : OriginFormulasAreClosed
origin_closed os t h = by_origin (origin_of_term os t)
  where
    by_spot : (origin : Origin) (x : Option Spot) → IsClosed (formula_at origin (args_of t) x).formula
    by_spot origin None = closed-False 0
    by_spot origin (Some x) =
        let v = universals_by origin (args_of t) in
        formula_closed (term_at (terms_around origin x.around (args_of t)))
        (around_ground v (assigned_ground (args_for origin.map.entries origin.ex) (args_of t) (ground_args t h)) origin.map.entries x.around) x.formula 0

    by_origin : (o : Option Origin) → IsClosed (formula_from (args_of t) o).formula
    by_origin None = closed-False 0
    by_origin (Some origin) = by_spot origin (spot_of origin)
