-- Tables on their way to be closed.
use Rattle.std.proofs.Common.{◌≡◌, ℕ, ◌+◌, ◌<◌, ◌≤◌, List, [], ◌++◌, length, Option, None, Some, refl, sym, ap, subst, ◌∙◌, ⊎_elim, arith}
use Rattle.std.specs.List.{Contains}
use Rattle.std.proofs.lemmas.List.Elements.{Contains-append_cases}
use Rattle.dk_syntax.proofs.ListLaws.{or_equal}
use Rattle.dk_syntax.proofs.TermLaws.{term_induction}
use Rattle.dk_syntax.specs.TermTables.{IsTermTable, term_of}
use Rattle.dk_syntax.specs.WellFormed.{IsGround}
use Rattle.dk_syntax.specs.declared.Term.{Any, App, Term, Var}
use Rattle.expansion.specs.Choices.{skolem_term}
use Rattle.skolem_order.proofs.EnteredLaws.{entered_same_at, entered_stays}
use Rattle.skolem_order.proofs.GroundLaws.{assigned_ground, ground_argument, ground_same, skolem_ground}
use Rattle.skolem_order.proofs.ListFacts.{contains_same, map_contains, none_in_nil}
use Rattle.skolem_order.proofs.PartLaws.{args-Any, args-App, args-Var, contains_at, place_in}
use Rattle.skolem_order.specs.Closing.{HasClosed, Reached, at_first, outside}
use Rattle.skolem_order.specs.Order.{IsPart}
use Rattle.skolem_order.specs.Origins.{args_for, args_of, origin_of_term, spot_of, universals_by}
use Rattle.skolem_order.specs.Sites.{outer_terms, site_at, terms_outside}
use Rattle.skolem_order.specs.Tables.{HasEntered}
use Rattle.skolem_order.specs.declared.origins.Origin.{Origin}

-- ---- terms outside an origin are ground

args_ground : (t : Term) → IsGround t → (a : Term) → Contains (args_of t) a → IsGround a
args_ground = term_induction (λ t. IsGround t → (a : Term) → Contains (args_of t) a → IsGround a)
    (λ n g a c. absurd (none_in_nil a (contains_same (args_of (Var n)) [] a (args-Var n) c)))
    (λ f args h g a c. ground_argument f args a g (contains_same (args_of (App f args)) args a (args-App f args) c))
    (λ g a c. absurd (none_in_nil a (contains_same (args_of Any) [] a args-Any c)))

pub outside_ground : (os : List Origin) (t u : Term) → IsGround t → Contains (terms_outside os t) u → IsGround u
outside_ground os t u g c = by_origin (origin_of_term os t) c
  where
    by_origin : (o : Option Origin) → Contains (outer_terms o (args_of t)) u → IsGround u
    by_origin None x = absurd (none_in_nil u x)
    by_origin (Some origin) x =
        let v = universals_by origin (args_of t) in
        let one = map_contains (skolem_term v origin.map.entries) (site_at (spot_of origin)).outer u x in
        subst IsGround (sym one.2)
        (skolem_ground v (assigned_ground (args_for origin.map.entries origin.ex) (args_of t) (args_ground t g)) origin.map.entries one.0)

-- ---- the loop

-- the terms below the number have in the table what stands outside their origins
pub record Closes (os : List Origin) (old new : List Term) (next : ℕ) : Type 0 where
  pub grown : (t : Term) → Contains old t → Contains new t
  pub closed : (i : ℕ) → i < next → (u : Term) → Contains (terms_outside os (term_of new i)) u → Contains new u
  pub only : (t : Term) → Contains new t → Reached os old t

pub closes_none : (os : List Origin) (table : List Term) → Closes os table table 0
closes_none os table = record { grown = λ t c. c; closed = λ i h u c. absurd (let n : ⊥ = omega (arith, h) in n); only = λ t c. at_first t c }

pub closes_more : (os : List Origin) (old mid new : List Term) (k : ℕ) → k < length mid → IsTermTable mid → Closes os old mid k
    → HasEntered mid (terms_outside os (term_of mid k)) new → Closes os old new (k + 1)
closes_more os old mid new k less is x y = record {
  grown = λ t c. entered_stays mid (terms_outside os (term_of mid k)) new y t (x.grown t c);
  closed = λ i h u c. ⊎_elim (λ l. before i l u c) (λ e. here i e u c) (or_equal i k h);
  only = λ t c. ⊎_elim (λ l. x.only t l) (λ r. came t r) (Contains-append_cases mid y.added t (contains_same new (mid ++ y.added) t y.grown c));
}
  where
    before : (i : ℕ) → i < k → (u : Term) → Contains (terms_outside os (term_of new i)) u → Contains new u
    before i l u c =
        let there : i < length mid = omega (arith, l, less) in
        entered_stays mid (terms_outside os (term_of mid k)) new y u
        (x.closed i l u (subst (λ t. Contains (terms_outside os t) u) (entered_same_at mid (terms_outside os (term_of mid k)) new y i there) c))

    of_mid : (u : Term) → Contains (terms_outside os (term_of mid k)) u → Contains new u
    of_mid u c = subst (Contains new) (ground_same u (outside_ground os (term_of mid k) u (is.ground k less) c)) (y.all u c)

    here : (i : ℕ) → i ≡ k → (u : Term) → Contains (terms_outside os (term_of new i)) u → Contains new u
    here i e u c =
        of_mid u (subst (λ t. Contains (terms_outside os t) u) (ap (term_of new) e ∙ entered_same_at mid (terms_outside os (term_of mid k)) new y k less) c)

    came : (t : Term) → Contains y.added t → Reached os old t
    came t c =
        let w = y.only t c in
        outside t (term_of mid k) w.0 (x.only (term_of mid k) (contains_at mid k (term_of mid k) less refl)) w.1
        (subst (IsPart t) (ground_same w.0 (outside_ground os (term_of mid k) w.0 (is.ground k less) w.1)) w.2)

pub closes_all : (os : List Origin) (old new : List Term) (k : ℕ) → length new ≤ k → Closes os old new k → HasClosed os old new
closes_all os old new k h x = record {
  grown = x.grown;
  closed = λ t u c o. let p = place_in new t c in x.closed p.0 (omega (arith, p.1, h)) u (subst (λ z. Contains (terms_outside os z) u) (sym p.2) o);
  only = x.only;
}
