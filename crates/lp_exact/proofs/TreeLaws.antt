-- The view of the program's terms loses nothing, and when two open types have one full type.
use Rattle.std.proofs.Common.{◌≡◌, refl, sym, ap, ap₂, ◌∙◌}
use Rattle.lp_term.specs.LambdaPi.{Term, type, kind, con, pat, var, app, lam, pi}
use Rattle.lp_term.specs.View.{term_of}
use Rattle.lp_term.specs.declared.lp.Lp.{Lp, Sort, Sym, Var, Pat, App, Lam, Pi}
use Rattle.lp_term.proofs.ViewLaws.{lp_induction, view_Sort, view_Sym, view_Var, view_Pat, view_App, view_Lam, view_Pi}
use Rattle.lp_exact.specs.LazyTypes.{in_parts}

-- the program's term that is seen as a term
abbrev lp_of : Term → Lp
lp_of type = Sort
lp_of kind = Sort
lp_of (con x) = Sym x
lp_of (pat x) = Pat x
lp_of (var n) = Var n
lp_of (app t u) = App (lp_of t) (lp_of u)
lp_of (lam a t) = Lam (lp_of a) (lp_of t)
lp_of (pi a b) = Pi (lp_of a) (lp_of b)

IsBack : Lp → Type 0
IsBack t = lp_of (term_of t) ≡ t

back : (t : Lp) → lp_of (term_of t) ≡ t
unfolding IsBack
back = lp_induction IsBack (ap lp_of view_Sort) (λ x. ap lp_of (view_Sym x)) (λ n. ap lp_of (view_Var n)) (λ x. ap lp_of (view_Pat x))
    (λ a b h k. ap lp_of (view_App a b) ∙ ap₂ App h k)
    (λ a b h k. ap lp_of (view_Lam a b) ∙ ap₂ Lam h k)
    (λ a b h k. ap lp_of (view_Pi a b) ∙ ap₂ Pi h k)

-- equal views are of equal trees
pub view_injective : (a b : Lp) → term_of a ≡ term_of b → a ≡ b
view_injective a b e = sym (back a) ∙ ap lp_of e ∙ back b

pub no_pi : (a : Lp) → ((x y : Lp) → a ≡ Pi x y → ⊥) → (u v : Term) → term_of a ≡ pi u v → ⊥
no_pi a h u v e = h (lp_of u) (lp_of v) (sym (back a) ∙ ap lp_of e)

-- what is no product has no parts to change
alone : (f : Term → Term) (t : Term) → ((u v : Term) → t ≡ pi u v → ⊥) → in_parts f t ≡ t
alone f (pi a b) h = absurd (h a b refl)
alone f type h = refl
alone f kind h = refl
alone f (con x) h = refl
alone f (pat x) h = refl
alone f (var n) h = refl
alone f (app t u) h = refl
alone f (lam a t) h = refl

alone_back : (f : Term → Term) (t u : Term) → ((x y : Term) → t ≡ pi x y → ⊥) → t ≡ in_parts f u → t ≡ u
alone_back f t (pi a b) h e = absurd (h (f a) (f b) e)
alone_back f t type h e = e
alone_back f t kind h e = e
alone_back f t (con x) h e = e
alone_back f t (pat x) h e = e
alone_back f t (var n) h e = e
alone_back f t (app u v) h e = e
alone_back f t (lam a u) h e = e

-- a type that is no product
pub open_alone : (f : Term → Term) (a b : Lp) → ((x y : Lp) → a ≡ Pi x y → ⊥) → in_parts f (term_of a) ≡ in_parts f (term_of b) → a ≡ b
open_alone f a b h e = view_injective a b (alone_back f (term_of a) (term_of b) (no_pi a h) (sym (alone f (term_of a) (no_pi a h)) ∙ e))

-- a product and a type that is none
pub product_alone : (f : Term → Term) (u v : Term) (b : Lp) → ((x y : Lp) → b ≡ Pi x y → ⊥) → pi u v ≡ in_parts f (term_of b) → ⊥
product_alone f u v b h e = no_pi b h u v (sym (alone f (term_of b) (no_pi b h)) ∙ sym e)

pub stands_alone : (f : Term → Term) (a : Lp) → ((x y : Lp) → a ≡ Pi x y → ⊥) → in_parts f (term_of a) ≡ term_of a
stands_alone f a h = alone f (term_of a) (no_pi a h)
