-- A term of the theory is that of one term of the program at most.
use Rattle.std.proofs.Common.{◌≡◌, sym, ◌∙◌, ap, ap₂}
use Rattle.lp_term.proofs.ViewLaws.{lp_induction, view_App, view_Lam, view_Pat, view_Pi, view_Sort, view_Sym, view_Var}
use Rattle.lp_term.specs.LambdaPi.{Term, app, con, kind, lam, pat, pi, type, var}
use Rattle.lp_term.specs.View.{term_of}
use Rattle.lp_term.specs.declared.Lp.{Lp}
use Rattle.lp_term.specs.declared.Lp.TheVariants.{App, Lam, Pat, Pi, Sort, Sym, Var}

-- the program's term; `kind` is that of none
abbrev back : Term → Lp
back type = Sort
back kind = Sort
back (con name) = Sym name
back (pat name) = Pat name
back (var number) = Var number
back (app t u) = App (back t) (back u)
back (lam a t) = Lam (back a) (back t)
back (pi a b) = Pi (back a) (back b)

back_view : (t : Lp) → back (term_of t) ≡ t
back_view =
    lp_induction (λ t. back (term_of t) ≡ t)
    (ap back view_Sort)
    (λ name. ap back (view_Sym name))
    (λ number. ap back (view_Var number))
    (λ name. ap back (view_Pat name))
    (λ a b h k. ap back (view_App a b) ∙ ap₂ App h k)
    (λ a b h k. ap back (view_Lam a b) ∙ ap₂ Lam h k)
    (λ a b h k. ap back (view_Pi a b) ∙ ap₂ Pi h k)

pub one_term : (a b : Lp) → term_of a ≡ term_of b → a ≡ b
one_term a b e = sym (back_view a) ∙ ap back e ∙ back_view b
