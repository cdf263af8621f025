-- The view of the program's terms, constructor by constructor, and of raised terms.
use Rattle.std.proofs.Common.{◌≡◌, ◌+◌, ℕ, zero, suc, nat_lt, Bool, true, false, if◌then◌else◌, List, sym, ap, ap₂, subst, ◌∙◌, arith}
use Rattle.std.proofs.lemmas.Bool.Decides.{nat_tests}
use Rattle.lp_term.specs.LambdaPi.{Term, app, con, lam, pat, pi, rename, shift, type, under_renaming, var}
use Rattle.lp_term.specs.Connectives.{arrow}
use Rattle.lp_term.specs.View.{term_at, term_of}
use Rattle.lp_term.specs.Terms.{arrow_of}
use Rattle.lp_term.specs.Substitution.{lifted, lifted_at, raised}
use Rattle.lp_term.specs.declared.lp.Lp.{Lp, Lp-F, Sort, Sym, Var, Pat, App, Lam, Pi, fold-roll-Lp, ind-Lp, map-Lp, roll-Lp}
use Rattle.lp_term.specs.declared.lp.Lp.TheOpen as layer
use Rattle.lp_term.specs.declared.lp.Lp.TheVariants.{rolls-Sort, rolls-Sym, rolls-Var, rolls-Pat, rolls-App, rolls-Lam, rolls-Pi}
use Rattle.lp_term.proofs.SubstitutionLaws.{ext}

module _ (P : Lp → Type 0) (at_sort : P Sort) (at_sym : (name : List ℕ) → P (Sym name)) (at_var : (number : ℕ) → P (Var number)) (at_pat : (name : List ℕ) → P (Pat name)) (at_app : (a b : Lp) → P a → P b → P (App a b)) (at_lam : (a b : Lp) → P a → P b → P (Lam a b)) (at_pi : (a b : Lp) → P a → P b → P (Pi a b)) where
  at_layer : (y : Lp-F ((t : Lp) × P t)) → P (roll-Lp (map-Lp ((t : Lp) × P t) Lp (λ one. one.0) y))
  at_layer layer.Sort = rw rolls-Sort at_sort
  at_layer (layer.Sym name) = rw (rolls-Sym name) (at_sym name)
  at_layer (layer.Var number) = rw (rolls-Var number) (at_var number)
  at_layer (layer.Pat name) = rw (rolls-Pat name) (at_pat name)
  at_layer (layer.App a b) = rw (rolls-App a.0 b.0) (at_app a.0 b.0 a.1 b.1)
  at_layer (layer.Lam a b) = rw (rolls-Lam a.0 b.0) (at_lam a.0 b.0 a.1 b.1)
  at_layer (layer.Pi a b) = rw (rolls-Pi a.0 b.0) (at_pi a.0 b.0 a.1 b.1)

  -- induction on the program's terms
  pub lp_induction : (t : Lp) → P t
  lp_induction = ind-Lp P (λ x y e. subst (λ z. P (roll-Lp z)) e (at_layer y))

pub view_Sort : term_of Sort ≡ type
view_Sort = ap term_of (sym rolls-Sort) ∙ fold-roll-Lp Term term_at layer.Sort

pub view_Sym : (name : List ℕ) → term_of (Sym name) ≡ con name
view_Sym name = ap term_of (sym (rolls-Sym name)) ∙ fold-roll-Lp Term term_at (layer.Sym name)

pub view_Var : (number : ℕ) → term_of (Var number) ≡ var number
view_Var number = ap term_of (sym (rolls-Var number)) ∙ fold-roll-Lp Term term_at (layer.Var number)

pub view_Pat : (name : List ℕ) → term_of (Pat name) ≡ pat name
view_Pat name = ap term_of (sym (rolls-Pat name)) ∙ fold-roll-Lp Term term_at (layer.Pat name)

pub view_App : (a b : Lp) → term_of (App a b) ≡ app (term_of a) (term_of b)
view_App a b = ap term_of (sym (rolls-App a b)) ∙ fold-roll-Lp Term term_at (layer.App a b)

pub view_Lam : (a b : Lp) → term_of (Lam a b) ≡ lam (term_of a) (term_of b)
view_Lam a b = ap term_of (sym (rolls-Lam a b)) ∙ fold-roll-Lp Term term_at (layer.Lam a b)

pub view_Pi : (a b : Lp) → term_of (Pi a b) ≡ pi (term_of a) (term_of b)
view_Pi a b = ap term_of (sym (rolls-Pi a b)) ∙ fold-roll-Lp Term term_at (layer.Pi a b)

raised_under : (up bound number : ℕ) → under_renaming (raised up bound) number ≡ raised up (bound + 1) number
raised_under up bound zero = grind (arith, nat_tests)
raised_under up bound (suc number) = grind (arith, nat_tests)

module _ (up : ℕ) where
  IsRaised : Lp → Type 0
  IsRaised t = (bound : ℕ) → term_of (lifted up t bound) ≡ rename (raised up bound) (term_of t)

  lifted_roll : (y : Lp-F Lp) (bound : ℕ) → lifted up (roll-Lp y) bound ≡ lifted_at up (map-Lp Lp (ℕ → Lp) (lifted up) y) bound
  lifted_roll y bound = ap (λ f. f bound) (fold-roll-Lp (ℕ → Lp) (lifted_at up) y)

  raised_var : (b : Bool) (m n : ℕ) → term_of (if b then Var m else Var n) ≡ var (if b then m else n)
  raised_var true m n = view_Var m
  raised_var false m n = view_Var n

  lifted_body : (b : Lp) → IsRaised b → (bound : ℕ) → term_of (lifted up b (bound + 1)) ≡ rename (under_renaming (raised up bound)) (term_of b)
  unfolding IsRaised
  lifted_body b h bound = h (bound + 1) ∙ ap (λ r. rename r (term_of b)) (sym (ext (raised_under up bound)))

  raised_sort : IsRaised Sort
  unfolding IsRaised
  raised_sort bound =
      ap (λ t. term_of (lifted up t bound)) (sym rolls-Sort)
      ∙ ap term_of (lifted_roll layer.Sort bound)
      ∙ view_Sort
      ∙ ap (rename (raised up bound)) (sym view_Sort)

  raised_sym : (name : List ℕ) → IsRaised (Sym name)
  unfolding IsRaised
  raised_sym name bound =
      ap (λ t. term_of (lifted up t bound)) (sym (rolls-Sym name))
      ∙ ap term_of (lifted_roll (layer.Sym name) bound)
      ∙ view_Sym name
      ∙ ap (rename (raised up bound)) (sym (view_Sym name))

  raised_number : (number : ℕ) → IsRaised (Var number)
  unfolding IsRaised
  raised_number number bound =
      ap (λ t. term_of (lifted up t bound)) (sym (rolls-Var number))
      ∙ ap term_of (lifted_roll (layer.Var number) bound)
      ∙ raised_var (nat_lt number bound) number (number + up)
      ∙ ap (rename (raised up bound)) (sym (view_Var number))

  raised_pat : (name : List ℕ) → IsRaised (Pat name)
  unfolding IsRaised
  raised_pat name bound =
      ap (λ t. term_of (lifted up t bound)) (sym (rolls-Pat name))
      ∙ ap term_of (lifted_roll (layer.Pat name) bound)
      ∙ view_Pat name
      ∙ ap (rename (raised up bound)) (sym (view_Pat name))

  raised_app : (a b : Lp) → IsRaised a → IsRaised b → IsRaised (App a b)
  unfolding IsRaised
  raised_app a b h k bound =
      ap (λ t. term_of (lifted up t bound)) (sym (rolls-App a b))
      ∙ ap term_of (lifted_roll (layer.App a b) bound)
      ∙ view_App (lifted up a bound) (lifted up b bound)
      ∙ ap₂ app (h bound) (k bound)
      ∙ ap (rename (raised up bound)) (sym (view_App a b))

  raised_lam : (a b : Lp) → IsRaised a → IsRaised b → IsRaised (Lam a b)
  unfolding IsRaised
  raised_lam a b h k bound =
      ap (λ t. term_of (lifted up t bound)) (sym (rolls-Lam a b))
      ∙ ap term_of (lifted_roll (layer.Lam a b) bound)
      ∙ view_Lam (lifted up a bound) (lifted up b (bound + 1))
      ∙ ap₂ lam (h bound) (lifted_body b k bound)
      ∙ ap (rename (raised up bound)) (sym (view_Lam a b))

  raised_pi : (a b : Lp) → IsRaised a → IsRaised b → IsRaised (Pi a b)
  unfolding IsRaised
  raised_pi a b h k bound =
      ap (λ t. term_of (lifted up t bound)) (sym (rolls-Pi a b))
      ∙ ap term_of (lifted_roll (layer.Pi a b) bound)
      ∙ view_Pi (lifted up a bound) (lifted up b (bound + 1))
      ∙ ap₂ pi (h bound) (lifted_body b k bound)
      ∙ ap (rename (raised up bound)) (sym (view_Pi a b))

  -- a raised term is a renamed one
  pub view_lifted : (t : Lp) (bound : ℕ) → term_of (lifted up t bound) ≡ rename (raised up bound) (term_of t)
  unfolding IsRaised
  view_lifted = lp_induction IsRaised raised_sort raised_sym raised_number raised_pat raised_app raised_lam raised_pi

raised_by_one : (number : ℕ) → raised 1 0 number ≡ suc number
raised_by_one number = grind (arith, nat_tests)

-- a term one binder further in
pub view_shift : (t : Lp) → term_of (lifted 1 t 0) ≡ shift (term_of t)
view_shift t = view_lifted 1 t 0 ∙ ap (λ r. rename r (term_of t)) (ext raised_by_one)

pub view_arrow : (a b : Lp) → term_of (arrow_of a b) ≡ arrow (term_of a) (term_of b)
view_arrow a b = view_Pi a (lifted 1 b 0) ∙ ap (pi (term_of a)) (view_shift b)
