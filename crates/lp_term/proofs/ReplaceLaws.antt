-- What the program puts for a variable is what the theory puts for it.
use Rattle.std.proofs.Common.{◌≡◌, ◌+◌, ◌-◌, ◌<◌, ◌≤◌, ℕ, zero, suc, Bool, true, false, if◌then◌else◌, nat_eq, nat_lt, List, refl, sym, ap, ap₂, ◌∙◌, arith, add-one}
use Rattle.std.proofs.lemmas.Bool.Decides.{Decides-eqb, Decides-ltb, nat_tests}
use Rattle.lp_term.specs.LambdaPi.{Term, app, con, for_last, for_place, instantiate, lam, pat, pi, rename, shift, substitute, under_binder, var}
use Rattle.lp_term.specs.Substitution.{lifted, put_at, put_for, put_for_variable, raised, substituted}
use Rattle.lp_term.specs.View.{term_of}
use Rattle.lp_term.specs.declared.lp.Lp.{Lp, Lp-F, Sort, Sym, Var, Pat, App, Lam, Pi, fold-roll-Lp, map-Lp, roll-Lp}
use Rattle.lp_term.specs.declared.lp.Lp.TheOpen as layer
use Rattle.lp_term.specs.declared.lp.Lp.TheVariants.{rolls-Sort, rolls-Sym, rolls-Var, rolls-Pat, rolls-App, rolls-Lam, rolls-Pi}
use Rattle.lp_term.proofs.SubstitutionLaws.{ext, rename_is_substitute, rename_rename, substitute_var}
use Rattle.lp_term.proofs.ViewLaws.{lp_induction, view_App, view_Lam, view_Pat, view_Pi, view_Sort, view_Sym, view_Var, view_lifted}

-- ---- what becomes of a variable below so many binders

for_lower : (u : Term) (place number : ℕ) → number < place → for_place u place number ≡ var number
for_lower u zero number h = absurd (omega (arith, h))
for_lower u (suc place) zero h = refl
for_lower u (suc place) (suc number) h = ap shift (for_lower u place number (omega (arith, h)))

for_higher : (u : Term) (place number : ℕ) → place ≤ number → for_place u place (suc number) ≡ var number
for_higher u zero number h = refl
for_higher u (suc place) zero h = absurd (omega (arith, h))
for_higher u (suc place) (suc number) h = ap shift (for_higher u place number (omega (arith, h)))

raised_more : (place n : ℕ) → suc (raised place 0 n) ≡ raised (suc place) 0 n
raised_more place n = grind (arith, nat_tests)

raised_none : (n : ℕ) → raised 0 0 n ≡ n
raised_none n = grind (arith, nat_tests)

rename_none : (t : Term) → rename (λ n. n) t ≡ t
rename_none t = rename_is_substitute t (λ n. n) ∙ substitute_var t

for_same : (u : Term) (place : ℕ) → for_place u place place ≡ rename (raised place 0) u
for_same u zero = sym (ap (λ r. rename r u) (ext raised_none) ∙ rename_none u)
for_same u (suc place) =
    ap shift (for_same u place) ∙ rename_rename u (λ n. suc n) (raised place 0) ∙ ap (λ r. rename r u) (ext (raised_more place))

module _ (by : Lp) where
  -- above the place the variable is lowered
  lowered : (place number : ℕ) → place < number → var (number - 1) ≡ for_place (term_of by) place number
  lowered place zero h = absurd (omega (arith, h))
  lowered place (suc number) h =
      let e : suc number - 1 ≡ number = omega arith in ap var e ∙ sym (for_higher (term_of by) place number (omega (arith, h)))

  put_case : (b c : Bool) (place number : ℕ) → nat_lt number place ≡ b → nat_eq number place ≡ c
      → term_of (if b then Var number else if c then lifted place by 0 else Var (number - 1)) ≡ for_place (term_of by) place number
  put_case true c place number e d = view_Var number ∙ sym (for_lower (term_of by) place number ((Decides-ltb number place).0 e))
  put_case false true place number e d =
      view_lifted place by 0
      ∙ sym (for_same (term_of by) place)
      ∙ ap (for_place (term_of by) place) (sym ((Decides-eqb number place).0 d))
  put_case false false place number e d = view_Var (number - 1) ∙ lowered place number (grind (arith, nat_tests, e, d))

  put_variable : (place number : ℕ) → term_of (put_for_variable by number place) ≡ for_place (term_of by) place number
  put_variable place number = put_case (nat_lt number place) (nat_eq number place) place number refl refl

  -- ---- in every term

  IsPut : Lp → Type 0
  IsPut t = (place : ℕ) → term_of (put_for by t place) ≡ substitute (for_place (term_of by) place) (term_of t)

  put_roll : (y : Lp-F Lp) (place : ℕ) → put_for by (roll-Lp y) place ≡ put_at by (map-Lp Lp (ℕ → Lp) (put_for by) y) place
  put_roll y place = ap (λ f. f place) (fold-roll-Lp (ℕ → Lp) (put_at by) y)

  put_body : (b : Lp) → IsPut b → (place : ℕ) → term_of (put_for by b (place + 1)) ≡ substitute (under_binder (for_place (term_of by) place)) (term_of b)
  unfolding IsPut
  put_body b h place = h (place + 1) ∙ ap (λ n. substitute (for_place (term_of by) n) (term_of b)) (add-one place)

  put_sort : IsPut Sort
  unfolding IsPut
  put_sort place =
      ap (λ t. term_of (put_for by t place)) (sym rolls-Sort)
      ∙ ap term_of (put_roll layer.Sort place)
      ∙ view_Sort
      ∙ ap (substitute (for_place (term_of by) place)) (sym view_Sort)

  put_sym : (name : List ℕ) → IsPut (Sym name)
  unfolding IsPut
  put_sym name place =
      ap (λ t. term_of (put_for by t place)) (sym (rolls-Sym name))
      ∙ ap term_of (put_roll (layer.Sym name) place)
      ∙ view_Sym name
      ∙ ap (substitute (for_place (term_of by) place)) (sym (view_Sym name))

  put_var : (number : ℕ) → IsPut (Var number)
  unfolding IsPut
  put_var number place =
      ap (λ t. term_of (put_for by t place)) (sym (rolls-Var number))
      ∙ ap term_of (put_roll (layer.Var number) place)
      ∙ put_variable place number
      ∙ ap (substitute (for_place (term_of by) place)) (sym (view_Var number))

  put_pat : (name : List ℕ) → IsPut (Pat name)
  unfolding IsPut
  put_pat name place =
      ap (λ t. term_of (put_for by t place)) (sym (rolls-Pat name))
      ∙ ap term_of (put_roll (layer.Pat name) place)
      ∙ view_Pat name
      ∙ ap (substitute (for_place (term_of by) place)) (sym (view_Pat name))

  put_app : (a b : Lp) → IsPut a → IsPut b → IsPut (App a b)
  unfolding IsPut
  put_app a b h k place =
      ap (λ t. term_of (put_for by t place)) (sym (rolls-App a b))
      ∙ ap term_of (put_roll (layer.App a b) place)
      ∙ view_App (put_for by a place) (put_for by b place)
      ∙ ap₂ app (h place) (k place)
      ∙ ap (substitute (for_place (term_of by) place)) (sym (view_App a b))

  put_lam : (a b : Lp) → IsPut a → IsPut b → IsPut (Lam a b)
  unfolding IsPut
  put_lam a b h k place =
      ap (λ t. term_of (put_for by t place)) (sym (rolls-Lam a b))
      ∙ ap term_of (put_roll (layer.Lam a b) place)
      ∙ view_Lam (put_for by a place) (put_for by b (place + 1))
      ∙ ap₂ lam (h place) (put_body b k place)
      ∙ ap (substitute (for_place (term_of by) place)) (sym (view_Lam a b))

  put_pi : (a b : Lp) → IsPut a → IsPut b → IsPut (Pi a b)
  unfolding IsPut
  put_pi a b h k place =
      ap (λ t. term_of (put_for by t place)) (sym (rolls-Pi a b))
      ∙ ap term_of (put_roll (layer.Pi a b) place)
      ∙ view_Pi (put_for by a place) (put_for by b (place + 1))
      ∙ ap₂ pi (h place) (put_body b k place)
      ∙ ap (substitute (for_place (term_of by) place)) (sym (view_Pi a b))

  put_is : (t : Lp) → IsPut t
  put_is = lp_induction IsPut put_sort put_sym put_var put_pat put_app put_lam put_pi

  -- a term put for variable 0
  pub view_substituted : (t : Lp) → term_of (substituted t by) ≡ instantiate (term_of t) (term_of by)
  unfolding IsPut
  view_substituted t = put_is t 0
