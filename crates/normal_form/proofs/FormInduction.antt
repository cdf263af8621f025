-- Induction over normal forms.
use Rattle.std.proofs.Common.{subst}
use Rattle.dk_syntax.specs.declared.Literal.{Literal}
use Rattle.normal_form.specs.declared.form.Nf.{Nf, Nf-F, ind-Nf, map-Nf, roll-Nf}
use Rattle.normal_form.specs.declared.form.Nf.TheOpen as layer
use Rattle.normal_form.specs.declared.form.Nf.TheVariants.{All, And, Ex, False, Lit, Or, True, rolls-All, rolls-And, rolls-Ex, rolls-False, rolls-Lit, rolls-Or, rolls-True}

module _ (P : Nf → Type 0) (at_true : P True) (at_false : P False) (at_lit : (literal : Literal) → P (Lit literal))
    (at_and : (a b : Nf) → P a → P b → P (And a b)) (at_or : (a b : Nf) → P a → P b → P (Or a b))
    (at_all : (a : Nf) → P a → P (All a)) (at_ex : (a : Nf) → P a → P (Ex a)) where
  at_layer : (y : Nf-F ((part : Nf) × P part)) → P (roll-Nf (map-Nf ((part : Nf) × P part) Nf (λ one. one.0) y))
  at_layer layer.True = rw rolls-True at_true
  at_layer layer.False = rw rolls-False at_false
  at_layer (layer.Lit literal) = rw (rolls-Lit literal) (at_lit literal)
  at_layer (layer.And a b) = rw (rolls-And a.0 b.0) (at_and a.0 b.0 a.1 b.1)
  at_layer (layer.Or a b) = rw (rolls-Or a.0 b.0) (at_or a.0 b.0 a.1 b.1)
  at_layer (layer.All a) = rw (rolls-All a.0) (at_all a.0 a.1)
  at_layer (layer.Ex a) = rw (rolls-Ex a.0) (at_ex a.0 a.1)

  pub form_induction : (form : Nf) → P form
  form_induction = ind-Nf P (λ x y e. subst (λ z. P (roll-Nf z)) e (at_layer y))
