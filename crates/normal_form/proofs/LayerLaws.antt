-- A form within one more layer.
use Rattle.std.proofs.Common.{◌≡◌, List, [], ◌∷◌, ◌++◌, refl, ap}
use Rattle.normal_form.specs.Layers.{within, within_all}
use Rattle.normal_form.specs.declared.form.Nf.{Nf}
use Rattle.normal_form.specs.declared.layer.Layer.{Layer}

pub within_last : (a : Nf) (l : List Layer) (x : Layer) → within_all a (l ++ x ∷ []) ≡ within_all (within a x) l
within_last a [] x = refl
within_last a (y ∷ l) x = ap (λ b. within b y) (within_last a l x)
