-- Layers of forms. Only private contracts cite this.
use Rattle.std.specs.Prelude.{List, [], ◌∷◌}
use Rattle.normal_form.specs.declared.form.Nf.{Nf}
use Rattle.normal_form.specs.declared.form.Nf.TheVariants as nf
use Rattle.normal_form.specs.declared.layer.Layer.{Layer}
use Rattle.normal_form.specs.declared.layer.Layer.TheVariants as layer

-- the form as left part, or as body, of the layer
abbrev pub within : Nf → Layer → Nf
within a (layer.And b) = nf.And a b
within a (layer.Or b) = nf.Or a b
within a layer.All = nf.All a
within a layer.Ex = nf.Ex a

-- the form within all the layers, the inmost of which is the last
abbrev pub within_all : Nf → List Layer → Nf
within_all a [] = a
within_all a (layer ∷ rest) = within (within_all a rest) layer
