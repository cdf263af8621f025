-- Forms with existentials.
use Rattle.std.specs.Prelude.{Bool, true, false, ◌||◌}
use Rattle.normal_form.specs.declared.form.Nf.{Nf, Nf-F, fold-Nf}
use Rattle.normal_form.specs.declared.form.Nf.TheOpen as form

-- whether an existential stands in the form, from the same of its parts
abbrev pub existential_at : Nf-F Bool → Bool
existential_at form.True = false
existential_at form.False = false
existential_at (form.Lit literal) = false
existential_at (form.And a b) = a || b
existential_at (form.Or a b) = a || b
existential_at (form.All a) = a
existential_at (form.Ex a) = true

-- an existential stands in the form
abbrev pub existential_in : Nf → Bool
existential_in = fold-Nf Bool existential_at
