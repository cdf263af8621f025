-- The walk that makes the choices. Only private contracts cite this.
use Rattle.std.specs.Prelude.{◌≡◌, ◌+◌, ℕ, drop}
use Rattle.dk_syntax.specs.declared.Term.{Term}
use Rattle.expansion.specs.Choices.{assigned, Chosen, chosen, skolem_term}
use Rattle.expansion.specs.declared.values.Source.{Source}
use Rattle.expansion.specs.declared.choosing.Walk.{Walk}
use Rattle.expansion.specs.declared.numbers.Numbers.{Numbers}
use Rattle.normal_form.specs.Forms.{alls, exs, Form}

-- the numbers after those of the form's quantifiers
pub record Passes (old new : Numbers) (form : Form) : Type 0 where
  pub all : new.all ≡ alls form + old.all
  pub ex : new.ex ≡ exs form + old.ex

-- the terms of universals
unfoldable pub universals_of : Source → ℕ → Term
universals_of source = assigned source.row.now.quants source.terms.now

-- the choices in the form from where the walk stands
abbrev pub chosen_from : Source → Walk → Form → Chosen
chosen_from source walk form =
    chosen (universals_of source) (skolem_term (universals_of source) source.map.now.entries) walk.numbers.all walk.numbers.ex form
    (drop walk.picked source.row.now.picks)
