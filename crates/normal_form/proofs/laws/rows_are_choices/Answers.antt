use Rattle.normal_form.proofs.AllChoices.{choices_are_rows}
use Rattle.normal_form.proofs.RowLaws.{rows_are_choices}
use Rattle.normal_form.proofs.laws.rows_are_choices.Goals as goal

pub returns : goal.returns
returns c = record { rows = λ n. rows_are_choices n; choices = λ n lits picks h. choices_are_rows n lits picks h }
