use Rattle.std.proofs.Common.{◌≡◌, drop}
use Rattle.normal_form.specs.ClauseLists.{has_number}
use Rattle.step_compose.proofs.choices.is_chosen.Given as goal

abbrev pub invariant-loop-chosen : goal.invariant-loop-chosen
invariant-loop-chosen l = has_number (drop l.chosen-index l.places) l.place ≡ has_number l.places l.place
