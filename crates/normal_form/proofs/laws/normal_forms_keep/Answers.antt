use Rattle.normal_form.proofs.NormalFacts.{closed_stays_closed, none_is_vacuous, vacuous_is_dropped, well_formed_stays}
use Rattle.normal_form.proofs.laws.normal_forms_keep.Goals as goal

pub returns : goal.returns
returns c = record {
  closed = λ f sign h k. closed_stays_closed f sign h k;
  well_formed = λ f sign h. well_formed_stays f sign h;
  dropped = λ a. vacuous_is_dropped a;
  tight = λ f sign. none_is_vacuous f sign;
}
