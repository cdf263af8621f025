use Rattle.normal_form.proofs.TruthLaws.{same_truth}
use Rattle.normal_form.proofs.signed_form.keeps_truth.Goals as goal

pub returns : goal.returns
returns g c = same_truth c.args.f.now c.args.sign c.args.nf.now c.requires
