use Rattle.unifier.proofs.ClosingLaws.{one_closing}
use Rattle.unifier.proofs.application.closes_alike.Goals as goal

pub returns : goal.returns
returns c = one_closing c.args.frozen c.args.s.now.terms c.args.u.now.terms c.requires.settled_s c.requires.settled_u c.requires.u_refines c.requires.s_refines
