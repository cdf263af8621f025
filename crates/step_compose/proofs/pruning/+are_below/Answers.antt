use Rattle.std.proofs.Common.{subst}
use Rattle.dk_syntax.specs.Terms.{EachBelow}
use Rattle.step_compose.proofs.FreeLaws.{literal_below}
use Rattle.step_compose.proofs.pruning.+are_below.Goals as goal

pub returns-in-Lit : goal.returns-in-Lit
returns-in-Lit t c = λ yes.
    literal_below c.args.bound c.args.nf.now c.in-Lit.literal c.in-Lit.is (subst (EachBelow c.args.bound) c.as_slice.ensures (c.terms_below.ensures.0 yes))
