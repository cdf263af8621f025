-- What is within the profile means a proper formula.
use Rattle.std.proofs.Common.{subst, sym}
use Rattle.tptp_formulas.proofs.ProperFormulas.{closed_proper}
use Rattle.tptp_formulas.specs.Proper.{IsProper}
use Rattle.tptp_formulas.proofs.closing.make_body.Goals as goal

pub returns-clause-proper : goal.returns-clause-proper
returns-clause-proper c = subst IsProper (sym c.in_ok-f.ensures.closed) (closed_proper c.args.raw.now (sym c.in_default.ensures))
