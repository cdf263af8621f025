-- What was read is written there, and what is written there was read.
use Rattle.tptp_formulas.proofs.ReadingLaws.{given_only, given_written}
use Rattle.tptp_formulas.proofs.read.read_formula.Goals as goal

pub returns-clause-written : goal.returns-clause-written
returns-clause-written c = given_written (λ x. (x.0, x.1.now)) c.args.lang c.args.tokens.now c.attempt.result c.attempt.ensures

pub returns-clause-only : goal.returns-clause-only
returns-clause-only c = given_only (λ x. (x.0, x.1.now)) c.args.lang c.args.tokens.now c.attempt.result c.attempt.ensures
