use Rattle.dedukti_read.proofs.TextLaws.{commands_are_one, reading_is_one, tokens_are_one}
use Rattle.dedukti_read.proofs.laws.texts_are_read_once.Goals as goal

pub returns-clause-tokens : goal.returns-clause-tokens
returns-clause-tokens c = tokens_are_one

pub returns-clause-commands : goal.returns-clause-commands
returns-clause-commands c = commands_are_one

pub returns-clause-developments : goal.returns-clause-developments
returns-clause-developments c = reading_is_one
