use Rattle.dedukti_read.proofs.PrintableLaws.{declared_is_printable, identifiers_are_names, prelude_is_printable}
use Rattle.dedukti_read.proofs.laws.typed_terms_are_printable.Goals as goal

pub returns-clause-prelude : goal.returns-clause-prelude
returns-clause-prelude c = prelude_is_printable

pub returns-clause-declared : goal.returns-clause-declared
returns-clause-declared c = declared_is_printable

pub returns-clause-identifiers : goal.returns-clause-identifiers
returns-clause-identifiers c = identifiers_are_names
