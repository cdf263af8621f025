use Rattle.dedukti_read.proofs.PrintLaws.{print_is_answered, print_is_read, print_is_read_alone}
use Rattle.dedukti_read.proofs.laws.prints_are_read.Goals as goal

pub returns-clause-read : goal.returns-clause-read
returns-clause-read c = print_is_read

pub returns-clause-alone : goal.returns-clause-alone
returns-clause-alone c = print_is_read_alone

pub returns-clause-answered : goal.returns-clause-answered
returns-clause-answered c = print_is_answered
