use Rattle.std.proofs.Common.{subst}
use Rattle.std.specs.Map.{keys_of, values_of}
use Rattle.dk_syntax.specs.TermTables.{IsTermTable}
use Rattle.dk_syntax.proofs.EntryLaws.{kept_table}
use Rattle.dk_syntax.proofs.term_table.TermTable.len.Goals as goal

pub returns-clause-table : goal.returns-clause-table
returns-clause-table c =
    subst IsTermTable c.self.view_is (kept_table (keys_of c.self.inside.entries.entries) (values_of c.self.inside.entries.entries) c.self.invariant)
