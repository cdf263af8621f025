use Rattle.std.proofs.Common.{rules}
use Rattle.derivation_graph.specs.Roots.{IsFirstFreeMark}
use Rattle.derivation_graph.proofs.RootLaws as law
use Rattle.derivation_graph.proofs.roots.root_by_marks.Goals as goal

pub returns : goal.returns
returns c formulas marked =
    let first : IsFirstFreeMark c.args.marks.now c.args.barred.now c.first_free_mark.result = search rules in
    law.root_by_marks formulas c.args.marks.now c.args.barred.now marked c.first_free_mark.result first
