use Rattle.std.proofs.Common.{arith}
use Rattle.std.specs.Map.{keys_of}
use Rattle.dk_syntax.specs.Shapes.{terms_of}
use Rattle.dk_syntax.proofs.EntryLaws.{any_below, any_size, kept_entered, length_view, numbered_view}
use Rattle.dk_syntax.specs.declared.term_table.Shape.TheVariants.{Any}
use Rattle.dk_syntax.proofs.term_table.TermTable.any.Goals as goal

pub invariant_of-self-2 : goal.invariant_of-self-2
invariant_of-self-2 c =
    let es = c.self.inside.entries.entries in
    let few = length_view es c.args.self.now c.self.view_is in
    kept_entered es c.enter.new.entries.entries Any 1 c.in_ok-number.number c.self.invariant (any_below _) (any_size (terms_of (keys_of es))) (omega arith) c.in_ok-number.ensures.ok

pub returns-clause-ok : goal.returns-clause-ok
returns-clause-ok c =
    numbered_view c.self.inside.entries.entries c.enter.new.entries.entries c.args.self.now Any 1 c.in_ok-number.number c.self.view_is c.self.invariant (any_below _) c.in_ok-number.ensures.ok
