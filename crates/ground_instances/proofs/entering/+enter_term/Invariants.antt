use Rattle.std.proofs.Common.{take}
use Rattle.ground_instances.specs.Growing.{AreEntered, grounds}
use Rattle.ground_instances.proofs.entering.+enter_term.Given as goal

-- the numbers of the terms so far
abbrev pub invariant-enter_terms-loop-term : goal.invariant-enter_terms-loop-term
invariant-enter_terms-loop-term l =
    AreEntered l.initial.table (grounds l.initial.table l.values (take l.term-index l.terms)) l.table l.numbers
