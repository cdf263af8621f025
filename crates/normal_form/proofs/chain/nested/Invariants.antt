use Rattle.normal_form.proofs.ChainLaws.{IsNestedOf}
use Rattle.normal_form.proofs.chain.nested.Given as goal

-- the members so far are nested
abbrev pub invariant-loop-member : goal.invariant-loop-member
invariant-loop-member l = IsNestedOf l.both l.form l.yielded
