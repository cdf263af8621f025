use Rattle.std.proofs.Common.{◌≡◌, ◌≤◌, ◌+◌, ◌*◌, max}
use Rattle.lp_term.specs.View.{term_of}
use Rattle.lp_term.specs.declared.lp.Lp.{size-Lp}
use Rattle.lp_kernel.specs.Checking.{node_count}
use Rattle.lp_kernel.specs.Signatures.{sig_of}
use Rattle.lp_kernel.specs.Walking.{IsExtended, check_at, find_at, over_domains, resumed}
use Rattle.lp_kernel.proofs.walk.+find.Given as goal

abbrev pub invariant-find-down : goal.invariant-find-down
invariant-find-down l = record {
  same : resumed l.frames (find_at (sig_of l.sig) l.types (term_of l.rest) l.number) ≡ find_at (sig_of l.sig) l.initial.types (term_of l.t) l.node;
  context : IsExtended l.initial.types l.types;
  small : size-Lp l.rest ≤ size-Lp l.t;
  ends : l.end ≡ l.number + node_count (term_of l.rest);
}

abbrev pub decreases-find-down : goal.decreases-find-down
decreases-find-down l = size-Lp l.rest

abbrev pub invariant-check_type-codomains : goal.invariant-check_type-codomains
invariant-check_type-codomains l = record {
  same : over_domains l.domains (check_at (sig_of l.sig) l.types (term_of l.rest) l.number) ≡ check_at (sig_of l.sig) l.initial.types (term_of l.t) l.node;
  context : IsExtended l.initial.types l.types;
  small : size-Lp l.rest ≤ size-Lp l.t;
}

abbrev pub decreases-check_type-codomains : goal.decreases-check_type-codomains
decreases-check_type-codomains l = size-Lp l.rest

abbrev pub decreases-find : goal.decreases-find
decreases-find l = 10 * size-Lp l.t.now + 2

abbrev pub decreases-step : goal.decreases-step
decreases-step l = 10 * size-Lp l.rest.now + 1

abbrev pub decreases-step_lambda : goal.decreases-step_lambda
decreases-step_lambda l = 10 * size-Lp l.domain.now + 7

abbrev pub decreases-step_applied : goal.decreases-step_applied
decreases-step_applied l = 10 * max (size-Lp l.function.now) (size-Lp l.argument.now) + 9

abbrev pub decreases-step_argument : goal.decreases-step_argument
decreases-step_argument l = 10 * size-Lp l.function.now + 4

abbrev pub decreases-step_let : goal.decreases-step_let
decreases-step_let l = 10 * max (size-Lp l.domain.now) (size-Lp l.argument.now) + 8

abbrev pub decreases-bound_value : goal.decreases-bound_value
decreases-bound_value l = 10 * size-Lp l.argument.now + 4

abbrev pub decreases-check_none : goal.decreases-check_none
decreases-check_none l = 10 * size-Lp l.t.now + 3

abbrev pub decreases-check_proof : goal.decreases-check_proof
decreases-check_proof l = 10 * size-Lp l.object.now + 5

abbrev pub decreases-check_last : goal.decreases-check_last
decreases-check_last l = 10 * size-Lp l.t.now + 4

abbrev pub decreases-step_product : goal.decreases-step_product
decreases-step_product l = 10 * size-Lp l.a.now + 7

abbrev pub decreases-step_type : goal.decreases-step_type
decreases-step_type l = 10 * size-Lp l.rest.now + 5

abbrev pub decreases-check_type : goal.decreases-check_type
decreases-check_type l = 10 * size-Lp l.t.now + 6
