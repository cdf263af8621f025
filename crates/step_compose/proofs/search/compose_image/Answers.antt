use Rattle.std.proofs.Common.{ap, length, None, sym, ◌∙◌}
use Rattle.step_compose.proofs.OneComposed.{composed_is_one}
use Rattle.step_compose.proofs.SearchLaws.{from_start, too_many}
use Rattle.step_compose.proofs.search.compose_image.Goals as goal

pub returns-then-aliens-len-clause-answer : goal.returns-then-aliens-len-clause-answer
returns-then-aliens-len-clause-answer c =
    too_many c.args.from.now c.args.aliens.now c.args.targets.now.rows
    (λ e. c.if-aliens-len.true (ap length c.as_slice-aliens.ensures ∙ e ∙ sym (ap length c.in_ok-arguments.ensures) ∙ sym c.len.ensures))

pub returns-then-aliens-len-clause-alone : goal.returns-then-aliens-len-clause-alone
returns-then-aliens-len-clause-alone c = λ other h.
    composed_is_one c.args.from.now c.args.aliens.now c.args.targets.now.rows other None h
    (too_many c.args.from.now c.args.aliens.now c.args.targets.now.rows
    (λ e. c.if-aliens-len.true (ap length c.as_slice-aliens.ensures ∙ e ∙ sym (ap length c.in_ok-arguments.ensures) ∙ sym c.len.ensures)))

pub returns-clause-answer : goal.returns-clause-answer
returns-clause-answer c =
    from_start c.args.from.now c.as_slice-aliens.result.now c.args.aliens.now c.args.targets.now.rows c.as_slice-2.result.now c.in_ok-found.found
    c.as_slice-aliens.ensures (c.as_slice-2.ensures.value ∙ c.new-none.ensures.items) c.in_ok-found.ensures

pub returns-clause-alone : goal.returns-clause-alone
returns-clause-alone c = λ other h.
    composed_is_one c.args.from.now c.args.aliens.now c.args.targets.now.rows other c.in_ok-found.found h
    (from_start c.args.from.now c.as_slice-aliens.result.now c.args.aliens.now c.args.targets.now.rows c.as_slice-2.result.now c.in_ok-found.found
    c.as_slice-aliens.ensures (c.as_slice-2.ensures.value ∙ c.new-none.ensures.items) c.in_ok-found.ensures)
