use Rattle.std.proofs.Common.{◌≡◌, ◌+◌, ◌-◌, length, suc, sym, ap, ◌∙◌, arith}
use Rattle.step_check.proofs.FreshLaws.{fresh_after, fresh_after_all, fresh_before, length_fresh_after}
use Rattle.step_check.proofs.freshness.fresh.Goals as goal

pub loop-done-init : goal.loop-done-init
loop-done-init c =
    let all : c.len-count.result - 0 ≡ length c.args.list.now.list = omega (arith, c.len-count.ensures) in
    rw all (sym (fresh_after_all c.as_slice-symbols.result.now c.args.list.now.list))

pub freshen_at-requires : goal.freshen_at-requires
freshen_at-requires c =
    let long : length c.loop-done.list.list ≡ length c.args.list.now.list =
    ap length c.loop-done.invariant ∙ length_fresh_after (c.len-count.result - c.loop-done.done) c.as_slice-symbols.result.now c.args.list.now.list in
    omega (arith, long, c.len-count.ensures, c.loop-done-test.true)

pub loop-done-preserved : goal.loop-done-preserved
loop-done-preserved c =
    let list = c.args.list.now.list in
    let place = c.len-count.result - 1 - c.loop-done.done in
    let now : c.len-count.result - c.loop-done.done ≡ suc place = omega (arith, c.loop-done-test.true) in
    let next : c.len-count.result - (c.loop-done.done + 1) ≡ place = omega (arith, c.loop-done-test.true) in
    rw next (fresh_before c.as_slice-symbols.result.now list c.loop-done.list.list c.freshen_at.new.list place
    (c.loop-done.invariant ∙ ap (λ n. fresh_after n c.as_slice-symbols.result.now list) now) (omega (arith, c.len-count.ensures, c.loop-done-test.true)) c.freshen_at.ensures)
