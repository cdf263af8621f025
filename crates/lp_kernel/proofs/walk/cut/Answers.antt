use Rattle.std.proofs.Common.{arith}
use Rattle.lp_kernel.proofs.StepLaws.{cut_one, cut_done}
use Rattle.lp_kernel.proofs.walk.cut.Goals as goal

pub longer-preserved-in-longer : goal.longer-preserved-in-longer
longer-preserved-in-longer c = λ base h x.
    let i = c.longer.invariant base h x in
    cut_one base i.0 c.longer.types c.pop-last.new.self c.pop-last.result (omega (arith, h, c.longer-test.true, c.len.ensures)) i.1 c.pop-last.ensures

pub returns : goal.returns
returns c = λ base h x.
    let i = c.longer.invariant base h x in
    cut_done base i.0 c.longer.types (omega (arith, h, c.longer-test.false, c.len.ensures)) i.1
