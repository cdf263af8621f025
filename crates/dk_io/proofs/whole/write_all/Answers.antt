use Rattle.std.proofs.Common.{arith, rules}
use Rattle.std.proofs.lemmas.List.{length-drop, take_rest}
use Rattle.dk_io.proofs.Pieces.{appends_more}
use Rattle.dk_io.proofs.whole.write_all.Goals as goal

pub loop-at-preserved : goal.loop-at-preserved
loop-at-preserved g c =
    let bytes = c.args.bytes.now in
    let at = c.loop-at.at in
    let count = c.in_ok-count.count in
    let took = simp (take_rest, length-drop) at c.in_ok-count.ensures.bound in
    record {
      within = omega (arith, took);
      written = appends_more (g.K.Sink.kept c.args.sink.now) (g.K.Sink.kept c.loop-at.sink) (g.K.Sink.kept c.write.new.self) bytes at count
          c.loop-at.invariant.written c.in_ok-count.ensures.appends;
      still = search rules;
    }
