use Rattle.std.proofs.Common.{◌≡◌, take, length, sym, ap, ◌∙◌, subst, arith}
use Rattle.std.proofs.Math.Seq.{take-length}
use Rattle.ground_instances.specs.Naming.{AreNamesFit}
use Rattle.ground_instances.specs.Notes.{judged_given}
use Rattle.ground_instances.proofs.Growth.{take_one_more}
use Rattle.ground_instances.proofs.StepLaws.{fit_more}
use Rattle.ground_instances.proofs.needing.prepare.Goals as goal

pub loop-named-preserved : goal.loop-named-preserved
loop-named-preserved c =
    let judged = judged_given c.args.given.now in let names = c.args.names.now in let i = c.loop-named.named-index in
    record {
      right = c.in_ok-prepare_one.ensures.right;
      fit = subst (AreNamesFit judged) (sym (take_one_more names i c.named-item.result c.loop-named-test.true c.named-item.is))
          (fit_more judged (take i names) c.named-item.result c.loop-named.invariant.fit c.in_ok-prepare_one.ensures.fit);
    }

pub returns-clause-fit : goal.returns-clause-fit
returns-clause-fit c =
    let names = c.args.names.now in
    let all : c.loop-named.named-index ≡ length names = let a = c.loop-named-test.false in let b = c.loop-named.auto.named-index-end in omega arith in
    subst (AreNamesFit (judged_given c.args.given.now)) (ap (λ n. take n names) all ∙ take-length names) c.loop-named.invariant.fit
