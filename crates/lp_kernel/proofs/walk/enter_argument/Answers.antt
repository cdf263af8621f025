use Rattle.std.proofs.Common.{◌≡◌, sym, ap, ap₂, ◌∙◌, arith}
use Rattle.lp_term.specs.LambdaPi.{pi}
use Rattle.lp_term.specs.View.{term_of}
use Rattle.lp_term.proofs.ViewLaws.{view_Pi}
use Rattle.lp_exact.specs.Layers.{opened}
use Rattle.lp_exact.proofs.TreeLaws.{no_pi}
use Rattle.lp_kernel.specs.Signatures.{sig_of}
use Rattle.lp_kernel.proofs.StepLaws.{argument_steps, argument_stops}
use Rattle.lp_kernel.proofs.walk.enter_argument.Goals as goal

pub returns-in-Pi-clause-same : goal.returns-in-Pi-clause-same
returns-in-Pi-clause-same c =
    let a = c.in_ok-a-in-Pi.a in
    let b = c.in_ok-b-in-Pi.b in
    let e : term_of c.shown.result.now ≡ opened (term_of c.args.of) = c.shown.ensures (opened (term_of c.args.of)) c.in_ok-layer.ensures in
    let ea : a ≡ c.in-Pi.a = c.in_ok-a-in-Pi.ensures ∙ c.get.ensures in
    let eb : b ≡ c.in-Pi.b = c.in_ok-b-in-Pi.ensures ∙ c.get-in-Pi.ensures in
    let v : pi (term_of a) (term_of b) ≡ opened (term_of c.args.of) = ap₂ (λ x y. pi (term_of x) (term_of y)) ea eb ∙ sym (view_Pi c.in-Pi.a c.in-Pi.b) ∙ ap term_of (sym c.in-Pi.is) ∙ e in
    argument_steps c.args.end (sig_of c.args.sig.now) c.args.frames.now c.args.types.now (term_of c.args.of) c.args.argument c.args.value a b c.args.nodes c.args.node c.in_ok-at-in-Pi.at c.len.result _ c.push.new.self
    c.len.ensures v (omega arith) c.in_ok-push-in-Pi.ensures.ok

pub returns : goal.returns
returns c =
    let e : term_of c.shown.result.now ≡ opened (term_of c.args.of) = c.shown.ensures (opened (term_of c.args.of)) c.in_ok-layer.ensures in
    record {
      same = argument_stops (sig_of c.args.sig.now) c.args.frames.now c.args.types.now (term_of c.args.of) c.args.argument c.args.value c.args.nodes c.args.node c.in_ok-first.first c.len-in_default.result c.in_ok-found-in_default.found
          (λ u v h. no_pi c.shown.result.now c.in_default.not-Pi u v (e ∙ h)) c.len-in_default.ensures (omega arith) c.in_ok-found-in_default.ensures;
      small = tt;
      ends = tt;
    }
