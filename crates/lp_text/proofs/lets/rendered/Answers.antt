use Rattle.std.proofs.Common.{ap, ◌∙◌}
use Rattle.rayon.proofs.ToStd.{slice-AllZip}
use Rattle.lp_text.proofs.Rendered.{IsLine, collected}
use Rattle.lp_text.proofs.lets.rendered.Goals as goal

pub returns : goal.returns
returns g c =
    let slice = ap (λ it. it.base.slice.now) c.map.ensures.base ∙ (ap (λ it. it.slice.now) c.with_min_len.ensures.base ∙ c.par_iter.ensures) in
    let h = c.in_ok-texts.ensures in
    let chain = h.1 in
    collected c.in_ok-texts.texts c.args.lets.now h.0 (slice-AllZip chain.0 c.args.lets.now (chain.1 ∙ slice) IsLine h.0 chain.2) h.2
