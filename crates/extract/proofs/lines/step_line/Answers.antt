use Rattle.std.proofs.Common.{◌≡◌, ◌-◌, ◌++◌, ◌<◌, Some, ap, arith, length, refl, slice_get, subst, ◌∙◌}
use Rattle.std.proofs.lemmas.Option.{slice_get_read}
use Rattle.extract.specs.StepLines.{line_of}
use Rattle.extract.proofs.lines.step_line.Goals as goal

pub returns : goal.returns
returns c =
    let place = c.args.step - 1 in
    let step = c.index-steps-place.result in
    let verdict = c.index-list-place.result in
    let steps = c.as_slice-steps.result.now in
    let list = c.as_slice-list.result.now in
    let first = c.requires.first in
    let last = c.requires.last in
    let long = ap length c.as_slice-steps.ensures in
    let judged = ap length c.as_slice-list.ensures ∙ c.requires.judged in
    let within : place < length steps = omega arith in
    let found : place < length list = omega arith in record {
      place = place;
      step = step;
      verdict = verdict;
      numbered = omega arith;
      stands = subst (λ xs. slice_get xs place ≡ Some step) c.as_slice-steps.ensures (slice_get_read steps (length steps) place step refl within c.index-steps-place.is);
      judged = subst (λ xs. slice_get xs place ≡ Some verdict) c.as_slice-list.ensures (slice_get_read list (length list) place verdict refl found c.index-list-place.is);
      is = c.in_ok-put_line.ensures ∙ ap (λ text. text ++ line_of c.args.step step verdict) c.new-out.ensures.items;
    }
