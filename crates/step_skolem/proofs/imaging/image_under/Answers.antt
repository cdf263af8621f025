use Rattle.std.proofs.Common.{ap, ap₂, List, [], reverse, ◌∙◌}
use Rattle.normal_form.specs.Forms.{form_of}
use Rattle.step_skolem.proofs.Results.{ok_map}
use Rattle.step_skolem.proofs.Runs.{run_is_image}
use Rattle.step_skolem.specs.Levels.{ran}
use Rattle.step_skolem.specs.declared.map.SkEntry.{SkEntry}
use Rattle.step_skolem.specs.declared.walk.Quantifier.{Quantifier}
use Rattle.step_skolem.specs.declared.walk.Value.{Value}
use Rattle.step_skolem.proofs.imaging.image_under.Goals as goal

pub returns : goal.returns
returns c = λ image p.
    ok_map c.run.result (λ answer e. run_is_image c.args.from.now c.args.map.now.entries answer image
    (e ∙ ap₂ (λ (k : List Quantifier) (v : List Value). (ran (reverse k) (reverse v) 0 0 (form_of c.args.from.now) c.as_slice.result.now).0) c.new.ensures.items c.new-2.ensures.items
    ∙ ap (λ (l : List SkEntry). (ran [] [] 0 0 (form_of c.args.from.now) l).0) c.as_slice.ensures) p) c.run.ensures.form
