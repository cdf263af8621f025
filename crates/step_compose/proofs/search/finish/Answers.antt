use Rattle.std.proofs.Common.{ap, ◌∙◌, length, sym}
use Rattle.normal_form.specs.declared.clause_list.ClauseList.{ClauseList}
use Rattle.step_compose.proofs.Justified.{justified_from, unjustified_from}
use Rattle.step_compose.proofs.SearchLaws.{made_by, none_here}
use Rattle.step_compose.specs.Arguments.{entries_from}
use Rattle.step_compose.specs.Composing.{symbol_in}
use Rattle.step_compose.proofs.search.finish.Goals as goal

pub returns-in-None : goal.returns-in-None
returns-in-None c =
    none_here c.args.from.now c.args.aliens.now c.args.targets.now.rows c.args.places.now c.as_slice.result.now c.in_ok-image.image
    (c.requires.all ∙ ap length c.requires.arguments) (c.as_slice.ensures ∙ c.in_ok-symbols.ensures) c.in_ok-image.ensures.rows
    (unjustified_from c.args.targets.now.rows c.in_ok-image.image c.in_ok-found.found c.in_ok-found.ensures c.in-None.is)

pub returns : goal.returns
returns c =
    let (image, steps) = justified_from c.args.targets.now.rows c.in_ok-image.image c.in_ok-found.found c.in-Some.it c.in_ok-found.ensures c.in-Some.is in
    made_by c.args.from.now c.args.aliens.now c.args.targets.now.rows c.args.arguments.now c.args.places.now c.as_slice.result.now _ c.requires.functions c.requires.arguments
    c.requires.exactly c.requires.fits c.requires.all (c.as_slice.ensures ∙ c.in_ok-symbols.ensures)
    (c.in_ok-map-in-Some.ensures ∙ ap (λ x. entries_from (symbol_in x) 0 c.args.arguments.now) (c.as_slice-in-Some.ensures ∙ sym c.as_slice.ensures))
    (ap (λ (x : ClauseList). x.rows) image ∙ c.in_ok-image.ensures.rows) steps
