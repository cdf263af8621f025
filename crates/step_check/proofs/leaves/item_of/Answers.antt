use Rattle.std.proofs.Common.{◌≡◌, ◌++◌, Option, None, Some, MatchOption, ap, subst, sym, ◌∙◌}
use Rattle.std.specs.Prelude.{find, option_to_list}
use Rattle.std.specs.Option.{option_or}
use Rattle.std.proofs.lemmas.List.Folds.{find-append}
use Rattle.dk_syntax.specs.declared.Named.{Named}
use Rattle.step_check.specs.Steps.{has_name}
use Rattle.step_check.proofs.leaves.item_of.Goals as goal

pub returns-in-Some : goal.returns-in-Some
returns-in-Some c =
    let test = has_name c.args.name.now in
    let hyps = c.args.problem.now.hyps in
    let rest = option_to_list c.args.problem.now.conjecture in
    find-append test hyps rest ∙ ap (λ (found : Option Named). option_or found (find test rest)) (ap (find test) (sym c.as_slice.ensures) ∙ c.in-Some.ensures)

pub returns-in-None : goal.returns-in-None
returns-in-None c =
    let test = has_name c.args.name.now in
    let hyps = c.args.problem.now.hyps in
    let rest = option_to_list c.args.problem.now.conjecture in
    let here : find test (hyps ++ rest) ≡ find test rest = find-append test hyps rest ∙ ap (λ (found : Option Named). option_or found (find test rest)) (ap (find test) (sym c.as_slice.ensures) ∙ c.in-None.ensures) in
    subst (λ (f : Option Named). MatchOption c.conjecture_named.result (f ≡ None) (λ item. f ≡ Some item.now)) (sym here) c.conjecture_named.ensures
