use Rattle.std.proofs.Common.{◌||◌, List, Option, ap, sym, ◌∙◌}
use Rattle.dk_syntax.specs.declared.SymKey.{SymKey}
use Rattle.step_check.proofs.AlienLaws.{formula_more}
use Rattle.step_check.specs.Steps.{stands_in, symbols_of_step}
use Rattle.tstp_trace.specs.declared.step.Step.{Step}
use Rattle.step_check.proofs.aliens.add_symbols.Goals as goal

pub returns-in_ok-add_formula-in-Some : goal.returns-in_ok-add_formula-in-Some
returns-in_ok-add_formula-in-Some c =
    let known = c.args.known.now.keys in
    λ symbol.
    ap (λ (keys : List SymKey). stands_in keys symbol) c.in_ok-add_formula-in-Some.ensures
    ∙ (formula_more known c.in-Some.step.now.formula symbol
    ∙ ap (λ (step : Option Step). stands_in known symbol || stands_in (symbols_of_step step) symbol) (sym c.in-Some.ensures))
