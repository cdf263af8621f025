use Rattle.std.proofs.Common.{◌≡◌, ◌∙◌, true, false, ap, ap₂, map, sym}
use Rattle.std.specs.List.{list_any}
use Rattle.dk_syntax.specs.Symbols.{same_symbol}
use Rattle.lp_term.specs.Identifiers.{identifier_of}
use Rattle.nd_term.specs.Formulas.{eigenvariable, ground_symbol}
use Rattle.nd_term.specs.Outputs.{ground_applied_each, output}
use Rattle.nd_term.proofs.OutputSteps.{ground-App, ground-Var, output_plain, output_skolem}
use Rattle.nd_term.proofs.outputs.+replaced.Goals as goal

pub replaced-returns-then-is_among : goal.replaced-returns-then-is_among
replaced-returns-then-is_among t c =
    let among : list_any (same_symbol c.in-App.head) c.args.place.now.symbols.now ≡ true = cc in
    ground-Var c.in_ok-number-in-App.number
    ∙ ap eigenvariable c.in_ok-number-in-App.ensures
    ∙ sym (output_skolem c.args.place.now.symbols.now c.args.place.now.order.now c.args.t.now c.in-App.head c.in-App.args c.in-App.is among)

pub replaced-returns-in_ok-copy-in-App : goal.replaced-returns-in_ok-copy-in-App
replaced-returns-in_ok-copy-in-App t c =
    let among : list_any (same_symbol c.in-App.head) c.args.place.now.symbols.now ≡ false = cc in
    ground-App c.in_ok-copy-in-App.field-0 c.in_ok-args-in-App.args
    ∙ ap₂ (λ x us. ground_applied_each (ground_symbol (identifier_of x)) us) c.in_ok-copy-in-App.ensures
    (c.in_ok-args-in-App.ensures ∙ ap (map (output c.args.place.now.symbols.now c.args.place.now.order.now)) c.as_slice-in-App.ensures)
    ∙ sym (output_plain c.args.place.now.symbols.now c.args.place.now.order.now c.args.t.now c.in-App.head c.in-App.args c.in-App.is among)
