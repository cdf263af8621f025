use Rattle.std.proofs.Common.{◌+◌, ◌++◌, [], ◌∷◌, take, sym, subst}
use Rattle.dk_syntax.specs.declared.term.Term.{Term}
use Rattle.ground_instances.specs.Growing.{AreEntered, grounds, IsEntered}
use Rattle.ground_instances.specs.Needs.{ground}
use Rattle.ground_instances.specs.Rows.{terms_by}
use Rattle.ground_instances.proofs.Growth.{app_ground, grounds_more, take_one_more}
use Rattle.ground_instances.proofs.entering.+enter_term.Goals as goal

pub enter_term-returns-in_ok-number-in-App : goal.enter_term-returns-in_ok-number-in-App
enter_term-returns-in_ok-number-in-App t c =
    let old = c.args.table.now in let new = c.enter_app.new.table in let values = c.args.values.now in
    let args = subst (λ ts. AreEntered old (grounds old values ts) c.enter_terms.new.table c.in_ok-numbers-in-App.numbers) c.as_slice.ensures c.in_ok-numbers-in-App.ensures in
    subst (λ (x : Term). IsEntered old (ground (terms_by old values) x) new c.in_ok-number-in-App.number) (sym c.in-App.is)
    (app_ground old c.enter_terms.new.table new values c.in-App.symbol c.in-App.args c.in_ok-numbers-in-App.numbers c.in_ok-number-in-App.number args c.in_ok-number-in-App.ensures)

pub enter_terms-loop-term-preserved : goal.enter_terms-loop-term-preserved
enter_terms-loop-term-preserved t c =
    let old = c.args.table.now in let values = c.args.values.now in let terms = c.args.terms.now in let i = c.loop-term.term-index in
    let more = grounds_more old c.loop-term.table c.enter_term.new.table values (take i terms) c.term-item.result c.loop-term.numbers c.in_ok-number.number c.requires c.loop-term.invariant c.in_ok-number.ensures in
    subst (AreEntered old (grounds old values (take (i + 1) terms)) c.enter_term.new.table) (sym c.in_ok-push.ensures.ok)
    (subst (λ ts. AreEntered old (grounds old values ts) c.enter_term.new.table (c.loop-term.numbers ++ c.in_ok-number.number ∷ []))
    (sym (take_one_more terms i c.term-item.result c.loop-term-test.true c.term-item.is)) more)
