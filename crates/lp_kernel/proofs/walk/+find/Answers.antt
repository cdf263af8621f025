use Rattle.std.proofs.Common.{◌≡◌, ◌+◌, ◌-◌, Ok, sym, ap, ◌∙◌, arith}
use Rattle.std.proofs.lemmas.Result.{IfOk-weaker}
use Rattle.lp_term.specs.LambdaPi.{app, con, lam}
use Rattle.lp_term.specs.View.{term_of}
use Rattle.lp_term.proofs.ViewLaws.{view_App, view_Lam, view_Sym}
use Rattle.lp_kernel.specs.Checking.{typing}
use Rattle.lp_kernel.specs.Signatures.{sig_of}
use Rattle.lp_kernel.specs.Walking.{check_at, checked_of, find_at, found_of}
use Rattle.lp_kernel.proofs.DescentLaws.{last_steps, product_steps}
use Rattle.lp_kernel.proofs.StepLaws.{argument_bound, lambda_steps, let_steps, none_found, plain_applied, plain_lambda, plain_symbol}
use Rattle.lp_kernel.proofs.walk.+find.Goals as goal

pub bound_value-returns-in-Typed-clause-value : goal.bound_value-returns-in-Typed-clause-value
bound_value-returns-in-Typed-clause-value t c =
    let e : Ok (typing (term_of c.in-Typed.of) (term_of c.in-Typed.value)) ≡ find_at (sig_of c.args.sig.now) c.args.types.now (term_of c.args.argument.now) c.args.node = ap found_of (sym c.in-Typed.is) ∙ c.in_ok-refusal.ensures.found in
    IfOk-weaker c.argument_value.result _ _ (λ r h. h ∙ argument_bound (sig_of c.args.sig.now) c.args.types.now c.find.new.types (term_of c.args.argument.now) (term_of c.args.x.now) c.args.node c.len.result (term_of c.in-Typed.of) (term_of c.in-Typed.value) e c.len.ensures c.in_ok-refusal.ensures.kept) c.argument_value.ensures

pub check_last-returns-in_default : goal.check_last-returns-in_default
check_last-returns-in_default t c =
    let v : term_of c.args.t.now ≡ con c.in-Sym.name = ap term_of c.in-Sym.is ∙ view_Sym c.in-Sym.name in
    record {
      found = IfOk-weaker c.check_none.result _ _ (λ r h. h ∙ plain_symbol (sig_of c.args.sig.now) c.args.types.now (term_of c.args.t.now) c.in-Sym.name c.args.node v (λ e. c.in_default.not-Individuals (c.word_named.ensures ∙ e)) (λ e. c.in_default.not-Propositions (c.word_named.ensures ∙ e))) c.check_none.ensures.found;
      kept = c.check_none.ensures.kept;
    }

pub check_last-returns-in_default-word_at : goal.check_last-returns-in_default-word_at
check_last-returns-in_default-word_at t c =
    let f = term_of c.get.result.now in
    let v : term_of c.args.t.now ≡ app f (term_of c.in-App.object) = ap term_of c.in-App.is ∙ view_App c.in-App.function c.in-App.object ∙ ap (λ x. app (term_of x) (term_of c.in-App.object)) (sym c.get.ensures) in
    record {
      found = IfOk-weaker c.check_none-in_default-word_at.result _ _ (λ r h. h ∙ plain_applied (sig_of c.args.sig.now) c.args.types.now (term_of c.args.t.now) f (term_of c.in-App.object) c.args.node v (λ e. c.in_default-word_at.not-Prf (c.word_at.ensures ∙ e))) c.check_none-in_default-word_at.ensures.found;
      kept = c.check_none-in_default-word_at.ensures.kept;
    }

pub check_none-returns-clause-found : goal.check_none-returns-clause-found
check_none-returns-clause-found t c =
    let e : Ok (typing (term_of c.in-Typed.of) (term_of c.in-Typed.field-1)) ≡ find_at (sig_of c.args.sig.now) c.args.types.now (term_of c.args.t.now) c.args.node = ap found_of (sym c.in-Typed.is) ∙ c.in_ok-refusal.ensures.found in
    none_found (sig_of c.args.sig.now) c.args.types.now c.find.new.types (term_of c.args.t.now) c.args.node c.len.result (term_of c.in-Typed.of) (term_of c.in-Typed.field-1) (term_of c.in_ok-found-in-Typed.found) e c.in_ok-found-in-Typed.ensures c.len.ensures c.in_ok-refusal.ensures.kept

pub step_lambda-returns-in_ok-enter_body-in-Opened-clause-same : goal.step_lambda-returns-in_ok-enter_body-in-Opened-clause-same
step_lambda-returns-in_ok-enter_body-in-Opened-clause-same t c =
    let l = c.args.types.now in
    let a = term_of c.args.domain.now in
    let e : Ok (term_of c.in-Opened.x) ≡ check_at (sig_of c.args.sig.now) l a (c.args.node + 1) = ap checked_of (sym c.in-Opened.is) ∙ c.in_ok-refusal.ensures.found ∙ ap (check_at (sig_of c.args.sig.now) l a) c.in_ok-first.ensures in
    lambda_steps c.args.end (sig_of c.args.sig.now) c.args.frames.now l a c.args.body c.in-Opened.x c.args.node c.in_ok-next-in-Opened.next c.enter_body.new.frames c.enter_body.new.types c.check_type.new.types
    c.in_ok-refusal.ensures.kept e (omega arith) c.in_ok-enter_body-in-Opened.ensures.frames c.in_ok-enter_body-in-Opened.ensures.context

pub step_let-returns-clause-same : goal.step_let-returns-clause-same
step_let-returns-clause-same t c =
    let l = c.args.types.now in
    let a = term_of c.args.domain.now in
    let e : Ok (term_of c.in-Opened.x) ≡ check_at (sig_of c.args.sig.now) l a (c.args.node + 2) = ap checked_of (sym c.in-Opened.is) ∙ c.in_ok-refusal.ensures.found ∙ ap (check_at (sig_of c.args.sig.now) l a) c.in_ok-second.ensures in
    let at = c.args.end - c.in_ok-own-in-Opened.own in
    let_steps at (sig_of c.args.sig.now) c.args.frames.now l a c.args.body (term_of c.args.argument.now) c.in-Opened.x c.in-Opened-2.by c.args.node c.in_ok-next-in-Opened-2.next at c.enter_let.new.frames c.enter_let.new.types c.bound_value.new.types c.check_type.new.types
    c.in_ok-refusal.ensures.kept c.in_ok-refusal-in-Opened.ensures.kept e (omega arith) (ap checked_of (sym c.in-Opened-2.is) ∙ c.in_ok-refusal-in-Opened.ensures.value) (omega arith) c.in_ok-enter_let-in-Opened-2.ensures.frames c.in_ok-enter_let-in-Opened-2.ensures.context

pub check_last-returns-in-Lam-clause-found : goal.check_last-returns-in-Lam-clause-found
check_last-returns-in-Lam-clause-found t c =
    let v : term_of c.args.t.now ≡ lam (term_of c.in-Lam.field-0) (term_of c.in-Lam.field-1) = ap term_of c.in-Lam.is ∙ view_Lam c.in-Lam.field-0 c.in-Lam.field-1 in
    IfOk-weaker c.check_none-in-Lam.result _ _ (λ r h. h ∙ plain_lambda (sig_of c.args.sig.now) c.args.types.now (term_of c.args.t.now) (term_of c.in-Lam.field-0) (term_of c.in-Lam.field-1) c.args.node v) c.check_none-in-Lam.ensures.found

pub step_product-returns-in_ok-enter_codomain-in-Opened-clause-same : goal.step_product-returns-in_ok-enter_codomain-in-Opened-clause-same
step_product-returns-in_ok-enter_codomain-in-Opened-clause-same t c =
    let l = c.args.types.now in
    let a = term_of c.args.a.now in
    let e : Ok (term_of c.in-Opened.x) ≡ check_at (sig_of c.args.sig.now) l a (c.args.node + 1) = ap checked_of (sym c.in-Opened.is) ∙ c.in_ok-refusal.ensures.found ∙ ap (check_at (sig_of c.args.sig.now) l a) c.in_ok-first.ensures in
    product_steps (sig_of c.args.sig.now) c.args.domains.now l a c.args.b c.in-Opened.x c.args.node c.in_ok-next-in-Opened.next c.enter_codomain.new.domains c.enter_codomain.new.types c.check_type.new.types
    c.in_ok-refusal.ensures.kept e (omega arith) c.in_ok-enter_codomain-in-Opened.ensures.domains c.in_ok-enter_codomain-in-Opened.ensures.context
