use Rattle.std.proofs.Common.{◌≡◌, ◌+◌, ◌<◌, None, arith, length, get_or, ap, ◌∙◌}
use Rattle.std.proofs.lemmas.Result.{IfOk-weaker}
use Rattle.ground_instances.specs.declared.instance.Instance.{Instance}
use Rattle.lp_term.specs.Connectives.{bot, proof_of}
use Rattle.lp_term.specs.ProofTerms.{let_term}
use Rattle.lp_term.specs.View.{term_of}
use Rattle.nd_term.specs.Outputs.{output_clause}
use Rattle.development.specs.Clauses.{abstracted, typed}
use Rattle.development.specs.Lets.{let_built}
use Rattle.development.specs.Places.{IsIn, further_in}
use Rattle.development.specs.Proofs.{proof_of_instance}
use Rattle.development.proofs.LetLaws.{let_is}
use Rattle.development.proofs.LetSteps.{some_same}
use Rattle.development.proofs.lets.instance_let.Goals as goal

pub returns : goal.returns
returns c = λ it h.
    let given = c.args.given.now in
    let problem = given.problem.now in
    let trace = given.trace.now in
    let plan = given.plan.now in
    let place = c.place_of-place.result in
    let found = c.in_ok-it.it in
    let same : found ≡ it = some_same c.in_ok-it.ensures h in
    let below : length problem.hyps < given.begin = omega (arith, c.requires.given.denied, c.requires.given.below) in
    let here : IsIn plan given.first (given.begin + c.args.number) place =
    record { level = c.place_of-place.ensures.level ∙ c.in_ok-further.ensures; first_eigen = c.place_of-place.ensures.first_eigen; order = c.place_of-place.ensures.order; symbols = c.place_of-place.ensures.symbols } in
    let lits = c.as_slice-lits.ensures in
    let there : c.in_ok-there.there ≡ further_in place (length found.lits) = c.in_ok-there.ensures ∙ ap (λ l. further_in place (length l)) lits in
    let thin = c.thin_at-thin.ensures ∙ ap (λ l. get_or l c.args.number None) c.as_slice.ensures in
    let falsity : term_of c.in_ok-falsity.falsity ≡ proof_of_instance problem trace plan (further_in place (length found.lits)) given.begin found (get_or plan.thins c.args.number None) =
    c.in_ok-falsity.ensures ∙ (λ k. proof_of_instance problem trace plan (there k) given.begin found (thin k)) in
    let term = c.in_ok-term.ensures
    ∙ ap (λ l. abstracted place.level place.first_eigen (length place.order.now) (output_clause place.symbols.now place.order.now l) (term_of c.in_ok-falsity.falsity)) lits in
    let domain = c.in_ok-domain.ensures
    ∙ ap (λ l. typed place.level place.first_eigen (length place.order.now) (output_clause place.symbols.now place.order.now l) (proof_of bot)) lits in
    IfOk-weaker c.let_in.result (λ r. term_of r ≡ let_term (term_of c.in_ok-domain.domain) (term_of c.in_ok-term.term) (term_of c.args.rest))
    (λ r. term_of r ≡ let_built problem trace plan given.first given.begin c.args.number it (term_of c.args.rest))
    (λ r e. let_is problem trace plan c.requires.buildable given.first given.begin c.args.number below c.requires.given.room found c.in_ok-it.ensures place here
    (term_of r) (term_of c.in_ok-domain.domain) (term_of c.in_ok-term.term) (term_of c.in_ok-falsity.falsity) (term_of c.args.rest) e domain term falsity
    ∙ ap (λ (x : Instance). let_built problem trace plan given.first given.begin c.args.number x (term_of c.args.rest)) same)
    c.let_in.ensures
