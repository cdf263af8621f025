use Rattle.std.proofs.Common.{ℕ, sym, subst}
use Rattle.std.specs.Prelude.{List, length, get_or, []}
use Rattle.dk_syntax.specs.declared.Literal.{Literal}
use Rattle.lp_term.specs.Connectives.{bot, individuals, proof_of}
use Rattle.lp_term.specs.LambdaPi.{Term}
use Rattle.lp_term.specs.Signature.{Extends}
use Rattle.lp_term.specs.Typing.{Declaration, HasType}
use Rattle.step_clause.specs.declared.Justification.{Justification}
use Rattle.step_clause.specs.declared.Justification.TheVariants.{Resolve, Subsume}
use Rattle.nd_term.specs.Bindings.{LiteralProofs}
use Rattle.nd_term.specs.Justified.{IsJustified, clause_at, justified_proof}
use Rattle.nd_term.specs.Places.{eigenvariables, last_variables}
use Rattle.nd_term.specs.declared.place.Place.{Place}
use Rattle.nd_term.proofs.InstanceTypes.{resolution_types, subsumption_types}
use Rattle.nd_term.proofs.Results.{ok_map}
use Rattle.nd_term.proofs.instance.resolve_term.Goals as goal

justified_types : (sig : List Declaration) (g : List Term) → Extends sig → (place : Place) (j : Justification) (lits : List Literal) (parents : List (List Literal)) (levels : List ℕ)
    → ((k : ℕ) → HasType sig g (eigenvariables place k) individuals)
    → LiteralProofs sig g (eigenvariables place) (clause_at place lits) (last_variables (length lits)) → IsJustified sig g place j lits parents levels
    → HasType sig g (justified_proof place j lits parents levels) (proof_of bot)
justified_types sig g e place (Subsume parent clause picks terms) lits parents levels x k h = subsumption_types sig e h.0 k h.1
justified_types sig g e place (Resolve pos_parent pos_clause neg_parent neg_clause pos_picks neg_picks pos_terms neg_terms) lits parents levels x k h =
    resolution_types sig e (eigenvariables place) x h.0 h.1 h.2 k h.3 h.4

pub returns-clause-typed : goal.returns-clause-typed
returns-clause-typed c = λ sig g e x k h.
    ok_map c.justified.result
    (λ t eq. subst (λ y. HasType sig g y (proof_of bot)) (sym eq)
    (justified_types sig g e c.args.place.now c.args.j.now c.args.lits.now c.args.parents.now c.args.vars.now x k h))
    c.justified.ensures
