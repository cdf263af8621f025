use Rattle.std.proofs.Common.{◌≡◌, ◌+◌, ◌++◌, map, replicate, length, None, ap, sym, ◌∙◌, arith, subst}
use Rattle.std.proofs.lemmas.Grind.{common_steps}
use Rattle.std.proofs.lemmas.List.{length-replicate}
use Rattle.unifier.proofs.BoundLaws.{unbound_sound}
use Rattle.unifier.specs.Outcomes.{Sound}
use Rattle.step_clause.specs.declared.slots.Side.TheVariants.{Kept}
use Rattle.step_clause.specs.Search.{Fits, IsFound, SlotsBelow}
use Rattle.step_clause.specs.Slots.{none_wanted, slot_of}
use Rattle.step_clause.proofs.Pairs.{literals_below_more, slots_below}
use Rattle.step_clause.proofs.subsumption.subsuming_picks.Goals as goal

pub least_picks-requires-clause-sound : goal.least_picks-requires-clause-sound
least_picks-requires-clause-sound c = subst (Sound c.args.target.now.vars) (sym c.in_ok-bindings.ensures.terms) (unbound_sound c.args.target.now.vars c.in_ok-count.count)

pub least_picks-requires-clause-below_target : goal.least_picks-requires-clause-below_target
least_picks-requires-clause-below_target c =
    let e : c.in_ok-count.count ≡ c.args.target.now.vars + c.args.clause.now.vars = grind (arith, common_steps) in
    let m = ap length c.in_ok-bindings.ensures.terms ∙ length-replicate c.in_ok-count.count None in
    literals_below_more c.args.target.now.vars (length c.in_ok-bindings.bindings.terms) (omega arith) c.args.target.now.lits c.requires.target

pub least_picks-requires-clause-below_slots : goal.least_picks-requires-clause-below_slots
least_picks-requires-clause-below_slots c =
    let e : c.in_ok-count.count ≡ c.args.target.now.vars + c.args.clause.now.vars = grind (arith, common_steps) in
    let m = ap length c.in_ok-bindings.ensures.terms ∙ length-replicate c.in_ok-count.count None in
    let is = c.as_slice-2.ensures ∙ c.in_ok-add_slots.ensures
    ∙ ap (λ z. z ++ map (slot_of c.args.target.now.vars Kept) c.as_slice.result.now) (c.from_vec-slots.ensures ∙ c.new.ensures.items)
    ∙ ap (map (slot_of c.args.target.now.vars Kept)) c.as_slice.ensures in
    subst (SlotsBelow (length c.in_ok-bindings.bindings.terms)) (sym is)
    (slots_below c.args.target.now.vars c.args.clause.now.vars (length c.in_ok-bindings.bindings.terms) (omega arith) Kept c.args.clause.now.lits c.requires.clause)

pub returns : goal.returns
returns c =
    let e : c.in_ok-count.count ≡ c.args.target.now.vars + c.args.clause.now.vars = grind (arith, common_steps) in
    let is = c.as_slice-2.ensures ∙ c.in_ok-add_slots.ensures
    ∙ ap (λ z. z ++ map (slot_of c.args.target.now.vars Kept) c.as_slice.result.now) (c.from_vec-slots.ensures ∙ c.new.ensures.items)
    ∙ ap (map (slot_of c.args.target.now.vars Kept)) c.as_slice.ensures in
    subst (λ z. IsFound c.args.target.now.vars (λ r qs. Fits r c.args.target.now.lits none_wanted z qs) (replicate (c.args.target.now.vars + c.args.clause.now.vars) None) c.in_ok-found.found) is
    (subst (λ z. IsFound c.args.target.now.vars (λ r qs. Fits r c.args.target.now.lits none_wanted c.as_slice-2.result.now qs) z c.in_ok-found.found)
    (c.in_ok-bindings.ensures.terms ∙ ap (λ z. replicate z None) e) c.in_ok-found.ensures)
