use Rattle.std.proofs.Common.{◌≡◌, ◌+◌, ◌++◌, map, replicate, length, None, ap, sym, ◌∙◌, arith, subst}
use Rattle.std.proofs.lemmas.Grind.{common_steps}
use Rattle.std.proofs.lemmas.List.{length-replicate}
use Rattle.unifier.proofs.BoundLaws.{unbound_sound}
use Rattle.unifier.specs.Outcomes.{Sound}
use Rattle.step_clause.specs.declared.slots.Side.TheVariants.{Positive, Negative}
use Rattle.step_clause.specs.Search.{Fits, IsFound, SlotsBelow}
use Rattle.step_clause.specs.Slots.{both_wanted, slot_of}
use Rattle.step_clause.proofs.Pairs.{literals_below_more, slots_below, slots_below_both}
use Rattle.step_clause.proofs.resolution.resolving_picks.Goals as goal

pub least_picks-requires-clause-sound : goal.least_picks-requires-clause-sound
least_picks-requires-clause-sound c = subst (Sound c.args.target.now.vars) (sym c.in_ok-bindings.ensures.terms) (unbound_sound c.args.target.now.vars c.in_ok-count.count)

pub least_picks-requires-clause-below_target : goal.least_picks-requires-clause-below_target
least_picks-requires-clause-below_target c =
    let e : c.in_ok-count.count ≡ c.args.target.now.vars + c.args.first.now.vars + c.args.second.now.vars = grind (arith, common_steps) in
    let m = ap length c.in_ok-bindings.ensures.terms ∙ length-replicate c.in_ok-count.count None in
    literals_below_more c.args.target.now.vars (length c.in_ok-bindings.bindings.terms) (omega arith) c.args.target.now.lits c.requires.target

pub least_picks-requires-clause-below_slots : goal.least_picks-requires-clause-below_slots
least_picks-requires-clause-below_slots c =
    let d : c.in_ok-from.from ≡ c.args.target.now.vars + c.args.first.now.vars = grind (arith, common_steps) in
    let e : c.in_ok-count.count ≡ c.args.target.now.vars + c.args.first.now.vars + c.args.second.now.vars = grind (arith, common_steps) in
    let m = ap length c.in_ok-bindings.ensures.terms ∙ length-replicate c.in_ok-count.count None in
    let is = c.as_slice-3.ensures ∙ c.in_ok-add_slots-2.ensures
    ∙ ap (λ z. z ++ map (slot_of c.in_ok-from.from Negative) c.as_slice-2.result.now)
    (c.in_ok-add_slots.ensures ∙ ap (λ z. z ++ map (slot_of c.args.target.now.vars Positive) c.as_slice.result.now) (c.from_vec-slots.ensures ∙ c.new.ensures.items)
    ∙ ap (map (slot_of c.args.target.now.vars Positive)) c.as_slice.ensures)
    ∙ ap (λ z. map (slot_of c.args.target.now.vars Positive) c.args.first.now.lits ++ map (slot_of c.in_ok-from.from Negative) z) c.as_slice-2.ensures in
    subst (SlotsBelow (length c.in_ok-bindings.bindings.terms)) (sym is)
    (slots_below_both (length c.in_ok-bindings.bindings.terms) (map (slot_of c.args.target.now.vars Positive) c.args.first.now.lits) (map (slot_of c.in_ok-from.from Negative) c.args.second.now.lits)
    (slots_below c.args.target.now.vars c.args.first.now.vars (length c.in_ok-bindings.bindings.terms) (omega arith) Positive c.args.first.now.lits c.requires.first)
    (slots_below c.in_ok-from.from c.args.second.now.vars (length c.in_ok-bindings.bindings.terms) (omega arith) Negative c.args.second.now.lits c.requires.second))

pub returns : goal.returns
returns c =
    let d : c.in_ok-from.from ≡ c.args.target.now.vars + c.args.first.now.vars = grind (arith, common_steps) in
    let e : c.in_ok-count.count ≡ c.args.target.now.vars + c.args.first.now.vars + c.args.second.now.vars = grind (arith, common_steps) in
    let is = c.as_slice-3.ensures ∙ c.in_ok-add_slots-2.ensures
    ∙ ap (λ z. z ++ map (slot_of c.in_ok-from.from Negative) c.as_slice-2.result.now)
    (c.in_ok-add_slots.ensures ∙ ap (λ z. z ++ map (slot_of c.args.target.now.vars Positive) c.as_slice.result.now) (c.from_vec-slots.ensures ∙ c.new.ensures.items)
    ∙ ap (map (slot_of c.args.target.now.vars Positive)) c.as_slice.ensures)
    ∙ ap (λ z. map (slot_of c.args.target.now.vars Positive) c.args.first.now.lits ++ map (slot_of c.in_ok-from.from Negative) z) c.as_slice-2.ensures
    ∙ ap (λ z. map (slot_of c.args.target.now.vars Positive) c.args.first.now.lits ++ map (slot_of z Negative) c.args.second.now.lits) d in
    subst (λ z. IsFound c.args.target.now.vars (λ r qs. Fits r c.args.target.now.lits both_wanted z qs) (replicate (c.args.target.now.vars + c.args.first.now.vars + c.args.second.now.vars) None) c.in_ok-found.found) is
    (subst (λ z. IsFound c.args.target.now.vars (λ r qs. Fits r c.args.target.now.lits both_wanted c.as_slice-3.result.now qs) z c.in_ok-found.found)
    (c.in_ok-bindings.ensures.terms ∙ ap (λ z. replicate z None) e) c.in_ok-found.ensures)
