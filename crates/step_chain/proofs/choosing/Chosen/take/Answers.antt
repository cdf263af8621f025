use Rattle.std.proofs.Common.{◌≡◌, ◌<◌, ◌++◌, ◌∷◌, [], true, length, Some, slice_get, refl, sym, ap, ap₂, ◌∙◌, subst, arith}
use Rattle.std.proofs.lemmas.Option.{slice_get_read}
use Rattle.std.specs.Option.{unwrap_or}
use Rattle.dk_syntax.specs.Terms.{EachBelow}
use Rattle.step_clause.specs.Search.{PivotsBelow}
use Rattle.step_chain.proofs.ChosenLaws.{not_taken, refused, taken_chosen}
use Rattle.step_chain.proofs.Taking.{first_below}
use Rattle.step_chain.specs.Pairs.{IsBound}
use Rattle.step_chain.proofs.choosing.Chosen.take.Goals as goal

pub returns-then-not-slot : goal.returns-then-not-slot
returns-then-not-slot c =
    let less : c.len.result < length c.args.slots.now = omega arith in
    let at = subst (λ z. slice_get c.args.slots.now z ≡ Some c.index-slots-len.result) c.len.ensures
    (slice_get_read c.args.slots.now (length c.args.slots.now) c.len.result c.index-slots-len.result refl less c.index-slots-len.is) in
    not_taken c.args.slots.now c.args.self.now.taken c.index-slots-len.result at c.if-not-slot.true

pub with_atom-requires-clause-below_first : goal.with_atom-requires-clause-below_first
with_atom-requires-clause-below_first c =
    subst (PivotsBelow (length c.args.self.now.bindings.terms)) (sym c.requires.chosen.first)
    (first_below (length c.args.self.now.bindings.terms) c.args.slots.now c.args.self.now.taken c.requires.chosen.below)

pub with_atom-requires-clause-below : goal.with_atom-requires-clause-below
with_atom-requires-clause-below c =
    let less : c.len.result < length c.args.slots.now = omega arith in
    subst (λ z. EachBelow (length c.args.self.now.bindings.terms) z.literal.args) (sym c.index-slots-len.is) (c.requires.chosen.below c.len.result c.index-slots-len.result less)

pub returns-in-None : goal.returns-in-None
returns-in-None c =
    let less : c.len.result < length c.args.slots.now = omega arith in
    let at = subst (λ z. slice_get c.args.slots.now z ≡ Some c.index-slots-len.result) c.len.ensures
    (slice_get_read c.args.slots.now (length c.args.slots.now) c.len.result c.index-slots-len.result refl less c.index-slots-len.is) in
    refused c.args.slots.now c.args.self.now c.index-slots-len.result c.requires.chosen at
    (subst (IsBound c.args.self.now.first c.index-slots-len.result.literal c.args.self.now.bindings.terms) c.in-None.is c.in_ok-bound.ensures)

pub returns-in_ok-copy_first-in-Some : goal.returns-in_ok-copy_first-in-Some
returns-in_ok-copy_first-in-Some c =
    let less : c.len.result < length c.args.slots.now = omega arith in
    let at = subst (λ z. slice_get c.args.slots.now z ≡ Some c.index-slots-len.result) c.len.ensures
    (slice_get_read c.args.slots.now (length c.args.slots.now) c.len.result c.index-slots-len.result refl less c.index-slots-len.is) in
    let taken = c.in_ok-taken-in-Some.ensures ∙ ap (λ z. z ++ true ∷ []) c.as_slice.ensures in (
      taken,
      taken_chosen c.args.slots.now c.args.self.now _ c.index-slots-len.result c.requires.chosen at c.if-not-slot.false
          (subst (IsBound c.args.self.now.first c.index-slots-len.result.literal c.args.self.now.bindings.terms) c.in-Some.is c.in_ok-bound.ensures)
          taken (ap Some (c.unwrap_or-first.ensures ∙ ap₂ unwrap_or c.in_ok-copy_first-in-Some.ensures c.in_ok-literal-in-Some.ensures)),
    )
