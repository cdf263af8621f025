use Rattle.std.proofs.Common.{◌≡◌, ◌++◌, true, map, take, drop, length, Contains, ap, ap₂, sym, subst, ◌∙◌, arith}
use Rattle.unifier.specs.Substitution.{value}
use Rattle.step_chain.proofs.PairLaws.{both}
use Rattle.step_chain.proofs.Resolved.{first_slots, is_resolvent, none_first, none_second, second_slots, slots_long}
use Rattle.step_chain.specs.Resolving.{slot_instance}
use Rattle.step_chain.proofs.resolvent.resolve_pair.Goals as goal

pub returns-then-not-any_taken : goal.returns-then-not-any_taken
returns-then-not-any_taken c =
    let front : c.split_at.result.0.now ≡ take (length c.args.first.now.lits) c.args.chosen.now.taken = c.split_at.ensures.front ∙ ap₂ take c.len-size.ensures c.as_slice.ensures in
    none_first c.args.first.now c.args.second.now c.args.pair.now c.args.chosen.now.taken (subst (λ z. Contains z true → ⊥) front c.if-not-any_taken.ensures)

pub returns-then-not-any_taken-2 : goal.returns-then-not-any_taken-2
returns-then-not-any_taken-2 c =
    let back : c.split_at.result.1.now ≡ drop (length c.args.first.now.lits) c.args.chosen.now.taken = c.split_at.ensures.back ∙ ap₂ drop c.len-size.ensures c.as_slice.ensures in
    none_second c.args.first.now c.args.second.now c.args.pair.now c.args.chosen.now.taken (subst (λ z. Contains z true → ⊥) back c.if-not-any_taken-2.ensures)

pub returns : goal.returns
returns c =
    let first = c.args.first.now in
    let second = c.args.second.now in
    let pair = c.args.pair.now in
    let bits = c.args.chosen.now.taken in
    let m = value c.in_ok-solution.solution.terms in
    let front : c.split_at.result.0.now ≡ take (length first.lits) bits = c.split_at.ensures.front ∙ ap₂ take c.len-size.ensures c.as_slice.ensures in
    let back : c.split_at.result.1.now ≡ drop (length first.lits) bits = c.split_at.ensures.back ∙ ap₂ drop c.len-size.ensures c.as_slice.ensures in
    let whole : bits ≡ c.split_at.result.0.now ++ c.split_at.result.1.now = sym (ap₂ (λ x y. x ++ y) front back ∙ both bits (length first.lits)) in
    let long : length c.split_at.result.0.now ≡ length first.lits = c.split_at.ensures.front_len ∙ c.len-size.ensures in
    let sizes = slots_long first second pair c.requires.pair in
    let given = ap length c.as_slice.ensures in
    let rest = c.split_at.ensures.back_len in
    let size = c.len-size.ensures in
    let all = c.requires.all in
    let long' : length c.split_at.result.1.now ≡ length second.lits = omega (arith, sizes, given, rest, size, all) in (
      c.split_at.result.0.now,
      c.split_at.result.1.now,
      whole,
      is_resolvent first second pair c.args.chosen.now c.requires.first c.requires.second c.requires.pair c.requires.chosen c.split_at.result.0.now c.split_at.result.1.now whole long long'
          c.in_ok-solution.solution.terms (c.in_ok-solution.ensures.settled 0 c.requires.chosen.sound) (c.in_ok-solution.ensures.same 0 c.requires.chosen.sound)
          c.in_ok-it.it c.as_slice-3.result.now c.as_slice-4.result.now c.if-not-any_taken.ensures c.if-not-any_taken-2.ensures
          (c.as_slice-3.ensures ∙ c.in_ok-ones.ensures ∙ ap (map (slot_instance m)) (c.split_at-2.ensures.front ∙ ap₂ take c.len-size.ensures c.as_slice-2.ensures ∙ first_slots first second pair c.requires.pair))
          (c.as_slice-4.ensures ∙ c.in_ok-twos.ensures ∙ ap (map (slot_instance m)) (c.split_at-2.ensures.back ∙ ap₂ drop c.len-size.ensures c.as_slice-2.ensures ∙ second_slots first second pair c.requires.pair))
          c.in_ok-it.ensures,
    )
