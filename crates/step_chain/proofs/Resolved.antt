-- What is made from most general bindings is the exact resolvent.
use Rattle.std.proofs.Common.{◌≡◌, ◌<◌, ◌≤◌, ℕ, zero, suc, ◌+◌, Bool, true, false, not, List, [], ◌∷◌, ◌++◌, map, take, drop, length, Option, Some, None, Contains, refl, sym, ap, ap₂, ◌∙◌, subst, arith, length-append, inl, inr}
use Rattle.dk_syntax.specs.Terms.{instance, substituted}
use Rattle.dk_syntax.specs.declared.Clause.{Clause}
use Rattle.dk_syntax.specs.declared.Literal.{Literal}
use Rattle.dk_syntax.specs.declared.Term.{Term}
use Rattle.step_clause.specs.Justifications.{AreMostGeneral, IsNumbered}
use Rattle.unifier.proofs.BoundLaws.{unbound_refined}
use Rattle.unifier.proofs.SettlingLaws.{refines_itself}
use Rattle.unifier.specs.Substitution.{Refines, SameInstances, Settled, value}
use Rattle.step_chain.proofs.LinkKeys.{taken_long}
use Rattle.step_chain.proofs.OnceLaws.{contains_left}
use Rattle.step_chain.proofs.PairLaws.{at_first, at_second, at_taken, back, beside, beside_first, beside_second, front, instances_apart, part, unified_at}
use Rattle.step_chain.proofs.SameLiterals.{length_map}
use Rattle.step_chain.proofs.Taking.{chosen_at, chosen_some, option_cases}
use Rattle.step_chain.specs.declared.choosing.Chosen.{Chosen}
use Rattle.step_chain.specs.declared.pair.Pair.{Pair}
use Rattle.step_chain.specs.declared.pair.Slot.{Slot}
use Rattle.step_chain.specs.declared.resolvent.Resolvent.{Resolvent}
use Rattle.step_chain.specs.Pairs.{AreChosen, first_taken, HasChosen, slot_of, slots_of, slots_of_both}
use Rattle.step_chain.specs.Resolvents.{ArePicks, AreUnified, IsOnce, IsResolvent, kept, left_over, signed}
use Rattle.step_chain.specs.Resolving.{AreInstancePicks, IsMade, IsPair, IsResolventOf, link_of, slot_instance}

-- ---- some literal is taken

none_is_taken : (slots : List Slot) (bits : List Bool) → length bits ≤ length slots → first_taken slots bits ≡ None → Contains bits true → ⊥
none_is_taken [] [] less h (k, low, is) = omega (arith, low)
none_is_taken [] (b ∷ bits) less h there = omega arith
none_is_taken (s ∷ slots) [] less h (k, low, is) = omega (arith, low)
none_is_taken (s ∷ slots) (true ∷ bits) less h there = let w : Some s.literal ≡ None = h in cc
none_is_taken (s ∷ slots) (false ∷ bits) less h (zero, low, is) = let w : false ≡ true = is in cc
none_is_taken (s ∷ slots) (false ∷ bits) less h (suc k, low, is) = none_is_taken slots bits (omega arith) h (k, omega (arith, low), is)

-- ---- kept literals and picks are those of the clauses

kept_map : (f : Literal → Literal) (ls : List Literal) (taken : List Bool) → kept (map f ls) taken ≡ map f (kept ls taken)
kept_map f [] taken = refl
kept_map f (l ∷ ls) [] = refl
kept_map f (l ∷ ls) (true ∷ taken) = kept_map f ls taken
kept_map f (l ∷ ls) (false ∷ taken) = ap (λ z. f l ∷ z) (kept_map f ls taken)

picks_are : (lits : List Literal) (t : ℕ → Term) (ls : List Literal) (taken : List Bool) (picks : List ℕ) → AreInstancePicks lits (map (instance t) ls) taken picks → ArePicks lits t ls taken picks
picks_are lits t [] taken [] h = tt
picks_are lits t [] taken (p ∷ picks) h = h
picks_are lits t (l ∷ ls) taken [] h = h
picks_are lits t (l ∷ ls) [] (p ∷ picks) h = h
picks_are lits t (l ∷ ls) (true ∷ taken) (p ∷ picks) h = (h.0, picks_are lits t ls taken picks h.1)
picks_are lits t (l ∷ ls) (false ∷ taken) (p ∷ picks) h = (h.0, picks_are lits t ls taken picks h.1)

-- ---- the solution is most general

module _ (first second : Clause) (pair : Pair) (chosen : Chosen) (n : IsNumbered first) (n' : IsNumbered second) (is : IsPair first second pair) (has : HasChosen pair.slots chosen)
    (taken others : List Bool) (bits : chosen.taken ≡ taken ++ others) (long : length taken ≡ length first.lits) (long' : length others ≡ length second.lits)
    (s : List (Option Term)) (settled : Settled 0 s) (same : SameInstances chosen.bindings.terms s) where
  abbrev slots : List Slot
  slots = slots_of_both first second pair.sign

  fixes : (r : ℕ → Term) (k : ℕ) → k < 0 → r k ≡ r k
  fixes r k less = refl

  chosen_here : AreChosen slots (taken ++ others) (value s)
  chosen_here =
      subst (λ z. AreChosen z (taken ++ others) (value s)) is (subst (λ z. AreChosen pair.slots z (value s)) bits
      (has.extended.forth (value s) (λ k less. absurd (omega arith)) ((same (value s)).1 (refines_itself 0 s settled))).1)

  sizes : length (taken ++ others) ≤ length slots
  sizes =
      let a = length-append taken others in
      let b = length-append (slots_of 0 pair.sign first.lits) (slots_of first.vars (not pair.sign) second.lits) in
      let c = length_map (slot_of 0 pair.sign) first.lits in
      let d = length_map (slot_of first.vars (not pair.sign)) second.lits in omega arith

  unified : Contains taken true → Contains others true → AreUnified pair.sign first second taken others (part 0 (value s)) (part first.vars (value s))
  unified some some' = elim (option_cases (first_taken slots (taken ++ others))) [
    | inl none ↦ absurd (none_is_taken slots (taken ++ others) sizes none (contains_left taken others true some))
    | inr w ↦
        let e = w.0 in
        let args = map (substituted (value s)) e.args in
        let at = chosen_some (value s) slots (taken ++ others) e w.1 chosen_here in
        let size = long ∙ sym (length_map (slot_of 0 pair.sign) first.lits) in (
          e.pred,
          args,
          at_taken 0 (value s) e.pred args pair.sign first.lits taken long
              (at_first (value s) e.pred args (slots_of 0 pair.sign first.lits) (slots_of first.vars (not pair.sign) second.lits) taken others size at),
          at_taken first.vars (value s) e.pred args (not pair.sign) second.lits others long'
              (at_second (value s) e.pred args (slots_of 0 pair.sign first.lits) (slots_of first.vars (not pair.sign) second.lits) taken others size at),
          some,
          some',
        )
  ]

  refined : (t u : ℕ → Term) → AreUnified pair.sign first second taken others t u → Refines s (beside first.vars t u)
  refined t u h =
      let r = beside first.vars t u in
      let at = unified_at first second pair.sign taken others t u n n' h long in
      let all : AreChosen pair.slots chosen.taken r =
      subst (λ z. AreChosen z chosen.taken r) (sym is) (subst (λ z. AreChosen slots z r) (sym bits) (chosen_at r slots h.0 h.1 (taken ++ others) at)) in
      (same r).0 (has.extended.back r (λ k less. absurd (omega arith)) (unbound_refined (length chosen.bindings.terms) r) all)

  general : Contains taken true → Contains others true → AreMostGeneral 0 first.vars second.vars (AreUnified pair.sign first second taken others) (part 0 (value s)) (part first.vars (value s))
  general some some' = (
    unified some some',
    λ t u h. (
      beside first.vars t u,
      (λ k less. absurd (omega arith)),
      (λ j less. sym (beside_first first.vars t u j less) ∙ refined t u h (0 + j)),
      (λ j less. sym (beside_second first.vars t u j) ∙ refined t u h (first.vars + j)),
    ),
  )

  pub is_resolvent : (it : Resolvent) (ones twos : List Literal) → Contains taken true → Contains others true
      → ones ≡ map (slot_instance (value s)) (slots_of 0 pair.sign first.lits) → twos ≡ map (slot_instance (value s)) (slots_of first.vars (not pair.sign) second.lits)
      → IsMade first second pair (value s) ones taken twos others it → IsResolvent pair.number first second (link_of pair taken others) it.clause it.step
  is_resolvent it ones twos some some' eo et made =
      let a : ones ≡ map (instance (part 0 (value s))) first.lits = eo ∙ instances_apart 0 (value s) pair.sign first.lits in
      let b : twos ≡ map (instance (part first.vars (value s))) second.lits = et ∙ instances_apart first.vars (value s) (not pair.sign) second.lits in
      let left : kept ones taken ++ kept twos others ≡ left_over first second taken others (part 0 (value s)) (part first.vars (value s)) =
      ap₂ (λ x y. x ++ y) (ap (λ z. kept z taken) a ∙ kept_map (instance (part 0 (value s))) first.lits taken) (ap (λ z. kept z others) b ∙ kept_map (instance (part first.vars (value s))) second.lits others) in
      record {
        t = part 0 (value s);
        u = part first.vars (value s);
        general = general some some';
        lits = made.lits;
        once = subst (λ z. IsOnce [] z made.lits) left made.once;
        clause = made.clause;
        picks = made.picks;
        other_picks = made.other_picks;
        picked = picks_are made.lits (part 0 (value s)) first.lits taken made.picks (subst (λ z. AreInstancePicks made.lits z taken made.picks) a made.picked);
        other_picked = picks_are made.lits (part first.vars (value s)) second.lits others made.other_picks (subst (λ z. AreInstancePicks made.lits z others made.other_picks) b made.other_picked);
        justified = made.justified;
      }

-- ---- nothing is taken in one of the clauses

pub none_first : (first second : Clause) (pair : Pair) (bits : List Bool) → (Contains (take (length first.lits) bits) true → ⊥) → IsResolventOf first second pair bits None
none_first first second pair bits none taken others e t u h =
    none (subst (λ z. Contains z true) (sym (ap (take (length first.lits)) e ∙ front taken others (length first.lits) (taken_long t (signed pair.sign h.0 h.1) first.lits taken h.2))) h.4)

pub none_second : (first second : Clause) (pair : Pair) (bits : List Bool) → (Contains (drop (length first.lits) bits) true → ⊥) → IsResolventOf first second pair bits None
none_second first second pair bits none taken others e t u h =
    none (subst (λ z. Contains z true) (sym (ap (drop (length first.lits)) e ∙ back taken others (length first.lits) (taken_long t (signed pair.sign h.0 h.1) first.lits taken h.2))) h.5)

-- ---- the parts of the lists

pub first_slots : (first second : Clause) (pair : Pair) → IsPair first second pair → take (length first.lits) pair.slots ≡ slots_of 0 pair.sign first.lits
first_slots first second pair is =
    ap (take (length first.lits)) is ∙ front (slots_of 0 pair.sign first.lits) (slots_of first.vars (not pair.sign) second.lits) (length first.lits) (length_map (slot_of 0 pair.sign) first.lits)

pub second_slots : (first second : Clause) (pair : Pair) → IsPair first second pair → drop (length first.lits) pair.slots ≡ slots_of first.vars (not pair.sign) second.lits
second_slots first second pair is =
    ap (drop (length first.lits)) is ∙ back (slots_of 0 pair.sign first.lits) (slots_of first.vars (not pair.sign) second.lits) (length first.lits) (length_map (slot_of 0 pair.sign) first.lits)

pub slots_long : (first second : Clause) (pair : Pair) → IsPair first second pair → length pair.slots ≡ length first.lits + length second.lits
slots_long first second pair is =
    ap length is ∙ length-append (slots_of 0 pair.sign first.lits) (slots_of first.vars (not pair.sign) second.lits)
    ∙ ap₂ (λ x y. x + y) (length_map (slot_of 0 pair.sign) first.lits) (length_map (slot_of first.vars (not pair.sign)) second.lits)
