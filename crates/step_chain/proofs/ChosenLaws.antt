-- One literal after another is taken or left.
use Rattle.std.proofs.Common.{◌≡◌, ℕ, Bool, true, false, List, [], ◌∷◌, ◌++◌, map, length, Option, Some, None, slice_get, replicate, refl, sym, ap, ◌∙◌, subst, arith, inl, inr}
use Rattle.std.specs.Option.{unwrap_or}
use Rattle.dk_syntax.specs.Terms.{substituted}
use Rattle.dk_syntax.specs.declared.Literal.{Literal}
use Rattle.dk_syntax.specs.declared.Term.{Term}
use Rattle.step_clause.specs.Search.{SamePivot}
use Rattle.unifier.proofs.BoundLaws.{unbound_refined}
use Rattle.unifier.specs.Outcomes.{Extended, Outcome, Refuted, Sound}
use Rattle.unifier.specs.Substitution.{Refines}
use Rattle.step_chain.proofs.Taking.{chosen_false, chosen_prefix, chosen_slot, chosen_true, first_false, first_stays, first_true, option_cases}
use Rattle.step_chain.specs.declared.choosing.Chosen.{Chosen}
use Rattle.step_chain.specs.declared.pair.Slot.{Slot}
use Rattle.step_chain.specs.Pairs.{AreChosen, first_taken, HasChosen, IsTaken, SlotsBelow}

-- ---- an equation of atoms

pub bound_none : (first : Option Literal) (literal : Literal) (s n : List (Option Term)) → first ≡ None → n ≡ s → Sound 0 s → Outcome 0 (λ r. SamePivot r first literal) s n true
bound_none first literal s n is same sound =
    subst (λ z. Outcome 0 (λ r. SamePivot r first literal) s z true) (sym same)
    (subst (λ z. Outcome 0 (λ r. SamePivot r z literal) s s true) (sym is) (refl, sound, record { forth = λ r f h. (h, tt); back = λ r f h q. h }))

pub bound_other : (first : Option Literal) (literal e : Literal) (s : List (Option Term)) → first ≡ Some e → (literal.pred ≡ e.pred → ⊥) → Refuted 0 (λ r. SamePivot r first literal) s
bound_other first literal e s is differs = subst (λ z. Refuted 0 (λ r. SamePivot r z literal) s) (sym is) (λ r f h q. differs q.0)

pub bound_false : (first : Option Literal) (literal e : Literal) (s m : List (Option Term)) (xs ys : List Term) → first ≡ Some e → m ≡ s → xs ≡ literal.args → ys ≡ e.args
    → Refuted 0 (λ r. map (substituted r) xs ≡ map (substituted r) ys) m → Refuted 0 (λ r. SamePivot r first literal) s
bound_false first literal e s m xs ys is same ex ey never =
    subst (λ z. Refuted 0 (λ r. SamePivot r z literal) s) (sym is)
    (λ r f h q. never r f (subst (λ z. Refines z r) (sym same) h) (ap (map (substituted r)) ex ∙ q.1 ∙ sym (ap (map (substituted r)) ey)))

pub bound_true : (first : Option Literal) (literal e : Literal) (s m n : List (Option Term)) (xs ys : List Term) → first ≡ Some e → literal.pred ≡ e.pred → m ≡ s → xs ≡ literal.args → ys ≡ e.args
    → Outcome 0 (λ r. map (substituted r) xs ≡ map (substituted r) ys) m n true → Outcome 0 (λ r. SamePivot r first literal) s n true
bound_true first literal e s m n xs ys is pred same ex ey o =
    subst (λ z. Outcome 0 (λ r. SamePivot r z literal) s n true) (sym is) (
      o.0 ∙ ap length same,
      o.1,
      record {
        forth = λ r f h.
            let w = o.2.forth r f h in
            (subst (λ z. Refines z r) same w.0, (pred, sym (ap (map (substituted r)) ex) ∙ w.1 ∙ ap (map (substituted r)) ey));
        back = λ r f h q. o.2.back r f (subst (λ z. Refines z r) (sym same) h) (ap (map (substituted r)) ex ∙ q.1 ∙ sym (ap (map (substituted r)) ey));
      },
    )

-- ---- nothing yet, and one more

pub nothing_chosen : (slots : List Slot) (chosen : Chosen) (vars : ℕ) → chosen.taken ≡ [] → chosen.first ≡ None → chosen.bindings.terms ≡ replicate vars None → length chosen.bindings.terms ≡ vars
    → Sound 0 chosen.bindings.terms → SlotsBelow vars slots → HasChosen slots chosen
nothing_chosen slots chosen vars taken first terms long sound below = record {
  first = first ∙ sym (ap (first_taken slots) taken ∙ none_first slots);
  below = subst (λ n. SlotsBelow n slots) (sym long) below;
  sound = sound;
  extended = subst (λ z. Extended 0 (AreChosen slots chosen.taken) z chosen.bindings.terms) (terms ∙ ap (λ n. replicate n None) (sym long)) (record {
    forth = λ r f h. (h, subst (λ z. AreChosen slots z r) (sym taken) (none_chosen slots r));
    back = λ r f h q. h;
  });
}
  where
    none_first : (slots : List Slot) → first_taken slots [] ≡ None
    none_first [] = refl
    none_first (s ∷ slots) = refl

    none_chosen : (slots : List Slot) (r : ℕ → Term) → AreChosen slots [] r
    none_chosen [] r = tt
    none_chosen (s ∷ slots) r = tt

pub left_chosen : (slots : List Slot) (chosen next : Chosen) → HasChosen slots chosen → next.taken ≡ chosen.taken ++ false ∷ [] → next.first ≡ chosen.first → next.bindings.terms ≡ chosen.bindings.terms → HasChosen slots next
left_chosen slots chosen next h taken first terms = record {
  first = first ∙ h.first ∙ sym (ap (first_taken slots) taken ∙ first_false slots chosen.taken);
  below = subst (λ z. SlotsBelow (length z) slots) (sym terms) h.below;
  sound = subst (Sound 0) (sym terms) h.sound;
  extended = subst (λ z. Extended 0 (AreChosen slots next.taken) (replicate (length z) None) z) (sym terms) (record {
    forth = λ r f w.
        let v = h.extended.forth r f w in
        (v.0, subst (λ z. AreChosen slots z r) (sym taken) (chosen_false r slots chosen.taken v.1));
    back = λ r f w q. h.extended.back r f w (chosen_prefix r slots chosen.taken (false ∷ []) (subst (λ z. AreChosen slots z r) taken q));
  });
}

pub taken_chosen : (slots : List Slot) (chosen next : Chosen) (slot : Slot) → HasChosen slots chosen → slice_get slots (length chosen.taken) ≡ Some slot → slot.may_be_taken ≡ true
    → Outcome 0 (λ r. SamePivot r chosen.first slot.literal) chosen.bindings.terms next.bindings.terms true → next.taken ≡ chosen.taken ++ true ∷ [] → next.first ≡ Some (unwrap_or chosen.first slot.literal) → HasChosen slots next
taken_chosen slots chosen next slot h at may o taken first = record {
  first = first ∙ by_first ∙ sym (ap (first_taken slots) taken);
  below = subst (λ n. SlotsBelow n slots) (sym o.0) h.below;
  sound = o.1;
  extended = subst (λ n. Extended 0 (AreChosen slots next.taken) (replicate n None) next.bindings.terms) (sym o.0) (record {
    forth = λ r f w.
        let u = o.2.forth r f w in
        let v = h.extended.forth r f u.0 in
        (v.0, subst (λ z. AreChosen slots z r) (sym taken) (chosen_true r slots chosen.taken slot at v.1 may (subst (λ z. SamePivot r z slot.literal) h.first u.1)));
    back = λ r f w q.
        let p = subst (λ z. AreChosen slots z r) taken q in
        o.2.back r f (h.extended.back r f w (chosen_prefix r slots chosen.taken (true ∷ []) p))
        (subst (λ z. SamePivot r z slot.literal) (sym h.first) (chosen_slot r slots chosen.taken slot at p).1);
  });
}
  where
    by_first : Some (unwrap_or chosen.first slot.literal) ≡ first_taken slots (chosen.taken ++ true ∷ [])
    by_first = elim (option_cases (first_taken slots chosen.taken)) [
      | inl is ↦ ap (λ z. Some (unwrap_or z slot.literal)) (h.first ∙ is) ∙ sym (first_true slots chosen.taken slot is at)
      | inr w ↦ ap (λ z. Some (unwrap_or z slot.literal)) (h.first ∙ w.1) ∙ sym (first_stays slots chosen.taken (true ∷ []) w.0 w.1)
    ]

-- ---- what can't be taken

pub not_taken : (slots : List Slot) (bits : List Bool) (slot : Slot) → slice_get slots (length bits) ≡ Some slot → slot.may_be_taken ≡ false → IsTaken slots bits None
not_taken slots bits slot at may r h = let w = (chosen_slot r slots bits slot at h).0 in cc

pub refused : (slots : List Slot) (chosen : Chosen) (slot : Slot) → HasChosen slots chosen → slice_get slots (length chosen.taken) ≡ Some slot → Refuted 0 (λ r. SamePivot r chosen.first slot.literal) chosen.bindings.terms → IsTaken slots chosen.taken None
refused slots chosen slot h at never r q =
    never r (λ k less. absurd (omega arith)) (h.extended.back r (λ k less. absurd (omega arith)) (unbound_refines (length chosen.bindings.terms) r) (chosen_prefix r slots chosen.taken (true ∷ []) q))
    (subst (λ z. SamePivot r z slot.literal) (sym h.first) (chosen_slot r slots chosen.taken slot at q).1)
  where
    unbound_refines : (n : ℕ) (r : ℕ → Term) → Refines (replicate n None) r
    unbound_refines n r = unbound_refined n r
