-- The steps of the comparison, as lemmas over plain values.
use Rattle.std.proofs.Common.{◌≡◌, ◌<◌, ◌≤◌, ℕ, true, false, List, Option, None, get_or, length, map, refl, subst, sym, ap, ◌∙◌, ◌⊎◌, inl, inr}
use Rattle.dk_syntax.proofs.TermLaws.{App-injective, App-not-Any, Var-injective, Var-not-Any, Var-not-App, term_induction}
use Rattle.dk_syntax.specs.declared.SymKey.{SymKey}
use Rattle.dk_syntax.specs.declared.Term.{Term}
use Rattle.dk_syntax.specs.declared.Term.TheVariants.{Any, App, Var}
use Rattle.unifier.proofs.BoundLaws.{form_general}
use Rattle.dk_syntax.proofs.SubstitutionLaws.{acyclic, equal_here, is_variable, maps_long, maps_same, stands, substituted-Any, substituted-App, substituted-Var}
use Rattle.unifier.proofs.OccurrenceLaws.{leads_nowhere}
use Rattle.unifier.specs.Comparing.{Follows, Needs, NextStep}
use Rattle.unifier.specs.declared.comparison.Step.{Step}
use Rattle.unifier.specs.declared.comparison.Step.TheVariants.{Bind, Different, Equal}
use Rattle.unifier.specs.Outcomes.{Refuted, IsSettledBy, Sound}
use Rattle.unifier.specs.Substitution.{Fixes, Refines}
use Rattle.dk_syntax.specs.Terms.{Below, has_variable, substituted}

-- ---- the kinds of terms

abbrev pub Kinds : Term → Type 0
Kinds t = ((j : ℕ) × (t ≡ Var j)) ⊎ ((t ≡ Any) ⊎ ((f : SymKey) × (args : List Term) × (t ≡ App f args)))

pub term_cases : (t : Term) → Kinds t
term_cases = term_induction Kinds (λ j. inl (j, refl)) (λ f args known. inr (inr (f, args, refl))) (inr (inl refl))

-- what is no variable becomes none
pub never_variable : (r : ℕ → Term) (t : Term) (k : ℕ) → ((j : ℕ) → ¬ t ≡ Var j) → ¬ substituted r t ≡ Var k
never_variable r t k never e = elim (term_cases t) [
  | inl p ↦ never p.0 p.1
  | inr p ↦ elim p [
    | inl q ↦ Var-not-Any k (sym e ∙ ap (substituted r) q ∙ substituted-Any r)
    | inr q ↦ Var-not-App k q.0 (map (substituted r) q.1) (sym e ∙ ap (substituted r) q.2 ∙ substituted-App r q.0 q.1)
  ]
]

-- ---- the same step for another condition

pub step_along : (frozen : ℕ) (Q R : (ℕ → Term) → Type 0) (s : List (Option Term)) (step : Step) → ((r : ℕ → Term) → Fixes frozen r → Refines s r → Q r → R r) → ((r : ℕ → Term) → Fixes frozen r → Refines s r → R r → Q r) → NextStep frozen Q s step → NextStep frozen R s step
step_along frozen Q R s Equal there back known = λ r f h. there r f h (known r f h)
step_along frozen Q R s Different there back known = λ r f h q. known r f h (back r f h q)
step_along frozen Q R s (Bind k t) there back known = record {
  within = known.within;
  unfrozen = known.unfrozen;
  free = known.free;
  below = known.below;
  absent = known.absent;
  needed = λ r f h q. known.needed r f h (back r f h q);
}

-- ---- an unbound variable and a term

pub same_variable : (frozen : ℕ) (s : List (Option Term)) (i j : ℕ) (b : Term) → b ≡ Var j → i ≡ j → Follows frozen (λ r. r i ≡ substituted r b) s
same_variable frozen s i j b e is r f h = ap r is ∙ sym (ap (substituted r) e ∙ substituted-Var r j)

variable_absent : (s : List (Option Term)) (k j : ℕ) (m : ℕ → Term) → IsSettledBy s m → get_or s j None ≡ None → (j ≡ k → ⊥) → has_variable k (substituted m (Var j)) ≡ false
variable_absent s k j m ok free other = ap (has_variable k) (substituted-Var m j) ∙ sym (leads_nowhere s k j m ok free other)

pub first_bound : (frozen : ℕ) (s : List (Option Term)) (i j : ℕ) (b : Term) → b ≡ Var j → (i ≡ j → ⊥) → frozen ≤ i → i < length s → get_or s i None ≡ None → get_or s j None ≡ None → Below (length s) b → Needs frozen (λ r. r i ≡ substituted r b) s i (Var j)
first_bound frozen s i j b e other low l free free_j below = record {
  within = l;
  unfrozen = low;
  free = free;
  below = subst (Below (length s)) e below;
  absent = λ m ok. variable_absent s i j m ok free_j (λ q. other (sym q));
  needed = λ r f h q. q ∙ ap (substituted r) e;
}

pub second_bound : (frozen : ℕ) (s : List (Option Term)) (i j : ℕ) (b : Term) → b ≡ Var j → (i ≡ j → ⊥) → frozen ≤ j → i < length s → get_or s i None ≡ None → get_or s j None ≡ None → Below (length s) b → Needs frozen (λ r. r i ≡ substituted r b) s j (Var i)
second_bound frozen s i j b e other low l free free_j below = record {
  within = below j (stands j b e);
  unfrozen = low;
  free = free_j;
  below = λ k h. subst (λ n. n < length s) (is_variable i k (Var i) refl h) l;
  absent = λ m ok. variable_absent s j i m ok free other;
  needed = λ r f h q. sym (substituted-Var r j) ∙ ap (substituted r) (sym e) ∙ sym q ∙ sym (substituted-Var r i);
}

pub frozen_variables : (frozen : ℕ) (s : List (Option Term)) (i j : ℕ) (b : Term) → b ≡ Var j → (i ≡ j → ⊥) → i < frozen → j < frozen → Refuted frozen (λ r. r i ≡ substituted r b) s
frozen_variables frozen s i j b e other li lj r f h q =
    other (Var-injective i j (sym (f i li) ∙ q ∙ ap (substituted r) e ∙ substituted-Var r j ∙ f j lj))

pub frozen_term : (frozen : ℕ) (s : List (Option Term)) (i : ℕ) (b : Term) → ((j : ℕ) → ¬ b ≡ Var j) → i < frozen → Refuted frozen (λ r. r i ≡ substituted r b) s
frozen_term frozen s i b never l r f h q = never_variable r b i never (sym q ∙ f i l)

-- a variable that a term leads to is not equal to the term
pub occurs_refuted : (frozen : ℕ) (s : List (Option Term)) (i : ℕ) (b : Term) → Sound frozen s → ((j : ℕ) → ¬ b ≡ Var j) → ((m : ℕ → Term) → IsSettledBy s m → true ≡ has_variable i (substituted m b)) → Refuted frozen (λ r. r i ≡ substituted r b) s
occurs_refuted frozen s i b ok never there r f h q =
    acyclic r i (substituted ok.form b) (sym (there ok.form ok.settles)) (never_variable ok.form b i never)
    (q ∙ sym (form_general s ok.form r ok.settles h b))

pub term_bound : (frozen : ℕ) (s : List (Option Term)) (i : ℕ) (b t : Term) → t ≡ b → frozen ≤ i → i < length s → get_or s i None ≡ None → Below (length s) b → ((m : ℕ → Term) → IsSettledBy s m → false ≡ has_variable i (substituted m b)) → Needs frozen (λ r. r i ≡ substituted r b) s i t
term_bound frozen s i b t e low l free below absent = record {
  within = l;
  unfrozen = low;
  free = free;
  below = subst (Below (length s)) (sym e) below;
  absent = λ m ok. ap (λ u. has_variable i (substituted m u)) e ∙ sym (absent m ok);
  needed = λ r f h q. q ∙ ap (substituted r) (sym e);
}

-- ---- two terms

pub first_variable : (frozen : ℕ) (s : List (Option Term)) (step : Step) (i : ℕ) (a b : Term) → a ≡ Var i → NextStep frozen (λ r. r i ≡ substituted r b) s step → NextStep frozen (λ r. substituted r a ≡ substituted r b) s step
first_variable frozen s step i a b e known = step_along frozen (λ r. r i ≡ substituted r b) (λ r. substituted r a ≡ substituted r b) s step
    (λ r f h q. ap (substituted r) e ∙ substituted-Var r i ∙ q)
    (λ r f h q. sym (ap (substituted r) e ∙ substituted-Var r i) ∙ q) known

pub second_variable : (frozen : ℕ) (s : List (Option Term)) (step : Step) (j : ℕ) (a b : Term) → b ≡ Var j → NextStep frozen (λ r. r j ≡ substituted r a) s step → NextStep frozen (λ r. substituted r a ≡ substituted r b) s step
second_variable frozen s step j a b e known = step_along frozen (λ r. r j ≡ substituted r a) (λ r. substituted r a ≡ substituted r b) s step
    (λ r f h q. sym (ap (substituted r) e ∙ substituted-Var r j ∙ q))
    (λ r f h q. sym (ap (substituted r) e ∙ substituted-Var r j) ∙ sym q) known

pub applications_step : (frozen : ℕ) (s : List (Option Term)) (step : Step) (f g : SymKey) (xs ys : List Term) (a b : Term) → a ≡ App f xs → b ≡ App g ys → f ≡ g → NextStep frozen (λ r. map (substituted r) xs ≡ map (substituted r) ys) s step → NextStep frozen (λ r. substituted r a ≡ substituted r b) s step
applications_step frozen s step f g xs ys a b ea eb fg known = step_along frozen (λ r. map (substituted r) xs ≡ map (substituted r) ys) (λ r. substituted r a ≡ substituted r b) s step
    (λ r _ _ q. ap (substituted r) ea ∙ substituted-App r f xs ∙ ap (λ z. App z (map (substituted r) xs)) fg ∙ ap (App g) q ∙ sym (substituted-App r g ys) ∙ ap (substituted r) (sym eb))
    (λ r _ _ q. (App-injective f g (map (substituted r) xs) (map (substituted r) ys) (sym (substituted-App r f xs) ∙ ap (substituted r) (sym ea) ∙ q ∙ ap (substituted r) eb ∙ substituted-App r g ys)).1)
    known

pub heads_refuted : (frozen : ℕ) (s : List (Option Term)) (f g : SymKey) (xs ys : List Term) (a b : Term) → a ≡ App f xs → b ≡ App g ys → (f ≡ g → ⊥) → Refuted frozen (λ r. substituted r a ≡ substituted r b) s
heads_refuted frozen s f g xs ys a b ea eb other r _ _ q =
    other (App-injective f g (map (substituted r) xs) (map (substituted r) ys) (sym (substituted-App r f xs) ∙ ap (substituted r) (sym ea) ∙ q ∙ ap (substituted r) eb ∙ substituted-App r g ys)).0

pub any_refuted : (frozen : ℕ) (s : List (Option Term)) (f : SymKey) (xs : List Term) (a b : Term) → a ≡ App f xs → b ≡ Any → (r : ℕ → Term) → ¬ substituted r a ≡ substituted r b
any_refuted frozen s f xs a b ea eb r q =
    App-not-Any f (map (substituted r) xs) (sym (substituted-App r f xs) ∙ ap (substituted r) (sym ea) ∙ q ∙ ap (substituted r) eb ∙ substituted-Any r)

-- terms that stand for others
pub ends_known : (frozen : ℕ) (s : List (Option Term)) (step : Step) (a b first second : Term) → ((r : ℕ → Term) → Refines s r → substituted r a ≡ substituted r first) → ((r : ℕ → Term) → Refines s r → substituted r b ≡ substituted r second) → NextStep frozen (λ r. substituted r first ≡ substituted r second) s step → NextStep frozen (λ r. substituted r a ≡ substituted r b) s step
ends_known frozen s step a b first second ea eb known = step_along frozen (λ r. substituted r first ≡ substituted r second) (λ r. substituted r a ≡ substituted r b) s step
    (λ r f h q. ea r h ∙ q ∙ sym (eb r h))
    (λ r f h q. sym (ea r h) ∙ q ∙ eb r h) known

-- ---- lists of terms

pub item_different : (frozen : ℕ) (s : List (Option Term)) (xs ys : List Term) (i : ℕ) (x y : Term) → x ≡ get_or xs i x → y ≡ get_or ys i y → i < length xs → i < length ys → Refuted frozen (λ r. substituted r x ≡ substituted r y) s → Refuted frozen (λ r. map (substituted r) xs ≡ map (substituted r) ys) s
item_different frozen s xs ys i x y ex ey lx ly known r f h q = known r f h (equal_here r xs ys i x y ex ey lx ly (maps_same r xs ys q i))

pub item_needs : (frozen : ℕ) (s : List (Option Term)) (xs ys : List Term) (i : ℕ) (x y : Term) (k : ℕ) (t : Term) → x ≡ get_or xs i x → y ≡ get_or ys i y → i < length xs → i < length ys → Needs frozen (λ r. substituted r x ≡ substituted r y) s k t → Needs frozen (λ r. map (substituted r) xs ≡ map (substituted r) ys) s k t
item_needs frozen s xs ys i x y k t ex ey lx ly known = record {
  within = known.within;
  unfrozen = known.unfrozen;
  free = known.free;
  below = known.below;
  absent = known.absent;
  needed = λ r f h q. known.needed r f h (equal_here r xs ys i x y ex ey lx ly (maps_same r xs ys q i));
}

pub lengths_refuted : (frozen : ℕ) (s : List (Option Term)) (xs ys : List Term) → (length xs ≡ length ys → ⊥) → Refuted frozen (λ r. map (substituted r) xs ≡ map (substituted r) ys) s
lengths_refuted frozen s xs ys other r f h q = other (maps_long r xs ys q)
