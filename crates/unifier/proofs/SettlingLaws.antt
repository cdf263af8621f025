-- The settled list that stands for sound bindings.
use Rattle.std.proofs.Common.{◌≡◌, ◌<◌, ◌≤◌, ℕ, zero, suc, List, [], ◌∷◌, map, Option, Some, None, get_or, length, arith, refl, subst, sym, ap, ap₂, ◌∙◌, ◌⊎◌, inl, inr}
use Rattle.dk_syntax.specs.declared.SymKey.{SymKey}
use Rattle.dk_syntax.specs.declared.Term.{Term}
use Rattle.dk_syntax.specs.declared.Term.TheVariants.{App, Var}
use Rattle.unifier.proofs.BoundLaws.{Some-injective, entry_cases, true_not_false, value_none, value_some}
use Rattle.dk_syntax.proofs.SubstitutionLaws.{after, agree, same, substituted-App, substituted-Var}
use Rattle.unifier.specs.Outcomes.{IsSettledBy, Sound}
use Rattle.unifier.specs.Settling.{Known, settled_entry}
use Rattle.unifier.specs.Substitution.{Fixes, Refines, IsSettledTerm, SameInstances, Settled, value}
use Rattle.dk_syntax.specs.Terms.{Below, has_variable, substituted}

-- ---- the parts of the walk

pub variable_settled : (m : ℕ → Term) (j : ℕ) (t u : Term) → t ≡ Var j → u ≡ m j → u ≡ substituted m t
variable_settled m j t u e h = h ∙ sym (ap (substituted m) e ∙ substituted-Var m j)

pub application_settled : (m : ℕ → Term) (f g : SymKey) (args zs us : List Term) (t : Term) → t ≡ App f args → zs ≡ args → g ≡ f → us ≡ map (substituted m) zs → App g us ≡ substituted m t
application_settled m f g args zs us t e z same h =
    ap₂ App same (h ∙ ap (map (substituted m)) z) ∙ sym (ap (substituted m) e ∙ substituted-App m f args)

pub known_more : (s old new : List (Option Term)) (j : ℕ) (t : Term) → Known s old → ((k : ℕ) (u : Term) → get_or new k None ≡ Some u → (get_or old k None ≡ Some u) ⊎ ((k ≡ j) × (u ≡ t))) → ((m : ℕ → Term) → IsSettledBy s m → t ≡ m j) → Known s new
known_more s old new j t known more here k u e m ok = elim (more k u e) [
  | inl p ↦ known k u p m ok
  | inr p ↦ p.1 ∙ here m ok ∙ ap m (sym p.0)
]

pub bound_entry_settled : (m : ℕ → Term) (k : ℕ) (t u : Term) (entry : Option Term) → entry ≡ Some t → u ≡ m k → Some u ≡ settled_entry m k entry
bound_entry_settled m k t u entry e h = ap Some h ∙ sym (ap (settled_entry m k) e)

-- ---- the whole list

pub past : {A : Type 0} (xs : List A) (k : ℕ) (d : A) → length xs ≤ k → get_or xs k d ≡ d
past [] k d l = refl
past (x ∷ xs) zero d l = absurd (omega arith)
past (x ∷ xs) (suc k) d l = past xs k d (omega arith)

-- the list has the most general substitution's terms for the bound variables
abbrev pub StandsFor : List (Option Term) → List (Option Term) → (ℕ → Term) → Type 0
StandsFor n s m = (k : ℕ) → get_or n k None ≡ settled_entry m k (get_or s k None)

below_or_not : (k n : ℕ) → (k < n) ⊎ (n ≤ k)
below_or_not zero zero = inr (omega arith)
below_or_not zero (suc n) = inl (omega arith)
below_or_not (suc k) zero = inr (omega arith)
below_or_not (suc k) (suc n) = elim (below_or_not k n) [ inl p ↦ inl (omega arith) | inr p ↦ inr (omega arith) ]

pub stands_for : (n s : List (Option Term)) (m : ℕ → Term) (size : ℕ) → length n ≡ size → length s ≤ size → ((k : ℕ) → k < size → get_or n k None ≡ settled_entry m k (get_or s k None)) → StandsFor n s m
stands_for n s m size l within here k = elim (below_or_not k size) [
  | inl p ↦ here k p
  | inr p ↦ past n k None (omega arith) ∙ sym (ap (settled_entry m k) (past s k None (omega arith)))
]

pub stands_value : (n s : List (Option Term)) (m : ℕ → Term) → IsSettledBy s m → StandsFor n s m → (k : ℕ) → value n k ≡ m k
stands_value n s m ok is k = elim (entry_cases (get_or s k None)) [
  | inl p ↦ value_none n k (is k ∙ ap (settled_entry m k) p) ∙ sym (ok.free k p)
  | inr p ↦ value_some n k (m k) (is k ∙ ap (settled_entry m k) p.1)
]

-- what is bound in the new list is bound in the old one
pub stands_bound : (n s : List (Option Term)) (m : ℕ → Term) → StandsFor n s m → (k : ℕ) (t : Term) → get_or n k None ≡ Some t → (t ≡ m k) × ((u : Term) × (get_or s k None ≡ Some u))
stands_bound n s m is k t e = elim (entry_cases (get_or s k None)) [
  | inl p ↦ absurd (let a = is k ∙ ap (settled_entry m k) p in cc)
  | inr p ↦ (Some-injective t (m k) (sym e ∙ is k ∙ ap (settled_entry m k) p.1), p)
]

pub bound_within : (s : List (Option Term)) (k : ℕ) (t : Term) → get_or s k None ≡ Some t → k < length s
bound_within s k t e = elim (below_or_not k (length s)) [
  | inl p ↦ p
  | inr p ↦ absurd (let a = past s k None p in cc)
]

pub stands_settled : (frozen : ℕ) (n s : List (Option Term)) → (ok : Sound frozen s) → length n ≡ length s → StandsFor n s ok.form → Settled frozen n
stands_settled frozen n s ok l is = record {
  unfrozen = λ k t e. let b = stands_bound n s ok.form is k t e in ok.unfrozen k b.1.0 b.1.1;
  apart = λ k t e j u d.
      let a = stands_bound n s ok.form is k t e in
      let b = stands_bound n s ok.form is j u d in
      ap (has_variable j) a.0 ∙ ok.settles.apart k j b.1.0 b.1.1;
  below = λ k t e.
      let b = stands_bound n s ok.form is k t e in
      subst (λ size. Below size t) (sym l) (subst (Below (length s)) (sym b.0) (ok.settles.within k (bound_within s k b.1.0 b.1.1)));
}

pub stands_same : (n s : List (Option Term)) (m : ℕ → Term) → IsSettledBy s m → StandsFor n s m → SameInstances s n
stands_same n s m ok is r = (
  λ h k. ok.general r h k ∙ ap (substituted r) (sym (stands_value n s m ok is k)),
  λ h k.
      let each : (j : ℕ) → r j ≡ substituted r (m j) = λ j. h j ∙ ap (substituted r) (stands_value n s m ok is j) in
      each k ∙ ap (substituted r) (ok.refines k) ∙ after r m (value s k) ∙ agree (λ j. substituted r (m j)) r (value s k) (λ j e. sym (each j)),
)

-- ---- settled lists

pub settled_same : (s : List (Option Term)) (t : Term) → IsSettledTerm s t → substituted (value s) t ≡ t
settled_same s t h = agree (value s) Var t (λ k e. elim (entry_cases (get_or s k None)) [
  | inl p ↦ value_none s k p
  | inr p ↦ absurd (true_not_false (has_variable k t) e (h k p.0 p.1))
]) ∙ same t

-- a settled list refines itself
pub refines_itself : (frozen : ℕ) (s : List (Option Term)) → Settled frozen s → Refines s (value s)
refines_itself frozen s ok k = elim (entry_cases (get_or s k None)) [
  | inl p ↦ sym (ap (substituted (value s)) (value_none s k p) ∙ substituted-Var (value s) k)
  | inr p ↦ value_some s k p.0 p.1 ∙ sym (settled_same s p.0 (ok.apart k p.0 p.1)) ∙ ap (substituted (value s)) (sym (value_some s k p.0 p.1))
]

pub value_fixes : (frozen : ℕ) (s : List (Option Term)) → Settled frozen s → Fixes frozen (value s)
value_fixes frozen s ok k l = elim (entry_cases (get_or s k None)) [
  | inl p ↦ value_none s k p
  | inr p ↦ absurd (let a = ok.unfrozen k p.0 p.1 in omega arith)
]

-- ---- what the walk over all entries makes

abbrev pub Entries : List (Option Term) → List (Option Term) → Type 0
Entries n s = (m : ℕ → Term) → IsSettledBy s m → (k : ℕ) → k < length s → get_or n k None ≡ settled_entry m k (get_or s k None)

pub entries_stand : (n s : List (Option Term)) (m : ℕ → Term) → IsSettledBy s m → length n ≡ length s → Entries n s → StandsFor n s m
entries_stand n s m ok l all = stands_for n s m (length s) l (omega arith) (all m ok)

pub entries_settled : (frozen : ℕ) (n v s : List (Option Term)) → v ≡ s → length n ≡ length v → Entries n v → Sound frozen s → Settled frozen n
entries_settled frozen n v s e l all ok =
    let long = l ∙ ap length e in
    stands_settled frozen n s ok long (entries_stand n s ok.form ok.settles long (subst (Entries n) e all))

pub entries_same : (frozen : ℕ) (n v s : List (Option Term)) → v ≡ s → length n ≡ length v → Entries n v → Sound frozen s → SameInstances s n
entries_same frozen n v s e l all ok =
    let long = l ∙ ap length e in
    stands_same n s ok.form ok.settles (entries_stand n s ok.form ok.settles long (subst (Entries n) e all))
