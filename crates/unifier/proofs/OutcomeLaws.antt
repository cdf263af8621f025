-- How the outcomes of equations compose.
use Rattle.std.proofs.Common.{◌≡◌, ◌≤◌, ◌<◌, ◌+◌, ℕ, Bool, true, false, List, map, Option, get_or, length, subst, arith, refl, sym, ap, ◌∙◌}
use Rattle.dk_syntax.proofs.TermLaws.{App-injective}
use Rattle.dk_syntax.specs.declared.SymKey.{SymKey}
use Rattle.dk_syntax.specs.declared.Term.{Term}
use Rattle.dk_syntax.specs.declared.Term.TheVariants.{App}
use Rattle.unifier.proofs.BoundLaws.{bound, bound_length, bound_old, bound_refined, bound_sound}
use Rattle.dk_syntax.proofs.SubstitutionLaws.{SameTo, equal_here, maps_same, same_maps, same_more, substituted-App}
use Rattle.unifier.specs.Comparing.{Follows, Needs}
use Rattle.unifier.specs.Outcomes.{Extended, Outcome, Refuted, Sound}
use Rattle.unifier.specs.Substitution.{Fixes, Refines}
use Rattle.dk_syntax.specs.Terms.{substituted}

-- ---- one binding after another

-- what refines n refines s, and what refines s and has Q refines n
pub record Grown (frozen : ℕ) (Q : (ℕ → Term) → Type 0) (s n : List (Option Term)) : Type 0 where
  pub forth : (r : ℕ → Term) → Fixes frozen r → Refines n r → Refines s r
  pub back : (r : ℕ → Term) → Fixes frozen r → Refines s r → Q r → Refines n r

abbrev pub Growing : ℕ → ((ℕ → Term) → Type 0) → List (Option Term) → List (Option Term) → Type 0
Growing frozen Q s n = (length n ≡ length s) × Sound frozen n × Grown frozen Q s n

pub growing_start : (frozen : ℕ) (Q : (ℕ → Term) → Type 0) (s : List (Option Term)) → Sound frozen s → Growing frozen Q s s
growing_start frozen Q s ok = (refl, ok, record { forth = λ r f h. h; back = λ r f h q. h })

pub growing_bound : (frozen : ℕ) (Q : (ℕ → Term) → Type 0) (s m n : List (Option Term)) (k : ℕ) (t : Term) → n ≡ bound m k t → Needs frozen Q m k t → Growing frozen Q s m → Growing frozen Q s n
growing_bound frozen Q s m n k t is needs known = subst (Growing frozen Q s) (sym is) (
  bound_length m k t ∙ known.0,
  bound_sound frozen m k t known.1 needs.unfrozen needs.within needs.free needs.below needs.absent,
  record {
    forth = λ r f h. known.2.forth r f (bound_old m k t needs.within needs.free r h);
    back = λ r f h q. let old = known.2.back r f h q in bound_refined m k t needs.within r old (needs.needed r f old q);
  },
)

pub growing_equal : (frozen : ℕ) (Q : (ℕ → Term) → Type 0) (s n : List (Option Term)) → Growing frozen Q s n → Follows frozen Q n → Outcome frozen Q s n true
growing_equal frozen Q s n known all = (
  known.0,
  known.1,
  record {
    forth = λ r f h. (known.2.forth r f h, all r f h);
    back = known.2.back;
  },
)

pub growing_refuted : (frozen : ℕ) (Q : (ℕ → Term) → Type 0) (s n : List (Option Term)) → Growing frozen Q s n → Refuted frozen Q n → Refuted frozen Q s
growing_refuted frozen Q s n known none r f h q = none r f (known.2.back r f h q) q

-- ---- another condition that says the same

pub along : (frozen : ℕ) (Q R : (ℕ → Term) → Type 0) (s n : List (Option Term)) (equal : Bool) → ((r : ℕ → Term) → Fixes frozen r → Refines s r → Q r → R r) → ((r : ℕ → Term) → Fixes frozen r → Refines s r → R r → Q r) → Outcome frozen Q s n equal → Outcome frozen R s n equal
along frozen Q R s n true there back o = (
  o.0,
  o.1,
  record {
    forth = λ r f h. let w = o.2.forth r f h in (w.0, there r f w.0 w.1);
    back = λ r f h q. o.2.back r f h (back r f h q);
  },
)
along frozen Q R s n false there back o = λ r f h q. o r f h (back r f h q)

-- ---- one outcome after another: `P` is what was reached, `Q` what the step adds, `R` both

pub later : (frozen : ℕ) (P Q R : (ℕ → Term) → Type 0) (s m n : List (Option Term)) → ((r : ℕ → Term) → P r → Q r → R r) → ((r : ℕ → Term) → R r → P r) → ((r : ℕ → Term) → R r → Q r) → length m ≡ length s → Extended frozen P s m → Outcome frozen Q m n true → Outcome frozen R s n true
later frozen P Q R s m n both first second l a o = (
  o.0 ∙ l,
  o.1,
  record {
    forth = λ r f h. let w = o.2.forth r f h in let v = a.forth r f w.0 in (v.0, both r v.1 w.1);
    back = λ r f h q. o.2.back r f (a.back r f h (first r q)) (second r q);
  },
)

pub later_refuted : (frozen : ℕ) (P Q R : (ℕ → Term) → Type 0) (s m : List (Option Term)) → ((r : ℕ → Term) → R r → P r) → ((r : ℕ → Term) → R r → Q r) → Extended frozen P s m → Refuted frozen Q m → Refuted frozen R s
later_refuted frozen P Q R s m first second a o r f h q = o r f (a.back r f h (first r q)) (second r q)

-- ---- applications and lists of terms

pub applications_outcome : (frozen : ℕ) (f g : SymKey) (xs ys : List Term) (a b : Term) (s n : List (Option Term)) (equal : Bool) → a ≡ App f xs → b ≡ App g ys → f ≡ g → Outcome frozen (λ r. map (substituted r) xs ≡ map (substituted r) ys) s n equal → Outcome frozen (λ r. substituted r a ≡ substituted r b) s n equal
applications_outcome frozen f g xs ys a b s n equal ea eb fg o = along frozen (λ r. map (substituted r) xs ≡ map (substituted r) ys) (λ r. substituted r a ≡ substituted r b) s n equal
    (λ r _ _ q. ap (substituted r) ea ∙ substituted-App r f xs ∙ ap (λ z. App z (map (substituted r) xs)) fg ∙ ap (App g) q ∙ sym (substituted-App r g ys) ∙ ap (substituted r) (sym eb))
    (λ r _ _ q. (App-injective f g (map (substituted r) xs) (map (substituted r) ys) (sym (substituted-App r f xs) ∙ ap (substituted r) (sym ea) ∙ q ∙ ap (substituted r) eb ∙ substituted-App r g ys)).1)
    o

pub all_start : (frozen : ℕ) (xs ys : List Term) (s : List (Option Term)) → Extended frozen (λ r. SameTo r xs ys 0) s s
all_start frozen xs ys s = record {
  forth = λ r f h. (h, λ k l d. absurd (omega arith));
  back = λ r f h q. h;
}

pub all_step : (frozen : ℕ) (xs ys : List Term) (i : ℕ) (x y : Term) (s m n : List (Option Term)) → x ≡ get_or xs i x → y ≡ get_or ys i y → i < length xs → i < length ys → length m ≡ length s → Extended frozen (λ r. SameTo r xs ys i) s m → Outcome frozen (λ r. substituted r x ≡ substituted r y) m n true → Outcome frozen (λ r. SameTo r xs ys (i + 1)) s n true
all_step frozen xs ys i x y s m n ex ey lx ly l a o =
    later frozen (λ r. SameTo r xs ys i) (λ r. substituted r x ≡ substituted r y) (λ r. SameTo r xs ys (i + 1)) s m n
    (λ r h q. same_more r xs ys i x y ex ey lx ly h q)
    (λ r h k q d. h k (omega arith) d)
    (λ r h. equal_here r xs ys i x y ex ey lx ly (h i (omega arith)))
    l a o

pub all_refuted : (frozen : ℕ) (xs ys : List Term) (i : ℕ) (x y : Term) (s m : List (Option Term)) → x ≡ get_or xs i x → y ≡ get_or ys i y → i < length xs → i < length ys → Extended frozen (λ r. SameTo r xs ys i) s m → Refuted frozen (λ r. substituted r x ≡ substituted r y) m → Refuted frozen (λ r. map (substituted r) xs ≡ map (substituted r) ys) s
all_refuted frozen xs ys i x y s m ex ey lx ly a o =
    later_refuted frozen (λ r. SameTo r xs ys i) (λ r. substituted r x ≡ substituted r y) (λ r. map (substituted r) xs ≡ map (substituted r) ys) s m
    (λ r e k _ d. maps_same r xs ys e k d)
    (λ r e. equal_here r xs ys i x y ex ey lx ly (maps_same r xs ys e i))
    a o

pub all_done : (frozen : ℕ) (xs ys : List Term) (i : ℕ) (s n : List (Option Term)) → length xs ≤ i → length xs ≡ length ys → length n ≡ length s → Sound frozen n → Extended frozen (λ r. SameTo r xs ys i) s n → Outcome frozen (λ r. map (substituted r) xs ≡ map (substituted r) ys) s n true
all_done frozen xs ys i s n g l d ok a = along frozen (λ r. SameTo r xs ys i) (λ r. map (substituted r) xs ≡ map (substituted r) ys) s n true
    (λ r _ _ h. same_maps r xs ys l (λ k m v. h k (omega arith) v))
    (λ r _ _ e k _ v. maps_same r xs ys e k v)
    (d, ok, a)
