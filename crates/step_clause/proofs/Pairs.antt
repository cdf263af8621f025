-- What the search's answer says of the clauses of parents.
use Rattle.std.proofs.Common.{◌≡◌, ◌≤◌, ◌+◌, ℕ, zero, suc, true, List, [], ◌∷◌, ◌++◌, map, take, drop, Option, Some, None, length, replicate, subst, arith, refl, sym, ap, ◌∙◌, inl, inr}
use Rattle.dk_syntax.specs.declared.Clause.{Clause}
use Rattle.dk_syntax.specs.declared.Literal.{Literal}
use Rattle.dk_syntax.specs.declared.Term.{Term}
use Rattle.dk_syntax.specs.declared.Term.TheVariants.{Var}
use Rattle.unifier.specs.Outcomes.{Sound}
use Rattle.unifier.specs.Substitution.{value, SameInstances, Settled}
use Rattle.dk_syntax.specs.Terms.{substituted, any_true, has_variable, EachBelow}
use Rattle.unifier.proofs.BoundLaws.{unbound_refined}
use Rattle.dk_syntax.proofs.SubstitutionLaws.{comes, is_variable}
use Rattle.std.proofs.lemmas.Bool.{or_cases, or_left, or_right}
use Rattle.unifier.proofs.SettlingLaws.{refines_itself, value_fixes}
use Rattle.step_clause.specs.declared.justification.Justification.TheVariants.{Subsume, Resolve}
use Rattle.step_clause.specs.declared.slots.Side.{Side}
use Rattle.step_clause.specs.declared.slots.Side.TheVariants.{Kept, Positive, Negative}
use Rattle.step_clause.specs.declared.slots.Slot.{Slot}
use Rattle.step_clause.specs.Candidates.{Subsumes, Resolves, ArePicked}
use Rattle.step_clause.specs.Justifications.{LiteralsBelow, IsNumbered, IsMostGeneral, AreMostGeneral, closed_terms}
use Rattle.step_clause.specs.Places.{IsAnswer, SubsumesBy, IsSubsumption, ResolvesBy, IsResolution}
use Rattle.step_clause.specs.Search.{Fits, NoneExtends, LeastExtension, SlotsBelow}
use Rattle.step_clause.specs.Slots.{none_wanted, both_wanted, raising, slot_of}
use Rattle.step_clause.proofs.Apart.{part, first_below, rest_below, joined, joined_fixes, joined_first, joined_second, subsumes_agrees, subsumes_apart, subsumes_together}
use Rattle.step_clause.proofs.Pivots.{resolves_apart, resolves_together, resolves_agrees}

-- ---- one clause

abbrev pub SubsumingFits : Clause → Clause → (ℕ → Term) → List ℕ → Type 0
SubsumingFits target clause r qs = Fits r target.lits none_wanted (map (slot_of target.vars Kept) clause.lits) qs

-- a substitution of the clause's variables as one of all variables
subsuming_fits : (target clause : Clause) → IsNumbered target → IsNumbered clause → (t : ℕ → Term) (picks : List ℕ) → Subsumes t target.lits clause.lits picks → SubsumingFits target clause (joined target.vars clause.vars t Var) picks
subsuming_fits target clause b b' t picks h =
    let r = joined target.vars clause.vars t Var in
    subsumes_together target.vars target.vars r (joined_fixes target.vars clause.vars t Var) target.lits b none_wanted refl refl clause.lits picks
    (subsumes_agrees clause.vars t (part target.vars r) (λ j l. sym (joined_first target.vars clause.vars t Var j l)) target.lits clause.lits b' picks h)

pub subsume_none : (target clause : Clause) → IsNumbered target → IsNumbered clause → NoneExtends target.vars (SubsumingFits target clause) (replicate (target.vars + clause.vars) None) → (key : List ℕ) → SubsumesBy target clause key → ⊥
subsume_none target clause b b' none key w =
    none key (joined target.vars clause.vars w.0 Var) (joined_fixes target.vars clause.vars w.0 Var) (unbound_refined (target.vars + clause.vars) (joined target.vars clause.vars w.0 Var))
    (subsuming_fits target clause b b' w.0 key w.1)

subsume_general : (target clause : Clause) → IsNumbered target → IsNumbered clause → (picks : List ℕ) (m s : List (Option Term)) → LeastExtension target.vars (SubsumingFits target clause) (replicate (target.vars + clause.vars) None) picks m → Settled target.vars s → SameInstances m s → IsMostGeneral target.vars clause.vars (λ t. Subsumes t target.lits clause.lits picks) (λ j. value s (target.vars + j))
subsume_general target clause b b' picks m s l ok same = (
  subsumes_apart target.vars target.vars (value s) (value_fixes target.vars s ok) target.lits b none_wanted clause.lits picks
      (l.extended.forth (value s) (value_fixes target.vars s ok) ((same (value s)).1 (refines_itself target.vars s ok))).1,
  λ u h.
      let r = joined target.vars clause.vars u Var in
      let f = joined_fixes target.vars clause.vars u Var in
      let refined = (same r).0 (l.extended.back r f (unbound_refined (target.vars + clause.vars) r) (subsuming_fits target clause b b' u picks h)) in
      (r, f, λ j low. sym (joined_first target.vars clause.vars u Var j low) ∙ refined (target.vars + j)),
)

pub subsume_some : (target clause : Clause) → IsNumbered target → IsNumbered clause → (parent number : ℕ) (picks : List ℕ) (terms : List Term) (m s : List (Option Term)) → LeastExtension target.vars (SubsumingFits target clause) (replicate (target.vars + clause.vars) None) picks m → (Sound target.vars m → Settled target.vars s) → (Sound target.vars m → SameInstances m s) → terms ≡ closed_terms target.vars clause.vars (λ j. value s (target.vars + j)) → IsAnswer (SubsumesBy target clause) (IsSubsumption target parent number clause) (Some (Subsume parent number picks terms))
subsume_some target clause b b' parent number picks terms m s l settled same e = (
  picks,
  (terms, refl, ((λ j. value s (target.vars + j)), subsume_general target clause b b' picks m s l (settled l.sound) (same l.sound), e)),
  λ other w x. l.least other (joined target.vars clause.vars w.0 Var) (joined_fixes target.vars clause.vars w.0 Var)
      (unbound_refined (target.vars + clause.vars) (joined target.vars clause.vars w.0 Var)) (subsuming_fits target clause b b' w.0 other w.1) x,
)

-- ---- two clauses

abbrev pub ResolvingFits : Clause → Clause → Clause → (ℕ → Term) → List ℕ → Type 0
ResolvingFits target first second r qs =
    Fits r target.lits both_wanted (map (slot_of target.vars Positive) first.lits ++ map (slot_of (target.vars + first.vars) Negative) second.lits) qs

resolving_fits : (target first second : Clause) → IsNumbered target → IsNumbered first → IsNumbered second → (t u : ℕ → Term) (picks others : List ℕ) → Resolves t u target.lits first.lits second.lits picks others → ResolvingFits target first second (joined target.vars first.vars t u) (picks ++ others)
resolving_fits target first second b b' b'' t u picks others h =
    let r = joined target.vars first.vars t u in
    resolves_together target.vars target.vars (target.vars + first.vars) r (joined_fixes target.vars first.vars t u) target.lits b both_wanted refl first.lits second.lits picks others
    (resolves_agrees first.vars second.vars t u (part target.vars r) (part (target.vars + first.vars) r)
    (λ j l. sym (joined_first target.vars first.vars t u j l)) (λ j l. sym (joined_second target.vars first.vars t u j))
    target.lits first.lits second.lits b' b'' picks others h)

resolving_key : (target first second : Clause) → IsNumbered target → IsNumbered first → IsNumbered second → (key : List ℕ) (w : ResolvesBy target first second key) → ResolvingFits target first second (joined target.vars first.vars w.t w.u) key
resolving_key target first second b b' b'' key w =
    subst (ResolvingFits target first second (joined target.vars first.vars w.t w.u)) (sym w.whole) (resolving_fits target first second b b' b'' w.t w.u w.picks w.others w.resolves)

pub resolve_none : (target first second : Clause) → IsNumbered target → IsNumbered first → IsNumbered second → NoneExtends target.vars (ResolvingFits target first second) (replicate (target.vars + first.vars + second.vars) None) → (key : List ℕ) → ResolvesBy target first second key → ⊥
resolve_none target first second b b' b'' none key w =
    none key (joined target.vars first.vars w.t w.u) (joined_fixes target.vars first.vars w.t w.u) (unbound_refined (target.vars + first.vars + second.vars) (joined target.vars first.vars w.t w.u))
    (resolving_key target first second b b' b'' key w)

-- the first picks are those of the first clause
pub picks_long : (t : ℕ → Term) (ds : List Literal) (pivot : Literal) (cs : List Literal) (ps : List ℕ) → ArePicked t ds pivot cs ps → length ps ≡ length cs
picks_long t ds pivot [] [] h = refl
picks_long t ds pivot [] (p ∷ ps) h = absurd h
picks_long t ds pivot (c ∷ cs) [] h = absurd h
picks_long t ds pivot (c ∷ cs) (p ∷ ps) h = ap suc (picks_long t ds pivot cs ps h.1)

pub front : (xs ys : List ℕ) (n : ℕ) → length xs ≡ n → take n (xs ++ ys) ≡ xs
front [] ys zero e = refl
front [] ys (suc n) e = absurd (omega arith)
front (x ∷ xs) ys zero e = absurd (omega arith)
front (x ∷ xs) ys (suc n) e = ap (λ z. x ∷ z) (front xs ys n (omega arith))

pub back : (xs ys : List ℕ) (n : ℕ) → length xs ≡ n → drop n (xs ++ ys) ≡ ys
back [] ys zero e = refl
back [] ys (suc n) e = absurd (omega arith)
back (x ∷ xs) ys zero e = absurd (omega arith)
back (x ∷ xs) ys (suc n) e = back xs ys n (omega arith)

resolve_general : (target first second : Clause) → IsNumbered target → IsNumbered first → IsNumbered second → (picks others key : List ℕ) (m s : List (Option Term)) → key ≡ picks ++ others → LeastExtension target.vars (ResolvingFits target first second) (replicate (target.vars + first.vars + second.vars) None) key m → Settled target.vars s → SameInstances m s → Resolves (part target.vars (value s)) (part (target.vars + first.vars) (value s)) target.lits first.lits second.lits picks others → AreMostGeneral target.vars first.vars second.vars (λ t u. Resolves t u target.lits first.lits second.lits picks others) (λ j. value s (target.vars + j)) (λ j. value s (target.vars + first.vars + j))
resolve_general target first second b b' b'' picks others key m s e l ok same h = (
  h,
  λ t u g.
      let r = joined target.vars first.vars t u in
      let f = joined_fixes target.vars first.vars t u in
      let fits = subst (ResolvingFits target first second r) (sym e) (resolving_fits target first second b b' b'' t u picks others g) in
      let refined = (same r).0 (l.extended.back r f (unbound_refined (target.vars + first.vars + second.vars) r) fits) in (
        r,
        f,
        (λ j low. sym (joined_first target.vars first.vars t u j low) ∙ refined (target.vars + j)),
        (λ j low. sym (joined_second target.vars first.vars t u j) ∙ refined (target.vars + first.vars + j)),
      ),
)

pub resolve_some : (target first second : Clause) → IsNumbered target → IsNumbered first → IsNumbered second → (parent number other other_number : ℕ) (key picks others : List ℕ) (terms terms' : List Term) (m s : List (Option Term)) → picks ≡ take (length first.lits) key → others ≡ drop (length first.lits) key → LeastExtension target.vars (ResolvingFits target first second) (replicate (target.vars + first.vars + second.vars) None) key m → (Sound target.vars m → Settled target.vars s) → (Sound target.vars m → SameInstances m s) → terms ≡ closed_terms target.vars first.vars (λ j. value s (target.vars + j)) → terms' ≡ closed_terms target.vars second.vars (λ j. value s (target.vars + first.vars + j)) → IsAnswer (ResolvesBy target first second) (IsResolution target parent number other other_number first second) (Some (Resolve parent number other other_number picks others terms terms'))
resolve_some target first second b b' b'' parent number other other_number key picks others terms terms' m s ep eo l settled same e e' =
    let ok = settled l.sound in
    let fixes = value_fixes target.vars s ok in
    let it = resolves_apart target.vars target.vars (target.vars + first.vars) (value s) fixes target.lits b both_wanted refl refl refl first.lits second.lits key
    (l.extended.forth (value s) fixes ((same l.sound (value s)).1 (refines_itself target.vars s ok))).1 in
    let long = picks_long (part target.vars (value s)) target.lits _ first.lits it.picks it.resolves.2.0 in
    let a : picks ≡ it.picks = ep ∙ ap (take (length first.lits)) it.whole ∙ front it.picks it.others (length first.lits) long in
    let d : others ≡ it.others = eo ∙ ap (drop (length first.lits)) it.whole ∙ back it.picks it.others (length first.lits) long in
    let whole : key ≡ picks ++ others = it.whole ∙ ap (λ z. z ++ it.others) (sym a) ∙ ap (λ z. picks ++ z) (sym d) in
    let h = subst (λ z. Resolves (part target.vars (value s)) (part (target.vars + first.vars) (value s)) target.lits first.lits second.lits z others) (sym a)
    (subst (λ z. Resolves (part target.vars (value s)) (part (target.vars + first.vars) (value s)) target.lits first.lits second.lits it.picks z) (sym d) it.resolves) in (
      key,
      record {
        picks = picks;
        others = others;
        whole = whole;
        terms = terms;
        other_terms = terms';
        made = refl;
        paired = ((λ j. value s (target.vars + j)), (λ j. value s (target.vars + first.vars + j)), resolve_general target first second b b' b'' picks others key m s whole l ok (same l.sound) h, e, e');
      },
      λ other w x. l.least other (joined target.vars first.vars w.t w.u) (joined_fixes target.vars first.vars w.t w.u)
          (unbound_refined (target.vars + first.vars + second.vars) (joined target.vars first.vars w.t w.u)) (resolving_key target first second b b' b'' other w) x,
    )

-- ---- variables below a number

in_list : (s : ℕ → Term) (j : ℕ) (xs : List Term) → any_true (map (has_variable j) (map (substituted s) xs)) ≡ true → (k : ℕ) × (any_true (map (has_variable k) xs) ≡ true) × (has_variable j (s k) ≡ true)
in_list s j [] e = absurd (cc)
in_list s j (x ∷ xs) e = elim (or_cases (has_variable j (substituted s x)) (any_true (map (has_variable j) (map (substituted s) xs))) e) [
  | inl p ↦ let w = comes s j x p in (w.0, or_left (has_variable w.0 x) (any_true (map (has_variable w.0) xs)) w.1, w.2)
  | inr q ↦ let w = in_list s j xs q in (w.0, or_right (has_variable w.0 x) (any_true (map (has_variable w.0) xs)) w.1, w.2)
]

raised_below : (n v m : ℕ) → n + v ≤ m → (xs : List Term) → EachBelow v xs → EachBelow m (map (substituted (raising n)) xs)
raised_below n v m l xs b k e =
    let w = in_list (raising n) k xs e in
    let i = is_variable (n + w.0) k (Var (n + w.0)) refl w.2 in
    let low = b w.0 w.1 in omega arith

pub slots_below : (n v m : ℕ) → n + v ≤ m → (side : Side) (cs : List Literal) → LiteralsBelow v cs → SlotsBelow m (map (slot_of n side) cs)
slots_below n v m l side [] b k d low = absurd (omega arith)
slots_below n v m l side (c ∷ cs) b zero d low = raised_below n v m l c.args (first_below v c cs b)
slots_below n v m l side (c ∷ cs) b (suc k) d low = slots_below n v m l side cs (rest_below v c cs b) k d (omega arith)

pub slots_below_both : (m : ℕ) (xs ys : List Slot) → SlotsBelow m xs → SlotsBelow m ys → SlotsBelow m (xs ++ ys)
slots_below_both m [] ys b b' k d low = b' k d low
slots_below_both m (x ∷ xs) ys b b' zero d low = b 0 x (omega arith)
slots_below_both m (x ∷ xs) ys b b' (suc k) d low = slots_below_both m xs ys (λ j e l. b (suc j) e (omega arith)) b' k d (omega arith)

pub literals_below_more : (n m : ℕ) → n ≤ m → (ds : List Literal) → LiteralsBelow n ds → LiteralsBelow m ds
literals_below_more n m l ds b k d low j e = let h = b k d low j e in omega arith
