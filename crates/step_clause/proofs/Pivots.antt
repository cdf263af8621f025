-- Picks with pivots: the literals of one clause, and then other literals.
use Rattle.std.proofs.Common.{◌≡◌, ◌<◌, ℕ, Bool, true, false, List, [], ◌∷◌, ◌++◌, map, Option, Some, None, slice_get, length, subst, arith, refl, sym, ap, ◌∙◌, ◌⊎◌, inl, inr, append-nil}
use Rattle.std.specs.Prelude.{not}
use Rattle.std.specs.List.{Contains}
use Rattle.std.proofs.lemmas.Option.{slice_get_within}
use Rattle.dk_syntax.specs.declared.Literal.{Literal}
use Rattle.dk_syntax.specs.declared.SymKey.{SymKey}
use Rattle.dk_syntax.specs.declared.Term.{Term}
use Rattle.unifier.specs.Substitution.{Fixes}
use Rattle.dk_syntax.specs.Terms.{instance, substituted}
use Rattle.step_clause.specs.declared.slots.Pivots.{Pivots}
use Rattle.step_clause.specs.declared.slots.Slot.{Slot}
use Rattle.step_clause.specs.Candidates.{ArePicked, Resolves, affirmed, denied}
use Rattle.step_clause.specs.Justifications.{LiteralsBelow}
use Rattle.step_clause.specs.Search.{SameAtom, SamePivot, first_pivot, after_pivot, Fits}
use Rattle.step_clause.specs.Slots.{slot_of}
use Rattle.step_clause.proofs.Apart.{part, raised_terms, literal_of, pick_apart, pick_together, instance_agrees, first_below, rest_below, side_of, wants, signed, slots_of, cut_sign, may_be_cut, after_first, after_wants, after_other, contains_here, contains_there, contains_rest, contains_none}

-- ---- from picks in one row to picks of a clause

-- the picks of a clause, and then others, where the first pivot is e
pub record Parted (sign : Bool) (r : ℕ → Term) (ds : List Literal) (k : ℕ) (rest : List Slot) (w : Pivots) (e : Literal) (cs : List Literal) (qs : List ℕ) : Type 0 where
  pub picks : List ℕ
  pub others : List ℕ
  pub whole : qs ≡ picks ++ others
  pub picked : ArePicked (part k r) ds (signed sign e.pred (map (substituted r) e.args)) cs picks
  pub has_pivot : wants sign w ≡ true → Contains picks (length ds)
  pub next : Pivots
  pub first : next.first ≡ Some e
  pub other : wants (not sign) next ≡ wants (not sign) w
  pub fits : Fits r ds next rest others

-- the pivot wanted is not found among the rest
abbrev pub Stops : Bool → (ℕ → Term) → List Literal → List Slot → Type 0
Stops sign r ds rest = (w : Pivots) (qs : List ℕ) → Fits r ds w rest qs → wants sign w ≡ false

true_not_false : (b : Bool) → b ≡ true → b ≡ false → ⊥
true_not_false b p q = let e = sym p ∙ q in cc

pivot_instance : (sign : Bool) (r : ℕ → Term) (k : ℕ) (c e : Literal) → c.positive ≡ sign → SameAtom r (slot_of k (side_of sign) c).literal e → instance (part k r) c ≡ signed sign e.pred (map (substituted r) e.args)
pivot_instance sign r k c e s q = literal_of (instance (part k r) c) (signed sign e.pred (map (substituted r) e.args)) s q.0 (sym (raised_terms k r c.args) ∙ q.1)

pub parted : (sign : Bool) (n k : ℕ) (r : ℕ → Term) → Fixes n r → (ds : List Literal) → LiteralsBelow n ds → (rest : List Slot) → Stops sign r ds rest → (e : Literal) (cs : List Literal) (w : Pivots) (qs : List ℕ) → w.first ≡ Some e → Fits r ds w (slots_of k sign cs ++ rest) qs → Parted sign r ds k rest w e cs qs
parted sign n k r f ds b rest stop e [] w qs g h = record {
  picks = [];
  others = qs;
  whole = refl;
  picked = tt;
  has_pivot = λ x. absurd (true_not_false (wants sign w) x (stop w qs h));
  next = w;
  first = g;
  other = refl;
  fits = h;
}
parted sign n k r f ds b rest stop e (c ∷ cs) w [] g h = absurd h
parted sign n k r f ds b rest stop e (c ∷ cs) w (p ∷ qs) g (inl h) =
    let it = parted sign n k r f ds b rest stop e cs w qs g h.1 in record {
      picks = p ∷ it.picks;
      others = it.others;
      whole = ap (λ z. p ∷ z) it.whole;
      picked = (inl (pick_apart n k r f ds b (side_of sign) c p h.0), it.picked);
      has_pivot = λ x. contains_there p it.picks (length ds) (it.has_pivot x);
      next = it.next;
      first = it.first;
      other = it.other;
      fits = it.fits;
    }
parted sign n k r f ds b rest stop e (c ∷ cs) w (p ∷ qs) g (inr h) =
    let d = (slot_of k (side_of sign) c).literal in
    let s = cut_sign sign c.positive h.1 in
    let it = parted sign n k r f ds b rest stop e cs (after_pivot w d) qs (after_first sign c.positive (first_pivot w.first d) w ∙ ap (λ z. first_pivot z d) g) h.3 in record {
      picks = p ∷ it.picks;
      others = it.others;
      whole = ap (λ z. p ∷ z) it.whole;
      picked = (inr (pivot_instance sign r k c e s (subst (λ z. SamePivot r z d) g h.2), h.0), it.picked);
      has_pivot = λ x. contains_here p it.picks (length ds) h.0;
      next = it.next;
      first = it.first;
      other = it.other ∙ after_other sign c.positive (first_pivot w.first d) w s;
      fits = it.fits;
    }

-- the same where no pivot was met before
pub first_parted : (sign : Bool) (n k : ℕ) (r : ℕ → Term) → Fixes n r → (ds : List Literal) → LiteralsBelow n ds → (rest : List Slot) → Stops sign r ds rest → (cs : List Literal) (w : Pivots) (qs : List ℕ) → w.first ≡ None → wants sign w ≡ true → Fits r ds w (slots_of k sign cs ++ rest) qs → (e : Literal) × Parted sign r ds k rest w e cs qs
first_parted sign n k r f ds b rest stop [] w qs g x h = absurd (true_not_false (wants sign w) x (stop w qs h))
first_parted sign n k r f ds b rest stop (c ∷ cs) w [] g x h = absurd h
first_parted sign n k r f ds b rest stop (c ∷ cs) w (p ∷ qs) g x (inl h) =
    let found = first_parted sign n k r f ds b rest stop cs w qs g x h.1 in
    let it = found.1 in (
      found.0,
      record {
        picks = p ∷ it.picks;
        others = it.others;
        whole = ap (λ z. p ∷ z) it.whole;
        picked = (inl (pick_apart n k r f ds b (side_of sign) c p h.0), it.picked);
        has_pivot = λ y. contains_there p it.picks (length ds) (it.has_pivot y);
        next = it.next;
        first = it.first;
        other = it.other;
        fits = it.fits;
      },
    )
first_parted sign n k r f ds b rest stop (c ∷ cs) w (p ∷ qs) g x (inr h) =
    let d = (slot_of k (side_of sign) c).literal in
    let s = cut_sign sign c.positive h.1 in
    let it = parted sign n k r f ds b rest stop d cs (after_pivot w d) qs (after_first sign c.positive (first_pivot w.first d) w ∙ ap (λ z. first_pivot z d) g) h.3 in (
      d,
      record {
        picks = p ∷ it.picks;
        others = it.others;
        whole = ap (λ z. p ∷ z) it.whole;
        picked = (inr (pivot_instance sign r k c d s (refl, refl), h.0), it.picked);
        has_pivot = λ y. contains_here p it.picks (length ds) h.0;
        next = it.next;
        first = it.first;
        other = it.other ∙ after_other sign c.positive (first_pivot w.first d) w s;
        fits = it.fits;
      },
    )

-- a clause with negative pivots alone leaves the wish for a positive one
pub negative_stops : (k : ℕ) (r : ℕ → Term) (ds cs : List Literal) → Stops true r ds (slots_of k false cs)
negative_stops k r ds [] w [] h = h.0
negative_stops k r ds [] w (q ∷ qs) h = absurd h
negative_stops k r ds (c ∷ cs) w [] h = absurd h
negative_stops k r ds (c ∷ cs) w (q ∷ qs) (inl h) = negative_stops k r ds cs w qs h.1
negative_stops k r ds (c ∷ cs) w (q ∷ qs) (inr h) =
    let d = (slot_of k (side_of false) c).literal in
    sym (after_other false c.positive (first_pivot w.first d) w (cut_sign false c.positive h.1)) ∙ negative_stops k r ds cs (after_pivot w d) qs h.3

nothing_stops : (r : ℕ → Term) (ds : List Literal) → Stops false r ds []
nothing_stops r ds w [] h = h.1
nothing_stops r ds w (q ∷ qs) h = absurd h

no_others : (r : ℕ → Term) (ds : List Literal) (w : Pivots) (qs : List ℕ) → Fits r ds w [] qs → qs ≡ []
no_others r ds w [] h = refl
no_others r ds w (q ∷ qs) h = absurd h

-- picks of two clauses by which they resolve, as the parts of one list
pub record ResolvesIn (t u : ℕ → Term) (ds cs cs' : List Literal) (qs : List ℕ) : Type 0 where
  pub picks : List ℕ
  pub others : List ℕ
  pub whole : qs ≡ picks ++ others
  pub resolves : Resolves t u ds cs cs' picks others

pub resolves_apart : (n k m : ℕ) (r : ℕ → Term) → Fixes n r → (ds : List Literal) → LiteralsBelow n ds → (w : Pivots) → w.first ≡ None → w.wants_positive ≡ true → w.wants_negative ≡ true → (cs cs' : List Literal) (qs : List ℕ) → Fits r ds w (slots_of k true cs ++ slots_of m false cs') qs → ResolvesIn (part k r) (part m r) ds cs cs' qs
resolves_apart n k m r f ds b w g x y cs cs' qs h =
    let found = first_parted true n k r f ds b (slots_of m false cs') (negative_stops m r ds cs') cs w qs g x h in
    let e = found.0 in
    let one = found.1 in
    let two = parted false n m r f ds b [] (nothing_stops r ds) e cs' one.next one.others one.first (subst (λ z. Fits r ds one.next z one.others) (sym (append-nil (slots_of m false cs'))) one.fits) in
    let none = no_others r ds two.next two.others two.fits in
    record {
      picks = one.picks;
      others = two.picks;
      whole = one.whole ∙ ap (λ z. one.picks ++ z) (two.whole ∙ ap (λ z. two.picks ++ z) none ∙ append-nil two.picks);
      resolves = (e.pred, map (substituted r) e.args, (one.picked, one.has_pivot x), (two.picked, two.has_pivot (one.other ∙ y)));
    }

-- ---- from picks of clauses to picks in one row

-- the atom of the first pivot is that atom, where there was one
abbrev pub IsPivotOf : (ℕ → Term) → Option Literal → SymKey → List Term → Type 0
IsPivotOf r None p xs = Unit {0}
IsPivotOf r (Some e) p xs = (e.pred ≡ p) × (map (substituted r) e.args ≡ xs)

pivot_same : (r : ℕ → Term) (first : Option Literal) (d : Literal) (p : SymKey) (xs : List Term) → IsPivotOf r first p xs → d.pred ≡ p → map (substituted r) d.args ≡ xs → SamePivot r first d
pivot_same r None d p xs i e g = tt
pivot_same r (Some c) d p xs i e g = (e ∙ sym i.0, g ∙ sym i.1)

pivot_kept : (r : ℕ → Term) (first : Option Literal) (d : Literal) (p : SymKey) (xs : List Term) → IsPivotOf r first p xs → d.pred ≡ p → map (substituted r) d.args ≡ xs → IsPivotOf r (first_pivot first d) p xs
pivot_kept r None d p xs i e g = (e, g)
pivot_kept r (Some c) d p xs i e g = i

cases_Bool : (b : Bool) → (b ≡ true) ⊎ (b ≡ false)
cases_Bool true = inl refl
cases_Bool false = inr refl

within : (ds : List Literal) (p : ℕ) (d : Literal) → slice_get ds p ≡ Some d → p ≡ length ds → ⊥
within ds p d at e = let l = slice_get_within ds p d at in absurd (omega arith)

pub together : (sign : Bool) (n k : ℕ) (r : ℕ → Term) → Fixes n r → (ds : List Literal) → LiteralsBelow n ds → (rest : List Slot) (others : List ℕ) (p : SymKey) (xs : List Term) (cs : List Literal) (picks : List ℕ) (w : Pivots) → ((next : Pivots) → IsPivotOf r next.first p xs → wants sign next ≡ false → wants (not sign) next ≡ wants (not sign) w → Fits r ds next rest others) → IsPivotOf r w.first p xs → ArePicked (part k r) ds (signed sign p xs) cs picks → (wants sign w ≡ true → Contains picks (length ds)) → Fits r ds w (slots_of k sign cs ++ rest) (picks ++ others)
together sign n k r f ds b rest others p xs [] [] w go i h x = elim (cases_Bool (wants sign w)) [
  | inl y ↦ absurd (contains_none (length ds) (x y))
  | inr y ↦ go w i y refl
]
together sign n k r f ds b rest others p xs [] (q ∷ picks) w go i h x = absurd h
together sign n k r f ds b rest others p xs (c ∷ cs) [] w go i h x = absurd h
together sign n k r f ds b rest others p xs (c ∷ cs) (q ∷ picks) w go i (inl at, h) x =
    inl (
      pick_together n k r f ds b (side_of sign) c q at,
      together sign n k r f ds b rest others p xs cs picks w go i h (λ y. contains_rest q picks (length ds) (within ds q (instance (part k r) c) at) (x y)),
    )
together sign n k r f ds b rest others p xs (c ∷ cs) (q ∷ picks) w go i (inr at, h) x =
    let d = (slot_of k (side_of sign) c).literal in
    let s : c.positive ≡ sign = ap (λ z. z.positive) at.0 in
    let pred : d.pred ≡ p = ap (λ z. z.pred) at.0 in
    let args : map (substituted r) d.args ≡ xs = raised_terms k r c.args ∙ ap (λ z. z.args) at.0 in
    inr (
      at.1,
      may_be_cut sign c.positive s,
      pivot_same r w.first d p xs i pred args,
      together sign n k r f ds b rest others p xs cs picks (after_pivot w d)
          (λ next j y z. go next j y (z ∙ after_other sign c.positive (first_pivot w.first d) w s))
          (subst (λ z. IsPivotOf r z p xs) (sym (after_first sign c.positive (first_pivot w.first d) w)) (pivot_kept r w.first d p xs i pred args))
          h (λ y. absurd (true_not_false (wants sign (after_pivot w d)) y (after_wants sign c.positive (first_pivot w.first d) w s))),
    )

pub resolves_together : (n k m : ℕ) (r : ℕ → Term) → Fixes n r → (ds : List Literal) → LiteralsBelow n ds → (w : Pivots) → w.first ≡ None → (cs cs' : List Literal) (ps qs : List ℕ) → Resolves (part k r) (part m r) ds cs cs' ps qs → Fits r ds w (slots_of k true cs ++ slots_of m false cs') (ps ++ qs)
resolves_together n k m r f ds b w g cs cs' ps qs (p, xs, cut, cut') =
    together true n k r f ds b (slots_of m false cs') qs p xs cs ps w
    (λ next i e o. subst (λ z. Fits r ds next z qs) (append-nil (slots_of m false cs'))
    (subst (λ z. Fits r ds next (slots_of m false cs' ++ []) z) (append-nil qs)
    (together false n m r f ds b [] [] p xs cs' qs next (λ last j y z. (z ∙ e, y)) i cut'.0 (λ y. cut'.1))))
    (subst (λ z. IsPivotOf r z p xs) (sym g) tt) cut.0 (λ y. cut.1)

-- ---- substitutions that agree on a clause's variables

picked_agrees : (v : ℕ) (t u : ℕ → Term) → ((j : ℕ) → j < v → t j ≡ u j) → (ds : List Literal) (pivot : Literal) (cs : List Literal) → LiteralsBelow v cs → (ps : List ℕ) → ArePicked t ds pivot cs ps → ArePicked u ds pivot cs ps
picked_agrees v t u h ds pivot [] b [] q = q
picked_agrees v t u h ds pivot [] b (p ∷ ps) q = q
picked_agrees v t u h ds pivot (c ∷ cs) b [] q = q
picked_agrees v t u h ds pivot (c ∷ cs) b (p ∷ ps) (inl at, q) =
    (inl (at ∙ ap Some (instance_agrees v t u h c (first_below v c cs b))), picked_agrees v t u h ds pivot cs (rest_below v c cs b) ps q)
picked_agrees v t u h ds pivot (c ∷ cs) b (p ∷ ps) (inr at, q) =
    (inr (sym (instance_agrees v t u h c (first_below v c cs b)) ∙ at.0, at.1), picked_agrees v t u h ds pivot cs (rest_below v c cs b) ps q)

pub resolves_agrees : (v v' : ℕ) (t t' u u' : ℕ → Term) → ((j : ℕ) → j < v → t j ≡ u j) → ((j : ℕ) → j < v' → t' j ≡ u' j) → (ds cs cs' : List Literal) → LiteralsBelow v cs → LiteralsBelow v' cs' → (ps qs : List ℕ) → Resolves t t' ds cs cs' ps qs → Resolves u u' ds cs cs' ps qs
resolves_agrees v v' t t' u u' h h' ds cs cs' b b' ps qs (p, xs, cut, cut') =
    (p, xs, (picked_agrees v t u h ds (affirmed p xs) cs b ps cut.0, cut.1), (picked_agrees v' t' u' h' ds (denied p xs) cs' b' qs cut'.0, cut'.1))
