-- The steps of the search, over plain values.
use Rattle.std.proofs.Common.{◌≡◌, ◌≤◌, ◌<◌, ◌+◌, ℕ, suc, List, [], ◌∷◌, map, get_or, Bool, Option, Some, None, length, slice_get, subst, arith, refl, sym, ap, ◌∙◌, ◌⊎◌, inl, inr, true, false}
use Rattle.std.proofs.lemmas.Bool.Decides.{nat_tests}
use Rattle.std.proofs.lemmas.Option.{slice_get_within}
use Rattle.dk_syntax.specs.declared.Literal.{Literal}
use Rattle.dk_syntax.specs.declared.Term.{Term}
use Rattle.unifier.specs.Outcomes.{Sound, Refuted, Outcome}
use Rattle.unifier.specs.Substitution.{Fixes, Refines}
use Rattle.dk_syntax.specs.Terms.{substituted, EachBelow}
use Rattle.step_clause.specs.declared.search.Found.{Found}
use Rattle.step_clause.specs.declared.slots.Pivots.{Pivots}
use Rattle.step_clause.specs.declared.slots.Slot.{Slot}
use Rattle.step_clause.specs.Candidates.{IsListBefore}
use Rattle.step_clause.specs.Justifications.{LiteralsBelow}
use Rattle.step_clause.specs.Search.{SameAtom, SameLiteral, AtPick, SamePivot, first_pivot, after_sign, after_pivot, Fits, FitsAfter, FitsAsPivot, NoneExtends, LeastExtension, IsFound, IsFoundAtLiteral, IsEnd, SlotsBelow, PivotsBelow}

-- no literal of the target below p works for the first one
abbrev pub NoneBelow : ℕ → List Literal → Pivots → Slot → List Slot → List (Option Term) → ℕ → Type 0
NoneBelow frozen ds pivots slot rest s p =
    (q : ℕ) (d : Literal) → q < p → slice_get ds q ≡ Some d → NoneExtends frozen (FitsAfter ds pivots slot.literal d rest) s

or_equal : (k i : ℕ) → k < i + 1 → (k < i) ⊎ (k ≡ i)
or_equal k i m = grind (arith, nat_tests)

never : (qs : List ℕ) → IsListBefore qs [] → ⊥
never [] b = b
never (q ∷ qs) b = b

true_not_false : (b : Bool) → b ≡ true → b ≡ false → ⊥
true_not_false b p q = let e = sym p ∙ q in cc

-- ---- the end

wanted : (frozen : ℕ) (ds : List Literal) (pivots : Pivots) (s : List (Option Term)) → IsEnd pivots s None → NoneExtends frozen (λ r qs. Fits r ds pivots [] qs) s
wanted frozen ds pivots s e [] r f h q = elim e [
  | inl p ↦ true_not_false pivots.wants_positive p q.0
  | inr p ↦ true_not_false pivots.wants_negative p q.1
]
wanted frozen ds pivots s e (k ∷ qs) r f h q = q

pub ended : (frozen : ℕ) (ds : List Literal) (pivots : Pivots) (s : List (Option Term)) (o : Option Found) → Sound frozen s → IsEnd pivots s o → IsFound frozen (λ r qs. Fits r ds pivots [] qs) s o
ended frozen ds pivots s None ok e = wanted frozen ds pivots s e
ended frozen ds pivots s (Some found) ok e = record {
  long = ap length e.3;
  sound = subst (Sound frozen) (sym e.3) ok;
  extended = record {
    forth = λ r f h. (subst (λ z. Refines z r) e.3 h, subst (λ z. Fits r ds pivots [] z) (sym e.2) (e.0, e.1));
    back = λ r f h q. subst (λ z. Refines z r) (sym e.3) h;
  };
  least = λ qs r f h q b. never qs (subst (IsListBefore qs) e.2 b);
}

-- ---- an equation, and then the rest

pub then_found : (frozen : ℕ) (P : (ℕ → Term) → Type 0) (Q : (ℕ → Term) → List ℕ → Type 0) (s m : List (Option Term)) (o : Option Found) → Outcome frozen P s m true → IsFound frozen Q m o → IsFound frozen (λ r qs. P r × Q r qs) s o
then_found frozen P Q s m None won none = λ qs r f h q. none qs r f (won.2.back r f h q.0) q.1
then_found frozen P Q s m (Some found) won l = record {
  long = l.long ∙ won.0;
  sound = l.sound;
  extended = record {
    forth = λ r f h. let w = l.extended.forth r f h in let v = won.2.forth r f w.0 in (v.0, (v.1, w.1));
    back = λ r f h q. l.extended.back r f (won.2.back r f h q.0) q.1;
  };
  least = λ qs r f h q b. l.least qs r f (won.2.back r f h q.0) q.1 b;
}

pub first_refuted : (frozen : ℕ) (P : (ℕ → Term) → Type 0) (Q : (ℕ → Term) → List ℕ → Type 0) (s : List (Option Term)) → Refuted frozen P s → NoneExtends frozen (λ r qs. P r × Q r qs) s
first_refuted frozen P Q s o qs r f h q = o r f h q.0

-- another property that says the same
pub found_along : (frozen : ℕ) (Q R : (ℕ → Term) → List ℕ → Type 0) (s : List (Option Term)) (o : Option Found) → ((r : ℕ → Term) (qs : List ℕ) → Q r qs → R r qs) → ((r : ℕ → Term) (qs : List ℕ) → R r qs → Q r qs) → IsFound frozen Q s o → IsFound frozen R s o
found_along frozen Q R s None there back none = λ qs r f h q. none qs r f h (back r qs q)
found_along frozen Q R s (Some found) there back l = record {
  long = l.long;
  sound = l.sound;
  extended = record {
    forth = λ r f h. let w = l.extended.forth r f h in (w.0, there r found.picks w.1);
    back = λ r f h q. l.extended.back r f h (back r found.picks q);
  };
  least = λ qs r f h q b. l.least qs r f h (back r qs q) b;
}

-- ---- the atoms

pub atoms_outcome : (frozen : ℕ) (c d : Literal) (s n : List (Option Term)) (won : Bool) → c.pred ≡ d.pred → Outcome frozen (λ r. map (substituted r) c.args ≡ map (substituted r) d.args) s n won → Outcome frozen (λ r. SameAtom r c d) s n won
atoms_outcome frozen c d s n true e o = (
  o.0,
  o.1,
  record {
    forth = λ r f h. let w = o.2.forth r f h in (w.0, (e, w.1));
    back = λ r f h q. o.2.back r f h q.1;
  },
)
atoms_outcome frozen c d s n false e o = λ r f h q. o r f h q.1

pub atoms_found : (frozen : ℕ) (ds : List Literal) (pivots : Pivots) (c d : Literal) (rest : List Slot) (s tried n : List (Option Term)) (xs ys : List Term) (o : Option Found) → c.pred ≡ d.pred → tried ≡ s → xs ≡ c.args → ys ≡ d.args → Outcome frozen (λ r. map (substituted r) xs ≡ map (substituted r) ys) tried n true → IsFound frozen (λ r qs. Fits r ds pivots rest qs) n o → IsFound frozen (λ r qs. SameAtom r c d × Fits r ds pivots rest qs) s o
atoms_found frozen ds pivots c d rest s tried n xs ys o e g ex ey won found =
    then_found frozen (λ r. SameAtom r c d) (λ r qs. Fits r ds pivots rest qs) s n o
    (atoms_outcome frozen c d s n true e
    (subst (λ z. Outcome frozen (λ r. map (substituted r) z ≡ map (substituted r) d.args) s n true) ex
    (subst (λ z. Outcome frozen (λ r. map (substituted r) xs ≡ map (substituted r) z) s n true) ey
    (subst (λ z. Outcome frozen (λ r. map (substituted r) xs ≡ map (substituted r) ys) z n true) g won)))) found

-- ---- the first literal

same_item : (ds : List Literal) (p : ℕ) (d e : Literal) → slice_get ds p ≡ Some d → slice_get ds p ≡ Some e → e ≡ d
same_item ds p d e x y = cc

-- the fact of the literal at a pick, moved to the pick that it is
moved : (r : ℕ → Term) (ds : List Literal) (pivots : Pivots) (slot : Slot) (rest : List Slot) (p k : ℕ) (d : Literal) (qs : List ℕ) → slice_get ds p ≡ Some d → k ≡ p → AtPick r ds slot.literal k × Fits r ds pivots rest qs → FitsAfter ds pivots slot.literal d rest r qs
moved r ds pivots slot rest p k d qs at e q =
    (subst (λ z. SameLiteral r slot.literal z) (same_item ds p d q.0.0 at (ap (slice_get ds) (sym e) ∙ q.0.1)) q.0.2, q.1)

past : (ds : List Literal) (p k : ℕ) (d : Literal) → slice_get ds p ≡ Some d → k ≡ length ds → k ≤ p → ⊥
past ds p k d at e l = let h = slice_get_within ds p d at in absurd (omega arith)

first_lowest : (frozen : ℕ) (ds : List Literal) (pivots : Pivots) (slot : Slot) (rest : List Slot) (s n : List (Option Term)) (p : ℕ) (d : Literal) (picks : List ℕ) → slice_get ds p ≡ Some d → NoneBelow frozen ds pivots slot rest s p → LeastExtension frozen (FitsAfter ds pivots slot.literal d rest) s picks n → (qs : List ℕ) (r : ℕ → Term) → Fixes frozen r → Refines s r → Fits r ds pivots (slot ∷ rest) qs → IsListBefore qs (p ∷ picks) → ⊥
first_lowest frozen ds pivots slot rest s n p d picks at none l [] r f h q b = b
first_lowest frozen ds pivots slot rest s n p d picks at none l (k ∷ qs) r f h (inl q) (inl x) = none k q.0.0 x q.0.1 qs r f h (q.0.2, q.1)
first_lowest frozen ds pivots slot rest s n p d picks at none l (k ∷ qs) r f h (inl q) (inr x) = l.least qs r f h (moved r ds pivots slot rest p k d qs at x.0 q) x.1
first_lowest frozen ds pivots slot rest s n p d picks at none l (k ∷ qs) r f h (inr q) (inl x) = past ds p k d at q.0 (omega arith)
first_lowest frozen ds pivots slot rest s n p d picks at none l (k ∷ qs) r f h (inr q) (inr x) = past ds p k d at q.0 (omega (arith, x.0))

first_back : (r : ℕ → Term) (ds : List Literal) (pivots : Pivots) (slot : Slot) (rest : List Slot) (p : ℕ) (d : Literal) (picks : List ℕ) → slice_get ds p ≡ Some d → Fits r ds pivots (slot ∷ rest) (p ∷ picks) → FitsAfter ds pivots slot.literal d rest r picks
first_back r ds pivots slot rest p d picks at (inl q) = moved r ds pivots slot rest p p d picks at refl q
first_back r ds pivots slot rest p d picks at (inr q) = absurd (past ds p p d at q.0 (omega arith))

pub first_found : (frozen : ℕ) (ds : List Literal) (pivots : Pivots) (slot : Slot) (rest : List Slot) (s : List (Option Term)) (p : ℕ) (d : Literal) (found all : Found) → all.picks ≡ p ∷ found.picks → all.bindings ≡ found.bindings → slice_get ds p ≡ Some d → NoneBelow frozen ds pivots slot rest s p → LeastExtension frozen (FitsAfter ds pivots slot.literal d rest) s found.picks found.bindings.terms → LeastExtension frozen (λ r qs. Fits r ds pivots (slot ∷ rest) qs) s all.picks all.bindings.terms
first_found frozen ds pivots slot rest s p d found all e g at none l =
    subst (λ z. LeastExtension frozen (λ r qs. Fits r ds pivots (slot ∷ rest) qs) s z all.bindings.terms) (sym e)
    (subst (λ z. LeastExtension frozen (λ r qs. Fits r ds pivots (slot ∷ rest) qs) s (p ∷ found.picks) z.terms) (sym g) (record {
      long = l.long;
      sound = l.sound;
      extended = record {
        forth = λ r f h. let w = l.extended.forth r f h in (w.0, inl ((d, at, w.1.0), w.1.1));
        back = λ r f h q. l.extended.back r f h (first_back r ds pivots slot rest p d found.picks at q);
      };
      least = first_lowest frozen ds pivots slot rest s found.bindings.terms p d found.picks at none l;
    }))

pub none_more : (frozen : ℕ) (ds : List Literal) (pivots : Pivots) (slot : Slot) (rest : List Slot) (s : List (Option Term)) (p : ℕ) (d : Literal) → slice_get ds p ≡ Some d → NoneBelow frozen ds pivots slot rest s p → NoneExtends frozen (FitsAfter ds pivots slot.literal d rest) s → NoneBelow frozen ds pivots slot rest s (p + 1)
none_more frozen ds pivots slot rest s p d at none here q e l x = elim (or_equal q p l) [
  | inl y ↦ none q e y x
  | inr y ↦ subst (λ z. NoneExtends frozen (FitsAfter ds pivots slot.literal z rest) s) (same_item ds p e d (ap (slice_get ds) (sym y) ∙ x) at) here
]

pub none_at_literal : (frozen : ℕ) (ds : List Literal) (pivots : Pivots) (slot : Slot) (rest : List Slot) (s : List (Option Term)) (p : ℕ) → length ds ≤ p → NoneBelow frozen ds pivots slot rest s p → IsFoundAtLiteral frozen ds pivots slot rest s None
none_at_literal frozen ds pivots slot rest s p l none q d at = none q d (let a = slice_get_within ds q d at in omega arith) at

-- ---- the pivot, where no literal of the target works

pub none_at_all : (frozen : ℕ) (ds : List Literal) (pivots : Pivots) (slot : Slot) (rest : List Slot) (s : List (Option Term)) → IsFoundAtLiteral frozen ds pivots slot rest s None → NoneExtends frozen (FitsAsPivot ds pivots slot rest) s → NoneExtends frozen (λ r qs. Fits r ds pivots (slot ∷ rest) qs) s
none_at_all frozen ds pivots slot rest s none here [] r f h q = q
none_at_all frozen ds pivots slot rest s none here (k ∷ qs) r f h (inl q) = none k q.0.0 q.0.1 qs r f h (q.0.2, q.1)
none_at_all frozen ds pivots slot rest s none here (k ∷ qs) r f h (inr q) = here qs r f h (q.1, q.2, q.3)

pivot_lowest : (frozen : ℕ) (ds : List Literal) (pivots : Pivots) (slot : Slot) (rest : List Slot) (s n : List (Option Term)) (picks : List ℕ) → IsFoundAtLiteral frozen ds pivots slot rest s None → LeastExtension frozen (FitsAsPivot ds pivots slot rest) s picks n → (qs : List ℕ) (r : ℕ → Term) → Fixes frozen r → Refines s r → Fits r ds pivots (slot ∷ rest) qs → IsListBefore qs (length ds ∷ picks) → ⊥
pivot_lowest frozen ds pivots slot rest s n picks none l [] r f h q b = b
pivot_lowest frozen ds pivots slot rest s n picks none l (k ∷ qs) r f h (inl q) b = none k q.0.0 q.0.1 qs r f h (q.0.2, q.1)
pivot_lowest frozen ds pivots slot rest s n picks none l (k ∷ qs) r f h (inr q) (inl x) = let e = q.0 in absurd (omega arith)
pivot_lowest frozen ds pivots slot rest s n picks none l (k ∷ qs) r f h (inr q) (inr x) = l.least qs r f h (q.1, q.2, q.3) x.1

pivot_back : (frozen : ℕ) (r : ℕ → Term) (ds : List Literal) (pivots : Pivots) (slot : Slot) (rest : List Slot) (picks : List ℕ) → Fits r ds pivots (slot ∷ rest) (length ds ∷ picks) → FitsAsPivot ds pivots slot rest r picks
pivot_back frozen r ds pivots slot rest picks (inl q) = absurd (past ds (length ds) (length ds) q.0.0 q.0.1 refl (omega arith))
pivot_back frozen r ds pivots slot rest picks (inr q) = (q.1, q.2, q.3)

pub pivot_found : (frozen : ℕ) (ds : List Literal) (pivots : Pivots) (slot : Slot) (rest : List Slot) (s : List (Option Term)) (found all : Found) → all.picks ≡ length ds ∷ found.picks → all.bindings ≡ found.bindings → IsFoundAtLiteral frozen ds pivots slot rest s None → LeastExtension frozen (FitsAsPivot ds pivots slot rest) s found.picks found.bindings.terms → LeastExtension frozen (λ r qs. Fits r ds pivots (slot ∷ rest) qs) s all.picks all.bindings.terms
pivot_found frozen ds pivots slot rest s found all e g none l =
    subst (λ z. LeastExtension frozen (λ r qs. Fits r ds pivots (slot ∷ rest) qs) s z all.bindings.terms) (sym e)
    (subst (λ z. LeastExtension frozen (λ r qs. Fits r ds pivots (slot ∷ rest) qs) s (length ds ∷ found.picks) z.terms) (sym g) (record {
      long = l.long;
      sound = l.sound;
      extended = record {
        forth = λ r f h. let w = l.extended.forth r f h in (w.0, inr (refl, w.1.0, w.1.1, w.1.2));
        back = λ r f h q. l.extended.back r f h (pivot_back frozen r ds pivots slot rest found.picks q);
      };
      least = pivot_lowest frozen ds pivots slot rest s found.bindings.terms found.picks none l;
    }))

-- ---- variables below a number

pub below_first : (n : ℕ) (slots : List Slot) (slot : Slot) (rest : List Slot) → slots ≡ slot ∷ rest → SlotsBelow n slots → EachBelow n slot.literal.args
below_first n slots slot rest e b = (subst (SlotsBelow n) e b) 0 slot (omega arith)

pub below_rest : (n : ℕ) (slots : List Slot) (slot : Slot) (rest : List Slot) → slots ≡ slot ∷ rest → SlotsBelow n slots → SlotsBelow n rest
below_rest n slots slot rest e b k d l = (subst (SlotsBelow n) e b) (suc k) d (omega arith)

pub below_item : (n : ℕ) (ds : List Literal) (p : ℕ) (d : Literal) → d ≡ get_or ds p d → p < length ds → LiteralsBelow n ds → EachBelow n d.args
below_item n ds p d e l b = subst (λ z. EachBelow n z.args) (sym e) (b p d l)

below_after_sign : (n : ℕ) (first : Option Literal) (pivots : Pivots) (sign : Bool) → PivotsBelow n first → PivotsBelow n (after_sign sign first pivots).first
below_after_sign n first pivots true b = b
below_after_sign n first pivots false b = b

below_first_pivot : (n : ℕ) (first : Option Literal) (c : Literal) → PivotsBelow n first → EachBelow n c.args → PivotsBelow n (first_pivot first c)
below_first_pivot n None c b l = l
below_first_pivot n (Some e) c b l = b

pub below_after : (n : ℕ) (pivots : Pivots) (c : Literal) → PivotsBelow n pivots.first → EachBelow n c.args → PivotsBelow n (after_pivot pivots c).first
below_after n pivots c b l = below_after_sign n (first_pivot pivots.first c) pivots c.positive (below_first_pivot n pivots.first c b l)

-- ---- the cases of a pivot

pub pivot_first : (frozen : ℕ) (ds : List Literal) (pivots next : Pivots) (slot : Slot) (rest : List Slot) (s : List (Option Term)) (o : Option Found) → slot.may_cut ≡ true → pivots.first ≡ None → next ≡ after_pivot pivots slot.literal → IsFound frozen (λ r qs. Fits r ds next rest qs) s o → IsFound frozen (FitsAsPivot ds pivots slot rest) s o
pivot_first frozen ds pivots next slot rest s o may e g found =
    found_along frozen (λ r qs. Fits r ds next rest qs) (FitsAsPivot ds pivots slot rest) s o
    (λ r qs q. (may, subst (λ z. SamePivot r z slot.literal) (sym e) tt, subst (λ z. Fits r ds z rest qs) g q))
    (λ r qs q. subst (λ z. Fits r ds z rest qs) (sym g) q.2) found

pub pivot_again : (frozen : ℕ) (ds : List Literal) (pivots next : Pivots) (slot : Slot) (first : Literal) (rest : List Slot) (s : List (Option Term)) (o : Option Found) → slot.may_cut ≡ true → pivots.first ≡ Some first → next ≡ after_pivot pivots slot.literal → IsFound frozen (λ r qs. SameAtom r slot.literal first × Fits r ds next rest qs) s o → IsFound frozen (FitsAsPivot ds pivots slot rest) s o
pivot_again frozen ds pivots next slot first rest s o may e g found =
    found_along frozen (λ r qs. SameAtom r slot.literal first × Fits r ds next rest qs) (FitsAsPivot ds pivots slot rest) s o
    (λ r qs q. (may, subst (λ z. SamePivot r z slot.literal) (sym e) q.0, subst (λ z. Fits r ds z rest qs) g q.1))
    (λ r qs q. (subst (λ z. SamePivot r z slot.literal) e q.1, subst (λ z. Fits r ds z rest qs) (sym g) q.2)) found

pub after_signs : (frozen : ℕ) (ds : List Literal) (pivots : Pivots) (c d : Literal) (rest : List Slot) (s : List (Option Term)) (o : Option Found) → c.positive ≡ d.positive → IsFound frozen (λ r qs. SameAtom r c d × Fits r ds pivots rest qs) s o → IsFound frozen (FitsAfter ds pivots c d rest) s o
after_signs frozen ds pivots c d rest s o e found =
    found_along frozen (λ r qs. SameAtom r c d × Fits r ds pivots rest qs) (FitsAfter ds pivots c d rest) s o
    (λ r qs q. ((e, q.0), q.1)) (λ r qs q. (q.0.1, q.1)) found

-- the answer of the search for the literals, by the answer's two cases
pub at_some : (frozen : ℕ) (ds : List Literal) (pivots : Pivots) (slots : List Slot) (slot : Slot) (rest : List Slot) (s : List (Option Term)) (o : Option Found) (f : Found) → slots ≡ slot ∷ rest → o ≡ Some f → IsFoundAtLiteral frozen ds pivots slot rest s o → LeastExtension frozen (λ r qs. Fits r ds pivots slots qs) s f.picks f.bindings.terms
at_some frozen ds pivots slots slot rest s o f e g found =
    subst (λ z. LeastExtension frozen (λ r qs. Fits r ds pivots z qs) s f.picks f.bindings.terms) (sym e) (subst (IsFoundAtLiteral frozen ds pivots slot rest s) g found)

pub at_pivot : (frozen : ℕ) (ds : List Literal) (pivots : Pivots) (slots : List Slot) (slot : Slot) (rest : List Slot) (s : List (Option Term)) (o cut : Option Found) (found all : Found) → slots ≡ slot ∷ rest → o ≡ None → cut ≡ Some found → all.picks ≡ length ds ∷ found.picks → all.bindings ≡ found.bindings → IsFoundAtLiteral frozen ds pivots slot rest s o → IsFound frozen (FitsAsPivot ds pivots slot rest) s cut → LeastExtension frozen (λ r qs. Fits r ds pivots slots qs) s all.picks all.bindings.terms
at_pivot frozen ds pivots slots slot rest s o cut found all e g h p q none here =
    subst (λ z. LeastExtension frozen (λ r qs. Fits r ds pivots z qs) s all.picks all.bindings.terms) (sym e)
    (pivot_found frozen ds pivots slot rest s found all p q (subst (IsFoundAtLiteral frozen ds pivots slot rest s) g none) (subst (IsFound frozen (FitsAsPivot ds pivots slot rest) s) h here))

pub at_neither : (frozen : ℕ) (ds : List Literal) (pivots : Pivots) (slots : List Slot) (slot : Slot) (rest : List Slot) (s : List (Option Term)) (o cut : Option Found) → slots ≡ slot ∷ rest → o ≡ None → cut ≡ None → IsFoundAtLiteral frozen ds pivots slot rest s o → IsFound frozen (FitsAsPivot ds pivots slot rest) s cut → NoneExtends frozen (λ r qs. Fits r ds pivots slots qs) s
at_neither frozen ds pivots slots slot rest s o cut e g h none here =
    subst (λ z. NoneExtends frozen (λ r qs. Fits r ds pivots z qs) s) (sym e)
    (none_at_all frozen ds pivots slot rest s (subst (IsFoundAtLiteral frozen ds pivots slot rest s) g none) (subst (IsFound frozen (FitsAsPivot ds pivots slot rest) s) h here))
