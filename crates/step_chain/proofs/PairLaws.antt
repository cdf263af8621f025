-- The literals of two clauses in one list, and apart.
use Rattle.std.proofs.Common.{◌≡◌, ◌<◌, ◌≤◌, ℕ, zero, suc, ◌+◌, ◌-◌, Bool, true, false, not, List, [], ◌∷◌, ◌++◌, map, take, drop, length, refl, sym, ap, ap₂, ◌∙◌, arith}
use Rattle.std.specs.Prelude.{if◌then◌else◌, nat_lt}
use Rattle.std.proofs.lemmas.Bool.{or_left, or_right}
use Rattle.std.proofs.lemmas.Bool.Decides.{nat_tests}
use Rattle.dk_syntax.proofs.SubstitutionLaws.{after, agree, comes_in_list, is_variable, substituted-Var}
use Rattle.dk_syntax.specs.Terms.{any_true, EachBelow, has_variable, instance, substituted}
use Rattle.dk_syntax.specs.declared.Clause.{Clause}
use Rattle.dk_syntax.specs.declared.Literal.{Literal}
use Rattle.dk_syntax.specs.declared.SymKey.{SymKey}
use Rattle.dk_syntax.specs.declared.Term.{Term}
use Rattle.step_clause.specs.Justifications.{IsNumbered, LiteralsBelow}
use Rattle.step_chain.proofs.SameLiterals.{length_map, with_args}
use Rattle.step_chain.specs.declared.pair.Slot.{Slot}
use Rattle.step_chain.specs.Pairs.{AreAt, may_be_taken, raising, slot_of, slots_of, slots_of_both, SlotsBelow}
use Rattle.step_chain.specs.Resolvents.{AreTaken, AreUnified, signed}
use Rattle.step_chain.specs.Resolving.{slot_instance}

-- what a substitution of all variables gives to those from n on
abbrev pub part : ℕ → (ℕ → Term) → ℕ → Term
part n r j = r (n + j)

-- the first n variables by one substitution, and those from n on by the other
abbrev pub beside : ℕ → (ℕ → Term) → (ℕ → Term) → ℕ → Term
beside n t u k = if nat_lt k n then t k else u (k - n)

pub beside_first : (n : ℕ) (t u : ℕ → Term) (j : ℕ) → j < n → beside n t u (0 + j) ≡ t j
beside_first n t u j less =
    let e : 0 + j ≡ j = omega arith in
    ap (beside n t u) e ∙ ap (λ b. if b then t j else u (j - n)) (let w : nat_lt j n ≡ true = grind (arith, nat_tests) in w)

pub beside_second : (n : ℕ) (t u : ℕ → Term) (j : ℕ) → beside n t u (n + j) ≡ u j
beside_second n t u j =
    let e : (n + j) - n ≡ j = omega arith in
    ap (λ b. if b then t (n + j) else u ((n + j) - n)) (let w : nat_lt (n + j) n ≡ false = grind (arith, nat_tests) in w) ∙ ap u e

-- ---- instances

raised_terms : (n : ℕ) (r : ℕ → Term) (xs : List Term) → map (substituted r) (map (substituted (raising n)) xs) ≡ map (substituted (part n r)) xs
raised_terms n r [] = refl
raised_terms n r (x ∷ xs) =
    ap₂ (λ y ys. y ∷ ys) (after r (raising n) x ∙ agree (λ j. substituted r (raising n j)) (part n r) x (λ j e. substituted-Var r (n + j))) (raised_terms n r xs)

raised_instance : (n : ℕ) (r : ℕ → Term) (sign : Bool) (l : Literal) → slot_instance r (slot_of n sign l) ≡ instance (part n r) l
raised_instance n r sign l = ap (with_args l) (raised_terms n r l.args)

pub instances_apart : (n : ℕ) (r : ℕ → Term) (sign : Bool) (ls : List Literal) → map (slot_instance r) (slots_of n sign ls) ≡ map (instance (part n r)) ls
instances_apart n r sign [] = refl
instances_apart n r sign (l ∷ ls) = ap₂ (λ y ys. y ∷ ys) (raised_instance n r sign l) (instances_apart n r sign ls)

agreeing_terms : (v : ℕ) (t u : ℕ → Term) → ((j : ℕ) → j < v → t j ≡ u j) → (xs : List Term) → EachBelow v xs → map (substituted t) xs ≡ map (substituted u) xs
agreeing_terms v t u h [] b = refl
agreeing_terms v t u h (x ∷ xs) b =
    ap₂ (λ y ys. y ∷ ys)
    (agree t u x (λ j e. h j (b j (or_left (has_variable j x) (any_true (map (has_variable j) xs)) e))))
    (agreeing_terms v t u h xs (λ j e. b j (or_right (has_variable j x) (any_true (map (has_variable j) xs)) e)))

-- ---- what is taken

sign_is : (sign b : Bool) → may_be_taken sign b ≡ true → b ≡ sign
sign_is true b h = h
sign_is false true h = absurd (let w : false ≡ true = h in cc)
sign_is false false h = refl

is_sign : (sign b : Bool) → b ≡ sign → may_be_taken sign b ≡ true
is_sign true b h = h
is_sign false b h = ap not h

literal_of : (c d : Literal) → c.positive ≡ d.positive → c.pred ≡ d.pred → c.args ≡ d.args → c ≡ d
literal_of c d p q a =
    let first : c ≡ signed d.positive c.pred c.args = ap (λ z. signed z c.pred c.args) p in
    let second : signed d.positive c.pred c.args ≡ signed d.positive d.pred c.args = ap (λ z. signed d.positive z c.args) q in
    let third : signed d.positive d.pred c.args ≡ d = ap (λ z. signed d.positive d.pred z) a in
    first ∙ second ∙ third

module _ (n v : ℕ) (r t : ℕ → Term) (same : (j : ℕ) → j < v → part n r j ≡ t j) (pred : SymKey) (args : List Term) (sign : Bool) where
  -- a literal that is taken with the pivot as its instance
  pub taken_at : (ls : List Literal) (taken : List Bool) → LiteralsBelow v ls → AreTaken t (signed sign pred args) ls taken → AreAt r pred args (slots_of n sign ls) taken
  taken_at [] [] b h = tt
  taken_at [] (c ∷ taken) b h = absurd h
  taken_at (l ∷ ls) [] b h = tt
  taken_at (l ∷ ls) (true ∷ taken) b h = (
    (
      is_sign sign l.positive (ap (λ z. z.positive) h.0),
      ap (λ z. z.pred) h.0,
      raised_terms n r l.args ∙ agreeing_terms v (part n r) t same l.args (b zero l (omega arith)) ∙ ap (λ z. z.args) h.0,
    ),
    taken_at ls taken (λ k d less. b (suc k) d (omega arith)) h.1,
  )
  taken_at (l ∷ ls) (false ∷ taken) b h = taken_at ls taken (λ k d less. b (suc k) d (omega arith)) h

module _ (n : ℕ) (r : ℕ → Term) (pred : SymKey) (args : List Term) (sign : Bool) where
  pub at_taken : (ls : List Literal) (taken : List Bool) → length taken ≡ length ls → AreAt r pred args (slots_of n sign ls) taken → AreTaken (part n r) (signed sign pred args) ls taken
  at_taken [] [] long h = tt
  at_taken [] (c ∷ taken) long h = absurd (omega arith)
  at_taken (l ∷ ls) [] long h = absurd (omega arith)
  at_taken (l ∷ ls) (true ∷ taken) long h = (
    literal_of (instance (part n r) l) (signed sign pred args) (sign_is sign l.positive h.0.0) h.0.1 (sym (raised_terms n r l.args) ∙ h.0.2),
    at_taken ls taken (omega arith) h.1,
  )
  at_taken (l ∷ ls) (false ∷ taken) long h = at_taken ls taken (omega arith) h

module _ (r : ℕ → Term) (pred : SymKey) (args : List Term) where
  pub at_both : (xs ys : List Slot) (taken others : List Bool) → length taken ≡ length xs → AreAt r pred args xs taken → AreAt r pred args ys others → AreAt r pred args (xs ++ ys) (taken ++ others)
  at_both [] ys [] others long h k = k
  at_both [] ys (b ∷ taken) others long h k = absurd (omega arith)
  at_both (x ∷ xs) ys [] others long h k = absurd (omega arith)
  at_both (x ∷ xs) ys (true ∷ taken) others long h k = (h.0, at_both xs ys taken others (omega arith) h.1 k)
  at_both (x ∷ xs) ys (false ∷ taken) others long h k = at_both xs ys taken others (omega arith) h k

  pub at_first : (xs ys : List Slot) (taken others : List Bool) → length taken ≡ length xs → AreAt r pred args (xs ++ ys) (taken ++ others) → AreAt r pred args xs taken
  at_first [] ys taken others long h = tt
  at_first (x ∷ xs) ys [] others long h = tt
  at_first (x ∷ xs) ys (true ∷ taken) others long h = (h.0, at_first xs ys taken others (omega arith) h.1)
  at_first (x ∷ xs) ys (false ∷ taken) others long h = at_first xs ys taken others (omega arith) h

  pub at_second : (xs ys : List Slot) (taken others : List Bool) → length taken ≡ length xs → AreAt r pred args (xs ++ ys) (taken ++ others) → AreAt r pred args ys others
  at_second [] ys [] others long h = h
  at_second [] ys (b ∷ taken) others long h = absurd (omega arith)
  at_second (x ∷ xs) ys [] others long h = absurd (omega arith)
  at_second (x ∷ xs) ys (true ∷ taken) others long h = at_second xs ys taken others (omega arith) h.1
  at_second (x ∷ xs) ys (false ∷ taken) others long h = at_second xs ys taken others (omega arith) h

-- two clauses' literals unified by two substitutions are at one atom by both in one
pub unified_at : (first second : Clause) (sign : Bool) (taken others : List Bool) (t u : ℕ → Term) → IsNumbered first → IsNumbered second → (h : AreUnified sign first second taken others t u)
    → length taken ≡ length first.lits → AreAt (beside first.vars t u) h.0 h.1 (slots_of_both first second sign) (taken ++ others)
unified_at first second sign taken others t u n n' h long =
    let r = beside first.vars t u in
    at_both r h.0 h.1 (slots_of 0 sign first.lits) (slots_of first.vars (not sign) second.lits) taken others (long ∙ sym (length_map (slot_of 0 sign) first.lits))
    (taken_at 0 first.vars r t (beside_first first.vars t u) h.0 h.1 sign first.lits taken n h.2)
    (taken_at first.vars second.vars r u (λ j less. beside_second first.vars t u j) h.0 h.1 (not sign) second.lits others n' h.3)

-- ---- variables below a number

raised_below : (n v m : ℕ) → n + v ≤ m → (xs : List Term) → EachBelow v xs → EachBelow m (map (substituted (raising n)) xs)
raised_below n v m less xs b k e =
    let w = comes_in_list (raising n) k xs e in
    let i = is_variable (n + w.0) k (raising n w.0) refl w.2 in
    let low = b w.0 w.1 in omega arith

slots_below : (n v m : ℕ) → n + v ≤ m → (sign : Bool) (ls : List Literal) → LiteralsBelow v ls → SlotsBelow m (slots_of n sign ls)
slots_below n v m less sign [] b k d low = absurd (omega arith)
slots_below n v m less sign (l ∷ ls) b zero d low = raised_below n v m less l.args (b zero l (omega arith))
slots_below n v m less sign (l ∷ ls) b (suc k) d low = slots_below n v m less sign ls (λ j e w. b (suc j) e (omega arith)) k d (omega arith)

both_below : (m : ℕ) (xs ys : List Slot) → SlotsBelow m xs → SlotsBelow m ys → SlotsBelow m (xs ++ ys)
both_below m [] ys b b' k d low = b' k d low
both_below m (x ∷ xs) ys b b' zero d low = b zero x (omega arith)
both_below m (x ∷ xs) ys b b' (suc k) d low = both_below m xs ys (λ j e w. b (suc j) e (omega arith)) b' k d (omega arith)

pub pair_below : (first second : Clause) (sign : Bool) → IsNumbered first → IsNumbered second → SlotsBelow (first.vars + second.vars) (slots_of_both first second sign)
pair_below first second sign n n' =
    both_below (first.vars + second.vars) (slots_of 0 sign first.lits) (slots_of first.vars (not sign) second.lits)
    (slots_below 0 first.vars (first.vars + second.vars) (omega arith) sign first.lits n)
    (slots_below first.vars second.vars (first.vars + second.vars) (omega arith) (not sign) second.lits n')

-- ---- fronts and ends

pub front : {A : Type 0} (xs ys : List A) (n : ℕ) → length xs ≡ n → take n (xs ++ ys) ≡ xs
front [] ys zero e = refl
front [] ys (suc n) e = absurd (omega arith)
front (x ∷ xs) ys zero e = absurd (omega arith)
front (x ∷ xs) ys (suc n) e = ap (λ z. x ∷ z) (front xs ys n (omega arith))

pub back : {A : Type 0} (xs ys : List A) (n : ℕ) → length xs ≡ n → drop n (xs ++ ys) ≡ ys
back [] ys zero e = refl
back [] ys (suc n) e = absurd (omega arith)
back (x ∷ xs) ys zero e = absurd (omega arith)
back (x ∷ xs) ys (suc n) e = back xs ys n (omega arith)

pub both : {A : Type 0} (xs : List A) (n : ℕ) → take n xs ++ drop n xs ≡ xs
both [] zero = refl
both [] (suc n) = refl
both (x ∷ xs) zero = refl
both (x ∷ xs) (suc n) = ap (λ z. x ∷ z) (both xs n)
