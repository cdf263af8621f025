-- Picks fit with all variables in one row exactly where they fit with the variables of two clauses apart.
use Rattle.std.proofs.Common.{◌≡◌, ◌≤◌, ◌<◌, ◌+◌, ◌-◌, ℕ, zero, suc, Bool, true, false, List, [], ◌∷◌, map, Option, Some, slice_get, subst, arith, refl, sym, ap, ◌∙◌, inl, inr}
use Rattle.std.specs.Prelude.{if◌then◌else◌, nat_lt, not}
use Rattle.std.specs.List.{Contains}
use Rattle.std.proofs.lemmas.Bool.Decides.{nat_tests}
use Rattle.std.proofs.lemmas.Option.{slice_get_within, get_or_from_slice_get}
use Rattle.dk_syntax.specs.declared.Literal.{Literal}
use Rattle.dk_syntax.specs.declared.SymKey.{SymKey}
use Rattle.dk_syntax.specs.declared.Term.{Term}
use Rattle.dk_syntax.specs.declared.Term.TheVariants.{Var}
use Rattle.unifier.specs.Substitution.{Fixes}
use Rattle.dk_syntax.specs.Terms.{any_true, EachBelow, has_variable, instance, substituted}
use Rattle.dk_syntax.proofs.SubstitutionLaws.{substituted-Var, agree, after, same}
use Rattle.std.proofs.lemmas.Bool.{or_left, or_right}
use Rattle.step_clause.specs.declared.slots.Pivots.{Pivots}
use Rattle.step_clause.specs.declared.slots.Side.{Side}
use Rattle.step_clause.specs.declared.slots.Side.TheVariants.{Kept, Positive, Negative}
use Rattle.step_clause.specs.declared.slots.Slot.{Slot}
use Rattle.step_clause.specs.Candidates.{Subsumes}
use Rattle.step_clause.specs.Justifications.{LiteralsBelow}
use Rattle.step_clause.specs.Search.{AtPick, after_sign, Fits}
use Rattle.step_clause.specs.Slots.{raising, may_cut, slot_of}

-- what a substitution of all variables gives to those from k on
abbrev pub part : ℕ → (ℕ → Term) → ℕ → Term
part k r j = r (k + j)

-- ---- terms and literals

pub raised_terms : (k : ℕ) (r : ℕ → Term) (xs : List Term) → map (substituted r) (map (substituted (raising k)) xs) ≡ map (substituted (part k r)) xs
raised_terms k r [] = refl
raised_terms k r (x ∷ xs) =
    let a = after r (raising k) x ∙ agree (λ j. substituted r (raising k j)) (part k r) x (λ j e. substituted-Var r (k + j)) in
    let b = raised_terms k r xs in cc

pub fixed_terms : (n : ℕ) (r : ℕ → Term) → Fixes n r → (xs : List Term) → EachBelow n xs → map (substituted r) xs ≡ xs
fixed_terms n r f [] b = refl
fixed_terms n r f (x ∷ xs) b =
    let a = agree r Var x (λ j e. f j (b j (or_left (has_variable j x) (any_true (map (has_variable j) xs)) e))) ∙ same x in
    let c = fixed_terms n r f xs (λ j e. b j (or_right (has_variable j x) (any_true (map (has_variable j) xs)) e)) in cc

pub agreeing_terms : (n : ℕ) (s t : ℕ → Term) → ((j : ℕ) → j < n → s j ≡ t j) → (xs : List Term) → EachBelow n xs → map (substituted s) xs ≡ map (substituted t) xs
agreeing_terms n s t h [] b = refl
agreeing_terms n s t h (x ∷ xs) b =
    let a = agree s t x (λ j e. h j (b j (or_left (has_variable j x) (any_true (map (has_variable j) xs)) e))) in
    let c = agreeing_terms n s t h xs (λ j e. b j (or_right (has_variable j x) (any_true (map (has_variable j) xs)) e)) in cc

pub literal_of : (c d : Literal) → c.positive ≡ d.positive → c.pred ≡ d.pred → c.args ≡ d.args → c ≡ d
literal_of c d p q a =
    let first : c ≡ record { positive = d.positive; pred = c.pred; args = c.args } = ap (λ z. record c { positive = z }) p in
    let second : record { positive = d.positive; pred = c.pred; args = c.args } ≡ record { positive = d.positive; pred = d.pred; args = c.args } = ap (λ z. record d { pred = z; args = c.args }) q in
    let third : record { positive = d.positive; pred = d.pred; args = c.args } ≡ d = ap (λ z. record d { args = z }) a in
    first ∙ second ∙ third

-- the literal at a pick, with variables in one row and apart
pub pick_apart : (n k : ℕ) (r : ℕ → Term) → Fixes n r → (ds : List Literal) → LiteralsBelow n ds → (side : Side) (c : Literal) (p : ℕ) → AtPick r ds (slot_of k side c).literal p → slice_get ds p ≡ Some (instance (part k r) c)
pick_apart n k r f ds b side c p q =
    let low : EachBelow n q.0.args = subst (λ z. EachBelow n z.args) (get_or_from_slice_get ds p q.0 q.0 q.1) (b p q.0 (slice_get_within ds p q.0 q.1)) in
    let args : map (substituted (part k r)) c.args ≡ q.0.args = sym (raised_terms k r c.args) ∙ q.2.1.1 ∙ fixed_terms n r f q.0.args low in
    q.1 ∙ ap Some (sym (literal_of (instance (part k r) c) q.0 q.2.0 q.2.1.0 args))

pub pick_together : (n k : ℕ) (r : ℕ → Term) → Fixes n r → (ds : List Literal) → LiteralsBelow n ds → (side : Side) (c : Literal) (p : ℕ) → slice_get ds p ≡ Some (instance (part k r) c) → AtPick r ds (slot_of k side c).literal p
pick_together n k r f ds b side c p at =
    let d = instance (part k r) c in
    let low : EachBelow n d.args = subst (λ z. EachBelow n z.args) (get_or_from_slice_get ds p d d at) (b p d (slice_get_within ds p d at)) in
    (d, at, (refl, (refl, raised_terms k r c.args ∙ sym (fixed_terms n r f d.args low))))

-- ---- a subsuming clause

pub subsumes_apart : (n k : ℕ) (r : ℕ → Term) → Fixes n r → (ds : List Literal) → LiteralsBelow n ds → (w : Pivots) (cs : List Literal) (ps : List ℕ) → Fits r ds w (map (slot_of k Kept) cs) ps → Subsumes (part k r) ds cs ps
subsumes_apart n k r f ds b w [] [] q = tt
subsumes_apart n k r f ds b w [] (p ∷ ps) q = q
subsumes_apart n k r f ds b w (c ∷ cs) [] q = q
subsumes_apart n k r f ds b w (c ∷ cs) (p ∷ ps) (inl q) = (pick_apart n k r f ds b Kept c p q.0, subsumes_apart n k r f ds b w cs ps q.1)
subsumes_apart n k r f ds b w (c ∷ cs) (p ∷ ps) (inr q) = absurd (let e = q.1 in cc)

pub subsumes_together : (n k : ℕ) (r : ℕ → Term) → Fixes n r → (ds : List Literal) → LiteralsBelow n ds → (w : Pivots) → w.wants_positive ≡ false → w.wants_negative ≡ false → (cs : List Literal) (ps : List ℕ) → Subsumes (part k r) ds cs ps → Fits r ds w (map (slot_of k Kept) cs) ps
subsumes_together n k r f ds b w x y [] [] q = (x, y)
subsumes_together n k r f ds b w x y [] (p ∷ ps) q = q
subsumes_together n k r f ds b w x y (c ∷ cs) [] q = q
subsumes_together n k r f ds b w x y (c ∷ cs) (p ∷ ps) q = inl (pick_together n k r f ds b Kept c p q.0, subsumes_together n k r f ds b w x y cs ps q.1)

pub instance_agrees : (v : ℕ) (t u : ℕ → Term) → ((j : ℕ) → j < v → t j ≡ u j) → (c : Literal) → EachBelow v c.args → instance t c ≡ instance u c
instance_agrees v t u h c b = ap (λ z. record c { args = z }) (agreeing_terms v t u h c.args b)

pub first_below : (v : ℕ) (c : Literal) (cs : List Literal) → LiteralsBelow v (c ∷ cs) → EachBelow v c.args
first_below v c cs b = b 0 c (omega arith)

pub rest_below : (v : ℕ) (c : Literal) (cs : List Literal) → LiteralsBelow v (c ∷ cs) → LiteralsBelow v cs
rest_below v c cs b k d l = b (suc k) d (omega arith)

pub subsumes_agrees : (v : ℕ) (t u : ℕ → Term) → ((j : ℕ) → j < v → t j ≡ u j) → (ds cs : List Literal) → LiteralsBelow v cs → (ps : List ℕ) → Subsumes t ds cs ps → Subsumes u ds cs ps
subsumes_agrees v t u h ds [] b [] q = q
subsumes_agrees v t u h ds [] b (p ∷ ps) q = q
subsumes_agrees v t u h ds (c ∷ cs) b [] q = q
subsumes_agrees v t u h ds (c ∷ cs) b (p ∷ ps) q =
    (q.0 ∙ ap Some (instance_agrees v t u h c (first_below v c cs b)), subsumes_agrees v t u h ds cs (rest_below v c cs b) ps q.1)

-- ---- substitutions of two clauses as one of all variables

abbrev pub joined : ℕ → ℕ → (ℕ → Term) → (ℕ → Term) → ℕ → Term
joined n v t u k = if nat_lt k n then Var k else (if nat_lt k (n + v) then t (k - n) else u (k - (n + v)))

is_lower : (k n : ℕ) → k < n → nat_lt k n ≡ true
is_lower k n l = grind (arith, nat_tests)

is_not_lower : (k n : ℕ) → n ≤ k → nat_lt k n ≡ false
is_not_lower k n l = grind (arith, nat_tests)

pub joined_fixes : (n v : ℕ) (t u : ℕ → Term) → Fixes n (joined n v t u)
joined_fixes n v t u k l = ap (λ b. if b then Var k else (if nat_lt k (n + v) then t (k - n) else u (k - (n + v)))) (is_lower k n l)

pub joined_first : (n v : ℕ) (t u : ℕ → Term) (j : ℕ) → j < v → part n (joined n v t u) j ≡ t j
joined_first n v t u j l =
    ap (λ b. if b then Var (n + j) else (if nat_lt (n + j) (n + v) then t ((n + j) - n) else u ((n + j) - (n + v)))) (is_not_lower (n + j) n (omega arith))
    ∙ ap (λ b. if b then t ((n + j) - n) else u ((n + j) - (n + v))) (is_lower (n + j) (n + v) (omega arith))
    ∙ ap t (let e : (n + j) - n ≡ j = omega arith in e)

pub joined_second : (n v : ℕ) (t u : ℕ → Term) (j : ℕ) → part (n + v) (joined n v t u) j ≡ u j
joined_second n v t u j =
    ap (λ b. if b then Var (n + v + j) else (if nat_lt (n + v + j) (n + v) then t ((n + v + j) - n) else u ((n + v + j) - (n + v)))) (is_not_lower (n + v + j) n (omega arith))
    ∙ ap (λ b. if b then t ((n + v + j) - n) else u ((n + v + j) - (n + v))) (is_not_lower (n + v + j) (n + v) (omega arith))
    ∙ ap u (let e : (n + v + j) - (n + v) ≡ j = omega arith in e)

-- ---- two clauses with pivots

abbrev pub side_of : Bool → Side
side_of true = Positive
side_of false = Negative

abbrev pub wants : Bool → Pivots → Bool
wants true w = w.wants_positive
wants false w = w.wants_negative

abbrev pub signed : Bool → SymKey → List Term → Literal
signed sign p xs = record { positive = sign; pred = p; args = xs }

abbrev pub slots_of : ℕ → Bool → List Literal → List Slot
slots_of k sign cs = map (slot_of k (side_of sign)) cs

pub cut_sign : (sign b : Bool) → may_cut (side_of sign) b ≡ true → b ≡ sign
cut_sign true true e = refl
cut_sign true false e = absurd (cc)
cut_sign false true e = absurd (cc)
cut_sign false false e = refl

pub may_be_cut : (sign b : Bool) → b ≡ sign → may_cut (side_of sign) b ≡ true
may_be_cut true true e = refl
may_be_cut true false e = absurd (cc)
may_be_cut false true e = absurd (cc)
may_be_cut false false e = refl

pub after_first : (sign b : Bool) (first : Option Literal) (w : Pivots) → (after_sign b first w).first ≡ first
after_first sign true first w = refl
after_first sign false first w = refl

pub after_wants : (sign b : Bool) (first : Option Literal) (w : Pivots) → b ≡ sign → wants sign (after_sign b first w) ≡ false
after_wants true true first w e = refl
after_wants true false first w e = absurd (cc)
after_wants false true first w e = absurd (cc)
after_wants false false first w e = refl

pub after_other : (sign b : Bool) (first : Option Literal) (w : Pivots) → b ≡ sign → wants (not sign) (after_sign b first w) ≡ wants (not sign) w
after_other true true first w e = refl
after_other true false first w e = absurd (cc)
after_other false true first w e = absurd (cc)
after_other false false first w e = refl

pub contains_here : (p : ℕ) (ps : List ℕ) (n : ℕ) → p ≡ n → Contains (p ∷ ps) n
contains_here p ps n e = (0, omega arith, e)

pub contains_there : (p : ℕ) (ps : List ℕ) (n : ℕ) → Contains ps n → Contains (p ∷ ps) n
contains_there p ps n h = (suc h.0, (let a = h.1 in omega arith), h.2)

pub contains_rest : (p : ℕ) (ps : List ℕ) (n : ℕ) → (p ≡ n → ⊥) → Contains (p ∷ ps) n → Contains ps n
contains_rest p ps n other (zero, l, e) = absurd (other e)
contains_rest p ps n other (suc k, l, e) = (k, omega arith, e)

pub contains_none : (n : ℕ) → Contains [] n → ⊥
contains_none n h = let a = h.1 in absurd (omega arith)
