-- Numbered forms that differ by order and grouping of And and Or alone; the numbers stay at their quantifiers.
use Rattle.std.proofs.Common.{◌≡◌, ℕ, suc, Bool, true, false, ◌||◌, List, [], ◌∷◌, ◌++◌, cond, refl, sym, ap₂, ◌∙◌, subst, append_assoc}
use Rattle.normal_form.specs.Forms.{free}
use Rattle.normal_form.specs.Sorting.{Numbered, yes, no, lit, and, or, all, ex, bare, form_order, is_after, inserted, in_order, conjuncts, disjuncts, nested, nested_all, sorted}

pub data Shuffled : Numbered → Numbered → Type 0 where
  stay : (a : Numbered) → Shuffled a a
  chain : (a b c : Numbered) → Shuffled a b → Shuffled b c → Shuffled a c
  swap_and : (a b : Numbered) → Shuffled (and a b) (and b a)
  turn_and : (a b c : Numbered) → Shuffled (and (and a b) c) (and a (and b c))
  in_and : (a b c d : Numbered) → Shuffled a c → Shuffled b d → Shuffled (and a b) (and c d)
  swap_or : (a b : Numbered) → Shuffled (or a b) (or b a)
  turn_or : (a b c : Numbered) → Shuffled (or (or a b) c) (or a (or b c))
  in_or : (a b c d : Numbered) → Shuffled a c → Shuffled b d → Shuffled (or a b) (or c d)
  in_all : (u : ℕ) (a b : Numbered) → Shuffled a b → Shuffled (all u a) (all u b)
  in_ex : (e : ℕ) (a b : Numbered) → Shuffled a b → Shuffled (ex e a) (ex e b)

-- what And and Or have in common
pub record Joins (join : Numbered → Numbered → Numbered) : Type 0 where
  pub swap : (a b : Numbered) → Shuffled (join a b) (join b a)
  pub turn : (a b c : Numbered) → Shuffled (join (join a b) c) (join a (join b c))
  pub both : (a b c d : Numbered) → Shuffled a c → Shuffled b d → Shuffled (join a b) (join c d)

pub joins_and : Joins and
joins_and = record { swap = swap_and; turn = turn_and; both = in_and }

pub joins_or : Joins or
joins_or = record { swap = swap_or; turn = turn_or; both = in_or }

pub on : {a b c : Numbered} → Shuffled a b → Shuffled b c → Shuffled a c
on {a} {b} {c} p q = chain a b c p q

either_way : (m : List Numbered → Numbered) (t : Bool) (l k : List Numbered) (z : Numbered) → Shuffled (m l) z → Shuffled (m k) z → Shuffled (m (cond t l k)) z
either_way m true l k z h w = h
either_way m false l k z h w = w

module _ (join : Numbered → Numbered → Numbered) (j : Joins join) where
  -- the other way round
  unturn : (a b c : Numbered) → Shuffled (join a (join b c)) (join (join a b) c)
  unturn a b c = on (j.swap a (join b c)) (on (j.turn b c a) (on (j.swap b (join c a)) (on (j.turn c a b) (j.swap c (join a b)))))

  exchange : (a b c : Numbered) → Shuffled (join (join a b) c) (join (join a c) b)
  exchange a b c = on (j.turn a b c) (on (j.both a (join b c) a (join c b) (stay a) (j.swap b c)) (unturn a c b))

  nested_on : (a c : Numbered) (l : List Numbered) → Shuffled a c → Shuffled (nested join a l) (nested join c l)
  nested_on a c [] h = h
  nested_on a c (b ∷ l) h = nested_on (join a b) (join c b) l (j.both a b c b h (stay b))

  nested_append : (a : Numbered) (l m : List Numbered) → nested join a (l ++ m) ≡ nested join (nested join a l) m
  nested_append a [] m = refl
  nested_append a (b ∷ l) m = nested_append (join a b) l m

  inserted_from : (b x : Numbered) (l : List Numbered) → Shuffled (nested join b (inserted x l)) (nested join b (x ∷ l))
  inserted_from b x [] = stay (join b x)
  inserted_from b x (c ∷ rest) =
      either_way (nested join b) (is_after (form_order (bare x) (bare c))) (c ∷ inserted x rest) (x ∷ c ∷ rest) (nested join b (x ∷ c ∷ rest))
      (on (inserted_from (join b c) x rest) (nested_on (join (join b c) x) (join (join b x) c) rest (exchange b c x)))
      (stay (nested join b (x ∷ c ∷ rest)))

  inserted_all : (x : Numbered) (l : List Numbered) → Shuffled (nested_all join (inserted x l)) (nested_all join (x ∷ l))
  inserted_all x [] = stay x
  inserted_all x (c ∷ rest) =
      either_way (nested_all join) (is_after (form_order (bare x) (bare c))) (c ∷ inserted x rest) (x ∷ c ∷ rest) (nested_all join (x ∷ c ∷ rest))
      (on (inserted_from c x rest) (nested_on (join c x) (join x c) rest (j.swap c x)))
      (stay (nested_all join (x ∷ c ∷ rest)))

  order_from : (b : Numbered) (l : List Numbered) → Shuffled (nested join b (in_order l)) (nested join b l)
  order_from b [] = stay b
  order_from b (a ∷ rest) = on (inserted_from b a (in_order rest)) (order_from (join b a) rest)

  pub order_all : (l : List Numbered) → Shuffled (nested_all join (in_order l)) (nested_all join l)
  order_all [] = stay yes
  order_all (a ∷ rest) = on (inserted_all a (in_order rest)) (order_from a rest)

pub back : {a b : Numbered} → Shuffled a b → Shuffled b a
back (stay a) = stay a
back (chain a b c p q) = chain c b a (back q) (back p)
back (swap_and a b) = swap_and b a
back (turn_and a b c) = unturn and joins_and a b c
back (in_and a b c d p q) = in_and c d a b (back p) (back q)
back (swap_or a b) = swap_or b a
back (turn_or a b c) = unturn or joins_or a b c
back (in_or a b c d p q) = in_or c d a b (back p) (back q)
back (in_all u a b p) = in_all u b a (back p)
back (in_ex e a b p) = in_ex e b a (back p)

conjuncts_from : (b a : Numbered) → Shuffled (nested and b (conjuncts a)) (and b a)
conjuncts_from b yes = stay (and b yes)
conjuncts_from b no = stay (and b no)
conjuncts_from b (lit l) = stay (and b (lit l))
conjuncts_from b (and c d) =
    subst (λ x. Shuffled x (and b (and c d))) (sym (nested_append and joins_and b (conjuncts c) (conjuncts d)))
    (on (conjuncts_from (nested and b (conjuncts c)) d) (on (in_and (nested and b (conjuncts c)) d (and b c) d (conjuncts_from b c) (stay d)) (turn_and b c d)))
conjuncts_from b (or c d) = stay (and b (or c d))
conjuncts_from b (all u c) = stay (and b (all u c))
conjuncts_from b (ex e c) = stay (and b (ex e c))

conjuncts_all : (a : Numbered) (l : List Numbered) → Shuffled (nested_all and (conjuncts a ++ l)) (nested and a l)
conjuncts_all yes l = stay (nested and yes l)
conjuncts_all no l = stay (nested and no l)
conjuncts_all (lit x) l = stay (nested and (lit x) l)
conjuncts_all (and c d) l =
    subst (λ x. Shuffled (nested_all and x) (nested and (and c d) l)) (sym (append_assoc (conjuncts c) (conjuncts d) l))
    (on (conjuncts_all c (conjuncts d ++ l))
    (subst (λ x. Shuffled x (nested and (and c d) l)) (sym (nested_append and joins_and c (conjuncts d) l))
    (nested_on and joins_and (nested and c (conjuncts d)) (and c d) l (conjuncts_from c d))))
conjuncts_all (or c d) l = stay (nested and (or c d) l)
conjuncts_all (all u c) l = stay (nested and (all u c) l)
conjuncts_all (ex e c) l = stay (nested and (ex e c) l)

disjuncts_from : (b a : Numbered) → Shuffled (nested or b (disjuncts a)) (or b a)
disjuncts_from b yes = stay (or b yes)
disjuncts_from b no = stay (or b no)
disjuncts_from b (lit l) = stay (or b (lit l))
disjuncts_from b (or c d) =
    subst (λ x. Shuffled x (or b (or c d))) (sym (nested_append or joins_or b (disjuncts c) (disjuncts d)))
    (on (disjuncts_from (nested or b (disjuncts c)) d) (on (in_or (nested or b (disjuncts c)) d (or b c) d (disjuncts_from b c) (stay d)) (turn_or b c d)))
disjuncts_from b (and c d) = stay (or b (and c d))
disjuncts_from b (all u c) = stay (or b (all u c))
disjuncts_from b (ex e c) = stay (or b (ex e c))

disjuncts_all : (a : Numbered) (l : List Numbered) → Shuffled (nested_all or (disjuncts a ++ l)) (nested or a l)
disjuncts_all yes l = stay (nested or yes l)
disjuncts_all no l = stay (nested or no l)
disjuncts_all (lit x) l = stay (nested or (lit x) l)
disjuncts_all (or c d) l =
    subst (λ x. Shuffled (nested_all or x) (nested or (or c d) l)) (sym (append_assoc (disjuncts c) (disjuncts d) l))
    (on (disjuncts_all c (disjuncts d ++ l))
    (subst (λ x. Shuffled x (nested or (or c d) l)) (sym (nested_append or joins_or c (disjuncts d) l))
    (nested_on or joins_or (nested or c (disjuncts d)) (or c d) l (disjuncts_from c d))))
disjuncts_all (and c d) l = stay (nested or (and c d) l)
disjuncts_all (all u c) l = stay (nested or (all u c) l)
disjuncts_all (ex e c) l = stay (nested or (ex e c) l)

-- a form and its sorted form
pub sorted_shuffled : (a : Numbered) → Shuffled (sorted a) a
sorted_shuffled yes = stay yes
sorted_shuffled no = stay no
sorted_shuffled (lit l) = stay (lit l)
sorted_shuffled (and a b) =
    on (order_all and joins_and (conjuncts (sorted a) ++ conjuncts (sorted b)))
    (on (conjuncts_all (sorted a) (conjuncts (sorted b)))
    (on (conjuncts_from (sorted a) (sorted b)) (in_and (sorted a) (sorted b) a b (sorted_shuffled a) (sorted_shuffled b))))
sorted_shuffled (or a b) =
    on (order_all or joins_or (disjuncts (sorted a) ++ disjuncts (sorted b)))
    (on (disjuncts_all (sorted a) (disjuncts (sorted b)))
    (on (disjuncts_from (sorted a) (sorted b)) (in_or (sorted a) (sorted b) a b (sorted_shuffled a) (sorted_shuffled b))))
sorted_shuffled (all u a) = in_all u (sorted a) a (sorted_shuffled a)
sorted_shuffled (ex e a) = in_ex e (sorted a) a (sorted_shuffled a)

or_swap : (a b : Bool) → (a || b) ≡ (b || a)
or_swap true true = refl
or_swap true false = refl
or_swap false true = refl
or_swap false false = refl

or_turn : (a b c : Bool) → ((a || b) || c) ≡ (a || (b || c))
or_turn true b c = refl
or_turn false b c = refl

-- they have the same free variables
pub free_shuffled : {a b : Numbered} → Shuffled a b → (k : ℕ) → free k (bare a) ≡ free k (bare b)
free_shuffled (stay a) k = refl
free_shuffled (chain a b c p q) k = free_shuffled p k ∙ free_shuffled q k
free_shuffled (swap_and a b) k = or_swap (free k (bare a)) (free k (bare b))
free_shuffled (turn_and a b c) k = or_turn (free k (bare a)) (free k (bare b)) (free k (bare c))
free_shuffled (in_and a b c d p q) k = ap₂ (λ x y. x || y) (free_shuffled p k) (free_shuffled q k)
free_shuffled (swap_or a b) k = or_swap (free k (bare a)) (free k (bare b))
free_shuffled (turn_or a b c) k = or_turn (free k (bare a)) (free k (bare b)) (free k (bare c))
free_shuffled (in_or a b c d p q) k = ap₂ (λ x y. x || y) (free_shuffled p k) (free_shuffled q k)
free_shuffled (in_all u a b p) k = free_shuffled p (suc k)
free_shuffled (in_ex e a b p) k = free_shuffled p (suc k)

-- what the order of forms gives: forms that are shuffled, or differ by their numbers alone, have one sorted form
abbrev pub SortingIsCanonical : Type 0
SortingIsCanonical =
    ((a b : Numbered) → bare a ≡ bare b → bare (sorted a) ≡ bare (sorted b)) × ((a b : Numbered) → Shuffled a b → bare (sorted a) ≡ bare (sorted b))
