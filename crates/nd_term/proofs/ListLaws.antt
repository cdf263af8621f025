-- Laws of lists with entries: what is picked at places, and the parts of a list with a property.
use Rattle.std.proofs.Common.{ℕ, List, [], ◌∷◌, ◌++◌}
use Rattle.dk_syntax.specs.Lists.{Each, Entry, Every, each_cons, each_nil, entry_here, entry_later, every_cons, every_nil}
use Rattle.lp_term.specs.LambdaPi.{Term}
use Rattle.nd_term.specs.Instances.{at_place, pick}

pub each_at : {A : Type 0} {r : A → Term → Type 0} {l : List A} {m : List Term} {k : ℕ} {a : A} → Each r l m → Entry l k a → r a (at_place m k)
each_at each_nil i = elim i [ ]
each_at (each_cons j h) (entry_here a l) = j
each_at (each_cons j h) (entry_later b i) = each_at h i

pub each_pick : {A : Type 0} {r : A → Term → Type 0} {d c : List A} {lv : List Term} {ks : List ℕ} → Each r d lv → Each (λ l k. Entry d k l) c ks → Each r c (pick lv ks)
each_pick h each_nil = each_nil
each_pick h (each_cons i j) = each_cons (each_at h i) (each_pick h j)

-- what each element of two lists in a row has
pub every_parts : {A : Type 0} {p : A → Type 0} (l m : List A) → Every p (l ++ m) → Every p l × Every p m
every_parts [] m h = (every_nil, h)
every_parts (a ∷ l) m (every_cons h hs) = let rest = every_parts l m hs in (every_cons h rest.0, rest.1)

-- what has one property has another that follows from it
pub every_along : {A : Type 0} {p q : A → Type 0} {l : List A} → ((a : A) → p a → q a) → Every p l → Every q l
every_along f every_nil = every_nil
every_along f (every_cons {a = a} h hs) = every_cons (f a h) (every_along f hs)
