-- What each element of lists has, of parts and of wholes.
use Rattle.std.proofs.Common.{List, [], ◌∷◌, ◌++◌, map}
use Rattle.dk_syntax.specs.Lists.{Every, every_cons, every_nil}

pub every_front : {A : Type 0} {p : A → Type 0} (l m : List A) → Every p (l ++ m) → Every p l
every_front [] m h = every_nil
every_front (a ∷ l) m (every_cons w ws) = every_cons w (every_front l m ws)

pub every_back : {A : Type 0} {p : A → Type 0} (l m : List A) → Every p (l ++ m) → Every p m
every_back [] m h = h
every_back (a ∷ l) m (every_cons w ws) = every_back l m ws

pub every_both : {A : Type 0} {p : A → Type 0} {l m : List A} → Every p l → Every p m → Every p (l ++ m)
every_both every_nil h = h
every_both (every_cons w ws) h = every_cons w (every_both ws h)

pub every_head : {A : Type 0} {p : A → Type 0} {a : A} {l : List A} → Every p (a ∷ l) → p a
every_head (every_cons w ws) = w

pub every_tail : {A : Type 0} {p : A → Type 0} {a : A} {l : List A} → Every p (a ∷ l) → Every p l
every_tail (every_cons w ws) = ws

pub every_map : {A B : Type 0} {p : A → Type 0} {q : B → Type 0} {l : List A} (f : A → B) → ((a : A) → p a → q (f a)) → Every p l → Every q (map f l)
every_map f w every_nil = every_nil
every_map f w (every_cons {a = a} i h) = every_cons (w a i) (every_map f w h)
