-- Laws of what each element of a list has.
use Rattle.std.proofs.Common.{◌≡◌, ℕ, List, [], ◌∷◌, ◌++◌, map, refl, ap, ◌∙◌}
use Rattle.dk_syntax.specs.Lists.{Entry, Every, entry_here, entry_later, every_cons, every_nil}

pub every_head : {A : Type 0} {p : A → Type 0} {a : A} {l : List A} → Every p (a ∷ l) → p a
every_head (every_cons h _) = h

pub every_tail : {A : Type 0} {p : A → Type 0} {a : A} {l : List A} → Every p (a ∷ l) → Every p l
every_tail (every_cons _ h) = h

pub every_front : {A : Type 0} {p : A → Type 0} (l m : List A) → Every p (l ++ m) → Every p l
every_front [] m h = every_nil
every_front (a ∷ l) m h = every_cons (every_head h) (every_front l m (every_tail h))

pub every_back : {A : Type 0} {p : A → Type 0} (l m : List A) → Every p (l ++ m) → Every p m
every_back [] m h = h
every_back (a ∷ l) m h = every_back l m (every_tail h)

pub every_both : {A : Type 0} {p : A → Type 0} {l m : List A} → Every p l → Every p m → Every p (l ++ m)
every_both every_nil k = k
every_both (every_cons w h) k = every_cons w (every_both h k)

pub every_only : {A : Type 0} {p q : A → Type 0} {l : List A} → ((a : A) → p a → q a) → Every p l → Every q l
every_only f every_nil = every_nil
every_only f (every_cons {a = a} w h) = every_cons (f a w) (every_only f h)

pub every_pair : {A : Type 0} {p q : A → Type 0} {l : List A} → Every p l → Every q l → Every (λ a. p a × q a) l
every_pair every_nil k = every_nil
every_pair (every_cons w h) k = every_cons (w, every_head k) (every_pair h (every_tail k))

-- an element of a list that was mapped comes of one
pub entry_of_map : {A B : Type 0} {b : B} {k : ℕ} (f : A → B) (l : List A) → Entry (map f l) k b → (a : A) × (f a ≡ b)
entry_of_map f [] h = elim h [ ]
entry_of_map f (a ∷ l) (entry_here _ _) = (a, refl)
entry_of_map f (a ∷ l) (entry_later _ h) = entry_of_map f l h

pub map_both : {A B : Type 0} (f : A → B) (l m : List A) → map f (l ++ m) ≡ map f l ++ map f m
map_both f [] m = refl
map_both f (a ∷ l) m = ap (λ r. f a ∷ r) (map_both f l m)

pub map_each : {A B : Type 0} (f g : A → B) → ((a : A) → f a ≡ g a) → (l : List A) → map f l ≡ map g l
map_each f g h [] = refl
map_each f g h (a ∷ l) = ap (λ b. b ∷ map f l) (h a) ∙ ap (λ r. g a ∷ r) (map_each f g h l)
