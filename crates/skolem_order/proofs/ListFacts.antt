-- Laws of what a list contains.
use Rattle.std.proofs.Common.{◌≡◌, Bool, true, false, List, [], ◌∷◌, cond, map, refl, sym, ap, subst, ◌∙◌, ◌⊎◌, inl, inr, ⊎_elim, arith}
use Rattle.std.specs.List.{Contains, filter}
use Rattle.std.proofs.lemmas.List.Elements.{All-contains, All-contains_itself, All-filter, Contains-append_cases, Contains-append_left, Contains-append_right, Contains-push, Contains-push_cases, filter_passes}
use Rattle.dk_syntax.proofs.ListLaws.{ForEach}

pub none_in_nil : {A : Type 0} (x : A) → Contains [] x → ⊥
none_in_nil x c = omega (arith, c.1)

pub contains_cases : {A : Type 0} (x : A) (xs : List A) (y : A) → Contains (x ∷ xs) y → (x ≡ y) ⊎ Contains xs y
contains_cases x xs y c =
    ⊎_elim (λ l. ⊎_elim (λ n. absurd (none_in_nil y n)) (λ e. inl e) (Contains-push_cases [] x y l)) (λ r. inr r) (Contains-append_cases (x ∷ []) xs y c)

pub contains_first : {A : Type 0} (x : A) (xs : List A) → Contains (x ∷ xs) x
contains_first x xs = Contains-append_left (x ∷ []) xs x (Contains-push [] x)

pub contains_rest : {A : Type 0} (x : A) (xs : List A) (y : A) → Contains xs y → Contains (x ∷ xs) y
contains_rest x xs y c = Contains-append_right (x ∷ []) xs y c

pub contains_same : {A : Type 0} (xs ys : List A) (x : A) → xs ≡ ys → Contains xs x → Contains ys x
contains_same xs ys x e c = subst (λ l. Contains l x) e c

pub contains_map : {A B : Type 0} (f : A → B) (xs : List A) (x : A) → Contains xs x → Contains (map f xs) (f x)
contains_map f [] x c = absurd (none_in_nil x c)
contains_map f (a ∷ xs) x c =
    ⊎_elim (λ e. subst (λ y. Contains (f a ∷ map f xs) (f y)) e (contains_first (f a) (map f xs)))
    (λ r. contains_rest (f a) (map f xs) (f x) (contains_map f xs x r)) (contains_cases a xs x c)

pub map_contains : {A B : Type 0} (f : A → B) (xs : List A) (y : B) → Contains (map f xs) y → (x : A) × Contains xs x × (y ≡ f x)
map_contains f [] y c = absurd (none_in_nil y c)
map_contains f (a ∷ xs) y c =
    ⊎_elim (λ e. (a, contains_first a xs, sym e)) (λ r. let w = map_contains f xs y r in (w.0, contains_rest a xs w.0 w.1, w.2))
    (contains_cases (f a) (map f xs) y c)

pub for_each_at : {A : Type 0} (P : A → Type 0) (xs : List A) (x : A) → ForEach P xs → Contains xs x → P x
for_each_at P [] x h c = absurd (none_in_nil x c)
for_each_at P (a ∷ xs) x h c = ⊎_elim (λ e. subst P e h.0) (λ r. for_each_at P xs x h.1 r) (contains_cases a xs x c)

pub filter_contains : {A : Type 0} (p : A → Bool) (xs : List A) (x : A) → Contains (filter p xs) x → Contains xs x × (p x ≡ true)
filter_contains p xs x c = (
  All-contains (Contains xs) (filter p xs) x (All-filter p (Contains xs) xs (All-contains_itself xs)) c,
  All-contains (λ y. p y ≡ true) (filter p xs) x (filter_passes p xs) c,
)

pub contains_filter : {A : Type 0} (p : A → Bool) (xs : List A) (x : A) → Contains xs x → p x ≡ true → Contains (filter p xs) x
contains_filter p [] x c h = absurd (none_in_nil x c)
contains_filter p (a ∷ xs) x c h = by_test (p a) refl (λ r. contains_filter p xs x r h)
  where
    off : true ≡ false → ⊥
    off e = cc

    by_test : (b : Bool) → p a ≡ b → (Contains xs x → Contains (filter p xs) x) → Contains (cond b (a ∷ filter p xs) (filter p xs)) x
    by_test true e again =
        ⊎_elim (λ q. subst (Contains (a ∷ filter p xs)) q (contains_first a (filter p xs))) (λ r. contains_rest a (filter p xs) x (again r)) (contains_cases a xs x c)
    by_test false e again = ⊎_elim (λ q. absurd (off (sym h ∙ ap p (sym q) ∙ e))) (λ r. again r) (contains_cases a xs x c)
