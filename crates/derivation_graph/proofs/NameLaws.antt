-- Laws on names, their numbers and the rows of a graph.
use Rattle.std.proofs.Common.{◌≡◌, ℕ, zero, suc, ◌+◌, ◌<◌, Bool, true, false, not, nat_eq, cond, if◌then◌else◌, ◌||◌, List, [], ◌∷◌, ◌++◌, Option, Some, None, length, map, take, drop, slice_get, get_or, inl, inr, refl, subst, sym, ap, ◌∙◌, arith, Vec, Global, Err}
use Rattle.std.proofs.lemmas.List.{length-map, map-append, take_more, take-append-drop}
use Rattle.std.proofs.lemmas.List.Folds.{find-append}
use Rattle.std.proofs.Common.{drop-cons}
use Rattle.std.proofs.lemmas.Option.{get_or_from_slice_get, same_Some, slice_get_within}
use Rattle.std.proofs.lemmas.Bool.{cases_eq}
use Rattle.std.specs.Prelude.{find, position}
use Rattle.std.specs.List.{list_any, position_or_len}
use Rattle.std.specs.Option.{option_map_or}
use Rattle.std.specs.Cmp.Lexicographic.{bytes_decides, pointwise}
use Rattle.indexmap.specs.IndexSet.{insert_key}
use Rattle.derivation_graph.specs.Graphs.{AreDistinct, HasParentsBefore, missing_parent, names_of, number_of}
use Rattle.derivation_graph.specs.Names.{bytes_of, IsRowFault, IsRowsAnswer}
use Rattle.derivation_graph.specs.declared.graph.Node.{Node}
use Rattle.derivation_graph.specs.declared.graph.GraphFault.{GraphFault}
use Rattle.derivation_graph.specs.declared.graph.GraphFault.TheVariants.{MissingParent, Cycle, Memory}

-- ---- places

-- the place of the first item that passes, in a list and in what it is made of
places_of_map : {X Y : Type 0} (p : Y → Bool) (f : X → Y) (xs : List X) → position_or_len p (map f xs) ≡ position_or_len (λ x. p (f x)) xs
places_of_map p f [] = refl
places_of_map p f (x ∷ xs) = ap (λ n. cond (not (p (f x))) (1 + n) 0) (places_of_map p f xs)

position_of_map : {X Y : Type 0} (p : Y → Bool) (f : X → Y) (xs : List X) → position p (map f xs) ≡ position (λ x. p (f x)) xs
position_of_map p f xs = rw (places_of_map p f xs, length-map) refl

-- the number of a name, by its place among the keys
pub number_by_place : (keys : List (Vec ℕ Global)) (query name : List ℕ) (found : Option ℕ) → query ≡ name → found ≡ position (λ key. pointwise nat_eq query key.items) keys
    → number_of (bytes_of keys) name ≡ option_map_or (λ place. place + 1) found 0
number_by_place keys query name found same is =
    ap (λ o. option_map_or (λ place. place + 1) o 0)
    (position_of_map (pointwise nat_eq name) (λ (key : Vec ℕ Global). key.items) keys ∙ (subst (λ q. position (λ (key : Vec ℕ Global). pointwise nat_eq q key.items) keys ≡ found) same (sym is)))

-- ---- keys

-- where the name is found in a list, it has a place there
any_place : (name : List ℕ) (xs : List (List ℕ)) → list_any (pointwise nat_eq name) xs ≡ true → (j : ℕ) × (slice_get xs j ≡ Some name)
any_place name [] e = absurd cc
any_place name (x ∷ xs) e = by_test (any_place name xs) (pointwise nat_eq name x) refl e
  where
    by_test : (list_any (pointwise nat_eq name) xs ≡ true → (j : ℕ) × (slice_get xs j ≡ Some name)) → (b : Bool) → pointwise nat_eq name x ≡ b → (b || list_any (pointwise nat_eq name) xs) ≡ true
        → (j : ℕ) × (slice_get (x ∷ xs) j ≡ Some name)
    by_test later true t e = (zero, ap Some (sym ((bytes_decides name x).0 t)))
    by_test later false t e = let r = later e in (suc r.0, r.1)

-- what stands in a list's front stands there in the list
taken_place : (i : ℕ) (xs : List (List ℕ)) (j : ℕ) (name : List ℕ) → slice_get (take i xs) j ≡ Some name → (j < i) × (slice_get xs j ≡ Some name)
taken_place zero xs j name e = absurd cc
taken_place (suc i) [] j name e = absurd cc
taken_place (suc i) (x ∷ xs) zero name e = (omega arith, e)
taken_place (suc i) (x ∷ xs) (suc j) name e = let r = taken_place i xs j name e in (omega (arith, r.0), r.1)

-- of distinct names none stands before its place
none_before : (names : List (List ℕ)) (i : ℕ) (name : List ℕ) → AreDistinct names → slice_get names i ≡ Some name → list_any (pointwise nat_eq name) (take i names) ≡ false
none_before names i name distinct here = by_test (list_any (pointwise nat_eq name) (take i names)) refl
  where
    by_test : (b : Bool) → list_any (pointwise nat_eq name) (take i names) ≡ b → b ≡ false
    by_test true e =
        let p = any_place name (take i names) e in
        let q = taken_place i names p.0 name p.1 in
        let same = distinct p.0 i name q.1 here in absurd (omega (arith, q.0, same))
    by_test false e = refl

-- a test of the keys' bytes
any_of_bytes : (test : List ℕ → Bool) (keys : List (Vec ℕ Global)) → list_any (λ key. test key.items) keys ≡ list_any test (bytes_of keys)
any_of_bytes test [] = refl
any_of_bytes test (key ∷ keys) = ap (λ b. test key.items || b) (any_of_bytes test keys)

bytes_append : (keys : List (Vec ℕ Global)) (key : Vec ℕ Global) → bytes_of (keys ++ key ∷ []) ≡ bytes_of keys ++ key.items ∷ []
bytes_append [] key = refl
bytes_append (first ∷ keys) key = ap (λ l. first.items ∷ l) (bytes_append keys key)

-- the front of the names grows by the next one
names_grow : (names : List (List ℕ)) (i : ℕ) (name : List ℕ) → slice_get names i ≡ Some name → take i names ++ name ∷ [] ≡ take (i + 1) names
names_grow names i name here =
    let within = slice_get_within names i name here in
    rw (take_more names i name within, get_or_from_slice_get names i name name here) refl

-- the keys after the next name is put in
pub next_key : (names : List (List ℕ)) (keys after : List (Vec ℕ Global)) (key : Vec ℕ Global) (i : ℕ) → AreDistinct names → bytes_of keys ≡ take i names → slice_get names i ≡ Some key.items
    → after ≡ insert_key (λ (a b : Vec ℕ Global). pointwise nat_eq a.items b.items) keys key → bytes_of after ≡ take (i + 1) names
next_key names keys after key i distinct so_far here is =
    let absent : list_any (λ (b : Vec ℕ Global). pointwise nat_eq key.items b.items) keys ≡ false =
    any_of_bytes (pointwise nat_eq key.items) keys ∙ (ap (list_any (pointwise nat_eq key.items)) so_far ∙ none_before names i key.items distinct here) in
    let grown : after ≡ keys ++ key ∷ [] = is ∙ ap (λ b. if b then keys else keys ++ key ∷ []) absent in
    ap bytes_of grown ∙ (bytes_append keys key ∙ (ap (λ l. l ++ key.items ∷ []) so_far ∙ names_grow names i key.items here))

-- ---- parents

-- a list's front with the next item
pub front_grows : {X : Type 0} (xs : List X) (i : ℕ) (x : X) → i < length xs → x ≡ get_or xs i x → take (i + 1) xs ≡ take i xs ++ x ∷ []
front_grows xs i x below is = take_more xs i x below ∙ ap (λ y. take i xs ++ y ∷ []) (sym is)

-- the numbers of the next parent too
pub numbers_grow : {X Y : Type 0} (f : X → Y) (xs : List X) (i : ℕ) (x : X) (row after : List Y) (y : Y) → i < length xs → x ≡ get_or xs i x → row ≡ map f (take i xs) → y ≡ f x → after ≡ row ++ y ∷ [] → after ≡ map f (take (i + 1) xs)
numbers_grow f xs i x row after y below is so_far value pushed =
    pushed ∙ (ap (λ l. l ++ y ∷ []) so_far ∙ (ap (λ v. map f (take i xs) ++ v ∷ []) value ∙ (sym (map-append f (take i xs) (x ∷ [])) ∙ ap (map f) (sym (front_grows xs i x below is)))))

-- the next item doesn't pass either
pub none_so_far : {X : Type 0} (test : X → Bool) (xs : List X) (i : ℕ) (x : X) → i < length xs → x ≡ get_or xs i x → find test (take i xs) ≡ None → test x ≡ false → find test (take (i + 1) xs) ≡ None
none_so_far test xs i x below is so_far fails =
    ap (find test) (front_grows xs i x below is) ∙ (find-append test (take i xs) (x ∷ []) ∙ rw (so_far, fails) refl)

-- the next item is the first that passes
pub first_now : {X : Type 0} (test : X → Bool) (xs : List X) (i : ℕ) (x : X) → i < length xs → x ≡ get_or xs i x → find test (take i xs) ≡ None → test x ≡ true → find test xs ≡ Some x
first_now test xs i x below is so_far passes =
    let whole = sym (take-append-drop i xs) in
    let rest = drop-cons xs i x below in
    ap (find test) whole ∙ (find-append test (take i xs) (drop i xs) ∙ (rw so_far (ap (find test) rest ∙ rw (← is) (rw passes refl))))

-- the fault of the first step that has one
pub first_fault : (nodes : List Node) (names : List (List ℕ)) (place step : ℕ) (node : Node) (fault : GraphFault) → names ≡ names_of nodes → step ≡ place + 1 → slice_get nodes place ≡ Some node
    → HasParentsBefore nodes place → IsRowFault names step node fault → IsRowsAnswer nodes (Err fault)
first_fault nodes names place step node (MissingParent found name) all is here sound h =
    (place, h.0 ∙ is, sound, (node, here, subst (λ l. missing_parent l node ≡ Some name) all h.1))
first_fault nodes names place step node (Cycle found) all is here sound h = h
first_fault nodes names place step node Memory all is here sound h = tt

-- the next step has its parents too
pub sound_so_far : (nodes : List Node) (names : List (List ℕ)) (place : ℕ) (node : Node) → names ≡ names_of nodes → slice_get nodes place ≡ Some node → HasParentsBefore nodes place → missing_parent names node ≡ None
    → HasParentsBefore nodes (place + 1)
sound_so_far nodes names place node all here sound none earlier one below there = elim (cases_eq earlier place) [
  | inl same ↦
      let both : Some node ≡ Some one = sym here ∙ (ap (slice_get nodes) (sym same) ∙ there) in
      subst (λ n. missing_parent (names_of nodes) n ≡ None) (same_Some node one both) (subst (λ l. missing_parent l node ≡ None) all none)
  | inr differs ↦ sound earlier one (omega arith) there
]
