-- What clap finds in words is what their parts give.
use Rattle.std.proofs.Common.{◌≡◌, ◌∙◌, ◌||◌, ◌⊎◌, ℕ, Bool, cond, codes, true, false, refl, sym, ap, ap₂, subst, List, [], ◌∷◌, ◌++◌, map, Option, Some, None, is_some, IfSome, option_map, option_and_then, inl, inr, true≢false, bytes_eq, find, slice_get}
use Rattle.std.specs.declared.string.String.{String}
use Rattle.std.specs.declared.alloc.Global.{Global}
use Rattle.std.proofs.lemmas.Str.{IsUtf8-string_bytes}
use Rattle.words.specs.Views.{texts}
use Rattle.clap.specs.Words.{App, Row, first_of}
use Rattle.clap.specs.Simple.{argument_words, built, names_of}
use Rattle.clap.specs.Walk.{Text, finished, nothing_held, rows_after, walk}
use Rattle.clap.specs.Faults.{built_fault}
use Rattle.clap.proofs.FaultLemmas.{leaf_fault}
use Rattle.words.specs.Parser.{Picked, app_for, given_found, picked_from, rows_if, rows_read}
use Rattle.words.specs.Parts.{Part, name, option, is_among, is_option, option_name, option_value, after_dashes, option_parts, parts_of, valued, with_part}
use Rattle.words.specs.Reading.{Given, at_most_one, file_in, files_in, files_of, files_on, given_by, given_of, limit_and_workers, limit_of, names_in, number_to, only_workers, sole_name, task_in, task_of, values_in, workers_of}
use Rattle.words.proofs.ParserLaws.{AreApart, first_id, id_at, second_id, id_is, index_is, level_is, long_is, option_is, rules_bare, rules_for, same_text, short_is}
use Rattle.words.proofs.WalkLaws.{AreTexts, Entry, added, has, entries_after, resting, row, rows_for, shape, takes_parts}

-- ---- what entries show

abbrev limit_id : Text
limit_id = codes "limit"

abbrev workers_id : Text
workers_id = codes "workers"

abbrev value_of : Text → List Entry → Option Text
value_of id entries = first_of id (rows_for entries)

abbrev shown : List Entry → Picked
shown entries = picked_from (rows_for entries)

abbrev or_value : Option Text → Option Text → Option Text
or_value None other = other
or_value (Some v) other = Some v

value_push : (id : Text) (entries : List Entry) (e : Entry)
    → value_of id (entries ++ e ∷ []) ≡ or_value (value_of id entries) (cond (bytes_eq e.0 id) (Some e.1) None)
value_push id [] e = go (bytes_eq e.0 id)
  where
    go : (b : Bool) → option_and_then (λ (r : Row). slice_get r.values 0) (cond b (Some (row e)) None) ≡ cond b (Some e.1) None
    go true = refl
    go false = refl
value_push id (d ∷ entries) e = go (bytes_eq d.0 id) (value_push id entries e)
  where
    go : (b : Bool) → value_of id (entries ++ e ∷ []) ≡ or_value (value_of id entries) (cond (bytes_eq e.0 id) (Some e.1) None)
        → option_and_then (λ (r : Row). slice_get r.values 0) (cond b (Some (row d)) (find (λ r. bytes_eq r.id id) (rows_for (entries ++ e ∷ []))))
        ≡ or_value (option_and_then (λ (r : Row). slice_get r.values 0) (cond b (Some (row d)) (find (λ r. bytes_eq r.id id) (rows_for entries))))
        (cond (bytes_eq e.0 id) (Some e.1) None)
    go true h = refl
    go false h = h

has-value : (id : Text) (entries : List Entry) → has id entries ≡ is_some (value_of id entries)
has-value id [] = refl
has-value id (d ∷ entries) = go (bytes_eq d.0 id) (has-value id entries)
  where
    go : (b : Bool) → has id entries ≡ is_some (value_of id entries)
        → (b || has id entries) ≡ is_some (option_and_then (λ (r : Row). slice_get r.values 0) (cond b (Some (row d)) (find (λ r. bytes_eq r.id id) (rows_for entries))))
    go true h = refl
    go false h = h

or_none : (o : Option Text) → or_value o None ≡ o
or_none None = refl
or_none (Some v) = refl

-- What is shown after one more entry.
push_first : (entries : List Entry) (w : Text) → shown (entries ++ (first_id, w) ∷ []) ≡ record (shown entries) { first = or_value (shown entries).first (Some w) }
push_first entries w =
    let a = value_push first_id entries (first_id, w) in
    let b = value_push second_id entries (first_id, w) ∙ or_none (value_of second_id entries) in
    let d = value_push limit_id entries (first_id, w) ∙ or_none (value_of limit_id entries) in
    let e = value_push workers_id entries (first_id, w) ∙ or_none (value_of workers_id entries) in
    λ i. record { first = a i; second = b i; limit = d i; workers = e i }

push_second : (entries : List Entry) (w : Text) → shown (entries ++ (second_id, w) ∷ []) ≡ record (shown entries) { second = or_value (shown entries).second (Some w) }
push_second entries w =
    let a = value_push first_id entries (second_id, w) ∙ or_none (value_of first_id entries) in
    let b = value_push second_id entries (second_id, w) in
    let d = value_push limit_id entries (second_id, w) ∙ or_none (value_of limit_id entries) in
    let e = value_push workers_id entries (second_id, w) ∙ or_none (value_of workers_id entries) in
    λ i. record { first = a i; second = b i; limit = d i; workers = e i }

push_limit : (entries : List Entry) (w : Text) → shown (entries ++ (limit_id, w) ∷ []) ≡ record (shown entries) { limit = or_value (shown entries).limit (Some w) }
push_limit entries w =
    let a = value_push first_id entries (limit_id, w) ∙ or_none (value_of first_id entries) in
    let b = value_push second_id entries (limit_id, w) ∙ or_none (value_of second_id entries) in
    let d = value_push limit_id entries (limit_id, w) in
    let e = value_push workers_id entries (limit_id, w) ∙ or_none (value_of workers_id entries) in
    λ i. record { first = a i; second = b i; limit = d i; workers = e i }

push_workers : (entries : List Entry) (w : Text) → shown (entries ++ (workers_id, w) ∷ []) ≡ record (shown entries) { workers = or_value (shown entries).workers (Some w) }
push_workers entries w =
    let a = value_push first_id entries (workers_id, w) ∙ or_none (value_of first_id entries) in
    let b = value_push second_id entries (workers_id, w) ∙ or_none (value_of second_id entries) in
    let d = value_push limit_id entries (workers_id, w) ∙ or_none (value_of limit_id entries) in
    let e = value_push workers_id entries (workers_id, w) in
    λ i. record { first = a i; second = b i; limit = d i; workers = e i }

-- ---- what parts put in the four places

-- A place that takes one value.
abbrev put : Option Text → List Text → Option (Option Text)
put place [] = Some place
put None (v ∷ vs) = put (Some v) vs
put (Some x) (v ∷ vs) = None

abbrev Seats : Type 0
Seats = Option (Option Text × Option Text)

abbrev seat_second : Bool → Text → Option Text → Text → (Option Text → Option Text → Seats) → Seats
seat_second true a None w next = next (Some a) (Some w)
seat_second true a (Some b) w next = None
seat_second false a b w next = None

abbrev seat_first : Bool → Option Text → Option Text → Text → (Option Text → Option Text → Seats) → Seats
seat_first second None b w next = next (Some w) b
seat_first second (Some a) b w next = seat_second second a b w next

-- Two places, or one, that names go to in turn.
abbrev seat : Bool → Option Text → Option Text → List Text → Option (Option Text × Option Text)
seat second a b [] = Some (a, b)
seat second a b (w ∷ ws) = seat_first second a b w (λ x y. seat second x y ws)

abbrev gather : Option (Option Text × Option Text) → Option (Option Text) → Option (Option Text) → Option Picked
gather names limits workers = option_and_then (λ (n : Option Text × Option Text). option_and_then (λ l. option_map (λ k.
    record { first = n.0; second = n.1; limit = l; workers = k }) workers) limits) names

abbrev filled : Bool → Picked → List Part → Option Picked
filled second g parts =
    gather (seat second g.first g.second (names_in parts)) (put g.limit (values_in limit_id parts)) (put g.workers (values_in workers_id parts))

no_limit : (n : Option (Option Text × Option Text)) (k : Option (Option Text)) → None ≡ gather n None k
no_limit None k = refl
no_limit (Some n) k = refl

no_workers : (n : Option (Option Text × Option Text)) (l : Option (Option Text)) → None ≡ gather n l None
no_workers None l = refl
no_workers (Some n) None = refl
no_workers (Some n) (Some l) = refl

-- The options of parts are these.
abbrev AreKnown : List Part → Type 0
AreKnown [] = Unit {0}
AreKnown (name w ∷ parts) = AreKnown parts
AreKnown (option n v ∷ parts) = ((n ≡ limit_id) ⊎ (n ≡ workers_id)) × AreKnown parts

-- As many names as the place says are shown.
abbrev IsAt : Bool → ℕ → Picked → Type 0
IsAt second p g = ((p ≡ 1) × (g.first ≡ None) × (g.second ≡ None))
    ⊎ (((p ≡ 2) × ((a : Text) × (g.first ≡ Some a)) × (g.second ≡ None))
    ⊎ ((p ≡ 3) × (second ≡ true) × ((a : Text) × (g.first ≡ Some a)) × ((b : Text) × (g.second ≡ Some b))))

-- The entries of parts show what the parts fill.
abbrev Fills : Bool → List Part → Type 0
Fills second parts = (entries : List Entry) (p : ℕ) → IsAt second p (shown entries)
    → option_map shown (entries_after (id_at second) entries p parts) ≡ filled second (shown entries) parts

abbrev limits : List Part → List Text
limits = values_in limit_id

abbrev workers : List Part → List Text
workers = values_in workers_id

-- An entry whose id is new joins.
joins : (second : Bool) (parts : List Part) (entries : List Entry) (e : Entry) (p : ℕ) → value_of e.0 entries ≡ None
    → option_map shown (option_and_then (λ more. entries_after (id_at second) more p parts) (added entries e))
    ≡ option_map shown (entries_after (id_at second) (entries ++ e ∷ []) p parts)
joins second parts entries e p new =
    ap (λ b. option_map shown (option_and_then (λ more. entries_after (id_at second) more p parts) (cond b None (Some (entries ++ e ∷ [])))))
    (has-value e.0 entries ∙ ap is_some new)

-- One whose id is there doesn't.
stays : (second : Bool) (parts : List Part) (entries : List Entry) (e : Entry) (p : ℕ) (x : Text) → value_of e.0 entries ≡ Some x
    → option_map shown (option_and_then (λ more. entries_after (id_at second) more p parts) (added entries e)) ≡ None
stays second parts entries e p x old =
    ap (λ b. option_map shown (option_and_then (λ more. entries_after (id_at second) more p parts) (cond b None (Some (entries ++ e ∷ [])))))
    (has-value e.0 entries ∙ ap is_some old)

fill_first : (second : Bool) (w : Text) (parts : List Part) → Fills second parts → (entries : List Entry)
    → (shown entries).first ≡ None → (shown entries).second ≡ None
    → option_map shown (entries_after (id_at second) entries 1 (name w ∷ parts)) ≡ filled second (shown entries) (name w ∷ parts)
fill_first second w parts later entries none none_2 =
    let g = shown entries in
    let l = put g.limit (limits parts) in
    let k = put g.workers (workers parts) in
    let after = push_first entries w in
    joins second parts entries (first_id, w) 2 none
    ∙ (later (entries ++ (first_id, w) ∷ []) 2 (inr (inl (
      refl,
      (w, ap (λ (x : Picked). x.first) after ∙ ap (λ f. or_value f (Some w)) none),
      ap (λ (x : Picked). x.second) after ∙ none_2,
    )))
    ∙ (ap (λ x. filled second x parts) after
    ∙ (ap (λ f. gather (seat second (or_value f (Some w)) g.second (names_in parts)) l k) none
    ∙ sym (ap (λ f. gather (seat second f g.second (w ∷ names_in parts)) l k) none))))

fill_second : (w : Text) (parts : List Part) → Fills true parts → (entries : List Entry) (a : Text)
    → (shown entries).first ≡ Some a → (shown entries).second ≡ None
    → option_map shown (entries_after (id_at true) entries 2 (name w ∷ parts)) ≡ filled true (shown entries) (name w ∷ parts)
fill_second w parts later entries a some none =
    let g = shown entries in
    let l = put g.limit (limits parts) in
    let k = put g.workers (workers parts) in
    let after = push_second entries w in
    joins true parts entries (second_id, w) 3 none
    ∙ (later (entries ++ (second_id, w) ∷ []) 3 (inr (inr (
      refl,
      refl,
      (a, ap (λ (x : Picked). x.first) after ∙ some),
      (w, ap (λ (x : Picked). x.second) after ∙ ap (λ f. or_value f (Some w)) none),
    )))
    ∙ (ap (λ x. filled true x parts) after
    ∙ (ap₂ (λ f s. gather (seat true f (or_value s (Some w)) (names_in parts)) l k) some none
    ∙ sym (ap₂ (λ f s. gather (seat true f s (w ∷ names_in parts)) l k) some none))))

fill_full : (w : Text) (parts : List Part) (entries : List Entry) (a : Text) → (shown entries).first ≡ Some a
    → option_map shown (entries_after (id_at false) entries 2 (name w ∷ parts)) ≡ filled false (shown entries) (name w ∷ parts)
fill_full w parts entries a some =
    let g = shown entries in
    sym (ap (λ f. gather (seat false f g.second (w ∷ names_in parts)) (put g.limit (limits parts)) (put g.workers (workers parts))) some)

fill_third : (w : Text) (parts : List Part) (entries : List Entry) (a b : Text) → (shown entries).first ≡ Some a → (shown entries).second ≡ Some b
    → option_map shown (entries_after (id_at true) entries 3 (name w ∷ parts)) ≡ filled true (shown entries) (name w ∷ parts)
fill_third w parts entries a b some some_2 =
    let g = shown entries in
    sym (ap₂ (λ f s. gather (seat true f s (w ∷ names_in parts)) (put g.limit (limits parts)) (put g.workers (workers parts))) some some_2)

fill_name : (second : Bool) (w : Text) (parts : List Part) → Fills second parts → Fills second (name w ∷ parts)
fill_name second w parts later entries p (inl at) =
    subst (λ q. option_map shown (entries_after (id_at second) entries q (name w ∷ parts)) ≡ filled second (shown entries) (name w ∷ parts))
    (sym at.0) (fill_first second w parts later entries at.1 at.2)
fill_name true w parts later entries p (inr (inl at)) =
    subst (λ q. option_map shown (entries_after (id_at true) entries q (name w ∷ parts)) ≡ filled true (shown entries) (name w ∷ parts))
    (sym at.0) (fill_second w parts later entries at.1.0 at.1.1 at.2)
fill_name false w parts later entries p (inr (inl at)) =
    subst (λ q. option_map shown (entries_after (id_at false) entries q (name w ∷ parts)) ≡ filled false (shown entries) (name w ∷ parts))
    (sym at.0) (fill_full w parts entries at.1.0 at.1.1)
fill_name true w parts later entries p (inr (inr at)) =
    subst (λ q. option_map shown (entries_after (id_at true) entries q (name w ∷ parts)) ≡ filled true (shown entries) (name w ∷ parts))
    (sym at.0) (fill_third w parts entries at.2.0 at.3.0 at.2.1 at.3.1)
fill_name false w parts later entries p (inr (inr at)) = absurd (true≢false (sym at.1))

-- Where a name goes depends on the first two places alone.
still_at : (second : Bool) (p : ℕ) (g h : Picked) → g.first ≡ h.first → g.second ≡ h.second → IsAt second p g → IsAt second p h
still_at second p g h first second_is (inl at) = inl (at.0, sym first ∙ at.1, sym second_is ∙ at.2)
still_at second p g h first second_is (inr (inl at)) = inr (inl (at.0, (at.1.0, sym first ∙ at.1.1), sym second_is ∙ at.2))
still_at second p g h first second_is (inr (inr at)) =
    inr (inr (at.0, at.1, (at.2.0, sym first ∙ at.2.1), (at.3.0, sym second_is ∙ at.3.1)))

fill_limit : (second : Bool) (v : Text) (parts : List Part) → Fills second parts → Fills second (option limit_id v ∷ parts)
fill_limit second v parts later entries p at = go (shown entries).limit refl
  where
    go : (o : Option Text) → (shown entries).limit ≡ o
        → option_map shown (entries_after (id_at second) entries p (option limit_id v ∷ parts)) ≡ filled second (shown entries) (option limit_id v ∷ parts)
    go None is =
        let g = shown entries in
        let names = seat second g.first g.second (names_in parts) in
        let k = put g.workers (workers parts) in
        let after = push_limit entries v in
        joins second parts entries (limit_id, v) p is
        ∙ (later (entries ++ (limit_id, v) ∷ []) p
        (still_at second p g (shown (entries ++ (limit_id, v) ∷ [])) (sym (ap (λ (x : Picked). x.first) after)) (sym (ap (λ (x : Picked). x.second) after)) at)
        ∙ (ap (λ x. filled second x parts) after
        ∙ (ap (λ l. gather names (put (or_value l (Some v)) (limits parts)) k) is ∙ sym (ap (λ l. gather names (put l (v ∷ limits parts)) k) is))))
    go (Some x) is =
        let g = shown entries in
        let names = seat second g.first g.second (names_in parts) in
        let k = put g.workers (workers parts) in
        stays second parts entries (limit_id, v) p x is
        ∙ (no_limit names k ∙ sym (ap (λ l. gather names (put l (v ∷ limits parts)) k) is))

fill_workers : (second : Bool) (v : Text) (parts : List Part) → Fills second parts → Fills second (option workers_id v ∷ parts)
fill_workers second v parts later entries p at = go (shown entries).workers refl
  where
    go : (o : Option Text) → (shown entries).workers ≡ o
        → option_map shown (entries_after (id_at second) entries p (option workers_id v ∷ parts)) ≡ filled second (shown entries) (option workers_id v ∷ parts)
    go None is =
        let g = shown entries in
        let names = seat second g.first g.second (names_in parts) in
        let l = put g.limit (limits parts) in
        let after = push_workers entries v in
        joins second parts entries (workers_id, v) p is
        ∙ (later (entries ++ (workers_id, v) ∷ []) p
        (still_at second p g (shown (entries ++ (workers_id, v) ∷ [])) (sym (ap (λ (x : Picked). x.first) after)) (sym (ap (λ (x : Picked). x.second) after)) at)
        ∙ (ap (λ x. filled second x parts) after
        ∙ (ap (λ k. gather names l (put (or_value k (Some v)) (workers parts))) is ∙ sym (ap (λ k. gather names l (put k (v ∷ workers parts))) is))))
    go (Some x) is =
        let g = shown entries in
        let names = seat second g.first g.second (names_in parts) in
        let l = put g.limit (limits parts) in
        stays second parts entries (workers_id, v) p x is
        ∙ (no_workers names l ∙ sym (ap (λ k. gather names l (put k (v ∷ workers parts))) is))

fills : (second : Bool) (parts : List Part) → AreKnown parts → Fills second parts
fills second [] known entries p at = refl
fills second (name w ∷ parts) known entries p at = fill_name second w parts (fills second parts known) entries p at
fills second (option n v ∷ parts) known entries p at = go known.0 (fills second parts known.1)
  where
    go : ((n ≡ limit_id) ⊎ (n ≡ workers_id)) → Fills second parts
        → option_map shown (entries_after (id_at second) entries p (option n v ∷ parts)) ≡ filled second (shown entries) (option n v ∷ parts)
    go (inl is) later =
        subst (λ (m : Text). option_map shown (entries_after (id_at second) entries p (option m v ∷ parts)) ≡ filled second (shown entries) (option m v ∷ parts))
        (sym is) (fill_limit second v parts later entries p at)
    go (inr is) later =
        subst (λ (m : Text). option_map shown (entries_after (id_at second) entries p (option m v ∷ parts)) ≡ filled second (shown entries) (option m v ∷ parts))
        (sym is) (fill_workers second v parts later entries p at)

-- ---- the options of parts

abbrev IsKnown : Text → Type 0
IsKnown n = (n ≡ limit_id) ⊎ (n ≡ workers_id)

abbrev AreOptions : List Text → Type 0
AreOptions options = (n : Text) → is_among options n ≡ true → IsKnown n

known_names : (words : List Text) → AreKnown (map name words)
known_names [] = tt
known_names (word ∷ words) = known_names words

known_name : (word : Text) (o : Option (List Part)) → IfSome o AreKnown → IfSome (with_part (name word) o) AreKnown
known_name word None h = tt
known_name word (Some parts) h = h

known_option : (n v : Text) (o : Option (List Part)) → IsKnown n → IfSome o AreKnown → IfSome (with_part (option n v) o) AreKnown
known_option n v None known h = tt
known_option n v (Some parts) known h = (known, h)

parts_known : (options : List Text) → AreOptions options → (words : List Text) (waiting : Option Text) → IfSome waiting IsKnown
    → IfSome (parts_of options waiting words) AreKnown
parts_known options are [] None waits = tt
parts_known options are [] (Some n) waits = tt
parts_known options are (word ∷ words) None waits =
    go (λ m h. parts_known options are words m h) (bytes_eq word (codes "--")) (is_option word) (after_dashes word)
  where
    valued_known : ((m : Option Text) → IfSome m IsKnown → IfSome (parts_of options m words) AreKnown) → (n : Text) (v : Option Text) → IsKnown n
        → IfSome (valued n v (λ m. parts_of options m words)) AreKnown
    valued_known later n None known = later (Some n) known
    valued_known later n (Some v) known = known_option n v (parts_of options None words) known (later None tt)

    option_known : ((m : Option Text) → IfSome m IsKnown → IfSome (parts_of options m words) AreKnown) → (b : Bool) (n : Text) (v : Option Text)
        → is_among options n ≡ b → IfSome (cond b (valued n v (λ m. parts_of options m words)) None) AreKnown
    option_known later true n v h = valued_known later n v (are n h)
    option_known later false n v h = tt

    go : ((m : Option Text) → IfSome m IsKnown → IfSome (parts_of options m words) AreKnown) → (b d : Bool) (r : Option Text)
        → IfSome (cond b (Some (map name words)) (cond d (option_parts options r (λ m. parts_of options m words))
        (with_part (name word) (parts_of options None words)))) AreKnown
    go later true d r = known_names words
    go later false true None = tt
    go later false true (Some t) = option_known later (is_among options (option_name t)) (option_name t) (option_value t) refl
    go later false false r = known_name word (parts_of options None words) (later None tt)
parts_known options are (word ∷ words) (Some n) waits = go (is_option word) (parts_known options are words None tt)
  where
    go : (b : Bool) → IfSome (parts_of options None words) AreKnown
        → IfSome (cond b None (with_part (option n word) (parts_of options None words))) AreKnown
    go true h = tt
    go false h = known_option n word (parts_of options None words) waits h

-- ---- what clap finds

read_is : (app : App) (second : Bool) (options : List Text) → AreApart options → (words : List Text) → AreTexts words
    → built app ≡ record { top = shape (rules_for second options); subs = [] } → argument_words app words ≡ words
    → rows_read app words ≡ option_map rows_for (option_and_then (entries_after (id_at second) [] 1) (parts_of options None words))
read_is app second options apart words texts build same =
    let c = rules_for second options in
    let leaf : App = record { top = shape c; subs = [] } in
    ap₂ (λ (b : App) (ws : List Text). rows_if (built_fault b nothing_held ws) (rows_after b.top.rules (names_of b) ws)) build same
    ∙ (ap (λ f. rows_if f (finished c (walk c [] nothing_held words).held)) (leaf_fault leaf nothing_held words refl)
    ∙ (level_is c words (rules_bare second options)
    ∙ takes_parts c (id_at second) options (index_is second options) (long_is second options) (short_is second options)
    (id_is second options) (option_is second options apart) words texts [] (resting None) 1 tt))

abbrev nothing_picked : Picked
nothing_picked = record { first = None; second = None; limit = None; workers = None }

picked_is : (app : App) (second : Bool) (options : List Text) → AreApart options → AreOptions options → (words : List Text) → AreTexts words
    → built app ≡ record { top = shape (rules_for second options); subs = [] } → argument_words app words ≡ words
    → option_map picked_from (rows_read app words) ≡ option_and_then (filled second nothing_picked) (parts_of options None words)
picked_is app second options apart are words texts build same =
    ap (option_map picked_from) (read_is app second options apart words texts build same)
    ∙ go (parts_of options None words) (parts_known options are words None tt)
  where
    twice : (o : Option (List Entry)) → option_map picked_from (option_map rows_for o) ≡ option_map shown o
    twice None = refl
    twice (Some entries) = refl

    go : (o : Option (List Part)) → IfSome o AreKnown
        → option_map picked_from (option_map rows_for (option_and_then (entries_after (id_at second) [] 1) o)) ≡ option_and_then (filled second nothing_picked) o
    go None known = refl
    go (Some parts) known = twice (entries_after (id_at second) [] 1 parts) ∙ fills second parts known [] 1 (inl (refl, refl, refl))

-- ---- what commands are given

put_one : (values : List Text) → put None values ≡ at_most_one values
put_one [] = refl
put_one (v ∷ []) = refl
put_one (v ∷ w ∷ values) = refl

bind_none : {A B : Type 0} (o : Option A) (f : A → Option B) → ((a : A) → f a ≡ None) → option_and_then f o ≡ None
bind_none None f none = refl
bind_none (Some a) f none = none a

-- What a command makes of what it is given, where it is the same as that of what is found.
abbrev Makes : {A : Type 0} → Bool → (Given → Option A) → Type 0
Makes second make = (names : List Text) (l k : Option (Option Text))
    → option_and_then (λ (g : Picked). make (given_found g)) (gather (seat second None None names) l k)
    ≡ option_and_then make (option_and_then (λ (limit : Option Text). option_map (λ (w : Option Text).
    record { names = names; limit = limit; workers = w }) k) l)

made_is : {A : Type 0} (app : App) (second : Bool) (options : List Text) → AreApart options → AreOptions options → (make : Given → Option A) → Makes second make
    → (words : List Text) → AreTexts words
    → built app ≡ record { top = shape (rules_for second options); subs = [] } → argument_words app words ≡ words
    → option_and_then (λ (g : Picked). make (given_found g)) (option_map picked_from (rows_read app words)) ≡ option_and_then make (given_of options words)
made_is {A} app second options apart are make makes words texts build same =
    ap (option_and_then (λ (g : Picked). make (given_found g))) (picked_is app second options apart are words texts build same)
    ∙ go (parts_of options None words)
  where
    go : (o : Option (List Part)) → option_and_then (λ (g : Picked). make (given_found g)) (option_and_then (filled second nothing_picked) o)
        ≡ option_and_then make (option_and_then given_by o)
    go None = refl
    go (Some parts) =
        makes (names_in parts) (put None (limits parts)) (put None (workers parts))
        ∙ ap₂ (λ (l k : Option (Option Text)). option_and_then make (option_and_then (λ (limit : Option Text). option_map (λ (w : Option Text).
        record { names = names_in parts; limit = limit; workers = w }) k) l)) (put_one (limits parts)) (put_one (workers parts))

files_made : Makes true files_of
files_made names None k = ap (option_and_then (λ (g : Picked). files_of (given_found g))) (sym (no_limit (seat true None None names) k))
files_made names (Some l) None = ap (option_and_then (λ (g : Picked). files_of (given_found g))) (sym (no_workers (seat true None None names) (Some l)))
files_made [] (Some l) (Some k) = refl
files_made (a ∷ []) (Some l) (Some k) = refl
files_made (a ∷ b ∷ []) (Some l) (Some k) = refl
files_made (a ∷ b ∷ d ∷ names) (Some l) (Some k) =
    sym (bind_none (limit_of l) (λ limit. option_and_then (λ w. files_on limit w (a ∷ b ∷ d ∷ names)) (workers_of k))
    (λ limit. bind_none (workers_of k) (λ w. files_on limit w (a ∷ b ∷ d ∷ names)) (λ w. refl)))

abbrev sole_of : Given → Option Text
sole_of given = sole_name given.names

sole_made : Makes false sole_of
sole_made names None k = ap (option_and_then (λ (g : Picked). sole_of (given_found g))) (sym (no_limit (seat false None None names) k))
sole_made names (Some l) None = ap (option_and_then (λ (g : Picked). sole_of (given_found g))) (sym (no_workers (seat false None None names) (Some l)))
sole_made [] (Some l) (Some k) = refl
sole_made (a ∷ []) (Some l) (Some k) = refl
sole_made (a ∷ b ∷ names) (Some l) (Some k) = refl

task_made : Makes false task_of
task_made names None k = ap (option_and_then (λ (g : Picked). task_of (given_found g))) (sym (no_limit (seat false None None names) k))
task_made names (Some l) None = ap (option_and_then (λ (g : Picked). task_of (given_found g))) (sym (no_workers (seat false None None names) (Some l)))
task_made [] (Some l) (Some k) = refl
task_made (a ∷ []) (Some l) (Some k) = refl
task_made (a ∷ b ∷ names) (Some l) (Some k) =
    sym (bind_none (workers_of k) (λ w. option_map (λ n. record { number = n; workers = w }) (option_and_then (number_to 500) (sole_name (a ∷ b ∷ names)))) (λ w. refl))

both_options : AreOptions limit_and_workers
both_options n known = go (bytes_eq limit_id n) (bytes_eq workers_id n) refl refl known
  where
    go : (a b : Bool) → bytes_eq limit_id n ≡ a → bytes_eq workers_id n ≡ b → (a || (b || false)) ≡ true → IsKnown n
    go true b h k e = inl (sym (same_text limit_id n h))
    go false true h k e = inr (sym (same_text workers_id n k))
    go false false h k e = absurd (true≢false (sym e))

worker_option : AreOptions only_workers
worker_option n known = go (bytes_eq workers_id n) refl known
  where
    go : (b : Bool) → bytes_eq workers_id n ≡ b → (b || false) ≡ true → IsKnown n
    go true k e = inr (sym (same_text workers_id n k))
    go false k e = absurd (true≢false (sym e))

no_option : AreOptions []
no_option n known = absurd (true≢false (sym known))

-- Files with a limit, files without, one name, and a number with its workers.
pub limited_is : (words : List Text) → AreTexts words
    → option_and_then (λ (g : Picked). files_of (given_found g)) (option_map picked_from (rows_read (app_for true true true) words)) ≡ files_in limit_and_workers words
limited_is words texts = made_is (app_for true true true) true limit_and_workers (refl, refl) both_options files_of files_made words texts refl refl

pub unlimited_is : (words : List Text) → AreTexts words
    → option_and_then (λ (g : Picked). files_of (given_found g)) (option_map picked_from (rows_read (app_for true false true) words)) ≡ files_in only_workers words
unlimited_is words texts = made_is (app_for true false true) true only_workers (refl, refl) worker_option files_of files_made words texts refl refl

pub checked_is : (words : List Text) → AreTexts words
    → option_and_then (λ (g : Picked). sole_of (given_found g)) (option_map picked_from (rows_read (app_for false false false) words)) ≡ file_in words
checked_is words texts = made_is (app_for false false false) false [] (refl, refl) no_option sole_of sole_made words texts refl refl

pub generated_is : (words : List Text) → AreTexts words
    → option_and_then (λ (g : Picked). task_of (given_found g)) (option_map picked_from (rows_read (app_for false false true) words)) ≡ task_in words
generated_is words texts = made_is (app_for false false true) false only_workers (refl, refl) worker_option task_of task_made words texts refl refl

-- The words of a program are text.
pub texts_are : (words : List (String Global)) → AreTexts (texts words)
texts_are [] = tt
texts_are (word ∷ words) = (IsUtf8-string_bytes word, texts_are words)
