-- Clap's walk over words takes their parts in turn.
use Rattle.std.proofs.Common.{◌≡◌, ◌∙◌, ◌+◌, ◌==◌, ◌&&◌, ◌||◌, ◌⊎◌, ℕ, Bool, cond, codes, true, false, refl, sym, ap, subst, arith, List, [], ◌∷◌, ◌++◌, map, length, drop, min, Option, Some, None, option_map, option_and_then, inl, inr, true≢false, append-nil, IsUtf8, bytes_eq, nat_lt, chars, encode_utf8, slice_get, fold}
use Rattle.std.specs.List.{list_any}
use Rattle.std.specs.Option.{option_map_or}
use Rattle.std.specs.Str.{encode_utf8_all}
use Rattle.std.proofs.lemmas.Bool.Decides.{nat_tests}
use Rattle.std.proofs.lemmas.Str.{IsUtf8-past_char, encodes-chars}
use Rattle.clap.specs.Lexer.{long_of, long_of_rest, short_of, usize_max}
use Rattle.clap.specs.Kinds.{Kinds, or_else}
use Rattle.clap.specs.Faults.{bundle_fault, flags_fault, settle_fault, step_fault, turn_fault, use_fault, walk_fault, other_fault, flag_word_fault, long_fault, bundle_step_fault, short_fault, positional_fault}
use Rattle.clap.specs.Simple.{Shape, new_rule, new_shape}
use Rattle.clap.specs.Walk.{Held, Row, Rule, Text, Waiting, Walk, after_flag, after_step, idle, long_met, option as option_waits, positional, arg_by_id, arg_by_index, arg_by_long, arg_by_short, at_row, has_row, more_values, is_pending, option_word, settled, subcommand_met, to_positional, used, used_by_id, value, walked, pushed, word_met}
use Rattle.clap.specs.declared.builder.action.ArgAction.TheVariants.{Set}
use Rattle.clap.specs.declared.builder.value_parser.ValueParser.TheVariants as vp
use Rattle.clap.specs.declared.builder.value_parser.Reading.TheVariants as how
use Rattle.clap.specs.declared.error.kind.ErrorKind.{ErrorKind}
use Rattle.clap.specs.declared.error.kind.ErrorKind.TheVariants as kind
use Rattle.clap.specs.declared.parser.matches.ValueSource.TheVariants.{CommandLine}
use Rattle.words.specs.Parser.{rows_if}
use Rattle.words.specs.Parts.{Part, name, option, is_among, is_option, option_name, option_value, after_dashes, option_parts, parts_of, valued, with_part}

-- ---- entries

-- An argument's id, and its value.
abbrev pub Entry : Type 0
Entry = Text × Text

abbrev pub has : Text → List Entry → Bool
has id entries = list_any (λ e. bytes_eq e.0 id) entries

abbrev pub row : Entry → Row
row e = record { id = e.0; values = e.1 ∷ []; count = None; source = Some CommandLine; reading = how.AsWritten }

abbrev pub rows_for : List Entry → List Row
rows_for = map row

-- An entry joins where its id is new.
abbrev pub added : List Entry → Entry → Option (List Entry)
added entries e = cond (has e.0 entries) None (Some (entries ++ e ∷ []))

-- The entry that is held joins.
abbrev pub joined : List Entry → Option Entry → Option (List Entry)
joined entries None = Some entries
joined entries (Some e) = added entries e

abbrev pub next_place : ℕ → ℕ
next_place p = min (p + 1) usize_max

-- An argument that takes one value, as it is built.
abbrev pub value_rule : Text → Option Text → Option ℕ → Rule
value_rule id long index = record (new_rule id) {
  long = long;
  index = index;
  action = Some Set;
  range = Some (record { start_inclusive = 1; end_inclusive = 1 });
  parser = Some vp.String;
}

abbrev pub shape : List Rule → Shape
shape c = record (new_shape (codes "ekskon")) {
  rules = c;
  no_binary_name = true;
  disable_help_flag = true;
  disable_help_subcommand = true;
  disable_version_flag = true;
  is_built = true;
}

has_row-has : (id : Text) (entries : List Entry) → has_row id (rows_for entries) ≡ has id entries
has_row-has id [] = refl
has_row-has id (e ∷ entries) = ap (λ b. bytes_eq e.0 id || b) (has_row-has id entries)

both_false : (a b : Bool) → (a || b) ≡ false → (a ≡ false) × (b ≡ false)
both_false false b h = (refl, h)
both_false true b h = absurd (true≢false h)

at_row-new : (id : Text) (change : Row → List Row) (missing : List Row) (entries : List Entry) → has id entries ≡ false
    → at_row id change missing (rows_for entries) ≡ rows_for entries ++ missing
at_row-new id change missing [] h = refl
at_row-new id change missing (e ∷ entries) h =
    let parts = both_false (bytes_eq e.0 id) (has id entries) h in
    ap (λ b. cond b (change (row e) ++ rows_for entries) (row e ∷ at_row id change missing (rows_for entries))) parts.0
    ∙ ap (λ rs. row e ∷ rs) (at_row-new id change missing entries parts.1)

rows_for-push : (entries : List Entry) (e : Entry) → rows_for entries ++ row e ∷ [] ≡ rows_for (entries ++ e ∷ [])
rows_for-push [] e = refl
rows_for-push (d ∷ entries) e = ap (λ rs. row d ∷ rs) (rows_for-push entries e)

used-new : (id v : Text) (long : Option Text) (index : Option ℕ) (entries : List Entry) → has id entries ≡ false
    → used (value_rule id long index) (v ∷ []) (rows_for entries) ≡ rows_for (entries ++ (id, v) ∷ [])
used-new id v long index entries h =
    let change : Row → List Row = more_values CommandLine (v ∷ []) in
    ap (at_row id change (row (id, v) ∷ [])) (at_row-new id (λ _. []) [] entries h ∙ append-nil (rows_for entries))
    ∙ (at_row-new id change (row (id, v) ∷ []) entries h ∙ rows_for-push entries (id, v))

use-new : (id v : Text) (long : Option Text) (index : Option ℕ) (entries : List Entry) → has id entries ≡ false
    → use_fault false (value_rule id long index) (v ∷ []) (rows_for entries) ≡ []
use-new id v long index entries h = let e = has_row-has id entries ∙ h in rw e refl

use-again : (id v : Text) (long : Option Text) (index : Option ℕ) (entries : List Entry) → has id entries ≡ true
    → use_fault false (value_rule id long index) (v ∷ []) (rows_for entries) ≡ kind.ArgumentConflict ∷ []
use-again id v long index entries h = let e = has_row-has id entries ∙ h in rw e refl

-- ---- words

pub record IsPlainWord (word : Text) : Type 0 where
  pub name : is_option word ≡ false
  pub dashes : bytes_eq word (45 ∷ 45 ∷ []) ≡ false
  pub long : long_of word ≡ None
  pub short : short_of word ≡ None

abbrev pub IsLongWord : Text → Type 0
IsLongWord word = (z : ℕ) × ((zs : Text) × (word ≡ 45 ∷ 45 ∷ z ∷ zs))

abbrev pub IsShortWord : Text → Type 0
IsShortWord word = (y : ℕ) × ((ys : Text) × ((word ≡ 45 ∷ y ∷ ys) × ((y == 45) ≡ false)))

abbrev pub WordKind : Text → Type 0
WordKind word = IsPlainWord word ⊎ ((word ≡ 45 ∷ 45 ∷ []) ⊎ (IsLongWord word ⊎ IsShortWord word))

same_number : (x y : ℕ) → (x == y) ≡ true → x ≡ y
same_number x y h = grind (arith, nat_tests)

other_first : (x : ℕ) (rest : Text) → (x == 45) ≡ false → is_option (x ∷ rest) ≡ false → IsPlainWord (x ∷ rest)
other_first x rest h named = record { name = named; dashes = rw h refl; long = rw h refl; short = rw h refl }

pub kind_of_word : (word : Text) → WordKind word
kind_of_word [] = inl (record { name = refl; dashes = refl; long = refl; short = refl })
kind_of_word (x ∷ []) = go (x == 45) refl
  where
    go : (b : Bool) → (x == 45) ≡ b → WordKind (x ∷ [])
    go false h = inl (other_first x [] h refl)
    go true h =
        let is : x ∷ [] ≡ 45 ∷ [] = ap (λ n. n ∷ []) (same_number x 45 h) in
        inl (subst IsPlainWord (sym is) (record { name = refl; dashes = refl; long = refl; short = refl }))
kind_of_word (x ∷ y ∷ ys) = go (x == 45) refl
  where
    second : (b : Bool) → (y == 45) ≡ b → x ≡ 45 → (ys' : Text) → ys ≡ ys' → WordKind (x ∷ y ∷ ys)
    second false h is ys' same = inr (inr (inr (y, (ys, (ap (λ n. n ∷ y ∷ ys) is, h)))))
    second true h is [] same =
        inr (inl (ap (λ n. n ∷ y ∷ ys) is ∙ (ap (λ n. 45 ∷ n ∷ ys) (same_number y 45 h) ∙ ap (λ t. 45 ∷ 45 ∷ t) same)))
    second true h is (z ∷ zs) same =
        inr (inr (inl (z, (zs, ap (λ n. n ∷ y ∷ ys) is ∙ (ap (λ n. 45 ∷ n ∷ ys) (same_number y 45 h) ∙ ap (λ t. 45 ∷ 45 ∷ t) same)))))

    go : (b : Bool) → (x == 45) ≡ b → WordKind (x ∷ y ∷ ys)
    go false h = inl (other_first x (y ∷ ys) h h)
    go true h = second (y == 45) refl (same_number x 45 h) ys refl

short_dashes : (y : ℕ) (ys : Text) → (y == 45) ≡ false → bytes_eq (45 ∷ y ∷ ys) (45 ∷ 45 ∷ []) ≡ false
short_dashes y ys other = ap (λ b. b && bytes_eq ys []) other

short_long : (y : ℕ) (ys : Text) → (y == 45) ≡ false → long_of (45 ∷ y ∷ ys) ≡ None
short_long y ys other = ap (λ b. option_and_then long_of_rest (cond b (Some ys) None)) other

short_flags : (y : ℕ) (ys : Text) → (y == 45) ≡ false → short_of (45 ∷ y ∷ ys) ≡ Some (y ∷ ys)
short_flags y ys other = ap (λ b. cond b None (Some (y ∷ ys))) other

-- The first character of a text that isn't empty.
first_char : (y : ℕ) (ys : Text) → IsUtf8 (45 ∷ y ∷ ys) → (x : ℕ) × (slice_get (chars (y ∷ ys)) 0 ≡ Some x)
unfolding lib.Utf8.encode
first_char y ys text =
    let rest : IsUtf8 (y ∷ ys) = IsUtf8-past_char (45 ∷ y ∷ ys) (y ∷ ys) 45 text refl in
    go (chars (y ∷ ys)) (encodes-chars (y ∷ ys) rest)
  where
    go : (cs : List ℕ) → encode_utf8_all cs ≡ y ∷ ys → (x : ℕ) × (slice_get cs 0 ≡ Some x)
    go [] h = cc
    go (x ∷ cs) h = (x, refl)

-- Each word is text.
abbrev pub AreTexts : List Text → Type 0
AreTexts [] = Unit {0}
AreTexts (word ∷ words) = IsUtf8 word × AreTexts words

-- ---- the walk

-- A walk between two words.
abbrev pub walk_at : Held → Waiting → ℕ → Bool → Walk
walk_at h waiting p trailing =
    record { held = h; waiting = waiting; position = p; is_trailing = trailing; stopped = None }

abbrev pub held : List Entry → Option (Text × List Text) → Held
held entries pending = record { rows = rows_for entries; pending = pending; skip = 0 }

-- An entry that is held.
abbrev pub kept : Option Entry → Option (Text × List Text)
kept = option_map (λ e. (e.0, e.1 ∷ []))

and_false : (a : Bool) → (a && false) ≡ false
and_false true = refl
and_false false = refl

none_met : (waiting : Waiting) (word : Text) → subcommand_met [] waiting word ≡ None
none_met idle word = refl
none_met (option_waits id) word = refl
none_met positional word = refl

same_bytes : (t : Text) → bytes_eq t t ≡ true
same_bytes [] = refl
same_bytes (x ∷ xs) = let e : (x == x) ≡ true = grind (arith, nat_tests) in rw e (same_bytes xs)

-- The entries after some parts, or none where an id stands twice or a name has no id.
abbrev pub entries_after : (ℕ → Option Text) → List Entry → ℕ → List Part → Option (List Entry)
entries_after ids entries p [] = Some entries
entries_after ids entries p (name word ∷ parts) =
    option_and_then (λ id. option_and_then (λ more. entries_after ids more (next_place p) parts) (added entries (id, word))) (ids p)
entries_after ids entries p (option n v ∷ parts) = option_and_then (λ more. entries_after ids more p parts) (added entries (n, v))

module _ (c : List Rule) (ids : ℕ → Option Text) (options : List Text)
    (index_is : (i : ℕ) → arg_by_index c i ≡ option_map (λ id. value_rule id None (Some i)) (ids i))
    (long_is : (n : Text) → arg_by_long c n ≡ cond (is_among options n) (Some (value_rule n (Some n) None)) None)
    (short_is : (x : ℕ) → arg_by_short c x ≡ None)
    (id_is : (i : ℕ) (id : Text) → ids i ≡ Some id → arg_by_id c id ≡ Some (value_rule id None (Some i)))
    (option_is : (n : Text) → is_among options n ≡ true → arg_by_id c n ≡ Some (value_rule n (Some n) None))
  where
    -- The rows at the end, where nothing is at fault.
    abbrev pub answer : Walk → List Text → Option (List Row)
    answer w words =
        let end = (fold (walked c []) w words).held in
        rows_if (or_else (walk_fault (shape c) [] w words) (settle_fault c false end)) (settled c end).rows

    abbrev pub taken : List Entry → ℕ → List Part → Option (List Entry)
    taken = entries_after ids

    abbrev pub target : Option (List Entry) → ℕ → Option (List Part) → Option (List Row)
    target entries p parts = option_map rows_for (option_and_then (λ more. option_and_then (taken more p) parts) entries)

    -- An argument has this id.
    abbrev pub IsUsable : Text → Type 0
    IsUsable id = (long : Option Text) × ((index : Option ℕ) × (arg_by_id c id ≡ Some (value_rule id long index)))

    abbrev pub IsHeldUsable : Option Entry → Type 0
    IsHeldUsable None = Unit {0}
    IsHeldUsable (Some e) = IsUsable e.0

    -- ---- settling

    abbrev pending_fault : List Row → List Text → Option Rule → Kinds
    pending_fault rows values found = option_map_or (λ a. use_fault false a values rows) found []

    settle_found : (entries : List Entry) (id : Text) (values : List Text) (usable : IsUsable id)
        → settle_fault c false (held entries (Some (id, values))) ≡ use_fault false (value_rule id usable.0 usable.1.0) values (rows_for entries)
    settle_found entries id values usable = ap (pending_fault (rows_for entries) values) usable.1.1

    settle_bad : (entries : List Entry) (e : Option Entry) → IsHeldUsable e → joined entries e ≡ None
        → settle_fault c false (held entries (kept e)) ≡ kind.ArgumentConflict ∷ []
    settle_bad entries None usable h = cc
    settle_bad entries (Some e) usable h =
        settle_found entries e.0 (e.1 ∷ []) usable ∙ use-again e.0 e.1 usable.0 usable.1.0 entries (go (has e.0 entries) h)
      where
        go : (b : Bool) → cond b None (Some (entries ++ e ∷ [])) ≡ None → b ≡ true
        go true h = refl
        go false h = cc

    settle_ok : (entries more : List Entry) (e : Option Entry) → IsHeldUsable e → joined entries e ≡ Some more
        → settle_fault c false (held entries (kept e)) ≡ []
    settle_ok entries more None usable h = refl
    settle_ok entries more (Some e) usable h =
        settle_found entries e.0 (e.1 ∷ []) usable ∙ use-new e.0 e.1 usable.0 usable.1.0 entries (go (has e.0 entries) h)
      where
        go : (b : Bool) → cond b None (Some (entries ++ e ∷ [])) ≡ Some more → b ≡ false
        go true h = cc
        go false h = refl

    settled_ok : (entries more : List Entry) (e : Option Entry) → IsHeldUsable e → joined entries e ≡ Some more
        → settled c (held entries (kept e)) ≡ held more None
    settled_ok entries more None usable h = ap (λ es. held es None) (some_same h)
      where
        some_same : Some entries ≡ Some more → entries ≡ more
        some_same h = cc
    settled_ok entries more (Some e) usable h =
        ap (λ (a : Option Rule). record (held entries None) { rows = used_by_id a (e.1 ∷ []) (rows_for entries) }) usable.1.1
        ∙ ap (λ rows. record (held entries None) { rows = rows })
        (used-new e.0 e.1 usable.0 usable.1.0 entries (go (has e.0 entries) h).0 ∙ ap rows_for (go (has e.0 entries) h).1)
      where
        go : (b : Bool) → cond b None (Some (entries ++ e ∷ [])) ≡ Some more → (b ≡ false) × (entries ++ e ∷ [] ≡ more)
        go true h = cc
        go false h = (refl, cc)

    -- ---- one word

    passes : (w after : Walk) (word : Text) (words : List Text) → turn_fault (shape c) [] w word ≡ [] → walked c [] w word ≡ after
        → answer w (word ∷ words) ≡ answer after words
    unfolding walk_fault
    passes w after word words passed is =
        ap (λ fault. rows_if (or_else (or_else fault (walk_fault (shape c) [] (walked c [] w word) words))
        (settle_fault c false (fold (walked c []) (walked c [] w word) words).held)) (settled c (fold (walked c []) (walked c [] w word) words).held).rows) passed
        ∙ ap (λ next. answer next words) is

    fails : (w : Walk) (word : Text) (words : List Text) (k : ErrorKind) (ks : Kinds) → turn_fault (shape c) [] w word ≡ k ∷ ks
        → answer w (word ∷ words) ≡ None
    unfolding walk_fault
    fails w word words k ks failed =
        ap (λ fault. rows_if (or_else (or_else fault (walk_fault (shape c) [] (walked c [] w word) words))
        (settle_fault c false (fold (walked c []) (walked c [] w word) words).held)) (settled c (fold (walked c []) (walked c [] w word) words).held).rows) failed

    fails_at_end : (w : Walk) (k : ErrorKind) (ks : Kinds) → settle_fault c false w.held ≡ k ∷ ks → answer w [] ≡ None
    unfolding walk_fault
    fails_at_end w k ks failed = ap (λ fault. rows_if fault (settled c w.held).rows) failed

    passes_at_end : (w : Walk) → settle_fault c false w.held ≡ [] → answer w [] ≡ Some (settled c w.held).rows
    unfolding walk_fault
    passes_at_end w passed = ap (λ fault. rows_if fault (settled c w.held).rows) passed

    -- A word that goes to a positional.
    abbrev place_fault : Held → Option Text → Kinds
    place_fault h None = kind.UnknownArgument ∷ []
    place_fault h (Some id) = settle_fault c false h

    value_fault : (h : Held) (p : ℕ) → step_fault (shape c) p h value ≡ place_fault h (ids p)
    value_fault h p = ap (λ found. option_map_or (λ a. positional_fault c false a h) found (kind.UnknownArgument ∷ [])) (index_is p) ∙ go (ids p)
      where
        go : (o : Option Text) → option_map_or (λ a. positional_fault c false a h) (option_map (λ id. value_rule id None (Some p)) o) (kind.UnknownArgument ∷ [])
            ≡ place_fault h o
        go None = refl
        go (Some id) = ap (λ b. cond b [] (settle_fault c false h)) (and_false (is_pending (value_rule id None (Some p)) h.pending))

    value_walk : (h : Held) (p : ℕ) (id word : Text) (waiting : Waiting) (trailing : Bool) → ids p ≡ Some id
        → to_positional c (arg_by_index c p) word (walk_at h waiting p trailing) h
        ≡ walk_at (record (settled c h) { pending = Some (id, word ∷ []) }) idle (next_place p) (trailing || false)
    value_walk h p id word waiting trailing is =
        ap (λ found. to_positional c found word (walk_at h waiting p trailing) h) (index_is p ∙ ap (option_map (λ i. value_rule i None (Some p))) is)
        ∙ ap (λ b. walk_at (pushed id word (cond b h (settled c h))) idle (next_place p) (trailing || false))
        (and_false (is_pending (value_rule id None (Some p)) h.pending))

    trailing_fault : (h : Held) (waiting : Waiting) (p : ℕ) (word : Text)
        → turn_fault (shape c) [] (walk_at h waiting p true) word ≡ place_fault h (ids p)
    trailing_fault h waiting p word = value_fault h p

    trailing_walk : (h : Held) (waiting : Waiting) (p : ℕ) (id word : Text) → ids p ≡ Some id
        → walked c [] (walk_at h waiting p true) word
        ≡ walk_at (record (settled c h) { pending = Some (id, word ∷ []) }) idle (next_place p) true
    unfolding walked
    trailing_walk h waiting p id word is = value_walk h p id word waiting true is

    place_bad : (h : Held) (o : Option Text) (k : ErrorKind) (ks : Kinds) → settle_fault c false h ≡ k ∷ ks
        → (x : ErrorKind) × ((xs : Kinds) × (place_fault h o ≡ x ∷ xs))
    place_bad h None k ks bad = (kind.UnknownArgument, ([], refl))
    place_bad h (Some id) k ks bad = (k, (ks, bad))

    -- Where what is held is at fault, so is the whole.
    trailing_bad : (h : Held) (waiting : Waiting) (p : ℕ) (words : List Text) (k : ErrorKind) (ks : Kinds) → settle_fault c false h ≡ k ∷ ks
        → answer (walk_at h waiting p true) words ≡ None
    trailing_bad h waiting p [] k ks bad = fails_at_end (walk_at h waiting p true) k ks bad
    trailing_bad h waiting p (word ∷ words) k ks bad =
        let found = place_bad h (ids p) k ks bad in
        fails (walk_at h waiting p true) word words found.0 found.1.0 (trailing_fault h waiting p word ∙ found.1.1)

    -- ---- parts

    no_parts : (o : Option (List Entry)) (p : ℕ) → target o p None ≡ None
    no_parts None p = refl
    no_parts (Some entries) p = refl

    name_target : (entries : List Entry) (p : ℕ) (id word : Text) (parts : Option (List Part)) → ids p ≡ Some id
        → target (added entries (id, word)) (next_place p) parts ≡ target (Some entries) p (with_part (name word) parts)
    name_target entries p id word None is = no_parts (added entries (id, word)) (next_place p)
    name_target entries p id word (Some parts) is =
        ap (λ o. option_map rows_for (option_and_then (λ i. option_and_then (λ more. taken more (next_place p) parts) (added entries (i, word))) o)) (sym is)

    no_name_target : (entries : List Entry) (p : ℕ) (word : Text) (parts : Option (List Part)) → ids p ≡ None
        → None ≡ target (Some entries) p (with_part (name word) parts)
    no_name_target entries p word None is = refl
    no_name_target entries p word (Some parts) is =
        ap (λ o. option_map rows_for (option_and_then (λ i. option_and_then (λ more. taken more (next_place p) parts) (added entries (i, word))) o)) (sym is)

    option_target : (entries : List Entry) (p : ℕ) (n v : Text) (parts : Option (List Part))
        → target (added entries (n, v)) p parts ≡ target (Some entries) p (with_part (option n v) parts)
    option_target entries p n v None = no_parts (added entries (n, v)) p
    option_target entries p n v (Some parts) = refl

    -- ---- words after `--`

    end_taken : (entries : List Entry) (e : Option Entry) (waiting : Waiting) (p : ℕ) (trailing : Bool) → IsHeldUsable e
        → answer (walk_at (held entries (kept e)) waiting p trailing) [] ≡ target (joined entries e) p (Some [])
    end_taken entries e waiting p trailing usable = go (joined entries e) refl
      where
        go : (o : Option (List Entry)) → joined entries e ≡ o
            → answer (walk_at (held entries (kept e)) waiting p trailing) [] ≡ target o p (Some [])
        go None is = fails_at_end (walk_at (held entries (kept e)) waiting p trailing) _ _ (settle_bad entries e usable is)
        go (Some more) is =
            passes_at_end (walk_at (held entries (kept e)) waiting p trailing) (settle_ok entries more e usable is)
            ∙ ap (λ (h : Held). Some h.rows) (settled_ok entries more e usable is)

    trailing_taken : (words : List Text) (entries : List Entry) (e : Option Entry) (waiting : Waiting) (p : ℕ) → IsHeldUsable e
        → answer (walk_at (held entries (kept e)) waiting p true) words ≡ target (joined entries e) p (Some (map name words))
    trailing_taken [] entries e waiting p usable = end_taken entries e waiting p true usable
    trailing_taken (word ∷ words) entries e waiting p usable = go (trailing_taken words) (joined entries e) refl (ids p) refl
      where
        go : ((es : List Entry) (d : Option Entry) (w : Waiting) (q : ℕ) → IsHeldUsable d
            → answer (walk_at (held es (kept d)) w q true) words ≡ target (joined es d) q (Some (map name words)))
            → (o : Option (List Entry)) → joined entries e ≡ o → (place : Option Text) → ids p ≡ place
            → answer (walk_at (held entries (kept e)) waiting p true) (word ∷ words) ≡ target o p (Some (name word ∷ map name words))
        go later None is place at = trailing_bad (held entries (kept e)) waiting p (word ∷ words) _ _ (settle_bad entries e usable is)
        go later (Some more) is None at =
            fails (walk_at (held entries (kept e)) waiting p true) word words _ _ (trailing_fault (held entries (kept e)) waiting p word ∙ ap (place_fault (held entries (kept e))) at)
            ∙ no_name_target more p word (Some (map name words)) at
        go later (Some more) is (Some id) at =
            passes (walk_at (held entries (kept e)) waiting p true) _ word words
            (trailing_fault (held entries (kept e)) waiting p word ∙ (ap (place_fault (held entries (kept e))) at ∙ settle_ok entries more e usable is))
            (trailing_walk (held entries (kept e)) waiting p id word at
            ∙ ap (λ (h : Held). walk_at (record h { pending = Some (id, word ∷ []) }) idle (next_place p) true) (settled_ok entries more e usable is))
            ∙ (later more (Some (id, word)) idle (next_place p) (None, (Some p, id_is p id at))
            ∙ name_target more p id word (Some (map name words)) at)

    -- ---- words that are no names

    -- What a long word comes to, by the option that it names and the value that it has.
    abbrev long_turn : Held → Waiting → ℕ → Text → Option Rule → Option Text → Kinds
    long_turn h waiting p word found v =
        let met = long_met c found v h in
        or_else (long_fault c false found v h) (step_fault (shape c) p (after_flag c waiting word met.0 met.1).0 (after_flag c waiting word met.0 met.1).1)

    abbrev found_option : Bool → Text → Option Rule
    found_option b n = cond b (Some (value_rule n (Some n) None)) None

    long_bad : (h : Held) (waiting : Waiting) (p : ℕ) (word n : Text) (b : Bool) (v : Option Text) (k : ErrorKind) (ks : Kinds) → settle_fault c false h ≡ k ∷ ks
        → (x : ErrorKind) × ((xs : Kinds) × (long_turn h waiting p word (found_option b n) v ≡ x ∷ xs))
    long_bad h waiting p word n false v k ks bad = (kind.UnknownArgument, ([], refl))
    long_bad h waiting p word n true (Some t) k ks bad =
        (k, (ks, ap (λ f. or_else (or_else f (use_fault false (value_rule n (Some n) None) (t ∷ []) (settled c h).rows)) []) bad))
    long_bad h waiting p word n true None k ks bad = (k, (ks, ap (λ f. or_else f []) bad))

    short_bad : (entries : List Entry) (pending : Option (Text × List Text)) (waiting : Waiting) (p y : ℕ) (ys : Text) → (y == 45) ≡ false → IsUtf8 (45 ∷ y ∷ ys)
        → turn_fault (shape c) [] (walk_at (held entries pending) waiting p false) (45 ∷ y ∷ ys) ≡ kind.UnknownArgument ∷ []
    unfolding flags_fault
    short_bad entries pending waiting p y ys other text =
        let word : Text = 45 ∷ y ∷ ys in
        let h : Held = held entries pending in
        let met = word_met c [] false waiting p word h in
        let first = first_char y ys text in
        let refused : bundle_fault c false (y ∷ ys) h ≡ kind.UnknownArgument ∷ [] =
        ap (λ o. bundle_step_fault c false o (y ∷ ys) 0 h (flags_fault c false (length ys))) first.1
        ∙ ap (λ o. short_fault c false o (drop (length (encode_utf8 first.0)) (y ∷ ys)) h (flags_fault c false (length ys) (drop (length (encode_utf8 first.0)) (y ∷ ys)) 0))
        (short_is first.0) in
        let other_is : other_fault (shape c) None word h ≡ bundle_fault c false (y ∷ ys) h =
        ap (λ b. cond b [] (flag_word_fault c false (long_of word) word h)) (short_dashes y ys other)
        ∙ (ap (λ l. flag_word_fault c false l word h) (short_long y ys other)
        ∙ ap (λ o. option_map_or (λ flags. bundle_fault c false flags h) o []) (short_flags y ys other)) in
        ap (λ f. or_else f (step_fault (shape c) p met.0 met.1))
        (ap (λ o. other_fault (shape c) o word h) (none_met waiting word) ∙ (other_is ∙ refused))

    -- ---- words before `--`

    -- What waits between two words: nothing but an entry that is held, or an option.
    pub data Mode : Type 0 where
      resting : Option Entry → Mode
      expecting : Text → Mode

    abbrev pub pending_in : Mode → Option (Text × List Text)
    pending_in (resting e) = kept e
    pending_in (expecting n) = Some (n, [])

    abbrev pub waiting_in : Mode → Waiting
    waiting_in (resting e) = idle
    waiting_in (expecting n) = option_waits n

    abbrev pub option_in : Mode → Option Text
    option_in (resting e) = None
    option_in (expecting n) = Some n

    abbrev pub joined_in : List Entry → Mode → Option (List Entry)
    joined_in entries (resting e) = joined entries e
    joined_in entries (expecting n) = Some entries

    abbrev pub IsModeUsable : Mode → Type 0
    IsModeUsable (resting e) = IsHeldUsable e
    IsModeUsable (expecting n) = is_among options n ≡ true

    abbrev pub walk_in : List Entry → Mode → ℕ → Walk
    walk_in entries m p = walk_at (held entries (pending_in m)) (waiting_in m) p false

    -- The walk over these words takes their parts.
    abbrev pub TakesParts : List Text → Type 0
    TakesParts words = (entries : List Entry) (m : Mode) (p : ℕ) → IsModeUsable m
        → answer (walk_in entries m p) words ≡ target (joined_in entries m) p (parts_of options (option_in m) words)

    abbrev StepTakes : Text → List Text → Option Entry → List Entry → ℕ → Type 0
    StepTakes word words e entries p =
        answer (walk_in entries (resting e) p) (word ∷ words) ≡ target (joined entries e) p (parts_of options None (word ∷ words))

    plain_turn : (h : Held) (p : ℕ) (word : Text) → IsPlainWord word
        → turn_fault (shape c) [] (walk_at h idle p false) word ≡ step_fault (shape c) p h value
    plain_turn h p word k = let a = k.dashes in let b = k.long in let d = k.short in rw (a, b, d) refl

    plain_walk : (h : Held) (p : ℕ) (word : Text) → IsPlainWord word
        → walked c [] (walk_at h idle p false) word ≡ to_positional c (arg_by_index c p) word (walk_at h idle p false) h
    unfolding walked
    plain_walk h p word k = let a = k.dashes in let b = k.long in let d = k.short in rw (a, b, d) refl

    plain_parts : (word : Text) (words : List Text) → IsPlainWord word
        → parts_of options None (word ∷ words) ≡ with_part (name word) (parts_of options None words)
    plain_parts word words k = let a = k.dashes in let b = k.name in rw (a, b) refl

    plain_taken : (word : Text) (words : List Text) → TakesParts words → IsPlainWord word → (entries : List Entry) (e : Option Entry) (p : ℕ)
        → IsHeldUsable e → StepTakes word words e entries p
    plain_taken word words later k entries e p usable = go (joined entries e) refl (ids p) refl
      where
        go : (o : Option (List Entry)) → joined entries e ≡ o → (place : Option Text) → ids p ≡ place
            → answer (walk_in entries (resting e) p) (word ∷ words) ≡ target o p (parts_of options None (word ∷ words))
        go None is place at =
            let bad = place_bad (held entries (kept e)) (ids p) _ _ (settle_bad entries e usable is) in
            fails (walk_in entries (resting e) p) word words bad.0 bad.1.0
            (plain_turn (held entries (kept e)) p word k ∙ (value_fault (held entries (kept e)) p ∙ bad.1.1))
        go (Some more) is None at =
            fails (walk_in entries (resting e) p) word words _ _
            (plain_turn (held entries (kept e)) p word k ∙ (value_fault (held entries (kept e)) p ∙ ap (place_fault (held entries (kept e))) at))
            ∙ (no_name_target more p word (parts_of options None words) at ∙ ap (target (Some more) p) (sym (plain_parts word words k)))
        go (Some more) is (Some id) at =
            passes (walk_in entries (resting e) p) _ word words
            (plain_turn (held entries (kept e)) p word k ∙ (value_fault (held entries (kept e)) p
            ∙ (ap (place_fault (held entries (kept e))) at ∙ settle_ok entries more e usable is)))
            (plain_walk (held entries (kept e)) p word k ∙ (value_walk (held entries (kept e)) p id word idle false at
            ∙ ap (λ (h : Held). walk_at (record h { pending = Some (id, word ∷ []) }) idle (next_place p) false) (settled_ok entries more e usable is)))
            ∙ (later more (resting (Some (id, word))) (next_place p) (None, (Some p, id_is p id at))
            ∙ (name_target more p id word (parts_of options None words) at ∙ ap (target (Some more) p) (sym (plain_parts word words k))))

    dashes_taken : (words : List Text) (entries : List Entry) (e : Option Entry) (p : ℕ) → IsHeldUsable e
        → StepTakes (45 ∷ 45 ∷ []) words e entries p
    unfolding walked
    dashes_taken words entries e p usable =
        passes (walk_in entries (resting e) p) (walk_at (held entries (kept e)) idle p true) (45 ∷ 45 ∷ []) words refl refl
        ∙ trailing_taken words entries e idle p usable

    long_fault_is : (h : Held) (p : ℕ) (z : ℕ) (zs : Text)
        → turn_fault (shape c) [] (walk_at h idle p false) (45 ∷ 45 ∷ z ∷ zs)
        ≡ long_turn h idle p (45 ∷ 45 ∷ z ∷ zs) (found_option (is_among options (option_name (z ∷ zs))) (option_name (z ∷ zs))) (option_value (z ∷ zs))
    long_fault_is h p z zs = ap (λ found. long_turn h idle p (45 ∷ 45 ∷ z ∷ zs) found (option_value (z ∷ zs))) (long_is (option_name (z ∷ zs)))

    abbrev long_walk : Held → ℕ → Text → Option Rule → Option Text → Walk
    long_walk h p word found v =
        let met = long_met c found v h in
        let step = after_flag c idle word met.0 met.1 in
        after_step c word (walk_at h idle p false) step.0 step.1

    long_walk_is : (h : Held) (p : ℕ) (z : ℕ) (zs : Text)
        → walked c [] (walk_at h idle p false) (45 ∷ 45 ∷ z ∷ zs)
        ≡ long_walk h p (45 ∷ 45 ∷ z ∷ zs) (found_option (is_among options (option_name (z ∷ zs))) (option_name (z ∷ zs))) (option_value (z ∷ zs))
    unfolding walked
    long_walk_is h p z zs = ap (λ found. long_walk h p (45 ∷ 45 ∷ z ∷ zs) found (option_value (z ∷ zs))) (long_is (option_name (z ∷ zs)))

    abbrev long_parts : List Text → Bool → Text → Option Text → Option (List Part)
    long_parts words b n v = cond b (valued n v (λ waiting. parts_of options waiting words)) None

    long_taken : (z : ℕ) (zs : Text) (words : List Text) → TakesParts words → (entries : List Entry) (e : Option Entry) (p : ℕ) → IsHeldUsable e
        → StepTakes (45 ∷ 45 ∷ z ∷ zs) words e entries p
    long_taken z zs words later entries e p usable =
        go (joined entries e) refl (is_among options n) refl (option_value (z ∷ zs))
        (long_fault_is (held entries (kept e)) p z zs) (long_walk_is (held entries (kept e)) p z zs)
      where
        n : Text
        n = option_name (z ∷ zs)

        go : (o : Option (List Entry)) → joined entries e ≡ o → (b : Bool) → is_among options n ≡ b → (v : Option Text)
            → turn_fault (shape c) [] (walk_in entries (resting e) p) (45 ∷ 45 ∷ z ∷ zs)
            ≡ long_turn (held entries (kept e)) idle p (45 ∷ 45 ∷ z ∷ zs) (found_option b n) v
            → walked c [] (walk_in entries (resting e) p) (45 ∷ 45 ∷ z ∷ zs)
            ≡ long_walk (held entries (kept e)) p (45 ∷ 45 ∷ z ∷ zs) (found_option b n) v
            → answer (walk_in entries (resting e) p) ((45 ∷ 45 ∷ z ∷ zs) ∷ words) ≡ target o p (long_parts words b n v)
        go None is b known v turn walk =
            let bad = long_bad (held entries (kept e)) idle p (45 ∷ 45 ∷ z ∷ zs) n b v _ _ (settle_bad entries e usable is) in
            fails (walk_in entries (resting e) p) (45 ∷ 45 ∷ z ∷ zs) words bad.0 bad.1.0 (turn ∙ bad.1.1)
        go (Some more) is false known v turn walk =
            fails (walk_in entries (resting e) p) (45 ∷ 45 ∷ z ∷ zs) words _ _ turn
        go (Some more) is true known None turn walk =
            passes (walk_in entries (resting e) p) _ (45 ∷ 45 ∷ z ∷ zs) words
            (turn ∙ ap (λ f. or_else f []) (settle_ok entries more e usable is))
            (walk ∙ ap (λ (h : Held). walk_at (record h { pending = Some (n, []) }) (option_waits n) p false) (settled_ok entries more e usable is))
            ∙ later more (expecting n) p known
        go (Some more) is true known (Some t) turn walk = attached (added more (n, t)) refl
          where
            now : Held
            now = held entries (kept e)

            clean : settle_fault c false (held entries (kept e)) ≡ []
            clean = settle_ok entries more e usable is

            fault_is : turn_fault (shape c) [] (walk_in entries (resting e) p) (45 ∷ 45 ∷ z ∷ zs)
                ≡ or_else (use_fault false (value_rule n (Some n) None) (t ∷ []) (rows_for more)) []
            fault_is = turn ∙ (ap (λ f. or_else (or_else f (use_fault false (value_rule n (Some n) None) (t ∷ []) (settled c (held entries (kept e))).rows)) []) clean
                ∙ ap (λ (h : Held). or_else (use_fault false (value_rule n (Some n) None) (t ∷ []) h.rows) []) (settled_ok entries more e usable is))

            walk_is : walked c [] (walk_in entries (resting e) p) (45 ∷ 45 ∷ z ∷ zs)
                ≡ walk_at (record (held more None) { rows = used (value_rule n (Some n) None) (t ∷ []) (rows_for more) }) idle p false
            walk_is = walk ∙ ap (λ (h : Held). walk_at (record h { rows = used (value_rule n (Some n) None) (t ∷ []) h.rows; pending = None }) idle p false)
                (settled_ok entries more e usable is)

            again : (b : Bool) → cond b None (Some (more ++ (n, t) ∷ [])) ≡ None → b ≡ true
            again true h = refl
            again false h = cc

            new : (b : Bool) (most : List Entry) → cond b None (Some (more ++ (n, t) ∷ [])) ≡ Some most → (b ≡ false) × (more ++ (n, t) ∷ [] ≡ most)
            new true most h = cc
            new false most h = (refl, cc)

            attached : (o : Option (List Entry)) → added more (n, t) ≡ o
                → answer (walk_in entries (resting e) p) ((45 ∷ 45 ∷ z ∷ zs) ∷ words) ≡ target (Some more) p (with_part (option n t) (parts_of options None words))
            attached None twice =
                fails (walk_in entries (resting e) p) (45 ∷ 45 ∷ z ∷ zs) words _ _
                (fault_is ∙ ap (λ f. or_else f []) (use-again n t (Some n) None more (again (has n more) twice)))
                ∙ (ap (λ o. target o p (parts_of options None words)) (sym twice) ∙ option_target more p n t (parts_of options None words))
            attached (Some most) once =
                passes (walk_in entries (resting e) p) _ (45 ∷ 45 ∷ z ∷ zs) words
                (fault_is ∙ ap (λ f. or_else f []) (use-new n t (Some n) None more (new (has n more) most once).0))
                (walk_is ∙ ap (λ rows. walk_at (record (held more None) { rows = rows }) idle p false)
                (used-new n t (Some n) None more (new (has n more) most once).0 ∙ ap rows_for (new (has n more) most once).1))
                ∙ (later most (resting None) p tt
                ∙ (ap (λ o. target o p (parts_of options None words)) (sym once) ∙ option_target more p n t (parts_of options None words)))

    short_parts : (y : ℕ) (ys : Text) (words : List Text) → (y == 45) ≡ false → parts_of options None ((45 ∷ y ∷ ys) ∷ words) ≡ None
    short_parts y ys words other =
        ap (λ b. cond b (Some (map name words)) (option_parts options (after_dashes (45 ∷ y ∷ ys)) (λ waiting. parts_of options waiting words)))
        (short_dashes y ys other)
        ∙ ap (λ b. option_parts options (cond b (Some ys) None) (λ waiting. parts_of options waiting words)) other

    short_taken : (y : ℕ) (ys : Text) (words : List Text) → (y == 45) ≡ false → IsUtf8 (45 ∷ y ∷ ys) → (entries : List Entry) (e : Option Entry) (p : ℕ)
        → StepTakes (45 ∷ y ∷ ys) words e entries p
    short_taken y ys words other text entries e p =
        fails (walk_in entries (resting e) p) (45 ∷ y ∷ ys) words _ _ (short_bad entries (kept e) idle p y ys other text)
        ∙ (sym (no_parts (joined entries e) p) ∙ ap (target (joined entries e) p) (sym (short_parts y ys words other)))

    rest_step : (word : Text) (words : List Text) → IsUtf8 word → TakesParts words → WordKind word → (entries : List Entry) (e : Option Entry) (p : ℕ)
        → IsHeldUsable e → StepTakes word words e entries p
    rest_step word words text later (inl k) entries e p usable = plain_taken word words later k entries e p usable
    rest_step word words text later (inr (inl is)) entries e p usable =
        subst (λ t. StepTakes t words e entries p) (sym is) (dashes_taken words entries e p usable)
    rest_step word words text later (inr (inr (inl l))) entries e p usable =
        subst (λ t. StepTakes t words e entries p) (sym l.1.1) (long_taken l.0 l.1.0 words later entries e p usable)
    rest_step word words text later (inr (inr (inr s))) entries e p usable =
        subst (λ t. StepTakes t words e entries p) (sym s.1.1.0) (short_taken s.0 s.1.0 words s.1.1.1 (subst IsUtf8 s.1.1.0 text) entries e p)

    -- ---- an option's value in the next word

    abbrev ValueTakes : Text → List Text → Text → List Entry → ℕ → Type 0
    ValueTakes word words n entries p =
        answer (walk_in entries (expecting n) p) (word ∷ words) ≡ target (Some entries) p (parts_of options (Some n) (word ∷ words))

    empty_bad : (entries : List Entry) (n : Text) → is_among options n ≡ true
        → settle_fault c false (held entries (Some (n, []))) ≡ kind.InvalidValue ∷ []
    empty_bad entries n known = settle_found entries n [] (Some n, (None, option_is n known))

    value_turn : (h : Held) (n : Text) (p : ℕ) (word : Text) → IsPlainWord word
        → turn_fault (shape c) [] (walk_at h (option_waits n) p false) word ≡ []
    value_turn h n p word k = let a = k.dashes in let b = k.long in let d = k.short in rw (a, b, d) refl

    abbrev value_after : Held → Text → ℕ → Text → Option Rule → Walk
    value_after h n p word found = walk_at (option_word found n word h).0 (option_word found n word h).1 p false

    value_step : (h : Held) (n : Text) (p : ℕ) (word : Text) → IsPlainWord word
        → walked c [] (walk_at h (option_waits n) p false) word ≡ value_after h n p word (arg_by_id c n)
    unfolding walked
    value_step h n p word k = let a = k.dashes in let b = k.long in let d = k.short in rw (a, b, d) refl

    value_taken : (word : Text) (words : List Text) → TakesParts words → IsPlainWord word → (n : Text) (entries : List Entry) (p : ℕ)
        → is_among options n ≡ true → ValueTakes word words n entries p
    value_taken word words later k n entries p known =
        let h : Held = held entries (Some (n, [])) in
        let name_is = k.name in
        let after : value_after h n p word (arg_by_id c n) ≡ walk_in entries (resting (Some (n, word))) p =
        ap (value_after h n p word) (option_is n known)
        ∙ ap (λ b. walk_at (held entries (Some (n, word ∷ []))) (cond (nat_lt (cond b 1 0) 1) (option_waits n) idle) p false) (same_bytes n) in
        let parts : parts_of options (Some n) (word ∷ words) ≡ with_part (option n word) (parts_of options None words) = rw name_is refl in
        passes (walk_in entries (expecting n) p) _ word words (value_turn h n p word k) (value_step h n p word k ∙ after)
        ∙ (later entries (resting (Some (n, word))) p (Some n, (None, option_is n known))
        ∙ (option_target entries p n word (parts_of options None words) ∙ ap (target (Some entries) p) (sym parts)))

    value_dashes : (words : List Text) (n : Text) (entries : List Entry) (p : ℕ) → is_among options n ≡ true → ValueTakes (45 ∷ 45 ∷ []) words n entries p
    unfolding walked
    value_dashes words n entries p known =
        passes (walk_in entries (expecting n) p) (walk_at (held entries (Some (n, []))) (option_waits n) p true) (45 ∷ 45 ∷ []) words refl refl
        ∙ trailing_bad (held entries (Some (n, []))) (option_waits n) p words _ _ (empty_bad entries n known)

    value_long : (z : ℕ) (zs : Text) (words : List Text) (n : Text) (entries : List Entry) (p : ℕ) → is_among options n ≡ true
        → ValueTakes (45 ∷ 45 ∷ z ∷ zs) words n entries p
    value_long z zs words n entries p known =
        let h : Held = held entries (Some (n, [])) in
        let m : Text = option_name (z ∷ zs) in
        let turn : turn_fault (shape c) [] (walk_at h (option_waits n) p false) (45 ∷ 45 ∷ z ∷ zs)
        ≡ long_turn h (option_waits n) p (45 ∷ 45 ∷ z ∷ zs) (found_option (is_among options m) m) (option_value (z ∷ zs)) =
        ap (λ found. long_turn h (option_waits n) p (45 ∷ 45 ∷ z ∷ zs) found (option_value (z ∷ zs))) (long_is m) in
        let bad = long_bad h (option_waits n) p (45 ∷ 45 ∷ z ∷ zs) m (is_among options m) (option_value (z ∷ zs)) _ _ (empty_bad entries n known) in
        fails (walk_in entries (expecting n) p) (45 ∷ 45 ∷ z ∷ zs) words bad.0 bad.1.0 (turn ∙ bad.1.1)

    value_short : (y : ℕ) (ys : Text) (words : List Text) → (y == 45) ≡ false → IsUtf8 (45 ∷ y ∷ ys) → (n : Text) (entries : List Entry) (p : ℕ)
        → ValueTakes (45 ∷ y ∷ ys) words n entries p
    value_short y ys words other text n entries p =
        fails (walk_in entries (expecting n) p) (45 ∷ y ∷ ys) words _ _ (short_bad entries (Some (n, [])) (option_waits n) p y ys other text)

    value_kinds : (word : Text) (words : List Text) → IsUtf8 word → TakesParts words → WordKind word → (n : Text) (entries : List Entry) (p : ℕ)
        → is_among options n ≡ true → ValueTakes word words n entries p
    value_kinds word words text later (inl k) n entries p known = value_taken word words later k n entries p known
    value_kinds word words text later (inr (inl is)) n entries p known =
        subst (λ t. ValueTakes t words n entries p) (sym is) (value_dashes words n entries p known)
    value_kinds word words text later (inr (inr (inl l))) n entries p known =
        subst (λ t. ValueTakes t words n entries p) (sym l.1.1) (value_long l.0 l.1.0 words n entries p known)
    value_kinds word words text later (inr (inr (inr s))) n entries p known =
        subst (λ t. ValueTakes t words n entries p) (sym s.1.1.0) (value_short s.0 s.1.0 words s.1.1.1 (subst IsUtf8 s.1.1.0 text) n entries p)

    -- ---- all words

    pub takes_parts : (words : List Text) → AreTexts words → TakesParts words
    takes_parts [] texts entries (resting e) p usable = end_taken entries e idle p false usable
    takes_parts [] texts entries (expecting n) p known = fails_at_end (walk_in entries (expecting n) p) _ _ (empty_bad entries n known)
    takes_parts (word ∷ words) texts entries (resting e) p usable =
        rest_step word words texts.0 (takes_parts words texts.1) (kind_of_word word) entries e p usable
    takes_parts (word ∷ words) texts entries (expecting n) p known =
        value_kinds word words texts.0 (takes_parts words texts.1) (kind_of_word word) n entries p known
