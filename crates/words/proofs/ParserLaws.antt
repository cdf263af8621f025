-- The command lines of clap take names and options as the walk's laws ask.
use Rattle.std.proofs.Common.{◌≡◌, ◌∙◌, ◌==◌, ◌&&◌, ◌||◌, ℕ, Bool, cond, codes, true, false, not, refl, sym, ap, ap₂, arith, List, [], ◌∷◌, map, Option, Some, None, option_map, inl, inr, true≢false, bytes_eq, fold}
use Rattle.std.specs.List.{list_any}
use Rattle.std.proofs.lemmas.Bool.Decides.{nat_tests}
use Rattle.clap.specs.Words.{Row, is_simple_and_free}
use Rattle.clap.specs.Kinds.{HasKind, Kinds, check_kinds, or_else}
use Rattle.clap.specs.Values.{kind_of}
use Rattle.clap.specs.declared.error.Error.{Error}
use Rattle.clap.specs.declared.error.kind.ErrorKind.TheVariants as kind
use Rattle.clap.specs.Faults.{check_fault, default_fault, given_default_fault, defaults_fault, level_fault, settle_fault, walk_fault}
use Rattle.clap.specs.Takes.{is_given}
use Rattle.clap.specs.Walk.{Held, Rule, Text, arg_by_id, arg_by_index, arg_by_long, arg_by_short, default_rows, finished, has_row, idle, nothing_held, settled, walk, with_default, is_empty, reading_by}
use Rattle.words.specs.Parser.{app_for, rows_if}
use Rattle.words.specs.Parts.{is_among}
use Rattle.words.proofs.WalkLaws.{held, shape, value_rule, walk_at}

abbrev pub first_id : Text
first_id = codes "FIRST"

abbrev pub second_id : Text
second_id = codes "SECOND"

-- The options that are taken.
abbrev pub options_if : Bool → Bool → List Text
options_if true true = codes "limit" ∷ codes "workers" ∷ []
options_if true false = codes "limit" ∷ []
options_if false true = codes "workers" ∷ []
options_if false false = []

-- The id of a place.
abbrev pub id_at : Bool → ℕ → Option Text
id_at second i = cond (1 == i) (Some first_id) (cond (2 == i) (cond second (Some second_id) None) None)

abbrev pub option_rules : List Text → List Rule
option_rules = map (λ n. value_rule n (Some n) None)

abbrev pub rules_for : Bool → List Text → List Rule
rules_for true options = value_rule first_id None (Some 1) ∷ value_rule second_id None (Some 2) ∷ option_rules options
rules_for false options = value_rule first_id None (Some 1) ∷ option_rules options

same_number : (x y : ℕ) → (x == y) ≡ true → x ≡ y
same_number x y h = grind (arith, nat_tests)

both : (a b : Bool) → (a && b) ≡ true → (a ≡ true) × (b ≡ true)
both true b h = (refl, h)
both false b h = absurd (true≢false (sym h))

-- Texts that compare equal are equal.
pub same_text : (a b : Text) → bytes_eq a b ≡ true → a ≡ b
same_text [] [] h = refl
same_text [] (y ∷ ys) h = absurd (true≢false (sym h))
same_text (x ∷ xs) [] h = absurd (true≢false (sym h))
same_text (x ∷ xs) (y ∷ ys) h =
    let parts = both (x == y) (bytes_eq xs ys) h in
    ap₂ (λ (n : ℕ) (t : Text). n ∷ t) (same_number x y parts.0) (same_text xs ys parts.1)

or_false : (b : Bool) → (b || false) ≡ b
or_false true = refl
or_false false = refl

option_by_index : (options : List Text) (i : ℕ) → arg_by_index (option_rules options) i ≡ None
option_by_index [] i = refl
option_by_index (n ∷ options) i = option_by_index options i

option_by_short : (options : List Text) (x : ℕ) → arg_by_short (option_rules options) x ≡ None
option_by_short [] x = refl
option_by_short (n ∷ options) x = option_by_short options x

option_by_long : (options : List Text) (n : Text)
    → arg_by_long (option_rules options) n ≡ cond (is_among options n) (Some (value_rule n (Some n) None)) None
option_by_long [] n = refl
option_by_long (m ∷ options) n =
    ap (λ b. cond b (Some (value_rule m (Some m) None)) (arg_by_long (option_rules options) n)) (or_false (bytes_eq m n)) ∙ go (bytes_eq m n) (option_by_long options n) refl
  where
    go : (b : Bool) → arg_by_long (option_rules options) n ≡ cond (is_among options n) (Some (value_rule n (Some n) None)) None
        → bytes_eq m n ≡ b → cond b (Some (value_rule m (Some m) None)) (arg_by_long (option_rules options) n)
        ≡ cond (b || is_among options n) (Some (value_rule n (Some n) None)) None
    go true rest h = ap (λ (t : Text). Some (value_rule t (Some t) None)) (same_text m n h)
    go false rest h = rest

option_by_id : (options : List Text) (n : Text) → is_among options n ≡ true
    → arg_by_id (option_rules options) n ≡ Some (value_rule n (Some n) None)
option_by_id [] n known = absurd (true≢false (sym known))
option_by_id (m ∷ options) n known = go (bytes_eq m n) (option_by_id options n) refl known
  where
    go : (b : Bool) → (is_among options n ≡ true → arg_by_id (option_rules options) n ≡ Some (value_rule n (Some n) None)) → bytes_eq m n ≡ b
        → (b || is_among options n) ≡ true
        → cond b (Some (value_rule m (Some m) None)) (arg_by_id (option_rules options) n) ≡ Some (value_rule n (Some n) None)
    go true rest h known = ap (λ (t : Text). Some (value_rule t (Some t) None)) (same_text m n h)
    go false rest h known = rest known

-- ---- what the walk's laws ask

pub index_is : (second : Bool) (options : List Text) (i : ℕ)
    → arg_by_index (rules_for second options) i ≡ option_map (λ id. value_rule id None (Some i)) (id_at second i)
index_is true options i = go (1 == i) (2 == i) refl refl
  where
    go : (a b : Bool) → (1 == i) ≡ a → (2 == i) ≡ b
        → cond a (Some (value_rule first_id None (Some 1))) (cond b (Some (value_rule second_id None (Some 2))) (arg_by_index (option_rules options) i))
        ≡ option_map (λ id. value_rule id None (Some i)) (cond a (Some first_id) (cond b (Some second_id) None))
    go true b h k = ap (λ (n : ℕ). Some (value_rule first_id None (Some n))) (same_number 1 i h)
    go false true h k = ap (λ (n : ℕ). Some (value_rule second_id None (Some n))) (same_number 2 i k)
    go false false h k = option_by_index options i
index_is false options i = go (1 == i) (2 == i) refl
  where
    go : (a b : Bool) → (1 == i) ≡ a
        → cond a (Some (value_rule first_id None (Some 1))) (arg_by_index (option_rules options) i)
        ≡ option_map (λ id. value_rule id None (Some i)) (cond a (Some first_id) (cond b None None))
    go true b h = ap (λ (n : ℕ). Some (value_rule first_id None (Some n))) (same_number 1 i h)
    go false true h = option_by_index options i
    go false false h = option_by_index options i

pub long_is : (second : Bool) (options : List Text) (n : Text)
    → arg_by_long (rules_for second options) n ≡ cond (is_among options n) (Some (value_rule n (Some n) None)) None
long_is true options n = option_by_long options n
long_is false options n = option_by_long options n

pub short_is : (second : Bool) (options : List Text) (x : ℕ) → arg_by_short (rules_for second options) x ≡ None
short_is true options x = option_by_short options x
short_is false options x = option_by_short options x

pub id_is : (second : Bool) (options : List Text) (i : ℕ) (id : Text) → id_at second i ≡ Some id
    → arg_by_id (rules_for second options) id ≡ Some (value_rule id None (Some i))
id_is second options i id at = go second (1 == i) (2 == i) refl refl at
  where
    same : (x y : Text) → Some x ≡ Some y → x ≡ y
    same x y h = cc

    go : (s a b : Bool) → (1 == i) ≡ a → (2 == i) ≡ b → cond a (Some first_id) (cond b (cond s (Some second_id) None) None) ≡ Some id
        → arg_by_id (rules_for s options) id ≡ Some (value_rule id None (Some i))
    go true true b h k at =
        ap (arg_by_id (rules_for true options)) (sym (same first_id id at))
        ∙ ap₂ (λ (t : Text) (n : ℕ). Some (value_rule t None (Some n))) (same first_id id at) (same_number 1 i h)
    go true false true h k at =
        ap (arg_by_id (rules_for true options)) (sym (same second_id id at))
        ∙ ap₂ (λ (t : Text) (n : ℕ). Some (value_rule t None (Some n))) (same second_id id at) (same_number 2 i k)
    go true false false h k at = cc
    go false true b h k at =
        ap (arg_by_id (rules_for false options)) (sym (same first_id id at))
        ∙ ap₂ (λ (t : Text) (n : ℕ). Some (value_rule t None (Some n))) (same first_id id at) (same_number 1 i h)
    go false false true h k at = cc
    go false false false h k at = cc

-- No option has the id of a name.
abbrev pub AreApart : List Text → Type 0
AreApart options = (is_among options first_id ≡ false) × (is_among options second_id ≡ false)

differs : (options : List Text) (id n : Text) → is_among options id ≡ false → is_among options n ≡ true → bytes_eq id n ≡ false
differs options id n apart known = go (bytes_eq id n) refl
  where
    go : (b : Bool) → bytes_eq id n ≡ b → b ≡ false
    go false h = refl
    go true h = absurd (true≢false (sym known ∙ (ap (is_among options) (sym (same_text id n h)) ∙ apart)))

pub option_is : (second : Bool) (options : List Text) → AreApart options → (n : Text) → is_among options n ≡ true
    → arg_by_id (rules_for second options) n ≡ Some (value_rule n (Some n) None)
option_is true options apart n known =
    ap₂ (λ a b. cond a (Some (value_rule first_id None (Some 1))) (cond b (Some (value_rule second_id None (Some 2))) (arg_by_id (option_rules options) n)))
    (differs options first_id n apart.0 known) (differs options second_id n apart.1 known) ∙ option_by_id options n known
option_is false options apart n known =
    ap (λ a. cond a (Some (value_rule first_id None (Some 1))) (arg_by_id (option_rules options) n))
    (differs options first_id n apart.0 known) ∙ option_by_id options n known

-- ---- after the walk

abbrev pub AreBare : List Rule → Type 0
AreBare [] = Unit {0}
AreBare (a ∷ c) = (a.defaults ≡ []) × (a.required ≡ false) × AreBare c

options_bare : (options : List Text) → AreBare (option_rules options)
options_bare [] = tt
options_bare (n ∷ options) = (refl, refl, options_bare options)

pub rules_bare : (second : Bool) (options : List Text) → AreBare (rules_for second options)
rules_bare true options = (refl, refl, (refl, refl, options_bare options))
rules_bare false options = (refl, refl, options_bare options)

cond_same : {A : Type 0} (b : Bool) (x : A) → cond b x x ≡ x
cond_same true x = refl
cond_same false x = refl

bare_default : (rows : List Row) (a : Rule) → a.defaults ≡ [] → with_default rows a ≡ rows
bare_default rows a none =
    ap (λ ds. cond (has_row a.id rows) rows (default_rows a.id (reading_by a) ds rows)) none ∙ cond_same (has_row a.id rows) rows

or_true : (b : Bool) → (b || true) ≡ true
or_true true = refl
or_true false = refl

bare_default_fault : (rows : List Row) (a : Rule) → a.defaults ≡ [] → default_fault rows a ≡ []
bare_default_fault rows a none =
    ap (λ ds. cond (has_row a.id rows || is_empty ds) [] (given_default_fault a ds)) none
    ∙ ap (λ b. cond b [] (given_default_fault a [])) (or_true (has_row a.id rows))

bare_finished : (c : List Rule) (rows : List Row) → AreBare c → fold with_default rows c ≡ rows
bare_finished [] rows bare = refl
bare_finished (a ∷ c) rows bare = ap (λ rs. fold with_default rs c) (bare_default rows a bare.0) ∙ bare_finished c rows bare.2

bare_faults : (c : List Rule) (rows : List Row) → AreBare c → defaults_fault rows c ≡ []
unfolding defaults_fault
bare_faults [] rows bare = refl
bare_faults (a ∷ c) rows bare =
    ap₂ (λ f rs. or_else f (defaults_fault rs c)) (bare_default_fault rows a bare.0) (bare_default rows a bare.0) ∙ bare_faults c rows bare.2

none_required : (c : List Rule) (rows : List Row) → AreBare c → list_any (λ a. a.required && not (is_given a.id rows)) c ≡ false
none_required [] rows bare = refl
none_required (a ∷ c) rows bare =
    ap (λ b. (b && not (is_given a.id rows)) || list_any (λ r. r.required && not (is_given r.id rows)) c) bare.1 ∙ none_required c rows bare.2

or_nothing : (f : Kinds) → or_else f [] ≡ f
or_nothing [] = refl
or_nothing (k ∷ ks) = refl

pub level_is : (c : List Rule) (words : List Text) → AreBare c
    → rows_if (level_fault (shape c) [] nothing_held words false []) (finished c (walk c [] nothing_held words).held)
    ≡ rows_if (or_else (walk_fault (shape c) [] (walk_at (held [] None) idle 1 false) words)
    (settle_fault c false (walk c [] nothing_held words).held)) (settled c (walk c [] nothing_held words).held).rows
level_is c words bare =
    let end : Held = (walk c [] nothing_held words).held in
    let wf = walk_fault (shape c) [] (walk_at (held [] None) idle 1 false) words in
    let sf = settle_fault c false end in
    let rest : or_else (defaults_fault (settled c end).rows c) (check_fault (shape c) (finished c end) false) ≡ [] =
    ap (λ f. or_else f (check_fault (shape c) (finished c end) false)) (bare_faults c (settled c end).rows bare)
    ∙ ap (λ b. check_kinds false false b) (none_required c (finished c end) bare) in
    ap (λ f. rows_if (or_else wf (or_else sf f)) (finished c end)) rest
    ∙ ap₂ (λ f rows. rows_if (or_else wf f) rows) (or_nothing sf) (bare_finished c (settled c end).rows bare)

-- Every such command line is one whose matches clap's clauses tell.
pub simple_always : (second limit workers : Bool) → is_simple_and_free (app_for second limit workers) ≡ true
simple_always true true true = refl
simple_always true true false = refl
simple_always true false true = refl
simple_always true false false = refl
simple_always false true true = refl
simple_always false true false = refl
simple_always false false true = refl
simple_always false false false = refl

-- Where an error comes that isn't want of memory, something is at fault.
pub refused_rows : (kinds : Kinds) (rows : List Row) (e : Error) → HasKind kinds e → (kind_of e ≡ kind.OutOfMemory → ⊥) → None ≡ rows_if kinds rows
refused_rows [] rows e (inl memory) other = absurd (other memory)
refused_rows [] rows e (inr among) other = absurd among
refused_rows (k ∷ kinds) rows e h other = refl
