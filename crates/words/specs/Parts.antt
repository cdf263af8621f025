-- The words after a command's word, in parts: names, and options with their values.
use Rattle.std.specs.Prelude.{ℕ, Bool, false, List, [], ◌∷◌, Option, None, Some, if◌then◌else◌, ◌==◌, ◌&&◌, bytes_eq, codes, map, option_map}
use Rattle.std.specs.List.{after_first, before_first, list_any}
use Rattle.words.specs.Commands.{Text}

-- A name, or an option's name and value.
pub data Part : Type 0 where
  name : Text → Part
  option : Text → Text → Part

-- A word begins with `-` and goes on.
abbrev pub is_option : Text → Bool
is_option [] = false
is_option (first ∷ []) = false
is_option (first ∷ second ∷ rest) = first == 45

-- What follows `--` at a word's front.
abbrev pub after_dashes : Text → Option Text
after_dashes [] = None
after_dashes (first ∷ []) = None
after_dashes (first ∷ second ∷ rest) = if first == 45 && second == 45 then Some rest else None

abbrev is_equals : ℕ → Bool
is_equals byte = byte == 61

-- An option's name, from what follows its `--`: it ends at the first `=`.
abbrev pub option_name : Text → Text
option_name rest = before_first is_equals rest

-- What stands behind the first `=`, where there is one.
abbrev pub option_value : Text → Option Text
option_value rest = if list_any is_equals rest then Some (after_first is_equals rest) else None

-- A text is among these.
abbrev pub is_among : List Text → Text → Bool
is_among texts text = list_any (λ other. bytes_eq other text) texts

-- One more part.
abbrev pub with_part : Part → Option (List Part) → Option (List Part)
with_part part = option_map (λ parts. part ∷ parts)

-- An option takes the value behind its `=`, or else waits for the next word.
abbrev pub valued : Text → Option Text → (Option Text → Option (List Part)) → Option (List Part)
valued option_is (Some value) parts_after = with_part (option option_is value) (parts_after None)
valued option_is None parts_after = parts_after (Some option_is)

-- What follows the dashes names one of these options.
abbrev pub option_parts : List Text → Option Text → (Option Text → Option (List Part)) → Option (List Part)
option_parts options None parts_after = None
option_parts options (Some rest) parts_after =
    if is_among options (option_name rest) then valued (option_name rest) (option_value rest) parts_after else None

-- The parts of words where these options may stand, or none where a word is another option or an option has no value.
-- An option that stands before the words may wait for its value, which is a word that is no option. After `--`, which is
-- no part itself, all words are names; before it a word that begins with `-` and isn't `-` alone is an option.
abbrev pub parts_of : List Text → Option Text → List Text → Option (List Part)
parts_of options None [] = Some []
parts_of options None (word ∷ rest) =
    if bytes_eq word (codes "--") then Some (map name rest)
    else (if is_option word then option_parts options (after_dashes word) (λ waiting. parts_of options waiting rest)
    else with_part (name word) (parts_of options None rest))
parts_of options (Some waiting) [] = None
parts_of options (Some waiting) (word ∷ rest) =
    if is_option word then None else with_part (option waiting word) (parts_of options None rest)
