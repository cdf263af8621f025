-- Command lines that are read, and some that aren't.
use Rattle.std.proofs.Common.{◌≡◌, [], ◌∷◌, Some, None, codes, refl}
use Rattle.words.specs.Commands.{Names, check, convert, generate, help, steps}
use Rattle.words.specs.Reading.{command_of}

abbrev a_and_b : Names
a_and_b = record { problem = codes "a"; trace = codes "b" }

no_words : command_of [] ≡ None
no_words = refl

no_command : command_of (codes "frob" ∷ []) ≡ None
no_command = refl

one_name : command_of (codes "convert" ∷ codes "a" ∷ []) ≡ None
one_name = refl

three_names : command_of (codes "steps" ∷ codes "a" ∷ codes "b" ∷ codes "c" ∷ []) ≡ None
three_names = refl

limit_of_nought : command_of (codes "convert" ∷ codes "a" ∷ codes "b" ∷ codes "--limit" ∷ codes "0" ∷ []) ≡ None
limit_of_nought = refl

many_workers : command_of (codes "convert" ∷ codes "a" ∷ codes "b" ∷ codes "--workers=65" ∷ []) ≡ None
many_workers = refl

limit_twice : command_of (codes "convert" ∷ codes "a" ∷ codes "b" ∷ codes "--limit" ∷ codes "5" ∷ codes "--limit" ∷ codes "6" ∷ []) ≡ None
limit_twice = refl

shortened : command_of (codes "convert" ∷ codes "a" ∷ codes "b" ∷ codes "--lim" ∷ codes "5" ∷ []) ≡ None
shortened = refl

steps_without_limit : command_of (codes "steps" ∷ codes "a" ∷ codes "b" ∷ codes "--limit=5" ∷ []) ≡ None
steps_without_limit = refl

help_and_more : command_of (codes "--help" ∷ codes "a" ∷ []) ≡ None
help_and_more = refl

signed : command_of (codes "generate" ∷ codes "+5" ∷ []) ≡ None
signed = refl

nine_digits : command_of (codes "generate" ∷ codes "000000005" ∷ []) ≡ None
nine_digits = refl

asks_help : command_of (codes "--help" ∷ []) ≡ Some help
asks_help = refl

names_after_dashes : command_of (codes "convert" ∷ codes "--limit=65" ∷ codes "--" ∷ codes "a" ∷ codes "b" ∷ []) ≡ Some (convert a_and_b 65 4)
names_after_dashes = refl

dashes_last : command_of (codes "convert" ∷ codes "a" ∷ codes "b" ∷ codes "--" ∷ []) ≡ Some (convert a_and_b 1000000 4)
dashes_last = refl

options_between : command_of (codes "steps" ∷ codes "a" ∷ codes "--workers" ∷ codes "64" ∷ codes "b" ∷ []) ≡ Some (steps a_and_b 64)
options_between = refl

dashes_twice : command_of (codes "check" ∷ codes "--" ∷ codes "--" ∷ []) ≡ Some (check (codes "--"))
dashes_twice = refl

a_dash_alone : command_of (codes "check" ∷ codes "-" ∷ []) ≡ Some (check (codes "-"))
a_dash_alone = refl

empty_name : command_of (codes "check" ∷ [] ∷ []) ≡ Some (check [])
empty_name = refl

eight_digits : command_of (codes "generate" ∷ codes "00000005" ∷ []) ≡ Some (generate 5 4)
eight_digits = refl
