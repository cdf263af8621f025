-- The command lines of clap that the words go to, and what it reads. This mirrors the code; nothing public cites it.
use Rattle.std.specs.Prelude.{Bool, true, false, List, [], ◌∷◌, Option, Some, None, codes}
use Rattle.clap.specs.Words.{App, Kinds, Row, Rule, first_of, matches_of, new_app, new_rule, with_rule, fault_of}
use Rattle.clap.specs.Simple.{on_top}
use Rattle.words.specs.Commands.{Text}
use Rattle.words.specs.Reading.{Given}

-- A positional argument.
abbrev pub name_rule : Text → Rule
name_rule id = new_rule id

-- An option with its value.
abbrev pub option_rule : Text → Rule
option_rule id = record (new_rule id) { long = Some id }

-- A command line without flags of its own.
abbrev pub bare : App
bare = on_top (λ s. record s { no_binary_name = true; disable_help_flag = true; disable_version_flag = true }) (new_app (codes "ekskon"))

-- One more positional argument, and one more option.
abbrev pub with_name : App → Text → App
with_name app id = with_rule app (name_rule id)

abbrev pub with_option : App → Text → App
with_option app id = with_rule app (option_rule id)

-- A second positional argument, or an option, where it is taken.
abbrev pub name_if : Bool → App → Text → App
name_if true app id = with_name app id
name_if false app id = app

abbrev pub option_if : Bool → App → Text → App
option_if true app id = with_option app id
option_if false app id = app

-- The command line with a name, a second one or none, and a limit and a number of workers or none.
abbrev pub app_for : Bool → Bool → Bool → App
app_for second limit workers =
    option_if workers (option_if limit (name_if second (with_name bare (codes "FIRST")) (codes "SECOND")) (codes "limit")) (codes "workers")

-- Rows, where nothing is at fault.
abbrev pub rows_if : Kinds → List Row → Option (List Row)
rows_if [] rows = Some rows
rows_if (kind ∷ kinds) rows = None

-- What clap finds in words, where it takes them.
abbrev pub rows_read : App → List Text → Option (List Row)
rows_read app words = rows_if (fault_of app words) (matches_of app words)

-- The texts that were found.
pub record Picked : Type 0 where
  pub first : Option Text
  pub second : Option Text
  pub limit : Option Text
  pub workers : Option Text

abbrev pub picked_from : List Row → Picked
picked_from rows = record {
  first = first_of (codes "FIRST") rows;
  second = first_of (codes "SECOND") rows;
  limit = first_of (codes "limit") rows;
  workers = first_of (codes "workers") rows;
}

-- The names that were found, in order.
abbrev pub names_found : Option Text → Option Text → List Text
names_found None second = []
names_found (Some first) None = first ∷ []
names_found (Some first) (Some second) = first ∷ second ∷ []

-- What was found, as it is given to a command.
abbrev pub given_found : Picked → Given
given_found p = record { names = names_found p.first p.second; limit = p.limit; workers = p.workers }
