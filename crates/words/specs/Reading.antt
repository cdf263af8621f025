-- What the words of a command line ask for.
use Rattle.std.specs.Prelude.{ℕ, Bool, false, List, [], ◌∷◌, Option, None, Some, if◌then◌else◌, ◌&&◌, ◌||◌, nat_lt, nat_le, length, bytes_eq, codes, option_and_then, option_map}
use Rattle.std.specs.List.{list_all}
use Rattle.std.specs.Char.{is_ascii_digit}
use Rattle.std.specs.Str.Parse.{digits_value}
use Rattle.words.specs.Commands.{Text, Names, Command, convert, steps, extract, expansion, check, generate, dedukti, dkcheck, help}
use Rattle.words.specs.Parts.{Part, name, option, parts_of}

-- ---- numbers

-- One to eight decimal digits.
abbrev pub is_number : Text → Bool
is_number text = nat_lt 0 (length text) && nat_le (length text) 8 && list_all is_ascii_digit text

-- The number from 1 to `most` that a text writes.
abbrev pub number_to : ℕ → Text → Option ℕ
number_to most text =
    if is_number text && (nat_le 1 (digits_value 10 text) && nat_le (digits_value 10 text) most) then Some (digits_value 10 text)
    else None

-- The number that an option gives, or its default where it isn't given.
abbrev pub number_or : ℕ → ℕ → Option Text → Option ℕ
number_or default most None = Some default
number_or default most (Some text) = number_to most text

-- The limit on the weight is 1,000,000 or from 1 to 40,000,000, the number of workers 4 or from 1 to 64.
abbrev pub limit_of : Option Text → Option ℕ
limit_of = number_or 1000000 40000000

abbrev pub workers_of : Option Text → Option ℕ
workers_of = number_or 4 64

-- ---- what the parts give

-- The names among the parts, in order.
abbrev pub names_in : List Part → List Text
names_in [] = []
names_in (name text ∷ rest) = text ∷ names_in rest
names_in (option option_is value ∷ rest) = names_in rest

-- The values of an option, in order.
abbrev pub values_in : Text → List Part → List Text
values_in wanted [] = []
values_in wanted (name text ∷ rest) = values_in wanted rest
values_in wanted (option option_is value ∷ rest) =
    if bytes_eq option_is wanted then value ∷ values_in wanted rest else values_in wanted rest

-- The one value, or nothing, of an option that stands at most once.
abbrev pub at_most_one : List Text → Option (Option Text)
at_most_one [] = Some None
at_most_one (value ∷ []) = Some (Some value)
at_most_one (value ∷ second ∷ rest) = None

-- Names, and the values of the two options.
pub record Given : Type 0 where
  pub names : List Text
  pub limit : Option Text
  pub workers : Option Text

-- What the parts give, where no option stands twice.
abbrev pub given_by : List Part → Option Given
given_by parts =
    option_and_then (λ limit. option_map (λ workers. record { names = names_in parts; limit = limit; workers = workers })
    (at_most_one (values_in (codes "workers") parts))) (at_most_one (values_in (codes "limit") parts))

-- What words give to a command with these options.
abbrev pub given_of : List Text → List Text → Option Given
given_of options words = option_and_then given_by (parts_of options None words)

-- ---- commands

abbrev pub limit_and_workers : List Text
limit_and_workers = codes "limit" ∷ codes "workers" ∷ []

abbrev pub only_workers : List Text
only_workers = codes "workers" ∷ []

-- A problem, a trace, and two numbers.
pub record Files : Type 0 where
  pub names : Names
  pub limit : ℕ
  pub workers : ℕ

abbrev pub files_on : ℕ → ℕ → List Text → Option Files
files_on limit workers (problem ∷ trace ∷ []) =
    Some (record { names = record { problem = problem; trace = trace }; limit = limit; workers = workers })
files_on limit workers names = None

-- A command on a problem and a trace is given two names.
abbrev pub files_of : Given → Option Files
files_of given = option_and_then (λ limit. option_and_then (λ workers. files_on limit workers given.names)
    (workers_of given.workers)) (limit_of given.limit)

abbrev pub files_in : List Text → List Text → Option Files
files_in options words = option_and_then files_of (given_of options words)

abbrev pub sole_name : List Text → Option Text
sole_name (text ∷ []) = Some text
sole_name names = None

-- `check` is given one name.
abbrev pub file_in : List Text → Option Text
file_in words = option_and_then (λ (given : Given). sole_name given.names) (given_of [] words)

-- A number of workers, and what `generate` makes files for.
pub record Task : Type 0 where
  pub number : ℕ
  pub workers : ℕ

-- `generate` is given a number from 1 to 500.
abbrev pub task_of : Given → Option Task
task_of given = option_and_then (λ workers. option_map (λ n. record { number = n; workers = workers })
    (option_and_then (number_to 500) (sole_name given.names))) (workers_of given.workers)

abbrev pub task_in : List Text → Option Task
task_in words = option_and_then task_of (given_of only_workers words)

abbrev pub help_on : List Text → Option Command
help_on [] = Some help
help_on (word ∷ rest) = None

-- What each command's words ask for.
abbrev pub converting : List Text → Option Command
converting words = option_map (λ (files : Files). convert files.names files.limit files.workers) (files_in limit_and_workers words)

abbrev pub stepping : List Text → Option Command
stepping words = option_map (λ (files : Files). steps files.names files.workers) (files_in only_workers words)

abbrev pub extracting : List Text → Option Command
extracting words = option_map (λ (files : Files). extract files.names files.workers) (files_in only_workers words)

abbrev pub expanding : List Text → Option Command
expanding words = option_map (λ (files : Files). expansion files.names files.limit files.workers) (files_in limit_and_workers words)

abbrev pub checking : List Text → Option Command
checking words = option_map check (file_in words)

abbrev pub generating : List Text → Option Command
generating words = option_map (λ (task : Task). generate task.number task.workers) (task_in words)

abbrev pub converting_to_dedukti : List Text → Option Command
converting_to_dedukti words = option_map (λ (files : Files). dedukti files.names files.limit files.workers) (files_in limit_and_workers words)

abbrev pub checking_dedukti : List Text → Option Command
checking_dedukti words = option_map dkcheck (file_in words)

-- What a command's word asks for with the words after it.
abbrev pub command_on : Text → List Text → Option Command
command_on word words =
    if bytes_eq word (codes "convert") then converting words
    else (if bytes_eq word (codes "steps") then stepping words
    else (if bytes_eq word (codes "extract") then extracting words
    else (if bytes_eq word (codes "expansion") then expanding words
    else (if bytes_eq word (codes "check") then checking words
    else (if bytes_eq word (codes "generate") then generating words
    else (if bytes_eq word (codes "dedukti") then converting_to_dedukti words
    else (if bytes_eq word (codes "dkcheck") then checking_dedukti words
    else (if bytes_eq word (codes "--help") then help_on words else None))))))))

-- What the words ask for, if anything.
abbrev pub command_of : List Text → Option Command
command_of [] = None
command_of (word ∷ words) = command_on word words

-- The word is a command's.
abbrev pub is_command : Text → Bool
is_command word = bytes_eq word (codes "convert") || (bytes_eq word (codes "steps") || (bytes_eq word (codes "extract")
    || (bytes_eq word (codes "expansion") || (bytes_eq word (codes "check") || (bytes_eq word (codes "generate")
    || (bytes_eq word (codes "dedukti") || bytes_eq word (codes "dkcheck")))))))

-- The first word is a command's, so that the others are read.
abbrev pub asks_command : List Text → Bool
asks_command [] = false
asks_command (word ∷ words) = is_command word
