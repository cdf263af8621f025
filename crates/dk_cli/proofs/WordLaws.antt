-- What the words' reading gives: some worker, no memory wanted for the usage text, and one command for all numbers of
-- workers.
use Rattle.std.proofs.Common.{◌≡◌, ◌&&◌, ◌||◌, ℕ, ◌<◌, Bool, true, false, if◌then◌else◌, List, [], ◌∷◌, None, Some, IfSome, refl, sym, ◌∙◌, ap, subst, arith, nat_le, bytes_eq, codes, option_map, option_and_then}
use Rattle.std.specs.declared.option.Option.{Option}
use Rattle.std.specs.Str.Parse.{digits_value}
use Rattle.std.proofs.lemmas.Bool.Decides.{nat_tests}
use Rattle.words.specs.Commands.{Names, Text, Command as Words}
use Rattle.words.specs.Commands as words
use Rattle.words.specs.Reading.{Files, Given, Task, asks_command, checking, checking_dedukti, command_of, command_on, converting, converting_to_dedukti, expanding, extracting, file_in, files_in, files_of, files_on, generating, given_of, help_on, is_command, is_number, limit_and_workers, limit_of, number_to, only_workers, sole_name, stepping, task_in, task_of, workers_of}
use Rattle.dk_cli.specs.Commands.{AreAlike, AskAlike, asked_of, without_workers}
use Rattle.dk_cli.specs.Views.{AsksWorkers}

-- ---- some worker

chosen_positive : (number low high : Bool) (n : ℕ) → (low ≡ true → 0 < n) → IfSome (if number && (low && high) then Some n else None) (λ k. 0 < k)
chosen_positive true true true n h = h refl
chosen_positive true true false n h = tt
chosen_positive true false high n h = tt
chosen_positive false low high n h = tt

number_positive : (most : ℕ) (text : Text) → IfSome (number_to most text) (λ k. 0 < k)
number_positive most text =
    let n = digits_value 10 text in
    chosen_positive (is_number text) (nat_le 1 n) (nat_le n most) n (λ h. grind (arith, nat_tests, h))

workers_positive : (given : Option Text) → IfSome (workers_of given) (λ k. 0 < k)
workers_positive None = omega arith
workers_positive (Some text) = number_positive 64 text

named_workers : (limit workers : ℕ) (names : List Text) → 0 < workers → IfSome (files_on limit workers names) (λ (files : Files). 0 < files.workers)
named_workers limit workers [] h = tt
named_workers limit workers (problem ∷ []) h = tt
named_workers limit workers (problem ∷ trace ∷ []) h = h
named_workers limit workers (problem ∷ trace ∷ third ∷ rest) h = tt

files_workers : (limit workers : Option ℕ) (names : List Text) → IfSome workers (λ k. 0 < k)
    → IfSome (option_and_then (λ limit. option_and_then (λ workers. files_on limit workers names) workers) limit) (λ (files : Files). 0 < files.workers)
files_workers None workers names h = tt
files_workers (Some limit) None names h = tt
files_workers (Some limit) (Some workers) names h = named_workers limit workers names h

given_workers : (given : Option Given) → IfSome (option_and_then files_of given) (λ (files : Files). 0 < files.workers)
given_workers None = tt
given_workers (Some given) = files_workers (limit_of given.limit) (workers_of given.workers) given.names (workers_positive given.workers)

module _ (make : Files → Words) (makes : (files : Files) → 0 < files.workers → AsksWorkers (make files)) where
  made_workers : (found : Option Files) → IfSome found (λ (files : Files). 0 < files.workers) → IfSome (option_map make found) AsksWorkers
  made_workers None h = tt
  made_workers (Some files) h = makes files h

-- what `generate` is given has some too
named_task : (workers : ℕ) (number : Option ℕ) → 0 < workers
    → IfSome (option_map (λ n. let task : Task = record { number = n; workers = workers } in task) number) (λ (task : Task). 0 < task.workers)
named_task workers None h = tt
named_task workers (Some n) h = h

task_workers : (workers number : Option ℕ) → IfSome workers (λ k. 0 < k)
    → IfSome (option_and_then (λ workers. option_map (λ n. let task : Task = record { number = n; workers = workers } in task) number) workers) (λ (task : Task). 0 < task.workers)
task_workers None number h = tt
task_workers (Some workers) number h = named_task workers number h

given_task : (given : Option Given) → IfSome (option_and_then task_of given) (λ (task : Task). 0 < task.workers)
given_task None = tt
given_task (Some given) = task_workers (workers_of given.workers) (option_and_then (number_to 500) (sole_name given.names)) (workers_positive given.workers)

made_task : (found : Option Task) → IfSome found (λ (task : Task). 0 < task.workers) → IfSome (option_map (λ (task : Task). words.generate task.number task.workers) found) AsksWorkers
made_task None h = tt
made_task (Some task) h = h

any_workers : {A : Type 0} (make : A → Words) (makes : (a : A) → AsksWorkers (make a)) (found : Option A) → IfSome (option_map make found) AsksWorkers
any_workers make makes None = tt
any_workers make makes (Some a) = makes a

help_workers : (rest : List Text) → IfSome (help_on rest) AsksWorkers
help_workers [] = tt
help_workers (word ∷ rest) = tt

-- a choice by a test has what both sides have
either_way : (P : Option Words → Type 0) (test : Bool) (one other : Option Words) → P one → P other → P (if test then one else other)
either_way P true one other h k = h
either_way P false one other h k = k

command_workers : (word : Text) (rest : List Text) → IfSome (command_on word rest) AsksWorkers
command_workers word rest =
    let Fine : Option Words → Type 0 = λ c. IfSome c AsksWorkers in
    let three = files_in limit_and_workers rest in
    let two = files_in only_workers rest in
    either_way Fine (bytes_eq word (codes "convert")) (converting rest) _
    (made_workers (λ files. words.convert files.names files.limit files.workers) (λ files h. h) three (given_workers (given_of limit_and_workers rest)))
    (either_way Fine (bytes_eq word (codes "steps")) (stepping rest) _
    (made_workers (λ files. words.steps files.names files.workers) (λ files h. h) two (given_workers (given_of only_workers rest)))
    (either_way Fine (bytes_eq word (codes "extract")) (extracting rest) _
    (any_workers (λ (files : Files). words.extract files.names files.workers) (λ files. tt) two)
    (either_way Fine (bytes_eq word (codes "expansion")) (expanding rest) _
    (made_workers (λ files. words.expansion files.names files.limit files.workers) (λ files h. h) three (given_workers (given_of limit_and_workers rest)))
    (either_way Fine (bytes_eq word (codes "check")) (checking rest) _
    (any_workers words.check (λ file. tt) (file_in rest))
    (either_way Fine (bytes_eq word (codes "generate")) (generating rest) _
    (made_task (task_in rest) (given_task (given_of only_workers rest)))
    (either_way Fine (bytes_eq word (codes "dedukti")) (converting_to_dedukti rest) _
    (made_workers (λ files. words.dedukti files.names files.limit files.workers) (λ files h. h) three (given_workers (given_of limit_and_workers rest)))
    (either_way Fine (bytes_eq word (codes "dkcheck")) (checking_dedukti rest) _
    (any_workers words.dkcheck (λ file. tt) (file_in rest))
    (either_way Fine (bytes_eq word (codes "--help")) (help_on rest) None (help_workers rest) tt))))))))

some_workers : (line : List Text) → IfSome (command_of line) AsksWorkers
some_workers [] = tt
some_workers (word ∷ rest) = command_workers word rest

-- the command that was read has workers
pub has_workers : (line : List Text) (command : Words) → command_of line ≡ Some command → AsksWorkers command
has_workers line command is = subst (λ c. IfSome c AsksWorkers) is (some_workers line)

-- ---- the usage text is asked for by a first word that is no command's

abbrev IsNoHelp : Words → Type 0
IsNoHelp words.help = ⊥
IsNoHelp command = Unit {0}

made_no_help : {A : Type 0} (make : A → Words) (makes : (a : A) → IsNoHelp (make a)) (found : Option A) → IfSome (option_map make found) IsNoHelp
made_no_help make makes None = tt
made_no_help make makes (Some a) = makes a

-- by the tests of the first word, one after the other
tested : (P : Option Words → Type 0) (test others : Bool) (one other : Option Words) → (test || others) ≡ true → P one → (others ≡ true → P other)
    → P (if test then one else other)
tested P true others one other e h k = h
tested P false others one other e h k = k e

last_tested : (P : Option Words → Type 0) (test : Bool) (one other : Option Words) → test ≡ true → P one → P (if test then one else other)
last_tested P true one other e h = h
last_tested P false one other e h = cc

command_no_help : (word : Text) (rest : List Text) → is_command word ≡ true → IfSome (command_on word rest) IsNoHelp
command_no_help word rest is =
    let Fine : Option Words → Type 0 = λ c. IfSome c IsNoHelp in
    tested Fine (bytes_eq word (codes "convert")) _ (converting rest) _ is
    (made_no_help (λ (files : Files). words.convert files.names files.limit files.workers) (λ files. tt) (files_in limit_and_workers rest))
    (λ steps_or. tested Fine (bytes_eq word (codes "steps")) _ (stepping rest) _ steps_or
    (made_no_help (λ (files : Files). words.steps files.names files.workers) (λ files. tt) (files_in only_workers rest))
    (λ extract_or. tested Fine (bytes_eq word (codes "extract")) _ (extracting rest) _ extract_or
    (made_no_help (λ (files : Files). words.extract files.names files.workers) (λ files. tt) (files_in only_workers rest))
    (λ expansion_or. tested Fine (bytes_eq word (codes "expansion")) _ (expanding rest) _ expansion_or
    (made_no_help (λ (files : Files). words.expansion files.names files.limit files.workers) (λ files. tt) (files_in limit_and_workers rest))
    (λ check_or. tested Fine (bytes_eq word (codes "check")) _ (checking rest) _ check_or
    (made_no_help words.check (λ file. tt) (file_in rest))
    (λ generate_or. tested Fine (bytes_eq word (codes "generate")) _ (generating rest) _ generate_or
    (made_no_help _ (λ task. tt) (task_in rest))
    (λ dedukti_or. tested Fine (bytes_eq word (codes "dedukti")) _ (converting_to_dedukti rest) _ dedukti_or
    (made_no_help (λ (files : Files). words.dedukti files.names files.limit files.workers) (λ files. tt) (files_in limit_and_workers rest))
    (λ dkcheck_is. last_tested Fine (bytes_eq word (codes "dkcheck")) (checking_dedukti rest) _ dkcheck_is
    (made_no_help words.dkcheck (λ file. tt) (file_in rest)))))))))

no_help : (line : List Text) → asks_command line ≡ true → IfSome (command_of line) IsNoHelp
no_help [] e = tt
no_help (word ∷ rest) e = command_no_help word rest e

pub help_takes_none : (line : List Text) → asks_command line ≡ true → command_of line ≡ Some words.help → ⊥
help_takes_none line asks is = subst (λ c. IfSome c IsNoHelp) is (no_help line asks)

-- ---- numbers of workers

one_asked : (one two : Words) → AreAlike one two → without_workers two ≡ without_workers one
one_asked (words.convert names limit workers) two h = ap without_workers h.1
one_asked (words.steps names workers) two h = ap without_workers h.1
one_asked (words.extract names workers) two h = ap without_workers h.1
one_asked (words.expansion names limit workers) two h = ap without_workers h.1
one_asked (words.check file) two h = ap without_workers h
one_asked (words.generate made workers) two h = ap without_workers h.1
one_asked (words.dedukti names limit workers) two h = ap without_workers h.1
one_asked (words.dkcheck file) two h = ap without_workers h
one_asked words.help two h = ap without_workers h

-- lines that differ in the number of workers ask for the same
pub alike_asked : (line other : List Text) → AskAlike line other → asked_of other ≡ asked_of line
alike_asked line other h =
    ap (option_map without_workers) h.second ∙ ap Some (one_asked h.one h.two h.alike) ∙ sym (ap (option_map without_workers) h.first)
