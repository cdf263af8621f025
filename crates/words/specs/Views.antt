-- What contracts see of the crate's types.
use Rattle.std.specs.Prelude.{List, Option, option_map, map, string_bytes}
use Rattle.std.specs.declared.string.String.{String}
use Rattle.std.specs.declared.alloc.Global.{Global}
use Rattle.std.specs.Borrow.{Bor}
use Rattle.words.specs.Commands.{Text, Command, convert, steps, extract, expansion, check, generate, dedukti, dkcheck, help}
use Rattle.words.specs.Parser.{Picked}
use Rattle.words.specs.Reading.{Files, Task}
use Rattle.words.specs.declared.given.Files.{Files as FilesRead}
use Rattle.words.specs.declared.given.Picked.{Picked as Found}
use Rattle.words.specs.declared.given.Task.{Task as TaskRead}
use Rattle.words.specs.declared.command.Words.{Words}
use Rattle.words.specs.declared.command.Words.TheVariants as words

-- The bytes of each word.
abbrev pub texts : List (String Global) → List Text
texts = map string_bytes

-- A command with its names as bytes.
abbrev pub words_view : Words → Command
words_view (words.Convert problem trace limit workers) = convert (record { problem = problem.now; trace = trace.now }) limit workers
words_view (words.Steps problem trace workers) = steps (record { problem = problem.now; trace = trace.now }) workers
words_view (words.Extract problem trace workers) = extract (record { problem = problem.now; trace = trace.now }) workers
words_view (words.Expansion problem trace limit workers) = expansion (record { problem = problem.now; trace = trace.now }) limit workers
words_view (words.Check file) = check file.now
words_view (words.Generate number workers) = generate number workers
words_view (words.Dedukti problem trace limit workers) = dedukti (record { problem = problem.now; trace = trace.now }) limit workers
words_view (words.DkCheck file) = dkcheck file.now
words_view words.Help = help

-- What clap found.
abbrev text_behind : Option (Bor Text) → Option Text
text_behind = option_map (λ t. t.now)

abbrev pub picked_view : Found → Picked
picked_view found = record {
  first = text_behind found.first;
  second = text_behind found.second;
  limit = text_behind found.limit;
  workers = text_behind found.workers;
}

-- What commands are given.
abbrev pub files_view : FilesRead → Files
files_view files = record {
  names = record { problem = files.problem.now; trace = files.trace.now };
  limit = files.limit;
  workers = files.workers;
}

abbrev pub task_view : TaskRead → Task
task_view task = record { number = task.number; workers = task.workers }
