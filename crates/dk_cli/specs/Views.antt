-- What contracts see of a command that was read, and of what is written.
use Rattle.std.specs.Prelude.{ℕ, ◌<◌, List, Ok, Err}
use Rattle.std.specs.declared.result.Result.{Result}
use Rattle.words.specs.Commands.{Names, Command as Words}
use Rattle.words.specs.Commands as words
use Rattle.dk_cli.specs.Commands.{Command, check, convert, expansion, extract, generate, help, steps}
use Rattle.dk_cli.specs.declared.command.Command.{Command as CommandRead}
use Rattle.dk_cli.specs.declared.command.Command.TheVariants as read
use Rattle.dk_cli.specs.declared.command.Names.{Names as NamesRead}
use Rattle.dk_cli.specs.declared.output.Output.{Output}
use Rattle.dk_cli.specs.declared.output.Output.TheVariants.{Made, Fixed}
use Rattle.dk_cli.specs.declared.refusal.Refusal.{Refusal}

abbrev pub names_view : NamesRead → Names
names_view names = record { problem = names.problem.now; trace = names.trace.now }

-- A command without its number of workers.
abbrev pub command_view : CommandRead → Command
command_view (read.Convert syntax names limit workers) = convert syntax (names_view names) limit
command_view (read.Steps names workers) = steps (names_view names)
command_view (read.Extract names) = extract (names_view names)
command_view (read.Expansion names limit workers) = expansion (names_view names) limit
command_view (read.Check syntax file) = check syntax file.now
command_view (read.Generate number workers) = generate number
command_view read.Help = help

-- Where steps are judged, some worker does it.
abbrev pub HasWorkers : CommandRead → Type 0
HasWorkers (read.Convert syntax names limit workers) = 0 < workers
HasWorkers (read.Steps names workers) = 0 < workers
HasWorkers (read.Expansion names limit workers) = 0 < workers
HasWorkers (read.Generate number workers) = 0 < workers
HasWorkers command = Unit {0}

-- The same of a command that the words ask for.
abbrev pub AsksWorkers : Words → Type 0
AsksWorkers (words.convert names limit workers) = 0 < workers
AsksWorkers (words.steps names workers) = 0 < workers
AsksWorkers (words.expansion names limit workers) = 0 < workers
AsksWorkers (words.generate number workers) = 0 < workers
AsksWorkers (words.dedukti names limit workers) = 0 < workers
AsksWorkers command = Unit {0}

-- The bytes of what is written.
abbrev pub output_bytes : Output → List ℕ
output_bytes (Made text) = text.items
output_bytes (Fixed text) = text.now

abbrev pub output_view : Result Output Refusal → Result (List ℕ) Refusal
output_view (Ok output) = Ok (output_bytes output)
output_view (Err refusal) = Err refusal
