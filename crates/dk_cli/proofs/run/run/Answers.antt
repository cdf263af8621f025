use Rattle.dk_cli.proofs.Carried.{alike_carries, can_come, notes_by, read_lacks, read_only, read_rose, some_carries, some_does, words_if, words_only, writes_by, writes_usage}
use Rattle.dk_cli.proofs.NoIntroduced.{writes_no_introduced}
use Rattle.dk_cli.proofs.Proved.{writes_proof}
use Rattle.dk_cli.proofs.Reported.{writes_lines}
use Rattle.dk_cli.proofs.Expanded.{writes_report}
use Rattle.dk_cli.proofs.Extracted.{writes_problems}
use Rattle.dk_cli.proofs.Accepted.{types_accepted, writes_typed}
use Rattle.dk_cli.proofs.Summed.{carries_made, writes_summary}
use Rattle.dk_cli.proofs.run.run.Goals as goal

pub returns-clause-statuses : goal.returns-clause-statuses
returns-clause-statuses g c = let run = c.run_answered.ensures.run in can_come _ _ _ _ run.answer _ _ _ run.answers run.fixed run.delivers

pub returns-clause-sink : goal.returns-clause-sink
returns-clause-sink g c = let run = c.run_answered.ensures.run in writes_by _ _ _ _ run.answer _ _ _ run.answers run.delivers

pub returns-clause-line : goal.returns-clause-line
returns-clause-line g c = let run = c.run_answered.ensures.run in notes_by run.answer _ _ _ run.delivers

pub returns-clause-words : goal.returns-clause-words
returns-clause-words g c = λ e. let run = c.run_answered.ensures.run in words_only _ _ _ _ run.answer _ _ _ run.answers run.delivers e

pub returns-clause-refused : goal.returns-clause-refused
returns-clause-refused g c = λ e. let run = c.run_answered.ensures.run in words_if _ _ _ _ _ run.answer _ _ _ run.answers run.memory run.delivers e

pub returns-clause-words_left : goal.returns-clause-words_left
returns-clause-words_left g c = λ e. (c.run_answered.ensures.left e).0

pub returns-clause-words_count : goal.returns-clause-words_count
returns-clause-words_count g c = λ e. (c.run_answered.ensures.left e).1

pub returns-clause-help : goal.returns-clause-help
returns-clause-help g c = λ asked. let run = c.run_answered.ensures.run in writes_usage _ run.answer _ _ _ run.fixed run.delivers asked

pub returns-clause-outcome : goal.returns-clause-outcome
returns-clause-outcome g c = let run = c.run_answered.ensures.run in some_does _ _ _ _ run.answer _ _ _ run.answers run.delivers

pub returns-clause-exactly : goal.returns-clause-exactly
returns-clause-exactly g c = let run = c.run_answered.ensures.run in some_carries _ _ _ _ run.answer _ _ _ run.answers run.delivers

pub returns-clause-read_rose : goal.returns-clause-read_rose
returns-clause-read_rose g c = λ rose. let run = c.run_answered.ensures.run in read_rose _ _ _ _ run.answer _ _ _ run.answers run.delivers rose

pub returns-clause-read_lacks : goal.returns-clause-read_lacks
returns-clause-read_lacks g c = λ lacks. let run = c.run_answered.ensures.run in read_lacks _ _ _ _ run.answer _ _ _ run.answers run.delivers lacks

pub returns-clause-proof : goal.returns-clause-proof
returns-clause-proof g c = λ syntax names limit asked done. let run = c.run_answered.ensures.run in writes_proof _ _ _ _ run.answer _ _ _ run.answers run.delivers syntax names limit asked done

pub returns-clause-introduced : goal.returns-clause-introduced
returns-clause-introduced g c = λ syntax names limit asked done. let run = c.run_answered.ensures.run in writes_no_introduced _ _ _ _ run.answer _ _ _ run.answers run.delivers syntax names limit asked done

pub returns-clause-read_only : goal.returns-clause-read_only
returns-clause-read_only g c = λ fault. let run = c.run_answered.ensures.run in read_only _ _ _ _ run.answer _ _ _ run.answers run.delivers fault

pub returns-clause-lines : goal.returns-clause-lines
returns-clause-lines g c = λ names asked done. let run = c.run_answered.ensures.run in writes_lines _ _ _ _ run.answer _ _ _ run.answers run.delivers names asked done

pub returns-clause-problems : goal.returns-clause-problems
returns-clause-problems g c = λ names asked done. let run = c.run_answered.ensures.run in writes_problems _ _ _ _ run.answer _ _ _ run.answers run.delivers names asked done

pub returns-clause-report : goal.returns-clause-report
returns-clause-report g c = λ names limit asked done. let run = c.run_answered.ensures.run in writes_report _ _ _ _ run.answer _ _ _ run.answers run.delivers names limit asked done

pub returns-clause-typed : goal.returns-clause-typed
returns-clause-typed g c = λ syntax name asked done. let run = c.run_answered.ensures.run in writes_typed _ _ _ _ run.answer _ _ _ run.answers run.delivers syntax name asked done

pub returns-clause-accepted : goal.returns-clause-accepted
returns-clause-accepted g c = λ syntax name asked. let run = c.run_answered.ensures.run in types_accepted _ _ _ _ run.answer _ _ _ run.answers run.delivers syntax name asked

pub returns-clause-workers : goal.returns-clause-workers
returns-clause-workers g c = λ other alike. let run = c.run_answered.ensures.run in alike_carries _ _ other _ _ run.answer _ _ _ run.answers run.delivers alike

pub returns-clause-summary : goal.returns-clause-summary
returns-clause-summary g c = λ number asked done. let run = c.run_answered.ensures.run in writes_summary _ run.answer _ _ _ run.fixed run.delivers number asked done

pub returns-clause-made : goal.returns-clause-made
returns-clause-made g c = λ number asked. let run = c.run_answered.ensures.run in carries_made _ run.answer _ _ _ run.fixed run.delivers number asked
