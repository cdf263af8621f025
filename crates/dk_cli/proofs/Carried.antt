-- What follows from an answer that was delivered.
use Rattle.std.proofs.Common.{◌≡◌, ◌≢◌, ℕ, Bool, true, ◌<◌, ◌⊎◌, List, Ok, Err, None, Some, IfErr, IfSome, inl, inr, refl, sym, ◌∙◌, ap, subst, arith}
use Rattle.std.specs.declared.option.Option.{Option}
use Rattle.std.specs.declared.result.Result.{Result}
use Rattle.dk_io.specs.Causes.{Rose}
use Rattle.dk_io.specs.Outside.{Told}
use Rattle.dk_cli.specs.Answer.{Answers, AnswersCommand, IsFixed, IsMemory, IsOfDevelopment, IsOfMade, IsOfTrace, IsReadFault, IsToldOutcome, LacksFile, Refuses}
use Rattle.words.specs.Commands.{Names, Text}
use Rattle.dk_cli.specs.Commands.{AskAlike, Command, asked_of, check, convert, expansion, extract, generate, help, steps}
use Rattle.dk_cli.specs.Delivery.{Change, Delivers, IsNoted, IsRefused, IsUntouched, IsWritten}
use Rattle.dk_cli.specs.Headline.{CanCome, CarriesOutEach, DoesOutcome, IsCarriedOut, IsDone, Lacks, NotesByStatus, RefusesWords, WritesByStatus, WritesUsage}
use Rattle.dk_cli.specs.Refusals.{line_of, status_of, HasNumber}
use Rattle.dk_cli.specs.declared.refusal.Refusal.{Refusal}
use Rattle.dk_cli.specs.declared.refusal.Refusal.TheVariants.{Words, ReadFault, TooLong, TooDeep, NotDevelopment, NotTyped, Step, WriteFault, Memory}
use Rattle.dk_cli.specs.declared.refusal.Status.{Status}
use Rattle.dk_cli.specs.declared.refusal.StepFault.TheVariants as step_fault
use Rattle.dk_cli.specs.declared.refusal.Status.TheVariants as status
use Rattle.dk_cli.specs.declared.syntax.Syntax.{Syntax}
use Rattle.dk_cli.specs.declared.syntax.Syntax.TheVariants.{Lambdapi}
use Rattle.dk_cli.proofs.OneOutcome.{one_outcome}
use Rattle.dk_cli.proofs.WordLaws.{alike_asked}

-- a refusal's status is its own, or that memory ran out
pub refused_status : (refusal : Refusal) (result : Status) (notes : Change)
    → IsRefused refusal result notes ⊎ (HasNumber refusal × IsRefused Memory result notes) → (result ≡ status_of refusal) ⊎ (result ≡ status.Memory)
refused_status refusal result notes (inl h) = inl h.status
refused_status refusal result notes (inr h) = inr h.1.status

-- ---- the statuses that can come

-- that of no development
trace_status : (syntax : Syntax) (names : Names) (limit : ℕ) (refusal : Refusal) → IsOfTrace refusal
    → CanCome (convert syntax names limit) (status_of refusal) × CanCome (steps names) (status_of refusal) × CanCome (extract names) (status_of refusal)
    × CanCome (expansion names limit) (status_of refusal)
trace_status syntax names limit (NotDevelopment other at) h = absurd h
trace_status syntax names limit (NotTyped fault) h = absurd h
trace_status syntax names limit (Step step (step_fault.Over over)) h = (tt, tt, tt, tt)
trace_status syntax names limit (Step step fault) h = (tt, tt, tt, tt)
trace_status syntax names limit refusal h = (tt, tt, tt, tt)

-- that of no problem and no trace
development_status : (syntax : Syntax) (name : List ℕ) (refusal : Refusal) → IsOfDevelopment refusal → CanCome (check syntax name) (status_of refusal)
development_status syntax name (ReadFault file) h = tt
development_status syntax name (TooLong file) h = tt
development_status syntax name (TooDeep file at) h = tt
development_status syntax name (NotDevelopment other at) h = tt
development_status syntax name (NotTyped fault) h = tt
development_status syntax name Memory h = tt
development_status syntax name refusal h = absurd h

-- that of no file outside
made_status : (number : ℕ) (refusal : Refusal) → IsOfMade refusal → CanCome (generate number) (status_of refusal)
made_status number (ReadFault file) h = absurd h
made_status number (Step step (step_fault.Over over)) h = tt
made_status number (Step step fault) h = tt
made_status number refusal h = tt

-- where files are read
module _ (told : Told) (command : Command) (done : CanCome command status.Done) (cut : CanCome command status.WriteFault) (memory : CanCome command status.Memory)
    (refused : (refusal : Refusal) → Refuses command refusal → CanCome command (status_of refusal)) where
  reading_can_come : (before now : ℕ) (answer : Result (List ℕ) Refusal) (result : Status) (out notes : Change)
      → AnswersCommand told command before now answer → Delivers answer result out notes → CanCome command result
  reading_can_come before now (Ok text) result out notes a (inl w) = subst (CanCome command) (sym w.status) done
  reading_can_come before now (Ok text) result out notes a (inr w) = subst (CanCome command) (sym w.refused.status) cut
  reading_can_come before now (Err refusal) result out notes a d = elim (refused_status refusal result notes d.1) [
    | inl s ↦ subst (CanCome command) (sym s) (refused refusal a.refusal)
    | inr s ↦ subst (CanCome command) (sym s) memory
  ]

-- a refusal that is known
told_refused : (refusal : Refusal) (answer : Result (List ℕ) Refusal) (result : Status) (out notes : Change) → answer ≡ Err refusal → Delivers answer result out notes
    → (result ≡ status_of refusal) ⊎ (result ≡ status.Memory)
told_refused refusal answer result out notes e d =
    refused_status refusal result notes (subst (λ x. Delivers x result out notes) e d).1

memory_refused : (answer : Result (List ℕ) Refusal) → IsMemory answer → answer ≡ Err Memory
memory_refused (Ok text) m = absurd m
memory_refused (Err Memory) m = refl
memory_refused (Err refusal) m = absurd m

-- where none are
usage_written : (answer : Result (List ℕ) Refusal) (result : Status) (out notes : Change) → IsFixed help answer → Delivers answer result out notes → WritesUsage result out notes
usage_written answer result out notes e d = subst (λ x. Delivers x result out notes) e d

help_can_come : (result : Status) (out notes : Change) → WritesUsage result out notes → CanCome help result
help_can_come result out notes (inl w) = subst (CanCome help) (sym w.status) tt
help_can_come result out notes (inr w) = subst (CanCome help) (sym w.refused.status) tt

command_can_come : (told : Told) (command : Command) (before now : ℕ) (answer : Result (List ℕ) Refusal) (result : Status) (out notes : Change)
    → AnswersCommand told command before now answer → IsFixed command answer → Delivers answer result out notes → CanCome command result
command_can_come told (convert syntax names limit) before now answer result out notes a f d =
    reading_can_come told (convert syntax names limit) tt tt tt (λ refusal h. (trace_status syntax names limit refusal h).0) before now answer result out notes a d
command_can_come told (steps names) before now answer result out notes a f d =
    reading_can_come told (steps names) tt tt tt (λ refusal h. (trace_status Lambdapi names 0 refusal h).1) before now answer result out notes a d
command_can_come told (extract names) before now answer result out notes a f d =
    reading_can_come told (extract names) tt tt tt (λ refusal h. (trace_status Lambdapi names 0 refusal h).2) before now answer result out notes a d
command_can_come told (expansion names limit) before now answer result out notes a f d =
    reading_can_come told (expansion names limit) tt tt tt (λ refusal h. (trace_status Lambdapi names limit refusal h).3) before now answer result out notes a d
command_can_come told (check syntax name) before now answer result out notes a f d =
    reading_can_come told (check syntax name) tt tt tt (development_status syntax name) before now answer result out notes a d
command_can_come told (generate number) before now answer result out notes a f d =
    reading_can_come told (generate number) tt tt tt (made_status number) before now answer result out notes a d
command_can_come told help before now answer result out notes a f d = help_can_come result out notes (usage_written answer result out notes f d)

pub can_come : (told : Told) (command : Option Command) (before now : ℕ) (answer : Result (List ℕ) Refusal) (result : Status) (out notes : Change)
    → Answers told command before now answer → IfSome command (λ found. IsFixed found answer) → Delivers answer result out notes → IfSome command (λ found. CanCome found result)
can_come told None before now answer result out notes a f d = tt
can_come told (Some command) before now answer result out notes a f d = command_can_come told command before now answer result out notes a f d

-- the usage text is written
pub writes_usage : (command : Option Command) (answer : Result (List ℕ) Refusal) (result : Status) (out notes : Change)
    → IfSome command (λ found. IsFixed found answer) → Delivers answer result out notes → command ≡ Some help → WritesUsage result out notes
writes_usage command answer result out notes f d asked =
    usage_written answer result out notes (subst (λ c. IfSome c (λ found. IsFixed found answer)) asked f) d

-- ---- what is refused before anything is written

-- neither words nor writing
abbrev ComesBeforeWriting : Refusal → Type 0
ComesBeforeWriting Words = ⊥
ComesBeforeWriting WriteFault = ⊥
ComesBeforeWriting refusal = Unit {0}

trace_before : (refusal : Refusal) → IsOfTrace refusal → ComesBeforeWriting refusal
trace_before Words h = h
trace_before WriteFault h = h
trace_before refusal h = tt

development_before : (refusal : Refusal) → IsOfDevelopment refusal → ComesBeforeWriting refusal
development_before Words h = h
development_before WriteFault h = h
development_before refusal h = tt

made_before : (refusal : Refusal) → IsOfMade refusal → ComesBeforeWriting refusal
made_before Words h = h
made_before WriteFault h = h
made_before refusal h = tt

before_writing : (command : Command) (refusal : Refusal) → Refuses command refusal → ComesBeforeWriting refusal
before_writing (convert syntax names limit) refusal h = trace_before refusal h
before_writing (steps names) refusal h = trace_before refusal h
before_writing (extract names) refusal h = trace_before refusal h
before_writing (expansion names limit) refusal h = trace_before refusal h
before_writing (check syntax name) refusal h = development_before refusal h
before_writing (generate number) refusal h = made_before refusal h
before_writing help refusal h = absurd h

-- a refusal but that of a write fault leaves the sink alone
untouched_by : (refusal : Refusal) (out : Change) → refusal ≢ WriteFault → IsUntouched out → WritesByStatus (status_of refusal) out
untouched_by WriteFault out other u = absurd (other refl)
untouched_by (Step step (step_fault.Over limit)) out other u = u
untouched_by (Step step fault) out other u = u
untouched_by refusal out other u = u

-- no answer is a write fault
never_write_fault : (told : Told) (command : Option Command) (before now : ℕ) (answer : Result (List ℕ) Refusal)
    → Answers told command before now answer → answer ≢ Err WriteFault
never_write_fault told None before now answer a e = elim a.0 [ inl words ↦ let w = sym words ∙ e in absurd cc | inr memory ↦ subst IsMemory e memory ]
never_write_fault told (Some command) before now answer a e = before_writing command WriteFault (subst (λ r. IfErr r (Refuses command)) e a.refusal)

pub writes_by : (told : Told) (command : Option Command) (before now : ℕ) (answer : Result (List ℕ) Refusal) (result : Status) (out notes : Change)
    → Answers told command before now answer → Delivers answer result out notes → WritesByStatus result out
writes_by told command before now (Ok text) result out notes a (inl w) = subst (λ s. WritesByStatus s out) (sym w.status) (text, w.bytes, w.still)
writes_by told command before now (Ok text) result out notes a (inr w) = subst (λ s. WritesByStatus s out) (sym w.refused.status) (text, w.bytes)
writes_by told command before now (Err refusal) result out notes a d =
    elim (refused_status refusal result notes d.1) [
      | inl s ↦ subst (λ r. WritesByStatus r out) (sym s) (untouched_by refusal out (λ e. never_write_fault told command before now (Err refusal) a (ap Err e)) d.0)
      | inr s ↦ subst (λ r. WritesByStatus r out) (sym s) d.0
    ]

-- each refusal sends one line
noted_by : (refusal : Refusal) (notes : Change) → IsNoted notes (line_of refusal) → NotesByStatus (status_of refusal) notes
noted_by Words notes n = (line_of Words, n)
noted_by (Step step (step_fault.Over limit)) notes n = (line_of (Step step (step_fault.Over limit)), n)
noted_by (Step step fault) notes n = (line_of (Step step fault), n)
noted_by refusal notes n = (line_of refusal, n)

one_line : (refusal : Refusal) (result : Status) (notes : Change) → IsRefused refusal result notes → NotesByStatus result notes
one_line refusal result notes r = subst (λ s. NotesByStatus s notes) (sym r.status) (noted_by refusal notes r.line)

pub notes_by : (answer : Result (List ℕ) Refusal) (result : Status) (out notes : Change) → Delivers answer result out notes → NotesByStatus result notes
notes_by (Ok text) result out notes (inl w) = subst (λ s. NotesByStatus s notes) (sym w.status) w.quiet
notes_by (Ok text) result out notes (inr w) = one_line WriteFault result notes w.refused
notes_by (Err refusal) result out notes d = elim d.1 [ inl r ↦ one_line refusal result notes r | inr r ↦ one_line Memory result notes r.1 ]

-- the status of words comes only for words
not_words : (refusal : Refusal) → ComesBeforeWriting refusal → status_of refusal ≢ status.Words
not_words Words h e = h
not_words WriteFault h e = h
not_words (Step step (step_fault.Over limit)) h e = cc
not_words (Step step fault) h e = cc
not_words refusal h e = cc

command_not_words : (told : Told) (command : Command) (before now : ℕ) (answer : Result (List ℕ) Refusal) (result : Status) (out notes : Change)
    → AnswersCommand told command before now answer → Delivers answer result out notes → result ≢ status.Words
command_not_words told command before now (Ok text) result out notes a (inl w) e = let s = w.status in cc
command_not_words told command before now (Ok text) result out notes a (inr w) e = let s = w.refused.status in cc
command_not_words told command before now (Err refusal) result out notes a d e =
    elim (refused_status refusal result notes d.1) [ inl s ↦ not_words refusal (before_writing command refusal a.refusal) (sym s ∙ e) | inr s ↦ let m = sym s ∙ e in cc ]

pub words_only : (told : Told) (command : Option Command) (before now : ℕ) (answer : Result (List ℕ) Refusal) (result : Status) (out notes : Change)
    → Answers told command before now answer → Delivers answer result out notes → result ≡ status.Words → command ≡ None
words_only told None before now answer result out notes a d e = refl
words_only told (Some command) before now answer result out notes a d e = absurd (command_not_words told command before now answer result out notes a d e)

-- words that ask for none are told so, or memory ran out
none_refused : (asks : Bool) (answer : Result (List ℕ) Refusal) (result : Status) (out notes : Change)
    → (answer ≡ Err Words) ⊎ IsMemory answer → (IsMemory answer → asks ≡ true) → Delivers answer result out notes → RefusesWords asks result
none_refused asks answer result out notes (inl e) memory d =
    let refused : Delivers (Err Words) result out notes = subst (λ x. Delivers x result out notes) e d in
    elim refused.1 [ inl r ↦ inl r.status | inr r ↦ absurd r.0 ]
none_refused asks answer result out notes (inr m) memory d =
    elim (told_refused Memory answer result out notes (memory_refused answer m) d) [ inl s ↦ inr (memory m, s) | inr s ↦ inr (memory m, s) ]

pub words_if : (told : Told) (asks : Bool) (command : Option Command) (before now : ℕ) (answer : Result (List ℕ) Refusal) (result : Status) (out notes : Change)
    → Answers told command before now answer → (command ≡ None → IsMemory answer → asks ≡ true) → Delivers answer result out notes → command ≡ None → RefusesWords asks result
words_if told asks None before now answer result out notes a memory d e = none_refused asks answer result out notes a.0 (memory refl) d
words_if told asks (Some command) before now answer result out notes a memory d e = absurd cc

-- what was told without memory running out is the refusal itself
refused_itself : (refusal : Refusal) (result : Status) (notes : Change) → result ≢ status.Memory
    → IsRefused refusal result notes ⊎ (HasNumber refusal × IsRefused Memory result notes) → IsRefused refusal result notes
refused_itself refusal result notes memory (inl r) = r
refused_itself refusal result notes memory (inr r) = absurd (memory r.1.status)

pub done_by : (answer : Result (List ℕ) Refusal) (result : Status) (out notes : Change) → result ≢ status.Memory
    → Delivers answer result out notes → IsDone answer result out notes
done_by (Ok text) result out notes memory d = d
done_by (Err refusal) result out notes memory d = (d.0, refused_itself refusal result notes memory d.1)

-- an answer of want of memory ends with its status
pub memory_status : (answer : Result (List ℕ) Refusal) (result : Status) (out notes : Change) → IsMemory answer → Delivers answer result out notes → result ≡ status.Memory
memory_status (Ok text) result out notes m d = absurd m
memory_status (Err Memory) result out notes m d = elim d.1 [ inl r ↦ r.status | inr r ↦ r.1.status ]
memory_status (Err refusal) result out notes m d = absurd m

told_itself : (told : Told) (command : Command) (before now : ℕ) (answer : Result (List ℕ) Refusal) (result : Status) (out notes : Change)
    → AnswersCommand told command before now answer → Delivers answer result out notes → ¬ Rose before now → result ≢ status.Memory
    → IsToldOutcome told command answer
told_itself told command before now answer result out notes a d still memory = elim a.outcome [
  | inl h ↦ absurd (still h.1)
  | inr rest ↦ elim rest [ inl m ↦ absurd (memory (memory_status answer result out notes m d)) | inr outcome ↦ outcome ]
]

does : (told : Told) (command : Command) (before now : ℕ) (answer : Result (List ℕ) Refusal) (result : Status) (out notes : Change)
    → AnswersCommand told command before now answer → Delivers answer result out notes → DoesOutcome told command before now result out notes
does told command before now answer result out notes a d still memory =
    (answer, told_itself told command before now answer result out notes a d still memory, done_by answer result out notes memory d)

pub some_does : (told : Told) (command : Option Command) (before now : ℕ) (answer : Result (List ℕ) Refusal) (result : Status) (out notes : Change)
    → Answers told command before now answer → Delivers answer result out notes → IfSome command (λ found. DoesOutcome told found before now result out notes)
some_does told None before now answer result out notes a d = tt
some_does told (Some command) before now answer result out notes a d = does told command before now answer result out notes a d

pub whole : (answer : Result (List ℕ) Refusal) (result : Status) (out notes : Change) → ¬ Rose out.before out.now
    → IsDone answer result out notes → IsCarriedOut answer result out notes
whole (Ok text) result out notes still (inl w) = w
whole (Ok text) result out notes still (inr w) = absurd (still w.rose)
whole (Err refusal) result out notes still d = d

carries : (told : Told) (command : Command) (before now : ℕ) (answer : Result (List ℕ) Refusal) (result : Status) (out notes : Change)
    → AnswersCommand told command before now answer → Delivers answer result out notes → CarriesOutEach told command before now result out notes
carries None command before now answer result out notes a d = tt
carries (Some files) command before now answer result out notes a d = λ other outcome reads cut memory.
    let mine = told_itself (Some files) command before now answer result out notes a d reads memory in
    subst (λ x. IsCarriedOut x result out notes) (one_outcome command files answer other mine outcome)
    (whole answer result out notes cut (done_by answer result out notes memory d))

pub some_carries : (told : Told) (command : Option Command) (before now : ℕ) (answer : Result (List ℕ) Refusal) (result : Status) (out notes : Change)
    → Answers told command before now answer → Delivers answer result out notes → IfSome command (λ found. CarriesOutEach told found before now result out notes)
some_carries told None before now answer result out notes a d = tt
some_carries told (Some command) before now answer result out notes a d = carries told command before now answer result out notes a d

-- so is that of words which differ in the number of workers
pub alike_carries : (told : Told) (line other : List Text) (before now : ℕ) (answer : Result (List ℕ) Refusal) (result : Status) (out notes : Change)
    → Answers told (asked_of line) before now answer → Delivers answer result out notes → AskAlike line other
    → IfSome (asked_of other) (λ found. CarriesOutEach told found before now result out notes)
alike_carries told line other before now answer result out notes a d alike =
    subst (λ command. IfSome command (λ found. CarriesOutEach told found before now result out notes)) (sym (alike_asked line other alike))
    (some_carries told (asked_of line) before now answer result out notes a d)

-- an answer of a read fault ends with its status
fault_status : (answer : Result (List ℕ) Refusal) (result : Status) (out notes : Change) → IsReadFault answer → Delivers answer result out notes → result ≡ status.ReadFault
fault_status (Ok text) result out notes f d = absurd f
fault_status (Err (ReadFault file)) result out notes f d = elim d.1 [ inl r ↦ r.status | inr r ↦ absurd r.0 ]
fault_status (Err refusal) result out notes f d = absurd f

pub read_rose : (told : Told) (command : Option Command) (before now : ℕ) (answer : Result (List ℕ) Refusal) (result : Status) (out notes : Change)
    → Answers told command before now answer → Delivers answer result out notes → before < now → result ≡ status.ReadFault
read_rose told None before now answer result out notes a d rose = let same = a.1 in absurd (omega arith)
read_rose told (Some command) before now answer result out notes a d rose = fault_status answer result out notes (a.rose rose) d

pub read_lacks : (told : Told) (command : Option Command) (before now : ℕ) (answer : Result (List ℕ) Refusal) (result : Status) (out notes : Change)
    → Answers told command before now answer → Delivers answer result out notes → Lacks told command → (result ≡ status.ReadFault) ⊎ (result ≡ status.Memory)
read_lacks told None before now answer result out notes a d lacks = absurd lacks
read_lacks told (Some command) before now answer result out notes a d lacks = elim (a.lacks lacks) [
  | inl f ↦ inl (fault_status answer result out notes f d)
  | inr m ↦ inr (memory_status answer result out notes m d)
]

-- the status of a read fault comes only for one
is_read_fault : (refusal : Refusal) → status_of refusal ≡ status.ReadFault → IsReadFault {A = List ℕ} (Err refusal)
is_read_fault (ReadFault file) e = tt
is_read_fault (Step step (step_fault.Over limit)) e = absurd cc
is_read_fault (Step step fault) e = absurd cc
is_read_fault refusal e = absurd cc

command_read_only : (told : Told) (command : Command) (before now : ℕ) (answer : Result (List ℕ) Refusal) (result : Status) (out notes : Change)
    → AnswersCommand told command before now answer → Delivers answer result out notes → result ≡ status.ReadFault → Rose before now ⊎ LacksFile told command
command_read_only told command before now (Ok text) result out notes a (inl w) e = let s = sym w.status ∙ e in absurd cc
command_read_only told command before now (Ok text) result out notes a (inr w) e = let s = sym w.refused.status ∙ e in absurd cc
command_read_only told command before now (Err refusal) result out notes a d e =
    elim (refused_status refusal result notes d.1) [ inl s ↦ a.read_fault (is_read_fault refusal (sym s ∙ e)) | inr s ↦ let m = sym s ∙ e in absurd cc ]

pub read_only : (told : Told) (command : Option Command) (before now : ℕ) (answer : Result (List ℕ) Refusal) (result : Status) (out notes : Change)
    → Answers told command before now answer → Delivers answer result out notes → result ≡ status.ReadFault → Rose before now ⊎ Lacks told command
read_only told None before now answer result out notes a d e =
    elim (none_refused true answer result out notes a.0 (λ m. refl) d) [ inl w ↦ let s = sym w ∙ e in absurd cc | inr m ↦ let s = sym m.1 ∙ e in absurd cc ]
read_only told (Some command) before now answer result out notes a d e = command_read_only told command before now answer result out notes a d e

-- no refusal ends with status 0
not_done : (refusal : Refusal) → status_of refusal ≢ status.Done
not_done Words e = cc
not_done (Step step (step_fault.Over limit)) e = cc
not_done (Step step fault) e = cc
not_done refusal e = cc

pub refusal_not_done : (refusal : Refusal) (result : Status) (notes : Change)
    → IsRefused refusal result notes ⊎ (HasNumber refusal × IsRefused Memory result notes) → result ≢ status.Done
refusal_not_done refusal result notes (inl r) done = not_done refusal (sym r.status ∙ done)
refusal_not_done refusal result notes (inr r) done = not_done Memory (sym r.1.status ∙ done)

-- a text with status 0 was written whole
pub has_written : (text : List ℕ) (result : Status) (out notes : Change) → Delivers (Ok text) result out notes → result ≡ status.Done → IsWritten text result out notes
has_written text result out notes (inl w) done = w
has_written text result out notes (inr w) done = let s = sym w.refused.status ∙ done in absurd cc
