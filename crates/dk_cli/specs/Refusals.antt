-- How a refusal is told: its status and its line.
use Rattle.std.specs.Prelude.{ℕ, List, ◌++◌, codes, decimal, encode_utf8_all}
use Rattle.std.specs.Str.Lossy.{utf8_lossy}
use Rattle.extract.specs.Words.{limit_word, reason_text}
use Rattle.lp_kernel.specs.declared.Want.{Want}
use Rattle.lp_kernel.specs.declared.Want.TheVariants as want
use Rattle.lp_term.specs.declared.Lp.{Lp}
use Rattle.lp_text.specs.Print.{term_text}
use Rattle.tptp_text.specs.Printed.{printed_item_name}
use Rattle.tptp_text.specs.declared.OutsideKind.{OutsideKind}
use Rattle.tptp_text.specs.declared.OutsideKind.TheVariants as kind
use Rattle.tstp_trace.specs.declared.Unsupported.{Unsupported}
use Rattle.tstp_trace.specs.declared.Unsupported.TheVariants as unsupported
use Rattle.dk_cli.specs.Syntaxes.{syntax_word}
use Rattle.dk_cli.specs.declared.refusal.File.{File}
use Rattle.dk_cli.specs.declared.refusal.File.TheVariants.{Problem, Trace, Development}
use Rattle.dk_cli.specs.declared.refusal.ItemFault.{ItemFault}
use Rattle.dk_cli.specs.declared.refusal.ItemFault.TheVariants as item_fault
use Rattle.dk_cli.specs.declared.refusal.Refusal.{Refusal}
use Rattle.dk_cli.specs.declared.refusal.Refusal.TheVariants.{Words, ReadFault, TooLong, NotTptp, TooDeep, TooManyItems, NotDevelopment, NotTyped, Item, Step, NoRefutation, OverWeight, OverWide, WriteFault, Memory}
use Rattle.dk_cli.specs.declared.refusal.Status.{Status}
use Rattle.dk_cli.specs.declared.refusal.Status.TheVariants as status
use Rattle.dk_cli.specs.declared.refusal.StepFault.{StepFault}
use Rattle.dk_cli.specs.declared.refusal.StepFault.TheVariants as step_fault
use Rattle.dk_cli.specs.declared.refusal.TypeFault.{TypeFault}
use Rattle.dk_cli.specs.declared.refusal.TypeFault.TheVariants as type_fault

abbrev pub step_status : StepFault → Status
step_status (step_fault.Over limit) = status.Limit
step_status fault = status.Input

abbrev pub status_of : Refusal → Status
status_of Words = status.Words
status_of (ReadFault file) = status.ReadFault
status_of (TooLong file) = status.Limit
status_of (NotTptp file at) = status.Text
status_of (TooDeep file at) = status.Limit
status_of (TooManyItems file) = status.Limit
status_of (NotDevelopment syntax at) = status.Text
status_of (NotTyped fault) = status.IllTyped
status_of (Item item fault) = status.Input
status_of (Step step fault) = step_status fault
status_of NoRefutation = status.Input
status_of (OverWeight limit) = status.Limit
status_of (OverWide step) = status.Limit
status_of WriteFault = status.WriteFault
status_of Memory = status.Memory

abbrev pub file_word : File → List ℕ
file_word Problem = codes "problem"
file_word Trace = codes "trace"
file_word Development = codes "file"

abbrev pub kind_word : OutsideKind → List ℕ
kind_word kind.Include = codes "include"
kind_word kind.Language = codes "language"
kind_word kind.Equality = codes "equality"
kind_word kind.Number = codes "number"
kind_word kind.Distinct = codes "distinct object"
kind_word kind.Dollar = codes "dollar word"

abbrev pub unsupported_word : Unsupported → List ℕ
unsupported_word unsupported.Word = codes "word"
unsupported_word unsupported.Status = codes "status"
unsupported_word unsupported.NoParent = codes "no parent"
unsupported_word unsupported.ManyParents = codes "many parents"
unsupported_word unsupported.Mixed = codes "mixed"

-- A text in a line: each byte is a character. Names are printed in ASCII, so these are their bytes.
abbrev pub in_line : List ℕ → List ℕ
in_line text = encode_utf8_all text

-- a free variable is told as it is
abbrev pub item_fault_text : ItemFault → List ℕ
item_fault_text (item_fault.Outside kind) = codes "outside: " ++ kind_word kind
item_fault_text item_fault.BadRole = codes "bad role"
item_fault_text (item_fault.FreeVariable name) = codes "free variable: " ++ in_line name
item_fault_text item_fault.DuplicateName = codes "duplicate name"
item_fault_text item_fault.SecondConjecture = codes "second conjecture"

abbrev pub step_fault_text : StepFault → List ℕ
step_fault_text (step_fault.Outside kind) = codes "outside: " ++ kind_word kind
step_fault_text step_fault.DuplicateName = codes "duplicate name"
step_fault_text (step_fault.Unsupported why) = codes "unsupported: " ++ unsupported_word why
step_fault_text (step_fault.MissingParent name) = codes "missing parent: " ++ in_line (printed_item_name name)
step_fault_text step_fault.Cycle = codes "cycle"
step_fault_text (step_fault.Wrong reason) = codes "wrong: " ++ in_line (reason_text reason)
step_fault_text (step_fault.Over limit) = codes "over: " ++ limit_word limit

-- A type at its level. Its text is UTF-8, as the names that a development is read with are ASCII; of any other text
-- std's words say what stands for what is none.
abbrev pub type_text : Lp → ℕ → List ℕ
type_text of level = utf8_lossy (term_text of level)

abbrev pub want_text : Want → ℕ → List ℕ
want_text (want.Exactly of) level = type_text of level
want_text want.Product level = codes "a product"
want_text want.Sorted level = codes "a type"

-- commands count from 1, nodes from 0
abbrev pub type_fault_text : TypeFault → List ℕ
type_fault_text (type_fault.BadPrelude command) = codes "bad prelude: command " ++ decimal command
type_fault_text (type_fault.BadSymbol command) = codes "bad symbol: command " ++ decimal command
type_fault_text (type_fault.BadGoal command) = codes "bad goal: command " ++ decimal command
type_fault_text (type_fault.UnknownName node name) = codes "unknown name at node " ++ decimal node ++ codes ": " ++ in_line name
type_fault_text (type_fault.OutOfFragment node) = codes "out of fragment at node " ++ decimal node
type_fault_text (type_fault.IllTyped node wanted found level) =
    codes "ill typed at node " ++ decimal node ++ codes ": expected " ++ want_text wanted level ++ codes ", found " ++ type_text found level

-- The line of a refusal, without its newline. Items and steps count from 1, bytes from 0.
abbrev pub line_of : Refusal → List ℕ
line_of Words = codes "words: see --help"
line_of (ReadFault file) = codes "read fault: " ++ file_word file
line_of (TooLong file) = codes "too long: " ++ file_word file
line_of (NotTptp file at) = codes "not TPTP: " ++ file_word file ++ codes " at byte " ++ decimal at
line_of (TooDeep file at) = codes "too deep: " ++ file_word file ++ codes " at byte " ++ decimal at
line_of (TooManyItems file) = codes "too many items: " ++ file_word file
line_of (NotDevelopment syntax at) = codes "not " ++ syntax_word syntax ++ codes ": file at byte " ++ decimal at
line_of (NotTyped fault) = type_fault_text fault
line_of (Item item fault) = codes "problem item " ++ decimal item ++ codes ": " ++ item_fault_text fault
line_of (Step step fault) = codes "step " ++ decimal step ++ codes ": " ++ step_fault_text fault
line_of NoRefutation = codes "no refutation"
line_of (OverWeight limit) = codes "weight over " ++ decimal limit
line_of (OverWide step) = codes "instance over 1000000: step " ++ decimal step
line_of WriteFault = codes "write fault"
line_of Memory = codes "out of memory"

-- The line has a number, so it takes memory.
abbrev pub HasNumber : Refusal → Type 0
HasNumber (NotTptp file at) = Unit {0}
HasNumber (TooDeep file at) = Unit {0}
HasNumber (NotDevelopment syntax at) = Unit {0}
HasNumber (NotTyped fault) = Unit {0}
HasNumber (Item item fault) = Unit {0}
HasNumber (Step step fault) = Unit {0}
HasNumber (OverWeight limit) = Unit {0}
HasNumber (OverWide step) = Unit {0}
HasNumber refusal = ⊥
