-- What is answered to words where memory lacks, and by equals.
use Rattle.std.proofs.Common.{◌≡◌, ℕ, Bool, true, false, List, Err, None, Some, IfSome, IsOk, inl, inr, refl, sym, ◌∙◌, ap, subst, arith, option_map}
use Rattle.std.specs.declared.option.Option.{Option}
use Rattle.std.specs.declared.result.Result.{Result}
use Rattle.dk_io.specs.Outside.{Told}
use Rattle.words.specs.Commands.{Text, Command as Words}
use Rattle.words.specs.Commands as words
use Rattle.words.specs.Reading.{asks_command, command_of}
use Rattle.words.specs.Views.{words_view}
use Rattle.words.specs.declared.command.Words.{Words as WordsRead}
use Rattle.dk_cli.specs.Answer.{Answers, AnswersCommand, IsFixed, Refuses}
use Rattle.dk_cli.specs.Commands.{Command, asked_of, check, convert, expansion, extract, generate, steps, without_workers}
use Rattle.dk_cli.specs.declared.refusal.Refusal.{Refusal}
use Rattle.dk_cli.specs.declared.refusal.Refusal.TheVariants.{Memory}
use Rattle.dk_cli.specs.declared.syntax.Syntax.TheVariants.{Lambdapi, Dedukti}
use Rattle.dk_cli.proofs.WordLaws.{help_takes_none}

-- ---- what was read

pub words_read : (line : List Text) (asked : Option WordsRead) (found : WordsRead) → asked ≡ Some found → option_map words_view asked ≡ command_of line
    → command_of line ≡ Some (words_view found)
words_read line asked found is read = sym read ∙ ap (option_map words_view) is

-- ---- where memory is wanted for reading

pub asks_if : {A E : Type 0} (asks : Bool) (read : Result A E) (fault : E) → read ≡ Err fault → (asks ≡ false → IsOk read) → asks ≡ true
asks_if true read fault is settled = refl
asks_if false read fault is settled = let h = subst IsOk is (settled refl) in cc

wanted : (told : Told) (command : Command) (n : ℕ) → Refuses command Memory → AnswersCommand told command n n (Err Memory)
wanted told command n can = record {
  later = omega arith;
  rose = λ r. absurd (omega (arith, r));
  lacks = λ l. inr tt;
  outcome = inr (inl tt);
  read_fault = λ f. absurd f;
  refusal = can;
}

wanted_on : (told : Told) (asked : Option Words) (n : ℕ) → (asked ≡ Some words.help → ⊥) → Answers told (option_map without_workers asked) n n (Err Memory)
wanted_on told None n not_help = (inr tt, refl)
wanted_on told (Some (words.convert names limit workers)) n not_help = wanted told (convert Lambdapi names limit) n tt
wanted_on told (Some (words.steps names workers)) n not_help = wanted told (steps names) n tt
wanted_on told (Some (words.extract names workers)) n not_help = wanted told (extract names) n tt
wanted_on told (Some (words.expansion names limit workers)) n not_help = wanted told (expansion names limit) n tt
wanted_on told (Some (words.check file)) n not_help = wanted told (check Lambdapi file) n tt
wanted_on told (Some (words.generate number workers)) n not_help = wanted told (generate number) n tt
wanted_on told (Some (words.dedukti names limit workers)) n not_help = wanted told (convert Dedukti names limit) n tt
wanted_on told (Some (words.dkcheck file)) n not_help = wanted told (check Dedukti file) n tt
wanted_on told (Some words.help) n not_help = absurd (not_help refl)

pub memory_wanted : (told : Told) (line : List Text) (n : ℕ) → asks_command line ≡ true → Answers told (asked_of line) n n (Err Memory)
memory_wanted told line n asks = wanted_on told (command_of line) n (help_takes_none line asks)

fixed_on : (asked : Option Words) → (asked ≡ Some words.help → ⊥) → IfSome (option_map without_workers asked) (λ command. IsFixed command (Err Memory))
fixed_on None not_help = tt
fixed_on (Some (words.convert names limit workers)) not_help = tt
fixed_on (Some (words.steps names workers)) not_help = tt
fixed_on (Some (words.extract names workers)) not_help = tt
fixed_on (Some (words.expansion names limit workers)) not_help = tt
fixed_on (Some (words.check file)) not_help = tt
fixed_on (Some (words.generate number workers)) not_help = tt
fixed_on (Some (words.dedukti names limit workers)) not_help = tt
fixed_on (Some (words.dkcheck file)) not_help = tt
fixed_on (Some words.help) not_help = absurd (not_help refl)

pub memory_fixed : (line : List Text) → asks_command line ≡ true → IfSome (asked_of line) (λ command. IsFixed command (Err Memory))
memory_fixed line asks = fixed_on (command_of line) (help_takes_none line asks)

-- ---- equal answers

pub answers_as : (told : Told) (command found : Command) (before now : ℕ) (answer other : Result (List ℕ) Refusal) → found ≡ command → other ≡ answer
    → AnswersCommand told command before now answer → AnswersCommand told found before now other
answers_as told command found before now answer other same_command same_answer a =
    subst (λ c. AnswersCommand told c before now other) (sym same_command) (subst (AnswersCommand told command before now) (sym same_answer) a)

pub fixed_as : (command found : Command) (answer other : Result (List ℕ) Refusal) → found ≡ command → other ≡ answer → IsFixed command answer → IsFixed found other
fixed_as command found answer other same_command same_answer h =
    subst (λ c. IsFixed c other) (sym same_command) (subst (IsFixed command) (sym same_answer) h)
