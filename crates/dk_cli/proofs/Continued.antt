-- A command goes on where the derivation of its files was read.
use Rattle.std.proofs.Common.{◌≡◌, ◌≢◌, ℕ, List, Ok, Err, None, Some, IfErr, inl, inr, refl, sym, subst}
use Rattle.std.specs.declared.option.Option.{Option}
use Rattle.std.specs.declared.result.Result.{Result}
use Rattle.dk_io.specs.Outside.{Told}
use Rattle.dk_cli.specs.Answer.{AnswersCommand, IsAnswer, IsMemory, IsOfTrace, IsReadFault, IsTold, LacksFile, Refuses}
use Rattle.dk_cli.specs.Commands.{Command}
use Rattle.dk_cli.specs.Outcome.{IsGiven, IsOutcome}
use Rattle.dk_cli.specs.Stages.{Answered, Follows}
use Rattle.dk_cli.specs.declared.refusal.File.{File}
use Rattle.dk_cli.specs.declared.refusal.Refusal.{Refusal}
use Rattle.dk_cli.specs.declared.refusal.Refusal.TheVariants.{ReadFault, Memory}
use Rattle.dk_cli.proofs.DerivationLaws.{IsLater, of_trace}
use Rattle.dk_cli.proofs.StageLaws.{Only}

-- a refusal says the same of any answer
fault_kept : (A B : Type 0) (refusal : Refusal) → IsReadFault {A = A} (Err refusal) → IsReadFault {A = B} (Err refusal)
fault_kept A B (ReadFault file) h = tt
fault_kept A B refusal h = absurd h

memory_kept : (A B : Type 0) (refusal : Refusal) → IsMemory {A = A} (Err refusal) → IsMemory {A = B} (Err refusal)
memory_kept A B Memory h = tt
memory_kept A B refusal h = absurd h

-- ---- what a later stage refuses

-- where a command refuses such things, a stage after its reading refuses those, none of which is a read fault
pub record IsAfterReading (Can Later : Refusal → Type 0) : Type 0 where
  pub can : (why : Refusal) → Later why → Can why
  pub no_read_fault : (which : File) → Later (ReadFault which) → ⊥
  pub memory : Can Memory

pub after_derivation : IsAfterReading IsOfTrace IsLater
after_derivation = record { can = of_trace; no_read_fault = λ which h. h; memory = tt }

module _ {A : Type 0} (Can Later : Refusal → Type 0) (after : IsAfterReading Can Later) where
  later_can : (answer : Result A Refusal) → Only Later answer → IfErr answer Can
  later_can (Ok found) h = tt
  later_can (Err why) h = after.can why h

  later_unread : (answer : Result A Refusal) → Only Later answer → IsReadFault answer → ⊥
  later_unread (Ok found) h k = k
  later_unread (Err (ReadFault which)) h k = after.no_read_fault which h
  later_unread (Err why) h k = k

-- ---- the answers

module _ {A B : Type 0} (told : Told) (Lacks : Type 0) (Can : Refusal → Type 0) (First : (List ℕ → Option (List ℕ)) → Result A Refusal → Type 0) (Next : A → Result B Refusal → Type 0)
    (before now : ℕ) where
  told_stops : (given : Told) (refusal : Refusal) → IsTold given First (Err refusal) → IsTold given (λ files. Follows (First files) Next) (Err refusal)
  told_stops None refusal h = tt
  told_stops (Some files) refusal h = (Err refusal, h, refl)

  told_goes_on : (given : Told) (found : A) (answer : Result B Refusal) → IsTold given First (Ok found) → Next found answer → IsTold given (λ files. Follows (First files) Next) answer
  told_goes_on None found answer h k = tt
  told_goes_on (Some files) found answer h k = (Ok found, h, k)

  -- the first stage refuses
  stops_at : (refusal : Refusal) → IsAnswer Lacks Can (IsTold told First) before now (Err refusal)
      → IsAnswer Lacks Can (IsTold told (λ files. Follows (First files) Next)) before now (Err refusal)
  stops_at refusal given = record {
    later = given.later;
    rose = λ r. fault_kept A B refusal (given.rose r);
    lacks = λ l. elim (given.lacks l) [ inl f ↦ inl (fault_kept A B refusal f) | inr m ↦ inr (memory_kept A B refusal m) ];
    outcome = elim given.outcome [
      | inl f ↦ inl (fault_kept A B refusal f.0, f.1)
      | inr rest ↦ elim rest [ inl m ↦ inr (inl (memory_kept A B refusal m)) | inr o ↦ inr (inr (told_stops told refusal o)) ]
    ];
    read_fault = λ f. given.read_fault (fault_kept B A refusal f);
    refusal = given.refusal;
  }

  pub stops_told : (first : Result A Refusal) (refusal : Refusal) (answer : Result B Refusal) → first ≡ Err refusal → answer ≡ Err refusal
      → IsAnswer Lacks Can (IsTold told First) before now first → IsAnswer Lacks Can (IsTold told (λ files. Follows (First files) Next)) before now answer
  stops_told first refusal answer was is h =
      subst (IsAnswer Lacks Can (IsTold told (λ files. Follows (First files) Next)) before now) (sym is)
      (stops_at refusal (subst (IsAnswer Lacks Can (IsTold told First) before now) was h))

  module _ (Later : Refusal → Type 0) (after : IsAfterReading Can Later) (found : A) (given : IsAnswer Lacks Can (IsTold told First) before now (Ok found)) where
    goes_on_with : (answer : Result B Refusal) → Next found answer → Only Later answer → IsAnswer Lacks Can (IsTold told (λ files. Follows (First files) Next)) before now answer
    goes_on_with answer next later = record {
      later = given.later;
      rose = λ r. absurd (given.rose r);
      lacks = λ l. elim (given.lacks l) [ inl f ↦ absurd f | inr m ↦ absurd m ];
      outcome = elim given.outcome [
        | inl f ↦ absurd f.0
        | inr rest ↦ elim rest [ inl m ↦ absurd m | inr o ↦ inr (inr (told_goes_on told found answer o next)) ]
      ];
      read_fault = λ f. absurd (later_unread Can Later after answer later f);
      refusal = later_can Can Later after answer later;
    }

    goes_on_at : ((end : Result B Refusal) → Next found end → Only Later end) → (answer : Result B Refusal) → Answered (Next found) answer
        → IsAnswer Lacks Can (IsTold told (λ files. Follows (First files) Next)) before now answer
    goes_on_at later (Ok text) next = goes_on_with (Ok text) next (later (Ok text) next)
    goes_on_at later (Err Memory) next = record {
      later = given.later;
      rose = λ r. absurd (given.rose r);
      lacks = λ l. inr tt;
      outcome = inr (inl tt);
      read_fault = λ f. absurd f;
      refusal = after.memory;
    }
    goes_on_at later (Err refusal) next = goes_on_with (Err refusal) next (later (Err refusal) next)

  -- the first stage gives something, and the next one answers
  pub goes_on_told : (Later : Refusal → Type 0) → IsAfterReading Can Later → (first : Result A Refusal) (found : A) (answer : Result B Refusal) → first ≡ Ok found → IsAnswer Lacks Can (IsTold told First) before now first
      → ((end : Result B Refusal) → Next found end → Only Later end) → Answered (Next found) answer
      → IsAnswer Lacks Can (IsTold told (λ files. Follows (First files) Next)) before now answer
  goes_on_told Later after first found answer was h later next = goes_on_at Later after found (subst (IsAnswer Lacks Can (IsTold told First) before now) was h) later answer next

-- what the files give, where there is memory, is the outcome
module _ (told : Told) (command : Command) (before now : ℕ) where
  told_outcome : (given : Told) (answer : Result (List ℕ) Refusal) → answer ≢ Err Memory → IsTold given (IsGiven command) answer → IsTold given (IsOutcome command) answer
  told_outcome None answer memory h = tt
  told_outcome (Some files) answer memory h = record { given = h; memory = memory }

  with_outcome : (answer : Result (List ℕ) Refusal) → answer ≢ Err Memory → IsAnswer (LacksFile told command) (Refuses command) (IsTold told (IsGiven command)) before now answer
      → AnswersCommand told command before now answer
  with_outcome answer memory h = record {
    later = h.later;
    rose = h.rose;
    lacks = h.lacks;
    outcome = elim h.outcome [ inl f ↦ inl f | inr rest ↦ elim rest [ inl m ↦ inr (inl m) | inr o ↦ inr (inr (told_outcome told answer memory o)) ] ];
    read_fault = h.read_fault;
    refusal = h.refusal;
  }

  pub answers_command : (answer : Result (List ℕ) Refusal) → IsAnswer (LacksFile told command) (Refuses command) (IsTold told (IsGiven command)) before now answer
      → AnswersCommand told command before now answer
  answers_command (Ok text) h = with_outcome (Ok text) (λ e. cc) h
  answers_command (Err Memory) h = record {
    later = h.later;
    rose = h.rose;
    lacks = h.lacks;
    outcome = inr (inl tt);
    read_fault = h.read_fault;
    refusal = h.refusal;
  }
  answers_command (Err refusal) h = with_outcome (Err refusal) (λ e. cc) h
