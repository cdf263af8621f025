-- The answer where one of the two files was not read.
use Rattle.std.proofs.Common.{◌≡◌, ℕ, ◌<◌, ◌≤◌, List, length, Ok, Err, None, Some, inl, inr, refl, sym, subst, arith}
use Rattle.std.specs.declared.option.Option.{Option}
use Rattle.std.specs.declared.result.Result.{Result}
use Rattle.std.specs.declared.vec.Vec.{Vec}
use Rattle.std.specs.declared.alloc.Global.{Global}
use Rattle.dk_io.specs.Causes.{Rose}
use Rattle.dk_io.specs.Outside.{Told, IsAbsent, IsFile, Tells}
use Rattle.dk_cli.specs.Answer.{IsTold, LacksOneOf}
use Rattle.words.specs.Commands.{Names}
use Rattle.dk_cli.specs.Commands.{files_of_names}
use Rattle.dk_cli.specs.Derivations.{IsDerivationAt, IsDerivationIn, IsDerivationOf, byte_limit}
use Rattle.dk_cli.specs.Stages.{Answered}
use Rattle.dk_cli.specs.Steps.{AnswersDerivation, ReadsFile}
use Rattle.dk_cli.specs.declared.derivation.Derivation.{Derivation}
use Rattle.dk_cli.specs.declared.refusal.Refusal.{Refusal}
use Rattle.dk_cli.specs.declared.refusal.Refusal.TheVariants.{ReadFault, TooLong, Memory}
use Rattle.dk_cli.specs.declared.refusal.File.{File}
use Rattle.dk_cli.specs.declared.refusal.File.TheVariants.{Problem, Trace}
use Rattle.dk_cli.proofs.DerivationLaws.{both_read, derivation_later, later_of_trace, later_no_read_fault, problem_absent, problem_too_long, trace_absent, trace_too_long}

-- what is told of a file that is there
there : (told : Told) (name bytes : List ℕ) → Tells told name bytes → IsAbsent told name → ⊥
there None name bytes tells absent = tells
there (Some files) name bytes tells absent = cc

-- an absent problem
no_problem : (told : Told) (names : Names) (file : File) → file ≡ Problem → IsAbsent told names.problem → IsTold told (IsDerivationAt names) (Err (ReadFault file))
no_problem None names file same absent = tt
no_problem (Some files) names file same absent =
    rw (absent, same) (problem_absent (files names.trace))

-- a problem over the limit
module _ (files : List ℕ → Option (List ℕ)) (names : Names) (present : files names.problem ≡ None → ⊥)
    (long : (bytes : List ℕ) → files names.problem ≡ Some bytes → byte_limit < length bytes) where
  long_problem_at : (found : Option (List ℕ)) → files names.problem ≡ found → IsDerivationOf found (files names.trace) (Err (TooLong Problem))
  long_problem_at None is = absurd (present is)
  long_problem_at (Some bytes) is = problem_too_long bytes (files names.trace) (long bytes is)

long_problem : (told : Told) (names : Names) (file : File) → file ≡ Problem → (IsAbsent told names.problem → ⊥)
    → ((bytes : List ℕ) → Tells told names.problem bytes → byte_limit < length bytes) → IsTold told (IsDerivationAt names) (Err (TooLong file))
long_problem None names file same present long = tt
long_problem (Some files) names file same present long =
    rw same (long_problem_at files names present long (files names.problem) refl)

-- the problem was not read
pub problem_unread : (told : Told) (names : Names) (before now : ℕ) (refusal : Refusal)
    → ReadsFile told names.problem Problem before now (Err refusal) → AnswersDerivation told names before now (Err refusal)
problem_unread told names before now (ReadFault file) r = record {
  later = r.later;
  rose = λ h. tt;
  lacks = λ h. inl tt;
  outcome = elim r.cause.1 [ inl rose ↦ inl (tt, rose) | inr absent ↦ inr (inr (no_problem told names file r.cause.0 absent)) ];
  read_fault = λ h. elim r.cause.1 [ inl rose ↦ inl rose | inr absent ↦ inr (inl absent) ];
  refusal = tt;
}
problem_unread told names before now (TooLong file) r =
    let present : IsAbsent told names.problem → ⊥ = λ absent. let e = r.absent absent in cc in record {
      later = r.later;
      rose = λ h. let e = r.rose h in cc;
      lacks = λ h. elim h [ inl absent ↦ absurd (present absent) | inr rest ↦ let long = r.cause.1 rest.0 rest.1 in let short = rest.2 in absurd (omega arith) ];
      outcome = inr (inr (long_problem told names file r.cause.0 present r.cause.1));
      read_fault = λ h. absurd h;
      refusal = tt;
    }
problem_unread told names before now Memory r = record {
  later = r.later;
  rose = λ h. let e = r.rose h in cc;
  lacks = λ h. inr tt;
  outcome = inr (inl tt);
  read_fault = λ h. absurd h;
  refusal = tt;
}
problem_unread told names before now refusal r = absurd r.cause

-- an absent trace
no_trace : (told : Told) (names : Names) (file : File) (problem : List ℕ) → IsFile told names.problem problem → length problem ≤ byte_limit
    → file ≡ Trace → IsAbsent told names.trace → IsTold told (IsDerivationAt names) (Err (ReadFault file))
no_trace None names file problem is fits same absent = tt
no_trace (Some files) names file problem is fits same absent = rw (is, absent, same) (trace_absent problem fits)

-- a trace over the limit
module _ (files : List ℕ → Option (List ℕ)) (names : Names) (problem : List ℕ) (fits : length problem ≤ byte_limit)
    (present : files names.trace ≡ None → ⊥)
    (long : (bytes : List ℕ) → files names.trace ≡ Some bytes → byte_limit < length bytes) where
  long_trace_at : (found : Option (List ℕ)) → files names.trace ≡ found → IsDerivationOf (Some problem) found (Err (TooLong Trace))
  long_trace_at None is = absurd (present is)
  long_trace_at (Some bytes) is = trace_too_long problem bytes fits (long bytes is)

long_trace : (told : Told) (names : Names) (file : File) (problem : List ℕ) → IsFile told names.problem problem → length problem ≤ byte_limit
    → file ≡ Trace → (IsAbsent told names.trace → ⊥)
    → ((bytes : List ℕ) → Tells told names.trace bytes → byte_limit < length bytes) → IsTold told (IsDerivationAt names) (Err (TooLong file))
long_trace None names file problem is fits same present long = tt
long_trace (Some files) names file problem is fits same present long =
    rw (is, same) (long_trace_at files names problem fits present long (files names.trace) refl)

-- a file that was read is there
read_is_there : (told : Told) (name bytes : List ℕ) → IsFile told name bytes → IsAbsent told name → ⊥
read_is_there None name bytes is absent = absent
read_is_there (Some files) name bytes is absent = cc

-- a trace that lacks, where the problem was read, is absent
lacks_trace : (told : Told) (names : Names) (problem : List ℕ) → IsFile told names.problem problem → LacksOneOf told (files_of_names names) → IsAbsent told names.trace
lacks_trace told names problem is (inl absent) = absurd (read_is_there told names.problem problem is absent)
lacks_trace told names problem is (inr rest) = elim rest.3 [ inl absent ↦ absent | inr more ↦ absurd more.3 ]

lacks_of : (told : Told) (names : Names) (problem : List ℕ) → IsFile told names.problem problem → length problem ≤ byte_limit
    → IsAbsent told names.trace → LacksOneOf told (files_of_names names)
lacks_of None names problem is fits absent = absurd absent
lacks_of (Some files) names problem is fits absent = inr (problem, is, fits, inl absent)

-- the problem was read, and the trace was not
pub trace_unread : (told : Told) (names : Names) (before mid now : ℕ) (problem : List ℕ) (refusal : Refusal)
    → before ≤ mid → (before < mid → ⊥) → IsFile told names.problem problem → length problem ≤ byte_limit
    → ReadsFile told names.trace Trace mid now (Err refusal) → AnswersDerivation told names before now (Err refusal)
trace_unread told names before mid now problem (ReadFault file) first still is fits r =
    let same : mid ≡ before = omega arith in record {
      later = let second = r.later in omega arith;
      rose = λ h. tt;
      lacks = λ h. inl tt;
      outcome = elim r.cause.1 [ inl rose ↦ inl (tt, subst (λ m. Rose m now) same rose) | inr absent ↦ inr (inr (no_trace told names file problem is fits r.cause.0 absent)) ];
      read_fault = λ h. elim r.cause.1 [ inl rose ↦ inl (subst (λ m. Rose m now) same rose) | inr absent ↦ inr (lacks_of told names problem is fits absent) ];
      refusal = tt;
    }
trace_unread told names before mid now problem (TooLong file) first still is fits r =
    let present : IsAbsent told names.trace → ⊥ = λ absent. let e = r.absent absent in cc in record {
      later = let second = r.later in omega arith;
      rose = λ h. let e = r.rose (omega arith) in cc;
      lacks = λ h. absurd (present (lacks_trace told names problem is h));
      outcome = inr (inr (long_trace told names file problem is fits r.cause.0 present r.cause.1));
      read_fault = λ h. absurd h;
      refusal = tt;
    }
trace_unread told names before mid now problem Memory first still is fits r = record {
  later = let second = r.later in omega arith;
  rose = λ h. let e = r.rose (omega arith) in cc;
  lacks = λ h. inr tt;
  outcome = inr (inl tt);
  read_fault = λ h. absurd h;
  refusal = tt;
}
trace_unread told names before mid now problem refusal first still is fits r = absurd r.cause

-- both files were read, and this is their derivation
told_derivation : (told : Told) (names : Names) (problem trace : List ℕ) (answer : Result Derivation Refusal)
    → IsFile told names.problem problem → IsFile told names.trace trace → IsDerivationOf (Some problem) (Some trace) answer → IsTold told (IsDerivationAt names) answer
told_derivation None names problem trace answer p t given = tt
told_derivation (Some files) names problem trace answer p t given = rw (p, t) given

-- what is known of a file that was read whole
pub record IsReadWhole (told : Told) (name : List ℕ) (before now : ℕ) (bytes : List ℕ) : Type 0 where
  pub later : before ≤ now
  pub still : before < now → ⊥
  pub is : IsFile told name bytes
  pub fits : length bytes ≤ byte_limit

pub read_whole : (told : Told) (name : List ℕ) (file : File) (before now : ℕ) (result : Result (Vec ℕ Global) Refusal) (bytes : Vec ℕ Global)
    → result ≡ Ok bytes → ReadsFile told name file before now result → IsReadWhole told name before now bytes.items
read_whole told name file before now result bytes same reads =
    let whole : ReadsFile told name file before now (Ok bytes) = subst (ReadsFile told name file before now) same reads in record {
      later = whole.later;
      still = λ h. let e = whole.rose h in cc;
      is = whole.bytes.0;
      fits = whole.bytes.1;
    }

-- the answer where the problem was not read
pub problem_ends : (told : Told) (names : Names) (before now : ℕ) (read : Result (Vec ℕ Global) Refusal) (answer : Result Derivation Refusal) (refusal : Refusal)
    → read ≡ Err refusal → answer ≡ Err refusal → ReadsFile told names.problem Problem before now read
    → AnswersDerivation told names before now answer
problem_ends told names before now read answer refusal was is reads =
    subst (λ given. AnswersDerivation told names before now given) (sym is)
    (problem_unread told names before now refusal (subst (ReadsFile told names.problem Problem before now) was reads))

-- and where the problem was read and the trace was not
pub trace_ends : (told after : Told) (names : Names) (before mid now : ℕ) (first read : Result (Vec ℕ Global) Refusal) (answer : Result Derivation Refusal) (problem : Vec ℕ Global) (refusal : Refusal)
    → first ≡ Ok problem → ReadsFile told names.problem Problem before mid first → after ≡ told
    → read ≡ Err refusal → answer ≡ Err refusal → ReadsFile after names.trace Trace mid now read
    → AnswersDerivation told names before now answer
trace_ends told after names before mid now first read answer problem refusal whole reads same was is rest =
    let found = read_whole told names.problem Problem before mid first problem whole reads in
    let ended = subst (ReadsFile told names.trace Trace mid now) was (subst (λ t. ReadsFile t names.trace Trace mid now read) same rest) in
    subst (λ given. AnswersDerivation told names before now given) (sym is)
    (trace_unread told names before mid now problem.items refusal found.later found.still found.is found.fits ended)

-- the answer where both files were read
module _ (told : Told) (names : Names) (before now : ℕ) (problem trace : List ℕ)
    (later : before ≤ now) (still : before < now → ⊥) (p : IsFile told names.problem problem) (fits : length problem ≤ byte_limit)
    (t : IsFile told names.trace trace) (trace_fits : length trace ≤ byte_limit) where
  answers_given : (answer : Result Derivation Refusal) → IsDerivationIn problem trace answer → AnswersDerivation told names before now answer
  answers_given answer given = record {
    later = later;
    rose = λ h. absurd (still h);
    lacks = λ h. absurd (read_is_there told names.trace trace t (lacks_trace told names problem p h));
    outcome = inr (inr (told_derivation told names problem trace answer p t (both_read problem trace answer fits trace_fits given)));
    read_fault = λ h. absurd (later_no_read_fault answer (derivation_later problem trace answer given) h);
    refusal = later_of_trace answer (derivation_later problem trace answer given);
  }

  pub answers_derivation : (answer : Result Derivation Refusal) → Answered (IsDerivationIn problem trace) answer → AnswersDerivation told names before now answer
  answers_derivation (Ok found) h = answers_given (Ok found) h
  answers_derivation (Err Memory) h = record {
    later = later;
    rose = λ e. absurd (still e);
    lacks = λ e. inr tt;
    outcome = inr (inl tt);
    read_fault = λ e. absurd e;
    refusal = tt;
  }
  answers_derivation (Err refusal) h = answers_given (Err refusal) h

-- a count that didn't rise
at_most : (before now : ℕ) → (before < now → ⊥) → now ≤ before
at_most before now still = omega arith

-- the answer where both files were read, from what the calls say
pub derivation_ends : (told after : Told) (names : Names) (before mid now : ℕ) (first second : Result (Vec ℕ Global) Refusal) (problem trace : Vec ℕ Global) (answer : Result Derivation Refusal)
    → first ≡ Ok problem → ReadsFile told names.problem Problem before mid first → after ≡ told
    → second ≡ Ok trace → ReadsFile after names.trace Trace mid now second
    → Answered (IsDerivationIn problem.items trace.items) answer → AnswersDerivation told names before now answer
derivation_ends told after names before mid now first second problem trace answer whole reads same also rest h =
    let found = read_whole told names.problem Problem before mid first problem whole reads in
    let next = read_whole told names.trace Trace mid now second trace also (subst (λ t. ReadsFile t names.trace Trace mid now second) same rest) in
    answers_derivation told names before now problem.items trace.items (join found.later next.later) (still found next) found.is found.fits next.is next.fits answer h
  where
    join : before ≤ mid → mid ≤ now → before ≤ now
    join i j = omega arith

    still : IsReadWhole told names.problem before mid problem.items → IsReadWhole told names.trace mid now trace.items → before < now → ⊥
    still i j h = let a = i.later in let b = j.later in let c : mid ≤ before = at_most before mid i.still in let d : now ≤ mid = at_most mid now j.still in absurd (omega arith)
