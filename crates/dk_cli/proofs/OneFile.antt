-- The answer to the reading of one file.
use Rattle.std.proofs.Common.{◌≡◌, ℕ, ◌<◌, ◌≤◌, List, length, Ok, Err, None, Some, inl, inr, refl}
use Rattle.std.specs.declared.option.Option.{Option}
use Rattle.std.specs.declared.result.Result.{Result}
use Rattle.std.specs.declared.vec.Vec.{Vec}
use Rattle.std.specs.declared.alloc.Global.{Global}
use Rattle.dk_io.specs.Outside.{Told, IsAbsent, IsFile as IsFileOf, Tells}
use Rattle.dk_cli.specs.Answer.{IsTold}
use Rattle.dk_cli.specs.Derivations.{IsFile, byte_limit}
use Rattle.dk_cli.specs.Steps.{AnswersFile, ReadsFile, answer_view}
use Rattle.dk_cli.specs.declared.refusal.File.{File}
use Rattle.dk_cli.specs.declared.refusal.Refusal.{Refusal}
use Rattle.dk_cli.specs.declared.refusal.Refusal.TheVariants.{ReadFault, TooLong, Memory}

-- a file that is told is there
there : (told : Told) (name bytes : List ℕ) → Tells told name bytes → IsAbsent told name → ⊥
there None name bytes tells absent = tells
there (Some files) name bytes tells absent = cc

read_is_there : (told : Told) (name bytes : List ℕ) → IsFileOf told name bytes → IsAbsent told name → ⊥
read_is_there None name bytes is absent = absent
read_is_there (Some files) name bytes is absent = cc

-- an absent file
absent_file : (told : Told) (name : List ℕ) (which file : File) → file ≡ which → IsAbsent told name → IsTold told (λ files. IsFile which (files name)) (Err (ReadFault file))
absent_file None name which file same absent = tt
absent_file (Some files) name which file same absent = rw (absent, same) refl

-- a file over the limit
module _ (files : List ℕ → Option (List ℕ)) (name : List ℕ) (which file : File) (same : file ≡ which) (present : files name ≡ None → ⊥)
    (long : (bytes : List ℕ) → files name ≡ Some bytes → byte_limit < length bytes) where
  long_found : (found : Option (List ℕ)) → files name ≡ found → IsFile which found (Err (TooLong file))
  long_found None is = absurd (present is)
  long_found (Some bytes) is = (same, long bytes is)

long_file : (told : Told) (name : List ℕ) (which file : File) → file ≡ which → (IsAbsent told name → ⊥)
    → ((bytes : List ℕ) → Tells told name bytes → byte_limit < length bytes) → IsTold told (λ files. IsFile which (files name)) (Err (TooLong file))
long_file None name which file same present long = tt
long_file (Some files) name which file same present long = long_found files name which file same present long (files name) refl

-- a file that was read whole
whole_file : (told : Told) (name : List ℕ) (which : File) (bytes : List ℕ) → IsFileOf told name bytes → length bytes ≤ byte_limit
    → IsTold told (λ files. IsFile which (files name)) (Ok bytes)
whole_file None name which bytes is fits = tt
whole_file (Some files) name which bytes is fits = rw is (refl, fits)

pub file_answers : (told : Told) (name : List ℕ) (which : File) (before now : ℕ) (result : Result (Vec ℕ Global) Refusal)
    → ReadsFile told name which before now result → AnswersFile told name which before now (answer_view result)
file_answers told name which before now (Ok bytes) r = record {
  later = r.later;
  rose = λ h. let e = r.rose h in cc;
  lacks = λ h. elim h [ inl absent ↦ absurd (read_is_there told name bytes.items r.bytes.0 absent) | inr rest ↦ absurd rest.3 ];
  outcome = inr (inr (whole_file told name which bytes.items r.bytes.0 r.bytes.1));
  read_fault = λ h. absurd h;
  refusal = tt;
}
file_answers told name which before now (Err (ReadFault file)) r = record {
  later = r.later;
  rose = λ h. tt;
  lacks = λ h. inl tt;
  outcome = elim r.cause.1 [ inl rose ↦ inl (tt, rose) | inr absent ↦ inr (inr (absent_file told name which file r.cause.0 absent)) ];
  read_fault = λ h. elim r.cause.1 [ inl rose ↦ inl rose | inr absent ↦ inr (inl absent) ];
  refusal = tt;
}
file_answers told name which before now (Err (TooLong file)) r =
    let present : IsAbsent told name → ⊥ = λ absent. let e = r.absent absent in cc in record {
      later = r.later;
      rose = λ h. let e = r.rose h in cc;
      lacks = λ h. elim h [ inl absent ↦ absurd (present absent) | inr rest ↦ absurd rest.3 ];
      outcome = inr (inr (long_file told name which file r.cause.0 present r.cause.1));
      read_fault = λ h. absurd h;
      refusal = tt;
    }
file_answers told name which before now (Err Memory) r = record {
  later = r.later;
  rose = λ h. let e = r.rose h in cc;
  lacks = λ h. inr tt;
  outcome = inr (inl tt);
  read_fault = λ h. absurd h;
  refusal = tt;
}
file_answers told name which before now (Err refusal) r = absurd r.cause
