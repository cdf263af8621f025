-- What is told of the files, and of the bytes that a sink or notes keep.
use Rattle.std.specs.Prelude.{◌≡◌, ℕ, ◌<◌, ◌≤◌, List, [], ◌++◌, length, take, None, Some}
use Rattle.std.specs.declared.option.Option.{Option}
use Rattle.std.specs.Io.KnownBytes.{Consumes, IsAtEnd}

-- The bytes of each name, where they are told. A name that is told to have none is absent.
abbrev pub Told : Type 0
Told = Option (List ℕ → Option (List ℕ))

-- No bytes are told.
abbrev pub untold : Told
untold = None

-- The bytes are told, and no file has this name.
abbrev pub IsAbsent : Told → List ℕ → Type 0
IsAbsent None name = ⊥
IsAbsent (Some files) name = files name ≡ None

-- The bytes are told, and the file of this name has these: the form for a premise.
abbrev pub Tells : Told → List ℕ → List ℕ → Type 0
Tells None name bytes = ⊥
Tells (Some files) name bytes = files name ≡ Some bytes

-- Where the bytes are told, the file of this name has these: the form for a conclusion.
abbrev pub IsFile : Told → List ℕ → List ℕ → Type 0
IsFile None name bytes = Unit {0}
IsFile (Some files) name bytes = files name ≡ Some bytes

-- Where the bytes are told, what is left is the whole file of this name.
abbrev pub Starts : Told → List ℕ → Option (List ℕ) → Type 0
Starts None name left = Unit {0}
Starts (Some files) name left = (bytes : List ℕ) × (files name ≡ Some bytes) × (left ≡ Some bytes)

-- Where the bytes are told, nothing is left.
abbrev pub Ends : Told → Option (List ℕ) → Type 0
Ends None left = Unit {0}
Ends (Some files) left = left ≡ Some []

-- A read moved the first `n` bytes that were left into `buf`, none only at the end or into no room.
pub record Gives (old new : Option (List ℕ)) (n : ℕ) (buf : List ℕ) : Type 0 where
  pub bytes : Consumes old new (take n buf)
  pub end : n ≡ 0 → 0 < length buf → IsAtEnd old

-- Kept bytes grow by a prefix of these.
abbrev pub AppendsFront : Option (List ℕ) → Option (List ℕ) → List ℕ → Type 0
AppendsFront None new bytes = Unit {0}
AppendsFront (Some xs) None bytes = ⊥
AppendsFront (Some xs) (Some ys) bytes = (n : ℕ) × (n ≤ length bytes) × (ys ≡ xs ++ take n bytes)
