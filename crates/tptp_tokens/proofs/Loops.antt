-- What loops keep.
use Rattle.std.proofs.Common.{ℕ, List, ◌++◌, Option, Some, None}

-- what was read before, and what is still read
abbrev pub with_front : List ℕ → Option (List ℕ × List ℕ) → Option (List ℕ × List ℕ)
with_front front None = None
with_front front (Some found) = Some (front ++ found.0, found.1)
