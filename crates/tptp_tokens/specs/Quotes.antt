-- Quotes that nothing closes.
use Rattle.std.specs.Prelude.{◌≡◌, ℕ, ◌≤◌, false, List, ◌∷◌, length, None}
use Rattle.tptp_tokens.specs.Scan.{quoted_at}
use Rattle.tptp_tokens.specs.Skipping.{IsTail}
use Rattle.tptp_tokens.specs.declared.quoted.Unclosed.{Unclosed}

-- nothing closes any of these quotes that has so many bytes or more behind it
unfoldable pub NoneCloses : ℕ → ℕ → List ℕ → Type 0
NoneCloses quote left bytes = (rest : List ℕ) → IsTail (quote ∷ rest) bytes → left ≤ length rest → quoted_at quote false rest ≡ None

-- the same of both kinds of quotes
abbrev pub KnowsUnclosed : Unclosed → List ℕ → Type 0
KnowsUnclosed unclosed bytes = NoneCloses 39 unclosed.single bytes × NoneCloses 34 unclosed.double bytes
