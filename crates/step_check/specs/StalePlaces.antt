-- Where a map has a symbol that is not fresh. Only private contracts cite this.
use Rattle.std.specs.Prelude.{◌≡◌, ℕ, List, find, slice_get, Option, Some, None, MatchOption}
use Rattle.dk_syntax.specs.declared.SymKey.{SymKey}
use Rattle.step_check.specs.Freshness.{is_stale}

-- The symbol at that place of a map with these symbols is the first that is not fresh, or each is fresh.
abbrev pub IsStalePlace : List SymKey → List SymKey → Option ℕ → Type 0
IsStalePlace known symbols answer =
    MatchOption answer (find (is_stale known symbols) symbols ≡ None) (λ place. (symbol : SymKey) × (slice_get symbols place ≡ Some symbol) × (find (is_stale known symbols) symbols ≡ Some symbol))
