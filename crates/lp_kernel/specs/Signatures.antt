-- Signatures as the program keeps them.
use Rattle.std.specs.Prelude.{ℕ, ◌&&◌, Bool, true, not, List, [], ◌∷◌, Vec}
use Rattle.std.specs.declared.alloc.Global.{Global}
use Rattle.lp_term.specs.Typing.{Declaration}
use Rattle.lp_term.specs.View.{term_of}
use Rattle.lp_term.specs.declared.lp.Lp.{Lp}
use Rattle.lp_kernel.specs.declared.signature.Signature.{Signature}
use Rattle.lp_kernel.specs.Checking.{is_declared}

-- the declarations that a map's entries are
abbrev pub declarations_of : List (Vec ℕ Global × Lp) → List Declaration
declarations_of [] = []
declarations_of (e ∷ rest) = record { name = e.0.items; of = term_of e.1 } ∷ declarations_of rest

abbrev pub sig_of : Signature → List Declaration
sig_of sig = declarations_of sig.entries.entries

-- whether no name is declared twice
abbrev pub are_distinct : List Declaration → Bool
are_distinct [] = true
are_distinct (e ∷ rest) = not (is_declared rest e.name) && are_distinct rest
