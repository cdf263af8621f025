-- The stack of the terms whose pattern variables are still to be listed: the last one comes first. It mirrors the code, and
-- private contracts alone cite it.
use Rattle.std.specs.Prelude.{ℕ, ◌+◌, List, [], ◌∷◌, ◌++◌, map}
use Rattle.std.specs.Borrow.{Bor}
use Rattle.std.specs.declared.alloc.Global.{Global}
use Rattle.std.specs.declared.vec.Vec.{Vec}
use Rattle.lp_term.specs.declared.Lp.{Lp}
use Rattle.dedukti_text.specs.Patterns.{patterns_in}
use Rattle.dedukti_text.specs.Pieces.{term_weight}

abbrev pub names_of : List (Vec ℕ Global) → List (List ℕ)
names_of keys = map (λ key. key.items) keys

abbrev pub rest_patterns : List (Bor Lp) → List (List ℕ)
rest_patterns [] = []
rest_patterns (t ∷ above) = rest_patterns above ++ patterns_in t.now

abbrev pub rest_weight : List (Bor Lp) → ℕ
rest_weight [] = 0
rest_weight (t ∷ above) = rest_weight above + term_weight t.now
