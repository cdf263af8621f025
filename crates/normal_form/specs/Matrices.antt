-- The rows of a matrix, a form without its quantifiers.
use Rattle.std.specs.Prelude.{true, false, List, [], ◌∷◌, ◌++◌, map}
use Rattle.normal_form.specs.ClauseLists.{pairs_of, raw, taking}
use Rattle.normal_form.specs.declared.matrix.Matrix.{Matrix, Matrix-F, fold-Matrix}
use Rattle.normal_form.specs.declared.matrix.Matrix.TheOpen as matrix
use Rattle.normal_form.specs.declared.raw.Raw.{Raw}

-- the rows of a matrix, from those of its parts
abbrev pub rows_in_at : Matrix-F (List Raw) → List Raw
rows_in_at matrix.True = []
rows_in_at matrix.False = raw [] [] ∷ []
rows_in_at (matrix.Lit literal) = raw (literal ∷ []) [] ∷ []
rows_in_at (matrix.And a b) = map (taking false) a ++ map (taking true) b
rows_in_at (matrix.Or a b) = pairs_of a b

-- the rows of the matrix
abbrev pub rows_in : Matrix → List Raw
rows_in = fold-Matrix (List Raw) rows_in_at
