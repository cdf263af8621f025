-- What a table of terms keeps. Only private contracts cite this.
use Rattle.std.specs.Prelude.{◌≡◌, ℕ, ◌<◌, ◌^◌, List, [], ◌∷◌, ◌++◌, map, length, get_or, ◌⊎◌}
use Rattle.std.specs.List.{All}
use Rattle.std.specs.Map.{keys_of}
use Rattle.dk_syntax.specs.Depth.{capped}
use Rattle.dk_syntax.specs.Terms.{term_size}
use Rattle.dk_syntax.specs.TermTables.{IsDistinct, term_of}
use Rattle.dk_syntax.specs.declared.term.Term.{Term}
use Rattle.dk_syntax.specs.declared.term.Term.TheVariants as term
use Rattle.dk_syntax.specs.declared.term_table.Shape.{Shape}
use Rattle.dk_syntax.specs.declared.term_table.Shape.TheVariants.{Any, App}

-- the numbers of the arguments
abbrev pub numbers_of : Shape → List ℕ
numbers_of Any = []
numbers_of (App f numbers) = numbers

-- the term of this shape, whose arguments stand in the table
abbrev pub shaped : List Term → Shape → Term
shaped table Any = term.Any
shaped table (App f numbers) = term.App f (map (term_of table) numbers)

-- the table with the terms of the shapes, one by one
abbrev pub with_shapes : List Term → List Shape → List Term
with_shapes table [] = table
with_shapes table (shape ∷ rest) = with_shapes (table ++ shaped table shape ∷ []) rest

-- the terms of the shapes
abbrev pub terms_of : List Shape → List Term
terms_of shapes = with_shapes [] shapes

-- a shape's numbers are those of shapes before it, its term differs from theirs, and each size is that of the term
pub record AreKept (shapes : List Shape) (sizes : List ℕ) : Type 0 where
  pub before : (k : ℕ) → k < length shapes → All (λ n. n < k) (numbers_of (get_or shapes k Any))
  pub distinct : IsDistinct (terms_of shapes)
  pub sized : sizes ≡ map (λ t. capped (term_size t)) (terms_of shapes)
  pub few : length shapes < 2 ^ 32

-- the shape's number, the old one where it is there, else the length, and it comes to the end with its size
abbrev pub IsEntered : List (Shape × ℕ) → Shape → ℕ → List (Shape × ℕ) → ℕ → Type 0
IsEntered old shape size new n =
    ((new ≡ old) × (n < length old) × (get_or (keys_of old) n Any ≡ shape))
    ⊎ (((k : ℕ) → k < length old → ¬ get_or (keys_of old) k Any ≡ shape) × (new ≡ old ++ (shape, size) ∷ []) × (n ≡ length old))
