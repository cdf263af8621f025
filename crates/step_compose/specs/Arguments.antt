-- The universals around the existentials of a form.
use Rattle.std.specs.Prelude.{ℕ, suc, ◌+◌, List, [], ◌∷◌, ◌++◌}
use Rattle.dk_syntax.specs.declared.SymKey.{SymKey}
use Rattle.normal_form.specs.Forms.{all, alls, and, ex, Form, form_of, lit, no, or, yes}
use Rattle.normal_form.specs.declared.form.Nf.{Nf}
use Rattle.step_skolem.specs.Images.{entry}
use Rattle.step_skolem.specs.declared.map.SkEntry.{SkEntry}

-- the universals around each existential, the outermost first, inside those around and from the universal u on
abbrev pub arguments_from : List ℕ → ℕ → Form → List (List ℕ)
arguments_from around u yes = []
arguments_from around u no = []
arguments_from around u (lit literal) = []
arguments_from around u (and a b) = arguments_from around u a ++ arguments_from around (alls a + u) b
arguments_from around u (or a b) = arguments_from around u a ++ arguments_from around (alls a + u) b
arguments_from around u (all a) = arguments_from (around ++ u ∷ []) (suc u) a
arguments_from around u (ex a) = around ∷ arguments_from around u a

-- the universals around each existential of the form
abbrev pub arguments_of : Nf → List (List ℕ)
arguments_of n = arguments_from [] 0 (form_of n)

-- the entries of the existentials from e on, with these arguments
abbrev pub entries_from : (ℕ → SymKey) → ℕ → List (List ℕ) → List SkEntry
entries_from symbols e [] = []
entries_from symbols e (args ∷ rest) = entry e (symbols e) args ∷ entries_from symbols (suc e) rest
