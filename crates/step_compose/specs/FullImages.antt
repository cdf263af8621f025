-- Full images: each existential replaced, with all universals around it as arguments.
use Rattle.std.specs.Prelude.{ℕ, zero, suc, ◌+◌, List, [], ◌∷◌, ◌++◌}
use Rattle.dk_syntax.specs.declared.Kind.TheVariants.{Function}
use Rattle.dk_syntax.specs.declared.SymKey.{SymKey}
use Rattle.dk_syntax.specs.declared.Term.{Term}
use Rattle.dk_syntax.specs.declared.Term.TheVariants.{Var}
use Rattle.normal_form.specs.Forms.{all, alls, and, ex, exs, Form, form_of, lit, nf_of, no, or, yes}
use Rattle.normal_form.specs.declared.form.Nf.{Nf}
use Rattle.step_skolem.specs.Images.{entry}
use Rattle.dk_syntax.specs.Terms.{instance}
use Rattle.step_skolem.specs.Substitutions.{applied, up, with_term}
use Rattle.step_skolem.specs.declared.map.SkEntry.{SkEntry}

-- the numbers below d, the greatest first: the variables of the universals around, the outermost first
abbrev pub downward : ℕ → List ℕ
downward zero = []
downward (suc d) = d ∷ downward d

-- the image under d universals, with s for the variables, from the existential e on; each existential has its symbol
abbrev pub full_from : (ℕ → SymKey) → (ℕ → Term) → ℕ → ℕ → Form → Form
full_from symbols s d e yes = yes
full_from symbols s d e no = no
full_from symbols s d e (lit literal) = lit (instance s literal)
full_from symbols s d e (and a b) = and (full_from symbols s d e a) (full_from symbols s d (exs a + e) b)
full_from symbols s d e (or a b) = or (full_from symbols s d e a) (full_from symbols s d (exs a + e) b)
full_from symbols s d e (all a) = all (full_from symbols (up s) (suc d) e a)
full_from symbols s d e (ex a) = full_from symbols (with_term (applied (symbols e) (downward d)) s) d (suc e) a

-- its map from the universal u and the existential e on; the universals around are listed, the outermost first
abbrev pub full_entries : (ℕ → SymKey) → List ℕ → ℕ → ℕ → Form → List SkEntry
full_entries symbols around u e yes = []
full_entries symbols around u e no = []
full_entries symbols around u e (lit literal) = []
full_entries symbols around u e (and a b) = full_entries symbols around u e a ++ full_entries symbols around (alls a + u) (exs a + e) b
full_entries symbols around u e (or a b) = full_entries symbols around u e a ++ full_entries symbols around (alls a + u) (exs a + e) b
full_entries symbols around u e (all a) = full_entries symbols (around ++ u ∷ []) (suc u) e a
full_entries symbols around u e (ex a) = entry e (symbols e) around ∷ full_entries symbols around u (suc e) a

-- a symbol without a name, which no text has
abbrev pub nameless : SymKey
nameless = record { name = []; arity = 0; kind = Function }

-- the form with each existential replaced by its symbol
abbrev pub full_image : (ℕ → SymKey) → Nf → Nf
full_image symbols n = nf_of (full_from symbols Var 0 0 (form_of n))

-- the map that leads to it
abbrev pub full_map : (ℕ → SymKey) → Nf → List SkEntry
full_map symbols n = full_entries symbols [] 0 0 (form_of n)
