-- Normal forms as plain trees, of which definitions tell the cases. The literals are the program's own.
use Rattle.std.specs.Prelude.{ℕ, suc, ◌+◌, Bool, false, ◌||◌, map}
use Rattle.dk_syntax.specs.declared.Literal.{Literal}
use Rattle.normal_form.specs.Occurrence.{any_true, has_variable}
use Rattle.normal_form.specs.declared.form.Nf.{Nf, Nf-F, fold-Nf}
use Rattle.normal_form.specs.declared.form.Nf.TheOpen as layer
use Rattle.normal_form.specs.declared.form.Nf.TheVariants as nf

-- True, False, a literal, And, Or, a universal and an existential
pub data Form : Type 0 where
  yes : Form
  no : Form
  lit : Literal → Form
  and : Form → Form → Form
  or : Form → Form → Form
  all : Form → Form
  ex : Form → Form

-- the tree of a normal form, from those of its parts
abbrev pub form_at : Nf-F Form → Form
form_at layer.True = yes
form_at layer.False = no
form_at (layer.Lit literal) = lit literal
form_at (layer.And a b) = and a b
form_at (layer.Or a b) = or a b
form_at (layer.All a) = all a
form_at (layer.Ex a) = ex a

-- the tree of the normal form
abbrev pub form_of : Nf → Form
form_of = fold-Nf Form form_at

-- the normal form of the tree
abbrev pub nf_of : Form → Nf
nf_of yes = nf.True
nf_of no = nf.False
nf_of (lit literal) = nf.Lit literal
nf_of (and a b) = nf.And (nf_of a) (nf_of b)
nf_of (or a b) = nf.Or (nf_of a) (nf_of b)
nf_of (all a) = nf.All (nf_of a)
nf_of (ex a) = nf.Ex (nf_of a)

-- whether variable k is free in the form: under a quantifier its number is one greater
abbrev pub free : ℕ → Form → Bool
free k yes = false
free k no = false
free k (lit literal) = any_true (map (has_variable k) literal.args)
free k (and a b) = free k a || free k b
free k (or a b) = free k a || free k b
free k (all a) = free (suc k) a
free k (ex a) = free (suc k) a

-- how many universals stand in the form
abbrev pub alls : Form → ℕ
alls yes = 0
alls no = 0
alls (lit literal) = 0
alls (and a b) = alls a + alls b
alls (or a b) = alls a + alls b
alls (all a) = suc (alls a)
alls (ex a) = alls a

-- how many existentials stand in the form
abbrev pub exs : Form → ℕ
exs yes = 0
exs no = 0
exs (lit literal) = 0
exs (and a b) = exs a + exs b
exs (or a b) = exs a + exs b
exs (all a) = exs a
exs (ex a) = suc (exs a)
