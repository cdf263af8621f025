-- The literals at the ends of thin trees.
use Rattle.std.specs.Prelude.{◌≡◌, ℕ}
use Rattle.dk_syntax.specs.declared.Literal.{Literal}
use Rattle.dk_syntax.specs.declared.Term.{Term}
use Rattle.normal_form.specs.Forms.{all, and, ex, Form, lit, or}
use Rattle.dk_syntax.specs.Terms.{instance}

-- the literal stands in the form
pub data StandsIn (literal : Literal) : Form → Type 0 where
  itself : StandsIn literal (lit literal)
  left_of_and : (a b : Form) → StandsIn literal a → StandsIn literal (and a b)
  right_of_and : (a b : Form) → StandsIn literal b → StandsIn literal (and a b)
  left_of_or : (a b : Form) → StandsIn literal a → StandsIn literal (or a b)
  right_of_or : (a b : Form) → StandsIn literal b → StandsIn literal (or a b)
  under_all : (a : Form) → StandsIn literal a → StandsIn literal (all a)
  under_ex : (a : Form) → StandsIn literal a → StandsIn literal (ex a)

-- the end is a literal of the form with a term for each of its variables, which have the property
pub record IsInstanceIn (p : Term → Type 0) (form : Form) (end : Literal) : Type 0 where
  pub literal : Literal
  pub values : ℕ → Term
  pub stands : StandsIn literal form
  pub same : end ≡ instance values literal
  pub each : (k : ℕ) → p (values k)
