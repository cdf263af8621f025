-- What holds of the forms that come of formulas.
use Rattle.std.specs.Prelude.{IsTrue}
use Rattle.dk_syntax.specs.WellFormed.{well_formed_literal}
use Rattle.normal_form.specs.Forms.{Form, all, and, ex, free, lit, no, or, yes}

-- each quantifier's variable is free in its body
abbrev pub HasNoVacuous : Form → Type 0
HasNoVacuous yes = Unit {0}
HasNoVacuous no = Unit {0}
HasNoVacuous (lit literal) = Unit {0}
HasNoVacuous (and a b) = HasNoVacuous a × HasNoVacuous b
HasNoVacuous (or a b) = HasNoVacuous a × HasNoVacuous b
HasNoVacuous (all a) = IsTrue (free 0 a) × HasNoVacuous a
HasNoVacuous (ex a) = IsTrue (free 0 a) × HasNoVacuous a

-- each literal is well-formed
abbrev pub HasWellFormedLiterals : Form → Type 0
HasWellFormedLiterals yes = Unit {0}
HasWellFormedLiterals no = Unit {0}
HasWellFormedLiterals (lit literal) = IsTrue (well_formed_literal literal)
HasWellFormedLiterals (and a b) = HasWellFormedLiterals a × HasWellFormedLiterals b
HasWellFormedLiterals (or a b) = HasWellFormedLiterals a × HasWellFormedLiterals b
HasWellFormedLiterals (all a) = HasWellFormedLiterals a
HasWellFormedLiterals (ex a) = HasWellFormedLiterals a
