-- Forms from around which a quantifier is taken away.
use Rattle.std.specs.Prelude.{ℕ, ◌+◌, ◌-◌, nat_lt, if◌then◌else◌, map}
use Rattle.dk_syntax.specs.declared.Literal.{Literal}
use Rattle.dk_syntax.specs.declared.Term.{Term, Term-F, fold-Term}
use Rattle.dk_syntax.specs.declared.Term.TheOpen as term
use Rattle.dk_syntax.specs.declared.Term.TheVariants.{Any, App, Var}
use Rattle.normal_form.specs.declared.form.Nf.{Nf, Nf-F, fold-Nf}
use Rattle.normal_form.specs.declared.form.Nf.TheOpen as form
use Rattle.normal_form.specs.declared.form.Nf.TheVariants.{All, And, Ex, False, Lit, Or, True}

-- a term with lower variables, from its arguments with them
abbrev pub lowered_term_at : ℕ → Term-F Term → Term
lowered_term_at place (term.Var n) = if nat_lt place n then Var (n - 1) else Var n
lowered_term_at place (term.App symbol args) = App symbol args
lowered_term_at place term.Any = Any

-- the term with each variable above `place` one lower
abbrev pub lowered_term : ℕ → Term → Term
lowered_term place = fold-Term Term (lowered_term_at place)

-- the literal with each variable above `place` one lower
abbrev pub lowered_literal : ℕ → Literal → Literal
lowered_literal place literal = record { positive = literal.positive; pred = literal.pred; args = map (lowered_term place) literal.args }

-- a form with lower variables: under a quantifier the place is one greater
abbrev pub lowered_at : Nf-F (ℕ → Nf) → ℕ → Nf
lowered_at form.True place = True
lowered_at form.False place = False
lowered_at (form.Lit literal) place = Lit (lowered_literal place literal)
lowered_at (form.And a b) place = And (a place) (b place)
lowered_at (form.Or a b) place = Or (a place) (b place)
lowered_at (form.All a) place = All (a (place + 1))
lowered_at (form.Ex a) place = Ex (a (place + 1))

-- the form with each variable above `place` one lower
abbrev pub lowered : Nf → ℕ → Nf
lowered = fold-Nf (ℕ → Nf) lowered_at
