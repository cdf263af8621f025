-- The program's terms as terms of the theory.
use Rattle.std.specs.Prelude.{ℕ, List}
use Rattle.lp_term.specs.LambdaPi.{Term, type, kind, con, pat, var, app, lam, pi, shift}
use Rattle.lp_term.specs.declared.lp.Lp.{Lp, Lp-F, fold-Lp}
use Rattle.lp_term.specs.declared.lp.Lp.TheOpen.{Sort, Sym, Var, Pat, App, Lam, Pi}

abbrev pub term_at : Lp-F Term → Term
term_at Sort = type
term_at (Sym name) = con name
term_at (Var number) = var number
term_at (Pat name) = pat name
term_at (App function argument) = app function argument
term_at (Lam domain body) = lam domain body
term_at (Pi domain body) = pi domain body

-- the same tree, constructor by constructor
abbrev pub term_of : Lp → Term
term_of = fold-Lp Term term_at

-- a term for each pattern variable; below a binder the terms are one binder further in
abbrev pub fill : (List ℕ → Term) → Term → Term
fill s type = type
fill s kind = kind
fill s (con name) = con name
fill s (pat name) = s name
fill s (var n) = var n
fill s (app t u) = app (fill s t) (fill s u)
fill s (lam a b) = lam (fill s a) (fill (λ name. shift (s name)) b)
fill s (pi a b) = pi (fill s a) (fill (λ name. shift (s name)) b)
