-- The words of the prelude as terms of the theory.
use Rattle.lp_term.specs.Names.{all_name, and_name, bot_name, ex_name, i_name, iff_name, imp_name, not_name, or_name, prf_name, prop_name, top_name}
use Rattle.lp_term.specs.LambdaPi.{Term, app, con, pi, shift}

-- a product whose variable doesn't occur
abbrev pub arrow : Term → Term → Term
arrow a b = pi a (shift b)

abbrev pub individuals : Term
individuals = con i_name

abbrev pub propositions : Term
propositions = con prop_name

abbrev pub proof_of : Term → Term
proof_of p = app (con prf_name) p

abbrev pub imp : Term → Term → Term
imp p q = app (app (con imp_name) p) q

abbrev pub and : Term → Term → Term
and p q = app (app (con and_name) p) q

abbrev pub or : Term → Term → Term
or p q = app (app (con or_name) p) q

abbrev pub iff : Term → Term → Term
iff p q = app (app (con iff_name) p) q

abbrev pub neg : Term → Term
neg p = app (con not_name) p

abbrev pub top : Term
top = con top_name

abbrev pub bot : Term
bot = con bot_name

abbrev pub all : Term → Term
all f = app (con all_name) f

abbrev pub ex : Term → Term
ex f = app (con ex_name) f
