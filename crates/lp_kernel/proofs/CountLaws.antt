-- The count of a term's nodes.
use Rattle.std.proofs.Common.{◌≡◌, ℕ, ◌+◌, ◌≤◌, List, [], ◌∷◌, ◌++◌, arith}
use Rattle.std.specs.Borrow.{Bor}
use Rattle.std.proofs.lemmas.Grind.{common_steps}
use Rattle.lp_term.specs.LambdaPi.{Term, type, kind, con, pat, var, app, lam, pi}
use Rattle.lp_term.specs.View.{term_of}
use Rattle.lp_term.specs.declared.lp.Lp.{Lp}
use Rattle.lp_term.proofs.ViewLaws.{view_App, view_Lam, view_Pat, view_Pi, view_Sort, view_Sym, view_Var}
use Rattle.lp_kernel.specs.Checking.{node_count}
use Rattle.lp_kernel.specs.Counting.{nodes_in}

-- a part more
pub nodes_in-push : (parts : List (Bor Lp)) (t : Bor Lp) → nodes_in (parts ++ t ∷ []) ≡ nodes_in parts + node_count (term_of t.now)
nodes_in-push [] t = omega arith
nodes_in-push (below ∷ parts) t = let e = nodes_in-push parts t in omega arith

pub count_positive : (t : Term) → 1 ≤ node_count t
count_positive type = omega arith
count_positive kind = omega arith
count_positive (con x) = omega arith
count_positive (pat x) = omega arith
count_positive (var n) = omega arith
count_positive (app t u) = omega arith
count_positive (lam a t) = omega arith
count_positive (pi a b) = omega arith

pub ruleset count_steps = (common_steps, nodes_in-push, count_positive, view_App, view_Lam, view_Pat, view_Pi, view_Sort, view_Sym, view_Var)
