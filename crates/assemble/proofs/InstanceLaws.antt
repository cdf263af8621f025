-- Laws of lists of instances.
use Rattle.std.proofs.Common.{◌≡◌, List, [], ◌∷◌, ◌++◌, refl, ap}
use Rattle.lp_term.specs.LambdaPi.{Term}
use Rattle.dk_syntax.specs.Lists.{Each, Every, each_cons, each_nil, every_cons, every_nil}
use Rattle.nd_term.specs.Formulas.{Literal}
use Rattle.assemble.specs.Justification.{Instance, clauses}
use Rattle.assemble.specs.Places.{last_of}

pub every_clauses : {p : List Literal → Type 0} (front back : List Instance) → Every (λ i. p i.clause) (front ++ back) → Every p (clauses front)
every_clauses [] back h = every_nil
every_clauses (i ∷ front) back (every_cons w ws) = every_cons w (every_clauses front back ws)

pub clauses_snoc : (front : List Instance) (i : Instance) → clauses (front ++ i ∷ []) ≡ clauses front ++ i.clause ∷ []
clauses_snoc [] i = refl
clauses_snoc (j ∷ front) i = ap (λ x. j.clause ∷ x) (clauses_snoc front i)

pub each_last : {A : Type 0} {r : A → Term → Type 0} {a : A} {m : List Term} (front : List A) → Each r (front ++ a ∷ []) m → r a (last_of m)
each_last [] (each_cons i each_nil) = i
each_last (b ∷ []) (each_cons i (each_cons j h)) = each_last [] (each_cons j h)
each_last (b ∷ d ∷ front) (each_cons i (each_cons j h)) = each_last (d ∷ front) (each_cons j h)
