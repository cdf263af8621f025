-- How a thin tree of a signed formula is read from its three lists, each in preorder.
use Rattle.std.specs.Prelude.{ℕ, zero, suc, Bool, true, false, not, ◌||◌, cond, nat_eq, List, [], ◌∷◌}
use Rattle.lp_term.specs.Names.{any_name}
use Rattle.nd_term.specs.Formulas.{Formula, FormulaTerm, GroundTerm, applied, atomic, bound, conjunction, disjunction, equivalence, existential, falsity, ground_symbol, implication, negation, symbol, truth, universal}
use Rattle.nd_term.specs.ThinTrees.{ThinTree, below_not, both, choice, eigenvariable_at, leaf, left, no_literal, right, vacuous}

-- variable k occurs in the term
abbrev pub occurs_term : ℕ → FormulaTerm → Bool
occurs_term k (bound n) = nat_eq n k
occurs_term k (symbol x) = false
occurs_term k (applied t u) = occurs_term k t || occurs_term k u

-- variable k occurs in the formula: under a quantifier its number is one greater
abbrev pub occurs : ℕ → Formula → Bool
occurs k truth = false
occurs k falsity = false
occurs k (atomic t) = occurs_term k t
occurs k (negation f) = occurs k f
occurs k (conjunction f h) = occurs k f || occurs k h
occurs k (disjunction f h) = occurs k f || occurs k h
occurs k (implication f h) = occurs k f || occurs k h
occurs k (equivalence f h) = occurs k f || occurs k h
occurs k (universal f) = occurs (suc k) f
occurs k (existential f) = occurs (suc k) f

-- the choices that are left: sides (true for the right one), terms, and the numbers of eigenvariables
pub record Choices : Type 0 where
  pub sides : List Bool
  pub terms : List GroundTerm
  pub eigens : List ℕ

-- a tree that was read, and the choices that are left
pub record Read : Type 0 where
  pub tree : ThinTree
  pub rest : Choices

abbrev pub read_as : ThinTree → Choices → Read
read_as tree rest = record { tree = tree; rest = rest }

-- the first of a list, and the others
abbrev pub first_or : {A : Type 0} → A → List A → A
first_or d [] = d
first_or d (a ∷ rest) = a

abbrev pub later : {A : Type 0} → List A → List A
later [] = []
later (a ∷ rest) = rest

-- one choice less of each kind
abbrev pub after_side : Choices → Choices
after_side c = record { sides = later c.sides; terms = c.terms; eigens = c.eigens }

abbrev pub after_term : Choices → Choices
after_term c = record { sides = c.sides; terms = later c.terms; eigens = c.eigens }

abbrev pub after_eigen : Choices → Choices
after_eigen c = record { sides = c.sides; terms = c.terms; eigens = later c.eigens }

-- the tree with one more node above it
abbrev pub with_node : (ThinTree → ThinTree) → Read → Read
with_node node r = read_as (node r.tree) r.rest

-- two trees, one after the other
abbrev pub with_both : Read → (Choices → Read) → Read
with_both a next = read_as (both a.tree (next a.rest).tree) (next a.rest).rest

-- the tree on the side that is chosen
abbrev pub on_side : (Choices → Read) → (Choices → Read) → Choices → Read
on_side a b c = cond (first_or false c.sides) (with_node right (b (after_side c))) (with_node left (a (after_side c)))

-- the tree below a quantifier with a term for its variable, which occurs or not
abbrev pub with_choice : Bool → (Choices → Read) → Choices → Read
with_choice true a c = with_node (choice (first_or (ground_symbol any_name) c.terms)) (a (after_term c))
with_choice false a c = with_node (choice (ground_symbol any_name)) (a c)

-- the tree below a quantifier with an eigenvariable for its variable, which occurs or not
abbrev pub with_witness : Bool → (Choices → Read) → Choices → Read
with_witness true a c = with_node (eigenvariable_at (first_or 0 c.eigens)) (a (after_eigen c))
with_witness false a c = with_node vacuous (a c)

-- The tree of a signed formula that these choices begin with. A conjunction takes a side, a disjunction both. A quantifier
-- whose variable doesn't occur takes no choice: its variable stands for any.
abbrev pub read : Formula → Bool → Choices → Read
read truth b c = read_as no_literal c
read falsity b c = read_as no_literal c
read (atomic t) b c = read_as leaf c
read (negation f) b c = with_node below_not (read f (not b) c)
read (conjunction f h) true c = on_side (read f true) (read h true) c
read (conjunction f h) false c = with_both (read f false c) (read h false)
read (disjunction f h) true c = with_both (read f true c) (read h true)
read (disjunction f h) false c = on_side (read f false) (read h false) c
read (implication f h) true c = with_both (read f false c) (read h true)
read (implication f h) false c = on_side (read f true) (read h false) c
read (equivalence f h) true c = on_side (λ d. with_both (read f false d) (read h true)) (λ d. with_both (read h false d) (read f true)) c
read (equivalence f h) false c = on_side (λ d. with_both (read f true d) (read h true)) (λ d. with_both (read f false d) (read h false)) c
read (universal f) true c = with_choice (occurs 0 f) (read f true) c
read (existential f) false c = with_choice (occurs 0 f) (read f false) c
read (existential f) true c = with_witness (occurs 0 f) (read f true) c
read (universal f) false c = with_witness (occurs 0 f) (read f false) c
