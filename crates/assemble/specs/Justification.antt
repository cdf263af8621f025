-- Right lists of instances.
use Rattle.std.specs.Prelude.{ℕ, true, false, List, [], ◌∷◌, ◌++◌, length, ◌≡◌}
use Rattle.lp_term.specs.Connectives.{propositions}
use Rattle.lp_term.specs.Typing.{Declaration}
use Rattle.dk_syntax.specs.Lists.{Entry, Every}
use Rattle.nd_term.specs.Formulas.{Formula, GroundTerm, Literal, literal, unassigned}
use Rattle.nd_term.specs.Symbols.{GroundOver}
use Rattle.nd_term.specs.Eigenvariables.{Eigenvariable}
use Rattle.nd_term.specs.ThinTrees.{Fits, ThinTree}
use Rattle.nd_term.specs.Instances.{Chosen}

-- why an instance holds: a hypothesis, the denied conjecture, or earlier instances by their numbers.
-- The number of literals stands for the pivot in the choices of a resolution, whose atom is the last part
pub data Reason : Type 0 where
  by_leaf : ℕ → Formula → ThinTree → Reason
  by_denied : Formula → ThinTree → Reason
  by_same : ℕ → Reason
  by_subsume : ℕ → List ℕ → Reason
  by_resolve : ℕ → ℕ → List ℕ → List ℕ → GroundTerm → Reason

-- a ground clause, and why it holds
pub record Instance : Type 0 where
  pub clause : List Literal
  pub by : Reason

-- the clauses of instances
abbrev pub clauses : List Instance → List (List Literal)
clauses [] = []
clauses (i ∷ is) = i.clause ∷ clauses is

-- a clause has a reason, where these hypotheses, this conjecture and these clauses are known
pub data Works (sig : List Declaration) (es : List Eigenvariable) (hs : List Formula) (c : Formula) (known : List (List Literal)) : List Literal → Reason → Type 0 where
  works_leaf : {d : List Literal} {h : ℕ} {f : Formula} {th : ThinTree} → Entry hs h f → Fits sig es true f unassigned th d → Works sig es hs c known d (by_leaf h f th)
  works_denied : {d : List Literal} {th : ThinTree} → Fits sig es false c unassigned th d → Works sig es hs c known d (by_denied c th)
  works_same : {d : List Literal} {p : ℕ} → Entry known p d → Works sig es hs c known d (by_same p)
  works_subsume : {d m : List Literal} {p : ℕ} {ks : List ℕ} → Entry known p m → Chosen d m ks → Works sig es hs c known d (by_subsume p ks)
  works_resolve : {d m n : List Literal} {p q : ℕ} {ks ls : List ℕ} {a : GroundTerm} (k l : ℕ) → Entry known p m → Entry known q n
      → Chosen (d ++ literal true a ∷ []) m ks → Chosen (d ++ literal false a ∷ []) n ls
      → Entry ks k (length d) → Entry ls l (length d) → Works sig es hs c known d (by_resolve p q ks ls a)

-- each instance has a reason from those before it, and the last one's clause is empty
pub record Right (sig : List Declaration) (es : List Eigenvariable) (hs : List Formula) (c : Formula) (list : List Instance) : Type 0 where
  pub works : (front back : List Instance) (i : Instance) → list ≡ front ++ i ∷ back → Works sig es hs c (clauses front) i.clause i.by
  pub ends : (front : List Instance) × (i : Instance) × (list ≡ front ++ i ∷ []) × (i.clause ≡ [])
  pub symbols : Every (λ i. Every (λ l. GroundOver sig propositions 0 l.atom) i.clause) list
