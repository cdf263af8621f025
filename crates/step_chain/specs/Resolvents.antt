-- Exact resolvents: the literals that are taken are named, and each other literal is kept.
use Rattle.std.specs.Prelude.{◌≡◌, ℕ, Bool, true, false, not, List, [], ◌∷◌, ◌++◌, map, length, slice_get, cond, Contains, Some}
use Rattle.std.specs.List.{range_with_len}
use Rattle.dk_syntax.specs.declared.Clause.{Clause}
use Rattle.dk_syntax.specs.declared.Literal.{Literal}
use Rattle.dk_syntax.specs.declared.SymKey.{SymKey}
use Rattle.dk_syntax.specs.declared.Term.{Term}
use Rattle.dk_syntax.specs.declared.Term.TheVariants.{Any, Var}
use Rattle.normal_form.specs.ClauseLists.{clause_over, has_number, quants_of}
use Rattle.normal_form.specs.Renaming.{place_of}
use Rattle.step_clause.specs.Justifications.{AreMostGeneral}
use Rattle.step_clause.specs.declared.justification.Justification.{Justification}
use Rattle.step_clause.specs.declared.justification.Justification.TheVariants.{Resolve}
use Rattle.dk_syntax.specs.Terms.{instance, substituted}

-- ---- which literals are taken

-- The instance of each literal that is taken is the pivot. There is a truth value for each literal.
abbrev pub AreTaken : (ℕ → Term) → Literal → List Literal → List Bool → Type 0
AreTaken t pivot [] [] = Unit {0}
AreTaken t pivot [] (b ∷ taken) = ⊥
AreTaken t pivot (literal ∷ clause) [] = ⊥
AreTaken t pivot (literal ∷ clause) (true ∷ taken) = (instance t literal ≡ pivot) × AreTaken t pivot clause taken
AreTaken t pivot (literal ∷ clause) (false ∷ taken) = AreTaken t pivot clause taken

-- The literals that are not taken.
abbrev pub kept : List Literal → List Bool → List Literal
kept [] taken = []
kept (literal ∷ clause) [] = []
kept (literal ∷ clause) (true ∷ taken) = kept clause taken
kept (literal ∷ clause) (false ∷ taken) = literal ∷ kept clause taken

-- The literal with that sign and atom.
abbrev pub signed : Bool → SymKey → List Term → Literal
signed sign pred args = record { positive = sign; pred = pred; args = args }

-- The substitutions make all atoms that are taken equal. Those taken in the first clause have the sign, and those taken
-- in the second the other one; some are taken in each.
abbrev pub AreUnified : Bool → Clause → Clause → List Bool → List Bool → (ℕ → Term) → (ℕ → Term) → Type 0
AreUnified sign first second taken others t u =
    (pred : SymKey) × (args : List Term)
    × AreTaken t (signed sign pred args) first.lits taken × AreTaken u (signed (not sign) pred args) second.lits others
    × Contains taken true × Contains others true

-- ---- the resolvent

-- Each literal once, at its first place; `seen` are those before.
pub data IsOnce : List Literal → List Literal → List Literal → Type 0 where
  none : (seen : List Literal) → IsOnce seen [] []
  again : (seen : List Literal) (literal : Literal) (rest once : List Literal) → Contains seen literal → IsOnce seen rest once → IsOnce seen (literal ∷ rest) once
  new : (seen : List Literal) (literal : Literal) (rest once : List Literal) → (Contains seen literal → ⊥)
      → IsOnce (seen ++ literal ∷ []) rest once → IsOnce seen (literal ∷ rest) (literal ∷ once)

-- What is left of both clauses after the substitution, the first clause's literals first.
abbrev pub left_over : Clause → Clause → List Bool → List Bool → (ℕ → Term) → (ℕ → Term) → List Literal
left_over first second taken others t u = map (instance t) (kept first.lits taken) ++ map (instance u) (kept second.lits others)

-- A variable's place among those of the resolvent, or Any where it doesn't occur there.
abbrev pub closed_over : List ℕ → ℕ → Term
closed_over variables n = cond (has_number variables n) (Var (place_of variables n)) Any

-- The terms of a clause's variables.
abbrev pub closed_terms_over : List ℕ → ℕ → (ℕ → Term) → List Term
closed_terms_over variables vars t = map (λ j. substituted (closed_over variables) (t j)) (range_with_len 0 vars)

-- A literal that is taken has the resolvent's length for a pick, and any other its place there.
abbrev pub ArePicks : List Literal → (ℕ → Term) → List Literal → List Bool → List ℕ → Type 0
ArePicks lits t [] taken [] = Unit {0}
ArePicks lits t [] taken (pick ∷ picks) = ⊥
ArePicks lits t (literal ∷ clause) taken [] = ⊥
ArePicks lits t (literal ∷ clause) [] (pick ∷ picks) = ⊥
ArePicks lits t (literal ∷ clause) (true ∷ taken) (pick ∷ picks) = (pick ≡ length lits) × ArePicks lits t clause taken picks
ArePicks lits t (literal ∷ clause) (false ∷ taken) (pick ∷ picks) = (slice_get lits pick ≡ Some (instance t literal)) × ArePicks lits t clause taken picks

-- What is chosen for a resolvent: the number of the second clause in its list, the sign of the literals that are taken
-- in the first clause, and which are taken in both.
pub record Link : Type 0 where
  pub number : ℕ
  pub sign : Bool
  pub taken : List Bool
  pub others : List Bool

-- The resolution of the clause with that number of list 0 with that of list 1, the positive one first.
abbrev pub resolution_by : Bool → ℕ → ℕ → List ℕ → List ℕ → List Term → List Term → Justification
resolution_by true number other picks other_picks terms other_terms = Resolve 0 number 1 other picks other_picks terms other_terms
resolution_by false number other picks other_picks terms other_terms = Resolve 1 other 0 number other_picks picks other_terms terms

-- The clause is the exact resolvent of the two by the link, with its justification. The first clause has that number in
-- its list.
pub record IsResolvent (number : ℕ) (first second : Clause) (link : Link) (resolvent : Clause) (step : Justification) : Type 0 where
  pub t : ℕ → Term
  pub u : ℕ → Term
  pub general : AreMostGeneral 0 first.vars second.vars (AreUnified link.sign first second link.taken link.others) t u
  pub lits : List Literal
  pub once : IsOnce [] (left_over first second link.taken link.others t u) lits
  pub clause : resolvent ≡ clause_over (quants_of lits) lits
  pub picks : List ℕ
  pub other_picks : List ℕ
  pub picked : ArePicks lits t first.lits link.taken picks
  pub other_picked : ArePicks lits u second.lits link.others other_picks
  pub justified : step ≡ resolution_by link.sign number link.number picks other_picks (closed_terms_over (quants_of lits) first.vars t) (closed_terms_over (quants_of lits) second.vars u)
