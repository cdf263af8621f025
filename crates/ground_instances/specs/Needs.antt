-- What an instance needs, and the list of those that the root needs.
use Rattle.std.specs.Prelude.{◌≡◌, ℕ, zero, suc, List, [], ◌∷◌, ◌++◌, map, length, slice_get, get_or, Contains, Some}
use Rattle.dk_syntax.specs.Terms.{substituted}
use Rattle.dk_syntax.specs.declared.term.Term.{Term}
use Rattle.dk_syntax.specs.declared.term.Term.TheVariants.{Any}
use Rattle.step_chain.specs.declared.chain.Chain.{Chain}
use Rattle.step_check.specs.declared.verdict.Verdict.TheVariants.{Chained, Clausal, Composes, Structural}
use Rattle.step_clause.specs.declared.justification.Justification.{Justification}
use Rattle.step_clause.specs.declared.justification.Justification.TheVariants.{Subsume, Resolve}
use Rattle.step_compose.specs.declared.composed.Composed.{Composed}
use Rattle.step_skolem.specs.declared.map.SkMap.{SkMap}
use Rattle.ground_instances.specs.Keys.{Has, IsBase, IsLeafBase, Judged, Key, key, parent_at, parents_at}

-- the term of a clause's variable; where there is none, Any stands for it
abbrev pub value_in : List Term → ℕ → Term
value_in terms k = get_or terms k Any

-- the term with the instance's terms for the variables
abbrev pub ground : List Term → Term → Term
ground terms t = substituted (value_in terms) t

-- the instances that a justification is from, the positive one first; `at` tells them by the number of the list, the number
-- of the clause, and the terms
abbrev pub named_by : (ℕ → ℕ → List Term → Key) → List Term → Justification → List Key
named_by at terms (Subsume parent clause picks ts) = at parent clause (map (ground terms) ts) ∷ []
named_by at terms (Resolve pos_parent pos_clause neg_parent neg_clause pos_picks neg_picks pos_terms neg_terms) =
    at pos_parent pos_clause (map (ground terms) pos_terms) ∷ at neg_parent neg_clause (map (ground terms) neg_terms) ∷ []

module _ (judged : Judged) where
  -- an instance of a parent's own clause
  abbrev pub of_parents : ℕ → ℕ → ℕ → List Term → Key
  of_parents i k c terms = key (parent_at judged i k) 0 c terms

  -- the stage before that one: at the first stage of a chain it is the first parent, as stage 0 of a step of its own
  abbrev pub stage_before : ℕ → ℕ → ℕ → ℕ → List Term → Key
  stage_before i target zero c terms = key (parent_at judged i 0) 0 c terms
  stage_before i target (suc before) c terms = key i (suc before) target terms

  -- an instance for a chain that goes on after so many middle clauses: list 0 is that of the stage before, or of the first
  -- parent where there is none, and any other list is that of the next parent
  abbrev pub of_stage : ℕ → ℕ → ℕ → ℕ → ℕ → List Term → Key
  of_stage i target mids zero c terms = stage_before i target mids c terms
  of_stage i target mids (suc k) c terms = key (parent_at judged i (suc mids)) 0 c terms

  -- an instance of the composed image
  abbrev pub of_image : ℕ → ℕ → ℕ → List Term → Key
  of_image i k c terms = key i 1 c terms

  -- the instances that an instance needs, in order
  pub data Needs : Key → List Key → Type 0 where
    -- a leaf, or a structural step over one
    by_leaf : (i c : ℕ) (terms : List Term) → IsLeafBase judged i → Needs (key i 0 c terms) []
    -- a structural step over another: the same at the base
    by_base : (i base c : ℕ) (terms : List Term) (map_here : SkMap) → Has judged i (Structural map_here) → (IsLeafBase judged i → ⊥)
        → IsBase judged i base → Needs (key i 0 c terms) (key base 0 c terms ∷ [])
    -- a clausal step, by its justification
    by_clauses : (i c : ℕ) (terms : List Term) (steps : List Justification) (step : Justification) → Has judged i (Clausal steps)
        → slice_get steps c ≡ Some step → Needs (key i 0 c terms) (named_by (of_parents i) terms step)
    -- a middle clause, of stage j + 1, by its justification
    by_stage : (i j c : ℕ) (terms : List Term) (chains : List Chain) (chain : Chain) (step : Justification) → Has judged i (Chained chains)
        → slice_get chains c ≡ Some chain → slice_get chain.steps j ≡ Some step
        → Needs (key i (suc j) c terms) (named_by (of_stage i c j) terms step)
    -- the target of a chain, by the last justification, which comes after all middle clauses
    by_chain : (i c : ℕ) (terms : List Term) (chains : List Chain) (chain : Chain) (step : Justification) → Has judged i (Chained chains)
        → slice_get chains c ≡ Some chain → slice_get chain.steps (length chain.mids) ≡ Some step
        → Needs (key i 0 c terms) (named_by (of_stage i c (length chain.mids)) terms step)
    -- a clause of a composed step, by its justification from the image
    by_image : (i c : ℕ) (terms : List Term) (composed : Composed) (step : Justification) → Has judged i (Composes composed)
        → slice_get composed.steps c ≡ Some step → Needs (key i 0 c terms) (named_by (of_image i) terms step)
    -- a clause of the image, where the parent's base is a leaf
    by_thin : (i q c : ℕ) (terms : List Term) (composed : Composed) → Has judged i (Composes composed) → parents_at judged i ≡ q ∷ []
        → IsLeafBase judged q → Needs (key i 1 c terms) []
    -- and where it isn't: the same at that base
    by_parent : (i q base c : ℕ) (terms : List Term) (composed : Composed) → Has judged i (Composes composed) → parents_at judged i ≡ q ∷ []
        → (IsLeafBase judged q → ⊥) → IsBase judged q base → Needs (key i 1 c terms) (key base 0 c terms ∷ [])

  -- A list after visits of some instances in order: one that stands there changes nothing; of another what it needs is
  -- visited, and then it is put at the end.
  pub data Visits : List Key → List Key → List Key → Type 0 where
    done : (list : List Key) → Visits list [] list
    seen : (list : List Key) (one : Key) (rest after : List Key) → Contains list one → Visits list rest after → Visits list (one ∷ rest) after
    fresh : (list : List Key) (one : Key) (rest needs middle after : List Key) → (Contains list one → ⊥) → Needs one needs
        → Visits list needs middle → Visits (middle ++ one ∷ []) rest after → Visits list (one ∷ rest) after

  -- the instances that the root's empty clause needs, and itself at the end
  abbrev pub AreNeeded : ℕ → List Key → Type 0
  AreNeeded root list = Visits [] (key root 0 0 [] ∷ []) list
