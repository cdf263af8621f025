-- What the crates above rely on beside the contracts.
use Rattle.std.specs.Prelude.{◌≡◌, ℕ, Bool, true, List, [], map, length}
use Rattle.std.specs.List.{All, list_any}
use Rattle.derivation_graph.specs.declared.graph.Graph.{Graph}
use Rattle.dk_syntax.specs.Terms.{instance}
use Rattle.dk_syntax.specs.declared.clause.Clause.{Clause}
use Rattle.dk_syntax.specs.declared.clause.Literal.{Literal}
use Rattle.dk_syntax.specs.declared.symbol.SymKey.{SymKey}
use Rattle.dk_syntax.specs.declared.term.Term.{Term}
use Rattle.normal_form.specs.Truth.{signed}
use Rattle.step_check.specs.declared.verdict.Verdicts.{Verdicts}
use Rattle.tstp_trace.specs.declared.step.Trace.{Trace}
use Rattle.ground_instances.specs.Instances.{AreInstances, HasNeedsBefore}
use Rattle.ground_instances.specs.Keys.{IsClauseOf, Judged, judged_by, Key}
use Rattle.ground_instances.specs.Needs.{AreNeeded, Needs, value_in}
use Rattle.ground_instances.specs.Verdicts.{AreRightVerdicts}
use Rattle.ground_instances.specs.declared.instance.Instance.{Instance}

-- what an instance needs is one list
abbrev pub NeedsAreOne : Type 0
NeedsAreOne = (judged : Judged) (key : Key) (one other : List Key) → Needs judged key one → Needs judged key other → one ≡ other

-- the instances that a root needs are one list
abbrev pub NeededAreOne : Type 0
NeededAreOne = (judged : Judged) (root : ℕ) (one other : List Key) → AreNeeded judged root one → AreNeeded judged root other → one ≡ other

-- ---- ground clauses that follow from others

-- a truth value for each ground atom
abbrev pub Atoms : Type 0
Atoms = SymKey → List Term → Bool

-- the literal is true: its sign agrees with the truth value of its atom
abbrev pub literal_holds : Atoms → Literal → Bool
literal_holds atoms literal = signed literal.positive (atoms literal.pred literal.args)

-- one of the literals is true
abbrev pub clause_holds : Atoms → List Literal → Bool
clause_holds atoms lits = list_any (literal_holds atoms) lits

-- these are the literals of the instance's ground clause
pub record IsGroundClause (judged : Judged) (one : Key) (lits : List Literal) : Type 0 where
  pub clause : Clause
  pub of : IsClauseOf judged one clause
  pub each : length one.terms ≡ clause.vars
  pub is : lits ≡ map (instance (value_in one.terms)) clause.lits

-- the instance has a ground clause, which is true
abbrev pub IsTrue : Judged → Atoms → Key → Type 0
IsTrue judged atoms one = (lits : List Literal) × IsGroundClause judged one lits × (clause_holds atoms lits ≡ true)

-- the instance's ground clause is true at all truth values of atoms at which those of the others are
abbrev pub FollowsFrom : Judged → Key → List Key → Type 0
FollowsFrom judged one others =
    (lits : List Literal) → IsGroundClause judged one lits → (atoms : Atoms) → All (IsTrue judged atoms) others → clause_holds atoms lits ≡ true

-- by a verdict list without a bad step, the ground clause of an instance that needs some follows from those of all that it needs
abbrev pub FollowsFromNeeded : Type 0
FollowsFromNeeded =
    (trace : Trace) (graph : Graph) (verdicts : Verdicts) → AreRightVerdicts trace graph verdicts
    → (one : Key) (needed : List Key) → Needs (judged_by trace graph verdicts) one needed → (needed ≡ [] → ⊥)
    → FollowsFrom (judged_by trace graph verdicts) one needed

-- by a verdict list without a bad step, in a list of a root's instances that each come after those that they need: at all truth
-- values of atoms at which the ground clauses of the instances that need none are true, all ground clauses are
abbrev pub AllFollow : Type 0
AllFollow =
    (trace : Trace) (graph : Graph) (verdicts : Verdicts) → AreRightVerdicts trace graph verdicts
    → (root : ℕ) (instances : List Instance) → AreInstances (judged_by trace graph verdicts) root instances → HasNeedsBefore instances
    → (atoms : Atoms) → All (λ it. it.needs ≡ [] → clause_holds atoms it.lits ≡ true) instances → All (λ it. clause_holds atoms it.lits ≡ true) instances
