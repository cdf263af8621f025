-- What the last state says.
use Rattle.std.proofs.Common.{◌≡◌, ◌≤◌, ◌+◌, ℕ, suc, List, [], ◌∷◌, ◌++◌, length, Some, Err, slice_get, arith, refl, sym, subst, inl, inr}
use Rattle.std.specs.Prelude.{Result, Ok, IsErrAnd}
use Rattle.dk_syntax.specs.TermTables.{IsTermTable}
use Rattle.dk_syntax.specs.declared.term.Term.{Term}
use Rattle.ground_instances.proofs.TableLaws.{has_clauses, terms_once}
use Rattle.ground_instances.proofs.Visits.{ends_in}
use Rattle.ground_instances.specs.Instances.{AreInstances, clauses_in, EndsIn, IsPullAnswer, IsWithinWeight, key_of, keys_of}
use Rattle.ground_instances.specs.Keys.{Judged, Key, key}
use Rattle.ground_instances.specs.Lists.{answer_of}
use Rattle.ground_instances.specs.Naming.{IsNamedPart}
use Rattle.ground_instances.specs.Rows.{instances_by}
use Rattle.ground_instances.specs.States.{IsState, IsVisitFault, weight_in}
use Rattle.ground_instances.specs.Weights.{AreTermsOf}
use Rattle.ground_instances.specs.declared.instance.Instance.{Instance}
use Rattle.ground_instances.specs.declared.instance.Instances.{Instances}
use Rattle.ground_instances.specs.declared.instance.PullFault.{PullFault}
use Rattle.ground_instances.specs.declared.instance.PullFault.TheVariants.{Memory, OverWeight, OverWide}
use Rattle.ground_instances.specs.declared.state.State.{State}

no_part : (t : Term) → IsNamedPart [] t → ⊥
no_part t (one, (k, l, e), p) = omega arith

last_of : (instances : List Instance) (middle : List Key) (one : Key) → keys_of instances ≡ middle ++ one ∷ []
    → (n : ℕ) × (it : Instance) × (length instances ≡ n + 1) × (slice_get instances n ≡ Some it) × (key_of it ≡ one)
last_of [] [] one e = cc
last_of [] (k ∷ middle) one e = cc
last_of (it ∷ []) [] one e = (0, it, omega arith, refl, cc)
last_of (it ∷ (other ∷ rest)) [] one e = cc
last_of (it ∷ rest) (k ∷ middle) one e =
    let others : keys_of rest ≡ middle ++ one ∷ [] = cc in
    let r = last_of rest middle one others in
    let long = r.2 in
    (suc r.0, r.1, omega arith, r.3, r.4)

module _ (judged : Judged) (root : ℕ) (state : State) (h : IsState judged root state []) where
  abbrev list : List Instance
  list = instances_by state.table state.rows.items

  pub outcome : AreInstances judged root list
  outcome = record { needed = h.pulled.goes (keys_of list) refl; each = h.pulled.each }

  pub outcome_table : IsTermTable state.table → AreTermsOf (clauses_in list) state.table
  outcome_table is = record {
    once = terms_once state.table is;
    same = λ t. (
      λ c. elim (h.pulled.stand t c) [ inl p ↦ p | inr q ↦ absurd (no_part t q) ],
      has_clauses state.table is state.rows.items h.kept.below t,
    );
  }

  pub outcome_last : EndsIn root list
  outcome_last =
      let e = ends_in judged outcome.needed in
      last_of list e.0 (key root 0 0 []) e.1

  pub outcome_within : (limit : ℕ) → IsTermTable state.table → weight_in state ≤ limit → IsWithinWeight list limit
  outcome_within limit is within = (weight_in state, (state.table, outcome_table is, refl), within)

-- why the pulling back stopped is the answer
pub fault_answer : (judged : Judged) (root limit : ℕ) (fault : PullFault) → IsVisitFault judged root limit fault → IsPullAnswer judged root limit (Err fault)
fault_answer judged root limit (OverWeight over) h = h
fault_answer judged root limit (OverWide step) h = absurd h
fault_answer judged root limit Memory h = tt

pub err_answer : (judged : Judged) (root limit : ℕ) (answer : Result Instances PullFault) (fault : PullFault) → IsErrAnd answer (λ e. e ≡ fault)
    → IsVisitFault judged root limit fault → IsPullAnswer judged root limit (answer_of answer)
err_answer judged root limit (Ok found) fault h v = absurd h
err_answer judged root limit (Err e) fault h v = subst (λ x. IsPullAnswer judged root limit (Err x)) (sym h) (fault_answer judged root limit fault v)
