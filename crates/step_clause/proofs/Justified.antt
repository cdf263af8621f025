-- The least key is the least candidate.
use Rattle.std.proofs.Common.{ℕ, List, [], ◌∷◌, ◌++◌, Option, Some, None, subst, refl, sym}
use Rattle.dk_syntax.specs.declared.Clause.{Clause}
use Rattle.normal_form.specs.declared.ClauseList.{ClauseList}
use Rattle.step_clause.specs.declared.justification.Justification.{Justification}
use Rattle.step_clause.specs.Candidates.{Candidate, subsumption, resolution, Works, Before, NoneWorks, IsLeast, IsListBefore, Subsumes, Resolves}
use Rattle.step_clause.specs.Justifications.{candidate_of, HasTerms, IsJustification}
use Rattle.step_clause.specs.Places.{Among, AmongAt, IsAnswer, ListSubsumesBy, IsListSubsumption, ParentResolvesBy, IsParentResolution}

abbrev pub SubsumingKey : Clause → List ClauseList → List ℕ → Type 0
SubsumingKey target parents = Among (ListSubsumesBy target) parents

abbrev pub ResolvingKey : Clause → List ClauseList → List ℕ → Type 0
ResolvingKey target parents = Among (ParentResolvesBy target parents) parents

-- what works has a key
key_of_subsumption : (target : Clause) (parents : List ClauseList) (i k : ℕ) (picks : List ℕ) → Works target parents (subsumption i k picks) → SubsumingKey target parents (i ∷ k ∷ picks)
key_of_subsumption target parents i k picks (clause, (list, row, at, at', e), (t, h)) =
    (list, at, (row, at', (t, subst (λ z. Subsumes t target.lits z.lits picks) (sym e) h)))

key_of_resolution : (target : Clause) (parents : List ClauseList) (i k i' k' : ℕ) (picks others : List ℕ) → Works target parents (resolution i k i' k' picks others) → ResolvingKey target parents (i ∷ k ∷ i' ∷ k' ∷ (picks ++ others))
key_of_resolution target parents i k i' k' picks others (first, second, (list, row, at, at', e), (list', row', a, a', e'), (t, u, h)) = (
  list,
  at,
  (
    row,
    at',
    (
      list',
      a,
      (
        row',
        a',
        record {
          picks = picks;
          others = others;
          whole = refl;
          t = t;
          u = u;
          resolves = subst (λ z. Resolves t u target.lits z.lits row'.clause.lits picks others) (sym e) (subst (λ z. Resolves t u target.lits first.lits z.lits picks others) (sym e') h);
        },
      ),
    ),
  ),
)

-- ---- nothing works

pub none_justified : (target : Clause) (parents : List ClauseList) → ((key : List ℕ) → SubsumingKey target parents key → ⊥) → ((key : List ℕ) → ResolvingKey target parents key → ⊥) → NoneWorks target parents
none_justified target parents none none' (subsumption i k picks) w = none (i ∷ k ∷ picks) (key_of_subsumption target parents i k picks w)
none_justified target parents none none' (resolution i k i' k' picks others) w = none' (i ∷ k ∷ i' ∷ k' ∷ (picks ++ others)) (key_of_resolution target parents i k i' k' picks others w)

-- ---- a subsumption

least_subsumption : (target : Clause) (parents : List ClauseList) (i k : ℕ) (picks : List ℕ) → ((other : List ℕ) → SubsumingKey target parents other → IsListBefore other (i ∷ k ∷ picks) → ⊥) → (other : Candidate) → Works target parents other → Before other (subsumption i k picks) → ⊥
least_subsumption target parents i k picks least (subsumption i' k' picks') w b = least (i' ∷ k' ∷ picks') (key_of_subsumption target parents i' k' picks' w) b
least_subsumption target parents i k picks least (resolution p q p' q' picks' others') w b = b

abbrev pub IsJustified : Clause → List ClauseList → Justification → Type 0
IsJustified target parents it = IsLeast target parents (candidate_of it) × HasTerms target parents it

subsumed : (target : Clause) (parents : List ClauseList) (it : Justification) (key : List ℕ) → AmongAt (λ parent list. IsListSubsumption target parent list it) parents key → ((other : List ℕ) → SubsumingKey target parents other → IsListBefore other key → ⊥) → IsJustified target parents it
subsumed target parents it [] h least = absurd h
subsumed target parents it (i ∷ []) h least = absurd h.2
subsumed target parents it (i ∷ k ∷ picks) (list, at, (row, at', (terms, made, t))) least =
    subst (IsJustified target parents) (sym made) (
      ((row.clause, (list, row, at, at', refl), (t.0, t.1.0)), least_subsumption target parents i k picks least),
      (row.clause, (list, row, at, at', refl), t),
    )

pub subsumption_justified : (target : Clause) (parents : List ClauseList) (it : Justification) → IsAnswer (SubsumingKey target parents) (λ z. AmongAt (λ parent list. IsListSubsumption target parent list z) parents) (Some it) → IsJustified target parents it
subsumption_justified target parents it a = subsumed target parents it a.0 a.1 a.2

-- ---- a resolution, where no subsumption works

least_resolution : (target : Clause) (parents : List ClauseList) (i k i' k' : ℕ) (picks others : List ℕ) → ((key : List ℕ) → SubsumingKey target parents key → ⊥) → ((other : List ℕ) → ResolvingKey target parents other → IsListBefore other (i ∷ k ∷ i' ∷ k' ∷ (picks ++ others)) → ⊥) → (other : Candidate) → Works target parents other → Before other (resolution i k i' k' picks others) → ⊥
least_resolution target parents i k i' k' picks others none least (subsumption p q picks') w b = none (p ∷ q ∷ picks') (key_of_subsumption target parents p q picks' w)
least_resolution target parents i k i' k' picks others none least (resolution p q p' q' picks' others') w b =
    least (p ∷ q ∷ p' ∷ q' ∷ (picks' ++ others')) (key_of_resolution target parents p q p' q' picks' others' w) b

resolved : (target : Clause) (parents : List ClauseList) (it : Justification) (key : List ℕ) → ((key : List ℕ) → SubsumingKey target parents key → ⊥) → AmongAt (λ parent list. IsParentResolution target parents parent list it) parents key → ((other : List ℕ) → ResolvingKey target parents other → IsListBefore other key → ⊥) → IsJustified target parents it
resolved target parents it [] none h least = absurd h
resolved target parents it (i ∷ []) none h least = absurd h.2
resolved target parents it (i ∷ k ∷ []) none h least = absurd h.2.2
resolved target parents it (i ∷ k ∷ i' ∷ []) none h least = absurd h.2.2.2
resolved target parents it (i ∷ k ∷ i' ∷ k' ∷ key) none (list, at, (row, at', (list', a, (row', a', w)))) least =
    subst (IsJustified target parents) (sym w.made) (
      (
        (row.clause, row'.clause, (list, row, at, at', refl), (list', row', a, a', refl), (w.paired.0, w.paired.1, w.paired.2.0)),
        least_resolution target parents i k i' k' w.picks w.others none
            (λ other h b. least other h (subst (λ z. IsListBefore other (i ∷ k ∷ i' ∷ k' ∷ z)) (sym w.whole) b)),
      ),
      (row.clause, row'.clause, (list, row, at, at', refl), (list', row', a, a', refl), w.paired),
    )

pub resolution_justified : (target : Clause) (parents : List ClauseList) (it : Justification) → ((key : List ℕ) → SubsumingKey target parents key → ⊥) → IsAnswer (ResolvingKey target parents) (λ z. AmongAt (λ parent list. IsParentResolution target parents parent list z) parents) (Some it) → IsJustified target parents it
resolution_justified target parents it none a = resolved target parents it a.0 none a.1 a.2

pub last_justified : (target : Clause) (parents : List ClauseList) (o : Option Justification) → ((key : List ℕ) → SubsumingKey target parents key → ⊥) → IsAnswer (ResolvingKey target parents) (λ z. AmongAt (λ parent list. IsParentResolution target parents parent list z) parents) o → IsJustification target parents o
last_justified target parents None none a = none_justified target parents none a
last_justified target parents (Some it) none a = resolution_justified target parents it none a
