-- What an instance needs, by what is found of its step.
use Rattle.std.proofs.Common.{◌≡◌, ◌+◌, ℕ, zero, suc, true, false, List, [], ◌∷◌, length, slice_get, Some, add-one, arith, refl, sym, ap, subst}
use Rattle.dk_syntax.specs.declared.term.Term.{Term}
use Rattle.step_chain.specs.declared.chain.Chain.{Chain}
use Rattle.step_check.specs.declared.verdict.Verdict.{Verdict}
use Rattle.step_check.specs.declared.verdict.Verdict.TheVariants.{Chained, Clausal, Composes, Structural}
use Rattle.step_clause.specs.declared.justification.Justification.{Justification}
use Rattle.step_compose.specs.declared.composed.Composed.{Composed}
use Rattle.step_skolem.specs.declared.map.SkMap.{SkMap}
use Rattle.ground_instances.proofs.Growth.{grows_none}
use Rattle.ground_instances.specs.Keys.{Has, IsLeafVerdict, IsOwnBase, itself, Judged, Key, key, parent_at, parents_at}
use Rattle.ground_instances.specs.Naming.{AreBaseNeeds, AreNamed, AreNamesBelow, AreNeedsOf, at_base, at_leaf, IsNamedPart, key_at, keys_from}
use Rattle.ground_instances.specs.Needs.{by_base, by_chain, by_clauses, by_image, by_leaf, by_parent, by_stage, by_thin, named_by, Needs, of_stage}
use Rattle.ground_instances.specs.Notes.{IsNote}
use Rattle.ground_instances.specs.Rows.{AreBelow, terms_by}
use Rattle.ground_instances.specs.declared.naming.Lists.TheVariants.{Image, Parents, Stage}
use Rattle.ground_instances.specs.declared.naming.Named.{Named}
use Rattle.ground_instances.specs.declared.naming.Place.{Place}
use Rattle.ground_instances.specs.declared.notes.Note.{Note}

-- no instance
pub none_named : (table : List Term) → AreNamed table [] table []
none_named table = record { are = refl; below = λ k d l. absurd (omega arith); grows = grows_none (IsNamedPart []) table }

module _ (judged : Judged) (old new : List Term) (place : Place) (ts : List Term) (names : List Named) where
  at_stage : (s : ℕ) → place.stage ≡ s → (keys : List Key) → Needs judged (key place.step s place.clause ts) keys → Needs judged (key_at place ts) keys
  at_stage s e keys h = subst (λ x. Needs judged (key place.step x place.clause ts) keys) (sym e) h

  pub leaf_needs : (verdict : Verdict) → Has judged place.step verdict → IsOwnBase verdict → IsLeafVerdict verdict → place.stage ≡ 0 → AreNamed old [] new names
      → AreNeedsOf judged old (key_at place ts) new names
  leaf_needs verdict has base leaf stage named =
      ([], at_stage 0 stage [] (by_leaf place.step place.clause ts (place.step, verdict, itself place.step verdict has base, has, leaf)), named)

  pub structural_needs : (m : SkMap) (keys : List Key) → Has judged place.step (Structural m) → place.stage ≡ 0 → AreBaseNeeds judged place.step place.clause ts keys
      → AreNamed old keys new names → AreNeedsOf judged old (key_at place ts) new names
  structural_needs m _ has stage (at_leaf leaf) named = ([], at_stage 0 stage [] (by_leaf place.step place.clause ts leaf), named)
  structural_needs m _ has stage (at_base base apart is) named =
      (key base 0 place.clause ts ∷ [], at_stage 0 stage (key base 0 place.clause ts ∷ []) (by_base place.step base place.clause ts m has apart is), named)

  pub thin_needs : (composed : Composed) (q : ℕ) (keys : List Key) → Has judged place.step (Composes composed) → parents_at judged place.step ≡ q ∷ [] → place.stage ≡ 1
      → AreBaseNeeds judged q place.clause ts keys → AreNamed old keys new names → AreNeedsOf judged old (key_at place ts) new names
  thin_needs composed q _ has one stage (at_leaf leaf) named = ([], at_stage 1 stage [] (by_thin place.step q place.clause ts composed has one leaf), named)
  thin_needs composed q _ has one stage (at_base base apart is) named =
      (key base 0 place.clause ts ∷ [], at_stage 1 stage (key base 0 place.clause ts ∷ []) (by_parent place.step q base place.clause ts composed has one apart is), named)

  pub clausal_needs : (steps : List Justification) (step : Justification) → Has judged place.step (Clausal steps) → place.stage ≡ 0 → slice_get steps place.clause ≡ Some step
      → AreNamed old (named_by (keys_from judged place Parents) ts step) new names → AreNeedsOf judged old (key_at place ts) new names
  clausal_needs steps step has stage at named =
      let keys = named_by (keys_from judged place Parents) ts step in
      (keys, at_stage 0 stage keys (by_clauses place.step place.clause ts steps step has at), named)

  pub composed_needs : (composed : Composed) (step : Justification) → Has judged place.step (Composes composed) → place.stage ≡ 0
      → slice_get composed.steps place.clause ≡ Some step → AreNamed old (named_by (keys_from judged place Image) ts step) new names
      → AreNeedsOf judged old (key_at place ts) new names
  composed_needs composed step has stage at named =
      let keys = named_by (keys_from judged place Image) ts step in
      (keys, at_stage 0 stage keys (by_image place.step place.clause ts composed step has at), named)

  pub target_needs : (chains : List Chain) (chain : Chain) (step : Justification) (mids : ℕ) → Has judged place.step (Chained chains) → place.stage ≡ 0
      → slice_get chains place.clause ≡ Some chain → mids ≡ length chain.mids → slice_get chain.steps mids ≡ Some step
      → AreNamed old (named_by (keys_from judged place (Stage mids)) ts step) new names → AreNeedsOf judged old (key_at place ts) new names
  target_needs chains chain step mids has stage at all last named =
      let keys = named_by (keys_from judged place (Stage mids)) ts step in
      let h = by_chain place.step place.clause ts chains chain step has at (subst (λ n. slice_get chain.steps n ≡ Some step) all last) in
      (keys, at_stage 0 stage keys (subst (λ n. Needs judged (key place.step 0 place.clause ts) (named_by (of_stage judged place.step place.clause n) ts step)) (sym all) h), named)

  pub middle_needs : (chains : List Chain) (chain : Chain) (step : Justification) (j : ℕ) → Has judged place.step (Chained chains) → place.stage ≡ suc j
      → slice_get chains place.clause ≡ Some chain → slice_get chain.steps j ≡ Some step
      → AreNamed old (named_by (keys_from judged place (Stage j)) ts step) new names → AreNeedsOf judged old (key_at place ts) new names
  middle_needs chains chain step j has stage at this named =
      let keys = named_by (keys_from judged place (Stage j)) ts step in
      (keys, at_stage (suc j) stage keys (by_stage place.step j place.clause ts chains chain step has at this), named)

-- ---- places of the lists of a chain

module _ (judged : Judged) (i target : ℕ) where
  pub stage_next : (mids list c : ℕ) (terms : List Term) → (list ≡ 0 → ⊥) → key (parent_at judged i (mids + 1)) 0 c terms ≡ of_stage judged i target mids list c terms
  stage_next mids zero c terms differs = absurd (differs refl)
  stage_next zero (suc k) c terms differs = ap (λ n. key (parent_at judged i n) 0 c terms) (add-one 0)
  stage_next (suc m) (suc k) c terms differs = ap (λ n. key (parent_at judged i n) 0 c terms) (add-one (suc m))

  pub stage_first : (mids list c : ℕ) (terms : List Term) → list ≡ 0 → mids ≡ 0 → key (parent_at judged i 0) 0 c terms ≡ of_stage judged i target mids list c terms
  stage_first zero zero c terms e f = refl
  stage_first zero (suc k) c terms e f = absurd (omega arith)
  stage_first (suc m) k c terms e f = absurd (omega arith)

  pub stage_same : (mids list c : ℕ) (terms : List Term) → list ≡ 0 → (mids ≡ 0 → ⊥) → key i mids target terms ≡ of_stage judged i target mids list c terms
  stage_same zero k c terms e differs = absurd (differs refl)
  stage_same (suc m) zero c terms e differs = refl
  stage_same (suc m) (suc k) c terms e differs = absurd (omega arith)

-- ---- the base

pub base_needs_leaf : (judged : Judged) (step clause : ℕ) (ts : List Term) (note : Note) → IsNote judged step note → note.is_leaf ≡ true → AreBaseNeeds judged step clause ts []
base_needs_leaf judged step clause ts note is e = at_leaf (is.leaf e)

pub base_needs_other : (judged : Judged) (step clause : ℕ) (ts : List Term) (note : Note) → IsNote judged step note → note.is_leaf ≡ false
    → AreBaseNeeds judged step clause ts (key note.base 0 clause ts ∷ [])
base_needs_other judged step clause ts note is e = at_base note.base (is.other e) is.base

-- an instance with terms that stand in the table
pub same_named : (table : List Term) (place : Place) (numbers copy : List ℕ) → copy ≡ numbers → AreBelow (length table) numbers
    → AreNamed table (key_at place (terms_by table numbers) ∷ []) table (record { place = place; terms = copy } ∷ [])
same_named table place numbers copy same below = record {
  are = ap (λ ns. key_at place (terms_by table ns) ∷ []) same;
  below = one_below;
  grows = grows_none (IsNamedPart (key_at place (terms_by table numbers) ∷ [])) table;
}
  where
    one_below : AreNamesBelow (length table) (record { place = place; terms = copy } ∷ [])
    one_below zero d l = subst (AreBelow (length table)) (sym same) below
    one_below (suc k) d l = absurd (omega arith)
