-- The instances of a plan are right instances of the theory.
use Rattle.std.proofs.Common.{◌≡◌, ◌==◌, if◌then◌else◌, ℕ, zero, suc, Bool, true, false, List, [], ◌∷◌, ◌++◌, map, get_or, length, Option, Some, None, arith, append_assoc, refl, sym, ap, ◌∙◌, subst}
use Rattle.std.proofs.lemmas.Bool.Decides.{nat_tests}
use Rattle.std.proofs.lemmas.List.{length-map, map-append}
use Rattle.dk_syntax.proofs.ListLaws.{entry_end, entry_same}
use Rattle.dk_syntax.specs.Lists.{Each, Entry, each_cons, each_nil, entry_here, entry_later}
use Rattle.dk_syntax.specs.declared.Problem.{Problem}
use Rattle.dk_syntax.specs.declared.clause.Literal.{Literal}
use Rattle.dk_syntax.specs.declared.symbol.SymKey.{SymKey}
use Rattle.dk_syntax.specs.declared.term.Term.{Term}
use Rattle.expansion.specs.declared.thin.Thin.{Thin}
use Rattle.ground_instances.specs.Instances.{AreInstances, clauses_in}
use Rattle.ground_instances.specs.Keys.{Judged, verdict_in}
use Rattle.ground_instances.specs.Lists.{instances_of}
use Rattle.ground_instances.specs.declared.instance.Instance.{Instance}
use Rattle.lp_term.specs.Typing.{Declaration}
use Rattle.assemble.proofs.BuiltLaws.{Builds, builds_cons, builds_nil}
use Rattle.assemble.specs.Fitting.{symbols_of}
use Rattle.assemble.specs.Justification.{Instance as TheoryInstance, Works, works_resolve, works_same, works_subsume}
use Rattle.nd_term.specs.Eigenvariables.{Eigenvariable}
use Rattle.nd_term.specs.Formulas.{Formula as TheoryFormula, Literal as TheoryLiteral, literal}
use Rattle.nd_term.specs.Instances.{Chosen}
use Rattle.nd_term.specs.Justified.{pivot_atom}
use Rattle.nd_term.specs.Outputs.{output_atom, output_clause, output_literal}
use Rattle.plan.specs.Laws.{AreRightSteps, judged_of}
use Rattle.plan.specs.Thins.{AreThins, IsThin, IsThinAnswer}
use Rattle.plan.specs.declared.plan.Plan.{Plan}
use Rattle.plan_typing.proofs.NeededClauses.{FollowsBy, follows_at}
use Rattle.plan_typing.proofs.Numbered.{ready}
use Rattle.plan_typing.proofs.Picked.{ChosenFrom, CutFrom, entry_mapped, resolved, subsumed}
use Rattle.plan_typing.proofs.TreesThere.{tree_there}
use Rattle.plan_typing.specs.Reasons.{justification_from, literals_at, needed_at, reason_by, theory_instance, theory_instances_of}
use Rattle.step_check.specs.Steps.{Case, case_of}
use Rattle.step_clause.specs.Candidates.{affirmed, denied}
use Rattle.step_clause.specs.declared.justification.Justification.{Justification}
use Rattle.tstp_trace.specs.declared.step.Trace.{Trace}

-- ---- picks in the theory

entry_rest : {A : Type 0} {l : List A} {a b : A} {k : ℕ} → Entry (a ∷ l) (suc k) b → Entry l k b
entry_rest (entry_later _ i) = i

module _ (symbols : List SymKey) (order : List Term) where
  abbrev out : Literal → TheoryLiteral
  out = output_literal symbols order

  chosen_out : (lits parent : List Literal) (picks : List ℕ) → ChosenFrom lits parent picks → Chosen (map out lits) (map out parent) picks
  chosen_out lits _ _ each_nil = each_nil
  chosen_out lits _ _ (each_cons {l = rest} {m = picks} i is) = each_cons (entry_mapped out i) (chosen_out lits rest picks is)

  cut_out : (lits : List Literal) (pivot : Literal) (parent : List Literal) (picks : List ℕ) → CutFrom lits pivot parent picks → Chosen (map out lits ++ out pivot ∷ []) (map out parent) picks
  cut_out lits pivot parent picks h =
      subst (λ d. Chosen d (map out parent) picks) (map-append out lits (pivot ∷ [])) (chosen_out (lits ++ pivot ∷ []) parent picks h.0)

  pick_out : (lits : List Literal) (pivot : Literal) (parent : List Literal) (picks : List ℕ) → CutFrom lits pivot parent picks → (k : ℕ) × Entry picks k (length (map out lits))
  pick_out lits pivot parent picks h = (h.1.0, subst (λ n. Entry picks h.1.0 n) (sym (length-map lits out)) h.1.1)

  -- the pivot's atom is that of the first literal that is picked for it
  atom_found : (lits : List Literal) (pivot : Literal) (parent : List Literal) (picks : List ℕ) → ChosenFrom (lits ++ pivot ∷ []) parent picks
      → (k : ℕ) → Entry picks k (length lits) → pivot_atom symbols order (length lits) parent picks ≡ output_atom symbols order pivot.pred pivot.args
  atom_found lits pivot _ _ each_nil k j = elim j [ ]
  atom_found lits pivot _ _ (each_cons {a = l} {b = pick} {l = rest} {m = picks} i is) k j =
      by_test (pick == length lits) refl k j (λ n g. atom_found lits pivot rest picks is n g)
    where
      by_test : (b : Bool) → (pick == length lits) ≡ b → (k : ℕ) → Entry (pick ∷ picks) k (length lits)
          → ((n : ℕ) → Entry picks n (length lits) → pivot_atom symbols order (length lits) rest picks ≡ output_atom symbols order pivot.pred pivot.args)
          → (if b then output_atom symbols order l.pred l.args else pivot_atom symbols order (length lits) rest picks) ≡ output_atom symbols order pivot.pred pivot.args
      by_test true e k j later =
          let same : pick ≡ length lits = grind (arith, nat_tests) in
          let found : l ≡ pivot = entry_same (subst (λ n. Entry (lits ++ pivot ∷ []) n l) same i) (entry_end lits) in
          ap (λ (x : Literal). output_atom symbols order x.pred x.args) found
      by_test false e zero j later =
          let same : pick ≡ length lits = entry_same (entry_here pick picks) j in let other : pick ≡ length lits → ⊥ = grind (arith, nat_tests) in absurd (other same)
      by_test false e (suc k) j later = later k (entry_rest j)

-- ---- one instance

module _ (problem : Problem) (trace : Trace) (plan : Plan) (sig : List Declaration) (es : List Eigenvariable) (hs : List TheoryFormula) (c : TheoryFormula) where
  abbrev symbols_here : List SymKey
  symbols_here = symbols_of plan.origins.list

  abbrev instances : List Instance
  instances = instances_of plan.instances

  -- the clauses of instances in the theory
  abbrev pub known_of : List Instance → List (List TheoryLiteral)
  known_of front = map (output_clause symbols_here plan.order) (clauses_in front)

  abbrev pub WorksAfter : List Instance → TheoryInstance → Type 0
  WorksAfter front one = Works sig es hs c (known_of front) one.clause one.by

  at_number : (front back : List Instance) (it : Instance) (n : ℕ) (m : List Literal) → instances ≡ front ++ it ∷ back → Entry (clauses_in front) n m → literals_at problem trace plan n ≡ m
  at_number front back it n m e i = ap (λ l. get_or (clauses_in l) n []) e ∙ read front n m i
    where
      read : (some : List Instance) (k : ℕ) (l : List Literal) → Entry (clauses_in some) k l → get_or (clauses_in (some ++ it ∷ back)) k [] ≡ l
      read [] k l j = elim j [ ]
      read (one ∷ some) zero l (entry_here _ _) = refl
      read (one ∷ some) (suc k) l (entry_later _ j) = read some k l j

  known_entry : (front : List Instance) (n : ℕ) (m : List Literal) → Entry (clauses_in front) n m → Entry (known_of front) n (output_clause symbols_here plan.order m)
  known_entry front n m i = entry_mapped (output_clause symbols_here plan.order) i

  -- the reason by the justification works
  works_by : (front back : List Instance) (it : Instance) → instances ≡ front ++ it ∷ back → (o : Option Justification) (needs : List ℕ) (parents : List (List Literal)) → it.needs ≡ needs
      → FollowsBy o it.lits parents → Each (λ n m. Entry (clauses_in front) n m) needs parents
      → Works sig es hs c (known_of front) (output_clause symbols_here plan.order it.lits) (reason_by problem trace plan it o)
  works_by front back it e None needs parents n f known = same_works needs n (subst (λ p. Each (λ n m. Entry (clauses_in front) n m) needs p) f known)
    where
      same_works : (needs : List ℕ) → it.needs ≡ needs → Each (λ n m. Entry (clauses_in front) n m) needs (it.lits ∷ [])
          → Works sig es hs c (known_of front) (output_clause symbols_here plan.order it.lits) (reason_by problem trace plan it None)
      same_works _ n (each_cons {a = k} i each_nil) =
          works_same (subst (λ p. Entry (known_of front) p (output_clause symbols_here plan.order it.lits)) (sym (ap (λ l. get_or l 0 0) n)) (known_entry front k it.lits i))
  works_by front back it e (Some _) _ _ n (subsumed parent number picks ts m chosen) (each_cons {a = k} i each_nil) =
      works_subsume (subst (λ p. Entry (known_of front) p (output_clause symbols_here plan.order m)) (sym (ap (λ l. get_or l 0 0) n)) (known_entry front k m i))
      (chosen_out symbols_here plan.order it.lits m picks chosen)
  works_by front back it e (Some _) _ _ n (resolved parent number other other_number picks others ts us pred args m x cut cut') (each_cons {a = k} i (each_cons {a = l} j each_nil)) =
      let first : needed_at problem trace plan it 0 ≡ k = ap (λ l. get_or l 0 0) n in
      let second : needed_at problem trace plan it 1 ≡ l = ap (λ l. get_or l 1 0) n in
      let atom = output_atom symbols_here plan.order pred args in
      let lits_at : literals_at problem trace plan (needed_at problem trace plan it 0) ≡ m = ap (literals_at problem trace plan) first ∙ at_number front back it k m e i in
      let found : pivot_atom symbols_here plan.order (length it.lits) (literals_at problem trace plan (needed_at problem trace plan it 0)) picks ≡ atom =
      ap (λ y. pivot_atom symbols_here plan.order (length it.lits) y picks) lits_at
      ∙ atom_found symbols_here plan.order it.lits (affirmed pred args) m picks cut.0 cut.1.0 cut.1.1 in
      let one = pick_out symbols_here plan.order it.lits (affirmed pred args) m picks cut in
      let two = pick_out symbols_here plan.order it.lits (denied pred args) x others cut' in
      let d = output_clause symbols_here plan.order it.lits in
      let mo = output_clause symbols_here plan.order m in
      let xo = output_clause symbols_here plan.order x in
      works_resolve one.0 two.0
      (subst (λ p. Entry (known_of front) p mo) (sym first) (known_entry front k m i))
      (subst (λ p. Entry (known_of front) p xo) (sym second) (known_entry front l x j))
      (subst (λ a. Chosen (d ++ literal true a ∷ []) mo picks) (sym found) (cut_out symbols_here plan.order it.lits (affirmed pred args) m picks cut))
      (subst (λ a. Chosen (d ++ literal false a ∷ []) xo others) (sym found) (cut_out symbols_here plan.order it.lits (denied pred args) x others cut'))
      one.1 two.1

  module _ (right : AreRightSteps (case_of problem trace plan.graph) plan.verdicts.list)
      (are : AreInstances (judged_of (case_of problem trace plan.graph) plan.verdicts.list) plan.root (instances_of plan.instances)) where
    abbrev case : Case
    case = case_of problem trace plan.graph

    abbrev judged : Judged
    judged = judged_of case plan.verdicts.list

    -- an instance with a thin tree works, whatever is known
    abbrev pub TreesWork : Type 0
    TreesWork = (front back : List Instance) (it : Instance) (thin : Thin) → instances ≡ front ++ it ∷ back → IsThin judged it thin → WorksAfter front (theory_instance problem trace plan it (Some thin))

    none_works : (front back : List Instance) (it : Instance) → instances ≡ front ++ it ∷ back → ((thin : Thin) → IsThin judged it thin → ⊥) → WorksAfter front (theory_instance problem trace plan it None)
    none_works front back it e none =
        let r = ready judged plan.root instances are front back it e in
        let some : r.needed ≡ [] → ⊥ = λ empty.
        let w = tree_there case plan.verdicts.list right it r.needed r.needs empty r.ground.clause r.ground.of in none w.0 w.1 in
        works_by front back it e (justification_from (verdict_in plan.verdicts.list it.step) it.stage it.clause) it.needs r.parents refl
        (follows_at case plan.verdicts.list right r.needs some it.lits r.ground r.parents r.are_ground) r.known

    module _ (trees : TreesWork) where
      instance_works : (front back : List Instance) (it : Instance) (thin : Option Thin) → instances ≡ front ++ it ∷ back → IsThinAnswer judged it thin
          → WorksAfter front (theory_instance problem trace plan it thin)
      instance_works front back it None e none = none_works front back it e none
      instance_works front back it (Some thin) e is = trees front back it thin e is

      builds_from : (front back : List Instance) (thins : List (Option Thin)) → instances ≡ front ++ back → AreThins judged back thins
          → Builds sig es hs c (known_of front) (theory_instances_of problem trace plan back thins)
      builds_from front [] thins e h = builds_nil (known_of front)
      builds_from front (it ∷ back) [] e h = absurd h
      builds_from front (it ∷ back) (thin ∷ thins) e h =
          let rest = builds_from (front ++ it ∷ []) back thins (e ∙ sym (append_assoc front (it ∷ []) back)) h.1 in
          let more : known_of (front ++ it ∷ []) ≡ known_of front ++ output_clause symbols_here plan.order it.lits ∷ [] =
          ap (map (output_clause symbols_here plan.order)) (map-append (λ (x : Instance). x.lits) front (it ∷ []))
          ∙ map-append (output_clause symbols_here plan.order) (clauses_in front) (it.lits ∷ []) in
          builds_cons (instance_works front back it thin e h.0) (subst (λ k. Builds sig es hs c k (theory_instances_of problem trace plan back thins)) more rest)

      pub plan_builds : AreThins judged instances plan.thins → Builds sig es hs c [] (theory_instances_of problem trace plan instances plan.thins)
      plan_builds thins = builds_from [] instances plan.thins refl thins
