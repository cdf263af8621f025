-- What stands in a chain is over the symbols over which the target and the parents' clauses are.
use Rattle.std.proofs.Common.{◌≡◌, ◌<◌, ℕ, zero, suc, Bool, true, false, cond, nat_lt, List, [], ◌∷◌, ◌++◌, map, Some, slice_get, refl, sym, ap, ap₂, ◌∙◌, subst, arith}
use Rattle.std.proofs.lemmas.Bool.{or_left, or_right}
use Rattle.std.proofs.lemmas.Bool.Decides.{nat_tests}
use Rattle.std.proofs.lemmas.Option.{same_Some}
use Rattle.std.specs.List.{All}
use Rattle.dk_syntax.proofs.SubstitutionLaws.{agree}
use Rattle.dk_syntax.specs.Lists.{Every, every_cons, every_nil}
use Rattle.dk_syntax.specs.Terms.{any_true, EachBelow, has_variable, instance, substituted}
use Rattle.dk_syntax.specs.declared.clause.Clause.{Clause}
use Rattle.dk_syntax.specs.declared.clause.Literal.{Literal}
use Rattle.dk_syntax.specs.declared.symbol.SymKey.{SymKey}
use Rattle.dk_syntax.specs.declared.term.Term.{Term}
use Rattle.dk_syntax.specs.declared.term.Term.TheVariants.{Any, Var}
use Rattle.normal_form.specs.ClauseLists.{has_number, quants_of}
use Rattle.normal_form.specs.Renaming.{place_of, renamed_literal}
use Rattle.normal_form.specs.declared.clause_list.ClauseList.{ClauseList}
use Rattle.plan_symbols.proofs.Justified.{AreOver, before_further, justification_over, ranged}
use Rattle.plan_symbols.proofs.Repair.{literal_inside}
use Rattle.plan_symbols.proofs.RowsOver.{every_slice, renamed_over}
use Rattle.plan_symbols.proofs.EveryLaws.{every_both, every_head, every_map, every_tail}
use Rattle.plan_symbols.proofs.TermsOver.{any_over, instance_over, substituted_over, var_over}
use Rattle.plan_symbols.specs.Known.{AreListsOver, IsClauseOver, JustificationOver}
use Rattle.plan_symbols.specs.Over.{IsLiteralOver, IsTermOver}
use Rattle.plan_symbols.specs.Repair.{repaired, repaired_literal, repairing}
use Rattle.step_chain.proofs.Numbered.{over_numbered}
use Rattle.step_chain.specs.Chains.{alone, ends, goes, IsContinuation, IsLeastChain}
use Rattle.step_chain.specs.Resolvents.{again, AreTaken, AreUnified, closed_over, closed_terms_over, IsOnce, IsResolvent, kept, left_over, Link, new, none, resolution_by}
use Rattle.step_chain.specs.declared.chain.Chain.{Chain}
use Rattle.step_clause.specs.Justifications.{AreNumbered, IsNumbered, IsNumberedList, LiteralsBelow}
use Rattle.step_clause.specs.declared.justification.Justification.{Justification}

-- ---- numbered lists

all_first : {A : Type 0} (p : A → Type 0) (a : A) (l : List A) → All p (a ∷ l) → p a
all_first p a l h = h zero a (omega arith)

all_rest : {A : Type 0} (p : A → Type 0) (a : A) (l : List A) → All p (a ∷ l) → All p l
all_rest p a l h k d less = h (suc k) d (omega (arith, less))

all_slice : {A : Type 0} (p : A → Type 0) (l : List A) (k : ℕ) (a : A) → All p l → slice_get l k ≡ Some a → p a
all_slice p [] k a h e = absurd cc
all_slice p (b ∷ l) zero a h e = let s : b ≡ a = same_Some b a e in subst p s (all_first p b l h)
all_slice p (b ∷ l) (suc k) a h e = all_slice p l k a (all_rest p b l h) e

-- ---- substitutions that agree below a number

-- the substitution below a number, and Any from there on
abbrev cut : ℕ → (ℕ → Term) → ℕ → Term
cut vars t k = cond (nat_lt k vars) (t k) Any

lt_true : (k n : ℕ) → k < n → nat_lt k n ≡ true
lt_true k n h = grind (arith, nat_tests)

lt_less : (k n : ℕ) → nat_lt k n ≡ true → k < n
lt_less k n h = grind (arith, nat_tests)

args_agree : (vars : ℕ) (t : ℕ → Term) (args : List Term) → EachBelow vars args
    → map (substituted (cut vars t)) args ≡ map (substituted t) args
args_agree vars t [] h = refl
args_agree vars t (a ∷ args) h =
    ap₂ (λ x xs. x ∷ xs)
    (agree (cut vars t) t a (λ k e. ap (λ b. cond b (t k) Any) (lt_true k vars (h k (or_left (has_variable k a) (any_true (map (has_variable k) args)) e)))))
    (args_agree vars t args (λ k e. h k (or_right (has_variable k a) (any_true (map (has_variable k) args)) e)))

module _ (symbols : List SymKey) where
  cut_over : (vars : ℕ) (t : ℕ → Term) → ((j : ℕ) → j < vars → IsTermOver symbols (t j)) → (k : ℕ)
      → IsTermOver symbols (cut vars t k)
  cut_over vars t h k = by_test (nat_lt k vars) refl
    where
      by_test : (b : Bool) → nat_lt k vars ≡ b → IsTermOver symbols (cond b (t k) Any)
      by_test true e = h k (lt_less k vars e)
      by_test false e = any_over symbols

  instance_below : (vars : ℕ) (t : ℕ → Term) (l : Literal) → EachBelow vars l.args
      → ((j : ℕ) → j < vars → IsTermOver symbols (t j)) → IsLiteralOver symbols l
      → IsLiteralOver symbols (instance t l)
  instance_below vars t l below values h =
      subst (λ args. IsLiteralOver symbols (record l { args = args })) (args_agree vars t l.args below) (instance_over symbols (cut vars t) (cut_over vars t values) l h)

  instances_below : (vars : ℕ) (t : ℕ → Term) (lits : List Literal) → LiteralsBelow vars lits
      → ((j : ℕ) → j < vars → IsTermOver symbols (t j)) → AreOver symbols lits
      → AreOver symbols (map (instance t) lits)
  instances_below vars t [] below values h = every_nil
  instances_below vars t (l ∷ lits) below values (every_cons w ws) =
      every_cons (instance_below vars t l (all_first (λ l. EachBelow vars l.args) l lits below) values w)
      (instances_below vars t lits (all_rest (λ l. EachBelow vars l.args) l lits below) values ws)

  -- ---- the repaired substitutions take alike

  taken_repaired : (u : ℕ → Term) (pivot : Literal) (clause : List Literal) (taken : List Bool)
      → AreOver symbols clause → AreTaken u pivot clause taken
      → AreTaken (repairing symbols u) (repaired_literal symbols pivot) clause taken
  taken_repaired u pivot [] [] a h = tt
  taken_repaired u pivot [] (b ∷ taken) a h = h
  taken_repaired u pivot (l ∷ clause) [] a h = h
  taken_repaired u pivot (l ∷ clause) (true ∷ taken) (every_cons w ws) h =
      (sym (literal_inside symbols u l w) ∙ ap (repaired_literal symbols) h.0, taken_repaired u pivot clause taken ws h.1)
  taken_repaired u pivot (l ∷ clause) (false ∷ taken) (every_cons w ws) h = taken_repaired u pivot clause taken ws h

  unified_repaired : (sign : Bool) (first second : Clause) (taken others : List Bool) (t u : ℕ → Term)
      → IsClauseOver symbols first → IsClauseOver symbols second → AreUnified sign first second taken others t u
      → AreUnified sign first second taken others (repairing symbols t) (repairing symbols u)
  unified_repaired sign first second taken others t u a b (pred, args, h, k, some, some') =
      (pred, map (repaired symbols) args, taken_repaired t _ first.lits taken a h, taken_repaired u _ second.lits others b k, some, some')

  -- ---- what is left

  kept_over : (t : ℕ → Term) (lits : List Literal) (taken : List Bool) → AreOver symbols (map (instance t) lits)
      → AreOver symbols (map (instance t) (kept lits taken))
  kept_over t [] taken h = every_nil
  kept_over t (l ∷ lits) [] h = every_nil
  kept_over t (l ∷ lits) (true ∷ taken) (every_cons w ws) = kept_over t lits taken ws
  kept_over t (l ∷ lits) (false ∷ taken) (every_cons w ws) = every_cons w (kept_over t lits taken ws)

  once_over : (seen lits lits' : List Literal) → IsOnce seen lits lits' → AreOver symbols lits
      → AreOver symbols lits'
  once_over seen lits lits' (none _) h = every_nil
  once_over seen lits lits' (again _ l rest once _ more) h = once_over seen rest once more (every_tail h)
  once_over seen lits lits' (new _ l rest once _ more) h = every_cons (every_head h) (once_over (seen ++ l ∷ []) rest once more (every_tail h))

  -- ---- resolvents

  var_or_any : (b : Bool) (j : ℕ) → IsTermOver symbols (cond b (Var j) Any)
  var_or_any true j = var_over symbols j
  var_or_any false j = any_over symbols

  closed_are_over : (variables : List ℕ) (vars : ℕ) (t : ℕ → Term)
      → ((j : ℕ) → j < vars → IsTermOver symbols (t j))
      → Every (IsTermOver symbols) (closed_terms_over variables vars t)
  closed_are_over variables vars t h =
      ranged (IsTermOver symbols) (λ j. substituted (closed_over variables) (t j)) 0 vars
      (λ j less. substituted_over symbols (closed_over variables) (λ n. var_or_any (has_number variables n) (place_of variables n)) (t j) (h j (omega (arith, less))))

  signed_over : (sign : Bool) (number other : ℕ) (picks others : List ℕ) (terms terms' : List Term)
      → Every (IsTermOver symbols) terms → Every (IsTermOver symbols) terms'
      → JustificationOver symbols (resolution_by sign number other picks others terms terms')
  signed_over true number other picks others terms terms' a b = (a, b)
  signed_over false number other picks others terms terms' a b = (b, a)

  pub record IsResolventOver (resolvent : Clause) (reason : Justification) : Type 0 where
    pub step : JustificationOver symbols reason
    pub lits : IsClauseOver symbols resolvent
    pub numbered : IsNumbered resolvent

  pub resolvent_over : (number : ℕ) (first second : Clause) (link : Link) (resolvent : Clause) (step : Justification)
      → IsClauseOver symbols first → IsNumbered first → IsClauseOver symbols second → IsNumbered second
      → IsResolvent number first second link resolvent step → IsResolventOver resolvent step
  resolvent_over number first second link resolvent step a n b m it =
      let t = it.t in
      let u = it.u in
      let w = it.general.1 (repairing symbols t) (repairing symbols u) (unified_repaired link.sign first second link.taken link.others t u a b it.general.0) in
      let values : (j : ℕ) → j < first.vars → IsTermOver symbols (t j) = before_further symbols first.vars w.0 t t w.2 in
      let values' : (j : ℕ) → j < second.vars → IsTermOver symbols (u j) = before_further symbols second.vars w.0 u u w.3 in
      let left : AreOver symbols (left_over first second link.taken link.others t u) =
      every_both (kept_over t first.lits link.taken (instances_below first.vars t first.lits n values a))
      (kept_over u second.lits link.others (instances_below second.vars u second.lits m values' b)) in
      let lits = once_over [] (left_over first second link.taken link.others t u) it.lits it.once left in
      let places = place_of (quants_of it.lits) in
      record {
        step =
            subst (JustificationOver symbols) (sym it.justified)
            (signed_over link.sign number link.number it.picks it.other_picks _ _ (closed_are_over (quants_of it.lits) first.vars t values)
            (closed_are_over (quants_of it.lits) second.vars u values'));
        lits = subst (IsClauseOver symbols) (sym it.clause) (every_map (renamed_literal places) (renamed_over symbols places) lits);
        numbered = subst IsNumbered (sym it.clause) (over_numbered it.lits);
      }

  -- ---- chains

  pub record AreStepsOver (clauses : List Clause) (reasons : List Justification) : Type 0 where
    pub steps : Every (JustificationOver symbols) reasons
    pub mids : Every (IsClauseOver symbols) clauses
    pub numbered : Every IsNumbered clauses

  pub continuation_over : (target : Clause) (number : ℕ) (middle : Clause) (lists : List ClauseList) (links : List Link) (mids : List Clause) (steps : List Justification)
      → IsClauseOver symbols target → IsClauseOver symbols middle → IsNumbered middle
      → AreListsOver symbols lists → AreNumbered lists
      → IsContinuation target number middle lists links mids steps → AreStepsOver mids steps
  continuation_over target number middle lists links mids steps a b n h all (ends _ _ last step justified) =
      record {
        steps = every_cons (justification_over symbols target (alone middle ∷ last ∷ []) step justified a (every_cons (every_cons b every_nil) h)) every_nil;
        mids = every_nil;
        numbered = every_nil;
      }
  continuation_over target number middle lists links mids steps a b n h all (goes _ _ next rest link links' row resolvent mids' step steps' at made more) =
      let row_over : IsClauseOver symbols row.clause = every_slice next.rows link.number row (every_head h) at in
      let row_numbered : IsNumbered row.clause = all_slice (λ row. IsNumbered row.clause) next.rows link.number row (all_first IsNumberedList next rest all) at in
      let one = resolvent_over number middle row.clause link resolvent step b n row_over row_numbered made in
      let others = continuation_over target 0 resolvent rest links' mids' steps' a one.lits one.numbered (every_tail h) (all_rest IsNumberedList next rest all) more in
      record {
        steps = every_cons one.step others.steps;
        mids = every_cons one.lits others.mids;
        numbered = every_cons one.numbered others.numbered;
      }

  pub chain_over : (target : Clause) (parents : List ClauseList) (chain : Chain)
      → IsLeastChain target parents chain → IsClauseOver symbols target → AreListsOver symbols parents
      → AreNumbered parents → AreStepsOver chain.mids chain.steps
  chain_over target parents chain h a b n =
      let way = h.0 in
      let it = h.1 in
      let lists : AreListsOver symbols (it.first ∷ it.rest) = subst (AreListsOver symbols) it.whole b in
      let numbered : AreNumbered (it.first ∷ it.rest) = subst AreNumbered it.whole n in
      continuation_over target way.start it.row.clause it.rest way.links chain.mids chain.steps a
      (every_slice it.first.rows way.start it.row (every_head lists) it.at)
      (all_slice (λ row. IsNumbered row.clause) it.first.rows way.start it.row (all_first IsNumberedList it.first it.rest numbered) it.at)
      (every_tail lists) (all_rest IsNumberedList it.first it.rest numbered) it.continues
