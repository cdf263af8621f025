-- The terms that a justification's parents have, and what these make of the parents' literals.
use Rattle.std.proofs.Common.{◌≡◌, ◌<◌, ◌≤◌, ◌+◌, ℕ, zero, suc, Bool, true, false, if◌then◌else◌, cond, nat_eq, nat_lt, List, [], ◌∷◌, map, length, arith, refl, sym, ap, ap₂, ◌∙◌, subst}
use Rattle.std.proofs.lemmas.Bool.{or_left, or_right}
use Rattle.std.proofs.lemmas.Bool.Decides.{nat_tests}
use Rattle.std.proofs.lemmas.List.{get_or-map, get_or_past}
use Rattle.std.proofs.lemmas.List.FromFn.{get_or-map-range_with_len, length-map-range_with_len}
use Rattle.std.specs.List.{range_with_len}
use Rattle.dk_syntax.proofs.ListLaws.{ForEach}
use Rattle.dk_syntax.proofs.SubstitutionLaws.{after, agree, substituted-Any, substituted-Var}
use Rattle.dk_syntax.specs.Terms.{any_true, EachBelow, has_variable, instance, substituted}
use Rattle.dk_syntax.specs.declared.clause.Clause.{Clause}
use Rattle.dk_syntax.specs.declared.clause.Literal.{Literal}
use Rattle.dk_syntax.specs.declared.term.Term.{Term}
use Rattle.dk_syntax.specs.declared.term.Term.TheVariants.{Any, Var}
use Rattle.normal_form.proofs.BoolLaws.{left_false, right_false}
use Rattle.normal_form.specs.ClauseLists.{clause_over, has_number}
use Rattle.normal_form.specs.Renaming.{place_of, renamed, renamed_literal}
use Rattle.step_chain.proofs.SameLiterals.{renames, with_args}
use Rattle.step_chain.specs.Resolvents.{closed_over, closed_terms_over}
use Rattle.step_clause.specs.Justifications.{closed, closed_terms, IsNumbered, LiteralsBelow}
use Rattle.ground_instances.specs.Needs.{ground, value_in}

both_ways : (b : Bool) → b ≡ true → b ≡ false → ⊥
both_ways b h k = cc

-- ---- an instance of an instance

-- the literal's instance by v is the instance by w of that by t
abbrev pub IsMoved : (ℕ → Term) → (ℕ → Term) → (ℕ → Term) → Literal → Type 0
IsMoved w t v literal = instance v literal ≡ instance w (instance t literal)

module _ (n : ℕ) (w t v : ℕ → Term) (to : (j : ℕ) → j < n → v j ≡ substituted w (t j)) where
  args_move : (args : List Term) → EachBelow n args → map (substituted v) args ≡ map (substituted w) (map (substituted t) args)
  args_move [] h = refl
  args_move (a ∷ args) h =
      ap₂ (λ x xs. x ∷ xs)
      (agree v (λ k. substituted w (t k)) a (λ k e. to k (h k (or_left (has_variable k a) (any_true (map (has_variable k) args)) e))) ∙ sym (after w t a))
      (args_move args (λ k e. h k (or_right (has_variable k a) (any_true (map (has_variable k) args)) e)))

  pub literals_move : (lits : List Literal) → LiteralsBelow n lits → ForEach (IsMoved w t v) lits
  literals_move [] h = tt
  literals_move (l ∷ lits) h = (ap (with_args l) (args_move l.args (h zero l (omega arith))), literals_move lits (λ k d less. h (suc k) d (omega (arith, less))))

args_renamed : (w : ℕ → Term) (p : ℕ → ℕ) (args : List Term) → map (substituted w) (map (renamed p) args) ≡ map (substituted (λ k. w (p k))) args
args_renamed w p [] = refl
args_renamed w p (a ∷ args) =
    ap₂ (λ x xs. x ∷ xs)
    (ap (substituted w) (renames p a) ∙ after w (λ k. Var (p k)) a ∙ agree (λ k. substituted w (Var (p k))) (λ k. w (p k)) a (λ k e. substituted-Var w (p k)))
    (args_renamed w p args)

pub literals_renamed : (w : ℕ → Term) (p : ℕ → ℕ) (lits : List Literal) → map (instance w) (map (renamed_literal p) lits) ≡ map (instance (λ k. w (p k))) lits
literals_renamed w p [] = refl
literals_renamed w p (l ∷ lits) = ap₂ (λ x xs. x ∷ xs) (ap (with_args l) (args_renamed w p l.args)) (literals_renamed w p lits)

-- ---- the terms of an instance

-- the terms that an instance has by those of a justification
in_terms : (terms : List Term) (closing w : ℕ → Term) → ((k : ℕ) → substituted (value_in terms) (closing k) ≡ w k) → (n : ℕ) (t : ℕ → Term) (j : ℕ) → j < n
    → value_in (map (ground terms) (map (λ k. substituted closing (t k)) (range_with_len 0 n))) j ≡ substituted w (t j)
in_terms terms closing w same n t j less =
    let f : ℕ → Term = λ k. substituted closing (t k) in
    let here : 0 + j ≡ j = omega arith in
    get_or-map (ground terms) (map f (range_with_len 0 n)) j Any Any (subst (λ m. j < m) (sym (length-map-range_with_len f 0 n)) less)
    ∙ ap (ground terms) (get_or-map-range_with_len f 0 n j j Any less here)
    ∙ after (value_in terms) closing (t j) ∙ agree (λ k. substituted (value_in terms) (closing k)) w (t j) (λ k e. same k)

past_terms : (terms : List Term) (n : ℕ) → length terms ≡ n → (k : ℕ) → n ≤ k → value_in terms k ≡ Any
past_terms terms n long k past = get_or_past terms k Any (omega (arith, long, past))

not_less : (k n : ℕ) → nat_lt k n ≡ false → n ≤ k
not_less k n h = grind (arith, nat_tests)

closed_value : (terms : List Term) (frozen : ℕ) → length terms ≡ frozen → (k : ℕ) → substituted (value_in terms) (closed frozen k) ≡ value_in terms k
closed_value terms frozen long k = by_test (nat_lt k frozen) refl
  where
    by_test : (b : Bool) → nat_lt k frozen ≡ b → substituted (value_in terms) (if b then Var k else Any) ≡ value_in terms k
    by_test true h = substituted-Var (value_in terms) k
    by_test false h = substituted-Any (value_in terms) ∙ sym (past_terms terms frozen long k (not_less k frozen h))

no_place : (q : List ℕ) (k : ℕ) → has_number q k ≡ false → length q ≤ place_of q k
no_place [] k h = omega arith
no_place (m ∷ q) k h = by_test (nat_eq m k) refl (no_place q k (right_false (nat_eq m k) (has_number q k) h))
  where
    by_test : (b : Bool) → nat_eq m k ≡ b → length q ≤ place_of q k → suc (length q) ≤ (if b then 0 else 1 + place_of q k)
    by_test true e later = absurd (both_ways (nat_eq m k) e (left_false (nat_eq m k) (has_number q k) h))
    by_test false e later = omega (arith, later)

over_value : (terms : List Term) (q : List ℕ) → length terms ≡ length q → (k : ℕ) → substituted (value_in terms) (closed_over q k) ≡ value_in terms (place_of q k)
over_value terms q long k = by_test (has_number q k) refl
  where
    by_test : (b : Bool) → has_number q k ≡ b → substituted (value_in terms) (cond b (Var (place_of q k)) Any) ≡ value_in terms (place_of q k)
    by_test true h = substituted-Var (value_in terms) (place_of q k)
    by_test false h = substituted-Any (value_in terms) ∙ sym (past_terms terms (length q) long (place_of q k) (no_place q k h))

-- ---- the literals of a parent

-- by the terms that a justification names
pub parent_moved : (terms : List Term) (frozen : ℕ) (clause : Clause) (t : ℕ → Term) → length terms ≡ frozen → IsNumbered clause
    → ForEach (IsMoved (value_in terms) t (value_in (map (ground terms) (closed_terms frozen clause.vars t)))) clause.lits
parent_moved terms frozen clause t long n =
    literals_move clause.vars (value_in terms) t (value_in (map (ground terms) (closed_terms frozen clause.vars t)))
    (in_terms terms (closed frozen) (value_in terms) (closed_value terms frozen long) clause.vars t) clause.lits n

-- and by those that an exact resolvent names, whose variables are these
pub parent_moved_over : (terms : List Term) (quants : List ℕ) (clause : Clause) (t : ℕ → Term) → length terms ≡ length quants → IsNumbered clause
    → ForEach (IsMoved (λ k. value_in terms (place_of quants k)) t (value_in (map (ground terms) (closed_terms_over quants clause.vars t)))) clause.lits
parent_moved_over terms quants clause t long n =
    let w : ℕ → Term = λ k. value_in terms (place_of quants k) in
    literals_move clause.vars w t (value_in (map (ground terms) (closed_terms_over quants clause.vars t)))
    (in_terms terms (closed_over quants) w (over_value terms quants long) clause.vars t) clause.lits n

-- the literals of an exact resolvent
pub resolvent_literals : (terms : List Term) (quants : List ℕ) (lits : List Literal)
    → map (instance (value_in terms)) (clause_over quants lits).lits ≡ map (instance (λ k. value_in terms (place_of quants k))) lits
resolvent_literals terms quants lits = literals_renamed (value_in terms) (place_of quants) lits
