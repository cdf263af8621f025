-- Accepted developments, and those whose goal has its type.
use Rattle.std.proofs.Common.{◌≡◌, ◌↔◌, ℕ, suc, List, [], ◌∷◌, ◌++◌, ◌+◌, Option, Some, None, inl, inr, Result, Ok, Err, refl, sym, ap, ◌∙◌, subst, arith}
use Rattle.lp_term.specs.Connectives.{individuals}
use Rattle.lp_term.specs.LambdaPi.{Term, type, kind, con, pat, var, app, lam, pi}
use Rattle.lp_term.specs.Prelude.{prelude}
use Rattle.lp_term.specs.Signature.{declaration, declarations, prelude_declarations}
use Rattle.lp_term.specs.Typing.{Declaration, Declares, declared_here, declared_later, HasType, IsSort, sort_type, sort_kind, has_lam}
use Rattle.lp_term.specs.View.{term_of}
use Rattle.lp_term.specs.declared.command.Command.{Command}
use Rattle.lp_term.specs.declared.command.Command.TheVariants.{Constant}
use Rattle.lp_term.specs.declared.lp.Lp.{Lp}
use Rattle.lp_exact.specs.Degrees.{degree, word_degree}
use Rattle.lp_exact.specs.Objects.{Simple, individual, truth, function, simple_term}
use Rattle.lp_exact.specs.Signatures.{IsWellFormedContext, IsWellFormedSignature}
use Rattle.lp_exact.specs.Symbols.{AreConstants, HasSimpleType, IsFragmentSignature}
use Rattle.lp_exact.specs.Words.{word_of}
use Rattle.lp_exact.specs.declared.word.Word.{Word}
use Rattle.lp_exact.specs.declared.word.Word.TheVariants.{Individuals, Propositions, Prf}
use Rattle.lp_exact.proofs.ConstantLaws.{constants_fragment, constants_well_formed}
use Rattle.lp_exact.proofs.DegreeLaws.{sorts_convert, typed_graded}
use Rattle.lp_exact.proofs.SubjectLaws.{type_has_sort}
use Rattle.lp_exact.proofs.SymbolLaws.{symbol_lazy, words_agree}
use Rattle.lp_exact.proofs.UniquenessLaws.{generation_app, generation_lam, generation_pi, types_convert}
use Rattle.lp_kernel.specs.Acceptance.{AreConstantCommands, HasGoal, HasTypedGoal, IsAccepted, IsConstantType, constants_more, constants_none, goal_signature}
use Rattle.lp_kernel.specs.Checking.{Fault, and_then, argument_at, node_count, out_of_fragment, read}
use Rattle.lp_kernel.specs.Developments.{fault_in_goal, first_failure, goal_checked, in_goal}
use Rattle.lp_kernel.specs.LazyJudgement.{HasLazyForm}
use Rattle.lp_kernel.proofs.AnswerLaws.{answer_is_form}
use Rattle.lp_kernel.proofs.DecisionLaws.{HasLazyTypes, IsOkOrOutside, IsOutside, and_only, decides_type, lazy_types_extend}
use Rattle.lp_kernel.proofs.DevelopmentLaws.{declarations_append, first_is_goal, no_failure}
use Rattle.lp_kernel.proofs.GoalLaws.{checked_has_type, checked_is_judged, form_has_type, judged_has_type, judged_is_checked, no_types, symbol_typed, typed_is_checked}

-- ---- constants

constant_simple : (t : Term) → IsConstantType t → (s : Simple) × (t ≡ simple_term s)
constant_simple (con x) (inl e) = (individual, ap con e)
constant_simple (con x) (inr e) = (truth, ap con e)
constant_simple (pi a b) h = let r = constant_simple b h.1 in (function individual r.0, rw (h.0, r.1) refl)
constant_simple _ h = absurd h

declares_in_first : {l : List Declaration} {x : List ℕ} {a : Term} (m : List Declaration) → Declares l x a → Declares (l ++ m) x a
declares_in_first m (declared_here l d) = declared_here (l ++ m) d
declares_in_first m (declared_later d h) = declared_later d (declares_in_first m h)

declares_last : (l : List Declaration) (d : Declaration) → Declares (l ++ (d ∷ [])) d.name d.of
declares_last [] d = declared_here [] d
declares_last (e ∷ l) d = declared_later e (declares_last l d)

constants_new : {sig : List Declaration} {l : List Command} → AreConstantCommands sig l → (x : List ℕ) (a b : Term) → Declares (declarations l) x a → Declares sig x b → ⊥
constants_new (constants_none sig) x a b h k = elim h [ ]
constants_new (constants_more n e i m) x a b (declared_here l d) k = n b k
constants_new (constants_more n e i m) x a b (declared_later d h) k = constants_new m x a b h (declares_in_first _ k)

constants_simple : {sig : List Declaration} {l : List Command} → AreConstantCommands sig l → (x : List ℕ) (a : Term) → Declares (declarations l) x a → (s : Simple) × (a ≡ simple_term s)
constants_simple (constants_none sig) x a h = elim h [ ]
constants_simple (constants_more {a = c} n e i m) x a (declared_here l d) = constant_simple (term_of c) i
constants_simple (constants_more n e i m) x a (declared_later d h) = constants_simple m x a h

constants_once : {sig : List Declaration} {l : List Command} → AreConstantCommands sig l → (x y : List ℕ) (a b : Term) → x ≡ y → Declares (declarations l) x a → Declares (declarations l) y b → a ≡ b
constants_once (constants_none sig) x y a b q h k = elim h [ ]
constants_once (constants_more n e i m) x y a b q (declared_here l d) (declared_here l2 d2) = refl
constants_once (constants_more {sig = sig} n e i m) x y a b q (declared_here l d) (declared_later d2 k) = absurd (constants_new m y b a k (subst (λ z. Declares (sig ++ (d ∷ [])) z a) q (declares_last sig d)))
constants_once (constants_more {sig = sig} n e i m) x y a b q (declared_later d h) (declared_here l d2) = absurd (constants_new m x a b h (subst (λ z. Declares (sig ++ (d2 ∷ [])) z b) (sym q) (declares_last sig d2)))
constants_once (constants_more n e i m) x y a b q (declared_later d h) (declared_later d2 k) = constants_once m x y a b q h k

are_constants : {l : List Command} → AreConstantCommands prelude_declarations l → AreConstants (declarations l)
are_constants h = record {
  simple = constants_simple h;
  once = record { same = λ x a b i j. constants_once h x x a b refl i j };
  new = constants_new h;
}

signature_formed : (l : List Command) → AreConstantCommands prelude_declarations l → IsWellFormedSignature (goal_signature l)
signature_formed l h = subst IsWellFormedSignature (sym (declarations_append prelude l)) (constants_well_formed (are_constants h))

signature_fragment : (l : List Command) → AreConstantCommands prelude_declarations l → IsFragmentSignature (goal_signature l)
signature_fragment l h = subst IsFragmentSignature (sym (declarations_append prelude l)) (constants_fragment (are_constants h))

-- ---- acceptance

pub accepted : (commands : List Command) → first_failure commands ≡ None → IsAccepted commands
accepted commands h =
    let i = no_failure commands h in
    let z = signature_fragment i.0 i.3.symbols in
    let j = checked_is_judged (goal_signature i.0) z (term_of i.1) (term_of i.2) i.4.0 i.4.1 in
    record {
      constants = i.0;
      of = i.1;
      body = i.2;
      normal = j.0;
      goal = i.3;
      checked = j.1;
      reduced = j.2;
      found = j.3;
    }

pub no_failure_of : (commands : List Command) → IsAccepted commands → first_failure commands ≡ None
no_failure_of commands h =
    let z = signature_fragment h.constants h.goal.symbols in
    let j = judged_is_checked (goal_signature h.constants) z (term_of h.of) (term_of h.body) h.normal h.checked h.reduced h.found in
    first_is_goal h.goal ∙ ap fault_in_goal j.1

pub accepted_typed : (commands : List Command) → IsAccepted commands → HasTypedGoal commands
accepted_typed commands h =
    let z = signature_fragment h.constants h.goal.symbols in
    let w = signature_formed h.constants h.goal.symbols in
    record {
      constants = h.constants;
      of = h.of;
      body = h.body;
      goal = h.goal;
      sorted = (type, sort_type, checked_has_type (goal_signature h.constants) z w (term_of h.of) h.checked);
      typed = judged_has_type (goal_signature h.constants) z w (term_of h.of) (term_of h.body) h.normal h.checked h.reduced h.found;
    }

outside_only : (r : Result Term Fault) (e : Fault) → IsOkOrOutside r → fault_in_goal r ≡ Some (in_goal e) → IsOutside e
outside_only (Ok v) e h k = absurd cc
outside_only (Err d) e h k = let i : d ≡ e = cc in subst IsOutside i h

outside_is : (e : Fault) → IsOutside e → (n : ℕ) × (e ≡ out_of_fragment n)
outside_is (out_of_fragment n) h = (n, refl)
outside_is _ h = absurd h

-- ---- a declared type with the sort KIND leaves the fragment

word_degree_below : (w : Word) → word_degree w ≡ 2 → ⊥
word_degree_below Individuals e = absurd cc
word_degree_below Propositions e = absurd cc
word_degree_below Prf e = absurd cc
word_degree_below _ e = absurd cc

sort_degree : {s : Term} → IsSort s → degree s ≡ 4 → ⊥
sort_degree sort_type e = absurd cc
sort_degree sort_kind e = absurd cc

module _ (sig : List Declaration) (z : IsFragmentSignature sig) (w : IsWellFormedSignature sig) where
  abbrev AreLazyTypes : List Term → List Term → Type 0
  AreLazyTypes g d = HasLazyTypes sig w (symbol_typed w z) (HasSimpleType sig) (words_agree z) (symbol_lazy z) g d

  -- what has KIND has degree 2
  kind_degree : {g : List Term} {t : Term} → IsWellFormedContext sig g → HasType sig g t kind → degree t ≡ 2
  kind_degree f h = let i = (typed_graded w.graded f.graded h).2 in omega (arith, i)

  no_function : {g : List Term} {t a b : Term} → IsWellFormedContext sig g → HasType sig g t (pi a b) → degree t ≡ 2 → ⊥
  no_function f h e = elim (type_has_sort w f h) [
    | inl k ↦ absurd cc
    | inr r ↦ let i = (typed_graded w.graded f.graded h).2 in let j = (typed_graded w.graded f.graded r.2).2 in sort_degree r.1 (j ∙ ap (λ n. suc n) (i ∙ ap (λ n. suc n) e))
  ]

  kind_only : (a : Term) {g d : List Term} (k : ℕ) → AreLazyTypes g d → HasType sig g a kind → IsOkOrOutside ((read sig a).check d k)
  kind_only type k p h = tt
  kind_only kind k p h = tt
  kind_only (pat x) k p h = tt
  kind_only (var n) k p h = let e = kind_degree p.fit h in absurd cc
  kind_only (con x) k p h = absurd (word_degree_below (word_of x) (kind_degree p.fit h))
  kind_only (app t u) k p h = let i = generation_app h in absurd (no_function p.fit i.2 (kind_degree p.fit h))
  kind_only (lam a t) k p h = let i = generation_lam h in absurd (no_function p.fit (has_lam i.2 i.3 i.4) (kind_degree p.fit h))
  kind_only (pi a b) {g = g} {d = d} k p h =
      let i = generation_pi h in
      let e = sorts_convert i.1 sort_kind i.4 in
      and_only ((read sig a).check d (k + 1)) _ (decides_type sig w (symbol_typed w z) (HasSimpleType sig) (words_agree z) (symbol_lazy z) a (k + 1) p i.2) (λ x ex.
      and_only ((read sig b).check (x ∷ d) (k + 1 + node_count a)) _ (kind_only b (k + 1 + node_count a) (lazy_types_extend sig w (symbol_typed w z) (HasSimpleType sig) (words_agree z) (symbol_lazy z) p i.2 (answer_is_form sig a d (k + 1) x ex)) (subst (λ s. HasType sig (a ∷ g) b s) e i.3)) (λ y ey. tt))

  -- what has KIND is no checked type
  not_both : (a x : Term) → HasType sig [] a kind → HasLazyForm sig [] a x → ⊥
  not_both a x h form =
      let e : type ≡ kind = sorts_convert sort_type sort_kind (types_convert z.once (form_has_type sig z w a x form) h) in absurd cc

  pub sort_only : (a t s : Term) → IsSort s → HasType sig [] a s → HasType sig [] t a → IsOkOrOutside (goal_checked sig a t)
  sort_only a t s sort_type h k = typed_is_checked sig z w a t h k
  sort_only a t s sort_kind h k =
      and_only ((read sig a).check [] 0) _ (kind_only a 0 (no_types sig z w) h) (λ x ex. absurd (not_both a x h (answer_is_form sig a [] 0 x ex)))

-- the first failure of a development whose goal has its type
pub typed_accepted : (commands : List Command) (e : Fault) → HasTypedGoal commands → first_failure commands ≡ Some (in_goal e) → (n : ℕ) × (e ≡ out_of_fragment n)
typed_accepted commands e h k =
    let z = signature_fragment h.constants h.goal.symbols in
    let w = signature_formed h.constants h.goal.symbols in
    let o = sort_only (goal_signature h.constants) z w (term_of h.of) (term_of h.body) h.sorted.0 h.sorted.1 h.sorted.2 h.typed in
    outside_is e (outside_only (goal_checked (goal_signature h.constants) (term_of h.of) (term_of h.body)) e o (sym (first_is_goal h.goal) ∙ k))
