-- The form of a development, from its first failure and back.
use Rattle.std.proofs.Common.{◌≡◌, ◌≢◌, ℕ, ◌+◌, Bool, true, false, not, ◌&&◌, ◌||◌, if◌then◌else◌, List, [], ◌∷◌, ◌++◌, Option, Some, None, ◌⊎◌, inl, inr, Result, Ok, Err, bytes_eq, refl, sym, ap, ap₂, ◌∙◌, append-nil, append_assoc}
use Rattle.std.specs.Prelude.{is_some}
use Rattle.std.proofs.lemmas.Slice.Eq.{bytes_eq-Decides}
use Rattle.lp_term.specs.Connectives.{individuals}
use Rattle.lp_term.specs.LambdaPi.{Term, type, kind, con, pat, var, app, lam, pi}
use Rattle.lp_term.specs.Names.{i_name, prop_name}
use Rattle.lp_term.specs.Prelude.{prelude}
use Rattle.lp_term.specs.Signature.{declaration, declarations, prelude_declarations}
use Rattle.lp_term.specs.Typing.{Declaration, Declares}
use Rattle.lp_term.specs.View.{term_of}
use Rattle.lp_term.specs.declared.command.Command.{Command}
use Rattle.lp_term.specs.declared.command.Command.TheVariants.{Constant, Symbol, Define, Rule}
use Rattle.lp_term.specs.declared.lp.Lp.{Lp}
use Rattle.lp_exact.proofs.TreeLaws.{view_injective}
use Rattle.lp_kernel.specs.Acceptance.{AreConstantCommands, HasGoal, IsConstantType, constants_more, constants_none, goal_signature}
use Rattle.lp_kernel.specs.Checking.{Fault, declared, is_declared, same_term}
use Rattle.lp_kernel.specs.Developments.{Failure, bad_goal, bad_prelude, bad_symbol, failure_after, failure_from, failure_of_goal, fault_in_goal, first_failure, goal_checked, goal_name, in_goal, is_constant_type, is_new, same_command}
use Rattle.lp_kernel.proofs.AnswerLaws.{both_true, declares, term_same}
use Rattle.lp_kernel.proofs.AnsweredLaws.{some_declared, term_is}

-- ---- tests

both_are_true : {a b : Bool} → a ≡ true → b ≡ true → (a && b) ≡ true
both_are_true e h = ap₂ (λ x y. x && y) e h

either_true : (a b : Bool) → (a || b) ≡ true → (a ≡ true) ⊎ (b ≡ true)
either_true true b h = inl refl
either_true false b h = inr h

second_true : (a : Bool) {b : Bool} → b ≡ true → (a || b) ≡ true
second_true true h = refl
second_true false h = h

not_true : (b : Bool) → not b ≡ true → b ≡ true → ⊥
not_true true h e = absurd cc
not_true false h e = absurd cc

true_not : (b : Bool) → (b ≡ true → ⊥) → not b ≡ true
true_not true h = absurd (h refl)
true_not false h = refl

-- a choice without failure
if_none : (c : Bool) (r : Option Failure) (e : Failure) → (if c then r else Some e) ≡ None → (c ≡ true) × (r ≡ None)
if_none true r e h = (refl, h)
if_none false r e h = absurd cc

pub if_true : (c : Bool) (r s : Option Failure) → c ≡ true → (if c then r else s) ≡ r
if_true c r s e = ap (λ b. if b then r else s) e

-- ---- commands

-- commands that are told equal are one
command_same : (c d : Command) → same_command c d ≡ true → c ≡ d
command_same (Constant x a) (Constant y b) h =
    let i = both_true (bytes_eq x y) (same_term (term_of a) (term_of b)) h in
    ap₂ (λ z c. Constant z c) ((bytes_eq-Decides x y).0 i.0) (view_injective a b (term_same (term_of a) (term_of b) i.1))
command_same (Symbol x a) (Symbol y b) h =
    let i = both_true (bytes_eq x y) (same_term (term_of a) (term_of b)) h in
    ap₂ (λ z c. Symbol z c) ((bytes_eq-Decides x y).0 i.0) (view_injective a b (term_same (term_of a) (term_of b) i.1))
command_same (Define x a t) (Define y b u) h =
    let i = both_true (bytes_eq x y && same_term (term_of a) (term_of b)) (same_term (term_of t) (term_of u)) h in
    let j = both_true (bytes_eq x y) (same_term (term_of a) (term_of b)) i.0 in
    ap₂ (λ z c. Define z c t) ((bytes_eq-Decides x y).0 j.0) (view_injective a b (term_same (term_of a) (term_of b) j.1)) ∙ ap (λ v. Define y b v) (view_injective t u (term_same (term_of t) (term_of u) i.1))
command_same (Rule a t) (Rule b u) h =
    let i = both_true (same_term (term_of a) (term_of b)) (same_term (term_of t) (term_of u)) h in
    ap₂ (λ c v. Rule c v) (view_injective a b (term_same (term_of a) (term_of b) i.0)) (view_injective t u (term_same (term_of t) (term_of u) i.1))
command_same _ _ h = absurd cc

command_is : (c : Command) → same_command c c ≡ true
command_is (Constant x a) = both_are_true ((bytes_eq-Decides x x).1 refl) (term_is (term_of a))
command_is (Symbol x a) = both_are_true ((bytes_eq-Decides x x).1 refl) (term_is (term_of a))
command_is (Define x a t) = both_are_true (both_are_true ((bytes_eq-Decides x x).1 refl) (term_is (term_of a))) (term_is (term_of t))
command_is (Rule a t) = both_are_true (term_is (term_of a)) (term_is (term_of t))

-- ---- constants

constant_type : (t : Term) → is_constant_type t ≡ true → IsConstantType t
constant_type (con x) h = elim (either_true (bytes_eq x i_name) (bytes_eq x prop_name) h) [
  | inl e ↦ inl ((bytes_eq-Decides x i_name).0 e)
  | inr e ↦ inr ((bytes_eq-Decides x prop_name).0 e)
]
constant_type (pi a b) h = let i = both_true (same_term a individuals) (is_constant_type b) h in (term_same a individuals i.0, constant_type b i.1)
constant_type _ h = absurd cc

is_constant : (t : Term) → IsConstantType t → is_constant_type t ≡ true
is_constant (con x) (inl e) = ap (λ b. b || bytes_eq x prop_name) ((bytes_eq-Decides x i_name).1 e)
is_constant (con x) (inr e) = second_true (bytes_eq x i_name) ((bytes_eq-Decides x prop_name).1 e)
is_constant (pi a b) h = both_are_true (ap (λ y. same_term y individuals) h.0 ∙ term_is individuals) (is_constant b h.1)
is_constant _ h = absurd h

new_name : (sig : List Declaration) (x : List ℕ) → is_new sig x ≡ true → ((b : Term) → Declares sig x b → ⊥) × (x ≢ goal_name)
new_name sig x h =
    let i = both_true (not (is_declared sig x)) (not (bytes_eq x goal_name)) h in (
      λ b k. let j = some_declared k in not_true (is_declared sig x) i.0 (ap is_some j.1),
      λ e. not_true (bytes_eq x goal_name) i.1 ((bytes_eq-Decides x goal_name).1 e),
    )

name_is_new : (sig : List Declaration) (x : List ℕ) → ((b : Term) → Declares sig x b → ⊥) → x ≢ goal_name → is_new sig x ≡ true
name_is_new sig x h e = both_are_true (true_not (is_declared sig x) (go (declared sig x) refl)) (true_not (bytes_eq x goal_name) (λ k. e ((bytes_eq-Decides x goal_name).0 k)))
  where
    go : (o : Option Term) → declared sig x ≡ o → is_some o ≡ true → ⊥
    go (Some b) k i = h b (declares sig x b k)
    go None k i = absurd cc

pub declarations_append : (l m : List Command) → declarations (l ++ m) ≡ declarations l ++ declarations m
declarations_append [] m = refl
declarations_append (Constant x a ∷ l) m = ap (λ d. declaration x (term_of a) ∷ d) (declarations_append l m)
declarations_append (Symbol x a ∷ l) m = ap (λ d. declaration x (term_of a) ∷ d) (declarations_append l m)
declarations_append (Define x a t ∷ l) m = ap (λ d. declaration x (term_of a) ∷ d) (declarations_append l m)
declarations_append (Rule a t ∷ l) m = declarations_append l m

-- ---- the commands after the prelude

fault_none : (r : Result Term Fault) → fault_in_goal r ≡ None → (v : Term) × (r ≡ Ok v)
fault_none (Ok v) h = (v, refl)
fault_none (Err e) h = absurd cc

-- constants and a checked goal
abbrev IsCheckedAfter : List Declaration → List Command → Type 0
IsCheckedAfter sig l =
    (constants : List Command) × (a : Lp) × (t : Lp) × (l ≡ constants ++ (Define goal_name a t ∷ [])) × AreConstantCommands sig constants
    × ((v : Term) × (goal_checked (sig ++ declarations constants) (term_of a) (term_of t) ≡ Ok v))

checked_after : (sig : List Declaration) (n : ℕ) (l : List Command) → failure_after sig n l ≡ None → IsCheckedAfter sig l
checked_after sig n [] h = absurd cc
checked_after sig n (Constant x a ∷ rest) h =
    let i = if_none (is_new sig x && is_constant_type (term_of a)) (failure_after (sig ++ (declaration x (term_of a) ∷ [])) (n + 1) rest) (bad_symbol n) h in
    let j = both_true (is_new sig x) (is_constant_type (term_of a)) i.0 in
    let k = new_name sig x j.0 in
    let r = checked_after (sig ++ (declaration x (term_of a) ∷ [])) (n + 1) rest i.1 in (
      Constant x a ∷ r.0,
      r.1,
      r.2,
      ap (λ l. Constant x a ∷ l) r.3,
      constants_more k.0 k.1 (constant_type (term_of a) j.1) r.4,
      (r.5.0, ap (λ s. goal_checked s (term_of r.1) (term_of r.2)) (sym (append_assoc sig (declaration x (term_of a) ∷ []) (declarations r.0))) ∙ r.5.1),
    )
checked_after sig n (Define x a t ∷ []) h =
    let i = if_none (bytes_eq x goal_name) (fault_in_goal (goal_checked sig (term_of a) (term_of t))) (bad_goal n) h in
    let e = (bytes_eq-Decides x goal_name).0 i.0 in
    let v = fault_none (goal_checked sig (term_of a) (term_of t)) i.1 in
    ([], a, t, ap (λ y. Define y a t ∷ []) e, constants_none sig, (v.0, ap (λ s. goal_checked s (term_of a) (term_of t)) (append-nil sig) ∙ v.1))
checked_after sig n (Define x a t ∷ (c ∷ rest)) h = absurd cc
checked_after sig n (Symbol x a ∷ rest) h = absurd cc
checked_after sig n (Rule a t ∷ rest) h = absurd cc

after_is_goal : {sig : List Declaration} {constants : List Command} (n : ℕ) (a t : Lp) → AreConstantCommands sig constants
    → failure_after sig n (constants ++ (Define goal_name a t ∷ [])) ≡ fault_in_goal (goal_checked (sig ++ declarations constants) (term_of a) (term_of t))
after_is_goal n a t (constants_none sig) =
    if_true (bytes_eq goal_name goal_name) (fault_in_goal (goal_checked sig (term_of a) (term_of t))) (Some (bad_goal n)) ((bytes_eq-Decides goal_name goal_name).1 refl) ∙ ap (λ s. fault_in_goal (goal_checked s (term_of a) (term_of t))) (sym (append-nil sig))
after_is_goal n a t (constants_more {sig = sig} {x = x} {a = b} {rest = rest} h e k l) =
    if_true (is_new sig x && is_constant_type (term_of b)) (failure_after (sig ++ (declaration x (term_of b) ∷ [])) (n + 1) (rest ++ (Define goal_name a t ∷ []))) (Some (bad_symbol n)) (both_are_true (name_is_new sig x h e) (is_constant (term_of b) k)) ∙
    after_is_goal (n + 1) a t l ∙
    ap (λ s. fault_in_goal (goal_checked s (term_of a) (term_of t))) (append_assoc sig (declaration x (term_of b) ∷ []) (declarations rest))

-- ---- the prelude

begins : (expected : List Command) (n : ℕ) (l : List Command) → failure_from expected n l ≡ None → (rest : List Command) × (k : ℕ) × (l ≡ expected ++ rest) × (failure_after prelude_declarations k rest ≡ None)
begins [] n l h = (l, n, refl, h)
begins (p ∷ expected) n [] h = absurd cc
begins (p ∷ expected) n (c ∷ l) h =
    let i = if_none (same_command p c) (failure_from expected (n + 1) l) (bad_prelude n) h in
    let r = begins expected (n + 1) l i.1 in
    (r.0, r.1, ap₂ (λ x y. x ∷ y) (sym (command_same p c i.0)) r.2, r.3)

begun : (expected : List Command) (n : ℕ) (rest : List Command) → (k : ℕ) × (failure_from expected n (expected ++ rest) ≡ failure_after prelude_declarations k rest)
begun [] n rest = (n, refl)
begun (p ∷ expected) n rest = let r = begun expected (n + 1) rest in (r.0, if_true (same_command p p) (failure_from expected (n + 1) (expected ++ rest)) (Some (bad_prelude n)) (command_is p) ∙ r.1)

-- ---- a development

signature_is : (constants : List Command) → prelude_declarations ++ declarations constants ≡ goal_signature constants
signature_is constants = sym (declarations_append prelude constants)

-- the first failure of a development of the right form is one in its goal
pub first_is_goal : {commands constants : List Command} {of body : Lp} → HasGoal commands constants of body
    → first_failure commands ≡ fault_in_goal (goal_checked (goal_signature constants) (term_of of) (term_of body))
first_is_goal {constants = constants} {of = of} {body = body} g =
    let r = begun prelude 1 (constants ++ (Define goal_name of body ∷ [])) in
    ap first_failure g.form ∙ r.1 ∙ after_is_goal r.0 of body g.symbols ∙ ap (λ s. fault_in_goal (goal_checked s (term_of of) (term_of body))) (signature_is constants)

-- without a failure it has the form, and its goal is checked
pub no_failure : (commands : List Command) → first_failure commands ≡ None
    → (constants : List Command) × (of : Lp) × (body : Lp) × HasGoal commands constants of body × ((v : Term) × (goal_checked (goal_signature constants) (term_of of) (term_of body) ≡ Ok v))
no_failure commands h =
    let i = begins prelude 1 commands h in
    let j = checked_after prelude_declarations i.1 i.0 i.3 in (
      j.0,
      j.1,
      j.2,
      record { form = i.2 ∙ ap (λ l. prelude ++ l) j.3; symbols = j.4 },
      (j.5.0, ap (λ s. goal_checked s (term_of j.1) (term_of j.2)) (sym (signature_is j.0)) ∙ j.5.1),
    )
