-- No symbol that a step introduces is in the development.
use Rattle.std.proofs.Common.{◌≡◌, ℕ, nat_eq, Bool, true, false, if◌then◌else◌, inl, inr, List, [], ◌∷◌, ◌++◌, Some, refl, sym, ◌∙◌, ap, subst, arith, eq-eqb, slice_get}
use Rattle.std.specs.List.{AllByRecursion}
use Rattle.std.specs.Prelude.{All, Contains}
use Rattle.std.proofs.lemmas.List.Elements.{recursion_from_All}
use Rattle.dk_syntax.specs.declared.Kind.{Kind}
use Rattle.dk_syntax.specs.declared.Kind.TheVariants.{Function, Predicate}
use Rattle.dk_syntax.specs.declared.SymKey.{SymKey}
use Rattle.lp_term.specs.Identifiers.{identifier_of, kind_letter}
use Rattle.lp_term.specs.LambdaPi.{Term}
use Rattle.lp_term.specs.Prelude.{prelude}
use Rattle.lp_term.specs.Problems.{constants_of}
use Rattle.lp_term.specs.Reserved.{IsNoneOf, IsSymbol, declared_names}
use Rattle.lp_term.specs.Scope.{Declared, declared_app, declared_con, declared_lam, declared_pi, declared_type, declared_var}
use Rattle.lp_term.specs.Signature.{declarations}
use Rattle.lp_term.specs.Typing.{Declaration, Declares}
use Rattle.lp_term.specs.declared.Command.{Command}
use Rattle.lp_term.specs.declared.Command.TheVariants as command
use Rattle.lp_term.specs.declared.Dev.{Dev}
use Rattle.plan.proofs.Counts.{among_stands, counted, not_both}
use Rattle.plan.proofs.FreshLists.{same_list, unknown_all}
use Rattle.plan.proofs.Membership.{Among, among}
use Rattle.step_check.specs.Freshness.{IsBadAt, freshened, introduced_by, is_bad}
use Rattle.step_check.specs.declared.verdict.Verdict.{Verdict}
use Rattle.step_check.specs.declared.verdict.Verdicts.{Verdicts}
use Rattle.dk_cli.specs.Conversion.{HasName}
use Rattle.dk_cli.specs.Introduced.{Lacks, LeavesOut}
use Rattle.dk_cli.specs.Proof.{IsProofOf, signature_for}
use Rattle.dk_cli.specs.declared.derivation.Derivation.{Derivation}
use Rattle.dk_cli.proofs.JudgingLaws.{AreRightOf}
use Rattle.dk_cli.proofs.ReadBack.{either}

-- ---- names of the prelude

abbrev first_byte : List ℕ → ℕ
first_byte [] = 0
first_byte (byte ∷ rest) = byte

-- no name begins with the letter
abbrev begin_apart : ℕ → List (List ℕ) → Bool
begin_apart letter [] = true
begin_apart letter (name ∷ names) = if nat_eq letter (first_byte name) then false else begin_apart letter names

none_begins : (letter : ℕ) (rest : List ℕ) (names : List (List ℕ)) → begin_apart letter names ≡ true → IsNoneOf names (letter ∷ rest)
none_begins letter rest [] h = tt
none_begins letter rest (name ∷ names) h = by_test (nat_eq letter (first_byte name)) refl h (λ g. none_begins letter rest names g)
  where
    by_test : (b : Bool) → nat_eq letter (first_byte name) ≡ b → (if b then false else begin_apart letter names) ≡ true
        → (begin_apart letter names ≡ true → IsNoneOf names (letter ∷ rest)) → IsNoneOf (name ∷ names) (letter ∷ rest)
    by_test true e g more = absurd cc
    by_test false e g more = (λ same. not_both (nat_eq letter (first_byte name)) (eq-eqb letter (first_byte name) (ap first_byte same)) e, more g)

no_prelude_name : (kind : Kind) (rest : List ℕ) → IsNoneOf (declared_names prelude) (kind_letter kind ∷ rest)
no_prelude_name Function rest = none_begins 102 rest (declared_names prelude) refl
no_prelude_name Predicate rest = none_begins 112 rest (declared_names prelude) refl

-- ---- what is declared

-- what none of the first commands declares, the others do
behind : (front rest : List Command) (name : List ℕ) (of : Term) → Declares (declarations (front ++ rest)) name of → IsNoneOf (declared_names front) name
    → Declares (declarations rest) name of
behind [] rest name of h none = h
behind (command.Constant x a ∷ front) rest name of h none = elim (either h) [ inl same ↦ absurd (none.0 same) | inr later ↦ behind front rest name of later none.1 ]
behind (command.Symbol x a ∷ front) rest name of h none = elim (either h) [ inl same ↦ absurd (none.0 same) | inr later ↦ behind front rest name of later none.1 ]
behind (command.Define x a t ∷ front) rest name of h none = elim (either h) [ inl same ↦ absurd (none.0 same) | inr later ↦ behind front rest name of later none.1 ]
behind (command.Rule a t ∷ front) rest name of h none = behind front rest name of h none

-- a symbol whose identifier is declared with the problem's symbols is one of them
constant_is : (symbols : List SymKey) → AllByRecursion HasName symbols → (symbol : SymKey) → IsSymbol symbol → (of : Term)
    → Declares (declarations (constants_of symbols)) (identifier_of symbol) of → Among symbols symbol
constant_is [] names symbol fits of h = elim h [ ]
constant_is (one ∷ symbols) (name, names) symbol fits of h =
    elim (either h) [ inl same ↦ inl (sym (name.of_one symbol fits same)) | inr later ↦ inr (constant_is symbols names symbol fits of later) ]

module _ {sig : List Declaration} {name : List ℕ} (undeclared : (of : Term) → ¬ Declares sig name of) where
  lacks : {t : Term} → Declared sig t → Lacks name t
  lacks declared_type = tt
  lacks (declared_var k) = tt
  lacks (declared_con {a = a} h) = λ same. undeclared a (subst (λ n. Declares sig n a) same h)
  lacks (declared_app h k) = (lacks h, lacks k)
  lacks (declared_lam h k) = (lacks h, lacks k)
  lacks (declared_pi h k) = (lacks h, lacks k)

-- ---- what is introduced

module _ (d : Derivation) (verdicts : Verdicts) (right : AreRightOf d verdicts) where
  good : (place : ℕ) (verdict : Verdict) → slice_get (freshened d.problem.symbols right.are.0) place ≡ Some verdict → is_bad verdict ≡ false
  good place verdict is = by_test (is_bad verdict) refl
    where
      by_test : (b : Bool) → is_bad verdict ≡ b → is_bad verdict ≡ false
      by_test true e =
          absurd (subst (λ (list : List Verdict). (at : ℕ) → ¬ IsBadAt list at) right.are.2 right.right place (verdict, is, e))
      by_test false e = e

  new_to_problem : (symbol : SymKey) → Contains (introduced_by verdicts.list) symbol → ¬ Among d.problem.symbols symbol
  new_to_problem symbol introduced known =
      let same : introduced_by verdicts.list ≡ introduced_by right.are.0 = ap introduced_by (right.are.2 ∙ same_list d.problem.symbols right.are.0 good) in
      let some = counted symbol (introduced_by right.are.0) (among (introduced_by right.are.0) symbol (subst (λ list. Contains list symbol) same introduced)) in
      let none = unknown_all d.problem.symbols right.are.0 good symbol (among_stands d.problem.symbols symbol known) in
      omega (arith, some, none)

  pub left_out : (development : Dev) (proof : IsProofOf d.problem development) → All HasName d.problem.symbols → LeavesOut d.problem verdicts.list proof.body
  left_out development proof names symbol fits introduced =
      let undeclared : (of : Term) → ¬ Declares (signature_for d.problem) (identifier_of symbol) of =
      λ of h. new_to_problem symbol introduced
      (constant_is d.problem.symbols (recursion_from_All HasName d.problem.symbols names) symbol fits of
      (behind prelude (constants_of d.problem.symbols) (identifier_of symbol) of h (no_prelude_name symbol.kind _))) in record {
        undeclared = undeclared;
        type_lacks = lacks undeclared proof.type_declared;
        body_lacks = lacks undeclared proof.body_declared;
      }
