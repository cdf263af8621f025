-- The text of a proof is read as it, and as no other development, in each syntax.
use Rattle.std.proofs.Common.{◌≡◌, ℕ, zero, suc, ◌+◌, false, ◌⊎◌, inl, inr, List, [], ◌∷◌, ◌++◌, codes, refl, sym, ◌∙◌, ap, subst, arith}
use Rattle.std.specs.Prelude.{All}
use Rattle.std.specs.List.{AllByRecursion}
use Rattle.std.proofs.lemmas.List.Elements.{All-append, All-from_recursion, recursion_from_All}
use Rattle.dedukti_read.proofs.PrintLaws as dk_prints
use Rattle.dedukti_read.proofs.PrintableLaws as dk_printable
use Rattle.dedukti_read.specs.Printable as dk
use Rattle.dk_syntax.specs.declared.Kind.{Kind}
use Rattle.dk_syntax.specs.declared.Kind.TheVariants.{Function, Predicate}
use Rattle.dk_syntax.specs.declared.Problem.{Problem}
use Rattle.dk_syntax.specs.declared.SymKey.{SymKey}
use Rattle.lp_read.proofs.PrintLaws as lp_prints
use Rattle.lp_read.proofs.PrintableLaws as lp_printable
use Rattle.lp_read.specs.Printable as lp
use Rattle.lp_term.proofs.ProblemLaws.{function_type-more}
use Rattle.lp_term.proofs.ScopeLaws.{typed_below}
use Rattle.lp_term.proofs.ViewLaws.{view_Pi, view_Sym}
use Rattle.lp_term.specs.Identifiers.{identifier_of}
use Rattle.lp_term.specs.LambdaPi.{Term, con, pi}
use Rattle.lp_term.specs.Prelude.{prelude}
use Rattle.lp_term.specs.Problems.{constants_of, function_type, goal_type_of, result_of}
use Rattle.lp_term.specs.Scope.{Declared, VariablesBelow}
use Rattle.lp_term.specs.Signature.{declarations}
use Rattle.lp_term.specs.Terms.{individuals}
use Rattle.lp_term.specs.Typing.{Declaration, Declares, declared_here, declared_later}
use Rattle.lp_term.specs.View.{term_of}
use Rattle.lp_term.specs.declared.Command.{Command}
use Rattle.lp_term.specs.declared.Command.TheVariants as command
use Rattle.lp_term.specs.declared.Dev.{Dev}
use Rattle.lp_term.specs.declared.Lp.{Lp}
use Rattle.dk_cli.specs.Conversion.{HasName, IsPrinted}
use Rattle.dk_cli.specs.Proof.{IsProofOf, IsReadAlone, signature_for}
use Rattle.dk_cli.specs.Syntaxes.{text_in}
use Rattle.dk_cli.specs.declared.syntax.Syntax.{Syntax}
use Rattle.dk_cli.specs.declared.syntax.Syntax.TheVariants.{Lambdapi, Dedukti}

-- ---- the syntaxes

-- which names, terms outside of rules and commands are printable in a syntax
abbrev IsName : Syntax → List ℕ → Type 0
IsName Lambdapi name = lp.IsSymbolName name
IsName Dedukti name = dk.IsSymbolName name

abbrev IsTerm : Syntax → ℕ → Term → Type 0
IsTerm Lambdapi level t = lp.IsPrintable false level t
IsTerm Dedukti level t = dk.IsPrintable [] level t

abbrev IsCommand : Syntax → Command → Type 0
IsCommand Lambdapi c = lp.IsPrintableCommand c
IsCommand Dedukti c = dk.IsPrintableCommand c

symbol_name : (syntax : Syntax) (level : ℕ) (name : List ℕ) → IsName syntax name → IsTerm syntax level (con name)
symbol_name Lambdapi level name h = h
symbol_name Dedukti level name h = (h, refl)

product : (syntax : Syntax) (level : ℕ) (domain body : Term) → IsTerm syntax level domain → IsTerm syntax (level + 1) body → IsTerm syntax level (pi domain body)
product Lambdapi level domain body h k = (h, k)
product Dedukti level domain body h k = (h, k)

constant : (syntax : Syntax) (name : List ℕ) (of : Lp) → IsName syntax name → IsTerm syntax 0 (term_of of) → IsCommand syntax (command.Constant name of)
constant Lambdapi name of h k = (h, k)
constant Dedukti name of h k = (h, k)

definition : (syntax : Syntax) (name : List ℕ) (of body : Lp) → IsName syntax name → IsTerm syntax 0 (term_of of) → IsTerm syntax 0 (term_of body) → IsCommand syntax (command.Define name of body)
definition Lambdapi name of body h k l = (h, k, l)
definition Dedukti name of body h k l = (h, k, l)

individual_name : (syntax : Syntax) → IsName syntax (codes "I")
individual_name Lambdapi = lp_printable.symbol_name _ _ refl refl refl refl
individual_name Dedukti = dk_printable.symbol_name _ _ refl refl refl refl

proposition_name : (syntax : Syntax) → IsName syntax (codes "Prop")
proposition_name Lambdapi = lp_printable.symbol_name _ _ refl refl refl refl
proposition_name Dedukti = dk_printable.symbol_name _ _ refl refl refl refl

goal_name : (syntax : Syntax) → IsName syntax (codes "goal")
goal_name Lambdapi = lp_printable.symbol_name _ _ refl refl refl refl
goal_name Dedukti = dk_printable.symbol_name _ _ refl refl refl refl

identifier_name : (syntax : Syntax) (symbol : SymKey) → HasName symbol → IsName syntax (identifier_of symbol)
identifier_name Lambdapi symbol h = lp_printable.identifiers_are_names _ h.grammar h.free
identifier_name Dedukti symbol h = dk_printable.identifiers_are_names symbol h.grammar h.free

prelude_commands : (syntax : Syntax) → All (IsCommand syntax) prelude
prelude_commands Lambdapi = lp_printable.prelude_is_printable
prelude_commands Dedukti = dk_printable.prelude_is_printable

declared_term : (syntax : Syntax) (sig : List Declaration) (t : Term) → ((name : List ℕ) (of : Term) → Declares sig name of → IsName syntax name) → VariablesBelow 0 t → Declared sig t → IsTerm syntax 0 t
declared_term Lambdapi sig t names below declared = lp_printable.declared_is_printable sig 0 t names below declared
declared_term Dedukti sig t names below declared = dk_printable.declared_is_printable sig 0 t names below declared

-- the name that a command declares
abbrev NameOf : Syntax → Command → Type 0
NameOf syntax (command.Constant name of) = IsName syntax name
NameOf syntax (command.Symbol name of) = IsName syntax name
NameOf syntax (command.Define name of body) = IsName syntax name
NameOf syntax (command.Rule left right) = Unit {0}

name_of : (syntax : Syntax) (c : Command) → IsCommand syntax c → NameOf syntax c
name_of Lambdapi (command.Constant name of) h = h.0
name_of Lambdapi (command.Symbol name of) h = h.0
name_of Lambdapi (command.Define name of body) h = h.0
name_of Lambdapi (command.Rule left right) h = tt
name_of Dedukti (command.Constant name of) h = h.0
name_of Dedukti (command.Symbol name of) h = h.0
name_of Dedukti (command.Define name of body) h = h.0
name_of Dedukti (command.Rule left right) h = tt

pub either : {rest : List Declaration} {first : Declaration} {name : List ℕ} {of : Term} → Declares (first ∷ rest) name of → (name ≡ first.name) ⊎ Declares rest name of
either (declared_here rest first) = inl refl
either (declared_later first h) = inr h

module _ (syntax : Syntax) where
  -- ---- the constants

  individual_term : (level : ℕ) → IsTerm syntax level (term_of individuals)
  individual_term level = subst (IsTerm syntax level) (sym (view_Sym (codes "I"))) (symbol_name syntax level (codes "I") (individual_name syntax))

  result_term : (kind : Kind) (level : ℕ) → IsTerm syntax level (term_of (result_of kind))
  result_term Function level = individual_term level
  result_term Predicate level = subst (IsTerm syntax level) (sym (view_Sym (codes "Prop"))) (symbol_name syntax level (codes "Prop") (proposition_name syntax))

  type_term : (arity : ℕ) (kind : Kind) (level : ℕ) → IsTerm syntax level (term_of (function_type arity (result_of kind)))
  type_term zero kind level = result_term kind level
  type_term (suc arity) kind level =
      let more : suc arity ≡ arity + 1 = omega arith in
      let same = ap (λ n. term_of (function_type n (result_of kind))) more ∙ ap term_of (function_type-more arity kind) ∙ view_Pi individuals (function_type arity (result_of kind)) in
      subst (IsTerm syntax level) (sym same) (product syntax level _ _ (individual_term level) (type_term arity kind (level + 1)))

  constants : (symbols : List SymKey) → AllByRecursion HasName symbols → AllByRecursion (IsCommand syntax) (constants_of symbols)
  constants [] names = tt
  constants (symbol ∷ symbols) (name, names) =
      (constant syntax _ _ (identifier_name syntax symbol name) (type_term symbol.arity symbol.kind 0), constants symbols names)

  -- ---- what is declared

  -- a name that printable commands declare is one of a symbol
  named : (commands : List Command) → AllByRecursion (IsCommand syntax) commands → (name : List ℕ) (of : Term) → Declares (declarations commands) name of → IsName syntax name
  named [] all name of h = elim h [ ]
  named (command.Constant x a ∷ rest) all name of h = elim (either h) [ inl same ↦ subst (IsName syntax) (sym same) (name_of syntax (command.Constant x a) all.0) | inr later ↦ named rest all.1 name of later ]
  named (command.Symbol x a ∷ rest) all name of h = elim (either h) [ inl same ↦ subst (IsName syntax) (sym same) (name_of syntax (command.Symbol x a) all.0) | inr later ↦ named rest all.1 name of later ]
  named (command.Define x a t ∷ rest) all name of h = elim (either h) [ inl same ↦ subst (IsName syntax) (sym same) (name_of syntax (command.Define x a t) all.0) | inr later ↦ named rest all.1 name of later ]
  named (command.Rule a t ∷ rest) all name of h = named rest all.1 name of h

  -- ---- the development

  module _ (problem : Problem) (development : Dev) (proof : IsProofOf problem development) (printed : IsPrinted problem development) where
    front : All (IsCommand syntax) (prelude ++ constants_of problem.symbols)
    front =
        All-append (IsCommand syntax) prelude (constants_of problem.symbols) (prelude_commands syntax)
        (All-from_recursion (IsCommand syntax) (constants_of problem.symbols) (constants problem.symbols (recursion_from_All HasName problem.symbols printed.names)))

    names : (name : List ℕ) (of : Term) → Declares (signature_for problem) name of → IsName syntax name
    names = named (prelude ++ constants_of problem.symbols) (recursion_from_All (IsCommand syntax) (prelude ++ constants_of problem.symbols) front)

    goal_command : IsCommand syntax (command.Define (codes "goal") (goal_type_of problem) proof.body)
    goal_command =
        definition syntax (codes "goal") (goal_type_of problem) proof.body (goal_name syntax)
        (declared_term syntax (signature_for problem) (term_of (goal_type_of problem)) names (typed_below proof.sorted) proof.type_declared)
        (declared_term syntax (signature_for problem) (term_of proof.body) names proof.closed proof.body_declared)

    pub all_printable : All (IsCommand syntax) development.commands
    all_printable =
        subst (All (IsCommand syntax)) (sym proof.commands)
        (All-append (IsCommand syntax) (prelude ++ constants_of problem.symbols) (command.Define (codes "goal") (goal_type_of problem) proof.body ∷ []) front
        (All-from_recursion (IsCommand syntax) (command.Define (codes "goal") (goal_type_of problem) proof.body ∷ []) (goal_command, tt)))

pub read_alone : (syntax : Syntax) (problem : Problem) (development : Dev) → IsProofOf problem development → IsPrinted problem development → IsReadAlone syntax (text_in syntax development) development
read_alone Lambdapi problem development proof printed =
    let all = all_printable Lambdapi problem development proof printed in
    record { read = lp_prints.print_is_read development all printed.places; alone = λ other reads. lp_prints.print_is_read_alone development other all printed.places reads }
read_alone Dedukti problem development proof printed =
    let all = all_printable Dedukti problem development proof printed in
    record { read = dk_prints.print_is_read development all printed.places; alone = λ other reads. dk_prints.print_is_read_alone development other all printed.places reads }
