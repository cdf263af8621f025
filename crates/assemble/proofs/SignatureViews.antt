-- The signature of the prelude and the constants of symbols.
use Rattle.std.proofs.Common.{◌≡◌, List, [], ◌∷◌, ◌++◌, map, refl, ap, ap₂, ◌∙◌}
use Rattle.dk_syntax.specs.declared.Kind.{Kind}
use Rattle.dk_syntax.specs.declared.Kind.TheVariants.{Function, Predicate}
use Rattle.dk_syntax.specs.declared.SymKey.{SymKey}
use Rattle.lp_term.specs.Identifiers.{identifier_of}
use Rattle.lp_term.specs.Names.{i_name, prop_name}
use Rattle.lp_term.specs.Prelude.{prelude}
use Rattle.lp_term.specs.Problems.{constants_of, result_of, symbol_type_of}
use Rattle.lp_term.specs.Signature.{declaration, declarations}
use Rattle.lp_term.specs.View.{term_of}
use Rattle.lp_term.specs.declared.Command.{Command}
use Rattle.lp_term.specs.declared.Command.TheVariants.{Constant, Symbol, Define, Rule}
use Rattle.lp_term.proofs.ViewLaws.{view_Sym}
use Rattle.nd_term.specs.Symbols.{function_type as theory_function_type}
use Rattle.nd_term.proofs.OverLaws.{view_function_type}
use Rattle.assemble.specs.Problem.{declarations_of, gives_proposition, problem_signature, result_type, theory_symbol}

declarations-append : (some others : List Command) → declarations (some ++ others) ≡ declarations some ++ declarations others
declarations-append [] others = refl
declarations-append (Constant name type ∷ rest) others = ap (λ l. declaration name (term_of type) ∷ l) (declarations-append rest others)
declarations-append (Symbol name type ∷ rest) others = ap (λ l. declaration name (term_of type) ∷ l) (declarations-append rest others)
declarations-append (Define name type body ∷ rest) others = ap (λ l. declaration name (term_of type) ∷ l) (declarations-append rest others)
declarations-append (Rule left right ∷ rest) others = declarations-append rest others

view_result : (kind : Kind) → term_of (result_of kind) ≡ result_type (gives_proposition kind)
view_result Function = view_Sym i_name
view_result Predicate = view_Sym prop_name

-- the type of a symbol
pub view_symbol_type : (one : SymKey) → term_of (symbol_type_of one) ≡ theory_function_type one.arity (result_type (gives_proposition one.kind))
view_symbol_type one = view_function_type one.arity (result_of one.kind) (result_type (gives_proposition one.kind)) (view_result one.kind)

constants_declare : (symbols : List SymKey) → declarations (constants_of symbols) ≡ declarations_of (map theory_symbol symbols)
constants_declare [] = refl
constants_declare (one ∷ rest) = ap₂ (λ type l. declaration (identifier_of one) type ∷ l) (view_symbol_type one) (constants_declare rest)

pub view_signature : (symbols : List SymKey) → declarations (prelude ++ constants_of symbols) ≡ problem_signature symbols
view_signature symbols = declarations-append prelude (constants_of symbols) ∙ ap (λ l. declarations prelude ++ l) (constants_declare symbols)
