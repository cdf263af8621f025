-- What is written is a proof of the problem.
use Rattle.std.specs.Prelude.{◌≡◌, List, [], ◌∷◌, ◌++◌, ℕ, None, Some, Ok, codes}
use Rattle.std.specs.Io.KnownBytes.{Appends}
use Rattle.dk_io.specs.Outside.{Told}
use Rattle.dk_syntax.specs.declared.Problem.{Problem}
use Rattle.lp_term.specs.LambdaPi.{type}
use Rattle.lp_term.specs.Prelude.{prelude}
use Rattle.lp_term.specs.Problems.{constants_of, goal_type_of}
use Rattle.lp_term.specs.Scope.{Declared, VariablesBelow}
use Rattle.lp_term.specs.Signature.{declarations}
use Rattle.lp_term.specs.Typing.{Declaration, HasType}
use Rattle.lp_term.specs.View.{term_of}
use Rattle.lp_term.specs.declared.Command.TheVariants.{Define}
use Rattle.lp_term.specs.declared.Dev.{Dev}
use Rattle.lp_term.specs.declared.Lp.{Lp}
use Rattle.words.specs.Commands.{Names}
use Rattle.dk_cli.specs.Delivery.{Change}
use Rattle.dk_cli.specs.Derivations.{IsProblemIn}
use Rattle.dk_cli.specs.Syntaxes.{ReadsIn, text_in}
use Rattle.dk_cli.specs.declared.syntax.Syntax.{Syntax}

-- The signature of a development for the problem: what its commands before `goal` declare.
abbrev pub signature_for : Problem → List Declaration
signature_for problem = declarations (prelude ++ constants_of problem.symbols)

-- The development is for the problem, and its `goal` has the problem's type.
pub record IsProofOf (problem : Problem) (development : Dev) : Type 0 where
  -- the body of `goal`
  pub body : Lp
  -- the prelude, one constant for each symbol of the problem by first occurrence, and the one definition `goal`
  pub commands : development.commands ≡ prelude ++ constants_of problem.symbols ++ Define (codes "goal") (goal_type_of problem) body ∷ []
  -- the problem's type is a type, in the signature of the commands before `goal` and the empty context
  pub sorted : HasType (signature_for problem) [] (term_of (goal_type_of problem)) type
  -- the body has the problem's type, there too
  pub typed : HasType (signature_for problem) [] (term_of body) (term_of (goal_type_of problem))
  -- no variable is free in the body
  pub closed : VariablesBelow 0 (term_of body)
  -- each symbol in the type and in the body is one of the prelude's or one of the problem's
  pub type_declared : Declared (signature_for problem) (term_of (goal_type_of problem))
  pub body_declared : Declared (signature_for problem) (term_of body)

-- The bytes are read in the syntax as this development, and as no other.
pub record IsReadAlone (syntax : Syntax) (text : List ℕ) (development : Dev) : Type 0 where
  pub read : ReadsIn syntax text development
  pub alone : (other : Dev) → ReadsIn syntax text other → other ≡ development

-- The text is that of a proof of the problem, in the syntax.
pub record IsProofText (syntax : Syntax) (problem : Problem) (text : List ℕ) : Type 0 where
  -- the one development that the text is read as
  pub development : Dev
  pub is_read : IsReadAlone syntax text development
  -- its canonical text is this one
  pub canonical : text ≡ text_in syntax development
  -- it is for the problem, and its `goal` has the problem's type
  pub is_proof : IsProofOf problem development

-- Where the inputs tell their bytes, the sink has one text more, and it is that of a proof of the problem that
-- the bytes of the problem's file are.
abbrev pub WritesProof : Syntax → Told → Names → Change → Type 0
WritesProof syntax None names out = Unit {0}
WritesProof syntax (Some files) names out = (bytes : List ℕ) × (files names.problem ≡ Some bytes)
    × ((problem : Problem) × IsProblemIn bytes (Ok problem)
    × ((text : List ℕ) × IsProofText syntax problem text × Appends out.old out.new text))
