-- The developments that the type checker accepts, and those whose goal has its type.
use Rattle.std.specs.Prelude.{ℕ, ◌≡◌, ◌≢◌, ◌⊎◌, List, [], ◌∷◌, ◌++◌}
use Rattle.lp_term.specs.Connectives.{individuals}
use Rattle.lp_term.specs.LambdaPi.{Term, con, pi}
use Rattle.lp_term.specs.Names.{i_name, prop_name}
use Rattle.lp_term.specs.Prelude.{prelude}
use Rattle.lp_term.specs.Signature.{declaration, declarations, prelude_declarations}
use Rattle.lp_term.specs.Typing.{Declaration, Declares, HasType}
use Rattle.lp_term.specs.View.{term_of}
use Rattle.lp_term.specs.declared.command.Command.{Command}
use Rattle.lp_term.specs.declared.command.Command.TheVariants.{Constant, Define}
use Rattle.lp_term.specs.declared.lp.Lp.{Lp}
use Rattle.lp_exact.specs.Reduction.{HasNormalForm}
use Rattle.lp_exact.specs.Signatures.{HasSort}
use Rattle.lp_kernel.specs.Developments.{goal_name}
use Rattle.lp_kernel.specs.Judgement.{IsChecked, HasNormalType}

-- `I → .. → I` or `I → .. → Prop`
abbrev pub IsConstantType : Term → Type 0
IsConstantType (con x) = (x ≡ i_name) ⊎ (x ≡ prop_name)
IsConstantType (pi a b) = (a ≡ individuals) × IsConstantType b
IsConstantType t = ⊥

-- constants with types of that form, each of a name that nothing before it and no goal has
pub data AreConstantCommands : List Declaration → List Command → Type 0 where
  constants_none : (sig : List Declaration) → AreConstantCommands sig []
  constants_more : {sig : List Declaration} {x : List ℕ} {a : Lp} {rest : List Command} → ((b : Term) → Declares sig x b → ⊥) → x ≢ goal_name → IsConstantType (term_of a) → AreConstantCommands (sig ++ (declaration x (term_of a) ∷ [])) rest → AreConstantCommands sig (Constant x a ∷ rest)

-- the prelude, such constants, and last the definition of the goal with that type and body
pub record HasGoal (commands : List Command) (constants : List Command) (of body : Lp) : Type 0 where
  pub form : commands ≡ prelude ++ (constants ++ (Define goal_name of body ∷ []))
  pub symbols : AreConstantCommands prelude_declarations constants

-- the signature that the goal stands in
abbrev pub goal_signature : List Command → List Declaration
goal_signature constants = declarations (prelude ++ constants)

-- the goal's body has the normal type of the declared type, by the judgement
pub record IsAccepted (commands : List Command) : Type 0 where
  pub constants : List Command
  pub of : Lp
  pub body : Lp
  pub normal : Term
  pub goal : HasGoal commands constants of body
  pub checked : IsChecked (goal_signature constants) [] (term_of of)
  pub reduced : HasNormalForm (term_of of) normal
  pub found : HasNormalType (goal_signature constants) [] (term_of body) normal

-- the goal's type has the sort TYPE and its body that type, in the theory
pub record HasTypedGoal (commands : List Command) : Type 0 where
  pub constants : List Command
  pub of : Lp
  pub body : Lp
  pub goal : HasGoal commands constants of body
  pub sorted : HasSort (goal_signature constants) [] (term_of of)
  pub typed : HasType (goal_signature constants) [] (term_of body) (term_of of)
