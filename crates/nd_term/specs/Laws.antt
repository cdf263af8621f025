-- The proof terms have their types in each signature that has the prelude.
use Rattle.std.specs.Prelude.{ℕ, Bool, true, false, List, [], ◌∷◌, ◌++◌}
use Rattle.lp_term.specs.LambdaPi.{Term}
use Rattle.lp_term.specs.Connectives.{bot, individuals, proof_of, propositions}
use Rattle.lp_term.specs.Typing.{Declaration, HasType}
use Rattle.lp_term.specs.Signature.{Extends}
use Rattle.nd_term.specs.Formulas.{Formula, GroundTerm, Literal, literal}
use Rattle.nd_term.specs.Translation.{sentence, signed, translated_at}
use Rattle.nd_term.specs.Symbols.{FormulaOver, GroundOver}
use Rattle.nd_term.specs.Eigenvariables.{Eigenvariable}
use Rattle.nd_term.specs.ThinTrees.{Fits, ThinTree}
use Rattle.nd_term.specs.Consumers.{consumer}
use Rattle.nd_term.specs.Drinkers.{negative_drinker, negative_drinker_type, positive_drinker, positive_drinker_type}
use Rattle.nd_term.specs.Instances.{Chosen, clause_type, resolution_proof, subsumption_proof}
use Rattle.nd_term.specs.Bindings.{Bindings, Covers, LiteralProofs}

-- the translation of a closed formula is a proposition
abbrev pub SentenceTyped : Type 0
SentenceTyped = (sig : List Declaration) (g : List Term) (f : Formula) → Extends sig → FormulaOver sig f → HasType sig g (sentence f) propositions

-- the two drinker terms have their types
abbrev pub PositiveDrinkerTyped : Type 0
PositiveDrinkerTyped = (sig : List Declaration) (g : List Term) → Extends sig → HasType sig g positive_drinker positive_drinker_type

abbrev pub NegativeDrinkerTyped : Type 0
NegativeDrinkerTyped = (sig : List Declaration) (g : List Term) → Extends sig → HasType sig g negative_drinker negative_drinker_type

-- from a proof of a signed formula through which a thin tree passes, the consumer proves falsity
abbrev pub ConsumerTyped : Type 0
ConsumerTyped = (sig : List Declaration) (es : List Eigenvariable) (g : List Term) (b : Bool) (f : Formula) (s : ℕ → GroundTerm) (tree : ThinTree) (c : List Literal) (x w : ℕ → Term) (lv : List Term) (t : Term)
    → Extends sig → Fits sig es b f s tree c → FormulaOver sig f → ((n : ℕ) → GroundOver sig individuals 0 (s n)) → Bindings sig es g x w → Covers sig g x c lv
    → HasType sig g t (proof_of (signed b (translated_at x s f))) → HasType sig g (consumer f b tree s x w lv t) (proof_of bot)

-- a parent's proof at the picked variables proves falsity
abbrev pub SubsumptionTyped : Type 0
SubsumptionTyped = (sig : List Declaration) (g : List Term) (x : ℕ → Term) (d m : List Literal) (lv : List Term) (ks : List ℕ) (t : Term)
    → Extends sig → HasType sig g t (clause_type x m) → LiteralProofs sig g x d lv → Chosen d m ks → HasType sig g (subsumption_proof t lv ks) (proof_of bot)

-- two parents' proofs, whose picks are of the clause and the pivot, prove falsity
abbrev pub ResolutionTyped : Type 0
ResolutionTyped = (sig : List Declaration) (g : List Term) (x : ℕ → Term) (d m n : List Literal) (lv : List Term) (ks ls : List ℕ) (t u : Term) (a : GroundTerm)
    → Extends sig → ((k : ℕ) → HasType sig g (x k) individuals) → GroundOver sig propositions 0 a
    → HasType sig g t (clause_type x m) → HasType sig g u (clause_type x n) → LiteralProofs sig g x d lv
    → Chosen (d ++ literal true a ∷ []) m ks → Chosen (d ++ literal false a ∷ []) n ls → HasType sig g (resolution_proof x t u lv ks ls a) (proof_of bot)
