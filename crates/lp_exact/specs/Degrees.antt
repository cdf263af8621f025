-- Degrees tell objects, types and kinds apart in terms that need not be typed.
use Rattle.std.specs.Prelude.{ℕ, suc, List, ◌≡◌}
use Rattle.lp_term.specs.LambdaPi.{Term, type, kind, con, pat, var, app, lam, pi}
use Rattle.lp_term.specs.Typing.{Declaration, Declares, Gives}
use Rattle.lp_exact.specs.declared.word.Word.{Word}
use Rattle.lp_exact.specs.declared.word.Word.TheVariants.{Individuals, Propositions, Prf}
use Rattle.lp_exact.specs.Words.{word_of}

-- `I`, `Prop` and `Prf` make types
abbrev pub word_degree : Word → ℕ
word_degree Individuals = 1
word_degree Propositions = 1
word_degree Prf = 1
word_degree w = 0

abbrev pub symbol_degree : List ℕ → ℕ
symbol_degree x = word_degree (word_of x)

-- 0 for an object or a proof, 1 for a type or a family, 2 for what has KIND, 3 for KIND
abbrev pub degree : Term → ℕ
degree type = 2
degree kind = 3
degree (con s) = symbol_degree s
degree (pat s) = 0
degree (var n) = 0
degree (app t u) = degree t
degree (lam a t) = degree t
degree (pi a b) = degree b

-- each argument is an object or a proof, and each domain is a type
abbrev pub IsGraded : Term → Type 0
IsGraded type = Unit {0}
IsGraded kind = Unit {0}
IsGraded (con s) = Unit {0}
IsGraded (pat s) = Unit {0}
IsGraded (var n) = Unit {0}
IsGraded (app t u) = IsGraded t × IsGraded u × (degree u ≡ 0)
IsGraded (lam a t) = IsGraded a × IsGraded t × (degree a ≡ 1)
IsGraded (pi a b) = IsGraded a × IsGraded b × (degree a ≡ 1)

-- each declared type is graded, and one degree above its symbol
pub record IsGradedSignature (sig : List Declaration) : Type 0 where
  pub grades : (x : List ℕ) (a : Term) → Declares sig x a → IsGraded a × (degree a ≡ suc (symbol_degree x))

-- each type of the context is graded, and the type of an object or a proof
pub record IsGradedContext (g : List Term) : Type 0 where
  pub grades : (n : ℕ) (a : Term) → Gives g n a → IsGraded a × (degree a ≡ 1)
