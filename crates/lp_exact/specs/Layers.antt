-- `Prf` of a term, one layer on, by the nine rules.
use Rattle.lp_term.specs.LambdaPi.{Term, con, var, app, lam, pi, shift}
use Rattle.lp_term.specs.Connectives.{arrow, individuals, propositions, proof_of, bot}
use Rattle.lp_exact.specs.declared.word.Word.{Word}
use Rattle.lp_exact.specs.declared.word.Word.TheVariants.{Prf, Imp, And, Or, Iff, Not, Top, Bot, All, Ex}
use Rattle.lp_exact.specs.Words.{word_of}

-- a function one binder further in, at the variable of that binder
abbrev pub applied_to_bound : Term → Term
applied_to_bound f = app (shift f) (var 0)

-- the same, reduced at its root
abbrev pub body_of : Term → Term
body_of (lam a t) = t
body_of f = app (shift f) (var 0)

-- ---- the right sides of the nine rules

abbrev pub layer_of_bot : Term
layer_of_bot = pi propositions (proof_of (var 0))

abbrev pub layer_of_top : Term
layer_of_top = pi propositions (arrow (proof_of (var 0)) (proof_of (var 0)))

abbrev pub layer_of_not : Term → Term
layer_of_not p = arrow (proof_of p) (proof_of bot)

-- of a quantifier, from the body of its argument below the bound individual
abbrev pub layer_of_all : Term → Term
layer_of_all b = pi individuals (proof_of b)

-- the same, one binder further in
abbrev pub layer_of_ex : Term → Term
layer_of_ex b = pi propositions (arrow (pi individuals (arrow (proof_of b) (proof_of (var 1)))) (proof_of (var 0)))

abbrev pub layer_of_imp : Term → Term → Term
layer_of_imp p q = arrow (proof_of p) (proof_of q)

abbrev pub layer_of_and : Term → Term → Term
layer_of_and p q = pi propositions (arrow (arrow (proof_of (shift p)) (arrow (proof_of (shift q)) (proof_of (var 0)))) (proof_of (var 0)))

abbrev pub layer_of_or : Term → Term → Term
layer_of_or p q = pi propositions (arrow (arrow (proof_of (shift p)) (proof_of (var 0))) (arrow (arrow (proof_of (shift q)) (proof_of (var 0))) (proof_of (var 0))))

-- `Prf p → Prf q`, one binder further in
abbrev pub imp_raised : Term → Term → Term
imp_raised p q = arrow (proof_of (shift p)) (proof_of (shift q))

abbrev pub layer_of_iff : Term → Term → Term
layer_of_iff p q = pi propositions (arrow (arrow (imp_raised p q) (arrow (imp_raised q p) (proof_of (var 0)))) (proof_of (var 0)))

-- ---- the layer of a word at its arguments

-- `Prf` of a word alone, by its rule, `other` where it has none
abbrev pub layer_of_constant : Word → Term → Term
layer_of_constant Bot other = layer_of_bot
layer_of_constant Top other = layer_of_top
layer_of_constant w other = other

-- the same at one argument; a quantifier takes the body of its argument by `at`
abbrev pub layer_of_unary : (Term → Term) → Word → Term → Term → Term
layer_of_unary at Not p other = layer_of_not p
layer_of_unary at All p other = layer_of_all (at p)
layer_of_unary at Ex p other = layer_of_ex (at (shift p))
layer_of_unary at w p other = other

-- the same at two arguments
abbrev pub layer_of_binary : Word → Term → Term → Term → Term
layer_of_binary Imp p q other = layer_of_imp p q
layer_of_binary And p q other = layer_of_and p q
layer_of_binary Or p q other = layer_of_or p q
layer_of_binary Iff p q other = layer_of_iff p q
layer_of_binary w p q other = other

-- `Prf` of a term by its rule, `other` where it has none
abbrev pub layer_of : (Term → Term) → Term → Term → Term
layer_of at (con x) other = layer_of_constant (word_of x) other
layer_of at (app (con x) p) other = layer_of_unary at (word_of x) p other
layer_of at (app (app (con x) p) q) other = layer_of_binary (word_of x) p q other
layer_of at u other = other

-- the application of a word to `o`, one layer on if it is a `Prf` with a rule, else `other`
abbrev pub opened_word : Word → Term → Term → Term
opened_word Prf o other = layer_of body_of o other
opened_word w o other = other

-- a type with its first layer laid open
abbrev pub opened : Term → Term
opened (app (con x) o) = opened_word (word_of x) o (app (con x) o)
opened t = t
