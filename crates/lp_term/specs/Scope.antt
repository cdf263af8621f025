-- Which variables are free in a term, and which symbols stand in it.
use Rattle.std.specs.Prelude.{ℕ, suc, ◌<◌, List}
use Rattle.lp_term.specs.LambdaPi.{Term, app, con, kind, lam, pat, pi, type, var}
use Rattle.lp_term.specs.Typing.{Declaration, Declares}

-- each free variable of a term is below the number
pub data VariablesBelow : ℕ → Term → Type 0 where
  below_type : (n : ℕ) → VariablesBelow n type
  below_kind : (n : ℕ) → VariablesBelow n kind
  below_con : (n : ℕ) (s : List ℕ) → VariablesBelow n (con s)
  below_pat : (n : ℕ) (s : List ℕ) → VariablesBelow n (pat s)
  below_var : (n k : ℕ) → k < n → VariablesBelow n (var k)
  below_app : {n : ℕ} {t u : Term} → VariablesBelow n t → VariablesBelow n u → VariablesBelow n (app t u)
  below_lam : {n : ℕ} {a t : Term} → VariablesBelow n a → VariablesBelow (suc n) t → VariablesBelow n (lam a t)
  below_pi : {n : ℕ} {a b : Term} → VariablesBelow n a → VariablesBelow (suc n) b → VariablesBelow n (pi a b)

-- each symbol of a term is declared
pub data Declared (sig : List Declaration) : Term → Type 0 where
  declared_type : Declared sig type
  declared_var : (k : ℕ) → Declared sig (var k)
  declared_con : {s : List ℕ} {a : Term} → Declares sig s a → Declared sig (con s)
  declared_app : {t u : Term} → Declared sig t → Declared sig u → Declared sig (app t u)
  declared_lam : {a t : Term} → Declared sig a → Declared sig t → Declared sig (lam a t)
  declared_pi : {a b : Term} → Declared sig a → Declared sig b → Declared sig (pi a b)
