-- The terms of the lambda-Pi-calculus modulo rewriting, with variables counted by binders, and substitution.
use Rattle.std.specs.Prelude.{ℕ, zero, suc, List}

pub data Term : Type 0 where
  type : Term
  kind : Term
  con : List ℕ → Term
  pat : List ℕ → Term
  var : ℕ → Term
  app : Term → Term → Term
  lam : Term → Term → Term
  pi : Term → Term → Term

-- a renaming under a binder
abbrev pub under_renaming : (ℕ → ℕ) → ℕ → ℕ
under_renaming r zero = zero
under_renaming r (suc n) = suc (r n)

-- the variables renamed
abbrev pub rename : (ℕ → ℕ) → Term → Term
rename r type = type
rename r kind = kind
rename r (con s) = con s
rename r (pat s) = pat s
rename r (var n) = var (r n)
rename r (app t u) = app (rename r t) (rename r u)
rename r (lam a b) = lam (rename r a) (rename (under_renaming r) b)
rename r (pi a b) = pi (rename r a) (rename (under_renaming r) b)

-- one binder more around a term
abbrev pub shift : Term → Term
shift t = rename (λ n. suc n) t

-- a substitution under a binder
abbrev pub under_binder : (ℕ → Term) → ℕ → Term
under_binder s zero = var zero
under_binder s (suc n) = shift (s n)

-- each variable replaced
abbrev pub substitute : (ℕ → Term) → Term → Term
substitute s type = type
substitute s kind = kind
substitute s (con x) = con x
substitute s (pat x) = pat x
substitute s (var n) = s n
substitute s (app t u) = app (substitute s t) (substitute s u)
substitute s (lam a b) = lam (substitute s a) (substitute (under_binder s) b)
substitute s (pi a b) = pi (substitute s a) (substitute (under_binder s) b)

-- u for variable 0, and each other variable one lower
abbrev pub for_last : Term → ℕ → Term
for_last u zero = u
for_last u (suc n) = var n

-- u for the variable of that number, below as many binders, and each variable above it one lower
abbrev pub for_place : Term → ℕ → ℕ → Term
for_place u zero = for_last u
for_place u (suc place) = under_binder (for_place u place)

abbrev pub instantiate : Term → Term → Term
instantiate t u = substitute (for_last u) t
