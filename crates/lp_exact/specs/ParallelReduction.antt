-- Parallel reduction: many steps at once, and all of them (superdevelopments).
use Rattle.std.specs.Prelude.{ℕ, List}
use Rattle.lp_term.specs.LambdaPi.{Term, type, kind, con, pat, var, app, lam, pi, instantiate}
use Rattle.lp_term.specs.Connectives.{proof_of}
use Rattle.lp_term.specs.Conversion.{Rewrites}
use Rattle.lp_exact.specs.declared.word.Word.{Word}
use Rattle.lp_exact.specs.declared.word.Word.TheVariants.{Prf}
use Rattle.lp_exact.specs.Words.{word_of}
use Rattle.lp_exact.specs.Layers.{applied_to_bound, layer_of}

-- one step at the root
pub data RootStep : Term → Term → Type 0 where
  root_beta : (a t u : Term) → RootStep (app (lam a t) u) (instantiate t u)
  root_rule : {t u : Term} → Rewrites t u → RootStep t u

-- many steps at once: the parts first, and then perhaps one at the root
pub data ParallelStep : Term → Term → Type 0 where
  parallel_type : ParallelStep type type
  parallel_kind : ParallelStep kind kind
  parallel_con : (s : List ℕ) → ParallelStep (con s) (con s)
  parallel_pat : (x : List ℕ) → ParallelStep (pat x) (pat x)
  parallel_var : (n : ℕ) → ParallelStep (var n) (var n)
  parallel_app : {t t' u u' : Term} → ParallelStep t t' → ParallelStep u u' → ParallelStep (app t u) (app t' u')
  parallel_lam : {a a' t t' : Term} → ParallelStep a a' → ParallelStep t t' → ParallelStep (lam a t) (lam a' t')
  parallel_pi : {a a' b b' : Term} → ParallelStep a a' → ParallelStep b b' → ParallelStep (pi a b) (pi a' b')
  parallel_reduced : {t t' u u' v : Term} → ParallelStep t t' → ParallelStep u u' → RootStep (app t' u') v → ParallelStep (app t u) v

-- any number of parallel steps
pub data ParallelSteps : Term → Term → Type 0 where
  no_parallel : (t : Term) → ParallelSteps t t
  parallel_then : {t u v : Term} → ParallelStep t u → ParallelSteps u v → ParallelSteps t v

-- `Prf` of a term, by its rule if it has one
abbrev pub developed_proof : Term → Term
developed_proof u = layer_of applied_to_bound u (proof_of u)

-- an application of a symbol, by its rule if there is one
abbrev pub developed_symbol : Word → List ℕ → Term → Term
developed_symbol Prf x u = developed_proof u
developed_symbol w x u = app (con x) u

-- an application, by one step at the root if there is one
abbrev pub developed_application : Term → Term → Term
developed_application (lam a t) u = instantiate t u
developed_application (con x) u = developed_symbol (word_of x) x u
developed_application t u = app t u

-- a term with all its steps taken at once, the parts before the root
abbrev pub developed : Term → Term
developed type = type
developed kind = kind
developed (con s) = con s
developed (pat x) = pat x
developed (var n) = var n
developed (app t u) = developed_application (developed t) (developed u)
developed (lam a t) = lam (developed a) (developed t)
developed (pi a b) = pi (developed a) (developed b)
