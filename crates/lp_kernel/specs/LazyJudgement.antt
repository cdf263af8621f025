-- The same judgement as the program goes: over lazy types, and with each object's normal form. Of proofs no form is made.
use Rattle.std.specs.Prelude.{ℕ, suc, List, ◌∷◌, ◌≡◌, Option, Some, None}
use Rattle.lp_term.specs.LambdaPi.{Term, type, con, var, app, lam, pi}
use Rattle.lp_term.specs.Connectives.{individuals, propositions, proof_of}
use Rattle.lp_term.specs.Typing.{Declaration, Declares, Gives}
use Rattle.lp_exact.specs.Words.{word_of}
use Rattle.lp_exact.specs.Layers.{opened}
use Rattle.lp_exact.specs.LazyTypes.{full}
use Rattle.lp_exact.specs.Normalisation.{put_at, apply_at}
use Rattle.lp_exact.specs.Objects.{Simple, simple_size, simple_of}
use Rattle.lp_kernel.specs.Judgement.{IsAllowed}
use Rattle.lp_exact.specs.Symbols.{IsTermWord}

-- the size of an argument's type, where it is an object
abbrev pub rank_of : Option Simple → ℕ
rank_of None = 0
rank_of (Some a) = simple_size a

-- a value where it is an object, by its simple type; of a proof nothing is kept
abbrev pub kept : Option Simple → Term → Term
kept (Some a) v = v
kept None v = type

mutual
  -- a type of the fragment with its lazy type
  pub data HasLazyForm (sig : List Declaration) : List Term → Term → Term → Type 0 where
    form_individuals : (d : List Term) → HasLazyForm sig d individuals individuals
    form_propositions : (d : List Term) → HasLazyForm sig d propositions propositions
    form_pi : {d : List Term} {a b x y : Term} → HasLazyForm sig d a x → HasLazyForm sig (x ∷ d) b y → HasLazyForm sig d (pi a b) (pi x y)
    form_proof : {d : List Term} {o e v : Term} → HasLazyType sig d o e v → full e ≡ propositions → HasLazyForm sig d (proof_of o) (proof_of v)

  -- a term with its lazy type, and with its normal form where it is an object
  pub data HasLazyType (sig : List Declaration) : List Term → Term → Term → Term → Type 0 where
    lazy_var : {d : List Term} {n : ℕ} {a : Term} → Gives d n a → HasLazyType sig d (var n) a (var n)
    lazy_con : (d : List Term) {s : List ℕ} {a : Term} → IsTermWord (word_of s) → Declares sig s a → HasLazyType sig d (con s) a (con s)
    lazy_lam : {d : List Term} {a b x t v : Term} → HasLazyForm sig d a x → HasLazyType sig (x ∷ d) t b v → IsAllowed (simple_of x) (simple_of b) → HasLazyType sig d (lam a t) (pi x b) (lam x v)
    lazy_let : {d : List Term} {a b e x t u v w : Term} → HasLazyForm sig d a x → HasLazyType sig d u e w → full e ≡ full x → HasLazyType sig (x ∷ d) t b v → IsAllowed (simple_of x) (simple_of b) → HasLazyType sig d (app (lam a t) u) (put_at (rank_of (simple_of x)) w b) (kept (simple_of b) (put_at (rank_of (simple_of x)) w v))
    lazy_app : {d : List Term} {a b c e t u v w : Term} → HasLazyType sig d t c v → opened c ≡ pi a b → HasLazyType sig d u e w → full e ≡ full a → IsAllowed (simple_of a) (simple_of b) → HasLazyType sig d (app t u) (put_at (rank_of (simple_of a)) w b) (kept (simple_of b) (apply_at (suc (rank_of (simple_of a))) v w))
