-- Two types of one term are convertible.
use Rattle.std.proofs.Common.{◌≡◌, ℕ, List, ◌∷◌, refl, ap}
use Rattle.lp_term.specs.Conversion.{Convertible, conv_refl, conv_sym, conv_trans, conv_pi}
use Rattle.lp_term.specs.LambdaPi.{Term, type, kind, con, var, app, lam, pi, shift, for_last, instantiate}
use Rattle.lp_term.specs.Typing.{Declaration, Declares, Gives, given_here, given_later, IsSort, HasType, has_type, has_var, has_con, has_pi, has_lam, has_app, has_conv}
use Rattle.lp_term.proofs.ConversionLaws.{convertible_substitute}
use Rattle.lp_exact.specs.Signatures.{DeclaresOnce}
use Rattle.lp_exact.proofs.ConfluenceLaws.{pi_injective}

module _ {sig : List Declaration} where
  generation_type : {g : List Term} {c : Term} → HasType sig g type c → Convertible kind c
  generation_type (has_type g) = conv_refl kind
  generation_type (has_conv i h e l m) = conv_trans (generation_type h) e

  pub generation_var : {g : List Term} {n : ℕ} {c : Term} → HasType sig g (var n) c → (a : Term) × Gives g n a × Convertible a c
  generation_var (has_var {a = a} k) = (a, k, conv_refl a)
  generation_var (has_conv i h e l m) = let r = generation_var h in (r.0, r.1, conv_trans r.2 e)

  pub generation_con : {g : List Term} {x : List ℕ} {c : Term} → HasType sig g (con x) c → (a : Term) × Declares sig x a × Convertible a c
  generation_con (has_con g {a = a} k) = (a, k, conv_refl a)
  generation_con (has_conv i h e l m) = let r = generation_con h in (r.0, r.1, conv_trans r.2 e)

  pub generation_pi : {g : List Term} {a b c : Term} → HasType sig g (pi a b) c → (s : Term) × IsSort s × HasType sig g a type × HasType sig (a ∷ g) b s × Convertible s c
  generation_pi (has_pi {s = s} i h k) = (s, i, h, k, conv_refl s)
  generation_pi (has_conv i h e l m) = let r = generation_pi h in (r.0, r.1, r.2, r.3, conv_trans r.4 e)

  pub generation_lam : {g : List Term} {a t c : Term} → HasType sig g (lam a t) c → (b : Term) × (s : Term) × IsSort s × HasType sig g (pi a b) s × HasType sig (a ∷ g) t b × Convertible (pi a b) c
  generation_lam (has_lam {b = b} {s = s} i h k) = (b, s, i, h, k, conv_refl _)
  generation_lam (has_conv i h e l m) = let r = generation_lam h in (r.0, r.1, r.2, r.3, r.4, conv_trans r.5 e)

  pub generation_app : {g : List Term} {t u c : Term} → HasType sig g (app t u) c → (a : Term) × (b : Term) × HasType sig g t (pi a b) × HasType sig g u a × Convertible (instantiate b u) c
  generation_app (has_app {a = a} {b = b} h k) = (a, b, h, k, conv_refl _)
  generation_app (has_conv i h e l m) = let r = generation_app h in (r.0, r.1, r.2, r.3, conv_trans r.4 e)

-- a context gives a variable one type
gives_once : {g : List Term} {n : ℕ} {a b : Term} → Gives g n a → Gives g n b → a ≡ b
gives_once (given_here g a) (given_here h b) = refl
gives_once (given_later b h) (given_later c k) = ap shift (gives_once h k)

-- two types of one term are convertible
pub types_convert : {sig : List Declaration} {g : List Term} {t a b : Term} → DeclaresOnce sig → HasType sig g t a → HasType sig g t b → Convertible a b
types_convert o (has_type g) k = generation_type k
types_convert o (has_var h) k = let r = generation_var k in rw (gives_once h r.1) r.2
types_convert o (has_con g {s = x} {a = a} h) k = let r = generation_con k in rw (o.same x a r.0 h r.1) r.2
types_convert o (has_pi i h l) k = let r = generation_pi k in conv_trans (types_convert o l r.3) r.4
types_convert o (has_lam {a = a} i h l) k = let r = generation_lam k in conv_trans (conv_pi (conv_refl a) (types_convert o l r.4)) r.5
types_convert o (has_app {u = u} h l) k =
    let r = generation_app k in conv_trans (convertible_substitute (for_last u) (pi_injective (types_convert o h r.2)).1) r.4
types_convert o (has_conv i h e l m) k = conv_trans (conv_sym e) (types_convert o h k)
