-- What the judgement finds is a type.
use Rattle.std.proofs.Common.{ℕ, List, ◌∷◌}
use Rattle.lp_term.specs.Conversion.{conv_refl, conv_sym, conv_pi}
use Rattle.lp_term.specs.LambdaPi.{Term, type, pi}
use Rattle.lp_term.specs.Typing.{Declaration, Declares, sort_type, HasType, has_var, has_con, has_pi, has_lam, has_app, has_conv}
use Rattle.lp_term.proofs.ConnectiveRules.{closed_of, prop_type, prf_type}
use Rattle.lp_term.proofs.QuantifierRules.{i_type}
use Rattle.lp_term.proofs.TypingLaws.{types_instantiate}
use Rattle.lp_kernel.specs.Judgement.{IsChecked, checked_individuals, checked_propositions, checked_pi, checked_proof, HasNormalType, found_var, found_con, found_lam, found_let, found_app}
use Rattle.lp_exact.specs.Symbols.{IsTermWord}
use Rattle.lp_exact.specs.Reduction.{HasNormalForm}
use Rattle.lp_exact.specs.Words.{word_of}
use Rattle.lp_exact.specs.ParallelReduction.{no_parallel}
use Rattle.lp_exact.proofs.ConfluenceLaws.{parallels_convert, parallels_pi}
use Rattle.lp_exact.proofs.DegreeLaws.{sorts_convert}
use Rattle.lp_exact.proofs.NormalFormLaws.{reduces_parallels}
use Rattle.lp_exact.specs.Signatures.{IsWellFormedContext, IsWellFormedSignature}
use Rattle.lp_exact.proofs.StepLaws.{parallels_reduce}
use Rattle.lp_exact.proofs.SubjectLaws.{context_extends, reduct_typed}
use Rattle.lp_exact.proofs.UniquenessLaws.{generation_pi}

module _ {sig : List Declaration} (w : IsWellFormedSignature sig) (objects : (g : List Term) (x : List ℕ) (a : Term) → IsTermWord (word_of x) → Declares sig x a → HasType sig g a type) where
  -- a type's normal form is a type, and of the same terms
  normal_type : {g : List Term} {a n : Term} → IsWellFormedContext sig g → HasNormalForm a n → HasType sig g a type → HasType sig g n type
  normal_type f k h = reduct_typed w f h k.reached

  normal_of : {g : List Term} {t a n : Term} → IsWellFormedContext sig g → HasNormalForm a n → HasType sig g a type → HasType sig g t a → HasType sig g t n
  normal_of f k h l = has_conv sort_type l (parallels_convert (reduces_parallels k.reached)) h (normal_type f k h)

  pub from_normal : {g : List Term} {t a n : Term} → IsWellFormedContext sig g → HasNormalForm a n → HasType sig g a type → HasType sig g t n → HasType sig g t a
  from_normal f k h l = has_conv sort_type l (conv_sym (parallels_convert (reduces_parallels k.reached))) (normal_type f k h) h

  pi_parts : {g : List Term} {a b : Term} → HasType sig g (pi a b) type → HasType sig g a type × HasType sig (a ∷ g) b type
  pi_parts h = let r = generation_pi h in (r.2, rw (sorts_convert r.1 sort_type r.4) at r.3)

  mutual
    pub checked_is_typed : {g : List Term} {a : Term} → IsChecked sig g a → IsWellFormedContext sig g → HasType sig g a type
    checked_is_typed (checked_individuals g) f = i_type sig w.extends g
    checked_is_typed (checked_propositions g) f = prop_type sig w.extends g
    checked_is_typed (checked_pi h k) f = let i = checked_is_typed h f in has_pi sort_type i (checked_is_typed k (context_extends w f i))
    checked_is_typed (checked_proof h) f = prf_type sig w.extends (found_is_typed h f).0

    pub found_is_typed : {g : List Term} {t a : Term} → HasNormalType sig g t a → IsWellFormedContext sig g → HasType sig g t a × HasType sig g a type
    found_is_typed (found_var {n = n} {a = a} h k) f = let i = f.typed n a h in (normal_of f k i (has_var h), normal_type f k i)
    found_is_typed (found_con g {s = x} {a = a} c h k) f = let i = objects g x a c h in (normal_of f k i (has_con g h), normal_type f k i)
    found_is_typed (found_lam c k h o) f =
        let i = checked_is_typed c f in
        let j = found_is_typed h (context_extends w f i) in
        let p = has_pi sort_type i j.1 in
        let q = reduct_typed w f p (parallels_reduce (parallels_pi (reduces_parallels k.reached) (no_parallel _))) in
        (has_conv sort_type (has_lam sort_type p j.0) (conv_pi (parallels_convert (reduces_parallels k.reached)) (conv_refl _)) p q, q)
    found_is_typed (found_let c k h l n o) f =
        let i = checked_is_typed c f in
        let j = found_is_typed l (context_extends w f i) in
        let u = from_normal f k i (found_is_typed h f).0 in
        let b = types_instantiate (closed_of w.extends) j.1 u in
        (normal_of f n b (has_app (has_lam sort_type (has_pi sort_type i j.1) j.0) u), normal_type f n b)
    found_is_typed (found_app h k n o) f =
        let i = found_is_typed h f in
        let u = (found_is_typed k f).0 in
        let b = types_instantiate (closed_of w.extends) (pi_parts i.1).1 u in
        (normal_of f n b (has_app i.0 u), normal_type f n b)
