-- What the judgement finds, is looked up.
use Rattle.std.proofs.Common.{◌≡◌, ℕ, suc, List, ◌∷◌, Option, Some, refl, sym, ap, ap₂, ◌∙◌, subst}
use Rattle.lp_term.specs.LambdaPi.{Term, type, kind, con, pat, var, app, lam, pi, for_last, instantiate}
use Rattle.lp_term.specs.Conversion.{Convertible, conv_refl, conv_sym}
use Rattle.lp_term.specs.Typing.{Declaration, Declares, Gives, given_here, given_later}
use Rattle.lp_term.proofs.ConversionLaws.{convertible_rename}
use Rattle.lp_exact.specs.Words.{word_of}
use Rattle.lp_exact.specs.Layers.{opened}
use Rattle.lp_exact.specs.LazyTypes.{full, in_parts}
use Rattle.lp_exact.specs.Normalisation.{put_at}
use Rattle.lp_exact.specs.Objects.{Simple, simple_of, IsNormal, IsLazy}
use Rattle.lp_exact.specs.Symbols.{AreSimpleOfWords}
use Rattle.lp_exact.specs.Reduction.{HasNormalForm}
use Rattle.lp_kernel.specs.Judgement.{IsAllowed, IsChecked, checked_individuals, checked_propositions, checked_pi, checked_proof, HasNormalType, found_var, found_con, found_lam, found_let, found_app}
use Rattle.lp_exact.specs.Symbols.{IsTermWord}
use Rattle.lp_kernel.specs.LazyJudgement.{rank_of, HasLazyForm, form_individuals, form_propositions, form_pi, form_proof, HasLazyType, lazy_var, lazy_con, lazy_lam, lazy_let, lazy_app}
use Rattle.lp_exact.proofs.NormalFormLaws.{normal_form_unique}
use Rattle.lp_exact.proofs.LazyLaws.{full_opens, full_pi}
use Rattle.lp_exact.proofs.FullTypeLaws.{full_is_normal, lazy_put, simple_of_put}
use Rattle.lp_exact.proofs.SimpleLaws.{simple_of_full}
use Rattle.lp_kernel.proofs.LazyTypeLaws.{simple_context, AreConvertible, convertible_none, convertible_more, IsLazyContext, lazy_extends, form_is_lazy, type_is_lazy, form_converts, value_put, argument_converts, function_parts, argument}

pub agree_back : {g d : List Term} {n : ℕ} {a : Term} → AreConvertible g d → Gives g n a → (x : Term) × Gives d n x × Convertible a x
agree_back convertible_none k = elim k [ ]
agree_back (convertible_more {d = d} {x = x} e h) (given_here g a) = (_, given_here d x, convertible_rename (λ n. suc n) e)
agree_back (convertible_more {x = x} e h) (given_later a k) = let r = agree_back h k in (_, given_later x r.1, convertible_rename (λ n. suc n) r.2)

-- a type whose full type is a product lies open as one
pub product_of : (t a b : Term) → in_parts full t ≡ pi a b → (x : Term) × (y : Term) × (t ≡ pi x y) × (full x ≡ a) × (full y ≡ b)
product_of (pi x y) a b e = (x, y, refl, cc, cc)
product_of type a b e = absurd cc
product_of kind a b e = absurd cc
product_of (con x) a b e = absurd cc
product_of (pat x) a b e = absurd cc
product_of (var n) a b e = absurd cc
product_of (app t u) a b e = absurd cc
product_of (lam t u) a b e = absurd cc

module _ (sig : List Declaration) (C : List ℕ → Simple → Type 0) (w : AreSimpleOfWords C) (symbols : (g : List (Option Simple)) (x : List ℕ) (a : Term) → IsTermWord (word_of x) → Declares sig x a → IsLazy C g a × ((s : Simple) → simple_of a ≡ Some s → C x s)) where
  Typing : List Term → Term → Term → Type 0
  Typing d t m = (a : Term) × (v : Term) × HasLazyType sig d t a v × (full a ≡ m)

  pub full_of : (d : List Term) {a x m : Term} → IsLazy C (simple_context d) x → Convertible a x → HasNormalForm a m → full x ≡ m
  full_of d h e k = normal_form_unique (conv_sym e) (full_is_normal C w h) k

  -- back from full types
  allowed_back : (x b m n : Term) → full x ≡ m → simple_of b ≡ simple_of n → IsAllowed (simple_of m) (simple_of n) → IsAllowed (simple_of x) (simple_of b)
  allowed_back x b m n e h o = rw (sym (simple_of_full x) ∙ ap simple_of e, h) o

  same_full : (b n : Term) → full b ≡ n → simple_of b ≡ simple_of n
  same_full b n e = sym (simple_of_full b) ∙ ap simple_of e

  -- the type with the argument put in, and its normal form
  put_in : (d : List Term) (x e v y b u n : Term) → full e ≡ full x → ((s : Simple) → simple_of e ≡ Some s → IsNormal C (simple_context d) v s) → IsLazy C (simple_of x ∷ simple_context d) y → ((s : Simple) → simple_of x ≡ Some s → Convertible u v) → full y ≡ b → HasNormalForm (instantiate b u) n
      → (full (put_at (rank_of (simple_of x)) v y) ≡ n) × (simple_of y ≡ simple_of n)
  put_in d x e v y b u n same h z c eb q =
      let k = rank_of (simple_of x) in
      let l = lazy_put C z k (simple_context d) (for_last v) (argument sig C w symbols d e x v same h) in
      let one = subst (λ t. HasNormalForm (instantiate t u) (full (put_at k v y))) eb (value_put sig C w symbols d y (simple_of x) z l c) in
      let two = normal_form_unique (conv_refl (instantiate b u)) one q in
      (two, sym (simple_of_put C z k (for_last v)) ∙ same_full (put_at k v y) n two)

  mutual
    pub checked_has_form : {g d : List Term} {a : Term} → IsChecked sig g a → IsLazyContext sig C w symbols d → AreConvertible g d → (x : Term) × HasLazyForm sig d a x
    checked_has_form {d = d} (checked_individuals g) f m = (_, form_individuals d)
    checked_has_form {d = d} (checked_propositions g) f m = (_, form_propositions d)
    checked_has_form (checked_pi h k) f m =
        let i = checked_has_form h f m in
        let j = checked_has_form k (lazy_extends sig C w symbols f (form_is_lazy sig C w symbols i.1 f)) (convertible_more (form_converts sig C w symbols i.1 f) m) in
        (_, form_pi i.1 j.1)
    checked_has_form (checked_proof h) f m = let i = found_has_lazy h f m in (_, form_proof i.2 i.3)

    pub found_has_lazy : {g d : List Term} {t m : Term} → HasNormalType sig g t m → IsLazyContext sig C w symbols d → AreConvertible g d → (a : Term) × (v : Term) × HasLazyType sig d t a v × (full a ≡ m)
    found_has_lazy {d = d} (found_var {n = n} h k) f m = let r = agree_back m h in (r.0, _, lazy_var r.1, full_of d (f.lazy n r.0 r.1) r.2 k)
    found_has_lazy {d = d} (found_con g {s = x} {a = a} c h k) f m = (a, _, lazy_con d c h, full_of d (symbols (simple_context d) x a c h).0 (conv_refl a) k)
    found_has_lazy {d = d} (found_lam {b = b} {m = n} c k h o) f m =
        let i = checked_has_form c f m in
        let z = form_is_lazy sig C w symbols i.1 f in
        let e = full_of d z (form_converts sig C w symbols i.1 f) k in
        let j = found_has_lazy h (lazy_extends sig C w symbols f z) (convertible_more (form_converts sig C w symbols i.1 f) m) in
        (_, _, lazy_lam i.1 j.2 (allowed_back i.0 j.0 n b e (same_full j.0 b j.3) o), full_pi i.0 j.0 ∙ ap₂ pi e j.3)
    found_has_lazy {d = d} (found_let {b = b} {m = r} {n = n} {u = u} c k h l q o) f m =
        let i = checked_has_form c f m in
        let z = form_is_lazy sig C w symbols i.1 f in
        let e = full_of d z (form_converts sig C w symbols i.1 f) k in
        let j = found_has_lazy h f m in
        let y = found_has_lazy l (lazy_extends sig C w symbols f z) (convertible_more (form_converts sig C w symbols i.1 f) m) in
        let same = j.3 ∙ sym e in
        let zb = (type_is_lazy sig C w symbols y.2 (lazy_extends sig C w symbols f z)).0 in
        let p = put_in d i.0 j.0 j.1 y.0 b u n same (type_is_lazy sig C w symbols j.2 f).1 zb (argument_converts sig C w symbols i.0 j.2 f same) y.3 q in
        (_, _, lazy_let i.1 j.2 same y.2 (allowed_back i.0 y.0 r n e p.1 o), p.0)
    found_has_lazy {d = d} (found_app {a = a} {b = b} {n = n} {u = u} h k q o) f m =
        let i = found_has_lazy h f m in
        let j = found_has_lazy k f m in
        let r = product_of (opened i.0) a b (sym (full_opens i.0) ∙ i.3) in
        let same = j.3 ∙ sym r.3 in
        let z = function_parts sig C w symbols (type_is_lazy sig C w symbols i.2 f).0 r.2 in
        let p = put_in d r.0 j.0 j.1 r.1 b u n same (type_is_lazy sig C w symbols j.2 f).1 z.1 (argument_converts sig C w symbols r.0 j.2 f same) r.4 q in
        (_, _, lazy_app i.2 r.2 j.2 same (allowed_back r.0 r.1 a n r.3 p.1 o), p.0)
