-- What the program looks up: it is convertible, lazy and normal, and the judgement finds its full type.
use Rattle.std.proofs.Common.{◌≡◌, ℕ, zero, suc, List, [], ◌∷◌, map, Option, Some, None, refl, sym, ap, ap₂, ◌∙◌, subst, arith}
use Rattle.lp_term.specs.LambdaPi.{Term, type, lam, pi, for_last, instantiate}
use Rattle.lp_term.specs.Connectives.{propositions}
use Rattle.lp_term.specs.Conversion.{Convertible, conv_refl, conv_sym, conv_trans, conv_app, conv_lam, conv_pi, conv_beta}
use Rattle.lp_term.specs.Typing.{Declaration, Declares, Gives, given_here, given_later}
use Rattle.lp_term.proofs.ConversionLaws.{convertible_rename}
use Rattle.lp_exact.specs.Words.{word_of}
use Rattle.lp_exact.specs.Layers.{opened}
use Rattle.lp_exact.specs.LazyTypes.{full, in_parts}
use Rattle.lp_exact.specs.Normalisation.{put_at, apply_at}
use Rattle.lp_exact.specs.Objects.{Simple, truth, function, simple_term, simple_of, simple_of_both, HasSimple, simple_here, simple_later, IsNormal, normal_lam, normal_neutral, neutral_var, neutral_con, IsLazy, lazy_individuals, lazy_propositions, lazy_proof, lazy_pi}
use Rattle.lp_exact.specs.Symbols.{AreSimpleOfWords}
use Rattle.lp_exact.specs.Reduction.{StepsTo, ReducesTo, no_step, step_then, HasNormalForm}
use Rattle.lp_kernel.specs.Judgement.{IsAllowed, IsChecked, checked_individuals, checked_propositions, checked_pi, checked_proof, HasNormalType, found_var, found_con, found_lam, found_let, found_app}
use Rattle.lp_exact.specs.Symbols.{IsTermWord}
use Rattle.lp_kernel.specs.LazyJudgement.{kept, rank_of, HasLazyForm, form_individuals, form_propositions, form_pi, form_proof, HasLazyType, lazy_var, lazy_con, lazy_lam, lazy_let, lazy_app}
use Rattle.lp_exact.proofs.ConfluenceLaws.{parallels_convert}
use Rattle.lp_exact.proofs.StepLaws.{common_reduct}
use Rattle.lp_exact.proofs.NormalFormLaws.{reduces_parallels}
use Rattle.lp_exact.proofs.LazyLaws.{full_opens, full_pi}
use Rattle.lp_exact.proofs.ObjectLaws.{PutsEntries, puts_last, puts_proof, put_keeps, applies_at, apply_reduces, put_at_reduces, renames_simple_suc}
use Rattle.lp_exact.proofs.FullTypeLaws.{lazy_renames, lazy_put, lazy_opened, full_is_normal, simple_of_rename, simple_of_put}
use Rattle.lp_exact.proofs.SimpleLaws.{is_simple, both_is, simple_of_opened, simple_of_full}
use Rattle.lp_exact.proofs.TypeLaws.{full_converts}
use Rattle.lp_kernel.proofs.AbsentLaws.{put_any}

-- ---- an argument put in

put_converts : (k : ℕ) (u t : Term) → Convertible (instantiate t u) (put_at k u t)
put_converts k u t = parallels_convert (put_at_reduces k u t)

-- an argument and a body changed
at_converts : {t v u w : Term} → Convertible t v → Convertible u w → Convertible (instantiate t u) (instantiate v w)
at_converts {t = t} {v = v} {u = u} {w = w} h k =
    conv_trans (conv_sym (conv_beta type t u)) (conv_trans (conv_app (conv_lam (conv_refl type) h) k) (conv_beta type v w))

-- ---- normal forms by conversion

pub conv_normal : {a b n : Term} → Convertible a b → HasNormalForm b n → HasNormalForm a n
conv_normal {a = a} {n = n} e h =
    let r = common_reduct (conv_trans e (parallels_convert (reduces_parallels h.reached))) in
    record { reached = subst (λ x. ReducesTo a x) (sym (stays h.ends r.2)) r.1; ends = h.ends }
  where
    stays : {t w : Term} → ((u : Term) → StepsTo t u → ⊥) → ReducesTo t w → t ≡ w
    stays f (no_step t) = refl
    stays f (step_then {u = u} h l) = absurd (f u h)

-- ---- contexts

abbrev pub simple_context : List Term → List (Option Simple)
simple_context d = map simple_of d

has_at : {d : List Term} {n : ℕ} {a : Term} → Gives d n a → (s : Simple) → simple_of a ≡ Some s → HasSimple (simple_context d) n s
has_at (given_here d a) s e = rw (sym (simple_of_rename a (λ n. suc n)) ∙ e) (simple_here (simple_context d) s)
has_at (given_later {a = a} b h) s e = simple_later (simple_of b) (has_at h s (sym (simple_of_rename a (λ n. suc n)) ∙ e))

-- the types of the one context are convertible with those of the other
pub data AreConvertible : List Term → List Term → Type 0 where
  convertible_none : AreConvertible [] []
  convertible_more : {g d : List Term} {a x : Term} → Convertible a x → AreConvertible g d → AreConvertible (a ∷ g) (x ∷ d)

agree_at : {g d : List Term} {n : ℕ} {x : Term} → AreConvertible g d → Gives d n x → (a : Term) × Gives g n a × Convertible a x
agree_at convertible_none k = elim k [ ]
agree_at (convertible_more {g = g} {a = a} e h) (given_here d x) = (_, given_here g a, convertible_rename (λ n. suc n) e)
agree_at (convertible_more {a = a} e h) (given_later x k) = let r = agree_at h k in (_, given_later a r.1, convertible_rename (λ n. suc n) r.2)

allowed_is : (o e : Option Simple) → IsAllowed o e → (s : Simple) → e ≡ Some s → (r : Simple) × (o ≡ Some r)
allowed_is (Some r) e h s k = (r, refl)
allowed_is None (Some b) h s k = absurd h
allowed_is None None h s k = absurd cc

pub kept_is : (o : Option Simple) (s : Simple) (v : Term) → o ≡ Some s → v ≡ kept o v
kept_is o s v e = ap (λ x. kept x v) (sym e)

kept_converts : {t v : Term} (o : Option Simple) (s : Simple) → o ≡ Some s → Convertible t v → Convertible t (kept o v)
kept_converts {t = t} {v = v} o s e h = subst (λ z. Convertible t z) (kept_is o s v e) h

module _ (sig : List Declaration) (C : List ℕ → Simple → Type 0) (w : AreSimpleOfWords C) (symbols : (g : List (Option Simple)) (x : List ℕ) (a : Term) → IsTermWord (word_of x) → Declares sig x a → IsLazy C g a × ((s : Simple) → simple_of a ≡ Some s → C x s)) where
  -- each type of the context is lazy
  pub record IsLazyContext (d : List Term) : Type 0 where
    pub lazy : (n : ℕ) (a : Term) → Gives d n a → IsLazy C (simple_context d) a

  lazy_extended_at : {d : List Term} {x : Term} → IsLazyContext d → IsLazy C (simple_context d) x → (n : ℕ) (a : Term) → Gives (x ∷ d) n a → IsLazy C (simple_context (x ∷ d)) a
  lazy_extended_at {d = d} {x = x} f h zero a (given_here e b) = lazy_renames C h (simple_context (x ∷ d)) (λ n. suc n) (renames_simple_suc (simple_context d) (simple_of x))
  lazy_extended_at {d = d} {x = x} f h (suc n) a (given_later {a = b} e k) = lazy_renames C (f.lazy n b k) (simple_context (x ∷ d)) (λ n. suc n) (renames_simple_suc (simple_context d) (simple_of x))

  pub lazy_extends : {d : List Term} {x : Term} → IsLazyContext d → IsLazy C (simple_context d) x → IsLazyContext (x ∷ d)
  lazy_extends f h = record { lazy = lazy_extended_at f h }

  -- the value is a normal object where the type is simple
  abbrev HasValue : List Term → Term → Term → Type 0
  HasValue d a v = (s : Simple) → simple_of a ≡ Some s → IsNormal C (simple_context d) v s

  same_simple : (e x : Term) → full e ≡ full x → simple_of e ≡ simple_of x
  same_simple e x h = sym (simple_of_full e) ∙ ap simple_of h ∙ simple_of_full x

  puts_of : {g : List (Option Simple)} (u : Term) (o : Option Simple) → ((s : Simple) → o ≡ Some s → IsNormal C g u s) → PutsEntries C (rank_of o) (o ∷ g) g (for_last u)
  puts_of u (Some s) h = puts_last C (omega arith) (h s refl)
  puts_of u None h = puts_proof C u

  pub argument : (d : List Term) (e x u : Term) → full e ≡ full x → HasValue d e u → PutsEntries C (rank_of (simple_of x)) (simple_of x ∷ simple_context d) (simple_context d) (for_last u)
  argument d e x u h k = puts_of u (simple_of x) (λ s q. k s (same_simple e x h ∙ q))

  parts : {g : List (Option Simple)} {a b : Term} → IsLazy C g (pi a b) → IsLazy C g a × IsLazy C (simple_of a ∷ g) b
  parts (lazy_pi h k) = (h, k)

  -- a function's type lies open
  pub function_parts : {g : List (Option Simple)} {c a b : Term} → IsLazy C g c → opened c ≡ pi a b → IsLazy C g a × IsLazy C (simple_of a ∷ g) b
  function_parts {g = g} h e = parts (subst (λ x. IsLazy C g x) e (lazy_opened C w h))

  lam_normal : {g : List (Option Simple)} {v : Term} (x : Term) (a b s : Simple) → x ≡ simple_term a → s ≡ function a b → IsNormal C (Some a ∷ g) v b → IsNormal C g (lam x v) s
  lam_normal x a b s e h n = rw (e, h) (normal_lam a n)

  kept_normal : {g : List (Option Simple)} {v : Term} (o : Option Simple) (s : Simple) → o ≡ Some s → IsNormal C g v s → IsNormal C g (kept o v) s
  kept_normal {g = g} {v = v} o s e h = subst (λ z. IsNormal C g z s) (kept_is o s v e) h

  mutual
    pub form_is_lazy : {d : List Term} {a x : Term} → HasLazyForm sig d a x → IsLazyContext d → IsLazy C (simple_context d) x
    form_is_lazy (form_individuals d) f = lazy_individuals (simple_context d)
    form_is_lazy (form_propositions d) f = lazy_propositions (simple_context d)
    form_is_lazy (form_pi h k) f = let i = form_is_lazy h f in lazy_pi i (form_is_lazy k (lazy_extends f i))
    form_is_lazy (form_proof {e = e} h k) f = lazy_proof ((type_is_lazy h f).1 truth (same_simple e propositions k))

    pub type_is_lazy : {d : List Term} {t a v : Term} → HasLazyType sig d t a v → IsLazyContext d → IsLazy C (simple_context d) a × HasValue d a v
    type_is_lazy (lazy_var {n = n} {a = a} h) f = (f.lazy n a h, λ s e. normal_neutral (neutral_var (has_at h s e)))
    type_is_lazy (lazy_con d {s = x} {a = a} c h) f = let i = symbols (simple_context d) x a c h in (i.0, λ s e. normal_neutral (neutral_con (simple_context d) (i.1 s e)))
    type_is_lazy {d = d} (lazy_lam {b = b} {x = x} {v = v} h k o) f =
        let i = form_is_lazy h f in
        let j = type_is_lazy k (lazy_extends f i) in
        (lazy_pi i j.0, value i j.1)
      where
        value : IsLazy C (simple_context d) x → HasValue (x ∷ d) b v → HasValue d (pi x b) (lam x v)
        value i j s e =
            let r = both_is (simple_of x) (simple_of b) s e in
            let n = subst (λ q. IsNormal C (q ∷ simple_context d) v r.1) r.2 (j r.1 r.3) in
            lam_normal x r.0 r.1 s (is_simple x r.0 r.2) r.4 n
    type_is_lazy {d = d} (lazy_let {b = b} {e = e} {x = x} {v = v} {w = u} h k q l o) f =
        let i = form_is_lazy h f in
        let j = type_is_lazy l (lazy_extends f i) in
        let p = argument d e x u q (type_is_lazy k f).1 in
        let n = rank_of (simple_of x) in
        (lazy_put C j.0 n (simple_context d) (for_last u) p, λ s y. let m : simple_of b ≡ Some s = sym (simple_of_put C j.0 n (for_last u)) ∙ y in kept_normal (simple_of b) s m (put_keeps C p (j.1 s m)))
    type_is_lazy {d = d} (lazy_app {a = a} {b = b} {c = c} {e = e} {v = v} {w = u} h q k y o) f =
        let i = type_is_lazy h f in
        let j = type_is_lazy k f in
        let z = function_parts i.0 q in
        let p = argument d e a u y j.1 in
        let n = rank_of (simple_of a) in
        (lazy_put C z.1 n (simple_context d) (for_last u) p, λ s m. value i.1 j.1 s (sym (simple_of_put C z.1 n (for_last u)) ∙ m))
      where
        value : HasValue d c v → HasValue d e u → (s : Simple) → simple_of b ≡ Some s → IsNormal C (simple_context d) (kept (simple_of b) (apply_at (suc (rank_of (simple_of a))) v u)) s
        value i j s m =
            let r = allowed_is (simple_of a) (simple_of b) o s m in
            let whole : simple_of c ≡ Some (function r.0 s) = sym (simple_of_opened c) ∙ ap simple_of q ∙ ap₂ simple_of_both r.1 m in
            let k = ap rank_of r.1 in
            kept_normal (simple_of b) s m (applies_at C (suc (rank_of (simple_of a))) (simple_context d) v u r.0 s (omega (arith, k)) (i (function r.0 s) whole) (j r.0 (same_simple e a y ∙ r.1)))

  -- ---- what is found is convertible with what it is of

  mutual
    pub form_converts : {d : List Term} {a x : Term} → HasLazyForm sig d a x → IsLazyContext d → Convertible a x
    form_converts (form_individuals d) f = conv_refl _
    form_converts (form_propositions d) f = conv_refl _
    form_converts (form_pi h k) f = conv_pi (form_converts h f) (form_converts k (lazy_extends f (form_is_lazy h f)))
    form_converts (form_proof {e = e} h k) f = conv_app (conv_refl _) (value_converts h f truth (same_simple e propositions k))

    -- an object and its value
    pub value_converts : {d : List Term} {t a v : Term} → HasLazyType sig d t a v → IsLazyContext d → (s : Simple) → simple_of a ≡ Some s → Convertible t v
    value_converts (lazy_var h) f s y = conv_refl _
    value_converts (lazy_con d c h) f s y = conv_refl _
    value_converts (lazy_lam {b = b} {x = x} h k o) f s y =
        let r = both_is (simple_of x) (simple_of b) s y in
        conv_lam (form_converts h f) (value_converts k (lazy_extends f (form_is_lazy h f)) r.1 r.3)
    value_converts (lazy_let {a = a} {b = b} {e = e} {x = x} {t = t} {u = u} {v = v} {w = w} h k q l o) f s y =
        let g = lazy_extends f (form_is_lazy h f) in
        let n = rank_of (simple_of x) in
        let m : simple_of b ≡ Some s = sym (simple_of_put C (type_is_lazy l g).0 n (for_last w)) ∙ y in
        let r = allowed_is (simple_of x) (simple_of b) o s m in
        kept_converts (simple_of b) s m (conv_trans (conv_beta a t u) (conv_trans (at_converts (value_converts l g s m) (value_converts k f r.0 (same_simple e x q ∙ r.1))) (put_converts n w v)))
    value_converts (lazy_app {a = a} {b = b} {c = c} {e = e} {v = v} {w = w} h q k z o) f s y =
        let n = rank_of (simple_of a) in
        let m : simple_of b ≡ Some s = sym (simple_of_put C (function_parts (type_is_lazy h f).0 q).1 n (for_last w)) ∙ y in
        let r = allowed_is (simple_of a) (simple_of b) o s m in
        let whole : simple_of c ≡ Some (function r.0 s) = sym (simple_of_opened c) ∙ ap simple_of q ∙ ap₂ simple_of_both r.1 m in
        kept_converts (simple_of b) s m (conv_trans (conv_app (value_converts h f (function r.0 s) whole) (value_converts k f r.0 (same_simple e a z ∙ r.1))) (parallels_convert (apply_reduces (suc n) v w)))

  -- an argument that is an object, and its value
  pub argument_converts : {d : List Term} {u e v : Term} (x : Term) → HasLazyType sig d u e v → IsLazyContext d → full e ≡ full x → (s : Simple) → simple_of x ≡ Some s → Convertible u v
  argument_converts {e = e} x h f q s y = value_converts h f s (same_simple e x q ∙ y)

  pub normal_here : (d : List Term) {a x : Term} → IsLazy C (simple_context d) x → Convertible a x → HasNormalForm a (full x)
  normal_here d h e = conv_normal e (full_is_normal C w h)

  allowed_full : (x b : Term) → IsAllowed (simple_of x) (simple_of b) → IsAllowed (simple_of (full x)) (simple_of (full b))
  allowed_full x b o = rw (simple_of_full x, simple_of_full b) o

  pub at_type : {g : List Term} {t a b : Term} → a ≡ b → HasNormalType sig g t a → HasNormalType sig g t b
  at_type {g = g} {t = t} e h = subst (λ x. HasNormalType sig g t x) e h

  put_allowed : {g : List (Option Simple)} {b : Term} (x u : Term) (n : ℕ) → IsLazy C g b → IsAllowed (simple_of x) (simple_of b) → IsAllowed (simple_of (full x)) (simple_of (full (put_at n u b)))
  put_allowed {b = b} x u n h o = allowed_full x (put_at n u b) (rw (simple_of_put C h n (for_last u)) o)

  -- a type with the argument put in
  put_normal : (d : List Term) (b : Term) {u v : Term} (n : ℕ) → IsLazy C (simple_context d) (put_at n v b) → Convertible u v → HasNormalForm (instantiate (full b) u) (full (put_at n v b))
  put_normal d b {v = v} n h e = normal_here d h (conv_trans (at_converts (conv_sym (full_converts b)) e) (put_converts n v b))

  -- the same where only an object's value is known
  pub value_put : (d : List Term) (b : Term) {u v : Term} (o : Option Simple) → IsLazy C (o ∷ simple_context d) b → IsLazy C (simple_context d) (put_at (rank_of o) v b) → ((s : Simple) → o ≡ Some s → Convertible u v) → HasNormalForm (instantiate (full b) u) (full (put_at (rank_of o) v b))
  value_put d b (Some s) z l h = put_normal d b (rank_of (Some s)) l (h s refl)
  value_put d b {u = u} {v = v} None z l h =
      let e : put_at 0 v b ≡ put_at 0 u b = put_any C z 0 0 v u in
      let k = put_normal d b {u = u} {v = u} 0 (subst (λ t. IsLazy C (simple_context d) t) e l) (conv_refl u) in
      subst (λ t. HasNormalForm (instantiate (full b) u) (full t)) (sym e) k

  mutual
    -- what is opened is a type of the fragment
    pub form_is_checked : {g d : List Term} {a x : Term} → HasLazyForm sig d a x → IsLazyContext d → AreConvertible g d → IsChecked sig g a
    form_is_checked {g = g} (form_individuals d) f m = checked_individuals g
    form_is_checked {g = g} (form_propositions d) f m = checked_propositions g
    form_is_checked (form_pi h k) f m = checked_pi (form_is_checked h f m) (form_is_checked k (lazy_extends f (form_is_lazy h f)) (convertible_more (form_converts h f) m))
    form_is_checked (form_proof h e) f m = checked_proof (at_type e (lazy_is_found h f m))

    -- the judgement finds the full type of what is looked up
    pub lazy_is_found : {g d : List Term} {t a v : Term} → HasLazyType sig d t a v → IsLazyContext d → AreConvertible g d → HasNormalType sig g t (full a)
    lazy_is_found {d = d} (lazy_var {n = n} {a = a} h) f m = let r = agree_at m h in found_var r.1 (normal_here d (f.lazy n a h) r.2)
    lazy_is_found {g = g} (lazy_con d {s = x} {a = a} c h) f m = found_con g c h (normal_here d (symbols (simple_context d) x a c h).0 (conv_refl a))
    lazy_is_found {d = d} (lazy_lam {b = b} {x = x} h k o) f m =
        let i = form_is_lazy h f in
        at_type (sym (full_pi x b)) (found_lam (form_is_checked h f m) (normal_here d i (form_converts h f)) (lazy_is_found k (lazy_extends f i) (convertible_more (form_converts h f) m)) (allowed_full x b o))
    lazy_is_found {d = d} (lazy_let {b = b} {e = e} {x = x} {w = u} h k q l o) f m =
        let i = form_is_lazy h f in
        let j = type_is_lazy l (lazy_extends f i) in
        let n = rank_of (simple_of x) in
        found_let (form_is_checked h f m) (normal_here d i (form_converts h f)) (at_type q (lazy_is_found k f m)) (lazy_is_found l (lazy_extends f i) (convertible_more (form_converts h f) m))
        (value_put d b (simple_of x) j.0 (type_is_lazy (lazy_let h k q l o) f).0 (argument_converts x k f q)) (put_allowed x u n j.0 o)
    lazy_is_found {d = d} (lazy_app {a = a} {b = b} {c = c} {w = u} h q k y o) f m =
        let z = function_parts (type_is_lazy h f).0 q in
        let n = rank_of (simple_of a) in
        found_app (at_type (full_opens c ∙ ap (in_parts full) q) (lazy_is_found h f m)) (at_type y (lazy_is_found k f m))
        (value_put d b (simple_of a) z.1 (type_is_lazy (lazy_app h q k y o) f).0 (argument_converts a k f y)) (put_allowed a u n z.1 o)
