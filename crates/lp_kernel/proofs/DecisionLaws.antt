-- A term that has a type is found, or it leaves the fragment.
use Rattle.std.proofs.Common.{◌≡◌, ℕ, ◌+◌, Bool, true, false, if◌then◌else◌, List, ◌∷◌, Option, Some, None, Result, Ok, Err, refl, sym, ap, ◌∙◌, subst}
use Rattle.lp_term.specs.LambdaPi.{Term, type, kind, con, pat, var, app, lam, pi}
use Rattle.lp_term.specs.Names.{prf_name}
use Rattle.lp_term.specs.Connectives.{propositions, proof_of}
use Rattle.lp_term.specs.Conversion.{Convertible, conv_sym, conv_trans}
use Rattle.lp_term.specs.Typing.{Declaration, Declares, sort_type, sort_kind, HasType, has_type}
use Rattle.lp_exact.specs.declared.word.Word.{Word}
use Rattle.lp_exact.specs.declared.word.Word.TheVariants.{Individuals, Propositions, Prf}
use Rattle.lp_exact.specs.Words.{word_of}
use Rattle.lp_exact.specs.Layers.{opened}
use Rattle.lp_exact.specs.LazyTypes.{full}
use Rattle.lp_exact.specs.Objects.{Simple, simple_of, IsLazy, lazy_propositions}
use Rattle.lp_exact.specs.Symbols.{AreSimpleOfWords}
use Rattle.lp_exact.specs.Reduction.{StepsTo, step_rule, step_domain, step_codomain, ReducesTo, no_step, step_then, HasNormalForm}
use Rattle.lp_exact.specs.Symbols.{IsTermWord}
use Rattle.lp_kernel.specs.LazyJudgement.{HasLazyForm, HasLazyType}
use Rattle.lp_kernel.specs.Checking.{Fault, unknown_name, out_of_fragment, Typing, typing, declared, and_then, or_fault, is_allowed, within, argument_at, product_or, Abstraction, Reading, no_sort, plain, read_symbol, find_let, find_app, find_applied, check_prf, find_lam, read, node_count}
use Rattle.lp_exact.proofs.WordLaws.{IsNamed, named}
use Rattle.lp_exact.proofs.ConfluenceLaws.{pi_injective}
use Rattle.lp_exact.proofs.StepLaws.{common_reduct}
use Rattle.lp_exact.proofs.UniquenessLaws.{types_convert, generation_var, generation_con, generation_pi, generation_lam, generation_app}
use Rattle.lp_exact.proofs.DegreeLaws.{one_sort, sorts_convert}
use Rattle.lp_exact.specs.Signatures.{IsWellFormedContext, IsWellFormedSignature}
use Rattle.lp_exact.proofs.PreludeSymbols.{declares_prf}
use Rattle.lp_exact.proofs.SubjectLaws.{context_extends, symbol_type}
use Rattle.lp_exact.proofs.LazyLaws.{full_opens}
use Rattle.lp_exact.proofs.ObjectLaws.{no_rule_of_pi}
use Rattle.lp_exact.proofs.FullTypeLaws.{full_is_normal}
use Rattle.lp_exact.proofs.TypeLaws.{full_converts, converts_same}
use Rattle.lp_kernel.proofs.LazyTypeLaws.{simple_context, AreConvertible, convertible_more, IsLazyContext, lazy_extends, form_is_lazy, type_is_lazy, form_converts, lazy_is_found, function_parts}
use Rattle.lp_kernel.proofs.CompletenessLaws.{agree_back, product_of}
use Rattle.lp_kernel.proofs.TypingLaws.{found_is_typed}
use Rattle.lp_kernel.proofs.AnswerLaws.{answer_has_type, answer_is_form, con_finds}
use Rattle.lp_kernel.proofs.AnsweredLaws.{argument_of, gives_at, some_declared}

abbrev pub IsOutside : Fault → Type 0
IsOutside (out_of_fragment k) = Unit {0}
IsOutside _ = ⊥

-- no fault but that the term leaves the fragment
abbrev pub IsOkOrOutside : {A : Type 0} → Result A Fault → Type 0
IsOkOrOutside (Ok a) = Unit {0}
IsOkOrOutside (Err e) = IsOutside e

pub and_only : {A B : Type 0} (r : Result A Fault) (f : A → Result B Fault) → IsOkOrOutside r → ((a : A) → r ≡ Ok a → IsOkOrOutside (f a)) → IsOkOrOutside (and_then r f)
and_only (Ok a) f h k = k a refl
and_only (Err e) f h k = h

pub ok_only : {A : Type 0} {r : Result A Fault} {a : A} → r ≡ Ok a → IsOkOrOutside r
ok_only {r = r} e = subst (λ x. IsOkOrOutside x) (sym e) tt

within_only : (k : ℕ) (a b : Term) (r : Typing) → IsOkOrOutside (within k a b r)
within_only k a b r = go (is_allowed (simple_of a) (simple_of b))
  where
    go : (c : Bool) → IsOkOrOutside (if c then Ok r else Err (out_of_fragment k))
    go true = tt
    go false = tt

step_pi : {a b u : Term} → StepsTo (pi a b) u → (x : Term) × (y : Term) × (u ≡ pi x y)
step_pi (step_rule r) = absurd (no_rule_of_pi (λ x s. ⊥) r)
step_pi (step_domain b s) = (_, b, refl)
step_pi (step_codomain a s) = (a, _, refl)

steps_pi : {t z : Term} → ReducesTo t z → (a b : Term) → t ≡ pi a b → (x : Term) × (y : Term) × (z ≡ pi x y)
steps_pi (no_step t) a b e = (a, b, e)
steps_pi (step_then {u = u} h l) a b e = let i = step_pi (subst (λ x. StepsTo x u) e h) in steps_pi l i.0 i.1 i.2

stays : {t z : Term} → ((u : Term) → StepsTo t u → ⊥) → ReducesTo t z → t ≡ z
stays f (no_step t) = refl
stays f (step_then {u = u} h l) = absurd (f u h)

-- a normal form that is convertible with a product, is one
normal_product : {c n : Term} (a b : Term) → HasNormalForm c n → Convertible n (pi a b) → (x : Term) × (y : Term) × (n ≡ pi x y)
normal_product a b h e = let r = common_reduct e in let i = steps_pi r.2 a b refl in (i.0, i.1, stays h.ends r.1 ∙ i.2)

module _ (sig : List Declaration) (w : IsWellFormedSignature sig) (objects : (g : List Term) (x : List ℕ) (a : Term) → IsTermWord (word_of x) → Declares sig x a → HasType sig g a type) (C : List ℕ → Simple → Type 0) (v : AreSimpleOfWords C) (symbols : (g : List (Option Simple)) (x : List ℕ) (a : Term) → IsTermWord (word_of x) → Declares sig x a → IsLazy C g a × ((s : Simple) → simple_of a ≡ Some s → C x s)) where
  -- a context of the types and one of the lazy types
  pub record HasLazyTypes (g d : List Term) : Type 0 where
    pub fit : IsWellFormedContext sig g
    pub order : IsLazyContext sig C v symbols d
    pub agree : AreConvertible g d

  pub lazy_types_extend : {g d : List Term} {a x : Term} → HasLazyTypes g d → HasType sig g a type → HasLazyForm sig d a x → HasLazyTypes (a ∷ g) (x ∷ d)
  lazy_types_extend p h k = record {
    fit = context_extends w p.fit h;
    order = lazy_extends sig C v symbols p.order (form_is_lazy sig C v symbols k p.order);
    agree = convertible_more (form_converts sig C v symbols k p.order) p.agree;
  }

  found : {g d : List Term} {t a b : Term} → HasLazyTypes g d → HasLazyType sig d t a b → HasType sig g t (full a) × HasType sig g (full a) type
  found p h = found_is_typed w objects (lazy_is_found sig C v symbols h p.order p.agree) p.fit

  -- the argument has the wanted type
  meets : {g d : List Term} {u e y a x : Term} → HasLazyTypes g d → HasLazyType sig d u e y → HasType sig g u a → IsLazy C (simple_context d) x → Convertible x a → full e ≡ full x
  meets {e = e} p h k z c =
      let i = types_convert w.once (found p h).0 k in
      converts_same C v (type_is_lazy sig C v symbols h p.order).0 z (conv_trans (full_converts e) (conv_trans i (conv_sym c)))

  argument_only : {g d : List Term} {u a x : Term} (k : ℕ) (r : Typing) → HasLazyTypes g d → HasLazyType sig d u r.of r.value → HasType sig g u a → IsLazy C (simple_context d) x → Convertible x a → IsOkOrOutside (argument_at d k x r)
  argument_only {d = d} {x = x} k r p h l z c = ok_only (argument_of d k x r (meets p h l z c))

  -- a type of terms isn't found as a term
  no_family : {g d : List Term} {t a b : Term} → HasLazyTypes g d → HasLazyType sig d t a b → HasType sig g t type → ⊥
  no_family {g = g} p h k =
      let i = found p h in
      let e = one_sort w.graded p.fit.graded sort_type sort_kind (types_convert w.once i.0 k) i.1 (has_type g) in absurd cc

  sorted_only : {g d : List Term} {t : Term} (k : ℕ) (f : List Term → ℕ → Result Typing Fault) → ((s : Typing) → f d k ≡ Ok s → HasLazyType sig d t s.of s.value) → HasLazyTypes g d → HasType sig g t type → IsOkOrOutside (f d k) → IsOkOrOutside (no_sort f d k)
  sorted_only {d = d} k f l p h o = and_only (f d k) _ o (λ s e. absurd (no_family p (l s e) h))

  record ArePartsDecided (a b : Term) (q : Abstraction) : Type 0 where
    checks : (g d : List Term) (k : ℕ) → HasLazyTypes g d → HasType sig g a type → IsOkOrOutside (q.check d k)
    opens : (d : List Term) (k : ℕ) (x : Term) → q.check d k ≡ Ok x → HasLazyForm sig d a x
    bodies : (g d : List Term) (k : ℕ) (c : Term) → HasLazyTypes g d → HasType sig g b c → IsOkOrOutside (q.body d k)

  record IsDecided (t : Term) (r : Reading) : Type 0 where
    finds : (g d : List Term) (k : ℕ) (c : Term) → HasLazyTypes g d → HasType sig g t c → IsOkOrOutside (r.find d k)
    checks : (g d : List Term) (k : ℕ) → HasLazyTypes g d → HasType sig g t type → IsOkOrOutside (r.check d k)
    prf : r.is_prf ≡ true → t ≡ con prf_name
    parts : (q : Abstraction) → r.parts ≡ Some q → (a : Term) × (b : Term) × (t ≡ lam a b) × ArePartsDecided a b q

  let_only : {g d : List Term} (a b u : Term) (q : Abstraction) (n k : ℕ) (c : Term) → ArePartsDecided a b q → IsDecided u (read sig u) → HasLazyTypes g d → HasType sig g (app (lam a b) u) c → IsOkOrOutside (find_let q (read sig u) n d k)
  let_only {g = g} {d = d} a b u q n k c h l p ty =
      let i = generation_app ty in
      let j = generation_lam i.2 in
      let m = generation_pi j.3 in
      let e = pi_injective j.5 in
      and_only (q.check d (k + 2)) _ (h.checks g d (k + 2) p m.2) (λ x ex.
      let ox = h.opens d (k + 2) x ex in
      and_only ((read sig u).find d (k + 1 + n)) _ (l.finds g d (k + 1 + n) i.0 p i.3) (λ r er.
      and_only (argument_at d (k + 1 + n) x r) _ (argument_only (k + 1 + n) r p (answer_has_type sig u d (k + 1 + n) r er) i.3 (form_is_lazy sig C v symbols ox p.order) (conv_trans (conv_sym (form_converts sig C v symbols ox p.order)) e.0)) (λ y ey.
      and_only (q.body (x ∷ d) (k + 2 + q.nodes)) _ (h.bodies (a ∷ g) (x ∷ d) (k + 2 + q.nodes) j.0 (lazy_types_extend p m.2 ox) j.4) (λ s es. within_only k x s.of _))))

  product_only : (t : Term) (f : Term → Term → Result Typing Fault) (e : Fault) (x y : Term) → t ≡ pi x y → IsOkOrOutside (f x y) → IsOkOrOutside (product_or t f e)
  product_only t f e x y h k = subst (λ z. IsOkOrOutside (product_or z f e)) (sym h) k

  app_only : {g d : List Term} (f u : Term) (n k : ℕ) (c : Term) → IsDecided f (read sig f) → IsDecided u (read sig u) → HasLazyTypes g d → HasType sig g (app f u) c → IsOkOrOutside (find_app (read sig f) (read sig u) n d k)
  app_only {g = g} {d = d} f u n k c h l p ty =
      let i = generation_app ty in
      and_only ((read sig f).find d (k + 1)) _ (h.finds g d (k + 1) (pi i.0 i.1) p i.2) (λ r er.
      let lr = answer_has_type sig f d (k + 1) r er in
      let z = (type_is_lazy sig C v symbols lr p.order).0 in
      let e = types_convert w.once (found p lr).0 i.2 in
      let m = normal_product i.0 i.1 (full_is_normal C v z) e in
      let o = product_of (opened r.of) m.0 m.1 (sym (full_opens r.of) ∙ m.2) in
      let domain = (pi_injective (subst (λ t. Convertible t (pi i.0 i.1)) m.2 e)).0 in
      let wanted : Convertible o.0 i.0 = conv_trans (full_converts o.0) (subst (λ t. Convertible t i.0) (sym o.3) domain) in
      product_only (opened r.of) _ _ o.0 o.1 o.2
      (and_only ((read sig u).find d (k + 1 + n)) _ (l.finds g d (k + 1 + n) i.0 p i.3) (λ s es.
      and_only (argument_at d (k + 1 + n) o.0 s) _ (argument_only (k + 1 + n) s p (answer_has_type sig u d (k + 1 + n) s es) i.3 (function_parts sig C v symbols z o.2).0 wanted) (λ y ey. within_only k o.0 o.1 _))))

  applied_only : {g d : List Term} (f u : Term) (n k : ℕ) (c : Term) (o : Option Abstraction) → (read sig f).parts ≡ o → IsDecided f (read sig f) → IsDecided u (read sig u) → HasLazyTypes g d → HasType sig g (app f u) c → IsOkOrOutside (find_applied o (read sig f) (read sig u) n d k)
  applied_only {g = g} f u n k c (Some q) e h l p ty =
      let i = h.parts q e in
      let_only i.0 i.1 u q n k c i.3 l p (subst (λ z. HasType sig g (app z u) c) i.2 ty)
  applied_only f u n k c None e h l p ty = app_only f u n k c h l p ty

  prf_only : {g d : List Term} (u : Term) (k : ℕ) → IsDecided u (read sig u) → HasLazyTypes g d → HasType sig g (proof_of u) type → IsOkOrOutside (check_prf (read sig u) d k)
  prf_only {g = g} {d = d} u k l p ty =
      let i = generation_app ty in
      let e = (pi_injective (symbol_type w declares_prf i.2)).0 in
      and_only ((read sig u).find d (k + 2)) _ (l.finds g d (k + 2) i.0 p i.3) (λ r er.
      and_only (argument_at d (k + 2) propositions r) _ (argument_only (k + 2) r p (answer_has_type sig u d (k + 2) r er) i.3 (lazy_propositions (simple_context d)) e) (λ y ey. tt))

  app_checks : {g d : List Term} (f u : Term) (n k : ℕ) (b : Bool) → (read sig f).is_prf ≡ b → IsDecided f (read sig f) → IsDecided u (read sig u) → HasLazyTypes g d → HasType sig g (app f u) type
      → ((s : Typing) → find_applied (read sig f).parts (read sig f) (read sig u) n d k ≡ Ok s → HasLazyType sig d (app f u) s.of s.value)
      → IsOkOrOutside ((if b then check_prf (read sig u) else no_sort (find_applied (read sig f).parts (read sig f) (read sig u) n)) d k)
  app_checks {g = g} f u n k true e h l p ty q = prf_only u k l p (subst (λ z. HasType sig g (app z u) type) (h.prf e) ty)
  app_checks f u n k false e h l p ty q = sorted_only k (find_applied (read sig f).parts (read sig f) (read sig u) n) q p ty (applied_only f u n k type (read sig f).parts refl h l p ty)

  app_kept : (f u : Term) → IsDecided f (read sig f) → IsDecided u (read sig u) → IsDecided (app f u) (read sig (app f u))
  app_kept f u h l = record {
    finds = λ g d k c p ty. applied_only f u (node_count f) k c (read sig f).parts refl h l p ty;
    checks = λ g d k p ty. app_checks f u (node_count f) k (read sig f).is_prf refl h l p ty (answer_has_type sig (app f u) d k);
    prf = λ q. absurd cc;
    parts = λ q e. absurd cc;
  }

  lam_only : {g d : List Term} (a t : Term) (k : ℕ) (c : Term) → IsDecided a (read sig a) → IsDecided t (read sig t) → HasLazyTypes g d → HasType sig g (lam a t) c → IsOkOrOutside (find_lam (read sig a) (read sig t) (node_count a) d k)
  lam_only {g = g} {d = d} a t k c h l p ty =
      let i = generation_lam ty in
      let m = generation_pi i.3 in
      and_only ((read sig a).check d (k + 1)) _ (h.checks g d (k + 1) p m.2) (λ x ex.
      and_only ((read sig t).find (x ∷ d) (k + 1 + node_count a)) _ (l.finds (a ∷ g) (x ∷ d) (k + 1 + node_count a) i.0 (lazy_types_extend p m.2 (answer_is_form sig a d (k + 1) x ex)) i.4) (λ s es. within_only k x s.of _))

  lam_kept : (a t : Term) → IsDecided a (read sig a) → IsDecided t (read sig t) → IsDecided (lam a t) (read sig (lam a t))
  lam_kept a t h l = record {
    finds = λ g d k c p ty. lam_only a t k c h l p ty;
    checks = λ g d k p ty. sorted_only k (find_lam (read sig a) (read sig t) (node_count a)) (answer_has_type sig (lam a t) d k) p ty (lam_only a t k type h l p ty);
    prf = λ q. absurd cc;
    parts = part;
  }
    where
      part : (q : Abstraction) → Some (record { check = (read sig a).check; body = (read sig t).find; nodes = node_count a }) ≡ Some q → (x : Term) × (y : Term) × (lam a t ≡ lam x y) × ArePartsDecided x y q
      part q e =
          let i : record { check = (read sig a).check; body = (read sig t).find; nodes = node_count a } ≡ q = cc in
          (a, t, refl, subst (λ z. ArePartsDecided a t z) i (record { checks = h.checks; opens = answer_is_form sig a; bodies = l.finds }))

  pi_kept : (a b : Term) → IsDecided a (read sig a) → IsDecided b (read sig b) → IsDecided (pi a b) (read sig (pi a b))
  pi_kept a b h l = record { finds = λ g d k c p ty. tt; checks = go; prf = λ q. absurd cc; parts = λ q e. absurd cc }
    where
      go : (g d : List Term) (k : ℕ) → HasLazyTypes g d → HasType sig g (pi a b) type → IsOkOrOutside ((read sig (pi a b)).check d k)
      go g d k p ty =
          let i = generation_pi ty in
          let e = sorts_convert i.1 sort_type i.4 in
          and_only ((read sig a).check d (k + 1)) _ (h.checks g d (k + 1) p i.2) (λ x ex.
          and_only ((read sig b).check (x ∷ d) (k + 1 + node_count a)) _ (l.checks (a ∷ g) (x ∷ d) (k + 1 + node_count a) (lazy_types_extend p i.2 (answer_is_form sig a d (k + 1) x ex)) (subst (λ s. HasType sig (a ∷ g) b s) e i.3)) (λ y ey. tt))

  plain_kept : (t : Term) → read sig t ≡ plain (read sig t).find → ((g d : List Term) (k : ℕ) (c : Term) → HasLazyTypes g d → HasType sig g t c → IsOkOrOutside ((read sig t).find d k)) → IsDecided t (read sig t)
  plain_kept t e h = record {
    finds = h;
    checks = λ g d k p ty. subst (λ r. IsOkOrOutside (r.check d k)) (sym e) (sorted_only k (read sig t).find (answer_has_type sig t d k) p ty (h g d k type p ty));
    prf = λ q. let i = ap (λ r. r.is_prf) e in absurd cc;
    parts = λ q k. let i = ap (λ r. r.parts) e in absurd cc;
  }

  var_only : (n : ℕ) (g d : List Term) (k : ℕ) (c : Term) → HasLazyTypes g d → HasType sig g (var n) c → IsOkOrOutside ((read sig (var n)).find d k)
  var_only n g d k c p ty = let i = generation_var ty in let j = agree_back p.agree i.1 in ok_only (ap (λ z. and_then (or_fault z (out_of_fragment k)) (λ a. Ok (typing a (var n)))) (gives_at j.1))

  con_only : (x : List ℕ) (g d : List Term) (k : ℕ) (c : Term) → HasLazyTypes g d → HasType sig g (con x) c → IsOkOrOutside (and_then (or_fault (declared sig x) (unknown_name k x)) (λ a. Ok (typing a (con x))))
  con_only x g d k c p ty =
      let i = generation_con ty in
      let j = some_declared i.1 in
      ok_only (ap (λ z. and_then (or_fault z (unknown_name k x)) (λ a. Ok (typing a (con x)))) j.1)

  symbol_kept : (r : Word) (x : List ℕ) → r ≡ word_of x → IsNamed r x → IsDecided (con x) (read_symbol sig r x)
  symbol_kept Individuals x e h = record { finds = λ g d k c p ty. tt; checks = λ g d k p ty. tt; prf = λ q. absurd cc; parts = λ q n. absurd cc }
  symbol_kept Propositions x e h = record { finds = λ g d k c p ty. tt; checks = λ g d k p ty. tt; prf = λ q. absurd cc; parts = λ q n. absurd cc }
  symbol_kept Prf x e h = record { finds = λ g d k c p ty. tt; checks = λ g d k p ty. tt; prf = λ q. ap con h; parts = λ q n. absurd cc }
  symbol_kept _ x e h = record {
    finds = con_only x;
    checks = λ g d k p ty. sorted_only k (λ d k. and_then (or_fault (declared sig x) (unknown_name k x)) (λ a. Ok (typing a (con x)))) (con_finds sig x (subst IsTermWord e tt) d k) p ty (con_only x g d k type p ty);
    prf = λ q. absurd cc;
    parts = λ q n. absurd cc;
  }

  decided : (t : Term) → IsDecided t (read sig t)
  decided (var n) = plain_kept (var n) refl (var_only n)
  decided (con x) = symbol_kept (word_of x) x refl (named x)
  decided (app f u) = app_kept f u (decided f) (decided u)
  decided (lam a t) = lam_kept a t (decided a) (decided t)
  decided (pi a b) = pi_kept a b (decided a) (decided b)
  decided type = plain_kept type refl (λ g d k c p ty. tt)
  decided kind = plain_kept kind refl (λ g d k c p ty. tt)
  decided (pat x) = plain_kept (pat x) refl (λ g d k c p ty. tt)

  -- a typed term's only fault is to leave the fragment
  pub decides : {g d : List Term} (t c : Term) (k : ℕ) → HasLazyTypes g d → HasType sig g t c → IsOkOrOutside ((read sig t).find d k)
  decides {g = g} {d = d} t c k p h = (decided t).finds g d k c p h

  pub decides_type : {g d : List Term} (a : Term) (k : ℕ) → HasLazyTypes g d → HasType sig g a type → IsOkOrOutside ((read sig a).check d k)
  decides_type {g = g} {d = d} a k p h = (decided a).checks g d k p h
