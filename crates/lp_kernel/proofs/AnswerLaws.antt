-- What the function finds, is looked up.
use Rattle.std.proofs.Common.{◌≡◌, ℕ, zero, suc, ◌+◌, ◌&&◌, Bool, true, false, if◌then◌else◌, List, [], ◌∷◌, Option, Some, None, Result, Ok, Err, bytes_eq, refl, sym, ap, ap₂, subst}
use Rattle.std.proofs.lemmas.Slice.Eq.{bytes_eq-Decides}
use Rattle.std.proofs.lemmas.Bool.Decides.{Decides-eqb}
use Rattle.lp_term.specs.LambdaPi.{Term, type, kind, con, pat, var, app, lam, pi, shift}
use Rattle.lp_term.specs.Names.{prf_name}
use Rattle.lp_term.specs.Connectives.{individuals, propositions, proof_of}
use Rattle.lp_term.specs.Typing.{Declaration, Declares, declared_here, declared_later, Gives, given_here, given_later}
use Rattle.lp_exact.specs.declared.word.Word.{Word}
use Rattle.lp_exact.specs.declared.word.Word.TheVariants.{Individuals, Propositions, Prf}
use Rattle.lp_exact.specs.Words.{word_of}
use Rattle.lp_exact.specs.Layers.{opened}
use Rattle.lp_exact.specs.LazyTypes.{full}
use Rattle.lp_exact.specs.Objects.{Simple, simple_of}
use Rattle.lp_kernel.specs.Judgement.{IsAllowed}
use Rattle.lp_exact.specs.Symbols.{IsTermWord}
use Rattle.lp_kernel.specs.LazyJudgement.{HasLazyForm, form_individuals, form_propositions, form_pi, form_proof, HasLazyType, lazy_var, lazy_con, lazy_lam, lazy_let, lazy_app}
use Rattle.lp_kernel.specs.Checking.{Fault, unknown_name, out_of_fragment, Typing, typing, same_term, raised_one, type_at, declared, and_then, or_fault, is_allowed, within, argument_at, product_or, Abstraction, Reading, no_sort, plain, nowhere, read_symbol, find_let, find_app, find_applied, check_prf, read_app, find_lam, read_lam, read_pi, read, node_count}
use Rattle.lp_exact.proofs.WordLaws.{IsNamed, named}

pub both_true : (a b : Bool) → (a && b) ≡ true → (a ≡ true) × (b ≡ true)
both_true true b h = (refl, h)
both_true false b h = absurd cc

-- equal trees are equal
pub term_same : (t u : Term) → same_term t u ≡ true → t ≡ u
term_same type type h = refl
term_same kind kind h = refl
term_same (con x) (con y) h = ap con ((bytes_eq-Decides x y).0 h)
term_same (pat x) (pat y) h = ap pat ((bytes_eq-Decides x y).0 h)
term_same (var m) (var n) h = ap var ((Decides-eqb m n).0 h)
term_same (app t u) (app v w) h = let i = both_true (same_term t v) (same_term u w) h in ap₂ app (term_same t v i.0) (term_same u w i.1)
term_same (lam t u) (lam v w) h = let i = both_true (same_term t v) (same_term u w) h in ap₂ lam (term_same t v i.0) (term_same u w i.1)
term_same (pi t u) (pi v w) h = let i = both_true (same_term t v) (same_term u w) h in ap₂ pi (term_same t v i.0) (term_same u w i.1)
term_same _ _ h = absurd cc

raised_is : (o : Option Term) (a : Term) → raised_one o ≡ Some a → (b : Term) × (o ≡ Some b) × (shift b ≡ a)
raised_is (Some b) a h = (b, refl, cc)
raised_is None a h = absurd cc

given : (d : List Term) (n : ℕ) (a : Term) → type_at d n ≡ Some a → Gives d n a
given [] n a h = absurd cc
given (b ∷ d) zero a h = let e : shift b ≡ a = cc in subst (λ x. Gives (b ∷ d) zero x) e (given_here d b)
given (b ∷ d) (suc n) a h =
    let i = raised_is (type_at d n) a h in subst (λ x. Gives (b ∷ d) (suc n) x) i.2 (given_later b (given d n i.0 i.1))

-- from a result that is good, what it was made of
pub and_is : {A B : Type 0} (r : Result A Fault) (f : A → Result B Fault) (b : B) → and_then r f ≡ Ok b → (a : A) × (r ≡ Ok a) × (f a ≡ Ok b)
and_is (Ok a) f b h = (a, refl, h)
and_is (Err e) f b h = absurd cc

or_is : {A : Type 0} (o : Option A) (e : Fault) (a : A) → or_fault o e ≡ Ok a → o ≡ Some a
or_is (Some x) e a h = cc
or_is None e a h = absurd cc

allowed_of : (a b : Option Simple) → is_allowed a b ≡ true → IsAllowed a b
allowed_of None (Some b) h = absurd cc
allowed_of None None h = tt
allowed_of (Some a) b h = tt

if_is : {A : Type 0} (c : Bool) (a b : A) (e : Fault) → (if c then Ok a else Err e) ≡ Ok b → (c ≡ true) × (a ≡ b)
if_is true a b e h = (refl, cc)
if_is false a b e h = absurd cc

declares_at : (l : List Declaration) (e : Declaration) (x : List ℕ) (a : Term) (b : Bool) → bytes_eq e.name x ≡ b → (declared l x ≡ Some a → Declares l x a) → (if b then Some e.of else declared l x) ≡ Some a → Declares (e ∷ l) x a
declares_at l e x a true h k q =
    let i = (bytes_eq-Decides e.name x).0 h in
    let j : e.of ≡ a = cc in
    subst (λ z. Declares (e ∷ l) z a) i (subst (λ z. Declares (e ∷ l) e.name z) j (declared_here l e))
declares_at l e x a false h k q = declared_later e (k q)

pub declares : (l : List Declaration) (x : List ℕ) (a : Term) → declared l x ≡ Some a → Declares l x a
declares [] x a h = absurd cc
declares (e ∷ l) x a h = declares_at l e x a (bytes_eq e.name x) refl (declares l x a) h

module _ (sig : List Declaration) where
  -- so are an abstraction's parts
  record ArePartsOf (a b : Term) (p : Abstraction) : Type 0 where
    checks : (d : List Term) (k : ℕ) (x : Term) → p.check d k ≡ Ok x → HasLazyForm sig d a x
    bodies : (d : List Term) (k : ℕ) (s : Typing) → p.body d k ≡ Ok s → HasLazyType sig d b s.of s.value

  -- what a reading answers, is so
  record AnswersHold (t : Term) (r : Reading) : Type 0 where
    finds : (d : List Term) (k : ℕ) (s : Typing) → r.find d k ≡ Ok s → HasLazyType sig d t s.of s.value
    checks : (d : List Term) (k : ℕ) (x : Term) → r.check d k ≡ Ok x → HasLazyForm sig d t x
    prf : r.is_prf ≡ true → t ≡ con prf_name
    parts : (p : Abstraction) → r.parts ≡ Some p → (a : Term) × (b : Term) × (t ≡ lam a b) × ArePartsOf a b p

  no_sort_is : (f : List Term → ℕ → Result Typing Fault) (t : Term) (d : List Term) (k : ℕ) (x : Term) → no_sort f d k ≡ Ok x → HasLazyForm sig d t x
  no_sort_is f t d k x h = let i = and_is (f d k) _ x h in absurd cc

  plain_sound : (t : Term) (f : List Term → ℕ → Result Typing Fault) → ((d : List Term) (k : ℕ) (s : Typing) → f d k ≡ Ok s → HasLazyType sig d t s.of s.value) → AnswersHold t (plain f)
  plain_sound t f h = record { finds = h; checks = no_sort_is f t; prf = λ e. absurd cc; parts = λ p e. absurd cc }

  nowhere_is : (t : Term) (d : List Term) (k : ℕ) (s : Typing) → nowhere d k ≡ Ok s → HasLazyType sig d t s.of s.value
  nowhere_is t d k s h = absurd cc

  within_is : (k : ℕ) (a b : Term) (r s : Typing) → within k a b r ≡ Ok s → IsAllowed (simple_of a) (simple_of b) × (r ≡ s)
  within_is k a b r s h = let i = if_is (is_allowed (simple_of a) (simple_of b)) r s (out_of_fragment k) h in (allowed_of (simple_of a) (simple_of b) i.0, i.1)

  pub argument_is : (d : List Term) (k : ℕ) (x : Term) (r : Typing) (w : Term) → argument_at d k x r ≡ Ok w → (full r.of ≡ full x) × (r.value ≡ w)
  argument_is d k x r w h = let i = if_is (same_term (full r.of) (full x)) r.value w _ h in (term_same (full r.of) (full x) i.0, i.1)

  as_found : {d : List Term} {t a v : Term} {s : Typing} → typing a v ≡ s → HasLazyType sig d t a v → HasLazyType sig d t s.of s.value
  as_found {d = d} {t = t} e h = subst (λ z. HasLazyType sig d t z.of z.value) e h

  pub con_finds : (x : List ℕ) → IsTermWord (word_of x) → (d : List Term) (k : ℕ) (s : Typing) → and_then (or_fault (declared sig x) (unknown_name k x)) (λ a. Ok (typing a (con x))) ≡ Ok s → HasLazyType sig d (con x) s.of s.value
  con_finds x c d k s h =
      let i = and_is (or_fault (declared sig x) (unknown_name k x)) (λ a. Ok (typing a (con x))) s h in
      let j = or_is (declared sig x) (unknown_name k x) i.0 i.1 in
      let e : typing i.0 (con x) ≡ s = cc in
      as_found e (lazy_con d c (declares sig x i.0 j))

  symbol_sound : (v : Word) (x : List ℕ) → v ≡ word_of x → IsNamed v x → AnswersHold (con x) (read_symbol sig v x)
  symbol_sound Individuals x e h = record { finds = nowhere_is (con x); checks = λ d k y q. let j : individuals ≡ y = cc in subst (λ z. HasLazyForm sig d (con x) z) j (rw h (form_individuals d)); prf = λ q. absurd cc; parts = λ p q. absurd cc }
  symbol_sound Propositions x e h = record { finds = nowhere_is (con x); checks = λ d k y q. let j : propositions ≡ y = cc in subst (λ z. HasLazyForm sig d (con x) z) j (rw h (form_propositions d)); prf = λ q. absurd cc; parts = λ p q. absurd cc }
  symbol_sound Prf x e h = record { finds = nowhere_is (con x); checks = no_sort_is nowhere (con x); prf = λ q. ap con h; parts = λ p q. absurd cc }
  symbol_sound _ x e h = plain_sound (con x) _ (con_finds x (subst IsTermWord e tt))

  lam_finds : (a t : Term) (x y : Reading) (c : ℕ) → AnswersHold a x → AnswersHold t y → (d : List Term) (k : ℕ) (s : Typing) → find_lam x y c d k ≡ Ok s → HasLazyType sig d (lam a t) s.of s.value
  lam_finds a t x y c h l d k s q =
      let i = and_is (x.check d (k + 1)) _ s q in
      let j = and_is (y.find (i.0 ∷ d) (k + 1 + c)) _ s i.2 in
      let m = within_is k i.0 j.0.of _ s j.2 in
      as_found m.1 (lazy_lam (h.checks d (k + 1) i.0 i.1) (l.finds (i.0 ∷ d) (k + 1 + c) j.0 j.1) m.0)

  lam_sound : (a t : Term) (x y : Reading) (c : ℕ) → AnswersHold a x → AnswersHold t y → AnswersHold (lam a t) (read_lam x y c)
  lam_sound a t x y c h l = record {
    finds = lam_finds a t x y c h l;
    checks = no_sort_is (find_lam x y c) (lam a t);
    prf = λ q. absurd cc;
    parts = part;
  }
    where
      part : (p : Abstraction) → Some (record { check = x.check; body = y.find; nodes = c }) ≡ Some p → (u : Term) × (v : Term) × (lam a t ≡ lam u v) × ArePartsOf u v p
      part p q = let e : record { check = x.check; body = y.find; nodes = c } ≡ p = cc in (a, t, refl, subst (λ z. ArePartsOf a t z) e (record { checks = h.checks; bodies = l.finds }))

  pi_sound : (a b : Term) (x y : Reading) (c : ℕ) → AnswersHold a x → AnswersHold b y → AnswersHold (pi a b) (read_pi x y c)
  pi_sound a b x y c h l = record { finds = nowhere_is (pi a b); checks = go; prf = λ q. absurd cc; parts = λ p q. absurd cc }
    where
      go : (d : List Term) (k : ℕ) (z : Term) → and_then (x.check d (k + 1)) (λ u. and_then (y.check (u ∷ d) (k + 1 + c)) (λ v. Ok (pi u v))) ≡ Ok z → HasLazyForm sig d (pi a b) z
      go d k z q =
          let i = and_is (x.check d (k + 1)) _ z q in
          let j = and_is (y.check (i.0 ∷ d) (k + 1 + c)) _ z i.2 in
          let e : pi i.0 j.0 ≡ z = cc in
          subst (λ u. HasLazyForm sig d (pi a b) u) e (form_pi (h.checks d (k + 1) i.0 i.1) (l.checks (i.0 ∷ d) (k + 1 + c) j.0 j.1))

  as_value : {d : List Term} {t a v w : Term} → v ≡ w → HasLazyType sig d t a v → HasLazyType sig d t a w
  as_value {d = d} {t = t} {a = a} e h = subst (λ z. HasLazyType sig d t a z) e h

  product_is : (t : Term) (f : Term → Term → Result Typing Fault) (e : Fault) (s : Typing) → product_or t f e ≡ Ok s → (a : Term) × (b : Term) × (t ≡ pi a b) × (f a b ≡ Ok s)
  product_is (pi a b) f e s h = (a, b, refl, h)
  product_is type f e s h = absurd cc
  product_is kind f e s h = absurd cc
  product_is (con x) f e s h = absurd cc
  product_is (pat x) f e s h = absurd cc
  product_is (var n) f e s h = absurd cc
  product_is (app t u) f e s h = absurd cc
  product_is (lam t u) f e s h = absurd cc

  let_finds : (a b u : Term) (p : Abstraction) (y : Reading) (c : ℕ) → ArePartsOf a b p → AnswersHold u y → (d : List Term) (k : ℕ) (s : Typing) → find_let p y c d k ≡ Ok s → HasLazyType sig d (app (lam a b) u) s.of s.value
  let_finds a b u p y c h l d k s q =
      let i = and_is (p.check d (k + 2)) _ s q in
      let j = and_is (y.find d (k + 1 + c)) _ s i.2 in
      let m = and_is (argument_at d (k + 1 + c) i.0 j.0) _ s j.2 in
      let n = and_is (p.body (i.0 ∷ d) (k + 2 + p.nodes)) _ s m.2 in
      let o = within_is k i.0 n.0.of _ s n.2 in
      let r = argument_is d (k + 1 + c) i.0 j.0 m.0 m.1 in
      as_found o.1 (lazy_let (h.checks d (k + 2) i.0 i.1) (as_value r.1 (l.finds d (k + 1 + c) j.0 j.1)) r.0 (h.bodies (i.0 ∷ d) (k + 2 + p.nodes) n.0 n.1) o.0)

  app_finds : (f u : Term) (x y : Reading) (c : ℕ) → AnswersHold f x → AnswersHold u y → (d : List Term) (k : ℕ) (s : Typing) → find_app x y c d k ≡ Ok s → HasLazyType sig d (app f u) s.of s.value
  app_finds f u x y c h l d k s q =
      let i = and_is (x.find d (k + 1)) _ s q in
      let z = product_is (opened i.0.of) _ _ s i.2 in
      let j = and_is (y.find d (k + 1 + c)) _ s z.3 in
      let m = and_is (argument_at d (k + 1 + c) z.0 j.0) _ s j.2 in
      let o = within_is k z.0 z.1 _ s m.2 in
      let r = argument_is d (k + 1 + c) z.0 j.0 m.0 m.1 in
      as_found o.1 (lazy_app (h.finds d (k + 1) i.0 i.1) z.2 (as_value r.1 (l.finds d (k + 1 + c) j.0 j.1)) r.0 o.0)

  applied_finds : (f u : Term) (x y : Reading) (c : ℕ) (o : Option Abstraction) → x.parts ≡ o → AnswersHold f x → AnswersHold u y → (d : List Term) (k : ℕ) (s : Typing) → find_applied o x y c d k ≡ Ok s → HasLazyType sig d (app f u) s.of s.value
  applied_finds f u x y c (Some p) e h l d k s q =
      let i = h.parts p e in
      subst (λ z. HasLazyType sig d (app z u) s.of s.value) (sym i.2) (let_finds i.0 i.1 u p y c i.3 l d k s q)
  applied_finds f u x y c None e h l d k s q = app_finds f u x y c h l d k s q

  prf_checks : (u : Term) (y : Reading) → AnswersHold u y → (d : List Term) (k : ℕ) (x : Term) → check_prf y d k ≡ Ok x → HasLazyForm sig d (proof_of u) x
  prf_checks u y l d k x q =
      let i = and_is (y.find d (k + 2)) _ x q in
      let j = and_is (argument_at d (k + 2) propositions i.0) _ x i.2 in
      let r = argument_is d (k + 2) propositions i.0 j.0 j.1 in
      let e : proof_of j.0 ≡ x = cc in
      subst (λ z. HasLazyForm sig d (proof_of u) z) e (form_proof (as_value r.1 (l.finds d (k + 2) i.0 i.1)) r.0)

  app_checks : (f u : Term) (x y : Reading) (c : ℕ) (b : Bool) → x.is_prf ≡ b → AnswersHold f x → AnswersHold u y → (d : List Term) (k : ℕ) (z : Term) → (if b then check_prf y else no_sort (find_applied x.parts x y c)) d k ≡ Ok z → HasLazyForm sig d (app f u) z
  app_checks f u x y c true e h l d k z q = subst (λ w. HasLazyForm sig d (app w u) z) (sym (h.prf e)) (prf_checks u y l d k z q)
  app_checks f u x y c false e h l d k z q = no_sort_is (find_applied x.parts x y c) (app f u) d k z q

  app_sound : (f u : Term) (x y : Reading) (c : ℕ) → AnswersHold f x → AnswersHold u y → AnswersHold (app f u) (read_app x y c)
  app_sound f u x y c h l = record {
    finds = applied_finds f u x y c x.parts refl h l;
    checks = app_checks f u x y c x.is_prf refl h l;
    prf = λ q. absurd cc;
    parts = λ p q. absurd cc;
  }

  var_finds : (n : ℕ) (d : List Term) (k : ℕ) (s : Typing) → and_then (or_fault (type_at d n) (out_of_fragment k)) (λ a. Ok (typing a (var n))) ≡ Ok s → HasLazyType sig d (var n) s.of s.value
  var_finds n d k s h =
      let i = and_is (or_fault (type_at d n) (out_of_fragment k)) (λ a. Ok (typing a (var n))) s h in
      let j = or_is (type_at d n) (out_of_fragment k) i.0 i.1 in
      let e : typing i.0 (var n) ≡ s = cc in
      as_found e (lazy_var (given d n i.0 j))

  answers_hold : (t : Term) → AnswersHold t (read sig t)
  answers_hold (var n) = plain_sound (var n) _ (var_finds n)
  answers_hold (con x) = symbol_sound (word_of x) x refl (named x)
  answers_hold (app f u) = app_sound f u (read sig f) (read sig u) (node_count f) (answers_hold f) (answers_hold u)
  answers_hold (lam a t) = lam_sound a t (read sig a) (read sig t) (node_count a) (answers_hold a) (answers_hold t)
  answers_hold (pi a b) = pi_sound a b (read sig a) (read sig b) (node_count a) (answers_hold a) (answers_hold b)
  answers_hold type = plain_sound type nowhere (nowhere_is type)
  answers_hold kind = plain_sound kind nowhere (nowhere_is kind)
  answers_hold (pat x) = plain_sound (pat x) nowhere (nowhere_is (pat x))

  -- what the function finds, is looked up
  pub answer_has_type : (t : Term) (d : List Term) (k : ℕ) (s : Typing) → (read sig t).find d k ≡ Ok s → HasLazyType sig d t s.of s.value
  answer_has_type t d k s h = (answers_hold t).finds d k s h

  pub answer_is_form : (t : Term) (d : List Term) (k : ℕ) (x : Term) → (read sig t).check d k ≡ Ok x → HasLazyForm sig d t x
  answer_is_form t d k x h = (answers_hold t).checks d k x h
