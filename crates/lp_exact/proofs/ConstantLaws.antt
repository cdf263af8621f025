-- The prelude with constants of simple types beside it is a well-formed signature of the fragment.
use Rattle.std.proofs.Common.{◌≡◌, ℕ, suc, List, [], ◌∷◌, ◌++◌, ◌⊎◌, inl, inr, refl, sym, ap, ap₂, ◌∙◌, subst}
use Rattle.lp_term.specs.Connectives.{arrow, propositions}
use Rattle.lp_term.specs.LambdaPi.{Term, pi, type, substitute, under_binder}
use Rattle.lp_term.specs.Signature.{Extends, prelude_declarations}
use Rattle.lp_term.specs.Typing.{Declaration, Declares, declared_here, declared_later, sort_type, HasType, has_pi}
use Rattle.lp_term.proofs.ConnectiveRules.{prop_type}
use Rattle.lp_term.proofs.PreludeLaws.{spelled, prelude_is_spelled}
use Rattle.lp_term.proofs.QuantifierRules.{i_type}
use Rattle.lp_exact.specs.declared.word.Word.{Word}
use Rattle.lp_exact.specs.declared.word.Word.TheVariants.{Individuals, Propositions, Prf}
use Rattle.lp_exact.specs.Degrees.{IsGraded, degree, word_degree}
use Rattle.lp_exact.specs.Objects.{Simple, individual, truth, function, simple_term}
use Rattle.lp_exact.specs.Signatures.{HasSort, IsWellFormedSignature}
use Rattle.lp_exact.specs.Symbols.{AreConstants, IsFragmentSignature, IsTermWord}
use Rattle.lp_exact.specs.Words.{word_of}
use Rattle.lp_exact.proofs.PreludeOrder.{HasGrade, IsSimpleType, declared_closed, declared_grade, declared_once, declared_simple, declared_sorted}
use Rattle.lp_exact.proofs.PreludeSymbols.{declares_i, declares_prf, declares_prop}
use Rattle.lp_exact.proofs.WordLaws.{IsNamed, named}

-- ---- simple types

pub simple_closed : (s : Simple) (f : ℕ → Term) → substitute f (simple_term s) ≡ simple_term s
simple_closed individual f = refl
simple_closed truth f = refl
simple_closed (function a b) f = ap₂ pi (simple_closed a f) (simple_closed b (under_binder f))

simple_degree : (s : Simple) → degree (simple_term s) ≡ 1
simple_degree individual = refl
simple_degree truth = refl
simple_degree (function a b) = simple_degree b

simple_graded : (s : Simple) → IsGraded (simple_term s)
simple_graded individual = tt
simple_graded truth = tt
simple_graded (function a b) = (simple_graded a, simple_graded b, simple_degree a)

pub simple_typed : {sig : List Declaration} → Extends sig → (s : Simple) (g : List Term) → HasType sig g (simple_term s) type
simple_typed {sig = sig} e individual g = i_type sig e g
simple_typed {sig = sig} e truth g = prop_type sig e g
simple_typed e (function a b) g = has_pi sort_type (simple_typed e a g) (simple_typed e b (simple_term a ∷ g))

-- ---- declarations of two lists

declares_first : {l : List Declaration} {x : List ℕ} {a : Term} (m : List Declaration) → Declares l x a → Declares (l ++ m) x a
declares_first m (declared_here l d) = declared_here (l ++ m) d
declares_first m (declared_later d h) = declared_later d (declares_first m h)

declares_either : (l m : List Declaration) {x : List ℕ} {a : Term} → Declares (l ++ m) x a → Declares l x a ⊎ Declares m x a
declares_either [] m h = inr h
declares_either (d ∷ l) m (declared_here k e) = inl (declared_here l d)
declares_either (d ∷ l) m (declared_later e h) = elim (declares_either l m h) [ inl k ↦ inl (declared_later d k) | inr k ↦ inr k ]

-- ---- the constants beside the prelude

-- a symbol that isn't the prelude's makes no types
new_degree : (w : Word) (x : List ℕ) → IsNamed w x → ((b : Term) → Declares spelled x b → ⊥) → word_degree w ≡ 0
new_degree Individuals x e h = absurd (h type (rw e declares_i))
new_degree Propositions x e h = absurd (h type (rw e declares_prop))
new_degree Prf x e h = absurd (h (arrow propositions type) (rw e declares_prf))
new_degree _ x e h = refl

module _ {m : List Declaration} (w : AreConstants m) where
  not_declared : {x : List ℕ} {a : Term} → Declares m x a → (b : Term) → Declares spelled x b → ⊥
  not_declared {x = x} {a = a} h b k = w.new x a b h (subst (λ l. Declares l x b) (sym prelude_is_spelled) k)

  closed : {x : List ℕ} {a : Term} → Declares (spelled ++ m) x a → (f : ℕ → Term) → substitute f a ≡ a
  closed {x = x} {a = a} h f = elim (declares_either spelled m h) [
    | inl k ↦ declared_closed k f
    | inr k ↦ let s = w.simple x a k in rw (s.1) (simple_closed s.0 f)
  ]

  extends : Extends (spelled ++ m)
  extends = record {
    declares = λ x a h. declares_first m (subst (λ l. Declares l x a) prelude_is_spelled h);
    closed = λ x a h f. closed h f;
  }

  constant_grade : {x : List ℕ} {a : Term} → Declares m x a → HasGrade x a
  constant_grade {x = x} {a = a} h =
      let s = w.simple x a h in
      let d : word_degree (word_of x) ≡ 0 = new_degree (word_of x) x (named x) (not_declared h) in
      rw (s.1) (simple_graded s.0, simple_degree s.0 ∙ ap (λ n. suc n) (sym d))

  grade : {x : List ℕ} {a : Term} → Declares (spelled ++ m) x a → HasGrade x a
  grade h = elim (declares_either spelled m h) [ inl k ↦ declared_grade k | inr k ↦ constant_grade k ]

  once : (x : List ℕ) (a b : Term) → Declares (spelled ++ m) x a → Declares (spelled ++ m) x b → a ≡ b
  once x a b h k = elim (declares_either spelled m h) [
    | inl i ↦ elim (declares_either spelled m k) [ inl j ↦ declared_once x a b i j | inr j ↦ absurd (not_declared j a i) ]
    | inr i ↦ elim (declares_either spelled m k) [ inl j ↦ absurd (not_declared i b j) | inr j ↦ w.once.same x a b i j ]
  ]

  sorted : {x : List ℕ} {a : Term} (g : List Term) → Declares (spelled ++ m) x a → HasSort (spelled ++ m) g a
  sorted {x = x} {a = a} g h = elim (declares_either spelled m h) [
    | inl k ↦ declared_sorted extends g k
    | inr k ↦ let s = w.simple x a k in (type, sort_type, rw (s.1) (simple_typed extends s.0 g))
  ]

  simple : {x : List ℕ} {a : Term} → IsTermWord (word_of x) → Declares (spelled ++ m) x a → IsSimpleType a
  simple {x = x} {a = a} i h = elim (declares_either spelled m h) [ inl k ↦ declared_simple k i | inr k ↦ inl (w.simple x a k) ]

  spelled_well_formed : IsWellFormedSignature (spelled ++ m)
  spelled_well_formed = record {
    extends = extends;
    graded = record { grades = λ x a h. grade h };
    once = record { same = once };
    sorted = λ x a g h. sorted g h;
  }

  spelled_fragment : IsFragmentSignature (spelled ++ m)
  spelled_fragment = record {
    extends = extends;
    once = record { same = once };
    typed = λ x a i h. simple i h;
  }

  pub constants_well_formed : IsWellFormedSignature (prelude_declarations ++ m)
  constants_well_formed = subst (λ l. IsWellFormedSignature (l ++ m)) (sym prelude_is_spelled) spelled_well_formed

  pub constants_fragment : IsFragmentSignature (prelude_declarations ++ m)
  constants_fragment = subst (λ l. IsFragmentSignature (l ++ m)) (sym prelude_is_spelled) spelled_fragment
