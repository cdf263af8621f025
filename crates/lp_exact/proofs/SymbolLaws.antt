-- The symbols of a signature of the fragment agree with the words.
use Rattle.std.proofs.Common.{◌≡◌, ℕ, List, ◌∷◌, Option, Some, inl, inr, refl, sym, ap, ◌∙◌, subst}
use Rattle.lp_term.specs.LambdaPi.{Term, var}
use Rattle.lp_term.specs.Names.{or_name, not_name}
use Rattle.lp_term.specs.Typing.{Declaration, Declares}
use Rattle.lp_term.proofs.PreludeLaws.{of_prelude}
use Rattle.lp_exact.specs.declared.word.Word.{Word}
use Rattle.lp_exact.specs.declared.word.Word.TheVariants.{Individuals, Propositions, Prf, Imp, And, Or, Iff, Not, Top, Bot, All, Ex, Other}
use Rattle.lp_exact.specs.Words.{word_of}
use Rattle.lp_exact.specs.Objects.{Simple, individual, truth, function, simple_term, simple_of, simple_here, IsNormal, normal_neutral, neutral_var, neutral_con, neutral_app, IsLazy, lazy_individuals, lazy_propositions, lazy_proof, lazy_pi}
use Rattle.lp_exact.specs.Symbols.{IsSimpleOfWord, AreSimpleOfWords, IsTermWord, IsFragmentSignature, HasSimpleType, middle_type}
use Rattle.lp_exact.proofs.WordLaws.{IsNamed, named}
use Rattle.lp_exact.proofs.SimpleLaws.{simple_of_simple, is_simple}
use Rattle.lp_exact.proofs.PreludeSymbols.{declares_all, declares_and, declares_bot, declares_ex, declares_iff, declares_imp, declares_not, declares_or, declares_top}

module _ {sig : List Declaration} (w : IsFragmentSignature sig) where
  one_type : {x : List ℕ} {a : Simple} {b : Term} (s : Simple) → Declares sig x (simple_term a) → Declares sig x b → simple_of b ≡ Some s → a ≡ s
  one_type {x = x} {a = a} {b = b} s h k e =
      let i : Some a ≡ Some s = sym (simple_of_simple a) ∙ ap simple_of (w.once.same x (simple_term a) b h k) ∙ e in cc

  at_name : {x y : List ℕ} (a : Simple) → x ≡ y → Declares sig x (simple_term a) → Declares sig y (simple_term a)
  at_name a e h = subst (λ z. Declares sig z (simple_term a)) e h

  binary : Simple
  binary = function truth (function truth truth)

  -- a declared word has its simple type
  word_agrees : (v : Word) (x : List ℕ) (a : Simple) → IsNamed v x → IsTermWord v → Declares sig x (simple_term a) → IsSimpleOfWord v a
  unfolding binary
  word_agrees Individuals x a e h k = h
  word_agrees Propositions x a e h k = h
  word_agrees Prf x a e h k = h
  word_agrees Imp x a e h k = one_type binary (at_name a e k) (of_prelude w.extends declares_imp) refl
  word_agrees And x a e h k = one_type binary (at_name a e k) (of_prelude w.extends declares_and) refl
  word_agrees Or x a e h k = one_type binary (at_name a e k) (of_prelude w.extends declares_or) refl
  word_agrees Iff x a e h k = one_type binary (at_name a e k) (of_prelude w.extends declares_iff) refl
  word_agrees Not x a e h k = one_type (function truth truth) (at_name a e k) (of_prelude w.extends declares_not) refl
  word_agrees Top x a e h k = one_type truth (at_name a e k) (of_prelude w.extends declares_top) refl
  word_agrees Bot x a e h k = one_type truth (at_name a e k) (of_prelude w.extends declares_bot) refl
  word_agrees All x a e h k = one_type (function (function individual truth) truth) (at_name a e k) (of_prelude w.extends declares_all) refl
  word_agrees Ex x a e h k = one_type (function (function individual truth) truth) (at_name a e k) (of_prelude w.extends declares_ex) refl
  word_agrees Other x a e h k = tt

  -- the symbols agree with the words
  pub words_agree : AreSimpleOfWords (HasSimpleType sig)
  words_agree = record {
    falsity = (of_prelude w.extends declares_bot, tt);
    agrees = λ x a h. word_agrees (word_of x) x a (named x) h.1 h.0;
  }

  -- simple types, and that of the excluded middle, are lazy
  lazy_simple : (s : Simple) (g : List (Option Simple)) → IsLazy (HasSimpleType sig) g (simple_term s)
  lazy_simple individual g = lazy_individuals g
  lazy_simple truth g = lazy_propositions g
  lazy_simple (function a b) g = lazy_pi (lazy_simple a g) (lazy_simple b (simple_of (simple_term a) ∷ g))

  lazy_middle : (g : List (Option Simple)) → IsLazy (HasSimpleType sig) g middle_type
  unfolding binary
  lazy_middle g =
      let v : IsNormal (HasSimpleType sig) (Some truth ∷ g) (var 0) truth = normal_neutral (neutral_var (simple_here g truth)) in
      let o : HasSimpleType sig or_name binary = (of_prelude w.extends declares_or, tt) in
      let n : HasSimpleType sig not_name (function truth truth) = (of_prelude w.extends declares_not, tt) in
      lazy_pi (lazy_propositions g) (lazy_proof (normal_neutral (neutral_app {a = truth} (neutral_app {a = truth} (neutral_con (Some truth ∷ g) {a = binary} o) v) (normal_neutral (neutral_app {a = truth} (neutral_con (Some truth ∷ g) {a = function truth truth} n) v)))))

  -- the type of a symbol of objects is lazy
  pub symbol_lazy : (g : List (Option Simple)) (x : List ℕ) (a : Term) → IsTermWord (word_of x) → Declares sig x a → IsLazy (HasSimpleType sig) g a × ((s : Simple) → simple_of a ≡ Some s → HasSimpleType sig x s)
  symbol_lazy g x a i h = (
    elim (w.typed x a i h) [ inl r ↦ rw (r.1) (lazy_simple r.0 g) | inr e ↦ rw e (lazy_middle g) ],
    λ s e. (subst (λ y. Declares sig x y) (is_simple a s e) h, i),
  )
