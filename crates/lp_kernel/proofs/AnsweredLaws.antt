-- What is looked up, the function finds.
use Rattle.std.proofs.Common.{◌≡◌, ℕ, suc, ◌+◌, ◌&&◌, Bool, true, false, if◌then◌else◌, List, ◌∷◌, length, Option, Some, None, ◌⊎◌, inl, inr, Result, Ok, Err, bytes_eq, refl, sym, ap, ap₂, ◌∙◌, subst}
use Rattle.std.proofs.lemmas.Slice.Eq.{bytes_eq-Decides}
use Rattle.std.proofs.lemmas.Bool.Decides.{Decides-eqb}
use Rattle.lp_term.specs.LambdaPi.{Term, type, kind, con, pat, var, app, lam, pi}
use Rattle.lp_term.specs.Connectives.{propositions}
use Rattle.lp_term.specs.Typing.{Declaration, Declares, declared_here, declared_later, Gives, given_here, given_later}
use Rattle.lp_exact.specs.declared.word.Word.{Word}
use Rattle.lp_exact.specs.declared.word.Word.TheVariants.{Individuals, Propositions, Prf}
use Rattle.lp_exact.specs.Words.{word_of}
use Rattle.lp_exact.specs.Layers.{opened}
use Rattle.lp_exact.specs.LazyTypes.{full}
use Rattle.lp_exact.specs.Normalisation.{put_at, apply_at}
use Rattle.lp_exact.specs.Objects.{Simple, simple_of}
use Rattle.lp_kernel.specs.Judgement.{IsAllowed}
use Rattle.lp_exact.specs.Symbols.{IsTermWord}
use Rattle.lp_kernel.specs.LazyJudgement.{kept, rank_of, HasLazyForm, form_individuals, form_propositions, form_pi, form_proof, HasLazyType, lazy_var, lazy_con, lazy_lam, lazy_let, lazy_app}
use Rattle.lp_kernel.specs.Checking.{exactly, a_product, Fault, unknown_name, out_of_fragment, ill_typed, Typing, typing, same_term, raised_one, type_at, declared, and_then, or_fault, is_allowed, within, argument_at, product_or, Abstraction, Reading, read_symbol, find_let, applied_to, find_argument, find_app, find_applied, read, node_count}
use Rattle.lp_exact.specs.Signatures.{DeclaresOnce}
use Rattle.lp_kernel.proofs.AnswerLaws.{declares}

pub term_is : (t : Term) → same_term t t ≡ true
term_is type = refl
term_is kind = refl
term_is (con x) = (bytes_eq-Decides x x).1 refl
term_is (pat x) = (bytes_eq-Decides x x).1 refl
term_is (var n) = (Decides-eqb n n).1 refl
term_is (app t u) = ap₂ (λ x y. x && y) (term_is t) (term_is u)
term_is (lam t u) = ap₂ (λ x y. x && y) (term_is t) (term_is u)
term_is (pi t u) = ap₂ (λ x y. x && y) (term_is t) (term_is u)

pub gives_at : {d : List Term} {n : ℕ} {a : Term} → Gives d n a → type_at d n ≡ Some a
gives_at (given_here d a) = refl
gives_at (given_later b h) = ap raised_one (gives_at h)

pub some_declared : {l : List Declaration} {x : List ℕ} {a : Term} → Declares l x a → (b : Term) × (declared l x ≡ Some b)
some_declared (declared_here l e) = (e.of, ap (λ b. if b then Some e.of else declared l e.name) ((bytes_eq-Decides e.name e.name).1 refl))
some_declared {x = x} (declared_later {l = l} e h) = go (bytes_eq e.name x) (some_declared h)
  where
    go : (b : Bool) → (c : Term) × (declared l x ≡ Some c) → (c : Term) × ((if b then Some e.of else declared l x) ≡ Some c)
    go true i = (e.of, refl)
    go false i = i

pub then_of : {A B : Type 0} {r : Result A Fault} {a : A} (f : A → Result B Fault) {b : Result B Fault} → r ≡ Ok a → f a ≡ b → and_then r f ≡ b
then_of f e h = ap (λ x. and_then x f) e ∙ h

is_allowed_of : (a b : Option Simple) → IsAllowed a b → is_allowed a b ≡ true
is_allowed_of None (Some b) h = absurd h
is_allowed_of None None h = refl
is_allowed_of (Some a) b h = refl

within_of : (k : ℕ) (a b : Term) (r : Typing) → IsAllowed (simple_of a) (simple_of b) → within k a b r ≡ Ok r
within_of k a b r h = ap (λ x. if x then Ok r else Err (out_of_fragment k)) (is_allowed_of (simple_of a) (simple_of b) h)

pub argument_of : (d : List Term) (k : ℕ) (x : Term) (r : Typing) → full r.of ≡ full x → argument_at d k x r ≡ Ok r.value
argument_of d k x r e = ap (λ b. if b then Ok r.value else Err (ill_typed k (exactly (full x)) (full r.of) (length d))) (ap (λ y. same_term y (full x)) e ∙ term_is (full x))

module _ (sig : List Declaration) (o : DeclaresOnce sig) where
  declared_of : {x : List ℕ} {a : Term} → Declares sig x a → declared sig x ≡ Some a
  declared_of {x = x} {a = a} h = let i = some_declared h in i.1 ∙ ap Some (o.same x i.0 a (declares sig x i.0 i.1) h)

  -- of an abstraction, what its parts answer
  abbrev AreAnswered : List Term → Option Abstraction → Term → Term → Type 0
  AreAnswered d o c v = (p : Abstraction) × (x : Term) × (b : Term) × (y : Term) × (o ≡ Some p) × (c ≡ pi x b) × (v ≡ lam x y) × ((k : ℕ) → p.check d k ≡ Ok x) × ((k : ℕ) → p.body (x ∷ d) k ≡ Ok (typing b y))

  record HasAnswers (d : List Term) (r : Reading) (c v : Term) : Type 0 where
    finds : (k : ℕ) → r.find d k ≡ Ok (typing c v)
    parts : (r.parts ≡ None) ⊎ AreAnswered d r.parts c v

  symbol_reads : (w : Word) (d : List Term) (x : List ℕ) (a : Term) → IsTermWord w → declared sig x ≡ Some a → HasAnswers d (read_symbol sig w x) a (con x)
  symbol_reads Individuals d x a c h = absurd c
  symbol_reads Propositions d x a c h = absurd c
  symbol_reads Prf d x a c h = absurd c
  symbol_reads _ d x a c h = record { finds = λ k. ap (λ z. and_then (or_fault z (unknown_name k x)) (λ a. Ok (typing a (con x)))) h; parts = inl refl }

  let_of : (d : List Term) (p : Abstraction) (u : Reading) (n k : ℕ) (x b y e w : Term) → p.check d (k + 2) ≡ Ok x → u.find d (k + 1 + n) ≡ Ok (typing e w) → full e ≡ full x → p.body (x ∷ d) (k + 2 + p.nodes) ≡ Ok (typing b y) → IsAllowed (simple_of x) (simple_of b)
      → find_let p u n d k ≡ Ok (typing (put_at (rank_of (simple_of x)) w b) (kept (simple_of b) (put_at (rank_of (simple_of x)) w y)))
  let_of d p u n k x b y e w h l q m a =
      then_of _ h (then_of _ l (then_of _ (argument_of d (k + 1 + n) x (typing e w) q) (then_of _ m (within_of k x b _ a))))

  app_of : (d : List Term) (f u : Reading) (n k : ℕ) (c v a b e w : Term) → f.find d (k + 1) ≡ Ok (typing c v) → opened c ≡ pi a b → u.find d (k + 1 + n) ≡ Ok (typing e w) → full e ≡ full a → IsAllowed (simple_of a) (simple_of b)
      → find_app f u n d k ≡ Ok (typing (put_at (rank_of (simple_of a)) w b) (kept (simple_of b) (apply_at (suc (rank_of (simple_of a))) v w)))
  app_of d f u n k c v a b e w h z l q m =
      let arg : find_argument u n d k v a b ≡ Ok (typing (put_at (rank_of (simple_of a)) w b) (kept (simple_of b) (apply_at (suc (rank_of (simple_of a))) v w))) =
      then_of (λ s. and_then (argument_at d (k + 1 + n) a s) (applied_to k v a b)) l
      (then_of (applied_to k v a b) (argument_of d (k + 1 + n) a (typing e w) q) (within_of k a b (typing (put_at (rank_of (simple_of a)) w b) (kept (simple_of b) (apply_at (suc (rank_of (simple_of a))) v w))) m)) in
      then_of (λ r. product_or (opened r.of) (find_argument u n d k r.value) (ill_typed (k + 1) a_product (full r.of) (length d))) h
      (ap (λ t. product_or t (find_argument u n d k v) (ill_typed (k + 1) a_product (full c) (length d))) z ∙ arg)

  applied_of : (d : List Term) (f u : Reading) (n k : ℕ) (c v a b e w : Term) → HasAnswers d f c v → opened c ≡ pi a b → ((j : ℕ) → u.find d j ≡ Ok (typing e w)) → full e ≡ full a → IsAllowed (simple_of a) (simple_of b)
      → find_applied f.parts f u n d k ≡ Ok (typing (put_at (rank_of (simple_of a)) w b) (kept (simple_of b) (apply_at (suc (rank_of (simple_of a))) v w)))
  applied_of d f u n k c v a b e w h z l q m = elim h.parts [
    | inl i ↦ ap (λ o. find_applied o f u n d k) i ∙ app_of d f u n k c v a b e w (h.finds (k + 1)) z (l (k + 1 + n)) q m
    | inr i ↦ parted i.0 i.1 i.2 i.3 i.4 i.5 i.6 i.7 i.8
  ]
    where
      parted : (p : Abstraction) (x g y : Term) → f.parts ≡ Some p → c ≡ pi x g → v ≡ lam x y → ((j : ℕ) → p.check d j ≡ Ok x) → ((j : ℕ) → p.body (x ∷ d) j ≡ Ok (typing g y)) → find_applied f.parts f u n d k ≡ Ok (typing (put_at (rank_of (simple_of a)) w b) (kept (simple_of b) (apply_at (suc (rank_of (simple_of a))) v w)))
      parted p x g y i r t s o =
          let simple_of_both : pi x g ≡ pi a b = ap opened (sym r) ∙ z in
          let ex : x ≡ a = cc in
          let eg : g ≡ b = cc in
          let body : p.body (a ∷ d) (k + 2 + p.nodes) ≡ Ok (typing b y) = subst (λ j. p.body (j ∷ d) (k + 2 + p.nodes) ≡ Ok (typing b y)) ex (subst (λ j. p.body (x ∷ d) (k + 2 + p.nodes) ≡ Ok (typing j y)) eg (o (k + 2 + p.nodes))) in
          let check : p.check d (k + 2) ≡ Ok a = s (k + 2) ∙ ap Ok ex in
          ap (λ j. find_applied j f u n d k) i ∙ let_of d p u n k a b y e w check (l (k + 1 + n)) q body m
          ∙ ap (λ j. Ok (typing (put_at (rank_of (simple_of a)) w b) (kept (simple_of b) (apply_at (suc (rank_of (simple_of a))) j w)))) (sym (t ∙ ap (λ j. lam j y) ex))

  mutual
    pub form_is_answered : {d : List Term} {a x : Term} → HasLazyForm sig d a x → (k : ℕ) → (read sig a).check d k ≡ Ok x
    form_is_answered (form_individuals d) k = refl
    form_is_answered (form_propositions d) k = refl
    form_is_answered (form_pi {a = a} h l) k = then_of _ (form_is_answered h (k + 1)) (then_of _ (form_is_answered l (k + 1 + node_count a)) refl)
    form_is_answered {d = d} (form_proof {e = e} {v = v} h q) k = then_of _ ((reads h).finds (k + 2)) (then_of _ (argument_of d (k + 2) propositions (typing e v) q) refl)

    reads : {d : List Term} {t a v : Term} → HasLazyType sig d t a v → HasAnswers d (read sig t) a v
    reads (lazy_var {n = n} h) = record { finds = λ k. ap (λ z. and_then (or_fault z (out_of_fragment k)) (λ a. Ok (typing a (var n)))) (gives_at h); parts = inl refl }
    reads (lazy_con d {s = x} {a = a} c h) = symbol_reads (word_of x) d x a c (declared_of h)
    reads {d = d} (lazy_lam {a = a} {b = b} {x = x} {t = t} {v = v} h l o) = record {
      finds = λ k. then_of _ (form_is_answered h (k + 1)) (then_of _ ((reads l).finds (k + 1 + node_count a)) (within_of k x b (typing (pi x b) (lam x v)) o));
      parts = inr (_, x, b, v, refl, refl, refl, form_is_answered h, (reads l).finds);
    }
    reads {d = d} (lazy_let {a = a} {b = b} {e = e} {x = x} {t = t} {u = u} {v = v} {w = w} h l q m o) = record {
      finds = λ k. let_of d (record { check = (read sig a).check; body = (read sig t).find; nodes = node_count a }) (read sig u) (node_count (lam a t)) k x b v e w (form_is_answered h (k + 2)) ((reads l).finds (k + 1 + node_count (lam a t))) q ((reads m).finds (k + 2 + node_count a)) o;
      parts = inl refl;
    }
    reads {d = d} (lazy_app {a = a} {b = b} {c = c} {e = e} {t = t} {u = u} {v = v} {w = w} h z l q o) = record {
      finds = λ k. applied_of d (read sig t) (read sig u) (node_count t) k c v a b e w (reads h) z ((reads l).finds) q o;
      parts = inl refl;
    }

  -- the function finds what is looked up
  pub type_is_answered : {d : List Term} {t a v : Term} → HasLazyType sig d t a v → (k : ℕ) → (read sig t).find d k ≡ Ok (typing a v)
  type_is_answered h k = (reads h).finds k
