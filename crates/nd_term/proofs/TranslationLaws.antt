-- Translations under renaming and substitution, and their types.
use Rattle.std.proofs.Common.{◌≡◌, ℕ, zero, suc, List, ◌∷◌, Bool, true, false, not, refl, sym, ap, ap₂, ◌∙◌}
use Rattle.lp_term.specs.Names.{any_name}
use Rattle.lp_term.specs.LambdaPi.{Term, app, con, for_last, instantiate, lam, rename, shift, substitute, type, under_binder, under_renaming, var}
use Rattle.lp_term.specs.Connectives.{all, and, ex, iff, imp, individuals, neg, or, proof_of, propositions}
use Rattle.lp_term.specs.Typing.{Declaration, HasType, has_con}
use Rattle.lp_term.specs.Signature.{Extends}
use Rattle.lp_term.proofs.SubstitutionLaws.{ext, instantiate_shift, rename_is_substitute, shift_rename, shift_substitute}
use Rattle.lp_term.proofs.ConnectiveRules.{arrow_app, bot_con, imp_prop, last, neg_prop, or_prop, prf_type}
use Rattle.lp_term.proofs.QuantifierRules.{all_prop, and_prop, any_con, ex_prop, fun_type, iff_prop, top_con, weakened}
use Rattle.nd_term.specs.Formulas.{Formula, FormulaTerm, GroundTerm, Literal, applied, atomic, bound, conjunction, disjunction, eigenvariable, equivalence, existential, extended, falsity, ground_applied, ground_by, ground_symbol, implication, negation, symbol, truth, universal}
use Rattle.nd_term.specs.Translation.{literal_type, sentence, signed, translated, translated_at, translated_ground, translated_term}
use Rattle.nd_term.specs.Symbols.{FormulaOver, GroundOver, TermOver, function_type, over_applied, over_atomic, over_bound, over_conjunction, over_disjunction, over_eigenvariable, over_equivalence, over_existential, over_falsity, over_ground_applied, over_ground_symbol, over_implication, over_negation, over_symbol, over_truth, over_universal}
use Rattle.nd_term.specs.Eigenvariables.{Eigenvariable, origin_body, witness_at, witness_formula}
use Rattle.nd_term.specs.Consumers.{lift}

translated_term_substitute : (q v : ℕ → Term) (t : FormulaTerm) → substitute q (translated_term v t) ≡ translated_term (λ n. substitute q (v n)) t
translated_term_substitute q v (bound n) = refl
translated_term_substitute q v (symbol x) = refl
translated_term_substitute q v (applied t u) = ap₂ app (translated_term_substitute q v t) (translated_term_substitute q v u)

under_binder_twice : (q v : ℕ → Term) (n : ℕ) → substitute (under_binder q) (under_binder v n) ≡ under_binder (λ m. substitute q (v m)) n
under_binder_twice q v zero = refl
under_binder_twice q v (suc n) = shift_substitute q (v n)

pub translated_substitute : (q v : ℕ → Term) (f : Formula) → substitute q (translated v f) ≡ translated (λ n. substitute q (v n)) f
translated_substitute q v truth = refl
translated_substitute q v falsity = refl
translated_substitute q v (atomic t) = translated_term_substitute q v t
translated_substitute q v (negation f) = ap neg (translated_substitute q v f)
translated_substitute q v (conjunction f h) = ap₂ and (translated_substitute q v f) (translated_substitute q v h)
translated_substitute q v (disjunction f h) = ap₂ or (translated_substitute q v f) (translated_substitute q v h)
translated_substitute q v (implication f h) = ap₂ imp (translated_substitute q v f) (translated_substitute q v h)
translated_substitute q v (equivalence f h) = ap₂ iff (translated_substitute q v f) (translated_substitute q v h)
translated_substitute q v (universal f) = ap (λ b. all (lam individuals b)) (translated_substitute (under_binder q) (under_binder v) f ∙ ap (λ w. translated w f) (ext (under_binder_twice q v)))
translated_substitute q v (existential f) = ap (λ b. ex (lam individuals b)) (translated_substitute (under_binder q) (under_binder v) f ∙ ap (λ w. translated w f) (ext (under_binder_twice q v)))

-- a translation under one more binder
pub translated_shift : (v : ℕ → Term) (f : Formula) → shift (translated v f) ≡ translated (λ n. shift (v n)) f
translated_shift v f =
    rename_is_substitute (translated v f) (λ n. suc n)
    ∙ translated_substitute (λ n. var (suc n)) v f
    ∙ ap (λ w. translated w f) (ext (λ k. sym (rename_is_substitute (v k) (λ n. suc n))))

up_shift : (v : ℕ → Term) (n : ℕ) → substitute (λ m. var (under_renaming (λ k. suc k) m)) (under_binder v n) ≡ under_binder (λ m. shift (v m)) n
up_shift v zero = refl
up_shift v (suc n) = sym (rename_is_substitute (shift (v n)) (under_renaming (λ k. suc k))) ∙ shift_rename (λ k. suc k) (v n)

-- a quantifier's body below one more variable outside
pub translated_under : (v : ℕ → Term) (f : Formula) → rename (under_renaming (λ k. suc k)) (translated (under_binder v) f) ≡ translated (under_binder (λ n. shift (v n))) f
translated_under v f =
    rename_is_substitute (translated (under_binder v) f) (under_renaming (λ k. suc k))
    ∙ translated_substitute (λ m. var (under_renaming (λ k. suc k) m)) (under_binder v) f
    ∙ ap (λ w. translated w f) (ext (up_shift v))

pub translated_ground_shift : (x : ℕ → Term) (t : GroundTerm) → shift (translated_ground x t) ≡ translated_ground (λ k. shift (x k)) t
translated_ground_shift x (eigenvariable k) = refl
translated_ground_shift x (ground_symbol s) = refl
translated_ground_shift x (ground_applied t u) = ap₂ app (translated_ground_shift x t) (translated_ground_shift x u)

pub sentence_shift : (f : Formula) → shift (sentence f) ≡ sentence f
sentence_shift f = translated_shift (λ n. con any_name) f

pub translated_at_shift : (x : ℕ → Term) (s : ℕ → GroundTerm) (f : Formula) → shift (translated_at x s f) ≡ translated_at (λ k. shift (x k)) s f
translated_at_shift x s f = translated_shift (λ n. translated_ground x (s n)) f ∙ ap (λ v. translated v f) (ext (λ n. translated_ground_shift x (s n)))

inst_up : (x : ℕ → Term) (s : ℕ → GroundTerm) (u : GroundTerm) (n : ℕ) → substitute (for_last (translated_ground x u)) (under_binder (λ m. translated_ground x (s m)) n) ≡ translated_ground x (extended u s n)
inst_up x s u zero = refl
inst_up x s u (suc n) = instantiate_shift (translated_ground x (s n)) (translated_ground x u)

-- a quantifier's body at a ground term
pub translated_instantiate : (x : ℕ → Term) (s : ℕ → GroundTerm) (u : GroundTerm) (f : Formula) → instantiate (translated (under_binder (λ n. translated_ground x (s n))) f) (translated_ground x u) ≡ translated_at x (extended u s) f
translated_instantiate x s u f = translated_substitute (for_last (translated_ground x u)) (under_binder (λ n. translated_ground x (s n))) f ∙ ap (λ v. translated v f) (ext (inst_up x s u))

pub translated_term_ground : (x : ℕ → Term) (s : ℕ → GroundTerm) (t : FormulaTerm) → translated_term (λ n. translated_ground x (s n)) t ≡ translated_ground x (ground_by s t)
translated_term_ground x s (bound n) = refl
translated_term_ground x s (symbol c) = refl
translated_term_ground x s (applied t u) = ap₂ app (translated_term_ground x s t) (translated_term_ground x s u)

signed_shift : (b : Bool) (x : ℕ → Term) (a : GroundTerm) → shift (proof_of (signed b (translated_ground x a))) ≡ proof_of (signed b (translated_ground (λ k. shift (x k)) a))
signed_shift true x a = ap proof_of (translated_ground_shift x a)
signed_shift false x a = ap (λ y. proof_of (neg y)) (translated_ground_shift x a)

pub literal_shift : (x : ℕ → Term) (l : Literal) → shift (literal_type x l) ≡ literal_type (λ k. shift (x k)) l
literal_shift x l = signed_shift (not l.positive) x l.atom

pub origin_shift : (x : ℕ → Term) (o : Eigenvariable) → rename (under_renaming (λ k. suc k)) (origin_body x o) ≡ origin_body (lift x) o
origin_shift x o = translated_under (λ n. translated_ground x (o.puts n)) o.body ∙ ap (λ v. translated (under_binder v) o.body) (ext (λ n. translated_ground_shift x (o.puts n)))

pub witness_at_shift : (b : Bool) (c a : Term) → shift (witness_at b c a) ≡ witness_at b (rename (under_renaming (λ k. suc k)) c) (shift a)
witness_at_shift true c a = refl
witness_at_shift false c a = refl

pub witness_shift : (x : ℕ → Term) (k : ℕ) (o : Eigenvariable) → shift (witness_formula x k o) ≡ witness_formula (lift x) k o
witness_shift x k o =
    witness_at_shift o.positive (origin_body x o) (translated_at x (extended (eigenvariable k) o.puts) o.body)
    ∙ ap₂ (witness_at o.positive) (origin_shift x o) (translated_at_shift x (extended (eigenvariable k) o.puts) o.body)

module _ (sig : List Declaration) (e : Extends sig) where
  -- each variable of a family has I
  abbrev pub Individuals : List Term → (ℕ → Term) → Type 0
  Individuals g v = (k : ℕ) → HasType sig g (v k) individuals

  pub individuals_shift : {g : List Term} {v : ℕ → Term} (a : Term) → Individuals g v → Individuals (a ∷ g) (λ k. shift (v k))
  individuals_shift a h = λ k. weakened sig e a (h k)

  pub individuals_under : {g : List Term} (v : ℕ → Term) → Individuals g v → Individuals (individuals ∷ g) (under_binder v)
  individuals_under v h zero = last sig e individuals
  individuals_under v h (suc n) = weakened sig e individuals (h n)

  term_types : {g : List Term} {r : Term} {n : ℕ} {t : FormulaTerm} (v : ℕ → Term) → Individuals g v → TermOver sig r n t → HasType sig g (translated_term v t) (function_type n r)
  term_types v h (over_bound n) = h n
  term_types {g = g} v h (over_symbol n d) = has_con g d
  term_types v h (over_applied i j) = arrow_app sig e (term_types v h i) (term_types v h j)

  pub translated_ground_types : {g : List Term} {r : Term} {n : ℕ} {t : GroundTerm} (x : ℕ → Term) → Individuals g x → GroundOver sig r n t → HasType sig g (translated_ground x t) (function_type n r)
  translated_ground_types x h (over_eigenvariable k) = h k
  translated_ground_types {g = g} x h (over_ground_symbol n d) = has_con g d
  translated_ground_types x h (over_ground_applied i j) = arrow_app sig e (translated_ground_types x h i) (translated_ground_types x h j)

  pub translated_types : {g : List Term} {f : Formula} (v : ℕ → Term) → Individuals g v → FormulaOver sig f → HasType sig g (translated v f) propositions
  translated_types {g = g} v h over_truth = top_con sig e g
  translated_types {g = g} v h over_falsity = bot_con sig e g
  translated_types v h (over_atomic k) = term_types v h k
  translated_types v h (over_negation i) = neg_prop sig e (translated_types v h i)
  translated_types v h (over_conjunction i j) = and_prop sig e (translated_types v h i) (translated_types v h j)
  translated_types v h (over_disjunction i j) = or_prop sig e (translated_types v h i) (translated_types v h j)
  translated_types v h (over_implication i j) = imp_prop sig e (translated_types v h i) (translated_types v h j)
  translated_types v h (over_equivalence i j) = iff_prop sig e (translated_types v h i) (translated_types v h j)
  translated_types v h (over_universal i) = all_prop sig e (fun_type sig e (translated_types (under_binder v) (individuals_under v h) i))
  translated_types v h (over_existential i) = ex_prop sig e (fun_type sig e (translated_types (under_binder v) (individuals_under v h) i))

  pub sentence_types : {g : List Term} {f : Formula} → FormulaOver sig f → HasType sig g (sentence f) propositions
  sentence_types {g = g} o = translated_types (λ n. con any_name) (λ n. any_con sig e g) o

  signed_prop : {g : List Term} {p : Term} (b : Bool) → HasType sig g p propositions → HasType sig g (signed b p) propositions
  signed_prop true k = k
  signed_prop false k = neg_prop sig e k

  -- a literal's variable has a type
  pub literal_sort : {g : List Term} (x : ℕ → Term) → Individuals g x → (l : Literal) → GroundOver sig propositions 0 l.atom → HasType sig g (literal_type x l) type
  literal_sort {g = g} x h l o = prf_type sig e (signed_prop (not l.positive) (translated_ground_types x h o))
