-- The terms of subsumption and of resolution prove falsity.
use Rattle.std.proofs.Common.{◌≡◌, ℕ, suc, List, [], ◌∷◌, ◌++◌, map, true, false, refl, ap, ap₂, ◌∙◌}
use Rattle.lp_term.specs.LambdaPi.{Term, shift, type}
use Rattle.lp_term.specs.Connectives.{arrow, bot, proof_of, propositions}
use Rattle.lp_term.specs.Typing.{Declaration, HasType}
use Rattle.lp_term.specs.Signature.{Extends}
use Rattle.lp_term.specs.ProofTerms.{let_term}
use Rattle.lp_term.proofs.TypingLaws.{retype}
use Rattle.lp_term.proofs.ConnectiveRules.{arrow_app, arrow_lam, arrow_type, bot_con, last, neg_lam, prf_type}
use Rattle.lp_term.proofs.QuantifierRules.{rename_arrow, weakened}
use Rattle.dk_syntax.specs.Lists.{each_cons, each_nil, every_cons, every_nil}
use Rattle.nd_term.specs.Formulas.{GroundTerm, Literal, literal}
use Rattle.nd_term.specs.Translation.{literal_type, translated_ground}
use Rattle.nd_term.specs.Symbols.{ClauseOver, GroundOver}
use Rattle.nd_term.specs.Instances.{applied_to, clause_type, Chosen, subsumption_proof, resolution_proof}
use Rattle.nd_term.specs.Bindings.{Covers, LiteralProofs, covers_cons, covers_nil}
use Rattle.nd_term.specs.Bindings.{Covers, covers_cons, covers_nil}
use Rattle.dk_syntax.proofs.ListLaws.{each_map, each_snoc}
use Rattle.nd_term.proofs.ListLaws.{each_pick}
use Rattle.nd_term.proofs.TranslationLaws.{Individuals, literal_shift, literal_sort, translated_ground_shift, translated_ground_types}

pub clause_shift : (x : ℕ → Term) (d : List Literal) → shift (clause_type x d) ≡ clause_type (λ k. shift (x k)) d
clause_shift x [] = refl
clause_shift x (l ∷ d) =
    rename_arrow (λ n. suc n) (literal_type x l) (clause_type x d) ∙ ap₂ arrow (literal_shift x l) (clause_shift x d)

module _ (sig : List Declaration) (e : Extends sig) where
  pub let_types : {g : List Term} {a b t u : Term} → HasType sig g a type → HasType sig g b type → HasType sig g t a → HasType sig (a ∷ g) u (shift b) → HasType sig g (let_term a t u) b
  let_types ha hb ht hu = arrow_app sig e (arrow_lam sig e ha hb hu) ht

  pub literal_proofs_deeper : {g : List Term} {x : ℕ → Term} {d : List Literal} {lv : List Term} (a : Term) → LiteralProofs sig g x d lv → LiteralProofs sig (a ∷ g) (λ k. shift (x k)) d (map shift lv)
  literal_proofs_deeper {x = x} a h = each_map shift (λ l t k. retype (literal_shift x l) (weakened sig e a k)) h

  pub literal_proofs_cover : {g : List Term} {x : ℕ → Term} {d : List Literal} {lv : List Term} → LiteralProofs sig g x d lv → Covers sig g x d lv
  literal_proofs_cover each_nil = covers_nil []
  literal_proofs_cover (each_cons k h) = covers_cons k (literal_proofs_cover h)

  pub clause_prop : {g : List Term} {d : List Literal} (x : ℕ → Term) → Individuals sig e g x → ClauseOver sig d → HasType sig g (clause_type x d) type
  clause_prop {g = g} x h every_nil = prf_type sig e (bot_con sig e g)
  clause_prop x h (every_cons {a = l} o os) = arrow_type sig e (literal_sort sig e x h l o) (clause_prop x h os)

  pub applied_to_types : {g : List Term} {x : ℕ → Term} {d : List Literal} {us : List Term} {t : Term} → HasType sig g t (clause_type x d) → LiteralProofs sig g x d us → HasType sig g (applied_to t us) (proof_of bot)
  applied_to_types h each_nil = h
  applied_to_types h (each_cons k ks) = applied_to_types (arrow_app sig e h k) ks

  -- subsumption proves falsity
  pub subsumption_types : {g : List Term} {x : ℕ → Term} {d m : List Literal} {lv : List Term} {ks : List ℕ} {t : Term} → HasType sig g t (clause_type x m) → LiteralProofs sig g x d lv → Chosen d m ks → HasType sig g (subsumption_proof t lv ks) (proof_of bot)
  subsumption_types h k i = applied_to_types h (each_pick k i)

  -- resolution proves falsity
  pub resolution_types : {g : List Term} (x : ℕ → Term) {d m n : List Literal} {lv : List Term} {ks ls : List ℕ} {t u : Term} {a : GroundTerm} → Individuals sig e g x → GroundOver sig propositions 0 a
      → HasType sig g t (clause_type x m) → HasType sig g u (clause_type x n) → LiteralProofs sig g x d lv
      → Chosen (d ++ literal true a ∷ []) m ks → Chosen (d ++ literal false a ∷ []) n ls → HasType sig g (resolution_proof x t u lv ks ls a) (proof_of bot)
  resolution_types {g = g} x {n = n} {a = a} h o ht hu k ip iq =
      let pa = translated_ground_types sig e x h o in
      let b = proof_of (translated_ground x a) in
      let pivot = retype (ap proof_of (translated_ground_shift x a)) (last sig e {g = g} b) in
      let other = retype (clause_shift x n) (weakened sig e b hu) in
      let inner = subsumption_types other (each_snoc (literal_proofs_deeper b k) pivot) iq in
      subsumption_types ht (each_snoc k (neg_lam sig e pa inner)) ip
