-- The goal's type and body, checked after a signature of the fragment.
use Rattle.std.proofs.Common.{◌≡◌, ℕ, List, [], ◌∷◌, ◌⊎◌, inl, inr, Result, Ok, Err, sym, ap, ◌∙◌, subst, refl}
use Rattle.lp_term.specs.Connectives.{propositions}
use Rattle.lp_term.specs.Conversion.{conv_sym, conv_trans}
use Rattle.lp_term.specs.LambdaPi.{Term, type, var}
use Rattle.lp_term.specs.Typing.{Declaration, Declares, HasType, has_pi, sort_type}
use Rattle.lp_term.proofs.ConnectiveRules.{last, neg_prop, or_prop, prf_type, prop_type}
use Rattle.lp_exact.specs.LazyTypes.{full}
use Rattle.lp_exact.specs.Objects.{Simple, simple_of, IsLazy}
use Rattle.lp_exact.specs.Reduction.{HasNormalForm}
use Rattle.lp_exact.specs.Signatures.{IsWellFormedSignature}
use Rattle.lp_exact.specs.Symbols.{HasSimpleType, IsFragmentSignature, IsTermWord, middle_type}
use Rattle.lp_exact.specs.Words.{word_of}
use Rattle.lp_exact.proofs.ConstantLaws.{simple_typed}
use Rattle.lp_exact.proofs.SubjectLaws.{empty_context}
use Rattle.lp_exact.proofs.SymbolLaws.{symbol_lazy, words_agree}
use Rattle.lp_exact.proofs.TypeLaws.{converts_same, full_converts}
use Rattle.lp_exact.proofs.UniquenessLaws.{types_convert}
use Rattle.lp_kernel.specs.Checking.{Fault, Typing, typing, and_then, argument_at, read}
use Rattle.lp_kernel.specs.Developments.{goal_checked}
use Rattle.lp_kernel.specs.Judgement.{IsChecked, HasNormalType}
use Rattle.lp_kernel.specs.LazyJudgement.{HasLazyForm, HasLazyType}
use Rattle.lp_kernel.proofs.AnswerLaws.{and_is, answer_has_type, answer_is_form, argument_is}
use Rattle.lp_kernel.proofs.AnsweredLaws.{argument_of, form_is_answered, then_of, type_is_answered}
use Rattle.lp_kernel.proofs.CompletenessLaws.{checked_has_form, found_has_lazy, full_of}
use Rattle.lp_kernel.proofs.DecisionLaws.{IsOkOrOutside, and_only, decides, decides_type, ok_only, HasLazyTypes}
use Rattle.lp_kernel.proofs.LazyTypeLaws.{IsLazyContext, at_type, convertible_none, form_converts, form_is_checked, form_is_lazy, lazy_is_found, normal_here, simple_context, type_is_lazy}
use Rattle.lp_kernel.proofs.TypingLaws.{checked_is_typed, found_is_typed, from_normal}

middle_typed : {sig : List Declaration} → IsWellFormedSignature sig → (g : List Term) → HasType sig g middle_type type
middle_typed {sig = sig} w g =
    let v = last sig w.extends {g = g} propositions in
    has_pi sort_type (prop_type sig w.extends g) (prf_type sig w.extends (or_prop sig w.extends v (neg_prop sig w.extends v)))

-- the type of a symbol of objects or of the excluded middle has TYPE
pub symbol_typed : {sig : List Declaration} → IsWellFormedSignature sig → IsFragmentSignature sig → (g : List Term) (x : List ℕ) (a : Term) → IsTermWord (word_of x) → Declares sig x a → HasType sig g a type
symbol_typed w z g x a i h = elim (z.typed x a i h) [ inl r ↦ rw (r.1) (simple_typed w.extends r.0 g) | inr e ↦ rw e (middle_typed w g) ]

ok_same : (r s : Typing) → ◌≡◌ {A = Result Typing Fault} (Ok r) (Ok s) → r ≡ s
ok_same r s h = cc

-- ---- in a signature of the fragment

module _ (sig : List Declaration) (z : IsFragmentSignature sig) where
  lazy_none : IsLazyContext sig (HasSimpleType sig) (words_agree z) (symbol_lazy z) []
  lazy_none = record { lazy = λ n a h. elim h [ ] }

  -- a body that is checked has the declared type by the judgement
  pub checked_is_judged : (a t v : Term) → goal_checked sig a t ≡ Ok v → (m : Term) × IsChecked sig [] a × HasNormalForm a m × HasNormalType sig [] t m
  checked_is_judged a t v h =
      let i = and_is ((read sig a).check [] 0) (λ x. and_then ((read sig t).find [] 0) (argument_at [] 0 x)) v h in
      let j = and_is ((read sig t).find [] 0) (argument_at [] 0 i.0) v i.2 in
      let same = (argument_is sig [] 0 i.0 j.0 v j.2).0 in
      let form = answer_is_form sig a [] 0 i.0 i.1 in
      let lazy = form_is_lazy sig (HasSimpleType sig) (words_agree z) (symbol_lazy z) form lazy_none in
      let looked = answer_has_type sig t [] 0 j.0 j.1 in (
        full i.0,
        form_is_checked sig (HasSimpleType sig) (words_agree z) (symbol_lazy z) form lazy_none convertible_none,
        normal_here sig (HasSimpleType sig) (words_agree z) (symbol_lazy z) [] lazy (form_converts sig (HasSimpleType sig) (words_agree z) (symbol_lazy z) form lazy_none),
        at_type sig (HasSimpleType sig) (words_agree z) (symbol_lazy z) same (lazy_is_found sig (HasSimpleType sig) (words_agree z) (symbol_lazy z) looked lazy_none convertible_none),
      )

  -- a body that has the declared type by the judgement is checked
  pub judged_is_checked : (a t m : Term) → IsChecked sig [] a → HasNormalForm a m → HasNormalType sig [] t m → (v : Term) × (goal_checked sig a t ≡ Ok v)
  judged_is_checked a t m h k l =
      let i = checked_has_form sig (HasSimpleType sig) (words_agree z) (symbol_lazy z) h lazy_none convertible_none in
      let j = found_has_lazy sig (HasSimpleType sig) (words_agree z) (symbol_lazy z) l lazy_none convertible_none in
      let lazy = form_is_lazy sig (HasSimpleType sig) (words_agree z) (symbol_lazy z) i.1 lazy_none in
      let e = full_of sig (HasSimpleType sig) (words_agree z) (symbol_lazy z) [] lazy (form_converts sig (HasSimpleType sig) (words_agree z) (symbol_lazy z) i.1 lazy_none) k in
      (j.1, then_of _ (form_is_answered sig z.once i.1 0) (then_of _ (type_is_answered sig z.once j.2 0) (argument_of [] 0 i.0 (typing j.0 j.1) (j.3 ∙ sym e))))

  -- one normal type
  pub found_once : (t m n : Term) → HasNormalType sig [] t m → HasNormalType sig [] t n → m ≡ n
  found_once t m n h k =
      let i = found_has_lazy sig (HasSimpleType sig) (words_agree z) (symbol_lazy z) h lazy_none convertible_none in
      let j = found_has_lazy sig (HasSimpleType sig) (words_agree z) (symbol_lazy z) k lazy_none convertible_none in
      let e : ◌≡◌ {A = Result Typing Fault} (Ok (typing i.0 i.1)) (Ok (typing j.0 j.1)) = sym (type_is_answered sig z.once i.2 0) ∙ type_is_answered sig z.once j.2 0 in
      let f : i.0 ≡ j.0 = ap (λ y. y.of) (ok_same (typing i.0 i.1) (typing j.0 j.1) e) in
      sym i.3 ∙ ap full f ∙ j.3

  module _ (w : IsWellFormedSignature sig) where
    pub checked_has_type : (a : Term) → IsChecked sig [] a → HasType sig [] a type
    checked_has_type a h = checked_is_typed w (symbol_typed w z) h (empty_context sig)

    pub found_has_type : (t m : Term) → HasNormalType sig [] t m → HasType sig [] t m
    found_has_type t m h = (found_is_typed w (symbol_typed w z) h (empty_context sig)).0

    -- what has the declared type by the judgement has it in the theory
    pub judged_has_type : (a t m : Term) → IsChecked sig [] a → HasNormalForm a m → HasNormalType sig [] t m → HasType sig [] t a
    judged_has_type a t m h k l = from_normal w (symbol_typed w z) (empty_context sig) k (checked_has_type a h) (found_has_type t m l)

    pub form_has_type : (a x : Term) → HasLazyForm sig [] a x → HasType sig [] a type
    form_has_type a x form = checked_has_type a (form_is_checked sig (HasSimpleType sig) (words_agree z) (symbol_lazy z) form lazy_none convertible_none)

    pub no_types : HasLazyTypes sig w (symbol_typed w z) (HasSimpleType sig) (words_agree z) (symbol_lazy z) [] []
    no_types = record { fit = empty_context sig; order = lazy_none; agree = convertible_none }

    -- a typed body of a type of TYPE is checked, or leaves the fragment
    pub typed_is_checked : (a t : Term) → HasType sig [] a type → HasType sig [] t a → IsOkOrOutside (goal_checked sig a t)
    typed_is_checked a t h k =
        and_only ((read sig a).check [] 0) _ (decides_type sig w (symbol_typed w z) (HasSimpleType sig) (words_agree z) (symbol_lazy z) a 0 no_types h) (λ x ex.
        and_only ((read sig t).find [] 0) _ (decides sig w (symbol_typed w z) (HasSimpleType sig) (words_agree z) (symbol_lazy z) t a 0 no_types k) (λ r er.
        ok_only (argument_of [] 0 x r (same x r (answer_is_form sig a [] 0 x ex) (answer_has_type sig t [] 0 r er)))))
      where
        same : (x : Term) (r : Typing) → HasLazyForm sig [] a x → HasLazyType sig [] t r.of r.value → full r.of ≡ full x
        same x r form looked =
            let first = type_is_lazy sig (HasSimpleType sig) (words_agree z) (symbol_lazy z) looked lazy_none in
            let found = found_has_type t (full r.of) (lazy_is_found sig (HasSimpleType sig) (words_agree z) (symbol_lazy z) looked lazy_none convertible_none) in
            let one = types_convert z.once found k in
            converts_same (HasSimpleType sig) (words_agree z) first.0 (form_is_lazy sig (HasSimpleType sig) (words_agree z) (symbol_lazy z) form lazy_none) (conv_trans (full_converts r.of) (conv_trans one (form_converts sig (HasSimpleType sig) (words_agree z) (symbol_lazy z) form lazy_none)))
