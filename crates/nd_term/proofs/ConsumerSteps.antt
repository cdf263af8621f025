-- What a consumer is of each kind of signed formula, where it stands.
use Rattle.std.proofs.Common.{◌≡◌, ◌+◌, ◌-◌, ◌<◌, ℕ, zero, suc, Bool, true, false, List, [], ◌∷◌, map, refl, sym, ap, ap₂, ◌∙◌, arith}
use Rattle.lp_term.specs.LambdaPi.{Term, app, lam, rename, shift, under_binder, under_renaming, var}
use Rattle.lp_term.specs.Connectives.{bot, imp, individuals, proof_of}
use Rattle.lp_term.specs.Names.{any_name}
use Rattle.lp_term.specs.ProofTerms.{ex_term, iff_term, left_term, pair_term, right_term, top_term}
use Rattle.nd_term.specs.Consumers.{consumer, remaining}
use Rattle.nd_term.specs.Formulas.{Formula, FormulaTerm, GroundTerm, atomic, conjunction, disjunction, eigenvariable, equivalence, existential, extended, falsity, ground_symbol, implication, negation, truth, universal}
use Rattle.nd_term.specs.Places.{last_variables, lifted_by, shift_times, shifted_by}
use Rattle.nd_term.specs.Frames.{Frame, consumed, deeper, named, said, said_under, with_value}
use Rattle.nd_term.specs.ThinTrees.{ThinTree, below_not, both, choice, eigenvariable_at, leaf, left, no_literal, right, vacuous}
use Rattle.nd_term.specs.Translation.{translated, translated_ground}
use Rattle.nd_term.specs.TreeKinds.{is_both, is_choice, is_empty, is_leaf, is_not, is_side, is_witness, leaves, to_side}
use Rattle.nd_term.proofs.TranslationLaws.{translated_at_shift, translated_ground_shift, translated_under}
use Rattle.lp_term.proofs.SubstitutionLaws.{ext}

-- ---- the literals' variables

remaining_map : (th : ThinTree) (g : Term → Term) (lv : List Term) → remaining th (map g lv) ≡ map g (remaining th lv)
remaining_map no_literal g lv = refl
remaining_map leaf g [] = refl
remaining_map leaf g (n ∷ lv) = refl
remaining_map (below_not a) g lv = remaining_map a g lv
remaining_map (left a) g lv = remaining_map a g lv
remaining_map (right a) g lv = remaining_map a g lv
remaining_map (both a b) g lv = ap (remaining b) (remaining_map a g lv) ∙ remaining_map b g (remaining a lv)
remaining_map (choice u a) g lv = remaining_map a g lv
remaining_map (eigenvariable_at k a) g lv = remaining_map a g lv
remaining_map (vacuous a) g lv = remaining_map a g lv

remaining_shifted : (th : ThinTree) (e : ℕ) (lv : List Term) → remaining th (shifted_by e lv) ≡ shifted_by e (remaining th lv)
remaining_shifted th zero lv = refl
remaining_shifted th (suc e) lv = remaining_map th shift (shifted_by e lv) ∙ ap (map shift) (remaining_shifted th e lv)

one_less : (n : ℕ) → last_variables n ≡ last_variables (suc n - 1)
one_less n = let e : n ≡ suc n - 1 = omega arith in ap last_variables e

none_less : (n : ℕ) → last_variables n ≡ last_variables (n - 0)
none_less n = let e : n ≡ n - 0 = omega arith in ap last_variables e

two_less : (n a b : ℕ) → last_variables (n - a - b) ≡ last_variables (n - (a + b))
two_less n a b = let e : n - a - b ≡ n - (a + b) = omega arith in ap last_variables e

remaining_last : (th : ThinTree) (n : ℕ) → remaining th (last_variables n) ≡ last_variables (n - leaves th)
remaining_last no_literal n = none_less n
remaining_last leaf zero = refl
remaining_last leaf (suc n) = one_less n
remaining_last (below_not a) n = remaining_last a n
remaining_last (left a) n = remaining_last a n
remaining_last (right a) n = remaining_last a n
remaining_last (both a b) n = ap (remaining b) (remaining_last a n) ∙ remaining_last b (n - leaves a) ∙ two_less n (leaves a) (leaves b)
remaining_last (choice u a) n = remaining_last a n
remaining_last (eigenvariable_at k a) n = remaining_last a n
remaining_last (vacuous a) n = remaining_last a n

-- the literals' variables after those of a tree
pub left_over : (th : ThinTree) (e n : ℕ) → remaining th (shifted_by e (last_variables n)) ≡ shifted_by e (last_variables (n - leaves th))
left_over th e n = remaining_shifted th e (last_variables n) ∙ ap (shifted_by e) (remaining_last th n)

shifted_none : (e : ℕ) → shifted_by e [] ≡ []
shifted_none zero = refl
shifted_none (suc e) = ap (map shift) (shifted_none e)

shifted_first : (e : ℕ) (t : Term) (ts : List Term) → shifted_by e (t ∷ ts) ≡ shift_times e t ∷ shifted_by e ts
shifted_first zero t ts = refl
shifted_first (suc e) t ts = ap (map shift) (shifted_first e t ts)

-- ---- translations one binder further in

said_deeper : (z : Frame) (f : Formula) → shift (said z f) ≡ said (deeper z) f
unfolding said
said_deeper z f = translated_at_shift (lifted_by z.extra z.eigens) z.values f

under_deeper : (z : Frame) (f : Formula) → rename (under_renaming (λ n. suc n)) (said_under z f) ≡ said_under (deeper z) f
unfolding said_under
under_deeper z f =
    translated_under (λ n. translated_ground (lifted_by z.extra z.eigens) (z.values n)) f
    ∙ ap (λ v. translated (under_binder v) f) (ext (λ n. translated_ground_shift (lifted_by z.extra z.eigens) (z.values n)))

named_deeper : (z : Frame) (u : GroundTerm) → shift (named z u) ≡ named (deeper z) u
unfolding named
named_deeper z u = translated_ground_shift (lifted_by z.extra z.eigens) u

-- ---- atoms, truth and falsity

pub consumes_atom : (z : Frame) (p : FormulaTerm) (n : ℕ) (t : Term) → consumed z (atomic p) true leaf (suc n) t ≡ app (shift_times z.extra (var n)) t
unfolding consumed
consumes_atom z p n t = ap (λ lv. consumer (atomic p) true leaf z.values (lifted_by z.extra z.eigens) (lifted_by z.extra z.witnesses) lv t) (shifted_first z.extra (var n) (last_variables n))

pub consumes_denied_atom : (z : Frame) (p : FormulaTerm) (n : ℕ) (t : Term) → consumed z (atomic p) false leaf (suc n) t ≡ app t (shift_times z.extra (var n))
unfolding consumed
consumes_denied_atom z p n t = ap (λ lv. consumer (atomic p) false leaf z.values (lifted_by z.extra z.eigens) (lifted_by z.extra z.witnesses) lv t) (shifted_first z.extra (var n) (last_variables n))

pub consumes_no_literal : (z : Frame) (p : FormulaTerm) (b : Bool) (t : Term) → consumed z (atomic p) b leaf 0 t ≡ t
unfolding consumed
consumes_no_literal z p true t = ap (λ lv. consumer (atomic p) true leaf z.values (lifted_by z.extra z.eigens) (lifted_by z.extra z.witnesses) lv t) (shifted_none z.extra)
consumes_no_literal z p false t = ap (λ lv. consumer (atomic p) false leaf z.values (lifted_by z.extra z.eigens) (lifted_by z.extra z.witnesses) lv t) (shifted_none z.extra)

pub consumes_falsity : (z : Frame) (b : Bool) (th : ThinTree) (l : ℕ) (t : Term) → consumed z falsity b th l t ≡ t
unfolding consumed
consumes_falsity z true th l t = elim th as (λ y. consumer falsity true y z.values (lifted_by z.extra z.eigens) (lifted_by z.extra z.witnesses) (shifted_by z.extra (last_variables l)) t ≡ t)
    [ no_literal ↦ refl | leaf ↦ refl | below_not a ↦ refl | left a ↦ refl | right a ↦ refl | both a c ↦ refl | choice u a ↦ refl | eigenvariable_at k a ↦ refl | vacuous a ↦ refl ]
consumes_falsity z false th l t = refl

pub consumes_denied_truth : (z : Frame) (l : ℕ) (t : Term) → consumed z truth false no_literal l t ≡ app t top_term
unfolding consumed
consumes_denied_truth z l t = refl

pub consumes_truth : (z : Frame) (th : ThinTree) (l : ℕ) (t : Term) → consumed z truth true th l t ≡ t
unfolding consumed
consumes_truth z th l t = refl

-- ---- negations

pub consumes_not : (z : Frame) (f : Formula) (a : ThinTree) (l : ℕ) (t : Term) → consumed z (negation f) true (below_not a) l t
    ≡ consumed z f false a l t
unfolding consumed said said_under named
consumes_not z f a l t = refl

pub consumes_denied_not : (z : Frame) (f : Formula) (a : ThinTree) (l : ℕ) (t : Term) → consumed z (negation f) false (below_not a) l t
    ≡ app t (lam (proof_of (said z f)) (consumed (deeper z) f true a l (var 0)))
unfolding consumed said said_under named
consumes_denied_not z f a l t = refl

-- ---- conjunctions

pub consumes_and_left : (z : Frame) (f h : Formula) (a : ThinTree) (l : ℕ) (t : Term) → consumed z (conjunction f h) true (left a) l t
    ≡ app (app t bot) (lam (proof_of (said z f)) (lam (proof_of (said (deeper z) h)) (consumed (deeper (deeper z)) f true a l (var 1))))
unfolding consumed said said_under named
consumes_and_left z f h a l t = ap (λ p. app (app t bot) (lam (proof_of (said z f)) (lam (proof_of p) (consumed (deeper (deeper z)) f true a l (var 1))))) (said_deeper z h)

pub consumes_and_right : (z : Frame) (f h : Formula) (a : ThinTree) (l : ℕ) (t : Term) → consumed z (conjunction f h) true (right a) l t
    ≡ app (app t bot) (lam (proof_of (said z f)) (lam (proof_of (said (deeper z) h)) (consumed (deeper (deeper z)) h true a l (var 0))))
unfolding consumed said said_under named
consumes_and_right z f h a l t = ap (λ p. app (app t bot) (lam (proof_of (said z f)) (lam (proof_of p) (consumed (deeper (deeper z)) h true a l (var 0))))) (said_deeper z h)

-- the second consumer stands one binder further in, after the literals of the first
after_first : (z : Frame) (h : Formula) (c : Bool) (a b : ThinTree) (l : ℕ) (u : Term)
    → consumer h c b z.values (lifted_by (suc z.extra) z.eigens) (lifted_by (suc z.extra) z.witnesses) (map shift (remaining a (shifted_by z.extra (last_variables l)))) u
    ≡ consumed (deeper z) h c b (l - leaves a) u
unfolding consumed
after_first z h c a b l u =
    ap (λ lv. consumer h c b z.values (lifted_by (suc z.extra) z.eigens) (lifted_by (suc z.extra) z.witnesses) (map shift lv) u) (left_over a z.extra l)

said_twice : (z : Frame) (f : Formula) → shift (shift (said z f)) ≡ said (deeper (deeper z)) f
said_twice z f = ap shift (said_deeper z f) ∙ said_deeper (deeper z) f

said_thrice : (z : Frame) (f : Formula) → shift (shift (shift (said z f))) ≡ said (deeper (deeper (deeper z))) f
said_thrice z f = ap shift (said_twice z f) ∙ said_deeper (deeper (deeper z)) f

said_four : (z : Frame) (f : Formula) → shift (shift (shift (shift (said z f)))) ≡ said (deeper (deeper (deeper (deeper z)))) f
said_four z f = ap shift (said_thrice z f) ∙ said_deeper (deeper (deeper (deeper z))) f

pair_there : (z : Frame) (f h : Formula) (t : Term) → (lam (proof_of (shift (said z h))) (app (shift (shift t)) (pair_term (shift (shift (said z f))) (shift (shift (said z h))) (var 1) (var 0)))) ≡ (lam (proof_of (said (deeper z) h)) (app (shift (shift t)) (pair_term (said (deeper (deeper z)) f) (said (deeper (deeper z)) h) (var 1) (var 0))))
pair_there z f h t =
    ap₂ (λ p y. lam (proof_of p) (app (shift (shift t)) y)) (said_deeper z h) (ap₂ (λ p q. pair_term p q (var 1) (var 0)) (said_twice z f) (said_twice z h))

pub consumes_denied_and : (z : Frame) (f h : Formula) (a b : ThinTree) (l : ℕ) (t : Term) → consumed z (conjunction f h) false (both a b) l t
    ≡ consumed z f false a l (lam (proof_of (said z f)) (consumed (deeper z) h false b (l - leaves a) (lam (proof_of (said (deeper z) h)) (app (shift (shift t)) (pair_term (said (deeper (deeper z)) f) (said (deeper (deeper z)) h) (var 1) (var 0))))))
unfolding consumed said
consumes_denied_and z f h a b l t =
    ap (λ y. consumer f false a z.values (lifted_by z.extra z.eigens) (lifted_by z.extra z.witnesses) (shifted_by z.extra (last_variables l)) (lam (proof_of (said z f)) y))
    (after_first z h false a b l (lam (proof_of (shift (said z h))) (app (shift (shift t)) (pair_term (shift (shift (said z f))) (shift (shift (said z h))) (var 1) (var 0)))) ∙ ap (λ u. consumed (deeper z) h false b (l - leaves a) u) (pair_there z f h t))

-- ---- disjunctions

pub consumes_or : (z : Frame) (f h : Formula) (a b : ThinTree) (l : ℕ) (t : Term) → consumed z (disjunction f h) true (both a b) l t
    ≡ app (app (app t bot) (lam (proof_of (said z f)) (consumed (deeper z) f true a l (var 0)))) (lam (proof_of (said z h)) (consumed (deeper z) h true b (l - leaves a) (var 0)))
unfolding consumed said
consumes_or z f h a b l t =
    ap (λ y. app (app (app t bot) (lam (proof_of (said z f)) (consumed (deeper z) f true a l (var 0)))) (lam (proof_of (said z h)) y)) (after_first z h true a b l (var 0))

pub consumes_denied_or_left : (z : Frame) (f h : Formula) (a : ThinTree) (l : ℕ) (t : Term) → consumed z (disjunction f h) false (left a) l t
    ≡ consumed z f false a l (lam (proof_of (said z f)) (app (shift t) (left_term (said (deeper z) f) (said (deeper z) h) (var 0))))
unfolding consumed said said_under named
consumes_denied_or_left z f h a l t = ap₂ (λ p q. consumed z f false a l (lam (proof_of (said z f)) (app (shift t) (left_term p q (var 0))))) (said_deeper z f) (said_deeper z h)

pub consumes_denied_or_right : (z : Frame) (f h : Formula) (a : ThinTree) (l : ℕ) (t : Term) → consumed z (disjunction f h) false (right a) l t
    ≡ consumed z h false a l (lam (proof_of (said z h)) (app (shift t) (right_term (said (deeper z) f) (said (deeper z) h) (var 0))))
unfolding consumed said said_under named
consumes_denied_or_right z f h a l t = ap₂ (λ p q. consumed z h false a l (lam (proof_of (said z h)) (app (shift t) (right_term p q (var 0))))) (said_deeper z f) (said_deeper z h)

-- ---- implications

pub consumes_imp : (z : Frame) (f h : Formula) (a b : ThinTree) (l : ℕ) (t : Term) → consumed z (implication f h) true (both a b) l t
    ≡ consumed z f false a l (lam (proof_of (said z f)) (consumed (deeper z) h true b (l - leaves a) (app (shift t) (var 0))))
unfolding consumed said
consumes_imp z f h a b l t =
    ap (λ y. consumer f false a z.values (lifted_by z.extra z.eigens) (lifted_by z.extra z.witnesses) (shifted_by z.extra (last_variables l)) (lam (proof_of (said z f)) y))
    (after_first z h true a b l (app (shift t) (var 0)) ∙ ap (λ u. consumed (deeper z) h true b (l - leaves a) u) refl)

pub consumes_denied_imp_left : (z : Frame) (f h : Formula) (a : ThinTree) (l : ℕ) (t : Term) → consumed z (implication f h) false (left a) l t
    ≡ app t (lam (proof_of (said z f)) (app (consumed (deeper z) f true a l (var 0)) (said (deeper z) h)))
unfolding consumed said said_under named
consumes_denied_imp_left z f h a l t = ap (λ q. app t (lam (proof_of (said z f)) (app (consumed (deeper z) f true a l (var 0)) q))) (said_deeper z h)

pub consumes_denied_imp_right : (z : Frame) (f h : Formula) (a : ThinTree) (l : ℕ) (t : Term) → consumed z (implication f h) false (right a) l t
    ≡ consumed z h false a l (lam (proof_of (said z h)) (app (shift t) (lam (proof_of (said (deeper z) f)) (var 1))))
unfolding consumed said said_under named
consumes_denied_imp_right z f h a l t = ap (λ p. consumed z h false a l (lam (proof_of (said z h)) (app (shift t) (lam (proof_of p) (var 1))))) (said_deeper z f)

-- ---- equivalences

pub consumes_iff_left : (z : Frame) (f h : Formula) (a b : ThinTree) (l : ℕ) (t : Term) → consumed z (equivalence f h) true (left (both a b)) l t
    ≡ app (app t bot) (lam (proof_of (imp (said z f) (said z h))) (lam (proof_of (imp (said (deeper z) h) (said (deeper z) f)))
    (consumed (deeper (deeper z)) f false a l (lam (proof_of (said (deeper (deeper z)) f)) (consumed (deeper (deeper (deeper z))) h true b (l - leaves a) (app (var 2) (var 0)))))))
unfolding consumed said
consumes_iff_left z f h a b l t =
    ap₂ (λ p y. app (app t bot) (lam (proof_of (imp (said z f) (said z h))) (lam (proof_of p) y)))
    (ap₂ (λ p q. imp p q) (said_deeper z h) (said_deeper z f))
    (ap₂ (λ p y. consumed (deeper (deeper z)) f false a l (lam (proof_of p) y)) (said_twice z f) (after_first (deeper (deeper z)) h true a b l (app (var 2) (var 0))))

pub consumes_iff_right : (z : Frame) (f h : Formula) (a b : ThinTree) (l : ℕ) (t : Term) → consumed z (equivalence f h) true (right (both a b)) l t
    ≡ app (app t bot) (lam (proof_of (imp (said z f) (said z h))) (lam (proof_of (imp (said (deeper z) h) (said (deeper z) f)))
    (consumed (deeper (deeper z)) h false a l (lam (proof_of (said (deeper (deeper z)) h)) (consumed (deeper (deeper (deeper z))) f true b (l - leaves a) (app (var 1) (var 0)))))))
unfolding consumed said
consumes_iff_right z f h a b l t =
    ap₂ (λ p y. app (app t bot) (lam (proof_of (imp (said z f) (said z h))) (lam (proof_of p) y)))
    (ap₂ (λ p q. imp p q) (said_deeper z h) (said_deeper z f))
    (ap₂ (λ p y. consumed (deeper (deeper z)) h false a l (lam (proof_of p) y)) (said_twice z h) (after_first (deeper (deeper z)) f true a b l (app (var 1) (var 0))))

pub consumes_denied_iff_left : (z : Frame) (f h : Formula) (a b : ThinTree) (l : ℕ) (t : Term) → consumed z (equivalence f h) false (left (both a b)) l t
    ≡ app t (iff_term (said z f) (said z h)
    (lam (proof_of (said (deeper (deeper z)) f)) (app (consumed (deeper (deeper (deeper z))) f true a l (var 0)) (said (deeper (deeper (deeper z))) h)))
    (lam (proof_of (said (deeper (deeper z)) h)) (app (consumed (deeper (deeper (deeper z))) h true b (l - leaves a) (var 0)) (said (deeper (deeper (deeper z))) f))))
unfolding consumed said
consumes_denied_iff_left z f h a b l t =
    ap₂ (λ u v. app t (iff_term (said z f) (said z h) u v))
    (ap₂ (λ p q. lam (proof_of p) (app (consumed (deeper (deeper (deeper z))) f true a l (var 0)) q)) (said_twice z f) (said_thrice z h))
    (ap₂ (λ p y. lam (proof_of p) y) (said_twice z h)
    (ap₂ (λ y q. app y q)
    (ap (λ lv. consumer h true b z.values (lifted_by (suc (suc (suc z.extra))) z.eigens) (lifted_by (suc (suc (suc z.extra))) z.witnesses) (map shift (map shift (map shift lv))) (var 0)) (left_over a z.extra l))
    (said_thrice z f)))

neither_there : (z : Frame) (f h : Formula) (t : Term) → (lam (proof_of (shift (said z h))) (app (shift (shift t)) (iff_term (shift (shift (said z f))) (shift (shift (said z h))) (lam (proof_of (shift (shift (shift (shift (said z f)))))) (var 3)) (lam (proof_of (shift (shift (shift (shift (said z h)))))) (var 4))))) ≡ (lam (proof_of (said (deeper z) h)) (app (shift (shift t)) (iff_term (said (deeper (deeper z)) f) (said (deeper (deeper z)) h) (lam (proof_of (said (deeper (deeper (deeper (deeper z)))) f)) (var 3)) (lam (proof_of (said (deeper (deeper (deeper (deeper z)))) h)) (var 4)))))
neither_there z f h t =
    ap₂ (λ p y. lam (proof_of p) (app (shift (shift t)) y)) (said_deeper z h)
    (ap₂ (λ (p q : Term). iff_term p q (lam (proof_of (shift (shift (shift (shift (said z f)))))) (var 3)) (lam (proof_of (shift (shift (shift (shift (said z h)))))) (var 4)))
    (said_twice z f) (said_twice z h)
    ∙ ap₂ (λ (p q : Term). iff_term (said (deeper (deeper z)) f) (said (deeper (deeper z)) h) (lam (proof_of p) (var 3)) (lam (proof_of q) (var 4))) (said_four z f) (said_four z h))

pub consumes_denied_iff_right : (z : Frame) (f h : Formula) (a b : ThinTree) (l : ℕ) (t : Term) → consumed z (equivalence f h) false (right (both a b)) l t
    ≡ consumed z f false a l (lam (proof_of (said z f)) (consumed (deeper z) h false b (l - leaves a) (lam (proof_of (said (deeper z) h)) (app (shift (shift t)) (iff_term (said (deeper (deeper z)) f) (said (deeper (deeper z)) h) (lam (proof_of (said (deeper (deeper (deeper (deeper z)))) f)) (var 3)) (lam (proof_of (said (deeper (deeper (deeper (deeper z)))) h)) (var 4)))))))
unfolding consumed said
consumes_denied_iff_right z f h a b l t =
    ap (λ y. consumer f false a z.values (lifted_by z.extra z.eigens) (lifted_by z.extra z.witnesses) (shifted_by z.extra (last_variables l)) (lam (proof_of (said z f)) y))
    (after_first z h false a b l (lam (proof_of (shift (said z h))) (app (shift (shift t)) (iff_term (shift (shift (said z f))) (shift (shift (said z h))) (lam (proof_of (shift (shift (shift (shift (said z f)))))) (var 3)) (lam (proof_of (shift (shift (shift (shift (said z h)))))) (var 4))))) ∙ ap (λ u. consumed (deeper z) h false b (l - leaves a) u) (neither_there z f h t))

-- ---- quantifiers

pub consumes_all : (z : Frame) (f : Formula) (u : GroundTerm) (a : ThinTree) (l : ℕ) (t : Term) → consumed z (universal f) true (choice u a) l t
    ≡ consumed (with_value u z) f true a l (app t (named z u))
unfolding consumed said said_under named
consumes_all z f u a l t = refl

pub consumes_denied_ex : (z : Frame) (f : Formula) (u : GroundTerm) (a : ThinTree) (l : ℕ) (t : Term) → consumed z (existential f) false (choice u a) l t
    ≡ consumed (with_value u z) f false a l (lam (proof_of (said (with_value u z) f)) (app (shift t) (ex_term (said_under (deeper z) f) (named (deeper z) u) (var 0))))
unfolding consumed said said_under named
consumes_denied_ex z f u a l t =
    ap₂ (λ (p q : Term). consumed (with_value u z) f false a l (lam (proof_of (said (with_value u z) f)) (app (shift t) (ex_term p q (var 0)))))
    (under_deeper z f) (named_deeper z u)

pub consumes_ex : (z : Frame) (f : Formula) (k : ℕ) (a : ThinTree) (l : ℕ) (t : Term) → consumed z (existential f) true (eigenvariable_at k a) l t
    ≡ consumed (with_value (eigenvariable k) z) f true a l (app (shift_times z.extra (z.witnesses k)) t)
unfolding consumed said said_under named
consumes_ex z f k a l t = refl

pub consumes_denied_all : (z : Frame) (f : Formula) (k : ℕ) (a : ThinTree) (l : ℕ) (t : Term) → consumed z (universal f) false (eigenvariable_at k a) l t
    ≡ consumed (with_value (eigenvariable k) z) f false a l (app (shift_times z.extra (z.witnesses k)) t)
unfolding consumed said said_under named
consumes_denied_all z f k a l t = refl

pub consumes_vacuous_ex : (z : Frame) (f : Formula) (a : ThinTree) (l : ℕ) (t : Term) → consumed z (existential f) true (vacuous a) l t
    ≡ app (app t bot) (lam individuals (lam (proof_of (said_under z f)) (consumed (deeper (deeper (with_value (ground_symbol any_name) z))) f true a l (var 0))))
unfolding consumed said said_under named
consumes_vacuous_ex z f a l t = refl

pub consumes_denied_vacuous_all : (z : Frame) (f : Formula) (a : ThinTree) (l : ℕ) (t : Term) → consumed z (universal f) false (vacuous a) l t
    ≡ consumed (with_value (ground_symbol any_name) z) f false a l (lam (proof_of (said (with_value (ground_symbol any_name) z) f)) (app (shift t) (lam individuals (var 1))))
unfolding consumed said said_under named
consumes_denied_vacuous_all z f a l t = refl

-- ---- trees of another kind

pub stray_not : (z : Frame) (f : Formula) (th : ThinTree) (l : ℕ) (t : Term) → is_not th ≡ false → consumed z (negation f) true th l t ≡ t
unfolding consumed
stray_not z f no_literal l t i = refl
stray_not z f leaf l t i = refl
stray_not z f (below_not a) l t i = absurd cc
stray_not z f (left a) l t i = refl
stray_not z f (right a) l t i = refl
stray_not z f (both a b) l t i = refl
stray_not z f (choice u a) l t i = refl
stray_not z f (eigenvariable_at k a) l t i = refl
stray_not z f (vacuous a) l t i = refl

pub stray_denied_not : (z : Frame) (f : Formula) (th : ThinTree) (l : ℕ) (t : Term) → is_not th ≡ false → consumed z (negation f) false th l t ≡ t
unfolding consumed
stray_denied_not z f no_literal l t i = refl
stray_denied_not z f leaf l t i = refl
stray_denied_not z f (below_not a) l t i = absurd cc
stray_denied_not z f (left a) l t i = refl
stray_denied_not z f (right a) l t i = refl
stray_denied_not z f (both a b) l t i = refl
stray_denied_not z f (choice u a) l t i = refl
stray_denied_not z f (eigenvariable_at k a) l t i = refl
stray_denied_not z f (vacuous a) l t i = refl

pub stray_and : (z : Frame) (f h : Formula) (th : ThinTree) (l : ℕ) (t : Term) → is_side th ≡ false → consumed z (conjunction f h) true th l t ≡ t
unfolding consumed
stray_and z f h no_literal l t i = refl
stray_and z f h leaf l t i = refl
stray_and z f h (below_not a) l t i = refl
stray_and z f h (left a) l t i = absurd cc
stray_and z f h (right a) l t i = absurd cc
stray_and z f h (both a b) l t i = refl
stray_and z f h (choice u a) l t i = refl
stray_and z f h (eigenvariable_at k a) l t i = refl
stray_and z f h (vacuous a) l t i = refl

pub stray_denied_and : (z : Frame) (f h : Formula) (th : ThinTree) (l : ℕ) (t : Term) → is_both th ≡ false → consumed z (conjunction f h) false th l t ≡ t
unfolding consumed
stray_denied_and z f h no_literal l t i = refl
stray_denied_and z f h leaf l t i = refl
stray_denied_and z f h (below_not a) l t i = refl
stray_denied_and z f h (left a) l t i = refl
stray_denied_and z f h (right a) l t i = refl
stray_denied_and z f h (both a b) l t i = absurd cc
stray_denied_and z f h (choice u a) l t i = refl
stray_denied_and z f h (eigenvariable_at k a) l t i = refl
stray_denied_and z f h (vacuous a) l t i = refl

pub stray_or : (z : Frame) (f h : Formula) (th : ThinTree) (l : ℕ) (t : Term) → is_both th ≡ false → consumed z (disjunction f h) true th l t ≡ t
unfolding consumed
stray_or z f h no_literal l t i = refl
stray_or z f h leaf l t i = refl
stray_or z f h (below_not a) l t i = refl
stray_or z f h (left a) l t i = refl
stray_or z f h (right a) l t i = refl
stray_or z f h (both a b) l t i = absurd cc
stray_or z f h (choice u a) l t i = refl
stray_or z f h (eigenvariable_at k a) l t i = refl
stray_or z f h (vacuous a) l t i = refl

pub stray_denied_or : (z : Frame) (f h : Formula) (th : ThinTree) (l : ℕ) (t : Term) → is_side th ≡ false → consumed z (disjunction f h) false th l t ≡ t
unfolding consumed
stray_denied_or z f h no_literal l t i = refl
stray_denied_or z f h leaf l t i = refl
stray_denied_or z f h (below_not a) l t i = refl
stray_denied_or z f h (left a) l t i = absurd cc
stray_denied_or z f h (right a) l t i = absurd cc
stray_denied_or z f h (both a b) l t i = refl
stray_denied_or z f h (choice u a) l t i = refl
stray_denied_or z f h (eigenvariable_at k a) l t i = refl
stray_denied_or z f h (vacuous a) l t i = refl

pub stray_imp : (z : Frame) (f h : Formula) (th : ThinTree) (l : ℕ) (t : Term) → is_both th ≡ false → consumed z (implication f h) true th l t ≡ t
unfolding consumed
stray_imp z f h no_literal l t i = refl
stray_imp z f h leaf l t i = refl
stray_imp z f h (below_not a) l t i = refl
stray_imp z f h (left a) l t i = refl
stray_imp z f h (right a) l t i = refl
stray_imp z f h (both a b) l t i = absurd cc
stray_imp z f h (choice u a) l t i = refl
stray_imp z f h (eigenvariable_at k a) l t i = refl
stray_imp z f h (vacuous a) l t i = refl

pub stray_denied_imp : (z : Frame) (f h : Formula) (th : ThinTree) (l : ℕ) (t : Term) → is_side th ≡ false → consumed z (implication f h) false th l t ≡ t
unfolding consumed
stray_denied_imp z f h no_literal l t i = refl
stray_denied_imp z f h leaf l t i = refl
stray_denied_imp z f h (below_not a) l t i = refl
stray_denied_imp z f h (left a) l t i = absurd cc
stray_denied_imp z f h (right a) l t i = absurd cc
stray_denied_imp z f h (both a b) l t i = refl
stray_denied_imp z f h (choice u a) l t i = refl
stray_denied_imp z f h (eigenvariable_at k a) l t i = refl
stray_denied_imp z f h (vacuous a) l t i = refl

pub stray_all : (z : Frame) (f : Formula) (th : ThinTree) (l : ℕ) (t : Term) → is_choice th ≡ false → consumed z (universal f) true th l t ≡ t
unfolding consumed
stray_all z f no_literal l t i = refl
stray_all z f leaf l t i = refl
stray_all z f (below_not a) l t i = refl
stray_all z f (left a) l t i = refl
stray_all z f (right a) l t i = refl
stray_all z f (both a b) l t i = refl
stray_all z f (choice u a) l t i = absurd cc
stray_all z f (eigenvariable_at k a) l t i = refl
stray_all z f (vacuous a) l t i = refl

pub stray_denied_ex : (z : Frame) (f : Formula) (th : ThinTree) (l : ℕ) (t : Term) → is_choice th ≡ false → consumed z (existential f) false th l t ≡ t
unfolding consumed
stray_denied_ex z f no_literal l t i = refl
stray_denied_ex z f leaf l t i = refl
stray_denied_ex z f (below_not a) l t i = refl
stray_denied_ex z f (left a) l t i = refl
stray_denied_ex z f (right a) l t i = refl
stray_denied_ex z f (both a b) l t i = refl
stray_denied_ex z f (choice u a) l t i = absurd cc
stray_denied_ex z f (eigenvariable_at k a) l t i = refl
stray_denied_ex z f (vacuous a) l t i = refl

pub stray_ex : (z : Frame) (f : Formula) (th : ThinTree) (l : ℕ) (t : Term) → is_witness th ≡ false → consumed z (existential f) true th l t ≡ t
unfolding consumed
stray_ex z f no_literal l t i = refl
stray_ex z f leaf l t i = refl
stray_ex z f (below_not a) l t i = refl
stray_ex z f (left a) l t i = refl
stray_ex z f (right a) l t i = refl
stray_ex z f (both a b) l t i = refl
stray_ex z f (choice u a) l t i = refl
stray_ex z f (eigenvariable_at k a) l t i = absurd cc
stray_ex z f (vacuous a) l t i = absurd cc

pub stray_denied_all : (z : Frame) (f : Formula) (th : ThinTree) (l : ℕ) (t : Term) → is_witness th ≡ false → consumed z (universal f) false th l t ≡ t
unfolding consumed
stray_denied_all z f no_literal l t i = refl
stray_denied_all z f leaf l t i = refl
stray_denied_all z f (below_not a) l t i = refl
stray_denied_all z f (left a) l t i = refl
stray_denied_all z f (right a) l t i = refl
stray_denied_all z f (both a b) l t i = refl
stray_denied_all z f (choice u a) l t i = refl
stray_denied_all z f (eigenvariable_at k a) l t i = absurd cc
stray_denied_all z f (vacuous a) l t i = absurd cc

pub stray_atom : (z : Frame) (p : FormulaTerm) (th : ThinTree) (l : ℕ) (t : Term) → is_leaf th ≡ false → consumed z (atomic p) true th l t ≡ t
unfolding consumed
stray_atom z p no_literal l t i = refl
stray_atom z p leaf l t i = absurd cc
stray_atom z p (below_not a) l t i = refl
stray_atom z p (left a) l t i = refl
stray_atom z p (right a) l t i = refl
stray_atom z p (both a b) l t i = refl
stray_atom z p (choice u a) l t i = refl
stray_atom z p (eigenvariable_at k a) l t i = refl
stray_atom z p (vacuous a) l t i = refl

pub stray_denied_atom : (z : Frame) (p : FormulaTerm) (th : ThinTree) (l : ℕ) (t : Term) → is_leaf th ≡ false → consumed z (atomic p) false th l t ≡ t
unfolding consumed
stray_denied_atom z p no_literal l t i = refl
stray_denied_atom z p leaf l t i = absurd cc
stray_denied_atom z p (below_not a) l t i = refl
stray_denied_atom z p (left a) l t i = refl
stray_denied_atom z p (right a) l t i = refl
stray_denied_atom z p (both a b) l t i = refl
stray_denied_atom z p (choice u a) l t i = refl
stray_denied_atom z p (eigenvariable_at k a) l t i = refl
stray_denied_atom z p (vacuous a) l t i = refl

pub stray_denied_truth : (z : Frame) (th : ThinTree) (l : ℕ) (t : Term) → is_empty th ≡ false → consumed z truth false th l t ≡ t
unfolding consumed
stray_denied_truth z no_literal l t i = absurd cc
stray_denied_truth z leaf l t i = refl
stray_denied_truth z (below_not a) l t i = refl
stray_denied_truth z (left a) l t i = refl
stray_denied_truth z (right a) l t i = refl
stray_denied_truth z (both a b) l t i = refl
stray_denied_truth z (choice u a) l t i = refl
stray_denied_truth z (eigenvariable_at k a) l t i = refl
stray_denied_truth z (vacuous a) l t i = refl

pub stray_negation : (z : Frame) (f : Formula) (b : Bool) (th : ThinTree) (l : ℕ) (t : Term) → is_not th ≡ false → consumed z (negation f) b th l t ≡ t
stray_negation z f true th l t i = stray_not z f th l t i
stray_negation z f false th l t i = stray_denied_not z f th l t i

pub stray_iff : (z : Frame) (f h : Formula) (th : ThinTree) (l : ℕ) (t : Term) → is_side th ≡ false → consumed z (equivalence f h) true th l t ≡ t
unfolding consumed
stray_iff z f h no_literal l t i = refl
stray_iff z f h leaf l t i = refl
stray_iff z f h (below_not a) l t i = refl
stray_iff z f h (left a) l t i = absurd cc
stray_iff z f h (right a) l t i = absurd cc
stray_iff z f h (both a b) l t i = refl
stray_iff z f h (choice u a) l t i = refl
stray_iff z f h (eigenvariable_at k a) l t i = refl
stray_iff z f h (vacuous a) l t i = refl

pub stray_iff_side : (z : Frame) (f h : Formula) (side : Bool) (th : ThinTree) (l : ℕ) (t : Term) → is_both th ≡ false → consumed z (equivalence f h) true (to_side side th) l t ≡ t
unfolding consumed
stray_iff_side z f h true no_literal l t i = refl
stray_iff_side z f h true leaf l t i = refl
stray_iff_side z f h true (below_not a) l t i = refl
stray_iff_side z f h true (left a) l t i = refl
stray_iff_side z f h true (right a) l t i = refl
stray_iff_side z f h true (both a b) l t i = absurd cc
stray_iff_side z f h true (choice u a) l t i = refl
stray_iff_side z f h true (eigenvariable_at k a) l t i = refl
stray_iff_side z f h true (vacuous a) l t i = refl
stray_iff_side z f h false no_literal l t i = refl
stray_iff_side z f h false leaf l t i = refl
stray_iff_side z f h false (below_not a) l t i = refl
stray_iff_side z f h false (left a) l t i = refl
stray_iff_side z f h false (right a) l t i = refl
stray_iff_side z f h false (both a b) l t i = absurd cc
stray_iff_side z f h false (choice u a) l t i = refl
stray_iff_side z f h false (eigenvariable_at k a) l t i = refl
stray_iff_side z f h false (vacuous a) l t i = refl

pub stray_denied_iff : (z : Frame) (f h : Formula) (th : ThinTree) (l : ℕ) (t : Term) → is_side th ≡ false → consumed z (equivalence f h) false th l t ≡ t
unfolding consumed
stray_denied_iff z f h no_literal l t i = refl
stray_denied_iff z f h leaf l t i = refl
stray_denied_iff z f h (below_not a) l t i = refl
stray_denied_iff z f h (left a) l t i = absurd cc
stray_denied_iff z f h (right a) l t i = absurd cc
stray_denied_iff z f h (both a b) l t i = refl
stray_denied_iff z f h (choice u a) l t i = refl
stray_denied_iff z f h (eigenvariable_at k a) l t i = refl
stray_denied_iff z f h (vacuous a) l t i = refl

pub stray_denied_iff_side : (z : Frame) (f h : Formula) (side : Bool) (th : ThinTree) (l : ℕ) (t : Term) → is_both th ≡ false → consumed z (equivalence f h) false (to_side side th) l t ≡ t
unfolding consumed
stray_denied_iff_side z f h true no_literal l t i = refl
stray_denied_iff_side z f h true leaf l t i = refl
stray_denied_iff_side z f h true (below_not a) l t i = refl
stray_denied_iff_side z f h true (left a) l t i = refl
stray_denied_iff_side z f h true (right a) l t i = refl
stray_denied_iff_side z f h true (both a b) l t i = absurd cc
stray_denied_iff_side z f h true (choice u a) l t i = refl
stray_denied_iff_side z f h true (eigenvariable_at k a) l t i = refl
stray_denied_iff_side z f h true (vacuous a) l t i = refl
stray_denied_iff_side z f h false no_literal l t i = refl
stray_denied_iff_side z f h false leaf l t i = refl
stray_denied_iff_side z f h false (below_not a) l t i = refl
stray_denied_iff_side z f h false (left a) l t i = refl
stray_denied_iff_side z f h false (right a) l t i = refl
stray_denied_iff_side z f h false (both a b) l t i = absurd cc
stray_denied_iff_side z f h false (choice u a) l t i = refl
stray_denied_iff_side z f h false (eigenvariable_at k a) l t i = refl
stray_denied_iff_side z f h false (vacuous a) l t i = refl

-- ---- atoms by their literals' variables

pub consumes_atom_at : (z : Frame) (p : FormulaTerm) (l : ℕ) (t : Term) → 0 < l → consumed z (atomic p) true leaf l t ≡ app (shift_times z.extra (var (l - 1))) t
consumes_atom_at z p zero t h = let f : ⊥ = omega arith in absurd f
consumes_atom_at z p (suc n) t h = let e : n ≡ suc n - 1 = omega arith in consumes_atom z p n t ∙ ap (λ k. app (shift_times z.extra (var k)) t) e

pub consumes_denied_atom_at : (z : Frame) (p : FormulaTerm) (l : ℕ) (t : Term) → 0 < l → consumed z (atomic p) false leaf l t ≡ app t (shift_times z.extra (var (l - 1)))
consumes_denied_atom_at z p zero t h = let f : ⊥ = omega arith in absurd f
consumes_denied_atom_at z p (suc n) t h = let e : n ≡ suc n - 1 = omega arith in consumes_denied_atom z p n t ∙ ap (λ k. app t (shift_times z.extra (var k))) e
