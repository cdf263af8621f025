-- The body of goal, by levels.
use Rattle.std.proofs.Common.{◌≡◌, ◌+◌, ◌<◌, ◌≤◌, ◌-◌, ℕ, suc, cond, nat_lt, List, [], ◌∷◌, ◌++◌, map, length, refl, ap, ap₂, ◌∙◌, arith}
use Rattle.std.proofs.lemmas.Bool.Decides.{nat_tests}
use Rattle.std.specs.List.{range_with_len}
use Rattle.assemble.proofs.LevelLaws.{and_last, at_deeper, first_levels, lets_levels, place_at_deeper, place_at_eigenvariable, place_at_first}
use Rattle.assemble.specs.Body.{body_under, goal_body, inside, lets, nest}
use Rattle.assemble.specs.Justification.{Instance}
use Rattle.assemble.specs.Levels.{Inside, Levels, at_level, lets_at, place_at}
use Rattle.assemble.specs.Places.{deeper, first_place}
use Rattle.development.proofs.LetSteps.{inside_up, range_below, range_end}
use Rattle.development.specs.Nest.{assumed, chosen, inner, nested}
use Rattle.development.specs.Places.{levels_in}
use Rattle.dk_syntax.specs.Lists.{every_nil}
use Rattle.lp_term.proofs.SubstitutionLaws.{ext}
use Rattle.lp_term.specs.Connectives.{proof_of}
use Rattle.lp_term.specs.LambdaPi.{Term, con, lam, shift, var}
use Rattle.lp_term.specs.Names.{any_name}
use Rattle.lp_term.specs.ProofTerms.{contradiction, let_term}
use Rattle.nd_term.specs.Drinkers.{drinker, negative_drinker, negative_drinker_type, positive_drinker, positive_drinker_type}
use Rattle.nd_term.specs.Eigenvariables.{Eigenvariable, origin_body}
use Rattle.nd_term.specs.Formulas.{Formula}
use Rattle.nd_term.specs.Places.{eigenvariables_at}
use Rattle.nd_term.specs.Translation.{sentence}

-- two binders further in
at_two : (n l : ℕ) → l < n → shift (shift (at_level n l)) ≡ at_level (suc (suc n)) l
at_two n l h = ap shift (at_deeper n l h) ∙ at_deeper (suc n) l (omega arith)

-- the place after so many eigenvariables
abbrev after : (denied first count : ℕ) → Levels
after denied first count = levels_in denied first count (first + (count + count)) 0

after_inside : (denied first count : ℕ) → denied < first → Inside (first + (count + count)) (after denied first count)
after_inside denied first count h =
    let below : denied < first + (count + count) = omega arith in
    let eigens : first + (count + count) ≤ first + (count + count) = omega arith in
    record { hypotheses = range_below (first + (count + count)) 0 denied (omega arith); denied = below; eigens = eigens; done = every_nil }

next_level : (first count : ℕ) → suc (suc (first + (count + count))) ≡ first + (suc count + suc count)
next_level first count = omega arith

-- the nest of eigenvariables
nest_is : (denied first k : ℕ) (es : List Eigenvariable) (list : List Instance) (c : Formula) → denied + 2 < first
    → nest es k (at_level (first + (k + k)) (denied + 1)) (at_level (first + (k + k)) (denied + 2)) (place_at (first + (k + k)) (after denied first k)) list c
    ≡ nested denied first k es (sentence c) (lets_at (first + ((k + length es) + (k + length es))) (after denied first (k + length es)) list c)
nest_is denied first k [] list c h =
    let here : k ≡ k + 0 = omega arith in
    lets_levels {n = first + (k + k)} {p = after denied first k} list c (after_inside denied first k (omega arith))
    ∙ ap (λ j. lets_at (first + (j + j)) (after denied first j) list c) here
nest_is denied first k (o ∷ es) list c h =
    let n = first + (k + k) in
    let next = next_level first k in
    let more : suc k + length es ≡ k + suc (length es) = omega arith in
    let pos = at_two n (denied + 1) (omega arith) ∙ ap (λ m. at_level m (denied + 1)) next in
    let neg = at_two n (denied + 2) (omega arith) ∙ ap (λ m. at_level m (denied + 2)) next in
    let there = place_at_eigenvariable {n = n} {p = after denied first k} (after_inside denied first k (omega arith)) refl ∙ ap (λ m. place_at m (after denied first (suc k))) next in
    ap (chosen o.positive (drinker o.positive (at_level n (denied + 1)) (at_level n (denied + 2))) (origin_body (eigenvariables_at n first k) o) (sentence c))
    ((λ i. nest es (suc k) (pos i) (neg i) (there i) list c)
    ∙ nest_is denied first (suc k) es list c h
    ∙ ap (λ j. nested denied first (suc k) es (sentence c) (lets_at (first + (j + j)) (after denied first j) list c)) more)

-- ---- the drinkers

-- where there is no eigenvariable, it makes no difference where the first would be bound
none_bound : (k : ℕ) (t u : Term) → cond (nat_lt k 0) t (con any_name) ≡ cond (nat_lt k 0) u (con any_name)
none_bound k t u = grind (arith, nat_tests)

place_without : (n denied first other : ℕ) (hypotheses : List ℕ)
    → place_at n (record { hypotheses = hypotheses; denied = denied; first = first; count = 0; done = [] })
    ≡ place_at n (record { hypotheses = hypotheses; denied = denied; first = other; count = 0; done = [] })
place_without n denied first other hypotheses =
    let eigens = ext (λ k. none_bound k (at_level n (first + (k + k))) (at_level n (other + (k + k)))) in
    let wits = ext (λ k. none_bound k (at_level n (first + (k + k) + 1)) (at_level n (other + (k + k) + 1))) in
    λ i. record { eigenvariables = eigens i; witnesses = wits i; hypotheses = map (at_level n) hypotheses; denied = at_level n denied; done = [] }

first_inside : (n : ℕ) → Inside (suc n) (first_levels n (range_with_len 0 n))
first_inside n =
    let below : n < suc n = omega arith in
    let eigens : suc n + (0 + 0) ≤ suc n = omega arith in
    record { hypotheses = range_below (suc n) 0 n (omega arith); denied = below; eigens = eigens; done = every_nil }

-- the place below the drinkers
below_drinkers : (n : ℕ) → deeper (deeper (first_place (map (at_level n) (range_with_len 0 n)))) ≡ place_at (n + 3 + (0 + 0)) (after n (n + 3) 0)
below_drinkers n =
    let level : suc (suc (suc n)) ≡ n + 3 + (0 + 0) = omega arith in
    ap (λ v. deeper (deeper v)) (place_at_first (range_below n 0 n (omega arith)))
    ∙ ap deeper (place_at_deeper (first_inside n)) ∙ place_at_deeper (inside_up (first_inside n))
    ∙ place_without (suc (suc (suc n))) n (suc n) (n + 3) (range_with_len 0 n)
    ∙ ap (λ m. place_at m (after n (n + 3) 0)) level

inside_is : (n : ℕ) (es : List Eigenvariable) (list : List Instance) (c : Formula)
    → inside es (first_place (map (at_level n) (range_with_len 0 n))) list c ≡ inner n es list c
inside_is n [] list c =
    let level : suc n ≡ n + 1 + (0 + 0) = omega arith in
    let first : suc n ≡ n + 1 = omega arith in
    ap (λ v. lets v list c) (place_at_first (range_below n 0 n (omega arith)))
    ∙ lets_levels list c (first_inside n)
    ∙ ap₂ (λ m f. lets_at m (record { hypotheses = range_with_len 0 n; denied = n; first = f; count = 0; done = [] }) list c) level first
inside_is n (o ∷ es) list c =
    let pos : 1 ≡ n + 3 + (0 + 0) - suc (n + 1) = omega arith in
    let neg : 0 ≡ n + 3 + (0 + 0) - suc (n + 2) = omega arith in
    let here = below_drinkers n in
    let count : 0 + length (o ∷ es) ≡ length (o ∷ es) = omega arith in
    ap (λ t. let_term positive_drinker_type positive_drinker (let_term negative_drinker_type negative_drinker t))
    ((λ i. nest (o ∷ es) 0 (var (pos i)) (var (neg i)) (here i) list c)
    ∙ nest_is n (n + 3) 0 (o ∷ es) list c (omega arith)
    ∙ ap (λ j. nested n (n + 3) 0 (o ∷ es) (sentence c) (lets_at (n + 3 + (j + j)) (after n (n + 3) j) list c)) count)

-- ---- the hypotheses

under_is : (hs : List Formula) (n m : ℕ) (es : List Eigenvariable) (c : Formula) (list : List Instance) → m ≡ n + length hs
    → body_under hs (map (at_level n) (range_with_len 0 n)) es c list ≡ assumed hs (contradiction (sentence c) (inner m es list c))
under_is [] n m es c list e =
    let here : n ≡ m = omega arith in ap (contradiction (sentence c)) (inside_is n es list c ∙ ap (λ j. inner j es list c) here)
under_is (h ∷ hs) n m es c list e =
    let last : n ≡ 0 + n = omega arith in
    ap (lam (proof_of (sentence h)))
    (ap (λ hv. body_under hs hv es c list)
    (and_last (range_below n 0 n (omega arith)) ∙ ap (map (at_level (suc n))) (ap (λ j. range_with_len 0 n ++ j ∷ []) last ∙ range_end 0 n))
    ∙ under_is hs (suc n) m es c list (omega arith))

-- the whole body
pub body_is : (hs : List Formula) (es : List Eigenvariable) (c : Formula) (list : List Instance)
    → goal_body hs es c list ≡ assumed hs (contradiction (sentence c) (inner (length hs) es list c))
body_is hs es c list = under_is hs 0 (length hs) es c list (omega arith)
