-- The nest, from the last eigenvariable to the first.
use Rattle.std.proofs.Common.{◌≡◌, ◌+◌, ◌-◌, ◌<◌, ◌≤◌, ℕ, zero, suc, List, [], ◌∷◌, ◌++◌, map, drop, length, get_or, Option, None, Some, MatchOption, length-append, sym, ap, ◌∙◌, arith}
use Rattle.assemble.specs.Fitting.{eigenvariable_of, eigenvariables_of}
use Rattle.assemble.specs.Levels.{at_level}
use Rattle.development.specs.Nest.{chosen, nested}
use Rattle.dk_syntax.specs.declared.term.Term.{Term as ProgramTerm}
use Rattle.lp_term.specs.LambdaPi.{Term}
use Rattle.nd_term.specs.Drinkers.{drinker}
use Rattle.nd_term.specs.Eigenvariables.{origin_body}
use Rattle.nd_term.specs.Places.{eigenvariables_at}
use Rattle.skolem_order.specs.declared.origins.Origin.{Origin}

drop_map : {A B : Type 0} (f : A → B) (l : List A) (k : ℕ) (a : A) → k < length l → get_or l k a ≡ a → drop k (map f l) ≡ f a ∷ drop (suc k) (map f l)
drop_map f [] k a h e = absurd (omega arith)
drop_map f (b ∷ l) zero a h e = ap (λ x. f x ∷ map f l) e
drop_map f (b ∷ l) (suc k) a h e = drop_map f l k a (omega arith) e

-- one eigenvariable more before the others
pub nested_step : (origins : List Origin) (order : List ProgramTerm) (denied first left count : ℕ) (t : ProgramTerm) (c u v w : Term) → 0 < left → left ≤ length order
    → get_or order (left - 1) t ≡ t → count ≡ left - 1
    → (let n = first + (count + count) in let o = eigenvariable_of origins order t in
    v ≡ chosen o.positive (drinker o.positive (at_level n (denied + 1)) (at_level n (denied + 2))) (origin_body (eigenvariables_at n first count) o) c u)
    → u ≡ nested denied first left (drop left (eigenvariables_of origins order)) c w
    → v ≡ nested denied first (left - 1) (drop (left - 1) (eigenvariables_of origins order)) c w
nested_step origins order denied first left count t c u v w p h e q ev eu =
    let k : left ≡ suc (left - 1) = omega arith in
    let o = eigenvariable_of origins order t in
    let within : left - 1 < length order = omega arith in
    ev
    ∙ ap (λ j. chosen o.positive (drinker o.positive (at_level (first + (j + j)) (denied + 1)) (at_level (first + (j + j)) (denied + 2)))
    (origin_body (eigenvariables_at (first + (j + j)) first j) o) c u) q
    ∙ ap (λ x. nested denied first (left - 1) (o ∷ []) c x) (eu ∙ ap (λ j. nested denied first j (drop j (eigenvariables_of origins order)) c w) k)
    ∙ ap (λ l. nested denied first (left - 1) l c w) (sym (drop_map (eigenvariable_of origins order) order (left - 1) t within e))

-- one item less
pub popped : {A : Type 0} (old new : List A) (last : Option A) (n : ℕ) → MatchOption last ((old ≡ []) × (new ≡ [])) (λ a. old ≡ new ++ a ∷ []) → length old ≡ n → 0 < n
    → length new ≡ n - 1
popped old new None n h e p = let none : length old ≡ 0 = ap length h.0 in absurd (omega arith)
popped old new (Some a) n h e p = let more : length old ≡ length new + 1 = ap length h ∙ length-append new (a ∷ []) in omega arith
