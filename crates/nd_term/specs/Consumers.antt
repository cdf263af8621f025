-- Consumers: proofs of falsity from a proof of a signed formula and the variables of a clause.
use Rattle.std.specs.Prelude.{ℕ, suc, Bool, true, false, List, [], ◌∷◌, map}
use Rattle.lp_term.specs.Names.{any_name}
use Rattle.lp_term.specs.LambdaPi.{Term, app, lam, rename, shift, under_binder, under_renaming, var}
use Rattle.lp_term.specs.Connectives.{bot, imp, individuals, proof_of}
use Rattle.lp_term.specs.ProofTerms.{ex_term, iff_term, left_term, pair_term, right_term, top_term}
use Rattle.nd_term.specs.Formulas.{Formula, GroundTerm, atomic, conjunction, disjunction, eigenvariable, equivalence, existential, extended, falsity, ground_symbol, implication, negation, truth, universal}
use Rattle.nd_term.specs.Translation.{translated, translated_at, translated_ground}
use Rattle.nd_term.specs.ThinTrees.{ThinTree, below_not, both, choice, eigenvariable_at, leaf, left, no_literal, right, vacuous}

-- what is left of the literals' variables after those of a tree
abbrev pub remaining : ThinTree → List Term → List Term
remaining no_literal lv = lv
remaining leaf [] = []
remaining leaf (n ∷ lv) = lv
remaining (below_not th) lv = remaining th lv
remaining (left th) lv = remaining th lv
remaining (right th) lv = remaining th lv
remaining (both ta tb) lv = remaining tb (remaining ta lv)
remaining (choice u th) lv = remaining th lv
remaining (eigenvariable_at k th) lv = remaining th lv
remaining (vacuous th) lv = remaining th lv

-- a family of terms one binder further in
abbrev pub lift : (ℕ → Term) → ℕ → Term
lift x k = shift (x k)

-- the consumer of a signed formula; x and w give the eigenvariables and the variables after them, lv the literals' variables
abbrev pub consumer : Formula → Bool → ThinTree → (ℕ → GroundTerm) → (ℕ → Term) → (ℕ → Term) → List Term → Term → Term
consumer (atomic p) true leaf s x w (n ∷ lv) t = app n t
consumer (atomic p) false leaf s x w (n ∷ lv) t = app t n
consumer falsity true no_literal s x w lv t = t
consumer truth false no_literal s x w lv t = app t top_term
consumer (negation f) true (below_not th) s x w lv t = consumer f false th s x w lv t
consumer (negation f) false (below_not th) s x w lv t =
    app t (lam (proof_of (translated_at x s f)) (consumer f true th s (lift x) (lift w) (map shift lv) (var 0)))
consumer (conjunction f h) true (left th) s x w lv t =
    app (app t bot) (lam (proof_of (translated_at x s f)) (lam (proof_of (shift (translated_at x s h)))
    (consumer f true th s (lift (lift x)) (lift (lift w)) (map shift (map shift lv)) (var 1))))
consumer (conjunction f h) true (right th) s x w lv t =
    app (app t bot) (lam (proof_of (translated_at x s f)) (lam (proof_of (shift (translated_at x s h)))
    (consumer h true th s (lift (lift x)) (lift (lift w)) (map shift (map shift lv)) (var 0))))
consumer (conjunction f h) false (both ta tb) s x w lv t =
    consumer f false ta s x w lv (lam (proof_of (translated_at x s f)) (consumer h false tb s (lift x) (lift w) (map shift (remaining ta lv))
    (lam (proof_of (shift (translated_at x s h))) (app (shift (shift t)) (pair_term (shift (shift (translated_at x s f))) (shift (shift (translated_at x s h))) (var 1) (var 0))))))
consumer (disjunction f h) true (both ta tb) s x w lv t =
    app (app (app t bot) (lam (proof_of (translated_at x s f)) (consumer f true ta s (lift x) (lift w) (map shift lv) (var 0))))
    (lam (proof_of (translated_at x s h)) (consumer h true tb s (lift x) (lift w) (map shift (remaining ta lv)) (var 0)))
consumer (disjunction f h) false (left th) s x w lv t =
    consumer f false th s x w lv (lam (proof_of (translated_at x s f)) (app (shift t) (left_term (shift (translated_at x s f)) (shift (translated_at x s h)) (var 0))))
consumer (disjunction f h) false (right th) s x w lv t =
    consumer h false th s x w lv (lam (proof_of (translated_at x s h)) (app (shift t) (right_term (shift (translated_at x s f)) (shift (translated_at x s h)) (var 0))))
consumer (implication f h) true (both ta tb) s x w lv t =
    consumer f false ta s x w lv (lam (proof_of (translated_at x s f)) (consumer h true tb s (lift x) (lift w) (map shift (remaining ta lv)) (app (shift t) (var 0))))
consumer (implication f h) false (left th) s x w lv t =
    app t (lam (proof_of (translated_at x s f)) (app (consumer f true th s (lift x) (lift w) (map shift lv) (var 0)) (shift (translated_at x s h))))
consumer (implication f h) false (right th) s x w lv t =
    consumer h false th s x w lv (lam (proof_of (translated_at x s h)) (app (shift t) (lam (proof_of (shift (translated_at x s f))) (var 1))))
consumer (equivalence f h) true (left (both ta tb)) s x w lv t =
    app (app t bot) (lam (proof_of (imp (translated_at x s f) (translated_at x s h))) (lam (proof_of (shift (imp (translated_at x s h) (translated_at x s f))))
    (consumer f false ta s (lift (lift x)) (lift (lift w)) (map shift (map shift lv))
    (lam (proof_of (shift (shift (translated_at x s f))))
    (consumer h true tb s (lift (lift (lift x))) (lift (lift (lift w))) (map shift (remaining ta (map shift (map shift lv)))) (app (var 2) (var 0)))))))
consumer (equivalence f h) true (right (both ta tb)) s x w lv t =
    app (app t bot) (lam (proof_of (imp (translated_at x s f) (translated_at x s h))) (lam (proof_of (shift (imp (translated_at x s h) (translated_at x s f))))
    (consumer h false ta s (lift (lift x)) (lift (lift w)) (map shift (map shift lv))
    (lam (proof_of (shift (shift (translated_at x s h))))
    (consumer f true tb s (lift (lift (lift x))) (lift (lift (lift w))) (map shift (remaining ta (map shift (map shift lv)))) (app (var 1) (var 0)))))))
consumer (equivalence f h) false (left (both ta tb)) s x w lv t =
    app t (iff_term (translated_at x s f) (translated_at x s h)
    (lam (proof_of (shift (shift (translated_at x s f))))
    (app (consumer f true ta s (lift (lift (lift x))) (lift (lift (lift w))) (map shift (map shift (map shift lv))) (var 0)) (shift (shift (shift (translated_at x s h))))))
    (lam (proof_of (shift (shift (translated_at x s h))))
    (app (consumer h true tb s (lift (lift (lift x))) (lift (lift (lift w))) (map shift (map shift (map shift (remaining ta lv)))) (var 0)) (shift (shift (shift (translated_at x s f)))))))
consumer (equivalence f h) false (right (both ta tb)) s x w lv t =
    consumer f false ta s x w lv (lam (proof_of (translated_at x s f)) (consumer h false tb s (lift x) (lift w) (map shift (remaining ta lv))
    (lam (proof_of (shift (translated_at x s h))) (app (shift (shift t)) (iff_term (shift (shift (translated_at x s f))) (shift (shift (translated_at x s h)))
    (lam (proof_of (shift (shift (shift (shift (translated_at x s f)))))) (var 3)) (lam (proof_of (shift (shift (shift (shift (translated_at x s h)))))) (var 4)))))))
consumer (universal f) true (choice u th) s x w lv t = consumer f true th (extended u s) x w lv (app t (translated_ground x u))
consumer (existential f) false (choice u th) s x w lv t =
    consumer f false th (extended u s) x w lv (lam (proof_of (translated_at x (extended u s) f)) (app (shift t)
    (ex_term (rename (under_renaming (λ n. suc n)) (translated (under_binder (λ n. translated_ground x (s n))) f)) (shift (translated_ground x u)) (var 0))))
consumer (existential f) true (eigenvariable_at k th) s x w lv t = consumer f true th (extended (eigenvariable k) s) x w lv (app (w k) t)
consumer (universal f) false (eigenvariable_at k th) s x w lv t = consumer f false th (extended (eigenvariable k) s) x w lv (app (w k) t)
consumer (existential f) true (vacuous th) s x w lv t =
    app (app t bot) (lam individuals (lam (proof_of (translated (under_binder (λ n. translated_ground x (s n))) f))
    (consumer f true th (extended (ground_symbol any_name) s) (lift (lift x)) (lift (lift w)) (map shift (map shift lv)) (var 0))))
consumer (universal f) false (vacuous th) s x w lv t =
    consumer f false th (extended (ground_symbol any_name) s) x w lv (lam (proof_of (translated_at x (extended (ground_symbol any_name) s) f)) (app (shift t) (lam individuals (var 1))))
consumer _ _ _ s x w lv t = t
