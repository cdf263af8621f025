-- Places and levels.
use Rattle.std.proofs.Common.{◌+◌, ◌-◌, ◌≤◌, ◌≡◌, ℕ, zero, suc, ◌<◌, cond, List, [], ◌∷◌, ◌++◌, map, refl, ap, ap₂, ◌∙◌, arith, nat_lt, nat_eq}
use Rattle.std.proofs.lemmas.Bool.Decides.{nat_tests}
use Rattle.lp_term.specs.Names.{any_name}
use Rattle.lp_term.specs.LambdaPi.{Term, con, lam, shift, var}
use Rattle.lp_term.specs.ProofTerms.{let_term}
use Rattle.lp_term.proofs.SubstitutionLaws.{ext}
use Rattle.dk_syntax.specs.Lists.{Every, every_cons, every_nil}
use Rattle.nd_term.specs.Formulas.{Formula, Literal}
use Rattle.nd_term.specs.Translation.{literal_type}
use Rattle.nd_term.specs.Consumers.{lift}
use Rattle.nd_term.specs.Instances.{clause_type}
use Rattle.assemble.specs.Justification.{Instance, Reason}
use Rattle.assemble.specs.Places.{deeper, first_place, put, with_eigenvariable, with_instance}
use Rattle.assemble.specs.Body.{instance_abstractions, lets}
use Rattle.assemble.specs.Levels.{Inside, Levels, abstractions_at, and_done, and_eigenvariable, at_level, lets_at, place_at}

pub at_deeper : (n l : ℕ) → l < n → shift (at_level n l) ≡ at_level (suc n) l
at_deeper n l h = let e : suc (n - suc l) ≡ suc n - suc l = omega arith in ap var e

at_last : (n : ℕ) → var 0 ≡ at_level (suc n) n
at_last n = let e : 0 ≡ suc n - suc n = omega arith in ap var e

all_deeper : {n : ℕ} {ls : List ℕ} → Every (λ l. l < n) ls → map shift (map (at_level n) ls) ≡ map (at_level (suc n)) ls
all_deeper every_nil = refl
all_deeper {n = n} (every_cons {a = l} h hs) = ap₂ (λ t ts. t ∷ ts) (at_deeper n l h) (all_deeper hs)

map_end : (f : ℕ → Term) (ls : List ℕ) (l : ℕ) → map f ls ++ f l ∷ [] ≡ map f (ls ++ l ∷ [])
map_end f [] l = refl
map_end f (m ∷ ls) l = ap (λ ts. f m ∷ ts) (map_end f ls l)

-- the variables one binder further in, with that binder's at the end
pub and_last : {n : ℕ} {ls : List ℕ} → Every (λ l. l < n) ls → map shift (map (at_level n) ls) ++ var 0 ∷ [] ≡ map (at_level (suc n)) (ls ++ n ∷ [])
and_last {n = n} {ls = ls} h = ap₂ (λ ts t. ts ++ t ∷ []) (all_deeper h) (at_last n) ∙ map_end (at_level (suc n)) ls n

cond_deeper : (k m n l : ℕ) → (k < m → l < n) → shift (cond (nat_lt k m) (at_level n l) (con any_name)) ≡ cond (nat_lt k m) (at_level (suc n) l) (con any_name)
cond_deeper k m n l h = grind (arith, nat_tests, at_deeper)

eig_bound : (k c f n : ℕ) → f + (c + c) ≤ n → k < c → f + (k + k) < n
eig_bound k c f n h i = omega arith

wit_bound : (k c f n : ℕ) → f + (c + c) ≤ n → k < c → f + (k + k) + 1 < n
wit_bound k c f n h i = omega arith

pub place_at_deeper : {n : ℕ} {p : Levels} → Inside n p → deeper (place_at n p) ≡ place_at (suc n) p
place_at_deeper {n = n} {p = p} h =
    let eigenvariables : lift (place_at n p).eigenvariables ≡ (place_at (suc n) p).eigenvariables = ext (λ k. cond_deeper k p.count n (p.first + (k + k)) (eig_bound k p.count p.first n h.eigens)) in
    let witnesses : lift (place_at n p).witnesses ≡ (place_at (suc n) p).witnesses = ext (λ k. cond_deeper k p.count n (p.first + (k + k) + 1) (wit_bound k p.count p.first n h.eigens)) in
    let hypotheses = all_deeper h.hypotheses in
    let denied = at_deeper n p.denied h.denied in
    let done = all_deeper h.done in
    λ i. record { eigenvariables = eigenvariables i; witnesses = witnesses i; hypotheses = hypotheses i; denied = denied i; done = done i }

pub place_at_instance : {n : ℕ} {p : Levels} → Inside n p → with_instance (place_at n p) ≡ place_at (suc n) (and_done p n)
place_at_instance {n = n} {p = p} h =
    let eigenvariables : lift (place_at n p).eigenvariables ≡ (place_at (suc n) p).eigenvariables = ext (λ k. cond_deeper k p.count n (p.first + (k + k)) (eig_bound k p.count p.first n h.eigens)) in
    let witnesses : lift (place_at n p).witnesses ≡ (place_at (suc n) p).witnesses = ext (λ k. cond_deeper k p.count n (p.first + (k + k) + 1) (wit_bound k p.count p.first n h.eigens)) in
    let hypotheses = all_deeper h.hypotheses in
    let denied = at_deeper n p.denied h.denied in
    let done = and_last h.done in
    λ i. record { eigenvariables = eigenvariables i; witnesses = witnesses i; hypotheses = hypotheses i; denied = denied i; done = done i }

one_more : (n l : ℕ) → l < n → l < suc n
one_more n l h = omega arith

self_below : (n : ℕ) → n < suc n
self_below n = omega arith

more_room : (a n : ℕ) → a ≤ n → a ≤ suc n
more_room a n h = omega arith

every_end : {q : ℕ → Type 0} {ls : List ℕ} {l : ℕ} → Every q ls → q l → Every q (ls ++ l ∷ [])
every_end every_nil i = every_cons i every_nil
every_end (every_cons h hs) i = every_cons h (every_end hs i)

up_one : {n : ℕ} {ls : List ℕ} → Every (λ l. l < n) ls → Every (λ l. l < suc n) ls
up_one every_nil = every_nil
up_one {n = n} (every_cons {a = l} h hs) = every_cons (one_more n l h) (up_one hs)

inside_up : {n : ℕ} {p : Levels} → Inside n p → Inside (suc n) p
inside_up {n = n} {p = p} h = record { hypotheses = up_one h.hypotheses; denied = one_more n p.denied h.denied; eigens = more_room _ n h.eigens; done = up_one h.done }

inside_done : {n : ℕ} {p : Levels} → Inside n p → Inside (suc n) (and_done p n)
inside_done {n = n} {p = p} h = record { hypotheses = up_one h.hypotheses; denied = one_more n p.denied h.denied; eigens = more_room _ n h.eigens; done = every_end (up_one h.done) (self_below n) }

-- an instance's term by environments is the one by levels
pub abstractions_levels : {n : ℕ} {p : Levels} {ls : List ℕ} (d : List Literal) (r : Reason) → Inside n p → Every (λ l. l < n) ls → instance_abstractions d (place_at n p) (map (at_level n) ls) r ≡ abstractions_at d n p ls r
abstractions_levels [] r h k = refl
abstractions_levels {n = n} {p = p} {ls = ls} (l ∷ d) r h k =
    ap (lam (literal_type (place_at n p).eigenvariables l))
    (ap₂ (λ v lv. instance_abstractions d v lv r) (place_at_deeper h) (and_last k) ∙ abstractions_levels d r (inside_up h) (every_end (up_one k) (self_below n)))

pub lets_levels : {n : ℕ} {p : Levels} (list : List Instance) (c : Formula) → Inside n p → lets (place_at n p) list c ≡ lets_at n p list c
lets_levels [] c h = refl
lets_levels {n = n} {p = p} (i ∷ is) c h =
    ap₂ (λ t u. let_term (clause_type (place_at n p).eigenvariables i.clause) t u)
    (abstractions_levels i.clause i.by h every_nil)
    (ap (λ v. lets v is c) (place_at_instance h) ∙ lets_levels is c (inside_done h))

-- the place of the first let, where no Skolem term is needed
abbrev pub first_levels : ℕ → List ℕ → Levels
first_levels n ls = record { hypotheses = ls; denied = n; first = suc n; count = 0; done = [] }

no_eigens : (k n : ℕ) → con any_name ≡ cond (nat_lt k 0) (at_level (suc n) (suc n + (k + k))) (con any_name)
no_eigens k n = grind (arith, nat_tests)

no_wits : (k n : ℕ) → con any_name ≡ cond (nat_lt k 0) (at_level (suc n) (suc n + (k + k) + 1)) (con any_name)
no_wits k n = grind (arith, nat_tests)

pub place_at_first : {n : ℕ} {ls : List ℕ} → Every (λ l. l < n) ls → first_place (map (at_level n) ls) ≡ place_at (suc n) (first_levels n ls)
place_at_first {n = n} {ls = ls} h =
    let eigenvariables : (λ k. con any_name) ≡ (place_at (suc n) (first_levels n ls)).eigenvariables = ext (λ k. no_eigens k n) in
    let witnesses : (λ k. con any_name) ≡ (place_at (suc n) (first_levels n ls)).witnesses = ext (λ k. no_wits k n) in
    let hypotheses = all_deeper h in
    let denied = at_last n in
    λ i. record { eigenvariables = eigenvariables i; witnesses = witnesses i; hypotheses = hypotheses i; denied = denied i; done = [] }

put_none : (t u : Term) (k : ℕ) → u ≡ cond (nat_eq (suc k) 0) t u
put_none t u k = grind (arith, nat_tests)

put_start : (t u : Term) (c : ℕ) → u ≡ cond (nat_eq 0 (suc c)) t u
put_start t u c = grind (arith, nat_tests)

put_next : (t u : Term) (c k : ℕ) → cond (nat_eq k c) t u ≡ cond (nat_eq (suc k) (suc c)) t u
put_next t u c k = grind (arith, nat_tests)

put_at : (c : ℕ) (x : ℕ → Term) (t : Term) (k : ℕ) → put c x t k ≡ cond (nat_eq k c) t (x k)
put_at zero x t zero = refl
put_at zero x t (suc k) = put_none t (x (suc k)) k
put_at (suc c) x t zero = put_start t (x zero) c
put_at (suc c) x t (suc k) = put_at c (λ j. x (suc j)) t k ∙ put_next t (x (suc k)) c k

eigen_place : (k c f n : ℕ) → f + (c + c) ≡ n → cond (nat_eq k c) (var 1) (cond (nat_lt k c) (at_level (suc (suc n)) (f + (k + k))) (con any_name)) ≡ cond (nat_lt k (suc c)) (at_level (suc (suc n)) (f + (k + k))) (con any_name)
eigen_place k c f n h = grind (arith, nat_tests)

wit_place : (k c f n : ℕ) → f + (c + c) ≡ n → cond (nat_eq k c) (var 0) (cond (nat_lt k c) (at_level (suc (suc n)) (f + (k + k) + 1)) (con any_name)) ≡ cond (nat_lt k (suc c)) (at_level (suc (suc n)) (f + (k + k) + 1)) (con any_name)
wit_place k c f n h = grind (arith, nat_tests)

next_eigen : (k c f n : ℕ) → f + (c + c) ≤ n → k < c → f + (k + k) < suc n
next_eigen k c f n h i = omega arith

next_wit : (k c f n : ℕ) → f + (c + c) ≤ n → k < c → f + (k + k) + 1 < suc n
next_wit k c f n h i = omega arith

at_two : (n l : ℕ) → l < n → shift (shift (at_level n l)) ≡ at_level (suc (suc n)) l
at_two n l h = ap shift (at_deeper n l h) ∙ at_deeper (suc n) l (one_more n l h)

-- the next eigenvariable and the variable after it have the next two levels
pub place_at_eigenvariable : {n : ℕ} {p : Levels} → Inside n p → p.first + (p.count + p.count) ≡ n → with_eigenvariable p.count (place_at n p) ≡ place_at (suc (suc n)) (and_eigenvariable p)
place_at_eigenvariable {n = n} {p = p} h q =
    let eigenvariables : put p.count (lift (lift (place_at n p).eigenvariables)) (var 1) ≡ (place_at (suc (suc n)) (and_eigenvariable p)).eigenvariables =
    ext (λ k. put_at p.count (lift (lift (place_at n p).eigenvariables)) (var 1) k
    ∙ ap (cond (nat_eq k p.count) (var 1)) (ap shift (cond_deeper k p.count n (p.first + (k + k)) (eig_bound k p.count p.first n h.eigens)) ∙ cond_deeper k p.count (suc n) (p.first + (k + k)) (next_eigen k p.count p.first n h.eigens))
    ∙ eigen_place k p.count p.first n q) in
    let witnesses : put p.count (lift (lift (place_at n p).witnesses)) (var 0) ≡ (place_at (suc (suc n)) (and_eigenvariable p)).witnesses =
    ext (λ k. put_at p.count (lift (lift (place_at n p).witnesses)) (var 0) k
    ∙ ap (cond (nat_eq k p.count) (var 0)) (ap shift (cond_deeper k p.count n (p.first + (k + k) + 1) (wit_bound k p.count p.first n h.eigens)) ∙ cond_deeper k p.count (suc n) (p.first + (k + k) + 1) (next_wit k p.count p.first n h.eigens))
    ∙ wit_place k p.count p.first n q) in
    let hypotheses = ap (map shift) (all_deeper h.hypotheses) ∙ all_deeper (up_one h.hypotheses) in
    let denied = at_two n p.denied h.denied in
    let done = ap (map shift) (all_deeper h.done) ∙ all_deeper (up_one h.done) in
    λ i. record { eigenvariables = eigenvariables i; witnesses = witnesses i; hypotheses = hypotheses i; denied = denied i; done = done i }
