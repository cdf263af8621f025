-- Raised terms, and the types of symbols and problems.
use Rattle.std.proofs.Common.{◌≡◌, ◌+◌, ◌-◌, ◌<◌, ℕ, zero, suc, nat_lt, Bool, true, false, if◌then◌else◌, List, [], ◌∷◌, ◌++◌, length, get_or, take, append_assoc, append-nil, length-append, sym, ap, ap₂, ◌∙◌, refl, arith, rules}
use Rattle.std.proofs.Math.Seq.{take-length}
use Rattle.std.proofs.lemmas.Bool.Decides.{nat_tests}
use Rattle.std.proofs.lemmas.Grind.{common_steps}
use Rattle.std.proofs.lemmas.List.{take_more}
use Rattle.dk_syntax.specs.declared.Kind.{Kind}
use Rattle.dk_syntax.specs.declared.Kind.TheVariants.{Function, Predicate}
use Rattle.dk_syntax.specs.declared.Named.{Named}
use Rattle.lp_term.specs.Problems.{function_type, implication_of, result_of}
use Rattle.lp_term.specs.Substitution.{lifted, raised}
use Rattle.lp_term.specs.Terms.{arrow_of, individuals, proof_of, propositions}
use Rattle.lp_term.specs.Translation.{translated}
use Rattle.lp_term.specs.declared.lp.Lp.{Lp, Sort, Sym, Var, Pat, App, Lam, Pi, the_lemmas as of_terms}
use Rattle.lp_term.proofs.ViewLaws.{lp_induction}

-- ---- raised terms, constructor by constructor

pub lifted-Sort : (up bound : ℕ) → lifted up Sort bound ≡ Sort
lifted-Sort up bound = search (rules, of_terms)

pub lifted-Sym : (up : ℕ) (name : List ℕ) (bound : ℕ) → lifted up (Sym name) bound ≡ Sym name
lifted-Sym up name bound = search (rules, of_terms)

pub lifted-Pat : (up : ℕ) (name : List ℕ) (bound : ℕ) → lifted up (Pat name) bound ≡ Pat name
lifted-Pat up name bound = search (rules, of_terms)

raised_var : (b : Bool) (m n : ℕ) → (if b then Var m else Var n) ≡ Var (if b then m else n)
raised_var true m n = refl
raised_var false m n = refl

pub lifted-Var : (up number bound : ℕ) → lifted up (Var number) bound ≡ Var (raised up bound number)
lifted-Var up number bound =
    let whole : lifted up (Var number) bound ≡ (if nat_lt number bound then Var number else Var (number + up)) = search (rules, of_terms) in
    whole ∙ raised_var (nat_lt number bound) number (number + up)

pub lifted-App : (up : ℕ) (a b : Lp) (bound : ℕ) → lifted up (App a b) bound ≡ App (lifted up a bound) (lifted up b bound)
lifted-App up a b bound = search (rules, of_terms)

pub lifted-Lam : (up : ℕ) (a b : Lp) (bound : ℕ) → lifted up (Lam a b) bound ≡ Lam (lifted up a bound) (lifted up b (bound + 1))
lifted-Lam up a b bound = search (rules, of_terms)

pub lifted-Pi : (up : ℕ) (a b : Lp) (bound : ℕ) → lifted up (Pi a b) bound ≡ Pi (lifted up a bound) (lifted up b (bound + 1))
lifted-Pi up a b bound = search (rules, of_terms)

-- ---- raising by nothing, and twice

raised_none : (number bound : ℕ) → raised 0 bound number ≡ number
raised_none number bound = grind (arith, nat_tests)

pub lifted-none : (t : Lp) (bound : ℕ) → lifted 0 t bound ≡ t
lifted-none = lp_induction (λ t. (bound : ℕ) → lifted 0 t bound ≡ t)
    (lifted-Sort 0)
    (λ name. lifted-Sym 0 name)
    (λ number bound. lifted-Var 0 number bound ∙ ap Var (raised_none number bound))
    (λ name. lifted-Pat 0 name)
    (λ a b h k bound. lifted-App 0 a b bound ∙ ap₂ App (h bound) (k bound))
    (λ a b h k bound. lifted-Lam 0 a b bound ∙ ap₂ Lam (h bound) (k (bound + 1)))
    (λ a b h k bound. lifted-Pi 0 a b bound ∙ ap₂ Pi (h bound) (k (bound + 1)))

raised_twice : (up number bound : ℕ) → raised up (bound + 1) (raised 1 bound number) ≡ raised (up + 1) bound number
raised_twice up number bound = grind (arith, nat_tests)

twice_var : (up number bound : ℕ) → lifted up (lifted 1 (Var number) bound) (bound + 1) ≡ lifted (up + 1) (Var number) bound
twice_var up number bound =
    ap (λ t. lifted up t (bound + 1)) (lifted-Var 1 number bound)
    ∙ lifted-Var up (raised 1 bound number) (bound + 1)
    ∙ ap Var (raised_twice up number bound)
    ∙ sym (lifted-Var (up + 1) number bound)

module _ (up : ℕ) where
  Twice : Lp → Type 0
  Twice t = (bound : ℕ) → lifted up (lifted 1 t bound) (bound + 1) ≡ lifted (up + 1) t bound

  twice : (t : Lp) → Twice t
  unfolding Twice
  twice = lp_induction Twice
      (λ bound. ap (λ t. lifted up t (bound + 1)) (lifted-Sort 1 bound) ∙ lifted-Sort up (bound + 1) ∙ sym (lifted-Sort (up + 1) bound))
      (λ name bound. ap (λ t. lifted up t (bound + 1)) (lifted-Sym 1 name bound) ∙ lifted-Sym up name (bound + 1) ∙ sym (lifted-Sym (up + 1) name bound))
      (λ number bound. twice_var up number bound)
      (λ name bound. ap (λ t. lifted up t (bound + 1)) (lifted-Pat 1 name bound) ∙ lifted-Pat up name (bound + 1) ∙ sym (lifted-Pat (up + 1) name bound))
      (λ a b h k bound.
      ap (λ t. lifted up t (bound + 1)) (lifted-App 1 a b bound)
      ∙ lifted-App up (lifted 1 a bound) (lifted 1 b bound) (bound + 1)
      ∙ ap₂ App (h bound) (k bound)
      ∙ sym (lifted-App (up + 1) a b bound))
      (λ a b h k bound.
      ap (λ t. lifted up t (bound + 1)) (lifted-Lam 1 a b bound)
      ∙ lifted-Lam up (lifted 1 a bound) (lifted 1 b (bound + 1)) (bound + 1)
      ∙ ap₂ Lam (h bound) (k (bound + 1))
      ∙ sym (lifted-Lam (up + 1) a b bound))
      (λ a b h k bound.
      ap (λ t. lifted up t (bound + 1)) (lifted-Pi 1 a b bound)
      ∙ lifted-Pi up (lifted 1 a bound) (lifted 1 b (bound + 1)) (bound + 1)
      ∙ ap₂ Pi (h bound) (k (bound + 1))
      ∙ sym (lifted-Pi (up + 1) a b bound))

  pub lifted-lifted : (t : Lp) (bound : ℕ) → lifted up (lifted 1 t bound) (bound + 1) ≡ lifted (up + 1) t bound
  unfolding Twice
  lifted-lifted t = twice t

-- ---- types of symbols

result-closed : (kind : Kind) (up bound : ℕ) → lifted up (result_of kind) bound ≡ result_of kind
result-closed Function up bound = lifted-Sym up _ bound
result-closed Predicate up bound = lifted-Sym up _ bound

mutual
  -- the type of a symbol has no variable
  function_type-closed : (arity : ℕ) (kind : Kind) (up bound : ℕ) → lifted up (function_type arity (result_of kind)) bound ≡ function_type arity (result_of kind)
  function_type-closed zero kind up bound = result-closed kind up bound
  function_type-closed (suc arity) kind up bound =
      let here = ap (Pi individuals) (function_type-closed arity kind 1 0) in
      ap (λ t. lifted up t bound) here
      ∙ lifted-Pi up individuals (function_type arity (result_of kind)) bound
      ∙ ap₂ Pi (lifted-Sym up _ bound) (function_type-closed arity kind up (bound + 1))
      ∙ sym here

pub function_type-more : (arity : ℕ) (kind : Kind) → function_type (arity + 1) (result_of kind) ≡ Pi individuals (function_type arity (result_of kind))
function_type-more arity kind =
    let e : arity + 1 ≡ suc arity = omega arith in
    ap (λ n. function_type n (result_of kind)) e ∙ ap (Pi individuals) (function_type-closed arity kind 1 0)

-- ---- types of problems

-- one more hypothesis in front, below as many arrows as stand before it
pub implication_of-more : (up : ℕ) (hypothesis : Named) (rest : List Named) (c : Lp)
    → lifted up (implication_of (hypothesis ∷ rest) c) 0 ≡ Pi (lifted up (proof_of (translated hypothesis.formula)) 0) (lifted (up + 1) (implication_of rest c) 0)
implication_of-more up hypothesis rest c =
    lifted-Pi up (proof_of (translated hypothesis.formula)) (lifted 1 (implication_of rest c) 0) 0
    ∙ ap (Pi (lifted up (proof_of (translated hypothesis.formula)) 0)) (ap (λ bound. lifted up (lifted 1 (implication_of rest c) 0) bound) one ∙ lifted-lifted up (implication_of rest c) 0)
  where
    one : 0 + 1 ≡ 1
    one = omega arith

length_none : (rest : List Named) → length rest < 1 → rest ≡ []
length_none [] less = refl
length_none (x ∷ rest) less = absurd (grind (arith, common_steps, less))

last_taken : (rest : List Named) (last : Named) → 0 < length rest → last ≡ get_or rest (length rest - 1) last
    → rest ≡ take (length rest - 1) rest ++ last ∷ []
last_taken rest last some is =
    let whole : length rest - 1 + 1 ≡ length rest = omega arith in
    sym (take-length rest)
    ∙ ap (λ n. take n rest) (sym whole)
    ∙ take_more rest (length rest - 1) last (omega arith)
    ∙ ap (λ x. take (length rest - 1) rest ++ x ∷ []) (sym is)

-- the type so far covers the hypotheses after those that are left
abbrev pub Covers : List Named → Lp → List Named → Lp → Type 0
Covers hypotheses c rest all = (after : List Named) × (hypotheses ≡ rest ++ after) × (all ≡ lifted (length rest) (implication_of after c) 0)

pub covers_more : (hypotheses rest : List Named) (last : Named) (c all domain : Lp) → 0 < length rest → last ≡ get_or rest (length rest - 1) last
    → domain ≡ lifted (length (take (length rest - 1) rest)) (proof_of (translated last.formula)) 0
    → Covers hypotheses c rest all → Covers hypotheses c (take (length rest - 1) rest) (Pi domain all)
covers_more hypotheses rest last c all domain some is is_domain covers =
    let front : List Named = take (length rest - 1) rest in
    let split : rest ≡ front ++ last ∷ [] = last_taken rest last some is in
    let long : length rest ≡ length front + 1 = ap length split ∙ length-append front (last ∷ []) in (
      last ∷ covers.0,
      covers.1 ∙ ap (λ x. x ++ covers.0) split ∙ append_assoc front (last ∷ []) covers.0,
      ap₂ Pi is_domain (covers.2 ∙ ap (λ n. lifted n (implication_of covers.0 c) 0) long) ∙ sym (implication_of-more (length front) last covers.0 c),
    )

pub covers_none : (hypotheses : List Named) (c all : Lp) → all ≡ lifted (length hypotheses) c 0 → Covers hypotheses c hypotheses all
covers_none hypotheses c all is = ([], sym (append-nil hypotheses), is)

pub covers_all : (hypotheses rest : List Named) (c all : Lp) → length rest < 1 → Covers hypotheses c rest all → all ≡ implication_of hypotheses c
covers_all hypotheses rest c all none covers =
    let empty : rest ≡ [] = length_none rest none in
    let same : hypotheses ≡ covers.0 = covers.1 ∙ ap (λ x. x ++ covers.0) empty in
    covers.2 ∙ ap (λ x. lifted (length x) (implication_of covers.0 c) 0) empty ∙ lifted-none (implication_of covers.0 c) 0 ∙ ap (λ x. implication_of x c) (sym same)

pub ruleset problem_steps = (common_steps, function_type-more, implication_of-more, lifted-none)
