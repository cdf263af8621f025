-- The rules of each connective in a signature that has the prelude: how it is introduced, and how it is used.
use Rattle.std.specs.Prelude.{List, ◌∷◌}
use Rattle.lp_term.specs.LambdaPi.{Term, app, instantiate, lam, pi, shift, var}
use Rattle.lp_term.specs.Connectives.{all, and, arrow, bot, ex, iff, imp, individuals, neg, or, proof_of, propositions, top}
use Rattle.lp_term.specs.Typing.{Declaration, HasType}
use Rattle.lp_term.specs.Signature.{Extends}
use Rattle.lp_term.specs.ProofTerms.{contradiction, ex_term, iff_arg, iff_term, left_term, pair_term, right_term, top_term}

-- the term is a proposition
abbrev pub IsProposition : List Declaration → List Term → Term → Type 0
IsProposition sig g p = HasType sig g p propositions

-- the term proves the proposition
abbrev pub Proves : List Declaration → List Term → Term → Term → Type 0
Proves sig g t p = HasType sig g t (proof_of p)

-- the body of a quantifier, one individual further in
abbrev pub IsFamily : List Declaration → List Term → Term → Type 0
IsFamily sig g b = HasType sig (individuals ∷ g) b propositions

-- anything follows from falsity
abbrev pub FalsityUsed : Type 0
FalsityUsed = (sig : List Declaration) (g : List Term) (p t : Term) → Extends sig → Proves sig g t bot → IsProposition sig g p → Proves sig g (app t p) p

abbrev pub TruthIntroduced : Type 0
TruthIntroduced = (sig : List Declaration) (g : List Term) → Extends sig → Proves sig g top_term top

abbrev pub NegationIntroduced : Type 0
NegationIntroduced = (sig : List Declaration) (g : List Term) (p t : Term) → Extends sig → IsProposition sig g p → Proves sig (proof_of p ∷ g) t bot → Proves sig g (lam (proof_of p) t) (neg p)

abbrev pub NegationUsed : Type 0
NegationUsed = (sig : List Declaration) (g : List Term) (p t u : Term) → Extends sig → IsProposition sig g p → Proves sig g t (neg p) → Proves sig g u p → Proves sig g (app t u) bot

abbrev pub ImplicationIntroduced : Type 0
ImplicationIntroduced = (sig : List Declaration) (g : List Term) (p q t : Term) → Extends sig → IsProposition sig g p → IsProposition sig g q → Proves sig (proof_of p ∷ g) t (shift q) → Proves sig g (lam (proof_of p) t) (imp p q)

abbrev pub ImplicationUsed : Type 0
ImplicationUsed = (sig : List Declaration) (g : List Term) (p q t u : Term) → Extends sig → IsProposition sig g p → IsProposition sig g q → Proves sig g t (imp p q) → Proves sig g u p → Proves sig g (app t u) q

abbrev pub ConjunctionIntroduced : Type 0
ConjunctionIntroduced = (sig : List Declaration) (g : List Term) (p q t u : Term) → Extends sig → IsProposition sig g p → IsProposition sig g q → Proves sig g t p → Proves sig g u q → Proves sig g (pair_term p q t u) (and p q)

abbrev pub ConjunctionUsed : Type 0
ConjunctionUsed = (sig : List Declaration) (g : List Term) (p q c t k : Term) → Extends sig → IsProposition sig g p → IsProposition sig g q → IsProposition sig g c → Proves sig g t (and p q) → HasType sig g k (arrow (proof_of p) (arrow (proof_of q) (proof_of c))) → Proves sig g (app (app t c) k) c

abbrev pub DisjunctionLeft : Type 0
DisjunctionLeft = (sig : List Declaration) (g : List Term) (p q t : Term) → Extends sig → IsProposition sig g p → IsProposition sig g q → Proves sig g t p → Proves sig g (left_term p q t) (or p q)

abbrev pub DisjunctionRight : Type 0
DisjunctionRight = (sig : List Declaration) (g : List Term) (p q t : Term) → Extends sig → IsProposition sig g p → IsProposition sig g q → Proves sig g t q → Proves sig g (right_term p q t) (or p q)

-- by cases
abbrev pub DisjunctionUsed : Type 0
DisjunctionUsed = (sig : List Declaration) (g : List Term) (p q c t l r : Term) → Extends sig → IsProposition sig g p → IsProposition sig g q → IsProposition sig g c → Proves sig g t (or p q)
    → HasType sig g l (arrow (proof_of p) (proof_of c)) → HasType sig g r (arrow (proof_of q) (proof_of c)) → Proves sig g (app (app (app t c) l) r) c

-- the two halves stand below the proposition and the consumer that the equivalence's term binds
abbrev pub EquivalenceIntroduced : Type 0
EquivalenceIntroduced = (sig : List Declaration) (g : List Term) (p q t u : Term) → Extends sig → IsProposition sig g p → IsProposition sig g q
    → HasType sig (iff_arg (shift p) (shift q) (var 0) ∷ propositions ∷ g) t (arrow (proof_of (shift (shift p))) (proof_of (shift (shift q))))
    → HasType sig (iff_arg (shift p) (shift q) (var 0) ∷ propositions ∷ g) u (arrow (proof_of (shift (shift q))) (proof_of (shift (shift p))))
    → Proves sig g (iff_term p q t u) (iff p q)

abbrev pub EquivalenceUsed : Type 0
EquivalenceUsed = (sig : List Declaration) (g : List Term) (p q c t k : Term) → Extends sig → IsProposition sig g p → IsProposition sig g q → IsProposition sig g c → Proves sig g t (iff p q)
    → HasType sig g k (arrow (proof_of (imp p q)) (arrow (proof_of (imp q p)) (proof_of c))) → Proves sig g (app (app t c) k) c

abbrev pub UniversalIntroduced : Type 0
UniversalIntroduced = (sig : List Declaration) (g : List Term) (f t : Term) → Extends sig → HasType sig g f (arrow individuals propositions) → Proves sig (individuals ∷ g) t (app (shift f) (var 0)) → Proves sig g (lam individuals t) (all f)

-- at an individual
abbrev pub UniversalUsed : Type 0
UniversalUsed = (sig : List Declaration) (g : List Term) (b t u : Term) → Extends sig → IsFamily sig g b → Proves sig g t (all (lam individuals b)) → HasType sig g u individuals → Proves sig g (app t u) (instantiate b u)

-- by an individual
abbrev pub ExistentialIntroduced : Type 0
ExistentialIntroduced = (sig : List Declaration) (g : List Term) (b u t : Term) → Extends sig → IsFamily sig g b → HasType sig g u individuals → Proves sig g t (instantiate b u) → Proves sig g (ex_term b u t) (ex (lam individuals b))

abbrev pub ExistentialUsed : Type 0
ExistentialUsed = (sig : List Declaration) (g : List Term) (f c t k : Term) → Extends sig → HasType sig g f (arrow individuals propositions) → IsProposition sig g c → Proves sig g t (ex f)
    → HasType sig g k (pi individuals (arrow (proof_of (app (shift f) (var 0))) (proof_of (shift c)))) → Proves sig g (app (app t c) k) c

-- what follows from its own negation holds
abbrev pub ByContradiction : Type 0
ByContradiction = (sig : List Declaration) (g : List Term) (c t : Term) → Extends sig → IsProposition sig g c → Proves sig (proof_of (neg c) ∷ g) t (shift c) → Proves sig g (contradiction c t) c
