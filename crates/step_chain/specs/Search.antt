-- What the parts of the search answer: the least chain by its key, where a key is a list of numbers.
use Rattle.std.specs.Prelude.{◌≡◌, ℕ, ◌+◌, Bool, not, List, [], ◌∷◌, ◌++◌, length, map, slice_get, Option, Some, None}
use Rattle.dk_syntax.specs.Symbols.{joined}
use Rattle.dk_syntax.specs.declared.Clause.{Clause}
use Rattle.normal_form.specs.declared.ClauseList.{ClauseList}
use Rattle.step_clause.specs.Candidates.{IsListBefore}
use Rattle.step_clause.specs.declared.justification.Justification.{Justification}
use Rattle.step_chain.specs.Chains.{bit, IsContinuation, link_key}
use Rattle.step_chain.specs.Resolvents.{IsResolvent, Link}
use Rattle.step_chain.specs.declared.chain.Chain.{Chain}
use Rattle.step_chain.specs.declared.pair.Pair.{Pair}

abbrev pub chain_with : List Clause → List Justification → Chain
chain_with mids steps = record { mids = mids; steps = steps }

-- The chain is that of a key, and no key before it has a chain, or no key has a chain.
abbrev pub IsLeastOf : (List ℕ → Chain → Type 0) → Option Chain → Type 0
IsLeastOf Holds None = (key : List ℕ) (chain : Chain) → Holds key chain → ⊥
IsLeastOf Holds (Some chain) = (key : List ℕ) × Holds key chain × ((other : List ℕ) (that : Chain) → Holds other that → IsListBefore other key → ⊥)

-- The first number of the key stands for a truth value.
abbrev pub ByBit : (Bool → List ℕ → Chain → Type 0) → List ℕ → Chain → Type 0
ByBit Holds [] chain = ⊥
ByBit Holds (n ∷ key) chain = (b : Bool) × (n ≡ bit b) × Holds b key chain

-- The first number of the key is that of an item.
abbrev pub ByNumber : {X : Type 0} → (ℕ → X → List ℕ → Chain → Type 0) → List X → List ℕ → Chain → Type 0
ByNumber Holds items [] chain = ⊥
ByNumber Holds items (n ∷ key) chain = (x : _) × (slice_get items n ≡ Some x) × Holds n x key chain

-- From a middle clause over the lists to come, by the key of the links.
abbrev pub HasContinuation : Clause → ℕ → Clause → List ClauseList → List ℕ → Chain → Type 0
HasContinuation target number middle rest key chain =
    (links : List Link) × (key ≡ joined (map link_key links)) × IsContinuation target number middle rest links chain.mids chain.steps

abbrev pub link_with : ℕ → Bool → List Bool → List Bool → Link
link_with other sign taken others = record { number = other; sign = sign; taken = taken; others = others }

-- The chain goes by the resolvent of two clauses where these literals are taken, and then by the key of the links.
pub record HasBranch (target : Clause) (later : List ClauseList) (number : ℕ) (first : Clause) (other : ℕ) (second : Clause) (sign : Bool) (bits : List Bool) (key : List ℕ) (chain : Chain) : Type 0 where
  pub taken : List Bool
  pub others : List Bool
  pub whole : bits ≡ taken ++ others
  pub resolvent : Clause
  pub step : Justification
  pub resolved : IsResolvent number first second (link_with other sign taken others) resolvent step
  pub mids : List Clause
  pub steps : List Justification
  pub is : chain ≡ chain_with (resolvent ∷ mids) (step ∷ steps)
  pub continues : HasContinuation target 0 resolvent later key (chain_with mids steps)

abbrev pub HasBranchOf : Clause → List ClauseList → Clause → Clause → Pair → List Bool → List ℕ → Chain → Type 0
HasBranchOf target later first second pair = HasBranch target later pair.number first pair.other second pair.sign

-- The key begins with so many truth values that with those before them there are as many as that, and all have the property.
pub record HasChoice (Holds : List Bool → List ℕ → Chain → Type 0) (size : ℕ) (bits : List Bool) (key : List ℕ) (chain : Chain) : Type 0 where
  pub more : List Bool
  pub rest : List ℕ
  pub whole : key ≡ map bit more ++ rest
  pub all : length bits + length more ≡ size
  pub holds : Holds (bits ++ more) rest chain

-- The chain goes by a resolvent of two clauses with that sign, or with one of the signs, and the positive one first.
abbrev pub HasSignedLink : Clause → List ClauseList → ℕ → Clause → ℕ → Clause → Bool → List ℕ → Chain → Type 0
HasSignedLink target later number first other second sign =
    HasChoice (HasBranch target later number first other second sign) (length first.lits + length second.lits) []

abbrev pub HasLink : Clause → List ClauseList → ℕ → Clause → ℕ → Clause → List ℕ → Chain → Type 0
HasLink target later number first other second = ByBit (λ b. HasSignedLink target later number first other second (not b))
