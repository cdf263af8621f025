-- Nodes have one graph, and the steps of a trace one root.
use Rattle.std.proofs.Common.{◌≡◌, ◌≢◌, ℕ, ◌+◌, ◌<◌, Bool, List, length, Option, Some, None, Result, Ok, Err, slice_get, refl, sym, ◌∙◌, ap, ap₂, subst, arith}
use Rattle.std.proofs.lemmas.Option.{none-some, same_Some, slice_get_within}
use native.Mathlib.Decide.{dec_lt}
use Rattle.dk_syntax.specs.declared.Formula.{Formula}
use Rattle.derivation_graph.specs.Graphs.{HasNoCycle, HasParents, IsFirstMissing, IsLeastOnCycle, missing_parent, names_of, rows_of}
use Rattle.derivation_graph.specs.Laws.{HasOneGraph, HasOneRoot}
use Rattle.derivation_graph.specs.declared.graph.Graph.{Graph}
use Rattle.derivation_graph.specs.declared.graph.GraphFault.{GraphFault}
use Rattle.derivation_graph.specs.declared.graph.GraphFault.TheVariants.{MissingParent, Cycle, Memory}
use Rattle.derivation_graph.specs.declared.graph.Node.{Node}

-- what was found twice is the same, and it isn't missing
found_same : {A : Type 0} (x y : A) (found : Option A) → found ≡ Some x → found ≡ Some y → x ≡ y
found_same x y found e d = same_Some x y (sym e ∙ d)

found_none : {A : Type 0} (x : A) (found : Option A) → found ≡ Some x → found ≡ None → ⊥
found_none x found e d = none-some x (sym d ∙ e)

-- ---- graphs

module _ (nodes : List Node) where
  none_missing : (step : ℕ) (name : List ℕ) → HasParents nodes → IsFirstMissing nodes step name → ⊥
  none_missing step name sound (place, number, before, (node, stands, is)) =
      found_none name (missing_parent (names_of nodes) node) is (sound place node (slice_get_within nodes place node stands) stands)

  one_missing : (step step' : ℕ) (name name' : List ℕ) → IsFirstMissing nodes step name → IsFirstMissing nodes step' name' → (step ≡ step') × (name ≡ name')
  one_missing step step' name name' (place, number, before, (node, stands, is)) (place', number', before', (node', stands', is')) = elim (dec_lt place place') [
    | yes less ↦ absurd (found_none name (missing_parent (names_of nodes) node) is (before' place node less stands))
    | no not_less ↦ elim (dec_lt place' place) [
      | yes less ↦ absurd (found_none name' (missing_parent (names_of nodes) node') is' (before place' node' less stands'))
      | no not_more ↦
          let same : place ≡ place' = omega arith in
          let same_node = found_same node node' (slice_get nodes place) stands (subst (λ p. slice_get nodes p ≡ Some node') (sym same) stands') in (
            omega arith,
            found_same name name' (missing_parent (names_of nodes) node) is (subst (λ n. missing_parent (names_of nodes) n ≡ Some name') (sym same_node) is'),
          )
    ]
  ]

  no_cycle : (graph : Graph) (step : ℕ) → graph.parents ≡ rows_of nodes → HasNoCycle graph.parents → IsLeastOnCycle (rows_of nodes) step → ⊥
  no_cycle graph step same none least = subst HasNoCycle same none step least.0

  one_cycle : (step step' : ℕ) → IsLeastOnCycle (rows_of nodes) step → IsLeastOnCycle (rows_of nodes) step' → step ≡ step'
  one_cycle step step' least least' = elim (dec_lt step step') [
    | yes less ↦ absurd (least'.1 step less least.0)
    | no not_less ↦ elim (dec_lt step' step) [ yes less ↦ absurd (least.1 step' less least'.0) | no not_more ↦ omega arith ]
  ]

  pub one_graph : HasOneGraph nodes
  one_graph (Ok one) (Ok other) h k not_one not_other = ap (λ p. Ok (let g : Graph = record { parents = p } in g)) (h.0.1 ∙ sym k.0.1)
  one_graph (Ok one) (Err (MissingParent step name)) h k not_one not_other = absurd (none_missing step name h.0.0 k)
  one_graph (Ok one) (Err (Cycle step)) h k not_one not_other = absurd (no_cycle one step h.0.1 h.1 k.1)
  one_graph (Ok one) (Err Memory) h k not_one not_other = absurd (not_other refl)
  one_graph (Err (MissingParent step name)) (Ok other) h k not_one not_other = absurd (none_missing step name k.0.0 h)
  one_graph (Err (MissingParent step name)) (Err (MissingParent step' name')) h k not_one not_other =
      let same = one_missing step step' name name' h k in ap₂ (λ s n. Err (MissingParent s n)) same.0 same.1
  one_graph (Err (MissingParent step name)) (Err (Cycle step')) h k not_one not_other = absurd (none_missing step name k.0 h)
  one_graph (Err (Cycle step)) (Ok other) h k not_one not_other = absurd (no_cycle other step k.0.1 k.1 h.1)
  one_graph (Err (Cycle step)) (Err (MissingParent step' name')) h k not_one not_other = absurd (none_missing step' name' h.0 k)
  one_graph (Err (Cycle step)) (Err (Cycle step')) h k not_one not_other = ap (λ s. Err (Cycle s)) (one_cycle step step' h.1 k.1)
  one_graph (Err fault) (Err Memory) h k not_one not_other = absurd (not_other refl)
  one_graph (Err Memory) other h k not_one not_other = absurd (not_one refl)

-- ---- roots

module _ (formulas : List Formula) (barred : List Bool) where
  pub one_root : HasOneRoot formulas barred
  one_root None None h k = refl
  one_root None (Some root) h k = absurd (h k.0 k.2)
  one_root (Some root) None h k = absurd (k h.0 h.2)
  one_root (Some root) (Some other) (place, number, may, first) (place', number', may', first') = elim (dec_lt place place') [
    | yes less ↦ absurd (first' place less may)
    | no not_less ↦ elim (dec_lt place' place) [ yes less ↦ absurd (first place' less may') | no not_more ↦ let same : root ≡ other = omega arith in ap Some same ]
  ]
