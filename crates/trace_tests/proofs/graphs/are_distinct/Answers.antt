use Rattle.std.proofs.Common.{◌≡◌, ℕ, ◌<◌, List, Some, length, slice_get, inl, inr, ap, ◌∙◌, refl, sym, subst, arith}
use Rattle.std.proofs.lemmas.Bool.{cases_eq}
use Rattle.std.proofs.lemmas.List.{length-map}
use Rattle.std.proofs.lemmas.Option.{same_Some, slice_get-map, slice_get_read, slice_get_within}
use Rattle.std.specs.Prelude.{option_map}
use Rattle.derivation_graph.specs.Graphs.{names_of}
use Rattle.derivation_graph.specs.declared.Node.{Node}
use native.Mathlib.Decide.{dec_lt}
use Rattle.trace_tests.proofs.graphs.are_distinct.Goals as goal

-- the name of a node that was read
name_at : (nodes : List Node) (i : ℕ) (node : Node) → slice_get nodes i ≡ Some node → slice_get (names_of nodes) i ≡ Some node.name
name_at nodes i node here = slice_get-map (λ (one : Node). one.name) nodes i ∙ ap (option_map (λ (one : Node). one.name)) here

pub loop-j-preserved : goal.loop-j-preserved
loop-j-preserved c a name below at_a at_k = elim (cases_eq a c.loop-j.j) [
  | inl same ↦
      let nodes = c.args.nodes.now in
      let in_j : c.loop-j.j < length nodes = omega (arith, c.loop-j-test.true, c.loop-k-test.true) in
      let here_j = name_at nodes c.loop-j.j c.index-nodes-j.result (slice_get_read nodes (length nodes) c.loop-j.j c.index-nodes-j.result refl in_j c.index-nodes-j.is) in
      let here_k = name_at nodes c.loop-k.k c.index-nodes-k.result (slice_get_read nodes (length nodes) c.loop-k.k c.index-nodes-k.result refl c.loop-k-test.true c.index-nodes-k.is) in
      let one : c.index-nodes-j.result.name ≡ name = same_Some c.index-nodes-j.result.name name (sym here_j ∙ subst (λ i. slice_get (names_of nodes) i ≡ Some name) same at_a) in
      let other : c.index-nodes-k.result.name ≡ name = same_Some c.index-nodes-k.result.name name (sym here_k ∙ at_k) in
      let told = c.if-same.ensures.equal.1 (ap (λ (n : Node). n.name) (sym c.index-nodes-j.is) ∙ ((one ∙ sym other) ∙ ap (λ (n : Node). n.name) c.index-nodes-k.is)) in absurd cc
  | inr differs ↦ c.loop-j.invariant a name (omega arith) at_a at_k
]

pub returns : goal.returns
returns c told j k name at_j at_k =
    let nodes = c.args.nodes.now in
    let long = length-map nodes (λ (one : Node). one.name) in
    let in_j : j < length (names_of nodes) = slice_get_within (names_of nodes) j name at_j in
    let in_k : k < length (names_of nodes) = slice_get_within (names_of nodes) k name at_k in
    let low_j : j < c.loop-k.k = omega (arith, c.loop-k-test.false) in
    let low_k : k < c.loop-k.k = omega (arith, c.loop-k-test.false) in
    elim (dec_lt j k) [
      | yes less ↦ absurd (c.loop-k.invariant j k name less low_k at_j at_k)
      | no not_less ↦ elim (dec_lt k j) [ yes less ↦ absurd (c.loop-k.invariant k j name less low_j at_k at_j) | no not_more ↦ omega arith ]
    ]
