-- What the crates above rely on beside the contracts: one answer each.
use Rattle.std.specs.Prelude.{◌≡◌, ◌≢◌, ℕ, List, Bool, Err}
use Rattle.std.specs.declared.option.Option.{Option}
use Rattle.std.specs.declared.result.Result.{Result}
use Rattle.dk_syntax.specs.declared.Formula.{Formula}
use Rattle.derivation_graph.specs.Graphs.{IsGraphAnswer}
use Rattle.derivation_graph.specs.Roots.{IsRootAnswer}
use Rattle.derivation_graph.specs.declared.graph.Graph.{Graph}
use Rattle.derivation_graph.specs.declared.graph.GraphFault.{GraphFault}
use Rattle.derivation_graph.specs.declared.graph.GraphFault.TheVariants.{Memory}
use Rattle.derivation_graph.specs.declared.graph.Node.{Node}

-- Where memory doesn't lack, the nodes have one graph or one fault.
abbrev pub HasOneGraph : List Node → Type 0
HasOneGraph nodes =
    (one other : Result Graph GraphFault) → IsGraphAnswer nodes one → IsGraphAnswer nodes other → one ≢ Err Memory → other ≢ Err Memory → one ≡ other

-- The steps have one root or none.
abbrev pub HasOneRoot : List Formula → List Bool → Type 0
HasOneRoot formulas barred = (one other : Option ℕ) → IsRootAnswer formulas barred one → IsRootAnswer formulas barred other → one ≡ other
