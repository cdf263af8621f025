-- Skolem terms with what they are sorted by. Only private contracts cite this.
use Rattle.std.specs.Prelude.{Bool, List, filter}
use Rattle.std.specs.List.{AllPairs}
use Rattle.std.specs.List.Sorted.{IsPermutation}
use Rattle.std.specs.Ordering.{is_lt, nat_cmp, ordering_then}
use Rattle.std.specs.declared.cmp.Ordering.{Ordering}
use Rattle.dk_syntax.specs.Depth.{capped, term_depth_of}
use Rattle.dk_syntax.specs.Order.{order_of}
use Rattle.dk_syntax.specs.TermTables.{IsTermTable}
use Rattle.dk_syntax.specs.declared.Term.{Term}
use Rattle.skolem_order.specs.Order.{IsBefore, rank}
use Rattle.skolem_order.specs.Origins.{is_skolem}
use Rattle.skolem_order.specs.declared.origins.Origin.{Origin}
use Rattle.skolem_order.specs.declared.ranking.Ranked.{Ranked}

-- the term with its depth and its rank
abbrev pub ranked : List Origin → Term → Ranked
ranked origins t = record { depth = capped (term_depth_of t); rank = rank origins t; term = t }

abbrev pub term_in : Ranked → Term
term_in one = one.term

-- by depth, then by rank, then by the order of terms
abbrev pub ranked_order : Ranked → Ranked → Ordering
ranked_order a b = ordering_then (nat_cmp a.depth b.depth) (ordering_then (nat_cmp a.rank b.rank) (order_of a.term b.term))

abbrev pub less_ranked : Ranked → Ranked → Bool
less_ranked a b = is_lt (ranked_order a b)

-- the list has the Skolem terms of the table, each once, in order
pub record AreInOrder (origins : List Origin) (table list : List Term) : Type 0 where
  pub is : IsTermTable table
  pub same : IsPermutation (filter (is_skolem origins) table) list
  pub ascends : AllPairs (IsBefore origins) list
