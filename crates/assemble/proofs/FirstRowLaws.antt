-- The instances of the first worked row are right.
use Rattle.std.proofs.Common.{true, false, [], ◌∷◌, refl}
use Rattle.lp_term.specs.Connectives.{propositions}
use Rattle.lp_term.specs.Typing.{Declares, declared_here, declared_later}
use Rattle.dk_syntax.specs.Lists.{each_cons, each_nil, entry_here, entry_later, every_cons, every_nil}
use Rattle.nd_term.specs.Formulas.{atomic, falsity, ground_symbol, literal, negation, symbol, unassigned}
use Rattle.nd_term.specs.Symbols.{GroundOver, over_ground_symbol}
use Rattle.nd_term.specs.ThinTrees.{below_not, fits_atom, fits_not, leaf}
use Rattle.assemble.specs.Justification.{by_leaf, by_resolve, works_leaf, works_resolve}
use Rattle.assemble.specs.Problem.{signature_of}
use Rattle.assemble.specs.FirstRow.{RowIsRight, row_symbols, row_hypotheses, row_instances, row_p}
use Rattle.assemble.proofs.BuiltLaws.{Builds, builds_cons, builds_nil, works_of}

p_declared : Declares (signature_of row_symbols) row_p propositions
p_declared =
    declared_later _ (declared_later _ (declared_later _ (declared_later _ (declared_later _ (declared_later _ (declared_later _ (declared_later _ (declared_later _ (declared_later _ (declared_later _ (declared_later _ (declared_later _ (declared_later _ (declared_here _ _))))))))))))))

p_ok : GroundOver (signature_of row_symbols) propositions 0 (ground_symbol row_p)
p_ok = over_ground_symbol 0 p_declared

row_built : Builds (signature_of row_symbols) [] row_hypotheses falsity [] row_instances
row_built =
    builds_cons (works_leaf (entry_here _ _) (fits_atom true (symbol row_p) unassigned))
    (builds_cons (works_leaf (entry_later _ (entry_here _ _)) (fits_not true (fits_atom false (symbol row_p) unassigned)))
    (builds_cons (works_resolve 0 0 (entry_here _ _) (entry_later _ (entry_here _ _)) (each_cons (entry_here _ _) each_nil) (each_cons (entry_here _ _) each_nil) (entry_here _ _) (entry_here _ _))
    (builds_nil _)))

pub row_right : RowIsRight
row_right =
    record {
      works = works_of row_built;
      ends = (record { clause = literal true (ground_symbol row_p) ∷ []; by = by_leaf 0 (atomic (symbol row_p)) leaf } ∷ record { clause = literal false (ground_symbol row_p) ∷ []; by = by_leaf 1 (negation (atomic (symbol row_p))) (below_not leaf) } ∷ [], record { clause = []; by = by_resolve 0 1 (0 ∷ []) (0 ∷ []) (ground_symbol row_p) }, refl, refl);
      symbols = every_cons (every_cons p_ok every_nil) (every_cons (every_cons p_ok every_nil) (every_cons every_nil every_nil));
    }
