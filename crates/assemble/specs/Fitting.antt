-- The eigenvariables of needed Skolem terms, and thin trees as proof terms read them.
use Rattle.std.specs.Prelude.{◌≡◌, ℕ, Bool, true, false, cond, List, map, Option, None, Some}
use Rattle.std.specs.List.{list_any}
use Rattle.dk_syntax.specs.Lists.{Entry, Every}
use Rattle.dk_syntax.specs.Symbols.{formula_occurrences, same_symbol}
use Rattle.dk_syntax.specs.declared.Formula.{Formula, Formula-F, out-Formula}
use Rattle.dk_syntax.specs.declared.Formula.TheOpen as formula
use Rattle.dk_syntax.specs.declared.Formula.TheVariants.{False}
use Rattle.dk_syntax.specs.declared.Literal.{Literal}
use Rattle.dk_syntax.specs.declared.SymKey.{SymKey}
use Rattle.dk_syntax.specs.declared.Term.{Term}
use Rattle.expansion.specs.Rows.{term_at}
use Rattle.expansion.specs.declared.thin.Thin.{Thin}
use Rattle.lp_term.specs.Connectives.{individuals}
use Rattle.lp_term.specs.Names.{any_name}
use Rattle.lp_term.specs.Signature.{Extends}
use Rattle.lp_term.specs.Typing.{Declaration}
use Rattle.nd_term.specs.Eigenvariables.{Eigenvariable}
use Rattle.nd_term.specs.Formulas.{GroundTerm, falsity, ground_symbol, unassigned}
use Rattle.nd_term.specs.Outputs.{output, output_clause, place_of}
use Rattle.nd_term.specs.Reading.{Choices, read}
use Rattle.nd_term.specs.Symbols.{GroundOver}
use Rattle.nd_term.specs.ThinTrees.{Fits, ThinTree}
use Rattle.nd_term.specs.Views.{theory_formula}
use Rattle.normal_form.specs.Occurrence.{in_formula}
use Rattle.skolem_order.specs.Laws.{MeetsIn}
use Rattle.skolem_order.specs.Origins.{args_of, origin_of_term, spot_of, terms_around}
use Rattle.skolem_order.specs.Spots.{Spot}
use Rattle.skolem_order.specs.declared.origins.Origin.{Origin}

-- the body of a quantified formula; any other has none, for which False stands
abbrev pub body_at : Formula-F Formula → Formula
body_at formula.True = False
body_at formula.False = False
body_at (formula.Atom symbol args) = False
body_at (formula.Not a) = False
body_at (formula.And a b) = False
body_at (formula.Or a b) = False
body_at (formula.Imp a b) = False
body_at (formula.Iff a b) = False
body_at (formula.All a) = a
body_at (formula.Ex a) = a

abbrev pub body_of : Formula → Formula
body_of f = body_at (out-Formula f)

-- the Skolem symbols
abbrev pub symbols_of : List Origin → List SymKey
symbols_of origins = map (λ origin. origin.symbol) origins

module _ (origins : List Origin) (order : List Term) where
  -- a ground term as it is in proof terms
  abbrev pub output_of : Term → GroundTerm
  output_of t = output (symbols_of origins) order t

  -- what is put for a variable of the formula, where the quantifiers around it have these terms
  abbrev pub put_for : Formula → List Term → ℕ → GroundTerm
  put_for f around n = cond (in_formula f n) (output_of (term_at around n)) (ground_symbol any_name)

  abbrev pub quantified_by : Bool → Formula → List Term → Eigenvariable
  quantified_by positive f around = record { positive = positive; body = theory_formula (body_of f); puts = put_for f around }

  abbrev pub eigenvariable_at : List Term → Origin → Option Spot → Eigenvariable
  eigenvariable_at args origin None = record { positive = true; body = falsity; puts = unassigned }
  eigenvariable_at args origin (Some x) = quantified_by x.positive x.formula (terms_around origin x.around args)

  abbrev pub eigenvariable_from : List Term → Option Origin → Eigenvariable
  eigenvariable_from args None = record { positive = true; body = falsity; puts = unassigned }
  eigenvariable_from args (Some origin) = eigenvariable_at args origin (spot_of origin)

  -- the eigenvariable of a Skolem term: the existential of its origin, with the terms of the quantifiers around
  abbrev pub eigenvariable_of : Term → Eigenvariable
  eigenvariable_of t = eigenvariable_from (args_of t) (origin_of_term origins t)

  -- the eigenvariables of the needed terms, in order
  abbrev pub eigenvariables_of : List Eigenvariable
  eigenvariables_of = map eigenvariable_of order

  -- the choices of a thin tree as they are in proof terms
  abbrev pub choices_of : Thin → Choices
  choices_of thin = record { sides = thin.picks; terms = map output_of thin.terms; eigens = map (place_of order) thin.skolems }

  -- the thin tree of a formula as proof terms have it
  abbrev pub tree_of : Formula → Thin → ThinTree
  tree_of f thin = (read (theory_formula f) thin.sign (choices_of thin)).tree

  -- the symbol is none of the Skolem symbols
  abbrev pub IsPlain : SymKey → Type 0
  IsPlain symbol = list_any (same_symbol symbol) (symbols_of origins) ≡ false

-- Where a thin tree meets origins, its formula has no Skolem symbol, the chosen terms are over the signature and the Skolem terms
-- have places in the order, the tree that proof terms read fits the formula, and gives the ground clause.
abbrev pub TreesFit : Type 0
TreesFit =
    (sig : List Declaration) (origins : List Origin) (order : List Term) (f : Formula) (thin : Thin) (ends : List Literal)
    → Extends sig → MeetsIn origins f thin.sign thin ends → Every (IsPlain origins order) (formula_occurrences f)
    → Every (λ t. GroundOver sig individuals 0 (output_of origins order t)) thin.terms → Every (λ t. Entry order (place_of order t) t) thin.skolems
    → Fits sig (eigenvariables_of origins order) thin.sign (theory_formula f) unassigned (tree_of origins order f thin) (output_clause (symbols_of origins) order ends)
