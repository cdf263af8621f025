-- The terms from which needed Skolem terms come are over the known symbols.
use Rattle.std.proofs.Common.{zero, suc, List, [], ◌∷◌, ◌++◌, length, map, Option, Some, None, filter_map, subst, ⊎_elim, arith}
use Rattle.std.proofs.lemmas.Bool.{and_parts}
use Rattle.std.specs.List.{Contains, flat_map}
use Rattle.std.proofs.lemmas.List.Elements.{Contains-append_cases}
use Rattle.dk_syntax.specs.Lists.{Every, all_true, every_cons, every_nil}
use Rattle.dk_syntax.specs.WellFormed.{fits_symbol, well_formed_term}
use Rattle.dk_syntax.specs.declared.clause.Literal.{Literal}
use Rattle.dk_syntax.specs.declared.symbol.Kind.TheVariants.{Predicate}
use Rattle.dk_syntax.specs.declared.term.Term.{Term}
use Rattle.expansion.specs.declared.thin.Thin.{Thin}
use Rattle.ground_instances.specs.Instances.{clauses_in}
use Rattle.ground_instances.specs.declared.instance.Instance.{Instance}
use Rattle.plan.specs.Laws.{judged_of}
use Rattle.plan.specs.Thins.{AreThins, IsThin}
use Rattle.plan_symbols.specs.Laws.{IsInstanceOver, IsThinOver}
use Rattle.plan_symbols.specs.Over.{IsLiteralOver, IsTermOver, known_symbols}
use Rattle.plan_typing.proofs.TermParts.{args_over, rest_listed}
use Rattle.skolem_order.specs.Order.{clause_terms, root_terms, thin_terms}
use Rattle.skolem_order.specs.declared.origins.Origin.{Origin}
use Rattle.step_check.specs.Steps.{Case}
use Rattle.step_check.specs.declared.verdict.Verdict.{Verdict}

-- each element that a list contains has what all have
pub every_contained : {A : Type 0} {p : A → Type 0} (l : List A) (a : A) → Every p l → Contains l a → p a
every_contained [] a every_nil (k, below, is) = absurd (omega (arith, below))
every_contained {p = p} (b ∷ l) a (every_cons h hs) (zero, below, is) = subst p is h
every_contained (b ∷ l) a (every_cons h hs) (suc k, below, is) = every_contained l a hs (k, omega (arith, below), is)

module _ (case : Case) (origins : List Origin) where
  -- all terms of the list are over the known symbols
  abbrev pub AllOver : List Term → Type 0
  AllOver terms = (t : Term) → Contains terms t → IsTermOver (known_symbols case.problem origins) t

  none_over : AllOver []
  none_over t c = absurd (omega (arith, c.1))

  both_over : (l m : List Term) → AllOver l → AllOver m → AllOver (l ++ m)
  both_over l m h k t c = ⊎_elim (λ i. h t i) (λ i. k t i) (Contains-append_cases l m t c)

  literal_over : (l : Literal) → IsLiteralOver (known_symbols case.problem origins) l → AllOver l.args
  literal_over l over =
      let both = and_parts (fits_symbol Predicate l.pred (length l.args)) (all_true (map well_formed_term l.args)) over.formed in
      args_over (known_symbols case.problem origins) l.args both.1 (rest_listed (known_symbols case.problem origins) over.listed).1

  clause_over : (lits : List Literal) → Every (IsLiteralOver (known_symbols case.problem origins)) lits → AllOver (clause_terms lits)
  clause_over [] every_nil = none_over
  clause_over (l ∷ lits) (every_cons h hs) = both_over l.args (clause_terms lits) (literal_over l h) (clause_over lits hs)

  clauses_over : (instances : List Instance) → Every (IsInstanceOver case origins) instances → AllOver (flat_map clause_terms (clauses_in instances))
  clauses_over [] every_nil = none_over
  clauses_over (it ∷ instances) (every_cons h hs) =
      both_over (clause_terms it.lits) (flat_map clause_terms (clauses_in instances)) (clause_over it.lits h.lits) (clauses_over instances hs)

  thin_over : (thin : Thin) → IsThinOver case origins thin → AllOver (thin_terms thin)
  thin_over thin over = both_over thin.terms thin.skolems (λ t c. every_contained thin.terms t over.terms c) (λ t c. every_contained thin.skolems t over.skolems c)

  module _ (list : List Verdict) (each : (it : Instance) (thin : Thin) → IsInstanceOver case origins it → IsThin (judged_of case list) it thin → IsThinOver case origins thin) where
    thins_over : (instances : List Instance) (thins : List (Option Thin)) → Every (IsInstanceOver case origins) instances → AreThins (judged_of case list) instances thins
        → AllOver (flat_map thin_terms (filter_map (λ thin. thin) thins))
    thins_over [] [] every_nil k = none_over
    thins_over [] (thin ∷ thins) h k = absurd k
    thins_over (it ∷ instances) [] h k = absurd k
    thins_over (it ∷ instances) (None ∷ thins) (every_cons h hs) k = thins_over instances thins hs k.1
    thins_over (it ∷ instances) (Some thin ∷ thins) (every_cons h hs) k =
        both_over (thin_terms thin) (flat_map thin_terms (filter_map (λ thin. thin) thins)) (thin_over thin (each it thin h k.0)) (thins_over instances thins hs k.1)

    -- the terms from which the needed ones come
    pub roots_over : (instances : List Instance) (thins : List (Option Thin)) → Every (IsInstanceOver case origins) instances → AreThins (judged_of case list) instances thins
        → AllOver (root_terms (filter_map (λ thin. thin) thins) (clauses_in instances))
    roots_over instances thins h k =
        both_over (flat_map thin_terms (filter_map (λ thin. thin) thins)) (flat_map clause_terms (clauses_in instances)) (thins_over instances thins h k) (clauses_over instances h)
