-- The formulas of leaves are the problem's, and no Skolem symbol stands in them.
use Rattle.std.proofs.Common.{◌≡◌, ◌<◌, ◌≤◌, Bool, true, false, if◌then◌else◌, List, [], ◌∷◌, ◌++◌, refl, sym, ◌∙◌, subst, inl, inr, arith}
use Rattle.std.specs.List.{list_any}
use Rattle.assemble.specs.Fitting.{IsPlain, symbols_of}
use Rattle.dk_syntax.specs.Lists.{Every}
use Rattle.dk_syntax.specs.Problems.{formulas_of, HasItsSymbols}
use Rattle.dk_syntax.specs.Symbols.{first_symbols, formula_occurrences, same_symbol, with_symbol, with_symbols}
use Rattle.dk_syntax.specs.declared.formula.Formula.{Formula}
use Rattle.dk_syntax.specs.declared.symbol.SymKey.{SymKey}
use Rattle.dk_syntax.specs.declared.term.Term.{Term}
use Rattle.plan.proofs.Counts.{among_stands, count, counted, stands_among}
use Rattle.plan.proofs.FreshLists.{part_counted}
use Rattle.plan.proofs.LeafSymbols.{symbol_known}
use Rattle.plan.proofs.Membership.{Among, among_left, among_right}
use Rattle.plan.proofs.OriginLaws.{from_origin}
use Rattle.plan.proofs.StepMaps.{unknown_in_all}
use Rattle.plan.specs.Laws.{AreRightSteps, judged_of}
use Rattle.plan.specs.Origins.{AreOrigins}
use Rattle.plan_typing.proofs.LeafLists.{among_every}
use Rattle.skolem_order.specs.declared.origins.Origin.{Origin}
use Rattle.step_check.specs.Freshness.{introduced, introduced_by}
use Rattle.step_check.specs.Steps.{Case, stands_in}
use Rattle.step_check.specs.declared.verdict.Verdict.{Verdict}

-- ---- symbols that are added once

old_stays : (seen : List SymKey) (s x : SymKey) → Among seen x → Among (with_symbol seen s) x
old_stays seen s x h = by_test (list_any (same_symbol s) seen)
  where
    by_test : (b : Bool) → Among (if b then seen else seen ++ s ∷ []) x
    by_test true = h
    by_test false = among_left seen (s ∷ []) x h

new_put : (seen : List SymKey) (s : SymKey) → Among (with_symbol seen s) s
new_put seen s = by_test (list_any (same_symbol s) seen) refl
  where
    by_test : (b : Bool) → list_any (same_symbol s) seen ≡ b → Among (if b then seen else seen ++ s ∷ []) s
    by_test true e = stands_among seen s e
    by_test false e = among_right seen (s ∷ []) s (inl refl)

all_old : (l seen : List SymKey) (x : SymKey) → Among seen x → Among (with_symbols seen l) x
all_old [] seen x h = h
all_old (s ∷ l) seen x h = all_old l (with_symbol seen s) x (old_stays seen s x h)

all_put : (l seen : List SymKey) (x : SymKey) → Among l x → Among (with_symbols seen l) x
all_put [] seen x h = absurd h
all_put (s ∷ l) seen x (inl e) = all_old l (with_symbol seen s) x (subst (λ y. Among (with_symbol seen s) y) e (new_put seen s))
all_put (s ∷ l) seen x (inr h) = all_put l (with_symbol seen s) x h

-- a symbol of the origins is that of one
origin_of_symbol : (origins : List Origin) (x : SymKey) → Among (symbols_of origins) x → (o : Origin) × Among origins o × (o.symbol ≡ x)
origin_of_symbol [] x h = absurd h
origin_of_symbol (o ∷ origins) x (inl e) = (o, inl refl, e)
origin_of_symbol (o ∷ origins) x (inr h) = let r = origin_of_symbol origins x h in (r.0, inr r.1, r.2)

module _ (case : Case) (list : List Verdict) (s : AreRightSteps case list) where
  module _ (origins : List Origin) (os : AreOrigins (judged_of case list) origins) where
    -- a symbol of the problem is none of the origins'
    unknown : (x : SymKey) → stands_in case.problem.symbols x ≡ true → stands_in (symbols_of origins) x ≡ false
    unknown x known = by_test (stands_in (symbols_of origins) x) refl
      where
        by_test : (b : Bool) → stands_in (symbols_of origins) x ≡ b → stands_in (symbols_of origins) x ≡ false
        by_test false e = e
        by_test true e =
            let o = origin_of_symbol origins x (stands_among (symbols_of origins) x e) in
            let r = from_origin (judged_of case list) 0 list origins os o.0 o.1 in
            let same : r.symbol ≡ x = sym r.origin.named ∙ o.2 in
            let some : 0 < count x (introduced r.verdict) = counted x (introduced r.verdict) (subst (λ y. Among (introduced r.verdict) y) same r.puts) in
            let part : count x (introduced r.verdict) ≤ count x (introduced_by list) = part_counted list x r.place r.verdict r.at in
            let none : count x (introduced_by list) ≡ 0 = unknown_in_all case list s.are s.right s.acyclic x known in
            absurd (omega (arith, some, part, none))

    -- no Skolem symbol stands in a formula of the problem
    pub plain_formula : HasItsSymbols case.problem → (order : List Term) (f : Formula) → Among (formulas_of case.problem) f → Every (IsPlain origins order) (formula_occurrences f)
    plain_formula own order f there =
        among_every (IsPlain origins order) (formula_occurrences f)
        (λ x h. unknown x (symbol_known case.problem own f there x (among_stands (first_symbols f) x (all_put (formula_occurrences f) [] x h))))
