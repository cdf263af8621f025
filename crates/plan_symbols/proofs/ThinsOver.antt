-- The terms of a thin tree are over the symbols that its instance's terms and its map's entries are over.
use Rattle.std.proofs.Common.{◌≡◌, ◌+◌, ℕ, suc, nat_eq, Bool, true, false, List, [], ◌∷◌, length, map, cond, Option, Some, None, sym, ap, ◌∙◌, subst}
use Rattle.std.specs.List.{position}
use Rattle.std.proofs.lemmas.List.{length-map}
use Rattle.dk_syntax.specs.Lists.{Every, every_cons, every_nil}
use Rattle.dk_syntax.specs.declared.formula.Formula.{Formula}
use Rattle.dk_syntax.specs.declared.symbol.SymKey.{SymKey}
use Rattle.dk_syntax.specs.declared.term.Term.{Term}
use Rattle.dk_syntax.specs.declared.term.Term.TheVariants.{App}
use Rattle.expansion.specs.Choices.{assigned, by_side, Chosen, chosen, skolem_term, term_there}
use Rattle.expansion.specs.declared.thin.Thin.{Thin}
use Rattle.ground_instances.proofs.StandsLaws.{verdict_at}
use Rattle.ground_instances.specs.declared.instance.Instance.{Instance}
use Rattle.normal_form.specs.Forms.{all, alls, and, ex, exs, Form, form_of, lit, no, or, yes}
use Rattle.normal_form.specs.Normal.{normal_of}
use Rattle.normal_form.specs.declared.clause_list.ClauseRow.{ClauseRow}
use Rattle.plan.proofs.FitOrigins.{own_fits}
use Rattle.plan.proofs.StepMaps.{sources_of}
use Rattle.plan.specs.Laws.{AreRightSteps, AreWellFormed, judged_of}
use Rattle.plan.specs.Maps.{IsMapOf, to_form, to_image}
use Rattle.plan.specs.Origins.{IsFitEntry}
use Rattle.plan.specs.Thins.{IsThin, IsTreeOf, of_form, of_image}
use Rattle.plan_symbols.proofs.FormsOver.{function_fits, IsEntryOver}
use Rattle.plan_symbols.proofs.InstancesOver.{value_over}
use Rattle.plan_symbols.proofs.EveryLaws.{every_both}
use Rattle.plan_symbols.proofs.TermsOver.{any_over, app_over}
use Rattle.plan_symbols.proofs.VerdictsOver.{AreStepsOver, every_of}
use Rattle.plan_symbols.specs.Over.{IsTermOver}
use Rattle.step_check.specs.Steps.{Case, stands_in}
use Rattle.step_check.specs.declared.verdict.Verdict.{Verdict}
use Rattle.step_skolem.specs.declared.map.SkEntry.{SkEntry}

module _ (symbols : List SymKey) where
  -- the terms that are chosen are over the symbols
  pub record AreChosenOver (c : Chosen) : Type 0 where
    pub terms : Every (IsTermOver symbols) c.terms
    pub skolems : Every (IsTermOver symbols) c.skolems

  -- ---- values

  there_over : (terms : List Term) → Every (IsTermOver symbols) terms → (place : Option ℕ) → IsTermOver symbols (term_there terms place)
  there_over terms h None = any_over symbols
  there_over terms h (Some place) = value_over symbols terms h place

  assigned_over : (quants : List ℕ) (terms : List Term) → Every (IsTermOver symbols) terms → (n : ℕ) → IsTermOver symbols (assigned quants terms n)
  assigned_over quants terms h n = there_over terms h (position (λ m. nat_eq m n) quants)

  values_over : (v : ℕ → Term) → ((n : ℕ) → IsTermOver symbols (v n)) → (args : List ℕ) → Every (IsTermOver symbols) (map v args)
  values_over v h [] = every_nil
  values_over v h (n ∷ args) = every_cons (h n) (values_over v h args)

  entry_term : (v : ℕ → Term) → ((n : ℕ) → IsTermOver symbols (v n)) → (one : SkEntry) → IsEntryOver symbols one → IsTermOver symbols (App one.symbol (map v one.args))
  entry_term v h one w = app_over symbols one.symbol (map v one.args) (record {
    fits = function_fits symbols one.symbol (length (map v one.args)) w.fit.kind (w.fit.arity ∙ sym (length-map one.args v));
    listed = w.listed;
    each = values_over v h one.args;
  })

  skolem_over : (v : ℕ → Term) → ((n : ℕ) → IsTermOver symbols (v n)) → (entries : List SkEntry) → Every (IsEntryOver symbols) entries → (e : ℕ) → IsTermOver symbols (skolem_term v entries e)
  skolem_over v h [] w e = any_over symbols
  skolem_over v h (one ∷ entries) (every_cons i w) e = by_test (nat_eq one.ex e) (skolem_over v h entries w e)
    where
      by_test : (b : Bool) → IsTermOver symbols (skolem_term v entries e) → IsTermOver symbols (cond b (App one.symbol (map v one.args)) (skolem_term v entries e))
      by_test true more = entry_term v h one i
      by_test false more = more

  -- ---- choices

  side_over : (a b : List Bool → Chosen) → ((picks : List Bool) → AreChosenOver (a picks)) → ((picks : List Bool) → AreChosenOver (b picks)) → (picks : List Bool) → AreChosenOver (by_side a b picks)
  side_over a b h k [] = record { terms = every_nil; skolems = every_nil }
  side_over a b h k (false ∷ picks) = h picks
  side_over a b h k (true ∷ picks) = k picks

  chosen_over : (v w : ℕ → Term) → ((n : ℕ) → IsTermOver symbols (v n)) → ((e : ℕ) → IsTermOver symbols (w e)) → (u e : ℕ) (n : Form) (picks : List Bool) → AreChosenOver (chosen v w u e n picks)
  chosen_over v w h k u e yes picks = record { terms = every_nil; skolems = every_nil }
  chosen_over v w h k u e no picks = record { terms = every_nil; skolems = every_nil }
  chosen_over v w h k u e (lit literal) picks = record { terms = every_nil; skolems = every_nil }
  chosen_over v w h k u e (and a b) picks =
      side_over (chosen v w u e a) (chosen v w (alls a + u) (exs a + e) b) (chosen_over v w h k u e a) (chosen_over v w h k (alls a + u) (exs a + e) b) picks
  chosen_over v w h k u e (or a b) picks =
      let first = chosen_over v w h k u e a picks in
      let second = chosen_over v w h k (alls a + u) (exs a + e) b (chosen v w u e a picks).left in
      record { terms = every_both first.terms second.terms; skolems = every_both first.skolems second.skolems }
  chosen_over v w h k u e (all a) picks = let c = chosen_over v w h k (suc u) e a picks in record { terms = every_cons (h u) c.terms; skolems = c.skolems }
  chosen_over v w h k u e (ex a) picks = let c = chosen_over v w h k u (suc e) a picks in record { terms = c.terms; skolems = every_cons (k e) c.skolems }

  -- ---- thin trees

  -- the terms of the thin tree are over the symbols
  pub record IsThinAll (thin : Thin) : Type 0 where
    pub terms : Every (IsTermOver symbols) thin.terms
    pub skolems : Every (IsTermOver symbols) thin.skolems

  tree_over : (f : Formula) (sign : Bool) (entries : List SkEntry) (row : ClauseRow) (it : Instance) (thin : Thin) → IsTreeOf f sign entries row it thin
      → Every (IsTermOver symbols) it.terms → Every (IsEntryOver symbols) entries → IsThinAll thin
  tree_over f sign entries row it thin is h w =
      let v = assigned row.quants it.terms in
      let c = chosen_over v (skolem_term v entries) (assigned_over row.quants it.terms h) (skolem_over v (assigned_over row.quants it.terms h) entries w) 0 0 (form_of (normal_of f sign)) row.picks in
      subst IsThinAll (sym is) (record { terms = c.terms; skolems = c.skolems })

  fit_again : (one other : SkEntry) → other.symbol ≡ one.symbol → length other.args ≡ length one.args → IsFitEntry one → IsFitEntry other
  fit_again one other h k fit = record { kind = ap (λ (x : SymKey). x.kind) h ∙ fit.kind; arity = ap (λ (x : SymKey). x.arity) h ∙ fit.arity ∙ sym k }

  module _ (case : Case) (list : List Verdict) (right : AreRightSteps case list) (formed : AreWellFormed case.steps) (over : AreStepsOver case list symbols) where
    map_over : {i : ℕ} {f : Formula} {sign : Bool} {entries : List SkEntry} → IsMapOf (judged_of case list) i f sign entries → Every (IsEntryOver symbols) entries
    map_over {entries = entries} maps =
        let sources = sources_of case list right.are right.right right.acyclic maps in
        every_of (IsEntryOver symbols) entries (λ one m.
        let t = (sources.each one m).2 in
        let like = t.like in
        let fit = own_fits case formed (verdict_at case list right.are right.right (sources.each one m).0 t.verdict t.has) like.0 like.1 in
        record {
          fit = fit_again like.0 one (sym like.2) (ap length (sym like.3)) fit;
          listed = subst (λ x. stands_in symbols x ≡ true) like.2 (over.puts (sources.each one m).0 t.verdict t.has like.0 like.1);
        })

    pub thins_over : (it : Instance) (thin : Thin) → Every (IsTermOver symbols) it.terms → IsThin (judged_of case list) it thin → IsThinAll thin
    thins_over it thin h (of_form t) = tree_over t.leaf t.sign t.entries t.row it thin t.tree h (map_over (to_form t.maps))
    thins_over it thin h (of_image t) = tree_over t.leaf t.sign t.entries t.row it thin t.tree h (map_over (to_image t.maps))
