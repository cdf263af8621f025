use Rattle.std.proofs.Common.{◌++◌, [], ◌∷◌, map, reverse, Contains, refl, ap, ap₂, ◌∙◌, subst, inr}
use Rattle.std.proofs.lemmas.List.{reverse-append}
use Rattle.ground_instances.specs.Naming.{AreNamesFit}
use Rattle.ground_instances.specs.Notes.{judged_given}
use Rattle.ground_instances.specs.declared.state.Task.TheVariants.{Append, Visit}
use Rattle.ground_instances.proofs.visiting.begin.Goals as goal

pub returns-clause-begun : goal.returns-clause-begun
returns-clause-begun c =
    let old = c.args.state.now in let needs = c.in_ok-needs.needs in let named = c.args.named in
    let fresh : Contains old.names.keys named → ⊥ = λ h. (let e = c.is_listed.ensures.1 h in let f = c.if-is_listed.false in cc) in
    inr (record {
      needs = needs;
      fresh = fresh;
      needed = c.in_ok-needs.ensures;
      fit = subst (AreNamesFit (judged_given c.args.given.now)) c.as_slice.ensures c.in_ok-prepare.ensures.fit;
      state = refl;
      tasks = c.in_ok-push_visits.ensures ∙ ap₂ (λ xs ys. map Visit xs ++ ys) (c.in_ok-visits.ensures ∙ c.as_slice-2.ensures)
          (ap reverse c.in_ok-push.ensures.items ∙ reverse-append c.args.tasks.now.items (Append named needs ∷ []));
    })
