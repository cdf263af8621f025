use Rattle.std.proofs.Common.{◌≤◌, ◌+◌, ◌-◌, ◌∙◌, ap, ap₂, length, reverse, sym, subst}
use Rattle.std.specs.List.{slice_get}
use Rattle.dk_syntax.specs.declared.Term.TheVariants.{Var}
use Rattle.step_skolem.proofs.Levels.{free_stands, value_stands}
use Rattle.step_skolem.proofs.Results.{ok_map}
use Rattle.step_skolem.specs.Levels.{term_of}
use Rattle.step_skolem.proofs.walk.variable_at.Goals as goal

pub returns-in-Some : goal.returns-in-Some
returns-in-Some c =
    ok_map c.value_term.result (λ t e. value_stands (length c.args.walk.now.kept.items) c.args.walk.now.values.items c.args.k c.in-Some.value.now t
    (ap (λ l. slice_get (reverse l) c.args.k) (sym c.as_slice.ensures.value) ∙ c.in-Some.ensures)
    (e ∙ ap (λ d. term_of d c.in-Some.value.now) (c.len-depth.ensures ∙ c.args.walk.now.kept.ok.0))) c.value_term.ensures

pub returns-in-None : goal.returns-in-None
returns-in-None c =
    ok_map c.variable.result (λ t e. free_stands (length c.args.walk.now.kept.items) c.args.walk.now.values.items c.args.k t
    (subst (λ l. length l ≤ c.args.k) c.as_slice.ensures.value c.in-None.ensures) (e ∙ ap₂ (λ a b. Var (c.args.k - a + b)) (c.len.ensures ∙ c.args.walk.now.values.ok.0) (c.len-depth.ensures ∙ c.args.walk.now.kept.ok.0))) c.variable.ensures
