use Rattle.std.proofs.Common.{ℕ, ◌+◌, inl, inr, subst, sym, arith}
use Rattle.std.proofs.lemmas.Bool.{cases_eq}
use Rattle.derivation_graph.specs.Agendas.{IsPlaced, IsUnmarked}
use Rattle.derivation_graph.specs.Graphs.{IsStep}
use Rattle.derivation_graph.proofs.agenda.begin.Goals as goal

pub loop-place_of_step-preserved : goal.loop-place_of_step-preserved
loop-place_of_step-preserved c =
    let e = c.in_ok-place.ensures in
    let before = c.loop-place_of_step.invariant in
    let step : ℕ = c.loop-place_of_step.place_of_step + 1 in
    let stands : IsStep c.args.rows.now step = (omega arith, omega (arith, c.in-Ok.ensures)) in
    record {
      long = e.long;
      placed = λ q positive within u. elim (cases_eq q step) [
        | inl same ↦ subst (λ x. IsPlaced c.args.rows.now c.args.marks.now c.place.new.agenda.ready c.place.new.agenda.waiting.items x) (sym same) (e.placed stands (subst (λ x. IsUnmarked c.args.marks.now x) same u))
        | inr differs ↦ e.kept q (before.placed q positive (omega arith) u)
      ];
      opened = λ q h. elim (e.ready q h) [ inl old ↦ before.opened q old | inr new ↦ new ];
    }
