use Rattle.std.proofs.Common.{◌≡◌, Some, refl, sym, ap, ◌∙◌}
use Rattle.plan.proofs.OriginAnswers.{first_contained, no_first}
use Rattle.plan.specs.Known.{first_named}
use Rattle.step_skolem.specs.declared.map.SkMap.{SkMap}
use Rattle.plan.proofs.origins.origin_by.Goals as goal

pub unreachable-requires : goal.unreachable-requires
unreachable-requires c =
    no_first c.args.it.now.map.entries c.as_slice.result.now c.args.symbol.now c.as_slice.ensures c.requires (sym c.in-None.ensures)

pub returns : goal.returns
returns c =
    let entries = c.args.it.now.map.entries in let symbol = c.args.symbol.now in let one = c.in-Some.one.now in
    let found : first_named entries symbol ≡ Some one = ap (λ l. first_named l symbol) (sym c.as_slice.ensures) ∙ sym c.in-Some.ensures in record {
      named = c.in_ok-name-in-Some.ensures;
      formula = c.in_ok-formula-in-Some.ensures;
      signed = refl;
      mapped = ap (λ (m : SkMap). m.entries) c.in_ok-map-in-Some.ensures;
      args = one.args;
      own = first_contained entries symbol one found;
    }
