use Rattle.std.proofs.Common.{◌≡◌, ◌-◌, Some, cond, arith, sym, ap, ◌∙◌}
use Rattle.std.specs.Str.{bytes_eq}
use Rattle.std.proofs.lemmas.Map.Text.{hash_map_updates_str}
use Rattle.development.proofs.NameLaws.{flipped, place_step}
use Rattle.dk_syntax.specs.declared.Named.{Named}
use Rattle.step_check.specs.Steps.{has_name}
use Rattle.development.proofs.names.places_by_name.Goals as goal

pub loop-left-preserved : goal.loop-left-preserved
loop-left-preserved c = (
  omega arith,
  λ name.
      let one = c.index-hyps-left.result in
      let test : bytes_eq c.as_bytes-name.result.now name ≡ has_name name one = ap (λ b. bytes_eq b name) (c.as_bytes-name.ensures ∙ ap (λ (n : Named). n.name) (sym c.index-hyps-left.is)) ∙ flipped one.name name in
      let before = c.loop-left.invariant.1 name in
      hash_map_updates_str c.as_bytes-name.result.now c.loop-left.map c.insert.new.self _ c.in_ok-insert.ensures.updates name
      ∙ (λ i. cond (test i) (Some (c.loop-left.left - 1)) (before i))
      ∙ sym (place_step name c.loop-left.left c.args.hyps.now one (omega arith) c.loop-left.invariant.0 (sym c.index-hyps-left.is)),
)
