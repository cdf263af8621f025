use Rattle.std.proofs.Common.{arith, inl, refl}
use Rattle.step_clause.specs.declared.slots.Slot.{Slot}
use Rattle.step_clause.proofs.Loops.{all_more, item_at}
use Rattle.step_clause.proofs.SymbolLaws.{pivot_by_room, room_by_pivot}
use Rattle.step_clause.specs.Symbols.{HasRoom}
use Rattle.step_clause.proofs.symbols.symbols_allow.Goals as goal

pub returns-then-not-has_mate : goal.returns-then-not-has_mate
returns-then-not-has_mate c =
    let ds = c.args.target.now.lits in
    let w = c.args.pivots.now in
    let slots = c.args.slots.now in (
      λ h. room_by_pivot ds w slots c.slot-item.result.literal (c.in_ok-allows.ensures.0 h),
      λ all. c.in_ok-allows.ensures.1
          (pivot_by_room ds w slots c.slot-item.result (λ h. let a = c.has_mate.ensures.1 h in let b = c.if-not-has_mate.true in cc)
          (item_at Slot (HasRoom ds w slots) slots c.loop-slot.slot-index c.slot-item.result all c.loop-slot-test.true c.slot-item.is)),
    )

pub loop-slot-preserved : goal.loop-slot-preserved
loop-slot-preserved c =
    let ds = c.args.target.now.lits in
    let w = c.args.pivots.now in
    let slots = c.args.slots.now in
    all_more Slot (HasRoom ds w slots) slots c.loop-slot.slot-index c.slot-item.result c.loop-slot-test.true c.slot-item.is c.loop-slot.invariant
    (inl (c.has_mate.ensures.0 c.if-not-has_mate.false))

pub returns : goal.returns
returns c =
    let low = c.loop-slot-test.false in
    (λ h k d l. c.loop-slot.invariant k d (omega arith), λ all. refl)
