use Rattle.std.proofs.Common.{◌≡◌, length, ◌+◌, ◌-◌, ◌*◌}
use Rattle.tptp_formulas.specs.Reading.{formula_at, unit_at, units_at}
use Rattle.tptp_formulas.proofs.Rooms.{with_front}
use Rattle.tptp_formulas.proofs.formulas.+formula.Given as goal

abbrev pub decreases-formula : goal.decreases-formula
decreases-formula l = 4 * l.room

abbrev pub decreases-read_core : goal.decreases-read_core
decreases-read_core l = 4 * l.room + 1

abbrev pub decreases-read_unit : goal.decreases-read_unit
decreases-read_unit l = 4 * l.room + 2

abbrev pub decreases-read_units : goal.decreases-read_units
decreases-read_units l = 4 * l.room + 3

abbrev pub invariant-read_units-loop : goal.invariant-read_units-loop
invariant-read_units-loop l =
    with_front l.units (units_at (length l.tokens - l.counter) (unit_at (formula_at l.room)) l.link l.rest)
    ≡ units_at (length l.tokens) (unit_at (formula_at l.room)) l.link l.tokens
