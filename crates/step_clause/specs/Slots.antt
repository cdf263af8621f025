-- The literals of a clause with variables of their own.
use Rattle.std.specs.Prelude.{ℕ, ◌+◌, Bool, true, false, not, None}
use Rattle.dk_syntax.specs.declared.Literal.{Literal}
use Rattle.dk_syntax.specs.declared.Term.{Term}
use Rattle.dk_syntax.specs.declared.Term.TheVariants.{Var}
use Rattle.step_clause.specs.declared.slots.Pivots.{Pivots}
use Rattle.step_clause.specs.declared.slots.Side.{Side}
use Rattle.step_clause.specs.declared.slots.Side.TheVariants.{Kept, Positive, Negative}
use Rattle.step_clause.specs.declared.slots.Slot.{Slot}
use Rattle.dk_syntax.specs.Terms.{instance}

-- The variables are numbered from n on.
abbrev pub raising : ℕ → ℕ → Term
raising n j = Var (n + j)

-- Whether a literal of that sign may be a pivot.
abbrev pub may_cut : Side → Bool → Bool
may_cut Kept positive = false
may_cut Positive positive = positive
may_cut Negative positive = not positive

abbrev pub slot_of : ℕ → Side → Literal → Slot
slot_of n side literal = record { literal = instance (raising n) literal; may_cut = may_cut side literal.positive }

-- Before the first pivot: none is wanted, or one of each sign.
abbrev pub none_wanted : Pivots
none_wanted = record { first = None; wants_positive = false; wants_negative = false }

abbrev pub both_wanted : Pivots
both_wanted = record { first = None; wants_positive = true; wants_negative = true }
