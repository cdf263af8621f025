-- The program's spots: where a consumer stands.
use Rattle.std.specs.Prelude.{ℕ, ◌-◌, ◌+◌, cond, nat_lt, List, [], ◌∷◌}
use Rattle.lp_term.specs.LambdaPi.{Term, var}
use Rattle.lp_term.specs.Names.{any_name}
use Rattle.nd_term.specs.Formulas.{GroundTerm, eigenvariable, extended, ground_symbol, unassigned}
use Rattle.nd_term.specs.Frames.{Frame}
use Rattle.nd_term.specs.Outputs.{ground_of}
use Rattle.nd_term.specs.Places.{eigenvariables, shift_times, witnesses}
use Rattle.nd_term.specs.Translation.{translated_ground}
use Rattle.nd_term.specs.declared.spot.Spot.{Spot}
use Rattle.nd_term.specs.declared.values.Value.{Value}
use Rattle.nd_term.specs.declared.values.Value.TheVariants.{Any, Eigenvariable, Ground}

-- what a variable stands for
abbrev pub value_of : Value → GroundTerm
value_of (Eigenvariable k) = eigenvariable k
value_of (Ground t) = ground_of t.now
value_of Any = ground_symbol any_name

-- the values of the variables, the first for variable 0
abbrev pub values_of : List Value → ℕ → GroundTerm
values_of [] = unassigned
values_of (one ∷ rest) = extended (value_of one) (values_of rest)

unfoldable pub frame_of : Spot → Frame
frame_of spot = record { values = values_of spot.values.now; eigens = eigenvariables spot.place.now; witnesses = witnesses spot.place.now; extra = spot.extra }

-- what becomes of a formula's variable below so many of its quantifiers
unfoldable pub value_under : Frame → ℕ → ℕ → Term
value_under z bound n = cond (nat_lt n bound) (var n) (shift_times (z.extra + bound) (translated_ground z.eigens (z.values (n - bound))))
