-- Places of the body.
use Rattle.std.specs.Prelude.{◌≡◌, ℕ, ◌+◌, ◌<◌, ◌≤◌, List, length}
use Rattle.std.specs.HashMap.{get_by}
use Rattle.std.specs.List.{range_with_len}
use Rattle.std.specs.Str.{bytes_eq}
use Rattle.assemble.specs.Fitting.{symbols_of}
use Rattle.assemble.specs.Levels.{Levels}
use Rattle.development.specs.PlaceMaps.{place_from}
use Rattle.development.specs.declared.given.Given.{Given}
use Rattle.nd_term.specs.declared.place.Place.{Place}
use Rattle.plan.specs.declared.plan.Plan.{Plan}

-- the place so many binders further in
abbrev pub further_in : Place → ℕ → Place
further_in place binders =
    record { level = place.level + binders; first_eigen = place.first_eigen; order = place.order; symbols = place.symbols }

-- the place has the plan's Skolem terms and symbols
pub record IsIn (plan : Plan) (first n : ℕ) (place : Place) : Type 0 where
  pub level : place.level ≡ n
  pub first_eigen : place.first_eigen ≡ first
  pub order : place.order.now ≡ plan.order
  pub symbols : place.symbols.now ≡ symbols_of plan.origins.list

-- what is bound where so many instances are done: so many hypotheses, then the denied conjecture, so many eigenvariables from
-- the level first on, and the instances from the level begin on
abbrev pub levels_in : (denied first count begin done : ℕ) → Levels
levels_in denied first count begin done =
    record { hypotheses = range_with_len 0 denied; denied = denied; first = first; count = count; done = range_with_len begin done }

-- the Skolem symbols, the places of names and the number of hypotheses are those of the plan and the problem, and all is bound before the instances
pub record IsGiven (given : Given) : Type 0 where
  pub symbols : given.symbols.now ≡ symbols_of given.plan.now.origins.list
  pub names : (name : List ℕ) → get_by (λ k. bytes_eq name k.now) given.names.now ≡ place_from name 0 given.problem.now.hyps
  pub denied : given.denied ≡ length given.problem.now.hyps
  pub below : given.denied < given.begin
  pub room : given.first + (length given.plan.now.order + length given.plan.now.order) ≤ given.begin

-- where the first eigenvariable and the first instance are bound
pub record IsLaidOut (given : Given) : Type 0 where
  pub none : length given.plan.now.order ≡ 0 → given.first ≡ given.denied + 1
  pub some : 0 < length given.plan.now.order → given.first ≡ given.denied + 3
  pub begin : given.begin ≡ given.first + (length given.plan.now.order + length given.plan.now.order)
