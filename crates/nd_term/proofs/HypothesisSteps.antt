-- Where a hypothesis's consumer begins.
use Rattle.std.proofs.Common.{◌≡◌, ◌∙◌, ℕ, Bool, [], ap, ap₂}
use Rattle.expansion.specs.declared.thin.Thin.{Thin}
use Rattle.lp_term.specs.LambdaPi.{Term}
use Rattle.nd_term.specs.Consumers.{consumer}
use Rattle.nd_term.specs.Formulas.{Formula, unassigned}
use Rattle.nd_term.specs.Frames.{consumed}
use Rattle.nd_term.specs.Places.{at_level, eigenvariables, last_variables, lifted_by, shifted_by, witnesses}
use Rattle.nd_term.specs.Reading.{Choices, Read, read, read_as}
use Rattle.nd_term.specs.Spots.{frame_of, values_of}
use Rattle.nd_term.specs.ThinReading.{choices_of, consumer_at}
use Rattle.nd_term.specs.ThinTrees.{ThinTree}
use Rattle.nd_term.specs.TreeKinds.{leaves}
use Rattle.nd_term.specs.declared.place.Place.{Place}
use Rattle.nd_term.specs.declared.spot.Spot.{Spot}

pub consumed_first : (spot : Spot) (f : Formula) (b : Bool) (th : ThinTree) (l : ℕ) (t : Term) → spot.values.now ≡ [] → spot.extra ≡ 0
    → consumed (frame_of spot) f b th l t ≡ consumer f b th unassigned (eigenvariables spot.place.now) (witnesses spot.place.now) (last_variables l) t
unfolding consumed frame_of
consumed_first spot f b th l t e i =
    ap₂ (λ vs k. consumer f b th (values_of vs) (lifted_by k (eigenvariables spot.place.now)) (lifted_by k (witnesses spot.place.now)) (shifted_by k (last_variables l)) t) e i

-- the consumer of a tree that was read from the beginning of a thin tree's lists
pub begins : (f : Formula) (thin : Thin) (base : ℕ) (place : Place) (spot : Spot) (th : ThinTree) (rest : Choices) (l : ℕ) (t r : Term) → r ≡ consumed (frame_of spot) f thin.sign th l t → spot.values.now ≡ [] → spot.extra ≡ 0
    → spot.place.now ≡ place → read_as th rest ≡ read f thin.sign (choices_of thin place) → l ≡ leaves th → t ≡ at_level place.level base → r ≡ consumer_at f thin base place
begins f thin base place spot th rest l t r h e i j k m n =
    h ∙ consumed_first spot f thin.sign th l t e i
    ∙ ap (λ p. consumer f thin.sign th unassigned (eigenvariables p) (witnesses p) (last_variables l) t) j
    ∙ ap₂ (λ y u. consumer f thin.sign th unassigned (eigenvariables place) (witnesses place) (last_variables y) u) m n
    ∙ ap (λ (x : Read). consumer f thin.sign x.tree unassigned (eigenvariables place) (witnesses place) (last_variables (leaves x.tree)) (at_level place.level base)) k
