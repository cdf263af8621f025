use Rattle.std.proofs.Common.{◌≡◌, ◌++◌, [], ◌∷◌, ℕ, rules}
use Rattle.step_check.proofs.Climbs.{spread_on, spread_put, taken_end, taken_path}
use Rattle.step_check.proofs.TableLaws.{right_put}
use Rattle.step_check.specs.Notes.{case_given, IsImageOf}
use Rattle.step_check.proofs.climbing.settle.Goals as goal

pub loop-number-preserved : goal.loop-number-preserved
loop-number-preserved c =
    let case = case_given c.args.given.now in let forms = c.args.forms.now in let old = c.loop-number.images in let new = c.put.new.self in
    let path = c.loop-number.path.items in let left = c.pop.new.self.items in let number = c.in-Some.number in
    let put = c.in_ok-put.ensures in
    let popped : path ≡ left ++ number ∷ [] = search rules in
    let spread = spread_put old new number (c.in_ok-image.image, put.there) put.others in record {
      right = right_put (IsImageOf case) old new number c.in_ok-image.image c.loop-number.invariant.right c.in_ok-image.ensures put.there put.others;
      grown = spread_on c.args.images.now old new c.loop-number.invariant.grown spread;
      path = taken_path case forms old path left number new popped c.loop-number.invariant.path (c.in_ok-image.image, put.there);
      known = λ n ends. taken_end case forms old path left number new n popped spread (c.in_ok-image.image, put.there) (c.loop-number.invariant.known n ends);
    }
