-- What is left of the path, the last step first; where it ends in a step, or the representative of that is known.
use Rattle.std.proofs.Common.{◌⊎◌, ℕ, length, reverse}
use Rattle.step_check.specs.Notes.{case_given, EndsIn, IsImageOf, IsPath, Spread}
use Rattle.step_check.specs.Tables.{AreRight, IsKnown}
use Rattle.step_check.proofs.climbing.settle.Given as goal

abbrev pub invariant-loop-number : goal.invariant-loop-number
invariant-loop-number l = record {
  right : AreRight (IsImageOf (case_given l.given)) l.images;
  grown : Spread l.initial.images l.images;
  path : IsPath (case_given l.given) l.forms l.images (reverse l.path.items);
  known : (n : ℕ) → EndsIn (reverse l.initial.path.items) n → IsKnown l.images n ⊎ EndsIn (reverse l.path.items) n;
}

abbrev pub decreases-loop-number : goal.decreases-loop-number
decreases-loop-number l = length l.path.items
