use Rattle.std.proofs.Common.{sym, ◌∙◌}
use Rattle.step_check.proofs.FittedParents.{equal_flags}
use Rattle.step_check.proofs.links.fitted_parent.Goals as goal

pub returns-in-Some : goal.returns-in-Some
returns-in-Some c = record {
  cth = c.args.cth;
  derived = c.requires;
  fit = sym c.has_conjecture_parent.ensures ∙ equal_flags c.has_conjecture_parent.result c.args.cth c.if-has_conjecture_parent-cth.false;
  one = sym c.parents_at.ensures ∙ c.in-Some.ensures;
}
