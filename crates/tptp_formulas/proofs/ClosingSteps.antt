-- What the proofs on closed formulas share.
use Rattle.std.proofs.Common.{◌≡◌, ℕ, ◌+◌, ◌<◌, ◌≤◌, List, [], ◌∷◌, length, lt-ltb, le-ltb, ltb-true, refl, ap, ◌∙◌, arith}
use Rattle.std.proofs.lemmas.Grind.{common_steps}
use Rattle.dk_syntax.specs.Depth.{formula_depth}
use Rattle.tptp_formulas.proofs.DepthLaws.{depth-for_all, depth-formula_of}
use Rattle.tptp_formulas.proofs.FewLaws.{few-kept, few-first}
use Rattle.tptp_formulas.specs.Meaning.{closed_formula, formula_of}
use Rattle.tptp_formulas.specs.RawDepth.{raw_depth}
use Rattle.tptp_formulas.specs.Scopes.{free_names}
use Rattle.tptp_formulas.specs.declared.raw.Raw.{Raw}

pub depth-closed : (f : Raw) → formula_depth (closed_formula f) ≡ length (free_names f) + raw_depth f
depth-closed f = depth-for_all (free_names f) (formula_of f (free_names f)) ∙ ap (λ n. length (free_names f) + n) (depth-formula_of f (free_names f))

pub ruleset closing_steps = (common_steps, depth-closed, few-kept, few-first, lt-ltb, le-ltb)
