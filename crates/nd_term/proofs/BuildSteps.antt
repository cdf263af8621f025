-- The views of the program's terms, for the calls that build them.
use Rattle.std.proofs.lemmas.Grind.{common_steps}
use Rattle.lp_term.proofs.TranslationLaws.{view_negation, view_proof}
use Rattle.lp_term.proofs.ViewLaws.{view_App, view_Lam, view_Pi, view_Sym, view_Var, view_arrow, view_shift}

pub ruleset build_steps = (common_steps, view_App, view_Lam, view_Pi, view_Sym, view_Var, view_arrow, view_negation, view_proof, view_shift)
