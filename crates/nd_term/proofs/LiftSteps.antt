-- Terms so many binders further in, and variables by their levels.
use Rattle.std.proofs.Common.{◌≡◌, ◌+◌, ◌-◌, ℕ, zero, suc, nat_lt, refl, ap, sym, ◌∙◌, arith}
use Rattle.std.proofs.lemmas.Bool.Decides.{nat_tests}
use Rattle.std.proofs.lemmas.Grind.{common_steps}
use Rattle.lp_term.specs.LambdaPi.{Term, rename, shift, var}
use Rattle.lp_term.specs.Substitution.{lifted, raised}
use Rattle.lp_term.specs.View.{term_of}
use Rattle.lp_term.specs.declared.lp.Lp.{Lp}
use Rattle.lp_term.proofs.SubstitutionLaws.{ext, rename_rename, rename_is_substitute, substitute_var}
use Rattle.lp_term.proofs.ViewLaws.{view_lifted}
use Rattle.nd_term.specs.Places.{at_level, shift_times}
use Rattle.nd_term.proofs.BuildSteps.{build_steps}

raised_none : (n : ℕ) → raised 0 0 n ≡ n
raised_none n = grind (arith, nat_tests)

raised_more : (k n : ℕ) → raised (suc k) 0 n ≡ suc (raised k 0 n)
raised_more k n = grind (arith, nat_tests)

-- raising by a number is as many shifts
pub raised_times : (k : ℕ) (t : Term) → rename (raised k 0) t ≡ shift_times k t
raised_times zero t = ap (λ r. rename r t) (ext raised_none) ∙ rename_is_substitute t (λ n. n) ∙ substitute_var t
raised_times (suc k) t =
    ap (λ r. rename r t) (ext (raised_more k))
    ∙ sym (rename_rename t (λ n. suc n) (raised k 0))
    ∙ ap shift (raised_times k t)

pub view_times : (k : ℕ) (t : Lp) → term_of (lifted k t 0) ≡ shift_times k (term_of t)
view_times k t = view_lifted k t 0 ∙ raised_times k (term_of t)

pub level_less : (n l : ℕ) → n - 1 - l ≡ n - suc l
level_less n l = omega arith

pub ruleset lift_steps = (build_steps, view_times, level_less, nat_tests)
