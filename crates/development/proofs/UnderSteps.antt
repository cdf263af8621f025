-- A term under one binder, with one binder more around that.
use Rattle.std.proofs.Common.{◌≡◌, ℕ, zero, suc, ap, ◌∙◌, arith}
use Rattle.std.proofs.lemmas.Bool.Decides.{nat_tests}
use Rattle.lp_term.specs.LambdaPi.{rename, under_renaming}
use Rattle.lp_term.specs.Substitution.{lifted, raised}
use Rattle.lp_term.specs.View.{term_of}
use Rattle.lp_term.specs.declared.lp.Lp.{Lp}
use Rattle.lp_term.proofs.SubstitutionLaws.{ext}
use Rattle.lp_term.proofs.ViewLaws.{view_lifted}

raised_first : raised 1 1 0 ≡ 0
raised_first = grind (arith, nat_tests)

raised_later : (n : ℕ) → raised 1 1 (suc n) ≡ suc (suc n)
raised_later n = grind (arith, nat_tests)

raised_under_one : (n : ℕ) → raised 1 1 n ≡ under_renaming (λ m. suc m) n
raised_under_one zero = raised_first
raised_under_one (suc n) = raised_later n

pub view_under : (t : Lp) → term_of (lifted 1 t 1) ≡ rename (under_renaming (λ n. suc n)) (term_of t)
view_under t = view_lifted 1 t 1 ∙ ap (λ r. rename r (term_of t)) (ext raised_under_one)
