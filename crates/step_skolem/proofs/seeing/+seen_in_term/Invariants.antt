use Rattle.std.proofs.Common.{◌≡◌, drop}
use Rattle.step_skolem.specs.Searching.{seen_terms}
use Rattle.step_skolem.proofs.seeing.+seen_in_term.Given as goal

-- what is seen is seen in what is left
abbrev pub invariant-seen_in_terms-loop-place : goal.invariant-seen_in_terms-loop-place
invariant-seen_in_terms-loop-place l = seen_terms l.k (drop l.place l.terms) (drop l.place l.there) ≡ seen_terms l.k l.terms l.there
