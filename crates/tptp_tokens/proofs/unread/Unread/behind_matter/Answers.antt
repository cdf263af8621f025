use Rattle.std.proofs.Common.{◌≡◌, ℕ, Bool, List, sym, subst}
use Rattle.tptp_tokens.specs.Matter.{Skips}
use Rattle.tptp_tokens.specs.Skipping.{Between, skip}
use Rattle.tptp_tokens.proofs.Places.{tail_knows}
use Rattle.tptp_tokens.proofs.SkippedMatter.{skips_so}
use Rattle.tptp_tokens.proofs.UnclosedQuotes.{tail_knows_unclosed}
use Rattle.tptp_tokens.proofs.unread.Unread.behind_matter.Goals as goal

skips_result : (start : Bool) (bytes now rest : List ℕ) → bytes ≡ now → rest ≡ skip (Between start) bytes → Skips start now rest
skips_result start bytes now rest same e = subst (λ (x : List ℕ). Skips start x rest) same (subst (Skips start bytes) (sym e) (skips_so start bytes))

pub invariant_of-result : goal.invariant_of-result
invariant_of-result c =
    let behind = c.skip_matter-bytes.ensures.tail in
    (tail_knows c.self.inside.closing behind c.self.invariant.0, tail_knows_unclosed c.self.inside.unclosed behind c.self.invariant.1)

pub returns-clause-skips : goal.returns-clause-skips
returns-clause-skips c = skips_result c.args.at_start c.self.inside.bytes.now c.args.self.now c.skip_matter-bytes.result.now c.self.view_is c.skip_matter-bytes.ensures.rest
