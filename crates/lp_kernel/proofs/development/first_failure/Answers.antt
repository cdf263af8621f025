use Rattle.std.proofs.Common.{ap, ◌∙◌}
use Rattle.lp_term.specs.Signature.{declarations}
use Rattle.lp_kernel.specs.Signatures.{are_distinct}
use Rattle.lp_kernel.proofs.SignatureLaws.{prelude_distinct}
use Rattle.lp_kernel.proofs.development.first_failure.Goals as goal

pub signature_of-requires : goal.signature_of-requires
signature_of-requires c = ap (λ l. are_distinct (declarations l)) (c.as_slice.ensures ∙ c.in_ok-expected.ensures) ∙ prelude_distinct
