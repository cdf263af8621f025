use Rattle.assemble.proofs.SignatureViews.{view_signature}
use Rattle.assemble.proofs.laws.signature_is_of_theory.Goals as goal

pub returns : goal.returns
returns c = λ symbols. view_signature symbols
