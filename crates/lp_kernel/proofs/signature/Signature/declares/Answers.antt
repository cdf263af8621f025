use Rattle.std.proofs.Common.{ℕ, nat_eq, is_some, sym, ap, ◌∙◌, Vec, Global}
use Rattle.std.specs.Cmp.Lexicographic.{pointwise}
use Rattle.std.specs.Map.{lookup}
use Rattle.lp_kernel.proofs.SignatureLaws.{is_declared_at}
use Rattle.lp_kernel.proofs.signature.Signature.declares.Goals as goal

pub returns : goal.returns
returns c =
    let es = c.args.self.now.entries.entries in
    c.contains_key.ensures ∙ ap (λ q. is_some (lookup (λ (key : Vec ℕ Global). pointwise nat_eq q key.items) es)) c.as_bytes.ensures
    ∙ is_declared_at es c.args.name.now
