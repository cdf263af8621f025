use Rattle.std.proofs.Common.{ℕ, nat_eq, sym, ap, ◌∙◌, Vec, Global}
use Rattle.std.specs.Cmp.Lexicographic.{pointwise}
use Rattle.std.specs.Map.{lookup}
use Rattle.std.specs.Option.{option_map}
use Rattle.lp_term.specs.View.{term_of}
use Rattle.lp_kernel.proofs.SignatureLaws.{declared_at}
use Rattle.lp_kernel.proofs.signature.Signature.type_of.Goals as goal

pub returns : goal.returns
returns c =
    let es = c.args.self.now.entries.entries in
    declared_at es c.args.name.now
    ∙ ap (λ q. option_map term_of (lookup (λ (key : Vec ℕ Global). pointwise nat_eq q key.items) es)) (sym c.as_bytes.ensures) ∙ ap (option_map term_of) (sym c.get.ensures.value)
