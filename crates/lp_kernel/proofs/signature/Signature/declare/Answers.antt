use Rattle.std.proofs.Common.{◌≡◌, ◌∷◌, ◌++◌, [], ap, ap₂, ◌∙◌}
use Rattle.indexmap.proofs.CallerLemmas.{insert_entry-new}
use Rattle.lp_term.specs.Signature.{declaration}
use Rattle.lp_term.specs.View.{term_of}
use Rattle.lp_kernel.specs.Signatures.{declarations_of}
use Rattle.lp_kernel.proofs.SignatureLaws.{declarations_last, none_at}
use Rattle.lp_kernel.proofs.signature.Signature.declare.Goals as goal

pub returns : goal.returns
returns c =
    let map = c.args.self.now.entries in
    let key = c.in_ok-key.key in
    let of = c.in_ok-of.of in
    let same = c.in_ok-key.ensures.items ∙ c.as_bytes.ensures in
    let none = none_at map.entries key c.args.name.now same c.requires in
    ap declarations_of (c.in_ok-insert.ensures.entries ∙ insert_entry-new _ map key of none) ∙ declarations_last map.entries key of
    ∙ ap₂ (λ n a. declarations_of map.entries ++ (declaration n (term_of a) ∷ [])) same c.in_ok-of.ensures
