use Rattle.std.proofs.Common.{◌≡◌, true, ◌++◌, ◌∷◌, [], subst}
use Rattle.lp_term.specs.Signature.{declaration, declarations}
use Rattle.lp_term.specs.View.{term_of}
use Rattle.lp_kernel.specs.Signatures.{are_distinct, sig_of}
use Rattle.lp_kernel.proofs.SignatureLaws.{new_name}
use Rattle.lp_kernel.proofs.development.declare_command.Goals as goal

pub declare-requires : goal.declare-requires
declare-requires c =
    let s = sig_of c.args.sig.now in
    new_name s (declaration c.in-Constant.name (term_of c.in-Constant.of)) (subst (λ x. are_distinct (s ++ declarations (x ∷ [])) ≡ true) c.in-Constant.is c.requires)

pub declare-requires-in-Symbol : goal.declare-requires-in-Symbol
declare-requires-in-Symbol c =
    let s = sig_of c.args.sig.now in
    new_name s (declaration c.in-Symbol.name (term_of c.in-Symbol.of)) (subst (λ x. are_distinct (s ++ declarations (x ∷ [])) ≡ true) c.in-Symbol.is c.requires)

pub declare-requires-in-Define : goal.declare-requires-in-Define
declare-requires-in-Define c =
    let s = sig_of c.args.sig.now in
    new_name s (declaration c.in-Define.name (term_of c.in-Define.of)) (subst (λ x. are_distinct (s ++ declarations (x ∷ [])) ≡ true) c.in-Define.is c.requires)
