use Rattle.std.proofs.Common.{◌≡◌, ◌+◌, ◌≤◌, Some, sym, ap, ap₂, ◌∙◌, arith}
use Rattle.lp_term.specs.LambdaPi.{pi}
use Rattle.lp_term.specs.View.{term_of}
use Rattle.lp_term.specs.declared.lp.Lp.{Lp, Pi, size-Lp, size_is-Lp, the_lemmas as of_lp}
use Rattle.lp_term.proofs.ViewLaws.{view_Pi}
use Rattle.lp_exact.specs.Objects.{simple_of}
use Rattle.lp_kernel.specs.Walking.{size_after, size_of}
use Rattle.lp_kernel.proofs.SizeLaws.{size_more}
use Rattle.lp_kernel.proofs.resume.+size_of_simple.Goals as goal

part_below : (t a b r : Lp) → t ≡ Pi a b → r ≡ b → size-Lp r ≤ size-Lp t
part_below t a b r e h = let x = ap size-Lp e in let y = ap size-Lp h in let z = size_is-Lp (Pi a b) in grind (arith, x, y, z, of_lp)

pub codomains-preserved : goal.codomains-preserved
codomains-preserved t c =
    let a = term_of c.get.result.now in
    let b = term_of c.get-rest.result.now in
    let view : term_of c.codomains.rest.now ≡ pi a b = ap term_of c.in-Pi.is ∙ view_Pi c.in-Pi.a c.in-Pi.b ∙ ap₂ (λ x y. pi (term_of x) (term_of y)) (sym c.get.ensures) (sym c.get-rest.ensures) in
    let domain : size_of (simple_of a) ≡ Some c.in-Some.size = sym c.in_ok-size_of_simple-in-Pi.ensures ∙ c.in-Some.is in
    let both : c.in_ok-both-in-Some.both ≡ c.codomains.domains + c.in-Some.size = c.in_ok-both-in-Some.ensures in
    let more : c.in_ok-domains-in-Some.domains ≡ c.in_ok-both-in-Some.both + 1 = c.in_ok-domains-in-Some.ensures in
    let below = part_below c.codomains.rest.now c.in-Pi.a c.in-Pi.b c.get-rest.result.now c.in-Pi.is c.get-rest.ensures in (
      size_more c.codomains.domains c.in-Some.size c.in_ok-domains-in-Some.domains (simple_of a) (simple_of b) domain (omega (arith, both, more))
          ∙ ap (λ z. size_after c.codomains.domains (size_of (simple_of z))) (sym view) ∙ c.codomains.invariant.0,
      omega (arith, below, c.codomains.invariant.1),
    )
