-- What the comparison of lazy types rests on.
use Rattle.std.proofs.Common.{◌≡◌, ◌↔◌, ◌+◌, ◌*◌, ◌<◌, ◌≤◌, sym, ap, ap₂, ◌∙◌, arith}
use Rattle.lp_term.specs.LambdaPi.{Term, pi}
use Rattle.lp_exact.specs.Layers.{opened}
use Rattle.lp_exact.specs.LazyTypes.{type_weight, full, in_parts}
use Rattle.lp_exact.proofs.LazyLaws.{opened_weight, full_opens, full_pi}
use Rattle.lp_term.specs.View.{term_of}
use Rattle.lp_term.specs.declared.lp.Lp.{Lp, Pi}
use Rattle.lp_term.proofs.ViewLaws.{view_Pi}

-- the measure of a comparison falls
pub opened_lighter : (a b l r : Term) → l ≡ opened a → r ≡ opened b → 2 * (type_weight l + type_weight r) + 1 < 2 * (type_weight a + type_weight b) + 2
opened_lighter a b l r e h =
    let x = ap type_weight e in
    let y = ap type_weight h in
    let u = opened_weight a in
    let v = opened_weight b in
    omega (arith, x, y, u, v)

opened_full : (a l : Term) → l ≡ opened a → full a ≡ in_parts full l
opened_full a l e = full_opens a ∙ ap (in_parts full) (sym e)

pub opened_same : (a b l r : Term) → l ≡ opened a → r ≡ opened b → (P : Type 0) → (P ↔ (in_parts full l ≡ in_parts full r)) → P ↔ (full a ≡ full b)
opened_same a b l r e h P k =
    (λ p. opened_full a l e ∙ k.0 p ∙ sym (opened_full b r h), λ q. k.1 (sym (opened_full a l e) ∙ q ∙ opened_full b r h))

pub opened_once_less : (a l : Term) → l ≡ opened a → 3 * type_weight l < 3 * type_weight a + 1
opened_once_less a l e = let x = ap type_weight e in let u = opened_weight a in omega (arith, x, u)

pub opened_once : (a l r : Term) → l ≡ opened a → r ≡ in_parts full l → r ≡ full a
opened_once a l r e h = h ∙ sym (opened_full a l e)

-- the parts of two products with one full type, and back
pub products_apart : (l r a b c d : Term) → l ≡ pi a b → r ≡ pi c d → full l ≡ full r → (full a ≡ full c) × (full b ≡ full d)
products_apart l r a b c d e h k =
    let i : pi (full a) (full b) ≡ pi (full c) (full d) = sym (full_pi a b) ∙ ap full (sym e) ∙ k ∙ ap full h ∙ full_pi c d in
    let first : full a ≡ full c = cc in
    let rest : full b ≡ full d = cc in
    (first, rest)

pub products_together : (l r a b c d : Term) → l ≡ pi a b → r ≡ pi c d → full a ≡ full c → full b ≡ full d → full l ≡ full r
products_together l r a b c d e h i k = ap full e ∙ full_pi a b ∙ ap₂ pi i k ∙ sym (full_pi c d) ∙ ap full (sym h)

pub rest_lighter : (l a b : Term) → l ≡ pi a b → type_weight b ≤ type_weight l
rest_lighter l a b e = let w = ap type_weight e in omega (arith, w)

-- a product of the program's terms, seen from its parts
pub view_product : (t a b x y : Lp) → t ≡ Pi a b → x ≡ a → y ≡ b → term_of t ≡ pi (term_of x) (term_of y)
view_product t a b x y e h k = ap term_of e ∙ view_Pi a b ∙ ap₂ (λ u v. pi (term_of u) (term_of v)) (sym h) (sym k)
