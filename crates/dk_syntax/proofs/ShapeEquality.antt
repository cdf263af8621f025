-- The test of equality that is derived for shapes decides whether they are one.
use Rattle.std.proofs.Common.{◌≡◌, Bool, true, ◌&&◌, nat_eq, refl, ap₂, subst}
use Rattle.std.specs.Bool.{Decides}
use Rattle.std.specs.Cmp.Lexicographic.{nat_list_eq_equiv, pointwise}
use Rattle.std.proofs.lemmas.Bool.{and_parts}
use Rattle.std.proofs.lemmas.Bool.Decides.{Decides-eqb}
use Rattle.dk_syntax.proofs.SymbolLaws.{names_same}
use Rattle.dk_syntax.specs.contracts.symbol.KindPartialEq.TheImpl as derived_kind
use Rattle.dk_syntax.specs.contracts.term_table.ShapePartialEq.TheImpl as derived
use Rattle.dk_syntax.specs.declared.symbol.Kind.{Kind}
use Rattle.dk_syntax.specs.declared.symbol.Kind.TheVariants.{Function, Predicate}
use Rattle.dk_syntax.specs.declared.term_table.Shape.{Shape}
use Rattle.dk_syntax.specs.declared.term_table.Shape.TheVariants.{Any, App}

abbrev same_kinds : Kind → Kind → Bool
same_kinds = (derived_kind.ghosts).eq

kinds_same : (a b : Kind) → same_kinds a b ≡ true → a ≡ b
kinds_same Function Function e = refl
kinds_same Function Predicate e = absurd (cc)
kinds_same Predicate Function e = absurd (cc)
kinds_same Predicate Predicate e = refl

kind_itself : (a : Kind) → same_kinds a a ≡ true
kind_itself Function = refl
kind_itself Predicate = refl

abbrev same_shapes : Shape → Shape → Bool
same_shapes = (derived.ghosts).eq

shape_itself : (a : Shape) → same_shapes a a ≡ true
shape_itself Any = refl
shape_itself (App f ns) =
    ap₂ (λ x y. x && y) (ap₂ (λ x y. x && y) (nat_list_eq_equiv.refl f.name) (ap₂ (λ x y. x && y) ((Decides-eqb f.arity f.arity).1 refl) (kind_itself f.kind))) (nat_list_eq_equiv.refl ns)

shapes_same : (a b : Shape) → same_shapes a b ≡ true → a ≡ b
shapes_same Any Any e = refl
shapes_same Any (App g ms) e = absurd (cc)
shapes_same (App f ns) Any e = absurd (cc)
shapes_same (App f ns) (App g ms) e =
    let parts = and_parts (pointwise nat_eq f.name g.name && (nat_eq f.arity g.arity && same_kinds f.kind g.kind)) (pointwise nat_eq ns ms) e in
    let symbols = and_parts (pointwise nat_eq f.name g.name) (nat_eq f.arity g.arity && same_kinds f.kind g.kind) parts.0 in
    let more = and_parts (nat_eq f.arity g.arity) (same_kinds f.kind g.kind) symbols.1 in
    let name = names_same f.name g.name symbols.0 in
    let arity = (Decides-eqb f.arity g.arity).0 more.0 in
    let kind = kinds_same f.kind g.kind more.1 in
    let one : f ≡ g = λ i. record { name = name i; arity = arity i; kind = kind i } in
    ap₂ App one (names_same ns ms parts.1)

pub shapes_decided : (a b : Shape) → Decides (same_shapes a b) (a ≡ b)
shapes_decided a b = (shapes_same a b, λ e. subst (λ s. same_shapes a s ≡ true) e (shape_itself a))
