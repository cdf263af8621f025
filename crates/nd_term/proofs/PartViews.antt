-- A formula of the program in the theory, by its parts.
use Rattle.std.proofs.Common.{◌≡◌, List, ap, ap₂, sym, ◌∙◌}
use Rattle.dk_syntax.specs.declared.Formula.{Formula}
use Rattle.dk_syntax.specs.declared.Formula.TheVariants.{All, And, Ex, Iff, Imp, Not, Or}
use Rattle.nd_term.specs.Formulas.{conjunction, disjunction, equivalence, existential, implication, negation, universal}
use Rattle.nd_term.specs.Views.{theory_formula}
use Rattle.nd_term.proofs.FormulaViews.{theory-All, theory-And, theory-Ex, theory-Iff, theory-Imp, theory-Not, theory-Or}

pub not_parts : (one a x : Formula) → one ≡ Not a → x ≡ a → theory_formula one ≡ negation (theory_formula x)
not_parts one a x e i = ap theory_formula e ∙ theory-Not a ∙ ap (λ y. negation (theory_formula y)) (sym i)

pub all_parts : (one a x : Formula) → one ≡ All a → x ≡ a → theory_formula one ≡ universal (theory_formula x)
all_parts one a x e i = ap theory_formula e ∙ theory-All a ∙ ap (λ y. universal (theory_formula y)) (sym i)

pub ex_parts : (one a x : Formula) → one ≡ Ex a → x ≡ a → theory_formula one ≡ existential (theory_formula x)
ex_parts one a x e i = ap theory_formula e ∙ theory-Ex a ∙ ap (λ y. existential (theory_formula y)) (sym i)

pub and_parts : (one a b x y : Formula) → one ≡ And a b → x ≡ a → y ≡ b → theory_formula one ≡ conjunction (theory_formula x) (theory_formula y)
and_parts one a b x y e i j = ap theory_formula e ∙ theory-And a b ∙ ap₂ (λ u v. conjunction (theory_formula u) (theory_formula v)) (sym i) (sym j)

pub or_parts : (one a b x y : Formula) → one ≡ Or a b → x ≡ a → y ≡ b → theory_formula one ≡ disjunction (theory_formula x) (theory_formula y)
or_parts one a b x y e i j = ap theory_formula e ∙ theory-Or a b ∙ ap₂ (λ u v. disjunction (theory_formula u) (theory_formula v)) (sym i) (sym j)

pub imp_parts : (one a b x y : Formula) → one ≡ Imp a b → x ≡ a → y ≡ b → theory_formula one ≡ implication (theory_formula x) (theory_formula y)
imp_parts one a b x y e i j = ap theory_formula e ∙ theory-Imp a b ∙ ap₂ (λ u v. implication (theory_formula u) (theory_formula v)) (sym i) (sym j)

pub iff_parts : (one a b x y : Formula) → one ≡ Iff a b → x ≡ a → y ≡ b → theory_formula one ≡ equivalence (theory_formula x) (theory_formula y)
iff_parts one a b x y e i j = ap theory_formula e ∙ theory-Iff a b ∙ ap₂ (λ u v. equivalence (theory_formula u) (theory_formula v)) (sym i) (sym j)
