-- How trees are read, one lemma for each arm.
use Rattle.std.proofs.Common.{◌≡◌, ℕ, Bool, true, false, cond, refl, sym, ap, ap₂, ◌∙◌}
use Rattle.dk_syntax.specs.declared.Formula.{Formula}
use Rattle.lp_term.specs.Names.{any_name}
use Rattle.nd_term.specs.Formulas.{Formula as TheoryFormula, GroundTerm, ground_symbol}
use Rattle.nd_term.specs.Reading.{Choices, Read, after_eigen, after_side, after_term, first_or, on_side, read, with_both, with_choice, with_node, with_witness}
use Rattle.nd_term.specs.ThinTrees.{both, choice, eigenvariable_at, left, right, vacuous}
use Rattle.nd_term.specs.Views.{theory_formula}

-- the tree of a formula of the program, by that of the theory
pub at_formula : (one : Formula) (f : TheoryFormula) (p q : Bool) (c : Choices) (r : Read) → theory_formula one ≡ f → p ≡ q → r ≡ read f q c
    → r ≡ read (theory_formula one) p c
at_formula one f p q c r e i h = h ∙ sym (ap₂ (λ g b. read g b c) e i)

pub side_right : (a b : Choices → Read) (c d : Choices) (s : Bool) (q r : Read) → s ≡ true → s ≡ first_or false c.sides → d ≡ after_side c → q ≡ b d → r ≡ with_node right q
    → r ≡ on_side a b c
side_right a b c d s q r e f g h i =
    i ∙ ap (with_node right) (h ∙ ap b g) ∙ ap (λ x. cond x (with_node right (b (after_side c))) (with_node left (a (after_side c)))) (sym e ∙ f)

pub side_left : (a b : Choices → Read) (c d : Choices) (s : Bool) (q r : Read) → s ≡ false → s ≡ first_or false c.sides → d ≡ after_side c → q ≡ a d → r ≡ with_node left q
    → r ≡ on_side a b c
side_left a b c d s q r e f g h i =
    i ∙ ap (with_node left) (h ∙ ap a g) ∙ ap (λ x. cond x (with_node right (b (after_side c))) (with_node left (a (after_side c)))) (sym e ∙ f)

pub both_read : (a : Read) (next : Choices → Read) (f s r : Read) → f ≡ a → s ≡ next f.rest → r ≡ with_node (both f.tree) s → r ≡ with_both a next
both_read a next f s r e g h = h ∙ ap₂ (λ (x y : Read). with_node (both x.tree) y) e (g ∙ ap (λ (x : Read). next x.rest) e)

pub choice_read : (k : Bool) (a : Choices → Read) (c d : Choices) (u : GroundTerm) (q r : Read) → k ≡ true → u ≡ first_or (ground_symbol any_name) c.terms → d ≡ after_term c → q ≡ a d
    → r ≡ with_node (choice u) q → r ≡ with_choice k a c
choice_read k a c d u q r e f g h i = i ∙ ap₂ (λ y z. with_node (choice y) z) f (h ∙ ap a g) ∙ ap (λ b. with_choice b a c) (sym e)

pub choice_vacuous : (k : Bool) (a : Choices → Read) (c : Choices) (u : GroundTerm) (q r : Read) → k ≡ false → u ≡ ground_symbol any_name → q ≡ a c → r ≡ with_node (choice u) q
    → r ≡ with_choice k a c
choice_vacuous k a c u q r e f h i = i ∙ ap₂ (λ y z. with_node (choice y) z) f h ∙ ap (λ b. with_choice b a c) (sym e)

pub witness_read : (k : Bool) (a : Choices → Read) (c d : Choices) (n : ℕ) (q r : Read) → k ≡ true → n ≡ first_or 0 c.eigens → d ≡ after_eigen c → q ≡ a d
    → r ≡ with_node (eigenvariable_at n) q → r ≡ with_witness k a c
witness_read k a c d n q r e f g h i = i ∙ ap₂ (λ y z. with_node (eigenvariable_at y) z) f (h ∙ ap a g) ∙ ap (λ b. with_witness b a c) (sym e)

pub witness_vacuous : (k : Bool) (a : Choices → Read) (c : Choices) (q r : Read) → k ≡ false → q ≡ a c → r ≡ with_node vacuous q → r ≡ with_witness k a c
witness_vacuous k a c q r e h i = i ∙ ap (with_node vacuous) h ∙ ap (λ b. with_witness b a c) (sym e)
