-- Laws of formulas: induction, when two formulas are one, and what the definitions say of each kind of formula.
use Rattle.std.proofs.Common.{◌≡◌, ◌+◌, ◌++◌, List, [], ◌∷◌, map, max, ap, subst, sym, ◌∙◌, rules}
use Rattle.dk_syntax.specs.Depth.{formula_depth, greatest, term_depth_of}
use Rattle.dk_syntax.specs.Symbols.{formula_occurrences, joined, term_occurrences}
use Rattle.dk_syntax.specs.declared.formula.Formula.{All, And, Atom, Ex, False, Formula, Formula-F, Iff, Imp, Not, Or, True, ind-Formula, map-Formula, out-Formula, roll-Formula, the_lemmas as of_formulas}
use Rattle.dk_syntax.specs.declared.formula.Formula.TheOpen as layer
use Rattle.dk_syntax.specs.declared.formula.Formula.TheVariants as variant
use Rattle.dk_syntax.specs.declared.symbol.SymKey.{SymKey}
use Rattle.dk_syntax.specs.declared.term.Term.{Term}

-- ---- induction

module _ (P : Formula → Type 0) (at_true : P True) (at_false : P False) (at_atom : (symbol : SymKey) (args : List Term) → P (Atom symbol args))
    (at_not : (a : Formula) → P a → P (Not a)) (at_and : (a b : Formula) → P a → P b → P (And a b)) (at_or : (a b : Formula) → P a → P b → P (Or a b))
    (at_imp : (a b : Formula) → P a → P b → P (Imp a b)) (at_iff : (a b : Formula) → P a → P b → P (Iff a b))
    (at_all : (a : Formula) → P a → P (All a)) (at_ex : (a : Formula) → P a → P (Ex a)) where
  at_layer : (y : Formula-F ((part : Formula) × P part)) → P (roll-Formula (map-Formula ((part : Formula) × P part) Formula (λ one. one.0) y))
  at_layer layer.True = rw variant.rolls-True at_true
  at_layer layer.False = rw variant.rolls-False at_false
  at_layer (layer.Atom symbol args) = rw (variant.rolls-Atom symbol args) (at_atom symbol args)
  at_layer (layer.Not a) = rw (variant.rolls-Not a.0) (at_not a.0 a.1)
  at_layer (layer.And a b) = rw (variant.rolls-And a.0 b.0) (at_and a.0 b.0 a.1 b.1)
  at_layer (layer.Or a b) = rw (variant.rolls-Or a.0 b.0) (at_or a.0 b.0 a.1 b.1)
  at_layer (layer.Imp a b) = rw (variant.rolls-Imp a.0 b.0) (at_imp a.0 b.0 a.1 b.1)
  at_layer (layer.Iff a b) = rw (variant.rolls-Iff a.0 b.0) (at_iff a.0 b.0 a.1 b.1)
  at_layer (layer.All a) = rw (variant.rolls-All a.0) (at_all a.0 a.1)
  at_layer (layer.Ex a) = rw (variant.rolls-Ex a.0) (at_ex a.0 a.1)

  pub formula_induction : (formula : Formula) → P formula
  formula_induction = ind-Formula P (λ x y e. subst (λ z. P (roll-Formula z)) e (at_layer y))

-- ---- when two formulas are one (that two kinds differ is `cc`)

pub Atom-injective : (p q : SymKey) (xs ys : List Term) → Atom p xs ≡ Atom q ys → (p ≡ q) × (xs ≡ ys)
Atom-injective p q xs ys e = let h = sym (variant.outs-Atom p xs) ∙ ap out-Formula e ∙ variant.outs-Atom q ys in (cc, cc)

pub Not-injective : (a b : Formula) → Not a ≡ Not b → a ≡ b
Not-injective a b e = let h = sym (variant.outs-Not a) ∙ ap out-Formula e ∙ variant.outs-Not b in cc

pub And-injective : (a b c d : Formula) → And a b ≡ And c d → (a ≡ c) × (b ≡ d)
And-injective a b c d e = let h = sym (variant.outs-And a b) ∙ ap out-Formula e ∙ variant.outs-And c d in (cc, cc)

pub Or-injective : (a b c d : Formula) → Or a b ≡ Or c d → (a ≡ c) × (b ≡ d)
Or-injective a b c d e = let h = sym (variant.outs-Or a b) ∙ ap out-Formula e ∙ variant.outs-Or c d in (cc, cc)

pub Imp-injective : (a b c d : Formula) → Imp a b ≡ Imp c d → (a ≡ c) × (b ≡ d)
Imp-injective a b c d e = let h = sym (variant.outs-Imp a b) ∙ ap out-Formula e ∙ variant.outs-Imp c d in (cc, cc)

pub Iff-injective : (a b c d : Formula) → Iff a b ≡ Iff c d → (a ≡ c) × (b ≡ d)
Iff-injective a b c d e = let h = sym (variant.outs-Iff a b) ∙ ap out-Formula e ∙ variant.outs-Iff c d in (cc, cc)

pub All-injective : (a b : Formula) → All a ≡ All b → a ≡ b
All-injective a b e = let h = sym (variant.outs-All a) ∙ ap out-Formula e ∙ variant.outs-All b in cc

pub Ex-injective : (a b : Formula) → Ex a ≡ Ex b → a ≡ b
Ex-injective a b e = let h = sym (variant.outs-Ex a) ∙ ap out-Formula e ∙ variant.outs-Ex b in cc

-- ---- the definitions at each kind of formula

pub depth-True : formula_depth True ≡ 1
depth-True = search (rules, of_formulas)

pub depth-False : formula_depth False ≡ 1
depth-False = search (rules, of_formulas)

pub depth-Atom : (p : SymKey) (xs : List Term) → formula_depth (Atom p xs) ≡ 1 + greatest (map term_depth_of xs)
depth-Atom p xs = search (rules, of_formulas)

pub depth-Not : (a : Formula) → formula_depth (Not a) ≡ 1 + formula_depth a
depth-Not a = search (rules, of_formulas)

pub depth-And : (a b : Formula) → formula_depth (And a b) ≡ 1 + max (formula_depth a) (formula_depth b)
depth-And a b = search (rules, of_formulas)

pub depth-Or : (a b : Formula) → formula_depth (Or a b) ≡ 1 + max (formula_depth a) (formula_depth b)
depth-Or a b = search (rules, of_formulas)

pub depth-Imp : (a b : Formula) → formula_depth (Imp a b) ≡ 1 + max (formula_depth a) (formula_depth b)
depth-Imp a b = search (rules, of_formulas)

pub depth-Iff : (a b : Formula) → formula_depth (Iff a b) ≡ 1 + max (formula_depth a) (formula_depth b)
depth-Iff a b = search (rules, of_formulas)

pub depth-All : (a : Formula) → formula_depth (All a) ≡ 1 + formula_depth a
depth-All a = search (rules, of_formulas)

pub depth-Ex : (a : Formula) → formula_depth (Ex a) ≡ 1 + formula_depth a
depth-Ex a = search (rules, of_formulas)

pub occurrences-True : formula_occurrences True ≡ []
occurrences-True = search (rules, of_formulas)

pub occurrences-False : formula_occurrences False ≡ []
occurrences-False = search (rules, of_formulas)

pub occurrences-Atom : (p : SymKey) (xs : List Term) → formula_occurrences (Atom p xs) ≡ p ∷ joined (map term_occurrences xs)
occurrences-Atom p xs = search (rules, of_formulas)

pub occurrences-Not : (a : Formula) → formula_occurrences (Not a) ≡ formula_occurrences a
occurrences-Not a = search (rules, of_formulas)

pub occurrences-And : (a b : Formula) → formula_occurrences (And a b) ≡ formula_occurrences a ++ formula_occurrences b
occurrences-And a b = search (rules, of_formulas)

pub occurrences-Or : (a b : Formula) → formula_occurrences (Or a b) ≡ formula_occurrences a ++ formula_occurrences b
occurrences-Or a b = search (rules, of_formulas)

pub occurrences-Imp : (a b : Formula) → formula_occurrences (Imp a b) ≡ formula_occurrences a ++ formula_occurrences b
occurrences-Imp a b = search (rules, of_formulas)

pub occurrences-Iff : (a b : Formula) → formula_occurrences (Iff a b) ≡ formula_occurrences a ++ formula_occurrences b
occurrences-Iff a b = search (rules, of_formulas)

pub occurrences-All : (a : Formula) → formula_occurrences (All a) ≡ formula_occurrences a
occurrences-All a = search (rules, of_formulas)

pub occurrences-Ex : (a : Formula) → formula_occurrences (Ex a) ≡ formula_occurrences a
occurrences-Ex a = search (rules, of_formulas)
