-- Forms that differ by order and grouping alone are true together.
use Rattle.std.proofs.Common.{◌≡◌, ℕ, Bool, true, false, ◌&&◌, ◌||◌, refl, sym, ap, ap₂, ◌∙◌}
use mathlib.Core.Path.{fun_ext}
use Rattle.normal_form.proofs.FormEquations.{truth-All, truth-And, truth-Ex, truth-False, truth-Lit, truth-Or, truth-True}
use Rattle.normal_form.proofs.FormInduction.{form_induction}
use Rattle.normal_form.proofs.FormLaws.{form-All, form-And, form-Ex, form-False, form-Lit, form-Or, form-True}
use Rattle.normal_form.proofs.Regroups.{sorting_is_exact}
use Rattle.normal_form.specs.Forms.{all, and, ex, Form, form_of, lit, no, or, yes}
use Rattle.normal_form.specs.Sorting.{Regrouped, SameSorted}
use Rattle.normal_form.specs.Sorting as re
use Rattle.normal_form.specs.Truth.{form_truth, Interpretation, literal_truth, with_value}
use Rattle.normal_form.specs.declared.form.Nf.{Nf}

-- ---- truth values

and_swap : (a b : Bool) → a && b ≡ b && a
and_swap true true = refl
and_swap true false = refl
and_swap false true = refl
and_swap false false = refl

and_turn : (a b c : Bool) → (a && b) && c ≡ a && (b && c)
and_turn true b c = refl
and_turn false b c = refl

or_swap : (a b : Bool) → a || b ≡ b || a
or_swap true true = refl
or_swap true false = refl
or_swap false true = refl
or_swap false false = refl

or_turn : (a b c : Bool) → (a || b) || c ≡ a || (b || c)
or_turn true b c = refl
or_turn false b c = refl

module _ {D : Type 0} (i : Interpretation D) where
  -- the truth of a form's tree
  abbrev tree_truth : Form → (ℕ → D) → Bool
  tree_truth yes v = true
  tree_truth no v = false
  tree_truth (lit l) v = literal_truth i v l
  tree_truth (and a b) v = tree_truth a v && tree_truth b v
  tree_truth (or a b) v = tree_truth a v || tree_truth b v
  tree_truth (all a) v = i.all (λ d. tree_truth a (with_value d v))
  tree_truth (ex a) v = i.ex (λ d. tree_truth a (with_value d v))

  abbrev HasTreeTruth : Nf → Type 0
  HasTreeTruth n = (v : ℕ → D) → form_truth i n v ≡ tree_truth (form_of n) v

  has_tree_truth : (n : Nf) → HasTreeTruth n
  has_tree_truth = form_induction HasTreeTruth
      (λ v. truth-True i v ∙ ap (λ a. tree_truth a v) (sym form-True))
      (λ v. truth-False i v ∙ ap (λ a. tree_truth a v) (sym form-False))
      (λ l v. truth-Lit i v l ∙ ap (λ a. tree_truth a v) (sym (form-Lit l)))
      (λ a b g h v. truth-And i v a b ∙ (ap₂ (λ x y. x && y) (g v) (h v) ∙ ap (λ c. tree_truth c v) (sym (form-And a b))))
      (λ a b g h v. truth-Or i v a b ∙ (ap₂ (λ x y. x || y) (g v) (h v) ∙ ap (λ c. tree_truth c v) (sym (form-Or a b))))
      (λ a g v. truth-All i v a ∙ (ap i.all (fun_ext (λ d. g (with_value d v))) ∙ ap (λ c. tree_truth c v) (sym (form-All a))))
      (λ a g v. truth-Ex i v a ∙ (ap i.ex (fun_ext (λ d. g (with_value d v))) ∙ ap (λ c. tree_truth c v) (sym (form-Ex a))))

  regrouped_truth : {a b : Form} → Regrouped a b → (v : ℕ → D) → tree_truth a v ≡ tree_truth b v
  regrouped_truth (re.stay a) v = refl
  regrouped_truth (re.chain a b c g h) v = regrouped_truth g v ∙ regrouped_truth h v
  regrouped_truth (re.swap_and a b) v = and_swap (tree_truth a v) (tree_truth b v)
  regrouped_truth (re.turn_and a b c) v = and_turn (tree_truth a v) (tree_truth b v) (tree_truth c v)
  regrouped_truth (re.in_and a b c d g h) v = ap₂ (λ x y. x && y) (regrouped_truth g v) (regrouped_truth h v)
  regrouped_truth (re.swap_or a b) v = or_swap (tree_truth a v) (tree_truth b v)
  regrouped_truth (re.turn_or a b c) v = or_turn (tree_truth a v) (tree_truth b v) (tree_truth c v)
  regrouped_truth (re.in_or a b c d g h) v = ap₂ (λ x y. x || y) (regrouped_truth g v) (regrouped_truth h v)
  regrouped_truth (re.in_all a b g) v = ap i.all (fun_ext (λ d. regrouped_truth g (with_value d v)))
  regrouped_truth (re.in_ex a b g) v = ap i.ex (fun_ext (λ d. regrouped_truth g (with_value d v)))

  pub same_sorted_truth : (n r : Nf) → SameSorted n r → (v : ℕ → D) → form_truth i n v ≡ form_truth i r v
  same_sorted_truth n r same v = has_tree_truth n v ∙ (regrouped_truth ((sorting_is_exact n r).0 same) v ∙ sym (has_tree_truth r v))
