use Rattle.std.proofs.Common.{◌≡◌, ◌<◌, ◌≤◌, ℕ, List, [], ◌∷◌, length, drop, map, arith, refl, sym, ◌∙◌, suc, zero}
use Rattle.std.specs.declared.cmp.Ordering.{Ordering}
use Rattle.std.specs.declared.cmp.Ordering.TheVariants.{Less}
use Rattle.std.specs.Cmp.Lexicographic.{slice_cmp}
use Rattle.normal_form.proofs.literal_order.+argument_order.Goals as goal

-- a list that ends before the other is the less
ends_first : {A B C : Type 0} (R : A → B → Ordering) (f : C → A) (xs : List C) (ys : List B) (i : ℕ) → length xs ≤ i → i < length ys → slice_cmp R (map f (drop i xs)) (drop i ys) ≡ Less
ends_first R f [] [] i before within = absurd (omega arith)
ends_first R f (x ∷ xs) [] i before within = absurd (omega arith)
ends_first R f [] (y ∷ ys) zero before within = refl
ends_first R f (x ∷ xs) (y ∷ ys) zero before within = absurd (omega arith)
ends_first R f [] (y ∷ []) (suc i) before within = absurd (omega arith)
ends_first R f [] (y ∷ z ∷ ys) (suc zero) before within = refl
ends_first R f [] (y ∷ z ∷ ys) (suc (suc i)) before within = ends_first R f [] (z ∷ ys) (suc i) (omega arith) (omega arith)
ends_first R f (x ∷ xs) (y ∷ ys) (suc i) before within = ends_first R f xs ys i (omega arith) (omega arith)

pub arguments_order-returns-then-xs-ys : goal.arguments_order-returns-then-xs-ys
arguments_order-returns-then-xs-ys t c =
    sym (sym c.loop-i.invariant.1 ∙ ends_first _ _ c.args.xs.now c.args.ys.now c.loop-i.i (omega arith) (omega arith))
