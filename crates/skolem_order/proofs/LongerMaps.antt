-- A longer map changes no origin formula.
use Rattle.std.proofs.Common.{◌≡◌, ℕ, zero, suc, ◌+◌, ◌-◌, ◌≤◌, nat_lt, Bool, true, false, ◌||◌, List, [], ◌∷◌, cond, get_or, map, Option, None, Some, refl, sym, ap, ap₂, subst, ◌∙◌, arith}
use Rattle.std.specs.List.{Contains}
use Rattle.std.proofs.lemmas.Bool.{or_left, or_right}
use Rattle.dk_syntax.proofs.FormulaLaws.{formula_induction}
use Rattle.dk_syntax.proofs.SubstitutionLaws.{agree}
use Rattle.dk_syntax.proofs.TermLaws.{App-not-Any}
use Rattle.dk_syntax.specs.Terms.{any_true, has_variable, substituted}
use Rattle.dk_syntax.specs.declared.Formula.{Formula}
use Rattle.dk_syntax.specs.declared.Formula.TheVariants as formula
use Rattle.dk_syntax.specs.declared.Term.{Any, App, Term, Var}
use Rattle.expansion.specs.Choices.{assigned}
use Rattle.expansion.specs.Rows.{term_at}
use Rattle.normal_form.proofs.FormulaEquations.{occurs-All, occurs-And, occurs-Atom, occurs-Ex, occurs-Iff, occurs-Imp, occurs-Not, occurs-Or}
use Rattle.normal_form.specs.Occurrence.{in_formula}
use Rattle.skolem_order.proofs.DropLaws.{drops_formula}
use Rattle.skolem_order.proofs.LabelLaws.{labelled_formula}
use Rattle.skolem_order.proofs.OrderLaws.{skolem_at, skolem_found, term_of_entry}
use Rattle.skolem_order.proofs.OriginLaws.{entry_spot, top_links}
use Rattle.skolem_order.proofs.PutLaws.{put-All, put-And, put-Atom, put-Ex, put-False, put-Iff, put-Imp, put-Not, put-Or, put-True}
use Rattle.skolem_order.proofs.SpotLaws.{stands_found}
use Rattle.skolem_order.specs.Covers.{Covered, Good, IsAt}
use Rattle.skolem_order.specs.Laws.{LongerMapsChangeNothing}
use Rattle.skolem_order.specs.Origins.{args_in, args_of, formula_at, formula_from, outside, put_in, signed, spot_of, terms_around, universals_by, value}
use Rattle.skolem_order.specs.Rooted.{IsLonger, IsRooted, entry_for}
use Rattle.skolem_order.specs.SignedForms.{signed_form}
use Rattle.skolem_order.specs.Spots.{Spot, Stands, found}
use Rattle.skolem_order.specs.declared.origins.Origin.{Origin}
use Rattle.skolem_order.specs.declared.walk.Around.{Around}
use Rattle.skolem_order.specs.declared.walk.Around.TheVariants.{Existential, Universal, Vacant}
use Rattle.step_skolem.specs.Images.{entry}
use Rattle.step_skolem.specs.declared.SkEntry.{SkEntry}

-- ---- a formula with the same terms for what occurs in it

module _ (s z : ℕ → Term) where
  outside_same : (n k : ℕ) → ((j : ℕ) → j + n ≡ k → s j ≡ z j) → outside s n k ≡ outside z n k
  outside_same n k h = by_test (nat_lt k n) refl
    where
      by_test : (b : Bool) → nat_lt k n ≡ b → cond b (Var k) (s (k - n)) ≡ cond b (Var k) (z (k - n))
      by_test true e = refl
      by_test false e =
          let far : n ≤ k = grind (arith, e) in
          let q : (k - n) + n ≡ k = omega (arith, far) in h (k - n) q

  args_same : (n : ℕ) (args : List Term) → ((k : ℕ) → any_true (map (has_variable (k + n)) args) ≡ true → s k ≡ z k) → map (substituted (outside s n)) args ≡ map (substituted (outside z n)) args
  args_same n [] h = refl
  args_same n (a ∷ args) h =
      ap₂ (λ x xs. x ∷ xs)
      (agree (outside s n) (outside z n) a (λ k i. outside_same n k (λ j e. h j (or_left (has_variable (j + n) a) (any_true (map (has_variable (j + n)) args)) (subst (λ m. has_variable m a ≡ true) (sym e) i)))))
      (args_same n args (λ k i. h k (or_right (has_variable (k + n) a) (any_true (map (has_variable (k + n)) args)) i)))

  abbrev pub AreSame : Formula → Type 0
  AreSame f = (n : ℕ) → ((k : ℕ) → in_formula f (k + n) ≡ true → s k ≡ z k) → put_in s f n ≡ put_in z f n

  two_same : (make : Formula → Formula → Formula) (a b : Formula) → AreSame a → AreSame b → (n : ℕ) → ((k : ℕ) → (in_formula a (k + n) || in_formula b (k + n)) ≡ true → s k ≡ z k)
      → make (put_in s a n) (put_in s b n) ≡ make (put_in z a n) (put_in z b n)
  two_same make a b h j n w =
      ap₂ make (h n (λ k i. w k (or_left (in_formula a (k + n)) (in_formula b (k + n)) i))) (j n (λ k i. w k (or_right (in_formula a (k + n)) (in_formula b (k + n)) i)))

  next : (a : Formula) (n k : ℕ) → in_formula a (k + (n + 1)) ≡ true → in_formula a (suc (k + n)) ≡ true
  next a n k i = let e : k + (n + 1) ≡ suc (k + n) = omega arith in subst (λ m. in_formula a m ≡ true) e i

  pub formula_same : (f : Formula) → AreSame f
  formula_same = formula_induction AreSame
      (λ n w. put-True s n ∙ sym (put-True z n)) (λ n w. put-False s n ∙ sym (put-False z n))
      (λ p args n w. put-Atom s p args n ∙ ap (formula.Atom p) (args_same n args (λ k i. w k (occurs-Atom (k + n) p args ∙ i))) ∙ sym (put-Atom z p args n))
      (λ a h n w. put-Not s a n ∙ ap formula.Not (h n (λ k i. w k (occurs-Not (k + n) a ∙ i))) ∙ sym (put-Not z a n))
      (λ a b h j n w. put-And s a b n ∙ two_same formula.And a b h j n (λ k i. w k (occurs-And (k + n) a b ∙ i)) ∙ sym (put-And z a b n))
      (λ a b h j n w. put-Or s a b n ∙ two_same formula.Or a b h j n (λ k i. w k (occurs-Or (k + n) a b ∙ i)) ∙ sym (put-Or z a b n))
      (λ a b h j n w. put-Imp s a b n ∙ two_same formula.Imp a b h j n (λ k i. w k (occurs-Imp (k + n) a b ∙ i)) ∙ sym (put-Imp z a b n))
      (λ a b h j n w. put-Iff s a b n ∙ two_same formula.Iff a b h j n (λ k i. w k (occurs-Iff (k + n) a b ∙ i)) ∙ sym (put-Iff z a b n))
      (λ a h n w. put-All s a n ∙ ap formula.All (h (n + 1) (λ k i. w k (occurs-All (k + n) a ∙ next a n k i))) ∙ sym (put-All z a n))
      (λ a h n w. put-Ex s a n ∙ ap formula.Ex (h (n + 1) (λ k i. w k (occurs-Ex (k + n) a ∙ next a n k i))) ∙ sym (put-Ex z a n))

pub read_same : (w z : Around → Term) (around : List Around) (k : ℕ) → ((a : Around) → IsAt around k a → w a ≡ z a) → get_or (map w around) k Any ≡ get_or (map z around) k Any
read_same w z [] k h = refl
read_same w z (b ∷ around) zero h = h b refl
read_same w z (b ∷ around) (suc k) h = read_same w z around k h

-- ---- the entry that is found in a map is found in a longer one

module _ (os : List Origin) (old new : Origin) (root : IsRooted os old) (leaf : new.leaf ≡ old.leaf) (sign : new.sign ≡ old.sign) (number : new.ex ≡ old.ex)
    (longer : IsLonger old.map.entries new.map.entries) (args : List Term) where
  entry_same : (one : SkEntry) → Contains old.map.entries one → entry_for new.map.entries one.ex ≡ entry_for old.map.entries one.ex
  entry_same one c = by_entry (entry_for old.map.entries one.ex) refl (sym (skolem_found Var old.map.entries one.ex) ∙ skolem_at os old root Var one c)
    where
      by_entry : (o : Option SkEntry) → entry_for old.map.entries one.ex ≡ o → term_of_entry Var o ≡ App one.symbol (map Var one.args) → entry_for new.map.entries one.ex ≡ o
      by_entry None e h = absurd (App-not-Any one.symbol (map Var one.args) (sym h))
      by_entry (Some x) e h = longer one.ex x e

  universals_same : universals_by new args ≡ universals_by old args
  universals_same =
      let same = entry_same (entry old.ex old.symbol root.args) root.own in
      ap (λ e. assigned (args_in (entry_for new.map.entries e)) args) number ∙ ap (λ o. assigned (args_in o) args) same

  value_same : (mine : List ℕ) (a : Around) → Good old.map.entries mine a → value (universals_by new args) new.map.entries a ≡ value (universals_by old args) old.map.entries a
  value_same mine (Universal n) g = ap (λ v. v n) universals_same
  value_same mine (Existential e) g =
      skolem_found (universals_by new args) new.map.entries e ∙ ap₂ term_of_entry universals_same (entry_same (entry e g.0 g.1) g.2)
      ∙ sym (skolem_found (universals_by old args) old.map.entries e)
  value_same mine Vacant g = refl

  place : (x : Spot) × Stands (signed_form old.leaf old.sign) [] 0 0 old.ex x × Covered old.map.entries root.args x
  place =
      entry_spot (drops_formula old.leaf old.sign) (labelled_formula old.leaf old.sign) root.leads old.map.entries (λ x i. i) [] (top_links old.map.entries)
      (entry old.ex old.symbol root.args) root.own

  spot_same : spot_of new ≡ spot_of old
  spot_same =
      ap (λ f. found (signed_form f new.sign) [] 0 0 new.ex) leaf ∙ ap (λ b. found (signed_form old.leaf b) [] 0 0 new.ex) sign
      ∙ ap (λ i. found (signed_form old.leaf old.sign) [] 0 0 i) number

  read_value : (k : ℕ) → in_formula place.0.formula (k + 0) ≡ true → term_at (terms_around new place.0.around args) k ≡ term_at (terms_around old place.0.around args) k
  read_value k i =
      let e : k + 0 ≡ k = omega arith in
      let j = subst (λ m. in_formula place.0.formula m ≡ true) e i in
      read_same (value (universals_by new args) new.map.entries) (value (universals_by old args) old.map.entries) place.0.around k (λ a at. value_same root.args a (place.2 k a j at))

  origin_same : formula_from args (Some new) ≡ formula_from args (Some old)
  origin_same =
      ap (formula_at new args) (spot_same ∙ stands_found place.1)
      ∙ ap (signed place.0.positive) (formula_same (term_at (terms_around new place.0.around args)) (term_at (terms_around old place.0.around args)) place.0.formula 0 read_value)
      ∙ sym (ap (formula_at old args) (stands_found place.1))

pub longer_changes_nothing : LongerMapsChangeNothing
longer_changes_nothing before after t old new old_there new_there root leaf sign number longer =
    ap (formula_from (args_of t)) new_there ∙ origin_same before old new root leaf sign number longer (args_of t) ∙ sym (ap (formula_from (args_of t)) old_there)
