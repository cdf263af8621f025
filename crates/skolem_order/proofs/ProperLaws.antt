-- Any stands nowhere in an origin formula.
use Rattle.std.proofs.Common.{◌≡◌, ◌≢◌, ℕ, zero, suc, ◌+◌, ◌-◌, ◌≤◌, nat_eq, nat_lt, Bool, true, false, not, ◌&&◌, ◌||◌, List, [], ◌∷◌, cond, get_or, map, Option, None, Some, refl, sym, ap, ap₂, subst, ◌∙◌, arith, eq-eqb}
use Rattle.std.specs.List.{Contains}
use Rattle.std.specs.Prelude.{IsTrue}
use Rattle.std.proofs.lemmas.Bool.{and_parts, or_left, or_right}
use Rattle.dk_syntax.proofs.FormulaLaws.{formula_induction}
use Rattle.dk_syntax.proofs.ListLaws.{ForEach, each_true, for_each}
use Rattle.dk_syntax.proofs.SubstitutionLaws.{has_variable-App, has_variable-Var, substituted-App, substituted-Var}
use Rattle.dk_syntax.proofs.TermLaws.{term_induction}
use Rattle.dk_syntax.proofs.WellFormedLaws.{no_any-All, no_any-And, no_any-Any, no_any-App, no_any-Atom, no_any-Ex, no_any-False, no_any-Iff, no_any-Imp, no_any-Not, no_any-Or, no_any-True, no_any-Var}
use Rattle.dk_syntax.specs.Terms.{any_true, has_variable, substituted}
use Rattle.dk_syntax.specs.WellFormed.{all_true, has_no_any, term_has_no_any}
use Rattle.dk_syntax.specs.declared.Formula.{Formula}
use Rattle.dk_syntax.specs.declared.Formula.TheVariants as formula
use Rattle.dk_syntax.specs.declared.Literal.{Literal}
use Rattle.dk_syntax.specs.declared.Term.{Any, App, Term, Var}
use Rattle.expansion.specs.Rows.{term_at}
use Rattle.normal_form.proofs.Counting.{in-normal}
use Rattle.normal_form.proofs.FormulaEquations.{occurs-All, occurs-And, occurs-Atom, occurs-Ex, occurs-Iff, occurs-Imp, occurs-Not, occurs-Or}
use Rattle.normal_form.proofs.NormalFacts.{closed_stays_closed}
use Rattle.normal_form.specs.ClauseLists.{has_number}
use Rattle.normal_form.specs.Occurrence.{in_formula}
use Rattle.skolem_order.proofs.DropLaws.{drops_formula}
use Rattle.skolem_order.proofs.LabelLaws.{free_in, free_signed, labelled_formula}
use Rattle.skolem_order.proofs.ListFacts.{contains_same, for_each_at, none_in_nil}
use Rattle.skolem_order.proofs.OrderLaws.{args_at, assigned_one, rooted_of, skolem_at}
use Rattle.skolem_order.proofs.OriginLaws.{entry_spot, top_links}
use Rattle.skolem_order.proofs.PartLaws.{args-Any, args-App, args-Var}
use Rattle.skolem_order.proofs.PutLaws.{put-All, put-And, put-Atom, put-Ex, put-False, put-Iff, put-Imp, put-Not, put-Or, put-True}
use Rattle.skolem_order.proofs.SignedLaws.{form-All, form-And, form-Atom, form-Ex, form-False, form-Iff, form-Imp, form-Not, form-Or, form-True}
use Rattle.skolem_order.proofs.SpotLaws.{stands_found}
use Rattle.skolem_order.specs.Covers.{Covered, Good, IsAt}
use Rattle.skolem_order.specs.Laws.{OriginFormulasHaveNoAny}
use Rattle.skolem_order.specs.Origins.{args_for, args_of, formula_at, formula_from, origin_of_term, outside, put_in, spot_of, terms_around, universals_by, value}
use Rattle.skolem_order.specs.Rooted.{AreRooted, HasProperLeaf, IsSized}
use Rattle.skolem_order.specs.SignedForms.{SignedForm, all, constant, ex, joined, lit, quantified, second_half, signed_form, vacuous}
use Rattle.skolem_order.specs.Spots.{Spot, Stands, s_all, s_below, s_here, s_left, s_right, s_vacuous}
use Rattle.skolem_order.specs.declared.origins.Origin.{Origin}
use Rattle.skolem_order.specs.declared.walk.Around.{Around}
use Rattle.skolem_order.specs.declared.walk.Around.TheVariants.{Existential, Universal, Vacant}
use Rattle.step_skolem.specs.Images.{entry}

-- ---- signed forms of formulas without Any

-- the formulas at existentials have no Any and what occurs in them is free below, and a vacuous quantifier's variable isn't free
data Clean : SignedForm → Type 0 where
  c_constant : (truth : Bool) → Clean (constant truth)
  c_lit : (l : Literal) → Clean (lit l)
  c_joined : (w : Bool) (a b : SignedForm) → Clean a → Clean b → Clean (joined w a b)
  c_all : (a : SignedForm) → Clean a → Clean (all a)
  c_ex : (sign : Bool) (f : Formula) (a : SignedForm) → has_no_any f ≡ true → ((k : ℕ) → in_formula f k ≡ true → free_in (suc k) a ≡ true) → Clean a → Clean (ex sign f a)
  c_vacuous : (a : SignedForm) → free_in 0 a ≡ false → Clean a → Clean (vacuous a)

abbrev AreClean : Formula → Type 0
AreClean f = has_no_any f ≡ true → (sign : Bool) → Clean (signed_form f sign)

as_form : (m n : SignedForm) → m ≡ n → Clean n → Clean m
as_form m n e h = subst Clean (sym e) h

clean_quantified : (o each sign : Bool) (f : Formula) (n : SignedForm) → has_no_any f ≡ true → ((k : ℕ) → in_formula f k ≡ true → free_in (suc k) n ≡ true) → (o ≡ false → free_in 0 n ≡ false)
    → Clean n → Clean (quantified o each sign f n)
clean_quantified true true sign f n g h z l = c_all n l
clean_quantified true false sign f n g h z l = c_ex sign f n g h l
clean_quantified false each sign f n g h z l = c_vacuous n (z refl) l

clean_second : (sign : Bool) (a b : Formula) → ((sign : Bool) → Clean (signed_form a sign)) → ((sign : Bool) → Clean (signed_form b sign))
    → Clean (second_half sign (signed_form a) (signed_form b))
clean_second true a b h j = c_joined false _ _ (j false) (h true)
clean_second false a b h j = c_joined false _ _ (h false) (j false)

parts : (a b : Formula) (whole : Bool) → whole ≡ (has_no_any a && has_no_any b) → whole ≡ true → (has_no_any a ≡ true) × (has_no_any b ≡ true)
parts a b whole e h = and_parts (has_no_any a) (has_no_any b) (sym e ∙ h)

clean_formula : (f : Formula) → AreClean f
clean_formula = formula_induction AreClean
    (λ w sign. as_form _ _ (form-True sign) (c_constant sign)) (λ w sign. as_form _ _ (form-False sign) (c_constant (not sign)))
    (λ p args w sign. as_form _ _ (form-Atom p args sign) (c_lit _)) (λ a h w sign. as_form _ _ (form-Not a sign) (h (sym (no_any-Not a) ∙ w) (not sign)))
    (λ a b h j w sign. let q = parts a b _ (no_any-And a b) w in as_form _ _ (form-And a b sign) (c_joined sign _ _ (h q.0 sign) (j q.1 sign)))
    (λ a b h j w sign. let q = parts a b _ (no_any-Or a b) w in as_form _ _ (form-Or a b sign) (c_joined (not sign) _ _ (h q.0 sign) (j q.1 sign)))
    (λ a b h j w sign. let q = parts a b _ (no_any-Imp a b) w in as_form _ _ (form-Imp a b sign) (c_joined (not sign) _ _ (h q.0 (not sign)) (j q.1 sign)))
    (λ a b h j w sign. let q = parts a b _ (no_any-Iff a b) w in
    as_form _ _ (form-Iff a b sign) (c_joined true _ _ (c_joined false _ _ (h q.0 (not sign)) (j q.1 true)) (clean_second sign a b (h q.0) (j q.1))))
    (λ a h w sign. as_form _ _ (form-All a sign)
    (clean_quantified (in_formula a 0) sign sign (formula.All a) (signed_form a sign) w (λ k i. free_signed a sign (suc k) ∙ sym (occurs-All k a) ∙ i)
    (λ e. free_signed a sign 0 ∙ e) (h (sym (no_any-All a) ∙ w) sign)))
    (λ a h w sign. as_form _ _ (form-Ex a sign)
    (clean_quantified (in_formula a 0) (not sign) sign (formula.Ex a) (signed_form a sign) w (λ k i. free_signed a sign (suc k) ∙ sym (occurs-Ex k a) ∙ i)
    (λ e. free_signed a sign 0 ∙ e) (h (sym (no_any-Ex a) ∙ w) sign)))

-- ---- what occurs at a place belongs to a universal or an existential around it

abbrev Held : List Around → ℕ → Type 0
Held around k = (a : Around) × IsAt around k a × (a ≢ Vacant)

all_held : (u : ℕ) → Universal u ≢ Vacant
all_held u = λ e. cc

ex_held : (u : ℕ) → Existential u ≢ Vacant
ex_held u = λ e. cc

true_false : true ≡ false → ⊥
true_false e = cc

held_under : (b : Around) (h : List Around) (a : SignedForm) → b ≢ Vacant → ((k : ℕ) → free_in (suc k) a ≡ true → Held h k) → (k : ℕ) → free_in k a ≡ true → Held (b ∷ h) k
held_under b h a there w zero i = (b, refl, there)
held_under b h a there w (suc k) i = w k i

held_past : (h : List Around) (a : SignedForm) → free_in 0 a ≡ false → ((k : ℕ) → free_in (suc k) a ≡ true → Held h k) → (k : ℕ) → free_in k a ≡ true → Held (Vacant ∷ h) k
held_past h a none w zero i = absurd (true_false (sym i ∙ none))
held_past h a none w (suc k) i = w k i

abbrev IsProperSpot : Spot → Type 0
IsProperSpot x = (has_no_any x.formula ≡ true) × ((k : ℕ) → in_formula x.formula k ≡ true → Held x.around k)

proper_spot : {n : SignedForm} {h : List Around} {u e i : ℕ} {x : Spot} → Stands n h u e i x → Clean n → ((k : ℕ) → free_in k n ≡ true → Held h k) → IsProperSpot x
proper_spot (s_here h u e sign f a) (c_ex _ _ _ g l c) w = (g, λ k i. w k (l k i))
proper_spot (s_below h u e i sign f a x s) (c_ex _ _ _ g l c) w = proper_spot s c (held_under (Existential e) h a (ex_held e) w)
proper_spot (s_all h u e i a x s) (c_all _ c) w = proper_spot s c (held_under (Universal u) h a (all_held u) w)
proper_spot (s_vacuous h u e i a x s) (c_vacuous _ z c) w = proper_spot s c (held_past h a z w)
proper_spot (s_left h u e i both a b x s) (c_joined _ _ _ c d) w = proper_spot s c (λ k j. w k (or_left (free_in k a) (free_in k b) j))
proper_spot (s_right h u e i both a b x s) (c_joined _ _ _ c d) w = proper_spot s d (λ k j. w k (or_right (free_in k a) (free_in k b) j))

-- ---- a formula with terms without Any for what occurs in it

module _ (s : ℕ → Term) where
  abbrev IsPutProper : ℕ → Term → Type 0
  IsPutProper n u = term_has_no_any u ≡ true → ((k : ℕ) → has_variable (k + n) u ≡ true → term_has_no_any (s k) ≡ true) → term_has_no_any (substituted (outside s n) u) ≡ true

  outside_proper : (n j : ℕ) → ((k : ℕ) → has_variable (k + n) (Var j) ≡ true → term_has_no_any (s k) ≡ true) → term_has_no_any (outside s n j) ≡ true
  outside_proper n j w = by_test (nat_lt j n) refl
    where
      by_test : (b : Bool) → nat_lt j n ≡ b → term_has_no_any (cond b (Var j) (s (j - n))) ≡ true
      by_test true h = no_any-Var j
      by_test false h =
          let far : n ≤ j = grind (arith, h) in
          let e : j ≡ (j - n) + n = omega (arith, far) in
          w (j - n) (has_variable-Var ((j - n) + n) j ∙ eq-eqb j ((j - n) + n) e)

  all_proper : (n : ℕ) (args : List Term) → ForEach (IsPutProper n) args → all_true (map term_has_no_any args) ≡ true
      → ((k : ℕ) → any_true (map (has_variable (k + n)) args) ≡ true → term_has_no_any (s k) ≡ true) → all_true (map term_has_no_any (map (substituted (outside s n)) args)) ≡ true
  all_proper n [] each h w = refl
  all_proper n (a ∷ args) each h w =
      let q = and_parts (term_has_no_any a) (all_true (map term_has_no_any args)) h in
      ap₂ (λ x y. x && y) (each.0 q.0 (λ k i. w k (or_left (has_variable (k + n) a) (any_true (map (has_variable (k + n)) args)) i)))
      (all_proper n args each.1 q.1 (λ k i. w k (or_right (has_variable (k + n) a) (any_true (map (has_variable (k + n)) args)) i)))

  term_proper : (n : ℕ) (u : Term) → IsPutProper n u
  term_proper n = term_induction (IsPutProper n)
      (λ j h w. ap term_has_no_any (substituted-Var (outside s n) j) ∙ outside_proper n j w)
      (λ f args each h w. ap term_has_no_any (substituted-App (outside s n) f args) ∙ no_any-App f (map (substituted (outside s n)) args)
      ∙ all_proper n args each (sym (no_any-App f args) ∙ h) (λ k i. w k (has_variable-App (k + n) f args ∙ i)))
      (λ h w. absurd (true_false (sym h ∙ no_any-Any)))

  abbrev IsProperWith : Formula → Type 0
  IsProperWith f = (n : ℕ) → has_no_any f ≡ true → ((k : ℕ) → in_formula f (k + n) ≡ true → term_has_no_any (s k) ≡ true) → has_no_any (put_in s f n) ≡ true

  of_formula : (f g : Formula) → f ≡ g → has_no_any f ≡ has_no_any g
  of_formula f g e = ap has_no_any e

  two_proper : (a b : Formula) → IsProperWith a → IsProperWith b → (n : ℕ) → (has_no_any a && has_no_any b) ≡ true → ((k : ℕ) → (in_formula a (k + n) || in_formula b (k + n)) ≡ true → term_has_no_any (s k) ≡ true)
      → (has_no_any (put_in s a n) && has_no_any (put_in s b n)) ≡ true
  two_proper a b h j n g w =
      let q = and_parts (has_no_any a) (has_no_any b) g in
      ap₂ (λ x y. x && y) (h n q.0 (λ k i. w k (or_left (in_formula a (k + n)) (in_formula b (k + n)) i)))
      (j n q.1 (λ k i. w k (or_right (in_formula a (k + n)) (in_formula b (k + n)) i)))

  next : (a : Formula) (n k : ℕ) → in_formula a (k + (n + 1)) ≡ true → in_formula a (suc (k + n)) ≡ true
  next a n k i = let e : k + (n + 1) ≡ suc (k + n) = omega arith in subst (λ m. in_formula a m ≡ true) e i

  formula_proper : (f : Formula) → IsProperWith f
  formula_proper = formula_induction IsProperWith
      (λ n g w. of_formula _ _ (put-True s n) ∙ no_any-True)
      (λ n g w. of_formula _ _ (put-False s n) ∙ no_any-False)
      (λ p args n g w. of_formula _ _ (put-Atom s p args n) ∙ no_any-Atom p (map (substituted (outside s n)) args)
      ∙ all_proper n args (for_each (IsPutProper n) (term_proper n) args) (sym (no_any-Atom p args) ∙ g) (λ k i. w k (occurs-Atom (k + n) p args ∙ i)))
      (λ a h n g w. of_formula _ _ (put-Not s a n) ∙ no_any-Not (put_in s a n) ∙ h n (sym (no_any-Not a) ∙ g) (λ k i. w k (occurs-Not (k + n) a ∙ i)))
      (λ a b h j n g w. of_formula _ _ (put-And s a b n) ∙ no_any-And (put_in s a n) (put_in s b n)
      ∙ two_proper a b h j n (sym (no_any-And a b) ∙ g) (λ k i. w k (occurs-And (k + n) a b ∙ i)))
      (λ a b h j n g w. of_formula _ _ (put-Or s a b n) ∙ no_any-Or (put_in s a n) (put_in s b n)
      ∙ two_proper a b h j n (sym (no_any-Or a b) ∙ g) (λ k i. w k (occurs-Or (k + n) a b ∙ i)))
      (λ a b h j n g w. of_formula _ _ (put-Imp s a b n) ∙ no_any-Imp (put_in s a n) (put_in s b n)
      ∙ two_proper a b h j n (sym (no_any-Imp a b) ∙ g) (λ k i. w k (occurs-Imp (k + n) a b ∙ i)))
      (λ a b h j n g w. of_formula _ _ (put-Iff s a b n) ∙ no_any-Iff (put_in s a n) (put_in s b n)
      ∙ two_proper a b h j n (sym (no_any-Iff a b) ∙ g) (λ k i. w k (occurs-Iff (k + n) a b ∙ i)))
      (λ a h n g w. of_formula _ _ (put-All s a n) ∙ no_any-All (put_in s a (n + 1))
      ∙ h (n + 1) (sym (no_any-All a) ∙ g) (λ k i. w k (occurs-All (k + n) a ∙ next a n k i)))
      (λ a h n g w. of_formula _ _ (put-Ex s a n) ∙ no_any-Ex (put_in s a (n + 1))
      ∙ h (n + 1) (sym (no_any-Ex a) ∙ g) (λ k i. w k (occurs-Ex (k + n) a ∙ next a n k i)))

-- ---- the terms for what occurs in an origin

proper_args : (t : Term) → term_has_no_any t ≡ true → (arg : Term) → Contains (args_of t) arg → term_has_no_any arg ≡ true
proper_args = term_induction (λ t. term_has_no_any t ≡ true → (arg : Term) → Contains (args_of t) arg → term_has_no_any arg ≡ true)
    (λ n h arg c. absurd (none_in_nil arg (contains_same (args_of (Var n)) [] arg (args-Var n) c)))
    (λ f args each h arg c.
    for_each_at (λ t. term_has_no_any t ≡ true) args arg (each_true term_has_no_any args (sym (no_any-App f args) ∙ h)) (contains_same (args_of (App f args)) args arg (args-App f args) c))
    (λ h arg c. absurd (none_in_nil arg (contains_same (args_of Any) [] arg args-Any c)))

at_value : (w : Around → Term) (around : List Around) (k : ℕ) (a : Around) → IsAt around k a → get_or (map w around) k Any ≡ w a
at_value w [] k a at = absurd at
at_value w (b ∷ around) zero a at = ap w at
at_value w (b ∷ around) (suc k) a at = at_value w around k a at

numbers_proper : (v : ℕ → Term) (numbers : List ℕ) → ((n : ℕ) → has_number numbers n ≡ true → term_has_no_any (v n) ≡ true) → all_true (map term_has_no_any (map v numbers)) ≡ true
numbers_proper v [] h = refl
numbers_proper v (n ∷ numbers) h =
    ap₂ (λ x y. x && y) (h n (or_left (nat_eq n n) (has_number numbers n) (eq-eqb n n refl)))
    (numbers_proper v numbers (λ m i. h m (or_right (nat_eq n m) (has_number numbers m) i)))

module _ (os : List Origin) (rooted : AreRooted os) (t : Term) (sized : IsSized os t) (proper : HasProperLeaf os t) (whole : term_has_no_any t ≡ true)
    (origin : Origin) (listed : origin_of_term os t ≡ Some origin) where
  place : (x : Spot) × Stands (signed_form origin.leaf origin.sign) [] 0 0 origin.ex x × Covered origin.map.entries (rooted_of os rooted t origin listed).args x
  place =
      let r = rooted_of os rooted t origin listed in
      entry_spot (drops_formula origin.leaf origin.sign) (labelled_formula origin.leaf origin.sign) r.leads origin.map.entries (λ x i. i) [] (top_links origin.map.entries)
      (entry origin.ex origin.symbol r.args) r.own

  none_free : (k : ℕ) → free_in k (signed_form origin.leaf origin.sign) ≡ true → Held [] k
  none_free k i =
      let closed : in_formula origin.leaf k ≡ false = sym (in-normal origin.leaf true k) ∙ closed_stays_closed origin.leaf true (proper origin listed).0 k in
      absurd (true_false (sym i ∙ free_signed origin.leaf origin.sign k ∙ closed))

  spot_proper : IsProperSpot place.0
  spot_proper = proper_spot place.1 (clean_formula origin.leaf (proper origin listed).1 origin.sign) none_free

  universal_proper : (n : ℕ) → has_number (rooted_of os rooted t origin listed).args n ≡ true → term_has_no_any (universals_by origin (args_of t) n) ≡ true
  universal_proper n h =
      let r = rooted_of os rooted t origin listed in
      let same : args_for origin.map.entries origin.ex ≡ r.args = args_at os origin r (entry origin.ex origin.symbol r.args) r.own in
      proper_args t whole (universals_by origin (args_of t) n)
      (assigned_one (args_for origin.map.entries origin.ex) (args_of t) n (sized origin listed) (subst (λ l. has_number l n ≡ true) (sym same) h))

  value_proper : (a : Around) → a ≢ Vacant → Good origin.map.entries (rooted_of os rooted t origin listed).args a
      → term_has_no_any (value (universals_by origin (args_of t)) origin.map.entries a) ≡ true
  value_proper (Universal n) there g = universal_proper n g
  value_proper (Existential e) there g =
      let v = universals_by origin (args_of t) in
      ap term_has_no_any (skolem_at os origin (rooted_of os rooted t origin listed) v (entry e g.0 g.1) g.2) ∙ no_any-App g.0 (map v g.1)
      ∙ numbers_proper v g.1 (λ n i. universal_proper n (g.3 n i))
  value_proper Vacant there g = absurd (there refl)

  read_proper : (k : ℕ) → in_formula place.0.formula (k + 0) ≡ true → term_has_no_any (term_at (terms_around origin place.0.around (args_of t)) k) ≡ true
  read_proper k i =
      let e : k + 0 ≡ k = omega arith in
      let j = subst (λ m. in_formula place.0.formula m ≡ true) e i in
      let held = spot_proper.1 k j in
      ap term_has_no_any (at_value (value (universals_by origin (args_of t)) origin.map.entries) place.0.around k held.0 held.1)
      ∙ value_proper held.0 held.2 (place.2 k held.0 j held.1)

  formula_at_proper : has_no_any (formula_at origin (args_of t) (spot_of origin)).formula ≡ true
  formula_at_proper =
      ap (λ o. has_no_any (formula_at origin (args_of t) o).formula) (stands_found place.1)
      ∙ formula_proper (term_at (terms_around origin place.0.around (args_of t))) place.0.formula 0 spot_proper.0 read_proper

pub origin_proper : OriginFormulasHaveNoAny
origin_proper os rooted t sized proper whole = by_origin (origin_of_term os t) refl
  where
    by_origin : (o : Option Origin) → origin_of_term os t ≡ o → IsTrue (has_no_any (formula_from (args_of t) o).formula)
    by_origin None e = no_any-False
    by_origin (Some origin) e = formula_at_proper os rooted t sized proper whole origin e
