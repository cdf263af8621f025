-- The Skolem terms of a closed table are the needed ones.
use Rattle.std.proofs.Common.{◌≡◌, ℕ, zero, suc, ◌+◌, Bool, true, false, List, [], ◌∷◌, cond, get_or, map, Option, None, Some, refl, sym, ap, subst, ◌∙◌, ◌⊎◌, inl, inr, ⊎_elim, arith, rules}
use Rattle.std.specs.List.{Contains, filter}
use Rattle.std.specs.Prelude.{IsTrue, is_some}
use Rattle.std.proofs.lemmas.List.{get_or_past}
use Rattle.dk_syntax.specs.TermTables.{IsTermTable}
use Rattle.dk_syntax.specs.WellFormed.{IsGround}
use Rattle.dk_syntax.specs.declared.Formula.{Formula}
use Rattle.dk_syntax.specs.declared.Term.{Any, Term, the_lemmas as of_terms}
use Rattle.expansion.specs.Choices.{skolem_term}
use Rattle.normal_form.specs.Occurrence.{in_formula}
use Rattle.skolem_order.proofs.GroundLaws.{assigned_is, ground_same}
use Rattle.skolem_order.proofs.ListFacts.{contains_cases, contains_filter, contains_first, contains_map, contains_rest, contains_same, filter_contains, map_contains, none_in_nil}
use Rattle.skolem_order.proofs.PartLaws.{inside_part, part_any, part_in}
use Rattle.skolem_order.specs.Closing.{HasClosed, Reached, at_first, outside}
use Rattle.skolem_order.specs.Order.{IsPart, IsPut, Needed, in_root, mentioned}
use Rattle.skolem_order.specs.Origins.{args_for, args_of, is_skolem, origin_of_term, spot_of, universals_by, value}
use Rattle.skolem_order.specs.Sites.{outer_in, outer_terms, site_at, terms_outside}
use Rattle.skolem_order.specs.Spots.{Spot}
use Rattle.skolem_order.specs.Tables.{HasEntered}
use Rattle.skolem_order.specs.declared.origins.Origin.{Origin}
use Rattle.skolem_order.specs.declared.walk.Around.{Around}
use Rattle.skolem_order.specs.declared.walk.Around.TheVariants.{Existential, Universal, Vacant}
use Rattle.step_skolem.specs.declared.SkEntry.{SkEntry}

true_false : true ≡ false → ⊥
true_false e = cc

-- ---- existentials around, and variables

module _ (v : ℕ → Term) (entries : List SkEntry) (f : Formula) where
  abbrev w : Around → Term
  w = value v entries

  shift : (j k : ℕ) → in_formula f (j + suc k) ≡ true → in_formula f (suc j + k) ≡ true
  shift j k h = let e : j + suc k ≡ suc j + k = omega arith in subst (λ i. in_formula f i ≡ true) e h

  shift_back : (j k : ℕ) → in_formula f (suc j + k) ≡ true → in_formula f (j + suc k) ≡ true
  shift_back j k h = let e : suc j + k ≡ j + suc k = omega arith in subst (λ i. in_formula f i ≡ true) e h

  -- an existential that is free in the formula has a variable there
  abbrev HasVariable : List Around → ℕ → ℕ → Type 0
  HasVariable around k e = (j : ℕ) × (in_formula f (j + k) ≡ true) × (get_or (map w around) j Any ≡ skolem_term v entries e)

  pub outer_variable : (around : List Around) (k e : ℕ) → Contains (outer_in f k around) e → HasVariable around k e
  outer_variable [] k e c = absurd (none_in_nil e c)
  outer_variable (Universal n ∷ around) k e c = let r = outer_variable around (suc k) e c in (suc r.0, shift r.0 k r.1, r.2)
  outer_variable (Vacant ∷ around) k e c = let r = outer_variable around (suc k) e c in (suc r.0, shift r.0 k r.1, r.2)
  outer_variable (Existential d ∷ around) k e c = by_test (in_formula f k) refl (λ r. outer_variable around (suc k) e r) c
    where
      later : HasVariable around (suc k) e → HasVariable (Existential d ∷ around) k e
      later r = (suc r.0, shift r.0 k r.1, r.2)

      here : in_formula f k ≡ true → d ≡ e → HasVariable (Existential d ∷ around) k e
      here h q = (0, (let z : k ≡ 0 + k = omega arith in subst (λ i. in_formula f i ≡ true) z h), ap (skolem_term v entries) q)

      by_test : (b : Bool) → in_formula f k ≡ b → (Contains (outer_in f (suc k) around) e → HasVariable around (suc k) e)
          → Contains (cond b (d ∷ outer_in f (suc k) around) (outer_in f (suc k) around)) e → HasVariable (Existential d ∷ around) k e
      by_test true h again x = ⊎_elim (λ q. here h q) (λ r. later (again r)) (contains_cases d (outer_in f (suc k) around) e x)
      by_test false h again x = later (again x)

  -- what a variable that occurs stands for
  abbrev Stood : List Around → ℕ → Term → Type 0
  Stood around k t = (t ≡ Any) ⊎ (((n : ℕ) × (t ≡ v n)) ⊎ ((e : ℕ) × Contains (outer_in f k around) e × (t ≡ skolem_term v entries e)))

  more : (a : Around) (around : List Around) (k : ℕ) (t : Term) → Stood around (suc k) t → Stood (a ∷ around) k t
  more (Universal n) around k t s = s
  more (Vacant) around k t s = s
  more (Existential d) around k t s = ⊎_elim (λ l. inl l) (λ r. ⊎_elim (λ l. inr (inl l)) (λ x. inr (inr (x.0, by_test (in_formula f k) x.0 x.1, x.2))) r) s
    where
      by_test : (b : Bool) (e : ℕ) → Contains (outer_in f (suc k) around) e → Contains (cond b (d ∷ outer_in f (suc k) around) (outer_in f (suc k) around)) e
      by_test true e c = contains_rest d (outer_in f (suc k) around) e c
      by_test false e c = c

  pub variable_stood : (around : List Around) (k j : ℕ) → in_formula f (j + k) ≡ true → Stood around k (get_or (map w around) j Any)
  variable_stood [] k j h = inl (get_or_past [] j Any (omega arith))
  variable_stood (Universal n ∷ around) k zero h = inr (inl (n, refl))
  variable_stood (Vacant ∷ around) k zero h = inl refl
  variable_stood (Existential d ∷ around) k zero h = inr (inr (d, there, refl))
    where
      occurs : in_formula f k ≡ true
      occurs = let z : 0 + k ≡ k = omega arith in subst (λ i. in_formula f i ≡ true) z h

      there : Contains (outer_in f k (Existential d ∷ around)) d
      there = subst (λ b. Contains (cond b (d ∷ outer_in f (suc k) around) (outer_in f (suc k) around)) d) (sym occurs) (contains_first d (outer_in f (suc k) around))
  variable_stood (Universal n ∷ around) k (suc j) h = more (Universal n) around k (get_or (map w around) j Any) (variable_stood around (suc k) j (shift_back j k h))
  variable_stood (Vacant ∷ around) k (suc j) h = more Vacant around k (get_or (map w around) j Any) (variable_stood around (suc k) j (shift_back j k h))
  variable_stood (Existential d ∷ around) k (suc j) h = more (Existential d) around k (get_or (map w around) j Any) (variable_stood around (suc k) j (shift_back j k h))

-- ---- terms outside an origin are mentioned

module _ (os : List Origin) where
  any_is_none : is_skolem os Any ≡ false
  any_is_none = search (rules, of_terms)

  pub outside_skolem : (t u : Term) → Contains (terms_outside os t) u → is_skolem os t ≡ true
  outside_skolem t u c = by_origin (origin_of_term os t) c
    where
      by_origin : (o : Option Origin) → Contains (outer_terms o (args_of t)) u → is_some o ≡ true
      by_origin None x = absurd (none_in_nil u x)
      by_origin (Some origin) x = refl

  pub outside_put : (s t u : Term) → Contains (terms_outside os t) u → IsPart s u → IsPut os t s
  outside_put s t u c p = by_origin (origin_of_term os t) refl c
    where
      by_spot : (origin : Origin) → origin_of_term os t ≡ Some origin → (x : Option Spot) → spot_of origin ≡ x
          → Contains (map (skolem_term (universals_by origin (args_of t)) origin.map.entries) (site_at x).outer) u → IsPut os t s
      by_spot origin listed None there y = absurd (none_in_nil u y)
      by_spot origin listed (Some x) there y =
          let v = universals_by origin (args_of t) in
          let one = map_contains (skolem_term v origin.map.entries) (outer_in x.formula 0 x.around) u y in
          let r = outer_variable v origin.map.entries x.formula x.around 0 one.0 one.1 in
          record {
            origin = origin;
            listed = listed;
            spot = x;
            there = there;
            variable = r.0;
            free = (let z : r.0 + 0 ≡ r.0 = omega arith in subst (λ i. in_formula x.formula i ≡ true) z r.1);
            part = subst (IsPart s) (one.2 ∙ sym r.2) p;
          }

      by_origin : (o : Option Origin) → origin_of_term os t ≡ o → Contains (outer_terms o (args_of t)) u → IsPut os t s
      by_origin None listed x = absurd (none_in_nil u x)
      by_origin (Some origin) listed x = by_spot origin listed (spot_of origin) refl x

  -- what is put for a variable is in a closed table
  pub put_in_table : (table : List Term) → IsTermTable table → ((t u : Term) → Contains table t → Contains (terms_outside os t) u → Contains table u)
      → (t s : Term) → Contains table t → IsTrue (is_skolem os s) → IsPut os t s → Contains table s
  put_in_table table is closed t s c k put =
      ⊎_elim (λ e. absurd (no_any e)) (λ r. ⊎_elim (λ n. universal n.0 n.1) (λ x. existential x.0 x.1 x.2) r)
      (variable_stood v entries put.spot.formula put.spot.around 0 put.variable free)
    where
      v : ℕ → Term
      v = universals_by put.origin (args_of t)

      entries : List SkEntry
      entries = put.origin.map.entries

      here : Term
      here = get_or (map (value (universals_by put.origin (args_of t)) put.origin.map.entries) put.spot.around) put.variable Any

      free : in_formula put.spot.formula (put.variable + 0) ≡ true
      free = let z : put.variable ≡ put.variable + 0 = omega arith in subst (λ i. in_formula put.spot.formula i ≡ true) z put.free

      no_any : here ≡ Any → ⊥
      no_any e = true_false (sym k ∙ ap (is_skolem os) (part_any put.part e) ∙ any_is_none)

      universal : (n : ℕ) → here ≡ universals_by put.origin (args_of t) n → Contains table s
      universal n e =
          ⊎_elim (λ one. part_in table is (inside_part t s (record { argument = here; one = subst (Contains (args_of t)) (sym e) one; part = put.part })) c)
          (λ z. absurd (no_any (e ∙ z))) (assigned_is (args_for put.origin.map.entries put.origin.ex) (args_of t) n)

      existential : (e : ℕ) → Contains (outer_in put.spot.formula 0 put.spot.around) e
          → here ≡ skolem_term (universals_by put.origin (args_of t)) put.origin.map.entries e → Contains table s
      existential e one q = part_in table is (subst (IsPart s) q put.part) (closed t (skolem_term (universals_by put.origin (args_of t)) put.origin.map.entries e) c outer)
        where
          at_spot : Contains (outer_terms (Some put.origin) (args_of t)) (skolem_term (universals_by put.origin (args_of t)) put.origin.map.entries e)
          at_spot =
              subst (λ x. Contains (map (skolem_term (universals_by put.origin (args_of t)) put.origin.map.entries) (site_at x).outer) (skolem_term (universals_by put.origin (args_of t)) put.origin.map.entries e))
              (sym put.there) (contains_map (skolem_term (universals_by put.origin (args_of t)) put.origin.map.entries) (outer_in put.spot.formula 0 put.spot.around) e one)

          outer : Contains (terms_outside os t) (skolem_term (universals_by put.origin (args_of t)) put.origin.map.entries e)
          outer = subst (λ o. Contains (outer_terms o (args_of t)) (skolem_term (universals_by put.origin (args_of t)) put.origin.map.entries e)) (sym put.listed) at_spot

-- ---- the needed terms

pub needed_skolem : {os : List Origin} {roots : List Term} {s : Term} → Needed os roots s → is_skolem os s ≡ true
needed_skolem (in_root s t one p k) = k
needed_skolem (mentioned s t n m) = m.0

module _ (os : List Origin) (roots first table : List Term) (is : IsTermTable table) (grounds : (t : Term) → Contains roots t → IsGround t) (entered : HasEntered [] roots first) (closed : HasClosed os first table) where
  sound : {s : Term} → Reached os first s → IsTrue (is_skolem os s) → Needed os roots s
  sound (at_first s c) k =
      let one = entered.only s (contains_same first entered.added s entered.grown c) in
      in_root s one.0 one.1 (subst (IsPart s) (ground_same one.0 (grounds one.0 one.1)) one.2) k
  sound (outside s t u r c p) k = mentioned s t (sound r (outside_skolem os t u c)) (k, inr (outside_put os s t u c p))

  complete : {s : Term} → Needed os roots s → Contains table s
  complete (in_root s t one p k) =
      part_in table is p (closed.grown t (subst (Contains first) (ground_same t (grounds t one)) (entered.all t one)))
  complete (mentioned s t n m) =
      let c = complete n in
      ⊎_elim (λ i. part_in table is (inside_part t s i) c) (λ p. put_in_table os table is closed.closed t s c m.0 p) m.1

  pub members_needed : (s : Term) → Contains (filter (is_skolem os) table) s → Needed os roots s
  members_needed s c = let x = filter_contains (is_skolem os) table s c in sound (closed.only s x.0) x.1

  pub needed_members : (s : Term) → Needed os roots s → Contains (filter (is_skolem os) table) s
  needed_members s n = contains_filter (is_skolem os) table s (complete n) (needed_skolem n)
