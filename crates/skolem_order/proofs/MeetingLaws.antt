-- At each existential that a row's thin tree meets, the formula there is the origin formula of the term that is chosen.
use Rattle.std.proofs.Common.{◌≡◌, ℕ, zero, suc, ◌+◌, nat_eq, Bool, true, false, List, [], ◌∷◌, ◌++◌, map, Some, refl, sym, ap, ap₂, subst, ◌∙◌, arith, append-nil, append_assoc, eq-eqb}
use Rattle.std.specs.List.{Contains}
use Rattle.std.proofs.lemmas.Bool.{or_left, or_right}
use Rattle.std.proofs.lemmas.List.{get_or_past}
use Rattle.std.proofs.lemmas.List.Elements.{Contains-append_left, Contains-append_right}
use Rattle.dk_syntax.proofs.ListLaws.{every_at}
use Rattle.dk_syntax.proofs.SubstitutionLaws.{substituted-Var}
use Rattle.dk_syntax.specs.Terms.{instance, substituted}
use Rattle.dk_syntax.specs.WellFormed.{IsGround}
use Rattle.dk_syntax.specs.declared.Formula.{Formula}
use Rattle.dk_syntax.specs.declared.Literal.{Literal}
use Rattle.dk_syntax.specs.declared.Term.{Any, App, Term}
use Rattle.expansion.proofs.InstanceLaws.{instance_after, instance_agree}
use Rattle.expansion.proofs.Everywhere.{map_both}
use Rattle.expansion.proofs.RowEnds.{assigned_ground, closed_agrees, grounded, none_owned}
use Rattle.expansion.proofs.ThinLaws.{Agrees, Owned, agrees_all, agrees_put, alls_image, literal_there, owned_more, term_there}
use Rattle.expansion.specs.Choices.{Chosen, assigned, chosen, chosen_as, chosen_in, skolem_term, then_chosen, with_existential, with_universal}
use Rattle.expansion.specs.Rows.{ground_clause, term_at}
use Rattle.normal_form.proofs.RowLaws.{rows_are_choices}
use Rattle.normal_form.specs.ClauseLists.{has_number}
use Rattle.normal_form.specs.Forms.{Form, form_of}
use Rattle.normal_form.specs.Forms as plain
use Rattle.normal_form.specs.Normal.{normal_of}
use Rattle.normal_form.specs.Occurrence.{in_formula}
use Rattle.normal_form.specs.Renaming.{owner, renamed_literal}
use Rattle.normal_form.specs.RowFacts.{HasChoice, both, inside, left, literals_of, none, one, right}
use Rattle.normal_form.specs.Sorting.{numbered_from}
use Rattle.normal_form.specs.declared.Nf.{Nf}
use Rattle.skolem_order.proofs.DropLaws.{Drops, d_all, d_and, d_ex, d_lit, d_no, d_or, d_vacuous, d_yes, drops_alls, drops_exs, drops_formula, past, renaming, under}
use Rattle.skolem_order.proofs.LabelLaws.{free_in, labelled_formula}
use Rattle.skolem_order.proofs.ListFacts.{contains_first, contains_rest}
use Rattle.skolem_order.proofs.LongerMaps.{formula_same, read_same}
use Rattle.skolem_order.proofs.OrderLaws.{args_at, assigned_here, entry_found, origin_App, skolem_at}
use Rattle.skolem_order.proofs.OriginLaws.{entry_spot, top_links}
use Rattle.skolem_order.proofs.PartLaws.{args-App}
use Rattle.skolem_order.proofs.SpotLaws.{stands_found}
use Rattle.skolem_order.proofs.TightLaws.{IsTight, t_all, t_ex, t_joined, t_vacuous, tight_formula}
use Rattle.skolem_order.specs.Covers.{Covered, Good}
use Rattle.skolem_order.specs.Laws.{MetFormulasAreOrigins, TreesMeetOrigins}
use Rattle.skolem_order.specs.Meetings.{AreSourced, IsOriginAt, IsSourced, Meets, at_all, at_both, at_ex, at_false, at_left, at_lit, at_right, at_vacuous}
use Rattle.skolem_order.specs.Origins.{args_for, args_of, formula_at, formula_from, put_in, signed, spot_of, terms_around, universals_by, value}
use Rattle.skolem_order.specs.Rooted.{AreRooted, IsRooted}
use Rattle.skolem_order.specs.SignedForms.{SignedForm, alls, exs, joined, lit, signed_form}
use Rattle.skolem_order.specs.Spots.{Spot, Stands, found, s_all, s_below, s_here, s_left, s_right, s_vacuous, spot}
use Rattle.skolem_order.specs.declared.origins.Origin.{Origin}
use Rattle.skolem_order.specs.declared.walk.Around.{Around}
use Rattle.skolem_order.specs.declared.walk.Around.TheVariants.{Existential, Universal, Vacant}
use Rattle.step_skolem.specs.Images.{Image, Kept, entry, i_all, i_and, i_keep, i_lit, i_no, i_or, i_put, i_yes, IsImage}
use Rattle.step_skolem.specs.Substitutions.{applied, with_term}
use Rattle.step_skolem.specs.declared.SkEntry.{SkEntry}

own_number : (n : ℕ) (rest : List ℕ) → has_number (n ∷ rest) n ≡ true
own_number n rest = or_left (nat_eq n n) (has_number rest n) (eq-eqb n n refl)

map_same : (f g : ℕ → Term) (numbers : List ℕ) → ((n : ℕ) → has_number numbers n ≡ true → f n ≡ g n) → map f numbers ≡ map g numbers
map_same f g [] h = refl
map_same f g (m ∷ numbers) h = ap₂ (λ x xs. x ∷ xs) (h m (own_number m numbers)) (map_same f g numbers (λ n i. h n (or_right (nat_eq m n) (has_number numbers n) i)))

-- quantifiers are counted alike in both forms
moved : {r : ℕ → ℕ} {a b : SignedForm} {c : Form} → Drops r a c → (h : List Around) (u e i : ℕ) (x : Spot) → Stands b h (plain.alls c + u) (plain.exs c + e) i x
    → Stands b h (alls a + u) (exs a + e) i x
moved {a = a} {b = b} {c = c} w h u e i x s =
    subst (λ n. Stands b h (n + u) (exs a + e) i x) (drops_alls w) (subst (λ n. Stands b h (plain.alls c + u) (n + e) i x) (drops_exs w) s)

spot_same : (x y : Spot) → Some x ≡ Some y → x ≡ y
spot_same x y h = cc

module _ (origins : List Origin) (rooted : AreRooted origins) (leaf : Formula) (sign : Bool) (entries : List SkEntry) (image : Nf)
    (leads : IsImage (normal_of leaf sign) entries image) (sourced : AreSourced origins leaf sign entries) (v : ℕ → Term) where
  -- ---- the origin formula of an entry's term

  module _ (own : SkEntry) (there : Contains entries own) where
    abbrev source : IsSourced origins leaf sign entries own
    source = sourced own there

    abbrev root : IsRooted origins source.origin
    root = rooted own.symbol source.origin source.listed

    abbrev terms : ℕ → Term
    terms = universals_by source.origin (map v own.args)

    terms_are : (n : ℕ) → has_number own.args n ≡ true → terms n ≡ v n
    terms_are n h =
        ap (λ e. assigned (args_for source.origin.map.entries e) (map v own.args) n) source.number
        ∙ ap (λ l. assigned l (map v own.args) n) (args_at origins source.origin root own source.own) ∙ assigned_here v own.args n h

    value_same : (a : Around) → Good source.origin.map.entries own.args a → value terms source.origin.map.entries a ≡ value v entries a
    value_same (Universal n) g = terms_are n g
    value_same (Existential e) g =
        skolem_at origins source.origin root terms (entry e g.0 g.1) g.2 ∙ ap (App g.0) (map_same terms v g.1 (λ n i. terms_are n (g.3 n i)))
        ∙ sym (entry_found v (normal_of leaf sign) image entries leads (entry e g.0 g.1) (source.gained (entry e g.0 g.1) g.2))
    value_same Vacant g = refl

    placed : (x : Spot) × Stands (signed_form source.origin.leaf source.origin.sign) [] 0 0 own.ex x × Covered source.origin.map.entries own.args x
    placed =
        entry_spot (drops_formula source.origin.leaf source.origin.sign) (labelled_formula source.origin.leaf source.origin.sign) root.leads source.origin.map.entries (λ x i. i) []
        (top_links source.origin.map.entries) own source.own

    found_same : found (signed_form source.origin.leaf source.origin.sign) [] 0 0 own.ex ≡ found (signed_form leaf sign) [] 0 0 own.ex
    found_same =
        ap (λ f. found (signed_form f source.origin.sign) [] 0 0 own.ex) source.same_leaf ∙ ap (λ b. found (signed_form leaf b) [] 0 0 own.ex) source.same_sign

    module _ (positive : Bool) (f : Formula) (h : List Around) (stands : Stands (signed_form leaf sign) [] 0 0 own.ex (spot positive f h)) where
      spot_is : spot_of source.origin ≡ Some (spot positive f h)
      spot_is =
          ap (λ i. found (signed_form source.origin.leaf source.origin.sign) [] 0 0 i) source.number ∙ found_same ∙ stands_found stands

      covered : Covered source.origin.map.entries own.args (spot positive f h)
      covered =
          subst (Covered source.origin.map.entries own.args) (spot_same placed.0 (spot positive f h) (sym (stands_found placed.1) ∙ found_same ∙ stands_found stands)) placed.2

      read : (k : ℕ) → in_formula f k ≡ true → term_at (terms_around source.origin h (map v own.args)) k ≡ term_at (map (value v entries) h) k
      read k i = read_same (value terms source.origin.map.entries) (value v entries) h k (λ a at. value_same a (covered k a i at))

      -- the origin of the entry's term stands there
      origin_there : (z : ℕ → Term) → ((k : ℕ) → term_at (map (value v entries) h) k ≡ z k) → IsOriginAt origins (App own.symbol (map v own.args)) positive f z
      origin_there z stack = record {
        origin = source.origin;
        listed = origin_App origins rooted own.symbol (map v own.args) ∙ source.listed;
        spot = spot positive f h;
        found = spot_is;
        positive = refl;
        formula = refl;
        terms = λ k i. ap (λ (l : List Term). term_at (terms_around source.origin h l) k) (args-App own.symbol (map v own.args)) ∙ read k i ∙ stack k;
      }

  -- ---- the walk through the signed form

  -- what is free in the signed form has the terms of the normal form's variables
  abbrev Follows : (ℕ → ℕ) → (ℕ → Term) → SignedForm → (ℕ → Term) → Type 0
  Follows r t n z = (k : ℕ) → free_in k n ≡ true → t (r k) ≡ z k

  follows_under : (r : ℕ → ℕ) (t : ℕ → Term) (n : SignedForm) (z : ℕ → Term) (x : Term) → ((k : ℕ) → free_in (suc k) n ≡ true → t (r k) ≡ z k)
      → Follows (under r) (with_term x t) n (with_term x z)
  follows_under r t n z x h zero i = refl
  follows_under r t n z x h (suc k) i = h k i

  follows_past : (r : ℕ → ℕ) (t : ℕ → Term) (n : SignedForm) (z : ℕ → Term) → free_in 0 n ≡ false → ((k : ℕ) → free_in (suc k) n ≡ true → t (r k) ≡ z k)
      → Follows (past r) t n (with_term Any z)
  follows_past r t n z unused h zero i = absurd (let e : true ≡ false = sym i ∙ unused in cc)
  follows_past r t n z unused h (suc k) i = h k i

  -- the terms are those of the quantifiers around
  abbrev IsStack : List Around → (ℕ → Term) → Type 0
  IsStack h z = (k : ℕ) → term_at (map (value v entries) h) k ≡ z k

  stack_more : (a : Around) (h : List Around) (z : ℕ → Term) → IsStack h z → IsStack (a ∷ h) (with_term (value v entries a) z)
  stack_more a h z w zero = refl
  stack_more a h z w (suc k) = w k

  literal_same : (r : ℕ → ℕ) (around : List ℕ) (s t z : ℕ → Term) (l : Literal) → Agrees v around s (plain.lit (instance (renaming r) l)) t → Follows r t (lit l) z
      → instance v (renamed_literal (owner around) (instance s (instance (renaming r) l))) ≡ instance z l
  literal_same r around s t z l a f =
      literal_there v around s t (instance (renaming r) l) a ∙ instance_after t (renaming r) l
      ∙ instance_agree (λ k. substituted t (renaming r k)) z l (λ k i. substituted-Var t (r k) ∙ f k i)

  record IsMet (z : ℕ → Term) (u e : ℕ) (n : SignedForm) (m : Form) (picks : List Bool) (ends : List Literal) : Type 0 where
    pub terms_there : List Term
    pub skolems_there : List Term
    pub same : (rest : List Bool) → chosen v (skolem_term v entries) u e m (picks ++ rest) ≡ chosen_as terms_there skolems_there rest
    pub tree : Meets origins z n picks terms_there skolems_there ends

  module _ (grounds : (n : ℕ) → IsGround (v n)) where
    -- a choice of the image leads through the signed form, and meets origins
    met_made : {r : ℕ → ℕ} {n : SignedForm} {c : Form} → Drops r n c → IsTight n → {g : List Kept} {s : ℕ → Term} {u e : ℕ} {m : List SkEntry} {d : Form} → Image g s u e c m d
        → (i : ℕ) (around : List ℕ) (h : List Around) (t z : ℕ → Term) (lits : List Literal) (picks : List Bool) → Owned g around → Agrees v around s c t → Follows r t n z → IsStack h z
        → ((own : SkEntry) → Contains m own → Contains entries own) → ((j : ℕ) (x : Spot) → Stands n h u e j x → Stands (signed_form leaf sign) [] 0 0 j x)
        → HasChoice around (numbered_from u i d) lits picks → IsMet z u e n c picks (map (instance v) lits)
    met_made (d_yes r) q (i_yes g s u e) i around h t z lits picks o a f k w p y = elim y [ ]
    met_made (d_no r) q (i_no g s u e) i around h t z _ _ o a f k w p (none _) = record { terms_there = []; skolems_there = []; same = λ rest. refl; tree = at_false z }
    met_made (d_lit r l) q (i_lit g s u e _) i around h t z _ _ o a f k w p (one _ _) = record {
      terms_there = [];
      skolems_there = [];
      same = λ rest. refl;
      tree = subst (λ x. Meets origins z (lit l) [] [] [] (x ∷ [])) (sym (literal_same r around s t z l a f)) (at_lit z l);
    }
    met_made (d_and r a b c d x y) (t_joined _ _ _ qa qb) (i_and g s u e _ _ m n c2 d2 pa pb) i around h t z _ _ o ag f k w p (left _ _ _ lits picks choice) =
        let one = met_made x qa pa i around h t z lits picks o (λ j free. ag j (or_left (plain.free j c) (plain.free j d) free)) (λ j free. f j (or_left (free_in j a) (free_in j b) free)) k
        (λ own j. w own (Contains-append_left m n own j)) (λ j spot_there at. p j spot_there (s_left h u e j true a b spot_there at)) choice in
        record {
          terms_there = one.terms_there;
          skolems_there = one.skolems_there;
          same = one.same;
          tree = at_left z a b picks one.terms_there one.skolems_there (map (instance v) lits) one.tree;
        }
    met_made (d_and r a b c d x y) (t_joined _ _ _ qa qb) (i_and g s u e _ _ m n c2 d2 pa pb) i around h t z _ _ o ag f k w p (right _ _ _ lits picks choice) =
        let one = met_made y qb pb (plain.exs c2 + i) around h t z lits picks o (λ j free. ag j (or_right (plain.free j c) (plain.free j d) free))
        (λ j free. f j (or_right (free_in j a) (free_in j b) free)) k (λ own j. w own (Contains-append_right m n own j))
        (λ j spot_there at. p j spot_there (s_right h u e j true a b spot_there (moved x h u e j spot_there at)))
        (subst (λ j. HasChoice around (numbered_from (j + u) (plain.exs c2 + i) d2) lits picks) (alls_image pa) choice) in
        record {
          terms_there = one.terms_there;
          skolems_there = one.skolems_there;
          same = one.same;
          tree = at_right z a b picks one.terms_there one.skolems_there (map (instance v) lits) one.tree;
        }
    met_made (d_or r a b c d x y) (t_joined _ _ _ qa qb) (i_or g s u e _ _ m n c2 d2 pa pb) i around h t z _ _ o ag f k w p (both _ _ _ lits more picks sides first second) =
        let one = met_made x qa pa i around h t z lits picks o (λ j free. ag j (or_left (plain.free j c) (plain.free j d) free)) (λ j free. f j (or_left (free_in j a) (free_in j b) free)) k
        (λ own j. w own (Contains-append_left m n own j)) (λ j spot_there at. p j spot_there (s_left h u e j false a b spot_there at)) first in
        let other = met_made y qb pb (plain.exs c2 + i) around h t z more sides o (λ j free. ag j (or_right (plain.free j c) (plain.free j d) free))
        (λ j free. f j (or_right (free_in j a) (free_in j b) free)) k (λ own j. w own (Contains-append_right m n own j))
        (λ j spot_there at. p j spot_there (s_right h u e j false a b spot_there (moved x h u e j spot_there at)))
        (subst (λ j. HasChoice around (numbered_from (j + u) (plain.exs c2 + i) d2) more sides) (alls_image pa) second) in
        record {
          terms_there = one.terms_there ++ other.terms_there;
          skolems_there = one.skolems_there ++ other.skolems_there;
          same = λ rest.
              ap (chosen v (skolem_term v entries) u e (plain.or c d)) (append_assoc picks sides rest)
              ∙ ap (λ q. then_chosen q (chosen v (skolem_term v entries) (plain.alls c + u) (plain.exs c + e) d)) (one.same (sides ++ rest))
              ∙ ap (λ q. chosen_as (one.terms_there ++ q.terms) (one.skolems_there ++ q.skolems) q.left) (other.same rest);
          tree = subst (Meets origins z (joined false a b) (picks ++ sides) (one.terms_there ++ other.terms_there) (one.skolems_there ++ other.skolems_there))
              (sym (map_both (instance v) lits more))
              (at_both z a b picks sides one.terms_there other.terms_there one.skolems_there other.skolems_there (map (instance v) lits) (map (instance v) more) one.tree other.tree);
        }
    met_made (d_all r a c x) (t_all _ qa) (i_all g s u e _ m d pa) i around h t z _ _ o ag f k w p (inside _ _ _ lits picks choice) =
        let one = met_made x qa pa i (u ∷ around) (Universal u ∷ h) (with_term (v u) t) (with_term (v u) z) lits picks (owned_more u g around o) (agrees_all v around s c t u ag)
        (follows_under r t a z (v u) f) (stack_more (Universal u) h z k) w (λ j spot_there at. p j spot_there (s_all h u e j a spot_there at)) choice in
        record {
          terms_there = v u ∷ one.terms_there;
          skolems_there = one.skolems_there;
          same = λ rest. ap (with_universal (v u)) (one.same rest);
          tree = at_all z a (v u) picks one.terms_there one.skolems_there (map (instance v) lits) (grounds u) one.tree;
        }
    met_made (d_ex r positive g2 a c x) (t_ex _ _ _ qa) (i_keep g s u e _ m d pa) i around h t z lits picks o ag f k w p choice = elim choice [ ]
    met_made (d_ex r positive g2 a c x) (t_ex _ _ _ qa) (i_put g s u e _ m d symbol args ys fits pa) i around h t z lits picks o ag f k w p choice =
        let own = entry e symbol args in
        let there = w own (contains_first own m) in
        let chosen_term = skolem_term v entries e in
        let is : chosen_term ≡ App symbol (map v args) = entry_found v (normal_of leaf sign) image entries leads own there in
        let put = term_there v around g o symbol ys args fits.universals ∙ sym is in
        let one = met_made x qa pa i around (Existential e ∷ h) (with_term chosen_term t) (with_term chosen_term z) lits picks o
        (agrees_put v around s c t (applied symbol ys) chosen_term put ag) (follows_under r t a z chosen_term f) (stack_more (Existential e) h z k)
        (λ other j. w other (contains_rest own m other j)) (λ j spot_there at. p j spot_there (s_below h u e j positive g2 a spot_there at)) choice in
        let meets = subst (λ q. IsOriginAt origins q positive g2 z) (sym is) (origin_there own there positive g2 h (p e (spot positive g2 h) (s_here h u e positive g2 a)) z k) in
        record {
          terms_there = one.terms_there;
          skolems_there = chosen_term ∷ one.skolems_there;
          same = λ rest. ap (with_existential chosen_term) (one.same rest);
          tree = at_ex z positive g2 a chosen_term picks one.terms_there one.skolems_there (map (instance v) lits) meets one.tree;
        }
    met_made (d_vacuous r a c x) (t_vacuous _ unused qa) {u = u} {e = e} pa i around h t z lits picks o ag f k w p choice =
        let one = met_made x qa pa i around (Vacant ∷ h) t (with_term Any z) lits picks o ag (follows_past r t a z unused f) (stack_more Vacant h z k) w
        (λ j spot_there at. p j spot_there (s_vacuous h u e j a spot_there at)) choice in
        record {
          terms_there = one.terms_there;
          skolems_there = one.skolems_there;
          same = one.same;
          tree = at_vacuous z a picks one.terms_there one.skolems_there (map (instance v) lits) one.tree;
        }

pub trees_meet_origins : TreesMeetOrigins
trees_meet_origins origins leaf sign entries row terms rooted sourced g =
    let v = assigned row.quants terms in
    let form = normal_of leaf sign in
    let choice = every_at (rows_are_choices g.image) g.listed in
    let top : (k : ℕ) → term_at [] k ≡ Any = λ k. get_or_past [] k Any (omega arith) in
    let made = met_made origins rooted leaf sign entries g.image g.leads sourced v (assigned_ground row.quants terms g.ground) (drops_formula leaf sign) (tight_formula leaf sign) g.leads 0 [] []
    (λ k. Any) (λ k. Any) (literals_of row) row.picks none_owned (closed_agrees form v g.closed) (λ k i. refl) top (λ own c. c) (λ j x s. s) choice.0 in
    let same : chosen_in form entries row terms ≡ chosen_as made.terms_there made.skolems_there [] =
    ap (chosen v (skolem_term v entries) 0 0 (form_of form)) (sym (append-nil row.picks)) ∙ made.same [] in
    subst (λ (c : Chosen). Meets origins (λ k. Any) (signed_form leaf sign) row.picks c.terms c.skolems (ground_clause row terms)) (sym same)
    (subst (Meets origins (λ k. Any) (signed_form leaf sign) row.picks made.terms_there made.skolems_there) (grounded g.image g.place row terms g.listed g.many) made.tree)

pub met_formula : MetFormulasAreOrigins
met_formula origins t sign f s at =
    ap (formula_from (args_of t)) at.listed ∙ ap (formula_at at.origin (args_of t)) at.found
    ∙ ap₂ (λ b g. signed b (put_in (term_at (terms_around at.origin at.spot.around (args_of t))) g 0)) at.positive at.formula
    ∙ ap (signed sign) (formula_same (term_at (terms_around at.origin at.spot.around (args_of t))) s f 0 read)
  where
    read : (k : ℕ) → in_formula f (k + 0) ≡ true → term_at (terms_around at.origin at.spot.around (args_of t)) k ≡ s k
    read k i = let e : k + 0 ≡ k = omega arith in at.terms k (subst (λ m. in_formula f m ≡ true) e i)
