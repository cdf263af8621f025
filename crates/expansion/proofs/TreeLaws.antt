-- Laws of thin trees: one list of ends, ground choices, and what holds of the ends.
use Rattle.std.proofs.Common.{◌≡◌, ℕ, zero, suc, length, Bool, true, false, ◌&&◌, List, [], ◌∷◌, ◌++◌, map, refl, sym, ap, ap₂, ◌∙◌, append_assoc}
use Rattle.std.proofs.lemmas.Bool.{and_parts}
use Rattle.std.proofs.lemmas.List.{length-map}
use Rattle.std.specs.Prelude.{IsTrue}
use Rattle.dk_syntax.proofs.ListLaws.{ForEach, for_each}
use Rattle.dk_syntax.proofs.SubstitutionLaws.{substituted-Any, substituted-App, substituted-Var}
use Rattle.dk_syntax.proofs.TermLaws.{term_induction}
use Rattle.dk_syntax.proofs.WellFormedLaws.{closed-Any, closed-App, well_formed-Any, well_formed-App}
use Rattle.dk_syntax.specs.Lists.{Every, all_true, every_cons, every_nil}
use Rattle.dk_syntax.specs.Terms.{substituted, instance}
use Rattle.dk_syntax.specs.WellFormed.{IsGround, fits_symbol, literal_closed_under, term_closed_under, well_formed_literal, well_formed_term}
use Rattle.dk_syntax.specs.declared.Kind.TheVariants.{Function, Predicate}
use Rattle.dk_syntax.specs.declared.Literal.{Literal}
use Rattle.dk_syntax.specs.declared.SymKey.{SymKey}
use Rattle.dk_syntax.specs.declared.Term.{Term}
use Rattle.expansion.proofs.Everywhere.{every_back, every_both, every_front, every_head, every_only, every_tail}
use Rattle.expansion.specs.Ends.{IsInstanceIn, StandsIn, itself, left_of_and, left_of_or, right_of_and, right_of_or, under_all, under_ex}
use Rattle.expansion.specs.Laws.{ChoicesAreGround, EndsAreGround, EndsAreOne, EndsAreWellFormed}
use Rattle.expansion.specs.ThinTrees.{IsSkolemTerm, IsThinTree, at_all, at_ex, at_left, at_lit, at_no, at_or, at_right}
use Rattle.normal_form.specs.FormFacts.{HasWellFormedLiterals}
use Rattle.normal_form.specs.Forms.{Form, form_of}
use Rattle.step_skolem.specs.Substitutions.{with_term}

-- ---- one list of ends

-- the choices, the ends and what comes after the choices are the same
record IsSame (picks sides : List Bool) (terms others skolems more : List Term) (ends rest : List Literal) (p q : List Bool) (t u k l : List Term) : Type 0 where
  pub same_picks : picks ≡ sides
  pub same_terms : terms ≡ others
  pub same_skolems : skolems ≡ more
  pub same_ends : ends ≡ rest
  pub after_picks : p ≡ q
  pub after_terms : t ≡ u
  pub after_skolems : k ≡ l

first_same : {A : Type 0} (a b : A) (l m : List A) → a ∷ l ≡ b ∷ m → a ≡ b
first_same a b l m h = cc

rest_same : {A : Type 0} (a b : A) (l m : List A) → a ∷ l ≡ b ∷ m → l ≡ m
rest_same a b l m h = cc

-- the lists in front of the lists that are appended
fronts : {A : Type 0} (l k m n r t : List A) → (l ++ k) ++ r ≡ (m ++ n) ++ t → l ++ (k ++ r) ≡ m ++ (n ++ t)
fronts l k m n r t h = sym (append_assoc l k r) ∙ h ∙ append_assoc m n t

-- two trees whose choices begin two equal rows of choices
same_tree : {symbols others : List SymKey} {s r : ℕ → Term} {n : Form} {ps qs : List Bool} {ts us ks ls : List Term} {c d : List Literal}
    → IsThinTree symbols s n ps ts ks c → s ≡ r → IsThinTree others r n qs us ls d
    → (p q : List Bool) (t u k l : List Term) → ps ++ p ≡ qs ++ q → ts ++ t ≡ us ++ u → ks ++ k ≡ ls ++ l
    → IsSame ps qs ts us ks ls c d p q t u k l
same_tree (at_no s) e (at_no _) p q t u k l x y z = record {
  same_picks = refl;
  same_terms = refl;
  same_skolems = refl;
  same_ends = refl;
  after_picks = x;
  after_terms = y;
  after_skolems = z;
}
same_tree (at_lit s literal) e (at_lit _ _) p q t u k l x y z = record {
  same_picks = refl;
  same_terms = refl;
  same_skolems = refl;
  same_ends = ap (λ (f : ℕ → Term). instance f literal ∷ []) e;
  after_picks = x;
  after_terms = y;
  after_skolems = z;
}
same_tree (at_left s a b ps ts ks c g) e (at_left _ _ _ qs us ls d h) p q t u k l x y z =
    let i = same_tree g e h p q t u k l (rest_same false false (ps ++ p) (qs ++ q) x) y z in
    record { same_picks = ap (λ m. false ∷ m) i.same_picks; same_terms = i.same_terms; same_skolems = i.same_skolems; same_ends = i.same_ends; after_picks = i.after_picks; after_terms = i.after_terms; after_skolems = i.after_skolems }
same_tree (at_left s a b ps ts ks c g) e (at_right _ _ _ qs us ls d h) p q t u k l x y z = absurd (let f = first_same false true (ps ++ p) (qs ++ q) x in cc)
same_tree (at_right s a b ps ts ks c g) e (at_left _ _ _ qs us ls d h) p q t u k l x y z = absurd (let f = first_same true false (ps ++ p) (qs ++ q) x in cc)
same_tree (at_right s a b ps ts ks c g) e (at_right _ _ _ qs us ls d h) p q t u k l x y z =
    let i = same_tree g e h p q t u k l (rest_same true true (ps ++ p) (qs ++ q) x) y z in
    record { same_picks = ap (λ m. true ∷ m) i.same_picks; same_terms = i.same_terms; same_skolems = i.same_skolems; same_ends = i.same_ends; after_picks = i.after_picks; after_terms = i.after_terms; after_skolems = i.after_skolems }
same_tree (at_or s a b ps ps2 ts ts2 ks ks2 c c2 g g2) e (at_or _ _ _ qs qs2 us us2 ls ls2 d d2 h h2) p q t u k l x y z =
    let i = same_tree g e h (ps2 ++ p) (qs2 ++ q) (ts2 ++ t) (us2 ++ u) (ks2 ++ k) (ls2 ++ l) (fronts ps ps2 qs qs2 p q x) (fronts ts ts2 us us2 t u y) (fronts ks ks2 ls ls2 k l z) in
    let j = same_tree g2 e h2 p q t u k l i.after_picks i.after_terms i.after_skolems in
    record {
      same_picks = ap₂ (λ m n. m ++ n) i.same_picks j.same_picks;
      same_terms = ap₂ (λ m n. m ++ n) i.same_terms j.same_terms;
      same_skolems = ap₂ (λ m n. m ++ n) i.same_skolems j.same_skolems;
      same_ends = ap₂ (λ m n. m ++ n) i.same_ends j.same_ends;
      after_picks = j.after_picks;
      after_terms = j.after_terms;
      after_skolems = j.after_skolems;
    }
same_tree (at_all s a v ps ts ks c w g) e (at_all _ _ v2 qs us ls d w2 h) p q t u k l x y z =
    let f = first_same v v2 (ts ++ t) (us ++ u) y in
    let i = same_tree g (ap₂ with_term f e) h p q t u k l x (rest_same v v2 (ts ++ t) (us ++ u) y) z in
    record { same_picks = i.same_picks; same_terms = ap₂ (λ m n. m ∷ n) f i.same_terms; same_skolems = i.same_skolems; same_ends = i.same_ends; after_picks = i.after_picks; after_terms = i.after_terms; after_skolems = i.after_skolems }
same_tree (at_ex s a v ps ts ks c w g) e (at_ex _ _ v2 qs us ls d w2 h) p q t u k l x y z =
    let f = first_same v v2 (ks ++ k) (ls ++ l) z in
    let i = same_tree g (ap₂ with_term f e) h p q t u k l x y (rest_same v v2 (ks ++ k) (ls ++ l) z) in
    record { same_picks = i.same_picks; same_terms = i.same_terms; same_skolems = ap₂ (λ m n. m ∷ n) f i.same_skolems; same_ends = i.same_ends; after_picks = i.after_picks; after_terms = i.after_terms; after_skolems = i.after_skolems }

-- the same choices under the same substitution lead to the same ends
pub one_list : {symbols others : List SymKey} {s : ℕ → Term} {n : Form} {picks : List Bool} {terms skolems : List Term} {ends those : List Literal}
    → IsThinTree symbols s n picks terms skolems ends → IsThinTree others s n picks terms skolems those → ends ≡ those
one_list g h = (same_tree g refl h [] [] [] [] [] [] refl refl refl).same_ends

pub ends_are_one : EndsAreOne
ends_are_one symbols others leaf thin ends those g h = one_list g h

-- ---- ground choices

pub terms_ground : {symbols : List SymKey} {s : ℕ → Term} {n : Form} {picks : List Bool} {terms skolems : List Term} {ends : List Literal}
    → IsThinTree symbols s n picks terms skolems ends → Every IsGround terms
terms_ground (at_no s) = every_nil
terms_ground (at_lit s literal) = every_nil
terms_ground (at_left s a b ps ts ks c g) = terms_ground g
terms_ground (at_right s a b ps ts ks c g) = terms_ground g
terms_ground (at_or s a b ps qs ts us ks ls c d g h) = every_both (terms_ground g) (terms_ground h)
terms_ground (at_all s a t ps ts ks c w g) = every_cons w (terms_ground g)
terms_ground (at_ex s a t ps ts ks c w g) = terms_ground g

pub skolems_are : {symbols : List SymKey} {s : ℕ → Term} {n : Form} {picks : List Bool} {terms skolems : List Term} {ends : List Literal}
    → IsThinTree symbols s n picks terms skolems ends → Every (IsSkolemTerm symbols) skolems
skolems_are (at_no s) = every_nil
skolems_are (at_lit s literal) = every_nil
skolems_are (at_left s a b ps ts ks c g) = skolems_are g
skolems_are (at_right s a b ps ts ks c g) = skolems_are g
skolems_are (at_or s a b ps qs ts us ks ls c d g h) = every_both (skolems_are g) (skolems_are h)
skolems_are (at_all s a t ps ts ks c w g) = skolems_are g
skolems_are (at_ex s a t ps ts ks c w g) = every_cons w (skolems_are g)

pub choices_are_ground : ChoicesAreGround
choices_are_ground symbols leaf thin ends g = (terms_ground g, skolems_are g)

-- ---- ends are instances

module _ (p : Term → Type 0) where
  moved : {n m : Form} → ((l : Literal) → StandsIn l n → StandsIn l m) → {ends : List Literal} → Every (IsInstanceIn p n) ends → Every (IsInstanceIn p m) ends
  moved f h = every_only (λ end i. record { literal = i.literal; values = i.values; stands = f i.literal i.stands; same = i.same; each = i.each }) h

  with_each : (t : Term) (s : ℕ → Term) → p t → ((k : ℕ) → p (s k)) → (k : ℕ) → p (with_term t s k)
  with_each t s h w zero = h
  with_each t s h w (suc k) = w k

  -- where what stands for the form's variables and each chosen term has a property, each end is a literal of the form with
  -- such terms for its variables
  pub ends_are_instances : {symbols : List SymKey} {s : ℕ → Term} {n : Form} {picks : List Bool} {terms skolems : List Term} {ends : List Literal}
      → IsThinTree symbols s n picks terms skolems ends → ((k : ℕ) → p (s k)) → Every p terms → Every p skolems → Every (IsInstanceIn p n) ends
  ends_are_instances (at_no s) w x y = every_nil
  ends_are_instances (at_lit s literal) w x y = every_cons (record { literal = literal; values = s; stands = itself; same = refl; each = w }) every_nil
  ends_are_instances (at_left s a b ps ts ks c g) w x y = moved (λ l i. left_of_and a b i) (ends_are_instances g w x y)
  ends_are_instances (at_right s a b ps ts ks c g) w x y = moved (λ l i. right_of_and a b i) (ends_are_instances g w x y)
  ends_are_instances (at_or s a b ps qs ts us ks ls c d g h) w x y =
      every_both (moved (λ l i. left_of_or a b i) (ends_are_instances g w (every_front ts us x) (every_front ks ls y)))
      (moved (λ l i. right_of_or a b i) (ends_are_instances h w (every_back ts us x) (every_back ks ls y)))
  ends_are_instances (at_all s a t ps ts ks c v g) w x y = moved (λ l i. under_all a i) (ends_are_instances g (with_each t s (every_head x) w) (every_tail x) y)
  ends_are_instances (at_ex s a t ps ts ks c v g) w x y = moved (λ l i. under_ex a i) (ends_are_instances g (with_each t s (every_head y) w) x (every_tail y))

-- ---- ground ends

module _ (s : ℕ → Term) (grounds : (k : ℕ) → IsGround (s k)) where
  args_ground : (args : List Term) → ForEach (λ t. IsGround (substituted s t)) args → all_true (map (term_closed_under 0) (map (substituted s) args)) ≡ true
  args_ground [] h = refl
  args_ground (t ∷ args) h = ap₂ (λ x y. x && y) h.0 (args_ground args h.1)

  ground_put : (t : Term) → IsGround (substituted s t)
  ground_put = term_induction (λ t. IsGround (substituted s t))
      (λ k. ap (term_closed_under 0) (substituted-Var s k) ∙ grounds k)
      (λ f args h. ap (term_closed_under 0) (substituted-App s f args) ∙ closed-App f (map (substituted s) args) 0 ∙ args_ground args h)
      (ap (term_closed_under 0) (substituted-Any s) ∙ closed-Any 0)

  literal_ground : (l : Literal) → literal_closed_under 0 (instance s l) ≡ true
  literal_ground l = args_ground l.args (for_each (λ t. IsGround (substituted s t)) ground_put l.args)

pub ends_are_ground : EndsAreGround
ends_are_ground symbols leaf thin ends g =
    every_only (λ end i. ap (literal_closed_under 0) i.same ∙ literal_ground i.values i.each i.literal)
    (ends_are_instances IsGround g (λ k. closed-Any 0) (terms_ground g) (every_only (λ t w. w.ground) (skolems_are g)))

-- ---- well-formed ends

stands_well : (l : Literal) (n : Form) → StandsIn l n → HasWellFormedLiterals n → well_formed_literal l ≡ true
stands_well l _ itself w = w
stands_well l _ (left_of_and a b i) w = stands_well l a i w.0
stands_well l _ (right_of_and a b i) w = stands_well l b i w.1
stands_well l _ (left_of_or a b i) w = stands_well l a i w.0
stands_well l _ (right_of_or a b i) w = stands_well l b i w.1
stands_well l _ (under_all a i) w = stands_well l a i w
stands_well l _ (under_ex a i) w = stands_well l a i w

abbrev IsWell : Term → Type 0
IsWell t = IsTrue (well_formed_term t)

module _ (s : ℕ → Term) (well : (k : ℕ) → IsWell (s k)) where
  abbrev StaysWell : Term → Type 0
  StaysWell t = well_formed_term t ≡ true → IsWell (substituted s t)

  args_well : (args : List Term) → ForEach StaysWell args → all_true (map well_formed_term args) ≡ true → all_true (map well_formed_term (map (substituted s) args)) ≡ true
  args_well [] h w = refl
  args_well (t ∷ args) h w =
      let both = and_parts (well_formed_term t) (all_true (map well_formed_term args)) w in ap₂ (λ x y. x && y) (h.0 both.0) (args_well args h.1 both.1)

  well_put : (t : Term) → StaysWell t
  well_put = term_induction StaysWell
      (λ k w. ap well_formed_term (substituted-Var s k) ∙ well k)
      (λ f args h w.
      let both = and_parts (fits_symbol Function f (length args)) (all_true (map well_formed_term args)) (sym (well_formed-App f args) ∙ w) in
      ap well_formed_term (substituted-App s f args) ∙ well_formed-App f (map (substituted s) args)
      ∙ ap₂ (λ x y. x && y) (ap (fits_symbol Function f) (length-map args (substituted s)) ∙ both.0) (args_well args h both.1))
      (λ w. ap well_formed_term (substituted-Any s) ∙ well_formed-Any)

  literal_well : (l : Literal) → well_formed_literal l ≡ true → well_formed_literal (instance s l) ≡ true
  literal_well l w =
      let both = and_parts (fits_symbol Predicate l.pred (length l.args)) (all_true (map well_formed_term l.args)) w in
      ap₂ (λ x y. x && y) (ap (fits_symbol Predicate l.pred) (length-map l.args (substituted s)) ∙ both.0)
      (args_well l.args (for_each StaysWell well_put l.args) both.1)

pub ends_are_well_formed : EndsAreWellFormed
ends_are_well_formed symbols leaf thin ends h x y g =
    every_only (λ end i. ap well_formed_literal i.same ∙ literal_well i.values i.each i.literal (stands_well i.literal (form_of leaf) i.stands h))
    (ends_are_instances IsWell g (λ k. well_formed-Any) x y)
