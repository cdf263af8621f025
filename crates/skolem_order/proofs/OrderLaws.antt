-- What a Skolem term mentions comes before it.
use Rattle.std.proofs.Common.{◌≡◌, ℕ, zero, suc, ◌+◌, ◌<◌, ◌≤◌, nat_eq, nat_lt, rules, if◌then◌else◌, Bool, true, false, List, [], ◌∷◌, cond, get_or, length, map, count_by, Option, None, Some, refl, sym, ap, ap₂, subst, ◌∙◌, ◌⊎◌, inl, inr, ⊎_elim, arith, eq-eqb, append-nil}
use Rattle.std.specs.List.{Contains, find, position_or_len}
use Rattle.std.specs.Ordering.{is_lt, nat_cmp, ordering_then}
use Rattle.std.specs.declared.cmp.Ordering.TheVariants.{Equal, Less}
use Rattle.std.specs.Prelude.{IsTrue}
use Rattle.std.proofs.lemmas.Grind.{common_steps}
use Rattle.std.proofs.lemmas.Bool.{cases_Bool, eqb-true, or_cases, or_left, or_right}
use Rattle.std.proofs.lemmas.List.{get_or_past}
use Rattle.std.proofs.lemmas.List.Elements.{Contains-get_or}
use Rattle.std.proofs.lemmas.List.Recursion.{is_position_or_len}
use Rattle.dk_syntax.proofs.TermLaws.{App-injective, App-not-Any, Var-injective, depth-Any, depth-App, depth-Var, term_induction}
use Rattle.dk_syntax.specs.Depth.{greatest, term_depth_of}
use Rattle.dk_syntax.specs.Lists.{Every, every_cons, every_nil}
use Rattle.dk_syntax.specs.Order.{order_of}
use Rattle.dk_syntax.specs.declared.SymKey.{SymKey}
use Rattle.dk_syntax.specs.declared.Term.{Any, App, Term, Var, the_lemmas as of_terms}
use Rattle.expansion.proofs.EntryLaws.{image_found}
use Rattle.expansion.specs.Choices.{assigned, skolem_term, term_there}
use Rattle.normal_form.specs.ClauseLists.{has_number}
use Rattle.normal_form.specs.Normal.{normal_of}
use Rattle.normal_form.specs.Renaming.{place_of}
use Rattle.normal_form.specs.declared.Nf.{Nf}
use Rattle.skolem_order.proofs.DropLaws.{drops_formula}
use Rattle.skolem_order.proofs.LabelLaws.{labelled_formula}
use Rattle.skolem_order.proofs.ListFacts.{contains_cases, contains_first, contains_rest, contains_same, none_in_nil}
use Rattle.skolem_order.proofs.OriginLaws.{entry_spot, top_links}
use Rattle.skolem_order.proofs.PartLaws.{args-Any, args-App, args-Var, part_any}
use Rattle.skolem_order.proofs.SpotLaws.{stands_found}
use Rattle.skolem_order.specs.Covers.{Covered, Good, IsAt}
use Rattle.skolem_order.specs.Order.{IsInside, IsPart, IsPut, Mentions, in_argument, is_existential, itself, rank, rank_at, rank_from, skolem_order}
use Rattle.skolem_order.specs.Origins.{args_for, args_in, args_of, is_skolem, origin_for, origin_of_term, spot_of, universals_by, value}
use Rattle.skolem_order.specs.Rooted.{AreRooted, IsRooted, IsSized}
use Rattle.skolem_order.specs.SignedForms.{SignedForm, ex, signed_form}
use Rattle.skolem_order.specs.Spots.{Spot, Stands, found, s_all, s_below, s_here, s_left, s_right, s_vacuous, spot}
use Rattle.skolem_order.specs.declared.origins.Origin.{Origin}
use Rattle.skolem_order.specs.declared.walk.Around.{Around}
use Rattle.skolem_order.specs.declared.walk.Around.TheVariants.{Existential, Universal, Vacant}
use Rattle.step_skolem.specs.Images.{entry, IsImage}
use Rattle.step_skolem.specs.declared.SkEntry.{SkEntry}

-- ---- existentials around have a smaller rank

abbrev many : List Around → ℕ
many around = count_by is_existential around

many_more : (e : ℕ) (h : List Around) → many (Existential e ∷ h) ≡ 1 + many h
many_more e h = grind (arith, common_steps)

many_all : (n : ℕ) (h : List Around) → many (Universal n ∷ h) ≡ many h
many_all n h = grind (arith, common_steps)

many_vacant : (h : List Around) → many (Vacant ∷ h) ≡ many h
many_vacant h = grind (arith, common_steps)

-- as many existentials stand around a place as around the form, or more
around_more : {n : SignedForm} {h : List Around} {u e i : ℕ} {x : Spot} → Stands n h u e i x → many h ≤ many x.around
around_more (s_here h u e sign f a) = omega arith
around_more (s_below h u e i sign f a x s) = let w = around_more s in let m = many_more e h in omega (arith, w, m)
around_more (s_all h u e i a x s) = let w = around_more s in let m = many_all u h in omega (arith, w, m)
around_more (s_vacuous h u e i a x s) = let w = around_more s in let m = many_vacant h in omega (arith, w, m)
around_more (s_left h u e i both a b x s) = around_more s
around_more (s_right h u e i both a b x s) = around_more s

abbrev Outer : SignedForm → List Around → ℕ → ℕ → Spot → ℕ → Type 0
Outer n h u e x f = (y : Spot) × Stands n h u e f y × (many y.around < many x.around)

number_same : (e f : ℕ) → Existential e ≡ Existential f → e ≡ f
number_same e f h = cc

-- an existential around a place stands in the form, with fewer existentials around, or around the form
outer : {n : SignedForm} {h : List Around} {u e i : ℕ} {x : Spot} → Stands n h u e i x → (k f : ℕ) → IsAt x.around k (Existential f) → Outer n h u e x f ⊎ ((j : ℕ) × IsAt h j (Existential f))
outer (s_here h u e sign q a) k f w = inr (k, w)
outer (s_below h u e i sign q a x s) k f w =
    ⊎_elim (λ l. inl (l.0, s_below h u e f sign q a l.0 l.1, l.2)) (λ r. here r.0 r.1 (around_more s)) (outer s k f w)
  where
    here : (j : ℕ) → IsAt (Existential e ∷ h) j (Existential f) → many (Existential e ∷ h) ≤ many x.around → Outer (ex sign q a) h u e x f ⊎ ((j : ℕ) × IsAt h j (Existential f))
    here zero v m = inl (spot sign q h, subst (λ y. Stands (ex sign q a) h u e y (spot sign q h)) (number_same e f v) (s_here h u e sign q a), (let c = many_more e h in omega (arith, m, c)))
    here (suc j) v m = inr (j, v)
outer (s_all h u e i a x s) k f w = ⊎_elim (λ l. inl (l.0, s_all h u e f a l.0 l.1, l.2)) (λ r. inr (past r.0 r.1)) (outer s k f w)
  where
    past : (j : ℕ) → IsAt (Universal u ∷ h) j (Existential f) → (j : ℕ) × IsAt h j (Existential f)
    past zero v = cc
    past (suc j) v = (j, v)
outer (s_vacuous h u e i a x s) k f w = ⊎_elim (λ l. inl (l.0, s_vacuous h u e f a l.0 l.1, l.2)) (λ r. inr (past r.0 r.1)) (outer s k f w)
  where
    past : (j : ℕ) → IsAt (Vacant ∷ h) j (Existential f) → (j : ℕ) × IsAt h j (Existential f)
    past zero v = cc
    past (suc j) v = (j, v)
outer (s_left h u e i both a b x s) k f w = ⊎_elim (λ l. inl (l.0, s_left h u e f both a b l.0 l.1, l.2)) (λ r. inr r) (outer s k f w)
outer (s_right h u e i both a b x s) k f w = ⊎_elim (λ l. inl (l.0, s_right h u e f both a b l.0 l.1, l.2)) (λ r. inr r) (outer s k f w)

-- ---- parts are no deeper

deepest : (args : List Term) (arg : Term) → Contains args arg → term_depth_of arg ≤ greatest (map term_depth_of args)
deepest [] arg c = absurd (none_in_nil arg c)
deepest (a ∷ args) arg c =
    ⊎_elim (λ e. let q : term_depth_of a ≡ term_depth_of arg = ap term_depth_of e in omega (arith, q))
    (λ r. let w : term_depth_of arg ≤ greatest (map term_depth_of args) = deepest args arg r in omega (arith, w)) (contains_cases a args arg c)

part_depth : {s t : Term} → IsPart s t → term_depth_of s ≤ term_depth_of t
part_depth itself = omega arith
part_depth (in_argument f args arg one p) =
    let w = part_depth p in let d = deepest args arg one in let e = depth-App f args in omega (arith, w, d, e)

argument_depth : (t arg : Term) → Contains (args_of t) arg → term_depth_of arg < term_depth_of t
argument_depth = term_induction (λ t. (arg : Term) → Contains (args_of t) arg → term_depth_of arg < term_depth_of t)
    (λ n arg c. absurd (none_in_nil arg (contains_same (args_of (Var n)) [] arg (args-Var n) c)))
    (λ f args h arg c. let d = deepest args arg (contains_same (args_of (App f args)) args arg (args-App f args) c) in let e = depth-App f args in omega (arith, d, e))
    (λ arg c. absurd (none_in_nil arg (contains_same (args_of Any) [] arg args-Any c)))

inside_depth : (s t : Term) → IsInside s t → term_depth_of s < term_depth_of t
inside_depth s t i = let p = part_depth i.part in let a = argument_depth t i.argument i.one in omega (arith, p, a)

depth_some : (t : Term) → 1 ≤ term_depth_of t
depth_some = term_induction (λ t. 1 ≤ term_depth_of t) (λ n. omega (arith, depth-Var n)) (λ f args h. omega (arith, depth-App f args)) (omega (arith, depth-Any))

greatest_least : (args : List Term) (d : ℕ) → ((arg : Term) → Contains args arg → term_depth_of arg < d) → 1 ≤ d → 1 + greatest (map term_depth_of args) ≤ d
greatest_least [] d h one = omega (arith, one)
greatest_least (a ∷ args) d h one =
    let first : term_depth_of a < d = h a (contains_first a args) in
    let rest : 1 + greatest (map term_depth_of args) ≤ d = greatest_least args d (λ arg c. h arg (contains_rest a args arg c)) one in
    omega (arith, first, rest)

-- ---- the variables of the quantifiers around

pub place_at : (w : Around → Term) (around : List Around) (k : ℕ) → (get_or (map w around) k Any ≡ Any) ⊎ ((a : Around) × IsAt around k a × (get_or (map w around) k Any ≡ w a))
place_at w [] k = inl (get_or_past [] k Any (omega arith))
place_at w (a ∷ around) zero = inr (a, refl, refl)
place_at w (a ∷ around) (suc k) = place_at w around k

place_below : (numbers : List ℕ) (n : ℕ) → has_number numbers n ≡ true → place_of numbers n < length numbers
place_below [] n h = cc
place_below (m ∷ numbers) n h = by_test (nat_eq m n) (λ r. place_below numbers n r) (or_cases (nat_eq m n) (has_number numbers n) h)
  where
    by_test : (b : Bool) → (has_number numbers n ≡ true → place_of numbers n < length numbers) → (b ≡ true) ⊎ (has_number numbers n ≡ true) → (if b then 0 else 1 + place_of numbers n) < length (m ∷ numbers)
    by_test true again w = omega arith
    by_test false again w = ⊎_elim (λ e. cc) (λ r. let l = again r in omega (arith, l)) w

place_is : (n : ℕ) (numbers : List ℕ) → place_of numbers n ≡ position_or_len (λ m. nat_eq m n) numbers
place_is n = is_position_or_len (λ numbers. place_of numbers n) (λ m. nat_eq m n) refl (λ m numbers. refl)

-- the term of one of the symbol's universals is an argument
pub assigned_one : (numbers : List ℕ) (args : List Term) (n : ℕ) → length args ≡ length numbers → has_number numbers n ≡ true → Contains args (assigned numbers args n)
assigned_one numbers args n long h =
    let place = position_or_len (λ m. nat_eq m n) numbers in
    let below : place < length numbers = subst (λ p. p < length numbers) (place_is n numbers) (place_below numbers n h) in
    let test : nat_lt place (length numbers) ≡ true = grind (arith, below) in
    let there : place < length args = omega (arith, below, long) in
    subst (Contains args) (sym (ap (λ b. term_there args (cond b (Some place) None)) test)) (Contains-get_or args place Any there)

-- the term of one of the numbers is the number's
pub assigned_here : (v : ℕ → Term) (numbers : List ℕ) (n : ℕ) → has_number numbers n ≡ true → assigned numbers (map v numbers) n ≡ v n
assigned_here v numbers n h =
    let place = position_or_len (λ m. nat_eq m n) numbers in
    let below : place < length numbers = subst (λ p. p < length numbers) (place_is n numbers) (place_below numbers n h) in
    let test : nat_lt place (length numbers) ≡ true = grind (arith, below) in
    ap (λ b. term_there (map v numbers) (cond b (Some place) None)) test ∙ ap (λ p. get_or (map v numbers) p Any) (sym (place_is n numbers)) ∙ read_here numbers h
  where
    read_here : (numbers : List ℕ) → has_number numbers n ≡ true → get_or (map v numbers) (place_of numbers n) Any ≡ v n
    read_here [] h = cc
    read_here (m ∷ numbers) h = by_test (nat_eq m n) refl (λ r. read_here numbers r) (or_cases (nat_eq m n) (has_number numbers n) h)
      where
        by_test : (b : Bool) → nat_eq m n ≡ b → (has_number numbers n ≡ true → get_or (map v numbers) (place_of numbers n) Any ≡ v n) → (b ≡ true) ⊎ (has_number numbers n ≡ true)
            → get_or (v m ∷ map v numbers) (if b then 0 else 1 + place_of numbers n) Any ≡ v n
        by_test true e again w = ap v (eqb-true m n e)
        by_test false e again w =
            ⊎_elim (λ x. cc) (λ r. let q : 1 + place_of numbers n ≡ suc (place_of numbers n) = omega arith in ap (λ p. get_or (v m ∷ map v numbers) p Any) q ∙ again r) w

-- a term of the list is that of one of the numbers
mapped : (v : ℕ → Term) (l : List ℕ) (arg : Term) → Contains (map v l) arg → (n : ℕ) × (has_number l n ≡ true) × (arg ≡ v n)
mapped v [] arg i = absurd (none_in_nil arg i)
mapped v (a ∷ l) arg i =
    ⊎_elim (λ q. (a, or_left (nat_eq a a) (has_number l a) (eq-eqb a a refl), sym q))
    (λ j. let w = mapped v l arg j in (w.0, or_right (nat_eq a w.0) (has_number l w.0) w.1, w.2)) (contains_cases (v a) (map v l) arg i)

-- ---- entries of a map by their numbers

abbrev pub term_of_entry : (ℕ → Term) → Option SkEntry → Term
term_of_entry v None = Any
term_of_entry v (Some one) = App one.symbol (map v one.args)

pub skolem_found : (v : ℕ → Term) (entries : List SkEntry) (e : ℕ) → skolem_term v entries e ≡ term_of_entry v (find (λ one. nat_eq one.ex e) entries)
skolem_found v [] e = refl
skolem_found v (one ∷ entries) e = by_test (nat_eq one.ex e) (skolem_found v entries e)
  where
    by_test : (b : Bool) → skolem_term v entries e ≡ term_of_entry v (find (λ x. nat_eq x.ex e) entries)
        → cond b (App one.symbol (map v one.args)) (skolem_term v entries e) ≡ term_of_entry v (cond b (Some one) (find (λ x. nat_eq x.ex e) entries))
    by_test true h = refl
    by_test false h = h

variables_same : (ms ns : List ℕ) → map Var ms ≡ map Var ns → ms ≡ ns
variables_same [] [] h = refl
variables_same [] (n ∷ ns) h = cc
variables_same (m ∷ ms) [] h = cc
variables_same (m ∷ ms) (n ∷ ns) h =
    let first : Var m ≡ Var n = cc in
    let rest : map Var ms ≡ map Var ns = cc in
    ap₂ (λ x xs. x ∷ xs) (Var-injective m n first) (variables_same ms ns rest)

entry_args : (o : Option SkEntry) (symbol : SymKey) (args : List ℕ) → term_of_entry Var o ≡ App symbol (map Var args) → args_in o ≡ args
entry_args None symbol args h = absurd (App-not-Any symbol (map Var args) (sym h))
entry_args (Some one) symbol args h = variables_same one.args args (App-injective one.symbol symbol (map Var one.args) (map Var args) h).1

every_contained : (p : SkEntry → Type 0) (l : List SkEntry) (x : SkEntry) → Every p l → Contains l x → p x
every_contained p [] x h i = absurd (none_in_nil x i)
every_contained p (a ∷ l) x (every_cons q h) i = ⊎_elim (λ e. subst p e q) (λ r. every_contained p l x h r) (contains_cases a l x i)

-- each entry of a map that leads to an image is found by its number
pub entry_found : (v : ℕ → Term) (n image : Nf) (entries : List SkEntry) → IsImage n entries image → (one : SkEntry) → Contains entries one
    → skolem_term v entries one.ex ≡ App one.symbol (map v one.args)
entry_found v n image entries leads one c =
    let each = subst (λ l. Every (λ x. skolem_term v l x.ex ≡ App x.symbol (map v x.args)) entries) (append-nil entries) (image_found v leads [] [] every_nil) in
    every_contained (λ x. skolem_term v entries x.ex ≡ App x.symbol (map v x.args)) entries one each c

-- so is each entry of a rooted origin's map
pub skolem_at : (os : List Origin) (origin : Origin) → IsRooted os origin → (v : ℕ → Term) (one : SkEntry) → Contains origin.map.entries one
    → skolem_term v origin.map.entries one.ex ≡ App one.symbol (map v one.args)
skolem_at os origin rooted v one c = entry_found v (normal_of origin.leaf origin.sign) rooted.image origin.map.entries rooted.leads one c

pub args_at : (os : List Origin) (origin : Origin) → IsRooted os origin → (one : SkEntry) → Contains origin.map.entries one → args_for origin.map.entries one.ex ≡ one.args
args_at os origin rooted one c =
    entry_args (find (λ x. nat_eq x.ex one.ex) origin.map.entries) one.symbol one.args (sym (skolem_found Var origin.map.entries one.ex) ∙ skolem_at os origin rooted Var one c)

-- ---- a mention comes before

depth_first : (os : List Origin) (s t : Term) → term_depth_of s < term_depth_of t → is_lt (skolem_order os s t) ≡ true
depth_first os s t h =
    let e : nat_cmp (term_depth_of s) (term_depth_of t) ≡ Less = grind (arith, h) in
    ap (λ o. is_lt (ordering_then o (ordering_then (nat_cmp (rank os s) (rank os t)) (order_of s t)))) e

rank_next : (os : List Origin) (s t : Term) → term_depth_of s ≡ term_depth_of t → rank os s < rank os t → is_lt (skolem_order os s t) ≡ true
rank_next os s t d h =
    let e : nat_cmp (term_depth_of s) (term_depth_of t) ≡ Equal = grind (arith, d) in
    let f : nat_cmp (rank os s) (rank os t) ≡ Less = grind (arith, h) in
    ap₂ (λ o p. is_lt (ordering_then o (ordering_then p (order_of s t)))) e f

no_deeper : (os : List Origin) (s t : Term) → term_depth_of s ≤ term_depth_of t → rank os s < rank os t → is_lt (skolem_order os s t) ≡ true
no_deeper os s t d h = elim (cases_Bool (nat_lt (term_depth_of s) (term_depth_of t))) [
  | inl p ↦ depth_first os s t (let l : term_depth_of s < term_depth_of t = grind (arith, p) in l)
  | inr p ↦ rank_next os s t (let g : term_depth_of t ≤ term_depth_of s = grind (arith, p) in omega (arith, g, d)) h
]

true_false : true ≡ false → ⊥
true_false e = cc

module _ (os : List Origin) (rooted : AreRooted os) where
  any_is_none : is_skolem os Any ≡ false
  any_is_none = search (rules, of_terms)

  pub origin_App : (f : SymKey) (args : List Term) → origin_of_term os (App f args) ≡ origin_for os f
  origin_App f args = search (rules, of_terms)

  pub rooted_of : (t : Term) (origin : Origin) → origin_of_term os t ≡ Some origin → IsRooted os origin
  rooted_of = term_induction (λ t. (origin : Origin) → origin_of_term os t ≡ Some origin → IsRooted os origin)
      (λ n origin h. absurd (let e : origin_of_term os (Var n) ≡ None = search (rules, of_terms) in let z : None ≡ Some origin = sym e ∙ h in cc))
      (λ f args each origin h. rooted f origin (sym (origin_App f args) ∙ h))
      (λ origin h. absurd (let e : origin_of_term os Any ≡ None = search (rules, of_terms) in let z : None ≡ Some origin = sym e ∙ h in cc))

  no_any : (s u : Term) → IsTrue (is_skolem os s) → IsPart s u → u ≡ Any → ⊥
  no_any s u k p e = true_false (sym k ∙ ap (is_skolem os) (part_any p e) ∙ any_is_none)

  module _ (t s : Term) (sized : IsSized os t) (skolem : IsTrue (is_skolem os s)) (put : IsPut os t s) where
    own_args : args_for put.origin.map.entries put.origin.ex ≡ (rooted_of t put.origin put.listed).args
    own_args = args_at os put.origin (rooted_of t put.origin put.listed) (entry put.origin.ex put.origin.symbol (rooted_of t put.origin put.listed).args) (rooted_of t put.origin put.listed).own

    abbrev Placed : Spot → Type 0
    Placed x = Stands (signed_form put.origin.leaf put.origin.sign) [] 0 0 put.origin.ex x × Covered put.origin.map.entries (rooted_of t put.origin put.listed).args x

    placed : Placed put.spot
    placed =
        let root = rooted_of t put.origin put.listed in
        let w = entry_spot (drops_formula put.origin.leaf put.origin.sign) (labelled_formula put.origin.leaf put.origin.sign) root.leads put.origin.map.entries (λ x i. i) [] (top_links put.origin.map.entries)
        (entry put.origin.ex put.origin.symbol root.args) root.own in
        subst Placed (some_same w.0 put.spot (sym (stands_found w.1) ∙ put.there)) (w.1, w.2)
      where
        some_same : (x y : Spot) → Some x ≡ Some y → x ≡ y
        some_same x y h = cc

    one_in : (n : ℕ) → has_number (rooted_of t put.origin put.listed).args n ≡ true → Contains (args_of t) (universals_by put.origin (args_of t) n)
    one_in n h =
        assigned_one (args_for put.origin.map.entries put.origin.ex) (args_of t) n (sized put.origin put.listed) (subst (λ l. has_number l n ≡ true) (sym own_args) h)

    -- the Skolem term of an existential around is no deeper, and its rank is smaller
    above : (k e : ℕ) → IsAt put.spot.around k (Existential e) → (symbol : SymKey) (numbers : List ℕ) → Contains put.origin.map.entries (entry e symbol numbers)
        → ((n : ℕ) → has_number numbers n ≡ true → has_number (rooted_of t put.origin put.listed).args n ≡ true)
        → is_lt (skolem_order os (App symbol (map (universals_by put.origin (args_of t)) numbers)) t) ≡ true
    above k e at symbol numbers c covered =
        no_deeper os u t shallow (subst (λ i. i < rank os t) (sym rank_u) (subst (λ i. many out.0.around < i) (sym rank_t) out.2))
      where
        u : Term
        u = App symbol (map (universals_by put.origin (args_of t)) numbers)

        shallow : term_depth_of (App symbol (map (universals_by put.origin (args_of t)) numbers)) ≤ term_depth_of t
        shallow =
            let g : 1 + greatest (map term_depth_of (map (universals_by put.origin (args_of t)) numbers)) ≤ term_depth_of t =
            greatest_least (map (universals_by put.origin (args_of t)) numbers) (term_depth_of t)
            (λ arg i. let w = mapped (universals_by put.origin (args_of t)) numbers arg i in subst (λ x. term_depth_of x < term_depth_of t) (sym w.2)
            (argument_depth t (universals_by put.origin (args_of t) w.0) (one_in w.0 (covered w.0 w.1)))) (depth_some t) in
            let d = depth-App symbol (map (universals_by put.origin (args_of t)) numbers) in omega (arith, g, d)

        out : (y : Spot) × Stands (signed_form put.origin.leaf put.origin.sign) [] 0 0 e y × (many y.around < many put.spot.around)
        out = ⊎_elim (λ l. l) (λ n. absurd n.1) (outer placed.0 k e at)

        other : (q : Origin) × (origin_for os symbol ≡ Some q) × (q.leaf ≡ put.origin.leaf) × (q.sign ≡ put.origin.sign) × (q.ex ≡ e) × Contains q.map.entries (entry e symbol numbers)
        other = (rooted_of t put.origin put.listed).others (entry e symbol numbers) c

        spot_there : spot_of other.0 ≡ Some out.0
        spot_there =
            ap (λ f. found (signed_form f other.0.sign) [] 0 0 other.0.ex) other.2 ∙ ap (λ b. found (signed_form put.origin.leaf b) [] 0 0 other.0.ex) other.3
            ∙ ap (λ i. found (signed_form put.origin.leaf put.origin.sign) [] 0 0 i) other.4 ∙ stands_found out.1

        rank_u : rank os (App symbol (map (universals_by put.origin (args_of t)) numbers)) ≡ many out.0.around
        rank_u = ap rank_from (origin_App symbol (map (universals_by put.origin (args_of t)) numbers) ∙ other.1) ∙ ap rank_at spot_there

        rank_t : rank os t ≡ many put.spot.around
        rank_t = ap rank_from put.listed ∙ ap rank_at put.there

    put_precedes : is_lt (skolem_order os s t) ≡ true
    put_precedes =
        ⊎_elim (λ e. absurd (no_any s (get_or (map w put.spot.around) put.variable Any) skolem put.part e))
        (λ x. by_around x.0 x.1 x.2 (placed.1 put.variable x.0 put.free x.1)) (place_at w put.spot.around put.variable)
      where
        w : Around → Term
        w = value (universals_by put.origin (args_of t)) put.origin.map.entries

        inside : (arg : Term) → Contains (args_of t) arg → IsPart s arg → is_lt (skolem_order os s t) ≡ true
        inside arg one p = depth_first os s t (inside_depth s t (record { argument = arg; one = one; part = p }))

        by_part : (symbol : SymKey) (numbers : List ℕ) → ((n : ℕ) → has_number numbers n ≡ true → has_number (rooted_of t put.origin put.listed).args n ≡ true)
            → is_lt (skolem_order os (App symbol (map (universals_by put.origin (args_of t)) numbers)) t) ≡ true
            → {u : Term} → IsPart s u → u ≡ App symbol (map (universals_by put.origin (args_of t)) numbers) → is_lt (skolem_order os s t) ≡ true
        by_part symbol numbers covered before itself q = subst (λ x. is_lt (skolem_order os x t) ≡ true) (sym q) before
        by_part symbol numbers covered before (in_argument f args arg one p) q =
            let e = App-injective f symbol args (map (universals_by put.origin (args_of t)) numbers) q in
            let m = mapped (universals_by put.origin (args_of t)) numbers arg (contains_same args (map (universals_by put.origin (args_of t)) numbers) arg e.1 one) in
            inside arg (subst (Contains (args_of t)) (sym m.2) (one_in m.0 (covered m.0 m.1))) p

        by_around : (a : Around) → IsAt put.spot.around put.variable a
            → get_or (map (value (universals_by put.origin (args_of t)) put.origin.map.entries) put.spot.around) put.variable Any ≡ value (universals_by put.origin (args_of t)) put.origin.map.entries a
            → Good put.origin.map.entries (rooted_of t put.origin put.listed).args a → is_lt (skolem_order os s t) ≡ true
        by_around (Universal n) at q g = inside (universals_by put.origin (args_of t) n) (one_in n g) (subst (IsPart s) q put.part)
        by_around (Existential e) at q g =
            by_part g.0 g.1 g.3 (above put.variable e at g.0 g.1 g.2 g.3) put.part
            (q ∙ skolem_at os put.origin (rooted_of t put.origin put.listed) (universals_by put.origin (args_of t)) (entry e g.0 g.1) g.2)
        by_around Vacant at q g = absurd (no_any s (get_or (map (value (universals_by put.origin (args_of t)) put.origin.map.entries) put.spot.around) put.variable Any) skolem put.part q)

  -- a Skolem term precedes each one that mentions it
  pub mention_precedes : (t s : Term) → IsSized os t → Mentions os t s → is_lt (skolem_order os s t) ≡ true
  mention_precedes t s sized m = ⊎_elim (λ i. depth_first os s t (inside_depth s t i)) (λ p. put_precedes t s sized m.0 p) m.1
