-- The symbols of needed terms are functions.
use Rattle.std.proofs.Common.{◌≡◌, ℕ, Bool, true, false, nat_eq, List, [], ◌∷◌, cond, length, map, Option, None, Some, refl, sym, ap, subst, ◌∙◌, ⊎_elim, rules}
use Rattle.std.specs.List.{Contains, find}
use Rattle.std.specs.Prelude.{IsTrue, is_some}
use Rattle.std.proofs.lemmas.Bool.{and_parts}
use Rattle.dk_syntax.proofs.ListLaws.{each_true}
use Rattle.dk_syntax.proofs.SymbolLaws.{symbols_same}
use Rattle.dk_syntax.proofs.TermLaws.{App-injective, App-not-Any}
use Rattle.dk_syntax.proofs.WellFormedLaws.{well_formed-App}
use Rattle.dk_syntax.specs.Symbols.{same_kind, same_symbol}
use Rattle.dk_syntax.specs.WellFormed.{all_true, fits_symbol, well_formed_term}
use Rattle.dk_syntax.specs.declared.Kind.{Kind}
use Rattle.dk_syntax.specs.declared.Kind.TheVariants.{Function, Predicate}
use Rattle.dk_syntax.specs.declared.SymKey.{SymKey}
use Rattle.dk_syntax.specs.declared.Term.{Any, App, Term, the_lemmas as of_terms}
use Rattle.skolem_order.proofs.GroundLaws.{assigned_is}
use Rattle.skolem_order.proofs.ListFacts.{contains_first, contains_rest, contains_same, for_each_at, map_contains}
use Rattle.skolem_order.proofs.OrderLaws.{place_at, skolem_found, term_of_entry}
use Rattle.skolem_order.proofs.PartLaws.{inside_part, part_any, part_trans}
use Rattle.skolem_order.proofs.TermOrders.{HasFunctions}
use Rattle.skolem_order.specs.Order.{IsPart, IsPut, Needed, in_argument, in_root, itself, mentioned}
use Rattle.skolem_order.specs.Origins.{args_for, args_of, is_skolem, origin_for, universals_by, value}
use Rattle.skolem_order.specs.Rooted.{HaveFunctions}
use Rattle.skolem_order.specs.declared.origins.Origin.{Origin}
use Rattle.skolem_order.specs.declared.walk.Around.{Around}
use Rattle.skolem_order.specs.declared.walk.Around.TheVariants.{Existential, Universal, Vacant}
use Rattle.step_skolem.specs.declared.SkEntry.{SkEntry}

-- ---- terms whose symbols are functions

part_functions : {s t : Term} → IsPart s t → HasFunctions t → HasFunctions s
part_functions p h f args q = h f args (part_trans q p)

any_functions : HasFunctions Any
any_functions f args p = absurd (App-not-Any f args (part_any p refl))

app_functions : (symbol : SymKey) (args : List Term) → symbol.kind ≡ Function → ((arg : Term) → Contains args arg → HasFunctions arg) → HasFunctions (App symbol args)
app_functions symbol args k h f inner p = by_part p refl
  where
    by_part : {u : Term} → IsPart (App f inner) u → u ≡ App symbol args → f.kind ≡ Function
    by_part itself q = ap (λ (x : SymKey). x.kind) (App-injective f symbol inner args q).0 ∙ k
    by_part (in_argument g others arg one r) q = h arg (contains_same others args arg (App-injective g symbol others args q).1 one) f inner r

-- ---- well-formed terms

is_function : (k : Kind) → same_kind k Function ≡ true → k ≡ Function
is_function Function e = refl
is_function Predicate e = absurd cc

well_formed_argument : (f : SymKey) (args : List Term) (arg : Term) → IsTrue (well_formed_term (App f args)) → Contains args arg → IsTrue (well_formed_term arg)
well_formed_argument f args arg h c =
    let both = and_parts (fits_symbol Function f (length args)) (all_true (map well_formed_term args)) (sym (well_formed-App f args) ∙ h) in
    for_each_at (λ t. well_formed_term t ≡ true) args arg (each_true well_formed_term args both.1) c

well_formed_head : (f : SymKey) (args : List Term) → IsTrue (well_formed_term (App f args)) → f.kind ≡ Function
well_formed_head f args h =
    let both = and_parts (fits_symbol Function f (length args)) (all_true (map well_formed_term args)) (sym (well_formed-App f args) ∙ h) in
    let fits = and_parts (same_kind f.kind Function) (nat_eq f.arity (length args)) both.0 in
    is_function f.kind fits.0

well_formed_part : {s t : Term} → IsPart s t → IsTrue (well_formed_term t) → IsTrue (well_formed_term s)
well_formed_part itself h = h
well_formed_part (in_argument f args arg one p) h = well_formed_part p (well_formed_argument f args arg h one)

well_formed_functions : (t : Term) → IsTrue (well_formed_term t) → HasFunctions t
well_formed_functions t h f args p = well_formed_head f args (well_formed_part p h)

-- ---- heads of Skolem terms

pub found_in : {A : Type 0} (p : A → Bool) (xs : List A) (x : A) → find p xs ≡ Some x → Contains xs x × (p x ≡ true)
found_in {A} p [] x e = absurd (none_some e)
  where
    none_some : {B : Type 0} {y : B} → None ≡ Some y → ⊥
    none_some z = cc
found_in {A} p (a ∷ xs) x e = by_test (p a) refl (λ z. found_in p xs x z) e
  where
    some_same : {B : Type 0} (y z : B) → Some y ≡ Some z → y ≡ z
    some_same y z h = cc

    by_test : (b : Bool) → p a ≡ b → (find p xs ≡ Some x → Contains xs x × (p x ≡ true)) → cond b (Some a) (find p xs) ≡ Some x → Contains (a ∷ xs) x × (p x ≡ true)
    by_test true h again z = let q = some_same a x z in (subst (Contains (a ∷ xs)) q (contains_first a xs), ap p (sym q) ∙ h)
    by_test false h again z = let r = again z in (contains_rest a xs x r.0, r.1)

module _ (os : List Origin) (functions : HaveFunctions os) where
  head_function : (f : SymKey) (args : List Term) → IsTrue (is_skolem os (App f args)) → f.kind ≡ Function
  head_function f args k = by_origin (origin_for os f) refl (sym known ∙ k)
    where
      known : is_skolem os (App f args) ≡ is_some (origin_for os f)
      known = search (rules, of_terms)

      by_origin : (o : Option Origin) → origin_for os f ≡ o → is_some o ≡ true → f.kind ≡ Function
      by_origin None e h = absurd cc
      by_origin (Some origin) e h =
          let r = found_in (λ (x : Origin). same_symbol x.symbol f) os origin e in
          ap (λ (x : SymKey). x.kind) (sym (symbols_same origin.symbol f r.1)) ∙ functions origin r.0

  -- ---- needed terms

  module _ (t s : Term) (whole : HasFunctions t) (skolem : IsTrue (is_skolem os s)) (put : IsPut os t s) where
    value_functions : (n : ℕ) → HasFunctions (universals_by put.origin (args_of t) n)
    value_functions n =
        let v = universals_by put.origin (args_of t) n in
        ⊎_elim (λ c. part_functions (inside_part t v (record { argument = v; one = c; part = itself })) whole)
        (λ e. subst HasFunctions (sym e) any_functions) (assigned_is (args_for put.origin.map.entries put.origin.ex) (args_of t) n)

    in_any : {u : Term} → IsPart s u → u ≡ Any → HasFunctions s
    in_any p e = subst HasFunctions (sym (part_any p e)) any_functions

    by_part : (symbol : SymKey) (numbers : List ℕ) → {u : Term} → IsPart s u → u ≡ App symbol (map (universals_by put.origin (args_of t)) numbers) → HasFunctions s
    by_part symbol numbers itself q =
        subst HasFunctions (sym q) (app_functions symbol (map (universals_by put.origin (args_of t)) numbers)
        (head_function symbol (map (universals_by put.origin (args_of t)) numbers) (subst (λ x. IsTrue (is_skolem os x)) q skolem))
        (λ arg c. let m = map_contains (universals_by put.origin (args_of t)) numbers arg c in subst HasFunctions (sym m.2) (value_functions m.0)))
    by_part symbol numbers (in_argument f args arg one p) q =
        let e = App-injective f symbol args (map (universals_by put.origin (args_of t)) numbers) q in
        let m = map_contains (universals_by put.origin (args_of t)) numbers arg (contains_same args (map (universals_by put.origin (args_of t)) numbers) arg e.1 one) in
        part_functions p (subst HasFunctions (sym m.2) (value_functions m.0))

    by_entry : (o : Option SkEntry) → {u : Term} → IsPart s u → u ≡ term_of_entry (universals_by put.origin (args_of t)) o → HasFunctions s
    by_entry None p q = in_any p q
    by_entry (Some one) p q = by_part one.symbol one.args p q

    by_around : (a : Around) → {u : Term} → IsPart s u → u ≡ value (universals_by put.origin (args_of t)) put.origin.map.entries a → HasFunctions s
    by_around (Universal n) p q = part_functions (subst (IsPart s) q p) (value_functions n)
    by_around (Existential e) p q =
        by_entry (find (λ one. nat_eq one.ex e) put.origin.map.entries) p (q ∙ skolem_found (universals_by put.origin (args_of t)) put.origin.map.entries e)
    by_around Vacant p q = in_any p q

    put_functions : HasFunctions s
    put_functions =
        ⊎_elim (λ e. in_any put.part e) (λ x. by_around x.0 put.part x.2)
        (place_at (value (universals_by put.origin (args_of t)) put.origin.map.entries) put.spot.around put.variable)

  pub needed_functions : (roots : List Term) → ((t : Term) → Contains roots t → IsTrue (well_formed_term t)) → {s : Term} → Needed os roots s → HasFunctions s
  needed_functions roots h (in_root s t one p k) = part_functions p (well_formed_functions t (h t one))
  needed_functions roots h (mentioned s t n m) =
      let whole = needed_functions roots h n in
      ⊎_elim (λ i. part_functions (inside_part t s i) whole) (λ put. put_functions t s whole m.0 put) m.1
