-- The eigenvariables of needed Skolem terms are in turn.
use Rattle.std.proofs.Common.{◌≡◌, ◌<◌, ℕ, zero, suc, Bool, true, false, List, [], ◌∷◌, ◌++◌, cond, get_or, map, length, Option, None, Some, refl, sym, ap, ap₂, subst, ◌∙◌, inr, arith}
use Rattle.std.specs.Prelude.{IsTrue, is_some}
use Rattle.std.specs.List.{Contains, list_any}
use Rattle.assemble.specs.Fitting.{eigenvariable_at, eigenvariable_from, eigenvariable_of, eigenvariables_of, output_of, symbols_of}
use Rattle.assemble.specs.Origins.{Among, InTurn, among_applied, among_eigenvariable, among_symbol}
use Rattle.assemble.specs.Problem.{problem_signature}
use Rattle.dk_syntax.proofs.ListLaws.{ForEach}
use Rattle.dk_syntax.proofs.TermLaws.{term_induction}
use Rattle.dk_syntax.specs.Lists.{Entry, Every, entry_here, entry_later, every_cons, every_nil}
use Rattle.dk_syntax.specs.Symbols.{same_symbol}
use Rattle.dk_syntax.specs.WellFormed.{well_formed_term}
use Rattle.dk_syntax.specs.declared.Problem.{Problem}
use Rattle.dk_syntax.specs.declared.symbol.SymKey.{SymKey}
use Rattle.dk_syntax.specs.declared.term.Term.{Any, App, Term}
use Rattle.expansion.specs.Rows.{term_at}
use Rattle.lp_term.specs.Connectives.{individuals}
use Rattle.lp_term.specs.Identifiers.{identifier_of}
use Rattle.lp_term.specs.Names.{any_name}
use Rattle.lp_term.specs.Typing.{Declaration}
use Rattle.nd_term.proofs.OutputSteps.{output-Any, output-Var, output_plain, output_skolem}
use Rattle.nd_term.specs.Eigenvariables.{Eigenvariable}
use Rattle.nd_term.specs.Formulas.{GroundTerm, eigenvariable, ground_applied, ground_symbol}
use Rattle.nd_term.specs.Outputs.{ground_applied_each, output, place_of}
use Rattle.nd_term.specs.Symbols.{FormulaOver, GroundOver, over_falsity}
use Rattle.nd_term.specs.Views.{theory_formula}
use Rattle.normal_form.specs.Occurrence.{in_formula}
use Rattle.plan.specs.Origins.{AreFit}
use Rattle.plan_symbols.specs.Over.{IsTermOver, known_symbols}
use Rattle.plan_typing.proofs.GroundLaws.{any_ground, term_ground}
use Rattle.plan_typing.proofs.NeededTerms.{around_over, have_functions, needed_over, over_sized}
use Rattle.plan_typing.proofs.Places.{earlier_place, placed}
use Rattle.plan_typing.proofs.SpotBodies.{spot_bodies}
use Rattle.plan_typing.proofs.TermParts.{of_origin, origin_App, origin_listed}
use Rattle.skolem_order.specs.Order.{AreNeeded, IsPart, Mentions, Needed, in_argument, itself, mentioned}
use Rattle.skolem_order.specs.Origins.{args_of, is_skolem, origin_of_term, spot_of, terms_around}
use Rattle.skolem_order.specs.Rooted.{AreRooted, HaveFunctions, IsSized}
use Rattle.skolem_order.specs.Spots.{Spot}
use Rattle.skolem_order.specs.declared.origins.Origin.{Origin}

-- ---- lists

-- the list is in three parts, of which the middle one is one element
record IsSplit {A : Type 0} (f : Term → A) (list : List Term) (front : List A) (o : A) : Type 0 where
  before : List Term
  one : Term
  after : List Term
  is : list ≡ before ++ one ∷ after
  first : front ≡ map f before
  middle : o ≡ f one

split_more : {A : Type 0} (f : Term → A) (t : Term) (list : List Term) (a : A) (front : List A) (o : A) → a ≡ f t → IsSplit f list front o → IsSplit f (t ∷ list) (a ∷ front) o
split_more f t list a front o here r = record {
  before = t ∷ r.before;
  one = r.one;
  after = r.after;
  is = ap (λ l. t ∷ l) r.is;
  first = ap₂ (λ x l. x ∷ l) here r.first;
  middle = r.middle;
}

split : {A : Type 0} (f : Term → A) (list : List Term) (front back : List A) (o : A) → map f list ≡ front ++ o ∷ back → IsSplit f list front o
split f [] [] back o e = absurd cc
split f [] (a ∷ front) back o e = absurd cc
split f (t ∷ list) [] back o e = record { before = []; one = t; after = list; is = refl; first = refl; middle = cc }
split f (t ∷ list) (a ∷ front) back o e = split_more f t list a front o (cc) (split f list front back o (cc))

first_same : {A : Type 0} {l : List A} {a b : A} → Entry (b ∷ l) zero a → b ≡ a
first_same (entry_here _ _) = refl

later_same : {A : Type 0} {l : List A} {k : ℕ} {a b : A} → Entry (b ∷ l) (suc k) a → Entry l k a
later_same (entry_later _ h) = h

entry_front : {A : Type 0} (front rest : List A) (k : ℕ) (a : A) → Entry (front ++ rest) k a → k < length front → Entry front k a
entry_front [] rest k a i below = absurd (omega (arith, below))
entry_front (b ∷ front) rest zero a i below = subst (Entry (b ∷ front) 0) (first_same i) (entry_here b front)
entry_front (b ∷ front) rest (suc k) a i below = entry_later b (entry_front front rest k a (later_same i) (omega (arith, below)))

entry_map : {A B : Type 0} (f : A → B) {l : List A} {k : ℕ} {a : A} → Entry l k a → Entry (map f l) k (f a)
entry_map f (entry_here a l) = entry_here (f a) (map f l)
entry_map f (entry_later b i) = entry_later (f b) (entry_map f i)

middle_at : (before after : List Term) (t d : Term) → get_or (before ++ t ∷ after) (length before) d ≡ t
middle_at [] after t d = refl
middle_at (u ∷ before) after t d = middle_at before after t d

middle_below : (before after : List Term) (t : Term) → length before < length (before ++ t ∷ after)
middle_below [] after t = omega arith
middle_below (u ∷ before) after t = let h = middle_below before after t in omega (arith, h)

mapped : {A B : Type 0} (P : B → Type 0) (f : A → B) (l : List A) → ((a : A) → Contains l a → P (f a)) → Every P (map f l)
mapped P f [] h = every_nil
mapped P f (a ∷ l) h = every_cons (h a (0, omega arith, refl)) (mapped P f l (λ b c. h b (suc c.0, omega (arith, c.1), c.2)))

module _ (problem : Problem) (origins : List Origin) (roots order : List Term) (rooted : AreRooted origins) (fit : AreFit origins)
    (roots_over : (t : Term) → Contains roots t → IsTermOver (known_symbols problem origins) t) (needed : AreNeeded origins roots order) where
  abbrev sig : List Declaration
  sig = problem_signature problem.symbols

  abbrev Over : Term → Type 0
  Over t = IsTermOver (known_symbols problem origins) t

  functions : HaveFunctions origins
  functions = have_functions problem origins rooted fit

  formed : (t : Term) → Contains roots t → IsTrue (well_formed_term t)
  formed t c = (roots_over t c).formed

  over : {t : Term} → Needed origins roots t → Over t
  over n = needed_over problem origins rooted fit roots roots_over n

  sized : (t : Term) → Needed origins roots t → IsSized origins t
  sized t n = over_sized problem origins rooted fit t (over n)

  -- each needed term stands at its place in the order
  pub needed_placed : (t : Term) → Needed origins roots t → Entry order (place_of order t) t
  needed_placed t n = placed origins roots order functions formed needed t n

  -- ---- what is put is earlier

  module _ (before after : List Term) (t : Term) (is : order ≡ before ++ t ∷ after) where
    abbrev front : List Eigenvariable
    front = map (eigenvariable_of origins order) before

    below : length before < length order
    below = subst (λ l. length before < length l) (sym is) (middle_below before after t)

    here : term_at order (length before) ≡ t
    here = ap (λ l. get_or l (length before) Any) is ∙ middle_at before after t Any

    t_needed : Needed origins roots t
    t_needed = needed.needed t (length before, below, ap (λ l. get_or l (length before) t) is ∙ middle_at before after t t)

    mention_among : (s : Term) → Mentions origins t s → Among front (eigenvariable (place_of order s))
    mention_among s m =
        let entry = subst (λ l. Entry l (place_of order s) s) is (needed_placed s (mentioned s t t_needed m)) in
        let less = earlier_place origins roots order functions formed needed rooted sized t s (length before) below here m in
        among_eigenvariable (entry_map (eigenvariable_of origins order) (entry_front before (t ∷ after) (place_of order s) s entry less))

    -- each Skolem term in the term is mentioned
    abbrev AreMentioned : Term → Type 0
    AreMentioned u = (s : Term) → IsPart s u → IsTrue (is_skolem origins s) → Mentions origins t s

    abbrev IsAmong : Term → Type 0
    IsAmong u = AreMentioned u → Among front (output_of origins order u)

    each_among : (args : List Term) (h : GroundTerm) → ForEach IsAmong args → ((arg : Term) → Contains args arg → AreMentioned arg) → Among front h
        → Among front (ground_applied_each h (map (output (symbols_of origins) order) args))
    each_among [] h known mention among = among
    each_among (a ∷ rest) h known mention among =
        each_among rest (ground_applied h (output_of origins order a)) known.1 (λ arg c. mention arg (suc c.0, omega (arith, c.1), c.2))
        (among_applied among (known.0 (mention a (0, omega arith, refl))))

    application_among : (f : SymKey) (args : List Term) → ForEach IsAmong args → IsAmong (App f args)
    application_among f args known mention = by_test (list_any (same_symbol f) (symbols_of origins)) refl
      where
        skolem : list_any (same_symbol f) (symbols_of origins) ≡ true → IsTrue (is_skolem origins (App f args))
        skolem e = let r = origin_listed origins f e in ap is_some (origin_App origins f args ∙ r.1)

        by_test : (b : Bool) → list_any (same_symbol f) (symbols_of origins) ≡ b → Among front (output_of origins order (App f args))
        by_test true e =
            subst (Among front) (sym (output_skolem (symbols_of origins) order (App f args) f args refl e))
            (mention_among (App f args) (mention (App f args) itself (skolem e)))
        by_test false e =
            subst (Among front) (sym (output_plain (symbols_of origins) order (App f args) f args refl e))
            (each_among args (ground_symbol (identifier_of f)) known (λ arg c s p k. mention s (in_argument f args arg c p) k) (among_symbol (identifier_of f)))

    term_among : (u : Term) → IsAmong u
    term_among =
        term_induction
        IsAmong
        (λ n mention. subst (Among front) (sym (output-Var (symbols_of origins) order n)) (among_symbol any_name))
        application_among
        (λ mention. subst (Among front) (sym (output-Any (symbols_of origins) order)) (among_symbol any_name))

    puts_among : (n : ℕ) → Among front ((eigenvariable_of origins order t).puts n)
    puts_among n = by_origin (origin_of_term origins t) refl
      where
        by_free : (o : Origin) (x : Spot) (b : Bool) → origin_of_term origins t ≡ Some o → spot_of o ≡ Some x → in_formula x.formula n ≡ b
            → Among front (cond b (output_of origins order (term_at (terms_around o x.around (args_of t)) n)) (ground_symbol any_name))
        by_free o x true e there free =
            term_among (term_at (terms_around o x.around (args_of t)) n)
            (λ s p k. (k, inr (record { origin = o; listed = e; spot = x; there = there; variable = n; free = free; part = p })))
        by_free o x false e there free = among_symbol any_name

        by_spot : (o : Origin) → origin_of_term origins t ≡ Some o → (x : Option Spot) → spot_of o ≡ x
            → Among front ((eigenvariable_at origins order (args_of t) o x).puts n)
        by_spot o e None there = among_symbol any_name
        by_spot o e (Some x) there = by_free o x (in_formula x.formula n) e there refl

        by_origin : (o : Option Origin) → origin_of_term origins t ≡ o → Among front ((eigenvariable_from origins order (args_of t) o).puts n)
        by_origin None e = among_symbol any_name
        by_origin (Some o) e = by_spot o e (spot_of o) refl

  earlier : (front back : List Eigenvariable) (o : Eigenvariable) → eigenvariables_of origins order ≡ front ++ o ∷ back → (n : ℕ) → Among front (o.puts n)
  earlier front back o e n =
      let r = split (eigenvariable_of origins order) order front back o e in
      subst (λ l. Among l (o.puts n)) (sym r.first)
      (subst (λ (x : Eigenvariable). Among (map (eigenvariable_of origins order) r.before) (x.puts n)) (sym r.middle) (puts_among r.before r.after r.one r.is n))

  -- ---- what is put is over the signature

  puts_ground : (t : Term) → Over t → (n : ℕ) → GroundOver sig individuals 0 ((eigenvariable_of origins order t).puts n)
  puts_ground t ok n = by_origin (origin_of_term origins t) refl
    where
      by_free : (o : Origin) (x : Spot) (b : Bool) → origin_of_term origins t ≡ Some o
          → GroundOver sig individuals 0 (cond b (output_of origins order (term_at (terms_around o x.around (args_of t)) n)) (ground_symbol any_name))
      by_free o x true e =
          term_ground problem origins order (term_at (terms_around o x.around (args_of t)) n) (around_over problem origins rooted fit t ok o e x.around n)
      by_free o x false e = any_ground problem origins order

      by_spot : (o : Origin) → origin_of_term origins t ≡ Some o → (x : Option Spot) → GroundOver sig individuals 0 ((eigenvariable_at origins order (args_of t) o x).puts n)
      by_spot o e None = any_ground problem origins order
      by_spot o e (Some x) = by_free o x (in_formula x.formula n) e

      by_origin : (o : Option Origin) → origin_of_term origins t ≡ o → GroundOver sig individuals 0 ((eigenvariable_from origins order (args_of t) o).puts n)
      by_origin None e = any_ground problem origins order
      by_origin (Some o) e = by_spot o e (spot_of o)

  -- ---- the bodies

  body_over : ((o : Origin) → Contains origins o → FormulaOver sig (theory_formula o.leaf)) → (t : Term) → FormulaOver sig (eigenvariable_of origins order t).body
  body_over leaves t = by_origin (origin_of_term origins t) refl
    where
      by_spot : (o : Origin) → Contains origins o → (x : Option Spot) → spot_of o ≡ x → FormulaOver sig (eigenvariable_at origins order (args_of t) o x).body
      by_spot o c None there = over_falsity
      by_spot o c (Some x) there = spot_bodies sig o.leaf (leaves o c) o.sign [] 0 0 o.ex x there

      by_origin : (o : Option Origin) → origin_of_term origins t ≡ o → FormulaOver sig (eigenvariable_from origins order (args_of t) o).body
      by_origin None e = over_falsity
      by_origin (Some o) e = by_spot o (of_origin origins t o e).listed (spot_of o) refl

  -- the eigenvariables of the needed terms are in turn, where the leaves of origins are over the signature
  pub in_turn : ((o : Origin) → Contains origins o → FormulaOver sig (theory_formula o.leaf)) → InTurn sig (eigenvariables_of origins order)
  in_turn leaves = record {
    earlier = earlier;
    grounds = mapped (λ (o : Eigenvariable). (n : ℕ) → GroundOver sig individuals 0 (o.puts n)) (eigenvariable_of origins order) order (λ t c. puts_ground t (over (needed.needed t c)));
    bodies = mapped (λ (o : Eigenvariable). FormulaOver sig o.body) (eigenvariable_of origins order) order (λ t c. body_over leaves t);
  }
