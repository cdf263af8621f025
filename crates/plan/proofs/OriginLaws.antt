-- The origins of a right trace are what the order of Skolem terms rests on.
use Rattle.std.proofs.Common.{◌≡◌, ◌<◌, ◌≤◌, ℕ, zero, suc, ◌+◌, Bool, true, false, List, [], ◌∷◌, ◌++◌, map, cond, Some, None, slice_get, refl, sym, ap, ap₂, ◌∙◌, subst, inl, inr, arith}
use Rattle.std.specs.List.{Contains}
use Rattle.std.proofs.lemmas.Option.{same_Some}
use Rattle.derivation_graph.specs.Graphs.{HasNoCycle}
use Rattle.dk_syntax.specs.Problems.{formulas_of, HasItsSymbols}
use Rattle.dk_syntax.proofs.SymbolLaws.{symbols_same}
use Rattle.dk_syntax.specs.Symbols.{first_symbols, same_symbol}
use Rattle.dk_syntax.specs.declared.formula.Formula.{Formula}
use Rattle.dk_syntax.specs.declared.symbol.SymKey.{SymKey}
use Rattle.ground_instances.proofs.StandsLaws.{judged_of}
use Rattle.ground_instances.specs.Keys.{Has, Judged, verdict_in}
use Rattle.normal_form.specs.Normal.{normal_of}
use Rattle.normal_form.specs.declared.form.Nf.{Nf}
use Rattle.plan.proofs.Counts.{count, counted, itself, only_one, tick, tick_itself}
use Rattle.plan.proofs.LeafSymbols.{leaf_in_problem, symbol_known}
use Rattle.plan.proofs.Membership.{Among, among, among_either, among_left, among_right, contained}
use Rattle.plan.proofs.StepMaps.{map_one, once_in_all, sources_of, unknown_in_all, verdict_of}
use Rattle.plan.specs.Laws.{MapsAreSourced, OriginsAreRight}
use Rattle.plan.specs.Maps.{HasLeaf, IsMapOf, to_form, to_image}
use Rattle.plan.specs.Origins.{AreDistinct, AreNew, AreOrigins, AreOriginsFrom, AreOriginsOf, AreRight, IsOrigin}
use Rattle.skolem_order.specs.Meetings.{AreSourced}
use Rattle.skolem_order.specs.Origins.{origin_for}
use Rattle.skolem_order.specs.Rooted.{AreRooted, IsRooted}
use Rattle.skolem_order.specs.declared.origins.Origin.{Origin}
use Rattle.step_check.specs.Freshness.{AreVerdicts, introduced, introduced_by, IsFirstBad}
use Rattle.step_check.specs.Steps.{Case, stands_in}
use Rattle.step_check.specs.declared.verdict.Verdict.{Verdict}
use Rattle.step_skolem.specs.Images.{entry, IsImage}
use Rattle.step_skolem.specs.declared.map.SkEntry.{SkEntry}

-- ---- origins and steps

abbrev symbols_of : List Origin → List SymKey
symbols_of origins = map (λ origin. origin.symbol) origins

module _ (judged : Judged) where
  of_step : (i : ℕ) (symbols : List SymKey) (here : List Origin) → AreOriginsOf judged i symbols here → (o : Origin) → Among here o → (x : SymKey) × Among symbols x × IsOrigin judged i x o
  of_step i [] [] h o m = absurd m
  of_step i [] (p ∷ here) h o m = absurd h
  of_step i (s ∷ symbols) [] h o m = absurd h
  of_step i (s ∷ symbols) (p ∷ here) h o (inl e) = (s, inl refl, subst (λ y. IsOrigin judged i s y) e h.0)
  of_step i (s ∷ symbols) (p ∷ here) h o (inr m) = let r = of_step i symbols here h.1 o m in (r.0, inr r.1, r.2)

  to_step : (i : ℕ) (symbols : List SymKey) (here : List Origin) → AreOriginsOf judged i symbols here → (x : SymKey) → Among symbols x → (o : Origin) × Among here o × IsOrigin judged i x o
  to_step i [] [] h x m = absurd m
  to_step i [] (p ∷ here) h x m = absurd h
  to_step i (s ∷ symbols) [] h x m = absurd h
  to_step i (s ∷ symbols) (p ∷ here) h x (inl e) = (p, inl refl, subst (λ y. IsOrigin judged i y p) e h.0)
  to_step i (s ∷ symbols) (p ∷ here) h x (inr m) = let r = to_step i symbols here h.1 x m in (r.0, inr r.1, r.2)

  names_step : (i : ℕ) (symbols : List SymKey) (here : List Origin) → AreOriginsOf judged i symbols here → symbols_of here ≡ symbols
  names_step i [] [] h = refl
  names_step i [] (p ∷ here) h = absurd h
  names_step i (s ∷ symbols) [] h = absurd h
  names_step i (s ∷ symbols) (p ∷ here) h = ap₂ (λ a b. a ∷ b) h.0.named (names_step i symbols here h.1)

  names_joined : (a b : List Origin) → symbols_of (a ++ b) ≡ symbols_of a ++ symbols_of b
  names_joined [] b = refl
  names_joined (o ∷ a) b = ap (λ l. o.symbol ∷ l) (names_joined a b)

  names_from : (before : ℕ) (vs : List Verdict) (origins : List Origin) → AreOriginsFrom judged before vs origins → symbols_of origins ≡ introduced_by vs
  names_from before [] origins h = ap symbols_of h
  names_from before (v ∷ vs) origins (here, later, is, first, rest) =
      ap symbols_of is ∙ names_joined here later ∙ ap₂ (λ a b. a ++ b) (names_step (suc before) (introduced v) here first) (names_from (suc before) vs later rest)

  -- the step at that place after the first so many
  pub record IsOf (before : ℕ) (vs : List Verdict) (o : Origin) : Type 0 where
    pub place : ℕ
    pub verdict : Verdict
    pub at : slice_get vs place ≡ Some verdict
    pub number : ℕ
    pub is : number ≡ before + suc place
    pub symbol : SymKey
    pub puts : Among (introduced verdict) symbol
    pub origin : IsOrigin judged number symbol o

  of_later : (before : ℕ) (v : Verdict) (vs : List Verdict) (o : Origin) → IsOf (suc before) vs o → IsOf before (v ∷ vs) o
  of_later before v vs o r = record {
    place = suc r.place;
    verdict = r.verdict;
    at = r.at;
    number = r.number;
    is = omega (arith, r.is);
    symbol = r.symbol;
    puts = r.puts;
    origin = r.origin;
  }

  pub from_origin : (before : ℕ) (vs : List Verdict) (origins : List Origin) → AreOriginsFrom judged before vs origins → (o : Origin) → Among origins o → IsOf before vs o
  from_origin before [] origins h o m = absurd (subst (λ l. Among l o) h m)
  from_origin before (v ∷ vs) origins (here, later, is, first, rest) o m =
      elim (among_either here later o (subst (λ l. Among l o) is m)) [
        | inl l ↦ (let r = of_step (suc before) (introduced v) here first o l in
            record { place = zero; verdict = v; at = refl; number = suc before; is = omega arith; symbol = r.0; puts = r.1; origin = r.2 })
        | inr k ↦ of_later before v vs o (from_origin (suc before) vs later rest o k)
      ]

  to_origin : (before : ℕ) (vs : List Verdict) (origins : List Origin) → AreOriginsFrom judged before vs origins → (place : ℕ) (v : Verdict) → slice_get vs place ≡ Some v → (x : SymKey) → Among (introduced v) x
      → (o : Origin) × Among origins o × ((number : ℕ) × (number ≡ before + suc place) × IsOrigin judged number x o)
  to_origin before [] origins h place v at x m = absurd cc
  to_origin before (w ∷ vs) origins (here, later, is, first, rest) zero v at x m =
      let r = to_step (suc before) (introduced w) here first x (subst (λ y. Among (introduced y) x) (sym (same_Some w v at)) m) in
      (r.0, subst (λ l. Among l r.0) (sym is) (among_left here later r.0 r.1), (suc before, omega arith, r.2))
  to_origin before (w ∷ vs) origins (here, later, is, first, rest) (suc place) v at x m =
      let r = to_origin (suc before) vs later rest place v at x m in
      (r.0, subst (λ l. Among l r.0) (sym is) (among_right here later r.0 r.1), (r.2.0, omega (arith, r.2.1), r.2.2))

-- ---- no two origins have one symbol

origin_among : (l : List Origin) (o : Origin) → Among l o → Among (symbols_of l) o.symbol
origin_among [] o h = absurd h
origin_among (p ∷ l) o (inl e) = inl (ap (λ (x : Origin). x.symbol) e)
origin_among (p ∷ l) o (inr h) = inr (origin_among l o h)

origin_there : (l : List Origin) (k : ℕ) (o : Origin) → slice_get l k ≡ Some o → Among (symbols_of l) o.symbol
origin_there [] k o h = absurd cc
origin_there (p ∷ l) zero o h = inl (ap (λ (x : Origin). x.symbol) (same_Some p o h))
origin_there (p ∷ l) (suc k) o h = inr (origin_there l k o h)

twice : (p : Origin) (l : List Origin) (x : SymKey) → ((y : SymKey) → count y (symbols_of (p ∷ l)) ≤ 1) → p.symbol ≡ x → Among (symbols_of l) x → ⊥
twice p l x w e m = omega (arith, w x, tick_itself x p.symbol e, counted x (symbols_of l) m)

fewer : (a b : ℕ) → a + b ≤ 1 → b ≤ 1
fewer a b h = omega (arith, h)

distinct : (l : List Origin) → ((x : SymKey) → count x (symbols_of l) ≤ 1) → AreDistinct l
distinct [] w j k one other at there e = absurd cc
distinct (p ∷ l) w zero zero one other at there e = refl
distinct (p ∷ l) w zero (suc k) one other at there e =
    absurd (twice p l other.symbol w (ap (λ (x : Origin). x.symbol) (same_Some p one at) ∙ e) (origin_there l k other there))
distinct (p ∷ l) w (suc j) zero one other at there e =
    absurd (twice p l one.symbol w (ap (λ (x : Origin). x.symbol) (same_Some p other there) ∙ sym e) (origin_there l j one at))
distinct (p ∷ l) w (suc j) (suc k) one other at there e =
    ap suc (distinct l (λ x. fewer (tick (same_symbol x p.symbol)) (count x (symbols_of l)) (w x)) j k one other at there e)

-- ---- origins that are looked for

origin_found : (l : List Origin) → ((x : SymKey) → count x (symbols_of l) ≤ 1) → (q : Origin) → Among l q → origin_for l q.symbol ≡ Some q
origin_found [] w q h = absurd h
origin_found (p ∷ l) w q (inl e) =
    let test : same_symbol p.symbol q.symbol ≡ true = subst (λ (x : Origin). same_symbol p.symbol x.symbol ≡ true) e (itself p.symbol) in
    ap (λ b. cond b (Some p) (origin_for l q.symbol)) test ∙ ap Some e
origin_found (p ∷ l) w q (inr m) =
    by_test (same_symbol p.symbol q.symbol) refl (origin_found l (λ x. fewer (tick (same_symbol x p.symbol)) (count x (symbols_of l)) (w x)) q m)
  where
    by_test : (b : Bool) → same_symbol p.symbol q.symbol ≡ b → origin_for l q.symbol ≡ Some q → cond (same_symbol p.symbol q.symbol) (Some p) (origin_for l q.symbol) ≡ Some q
    by_test true e more = absurd (twice p l q.symbol w (symbols_same p.symbol q.symbol e) (origin_among l q m))
    by_test false e more = ap (λ b. cond b (Some p) (origin_for l q.symbol)) e ∙ more

found_origin : (l : List Origin) (x : SymKey) (o : Origin) → origin_for l x ≡ Some o → Among l o
found_origin [] x o h = absurd cc
found_origin (p ∷ l) x o h = by_test (same_symbol p.symbol x) h (λ k. found_origin l x o k)
  where
    by_test : (b : Bool) → cond b (Some p) (origin_for l x) ≡ Some o → (origin_for l x ≡ Some o → Among l o) → Among (p ∷ l) o
    by_test true k more = inl (same_Some p o k)
    by_test false k more = inr (more k)

-- ---- a right trace

module _ (case : Case) (list : List Verdict) (are : AreVerdicts case list) (right : IsFirstBad list None) (acyclic : HasNoCycle case.rows) (own : HasItsSymbols case.problem)
    (origins : List Origin) (os : AreOrigins (judged_of case list) origins) where
  image_of_map : {i : ℕ} {f : Formula} {s : Bool} {m : List SkEntry} → IsMapOf (judged_of case list) i f s m → (n : Nf) × IsImage (normal_of f s) m n
  image_of_map (to_form a) = (a.form, a.leads)
  image_of_map (to_image a) = (a.form, a.leads)

  has_at : (place number : ℕ) (v : Verdict) → slice_get list place ≡ Some v → number ≡ 0 + suc place → Has (judged_of case list) number v
  has_at place number v at is = let e : number ≡ suc place = omega (arith, is) in ap (verdict_in list) e ∙ at

  -- the origin of a symbol that a step introduces
  origin_at : (k : ℕ) (v : Verdict) → Has (judged_of case list) k v → (x : SymKey) → Among (introduced v) x → (o : Origin) × Among origins o × IsOrigin (judged_of case list) k x o
  origin_at zero v h x m = absurd cc
  origin_at (suc place) v h x m =
      let r = to_origin (judged_of case list) 0 list origins os place v h x m in
      let e : r.2.0 ≡ suc place = omega (arith, r.2.1) in
      (r.0, r.1, subst (λ n. IsOrigin (judged_of case list) n x r.0) e r.2.2)

  once_each : (x : SymKey) → count x (symbols_of origins) ≤ 1
  once_each x = subst (λ l. count x l ≤ 1) (sym (names_from (judged_of case list) 0 list origins os)) (once_in_all case list are right acyclic x)

  -- each entry of a map has its origin, whose map the map has
  pub sourced : {i : ℕ} {f : Formula} {s : Bool} {m : List SkEntry} → IsMapOf (judged_of case list) i f s m → AreSourced origins f s m
  sourced {m = m} maps one h =
      let sources = sources_of case list are right acyclic maps in
      let s = sources.each one (among m one h) in
      let q = origin_at s.0 s.2.verdict s.2.has one.symbol s.2.puts in
      let same = map_one case list are right acyclic s.2.maps q.2.maps in
      let there : Among q.0.map.entries one = subst (λ l. Among l one) same.entries s.2.there in
      let others = sources_of case list are right acyclic q.2.maps in
      let alike : entry q.0.ex one.symbol q.2.args ≡ one =
      only_one q.0.map.entries (entry q.0.ex one.symbol q.2.args) one others.once (among q.0.map.entries (entry q.0.ex one.symbol q.2.args) q.2.own) there refl in
      record {
        origin = q.0;
        listed = subst (λ x. origin_for origins x ≡ Some q.0) q.2.named (origin_found origins once_each q.0 q.1);
        same_leaf = sym same.formula;
        same_sign = sym same.sign;
        number = ap (λ (x : SkEntry). x.ex) alike;
        own = contained q.0.map.entries one there;
        gained = λ other c. contained m other (s.3 other (subst (λ l. Among l other) (sym same.entries) (among q.0.map.entries other c)));
      }

  -- so it is of an origin's map
  other_of : (o : Origin) → Among origins o → (one : SkEntry) → Contains o.map.entries one
      → (other : Origin) × (origin_for origins one.symbol ≡ Some other) × (other.leaf ≡ o.leaf) × (other.sign ≡ o.sign) × (other.ex ≡ one.ex) × Contains other.map.entries one
  other_of o m one h =
      let t = sourced (from_origin (judged_of case list) 0 list origins os o m).origin.maps one h in
      (t.origin, t.listed, t.same_leaf, t.same_sign, t.number, t.own)

  rooted_one : (o : Origin) → Among origins o → IsRooted origins o
  rooted_one o m =
      let r = from_origin (judged_of case list) 0 list origins os o m in
      let led = image_of_map r.origin.maps in
      record {
        image = led.0;
        leads = led.1;
        args = r.origin.args;
        own = subst (λ x. Contains o.map.entries (entry o.ex x r.origin.args)) (sym r.origin.named) r.origin.own;
        others = other_of o m;
      }

  rooted : AreRooted origins
  rooted symbol o h = rooted_one o (found_origin origins symbol o h)

  once : AreDistinct origins
  once = distinct origins once_each

  leaf_known : {i : ℕ} {f : Formula} {s : Bool} → HasLeaf (judged_of case list) i f s → Among (formulas_of case.problem) f
  leaf_known leaf =
      subst (λ f. Among (formulas_of case.problem) f) leaf.formula
      (leaf_in_problem case (verdict_of case list are right acyclic leaf.base leaf.verdict leaf.here) leaf.leaf leaf.step leaf.stands)

  map_known : {i : ℕ} {f : Formula} {s : Bool} {m : List SkEntry} → IsMapOf (judged_of case list) i f s m → Among (formulas_of case.problem) f
  map_known (to_form a) = leaf_known a.leaf
  map_known (to_image a) = leaf_known a.leaf

  new : AreNew origins
  new one other h k = by_test (stands_in (first_symbols one.leaf) other.symbol) refl
    where
      by_test : (b : Bool) → stands_in (first_symbols one.leaf) other.symbol ≡ b → stands_in (first_symbols one.leaf) other.symbol ≡ false
      by_test false e = e
      by_test true e =
          let r = from_origin (judged_of case list) 0 list origins os one (among origins one h) in
          let known = symbol_known case.problem own one.leaf (map_known r.origin.maps) other.symbol e in
          let none = unknown_in_all case list are right acyclic other.symbol known in
          let names_are = names_from (judged_of case list) 0 list origins os in
          let some : 0 < count other.symbol (introduced_by list) =
          subst (λ l. 0 < count other.symbol l) names_are (counted other.symbol (symbols_of origins) (origin_among origins other (among origins other k))) in
          absurd (omega (arith, none, some))

  pub right_origins : AreRight origins
  right_origins = record { rooted = rooted; once = once; new = new }

pub origins_are_right : OriginsAreRight
origins_are_right case list steps own origins os = right_origins case list steps.are steps.right steps.acyclic own origins os

pub maps_are_sourced : MapsAreSourced
maps_are_sourced case list steps own origins os i f sign entries maps = sourced case list steps.are steps.right steps.acyclic own origins os maps
