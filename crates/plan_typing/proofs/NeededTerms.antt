-- Needed Skolem terms are over the known symbols, and so are the terms around their origins.
use Rattle.std.proofs.Common.{◌≡◌, ℕ, zero, suc, nat_eq, Bool, true, false, List, [], ◌∷◌, ◌||◌, cond, get_or, map, length, Option, None, Some, refl, sym, ap, subst, ◌∙◌, ⊎_elim, arith}
use Rattle.std.specs.List.{Contains, All, list_any, position}
use Rattle.std.proofs.lemmas.List.Elements.{All-contains}
use Rattle.std.proofs.lemmas.List.Folds.{list_any-append}
use Rattle.std.proofs.lemmas.List.{length-map}
use Rattle.assemble.specs.Fitting.{symbols_of}
use Rattle.dk_syntax.specs.Symbols.{same_symbol}
use Rattle.dk_syntax.specs.declared.Problem.{Problem}
use Rattle.dk_syntax.specs.declared.symbol.SymKey.{SymKey}
use Rattle.dk_syntax.specs.declared.term.Term.{Any, App, Term}
use Rattle.expansion.specs.Choices.{skolem_term, term_there}
use Rattle.expansion.specs.Rows.{term_at}
use Rattle.plan.specs.Origins.{AreFit, IsFitEntry}
use Rattle.plan_symbols.specs.Over.{IsListed, IsTermOver, known_symbols}
use Rattle.plan_typing.proofs.TermParts.{any_over, application_over, args_App, args_of_over, found_origin, head_arity, inside_over, of_origin, origin_listed, part_over, skolem_listed}
use Rattle.skolem_order.proofs.OrderLaws.{args_at}
use Rattle.skolem_order.specs.Order.{IsPut, Needed, in_root, mentioned}
use Rattle.skolem_order.specs.Origins.{args_for, args_of, origin_of_term, terms_around, universals_by, value}
use Rattle.skolem_order.specs.Rooted.{AreRooted, HaveFunctions, IsRooted, IsSized}
use Rattle.skolem_order.specs.declared.origins.Origin.{Origin}
use Rattle.skolem_order.specs.declared.walk.Around.{Around}
use Rattle.skolem_order.specs.declared.walk.Around.TheVariants.{Existential, Universal, Vacant}
use Rattle.step_skolem.specs.Images.{entry}
use Rattle.step_skolem.specs.declared.map.SkEntry.{SkEntry}

module _ (problem : Problem) (origins : List Origin) where
  abbrev Over : Term → Type 0
  Over t = IsTermOver (known_symbols problem origins) t

  -- a Skolem symbol is known
  pub skolem_known : (one : SymKey) → list_any (same_symbol one) (symbols_of origins) ≡ true → IsListed (known_symbols problem origins) one
  skolem_known one h = list_any-append (same_symbol one) problem.symbols (symbols_of origins) ∙ by_test (list_any (same_symbol one) problem.symbols)
    where
      by_test : (b : Bool) → (b || list_any (same_symbol one) (symbols_of origins)) ≡ true
      by_test true = refl
      by_test false = h

  -- ---- terms by places

  read_over : (terms : List Term) → ((arg : Term) → Contains terms arg → Over arg) → (k : ℕ) → Over (get_or terms k Any)
  read_over [] h k = any_over (known_symbols problem origins)
  read_over (t ∷ terms) h zero = h t (0, omega arith, refl)
  read_over (t ∷ terms) h (suc k) = read_over terms (λ arg c. h arg (suc c.0, omega (arith, c.1), c.2)) k

  there_over : (terms : List Term) → ((arg : Term) → Contains terms arg → Over arg) → (place : Option ℕ) → Over (term_there terms place)
  there_over terms h None = any_over (known_symbols problem origins)
  there_over terms h (Some k) = read_over terms h k

  -- ---- entries of a map

  -- a term of the entry's symbol is over the known symbols where those of the universals are
  abbrev Fits : SkEntry → Type 0
  Fits one = IsListed (known_symbols problem origins) one.symbol × IsFitEntry one

  mapped_over : (v : ℕ → Term) → ((n : ℕ) → Over (v n)) → (numbers : List ℕ) → (arg : Term) → Contains (map v numbers) arg → Over arg
  mapped_over v h [] arg (k, below, is) = absurd (omega (arith, below))
  mapped_over v h (n ∷ numbers) arg (zero, below, is) = subst Over is (h n)
  mapped_over v h (n ∷ numbers) arg (suc k, below, is) = mapped_over v h numbers arg (k, omega (arith, below), is)

  skolem_over : (v : ℕ → Term) → ((n : ℕ) → Over (v n)) → (entries : List SkEntry) → ((one : SkEntry) → Contains entries one → Fits one) → (e : ℕ)
      → Over (skolem_term v entries e)
  skolem_over v h [] fit e = any_over (known_symbols problem origins)
  skolem_over v h (one ∷ entries) fit e =
      by_test (nat_eq one.ex e)
      (let f = fit one (0, omega arith, refl) in
      let long = length-map one.args v in
      application_over (known_symbols problem origins) one.symbol (map v one.args) f.0 f.1.kind (f.1.arity ∙ sym long) (mapped_over v h one.args))
      (skolem_over v h entries (λ other c. fit other (suc c.0, omega (arith, c.1), c.2)) e)
    where
      by_test : (b : Bool) → Over (App one.symbol (map v one.args)) → Over (skolem_term v entries e) → Over (cond b (App one.symbol (map v one.args)) (skolem_term v entries e))
      by_test true g k = g
      by_test false g k = k

  -- ---- the terms around an origin

  module _ (rooted : AreRooted origins) (fit : AreFit origins) where
    entry_fits : (o : Origin) → Contains origins o → (one : SkEntry) → Contains o.map.entries one → IsFitEntry one
    entry_fits o c one d = All-contains IsFitEntry o.map.entries one (All-contains (λ (x : Origin). All IsFitEntry x.map.entries) origins o fit c) d

    entry_known : (o : Origin) → IsRooted origins o → (one : SkEntry) → Contains o.map.entries one → IsListed (known_symbols problem origins) one.symbol
    entry_known o root one c =
        let other = root.others one c in
        let r = found_origin origins one.symbol other.0 other.1 in
        skolem_known one.symbol (subst (λ x. list_any (same_symbol x) (symbols_of origins) ≡ true) r.1 (skolem_listed origins other.0 r.0))

    value_over : (o : Origin) → IsRooted origins o → Contains origins o → (v : ℕ → Term) → ((n : ℕ) → Over (v n)) → (a : Around) → Over (value v o.map.entries a)
    value_over o root c v h (Universal n) = h n
    value_over o root c v h (Existential e) = skolem_over v h o.map.entries (λ one d. (entry_known o root one d, entry_fits o c one d)) e
    value_over o root c v h Vacant = any_over (known_symbols problem origins)

    values_over : (w : Around → Term) → ((a : Around) → Over (w a)) → (around : List Around) (k : ℕ) → Over (get_or (map w around) k Any)
    values_over w h [] k = any_over (known_symbols problem origins)
    values_over w h (a ∷ around) zero = h a
    values_over w h (a ∷ around) (suc k) = values_over w h around k

    -- the terms for the variables of the quantifiers around are over the known symbols where the Skolem term is
    pub around_over : (t : Term) → Over t → (o : Origin) → origin_of_term origins t ≡ Some o → (around : List Around) (k : ℕ) → Over (term_at (terms_around o around (args_of t)) k)
    around_over t over o e around k =
        let of = of_origin origins t o e in
        values_over (value (universals_by o (args_of t)) o.map.entries)
        (value_over o (rooted o.symbol o of.found) of.listed (universals_by o (args_of t))
        (λ n. there_over (args_of t) (args_of_over (known_symbols problem origins) t over) (position (λ m. nat_eq m n) (args_for o.map.entries o.ex)))) around k

    -- ---- needed terms

    pub needed_over : (roots : List Term) → ((t : Term) → Contains roots t → Over t) → {s : Term} → Needed origins roots s → Over s
    needed_over roots h (in_root s t one p k) = part_over (known_symbols problem origins) p (h t one)
    needed_over roots h (mentioned s t n m) =
        let over = needed_over roots h n in
        ⊎_elim (λ i. inside_over (known_symbols problem origins) s t i over)
        (λ (put : IsPut origins t s). part_over (known_symbols problem origins) put.part (around_over t over put.origin put.listed put.spot.around put.variable)) m.1

    -- a term over the known symbols has as many arguments as its symbol's own entry
    pub over_sized : (t : Term) → Over t → IsSized origins t
    over_sized t over o e =
        let of = of_origin origins t o e in
        let root = rooted o.symbol o of.found in
        let own = entry_fits o of.listed (entry o.ex o.symbol root.args) root.own in
        let long : o.symbol.arity ≡ length of.args = head_arity (known_symbols problem origins) o.symbol of.args (subst Over of.same over) in
        ap length (ap args_of of.same ∙ args_App o.symbol of.args) ∙ sym long ∙ own.arity
        ∙ ap length (sym (args_at origins o root (entry o.ex o.symbol root.args) root.own))

    -- the Skolem symbols are functions
    pub have_functions : HaveFunctions origins
    have_functions o c =
        let q = origin_listed origins o.symbol (skolem_listed origins o c) in
        let r = found_origin origins o.symbol q.0 q.1 in
        let root = rooted o.symbol q.0 q.1 in
        ap (λ (x : SymKey). x.kind) (sym r.1) ∙ (entry_fits q.0 r.0 (entry q.0.ex q.0.symbol root.args) root.own).kind
