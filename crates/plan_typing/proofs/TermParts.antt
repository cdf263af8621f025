-- Parts of terms over symbols are over them, and so are applications of listed functions.
use Rattle.std.proofs.Common.{◌≡◌, ℕ, zero, suc, Bool, true, false, ◌||◌, ◌&&◌, nat_eq, List, [], ◌∷◌, ◌++◌, cond, map, length, None, Some, refl, sym, ap, ap₂, subst, ◌∙◌, arith, eq-eqb, rules}
use Rattle.std.specs.List.{Contains, list_any}
use Rattle.std.proofs.lemmas.Bool.{and_parts}
use Rattle.std.proofs.lemmas.Bool.Decides.{Decides-eqb}
use Rattle.std.proofs.lemmas.Option.{same_Some}
use Rattle.std.specs.Cmp.Lexicographic.{pointwise}
use Rattle.assemble.specs.Fitting.{symbols_of}
use Rattle.dk_syntax.proofs.SymbolLaws.{symbols_same}
use Rattle.dk_syntax.proofs.TermLaws.{occurrences-Any, occurrences-App, term_induction}
use Rattle.dk_syntax.proofs.WellFormedLaws.{well_formed-Any, well_formed-App}
use Rattle.dk_syntax.specs.Lists.{Every, all_true, every_cons, every_nil}
use Rattle.dk_syntax.specs.Symbols.{joined, same_kind, same_symbol, term_occurrences}
use Rattle.dk_syntax.specs.WellFormed.{fits_symbol, well_formed_term}
use Rattle.dk_syntax.specs.declared.symbol.Kind.{Kind}
use Rattle.dk_syntax.specs.declared.symbol.Kind.TheVariants.{Function, Predicate}
use Rattle.dk_syntax.specs.declared.symbol.SymKey.{SymKey}
use Rattle.dk_syntax.specs.declared.term.Term.{Any, App, Term, Var, the_lemmas as of_terms}
use Rattle.nd_term.proofs.ListLaws.{every_parts}
use Rattle.plan_symbols.specs.Over.{IsListed, IsTermOver}
use Rattle.skolem_order.specs.Order.{IsInside, IsPart, in_argument, itself}
use Rattle.skolem_order.specs.Origins.{args_of, origin_for, origin_of_term}
use Rattle.skolem_order.specs.declared.origins.Origin.{Origin}

-- ---- a symbol is itself

name_same : (m : List ℕ) → pointwise nat_eq m m ≡ true
name_same [] = refl
name_same (a ∷ m) = ap₂ (λ x y. x && y) (eq-eqb a a refl) (name_same m)

kind_same : (a : Kind) → same_kind a a ≡ true
kind_same Function = refl
kind_same Predicate = refl

pub symbol_same : (a : SymKey) → same_symbol a a ≡ true
symbol_same a = ap₂ (λ x y. x && y) (ap₂ (λ x y. x && y) (name_same a.name) (eq-eqb a.arity a.arity refl)) (kind_same a.kind)

-- ---- parts

module _ (symbols : List SymKey) where
  pub args_over : (args : List Term) → all_true (map well_formed_term args) ≡ true → Every (IsListed symbols) (joined (map term_occurrences args))
      → (arg : Term) → Contains args arg → IsTermOver symbols arg
  args_over [] formed listed arg (k, below, is) = absurd (omega (arith, below))
  args_over (a ∷ rest) formed listed arg (zero, below, is) =
      let tests = and_parts (well_formed_term a) (all_true (map well_formed_term rest)) formed in
      let parts = every_parts (term_occurrences a) (joined (map term_occurrences rest)) listed in
      subst (IsTermOver symbols) is (record { formed = tests.0; listed = parts.0 })
  args_over (a ∷ rest) formed listed arg (suc k, below, is) =
      let tests = and_parts (well_formed_term a) (all_true (map well_formed_term rest)) formed in
      let parts = every_parts (term_occurrences a) (joined (map term_occurrences rest)) listed in
      args_over rest tests.1 parts.1 arg (k, omega (arith, below), is)

  pub rest_listed : {one : SymKey} {l : List SymKey} → Every (IsListed symbols) (one ∷ l) → IsListed symbols one × Every (IsListed symbols) l
  rest_listed (every_cons h hs) = (h, hs)

  pub argument_over : (f : SymKey) (args : List Term) → IsTermOver symbols (App f args) → (arg : Term) → Contains args arg → IsTermOver symbols arg
  argument_over f args over arg c =
      let both = and_parts (fits_symbol Function f (length args)) (all_true (map well_formed_term args)) (sym (well_formed-App f args) ∙ over.formed) in
      args_over args both.1 (rest_listed (subst (Every (IsListed symbols)) (occurrences-App f args) over.listed)).1 arg c

  pub part_over : {s t : Term} → IsPart s t → IsTermOver symbols t → IsTermOver symbols s
  part_over itself over = over
  part_over (in_argument f args arg one p) over = part_over p (argument_over f args over arg one)

  -- an argument, whatever the term
  pub args_of_over : (t : Term) → IsTermOver symbols t → (arg : Term) → Contains (args_of t) arg → IsTermOver symbols arg
  args_of_over = term_induction (λ t. IsTermOver symbols t → (arg : Term) → Contains (args_of t) arg → IsTermOver symbols arg)
      (λ n over arg c. absurd (none arg (let e : args_of (Var n) ≡ [] = search (rules, of_terms) in subst (λ l. Contains l arg) e c)))
      (λ f args h over arg c. argument_over f args over arg (let e : args_of (App f args) ≡ args = search (rules, of_terms) in subst (λ l. Contains l arg) e c))
      (λ over arg c. absurd (none arg (let e : args_of Any ≡ [] = search (rules, of_terms) in subst (λ l. Contains l arg) e c)))
    where
      none : (arg : Term) → Contains [] arg → ⊥
      none arg c = omega (arith, c.1)

  pub inside_over : (s t : Term) → IsInside s t → IsTermOver symbols t → IsTermOver symbols s
  inside_over s t i over = part_over i.part (args_of_over t over i.argument i.one)

  -- ---- applications

  pub head_arity : (f : SymKey) (args : List Term) → IsTermOver symbols (App f args) → f.arity ≡ length args
  head_arity f args over =
      let both = and_parts (fits_symbol Function f (length args)) (all_true (map well_formed_term args)) (sym (well_formed-App f args) ∙ over.formed) in
      (Decides-eqb f.arity (length args)).0 (and_parts (same_kind f.kind Function) (nat_eq f.arity (length args)) both.0).1

  pub any_over : IsTermOver symbols Any
  any_over = record { formed = well_formed-Any; listed = subst (Every (IsListed symbols)) (sym occurrences-Any) every_nil }

  both_listed : (l m : List SymKey) → Every (IsListed symbols) l → Every (IsListed symbols) m → Every (IsListed symbols) (l ++ m)
  both_listed [] m every_nil k = k
  both_listed (one ∷ l) m (every_cons h hs) k = every_cons h (both_listed l m hs k)

  all_formed : (args : List Term) → ((arg : Term) → Contains args arg → IsTermOver symbols arg) → all_true (map well_formed_term args) ≡ true
  all_formed [] h = refl
  all_formed (a ∷ rest) h =
      ap₂ (λ x y. x && y) (h a (0, omega arith, refl)).formed (all_formed rest (λ arg c. h arg (suc c.0, omega (arith, c.1), c.2)))

  all_listed : (args : List Term) → ((arg : Term) → Contains args arg → IsTermOver symbols arg) → Every (IsListed symbols) (joined (map term_occurrences args))
  all_listed [] h = every_nil
  all_listed (a ∷ rest) h =
      both_listed (term_occurrences a) (joined (map term_occurrences rest)) (h a (0, omega arith, refl)).listed
      (all_listed rest (λ arg c. h arg (suc c.0, omega (arith, c.1), c.2)))

  fits : (one : SymKey) (count : ℕ) → one.kind ≡ Function → one.arity ≡ count → fits_symbol Function one count ≡ true
  fits one count kind arity = ap₂ (λ x y. x && y) (ap (λ k. same_kind k Function) kind) (eq-eqb one.arity count arity)

  -- a listed function with as many arguments over the symbols
  pub application_over : (one : SymKey) (args : List Term) → IsListed symbols one → one.kind ≡ Function → one.arity ≡ length args
      → ((arg : Term) → Contains args arg → IsTermOver symbols arg) → IsTermOver symbols (App one args)
  application_over one args listed kind arity h = record {
    formed = well_formed-App one args ∙ ap₂ (λ x y. x && y) (fits one (length args) kind arity) (all_formed args h);
    listed = subst (Every (IsListed symbols)) (sym (occurrences-App one args)) (every_cons listed (all_listed args h));
  }

-- ---- origins of symbols

-- the origin that is found for a symbol is listed, and has the symbol
pub found_origin : (os : List Origin) (one : SymKey) (o : Origin) → origin_for os one ≡ Some o → Contains os o × (o.symbol ≡ one)
found_origin [] one o h = absurd cc
found_origin (p ∷ os) one o h = by_test (same_symbol p.symbol one) refl h (λ k. found_origin os one o k)
  where
    by_test : (b : Bool) → same_symbol p.symbol one ≡ b → cond b (Some p) (origin_for os one) ≡ Some o
        → (origin_for os one ≡ Some o → Contains os o × (o.symbol ≡ one)) → Contains (p ∷ os) o × (o.symbol ≡ one)
    by_test true e k more =
        let same = same_Some p o k in ((0, omega arith, same), ap (λ (x : Origin). x.symbol) (sym same) ∙ symbols_same p.symbol one e)
    by_test false e k more = let r = more k in ((suc r.0.0, omega (arith, r.0.1), r.0.2), r.1)

-- the symbol of a listed origin is a Skolem symbol
pub skolem_listed : (os : List Origin) (o : Origin) → Contains os o → list_any (same_symbol o.symbol) (symbols_of os) ≡ true
skolem_listed [] o (k, below, is) = absurd (omega (arith, below))
skolem_listed (p ∷ os) o (zero, below, is) =
    ap (λ b. b || list_any (same_symbol o.symbol) (symbols_of os)) (subst (λ (x : Origin). same_symbol o.symbol x.symbol ≡ true) (sym is) (symbol_same o.symbol))
skolem_listed (p ∷ os) o (suc k, below, is) = by_test (same_symbol o.symbol p.symbol) (skolem_listed os o (k, omega (arith, below), is))
  where
    by_test : (b : Bool) → list_any (same_symbol o.symbol) (symbols_of os) ≡ true → (b || list_any (same_symbol o.symbol) (symbols_of os)) ≡ true
    by_test true h = refl
    by_test false h = h

-- a Skolem symbol has an origin
pub origin_listed : (os : List Origin) (one : SymKey) → list_any (same_symbol one) (symbols_of os) ≡ true → (o : Origin) × (origin_for os one ≡ Some o)
origin_listed [] one h = absurd cc
origin_listed (p ∷ os) one h = by_test (same_symbol p.symbol one) refl (same_symbol one p.symbol) refl h (λ k. origin_listed os one k)
  where
    by_test : (b : Bool) → same_symbol p.symbol one ≡ b → (c : Bool) → same_symbol one p.symbol ≡ c → (c || list_any (same_symbol one) (symbols_of os)) ≡ true
        → (list_any (same_symbol one) (symbols_of os) ≡ true → (o : Origin) × (origin_for os one ≡ Some o)) → (o : Origin) × (cond (same_symbol p.symbol one) (Some p) (origin_for os one) ≡ Some o)
    by_test true e c f k more = (p, ap (λ b. cond b (Some p) (origin_for os one)) e)
    by_test false e false f k more = let r = more k in (r.0, ap (λ b. cond b (Some p) (origin_for os one)) e ∙ r.1)
    by_test false e true f k more =
        absurd (let g : same_symbol p.symbol one ≡ true = subst (λ x. same_symbol x one ≡ true) (symbols_same one p.symbol f) (symbol_same one) in cc)

pub origin_App : (os : List Origin) (f : SymKey) (args : List Term) → origin_of_term os (App f args) ≡ origin_for os f
origin_App os f args = search (rules, of_terms)

pub args_App : (f : SymKey) (args : List Term) → args_of (App f args) ≡ args
args_App f args = search (rules, of_terms)

-- a term with an origin is an application of the origin's symbol
pub record IsOfOrigin (os : List Origin) (t : Term) (o : Origin) : Type 0 where
  pub args : List Term
  pub same : t ≡ App o.symbol args
  pub listed : Contains os o
  pub found : origin_for os o.symbol ≡ Some o

pub of_origin : (os : List Origin) (t : Term) (o : Origin) → origin_of_term os t ≡ Some o → IsOfOrigin os t o
of_origin os = term_induction (λ t. (o : Origin) → origin_of_term os t ≡ Some o → IsOfOrigin os t o)
    (λ n o h. absurd (let e : origin_of_term os (Var n) ≡ None = search (rules, of_terms) in let z : None ≡ Some o = sym e ∙ h in cc))
    (λ f args each o h. let e = sym (origin_App os f args) ∙ h in let r = found_origin os f o e in
    record { args = args; same = ap (λ x. App x args) (sym r.1); listed = r.0; found = subst (λ x. origin_for os x ≡ Some o) (sym r.1) e })
    (λ o h. absurd (let e : origin_of_term os Any ≡ None = search (rules, of_terms) in let z : None ≡ Some o = sym e ∙ h in cc))
