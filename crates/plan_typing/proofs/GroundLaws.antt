-- Ground terms and literals over the known symbols are over the problem's signature in proof terms.
use Rattle.std.proofs.Common.{◌≡◌, ℕ, suc, Bool, true, false, ◌||◌, ◌&&◌, nat_eq, List, [], ◌∷◌, map, length, refl, sym, ap, subst, ◌∙◌, arith}
use Rattle.std.specs.List.{list_any}
use Rattle.std.proofs.lemmas.Bool.{and_parts}
use Rattle.std.proofs.lemmas.Bool.Decides.{Decides-eqb}
use Rattle.std.proofs.lemmas.List.Folds.{list_any-append}
use Rattle.assemble.proofs.ProblemLaws.{signature_extends}
use Rattle.assemble.proofs.SignatureViews.{view_symbol_type}
use Rattle.assemble.proofs.SymbolLaws.{IsIn, after_prelude}
use Rattle.assemble.specs.Fitting.{output_of, symbols_of}
use Rattle.assemble.specs.Problem.{problem_signature, theory_symbol}
use Rattle.dk_syntax.proofs.ListLaws.{ForEach, for_each}
use Rattle.dk_syntax.proofs.SymbolLaws.{symbols_same}
use Rattle.dk_syntax.proofs.TermLaws.{occurrences-App, term_induction}
use Rattle.dk_syntax.proofs.WellFormedLaws.{well_formed-App}
use Rattle.dk_syntax.specs.Lists.{Every, all_true, every_cons, every_nil}
use Rattle.dk_syntax.specs.Symbols.{joined, same_kind, same_symbol, term_occurrences}
use Rattle.dk_syntax.specs.WellFormed.{fits_symbol, well_formed_term}
use Rattle.dk_syntax.specs.declared.Problem.{Problem}
use Rattle.dk_syntax.specs.declared.clause.Literal.{Literal}
use Rattle.dk_syntax.specs.declared.symbol.Kind.{Kind}
use Rattle.dk_syntax.specs.declared.symbol.Kind.TheVariants.{Function, Predicate}
use Rattle.dk_syntax.specs.declared.symbol.SymKey.{SymKey}
use Rattle.dk_syntax.specs.declared.term.Term.{Term}
use Rattle.dk_syntax.specs.declared.term.Term.TheVariants as term
use Rattle.lp_term.proofs.QuantifierRules.{any_declared}
use Rattle.lp_term.proofs.ViewLaws.{view_Sym}
use Rattle.lp_term.specs.Connectives.{individuals, propositions}
use Rattle.lp_term.specs.Identifiers.{identifier_of}
use Rattle.lp_term.specs.LambdaPi.{Term as TheoryTerm}
use Rattle.lp_term.specs.Names.{any_name, i_name, prop_name}
use Rattle.lp_term.specs.Problems.{result_of}
use Rattle.lp_term.specs.Signature.{prelude_declarations}
use Rattle.lp_term.specs.Typing.{Declaration, Declares, declared_here, declared_later}
use Rattle.lp_term.specs.View.{term_of}
use Rattle.nd_term.proofs.ListLaws.{every_parts}
use Rattle.nd_term.proofs.OutputSteps.{output-Any, output-Var, output_plain, output_skolem}
use Rattle.nd_term.proofs.OverLaws.{view_function_type}
use Rattle.nd_term.specs.Formulas.{GroundTerm, ground_applied, ground_symbol}
use Rattle.nd_term.specs.Outputs.{ground_applied_each, output, output_atom, place_of}
use Rattle.nd_term.specs.Symbols.{GroundOver, function_type as theory_function_type, over_eigenvariable, over_ground_applied, over_ground_symbol}
use Rattle.nd_term.specs.Views.{DeclaresSymbol}
use Rattle.plan_symbols.specs.Over.{IsListed, IsLiteralOver, IsTermOver, known_symbols}
use Rattle.skolem_order.specs.Rooted.{HaveFunctions}
use Rattle.skolem_order.specs.declared.origins.Origin.{Origin}

-- ---- listed symbols

first_of : {A : Type 0} {p : A → Type 0} {a : A} {l : List A} → Every p (a ∷ l) → p a × Every p l
first_of (every_cons h hs) = (h, hs)

same_kinds : (a b : Kind) → same_kind a b ≡ true → a ≡ b
same_kinds Function Function e = refl
same_kinds Function Predicate e = absurd cc
same_kinds Predicate Function e = absurd cc
same_kinds Predicate Predicate e = refl

in_first : (b : Bool) (other one : SymKey) (seen : List SymKey) → same_symbol one other ≡ b → (b || list_any (same_symbol one) seen) ≡ true
    → (list_any (same_symbol one) seen ≡ true → IsIn seen one) → IsIn (other ∷ seen) one
in_first true other one seen e h more = subst (λ s. IsIn (other ∷ seen) s) (sym (symbols_same one other e)) (declared_here _ _)
in_first false other one seen e h more = declared_later _ (more h)

in_listed : (seen : List SymKey) (one : SymKey) → IsListed seen one → IsIn seen one
in_listed [] one h = absurd cc
in_listed (other ∷ seen) one h = in_first (same_symbol one other) other one seen refl h (λ k. in_listed seen one k)

-- a listed symbol is declared
pub listed_declared : (symbols : List SymKey) (one : SymKey) → IsListed symbols one → DeclaresSymbol (problem_signature symbols) one
listed_declared symbols one h =
    subst (Declares (problem_signature symbols) (identifier_of one)) (sym (view_symbol_type one)) (after_prelude prelude_declarations (in_listed symbols one h))

-- each property of all elements of a list is that of one that is listed
listed_has : (P : SymKey → Type 0) (symbols : List SymKey) → Every P symbols → (one : SymKey) → IsListed symbols one → P one
listed_has P [] every_nil one h = absurd cc
listed_has P (other ∷ rest) (every_cons p ps) one h = by_test (same_symbol one other) refl h (λ k. listed_has P rest ps one k)
  where
    by_test : (b : Bool) → same_symbol one other ≡ b → (b || list_any (same_symbol one) rest) ≡ true → (list_any (same_symbol one) rest ≡ true → P one) → P one
    by_test true e k more = subst P (sym (symbols_same one other e)) p
    by_test false e k more = more k

module _ (problem : Problem) (origins : List Origin) (order : List Term) where
  abbrev sig : List Declaration
  sig = problem_signature problem.symbols

  abbrev Known : SymKey → Type 0
  Known = IsListed (known_symbols problem origins)

  -- a known symbol that is no Skolem symbol is declared
  plain_declared : (one : SymKey) → Known one → list_any (same_symbol one) (symbols_of origins) ≡ false → DeclaresSymbol sig one
  plain_declared one h plain = listed_declared problem.symbols one (by_test (list_any (same_symbol one) problem.symbols) refl)
    where
      whole : (list_any (same_symbol one) problem.symbols || list_any (same_symbol one) (symbols_of origins)) ≡ true
      whole = sym (list_any-append (same_symbol one) problem.symbols (symbols_of origins)) ∙ h

      by_test : (b : Bool) → list_any (same_symbol one) problem.symbols ≡ b → list_any (same_symbol one) problem.symbols ≡ true
      by_test true e = e
      by_test false e = absurd (let k : list_any (same_symbol one) (symbols_of origins) ≡ true = sym (ap (λ b. b || list_any (same_symbol one) (symbols_of origins)) e) ∙ whole in cc)

  symbol_ground : (kind : Kind) (one : SymKey) (count : ℕ) (r : TheoryTerm) → term_of (result_of kind) ≡ r → fits_symbol kind one count ≡ true → DeclaresSymbol sig one
      → GroundOver sig r count (ground_symbol (identifier_of one))
  symbol_ground kind one count r result fits declared =
      let parts = and_parts (same_kind one.kind kind) (nat_eq one.arity count) fits in
      let same : one.kind ≡ kind = same_kinds one.kind kind parts.0 in
      let many : one.arity ≡ count = (Decides-eqb one.arity count).0 parts.1 in
      let type = view_function_type one.arity (result_of one.kind) r (ap (λ k. term_of (result_of k)) same ∙ result) ∙ ap (λ n. theory_function_type n r) many in
      over_ground_symbol count (subst (Declares sig (identifier_of one)) type declared)

  -- ---- terms

  abbrev pub any_ground : GroundOver sig individuals 0 (ground_symbol any_name)
  any_ground = over_ground_symbol 0 (any_declared sig (signature_extends (map theory_symbol problem.symbols)))

  abbrev TermIsGround : Term → Type 0
  TermIsGround t = well_formed_term t ≡ true → Every Known (term_occurrences t) → GroundOver sig individuals 0 (output_of origins order t)

  each_ground : (args : List Term) (r : TheoryTerm) (h : GroundTerm) → ForEach TermIsGround args → all_true (map well_formed_term args) ≡ true
      → Every Known (joined (map term_occurrences args)) → GroundOver sig r (length args) h → GroundOver sig r 0 (ground_applied_each h (map (output (symbols_of origins) order) args))
  each_ground [] r h known formed listed over = over
  each_ground (a ∷ rest) r h known formed listed over =
      let tests = and_parts (well_formed_term a) (all_true (map well_formed_term rest)) formed in
      let parts = every_parts (term_occurrences a) (joined (map term_occurrences rest)) listed in
      each_ground rest r (ground_applied h (output_of origins order a)) known.1 tests.1 parts.1 (over_ground_applied over (known.0 tests.0 parts.0))

  head_ground : (kind : Kind) (head : SymKey) (args : List Term) (r : TheoryTerm) → term_of (result_of kind) ≡ r → ForEach TermIsGround args
      → (fits_symbol kind head (length args) && all_true (map well_formed_term args)) ≡ true → Every Known (head ∷ joined (map term_occurrences args))
      → list_any (same_symbol head) (symbols_of origins) ≡ false
      → GroundOver sig r 0 (ground_applied_each (ground_symbol (identifier_of head)) (map (output (symbols_of origins) order) args))
  head_ground kind head args r result known formed listed plain =
      let tests = and_parts (fits_symbol kind head (length args)) (all_true (map well_formed_term args)) formed in
      let parts = first_of listed in
      each_ground args r (ground_symbol (identifier_of head)) known tests.1 parts.1
      (symbol_ground kind head (length args) r result tests.0 (plain_declared head parts.0 plain))

  application_ground : (head : SymKey) (args : List Term) → ForEach TermIsGround args → TermIsGround (term.App head args)
  application_ground head args known formed listed = by_test (list_any (same_symbol head) (symbols_of origins)) refl
    where
      by_test : (b : Bool) → list_any (same_symbol head) (symbols_of origins) ≡ b → GroundOver sig individuals 0 (output_of origins order (term.App head args))
      by_test true e =
          subst (GroundOver sig individuals 0) (sym (output_skolem (symbols_of origins) order (term.App head args) head args refl e))
          (over_eigenvariable (place_of order (term.App head args)))
      by_test false e =
          subst (GroundOver sig individuals 0) (sym (output_plain (symbols_of origins) order (term.App head args) head args refl e))
          (head_ground Function head args individuals (view_Sym i_name) known (sym (well_formed-App head args) ∙ formed) (subst (Every Known) (occurrences-App head args) listed) e)

  formed_ground : (t : Term) → TermIsGround t
  formed_ground =
      term_induction
      TermIsGround
      (λ n formed listed. subst (GroundOver sig individuals 0) (sym (output-Var (symbols_of origins) order n)) any_ground)
      application_ground
      (λ formed listed. subst (GroundOver sig individuals 0) (sym (output-Any (symbols_of origins) order)) any_ground)

  -- a term over the known symbols
  pub term_ground : (t : Term) → IsTermOver (known_symbols problem origins) t → GroundOver sig individuals 0 (output_of origins order t)
  term_ground t over = formed_ground t over.formed over.listed

  -- ---- literals

  symbol_functions : (os : List Origin) → HaveFunctions os → Every (λ (x : SymKey). x.kind ≡ Function) (symbols_of os)
  symbol_functions [] h = every_nil
  symbol_functions (o ∷ os) h =
      every_cons (h o (0, omega arith, refl)) (symbol_functions os (λ p c. h p (suc c.0, omega (arith, c.1), c.2)))

  -- a predicate is no Skolem symbol
  predicate_plain : HaveFunctions origins → (one : SymKey) → one.kind ≡ Predicate → list_any (same_symbol one) (symbols_of origins) ≡ false
  predicate_plain functions one e = by_test (list_any (same_symbol one) (symbols_of origins)) refl
    where
      by_test : (b : Bool) → list_any (same_symbol one) (symbols_of origins) ≡ b → list_any (same_symbol one) (symbols_of origins) ≡ false
      by_test false h = h
      by_test true h = absurd (let k = listed_has (λ (x : SymKey). x.kind ≡ Function) (symbols_of origins) (symbol_functions origins functions) one h in cc)

  -- a literal over the known symbols, where the Skolem symbols are functions
  pub literal_ground : HaveFunctions origins → (l : Literal) → IsLiteralOver (known_symbols problem origins) l
      → GroundOver sig propositions 0 (output_atom (symbols_of origins) order l.pred l.args)
  literal_ground functions l over =
      let tests = and_parts (fits_symbol Predicate l.pred (length l.args)) (all_true (map well_formed_term l.args)) over.formed in
      let kind = and_parts (same_kind l.pred.kind Predicate) (nat_eq l.pred.arity (length l.args)) tests.0 in
      head_ground Predicate l.pred l.args propositions (view_Sym prop_name) (for_each TermIsGround formed_ground l.args) over.formed over.listed
      (predicate_plain functions l.pred (same_kinds l.pred.kind Predicate kind.0))
