-- Well-formed formulas are over each signature that declares their symbols.
use Rattle.std.proofs.Common.{◌≡◌, ℕ, zero, suc, Bool, true, false, ◌&&◌, nat_eq, List, [], ◌∷◌, ◌++◌, map, length, refl, sym, ap, ap₂, subst, ◌∙◌}
use Rattle.std.proofs.lemmas.Bool.{and_parts}
use Rattle.std.proofs.lemmas.Bool.Decides.{Decides-eqb}
use Rattle.dk_syntax.specs.Lists.{Every, all_true, every_cons, every_nil}
use Rattle.dk_syntax.specs.Symbols.{formula_occurrences, joined, same_kind, term_occurrences}
use Rattle.dk_syntax.specs.WellFormed.{fits_symbol, well_formed, well_formed_term}
use Rattle.dk_syntax.specs.declared.Formula.{Formula}
use Rattle.dk_syntax.specs.declared.Formula.TheVariants.{True, False, Atom, Not, And, Or, Imp, Iff, All, Ex}
use Rattle.dk_syntax.specs.declared.Kind.{Kind}
use Rattle.dk_syntax.specs.declared.Kind.TheVariants.{Function, Predicate}
use Rattle.dk_syntax.specs.declared.SymKey.{SymKey}
use Rattle.dk_syntax.specs.declared.Term.{Term}
use Rattle.dk_syntax.specs.declared.Term.TheVariants as term
use Rattle.dk_syntax.proofs.FormulaLaws.{formula_induction, occurrences-All, occurrences-And, occurrences-Atom, occurrences-Ex, occurrences-Iff, occurrences-Imp, occurrences-Not, occurrences-Or}
use Rattle.dk_syntax.proofs.ListLaws.{ForEach, for_each}
use Rattle.dk_syntax.proofs.TermLaws.{occurrences-App, term_induction}
use Rattle.dk_syntax.proofs.WellFormedLaws.{well_formed-All, well_formed-And, well_formed-App, well_formed-Atom, well_formed-Ex, well_formed-Iff, well_formed-Imp, well_formed-Not, well_formed-Or}
use Rattle.lp_term.specs.Connectives.{arrow, individuals, propositions}
use Rattle.lp_term.specs.Identifiers.{identifier_of}
use Rattle.lp_term.specs.LambdaPi.{Term as TheoryTerm}
use Rattle.lp_term.specs.Names.{any_name, i_name, prop_name}
use Rattle.lp_term.specs.Problems.{function_type, result_of, symbol_type_of}
use Rattle.lp_term.specs.Signature.{Extends}
use Rattle.lp_term.specs.Terms as program
use Rattle.lp_term.specs.Typing.{Declaration, Declares}
use Rattle.lp_term.specs.View.{term_of}
use Rattle.lp_term.specs.declared.Lp.{Lp}
use Rattle.lp_term.proofs.QuantifierRules.{any_declared}
use Rattle.lp_term.proofs.ViewLaws.{view_Sym, view_arrow}
use Rattle.nd_term.specs.Formulas.{FormulaTerm, applied, symbol}
use Rattle.nd_term.specs.Symbols.{FormulaOver, TermOver, function_type as theory_function_type, over_applied, over_atomic, over_bound, over_conjunction, over_disjunction, over_equivalence, over_existential, over_falsity, over_implication, over_negation, over_symbol, over_truth, over_universal}
use Rattle.nd_term.specs.Views.{DeclaresSymbol, applied_each, theory_formula, theory_term}
use Rattle.nd_term.proofs.FormulaViews.{theory-All, theory-And, theory-Any, theory-App, theory-Atom, theory-Ex, theory-False, theory-Iff, theory-Imp, theory-Not, theory-Or, theory-True, theory-Var}
use Rattle.nd_term.proofs.ListLaws.{every_parts}

-- ---- the types of symbols

pub view_function_type : (arity : ℕ) (r : Lp) (t : TheoryTerm) → term_of r ≡ t → term_of (function_type arity r) ≡ theory_function_type arity t
view_function_type zero r t e = e
view_function_type (suc arity) r t e =
    view_arrow program.individuals (function_type arity r) ∙ ap₂ arrow (view_Sym i_name) (view_function_type arity r t e)

same_kinds : (a b : Kind) → same_kind a b ≡ true → a ≡ b
same_kinds Function Function e = refl
same_kinds Function Predicate e = absurd cc
same_kinds Predicate Function e = absurd cc
same_kinds Predicate Predicate e = refl

first_of : {A : Type 0} {p : A → Type 0} {a : A} {l : List A} → Every p (a ∷ l) → p a × Every p l
first_of (every_cons h hs) = (h, hs)

module _ (sig : List Declaration) where
  -- the symbol is declared, as one of this kind with so many arguments
  symbol_over : (kind : Kind) (one : SymKey) (count : ℕ) (r : TheoryTerm) → term_of (result_of kind) ≡ r → fits_symbol kind one count ≡ true → DeclaresSymbol sig one
      → TermOver sig r count (symbol (identifier_of one))
  symbol_over kind one count r result fits declared =
      let parts = and_parts (same_kind one.kind kind) (nat_eq one.arity count) fits in
      let same : one.kind ≡ kind = same_kinds one.kind kind parts.0 in
      let many : one.arity ≡ count = (Decides-eqb one.arity count).0 parts.1 in
      let type = view_function_type one.arity (result_of one.kind) r (ap (λ k. term_of (result_of k)) same ∙ result) ∙ ap (λ n. theory_function_type n r) many in
      over_symbol count (subst (Declares sig (identifier_of one)) type declared)

  -- ---- terms

  module _ (e : Extends sig) where
    abbrev TermIsOver : Term → Type 0
    TermIsOver t = well_formed_term t ≡ true → Every (DeclaresSymbol sig) (term_occurrences t) → TermOver sig individuals 0 (theory_term t)

    each_over : (args : List Term) (r : TheoryTerm) (h : FormulaTerm) → ForEach TermIsOver args → all_true (map well_formed_term args) ≡ true
        → Every (DeclaresSymbol sig) (joined (map term_occurrences args)) → TermOver sig r (length args) h → TermOver sig r 0 (applied_each h (map theory_term args))
    each_over [] r h known formed declared over = over
    each_over (a ∷ rest) r h known formed declared over =
        let tests = and_parts (well_formed_term a) (all_true (map well_formed_term rest)) formed in
        let parts = every_parts (term_occurrences a) (joined (map term_occurrences rest)) declared in
        each_over rest r (applied h (theory_term a)) known.1 tests.1 parts.1 (over_applied over (known.0 tests.0 parts.0))

    -- a symbol with its arguments, of which each is over the signature
    head_over : (kind : Kind) (head : SymKey) (args : List Term) (r : TheoryTerm) → term_of (result_of kind) ≡ r → ForEach TermIsOver args
        → (fits_symbol kind head (length args) && all_true (map well_formed_term args)) ≡ true → Every (DeclaresSymbol sig) (head ∷ joined (map term_occurrences args))
        → TermOver sig r 0 (applied_each (symbol (identifier_of head)) (map theory_term args))
    head_over kind head args r result known formed declared =
        let tests = and_parts (fits_symbol kind head (length args)) (all_true (map well_formed_term args)) formed in
        let parts = first_of declared in
        each_over args r (symbol (identifier_of head)) known tests.1 parts.1 (symbol_over kind head (length args) r result tests.0 parts.0)

    term_over : (t : Term) → TermIsOver t
    term_over =
        term_induction
        TermIsOver
        (λ n formed declared. subst (TermOver sig individuals 0) (sym (theory-Var n)) (over_bound n))
        (λ head args known formed declared. subst (TermOver sig individuals 0) (sym (theory-App head args))
        (head_over Function head args individuals (view_Sym i_name) known (sym (well_formed-App head args) ∙ formed) (subst (Every (DeclaresSymbol sig)) (occurrences-App head args) declared)))
        (λ formed declared. subst (TermOver sig individuals 0) (sym theory-Any) (over_symbol 0 (any_declared sig e)))

    -- ---- formulas

    abbrev IsOver : Formula → Type 0
    IsOver f = well_formed f ≡ true → Every (DeclaresSymbol sig) (formula_occurrences f) → FormulaOver sig (theory_formula f)

    parts_over : (a b f : Formula) → well_formed f ≡ (well_formed a && well_formed b) → formula_occurrences f ≡ formula_occurrences a ++ formula_occurrences b
        → IsOver a → IsOver b → well_formed f ≡ true → Every (DeclaresSymbol sig) (formula_occurrences f) → FormulaOver sig (theory_formula a) × FormulaOver sig (theory_formula b)
    parts_over a b f w o h k formed declared =
        let tests = and_parts (well_formed a) (well_formed b) (sym w ∙ formed) in
        let parts = every_parts (formula_occurrences a) (formula_occurrences b) (subst (Every (DeclaresSymbol sig)) o declared) in
        (h tests.0 parts.0, k tests.1 parts.1)

    part_over : (a f : Formula) → well_formed f ≡ well_formed a → formula_occurrences f ≡ formula_occurrences a → IsOver a
        → well_formed f ≡ true → Every (DeclaresSymbol sig) (formula_occurrences f) → FormulaOver sig (theory_formula a)
    part_over a f w o h formed declared = h (sym w ∙ formed) (subst (Every (DeclaresSymbol sig)) o declared)

    -- a well-formed formula whose symbols are declared
    pub formula_over : (f : Formula) → IsOver f
    formula_over =
        formula_induction
        IsOver
        (λ formed declared. subst (FormulaOver sig) (sym theory-True) over_truth)
        (λ formed declared. subst (FormulaOver sig) (sym theory-False) over_falsity)
        (λ head args formed declared. subst (FormulaOver sig) (sym (theory-Atom head args))
        (over_atomic (head_over Predicate head args propositions (view_Sym prop_name) (for_each TermIsOver term_over args) (sym (well_formed-Atom head args) ∙ formed) (subst (Every (DeclaresSymbol sig)) (occurrences-Atom head args) declared))))
        (λ a h formed declared. subst (FormulaOver sig) (sym (theory-Not a)) (over_negation (part_over a (Not a) (well_formed-Not a) (occurrences-Not a) h formed declared)))
        (λ a b h k formed declared. subst (FormulaOver sig) (sym (theory-And a b)) (let both = parts_over a b (And a b) (well_formed-And a b) (occurrences-And a b) h k formed declared in over_conjunction both.0 both.1))
        (λ a b h k formed declared. subst (FormulaOver sig) (sym (theory-Or a b)) (let both = parts_over a b (Or a b) (well_formed-Or a b) (occurrences-Or a b) h k formed declared in over_disjunction both.0 both.1))
        (λ a b h k formed declared. subst (FormulaOver sig) (sym (theory-Imp a b)) (let both = parts_over a b (Imp a b) (well_formed-Imp a b) (occurrences-Imp a b) h k formed declared in over_implication both.0 both.1))
        (λ a b h k formed declared. subst (FormulaOver sig) (sym (theory-Iff a b)) (let both = parts_over a b (Iff a b) (well_formed-Iff a b) (occurrences-Iff a b) h k formed declared in over_equivalence both.0 both.1))
        (λ a h formed declared. subst (FormulaOver sig) (sym (theory-All a)) (over_universal (part_over a (All a) (well_formed-All a) (occurrences-All a) h formed declared)))
        (λ a h formed declared. subst (FormulaOver sig) (sym (theory-Ex a)) (over_existential (part_over a (Ex a) (well_formed-Ex a) (occurrences-Ex a) h formed declared)))
