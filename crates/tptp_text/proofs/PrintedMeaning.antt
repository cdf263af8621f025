-- What the form of a printed formula means is the formula.
use Rattle.std.proofs.Common.{◌≡◌, ◌≢◌, ℕ, zero, suc, ◌+◌, ◌-◌, ◌^◌, ◌<◌, Bool, true, false, ◌&&◌, ◌||◌, List, [], ◌∷◌, ◌++◌, length, map, Option, Some, None, ◌⊎◌, inl, inr, nat_eq, refl, sym, ap, ap₂, subst, ◌∙◌, append_assoc, append-nil, add-one, arith, rules, codes, length-append}
use Rattle.std.specs.Prelude.{nat_lt, option_map}
use Rattle.std.specs.Cmp.Lexicographic.{pointwise, same_text}
use Rattle.std.proofs.lemmas.Bool.{cases_Bool, and_parts, eqb-true, ltb-true}
use Rattle.std.proofs.lemmas.Cmp.{nat_list_eq_equiv}
use Rattle.std.proofs.lemmas.Fmt.{decimal_injective}
use Rattle.std.proofs.lemmas.List.{length-map}
use Rattle.std.proofs.lemmas.List.Folds.{list_any-append}
use Rattle.dk_syntax.proofs.FormulaLaws.{formula_induction, depth-Not, depth-And, depth-Or, depth-Imp, depth-Iff, depth-All, depth-Ex}
use Rattle.dk_syntax.proofs.ListLaws.{ForEach, for_each}
use Rattle.dk_syntax.proofs.TermLaws.{term_induction}
use Rattle.dk_syntax.specs.Depth.{formula_depth}
use Rattle.dk_syntax.specs.Symbols.{joined, same_kind}
use Rattle.dk_syntax.specs.declared.Formula.{Formula, the_lemmas as of_formulas}
use Rattle.dk_syntax.specs.declared.Formula.TheVariants as formula
use Rattle.dk_syntax.specs.declared.Kind.{Kind}
use Rattle.dk_syntax.specs.declared.Kind.TheVariants.{Function, Predicate}
use Rattle.dk_syntax.specs.declared.SymKey.{SymKey}
use Rattle.dk_syntax.specs.declared.Term.{Term, the_lemmas as of_terms}
use Rattle.dk_syntax.specs.declared.Term.TheVariants as term
use Rattle.tptp_formulas.proofs.RawEquations.{meaning-Variable, meaning-Apply, meaning-Atom, meaning-Dollar, meaning-Unit, meaning-Binary, meaning-Chain, variables-Variable, variables-Apply, free-Atom, free-Unit, free-Binary, free-Chain, outside-Apply, outside-Atom, outside-Unit, outside-Binary, outside-Chain}
use Rattle.tptp_formulas.specs.Meaning.{number, number_or, symbol, variable, term_of, linked, connected, wrapped, formula_of, body_of}
use Rattle.tptp_formulas.specs.Outside.{first_some, outside_term, outside_of}
use Rattle.tptp_formulas.specs.Scopes.{Names, names_of, has_name, unbound, term_variables, each, free_in, first_free}
use Rattle.dk_syntax.specs.WellFormed.{all_true, fits_symbol}
use Rattle.tptp_formulas.proofs.ProperTrees.{proper_since, proper_term, proper_under}
use Rattle.tptp_formulas.specs.Proper.{IsProper}
use Rattle.tptp_formulas.specs.declared.Body.TheVariants.{Plain}
use Rattle.tptp_formulas.specs.declared.Connective.{Connective}
use Rattle.tptp_formulas.specs.declared.Connective.TheVariants as connective
use Rattle.tptp_formulas.specs.declared.Link.{Link}
use Rattle.tptp_formulas.specs.declared.Link.TheVariants as link
use Rattle.tptp_formulas.specs.declared.Prefix.TheVariants as prefix
use Rattle.tptp_formulas.specs.declared.Raw.{Raw, the_lemmas as of_raw}
use Rattle.tptp_formulas.specs.declared.Raw.TheVariants as raw
use Rattle.tptp_formulas.specs.declared.RawTerm.{RawTerm, the_lemmas as of_raw_terms}
use Rattle.tptp_formulas.specs.declared.RawTerm.TheVariants as raw_term
use Rattle.tptp_text.specs.Printed.{variable_text}
use Rattle.tptp_text.specs.PrintedForms.{level_names, term_form, UnitParts, whole, bare, behind, parts_of}
use Rattle.tptp_text.proofs.PrintedFormLaws.{form-Var, form-App, parts-True, parts-False, parts-Atom, parts-Not, parts-And, parts-Or, parts-Imp, parts-Iff, parts-All, parts-Ex}

-- ---- names and numbers

same_name : (name : List ℕ) → pointwise nat_eq name name ≡ true
same_name name = nat_list_eq_equiv.refl name

other_name : (a b : List ℕ) → a ≢ b → pointwise nat_eq a b ≡ false
other_name a b differs = elim (cases_Bool (pointwise nat_eq a b)) [ inl e ↦ absurd (differs (same_text a b (sym e))) | inr e ↦ e ]

text_injective : (m n : ℕ) → m < 2 ^ 64 → n < 2 ^ 64 → variable_text m ≡ variable_text n → m ≡ n
text_injective m n mf nf e = decimal_injective m n mf nf cc

nearest_same : (name : List ℕ) (names : Names) → number name (names ++ name ∷ []) ≡ Some 0
nearest_same name [] = rw (same_name name) refl
nearest_same name (x ∷ names) = rw (nearest_same name names) refl

one_more : (o : Option ℕ) (same : Bool) (n : ℕ) → number_or (option_map (λ k. suc k) o) same (suc n) ≡ option_map (λ k. suc k) (number_or o same n)
one_more (Some k) same n = refl
one_more None true n = refl
one_more None false n = refl

nearest_other : (name y : List ℕ) (names : Names) → pointwise nat_eq name y ≡ false → number name (names ++ y ∷ []) ≡ option_map (λ k. suc k) (number name names)
nearest_other name y [] e = rw e refl
nearest_other name y (x ∷ names) e =
    let len : length (names ++ y ∷ []) ≡ suc (length names) = omega (arith, length-append names (y ∷ [])) in
    rw (nearest_other name y names e, len) (one_more (number name names) (pointwise nat_eq name x) (length names))

lt_or_same : (d n : ℕ) → d < suc n → (d < n) ⊎ (d ≡ n)
lt_or_same d n h = grind arith

number_of_level : (level k : ℕ) → k < level → level < 2 ^ 64 → number (variable_text k) (level_names level) ≡ Some (level - 1 - k)
number_of_level zero k lt small = absurd (omega arith)
number_of_level (suc level) k lt small = elim (lt_or_same k level lt) [
  | inl below ↦
      let differs : variable_text k ≢ variable_text level = λ e. (let same = text_injective k level (omega arith) (omega arith) e in omega arith) in
      let n : suc (level - 1 - k) ≡ suc level - 1 - k = omega arith in
      nearest_other (variable_text k) (variable_text level) (level_names level) (other_name _ _ differs) ∙ ap (option_map (λ j. suc j)) (number_of_level level k below (omega arith)) ∙ ap (λ j. Some j) n
  | inr same ↦
      let n : 0 ≡ suc level - 1 - level = omega arith in
      rw same (nearest_same (variable_text level) (level_names level) ∙ ap (λ j. Some j) n)
]

or_true : (b : Bool) → (b || true) ≡ true
or_true true = refl
or_true false = refl

has_level : (level k : ℕ) → k < level → has_name (level_names level) (variable_text k) ≡ true
has_level zero k lt = absurd (omega arith)
has_level (suc level) k lt = elim (lt_or_same k level lt) [
  | inl below ↦ list_any-append (pointwise nat_eq (variable_text k)) (level_names level) (variable_text level ∷ []) ∙ rw (has_level level k below) refl
  | inr same ↦ list_any-append (pointwise nat_eq (variable_text k)) (level_names level) (variable_text level ∷ []) ∙ rw (same, same_name (variable_text level)) (or_true (has_name (level_names level) (variable_text level)))
]

unbound_both : (bound a b : Names) → unbound bound a ≡ [] → unbound bound b ≡ [] → unbound bound (a ++ b) ≡ []
unbound_both bound [] b e f = f
unbound_both bound (name ∷ a) b e f = elim (cases_Bool (has_name bound name)) [
  | inl h ↦ rw h (unbound_both bound a b (rw h at e) f)
  | inr h ↦ absurd (let wrong = rw h at e in cc)
]

-- ---- terms

proper-Var : (level n : ℕ) → proper_term level (term.Var n) ≡ nat_lt n level
proper-Var level n = search (rules, of_terms)

proper-App : (level : ℕ) (s : SymKey) (args : List Term) → proper_term level (term.App s args) ≡ (fits_symbol Function s (length args) && all_true (map (proper_term level) args))
proper-App level s args = grind (arith, of_terms, length-map)

proper-Any : (level : ℕ) → proper_term level term.Any ≡ false
proper-Any level = search (rules, of_terms)

outside-Variable : (name : List ℕ) → outside_term (raw_term.Variable name) ≡ None
outside-Variable name = search (rules, of_raw_terms)

-- what the form of a term means
abbrev TermFacts : ℕ → RawTerm → Term → Type 0
TermFacts level r x = (term_of r (level_names level) ≡ x) × (unbound (level_names level) (term_variables r) ≡ []) × (outside_term r ≡ None)

abbrev ListFacts : ℕ → List RawTerm → List Term → Type 0
ListFacts level rs xs = (each (level_names level) (map term_of rs) ≡ xs) × (unbound (level_names level) (joined (map term_variables rs)) ≡ []) × (first_some (map outside_term rs) ≡ None)

abbrev TermMeans : Term → Type 0
TermMeans x = (level : ℕ) → level < 2 ^ 64 → proper_term level x ≡ true → TermFacts level (term_form x level) x

list_means : (xs : List Term) → ForEach TermMeans xs → (level : ℕ) → level < 2 ^ 64 → all_true (map (proper_term level) xs) ≡ true → ListFacts level (each level (map term_form xs)) xs
list_means [] known level small proper = (refl, refl, refl)
list_means (x ∷ xs) known level small proper =
    let p = and_parts (proper_term level x) (all_true (map (proper_term level) xs)) proper in
    let first = known.0 level small p.0 in
    let others = list_means xs known.1 level small p.1 in (
      ap₂ (λ (y : Term) (ys : List Term). y ∷ ys) first.0 others.0,
      unbound_both (level_names level) (term_variables (term_form x level)) (joined (map term_variables (each level (map term_form xs)))) first.1 others.1,
      rw (first.2) (others.2),
    )

length-each : {A B : Type 0} (bound : A) (xs : List (A → B)) → length (each bound xs) ≡ length xs
length-each bound [] = refl
length-each bound (x ∷ xs) = let h = length-each bound xs in omega arith

forms_length : (level : ℕ) (xs : List Term) → length (each level (map term_form xs)) ≡ length xs
forms_length level xs = length-each level (map term_form xs) ∙ length-map xs term_form

function_is : (k : Kind) → same_kind k Function ≡ true → k ≡ Function
function_is Function e = refl
function_is Predicate e = absurd (let c = e in cc)

predicate_is : (k : Kind) → same_kind k Predicate ≡ true → k ≡ Predicate
predicate_is Predicate e = refl
predicate_is Function e = absurd (let c = e in cc)

symbol_is : (s : SymKey) (n : ℕ) (k : Kind) → s.arity ≡ n → s.kind ≡ k → symbol s.name n k ≡ s
symbol_is s n k e f = ap₂ (λ (m : ℕ) (j : Kind). symbol s.name m j) (sym e) (sym f)

term_means : (x : Term) → TermMeans x
term_means = term_induction TermMeans
    (λ n level small proper.
    let below : n < level = ltb-true n level (sym (proper-Var level n) ∙ proper) in
    let number_is : number (variable_text (level - 1 - n)) (level_names level) ≡ Some (level - 1 - (level - 1 - n)) = number_of_level level (level - 1 - n) (omega arith) small in
    let back : level - 1 - (level - 1 - n) ≡ n = omega arith in
    rw (form-Var n level) (
      meaning-Variable (variable_text (level - 1 - n)) (level_names level) ∙ ap variable (number_is ∙ ap (λ j. Some j) back),
      ap (unbound (level_names level)) (variables-Variable (variable_text (level - 1 - n))) ∙ rw (has_level level (level - 1 - n) (omega arith)) refl,
      outside-Variable (variable_text (level - 1 - n)),
    ))
    (λ s args known level small proper.
    let p = and_parts (fits_symbol Function s (length args)) (all_true (map (proper_term level) args)) (sym (proper-App level s args) ∙ proper) in
    let q = and_parts (same_kind s.kind Function) (nat_eq s.arity (length args)) p.0 in
    let facts = list_means args known level small p.1 in
    let forms = each level (map term_form args) in
    let count : s.arity ≡ length (map term_of forms) = eqb-true s.arity (length args) q.1 ∙ sym (length-map forms term_of ∙ forms_length level args) in
    rw (form-App s args level) (
      meaning-Apply s.name forms (level_names level) ∙ ap₂ (λ (f : SymKey) (xs : List Term). term.App f xs) (symbol_is s (length (map term_of forms)) Function count (function_is s.kind q.0)) facts.0,
      ap (unbound (level_names level)) (variables-Apply s.name forms) ∙ facts.1,
      outside-Apply s.name forms ∙ facts.2,
    ))
    (λ level small proper. absurd (let wrong = sym (proper-Any level) ∙ proper in cc))

-- ---- formulas

proper-Atom : (s : SymKey) (args : List Term) (level : ℕ) → proper_under (formula.Atom s args) level ≡ (fits_symbol Predicate s (length args) && all_true (map (proper_term level) args))
proper-Atom s args level = search (rules, of_formulas)

proper-Not : (a : Formula) (level : ℕ) → proper_under (formula.Not a) level ≡ proper_under a level
proper-Not a level = search (rules, of_formulas)

proper-And : (a b : Formula) (level : ℕ) → proper_under (formula.And a b) level ≡ (proper_under a level && proper_under b level)
proper-And a b level = search (rules, of_formulas)

proper-Or : (a b : Formula) (level : ℕ) → proper_under (formula.Or a b) level ≡ (proper_under a level && proper_under b level)
proper-Or a b level = search (rules, of_formulas)

proper-Imp : (a b : Formula) (level : ℕ) → proper_under (formula.Imp a b) level ≡ (proper_under a level && proper_under b level)
proper-Imp a b level = search (rules, of_formulas)

proper-Iff : (a b : Formula) (level : ℕ) → proper_under (formula.Iff a b) level ≡ (proper_under a level && proper_under b level)
proper-Iff a b level = search (rules, of_formulas)

proper-All : (a : Formula) (level : ℕ) → proper_under (formula.All a) level ≡ proper_under a (level + 1)
proper-All a level = search (rules, of_formulas)

proper-Ex : (a : Formula) (level : ℕ) → proper_under (formula.Ex a) level ≡ proper_under a (level + 1)
proper-Ex a level = search (rules, of_formulas)

free-Dollar : (name : List ℕ) (bound : Names) → free_in (raw.Dollar name []) bound ≡ []
free-Dollar name bound = search (rules, of_raw)

outside-true : outside_of (raw.Dollar (codes "$true") []) ≡ None
outside-true = search (rules, of_raw)

outside-false : outside_of (raw.Dollar (codes "$false") []) ≡ None
outside-false = search (rules, of_raw)

-- what the form of a formula means where these names are bound
abbrev Facts : Names → Raw → Formula → Type 0
Facts bound r f = (formula_of r bound ≡ f) × (free_in r bound ≡ []) × (outside_of r ≡ None)

bare_facts : (bound : Names) (r : Raw) (f : Formula) → Facts bound r f → Facts bound (whole (bare r)) f
bare_facts bound r f h =
    (meaning-Unit [] r bound ∙ ap (formula_of r) (append-nil bound) ∙ h.0, free-Unit [] r bound ∙ ap (free_in r) (append-nil bound) ∙ h.1, outside-Unit [] r ∙ h.2)

not_facts : (bound : Names) (p : UnitParts) (f : Formula) → Facts bound (whole p) f → Facts bound (whole (behind prefix.Not p)) (formula.Not f)
not_facts bound p f h = (
  meaning-Unit (prefix.Not ∷ p.prefixes) p.core bound ∙ ap formula.Not (sym (meaning-Unit p.prefixes p.core bound) ∙ h.0),
  free-Unit (prefix.Not ∷ p.prefixes) p.core bound ∙ (sym (free-Unit p.prefixes p.core bound) ∙ h.1),
  outside-Unit (prefix.Not ∷ p.prefixes) p.core ∙ (sym (outside-Unit p.prefixes p.core) ∙ h.2),
)

all_facts : (bound : Names) (name : List ℕ) (p : UnitParts) (f : Formula) → Facts (bound ++ name ∷ []) (whole p) f → Facts bound (whole (behind (prefix.ForAll (name ∷ [])) p)) (formula.All f)
all_facts bound name p f h =
    let scope : bound ++ name ∷ names_of p.prefixes ≡ (bound ++ name ∷ []) ++ names_of p.prefixes = sym (append_assoc bound (name ∷ []) (names_of p.prefixes)) in (
      meaning-Unit (prefix.ForAll (name ∷ []) ∷ p.prefixes) p.core bound ∙ ap (λ (b : Names). formula.All (wrapped p.prefixes (formula_of p.core b))) scope ∙ ap formula.All (sym (meaning-Unit p.prefixes p.core (bound ++ name ∷ [])) ∙ h.0),
      free-Unit (prefix.ForAll (name ∷ []) ∷ p.prefixes) p.core bound ∙ (ap (free_in p.core) scope ∙ (sym (free-Unit p.prefixes p.core (bound ++ name ∷ [])) ∙ h.1)),
      outside-Unit (prefix.ForAll (name ∷ []) ∷ p.prefixes) p.core ∙ (sym (outside-Unit p.prefixes p.core) ∙ h.2),
    )

ex_facts : (bound : Names) (name : List ℕ) (p : UnitParts) (f : Formula) → Facts (bound ++ name ∷ []) (whole p) f → Facts bound (whole (behind (prefix.Exists (name ∷ [])) p)) (formula.Ex f)
ex_facts bound name p f h =
    let scope : bound ++ name ∷ names_of p.prefixes ≡ (bound ++ name ∷ []) ++ names_of p.prefixes = sym (append_assoc bound (name ∷ []) (names_of p.prefixes)) in (
      meaning-Unit (prefix.Exists (name ∷ []) ∷ p.prefixes) p.core bound ∙ ap (λ (b : Names). formula.Ex (wrapped p.prefixes (formula_of p.core b))) scope ∙ ap formula.Ex (sym (meaning-Unit p.prefixes p.core (bound ++ name ∷ [])) ∙ h.0),
      free-Unit (prefix.Exists (name ∷ []) ∷ p.prefixes) p.core bound ∙ (ap (free_in p.core) scope ∙ (sym (free-Unit p.prefixes p.core (bound ++ name ∷ [])) ∙ h.1)),
      outside-Unit (prefix.Exists (name ∷ []) ∷ p.prefixes) p.core ∙ (sym (outside-Unit p.prefixes p.core) ∙ h.2),
    )

chain_facts : (bound : Names) (l : Link) (p q : Raw) (f g : Formula) → Facts bound p f → Facts bound q g → Facts bound (raw.Chain l p (q ∷ [])) (linked l f g)
chain_facts bound l p q f g h k = (
  meaning-Chain l p (q ∷ []) bound ∙ ap₂ (λ (a b : Formula). linked l a b) h.0 k.0,
  free-Chain l p (q ∷ []) bound ∙ rw (h.1, k.1) refl,
  outside-Chain l p (q ∷ []) ∙ rw (h.2, k.2) refl,
)

binary_facts : (bound : Names) (c : Connective) (p q : Raw) (f g : Formula) → Facts bound p f → Facts bound q g → Facts bound (raw.Binary c p q) (connected c f g)
binary_facts bound c p q f g h k =
    (meaning-Binary c p q bound ∙ ap₂ (λ (a b : Formula). connected c a b) h.0 k.0, free-Binary c p q bound ∙ rw (h.1, k.1) refl, outside-Binary c p q ∙ rw (h.2, k.2) refl)

abbrev FormulaMeans : Formula → Type 0
FormulaMeans f = (level : ℕ) → level + formula_depth f < 2 ^ 64 → proper_under f level ≡ true → Facts (level_names level) (whole (parts_of f level)) f

atom_facts : (s : SymKey) (args : List Term) (level : ℕ) → level < 2 ^ 64 → proper_under (formula.Atom s args) level ≡ true → Facts (level_names level) (raw.Atom s.name (each level (map term_form args))) (formula.Atom s args)
atom_facts s args level small proper =
    let p = and_parts (fits_symbol Predicate s (length args)) (all_true (map (proper_term level) args)) (sym (proper-Atom s args level) ∙ proper) in
    let q = and_parts (same_kind s.kind Predicate) (nat_eq s.arity (length args)) p.0 in
    let facts = list_means args (for_each TermMeans term_means args) level small p.1 in
    let forms = each level (map term_form args) in
    let count : s.arity ≡ length forms = eqb-true s.arity (length args) q.1 ∙ sym (forms_length level args) in (
      meaning-Atom s.name forms (level_names level) ∙ ap₂ (λ (f : SymKey) (xs : List Term). formula.Atom f xs) (symbol_is s (length forms) Predicate count (predicate_is s.kind q.0)) facts.0,
      free-Atom s.name forms (level_names level) ∙ facts.1,
      outside-Atom s.name forms ∙ facts.2,
    )

next_names : (level : ℕ) → level_names (level + 1) ≡ level_names level ++ variable_text level ∷ []
next_names level = rw add-one refl

formula_means : (f : Formula) → FormulaMeans f
formula_means = formula_induction FormulaMeans
    (λ level small proper. rw (parts-True level) (bare_facts (level_names level) _ _ (meaning-Dollar (codes "$true") [] (level_names level), free-Dollar (codes "$true") (level_names level), outside-true)))
    (λ level small proper. rw (parts-False level) (bare_facts (level_names level) _ _ (meaning-Dollar (codes "$false") [] (level_names level), free-Dollar (codes "$false") (level_names level), outside-false)))
    (λ s args level small proper. rw (parts-Atom s args level) (bare_facts (level_names level) _ _ (atom_facts s args level (omega arith) proper)))
    (λ a known level small proper. let fits = rw (depth-Not a) at small in rw (parts-Not a level) (not_facts (level_names level) (parts_of a level) a (known level (omega arith) (sym (proper-Not a level) ∙ proper))))
    (λ a b left right level small proper. let fits = rw (depth-And a b) at small in let p = and_parts (proper_under a level) (proper_under b level) (sym (proper-And a b level) ∙ proper) in
    rw (parts-And a b level) (bare_facts (level_names level) _ _ (chain_facts (level_names level) link.And _ _ a b (left level (omega arith) p.0) (right level (omega arith) p.1))))
    (λ a b left right level small proper. let fits = rw (depth-Or a b) at small in let p = and_parts (proper_under a level) (proper_under b level) (sym (proper-Or a b level) ∙ proper) in
    rw (parts-Or a b level) (bare_facts (level_names level) _ _ (chain_facts (level_names level) link.Or _ _ a b (left level (omega arith) p.0) (right level (omega arith) p.1))))
    (λ a b left right level small proper. let fits = rw (depth-Imp a b) at small in let p = and_parts (proper_under a level) (proper_under b level) (sym (proper-Imp a b level) ∙ proper) in
    rw (parts-Imp a b level) (bare_facts (level_names level) _ _ (binary_facts (level_names level) connective.Implies _ _ a b (left level (omega arith) p.0) (right level (omega arith) p.1))))
    (λ a b left right level small proper. let fits = rw (depth-Iff a b) at small in let p = and_parts (proper_under a level) (proper_under b level) (sym (proper-Iff a b level) ∙ proper) in
    rw (parts-Iff a b level) (bare_facts (level_names level) _ _ (binary_facts (level_names level) connective.Iff _ _ a b (left level (omega arith) p.0) (right level (omega arith) p.1))))
    (λ a known level small proper. let fits = rw (depth-All a) at small in
    rw (parts-All a level) (all_facts (level_names level) (variable_text level) (parts_of a (level + 1)) a (subst (λ (b : Names). Facts b (whole (parts_of a (level + 1))) a) (next_names level) (known (level + 1) (omega arith) (sym (proper-All a level) ∙ proper)))))
    (λ a known level small proper. let fits = rw (depth-Ex a) at small in
    rw (parts-Ex a level) (ex_facts (level_names level) (variable_text level) (parts_of a (level + 1)) a (subst (λ (b : Names). Facts b (whole (parts_of a (level + 1))) a) (next_names level) (known (level + 1) (omega arith) (sym (proper-Ex a level) ∙ proper)))))

-- ---- the whole formula

-- what a printed formula means is the formula, and nothing in it is free
pub printed_body : (f : Formula) → formula_depth f < 2 ^ 64 → IsProper f → (body_of (whole (parts_of f 0)) ≡ Plain f) × (first_free (whole (parts_of f 0)) ≡ None)
printed_body f small proper =
    let facts = formula_means f 0 (omega arith) (proper_since f proper) in
    (rw (facts.2, facts.1, facts.0) refl, rw (facts.1) refl)
