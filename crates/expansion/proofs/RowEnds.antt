-- The ends of a row's thin tree are the row's ground clause.
use Rattle.std.proofs.Common.{◌≡◌, ◌≤◌, ℕ, zero, suc, nat_eq, nat_lt, List, [], ◌∷◌, ◌++◌, cond, get_or, length, map, refl, sym, ap, ◌∙◌, subst, arith, inl, inr, append-nil, Option, None, Some}
use Rattle.std.specs.List.{position, position_or_len}
use Rattle.std.proofs.lemmas.List.{get_or_past}
use Rattle.std.proofs.lemmas.List.Recursion.{is_position_or_len}
use Rattle.std.proofs.lemmas.Bool.{cases_Bool}
use mathlib.Core.Path.{fun_ext}
use Rattle.dk_syntax.proofs.ListLaws.{every_at}
use Rattle.dk_syntax.proofs.WellFormedLaws.{closed-Any}
use Rattle.dk_syntax.specs.Lists.{Entry, Every, every_nil}
use Rattle.dk_syntax.specs.WellFormed.{IsGround}
use Rattle.dk_syntax.specs.declared.Literal.{Literal}
use Rattle.dk_syntax.specs.declared.Term.{Term}
use Rattle.dk_syntax.specs.declared.Term.TheVariants.{Any, App, Var}
use Rattle.expansion.proofs.EntryLaws.{image_found, symbols_of_map}
use Rattle.expansion.proofs.Everywhere.{entry_of_map, every_head, every_pair, every_tail}
use Rattle.expansion.proofs.InstanceLaws.{instance_renamed}
use Rattle.expansion.proofs.ThinLaws.{Agrees, Owned, image_made}
use Rattle.expansion.specs.Choices.{Chosen, assigned, chosen, chosen_as, chosen_in, skolem_term, term_there}
use Rattle.expansion.specs.Laws.{RowsAreThin}
use Rattle.expansion.specs.Rows.{ground_clause, symbols_in, term_at}
use Rattle.expansion.specs.ThinTrees.{IsThinTree}
use Rattle.normal_form.proofs.NormalFacts.{free_is}
use Rattle.normal_form.proofs.RowLaws.{literals_back, rows_are_choices}
use Rattle.normal_form.specs.ClauseLists.{clause_rows, quants_of, row_of, rows_of}
use Rattle.normal_form.specs.Forms.{form_of}
use Rattle.normal_form.specs.Occurrence.{IsClosedForm}
use Rattle.normal_form.specs.Renaming.{place_of, renamed_literal}
use Rattle.normal_form.specs.RowFacts.{literals_of}
use Rattle.normal_form.specs.declared.ClauseRow.{ClauseRow}
use Rattle.normal_form.specs.declared.Nf.{Nf}
use Rattle.normal_form.specs.declared.raw.Raw.{Raw}
use Rattle.dk_syntax.specs.Terms.{instance}

-- ---- the terms of universals

-- the first place of a number in two words
place_is : (n : ℕ) (quants : List ℕ) → place_of quants n ≡ position_or_len (λ m. nat_eq m n) quants
place_is n = is_position_or_len (λ quants. place_of quants n) (λ m. nat_eq m n) refl (λ m quants. refl)

-- the term at a universal's place is the universal's
at_place : (quants : List ℕ) (terms : List Term) → length terms ≡ length quants → (n : ℕ) → term_at terms (place_of quants n) ≡ assigned quants terms n
at_place quants terms h n =
    let place = position_or_len (λ m. nat_eq m n) quants in
    ap (term_at terms) (place_is n quants) ∙ elim (cases_Bool (nat_lt place (length quants))) [
      | inl p ↦ sym (ap (λ b. term_there terms (cond b (Some place) None)) p)
      | inr p ↦
          let far : length quants ≤ place = grind (arith, p) in
          get_or_past terms place Any (omega (arith, h, far)) ∙ sym (ap (λ b. term_there terms (cond b (Some place) None)) p)
    ]

read_ground : (terms : List Term) → Every IsGround terms → (k : ℕ) → IsGround (get_or terms k Any)
read_ground [] h k = closed-Any 0
read_ground (t ∷ terms) h zero = every_head h
read_ground (t ∷ terms) h (suc k) = read_ground terms (every_tail h) k

there_ground : (terms : List Term) → Every IsGround terms → (place : Option ℕ) → IsGround (term_there terms place)
there_ground terms h None = closed-Any 0
there_ground terms h (Some k) = read_ground terms h k

-- the terms of universals are ground where the row's terms are
pub assigned_ground : (quants : List ℕ) (terms : List Term) → Every IsGround terms → (n : ℕ) → IsGround (assigned quants terms n)
assigned_ground quants terms h n = there_ground terms h (position (λ m. nat_eq m n) quants)

-- ---- the row's ground clause

lits_renamed : (terms : List Term) (quants : List ℕ) (lits : List Literal)
    → map (instance (term_at terms)) (map (renamed_literal (place_of quants)) lits) ≡ map (instance (λ n. term_at terms (place_of quants n))) lits
lits_renamed terms quants [] = refl
lits_renamed terms quants (l ∷ lits) =
    ap (λ x. x ∷ map (instance (term_at terms)) (map (renamed_literal (place_of quants)) lits)) (instance_renamed (term_at terms) (place_of quants) l)
    ∙ ap (λ x. instance (λ n. term_at terms (place_of quants n)) l ∷ x) (lits_renamed terms quants lits)

-- with the terms of universals for its numbers, a row's literals are its ground clause
row_grounded : (row : Raw) (terms : List Term) → length terms ≡ length (quants_of row.lits)
    → map (instance (assigned (quants_of row.lits) terms)) (literals_of (row_of row)) ≡ ground_clause (row_of row) terms
row_grounded row terms h =
    let quants = quants_of row.lits in
    ap (map (instance (assigned quants terms))) (literals_back row)
    ∙ ap (λ (v : ℕ → Term). map (instance v) row.lits) (sym (fun_ext (at_place quants terms h)))
    ∙ sym (lits_renamed terms quants row.lits)

pub grounded : (image : Nf) (place : ℕ) (row : ClauseRow) (terms : List Term) → Entry (clause_rows image) place row → length terms ≡ row.clause.vars
    → map (instance (assigned row.quants terms)) (literals_of row) ≡ ground_clause row terms
grounded image place row terms h many =
    let from = entry_of_map row_of ((rows_of image).1 0 []) h in
    subst (λ (r : ClauseRow). length terms ≡ r.clause.vars → map (instance (assigned r.quants terms)) (literals_of r) ≡ ground_clause r terms)
    from.1 (row_grounded from.0 terms) many

-- ---- the ends

pub none_owned : Owned [] []
none_owned y n h = cc

pub closed_agrees : (leaf : Nf) (v : ℕ → Term) → IsClosedForm leaf → Agrees v [] Var (form_of leaf) (λ k. Any)
closed_agrees leaf v h k i = absurd (let a = sym (free_is leaf k) ∙ i in let b = h k in cc)

-- the choices of a row's thin tree lead through the form to the row's ground clause
pub rows_are_thin : RowsAreThin
rows_are_thin sign leaf entries row terms g =
    let v = assigned row.quants terms in
    let w = skolem_term v entries in
    let skolem = symbols_in entries in
    let whole : entries ++ [] ≡ entries = append-nil entries in
    let found = subst (λ l. Every (λ one. skolem_term v l one.ex ≡ App one.symbol (map v one.args)) entries) whole (image_found v g.leads [] [] every_nil) in
    let choice = every_at (rows_are_choices g.image) g.listed in
    let made = image_made skolem v w (assigned_ground row.quants terms g.ground) g.leads 0 [] (λ k. Any) (literals_of row) row.picks none_owned
    (closed_agrees leaf v g.closed) (every_pair found (symbols_of_map entries)) choice.0 in
    let same : chosen_in leaf entries row terms ≡ chosen_as made.terms made.skolems [] = ap (chosen v w 0 0 (form_of leaf)) (sym (append-nil row.picks)) ∙ made.same [] in
    subst (λ (c : Chosen). IsThinTree skolem (λ k. Any) (form_of leaf) row.picks c.terms c.skolems (ground_clause row terms)) (sym same)
    (subst (IsThinTree skolem (λ k. Any) (form_of leaf) row.picks made.terms made.skolems) (grounded g.image g.place row terms g.listed g.many) made.tree)
