-- A worked row: from ![X]:?[Y]:(r(X,Y)&s(Y)) to s(f(X)) in one step.
use Rattle.std.proofs.Common.{◌≡◌, ◌<◌, ◌+◌, ℕ, zero, suc, Bool, true, false, List, [], ◌∷◌, ◌++◌, map, Some, slice_get, refl, sym, ap, ap₂, ◌∙◌, subst, arith, codes, rules, inl, inr}
use Rattle.std.specs.List.{All}
use Rattle.dk_syntax.proofs.TermLaws.{App-injective}
use Rattle.dk_syntax.specs.declared.Clause.{Clause}
use Rattle.dk_syntax.specs.declared.Kind.TheVariants.{Function, Predicate}
use Rattle.dk_syntax.specs.declared.Literal.{Literal}
use Rattle.dk_syntax.specs.declared.SymKey.{SymKey}
use Rattle.dk_syntax.specs.declared.Term.{Term, the_lemmas as of_terms}
use Rattle.dk_syntax.specs.declared.Term.TheVariants.{App, Var}
use Rattle.dk_syntax.specs.Symbols.{joined}
use Rattle.normal_form.specs.ClauseLists.{clause_over, clause_rows, quants_of, raw, row_of, rows_of, taking, variables_of, with_numbers}
use Rattle.normal_form.specs.Renaming.{owner, place_of, renamed, renamed_literal}
use Rattle.normal_form.specs.declared.clause_list.ClauseList.{ClauseList}
use Rattle.normal_form.specs.declared.clause_list.ClauseRow.{ClauseRow}
use Rattle.normal_form.specs.declared.form.Nf.{Nf, the_lemmas as of_forms}
use Rattle.normal_form.specs.declared.form.Nf.TheVariants as nf
use Rattle.step_clause.specs.Candidates.{Before, Candidate, IsClause, IsListBefore, resolution, Subsumes, subsumption, Works}
use Rattle.step_clause.specs.Justifications.{closed, IsJustification, IsMostGeneral}
use Rattle.step_clause.specs.declared.justification.Justification.{Justification}
use Rattle.step_clause.specs.declared.justification.Justification.TheVariants.{Subsume}
use Rattle.dk_syntax.proofs.SubstitutionLaws.{substituted-App, substituted-Var}
use Rattle.dk_syntax.specs.Terms.{substituted, instance}
use Rattle.normal_form.proofs.FormLaws.{form-All, form-And, form-Ex, form-Lit}
use Rattle.step_compose.proofs.OneComposed.{same_some, some_or_none}
use Rattle.step_compose.specs.Composing.{Composes, HasItsArity, IsLeastComposed, symbol_by}
use Rattle.normal_form.specs.Forms.{all, and, ex, exs, Form, form_of, lit, nf_of}
use Rattle.step_compose.specs.declared.composed.Composed.{Composed}
use Rattle.step_compose.specs.FullImages.{full_entries, full_from, full_image, full_map}
use Rattle.step_skolem.specs.Images.{entry}
use Rattle.step_skolem.specs.Substitutions.{up, with_term}

abbrev r : SymKey
r = record { name = codes "r"; arity = 2; kind = Predicate }

abbrev pub s : SymKey
s = record { name = codes "s"; arity = 1; kind = Predicate }

abbrev f : SymKey
f = record { name = codes "f"; arity = 1; kind = Function }

abbrev pub holds : SymKey → List Term → Literal
holds pred args = record { positive = true; pred = pred; args = args }

abbrev n : Nf
n = nf.All (nf.Ex (nf.And (nf.Lit (holds r (Var 1 ∷ Var 0 ∷ []))) (nf.Lit (holds s (Var 0 ∷ [])))))

abbrev tree : Form
tree = all (ex (and (lit (holds r (Var 1 ∷ Var 0 ∷ []))) (lit (holds s (Var 0 ∷ [])))))

tree_is : form_of n ≡ tree
tree_is = form-All _ ∙ ap all (form-Ex _ ∙ ap ex (form-And _ _ ∙ ap₂ and (form-Lit _) (form-Lit _)))

abbrev fx : Term
fx = App f (Var 0 ∷ [])

abbrev symbols : ℕ → SymKey
symbols = symbol_by (f ∷ []) (0 ∷ [])

abbrev put : ℕ → Term
put = with_term fx (up Var)

r_is : instance put (holds r (Var 1 ∷ Var 0 ∷ [])) ≡ holds r (Var 0 ∷ fx ∷ [])
r_is = ap₂ (λ a b. holds r (a ∷ b ∷ [])) (substituted-Var put 1) (substituted-Var put 0)

s_is : instance put (holds s (Var 0 ∷ [])) ≡ holds s (fx ∷ [])
s_is = ap (λ a. holds s (a ∷ [])) (substituted-Var put 0)

abbrev image : Nf
image = nf.All (nf.And (nf.Lit (holds r (Var 0 ∷ fx ∷ []))) (nf.Lit (holds s (fx ∷ []))))

full_is : full_image symbols n ≡ image
full_is = ap (λ x. nf_of (full_from symbols Var 0 0 x)) tree_is ∙ ap₂ (λ a b. nf.All (nf.And (nf.Lit a) (nf.Lit b))) r_is s_is

map_is : full_map symbols n ≡ entry 0 f (0 ∷ []) ∷ []
map_is = ap (λ x. full_entries symbols [] 0 0 x) tree_is

renamed-Var : (p : ℕ → ℕ) (k : ℕ) → renamed p (Var k) ≡ Var (p k)
renamed-Var p k = search (rules, of_terms)

renamed-App : (p : ℕ → ℕ) (h : SymKey) (args : List Term) → renamed p (App h args) ≡ App h (map (renamed p) args)
renamed-App p h args = search (rules, of_terms)

variables-Var : (k : ℕ) → variables_of (Var k) ≡ k ∷ []
variables-Var k = search (rules, of_terms)

variables-App : (h : SymKey) (args : List Term) → variables_of (App h args) ≡ joined (map variables_of args)
variables-App h args = search (rules, of_terms)

rows-Lit : (l : Literal) → rows_of (nf.Lit l) ≡ (0, λ next around. raw (renamed_literal (owner around) l ∷ []) [] ∷ [])
rows-Lit l = search (rules, of_forms)

rows-And : (a b : Nf) → rows_of (nf.And a b)
    ≡ ((rows_of a).0 + (rows_of b).0, λ next around. map (taking false) ((rows_of a).1 next around) ++ map (taking true) ((rows_of b).1 (next + (rows_of a).0) around))
rows-And a b = search (rules, of_forms)

rows-All : (a : Nf) → rows_of (nf.All a) ≡ (1 + (rows_of a).0, λ next around. (rows_of a).1 (next + 1) (next ∷ around))
rows-All a = search (rules, of_forms)

abbrev image_r : Literal
image_r = holds r (Var 0 ∷ fx ∷ [])

abbrev image_s : Literal
image_s = holds s (fx ∷ [])

fx_stays : (p : ℕ → ℕ) → p 0 ≡ 0 → renamed p fx ≡ fx
fx_stays p e = renamed-App p f (Var 0 ∷ []) ∙ ap (λ x. App f (x ∷ [])) (renamed-Var p 0 ∙ ap Var e)

r_stays : (p : ℕ → ℕ) → p 0 ≡ 0 → renamed_literal p image_r ≡ image_r
r_stays p e = ap₂ (λ a b. holds r (a ∷ b ∷ [])) (renamed-Var p 0 ∙ ap Var e) (fx_stays p e)

s_stays : (p : ℕ → ℕ) → p 0 ≡ 0 → renamed_literal p image_s ≡ image_s
s_stays p e = ap (λ a. holds s (a ∷ [])) (fx_stays p e)

fx_variables : variables_of fx ≡ 0 ∷ []
fx_variables = variables-App f (Var 0 ∷ []) ∙ ap (λ x. joined (x ∷ [])) (variables-Var 0)

abbrev image_row : Literal → Bool → ClauseRow
image_row l side = record { clause = record { vars = 1; lits = l ∷ [] }; quants = 0 ∷ []; picks = side ∷ [] }

abbrev row_over : List ℕ → Literal → Bool → ClauseRow
row_over quants l side = record { clause = clause_over quants (l ∷ []); quants = quants; picks = side ∷ [] }

quants_r : quants_of (image_r ∷ []) ≡ 0 ∷ []
quants_r = ap₂ (λ a b. with_numbers [] (joined (joined (a ∷ b ∷ []) ∷ []))) (variables-Var 0) fx_variables

quants_s : quants_of (image_s ∷ []) ≡ 0 ∷ []
quants_s = ap (λ a. with_numbers [] (joined (joined (a ∷ []) ∷ []))) fx_variables

row_r : row_of (raw (image_r ∷ []) (false ∷ [])) ≡ image_row image_r false
row_r = ap (λ q. row_over q image_r false) quants_r ∙ ap (λ l. image_row l false) (r_stays (place_of (0 ∷ [])) refl)

row_s : row_of (raw (image_s ∷ []) (true ∷ [])) ≡ image_row image_s true
row_s = ap (λ q. row_over q image_s true) quants_s ∙ ap (λ l. image_row l true) (s_stays (place_of (0 ∷ [])) refl)

raw_is : (rows_of image).1 0 [] ≡ raw (image_r ∷ []) (false ∷ []) ∷ raw (image_s ∷ []) (true ∷ []) ∷ []
raw_is = ap (λ x. x.1 0 []) (rows-All _) ∙ ap (λ x. x.1 1 (0 ∷ [])) (rows-And _ _)
    ∙ ap₂ (λ x y. map (taking false) (x.1 1 (0 ∷ [])) ++ map (taking true) (y.1 (1 + x.0) (0 ∷ []))) (rows-Lit image_r) (rows-Lit image_s)
    ∙ ap₂ (λ a b. raw (a ∷ []) (false ∷ []) ∷ raw (b ∷ []) (true ∷ []) ∷ []) (r_stays (owner (0 ∷ [])) refl) (s_stays (owner (0 ∷ [])) refl)

rows_is : clause_rows (full_image symbols n) ≡ image_row image_r false ∷ image_row image_s true ∷ []
rows_is = ap clause_rows full_is ∙ ap (map row_of) raw_is ∙ ap₂ (λ a b. a ∷ b ∷ []) row_r row_s

-- ---- the step's clause s(f(X)) follows from the second clause of the image

abbrev target : ClauseRow
target = record { clause = record { vars = 1; lits = image_s ∷ [] }; quants = 0 ∷ []; picks = [] }

abbrev image_list : ClauseList
image_list = record { rows = image_row image_r false ∷ image_row image_s true ∷ [] }

abbrev step : Justification
step = Subsume 0 1 (0 ∷ []) (Var 0 ∷ [])

r_not_s : (args other : List Term) → holds r args ≡ holds s other → ⊥
r_not_s args other h = let e : 2 ≡ 1 = ap (λ l. l.pred.arity) h in absurd (omega (arith, e))

s_at : image_s ≡ instance Var image_s
s_at = ap (λ a. holds s (a ∷ [])) (sym (substituted-App Var f (Var 0 ∷ []) ∙ ap (λ x. App f (x ∷ [])) (substituted-Var Var 0)))

is_image_s : IsClause (image_list ∷ []) 0 1 (record { vars = 1; lits = image_s ∷ [] })
is_image_s = (image_list, image_row image_s true, refl, refl, refl)

works : Works target.clause (image_list ∷ []) (subsumption 0 1 (0 ∷ []))
works = (record { vars = 1; lits = image_s ∷ [] }, is_image_s, (Var, (ap Some s_at, tt)))

-- the first clause has no literal of the target's
first_fails : (t : ℕ → Term) (picks : List ℕ) → Subsumes t (image_s ∷ []) (image_r ∷ []) picks → ⊥
first_fails t [] h = h
first_fails t (zero ∷ picks) h = let e : image_s ≡ instance t image_r = same_some (Some image_s) image_s (instance t image_r) refl h.0 in r_not_s _ _ (sym e)
first_fails t (suc k ∷ picks) h = some_or_none (slice_get (image_s ∷ []) (suc k)) (instance t image_r) h.0 refl

first_clause : (c : Clause) → IsClause (image_list ∷ []) 0 0 c → c ≡ record { vars = 1; lits = image_r ∷ [] }
first_clause c (list, one, at, is, h) =
    let l : image_list ≡ list = cc in
    let a : image_row image_r false ≡ one = same_some (slice_get list.rows 0) (image_row image_r false) one (ap (λ x. slice_get x.rows 0) (sym l)) is in
    sym h ∙ ap (λ x. x.clause) (sym a)

none_before : (other : Candidate) → Works target.clause (image_list ∷ []) other → Before other (subsumption 0 1 (0 ∷ [])) → ⊥
none_before (resolution i k j l ps qs) w before = before
none_before (subsumption parent number picks) (c, at, w) (inl less) = omega (arith, less)
none_before (subsumption parent number picks) (c, at, w) (inr (e, inl less)) =
    let k : number ≡ 0 = omega (arith, less) in
    let is = first_clause c (subst (λ x. IsClause (image_list ∷ []) 0 x c) k (subst (λ x. IsClause (image_list ∷ []) x number c) e at)) in
    first_fails w.0 picks (subst (λ x. Subsumes w.0 (image_s ∷ []) x.lits picks) is w.1)
none_before (subsumption parent number []) (c, at, w) (inr (e, inr (e', h))) = h
none_before (subsumption parent number (k ∷ [])) (c, at, w) (inr (e, inr (e', inl less))) = omega (arith, less)
none_before (subsumption parent number (k ∷ [])) (c, at, w) (inr (e, inr (e', inr h))) = h.1
none_before (subsumption parent number (k ∷ m ∷ picks)) (c, at, w) (inr (e, inr (e', inl less))) = omega (arith, less)
none_before (subsumption parent number (k ∷ m ∷ picks)) (c, at, w) (inr (e, inr (e', inr h))) = h.1

-- the variable of the image's clause is the target's
general : IsMostGeneral 1 1 (λ t. Subsumes t (image_s ∷ []) (image_s ∷ []) (0 ∷ [])) Var
general = (
  (ap Some s_at, tt),
  λ u h.
      let e : image_s ≡ instance u image_s = same_some (Some image_s) image_s (instance u image_s) refl h.0 in
      let g : fx ∷ [] ≡ substituted u fx ∷ [] = ap (λ l. l.args) e in
      let a : fx ≡ App f (substituted u (Var 0) ∷ []) = same_head fx (substituted u fx) g ∙ substituted-App u f (Var 0 ∷ []) in
      let b : Var 0 ≡ u 0 = same_head (Var 0) (substituted u (Var 0)) (App-injective f f (Var 0 ∷ []) (substituted u (Var 0) ∷ []) a).1 ∙ substituted-Var u 0 in
      (Var, (λ k less. refl), (λ j less. let z : j ≡ 0 = omega (arith, less) in ap u z ∙ sym b ∙ ap Var (sym z) ∙ sym (substituted-Var Var j))),
)
  where
    same_head : (x y : Term) → x ∷ [] ≡ y ∷ [] → x ≡ y
    same_head x y h = cc

justified : IsJustification target.clause (image_list ∷ []) (Some step)
justified = ((works, none_before), (record { vars = 1; lits = image_s ∷ [] }, is_image_s, (Var, general, ap (λ x. x ∷ []) (sym (substituted-Var (closed 1) 0)))))

-- ---- the composed image, which is the least

abbrev composed : Composed
composed = record { map = record { entries = entry 0 f (0 ∷ []) ∷ [] }; image = image_list; steps = step ∷ [] }

only_one : {X : Type 0} (P : X → Type 0) (x : X) → P x → All P (x ∷ [])
only_one P x h zero d less = h
only_one P x h (suc k) d less = absurd (omega (arith, less))

composes : Composes n (f ∷ []) (target ∷ []) (0 ∷ []) composed
composes = record {
  functions = only_one (λ x. x.kind ≡ Function) f refl;
  exactly = sym (ap exs tree_is);
  each = sym (ap exs tree_is);
  within = only_one (λ x. x < 1) 0 (omega arith);
  once = refl;
  map_is = sym map_is;
  arities = only_one HasItsArity (entry 0 f (0 ∷ [])) refl;
  image = sym rows_is;
  steps = (justified, tt);
}

least_composed : IsLeastComposed n (f ∷ []) (target ∷ []) composed
least_composed = (0 ∷ [], composes, none_less)
  where
    none_less : (other : List ℕ) (that : Composed) → Composes n (f ∷ []) (target ∷ []) other that → IsListBefore other (0 ∷ []) → ⊥
    none_less [] that h before = before
    none_less (k ∷ []) that h (inl less) = omega (arith, less)
    none_less (k ∷ []) that h (inr w) = w.1
    none_less (k ∷ m ∷ rest) that h (inl less) = omega (arith, less)
    none_less (k ∷ m ∷ rest) that h (inr w) = w.1
