-- The entries of maps between forms with well-formed literals: their symbols are functions' with as many arguments.
use Rattle.std.proofs.Common.{◌≡◌, ◌⊎◌, ℕ, suc, nat_eq, nat_lt, Bool, true, false, ◌&&◌, List, [], ◌∷◌, cond, length, map, refl, sym, ap, ap₂, ◌∙◌, subst, inl, inr}
use Rattle.std.proofs.lemmas.Bool.{eqb-true, or_cases}
use Rattle.std.proofs.lemmas.List.{length-map}
use Rattle.dk_syntax.proofs.ListLaws.{for_each, ForEach}
use Rattle.dk_syntax.proofs.SubstitutionLaws.{has_variable-Any, has_variable-App, has_variable-Var, substituted-App, substituted-Var}
use Rattle.dk_syntax.proofs.TermLaws.{term_induction}
use Rattle.dk_syntax.proofs.WellFormedLaws.{well_formed-Any, well_formed-App, well_formed-Var}
use Rattle.dk_syntax.specs.Lists.{all_true, any_true}
use Rattle.dk_syntax.specs.Symbols.{same_kind}
use Rattle.dk_syntax.specs.Terms.{has_variable, substituted}
use Rattle.dk_syntax.specs.WellFormed.{fits_symbol, well_formed_term}
use Rattle.dk_syntax.specs.declared.symbol.Kind.{Kind}
use Rattle.dk_syntax.specs.declared.symbol.Kind.TheVariants.{Function, Predicate}
use Rattle.dk_syntax.specs.declared.symbol.SymKey.{SymKey}
use Rattle.dk_syntax.specs.declared.term.Term.{Term}
use Rattle.dk_syntax.specs.declared.term.Term.TheVariants.{Var}
use Rattle.normal_form.specs.FormFacts.{HasNoVacuous, HasWellFormedLiterals}
use Rattle.normal_form.specs.Forms.{Form, form_of, free}
use Rattle.normal_form.specs.Sorting.{existentials, sorted_form, universals}
use Rattle.normal_form.specs.declared.form.Nf.{Nf}
use Rattle.plan.proofs.Membership.{Among, among_either}
use Rattle.plan.specs.Origins.{IsFitEntry}
use Rattle.step_skolem.specs.Carrying.{across, by_number, carried, placed, renumbered}
use Rattle.step_skolem.specs.Images.{binder, entry, i_all, i_and, i_keep, i_lit, i_no, i_or, i_put, i_yes, Image, IsImage, Kept, universal}
use Rattle.step_skolem.specs.Substitutions.{applied, shifted}
use Rattle.step_skolem.specs.declared.map.SkEntry.{SkEntry}

both : (a b : Bool) → a ≡ true → b ≡ true → (a && b) ≡ true
both a b h k = ap₂ (λ x y. x && y) h k

-- ---- well-formed values of variables

-- where the variable stands in the term and the term with values is well-formed, so is the variable's value
abbrev IsFormedAt : (ℕ → Term) → ℕ → Term → Type 0
IsFormedAt s k t = has_variable k t ≡ true → well_formed_term (substituted s t) ≡ true → well_formed_term (s k) ≡ true

both_true : (a b : Bool) → (a && b) ≡ true → (a ≡ true) × (b ≡ true)
both_true true b h = (refl, h)
both_true false b h = absurd cc

formed_all : (s : ℕ → Term) (k : ℕ) (args : List Term) → ForEach (IsFormedAt s k) args → any_true (map (has_variable k) args) ≡ true
    → all_true (map well_formed_term (map (substituted s) args)) ≡ true → well_formed_term (s k) ≡ true
formed_all s k [] known h w = absurd cc
formed_all s k (t ∷ args) known h w =
    let parts = both_true (well_formed_term (substituted s t)) (all_true (map well_formed_term (map (substituted s) args))) w in
    elim (or_cases (has_variable k t) (any_true (map (has_variable k) args)) h) [
      | inl l ↦ known.0 l parts.0
      | inr r ↦ formed_all s k args known.1 r parts.1
    ]

formed_at : (s : ℕ → Term) (k : ℕ) (t : Term) → IsFormedAt s k t
formed_at s k = term_induction (IsFormedAt s k)
    (λ n h w.
    let same : n ≡ k = eqb-true n k (sym (has_variable-Var k n) ∙ h) in
    subst (λ j. well_formed_term (s j) ≡ true) same (sym (ap well_formed_term (substituted-Var s n)) ∙ w))
    (λ f args known h w.
    let app = sym (ap well_formed_term (substituted-App s f args) ∙ well_formed-App f (map (substituted s) args)) ∙ w in
    formed_all s k args known (sym (has_variable-App k f args) ∙ h)
    (both_true (fits_symbol Function f (length (map (substituted s) args))) (all_true (map well_formed_term (map (substituted s) args))) app).1)
    (λ h w. absurd (let none = has_variable-Any k in cc))

-- ---- values in images

shifted_formed : (t : Term) → well_formed_term (shifted t) ≡ true → well_formed_term t ≡ true
shifted_formed = term_induction (λ t. well_formed_term (shifted t) ≡ true → well_formed_term t ≡ true)
    (λ n w. well_formed-Var n)
    (λ f args known w.
    let app = sym (ap well_formed_term (substituted-App (λ k. Var (suc k)) f args) ∙ well_formed-App f (map shifted args)) ∙ w in
    let parts = both_true (fits_symbol Function f (length (map shifted args))) (all_true (map well_formed_term (map shifted args))) app in
    well_formed-App f args ∙ both (fits_symbol Function f (length args)) (all_true (map well_formed_term args))
    (subst (λ n. fits_symbol Function f n ≡ true) (length-map args shifted) parts.0) (all_shifted args known parts.1))
    (λ w. well_formed-Any)
  where
    all_shifted : (args : List Term) → ForEach (λ t. well_formed_term (shifted t) ≡ true → well_formed_term t ≡ true) args
        → all_true (map well_formed_term (map shifted args)) ≡ true → all_true (map well_formed_term args) ≡ true
    all_shifted [] known w = refl
    all_shifted (t ∷ args) known w =
        let parts = both_true (well_formed_term (shifted t)) (all_true (map well_formed_term (map shifted args))) w in
        both (well_formed_term t) (all_true (map well_formed_term args)) (known.0 parts.0) (all_shifted args known.1 parts.1)

-- where a variable of the form is free, its value in an image with well-formed literals is well-formed
value_formed : {g : List Kept} {s : ℕ → Term} {u e : ℕ} {n : Form} {m : List SkEntry} {d : Form} → Image g s u e n m d → HasWellFormedLiterals d → (k : ℕ) → free k n ≡ true → well_formed_term (s k) ≡ true
value_formed (i_yes g s u e) w k h = absurd cc
value_formed (i_no g s u e) w k h = absurd cc
value_formed (i_lit g s u e l) w k h =
    let parts = both_true (fits_symbol Predicate l.pred (length (map (substituted s) l.args))) (all_true (map well_formed_term (map (substituted s) l.args))) w in
    formed_all s k l.args (for_each (IsFormedAt s k) (formed_at s k) l.args) h parts.1
value_formed (i_and g s u e a b m n c d p q) w k h = elim (or_cases (free k a) (free k b) h) [ inl l ↦ value_formed p w.0 k l | inr r ↦ value_formed q w.1 k r ]
value_formed (i_or g s u e a b m n c d p q) w k h = elim (or_cases (free k a) (free k b) h) [ inl l ↦ value_formed p w.0 k l | inr r ↦ value_formed q w.1 k r ]
value_formed (i_all g s u e b m d p) w k h = shifted_formed (s k) (value_formed p w (suc k) h)
value_formed (i_keep g s u e b m d p) w k h = shifted_formed (s k) (value_formed p w (suc k) h)
value_formed (i_put g s u e b m d symbol args ys fits p) w k h = value_formed p w (suc k) h

-- ---- entries

function_kind : (k : Kind) → same_kind k Function ≡ true → k ≡ Function
function_kind Function h = refl
function_kind Predicate h = absurd cc

same_length : (g : List Kept) (ys args : List ℕ) → map (binder g) ys ≡ map universal args → length ys ≡ length args
same_length g ys args h = sym (length-map ys (binder g)) ∙ ap length h ∙ length-map args universal

applied_fits : (g : List Kept) (e : ℕ) (symbol : SymKey) (ys args : List ℕ) → map (binder g) ys ≡ map universal args → well_formed_term (applied symbol ys) ≡ true → IsFitEntry (entry e symbol args)
applied_fits g e symbol ys args h w =
    let app = both_true (fits_symbol Function symbol (length (map Var ys))) (all_true (map well_formed_term (map Var ys))) (sym (well_formed-App symbol (map Var ys)) ∙ w) in
    let parts = both_true (same_kind symbol.kind Function) (nat_eq symbol.arity (length (map Var ys))) app.0 in
    record {
      kind = function_kind symbol.kind parts.0;
      arity = eqb-true symbol.arity (length (map Var ys)) parts.1 ∙ length-map ys Var ∙ same_length g ys args h;
    }

-- each entry is fit, where the image's literals are well-formed and no quantifier is vacuous
entries_fit : {g : List Kept} {s : ℕ → Term} {u e : ℕ} {n : Form} {m : List SkEntry} {d : Form} → Image g s u e n m d → HasNoVacuous n → HasWellFormedLiterals d
    → (one : SkEntry) → Among m one → IsFitEntry one
entries_fit (i_yes g s u e) t w one h = absurd h
entries_fit (i_no g s u e) t w one h = absurd h
entries_fit (i_lit g s u e l) t w one h = absurd h
entries_fit (i_and g s u e a b m n c d p q) t w one h = elim (among_either m n one h) [ inl l ↦ entries_fit p t.0 w.0 one l | inr r ↦ entries_fit q t.1 w.1 one r ]
entries_fit (i_or g s u e a b m n c d p q) t w one h = elim (among_either m n one h) [ inl l ↦ entries_fit p t.0 w.0 one l | inr r ↦ entries_fit q t.1 w.1 one r ]
entries_fit (i_all g s u e b m d p) t w one h = entries_fit p t.1 w one h
entries_fit (i_keep g s u e b m d p) t w one h = entries_fit p t.1 w one h
entries_fit (i_put g s u e b m d symbol args ys fits p) t w one (inl h) = subst IsFitEntry h (applied_fits g e symbol ys args fits.universals (value_formed p w 0 t.0))
entries_fit (i_put g s u e b m d symbol args ys fits p) t w one (inr h) = entries_fit p t.1 w one h

pub map_fits : (n image : Nf) (entries : List SkEntry) → HasNoVacuous (form_of n) → HasWellFormedLiterals (form_of image) → IsImage n entries image → (one : SkEntry) → Among entries one → IsFitEntry one
map_fits n image entries t w h one k = entries_fit h t w one k

-- ---- carried maps

pub fit_again : (one other : SkEntry) → other.symbol ≡ one.symbol → length other.args ≡ length one.args → IsFitEntry one → IsFitEntry other
fit_again one other h k fit = record { kind = ap (λ (x : SymKey). x.kind) h ∙ fit.kind; arity = ap (λ (x : SymKey). x.arity) h ∙ fit.arity ∙ sym k }

placed_from : (one : SkEntry) (l : List SkEntry) (x : SkEntry) → Among (placed one l) x → (one ≡ x) ⊎ Among l x
placed_from one [] x (inl h) = inl h
placed_from one [] x (inr h) = absurd h
placed_from one (other ∷ l) x h = by_test (nat_lt other.ex one.ex) h (λ k. placed_from one l x k)
  where
    by_test : (t : Bool) → Among (cond t (other ∷ placed one l) (one ∷ other ∷ l)) x → (Among (placed one l) x → (one ≡ x) ⊎ Among l x) → (one ≡ x) ⊎ Among (other ∷ l) x
    by_test true (inl k) more = inr (inl k)
    by_test true (inr k) more = elim (more k) [ inl a ↦ inl a | inr b ↦ inr (inr b) ]
    by_test false (inl k) more = inl k
    by_test false (inr k) more = inr k

numbered_from : (l : List SkEntry) (x : SkEntry) → Among (by_number l) x → Among l x
numbered_from [] x h = h
numbered_from (one ∷ l) x h = elim (placed_from one (by_number l) x h) [ inl a ↦ inl a | inr b ↦ inr (numbered_from l x b) ]

renumbered_fit : (a b : ℕ → ℕ) (l : List SkEntry) → ((one : SkEntry) → Among l one → IsFitEntry one) → (x : SkEntry) → Among (map (renumbered a b) l) x → IsFitEntry x
renumbered_fit a b [] w x h = absurd h
renumbered_fit a b (one ∷ l) w x (inl h) = subst IsFitEntry h (fit_again one (renumbered a b one) refl (length-map one.args a) (w one (inl refl)))
renumbered_fit a b (one ∷ l) w x (inr h) = renumbered_fit a b l (λ y k. w y (inr k)) x h

pub carried_fits : (n r : Nf) (entries : List SkEntry) → ((one : SkEntry) → Among entries one → IsFitEntry one) → (x : SkEntry) → Among (carried n r entries) x → IsFitEntry x
carried_fits n r entries w x h =
    let a = across (universals (sorted_form n)) (universals (sorted_form r)) in
    let b = across (existentials (sorted_form n)) (existentials (sorted_form r)) in
    renumbered_fit a b entries w x (numbered_from (map (renumbered a b) entries) x h)
