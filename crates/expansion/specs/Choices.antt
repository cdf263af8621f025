-- The choices of a thin tree that goes by the sides of a row, the terms of its variables and a Skolem map.
use Rattle.std.specs.Prelude.{ℕ, suc, ◌+◌, nat_eq, Bool, true, false, List, [], ◌∷◌, ◌++◌, map, cond, get_or, Option, None, Some}
use Rattle.std.specs.List.{position}
use Rattle.dk_syntax.specs.declared.Term.{Term}
use Rattle.dk_syntax.specs.declared.Term.TheVariants.{Any, App}
use Rattle.expansion.specs.declared.thin.Thin.{Thin}
use Rattle.normal_form.specs.Forms.{all, alls, and, ex, exs, Form, form_of, lit, no, or, yes}
use Rattle.normal_form.specs.declared.ClauseRow.{ClauseRow}
use Rattle.normal_form.specs.declared.Nf.{Nf}
use Rattle.step_skolem.specs.declared.SkEntry.{SkEntry}

-- the term at a place, and Any at none
abbrev pub term_there : List Term → Option ℕ → Term
term_there terms None = Any
term_there terms (Some place) = get_or terms place Any

-- the term of the universal with that number, where these universals have these terms: Any where it is none of them
abbrev pub assigned : List ℕ → List Term → ℕ → Term
assigned quants terms n = term_there terms (position (λ m. nat_eq m n) quants)

-- the term of the existential with that number, with v for the universals: its entry's symbol at the entry's universals
abbrev pub skolem_term : (ℕ → Term) → List SkEntry → ℕ → Term
skolem_term v [] e = Any
skolem_term v (one ∷ entries) e = cond (nat_eq one.ex e) (App one.symbol (map v one.args)) (skolem_term v entries e)

-- the terms chosen at universals, those chosen at existentials, and the sides that are left
pub record Chosen : Type 0 where
  pub terms : List Term
  pub skolems : List Term
  pub left : List Bool

abbrev pub chosen_as : List Term → List Term → List Bool → Chosen
chosen_as terms skolems left = record { terms = terms; skolems = skolems; left = left }

-- one choice, then the others
abbrev pub with_universal : Term → Chosen → Chosen
with_universal t c = chosen_as (t ∷ c.terms) c.skolems c.left

abbrev pub with_existential : Term → Chosen → Chosen
with_existential t c = chosen_as c.terms (t ∷ c.skolems) c.left

-- the choices in the first part, then those in the second with the sides that are left
abbrev pub then_chosen : Chosen → (List Bool → Chosen) → Chosen
then_chosen c next = chosen_as (c.terms ++ (next c.left).terms) (c.skolems ++ (next c.left).skolems) (next c.left).left

-- the choices on the side that comes next, and none where no side is left
abbrev pub by_side : (List Bool → Chosen) → (List Bool → Chosen) → List Bool → Chosen
by_side a b [] = chosen_as [] [] []
by_side a b (false ∷ picks) = a picks
by_side a b (true ∷ picks) = b picks

-- The choices with these sides, with v for the universals and w for the existentials; u and e are the numbers of the form's
-- first universal and existential.
abbrev pub chosen : (ℕ → Term) → (ℕ → Term) → ℕ → ℕ → Form → List Bool → Chosen
chosen v w u e yes picks = chosen_as [] [] picks
chosen v w u e no picks = chosen_as [] [] picks
chosen v w u e (lit literal) picks = chosen_as [] [] picks
chosen v w u e (and a b) picks = by_side (chosen v w u e a) (chosen v w (alls a + u) (exs a + e) b) picks
chosen v w u e (or a b) picks = then_chosen (chosen v w u e a picks) (chosen v w (alls a + u) (exs a + e) b)
chosen v w u e (all a) picks = with_universal (v u) (chosen v w (suc u) e a picks)
chosen v w u e (ex a) picks = with_existential (w e) (chosen v w u (suc e) a picks)

-- the choices in a leaf's form, with these terms for the row's variables
abbrev pub chosen_in : Nf → List SkEntry → ClauseRow → List Term → Chosen
chosen_in leaf entries row terms =
    chosen (assigned row.quants terms) (skolem_term (assigned row.quants terms) entries) 0 0 (form_of leaf) row.picks

-- the thin tree of the row at these terms
abbrev pub thin_tree : Bool → Nf → List SkEntry → ClauseRow → List Term → Thin
thin_tree sign leaf entries row terms = record {
  sign = sign;
  picks = row.picks;
  terms = (chosen_in leaf entries row terms).terms;
  skolems = (chosen_in leaf entries row terms).skolems;
}
