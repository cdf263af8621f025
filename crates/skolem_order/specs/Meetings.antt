-- Thin trees through signed formulas, vacuous quantifiers included, whose terms at existentials are those of origins.
use Rattle.std.specs.Prelude.{◌≡◌, ℕ, Bool, true, false, List, [], ◌∷◌, ◌++◌, Some}
use Rattle.std.specs.List.{Contains}
use Rattle.dk_syntax.specs.Terms.{instance}
use Rattle.dk_syntax.specs.WellFormed.{IsGround}
use Rattle.dk_syntax.specs.declared.Formula.{Formula}
use Rattle.dk_syntax.specs.declared.Literal.{Literal}
use Rattle.dk_syntax.specs.declared.Term.{Term}
use Rattle.dk_syntax.specs.declared.Term.TheVariants.{Any}
use Rattle.expansion.specs.Rows.{term_at}
use Rattle.normal_form.specs.Occurrence.{in_formula}
use Rattle.skolem_order.specs.Origins.{args_of, origin_for, origin_of_term, spot_of, terms_around}
use Rattle.skolem_order.specs.SignedForms.{SignedForm, all, constant, ex, joined, lit, vacuous}
use Rattle.skolem_order.specs.Spots.{Spot}
use Rattle.skolem_order.specs.declared.origins.Origin.{Origin}
use Rattle.step_skolem.specs.Substitutions.{with_term}
use Rattle.step_skolem.specs.declared.SkEntry.{SkEntry}

-- The signed formula, with s for its variables, is that of the term's origin: it stands at the origin's existential, and the terms
-- for the variables that occur in it are those for the quantifiers around.
pub record IsOriginAt (origins : List Origin) (t : Term) (sign : Bool) (f : Formula) (s : ℕ → Term) : Type 0 where
  pub origin : Origin
  pub listed : origin_of_term origins t ≡ Some origin
  pub spot : Spot
  pub found : spot_of origin ≡ Some spot
  pub positive : spot.positive ≡ sign
  pub formula : spot.formula ≡ f
  pub terms : (k : ℕ) → in_formula f k ≡ true → term_at (terms_around origin spot.around (args_of t)) k ≡ s k

-- With s for the variables of the signed form, one side of each conjunction that is met is chosen, true for the right one, a
-- ground term at each universal, and at each existential a term whose origin is there. A vacuous quantifier's variable is Any.
-- The sides and both kinds of terms are in preorder, and the last list has the literals at the ends from left to right.
pub data Meets (origins : List Origin) : (ℕ → Term) → SignedForm → List Bool → List Term → List Term → List Literal → Type 0 where
  at_false : (s : ℕ → Term) → Meets origins s (constant false) [] [] [] []
  at_lit : (s : ℕ → Term) (literal : Literal) → Meets origins s (lit literal) [] [] [] (instance s literal ∷ [])
  at_left : (s : ℕ → Term) (a b : SignedForm) (picks : List Bool) (terms skolems : List Term) (ends : List Literal)
      → Meets origins s a picks terms skolems ends → Meets origins s (joined true a b) (false ∷ picks) terms skolems ends
  at_right : (s : ℕ → Term) (a b : SignedForm) (picks : List Bool) (terms skolems : List Term) (ends : List Literal)
      → Meets origins s b picks terms skolems ends → Meets origins s (joined true a b) (true ∷ picks) terms skolems ends
  at_both : (s : ℕ → Term) (a b : SignedForm) (picks sides : List Bool) (terms others skolems more : List Term) (ends rest : List Literal)
      → Meets origins s a picks terms skolems ends → Meets origins s b sides others more rest
      → Meets origins s (joined false a b) (picks ++ sides) (terms ++ others) (skolems ++ more) (ends ++ rest)
  at_all : (s : ℕ → Term) (a : SignedForm) (t : Term) (picks : List Bool) (terms skolems : List Term) (ends : List Literal)
      → IsGround t → Meets origins (with_term t s) a picks terms skolems ends → Meets origins s (all a) picks (t ∷ terms) skolems ends
  at_ex : (s : ℕ → Term) (sign : Bool) (f : Formula) (a : SignedForm) (t : Term) (picks : List Bool) (terms skolems : List Term) (ends : List Literal)
      → IsOriginAt origins t sign f s → Meets origins (with_term t s) a picks terms skolems ends
      → Meets origins s (ex sign f a) picks terms (t ∷ skolems) ends
  at_vacuous : (s : ℕ → Term) (a : SignedForm) (picks : List Bool) (terms skolems : List Term) (ends : List Literal)
      → Meets origins (with_term Any s) a picks terms skolems ends → Meets origins s (vacuous a) picks terms skolems ends

-- The entry's symbol has an origin with the entry's number and this signed leaf, in whose map the entry stands; each entry of that
-- map is one of these.
pub record IsSourced (origins : List Origin) (leaf : Formula) (sign : Bool) (entries : List SkEntry) (one : SkEntry) : Type 0 where
  pub origin : Origin
  pub listed : origin_for origins one.symbol ≡ Some origin
  pub same_leaf : origin.leaf ≡ leaf
  pub same_sign : origin.sign ≡ sign
  pub number : origin.ex ≡ one.ex
  pub own : Contains origin.map.entries one
  pub gained : (other : SkEntry) → Contains origin.map.entries other → Contains entries other

-- so it is of each entry of a map from the leaf's form
abbrev pub AreSourced : List Origin → Formula → Bool → List SkEntry → Type 0
AreSourced origins leaf sign entries = (one : SkEntry) → Contains entries one → IsSourced origins leaf sign entries one
