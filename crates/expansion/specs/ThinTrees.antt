-- Thin trees: one path of choices through a signed formula, which leads to a ground clause.
use Rattle.std.specs.Prelude.{◌≡◌, ℕ, Bool, true, false, List, [], ◌∷◌, ◌++◌}
use Rattle.dk_syntax.specs.Lists.{Entry}
use Rattle.dk_syntax.specs.WellFormed.{IsGround}
use Rattle.dk_syntax.specs.declared.Formula.{Formula}
use Rattle.dk_syntax.specs.declared.Literal.{Literal}
use Rattle.dk_syntax.specs.declared.SymKey.{SymKey}
use Rattle.dk_syntax.specs.declared.Term.{Term}
use Rattle.dk_syntax.specs.declared.Term.TheVariants.{Any, App}
use Rattle.expansion.specs.declared.thin.Thin.{Thin}
use Rattle.normal_form.specs.Forms.{all, and, ex, Form, form_of, lit, no, or}
use Rattle.normal_form.specs.Normal.{normal_of}
use Rattle.normal_form.specs.declared.Nf.{Nf}
use Rattle.dk_syntax.specs.Terms.{instance}
use Rattle.step_skolem.specs.Substitutions.{with_term}

-- the symbol is in the list
abbrev pub IsListed : List SymKey → SymKey → Type 0
IsListed symbols f = (place : ℕ) × Entry symbols place f

-- a ground term with a Skolem symbol at its head; the Skolem symbols are listed
pub record IsSkolemTerm (symbols : List SymKey) (t : Term) : Type 0 where
  pub ground : IsGround t
  pub symbol : SymKey
  pub args : List Term
  pub headed : t ≡ App symbol args
  pub listed : IsListed symbols symbol

-- With s for the variables of the form, one side of each conjunction that is met is chosen, true for the right one, a ground
-- term at each universal and a ground Skolem term at each existential. The sides, these terms and those are in preorder, and
-- the last list has the literals at the ends from left to right.
pub data IsThinTree (symbols : List SymKey) : (ℕ → Term) → Form → List Bool → List Term → List Term → List Literal → Type 0 where
  at_no : (s : ℕ → Term) → IsThinTree symbols s no [] [] [] []
  at_lit : (s : ℕ → Term) (literal : Literal) → IsThinTree symbols s (lit literal) [] [] [] (instance s literal ∷ [])
  at_left : (s : ℕ → Term) (a b : Form) (picks : List Bool) (terms skolems : List Term) (ends : List Literal)
      → IsThinTree symbols s a picks terms skolems ends → IsThinTree symbols s (and a b) (false ∷ picks) terms skolems ends
  at_right : (s : ℕ → Term) (a b : Form) (picks : List Bool) (terms skolems : List Term) (ends : List Literal)
      → IsThinTree symbols s b picks terms skolems ends → IsThinTree symbols s (and a b) (true ∷ picks) terms skolems ends
  at_or : (s : ℕ → Term) (a b : Form) (picks sides : List Bool) (terms others skolems more : List Term) (ends rest : List Literal)
      → IsThinTree symbols s a picks terms skolems ends → IsThinTree symbols s b sides others more rest
      → IsThinTree symbols s (or a b) (picks ++ sides) (terms ++ others) (skolems ++ more) (ends ++ rest)
  at_all : (s : ℕ → Term) (a : Form) (t : Term) (picks : List Bool) (terms skolems : List Term) (ends : List Literal)
      → IsGround t → IsThinTree symbols (with_term t s) a picks terms skolems ends → IsThinTree symbols s (all a) picks (t ∷ terms) skolems ends
  at_ex : (s : ℕ → Term) (a : Form) (t : Term) (picks : List Bool) (terms skolems : List Term) (ends : List Literal)
      → IsSkolemTerm symbols t → IsThinTree symbols (with_term t s) a picks terms skolems ends → IsThinTree symbols s (ex a) picks terms (t ∷ skolems) ends

-- the thin tree's choices lead through the closed form to these literals
abbrev pub LeadsTo : List SymKey → Nf → Thin → List Literal → Type 0
LeadsTo symbols leaf thin ends = IsThinTree symbols (λ k. Any) (form_of leaf) thin.picks thin.terms thin.skolems ends

-- the same of the signed formula
abbrev pub IsThinOf : List SymKey → Formula → Thin → List Literal → Type 0
IsThinOf symbols f thin ends = LeadsTo symbols (normal_of f thin.sign) thin ends
