-- The report on the expansion of a refutation: its Skolem terms, its instances with their thin trees, and their weight.
use Rattle.std.specs.Prelude.{ℕ, zero, suc, ◌-◌, Bool, true, false, List, [], ◌∷◌, ◌++◌, map, slice_get, codes, decimal, Option, None, Some, if◌then◌else◌}
use Rattle.std.specs.List.{join_by}
use Rattle.dk_syntax.specs.declared.Literal.{Literal}
use Rattle.dk_syntax.specs.declared.Name.{Name}
use Rattle.dk_syntax.specs.declared.Term.{Term}
use Rattle.expansion.specs.declared.thin.Thin.{Thin}
use Rattle.ground_instances.specs.Lists.{instances_of}
use Rattle.ground_instances.specs.declared.instance.Instance.{Instance}
use Rattle.plan.specs.declared.maps.StepMap.{StepMap}
use Rattle.plan.specs.declared.plan.Plan.{Plan}
use Rattle.skolem_order.specs.Origins.{origin_formula}
use Rattle.skolem_order.specs.declared.origins.Origin.{Origin}
use Rattle.skolem_order.specs.declared.origins.Signed.{Signed}
use Rattle.step_check.specs.Steps.{step_in}
use Rattle.tptp_text.specs.Printed.{printed_formula, printed_item_name, printed_literal, printed_term, sign_text}
use Rattle.tstp_trace.specs.declared.step.Step.{Step}
use Rattle.tstp_trace.specs.declared.step.StepSource.{StepSource}
use Rattle.tstp_trace.specs.declared.step.StepSource.TheVariants.{Leaf, Derived}

-- ---- parts of lines

-- the parts joined by the mark, or the word where there is none
abbrev pub joined_or : {X : Type 0} → List ℕ → List ℕ → (X → List ℕ) → List X → List ℕ
joined_or word mark text [] = word
joined_or word mark text (x ∷ xs) = join_by text mark (x ∷ xs)

-- ground terms
abbrev pub terms_text : List Term → List ℕ
terms_text terms = joined_or (codes "none") (codes ", ") (λ term. printed_term term 0) terms

-- a ground clause
abbrev pub clause_text : List Literal → List ℕ
clause_text literals = joined_or (codes "$false") (codes " | ") (λ literal. printed_literal literal 0) literals

-- the side that is taken at a conjunction: `L`, or `R` for the right one
abbrev pub side_letter : Bool → ℕ
side_letter right = if right then 82 else 76

-- the sides in preorder, or `none`
abbrev pub sides_text : List Bool → List ℕ
sides_text [] = codes "none"
sides_text (side ∷ sides) = map side_letter (side ∷ sides)

-- the sign of a thin tree's formula
abbrev pub mark_of_sign : Bool → List ℕ
mark_of_sign true = codes "+"
mark_of_sign false = codes "-"

-- the stage of an instance, where it isn't 0
abbrev pub stage_text : ℕ → List ℕ
stage_text zero = []
stage_text (suc before) = codes "." ++ decimal (suc before)

-- ---- lines

-- `eigen PLACE TERM: FORMULA`, with the term's origin formula
abbrev pub eigen_text : ℕ → Term → Signed → List ℕ
eigen_text place term origin =
    codes "eigen " ++ decimal place ++ codes " " ++ printed_term term 0 ++ codes ": " ++ sign_text origin.positive ++ printed_formula origin.formula 0
    ++ codes "\n"

-- `instance PLACE step STEP.STAGE clause CLAUSE: LITERALS`
abbrev pub instance_text : ℕ → Instance → List ℕ
instance_text place it =
    codes "instance " ++ decimal place ++ codes " step " ++ decimal it.step ++ stage_text it.stage ++ codes " clause " ++ decimal it.clause
    ++ codes ": " ++ clause_text it.lits ++ codes "\n"

-- `thin PLACE NAME SIGN picks SIDES terms TERMS skolems TERMS`, with the name of the item that the tree leads through
abbrev pub thin_text : ℕ → Name → Thin → List ℕ
thin_text place name thin =
    codes "thin " ++ decimal place ++ codes " " ++ printed_item_name name ++ codes " " ++ mark_of_sign thin.sign ++ codes " picks " ++ sides_text thin.picks
    ++ codes " terms " ++ terms_text thin.terms ++ codes " skolems " ++ terms_text thin.skolems ++ codes "\n"

-- the line of the thin tree, where there are a tree and an item
abbrev pub tree_text : ℕ → Option Name → Option Thin → List ℕ
tree_text place None thin = []
tree_text place (Some name) None = []
tree_text place (Some name) (Some thin) = thin_text place name thin

-- `weight WEIGHT`
abbrev pub weight_text : ℕ → List ℕ
weight_text weight = codes "weight " ++ decimal weight ++ codes "\n"

-- ---- leaves

-- the problem's item that a leaf names
abbrev pub item_named : StepSource → Option Name
item_named (Leaf name) = Some name
item_named (Derived cth esa parents) = None

abbrev pub item_of : Option Step → Option Name
item_of None = None
item_of (Some step) = item_named step.source

-- the item that the leaf under a step names
abbrev pub item_under : List Step → Option (Option StepMap) → Option Name
item_under steps None = None
item_under steps (Some None) = None
item_under steps (Some (Some it)) = item_of (step_in steps it.leaf)

-- the tree of an instance, where there is one
abbrev pub tree_in : Option (Option Thin) → Option Thin
tree_in None = None
tree_in (Some thin) = thin

-- ---- the report

-- the lines of these needed terms in order, the first of which has that place
abbrev pub eigens_from : List Origin → ℕ → List Term → List ℕ
eigens_from origins place [] = []
eigens_from origins place (term ∷ terms) = eigen_text place term (origin_formula origins term) ++ eigens_from origins (suc place) terms

module _ (steps : List Step) (plan : Plan) where
  -- the line of the instance at a place and that of its thin tree
  abbrev pub instance_lines : ℕ → Instance → List ℕ
  instance_lines place it =
      instance_text place it ++ tree_text place (item_under steps (slice_get plan.maps (it.step - 1))) (tree_in (slice_get plan.thins place))

  -- the lines of these instances in order, the first of which has that place
  abbrev pub instances_from : ℕ → List Instance → List ℕ
  instances_from place [] = []
  instances_from place (it ∷ instances) = instance_lines place it ++ instances_from (suc place) instances

  -- the whole report; places count from 0
  abbrev pub report_text : List ℕ
  report_text = eigens_from plan.origins.list 0 plan.order ++ instances_from 0 (instances_of plan.instances) ++ weight_text plan.weight
