-- What a step's own formula and those of its parents say. Steps are told by their numbers, from 1.
use Rattle.std.specs.Prelude.{◌≡◌, ℕ, zero, suc, nat_eq, Bool, true, false, not, List, [], ◌∷◌, ◌++◌, map, filter, find, slice_get, Option, Some, None, option_to_list}
use Rattle.std.specs.Cmp.Lexicographic.{pointwise}
use Rattle.std.specs.List.{list_any}
use Rattle.dk_syntax.specs.Symbols.{first_symbols, formula_occurrences, joined, same_symbol}
use Rattle.dk_syntax.specs.declared.Named.{Named}
use Rattle.dk_syntax.specs.declared.Problem.{Problem}
use Rattle.dk_syntax.specs.declared.SymKey.{SymKey}
use Rattle.derivation_graph.specs.Graphs.{parents_in}
use Rattle.derivation_graph.specs.declared.graph.Graph.{Graph}
use Rattle.derivation_graph.specs.declared.graph.Node.{Node}
use Rattle.normal_form.specs.Existentials.{existential_in}
use Rattle.normal_form.specs.Normal.{normal_of}
use Rattle.normal_form.specs.declared.form.Nf.{Nf}
use Rattle.normal_form.specs.declared.form.Nf.TheVariants as nf
use Rattle.tstp_trace.specs.declared.step.Step.{Step}
use Rattle.tstp_trace.specs.declared.step.StepSource.{StepSource}
use Rattle.tstp_trace.specs.declared.step.StepSource.TheVariants.{Leaf, Derived}
use Rattle.tstp_trace.specs.declared.step.Trace.{Trace}

-- what is judged: the problem, the steps of the trace, and the numbers of each step's parents
pub record Case : Type 0 where
  pub problem : Problem
  pub steps : List Step
  pub rows : List (List ℕ)

abbrev pub case_of : Problem → Trace → Graph → Case
case_of problem trace graph = record { problem = problem; steps = trace.steps; rows = graph.parents }

-- the step of that number
abbrev pub step_in : List Step → ℕ → Option Step
step_in steps zero = None
step_in steps (suc place) = slice_get steps place

-- ---- the graph of a trace

-- the names of a step's parents
abbrev pub parent_names : StepSource → List (List ℕ)
parent_names (Leaf name) = []
parent_names (Derived cth esa parents) = parents

-- the step as a node of the graph
abbrev pub node_of : Step → Node
node_of step = record { name = step.name; parents = parent_names step.source }

abbrev pub nodes_of : Trace → List Node
nodes_of trace = map node_of trace.steps

-- ---- leaves

abbrev pub has_name : List ℕ → Named → Bool
has_name name named = pointwise nat_eq name named.name

-- the problem's item of that name
abbrev pub item_named : Problem → List ℕ → Option Named
item_named problem name = find (has_name name) (problem.hyps ++ option_to_list problem.conjecture)

-- the name is the conjecture's
abbrev pub names_conjecture : Problem → List ℕ → Bool
names_conjecture problem name = list_any (has_name name) (option_to_list problem.conjecture)

-- a leaf that names the conjecture, whatever its formula
abbrev pub is_conjecture_leaf : Problem → StepSource → Bool
is_conjecture_leaf problem (Leaf name) = names_conjecture problem name
is_conjecture_leaf problem (Derived cth esa parents) = false

-- ---- the step's own normal form

-- with a negative sign for a leaf that names the conjecture
abbrev pub signed_form : Problem → Step → Nf
signed_form problem step = normal_of step.formula (not (is_conjecture_leaf problem step.source))

-- where there is no such step, $true stands for none
abbrev pub form_of_step : Problem → Option Step → Nf
form_of_step problem None = nf.True
form_of_step problem (Some step) = signed_form problem step

-- the step is there and is a leaf that names the conjecture
abbrev pub negates_conjecture : Problem → Option Step → Bool
negates_conjecture problem None = false
negates_conjecture problem (Some step) = is_conjecture_leaf problem step.source

-- the symbols of the formula of the step, by first occurrence
abbrev pub symbols_of_step : Option Step → List SymKey
symbols_of_step None = []
symbols_of_step (Some step) = first_symbols step.formula

abbrev pub stands_in : List SymKey → SymKey → Bool
stands_in symbols symbol = list_any (same_symbol symbol) symbols

module _ (case : Case) where
  -- the step's own normal form
  abbrev pub own_form : ℕ → Nf
  own_form i = form_of_step case.problem (step_in case.steps i)

  abbrev pub parents_of : ℕ → List ℕ
  parents_of i = parents_in case.rows i

  -- a parent is a leaf that names the conjecture
  abbrev pub has_conjecture_parent : ℕ → Bool
  has_conjecture_parent i = list_any (λ q. negates_conjecture case.problem (step_in case.steps q)) (parents_of i)

  -- the step's own normal form, or that of a parent, has an existential
  abbrev pub has_existential : ℕ → Bool
  has_existential i = list_any (λ q. existential_in (own_form q)) (i ∷ parents_of i)

  -- the symbols of the parents' formulas
  abbrev pub parent_symbols : ℕ → List SymKey
  parent_symbols i = joined (map (λ q. symbols_of_step (step_in case.steps q)) (parents_of i))

  -- the symbols of the step's formula that no parent's formula has, by first occurrence
  abbrev pub aliens_of : ℕ → List SymKey
  aliens_of i = filter (λ symbol. not (stands_in (parent_symbols i) symbol)) (symbols_of_step (step_in case.steps i))
