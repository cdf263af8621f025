-- In the graph of a trace, the numbers of a step's parents are those of the steps that it names.
use Rattle.std.proofs.Common.{◌≡◌, ℕ, zero, suc, Bool, true, false, nat_eq, cond, List, [], ◌∷◌, ◌+◌, Option, Some, None, map, slice_get, get_or, refl, subst, sym, ap, ◌∙◌, add-one}
use Rattle.std.proofs.lemmas.List.Quantifiers.{position-Some}
use Rattle.std.proofs.lemmas.Option.{get_or_from_slice_get, none-some, slice_get-get_or, slice_get-map, slice_get_within}
use Rattle.std.specs.Prelude.{find, position}
use Rattle.std.specs.Cmp.Lexicographic.{bytes_decides, pointwise}
use Rattle.std.specs.Option.{option_map, option_map_or}
use Rattle.derivation_graph.specs.Graphs.{is_missing, names_of, number_of, numbers_of, parents_in, rows_of}
use Rattle.derivation_graph.specs.declared.graph.Node.{Node}
use Rattle.extract.specs.Laws.{ParentsAreNamed}
use Rattle.step_check.specs.Steps.{node_of, nodes_of, parent_names, step_in}
use Rattle.tstp_trace.specs.declared.step.Step.{Step}

-- the name of the step of that number
abbrev name_at : List Step → ℕ → Option (List ℕ)
name_at steps number = option_map (λ one. one.name) (step_in steps number)

-- the names of the steps as nodes
abbrev node_names : List Step → List (List ℕ)
node_names steps = names_of (map node_of steps)

named : (o : Option Step) → option_map (λ node. node.name) (option_map node_of o) ≡ option_map (λ (one : Step). one.name) o
named None = refl
named (Some step) = refl

-- the name at a place among the nodes is that of the step there
name_there : (steps : List Step) (place : ℕ) → slice_get (node_names steps) place ≡ option_map (λ (one : Step). one.name) (slice_get steps place)
name_there steps place =
    slice_get-map (λ (node : Node). node.name) (map node_of steps) place
    ∙ (ap (λ o. option_map (λ (node : Node). node.name) o) (slice_get-map node_of steps place) ∙ named (slice_get steps place))

-- a name that some step has is that of the step of its number
numbered : (steps : List Step) (name : List ℕ) → is_missing (node_names steps) name ≡ false → name_at steps (number_of (node_names steps) name) ≡ Some name
numbered steps name h = by_place (position (pointwise nat_eq name) (node_names steps)) refl h
  where
    by_place : (o : Option ℕ) → position (pointwise nat_eq name) (node_names steps) ≡ o → nat_eq (option_map_or (λ place. place + 1) o 0) 0 ≡ false
        → name_at steps (option_map_or (λ place. place + 1) o 0) ≡ Some name
    by_place None e none = absurd cc
    by_place (Some place) e some =
        let found = position-Some (pointwise nat_eq name) (node_names steps) place [] e in
        subst (λ number. name_at steps number ≡ Some name) (sym (add-one place))
        (sym (name_there steps place) ∙ (slice_get-get_or (node_names steps) place [] found.0 ∙ ap Some (sym ((bytes_decides name (get_or (node_names steps) place [])).0 found.1))))

-- the same of names none of which is missing
all_numbered : (steps : List Step) (names : List (List ℕ)) → find (is_missing (node_names steps)) names ≡ None
    → map (name_at steps) (map (number_of (node_names steps)) names) ≡ map Some names
all_numbered steps [] none = refl
all_numbered steps (name ∷ names) none = by_test (all_numbered steps names) (is_missing (node_names steps) name) refl none
  where
    by_test : (find (is_missing (node_names steps)) names ≡ None → map (name_at steps) (map (number_of (node_names steps)) names) ≡ map Some names) → (b : Bool)
        → is_missing (node_names steps) name ≡ b → cond b (Some name) (find (is_missing (node_names steps)) names) ≡ None
        → name_at steps (number_of (node_names steps) name) ∷ map (name_at steps) (map (number_of (node_names steps)) names) ≡ Some name ∷ map Some names
    by_test later true e n = absurd (none-some name (sym n))
    by_test later false e n = rw (numbered steps name e, later n) refl

pub parents_named : ParentsAreNamed
parents_named trace graph zero step h stands = absurd (none-some step stands)
parents_named trace graph (suc place) step h stands =
    let steps = trace.steps in
    let nodes = nodes_of trace in
    let node_there : slice_get nodes place ≡ Some (node_of step) = slice_get-map node_of steps place ∙ ap (λ o. option_map node_of o) stands in
    let row_there : slice_get (rows_of nodes) place ≡ Some (numbers_of (names_of nodes) (node_of step)) =
    slice_get-map (numbers_of (names_of nodes)) nodes place ∙ ap (λ o. option_map (numbers_of (names_of nodes)) o) node_there in
    let row : parents_in graph.parents (suc place) ≡ numbers_of (names_of nodes) (node_of step) =
    ap (λ rows. parents_in rows (suc place)) h.0.1 ∙ get_or_from_slice_get (rows_of nodes) place (numbers_of (names_of nodes) (node_of step)) [] row_there in
    let known = h.0.0 place (node_of step) (slice_get_within nodes place (node_of step) node_there) node_there in
    ap (λ numbers. map (name_at steps) numbers) row ∙ all_numbered steps (parent_names step.source) known
