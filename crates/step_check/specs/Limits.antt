-- The limits of forms and of their clause lists, in the order in which they are tested.
use Rattle.std.specs.Prelude.{◌≡◌, ℕ, nat_lt, List, [], ◌∷◌, map, length, if◌then◌else◌, Option, Some, None}
use Rattle.std.specs.Option.{option_or}
use Rattle.normal_form.specs.ClauseLists.{clause_rows, literal_count}
use Rattle.normal_form.specs.Existentials.{existential_in}
use Rattle.normal_form.specs.Normal.{nodes_of}
use Rattle.normal_form.specs.declared.form.Nf.{Nf}
use Rattle.step_check.specs.Steps.{Case, own_form, parents_of}
use Rattle.step_check.specs.declared.verdict.Limit.{Limit}
use Rattle.step_check.specs.declared.verdict.Limit.TheVariants.{Clauses, Literals, NormalForm}
use Rattle.step_compose.specs.FullImages.{full_image, nameless}

-- the form has more nodes than the limit
abbrev pub nodes_limit : Nf → Option Limit
nodes_limit n = if nat_lt 100000 (nodes_of n) then Some NormalForm else None

-- the limit that a list with so many clauses and literals passes; the number of clauses is tested first
abbrev pub counts_limit : ℕ → ℕ → Option Limit
counts_limit clauses literals = if nat_lt 4096 clauses then Some Clauses else (if nat_lt 65536 literals then Some Literals else None)

-- the limit that the form's clause list passes
abbrev pub list_limit : Nf → Option Limit
list_limit n = counts_limit (length (clause_rows n)) (literal_count (clause_rows n))

-- the limit that the form passes, or else its clause list, where it has no existential
abbrev pub form_limit : Nf → Option Limit
form_limit n = option_or (nodes_limit n) (if existential_in n then None else list_limit n)

-- the first limit that one of the forms passes
abbrev pub first_limit : List Nf → Option Limit
first_limit [] = None
first_limit (n ∷ rest) = option_or (form_limit n) (first_limit rest)

-- the first limit that the step's own form passes, or a parent's
abbrev pub limit_at : Case → ℕ → Option Limit
limit_at case i = first_limit (map (own_form case) (i ∷ parents_of case i))

-- the limit that the clause list of the full image passes; its counts are the same whatever the symbols are
abbrev pub full_limit : Nf → Option Limit
full_limit r = list_limit (full_image (λ e. nameless) r)
