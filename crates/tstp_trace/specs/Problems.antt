-- The problem of items: hypotheses, conjecture and symbols, or the first fault.
use Rattle.std.specs.Prelude.{◌≡◌, All, ℕ, ◌+◌, Bool, not, ◌&&◌, ◌||◌, if◌then◌else◌, List, [], ◌∷◌, Option, Some, None, Result, Ok, Err, length, map, filter, codes, option_to_list, ◌++◌}
use Rattle.std.specs.List.{list_any}
use Rattle.std.specs.Option.{option_or}
use Rattle.dk_syntax.specs.Problems.{formulas_of, HasItsSymbols}
use Rattle.dk_syntax.specs.declared.Named.{Named}
use Rattle.dk_syntax.specs.declared.Problem.{Problem}
use Rattle.tptp_text.specs.declared.Body.{Body}
use Rattle.tptp_text.specs.declared.Body.TheVariants.{Plain, Outside as OutsideBody}
use Rattle.tptp_text.specs.declared.Item.{Item}
use Rattle.tptp_text.specs.ProperItems.{IsProper}
use Rattle.tstp_trace.specs.Faults.{AreSound, IsFirstFault}
use Rattle.tstp_trace.specs.Names.{is_among}
use Rattle.tstp_trace.specs.declared.fault.ProblemFault.{ProblemFault}
use Rattle.tstp_trace.specs.declared.fault.ProblemFault.TheVariants.{Outside, BadRole, FreeVariable, DuplicateName, TwoConjectures, Memory}

-- ---- roles

-- the roles of hypotheses
abbrev pub hypothesis_roles : List (List ℕ)
hypothesis_roles =
    codes "axiom" ∷ codes "hypothesis" ∷ codes "definition" ∷ codes "lemma" ∷ codes "theorem" ∷ codes "corollary"
    ∷ codes "negated_conjecture" ∷ []

abbrev pub is_hypothesis : Item → Bool
is_hypothesis item = is_among hypothesis_roles item.role

abbrev pub is_conjecture : Item → Bool
is_conjecture item = is_among (codes "conjecture" ∷ []) item.role

-- ---- faults

-- the fault of the item with that number: its body is outside the profile
abbrev pub outside_fault : ℕ → Body → Option ProblemFault
outside_fault number (Plain formula) = None
outside_fault number (OutsideBody kind) = Some (Outside number kind)

-- it has a free variable
abbrev pub free_fault : ℕ → Option (List ℕ) → Option ProblemFault
free_fault number None = None
free_fault number (Some variable) = Some (FreeVariable number variable)

-- the fault where the test gives true
abbrev pub fault_where : Bool → ProblemFault → Option ProblemFault
fault_where test fault = if test then Some fault else None

-- the first fault of the item with that number, by the names of the items before it and whether one of them is a conjecture
abbrev pub fault_by : List (List ℕ) → Bool → ℕ → Item → Option ProblemFault
fault_by names conjectured number item =
    option_or (outside_fault number item.body)
    (option_or (fault_where (not (is_hypothesis item || is_conjecture item)) (BadRole number))
    (option_or (free_fault number item.free)
    (option_or (fault_where (is_among names item.name) (DuplicateName number))
    (fault_where (is_conjecture item && conjectured) (TwoConjectures number)))))

-- the same, by the items before it
abbrev pub item_fault : List Item → Item → Option ProblemFault
item_fault before item = fault_by (map (λ one. one.name) before) (list_any is_conjecture before) (length before + 1) item

-- ---- the problem

-- what an item and a formula with its name have in common
abbrev pub part_of_item : Item → List ℕ × Body
part_of_item item = (item.name, item.body)

abbrev pub part_of_named : Named → List ℕ × Body
part_of_named named = (named.name, Plain named.formula)

-- The problem of items without a fault: the hypotheses in the order of the items, the conjecture where there is
-- one, and their symbols.
pub record IsProblemOf (items : List Item) (problem : Problem) : Type 0 where
  pub sound : AreSound item_fault items
  pub hypotheses : map part_of_named problem.hyps ≡ map part_of_item (filter is_hypothesis items)
  pub conjecture : map part_of_named (option_to_list problem.conjecture) ≡ map part_of_item (filter is_conjecture items)
  pub symbols : HasItsSymbols problem

-- The answer on items: their problem, or the fault of the first item at fault. Want of memory may come at any time.
abbrev pub IsProblemAnswer : List Item → Result Problem ProblemFault → Type 0
IsProblemAnswer items (Ok problem) = IsProblemOf items problem
IsProblemAnswer items (Err Memory) = Unit {0}
IsProblemAnswer items (Err fault) = IsFirstFault item_fault items fault

-- the names of a problem's hypotheses and of its conjecture
abbrev pub names_of : Problem → List (List ℕ)
names_of problem = map (λ named. named.name) problem.hyps ++ map (λ named. named.name) (option_to_list problem.conjecture)

-- Each formula of the problem is closed and well-formed, and has no Any.
abbrev pub HasProperFormulas : Problem → Type 0
HasProperFormulas problem = All IsProper (formulas_of problem)

-- The answer on an item: its formula with its name, or its fault. Only private contracts cite this.
abbrev pub IsNamedAnswer : List (List ℕ) → Bool → ℕ → Item → Result Named ProblemFault → Type 0
IsNamedAnswer names conjectured number item (Ok named) = (fault_by names conjectured number item ≡ None) × (part_of_named named ≡ part_of_item item)
IsNamedAnswer names conjectured number item (Err Memory) = Unit {0}
IsNamedAnswer names conjectured number item (Err fault) = fault_by names conjectured number item ≡ Some fault
