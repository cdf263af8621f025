-- The formulas of problems and traces are those of their items, so they are proper where these are.
use Rattle.std.proofs.Common.{◌≡◌, ℕ, Bool, List, [], ◌∷◌, ◌++◌, Option, None, Some, map, filter}
use Rattle.std.proofs.lemmas.List.Elements.{All-append, All-cons, All-filter, All-head, All-map, All-nil, All-same, All-tail}
use Rattle.std.specs.Prelude.{All, option_to_list}
use Rattle.dk_syntax.specs.Problems.{formula_of}
use Rattle.dk_syntax.specs.declared.Named.{Named}
use Rattle.dk_syntax.specs.declared.Problem.{Problem}
use Rattle.tptp_text.specs.ProperItems.{HaveProperFormulas, IfPlain, IsProper}
use Rattle.tptp_text.specs.declared.Body.{Body}
use Rattle.tptp_text.specs.declared.Item.{Item}
use Rattle.tstp_trace.specs.Problems.{HasProperFormulas, is_conjecture, is_hypothesis, IsProblemOf, part_of_item as named_part, part_of_named}
use Rattle.tstp_trace.specs.Traces.{HasProperSteps, IsTraceOf, Part, part_of_item, part_of_step}
use Rattle.tstp_trace.specs.declared.step.Trace.{Trace}

-- what holds of each part holds of each whole by its part
all_of_parts : {X Y : Type 0} (P : Y → Type 0) (f : X → Y) (xs : List X) → All P (map f xs) → All (λ x. P (f x)) xs
all_of_parts P f [] h = All-nil (λ x. P (f x))
all_of_parts P f (x ∷ xs) h =
    All-cons (λ y. P (f y)) x xs (All-head P (f x) (map f xs) h) (all_of_parts P f xs (All-tail P (f x) (map f xs) h))

-- so it is carried from one list to another with the same parts
carried : {X Y Z : Type 0} (P : Z → Type 0) (f : X → Z) (g : Y → Z) (xs : List X) (ys : List Y) → map g ys ≡ map f xs → All (λ x. P (f x)) xs → All (λ y. P (g y)) ys
carried P f g xs ys same all = all_of_parts P g ys (All-same P (map g ys) (map f xs) same (All-map P f xs all))

pub proper_trace : (items : List Item) (trace : Trace) → IsTraceOf items trace → HaveProperFormulas items → HasProperSteps trace
proper_trace items trace h proper = carried (λ (part : Part). IfPlain part.body IsProper) part_of_item part_of_step items trace.steps h.steps proper

conjecture_proper : (conjecture : Option Named) → All (λ (named : Named). IsProper named.formula) (option_to_list conjecture) → All IsProper (formula_of conjecture)
conjecture_proper None h = All-nil IsProper
conjecture_proper (Some named) h = All-cons IsProper named.formula [] (All-head (λ (one : Named). IsProper one.formula) named [] h) (All-nil IsProper)

-- what is kept of the items
kept_proper : (test : Item → Bool) (items : List Item) (kept : List Named) → map part_of_named kept ≡ map named_part (filter test items) → HaveProperFormulas items
    → All (λ (named : Named). IsProper named.formula) kept
kept_proper test items kept same proper =
    carried (λ (part : List ℕ × Body). IfPlain part.1 IsProper) named_part part_of_named (filter test items) kept same
    (All-filter test (λ (item : Item). IfPlain item.body IsProper) items proper)

pub proper_problem : (items : List Item) (problem : Problem) → IsProblemOf items problem → HaveProperFormulas items → HasProperFormulas problem
proper_problem items problem h proper =
    All-append IsProper (map (λ (named : Named). named.formula) problem.hyps) (formula_of problem.conjecture)
    (All-map IsProper (λ (named : Named). named.formula) problem.hyps (kept_proper is_hypothesis items problem.hyps h.hypotheses proper))
    (conjecture_proper problem.conjecture (kept_proper is_conjecture items (option_to_list problem.conjecture) h.conjecture proper))
