-- The first construct of a formula that is outside the profile, in the order of the text.
use Rattle.std.specs.Prelude.{Bool, List, [], ◌∷◌, map, codes, nat_eq, if◌then◌else◌, ◌||◌, ℕ, Option, Some, None}
use Rattle.std.specs.Cmp.Lexicographic.{pointwise}
use Rattle.tptp_formulas.specs.declared.body.OutsideKind.{OutsideKind}
use Rattle.tptp_formulas.specs.declared.body.OutsideKind.TheVariants as kind
use Rattle.tptp_formulas.specs.declared.raw.Raw.{Raw, Raw-F, fold-Raw}
use Rattle.tptp_formulas.specs.declared.raw.Raw.TheOpen as raw
use Rattle.tptp_formulas.specs.declared.raw.RawTerm.{RawTerm, RawTerm-F, fold-RawTerm}
use Rattle.tptp_formulas.specs.declared.raw.RawTerm.TheOpen as term

-- the first of two, where it is there
abbrev pub first_of_two : {A : Type 0} → Option A → Option A → Option A
first_of_two None b = b
first_of_two (Some x) b = Some x

-- the first that is there
abbrev pub first_some : {A : Type 0} → List (Option A) → Option A
first_some [] = None
first_some (x ∷ rest) = first_of_two x (first_some rest)

-- what a term has outside, from what its arguments have: a dollar word is always so in a term
abbrev pub outside_term_at : RawTerm-F (Option OutsideKind) → Option OutsideKind
outside_term_at (term.Variable name) = None
outside_term_at (term.Apply name args) = first_some args
outside_term_at (term.Number name) = Some kind.Number
outside_term_at (term.Distinct name) = Some kind.Distinct
outside_term_at (term.Dollar name args) = Some kind.Dollar

-- the kind of the term's first construct outside the profile
abbrev pub outside_term : RawTerm → Option OutsideKind
outside_term = fold-RawTerm (Option OutsideKind) outside_term_at

abbrev pub is_true : List ℕ → Bool
is_true name = pointwise nat_eq name (codes "$true")

abbrev pub is_false : List ℕ → Bool
is_false name = pointwise nat_eq name (codes "$false")

-- a dollar word as an atom: only `$true` and `$false` without arguments are in the profile
abbrev pub outside_dollar : List ℕ → List RawTerm → Option OutsideKind
outside_dollar name [] = if is_true name || is_false name then None else Some kind.Dollar
outside_dollar name (x ∷ xs) = Some kind.Dollar

-- what a formula has outside, from what its parts have: the comparison stands between its terms
abbrev pub outside_at : Raw-F (Option OutsideKind) → Option OutsideKind
outside_at (raw.Atom name args) = first_some (map outside_term args)
outside_at (raw.Dollar name args) = outside_dollar name args
outside_at (raw.Equation comparison a b) = first_of_two (outside_term a) (Some kind.Equality)
outside_at (raw.Unit prefixes inner) = inner
outside_at (raw.Binary connective a b) = first_of_two a b
outside_at (raw.Chain link first others) = first_of_two first (first_some others)

-- the kind of the formula's first construct outside the profile
abbrev pub outside_of : Raw → Option OutsideKind
outside_of = fold-Raw (Option OutsideKind) outside_at
