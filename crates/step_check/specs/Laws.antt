-- What holds of the definitions: one representative, one verdict, one verdict list.
use Rattle.std.specs.Prelude.{◌≡◌, ℕ, List}
use Rattle.normal_form.specs.Sorting.{SameSorted}
use Rattle.normal_form.specs.declared.form.Nf.{Nf}
use Rattle.step_check.specs.Freshness.{AreVerdicts}
use Rattle.step_check.specs.Representatives.{Represents}
use Rattle.step_check.specs.Steps.{Case, own_form}
use Rattle.step_check.specs.Verdicts.{HasVerdict}
use Rattle.step_check.specs.declared.verdict.Verdict.{Verdict}

-- a step has one representative at most
abbrev pub RepresentativeIsOne : Type 0
RepresentativeIsOne = (case : Case) (i : ℕ) (one other : Nf) → Represents case i one → Represents case i other → one ≡ other

-- a representative has the sorted form of the step's own normal form
abbrev pub RepresentativeIsSorted : Type 0
RepresentativeIsSorted = (case : Case) (i : ℕ) (r : Nf) → Represents case i r → SameSorted (own_form case i) r

-- a step has one verdict at most
abbrev pub VerdictIsOne : Type 0
VerdictIsOne = (case : Case) (i : ℕ) (one other : Verdict) → HasVerdict case i one → HasVerdict case i other → one ≡ other

-- there is one verdict list at most
abbrev pub VerdictsAreOne : Type 0
VerdictsAreOne = (case : Case) (one other : List Verdict) → AreVerdicts case one → AreVerdicts case other → one ≡ other
