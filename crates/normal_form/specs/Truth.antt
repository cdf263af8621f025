-- Truth of formulas and forms in an interpretation.
use Rattle.std.specs.Prelude.{◌≡◌, ℕ, zero, suc, Bool, true, false, not, ◌&&◌, ◌||◌, List, map}
use Rattle.dk_syntax.specs.declared.Formula.{Formula, Formula-F, fold-Formula}
use Rattle.dk_syntax.specs.declared.Formula.TheOpen as formula
use Rattle.dk_syntax.specs.declared.Literal.{Literal}
use Rattle.dk_syntax.specs.declared.SymKey.{SymKey}
use Rattle.dk_syntax.specs.declared.Term.{Term, Term-F, fold-Term}
use Rattle.dk_syntax.specs.declared.Term.TheOpen as term
use Rattle.normal_form.specs.declared.form.Nf.{Nf, Nf-F, fold-Nf}
use Rattle.normal_form.specs.declared.form.Nf.TheOpen as form

-- A domain D with a value for each symbol and for Any, a truth value for each atom, and the quantifiers
-- over D: `all` of a test is true where the test is so of each member, `ex` where it is so of some member.
-- No more is asked of these two than De Morgan's laws and that a fixed test keeps its value.
pub record Interpretation (D : Type 0) : Type 0 where
  pub any : D
  pub function : SymKey → List D → D
  pub predicate : SymKey → List D → Bool
  pub all : (D → Bool) → Bool
  pub ex : (D → Bool) → Bool
  pub not_all : (p : D → Bool) → not (all p) ≡ ex (λ d. not (p d))
  pub not_ex : (p : D → Bool) → not (ex p) ≡ all (λ d. not (p d))
  pub all_fixed : (b : Bool) → all (λ d. b) ≡ b
  pub ex_fixed : (b : Bool) → ex (λ d. b) ≡ b

-- values of variables under one more quantifier, whose variable has the first value
abbrev pub with_value : {D : Type 0} → D → (ℕ → D) → ℕ → D
with_value d values zero = d
with_value d values (suc n) = values n

-- a term's value, from those of its arguments
abbrev pub value_at : {D : Type 0} (i : Interpretation D) → (ℕ → D) → Term-F D → D
value_at i values (term.Var n) = values n
value_at i values (term.App symbol args) = i.function symbol args
value_at i values term.Any = i.any

-- the term's value, at these values of the variables
abbrev pub value : {D : Type 0} (i : Interpretation D) → (ℕ → D) → Term → D
value {D = D} i values = fold-Term D (value_at i values)

-- the truth of a statement with a sign
abbrev pub signed : Bool → Bool → Bool
signed true b = b
signed false b = not b

-- a formula's truth, from that of its parts
abbrev pub truth_at : {D : Type 0} (i : Interpretation D) → Formula-F ((ℕ → D) → Bool) → (ℕ → D) → Bool
truth_at i formula.True values = true
truth_at i formula.False values = false
truth_at i (formula.Atom symbol args) values = i.predicate symbol (map (value i values) args)
truth_at i (formula.Not a) values = not (a values)
truth_at i (formula.And a b) values = a values && b values
truth_at i (formula.Or a b) values = a values || b values
truth_at i (formula.Imp a b) values = not (a values) || b values
truth_at i (formula.Iff a b) values = (not (a values) || b values) && (not (b values) || a values)
truth_at i (formula.All a) values = i.all (λ d. a (with_value d values))
truth_at i (formula.Ex a) values = i.ex (λ d. a (with_value d values))

-- the formula's truth in the interpretation, at these values of the variables
abbrev pub truth : {D : Type 0} (i : Interpretation D) → Formula → (ℕ → D) → Bool
truth {D = D} i = fold-Formula ((ℕ → D) → Bool) (truth_at i)

-- the literal's truth
abbrev pub literal_truth : {D : Type 0} (i : Interpretation D) → (ℕ → D) → Literal → Bool
literal_truth i values literal = signed literal.positive (i.predicate literal.pred (map (value i values) literal.args))

-- a form's truth, from that of its parts
abbrev pub form_truth_at : {D : Type 0} (i : Interpretation D) → Nf-F ((ℕ → D) → Bool) → (ℕ → D) → Bool
form_truth_at i form.True values = true
form_truth_at i form.False values = false
form_truth_at i (form.Lit literal) values = literal_truth i values literal
form_truth_at i (form.And a b) values = a values && b values
form_truth_at i (form.Or a b) values = a values || b values
form_truth_at i (form.All a) values = i.all (λ d. a (with_value d values))
form_truth_at i (form.Ex a) values = i.ex (λ d. a (with_value d values))

-- the form's truth in the interpretation, at these values of the variables
abbrev pub form_truth : {D : Type 0} (i : Interpretation D) → Nf → (ℕ → D) → Bool
form_truth {D = D} i = fold-Nf ((ℕ → D) → Bool) (form_truth_at i)

-- in every interpretation over the domain, at all values, the form is true exactly where the signed formula is
abbrev pub SameTruthOver : (D : Type 0) → Formula → Bool → Nf → Type 0
SameTruthOver D f sign a = (i : Interpretation D) (values : ℕ → D) → form_truth i a values ≡ signed sign (truth i f values)

-- the same over the numbers, which are as good as any countable domain
abbrev pub SameTruth : Formula → Bool → Nf → Type 0
SameTruth = SameTruthOver ℕ
