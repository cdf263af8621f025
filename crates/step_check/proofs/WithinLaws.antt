-- What follows where no own form of a step and of its parents passes a limit.
use Rattle.std.proofs.Common.{◌≡◌, ◌<◌, ℕ, zero, suc, Bool, true, false, ◌||◌, List, [], ◌∷◌, map, length, get_or, if◌then◌else◌, Option, Some, None, Contains, refl, sym, ap, ◌∙◌, subst, arith}
use Rattle.std.specs.List.{list_any}
use Rattle.std.specs.Option.{option_or}
use Rattle.normal_form.specs.Existentials.{existential_in}
use Rattle.normal_form.specs.declared.form.Nf.{Nf}
use Rattle.step_check.specs.Limits.{first_limit, form_limit, limit_at, list_limit, nodes_limit}
use Rattle.step_check.specs.Notes.{IsShort}
use Rattle.step_check.specs.Representatives.{IsWithin}
use Rattle.step_check.specs.Steps.{Case, has_existential, own_form, parents_of}
use Rattle.step_check.specs.declared.verdict.Limit.{Limit}

or_left : (a b : Option Limit) → option_or a b ≡ None → a ≡ None
or_left None b h = refl
or_left (Some x) b h = cc

or_right : (a b : Option Limit) → option_or a b ≡ None → b ≡ None
or_right None b h = h
or_right (Some x) b h = cc

first_within : (form : ℕ → Nf) (numbers : List ℕ) (j q : ℕ) → first_limit (map form numbers) ≡ None → j < length numbers → get_or numbers j q ≡ q → form_limit (form q) ≡ None
first_within form [] j q h below is = absurd (omega arith)
first_within form (n ∷ numbers) zero q h below is =
    subst (λ x. form_limit (form x) ≡ None) is (or_left (form_limit (form n)) (first_limit (map form numbers)) h)
first_within form (n ∷ numbers) (suc j) q h below is =
    first_within form numbers j q (or_right (form_limit (form n)) (first_limit (map form numbers)) h) (omega arith) is

pub nodes_within : (n : Nf) → form_limit n ≡ None → nodes_limit n ≡ None
nodes_within n h = or_left (nodes_limit n) (if existential_in n then None else list_limit n) h

left_false : (a b : Bool) → (a || b) ≡ false → a ≡ false
left_false true b h = cc
left_false false b h = refl

right_false : (a b : Bool) → (a || b) ≡ false → b ≡ false
right_false true b h = cc
right_false false b h = h

none_of : (test : ℕ → Bool) (numbers : List ℕ) (j q : ℕ) → list_any test numbers ≡ false → j < length numbers → get_or numbers j q ≡ q → test q ≡ false
none_of test [] j q h below is = absurd (omega arith)
none_of test (n ∷ numbers) zero q h below is = subst (λ x. test x ≡ false) is (left_false (test n) (list_any test numbers) h)
none_of test (n ∷ numbers) (suc j) q h below is = none_of test numbers j q (right_false (test n) (list_any test numbers) h) (omega arith) is

module _ (case : Case) (i : ℕ) where
  pub within_here : IsWithin case i → form_limit (own_form case i) ≡ None
  within_here h = first_within (own_form case) (i ∷ parents_of case i) 0 i h (omega arith) refl

  pub within_parent : (q : ℕ) → IsWithin case i → Contains (parents_of case i) q → form_limit (own_form case q) ≡ None
  within_parent q h (j, below, is) = first_within (own_form case) (i ∷ parents_of case i) (suc j) q h (omega arith) is

  pub here_nodes : IsWithin case i → nodes_limit (own_form case i) ≡ None
  here_nodes h = nodes_within (own_form case i) (within_here h)

  pub parent_nodes : (q : ℕ) → IsWithin case i → Contains (parents_of case i) q → nodes_limit (own_form case q) ≡ None
  parent_nodes q h is = nodes_within (own_form case q) (within_parent q h is)

  pub short_here : IsWithin case i → existential_in (own_form case i) ≡ false → IsShort (own_form case i)
  short_here h plain = record { plain = plain; within = within_here h }

  pub short_plain : IsWithin case i → has_existential case i ≡ false → IsShort (own_form case i)
  short_plain h plain = short_here h (none_of (λ q. existential_in (own_form case q)) (i ∷ parents_of case i) 0 i plain (omega arith) refl)

  pub short_parent : (q : ℕ) → IsWithin case i → has_existential case i ≡ false → Contains (parents_of case i) q → IsShort (own_form case q)
  short_parent q h plain (j, below, is) = record {
    plain = none_of (λ p. existential_in (own_form case p)) (i ∷ parents_of case i) (suc j) q plain (omega arith) is;
    within = first_within (own_form case) (i ∷ parents_of case i) (suc j) q h (omega arith) is;
  }
