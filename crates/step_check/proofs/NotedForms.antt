-- What notes of own forms and of their sorted forms say.
use Rattle.std.proofs.Common.{◌≡◌, ◌↔◌, ℕ, Bool, true, false, not, List, Option, Some, None, Ok, Err, OnOk, MatchOption, refl, sym, ap, ◌∙◌, subst}
use Rattle.std.specs.Bool.{OnFalse, OnTrue}
use Rattle.std.specs.Option.{is_some}
use Rattle.std.specs.declared.result.Result.{Result}
use Rattle.normal_form.proofs.FormLaws.{tree_is_form}
use Rattle.normal_form.specs.Existentials.{existential_in}
use Rattle.normal_form.specs.Forms.{form_of, nf_of}
use Rattle.normal_form.specs.Sorting.{bare, IsSorted, SameSorted, sorted_form}
use Rattle.normal_form.specs.declared.form.Nf.{Nf}
use Rattle.normal_form.specs.declared.sorting.Sorted.{Sorted}
use Rattle.step_check.proofs.OneRepresentative.{some_or_none}
use Rattle.step_check.specs.Limits.{nodes_limit}
use Rattle.step_check.specs.Notes.{Grow, IsOwnOf}
use Rattle.step_check.specs.Tables.{Keeps}
use Rattle.step_check.specs.declared.notes.Forms.{Forms}
use Rattle.step_check.specs.declared.notes.Own.{Own}
use Rattle.step_check.specs.declared.verdict.Limit.TheVariants.{NormalForm}

-- ---- own forms

module _ (n : Nf) where
  abbrev Says : Bool → Option Nf → Type 0
  Says exists form = MatchOption form (nodes_limit n ≡ Some NormalForm) (λ it. (it ≡ n) × (nodes_limit n ≡ None) × (exists ≡ existential_in n))

  exists_by : (exists : Bool) (form : Option Nf) → Says exists form → nodes_limit n ≡ None → exists ≡ existential_in n
  exists_by exists None h within = absurd (some_or_none (nodes_limit n) NormalForm h within)
  exists_by exists (Some it) h within = h.2

  large_by : (exists none : Bool) (form : Option Nf) → Says exists form → is_some form ≡ not none → OnTrue none (nodes_limit n ≡ Some NormalForm)
  large_by exists true None h k = h
  large_by exists false None h k = tt
  large_by exists true (Some it) h k = cc
  large_by exists false (Some it) h k = tt

  within_by : (exists none : Bool) (form : Option Nf) → Says exists form → is_some form ≡ not none → OnFalse none (nodes_limit n ≡ None)
  within_by exists true None h k = tt
  within_by exists false None h k = cc
  within_by exists true (Some it) h k = tt
  within_by exists false (Some it) h k = h.1

  none_by : (exists : Bool) (form : Option Nf) → Says exists form → nodes_limit n ≡ None → form ≡ None → ⊥
  none_by exists None h within e = some_or_none (nodes_limit n) NormalForm h within
  none_by exists (Some it) h within e = cc

  form_by : (exists : Bool) (form : Option Nf) (it : Nf) → Says exists form → form ≡ Some it → it ≡ n
  form_by exists None it h e = cc
  form_by exists (Some one) it h e = let same : one ≡ it = cc in sym same ∙ h.0

pub none_noted : (n : Nf) (own : Own) → IsOwnOf n own → nodes_limit n ≡ None → own.form ≡ None → ⊥
none_noted n own h within e = none_by n own.exists own.form h.form within e

pub form_noted : (n : Nf) (own : Own) (it : Nf) → IsOwnOf n own → own.form ≡ Some it → it ≡ n
form_noted n own it h e = form_by n own.exists own.form it h.form e

pub exists_noted : (n : Nf) (own : Own) → IsOwnOf n own → nodes_limit n ≡ None → own.exists ≡ existential_in n
exists_noted n own h within = exists_by n own.exists own.form h.form within

pub large_noted : (n : Nf) (own : Own) (none : Bool) → IsOwnOf n own → is_some own.form ≡ not none → OnTrue none (nodes_limit n ≡ Some NormalForm)
large_noted n own none h k = large_by n own.exists none own.form h.form k

pub within_noted : (n : Nf) (own : Own) (none : Bool) → IsOwnOf n own → is_some own.form ≡ not none → OnFalse none (nodes_limit n ≡ None)
within_noted n own none h k = within_by n own.exists none own.form h.form k

-- ---- sorted forms

pub same_sorts : (n m : Nf) (one other : Sorted) → IsSorted n one → IsSorted m other → (one.form ≡ other.form) ↔ SameSorted n m
same_sorts n m one other h k = (
  λ e. sym (tree_is_form (bare (sorted_form n))) ∙ (ap form_of (sym h.form ∙ (e ∙ k.form)) ∙ tree_is_form (bare (sorted_form m))),
  λ e. h.form ∙ (ap nf_of e ∙ sym k.form),
)

-- ---- what is known

-- what is found in a slot stands in it
pub found_there : {A B : Type 0} (value : B → A) (found : Option B) (slot : Option A)
    → MatchOption found (slot ≡ None) (λ item. slot ≡ Some (value item)) → is_some found ≡ true → (x : A) × (slot ≡ Some x)
found_there value None slot h k = cc
found_there value (Some item) slot h k = (value item, h)

pub grown : {A B : Type 0} (result : Result A B) (old new : Forms) (owns : List (Option Own)) → Keeps old.owns owns
    → OnOk result (new.owns ≡ owns) → OnOk result (Keeps old.links new.links) → OnOk result (Grow old new)
grown (Ok a) old new owns kept e links = record { owns = subst (λ x. Keeps old.owns x) (sym e) kept; links = links }
grown (Err b) old new owns kept e links = tt
