-- Limits of clause lists: what is counted of full images, and that regrouping changes no count.
use Rattle.std.proofs.Common.{◌≡◌, ◌+◌, ◌*◌, ◌<◌, ◌≤◌, ℕ, zero, suc, Bool, true, false, List, [], min, nat_lt, if◌then◌else◌, length, Option, Some, None, refl, sym, ap, ap₂, ◌∙◌, subst, arith, rules}
use Rattle.std.proofs.lemmas.Bool.Decides.{nat_tests}
use Rattle.std.specs.Option.{option_or}
use Rattle.dk_syntax.specs.Depth.{capped}
use Rattle.normal_form.proofs.Regroups.{sorting_is_exact}
use Rattle.normal_form.specs.ClauseLists.{clause_rows, literal_count}
use Rattle.normal_form.specs.Existentials.{existential_in}
use Rattle.normal_form.specs.Forms.{Form, form_of}
use Rattle.normal_form.specs.Sorting.{chain, in_all, in_and, in_ex, in_or, Regrouped, SameSorted, stay, swap_and, swap_or, turn_and, turn_or}
use Rattle.normal_form.specs.declared.form.Nf.{Nf}
use Rattle.step_check.proofs.Existentials.{existential_same, full_unchanged}
use Rattle.step_check.specs.Limits.{counts_limit, form_limit, full_limit, list_limit, nodes_limit}
use Rattle.step_check.specs.Notes.{IsOwnOf, IsShort}
use Rattle.step_check.specs.declared.notes.Own.{Own}
use Rattle.step_check.specs.declared.verdict.Limit.{Limit}
use Rattle.step_check.specs.declared.verdict.Limit.TheVariants.{Clauses, Literals, NormalForm}
use Rattle.step_compose.proofs.ImageCounts.{clauses_of_full, literals_of_full}
use Rattle.step_compose.specs.Composing.{HasShortList, IsListed}
use Rattle.step_compose.specs.Counting.{full_totals}
use Rattle.step_compose.specs.FullImages.{full_image, nameless}

-- ---- tests

not_more : (k n : ℕ) → nat_lt k n ≡ false → n ≤ k
not_more k n h = grind (arith, nat_tests)

more : (k n : ℕ) → k < n → nat_lt k n ≡ true
more k n h = grind (arith, nat_tests)

no_more : (k n : ℕ) → n ≤ k → nat_lt k n ≡ false
no_more k n h = grind (arith, nat_tests)

some_none : (x : Limit) → Some x ≡ None → ⊥
some_none x h = cc

-- what the limits say of counts
pub counts_within : (clauses literals : ℕ) → counts_limit clauses literals ≡ None → (clauses ≤ 4096) × (literals ≤ 65536)
counts_within clauses literals h = by_tests (nat_lt 4096 clauses) (nat_lt 65536 literals) refl refl
  where
    by_tests : (c l : Bool) → nat_lt 4096 clauses ≡ c → nat_lt 65536 literals ≡ l → (clauses ≤ 4096) × (literals ≤ 65536)
    by_tests false false a b = (not_more 4096 clauses a, not_more 65536 literals b)
    by_tests false true a b = absurd (some_none Literals (sym (ap₂ (λ x y. if x then Some Clauses else (if y then Some Literals else None)) a b) ∙ h))
    by_tests true l a b = absurd (some_none Clauses (sym (ap (λ x. if x then Some Clauses else (if nat_lt 65536 literals then Some Literals else None)) a) ∙ h))

pub over_clauses : (clauses literals : ℕ) → 4096 < clauses → counts_limit clauses literals ≡ Some Clauses
over_clauses clauses literals h = ap (λ x. if x then Some Clauses else (if nat_lt 65536 literals then Some Literals else None)) (more 4096 clauses h)

pub over_literals : (clauses literals : ℕ) → clauses ≤ 4096 → 65536 < literals → counts_limit clauses literals ≡ Some Literals
over_literals clauses literals h k =
    ap₂ (λ x y. if x then Some Clauses else (if y then Some Literals else None)) (no_more 4096 clauses h) (more 65536 literals k)

pub over_none : (clauses literals : ℕ) → clauses ≤ 4096 → literals ≤ 65536 → counts_limit clauses literals ≡ None
over_none clauses literals h k =
    ap₂ (λ x y. if x then Some Clauses else (if y then Some Literals else None)) (no_more 4096 clauses h) (no_more 65536 literals k)

pub capped_more : (k n : ℕ) → k < capped n → k < n
capped_more k n h = omega arith

pub capped_within : (k n : ℕ) → k < 18446744073709551615 → capped n ≤ k → n ≤ k
capped_within k n less h = omega arith

-- ---- lists of forms without existentials

pub full_is_list : (n : Nf) → existential_in n ≡ false → full_limit n ≡ list_limit n
full_is_list n h = ap list_limit (full_unchanged (λ e. nameless) n h)

pub full_listed : (n : Nf) → full_limit n ≡ None → IsListed n
full_listed n h = counts_within _ _ h

-- ---- regrouped forms

regrouped_totals : {a b : Form} → Regrouped a b → full_totals a ≡ full_totals b
regrouped_totals (stay a) = refl
regrouped_totals (chain a b c h k) = regrouped_totals h ∙ regrouped_totals k
regrouped_totals (swap_and a b) = ap₂ (λ x y. (x, y)) (omega arith) (omega arith)
regrouped_totals (turn_and a b c) = ap₂ (λ x y. (x, y)) (omega arith) (omega arith)
regrouped_totals (in_and a b c d h k) = ap₂ (λ x y. (x.0 + y.0, x.1 + y.1)) (regrouped_totals h) (regrouped_totals k)
regrouped_totals (swap_or a b) = ap₂ (λ x y. (x, y)) (grind arith) (grind arith)
regrouped_totals (turn_or a b c) = ap₂ (λ x y. (x, y)) (grind arith) (grind arith)
regrouped_totals (in_or a b c d h k) = ap₂ (λ x y. (x.0 * y.0, x.1 * y.0 + x.0 * y.1)) (regrouped_totals h) (regrouped_totals k)
regrouped_totals (in_all a b h) = regrouped_totals h
regrouped_totals (in_ex a b h) = regrouped_totals h

full_same : (n r : Nf) → SameSorted n r → full_limit r ≡ full_limit n
full_same n r h =
    let e = regrouped_totals ((sorting_is_exact n r).0 h) in
    let clauses = clauses_of_full (λ x. nameless) r ∙ (sym (ap (λ x. x.0) e) ∙ sym (clauses_of_full (λ x. nameless) n)) in
    let literals = literals_of_full (λ x. nameless) r ∙ (sym (ap (λ x. x.1) e) ∙ sym (literals_of_full (λ x. nameless) n)) in
    ap₂ counts_limit clauses literals

-- the first limit is passed, or else the second where the test is false
abbrev or_none : Option Limit → Bool → Option Limit → Type 0
or_none a b c = option_or a (if b then None else c) ≡ None

second_none : (a c : Option Limit) → or_none a false c → c ≡ None
second_none None c h = h
second_none (Some x) c h = cc

list_within : (n : Nf) → IsShort n → list_limit n ≡ None
list_within n h = second_none (nodes_limit n) (list_limit n) (subst (λ b. or_none (nodes_limit n) b (list_limit n)) h.plain h.within)

-- a form that is regrouped from one with a short list has a short list
pub short_same : (n r : Nf) → SameSorted n r → IsShort n → HasShortList r
short_same n r h short =
    let plain : existential_in r ≡ false = existential_same n r h ∙ short.plain in
    counts_within _ _ (sym (full_is_list r plain) ∙ (full_same n r h ∙ (full_is_list n short.plain ∙ list_within n short)))

-- ---- what is noted of own forms

abbrev noted : Nf → Bool → Option Limit → Own
noted n exists limit = record { form = Some n; exists = exists; limit = limit }

limit_by : (n : Nf) (exists : Bool) → nodes_limit n ≡ None → existential_in n ≡ exists → (if exists then None else list_limit n) ≡ form_limit n
limit_by n exists within e =
    sym (ap (λ a. option_or a (if existential_in n then None else list_limit n)) within ∙ ap (λ (b : Bool). if b then None else list_limit n) e)

pub noted_existential : (n : Nf) (exists : Bool) (limit : Option Limit) → nodes_limit n ≡ None → exists ≡ existential_in n → exists ≡ true → limit ≡ None → IsOwnOf n (noted n exists limit)
noted_existential n exists limit within e is h = record { form = (refl, within, e); limit = h ∙ limit_by n true within (sym e ∙ is) }

pub noted_plain : (n : Nf) (exists : Bool) (limit : Option Limit) → nodes_limit n ≡ None → exists ≡ existential_in n → exists ≡ false → limit ≡ full_limit n → IsOwnOf n (noted n exists limit)
noted_plain n exists limit within e is h = record {
  form = (refl, within, e);
  limit = h ∙ (full_is_list n (sym e ∙ is) ∙ limit_by n false within (sym e ∙ is));
}
