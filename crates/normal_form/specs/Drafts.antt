-- Formulas whose vacuous quantifiers are marked, and the forms that come of them.
use Rattle.std.specs.Prelude.{◌≡◌, ◌≤◌, ℕ, zero, suc, ◌+◌, Bool, true, false, not, if◌then◌else◌, List, ◌∷◌}
use Rattle.dk_syntax.specs.declared.Formula.{Formula}
use Rattle.normal_form.specs.Normal.{literal_of, normal_of}
use Rattle.normal_form.specs.Renaming.{kept_number, owner, renamed_literal}
use Rattle.normal_form.specs.declared.draft.Draft.{Draft, Draft-F, fold-Draft}
use Rattle.normal_form.specs.declared.draft.Draft.TheOpen as draft
use Rattle.normal_form.specs.declared.form.Nf.{Nf, Nf-F, fold-Nf}
use Rattle.normal_form.specs.declared.form.Nf.TheOpen as form
use Rattle.normal_form.specs.declared.form.Nf.TheVariants.{All, And, Ex, False, Lit, Or, True}

-- two forms joined by "and", or by "or"
abbrev pub two_joined : Bool → Nf → Nf → Nf
two_joined both a b = if both then And a b else Or a b

-- the universal of a form, or its existential
abbrev pub quantified_form : Bool → Nf → Nf
quantified_form each a = if each then All a else Ex a

-- The form of a draft with a sign, from those of its parts, without its vacuous quantifiers. For each quantifier
-- around it is known how many were dropped before its body, and how many are by now.
abbrev pub settled_at : Draft-F (Bool → List ℕ → ℕ → Nf) → Bool → List ℕ → ℕ → Nf
settled_at draft.True sign around dropped = if sign then True else False
settled_at draft.False sign around dropped = if not sign then True else False
settled_at (draft.Atom symbol args) sign around dropped = Lit (renamed_literal (kept_number around dropped) (literal_of sign symbol args))
settled_at (draft.Not a) sign around dropped = a (not sign) around dropped
settled_at (draft.And a b) sign around dropped = two_joined sign (a sign around dropped) (b sign around dropped)
settled_at (draft.Or a b) sign around dropped = two_joined (not sign) (a sign around dropped) (b sign around dropped)
settled_at (draft.Iff a b) true around dropped = And (Or (a false around dropped) (b true around dropped)) (Or (b false around dropped) (a true around dropped))
settled_at (draft.Iff a b) false around dropped = And (Or (a true around dropped) (b true around dropped)) (Or (a false around dropped) (b false around dropped))
settled_at (draft.All a) sign around dropped = quantified_form sign (a sign (dropped ∷ around) dropped)
settled_at (draft.Ex a) sign around dropped = quantified_form (not sign) (a sign (dropped ∷ around) dropped)
settled_at (draft.Vacuous a) sign around dropped = a sign ((dropped + 1) ∷ around) (dropped + 1)

-- the form of the draft with a sign
abbrev pub settled : Draft → Bool → List ℕ → ℕ → Nf
settled = fold-Draft (Bool → List ℕ → ℕ → Nf) settled_at

-- new numbers under one more quantifier, whose variable keeps the number 0
abbrev pub under : (ℕ → ℕ) → ℕ → ℕ
under new zero = zero
under new (suc n) = suc (new n)

-- a form with new numbers, from its parts with them
abbrev pub renamed_form_at : Nf-F ((ℕ → ℕ) → Nf) → (ℕ → ℕ) → Nf
renamed_form_at form.True new = True
renamed_form_at form.False new = False
renamed_form_at (form.Lit literal) new = Lit (renamed_literal new literal)
renamed_form_at (form.And a b) new = And (a new) (b new)
renamed_form_at (form.Or a b) new = Or (a new) (b new)
renamed_form_at (form.All a) new = All (a (under new))
renamed_form_at (form.Ex a) new = Ex (a (under new))

-- the form with a new number for each free variable
abbrev pub renamed_form : Nf → (ℕ → ℕ) → Nf
renamed_form = fold-Nf ((ℕ → ℕ) → Nf) renamed_form_at

-- no more were dropped before a quantifier's body than by now, and what was dropped since stands between
abbrev pub Fits : List ℕ → ℕ → Type 0
Fits around dropped = (n : ℕ) → (owner around n ≤ dropped) × (dropped ≤ n + owner around n)

-- the draft's forms are the formula's normal forms
abbrev pub Drafts : Formula → Draft → Type 0
Drafts f draft =
    (sign : Bool) (around : List ℕ) (dropped : ℕ) → Fits around dropped → settled draft sign around dropped ≡ renamed_form (normal_of f sign) (kept_number around dropped)
