-- The drafts of formulas, kind by kind.
use Rattle.std.proofs.Common.{◌≡◌, ℕ, zero, suc, Bool, true, false, not, if◌then◌else◌, List, [], ◌∷◌, IfOk, OnOk, Result, sym, subst, ap, ap₂, ◌∙◌, rules}
use Rattle.std.proofs.lemmas.Result.{IfOk-weaker}
use Rattle.dk_syntax.specs.declared.Formula.{Formula}
use Rattle.dk_syntax.specs.declared.Formula.TheVariants as formula
use Rattle.dk_syntax.specs.declared.SymKey.{SymKey}
use Rattle.dk_syntax.specs.declared.Term.{Term}
use Rattle.normal_form.proofs.Counting.{in-normal}
use Rattle.normal_form.proofs.DroppedNumbers.{fits_dropped, fits_kept, fits_none, form_dropped, form_kept, form_whole, renamed-All, renamed-And, renamed-Ex, renamed-False, renamed-Lit, renamed-Or, renamed-True}
use Rattle.normal_form.proofs.FormulaEquations.{normal-All-false, normal-All-true, normal-And-false, normal-And-true, normal-Atom, normal-Ex-false, normal-Ex-true, normal-False-false, normal-False-true, normal-Iff-false, normal-Iff-true, normal-Imp-false, normal-Imp-true, normal-Not, normal-Or-false, normal-Or-true, normal-True-false, normal-True-true}
use Rattle.normal_form.specs.Drafts.{Drafts, Fits, quantified_form, renamed_form, settled, two_joined}
use Rattle.normal_form.specs.Lowered.{lowered}
use Rattle.normal_form.specs.Normal.{all_of, ex_of, literal_of, normal_of}
use Rattle.normal_form.specs.Occurrence.{in_form, in_formula}
use Rattle.normal_form.specs.Renaming.{kept_number, renamed_literal}
use Rattle.normal_form.specs.declared.draft.Draft.{Draft, the_lemmas as of_drafts}
use Rattle.normal_form.specs.declared.draft.Draft.TheVariants as draft
use Rattle.normal_form.specs.declared.form.Nf.{Nf}
use Rattle.normal_form.specs.declared.form.Nf.TheVariants as nf

-- ---- the form of each kind of draft

settled-True : (sign : Bool) (s : List ℕ) (d : ℕ) → settled draft.True sign s d ≡ (if sign then nf.True else nf.False)
settled-True sign s d = search (rules, of_drafts)

settled-False : (sign : Bool) (s : List ℕ) (d : ℕ) → settled draft.False sign s d ≡ (if not sign then nf.True else nf.False)
settled-False sign s d = search (rules, of_drafts)

settled-Atom : (symbol : SymKey) (args : List Term) (sign : Bool) (s : List ℕ) (d : ℕ) → settled (draft.Atom symbol args) sign s d ≡ nf.Lit (renamed_literal (kept_number s d) (literal_of sign symbol args))
settled-Atom symbol args sign s d = search (rules, of_drafts)

settled-Not : (x : Draft) (sign : Bool) (s : List ℕ) (d : ℕ) → settled (draft.Not x) sign s d ≡ settled x (not sign) s d
settled-Not x sign s d = search (rules, of_drafts)

settled-And : (x y : Draft) (sign : Bool) (s : List ℕ) (d : ℕ) → settled (draft.And x y) sign s d ≡ two_joined sign (settled x sign s d) (settled y sign s d)
settled-And x y sign s d = search (rules, of_drafts)

settled-Or : (x y : Draft) (sign : Bool) (s : List ℕ) (d : ℕ) → settled (draft.Or x y) sign s d ≡ two_joined (not sign) (settled x sign s d) (settled y sign s d)
settled-Or x y sign s d = search (rules, of_drafts)

settled-Iff-true : (x y : Draft) (s : List ℕ) (d : ℕ) → settled (draft.Iff x y) true s d ≡ nf.And (nf.Or (settled x false s d) (settled y true s d)) (nf.Or (settled y false s d) (settled x true s d))
settled-Iff-true x y s d = search (rules, of_drafts)

settled-Iff-false : (x y : Draft) (s : List ℕ) (d : ℕ) → settled (draft.Iff x y) false s d ≡ nf.And (nf.Or (settled x true s d) (settled y true s d)) (nf.Or (settled x false s d) (settled y false s d))
settled-Iff-false x y s d = search (rules, of_drafts)

settled-All : (x : Draft) (sign : Bool) (s : List ℕ) (d : ℕ) → settled (draft.All x) sign s d ≡ quantified_form sign (settled x sign (d ∷ s) d)
settled-All x sign s d = search (rules, of_drafts)

settled-Ex : (x : Draft) (sign : Bool) (s : List ℕ) (d : ℕ) → settled (draft.Ex x) sign s d ≡ quantified_form (not sign) (settled x sign (d ∷ s) d)
settled-Ex x sign s d = search (rules, of_drafts)

settled-Vacuous : (x : Draft) (sign : Bool) (s : List ℕ) (d : ℕ) → settled (draft.Vacuous x) sign s d ≡ settled x sign (suc d ∷ s) (suc d)
settled-Vacuous x sign s d = search (rules, of_drafts)

-- ---- the draft of each kind of formula

-- a form's variables as a draft's are numbered
abbrev kept : Nf → List ℕ → ℕ → Nf
kept a s d = renamed_form a (kept_number s d)

same_kept : (a b : Nf) (s : List ℕ) (d : ℕ) → a ≡ b → kept b s d ≡ kept a s d
same_kept a b s d e = ap (λ x. renamed_form x (kept_number s d)) (sym e)

pub drafts-True : Drafts formula.True draft.True
drafts-True true s d fits = settled-True true s d ∙ sym (renamed-True (kept_number s d)) ∙ same_kept _ _ s d normal-True-true
drafts-True false s d fits = settled-True false s d ∙ sym (renamed-False (kept_number s d)) ∙ same_kept _ _ s d normal-True-false

pub drafts-False : Drafts formula.False draft.False
drafts-False true s d fits = settled-False true s d ∙ sym (renamed-False (kept_number s d)) ∙ same_kept _ _ s d normal-False-true
drafts-False false s d fits = settled-False false s d ∙ sym (renamed-True (kept_number s d)) ∙ same_kept _ _ s d normal-False-false

pub drafts-Atom : (symbol : SymKey) (args : List Term) → Drafts (formula.Atom symbol args) (draft.Atom symbol args)
drafts-Atom symbol args sign s d fits =
    settled-Atom symbol args sign s d ∙ sym (renamed-Lit (kept_number s d) (literal_of sign symbol args)) ∙ same_kept _ _ s d (normal-Atom symbol args sign)

pub drafts-Not : (a : Formula) (x : Draft) → Drafts a x → Drafts (formula.Not a) (draft.Not x)
drafts-Not a x g sign s d fits = settled-Not x sign s d ∙ g (not sign) s d fits ∙ same_kept _ _ s d (normal-Not a sign)

both : (a b : Nf) (x y : Nf) (s : List ℕ) (d : ℕ) → x ≡ kept a s d → y ≡ kept b s d → nf.And x y ≡ kept (nf.And a b) s d
both a b x y s d g h = ap₂ (λ u v. nf.And u v) g h ∙ sym (renamed-And (kept_number s d) a b)

either : (a b : Nf) (x y : Nf) (s : List ℕ) (d : ℕ) → x ≡ kept a s d → y ≡ kept b s d → nf.Or x y ≡ kept (nf.Or a b) s d
either a b x y s d g h = ap₂ (λ u v. nf.Or u v) g h ∙ sym (renamed-Or (kept_number s d) a b)

pub drafts-And : (a b : Formula) (x y : Draft) → Drafts a x → Drafts b y → Drafts (formula.And a b) (draft.And x y)
drafts-And a b x y g h true s d fits = settled-And x y true s d ∙ both _ _ _ _ s d (g true s d fits) (h true s d fits) ∙ same_kept _ _ s d (normal-And-true a b)
drafts-And a b x y g h false s d fits = settled-And x y false s d ∙ either _ _ _ _ s d (g false s d fits) (h false s d fits) ∙ same_kept _ _ s d (normal-And-false a b)

pub drafts-Or : (a b : Formula) (x y : Draft) → Drafts a x → Drafts b y → Drafts (formula.Or a b) (draft.Or x y)
drafts-Or a b x y g h true s d fits = settled-Or x y true s d ∙ either _ _ _ _ s d (g true s d fits) (h true s d fits) ∙ same_kept _ _ s d (normal-Or-true a b)
drafts-Or a b x y g h false s d fits = settled-Or x y false s d ∙ both _ _ _ _ s d (g false s d fits) (h false s d fits) ∙ same_kept _ _ s d (normal-Or-false a b)

pub drafts-Imp : (a b : Formula) (x y : Draft) → Drafts a x → Drafts b y → Drafts (formula.Imp a b) (draft.Or (draft.Not x) y)
drafts-Imp a b x y g h true s d fits =
    settled-Or (draft.Not x) y true s d ∙ either _ _ _ _ s d (settled-Not x true s d ∙ g false s d fits) (h true s d fits) ∙ same_kept _ _ s d (normal-Imp-true a b)
drafts-Imp a b x y g h false s d fits =
    settled-Or (draft.Not x) y false s d ∙ both _ _ _ _ s d (settled-Not x false s d ∙ g true s d fits) (h false s d fits) ∙ same_kept _ _ s d (normal-Imp-false a b)

pub drafts-Iff : (a b : Formula) (x y : Draft) → Drafts a x → Drafts b y → Drafts (formula.Iff a b) (draft.Iff x y)
drafts-Iff a b x y g h true s d fits =
    settled-Iff-true x y s d
    ∙ both _ _ _ _ s d (either _ _ _ _ s d (g false s d fits) (h true s d fits)) (either _ _ _ _ s d (h false s d fits) (g true s d fits)) ∙ same_kept _ _ s d (normal-Iff-true a b)
drafts-Iff a b x y g h false s d fits =
    settled-Iff-false x y s d
    ∙ both _ _ _ _ s d (either _ _ _ _ s d (g true s d fits) (h true s d fits)) (either _ _ _ _ s d (g false s d fits) (h false s d fits)) ∙ same_kept _ _ s d (normal-Iff-false a b)

-- ---- quantifiers

each_kept : (a x : Nf) (s : List ℕ) (d : ℕ) → Fits s d → in_form a zero ≡ true → x ≡ kept a (d ∷ s) d → nf.All x ≡ kept (all_of a) s d
each_kept a x s d fits o g =
    ap nf.All (g ∙ form_kept a s d fits) ∙ sym (renamed-All (kept_number s d) a) ∙ same_kept _ _ s d (ap (λ b. if b then nf.All a else lowered a zero) o)

some_kept : (a x : Nf) (s : List ℕ) (d : ℕ) → Fits s d → in_form a zero ≡ true → x ≡ kept a (d ∷ s) d → nf.Ex x ≡ kept (ex_of a) s d
some_kept a x s d fits o g =
    ap nf.Ex (g ∙ form_kept a s d fits) ∙ sym (renamed-Ex (kept_number s d) a) ∙ same_kept _ _ s d (ap (λ b. if b then nf.Ex a else lowered a zero) o)

each_dropped : (a x : Nf) (s : List ℕ) (d : ℕ) → Fits s d → in_form a zero ≡ false → x ≡ kept a (suc d ∷ s) (suc d) → x ≡ kept (all_of a) s d
each_dropped a x s d fits o g = g ∙ sym (form_dropped a s d fits o) ∙ same_kept _ _ s d (ap (λ b. if b then nf.All a else lowered a zero) o)

some_dropped : (a x : Nf) (s : List ℕ) (d : ℕ) → Fits s d → in_form a zero ≡ false → x ≡ kept a (suc d ∷ s) (suc d) → x ≡ kept (ex_of a) s d
some_dropped a x s d fits o g = g ∙ sym (form_dropped a s d fits o) ∙ same_kept _ _ s d (ap (λ b. if b then nf.Ex a else lowered a zero) o)

kept-All : (a : Formula) (x : Draft) → Drafts a x → in_formula a zero ≡ true → Drafts (formula.All a) (draft.All x)
kept-All a x g o true s d fits =
    settled-All x true s d ∙ each_kept _ _ s d fits (in-normal a true zero ∙ o) (g true (d ∷ s) d (fits_kept s d fits)) ∙ same_kept _ _ s d (normal-All-true a)
kept-All a x g o false s d fits =
    settled-All x false s d ∙ some_kept _ _ s d fits (in-normal a false zero ∙ o) (g false (d ∷ s) d (fits_kept s d fits)) ∙ same_kept _ _ s d (normal-All-false a)

kept-Ex : (a : Formula) (x : Draft) → Drafts a x → in_formula a zero ≡ true → Drafts (formula.Ex a) (draft.Ex x)
kept-Ex a x g o true s d fits =
    settled-Ex x true s d ∙ some_kept _ _ s d fits (in-normal a true zero ∙ o) (g true (d ∷ s) d (fits_kept s d fits)) ∙ same_kept _ _ s d (normal-Ex-true a)
kept-Ex a x g o false s d fits =
    settled-Ex x false s d ∙ each_kept _ _ s d fits (in-normal a false zero ∙ o) (g false (d ∷ s) d (fits_kept s d fits)) ∙ same_kept _ _ s d (normal-Ex-false a)

dropped-All : (a : Formula) (x : Draft) → Drafts a x → in_formula a zero ≡ false → Drafts (formula.All a) (draft.Vacuous x)
dropped-All a x g o true s d fits =
    settled-Vacuous x true s d ∙ each_dropped _ _ s d fits (in-normal a true zero ∙ o) (g true (suc d ∷ s) (suc d) (fits_dropped s d fits)) ∙ same_kept _ _ s d (normal-All-true a)
dropped-All a x g o false s d fits =
    settled-Vacuous x false s d ∙ some_dropped _ _ s d fits (in-normal a false zero ∙ o) (g false (suc d ∷ s) (suc d) (fits_dropped s d fits)) ∙ same_kept _ _ s d (normal-All-false a)

dropped-Ex : (a : Formula) (x : Draft) → Drafts a x → in_formula a zero ≡ false → Drafts (formula.Ex a) (draft.Vacuous x)
dropped-Ex a x g o true s d fits =
    settled-Vacuous x true s d ∙ some_dropped _ _ s d fits (in-normal a true zero ∙ o) (g true (suc d ∷ s) (suc d) (fits_dropped s d fits)) ∙ same_kept _ _ s d (normal-Ex-true a)
dropped-Ex a x g o false s d fits =
    settled-Vacuous x false s d ∙ each_dropped _ _ s d fits (in-normal a false zero ∙ o) (g false (suc d ∷ s) (suc d) (fits_dropped s d fits)) ∙ same_kept _ _ s d (normal-Ex-false a)

pub drafts-All : (a : Formula) (x : Draft) (occurs : Bool) → Drafts a x → occurs ≡ in_formula a zero → Drafts (formula.All a) (if occurs then draft.All x else draft.Vacuous x)
drafts-All a x true g o = kept-All a x g (sym o)
drafts-All a x false g o = dropped-All a x g (sym o)

pub drafts-Ex : (a : Formula) (x : Draft) (occurs : Bool) → Drafts a x → occurs ≡ in_formula a zero → Drafts (formula.Ex a) (if occurs then draft.Ex x else draft.Vacuous x)
drafts-Ex a x true g o = kept-Ex a x g (sym o)
drafts-Ex a x false g o = dropped-Ex a x g (sym o)

-- ---- results

-- a draft that is made is the formula's
pub drafted : {E : Type 0} (f g : Formula) (r : Result Draft E) (x : Draft) → f ≡ g → Drafts g x → IfOk r (λ made. made ≡ x) → IfOk r (λ made. Drafts f made)
drafted f g r x e known = IfOk-weaker r (λ made. made ≡ x) (λ made. Drafts f made) (λ made same. subst (λ h. Drafts h made) (sym e) (subst (λ y. Drafts g y) (sym same) known))

-- what holds before a draft is put in its box holds then
pub still : {E : Type 0} (r : Result Draft E) (P : Type 0) (x : Draft) → P → IfOk r (λ made. made ≡ x) → OnOk r P
still r P x known = IfOk-weaker r (λ made. made ≡ x) (λ made. P) (λ made same. known)

-- the form of a whole formula's draft
pub drafts_whole : (f : Formula) (x : Draft) (sign : Bool) → Drafts f x → settled x sign [] zero ≡ normal_of f sign
drafts_whole f x sign known = known sign [] zero fits_none ∙ form_whole (normal_of f sign)
