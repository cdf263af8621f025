-- Forms without existentials: their full image is the form itself, and regrouping brings none.
use Rattle.std.proofs.Common.{◌≡◌, ◌+◌, ℕ, zero, suc, Bool, true, false, ◌||◌, List, [], ◌++◌, refl, sym, ap, ap₂, ◌∙◌, subst, arith, rules}
use Rattle.dk_syntax.specs.declared.SymKey.{SymKey}
use Rattle.normal_form.proofs.FormInduction.{form_induction}
use Rattle.normal_form.proofs.FormLaws.{form-All, form-And, form-Ex, form-False, form-Lit, form-Or, form-True}
use Rattle.normal_form.proofs.Regroups.{sorting_is_exact}
use Rattle.normal_form.specs.Existentials.{existential_in}
use Rattle.normal_form.specs.Forms.{all, alls, and, ex, exs, Form, form_of, lit, no, or, yes}
use Rattle.normal_form.specs.Sorting.{chain, in_all, in_and, in_ex, in_or, Regrouped, SameSorted, stay, swap_and, swap_or, turn_and, turn_or}
use Rattle.normal_form.specs.declared.form.Nf.{Nf, the_lemmas as of_forms}
use Rattle.normal_form.specs.declared.form.Nf.TheVariants as nf
use Rattle.step_check.proofs.OwnForms.{two_images}
use Rattle.step_compose.proofs.FullImages.{full_is_image}
use Rattle.step_compose.specs.FullImages.{full_entries, full_image, full_map}
use Rattle.step_skolem.proofs.OneMap.{empty_leads_back}
use Rattle.step_skolem.specs.Images.{IsImage}

existential-True : existential_in nf.True ≡ false
existential-True = search (rules, of_forms)

existential-False : existential_in nf.False ≡ false
existential-False = search (rules, of_forms)

existential-And : (a b : Nf) → existential_in (nf.And a b) ≡ existential_in a || existential_in b
existential-And a b = search (rules, of_forms)

existential-Or : (a b : Nf) → existential_in (nf.Or a b) ≡ existential_in a || existential_in b
existential-Or a b = search (rules, of_forms)

existential-All : (a : Nf) → existential_in (nf.All a) ≡ existential_in a
existential-All a = search (rules, of_forms)

existential-Ex : (a : Nf) → existential_in (nf.Ex a) ≡ true
existential-Ex a = search (rules, of_forms)

-- whether there are some, by their number
abbrev some_of : ℕ → Bool
some_of zero = false
some_of (suc n) = true

some_sum : (m n : ℕ) → some_of (m + n) ≡ some_of m || some_of n
some_sum zero n = ap some_of (omega arith)
some_sum (suc m) n = let e : suc m + n ≡ suc (m + n) = omega arith in ap some_of e

counted : (n : Nf) → existential_in n ≡ some_of (exs (form_of n))
counted = form_induction (λ n. existential_in n ≡ some_of (exs (form_of n)))
    (existential-True ∙ sym (ap (λ x. some_of (exs x)) form-True))
    (existential-False ∙ sym (ap (λ x. some_of (exs x)) form-False))
    (λ l. search (rules, of_forms))
    (λ a b h k. existential-And a b ∙ (ap₂ (λ x y. x || y) h k ∙ (sym (some_sum (exs (form_of a)) (exs (form_of b))) ∙ sym (ap (λ x. some_of (exs x)) (form-And a b)))))
    (λ a b h k. existential-Or a b ∙ (ap₂ (λ x y. x || y) h k ∙ (sym (some_sum (exs (form_of a)) (exs (form_of b))) ∙ sym (ap (λ x. some_of (exs x)) (form-Or a b)))))
    (λ a h. existential-All a ∙ (h ∙ sym (ap (λ x. some_of (exs x)) (form-All a))))
    (λ a h. existential-Ex a ∙ sym (ap (λ x. some_of (exs x)) (form-Ex a)))

no_some : (n : ℕ) → some_of n ≡ false → n ≡ 0
no_some zero h = refl
no_some (suc n) h = cc

pub none_there : (n : Nf) → existential_in n ≡ false → exs (form_of n) ≡ 0
none_there n h = no_some (exs (form_of n)) (sym (counted n) ∙ h)

-- ---- full images

none_entered : (symbols : ℕ → SymKey) (around : List ℕ) (u e : ℕ) (n : Form) → exs n ≡ 0 → full_entries symbols around u e n ≡ []
none_entered symbols around u e yes h = refl
none_entered symbols around u e no h = refl
none_entered symbols around u e (lit literal) h = refl
none_entered symbols around u e (and a b) h =
    ap₂ (λ x y. x ++ y) (none_entered symbols around u e a (omega (arith, h))) (none_entered symbols around (alls a + u) (exs a + e) b (omega (arith, h)))
none_entered symbols around u e (or a b) h =
    ap₂ (λ x y. x ++ y) (none_entered symbols around u e a (omega (arith, h))) (none_entered symbols around (alls a + u) (exs a + e) b (omega (arith, h)))
none_entered symbols around u e (all a) h = none_entered symbols _ (suc u) e a h
none_entered symbols around u e (ex a) h = absurd (omega (arith, h))

pub full_unchanged : (symbols : ℕ → SymKey) (n : Nf) → existential_in n ≡ false → full_image symbols n ≡ n
full_unchanged symbols n h =
    let empty : full_map symbols n ≡ [] = none_entered symbols [] 0 0 (form_of n) (none_there n h) in
    two_images n (full_image symbols n) n [] (subst (λ m. IsImage n m (full_image symbols n)) empty (full_is_image symbols n)) (empty_leads_back n)

-- ---- regrouped forms

regrouped_exs : {a b : Form} → Regrouped a b → exs a ≡ exs b
regrouped_exs (stay a) = refl
regrouped_exs (chain a b c h k) = regrouped_exs h ∙ regrouped_exs k
regrouped_exs (swap_and a b) = omega arith
regrouped_exs (turn_and a b c) = omega arith
regrouped_exs (in_and a b c d h k) = ap₂ (λ x y. x + y) (regrouped_exs h) (regrouped_exs k)
regrouped_exs (swap_or a b) = omega arith
regrouped_exs (turn_or a b c) = omega arith
regrouped_exs (in_or a b c d h k) = ap₂ (λ x y. x + y) (regrouped_exs h) (regrouped_exs k)
regrouped_exs (in_all a b h) = regrouped_exs h
regrouped_exs (in_ex a b h) = ap suc (regrouped_exs h)

pub existential_same : (n r : Nf) → SameSorted n r → existential_in r ≡ existential_in n
existential_same n r h = counted r ∙ (sym (ap some_of (regrouped_exs ((sorting_is_exact n r).0 h))) ∙ sym (counted n))
