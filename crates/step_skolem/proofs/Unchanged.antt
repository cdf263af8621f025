-- A form without existentials has the empty map alone, which leads to the form itself.
use Rattle.std.proofs.Common.{◌≡◌, ◌+◌, ℕ, Bool, true, false, ◌||◌, List, [], ◌++◌, refl, sym, ap, ap₂, ◌∙◌, arith, rules}
use Rattle.dk_syntax.specs.Terms.{instance}
use Rattle.dk_syntax.specs.declared.Term.{Term}
use Rattle.dk_syntax.specs.declared.Term.TheVariants.{Var}
use Rattle.normal_form.proofs.FormInduction.{form_induction}
use Rattle.normal_form.proofs.FormLaws.{form-All, form-And, form-False, form-Lit, form-Or, form-True, form_is_tree}
use Rattle.normal_form.specs.Existentials.{existential_in}
use Rattle.normal_form.specs.Forms.{all, and, exs, Form, form_of, lit, nf_of, or}
use Rattle.normal_form.specs.declared.form.Nf.{Nf, the_lemmas as of_forms}
use Rattle.normal_form.specs.declared.form.Nf.TheVariants as nf
use Rattle.step_skolem.proofs.SubstitutionLaws.{instance_same, up_same}
use Rattle.step_skolem.specs.Images.{i_all, i_and, i_keep, i_lit, i_no, i_or, i_put, i_yes, Image, Kept}
use Rattle.step_skolem.specs.Laws.{UnchangedWithoutExistentials}
use Rattle.step_skolem.specs.Substitutions.{up}
use Rattle.step_skolem.specs.declared.map.SkEntry.{SkEntry}

existential-And : (a b : Nf) → existential_in (nf.And a b) ≡ existential_in a || existential_in b
existential-And a b = search (rules, of_forms)

existential-Or : (a b : Nf) → existential_in (nf.Or a b) ≡ existential_in a || existential_in b
existential-Or a b = search (rules, of_forms)

existential-All : (a : Nf) → existential_in (nf.All a) ≡ existential_in a
existential-All a = search (rules, of_forms)

existential-Ex : (a : Nf) → existential_in (nf.Ex a) ≡ true
existential-Ex a = search (rules, of_forms)

left_false : (a b : Bool) → (a || b) ≡ false → a ≡ false
left_false true b h = cc
left_false false b h = refl

right_false : (a b : Bool) → (a || b) ≡ false → b ≡ false
right_false true b h = cc
right_false false b h = h

none_there : (n : Nf) → existential_in n ≡ false → exs (form_of n) ≡ 0
none_there = form_induction (λ n. existential_in n ≡ false → exs (form_of n) ≡ 0) (λ e. ap exs form-True) (λ e. ap exs form-False) (λ l e. ap exs (form-Lit l))
    (λ a b h k e. let none = sym (existential-And a b) ∙ e in ap exs (form-And a b)
    ∙ ap₂ (λ x y. x + y) (h (left_false (existential_in a) (existential_in b) none)) (k (right_false (existential_in a) (existential_in b) none)))
    (λ a b h k e. let none = sym (existential-Or a b) ∙ e in ap exs (form-Or a b)
    ∙ ap₂ (λ x y. x + y) (h (left_false (existential_in a) (existential_in b) none)) (k (right_false (existential_in a) (existential_in b) none)))
    (λ a h e. ap exs (form-All a) ∙ h (sym (existential-All a) ∙ e)) (λ a h e. absurd (let x = existential-Ex a in cc))

unchanged : {g : List Kept} {s : ℕ → Term} {u e : ℕ} {n : Form} {m : List SkEntry} {n' : Form} → Image g s u e n m n' → s ≡ Var → exs n ≡ 0 → (m ≡ []) × (n' ≡ n)
unchanged (i_yes g s u e) v h = (refl, refl)
unchanged (i_no g s u e) v h = (refl, refl)
unchanged (i_lit g s u e l) v h = (refl, ap (λ (f : ℕ → Term). lit (instance f l)) v ∙ ap lit (instance_same l))
unchanged (i_and g s u e a b m n c d p q) v h =
    let x = unchanged p v (omega (arith, h)) in
    let y = unchanged q v (omega (arith, h)) in
    (ap₂ (λ k l. k ++ l) x.0 y.0, ap₂ and x.1 y.1)
unchanged (i_or g s u e a b m n c d p q) v h =
    let x = unchanged p v (omega (arith, h)) in
    let y = unchanged q v (omega (arith, h)) in
    (ap₂ (λ k l. k ++ l) x.0 y.0, ap₂ or x.1 y.1)
unchanged (i_all g s u e b m d p) v h = let x = unchanged p (ap up v ∙ up_same) h in (x.0, ap all x.1)
unchanged (i_keep g s u e b m d p) v h = absurd (omega (arith, h))
unchanged (i_put g s u e b m d symbol args ys fits p) v h = absurd (omega (arith, h))

pub unchanged_without_existentials : UnchangedWithoutExistentials
unchanged_without_existentials n n' entries h p =
    let x = unchanged p refl (none_there n h) in
    (x.0, sym (form_is_tree n') ∙ ap nf_of x.1 ∙ form_is_tree n)
