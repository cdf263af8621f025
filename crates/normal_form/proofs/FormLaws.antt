-- A normal form and its tree are one thing; numbers at quantifiers don't change the form.
use Rattle.std.proofs.Common.{◌≡◌, ℕ, suc, ◌+◌, ap, ap₂, refl, ◌∙◌, rules}
use Rattle.dk_syntax.specs.declared.Literal.{Literal}
use Rattle.normal_form.proofs.FormInduction.{form_induction}
use Rattle.normal_form.specs.Forms.{Form, all, alls, and, ex, exs, form_of, lit, nf_of, no, or, yes}
use Rattle.normal_form.specs.Laws.{FormIsTree, TreeIsForm}
use Rattle.normal_form.specs.Sorting.{bare, numbered_from}
use Rattle.normal_form.specs.declared.form.Nf.{Nf, the_lemmas as of_forms}
use Rattle.normal_form.specs.declared.form.Nf.TheVariants as nf

-- ---- the tree of each kind of normal form

pub form-True : form_of nf.True ≡ yes
form-True = search (rules, of_forms)

pub form-False : form_of nf.False ≡ no
form-False = search (rules, of_forms)

pub form-Lit : (literal : Literal) → form_of (nf.Lit literal) ≡ lit literal
form-Lit literal = search (rules, of_forms)

pub form-And : (a b : Nf) → form_of (nf.And a b) ≡ and (form_of a) (form_of b)
form-And a b = search (rules, of_forms)

pub form-Or : (a b : Nf) → form_of (nf.Or a b) ≡ or (form_of a) (form_of b)
form-Or a b = search (rules, of_forms)

pub form-All : (a : Nf) → form_of (nf.All a) ≡ all (form_of a)
form-All a = search (rules, of_forms)

pub form-Ex : (a : Nf) → form_of (nf.Ex a) ≡ ex (form_of a)
form-Ex a = search (rules, of_forms)

-- ---- both ways

pub form_is_tree : FormIsTree
form_is_tree = form_induction (λ n. nf_of (form_of n) ≡ n) (ap nf_of form-True) (ap nf_of form-False) (λ literal. ap nf_of (form-Lit literal))
    (λ a b h k. ap nf_of (form-And a b) ∙ ap (λ x. nf.And x (nf_of (form_of b))) h ∙ ap (λ x. nf.And a x) k)
    (λ a b h k. ap nf_of (form-Or a b) ∙ ap (λ x. nf.Or x (nf_of (form_of b))) h ∙ ap (λ x. nf.Or a x) k)
    (λ a h. ap nf_of (form-All a) ∙ ap nf.All h) (λ a h. ap nf_of (form-Ex a) ∙ ap nf.Ex h)

pub tree_is_form : TreeIsForm
tree_is_form yes = form-True
tree_is_form no = form-False
tree_is_form (lit literal) = form-Lit literal
tree_is_form (and a b) = form-And (nf_of a) (nf_of b) ∙ ap₂ and (tree_is_form a) (tree_is_form b)
tree_is_form (or a b) = form-Or (nf_of a) (nf_of b) ∙ ap₂ or (tree_is_form a) (tree_is_form b)
tree_is_form (all a) = form-All (nf_of a) ∙ ap all (tree_is_form a)
tree_is_form (ex a) = form-Ex (nf_of a) ∙ ap ex (tree_is_form a)

-- the numbers are the form's alone
pub bare_numbered : (u e : ℕ) (a : Form) → bare (numbered_from u e a) ≡ a
bare_numbered u e yes = refl
bare_numbered u e no = refl
bare_numbered u e (lit literal) = refl
bare_numbered u e (and a b) = ap₂ and (bare_numbered u e a) (bare_numbered (alls a + u) (exs a + e) b)
bare_numbered u e (or a b) = ap₂ or (bare_numbered u e a) (bare_numbered (alls a + u) (exs a + e) b)
bare_numbered u e (all a) = ap all (bare_numbered (suc u) e a)
bare_numbered u e (ex a) = ap ex (bare_numbered u (suc e) a)
