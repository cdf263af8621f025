-- Free variables of forms, part by part.
use Rattle.std.proofs.Common.{◌≡◌, ℕ, suc, ◌+◌, sym, subst, ap, ◌∙◌, arith, inl, inr}
use Rattle.std.proofs.lemmas.Bool.{or_cases}
use Rattle.dk_syntax.specs.Terms.{EachBelow}
use Rattle.dk_syntax.specs.declared.Literal.{Literal}
use Rattle.normal_form.proofs.FormLaws.{form-All, form-And, form-Ex, form-False, form-Lit, form-Or, form-True}
use Rattle.normal_form.specs.Forms.{form_of, free}
use Rattle.normal_form.specs.declared.form.Nf.{Nf}
use Rattle.normal_form.specs.declared.form.Nf.TheVariants as nf
use Rattle.step_compose.specs.Searching.{FreeBelow}

pub below-True : (n : ℕ) → FreeBelow n nf.True
below-True n k f = let e = ap (free k) form-True in cc

pub below-False : (n : ℕ) → FreeBelow n nf.False
below-False n k f = let e = ap (free k) form-False in cc

pub below-Lit : (n : ℕ) (l : Literal) → EachBelow n l.args → FreeBelow n (nf.Lit l)
below-Lit n l h k f = h k (sym (ap (free k) (form-Lit l)) ∙ f)

pub literal_below : (n : ℕ) (form : Nf) (l : Literal) → form ≡ nf.Lit l → EachBelow n l.args → FreeBelow n form
literal_below n form l is h = subst (FreeBelow n) (sym is) (below-Lit n l h)

pub below-And : (n : ℕ) (a b : Nf) → FreeBelow n a → FreeBelow n b → FreeBelow n (nf.And a b)
below-And n a b h w k f = elim (or_cases (free k (form_of a)) (free k (form_of b)) (sym (ap (free k) (form-And a b)) ∙ f)) [ inl e ↦ h k e | inr e ↦ w k e ]

pub below-Or : (n : ℕ) (a b : Nf) → FreeBelow n a → FreeBelow n b → FreeBelow n (nf.Or a b)
below-Or n a b h w k f = elim (or_cases (free k (form_of a)) (free k (form_of b)) (sym (ap (free k) (form-Or a b)) ∙ f)) [ inl e ↦ h k e | inr e ↦ w k e ]

pub below-All : (n : ℕ) (a : Nf) → FreeBelow (n + 1) a → FreeBelow n (nf.All a)
below-All n a h k f = let l = h (suc k) (sym (ap (free k) (form-All a)) ∙ f) in omega arith

pub below-Ex : (n : ℕ) (a : Nf) → FreeBelow (n + 1) a → FreeBelow n (nf.Ex a)
below-Ex n a h k f = let l = h (suc k) (sym (ap (free k) (form-Ex a)) ∙ f) in omega arith

pub ruleset free_steps = (below-True, below-False, below-Lit, below-And, below-Or, below-All, below-Ex)
