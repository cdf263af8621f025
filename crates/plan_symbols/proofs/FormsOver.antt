-- Forms whose literals are over a list of symbols: normal forms, and images of such forms.
use Rattle.std.proofs.Common.{◌≡◌, ℕ, zero, suc, Bool, true, nat_eq, eq-eqb, List, [], ◌∷◌, length, map, refl, sym, ap, ◌∙◌}
use Rattle.std.proofs.lemmas.List.{length-map}
use Rattle.dk_syntax.specs.Lists.{Every, every_cons, every_nil}
use Rattle.dk_syntax.specs.Symbols.{formula_occurrences, same_kind}
use Rattle.dk_syntax.specs.WellFormed.{fits_symbol, IsWellFormed}
use Rattle.dk_syntax.specs.declared.formula.Formula.{Formula}
use Rattle.dk_syntax.specs.declared.symbol.Kind.TheVariants.{Function}
use Rattle.dk_syntax.specs.declared.symbol.SymKey.{SymKey}
use Rattle.dk_syntax.specs.declared.term.Term.{Term}
use Rattle.dk_syntax.specs.declared.term.Term.TheVariants.{Var}
use Rattle.normal_form.specs.Forms.{Form, form_of}
use Rattle.normal_form.specs.Normal.{normal_of}
use Rattle.normal_form.specs.declared.form.Nf.{Nf}
use Rattle.plan.specs.Origins.{IsFitEntry}
use Rattle.plan_symbols.proofs.FormSymbols.{IsFormOver, normal_over as normal_by}
use Rattle.plan_symbols.proofs.EveryLaws.{every_back, every_front, every_head, every_tail}
use Rattle.plan_symbols.proofs.TermsOver.{app_over, both, instance_over, substituted_over, var_over}
use Rattle.plan_symbols.specs.Over.{IsListed, IsTermOver}
use Rattle.step_skolem.specs.Images.{binder, entry, i_all, i_and, i_keep, i_lit, i_no, i_or, i_put, i_yes, Image, IsImage, Kept, universal}
use Rattle.step_skolem.specs.Substitutions.{applied, up, with_term}
use Rattle.step_skolem.specs.declared.map.SkEntry.{SkEntry}

-- the formula is well-formed, and each symbol in it is listed
pub record IsFormulaOver (symbols : List SymKey) (f : Formula) : Type 0 where
  pub formed : IsWellFormed f
  pub listed : Every (IsListed symbols) (formula_occurrences f)

module _ (symbols : List SymKey) where
  pub normal_over : (f : Formula) (sign : Bool) → IsFormulaOver symbols f → IsFormOver symbols (form_of (normal_of f sign))
  normal_over f sign h = normal_by symbols f sign h.formed h.listed

  -- ---- images

  pub up_over : (s : ℕ → Term) → ((k : ℕ) → IsTermOver symbols (s k)) → (k : ℕ) → IsTermOver symbols (up s k)
  up_over s values zero = var_over symbols 0
  up_over s values (suc k) = substituted_over symbols (λ n. Var (suc n)) (λ n. var_over symbols (suc n)) (s k) (values k)

  with_over : (t : Term) (s : ℕ → Term) → IsTermOver symbols t → ((k : ℕ) → IsTermOver symbols (s k)) → (k : ℕ) → IsTermOver symbols (with_term t s k)
  with_over t s h values zero = h
  with_over t s h values (suc k) = values k

  variables_over : (variables : List ℕ) → Every (IsTermOver symbols) (map Var variables)
  variables_over [] = every_nil
  variables_over (n ∷ variables) = every_cons (var_over symbols n) (variables_over variables)

  -- the entry is fit, and its symbol is listed
  pub record IsEntryOver (one : SkEntry) : Type 0 where
    pub fit : IsFitEntry one
    pub listed : IsListed symbols one.symbol

  number_itself : (n : ℕ) → nat_eq n n ≡ true
  number_itself n = eq-eqb n n refl

  same_length : (g : List Kept) (ys args : List ℕ) → map (binder g) ys ≡ map universal args → length ys ≡ length args
  same_length g ys args h = sym (length-map ys (binder g)) ∙ ap length h ∙ length-map args universal

  -- a function has as many arguments as its arity
  pub function_fits : (f : SymKey) (n : ℕ) → f.kind ≡ Function → f.arity ≡ n → fits_symbol Function f n ≡ true
  function_fits f n h k = both (same_kind f.kind Function) (nat_eq f.arity n) (ap (λ x. same_kind x Function) h) (ap (λ x. nat_eq x n) k ∙ number_itself n)

  applied_over : (g : List Kept) (e : ℕ) (symbol : SymKey) (ys args : List ℕ) → map (binder g) ys ≡ map universal args → IsEntryOver (entry e symbol args) → IsTermOver symbols (applied symbol ys)
  applied_over g e symbol ys args h w = app_over symbols symbol (map Var ys) (record {
    fits = function_fits symbol (length (map Var ys)) w.fit.kind (w.fit.arity ∙ sym (same_length g ys args h) ∙ sym (length-map ys Var));
    listed = w.listed;
    each = variables_over ys;
  })

  image_from : {g : List Kept} {s : ℕ → Term} {u e : ℕ} {n : Form} {m : List SkEntry} {d : Form} → Image g s u e n m d
      → ((k : ℕ) → IsTermOver symbols (s k)) → Every IsEntryOver m → IsFormOver symbols n → IsFormOver symbols d
  image_from (i_yes g s u e) values w h = tt
  image_from (i_no g s u e) values w h = tt
  image_from (i_lit g s u e l) values w h = instance_over symbols s values l h
  image_from (i_and g s u e a b m n c d p q) values w h = (image_from p values (every_front m n w) h.0, image_from q values (every_back m n w) h.1)
  image_from (i_or g s u e a b m n c d p q) values w h = (image_from p values (every_front m n w) h.0, image_from q values (every_back m n w) h.1)
  image_from (i_all g s u e b m d p) values w h = image_from p (up_over s values) w h
  image_from (i_keep g s u e b m d p) values w h = image_from p (up_over s values) w h
  image_from (i_put g s u e b m d symbol args ys fits p) values w h =
      image_from p (with_over (applied symbol ys) s (applied_over g e symbol ys args fits.universals (every_head w)) values) (every_tail w) h

  -- the image of such a form under such a map is such a form
  pub image_over : (n : Nf) (entries : List SkEntry) (image : Nf) → IsImage n entries image → Every IsEntryOver entries → IsFormOver symbols (form_of n) → IsFormOver symbols (form_of image)
  image_over n entries image h w k = image_from h (var_over symbols) w k
