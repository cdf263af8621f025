-- The counts of a full image's clause list don't depend on its symbols.
use Rattle.std.proofs.Common.{◌≡◌, ℕ, suc, ◌+◌, ◌*◌, length, sym, ap, ap₂, ◌∙◌, rules}
use Rattle.std.proofs.lemmas.Grind.{common_steps}
use Rattle.dk_syntax.specs.declared.SymKey.{SymKey}
use Rattle.dk_syntax.specs.declared.Term.{Term}
use Rattle.dk_syntax.specs.declared.Term.TheVariants.{Var}
use Rattle.dk_syntax.specs.declared.Literal.{Literal}
use Rattle.normal_form.proofs.ListTotals.{capped_product, clauses-counted, literals-counted}
use Rattle.normal_form.specs.ClauseLists.{clause_rows, literal_count, totals}
use Rattle.normal_form.specs.Forms.{all, and, ex, exs, Form, form_of, lit, nf_of, no, or, yes}
use Rattle.normal_form.specs.declared.form.Nf.{Nf, the_lemmas as of_forms}
use Rattle.normal_form.specs.declared.form.Nf.TheVariants as nf
use Rattle.step_compose.specs.Counting.{full_totals}
use Rattle.step_compose.specs.FullImages.{downward, full_from, full_image}
use Rattle.step_compose.specs.Laws.{CountsAreOne}
use Rattle.step_skolem.specs.Substitutions.{applied, up, with_term}

pub totals-True : totals nf.True ≡ (0, 0)
totals-True = search (rules, of_forms)

pub totals-False : totals nf.False ≡ (1, 0)
totals-False = search (rules, of_forms)

pub totals-Lit : (literal : Literal) → totals (nf.Lit literal) ≡ (1, 1)
totals-Lit literal = search (rules, of_forms)

pub totals-And : (a b : Nf) → totals (nf.And a b) ≡ ((totals a).0 + (totals b).0, (totals a).1 + (totals b).1)
totals-And a b = search (rules, of_forms)

pub totals-Or : (a b : Nf) → totals (nf.Or a b) ≡ ((totals a).0 * (totals b).0, (totals a).1 * (totals b).0 + (totals a).0 * (totals b).1)
totals-Or a b = search (rules, of_forms)

pub totals-All : (a : Nf) → totals (nf.All a) ≡ totals a
totals-All a = search (rules, of_forms)

-- a sum and a product of two counts
abbrev pub both : ℕ × ℕ → ℕ × ℕ → ℕ × ℕ
both x y = (x.0 + y.0, x.1 + y.1)

abbrev pub paired : ℕ × ℕ → ℕ × ℕ → ℕ × ℕ
paired x y = (x.0 * y.0, x.1 * y.0 + x.0 * y.1)

pub full_counted : (symbols : ℕ → SymKey) (s : ℕ → Term) (d e : ℕ) (a : Form) → totals (nf_of (full_from symbols s d e a)) ≡ full_totals a
full_counted symbols s d e yes = totals-True
full_counted symbols s d e no = totals-False
full_counted symbols s d e (lit literal) = totals-Lit _
full_counted symbols s d e (and a b) = totals-And _ _ ∙ ap₂ both (full_counted symbols s d e a) (full_counted symbols s d (exs a + e) b)
full_counted symbols s d e (or a b) = totals-Or _ _ ∙ ap₂ paired (full_counted symbols s d e a) (full_counted symbols s d (exs a + e) b)
full_counted symbols s d e (all a) = totals-All _ ∙ full_counted symbols (up s) (suc d) e a
full_counted symbols s d e (ex a) = full_counted symbols (with_term (applied (symbols e) (downward d)) s) d (suc e) a

pub clauses_of_full : (symbols : ℕ → SymKey) (n : Nf) → length (clause_rows (full_image symbols n)) ≡ (full_totals (form_of n)).0
clauses_of_full symbols n = clauses-counted (full_image symbols n) ∙ ap (λ x. x.0) (full_counted symbols Var 0 0 (form_of n))

pub literals_of_full : (symbols : ℕ → SymKey) (n : Nf) → literal_count (clause_rows (full_image symbols n)) ≡ (full_totals (form_of n)).1
literals_of_full symbols n = literals-counted (full_image symbols n) ∙ ap (λ x. x.1) (full_counted symbols Var 0 0 (form_of n))

pub counts_are_one : CountsAreOne
counts_are_one symbols others n =
    (clauses_of_full symbols n ∙ sym (clauses_of_full others n), literals_of_full symbols n ∙ sym (literals_of_full others n))

pub ruleset count_steps = (common_steps, of_forms, capped_product, clauses_of_full, literals_of_full)
