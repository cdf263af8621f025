-- The relaxed image under all symbols is the full image, and under any symbols its clause list has the full image's sizes.
use Rattle.std.proofs.Common.{◌≡◌, ◌<◌, ◌≤◌, ℕ, suc, ◌+◌, nat_lt, Bool, true, false, List, [], ◌∷◌, length, cond, refl, sym, subst, ap, ap₂, ◌∙◌, arith}
use Rattle.std.proofs.lemmas.Bool.Decides.{nat_tests}
use Rattle.dk_syntax.specs.declared.SymKey.{SymKey}
use Rattle.normal_form.proofs.ListTotals.{clauses-counted, literals-counted}
use Rattle.normal_form.specs.ClauseLists.{clause_rows, literal_count, totals}
use Rattle.normal_form.specs.Forms.{all, and, ex, exs, Form, form_of, lit, nf_of, no, or, yes}
use Rattle.normal_form.specs.declared.form.Nf.{Nf}
use Rattle.step_compose.proofs.ImageCounts.{both, clauses_of_full, literals_of_full, paired, totals-All, totals-And, totals-False, totals-Lit, totals-Or, totals-True}
use Rattle.step_compose.specs.Composing.{HasShortList, IsListed, symbol_in}
use Rattle.step_compose.specs.Counting.{full_totals}
use Rattle.step_compose.specs.FullImages.{full_from, full_image, nameless}
use Rattle.step_compose.specs.Relaxing.{kept_in, relaxed, relaxed_from, terms_in}
use Rattle.step_compose.specs.declared.relaxed.Bound.{Bound}
use Rattle.step_compose.specs.declared.relaxed.Bound.TheVariants.{Kept, Replaced}

is_less : (e n : ℕ) → e < n → nat_lt e n ≡ true
is_less e n h = grind (arith, nat_tests)

relaxed_full : (symbols : List SymKey) (around : List Bound) (e : ℕ) (n : Form) → exs n + e ≤ length symbols
    → relaxed_from symbols around e n ≡ full_from (symbol_in symbols) (terms_in symbols around) (kept_in around) e n
relaxed_full symbols around e yes h = refl
relaxed_full symbols around e no h = refl
relaxed_full symbols around e (lit l) h = refl
relaxed_full symbols around e (and a b) h = ap₂ and (relaxed_full symbols around e a (omega arith)) (relaxed_full symbols around (exs a + e) b (omega arith))
relaxed_full symbols around e (or a b) h = ap₂ or (relaxed_full symbols around e a (omega arith)) (relaxed_full symbols around (exs a + e) b (omega arith))
relaxed_full symbols around e (all a) h = ap all (relaxed_full symbols (Kept ∷ around) e a h)
relaxed_full symbols around e (ex a) h =
    ap (λ t. cond t (relaxed_from symbols (Replaced e ∷ around) (suc e) a) (all (relaxed_from symbols (Kept ∷ around) (suc e) a))) (is_less e (length symbols) (omega arith))
    ∙ relaxed_full symbols (Replaced e ∷ around) (suc e) a (omega arith)

pub relaxed_is_full : (symbols : List SymKey) (n : Nf) → length symbols ≡ exs (form_of n) → relaxed symbols n ≡ full_image (symbol_in symbols) n
relaxed_is_full symbols n h = ap nf_of (relaxed_full symbols [] 0 (form_of n) (omega arith))

-- ---- sizes

relaxed_counted : (symbols : List SymKey) (around : List Bound) (e : ℕ) (a : Form) → totals (nf_of (relaxed_from symbols around e a)) ≡ full_totals a
relaxed_counted symbols around e yes = totals-True
relaxed_counted symbols around e no = totals-False
relaxed_counted symbols around e (lit literal) = totals-Lit _
relaxed_counted symbols around e (and a b) = totals-And _ _ ∙ ap₂ both (relaxed_counted symbols around e a) (relaxed_counted symbols around (exs a + e) b)
relaxed_counted symbols around e (or a b) = totals-Or _ _ ∙ ap₂ paired (relaxed_counted symbols around e a) (relaxed_counted symbols around (exs a + e) b)
relaxed_counted symbols around e (all a) = totals-All _ ∙ relaxed_counted symbols (Kept ∷ around) e a
relaxed_counted symbols around e (ex a) = either (nat_lt e (length symbols)) _ _ (relaxed_counted symbols (Replaced e ∷ around) (suc e) a) (relaxed_counted symbols (Kept ∷ around) (suc e) a)
  where
    either : (t : Bool) (b c : Form) → totals (nf_of b) ≡ full_totals a → totals (nf_of c) ≡ full_totals a → totals (nf_of (cond t b (all c))) ≡ full_totals a
    either true b c h k = h
    either false b c h k = totals-All _ ∙ k

pub relaxed_clauses : (symbols : List SymKey) (others : ℕ → SymKey) (n : Nf) → length (clause_rows (relaxed symbols n)) ≡ length (clause_rows (full_image others n))
relaxed_clauses symbols others n = clauses-counted (relaxed symbols n) ∙ ap (λ x. x.0) (relaxed_counted symbols [] 0 (form_of n)) ∙ sym (clauses_of_full others n)

pub relaxed_literals : (symbols : List SymKey) (others : ℕ → SymKey) (n : Nf) → literal_count (clause_rows (relaxed symbols n)) ≡ literal_count (clause_rows (full_image others n))
relaxed_literals symbols others n = literals-counted (relaxed symbols n) ∙ ap (λ x. x.1) (relaxed_counted symbols [] 0 (form_of n)) ∙ sym (literals_of_full others n)

pub relaxed_short : (symbols : List SymKey) (n image : Nf) → image ≡ relaxed symbols n → IsListed n → HasShortList image
relaxed_short symbols n image e (clauses, literals) =
    let a = relaxed_clauses symbols (λ e. nameless) n in
    let b = relaxed_literals symbols (λ e. nameless) n in
    let here : HasShortList (relaxed symbols n) = (omega arith, omega arith) in
    subst HasShortList (sym e) here
