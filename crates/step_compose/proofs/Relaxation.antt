-- Under more symbols a relaxed image's clauses have instances: each row of a full image has those of the relaxed image's row.
use Rattle.std.proofs.Common.{append_assoc, ◌≡◌, ◌<◌, ◌≤◌, ℕ, zero, suc, ◌+◌, nat_lt, Bool, true, false, cond, List, [], ◌∷◌, ◌++◌, get_or, length, length-append, map, refl, sym, ap, ap₂, ◌∙◌, arith, rules}
use Rattle.std.proofs.lemmas.Bool.{or_left, or_right}
use Rattle.std.proofs.lemmas.Bool.Decides.{nat_tests}
use Rattle.std.proofs.lemmas.List.{map-append}
use Rattle.dk_syntax.proofs.ListLaws.{ForEach}
use Rattle.dk_syntax.proofs.SubstitutionLaws.{after, agree, substituted-Any, substituted-App, substituted-Var}
use Rattle.dk_syntax.proofs.TermLaws.{term_induction}
use Rattle.dk_syntax.specs.Lists.{any_true}
use Rattle.dk_syntax.specs.Terms.{has_variable, substituted, instance}
use Rattle.dk_syntax.specs.declared.Literal.{Literal}
use Rattle.dk_syntax.specs.declared.SymKey.{SymKey}
use Rattle.dk_syntax.specs.declared.Term.{Term, the_lemmas as of_terms}
use Rattle.dk_syntax.specs.declared.Term.TheVariants.{Any, App, Var}
use Rattle.normal_form.proofs.FormLaws.{tree_is_form}
use Rattle.normal_form.proofs.RowLaws.{rows-All, rows-And, rows-False, rows-Lit, rows-Or, universals_are}
use Rattle.normal_form.specs.ClauseLists.{beside, pairs_of, raw, rows_of, taking}
use Rattle.normal_form.specs.Forms.{all, alls, and, ex, exs, Form, free, lit, nf_of, no, or, yes}
use Rattle.normal_form.specs.Renaming.{owner, renamed, renamed_literal}
use Rattle.normal_form.specs.declared.form.Nf.{Nf, the_lemmas as of_forms}
use Rattle.normal_form.specs.declared.form.Nf.TheVariants as nf
use Rattle.normal_form.specs.declared.raw.Raw.{Raw}
use Rattle.step_compose.specs.Composing.{symbol_in}
use Rattle.step_compose.specs.FullImages.{downward, full_from}
use Rattle.step_compose.specs.Relaxing.{kept_in, relaxed_from, terms_in}
use Rattle.step_compose.specs.declared.relaxed.Bound.{Bound}
use Rattle.step_compose.specs.declared.relaxed.Bound.TheVariants.{Kept, Replaced}
use Rattle.step_skolem.specs.Substitutions.{applied, shifted, up, with_term}

-- ---- renaming is a substitution

renamed-Var : (p : ℕ → ℕ) (k : ℕ) → renamed p (Var k) ≡ Var (p k)
renamed-Var p k = search (rules, of_terms)

renamed-App : (p : ℕ → ℕ) (h : SymKey) (args : List Term) → renamed p (App h args) ≡ App h (map (renamed p) args)
renamed-App p h args = search (rules, of_terms)

renamed-Any : (p : ℕ → ℕ) → renamed p Any ≡ Any
renamed-Any p = search (rules, of_terms)

each_renamed : (p : ℕ → ℕ) (args : List Term) → ForEach (λ a. renamed p a ≡ substituted (λ k. Var (p k)) a) args → map (renamed p) args ≡ map (substituted (λ k. Var (p k))) args
each_renamed p [] known = refl
each_renamed p (a ∷ args) known = ap₂ (λ x y. x ∷ y) known.0 (each_renamed p args known.1)

renames : (p : ℕ → ℕ) (a : Term) → renamed p a ≡ substituted (λ k. Var (p k)) a
renames p = term_induction (λ a. renamed p a ≡ substituted (λ k. Var (p k)) a)
    (λ k. renamed-Var p k ∙ sym (substituted-Var (λ k. Var (p k)) k))
    (λ f args known. renamed-App p f args ∙ ap (App f) (each_renamed p args known) ∙ sym (substituted-App (λ k. Var (p k)) f args))
    (renamed-Any p ∙ sym (substituted-Any (λ k. Var (p k))))

renames_all : (p : ℕ → ℕ) (args : List Term) → map (renamed p) args ≡ map (substituted (λ k. Var (p k))) args
renames_all p [] = refl
renames_all p (a ∷ args) = ap₂ (λ x y. x ∷ y) (renames p a) (renames_all p args)

-- ---- literals

abbrev pub with_args : Literal → List Term → Literal
with_args l args = record l { args = args }

pub renames_literal : (p : ℕ → ℕ) (l : Literal) → renamed_literal p l ≡ instance (λ k. Var (p k)) l
renames_literal p l = ap (with_args l) (renames_all p l.args)

args_after : (s t : ℕ → Term) (args : List Term) → map (substituted s) (map (substituted t) args) ≡ map (substituted (λ k. substituted s (t k))) args
args_after s t [] = refl
args_after s t (x ∷ xs) = ap₂ (λ a b. a ∷ b) (after s t x) (args_after s t xs)

pub instance_after : (s t : ℕ → Term) (l : Literal) → instance s (instance t l) ≡ instance (λ k. substituted s (t k)) l
instance_after s t l = ap (with_args l) (args_after s t l.args)

pub args_agree : (s t : ℕ → Term) (args : List Term) → ((k : ℕ) → any_true (map (has_variable k) args) ≡ true → s k ≡ t k) → map (substituted s) args ≡ map (substituted t) args
args_agree s t [] h = refl
args_agree s t (x ∷ xs) h =
    ap₂ (λ a b. a ∷ b) (agree s t x (λ k e. h k (or_left (has_variable k x) (any_true (map (has_variable k) xs)) e)))
    (args_agree s t xs (λ k e. h k (or_right (has_variable k x) (any_true (map (has_variable k) xs)) e)))

-- ---- variables by their universals' numbers

-- the variable of the universal that a variable belongs to
abbrev pub named : List ℕ → ℕ → Term
named numbers j = Var (owner numbers j)

named_shifted : (n : ℕ) (numbers : List ℕ) (t : Term) → substituted (named (n ∷ numbers)) (shifted t) ≡ substituted (named numbers) t
named_shifted n numbers t =
    after (named (n ∷ numbers)) (λ k. Var (suc k)) t
    ∙ agree (λ k. substituted (named (n ∷ numbers)) (Var (suc k))) (named numbers) t (λ k h. substituted-Var (named (n ∷ numbers)) (suc k))

map_variables : (s : ℕ → Term) (ks : List ℕ) → map (substituted s) (map Var ks) ≡ map s ks
map_variables s [] = refl
map_variables s (k ∷ ks) = ap₂ (λ a b. a ∷ b) (substituted-Var s k) (map_variables s ks)

applied_by : (s : ℕ → Term) (f : SymKey) (ks : List ℕ) → substituted s (applied f ks) ≡ App f (map s ks)
applied_by s f ks = substituted-App s f (map Var ks) ∙ ap (App f) (map_variables s ks)

map_map : (s : ℕ → Term) (numbers : List ℕ) (ks : List ℕ) → map (substituted s) (map (named numbers) ks) ≡ map (λ i. s (owner numbers i)) ks
map_map s numbers [] = refl
map_map s numbers (k ∷ ks) = ap₂ (λ a b. a ∷ b) (substituted-Var s (owner numbers k)) (map_map s numbers ks)

map_downward : (f g : ℕ → Term) (d : ℕ) → ((i : ℕ) → i < d → f i ≡ g i) → map f (downward d) ≡ map g (downward d)
map_downward f g zero h = refl
map_downward f g (suc d) h = ap₂ (λ a b. a ∷ b) (h d (omega arith)) (map_downward f g d (λ i less. h i (omega arith)))

-- ---- what is put for the universals of the relaxed image

-- With s for the relaxed image's universals, the variables inside the quantifiers around become those of the full image. As
-- long as existentials are replaced in both, the same universals stand around.
pub record Matches (s : ℕ → Term) (symbols : List SymKey) (around : List Bound) (put : ℕ → Term) (d e : ℕ) (numbers others : List ℕ) : Type 0 where
  pub same : (k : ℕ) → k < length around → substituted s (substituted (named numbers) (terms_in symbols around k)) ≡ substituted (named others) (put k)
  pub few : e < length symbols → (kept_in around ≡ d) × ((i : ℕ) → i < d → s (owner numbers i) ≡ named others i)

-- how many universals stand in each image
abbrev pub of_relaxed : List SymKey → List Bound → ℕ → Form → ℕ
of_relaxed symbols around e a = (rows_of (nf_of (relaxed_from symbols around e a))).0

abbrev pub of_full : (ℕ → SymKey) → (ℕ → Term) → ℕ → ℕ → Form → ℕ
of_full names put d e a = (rows_of (nf_of (full_from names put d e a))).0

-- the term of an existential in the full image
abbrev pub replaced : (ℕ → SymKey) → ℕ → ℕ → Term
replaced names d e = applied (names e) (downward d)

-- s puts the full image's universals for its own ones, and their terms for the existentials that it has as universals
abbrev pub Leads : (ℕ → Term) → List SymKey → (ℕ → SymKey) → List Bound → (ℕ → Term) → ℕ → ℕ → ℕ → ℕ → List ℕ → Form → Type 0
Leads s symbols names around put d e n m others yes = Unit {0}
Leads s symbols names around put d e n m others no = Unit {0}
Leads s symbols names around put d e n m others (lit l) = Unit {0}
Leads s symbols names around put d e n m others (and a b) =
    Leads s symbols names around put d e n m others a
    × Leads s symbols names around put d (exs a + e) (n + of_relaxed symbols around e a) (m + of_full names put d e a) others b
Leads s symbols names around put d e n m others (or a b) =
    Leads s symbols names around put d e n m others a
    × Leads s symbols names around put d (exs a + e) (n + of_relaxed symbols around e a) (m + of_full names put d e a) others b
Leads s symbols names around put d e n m others (all a) = (s n ≡ Var m) × Leads s symbols names (Kept ∷ around) (up put) (suc d) e (n + 1) (m + 1) (m ∷ others) a
Leads s symbols names around put d e n m others (ex a) =
    (nat_lt e (length symbols) ≡ true → Leads s symbols names (Replaced e ∷ around) (with_term (replaced names d e) put) d (suc e) n m others a)
    × (nat_lt e (length symbols) ≡ false
    → (s n ≡ substituted (named others) (replaced names d e)) × Leads s symbols names (Kept ∷ around) (with_term (replaced names d e) put) d (suc e) (n + 1) m others a)

is_below : (e n : ℕ) → nat_lt e n ≡ true → e < n
is_below e n h = grind (arith, nat_tests)

not_below : (e n : ℕ) → nat_lt e n ≡ false → suc e < n → ⊥
not_below e n h less = grind (arith, nat_tests)

matches_on : (s : ℕ → Term) (symbols : List SymKey) (around : List Bound) (put : ℕ → Term) (d e f : ℕ) (numbers others : List ℕ) → e ≤ f
    → Matches s symbols around put d e numbers others → Matches s symbols around put d f numbers others
matches_on s symbols around put d e f numbers others less h = record { same = h.same; few = λ short. h.few (omega arith) }

matches_all : (s : ℕ → Term) (symbols : List SymKey) (around : List Bound) (put : ℕ → Term) (d e n m : ℕ) (numbers others : List ℕ) → s n ≡ Var m
    → Matches s symbols around put d e numbers others → Matches s symbols (Kept ∷ around) (up put) (suc d) e (n ∷ numbers) (m ∷ others)
matches_all s symbols around put d e n m numbers others here h = record { same = same_up; few = λ short. (ap suc (h.few short).0, few_up short) }
  where
    same_up : (k : ℕ) → k < suc (length around) → substituted s (substituted (named (n ∷ numbers)) (up (terms_in symbols around) k)) ≡ substituted (named (m ∷ others)) (up put k)
    same_up zero less = ap (substituted s) (substituted-Var (named (n ∷ numbers)) 0) ∙ substituted-Var s n ∙ here ∙ sym (substituted-Var (named (m ∷ others)) 0)
    same_up (suc k) less =
        ap (substituted s) (named_shifted n numbers (terms_in symbols around k)) ∙ h.same k (omega arith) ∙ sym (named_shifted m others (put k))

    few_up : e < length symbols → (i : ℕ) → i < suc d → s (owner (n ∷ numbers) i) ≡ named (m ∷ others) i
    few_up short zero less = here
    few_up short (suc i) less = (h.few short).1 i (omega arith)

matches_replaced : (s : ℕ → Term) (symbols : List SymKey) (names : ℕ → SymKey) (around : List Bound) (put : ℕ → Term) (d e : ℕ) (numbers others : List ℕ) → e < length symbols
    → names e ≡ symbol_in symbols e → Matches s symbols around put d e numbers others
    → Matches s symbols (Replaced e ∷ around) (with_term (replaced names d e) put) d (suc e) numbers others
matches_replaced s symbols names around put d e numbers others short named_so h = record { same = same_with; few = λ more. h.few short }
  where
    same_with : (k : ℕ) → k < suc (length around)
        → substituted s (substituted (named numbers) (with_term (applied (symbol_in symbols e) (downward (kept_in around))) (terms_in symbols around) k))
        ≡ substituted (named others) (with_term (replaced names d e) put k)
    same_with zero less =
        ap (λ k. substituted s (substituted (named numbers) (applied (symbol_in symbols e) (downward k)))) (h.few short).0
        ∙ ap (λ f. substituted s (substituted (named numbers) (applied f (downward d)))) (sym named_so)
        ∙ ap (substituted s) (applied_by (named numbers) (names e) (downward d))
        ∙ substituted-App s (names e) (map (named numbers) (downward d))
        ∙ ap (App (names e)) (map_map s numbers (downward d) ∙ map_downward (λ i. s (owner numbers i)) (named others) d (h.few short).1)
        ∙ sym (applied_by (named others) (names e) (downward d))
    same_with (suc k) less = h.same k (omega arith)

matches_kept : (s : ℕ → Term) (symbols : List SymKey) (around : List Bound) (put : ℕ → Term) (term : Term) (d e n : ℕ) (numbers others : List ℕ) → nat_lt e (length symbols) ≡ false
    → s n ≡ substituted (named others) term → Matches s symbols around put d e numbers others
    → Matches s symbols (Kept ∷ around) (with_term term put) d (suc e) (n ∷ numbers) others
matches_kept s symbols around put term d e n numbers others long here h = record { same = same_with; few = λ short. absurd (not_below e (length symbols) long short) }
  where
    same_with : (k : ℕ) → k < suc (length around) → substituted s (substituted (named (n ∷ numbers)) (up (terms_in symbols around) k)) ≡ substituted (named others) (with_term term put k)
    same_with zero less = ap (substituted s) (substituted-Var (named (n ∷ numbers)) 0) ∙ substituted-Var s n ∙ here
    same_with (suc k) less = ap (substituted s) (named_shifted n numbers (terms_in symbols around k)) ∙ h.same k (omega arith)

-- ---- rows

-- the row with s for its universals
abbrev pub put_in : (ℕ → Term) → Raw → Raw
put_in s row = raw (map (instance s) row.lits) row.picks

map_taking : (s : ℕ → Term) (side : Bool) (rows : List Raw) → map (put_in s) (map (taking side) rows) ≡ map (taking side) (map (put_in s) rows)
map_taking s side [] = refl
map_taking s side (row ∷ rows) = ap (λ l. taking side (put_in s row) ∷ l) (map_taking s side rows)

put_beside : (s : ℕ → Term) (left right : Raw) → put_in s (beside left right) ≡ beside (put_in s left) (put_in s right)
put_beside s left right = ap (λ lits. raw lits (left.picks ++ right.picks)) (map-append (instance s) left.lits right.lits)

map_beside : (s : ℕ → Term) (left : Raw) (rows : List Raw) → map (put_in s) (map (beside left) rows) ≡ map (beside (put_in s left)) (map (put_in s) rows)
map_beside s left [] = refl
map_beside s left (row ∷ rows) = ap₂ (λ a b. a ∷ b) (put_beside s left row) (map_beside s left rows)

map_pairs : (s : ℕ → Term) (lefts rights : List Raw) → map (put_in s) (pairs_of lefts rights) ≡ pairs_of (map (put_in s) lefts) (map (put_in s) rights)
map_pairs s [] rights = refl
map_pairs s (left ∷ lefts) rights =
    map-append (put_in s) (map (beside left) rights) (pairs_of lefts rights) ∙ ap₂ (λ a b. a ++ b) (map_beside s left rights) (map_pairs s lefts rights)

rows-True : (n : ℕ) (r : List ℕ) → (rows_of nf.True).1 n r ≡ []
rows-True n r = ap (λ z. z.1 n r) (let q : rows_of nf.True ≡ (0, λ n r. []) = search (rules, of_forms) in q)

literal_leads : (s put terms : ℕ → Term) (bound : ℕ) (numbers others : List ℕ) (l : Literal) → ((k : ℕ) → any_true (map (has_variable k) l.args) ≡ true → k < bound)
    → ((k : ℕ) → k < bound → substituted s (substituted (named numbers) (terms k)) ≡ substituted (named others) (put k))
    → renamed_literal (owner others) (instance put l) ≡ instance s (renamed_literal (owner numbers) (instance terms l))
literal_leads s put terms bound numbers others l below h =
    renames_literal (owner others) (instance put l) ∙ instance_after (named others) put l
    ∙ ap (with_args l) (args_agree (λ k. substituted (named others) (put k)) (λ k. substituted s (substituted (named numbers) (terms k))) l.args (λ k e. sym (h k (below k e))))
    ∙ sym (instance_after s (λ k. substituted (named numbers) (terms k)) l)
    ∙ ap (instance s) (sym (instance_after (named numbers) terms l) ∙ sym (renames_literal (owner numbers) (instance terms l)))

under : (a : Form) (bound : ℕ) → ((k : ℕ) → free (suc k) a ≡ true → k < bound) → (k : ℕ) → free k a ≡ true → k < suc bound
under a bound closed zero f = omega arith
under a bound closed (suc k) f = let l = closed k f in omega arith

abbrev pub rows_in : Nf → ℕ → List ℕ → List Raw
rows_in a n r = (rows_of a).1 n r

by_test : (t : Bool) (s : ℕ → Term) (a b : Form) (rows : List Raw) (n : ℕ) (numbers : List ℕ) → (t ≡ true → rows ≡ map (put_in s) (rows_in (nf_of a) n numbers))
    → (t ≡ false → rows ≡ map (put_in s) (rows_in (nf.All (nf_of b)) n numbers)) → rows ≡ map (put_in s) (rows_in (nf_of (cond t a (all b))) n numbers)
by_test true s a b rows n numbers h k = h refl
by_test false s a b rows n numbers h k = k refl

pub rows_lead : (s : ℕ → Term) (symbols : List SymKey) (names : ℕ → SymKey) → ((e : ℕ) → e < length symbols → names e ≡ symbol_in symbols e)
    → (around : List Bound) (put : ℕ → Term) (d e n m : ℕ) (numbers others : List ℕ) (a : Form) → ((k : ℕ) → free k a ≡ true → k < length around)
    → Matches s symbols around put d e numbers others → Leads s symbols names around put d e n m others a
    → rows_in (nf_of (full_from names put d e a)) m others ≡ map (put_in s) (rows_in (nf_of (relaxed_from symbols around e a)) n numbers)
rows_lead s symbols names known around put d e n m numbers others yes closed h leads = rows-True m others ∙ ap (map (put_in s)) (sym (rows-True n numbers))
rows_lead s symbols names known around put d e n m numbers others no closed h leads = rows-False m others ∙ ap (map (put_in s)) (sym (rows-False n numbers))
rows_lead s symbols names known around put d e n m numbers others (lit l) closed h leads =
    rows-Lit (instance put l) m others
    ∙ ap (λ x. raw (x ∷ []) [] ∷ []) (literal_leads s put (terms_in symbols around) (length around) numbers others l closed h.same)
    ∙ ap (map (put_in s)) (sym (rows-Lit (instance (terms_in symbols around) l) n numbers))
rows_lead s symbols names known around put d e n m numbers others (and a b) closed h leads =
    let left = rows_lead s symbols names known around put d e n m numbers others a (λ k f. closed k (or_left (free k a) (free k b) f)) h leads.0 in
    let right = rows_lead s symbols names known around put d (exs a + e) (n + of_relaxed symbols around e a) (m + of_full names put d e a) numbers others b
    (λ k f. closed k (or_right (free k a) (free k b) f)) (matches_on s symbols around put d e (exs a + e) numbers others (omega arith) h) leads.1 in
    rows-And (nf_of (full_from names put d e a)) (nf_of (full_from names put d (exs a + e) b)) m others
    ∙ ap₂ (λ x y. map (taking false) x ++ map (taking true) y) left right
    ∙ ap₂ (λ x y. x ++ y) (sym (map_taking s false (rows_in (nf_of (relaxed_from symbols around e a)) n numbers)))
    (sym (map_taking s true (rows_in (nf_of (relaxed_from symbols around (exs a + e) b)) (n + of_relaxed symbols around e a) numbers)))
    ∙ sym (map-append (put_in s) (map (taking false) (rows_in (nf_of (relaxed_from symbols around e a)) n numbers))
    (map (taking true) (rows_in (nf_of (relaxed_from symbols around (exs a + e) b)) (n + of_relaxed symbols around e a) numbers)))
    ∙ ap (map (put_in s)) (sym (rows-And (nf_of (relaxed_from symbols around e a)) (nf_of (relaxed_from symbols around (exs a + e) b)) n numbers))
rows_lead s symbols names known around put d e n m numbers others (or a b) closed h leads =
    let left = rows_lead s symbols names known around put d e n m numbers others a (λ k f. closed k (or_left (free k a) (free k b) f)) h leads.0 in
    let right = rows_lead s symbols names known around put d (exs a + e) (n + of_relaxed symbols around e a) (m + of_full names put d e a) numbers others b
    (λ k f. closed k (or_right (free k a) (free k b) f)) (matches_on s symbols around put d e (exs a + e) numbers others (omega arith) h) leads.1 in
    rows-Or (nf_of (full_from names put d e a)) (nf_of (full_from names put d (exs a + e) b)) m others
    ∙ ap₂ pairs_of left right
    ∙ sym (map_pairs s (rows_in (nf_of (relaxed_from symbols around e a)) n numbers) (rows_in (nf_of (relaxed_from symbols around (exs a + e) b)) (n + of_relaxed symbols around e a) numbers))
    ∙ ap (map (put_in s)) (sym (rows-Or (nf_of (relaxed_from symbols around e a)) (nf_of (relaxed_from symbols around (exs a + e) b)) n numbers))
rows_lead s symbols names known around put d e n m numbers others (all a) closed h leads =
    rows-All (nf_of (full_from names (up put) (suc d) e a)) m others
    ∙ rows_lead s symbols names known (Kept ∷ around) (up put) (suc d) e (n + 1) (m + 1) (n ∷ numbers) (m ∷ others) a (under a (length around) closed)
    (matches_all s symbols around put d e n m numbers others leads.0 h) leads.1
    ∙ ap (map (put_in s)) (sym (rows-All (nf_of (relaxed_from symbols (Kept ∷ around) e a)) n numbers))
rows_lead s symbols names known around put d e n m numbers others (ex a) closed h leads =
    by_test (nat_lt e (length symbols)) s (relaxed_from symbols (Replaced e ∷ around) (suc e) a) (relaxed_from symbols (Kept ∷ around) (suc e) a)
    (rows_in (nf_of (full_from names (with_term (replaced names d e) put) d (suc e) a)) m others) n numbers
    (λ t. rows_lead s symbols names known (Replaced e ∷ around) (with_term (replaced names d e) put) d (suc e) n m numbers others a (under a (length around) closed)
    (matches_replaced s symbols names around put d e numbers others (is_below e (length symbols) t) (known e (is_below e (length symbols) t)) h) (leads.0 t))
    (λ t.
    rows_lead s symbols names known (Kept ∷ around) (with_term (replaced names d e) put) d (suc e) (n + 1) m (n ∷ numbers) others a (under a (length around) closed)
    (matches_kept s symbols around put (replaced names d e) d e n numbers others t (leads.1 t).0 h) (leads.1 t).1
    ∙ ap (map (put_in s)) (sym (rows-All (nf_of (relaxed_from symbols (Kept ∷ around) (suc e) a)) n numbers)))

-- ---- what leads

-- the terms for the relaxed image's universals, in preorder
abbrev pub terms_for : List SymKey → (ℕ → SymKey) → (ℕ → Term) → ℕ → ℕ → ℕ → List ℕ → Form → List Term
terms_for symbols names put d e m others yes = []
terms_for symbols names put d e m others no = []
terms_for symbols names put d e m others (lit l) = []
terms_for symbols names put d e m others (and a b) =
    terms_for symbols names put d e m others a ++ terms_for symbols names put d (exs a + e) (m + of_full names put d e a) others b
terms_for symbols names put d e m others (or a b) =
    terms_for symbols names put d e m others a ++ terms_for symbols names put d (exs a + e) (m + of_full names put d e a) others b
terms_for symbols names put d e m others (all a) = Var m ∷ terms_for symbols names (up put) (suc d) e (m + 1) (m ∷ others) a
terms_for symbols names put d e m others (ex a) =
    cond (nat_lt e (length symbols)) (terms_for symbols names (with_term (replaced names d e) put) d (suc e) m others a)
    (substituted (named others) (replaced names d e) ∷ terms_for symbols names (with_term (replaced names d e) put) d (suc e) m others a)

counted : (a : Form) → (rows_of (nf_of a)).0 ≡ alls a
counted a = universals_are (nf_of a) ∙ ap alls (tree_is_form a)

test_length : (t : Bool) (a b : Form) (xs ys : List Term) (x : Term) → length xs ≡ alls a → length ys ≡ alls b → length (cond t xs (x ∷ ys)) ≡ alls (cond t a (all b))
test_length true a b xs ys x h k = h
test_length false a b xs ys x h k = ap suc k

-- as many as universals
terms_count : (symbols : List SymKey) (names : ℕ → SymKey) (around : List Bound) (put : ℕ → Term) (d e m : ℕ) (others : List ℕ) (a : Form)
    → length (terms_for symbols names put d e m others a) ≡ alls (relaxed_from symbols around e a)
terms_count symbols names around put d e m others yes = refl
terms_count symbols names around put d e m others no = refl
terms_count symbols names around put d e m others (lit l) = refl
terms_count symbols names around put d e m others (and a b) =
    length-append (terms_for symbols names put d e m others a) (terms_for symbols names put d (exs a + e) (m + of_full names put d e a) others b)
    ∙ ap₂ (λ x y. x + y) (terms_count symbols names around put d e m others a) (terms_count symbols names around put d (exs a + e) (m + of_full names put d e a) others b)
terms_count symbols names around put d e m others (or a b) =
    length-append (terms_for symbols names put d e m others a) (terms_for symbols names put d (exs a + e) (m + of_full names put d e a) others b)
    ∙ ap₂ (λ x y. x + y) (terms_count symbols names around put d e m others a) (terms_count symbols names around put d (exs a + e) (m + of_full names put d e a) others b)
terms_count symbols names around put d e m others (all a) = ap suc (terms_count symbols names (Kept ∷ around) (up put) (suc d) e (m + 1) (m ∷ others) a)
terms_count symbols names around put d e m others (ex a) =
    test_length (nat_lt e (length symbols)) (relaxed_from symbols (Replaced e ∷ around) (suc e) a) (relaxed_from symbols (Kept ∷ around) (suc e) a)
    (terms_for symbols names (with_term (replaced names d e) put) d (suc e) m others a) (terms_for symbols names (with_term (replaced names d e) put) d (suc e) m others a)
    (substituted (named others) (replaced names d e))
    (terms_count symbols names (Replaced e ∷ around) (with_term (replaced names d e) put) d (suc e) m others a)
    (terms_count symbols names (Kept ∷ around) (with_term (replaced names d e) put) d (suc e) m others a)

-- the term for each number
abbrev pub by_list : List Term → ℕ → Term
by_list terms k = get_or terms k (Var 0)

at_seam : (front : List Term) (x : Term) (back : List Term) (n : ℕ) → length front ≡ n → by_list (front ++ x ∷ back) n ≡ x
at_seam [] x back n e = ap (by_list (x ∷ back)) (sym e)
at_seam (y ∷ front) x back zero e = absurd (omega (arith, e))
at_seam (y ∷ front) x back (suc n) e = at_seam front x back n (omega (arith, e))

one_later : (front : List Term) (x : Term) (n : ℕ) → length front ≡ n → length (front ++ x ∷ []) ≡ n + 1
one_later front x n e = length-append front (x ∷ []) ∙ ap (λ k. k + 1) e

second_place : (front mine : List Term) (n count more : ℕ) → length front ≡ n → length mine ≡ count → more ≡ count → length (front ++ mine) ≡ n + more
second_place front mine n count more e h k = length-append front mine ∙ ap₂ (λ x y. x + y) e (h ∙ sym k)

pub leads_by : (symbols : List SymKey) (names : ℕ → SymKey) (terms : List Term) (around : List Bound) (put : ℕ → Term) (d e n m : ℕ) (others : List ℕ) (a : Form) (front back : List Term)
    → terms ≡ front ++ (terms_for symbols names put d e m others a ++ back) → length front ≡ n → Leads (by_list terms) symbols names around put d e n m others a
leads_by symbols names terms around put d e n m others yes front back is at = tt
leads_by symbols names terms around put d e n m others no front back is at = tt
leads_by symbols names terms around put d e n m others (lit l) front back is at = tt
leads_by symbols names terms around put d e n m others (and a b) front back is at =
    let mine = terms_for symbols names put d e m others a in
    let rest = terms_for symbols names put d (exs a + e) (m + of_full names put d e a) others b in
    let e₁ = is ∙ ap (λ x. front ++ x) (append_assoc mine rest back) in (
      leads_by symbols names terms around put d e n m others a front (rest ++ back) e₁ at,
      leads_by symbols names terms around put d (exs a + e) (n + of_relaxed symbols around e a) (m + of_full names put d e a) others b (front ++ mine) back
          (e₁ ∙ sym (append_assoc front mine (rest ++ back)))
          (second_place front mine n (alls (relaxed_from symbols around e a)) (of_relaxed symbols around e a) at (terms_count symbols names around put d e m others a) (counted (relaxed_from symbols around e a))),
    )
leads_by symbols names terms around put d e n m others (or a b) front back is at =
    let mine = terms_for symbols names put d e m others a in
    let rest = terms_for symbols names put d (exs a + e) (m + of_full names put d e a) others b in
    let e₁ = is ∙ ap (λ x. front ++ x) (append_assoc mine rest back) in (
      leads_by symbols names terms around put d e n m others a front (rest ++ back) e₁ at,
      leads_by symbols names terms around put d (exs a + e) (n + of_relaxed symbols around e a) (m + of_full names put d e a) others b (front ++ mine) back
          (e₁ ∙ sym (append_assoc front mine (rest ++ back)))
          (second_place front mine n (alls (relaxed_from symbols around e a)) (of_relaxed symbols around e a) at (terms_count symbols names around put d e m others a) (counted (relaxed_from symbols around e a))),
    )
leads_by symbols names terms around put d e n m others (all a) front back is at =
    let mine = terms_for symbols names (up put) (suc d) e (m + 1) (m ∷ others) a in (
      ap (λ x. by_list x n) is ∙ at_seam front (Var m) (mine ++ back) n at,
      leads_by symbols names terms (Kept ∷ around) (up put) (suc d) e (n + 1) (m + 1) (m ∷ others) a (front ++ Var m ∷ []) back
          (is ∙ sym (append_assoc front (Var m ∷ []) (mine ++ back))) (one_later front (Var m) n at),
    )
leads_by symbols names terms around put d e n m others (ex a) front back is at =
    let mine = terms_for symbols names (with_term (replaced names d e) put) d (suc e) m others a in
    let x = substituted (named others) (replaced names d e) in
    let listed : (t : Bool) → nat_lt e (length symbols) ≡ t → terms ≡ front ++ (cond t mine (x ∷ mine) ++ back) = λ t q. is ∙ ap (λ b. front ++ (cond b mine (x ∷ mine) ++ back)) q in (
      λ t. leads_by symbols names terms (Replaced e ∷ around) (with_term (replaced names d e) put) d (suc e) n m others a front back (listed true t) at,
      λ t. (
        ap (λ y. by_list y n) (listed false t) ∙ at_seam front x (mine ++ back) n at,
        leads_by symbols names terms (Kept ∷ around) (with_term (replaced names d e) put) d (suc e) (n + 1) m others a (front ++ x ∷ []) back
            (listed false t ∙ sym (append_assoc front (x ∷ []) (mine ++ back))) (one_later front x n at),
      ),
    )

nothing_around : (s : ℕ → Term) (symbols : List SymKey) → Matches s symbols [] Var 0 0 [] []
nothing_around s symbols = record { same = λ k less. absurd (omega (arith, less)); few = λ short. (refl, λ i less. absurd (omega (arith, less))) }

-- each row of a closed form's full image is one of the relaxed image with terms for its universals
pub rows_are_put : (symbols : List SymKey) (names : ℕ → SymKey) (a : Form) → ((e : ℕ) → e < length symbols → names e ≡ symbol_in symbols e) → ((k : ℕ) → free k a ≡ true → ⊥)
    → rows_in (nf_of (full_from names Var 0 0 a)) 0 [] ≡ map (put_in (by_list (terms_for symbols names Var 0 0 0 [] a ++ []))) (rows_in (nf_of (relaxed_from symbols [] 0 a)) 0 [])
rows_are_put symbols names a known closed =
    let terms = terms_for symbols names Var 0 0 0 [] a ++ [] in
    rows_lead (by_list terms) symbols names known [] Var 0 0 0 0 [] [] a (λ k f. absurd (closed k f)) (nothing_around (by_list terms) symbols)
    (leads_by symbols names terms [] Var 0 0 0 0 [] a [] [] refl refl)
