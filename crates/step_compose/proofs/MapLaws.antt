-- Full maps, from the universals around each existential.
use Rattle.std.proofs.Common.{append_assoc, ◌≡◌, ◌<◌, ℕ, zero, suc, ◌+◌, List, [], ◌∷◌, ◌++◌, drop, get_or, length, length-append, refl, sym, ap, ap₂, ◌∙◌, arith}
use Rattle.std.proofs.lemmas.Grind.{common_steps}
use Rattle.std.proofs.lemmas.List.{append-nil}
use Rattle.dk_syntax.specs.declared.SymKey.{SymKey}
use Rattle.normal_form.specs.Forms.{all, alls, and, ex, exs, Form, lit, no, or, yes}
use Rattle.normal_form.specs.declared.form.Nf.{the_lemmas as of_forms}
use Rattle.step_compose.specs.Arguments.{arguments_from, entries_from}
use Rattle.step_compose.specs.FullImages.{full_entries}
use Rattle.step_skolem.specs.Images.{entry}
use Rattle.step_skolem.specs.declared.map.SkEntry.{SkEntry}

pub arguments_count : (around : List ℕ) (u : ℕ) (n : Form) → length (arguments_from around u n) ≡ exs n
arguments_count around u yes = refl
arguments_count around u no = refl
arguments_count around u (lit l) = refl
arguments_count around u (and a b) = length-append (arguments_from around u a) (arguments_from around (alls a + u) b) ∙ ap₂ (λ x y. x + y) (arguments_count around u a) (arguments_count around (alls a + u) b)
arguments_count around u (or a b) = length-append (arguments_from around u a) (arguments_from around (alls a + u) b) ∙ ap₂ (λ x y. x + y) (arguments_count around u a) (arguments_count around (alls a + u) b)
arguments_count around u (all a) = arguments_count (around ++ u ∷ []) (suc u) a
arguments_count around u (ex a) = ap suc (arguments_count around u a)

entries_append : (symbols : ℕ → SymKey) (e : ℕ) (xs ys : List (List ℕ)) → entries_from symbols e (xs ++ ys) ≡ entries_from symbols e xs ++ entries_from symbols (length xs + e) ys
entries_append symbols e [] ys = ap (λ k. entries_from symbols k ys) (omega arith)
entries_append symbols e (x ∷ xs) ys =
    ap (λ l. entry e (symbols e) x ∷ l) (entries_append symbols (suc e) xs ys ∙ ap (λ k. entries_from symbols (suc e) xs ++ entries_from symbols k ys) (omega arith))

entries_join : (symbols : ℕ → SymKey) (e k : ℕ) (xs ys : List (List ℕ)) → length xs ≡ k → entries_from symbols e xs ++ entries_from symbols (k + e) ys ≡ entries_from symbols e (xs ++ ys)
entries_join symbols e k xs ys h = ap (λ j. entries_from symbols e xs ++ entries_from symbols (j + e) ys) (sym h) ∙ sym (entries_append symbols e xs ys)

-- the full map has the entries of these arguments
pub full_entries_are : (symbols : ℕ → SymKey) (around : List ℕ) (u e : ℕ) (n : Form) → full_entries symbols around u e n ≡ entries_from symbols e (arguments_from around u n)
full_entries_are symbols around u e yes = refl
full_entries_are symbols around u e no = refl
full_entries_are symbols around u e (lit l) = refl
full_entries_are symbols around u e (and a b) =
    ap₂ (λ x y. x ++ y) (full_entries_are symbols around u e a) (full_entries_are symbols around (alls a + u) (exs a + e) b)
    ∙ entries_join symbols e (exs a) (arguments_from around u a) (arguments_from around (alls a + u) b) (arguments_count around u a)
full_entries_are symbols around u e (or a b) =
    ap₂ (λ x y. x ++ y) (full_entries_are symbols around u e a) (full_entries_are symbols around (alls a + u) (exs a + e) b)
    ∙ entries_join symbols e (exs a) (arguments_from around u a) (arguments_from around (alls a + u) b) (arguments_count around u a)
full_entries_are symbols around u e (all a) = full_entries_are symbols (around ++ u ∷ []) (suc u) e a
full_entries_are symbols around u e (ex a) = ap (λ l. entry e (symbols e) around ∷ l) (full_entries_are symbols around u (suc e) a)

-- ---- one entry after the other

pub entries_count : (symbols : ℕ → SymKey) (e : ℕ) (lists : List (List ℕ)) → length (entries_from symbols e lists) ≡ length lists
entries_count symbols e [] = refl
entries_count symbols e (x ∷ lists) = ap suc (entries_count symbols (suc e) lists)

pub entries_at : (symbols : ℕ → SymKey) (e : ℕ) (lists : List (List ℕ)) (k : ℕ) (d : SkEntry) (none : List ℕ) → k < length lists
    → get_or (entries_from symbols e lists) k d ≡ entry (k + e) (symbols (k + e)) (get_or lists k none)
entries_at symbols e [] k d none less = absurd (omega arith)
entries_at symbols e (x ∷ lists) zero d none less = ap (λ j. entry j (symbols j) x) (omega arith)
entries_at symbols e (x ∷ lists) (suc k) d none less =
    entries_at symbols (suc e) lists k d none (omega arith) ∙ ap (λ j. entry j (symbols j) (get_or lists k none)) (omega arith)

drop_one : {X : Type 0} (xs : List X) (k : ℕ) (d : X) → k < length xs → drop k xs ≡ get_or xs k d ∷ drop (k + 1) xs
drop_one xs k d less = grind (arith, common_steps)

-- one entry more
pub entry_more : (symbols : ℕ → SymKey) (lists : List (List ℕ)) (k : ℕ) (d : List ℕ) → k < length lists
    → entries_from symbols k (drop k lists) ≡ entry k (symbols k) (get_or lists k d) ∷ entries_from symbols (k + 1) (drop (k + 1) lists)
entry_more symbols lists k d less =
    ap (entries_from symbols k) (drop_one lists k d less)
    ∙ ap (λ j. entry k (symbols k) (get_or lists k d) ∷ entries_from symbols j (drop (k + 1) lists)) (omega arith)

pub ruleset map_steps = (common_steps, append_assoc, append-nil, of_forms)
