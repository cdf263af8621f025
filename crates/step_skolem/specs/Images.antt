-- Skolem images: what a form leads to under a map that names existentials and the terms that stand for them.
use Rattle.std.specs.Prelude.{◌≡◌, ℕ, zero, suc, ◌+◌, nat_eq, Bool, true, false, not, ◌&&◌, List, [], ◌∷◌, ◌++◌, map, cond}
use Rattle.dk_syntax.specs.Terms.{has_variable, instance}
use Rattle.dk_syntax.specs.declared.Literal.{Literal}
use Rattle.dk_syntax.specs.declared.SymKey.{SymKey}
use Rattle.dk_syntax.specs.declared.Term.{Term}
use Rattle.dk_syntax.specs.declared.Term.TheVariants.{Any, Var}
use Rattle.normal_form.specs.ClauseLists.{has_number}
use Rattle.normal_form.specs.Forms.{all, alls, and, ex, exs, Form, form_of, free, lit, nf_of, no, or, yes}
use Rattle.normal_form.specs.declared.form.Nf.{Nf}
use Rattle.step_skolem.specs.Substitutions.{applied, up, with_term}
use Rattle.step_skolem.specs.declared.map.SkEntry.{SkEntry}

-- ---- the relation

-- a quantifier around that the image keeps: a universal with its number, or an existential; or none
pub data Kept : Type 0 where
  universal : ℕ → Kept
  existential : Kept
  outside : Kept

-- the quantifier that binds a variable of the image, those around listed with the inmost first
abbrev pub binder : List Kept → ℕ → Kept
binder [] k = outside
binder (kept ∷ around) zero = kept
binder (kept ∷ around) (suc k) = binder around k

-- no quantifier binds the variable
abbrev pub is_outside : Kept → Bool
is_outside (universal n) = false
is_outside existential = false
is_outside outside = true

-- no number stands twice in the list
abbrev pub are_distinct : List ℕ → Bool
are_distinct [] = true
are_distinct (n ∷ rest) = not (has_number rest n) && are_distinct rest

-- The conditions on a replaced existential with that body: the variables are the universals of these numbers, no number
-- stands twice, and each variable that is free in the existential after the outer ones were replaced is one of them.
pub record FitsEntry (around : List Kept) (s : ℕ → Term) (args variables : List ℕ) (body : Form) : Type 0 where
  pub universals : map (binder around) variables ≡ map universal args
  pub once : are_distinct args ≡ true
  pub covered : (k i : ℕ) → free (suc k) body ≡ true → has_variable i (s k) ≡ true → is_outside (binder around i) ≡ false → has_number variables i ≡ true

-- what a map says of one existential
abbrev pub entry : ℕ → SymKey → List ℕ → SkEntry
entry e symbol args = record { ex = e; symbol = symbol; args = args }

-- Image around s u e N map N': under the kept quantifiers around, with s for the variables of N, u and e the numbers of
-- N's first universal and existential, the map leads from N to N'.
pub data Image : List Kept → (ℕ → Term) → ℕ → ℕ → Form → List SkEntry → Form → Type 0 where
  i_yes : (g : List Kept) (s : ℕ → Term) (u e : ℕ) → Image g s u e yes [] yes
  i_no : (g : List Kept) (s : ℕ → Term) (u e : ℕ) → Image g s u e no [] no
  i_lit : (g : List Kept) (s : ℕ → Term) (u e : ℕ) (literal : Literal) → Image g s u e (lit literal) [] (lit (instance s literal))
  i_and : (g : List Kept) (s : ℕ → Term) (u e : ℕ) (a b : Form) (m n : List SkEntry) (c d : Form)
      → Image g s u e a m c → Image g s (alls a + u) (exs a + e) b n d → Image g s u e (and a b) (m ++ n) (and c d)
  i_or : (g : List Kept) (s : ℕ → Term) (u e : ℕ) (a b : Form) (m n : List SkEntry) (c d : Form)
      → Image g s u e a m c → Image g s (alls a + u) (exs a + e) b n d → Image g s u e (or a b) (m ++ n) (or c d)
  i_all : (g : List Kept) (s : ℕ → Term) (u e : ℕ) (b : Form) (m : List SkEntry) (d : Form)
      → Image (universal u ∷ g) (up s) (suc u) e b m d → Image g s u e (all b) m (all d)
  i_keep : (g : List Kept) (s : ℕ → Term) (u e : ℕ) (b : Form) (m : List SkEntry) (d : Form)
      → Image (existential ∷ g) (up s) u (suc e) b m d → Image g s u e (ex b) m (ex d)
  i_put : (g : List Kept) (s : ℕ → Term) (u e : ℕ) (b : Form) (m : List SkEntry) (d : Form) (symbol : SymKey) (args variables : List ℕ)
      → FitsEntry g s args variables b → Image g (with_term (applied symbol variables) s) u (suc e) b m d
      → Image g s u e (ex b) (entry e symbol args ∷ m) d

-- the map leads from the first form to the second
abbrev pub IsImage : Nf → List SkEntry → Nf → Type 0
IsImage n map n' = Image [] Var 0 0 (form_of n) map (form_of n')

-- no map leads from the first form to the second
abbrev pub HasNoImage : Nf → Nf → Type 0
HasNoImage n n' = (map : List SkEntry) → IsImage n map n' → ⊥

-- ---- the image as a function of the map

-- the variable of the kept universal with that number
abbrev pub variable_in : List Kept → ℕ → ℕ
variable_in [] n = 0
variable_in (universal k ∷ around) n = cond (nat_eq k n) 0 (suc (variable_in around n))
variable_in (existential ∷ around) n = suc (variable_in around n)
variable_in (outside ∷ around) n = suc (variable_in around n)

-- the first entry is for that existential
abbrev pub starts_at : ℕ → List SkEntry → Bool
starts_at e [] = false
starts_at e (one ∷ rest) = nat_eq one.ex e

-- the list without its first entry
abbrev pub after_first : List SkEntry → List SkEntry
after_first [] = []
after_first (one ∷ rest) = rest

-- the term for the first entry's existential
abbrev pub first_term : List Kept → List SkEntry → Term
first_term around [] = Any
first_term around (one ∷ rest) = applied one.symbol (map (variable_in around) one.args)

-- a form inside another, beside the entries that are left
abbrev pub with_left : (Form → Form) → Form × List SkEntry → Form × List SkEntry
with_left join ran = (join ran.0, ran.1)

-- the image, and the entries that are left
abbrev pub image_run : List Kept → (ℕ → Term) → ℕ → ℕ → Form → List SkEntry → Form × List SkEntry
image_run g s u e yes m = (yes, m)
image_run g s u e no m = (no, m)
image_run g s u e (lit literal) m = (lit (instance s literal), m)
image_run g s u e (and a b) m = with_left (and (image_run g s u e a m).0) (image_run g s (alls a + u) (exs a + e) b (image_run g s u e a m).1)
image_run g s u e (or a b) m = with_left (or (image_run g s u e a m).0) (image_run g s (alls a + u) (exs a + e) b (image_run g s u e a m).1)
image_run g s u e (all b) m = with_left all (image_run (universal u ∷ g) (up s) (suc u) e b m)
image_run g s u e (ex b) m =
    cond (starts_at e m) (image_run g (with_term (first_term g m) s) u (suc e) b (after_first m)) (with_left ex (image_run (existential ∷ g) (up s) u (suc e) b m))

-- the form to which the map leads, where it leads to any
abbrev pub image_of : Nf → List SkEntry → Nf
image_of n m = nf_of (image_run [] Var 0 0 (form_of n) m).0
