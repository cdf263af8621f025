-- Sorted forms: equal for two forms exactly where these differ by order and grouping of And and Or alone.
use Rattle.std.specs.Prelude.{◌≡◌, ℕ, suc, ◌+◌, Bool, true, false, List, [], ◌∷◌, ◌++◌, cond}
use Rattle.std.specs.Ordering.{nat_cmp, ordering_then}
use Rattle.std.specs.declared.cmp.Ordering.{Ordering}
use Rattle.std.specs.declared.cmp.Ordering.TheVariants.{Equal, Greater, Less}
use Rattle.dk_syntax.specs.declared.Literal.{Literal}
use Rattle.normal_form.specs.Forms.{Form, form_of, nf_of, alls, exs}
use Rattle.normal_form.specs.Forms as form
use Rattle.normal_form.specs.LiteralOrder.{literal_order}
use Rattle.normal_form.specs.declared.form.Nf.{Nf}
use Rattle.normal_form.specs.declared.sorting.Sorted.{Sorted}

-- ---- forms whose quantifiers have numbers

-- a form with a number at each quantifier
pub data Numbered : Type 0 where
  yes : Numbered
  no : Numbered
  lit : Literal → Numbered
  and : Numbered → Numbered → Numbered
  or : Numbered → Numbered → Numbered
  all : ℕ → Numbered → Numbered
  ex : ℕ → Numbered → Numbered

-- universals from u on among universals, existentials from e on among existentials, each in preorder
abbrev pub numbered_from : ℕ → ℕ → Form → Numbered
numbered_from u e form.yes = yes
numbered_from u e form.no = no
numbered_from u e (form.lit literal) = lit literal
numbered_from u e (form.and a b) = and (numbered_from u e a) (numbered_from (alls a + u) (exs a + e) b)
numbered_from u e (form.or a b) = or (numbered_from u e a) (numbered_from (alls a + u) (exs a + e) b)
numbered_from u e (form.all a) = all u (numbered_from (suc u) e a)
numbered_from u e (form.ex a) = ex e (numbered_from u (suc e) a)

-- the form alone
abbrev pub bare : Numbered → Form
bare yes = form.yes
bare no = form.no
bare (lit literal) = form.lit literal
bare (and a b) = form.and (bare a) (bare b)
bare (or a b) = form.or (bare a) (bare b)
bare (all u a) = form.all (bare a)
bare (ex e a) = form.ex (bare a)

-- the numbers of the universals in preorder
abbrev pub universals : Numbered → List ℕ
universals yes = []
universals no = []
universals (lit literal) = []
universals (and a b) = universals a ++ universals b
universals (or a b) = universals a ++ universals b
universals (all u a) = u ∷ universals a
universals (ex e a) = universals a

-- the numbers of the existentials in preorder
abbrev pub existentials : Numbered → List ℕ
existentials yes = []
existentials no = []
existentials (lit literal) = []
existentials (and a b) = existentials a ++ existentials b
existentials (or a b) = existentials a ++ existentials b
existentials (all u a) = existentials a
existentials (ex e a) = e ∷ existentials a

-- ---- the order of forms

-- True, False, literals, And, Or, All, Ex
abbrev pub rank_of : Form → ℕ
rank_of form.yes = 0
rank_of form.no = 1
rank_of (form.lit literal) = 2
rank_of (form.and a b) = 3
rank_of (form.or a b) = 4
rank_of (form.all a) = 5
rank_of (form.ex a) = 6

-- forms of one rank by their literals or their parts, others by their ranks
abbrev pub form_order : Form → Form → Ordering
form_order (form.lit l) (form.lit m) = literal_order l m
form_order (form.and a b) (form.and c d) = ordering_then (form_order a c) (form_order b d)
form_order (form.or a b) (form.or c d) = ordering_then (form_order a c) (form_order b d)
form_order (form.all a) (form.all b) = form_order a b
form_order (form.ex a) (form.ex b) = form_order a b
form_order a b = nat_cmp (rank_of a) (rank_of b)

-- the answer of the order says that the first form comes after the second
abbrev pub is_after : Ordering → Bool
is_after Less = false
is_after Equal = false
is_after Greater = true

-- ---- sorting

-- the form put before the first that isn't less; the numbers don't count
abbrev pub inserted : Numbered → List Numbered → List Numbered
inserted a [] = a ∷ []
inserted a (b ∷ rest) = cond (is_after (form_order (bare a) (bare b))) (b ∷ inserted a rest) (a ∷ b ∷ rest)

-- the forms in order, equal ones in the order in which they stood
abbrev pub in_order : List Numbered → List Numbered
in_order [] = []
in_order (a ∷ rest) = inserted a (in_order rest)

-- the members of the largest chain of And at the top of the form
abbrev pub conjuncts : Numbered → List Numbered
conjuncts (and a b) = conjuncts a ++ conjuncts b
conjuncts a = a ∷ []

-- the members of the largest chain of Or at the top of the form
abbrev pub disjuncts : Numbered → List Numbered
disjuncts (or a b) = disjuncts a ++ disjuncts b
disjuncts a = a ∷ []

-- the form joined with each of the others, nested to the left
abbrev pub nested : (Numbered → Numbered → Numbered) → Numbered → List Numbered → Numbered
nested join a [] = a
nested join a (b ∷ rest) = nested join (join a b) rest

-- the members nested to the left; there is one at least
abbrev pub nested_all : (Numbered → Numbered → Numbered) → List Numbered → Numbered
nested_all join [] = yes
nested_all join (a ∷ rest) = nested join a rest

-- each part is sorted, and then the members of each largest chain are
abbrev pub sorted : Numbered → Numbered
sorted yes = yes
sorted no = no
sorted (lit literal) = lit literal
sorted (and a b) = nested_all and (in_order (conjuncts (sorted a) ++ conjuncts (sorted b)))
sorted (or a b) = nested_all or (in_order (disjuncts (sorted a) ++ disjuncts (sorted b)))
sorted (all u a) = all u (sorted a)
sorted (ex e a) = ex e (sorted a)

-- the normal form with its preorder numbers, sorted
abbrev pub sorted_form : Nf → Numbered
sorted_form n = sorted (numbered_from 0 0 (form_of n))

-- the sorted form, and its quantifiers' preorder numbers in the form that it comes of
pub record IsSorted (n : Nf) (answer : Sorted) : Type 0 where
  pub form : answer.form ≡ nf_of (bare (sorted_form n))
  pub alls : answer.alls ≡ universals (sorted_form n)
  pub exs : answer.exs ≡ existentials (sorted_form n)

-- the two forms have one sorted form
abbrev pub SameSorted : Nf → Nf → Type 0
SameSorted n m = bare (sorted_form n) ≡ bare (sorted_form m)

-- the two forms differ by order and grouping of And and Or alone
pub data Regrouped : Form → Form → Type 0 where
  stay : (a : Form) → Regrouped a a
  chain : (a b c : Form) → Regrouped a b → Regrouped b c → Regrouped a c
  swap_and : (a b : Form) → Regrouped (form.and a b) (form.and b a)
  turn_and : (a b c : Form) → Regrouped (form.and (form.and a b) c) (form.and a (form.and b c))
  in_and : (a b c d : Form) → Regrouped a c → Regrouped b d → Regrouped (form.and a b) (form.and c d)
  swap_or : (a b : Form) → Regrouped (form.or a b) (form.or b a)
  turn_or : (a b c : Form) → Regrouped (form.or (form.or a b) c) (form.or a (form.or b c))
  in_or : (a b c d : Form) → Regrouped a c → Regrouped b d → Regrouped (form.or a b) (form.or c d)
  in_all : (a b : Form) → Regrouped a b → Regrouped (form.all a) (form.all b)
  in_ex : (a b : Form) → Regrouped a b → Regrouped (form.ex a) (form.ex b)
