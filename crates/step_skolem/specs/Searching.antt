-- The search for a map as the code goes about it: what stands in one form at the first place of a variable of the other,
-- the tests of an entry, and the walk over both forms. Only private contracts cite this.
use Rattle.std.specs.Prelude.{ℕ, suc, ◌+◌, ◌-◌, nat_eq, nat_le, nat_lt, Bool, true, false, ◌&&◌, ◌||◌, List, [], ◌∷◌, ◌++◌, cond, length, map, reverse, slice_get, Option, None, Some}
use Rattle.std.specs.Option.{option_and_then}
use Rattle.dk_syntax.specs.Lists.{all_true}
use Rattle.dk_syntax.specs.declared.Literal.{Literal}
use Rattle.dk_syntax.specs.declared.SymKey.{SymKey}
use Rattle.dk_syntax.specs.declared.term.Term.{Term, Term-F, fold-Term, out-Term}
use Rattle.dk_syntax.specs.declared.term.Term.TheOpen as term
use Rattle.normal_form.specs.ClauseLists.{has_number}
use Rattle.normal_form.specs.Forms.{all, alls, and, ex, exs, Form, lit, no, or, yes}
use Rattle.step_skolem.specs.Images.{are_distinct, entry}
use Rattle.step_skolem.specs.Levels.{index}
use Rattle.step_skolem.specs.declared.fitting.Fit.{Fit}
use Rattle.step_skolem.specs.declared.map.SkEntry.{SkEntry}
use Rattle.step_skolem.specs.declared.seeing.Applied.{Applied}
use Rattle.step_skolem.specs.declared.walk.Quantifier.{Quantifier}
use Rattle.step_skolem.specs.declared.walk.Quantifier.TheVariants.{Existential, Universal}
use Rattle.step_skolem.specs.declared.walk.Replacement.{Replacement}
use Rattle.step_skolem.specs.declared.walk.Value.{Value}
use Rattle.step_skolem.specs.declared.walk.Value.TheVariants.{Kept, Replaced}
use Rattle.step_skolem.specs.declared.walk.Walk.{Walk}

-- the row of existentials at the front is no longer than the other's
abbrev pub row_le : Form → Form → Bool
row_le yes b = true
row_le no b = true
row_le (lit literal) b = true
row_le (and n n') b = true
row_le (or n n') b = true
row_le (all n) b = true
row_le (ex n) (ex b) = row_le n b
row_le (ex n) _ = false

-- ---- what stands at the first place of a variable

abbrev pub first_of : {A : Type 0} → Option A → Option A → Option A
first_of None other = other
first_of (Some x) other = Some x

abbrev pub some_if : {A : Type 0} → Bool → A → Option A
some_if true x = Some x
some_if false x = None

-- the arguments of an application
abbrev pub args_at : Term-F Term → List Term
args_at (term.Var k) = []
args_at (term.App symbol args) = args
args_at term.Any = []

abbrev pub args_of : Term → List Term
args_of t = args_at (out-Term t)

-- the first that is seen, place by place
abbrev pub seen_first : List (Term → Option Term) → List Term → Option Term
seen_first [] there = None
seen_first (look ∷ looks) [] = None
seen_first (look ∷ looks) (t ∷ there) = first_of (look t) (seen_first looks there)

abbrev pub seen_term_at : ℕ → Term-F (Term → Option Term) → Term → Option Term
seen_term_at k (term.Var j) there = some_if (nat_eq j k) there
seen_term_at k (term.App symbol looks) there = seen_first looks (args_of there)
seen_term_at k term.Any there = None

-- what stands in the second term at the first place of variable k in the first
abbrev pub seen_term : ℕ → Term → Term → Option Term
seen_term k = fold-Term (Term → Option Term) (seen_term_at k)

abbrev pub seen_terms : ℕ → List Term → List Term → Option Term
seen_terms k terms there = seen_first (map (seen_term k) terms) there

-- a number before others, where there are both
abbrev pub number_before : Option ℕ → Option (List ℕ) → Option (List ℕ)
number_before None rest = None
number_before (Some n) None = None
number_before (Some n) (Some rest) = Some (n ∷ rest)

-- the numbers before others, where there are others
abbrev pub numbers_before : List ℕ → Option (List ℕ) → Option (List ℕ)
numbers_before numbers None = None
numbers_before numbers (Some rest) = Some (numbers ++ rest)

-- the variable, without the quantifiers between
abbrev pub variable_at : ℕ → Term-F Term → Option ℕ
variable_at between (term.Var y) = some_if (nat_le between y) (y - between)
variable_at between (term.App symbol args) = None
variable_at between term.Any = None

abbrev pub variable_of : ℕ → Term → Option ℕ
variable_of between t = variable_at between (out-Term t)

abbrev pub variables_of : ℕ → List Term → Option (List ℕ)
variables_of between [] = Some []
variables_of between (t ∷ terms) = number_before (variable_of between t) (variables_of between terms)

abbrev pub applied_if : SymKey → Option (List ℕ) → Option Applied
applied_if symbol None = None
applied_if symbol (Some variables) = Some (record { symbol = symbol; variables = variables })

-- a symbol applied to variables, without the quantifiers between
abbrev pub applied_at : ℕ → Term-F Term → Option Applied
applied_at between (term.Var y) = None
applied_at between (term.App symbol args) = applied_if symbol (variables_of between args)
applied_at between term.Any = None

abbrev pub applied_in : ℕ → Term → Option Applied
applied_in between t = applied_at between (out-Term t)

abbrev pub if_lit : {A : Type 0} → (Literal → Option A) → Form → Option A
if_lit h (lit literal) = h literal
if_lit h _ = None

abbrev pub if_and : {A : Type 0} → (Form → Form → Option A) → Form → Option A
if_and h (and a b) = h a b
if_and h _ = None

abbrev pub if_or : {A : Type 0} → (Form → Form → Option A) → Form → Option A
if_or h (or a b) = h a b
if_or h _ = None

abbrev pub if_all : {A : Type 0} → (Form → Option A) → Form → Option A
if_all h (all a) = h a
if_all h _ = None

abbrev pub if_ex : {A : Type 0} → (Form → Option A) → Form → Option A
if_ex h (ex a) = h a
if_ex h _ = None

abbrev pub seen_literal : ℕ → ℕ → Literal → Literal → Option Applied
seen_literal between k literal there = option_and_then (applied_in between) (seen_terms k literal.args there.args)

-- the same in two forms, under so many kept quantifiers; the rows tell which are kept
abbrev pub seen : ℕ → ℕ → Form → Form → Option Applied
seen between k yes n = None
seen between k no n = None
seen between k (lit literal) n = if_lit (seen_literal between k literal) n
seen between k (and a b) n = if_and (λ c d. first_of (seen between k a c) (seen between k b d)) n
seen between k (or a b) n = if_or (λ c d. first_of (seen between k a c) (seen between k b d)) n
seen between k (all b) n = if_all (λ d. seen (suc between) (suc k) b d) n
seen between k (ex b) n = cond (row_le n b) (seen between (suc k) b n) (if_ex (λ d. seen (suc between) (suc k) b d) n)

-- ---- the tests of an entry

-- the universal's number
abbrev pub number_of : Quantifier → Option ℕ
number_of (Universal n) = Some n
number_of Existential = None

-- the number of the universal that binds the variable; the inmost quantifier comes first
abbrev pub number_in : List Quantifier → ℕ → Option ℕ
number_in kept y = option_and_then number_of (slice_get kept y)

abbrev pub numbers_in : List Quantifier → List ℕ → Option (List ℕ)
numbers_in kept [] = Some []
numbers_in kept (y ∷ ys) = number_before (number_in kept y) (numbers_in kept ys)

-- the variables of the value are among these
abbrev pub is_value_covered : ℕ → List ℕ → Value → Bool
is_value_covered depth ys (Kept level) = has_number ys (index depth level)
is_value_covered depth ys (Replaced replacement) = all_true (map (λ level. has_number ys (index depth level)) replacement.levels)

abbrev pub is_covered_by : ℕ → List ℕ → Option Value → Bool
is_covered_by depth ys None = true
is_covered_by depth ys (Some value) = is_value_covered depth ys value

-- the same of what stands for a variable
abbrev pub is_covered : ℕ → List Value → List ℕ → ℕ → Bool
is_covered depth values ys k = is_covered_by depth ys (slice_get values k)

abbrev pub covers_term_at : (ℕ → Bool) → ℕ → Term-F Bool → Bool
covers_term_at p bound (term.Var k) = nat_lt k bound || p (k - bound)
covers_term_at p bound (term.App symbol args) = all_true args
covers_term_at p bound term.Any = true

-- the free variables pass the test; so many are bound by the quantifiers between
abbrev pub covers_term : (ℕ → Bool) → ℕ → Term → Bool
covers_term p bound = fold-Term Bool (covers_term_at p bound)

abbrev pub covers : (ℕ → Bool) → ℕ → Form → Bool
covers p bound yes = true
covers p bound no = true
covers p bound (lit literal) = all_true (map (covers_term p bound) literal.args)
covers p bound (and a b) = covers p bound a && covers p bound b
covers p bound (or a b) = covers p bound a && covers p bound b
covers p bound (all b) = covers p (suc bound) b
covers p bound (ex b) = covers p (suc bound) b

abbrev pub fit_if : Bool → Applied → List ℕ → Option Fit
fit_if true applied args = Some (record { applied = applied; args = args })
fit_if false applied args = None

-- the symbol and its universals, where the conditions of an entry hold for that existential's body
abbrev pub fit_of : List Quantifier → List Value → Form → Applied → Option Fit
fit_of kept values b applied =
    option_and_then (λ (args : List ℕ). fit_if (are_distinct args && covers (is_covered (length kept) values applied.variables) 1 b) applied args) (numbers_in kept applied.variables)

abbrev pub fitting : List Quantifier → List Value → Form → Form → Option Fit
fitting kept values b n = option_and_then (fit_of kept values b) (seen 0 0 b n)

-- ---- the walk

abbrev pub replacement_of : ℕ → Applied → Replacement
replacement_of depth applied = record { symbol = applied.symbol; levels = map (index depth) applied.variables }

-- the entries with those of a map that leads to a form of the second's shape
abbrev pub found : List Quantifier → List Value → ℕ → ℕ → Form → Form → List SkEntry → Option (List SkEntry)
found kept values u e yes n m = Some m
found kept values u e no n m = Some m
found kept values u e (lit literal) n m = Some m
found kept values u e (and a b) n m = if_and (λ c d. option_and_then (found kept values (alls a + u) (exs a + e) b d) (found kept values u e a c m)) n
found kept values u e (or a b) n m = if_or (λ c d. option_and_then (found kept values (alls a + u) (exs a + e) b d) (found kept values u e a c m)) n
found kept values u e (all b) n m = if_all (λ d. found (Universal u ∷ kept) (Kept (length kept) ∷ values) (suc u) e b d m) n
found kept values u e (ex b) n m =
    cond (row_le n b) (option_and_then (λ (fit : Fit). found kept (Replaced (replacement_of (length kept) fit.applied) ∷ values) u (suc e) b n (m ++ entry e fit.applied.symbol fit.args ∷ [])) (fitting kept values b n))
    (if_ex (λ d. found (Existential ∷ kept) (Kept (length kept) ∷ values) u (suc e) b d m) n)

-- the same from where the walk stands
abbrev pub found_from : Walk → Form → Form → List SkEntry → Option (List SkEntry)
found_from walk n n' m = found (reverse walk.kept.items) (reverse walk.values.items) walk.next_all walk.next_ex n n' m

-- under one quantifier more that is kept
abbrev pub found_under : Walk → Quantifier → Form → Form → List SkEntry → Option (List SkEntry)
found_under walk quantifier b d m =
    found (quantifier ∷ reverse walk.kept.items) (Kept (length walk.kept.items) ∷ reverse walk.values.items) walk.next_all walk.next_ex b d m

-- under an existential with that number that is replaced
abbrev pub found_replaced : Walk → ℕ → Fit → Form → Form → List SkEntry → Option (List SkEntry)
found_replaced walk e fit b n m =
    found (reverse walk.kept.items) (Replaced (replacement_of (length walk.kept.items) fit.applied) ∷ reverse walk.values.items) walk.next_all walk.next_ex b n
    (m ++ entry e fit.applied.symbol fit.args ∷ [])
