-- Parts of terms, and tables that have with each term its arguments.
use Rattle.std.proofs.Common.{◌≡◌, ℕ, ◌+◌, ◌<◌, ◌≤◌, List, [], ◌∷◌, length, map, subst, ◌∙◌, arith, rules}
use Rattle.std.specs.List.{Contains}
use Rattle.std.proofs.lemmas.List.{get_or_default}
use Rattle.std.proofs.lemmas.List.Elements.{All-contains, Contains-get_or}
use Rattle.dk_syntax.proofs.ListLaws.{ForEach}
use Rattle.dk_syntax.proofs.TermLaws.{App-not-Any, depth-Any, depth-App, depth-Var, term_induction}
use Rattle.dk_syntax.specs.Depth.{greatest, term_depth_of}
use Rattle.dk_syntax.specs.TermTables.{IsTermTable, term_of}
use Rattle.dk_syntax.specs.declared.SymKey.{SymKey}
use Rattle.dk_syntax.specs.declared.Term.{Any, App, Term, Var, the_lemmas as of_terms}
use Rattle.skolem_order.proofs.ListFacts.{contains_first, contains_rest, contains_same, for_each_at, none_in_nil}
use Rattle.skolem_order.specs.Order.{IsInside, IsPart, in_argument, itself}
use Rattle.skolem_order.specs.Origins.{args_of}

-- ---- parts

pub args-Var : (n : ℕ) → args_of (Var n) ≡ []
args-Var n = search (rules, of_terms)

pub args-App : (f : SymKey) (args : List Term) → args_of (App f args) ≡ args
args-App f args = search (rules, of_terms)

pub args-Any : args_of Any ≡ []
args-Any = search (rules, of_terms)

pub part_trans : {r s : Term} → IsPart r s → {t : Term} → IsPart s t → IsPart r t
part_trans q itself = q
part_trans q (in_argument f args arg one p) = in_argument f args arg one (part_trans q p)

pub part_any : {s t : Term} → IsPart s t → t ≡ Any → s ≡ Any
part_any itself e = e
part_any (in_argument f args arg one p) e = absurd (App-not-Any f args e)

pub inside_part : (t s : Term) → IsInside s t → IsPart s t
inside_part = term_induction (λ t. (s : Term) → IsInside s t → IsPart s t)
    (λ n s i. absurd (none_in_nil i.argument (contains_same (args_of (Var n)) [] i.argument (args-Var n) i.one)))
    (λ f args h s i. in_argument f args i.argument (contains_same (args_of (App f args)) args i.argument (args-App f args) i.one) i.part)
    (λ s i. absurd (none_in_nil i.argument (contains_same (args_of Any) [] i.argument args-Any i.one)))

-- ---- tables

pub contains_at : (table : List Term) (j : ℕ) (t : Term) → j < length table → term_of table j ≡ t → Contains table t
contains_at table j t h e = subst (Contains table) e (Contains-get_or table j Any h)

pub place_in : (table : List Term) (t : Term) → Contains table t → (j : ℕ) × (j < length table) × (term_of table j ≡ t)
place_in table t c = (c.0, c.1, get_or_default table c.0 Any t c.1 ∙ c.2)

-- an argument of the term at a place stands before it
pub argument_before : (table : List Term) → IsTermTable table → (i : ℕ) (f : SymKey) (args : List Term) (arg : Term) → i < length table → term_of table i ≡ App f args → Contains args arg
    → (j : ℕ) × (j < i) × (term_of table j ≡ arg)
argument_before table is i f args arg h e c = All-contains (λ x. (j : ℕ) × (j < i) × (term_of table j ≡ x)) args arg (is.arguments_before i f args h e) c

pub argument_in : (table : List Term) → IsTermTable table → (f : SymKey) (args : List Term) (arg : Term) → Contains table (App f args) → Contains args arg → Contains table arg
argument_in table is f args arg c one =
    let p = place_in table (App f args) c in
    let a = argument_before table is p.0 f args arg p.1 p.2 one in
    contains_at table a.0 arg (omega (arith, a.1, p.1)) a.2

pub part_in : (table : List Term) → IsTermTable table → {s t : Term} → IsPart s t → Contains table t → Contains table s
part_in table is itself c = c
part_in table is (in_argument f args arg one p) c = part_in table is p (argument_in table is f args arg c one)

-- ---- a term is no deeper than its place

greatest_below : (i : ℕ) (args : List Term) → ((arg : Term) → Contains args arg → term_depth_of arg ≤ i) → greatest (map term_depth_of args) ≤ i
greatest_below i [] h = omega arith
greatest_below i (a ∷ args) h =
    let first : term_depth_of a ≤ i = h a (contains_first a args) in
    let rest : greatest (map term_depth_of args) ≤ i = greatest_below i args (λ arg c. h arg (contains_rest a args arg c)) in
    omega (arith, first, rest)

pub depth_in : (table : List Term) → IsTermTable table → (t : Term) (i : ℕ) → i < length table → term_of table i ≡ t → term_depth_of t ≤ i + 1
depth_in table is = term_induction (λ t. (i : ℕ) → i < length table → term_of table i ≡ t → term_depth_of t ≤ i + 1)
    (λ n i h e. omega (arith, depth-Var n)) (λ f args each i h e. application f args each i h e) (λ i h e. omega (arith, depth-Any))
  where
    application : (f : SymKey) (args : List Term) → ForEach (λ t. (i : ℕ) → i < length table → term_of table i ≡ t → term_depth_of t ≤ i + 1) args
        → (i : ℕ) → i < length table → term_of table i ≡ App f args → term_depth_of (App f args) ≤ i + 1
    application f args each i h e =
        let below : greatest (map term_depth_of args) ≤ i = greatest_below i args (λ arg c.
        let a = argument_before table is i f args arg h e c in
        let d = for_each_at (λ t. (j : ℕ) → j < length table → term_of table j ≡ t → term_depth_of t ≤ j + 1) args arg each c a.0 (omega (arith, a.1, h)) a.2 in
        omega (arith, d, a.1)) in
        omega (arith, depth-App f args, below)
