-- The type checker as a function: a term's lazy type and value, or the first fault in order.
use Rattle.std.specs.Prelude.{ℕ, zero, suc, ◌+◌, ◌==◌, ◌&&◌, Bool, true, false, if◌then◌else◌, List, [], ◌∷◌, length, Option, Some, None, Result, Ok, Err, bytes_eq, is_some}
use Rattle.lp_term.specs.LambdaPi.{Term, type, kind, con, pat, var, app, lam, pi, shift}
use Rattle.lp_term.specs.Connectives.{individuals, propositions, proof_of}
use Rattle.lp_term.specs.Typing.{Declaration}
use Rattle.lp_exact.specs.declared.word.Word.{Word}
use Rattle.lp_exact.specs.declared.word.Word.TheVariants.{Individuals, Propositions, Prf}
use Rattle.lp_exact.specs.Words.{word_of}
use Rattle.lp_exact.specs.Layers.{opened}
use Rattle.lp_exact.specs.LazyTypes.{full}
use Rattle.lp_exact.specs.Normalisation.{put_at, apply_at}
use Rattle.lp_exact.specs.Objects.{Simple, simple_of}
use Rattle.lp_kernel.specs.LazyJudgement.{kept, rank_of}

-- what a place asks of a type
pub data Wanted : Type 0 where
  exactly : Term → Wanted
  a_product : Wanted
  a_sort : Wanted

-- a fault at a node: a symbol that is not declared, a term outside the fragment, or a type that is not the wanted one
-- (both full, below so many binders)
pub data Fault : Type 0 where
  unknown_name : ℕ → List ℕ → Fault
  out_of_fragment : ℕ → Fault
  ill_typed : ℕ → Wanted → Term → ℕ → Fault

-- a term's lazy type, and the term's normal form where it is an object
pub record Typing : Type 0 where
  pub of : Term
  pub value : Term

-- how many nodes a term has
abbrev pub node_count : Term → ℕ
node_count (app t u) = 1 + node_count t + node_count u
node_count (lam a t) = 1 + node_count a + node_count t
node_count (pi a b) = 1 + node_count a + node_count b
node_count t = 1

-- whether two terms are one
abbrev pub same_term : Term → Term → Bool
same_term type type = true
same_term kind kind = true
same_term (con x) (con y) = bytes_eq x y
same_term (pat x) (pat y) = bytes_eq x y
same_term (var m) (var n) = m == n
same_term (app t u) (app v w) = same_term t v && same_term u w
same_term (lam t u) (lam v w) = same_term t v && same_term u w
same_term (pi t u) (pi v w) = same_term t v && same_term u w
same_term t u = false

-- a type one binder further in
abbrev pub raised_one : Option Term → Option Term
raised_one (Some b) = Some (shift b)
raised_one None = None

-- the type that the context gives a variable
abbrev pub type_at : List Term → ℕ → Option Term
type_at [] n = None
type_at (a ∷ d) zero = Some (shift a)
type_at (a ∷ d) (suc n) = raised_one (type_at d n)

-- the type that the signature declares for a symbol
abbrev pub declared : List Declaration → List ℕ → Option Term
declared [] x = None
declared (e ∷ l) x = if bytes_eq e.name x then Some e.of else declared l x

-- whether the signature declares the symbol
abbrev pub is_declared : List Declaration → List ℕ → Bool
is_declared sig x = is_some (declared sig x)

-- the next answer, unless there was a fault before
abbrev pub and_then : {A B : Type 0} → Result A Fault → (A → Result B Fault) → Result B Fault
and_then (Ok a) f = f a
and_then (Err e) f = Err e

-- the fault, where there is nothing
abbrev pub or_fault : {A : Type 0} → Option A → Fault → Result A Fault
or_fault (Some a) e = Ok a
or_fault None e = Err e

-- what stands over a type that isn't simple has no simple type
abbrev pub is_allowed : Option Simple → Option Simple → Bool
is_allowed None (Some b) = false
is_allowed a b = true

-- what is found, unless it leaves the fragment
abbrev pub within : ℕ → Term → Term → Typing → Result Typing Fault
within k a b r = if is_allowed (simple_of a) (simple_of b) then Ok r else Err (out_of_fragment k)

-- the argument's value, where its type is the domain
abbrev pub argument_at : List Term → ℕ → Term → Typing → Result Term Fault
argument_at d k x r = if same_term (full r.of) (full x) then Ok r.value else Err (ill_typed k (exactly (full x)) (full r.of) (length d))

-- what is made of a product's parts, the fault where it is no product
abbrev pub product_or : Term → (Term → Term → Result Typing Fault) → Fault → Result Typing Fault
product_or (pi a b) f e = f a b
product_or t f e = Err e

-- an abstraction's parts
pub record Abstraction : Type 0 where
  pub check : List Term → ℕ → Result Term Fault
  pub body : List Term → ℕ → Result Typing Fault
  pub nodes : ℕ

-- how a term is found and checked in a context, at a node
pub record Reading : Type 0 where
  pub find : List Term → ℕ → Result Typing Fault
  pub check : List Term → ℕ → Result Term Fault
  pub parts : Option Abstraction
  pub is_prf : Bool

abbrev pub typing : Term → Term → Typing
typing a v = record { of = a; value = v }

-- a term that is no type: the fault in finding its type, else that the type is no sort
abbrev pub no_sort : (List Term → ℕ → Result Typing Fault) → List Term → ℕ → Result Term Fault
no_sort find d k = and_then (find d k) (λ r. Err (ill_typed k a_sort (full r.of) (length d)))

-- a term that is neither a type nor an abstraction nor `Prf`
abbrev pub plain : (List Term → ℕ → Result Typing Fault) → Reading
plain find = record { find = find; check = no_sort find; parts = None; is_prf = false }

-- a term of which no type is to be found
abbrev pub nowhere : List Term → ℕ → Result Typing Fault
nowhere d k = Err (out_of_fragment k)

-- a symbol, from its word: `I` and `Prop` are types, `Prf` makes types, any other has its declared type
abbrev pub read_symbol : List Declaration → Word → List ℕ → Reading
read_symbol sig Individuals x = record { find = nowhere; check = λ d k. Ok individuals; parts = None; is_prf = false }
read_symbol sig Propositions x = record { find = nowhere; check = λ d k. Ok propositions; parts = None; is_prf = false }
read_symbol sig Prf x = record { find = nowhere; check = no_sort nowhere; parts = None; is_prf = true }
read_symbol sig w x = plain (λ d k. and_then (or_fault (declared sig x) (unknown_name k x)) (λ a. Ok (typing a (con x))))

-- the application of an abstraction: its annotation, the argument, and then the body with the argument put in
abbrev pub find_let : Abstraction → Reading → ℕ → List Term → ℕ → Result Typing Fault
find_let p u c d k =
    and_then (p.check d (k + 2)) (λ x.
    and_then (u.find d (k + 1 + c)) (λ r.
    and_then (argument_at d (k + 1 + c) x r) (λ w.
    and_then (p.body (x ∷ d) (k + 2 + p.nodes)) (λ s.
    within k x s.of (typing (put_at (rank_of (simple_of x)) w s.of) (kept (simple_of s.of) (put_at (rank_of (simple_of x)) w s.value)))))))

-- the type and value of an application from those of its function
abbrev pub applied_to : ℕ → Term → Term → Term → Term → Result Typing Fault
applied_to k v a b w = within k a b (typing (put_at (rank_of (simple_of a)) w b) (kept (simple_of b) (apply_at (suc (rank_of (simple_of a))) v w)))

-- the argument of a function whose value and type are known
abbrev pub find_argument : Reading → ℕ → List Term → ℕ → Term → Term → Term → Result Typing Fault
find_argument u c d k v a b =
    and_then (u.find d (k + 1 + c)) (λ s. and_then (argument_at d (k + 1 + c) a s) (applied_to k v a b))

-- any other application: the function, whose type must be a product, and then the argument
abbrev pub find_app : Reading → Reading → ℕ → List Term → ℕ → Result Typing Fault
find_app f u c d k =
    and_then (f.find d (k + 1)) (λ r. product_or (opened r.of) (find_argument u c d k r.value) (ill_typed (k + 1) a_product (full r.of) (length d)))

-- an application, from the parts of its function where that is an abstraction
abbrev pub find_applied : Option Abstraction → Reading → Reading → ℕ → List Term → ℕ → Result Typing Fault
find_applied (Some p) f u c d k = find_let p u c d k
find_applied None f u c d k = find_app f u c d k

-- `Prf` of a term, which must be a proposition
abbrev pub check_prf : Reading → List Term → ℕ → Result Term Fault
check_prf u d k = and_then (u.find d (k + 2)) (λ r. and_then (argument_at d (k + 2) propositions r) (λ w. Ok (proof_of w)))

-- an application: as a type it is a `Prf`
abbrev pub read_app : Reading → Reading → ℕ → Reading
read_app f u c = record {
  find = find_applied f.parts f u c;
  check = if f.is_prf then check_prf u else no_sort (find_applied f.parts f u c);
  parts = None;
  is_prf = false;
}

-- an abstraction: its annotation, and then its body below the binder
abbrev pub find_lam : Reading → Reading → ℕ → List Term → ℕ → Result Typing Fault
find_lam a t c d k =
    and_then (a.check d (k + 1)) (λ x.
    and_then (t.find (x ∷ d) (k + 1 + c)) (λ r.
    within k x r.of (typing (pi x r.of) (lam x r.value))))

abbrev pub read_lam : Reading → Reading → ℕ → Reading
read_lam a t c = record {
  find = find_lam a t c;
  check = no_sort (find_lam a t c);
  parts = Some (record { check = a.check; body = t.find; nodes = c });
  is_prf = false;
}

-- a product, which is only a type
abbrev pub read_pi : Reading → Reading → ℕ → Reading
read_pi a b c = record {
  find = nowhere;
  check = λ d k. and_then (a.check d (k + 1)) (λ x. and_then (b.check (x ∷ d) (k + 1 + c)) (λ y. Ok (pi x y)));
  parts = None;
  is_prf = false;
}

-- how any term is found and checked. Nodes are counted in preorder
abbrev pub read : List Declaration → Term → Reading
read sig (var n) = plain (λ d k. and_then (or_fault (type_at d n) (out_of_fragment k)) (λ a. Ok (typing a (var n))))
read sig (con x) = read_symbol sig (word_of x) x
read sig (app f u) = read_app (read sig f) (read sig u) (node_count f)
read sig (lam a t) = read_lam (read sig a) (read sig t) (node_count a)
read sig (pi a b) = read_pi (read sig a) (read sig b) (node_count a)
read sig t = plain nowhere
