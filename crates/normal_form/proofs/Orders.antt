-- The order of forms is total, and equal forms are one: each form has a code, a list of numbers, whose order it is.
use Rattle.std.proofs.Common.{◌≡◌, ℕ, Bool, true, false, List, [], ◌∷◌, ◌++◌, map, refl, sym, ap, ap₂, ◌∙◌, append_assoc, append-nil, rules}
use Rattle.std.proofs.lemmas.Cmp.{nat_list_cmp_total, ranked, upto}
use Rattle.std.specs.Cmp.{IsTotalOrder}
use Rattle.std.specs.Cmp.Lexicographic.{slice_cmp}
use Rattle.std.specs.Ordering.{nat_cmp, ordering_reverse, ordering_then}
use Rattle.std.specs.declared.cmp.Ordering.{Ordering}
use Rattle.std.specs.declared.cmp.Ordering.TheVariants.{Equal, Greater, Less}
use Rattle.dk_syntax.proofs.ListLaws.{ForEach, for_each}
use Rattle.dk_syntax.proofs.TermLaws.{term_induction}
use Rattle.dk_syntax.specs.Order.{compared}
use Rattle.dk_syntax.specs.declared.Kind.{Kind}
use Rattle.dk_syntax.specs.declared.Kind.TheVariants.{Function, Predicate}
use Rattle.dk_syntax.specs.declared.Literal.{Literal}
use Rattle.dk_syntax.specs.declared.SymKey.{SymKey}
use Rattle.dk_syntax.specs.declared.Term.{Term, Term-F, fold-Term, the_lemmas as of_terms}
use Rattle.dk_syntax.specs.declared.Term.TheOpen as layer
use Rattle.dk_syntax.specs.declared.Term.TheVariants.{Any, App, Var}
use Rattle.normal_form.specs.Forms.{Form, yes, no, lit, and, or, all, ex}
use Rattle.normal_form.specs.LiteralOrder.{argument_order, kind_order, literal_order, sign_order, symbol_order}
use Rattle.normal_form.specs.Sorting.{form_order, is_after}
use Rattle.normal_form.proofs.Canonical.{after, sorting_is_canonical}
use Rattle.normal_form.proofs.Shuffles.{SortingIsCanonical}
use Rattle.normal_form.proofs.Sorts.{IsExact}
use Rattle.normal_form.proofs.TiedOrders.{then_equal, then_then}

abbrev lists : List ℕ → List ℕ → Ordering
lists = slice_cmp nat_cmp

-- two codes are in that order, whatever follows them
abbrev Codes : List ℕ → List ℕ → Ordering → Type 0
Codes a b o = (k l : List ℕ) → lists (a ++ k) (b ++ l) ≡ ordering_then o (lists k l)

then_parts : (a b : Ordering) → ordering_then a b ≡ Equal → (a ≡ Equal) × (b ≡ Equal)
then_parts Less b h = cc
then_parts Equal b h = (refl, h)
then_parts Greater b h = cc

codes_pair : (a b c d : List ℕ) (o p : Ordering) → Codes a b o → Codes c d p → Codes (a ++ c) (b ++ d) (ordering_then o p)
codes_pair a b c d o p h w k l =
    ap₂ lists (append_assoc a c k) (append_assoc b d l) ∙ h (c ++ k) (d ++ l) ∙ ap (ordering_then o) (w k l) ∙ sym (then_then o p (lists k l))

abbrev list_code : List (List ℕ) → List ℕ
list_code [] = 0 ∷ []
list_code (a ∷ l) = 1 ∷ (a ++ list_code l)

module _ {X : Type 0} (code : X → List ℕ) (order : X → X → Ordering) where
  codes_list : (xs ys : List X) → ForEach (λ x. (y : X) → Codes (code x) (code y) (order x y)) xs → Codes (list_code (map code xs)) (list_code (map code ys)) (slice_cmp order xs ys)
  codes_list [] [] h = λ k l. refl
  codes_list [] (y ∷ ys) h = λ k l. refl
  codes_list (x ∷ xs) [] h = λ k l. refl
  codes_list (x ∷ xs) (y ∷ ys) h =
      codes_pair (code x) (code y) (list_code (map code xs)) (list_code (map code ys)) (order x y) (slice_cmp order xs ys) (h.0 y) (codes_list xs ys h.1)

  exact_list : (xs ys : List X) → ForEach (λ x. (y : X) → order x y ≡ Equal → x ≡ y) xs → slice_cmp order xs ys ≡ Equal → xs ≡ ys
  exact_list [] [] h w = refl
  exact_list [] (y ∷ ys) h w = cc
  exact_list (x ∷ xs) [] h w = cc
  exact_list (x ∷ xs) (y ∷ ys) h w = let p = then_parts (order x y) (slice_cmp order xs ys) w in ap₂ (λ a b. a ∷ b) (h.0 y p.0) (exact_list xs ys h.1 p.1)

-- ---- symbols

abbrev number_code : ℕ → List ℕ
number_code n = n ∷ []

number_codes : (m n : ℕ) → Codes (number_code m) (number_code n) (nat_cmp m n)
number_codes m n k l = refl

number_exact : (m n : ℕ) → nat_cmp m n ≡ Equal → m ≡ n
number_exact m n h = ranked m n Equal (sym h)

abbrev kind_code : Kind → List ℕ
kind_code Function = 0 ∷ []
kind_code Predicate = 1 ∷ []

kind_codes : (x y : Kind) → Codes (kind_code x) (kind_code y) (kind_order x y)
kind_codes Function Function = λ k l. refl
kind_codes Function Predicate = λ k l. refl
kind_codes Predicate Function = λ k l. refl
kind_codes Predicate Predicate = λ k l. refl

kind_exact : (x y : Kind) → kind_order x y ≡ Equal → x ≡ y
kind_exact Function Function h = refl
kind_exact Function Predicate h = cc
kind_exact Predicate Function h = cc
kind_exact Predicate Predicate h = refl

abbrev sign_code : Bool → List ℕ
sign_code false = 0 ∷ []
sign_code true = 1 ∷ []

sign_codes : (x y : Bool) → Codes (sign_code x) (sign_code y) (sign_order x y)
sign_codes false false = λ k l. refl
sign_codes false true = λ k l. refl
sign_codes true false = λ k l. refl
sign_codes true true = λ k l. refl

sign_exact : (x y : Bool) → sign_order x y ≡ Equal → x ≡ y
sign_exact false false h = refl
sign_exact false true h = cc
sign_exact true false h = cc
sign_exact true true h = refl

abbrev symbol_code : SymKey → List ℕ
symbol_code f = list_code (map number_code f.name) ++ (number_code f.arity ++ kind_code f.kind)

symbol_codes : (f g : SymKey) → Codes (symbol_code f) (symbol_code g) (symbol_order f g)
symbol_codes f g =
    codes_pair (list_code (map number_code f.name)) (list_code (map number_code g.name)) (number_code f.arity ++ kind_code f.kind) (number_code g.arity ++ kind_code g.kind)
    (slice_cmp nat_cmp f.name g.name) (ordering_then (nat_cmp f.arity g.arity) (kind_order f.kind g.kind))
    (codes_list number_code nat_cmp f.name g.name (for_each (λ x. (y : ℕ) → Codes (number_code x) (number_code y) (nat_cmp x y)) number_codes f.name))
    (codes_pair (number_code f.arity) (number_code g.arity) (kind_code f.kind) (kind_code g.kind) (nat_cmp f.arity g.arity) (kind_order f.kind g.kind) (number_codes f.arity g.arity) (kind_codes f.kind g.kind))

abbrev symbol : List ℕ → ℕ → Kind → SymKey
symbol name arity kind = record { name = name; arity = arity; kind = kind }

symbol_exact : (f g : SymKey) → symbol_order f g ≡ Equal → f ≡ g
symbol_exact f g h =
    let p = then_parts (slice_cmp nat_cmp f.name g.name) (ordering_then (nat_cmp f.arity g.arity) (kind_order f.kind g.kind)) h in
    let q = then_parts (nat_cmp f.arity g.arity) (kind_order f.kind g.kind) p.1 in
    ap (λ x. symbol x f.arity f.kind) (exact_list number_code nat_cmp f.name g.name (for_each (λ x. (y : ℕ) → nat_cmp x y ≡ Equal → x ≡ y) number_exact f.name) p.0)
    ∙ ap (λ x. symbol g.name x f.kind) (number_exact f.arity g.arity q.0) ∙ ap (symbol g.name g.arity) (kind_exact f.kind g.kind q.1)

-- ---- terms

abbrev code_at : Term-F (List ℕ) → List ℕ
code_at (layer.Var i) = 0 ∷ i ∷ []
code_at layer.Any = 1 ∷ []
code_at (layer.App f codes) = 2 ∷ (symbol_code f ++ list_code codes)

abbrev code : Term → List ℕ
code = fold-Term (List ℕ) code_at

code-Var : (i : ℕ) → code (Var i) ≡ 0 ∷ i ∷ []
code-Var i = search (rules, of_terms)

code-Any : code Any ≡ 1 ∷ []
code-Any = search (rules, of_terms)

code-App : (f : SymKey) (xs : List Term) → code (App f xs) ≡ 2 ∷ (symbol_code f ++ list_code (map code xs))
code-App f xs = search (rules, of_terms)

var-var : (i j : ℕ) → argument_order (Var i) (Var j) ≡ nat_cmp i j
var-var i j = search (rules, of_terms)

var-any : (i : ℕ) → argument_order (Var i) Any ≡ Less
var-any i = search (rules, of_terms)

var-app : (i : ℕ) (g : SymKey) (ys : List Term) → argument_order (Var i) (App g ys) ≡ Less
var-app i g ys = search (rules, of_terms)

any-var : (j : ℕ) → argument_order Any (Var j) ≡ Greater
any-var j = search (rules, of_terms)

any-any : argument_order Any Any ≡ Equal
any-any = search (rules, of_terms)

any-app : (g : SymKey) (ys : List Term) → argument_order Any (App g ys) ≡ Less
any-app g ys = search (rules, of_terms)

app-var : (f : SymKey) (xs : List Term) (j : ℕ) → argument_order (App f xs) (Var j) ≡ Greater
app-var f xs j = search (rules, of_terms)

app-any : (f : SymKey) (xs : List Term) → argument_order (App f xs) Any ≡ Greater
app-any f xs = search (rules, of_terms)

-- an order applied to each argument, as a list of its own
pub compared_is : (xs ys : List Term) → slice_cmp compared (map argument_order xs) ys ≡ slice_cmp argument_order xs ys
compared_is [] [] = refl
compared_is [] (y ∷ ys) = refl
compared_is (x ∷ xs) [] = refl
compared_is (x ∷ xs) (y ∷ ys) = ap (ordering_then (argument_order x y)) (compared_is xs ys)

app-raw : (f : SymKey) (xs : List Term) (g : SymKey) (ys : List Term) → argument_order (App f xs) (App g ys) ≡ ordering_then (symbol_order f g) (slice_cmp compared (map argument_order xs) ys)
app-raw f xs g ys = search (rules, of_terms)

app-app : (f : SymKey) (xs : List Term) (g : SymKey) (ys : List Term) → argument_order (App f xs) (App g ys) ≡ ordering_then (symbol_order f g) (slice_cmp argument_order xs ys)
app-app f xs g ys = app-raw f xs g ys ∙ ap (ordering_then (symbol_order f g)) (compared_is xs ys)

codes_by : (a b c d : List ℕ) (o p : Ordering) → a ≡ c → b ≡ d → o ≡ p → Codes c d p → Codes a b o
codes_by a b c d o p x y z h k l = ap₂ (λ m n. lists (m ++ k) (n ++ l)) x y ∙ h k l ∙ ap (λ q. ordering_then q (lists k l)) (sym z)

abbrev HasCode : Term → Type 0
HasCode t = (u : Term) → Codes (code t) (code u) (argument_order t u)

term_codes : (t : Term) → HasCode t
term_codes = term_induction HasCode
    (λ i. term_induction (λ u. Codes (code (Var i)) (code u) (argument_order (Var i) u))
    (λ j. codes_by _ _ (0 ∷ i ∷ []) (0 ∷ j ∷ []) _ (nat_cmp i j) (code-Var i) (code-Var j) (var-var i j) (λ k l. refl))
    (λ g ys h. codes_by _ _ (0 ∷ i ∷ []) (2 ∷ (symbol_code g ++ list_code (map code ys))) _ Less (code-Var i) (code-App g ys) (var-app i g ys) (λ k l. refl))
    (codes_by _ _ (0 ∷ i ∷ []) (1 ∷ []) _ Less (code-Var i) code-Any (var-any i) (λ k l. refl)))
    (λ f xs known. term_induction (λ u. Codes (code (App f xs)) (code u) (argument_order (App f xs) u))
    (λ j. codes_by _ _ (2 ∷ (symbol_code f ++ list_code (map code xs))) (0 ∷ j ∷ []) _ Greater (code-App f xs) (code-Var j) (app-var f xs j) (λ k l. refl))
    (λ g ys h. codes_by _ _ (2 ∷ (symbol_code f ++ list_code (map code xs))) (2 ∷ (symbol_code g ++ list_code (map code ys))) _
    (ordering_then (symbol_order f g) (slice_cmp argument_order xs ys)) (code-App f xs) (code-App g ys) (app-app f xs g ys)
    (codes_pair (symbol_code f) (symbol_code g) (list_code (map code xs)) (list_code (map code ys)) (symbol_order f g) (slice_cmp argument_order xs ys)
    (symbol_codes f g) (codes_list code argument_order xs ys known)))
    (codes_by _ _ (2 ∷ (symbol_code f ++ list_code (map code xs))) (1 ∷ []) _ Greater (code-App f xs) code-Any (app-any f xs) (λ k l. refl)))
    (term_induction (λ u. Codes (code Any) (code u) (argument_order Any u))
    (λ j. codes_by _ _ (1 ∷ []) (0 ∷ j ∷ []) _ Greater code-Any (code-Var j) (any-var j) (λ k l. refl))
    (λ g ys h. codes_by _ _ (1 ∷ []) (2 ∷ (symbol_code g ++ list_code (map code ys))) _ Less code-Any (code-App g ys) (any-app g ys) (λ k l. refl))
    (codes_by _ _ (1 ∷ []) (1 ∷ []) _ Equal code-Any code-Any any-any (λ k l. refl)))

less_not : {B : Type 0} (o : Ordering) → o ≡ Less → o ≡ Equal → B
less_not o h w = cc

greater_not : {B : Type 0} (o : Ordering) → o ≡ Greater → o ≡ Equal → B
greater_not o h w = cc

abbrev IsAlone : Term → Type 0
IsAlone t = (u : Term) → argument_order t u ≡ Equal → t ≡ u

term_exact : (t : Term) → IsAlone t
term_exact = term_induction IsAlone
    (λ i. term_induction (λ u. argument_order (Var i) u ≡ Equal → Var i ≡ u)
    (λ j h. ap Var (number_exact i j (sym (var-var i j) ∙ h)))
    (λ g ys known h. less_not (argument_order (Var i) (App g ys)) (var-app i g ys) h)
    (λ h. less_not (argument_order (Var i) Any) (var-any i) h))
    (λ f xs known. term_induction (λ u. argument_order (App f xs) u ≡ Equal → App f xs ≡ u)
    (λ j h. greater_not (argument_order (App f xs) (Var j)) (app-var f xs j) h)
    (λ g ys k h.
    let p = then_parts (symbol_order f g) (slice_cmp argument_order xs ys) (sym (app-app f xs g ys) ∙ h) in
    ap₂ App (symbol_exact f g p.0) (exact_list code argument_order xs ys known p.1))
    (λ h. greater_not (argument_order (App f xs) Any) (app-any f xs) h))
    (term_induction (λ u. argument_order Any u ≡ Equal → Any ≡ u)
    (λ j h. greater_not (argument_order Any (Var j)) (any-var j) h)
    (λ g ys known h. less_not (argument_order Any (App g ys)) (any-app g ys) h)
    (λ h. refl))

-- ---- literals and forms

abbrev literal_code : Literal → List ℕ
literal_code l = sign_code l.positive ++ (symbol_code l.pred ++ list_code (map code l.args))

literal_codes : (l m : Literal) → Codes (literal_code l) (literal_code m) (literal_order l m)
literal_codes l m =
    codes_pair (sign_code l.positive) (sign_code m.positive) (symbol_code l.pred ++ list_code (map code l.args)) (symbol_code m.pred ++ list_code (map code m.args))
    (sign_order l.positive m.positive) (ordering_then (symbol_order l.pred m.pred) (slice_cmp argument_order l.args m.args)) (sign_codes l.positive m.positive)
    (codes_pair (symbol_code l.pred) (symbol_code m.pred) (list_code (map code l.args)) (list_code (map code m.args)) (symbol_order l.pred m.pred) (slice_cmp argument_order l.args m.args)
    (symbol_codes l.pred m.pred) (codes_list code argument_order l.args m.args (for_each HasCode term_codes l.args)))

abbrev literal : Bool → SymKey → List Term → Literal
literal positive pred args = record { positive = positive; pred = pred; args = args }

literal_exact : (l m : Literal) → literal_order l m ≡ Equal → l ≡ m
literal_exact l m h =
    let p = then_parts (sign_order l.positive m.positive) (ordering_then (symbol_order l.pred m.pred) (slice_cmp argument_order l.args m.args)) h in
    let q = then_parts (symbol_order l.pred m.pred) (slice_cmp argument_order l.args m.args) p.1 in
    ap (λ x. literal x l.pred l.args) (sign_exact l.positive m.positive p.0)
    ∙ ap (λ x. literal m.positive x l.args) (symbol_exact l.pred m.pred q.0)
    ∙ ap (literal m.positive m.pred) (exact_list code argument_order l.args m.args (for_each IsAlone term_exact l.args) q.1)

abbrev form_code : Form → List ℕ
form_code yes = 0 ∷ []
form_code no = 1 ∷ []
form_code (lit l) = 2 ∷ literal_code l
form_code (and a b) = 3 ∷ (form_code a ++ form_code b)
form_code (or a b) = 4 ∷ (form_code a ++ form_code b)
form_code (all a) = 5 ∷ form_code a
form_code (ex a) = 6 ∷ form_code a

form_codes : (a b : Form) → Codes (form_code a) (form_code b) (form_order a b)
form_codes yes yes = λ k l. refl
form_codes yes no = λ k l. refl
form_codes yes (lit c) = λ k l. refl
form_codes yes (and c d) = λ k l. refl
form_codes yes (or c d) = λ k l. refl
form_codes yes (all c) = λ k l. refl
form_codes yes (ex c) = λ k l. refl
form_codes no yes = λ k l. refl
form_codes no no = λ k l. refl
form_codes no (lit c) = λ k l. refl
form_codes no (and c d) = λ k l. refl
form_codes no (or c d) = λ k l. refl
form_codes no (all c) = λ k l. refl
form_codes no (ex c) = λ k l. refl
form_codes (lit a) yes = λ k l. refl
form_codes (lit a) no = λ k l. refl
form_codes (lit a) (lit c) = literal_codes a c
form_codes (lit a) (and c d) = λ k l. refl
form_codes (lit a) (or c d) = λ k l. refl
form_codes (lit a) (all c) = λ k l. refl
form_codes (lit a) (ex c) = λ k l. refl
form_codes (and a b) yes = λ k l. refl
form_codes (and a b) no = λ k l. refl
form_codes (and a b) (lit c) = λ k l. refl
form_codes (and a b) (and c d) = codes_pair (form_code a) (form_code c) (form_code b) (form_code d) (form_order a c) (form_order b d) (form_codes a c) (form_codes b d)
form_codes (and a b) (or c d) = λ k l. refl
form_codes (and a b) (all c) = λ k l. refl
form_codes (and a b) (ex c) = λ k l. refl
form_codes (or a b) yes = λ k l. refl
form_codes (or a b) no = λ k l. refl
form_codes (or a b) (lit c) = λ k l. refl
form_codes (or a b) (and c d) = λ k l. refl
form_codes (or a b) (or c d) = codes_pair (form_code a) (form_code c) (form_code b) (form_code d) (form_order a c) (form_order b d) (form_codes a c) (form_codes b d)
form_codes (or a b) (all c) = λ k l. refl
form_codes (or a b) (ex c) = λ k l. refl
form_codes (all a) yes = λ k l. refl
form_codes (all a) no = λ k l. refl
form_codes (all a) (lit c) = λ k l. refl
form_codes (all a) (and c d) = λ k l. refl
form_codes (all a) (or c d) = λ k l. refl
form_codes (all a) (all c) = form_codes a c
form_codes (all a) (ex c) = λ k l. refl
form_codes (ex a) yes = λ k l. refl
form_codes (ex a) no = λ k l. refl
form_codes (ex a) (lit c) = λ k l. refl
form_codes (ex a) (and c d) = λ k l. refl
form_codes (ex a) (or c d) = λ k l. refl
form_codes (ex a) (all c) = λ k l. refl
form_codes (ex a) (ex c) = form_codes a c

form_exact : (a b : Form) → form_order a b ≡ Equal → a ≡ b
form_exact yes yes h = refl
form_exact yes no h = cc
form_exact yes (lit c) h = cc
form_exact yes (and c d) h = cc
form_exact yes (or c d) h = cc
form_exact yes (all c) h = cc
form_exact yes (ex c) h = cc
form_exact no yes h = cc
form_exact no no h = refl
form_exact no (lit c) h = cc
form_exact no (and c d) h = cc
form_exact no (or c d) h = cc
form_exact no (all c) h = cc
form_exact no (ex c) h = cc
form_exact (lit a) yes h = cc
form_exact (lit a) no h = cc
form_exact (lit a) (lit c) h = ap lit (literal_exact a c h)
form_exact (lit a) (and c d) h = cc
form_exact (lit a) (or c d) h = cc
form_exact (lit a) (all c) h = cc
form_exact (lit a) (ex c) h = cc
form_exact (and a b) yes h = cc
form_exact (and a b) no h = cc
form_exact (and a b) (lit c) h = cc
form_exact (and a b) (and c d) h = let p = then_parts (form_order a c) (form_order b d) h in ap₂ and (form_exact a c p.0) (form_exact b d p.1)
form_exact (and a b) (or c d) h = cc
form_exact (and a b) (all c) h = cc
form_exact (and a b) (ex c) h = cc
form_exact (or a b) yes h = cc
form_exact (or a b) no h = cc
form_exact (or a b) (lit c) h = cc
form_exact (or a b) (and c d) h = cc
form_exact (or a b) (or c d) h = let p = then_parts (form_order a c) (form_order b d) h in ap₂ or (form_exact a c p.0) (form_exact b d p.1)
form_exact (or a b) (all c) h = cc
form_exact (or a b) (ex c) h = cc
form_exact (all a) yes h = cc
form_exact (all a) no h = cc
form_exact (all a) (lit c) h = cc
form_exact (all a) (and c d) h = cc
form_exact (all a) (or c d) h = cc
form_exact (all a) (all c) h = ap all (form_exact a c h)
form_exact (all a) (ex c) h = cc
form_exact (ex a) yes h = cc
form_exact (ex a) no h = cc
form_exact (ex a) (lit c) h = cc
form_exact (ex a) (and c d) h = cc
form_exact (ex a) (or c d) h = cc
form_exact (ex a) (all c) h = cc
form_exact (ex a) (ex c) h = ap ex (form_exact a c h)

is_coded : (a b : Form) → form_order a b ≡ lists (form_code a) (form_code b)
is_coded a b = sym (then_equal (form_order a b)) ∙ sym (form_codes a b [] []) ∙ ap₂ lists (append-nil (form_code a)) (append-nil (form_code b))

pub form_total : IsTotalOrder form_order
form_total = record {
  antisymm = λ a b. is_coded a b ∙ nat_list_cmp_total.antisymm (form_code a) (form_code b) ∙ ap ordering_reverse (sym (is_coded b a));
  trans = λ a b c h k. is_coded a c ∙ nat_list_cmp_total.trans (form_code a) (form_code b) (form_code c) (sym (is_coded a b) ∙ h) (sym (is_coded b c) ∙ k);
  congr = λ a b c h. is_coded a c ∙ nat_list_cmp_total.congr (form_code a) (form_code b) (form_code c) (sym (is_coded a b) ∙ h) ∙ sym (is_coded b c);
}

level : (o p : Ordering) → o ≡ ordering_reverse p → is_after o ≡ false → is_after p ≡ false → o ≡ Equal
level Less Less h w v = cc
level Less Equal h w v = cc
level Less Greater h w v = cc
level Equal p h w v = refl
level Greater p h w v = cc

reversed : (o p : Ordering) → o ≡ ordering_reverse p → is_after p ≡ true → is_after o ≡ false
reversed o Less h w = cc
reversed o Equal h w = cc
reversed o Greater h w = ap is_after h

by_contra : (t : Bool) → (t ≡ false → ⊥) → t ≡ true
by_contra true h = refl
by_contra false h = absurd (h refl)

true_false : (t : Bool) → t ≡ true → t ≡ false → ⊥
true_false t h w = cc

pub after_exact : IsExact after
after_exact = record {
  one = λ a b h k. form_exact a b (level (form_order a b) (form_order b a) (form_total.antisymm a b) h k);
  apart = λ a b h. reversed (form_order b a) (form_order a b) (form_total.antisymm b a) h;
  trans = λ a b c h k. by_contra (after b a) (λ w. true_false (after b c) k (upto form_total b a c w h));
}

-- forms that are shuffled, or have other numbers, have one sorted form
pub canonical : SortingIsCanonical
canonical = sorting_is_canonical after_exact
