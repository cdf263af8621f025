-- Laws of tables that grow.
use Rattle.std.proofs.Common.{◌≡◌, ◌<◌, ◌≤◌, ◌+◌, ℕ, zero, suc, List, [], ◌∷◌, ◌++◌, map, length, length-append, get_or, take, add-one, append_assoc, Contains, Some, None, slice_get, arith, refl, sym, ap, ap₂, subst, ◌∙◌, inl, inr}
use Rattle.std.proofs.Math.Seq.{take-suc}
use Rattle.std.proofs.lemmas.List.{append-nil, get_or_append_left, map-append}
use Rattle.std.proofs.lemmas.List.Elements.{Contains-append_cases, Contains-append_right}
use Rattle.dk_syntax.proofs.SubstitutionLaws.{substituted-Any, substituted-App, substituted-Var}
use Rattle.dk_syntax.proofs.TermTableLaws.{numbered_here, numbered_within}
use Rattle.dk_syntax.specs.TermTables.{IsNumbered, term_of}
use Rattle.dk_syntax.specs.Terms.{instance, substituted}
use Rattle.dk_syntax.specs.declared.clause.Literal.{Literal}
use Rattle.dk_syntax.specs.declared.symbol.SymKey.{SymKey}
use Rattle.dk_syntax.specs.declared.term.Term.{Term}
use Rattle.dk_syntax.specs.declared.term.Term.TheVariants.{Any, App, Var}
use Rattle.ground_instances.specs.Growing.{AreEntered, AreLiteralsEntered, ground_literals, grounds, Grows, IsEntered}
use Rattle.ground_instances.specs.Keys.{Key}
use Rattle.ground_instances.specs.Naming.{AreNamed, AreNamesBelow, key_at, key_by, keys_by}
use Rattle.ground_instances.specs.Needs.{ground, value_in}
use Rattle.ground_instances.specs.Rows.{AreBelow, AreLiteralsBelow, literal_by, literals_by, terms_by}
use Rattle.ground_instances.specs.Weights.{inside, IsInClause, IsPart, IsPartOf, whole}
use Rattle.ground_instances.specs.declared.instance.RowLit.{RowLit}
use Rattle.ground_instances.specs.declared.naming.Named.{Named}
use Rattle.ground_instances.specs.declared.naming.Place.{Place}

nothing_in : (t : Term) → Contains [] t → {P : Type 0} → P
nothing_in t c = absurd (omega (arith, c.1))

alone_is : (x t : Term) → Contains (x ∷ []) t → t ≡ x
alone_is x t (zero, less, e) = sym e
alone_is x t (suc k, less, e) = absurd (omega arith)

pub grows_none : (Is : Term → Type 0) (old : List Term) → Grows Is old old
grows_none Is old = record { more = []; grown = sym (append-nil old); each = λ t c. nothing_in t c }

pub grows_then : {Is : Term → Type 0} {a b c : List Term} → Grows Is a b → Grows Is b c → Grows Is a c
grows_then {a = a} g h = record {
  more = g.more ++ h.more;
  grown = h.grown ∙ ap (λ x. x ++ h.more) g.grown ∙ append_assoc a g.more h.more;
  each = λ t there. elim (Contains-append_cases g.more h.more t there) [ inl p ↦ g.each t p | inr q ↦ h.each t q ];
}

pub grows_as : {Is Is' : Term → Type 0} {a b : List Term} → ((t : Term) → Is t → Is' t) → Grows Is a b → Grows Is' a b
grows_as f g = record { more = g.more; grown = g.grown; each = λ t c. f t (g.each t c) }

pub longer : {Is : Term → Type 0} {old new : List Term} → Grows Is old new → length old ≤ length new
longer {old = old} g = let e = ap length g.grown ∙ length-append old g.more in omega arith

pub term_stays : {Is : Term → Type 0} {old new : List Term} → Grows Is old new → (n : ℕ) → n < length old → term_of new n ≡ term_of old n
term_stays {old = old} g n l = ap (λ x. get_or x n Any) g.grown ∙ get_or_append_left old g.more Any n l

pub terms_stay : {Is : Term → Type 0} {old new : List Term} → Grows Is old new → (ns : List ℕ) → AreBelow (length old) ns → terms_by new ns ≡ terms_by old ns
terms_stay g [] below = refl
terms_stay g (n ∷ ns) below =
    ap₂ (λ x y. x ∷ y) (term_stays g n (below 0 0 (omega arith))) (terms_stay g ns (λ j d l. below (suc j) d (omega arith)))

pub below_grows : {Is : Term → Type 0} {old new : List Term} → Grows Is old new → (ns : List ℕ) → AreBelow (length old) ns → AreBelow (length new) ns
below_grows g ns below j d l = let a = below j d l in let b = longer g in omega arith

literal_stays : {Is : Term → Type 0} {old new : List Term} → Grows Is old new → (one : RowLit) → AreBelow (length old) one.args → literal_by new one ≡ literal_by old one
literal_stays {old = old} {new = new} g one below =
    let f : List Term → Literal = λ (ts : List Term). record { positive = one.positive; pred = one.pred; args = ts } in
    ap f (terms_stay g one.args below)

pub literals_stay : {Is : Term → Type 0} {old new : List Term} → Grows Is old new → (ones : List RowLit) → AreLiteralsBelow (length old) ones → literals_by new ones ≡ literals_by old ones
literals_stay g [] below = refl
literals_stay g (one ∷ ones) below =
    ap₂ (λ x y. x ∷ y) (literal_stays g one (below 0 one (omega arith))) (literals_stay g ones (λ j d l. below (suc j) d (omega arith)))

pub literals_below_grow : {Is : Term → Type 0} {old new : List Term} → Grows Is old new → (ones : List RowLit) → AreLiteralsBelow (length old) ones → AreLiteralsBelow (length new) ones
literals_below_grow g [] below j d l = absurd (omega arith)
literals_below_grow g (one ∷ ones) below zero d l = below_grows g one.args (below 0 d (omega arith))
literals_below_grow g (one ∷ ones) below (suc j) d l = literals_below_grow g ones (λ j d l. below (suc j) d (omega arith)) j d (omega arith)

-- ---- terms

pub numbered_grows : (old new : List Term) (t : Term) (n : ℕ) → IsNumbered old t new n → Grows (λ u. u ≡ t) old new
numbered_grows old new t n (inl h) = record { more = []; grown = h.0 ∙ sym (append-nil old); each = λ u c. nothing_in u c }
numbered_grows old new t n (inr h) = record { more = t ∷ []; grown = h.1; each = λ u c. alone_is t u c }

-- a term whose arguments stand in the table
pub entered_numbered : (old new : List Term) (t : Term) (n : ℕ) → IsNumbered old t new n → IsEntered old t new n
entered_numbered old new t n h = record {
  grows = grows_as (λ u e. whole t (sym e)) (numbered_grows old new t n h);
  below = numbered_within old new t n h;
  is = numbered_here old new t n h;
}

-- a term that stands in the table
pub entered_there : (table : List Term) (n : ℕ) → n < length table → (t : Term) → term_of table n ≡ t → IsEntered table t table n
entered_there table n l t e = record { grows = grows_none (λ u. IsPart u t) table; below = l; is = e }

-- an application, after its arguments
pub entered_app : (a b c : List Term) (symbol : SymKey) (ts : List Term) (numbers : List ℕ) (n : ℕ) → AreEntered a ts b numbers
    → IsEntered b (App symbol (terms_by b numbers)) c n → IsEntered a (App symbol ts) c n
entered_app a b c symbol ts numbers n args here =
    let same : App symbol (terms_by b numbers) ≡ App symbol ts = ap (App symbol) args.are in
    record {
      grows = grows_then (grows_as (λ u p. inside (App symbol ts) p.0 symbol ts refl p.1 p.2) args.grows) (grows_as (λ u p. subst (IsPart u) same p) here.grows);
      below = here.below;
      is = here.is ∙ same;
    }

-- ---- lists of terms

pub entered_nothing : (table : List Term) → AreEntered table [] table []
entered_nothing table = record { grows = grows_none (IsPartOf []) table; below = λ j d l. absurd (omega arith); are = refl }

first_part : (ts us : List Term) (t : Term) → IsPartOf ts t → IsPartOf (ts ++ us) t
first_part ts us t (u, (k, l, e), p) =
    let m = length-append ts us in
    (u, (k, omega arith, get_or_append_left ts us u k l ∙ e), p)

all_append : (m : ℕ) (ns : List ℕ) (n : ℕ) → AreBelow m ns → n < m → AreBelow m (ns ++ n ∷ [])
all_append m [] n below l zero d k = l
all_append m [] n below l (suc j) d k = absurd (omega arith)
all_append m (x ∷ ns) n below l zero d k = below 0 d (omega arith)
all_append m (x ∷ ns) n below l (suc j) d k = all_append m ns n (λ i e h. below (suc i) e (omega arith)) l j d (omega arith)

-- one more item of a list
pub take_one_more : {A : Type 0} (xs : List A) (i : ℕ) (x : A) → i < length xs → x ≡ get_or xs i x → take (i + 1) xs ≡ take i xs ++ x ∷ []
take_one_more xs i x l e = ap (λ n. take n xs) (add-one i) ∙ take-suc xs i x l ∙ ap (λ y. take i xs ++ y ∷ []) (sym e)

-- one more term
pub entered_more : (a b c ts : List Term) (t : Term) (ns : List ℕ) (n : ℕ) → AreEntered a ts b ns → IsEntered b t c n → AreEntered a (ts ++ t ∷ []) c (ns ++ n ∷ [])
entered_more a b c ts t ns n all one =
    let grown = one.grows in
    record {
      grows = grows_then (grows_as (λ u p. first_part ts (t ∷ []) u p) all.grows)
          (grows_as (λ u p. (t, Contains-append_right ts (t ∷ []) t (0, omega arith, refl), p)) grown);
      below = all_append (length c) ns n (below_grows grown ns all.below) one.below;
      are = map-append (term_of c) ns (n ∷ []) ∙ ap₂ (λ x y. x ++ y ∷ []) (terms_stay grown ns all.below ∙ all.are) one.is;
    }

-- the same, where a term is read off the terms of the first table
pub grounds_more : (a b c : List Term) (values : List ℕ) (ts : List Term) (t : Term) (ns : List ℕ) (n : ℕ) → AreBelow (length a) values
    → AreEntered a (grounds a values ts) b ns → IsEntered b (ground (terms_by b values) t) c n → AreEntered a (grounds a values (ts ++ t ∷ [])) c (ns ++ n ∷ [])
grounds_more a b c values ts t ns n below all one =
    let same : ground (terms_by b values) t ≡ ground (terms_by a values) t = ap (λ x. ground x t) (terms_stay all.grows values below) in
    subst (λ x. AreEntered a x c (ns ++ n ∷ [])) (sym (map-append (ground (terms_by a values)) ts (t ∷ [])))
    (entered_more a b c (grounds a values ts) (ground (terms_by a values) t) ns n all (subst (λ x. IsEntered b x c n) same one))

more_clause : (lits : List Literal) (l : Literal) (t : Term) → IsInClause lits t → IsInClause (lits ++ l ∷ []) t
more_clause lits l t (literal, (k, less, e), p) =
    let m = length-append lits (l ∷ []) in
    (literal, (k, omega arith, get_or_append_left lits (l ∷ []) literal k less ∙ e), p)

literals_append : (m : ℕ) (ones : List RowLit) (one : RowLit) → AreLiteralsBelow m ones → AreBelow m one.args → AreLiteralsBelow m (ones ++ one ∷ [])
literals_append m [] one below here zero d l = here
literals_append m [] one below here (suc k) d l = absurd (omega arith)
literals_append m (x ∷ xs) one below here zero d l = below 0 x (omega arith)
literals_append m (x ∷ xs) one below here (suc k) d l = literals_append m xs one (λ j e h. below (suc j) e (omega arith)) here k d (omega arith)

pub no_literals : (table : List Term) → AreLiteralsEntered table [] table []
no_literals table = record { grows = grows_none (IsInClause []) table; below = λ k d l. absurd (omega arith); are = refl }

-- the literal with these numbers
abbrev pub row_lit : Literal → List ℕ → RowLit
row_lit l numbers = record { positive = l.positive; pred = l.pred; args = numbers }

-- one more literal
pub literals_more : (a b c : List Term) (values : List ℕ) (ls : List Literal) (l : Literal) (ones : List RowLit) (numbers : List ℕ) → AreBelow (length a) values
    → AreLiteralsEntered a (ground_literals a values ls) b ones → AreEntered b (grounds b values l.args) c numbers
    → AreLiteralsEntered a (ground_literals a values (ls ++ l ∷ [])) c (ones ++ row_lit l numbers ∷ [])
literals_more a b c values ls l ones numbers below all one =
    let s : ℕ → Term = value_in (terms_by a values) in
    let values_same : terms_by b values ≡ terms_by a values = terms_stay all.grows values below in
    let args : terms_by c numbers ≡ map (substituted s) l.args = one.are ∙ ap (λ x. map (ground x) l.args) values_same in
    let f : List Term → Literal = λ (ts : List Term). record { positive = l.positive; pred = l.pred; args = ts } in
    let last : literal_by c (row_lit l numbers) ≡ instance s l = ap f args in
    let lits = ground_literals a values ls in
    let both : ground_literals a values (ls ++ l ∷ []) ≡ lits ++ instance s l ∷ [] = map-append (instance s) ls (l ∷ []) in
    record {
      grows = grows_then (grows_as (λ t p. subst (λ x. IsInClause x t) (sym both) (more_clause lits (instance s l) t p)) all.grows)
          (grows_as (λ t p. subst (λ x. IsInClause x t) (sym both) (
            instance s l,
            Contains-append_right lits (instance s l ∷ []) (instance s l) (0, omega arith, refl),
            subst (λ x. IsPartOf x t) (ap (λ x. map (ground x) l.args) values_same) p,
          )) one.grows);
      below = literals_append (length c) ones (row_lit l numbers) (literals_below_grow one.grows ones all.below) one.below;
      are = map-append (literal_by c) ones (row_lit l numbers ∷ []) ∙ ap₂ (λ x y. x ++ y ∷ []) (literals_stay one.grows ones all.below ∙ all.are) last
          ∙ sym (map-append (instance s) ls (l ∷ []));
    }

-- ---- named instances

pub one_named : (old new : List Term) (one : Key) (place : Place) (ts : List Term) (numbers : List ℕ) → one ≡ key_at place ts → AreEntered old ts new numbers
    → AreNamed old (one ∷ []) new (record { place = place; terms = numbers } ∷ [])
one_named old new one place ts numbers name are = record {
  are = ap (λ x. x ∷ []) (ap (key_at place) are.are ∙ sym name);
  below = one_below;
  grows = grows_as (λ t p. (one, (0, omega arith, refl), subst (λ (x : Key). IsPartOf x.terms t) (sym name) p)) are.grows;
}
  where
    one_below : AreNamesBelow (length new) (record { place = place; terms = numbers } ∷ [])
    one_below zero d l = are.below
    one_below (suc k) d l = absurd (omega arith)

pub names_stay : {Is : Term → Type 0} {old new : List Term} → Grows Is old new → (names : List Named) → AreNamesBelow (length old) names → keys_by new names ≡ keys_by old names
names_stay g [] below = refl
names_stay g (n ∷ ns) below =
    ap₂ (λ x y. x ∷ y) (ap (key_at n.place) (terms_stay g n.terms (below 0 n (omega arith)))) (names_stay g ns (λ k d l. below (suc k) d (omega arith)))

names_append : (m : ℕ) (names : List Named) (one : Named) → AreNamesBelow m names → AreBelow m one.terms → AreNamesBelow m (names ++ one ∷ [])
names_append m [] one below here zero d l = here
names_append m [] one below here (suc k) d l = absurd (omega arith)
names_append m (x ∷ xs) one below here zero d l = below 0 x (omega arith)
names_append m (x ∷ xs) one below here (suc k) d l = names_append m xs one (λ j e h. below (suc j) e (omega arith)) here k d (omega arith)

-- two names, one after the other, where the second's terms are read off the terms of the first table
pub two_named : (a b c : List Term) (one : Key) (names : List Named) (place : Place) (values : List ℕ) (ts : List Term) (numbers : List ℕ) → AreBelow (length a) values
    → AreNamed a (one ∷ []) b names → AreEntered b (grounds b values ts) c numbers
    → AreNamed a (one ∷ key_at place (grounds a values ts) ∷ []) c (names ++ record { place = place; terms = numbers } ∷ [])
two_named a b c one names place values ts numbers below first second =
    let same : grounds b values ts ≡ grounds a values ts = ap (λ x. map (ground x) ts) (terms_stay first.grows values below) in
    let other = key_at place (grounds a values ts) in
    record {
      are = map-append (key_by c) names (record { place = place; terms = numbers } ∷ [])
          ∙ ap₂ (λ x y. x ++ y ∷ []) (names_stay second.grows names first.below ∙ first.are) (ap (key_at place) (second.are ∙ same));
      below = names_append (length c) names (record { place = place; terms = numbers }) (λ k d l. below_grows second.grows (get_or names k d).terms (first.below k d l)) second.below;
      grows = grows_then (grows_as (λ t p. (p.0, first_of p.0 other p.1, p.2)) first.grows)
          (grows_as (λ t p. (other, (1, omega arith, refl), subst (λ x. IsPartOf x t) same p)) second.grows);
    }
  where
    first_of : (x other : Key) → Contains (one ∷ []) x → Contains (one ∷ other ∷ []) x
    first_of x other (zero, l, e) = (0, omega arith, e)
    first_of x other (suc k, l, e) = absurd (omega arith)

-- ---- variables

value_at : (table : List Term) (values : List ℕ) (k v : ℕ) → slice_get values k ≡ Some v → value_in (terms_by table values) k ≡ term_of table v
value_at table [] k v e = absurd (cc)
value_at table (x ∷ xs) zero v e = let same : x ≡ v = cc in ap (term_of table) same
value_at table (x ∷ xs) (suc k) v e = value_at table xs k v e

value_past : (table : List Term) (values : List ℕ) (k : ℕ) → slice_get values k ≡ None → value_in (terms_by table values) k ≡ Any
value_past table [] k e = refl
value_past table (x ∷ xs) zero e = absurd (cc)
value_past table (x ∷ xs) (suc k) e = value_past table xs k e

value_below : (m : ℕ) (values : List ℕ) (k v : ℕ) → AreBelow m values → slice_get values k ≡ Some v → v < m
value_below m [] k v below e = absurd (cc)
value_below m (x ∷ xs) zero v below e = let same : x ≡ v = cc in let l = below 0 0 (omega arith) in omega arith
value_below m (x ∷ xs) (suc k) v below e = value_below m xs k v (λ j d l. below (suc j) d (omega arith)) e

pub variable_there : (table : List Term) (values : List ℕ) (k v : ℕ) → AreBelow (length table) values → slice_get values k ≡ Some v
    → IsEntered table (ground (terms_by table values) (Var k)) table v
variable_there table values k v below e =
    entered_there table v (value_below (length table) values k v below e) (ground (terms_by table values) (Var k))
    (sym (substituted-Var (value_in (terms_by table values)) k ∙ value_at table values k v e))

pub variable_past : (table new : List Term) (values : List ℕ) (k n : ℕ) → slice_get values k ≡ None → IsEntered table Any new n
    → IsEntered table (ground (terms_by table values) (Var k)) new n
variable_past table new values k n e h =
    subst (λ t. IsEntered table t new n) (sym (substituted-Var (value_in (terms_by table values)) k ∙ value_past table values k e)) h

pub any_ground : (table new : List Term) (values : List ℕ) (n : ℕ) → IsEntered table Any new n → IsEntered table (ground (terms_by table values) Any) new n
any_ground table new values n h = subst (λ t. IsEntered table t new n) (sym (substituted-Any (value_in (terms_by table values)))) h

pub app_ground : (a b c : List Term) (values : List ℕ) (symbol : SymKey) (args : List Term) (numbers : List ℕ) (n : ℕ) → AreEntered a (grounds a values args) b numbers
    → IsEntered b (App symbol (terms_by b numbers)) c n → IsEntered a (ground (terms_by a values) (App symbol args)) c n
app_ground a b c values symbol args numbers n all here =
    subst (λ t. IsEntered a t c n) (sym (substituted-App (value_in (terms_by a values)) symbol args)) (entered_app a b c symbol (grounds a values args) numbers n all here)
