-- Terms put in a table, one after another.
use Rattle.std.proofs.Common.{◌≡◌, ℕ, ◌+◌, ◌<◌, ◌≤◌, List, [], ◌∷◌, ◌++◌, get_or, length, map, take, refl, sym, ap, ap₂, subst, ◌∙◌, ⊎_elim, arith, append-nil, append_assoc, length-append}
use Rattle.std.specs.List.{All, Contains, flat_map}
use Rattle.std.proofs.lemmas.List.{flat_map_more, get_or_append_left, map_push, take_all, take_more}
use Rattle.std.proofs.lemmas.List.Elements.{All-head, All-nil, All-push, All-tail, All-weaker, Contains-append_cases, Contains-append_left, Contains-append_right, Contains-push_cases}
use Rattle.dk_syntax.proofs.TermTableLaws.{numbered_here, numbered_within}
use Rattle.dk_syntax.specs.TermTables.{IsNumbered, term_of}
use Rattle.dk_syntax.specs.declared.SymKey.{SymKey}
use Rattle.dk_syntax.specs.declared.Term.{Any, App, Term, Var}
use Rattle.skolem_order.proofs.GroundLaws.{grounded-Any, grounded-App, grounded-Var}
use Rattle.skolem_order.proofs.ListFacts.{contains_cases, contains_first, contains_map, contains_same, none_in_nil}
use Rattle.skolem_order.proofs.PartLaws.{contains_at, part_trans}
use Rattle.skolem_order.specs.Order.{IsPart, in_argument, itself}
use Rattle.skolem_order.specs.Tables.{AreEntered, AreNumbers, HasEntered, IsEntered, grounded}

pub entered_none : (table : List Term) → HasEntered table [] table
entered_none table = record {
  added = [];
  grown = sym (append-nil table);
  all = λ t c. absurd (none_in_nil t c);
  only = λ s c. absurd (none_in_nil s c);
}

pub entered_stays : (old terms new : List Term) → HasEntered old terms new → (t : Term) → Contains old t → Contains new t
entered_stays old terms new h t c = contains_same (old ++ h.added) new t (sym h.grown) (Contains-append_left old h.added t c)

pub entered_same_at : (old terms new : List Term) → HasEntered old terms new → (k : ℕ) → k < length old → term_of new k ≡ term_of old k
entered_same_at old terms new h k less = ap (λ (l : List Term). term_of l k) h.grown ∙ get_or_append_left old h.added Any k less

pub entered_longer : (old terms new : List Term) → HasEntered old terms new → length old ≤ length new
entered_longer old terms new h =
    let e : length new ≡ length old + length h.added = ap length h.grown ∙ length-append old h.added in omega (arith, e)

pub entered_both : (old mid new ts us : List Term) → HasEntered old ts mid → HasEntered mid us new → HasEntered old (ts ++ us) new
entered_both old mid new ts us x y = record {
  added = x.added ++ y.added;
  grown = y.grown ∙ ap (λ l. l ++ y.added) x.grown ∙ append_assoc old x.added y.added;
  all = λ t c. ⊎_elim (λ l. entered_stays mid us new y (grounded t) (x.all t l)) (λ r. y.all t r) (Contains-append_cases ts us t c);
  only = λ s c.
      ⊎_elim (λ l. let w = x.only s l in (w.0, Contains-append_left ts us w.0 w.1, w.2))
      (λ r. let w = y.only s r in (w.0, Contains-append_right ts us w.0 w.1, w.2)) (Contains-append_cases x.added y.added s c);
}

only_one : (t u : Term) → Contains (t ∷ []) u → t ≡ u
only_one t u c = ⊎_elim (λ e. e) (λ r. absurd (none_in_nil u r)) (contains_cases t [] u c)

-- a term whose parts are there is put in
entered_number : (old mid new ts : List Term) (t : Term) (n : ℕ) → HasEntered old ts mid → ((a : Term) → Contains ts a → IsPart (grounded a) (grounded t))
    → IsNumbered mid (grounded t) new n → HasEntered old (t ∷ []) new
entered_number old mid new ts t n x parts numbered = ⊎_elim (λ e. same e) (λ e. more e) numbered
  where
    here : Contains new (grounded t)
    here = contains_at new n (grounded t) (numbered_within mid new (grounded t) n numbered) (numbered_here mid new (grounded t) n numbered)

    all : (u : Term) → Contains (t ∷ []) u → Contains new (grounded u)
    all u c = subst (λ z. Contains new (grounded z)) (only_one t u c) here

    before : (s : Term) → Contains x.added s → (u : Term) × Contains (t ∷ []) u × IsPart s (grounded u)
    before s c = let w = x.only s c in (t, contains_first t [], part_trans w.2 (parts w.0 w.1))

    same : (new ≡ mid) × (n < length mid) × (term_of mid n ≡ grounded t) → HasEntered old (t ∷ []) new
    same e = record { added = x.added; grown = e.0 ∙ x.grown; all = all; only = before }

    more : (¬ Contains mid (grounded t)) × (new ≡ mid ++ grounded t ∷ []) × (n ≡ length mid) → HasEntered old (t ∷ []) new
    more e = record {
      added = x.added ++ grounded t ∷ [];
      grown = e.1 ∙ ap (λ l. l ++ grounded t ∷ []) x.grown ∙ append_assoc old x.added (grounded t ∷ []);
      all = all;
      only = λ s c. ⊎_elim (λ l. before s l) (λ q. (t, contains_first t [], subst (λ z. IsPart z (grounded t)) q itself)) (Contains-push_cases x.added (grounded t) s c);
    }

number_there : (old mid new ts : List Term) (t : Term) (n : ℕ) → HasEntered old ts mid → ((a : Term) → Contains ts a → IsPart (grounded a) (grounded t))
    → IsNumbered mid (grounded t) new n → IsEntered old t new n
number_there old mid new ts t n x parts numbered =
    (entered_number old mid new ts t n x parts numbered, numbered_within mid new (grounded t) n numbered, numbered_here mid new (grounded t) n numbered)

plain_App : (old mid new : List Term) (f : SymKey) (args : List Term) (numbers : List ℕ) (n : ℕ) → HasEntered old args mid → AreNumbers mid (map grounded args) numbers
    → IsNumbered mid (App f (map (term_of mid) numbers)) new n → IsEntered old (App f args) new n
plain_App old mid new f args numbers n x are numbered =
    let e : grounded (App f args) ≡ App f (map (term_of mid) numbers) = grounded-App f args ∙ ap (App f) (sym are.are) in
    number_there old mid new args (App f args) n x
    (λ a c. subst (IsPart (grounded a)) (sym (grounded-App f args)) (in_argument f (map grounded args) (grounded a) (contains_map grounded args a c) itself))
    (subst (λ g. IsNumbered mid g new n) (sym e) numbered)

pub entered_App : (old mid new : List Term) (f : SymKey) (args zs : List Term) (t : Term) (numbers : List ℕ) (n : ℕ) → t ≡ App f args → zs ≡ args → AreEntered old zs mid numbers
    → IsNumbered mid (App f (map (term_of mid) numbers)) new n → IsEntered old t new n
entered_App old mid new f args zs t numbers n te ze entered numbered =
    subst (λ u. IsEntered old u new n) (sym te) (plain_App old mid new f args numbers n (subst (λ l. HasEntered old l mid) ze entered.0) (subst (λ l. AreNumbers mid (map grounded l) numbers) ze entered.1) numbered)

plain_Any : (old new : List Term) (t : Term) (n : ℕ) → grounded t ≡ Any → IsNumbered old Any new n → IsEntered old t new n
plain_Any old new t n e numbered =
    number_there old old new [] t n (entered_none old) (λ a c. absurd (none_in_nil a c)) (subst (λ g. IsNumbered old g new n) (sym e) numbered)

pub entered_Var : (old new : List Term) (k : ℕ) (t : Term) (n : ℕ) → t ≡ Var k → IsNumbered old Any new n → IsEntered old t new n
entered_Var old new k t n e numbered = plain_Any old new t n (ap grounded e ∙ grounded-Var k) numbered

pub entered_Any : (old new : List Term) (t : Term) (n : ℕ) → t ≡ Any → IsNumbered old Any new n → IsEntered old t new n
entered_Any old new t n e numbered = plain_Any old new t n (ap grounded e ∙ grounded-Any) numbered

-- ---- terms of a list, one by one

same_reads : (old terms new : List Term) → HasEntered old terms new → (numbers : List ℕ) → All (λ k. k < length old) numbers → map (term_of new) numbers ≡ map (term_of old) numbers
same_reads old terms new h [] a = refl
same_reads old terms new h (k ∷ numbers) a =
    ap₂ (λ t ts. t ∷ ts) (entered_same_at old terms new h k (All-head (λ j. j < length old) k numbers a))
    (same_reads old terms new h numbers (All-tail (λ j. j < length old) k numbers a))

numbers_none : (table : List Term) → AreNumbers table (map grounded []) []
numbers_none table = record { within = All-nil (λ n. n < length table); are = refl }

pub none_are : (table : List Term) → AreEntered table [] table []
none_are table = (entered_none table, numbers_none table)

enters_push : (old mid new ts : List Term) (t : Term) (numbers : List ℕ) (n : ℕ) → AreEntered old ts mid numbers → HasEntered mid (t ∷ []) new → n < length new → term_of new n ≡ grounded t
    → AreEntered old (ts ++ t ∷ []) new (numbers ++ n ∷ [])
enters_push old mid new ts t numbers n x y within there = (
  entered_both old mid new ts (t ∷ []) x.0 y,
  record {
    within = All-push (λ k. k < length new) numbers n
        (All-weaker (λ k. k < length mid) (λ k. k < length new) (λ k h. let l = entered_longer mid (t ∷ []) new y in omega (arith, h, l)) numbers x.1.within) within;
    are = map_push (term_of new) numbers n
        ∙ ap₂ (λ us u. us ++ u ∷ []) (same_reads mid (t ∷ []) new y numbers x.1.within ∙ x.1.are) there
        ∙ sym (map_push grounded ts t);
  },
)

pub enters_more : (old mid new terms : List Term) (i : ℕ) (t : Term) (numbers : List ℕ) (n : ℕ) → i < length terms → t ≡ get_or terms i t → AreEntered old (take i terms) mid numbers
    → IsEntered mid t new n → AreEntered old (take (i + 1) terms) new (numbers ++ n ∷ [])
enters_more old mid new terms i t numbers n h is x y =
    subst (λ l. AreEntered old l new (numbers ++ n ∷ [])) (sym (take_more terms i t h ∙ ap (λ u. take i terms ++ u ∷ []) (sym is)))
    (enters_push old mid new (take i terms) t numbers n x y.0 y.1 y.2)

-- ---- the terms of each item of a list

pub entered_more : {X : Type 0} (f : X → List Term) (old mid new : List Term) (xs : List X) (i : ℕ) (x : X) → i < length xs → x ≡ get_or xs i x
    → HasEntered old (flat_map f (take i xs)) mid → HasEntered mid (f x) new → HasEntered old (flat_map f (take (i + 1) xs)) new
entered_more f old mid new xs i x h is before here =
    subst (λ l. HasEntered old (flat_map f l) new) (sym (take_more xs i x h ∙ ap (λ u. take i xs ++ u ∷ []) (sym is)))
    (subst (λ l. HasEntered old l new) (flat_map_more f [] (take i xs) x) (entered_both old mid new (flat_map f (take i xs)) (f x) before here))

-- ---- as the code has them

pub entered_two : (old mid new ts us zs ws : List Term) (numbers others : List ℕ) → zs ≡ ts → ws ≡ us → AreEntered old zs mid numbers → AreEntered mid ws new others → HasEntered old (ts ++ us) new
entered_two old mid new ts us zs ws numbers others e h x y =
    entered_both old mid new ts us (subst (λ l. HasEntered old l mid) e x.0) (subst (λ l. HasEntered mid l new) h y.0)

pub entered_at : {X : Type 0} (f : X → List Term) (old mid new : List Term) (xs : List X) (i : ℕ) (x : X) (zs : List Term) → zs ≡ f x → i < length xs → x ≡ get_or xs i x
    → HasEntered old (flat_map f (take i xs)) mid → HasEntered mid zs new → HasEntered old (flat_map f (take (i + 1) xs)) new
entered_at f old mid new xs i x zs e h is before here = entered_more f old mid new xs i x h is before (subst (λ l. HasEntered mid l new) e here)

pub entered_whole : {X : Type 0} (f : X → List Term) (old new : List Term) (xs : List X) (i : ℕ) → length xs ≤ i → HasEntered old (flat_map f (take i xs)) new → HasEntered old (flat_map f xs) new
entered_whole f old new xs i h x = subst (λ l. HasEntered old (flat_map f l) new) (take_all i xs h) x

pub entered_as : (old new zs ts : List Term) (numbers : List ℕ) → zs ≡ ts → AreEntered old zs new numbers → HasEntered old ts new
entered_as old new zs ts numbers e x = subst (λ l. HasEntered old l new) e x.0

pub all_are : (old new terms : List Term) (numbers : List ℕ) (i : ℕ) → length terms ≤ i → AreEntered old (take i terms) new numbers → AreEntered old terms new numbers
all_are old new terms numbers i h x = subst (λ l. AreEntered old l new numbers) (take_all i terms h) x
