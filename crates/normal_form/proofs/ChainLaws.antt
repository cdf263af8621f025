-- Chains of numbered forms.
use Rattle.std.proofs.Common.{◌≡◌, Bool, true, false, List, [], ◌∷◌, ◌++◌, map, cond, Option, Some, None, refl, sym, ap, ap₂, ◌∙◌}
use Rattle.std.proofs.lemmas.List.Sorted.{ranks_by}
use Rattle.std.specs.Cmp.{IsStrictWeakOrder}
use Rattle.std.specs.List.Sorted.{IsSortedBy, IsStableBy}
use Rattle.std.specs.Ordering.{is_lt, ordering_reverse}
use Rattle.std.specs.declared.cmp.Ordering.{Ordering}
use Rattle.std.specs.declared.cmp.Ordering.TheVariants.{Equal, Greater, Less}
use Rattle.normal_form.proofs.Chains.{append_some, glue, glue_all, members_sorted, Single, single_append}
use Rattle.normal_form.proofs.Orders.{form_total}
use Rattle.normal_form.proofs.Sorts.{all_in, put_in}
use Rattle.normal_form.proofs.Steps.{work_steps}
use Rattle.normal_form.proofs.StableSorts.{sort_append, sort_twice, stable_sort}
use Rattle.normal_form.specs.Forms.{Form}
use Rattle.normal_form.specs.Sorting.{Numbered, all, and, bare, conjuncts, disjuncts, ex, form_order, in_order, inserted, is_after, lit, nested, nested_all, no, or, sorted, yes}
use Rattle.normal_form.specs.Works.{bare_of, extended, join_of, numbered_of, sorted_members}
use Rattle.normal_form.specs.declared.work.Work.{Work}

-- what is made of the works so far, which is nothing where there are none
abbrev pub IsNestedOf : Bool → Option Work → List Work → Type 0
IsNestedOf both None l = l ≡ []
IsNestedOf both (Some form) l =
    (first : Work) × (rest : List Work) × (l ≡ first ∷ rest) × (numbered_of form ≡ nested (join_of both) (numbered_of first) (map numbered_of rest))

nested_more : (join : Numbered → Numbered → Numbered) (a b : Numbered) (l : List Numbered) → nested join a (l ++ b ∷ []) ≡ join (nested join a l) b
nested_more join a b [] = refl
nested_more join a b (c ∷ l) = nested_more join (join a c) b l

map_last : (l : List Work) (x : Work) → map numbered_of (l ++ x ∷ []) ≡ map numbered_of l ++ numbered_of x ∷ []
map_last [] x = refl
map_last (y ∷ l) x = ap (λ k. numbered_of y ∷ k) (map_last l x)

pub one_more : (both : Bool) (form : Option Work) (l : List Work) (member new : Work) → IsNestedOf both form l → numbered_of new ≡ extended both form member
    → IsNestedOf both (Some new) (l ++ member ∷ [])
one_more both None l member new h e = (member, [], ap (λ k. k ++ member ∷ []) h, e)
one_more both (Some form) l member new h e = (
  h.0,
  h.1 ++ member ∷ [],
  ap (λ k. k ++ member ∷ []) h.2,
  e ∙ ap (λ x. join_of both x (numbered_of member)) h.3 ∙ sym (nested_more (join_of both) (numbered_of h.0) (numbered_of member) (map numbered_of h.1))
      ∙ ap (nested (join_of both) (numbered_of h.0)) (sym (map_last h.1 member)),
)

pub all_nested : (both : Bool) (form : Work) (l : List Work) → IsNestedOf both (Some form) l → numbered_of form ≡ nested_all (join_of both) (map numbered_of l)
all_nested both form l h = h.3 ∙ ap (λ k. nested_all (join_of both) (map numbered_of k)) (sym h.2)

-- ---- std's sort is the sort of the definition

reversed : (o : Ordering) → is_after (ordering_reverse o) ≡ is_lt o
reversed Less = refl
reversed Equal = refl
reversed Greater = refl

after_is : (a b : Form) → is_after (form_order a b) ≡ is_lt (form_order b a)
after_is a b = ap is_after (form_total.antisymm a b) ∙ reversed (form_order b a)

-- one work is less than another, whatever their numbers
abbrev pub less_work : Work → Work → Bool
less_work a b = is_lt (form_order (bare_of a) (bare_of b))

pub works_ranked : IsStrictWeakOrder less_work
works_ranked = ranks_by form_total bare_of

map_put : (a : Work) (l : List Work) → map numbered_of (put_in (λ x y. less_work y x) a l) ≡ inserted (numbered_of a) (map numbered_of l)
map_put a [] = refl
map_put a (b ∷ l) = by_test (less_work b a) (map_put a l) ∙ ap (λ t. cond t (numbered_of b ∷ inserted (numbered_of a) (map numbered_of l)) (numbered_of a ∷ numbered_of b ∷ map numbered_of l)) (sym (after_is (bare_of a) (bare_of b)))
  where
    by_test : (t : Bool) → map numbered_of (put_in (λ x y. less_work y x) a l) ≡ inserted (numbered_of a) (map numbered_of l)
        → map numbered_of (cond t (b ∷ put_in (λ x y. less_work y x) a l) (a ∷ b ∷ l)) ≡ cond t (numbered_of b ∷ inserted (numbered_of a) (map numbered_of l)) (numbered_of a ∷ numbered_of b ∷ map numbered_of l)
    by_test true h = ap (λ k. numbered_of b ∷ k) h
    by_test false h = refl

map_sort : (l : List Work) → map numbered_of (all_in (λ x y. less_work y x) l []) ≡ in_order (map numbered_of l)
map_sort [] = refl
map_sort (a ∷ l) = map_put a (all_in (λ x y. less_work y x) l []) ∙ ap (inserted (numbered_of a)) (map_sort l)

pub works_sorted : (l m : List Work) → IsSortedBy less_work m → IsStableBy less_work l m → map numbered_of m ≡ in_order (map numbered_of l)
works_sorted l m h w = ap (map numbered_of) (stable_sort less_work works_ranked l m h w) ∙ map_sort l

-- ---- the chain of a form that isn't sorted yet

abbrev less : Numbered → Numbered → Bool
less a b = is_lt (form_order (bare a) (bare b))

abbrev after : Numbered → Numbered → Bool
after a b = less b a

ranked : IsStrictWeakOrder less
ranked = ranks_by form_total bare

inserted_is : (a : Numbered) (l : List Numbered) → inserted a l ≡ put_in after a l
inserted_is a [] = refl
inserted_is a (b ∷ l) = ap₂ (λ t k. cond t (b ∷ k) (a ∷ b ∷ l)) (after_is (bare a) (bare b)) (inserted_is a l)

order_is : (l : List Numbered) → in_order l ≡ all_in after l []
order_is [] = refl
order_is (a ∷ l) = ap (inserted a) (order_is l) ∙ inserted_is a (all_in after l [])

order_append : (l m k n : List Numbered) → in_order l ≡ in_order k → in_order m ≡ in_order n → in_order (l ++ m) ≡ in_order (k ++ n)
order_append l m k n h w =
    order_is (l ++ m) ∙ sort_append less ranked l m k n (sym (order_is l) ∙ h ∙ order_is k) (sym (order_is m) ∙ w ∙ order_is n) ∙ sym (order_is (k ++ n))

order_twice : (l : List Numbered) → in_order (in_order l) ≡ in_order l
order_twice l = ap in_order (order_is l) ∙ order_is (all_in after l []) ∙ sort_twice less ranked l ∙ sym (order_is l)

nested_is : (join : Numbered → Numbered → Numbered) (a : Numbered) (l : List Numbered) → nested join a l ≡ glue join a l
nested_is join a [] = refl
nested_is join a (b ∷ l) = nested_is join (join a b) l

all_nested_is : (join : Numbered → Numbered → Numbered) (l : List Numbered) → nested_all join l ≡ glue_all join yes l
all_nested_is join [] = refl
all_nested_is join (a ∷ l) = nested_is join a l

-- one member at least, and two
abbrev HasOne : List Numbered → Type 0
HasOne l = (a : Numbered) × (rest : List Numbered) × (l ≡ a ∷ rest)

abbrev HasTwo : List Numbered → Type 0
HasTwo l = (a : Numbered) × (b : Numbered) × (rest : List Numbered) × (l ≡ a ∷ b ∷ rest)

one_inserted : (a : Numbered) (l : List Numbered) → HasOne (inserted a l)
one_inserted a [] = (a, [], refl)
one_inserted a (b ∷ l) = by_test (is_after (form_order (bare a) (bare b)))
  where
    by_test : (t : Bool) → HasOne (cond t (b ∷ inserted a l) (a ∷ b ∷ l))
    by_test true = (b, inserted a l, refl)
    by_test false = (a, b ∷ l, refl)

two_inserted : (a b : Numbered) (l : List Numbered) → HasTwo (inserted a (b ∷ l))
two_inserted a b l = by_test (is_after (form_order (bare a) (bare b))) (one_inserted a l)
  where
    by_test : (t : Bool) → HasOne (inserted a l) → HasTwo (cond t (b ∷ inserted a l) (a ∷ b ∷ l))
    by_test true h = (b, h.0, h.1, ap (λ k. b ∷ k) h.2)
    by_test false h = (a, b, l, refl)

two_at : (l m : List Numbered) → l ≡ m → HasTwo m → HasTwo l
two_at l m h w = (w.0, w.1, w.2, h ∙ w.3)

two_ordered : (l : List Numbered) → HasTwo l → HasTwo (in_order l)
two_ordered l h = from_rest (one_inserted h.1 (in_order h.2))
  where
    from_rest : HasOne (inserted h.1 (in_order h.2)) → HasTwo (in_order l)
    from_rest w = two_at (in_order l) (inserted h.0 (w.0 ∷ w.1)) (ap in_order h.3 ∙ ap (inserted h.0) w.2) (two_inserted h.0 w.0 w.1)

two_append : (l m : List Numbered) → HasOne l → HasOne m → HasTwo (l ++ m)
two_append l m h w = by_rest h.1 h.2
  where
    by_rest : (rest : List Numbered) → l ≡ h.0 ∷ rest → HasTwo (l ++ m)
    by_rest [] e = (h.0, w.0, w.1, ap₂ (λ x y. x ++ y) e w.2)
    by_rest (b ∷ rest) e = (h.0, b, rest ++ m, ap (λ x. x ++ m) e)

-- ---- members of a chain of And

one_conjunct : (a : Numbered) → HasOne (conjuncts a)
one_conjunct (and a b) = let h = one_conjunct a in (h.0, h.1 ++ conjuncts b, ap (λ k. k ++ conjuncts b) h.2)
one_conjunct a = (a, [], refl)

some_conjuncts : (a : Numbered) → conjuncts a ≡ [] → ⊥
some_conjuncts (and a b) = append_some (conjuncts a) (conjuncts b) (some_conjuncts a)
some_conjuncts a = λ h. cc

single_conjuncts : (a : Numbered) → Single after conjuncts (conjuncts a)
single_conjuncts (and a b) = single_append after conjuncts (conjuncts a) (conjuncts b) (single_conjuncts a) (single_conjuncts b)
single_conjuncts a = (refl, tt)

conjuncts_sorted : (a b : Numbered) → conjuncts (sorted (and a b)) ≡ in_order (conjuncts (sorted a) ++ conjuncts (sorted b))
conjuncts_sorted a b =
    ap conjuncts (all_nested_is and (in_order (conjuncts (sorted a) ++ conjuncts (sorted b)))
    ∙ ap (glue_all and yes) (order_is (conjuncts (sorted a) ++ conjuncts (sorted b))))
    ∙ members_sorted after conjuncts and yes (λ x y. refl) (conjuncts (sorted a) ++ conjuncts (sorted b))
    (append_some (conjuncts (sorted a)) (conjuncts (sorted b)) (some_conjuncts (sorted a)))
    (single_append after conjuncts (conjuncts (sorted a)) (conjuncts (sorted b)) (single_conjuncts (sorted a)) (single_conjuncts (sorted b)))
    ∙ sym (order_is (conjuncts (sorted a) ++ conjuncts (sorted b)))

-- a chain of Or is one conjunct
or_nested : (a b : Numbered) (l : List Numbered) → conjuncts (nested or (or a b) l) ≡ nested or (or a b) l ∷ []
or_nested a b [] = refl
or_nested a b (c ∷ l) = or_nested (or a b) c l

or_alone : (l : List Numbered) → HasTwo l → conjuncts (nested_all or l) ≡ nested_all or l ∷ []
or_alone l h = ap (λ k. conjuncts (nested_all or k)) h.3 ∙ or_nested h.0 h.1 h.2 ∙ ap (λ k. nested_all or k ∷ []) (sym h.3)

-- ---- members of a chain of Or

one_disjunct : (a : Numbered) → HasOne (disjuncts a)
one_disjunct (or a b) = let h = one_disjunct a in (h.0, h.1 ++ disjuncts b, ap (λ k. k ++ disjuncts b) h.2)
one_disjunct a = (a, [], refl)

some_disjuncts : (a : Numbered) → disjuncts a ≡ [] → ⊥
some_disjuncts (or a b) = append_some (disjuncts a) (disjuncts b) (some_disjuncts a)
some_disjuncts a = λ h. cc

single_disjuncts : (a : Numbered) → Single after disjuncts (disjuncts a)
single_disjuncts (or a b) = single_append after disjuncts (disjuncts a) (disjuncts b) (single_disjuncts a) (single_disjuncts b)
single_disjuncts a = (refl, tt)

disjuncts_sorted : (a b : Numbered) → disjuncts (sorted (or a b)) ≡ in_order (disjuncts (sorted a) ++ disjuncts (sorted b))
disjuncts_sorted a b =
    ap disjuncts (all_nested_is or (in_order (disjuncts (sorted a) ++ disjuncts (sorted b)))
    ∙ ap (glue_all or yes) (order_is (disjuncts (sorted a) ++ disjuncts (sorted b))))
    ∙ members_sorted after disjuncts or yes (λ x y. refl) (disjuncts (sorted a) ++ disjuncts (sorted b))
    (append_some (disjuncts (sorted a)) (disjuncts (sorted b)) (some_disjuncts (sorted a)))
    (single_append after disjuncts (disjuncts (sorted a)) (disjuncts (sorted b)) (single_disjuncts (sorted a)) (single_disjuncts (sorted b)))
    ∙ sym (order_is (disjuncts (sorted a) ++ disjuncts (sorted b)))

and_nested : (a b : Numbered) (l : List Numbered) → disjuncts (nested and (and a b) l) ≡ nested and (and a b) l ∷ []
and_nested a b [] = refl
and_nested a b (c ∷ l) = and_nested (and a b) c l

and_alone : (l : List Numbered) → HasTwo l → disjuncts (nested_all and l) ≡ nested_all and l ∷ []
and_alone l h = ap (λ k. disjuncts (nested_all and k)) h.3 ∙ and_nested h.0 h.1 h.2 ∙ ap (λ k. nested_all and k ∷ []) (sym h.3)

-- ---- a part's chain sorted before, or with the whole

same_conjuncts : (a : Numbered) → in_order (conjuncts (sorted a)) ≡ in_order (sorted_members true a)
same_conjuncts yes = refl
same_conjuncts no = refl
same_conjuncts (lit literal) = refl
same_conjuncts (and a b) =
    ap in_order (conjuncts_sorted a b) ∙ order_twice (conjuncts (sorted a) ++ conjuncts (sorted b))
    ∙ order_append (conjuncts (sorted a)) (conjuncts (sorted b)) (sorted_members true a) (sorted_members true b) (same_conjuncts a) (same_conjuncts b)
same_conjuncts (or a b) =
    ap in_order (or_alone (in_order (disjuncts (sorted a) ++ disjuncts (sorted b)))
    (two_ordered (disjuncts (sorted a) ++ disjuncts (sorted b)) (two_append (disjuncts (sorted a)) (disjuncts (sorted b)) (one_disjunct (sorted a)) (one_disjunct (sorted b)))))
same_conjuncts (all u a) = refl
same_conjuncts (ex e a) = refl

same_disjuncts : (a : Numbered) → in_order (disjuncts (sorted a)) ≡ in_order (sorted_members false a)
same_disjuncts yes = refl
same_disjuncts no = refl
same_disjuncts (lit literal) = refl
same_disjuncts (or a b) =
    ap in_order (disjuncts_sorted a b) ∙ order_twice (disjuncts (sorted a) ++ disjuncts (sorted b))
    ∙ order_append (disjuncts (sorted a)) (disjuncts (sorted b)) (sorted_members false a) (sorted_members false b) (same_disjuncts a) (same_disjuncts b)
same_disjuncts (and a b) =
    ap in_order (and_alone (in_order (conjuncts (sorted a) ++ conjuncts (sorted b)))
    (two_ordered (conjuncts (sorted a) ++ conjuncts (sorted b)) (two_append (conjuncts (sorted a)) (conjuncts (sorted b)) (one_conjunct (sorted a)) (one_conjunct (sorted b)))))
same_disjuncts (all u a) = refl
same_disjuncts (ex e a) = refl

pub chain_and : (a b : Numbered) → nested_all and (in_order (sorted_members true a ++ sorted_members true b)) ≡ sorted (and a b)
chain_and a b =
    ap (nested_all and) (order_append (sorted_members true a) (sorted_members true b) (conjuncts (sorted a)) (conjuncts (sorted b))
    (sym (same_conjuncts a)) (sym (same_conjuncts b)))

pub chain_or : (a b : Numbered) → nested_all or (in_order (sorted_members false a ++ sorted_members false b)) ≡ sorted (or a b)
chain_or a b =
    ap (nested_all or) (order_append (sorted_members false a) (sorted_members false b) (disjuncts (sorted a)) (disjuncts (sorted b))
    (sym (same_disjuncts a)) (sym (same_disjuncts b)))

pub ruleset sorting_steps = (work_steps, chain_and, chain_or)
