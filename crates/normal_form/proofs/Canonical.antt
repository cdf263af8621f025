-- Forms that are shuffled have one sorted form, whatever their numbers.
use Rattle.std.proofs.Common.{◌≡◌, Bool, true, false, List, [], ◌∷◌, ◌++◌, map, cond, refl, sym, ap, ap₂, ◌∙◌, append_assoc}
use Rattle.normal_form.specs.Forms.{Form}
use Rattle.normal_form.specs.Forms as form
use Rattle.normal_form.specs.Sorting.{Numbered, yes, no, lit, and, or, all, ex, bare, conjuncts, disjuncts, form_order, in_order, inserted, is_after, nested, nested_all, sorted}
use Rattle.normal_form.proofs.Chains.{append_some, glue, glue_all, members_sorted, Single, single_append}
use Rattle.normal_form.proofs.Shuffles.{Shuffled, SortingIsCanonical, stay, chain, swap_and, turn_and, in_and, swap_or, turn_or, in_or, in_all, in_ex}
use Rattle.normal_form.proofs.Sorts.{all_in, IsExact, put_in, sort_first, sort_second, sort_swap}

-- ---- the order and the sort of forms without numbers

abbrev pub after : Form → Form → Bool
after a b = is_after (form_order a b)

abbrev and_members : Form → List Form
and_members (form.and a b) = and_members a ++ and_members b
and_members a = a ∷ []

abbrev or_members : Form → List Form
or_members (form.or a b) = or_members a ++ or_members b
or_members a = a ∷ []

abbrev tidied : Form → Form
tidied form.yes = form.yes
tidied form.no = form.no
tidied (form.lit l) = form.lit l
tidied (form.and a b) = glue_all form.and form.yes (all_in after (and_members (tidied a) ++ and_members (tidied b)) [])
tidied (form.or a b) = glue_all form.or form.yes (all_in after (or_members (tidied a) ++ or_members (tidied b)) [])
tidied (form.all a) = form.all (tidied a)
tidied (form.ex a) = form.ex (tidied a)

bare_append : (l m : List Numbered) → map bare (l ++ m) ≡ map bare l ++ map bare m
bare_append [] m = refl
bare_append (a ∷ l) m = ap (λ k. bare a ∷ k) (bare_append l m)

bare_inserted : (a : Numbered) (l : List Numbered) → map bare (inserted a l) ≡ put_in after (bare a) (map bare l)
bare_inserted a [] = refl
bare_inserted a (b ∷ l) = by_test (after (bare a) (bare b)) (bare_inserted a l)
  where
    by_test : (t : Bool) → map bare (inserted a l) ≡ put_in after (bare a) (map bare l) → map bare (cond t (b ∷ inserted a l) (a ∷ b ∷ l)) ≡ cond t (bare b ∷ put_in after (bare a) (map bare l)) (bare a ∷ bare b ∷ map bare l)
    by_test true h = ap (λ k. bare b ∷ k) h
    by_test false h = refl

bare_order : (l : List Numbered) → map bare (in_order l) ≡ all_in after (map bare l) []
bare_order [] = refl
bare_order (a ∷ l) = bare_inserted a (in_order l) ∙ ap (put_in after (bare a)) (bare_order l)

bare_conjuncts : (a : Numbered) → map bare (conjuncts a) ≡ and_members (bare a)
bare_conjuncts (and a b) = bare_append (conjuncts a) (conjuncts b) ∙ ap₂ (λ l m. l ++ m) (bare_conjuncts a) (bare_conjuncts b)
bare_conjuncts a = refl

bare_disjuncts : (a : Numbered) → map bare (disjuncts a) ≡ or_members (bare a)
bare_disjuncts (or a b) = bare_append (disjuncts a) (disjuncts b) ∙ ap₂ (λ l m. l ++ m) (bare_disjuncts a) (bare_disjuncts b)
bare_disjuncts a = refl

module _ (join : Numbered → Numbered → Numbered) (plain_join : Form → Form → Form) (h : (a b : Numbered) → bare (join a b) ≡ plain_join (bare a) (bare b)) where
  bare_nested : (a : Numbered) (l : List Numbered) → bare (nested join a l) ≡ glue plain_join (bare a) (map bare l)
  bare_nested a [] = refl
  bare_nested a (b ∷ l) = bare_nested (join a b) l ∙ ap (λ x. glue plain_join x (map bare l)) (h a b)

  bare_nested_all : (l : List Numbered) → bare (nested_all join l) ≡ glue_all plain_join form.yes (map bare l)
  bare_nested_all [] = refl
  bare_nested_all (a ∷ l) = bare_nested a l

bare_sorted : (a : Numbered) → bare (sorted a) ≡ tidied (bare a)
bare_sorted yes = refl
bare_sorted no = refl
bare_sorted (lit l) = refl
bare_sorted (and a b) =
    bare_nested_all and form.and (λ x y. refl) (in_order (conjuncts (sorted a) ++ conjuncts (sorted b)))
    ∙ ap (glue_all form.and form.yes) (bare_order (conjuncts (sorted a) ++ conjuncts (sorted b))
    ∙ ap (λ l. all_in after l []) (bare_append (conjuncts (sorted a)) (conjuncts (sorted b))
    ∙ ap₂ (λ l m. l ++ m) (bare_conjuncts (sorted a) ∙ ap and_members (bare_sorted a)) (bare_conjuncts (sorted b) ∙ ap and_members (bare_sorted b))))
bare_sorted (or a b) =
    bare_nested_all or form.or (λ x y. refl) (in_order (disjuncts (sorted a) ++ disjuncts (sorted b)))
    ∙ ap (glue_all form.or form.yes) (bare_order (disjuncts (sorted a) ++ disjuncts (sorted b))
    ∙ ap (λ l. all_in after l []) (bare_append (disjuncts (sorted a)) (disjuncts (sorted b))
    ∙ ap₂ (λ l m. l ++ m) (bare_disjuncts (sorted a) ∙ ap or_members (bare_sorted a)) (bare_disjuncts (sorted b) ∙ ap or_members (bare_sorted b))))
bare_sorted (all u a) = ap form.all (bare_sorted a)
bare_sorted (ex e a) = ap form.ex (bare_sorted a)

-- ---- members of a sorted chain

and_some : (a : Form) → and_members a ≡ [] → ⊥
and_some (form.and a b) = append_some (and_members a) (and_members b) (and_some a)
and_some a = λ h. cc

or_some : (a : Form) → or_members a ≡ [] → ⊥
or_some (form.or a b) = append_some (or_members a) (or_members b) (or_some a)
or_some a = λ h. cc

and_single : (a : Form) → Single after and_members (and_members a)
and_single (form.and a b) = single_append after and_members (and_members a) (and_members b) (and_single a) (and_single b)
and_single a = (refl, tt)

or_single : (a : Form) → Single after or_members (or_members a)
or_single (form.or a b) = single_append after or_members (or_members a) (or_members b) (or_single a) (or_single b)
or_single a = (refl, tt)

and_tidied : (a b : Form) → and_members (tidied (form.and a b)) ≡ all_in after (and_members (tidied a) ++ and_members (tidied b)) []
and_tidied a b =
    members_sorted after and_members form.and form.yes (λ x y. refl) (and_members (tidied a) ++ and_members (tidied b)) (append_some (and_members (tidied a)) (and_members (tidied b)) (and_some (tidied a)))
    (single_append after and_members (and_members (tidied a)) (and_members (tidied b)) (and_single (tidied a)) (and_single (tidied b)))

or_tidied : (a b : Form) → or_members (tidied (form.or a b)) ≡ all_in after (or_members (tidied a) ++ or_members (tidied b)) []
or_tidied a b =
    members_sorted after or_members form.or form.yes (λ x y. refl) (or_members (tidied a) ++ or_members (tidied b)) (append_some (or_members (tidied a)) (or_members (tidied b)) (or_some (tidied a)))
    (single_append after or_members (or_members (tidied a)) (or_members (tidied b)) (or_single (tidied a)) (or_single (tidied b)))

module _ (exact : IsExact after) where
  turned : (l k m : List Form) → all_in after (all_in after (l ++ k) [] ++ m) [] ≡ all_in after (l ++ all_in after (k ++ m) []) []
  turned l k m = sort_first after exact (l ++ k) m ∙ ap (λ x. all_in after x []) (append_assoc l k m) ∙ sym (sort_second after exact l (k ++ m))

  tidied_shuffled : {a b : Numbered} → Shuffled a b → tidied (bare a) ≡ tidied (bare b)
  tidied_shuffled (stay a) = refl
  tidied_shuffled (chain a b c p q) = tidied_shuffled p ∙ tidied_shuffled q
  tidied_shuffled (swap_and a b) = ap (glue_all form.and form.yes) (sort_swap after exact (and_members (tidied (bare a))) (and_members (tidied (bare b))))
  tidied_shuffled (turn_and a b c) =
      ap (glue_all form.and form.yes) (ap (λ l. all_in after (l ++ and_members (tidied (bare c))) []) (and_tidied (bare a) (bare b))
      ∙ turned (and_members (tidied (bare a))) (and_members (tidied (bare b))) (and_members (tidied (bare c)))
      ∙ ap (λ l. all_in after (and_members (tidied (bare a)) ++ l) []) (sym (and_tidied (bare b) (bare c))))
  tidied_shuffled (in_and a b c d p q) = ap₂ (λ x y. glue_all form.and form.yes (all_in after (and_members x ++ and_members y) [])) (tidied_shuffled p) (tidied_shuffled q)
  tidied_shuffled (swap_or a b) = ap (glue_all form.or form.yes) (sort_swap after exact (or_members (tidied (bare a))) (or_members (tidied (bare b))))
  tidied_shuffled (turn_or a b c) =
      ap (glue_all form.or form.yes) (ap (λ l. all_in after (l ++ or_members (tidied (bare c))) []) (or_tidied (bare a) (bare b))
      ∙ turned (or_members (tidied (bare a))) (or_members (tidied (bare b))) (or_members (tidied (bare c)))
      ∙ ap (λ l. all_in after (or_members (tidied (bare a)) ++ l) []) (sym (or_tidied (bare b) (bare c))))
  tidied_shuffled (in_or a b c d p q) = ap₂ (λ x y. glue_all form.or form.yes (all_in after (or_members x ++ or_members y) [])) (tidied_shuffled p) (tidied_shuffled q)
  tidied_shuffled (in_all u a b p) = ap form.all (tidied_shuffled p)
  tidied_shuffled (in_ex e a b p) = ap form.ex (tidied_shuffled p)

  -- where the order of forms is exact, sorting is canonical
  pub sorting_is_canonical : SortingIsCanonical
  sorting_is_canonical = (λ a b h. bare_sorted a ∙ ap tidied h ∙ sym (bare_sorted b), λ a b h. bare_sorted a ∙ tidied_shuffled h ∙ sym (bare_sorted b))
