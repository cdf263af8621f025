-- Entries by their numbers: std's stable sort, and carried maps.
use Rattle.std.proofs.Common.{◌≡◌, ℕ, nat_lt, Bool, List, [], ◌∷◌, map, cond, refl, ap, ap₂, ◌∙◌}
use Rattle.std.proofs.lemmas.Cmp.{nat_cmp_total}
use Rattle.std.proofs.lemmas.Grind.{common_steps}
use Rattle.std.proofs.lemmas.List.Sorted.{ranks_by}
use Rattle.std.proofs.Common.{arith}
use Rattle.std.specs.Cmp.{IsStrictWeakOrder}
use Rattle.std.specs.List.Sorted.{IsSortedBy, IsStableBy}
use Rattle.std.specs.Ordering.{is_lt, nat_cmp}
use Rattle.normal_form.proofs.Sorts.{all_in, put_in}
use Rattle.normal_form.proofs.StableSorts.{stable_sort}
use Rattle.normal_form.specs.Sorting.{IsSorted, sorted_form, universals}
use Rattle.normal_form.specs.declared.form.Nf.{Nf}
use Rattle.normal_form.specs.declared.sorting.Sorted.{Sorted}
use Rattle.step_skolem.specs.Carrying.{across, by_number, carried, carried_by, placed, renumbered}
use Rattle.step_skolem.specs.declared.map.SkEntry.{SkEntry}

-- the first entry's number is smaller
abbrev pub less_entry : SkEntry → SkEntry → Bool
less_entry a b = is_lt (nat_cmp a.ex b.ex)

pub entries_ranked : IsStrictWeakOrder less_entry
entries_ranked = ranks_by nat_cmp_total (λ (e : SkEntry). e.ex)

less_is : (a b : ℕ) → is_lt (nat_cmp a b) ≡ nat_lt a b
less_is a b = grind (arith, common_steps)

put_is : (a : SkEntry) (l : List SkEntry) → put_in (λ x y. less_entry y x) a l ≡ placed a l
put_is a [] = refl
put_is a (b ∷ l) = ap₂ (λ t k. cond t (b ∷ k) (a ∷ b ∷ l)) (less_is b.ex a.ex) (put_is a l)

sort_is : (l : List SkEntry) → all_in (λ x y. less_entry y x) l [] ≡ by_number l
sort_is [] = refl
sort_is (a ∷ l) = put_is a (all_in (λ x y. less_entry y x) l []) ∙ ap (placed a) (sort_is l)

pub entries_sorted : (l m : List SkEntry) → IsSortedBy less_entry m → IsStableBy less_entry l m → m ≡ by_number l
entries_sorted l m h w = stable_sort less_entry entries_ranked l m h w ∙ sort_is l

-- the lists of two sorted forms carry the map
pub carried_by_lists : (n r : Nf) (from to : Sorted) (entries : List SkEntry) → IsSorted n from → IsSorted r to → carried_by from to entries ≡ carried n r entries
carried_by_lists n r from to entries f t =
    ap₂ (λ k l. by_number (map (renumbered (across k l) (across from.exs to.exs)) entries)) f.alls t.alls
    ∙ ap₂ (λ k l. by_number (map (renumbered (across (universals (sorted_form n)) (universals (sorted_form r))) (across k l)) entries)) f.exs t.exs
