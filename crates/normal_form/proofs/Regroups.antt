-- Sorted forms are one exactly where the forms differ by order and grouping alone.
use Rattle.std.proofs.Common.{◌≡◌, refl, sym, ap, ap₂, ◌∙◌, subst}
use Rattle.normal_form.specs.declared.form.Nf.{Nf}
use Rattle.normal_form.proofs.Orders.{canonical}
use Rattle.normal_form.proofs.FormLaws.{bare_numbered, tree_is_form}
use Rattle.normal_form.proofs.Shuffles.{back, Shuffled, sorted_shuffled}
use Rattle.normal_form.proofs.Shuffles as by
use Rattle.normal_form.specs.Forms.{Form, form_of, nf_of}
use Rattle.normal_form.specs.Forms as form
use Rattle.normal_form.specs.Laws.{SortingIsDone, SortingIsExact}
use Rattle.normal_form.specs.Sorting.{bare, Numbered, numbered_from, Regrouped, SameSorted, sorted, sorted_form}
use Rattle.normal_form.specs.Sorting as s

regrouped : {a b : Numbered} → Shuffled a b → Regrouped (bare a) (bare b)
regrouped (by.stay a) = s.stay (bare a)
regrouped (by.chain a b c p q) = s.chain (bare a) (bare b) (bare c) (regrouped p) (regrouped q)
regrouped (by.swap_and a b) = s.swap_and (bare a) (bare b)
regrouped (by.turn_and a b c) = s.turn_and (bare a) (bare b) (bare c)
regrouped (by.in_and a b c d p q) = s.in_and (bare a) (bare b) (bare c) (bare d) (regrouped p) (regrouped q)
regrouped (by.swap_or a b) = s.swap_or (bare a) (bare b)
regrouped (by.turn_or a b c) = s.turn_or (bare a) (bare b) (bare c)
regrouped (by.in_or a b c d p q) = s.in_or (bare a) (bare b) (bare c) (bare d) (regrouped p) (regrouped q)
regrouped (by.in_all u a b p) = s.in_all (bare a) (bare b) (regrouped p)
regrouped (by.in_ex e a b p) = s.in_ex (bare a) (bare b) (regrouped p)

-- the form with 0 at each quantifier
abbrev zeros : Form → Numbered
zeros form.yes = s.yes
zeros form.no = s.no
zeros (form.lit l) = s.lit l
zeros (form.and a b) = s.and (zeros a) (zeros b)
zeros (form.or a b) = s.or (zeros a) (zeros b)
zeros (form.all a) = s.all 0 (zeros a)
zeros (form.ex a) = s.ex 0 (zeros a)

bare_zeros : (a : Form) → bare (zeros a) ≡ a
bare_zeros form.yes = refl
bare_zeros form.no = refl
bare_zeros (form.lit l) = refl
bare_zeros (form.and a b) = ap₂ form.and (bare_zeros a) (bare_zeros b)
bare_zeros (form.or a b) = ap₂ form.or (bare_zeros a) (bare_zeros b)
bare_zeros (form.all a) = ap form.all (bare_zeros a)
bare_zeros (form.ex a) = ap form.ex (bare_zeros a)

shuffled : {a b : Form} → Regrouped a b → Shuffled (zeros a) (zeros b)
shuffled (s.stay a) = by.stay (zeros a)
shuffled (s.chain a b c p q) = by.chain (zeros a) (zeros b) (zeros c) (shuffled p) (shuffled q)
shuffled (s.swap_and a b) = by.swap_and (zeros a) (zeros b)
shuffled (s.turn_and a b c) = by.turn_and (zeros a) (zeros b) (zeros c)
shuffled (s.in_and a b c d p q) = by.in_and (zeros a) (zeros b) (zeros c) (zeros d) (shuffled p) (shuffled q)
shuffled (s.swap_or a b) = by.swap_or (zeros a) (zeros b)
shuffled (s.turn_or a b c) = by.turn_or (zeros a) (zeros b) (zeros c)
shuffled (s.in_or a b c d p q) = by.in_or (zeros a) (zeros b) (zeros c) (zeros d) (shuffled p) (shuffled q)
shuffled (s.in_all a b p) = by.in_all 0 (zeros a) (zeros b) (shuffled p)
shuffled (s.in_ex a b p) = by.in_ex 0 (zeros a) (zeros b) (shuffled p)

abbrev start : Nf → Numbered
start n = numbered_from 0 0 (form_of n)

bare_start : (n : Nf) → bare (start n) ≡ form_of n
bare_start n = bare_numbered 0 0 (form_of n)

to_sorted : (n : Nf) → Regrouped (form_of n) (bare (sorted_form n))
to_sorted n = subst (λ x. Regrouped x (bare (sorted_form n))) (bare_start n) (regrouped (back (sorted_shuffled (start n))))

from_sorted : (n : Nf) → Regrouped (bare (sorted_form n)) (form_of n)
from_sorted n = subst (λ x. Regrouped (bare (sorted_form n)) x) (bare_start n) (regrouped (sorted_shuffled (start n)))

pub sorting_is_exact : SortingIsExact
sorting_is_exact n r = (there, here)
  where
    there : SameSorted n r → Regrouped (form_of n) (form_of r)
    there h = s.chain (form_of n) (bare (sorted_form n)) (form_of r) (to_sorted n) (subst (λ x. Regrouped x (form_of r)) (sym h) (from_sorted r))

    here : Regrouped (form_of n) (form_of r) → SameSorted n r
    here h =
        canonical.0 (start n) (zeros (form_of n)) (bare_start n ∙ sym (bare_zeros (form_of n)))
        ∙ canonical.1 (zeros (form_of n)) (zeros (form_of r)) (shuffled h)
        ∙ canonical.0 (zeros (form_of r)) (start r) (bare_zeros (form_of r) ∙ sym (bare_start r))

pub sorting_is_done : SortingIsDone
sorting_is_done n =
    (sorting_is_exact (nf_of (bare (sorted_form n))) n).1 (subst (λ x. Regrouped x (form_of n)) (sym (tree_is_form (bare (sorted_form n)))) (from_sorted n))
