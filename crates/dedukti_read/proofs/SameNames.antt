-- The test of the names of a rule.
use Rattle.std.proofs.Common.{◌≡◌, ℕ, true, List, refl}
use Rattle.std.proofs.lemmas.Slice.Eq.{bytes_eq-Decides, slice_eq-Decides}
use Rattle.dedukti_read.specs.Machine.{are_same}

pub same_names : (names others : List (List ℕ)) → are_same names others ≡ true → names ≡ others
same_names names others e = (slice_eq-Decides bytes_eq-Decides names others (are_same names others) refl).0 e

pub names_same : (names : List (List ℕ)) → are_same names names ≡ true
names_same names = (slice_eq-Decides bytes_eq-Decides names names (are_same names names) refl).1 refl
