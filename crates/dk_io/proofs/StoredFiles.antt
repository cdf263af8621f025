-- Files in memory, by name and by place.
use Rattle.std.proofs.Common.{◌≡◌, ℕ, zero, suc, ◌+◌, ◌<◌, List, [], ◌∷◌, ◌++◌, length, get_or, take, drop, map, Some, true, bytes_eq, string_bytes, sym, ◌∙◌, ap, arith, refl}
use Rattle.std.proofs.lemmas.List.{take-append-drop, take_at}
use Rattle.std.proofs.Math.Seq.{drop-drop}
use Rattle.dk_io.specs.Memory.{StoredFile, file_named, file_of, bytes_at}

-- a search that has come to a file of the name
pub named_here : (files : List StoredFile) (name : List ℕ) (i : ℕ) (file : StoredFile) → i < length files → file ≡ get_or files i file → bytes_eq (string_bytes file.0) name ≡ true → file_named (map file_of (drop i files)) name ≡ Some (bytes_at files i)
named_here [] name i file within is same = absurd (omega arith)
named_here (f ∷ files) name zero file within is same = let e : bytes_eq (string_bytes f.0) name ≡ true = rw (← is) same in rw e refl
named_here (f ∷ files) name (suc i) file within is same = named_here files name i file (omega arith) is same

-- what a prefix that was copied leaves
pub moved : (file : List ℕ) (at n : ℕ) (front rest : List ℕ) → front ≡ take n (drop at file) → length front ≡ n → drop at file ≡ take n (front ++ rest) ++ drop (at + n) file
moved file at n front rest is long = rw (take_at front rest n long, is) (sym (take-append-drop n (drop at file)) ∙ ap (λ t. take n (drop at file) ++ t) (drop-drop n at file))
