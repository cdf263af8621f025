-- What the names of files tell.
use Rattle.std.proofs.Common.{◌≡◌, ℕ, zero, suc, ◌<◌, Bool, true, false, List, [], ◌∷◌, length, Some, ap, ap₂, sym, refl, ◌∙◌, arith, bytes_eq}
use Rattle.std.specs.Prelude.{if◌then◌else◌, Contains, slice_index_or}
use Rattle.std.proofs.lemmas.Slice.Eq.{bytes_eq-Decides}
use Rattle.dk_io.specs.Memory.{File, file_named, HaveOwnNames, TellsOnly}

-- what the first file gives to a search
found : (b : Bool) (f : File) (fs : List File) (name bytes : List ℕ) → (b ≡ true → f.0 ≡ name) → (file_named fs name ≡ Some bytes → Contains fs (name, bytes)) → (if b then Some f.1 else file_named fs name) ≡ Some bytes → Contains (f ∷ fs) (name, bytes)
found true f fs name bytes here later e =
    let same : f.0 ≡ name = here refl in
    let all : f.1 ≡ bytes = cc in
    let pair : List ℕ → List ℕ → File = λ a b. (a, b) in
    (0, omega arith, ap₂ pair same all)
found false f fs name bytes here later e = let c = later e in (suc c.0, omega (arith, c.1), c.2)

passed : (b : Bool) (f : File) (fs : List File) (name bytes : List ℕ) → (b ≡ true → ⊥) → file_named fs name ≡ Some bytes → (if b then Some f.1 else file_named fs name) ≡ Some bytes
passed true f fs name bytes other e = absurd (other refl)
passed false f fs name bytes other e = e

-- a search answers one of the files
file_named-Contains : (files : List File) (name bytes : List ℕ) → file_named files name ≡ Some bytes → Contains files (name, bytes)
file_named-Contains [] name bytes e = cc
file_named-Contains (f ∷ fs) name bytes e = found (bytes_eq f.0 name) f fs name bytes (bytes_eq-Decides f.0 name).0 (file_named-Contains fs name bytes) e

-- a search answers any of the files, where no other has its name
Contains-file_named : (files : List File) (name bytes : List ℕ) (k : ℕ) → HaveOwnNames files → k < length files → slice_index_or files k (name, bytes) ≡ (name, bytes) → file_named files name ≡ Some bytes
Contains-file_named [] name bytes k own within at = absurd (omega arith)
Contains-file_named (f ∷ fs) name bytes zero own within at =
    let e : bytes_eq f.0 name ≡ true = (bytes_eq-Decides f.0 name).1 (ap (λ (g : File). g.0) at) in
    rw e (ap (λ (g : File). Some g.1) at)
Contains-file_named (f ∷ fs) name bytes (suc k) own within at =
    passed (bytes_eq f.0 name) f fs name bytes
    (λ t. own 0 (suc k) (name, bytes) (omega arith) within ((bytes_eq-Decides f.0 name).0 t ∙ sym (ap (λ (g : File). g.0) at)))
    (Contains-file_named fs name bytes k (λ i j d before below. own (suc i) (suc j) d (omega arith) (omega arith)) (omega arith) at)

pub tells_only : (files : List File) → HaveOwnNames files → TellsOnly (Some (file_named files)) files
tells_only files own = λ name bytes. (file_named-Contains files name bytes, λ c. Contains-file_named files name bytes c.0 own c.1 c.2)
