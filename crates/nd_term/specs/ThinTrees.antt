-- Thin trees: path choices through a signed formula.
use Rattle.std.specs.Prelude.{ℕ, Bool, true, false, not, List, [], ◌∷◌, ◌++◌, ◌≡◌}
use Rattle.lp_term.specs.Names.{any_name}
use Rattle.lp_term.specs.Connectives.{individuals}
use Rattle.lp_term.specs.Typing.{Declaration}
use Rattle.dk_syntax.specs.Lists.{Entry}
use Rattle.nd_term.specs.Formulas.{Formula, FormulaTerm, GroundTerm, Literal, atomic, conjunction, disjunction, eigenvariable, equivalence, existential, extended, falsity, ground_by, ground_symbol, implication, literal, negation, truth, universal}
use Rattle.nd_term.specs.Symbols.{GroundOver}
use Rattle.nd_term.specs.Eigenvariables.{Eigenvariable, IsOrigin, Unused}

-- a path choice through a signed formula
pub data ThinTree : Type 0 where
  no_literal : ThinTree
  leaf : ThinTree
  below_not : ThinTree → ThinTree
  left : ThinTree → ThinTree
  right : ThinTree → ThinTree
  both : ThinTree → ThinTree → ThinTree
  choice : GroundTerm → ThinTree → ThinTree
  eigenvariable_at : ℕ → ThinTree → ThinTree
  vacuous : ThinTree → ThinTree

-- the tree passes through the signed formula under a substitution, and gives the ground clause
pub data Fits (sig : List Declaration) (es : List Eigenvariable) : Bool → Formula → (ℕ → GroundTerm) → ThinTree → List Literal → Type 0 where
  fits_atom : (b : Bool) (t : FormulaTerm) (s : ℕ → GroundTerm) → Fits sig es b (atomic t) s leaf (literal b (ground_by s t) ∷ [])
  fits_false : (s : ℕ → GroundTerm) → Fits sig es true falsity s no_literal []
  fits_true : (s : ℕ → GroundTerm) → Fits sig es false truth s no_literal []
  fits_not : (b : Bool) {f : Formula} {s : ℕ → GroundTerm} {th : ThinTree} {c : List Literal} → Fits sig es (not b) f s th c → Fits sig es b (negation f) s (below_not th) c
  fits_and_left : {f : Formula} (h : Formula) {s : ℕ → GroundTerm} {th : ThinTree} {c : List Literal} → Fits sig es true f s th c → Fits sig es true (conjunction f h) s (left th) c
  fits_and_right : (f : Formula) {h : Formula} {s : ℕ → GroundTerm} {th : ThinTree} {c : List Literal} → Fits sig es true h s th c → Fits sig es true (conjunction f h) s (right th) c
  fits_and : {f h : Formula} {s : ℕ → GroundTerm} {ta tb : ThinTree} {c d : List Literal} → Fits sig es false f s ta c → Fits sig es false h s tb d → Fits sig es false (conjunction f h) s (both ta tb) (c ++ d)
  fits_or : {f h : Formula} {s : ℕ → GroundTerm} {ta tb : ThinTree} {c d : List Literal} → Fits sig es true f s ta c → Fits sig es true h s tb d → Fits sig es true (disjunction f h) s (both ta tb) (c ++ d)
  fits_or_left : {f : Formula} (h : Formula) {s : ℕ → GroundTerm} {th : ThinTree} {c : List Literal} → Fits sig es false f s th c → Fits sig es false (disjunction f h) s (left th) c
  fits_or_right : (f : Formula) {h : Formula} {s : ℕ → GroundTerm} {th : ThinTree} {c : List Literal} → Fits sig es false h s th c → Fits sig es false (disjunction f h) s (right th) c
  fits_imp : {f h : Formula} {s : ℕ → GroundTerm} {ta tb : ThinTree} {c d : List Literal} → Fits sig es false f s ta c → Fits sig es true h s tb d → Fits sig es true (implication f h) s (both ta tb) (c ++ d)
  fits_imp_left : {f : Formula} (h : Formula) {s : ℕ → GroundTerm} {th : ThinTree} {c : List Literal} → Fits sig es true f s th c → Fits sig es false (implication f h) s (left th) c
  fits_imp_right : (f : Formula) {h : Formula} {s : ℕ → GroundTerm} {th : ThinTree} {c : List Literal} → Fits sig es false h s th c → Fits sig es false (implication f h) s (right th) c
  fits_iff_left : {f h : Formula} {s : ℕ → GroundTerm} {ta tb : ThinTree} {c d : List Literal} → Fits sig es false f s ta c → Fits sig es true h s tb d → Fits sig es true (equivalence f h) s (left (both ta tb)) (c ++ d)
  fits_iff_right : {f h : Formula} {s : ℕ → GroundTerm} {ta tb : ThinTree} {c d : List Literal} → Fits sig es false h s ta c → Fits sig es true f s tb d → Fits sig es true (equivalence f h) s (right (both ta tb)) (c ++ d)
  fits_iff_either : {f h : Formula} {s : ℕ → GroundTerm} {ta tb : ThinTree} {c d : List Literal} → Fits sig es true f s ta c → Fits sig es true h s tb d → Fits sig es false (equivalence f h) s (left (both ta tb)) (c ++ d)
  fits_iff_neither : {f h : Formula} {s : ℕ → GroundTerm} {ta tb : ThinTree} {c d : List Literal} → Fits sig es false f s ta c → Fits sig es false h s tb d → Fits sig es false (equivalence f h) s (right (both ta tb)) (c ++ d)
  fits_all : {f : Formula} {s : ℕ → GroundTerm} {u : GroundTerm} {th : ThinTree} {c : List Literal} → GroundOver sig individuals 0 u → Fits sig es true f (extended u s) th c → Fits sig es true (universal f) s (choice u th) c
  fits_ex : {f : Formula} {s : ℕ → GroundTerm} {u : GroundTerm} {th : ThinTree} {c : List Literal} → GroundOver sig individuals 0 u → Fits sig es false f (extended u s) th c → Fits sig es false (existential f) s (choice u th) c
  fits_ex_eigenvariable : {f : Formula} {s : ℕ → GroundTerm} {k : ℕ} {o : Eigenvariable} {th : ThinTree} {c : List Literal} → Entry es k o → o.positive ≡ true → IsOrigin o f s → Fits sig es true f (extended (eigenvariable k) s) th c → Fits sig es true (existential f) s (eigenvariable_at k th) c
  fits_all_eigenvariable : {f : Formula} {s : ℕ → GroundTerm} {k : ℕ} {o : Eigenvariable} {th : ThinTree} {c : List Literal} → Entry es k o → o.positive ≡ false → IsOrigin o f s → Fits sig es false f (extended (eigenvariable k) s) th c → Fits sig es false (universal f) s (eigenvariable_at k th) c
  fits_ex_vacuous : {f : Formula} {s : ℕ → GroundTerm} {th : ThinTree} {c : List Literal} → Unused f → Fits sig es true f (extended (ground_symbol any_name) s) th c → Fits sig es true (existential f) s (vacuous th) c
  fits_all_vacuous : {f : Formula} {s : ℕ → GroundTerm} {th : ThinTree} {c : List Literal} → Unused f → Fits sig es false f (extended (ground_symbol any_name) s) th c → Fits sig es false (universal f) s (vacuous th) c
