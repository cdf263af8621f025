-- Right instances, built one after the other.
use Rattle.std.proofs.Common.{◌≡◌, List, [], ◌∷◌, ◌++◌, subst, append_assoc, append-nil}
use Rattle.lp_term.specs.Typing.{Declaration}
use Rattle.nd_term.specs.Formulas.{Formula, Literal}
use Rattle.nd_term.specs.Eigenvariables.{Eigenvariable}
use Rattle.assemble.specs.Justification.{Instance, Works, clauses}

-- each instance works from the clauses known before it
pub data Builds (sig : List Declaration) (es : List Eigenvariable) (hs : List Formula) (c : Formula) : List (List Literal) → List Instance → Type 0 where
  builds_nil : (known : List (List Literal)) → Builds sig es hs c known []
  builds_cons : {known : List (List Literal)} {i : Instance} {is : List Instance} → Works sig es hs c known i.clause i.by → Builds sig es hs c (known ++ i.clause ∷ []) is → Builds sig es hs c known (i ∷ is)

module _ {sig : List Declaration} {es : List Eigenvariable} {hs : List Formula} {c : Formula} where
  middle_works : {known : List (List Literal)} (front back : List Instance) (i : Instance) → Builds sig es hs c known (front ++ i ∷ back) → Works sig es hs c (known ++ clauses front) i.clause i.by
  middle_works {known = k} [] back i (builds_cons w b) = rw (append-nil k) w
  middle_works {known = k} (j ∷ front) back i (builds_cons w b) =
      rw (append_assoc k (j.clause ∷ []) (clauses front)) at (middle_works front back i b)

  pub works_of : {list : List Instance} → Builds sig es hs c [] list → (front back : List Instance) (i : Instance) → list ≡ front ++ i ∷ back → Works sig es hs c (clauses front) i.clause i.by
  works_of b front back i q = middle_works front back i (subst (λ l. Builds sig es hs c [] l) q b)
