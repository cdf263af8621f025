-- Rows that are made one part after the other.
use Rattle.std.proofs.Common.{append_assoc, ◌≡◌, ℕ, Bool, true, false, List, [], ◌∷◌, ◌++◌, map, refl, sym, ap, ap₂, ◌∙◌}
use Rattle.std.proofs.lemmas.Grind.{common_steps}
use Rattle.std.proofs.lemmas.List.{append-nil, map-append, reverse-append}
use Rattle.dk_syntax.specs.declared.Literal.{Literal}
use Rattle.normal_form.specs.ClauseLists.{beside, pairs_of, raw, taking}
use Rattle.normal_form.specs.declared.form.Nf.{the_lemmas as of_forms}
use Rattle.normal_form.specs.declared.matrix.Matrix.{the_lemmas as of_matrices}
use Rattle.normal_form.specs.declared.raw.Raw.{Raw}

-- ---- rows beside rows

pub beside_assoc : (x y z : Raw) → beside (beside x y) z ≡ beside x (beside y z)
beside_assoc x y z = ap₂ raw (append_assoc x.lits y.lits z.lits) (append_assoc x.picks y.picks z.picks)

pub beside_none : (x : Raw) → beside x (raw [] []) ≡ x
beside_none x = ap₂ raw (append-nil x.lits) (append-nil x.picks)

pub none_beside : (ys : List Raw) → map (beside (raw [] [])) ys ≡ ys
none_beside [] = refl
none_beside (y ∷ ys) = ap (λ rest. y ∷ rest) (none_beside ys)

pub beside_literal : (x : Raw) (l : Literal) → beside x (raw (l ∷ []) []) ≡ raw (x.lits ++ l ∷ []) x.picks
beside_literal x l = ap (raw (x.lits ++ l ∷ [])) (append-nil x.picks)

beside_each : (x y : Raw) (zs : List Raw) → map (beside (beside x y)) zs ≡ map (beside x) (map (beside y) zs)
beside_each x y [] = refl
beside_each x y (z ∷ zs) = ap₂ (λ one rest. one ∷ rest) (beside_assoc x y z) (beside_each x y zs)

-- a side that stands at the end of the prefix is taken before the others
pub side_before : (x : Raw) (side : Bool) (ys : List Raw) → map (beside (raw x.lits (x.picks ++ side ∷ []))) ys ≡ map (beside x) (map (taking side) ys)
side_before x side [] = refl
side_before x side (y ∷ ys) =
    ap₂ (λ one rest. one ∷ rest) (ap (raw (x.lits ++ y.lits)) (append_assoc x.picks (side ∷ []) y.picks)) (side_before x side ys)

-- ---- pairs

pub pairs_after : (x : Raw) (ys zs : List Raw) → pairs_of (map (beside x) ys) zs ≡ map (beside x) (pairs_of ys zs)
pairs_after x [] zs = refl
pairs_after x (y ∷ ys) zs =
    ap₂ (λ here rest. here ++ rest) (beside_each x y zs) (pairs_after x ys zs) ∙ sym (map-append (beside x) (map (beside y) zs) (pairs_of ys zs))

-- one left row more
pub pairs_more : (xs : List Raw) (x : Raw) (zs : List Raw) → pairs_of (xs ++ x ∷ []) zs ≡ pairs_of xs zs ++ map (beside x) zs
pairs_more [] x zs = append-nil (map (beside x) zs)
pairs_more (y ∷ xs) x zs =
    ap (λ rest. map (beside y) zs ++ rest) (pairs_more xs x zs) ∙ sym (append_assoc (map (beside y) zs) (pairs_of xs zs) (map (beside x) zs))

pub no_rights : (xs : List Raw) → pairs_of xs [] ≡ []
no_rights [] = refl
no_rights (x ∷ xs) = no_rights xs

pub empty_left : (ys : List Raw) → pairs_of (raw [] [] ∷ []) ys ≡ ys
empty_left ys = append-nil (map (beside (raw [] [])) ys) ∙ none_beside ys

pub empty_right : (xs : List Raw) → pairs_of xs (raw [] [] ∷ []) ≡ xs
empty_right [] = refl
empty_right (x ∷ xs) = ap₂ (λ one rest. one ∷ rest) (beside_none x) (empty_right xs)

pub ruleset matrix_steps = (common_steps, append_assoc, append-nil, map-append, reverse-append, of_forms, of_matrices, beside_none, none_beside, beside_literal, side_before, pairs_after, pairs_more, no_rights, empty_left, empty_right)
