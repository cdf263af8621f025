-- What the proofs on steps share.
use Rattle.std.proofs.Common.{◌≡◌, ℕ, List, Option, Some, Result, sym, ap, subst, ◌∙◌}
use Rattle.lp_term.specs.declared.Lp.{Lp}
use Rattle.dedukti_read.specs.declared.token.Token.{Token}
use Rattle.dedukti_read.specs.declared.state.Frame.{Frame}
use Rattle.dedukti_read.specs.declared.state.Place.{Place}
use Rattle.dedukti_read.specs.declared.state.Turn.{Turn}
use Rattle.dedukti_read.specs.Machine.{Ended, GivesTurn, IsWidest, ended, ended_by, place_of}

-- a term that ends in a frame
pub ended_there : {E : Type 0} (r : Result (Option Turn) E) (there place : Place) (token : Token) (patterns : List (List ℕ)) (here : Ended) (frame : Frame) (whole : Lp) (o : Option (Frame × Lp))
    → o ≡ Some (frame, whole) → IsWidest here place o → place.patterns ≡ patterns → GivesTurn r there (ended_by token frame whole place) → GivesTurn r there (ended token patterns here)
ended_there r there place token patterns here frame whole o found widest same h =
    let e = subst (IsWidest here place) found widest in
    subst (GivesTurn r there) (sym (ap (ended token patterns) e ∙ ap (λ (p : List (List ℕ)). ended_by token frame whole (place_of place.frames place.scope p)) (sym same))) h
