-- What holds of the definitions.
use Rattle.std.specs.Prelude.{◌≡◌, ◌<◌, ℕ, Bool, true, List, [], Some, IsTrue}
use Rattle.std.specs.List.{Contains}
use Rattle.std.specs.Ordering.{is_lt}
use Rattle.dk_syntax.specs.WellFormed.{IsClosed, IsGround, has_no_any, term_has_no_any, well_formed_term}
use Rattle.dk_syntax.specs.declared.Formula.{Formula}
use Rattle.dk_syntax.specs.declared.Literal.{Literal}
use Rattle.dk_syntax.specs.declared.Term.{Term}
use Rattle.dk_syntax.specs.declared.Term.TheVariants.{Any}
use Rattle.expansion.specs.Choices.{thin_tree}
use Rattle.expansion.specs.Rows.{IsGrounded, ground_clause}
use Rattle.expansion.specs.declared.thin.Thin.{Thin}
use Rattle.normal_form.specs.Normal.{normal_of}
use Rattle.normal_form.specs.declared.ClauseRow.{ClauseRow}
use Rattle.normal_form.specs.declared.Nf.{Nf}
use Rattle.skolem_order.specs.Covers.{Covered}
use Rattle.skolem_order.specs.Meetings.{AreSourced, IsOriginAt, Meets}
use Rattle.skolem_order.specs.Order.{AreNeeded, IsPlaceOf, Mentions, Needed, skolem_order}
use Rattle.skolem_order.specs.Origins.{origin_formula, origin_of_term, put_in, signed}
use Rattle.skolem_order.specs.Rooted.{AreRooted, HasProperLeaf, HaveFunctions, IsLonger, IsRooted, IsSized}
use Rattle.skolem_order.specs.SignedForms.{SignedForm, signed_form}
use Rattle.skolem_order.specs.Spots.{Spot, Stands, found}
use Rattle.skolem_order.specs.declared.origins.Origin.{Origin}
use Rattle.skolem_order.specs.declared.walk.Around.{Around}
use Rattle.step_skolem.specs.Images.{IsImage}
use Rattle.step_skolem.specs.declared.SkEntry.{SkEntry}

-- the existential that stands in a form under a number is the one that is found there
abbrev pub SpotsAreFound : Type 0
SpotsAreFound = (n : SignedForm) (h : List Around) (u e i : ℕ) (x : Spot) → Stands n h u e i x → found n h u e i ≡ Some x

-- Each entry of a map that leads from a formula's normal form stands for an existential of the signed formula. A variable that
-- occurs in its formula belongs to a universal of the entry, or to an existential that the map replaces by a term over these.
abbrev pub EntriesAreCovered : Type 0
EntriesAreCovered =
    (leaf : Formula) (sign : Bool) (entries : List SkEntry) (image : Nf) → IsImage (normal_of leaf sign) entries image
    → (one : SkEntry) → Contains entries one → (x : Spot) × (found (signed_form leaf sign) [] 0 0 one.ex ≡ Some x) × Covered entries one.args x

-- the origin formula of a ground term has no variable but those bound inside it
abbrev pub OriginFormulasAreClosed : Type 0
OriginFormulasAreClosed = (origins : List Origin) (t : Term) → IsGround t → IsClosed (origin_formula origins t).formula

-- Any, which stands where nothing is given for a variable, stands nowhere in an origin formula: an argument or a Skolem term over the
-- arguments is given for each variable. So where the origins are as they should, the term has as many arguments as its symbol's own
-- entry and has no Any, and its leaf is closed and has none.
abbrev pub OriginFormulasHaveNoAny : Type 0
OriginFormulasHaveNoAny =
    (origins : List Origin) → AreRooted origins → (t : Term) → IsSized origins t → HasProperLeaf origins t → IsTrue (term_has_no_any t)
    → IsTrue (has_no_any (origin_formula origins t).formula)

-- an origin formula stays the same where its origin's map grows, if the origin before is as it should, and the leaf, its sign and the
-- number stay
abbrev pub LongerMapsChangeNothing : Type 0
LongerMapsChangeNothing =
    (before after : List Origin) (t : Term) (old new : Origin) → origin_of_term before t ≡ Some old → origin_of_term after t ≡ Some new → IsRooted before old
    → new.leaf ≡ old.leaf → new.sign ≡ old.sign → new.ex ≡ old.ex → IsLonger old.map.entries new.map.entries → origin_formula after t ≡ origin_formula before t

-- where the origins are as they should, and the term has as many arguments as its symbol's own entry, a Skolem term comes before
-- each one that mentions it
abbrev pub MentionsPrecede : Type 0
MentionsPrecede =
    (origins : List Origin) → AreRooted origins → (t s : Term) → IsSized origins t → Mentions origins t s → is_lt (skolem_order origins s t) ≡ true

-- in a list of the needed terms, each Skolem term that one mentions has an earlier place, where the origins are as they should, and
-- each needed term has as many arguments as its symbol's own entry
abbrev pub MentionsStandEarlier : Type 0
MentionsStandEarlier =
    (origins : List Origin) (roots list : List Term) → AreRooted origins → ((t : Term) → Needed origins roots t → IsSized origins t) → AreNeeded origins roots list
    → (t s : Term) (n : ℕ) → IsPlaceOf list t n → Mentions origins t s → (k : ℕ) × IsPlaceOf list s k × (k < n)

-- there is one list of the needed terms, where the root terms are well-formed and the symbols of the origins are functions
abbrev pub NeededListIsOne : Type 0
NeededListIsOne =
    (origins : List Origin) (roots : List Term) → HaveFunctions origins → ((t : Term) → Contains roots t → IsTrue (well_formed_term t))
    → (a b : List Term) → AreNeeded origins roots a → AreNeeded origins roots b → a ≡ b

-- the thin tree leads through the signed formula to these literals, and meets origins
abbrev pub MeetsIn : List Origin → Formula → Bool → Thin → List Literal → Type 0
MeetsIn origins leaf sign thin ends = Meets origins (λ k. Any) (signed_form leaf sign) thin.picks thin.terms thin.skolems ends

-- At each existential that a row's thin tree meets stands the origin of the term that is chosen. So it is where the origins are as
-- they should, and each entry of the map has its origin.
abbrev pub TreesMeetOrigins : Type 0
TreesMeetOrigins =
    (origins : List Origin) (leaf : Formula) (sign : Bool) (entries : List SkEntry) (row : ClauseRow) (terms : List Term)
    → AreRooted origins → AreSourced origins leaf sign entries → IsGrounded (normal_of leaf sign) entries row terms
    → MeetsIn origins leaf sign (thin_tree sign (normal_of leaf sign) entries row terms) (ground_clause row terms)

-- Where the origin of a term stands, the formula there is the term's origin formula.
abbrev pub MetFormulasAreOrigins : Type 0
MetFormulasAreOrigins =
    (origins : List Origin) (t : Term) (sign : Bool) (f : Formula) (s : ℕ → Term)
    → IsOriginAt origins t sign f s → origin_formula origins t ≡ signed sign (put_in s f 0)
