-- Which tokens are an item: an annotated formula, an `include`, or an item of another language.
use Rattle.std.specs.Prelude.{◌≡◌, ℕ, Bool, true, false, List, [], ◌∷◌, Option, Some, None, nat_eq, codes, if◌then◌else◌, ◌||◌}
use Rattle.std.specs.Cmp.Lexicographic.{pointwise}
use Rattle.tptp_tokens.specs.declared.Token.{Token}
use Rattle.tptp_tokens.specs.declared.Token.TheVariants as t
use Rattle.tptp_formulas.specs.declared.Body.{Body}
use Rattle.tptp_formulas.specs.declared.Body.TheVariants.{Plain, Outside}
use Rattle.tptp_formulas.specs.declared.Lang.{Lang}
use Rattle.tptp_formulas.specs.declared.Lang.TheVariants as lang
use Rattle.tptp_formulas.specs.declared.OutsideKind.{OutsideKind}
use Rattle.tptp_formulas.specs.declared.OutsideKind.TheVariants.{Include, Language}
use Rattle.tptp_formulas.specs.declared.Raw.{Raw}
use Rattle.tptp_formulas.specs.Meaning.{body_of}
use Rattle.tptp_formulas.specs.Scopes.{first_free}
use Rattle.tptp_formulas.specs.Written.{Written}
use Rattle.tptp_text.specs.declared.item.Item.{Item}
use Rattle.tptp_text.specs.declared.item.Source.{Source}
use Rattle.tptp_text.specs.declared.item.Source.TheVariants as source
use Rattle.tptp_text.specs.Opaque.{IsOpaque}
use Rattle.tptp_text.specs.Sources.{name_of, IsSource}

-- The language of an annotated formula.
abbrev pub language_of : List ℕ → Option Lang
language_of word = if pointwise nat_eq word (codes "fof") then Some lang.Fof else (if pointwise nat_eq word (codes "cnf") then Some lang.Cnf else None)

-- The words of the languages that are not read.
abbrev pub is_other_language : List ℕ → Bool
is_other_language word = pointwise nat_eq word (codes "thf") || pointwise nat_eq word (codes "tff") || pointwise nat_eq word (codes "tcf") || pointwise nat_eq word (codes "tpi")

-- The first free variable, kept of an `fof` formula inside the profile.
abbrev pub kept_free : Lang → Body → Option (List ℕ) → Option (List ℕ)
kept_free lang.Fof (Plain f) free = free
kept_free language body free = None

-- An annotated formula with what it says.
abbrev pub annotated : Lang → List ℕ → List ℕ → Raw → Source → Item
annotated language name role f from = record { lang = language; name = name; role = role; body = body_of f; free = kept_free language (body_of f) (first_free f); source = from }

-- An item that is kept by its kind alone.
abbrev pub outside_item : OutsideKind → Item
outside_item kind = record { lang = lang.Other; name = []; role = []; body = Outside kind; free = None; source = source.Missing }

-- What stands behind the formula: a closing bracket, and before it a source or none, and behind the source an opaque term or none.
pub data IsSourcePart : List Token → Source → Type 0 where
  NoSource : IsSourcePart (t.CloseRound ∷ []) source.Missing
  OneSource : (ts : List Token) (from : Source) → IsSource false ts from (t.CloseRound ∷ []) → IsSourcePart (t.Comma ∷ ts) from
  SourceAndMore : (ts : List Token) (from : Source) (more : List Token) → IsSource false ts from (t.Comma ∷ more) → IsOpaque false more (t.CloseRound ∷ []) → IsSourcePart (t.Comma ∷ ts) from

-- One or two opaque terms, and a closing bracket.
pub data IsIncluded : List Token → Type 0 where
  WholeFile : (ts : List Token) → IsOpaque false ts (t.CloseRound ∷ []) → IsIncluded ts
  FilePart : (ts more : List Token) → IsOpaque false ts (t.Comma ∷ more) → IsOpaque false more (t.CloseRound ∷ []) → IsIncluded ts

-- Opaque terms with commas between them, and a closing bracket.
pub data AreTerms : List Token → Type 0 where
  LastTerm : (ts : List Token) → IsOpaque false ts (t.CloseRound ∷ []) → AreTerms ts
  MoreTerms : (ts more : List Token) → IsOpaque false ts (t.Comma ∷ more) → AreTerms more → AreTerms ts

-- The tokens before a full stop are the item.
pub data IsItem : List Token → Item → Type 0 where
  Annotated : (word : List ℕ) (language : Lang) (token : Token) (name role : List ℕ) (ts : List Token) (f : Raw) (after : List Token) (from : Source)
      → language_of word ≡ Some language → name_of token ≡ Some name → Written language ts f after → IsSourcePart after from
      → IsItem (t.Lower word ∷ t.OpenRound ∷ token ∷ t.Comma ∷ t.Lower role ∷ t.Comma ∷ ts) (annotated language name role f from)
  Inclusion : (ts : List Token) → IsIncluded ts → IsItem (t.Lower (codes "include") ∷ t.OpenRound ∷ ts) (outside_item Include)
  OtherLanguage : (word : List ℕ) (ts : List Token) → is_other_language word ≡ true → AreTerms ts → IsItem (t.Lower word ∷ t.OpenRound ∷ ts) (outside_item Language)

-- The kind of what is outside the profile.
abbrev pub kind_of : Body → Option OutsideKind
kind_of (Plain f) = None
kind_of (Outside kind) = Some kind
