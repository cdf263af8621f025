-- Sources, after the TPTP language's sources and inference records. Each relation reads: the tokens before, what they say, the tokens after.
use Rattle.std.specs.Prelude.{◌≡◌, ℕ, Bool, true, false, List, [], ◌∷◌, Option, Some, None, nat_eq, nat_le, codes, if◌then◌else◌, ◌&&◌}
use Rattle.std.specs.List.{list_all}
use Rattle.std.specs.Cmp.Lexicographic.{pointwise}
use Rattle.tptp_tokens.specs.declared.Token.{Token}
use Rattle.tptp_tokens.specs.declared.Token.TheVariants as t
use Rattle.tptp_text.specs.declared.item.Source.{Source}
use Rattle.tptp_text.specs.declared.item.Source.TheVariants as source
use Rattle.tptp_text.specs.Opaque.{IsOpaque}

abbrev pub is_digit : ℕ → Bool
is_digit b = nat_le 48 b && nat_le b 57

-- The name that a token is: a lower word, a quoted name or an unsigned integer.
abbrev pub name_of : Token → Option (List ℕ)
name_of (t.Lower name) = Some name
name_of (t.Quoted name) = Some name
name_of (t.Number digits) = if list_all is_digit digits then Some digits else None
name_of token = None

-- ---- what a file's source keeps

abbrev pub known : Option (List ℕ) → Option (List ℕ)
known None = None
known (Some name) = if pointwise nat_eq name (codes "unknown") then None else Some name

-- The name that stands alone before a closing bracket, unless it is `unknown`.
abbrev pub known_name : List Token → Option (List ℕ)
known_name (token ∷ t.CloseRound ∷ ts) = known (name_of token)
known_name ts = None

-- Behind `file(`: one opaque term, or two of which the second may be a name.
pub data IsFile : List Token → Option (List ℕ) → List Token → Type 0 where
  FileAlone : (ts rest : List Token) → IsOpaque false ts (t.CloseRound ∷ rest) → IsFile ts None rest
  FileAndName : (ts mid rest : List Token) → IsOpaque false ts (t.Comma ∷ mid) → IsOpaque false mid (t.CloseRound ∷ rest) → IsFile ts (known_name mid) rest

-- ---- the status of an inference

abbrev pub word_status : List ℕ → List ℕ → Option (List ℕ)
word_status word status = if pointwise nat_eq word (codes "status") then Some status else None

-- The status that an entry of a list says: the entry is `status(W)` with a lower word W.
abbrev pub entry_status : List Token → Option (List ℕ)
entry_status (t.Lower word ∷ t.OpenRound ∷ t.Lower status ∷ t.CloseRound ∷ t.Comma ∷ ts) = word_status word status
entry_status (t.Lower word ∷ t.OpenRound ∷ t.Lower status ∷ t.CloseRound ∷ t.CloseSquare ∷ ts) = word_status word status
entry_status ts = None

-- The first of two, where there is one.
abbrev pub first_of : Option (List ℕ) → Option (List ℕ) → Option (List ℕ)
first_of (Some status) later = Some status
first_of None later = later

-- Opaque terms with commas between them and a closing bracket, and the first status among them.
pub data AreEntries : List Token → Option (List ℕ) → List Token → Type 0 where
  LastEntry : (ts rest : List Token) → IsOpaque false ts (t.CloseSquare ∷ rest) → AreEntries ts (entry_status ts) rest
  MoreEntries : (ts mid : List Token) (later : Option (List ℕ)) (rest : List Token) → IsOpaque false ts (t.Comma ∷ mid) → AreEntries mid later rest → AreEntries ts (first_of (entry_status ts) later) rest

-- A list in square brackets.
pub data IsList : List Token → Option (List ℕ) → List Token → Type 0 where
  EmptyList : (rest : List Token) → IsList (t.OpenSquare ∷ t.CloseSquare ∷ rest) None rest
  ListOf : (ts : List Token) (status : Option (List ℕ)) (rest : List Token) → AreEntries ts status rest → IsList (t.OpenSquare ∷ ts) status rest

-- An opaque term with the status that it says; one that is no list says none.
pub data IsInfo : List Token → Option (List ℕ) → List Token → Type 0 where
  InfoList : (ts : List Token) (status : Option (List ℕ)) (rest : List Token) → IsList ts status rest → IsInfo ts status rest
  OtherInfo : (ts rest : List Token) → IsOpaque false ts rest → ((status : Option (List ℕ)) → IsList ts status rest → ⊥) → IsInfo ts None rest

-- ---- what has the form of a source other than an opaque term

-- Nothing, or a colon and an opaque term.
pub data IsRemark : List Token → List Token → Type 0 where
  NoRemark : (rest : List Token) → IsRemark rest rest
  Remark : (ts rest : List Token) → IsOpaque false ts rest → IsRemark (t.Colon ∷ ts) rest

-- Opaque terms, each with a remark, with commas between them and a closing bracket.
pub data HaveForm : List Token → List Token → Type 0 where
  LastForm : (ts mid rest : List Token) → IsOpaque true ts mid → IsRemark mid (t.CloseSquare ∷ rest) → HaveForm ts rest
  MoreForms : (ts mid next rest : List Token) → IsOpaque true ts mid → IsRemark mid (t.Comma ∷ next) → HaveForm next rest → HaveForm ts rest

-- These, or the closing bracket alone.
pub data HasListForm : List Token → List Token → Type 0 where
  EmptyForm : (rest : List Token) → HasListForm (t.CloseSquare ∷ rest) rest
  SomeForms : (ts rest : List Token) → HaveForm ts rest → HasListForm ts rest

-- The form of a name, of a file or of an inference stands between the two.
pub data HasForm : List Token → List Token → Type 0 where
  NameForm : (token : Token) (name : List ℕ) (rest : List Token) → name_of token ≡ Some name → HasForm (token ∷ rest) rest
  FileForm : (ts : List Token) (kept : Option (List ℕ)) (rest : List Token) → IsFile ts kept rest → HasForm (t.Lower (codes "file") ∷ t.OpenRound ∷ ts) rest
  InferenceForm : (ts info list rest : List Token) → IsOpaque false ts (t.Comma ∷ info) → IsOpaque false info (t.Comma ∷ t.OpenSquare ∷ list) → HasListForm list (t.CloseRound ∷ rest)
      → HasForm (t.Lower (codes "inference") ∷ t.OpenRound ∷ ts) rest

-- ---- sources

mutual
  -- A name, a file or an inference; an opaque term without their forms is any other source.
  pub data IsSource : Bool → List Token → Source → List Token → Type 0 where
    NameSource : (in_parent : Bool) (token : Token) (name : List ℕ) (rest : List Token) → name_of token ≡ Some name → IsSource in_parent (token ∷ rest) (source.Plain name) rest
    FileSource : (in_parent : Bool) (ts : List Token) (kept : Option (List ℕ)) (rest : List Token) → IsFile ts kept rest
        → IsSource in_parent (t.Lower (codes "file") ∷ t.OpenRound ∷ ts) (source.File kept) rest
    InferenceSource : (in_parent : Bool) (ts info : List Token) (status : Option (List ℕ)) (list : List Token) (parents : List Source) (rest : List Token)
        → IsOpaque false ts (t.Comma ∷ info) → IsInfo info status (t.Comma ∷ t.OpenSquare ∷ list) → IsParentList list parents (t.CloseRound ∷ rest)
        → IsSource in_parent (t.Lower (codes "inference") ∷ t.OpenRound ∷ ts) (source.Inference status parents) rest
    OtherSource : (in_parent : Bool) (ts rest : List Token) → IsOpaque in_parent ts rest → (HasForm ts rest → ⊥) → IsSource in_parent ts source.Other rest

  -- Sources, each with a remark, with commas between them and a closing bracket.
  pub data AreParents : List Token → List Source → List Token → Type 0 where
    LastParent : (ts : List Token) (parent : Source) (mid rest : List Token) → IsSource true ts parent mid → IsRemark mid (t.CloseSquare ∷ rest) → AreParents ts (parent ∷ []) rest
    MoreParents : (ts : List Token) (parent : Source) (mid next : List Token) (parents : List Source) (rest : List Token)
        → IsSource true ts parent mid → IsRemark mid (t.Comma ∷ next) → AreParents next parents rest → AreParents ts (parent ∷ parents) rest

  -- These, or the closing bracket alone.
  pub data IsParentList : List Token → List Source → List Token → Type 0 where
    NoParents : (rest : List Token) → IsParentList (t.CloseSquare ∷ rest) [] rest
    SomeParents : (ts : List Token) (parents : List Source) (rest : List Token) → AreParents ts parents rest → IsParentList ts parents rest
