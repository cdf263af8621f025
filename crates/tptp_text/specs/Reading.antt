-- Reading opaque terms and sources from left to right: what is read, and the tokens behind it.
use Rattle.std.specs.Prelude.{ℕ, zero, suc, Bool, true, false, List, [], ◌∷◌, length, Option, Some, None, nat_eq, codes, if◌then◌else◌}
use Rattle.std.specs.Cmp.Lexicographic.{pointwise}
use Rattle.std.specs.List.{list_all}
use Rattle.tptp_tokens.specs.declared.Token.{Token}
use Rattle.tptp_tokens.specs.declared.Token.TheVariants as t
use Rattle.tptp_formulas.specs.Reading.{◌>>=◌, Reader}
use Rattle.tptp_text.specs.declared.item.Source.{Source}
use Rattle.tptp_text.specs.declared.item.Source.TheVariants as source
use Rattle.tptp_text.specs.Sources.{is_digit, known_name, entry_status, first_of}

-- ---- opaque terms

abbrev pub stopped : Bool → List Token → Option (List Token)
stopped some ts = if some then Some ts else None

-- The tokens behind an opaque term, inside these open brackets, the inmost first; `true` is a round one.
unfoldable pub opaque_at : Bool → List Bool → Bool → List Token → Option (List Token)
opaque_at in_parent around some [] = None
opaque_at in_parent around some (t.OpenRound ∷ ts) = opaque_at in_parent (true ∷ around) true ts
opaque_at in_parent around some (t.OpenSquare ∷ ts) = opaque_at in_parent (false ∷ around) true ts
opaque_at in_parent [] some (t.CloseRound ∷ ts) = stopped some (t.CloseRound ∷ ts)
opaque_at in_parent (round ∷ around) some (t.CloseRound ∷ ts) = if round then opaque_at in_parent around true ts else None
opaque_at in_parent [] some (t.CloseSquare ∷ ts) = stopped some (t.CloseSquare ∷ ts)
opaque_at in_parent (round ∷ around) some (t.CloseSquare ∷ ts) = if round then None else opaque_at in_parent around true ts
opaque_at in_parent [] some (t.Comma ∷ ts) = stopped some (t.Comma ∷ ts)
opaque_at in_parent (round ∷ around) some (t.Comma ∷ ts) = opaque_at in_parent (round ∷ around) true ts
opaque_at in_parent [] some (t.Colon ∷ ts) = if in_parent then stopped some (t.Colon ∷ ts) else opaque_at in_parent [] true ts
opaque_at in_parent (round ∷ around) some (t.Colon ∷ ts) = opaque_at in_parent (round ∷ around) true ts
opaque_at in_parent around some (t.Dot ∷ ts) = None
opaque_at in_parent around some (token ∷ ts) = opaque_at in_parent around true ts

-- Where an opaque term ends.
abbrev pub stops : Bool → List Token → Bool
stops in_parent (t.Comma ∷ ts) = true
stops in_parent (t.CloseRound ∷ ts) = true
stops in_parent (t.CloseSquare ∷ ts) = true
stops in_parent (t.Colon ∷ ts) = in_parent
stops in_parent ts = false

abbrev pub opaque : List Token → Option (List Token)
opaque ts = opaque_at false [] false ts

-- ---- files

abbrev pub file_end : List Token → List Token → Option (Option (List ℕ) × List Token)
file_end ts (t.CloseRound ∷ rest) = Some (known_name ts, rest)
file_end ts rest = None

unfoldable pub file_name : Reader (Option (List ℕ))
file_name ts = opaque ts >>= file_end ts

abbrev pub file_more : List Token → Option (Option (List ℕ) × List Token)
file_more (t.CloseRound ∷ rest) = Some (None, rest)
file_more (t.Comma ∷ ts) = file_name ts
file_more ts = None

unfoldable pub file_at : Reader (Option (List ℕ))
file_at ts = opaque ts >>= file_more

-- ---- the information of an inference

unfoldable pub more_entries : Reader (Option (List ℕ)) → Option (List ℕ) → Reader (Option (List ℕ))
more_entries others here (t.Comma ∷ ts) = do
  later ← others ts
  Some (first_of here later.0, later.1)
more_entries others here (t.CloseSquare ∷ ts) = Some (here, ts)
more_entries others here ts = None

unfoldable pub entries_at : ℕ → Reader (Option (List ℕ))
entries_at zero ts = None
entries_at (suc k) ts = do
  after ← opaque ts
  more_entries (entries_at k) (entry_status ts) after

unfoldable pub list_at : Reader (Option (List ℕ))
list_at (t.OpenSquare ∷ t.CloseSquare ∷ ts) = Some (None, ts)
list_at (t.OpenSquare ∷ ts) = entries_at (length ts) ts
list_at ts = None

-- The status where a list ends here, and the tokens behind the comma after it.
abbrev pub listed : Option (Option (List ℕ) × List Token) → Option (Option (List ℕ) × List Token)
listed (Some (status, t.Comma ∷ rest)) = Some (status, rest)
listed read = None

abbrev pub behind_comma : List Token → Option (List Token)
behind_comma (t.Comma ∷ rest) = Some rest
behind_comma ts = None

-- Some other term, and the tokens behind the comma after it.
unfoldable pub term_at : Reader (Option (List ℕ))
term_at ts = opaque ts >>= behind_comma >>= λ rest. Some (None, rest)

abbrev pub or_term : List Token → Option (Option (List ℕ) × List Token) → Option (Option (List ℕ) × List Token)
or_term ts (Some x) = Some x
or_term ts None = term_at ts

unfoldable pub info_at : Reader (Option (List ℕ))
info_at ts = or_term ts (listed (list_at ts))

-- ---- parents

abbrev pub remark_at : List Token → Option (List Token)
remark_at (t.Colon ∷ ts) = opaque ts
remark_at ts = Some ts

unfoldable pub more_parents : Reader (List Source) → Source → Reader (List Source)
more_parents others first (t.Comma ∷ ts) = do
  later ← others ts
  Some (first ∷ later.0, later.1)
more_parents others first (t.CloseSquare ∷ ts) = Some (first ∷ [], ts)
more_parents others first ts = None

unfoldable pub parent_with : Reader Source → Reader Source
parent_with one ts = do
  parent ← one ts
  rest ← remark_at parent.1
  Some (parent.0, rest)

unfoldable pub parents_at : ℕ → Reader Source → Reader (List Source)
parents_at zero one ts = None
parents_at (suc k) one ts = do
  first ← parent_with one ts
  more_parents (parents_at k one) first.0 first.1

unfoldable pub parent_list_at : Reader Source → Reader (List Source)
parent_list_at one (t.CloseSquare ∷ ts) = Some ([], ts)
parent_list_at one ts = parents_at (length ts) one ts

-- ---- sources

abbrev pub round_closed : Option (List ℕ) → List Source → List Token → Option (Source × List Token)
round_closed status parents (t.CloseRound ∷ rest) = Some (source.Inference status parents, rest)
round_closed status parents ts = None

unfoldable pub derived_at : Reader Source → Option (List ℕ) → Reader Source
derived_at one status (t.OpenSquare ∷ ts) = do
  parents ← parent_list_at one ts
  round_closed status parents.0 parents.1
derived_at one status ts = None

unfoldable pub inference_at : Reader Source → Reader Source
inference_at one ts = do
  rest ← opaque ts >>= behind_comma
  info ← info_at rest
  derived_at one info.0 info.1

unfoldable pub call_at : Reader Source → List ℕ → Reader Source
call_at one word ts = if pointwise nat_eq word (codes "file") then (file_at ts >>= λ x. Some (source.File x.0, x.1)) else (if pointwise nat_eq word (codes "inference") then inference_at one ts else None)

-- A name, a file or an inference.
unfoldable pub form_at : Reader Source → Reader Source
form_at one (t.Lower word ∷ t.OpenRound ∷ ts) = call_at one word ts
form_at one (t.Lower name ∷ ts) = Some (source.Plain name, ts)
form_at one (t.Quoted name ∷ ts) = Some (source.Plain name, ts)
form_at one (t.Number digits ∷ ts) = if list_all is_digit digits then Some (source.Plain digits, ts) else None
form_at one ts = None

unfoldable pub other_at : Bool → Reader Source
other_at in_parent ts = opaque_at in_parent [] false ts >>= λ rest. Some (source.Other, rest)

-- What was read, where a source ends behind it.
abbrev pub fitting : Bool → Option (Source × List Token) → Option (Source × List Token)
fitting in_parent None = None
fitting in_parent (Some x) = if stops in_parent x.1 then Some x else None

abbrev pub or_other : Bool → List Token → Option (Source × List Token) → Option (Source × List Token)
or_other in_parent ts None = other_at in_parent ts
or_other in_parent ts (Some x) = Some x

-- A source inside which at most so many brackets open.
unfoldable pub source_at : ℕ → Bool → Reader Source
source_at zero in_parent ts = None
source_at (suc room) in_parent ts = or_other in_parent ts (fitting in_parent (form_at (source_at room true) ts))
