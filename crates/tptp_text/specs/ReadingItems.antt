-- Reading items from left to right.
use Rattle.std.specs.Prelude.{◌≡◌, ℕ, zero, suc, ◌+◌, ◌-◌, Bool, false, List, [], ◌∷◌, length, Option, Some, None, Result, Ok, Err, nat_eq, codes, if◌then◌else◌, ◌==◌}
use Rattle.std.specs.Cmp.Lexicographic.{pointwise}
use Rattle.tptp_tokens.specs.declared.Token.{Token}
use Rattle.tptp_tokens.specs.declared.Token.TheVariants as t
use Rattle.tptp_tokens.specs.Brackets.{too_deep as deep_brackets}
use Rattle.tptp_tokens.specs.Chunks.{chunk, behind_dot}
use Rattle.tptp_tokens.specs.Skipping.{Between, skip}
use Rattle.tptp_formulas.specs.declared.Body.{Body}
use Rattle.tptp_formulas.specs.declared.Lang.{Lang}
use Rattle.tptp_formulas.specs.declared.OutsideKind.{OutsideKind}
use Rattle.tptp_formulas.specs.declared.OutsideKind.TheVariants.{Include, Language}
use Rattle.tptp_formulas.specs.declared.Raw.{Raw}
use Rattle.tptp_formulas.specs.Meaning.{too_deep}
use Rattle.tptp_formulas.specs.Reading.{◌>>=◌, reading}
use Rattle.tptp_text.specs.declared.fault.TptpFault.{TptpFault}
use Rattle.tptp_text.specs.declared.fault.TptpFault.TheVariants.{NotTptp, TooDeep, TooMany, Memory}
use Rattle.tptp_text.specs.declared.item.Item.{Item}
use Rattle.tptp_text.specs.declared.item.Source.{Source}
use Rattle.tptp_text.specs.declared.item.Source.TheVariants as source
use Rattle.tptp_text.specs.Sources.{name_of}
use Rattle.tptp_text.specs.Items.{language_of, is_other_language, annotated, outside_item}
use Rattle.tptp_text.specs.Reading.{opaque, source_at}

-- What a function returned is what reading gives, unless memory ran out.
abbrev pub Misses : {Y : Type 0} → TptpFault → Result Y TptpFault → Type 0
Misses Memory read = Unit {0}
Misses fault read = read ≡ Err fault

abbrev pub Answers : {X Y : Type 0} → (X → Y) → Result X TptpFault → Result Y TptpFault → Type 0
Answers view (Ok x) read = read ≡ Ok (view x)
Answers view (Err e) read = Misses e read

-- ---- what ends with the last closing bracket

abbrev pub ended : {A : Type 0} → A → List Token → Option A
ended x (t.CloseRound ∷ []) = Some x
ended x ts = None

-- behind a source
abbrev pub source_end : Source → List Token → Option Source
source_end from (t.CloseRound ∷ []) = Some from
source_end from (t.Comma ∷ ts) = opaque ts >>= ended from
source_end from ts = None

unfoldable pub source_part : List Token → Option Source
source_part (t.CloseRound ∷ []) = Some source.Missing
source_part (t.Comma ∷ ts) = source_at (length ts) false ts >>= λ x. source_end x.0 x.1
source_part ts = None

abbrev pub included_end : List Token → Option OutsideKind
included_end (t.CloseRound ∷ []) = Some Include
included_end (t.Comma ∷ ts) = opaque ts >>= ended Include
included_end ts = None

unfoldable pub included_at : List Token → Option OutsideKind
included_at ts = opaque ts >>= included_end

abbrev pub terms_end : (List Token → Option OutsideKind) → List Token → Option OutsideKind
terms_end others (t.CloseRound ∷ []) = Some Language
terms_end others (t.Comma ∷ ts) = others ts
terms_end others ts = None

unfoldable pub terms_at : ℕ → List Token → Option OutsideKind
terms_at zero ts = None
terms_at (suc k) ts = opaque ts >>= terms_end (terms_at k)

-- ---- items

unfoldable pub written_at : Lang → List Token → Option (Raw × Source)
written_at language ts = do
  f ← reading language ts
  from ← source_part f.1
  Some (f.0, from)

abbrev pub named_at : Lang → Option (List ℕ) → List ℕ → List Token → Option Item
named_at language None role ts = None
named_at language (Some name) role ts = written_at language ts >>= λ x. Some (annotated language name role x.0 x.1)

unfoldable pub annotated_at : Lang → List Token → Option Item
annotated_at language (token ∷ t.Comma ∷ t.Lower role ∷ t.Comma ∷ ts) = named_at language (name_of token) role ts
annotated_at language ts = None

unfoldable pub unread_at : List ℕ → List Token → Option OutsideKind
unread_at word ts = if pointwise nat_eq word (codes "include") then included_at ts else (if is_other_language word then terms_at (length ts) ts else None)

abbrev pub spoken_at : List ℕ → Option Lang → List Token → Option Item
spoken_at word None ts = unread_at word ts >>= λ kind. Some (outside_item kind)
spoken_at word (Some language) ts = annotated_at language ts

unfoldable pub item_at : List Token → Option Item
item_at (t.Lower word ∷ t.OpenRound ∷ ts) = spoken_at word (language_of word) ts
item_at ts = None

-- ---- places

-- the body, unless its formula is too deep
abbrev pub weighed_body : ℕ → Body → Result Body TptpFault
weighed_body at body = if too_deep body then Err (TooDeep at) else Ok body

abbrev pub weighed_item : ℕ → Item → Result Item TptpFault
weighed_item at item = if too_deep item.body then Err (TooDeep at) else Ok item

-- the item, unless there is none or its formula is too deep
abbrev pub weighed : ℕ → Option Item → Result Item TptpFault
weighed at None = Err (NotTptp at)
weighed at (Some item) = weighed_item at item

infixl 10 ◌then◌
abbrev pub ◌then◌ : {A B : Type 0} → Result A TptpFault → (A → Result B TptpFault) → Result B TptpFault
(Ok x) then f = f x
(Err e) then f = Err e

-- the item, where a full stop stands behind its tokens
unfoldable pub dotted_at : ℕ → List Token → Option (List ℕ) → Result (Item × List ℕ) TptpFault
dotted_at at tokens None = Err (NotTptp at)
dotted_at at tokens (Some after) = weighed at (item_at tokens) then λ item. Ok (item, after)

unfoldable pub one_at : ℕ → List ℕ → Result (Item × List ℕ) TptpFault
one_at at here = if deep_brackets 0 (chunk (length here) here).0 then Err (TooDeep at) else dotted_at at (chunk (length here) here).0 (behind_dot (chunk (length here) here).1)

-- the items from here on, where so many stand before
unfoldable pub items_from : ℕ → (List ℕ → Result (List Item) TptpFault) → ℕ → List ℕ → Result (List Item) TptpFault
items_from total more count [] = Ok []
items_from total more count (b ∷ bytes) = if count == 65536 then Err (TooMany (total - length (b ∷ bytes))) else one_at (total - length (b ∷ bytes)) (b ∷ bytes) then λ item. more item.1 then λ items. Ok (item.0 ∷ items)

-- at most so many items
unfoldable pub items_at : ℕ → ℕ → ℕ → Bool → List ℕ → Result (List Item) TptpFault
items_at total zero count start bytes = Err (NotTptp 0)
items_at total (suc n) count start bytes = items_from total (items_at total n (count + 1) false) count (skip (Between start) bytes)
