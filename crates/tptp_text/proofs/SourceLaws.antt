-- What is read as a source is one, and each source is read.
use Rattle.std.proofs.Common.{◌≡◌, inl, inr, ℕ, zero, suc, ◌<◌, ◌≤◌, Bool, true, false, List, [], ◌∷◌, length, Option, Some, None, refl, sym, ap, subst, ◌∙◌, arith}
use Rattle.std.specs.Prelude.{nat_eq, codes}
use Rattle.std.specs.List.{list_all}
use Rattle.std.specs.Cmp.Lexicographic.{pointwise, bytes_decides}
use Rattle.std.proofs.lemmas.Bool.{cond_both, cases_Bool}
use Rattle.tptp_tokens.specs.declared.Token.{Token}
use Rattle.tptp_tokens.specs.declared.Token.TheVariants as t
use Rattle.tptp_formulas.specs.Reading.{◌>>=◌, Reader}
use Rattle.tptp_text.specs.declared.item.Source.{Source}
use Rattle.tptp_text.specs.declared.item.Source.TheVariants as source
use Rattle.tptp_text.specs.Opaque.{IsPlain, IsPiece, OneToken, RoundGroup, SquareGroup, IsInside, NoMore, CommaFirst, PieceFirst, IsOpaque, LastPiece, MorePieces}
use Rattle.tptp_text.specs.Sources.{is_digit, name_of, IsFile, FileAlone, FileAndName, entry_status, AreEntries, LastEntry, MoreEntries, IsList, EmptyList, ListOf, IsInfo, InfoList, OtherInfo, IsRemark, NoRemark, Remark, HaveForm, LastForm, MoreForms, HasListForm, EmptyForm, SomeForms, HasForm, NameForm, FileForm, InferenceForm, IsSource, NameSource, FileSource, InferenceSource, OtherSource, AreParents, LastParent, MoreParents, IsParentList, NoParents, SomeParents}
use Rattle.tptp_text.specs.Reading.{stops, opaque, file_end, file_name, file_more, file_at, more_entries, entries_at, list_at, listed, behind_comma, term_at, or_term, info_at, remark_at, more_parents, parent_with, parents_at, parent_list_at, round_closed, derived_at, inference_at, call_at, form_at, other_at, fitting, or_other, source_at}
use Rattle.tptp_text.proofs.OpaqueLaws.{opaque_so, opaque_only, opaque_ends_once, opaque_shorter, opaque_inside, behind_opaque}

-- what was read is so by the relation
abbrev pub Sound : {A : Type 0} → (List Token → A → List Token → Type 0) → List Token → Option (A × List Token) → Type 0
Sound Is ts None = Unit {0}
Sound Is ts (Some x) = Is ts x.0 x.1

-- a step after another
then_sound : {A B : Type 0} (First : List Token → A → List Token → Type 0) (Whole : List Token → B → List Token → Type 0) (ts mid : List Token) (o : Option (A × List Token)) (f : A × List Token → Option (B × List Token))
    → Sound First mid o → ((x : A) (rest : List Token) → First mid x rest → Sound Whole ts (f (x, rest))) → Sound Whole ts (o >>= f)
then_sound First Whole ts mid None f h k = tt
then_sound First Whole ts mid (Some x) f h k = k x.0 x.1 h

then_some : {A : Type 0} (First : List Token → A → List Token → Type 0) (Whole : List Token → A → List Token → Type 0) (mid ts : List Token) (o : Option (A × List Token))
    → Sound First mid o → ((x : A) (rest : List Token) → First mid x rest → Whole ts x rest) → Sound Whole ts o
then_some First Whole mid ts None h k = tt
then_some First Whole mid ts (Some x) h k = k x.0 x.1 h

-- ---- files

file_end_sound : (ts mid : List Token) → IsOpaque false ts (t.Comma ∷ mid) → (after : List Token) → IsOpaque false mid after → Sound IsFile ts (file_end mid after)
file_end_sound ts mid h [] g = tt
file_end_sound ts mid h (t.CloseRound ∷ rest) g = FileAndName ts mid rest h g
file_end_sound ts mid h (_ ∷ rest) g = tt

file_more_sound : (ts after : List Token) → IsOpaque false ts after → Sound IsFile ts (file_more after)
unfolding file_name
file_more_sound ts [] h = tt
file_more_sound ts (t.CloseRound ∷ rest) h = FileAlone ts rest h
file_more_sound ts (t.Comma ∷ mid) h = behind_opaque (Sound IsFile ts) false mid (file_end mid) tt (λ after g s. file_end_sound ts mid h after g)
file_more_sound ts (_ ∷ rest) h = tt

file_sound : (ts : List Token) → Sound IsFile ts (file_at ts)
unfolding file_at
file_sound ts = behind_opaque (Sound IsFile ts) false ts file_more tt (λ after h s. file_more_sound ts after h)

file_only : {ts : List Token} {kept : Option (List ℕ)} {rest : List Token} → IsFile ts kept rest → file_at ts ≡ Some (kept, rest)
unfolding file_at file_name
file_only (FileAlone ts rest h) = rw (opaque_only h refl false) refl
file_only (FileAndName ts mid rest h g) = rw (opaque_only h refl false, opaque_only g refl false) refl

-- ---- the information of an inference

more_entries_sound : (others : Reader (Option (List ℕ))) → ((ts : List Token) → Sound AreEntries ts (others ts)) → (ts after : List Token) → IsOpaque false ts after → Sound AreEntries ts (more_entries others (entry_status ts) after)
unfolding more_entries
more_entries_sound others sound ts [] h = tt
more_entries_sound others sound ts (t.Comma ∷ mid) h = then_sound AreEntries AreEntries ts mid (others mid) _ (sound mid) (λ later rest g. MoreEntries ts mid later rest h g)
more_entries_sound others sound ts (t.CloseSquare ∷ rest) h = LastEntry ts rest h
more_entries_sound others sound ts (_ ∷ rest) h = tt

entries_sound : (k : ℕ) (ts : List Token) → Sound AreEntries ts (entries_at k ts)
unfolding entries_at
entries_sound zero ts = tt
entries_sound (suc k) ts = behind_opaque (Sound AreEntries ts) false ts (more_entries (entries_at k) (entry_status ts)) tt (λ after h s. more_entries_sound (entries_at k) (entries_sound k) ts after h)

list_sound : (ts : List Token) → Sound IsList ts (list_at ts)
unfolding list_at
list_sound (t.OpenSquare ∷ t.CloseSquare ∷ ts) = EmptyList ts
list_sound (t.OpenSquare ∷ ts) = then_some AreEntries IsList ts (t.OpenSquare ∷ ts) (entries_at (length ts) ts) (entries_sound (length ts) ts) (λ status rest h. ListOf ts status rest h)
list_sound _ = tt

entries_only : {ts : List Token} {status : Option (List ℕ)} {rest : List Token} → AreEntries ts status rest → (k : ℕ) → length ts ≤ k → entries_at k ts ≡ Some (status, rest)
unfolding entries_at more_entries
entries_only (LastEntry ts rest h) zero le = absurd (let d = opaque_shorter h in omega arith)
entries_only (LastEntry ts rest h) (suc k) le = rw (opaque_only h refl false) refl
entries_only (MoreEntries ts mid later rest h g) zero le = absurd (let d = opaque_shorter h in omega arith)
entries_only (MoreEntries ts mid later rest h g) (suc k) le = let d = opaque_shorter h in rw (opaque_only h refl false, entries_only g k (omega arith)) refl

list_token : (token : Token) (rest : List Token) → IsPlain token → list_at (t.OpenSquare ∷ token ∷ rest) ≡ entries_at (length (token ∷ rest)) (token ∷ rest)
unfolding list_at
list_token t.CloseSquare rest plain = absurd plain
list_token _ rest plain = refl

list_piece : {ts rest : List Token} → IsPiece ts rest → list_at (t.OpenSquare ∷ ts) ≡ entries_at (length ts) ts
unfolding list_at
list_piece (OneToken token rest plain) = list_token token rest plain
list_piece (RoundGroup ts rest inside) = refl
list_piece (SquareGroup ts rest inside) = refl

list_opaque_start : {p : Bool} {ts rest : List Token} → IsOpaque p ts rest → list_at (t.OpenSquare ∷ ts) ≡ entries_at (length ts) ts
list_opaque_start (LastPiece ts rest may piece) = list_piece piece
list_opaque_start (MorePieces ts mid rest may piece o) = list_piece piece

list_start : {ts : List Token} {status : Option (List ℕ)} {rest : List Token} → AreEntries ts status rest → list_at (t.OpenSquare ∷ ts) ≡ entries_at (length ts) ts
list_start (LastEntry ts rest h) = list_opaque_start h
list_start (MoreEntries ts mid later rest h g) = list_opaque_start h

list_only : {ts : List Token} {status : Option (List ℕ)} {rest : List Token} → IsList ts status rest → list_at ts ≡ Some (status, rest)
unfolding list_at
list_only (EmptyList rest) = refl
list_only (ListOf ts status rest h) = list_start h ∙ entries_only h (length ts) (omega arith)

entries_inside : {ts : List Token} {status : Option (List ℕ)} {rest : List Token} → AreEntries ts status rest → IsInside ts (t.CloseSquare ∷ rest)
entries_inside (LastEntry ts rest h) = opaque_inside h (NoMore (t.CloseSquare ∷ rest))
entries_inside (MoreEntries ts mid later rest h g) = opaque_inside h (CommaFirst mid (t.CloseSquare ∷ rest) (entries_inside g))

list_is_opaque : {ts : List Token} {status : Option (List ℕ)} {rest : List Token} → IsList ts status rest → IsOpaque false ts rest
list_is_opaque (EmptyList rest) = LastPiece (t.OpenSquare ∷ t.CloseSquare ∷ rest) rest tt (SquareGroup (t.CloseSquare ∷ rest) rest (NoMore (t.CloseSquare ∷ rest)))
list_is_opaque (ListOf ts status rest h) = LastPiece (t.OpenSquare ∷ ts) rest tt (SquareGroup ts rest (entries_inside h))

info_is_opaque : {ts : List Token} {status : Option (List ℕ)} {rest : List Token} → IsInfo ts status rest → IsOpaque false ts rest
info_is_opaque (InfoList ts status rest h) = list_is_opaque h
info_is_opaque (OtherInfo ts rest h none) = h

-- the information before a comma
abbrev BeforeComma : List Token → Option (List ℕ) → List Token → Type 0
BeforeComma ts status rest = IsInfo ts status (t.Comma ∷ rest)

term_from : (ts : List Token) → ((status : Option (List ℕ)) (rest : List Token) → list_at ts ≡ Some (status, t.Comma ∷ rest) → ⊥) → (o : Option (List Token)) → opaque ts ≡ o
    → Sound BeforeComma ts (o >>= behind_comma >>= λ rest. Some (None, rest))
term_from ts none None e = tt
term_from ts none (Some []) e = tt
term_from ts none (Some (t.Comma ∷ rest)) e = OtherInfo ts (t.Comma ∷ rest) (opaque_so false ts (t.Comma ∷ rest) e) (λ status h. none status rest (list_only h))
term_from ts none (Some (_ ∷ rest)) e = tt

term_sound : (ts : List Token) → ((status : Option (List ℕ)) (rest : List Token) → list_at ts ≡ Some (status, t.Comma ∷ rest) → ⊥) → Sound BeforeComma ts (term_at ts)
unfolding term_at
term_sound ts none = term_from ts none (opaque ts) refl

some_is_not_none : {A : Type 0} (x : A) → Some x ≡ None → ⊥
some_is_not_none x e = absurd cc

not_listed : (ts : List Token) (read : Option (Option (List ℕ) × List Token)) → list_at ts ≡ read → listed read ≡ None → (status : Option (List ℕ)) (rest : List Token) → list_at ts ≡ Some (status, t.Comma ∷ rest) → ⊥
not_listed ts read e none status rest h = some_is_not_none {A = Option (List ℕ) × List Token} (status, rest) (ap listed (sym h ∙ e) ∙ none)

info_from : (ts : List Token) (o : Option (Option (List ℕ) × List Token)) → list_at ts ≡ o → Sound BeforeComma ts (or_term ts (listed o))
info_from ts None e = term_sound ts (not_listed ts None e refl)
info_from ts (Some (status, [])) e = term_sound ts (not_listed ts (Some (status, [])) e refl)
info_from ts (Some (status, t.Comma ∷ rest)) e = InfoList ts status (t.Comma ∷ rest) (subst (Sound IsList ts) e (list_sound ts))
info_from ts (Some (status, token ∷ rest)) e = term_sound ts (not_listed ts (Some (status, token ∷ rest)) e refl)

info_sound : (ts : List Token) → Sound BeforeComma ts (info_at ts)
unfolding info_at
info_sound ts = info_from ts (list_at ts) refl

tail_same : {A : Type 0} {x y : A} {xs ys : List A} → x ∷ xs ≡ y ∷ ys → xs ≡ ys
tail_same e = cc

listed_none : (ts rest : List Token) → IsOpaque false ts (t.Comma ∷ rest) → ((status : Option (List ℕ)) → IsList ts status (t.Comma ∷ rest) → ⊥) → (o : Option (Option (List ℕ) × List Token)) → list_at ts ≡ o → listed o ≡ None
listed_none ts rest h none None e = refl
listed_none ts rest h none (Some (status, [])) e = refl
listed_none ts rest h none (Some (status, t.Comma ∷ after)) e =
    let l : IsList ts status (t.Comma ∷ after) = subst (Sound IsList ts) e (list_sound ts) in
    absurd (none status (subst (λ (x : List Token). IsList ts status x) (opaque_ends_once (list_is_opaque l) refl h refl) l))
listed_none ts rest h none (Some (status, _ ∷ after)) e = refl

info_only : {ts : List Token} {status : Option (List ℕ)} {after : List Token} → IsInfo ts status after → (rest : List Token) → after ≡ t.Comma ∷ rest → info_at ts ≡ Some (status, rest)
unfolding info_at term_at
info_only (InfoList ts status after h) rest e = rw (list_only h, e) refl
info_only (OtherInfo ts after h none) rest e =
    let o : IsOpaque false ts (t.Comma ∷ rest) = subst (λ (x : List Token). IsOpaque false ts x) e h in
    let n : (status : Option (List ℕ)) → IsList ts status (t.Comma ∷ rest) → ⊥ = λ status l. none status (subst (λ (x : List Token). IsList ts status x) (sym e) l) in
    rw (listed_none ts rest o n (list_at ts) refl, opaque_only o refl false) refl

-- some information is read where an opaque term stands before a comma
info_reads_from : (ts rest : List Token) → IsOpaque false ts (t.Comma ∷ rest) → (o : Option (Option (List ℕ) × List Token)) → list_at ts ≡ o → (status : Option (List ℕ)) × (or_term ts (listed o) ≡ Some (status, rest))
unfolding term_at
info_reads_from ts rest h None e = (None, rw (opaque_only h refl false) refl)
info_reads_from ts rest h (Some (status, [])) e = (None, rw (opaque_only h refl false) refl)
info_reads_from ts rest h (Some (status, t.Comma ∷ after)) e =
    let l : IsList ts status (t.Comma ∷ after) = subst (Sound IsList ts) e (list_sound ts) in
    (status, ap (λ (x : List Token). (let y : Option (List ℕ) × List Token = (status, x) in Some y)) (tail_same (opaque_ends_once (list_is_opaque l) refl h refl)))
info_reads_from ts rest h (Some (status, _ ∷ after)) e = (None, rw (opaque_only h refl false) refl)

info_reads : (ts rest : List Token) → IsOpaque false ts (t.Comma ∷ rest) → (status : Option (List ℕ)) × (info_at ts ≡ Some (status, rest))
unfolding info_at
info_reads ts rest h = info_reads_from ts rest h (list_at ts) refl

-- ---- what has the form of a source is an opaque term

remark_inside : {mid after rest : List Token} → IsRemark mid after → IsInside after rest → IsInside mid rest
remark_inside (NoRemark after) inside = inside
remark_inside {rest = rest} (Remark ts after o) inside = PieceFirst (t.Colon ∷ ts) ts rest (OneToken t.Colon ts tt) (opaque_inside o inside)

forms_inside : {ts rest : List Token} → HaveForm ts rest → IsInside ts (t.CloseSquare ∷ rest)
forms_inside (LastForm ts mid rest o r) = opaque_inside o (remark_inside r (NoMore (t.CloseSquare ∷ rest)))
forms_inside (MoreForms ts mid next rest o r h) = opaque_inside o (remark_inside r (CommaFirst next (t.CloseSquare ∷ rest) (forms_inside h)))

list_form_inside : {ts rest : List Token} → HasListForm ts rest → IsInside ts (t.CloseSquare ∷ rest)
list_form_inside (EmptyForm rest) = NoMore (t.CloseSquare ∷ rest)
list_form_inside (SomeForms ts rest h) = forms_inside h

file_inside : {ts : List Token} {kept : Option (List ℕ)} {rest : List Token} → IsFile ts kept rest → IsInside ts (t.CloseRound ∷ rest)
file_inside (FileAlone ts rest h) = opaque_inside h (NoMore (t.CloseRound ∷ rest))
file_inside (FileAndName ts mid rest h g) = opaque_inside h (CommaFirst mid (t.CloseRound ∷ rest) (opaque_inside g (NoMore (t.CloseRound ∷ rest))))

-- a word and a group in round brackets
called : (p : Bool) (word : List ℕ) (ts rest : List Token) → IsInside ts (t.CloseRound ∷ rest) → IsOpaque p (t.Lower word ∷ t.OpenRound ∷ ts) rest
called p word ts rest inside = MorePieces (t.Lower word ∷ t.OpenRound ∷ ts) (t.OpenRound ∷ ts) rest tt (OneToken (t.Lower word) (t.OpenRound ∷ ts) tt) (LastPiece (t.OpenRound ∷ ts) rest tt (RoundGroup ts rest inside))

name_is_opaque : (p : Bool) (token : Token) (name : List ℕ) (rest : List Token) → name_of token ≡ Some name → IsOpaque p (token ∷ rest) rest
name_is_opaque p (t.Lower word) name rest e = LastPiece (t.Lower word ∷ rest) rest tt (OneToken (t.Lower word) rest tt)
name_is_opaque p (t.Quoted word) name rest e = LastPiece (t.Quoted word ∷ rest) rest tt (OneToken (t.Quoted word) rest tt)
name_is_opaque p (t.Number digits) name rest e = LastPiece (t.Number digits ∷ rest) rest tt (OneToken (t.Number digits) rest tt)
name_is_opaque p _ name rest e = absurd cc

form_is_opaque : {ts rest : List Token} → HasForm ts rest → (p : Bool) → IsOpaque p ts rest
form_is_opaque (NameForm token name rest e) p = name_is_opaque p token name rest e
form_is_opaque (FileForm ts kept rest f) p = called p (codes "file") ts rest (file_inside f)
form_is_opaque (InferenceForm ts info list rest o i l) p = called p (codes "inference") ts rest
    (opaque_inside o (CommaFirst info (t.CloseRound ∷ rest) (opaque_inside i (CommaFirst (t.OpenSquare ∷ list) (t.CloseRound ∷ rest)
    (PieceFirst (t.OpenSquare ∷ list) (t.CloseRound ∷ rest) (t.CloseRound ∷ rest) (SquareGroup list (t.CloseRound ∷ rest) (list_form_inside l)) (NoMore (t.CloseRound ∷ rest)))))))

mutual
  pub source_is_opaque : {p : Bool} {ts : List Token} {s : Source} {rest : List Token} → IsSource p ts s rest → IsOpaque p ts rest
  source_is_opaque (NameSource p token name rest e) = form_is_opaque (NameForm token name rest e) p
  source_is_opaque (FileSource p ts kept rest f) = form_is_opaque (FileForm ts kept rest f) p
  source_is_opaque (InferenceSource p ts info status list parents rest o i l) = form_is_opaque (InferenceForm ts info list rest o (info_is_opaque i) (parent_list_form l)) p
  source_is_opaque (OtherSource p ts rest o none) = o

  parent_list_form : {ts : List Token} {parents : List Source} {rest : List Token} → IsParentList ts parents rest → HasListForm ts rest
  parent_list_form (NoParents rest) = EmptyForm rest
  parent_list_form (SomeParents ts parents rest h) = SomeForms ts rest (parents_form h)

  parents_form : {ts : List Token} {parents : List Source} {rest : List Token} → AreParents ts parents rest → HaveForm ts rest
  parents_form (LastParent ts s mid rest h r) = LastForm ts mid rest (source_is_opaque h) r
  parents_form (MoreParents ts s mid next parents rest h r g) = MoreForms ts mid next rest (source_is_opaque h) r (parents_form g)

remark_shorter : {mid rest : List Token} → IsRemark mid rest → length rest ≤ length mid
remark_shorter (NoRemark rest) = omega arith
remark_shorter (Remark ts rest o) = let k = opaque_shorter o in omega arith

remark_only : {mid rest : List Token} → IsRemark mid rest → stops false rest ≡ true → remark_at mid ≡ Some rest
remark_only (NoRemark []) s = refl
remark_only (NoRemark (t.Colon ∷ rest)) s = absurd cc
remark_only (NoRemark (_ ∷ rest)) s = refl
remark_only (Remark ts rest o) s = opaque_only o s false

remark_stops : {mid rest : List Token} → IsRemark mid rest → stops true rest ≡ true → stops true mid ≡ true
remark_stops (NoRemark rest) s = s
remark_stops (Remark ts rest o) s = refl

-- ---- what is read as a source other than an opaque term

-- a source and the remark behind it
abbrev IsParent : List Token → Source → List Token → Type 0
IsParent ts s rest = (mid : List Token) × IsSource true ts s mid × IsRemark mid rest

with_remark : (ts : List Token) (s : Source) (mid : List Token) → IsSource true ts s mid → Sound IsParent ts (remark_at mid >>= λ rest. Some (s, rest))
with_remark ts s [] h = ([], h, NoRemark [])
with_remark ts s (t.Colon ∷ mid) h = behind_opaque (Sound IsParent ts) false mid (λ rest. Some (s, rest)) tt (λ rest o stop. (t.Colon ∷ mid, h, Remark mid rest o))
with_remark ts s (token ∷ mid) h = (token ∷ mid, h, NoRemark (token ∷ mid))

parent_shorter : {ts : List Token} {s : Source} {rest : List Token} → IsParent ts s rest → length rest < length ts
parent_shorter h = let k = opaque_shorter (source_is_opaque h.1) in let j = remark_shorter h.2 in omega arith

-- of a source by name, file or inference: it is one in each place, and it has a form
record IsFormed (ts : List Token) (s : Source) (rest : List Token) : Type 0 where
  anywhere : (p : Bool) → IsSource p ts s rest
  form : HasForm ts rest

module _ (n : ℕ) (one : Reader Source) (sound : (ts : List Token) → length ts ≤ n → Sound (IsSource true) ts (one ts)) where
  parent_sound : (ts : List Token) → length ts ≤ n → Sound IsParent ts (parent_with one ts)
  unfolding parent_with
  parent_sound ts le = then_sound (IsSource true) IsParent ts ts (one ts) _ (sound ts le) (λ s mid h. with_remark ts s mid h)

  more_parents_sound : (others : Reader (List Source)) → ((ts : List Token) → length ts ≤ n → Sound AreParents ts (others ts)) → (ts : List Token) (s : Source) (rest : List Token) → length ts ≤ n → IsParent ts s rest
      → Sound AreParents ts (more_parents others s rest)
  unfolding more_parents
  more_parents_sound others more ts s [] le h = tt
  more_parents_sound others more ts s (t.Comma ∷ next) le h =
      let k = parent_shorter h in
      then_sound AreParents AreParents ts next (others next) _ (more next (omega arith)) (λ parents rest g. MoreParents ts s h.0 next parents rest h.1 h.2 g)
  more_parents_sound others more ts s (t.CloseSquare ∷ rest) le h = LastParent ts s h.0 rest h.1 h.2
  more_parents_sound others more ts s (_ ∷ rest) le h = tt

  parents_sound : (k : ℕ) (ts : List Token) → length ts ≤ n → Sound AreParents ts (parents_at k one ts)
  unfolding parents_at
  parents_sound zero ts le = tt
  parents_sound (suc k) ts le = then_sound IsParent AreParents ts ts (parent_with one ts) _ (parent_sound ts le) (λ s rest h. more_parents_sound (parents_at k one) (parents_sound k) ts s rest le h)

  parent_list_sound : (ts : List Token) → length ts ≤ n → Sound IsParentList ts (parent_list_at one ts)
  unfolding parent_list_at
  parent_list_sound [] le = then_some AreParents IsParentList [] [] (parents_at (length {A = Token} []) one []) (parents_sound (length {A = Token} []) [] le) (λ parents rest h. SomeParents [] parents rest h)
  parent_list_sound (t.CloseSquare ∷ ts) le = NoParents ts
  parent_list_sound (token ∷ ts) le =
      then_some AreParents IsParentList (token ∷ ts) (token ∷ ts) (parents_at (length (token ∷ ts)) one (token ∷ ts)) (parents_sound (length (token ∷ ts)) (token ∷ ts) le) (λ parents rest h. SomeParents (token ∷ ts) parents rest h)

  closed_sound : (ts info : List Token) (status : Option (List ℕ)) (list : List Token) (parents : List Source) (after : List Token)
      → IsOpaque false ts (t.Comma ∷ info) → IsInfo info status (t.Comma ∷ t.OpenSquare ∷ list) → IsParentList list parents after
      → Sound IsFormed (t.Lower (codes "inference") ∷ t.OpenRound ∷ ts) (round_closed status parents after)
  closed_sound ts info status list parents [] o i l = tt
  closed_sound ts info status list parents (t.CloseRound ∷ rest) o i l =
      record { anywhere = λ p. InferenceSource p ts info status list parents rest o i l; form = InferenceForm ts info list rest o (info_is_opaque i) (parent_list_form l) }
  closed_sound ts info status list parents (_ ∷ rest) o i l = tt

  derived_sound : (ts info : List Token) (status : Option (List ℕ)) (rest : List Token) → IsOpaque false ts (t.Comma ∷ info) → IsInfo info status (t.Comma ∷ rest) → length rest ≤ n
      → Sound IsFormed (t.Lower (codes "inference") ∷ t.OpenRound ∷ ts) (derived_at one status rest)
  unfolding derived_at
  derived_sound ts info status [] o i le = tt
  derived_sound ts info status (t.OpenSquare ∷ list) o i le =
      then_sound IsParentList IsFormed (t.Lower (codes "inference") ∷ t.OpenRound ∷ ts) list (parent_list_at one list) _ (parent_list_sound list (omega arith)) (λ parents after l. closed_sound ts info status list parents after o i l)
  derived_sound ts info status (_ ∷ rest) o i le = tt

  inference_more : (ts after : List Token) → IsOpaque false ts after → length ts ≤ n
      → Sound IsFormed (t.Lower (codes "inference") ∷ t.OpenRound ∷ ts) (behind_comma after >>= λ rest. info_at rest >>= λ info. derived_at one info.0 info.1)
  inference_more ts [] o le = tt
  inference_more ts (t.Comma ∷ info) o le =
      let k = opaque_shorter o in
      then_sound BeforeComma IsFormed (t.Lower (codes "inference") ∷ t.OpenRound ∷ ts) info (info_at info) _ (info_sound info)
      (λ status rest i. let j = opaque_shorter (info_is_opaque i) in derived_sound ts info status rest o i (omega arith))
  inference_more ts (_ ∷ rest) o le = tt

  inference_sound : (ts : List Token) → length ts ≤ n → Sound IsFormed (t.Lower (codes "inference") ∷ t.OpenRound ∷ ts) (inference_at one ts)
  unfolding inference_at
  inference_sound ts le = behind_opaque (λ (x : Option (List Token)). Sound IsFormed (t.Lower (codes "inference") ∷ t.OpenRound ∷ ts) (x >>= λ rest. info_at rest >>= λ info. derived_at one info.0 info.1)) false ts behind_comma tt
      (λ after o s. inference_more ts after o le)

  file_formed : (ts : List Token) → Sound IsFormed (t.Lower (codes "file") ∷ t.OpenRound ∷ ts) (file_at ts >>= λ x. Some (source.File x.0, x.1))
  file_formed ts = then_sound IsFile IsFormed (t.Lower (codes "file") ∷ t.OpenRound ∷ ts) ts (file_at ts) _ (file_sound ts)
      (λ kept rest f. record { anywhere = λ p. FileSource p ts kept rest f; form = FileForm ts kept rest f })

  call_sound : (word : List ℕ) (ts : List Token) → length ts ≤ n → Sound IsFormed (t.Lower word ∷ t.OpenRound ∷ ts) (call_at one word ts)
  unfolding call_at
  call_sound word ts le = cond_both (pointwise nat_eq word (codes "file")) _ _ (Sound IsFormed (t.Lower word ∷ t.OpenRound ∷ ts))
      (λ e. subst (λ (w : List ℕ). Sound IsFormed (t.Lower w ∷ t.OpenRound ∷ ts) (file_at ts >>= λ x. Some (source.File x.0, x.1))) (sym ((bytes_decides word (codes "file")).0 e)) (file_formed ts))
      (λ d. cond_both (pointwise nat_eq word (codes "inference")) _ _ (Sound IsFormed (t.Lower word ∷ t.OpenRound ∷ ts))
      (λ e. subst (λ (w : List ℕ). Sound IsFormed (t.Lower w ∷ t.OpenRound ∷ ts) (inference_at one ts)) (sym ((bytes_decides word (codes "inference")).0 e)) (inference_sound ts le))
      (λ f. tt))

  named_formed : (token : Token) (name : List ℕ) (ts : List Token) → name_of token ≡ Some name → IsFormed (token ∷ ts) (source.Plain name) ts
  named_formed token name ts e = record { anywhere = λ p. NameSource p token name ts e; form = NameForm token name ts e }

  form_sound : (ts : List Token) → length ts ≤ suc n → Sound IsFormed ts (form_at one ts)
  unfolding form_at
  form_sound (t.Lower word ∷ t.OpenRound ∷ ts) le = call_sound word ts (omega arith)
  form_sound (t.Lower word ∷ ts) le = named_formed (t.Lower word) word ts refl
  form_sound (t.Quoted word ∷ ts) le = named_formed (t.Quoted word) word ts refl
  form_sound (t.Number digits ∷ ts) le = cond_both (list_all is_digit digits) _ _ (Sound IsFormed (t.Number digits ∷ ts))
      (λ e. named_formed (t.Number digits) digits ts (rw e refl)) (λ d. tt)
  form_sound _ le = tt

-- ---- each form is read

-- what stands before a closing bracket isn't read as an empty list
parent_list_token : (one : Reader Source) (token : Token) (rest : List Token) → IsPlain token → parent_list_at one (token ∷ rest) ≡ parents_at (length (token ∷ rest)) one (token ∷ rest)
unfolding parent_list_at
parent_list_token one t.CloseSquare rest plain = absurd plain
parent_list_token one _ rest plain = refl

parent_list_piece : (one : Reader Source) {ts rest : List Token} → IsPiece ts rest → parent_list_at one ts ≡ parents_at (length ts) one ts
unfolding parent_list_at
parent_list_piece one (OneToken token rest plain) = parent_list_token one token rest plain
parent_list_piece one (RoundGroup ts rest inside) = refl
parent_list_piece one (SquareGroup ts rest inside) = refl

parent_list_start : (one : Reader Source) {p : Bool} {ts rest : List Token} → IsOpaque p ts rest → parent_list_at one ts ≡ parents_at (length ts) one ts
parent_list_start one (LastPiece ts rest may piece) = parent_list_piece one piece
parent_list_start one (MorePieces ts mid rest may piece o) = parent_list_piece one piece

forms_start : (one : Reader Source) {ts rest : List Token} → HaveForm ts rest → parent_list_at one ts ≡ parents_at (length ts) one ts
forms_start one (LastForm ts mid rest o r) = parent_list_start one o
forms_start one (MoreForms ts mid next rest o r h) = parent_list_start one o

-- a name that ends is read
lower_read : (one : Reader Source) (p : Bool) (word : List ℕ) (rest : List Token) → stops p rest ≡ true → form_at one (t.Lower word ∷ rest) ≡ Some (source.Plain word, rest)
unfolding form_at
lower_read one p word [] s = refl
lower_read one p word (t.OpenRound ∷ rest) s = absurd cc
lower_read one p word (_ ∷ rest) s = refl

renamed : (name other : List ℕ) (rest : List Token) → Some name ≡ Some other → (let x : Source × List Token = (source.Plain name, rest) in Some x) ≡ Some (source.Plain other, rest)
renamed name other rest e = ap (λ (n : Option (List ℕ)). plain_of n) e
  where
    plain_of : Option (List ℕ) → Option (Source × List Token)
    plain_of None = None
    plain_of (Some n) = Some (source.Plain n, rest)

name_read : (one : Reader Source) (p : Bool) (token : Token) (name : List ℕ) (rest : List Token) → name_of token ≡ Some name → stops p rest ≡ true → form_at one (token ∷ rest) ≡ Some (source.Plain name, rest)
unfolding form_at
name_read one p (t.Lower word) name rest e s = lower_read one p word rest s ∙ renamed word name rest e
name_read one p (t.Quoted word) name rest e s = renamed word name rest e
name_read one p (t.Number digits) name rest e s = elim (cases_Bool (list_all is_digit digits)) [
  | inl yes' ↦ rw yes' (renamed digits name rest (rw yes' at e))
  | inr no' ↦ (let c = rw no' at e in absurd cc)
]
name_read one p _ name rest e s = absurd cc

file_read : (one : Reader Source) (ts : List Token) (kept : Option (List ℕ)) (rest : List Token) → IsFile ts kept rest → form_at one (t.Lower (codes "file") ∷ t.OpenRound ∷ ts) ≡ Some (source.File kept, rest)
unfolding form_at call_at
file_read one ts kept rest f = rw (file_only f) refl

inference_read : (one : Reader Source) (ts info : List Token) (status : Option (List ℕ)) (list : List Token) (parents : List Source) (rest : List Token)
    → IsOpaque false ts (t.Comma ∷ info) → info_at info ≡ Some (status, t.OpenSquare ∷ list) → parent_list_at one list ≡ Some (parents, t.CloseRound ∷ rest)
    → form_at one (t.Lower (codes "inference") ∷ t.OpenRound ∷ ts) ≡ Some (source.Inference status parents, rest)
unfolding form_at call_at inference_at derived_at
inference_read one ts info status list parents rest o i l = rw (opaque_only o refl false, i, l) refl

parent_read : (one : Reader Source) (ts : List Token) (s : Source) (mid rest : List Token) → one ts ≡ Some (s, mid) → remark_at mid ≡ Some rest → parent_with one ts ≡ Some (s, rest)
unfolding parent_with
parent_read one ts s mid rest e r = rw (e, r) refl

last_parent_read : (one : Reader Source) (k : ℕ) (ts : List Token) (s : Source) (rest : List Token) → parent_with one ts ≡ Some (s, t.CloseSquare ∷ rest) → parents_at (suc k) one ts ≡ Some (s ∷ [], rest)
unfolding parents_at more_parents
last_parent_read one k ts s rest e = rw e refl

more_parents_read : (one : Reader Source) (k : ℕ) (ts : List Token) (s : Source) (next : List Token) (parents : List Source) (rest : List Token)
    → parent_with one ts ≡ Some (s, t.Comma ∷ next) → parents_at k one next ≡ Some (parents, rest) → parents_at (suc k) one ts ≡ Some (s ∷ parents, rest)
unfolding parents_at more_parents
more_parents_read one k ts s next parents rest e g = rw (e, g) refl

empty_list_read : (one : Reader Source) (rest : List Token) → parent_list_at one (t.CloseSquare ∷ rest) ≡ Some ([], rest)
unfolding parent_list_at
empty_list_read one rest = refl

module _ (n : ℕ) (one : Reader Source) (reads : (ts rest : List Token) → IsOpaque true ts rest → stops true rest ≡ true → length ts ≤ n → (s : Source) × (one ts ≡ Some (s, rest))) where
  parent_reads : (ts mid rest : List Token) → IsOpaque true ts mid → IsRemark mid rest → stops false rest ≡ true → stops true rest ≡ true → length ts ≤ n → (s : Source) × (parent_with one ts ≡ Some (s, rest))
  parent_reads ts mid rest o r s u le = let x = reads ts mid o (remark_stops r u) le in (x.0, parent_read one ts x.0 mid rest x.1 (remark_only r s))

  parents_read : {ts rest : List Token} → HaveForm ts rest → (k : ℕ) → length ts ≤ k → length ts ≤ n → (parents : List Source) × (parents_at k one ts ≡ Some (parents, rest))
  parents_read (LastForm ts mid rest o r) zero lk le = absurd (let d = opaque_shorter o in omega arith)
  parents_read (LastForm ts mid rest o r) (suc k) lk le = let x = parent_reads ts mid (t.CloseSquare ∷ rest) o r refl refl le in (x.0 ∷ [], last_parent_read one k ts x.0 rest x.1)
  parents_read (MoreForms ts mid next rest o r h) zero lk le = absurd (let d = opaque_shorter o in omega arith)
  parents_read (MoreForms ts mid next rest o r h) (suc k) lk le =
      let d = opaque_shorter o in
      let j = remark_shorter r in
      let x = parent_reads ts mid (t.Comma ∷ next) o r refl refl le in
      let y = parents_read h k (omega arith) (omega arith) in
      (x.0 ∷ y.0, more_parents_read one k ts x.0 next y.0 rest x.1 y.1)

  list_reads : {ts rest : List Token} → HasListForm ts rest → length ts ≤ n → (parents : List Source) × (parent_list_at one ts ≡ Some (parents, rest))
  list_reads (EmptyForm rest) le = ([], empty_list_read one rest)
  list_reads (SomeForms ts rest h) le = let x = parents_read h (length ts) (omega arith) le in (x.0, forms_start one h ∙ x.1)

  form_reads : {ts rest : List Token} → HasForm ts rest → (p : Bool) → stops p rest ≡ true → length ts ≤ suc n → (s : Source) × (form_at one ts ≡ Some (s, rest))
  form_reads (NameForm token name rest e) p s le = (source.Plain name, name_read one p token name rest e s)
  form_reads (FileForm ts kept rest f) p s le = (source.File kept, file_read one ts kept rest f)
  form_reads (InferenceForm ts info list rest o i l) p s le =
      let d = opaque_shorter o in
      let j = opaque_shorter i in
      let x = info_reads info (t.OpenSquare ∷ list) i in
      let y = list_reads l (omega arith) in
      (source.Inference x.0 y.0, inference_read one ts info x.0 list y.0 rest o x.1 y.1)

-- ---- what is read is a source, and where an opaque term stands some source is read

other_read : {p : Bool} {ts rest : List Token} → IsOpaque p ts rest → stops p rest ≡ true → other_at p ts ≡ Some (source.Other, rest)
unfolding other_at
other_read o s = rw (opaque_only o s false) refl

other_sound : (p : Bool) (ts : List Token) → ((rest : List Token) → stops p rest ≡ true → HasForm ts rest → ⊥) → Sound (IsSource p) ts (other_at p ts)
unfolding other_at
other_sound p ts none = behind_opaque (Sound (IsSource p) ts) p ts (λ rest. Some (source.Other, rest)) tt (λ rest o s. OtherSource p ts rest o (none rest s))

none_is_some : {A : Type 0} (x : A) → None ≡ Some x → ⊥
none_is_some x e = absurd cc

read_same : {A : Type 0} {x y : A} → Some x ≡ Some y → x ≡ y
read_same e = cc

true_is_false : {b : Bool} → b ≡ true → b ≡ false → ⊥
true_is_false e f = absurd cc

fits_here : (p : Bool) (ts : List Token) (o : Option (Source × List Token)) (s : Source) (rest : List Token) → o ≡ Some (s, rest) → stops p rest ≡ true → or_other p ts (fitting p o) ≡ Some (s, rest)
fits_here p ts o s rest e stop = rw (e, stop) refl

record Laws (n : ℕ) : Type 0 where
  sound : (p : Bool) (ts : List Token) → length ts ≤ n → Sound (IsSource p) ts (source_at n p ts)
  reads : (p : Bool) (ts rest : List Token) → IsOpaque p ts rest → stops p rest ≡ true → length ts ≤ n → (s : Source) × (source_at n p ts ≡ Some (s, rest))

module _ (n : ℕ) (l : Laws n) where
  forms_are : (ts : List Token) → length ts ≤ suc n → Sound IsFormed ts (form_at (source_at n true) ts)
  forms_are ts le = form_sound n (source_at n true) (λ x lx. l.sound true x lx) ts le

  are_forms : {ts rest : List Token} → HasForm ts rest → (p : Bool) → stops p rest ≡ true → length ts ≤ suc n → (s : Source) × (form_at (source_at n true) ts ≡ Some (s, rest))
  are_forms h p s le = form_reads n (source_at n true) (λ x rest o u lx. l.reads true x rest o u lx) h p s le

  -- what was read ends where the opaque term does, if it fits
  same_end : (p : Bool) (ts : List Token) (x : Source × List Token) (rest : List Token) → length ts ≤ suc n → form_at (source_at n true) ts ≡ Some x → stops p x.1 ≡ true → IsOpaque p ts rest → stops p rest ≡ true → x.1 ≡ rest
  same_end p ts x rest le e s o u = let f : IsFormed ts x.0 x.1 = subst (Sound IsFormed ts) e (forms_are ts le) in opaque_ends_once (form_is_opaque f.form p) s o u

  no_form : (p : Bool) (ts : List Token) (x : Source × List Token) → length ts ≤ suc n → form_at (source_at n true) ts ≡ Some x → stops p x.1 ≡ false → (rest : List Token) → stops p rest ≡ true → HasForm ts rest → ⊥
  no_form p ts x le e d rest s form =
      let r = are_forms form p s le in
      let same = read_same {A = Source × List Token} (sym r.1 ∙ e) in
      true_is_false (subst (λ (y : Source × List Token). stops p y.1 ≡ true) same s) d

  sound_from : (p : Bool) (ts : List Token) → length ts ≤ suc n → (o : Option (Source × List Token)) → form_at (source_at n true) ts ≡ o → Sound (IsSource p) ts (or_other p ts (fitting p o))
  sound_from p ts le None e = other_sound p ts (λ rest s form. let r = are_forms form p s le in none_is_some {A = Source × List Token} (r.0, rest) (sym e ∙ r.1))
  sound_from p ts le (Some x) e = cond_both (stops p x.1) (Some x) None (λ o. Sound (IsSource p) ts (or_other p ts o))
      (λ s. let f : IsFormed ts x.0 x.1 = subst (Sound IsFormed ts) e (forms_are ts le) in f.anywhere p)
      (λ d. other_sound p ts (no_form p ts x le e d))

  reads_from : (p : Bool) (ts rest : List Token) → IsOpaque p ts rest → stops p rest ≡ true → length ts ≤ suc n → (o : Option (Source × List Token)) → form_at (source_at n true) ts ≡ o → (s : Source) × (or_other p ts (fitting p o) ≡ Some (s, rest))
  reads_from p ts rest o u le None e = (source.Other, other_read o u)
  reads_from p ts rest o u le (Some x) e = elim (cases_Bool (stops p x.1)) [
    | inl s ↦ (x.0, fits_here p ts (Some x) x.0 rest (ap (λ (y : List Token). (let z : Source × List Token = (x.0, y) in Some z)) (same_end p ts x rest le e s o u)) u)
    | inr d ↦ (source.Other, rw d (other_read o u))
  ]

  next_laws : Laws (suc n)
  unfolding source_at
  next_laws = record {
    sound = λ p ts le. sound_from p ts le (form_at (source_at n true) ts) refl;
    reads = λ p ts rest o s le. reads_from p ts rest o s le (form_at (source_at n true) ts) refl;
  }

laws : (n : ℕ) → Laws n
unfolding source_at
laws zero = record { sound = λ p ts le. tt; reads = λ p ts rest o s le. absurd (let d = opaque_shorter o in omega arith) }
laws (suc n) = next_laws n (laws n)

pub source_sound : (n : ℕ) (p : Bool) (ts : List Token) → length ts ≤ n → Sound (IsSource p) ts (source_at n p ts)
source_sound n p ts le = (laws n).sound p ts le

-- ---- each source is read

other_only_from : (n : ℕ) (p : Bool) (ts rest : List Token) → IsOpaque p ts rest → (HasForm ts rest → ⊥) → stops p rest ≡ true → length ts ≤ suc n → (o : Option (Source × List Token)) → form_at (source_at n true) ts ≡ o → or_other p ts (fitting p o) ≡ Some (source.Other, rest)
other_only_from n p ts rest o none u le None e = other_read o u
other_only_from n p ts rest o none u le (Some x) e = elim (cases_Bool (stops p x.1)) [
  | inl s ↦ (let f : IsFormed ts x.0 x.1 = subst (Sound IsFormed ts) e (forms_are n (laws n) ts le) in absurd (none (subst (HasForm ts) (same_end n (laws n) p ts x rest le e s o u) f.form)))
  | inr d ↦ rw d (other_read o u)
]

source_step : (n : ℕ) (p : Bool) (ts : List Token) (s : Source) (rest : List Token) → form_at (source_at n true) ts ≡ Some (s, rest) → stops p rest ≡ true → source_at (suc n) p ts ≡ Some (s, rest)
unfolding source_at
source_step n p ts s rest e stop = fits_here p ts (form_at (source_at n true) ts) s rest e stop

other_step : (n : ℕ) (p : Bool) (ts rest : List Token) → IsOpaque p ts rest → (HasForm ts rest → ⊥) → stops p rest ≡ true → length ts ≤ suc n → source_at (suc n) p ts ≡ Some (source.Other, rest)
unfolding source_at
other_step n p ts rest o none u le = other_only_from n p ts rest o none u le (form_at (source_at n true) ts) refl

parents_start : (one : Reader Source) {ts : List Token} {parents : List Source} {rest : List Token} → AreParents ts parents rest → parent_list_at one ts ≡ parents_at (length ts) one ts
parents_start one h = forms_start one (parents_form h)

mutual
  pub source_only : {p : Bool} {ts : List Token} {s : Source} {rest : List Token} → IsSource p ts s rest → stops p rest ≡ true → (n : ℕ) → length ts ≤ n → source_at n p ts ≡ Some (s, rest)
  source_only h u zero le = absurd (let d = opaque_shorter (source_is_opaque h) in omega arith)
  source_only (NameSource p token name rest e) u (suc n) le = source_step n p (token ∷ rest) (source.Plain name) rest (name_read (source_at n true) p token name rest e u) u
  source_only (FileSource p ts kept rest f) u (suc n) le = source_step n p (t.Lower (codes "file") ∷ t.OpenRound ∷ ts) (source.File kept) rest (file_read (source_at n true) ts kept rest f) u
  source_only (InferenceSource p ts info status list parents rest o i l) u (suc n) le =
      let d = opaque_shorter o in
      let j = opaque_shorter (info_is_opaque i) in
      source_step n p (t.Lower (codes "inference") ∷ t.OpenRound ∷ ts) (source.Inference status parents) rest
      (inference_read (source_at n true) ts info status list parents rest o (info_only i (t.OpenSquare ∷ list) refl) (parent_list_only l n (omega arith))) u
  source_only (OtherSource p ts rest o none) u (suc n) le = other_step n p ts rest o none u le

  parent_list_only : {ts : List Token} {parents : List Source} {rest : List Token} → IsParentList ts parents rest → (n : ℕ) → length ts ≤ n → parent_list_at (source_at n true) ts ≡ Some (parents, rest)
  parent_list_only (NoParents rest) n le = empty_list_read (source_at n true) rest
  parent_list_only (SomeParents ts parents rest h) n le = parents_start (source_at n true) h ∙ parents_only h n le (length ts) (omega arith)

  parents_only : {ts : List Token} {parents : List Source} {rest : List Token} → AreParents ts parents rest → (n : ℕ) → length ts ≤ n → (k : ℕ) → length ts ≤ k → parents_at k (source_at n true) ts ≡ Some (parents, rest)
  parents_only (LastParent ts s mid rest h r) n le zero lk = absurd (let d = opaque_shorter (source_is_opaque h) in omega arith)
  parents_only (LastParent ts s mid rest h r) n le (suc k) lk =
      last_parent_read (source_at n true) k ts s rest (parent_read (source_at n true) ts s mid (t.CloseSquare ∷ rest) (source_only h (remark_stops r refl) n le) (remark_only r refl))
  parents_only (MoreParents ts s mid next parents rest h r g) n le zero lk = absurd (let d = opaque_shorter (source_is_opaque h) in omega arith)
  parents_only (MoreParents ts s mid next parents rest h r g) n le (suc k) lk =
      let d = opaque_shorter (source_is_opaque h) in
      let j = remark_shorter r in
      more_parents_read (source_at n true) k ts s next parents rest
      (parent_read (source_at n true) ts s mid (t.Comma ∷ next) (source_only h (remark_stops r refl) n le) (remark_only r refl))
      (parents_only g n (omega arith) k (omega arith))

some_pair_same : {x y : Source} {a b : List Token} → (let z : Source × List Token = (x, a) in Some z) ≡ Some (y, b) → x ≡ y
some_pair_same e = ap (λ (z : Source × List Token). z.0) (read_same {A = Source × List Token} e)

-- a source is one value
pub one_value : {p : Bool} {ts : List Token} {x y : Source} {a b : List Token} → IsSource p ts x a → stops p a ≡ true → IsSource p ts y b → stops p b ≡ true → x ≡ y
one_value {ts = ts} h u g v = some_pair_same (sym (source_only h u (length ts) (omega arith)) ∙ source_only g v (length ts) (omega arith))
