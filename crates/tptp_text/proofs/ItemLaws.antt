-- What is read as an item is one, and each item is read.
use Rattle.std.proofs.Common.{◌≡◌, inl, inr, ℕ, zero, suc, ◌≤◌, true, false, List, [], ◌∷◌, length, Option, Some, None, refl, sym, ap, subst, ◌∙◌, arith}
use Rattle.std.specs.Prelude.{nat_eq, codes, ◌||◌}
use Rattle.std.specs.Cmp.Lexicographic.{pointwise, bytes_decides}
use Rattle.std.proofs.lemmas.Bool.{cond_both, or_cases}
use Rattle.tptp_tokens.specs.declared.Token.{Token}
use Rattle.tptp_tokens.specs.declared.Token.TheVariants as t
use Rattle.tptp_formulas.specs.declared.Lang.{Lang}
use Rattle.tptp_formulas.specs.declared.OutsideKind.{OutsideKind}
use Rattle.tptp_formulas.specs.declared.OutsideKind.TheVariants.{Include, Language}
use Rattle.tptp_formulas.specs.declared.Raw.{Raw}
use Rattle.tptp_formulas.specs.Reading.{◌>>=◌, reading}
use Rattle.tptp_formulas.specs.Written.{Written}
use Rattle.tptp_formulas.proofs.ReadingLaws.{reading_sound, reading_only}
use Rattle.tptp_text.specs.declared.item.Item.{Item}
use Rattle.tptp_text.specs.declared.item.Source.{Source}
use Rattle.tptp_text.specs.Opaque.{IsOpaque}
use Rattle.tptp_text.specs.Sources.{name_of, IsSource}
use Rattle.tptp_text.specs.Items.{language_of, is_other_language, annotated, outside_item, IsSourcePart, NoSource, OneSource, SourceAndMore, IsIncluded, WholeFile, FilePart, AreTerms, LastTerm, MoreTerms, IsItem, Annotated, Inclusion, OtherLanguage}
use Rattle.tptp_text.specs.Reading.{source_at}
use Rattle.tptp_text.specs.ReadingItems.{ended, source_end, source_part, included_end, included_at, terms_end, terms_at, written_at, named_at, annotated_at, unread_at, spoken_at, item_at}
use Rattle.tptp_text.proofs.OpaqueLaws.{opaque_only, opaque_shorter, behind_opaque}
use Rattle.tptp_text.proofs.SourceLaws.{Sound, source_sound, source_only}

-- what was read is so by the relation
abbrev Fine : {A : Type 0} → (List Token → A → Type 0) → List Token → Option A → Type 0
Fine Is ts None = Unit {0}
Fine Is ts (Some x) = Is ts x

-- ---- what stands behind the formula

more_ended : (ts : List Token) (from : Source) (more : List Token) → IsSource false ts from (t.Comma ∷ more) → (after : List Token) → IsOpaque false more after → Fine IsSourcePart (t.Comma ∷ ts) (ended from after)
more_ended ts from more h [] o = tt
more_ended ts from more h (t.CloseRound ∷ []) o = SourceAndMore ts from more h o
more_ended ts from more h (t.CloseRound ∷ token ∷ after) o = tt
more_ended ts from more h (_ ∷ after) o = tt

end_sound : (ts : List Token) (from : Source) (rest : List Token) → IsSource false ts from rest → Fine IsSourcePart (t.Comma ∷ ts) (source_end from rest)
end_sound ts from [] h = tt
end_sound ts from (t.CloseRound ∷ []) h = OneSource ts from h
end_sound ts from (t.CloseRound ∷ token ∷ rest) h = tt
end_sound ts from (t.Comma ∷ more) h = behind_opaque (Fine IsSourcePart (t.Comma ∷ ts)) false more (ended from) tt (λ after o s. more_ended ts from more h after o)
end_sound ts from (_ ∷ rest) h = tt

comma_sound : (ts : List Token) (o : Option (Source × List Token)) → Sound (IsSource false) ts o → Fine IsSourcePart (t.Comma ∷ ts) (o >>= λ x. source_end x.0 x.1)
comma_sound ts None h = tt
comma_sound ts (Some x) h = end_sound ts x.0 x.1 h

part_sound : (ts : List Token) → Fine IsSourcePart ts (source_part ts)
unfolding source_part
part_sound [] = tt
part_sound (t.CloseRound ∷ []) = NoSource
part_sound (t.CloseRound ∷ token ∷ ts) = tt
part_sound (t.Comma ∷ ts) = comma_sound ts (source_at (length ts) false ts) (source_sound (length ts) false ts (omega arith))
part_sound (_ ∷ ts) = tt

part_only : {ts : List Token} {from : Source} → IsSourcePart ts from → source_part ts ≡ Some from
unfolding source_part
part_only NoSource = refl
part_only (OneSource ts from h) = rw (source_only h refl (length ts) (omega arith)) refl
part_only (SourceAndMore ts from more h o) = rw (source_only h refl (length ts) (omega arith), opaque_only o refl false) refl

-- ---- what is outside the profile

abbrev IsInclude : List Token → OutsideKind → Type 0
IsInclude ts Include = IsIncluded ts
IsInclude ts kind = ⊥

abbrev IsLanguage : List Token → OutsideKind → Type 0
IsLanguage ts Language = AreTerms ts
IsLanguage ts kind = ⊥

part_ended : (ts more : List Token) → IsOpaque false ts (t.Comma ∷ more) → (after : List Token) → IsOpaque false more after → Fine IsInclude ts (ended Include after)
part_ended ts more h [] o = tt
part_ended ts more h (t.CloseRound ∷ []) o = FilePart ts more h o
part_ended ts more h (t.CloseRound ∷ token ∷ after) o = tt
part_ended ts more h (_ ∷ after) o = tt

included_more : (ts after : List Token) → IsOpaque false ts after → Fine IsInclude ts (included_end after)
included_more ts [] h = tt
included_more ts (t.CloseRound ∷ []) h = WholeFile ts h
included_more ts (t.CloseRound ∷ token ∷ after) h = tt
included_more ts (t.Comma ∷ more) h = behind_opaque (Fine IsInclude ts) false more (ended Include) tt (λ after o s. part_ended ts more h after o)
included_more ts (_ ∷ after) h = tt

included_sound : (ts : List Token) → Fine IsInclude ts (included_at ts)
unfolding included_at
included_sound ts = behind_opaque (Fine IsInclude ts) false ts included_end tt (λ after h s. included_more ts after h)

included_only : {ts : List Token} → IsIncluded ts → included_at ts ≡ Some Include
unfolding included_at
included_only (WholeFile ts h) = rw (opaque_only h refl false) refl
included_only (FilePart ts more h o) = rw (opaque_only h refl false, opaque_only o refl false) refl

language_more : (ts more : List Token) → IsOpaque false ts (t.Comma ∷ more) → (o : Option OutsideKind) → Fine IsLanguage more o → Fine IsLanguage ts o
language_more ts more h None g = tt
language_more ts more h (Some Language) g = MoreTerms ts more h g
language_more ts more h (Some _) g = absurd g

terms_more : (others : List Token → Option OutsideKind) → ((ts : List Token) → Fine IsLanguage ts (others ts)) → (ts after : List Token) → IsOpaque false ts after → Fine IsLanguage ts (terms_end others after)
terms_more others sound ts [] h = tt
terms_more others sound ts (t.CloseRound ∷ []) h = LastTerm ts h
terms_more others sound ts (t.CloseRound ∷ token ∷ after) h = tt
terms_more others sound ts (t.Comma ∷ more) h = language_more ts more h (others more) (sound more)
terms_more others sound ts (_ ∷ after) h = tt

terms_sound : (k : ℕ) (ts : List Token) → Fine IsLanguage ts (terms_at k ts)
unfolding terms_at
terms_sound zero ts = tt
terms_sound (suc k) ts = behind_opaque (Fine IsLanguage ts) false ts (terms_end (terms_at k)) tt (λ after h s. terms_more (terms_at k) (terms_sound k) ts after h)

terms_only : {ts : List Token} → AreTerms ts → (k : ℕ) → length ts ≤ k → terms_at k ts ≡ Some Language
unfolding terms_at
terms_only (LastTerm ts h) zero le = absurd (let d = opaque_shorter h in omega arith)
terms_only (LastTerm ts h) (suc k) le = rw (opaque_only h refl false) refl
terms_only (MoreTerms ts more h g) zero le = absurd (let d = opaque_shorter h in omega arith)
terms_only (MoreTerms ts more h g) (suc k) le = let d = opaque_shorter h in rw (opaque_only h refl false, terms_only g k (omega arith)) refl

-- an item that is kept by its kind
abbrev kept : Option OutsideKind → Option Item
kept o = o >>= λ kind. Some (outside_item kind)

inclusion_from : (ts : List Token) (o : Option OutsideKind) → Fine IsInclude ts o → Fine IsItem (t.Lower (codes "include") ∷ t.OpenRound ∷ ts) (kept o)
inclusion_from ts None h = tt
inclusion_from ts (Some Include) h = Inclusion ts h
inclusion_from ts (Some _) h = absurd h

language_from : (word : List ℕ) (ts : List Token) → is_other_language word ≡ true → (o : Option OutsideKind) → Fine IsLanguage ts o → Fine IsItem (t.Lower word ∷ t.OpenRound ∷ ts) (kept o)
language_from word ts e None h = tt
language_from word ts e (Some Language) h = OtherLanguage word ts e h
language_from word ts e (Some _) h = absurd h

unread_sound : (word : List ℕ) (ts : List Token) → Fine IsItem (t.Lower word ∷ t.OpenRound ∷ ts) (kept (unread_at word ts))
unfolding unread_at
unread_sound word ts = cond_both (pointwise nat_eq word (codes "include")) _ _ (λ o. Fine IsItem (t.Lower word ∷ t.OpenRound ∷ ts) (kept o))
    (λ e. subst (λ (w : List ℕ). Fine IsItem (t.Lower w ∷ t.OpenRound ∷ ts) (kept (included_at ts))) (sym ((bytes_decides word (codes "include")).0 e)) (inclusion_from ts (included_at ts) (included_sound ts)))
    (λ d. cond_both (is_other_language word) _ _ (λ o. Fine IsItem (t.Lower word ∷ t.OpenRound ∷ ts) (kept o))
    (λ e. language_from word ts e (terms_at (length ts) ts) (terms_sound (length ts) ts)) (λ f. tt))

-- ---- items

-- the formula and the source behind it
abbrev IsWritten : Lang → List Token → Raw × Source → Type 0
IsWritten language ts x = (after : List Token) × Written language ts x.0 after × IsSourcePart after x.1

written_part : (language : Lang) (ts : List Token) (f : Raw) (after : List Token) → Written language ts f after → (o : Option Source) → Fine IsSourcePart after o → Fine (IsWritten language) ts (o >>= λ from. Some (f, from))
written_part language ts f after w None h = tt
written_part language ts f after w (Some from) h = (after, w, h)

written_from : (language : Lang) (ts : List Token) (o : Option (Raw × List Token)) → reading language ts ≡ o → Fine (IsWritten language) ts (o >>= λ f. source_part f.1 >>= λ from. Some (f.0, from))
written_from language ts None e = tt
written_from language ts (Some x) e = written_part language ts x.0 x.1 (reading_sound language ts x.0 x.1 e) (source_part x.1) (part_sound x.1)

written_sound : (language : Lang) (ts : List Token) → Fine (IsWritten language) ts (written_at language ts)
unfolding written_at
written_sound language ts = written_from language ts (reading language ts) refl

module _ (word : List ℕ) (language : Lang) (spoken : language_of word ≡ Some language) where
  annotated_from : (token : Token) (name role : List ℕ) (ts : List Token) → name_of token ≡ Some name → (o : Option (Raw × Source)) → Fine (IsWritten language) ts o
      → Fine IsItem (t.Lower word ∷ t.OpenRound ∷ token ∷ t.Comma ∷ t.Lower role ∷ t.Comma ∷ ts) (o >>= λ x. Some (annotated language name role x.0 x.1))
  annotated_from token name role ts n None h = tt
  annotated_from token name role ts n (Some x) h = Annotated word language token name role ts x.0 h.0 x.1 spoken n h.1 h.2

  named_from : (token : Token) (role : List ℕ) (ts : List Token) (o : Option (List ℕ)) → name_of token ≡ o → Fine IsItem (t.Lower word ∷ t.OpenRound ∷ token ∷ t.Comma ∷ t.Lower role ∷ t.Comma ∷ ts) (named_at language o role ts)
  named_from token role ts None n = tt
  named_from token role ts (Some name) n = annotated_from token name role ts n (written_at language ts) (written_sound language ts)

  annotated_sound : (ts : List Token) → Fine IsItem (t.Lower word ∷ t.OpenRound ∷ ts) (annotated_at language ts)
  unfolding annotated_at
  annotated_sound (token ∷ t.Comma ∷ t.Lower role ∷ t.Comma ∷ ts) = named_from token role ts (name_of token) refl
  annotated_sound _ = tt

spoken_sound : (word : List ℕ) (o : Option Lang) → language_of word ≡ o → (ts : List Token) → Fine IsItem (t.Lower word ∷ t.OpenRound ∷ ts) (spoken_at word o ts)
spoken_sound word None e ts = unread_sound word ts
spoken_sound word (Some language) e ts = annotated_sound word language e ts

item_fine : (ts : List Token) → Fine IsItem ts (item_at ts)
unfolding item_at
item_fine (t.Lower word ∷ t.OpenRound ∷ ts) = spoken_sound word (language_of word) refl ts
item_fine _ = tt

pub item_sound : (ts : List Token) (item : Item) → item_at ts ≡ Some item → IsItem ts item
item_sound ts item e = subst (Fine IsItem ts) e (item_fine ts)

-- what holds of the words of the other languages holds of each such word
of_other_word : (P : List ℕ → Type 0) → P (codes "thf") → P (codes "tff") → P (codes "tcf") → P (codes "tpi") → (word : List ℕ) → is_other_language word ≡ true → P word
of_other_word P a b c d word e =
    let at : (w : List ℕ) → P w → pointwise nat_eq word w ≡ true → P word = λ w p q. subst P (sym ((bytes_decides word w).0 q)) p in
    elim (or_cases (pointwise nat_eq word (codes "thf") || pointwise nat_eq word (codes "tff") || pointwise nat_eq word (codes "tcf")) (pointwise nat_eq word (codes "tpi")) e) [
      | inl three ↦ elim (or_cases (pointwise nat_eq word (codes "thf") || pointwise nat_eq word (codes "tff")) (pointwise nat_eq word (codes "tcf")) three) [
        | inl two ↦ elim (or_cases (pointwise nat_eq word (codes "thf")) (pointwise nat_eq word (codes "tff")) two) [
          | inl q ↦ at (codes "thf") a q
          | inr q ↦ at (codes "tff") b q
        ]
        | inr q ↦ at (codes "tcf") c q
      ]
      | inr q ↦ at (codes "tpi") d q
    ]

language_word : (ts : List Token) (word : List ℕ) → is_other_language word ≡ true → item_at (t.Lower word ∷ t.OpenRound ∷ ts) ≡ kept (terms_at (length ts) ts)
unfolding item_at unread_at
language_word ts word e = of_other_word (λ w. item_at (t.Lower w ∷ t.OpenRound ∷ ts) ≡ kept (terms_at (length ts) ts)) refl refl refl refl word e

annotated_word : (word : List ℕ) (token : Token) (role : List ℕ) (ts : List Token) (language : Lang) → language_of word ≡ Some language
    → item_at (t.Lower word ∷ t.OpenRound ∷ token ∷ t.Comma ∷ t.Lower role ∷ t.Comma ∷ ts) ≡ named_at language (name_of token) role ts
unfolding item_at annotated_at
annotated_word word token role ts language e = ap (λ (o : Option Lang). spoken_at word o (token ∷ t.Comma ∷ t.Lower role ∷ t.Comma ∷ ts)) e

written_only : (language : Lang) (ts : List Token) (f : Raw) (after : List Token) (from : Source) → Written language ts f after → IsSourcePart after from → written_at language ts ≡ Some (f, from)
unfolding written_at
written_only language ts f after from w p = rw (reading_only language ts f after w, part_only p) refl

inclusion_word : (ts : List Token) → item_at (t.Lower (codes "include") ∷ t.OpenRound ∷ ts) ≡ kept (included_at ts)
unfolding item_at unread_at
inclusion_word ts = refl

pub item_only : {ts : List Token} {item : Item} → IsItem ts item → item_at ts ≡ Some item
item_only (Annotated word language token name role ts f after from l n w p) = annotated_word word token role ts language l ∙ ap (λ (o : Option (List ℕ)). named_at language o role ts) n ∙ rw (written_only language ts f after from w p) refl
item_only (Inclusion ts h) = inclusion_word ts ∙ ap kept (included_only h)
item_only (OtherLanguage word ts e h) = language_word ts word e ∙ ap kept (terms_only h (length ts) (omega arith))

-- tokens are one item
pub one_item : {ts : List Token} {item other : Item} → IsItem ts item → IsItem ts other → item ≡ other
one_item {ts} {item} {other} h g = let e = sym (item_only h) ∙ item_only g in cc
