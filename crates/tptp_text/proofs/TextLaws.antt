-- Reading a text gives the one answer that its definition has.
use Rattle.std.proofs.Common.{◌≡◌, ◌≢◌, ◌⊎◌, inl, inr, ℕ, zero, suc, ◌+◌, ◌-◌, ◌≤◌, ◌<◌, Bool, true, false, eqb, List, [], ◌∷◌, length, Option, Some, None, Result, Ok, Err, IfOk, refl, sym, ap, subst, ◌∙◌, append-nil, arith}
use Rattle.std.proofs.lemmas.Bool.{ne_eqb, cond_both, eqb-true, eqb-false}
use Rattle.tptp_tokens.specs.declared.Token.{Token}
use Rattle.tptp_tokens.specs.Brackets.{too_deep as deep_brackets}
use Rattle.tptp_tokens.specs.Chunks.{chunk, behind_dot}
use Rattle.tptp_tokens.specs.Matter.{Skips}
use Rattle.tptp_tokens.specs.Nesting.{IsTooDeep}
use Rattle.tptp_tokens.specs.Skipping.{Between, skip}
use Rattle.tptp_tokens.specs.TokenLists.{AreTokens}
use Rattle.tptp_tokens.proofs.BracketLaws.{counts_deep, counts_flat, is_deep, is_flat}
use Rattle.tptp_tokens.proofs.ChunkLaws.{skips_shorter, chunk_so, chunk_only, stop_shorter, one_chunk}
use Rattle.tptp_tokens.proofs.SkippedMatter.{skips_so, skips_only, one_rest}
use Rattle.tptp_formulas.specs.Meaning.{too_deep}
use Rattle.tptp_text.specs.declared.fault.TptpFault.{TptpFault}
use Rattle.tptp_text.specs.declared.fault.TptpFault.TheVariants.{NotTptp, TooDeep, TooMany, Memory}
use Rattle.tptp_text.specs.declared.item.Item.{Item}
use Rattle.std.specs.Prelude.{All}
use Rattle.tptp_formulas.specs.Proper.{IfPlain, IsProper}
use Rattle.tptp_formulas.proofs.ProperFormulas.{proper_body}
use Rattle.tptp_text.specs.ProperItems.{HaveProperFormulas}
use Rattle.tptp_text.specs.Items.{IsItem, Annotated, Inclusion, OtherLanguage}
use Rattle.tptp_text.specs.ReadingItems.{◌then◌, Answers, item_at, weighed, weighed_item, dotted_at, one_at, items_from, items_at}
use Rattle.tptp_text.specs.Text.{BeginsItem, IsFlat, IsWithin, IsAny, AreItems, NoItem, ItemFirst, Spells, FaultAt, IsFull, HasDeepBrackets, HasNoItem, HasDeepFormula, IsReadAnswer}
use Rattle.tptp_text.proofs.ItemLaws.{item_sound, item_only, one_item}
use Rattle.tptp_text.proofs.TextSteps.{with_items}

first_same : {A : Type 0} {x y : A} {xs ys : List A} → x ∷ xs ≡ y ∷ ys → x ≡ y
first_same e = cc

tail_same : {A : Type 0} {x y : A} {xs ys : List A} → x ∷ xs ≡ y ∷ ys → xs ≡ ys
tail_same e = cc

some_is_none : {A : Type 0} {x : A} → Some x ≡ None → ⊥
some_is_none e = absurd cc

true_is_false : {b : Bool} → b ≡ true → b ≡ false → ⊥
true_is_false e f = absurd cc

-- ---- what is answered is so

-- the place of a fault from here on, where so many items stand before
record FaultFrom (Is : ℕ → List ℕ → Type 0) (total : ℕ) (start : Bool) (bytes : List ℕ) (count : ℕ) (at : ℕ) : Type 0 where
  items : List Item
  here : List ℕ
  front : AreItems IsWithin start bytes items here
  some : 0 < length here
  place : at ≡ total - length here
  is : Is (count + length items) here

-- what an answer says of the bytes from here on
abbrev Says : ℕ → Bool → List ℕ → ℕ → Result (List Item) TptpFault → Type 0
Says total start bytes count (Ok items) = AreItems IsWithin start bytes items [] × (count + length items ≤ 65536)
Says total start bytes count (Err (NotTptp at)) = FaultFrom HasNoItem total start bytes count at
Says total start bytes count (Err (TooDeep at)) = FaultFrom HasDeepBrackets total start bytes count at ⊎ FaultFrom HasDeepFormula total start bytes count at
Says total start bytes count (Err (TooMany at)) = FaultFrom IsFull total start bytes count at
Says total start bytes count (Err Memory) = ⊥

module _ (total : ℕ) (start : Bool) (bytes here : List ℕ) (item : Item) (after : List ℕ) (count : ℕ) (s : Skips start bytes here) (b : BeginsItem here item after) (w : IsWithin here item) where
  lift : (Is : ℕ → List ℕ → Type 0) (at : ℕ) → FaultFrom Is total false after (count + 1) at → FaultFrom Is total start bytes count at
  lift Is at f = record {
    items = item ∷ f.items;
    here = f.here;
    front = ItemFirst start bytes here item after f.items f.here s b w f.front;
    some = f.some;
    place = f.place;
    is = subst (λ (k : ℕ). Is k f.here) (let e : count + 1 + length f.items ≡ count + length (item ∷ f.items) = omega arith in e) f.is;
  }

  lift_all : (r : Result (List Item) TptpFault) → Says total false after (count + 1) r → Says total start bytes count (r then λ items. Ok (item ∷ items))
  lift_all (Ok items) h = (ItemFirst start bytes here item after items [] s b w h.0, (let few = h.1 in omega arith))
  lift_all (Err (NotTptp at)) h = lift HasNoItem at h
  lift_all (Err (TooDeep at)) (inl h) = inl (lift HasDeepBrackets at h)
  lift_all (Err (TooDeep at)) (inr h) = inr (lift HasDeepFormula at h)
  lift_all (Err (TooMany at)) h = lift IsFull at h
  lift_all (Err Memory) h = h

dot_front : (stop after : List ℕ) → behind_dot stop ≡ Some after → stop ≡ 46 ∷ after
dot_front [] after e = absurd cc
dot_front (b ∷ bytes) after e = cond_both (eqb b 46) (Some bytes) None (λ o. o ≡ Some after → b ∷ bytes ≡ 46 ∷ after)
    (λ dot q. let d : b ≡ 46 = eqb-true b 46 dot in cc) (λ other q. absurd cc) e

module _ (total : ℕ) (start : Bool) (bytes here : List ℕ) (count : ℕ) (s : Skips start bytes here) (some : 0 < length here) (few : count < 65536) (more : List ℕ → Result (List Item) TptpFault)
    (goes : (after : List ℕ) → length after < length here → Says total false after (count + 1) (more after)) where
  next : Item × List ℕ → Result (List Item) TptpFault
  next x = more x.1 then λ items. Ok (x.0 ∷ items)

  at_here : (Is : ℕ → List ℕ → Type 0) → Is count here → FaultFrom Is total start bytes count (total - length here)
  at_here Is h = record { items = []; here = here; front = NoItem start bytes here s; some = some; place = refl; is = subst (λ (k : ℕ). Is k here) (let e : count ≡ count + 0 = omega arith in e) h }

  module _ (tokens : List Token) (stop : List ℕ) (are : AreTokens here tokens stop) (flat : deep_brackets 0 tokens ≡ false) where
    flat_here : IsFlat here
    flat_here others end h = is_flat others (subst (λ (x : List Token). deep_brackets 0 x ≡ false) ((one_chunk are h).0) flat)

    no_item : ((item : Item) (after : List ℕ) → item_at tokens ≡ Some item → stop ≡ 46 ∷ after → ⊥) → FaultFrom HasNoItem total start bytes count (total - length here)
    no_item none = at_here HasNoItem (few, flat_here, λ item after b. let same = one_chunk b.are are in none item after (ap item_at (sym same.0) ∙ item_only b.reads) (sym same.1))

    begins : (item : Item) (after : List ℕ) → item_at tokens ≡ Some item → stop ≡ 46 ∷ after → BeginsItem here item after
    begins item after i e = record { tokens = tokens; are = subst (λ (x : List ℕ). AreTokens here tokens x) e are; reads = item_sound tokens item i }

    item_says : (item : Item) (after : List ℕ) → item_at tokens ≡ Some item → stop ≡ 46 ∷ after → Says total start bytes count ((weighed_item (total - length here) item then λ x. Ok (x, after)) then next)
    unfolding next
    item_says item after i e = cond_both (too_deep item.body) (Err (TooDeep (total - length here))) (Ok item) (λ r. Says total start bytes count ((r then λ x. Ok (x, after)) then next))
        (λ deep. inr (at_here HasDeepFormula (few, flat_here, (item, after, begins item after i e, deep))))
        (λ shallow. let b = begins item after i e in
        let less = stop_shorter b.are in
        lift_all total start bytes here item after count s b (record { flat = flat_here; shallow = shallow }) (more after) (goes after (omega arith)))

    weighed_says : (o : Option Item) (after : List ℕ) → item_at tokens ≡ o → stop ≡ 46 ∷ after → Says total start bytes count ((weighed (total - length here) o then λ x. Ok (x, after)) then next)
    weighed_says None after i e = no_item (λ item other j k. some_is_none (sym j ∙ i))
    weighed_says (Some item) after i e = item_says item after i e

    dotted_says : (o : Option (List ℕ)) → behind_dot stop ≡ o → Says total start bytes count (dotted_at (total - length here) tokens o then next)
    unfolding dotted_at
    dotted_says None e = no_item (λ item after i k. some_is_none (sym (ap behind_dot k) ∙ e))
    dotted_says (Some after) e = weighed_says (item_at tokens) after refl (dot_front stop after e)

  one_says : Says total start bytes count (one_at (total - length here) here then next)
  unfolding one_at
  one_says =
      let are = chunk_so (length here) here (omega arith) in
      cond_both (deep_brackets 0 (chunk (length here) here).0) (Err (TooDeep (total - length here))) (dotted_at (total - length here) (chunk (length here) here).0 (behind_dot (chunk (length here) here).1)) (λ r. Says total start bytes count (r then next))
      (λ deep. inl (at_here HasDeepBrackets (few, ((chunk (length here) here).0, (chunk (length here) here).1, are, is_deep (chunk (length here) here).0 deep))))
      (λ flat. dotted_says (chunk (length here) here).0 (chunk (length here) here).1 are flat (behind_dot (chunk (length here) here).1) refl)

below : (count : ℕ) → eqb count 65536 ≡ false → count ≤ 65536 → count < 65536
below count e le = let differs = eqb-false count 65536 e in omega arith

at_full : (total : ℕ) (start : Bool) (bytes here : List ℕ) (count : ℕ) → Skips start bytes here → 0 < length here → count ≡ 65536 → FaultFrom IsFull total start bytes count (total - length here)
at_full total start bytes here count s some e = record { items = []; here = here; front = NoItem start bytes here s; some = some; place = refl; is = (let k : count + 0 ≡ 65536 = omega arith in k) }

at_end : (start : Bool) (bytes : List ℕ) (count : ℕ) → Skips start bytes [] → count ≤ 65536 → AreItems IsWithin start bytes [] [] × (count + length {A = Item} [] ≤ 65536)
at_end start bytes count s le = (NoItem start bytes [] s, omega arith)

from_says : (total : ℕ) (start : Bool) (bytes here : List ℕ) (count : ℕ) (more : List ℕ → Result (List Item) TptpFault) → Skips start bytes here → count ≤ 65536
    → ((after : List ℕ) → count < 65536 → length after < length here → Says total false after (count + 1) (more after)) → Says total start bytes count (items_from total more count here)
unfolding items_from next
from_says total start bytes [] count more s le goes = at_end start bytes count s le
from_says total start bytes (b ∷ rest) count more s le goes = cond_both (eqb count 65536) _ _ (Says total start bytes count)
    (λ e. at_full total start bytes (b ∷ rest) count s (omega arith) (eqb-true count 65536 e))
    (λ differs. let few : count < 65536 = below count differs le in one_says total start bytes (b ∷ rest) count s (omega arith) few more (λ after lt. goes after few lt))

says : (total n count : ℕ) (start : Bool) (bytes : List ℕ) → length bytes < n → count ≤ 65536 → Says total start bytes count (items_at total n count start bytes)
unfolding items_at
says total zero count start bytes lt le = absurd (omega arith)
says total (suc n) count start bytes lt le =
    let s = skips_so start bytes in
    let less = skips_shorter s in
    from_says total start bytes (skip (Between start) bytes) count (items_at total n (count + 1) false) s le (λ after few lt'. says total n (count + 1) false after (omega arith) (omega arith))

whole_fault : (Is : ℕ → List ℕ → Type 0) (bytes : List ℕ) (at : ℕ) → FaultFrom Is (length bytes) true bytes 0 at → FaultAt Is bytes at
whole_fault Is bytes at f = record {
  items = f.items;
  here = f.here;
  front = f.front;
  some = f.some;
  place = f.place;
  is = subst (λ (k : ℕ). Is k f.here) (let e : 0 + length f.items ≡ length f.items = omega arith in e) f.is;
}

whole_answer : (bytes : List ℕ) (r : Result (List Item) TptpFault) → Says (length bytes) true bytes 0 r → IsReadAnswer bytes r
whole_answer bytes (Ok items) h = (h.0, (let few = h.1 in omega arith))
whole_answer bytes (Err (NotTptp at)) h = whole_fault HasNoItem bytes at h
whole_answer bytes (Err (TooDeep at)) (inl h) = inl (whole_fault HasDeepBrackets bytes at h)
whole_answer bytes (Err (TooDeep at)) (inr h) = inr (whole_fault HasDeepFormula bytes at h)
whole_answer bytes (Err (TooMany at)) h = whole_fault IsFull bytes at h
whole_answer bytes (Err Memory) h = absurd h

-- what reading a text gives
abbrev pub text_at : List ℕ → Result (List Item) TptpFault
text_at bytes = items_at (length bytes) (length bytes + 1) 0 true bytes

pub text_sound : (bytes : List ℕ) → IsReadAnswer bytes (text_at bytes)
text_sound bytes = whole_answer bytes (text_at bytes) (says (length bytes) (length bytes + 1) 0 true bytes (omega arith) (omega arith))

never_memory : (bytes : List ℕ) (r : Result (List Item) TptpFault) → Says (length bytes) true bytes 0 r → r ≢ Err Memory
never_memory bytes (Ok items) h e = absurd cc
never_memory bytes (Err (NotTptp at)) h e = absurd cc
never_memory bytes (Err (TooDeep at)) h e = absurd cc
never_memory bytes (Err (TooMany at)) h e = absurd cc
never_memory bytes (Err Memory) h e = h

pub text_tells : (bytes : List ℕ) → text_at bytes ≢ Err Memory
text_tells bytes = never_memory bytes (text_at bytes) (says (length bytes) (length bytes + 1) 0 true bytes (omega arith) (omega arith))

answer_from : (bytes : List ℕ) (r read : Result (List Item) TptpFault) → Answers (λ x. x) r read → IsReadAnswer bytes read → IsReadAnswer bytes r
answer_from bytes (Ok items) read a h = subst (IsReadAnswer bytes) a h
answer_from bytes (Err (NotTptp at)) read a h = subst (IsReadAnswer bytes) a h
answer_from bytes (Err (TooDeep at)) read a h = subst (IsReadAnswer bytes) a h
answer_from bytes (Err (TooMany at)) read a h = subst (IsReadAnswer bytes) a h
answer_from bytes (Err Memory) read a h = tt

pub answers : (bytes : List ℕ) (r : Result (List Item) TptpFault) → Answers (λ x. x) r (text_at bytes) → IsReadAnswer bytes r
answers bytes r a = answer_from bytes r (text_at bytes) a (text_sound bytes)

-- ---- and nothing else is

within_one : (at : ℕ) (here : List ℕ) (item : Item) (after : List ℕ) → BeginsItem here item after → IsWithin here item → one_at at here ≡ Ok (item, after)
unfolding one_at dotted_at
within_one at here item after b w = rw (chunk_only b.are (length here) (omega arith), counts_flat b.tokens (w.flat b.tokens (46 ∷ after) b.are), item_only b.reads, w.shallow) refl

at_front : (total : ℕ) (more : List ℕ → Result (List Item) TptpFault) (count : ℕ) (here : List ℕ) (item : Item) (after : List ℕ) → 0 < length here → count < 65536 → BeginsItem here item after → IsWithin here item
    → items_from total more count here ≡ (more after then λ items. Ok (item ∷ items))
unfolding items_from
at_front total more count [] item after some few b w = absurd (omega arith)
at_front total more count (c ∷ bytes) item after some few b w = rw (ne_eqb count 65536 (λ d. omega arith), within_one (total - length (c ∷ bytes)) (c ∷ bytes) item after b w) refl

one_before : (item : Item) (items : List Item) (r : Result (List Item) TptpFault) → (with_items items r then λ others. Ok (item ∷ others)) ≡ with_items (item ∷ items) r
one_before item items (Ok others) = refl
one_before item items (Err fault) = refl

none_before : (r : Result (List Item) TptpFault) → r ≡ with_items [] r
none_before (Ok others) = refl
none_before (Err fault) = refl

-- whole items are read, and then what stands behind them
front_reads : {start : Bool} {bytes : List ℕ} {items : List Item} {there : List ℕ} → AreItems IsWithin start bytes items there → (total n count : ℕ) → length bytes < n → count + length items ≤ 65536 → (r : Result (List Item) TptpFault)
    → ((more : List ℕ → Result (List Item) TptpFault) → items_from total more (count + length items) there ≡ r) → items_at total n count start bytes ≡ with_items items r
unfolding items_at
front_reads (NoItem start bytes there s) total zero count lt few r finish = absurd (omega arith)
front_reads (NoItem start bytes there s) total (suc n) count lt few r finish =
    let e : count + 0 ≡ count = omega arith in
    rw (skips_only s) (subst (λ (k : ℕ). items_from total (items_at total n (count + 1) false) k there ≡ r) e (finish (items_at total n (count + 1) false)) ∙ none_before r)
front_reads (ItemFirst start bytes here item after items there s b w f) total zero count lt few r finish = absurd (omega arith)
front_reads (ItemFirst start bytes here item after items there s b w f) total (suc n) count lt few r finish =
    let i = skips_shorter s in
    let j = stop_shorter b.are in
    let e : count + length (item ∷ items) ≡ count + 1 + length items = omega arith in
    let rest = front_reads f total n (count + 1) (omega arith) (omega arith) r (λ more. subst (λ (k : ℕ). items_from total more k there ≡ r) e (finish more)) in
    rw (skips_only s) (at_front total (items_at total n (count + 1) false) count here item after (omega arith) (omega arith) b w ∙ ap (λ (x : Result (List Item) TptpFault). x then λ others. Ok (item ∷ others)) rest ∙ one_before item items r)

at_end_reads : (total : ℕ) (more : List ℕ → Result (List Item) TptpFault) (count : ℕ) → items_from total more count [] ≡ Ok []
unfolding items_from
at_end_reads total more count = refl

full_reads : (total : ℕ) (more : List ℕ → Result (List Item) TptpFault) (count : ℕ) (here : List ℕ) → 0 < length here → count ≡ 65536 → items_from total more count here ≡ Err (TooMany (total - length here))
unfolding items_from
full_reads total more count [] some e = absurd (omega arith)
full_reads total more count (c ∷ bytes) some e = rw e refl

fault_reads : (total : ℕ) (more : List ℕ → Result (List Item) TptpFault) (count : ℕ) (here : List ℕ) (fault : TptpFault) → 0 < length here → count < 65536 → one_at (total - length here) here ≡ Err fault → items_from total more count here ≡ Err fault
unfolding items_from
fault_reads total more count [] fault some few e = absurd (omega arith)
fault_reads total more count (c ∷ bytes) fault some few e = rw (ne_eqb count 65536 (λ d. omega arith), e) refl

deep_one : (at : ℕ) (here : List ℕ) (tokens : List Token) (stop : List ℕ) → AreTokens here tokens stop → IsTooDeep tokens → one_at at here ≡ Err (TooDeep at)
unfolding one_at
deep_one at here tokens stop are deep = rw (chunk_only are (length here) (omega arith), counts_deep tokens deep) refl

deep_formula_one : (at : ℕ) (here : List ℕ) (item : Item) (after : List ℕ) → IsFlat here → BeginsItem here item after → too_deep item.body ≡ true → one_at at here ≡ Err (TooDeep at)
unfolding one_at dotted_at
deep_formula_one at here item after flat b deep = rw (chunk_only b.are (length here) (omega arith), counts_flat b.tokens (flat b.tokens (46 ∷ after) b.are), item_only b.reads, deep) refl

no_item_dotted : (at : ℕ) (here : List ℕ) (tokens : List Token) (stop : List ℕ) → AreTokens here tokens stop → ((item : Item) (after : List ℕ) → BeginsItem here item after → ⊥) → (o : Option (List ℕ)) → behind_dot stop ≡ o → (i : Option Item) → item_at tokens ≡ i
    → dotted_at at tokens o ≡ Err (NotTptp at)
unfolding dotted_at
no_item_dotted at here tokens stop are none None e i j = refl
no_item_dotted at here tokens stop are none (Some after) e None j = rw j refl
no_item_dotted at here tokens stop are none (Some after) e (Some item) j =
    absurd (none item after (record { tokens = tokens; are = subst (λ (x : List ℕ). AreTokens here tokens x) (dot_front stop after e) are; reads = item_sound tokens item j }))

no_item_one : (at : ℕ) (here : List ℕ) → IsFlat here → ((item : Item) (after : List ℕ) → BeginsItem here item after → ⊥) → one_at at here ≡ Err (NotTptp at)
unfolding one_at
no_item_one at here flat none =
    let are = chunk_so (length here) here (omega arith) in
    rw (counts_flat (chunk (length here) here).0 (flat (chunk (length here) here).0 (chunk (length here) here).1 are)) (no_item_dotted at here (chunk (length here) here).0 (chunk (length here) here).1 are none (behind_dot (chunk (length here) here).1) refl (item_at (chunk (length here) here).0) refl)

-- a fault that stands at its place is read
fault_only : (Is : ℕ → List ℕ → Type 0) (bytes : List ℕ) (at : ℕ) (fault : ℕ → TptpFault) (f : FaultAt Is bytes at) → length f.items ≤ 65536
    → ((more : List ℕ → Result (List Item) TptpFault) → items_from (length bytes) more (length f.items) f.here ≡ Err (fault (length bytes - length f.here))) → text_at bytes ≡ Err (fault at)
fault_only Is bytes at fault f few reads =
    front_reads f.front (length bytes) (length bytes + 1) 0 (omega arith) (omega arith) (Err (fault (length bytes - length f.here)))
    (λ more. subst (λ (k : ℕ). items_from (length bytes) more k f.here ≡ Err (fault (length bytes - length f.here))) (let e : length f.items ≡ 0 + length f.items = omega arith in e) (reads more))
    ∙ ap (λ (k : ℕ). (let r : Result (List Item) TptpFault = Err (fault k) in r)) (sym f.place)

items_only : (bytes : List ℕ) (items : List Item) → AreItems IsWithin true bytes items [] → length items ≤ 65536 → text_at bytes ≡ Ok items
items_only bytes items f few = front_reads f (length bytes) (length bytes + 1) 0 (omega arith) (omega arith) (Ok []) (λ more. at_end_reads (length bytes) more (0 + length items)) ∙ simp append-nil

pub text_only : (bytes : List ℕ) (r : Result (List Item) TptpFault) → IsReadAnswer bytes r → r ≢ Err Memory → text_at bytes ≡ r
text_only bytes (Ok items) h told = items_only bytes items h.0 h.1
text_only bytes (Err (NotTptp at)) f told = let few = f.is.0 in fault_only HasNoItem bytes at NotTptp f (omega arith) (λ more. fault_reads (length bytes) more (length f.items) f.here (NotTptp (length bytes - length f.here)) f.some f.is.0 (no_item_one (length bytes - length f.here) f.here f.is.1 f.is.2))
text_only bytes (Err (TooDeep at)) (inl f) told = let few = f.is.0 in fault_only HasDeepBrackets bytes at TooDeep f (omega arith) (λ more. fault_reads (length bytes) more (length f.items) f.here (TooDeep (length bytes - length f.here)) f.some f.is.0 (deep_one (length bytes - length f.here) f.here f.is.1.0 f.is.1.1 f.is.1.2 f.is.1.3))
text_only bytes (Err (TooDeep at)) (inr f) told = let few = f.is.0 in fault_only HasDeepFormula bytes at TooDeep f (omega arith) (λ more. fault_reads (length bytes) more (length f.items) f.here (TooDeep (length bytes - length f.here)) f.some f.is.0 (deep_formula_one (length bytes - length f.here) f.here f.is.2.0 f.is.2.1 f.is.1 f.is.2.2 f.is.2.3))
text_only bytes (Err (TooMany at)) f told = let full = f.is in fault_only IsFull bytes at TooMany f (omega arith) (λ more. full_reads (length bytes) more (length f.items) f.here f.some f.is)
text_only bytes (Err Memory) f told = absurd (told refl)

-- a text has one answer
pub one_reading : (bytes : List ℕ) (one other : Result (List Item) TptpFault) → IsReadAnswer bytes one → IsReadAnswer bytes other → one ≢ Err Memory → other ≢ Err Memory → one ≡ other
one_reading bytes one other h g told tells = sym (text_only bytes one h told) ∙ text_only bytes other g tells

-- ---- at most one list is spelled, and it is the answer where there is no fault

pub one_list : {start : Bool} {bytes : List ℕ} {items others : List Item} {there other : List ℕ} → AreItems IsAny start bytes items there → there ≡ [] → AreItems IsAny start bytes others other → other ≡ [] → items ≡ others
one_list (NoItem start bytes there s) e (NoItem _ _ other u) d = refl
one_list (NoItem start bytes there s) e (ItemFirst _ _ here item after others other u b w f) d =
    let same = one_rest s u in let less = stop_shorter b.are in let none : length here ≡ 0 = ap length (sym same ∙ e) in absurd (omega arith)
one_list (ItemFirst start bytes here item after items there s b w f) e (NoItem _ _ other u) d =
    let same = one_rest s u in let less = stop_shorter b.are in let none : length here ≡ 0 = ap length (same ∙ d) in absurd (omega arith)
one_list (ItemFirst start bytes here item after items there s b w f) e (ItemFirst _ _ here' item' after' others other u c w' g) d =
    let same = one_rest s u in
    let c' : BeginsItem here item' after' = subst (λ (x : List ℕ). BeginsItem x item' after') (sym same) c in
    let chunks = one_chunk b.are c'.are in
    let items_same = one_item b.reads (subst (λ (x : List Token). IsItem x item') (sym chunks.0) c'.reads) in
    let g' : AreItems IsAny false after others other = subst (λ (x : List ℕ). AreItems IsAny false x others other) (sym (tail_same chunks.1)) g in
    ap (λ (x : Item). x ∷ items) items_same ∙ ap (λ (xs : List Item). item' ∷ xs) (one_list f e g' d)

-- limits forgotten
whatever : {start : Bool} {bytes : List ℕ} {items : List Item} {there : List ℕ} → AreItems IsWithin start bytes items there → AreItems IsAny start bytes items there
whatever (NoItem start bytes there s) = NoItem start bytes there s
whatever (ItemFirst start bytes here item after items there s b w f) = ItemFirst start bytes here item after items there s b tt (whatever f)

pub spelled : (bytes : List ℕ) (items : List Item) → IsReadAnswer bytes (Ok items) → Spells bytes items
spelled bytes items h = whatever h.0

answer_of : (bytes : List ℕ) (items : List Item) → Spells bytes items → ((fault : TptpFault) → fault ≢ Memory → IsReadAnswer bytes (Err fault) → ⊥) → (r : Result (List Item) TptpFault) → IsReadAnswer bytes r → r ≢ Err Memory → IsReadAnswer bytes (Ok items)
answer_of bytes items f none (Ok others) h told = subst (λ (x : List Item). IsReadAnswer bytes (Ok x)) (one_list (whatever h.0) refl f refl) h
answer_of bytes items f none (Err fault) h told = absurd (none fault (λ e. told (ap (λ (x : TptpFault). (let r : Result (List Item) TptpFault = Err x in r)) e)) h)

-- the items that the bytes spell are the answer where there is no fault
pub spelled_is_read : (bytes : List ℕ) (items : List Item) → Spells bytes items → ((fault : TptpFault) → fault ≢ Memory → IsReadAnswer bytes (Err fault) → ⊥) → IsReadAnswer bytes (Ok items)
spelled_is_read bytes items f none = answer_of bytes items f none (text_at bytes) (text_sound bytes) (text_tells bytes)

pub few_items : (bytes : List ℕ) (r : Result (List Item) TptpFault) → IsReadAnswer bytes r → IfOk r (λ items. length items ≤ 65536)
few_items bytes (Ok items) h = h.1
few_items bytes (Err fault) h = tt

pub only_answer : (bytes : List ℕ) (r answer : Result (List Item) TptpFault) → Answers (λ x. x) r (text_at bytes) → IsReadAnswer bytes answer → answer ≢ Err Memory → Answers (λ x. x) r answer
only_answer bytes r answer a h told = subst (λ (x : Result (List Item) TptpFault). Answers (λ y. y) r x) (text_only bytes answer h told) a

-- ---- what the crates above need of each item

proper_item : {tokens : List Token} {item : Item} → IsItem tokens item → IfPlain item.body IsProper
proper_item (Annotated word language token name role ts f after from l n w p) = proper_body f
proper_item (Inclusion ts h) = tt
proper_item (OtherLanguage word ts e h) = tt

all_first : (P : Item → Type 0) (first : Item) (items : List Item) → P first → All P items → All P (first ∷ items)
all_first P first items p h zero d lt = p
all_first P first items p h (suc k) d lt = h k d (omega arith)

all_proper : {Allowed : List ℕ → Item → Type 0} {start : Bool} {bytes : List ℕ} {items : List Item} {there : List ℕ} → AreItems Allowed start bytes items there → HaveProperFormulas items
all_proper (NoItem start bytes there s) = λ k d lt. absurd (omega arith)
all_proper (ItemFirst start bytes here item after items there s b w f) = all_first (λ x. IfPlain x.body IsProper) item items (proper_item b.reads) (all_proper f)

pub proper_items : (bytes : List ℕ) (r : Result (List Item) TptpFault) → IsReadAnswer bytes r → IfOk r HaveProperFormulas
proper_items bytes (Ok items) h = all_proper h.0
proper_items bytes (Err fault) h = tt
