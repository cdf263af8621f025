-- One step of reading a text.
use Rattle.std.proofs.Common.{◌≡◌, ℕ, suc, ◌-◌, ◌+◌, ◌<◌, ◌≤◌, ◌++◌, Bool, false, List, [], ◌∷◌, length, eqb, Result, Ok, Err, refl, sym, ap, ◌∙◌, append_assoc, arith}
use Rattle.std.proofs.lemmas.Grind.{common_steps}
use Rattle.tptp_tokens.specs.Skipping.{Between, skip}
use Rattle.tptp_text.specs.declared.fault.TptpFault.{TptpFault}
use Rattle.tptp_text.specs.declared.fault.TptpFault.TheVariants.{NotTptp}
use Rattle.tptp_text.specs.declared.item.Item.{Item}
use Rattle.tptp_text.specs.ReadingItems.{◌then◌, one_at, items_from, items_at}

-- what was read before, and what is still read
abbrev pub with_items : List Item → Result (List Item) TptpFault → Result (List Item) TptpFault
with_items front (Ok items) = Ok (front ++ items)
with_items front (Err fault) = Err fault

pub items_layer : (total n i : ℕ) (start : Bool) (bytes : List ℕ) → i < n → items_at total (n - i) i start bytes ≡ items_from total (items_at total (n - (i + 1)) (i + 1) false) i (skip (Between start) bytes)
unfolding items_at
items_layer total n i start bytes lt = let e : n - i ≡ suc (n - (i + 1)) = omega arith in ap (λ (k : ℕ). items_at total k i start bytes) e

pub items_none : (total n i : ℕ) (start : Bool) (bytes : List ℕ) → n ≤ i → items_at total (n - i) i start bytes ≡ Err (NotTptp 0)
unfolding items_at
items_none total n i start bytes le = let e : n - i ≡ 0 = omega arith in ap (λ (k : ℕ). items_at total k i start bytes) e

pub front_item : (front : List Item) (first : Item) (read : Result (List Item) TptpFault) → with_items front (read then λ items. Ok (first ∷ items)) ≡ with_items (front ++ first ∷ []) read
front_item front first (Ok items) = ap (λ (all : List Item). Ok all) (simp append_assoc)
front_item front first (Err fault) = refl

pub items_step : (total : ℕ) (more : List ℕ → Result (List Item) TptpFault) (count : ℕ) (here : List ℕ) (item : Item) (after : List ℕ) → 0 < length here → eqb count 65536 ≡ false → one_at (total - length here) here ≡ Ok (item, after)
    → items_from total more count here ≡ (more after then λ items. Ok (item ∷ items))
unfolding items_from
items_step total more count [] item after lt e h = absurd (omega arith)
items_step total more count (b ∷ bytes) item after lt e h = rw (e, h) refl

-- the loop goes on behind an item
pub goes_on : (total n i : ℕ) (start : Bool) (bytes here : List ℕ) (front : List Item) (item : Item) (after : List ℕ) (whole : Result (List Item) TptpFault)
    → i < n → here ≡ skip (Between start) bytes → 0 < length here → eqb i 65536 ≡ false → one_at (total - length here) here ≡ Ok (item, after)
    → with_items front (items_at total (n - i) i start bytes) ≡ whole → with_items (front ++ item ∷ []) (items_at total (n - (i + 1)) (i + 1) false after) ≡ whole
goes_on total n i start bytes here front item after whole lt is some few h so_far =
    let layer = items_layer total n i start bytes lt in
    let step = items_step total (items_at total (n - (i + 1)) (i + 1) false) i here item after some few h in
    sym (front_item front item (items_at total (n - (i + 1)) (i + 1) false after)) ∙ ap (with_items front) (sym step ∙ ap (items_from total (items_at total (n - (i + 1)) (i + 1) false) i) is ∙ sym layer) ∙ so_far

pub ruleset text_steps = (common_steps, items_layer, items_none, front_item)
