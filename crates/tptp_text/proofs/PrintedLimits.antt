-- The text of a printed item is within the limits, so the reader answers with that item, and with nothing else.
use Rattle.std.proofs.Common.{◌≡◌, ◌≢◌, ◌⊎◌, inl, inr, ℕ, ◌+◌, ◌-◌, ◌^◌, ◌≤◌, ◌<◌, max, true, false, List, [], ◌∷◌, map, Result, Ok, Err, refl, subst, ◌∙◌, arith}
use Rattle.std.proofs.lemmas.Bool.{cases_Bool, le-ltb, ne_eqb}
use Rattle.dk_syntax.proofs.FormulaLaws.{formula_induction, depth-True, depth-False, depth-Atom, depth-Not, depth-And, depth-Or, depth-Imp, depth-Iff, depth-All, depth-Ex}
use Rattle.dk_syntax.proofs.ListLaws.{ForEach, for_each}
use Rattle.dk_syntax.proofs.TermLaws.{term_induction, depth-Var, depth-App, depth-Any}
use Rattle.dk_syntax.specs.Depth.{formula_depth, greatest, term_depth_of}
use Rattle.dk_syntax.specs.declared.Formula.{Formula}
use Rattle.dk_syntax.specs.declared.Term.{Term}
use Rattle.tptp_tokens.specs.Brackets.{too_deep}
use Rattle.tptp_tokens.specs.Matter.{Nothing, White}
use Rattle.tptp_tokens.specs.declared.Token.{Token}
use Rattle.tptp_tokens.specs.declared.Token.TheVariants as t
use Rattle.tptp_tokens.proofs.BracketLaws.{is_flat}
use Rattle.tptp_tokens.proofs.ChunkLaws.{one_chunk}
use Rattle.tptp_text.specs.Printed.{IsPrintable, is_lower_word, is_digit_run, printed_as, printed_item}
use Rattle.tptp_text.specs.PrintedTokens.{name_token, item_name_token, item_tokens, list_tokens, arguments_tokens, term_tokens, binary_tokens, quantified_tokens, formula_tokens}
use Rattle.tptp_text.specs.Text.{IsFlat, IsWithin, AreItems, NoItem, ItemFirst, IsReadAnswer}
use Rattle.tptp_text.specs.declared.fault.TptpFault.{TptpFault}
use Rattle.tptp_text.specs.declared.fault.TptpFault.TheVariants.{NotTptp, TooDeep, TooMany, Memory}
use Rattle.tptp_text.specs.declared.item.Item.{Item}
use Rattle.tptp_text.proofs.PrintedItemLaws.{begins}
use Rattle.tptp_text.proofs.PrintedTokenLaws.{item_reads, tokens-Var, tokens-App, tokens-Any, tokens-True, tokens-False, tokens-Atom, tokens-Not, tokens-And, tokens-Or, tokens-Imp, tokens-Iff, tokens-All, tokens-Ex}
use Rattle.tptp_text.proofs.TextLaws.{one_reading}

-- ---- one token

-- a token that is no bracket
abbrev Passes : Token → Type 0
Passes token = (n : ℕ) (ts : List Token) → too_deep n (token ∷ ts) ≡ too_deep n ts

opens : (n : ℕ) (ts : List Token) → n < 1000 → too_deep n (t.OpenRound ∷ ts) ≡ too_deep (n + 1) ts
unfolding too_deep
opens n ts room = rw (ne_eqb n 1000 (λ e. omega arith)) refl

one_less : (n : ℕ) → n + 1 - 1 ≡ n
one_less n = omega arith

closes : (n : ℕ) (ts : List Token) → too_deep (n + 1) (t.CloseRound ∷ ts) ≡ too_deep n ts
unfolding too_deep
closes n ts = rw (one_less n) refl

-- `[X]:` is closed again
bound : (n : ℕ) (name : List ℕ) (ts : List Token) → n < 1000 → too_deep n (t.OpenSquare ∷ t.Upper name ∷ t.CloseSquare ∷ t.Colon ∷ ts) ≡ too_deep n ts
unfolding too_deep
bound n name ts room = rw (ne_eqb n 1000 (λ e. omega arith), one_less n) refl

and_passes : Passes t.And
unfolding too_deep
and_passes n ts = refl

or_passes : Passes t.Or
unfolding too_deep
or_passes n ts = refl

imp_passes : Passes t.Implies
unfolding too_deep
imp_passes n ts = refl

iff_passes : Passes t.Iff
unfolding too_deep
iff_passes n ts = refl

every_passes : Passes t.ForAll
unfolding too_deep
every_passes n ts = refl

some_passes : Passes t.Exists
unfolding too_deep
some_passes n ts = refl

name_passes : (name : List ℕ) → Passes (name_token name)
unfolding too_deep
name_passes name n ts = elim (cases_Bool (is_lower_word name)) [ inl e ↦ rw e refl | inr e ↦ rw e refl ]

item_name_passes : (name : List ℕ) → Passes (item_name_token name)
unfolding too_deep
item_name_passes name n ts = elim (cases_Bool (is_lower_word name)) [
  | inl e ↦ rw e refl
  | inr e ↦ elim (cases_Bool (is_digit_run name)) [ inl d ↦ rw (e, d) refl | inr d ↦ rw (e, d) refl ]
]

-- ---- terms

term_has_depth : (x : Term) → 1 ≤ term_depth_of x
term_has_depth = term_induction (λ x. 1 ≤ term_depth_of x) (λ n. rw (depth-Var n) (omega arith)) (λ s args known. rw (depth-App s args) (omega arith)) (rw depth-Any (omega arith))

-- A term opens fewer brackets at once than its depth, and closes all of them: where there is room for these, what stands behind decides.
abbrev TermFits : Term → Type 0
TermFits x = (level n : ℕ) (after : List Token) → n + term_depth_of x ≤ 1001 → too_deep n (term_tokens x level after) ≡ too_deep n after

list_fits : (xs : List Term) → ForEach TermFits xs → (level n : ℕ) (after : List Token) → n + (1 + greatest (map term_depth_of xs)) ≤ 1001 → too_deep (n + 1) (list_tokens t.Comma (map term_tokens xs) level after) ≡ too_deep n after
unfolding too_deep
list_fits [] known level n after room = closes n after
list_fits (x ∷ xs) known level n after room =
    let rest = list_tokens t.Comma (map term_tokens xs) level after in
    known.0 level (n + 1) rest (omega arith) ∙ list_fits xs known.1 level n after (omega arith)

arguments_fit : (xs : List Term) → ForEach TermFits xs → (level n : ℕ) (after : List Token) → n + (1 + greatest (map term_depth_of xs)) ≤ 1001 → too_deep n (arguments_tokens (map term_tokens xs) level after) ≡ too_deep n after
arguments_fit [] known level n after room = refl
arguments_fit (x ∷ xs) known level n after room =
    let rest = list_tokens t.Comma (map term_tokens xs) level after in
    let some = term_has_depth x in
    opens n (term_tokens x level rest) (omega arith) ∙ known.0 level (n + 1) rest (omega arith) ∙ list_fits xs known.1 level n after (omega arith)

term_fits : (x : Term) → TermFits x
unfolding too_deep
term_fits = term_induction TermFits
    (λ k level n after room. rw (tokens-Var k level after) refl)
    (λ s args known level n after room. rw (tokens-App s args level after) (name_passes s.name n _ ∙ arguments_fit args known level n after (rw (depth-App s args) at room)))
    (λ level n after room. rw (tokens-Any level after) refl)

-- ---- formulas

formula_has_depth : (f : Formula) → 1 ≤ formula_depth f
formula_has_depth = formula_induction (λ f. 1 ≤ formula_depth f)
    (rw depth-True (omega arith))
    (rw depth-False (omega arith))
    (λ s args. rw (depth-Atom s args) (omega arith))
    (λ a known. rw (depth-Not a) (omega arith))
    (λ a b left right. rw (depth-And a b) (omega arith))
    (λ a b left right. rw (depth-Or a b) (omega arith))
    (λ a b left right. rw (depth-Imp a b) (omega arith))
    (λ a b left right. rw (depth-Iff a b) (omega arith))
    (λ a known. rw (depth-All a) (omega arith))
    (λ a known. rw (depth-Ex a) (omega arith))

abbrev FormulaFits : Formula → Type 0
FormulaFits f = (level n : ℕ) (after : List Token) → n + formula_depth f ≤ 1001 → too_deep n (formula_tokens f level after) ≡ too_deep n after

binary_fits : (mark : Token) → Passes mark → (a b : Formula) → FormulaFits a → FormulaFits b → (level n : ℕ) (after : List Token) → n + (1 + max (formula_depth a) (formula_depth b)) ≤ 1001
    → too_deep n (binary_tokens mark (formula_tokens a) (formula_tokens b) level after) ≡ too_deep n after
binary_fits mark passes a b left right level n after room =
    let some = formula_has_depth a in
    let second = formula_tokens b level (t.CloseRound ∷ after) in
    opens n (formula_tokens a level (mark ∷ second)) (omega arith) ∙ left level (n + 1) (mark ∷ second) (omega arith) ∙ passes (n + 1) second ∙ right level (n + 1) (t.CloseRound ∷ after) (omega arith) ∙ closes n after

-- there is room for the bracket around the variable, since the body has a depth
quantified_fits : (mark : Token) → Passes mark → (a : Formula) → FormulaFits a → (level n : ℕ) (after : List Token) → n + (1 + formula_depth a) ≤ 1001
    → too_deep n (quantified_tokens mark (formula_tokens a) level after) ≡ too_deep n after
quantified_fits mark passes a known level n after room =
    let some = formula_has_depth a in
    passes n _ ∙ bound n _ _ (omega arith) ∙ known (level + 1) n after (omega arith)

formula_fits : (f : Formula) → FormulaFits f
unfolding too_deep
formula_fits = formula_induction FormulaFits
    (λ level n after room. rw (tokens-True level after) refl)
    (λ level n after room. rw (tokens-False level after) refl)
    (λ s args level n after room. rw (tokens-Atom s args level after) (name_passes s.name n _ ∙ arguments_fit args (for_each TermFits term_fits args) level n after (rw (depth-Atom s args) at room)))
    (λ a known level n after room. let fits = rw (depth-Not a) at room in rw (tokens-Not a level after) (known level n after (omega arith)))
    (λ a b left right level n after room. rw (tokens-And a b level after) (binary_fits t.And and_passes a b left right level n after (rw (depth-And a b) at room)))
    (λ a b left right level n after room. rw (tokens-Or a b level after) (binary_fits t.Or or_passes a b left right level n after (rw (depth-Or a b) at room)))
    (λ a b left right level n after room. rw (tokens-Imp a b level after) (binary_fits t.Implies imp_passes a b left right level n after (rw (depth-Imp a b) at room)))
    (λ a b left right level n after room. rw (tokens-Iff a b level after) (binary_fits t.Iff iff_passes a b left right level n after (rw (depth-Iff a b) at room)))
    (λ a known level n after room. rw (tokens-All a level after) (quantified_fits t.ForAll every_passes a known level n after (rw (depth-All a) at room)))
    (λ a known level n after room. rw (tokens-Ex a level after) (quantified_fits t.Exists some_passes a known level n after (rw (depth-Ex a) at room)))

-- ---- items

-- the bracket around the item is one more
item_fits : (name role : List ℕ) (f : Formula) → formula_depth f ≤ 1000 → too_deep 0 (item_tokens name role f) ≡ false
unfolding too_deep
item_fits name role f fits = item_name_passes name 1 _ ∙ name_passes role 1 _ ∙ formula_fits f 0 1 (t.CloseRound ∷ []) (omega arith)

module _ (name role : List ℕ) (f : Formula) (h : IsPrintable name role f) where
  small : formula_depth f < 2 ^ 64
  small = omega (arith, h.depth)

  flat : IsFlat (printed_item name role f)
  flat tokens stop are =
      let same = (one_chunk (item_reads name role f h.named h.lower small h.symbols) are).0 in
      is_flat tokens (subst (λ (ts : List Token). too_deep 0 ts ≡ false) same (item_fits name role f h.depth))

  within : IsWithin (printed_item name role f) (printed_as name role f)
  within = record { flat = flat; shallow = le-ltb 1000 (formula_depth f) h.depth }

  are_items : AreItems IsWithin true (printed_item name role f) (printed_as name role f ∷ []) []
  are_items = ItemFirst true (printed_item name role f) (printed_item name role f) (printed_as name role f) (10 ∷ []) [] [] (Nothing true (printed_item name role f) (refl, refl, refl))
      (begins name role f h.lower small h.proper h.named h.symbols) within (NoItem false (10 ∷ []) [] (White false 10 [] [] refl (Nothing true [] tt)))

  -- the printed item is read back
  pub printed_is_read : IsReadAnswer (printed_item name role f) (Ok (printed_as name role f ∷ []))
  printed_is_read = (are_items, omega arith)

memory_or_told : (answer : Result (List Item) TptpFault) → (answer ≡ Err Memory) ⊎ (answer ≢ Err Memory)
memory_or_told (Ok items) = inr (λ e. cc)
memory_or_told (Err (NotTptp at)) = inr (λ e. cc)
memory_or_told (Err (TooDeep at)) = inr (λ e. cc)
memory_or_told (Err (TooMany at)) = inr (λ e. cc)
memory_or_told (Err Memory) = inl refl

-- and nothing else is answered but want of memory
pub only_printed : (name role : List ℕ) (f : Formula) → IsPrintable name role f → (answer : Result (List Item) TptpFault) → IsReadAnswer (printed_item name role f) answer
    → (answer ≡ Ok (printed_as name role f ∷ [])) ⊎ (answer ≡ Err Memory)
only_printed name role f h answer reads = elim (memory_or_told answer) [
  | inl memory ↦ inr memory
  | inr told ↦ inl (one_reading (printed_item name role f) answer (Ok (printed_as name role f ∷ [])) reads (printed_is_read name role f h) told (λ e. cc))
]
