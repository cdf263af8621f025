-- Laws of tables of terms, for those who put terms in.
use Rattle.std.proofs.Common.{◌≡◌, ◌<◌, ◌≤◌, ◌+◌, ℕ, List, [], ◌∷◌, ◌++◌, length, length-append, arith, ap, subst, ◌∙◌, inl, inr}
use Rattle.std.proofs.lemmas.List.{get_or_append_left, get_or-append-add}
use Rattle.dk_syntax.specs.TermTables.{IsNumbered, term_of}
use Rattle.dk_syntax.specs.declared.term.Term.{Term}
use Rattle.dk_syntax.specs.declared.term.Term.TheVariants.{Any}

-- at most one term comes to the table
pub numbered_length : (old new : List Term) (t : Term) (n : ℕ) → IsNumbered old t new n → (length old ≤ length new) × (length new ≤ length old + 1)
numbered_length old new t n (inl h) = let e = ap length h.0 in (omega arith, omega arith)
numbered_length old new t n (inr h) = let e = ap length h.1 ∙ length-append old (t ∷ []) in (omega arith, omega arith)

-- the number is one of the table's
pub numbered_within : (old new : List Term) (t : Term) (n : ℕ) → IsNumbered old t new n → n < length new
numbered_within old new t n (inl h) = let e = ap length h.0 in let within = h.1 in omega arith
numbered_within old new t n (inr h) = let e = ap length h.1 ∙ length-append old (t ∷ []) in let at = h.2 in omega arith

-- and its term is the one put in
pub numbered_here : (old new : List Term) (t : Term) (n : ℕ) → IsNumbered old t new n → term_of new n ≡ t
numbered_here old new t n (inl h) = ap (λ l. term_of l n) h.0 ∙ h.2
numbered_here old new t n (inr h) =
    let last : length old + 0 ≡ n = let at = h.2 in omega arith in
    ap (λ l. term_of l n) h.1 ∙ subst (λ k. term_of (old ++ t ∷ []) k ≡ t) last (get_or-append-add old (t ∷ []) 0 Any)

-- old numbers keep their terms
pub numbered_stays : (old new : List Term) (t : Term) (n k : ℕ) → IsNumbered old t new n → k < length old → term_of new k ≡ term_of old k
numbered_stays old new t n k (inl h) l = ap (λ xs. term_of xs k) h.0
numbered_stays old new t n k (inr h) l = ap (λ xs. term_of xs k) h.1 ∙ get_or_append_left old (t ∷ []) Any k l
