-- Lists to which numbers are added, and places in them.
use Rattle.std.proofs.Common.{◌≡◌, ◌<◌, ◌≤◌, ℕ, zero, suc, ◌+◌, true, false, ◌||◌, if◌then◌else◌, List, [], ◌∷◌, ◌++◌, drop, length, get_or, refl, sym, ap, ap₂, ◌∙◌, arith, drop-cons, eq-eqb}
use Rattle.std.proofs.lemmas.Bool.{ne_eqb}
use Rattle.normal_form.specs.ClauseLists.{has_number, with_number, with_numbers}
use Rattle.normal_form.specs.Renaming.{place_of}
use Rattle.step_chain.proofs.Steps.{term_steps}

-- numbers may be added in two parts
pub with_numbers-append : (seen xs ys : List ℕ) → with_numbers seen (xs ++ ys) ≡ with_numbers (with_numbers seen xs) ys
with_numbers-append seen [] ys = refl
with_numbers-append seen (x ∷ xs) ys = with_numbers-append (with_number seen x) xs ys

-- the number is not before that place
pub record NotBefore (numbers : List ℕ) (k n : ℕ) : Type 0 where
  pub has : has_number numbers n ≡ has_number (drop k numbers) n
  pub place : place_of numbers n ≡ k + place_of (drop k numbers) n

pub not_before_start : (numbers : List ℕ) (n : ℕ) → NotBefore numbers 0 n
not_before_start numbers n = record { has = refl; place = omega arith }

split_at : (numbers : List ℕ) (k v : ℕ) → k < length numbers → v ≡ get_or numbers k v → drop k numbers ≡ v ∷ drop (k + 1) numbers
split_at numbers k v less is =
    let e : suc k ≡ k + 1 = omega arith in
    drop-cons numbers k v less ∙ ap₂ (λ x y. x ∷ y) (sym is) (ap (λ z. drop z numbers) e)

pub not_before_more : (numbers : List ℕ) (k v n : ℕ) → k < length numbers → v ≡ get_or numbers k v → (v ≡ n → ⊥) → NotBefore numbers k n → NotBefore numbers (k + 1) n
not_before_more numbers k v n less is differs h =
    let e = ne_eqb v n differs in
    let s = split_at numbers k v less is in
    let p : place_of (v ∷ drop (k + 1) numbers) n ≡ 1 + place_of (drop (k + 1) numbers) n = ap (λ b. if b then 0 else 1 + place_of (drop (k + 1) numbers) n) e in
    let q = ap (λ l. place_of l n) s in
    let r = h.place in record {
      has = h.has ∙ ap (λ l. has_number l n) s ∙ ap (λ b. b || has_number (drop (k + 1) numbers) n) e;
      place = omega arith;
    }

pub here : (numbers : List ℕ) (k v n : ℕ) → k < length numbers → v ≡ get_or numbers k v → v ≡ n → NotBefore numbers k n → (has_number numbers n ≡ true) × (k ≡ place_of numbers n)
here numbers k v n less is same h =
    let e = eq-eqb v n same in
    let s = split_at numbers k v less is in
    let p : place_of (v ∷ drop (k + 1) numbers) n ≡ 0 = ap (λ b. if b then 0 else 1 + place_of (drop (k + 1) numbers) n) e in
    let q = ap (λ l. place_of l n) s in
    let r = h.place in
    (h.has ∙ ap (λ l. has_number l n) s ∙ ap (λ b. b || has_number (drop (k + 1) numbers) n) e, omega arith)

past : (numbers : List ℕ) (k : ℕ) → length numbers ≤ k → drop k numbers ≡ []
past [] zero less = refl
past [] (suc k) less = refl
past (x ∷ numbers) zero less = absurd (omega arith)
past (x ∷ numbers) (suc k) less = past numbers k (omega arith)

pub nowhere : (numbers : List ℕ) (k n : ℕ) → length numbers ≤ k → NotBefore numbers k n → has_number numbers n ≡ false
nowhere numbers k n less h = h.has ∙ ap (λ l. has_number l n) (past numbers k less)

pub ruleset number_steps = (term_steps, with_numbers-append)
