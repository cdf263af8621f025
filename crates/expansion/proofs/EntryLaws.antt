-- A map that leads to an image has one entry at most for an existential, so that it is found by its number.
use Rattle.std.proofs.Common.{◌≡◌, ◌<◌, ◌≤◌, ◌+◌, ℕ, suc, nat_eq, false, List, [], ◌∷◌, ◌++◌, map, cond, refl, sym, ap, ◌∙◌, subst, arith, append_assoc, eq-eqb}
use Rattle.dk_syntax.specs.Lists.{Every, entry_here, entry_later, every_cons, every_nil}
use Rattle.dk_syntax.specs.declared.SymKey.{SymKey}
use Rattle.dk_syntax.specs.declared.Term.{Term}
use Rattle.dk_syntax.specs.declared.Term.TheVariants.{App}
use Rattle.expansion.proofs.Everywhere.{every_both, every_head, every_only, every_tail}
use Rattle.expansion.specs.Choices.{skolem_term}
use Rattle.expansion.specs.Rows.{symbols_in}
use Rattle.expansion.specs.ThinTrees.{IsListed}
use Rattle.normal_form.specs.Forms.{Form, exs}
use Rattle.step_skolem.specs.Images.{Image, Kept, entry, i_all, i_and, i_keep, i_lit, i_no, i_or, i_put, i_yes}
use Rattle.step_skolem.specs.declared.SkEntry.{SkEntry}

-- ---- numbers

-- each entry's number is below e
abbrev pub AreBefore : ℕ → List SkEntry → Type 0
AreBefore e m = Every (λ one. one.ex < e) m

before_more : (e f : ℕ) {m : List SkEntry} → e ≤ f → AreBefore e m → AreBefore f m
before_more e f h w = every_only (λ one b. omega (arith, h, b)) w

-- a map's numbers end with those of the form
pub image_before : {g : List Kept} {s : ℕ → Term} {u e : ℕ} {n : Form} {m : List SkEntry} {d : Form} → Image g s u e n m d → AreBefore (exs n + e) m
image_before (i_yes g s u e) = every_nil
image_before (i_no g s u e) = every_nil
image_before (i_lit g s u e l) = every_nil
image_before (i_and g s u e a b m n c d p q) =
    every_both (before_more (exs a + e) (exs a + exs b + e) (omega arith) (image_before p))
    (before_more (exs b + (exs a + e)) (exs a + exs b + e) (omega arith) (image_before q))
image_before (i_or g s u e a b m n c d p q) =
    every_both (before_more (exs a + e) (exs a + exs b + e) (omega arith) (image_before p))
    (before_more (exs b + (exs a + e)) (exs a + exs b + e) (omega arith) (image_before q))
image_before (i_all g s u e b m d p) = image_before p
image_before (i_keep g s u e b m d p) = before_more (exs b + suc e) (suc (exs b) + e) (omega arith) (image_before p)
image_before (i_put g s u e b m d symbol args ys fits p) =
    every_cons (omega arith) (before_more (exs b + suc e) (suc (exs b) + e) (omega arith) (image_before p))

-- ---- entries found

differs : (k n : ℕ) → k < n → nat_eq k n ≡ false
differs k n h = grind (arith, h)

module _ (v : ℕ → Term) where
  -- an entry is found behind others with smaller numbers
  found : (e : ℕ) (front : List SkEntry) (symbol : SymKey) (args : List ℕ) (back : List SkEntry) → AreBefore e front
      → skolem_term v (front ++ entry e symbol args ∷ back) e ≡ App symbol (map v args)
  found e [] symbol args back h = ap (λ b. cond b (App symbol (map v args)) (skolem_term v back e)) (eq-eqb e e refl)
  found e (one ∷ front) symbol args back h =
      ap (λ b. cond b (App one.symbol (map v one.args)) (skolem_term v (front ++ entry e symbol args ∷ back) e)) (differs one.ex e (every_head h))
      ∙ found e front symbol args back (every_tail h)

  -- the entry's symbol at the terms of its universals is what is found in the list for its existential
  abbrev pub IsFound : List SkEntry → SkEntry → Type 0
  IsFound whole one = skolem_term v whole one.ex ≡ App one.symbol (map v one.args)

  pub image_found : {g : List Kept} {s : ℕ → Term} {u e : ℕ} {n : Form} {m : List SkEntry} {d : Form} → Image g s u e n m d
      → (front back : List SkEntry) → AreBefore e front → Every (IsFound (front ++ (m ++ back))) m
  image_found (i_yes g s u e) front back h = every_nil
  image_found (i_no g s u e) front back h = every_nil
  image_found (i_lit g s u e l) front back h = every_nil
  image_found (i_and g s u e a b m n c d p q) front back h =
      let x = image_found p front (n ++ back) h in
      let y = image_found q (front ++ m) back (every_both (before_more e (exs a + e) (omega arith) h) (image_before p)) in
      subst (λ l. Every (IsFound (front ++ l)) (m ++ n)) (sym (append_assoc m n back))
      (every_both x (subst (λ l. Every (IsFound l) n) (append_assoc front m (n ++ back)) y))
  image_found (i_or g s u e a b m n c d p q) front back h =
      let x = image_found p front (n ++ back) h in
      let y = image_found q (front ++ m) back (every_both (before_more e (exs a + e) (omega arith) h) (image_before p)) in
      subst (λ l. Every (IsFound (front ++ l)) (m ++ n)) (sym (append_assoc m n back))
      (every_both x (subst (λ l. Every (IsFound l) n) (append_assoc front m (n ++ back)) y))
  image_found (i_all g s u e b m d p) front back h = image_found p front back h
  image_found (i_keep g s u e b m d p) front back h = image_found p front back (before_more e (suc e) (omega arith) h)
  image_found (i_put g s u e b m d symbol args ys fits p) front back h =
      let one = entry e symbol args in
      let before : AreBefore (suc e) (front ++ one ∷ []) = every_both (before_more e (suc e) (omega arith) h) (every_cons (omega arith) every_nil) in
      every_cons (found e front symbol args (m ++ back) h)
      (subst (λ l. Every (IsFound l) m) (append_assoc front (one ∷ []) (m ++ back)) (image_found p (front ++ one ∷ []) back before))

-- ---- symbols

-- each entry's symbol is one of the map's
pub symbols_of_map : (m : List SkEntry) → Every (λ one. IsListed (symbols_in m) one.symbol) m
symbols_of_map [] = every_nil
symbols_of_map (one ∷ m) = every_cons (0, entry_here one.symbol (symbols_in m)) (every_only (λ other w. (suc w.0, entry_later one.symbol w.1)) (symbols_of_map m))
