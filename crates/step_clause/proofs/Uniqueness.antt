-- A justification is one value.
use Rattle.std.proofs.Common.{◌≡◌, ◌<◌, ◌+◌, ℕ, zero, suc, Bool, true, false, List, [], ◌∷◌, ◌++◌, map, take, drop, Option, Some, None, slice_get, length, length-append, subst, arith, refl, sym, ap, ◌∙◌, ◌⊎◌, inl, inr}
use Rattle.std.specs.Prelude.{if◌then◌else◌, nat_lt}
use Rattle.std.specs.List.{range_with_len}
use Rattle.std.proofs.lemmas.Bool.{ltb-true}
use Rattle.std.proofs.lemmas.Bool.Decides.{nat_tests}
use Rattle.dk_syntax.proofs.ListLaws.{ForEach}
use Rattle.dk_syntax.proofs.TermLaws.{term_induction, App-injective, Var-injective}
use Rattle.dk_syntax.specs.declared.Clause.{Clause}
use Rattle.dk_syntax.specs.declared.Literal.{Literal}
use Rattle.dk_syntax.specs.declared.Term.{Term}
use Rattle.dk_syntax.specs.declared.Term.TheVariants.{Any, App, Var}
use Rattle.normal_form.specs.declared.ClauseList.{ClauseList}
use Rattle.unifier.specs.Substitution.{Fixes}
use Rattle.dk_syntax.specs.Terms.{substituted}
use Rattle.dk_syntax.proofs.SubstitutionLaws.{substituted-Var, substituted-App, substituted-Any}
use Rattle.step_clause.specs.declared.justification.Justification.{Justification}
use Rattle.step_clause.specs.declared.justification.Justification.TheVariants.{Subsume, Resolve}
use Rattle.step_clause.specs.Candidates.{Candidate, subsumption, resolution, Works, Before, IsListBefore, IsClause, Subsumes, Resolves}
use Rattle.step_clause.specs.Justifications.{closed, closed_terms, AreTerms, ArePairedTerms, candidate_of, IsJustification}
use Rattle.step_clause.proofs.Justified.{IsJustified}
use Rattle.step_clause.proofs.Pairs.{picks_long, front, back}

-- ---- the terms of two most general substitutions

low_closed : (n k : ℕ) → nat_lt k n ≡ true → closed n k ≡ Var k
low_closed n k e = ap (λ b. if b then Var k else Any) e

high_closed : (n k : ℕ) → nat_lt k n ≡ false → closed n k ≡ Any
high_closed n k e = ap (λ b. if b then Var k else Any) e

cases_Bool : (b : Bool) → (b ≡ true) ⊎ (b ≡ false)
cases_Bool true = inl refl
cases_Bool false = inr refl

-- what becomes a variable that is not the target's is one
abbrev pub Becomes : ℕ → (ℕ → Term) → ℕ → Term → Type 0
Becomes n r k b = substituted r b ≡ Var k → nat_lt k n ≡ false → substituted (closed n) b ≡ Any

becomes : (n : ℕ) (r : ℕ → Term) → Fixes n r → (k : ℕ) (b : Term) → Becomes n r k b
becomes n r f k = term_induction (Becomes n r k)
    (λ m e high. elim (cases_Bool (nat_lt m n)) [
      | inl low ↦ absurd (
          let x : m ≡ k = Var-injective m k (sym (f m (ltb-true m n low)) ∙ sym (substituted-Var r m) ∙ e) in
          let y = ap (λ z. nat_lt z n) x in cc)
      | inr q ↦ substituted-Var (closed n) m ∙ high_closed n m q
    ])
    (λ symbol args known e high. absurd (let a = substituted-App r symbol args in cc))
    (λ e high. substituted-Any (closed n))

abbrev pub Alike : ℕ → (ℕ → Term) → (ℕ → Term) → Term → Type 0
Alike n r s a = substituted s (substituted r a) ≡ a → substituted (closed n) a ≡ substituted (closed n) (substituted r a)

alike_all : (n : ℕ) (r s : ℕ → Term) (args : List Term) → ForEach (Alike n r s) args → map (substituted s) (map (substituted r) args) ≡ args → map (substituted (closed n)) args ≡ map (substituted (closed n)) (map (substituted r) args)
alike_all n r s [] known e = refl
alike_all n r s (x ∷ xs) known e =
    let a = known.0 (cc) in
    let b = alike_all n r s xs known.1 (cc) in cc

-- a term that comes back from a further instance of it is closed as that instance is
alike : (n : ℕ) (r s : ℕ → Term) → Fixes n r → Fixes n s → (a : Term) → Alike n r s a
alike n r s f g = term_induction (Alike n r s)
    (λ k e. elim (cases_Bool (nat_lt k n)) [
      | inl low ↦ ap (substituted (closed n)) (sym (substituted-Var r k ∙ f k (ltb-true k n low)))
      | inr high ↦ substituted-Var (closed n) k ∙ high_closed n k high ∙ sym (becomes n s g k (substituted r (Var k)) e high)
    ])
    (λ symbol args known e.
    let u = substituted-App r symbol args in
    let v = substituted-App s symbol (map (substituted r) args) in
    let i = App-injective symbol symbol (map (substituted s) (map (substituted r) args)) args (sym v ∙ sym (ap (substituted s) u) ∙ e) in
    substituted-App (closed n) symbol args ∙ ap (App symbol) (alike_all n r s args known i.1)
    ∙ sym (substituted-App (closed n) symbol (map (substituted r) args)) ∙ ap (substituted (closed n)) (sym u))
    (λ e. ap (substituted (closed n)) (sym (substituted-Any r)))

same_on_range : (f g : ℕ → Term) (a n : ℕ) → ((j : ℕ) → j < a + n → f j ≡ g j) → map f (range_with_len a n) ≡ map g (range_with_len a n)
same_on_range f g a zero h = refl
same_on_range f g a (suc n) h =
    let x = h a (omega arith) in
    let y = same_on_range f g (a + 1) n (λ j l. h j (omega arith)) in cc

closed_alike : (n v : ℕ) (t u r s : ℕ → Term) → Fixes n r → Fixes n s → ((j : ℕ) → j < v → u j ≡ substituted r (t j)) → ((j : ℕ) → j < v → t j ≡ substituted s (u j)) → closed_terms n v t ≡ closed_terms n v u
closed_alike n v t u r s f g to back =
    same_on_range (λ j. substituted (closed n) (t j)) (λ j. substituted (closed n) (u j)) 0 v (λ j l.
    alike n r s f g (t j) (ap (substituted s) (sym (to j (omega arith))) ∙ sym (back j (omega arith))) ∙ ap (substituted (closed n)) (sym (to j (omega arith))))

pub one_list : (n v : ℕ) (Holds : (ℕ → Term) → Type 0) (terms terms' : List Term) → AreTerms n v Holds terms → AreTerms n v Holds terms' → terms ≡ terms'
one_list n v Holds terms terms' (t, (h, general), e) (u, (h', general'), e') =
    let there = general u h' in
    let back = general' t h in
    e ∙ closed_alike n v t u there.0 back.0 there.1 back.1 there.2 back.2 ∙ sym e'

pub one_pair : (n v v' : ℕ) (Holds : (ℕ → Term) → (ℕ → Term) → Type 0) (terms terms' others others' : List Term) → ArePairedTerms n v v' Holds terms others → ArePairedTerms n v v' Holds terms' others' → (terms ≡ terms') × (others ≡ others')
one_pair n v v' Holds terms terms' others others' (t, t', (h, general), e, e') (u, u', (k, general'), d, d') =
    let there = general u u' k in
    let back = general' t t' h in (
      e ∙ closed_alike n v t u there.0 back.0 there.1 back.1 there.2 back.2 ∙ sym d,
      e' ∙ closed_alike n v' t' u' there.0 back.0 there.1 back.1 there.3 back.3 ∙ sym d',
    )

-- ---- the least candidate

equal_heads : (m n : ℕ) (ms ns : List ℕ) → (IsListBefore (m ∷ ms) (n ∷ ns) → ⊥) → (IsListBefore (n ∷ ns) (m ∷ ms) → ⊥) → m ≡ n
equal_heads m n ms ns h h' =
    let a : m < n → ⊥ = λ l. h (inl l) in
    let b : n < m → ⊥ = λ l. h' (inl l) in grind (arith, nat_tests)

not_before : (m n : ℕ) (ms ns : List ℕ) → m ≡ n → (IsListBefore (m ∷ ms) (n ∷ ns) → ⊥) → IsListBefore ms ns → ⊥
not_before m n ms ns e h b = h (inr (e, b))

equal_lists : (ms ns : List ℕ) → length ms ≡ length ns → (IsListBefore ms ns → ⊥) → (IsListBefore ns ms → ⊥) → ms ≡ ns
equal_lists [] [] e h h' = refl
equal_lists [] (n ∷ ns) e h h' = absurd (omega arith)
equal_lists (m ∷ ms) [] e h h' = absurd (omega arith)
equal_lists (m ∷ ms) (n ∷ ns) e h h' =
    let x = equal_heads m n ms ns h h' in
    let y = equal_lists ms ns (omega arith) (not_before m n ms ns x h) (not_before n m ns ms (sym x) h') in cc

one_clause : (parents : List ClauseList) (i k : ℕ) (c d : Clause) → IsClause parents i k c → IsClause parents i k d → c ≡ d
one_clause parents i k c d (list, row, at, at', e) (list', row', a, a', e') =
    let x : list ≡ list' = cc in
    let y : slice_get list.rows k ≡ slice_get list'.rows k = ap (λ z. slice_get z.rows k) x in
    let z : row ≡ row' = cc in
    sym e ∙ ap (λ z. z.clause) z ∙ e'

clause_moved : (parents : List ClauseList) (i k i' k' : ℕ) (c : Clause) → i ≡ i' → k ≡ k' → IsClause parents i k c → IsClause parents i' k' c
clause_moved parents i k i' k' c e e' h = subst (λ z. IsClause parents z k' c) e (subst (λ z. IsClause parents i z c) e' h)

subsuming_long : (t : ℕ → Term) (ds cs : List Literal) (ps : List ℕ) → Subsumes t ds cs ps → length ps ≡ length cs
subsuming_long t ds [] [] h = refl
subsuming_long t ds [] (p ∷ ps) h = absurd h
subsuming_long t ds (c ∷ cs) [] h = absurd h
subsuming_long t ds (c ∷ cs) (p ∷ ps) h = ap suc (subsuming_long t ds cs ps h.1)

-- ---- two justifications

-- one of them, as it is compared: nothing that works is before it
abbrev pub NoneBefore : Clause → List ClauseList → Candidate → Type 0
NoneBefore target parents it = (other : Candidate) → Works target parents other → Before other it → ⊥

one_subsumption : (target : Clause) (parents : List ClauseList) (i k i' k' : ℕ) (ps qs : List ℕ) (terms terms' : List Term) → IsJustified target parents (Subsume i k ps terms) → IsJustified target parents (Subsume i' k' qs terms') → Subsume i k ps terms ≡ Subsume i' k' qs terms'
one_subsumption target parents i k i' k' ps qs terms terms' ((w, least), (c, at, has)) ((w', least'), (d, at', has')) =
    let h = least' (subsumption i k ps) w in
    let h' = least (subsumption i' k' qs) w' in
    let a = equal_heads i i' (k ∷ ps) (k' ∷ qs) h h' in
    let x = not_before i i' (k ∷ ps) (k' ∷ qs) a h in
    let x' = not_before i' i (k' ∷ qs) (k ∷ ps) (sym a) h' in
    let b = equal_heads k k' ps qs x x' in
    let y = not_before k k' ps qs b x in
    let y' = not_before k' k qs ps (sym b) x' in
    let e = one_clause parents i' k' c d (clause_moved parents i k i' k' c a b at) at' in
    let long = subsuming_long has.0 target.lits c.lits ps has.1.0 ∙ ap (λ z. length z.lits) e ∙ sym (subsuming_long has'.0 target.lits d.lits qs has'.1.0) in
    let p : ps ≡ qs = equal_lists ps qs long y y' in
    let moved = subst (λ z. AreTerms target.vars d.vars (λ t. Subsumes t target.lits d.lits z) terms) p (subst (λ z. AreTerms target.vars z.vars (λ t. Subsumes t target.lits z.lits ps) terms) e has) in
    let t = one_list target.vars d.vars (λ t. Subsumes t target.lits d.lits qs) terms terms' moved has' in
    ap (λ z. Subsume z k ps terms) a ∙ ap (λ z. Subsume i' z ps terms) b ∙ ap (λ z. Subsume i' k' z terms) p ∙ ap (λ z. Subsume i' k' qs z) t

one_resolution : (target : Clause) (parents : List ClauseList) (i k i' k' j l j' l' : ℕ) (ps ps' qs qs' : List ℕ) (ts ts' us us' : List Term) → IsJustified target parents (Resolve i k i' k' ps ps' ts ts') → IsJustified target parents (Resolve j l j' l' qs qs' us us') → Resolve i k i' k' ps ps' ts ts' ≡ Resolve j l j' l' qs qs' us us'
one_resolution target parents i k i' k' j l j' l' ps ps' qs qs' ts ts' us us' ((w, least), (c, c', at, at', has)) ((v, least'), (d, d', bt, bt', has')) =
    let h = least' (resolution i k i' k' ps ps') w in
    let g = least (resolution j l j' l' qs qs') v in
    let a = equal_heads i j (k ∷ i' ∷ k' ∷ (ps ++ ps')) (l ∷ j' ∷ l' ∷ (qs ++ qs')) h g in
    let h1 = not_before i j (k ∷ i' ∷ k' ∷ (ps ++ ps')) (l ∷ j' ∷ l' ∷ (qs ++ qs')) a h in
    let g1 = not_before j i (l ∷ j' ∷ l' ∷ (qs ++ qs')) (k ∷ i' ∷ k' ∷ (ps ++ ps')) (sym a) g in
    let b = equal_heads k l (i' ∷ k' ∷ (ps ++ ps')) (j' ∷ l' ∷ (qs ++ qs')) h1 g1 in
    let h2 = not_before k l (i' ∷ k' ∷ (ps ++ ps')) (j' ∷ l' ∷ (qs ++ qs')) b h1 in
    let g2 = not_before l k (j' ∷ l' ∷ (qs ++ qs')) (i' ∷ k' ∷ (ps ++ ps')) (sym b) g1 in
    let a' = equal_heads i' j' (k' ∷ (ps ++ ps')) (l' ∷ (qs ++ qs')) h2 g2 in
    let h3 = not_before i' j' (k' ∷ (ps ++ ps')) (l' ∷ (qs ++ qs')) a' h2 in
    let g3 = not_before j' i' (l' ∷ (qs ++ qs')) (k' ∷ (ps ++ ps')) (sym a') g2 in
    let b' = equal_heads k' l' (ps ++ ps') (qs ++ qs') h3 g3 in
    let h4 = not_before k' l' (ps ++ ps') (qs ++ qs') b' h3 in
    let g4 = not_before l' k' (qs ++ qs') (ps ++ ps') (sym b') g3 in
    let e = one_clause parents j l c d (clause_moved parents i k j l c a b at) bt in
    let e' = one_clause parents j' l' c' d' (clause_moved parents i' k' j' l' c' a' b' at') bt' in
    let r = has.2.0 in
    let s = has'.2.0 in
    let m : length ps ≡ length c.lits = picks_long has.0 target.lits _ c.lits ps r.2.0 in
    let m' : length ps' ≡ length c'.lits = picks_long has.1 target.lits _ c'.lits ps' r.3.0 in
    let n : length qs ≡ length d.lits = picks_long has'.0 target.lits _ d.lits qs s.2.0 in
    let n' : length qs' ≡ length d'.lits = picks_long has'.1 target.lits _ d'.lits qs' s.3.0 in
    let x : length c.lits ≡ length d.lits = ap (λ z. length z.lits) e in
    let x' : length c'.lits ≡ length d'.lits = ap (λ z. length z.lits) e' in
    let whole : ps ++ ps' ≡ qs ++ qs' = equal_lists (ps ++ ps') (qs ++ qs') (length-append ps ps' ∙ (let o : length ps + length ps' ≡ length qs + length qs' = omega arith in o) ∙ sym (length-append qs qs')) h4 g4 in
    let p : ps ≡ qs = sym (front ps ps' (length d.lits) (m ∙ x)) ∙ ap (take (length d.lits)) whole ∙ front qs qs' (length d.lits) n in
    let q : ps' ≡ qs' = sym (back ps ps' (length d.lits) (m ∙ x)) ∙ ap (drop (length d.lits)) whole ∙ back qs qs' (length d.lits) n in
    let moved = subst (λ z. ArePairedTerms target.vars d.vars d'.vars (λ t u. Resolves t u target.lits d.lits d'.lits qs z) ts ts') q
    (subst (λ z. ArePairedTerms target.vars d.vars d'.vars (λ t u. Resolves t u target.lits d.lits d'.lits z ps') ts ts') p
    (subst (λ z. ArePairedTerms target.vars d.vars z.vars (λ t u. Resolves t u target.lits d.lits z.lits ps ps') ts ts') e'
    (subst (λ z. ArePairedTerms target.vars z.vars c'.vars (λ t u. Resolves t u target.lits z.lits c'.lits ps ps') ts ts') e has))) in
    let t = one_pair target.vars d.vars d'.vars (λ t u. Resolves t u target.lits d.lits d'.lits qs qs') ts us ts' us' moved has' in
    ap (λ z. Resolve z k i' k' ps ps' ts ts') a ∙ ap (λ z. Resolve j z i' k' ps ps' ts ts') b
    ∙ ap (λ z. Resolve j l z k' ps ps' ts ts') a' ∙ ap (λ z. Resolve j l j' z ps ps' ts ts') b'
    ∙ ap (λ z. Resolve j l j' l' z ps' ts ts') p ∙ ap (λ z. Resolve j l j' l' qs z ts ts') q
    ∙ ap (λ z. Resolve j l j' l' qs qs' z ts') t.0 ∙ ap (λ z. Resolve j l j' l' qs qs' us z) t.1

one_value : (target : Clause) (parents : List ClauseList) (one other : Justification) → IsJustified target parents one → IsJustified target parents other → one ≡ other
one_value target parents (Subsume i k ps terms) (Subsume i' k' qs terms') h h' = one_subsumption target parents i k i' k' ps qs terms terms' h h'
one_value target parents (Subsume i k ps terms) (Resolve j l j' l' qs qs' us us') h h' = absurd (h'.0.1 (subsumption i k ps) h.0.0 tt)
one_value target parents (Resolve i k i' k' ps ps' ts ts') (Subsume j l qs us) h h' = absurd (h.0.1 (subsumption j l qs) h'.0.0 tt)
one_value target parents (Resolve i k i' k' ps ps' ts ts') (Resolve j l j' l' qs qs' us us') h h' = one_resolution target parents i k i' k' j l j' l' ps ps' qs qs' ts ts' us us' h h'

-- the justification of a clause is one value
pub one_justification : (target : Clause) (parents : List ClauseList) (one other : Option Justification) → IsJustification target parents one → IsJustification target parents other → one ≡ other
one_justification target parents None None h h' = refl
one_justification target parents None (Some it) h h' = absurd (h (candidate_of it) h'.0.0)
one_justification target parents (Some it) None h h' = absurd (h' (candidate_of it) h.0.0)
one_justification target parents (Some it) (Some other) h h' = ap Some (one_value target parents it other h h')
