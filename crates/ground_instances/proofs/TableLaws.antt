-- Laws of the table of a state: names are told by their terms, and the table has exactly the terms of the clauses.
use Rattle.std.proofs.Common.{◌≡◌, ◌<◌, ℕ, zero, suc, List, [], ◌∷◌, map, length, get_or, Contains, Some, slice_get, arith, refl, sym, ap, ap₂, ◌∙◌, subst}
use Rattle.std.proofs.lemmas.Option.{get_or_from_slice_get, slice_get_within}
use Rattle.dk_syntax.specs.TermTables.{IsTermTable, term_of}
use Rattle.dk_syntax.specs.declared.clause.Literal.{Literal}
use Rattle.dk_syntax.specs.declared.term.Term.{Term}
use Rattle.dk_syntax.specs.declared.term.Term.TheVariants.{Any}
use Rattle.ground_instances.proofs.Growth.{literals_stay, terms_stay}
use Rattle.ground_instances.proofs.Parts.{all_at, mapped_from}
use Rattle.ground_instances.specs.Growing.{Grows}
use Rattle.ground_instances.specs.Instances.{clauses_in, keys_of}
use Rattle.ground_instances.specs.Keys.{Key}
use Rattle.ground_instances.specs.Naming.{AreNamesBelow, key_by, keys_by}
use Rattle.ground_instances.specs.Rows.{AreBelow, AreLiteralsBelow, AreRowsBelow, instances_by, IsRowBelow, literal_by, literals_by, terms_by, written}
use Rattle.ground_instances.specs.States.{name_of}
use Rattle.ground_instances.specs.Weights.{inside, IsInClause, IsInClauses, IsPart, whole}
use Rattle.ground_instances.specs.declared.instance.Instance.{Instance}
use Rattle.ground_instances.specs.declared.instance.Row.{Row}
use Rattle.ground_instances.specs.declared.instance.RowLit.{RowLit}
use Rattle.ground_instances.specs.declared.naming.Named.{Named}

-- ---- tables that grow

row_stays : {Is : Term → Type 0} {old new : List Term} → Grows Is old new → (row : Row) → IsRowBelow (length old) row → written new row ≡ written old row
row_stays g row below =
    let f : List Term → List Literal → Instance = λ (ts : List Term) (ls : List Literal).
    record { step = row.step; stage = row.stage; clause = row.clause; terms = ts; lits = ls; needs = row.needs } in
    ap₂ f (terms_stay g row.terms below.terms) (literals_stay g row.lits below.lits)

pub rows_stay : {Is : Term → Type 0} {old new : List Term} → Grows Is old new → (rows : List Row) → AreRowsBelow old rows → instances_by new rows ≡ instances_by old rows
rows_stay g [] below = refl
rows_stay g (row ∷ rows) below = ap₂ (λ x y. x ∷ y) (row_stays g row (below 0 row (omega arith))) (rows_stay g rows (λ k d l. below (suc k) d (omega arith)))

-- the names of the instances are those of the rows
pub keys_same : (table : List Term) (rows : List Row) → keys_of (instances_by table rows) ≡ keys_by table (map name_of rows)
keys_same table [] = refl
keys_same table (row ∷ rows) = ap (λ x. key_by table (name_of row) ∷ x) (keys_same table rows)

pub names_below : (table : List Term) (rows : List Row) → AreRowsBelow table rows → AreNamesBelow (length table) (map name_of rows)
names_below table [] below k d l = absurd (omega arith)
names_below table (row ∷ rows) below zero d l = (below 0 row (omega arith)).terms
names_below table (row ∷ rows) below (suc k) d l = names_below table rows (λ j e m. below (suc j) e (omega arith)) k d (omega arith)

-- ---- names are told by their terms

module _ (table : List Term) (is : IsTermTable table) where
  numbers_one : (xs ys : List ℕ) → AreBelow (length table) xs → AreBelow (length table) ys → terms_by table xs ≡ terms_by table ys → xs ≡ ys
  numbers_one [] [] a b e = refl
  numbers_one [] (y ∷ ys) a b e = cc
  numbers_one (x ∷ xs) [] a b e = cc
  numbers_one (x ∷ xs) (y ∷ ys) a b e =
      let first : term_of table x ≡ term_of table y = cc in
      let rest : terms_by table xs ≡ terms_by table ys = cc in
      ap₂ (λ m ns. m ∷ ns) (is.distinct x y (a 0 0 (omega arith)) (b 0 0 (omega arith)) first)
      (numbers_one xs ys (λ k d l. a (suc k) d (omega arith)) (λ k d l. b (suc k) d (omega arith)) rest)

  name_one : (one other : Named) → AreBelow (length table) one.terms → AreBelow (length table) other.terms → key_by table one ≡ key_by table other → one ≡ other
  name_one one other a b e =
      let step = ap (λ (k : Key). k.step) e in
      let stage = ap (λ (k : Key). k.stage) e in
      let clause = ap (λ (k : Key). k.clause) e in
      let terms = numbers_one one.terms other.terms a b (ap (λ (k : Key). k.terms) e) in
      λ i. record { place = record { step = step i; stage = stage i; clause = clause i }; terms = terms i }

  -- an instance whose name isn't listed isn't in the list
  pub absent_key : (names : List Named) (named : Named) → AreNamesBelow (length table) names → AreBelow (length table) named.terms
      → (Contains names named → ⊥) → Contains (keys_by table names) (key_by table named) → ⊥
  absent_key names named below here absent c =
      let r = mapped_from (key_by table) names (key_by table named) c in
      let same = name_one r.0 named (all_at (λ (x : Named). AreBelow (length table) x.terms) names r.0 below r.1) here r.2 in
      absent (subst (Contains names) same r.1)

  -- ---- the table has its terms' parts

  here_is : (n : ℕ) → n < length table → Contains table (term_of table n)
  here_is n l = (n, l, get_or_any table n (term_of table n) l)
    where
      get_or_any : (xs : List Term) (k : ℕ) (d : Term) → k < length xs → get_or xs k d ≡ get_or xs k Any
      get_or_any [] k d l = absurd (omega arith)
      get_or_any (x ∷ xs) zero d l = refl
      get_or_any (x ∷ xs) (suc k) d l = get_or_any xs k d (omega arith)

  there_any : (u : Term) → Contains table u → (n : ℕ) × (n < length table) × (term_of table n ≡ u)
  there_any u (n, l, e) = (n, l, any_get table n u l ∙ e)
    where
      any_get : (xs : List Term) (k : ℕ) (d : Term) → k < length xs → get_or xs k Any ≡ get_or xs k d
      any_get [] k d l = absurd (omega arith)
      any_get (x ∷ xs) zero d l = refl
      any_get (x ∷ xs) (suc k) d l = any_get xs k d (omega arith)

  pub has_parts : {t u : Term} → IsPart t u → Contains table u → Contains table t
  has_parts (whole u e) c = subst (Contains table) e c
  has_parts (inside u arg f args e c p) there =
      let n = there_any u there in
      let before = all_at (λ (x : Term). (j : ℕ) × (j < n.0) × (term_of table j ≡ x)) args arg (is.arguments_before n.0 f args n.1 (n.2 ∙ e)) c in
      has_parts p (subst (Contains table) before.2 (here_is before.0 (let a = before.1 in let b = n.1 in omega arith)))

  has_terms : (numbers : List ℕ) → AreBelow (length table) numbers → (u : Term) → Contains (terms_by table numbers) u → Contains table u
  has_terms numbers below u c =
      let r = mapped_from (term_of table) numbers u c in
      subst (Contains table) r.2 (here_is r.0 (all_at (λ n. n < length table) numbers r.0 below r.1))

  has_clause : (lits : List RowLit) → AreLiteralsBelow (length table) lits → (t : Term) → IsInClause (literals_by table lits) t → Contains table t
  has_clause lits below t (literal, c, (u, d, p)) =
      let r = mapped_from (literal_by table) lits literal c in
      has_parts p (has_terms r.0.args (all_at (λ (x : RowLit). AreBelow (length table) x.args) lits r.0 below r.1) u
      (subst (λ (x : Literal). Contains x.args u) (sym r.2) d))

  -- each term that stands in the rows' clauses stands in the table
  pub has_clauses : (rows : List Row) → AreRowsBelow table rows → (t : Term) → IsInClauses (clauses_in (instances_by table rows)) t → Contains table t
  has_clauses rows below t (lits, c, p) =
      let a = mapped_from (λ (x : Instance). x.lits) (instances_by table rows) lits c in
      let b = mapped_from (written table) rows a.0 a.1 in
      let row = b.0 in
      let same : literals_by table row.lits ≡ lits = ap (λ (x : Instance). x.lits) b.2 ∙ a.2 in
      has_clause row.lits (all_at (IsRowBelow (length table)) rows row below b.1).lits t (subst (λ x. IsInClause x t) (sym same) p)

  -- no term stands at two places
  pub terms_once : (j k : ℕ) (t : Term) → slice_get table j ≡ Some t → slice_get table k ≡ Some t → j ≡ k
  terms_once j k t a b =
      is.distinct j k (slice_get_within table j t a) (slice_get_within table k t b)
      (get_or_from_slice_get table j t Any a ∙ sym (get_or_from_slice_get table k t Any b))

-- a table without terms
pub blank_table : IsTermTable []
blank_table = record {
  distinct = λ i j l m e. absurd (omega arith);
  ground = λ i l. absurd (omega arith);
  arguments_before = λ i f args l e. absurd (omega arith);
}
