-- What the tasks of the code do to its state.
use Rattle.std.proofs.Common.{◌≡◌, ◌<◌, ◌+◌, ℕ, zero, suc, List, [], ◌∷◌, ◌++◌, map, length, get_or, All, Contains, Some, slice_get, reverse, arith, refl, sym, ap, ap₂, ◌∙◌, subst, inl, inr}
use Rattle.std.proofs.lemmas.List.{length-map, map-append, reverse-append}
use Rattle.std.proofs.lemmas.List.Elements.{All-append, All-push}
use Rattle.std.proofs.lemmas.List.Sums.{sum_by-append}
use Rattle.std.proofs.lemmas.Option.{slice_get_within}
use Rattle.dk_syntax.specs.TermTables.{IsTermTable, term_of}
use Rattle.dk_syntax.specs.Terms.{instance}
use Rattle.dk_syntax.specs.declared.clause.Clause.{Clause}
use Rattle.dk_syntax.specs.declared.clause.Literal.{Literal}
use Rattle.dk_syntax.specs.declared.term.Term.{Term}
use Rattle.ground_instances.proofs.ClauseLaws.{one_clause}
use Rattle.ground_instances.proofs.Growth.{below_grows, literals_below_grow, terms_stay}
use Rattle.ground_instances.proofs.Parts.{mapped}
use Rattle.ground_instances.proofs.StateLaws.{begun, put, skipped}
use Rattle.ground_instances.proofs.TableLaws.{absent_key, keys_same, names_below, rows_stay}
use Rattle.ground_instances.specs.Growing.{Grows}
use Rattle.ground_instances.specs.Instances.{AreNumbers, clauses_in, IsInstance, key_of, keys_of}
use Rattle.ground_instances.specs.Keys.{IsClauseOf, Judged, Key, key}
use Rattle.ground_instances.specs.Naming.{AreNamed, AreNamesBelow, AreNamesFit, IsFit, key_at, key_by, keys_by}
use Rattle.ground_instances.specs.Needs.{AreNeeded, Needs, value_in}
use Rattle.ground_instances.specs.Notes.{HasImages}
use Rattle.ground_instances.specs.Rows.{AreBelow, AreRowsBelow, instances_by, IsRowBelow, literal_by, terms_by, written}
use Rattle.ground_instances.specs.States.{append, Appends, AreNumbersOf, AreTasksBelow, IsBegun, IsBlank, IsFirstTask, IsKept, IsPulled, IsState, IsTaskBelow, IsTaskRight, name_of, root_name, row_by, task_by, tasks_by, visit, visits_of, weight_in}
use Rattle.ground_instances.specs.Weights.{IsInClause, literals_in, weight_by}
use Rattle.ground_instances.specs.declared.instance.Instance.{Instance}
use Rattle.ground_instances.specs.declared.instance.Row.{Row}
use Rattle.ground_instances.specs.declared.instance.RowLit.{RowLit}
use Rattle.ground_instances.specs.declared.naming.Named.{Named}
use Rattle.ground_instances.specs.declared.state.State.{State}
use Rattle.ground_instances.specs.declared.state.Task.{Task}
use Rattle.ground_instances.specs.declared.state.Task.TheVariants.{Append, Visit}

-- ---- names and tasks in a table that grows

key_stays : {Is : Term → Type 0} {old new : List Term} → Grows Is old new → (named : Named) → AreBelow (length old) named.terms → key_by new named ≡ key_by old named
key_stays g named below = ap (key_at named.place) (terms_stay g named.terms below)

keys_stay : {Is : Term → Type 0} {old new : List Term} → Grows Is old new → (names : List Named) → AreNamesBelow (length old) names → keys_by new names ≡ keys_by old names
keys_stay g [] below = refl
keys_stay g (named ∷ names) below = ap₂ (λ x y. x ∷ y) (key_stays g named (below 0 named (omega arith))) (keys_stay g names (λ k d l. below (suc k) d (omega arith)))

task_stays : {Is : Term → Type 0} {old new : List Term} → Grows Is old new → (task : Task) → IsTaskBelow (length old) task → task_by new task ≡ task_by old task
task_stays g (Visit named) below = ap visit (key_stays g named below)
task_stays g (Append named needs) below = ap₂ append (key_stays g named below.0) (keys_stay g needs below.1)

tasks_stay : {Is : Term → Type 0} {old new : List Term} → Grows Is old new → (tasks : List Task) → AreTasksBelow (length old) tasks → tasks_by new tasks ≡ tasks_by old tasks
tasks_stay g [] below = refl
tasks_stay g (task ∷ tasks) below = ap₂ (λ x y. x ∷ y) (task_stays g task (below 0 task (omega arith))) (tasks_stay g tasks (λ k d l. below (suc k) d (omega arith)))

names_below_grow : {Is : Term → Type 0} {old new : List Term} → Grows Is old new → (names : List Named) → AreNamesBelow (length old) names → AreNamesBelow (length new) names
names_below_grow g names below k d l = below_grows g (get_or names k d).terms (below k d l)

task_below_grows : {Is : Term → Type 0} {old new : List Term} → Grows Is old new → (task : Task) → IsTaskBelow (length old) task → IsTaskBelow (length new) task
task_below_grows g (Visit named) below = below_grows g named.terms below
task_below_grows g (Append named needs) below = (below_grows g named.terms below.0, names_below_grow g needs below.1)

tasks_below_grow : {Is : Term → Type 0} {old new : List Term} → Grows Is old new → (tasks : List Task) → AreTasksBelow (length old) tasks → AreTasksBelow (length new) tasks
tasks_below_grow g tasks below k d l = task_below_grows g (get_or tasks k d) (below k d l)

rows_below_grow : {Is : Term → Type 0} {old new : List Term} → Grows Is old new → (rows : List Row) → AreRowsBelow old rows → AreRowsBelow new rows
rows_below_grow g rows below k d l =
    let row = below k d l in
    record { terms = below_grows g (get_or rows k d).terms row.terms; lits = literals_below_grow g (get_or rows k d).lits row.lits }

visits_below : (count : ℕ) (names : List Named) → AreNamesBelow count names → AreTasksBelow count (map Visit names)
visits_below count [] below k d l = absurd (omega arith)
visits_below count (n ∷ ns) below zero d l = below 0 n (omega arith)
visits_below count (n ∷ ns) below (suc k) d l = visits_below count ns (λ j e m. below (suc j) e (omega arith)) k d (omega arith)

visits_by : (table : List Term) (names : List Named) → tasks_by table (map Visit names) ≡ visits_of (keys_by table names)
visits_by table [] = refl
visits_by table (n ∷ ns) = ap (λ x. visit (key_by table n) ∷ x) (visits_by table ns)

first_below : (count : ℕ) (task : Task) (tasks : List Task) → IsTaskBelow count task → AreTasksBelow count tasks → AreTasksBelow count (task ∷ tasks)
first_below count task tasks a b zero d l = a
first_below count task tasks a b (suc k) d l = b k d (omega arith)

-- ---- numbers of names

numbers_by : (table : List Term) (names needs : List Named) (numbers : List ℕ) → AreNumbersOf names needs numbers → AreNumbers (keys_by table names) (keys_by table needs) numbers
numbers_by table names [] [] h = tt
numbers_by table names [] (n ∷ numbers) h = absurd h
numbers_by table names (one ∷ needs) [] h = absurd h
numbers_by table names (one ∷ needs) (n ∷ numbers) h = (at names n one h.0, numbers_by table names needs numbers h.1)
  where
    at : (xs : List Named) (k : ℕ) (x : Named) → slice_get xs k ≡ Some x → slice_get (keys_by table xs) k ≡ Some (key_by table x)
    at [] k x e = cc
    at (y ∷ ys) zero x e = let same : y ≡ x = cc in ap (λ z. Some (key_by table z)) same
    at (y ∷ ys) (suc k) x e = at ys k x e

numbers_within : (names needs : List Named) (numbers : List ℕ) → AreNumbersOf names needs numbers → All (λ n. n < length names) numbers
numbers_within names [] [] h k d l = absurd (omega arith)
numbers_within names [] (n ∷ numbers) h k d l = absurd h
numbers_within names (one ∷ needs) [] h k d l = absurd h
numbers_within names (one ∷ needs) (n ∷ numbers) h zero d l = slice_get_within names n one h.0
numbers_within names (one ∷ needs) (n ∷ numbers) h (suc k) d l = numbers_within names needs numbers h.1 k d (omega arith)

module _ (judged : Judged) (images : HasImages judged) (root : ℕ) where
  -- ---- a visit begins

  fit_keys : (table : List Term) (names : List Named) → AreNamesFit judged names → All (IsFit judged) (keys_by table names)
  fit_keys table [] fit k d l = absurd (omega arith)
  fit_keys table (n ∷ ns) fit zero d l = fit 0 n (omega arith) (terms_by table n.terms) (length-map n.terms (term_of table))
  fit_keys table (n ∷ ns) fit (suc k) d l = fit_keys table ns (λ j e m. fit (suc j) e (omega arith)) k d (omega arith)

  listed_key : (state : State) (named : Named) → IsKept state → Contains state.names.keys named
      → Contains (keys_of (instances_by state.table state.rows.items)) (key_by state.table named)
  listed_key state named kept c =
      subst (λ x. Contains x (key_by state.table named)) (sym (keys_same state.table state.rows.items))
      (mapped (key_by state.table) (map name_of state.rows.items) named (subst (λ x. Contains x named) kept.names c))

  absent_state : (state : State) (named : Named) → IsTermTable state.table → IsKept state → AreBelow (length state.table) named.terms
      → (Contains state.names.keys named → ⊥) → Contains (keys_of (instances_by state.table state.rows.items)) (key_by state.table named) → ⊥
  absent_state state named is kept below absent c =
      absent_key state.table is (map name_of state.rows.items) named (names_below state.table state.rows.items kept.below) below
      (λ k. absent (subst (λ x. Contains x named) (sym kept.names) k))
      (subst (λ x. Contains x (key_by state.table named)) (keys_same state.table state.rows.items) c)

  skipped_state : (old : State) (named : Named) (before : List Task) → IsState judged root old (Visit named ∷ before) → Contains old.names.keys named → IsState judged root old before
  skipped_state old named before h c = record {
    kept = h.kept;
    below = λ k d l. h.below (suc k) d (omega arith);
    pulled = skipped judged images root old.table (instances_by old.table old.rows.items) (key_by old.table named) (tasks_by old.table before) h.pulled (listed_key old named h.kept c);
  }

  begun_tasks : (old new : List Term) (named : Named) (needs : List Named) (keys : List Key) (before : List Task) → AreNamed old keys new needs
      → AreBelow (length old) named.terms → AreTasksBelow (length old) before
      → tasks_by new (map Visit needs ++ Append named needs ∷ before) ≡ visits_of keys ++ append (key_by old named) keys ∷ tasks_by old before
  begun_tasks old new named needs keys before are here below =
      map-append (task_by new) (map Visit needs) (Append named needs ∷ before)
      ∙ ap₂ (λ x y. x ++ y) (visits_by new needs ∙ ap visits_of are.are)
      (ap₂ (λ x y. x ∷ y) (ap₂ append (key_stays are.grows named here) are.are) (tasks_stay are.grows before below))

  begins_state : (old : State) (table : List Term) (named : Named) (needs : List Named) (keys : List Key) (before : List Task) → IsTermTable old.table
      → IsState judged root old (Visit named ∷ before) → (Contains old.names.keys named → ⊥) → Needs judged (key_by old.table named) keys
      → AreNamed old.table keys table needs → AreNamesFit judged needs
      → IsState judged root (record old { table = table }) (map Visit needs ++ Append named needs ∷ before)
  begins_state old table named needs keys before is h absent has are fit =
      let rows = old.rows.items in
      let here : AreBelow (length old.table) named.terms = h.below 0 (Visit named) (omega arith) in
      let rest : AreTasksBelow (length old.table) before = λ k d l. h.below (suc k) d (omega arith) in
      let same = rows_stay are.grows rows h.kept.below in
      let tasks = begun_tasks old.table table named needs keys before are here rest in
      record {
        kept = record {
          below = rows_below_grow are.grows rows h.kept.below;
          names = h.kept.names;
          literals = h.kept.literals ∙ ap (λ x. literals_in (clauses_in x)) (sym same);
        };
        below = All-append (IsTaskBelow (length table)) (map Visit needs) (Append named needs ∷ before) (visits_below (length table) needs are.below)
            (first_below (length table) (Append named needs) before (below_grows are.grows named.terms here, are.below) (tasks_below_grow are.grows before rest));
        pulled = subst (λ x. IsPulled judged root table x (tasks_by table (map Visit needs ++ Append named needs ∷ before))) (sym same)
            (subst (λ x. IsPulled judged root table (instances_by old.table rows) x) (sym tasks)
            (begun judged images root old.table table (instances_by old.table rows) (key_by old.table named) keys (tasks_by old.table before) h.pulled
            (absent_state old named is h.kept here absent) has (subst (All (IsFit judged)) are.are (fit_keys table needs fit)) are.grows));
      }

  pub begun_state : (old new : State) (named : Named) (before after : List Task) → IsTermTable old.table → IsState judged root old (Visit named ∷ before)
      → IsBegun judged old named before new after → IsState judged root new after
  begun_state old new named before after is h (inl (c, same, tasks)) =
      subst (λ x. IsState judged root x after) (sym same) (subst (λ x. IsState judged root old x) (sym tasks) (skipped_state old named before h c))
  begun_state old new named before after is h (inr b) =
      let n = b.needed in
      subst (λ x. IsState judged root x after) (sym b.state)
      (subst (λ x. IsState judged root (record old { table = new.table }) x) (sym b.tasks)
      (begins_state old new.table named b.needs n.0 before is h b.fresh n.1 n.2 b.fit))

  -- ---- an instance comes to the end

  pub appended_state : (old new : State) (named : Named) (needs : List Named) (before : List Task) → IsTermTable old.table
      → IsState judged root old (Append named needs ∷ before) → Appends judged old named needs new → IsState judged root new before
  appended_state old new named needs before is h a =
      let rows = old.rows.items in
      let instances = instances_by old.table rows in
      let below : AreBelow (length old.table) named.terms × AreNamesBelow (length old.table) needs = h.below 0 (Append named needs) (omega arith) in
      let rest : AreTasksBelow (length old.table) before = λ k d l. h.below (suc k) d (omega arith) in
      let right : IsFit judged (key_by old.table named) × Needs judged (key_by old.table named) (keys_by old.table needs) =
      h.pulled.right 0 (append (key_by old.table named) (keys_by old.table needs)) (omega arith) in
      let clause = a.ground.0 in
      let entered = a.ground.2 in
      let grows = entered.grows in
      let row = row_by named a.lits a.numbers in
      let it = written new.table row in
      let terms : it.terms ≡ terms_by old.table named.terms = terms_stay grows named.terms below.0 in
      let name : key_of it ≡ key_by old.table named = ap (key_at named.place) terms in
      let clause_is : right.0.clause ≡ clause = one_clause judged images right.0.of clause a.ground.1 in
      let same = rows_stay grows rows h.kept.below in
      let whole : instances_by new.table new.rows.items ≡ instances ++ it ∷ [] =
      ap (instances_by new.table) a.rows ∙ map-append (written new.table) rows (row ∷ []) ∙ ap (λ x. x ++ it ∷ []) same in
      let tasks = tasks_stay grows before rest in
      let count : length old.names.keys ≡ length instances =
      ap length h.kept.names ∙ length-map rows name_of ∙ sym (length-map rows (written old.table)) in
      let is_instance : IsInstance judged (keys_of instances) it = record {
        clause = clause;
        of = subst (λ k. IsClauseOf judged k clause) (sym name) a.ground.1;
        each = ap length terms ∙ right.0.each ∙ ap (λ (x : Clause). x.vars) clause_is;
        lits = entered.are ∙ ap (λ ts. map (instance (value_in ts)) clause.lits) (sym terms);
        needed = keys_by old.table needs;
        needs = subst (λ k. Needs judged k (keys_by old.table needs)) (sym name) right.1;
        numbers = subst (λ x. AreNumbers x (keys_by old.table needs) a.numbers) (ap (keys_by old.table) h.kept.names ∙ sym (keys_same old.table rows))
            (numbers_by old.table old.names.keys needs a.numbers a.needed);
      } in
      record {
        kept = record {
          below = subst (AreRowsBelow new.table) (sym a.rows) (All-push (IsRowBelow (length new.table)) rows row (rows_below_grow grows rows h.kept.below)
              (record { terms = below_grows grows named.terms below.0; lits = entered.below }));
          names = a.names ∙ ap (λ x. x ++ named ∷ []) h.kept.names ∙ sym (map-append name_of rows (row ∷ [])) ∙ ap (map name_of) (sym a.rows);
          literals = more_literals new (instances_by new.table new.rows.items) instances it old.literals a.lits a.literals h.kept.literals whole (length-map a.lits (literal_by new.table));
        };
        below = tasks_below_grow grows before rest;
        pulled = subst (λ x. IsPulled judged root new.table x (tasks_by new.table before)) (sym whole)
            (subst (λ x. IsPulled judged root new.table (instances ++ it ∷ []) x) (sym tasks)
            (put judged images root old.table new.table instances it (key_by old.table named) (keys_by old.table needs) (tasks_by old.table before) h.pulled name is_instance
            (subst (λ n. All (λ need. need < n) a.numbers) count (numbers_within old.names.keys needs a.numbers a.needed))
            (absent_state old named is h.kept below.0 a.fresh)
            (subst (λ x. Grows (IsInClause x) old.table new.table) (sym entered.are) grows)));
      }
    where
      more_literals : (state : State) (all instances : List Instance) (it : Instance) (count : ℕ) (lits : List RowLit) → state.literals ≡ count + length lits
          → count ≡ literals_in (clauses_in instances) → all ≡ instances ++ it ∷ [] → length it.lits ≡ length lits → state.literals ≡ literals_in (clauses_in all)
      more_literals state all instances it count lits e before whole many =
          let a = ap (λ x. literals_in (clauses_in x)) whole in
          let b = ap literals_in (map-append (λ (x : Instance). x.lits) instances (it ∷ [])) in
          let c = sum_by-append (λ (l : List Literal). length l) (clauses_in instances) (it.lits ∷ []) in
          omega arith

-- ---- the first state

none_there : (table : List Term) → table ≡ [] → (t : Term) → Contains table t → ⊥
none_there [] e t (k, l, h) = omega arith
none_there (x ∷ xs) e t c = cc

module _ (judged : Judged) (root : ℕ) where
  first_pulled : (table : List Term) → table ≡ [] → IsFit judged (key root 0 0 []) → IsPulled judged root table [] (visit (key root 0 0 []) ∷ [])
  first_pulled table empty fit = record {
    goes = λ after d. subst (λ x. AreNeeded judged root x) d.2 d.1;
    back = λ after n. (after, n, refl);
    each = λ k d l. absurd (omega arith);
    before = λ n it e. absurd (no_item n it e);
    once = λ j k x y e f h. absurd (no_item j x e);
    fits = λ k d l. absurd (omega arith);
    right = first_right;
    stand = λ t c. absurd (none_there table empty t c);
  }
    where
      no_item : (n : ℕ) (it : Instance) → slice_get [] n ≡ Some it → ⊥
      no_item n it e = cc

      first_right : All (IsTaskRight judged) (visit (key root 0 0 []) ∷ [])
      first_right zero d l = fit
      first_right (suc k) d l = absurd (omega arith)

  pub first_state : (state : State) (tasks : List Task) → IsBlank state → IsFirstTask judged root tasks → IsState judged root state tasks
  first_state state tasks blank first =
      let names : state.names.keys ≡ map name_of state.rows.items = blank.names ∙ ap (map name_of) (sym blank.rows) in
      let none : instances_by state.table state.rows.items ≡ [] = ap (instances_by state.table) blank.rows in
      record {
        kept = record {
          below = subst (AreRowsBelow state.table) (sym blank.rows) (λ k d l. absurd (omega arith));
          names = names;
          literals = blank.literals ∙ ap (λ x. literals_in (clauses_in x)) (sym none);
        };
        below = subst (AreTasksBelow (length state.table)) (sym first.0)
            (first_below (length state.table) (Visit (root_name root)) [] (λ k d l. absurd (omega arith)) (λ k d l. absurd (omega arith)));
        pulled = subst (λ x. IsPulled judged root state.table x (tasks_by state.table tasks)) (sym none)
            (subst (λ x. IsPulled judged root state.table [] (tasks_by state.table x)) (sym first.0) (first_pulled state.table blank.table first.1));
      }

-- one more number
pub numbers_more : (keys names : List Named) (numbers : List ℕ) (one : Named) (n : ℕ) → AreNumbersOf keys names numbers → slice_get keys n ≡ Some one
    → AreNumbersOf keys (names ++ one ∷ []) (numbers ++ n ∷ [])
numbers_more keys [] [] one n h at = (at, tt)
numbers_more keys [] (m ∷ numbers) one n h at = absurd h
numbers_more keys (x ∷ names) [] one n h at = absurd h
numbers_more keys (x ∷ names) (m ∷ numbers) one n h at = (h.0, numbers_more keys names numbers one n h.1 at)

-- the task that was taken stood first
pub taken_first : (old new : List Task) (task : Task) → old ≡ new ++ task ∷ [] → reverse old ≡ task ∷ reverse new
taken_first old new task e = ap reverse e ∙ reverse-append new (task ∷ [])

-- one more name that has its clause
pub fit_more : (judged : Judged) (names : List Named) (one : Named) → AreNamesFit judged names
    → ((terms : List Term) → length terms ≡ length one.terms → IsFit judged (key_at one.place terms)) → AreNamesFit judged (names ++ one ∷ [])
fit_more judged names one all here =
    All-push (λ (named : Named). (terms : List Term) → length terms ≡ length named.terms → IsFit judged (key_at named.place terms)) names one all here

-- a blank state weighs nothing
pub blank_weight : (state : State) → IsBlank state → weight_in state ≡ 0
blank_weight state blank = ap₂ (λ t r. weight_by (clauses_in (instances_by t r)) t) blank.table blank.rows
