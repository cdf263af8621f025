-- Lists of verdicts and of the symbols that they introduce.
use Rattle.std.proofs.Common.{◌≡◌, ℕ, zero, suc, ◌+◌, ◌<◌, true, false, ◌||◌, List, [], ◌∷◌, ◌++◌, map, cond, find, drop, drop-cons, take, get_or, length, slice_get, slice_set, None, Some, ap, sym, ◌∙◌, refl, add-one, rules, arith}
use Rattle.std.proofs.Math.Seq.{set-set}
use Rattle.std.proofs.lemmas.List.{append-nil, append_assoc}
use Rattle.std.proofs.lemmas.List.Folds.{list_any-append}
use Rattle.std.proofs.lemmas.Option.{same_Some, slice_get-map, slice_get_read}
use Rattle.std.specs.Prelude.{option_map}
use Rattle.dk_syntax.specs.Symbols.{same_symbol}
use Rattle.dk_syntax.specs.declared.SymKey.{SymKey}
use Rattle.step_check.specs.Freshness.{freshened, introduced, introduced_by, is_stale, refused_by, stale}
use Rattle.step_check.specs.StalePlaces.{IsStalePlace}
use Rattle.step_check.specs.Steps.{stands_in}
use Rattle.step_check.specs.declared.verdict.Reason.TheVariants.{NotFresh}
use Rattle.step_check.specs.declared.verdict.Verdict.{Verdict}
use Rattle.step_check.specs.declared.verdict.Verdict.TheVariants.{Wrong}
use Rattle.step_skolem.specs.declared.map.SkEntry.{SkEntry}

-- the list from a place on
from_place : {X : Type 0} (xs : List X) (i : ℕ) (x : X) → i < length xs → x ≡ get_or xs i x → drop i xs ≡ x ∷ drop (i + 1) xs
from_place xs i x below is = rw add-one (drop-cons xs i x below ∙ ap (λ y. y ∷ drop (suc i) xs) (sym is))

-- ---- the symbols of entries and of verdicts

abbrev pub names : List SkEntry → List SymKey
names entries = map (λ one. one.symbol) entries

module _ (symbol : SymKey) (entries : List SkEntry) (i : ℕ) (entry : SkEntry) (below : i < length entries) (is : entry ≡ get_or entries i entry) where
  pub entry_found : same_symbol symbol entry.symbol ≡ true → stands_in (names (drop i entries)) symbol ≡ true
  entry_found same =
      ap (λ l. stands_in (names l) symbol) (from_place entries i entry below is)
      ∙ ap (λ b. b || stands_in (names (drop (i + 1) entries)) symbol) same

  pub entry_passed : same_symbol symbol entry.symbol ≡ false → stands_in (names (drop i entries)) symbol ≡ stands_in (names (drop (i + 1) entries)) symbol
  entry_passed other =
      ap (λ l. stands_in (names l) symbol) (from_place entries i entry below is)
      ∙ ap (λ b. b || stands_in (names (drop (i + 1) entries)) symbol) other

module _ (symbol : SymKey) (verdicts : List Verdict) (i : ℕ) (verdict : Verdict) (below : i < length verdicts) (is : verdict ≡ get_or verdicts i verdict) where
  split_here : stands_in (introduced_by (drop i verdicts)) symbol ≡ (stands_in (introduced verdict) symbol || stands_in (introduced_by (drop (i + 1) verdicts)) symbol)
  split_here =
      ap (λ l. stands_in (introduced_by l) symbol) (from_place verdicts i verdict below is)
      ∙ list_any-append (same_symbol symbol) (introduced verdict) (introduced_by (drop (i + 1) verdicts))

  pub verdict_found : stands_in (introduced verdict) symbol ≡ true → stands_in (introduced_by (drop i verdicts)) symbol ≡ true
  verdict_found has = split_here ∙ ap (λ b. b || stands_in (introduced_by (drop (i + 1) verdicts)) symbol) has

  pub verdict_passed : stands_in (introduced verdict) symbol ≡ false → stands_in (introduced_by (drop i verdicts)) symbol ≡ stands_in (introduced_by (drop (i + 1) verdicts)) symbol
  verdict_passed lacks = split_here ∙ ap (λ b. b || stands_in (introduced_by (drop (i + 1) verdicts)) symbol) lacks

-- ---- the first symbol that is not fresh

module _ (known : List SymKey) (entries : List SkEntry) (i : ℕ) (entry : SkEntry) (below : i < length entries) (is : entry ≡ get_or entries i entry) where
  pub stale_found : find (is_stale known (names entries)) (names entries) ≡ find (is_stale known (names entries)) (names (drop i entries)) → is_stale known (names entries) entry.symbol ≡ true
      → IsStalePlace known (names entries) (Some i)
  stale_found so_far here = (
    entry.symbol,
    slice_get-map (λ (one : SkEntry). one.symbol) entries i ∙ ap (option_map (λ (one : SkEntry). one.symbol)) (slice_get_read entries (length entries) i entry refl below is),
    so_far ∙ (ap (λ l. find (is_stale known (names entries)) (names l)) (from_place entries i entry below is)
        ∙ ap (λ b. cond b (Some entry.symbol) (find (is_stale known (names entries)) (names (drop (i + 1) entries)))) here),
  )

  pub stale_passed : find (is_stale known (names entries)) (names entries) ≡ find (is_stale known (names entries)) (names (drop i entries)) → is_stale known (names entries) entry.symbol ≡ false
      → find (is_stale known (names entries)) (names entries) ≡ find (is_stale known (names entries)) (names (drop (i + 1) entries))
  stale_passed so_far not_here =
      so_far ∙ (ap (λ l. find (is_stale known (names entries)) (names l)) (from_place entries i entry below is)
      ∙ ap (λ b. cond b (Some entry.symbol) (find (is_stale known (names entries)) (names (drop (i + 1) entries)))) not_here)

-- ---- a step that is refused or kept

-- a verdict is put twice, the second time the refusal of the step that stood there
pub refused_there : (known : List SymKey) (list blank new : List Verdict) (place entry : ℕ) (taken over put : Verdict)
    → ((verdict : Verdict) → slice_get list place ≡ Some verdict → IsStalePlace known (introduced verdict) (Some entry)) → slice_get list place ≡ Some taken → blank ≡ slice_set list place over
    → ((symbol : SymKey) → slice_get (introduced taken) entry ≡ Some symbol → put ≡ Wrong (NotFresh symbol)) → new ≡ slice_set blank place put
    → (verdict : Verdict) → slice_get list place ≡ Some verdict → new ≡ slice_set list place (refused_by (stale known verdict) verdict)
refused_there known list blank new place entry taken over put stales here blanks puts news verdict at =
    let found = stales taken here in
    let same : taken ≡ verdict = same_Some taken verdict (sym here ∙ at) in
    news ∙ (ap (λ l. slice_set l place put) blanks ∙ (set-set list place over put
    ∙ (ap (slice_set list place) (puts found.0 found.1 ∙ sym (ap (λ o. refused_by o taken) found.2))
    ∙ ap (λ v. slice_set list place (refused_by (stale known v) v)) same)))

set_there : (list : List Verdict) (place : ℕ) (verdict : Verdict) → slice_get list place ≡ Some verdict → slice_set list place verdict ≡ list
set_there [] place verdict at = refl
set_there (v ∷ rest) zero verdict at = ap (λ x. x ∷ rest) (sym (same_Some v verdict at))
set_there (v ∷ rest) (suc place) verdict at = ap (λ l. v ∷ l) (set_there rest place verdict at)

pub kept_there : (known : List SymKey) (list : List Verdict) (place : ℕ) → ((verdict : Verdict) → slice_get list place ≡ Some verdict → IsStalePlace known (introduced verdict) None)
    → (verdict : Verdict) → slice_get list place ≡ Some verdict → list ≡ slice_set list place (refused_by (stale known verdict) verdict)
kept_there known list place fresh verdict at =
    sym (ap (λ o. slice_set list place (refused_by o verdict)) (fresh verdict at) ∙ set_there list place verdict at)

-- ---- from the last step to the first

-- the verdicts, with freshness for those after the first so many
abbrev pub fresh_after : ℕ → List SymKey → List Verdict → List Verdict
fresh_after zero known verdicts = freshened known verdicts
fresh_after (suc n) known [] = []
fresh_after (suc n) known (v ∷ rest) = v ∷ fresh_after n (known ++ introduced v) rest

pub fresh_after_all : (known : List SymKey) (verdicts : List Verdict) → fresh_after (length verdicts) known verdicts ≡ verdicts
fresh_after_all known [] = refl
fresh_after_all known (v ∷ rest) = ap (λ l. v ∷ l) (fresh_after_all (known ++ introduced v) rest)

length_freshened : (known : List SymKey) (verdicts : List Verdict) → length (freshened known verdicts) ≡ length verdicts
length_freshened known [] = refl
length_freshened known (v ∷ rest) = ap suc (length_freshened (known ++ introduced v) rest)

pub length_fresh_after : (n : ℕ) (known : List SymKey) (verdicts : List Verdict) → length (fresh_after n known verdicts) ≡ length verdicts
length_fresh_after zero known verdicts = length_freshened known verdicts
length_fresh_after (suc n) known [] = refl
length_fresh_after (suc n) known (v ∷ rest) = ap suc (length_fresh_after n (known ++ introduced v) rest)

get_before : (p : ℕ) (known : List SymKey) (verdicts : List Verdict) → slice_get (fresh_after (suc p) known verdicts) p ≡ slice_get verdicts p
get_before p known [] = refl
get_before zero known (v ∷ rest) = refl
get_before (suc p) known (v ∷ rest) = get_before p (known ++ introduced v) rest

take_before : (p : ℕ) (known : List SymKey) (verdicts : List Verdict) → take p (fresh_after (suc p) known verdicts) ≡ take p verdicts
take_before p known [] = refl
take_before zero known (v ∷ rest) = refl
take_before (suc p) known (v ∷ rest) = ap (λ l. v ∷ l) (take_before p (known ++ introduced v) rest)

-- the verdict at a place with freshness, where the symbols of the steps before it are known
abbrev judged_at : List SymKey → List Verdict → ℕ → Verdict → Verdict
judged_at known verdicts p verdict = refused_by (stale (known ++ introduced_by (take p verdicts)) verdict) verdict

set_before : (p : ℕ) (known : List SymKey) (verdicts : List Verdict) (verdict : Verdict) → slice_get verdicts p ≡ Some verdict
    → slice_set (fresh_after (suc p) known verdicts) p (judged_at known verdicts p verdict) ≡ fresh_after p known verdicts
set_before p known [] verdict at = absurd (search (rules, at))
set_before zero known (v ∷ rest) verdict at =
    ap (λ k. refused_by (stale k verdict) verdict ∷ freshened (known ++ introduced v) rest) (append-nil known)
    ∙ ap (λ x. refused_by (stale known x) x ∷ freshened (known ++ introduced v) rest) (sym (same_Some v verdict at))
set_before (suc p) known (v ∷ rest) verdict at =
    ap (λ k. v ∷ slice_set (fresh_after (suc p) (known ++ introduced v) rest) p (refused_by (stale k verdict) verdict)) (sym (append_assoc known (introduced v) (introduced_by (take p rest))))
    ∙ ap (λ l. v ∷ l) (set_before p (known ++ introduced v) rest verdict at)

pub fresh_before : (known : List SymKey) (verdicts current new : List Verdict) (p : ℕ) → current ≡ fresh_after (suc p) known verdicts → p < length verdicts
    → ((verdict : Verdict) → slice_get current p ≡ Some verdict → new ≡ slice_set current p (judged_at known current p verdict)) → new ≡ fresh_after p known verdicts
fresh_before known verdicts current new p is below puts =
    let at = there verdicts p below in
    puts at.0 (ap (λ l. slice_get l p) is ∙ (get_before p known verdicts ∙ at.1))
    ∙ (ap (λ l. slice_set l p (refused_by (stale (known ++ introduced_by (take p l)) at.0) at.0)) is
    ∙ (ap (λ l. slice_set (fresh_after (suc p) known verdicts) p (refused_by (stale (known ++ introduced_by l) at.0) at.0)) (take_before p known verdicts)
    ∙ set_before p known verdicts at.0 at.1))
  where
    there : (xs : List Verdict) (i : ℕ) → i < length xs → (x : Verdict) × (slice_get xs i ≡ Some x)
    there [] i less = absurd (omega (arith, less))
    there (x ∷ xs) zero less = (x, refl)
    there (x ∷ xs) (suc i) less = there xs i (omega (arith, less))
