use Rattle.std.proofs.Common.{◌≡◌, ◌<◌, ◌≤◌, ℕ, ◌+◌, List, [], ◌∷◌, ◌++◌, get_or, length, slice_get, Option, Some, None, ap, arith, rules, subst, sym, take}
use Rattle.std.proofs.lemmas.List.{take_all, take_more}
use Rattle.std.proofs.lemmas.Option.{slice_get-get_or}
use Rattle.std.specs.List.{All}
use Rattle.normal_form.specs.declared.clause_list.ClauseList.{ClauseList}
use Rattle.normal_form.specs.declared.clause_list.ClauseRow.{ClauseRow}
use Rattle.step_check.proofs.ClausalLaws.{first_unjustified, justified_more}
use Rattle.step_check.specs.Verdicts.{IsClausalVerdict}
use Rattle.step_check.specs.Verdicts as is
use Rattle.step_check.specs.declared.verdict.Reason.TheVariants.{Unjustified}
use Rattle.step_check.specs.declared.verdict.Verdict.TheVariants.{Wrong}
use Rattle.step_clause.specs.Justifications.{IsJustification, IsNumbered}
use Rattle.step_clause.specs.declared.justification.Justification.{Justification}
use Rattle.step_compose.specs.Composing.{AreJustified}
use Rattle.step_check.proofs.clausal.justified.Goals as goal

row_numbered : (xs rows : List ClauseRow) (k : ℕ) (d : ClauseRow) → xs ≡ rows → k < length xs → All (λ row. IsNumbered row.clause) rows → IsNumbered (get_or xs k d).clause
row_numbered xs rows k d same less all = subst (λ (l : List ClauseRow). k < length l → IsNumbered (get_or l k d).clause) (sym same) (all k d) less

one_more : (xs rows : List ClauseRow) (lists : List ClauseList) (steps now : List Justification) (k : ℕ) (d : ClauseRow) (found : Option Justification) (step : Justification)
    → xs ≡ rows → k < length xs → AreJustified (take k rows) lists steps → IsJustification (get_or xs k d).clause lists found → found ≡ Some step → now ≡ steps ++ step ∷ []
    → AreJustified (take (k + 1) rows) lists now
one_more xs rows lists steps now k d found step same less before answer some made =
    let row : ClauseRow = get_or xs k d in
    let more = justified_more (take k rows) lists steps row step before (subst (IsJustification row.clause lists) some answer) in
    let taken : take (k + 1) rows ≡ take k rows ++ row ∷ [] = subst (λ (l : List ClauseRow). take (k + 1) l ≡ take k l ++ row ∷ []) same (take_more xs k d less) in
    subst (λ (s : List Justification). AreJustified (take (k + 1) rows) lists s) (sym made)
    (subst (λ (l : List ClauseRow). AreJustified l lists (steps ++ step ∷ [])) (sym taken) more)

none_found : (xs rows : List ClauseRow) (lists : List ClauseList) (steps : List Justification) (k number : ℕ) (d : ClauseRow) (found : Option Justification) → xs ≡ rows
    → k < length xs → length lists ≤ 2 → AreJustified (take k rows) lists steps → IsJustification (get_or xs k d).clause lists found → found ≡ None → number ≡ k
    → IsClausalVerdict lists rows (Wrong (Unjustified number))
none_found xs rows lists steps k number d found same less few before answer none counted =
    let row : ClauseRow = get_or xs k d in
    let stands : slice_get rows k ≡ Some row = subst (λ (l : List ClauseRow). slice_get l k ≡ Some row) same (slice_get-get_or xs k d less) in
    let first = first_unjustified rows lists steps k row few before stands (subst (IsJustification row.clause lists) none answer) in
    subst (λ n. IsClausalVerdict lists rows (Wrong (Unjustified n))) (sym counted) (is.unjustified k first)

pub justify-requires-clause-target : goal.justify-requires-clause-target
justify-requires-clause-target c =
    row_numbered c.as_slice-rows.result.now c.args.targets.now.rows c.loop-k.k c.index-rows-k.result c.as_slice-rows.ensures c.loop-k-test.true c.requires.targets

pub returns-in-None : goal.returns-in-None
returns-in-None c =
    none_found c.as_slice-rows.result.now c.args.targets.now.rows c.args.lists.now c.loop-k.steps c.loop-k.k c.in_ok-number_of-in-None.field-0 c.index-rows-k.result
    c.in_ok-found.found c.as_slice-rows.ensures c.loop-k-test.true c.requires.few c.loop-k.invariant c.in_ok-found.ensures.answer c.in-None.is c.in_ok-number_of-in-None.ensures

pub loop-k-preserved : goal.loop-k-preserved
loop-k-preserved c =
    one_more c.as_slice-rows.result.now c.args.targets.now.rows c.args.lists.now c.loop-k.steps c.push.new.self c.loop-k.k c.index-rows-k.result c.in_ok-found.found
    c.in-Some.step c.as_slice-rows.ensures c.loop-k-test.true c.loop-k.invariant c.in_ok-found.ensures.answer c.in-Some.is (search rules)

pub returns : goal.returns
returns c =
    let rows = c.args.targets.now.rows in
    let long : length c.as_slice-rows.result.now ≡ length rows = ap length c.as_slice-rows.ensures in
    let past : length rows ≤ c.loop-k.k = omega (arith, c.loop-k-test.false, long) in
    is.clausal c.loop-k.steps c.requires.few
    (subst (λ (l : List ClauseRow). AreJustified l c.args.lists.now c.loop-k.steps) (take_all c.loop-k.k rows past) c.loop-k.invariant)
