use Rattle.std.proofs.Common.{◌≡◌, ◌<◌, ◌≤◌, ℕ, ◌+◌, List, [], ◌∷◌, ◌++◌, get_or, length, slice_get, Option, Some, None, ap, arith, rules, subst, sym, take}
use Rattle.std.proofs.lemmas.List.{take_all, take_more}
use Rattle.std.proofs.lemmas.Option.{slice_get-get_or}
use Rattle.std.specs.List.{All}
use Rattle.normal_form.specs.declared.clause_list.ClauseList.{ClauseList}
use Rattle.normal_form.specs.declared.clause_list.ClauseRow.{ClauseRow}
use Rattle.step_chain.specs.Chains.{IsChainAnswer}
use Rattle.step_chain.specs.declared.chain.Chain.{Chain}
use Rattle.step_check.proofs.ClausalLaws.{chained_more, first_unchained}
use Rattle.step_check.specs.Verdicts.{AreChained, IsClausalVerdict}
use Rattle.step_check.specs.Verdicts as is
use Rattle.step_check.specs.declared.verdict.Reason.TheVariants.{Unjustified}
use Rattle.step_check.specs.declared.verdict.Verdict.TheVariants.{Wrong}
use Rattle.step_clause.specs.Justifications.{IsNumbered}
use Rattle.step_check.proofs.clausal.chained.Goals as goal

row_numbered : (xs rows : List ClauseRow) (k : ℕ) (d : ClauseRow) → xs ≡ rows → k < length xs → All (λ row. IsNumbered row.clause) rows → IsNumbered (get_or xs k d).clause
row_numbered xs rows k d same less all = subst (λ (l : List ClauseRow). k < length l → IsNumbered (get_or l k d).clause) (sym same) (all k d) less

one_more : (xs rows : List ClauseRow) (lists : List ClauseList) (chains now : List Chain) (k : ℕ) (d : ClauseRow) (found : Option Chain) (chain : Chain)
    → xs ≡ rows → k < length xs → AreChained (take k rows) lists chains → IsChainAnswer (get_or xs k d).clause lists found → found ≡ Some chain → now ≡ chains ++ chain ∷ []
    → AreChained (take (k + 1) rows) lists now
one_more xs rows lists chains now k d found chain same less before answer some made =
    let row : ClauseRow = get_or xs k d in
    let more = chained_more (take k rows) lists chains row chain before (subst (IsChainAnswer row.clause lists) some answer) in
    let taken : take (k + 1) rows ≡ take k rows ++ row ∷ [] = subst (λ (l : List ClauseRow). take (k + 1) l ≡ take k l ++ row ∷ []) same (take_more xs k d less) in
    subst (λ (s : List Chain). AreChained (take (k + 1) rows) lists s) (sym made)
    (subst (λ (l : List ClauseRow). AreChained l lists (chains ++ chain ∷ [])) (sym taken) more)

none_found : (xs rows : List ClauseRow) (lists : List ClauseList) (chains : List Chain) (k number : ℕ) (d : ClauseRow) (found : Option Chain) → xs ≡ rows
    → k < length xs → 2 < length lists → AreChained (take k rows) lists chains → IsChainAnswer (get_or xs k d).clause lists found → found ≡ None → number ≡ k
    → IsClausalVerdict lists rows (Wrong (Unjustified number))
none_found xs rows lists chains k number d found same less above before answer none counted =
    let row : ClauseRow = get_or xs k d in
    let stands : slice_get rows k ≡ Some row = subst (λ (l : List ClauseRow). slice_get l k ≡ Some row) same (slice_get-get_or xs k d less) in
    let first = first_unchained rows lists chains k row above before stands (subst (IsChainAnswer row.clause lists) none answer) in
    subst (λ n. IsClausalVerdict lists rows (Wrong (Unjustified n))) (sym counted) (is.unjustified k first)

pub chain_of-requires-clause-target : goal.chain_of-requires-clause-target
chain_of-requires-clause-target c =
    row_numbered c.as_slice-rows.result.now c.args.targets.now.rows c.loop-k.k c.index-rows-k.result c.as_slice-rows.ensures c.loop-k-test.true c.requires.targets

pub returns-in-None : goal.returns-in-None
returns-in-None c =
    none_found c.as_slice-rows.result.now c.args.targets.now.rows c.args.lists.now c.loop-k.chains c.loop-k.k c.in_ok-number_of-in-None.field-0 c.index-rows-k.result
    c.in_ok-found.found c.as_slice-rows.ensures c.loop-k-test.true c.requires.more c.loop-k.invariant c.in_ok-found.ensures.answer c.in-None.is c.in_ok-number_of-in-None.ensures

pub loop-k-preserved : goal.loop-k-preserved
loop-k-preserved c =
    one_more c.as_slice-rows.result.now c.args.targets.now.rows c.args.lists.now c.loop-k.chains c.push.new.self c.loop-k.k c.index-rows-k.result c.in_ok-found.found
    c.in-Some.chain c.as_slice-rows.ensures c.loop-k-test.true c.loop-k.invariant c.in_ok-found.ensures.answer c.in-Some.is (search rules)

pub returns : goal.returns
returns c =
    let rows = c.args.targets.now.rows in
    let long : length c.as_slice-rows.result.now ≡ length rows = ap length c.as_slice-rows.ensures in
    let past : length rows ≤ c.loop-k.k = omega (arith, c.loop-k-test.false, long) in
    is.chained c.loop-k.chains c.requires.more
    (subst (λ (l : List ClauseRow). AreChained l c.args.lists.now c.loop-k.chains) (take_all c.loop-k.k rows past) c.loop-k.invariant)
