use Rattle.std.proofs.Common.{◌≡◌, ℕ, ◌+◌, List, [], ◌∷◌, ◌++◌, get_or, rules, subst, sym, take}
use Rattle.std.proofs.lemmas.List.{take_more}
use Rattle.normal_form.specs.declared.clause_list.ClauseList.{ClauseList}
use Rattle.step_check.proofs.ClausalLaws.{lists_more}
use Rattle.step_check.specs.Notes.{case_given}
use Rattle.step_check.specs.Verdicts.{AreLists}
use Rattle.step_check.proofs.clausal.lists_at.Goals as goal

pub loop-number-preserved : goal.loop-number-preserved
loop-number-preserved c =
    let case = case_given c.args.given.now in
    let numbers = c.args.numbers.now in
    let i = c.loop-number.number-index in
    let lists = c.loop-number.lists in
    let list = c.in_ok-list_at.field-0 in
    let more = lists_more case (take i numbers) lists (get_or numbers i 0) list c.loop-number.invariant c.in_ok-list_at.ensures in
    let made : c.push.new.self ≡ lists ++ list ∷ [] = search rules in
    subst (λ (l : List ClauseList). AreLists case (take (i + 1) numbers) l) (sym made)
    (subst (λ (l : List ℕ). AreLists case l (lists ++ list ∷ [])) (sym (take_more numbers i 0 c.loop-number-test.true)) more)
