use Rattle.std.proofs.Common.{◌≡◌, ◌<◌, ◌≤◌, ◌+◌, not, Some, None, get_or, length, slice_get, refl, subst, sym, ap, arith, true}
use Rattle.std.proofs.lemmas.Option.{slice_get-get_or}
use Rattle.std.proofs.lemmas.Grind.{common_steps}
use Rattle.normal_form.specs.declared.ClauseRow.{ClauseRow}
use Rattle.step_clause.specs.Justifications.{AreNumbered, IsNumbered}
use Rattle.step_chain.proofs.GoingLaws.{hopeless, needs_later}
use Rattle.step_chain.proofs.LeastLaws.{bit_false, bit_true, choice_done, choice_false, choice_true, first_found, none_at_all, none_more}
use Rattle.step_chain.proofs.OneLeastChain.{first_numbered, rest_numbered}
use Rattle.step_chain.proofs.PairLaws.{pair_below}
use Rattle.step_chain.proofs.SearchLaws.{at_last, at_rows, branch_none, branch_nothing, branch_some, empty_is, resolvent_numbered, sign_found, take_none}
use Rattle.step_chain.specs.Pairs.{IsTaken, SlotsBelow}
use Rattle.step_chain.specs.Resolving.{IsPair, IsResolventOf}
use Rattle.step_chain.specs.Search.{HasBranchOf, HasChoice, HasContinuation, HasLink, HasSignedLink, IsLeastOf}
use Rattle.step_chain.proofs.search.+search.Goals as goal

pub branch-search-requires : goal.branch-search-requires
branch-search-requires t c =
    let a = c.decreases in
    let is = subst (IsResolventOf c.args.first.now c.args.second.now c.args.pair.now c.args.chosen.now.taken) c.in-Some.is c.in_ok-made.ensures in
    (omega arith, (c.requires.target, (resolvent_numbered c.args.first.now c.args.second.now c.args.pair.now c.args.chosen.now.taken c.in-Some.it is, (c.requires.later, c.requires.needs))))

pub branch-returns-in-None : goal.branch-returns-in-None
branch-returns-in-None t c =
    branch_none c.args.target.now c.args.first.now c.args.second.now c.args.later.now c.args.pair.now c.args.chosen.now.taken
    (subst (IsResolventOf c.args.first.now c.args.second.now c.args.pair.now c.args.chosen.now.taken) c.in-None.is c.in_ok-made.ensures)

pub branch-returns-in-None-found : goal.branch-returns-in-None-found
branch-returns-in-None-found t c =
    branch_nothing c.args.target.now c.args.first.now c.args.second.now c.args.later.now c.args.pair.now c.args.chosen.now.taken c.in-Some.it c.requires.first c.requires.second
    (subst (IsResolventOf c.args.first.now c.args.second.now c.args.pair.now c.args.chosen.now.taken) c.in-Some.is c.in_ok-made.ensures)
    (subst (IsLeastOf (HasContinuation c.args.target.now 0 c.in-Some.it.clause c.args.later.now)) c.in-None-found.is c.in_ok-found-in-Some.ensures)

pub branch-returns-in_ok-all-in-Some-found : goal.branch-returns-in_ok-all-in-Some-found
branch-returns-in_ok-all-in-Some-found t c =
    branch_some c.args.target.now c.args.first.now c.args.second.now c.args.later.now c.args.pair.now c.args.chosen.now.taken c.in-Some.it c.in-Some-found.chain c.in_ok-all-in-Some-found.all
    c.requires.first c.requires.second
    (subst (IsResolventOf c.args.first.now c.args.second.now c.args.pair.now c.args.chosen.now.taken) c.in-Some.is c.in_ok-made.ensures)
    (subst (IsLeastOf (HasContinuation c.args.target.now 0 c.in-Some.it.clause c.args.later.now)) c.in-Some-found.is c.in_ok-found-in-Some.ensures)
    c.in_ok-all-in-Some-found.ensures

pub choose-returns-then-left-eq0 : goal.choose-returns-then-left-eq0
choose-returns-then-left-eq0 t c =
    let e : length c.args.chosen.now.taken ≡ length c.args.pair.now.slots = omega arith in
    choice_done (HasBranchOf c.args.target.now c.args.later.now c.args.first.now c.args.second.now c.args.pair.now) (length c.args.pair.now.slots) c.args.chosen.now.taken c.in_ok-found.found e c.in_ok-found.ensures

pub choose-returns-in-Some : goal.choose-returns-in-Some
choose-returns-in-Some t c =
    let less : length c.args.chosen.now.taken < length c.args.pair.now.slots = omega arith in
    let branches = HasBranchOf c.args.target.now c.args.later.now c.args.first.now c.args.second.now c.args.pair.now in
    choice_false branches (length c.args.pair.now.slots) c.args.chosen.now.taken c.in-Some.chain less
    (subst (λ z. IsLeastOf (HasChoice branches (length c.args.pair.now.slots) z) (Some c.in-Some.chain)) c.in_ok-without.ensures.taken
    (subst (IsLeastOf (HasChoice branches (length c.args.pair.now.slots) c.in_ok-without.without.taken)) c.in-Some.is c.in_ok-found-2.ensures))

pub choose-returns-in-None-with : goal.choose-returns-in-None-with
choose-returns-in-None-with t c =
    let less : length c.args.chosen.now.taken < length c.args.pair.now.slots = omega arith in
    let branches = HasBranchOf c.args.target.now c.args.later.now c.args.first.now c.args.second.now c.args.pair.now in
    choice_true branches (length c.args.pair.now.slots) c.args.chosen.now.taken None less
    (subst (λ z. IsLeastOf (HasChoice branches (length c.args.pair.now.slots) z) None) c.in_ok-without.ensures.taken
    (subst (IsLeastOf (HasChoice branches (length c.args.pair.now.slots) c.in_ok-without.without.taken)) c.in-None.is c.in_ok-found-2.ensures))
    (take_none c.args.target.now c.args.first.now c.args.second.now c.args.later.now c.args.pair.now c.args.chosen.now.taken c.requires.first c.requires.second c.requires.pair
    (subst (λ z. IsTaken z c.args.chosen.now.taken None) c.as_slice-in-None.ensures (subst (IsTaken c.as_slice-in-None.result.now c.args.chosen.now.taken) c.in-None-with.is c.in_ok-with-in-None.ensures))
    (length c.args.pair.now.slots))

pub choose-returns : goal.choose-returns
choose-returns t c =
    let less : length c.args.chosen.now.taken < length c.args.pair.now.slots = omega arith in
    let branches = HasBranchOf c.args.target.now c.args.later.now c.args.first.now c.args.second.now c.args.pair.now in
    let next : IsTaken c.as_slice-in-None.result.now c.args.chosen.now.taken (Some c.in-Some-with.next) = subst (IsTaken c.as_slice-in-None.result.now c.args.chosen.now.taken) c.in-Some-with.is c.in_ok-with-in-None.ensures in
    choice_true branches (length c.args.pair.now.slots) c.args.chosen.now.taken c.in_ok-taken-in-Some-with.taken less
    (subst (λ z. IsLeastOf (HasChoice branches (length c.args.pair.now.slots) z) None) c.in_ok-without.ensures.taken
    (subst (IsLeastOf (HasChoice branches (length c.args.pair.now.slots) c.in_ok-without.without.taken)) c.in-None.is c.in_ok-found-2.ensures))
    (subst (λ z. IsLeastOf (HasChoice branches (length c.args.pair.now.slots) z) c.in_ok-taken-in-Some-with.taken) next.0 c.in_ok-taken-in-Some-with.ensures)

pub search-finish-requires-clause-last : goal.search-finish-requires-clause-last
search-finish-requires-clause-last t c = first_numbered c.in-Some.next.now c.in-Some.later.now (subst AreNumbered c.in-Some.ensures.cases.0 c.requires.rest)

pub search-returns-then-is_empty : goal.search-returns-then-is_empty
search-returns-then-is_empty t c =
    at_last c.args.target.now c.args.number c.args.middle.now c.args.rest.now c.in-Some.next.now c.in-Some.later.now c.in_ok-found-in-Some.found c.in-Some.ensures.cases.0
    (empty_is c.in-Some.later.now c.is_empty.result c.is_empty.ensures c.if-is_empty.true) (c.in_ok-found-in-Some.ensures c.args.number)

pub search-search_rows-requires : goal.search-search_rows-requires
search-search_rows-requires t c =
    let a = c.decreases in
    let e = ap length c.in-Some.ensures.cases.0 in
    let n = subst AreNumbered c.in-Some.ensures.cases.0 c.requires.rest in
    (omega arith, (c.requires.target, (c.requires.middle, (first_numbered c.in-Some.next.now c.in-Some.later.now n, (rest_numbered c.in-Some.next.now c.in-Some.later.now n, λ h. needs_later c.args.target.now c.args.rest.now c.in-Some.next.now c.in-Some.later.now c.in-Some.ensures.cases.0 (c.requires.needs h))))))

pub search-returns-in_ok-found-in-Some-2 : goal.search-returns-in_ok-found-in-Some-2
search-returns-in_ok-found-in-Some-2 t c =
    at_rows c.args.target.now c.args.number c.args.middle.now c.args.rest.now c.in-Some.next.now c.in-Some.later.now c.in_ok-found-in-Some-2.found c.is_empty.result c.in-Some.ensures.cases.0
    c.is_empty.ensures c.if-is_empty.false c.in_ok-found-in-Some-2.ensures

pub search_clause-returns-in-Some : goal.search_clause-returns-in-Some
search_clause-returns-in-Some t c =
    bit_false (λ b. HasSignedLink c.args.target.now c.args.later.now c.args.number c.args.first.now c.args.other c.args.second.now (not b)) c.in-Some.chain
    (subst (IsLeastOf (HasSignedLink c.args.target.now c.args.later.now c.args.number c.args.first.now c.args.other c.args.second.now true)) c.in-Some.is c.in_ok-positive.ensures)

pub search_clause-returns-in_ok-negative-in-None : goal.search_clause-returns-in_ok-negative-in-None
search_clause-returns-in_ok-negative-in-None t c =
    bit_true (λ b. HasSignedLink c.args.target.now c.args.later.now c.args.number c.args.first.now c.args.other c.args.second.now (not b)) c.in_ok-negative-in-None.negative
    (subst (IsLeastOf (HasSignedLink c.args.target.now c.args.later.now c.args.number c.args.first.now c.args.other c.args.second.now true)) c.in-None.is c.in_ok-positive.ensures)
    c.in_ok-negative-in-None.ensures

pub search_rows-search_clause-requires : goal.search_rows-search_clause-requires
search_rows-search_clause-requires t c =
    let a = c.decreases in (
      omega arith,
      (
        c.requires.target,
        (
          c.requires.first,
          (
            subst (λ z. IsNumbered (get_or z c.loop-k.k c.index-rows-k.result).clause) (sym c.as_slice-rows.ensures)
                (c.requires.next c.loop-k.k c.index-rows-k.result (subst (λ z. c.loop-k.k < length z) c.as_slice-rows.ensures c.loop-k-test.true)),
            (c.requires.later, c.requires.needs),
          ),
        ),
      ),
    )

pub search_rows-returns-in-Some : goal.search_rows-returns-in-Some
search_rows-returns-in-Some t c =
    first_found {X = ClauseRow} (λ other row. HasLink c.args.target.now c.args.later.now c.args.number c.args.first.now other row.clause) c.args.next.now.rows
    c.loop-k.k c.in_ok-other.other (get_or c.as_slice-rows.result.now c.loop-k.k c.index-rows-k.result) c.in-Some.chain c.in_ok-other.ensures
    (subst (λ z. slice_get z c.loop-k.k ≡ Some (get_or c.as_slice-rows.result.now c.loop-k.k c.index-rows-k.result)) c.as_slice-rows.ensures (slice_get-get_or c.as_slice-rows.result.now c.loop-k.k c.index-rows-k.result c.loop-k-test.true))
    c.loop-k.invariant
    (subst (IsLeastOf (HasLink c.args.target.now c.args.later.now c.args.number c.args.first.now c.in_ok-other.other (get_or c.as_slice-rows.result.now c.loop-k.k c.index-rows-k.result).clause)) c.in-Some.is c.in_ok-found.ensures)

pub search_rows-loop-k-preserved : goal.search_rows-loop-k-preserved
search_rows-loop-k-preserved t c =
    none_more {X = ClauseRow} (λ other row. HasLink c.args.target.now c.args.later.now c.args.number c.args.first.now other row.clause) c.args.next.now.rows
    c.loop-k.k c.in_ok-other.other (get_or c.as_slice-rows.result.now c.loop-k.k c.index-rows-k.result) c.in_ok-other.ensures
    (subst (λ z. slice_get z c.loop-k.k ≡ Some (get_or c.as_slice-rows.result.now c.loop-k.k c.index-rows-k.result)) c.as_slice-rows.ensures (slice_get-get_or c.as_slice-rows.result.now c.loop-k.k c.index-rows-k.result c.loop-k-test.true))
    c.loop-k.invariant
    (subst (IsLeastOf (HasLink c.args.target.now c.args.later.now c.args.number c.args.first.now c.in_ok-other.other (get_or c.as_slice-rows.result.now c.loop-k.k c.index-rows-k.result).clause)) c.in_default.is c.in_ok-found.ensures)

pub search_rows-returns : goal.search_rows-returns
search_rows-returns t c =
    none_at_all {X = ClauseRow} (λ other row. HasLink c.args.target.now c.args.later.now c.args.number c.args.first.now other row.clause) c.args.next.now.rows
    c.loop-k.k (subst (λ z. length z ≤ c.loop-k.k) c.as_slice-rows.ensures c.loop-k-test.false) c.loop-k.invariant

pub search_sign-choose-requires : goal.search_sign-choose-requires
search_sign-choose-requires t c =
    let a = c.decreases in
    let few = c.len.type_inv in
    let vars : c.in_ok-vars.vars ≡ c.args.first.now.vars + c.args.second.now.vars = grind (arith, common_steps) in
    let is : IsPair c.args.first.now c.args.second.now c.in_ok-pair.pair = subst (IsPair c.args.first.now c.args.second.now) (sym c.in_ok-pair.ensures) refl in
    let below : SlotsBelow c.in_ok-vars.vars c.in_ok-pair.pair.slots =
    subst (λ n. SlotsBelow n c.in_ok-pair.pair.slots) (sym vars)
    (subst (SlotsBelow (c.args.first.now.vars + c.args.second.now.vars)) (sym is) (pair_below c.args.first.now c.args.second.now c.in_ok-pair.pair.sign c.requires.first c.requires.second)) in
    let none = ap length c.in_ok-chosen.ensures.taken in
    let size = c.len.ensures in
    (omega arith, (c.requires.target, (c.requires.first, (c.requires.second, (c.requires.later, (is, (c.in_ok-chosen.ensures.chosen c.in_ok-pair.pair.slots below, (omega arith, c.requires.needs))))))))

pub search_sign-returns : goal.search_sign-returns
search_sign-returns t c =
    sign_found c.args.target.now c.args.later.now c.args.number c.args.first.now c.args.other c.args.second.now c.args.sign c.in_ok-pair.pair c.in_ok-chosen.chosen.taken c.in_ok-found.found
    c.in_ok-pair.ensures c.in_ok-chosen.ensures.taken c.in_ok-found.ensures

pub search-returns-then-is_hopeless : goal.search-returns-then-is_hopeless
search-returns-then-is_hopeless t c =
    hopeless c.args.target.now c.args.number c.args.middle.now c.args.rest.now c.args.needs c.is_hopeless.result c.requires.needs c.is_hopeless.ensures c.if-is_hopeless.true
