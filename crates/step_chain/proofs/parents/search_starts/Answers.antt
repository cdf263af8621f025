use Rattle.std.proofs.Common.{◌≡◌, ◌<◌, ◌≤◌, Some, get_or, length, slice_get, subst, sym}
use Rattle.std.proofs.lemmas.Option.{slice_get-get_or}
use Rattle.normal_form.specs.declared.ClauseRow.{ClauseRow}
use Rattle.step_clause.specs.Justifications.{IsNumbered}
use Rattle.step_chain.proofs.LeastLaws.{first_found, none_at_all, none_more}
use Rattle.step_chain.specs.Search.{HasContinuation, IsLeastOf}
use Rattle.step_chain.proofs.parents.search_starts.Goals as goal

pub search-requires-clause-middle : goal.search-requires-clause-middle
search-requires-clause-middle c =
    subst (λ z. IsNumbered (get_or z c.loop-k.k c.index-rows-k.result).clause) (sym c.as_slice-rows.ensures)
    (c.requires.first c.loop-k.k c.index-rows-k.result (subst (λ z. c.loop-k.k < length z) c.as_slice-rows.ensures c.loop-k-test.true))

pub returns-in-Some : goal.returns-in-Some
returns-in-Some c =
    first_found {X = ClauseRow} (λ start row. HasContinuation c.args.target.now start row.clause c.args.rest.now) c.args.first.now.rows
    c.loop-k.k c.in_ok-start.start (get_or c.as_slice-rows.result.now c.loop-k.k c.index-rows-k.result) c.in-Some.chain c.in_ok-start.ensures
    (subst (λ z. slice_get z c.loop-k.k ≡ Some (get_or c.as_slice-rows.result.now c.loop-k.k c.index-rows-k.result)) c.as_slice-rows.ensures (slice_get-get_or c.as_slice-rows.result.now c.loop-k.k c.index-rows-k.result c.loop-k-test.true))
    c.loop-k.invariant
    (subst (IsLeastOf (HasContinuation c.args.target.now c.in_ok-start.start (get_or c.as_slice-rows.result.now c.loop-k.k c.index-rows-k.result).clause c.args.rest.now)) c.in-Some.is c.in_ok-found.ensures)

pub loop-k-preserved : goal.loop-k-preserved
loop-k-preserved c =
    none_more {X = ClauseRow} (λ start row. HasContinuation c.args.target.now start row.clause c.args.rest.now) c.args.first.now.rows
    c.loop-k.k c.in_ok-start.start (get_or c.as_slice-rows.result.now c.loop-k.k c.index-rows-k.result) c.in_ok-start.ensures
    (subst (λ z. slice_get z c.loop-k.k ≡ Some (get_or c.as_slice-rows.result.now c.loop-k.k c.index-rows-k.result)) c.as_slice-rows.ensures (slice_get-get_or c.as_slice-rows.result.now c.loop-k.k c.index-rows-k.result c.loop-k-test.true))
    c.loop-k.invariant
    (subst (IsLeastOf (HasContinuation c.args.target.now c.in_ok-start.start (get_or c.as_slice-rows.result.now c.loop-k.k c.index-rows-k.result).clause c.args.rest.now)) c.in_default.is c.in_ok-found.ensures)

pub returns : goal.returns
returns c =
    none_at_all {X = ClauseRow} (λ start row. HasContinuation c.args.target.now start row.clause c.args.rest.now) c.args.first.now.rows
    c.loop-k.k (subst (λ z. length z ≤ c.loop-k.k) c.as_slice-rows.ensures c.loop-k-test.false) c.loop-k.invariant
