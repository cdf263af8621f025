use Rattle.std.proofs.Common.{◌≡◌, ◌<◌, ◌≤◌, Some, get_or, length, slice_get, subst, sym}
use Rattle.std.proofs.lemmas.Option.{slice_get-get_or}
use Rattle.normal_form.specs.declared.ClauseRow.{ClauseRow}
use Rattle.step_clause.proofs.Loops.{found, none_at_all, none_more}
use Rattle.step_clause.specs.Justifications.{IsNumbered}
use Rattle.step_clause.specs.Places.{IsAnswer, ResolvesBy, IsResolution}
use Rattle.step_clause.proofs.parents.resolve_with_list.Goals as goal

pub resolve-requires-clause-second : goal.resolve-requires-clause-second
resolve-requires-clause-second c =
    subst (λ z. IsNumbered (get_or z c.loop-k.k c.index-rows-k.result).clause) (sym c.as_slice-rows.ensures) (c.requires.list c.loop-k.k c.index-rows-k.result (subst (λ z. c.loop-k.k < length z) c.as_slice-rows.ensures c.loop-k-test.true))

pub returns-in-Some : goal.returns-in-Some
returns-in-Some c =
    found ClauseRow (λ row. ResolvesBy c.args.target.now c.args.first.now row.clause) (λ number row. IsResolution c.args.target.now c.args.at.parent c.args.at.number c.args.parent number c.args.first.now row.clause) c.args.list.now.rows
    c.loop-k.k c.in_ok-number.number (get_or c.as_slice-rows.result.now c.loop-k.k c.index-rows-k.result) c.in-Some.it c.in_ok-number.ensures
    (subst (λ z. slice_get z c.loop-k.k ≡ Some (get_or c.as_slice-rows.result.now c.loop-k.k c.index-rows-k.result)) c.as_slice-rows.ensures (slice_get-get_or c.as_slice-rows.result.now c.loop-k.k c.index-rows-k.result c.loop-k-test.true))
    c.loop-k.invariant
    (subst (IsAnswer (ResolvesBy c.args.target.now c.args.first.now (get_or c.as_slice-rows.result.now c.loop-k.k c.index-rows-k.result).clause) (IsResolution c.args.target.now c.args.at.parent c.args.at.number c.args.parent c.in_ok-number.number c.args.first.now (get_or c.as_slice-rows.result.now c.loop-k.k c.index-rows-k.result).clause)) c.in-Some.is c.in_ok-found.ensures)

pub loop-k-preserved : goal.loop-k-preserved
loop-k-preserved c =
    none_more ClauseRow (λ row. ResolvesBy c.args.target.now c.args.first.now row.clause) (λ number row. IsResolution c.args.target.now c.args.at.parent c.args.at.number c.args.parent number c.args.first.now row.clause) c.args.list.now.rows
    c.loop-k.k c.in_ok-number.number (get_or c.as_slice-rows.result.now c.loop-k.k c.index-rows-k.result) c.in_ok-number.ensures
    (subst (λ z. slice_get z c.loop-k.k ≡ Some (get_or c.as_slice-rows.result.now c.loop-k.k c.index-rows-k.result)) c.as_slice-rows.ensures (slice_get-get_or c.as_slice-rows.result.now c.loop-k.k c.index-rows-k.result c.loop-k-test.true))
    c.loop-k.invariant
    (subst (IsAnswer (ResolvesBy c.args.target.now c.args.first.now (get_or c.as_slice-rows.result.now c.loop-k.k c.index-rows-k.result).clause) (IsResolution c.args.target.now c.args.at.parent c.args.at.number c.args.parent c.in_ok-number.number c.args.first.now (get_or c.as_slice-rows.result.now c.loop-k.k c.index-rows-k.result).clause)) c.in_default.is c.in_ok-found.ensures)

pub returns : goal.returns
returns c =
    none_at_all ClauseRow (λ row. ResolvesBy c.args.target.now c.args.first.now row.clause) (λ number row. IsResolution c.args.target.now c.args.at.parent c.args.at.number c.args.parent number c.args.first.now row.clause) c.args.list.now.rows
    c.loop-k.k (subst (λ z. length z ≤ c.loop-k.k) c.as_slice-rows.ensures c.loop-k-test.false) c.loop-k.invariant
