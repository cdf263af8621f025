use Rattle.std.proofs.Common.{Bor, sym, subst}
use Rattle.normal_form.specs.Sorting.{IsSorted}
use Rattle.normal_form.specs.declared.sorting.Sorted.{Sorted}
use Rattle.step_check.proofs.NotedForms.{found_there}
use Rattle.step_check.proofs.TableLaws.{right_put}
use Rattle.step_check.specs.Notes.{case_given, IsSortedOwn}
use Rattle.step_check.specs.Tables.{at}
use Rattle.step_check.proofs.links.note_sorted.Goals as goal

pub returns-then-is_some-clause-known : goal.returns-then-is_some-clause-known
returns-then-is_some-clause-known c =
    found_there (λ (item : Bor Sorted). item.now) c.get.result (at c.args.sorts.now c.args.number) c.get.ensures (sym c.if-is_some.ensures)

pub returns-clause-right : goal.returns-clause-right
returns-clause-right c =
    right_put (IsSortedOwn (case_given c.args.given.now)) c.args.sorts.now c.put.new.self c.args.number c.in_ok-sorted.sorted c.requires.right
    (subst (λ n. IsSorted n c.in_ok-sorted.sorted) c.own_form_of.ensures c.in_ok-sorted.ensures)
    c.in_ok-put.ensures.there c.in_ok-put.ensures.others
