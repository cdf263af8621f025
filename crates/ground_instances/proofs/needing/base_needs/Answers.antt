use Rattle.std.proofs.Common.{[], ◌∷◌, ◌++◌, sym, ap, ◌∙◌, subst}
use Rattle.ground_instances.specs.Keys.{key}
use Rattle.ground_instances.specs.Naming.{AreNamed}
use Rattle.ground_instances.specs.Notes.{judged_given}
use Rattle.ground_instances.specs.Rows.{terms_by}
use Rattle.ground_instances.proofs.NeedLaws.{base_needs_leaf, base_needs_other, none_named, same_named}
use Rattle.ground_instances.proofs.needing.base_needs.Goals as goal

pub returns-then-note : goal.returns-then-note
returns-then-note c =
    let note = c.in-Some.note.now in
    let is = c.requires.right c.args.step note (sym c.in-Some.ensures.value) in (
      [],
      base_needs_leaf (judged_given c.args.given.now) c.args.step c.args.named.now.place.clause (terms_by c.args.table.now c.args.named.now.terms) note is c.if-note.true,
      subst (AreNamed c.args.table.now [] c.args.table.now) (sym c.new-names.ensures) (none_named c.args.table.now),
    )

pub returns : goal.returns
returns c =
    let note = c.in-Some.note.now in let named = c.args.named.now in let table = c.args.table.now in
    let is = c.requires.right c.args.step note (sym c.in-Some.ensures.value) in
    let ts = terms_by table named.terms in
    let keys = key note.base 0 named.place.clause ts ∷ [] in
    let copied = c.from_vec-terms.ensures ∙ c.in_ok-from_slice.ensures.items ∙ c.as_slice.ensures in (
      keys,
      base_needs_other (judged_given c.args.given.now) c.args.step named.place.clause ts note is c.if-note.false,
      subst (AreNamed table keys table) (sym (c.in_ok-push.ensures.ok
          ∙ ap (λ x. x ++ (record { place = record { step = note.base; stage = 0; clause = named.place.clause }; terms = c.from_vec-terms.result }) ∷ []) c.new-names.ensures))
          (same_named table (record { step = note.base; stage = 0; clause = named.place.clause }) named.terms c.from_vec-terms.result copied c.requires.below),
    )
