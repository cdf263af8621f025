use Rattle.std.proofs.Common.{refl, sym, subst}
use Rattle.step_check.proofs.LinkLaws.{apart_link, apart_represents, parent_known, parent_within, same_link, skolem_link}
use Rattle.step_check.specs.Notes.{case_given}
use Rattle.step_check.proofs.images.image_of.Goals as goal

pub representative_of-above-requires-clause-own : goal.representative_of-above-requires-clause-own
representative_of-above-requires-clause-own c =
    let case = case_given c.args.given.now in
    let link = same_link case c.args.number c.args.forms.now c.known.result.now c.in-Same.parent c.requires.forms c.known.ensures c.in-Same.is in
    parent_known case c.args.number c.args.forms.now c.in-Same.parent c.requires.ready.opened link.fitted.one

pub representative_of-above-requires-clause-within : goal.representative_of-above-requires-clause-within
representative_of-above-requires-clause-within c =
    let case = case_given c.args.given.now in
    let link = same_link case c.args.number c.args.forms.now c.known.result.now c.in-Same.parent c.requires.forms c.known.ensures c.in-Same.is in
    parent_within case c.args.number c.in-Same.parent link.within link.fitted.one

pub same_image-requires-clause-link : goal.same_image-requires-clause-link
same_image-requires-clause-link c =
    let case = case_given c.args.given.now in record {
      parent = c.in-Same.parent;
      link = same_link case c.args.number c.args.forms.now c.known.result.now c.in-Same.parent c.requires.forms c.known.ensures c.in-Same.is;
      above = c.representative_of-above.ensures;
    }

pub representative_of-above-requires-in-Skolem-clause-own : goal.representative_of-above-requires-in-Skolem-clause-own
representative_of-above-requires-in-Skolem-clause-own c =
    let case = case_given c.args.given.now in
    let link = skolem_link case c.args.number c.args.forms.now c.known.result.now c.in-Skolem.parent c.in-Skolem.map c.requires.forms c.known.ensures c.in-Skolem.is in
    parent_known case c.args.number c.args.forms.now c.in-Skolem.parent c.requires.ready.opened link.fitted.one

pub representative_of-above-requires-in-Skolem-clause-within : goal.representative_of-above-requires-in-Skolem-clause-within
representative_of-above-requires-in-Skolem-clause-within c =
    let case = case_given c.args.given.now in
    let link = skolem_link case c.args.number c.args.forms.now c.known.result.now c.in-Skolem.parent c.in-Skolem.map c.requires.forms c.known.ensures c.in-Skolem.is in
    parent_within case c.args.number c.in-Skolem.parent link.within link.fitted.one

pub own_form_of-own-requires-clause-known : goal.own_form_of-own-requires-clause-known
own_form_of-own-requires-clause-known c =
    let case = case_given c.args.given.now in
    let link = skolem_link case c.args.number c.args.forms.now c.known.result.now c.in-Skolem.parent c.in-Skolem.map c.requires.forms c.known.ensures c.in-Skolem.is in
    parent_known case c.args.number c.args.forms.now c.in-Skolem.parent c.requires.ready.opened link.fitted.one

pub own_form_of-own-requires-clause-within : goal.own_form_of-own-requires-clause-within
own_form_of-own-requires-clause-within c =
    let case = case_given c.args.given.now in
    let link = skolem_link case c.args.number c.args.forms.now c.known.result.now c.in-Skolem.parent c.in-Skolem.map c.requires.forms c.known.ensures c.in-Skolem.is in
    parent_within case c.args.number c.in-Skolem.parent link.within link.fitted.one

pub skolem_image_of-requires-clause-link : goal.skolem_image_of-requires-clause-link
skolem_image_of-requires-clause-link c =
    let case = case_given c.args.given.now in record {
      parent = c.in-Skolem.parent;
      link = skolem_link case c.args.number c.args.forms.now c.known.result.now c.in-Skolem.parent c.in-Skolem.map c.requires.forms c.known.ensures c.in-Skolem.is;
      own = c.own_form_of-own.ensures;
      above = c.representative_of-above-in-Skolem.ensures;
    }

pub returns-in-Apart : goal.returns-in-Apart
returns-in-Apart c =
    let case = case_given c.args.given.now in
    apart_represents case c.args.number c.requires.sound c.requires.ready.stands
    (apart_link case c.args.number c.args.forms.now c.known.result.now c.requires.forms c.known.ensures c.in-Apart.is)
