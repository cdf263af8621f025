-- The lemmas that the proofs of the code share.
use Rattle.std.proofs.Common.{append_assoc}
use Rattle.std.proofs.lemmas.Grind.{common_steps}
use Rattle.std.proofs.lemmas.List.{map-append, reverse-append}
use Rattle.dk_syntax.specs.declared.Formula.{the_lemmas as of_formulas}
use Rattle.dk_syntax.specs.declared.Term.{the_lemmas as of_terms}
use Rattle.normal_form.proofs.LayerLaws.{within_last}
use Rattle.normal_form.specs.declared.draft.Draft.{the_lemmas as of_drafts}
use Rattle.normal_form.specs.declared.form.Nf.{the_lemmas as of_forms}
use Rattle.normal_form.specs.declared.work.Work.{the_lemmas as of_works}

pub ruleset form_steps = (common_steps, append_assoc, of_terms, of_formulas, of_forms)

pub ruleset layer_steps = (common_steps, append_assoc, within_last, of_forms)

pub ruleset row_steps = (common_steps, append_assoc, of_forms)

pub ruleset draft_steps = (common_steps, append_assoc, reverse-append, of_forms, of_drafts)

pub ruleset work_steps = (common_steps, append_assoc, map-append, within_last, of_forms, of_works)

pub ruleset unnumbering_steps = (work_steps, reverse-append)
