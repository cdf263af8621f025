use Rattle.std.proofs.Common.{◌≡◌, None, sym, ap, ◌∙◌}
use Rattle.lp_kernel.specs.Developments.{first_failure}
use Rattle.lp_kernel.specs.Walking.{failures_of}
use Rattle.lp_kernel.proofs.AcceptanceLaws.{accepted, accepted_typed}
use Rattle.lp_kernel.proofs.development.check.Goals as goal

pub returns-in-Ok-None-clause-typed : goal.returns-in-Ok-None-clause-typed
returns-in-Ok-None-clause-typed c =
    let commands = c.args.d.now.commands in
    let none : first_failure commands ≡ None = sym (ap failures_of (sym c.in-Ok-None.field-0-is) ∙ c.in-Ok-None.ensures ∙ ap first_failure c.as_slice.ensures) in
    accepted_typed commands (accepted commands none)
