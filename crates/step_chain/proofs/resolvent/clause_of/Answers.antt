use Rattle.std.proofs.Common.{ℕ, List, map, length, ap, ap₂, ◌∙◌}
use Rattle.dk_syntax.specs.declared.Clause.{Clause}
use Rattle.dk_syntax.specs.declared.Literal.{Literal}
use Rattle.dk_syntax.specs.Terms.{instance}
use Rattle.step_chain.proofs.Numbered.{closed_literals}
use Rattle.step_chain.specs.Resolvents.{closed_over}
use Rattle.step_chain.proofs.resolvent.clause_of.Goals as goal

abbrev clause_with : ℕ → List Literal → Clause
clause_with vars lits = record { vars = vars; lits = lits }

pub returns : goal.returns
returns c =
    ap₂ clause_with (c.in_ok-vars.ensures ∙ ap length c.requires)
    (c.in_ok-lits.ensures ∙ ap (λ q. map (instance (closed_over q)) c.args.lits.now) c.requires ∙ closed_literals c.args.lits.now)
