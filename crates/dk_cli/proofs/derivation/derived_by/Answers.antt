use Rattle.std.proofs.Common.{◌≡◌, Err, Ok, ap, subst, sym, ◌∙◌}
use Rattle.std.proofs.lemmas.Result.{err_from_is_err_and}
use Rattle.dk_cli.specs.Derivations.{IsGraphIn, derivation}
use Rattle.dk_cli.specs.Stages.{Answered}
use Rattle.dk_cli.proofs.Derived.{graph_given}
use Rattle.dk_cli.proofs.StageLaws.{stops}
use Rattle.dk_cli.proofs.derivation.derived_by.Goals as goal

pub returns-in_err-graph-clause-answer : goal.returns-in_err-graph-clause-answer
returns-in_err-graph-clause-answer c =
    let end = err_from_is_err_and c.from_residual.result c.from_residual.ensures.1 in
    stops (IsGraphIn c.args.trace) (λ graph end. end ≡ Ok (derivation c.args.problem c.args.trace graph)) c.graph_in.result end.0 c.from_residual.result
    (c.in_err-graph.was ∙ ap Err (sym end.2)) end.1 c.graph_in.ensures

pub returns-clause-derived : goal.returns-clause-derived
returns-clause-derived c = record {
  graph = graph_given c.args.trace c.in_ok-graph.graph (subst (Answered (IsGraphIn c.args.trace)) c.in_ok-graph.was c.graph_in.ensures);
  names = c.requires.names;
  parents = c.requires.parents;
  read = c.requires.read;
}
