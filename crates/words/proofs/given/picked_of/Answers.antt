use Rattle.std.proofs.Common.{◌∙◌, codes}
use Rattle.clap.specs.Words.{found_of}
use Rattle.clap.proofs.WalkLemmas.{first_value-rows}
use Rattle.words.proofs.given.picked_of.Goals as goal

pub returns : goal.returns
returns c =
    let found = found_of c.args.matches.now in
    let first = c.get_str-first.ensures ∙ first_value-rows found (codes "FIRST") in
    let second = c.get_str-second.ensures ∙ first_value-rows found (codes "SECOND") in
    let limit = c.get_str-limit.ensures ∙ first_value-rows found (codes "limit") in
    let workers = c.get_str-workers.ensures ∙ first_value-rows found (codes "workers") in
    λ i. record { first = first i; second = second i; limit = limit i; workers = workers i }
