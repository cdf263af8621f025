use Rattle.std.proofs.Common.{◌≤◌, length, subst, arith}
use Rattle.std.specs.Prelude.{All}
use Rattle.std.proofs.lemmas.List.{take_all}
use Rattle.std.proofs.lemmas.List.Elements.{All-more}
use Rattle.lp_term.specs.Reserved.{IsFree, IsGrammarName, IsOfOne}
use Rattle.dk_cli.specs.Conversion.{HasName}
use Rattle.dk_cli.proofs.conversion.names.Goals as goal

pub loop-symbol-preserved : goal.loop-symbol-preserved
loop-symbol-preserved c =
    let id = c.in_ok-_identifier.ensures in
    let named : HasName c.symbol-item.result = record { grammar = subst IsGrammarName id.value id.grammar; free = subst IsFree id.value id.free; of_one = subst (IsOfOne c.symbol-item.result) id.value id.of_one } in
    All-more HasName c.args.symbols.now c.loop-symbol.symbol-index c.symbol-item.result c.loop-symbol-test.true c.loop-symbol.invariant
    (subst HasName c.symbol-item.is named)

pub returns : goal.returns
returns c =
    let whole : length c.args.symbols.now ≤ c.loop-symbol.symbol-index = omega arith in
    subst (λ symbols. All HasName symbols) (take_all c.loop-symbol.symbol-index c.args.symbols.now whole) c.loop-symbol.invariant
