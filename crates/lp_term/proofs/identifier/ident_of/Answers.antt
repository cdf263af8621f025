use Rattle.std.proofs.Common.{sym, ◌∙◌, subst, arith}
use Rattle.std.proofs.lemmas.Grind.{common_steps}
use Rattle.hex.specs.Hex.{IsBytes}
use Rattle.lp_term.specs.Reserved.{IsGrammarName, IsSymbol}
use Rattle.lp_term.proofs.GrammarLaws.{identifier_of-grammar}
use Rattle.lp_term.proofs.IdentifierLaws.{identifier_of-injective}
use Rattle.lp_term.proofs.identifier.ident_of.Goals as goal

pub returns-clause-value : goal.returns-clause-value
returns-clause-value c = grind (arith, common_steps)

pub returns-clause-of_one : goal.returns-clause-of_one
returns-clause-of_one c = λ other fits same.
    let here : IsSymbol c.args.symbol.now = record {
      name_is_bytes = subst IsBytes c.as_bytes-name.ensures (λ i. let byte = c.as_bytes-name.items_fit i in omega arith);
      arity_fits = omega arith;
    } in
    identifier_of-injective other c.args.symbol.now fits here (same ∙ returns-clause-value c)

pub returns-clause-grammar : goal.returns-clause-grammar
returns-clause-grammar c =
    let here : IsSymbol c.args.symbol.now = record {
      name_is_bytes = subst IsBytes c.as_bytes-name.ensures (λ i. let byte = c.as_bytes-name.items_fit i in omega arith);
      arity_fits = omega arith;
    } in
    subst IsGrammarName (sym (returns-clause-value c)) (identifier_of-grammar c.args.symbol.now here)
