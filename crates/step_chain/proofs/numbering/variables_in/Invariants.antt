use Rattle.std.proofs.Common.{◌≡◌, drop, map}
use Rattle.dk_syntax.specs.Symbols.{joined}
use Rattle.normal_form.specs.ClauseLists.{literal_variables, quants_of, with_numbers}
use Rattle.step_chain.proofs.numbering.variables_in.Given as goal

-- with the variables of what is left the list is the one that the loop makes
abbrev pub invariant-loop-literal : goal.invariant-loop-literal
invariant-loop-literal l = with_numbers l.seen (joined (map literal_variables (drop l.literal-index l.literals))) ≡ quants_of l.literals
