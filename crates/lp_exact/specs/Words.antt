-- What a symbol is to the rules and to the types.
use Rattle.std.specs.Prelude.{ℕ, List, bytes_eq, if◌then◌else◌}
use Rattle.lp_term.specs.Names.{all_name, and_name, bot_name, ex_name, i_name, iff_name, imp_name, not_name, or_name, prf_name, prop_name, top_name}
use Rattle.lp_exact.specs.declared.word.Word.{Word}
use Rattle.lp_exact.specs.declared.word.Word.TheVariants.{Individuals, Propositions, Prf, Imp, And, Or, Iff, Not, Top, Bot, All, Ex, Other}

-- the word of the symbol of that name
abbrev pub word_of : List ℕ → Word
word_of name =
    if bytes_eq name i_name then Individuals
    else if bytes_eq name prop_name then Propositions
    else if bytes_eq name prf_name then Prf
    else if bytes_eq name imp_name then Imp
    else if bytes_eq name and_name then And
    else if bytes_eq name or_name then Or
    else if bytes_eq name iff_name then Iff
    else if bytes_eq name not_name then Not
    else if bytes_eq name top_name then Top
    else if bytes_eq name bot_name then Bot
    else if bytes_eq name all_name then All
    else if bytes_eq name ex_name then Ex
    else Other
