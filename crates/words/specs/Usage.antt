-- The usage text.
use Rattle.std.specs.Prelude.{List, [], ◌∷◌, ◌++◌, codes, flat_map}
use Rattle.words.specs.Commands.{Text}

-- The forms of the command line, by the words after the program's name.
abbrev pub forms : List Text
forms = codes "convert PROBLEM TRACE [--limit N] [--workers N]" ∷ codes "steps PROBLEM TRACE [--workers N]"
    ∷ codes "extract PROBLEM TRACE [--workers N]" ∷ codes "expansion PROBLEM TRACE [--limit N] [--workers N]"
    ∷ codes "check FILE" ∷ codes "generate N [--workers N]"
    ∷ codes "dedukti PROBLEM TRACE [--limit N] [--workers N]" ∷ codes "dkcheck FILE" ∷ codes "--help" ∷ []

-- A line for each form, behind the program's name.
abbrev pub usage_text : Text
usage_text = flat_map (λ form. codes "ekskon " ++ (form ++ 10 ∷ [])) forms
