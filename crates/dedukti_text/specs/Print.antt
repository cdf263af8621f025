-- The canonical text of terms, commands and developments after Dedukti. What a text depends on, its brackets and the names of
-- variables are as in the other syntax.
use Rattle.std.specs.Prelude.{ℕ, ◌+◌, ◌-◌, ◌==◌, Bool, true, false, not, ◌||◌, List, [], ◌∷◌, ◌++◌, Option, Some, None, is_some, codes}
use Rattle.std.specs.List.{join_by}
use Rattle.lp_term.specs.declared.Command.{Command}
use Rattle.lp_term.specs.declared.Command.TheVariants.{Constant, Symbol, Define, Rule}
use Rattle.lp_term.specs.declared.Dev.{Dev}
use Rattle.lp_term.specs.declared.Lp.{Lp, Lp-F, fold-Lp}
use Rattle.lp_term.specs.declared.Lp.TheOpen.{Sort, Sym, Var, Pat, App, Lam, Pi}
use Rattle.lp_text.specs.Print.{Parts, Printed, argument_text, atom_text, operand_text, variable_text}
use Rattle.dedukti_text.specs.Patterns.{pattern_names}

-- v : domain, where an atom or an application stands bare
abbrev pub annotation_text : Printed → ℕ → List ℕ
annotation_text domain level = variable_text level ++ (codes " : " ++ operand_text domain level)

-- v : domain => body
abbrev pub abstraction_text : Printed → Printed → ℕ → List ℕ
abstraction_text domain body level = annotation_text domain level ++ (codes " => " ++ body.bare (level + 1))

-- v : domain -> body, and without the variable where it doesn't occur
abbrev pub product_text : Bool → Printed → Printed → ℕ → List ℕ
product_text true domain body level = annotation_text domain level ++ (codes " -> " ++ body.bare (level + 1))
product_text false domain body level = operand_text domain level ++ (codes " -> " ++ body.bare (level + 1))

-- (v : domain =>, a newline, body) argument
abbrev pub let_text : Parts → Printed → ℕ → List ℕ
let_text function argument level =
    codes "(" ++ (function.domain level ++ (codes " =>\n" ++ (function.body (level + 1) ++ (codes ") " ++ argument_text argument level))))

-- the first where the function is an abstraction, which has brackets and a line of its own
abbrev pub application_text : Option Parts → Printed → Printed → ℕ → List ℕ
application_text (Some parts) function argument level = let_text parts argument level
application_text None function argument level = operand_text function level ++ (codes " " ++ argument_text argument level)

abbrev pub printed_at : Lp-F Printed → Printed
printed_at Sort = atom_text (λ level. codes "Type") (λ number. false)
printed_at (Sym name) = atom_text (λ level. name) (λ number. false)
printed_at (Var variable) = atom_text (λ level. variable_text (level - 1 - variable)) (λ number. variable == number)
printed_at (Pat name) = atom_text (λ level. name) (λ number. false)
printed_at (App function argument) = record {
  bare = application_text function.parts function argument;
  occurs = λ number. function.occurs number || argument.occurs number;
  is_atom = false;
  is_operand = not (is_some function.parts);
  parts = None;
}
printed_at (Lam domain body) = record {
  bare = abstraction_text domain body;
  occurs = λ number. domain.occurs number || body.occurs (number + 1);
  is_atom = false;
  is_operand = false;
  parts = Some (record { domain = annotation_text domain; body = body.bare });
}
printed_at (Pi domain body) = record {
  bare = product_text (body.occurs 0) domain body;
  occurs = λ number. domain.occurs number || body.occurs (number + 1);
  is_atom = false;
  is_operand = false;
  parts = None;
}

abbrev pub dk_printed : Lp → Printed
dk_printed = fold-Lp Printed printed_at

-- the text of a term in a place of that level
abbrev pub dk_term_text : Lp → ℕ → List ℕ
dk_term_text t = (dk_printed t).bare

-- name : type
abbrev pub declaration_text : List ℕ → Lp → List ℕ
declaration_text name type = name ++ (codes " : " ++ dk_term_text type 0)

-- the names between brackets
abbrev pub names_text : List (List ℕ) → List ℕ
names_text names = codes "[" ++ (join_by (λ name. name) (codes ", ") names ++ codes "] ")

-- each command ends with `.` and a newline
abbrev pub dk_command_text : Command → List ℕ
dk_command_text (Constant name type) = declaration_text name type ++ codes ".\n"
dk_command_text (Symbol name type) = codes "def " ++ (declaration_text name type ++ codes ".\n")
dk_command_text (Define name type body) =
    codes "def " ++ (declaration_text name type ++ (codes " := " ++ (dk_term_text body 0 ++ codes ".\n")))
dk_command_text (Rule left right) =
    names_text (pattern_names left) ++ (dk_term_text left 0 ++ (codes " --> " ++ (dk_term_text right 0 ++ codes ".\n")))

abbrev pub dk_commands_text : List Command → List ℕ
dk_commands_text [] = []
dk_commands_text (command ∷ rest) = dk_command_text command ++ dk_commands_text rest

-- the text of a development
abbrev pub dk_text_of : Dev → List ℕ
dk_text_of development = dk_commands_text development.commands
