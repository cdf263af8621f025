-- The canonical text of terms, commands and developments.
use Rattle.std.specs.Prelude.{ℕ, ◌+◌, ◌-◌, ◌==◌, Bool, true, false, not, ◌||◌, if◌then◌else◌, List, [], ◌∷◌, ◌++◌, Option, Some, None, is_some, codes, decimal}
use Rattle.lp_term.specs.declared.Command.{Command}
use Rattle.lp_term.specs.declared.Command.TheVariants.{Constant, Symbol, Define, Rule}
use Rattle.lp_term.specs.declared.Dev.{Dev}
use Rattle.lp_term.specs.declared.Lp.{Lp, Lp-F, fold-Lp}
use Rattle.lp_term.specs.declared.Lp.TheOpen.{Sort, Sym, Var, Pat, App, Lam, Pi}

-- the marks past ASCII: λ, Π, →, ≔ and ↪
abbrev pub lambda_mark : List ℕ
lambda_mark = 206 ∷ 187 ∷ []

abbrev pub product_mark : List ℕ
product_mark = 206 ∷ 160 ∷ []

abbrev pub arrow_mark : List ℕ
arrow_mark = 226 ∷ 134 ∷ 146 ∷ []

abbrev pub define_mark : List ℕ
define_mark = 226 ∷ 137 ∷ 148 ∷ []

abbrev pub rule_mark : List ℕ
rule_mark = 226 ∷ 134 ∷ 170 ∷ []

-- a bound variable is `v` and the level of its binder
abbrev pub variable_text : ℕ → List ℕ
variable_text level = codes "v" ++ decimal level

-- of an abstraction the texts of its variable's type and of its body
pub record Parts : Type 0 where
  pub domain : ℕ → List ℕ
  pub body : ℕ → List ℕ

-- what the text of a term and its surroundings depend on
pub record Printed : Type 0 where
  -- the text in a place of that level where no brackets are needed
  pub bare : ℕ → List ℕ
  -- whether the variable of that number occurs
  pub occurs : ℕ → Bool
  -- whether it is an atom
  pub is_atom : Bool
  -- whether it is an atom or an application that is no `let`
  pub is_operand : Bool
  -- its parts where it is an abstraction
  pub parts : Option Parts

-- brackets where they are needed
abbrev pub bracketed : Bool → List ℕ → List ℕ
bracketed needed text = if needed then codes "(" ++ (text ++ codes ")") else text

-- left of `→` and as the head of an application
abbrev pub operand_text : Printed → ℕ → List ℕ
operand_text t level = bracketed (not t.is_operand) (t.bare level)

-- as an argument
abbrev pub argument_text : Printed → ℕ → List ℕ
argument_text t level = bracketed (not t.is_atom) (t.bare level)

-- MARK (v : domain), body
abbrev pub binder_text : List ℕ → Printed → Printed → ℕ → List ℕ
binder_text mark domain body level =
    mark ++ (codes " (" ++ (variable_text level ++ (codes " : " ++ (domain.bare level ++ (codes "), " ++ body.bare (level + 1))))))

-- domain → body
abbrev pub arrow_text : Printed → Printed → ℕ → List ℕ
arrow_text domain body level =
    operand_text domain level ++ (codes " " ++ (arrow_mark ++ (codes " " ++ body.bare (level + 1))))

-- an arrow exactly where the variable doesn't occur
abbrev pub product_text : Bool → Printed → Printed → ℕ → List ℕ
product_text true domain body level = binder_text product_mark domain body level
product_text false domain body level = arrow_text domain body level

-- let v : domain ≔ value in, a newline, body
abbrev pub let_text : Parts → Printed → ℕ → List ℕ
let_text function value level =
    codes "let " ++ (variable_text level ++ (codes " : " ++ (function.domain level ++ (codes " " ++ (define_mark ++ (codes " " ++ (value.bare level ++ (codes " in\n" ++ function.body (level + 1)))))))))

-- a `let` exactly where the function is an abstraction
abbrev pub application_text : Option Parts → Printed → Printed → ℕ → List ℕ
application_text (Some parts) function argument level = let_text parts argument level
application_text None function argument level = operand_text function level ++ (codes " " ++ argument_text argument level)

abbrev pub atom_text : (ℕ → List ℕ) → (ℕ → Bool) → Printed
atom_text bare occurs = record { bare = bare; occurs = occurs; is_atom = true; is_operand = true; parts = None }

abbrev pub printed_at : Lp-F Printed → Printed
printed_at Sort = atom_text (λ level. codes "TYPE") (λ number. false)
printed_at (Sym name) = atom_text (λ level. name) (λ number. false)
printed_at (Var variable) = atom_text (λ level. variable_text (level - 1 - variable)) (λ number. variable == number)
printed_at (Pat name) = atom_text (λ level. codes "$" ++ name) (λ number. false)
printed_at (App function argument) = record {
  bare = application_text function.parts function argument;
  occurs = λ number. function.occurs number || argument.occurs number;
  is_atom = false;
  is_operand = not (is_some function.parts);
  parts = None;
}
printed_at (Lam domain body) = record {
  bare = binder_text lambda_mark domain body;
  occurs = λ number. domain.occurs number || body.occurs (number + 1);
  is_atom = false;
  is_operand = false;
  parts = Some (record { domain = domain.bare; body = body.bare });
}
printed_at (Pi domain body) = record {
  bare = product_text (body.occurs 0) domain body;
  occurs = λ number. domain.occurs number || body.occurs (number + 1);
  is_atom = false;
  is_operand = false;
  parts = None;
}

abbrev pub printed : Lp → Printed
printed = fold-Lp Printed printed_at

-- the text of a term in a place of that level
abbrev pub term_text : Lp → ℕ → List ℕ
term_text t = (printed t).bare

-- symbol name : type
abbrev pub declaration_text : List ℕ → Lp → List ℕ
declaration_text name type = codes "symbol " ++ (name ++ (codes " : " ++ term_text type 0))

-- each command ends with `;` and a newline
abbrev pub command_text : Command → List ℕ
command_text (Constant name type) = codes "constant " ++ (declaration_text name type ++ codes ";\n")
command_text (Symbol name type) = declaration_text name type ++ codes ";\n"
command_text (Define name type body) =
    declaration_text name type ++ (codes " " ++ (define_mark ++ (codes " " ++ (term_text body 0 ++ codes ";\n"))))
command_text (Rule left right) =
    codes "rule " ++ (term_text left 0 ++ (codes " " ++ (rule_mark ++ (codes " " ++ (term_text right 0 ++ codes ";\n")))))

abbrev pub commands_text : List Command → List ℕ
commands_text [] = []
commands_text (command ∷ rest) = command_text command ++ commands_text rest

-- the text of a development
abbrev pub text_of : Dev → List ℕ
text_of development = commands_text development.commands
