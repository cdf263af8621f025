-- The two syntaxes of developments: how each is printed and read.
use Rattle.std.specs.Prelude.{ℕ, List, codes}
use Rattle.dedukti_read.specs.Text.{ReadsDk}
use Rattle.dedukti_text.specs.Print.{dk_text_of}
use Rattle.lp_read.specs.Text.{Reads}
use Rattle.lp_term.specs.declared.Dev.{Dev}
use Rattle.lp_text.specs.Print.{text_of}
use Rattle.dk_cli.specs.declared.syntax.Syntax.{Syntax}
use Rattle.dk_cli.specs.declared.syntax.Syntax.TheVariants.{Lambdapi, Dedukti}

abbrev pub syntax_word : Syntax → List ℕ
syntax_word Lambdapi = codes "Lambdapi"
syntax_word Dedukti = codes "Dedukti"

-- the canonical text of a development
abbrev pub text_in : Syntax → Dev → List ℕ
text_in Lambdapi development = text_of development
text_in Dedukti development = dk_text_of development

-- the bytes are read as the development
abbrev pub ReadsIn : Syntax → List ℕ → Dev → Type 0
ReadsIn Lambdapi bytes development = Reads bytes development
ReadsIn Dedukti bytes development = ReadsDk bytes development
