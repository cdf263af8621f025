-- Reading a formula from left to right: what each function that reads gives.
use Rattle.std.specs.Prelude.{◌≡◌, ℕ, zero, suc, ◌&&◌, if◌then◌else◌, List, [], ◌∷◌, length, Option, Some, None, Result, Ok, Err}
use Rattle.tptp_tokens.specs.declared.Token.{Token}
use Rattle.tptp_tokens.specs.declared.Token.TheVariants as t
use Rattle.tptp_formulas.specs.declared.body.Lang.{Lang}
use Rattle.tptp_formulas.specs.declared.fault.ReadError.{ReadError}
use Rattle.tptp_formulas.specs.declared.fault.ReadError.TheVariants.{Memory, Syntax}
use Rattle.tptp_formulas.specs.declared.raw.Comparison.{Comparison}
use Rattle.tptp_formulas.specs.declared.raw.Comparison.TheVariants as comparison
use Rattle.tptp_formulas.specs.declared.raw.Connective.{Connective}
use Rattle.tptp_formulas.specs.declared.raw.Connective.TheVariants as connective
use Rattle.tptp_formulas.specs.declared.raw.Link.{Link}
use Rattle.tptp_formulas.specs.declared.raw.Link.TheVariants as link
use Rattle.tptp_formulas.specs.declared.raw.Prefix.{Prefix}
use Rattle.tptp_formulas.specs.declared.raw.Prefix.TheVariants.{Exists, ForAll, Not}
use Rattle.tptp_formulas.specs.declared.raw.Raw.{Raw}
use Rattle.tptp_formulas.specs.declared.raw.Raw.TheVariants as raw
use Rattle.tptp_formulas.specs.declared.raw.RawTerm.{RawTerm, RawTerm-F, out-RawTerm}
use Rattle.tptp_formulas.specs.declared.raw.RawTerm.TheOpen as layer
use Rattle.tptp_formulas.specs.declared.raw.RawTerm.TheVariants as term
use Rattle.tptp_formulas.specs.Written.{ends, fits}

infixl 10 ◌>>=◌
abbrev pub ◌>>=◌ : {A B : Type 0} → Option A → (A → Option B) → Option B
None >>= f = None
(Some x) >>= f = f x

-- what a function returned, seen by the view, is what reading gives, unless memory ran out
abbrev pub Fails : {Y : Type 0} → ReadError → Option Y → Type 0
Fails Memory read = Unit {0}
Fails Syntax read = read ≡ None

abbrev pub Gives : {X Y : Type 0} → (X → Y) → Result X ReadError → Option Y → Type 0
Gives view (Ok x) read = read ≡ Some (view x)
Gives view (Err e) read = Fails e read

-- what code hands out, without where it lies
abbrev pub seen : {A B : Type 0} → (A → B) → Option A → Option B
seen f None = None
seen f (Some x) = Some (f x)

-- a reader gives what stands at the front, and the tokens behind it
abbrev pub Reader : Type 0 → Type 0
Reader A = List Token → Option (A × List Token)

-- ---- terms

-- what follows a term in brackets
unfoldable pub more_terms : Reader (List RawTerm) → RawTerm → Reader (List RawTerm)
more_terms others first (t.Comma ∷ ts) = do
  rest ← others ts
  Some (first ∷ rest.0, rest.1)
more_terms others first (t.CloseRound ∷ ts) = Some (first ∷ [], ts)
more_terms others first ts = None

-- terms with commas between them, up to a closing bracket; at most so many
unfoldable pub terms_at : ℕ → Reader RawTerm → Reader (List RawTerm)
terms_at zero one ts = None
terms_at (suc k) one ts = do
  first ← one ts
  more_terms (terms_at k one) first.0 first.1

-- arguments, where there are any
unfoldable pub args_at : Reader RawTerm → Reader (List RawTerm)
args_at one (t.OpenRound ∷ ts) = terms_at (length ts) one ts
args_at one ts = Some ([], ts)

-- a word with the arguments that were read behind it
abbrev pub applied : List ℕ → Option (List RawTerm × List Token) → Option (RawTerm × List Token)
applied name read = read >>= λ args. Some (term.Apply name args.0, args.1)

-- a dollar word with them
abbrev pub dollar_applied : List ℕ → Option (List RawTerm × List Token) → Option (RawTerm × List Token)
dollar_applied name read = read >>= λ args. Some (term.Dollar name args.0, args.1)

-- a term whose arguments are read by the reader
unfoldable pub term_with : Reader RawTerm → Reader RawTerm
term_with one (t.Upper name ∷ ts) = Some (term.Variable name, ts)
term_with one (t.Number name ∷ ts) = Some (term.Number name, ts)
term_with one (t.Distinct name ∷ ts) = Some (term.Distinct name, ts)
term_with one (t.Lower name ∷ ts) = do
  args ← args_at one ts
  Some (term.Apply name args.0, args.1)
term_with one (t.Quoted name ∷ ts) = do
  args ← args_at one ts
  Some (term.Apply name args.0, args.1)
term_with one (t.Dollar name ∷ ts) = do
  args ← args_at one ts
  Some (term.Dollar name args.0, args.1)
term_with one ts = None

-- a term with fewer than so many brackets around a place
unfoldable pub term_at : ℕ → Reader RawTerm
term_at zero ts = None
term_at (suc n) ts = term_with (term_at n) ts

-- ---- atoms

-- the comparison at the front, and the tokens behind it
abbrev pub comparison_at : List Token → Option (Comparison × List Token)
comparison_at (t.Equal ∷ ts) = Some (comparison.Equal, ts)
comparison_at (t.Unequal ∷ ts) = Some (comparison.Unequal, ts)
comparison_at ts = None

-- the atom that a term is by itself
unfoldable pub alone_at : RawTerm-F RawTerm → List Token → Option (Raw × List Token)
alone_at (layer.Variable name) ts = None
alone_at (layer.Apply name args) ts = Some (raw.Atom name args, ts)
alone_at (layer.Number name) ts = None
alone_at (layer.Distinct name) ts = None
alone_at (layer.Dollar name args) ts = Some (raw.Dollar name args, ts)

-- what follows the first term of an atom
unfoldable pub compared_at : Reader RawTerm → RawTerm → List Token → Option (Comparison × List Token) → Option (Raw × List Token)
compared_at one left ts None = alone_at (out-RawTerm left) ts
compared_at one left ts (Some found) = do
  right ← one found.1
  Some (raw.Equation found.0 left right.0, right.1)

unfoldable pub atom_at : Reader Raw
atom_at ts = do
  left ← term_at (length ts) ts
  compared_at (term_at (length ts)) left.0 left.1 (comparison_at left.1)

-- ---- formulas

-- the variables of a quantifier, behind its [ and up to ] and :
unfoldable pub vars_at : Reader (List (List ℕ))
vars_at (t.Upper name ∷ t.Comma ∷ ts) = do
  others ← vars_at ts
  Some (name ∷ others.0, others.1)
vars_at (t.Upper name ∷ t.CloseSquare ∷ t.Colon ∷ ts) = Some (name ∷ [], ts)
vars_at ts = None

-- a negation or a quantifier, where one stands there
unfoldable pub prefix_at : Reader (Option Prefix)
prefix_at (t.Not ∷ ts) = Some (Some Not, ts)
prefix_at (t.ForAll ∷ t.OpenSquare ∷ ts) = do
  vars ← vars_at ts
  Some (Some (ForAll vars.0), vars.1)
prefix_at (t.Exists ∷ t.OpenSquare ∷ ts) = do
  vars ← vars_at ts
  Some (Some (Exists vars.0), vars.1)
prefix_at ts = Some (None, ts)

unfoldable pub prefix_more : Reader (List Prefix) → Option Prefix → Reader (List Prefix)
prefix_more more None ts = Some ([], ts)
prefix_more more (Some p) ts = do
  others ← more ts
  Some (p ∷ others.0, others.1)

unfoldable pub prefixes_with : Reader (List Prefix) → Reader (List Prefix)
prefixes_with more ts = do
  p ← prefix_at ts
  prefix_more more p.0 p.1

-- negations and quantifiers, fewer than so many
unfoldable pub prefixes_at : ℕ → Reader (List Prefix)
prefixes_at zero ts = None
prefixes_at (suc k) ts = prefixes_with (prefixes_at k) ts

unfoldable pub closed_at : {A : Type 0} → A → List Token → Option (A × List Token)
closed_at x (t.CloseRound ∷ ts) = Some (x, ts)
closed_at x ts = None

-- an atom, or a formula in brackets
unfoldable pub core_at : Reader Raw → Reader Raw
core_at formula (t.OpenRound ∷ ts) = do
  inner ← formula ts
  closed_at inner.0 inner.1
core_at formula ts = atom_at ts

unfoldable pub unit_at : Reader Raw → Reader Raw
unit_at formula ts = do
  prefixes ← prefixes_at (length ts) ts
  core ← core_at formula prefixes.1
  Some (raw.Unit prefixes.0 core.0, core.1)

-- the tokens behind the link, where it stands at the front
abbrev pub behind : Link → List Token → Option (List Token)
behind link.And (t.And ∷ ts) = Some ts
behind link.Or (t.Or ∷ ts) = Some ts
behind link ts = None

-- the link at the front, and the tokens behind it
abbrev pub link_at : List Token → Option (Link × List Token)
link_at (t.And ∷ ts) = Some (link.And, ts)
link_at (t.Or ∷ ts) = Some (link.Or, ts)
link_at ts = None

-- the connective at the front, and the tokens behind it
abbrev pub connective_at : List Token → Option (Connective × List Token)
connective_at (t.Implies ∷ ts) = Some (connective.Implies, ts)
connective_at (t.ImpliedBy ∷ ts) = Some (connective.ImpliedBy, ts)
connective_at (t.Iff ∷ ts) = Some (connective.Iff, ts)
connective_at (t.Differs ∷ ts) = Some (connective.Differs, ts)
connective_at (t.Nor ∷ ts) = Some (connective.Nor, ts)
connective_at (t.Nand ∷ ts) = Some (connective.Nand, ts)
connective_at ts = None

unfoldable pub chained_at : Reader (List Raw) → Raw → List Token → Option (List Token) → Option (List Raw × List Token)
chained_at others first ts None = Some (first ∷ [], ts)
chained_at others first ts (Some next) = do
  rest ← others next
  Some (first ∷ rest.0, rest.1)

-- what follows a unit in a chain
unfoldable pub more_units : Reader (List Raw) → Link → Raw → Reader (List Raw)
more_units others link first ts = chained_at others first ts (behind link ts)

-- units with the link between them, at most so many
unfoldable pub units_at : ℕ → Reader Raw → Link → Reader (List Raw)
units_at zero unit link ts = None
units_at (suc k) unit link ts = do
  first ← unit ts
  more_units (units_at k unit link) link first.0 first.1

unfoldable pub binary_at : Reader Raw → Raw → List Token → Option (Connective × List Token) → Option (Raw × List Token)
binary_at unit first ts None = Some (first, ts)
binary_at unit first ts (Some found) = do
  second ← unit found.1
  Some (raw.Binary found.0 first second.0, second.1)

unfoldable pub tail_with : Reader Raw → Raw → List Token → Option (Link × List Token) → Option (Raw × List Token)
tail_with unit first ts None = binary_at unit first ts (connective_at ts)
tail_with unit first ts (Some found) = do
  others ← units_at (length found.1) unit found.0 found.1
  Some (raw.Chain found.0 first others.0, others.1)

-- what follows the first unit
unfoldable pub tail_at : Reader Raw → Raw → Reader Raw
tail_at unit first ts = tail_with unit first ts (link_at ts)

-- a formula, in whose brackets formulas are read by the reader
unfoldable pub formula_with : Reader Raw → Reader Raw
formula_with inner ts = do
  first ← unit_at inner ts
  tail_at (unit_at inner) first.0 first.1

-- a formula with fewer than so many brackets around a place
unfoldable pub formula_at : ℕ → Reader Raw
formula_at zero ts = None
formula_at (suc n) ts = formula_with (formula_at n) ts

-- ---- texts

-- what was read, where the language has it and nothing follows that goes on with it
unfoldable pub accepted : Lang → Raw × List Token → Option (Raw × List Token)
accepted lang read = if ends read.1 && fits lang read.0 then Some read else None

-- the formula of the language that the tokens begin with, and the tokens behind it
unfoldable pub reading : Lang → Reader Raw
reading lang ts = do
  read ← formula_at (length ts) ts
  accepted lang read
