-- The grammar of formulas, one case an alternative. `IsTerm before t after` says that the tokens `before` are the
-- term `t` and then the tokens `after`, and so for the other parts.
use Rattle.std.specs.Prelude.{ℕ, List, [], ◌∷◌}
use Rattle.tptp_tokens.specs.declared.Token.{Token}
use Rattle.tptp_tokens.specs.declared.Token.TheVariants as t
use Rattle.tptp_formulas.specs.declared.raw.Comparison.{Comparison}
use Rattle.tptp_formulas.specs.declared.raw.Comparison.TheVariants.{Equal, Unequal}
use Rattle.tptp_formulas.specs.declared.raw.Connective.{Connective}
use Rattle.tptp_formulas.specs.declared.raw.Connective.TheVariants.{Differs, Iff, ImpliedBy, Implies, Nand, Nor}
use Rattle.tptp_formulas.specs.declared.raw.Link.{Link}
use Rattle.tptp_formulas.specs.declared.raw.Link.TheVariants.{And, Or}
use Rattle.tptp_formulas.specs.declared.raw.Prefix.{Prefix}
use Rattle.tptp_formulas.specs.declared.raw.Prefix.TheVariants.{Exists, ForAll, Not}
use Rattle.tptp_formulas.specs.declared.raw.Raw.{Raw}
use Rattle.tptp_formulas.specs.declared.raw.Raw.TheVariants as raw
use Rattle.tptp_formulas.specs.declared.raw.RawTerm.{RawTerm}
use Rattle.tptp_formulas.specs.declared.raw.RawTerm.TheVariants as term

-- a word: a lower word or a quoted name
pub data IsName : Token → List ℕ → Type 0 where
  LowerName : (name : List ℕ) → IsName (t.Lower name) name
  QuotedName : (name : List ℕ) → IsName (t.Quoted name) name

mutual
  -- a variable, a number, a distinct object, or a word or dollar word with its arguments
  pub data IsTerm : List Token → RawTerm → List Token → Type 0 where
    Variable : (name : List ℕ) (rest : List Token) → IsTerm (t.Upper name ∷ rest) (term.Variable name) rest
    Number : (name : List ℕ) (rest : List Token) → IsTerm (t.Number name ∷ rest) (term.Number name) rest
    Distinct : (name : List ℕ) (rest : List Token) → IsTerm (t.Distinct name ∷ rest) (term.Distinct name) rest
    Application : (w : Token) (name : List ℕ) (ts : List Token) (args : List RawTerm) (rest : List Token)
        → IsName w name → IsArguments ts args rest → IsTerm (w ∷ ts) (term.Apply name args) rest
    DollarTerm : (name : List ℕ) (ts : List Token) (args : List RawTerm) (rest : List Token)
        → IsArguments ts args rest → IsTerm (t.Dollar name ∷ ts) (term.Dollar name args) rest

  -- terms in brackets, or nothing
  pub data IsArguments : List Token → List RawTerm → List Token → Type 0 where
    NoArguments : (rest : List Token) → IsArguments rest [] rest
    Bracketed : (ts : List Token) (args : List RawTerm) (rest : List Token) → IsTerms ts args rest → IsArguments (t.OpenRound ∷ ts) args rest

  -- terms with commas between them, and a closing bracket
  pub data IsTerms : List Token → List RawTerm → List Token → Type 0 where
    LastTerm : (ts : List Token) (x : RawTerm) (rest : List Token) → IsTerm ts x (t.CloseRound ∷ rest) → IsTerms ts (x ∷ []) rest
    MoreTerms : (ts : List Token) (x : RawTerm) (mid : List Token) (xs : List RawTerm) (rest : List Token)
        → IsTerm ts x (t.Comma ∷ mid) → IsTerms mid xs rest → IsTerms ts (x ∷ xs) rest

-- the mark of a comparison
abbrev pub comparison_mark : Comparison → Token
comparison_mark Equal = t.Equal
comparison_mark Unequal = t.Unequal

-- an atom: a word or a dollar word with its arguments, as a term has them, or two terms that are compared
pub data IsAtom : List Token → Raw → List Token → Type 0 where
  Atom : (ts : List Token) (name : List ℕ) (args : List RawTerm) (rest : List Token) → IsTerm ts (term.Apply name args) rest → IsAtom ts (raw.Atom name args) rest
  DollarAtom : (ts : List Token) (name : List ℕ) (args : List RawTerm) (rest : List Token)
      → IsTerm ts (term.Dollar name args) rest → IsAtom ts (raw.Dollar name args) rest
  Equation : (comparison : Comparison) (ts : List Token) (a : RawTerm) (mid : List Token) (b : RawTerm) (rest : List Token)
      → IsTerm ts a (comparison_mark comparison ∷ mid) → IsTerm mid b rest → IsAtom ts (raw.Equation comparison a b) rest

-- variables with commas between them, a closing bracket and a colon
pub data IsVariables : List Token → List (List ℕ) → List Token → Type 0 where
  LastVariable : (name : List ℕ) (rest : List Token) → IsVariables (t.Upper name ∷ t.CloseSquare ∷ t.Colon ∷ rest) (name ∷ []) rest
  MoreVariables : (name : List ℕ) (ts : List Token) (names : List (List ℕ)) (rest : List Token)
      → IsVariables ts names rest → IsVariables (t.Upper name ∷ t.Comma ∷ ts) (name ∷ names) rest

-- negations and quantifiers
pub data IsPrefixes : List Token → List Prefix → List Token → Type 0 where
  NoPrefix : (rest : List Token) → IsPrefixes rest [] rest
  Negated : (ts : List Token) (ps : List Prefix) (rest : List Token) → IsPrefixes ts ps rest → IsPrefixes (t.Not ∷ ts) (Not ∷ ps) rest
  Universal : (ts : List Token) (names : List (List ℕ)) (mid : List Token) (ps : List Prefix) (rest : List Token)
      → IsVariables ts names mid → IsPrefixes mid ps rest → IsPrefixes (t.ForAll ∷ t.OpenSquare ∷ ts) (ForAll names ∷ ps) rest
  Existential : (ts : List Token) (names : List (List ℕ)) (mid : List Token) (ps : List Prefix) (rest : List Token)
      → IsVariables ts names mid → IsPrefixes mid ps rest → IsPrefixes (t.Exists ∷ t.OpenSquare ∷ ts) (Exists names ∷ ps) rest

-- the mark of a link
abbrev pub link_mark : Link → Token
link_mark And = t.And
link_mark Or = t.Or

-- the mark of a connective
abbrev pub connective_mark : Connective → Token
connective_mark Implies = t.Implies
connective_mark ImpliedBy = t.ImpliedBy
connective_mark Iff = t.Iff
connective_mark Differs = t.Differs
connective_mark Nor = t.Nor
connective_mark Nand = t.Nand

mutual
  -- a unit, two units with a connective between them, or a chain of units with one link between them
  pub data IsFormula : List Token → Raw → List Token → Type 0 where
    OneUnit : (ts : List Token) (f : Raw) (rest : List Token) → IsUnit ts f rest → IsFormula ts f rest
    Binary : (connective : Connective) (ts : List Token) (f : Raw) (mid : List Token) (g : Raw) (rest : List Token)
        → IsUnit ts f (connective_mark connective ∷ mid) → IsUnit mid g rest → IsFormula ts (raw.Binary connective f g) rest
    Chain : (link : Link) (ts : List Token) (f : Raw) (mid : List Token) (fs : List Raw) (rest : List Token)
        → IsUnit ts f (link_mark link ∷ mid) → IsUnits link mid fs rest → IsFormula ts (raw.Chain link f fs) rest

  -- units with the link's mark between them
  pub data IsUnits : Link → List Token → List Raw → List Token → Type 0 where
    LastUnit : (link : Link) (ts : List Token) (f : Raw) (rest : List Token) → IsUnit ts f rest → IsUnits link ts (f ∷ []) rest
    MoreUnits : (link : Link) (ts : List Token) (f : Raw) (mid : List Token) (fs : List Raw) (rest : List Token)
        → IsUnit ts f (link_mark link ∷ mid) → IsUnits link mid fs rest → IsUnits link ts (f ∷ fs) rest

  -- negations and quantifiers, and then an atom or a formula in brackets
  pub data IsUnit : List Token → Raw → List Token → Type 0 where
    Prefixed : (ts : List Token) (ps : List Prefix) (mid : List Token) (f : Raw) (rest : List Token)
        → IsPrefixes ts ps mid → IsCore mid f rest → IsUnit ts (raw.Unit ps f) rest

  -- an atom, or a formula in brackets
  pub data IsCore : List Token → Raw → List Token → Type 0 where
    Bare : (ts : List Token) (f : Raw) (rest : List Token) → IsAtom ts f rest → IsCore ts f rest
    InBrackets : (ts : List Token) (f : Raw) (rest : List Token) → IsFormula ts f (t.CloseRound ∷ rest) → IsCore (t.OpenRound ∷ ts) f rest
