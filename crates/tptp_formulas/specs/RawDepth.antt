-- How deep the formula is that a formula as it is written means, counted before it is built.
use Rattle.std.specs.Prelude.{ℕ, ◌+◌, List, [], ◌∷◌, length, map, max}
use Rattle.dk_syntax.specs.Depth.{greatest}
use Rattle.tptp_formulas.specs.declared.raw.Connective.{Connective}
use Rattle.tptp_formulas.specs.declared.raw.Connective.TheVariants as connective
use Rattle.tptp_formulas.specs.declared.raw.Prefix.{Prefix}
use Rattle.tptp_formulas.specs.declared.raw.Prefix.TheVariants.{Exists, ForAll, Not}
use Rattle.tptp_formulas.specs.declared.raw.Raw.{Raw, Raw-F, fold-Raw}
use Rattle.tptp_formulas.specs.declared.raw.Raw.TheOpen as raw
use Rattle.tptp_formulas.specs.declared.raw.RawTerm.{RawTerm, RawTerm-F, fold-RawTerm}
use Rattle.tptp_formulas.specs.declared.raw.RawTerm.TheOpen as term

-- a term's depth, from the depths of its arguments
abbrev pub raw_term_depth_at : RawTerm-F ℕ → ℕ
raw_term_depth_at (term.Variable name) = 1
raw_term_depth_at (term.Apply name args) = 1 + greatest args
raw_term_depth_at (term.Number name) = 1
raw_term_depth_at (term.Distinct name) = 1
raw_term_depth_at (term.Dollar name args) = 1

abbrev pub raw_term_depth : RawTerm → ℕ
raw_term_depth = fold-RawTerm ℕ raw_term_depth_at

-- each negation and each variable of a quantifier adds one
abbrev pub prefix_depth : List Prefix → ℕ
prefix_depth [] = 0
prefix_depth (Not ∷ ps) = 1 + prefix_depth ps
prefix_depth (ForAll names ∷ ps) = length names + prefix_depth ps
prefix_depth (Exists names ∷ ps) = length names + prefix_depth ps

-- a connective adds one to its deeper side, and one more where it means a negation
abbrev pub connective_depth : Connective → ℕ → ℕ → ℕ
connective_depth connective.Implies a b = 1 + max a b
connective_depth connective.ImpliedBy a b = 1 + max a b
connective_depth connective.Iff a b = 1 + max a b
connective_depth connective.Differs a b = 2 + max a b
connective_depth connective.Nor a b = 2 + max a b
connective_depth connective.Nand a b = 2 + max a b

-- a chain nests to the left
abbrev pub chain_depth : ℕ → List ℕ → ℕ
chain_depth d [] = d
chain_depth d (e ∷ es) = chain_depth (1 + max d e) es

-- a formula's depth, from the depths of its parts
abbrev pub raw_depth_at : Raw-F ℕ → ℕ
raw_depth_at (raw.Atom name args) = 1 + greatest (map raw_term_depth args)
raw_depth_at (raw.Dollar name args) = 1
raw_depth_at (raw.Equation comparison a b) = 1
raw_depth_at (raw.Unit prefixes inner) = prefix_depth prefixes + inner
raw_depth_at (raw.Binary c a b) = connective_depth c a b
raw_depth_at (raw.Chain link first others) = chain_depth first others

abbrev pub raw_depth : Raw → ℕ
raw_depth = fold-Raw ℕ raw_depth_at
