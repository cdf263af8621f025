-- Depths that are counted up to the greatest `u64`.
use Rattle.std.proofs.Common.{◌≡◌, ℕ, ◌+◌, List, [], ◌∷◌, max, arith}
use Rattle.std.proofs.lemmas.Grind.{common_steps}
use Rattle.dk_syntax.specs.Depth.{capped}
use Rattle.tptp_formulas.specs.RawDepth.{chain_depth}
use Rattle.tptp_formulas.specs.declared.raw.Raw.{the_lemmas as of_raw}
use Rattle.tptp_formulas.specs.declared.raw.RawTerm.{the_lemmas as of_raw_terms}

-- a chain's depth, as far as it is counted, depends on the first depth as far as that is counted
chain-capped : (a b : ℕ) (es : List ℕ) → capped a ≡ capped b → capped (chain_depth a es) ≡ capped (chain_depth b es)
chain-capped a b [] same = same
chain-capped a b (e ∷ es) same = chain-capped (1 + max a e) (1 + max b e) es (omega (arith, same))

-- one step along a chain
pub chain_step : (d e : ℕ) (es : List ℕ) → capped (chain_depth (capped (max d (capped e) + 1)) es) ≡ capped (chain_depth (1 + max d e) es)
chain_step d e es = chain-capped (capped (max d (capped e) + 1)) (1 + max d e) es (omega arith)

pub chain_first : (d : ℕ) (es : List ℕ) → capped (chain_depth (capped d) es) ≡ capped (chain_depth d es)
chain_first d es = chain-capped (capped d) d es (omega arith)

pub ruleset depth_steps = (common_steps, of_raw, of_raw_terms, chain_step, chain_first)
