-- What the proofs on meanings share.
use Rattle.std.proofs.Common.{◌≡◌, ℕ, List, [], ◌∷◌, refl, ap, append-nil}
use Rattle.std.proofs.lemmas.Grind.{common_steps}
use Rattle.dk_syntax.specs.declared.Formula.{Formula}
use Rattle.dk_syntax.specs.declared.Formula.TheVariants as formula
use Rattle.tptp_formulas.specs.Meaning.{exists, for_all, wrapped}
use Rattle.tptp_formulas.specs.Scopes.{Names}
use Rattle.tptp_formulas.specs.declared.raw.Prefix.{Prefix}
use Rattle.tptp_formulas.specs.declared.raw.Prefix.TheVariants.{Exists, ForAll, Not}
use Rattle.tptp_formulas.specs.declared.raw.Raw.{the_lemmas as of_raw}
use Rattle.tptp_formulas.specs.declared.raw.RawTerm.{the_lemmas as of_raw_terms}

-- one more quantifier may stand inside or outside
pub for_all-All : (names : Names) (f : Formula) → for_all names (formula.All f) ≡ formula.All (for_all names f)
for_all-All [] f = refl
for_all-All (name ∷ names) f = ap (λ (g : Formula). formula.All g) (for_all-All names f)

pub exists-Ex : (names : Names) (f : Formula) → exists names (formula.Ex f) ≡ formula.Ex (exists names f)
exists-Ex [] f = refl
exists-Ex (name ∷ names) f = ap (λ (g : Formula). formula.Ex g) (exists-Ex names f)

-- the first prefix stands around what the others make
pub wrapped-first : (p : Prefix) (ps : List Prefix) (f : Formula) → wrapped (p ∷ []) (wrapped ps f) ≡ wrapped (p ∷ ps) f
wrapped-first Not ps f = refl
wrapped-first (ForAll names) ps f = refl
wrapped-first (Exists names) ps f = refl

pub ruleset meaning_steps = (common_steps, append-nil, for_all-All, exists-Ex, wrapped-first, of_raw, of_raw_terms)
