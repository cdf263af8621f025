-- The origins of the symbols that the steps introduce, and what the order of Skolem terms rests on.
use Rattle.std.specs.Prelude.{◌≡◌, ℕ, suc, false, List, [], ◌∷◌, ◌++◌, length, slice_get, Contains, Some}
use Rattle.std.specs.List.{All}
use Rattle.dk_syntax.specs.Symbols.{first_symbols}
use Rattle.dk_syntax.specs.declared.symbol.Kind.TheVariants.{Function}
use Rattle.dk_syntax.specs.declared.symbol.SymKey.{SymKey}
use Rattle.ground_instances.specs.Keys.{Judged}
use Rattle.plan.specs.Maps.{IsMapOf}
use Rattle.skolem_order.specs.Rooted.{AreRooted}
use Rattle.skolem_order.specs.declared.origins.Origin.{Origin}
use Rattle.step_check.specs.Freshness.{introduced}
use Rattle.step_check.specs.Steps.{stands_in}
use Rattle.step_check.specs.declared.verdict.Verdict.{Verdict}
use Rattle.step_skolem.specs.Images.{entry}
use Rattle.step_skolem.specs.declared.map.SkEntry.{SkEntry}

-- ---- origins of steps

-- the origin is that of a symbol which the step introduces: the step's map, with the entry of the symbol
pub record IsOrigin (judged : Judged) (i : ℕ) (symbol : SymKey) (origin : Origin) : Type 0 where
  pub named : origin.symbol ≡ symbol
  pub args : List ℕ
  pub maps : IsMapOf judged i origin.leaf origin.sign origin.map.entries
  pub own : Contains origin.map.entries (entry origin.ex symbol args)

-- they are the origins of symbols which the step introduces, in order
abbrev pub AreOriginsOf : Judged → ℕ → List SymKey → List Origin → Type 0
AreOriginsOf judged i [] [] = Unit {0}
AreOriginsOf judged i [] (origin ∷ origins) = ⊥
AreOriginsOf judged i (symbol ∷ symbols) [] = ⊥
AreOriginsOf judged i (symbol ∷ symbols) (origin ∷ origins) = IsOrigin judged i symbol origin × AreOriginsOf judged i symbols origins

-- they are the origins of what steps with these verdicts introduce, in order, after so many steps
abbrev pub AreOriginsFrom : Judged → ℕ → List Verdict → List Origin → Type 0
AreOriginsFrom judged before [] origins = origins ≡ []
AreOriginsFrom judged before (verdict ∷ verdicts) origins =
    (here : List Origin) × (later : List Origin) × (origins ≡ here ++ later) × AreOriginsOf judged (suc before) (introduced verdict) here
    × AreOriginsFrom judged (suc before) verdicts later

-- there is one origin for each symbol that a step introduces, in the order of the steps and of their symbols
abbrev pub AreOrigins : Judged → List Origin → Type 0
AreOrigins judged origins = AreOriginsFrom judged 0 judged.verdicts origins

-- ---- what holds of them

-- no two origins have one symbol
abbrev pub AreDistinct : List Origin → Type 0
AreDistinct origins = (j k : ℕ) (one other : Origin) → slice_get origins j ≡ Some one → slice_get origins k ≡ Some other → one.symbol ≡ other.symbol → j ≡ k

-- no leaf has a symbol of the origins
abbrev pub AreNew : List Origin → Type 0
AreNew origins = (one other : Origin) → Contains origins one → Contains origins other → stands_in (first_symbols one.leaf) other.symbol ≡ false

-- the symbol is a function's and has as many arguments as the entry gives it
pub record IsFitEntry (one : SkEntry) : Type 0 where
  pub kind : one.symbol.kind ≡ Function
  pub arity : one.symbol.arity ≡ length one.args

-- so it is of each entry of the origins' maps
abbrev pub AreFit : List Origin → Type 0
AreFit origins = All (λ origin. All IsFitEntry origin.map.entries) origins

-- what the order of Skolem terms and the proof terms rest on
pub record AreRight (origins : List Origin) : Type 0 where
  pub rooted : AreRooted origins
  pub once : AreDistinct origins
  pub new : AreNew origins
