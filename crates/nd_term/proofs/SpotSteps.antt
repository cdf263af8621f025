-- Values put into translations, and translations at a spot.
use Rattle.std.proofs.Common.{◌≡◌, ◌+◌, ◌-◌, ◌<◌, ◌≤◌, ℕ, zero, suc, cond, nat_lt, Bool, true, false, List, [], ◌∷◌, refl, sym, ap, ap₂, ◌∙◌, arith}
use Rattle.std.specs.Prelude.{get_or}
use Rattle.std.proofs.lemmas.Bool.Decides.{nat_tests}
use Rattle.dk_syntax.specs.declared.Formula.{Formula}
use Rattle.lp_term.specs.LambdaPi.{Term, shift, substitute, under_binder, var}
use Rattle.lp_term.specs.Translation.{translated}
use Rattle.lp_term.specs.View.{term_of}
use Rattle.lp_term.proofs.SubstitutionLaws.{ext}
use Rattle.nd_term.specs.Formulas.{GroundTerm}
use Rattle.nd_term.specs.Places.{eigenvariables, lifted_by, shift_times}
use Rattle.nd_term.specs.Frames.{Frame, named, said, said_under}
use Rattle.nd_term.specs.Spots.{frame_of, value_of, value_under, values_of}
use Rattle.nd_term.specs.Translation.{translated as theory_translated, translated_ground}
use Rattle.nd_term.specs.Views.{theory_formula}
use Rattle.nd_term.specs.declared.spot.Spot.{Spot}
use Rattle.nd_term.specs.declared.values.Value.{Value}
use Rattle.nd_term.specs.declared.values.Value.TheVariants.{Any}
use Rattle.nd_term.proofs.FormulaViews.{view_formula}
use Rattle.nd_term.proofs.LiftSteps.{lift_steps}
use Rattle.nd_term.proofs.TranslationLaws.{translated_ground_shift, translated_substitute}

-- ---- the values of variables

values_get : (vs : List Value) (n : ℕ) → values_of vs n ≡ value_of (get_or vs n Any)
values_get [] n = refl
values_get (v ∷ vs) zero = refl
values_get (v ∷ vs) (suc n) = values_get vs n

-- ---- ground terms further in

pub named_times : (x : ℕ → Term) (k : ℕ) (u : GroundTerm) → shift_times k (translated_ground x u) ≡ translated_ground (lifted_by k x) u
named_times x zero u = refl
named_times x (suc k) u = ap shift (named_times x k u) ∙ translated_ground_shift (lifted_by k x) u

pub named_there : (z : Frame) (u : GroundTerm) → named z u ≡ shift_times z.extra (translated_ground z.eigens u)
unfolding named
named_there z u = sym (named_times z.eigens z.extra u)

-- ---- what becomes of a variable

below_bound : (n bound : ℕ) (t : Term) → n < bound → cond (nat_lt n bound) (var n) t ≡ var n
below_bound n bound t h = grind (arith, nat_tests)

past_bound : (n bound : ℕ) (t : Term) → bound ≤ n → cond (nat_lt n bound) (var n) t ≡ t
past_bound n bound t h = grind (arith, nat_tests)

pub under_bound : (z : Frame) (n bound : ℕ) → n < bound → value_under z bound n ≡ var n
unfolding value_under
under_bound z n bound h = below_bound n bound (shift_times (z.extra + bound) (translated_ground z.eigens (z.values (n - bound)))) h

pub over_bound : (z : Frame) (n bound : ℕ) → bound ≤ n → value_under z bound n ≡ shift_times (z.extra + bound) (translated_ground z.eigens (z.values (n - bound)))
unfolding value_under
over_bound z n bound h = past_bound n bound (shift_times (z.extra + bound) (translated_ground z.eigens (z.values (n - bound)))) h

-- the same at a spot
pub over_spot : (spot : Spot) (n bound : ℕ) → bound ≤ n → value_under (frame_of spot) bound n
    ≡ shift_times (spot.extra + bound) (translated_ground (eigenvariables spot.place.now) (value_of (get_or spot.values.now (n - bound) Any)))
unfolding frame_of
over_spot spot n bound h =
    over_bound (frame_of spot) n bound h
    ∙ ap (λ u. shift_times (spot.extra + bound) (translated_ground (eigenvariables spot.place.now) u)) (values_get spot.values.now (n - bound))

first_under : (bound : ℕ) (t : Term) → var 0 ≡ cond (nat_lt 0 (suc bound)) (var 0) t
first_under bound t = grind (arith, nat_tests)

shift_cond : (n bound : ℕ) (t u : Term) → u ≡ shift t → shift (cond (nat_lt n bound) (var n) t) ≡ cond (nat_lt (suc n) (suc bound)) (var (suc n)) u
shift_cond n bound t u e = grind (arith, nat_tests)

next_value : (z : Frame) (bound n : ℕ) → shift_times (z.extra + suc bound) (translated_ground z.eigens (z.values (suc n - suc bound))) ≡ shift (shift_times (z.extra + bound) (translated_ground z.eigens (z.values (n - bound))))
next_value z bound n =
    let e : z.extra + suc bound ≡ suc (z.extra + bound) = omega arith in
    let i : suc n - suc bound ≡ n - bound = omega arith in
    ap₂ (λ k m. shift_times k (translated_ground z.eigens (z.values m))) e i

value_deeper_at : (z : Frame) (bound n : ℕ) → under_binder (value_under z bound) n ≡ value_under z (suc bound) n
unfolding value_under
value_deeper_at z bound zero = first_under bound (shift_times (z.extra + suc bound) (translated_ground z.eigens (z.values (0 - suc bound))))
value_deeper_at z bound (suc n) =
    shift_cond n bound (shift_times (z.extra + bound) (translated_ground z.eigens (z.values (n - bound)))) (shift_times (z.extra + suc bound) (translated_ground z.eigens (z.values (suc n - suc bound))))
    (next_value z bound n)

-- one more binder
pub value_deeper : (z : Frame) (bound : ℕ) → value_under z (suc bound) ≡ under_binder (value_under z bound)
value_deeper z bound = sym (ext (value_deeper_at z bound))

pub value_deeper-one : (z : Frame) (bound : ℕ) → value_under z (bound + 1) ≡ under_binder (value_under z bound)
value_deeper-one z bound = let e : bound + 1 ≡ suc bound = omega arith in ap (value_under z) e ∙ value_deeper z bound

-- ---- translations at a spot

value_free : (z : Frame) (n : ℕ) → value_under z 0 n ≡ translated_ground (lifted_by z.extra z.eigens) (z.values n)
value_free z n =
    let e : z.extra + 0 ≡ z.extra = omega arith in
    let i : n - 0 ≡ n = omega arith in
    over_bound z n 0 (omega arith)
    ∙ ap₂ (λ k m. shift_times k (translated_ground z.eigens (z.values m))) e i
    ∙ named_times z.eigens z.extra (z.values n)

pub said_there : (z : Frame) (f : Formula) → substitute (value_under z 0) (term_of (translated f)) ≡ said z (theory_formula f)
unfolding said
said_there z f =
    ap (substitute (value_under z 0)) (view_formula f)
    ∙ translated_substitute (value_under z 0) (λ n. var n) (theory_formula f)
    ∙ ap (λ v. theory_translated v (theory_formula f)) (ext (value_free z))

pub said_under_there : (z : Frame) (f : Formula) → substitute (value_under z 1) (term_of (translated f)) ≡ said_under z (theory_formula f)
unfolding said_under
said_under_there z f =
    ap (substitute (value_under z 1)) (view_formula f)
    ∙ translated_substitute (value_under z 1) (λ n. var n) (theory_formula f)
    ∙ ap (λ v. theory_translated v (theory_formula f)) (value_deeper z 0 ∙ ap under_binder (ext (value_free z)))

pub ruleset spot_steps = (lift_steps, said_there, said_under_there, named_there)

pub ruleset substitution_steps = (lift_steps, under_bound, over_spot, value_deeper-one)
