-- Reading gives exactly what the grammar has, and at most one formula is written at a place.
use Rattle.std.proofs.Common.{◌≡◌, List, Bool, true, false, ◌&&◌, if◌then◌else◌, IfOk, length, Option, Some, None, Result, Ok, Err, refl, sym, ap, subst, ◌∙◌, arith}
use Rattle.tptp_tokens.specs.declared.Token.{Token}
use Rattle.tptp_formulas.specs.declared.body.Lang.{Lang}
use Rattle.tptp_formulas.specs.declared.fault.ReadError.{ReadError}
use Rattle.tptp_formulas.specs.declared.raw.Raw.{Raw}
use Rattle.tptp_formulas.specs.Grammar.{IsFormula}
use Rattle.tptp_formulas.specs.Reading.{◌>>=◌, Gives, accepted, formula_at, reading}
use Rattle.tptp_formulas.specs.Written.{Written, ends, fits}
use Rattle.tptp_formulas.proofs.CompleteReading.{formula_only}
use Rattle.tptp_formulas.proofs.SoundReading.{Sound, formula_sound}

accepted_sound : (lang : Lang) (ts : List Token) (f : Raw) (rest : List Token) (b c : Bool) → IsFormula ts f rest → ends rest ≡ b → fits lang f ≡ c → Sound (Written lang) ts (if b && c then Some (f, rest) else None)
accepted_sound lang ts f rest true true h e k = record { formula = h; ends = e; fits = k }
accepted_sound lang ts f rest true false h e k = tt
accepted_sound lang ts f rest false c h e k = tt

step_sound : (lang : Lang) (ts : List Token) (o : Option (Raw × List Token)) → Sound IsFormula ts o → Sound (Written lang) ts (o >>= accepted lang)
unfolding accepted
step_sound lang ts None h = tt
step_sound lang ts (Some x) h = accepted_sound lang ts x.0 x.1 (ends x.1) (fits lang x.0) h refl refl

pub reading_written : (lang : Lang) (ts : List Token) → Sound (Written lang) ts (reading lang ts)
unfolding reading
reading_written lang ts = step_sound lang ts (formula_at (length ts) ts) (formula_sound (length ts) ts)

-- what is read is written there
pub reading_sound : (lang : Lang) (ts : List Token) (f : Raw) (rest : List Token) → reading lang ts ≡ Some (f, rest) → Written lang ts f rest
reading_sound lang ts f rest e = subst (λ (o : Option (Raw × List Token)). Sound (Written lang) ts o) e (reading_written lang ts)

-- what is written there is read
pub reading_only : (lang : Lang) (ts : List Token) (f : Raw) (rest : List Token) → Written lang ts f rest → reading lang ts ≡ Some (f, rest)
unfolding reading accepted
reading_only lang ts f rest w = rw (formula_only w.formula w.ends (length ts) (omega arith), w.ends, w.fits) refl

some_is : {A : Type 0} (x y : A) → Some x ≡ Some y → x ≡ y
some_is x y e = cc

-- at most one formula is written there
pub one_formula : (lang : Lang) (ts : List Token) (f g : Raw) (rest after : List Token) → Written lang ts f rest → Written lang ts g after → (f ≡ g) × (rest ≡ after)
one_formula lang ts f g rest after h k =
    let both = some_is {A = Raw × List Token} (f, rest) (g, after) (sym (reading_only lang ts f rest h) ∙ reading_only lang ts g after k)
    in (ap (λ (x : Raw × List Token). x.0) both, ap (λ (x : Raw × List Token). x.1) both)

-- ---- what was returned

pub given_written : {X : Type 0} (view : X → Raw × List Token) (lang : Lang) (ts : List Token) (r : Result X ReadError) → Gives view r (reading lang ts) → IfOk r (λ x. Written lang ts (view x).0 (view x).1)
given_written view lang ts (Ok x) e = reading_sound lang ts (view x).0 (view x).1 e
given_written view lang ts (Err e) h = tt

pub given_only : {X : Type 0} (view : X → Raw × List Token) (lang : Lang) (ts : List Token) (r : Result X ReadError) → Gives view r (reading lang ts) → (f : Raw) (rest : List Token) → Written lang ts f rest → let read : Raw × List Token = (f, rest) in Gives view r (Some read)
given_only view lang ts r e f rest w = subst (λ (o : Option (Raw × List Token)). Gives view r o) (reading_only lang ts f rest w) e
