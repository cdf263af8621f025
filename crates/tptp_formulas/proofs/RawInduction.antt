-- Induction over terms and formulas as they are written.
use Rattle.std.proofs.Common.{ℕ, List, [], ◌∷◌, map, subst}
use Rattle.dk_syntax.proofs.ListLaws.{ForEach, for_each}
use Rattle.tptp_formulas.specs.declared.raw.Comparison.{Comparison}
use Rattle.tptp_formulas.specs.declared.raw.Connective.{Connective}
use Rattle.tptp_formulas.specs.declared.raw.Link.{Link}
use Rattle.tptp_formulas.specs.declared.raw.Prefix.{Prefix}
use Rattle.tptp_formulas.specs.declared.raw.Raw.{Raw, Raw-F, ind-Raw, map-Raw, roll-Raw}
use Rattle.tptp_formulas.specs.declared.raw.Raw.TheOpen as layer
use Rattle.tptp_formulas.specs.declared.raw.Raw.TheVariants as raw
use Rattle.tptp_formulas.specs.declared.raw.RawTerm.{RawTerm, RawTerm-F, ind-RawTerm, map-RawTerm, roll-RawTerm}
use Rattle.tptp_formulas.specs.declared.raw.RawTerm.TheOpen as term_layer
use Rattle.tptp_formulas.specs.declared.raw.RawTerm.TheVariants as term

facts : {A : Type 0} (P : A → Type 0) (known : List ((x : A) × P x)) → ForEach P (map (λ one. one.0) known)
facts P [] = tt
facts P (one ∷ rest) = (one.1, facts P rest)

module _ (P : RawTerm → Type 0) (at_variable : (name : List ℕ) → P (term.Variable name)) (at_apply : (name : List ℕ) (args : List RawTerm) → ForEach P args → P (term.Apply name args))
    (at_number : (name : List ℕ) → P (term.Number name)) (at_distinct : (name : List ℕ) → P (term.Distinct name)) (at_dollar : (name : List ℕ) (args : List RawTerm) → ForEach P args → P (term.Dollar name args)) where
  term_at_layer : (y : RawTerm-F ((x : RawTerm) × P x)) → P (roll-RawTerm (map-RawTerm ((x : RawTerm) × P x) RawTerm (λ one. one.0) y))
  term_at_layer (term_layer.Variable name) = rw (term.rolls-Variable name) (at_variable name)
  term_at_layer (term_layer.Apply name known) = rw (term.rolls-Apply name (map (λ one. one.0) known)) (at_apply name (map (λ one. one.0) known) (facts P known))
  term_at_layer (term_layer.Number name) = rw (term.rolls-Number name) (at_number name)
  term_at_layer (term_layer.Distinct name) = rw (term.rolls-Distinct name) (at_distinct name)
  term_at_layer (term_layer.Dollar name known) = rw (term.rolls-Dollar name (map (λ one. one.0) known)) (at_dollar name (map (λ one. one.0) known) (facts P known))

  pub raw_term_induction : (x : RawTerm) → P x
  raw_term_induction = ind-RawTerm P (λ x y e. subst (λ z. P (roll-RawTerm z)) e (term_at_layer y))

  pub raw_terms_induction : (xs : List RawTerm) → ForEach P xs
  raw_terms_induction = for_each P raw_term_induction

module _ (P : Raw → Type 0) (at_atom : (name : List ℕ) (args : List RawTerm) → P (raw.Atom name args)) (at_dollar : (name : List ℕ) (args : List RawTerm) → P (raw.Dollar name args))
    (at_equation : (c : Comparison) (a b : RawTerm) → P (raw.Equation c a b)) (at_unit : (ps : List Prefix) (f : Raw) → P f → P (raw.Unit ps f))
    (at_binary : (c : Connective) (a b : Raw) → P a → P b → P (raw.Binary c a b)) (at_chain : (l : Link) (f : Raw) (fs : List Raw) → P f → ForEach P fs → P (raw.Chain l f fs)) where
  at_layer : (y : Raw-F ((x : Raw) × P x)) → P (roll-Raw (map-Raw ((x : Raw) × P x) Raw (λ one. one.0) y))
  at_layer (layer.Atom name args) = rw (raw.rolls-Atom name args) (at_atom name args)
  at_layer (layer.Dollar name args) = rw (raw.rolls-Dollar name args) (at_dollar name args)
  at_layer (layer.Equation c a b) = rw (raw.rolls-Equation c a b) (at_equation c a b)
  at_layer (layer.Unit ps f) = rw (raw.rolls-Unit ps f.0) (at_unit ps f.0 f.1)
  at_layer (layer.Binary c a b) = rw (raw.rolls-Binary c a.0 b.0) (at_binary c a.0 b.0 a.1 b.1)
  at_layer (layer.Chain l f known) = rw (raw.rolls-Chain l f.0 (map (λ one. one.0) known)) (at_chain l f.0 (map (λ one. one.0) known) f.1 (facts P known))

  pub raw_induction : (f : Raw) → P f
  raw_induction = ind-Raw P (λ x y e. subst (λ z. P (roll-Raw z)) e (at_layer y))
