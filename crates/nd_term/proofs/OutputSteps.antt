-- Ground terms and what they are in proof terms, kind by kind.
use Rattle.std.proofs.Common.{◌≡◌, ℕ, Bool, true, false, cond, List, [], ◌∷◌, map, refl, sym, ap, ap₂, ◌∙◌, rules}
use Rattle.std.proofs.lemmas.Grind.{common_steps}
use Rattle.std.specs.List.{list_any}
use Rattle.dk_syntax.specs.Symbols.{same_symbol}
use Rattle.dk_syntax.specs.declared.SymKey.{SymKey}
use Rattle.dk_syntax.specs.declared.Term.{Term, fold-Term, the_lemmas as of_terms}
use Rattle.dk_syntax.specs.declared.Term.TheVariants.{Any, App, Var}
use Rattle.dk_syntax.proofs.ListLaws.{ForEach}
use Rattle.dk_syntax.proofs.TermLaws.{term_induction}
use Rattle.lp_term.specs.Identifiers.{identifier_of}
use Rattle.lp_term.specs.LambdaPi.{Term as TheoryTerm, app}
use Rattle.lp_term.specs.Names.{any_name}
use Rattle.nd_term.specs.Formulas.{GroundTerm, eigenvariable, ground_applied, ground_symbol}
use Rattle.nd_term.specs.Instances.{applied_to}
use Rattle.nd_term.specs.Outputs.{Output, ground_applied_each, ground_of, output, output_at, output_of_application, place_of}
use Rattle.nd_term.specs.Translation.{translated_ground}
use Rattle.nd_term.proofs.BuildSteps.{build_steps}

pub ground-Var : (k : ℕ) → ground_of (Var k) ≡ eigenvariable k
ground-Var k = search (rules, of_terms)

pub ground-App : (head : SymKey) (args : List Term) → ground_of (App head args) ≡ ground_applied_each (ground_symbol (identifier_of head)) (map ground_of args)
ground-App head args = search (rules, of_terms)

pub ground-Any : ground_of Any ≡ ground_symbol any_name
ground-Any = search (rules, of_terms)

module _ (symbols : List SymKey) (order : List Term) where
  abbrev whole : Term → Output
  whole = fold-Term Output (output_at symbols order)

  whole-App : (head : SymKey) (args : List Term) → whole (App head args)
      ≡ record { term = App head (map (λ one. one.term) (map whole args)); ground = output_of_application symbols order head (map whole args) }
  whole-App head args = search (rules, of_terms)

  whole-Var : (k : ℕ) → whole (Var k) ≡ record { term = Var k; ground = ground_symbol any_name }
  whole-Var k = search (rules, of_terms)

  whole-Any : whole Any ≡ record { term = Any; ground = ground_symbol any_name }
  whole-Any = search (rules, of_terms)

  terms_kept : (args : List Term) → ForEach (λ t. (whole t).term ≡ t) args → map (λ one. one.term) (map whole args) ≡ args
  terms_kept [] h = refl
  terms_kept (t ∷ rest) h = ap₂ (λ u us. u ∷ us) h.0 (terms_kept rest h.1)

  -- the term is kept
  kept : (t : Term) → (whole t).term ≡ t
  kept =
      term_induction (λ t. (whole t).term ≡ t)
      (λ k. ap (λ one. one.term) (whole-Var k))
      (λ head args h. ap (λ one. one.term) (whole-App head args) ∙ ap (App head) (terms_kept args h))
      (ap (λ one. one.term) whole-Any)

  all_kept : (args : List Term) → map (λ one. one.term) (map whole args) ≡ args
  all_kept [] = refl
  all_kept (t ∷ rest) = ap₂ (λ u us. u ∷ us) (kept t) (all_kept rest)

  all_outputs : (args : List Term) → map (λ one. one.ground) (map whole args) ≡ map (output symbols order) args
  all_outputs [] = refl
  all_outputs (t ∷ rest) = ap (λ us. (whole t).ground ∷ us) (all_outputs rest)

  pub output-Var : (k : ℕ) → output symbols order (Var k) ≡ ground_symbol any_name
  output-Var k = ap (λ one. one.ground) (whole-Var k)

  pub output-Any : output symbols order Any ≡ ground_symbol any_name
  output-Any = ap (λ one. one.ground) whole-Any

  pub output-App : (head : SymKey) (args : List Term) → output symbols order (App head args)
      ≡ cond (list_any (same_symbol head) symbols) (eigenvariable (place_of order (App head args)))
      (ground_applied_each (ground_symbol (identifier_of head)) (map (output symbols order) args))
  output-App head args =
      ap (λ one. one.ground) (whole-App head args)
      ∙ ap₂ (λ ts us. cond (list_any (same_symbol head) symbols) (eigenvariable (place_of order (App head ts))) (ground_applied_each (ground_symbol (identifier_of head)) us))
      (all_kept args)
      (all_outputs args)

-- the output of a Skolem term, and of another one
pub output_skolem : (symbols : List SymKey) (order : List Term) (t : Term) (head : SymKey) (args : List Term) → t ≡ App head args → list_any (same_symbol head) symbols ≡ true
    → output symbols order t ≡ eigenvariable (place_of order t)
output_skolem symbols order t head args e h =
    ap (output symbols order) e
    ∙ output-App symbols order head args
    ∙ ap (λ b. cond b (eigenvariable (place_of order (App head args))) (ground_applied_each (ground_symbol (identifier_of head)) (map (output symbols order) args))) h
    ∙ ap (λ u. eigenvariable (place_of order u)) (sym e)

pub output_plain : (symbols : List SymKey) (order : List Term) (t : Term) (head : SymKey) (args : List Term) → t ≡ App head args → list_any (same_symbol head) symbols ≡ false
    → output symbols order t ≡ ground_applied_each (ground_symbol (identifier_of head)) (map (output symbols order) args)
output_plain symbols order t head args e h =
    ap (output symbols order) e
    ∙ output-App symbols order head args
    ∙ ap (λ b. cond b (eigenvariable (place_of order (App head args))) (ground_applied_each (ground_symbol (identifier_of head)) (map (output symbols order) args))) h

-- the translation of an application is that of the head at those of the arguments
pub translated_each : (x : ℕ → TheoryTerm) (f : Term → GroundTerm) (h : GroundTerm) (args : List Term)
    → translated_ground x (ground_applied_each h (map f args)) ≡ applied_to (translated_ground x h) (map (λ u. translated_ground x (f u)) args)
translated_each x f h [] = refl
translated_each x f h (t ∷ rest) = translated_each x f (ground_applied h (f t)) rest

pub ruleset output_steps = (build_steps, ground-Var, ground-App, ground-Any, output-Var, output-Any, output-App, translated_each)
