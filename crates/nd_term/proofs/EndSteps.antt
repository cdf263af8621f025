-- Consumers of atoms and of truth.
use Rattle.std.proofs.Common.{◌≡◌, ◌-◌, ◌<◌, ℕ, Bool, true, false, List, refl, sym, ap, ◌∙◌}
use Rattle.dk_syntax.specs.declared.Formula.TheVariants.{Atom}
use Rattle.dk_syntax.specs.declared.SymKey.{SymKey}
use Rattle.dk_syntax.specs.declared.Term.{Term}
use Rattle.lp_term.specs.LambdaPi.{Term as TheoryTerm, app, var}
use Rattle.lp_term.specs.ProofTerms.{top_term}
use Rattle.nd_term.specs.Formulas.{FormulaTerm, atomic, truth}
use Rattle.nd_term.specs.Frames.{Frame, consumed}
use Rattle.nd_term.specs.Places.{shift_times}
use Rattle.nd_term.specs.ThinTrees.{ThinTree, below_not, both, choice, eigenvariable_at, leaf, left, no_literal, right, vacuous}
use Rattle.nd_term.specs.TreeKinds.{is_empty, is_leaf}
use Rattle.nd_term.specs.Views.{theory_formula}
use Rattle.nd_term.proofs.ConsumerSteps.{consumes_atom_at, consumes_denied_atom_at, consumes_denied_truth, consumes_no_literal, consumes_truth, stray_atom, stray_denied_atom, stray_denied_truth}
use Rattle.nd_term.proofs.FormulaViews.{theory-Atom}
use Rattle.nd_term.proofs.LiftSteps.{lift_steps}
use Rattle.std.proofs.lemmas.Grind.{common_steps}

leaf_of : (th : ThinTree) → is_leaf th ≡ true → th ≡ leaf
leaf_of no_literal e = absurd cc
leaf_of leaf e = refl
leaf_of (below_not a) e = absurd cc
leaf_of (left a) e = absurd cc
leaf_of (right a) e = absurd cc
leaf_of (both a b) e = absurd cc
leaf_of (choice u a) e = absurd cc
leaf_of (eigenvariable_at k a) e = absurd cc
leaf_of (vacuous a) e = absurd cc

stray_atoms : (z : Frame) (p : FormulaTerm) (b : Bool) (th : ThinTree) (l : ℕ) (t : TheoryTerm) → is_leaf th ≡ false → consumed z (atomic p) b th l t ≡ t
stray_atoms z p true th l t e = stray_atom z p th l t e
stray_atoms z p false th l t e = stray_denied_atom z p th l t e

-- a tree of another kind, or no literal's variable left
pub atom_stray : (z : Frame) (p : SymKey) (args : List Term) (b : Bool) (th : ThinTree) (l : ℕ) (t : TheoryTerm) → is_leaf th ≡ false → consumed z (theory_formula (Atom p args)) b th l t ≡ t
atom_stray z p args b th l t e = ap (λ f. consumed z f b th l t) (theory-Atom p args) ∙ stray_atoms z _ b th l t e

none_at : (z : Frame) (q : FormulaTerm) (b : Bool) (th : ThinTree) (t : TheoryTerm) → is_leaf th ≡ true → consumed z (atomic q) b th 0 t ≡ t
none_at z q b th t e = ap (λ y. consumed z (atomic q) b y 0 t) (leaf_of th e) ∙ consumes_no_literal z q b t

asserted_at : (z : Frame) (q : FormulaTerm) (th : ThinTree) (l : ℕ) (t : TheoryTerm) → is_leaf th ≡ true → 0 < l → consumed z (atomic q) true th l t ≡ app (shift_times z.extra (var (l - 1))) t
asserted_at z q th l t e h = ap (λ y. consumed z (atomic q) true y l t) (leaf_of th e) ∙ consumes_atom_at z q l t h

denied_at : (z : Frame) (q : FormulaTerm) (th : ThinTree) (l : ℕ) (t : TheoryTerm) → is_leaf th ≡ true → 0 < l → consumed z (atomic q) false th l t ≡ app t (shift_times z.extra (var (l - 1)))
denied_at z q th l t e h = ap (λ y. consumed z (atomic q) false y l t) (leaf_of th e) ∙ consumes_denied_atom_at z q l t h

pub atom_none : (z : Frame) (p : SymKey) (args : List Term) (b : Bool) (th : ThinTree) (t : TheoryTerm) → is_leaf th ≡ true → consumed z (theory_formula (Atom p args)) b th 0 t ≡ t
atom_none z p args b th t e = ap (λ f. consumed z f b th 0 t) (theory-Atom p args) ∙ none_at z _ b th t e

pub atom_asserted : (z : Frame) (p : SymKey) (args : List Term) (th : ThinTree) (l : ℕ) (t : TheoryTerm) → is_leaf th ≡ true → 0 < l
    → consumed z (theory_formula (Atom p args)) true th l t ≡ app (shift_times z.extra (var (l - 1))) t
atom_asserted z p args th l t e h = ap (λ f. consumed z f true th l t) (theory-Atom p args) ∙ asserted_at z _ th l t e h

pub atom_denied : (z : Frame) (p : SymKey) (args : List Term) (th : ThinTree) (l : ℕ) (t : TheoryTerm) → is_leaf th ≡ true → 0 < l
    → consumed z (theory_formula (Atom p args)) false th l t ≡ app t (shift_times z.extra (var (l - 1)))
atom_denied z p args th l t e h = ap (λ f. consumed z f false th l t) (theory-Atom p args) ∙ denied_at z _ th l t e h

-- the two answers at an atom with a literal's variable
pub asserted_answer : (z : Frame) (p : SymKey) (args : List Term) (b : Bool) (th : ThinTree) (l : ℕ) (t n r : TheoryTerm) → b ≡ true → is_leaf th ≡ true → 0 < l → n ≡ shift_times z.extra (var (l - 1)) → r ≡ app n t
    → r ≡ consumed z (theory_formula (Atom p args)) b th l t
asserted_answer z p args b th l t n r i j h e f =
    f ∙ ap (λ u. app u t) e ∙ sym (atom_asserted z p args th l t j h) ∙ ap (λ s. consumed z (theory_formula (Atom p args)) s th l t) (sym i)

pub denied_answer : (z : Frame) (p : SymKey) (args : List Term) (b : Bool) (th : ThinTree) (l : ℕ) (t n r : TheoryTerm) → b ≡ false → is_leaf th ≡ true → 0 < l → n ≡ shift_times z.extra (var (l - 1)) → r ≡ app t n
    → r ≡ consumed z (theory_formula (Atom p args)) b th l t
denied_answer z p args b th l t n r i j h e f =
    f ∙ ap (λ u. app t u) e ∙ sym (atom_denied z p args th l t j h) ∙ ap (λ s. consumed z (theory_formula (Atom p args)) s th l t) (sym i)

empty_of : (th : ThinTree) → is_empty th ≡ true → th ≡ no_literal
empty_of no_literal e = refl
empty_of leaf e = absurd cc
empty_of (below_not a) e = absurd cc
empty_of (left a) e = absurd cc
empty_of (right a) e = absurd cc
empty_of (both a b) e = absurd cc
empty_of (choice u a) e = absurd cc
empty_of (eigenvariable_at k a) e = absurd cc
empty_of (vacuous a) e = absurd cc

pub truth_denied : (z : Frame) (th : ThinTree) (l : ℕ) (t : TheoryTerm) → is_empty th ≡ true → consumed z truth false th l t ≡ app t top_term
truth_denied z th l t e = ap (λ y. consumed z truth false y l t) (empty_of th e) ∙ consumes_denied_truth z l t

pub ruleset end_steps = (lift_steps)

pub ruleset atom_steps = (common_steps, atom_stray, atom_none, atom_asserted, atom_denied)

pub ruleset truth_steps = (common_steps, consumes_truth, truth_denied, stray_denied_truth)
