-- The consumers of the program's formulas and trees, one lemma for each arm.
use Rattle.std.proofs.Common.{◌≡◌, ◌-◌, ℕ, Bool, true, false, refl, sym, ap, ap₂, ◌∙◌}
use Rattle.dk_syntax.specs.declared.Formula.{Formula}
use Rattle.dk_syntax.specs.declared.Term.{Term as GroundInput}
use Rattle.lp_term.specs.Connectives.{bot, imp, individuals, proof_of}
use Rattle.lp_term.specs.LambdaPi.{Term, app, lam, shift, var}
use Rattle.lp_term.specs.Names.{any_name}
use Rattle.lp_term.specs.ProofTerms.{ex_term, iff_term, left_term, pair_term, right_term}
use Rattle.nd_term.specs.Formulas.{Formula as TheoryFormula, GroundTerm, conjunction, disjunction, eigenvariable, equivalence, existential, ground_symbol, implication, negation, universal}
use Rattle.nd_term.specs.Frames.{Frame, consumed, deeper, named, said, said_under, with_value}
use Rattle.nd_term.specs.Outputs.{ground_of}
use Rattle.nd_term.specs.Places.{shift_times}
use Rattle.nd_term.specs.ThinTrees.{ThinTree}
use Rattle.nd_term.specs.TreeKinds.{is_both, is_choice, is_not, is_side, is_witness, leaves}
use Rattle.nd_term.specs.Trees.{tree_of}
use Rattle.nd_term.specs.Views.{theory_formula}
use Rattle.nd_term.specs.declared.tree.Tree.{Tree}
use Rattle.nd_term.specs.declared.tree.Tree.TheVariants.{BelowNot, Both, Choice, Eigenvariable, Left, Right, Vacuous}
use Rattle.nd_term.proofs.ConsumerSteps.{consumes_all, consumes_and_left, consumes_and_right, consumes_denied_all, consumes_denied_and, consumes_denied_ex, consumes_denied_iff_left, consumes_denied_iff_right, consumes_denied_imp_left, consumes_denied_imp_right, consumes_denied_not, consumes_denied_or_left, consumes_denied_or_right, consumes_denied_vacuous_all, consumes_ex, consumes_iff_left, consumes_iff_right, consumes_imp, consumes_not, consumes_or, consumes_vacuous_ex}
use Rattle.nd_term.proofs.TreeSteps.{tree-BelowNot, tree-Both, tree-Choice, tree-Eigenvariable, tree-Left, tree-Right, tree-Vacuous}

-- the consumer of a formula of the program, by that of the theory
pub at_formula : (z : Frame) (one : Formula) (f : TheoryFormula) (p q : Bool) (th : ThinTree) (l : ℕ) (t r : Term) → theory_formula one ≡ f → p ≡ q → r ≡ consumed z f q th l t
    → r ≡ consumed z (theory_formula one) p th l t
at_formula z one f p q th l t r e i h = h ∙ sym (ap₂ (λ g b. consumed z g b th l t) e i)

-- ---- negations

pub not_asserted : (z : Frame) (f : TheoryFormula) (p : Bool) (tree a s : Tree) (l : ℕ) (t r : Term) → p ≡ true → tree ≡ BelowNot a → s ≡ a → r ≡ consumed z f false (tree_of s) l t
    → r ≡ consumed z (negation f) p (tree_of tree) l t
not_asserted z f p tree a s l t r e0 e1 e2 e3 = let k0 = consumes_not z f (tree_of a) l t in let k1 = tree-BelowNot a in cc

pub not_denied : (z : Frame) (f : TheoryFormula) (y : Frame) (p : Bool) (tree a s : Tree) (l m : ℕ) (t v i u r : Term) → p ≡ false → tree ≡ BelowNot a → s ≡ a → y ≡ deeper z → m ≡ l → v ≡ var 0 → i ≡ consumed y f true (tree_of s) m v → u ≡ lam (proof_of (said z f)) i → r ≡ app t u
    → r ≡ consumed z (negation f) p (tree_of tree) l t
not_denied z f y p tree a s l m t v i u r e0 e1 e2 e3 e4 e5 e6 e7 e8 = let k0 = consumes_denied_not z f (tree_of a) l t in let k1 = tree-BelowNot a in cc

-- ---- conjunctions

pub and_denied : (z : Frame) (f h : TheoryFormula) (p : Bool) (tree a b s q : Tree) (l : ℕ) (t d r : Term) → p ≡ false → tree ≡ Both a b → s ≡ a → q ≡ b → d ≡ lam (proof_of (said (deeper z) h)) (app (shift (shift t)) (pair_term (said (deeper (deeper z)) f) (said (deeper (deeper z)) h) (var 1) (var 0))) → r ≡ consumed z f false (tree_of s) l (lam (proof_of (said z f)) (consumed (deeper z) h false (tree_of q) (l - leaves (tree_of s)) d))
    → r ≡ consumed z (conjunction f h) p (tree_of tree) l t
and_denied z f h p tree a b s q l t d r e0 e1 e2 e3 e4 e5 = let k0 = consumes_denied_and z f h (tree_of a) (tree_of b) l t in let k1 = tree-Both a b in cc

pub and_left : (z : Frame) (f h : TheoryFormula) (y : Frame) (p : Bool) (tree a s : Tree) (l m : ℕ) (t v i u r : Term) → p ≡ true → tree ≡ Left a → s ≡ a → y ≡ deeper (deeper z) → m ≡ l → v ≡ var 1 → i ≡ consumed y f true (tree_of s) m v → u ≡ lam (proof_of (said z f)) (lam (proof_of (said (deeper z) h)) i) → r ≡ app (app t bot) u
    → r ≡ consumed z (conjunction f h) p (tree_of tree) l t
and_left z f h y p tree a s l m t v i u r e0 e1 e2 e3 e4 e5 e6 e7 e8 = let k0 = consumes_and_left z f h (tree_of a) l t in let k1 = tree-Left a in cc

pub and_right : (z : Frame) (f h : TheoryFormula) (y : Frame) (p : Bool) (tree a s : Tree) (l m : ℕ) (t v i u r : Term) → p ≡ true → tree ≡ Right a → s ≡ a → y ≡ deeper (deeper z) → m ≡ l → v ≡ var 0 → i ≡ consumed y h true (tree_of s) m v → u ≡ lam (proof_of (said z f)) (lam (proof_of (said (deeper z) h)) i) → r ≡ app (app t bot) u
    → r ≡ consumed z (conjunction f h) p (tree_of tree) l t
and_right z f h y p tree a s l m t v i u r e0 e1 e2 e3 e4 e5 e6 e7 e8 = let k0 = consumes_and_right z f h (tree_of a) l t in let k1 = tree-Right a in cc

-- ---- disjunctions

pub or_asserted : (z : Frame) (f h : TheoryFormula) (y w : Frame) (p : Bool) (tree a b s q o : Tree) (l m n k : ℕ) (t v x i j r : Term) → p ≡ true → tree ≡ Both a b → s ≡ a → q ≡ b → o ≡ a → y ≡ deeper z → m ≡ l → v ≡ var 0 → i ≡ consumed y f true (tree_of s) m v → n ≡ leaves (tree_of o) → w ≡ y → k ≡ m - n → x ≡ var 0 → j ≡ consumed w h true (tree_of q) k x → r ≡ app (app (app t bot) (lam (proof_of (said z f)) i)) (lam (proof_of (said z h)) j)
    → r ≡ consumed z (disjunction f h) p (tree_of tree) l t
or_asserted z f h y w p tree a b s q o l m n k t v x i j r e0 e1 e2 e3 e4 e5 e6 e7 e8 e9 e10 e11 e12 e13 e14 = let k0 = consumes_or z f h (tree_of a) (tree_of b) l t in let k1 = tree-Both a b in cc

pub or_left : (z : Frame) (f h : TheoryFormula) (p : Bool) (tree a s : Tree) (l : ℕ) (t d r : Term) → p ≡ false → tree ≡ Left a → s ≡ a → d ≡ lam (proof_of (said z f)) (app (shift t) (left_term (said (deeper z) f) (said (deeper z) h) (var 0))) → r ≡ consumed z f false (tree_of s) l d
    → r ≡ consumed z (disjunction f h) p (tree_of tree) l t
or_left z f h p tree a s l t d r e0 e1 e2 e3 e4 = let k0 = consumes_denied_or_left z f h (tree_of a) l t in let k1 = tree-Left a in cc

pub or_right : (z : Frame) (f h : TheoryFormula) (p : Bool) (tree a s : Tree) (l : ℕ) (t d r : Term) → p ≡ false → tree ≡ Right a → s ≡ a → d ≡ lam (proof_of (said z h)) (app (shift t) (right_term (said (deeper z) f) (said (deeper z) h) (var 0))) → r ≡ consumed z h false (tree_of s) l d
    → r ≡ consumed z (disjunction f h) p (tree_of tree) l t
or_right z f h p tree a s l t d r e0 e1 e2 e3 e4 = let k0 = consumes_denied_or_right z f h (tree_of a) l t in let k1 = tree-Right a in cc

-- ---- implications

pub imp_asserted : (z : Frame) (f h : TheoryFormula) (p : Bool) (tree a b s q : Tree) (l : ℕ) (t v u d r : Term) → p ≡ true → tree ≡ Both a b → s ≡ a → q ≡ b → u ≡ shift t → v ≡ var 0 → d ≡ app u v → r ≡ consumed z f false (tree_of s) l (lam (proof_of (said z f)) (consumed (deeper z) h true (tree_of q) (l - leaves (tree_of s)) d))
    → r ≡ consumed z (implication f h) p (tree_of tree) l t
imp_asserted z f h p tree a b s q l t v u d r e0 e1 e2 e3 e4 e5 e6 e7 = let k0 = consumes_imp z f h (tree_of a) (tree_of b) l t in let k1 = tree-Both a b in cc

pub imp_left : (z : Frame) (f h : TheoryFormula) (y : Frame) (p : Bool) (tree a s : Tree) (l m : ℕ) (t v i u r : Term) → p ≡ false → tree ≡ Left a → s ≡ a → y ≡ deeper z → m ≡ l → v ≡ var 0 → i ≡ consumed y f true (tree_of s) m v → u ≡ lam (proof_of (said z f)) (app i (said (deeper z) h)) → r ≡ app t u
    → r ≡ consumed z (implication f h) p (tree_of tree) l t
imp_left z f h y p tree a s l m t v i u r e0 e1 e2 e3 e4 e5 e6 e7 e8 = let k0 = consumes_denied_imp_left z f h (tree_of a) l t in let k1 = tree-Left a in cc

pub imp_right : (z : Frame) (f h : TheoryFormula) (p : Bool) (tree a s : Tree) (l : ℕ) (t d r : Term) → p ≡ false → tree ≡ Right a → s ≡ a → d ≡ lam (proof_of (said z h)) (app (shift t) (lam (proof_of (said (deeper z) f)) (var 1))) → r ≡ consumed z h false (tree_of s) l d
    → r ≡ consumed z (implication f h) p (tree_of tree) l t
imp_right z f h p tree a s l t d r e0 e1 e2 e3 e4 = let k0 = consumes_denied_imp_right z f h (tree_of a) l t in let k1 = tree-Right a in cc

-- ---- equivalences

pub iff_left : (z : Frame) (f h : TheoryFormula) (y : Frame) (tree c o a b s q : Tree) (l m : ℕ) (t v x d i u r : Term) → tree ≡ Left c → o ≡ c → o ≡ Both a b → s ≡ a → q ≡ b → y ≡ deeper (deeper z) → m ≡ l → v ≡ var 2 → x ≡ var 0 → d ≡ app v x → i ≡ consumed y f false (tree_of s) m (lam (proof_of (said y f)) (consumed (deeper y) h true (tree_of q) (m - leaves (tree_of s)) d)) → u ≡ lam (proof_of (imp (said z f) (said z h))) (lam (proof_of (imp (said (deeper z) h) (said (deeper z) f))) i) → r ≡ app (app t bot) u
    → r ≡ consumed z (equivalence f h) true (tree_of tree) l t
iff_left z f h y tree c o a b s q l m t v x d i u r e0 e1 e2 e3 e4 e5 e6 e7 e8 e9 e10 e11 e12 = let k0 = consumes_iff_left z f h (tree_of a) (tree_of b) l t in let k1 = tree-Left c in let k2 = tree-Both a b in cc

pub iff_right : (z : Frame) (f h : TheoryFormula) (y : Frame) (tree c o a b s q : Tree) (l m : ℕ) (t v x d i u r : Term) → tree ≡ Right c → o ≡ c → o ≡ Both a b → s ≡ a → q ≡ b → y ≡ deeper (deeper z) → m ≡ l → v ≡ var 1 → x ≡ var 0 → d ≡ app v x → i ≡ consumed y h false (tree_of s) m (lam (proof_of (said y h)) (consumed (deeper y) f true (tree_of q) (m - leaves (tree_of s)) d)) → u ≡ lam (proof_of (imp (said z f) (said z h))) (lam (proof_of (imp (said (deeper z) h) (said (deeper z) f))) i) → r ≡ app (app t bot) u
    → r ≡ consumed z (equivalence f h) true (tree_of tree) l t
iff_right z f h y tree c o a b s q l m t v x d i u r e0 e1 e2 e3 e4 e5 e6 e7 e8 e9 e10 e11 e12 = let k0 = consumes_iff_right z f h (tree_of a) (tree_of b) l t in let k1 = tree-Right c in let k2 = tree-Both a b in cc

pub iff_either : (z : Frame) (f h : TheoryFormula) (y b1 w : Frame) (tree c o a b s q g : Tree) (l m1 m n k : ℕ) (t v x i i1 j j1 u r : Term) → tree ≡ Left c → o ≡ c → o ≡ Both a b → s ≡ a → q ≡ b → g ≡ a → y ≡ deeper (deeper z) → m1 ≡ l → b1 ≡ deeper y → m ≡ m1 → v ≡ var 0 → i ≡ consumed b1 f true (tree_of s) m v → i1 ≡ lam (proof_of (said y f)) (app i (said (deeper y) h)) → n ≡ leaves (tree_of g) → w ≡ b1 → k ≡ m - n → x ≡ var 0 → j ≡ consumed w h true (tree_of q) k x → j1 ≡ lam (proof_of (said y h)) (app j (said (deeper y) f)) → u ≡ iff_term (said z f) (said z h) i1 j1 → r ≡ app t u
    → r ≡ consumed z (equivalence f h) false (tree_of tree) l t
iff_either z f h y b1 w tree c o a b s q g l m1 m n k t v x i i1 j j1 u r e0 e1 e2 e3 e4 e5 e6 e7 e8 e9 e10 e11 e12 e13 e14 e15 e16 e17 e18 e19 e20 = let k0 = consumes_denied_iff_left z f h (tree_of a) (tree_of b) l t in let k1 = tree-Left c in let k2 = tree-Both a b in cc

pub iff_neither : (z : Frame) (f h : TheoryFormula) (tree c o a b s q : Tree) (l : ℕ) (t d r : Term) → tree ≡ Right c → o ≡ c → o ≡ Both a b → s ≡ a → q ≡ b → d ≡ lam (proof_of (said (deeper z) h)) (app (shift (shift t)) (iff_term (said (deeper (deeper z)) f) (said (deeper (deeper z)) h) (lam (proof_of (said (deeper (deeper (deeper (deeper z)))) f)) (var 3)) (lam (proof_of (said (deeper (deeper (deeper (deeper z)))) h)) (var 4)))) → r ≡ consumed z f false (tree_of s) l (lam (proof_of (said z f)) (consumed (deeper z) h false (tree_of q) (l - leaves (tree_of s)) d))
    → r ≡ consumed z (equivalence f h) false (tree_of tree) l t
iff_neither z f h tree c o a b s q l t d r e0 e1 e2 e3 e4 e5 e6 = let k0 = consumes_denied_iff_right z f h (tree_of a) (tree_of b) l t in let k1 = tree-Right c in let k2 = tree-Both a b in cc

-- ---- quantifiers

pub all_chosen : (z : Frame) (f : TheoryFormula) (p : Bool) (tree a s : Tree) (x : GroundInput) (l : ℕ) (t n u r : Term) → p ≡ true → tree ≡ Choice x a → s ≡ a → n ≡ named z (ground_of x) → u ≡ app t n → r ≡ consumed (with_value (ground_of x) z) f true (tree_of s) l u
    → r ≡ consumed z (universal f) p (tree_of tree) l t
all_chosen z f p tree a s x l t n u r e0 e1 e2 e3 e4 e5 = let k0 = consumes_all z f (ground_of x) (tree_of a) l t in let k1 = tree-Choice x a in cc

pub ex_chosen : (z : Frame) (f : TheoryFormula) (p : Bool) (tree a s : Tree) (x : GroundInput) (l : ℕ) (t d r : Term) → p ≡ false → tree ≡ Choice x a → s ≡ a → d ≡ lam (proof_of (said (with_value (ground_of x) z) f)) (app (shift t) (ex_term (said_under (deeper z) f) (named (deeper z) (ground_of x)) (var 0))) → r ≡ consumed (with_value (ground_of x) z) f false (tree_of s) l d
    → r ≡ consumed z (existential f) p (tree_of tree) l t
ex_chosen z f p tree a s x l t d r e0 e1 e2 e3 e4 = let k0 = consumes_denied_ex z f (ground_of x) (tree_of a) l t in let k1 = tree-Choice x a in cc

pub all_witnessed : (z : Frame) (f : TheoryFormula) (p : Bool) (tree a s : Tree) (k l : ℕ) (t n u r : Term) → p ≡ false → tree ≡ Eigenvariable k a → s ≡ a → n ≡ shift_times z.extra (z.witnesses k) → u ≡ app n t → r ≡ consumed (with_value (eigenvariable k) z) f false (tree_of s) l u
    → r ≡ consumed z (universal f) p (tree_of tree) l t
all_witnessed z f p tree a s k l t n u r e0 e1 e2 e3 e4 e5 = let k0 = consumes_denied_all z f k (tree_of a) l t in let k1 = tree-Eigenvariable k a in cc

pub ex_witnessed : (z : Frame) (f : TheoryFormula) (p : Bool) (tree a s : Tree) (k l : ℕ) (t n u r : Term) → p ≡ true → tree ≡ Eigenvariable k a → s ≡ a → n ≡ shift_times z.extra (z.witnesses k) → u ≡ app n t → r ≡ consumed (with_value (eigenvariable k) z) f true (tree_of s) l u
    → r ≡ consumed z (existential f) p (tree_of tree) l t
ex_witnessed z f p tree a s k l t n u r e0 e1 e2 e3 e4 e5 = let k0 = consumes_ex z f k (tree_of a) l t in let k1 = tree-Eigenvariable k a in cc

pub all_vacuous : (z : Frame) (f : TheoryFormula) (p : Bool) (tree a s : Tree) (l : ℕ) (t d r : Term) → p ≡ false → tree ≡ Vacuous a → s ≡ a → d ≡ lam (proof_of (said (with_value (ground_symbol any_name) z) f)) (app (shift t) (lam individuals (var 1))) → r ≡ consumed (with_value (ground_symbol any_name) z) f false (tree_of s) l d
    → r ≡ consumed z (universal f) p (tree_of tree) l t
all_vacuous z f p tree a s l t d r e0 e1 e2 e3 e4 = let k0 = consumes_denied_vacuous_all z f (tree_of a) l t in let k1 = tree-Vacuous a in cc

pub ex_vacuous : (z : Frame) (f : TheoryFormula) (y : Frame) (p : Bool) (tree a s : Tree) (l m : ℕ) (t v i u r : Term) → p ≡ true → tree ≡ Vacuous a → s ≡ a → y ≡ deeper (deeper z) → m ≡ l → v ≡ var 0 → i ≡ consumed (with_value (ground_symbol any_name) y) f true (tree_of s) m v → u ≡ lam individuals (lam (proof_of (said_under z f)) i) → r ≡ app (app t bot) u
    → r ≡ consumed z (existential f) p (tree_of tree) l t
ex_vacuous z f y p tree a s l m t v i u r e0 e1 e2 e3 e4 e5 e6 e7 e8 = let k0 = consumes_vacuous_ex z f (tree_of a) l t in let k1 = tree-Vacuous a in cc
