-- The declared type of goal is the theory's, and a type.
use Rattle.std.proofs.Common.{◌≡◌, List, [], ◌∷◌, ◌++◌, map, Option, Some, None, sym, ap, ap₂, subst, ◌∙◌}
use Rattle.dk_syntax.specs.Lists.{Every, every_cons, every_nil}
use Rattle.dk_syntax.specs.Problems.{formula_of, formulas_of}
use Rattle.dk_syntax.specs.WellFormed.{IsClosed}
use Rattle.dk_syntax.specs.declared.Formula.{Formula}
use Rattle.dk_syntax.specs.declared.Named.{Named}
use Rattle.dk_syntax.specs.declared.Problem.{Problem}
use Rattle.lp_term.specs.Connectives.{arrow, proof_of}
use Rattle.lp_term.specs.LambdaPi.{type}
use Rattle.lp_term.specs.Names.{bot_name}
use Rattle.lp_term.specs.Prelude.{prelude}
use Rattle.lp_term.specs.Problems.{conclusion_of, constants_of, goal_type_of, implication_of}
use Rattle.lp_term.specs.Signature.{declarations}
use Rattle.lp_term.specs.Terms as program
use Rattle.lp_term.specs.Translation.{translated}
use Rattle.lp_term.specs.Typing.{HasType}
use Rattle.lp_term.specs.View.{term_of}
use Rattle.lp_term.specs.declared.Lp.{Lp}
use Rattle.lp_term.proofs.TranslationLaws.{view_proof}
use Rattle.lp_term.proofs.ViewLaws.{view_Sym, view_arrow}
use Rattle.nd_term.specs.Formulas.{Formula as TheoryFormula}
use Rattle.nd_term.specs.Translation.{sentence}
use Rattle.nd_term.specs.Views.{theory_formula}
use Rattle.nd_term.proofs.FormulaViews.{closed_sentence}
use Rattle.assemble.specs.Body.{goal_type as theory_goal_type}
use Rattle.assemble.specs.Problem.{problem_signature, theory_conclusion, theory_formulas, theory_symbol}
use Rattle.assemble.specs.ProblemLaws.{IsProper}
use Rattle.assemble.proofs.BodyTypes.{goal_prop}
use Rattle.assemble.proofs.ProblemLaws.{signature_extends}
use Rattle.assemble.proofs.SignatureViews.{view_signature}
use Rattle.assemble.proofs.SymbolLaws.{problem_over}

-- the translation is that of a closed formula
abbrev pub IsSentence : Formula → Type 0
IsSentence f = term_of (translated f) ≡ sentence (theory_formula f)

-- ---- the type of goal

pub view_implication : (hypotheses : List Named) (c : Lp) (f : TheoryFormula) → Every (λ h. IsSentence h.formula) hypotheses → term_of c ≡ sentence f
    → term_of (implication_of hypotheses (program.proof_of c)) ≡ theory_goal_type (theory_formulas hypotheses) f
view_implication [] c f every_nil e = view_proof c ∙ ap proof_of e
view_implication (h ∷ rest) c f (every_cons i is) e =
    view_arrow (program.proof_of (translated h.formula)) (implication_of rest (program.proof_of c)) ∙ ap₂ arrow (view_proof (translated h.formula) ∙ ap proof_of i) (view_implication rest c f is e)

-- ---- the type of goal of a problem with closed formulas

closed_parts : (hypotheses : List Named) (others : List Formula) → Every IsClosed (map (λ named. named.formula) hypotheses ++ others)
    → Every (λ h. IsSentence h.formula) hypotheses × Every IsClosed others
closed_parts [] others all = (every_nil, all)
closed_parts (h ∷ rest) others (every_cons i is) = let more = closed_parts rest others is in (every_cons (closed_sentence h.formula i) more.0, more.1)

closed_conclusion : (conjecture : Option Named) → Every IsClosed (formula_of conjecture) → term_of (conclusion_of conjecture) ≡ sentence (theory_conclusion conjecture)
closed_conclusion None every_nil = view_Sym bot_name
closed_conclusion (Some named) (every_cons i is) = closed_sentence named.formula i

pub view_closed_goal : (problem : Problem) → Every IsClosed (formulas_of problem)
    → term_of (goal_type_of problem) ≡ theory_goal_type (theory_formulas problem.hyps) (theory_conclusion problem.conjecture)
view_closed_goal problem all =
    let parts = closed_parts problem.hyps (formula_of problem.conjecture) all in
    view_implication problem.hyps (conclusion_of problem.conjecture) (theory_conclusion problem.conjecture) parts.0 (closed_conclusion problem.conjecture parts.1)

-- ---- its type

pub goal_sorted : (problem : Problem) → IsProper problem → HasType (declarations (prelude ++ constants_of problem.symbols)) [] (term_of (goal_type_of problem)) type
goal_sorted problem is =
    let sig = problem_signature problem.symbols in
    let over = problem_over problem is.formed is.symbols in
    let sorted : HasType sig [] (theory_goal_type (theory_formulas problem.hyps) (theory_conclusion problem.conjecture)) type =
    goal_prop sig (signature_extends (map theory_symbol problem.symbols)) over.0 over.1 in
    subst (λ s. HasType s [] (term_of (goal_type_of problem)) type) (sym (view_signature problem.symbols))
    (subst (λ a. HasType sig [] a type) (sym (view_closed_goal problem is.closed)) sorted)
