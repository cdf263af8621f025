-- The nine rules of conversion are those of the prelude's commands, and its declared types.
use Rattle.std.proofs.Common.{◌≡◌, ◌∙◌, ℕ, List, [], ◌∷◌, ◌++◌, codes, refl, sym, ap, ap₂, subst, cond, nat_eq, inl, inr, ◌⊎◌}
use Rattle.lp_term.specs.LambdaPi.{Term, app, pat, pi, shift, type, var}
use Rattle.lp_term.specs.Names.{i_name, prop_name, prf_name, imp_name, and_name, or_name, iff_name, not_name, top_name, bot_name, all_name, ex_name, any_name, em_name}
use Rattle.lp_term.specs.Connectives.{arrow, individuals, propositions, proof_of, imp, and, or, iff, neg, top, bot, all, ex}
use Rattle.lp_term.specs.Conversion.{Rewrites, rewrite_all, rewrite_and, rewrite_bot, rewrite_ex, rewrite_iff, rewrite_imp, rewrite_not, rewrite_or, rewrite_top}
use Rattle.lp_term.specs.Typing.{Declaration, Declares}
use Rattle.lp_term.specs.View.{fill, term_of}
use Rattle.lp_term.specs.Signature.{declaration, IsInstanceIn, prelude_declarations, Extends}
use Rattle.lp_term.specs.Prelude.{prelude, unary_type, binary_type, quantifier_type, each_proposition, each_witness, of_two, of_family, goal, ◌⇒◌, rules, excluded_middle, p as pattern_p, q as pattern_q, f as pattern_f, bot as program_bot, top as program_top}
use Rattle.lp_term.specs.Terms as program
use Rattle.lp_term.specs.declared.lp.Lp.{Sort, Sym, Var, App, Pi}
use Rattle.lp_term.proofs.SubstitutionLaws.{shift_rename}
use Rattle.lp_term.proofs.ViewLaws.{view_Sort, view_Sym, view_Var, view_Pat, view_App, view_Pi, view_arrow}

-- ---- the types that the prelude declares

unary : term_of unary_type ≡ arrow propositions propositions
unary = simp (view_arrow, view_Sym) refl

binary : term_of binary_type ≡ arrow propositions (arrow propositions propositions)
binary = simp (view_arrow, view_Sym) refl

quantifier : term_of quantifier_type ≡ arrow (arrow individuals propositions) propositions
quantifier = simp (view_arrow, view_Sym) refl

family : term_of (program.propositions ⇒ Sort) ≡ arrow propositions type
family = simp (view_arrow, view_Sym, view_Sort) refl

middle_type : term_of (each_proposition (program.proof_of (program.apply_two (Sym (codes "or")) (Var 0) (program.negation_of (Var 0))))) ≡ pi propositions (proof_of (or (var 0) (neg (var 0))))
middle_type = simp (view_Pi, view_App, view_Sym, view_Var) refl

-- the declarations of the prelude, spelled out
abbrev pub spelled : List Declaration
spelled =
    declaration i_name type
    ∷ declaration prop_name type
    ∷ declaration prf_name (arrow propositions type)
    ∷ declaration imp_name (arrow propositions (arrow propositions propositions))
    ∷ declaration and_name (arrow propositions (arrow propositions propositions))
    ∷ declaration or_name (arrow propositions (arrow propositions propositions))
    ∷ declaration iff_name (arrow propositions (arrow propositions propositions))
    ∷ declaration not_name (arrow propositions propositions)
    ∷ declaration top_name propositions
    ∷ declaration bot_name propositions
    ∷ declaration all_name (arrow (arrow individuals propositions) propositions)
    ∷ declaration ex_name (arrow (arrow individuals propositions) propositions)
    ∷ declaration any_name individuals
    ∷ declaration em_name (pi propositions (proof_of (or (var 0) (neg (var 0)))))
    ∷ []

before : {l m : List Declaration} {a b : Term} (name : List ℕ) → a ≡ b → l ≡ m → declaration name a ∷ l ≡ declaration name b ∷ m
before name e h = ap₂ (λ x l. declaration name x ∷ l) e h

pub prelude_is_spelled : prelude_declarations ≡ spelled
prelude_is_spelled =
    before i_name view_Sort
    (before prop_name view_Sort
    (before prf_name family
    (before imp_name binary
    (before and_name binary
    (before or_name binary
    (before iff_name binary
    (before not_name unary
    (before top_name (view_Sym prop_name)
    (before bot_name (view_Sym prop_name)
    (before all_name quantifier
    (before ex_name quantifier
    (before any_name (view_Sym i_name)
    (before em_name middle_type refl)))))))))))))

-- a signature that has the prelude declares what is spelled out
pub of_prelude : {sig : List Declaration} {s : List ℕ} {a : Term} → Extends sig → Declares spelled s a → Declares sig s a
of_prelude {s = s} {a = a} e h = e.declares s a (subst (λ l. Declares l s a) (sym prelude_is_spelled) h)

-- ---- the sides of the nine rules

left_imp : term_of (program.proof_of (of_two (codes "imp"))) ≡ proof_of (imp (pat (codes "p")) (pat (codes "q")))
left_imp = simp (view_arrow, view_Pi, view_App, view_Sym, view_Pat, view_Var) refl

right_imp : term_of (program.proof_of pattern_p ⇒ program.proof_of pattern_q) ≡ arrow (proof_of (pat (codes "p"))) (proof_of (pat (codes "q")))
right_imp = simp (view_arrow, view_Pi, view_App, view_Sym, view_Pat, view_Var) refl

left_not : term_of (program.proof_of (program.negation_of pattern_p)) ≡ proof_of (neg (pat (codes "p")))
left_not = simp (view_arrow, view_Pi, view_App, view_Sym, view_Pat, view_Var) refl

right_not : term_of (program.proof_of pattern_p ⇒ program.proof_of program_bot) ≡ arrow (proof_of (pat (codes "p"))) (proof_of bot)
right_not = simp (view_arrow, view_Pi, view_App, view_Sym, view_Pat, view_Var) refl

left_all : term_of (program.proof_of (of_family (codes "all"))) ≡ proof_of (all (pat (codes "f")))
left_all = simp (view_arrow, view_Pi, view_App, view_Sym, view_Pat, view_Var) refl

right_all : term_of (Pi program.individuals (program.proof_of (App pattern_f (Var 0)))) ≡ pi individuals (proof_of (app (pat (codes "f")) (var 0)))
right_all = simp (view_arrow, view_Pi, view_App, view_Sym, view_Pat, view_Var) refl

left_bot : term_of (program.proof_of program_bot) ≡ proof_of bot
left_bot = simp (view_arrow, view_Pi, view_App, view_Sym, view_Pat, view_Var) refl

right_bot : term_of (each_proposition goal) ≡ pi propositions (proof_of (var 0))
right_bot = simp (view_arrow, view_Pi, view_App, view_Sym, view_Pat, view_Var) refl

left_top : term_of (program.proof_of program_top) ≡ proof_of top
left_top = simp (view_arrow, view_Pi, view_App, view_Sym, view_Pat, view_Var) refl

right_top : term_of (each_proposition (goal ⇒ goal)) ≡ pi propositions (arrow (proof_of (var 0)) (proof_of (var 0)))
right_top = simp (view_arrow, view_Pi, view_App, view_Sym, view_Pat, view_Var) refl

left_and : term_of (program.proof_of (of_two (codes "and"))) ≡ proof_of (and (pat (codes "p")) (pat (codes "q")))
left_and = simp (view_arrow, view_Pi, view_App, view_Sym, view_Pat, view_Var) refl

right_and : term_of (each_proposition ((program.proof_of pattern_p ⇒ program.proof_of pattern_q ⇒ goal) ⇒ goal)) ≡ pi propositions (arrow (arrow (proof_of (pat (codes "p"))) (arrow (proof_of (pat (codes "q"))) (proof_of (var 0)))) (proof_of (var 0)))
right_and = simp (view_arrow, view_Pi, view_App, view_Sym, view_Pat, view_Var) refl

left_or : term_of (program.proof_of (of_two (codes "or"))) ≡ proof_of (or (pat (codes "p")) (pat (codes "q")))
left_or = simp (view_arrow, view_Pi, view_App, view_Sym, view_Pat, view_Var) refl

right_or : term_of (each_proposition ((program.proof_of pattern_p ⇒ goal) ⇒ (program.proof_of pattern_q ⇒ goal) ⇒ goal)) ≡ pi propositions (arrow (arrow (proof_of (pat (codes "p"))) (proof_of (var 0))) (arrow (arrow (proof_of (pat (codes "q"))) (proof_of (var 0))) (proof_of (var 0))))
right_or = simp (view_arrow, view_Pi, view_App, view_Sym, view_Pat, view_Var) refl

left_ex : term_of (program.proof_of (of_family (codes "ex"))) ≡ proof_of (ex (pat (codes "f")))
left_ex = simp (view_arrow, view_Pi, view_App, view_Sym, view_Pat, view_Var) refl

right_ex : term_of (each_proposition (each_witness ⇒ goal)) ≡ pi propositions (arrow (pi individuals (arrow (proof_of (app (pat (codes "f")) (var 0))) (proof_of (var 1)))) (proof_of (var 0)))
right_ex = simp (view_arrow, view_Pi, view_App, view_Sym, view_Pat, view_Var) refl

left_iff : term_of (program.proof_of (of_two (codes "iff"))) ≡ proof_of (iff (pat (codes "p")) (pat (codes "q")))
left_iff = simp (view_arrow, view_Pi, view_App, view_Sym, view_Pat, view_Var) refl

right_iff : term_of (each_proposition (((program.proof_of pattern_p ⇒ program.proof_of pattern_q) ⇒ (program.proof_of pattern_q ⇒ program.proof_of pattern_p) ⇒ goal) ⇒ goal)) ≡ pi propositions (arrow (arrow (arrow (proof_of (pat (codes "p"))) (proof_of (pat (codes "q")))) (arrow (arrow (proof_of (pat (codes "q"))) (proof_of (pat (codes "p")))) (proof_of (var 0)))) (proof_of (var 0)))
right_iff = simp (view_arrow, view_Pi, view_App, view_Sym, view_Pat, view_Var) refl

-- the equivalence's rule puts its sides below a third binder
filled_iff : (s : List ℕ → Term) → fill s (pi propositions (arrow (arrow (arrow (proof_of (pat (codes "p"))) (proof_of (pat (codes "q")))) (arrow (arrow (proof_of (pat (codes "q"))) (proof_of (pat (codes "p")))) (proof_of (var 0)))) (proof_of (var 0)))) ≡ pi propositions (arrow (arrow (arrow (proof_of (shift (s (codes "p")))) (proof_of (shift (s (codes "q"))))) (arrow (arrow (proof_of (shift (s (codes "q")))) (proof_of (shift (s (codes "p"))))) (proof_of (var 0)))) (proof_of (var 0)))
filled_iff s = simp shift_rename refl

-- the first term for the pattern variables `p` and `f`, the second for `q`
two : Term → Term → List ℕ → Term
two p q [] = q
two p q (letter ∷ rest) = cond (nat_eq letter 113) q p

-- ---- the rules are those of the commands

-- past the thirteen constants
past_constants : {t u : Term} → IsInstanceIn (rules ++ excluded_middle ∷ []) t u → IsInstanceIn prelude t u
past_constants h = inr (inr (inr (inr (inr (inr (inr (inr (inr (inr (inr (inr (inr h))))))))))))

pub rewrites_in : {t u : Term} → Rewrites t u → IsInstanceIn prelude t u
unfolding two
rewrites_in (rewrite_imp p q) = past_constants (inl (two p q, ap (fill (two p q)) (sym left_imp), ap (fill (two p q)) (sym right_imp)))
rewrites_in (rewrite_not p) = past_constants (inr (inl (two p p, ap (fill (two p p)) (sym left_not), ap (fill (two p p)) (sym right_not))))
rewrites_in (rewrite_all f) = past_constants (inr (inr (inl (two f f, ap (fill (two f f)) (sym left_all), ap (fill (two f f)) (sym right_all)))))
rewrites_in rewrite_bot = past_constants (inr (inr (inr (inl (pat, ap (fill (pat)) (sym left_bot), ap (fill (pat)) (sym right_bot))))))
rewrites_in rewrite_top = past_constants (inr (inr (inr (inr (inl (pat, ap (fill (pat)) (sym left_top), ap (fill (pat)) (sym right_top)))))))
rewrites_in (rewrite_and p q) = past_constants (inr (inr (inr (inr (inr (inl (two p q, ap (fill (two p q)) (sym left_and), ap (fill (two p q)) (sym right_and))))))))
rewrites_in (rewrite_or p q) = past_constants (inr (inr (inr (inr (inr (inr (inl (two p q, ap (fill (two p q)) (sym left_or), ap (fill (two p q)) (sym right_or)))))))))
rewrites_in (rewrite_ex f) = past_constants (inr (inr (inr (inr (inr (inr (inr (inl (two f f, ap (fill (two f f)) (sym left_ex), ap (fill (two f f)) (sym right_ex))))))))))
rewrites_in (rewrite_iff p q) = past_constants (inr (inr (inr (inr (inr (inr (inr (inr (inl (two p q, ap (fill (two p q)) (sym left_iff), sym (filled_iff (two p q)) ∙ ap (fill (two p q)) (sym right_iff)))))))))))

-- past one constant
after : {A : Type 0} → ⊥ ⊎ A → A
after (inl h) = absurd h
after (inr h) = h

after_constants : {t u : Term} → IsInstanceIn prelude t u → IsInstanceIn (rules ++ excluded_middle ∷ []) t u
after_constants h = after (after (after (after (after (after (after (after (after (after (after (after (after h))))))))))))

at_sides : {l r t u : Term} → t ≡ l → u ≡ r → Rewrites l r → Rewrites t u
at_sides e h k = rw (e, h) k

one_of : {t u : Term} → IsInstanceIn (rules ++ excluded_middle ∷ []) t u → Rewrites t u
one_of (inl (s, e, h)) = at_sides (e ∙ ap (fill s) left_imp) (h ∙ ap (fill s) right_imp) (rewrite_imp (s (codes "p")) (s (codes "q")))
one_of (inr (inl (s, e, h))) = at_sides (e ∙ ap (fill s) left_not) (h ∙ ap (fill s) right_not) (rewrite_not (s (codes "p")))
one_of (inr (inr (inl (s, e, h)))) = at_sides (e ∙ ap (fill s) left_all) (h ∙ ap (fill s) right_all) (rewrite_all (s (codes "f")))
one_of (inr (inr (inr (inl (s, e, h))))) = at_sides (e ∙ ap (fill s) left_bot) (h ∙ ap (fill s) right_bot) (rewrite_bot)
one_of (inr (inr (inr (inr (inl (s, e, h)))))) = at_sides (e ∙ ap (fill s) left_top) (h ∙ ap (fill s) right_top) (rewrite_top)
one_of (inr (inr (inr (inr (inr (inl (s, e, h))))))) = at_sides (e ∙ ap (fill s) left_and) (h ∙ ap (fill s) right_and) (rewrite_and (s (codes "p")) (s (codes "q")))
one_of (inr (inr (inr (inr (inr (inr (inl (s, e, h)))))))) = at_sides (e ∙ ap (fill s) left_or) (h ∙ ap (fill s) right_or) (rewrite_or (s (codes "p")) (s (codes "q")))
one_of (inr (inr (inr (inr (inr (inr (inr (inl (s, e, h))))))))) = at_sides (e ∙ ap (fill s) left_ex) (h ∙ ap (fill s) right_ex) (rewrite_ex (s (codes "f")))
one_of (inr (inr (inr (inr (inr (inr (inr (inr (inl (s, e, h)))))))))) = at_sides (e ∙ ap (fill s) left_iff) (h ∙ ap (fill s) right_iff ∙ filled_iff s) (rewrite_iff (s (codes "p")) (s (codes "q")))
one_of (inr (inr (inr (inr (inr (inr (inr (inr (inr (inl none)))))))))) = absurd none
one_of (inr (inr (inr (inr (inr (inr (inr (inr (inr (inr none)))))))))) = absurd none

pub in_rewrites : {t u : Term} → IsInstanceIn prelude t u → Rewrites t u
in_rewrites h = one_of (after_constants h)
