-- Laws of instances of literals.
use Rattle.std.proofs.Common.{◌≡◌, ℕ, true, List, [], ◌∷◌, map, refl, sym, ap, ap₂, ◌∙◌, rules}
use Rattle.std.proofs.lemmas.Bool.{or_left, or_right}
use Rattle.dk_syntax.proofs.ListLaws.{ForEach, for_each}
use Rattle.dk_syntax.proofs.SubstitutionLaws.{after, agree, substituted-Any, substituted-App, substituted-Var}
use Rattle.dk_syntax.proofs.TermLaws.{term_induction}
use Rattle.dk_syntax.specs.Terms.{any_true, has_variable, substituted, instance}
use Rattle.dk_syntax.specs.declared.Literal.{Literal}
use Rattle.dk_syntax.specs.declared.SymKey.{SymKey}
use Rattle.dk_syntax.specs.declared.Term.{Any, App, Term, Var, the_lemmas as of_terms}
use Rattle.normal_form.specs.Renaming.{renamed, renamed_literal}

abbrev pub with_args : Literal → List Term → Literal
with_args l args = record { positive = l.positive; pred = l.pred; args = args }

list_after : (s q : ℕ → Term) (args : List Term) → map (substituted s) (map (substituted q) args) ≡ map (substituted (λ k. substituted s (q k))) args
list_after s q [] = refl
list_after s q (x ∷ xs) = ap₂ (λ y ys. y ∷ ys) (after s q x) (list_after s q xs)

-- one substitution after the other
pub instance_after : (s q : ℕ → Term) (l : Literal) → instance s (instance q l) ≡ instance (λ k. substituted s (q k)) l
instance_after s q l = ap (with_args l) (list_after s q l.args)

list_agree : (s q : ℕ → Term) (args : List Term) → ((k : ℕ) → any_true (map (has_variable k) args) ≡ true → s k ≡ q k) → map (substituted s) args ≡ map (substituted q) args
list_agree s q [] h = refl
list_agree s q (x ∷ xs) h =
    ap₂ (λ y ys. y ∷ ys) (agree s q x (λ k i. h k (or_left (has_variable k x) (any_true (map (has_variable k) xs)) i)))
    (list_agree s q xs (λ k i. h k (or_right (has_variable k x) (any_true (map (has_variable k) xs)) i)))

-- substitutions that agree on the literal's variables
pub instance_agree : (s q : ℕ → Term) (l : Literal) → ((k : ℕ) → any_true (map (has_variable k) l.args) ≡ true → s k ≡ q k) → instance s l ≡ instance q l
instance_agree s q l h = ap (with_args l) (list_agree s q l.args h)

-- ---- renamed variables

renamed-Var : (p : ℕ → ℕ) (n : ℕ) → renamed p (Var n) ≡ Var (p n)
renamed-Var p n = search (rules, of_terms)

renamed-App : (p : ℕ → ℕ) (f : SymKey) (args : List Term) → renamed p (App f args) ≡ App f (map (renamed p) args)
renamed-App p f args = search (rules, of_terms)

renamed-Any : (p : ℕ → ℕ) → renamed p Any ≡ Any
renamed-Any p = search (rules, of_terms)

abbrev Renames : (ℕ → Term) → (ℕ → ℕ) → Term → Type 0
Renames s p t = substituted s (renamed p t) ≡ substituted (λ n. s (p n)) t

args_renamed : (s : ℕ → Term) (p : ℕ → ℕ) (args : List Term) → ForEach (Renames s p) args → map (substituted s) (map (renamed p) args) ≡ map (substituted (λ n. s (p n))) args
args_renamed s p [] h = refl
args_renamed s p (x ∷ xs) h = ap₂ (λ y ys. y ∷ ys) h.0 (args_renamed s p xs h.1)

term_renamed : (s : ℕ → Term) (p : ℕ → ℕ) (t : Term) → Renames s p t
term_renamed s p = term_induction (Renames s p)
    (λ n. ap (substituted s) (renamed-Var p n) ∙ substituted-Var s (p n) ∙ sym (substituted-Var (λ k. s (p k)) n))
    (λ f args h.
    ap (substituted s) (renamed-App p f args) ∙ substituted-App s f (map (renamed p) args) ∙ ap (App f) (args_renamed s p args h)
    ∙ sym (substituted-App (λ k. s (p k)) f args))
    (ap (substituted s) (renamed-Any p) ∙ substituted-Any s ∙ sym (substituted-Any (λ k. s (p k))))

pub instance_renamed : (s : ℕ → Term) (p : ℕ → ℕ) (l : Literal) → instance s (renamed_literal p l) ≡ instance (λ n. s (p n)) l
instance_renamed s p l = ap (with_args l) (args_renamed s p l.args (for_each (Renames s p) (term_renamed s p) l.args))
