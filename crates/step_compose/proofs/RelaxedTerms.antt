-- Terms for variables inside quantifiers, written at once.
use Rattle.std.proofs.Common.{append_assoc, ◌≡◌, ◌<◌, ◌≤◌, ℕ, zero, suc, ◌+◌, ◌-◌, nat_lt, List, [], ◌∷◌, ◌++◌, drop, length, map, reverse, refl, sym, ap, ap₂, ◌∙◌, arith}
use Rattle.std.proofs.lemmas.Grind.{common_steps}
use Rattle.std.proofs.lemmas.List.{append-nil, map-append, reverse-append}
use Rattle.dk_syntax.proofs.SubstitutionLaws.{after, agree, same, substituted-App, substituted-Var}
use Rattle.dk_syntax.specs.Terms.{substituted}
use Rattle.dk_syntax.specs.declared.SymKey.{SymKey}
use Rattle.dk_syntax.specs.declared.Term.{Term, the_lemmas as of_terms}
use Rattle.dk_syntax.specs.declared.Term.TheVariants.{App, Var}
use Rattle.normal_form.specs.declared.form.Nf.{the_lemmas as of_forms}
use Rattle.step_compose.specs.Composing.{symbol_in}
use Rattle.step_compose.specs.FullImages.{downward}
use Rattle.step_compose.specs.Relaxing.{downward_from, found, kept_in, terms_in}
use Rattle.step_compose.specs.declared.relaxed.Bound.{Bound}
use Rattle.step_compose.specs.declared.relaxed.Bound.TheVariants.{Kept, Replaced}
use Rattle.step_skolem.specs.Substitutions.{applied, shifted}

-- a term under c universals more
raised : ℕ → Term → Term
raised c t = substituted (λ k. Var (k + c)) t

raised_shifted : (c : ℕ) (t : Term) → raised c (shifted t) ≡ raised (c + 1) t
unfolding raised
raised_shifted c t =
    after (λ k. Var (k + c)) (λ k. Var (suc k)) t
    ∙ agree (λ k. substituted (λ j. Var (j + c)) (Var (suc k))) (λ k. Var (k + (c + 1))) t (λ k h. substituted-Var (λ j. Var (j + c)) (suc k) ∙ ap Var (omega arith))

raised_none : (t : Term) → raised 0 t ≡ t
unfolding raised
raised_none t = agree (λ k. Var (k + 0)) Var t (λ k h. ap Var (omega arith)) ∙ same t

raised_all : (c d : ℕ) → map (raised c) (map Var (downward d)) ≡ map Var (downward_from c d)
unfolding raised
raised_all c zero = refl
raised_all c (suc d) = ap₂ (λ a b. a ∷ b) (substituted-Var (λ j. Var (j + c)) d) (raised_all c d)

raised_applied : (c : ℕ) (f : SymKey) (d : ℕ) → raised c (applied f (downward d)) ≡ applied f (downward_from c d)
unfolding raised
raised_applied c f d = substituted-App (λ k. Var (k + c)) f (map Var (downward d)) ∙ ap (App f) (raised_all c d)

raised_variable : (c k : ℕ) → raised c (Var k) ≡ Var (k + c)
unfolding raised
raised_variable c k = substituted-Var (λ j. Var (j + c)) k

found_raised : (symbols : List SymKey) (c : ℕ) (around : List Bound) (k : ℕ) → found symbols c around k ≡ raised c (terms_in symbols around k)
found_raised symbols c [] k = sym (raised_variable c k)
found_raised symbols c (Kept ∷ around) zero = ap Var (omega arith) ∙ sym (raised_variable c 0)
found_raised symbols c (Kept ∷ around) (suc k) = found_raised symbols (c + 1) around k ∙ sym (raised_shifted c (terms_in symbols around k))
found_raised symbols c (Replaced e ∷ around) zero = sym (raised_applied c (symbol_in symbols e) (kept_in around))
found_raised symbols c (Replaced e ∷ around) (suc k) = found_raised symbols c around k

-- without a universal between, the term is that for the variable
pub found_here : (symbols : List SymKey) (around : List Bound) (k : ℕ) → found symbols 0 around k ≡ terms_in symbols around k
found_here symbols around k = found_raised symbols 0 around k ∙ raised_none (terms_in symbols around k)

-- ---- lists

downward_next : (c n b : ℕ) → b < n → downward_from c (n - b) ≡ (c + (n - 1 - b)) ∷ downward_from c (n - (b + 1))
downward_next c n b h =
    let e : n - b ≡ suc (n - (b + 1)) = omega arith in
    ap (downward_from c) e ∙ ap (λ x. x ∷ downward_from c (n - (b + 1))) (omega arith)

-- one variable more
pub variables_step : (c n b number : ℕ) (args now all : List Term) → b < n → number ≡ c + (n - 1 - b) → now ≡ args ++ Var number ∷ []
    → args ++ map Var (downward_from c (n - b)) ≡ all → now ++ map Var (downward_from c (n - (b + 1))) ≡ all
variables_step c n b number args now all less is made h =
    ap (λ x. x ++ map Var (downward_from c (n - (b + 1)))) made
    ∙ append_assoc args (Var number ∷ []) (map Var (downward_from c (n - (b + 1))))
    ∙ ap (λ x. args ++ Var x ∷ map Var (downward_from c (n - (b + 1)))) is
    ∙ ap (λ x. args ++ map Var x) (sym (downward_next c n b less)) ∙ h

kept_append : (xs ys : List Bound) → kept_in (xs ++ ys) ≡ kept_in xs + kept_in ys
kept_append [] ys = omega arith
kept_append (Kept ∷ xs) ys = let h = kept_append xs ys in omega arith
kept_append (Replaced e ∷ xs) ys = kept_append xs ys

reverse_cons : (x : Bound) (xs : List Bound) → reverse (x ∷ xs) ≡ reverse xs ++ x ∷ []
reverse_cons x xs = grind (arith, common_steps)

pub kept_reverse : (xs : List Bound) → kept_in (reverse xs) ≡ kept_in xs
kept_reverse [] = refl
kept_reverse (Kept ∷ xs) = ap kept_in (reverse_cons Kept xs) ∙ kept_append (reverse xs) (Kept ∷ []) ∙ (let h = kept_reverse xs in omega arith)
kept_reverse (Replaced e ∷ xs) = ap kept_in (reverse_cons (Replaced e) xs) ∙ kept_append (reverse xs) (Replaced e ∷ []) ∙ (let h = kept_reverse xs in omega arith)

pub ruleset relaxed_steps = (common_steps, append_assoc, append-nil, map-append, reverse-append, kept_reverse, found_here, of_forms, of_terms)
