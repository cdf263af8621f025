-- What the steps of the loop down the right parts of products rest on.
use Rattle.std.proofs.Common.{◌≡◌, ℕ, ◌+◌, List, [], ◌∷◌, ◌++◌, Result, Ok, Err, refl, sym, ap, ◌∙◌, append-nil}
use Rattle.std.specs.Borrow.{Bor}
use Rattle.lp_term.specs.LambdaPi.{Term, type, kind, con, pat, var, app, lam, pi}
use Rattle.lp_term.specs.Typing.{Declaration}
use Rattle.lp_term.specs.View.{term_of}
use Rattle.lp_term.specs.declared.lp.Lp.{Lp}
use Rattle.lp_kernel.specs.declared.finding.Opening.{Opening}
use Rattle.lp_kernel.specs.declared.finding.TypeStep.TheVariants.{Below, Reached}
use Rattle.lp_kernel.specs.Checking.{Fault, and_then, node_count, read}
use Rattle.lp_kernel.specs.Walking.{HasDescended, IsNoProduct, check_at, checked_of, context_of, over_domains}
use Rattle.lp_kernel.proofs.FrameLaws.{context_last}

pub domains_last : (l : List Lp) (x : Lp) (r : Result Term Fault) → over_domains (l ++ (x ∷ [])) r ≡ over_domains l (over_domains (x ∷ []) r)
domains_last [] x r = refl
domains_last (y ∷ l) x r = ap (λ z. and_then z (λ b. Ok (pi (term_of y) b))) (domains_last l x r)

-- the second part, once the first is known
abbrev second : List Declaration → List Lp → Term → ℕ → Term → Result Term Fault
second sig l b n x = and_then ((read sig b).check (x ∷ context_of l) n) (λ y. Ok (pi x y))

pub product_steps : (sig : List Declaration) (ds l : List Lp) (a : Term) (b : Bor Lp) (x : Lp) (k n : ℕ) (es m old : List Lp) → old ≡ l → Ok (term_of x) ≡ check_at sig l a (k + 1) → n ≡ k + 1 + node_count a → es ≡ ds ++ (x ∷ []) → m ≡ old ++ (x ∷ []) →
    HasDescended sig ds l (check_at sig l (pi a (term_of b.now)) k) es m (Below b n)
product_steps sig ds l a b x k n es m old o e h g i =
    let j : m ≡ l ++ (x ∷ []) = i ∙ ap (λ q. q ++ (x ∷ [])) o in
    let t = term_of b.now in
    record {
      same = ap (λ q. over_domains q (check_at sig m t n)) g ∙ ap (λ q. over_domains (ds ++ (x ∷ [])) (check_at sig q t n)) j
          ∙ domains_last ds x (check_at sig (l ++ (x ∷ [])) t n)
          ∙ ap (λ d. over_domains ds (and_then ((read sig t).check d n) (λ y. Ok (pi (term_of x) y)))) (context_last l x)
          ∙ ap (λ q. over_domains ds (second sig l t q (term_of x))) h
          ∙ ap (λ c. over_domains ds (and_then c (second sig l t (k + 1 + node_count a)))) e;
      context = (x ∷ [], j);
    }

pub product_stops : (sig : List Declaration) (ds l : List Lp) (a b : Term) (r : Opening) (f : Fault) (k : ℕ) (m : List Lp) → m ≡ l → checked_of r ≡ Err f → Err f ≡ check_at sig l a (k + 1) → HasDescended sig ds l (check_at sig l (pi a b) k) ds m (Reached r)
product_stops sig ds l a b r f k m i q e = record {
  same = ap (over_domains ds) q ∙ ap (λ c. over_domains ds (and_then c (second sig l b (k + 1 + node_count a)))) e;
  context = ([], i ∙ sym (append-nil l));
}

-- the last part
pub last_steps : (sig : List Declaration) (ds l : List Lp) (t : Term) (r : Opening) (k : ℕ) (m : List Lp) → m ≡ l → checked_of r ≡ check_at sig l t k → HasDescended sig ds l (check_at sig l t k) ds m (Reached r)
last_steps sig ds l t r k m i e = record { same = ap (over_domains ds) e; context = ([], i ∙ sym (append-nil l)) }

pub no_product : (t : Term) → ((a b : Term) → t ≡ pi a b → ⊥) → IsNoProduct t
no_product type h = tt
no_product kind h = tt
no_product (con x) h = tt
no_product (pat x) h = tt
no_product (var n) h = tt
no_product (app t u) h = tt
no_product (lam a t) h = tt
no_product (pi a b) h = absurd (h a b refl)

pub product_absurd : (t a b : Term) → IsNoProduct t → t ≡ pi a b → ⊥
product_absurd (pi c d) a b h e = h
product_absurd type a b h e = cc
product_absurd kind a b h e = cc
product_absurd (con x) a b h e = cc
product_absurd (pat x) a b h e = cc
product_absurd (var n) a b h e = cc
product_absurd (app t u) a b h e = cc
product_absurd (lam c t) a b h e = cc
