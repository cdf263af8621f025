-- How renaming and substitution compose.
use Rattle.std.proofs.Common.{◌≡◌, ℕ, zero, suc, refl, sym, ap, ap₂, ◌∙◌}
use Rattle.lp_term.specs.LambdaPi.{Term, app, con, for_last, instantiate, kind, lam, pat, pi, rename, shift, substitute, type, under_binder, under_renaming, var}

-- functions that agree everywhere are equal
pub ext : {B : Type 0} {f g : ℕ → B} → ((n : ℕ) → f n ≡ g n) → f ≡ g
ext h = λ i n. h n i

under_renaming_twice : (r q : ℕ → ℕ) (n : ℕ) → under_renaming r (under_renaming q n) ≡ under_renaming (λ m. r (q m)) n
under_renaming_twice r q zero = refl
under_renaming_twice r q (suc n) = refl

pub rename_rename : (t : Term) (r q : ℕ → ℕ) → rename r (rename q t) ≡ rename (λ n. r (q n)) t
rename_rename type r q = refl
rename_rename kind r q = refl
rename_rename (con s) r q = refl
rename_rename (pat s) r q = refl
rename_rename (var n) r q = refl
rename_rename (app t u) r q = ap₂ app (rename_rename t r q) (rename_rename u r q)
rename_rename (lam a b) r q =
    ap₂ lam (rename_rename a r q) (rename_rename b (under_renaming r) (under_renaming q) ∙ ap (λ f. rename f b) (ext (under_renaming_twice r q)))
rename_rename (pi a b) r q =
    ap₂ pi (rename_rename a r q) (rename_rename b (under_renaming r) (under_renaming q) ∙ ap (λ f. rename f b) (ext (under_renaming_twice r q)))

pub shift_rename : (r : ℕ → ℕ) (t : Term) → rename (under_renaming r) (shift t) ≡ shift (rename r t)
shift_rename r t = rename_rename t (under_renaming r) (λ n. suc n) ∙ sym (rename_rename t (λ n. suc n) r)

under_binder_renaming : (s : ℕ → Term) (q : ℕ → ℕ) (n : ℕ) → under_binder s (under_renaming q n) ≡ under_binder (λ m. s (q m)) n
under_binder_renaming s q zero = refl
under_binder_renaming s q (suc n) = refl

pub substitute_rename : (t : Term) (s : ℕ → Term) (q : ℕ → ℕ) → substitute s (rename q t) ≡ substitute (λ n. s (q n)) t
substitute_rename type s q = refl
substitute_rename kind s q = refl
substitute_rename (con x) s q = refl
substitute_rename (pat x) s q = refl
substitute_rename (var n) s q = refl
substitute_rename (app t u) s q = ap₂ app (substitute_rename t s q) (substitute_rename u s q)
substitute_rename (lam a b) s q =
    ap₂ lam (substitute_rename a s q) (substitute_rename b (under_binder s) (under_renaming q) ∙ ap (λ f. substitute f b) (ext (under_binder_renaming s q)))
substitute_rename (pi a b) s q =
    ap₂ pi (substitute_rename a s q) (substitute_rename b (under_binder s) (under_renaming q) ∙ ap (λ f. substitute f b) (ext (under_binder_renaming s q)))

rename_under_binder : (r : ℕ → ℕ) (s : ℕ → Term) (n : ℕ) → rename (under_renaming r) (under_binder s n) ≡ under_binder (λ m. rename r (s m)) n
rename_under_binder r s zero = refl
rename_under_binder r s (suc n) = shift_rename r (s n)

pub rename_substitute : (t : Term) (r : ℕ → ℕ) (s : ℕ → Term) → rename r (substitute s t) ≡ substitute (λ n. rename r (s n)) t
rename_substitute type r s = refl
rename_substitute kind r s = refl
rename_substitute (con x) r s = refl
rename_substitute (pat x) r s = refl
rename_substitute (var n) r s = refl
rename_substitute (app t u) r s = ap₂ app (rename_substitute t r s) (rename_substitute u r s)
rename_substitute (lam a b) r s =
    ap₂ lam (rename_substitute a r s) (rename_substitute b (under_renaming r) (under_binder s) ∙ ap (λ f. substitute f b) (ext (rename_under_binder r s)))
rename_substitute (pi a b) r s =
    ap₂ pi (rename_substitute a r s) (rename_substitute b (under_renaming r) (under_binder s) ∙ ap (λ f. substitute f b) (ext (rename_under_binder r s)))

pub shift_substitute : (s : ℕ → Term) (t : Term) → substitute (under_binder s) (shift t) ≡ shift (substitute s t)
shift_substitute s t = substitute_rename t (under_binder s) (λ n. suc n) ∙ sym (rename_substitute t (λ n. suc n) s)

under_binder_twice : (s q : ℕ → Term) (n : ℕ) → substitute (under_binder s) (under_binder q n) ≡ under_binder (λ m. substitute s (q m)) n
under_binder_twice s q zero = refl
under_binder_twice s q (suc n) = shift_substitute s (q n)

pub substitute_substitute : (t : Term) (s q : ℕ → Term) → substitute s (substitute q t) ≡ substitute (λ n. substitute s (q n)) t
substitute_substitute type s q = refl
substitute_substitute kind s q = refl
substitute_substitute (con x) s q = refl
substitute_substitute (pat x) s q = refl
substitute_substitute (var n) s q = refl
substitute_substitute (app t u) s q = ap₂ app (substitute_substitute t s q) (substitute_substitute u s q)
substitute_substitute (lam a b) s q =
    ap₂ lam (substitute_substitute a s q) (substitute_substitute b (under_binder s) (under_binder q) ∙ ap (λ f. substitute f b) (ext (under_binder_twice s q)))
substitute_substitute (pi a b) s q =
    ap₂ pi (substitute_substitute a s q) (substitute_substitute b (under_binder s) (under_binder q) ∙ ap (λ f. substitute f b) (ext (under_binder_twice s q)))

under_binder_var : (n : ℕ) → under_binder (λ m. var m) n ≡ var n
under_binder_var zero = refl
under_binder_var (suc n) = refl

pub substitute_var : (t : Term) → substitute (λ n. var n) t ≡ t
substitute_var type = refl
substitute_var kind = refl
substitute_var (con x) = refl
substitute_var (pat x) = refl
substitute_var (var n) = refl
substitute_var (app t u) = ap₂ app (substitute_var t) (substitute_var u)
substitute_var (lam a b) = ap₂ lam (substitute_var a) (ap (λ f. substitute f b) (ext under_binder_var) ∙ substitute_var b)
substitute_var (pi a b) = ap₂ pi (substitute_var a) (ap (λ f. substitute f b) (ext under_binder_var) ∙ substitute_var b)

under_renaming_var : (r : ℕ → ℕ) (n : ℕ) → var (under_renaming r n) ≡ under_binder (λ m. var (r m)) n
under_renaming_var r zero = refl
under_renaming_var r (suc n) = refl

-- a renaming is a substitution
pub rename_is_substitute : (t : Term) (r : ℕ → ℕ) → rename r t ≡ substitute (λ n. var (r n)) t
rename_is_substitute t r = ap (rename r) (sym (substitute_var t)) ∙ rename_substitute t r (λ n. var n)

-- what was shifted has no variable 0
pub instantiate_shift : (t u : Term) → instantiate (shift t) u ≡ t
instantiate_shift t u = substitute_rename t (for_last u) (λ n. suc n) ∙ substitute_var t

rename_for_last : (r : ℕ → ℕ) (u : Term) (n : ℕ) → rename r (for_last u n) ≡ for_last (rename r u) (under_renaming r n)
rename_for_last r u zero = refl
rename_for_last r u (suc n) = refl

pub rename_instantiate : (r : ℕ → ℕ) (t u : Term) → rename r (instantiate t u) ≡ instantiate (rename (under_renaming r) t) (rename r u)
rename_instantiate r t u =
    rename_substitute t r (for_last u) ∙ ap (λ f. substitute f t) (ext (rename_for_last r u)) ∙ sym (substitute_rename t (for_last (rename r u)) (under_renaming r))

substitute_for_last : (s : ℕ → Term) (u : Term) (n : ℕ) → substitute s (for_last u n) ≡ substitute (for_last (substitute s u)) (under_binder s n)
substitute_for_last s u zero = refl
substitute_for_last s u (suc n) = sym (instantiate_shift (s n) (substitute s u))

pub substitute_instantiate : (s : ℕ → Term) (t u : Term) → substitute s (instantiate t u) ≡ instantiate (substitute (under_binder s) t) (substitute s u)
substitute_instantiate s t u =
    substitute_substitute t s (for_last u) ∙ ap (λ f. substitute f t) (ext (substitute_for_last s u)) ∙ sym (substitute_substitute t (for_last (substitute s u)) (under_binder s))
