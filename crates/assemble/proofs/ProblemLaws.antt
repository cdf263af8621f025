-- The signature of a development has the prelude, and its types are closed.
use Rattle.std.proofs.Common.{sym, subst, ◌≡◌, ℕ, zero, suc, Bool, true, false, List, [], ◌∷◌, ◌++◌, refl, ap, ◌∙◌}
use Rattle.lp_term.specs.LambdaPi.{Term, substitute}
use Rattle.lp_term.specs.Connectives.{arrow, individuals}
use Rattle.lp_term.specs.Typing.{Declaration, Declares, declared_here, declared_later}
use Rattle.lp_term.proofs.PreludeLaws.{prelude_is_spelled, spelled}
use Rattle.lp_term.specs.Signature.{prelude_declarations, Extends}
use Rattle.lp_term.proofs.ConversionLaws.{substitute_arrow}
use Rattle.dk_syntax.specs.Lists.{Every, every_cons, every_nil}
use Rattle.nd_term.specs.Symbols.{function_type}
use Rattle.assemble.specs.Problem.{ProblemSymbol, declarations_of, result_type, signature_of}

-- a declared type has no free variable
abbrev Shut : Declaration → Type 0
Shut d = (f : ℕ → Term) → substitute f d.of ≡ d.of

shut_of : {sig : List Declaration} {s : List ℕ} {a : Term} → Every Shut sig → Declares sig s a → (f : ℕ → Term) → substitute f a ≡ a
shut_of every_nil h = elim h [ ]
shut_of (every_cons w ws) (declared_here l d) = w
shut_of (every_cons w ws) (declared_later d h) = shut_of ws h

declares_left : {l : List Declaration} {s : List ℕ} {a : Term} (m : List Declaration) → Declares l s a → Declares (l ++ m) s a
declares_left m (declared_here l d) = declared_here (l ++ m) d
declares_left m (declared_later d h) = declared_later d (declares_left m h)

function_type_sub : (f : ℕ → Term) (n : ℕ) (b : Bool) → substitute f (function_type n (result_type b)) ≡ function_type n (result_type b)
function_type_sub f zero true = refl
function_type_sub f zero false = refl
function_type_sub f (suc n) b = substitute_arrow f individuals (function_type n (result_type b)) ∙ ap (arrow individuals) (function_type_sub f n b)

consts_shut : (ks : List ProblemSymbol) → Every Shut (declarations_of ks)
consts_shut [] = every_nil
consts_shut (k ∷ ks) = every_cons (λ f. function_type_sub f k.arity k.answers) (consts_shut ks)

spelled_shut : Every Shut spelled
spelled_shut =
    every_cons (λ f. refl) (every_cons (λ f. refl) (every_cons (λ f. refl) (every_cons (λ f. refl) (every_cons (λ f. refl) (every_cons (λ f. refl) (every_cons (λ f. refl)
    (every_cons (λ f. refl) (every_cons (λ f. refl) (every_cons (λ f. refl) (every_cons (λ f. refl) (every_cons (λ f. refl) (every_cons (λ f. refl) (every_cons (λ f. refl) every_nil)))))))))))))

every_append : {l m : List Declaration} → Every Shut l → Every Shut m → Every Shut (l ++ m)
every_append every_nil k = k
every_append (every_cons h hs) k = every_cons h (every_append hs k)

prelude_shut : Every Shut prelude_declarations
prelude_shut = subst (λ l. Every Shut l) (sym prelude_is_spelled) spelled_shut

all_shut : (ks : List ProblemSymbol) → Every Shut (signature_of ks)
all_shut ks = every_append prelude_shut (consts_shut ks)

pub signature_extends : (ks : List ProblemSymbol) → Extends (signature_of ks)
signature_extends ks =
    record { declares = λ s a h. declares_left (declarations_of ks) h; closed = λ s a h. shut_of (all_shut ks) h }
