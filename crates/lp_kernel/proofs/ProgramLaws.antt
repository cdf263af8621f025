-- What the check of a development rests on, besides its walk along terms.
use Rattle.std.proofs.Common.{◌≡◌, ℕ, ◌+◌, ◌&&◌, Bool, true, false, if◌then◌else◌, IsTrue, ◌↔◌, List, [], ◌∷◌, ◌++◌, Option, Some, None, refl, sym, ap, ap₂, ◌∙◌, append_assoc}
use Rattle.lp_term.specs.LambdaPi.{Term}
use Rattle.lp_term.specs.Signature.{declaration, declarations}
use Rattle.lp_term.specs.Typing.{Declaration}
use Rattle.lp_term.specs.View.{term_of}
use Rattle.lp_term.specs.declared.command.Command.{Command}
use Rattle.lp_term.specs.declared.command.Command.TheVariants.{Constant}
use Rattle.lp_term.specs.declared.lp.Lp.{Lp}
use Rattle.lp_exact.proofs.TreeLaws.{view_injective}
use Rattle.lp_kernel.specs.Checking.{same_term}
use Rattle.lp_kernel.specs.Developments.{Failure, bad_prelude, bad_symbol, failure_after, failure_from, is_constant_type, is_new, same_command}
use Rattle.lp_kernel.proofs.AnswerLaws.{term_same}
use Rattle.lp_kernel.proofs.AnsweredLaws.{term_is}
use Rattle.lp_kernel.proofs.DevelopmentLaws.{declarations_append, if_true}

-- a test of trees is the test of terms
pub same_as : (b c : Bool) → (b ≡ true → c ≡ true) → (c ≡ true → b ≡ true) → b ≡ c
same_as true true h k = refl
same_as true false h k = sym (h refl)
same_as false true h k = k refl
same_as false false h k = refl

pub same_tree_is : (a b : Lp) (c : Bool) → (c ≡ true → a ≡ b) → (a ≡ b → c ≡ true) → c ≡ same_term (term_of a) (term_of b)
same_tree_is a b c h k =
    same_as c (same_term (term_of a) (term_of b)) (λ e. ap (λ y. same_term (term_of a) (term_of y)) (sym (h e)) ∙ term_is (term_of a)) (λ e. k (view_injective a b (term_same (term_of a) (term_of b) e)))

-- a command's declarations more
pub entries_more : (s n d : List Declaration) (c : Command) (l : List Command) → n ≡ s ++ declarations (c ∷ []) → s ++ declarations (c ∷ l) ≡ d → n ++ declarations l ≡ d
entries_more s n d c l e h =
    ap (λ m. m ++ declarations l) e ∙ append_assoc s (declarations (c ∷ [])) (declarations l) ∙ ap (λ m. s ++ m) (sym (declarations_append (c ∷ []) l)) ∙ h

-- a constant more
pub constant_more : (s n : List Declaration) (x : List ℕ) (a : Lp) (l : List Command) (k m : ℕ) (r : Option Failure) → (is_new s x && is_constant_type (term_of a)) ≡ true
    → n ≡ s ++ (declaration x (term_of a) ∷ []) → m ≡ k + 1 → failure_after s k (Constant x a ∷ l) ≡ r → failure_after n m l ≡ r
constant_more s n x a l k m r h e f q =
    ap₂ (λ z i. failure_after z i l) e f ∙ sym (if_true (is_new s x && is_constant_type (term_of a)) (failure_after (s ++ (declaration x (term_of a) ∷ [])) (k + 1) l) (Some (bad_symbol k)) h) ∙ q

-- a command of the prelude more
pub command_more : (p c : Command) (expected l : List Command) (k m : ℕ) (r : Option Failure) → same_command p c ≡ true → m ≡ k + 1 → failure_from (p ∷ expected) k (c ∷ l) ≡ r → failure_from expected m l ≡ r
command_more p c expected l k m r h f q =
    ap (λ i. failure_from expected i l) f ∙ sym (if_true (same_command p c) (failure_from expected (k + 1) l) (Some (bad_prelude k)) h) ∙ q
