-- A formula with terms for the variables of the quantifiers around it, at each kind of formula.
use Rattle.std.proofs.Common.{◌≡◌, ℕ, ◌+◌, List, map, rules}
use Rattle.dk_syntax.specs.Terms.{substituted}
use Rattle.dk_syntax.specs.declared.Formula.{All, And, Atom, Ex, False, Formula, Iff, Imp, Not, Or, True, the_lemmas as of_formulas}
use Rattle.dk_syntax.specs.declared.SymKey.{SymKey}
use Rattle.dk_syntax.specs.declared.Term.{Term}
use Rattle.skolem_order.specs.Origins.{outside, put_in}

pub put-True : (s : ℕ → Term) (n : ℕ) → put_in s True n ≡ True
put-True s n = search (rules, of_formulas)

pub put-False : (s : ℕ → Term) (n : ℕ) → put_in s False n ≡ False
put-False s n = search (rules, of_formulas)

pub put-Atom : (s : ℕ → Term) (p : SymKey) (args : List Term) (n : ℕ) → put_in s (Atom p args) n ≡ Atom p (map (substituted (outside s n)) args)
put-Atom s p args n = search (rules, of_formulas)

pub put-Not : (s : ℕ → Term) (a : Formula) (n : ℕ) → put_in s (Not a) n ≡ Not (put_in s a n)
put-Not s a n = search (rules, of_formulas)

pub put-And : (s : ℕ → Term) (a b : Formula) (n : ℕ) → put_in s (And a b) n ≡ And (put_in s a n) (put_in s b n)
put-And s a b n = search (rules, of_formulas)

pub put-Or : (s : ℕ → Term) (a b : Formula) (n : ℕ) → put_in s (Or a b) n ≡ Or (put_in s a n) (put_in s b n)
put-Or s a b n = search (rules, of_formulas)

pub put-Imp : (s : ℕ → Term) (a b : Formula) (n : ℕ) → put_in s (Imp a b) n ≡ Imp (put_in s a n) (put_in s b n)
put-Imp s a b n = search (rules, of_formulas)

pub put-Iff : (s : ℕ → Term) (a b : Formula) (n : ℕ) → put_in s (Iff a b) n ≡ Iff (put_in s a n) (put_in s b n)
put-Iff s a b n = search (rules, of_formulas)

pub put-All : (s : ℕ → Term) (a : Formula) (n : ℕ) → put_in s (All a) n ≡ All (put_in s a (n + 1))
put-All s a n = search (rules, of_formulas)

pub put-Ex : (s : ℕ → Term) (a : Formula) (n : ℕ) → put_in s (Ex a) n ≡ Ex (put_in s a (n + 1))
put-Ex s a n = search (rules, of_formulas)
