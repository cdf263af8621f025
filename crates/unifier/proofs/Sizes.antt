-- How deep the parts of a term are, for the recursion over two terms.
use Rattle.std.proofs.Common.{◌≡◌, ◌<◌, ◌≤◌, ℕ, List, arith, get_or, length, subst, sym}
use denote.Param.Weighed.{at_most, most}
use Rattle.dk_syntax.specs.declared.symbol.SymKey.{SymKey}
use Rattle.dk_syntax.specs.declared.term.Term.{App, Term, size-Term, size_is-Term}
use Rattle.dk_syntax.specs.declared.term.Term.TheVariants.{outs-App}

application_below : (f : SymKey) (args : List Term) → most size-Term args < size-Term (App f args)
application_below f args = rw (size_is-Term (App f args), outs-App f args) (omega arith)

pub args_below : (f : SymKey) (args zs : List Term) (t : Term) → t ≡ App f args → zs ≡ args → most size-Term zs < size-Term t
args_below f args zs t e z = subst (λ u. most size-Term zs < size-Term u) (sym e) (subst (λ us. most size-Term us < size-Term (App f args)) (sym z) (application_below f args))

pub item_below : (terms : List Term) (i : ℕ) (t : Term) → i < length terms → t ≡ get_or terms i t → size-Term t ≤ most size-Term terms
item_below terms i t l e = subst (λ u. size-Term u ≤ most size-Term terms) (sym e) (at_most size-Term terms i t l)
