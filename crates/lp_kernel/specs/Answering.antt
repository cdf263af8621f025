-- What the type checker answers: that the development is typed, its first failure, or want of memory.
use Rattle.std.specs.Prelude.{◌≡◌, Option, Some, None, Result, Ok, Err}
use Rattle.lp_term.specs.LambdaPi.{Term}
use Rattle.lp_term.specs.View.{term_of}
use Rattle.lp_kernel.specs.declared.fault.Typed.{Typed}
use Rattle.lp_kernel.specs.declared.fault.Want.{Want}
use Rattle.lp_kernel.specs.declared.fault.Want.TheVariants.{Exactly, Product, Sorted}
use Rattle.lp_kernel.specs.declared.fault.CheckFault.{CheckFault}
use Rattle.lp_kernel.specs.declared.fault.CheckFault.TheVariants.{BadPrelude, BadSymbol, BadGoal, UnknownName, OutOfFragment, IllTyped, Memory}
use Rattle.lp_kernel.specs.Checking.{Wanted, exactly, a_product, a_sort, unknown_name, out_of_fragment, ill_typed}
use Rattle.lp_kernel.specs.Developments.{Failure, bad_goal, bad_prelude, bad_symbol, in_goal}

-- what was wanted of a type
abbrev pub want_of : Want → Wanted
want_of (Exactly t) = exactly (term_of t)
want_of Product = a_product
want_of Sorted = a_sort

-- the fault tells of that first failure; of want of memory nothing is said
abbrev pub IsFaultOf : CheckFault → Option Failure → Type 0
IsFaultOf (BadPrelude command) failure = failure ≡ Some (bad_prelude command)
IsFaultOf (BadSymbol command) failure = failure ≡ Some (bad_symbol command)
IsFaultOf (BadGoal command) failure = failure ≡ Some (bad_goal command)
IsFaultOf (UnknownName node name) failure = failure ≡ Some (in_goal (unknown_name node name))
IsFaultOf (OutOfFragment node) failure = failure ≡ Some (in_goal (out_of_fragment node))
IsFaultOf (IllTyped node want found level) failure = failure ≡ Some (in_goal (ill_typed node (want_of want) (term_of found) level))
IsFaultOf Memory failure = Unit {0}

-- the answer tells of the first failure, or that there is none
abbrev pub IsVerdict : Result Typed CheckFault → Option Failure → Type 0
IsVerdict (Ok typed) failure = failure ≡ None
IsVerdict (Err fault) failure = IsFaultOf fault failure
