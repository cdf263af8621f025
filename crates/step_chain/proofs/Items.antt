-- One item of an option.
use Rattle.std.proofs.Common.{◌≡◌, Option, Some, None}

pub some_or_none : {A : Type 0} (x : Option A) (a : A) → x ≡ Some a → x ≡ None → ⊥
some_or_none x a h k = cc

pub same_some : {A : Type 0} (x : Option A) (a b : A) → x ≡ Some a → x ≡ Some b → a ≡ b
same_some x a b h k = cc
