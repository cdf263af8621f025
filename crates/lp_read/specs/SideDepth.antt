-- How deep terms are nested to the side: in types, values, heads and all arguments but the last.
use Rattle.std.specs.Prelude.{ℕ, ◌+◌, ◌<◌, Bool, true, false, if◌then◌else◌, max}
use Rattle.lp_term.specs.declared.Command.{Command}
use Rattle.lp_term.specs.declared.Command.TheVariants as command
use Rattle.lp_term.specs.declared.Lp.{Lp, Lp-F, fold-Lp}
use Rattle.lp_term.specs.declared.Lp.TheOpen.{Sort, Sym, Var, Pat, App, Lam, Pi}

pub record Sides : Type 0 where
  -- the side depth
  pub side : ℕ
  -- what the term counts as the function of an application that is no `let`: 1 more than the side depth of its head and of
  -- each of its own arguments
  pub head : ℕ
  pub is_abstraction : Bool

abbrev pub leaf_sides : Sides
leaf_sides = record { side = 1; head = 2; is_abstraction = false }

abbrev pub binder_sides : Bool → Sides → Sides → Sides
binder_sides is_abstraction domain body = record {
  side = max (1 + domain.side) body.side;
  head = 1 + max (1 + domain.side) body.side;
  is_abstraction = is_abstraction;
}

-- of an abstraction at an argument, which is a `let`: its side depth has that of the type, 1 more, and that of the body
abbrev pub let_sides : Sides → Sides → Sides
let_sides function value = record {
  side = max function.side (1 + value.side);
  head = 1 + max function.side (1 + value.side);
  is_abstraction = false;
}

-- of an application, its last argument given
abbrev pub spine_sides : Sides → Sides → Sides
spine_sides function last = record {
  side = max function.head last.side;
  head = max function.head (1 + last.side);
  is_abstraction = false;
}

abbrev pub sides_at : Lp-F Sides → Sides
sides_at Sort = leaf_sides
sides_at (Sym name) = leaf_sides
sides_at (Var number) = leaf_sides
sides_at (Pat name) = leaf_sides
sides_at (App function argument) = if function.is_abstraction then let_sides function argument else spine_sides function argument
sides_at (Lam domain body) = binder_sides true domain body
sides_at (Pi domain body) = binder_sides false domain body

abbrev pub sides_of : Lp → Sides
sides_of = fold-Lp Sides sides_at

abbrev pub side_depth : Lp → ℕ
side_depth term = (sides_of term).side

-- the greatest side depth of the terms of a command
abbrev pub command_depth : Command → ℕ
command_depth (command.Constant name type) = side_depth type
command_depth (command.Symbol name type) = side_depth type
command_depth (command.Define name type body) = max (side_depth type) (side_depth body)
command_depth (command.Rule left right) = max (side_depth left) (side_depth right)

-- a term of the command is nested too deep
abbrev pub IsTooDeep : Command → Type 0
IsTooDeep command = 10000 < command_depth command
