-- A fact of an answer carried over.
use Rattle.std.specs.Prelude.{Err, IfOk, Ok, Result}

pub ok_map : {T E : Type 0} {P Q : T → Type 0} (r : Result T E) → ((t : T) → P t → Q t) → IfOk r P → IfOk r Q
ok_map (Ok t) f h = f t h
ok_map (Err e) f h = h
