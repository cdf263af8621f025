-- Where a `Boxed` keeps its value, for the types that hold themselves through one.
-- Contracts see nothing but that value, so its shape is the value's own and its code the value's code.
use mathlib.Core.Former.{Former, const, pair, this, via}
use mathlib.Core.Path.{refl}
use base.Fml.{ftrue}
use base.Stored.{gnil}
use denote.Hole.Fix.{over}
use denote.HoleLaws.{Alike}
use denote.HolePlaces.{Recodes, laid, one_value, struct_places}
use denote.Memory.{part_of}
use denote.Model.Placed.{view_places}
use denote.Param.Weighed.{Weighed}
use denote.RattleType.{RattleType}
use denote.RawPtr.{Ptr}
use denote.Sharing.{nothing}
use Rattle.std.specs.contracts.alloc.Global as global
use Rattle.std.specs.contracts.boxed.Box as box
use Rattle.std.specs.contracts.impls.GlobalAllocator.TheImpl as global_allocator
use Rattle.std.specs.declared.alloc.Global.{Global}
use Rattle.std.specs.declared.boxed.Box.{Box}
use Rattle.dk_syntax.specs.contracts.boxed.Boxed as boxed
use Rattle.dk_syntax.specs.contracts.boxed.Boxed.TheInside as inside
use Rattle.dk_syntax.specs.declared.boxed.Boxed.TheInside.{Inside}
use Rattle.dk_syntax.specs.declared.boxed.Boxed.TheView as seen

-- contracts see the value itself
abbrev pub the_former : Former {0} → Former {0}
the_former value = value

-- which measures what it measures outside of the box
abbrev pub the_weighed : {value : Former {0}} → Weighed value → Weighed (the_former value)
the_weighed measure = measure

-- the box with the same pointer around another value
abbrev refill : {Old New : Type 0} → Box Old Global → New → Box New Global
refill b new = record { ptr = b.ptr; alloc = b.alloc; value = new }

-- the one field: a pointer and an allocator, which stay as they are, and the value
abbrev box_field : Former {0}
box_field = via (pair (const (Ptr × Global)) this) Inside (λ Value s. ((s.inner.ptr, s.inner.alloc), s.inner.value))
    (λ Value v. record { inner = record { ptr = v.0.0; alloc = v.0.1; value = v.1 } }) (λ Value s. refl) (λ Value v. refl)

-- a box of the program's one allocator, as the logic describes its type
abbrev boxed_type : RattleType → RattleType
boxed_type Value = box.the_row Value global.the_row global_allocator.ghosts

module _ (From To : RattleType) (change : From.Denot → To.Denot) where
  -- the code of a `Boxed` is its value's
  pub the_codes_placed : Recodes From To change → Recodes (boxed.the_row From) (boxed.the_row To) ((the_former this).map From.Denot To.Denot change)
  the_codes_placed same value = same value

  -- two boxes lie alike where their values do: what a box owns and lends goes with what its one value does
  box_alike : Alike From To change → Alike (boxed_type From) (boxed_type To) (λ b. refill b (change b.value))
  unfolding part_of
  box_alike alike = record {
    mir_same = λ i. (boxed_type (one_value From (alike.mir_same i) (λ _. ftrue) (λ _ _. nothing) gnil)).mir;
    own_same = λ b i. (boxed_type (one_value From (alike.mir_same i) (alike.own_same b.value i) (alike.shr_same b.value i) gnil)).own_val (refill b tt);
    shr_same = λ b i. (boxed_type (one_value From (alike.mir_same i) (alike.own_same b.value i) (alike.shr_same b.value i) gnil)).shr_at (refill b tt);
  }

  -- so do the structs around them
  struct_alike : Alike From To change → Alike (inside.the_row From) (inside.the_row To) (box_field.map From.Denot To.Denot change)
  struct_alike alike = struct_places (inside.the_type From) (inside.the_type To) ((λ b. refill b (change b.value)), tt) _ (λ s. refl) refl
      (laid _ _ _ (box_alike alike), tt)

  -- and the `Boxed`s, whose view shows the value of the struct
  pub the_places : Alike From To change → Alike (boxed.the_row From) (boxed.the_row To) ((the_former this).map From.Denot To.Denot change)
  the_places alike = view_places box_field this seen.view (λ X Y h s. refl) (λ X s. refl) From.Denot To.Denot change
      (boxed.the_row From).coded (boxed.the_row To).coded (seen.invariant From.Denot) (seen.invariant To.Denot)
      (λ s p q. refl) (λ s p q. refl) (λ s ok. tt) (λ s ok. tt)
      (over (inside.the_row From)) (over (inside.the_row To)) (struct_alike alike)
