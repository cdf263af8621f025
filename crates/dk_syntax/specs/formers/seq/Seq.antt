-- Where a `Seq` keeps its items, for the types that hold themselves through one.
-- It adds nothing to its `Vec`: its shape is a list's, its items lie in the `Vec`, and it is coded as their list.
use mathlib.Core.Former.{Former, children, list, this, via}
use mathlib.Core.List.{[], List}
use mathlib.Core.Path.{◌≡◌, refl, sym}
use base.Stored.{code_map}
use denote.Hole.Carrier.{list-listed, listed}
use denote.Hole.Fix.{over}
use denote.HoleLaws.{Alike}
use denote.HolePlaces.{Recodes, laid, struct_places}
use denote.Model.Placed.{view_places}
use denote.Param.Weighed.{Weighed, w_list}
use denote.RattleType.{RattleType}
use Rattle.std.specs.contracts.alloc.Global as global
use Rattle.std.specs.contracts.impls.GlobalAllocator.TheImpl as global_allocator
use Rattle.std.specs.declared.alloc.Global.{Global}
use Rattle.std.specs.formers.vec.Vec as vec
use Rattle.dk_syntax.specs.contracts.seq.Seq as seq
use Rattle.dk_syntax.specs.contracts.seq.Seq.TheInside as inside
use Rattle.dk_syntax.specs.declared.seq.Seq.TheInside.{Inside}
use Rattle.dk_syntax.specs.declared.seq.Seq.TheView as seen

-- contracts see the list of the items
abbrev pub the_former : Former {0} → Former {0}
the_former item = list item

-- a `Seq` measures as much as its largest item
abbrev pub the_weighed : {item : Former {0}} → Weighed item → Weighed (the_former item)
the_weighed measure = w_list measure

-- the items, in order
abbrev pub the_items : (Item : Type 0) → List Item → List Item
the_items Item items = items

pub the_items_listed : (Item : Type 0) (items : List Item) → listed _ (children (the_former this) Item items) ≡ the_items Item items
the_items_listed Item items = list-listed Item items

-- a `Seq` of a type with no value is empty
pub the_empty : List ⊥
the_empty = []

-- the one field, as a container of the same items
abbrev vec_field : Former {0}
vec_field = via (vec.the_former this Global) Inside (λ Item s. s.items) (λ Item v. record { items = v }) (λ Item s. refl) (λ Item v. refl)

module _ (From To : RattleType) (change : From.Denot → To.Denot) where
  -- the two lists of items have one code where each item has
  pub the_codes_placed : Recodes From To change → Recodes (seq.the_row From) (seq.the_row To) ((the_former this).map From.Denot To.Denot change)
  the_codes_placed same items = sym (code_map From.coded.code To.coded.code change (λ item. sym (same item)) items)

  -- the two structs lie alike where their items do
  struct_alike : Alike From To change → Alike (inside.the_row From) (inside.the_row To) (vec_field.map From.Denot To.Denot change)
  struct_alike alike = struct_places (inside.the_type From) (inside.the_type To) (vec.mapped change, tt) _ (λ s. refl) refl
      (laid _ _ _ (vec.the_places global.the_row global_allocator.ghosts From To change alike), tt)

  -- and so do the `Seq`s, whose view shows each item of the struct
  pub the_places : Alike From To change → Alike (seq.the_row From) (seq.the_row To) ((the_former this).map From.Denot To.Denot change)
  the_places alike = view_places vec_field (list this) seen.view (λ X Y h s. refl) (λ X s. refl) From.Denot To.Denot change
      (seq.the_row From).coded (seq.the_row To).coded (seen.invariant From.Denot) (seen.invariant To.Denot)
      (λ s p q. refl) (λ s p q. refl) (λ s ok. tt) (λ s ok. tt)
      (over (inside.the_row From)) (over (inside.the_row To)) (struct_alike alike)
