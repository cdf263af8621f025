-- What holds of the items of each text.
use Rattle.std.specs.Prelude.{List, All}
pub use Rattle.tptp_formulas.specs.Proper.{IfPlain, IsProper}
use Rattle.tptp_text.specs.declared.item.Item.{Item}

-- Each formula of the items is closed and well-formed, and has no Any.
abbrev pub HaveProperFormulas : List Item → Type 0
HaveProperFormulas items = All (λ item. IfPlain item.body IsProper) items
