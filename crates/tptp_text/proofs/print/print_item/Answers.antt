use Rattle.std.proofs.Common.{◌≡◌, ◌⊎◌, ℕ, List, [], ◌∷◌, Result, Ok, Err, sym, subst}
use Rattle.dk_syntax.specs.declared.Formula.{Formula}
use Rattle.tptp_text.specs.Printed.{IsPrintable, printed_as, printed_item}
use Rattle.tptp_text.specs.Text.{IsReadAnswer}
use Rattle.tptp_text.specs.declared.fault.TptpFault.{TptpFault}
use Rattle.tptp_text.specs.declared.fault.TptpFault.TheVariants.{Memory}
use Rattle.tptp_text.specs.declared.item.Item.{Item}
use Rattle.tptp_text.proofs.PrintedLimits.{printed_is_read, only_printed}
use Rattle.tptp_text.proofs.print.print_item.Goals as goal

module _ (name role : List ℕ) (body : Formula) (text : List ℕ) (e : text ≡ printed_item name role body) (h : IsPrintable name role body) where
  is_read : IsReadAnswer text (Ok (printed_as name role body ∷ []))
  is_read = subst (λ (x : List ℕ). IsReadAnswer x (Ok (printed_as name role body ∷ []))) (sym e) (printed_is_read name role body h)

  only : (answer : Result (List Item) TptpFault) → IsReadAnswer text answer → (answer ≡ Ok (printed_as name role body ∷ [])) ⊎ (answer ≡ Err Memory)
  only answer reads = only_printed name role body h answer (subst (λ (x : List ℕ). IsReadAnswer x answer) e reads)

pub returns-clause-reads : goal.returns-clause-reads
returns-clause-reads c = is_read c.args.name.now c.args.role.now c.args.formula.now c.in_ok-text.text.items c.in_ok-text.ensures

pub returns-clause-only : goal.returns-clause-only
returns-clause-only c = only c.args.name.now c.args.role.now c.args.formula.now c.in_ok-text.text.items c.in_ok-text.ensures
