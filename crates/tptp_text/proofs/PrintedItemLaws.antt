-- The text of a printed item begins that item.
use Rattle.std.proofs.Common.{◌≡◌, ℕ, ◌^◌, ◌<◌, true, List, [], ◌∷◌, Some, inl, inr, refl, subst, codes}
use Rattle.std.specs.List.{list_all}
use Rattle.std.proofs.lemmas.Bool.{cases_Bool}
use Rattle.dk_syntax.specs.Depth.{formula_depth}
use Rattle.dk_syntax.specs.Symbols.{formula_occurrences}
use Rattle.dk_syntax.specs.declared.Formula.{Formula}
use Rattle.tptp_tokens.specs.Bytes.{is_digit}
use Rattle.tptp_tokens.specs.Spelling.{IsQuoted}
use Rattle.tptp_tokens.specs.declared.Token.TheVariants as t
use Rattle.tptp_formulas.specs.Proper.{IsProper}
use Rattle.tptp_formulas.specs.Written.{Written}
use Rattle.tptp_formulas.specs.declared.Lang.TheVariants as lang
use Rattle.tptp_text.specs.Items.{annotated, NoSource, IsItem, Annotated}
use Rattle.tptp_text.specs.Printed.{AreNamed, is_digit_run, is_lower_word, printed_as, printed_item}
use Rattle.tptp_text.specs.PrintedForms.{whole, parts_of}
use Rattle.tptp_text.specs.PrintedTokens.{formula_tokens, item_name_token, item_tokens}
use Rattle.tptp_text.specs.Sources.{name_of}
use Rattle.tptp_text.specs.Text.{BeginsItem}
use Rattle.tptp_text.specs.declared.item.Source.TheVariants as source
use Rattle.tptp_text.proofs.PrintedFormLaws.{formula_written}
use Rattle.tptp_text.proofs.PrintedMeaning.{printed_body}
use Rattle.tptp_text.proofs.PrintedTokenLaws.{item_reads}

digits_name : (name : List ℕ) → is_digit_run name ≡ true → list_all is_digit name ≡ true
digits_name [] e = refl
digits_name (b ∷ name) e = e

name_kept : (name : List ℕ) → name_of (item_name_token name) ≡ Some name
name_kept name = elim (cases_Bool (is_lower_word name)) [
  | inl e ↦ rw e refl
  | inr e ↦ elim (cases_Bool (is_digit_run name)) [
    | inl d ↦ rw (e, d) (rw (digits_name name d) refl)
    | inr d ↦ rw (e, d) refl
  ]
]

module _ (name role : List ℕ) (f : Formula) (role_so : is_lower_word role ≡ true) (small : formula_depth f < 2 ^ 64) (proper : IsProper f) where
  item_is : annotated lang.Fof name role (whole (parts_of f 0)) source.Missing ≡ printed_as name role f
  item_is = let h = printed_body f small proper in rw (h.0, h.1) refl

  written : Written lang.Fof (formula_tokens f 0 (t.CloseRound ∷ [])) (whole (parts_of f 0)) (t.CloseRound ∷ [])
  written = record { formula = formula_written f 0 (t.CloseRound ∷ []); ends = refl; fits = refl }

  tokens_are : IsItem (item_tokens name role f) (printed_as name role f)
  tokens_are = subst (IsItem (item_tokens name role f)) item_is
      (rw role_so (Annotated (codes "fof") lang.Fof (item_name_token name) name role (formula_tokens f 0 (t.CloseRound ∷ [])) (whole (parts_of f 0)) (t.CloseRound ∷ []) source.Missing refl (name_kept name) written NoSource))

  -- Of a closed formula without Any, whose symbols have names of printable bytes and as many arguments as their arity, the printed
  -- item is read as the item that was printed.
  pub begins : IsQuoted name → AreNamed (formula_occurrences f) → BeginsItem (printed_item name role f) (printed_as name role f) (10 ∷ [])
  begins named names = record { tokens = item_tokens name role f; are = item_reads name role f named role_so small names; reads = tokens_are }
