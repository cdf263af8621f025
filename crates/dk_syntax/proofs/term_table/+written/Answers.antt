use Rattle.std.proofs.Common.{◌≡◌, arith, Some, length, map, slice_get, take, ap, ap₂, subst, sym, ◌∙◌}
use Rattle.std.proofs.Math.Seq.{take-length}
use Rattle.std.specs.Map.{keys_of}
use Rattle.std.specs.Map.Iter.{deref_pair}
use Rattle.std.specs.Option.{option_map}
use Rattle.dk_syntax.specs.Shapes.{terms_of}
use Rattle.dk_syntax.specs.TermTables.{term_of}
use Rattle.dk_syntax.proofs.EntryLaws.{numbers_read, term_read}
use Rattle.dk_syntax.proofs.ShapeLaws.{AreBelow}
use Rattle.dk_syntax.specs.declared.term.Term.TheVariants as term
use Rattle.dk_syntax.specs.declared.term_table.Shape.{Shape}
use Rattle.dk_syntax.specs.declared.term_table.Shape.TheVariants.{Any, App}
use Rattle.dk_syntax.proofs.term_table.+written.Goals as goal

pub written-requires : goal.written-requires
written-requires t c =
    let es = c.args.entries.now.entries in
    let size = c.in-Some-App-default.field-0-1.now in
    let shape = App c.in-Some-App-default.head c.in-Some-App-default.numbers in
    let entry : slice_get es c.args.n ≡ Some (shape, size) = sym c.get_index.ensures.entry ∙ ap (option_map deref_pair) c.in-Some-App-default.is ∙ ap (λ (s : Shape). Some (s, size)) c.in-Some-App-default.field-0-0-is in
    let below = subst (AreBelow c.args.n) (sym c.as_slice-number-items.ensures) (numbers_read es c.args.n shape size c.requires.kept c.requires.within entry) in
    let one = below c.loop-number.number-index 0 c.loop-number-test.true in
    let within = c.requires.within in
    let measure = c.decreases in
    (omega arith, (omega arith, c.requires.kept))

pub returns-in_ok-copy-in-Some-App-default : goal.returns-in_ok-copy-in-Some-App-default
returns-in_ok-copy-in-Some-App-default t c =
    let es = c.args.entries.now.entries in
    let size = c.in-Some-App-default.field-0-1.now in
    let shape = App c.in-Some-App-default.head c.in-Some-App-default.numbers in
    let entry : slice_get es c.args.n ≡ Some (shape, size) = sym c.get_index.ensures.entry ∙ ap (option_map deref_pair) c.in-Some-App-default.is ∙ ap (λ (s : Shape). Some (s, size)) c.in-Some-App-default.field-0-0-is in
    let items = c.as_slice-number-items.result.now in
    let end : c.loop-number.number-index ≡ length items = let done = c.loop-number-test.false in let le = c.loop-number.auto.number-index-end in omega arith in
    let all = ap (λ n. take n items) end ∙ take-length items ∙ c.as_slice-number-items.ensures in
    ap₂ term.App c.in_ok-copy-in-Some-App-default.ensures (c.loop-number.invariant ∙ ap (map (term_of (terms_of (keys_of es)))) all)
    ∙ sym (term_read es c.args.n shape size c.requires.kept c.requires.within entry)

pub returns-in-Some-Any-default : goal.returns-in-Some-Any-default
returns-in-Some-Any-default t c =
    let es = c.args.entries.now.entries in
    let size = c.in-Some-Any-default.field-0-1.now in
    let entry : slice_get es c.args.n ≡ Some (Any, size) = sym c.get_index.ensures.entry ∙ ap (option_map deref_pair) c.in-Some-Any-default.is ∙ ap (λ (s : Shape). Some (s, size)) c.in-Some-Any-default.field-0-0-is in
    sym (term_read es c.args.n Any size c.requires.kept c.requires.within entry)
