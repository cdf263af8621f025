use Rattle.std.proofs.Common.{arith, rules, ap, ◌∙◌, ◌≡◌, ◌<◌, ◌++◌, List, [], ◌∷◌}
use denote.Param.Weighed.{most, most-append}
use Rattle.dk_syntax.specs.declared.symbol.SymKey.{SymKey}
use Rattle.dk_syntax.specs.declared.term.Term.{size-Term, size_is-Term, Term, App}
use Rattle.dk_syntax.specs.declared.term.Term.TheVariants.{outs-App}
use Rattle.dk_syntax.proofs.term.Term.+drop.Goals as goal

-- the arguments before the last are smaller than the term
others_below : (symbol : SymKey) (args others : List Term) (last : Term) → args ≡ others ++ last ∷ [] → most size-Term others < size-Term (App symbol args)
others_below symbol args others last e =
    let m = ap (most size-Term) e ∙ most-append size-Term others (last ∷ []) in
    rw (size_is-Term (App symbol args), outs-App symbol args) (omega arith)

pub drop-args-requires-in-App : goal.drop-args-requires-in-App
drop-args-requires-in-App t c =
    let below = others_below c.in-App.field-0 c.in-App.args c.pop.new.self c.in-Some.last c.in-Some.ensures in
    let same = ap size-Term c.in-App.is in
    let kept = c.loop-self.invariant in
    let smaller = c.decreases in
    λ κs. (((omega arith, tt), tt), search rules)
