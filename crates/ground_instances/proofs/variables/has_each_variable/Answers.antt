use Rattle.std.proofs.Common.{◌≡◌, ◌<◌, true, false, get_or, length, take, sym, ap, ◌∙◌, subst, arith}
use Rattle.std.proofs.Math.Seq.{take-length}
use Rattle.ground_instances.specs.Naming.{HasVariable}
use Rattle.ground_instances.proofs.variables.has_each_variable.Goals as goal

pub returns : goal.returns
returns c = λ e k less.
    (let items = c.as_slice-literal-items.result.now in
    let all : c.loop-literal.literal-index ≡ length items = let a = c.loop-literal-test.false in let b = c.loop-literal.auto.literal-index-end in omega arith in
    let whole = ap (λ n. take n items) all ∙ take-length items ∙ c.as_slice-literal-items.ensures in
    let same = c.as_slice-2.ensures.value in
    let within : k < length c.as_slice-2.result.now = let a = ap length same in let b = c.loop-literal.invariant.0 in omega arith in
    let marked : get_or c.loop-literal.marks.items k false ≡ true = sym (ap (λ l. get_or l k false) same) ∙ c.are_marked-each.ensures e k within in
    subst (λ ls. HasVariable ls k) whole (c.loop-literal.invariant.1 k marked))
