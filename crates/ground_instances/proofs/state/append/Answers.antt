use Rattle.std.proofs.Common.{◌++◌, [], ◌∷◌, Contains, ap, ◌∙◌, arith}
use Rattle.indexmap.specs.IndexSet.{insert_key}
use Rattle.ground_instances.specs.declared.instance.Row.{Row}
use Rattle.ground_instances.proofs.NameEquality.{insert_absent, same_names}
use Rattle.ground_instances.proofs.state.append.Goals as goal

pub returns : goal.returns
returns c =
    let old = c.args.state.now in
    let fresh : Contains old.names.keys c.args.named → ⊥ = λ h. (let e = c.is_listed.ensures.1 h in let f = c.if-is_listed.false in cc) in
    record {
      lits = c.in_ok-lits.lits;
      numbers = c.in_ok-numbers.numbers;
      rows = c.in_ok-push.ensures.items ∙ ap (λ (r : Row). old.rows.items ++ r ∷ []) c.row_of.ensures;
      fresh = fresh;
      ground = c.in_ok-lits.ensures;
      needed = c.in_ok-numbers.ensures;
      names = c.in_ok-insert.ensures.keys ∙ ap (insert_key same_names old.names.keys) c.in_ok-copy.ensures ∙ insert_absent c.args.named old.names.keys fresh;
      literals = (let e = c.in-Some.ensures.1 in let l = c.len.ensures in omega arith);
    }
