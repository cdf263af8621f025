use Rattle.step_skolem.proofs.SeenTerms.{seen_beside_any, seen_beside_variable}
use Rattle.step_skolem.proofs.seeing.+seen_in_term.Goals as goal

pub seen_in_term-returns-in-Var-there : goal.seen_in_term-returns-in-Var-there
seen_in_term-returns-in-Var-there t c = seen_beside_variable c.args.k c.args.term.now c.args.there.now _ _ _ c.in-App.is c.in-Var-there.is

pub seen_in_term-returns-in-Any-there : goal.seen_in_term-returns-in-Any-there
seen_in_term-returns-in-Any-there t c = seen_beside_any c.args.k c.args.term.now c.args.there.now _ _ c.in-App.is c.in-Any-there.is
