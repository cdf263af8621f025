use Rattle.tptp_text.proofs.TextLaws.{answers, few_items, proper_items, only_answer}
use Rattle.tptp_text.proofs.text.read_items.Goals as goal

pub returns-clause-answer : goal.returns-clause-answer
returns-clause-answer c = answers c.args.bytes.now c.all_items.result c.all_items.ensures

pub returns-clause-few : goal.returns-clause-few
returns-clause-few c = few_items c.args.bytes.now c.all_items.result (answers c.args.bytes.now c.all_items.result c.all_items.ensures)

pub returns-clause-only : goal.returns-clause-only
returns-clause-only c = λ answer h told. only_answer c.args.bytes.now c.all_items.result answer c.all_items.ensures h told

pub returns-clause-proper : goal.returns-clause-proper
returns-clause-proper c = proper_items c.args.bytes.now c.all_items.result (answers c.args.bytes.now c.all_items.result c.all_items.ensures)
