use Rattle.tptp_tokens.proofs.LongestToken.{read_told}
use Rattle.tptp_tokens.proofs.scan.token_of.Goals as goal

pub returns : goal.returns
returns c = read_told c.next_token.result (λ place. place.now) c.args.bytes.now c.next_token.ensures.read
