use Rattle.std.proofs.Common.{map}
use Rattle.dk_io.specs.Memory.{file_of}
use Rattle.dk_io.proofs.Told.{tells_only}
use Rattle.dk_io.proofs.mem_inputs.MemInputs.new.Goals as goal

pub returns-clause-told : goal.returns-clause-told
returns-clause-told c = tells_only (map file_of c.args.files.items)
