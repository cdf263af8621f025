use Rattle.std.proofs.Common.{◌≡◌, drop, map}
use Rattle.dk_io.specs.Memory.{file_named, file_of}
use Rattle.dk_io.proofs.mem_inputs.place_of.Given as goal

abbrev pub invariant-loop-place : goal.invariant-loop-place
invariant-loop-place l = file_named (map file_of (drop l.place l.files)) l.name ≡ file_named (map file_of l.files) l.name
