use Rattle.std.proofs.Common.{◌≤◌, length}
use Rattle.norm_host.proofs.instance_file.read_up_to.Given as goal

abbrev pub invariant-loop : goal.invariant-loop
invariant-loop g l = l.done ≤ length l.buf
