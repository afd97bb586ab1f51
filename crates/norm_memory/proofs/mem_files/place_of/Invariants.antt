use Rattle.std.proofs.Common.{◌≡◌, ◌+◌, drop}
use Rattle.norm_memory.specs.Filing.{place_of, named}
use Rattle.norm_memory.proofs.mem_files.place_of.Given as goal

-- no file so far has the name
abbrev pub invariant-loop-place : goal.invariant-loop-place
invariant-loop-place l = l.place + place_of (named (drop l.place l.files)) l.name ≡ place_of (named l.files) l.name
