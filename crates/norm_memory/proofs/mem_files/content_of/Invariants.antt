use Rattle.std.proofs.Common.{◌≡◌, drop}
use Rattle.norm_base.specs.Contents.{content_of}
use Rattle.norm_memory.specs.Filing.{named}
use Rattle.norm_memory.proofs.mem_files.content_of.Given as goal

-- no file so far has the name
abbrev pub invariant-loop-file : goal.invariant-loop-file
invariant-loop-file l = content_of (named (drop l.file-index l.files)) l.name ≡ content_of (named l.files) l.name
