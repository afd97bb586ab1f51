use Rattle.std.proofs.Common.{◌≡◌, drop}
use Rattle.norm_script.specs.Folder.{line_of}
use Rattle.norm_script.proofs.folder.line_of.Given as goal

-- none so far has this name
abbrev pub invariant-loop-named : goal.invariant-loop-named
invariant-loop-named l = line_of l.before l.name ≡ line_of (drop l.named-index l.before) l.name
