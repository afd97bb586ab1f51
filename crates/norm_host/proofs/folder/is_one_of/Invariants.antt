use Rattle.std.proofs.Common.{◌≡◌, take, false, string_bytes}
use Rattle.std.specs.Prelude.{◌==◌}
use Rattle.std.specs.Cmp.Lexicographic.{pointwise}
use Rattle.std.specs.List.{list_any}
use Rattle.norm_host.proofs.folder.is_one_of.Given as goal

-- none of those so far is the name
abbrev pub invariant-loop-path : goal.invariant-loop-path
invariant-loop-path l = list_any (λ path. pointwise ◌==◌ (string_bytes path) l.name) (take l.path-index l.paths) ≡ false
