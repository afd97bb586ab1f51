use Rattle.std.proofs.Common.{◌≡◌, take}
use Rattle.norm_folder.specs.Entries.{in_order, names_of}
use Rattle.norm_folder.proofs.order.in_order.Given as goal

-- the names so far are in order
abbrev pub invariant-loop-x : goal.invariant-loop-x
invariant-loop-x l = l.names.items ≡ in_order (names_of (take l.x-index l.named))
