use Rattle.std.proofs.Common.{◌≡◌, ◌+◌, length}
use Rattle.norm_ext.specs.Pieces.{checked_behind}
use Rattle.norm_ext.specs.Extensions.{extensions_checked, extension_checked, extension_length}
use Rattle.norm_ext.proofs.extensions.check_list.Given as goal

abbrev pub invariant-loop-rest : goal.invariant-loop-rest
invariant-loop-rest l = record {
  so_far : checked_behind extension_checked extension_length l.at 0 l.rest ≡ extensions_checked l.from l.words;
  place : l.at + length l.rest ≡ l.from + length l.words;
}

abbrev pub decreases-loop-rest : goal.decreases-loop-rest
decreases-loop-rest l = length l.rest
