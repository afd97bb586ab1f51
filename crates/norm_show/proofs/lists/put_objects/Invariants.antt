use Rattle.std.proofs.Common.{◌≡◌, length, map}
use Rattle.std.specs.Fmt.{decimal}
use Rattle.norm_ext.specs.Lists.{objects_of}
use Rattle.norm_text.specs.Words.{with_pieces, with_word, numbers_word}
use Rattle.norm_show.proofs.lists.put_objects.Given as goal

abbrev pub invariant-objects : goal.invariant-objects
invariant-objects l = with_pieces 44 l.line (map decimal (objects_of l.rest)) ≡ with_word l.fn.line (numbers_word (objects_of l.fn.list))

abbrev pub decreases-objects : goal.decreases-objects
decreases-objects l = length l.rest
