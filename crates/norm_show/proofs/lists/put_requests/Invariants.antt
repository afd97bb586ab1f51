use Rattle.std.proofs.Common.{◌≡◌, map}
use Rattle.norm_text.specs.Words.{with_pieces, with_word}
use Rattle.norm_show.specs.Words.{request_word, requests_word}
use Rattle.norm_show.proofs.lists.put_requests.Given as goal

abbrev pub invariant-loop-request : goal.invariant-loop-request
invariant-loop-request l =
    (goal.iterator-loop-request).can_next l.request-iterator × (goal.iterator-loop-request).is_finite l.request-iterator
    × (with_pieces 44 l.line (map request_word l.request-iterator) ≡ with_word l.fn.line (requests_word l.fn.list))
