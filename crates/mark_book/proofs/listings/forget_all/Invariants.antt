use Rattle.std.proofs.Common.{◌≡◌, ◌++◌, map, take, drop}
use Rattle.mark_book.specs.Listed.{unsaid}
use Rattle.mark_book.proofs.listings.forget_all.Given as goal

abbrev pub invariant-loop-place : goal.invariant-loop-place
invariant-loop-place l = l.past.entries ≡ map unsaid (take l.place l.initial.past.entries) ++ drop l.place l.initial.past.entries
