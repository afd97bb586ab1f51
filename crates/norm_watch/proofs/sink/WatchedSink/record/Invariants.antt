use Rattle.std.proofs.Common.{◌≡◌}
use Rattle.norm_watch.specs.Watched.{watched_in}
use Rattle.norm_watch.proofs.sink.WatchedSink.record.Given as goal

abbrev pub invariant-loop-byte : goal.invariant-loop-byte
invariant-loop-byte g l = watched_in l.self ≡ watched_in l.fn.self
