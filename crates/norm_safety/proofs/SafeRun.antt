-- Safety, of every lawful run; and its first part of every honest run.
use Rattle.std.specs.Prelude.{List}
use Rattle.norm_base.specs.Settings.{Settings, InRange}
use Rattle.norm_safety.specs.Events.{Event}
use Rattle.norm_safety.specs.History.{history}
use Rattle.norm_safety.specs.Jobs.{AreEvents}
use Rattle.norm_safety.specs.Lawful.{Lawful}
use Rattle.norm_safety.specs.Laws.{SafeRun}
use Rattle.norm_safety.specs.Safe.{IsSafe}
use Rattle.norm_safety.proofs.ListRun.{listed_run}
use Rattle.norm_safety.proofs.OnceRun.{once_each_run, lawful_honest}
use Rattle.norm_safety.proofs.OrderRun.{in_order_run}
use Rattle.norm_safety.proofs.SatisfiedRun.{satisfied_run}

is_safe_run : (p : Settings) → InRange p → (events : List Event) → Lawful p events → AreEvents events
    → IsSafe p (history p events)
is_safe_run p range events lawful are = record {
  once = once_each_run p events (lawful_honest p events lawful);
  order = in_order_run p range events lawful are;
  listed = listed_run p range events lawful are;
  satisfied = satisfied_run p range events;
}

pub safe_run : SafeRun
safe_run = record { safe = is_safe_run; once = once_each_run; order = in_order_run; listed = listed_run }
