-- When a run is safe: accepted objects enter the transport order once each; a receiver hands up that order, with a loss
-- only where the sender dropped data; and the sender lists a receiver past a watermark only after it handed up
-- everything before, a watermark being satisfied exactly when its quorum of members is listed.
use Rattle.std.specs.Prelude.{List, Bool, ◌&&◌}
use Rattle.norm_base.specs.Settings.{Settings}
use Rattle.norm_safety.specs.Events.{Event}
use Rattle.norm_safety.specs.History.{History, history}
use Rattle.norm_safety.specs.OnceEach.{OnceEach, is_once_each}
use Rattle.norm_safety.specs.InOrder.{InOrder, is_in_order}
use Rattle.norm_safety.specs.ListedAfter.{ListedAfter, is_listed_after}
use Rattle.norm_safety.specs.SatisfiedExactly.{SatisfiedExactly, is_satisfied_exactly}

-- the four parts, of what happened
pub record IsSafe (p : Settings) (h : History) : Type 0 where
  pub once : OnceEach h
  pub order : InOrder p h
  pub listed : ListedAfter p h
  pub satisfied : SatisfiedExactly h

-- a run is safe
abbrev pub Safe : Settings → List Event → Type 0
Safe p events = IsSafe p (history p events)

-- The same as a test.
abbrev pub is_safe : Settings → History → Bool
is_safe p h = is_once_each h && is_in_order p h && is_listed_after p h && is_satisfied_exactly h
