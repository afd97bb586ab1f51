-- What a turn of a hub does.
use Rattle.std.specs.Prelude.{ℕ, ◌≡◌, ◌+◌, [], Bool, true, false}
use Rattle.norm_base.specs.Settings.{Settings}
use Rattle.norm_turns.specs.declared.fault.SessionFault.{SessionFault}
use Rattle.norm_node.specs.Hub.{Around, HubAt, HubKept, HubStopped, Idle, Passing, after_pass}

-- after a take: what it gave was passed on, and the next follows or the turn is over; where it gave none the turn is over
abbrev pub HasPassed : Bool → Settings → Around → HubKept → ℕ → Around → Type 0
HasPassed true p o k count now = HubAt p o k (after_pass (Passing 0 [] count)) now
HasPassed false p o k count now = HubAt p o k Idle now

-- A run is in the next turn, under the same profile.
pub record IsNextHubTurn (old new : HubKept) : Type 0 where
  pub turn : new.turn ≡ old.turn + 1
  pub profile : new.p ≡ old.p

-- A turn is made.
abbrev pub HubTurns : (old new : HubKept) → (before after : Around) → Type 0
HubTurns old new before after = (p : Settings) (o : Around) → HubAt p o old Idle before → HubAt p o new Idle after

-- A fault stops a turn.
abbrev pub HubStopsTurn : HubKept → SessionFault → (before after : Around) → Type 0
HubStopsTurn old failed before after = (p : Settings) (o : Around) → HubAt p o old Idle before → HubStopped p o failed after

-- All turns are made, where none was.
abbrev pub HubTakesTurns : (old new : HubKept) → (before after : Around) → Type 0
HubTakesTurns old new before after = (new.turn ≡ old.p.turns) × HubTurns old new before after
