-- What a receiver's run keeps, and what it has done so far.
use Rattle.std.specs.Prelude.{ℕ, ◌≡◌, List, Option}
use Rattle.rand_pcg.specs.Lcg.{Lcg}
use Rattle.norm_base.specs.Network.{Network}
use Rattle.norm_base.specs.Settings.{Settings}
use Rattle.norm_base.specs.Told.{Pieces}
use Rattle.norm_journal.specs.Jobs.{Told}
use Rattle.norm_receive_rules.specs.ReceiverState.{ReceiverState}
use Rattle.norm_receiver.specs.ReceiverKept.{ReceiverKept}
use Rattle.norm_receiver.specs.ReceiverSound.{StandsFor}
use Rattle.norm_node.specs.Lone.{Place, Lone, Event}
use Rattle.norm_node.specs.Shown.{Outside, Goes}

-- The profile and the node; its receiver, and the draws; the turn and its moment.
pub record RunKept : Type 0 where
  pub p : Settings
  pub node : ℕ
  pub receiver : ReceiverKept
  pub draws : Lcg
  pub turn : ℕ
  pub now : ℕ

-- the state of the rules, with the receiver's
abbrev pub lone_of : RunKept → ReceiverState → Place → Lone
lone_of k receiver place =
    record { profile = k.p; node = k.node; receiver = receiver; draws = k.draws; turn = k.turn; now = k.now; place = place }

-- where a run began, and what the outside had then
pub record Begun : Type 0 where
  pub start : Lone
  pub before : Outside

-- A run is at a place of a turn: events led there, and the outside has what they show.
pub record At (x : Begun) (k : RunKept) (place : Place) (now : Outside) : Type 0 where
  pub events : List Event
  pub receiver : ReceiverState
  pub goes : Goes x.start x.before events (lone_of k receiver place) now
  pub stands : StandsFor k.receiver receiver
  pub same : k.receiver.p ≡ k.p

-- what the outside has, with this network
abbrev pub over : Outside → Network → Outside
over o network = record o { network = network }

-- with these lines and files
abbrev pub having : Outside → Pieces → Told → Outside
having o written files = record o { written = written; files = files }

-- with these moments of the clock
abbrev pub asked : Outside → Option (List ℕ) → Outside
asked o moments = record o { moments = moments }

-- A run is in the same turn, under the same profile.
pub record IsSameTurn (old new : RunKept) : Type 0 where
  pub turn : new.turn ≡ old.turn
  pub profile : new.p ≡ old.p
