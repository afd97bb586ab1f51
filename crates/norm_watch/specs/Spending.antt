-- What a node says that ended well, where only that all its turns were made could end it.
use Rattle.std.specs.Prelude.{Bool, true, false, Option, None, Some, if◌then◌else◌}
use Rattle.norm_watch.specs.declared.fabric.Node.{Node}
use Rattle.norm_watch.specs.declared.fabric.Role.{Role}
use Rattle.norm_watch.specs.declared.fabric.Role.TheVariants as role
use Rattle.norm_watch.specs.declared.fabric.Spent.{Spent}

-- only its turns end a receiver and the hub; a sender ends as its work is done
abbrev pub is_ended_by_turns : Role → Bool
is_ended_by_turns role.Sender = false
is_ended_by_turns role.Receiver = true
is_ended_by_turns role.Hub = true

-- how many turns a node's profile has, and whether datagrams still came; of a sender, and of a process that is no node alone, nothing
abbrev pub spent_by : Option Node → Bool → Option Spent
spent_by None busy = None
spent_by (Some n) busy = if is_ended_by_turns n.role then Some (record { turns = n.turns; is_busy = busy }) else None
