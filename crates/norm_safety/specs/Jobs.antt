-- What commands presuppose that their types say in a program: octets are octets, and an instance id has 16 bits. And runs
-- of data and files alone.
use Rattle.std.specs.Prelude.{◌<◌, List, ⊤}
use Rattle.std.specs.List.{AllByRecursion}
use Rattle.norm_base.specs.Octets.{AreOctets}
use Rattle.norm_send_rules.specs.declared.job.Job.{Job}
use Rattle.norm_send_rules.specs.declared.job.Job.TheVariants as job
use Rattle.norm_safety.specs.Events.{Event, Commanded}

-- a command's octets and its instance id
abbrev pub IsJob : Job → Type 0
IsJob (job.Data info bytes) = AreOctets bytes
IsJob (job.File name bytes) = AreOctets bytes
IsJob (job.Write bytes) = AreOctets bytes
IsJob (job.Restart instance) = instance < 65536
IsJob _ = ⊤

-- each command of a run
abbrev pub IsEvent : Event → Type 0
IsEvent (Commanded by job now) = IsJob job
IsEvent _ = ⊤

-- each event is one that a program can make
abbrev pub AreEvents : List Event → Type 0
AreEvents events = AllByRecursion IsEvent events

-- it opens no stream
abbrev pub OpensNone : Job → Type 0
OpensNone job.Open = ⊥
OpensNone _ = ⊤

-- an event is no opening of a stream
abbrev pub IsOfObjects : Event → Type 0
IsOfObjects (Commanded by job now) = OpensNone job
IsOfObjects _ = ⊤

-- a run of data and files alone
abbrev pub AreOfObjects : List Event → Type 0
AreOfObjects events = AllByRecursion IsOfObjects events
