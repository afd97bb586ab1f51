use Rattle.std.specs.Prelude.{ℕ}
use Rattle.norm_endings.specs.declared.status.Ending.{Ending}
use Rattle.norm_endings.specs.declared.status.Ending.TheVariants.{Done, Datagram, Memory, Words, Refused, Line, Profile, Read, Write, Fabric, Files, Absent, Spent, Tailed, TailRefused, Event, Relayed, Command, Unsendable, NotAccepted, NotSatisfied, Unlike}

-- the exit status of an ending; a line without meaning has the same whoever refuses it, and so has a profile that is refused
abbrev pub status_of : Ending → ℕ
status_of Done = 0
status_of Memory = 1
status_of Words = 2
status_of (Refused refusal) = 3
status_of (Line n why) = 3
status_of (Profile why) = 3
status_of Read = 4
status_of Write = 5
status_of Fabric = 6
status_of Files = 7
status_of (Absent name) = 7
status_of Spent = 8
status_of Datagram = 9
status_of (Tailed turns bound) = 0
status_of (TailRefused why) = 12
status_of (Relayed lost patience) = 0
status_of (Event n why) = 3
status_of (Command fault) = 13
status_of (Unlike why) = 10
status_of (NotSatisfied which) = 11
status_of (NotAccepted what) = 14
status_of (Unsendable name len) = 14
