-- The parts of a receiver as what it keeps.
use Rattle.norm_receiver.specs.ReceiverKept.{ReceiverKept}
use Rattle.norm_receiver.specs.declared.parts.Parts.{Parts}

abbrev pub kept_of : Parts → ReceiverKept
kept_of parts = record { p = parts.profile; hold = parts.hold; heard = parts.heard; numbers = parts.numbers }
