-- The parts of a sender as what it keeps.
use Rattle.norm_sender.specs.SenderKept.{SenderKept}
use Rattle.norm_sender.specs.declared.parts.Parts.{Parts}

abbrev pub kept_of : Parts → SenderKept
kept_of parts = record { p = parts.profile; window = parts.window; union = parts.union; book = parts.book; pace = parts.pace }
