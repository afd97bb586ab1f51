use Rattle.std.specs.Prelude.{ℕ, ◌+◌, ◌<◌, Option, None, Some, length, IfSome}
use Rattle.std.specs.Str.Iter.{lines_rest}
use Rattle.replay.specs.declared.events.Events.{Events}
use Rattle.replay.specs.declared.events.Event.{Event}

-- how many octets of the input were not read yet
abbrev pub left : Events → ℕ
left events = length (lines_rest events.lines)

-- an event that came was read from what was left
abbrev pub GoesOn : Events → Events → Option Event → Type 0
GoesOn before after event = IfSome event (λ _. left after < left before)

-- what is left, with the event that comes next
abbrev pub to_come : Option Event → Events → ℕ
to_come None _ = 0
to_come (Some _) events = left events + 1
