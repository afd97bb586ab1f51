-- What a thread that sends may tell of what it failed at: that a datagram could not be sent, and nothing else.
use Rattle.std.specs.Prelude.{Bool, true, false, Option, None, Some}
use Rattle.norm_udp.specs.declared.cause.SocketCause.{SocketCause}
use Rattle.norm_udp.specs.declared.cause.SocketCause.TheVariants as cause

-- a datagram could not be sent
abbrev pub is_sending : SocketCause → Bool
is_sending (cause.Bind address error) = false
is_sending (cause.Connect address error) = false
is_sending (cause.NoBroadcast address) = false
is_sending (cause.Send address error) = true
is_sending (cause.Receive address error) = false
is_sending (cause.Within fabric) = false

-- nothing is told, or that a datagram could not be sent
abbrev pub tells_sending : Option SocketCause → Bool
tells_sending None = true
tells_sending (Some c) = is_sending c
