-- What a tick gave: a datagram that it wrote, or nothing.
use Rattle.std.specs.Prelude.{ℕ, List, Option, None, Some}
use Rattle.norm_base.specs.declared.kinds.Sent.{Sent}
use Rattle.norm_base.specs.declared.kinds.Sent.TheVariants.{Nothing, Datagram}

-- what is said of a datagram that was sent, or of none
abbrev pub sent_of : Option (List ℕ) → Sent
sent_of None = Nothing
sent_of (Some octets) = Datagram

-- the datagram that was sent, by what is said and the octets that were written
abbrev pub datagram_of : Sent → List ℕ → Option (List ℕ)
datagram_of Nothing octets = None
datagram_of Datagram octets = Some octets
