-- A group: members that hear each other by broadcast, on one machine or several, without a hub. The sender sends to the group's port, and receivers to
-- the one behind it: with one port for both, a sender would take its own datagrams back, and find its buffer full when a NACK comes.
use Rattle.std.specs.Prelude.{◌≡◌, ℕ, ◌+◌, ◌==◌, Bool, true, false, nat_le, is_some, List, [], ◌∷◌, length, Option, None, Some, if◌then◌else◌}
use Rattle.std.specs.List.{list_any}
use Rattle.std.specs.declared.net.socket_addr.SocketAddr.{SocketAddr}
use Rattle.std.specs.declared.net.socket_addr.SocketAddr.TheVariants.{V4, V6}
use Rattle.std.specs.Net.Addr.{ipv4_octets}
use Rattle.std.specs.Net.Socket.{v4_ip, v4_port}
use Rattle.norm_base.specs.Settings.{Settings}
use Rattle.norm_ext.specs.Numbers.{number}
use Rattle.udp_rules.specs.Addresses.{gets_copy}
use Rattle.udp_rules.specs.declared.group.Group.{Group}

-- the port that a member speaks to
abbrev pub speaks_to : Settings → ℕ → ℕ → ℕ
speaks_to p port node = if node == p.sender then port else port + 1

-- the ports at which a member hears: a receiver hears what the sender offers, and what other receivers ask for
abbrev pub hears_at : Settings → ℕ → ℕ → List ℕ
hears_at p port node = if node == p.sender then (port + 1) ∷ [] else port ∷ (port + 1) ∷ []

-- a member hears what is sent to this port
abbrev pub hears : Settings → (port node at : ℕ) → Bool
hears p port node at = list_any (λ own. own == at) (hears_at p port node)

-- the group's address, with this port
abbrev pub IsIn : Group → SocketAddr → ℕ → Type 0
IsIn g (V4 a) port = (ipv4_octets (v4_ip a) ≡ ipv4_octets g.address) × (v4_port a ≡ port)
IsIn g (V6 a) port = ⊥

-- the node id of the source that octets have as a message (RFC 5740 section 4.1)
abbrev pub source_in : List ℕ → Option ℕ
source_in octets = if nat_le 8 (length octets) then Some (number 4 4 octets) else None

-- the source, if this node gets what it sends: it is another member of the profile
abbrev pub other_of : Settings → ℕ → Option ℕ → Option ℕ
other_of p node None = None
other_of p node (Some source) = if gets_copy p source node then Some source else None

-- the other member that a datagram is of; none if it is of the node itself, of a stranger, or of nobody
abbrev pub other_in : Settings → ℕ → List ℕ → Option ℕ
other_in p node octets = other_of p node (source_in octets)

-- a datagram is of another member, and else a node passes it over
abbrev pub is_of_another : Settings → ℕ → List ℕ → Bool
is_of_another p node octets = is_some (other_in p node octets)

-- Each member hears each other, and a sender never itself.
pub record GroupLaws : Type 0 where
  pub others : (p : Settings) (port from to : ℕ) → gets_copy p from to ≡ true → hears p port to (speaks_to p port from) ≡ true
  pub sender : (p : Settings) (port : ℕ) → hears p port p.sender (speaks_to p port p.sender) ≡ false
