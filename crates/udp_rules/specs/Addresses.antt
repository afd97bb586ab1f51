-- Where the members of a session over UDP are: at ports of this machine. The hub has the profile's port, and the members have the ports behind it, in
-- the order of their ids.
use Rattle.std.specs.Prelude.{◌≡◌, ◌<◌, ℕ, ◌+◌, ◌-◌, ◌==◌, ◌&&◌, nat_lt, nat_le, not, Bool, true, List, [], ◌∷◌, Option, None, Some, if◌then◌else◌}
use Rattle.std.specs.Cmp.Lexicographic.{pointwise}
use Rattle.std.specs.declared.net.socket_addr.SocketAddr.{SocketAddr}
use Rattle.std.specs.declared.net.socket_addr.SocketAddr.TheVariants.{V4, V6}
use Rattle.std.specs.Net.Addr.{ipv4_octets}
use Rattle.std.specs.Net.Socket.{v4_ip, v4_port}
use Rattle.norm_base.specs.Members.{is_node}
use Rattle.norm_base.specs.Settings.{Settings}

-- the port of a member
abbrev pub port_of : Settings → ℕ → ℕ
port_of p node = p.port + 1 + (node - p.sender)

-- the member that has a port
abbrev pub member_with : Settings → ℕ → Option ℕ
member_with p port =
    if nat_lt p.port port && nat_le port (p.port + 1 + p.receivers) then Some (p.sender + (port - (p.port + 1))) else None

-- the octets of this machine's own address
abbrev pub here : List ℕ
here = 127 ∷ 0 ∷ 0 ∷ 1 ∷ []

-- an address of this machine with this port
abbrev pub IsAt : SocketAddr → ℕ → Type 0
IsAt (V4 a) port = (ipv4_octets (v4_ip a) ≡ here) × (v4_port a ≡ port)
IsAt (V6 a) port = ⊥

-- the octets of this machine's broadcast address, where receivers hear what a hub sends to all
abbrev pub everyone_here : List ℕ
everyone_here = 127 ∷ 255 ∷ 255 ∷ 255 ∷ []

-- that address with this port
abbrev pub IsForAll : SocketAddr → ℕ → Type 0
IsForAll (V4 a) port = (ipv4_octets (v4_ip a) ≡ everyone_here) × (v4_port a ≡ port)
IsForAll (V6 a) port = ⊥

-- the member at an address: the one that has its port, where it is one of this machine
abbrev pub member_from : Settings → SocketAddr → Option ℕ
member_from p (V4 a) = if pointwise ◌==◌ (ipv4_octets (v4_ip a)) here then member_with p (v4_port a) else None
member_from p (V6 a) = None

-- a member's datagram goes to each other member, and nobody else's goes anywhere
abbrev pub gets_copy : Settings → ℕ → ℕ → Bool
gets_copy p from to = is_node p from && is_node p to && not (to == from)

-- Each member has a port of its own behind the hub's, and whoever has a port is the member that has it.
pub record AddressLaws : Type 0 where
  pub found : (p : Settings) → (node : ℕ) → is_node p node ≡ true → member_with p (port_of p node) ≡ Some node
  pub only : (p : Settings) (port node : ℕ) → member_with p port ≡ Some node → (is_node p node ≡ true) × (port_of p node ≡ port)
  pub behind : (p : Settings) (node : ℕ) → p.port < port_of p node
  -- what comes from a member's address is known to be that member's
  pub known : (p : Settings) (at : SocketAddr) (node : ℕ) → is_node p node ≡ true → IsAt at (port_of p node) → member_from p at ≡ Some node
