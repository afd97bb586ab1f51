-- A member alone in a group: at which addresses it hears and to which it speaks, and what becomes of a datagram that it sends.
use Rattle.std.specs.Prelude.{◌≡◌, ℕ, ◌-◌, ◌==◌, Bool, true, false, List, [], ◌∷◌, ⊤, Option, None, Some, Result, Ok, Err, if◌then◌else◌}
use Rattle.std.specs.declared.net.socket_addr.SocketAddr.{SocketAddr}
use Rattle.std.specs.declared.io.Error.{Error}
use Rattle.std.specs.IoError.{raw_os_error}
use Rattle.norm_base.specs.Members.{is_receiver}
use Rattle.norm_base.specs.Settings.{Settings}
use Rattle.udp_rules.specs.Addresses.{IsForAll}
use Rattle.udp_rules.specs.Groups.{IsIn, hears_at, speaks_to}
use Rattle.udp_rules.specs.Losses.{is_group_loss}
use Rattle.udp_rules.specs.declared.group.Group.{Group}
use Rattle.norm_udp.specs.declared.joined.Joined.{Joined}
use Rattle.norm_udp.specs.declared.joined.Listener.{Listener}

-- a socket at the group's address and a port
abbrev pub IsListener : Group → ℕ → Listener → Type 0
IsListener g port l = IsIn g l.address port

-- what hears the sender: a socket at the group's port, and none at the sender itself
abbrev pub HearsOffers : Group → Bool → Option Listener → Type 0
HearsOffers g true None = ⊤
HearsOffers g true (Some l) = ⊥
HearsOffers g false None = ⊥
HearsOffers g false (Some l) = IsListener g g.port l

-- the addresses at which a member hears
abbrev pub heard_at : Option Listener → Listener → List SocketAddr
heard_at None feedback = feedback.address ∷ []
heard_at (Some offers) feedback = offers.address ∷ feedback.address ∷ []

-- these are the group's address with these ports, in their order
abbrev pub AreIn : Group → List SocketAddr → List ℕ → Type 0
AreIn g [] [] = ⊤
AreIn g [] (port ∷ ports) = ⊥
AreIn g (at ∷ ats) [] = ⊥
AreIn g (at ∷ ats) (port ∷ ports) = IsIn g at port × AreIn g ats ports

-- a member of a profile in a group: it hears at its ports, and speaks to its port
pub record IsJoined (g : Group) (p : Settings) (own : ℕ) (j : Joined) : Type 0 where
  pub node : j.member.located.node ≡ own
  pub hears : AreIn g (heard_at j.offers j.feedback) (hears_at p g.port own)
  pub speaks : IsIn g j.to (speaks_to p g.port own)

-- a member alone that offers to a hub hears what goes to all only if it is a receiver, and then at this machine's broadcast address
abbrev pub HearsAll : Settings → ℕ → Option Listener → Type 0
HearsAll p node None = ⊤
HearsAll p node (Some l) = (is_receiver p node ≡ true) × IsForAll l.address p.port

-- A member alone whose socket is connected to the hub, so that it hears the hub alone, is the sender. A receiver hears sockets of other ports too.
abbrev pub IsUplink : Settings → ℕ → Bool → Type 0
IsUplink p node connected = connected ≡ true → node ≡ p.sender

-- a datagram was sent, or is lost; any other error is a fault
abbrev pub is_sent : Result ℕ Error → Bool
is_sent (Ok n) = true
is_sent (Err e) = is_group_loss (raw_os_error e)

-- how many looks there are until one begins with what receivers send: one of sixteen does
abbrev pub looks_then : ℕ → ℕ
looks_then left = if left == 0 then 15 else left - 1
