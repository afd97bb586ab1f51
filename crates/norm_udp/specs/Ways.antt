-- To whom a hub sends what a member offers, and how often: once to all that listen, and a copy to each receiver that gets one of its own.
use Rattle.std.specs.Prelude.{◌≡◌, ℕ, ◌+◌, Bool, true, List, [], ◌∷◌, map, count_by}
use Rattle.norm_base.specs.Members.{receivers_of, is_node}
use Rattle.norm_base.specs.Settings.{Settings}
use Rattle.udp_rules.specs.Addresses.{gets_copy}
use Rattle.udp_rules.specs.Listening.{is_broadcast, gets_own_copy, hears_broadcast}
use Rattle.norm_udp.specs.declared.member.Member.{Member}
use Rattle.norm_udp.specs.declared.way.Sent.{Sent}

-- the members that these sockets are of, or lead to
abbrev pub nodes_of : List Member → List ℕ
nodes_of members = map (λ (m : Member). m.located.node) members

-- how many of these nodes get what a member offers
abbrev pub copies : Settings → ℕ → List ℕ → ℕ
copies p from nodes = count_by (gets_copy p from) nodes

-- how many of them get a copy of their own from a hub, where these listen
abbrev pub own_copies : Settings → List Bool → ℕ → List ℕ → ℕ
own_copies p listeners from nodes = count_by (gets_own_copy p listeners from) nodes

-- how many of them hear it broadcast
abbrev pub hearing : Settings → List Bool → ℕ → List ℕ → ℕ
hearing p listeners from nodes = count_by (hears_broadcast p listeners from) nodes

-- what goes to the receivers of what a member offers, where these listen
pub record Goes (p : Settings) (listeners : List Bool) (from : ℕ) (sent : Sent) : Type 0 where
  pub to_all : sent.to_all ≡ is_broadcast p listeners from
  pub copies : sent.copies ≡ own_copies p listeners from (receivers_of p p.receivers)

-- Whoever listens, all members but the one that offers get it: by a copy of their own, by the broadcast, or, the sender, by a copy back.
pub record WayLaws : Type 0 where
  pub others : (p : Settings) (listeners : List Bool) (from : ℕ) → is_node p from ≡ true
      → own_copies p listeners from (receivers_of p p.receivers) + hearing p listeners from (receivers_of p p.receivers) + copies p from (p.sender ∷ [])
      ≡ p.receivers
