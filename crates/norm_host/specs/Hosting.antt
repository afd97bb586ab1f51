use Rattle.std.specs.Prelude.{◌≡◌, ℕ, List, [], ◌∷◌, ◌++◌, ◌||◌, Bool, true, false, Some, None, ⊤, if◌then◌else◌}
use Rattle.norm_base.specs.Copies.{members_at}
use Rattle.norm_base.specs.Faults.{one_more}
use Rattle.norm_base.specs.Network.{Network}
use Rattle.norm_base.specs.Settings.{Settings}
use Rattle.norm_base.specs.declared.kinds.FabricKind.{FabricKind}
use Rattle.norm_base.specs.declared.kinds.FabricKind.TheVariants as kind
use Rattle.norm_base.specs.declared.kinds.Local.{Local}
use Rattle.norm_base.specs.declared.kinds.Local.TheVariants as of
use Rattle.norm_memory.specs.Chances.{ChanceState, chance_unstarted, chance_started, chance_offer, chance_take}
use Rattle.norm_memory.specs.Direct.{direct_offer}
use Rattle.norm_memory.specs.Networks.{NetworkState, unstarted, started, after_take}
use Rattle.norm_udp.specs.Passing.{passed_by, misfit_by}
use Rattle.norm_udp.specs.Untold.{untold}
use Rattle.norm_udp.specs.declared.fabric.UdpFabric.{UdpFabric}

-- A network that is one of three by the profile of its last start: its starts, which of the three it is, and how often a
-- call failed. Of sockets nothing is known.
pub record HostState : Type 0 where
  pub starts : List (Settings × Local)
  pub kind : FabricKind
  pub direct : NetworkState
  pub chance : ChanceState
  pub faults : ℕ

abbrev pub is_chance : FabricKind → Bool
is_chance kind.Direct = false
is_chance kind.Chance = true
is_chance kind.Udp = false

-- it is the one that loses nothing
abbrev pub is_direct : FabricKind → Bool
is_direct kind.Direct = true
is_direct kind.Chance = false
is_direct kind.Udp = false

-- the one in memory that it is
abbrev pub network_of : HostState → NetworkState
network_of s = if is_chance s.kind then s.chance.network else s.direct

-- it is one of sockets
abbrev pub is_udp : FabricKind → Bool
is_udp kind.Direct = false
is_udp kind.Chance = false
is_udp kind.Udp = true

-- one node of its own, or the hub between such nodes
abbrev pub is_alone : Local → Bool
is_alone of.All = false
is_alone (of.One node) = true
is_alone of.Hub = true

-- a network within one process cannot bring a node of its own to others
abbrev pub is_within : FabricKind → Local → Bool
is_within kind.Direct members = is_alone members
is_within kind.Chance members = is_alone members
is_within kind.Udp members = false

-- a start may fail: over sockets, and of a node of its own over a network within one process
abbrev pub may_fail : FabricKind → Local → Bool
may_fail fabric members = is_within fabric members || is_udp fabric

-- in memory it tells its starts and what that network tells, is honest, and is direct where that one loses nothing; over
-- sockets it tells nothing
abbrev pub host_told : HostState → Network
host_told s = if is_udp s.kind then untold else record {
  starts = Some s.starts;
  offered = Some (network_of s).offered;
  answers = Some (network_of s).answers;
  honest = true;
  direct = is_direct s.kind;
}

-- where it is the one that loses nothing, both had their last start with the same members
abbrev pub SharesMembers : List (Settings × Local) → FabricKind → NetworkState → Type 0
SharesMembers starts kind.Direct direct = members_at starts ≡ members_at direct.starts
SharesMembers starts kind.Chance direct = ⊤
SharesMembers starts kind.Udp direct = ⊤

-- in memory its sockets passed over nothing
abbrev pub PassesNothing : {R : Type 0} → FabricKind → UdpFabric R → Type 0
PassesNothing k udp = is_udp k ≡ false → (passed_by udp ≡ 0) × (misfit_by udp ≡ None)

-- as it was made
abbrev pub host_unstarted : HostState
host_unstarted = record { starts = []; kind = kind.Direct; direct = unstarted; chance = chance_unstarted; faults = 0 }

-- a start that was Ok: the one that the profile names begins a session
abbrev pub host_started : HostState → Settings → Local → HostState
host_started s profile local = record {
  starts = s.starts ++ (profile, local) ∷ [];
  kind = profile.fabric;
  direct = if is_direct profile.fabric then started s.direct profile local else s.direct;
  chance = if is_chance profile.fabric then chance_started s.chance profile local else s.chance;
  faults = s.faults;
}

-- a call that failed
abbrev pub host_failed : HostState → HostState
host_failed s = record { starts = s.starts; kind = s.kind; direct = s.direct; chance = s.chance; faults = one_more s.faults }

-- an offer
abbrev pub host_offer : HostState → ℕ → List ℕ → HostState
host_offer s from bytes = record {
  starts = s.starts;
  kind = s.kind;
  direct = if is_direct s.kind then direct_offer s.direct from bytes else s.direct;
  chance = if is_chance s.kind then chance_offer s.chance from bytes else s.chance;
  faults = s.faults;
}

-- a take
abbrev pub host_take : HostState → HostState
host_take s = record {
  starts = s.starts;
  kind = s.kind;
  direct = if is_direct s.kind then after_take s.direct else s.direct;
  chance = if is_chance s.kind then chance_take s.chance else s.chance;
  faults = s.faults;
}
