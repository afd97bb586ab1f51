-- From which machine a node of a group takes a member's number. If two machines run one number, one would confirm what the other lacks.
use Rattle.std.specs.Prelude.{ℕ, ◌-◌, ◌==◌, ◌&&◌, ◌||◌, nat_le, Bool, true, false, not, List, Option, None, Some, slice_index_or, slice_set, if◌then◌else◌}
use Rattle.std.specs.Cmp.Lexicographic.{pointwise}
use Rattle.std.specs.Net.Addr.{ipv4_octets}
use Rattle.std.specs.declared.net.ipv4_addr.Ipv4Addr.{Ipv4Addr}
use Rattle.norm_base.specs.Settings.{Settings}
use Rattle.udp_rules.specs.declared.machine.Machine.{Machine}
use Rattle.udp_rules.specs.declared.machine.SecondMachine.{SecondMachine}

-- whose machine a node keeps: a sender that of each receiver, and a receiver that of the sender
abbrev pub keeps : Settings → (node from : ℕ) → Bool
keeps p node from = node == p.sender || from == p.sender

abbrev pub is_same : Ipv4Addr → Ipv4Addr → Bool
is_same a b = pointwise ◌==◌ (ipv4_octets a) (ipv4_octets b)

-- A kept machine gives way to another: at the sender never, and at a receiver after ten seconds without a datagram of it.
abbrev pub gives_way : Settings → (node heard now : ℕ) → Bool
gives_way p node heard now = not (node == p.sender) && nat_le 10000000 (now - heard)

-- a number is taken from this machine, at this moment, where another may be kept
abbrev pub takes_from : Settings → ℕ → Option Machine → Ipv4Addr → ℕ → Bool
takes_from p node None at now = true
takes_from p node (Some m) at now = is_same m.address at || gives_way p node m.heard now

-- what is kept then: the machine that the number was taken from last, and when
abbrev pub kept_then : Bool → Option Machine → Ipv4Addr → ℕ → Option Machine
kept_then true kept at now = Some (record { address = at; heard = now })
kept_then false kept at now = kept

-- what is told of a machine that was passed over: the first one stays
abbrev pub second_then : Option SecondMachine → ℕ → Option Machine → Ipv4Addr → Option SecondMachine
second_then (Some second) from kept at = Some second
second_then None from None at = None
second_then None from (Some m) at = Some (record { node = from; address = at; kept = m.address })

-- the machine that is kept for a member, by the members' places, the sender's first
abbrev pub kept_for : Settings → List (Option Machine) → ℕ → Option Machine
kept_for p kept from = slice_index_or kept (from - p.sender) None

-- a node takes what a member sent from this machine at this moment
abbrev pub takes : Settings → (node from : ℕ) → List (Option Machine) → Ipv4Addr → ℕ → Bool
takes p node from kept at now = if keeps p node from then takes_from p node (kept_for p kept from) at now else true

-- what it keeps then, of all members
abbrev pub kept_after : Settings → (node from : ℕ) → List (Option Machine) → Ipv4Addr → ℕ → List (Option Machine)
kept_after p node from kept at now =
    if keeps p node from
    then slice_set kept (from - p.sender) (kept_then (takes_from p node (kept_for p kept from) at now) (kept_for p kept from) at now)
    else kept

-- and what is told then
abbrev pub second_after : Settings → (node from : ℕ) → List (Option Machine) → Option SecondMachine → Ipv4Addr → ℕ → Option SecondMachine
second_after p node from kept second at now =
    if takes p node from kept at now then second else second_then second from (kept_for p kept from) at
