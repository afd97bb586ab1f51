-- Which datagrams a receiver's network passes over: those of a sender in an instance whose transmission information is not of the receiver's profile.
use Rattle.std.specs.Prelude.{ℕ, ◌==◌, ◌&&◌, ◌||◌, nat_le, Bool, true, false, Option, None, Some, if◌then◌else◌}
use Rattle.norm_base.specs.Settings.{Settings}
use Rattle.norm_base.specs.declared.kinds.Local.{Local}
use Rattle.norm_base.specs.declared.kinds.Local.TheVariants as members
use Rattle.norm_ext.specs.Asking.{has_flag}
use Rattle.norm_ext.specs.Extensions.{Fti}
use Rattle.udp_rules.specs.declared.heard.Heard.{Heard}
use Rattle.udp_rules.specs.declared.misfit.Difference.{Difference}
use Rattle.udp_rules.specs.declared.misfit.Difference.TheVariants as differs
use Rattle.udp_rules.specs.declared.misfit.Misfit.{Misfit}

-- the flags of INFO and DATA have STREAM (RFC 5740 section 4.2.1), and then the length says nothing
abbrev pub says_stream : ℕ → Bool
says_stream flags = has_flag flags 32

-- symbols and blocks have the profile's sizes
abbrev pub has_sizes : Settings → Fti → Bool
has_sizes p f = f.e == p.e && f.b == p.b && f.max_n == p.max_n

-- The transmission information of a sender with this profile: its symbols and blocks have the profile's sizes, and what is no stream is no longer
-- than an object may be.
abbrev pub fits : Settings → Fti → ℕ → Bool
fits p f flags = has_sizes p f && (says_stream flags || nat_le f.l p.octets)

-- what a node compares with: a receiver alone with its profile, and any other with none
abbrev pub compared : Settings → Local → Option Settings
compared p members.All = None
compared p (members.One node) = if node == p.sender then None else Some p
compared p members.Hub = None

-- the instance that is cut off is this one
abbrev pub is_in : Option ℕ → ℕ → Bool
is_in None instance = false
is_in (Some cut) instance = cut == instance

-- Which instance is cut off after transmission information of this one: one that does not fit cuts its instance off, and one that fits ends that.
abbrev pub cut_by : Bool → Option ℕ → ℕ → Option ℕ
cut_by false cut instance = Some instance
cut_by true cut instance = if is_in cut instance then None else cut

-- the same after INFO, DATA or a command of the profile's sender, which may have no transmission information
abbrev pub cut_after : Settings → Option ℕ → Heard → Option ℕ
cut_after p cut h = elim h.fti [ None ↦ cut | Some f ↦ cut_by (fits p f h.flags) cut h.instance ]

-- the same after any datagram, at a node that has this profile to compare with, or none
abbrev pub cut_then : Option Settings → Option ℕ → Option Heard → Option ℕ
cut_then None cut h = cut
cut_then (Some p) cut None = cut
cut_then (Some p) cut (Some h) = if h.sender == p.sender then cut_after p cut h else cut

-- a datagram is of the profile's sender and of the instance that is cut off
abbrev pub is_cut_off : Option Settings → Option ℕ → Option Heard → Bool
is_cut_off None cut h = false
is_cut_off (Some p) cut None = false
is_cut_off (Some p) cut (Some h) = h.sender == p.sender && is_in cut h.instance

-- in what transmission information that does not fit differs from a profile: in the sizes, or else in the length
abbrev pub difference_of : Settings → Fti → Difference
difference_of p f = if has_sizes p f
    then differs.Length f.l p.octets
    else differs.Sizes (record { e = f.e; b = f.b; max_n = f.max_n }) (record { e = p.e; b = p.b; max_n = p.max_n })

-- what is told of a message with such transmission information
abbrev pub misfit_of : Settings → Heard → Fti → Misfit
misfit_of p h f = record { sender = h.sender; instance = h.instance; difference = difference_of p f }

-- what is told after a message is passed over: the first one stays, and a message without transmission information adds none
abbrev pub first_misfit : Settings → Option Misfit → Heard → Option Misfit
first_misfit p (Some m) h = Some m
first_misfit p None h = elim h.fti [ None ↦ None | Some f ↦ Some (misfit_of p h f) ]

-- the same after any datagram, of which this says whether it is passed over
abbrev pub misfit_then : Option Settings → Bool → Option Misfit → Option Heard → Option Misfit
misfit_then None passed m h = m
misfit_then (Some p) passed m None = m
misfit_then (Some p) passed m (Some h) = if passed then first_misfit p m h else m
