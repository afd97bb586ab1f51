-- What a run that persists keeps of each receiver: what its lines said in the sender's current instance.
use Rattle.std.specs.Prelude.{ℕ, ◌+◌, ◌==◌, not, List, map, filter, Bool, true, false, nat_lt, nat_le, Option, None, Some}
use Rattle.std.specs.List.{list_any}
use Rattle.norm_base.specs.Members.{receivers_of}
use Rattle.norm_base.specs.Settings.{Settings}
use Rattle.norm_order.specs.Shapes.{last_source}
use Rattle.fec_plan.specs.declared.position.Position.{Position}
use Rattle.fec_plan.specs.Points.{reaches}
use Rattle.norm_persist.specs.declared.account.Account.{Account}
use Rattle.norm_send_rules.specs.InWindow.{current_shapes}
use Rattle.norm_send_rules.specs.SenderState.{SenderState}
use Rattle.norm_send_rules.specs.Streaming.{cut}
use Rattle.norm_send_rules.specs.Watermarks.{has_member}

-- A receiver's account has the position of its last `past` line, how many `done M expired` lines named it since that line, or since the
-- instance began, and whether the script struck it. As a run begins, no line has named it.
abbrev pub opened : ℕ → Account
opened node = record { node = node; confirmed = None; expired = 0; excused = false }

-- another instance begins
abbrev pub begun_anew : Account → Account
begun_anew a = record a { confirmed = None; expired = 0 }

-- the script struck a receiver
abbrev pub excused_by : ℕ → Account → Account
excused_by node a = elim (a.node == node) [ true ↦ record a { excused = true } | false ↦ a ]

-- the accounts of all receivers of a profile, in order, as a run begins
abbrev pub accounts_of : Settings → List Account
accounts_of p = map opened (receivers_of p p.receivers)

-- a receiver's listing rose: its count begins anew
abbrev pub risen : ℕ → Position → Account → Account
risen node at a = elim (a.node == node) [ true ↦ record a { confirmed = Some at; expired = 0 } | false ↦ a ]

-- a watermark expired that these members had not confirmed
abbrev pub passed_by : List ℕ → Account → Account
passed_by left a = elim (list_any (λ node. node == a.node) left) [ true ↦ record a { expired = a.expired + 1 } | false ↦ a ]

-- the count of one more fits 64 bits
abbrev pub has_room : Account → Bool
has_room a = nat_lt a.expired 18446744073709551615

-- The position that a mark made now would get, if there is one. A mark cuts an open stream, so octets that stand in no closed segment
-- count.
abbrev pub last_position : Settings → SenderState → Option Position
last_position p s = last_source (current_shapes p (cut p s))

-- the receiver confirmed everything up to a position
abbrev pub has_confirmed : Position → Account → Bool
has_confirmed last a = elim a.confirmed [ Some at ↦ reaches at last | None ↦ false ]

-- A receiver lacks something if there is a last position and it confirmed none that reaches it.
abbrev pub lacks : Option Position → Account → Bool
lacks (Some last) a = not (has_confirmed last a)
lacks None a = false

-- With a number given, a member is silent if so many marks expired that it had not confirmed. Without it nobody is.
abbrev pub is_silent : Option ℕ → Account → Bool
is_silent (Some marks) a = nat_le marks a.expired
is_silent None a = false

-- the accounts of the members
abbrev pub of_members : SenderState → List Account → List Account
of_members s accounts = filter (λ (a : Account). has_member a.node s) accounts
