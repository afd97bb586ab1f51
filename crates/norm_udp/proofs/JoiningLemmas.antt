-- The sockets of a member of a group are at its ports.
use Rattle.std.proofs.Common.{ℕ, ◌+◌, Bool, true, false, cond, [], ◌∷◌, Option, Some, None}
use Rattle.udp_rules.specs.Groups.{IsIn}
use Rattle.udp_rules.specs.declared.group.Group.{Group}
use Rattle.norm_udp.specs.Joining.{HearsOffers, AreIn, heard_at}
use Rattle.norm_udp.specs.declared.joined.Listener.{Listener}

-- a sender's socket, or a receiver's two
pub hears_all : (g : Group) (is_sender : Bool) (offers : Option Listener) (feedback : Listener)
    → HearsOffers g is_sender offers → IsIn g feedback.address (g.port + 1)
    → AreIn g (heard_at offers feedback) (cond is_sender ((g.port + 1) ∷ []) (g.port ∷ (g.port + 1) ∷ []))
hears_all g true None feedback offers is = (is, tt)
hears_all g true (Some l) feedback offers is = absurd offers
hears_all g false None feedback offers is = absurd offers
hears_all g false (Some l) feedback offers is = (offers, (is, tt))
