-- The members of a session: its sender, and the receivers, whose ids follow the sender's.
use Rattle.std.specs.Prelude.{ℕ, zero, suc, ◌+◌, ◌==◌, ◌&&◌, ◌||◌, nat_lt, nat_le, Bool, List, [], ◌∷◌, ◌++◌}
use Rattle.norm_base.specs.Settings.{Settings}

-- the first so many receivers, in the order of their ids
abbrev pub receivers_of : Settings → ℕ → List ℕ
receivers_of p zero = []
receivers_of p (suc i) = receivers_of p i ++ (p.sender + 1 + i) ∷ []

-- the members in their order: the sender, and then the receivers
abbrev pub members_of : Settings → List ℕ
members_of p = p.sender ∷ receivers_of p p.receivers

-- the node is a receiver of the profile
abbrev pub is_receiver : Settings → ℕ → Bool
is_receiver p node = nat_lt p.sender node && nat_le node (p.sender + p.receivers)

-- the node is one of the profile: its sender, or a receiver
abbrev pub is_node : Settings → ℕ → Bool
is_node p node = node == p.sender || is_receiver p node
