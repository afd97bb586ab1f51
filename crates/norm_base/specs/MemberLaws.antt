-- What is promised of the members of a session.
use Rattle.std.specs.Prelude.{◌≡◌, ◌<◌, ℕ, ◌+◌, ◌==◌, nat_eq, length, get_or, true}
use Rattle.std.specs.List.{list_any, IsDistinct}
use Rattle.norm_base.specs.Settings.{Settings, InRange}
use Rattle.norm_base.specs.Member.{IsMember}
use Rattle.norm_base.specs.Members.{receivers_of, members_of, is_receiver, is_node}

-- The receivers of a profile are as many as it says, each has the id behind the one before it, no two have the same, and
-- they are exactly the nodes that are receivers, as the members are exactly the nodes of the profile.
pub record MemberLaws : Type 0 where
  pub count : (p : Settings) (n : ℕ) → length (receivers_of p n) ≡ n
  pub each : (p : Settings) (n i d : ℕ) → i < n → get_or (receivers_of p n) i d ≡ p.sender + 1 + i
  pub distinct : (p : Settings) (n : ℕ) → IsDistinct nat_eq (receivers_of p n)
  pub receivers : (p : Settings) (node : ℕ) → list_any (λ r. r == node) (receivers_of p p.receivers) ≡ is_receiver p node
  pub nodes : (p : Settings) (node : ℕ) → list_any (λ r. r == node) (members_of p) ≡ is_node p node
  pub members : (p : Settings) → InRange p → (node : ℕ) → is_node p node ≡ true → IsMember node
