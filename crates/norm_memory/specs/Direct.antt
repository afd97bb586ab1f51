-- A network in memory that loses nothing: which copies wait in it, and what it tells.
use Rattle.std.specs.Prelude.{◌≡◌, ◌≤◌, ◌<◌, ℕ, List, ◌++◌, length, map, Some, true}
use Rattle.std.specs.List.{AllByRecursion}
use Rattle.norm_base.specs.Copies.{members_at, copies_in}
use Rattle.norm_base.specs.Network.{Network, taken_of}
use Rattle.norm_memory.specs.declared.copy.WaitingCopy.{WaitingCopy}
use Rattle.norm_memory.specs.Fates.{once, plan_by}
use Rattle.norm_memory.specs.Networks.{NetworkState, after_offer}
use Rattle.norm_memory.specs.Offers.{offer_at}

-- an offer to a network that loses nothing: a copy for each other member, ready at once
abbrev pub direct_offer : NetworkState → ℕ → List ℕ → NetworkState
direct_offer s from bytes = after_offer s from bytes (plan_by (λ to. once) from s.members)

-- it tells all that it knows, is honest, and is direct
abbrev pub direct_told : NetworkState → Network
direct_told s =
    record { starts = Some s.starts; offered = Some s.offered; answers = Some s.answers; honest = true; direct = true }

-- a copy that waits, as it is answered: for whom it is, and its octets
abbrev pub copy_of : List (ℕ × List ℕ) → WaitingCopy → ℕ × List ℕ
copy_of offered c = (c.to, (offer_at offered c.offer).1)

-- it is of one of so many offers, and ready
pub record IsReady (offers : ℕ) (c : WaitingCopy) : Type 0 where
  pub inside : c.offer < offers
  pub ready : c.ready ≤ offers

-- It has the members of its last start; each copy that waits is ready; and what was taken, and then what waits, is each
-- copy of what was offered, in order.
pub record KeepsCopies (s : NetworkState) : Type 0 where
  pub members : s.members ≡ members_at s.starts
  pub ready : AllByRecursion (IsReady (length s.offered)) s.waiting
  pub whole : taken_of s.answers ++ map (copy_of s.offered) s.waiting ≡ copies_in s.members s.offered
