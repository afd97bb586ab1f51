use Rattle.std.specs.Prelude.{ℕ, ◌≤◌, List, [], ◌∷◌, ◌++◌, drop, length, map, Option, Vec, Some, false}
use Rattle.std.specs.Option.{option_map}
use Rattle.std.specs.List.{AllByRecursion}
use Rattle.std.specs.declared.alloc.Global.{Global}
use Rattle.norm_base.specs.Network.{Network}
use Rattle.norm_base.specs.Settings.{Settings}
use Rattle.norm_base.specs.declared.kinds.Local.{Local}
use Rattle.norm_memory.specs.Offers.{offer_at}
use Rattle.norm_memory.specs.Waiting.{first_of}

-- A network that gives a stated list: its starts, what was offered and answered since the last one, and what is left
-- to give, each with the member that it is for.
pub record FeedState : Type 0 where
  pub starts : List (Settings × Local)
  pub offered : List (ℕ × List ℕ)
  pub answers : List (Option (ℕ × List ℕ))
  pub left : List (ℕ × List ℕ)

-- it tells all that it did, and is neither honest nor direct
abbrev pub feed_told : FeedState → Network
feed_told s = record { starts = Some s.starts; offered = Some s.offered; answers = Some s.answers; honest = false; direct = false }

-- members with octets
abbrev pub fed : List (ℕ × Vec ℕ Global) → List (ℕ × List ℕ)
fed feed = map (λ p. (p.0, p.1.items)) feed

-- each has at most 1,500 octets
abbrev pub AreDatagrams : List (ℕ × Vec ℕ Global) → Type 0
AreDatagrams feed = AllByRecursion (λ p. length p.1.items ≤ 1500) feed

-- answers, kept as places in the list that is given
abbrev pub fed_answers : List (ℕ × List ℕ) → List (Option ℕ) → List (Option (ℕ × List ℕ))
fed_answers feed answers = map (option_map (λ place. offer_at feed place)) answers

-- a start: nothing offered or answered; what was given is not given again
abbrev pub feed_started : FeedState → Settings → Local → FeedState
feed_started s profile local = record { starts = s.starts ++ (profile, local) ∷ []; offered = []; answers = []; left = s.left }

-- an offer is kept, and comes to nobody
abbrev pub feed_offered : FeedState → ℕ → List ℕ → FeedState
feed_offered s from bytes =
    record { starts = s.starts; offered = s.offered ++ (from, bytes) ∷ []; answers = s.answers; left = s.left }

-- a take gives the next of the list, and then nothing
abbrev pub feed_taken : FeedState → FeedState
feed_taken s =
    record { starts = s.starts; offered = s.offered; answers = s.answers ++ first_of s.left ∷ []; left = drop 1 s.left }
