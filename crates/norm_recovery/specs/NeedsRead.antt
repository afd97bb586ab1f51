-- A NACK asks whoever hears it for what its receiver needs (RFC 5740 section 4.3.1).
use Rattle.std.specs.Prelude.{◌+◌, ◌≤◌, ℕ, Contains, List, map}
use Rattle.std.specs.List.{AllByRecursion}
use Rattle.norm_base.specs.Settings.{Settings}
use Rattle.norm_ext.specs.Asked.{requests_asked}
use Rattle.norm_ext.specs.Asking.{named}
use Rattle.norm_receive_rules.specs.Holding.{Holding}
use Rattle.norm_receive_rules.specs.Nack.{asked_of, indices_of}
use Rattle.norm_receive_rules.specs.NackLaws.{width_at, IsAskedFor, NamesBlocks}
use Rattle.norm_receive_rules.specs.Needs.{Need}

-- An index is near to whoever knows indices up to one: its id names it there.
abbrev pub IsNear : ℕ → ℕ → Type 0
IsNear known index = (known ≤ index + 32767) × (index ≤ known + 32767) × (index ≤ 4294967294)

-- The requests that are written for some needs ask for all of each of them, as whoever takes them to whom its index is near: for an unknown object,
-- an info, a count of symbols, a source symbol, and the rest of a stream.
abbrev pub NeedsAreRead : Type 0
NeedsAreRead = (p : Settings) (known : ℕ) (s : Holding) (wanted : List Need) (need : Need) → Contains wanted need
    → AllByRecursion (IsNear known) (indices_of need) → width_at s need ≤ 256 → NamesBlocks need
    → IsAskedFor (map (named p known) (requests_asked (map (asked_of p) wanted))) s need
