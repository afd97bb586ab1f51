-- A round asks for what the needs of a NACK that joins it ask for (RFC 5740 section 5.4).
use Rattle.std.specs.Prelude.{◌≡◌, ◌<◌, ◌≤◌, ℕ, List, map, Bool, true, false, None, Some, ⊤}
use Rattle.norm_base.specs.Settings.{Settings, InRange}
use Rattle.fec_plan.specs.Points.{point, point_of}
use Rattle.norm_ext.specs.Asking.{named}
use Rattle.norm_ext.specs.Requests.{Request}
use Rattle.norm_order.specs.Shapes.{Shape, is_source, has_info}
use Rattle.norm_receive_rules.specs.Holding.{Holding}
use Rattle.norm_receive_rules.specs.NackLaws.{width_at, IsAskedFor}
use Rattle.norm_receive_rules.specs.Needs.{Need, Object, ObjectInfo, Symbols, Source, Rest}
use Rattle.norm_send_rules.specs.Hearing.{joined_round}
use Rattle.norm_send_rules.specs.InWindow.{stands_behind, last_index, current_shapes}
use Rattle.norm_send_rules.specs.Reached.{IsReached}
use Rattle.norm_send_rules.specs.SenderState.{SenderState}
use Rattle.norm_send_rules.specs.declared.want.Want.{Want}
use Rattle.norm_send_rules.specs.declared.want.Want.TheVariants as want
use Rattle.norm_recovery.specs.Asking.{asks}

-- the open round, if one is open, asks for it
abbrev pub asks_open : Settings → SenderState → Want → Bool
asks_open p s y = elim s.round [ Some round ↦ asks p s round y | None ↦ false ]

-- an info or a symbol is of a need: of an unknown object each is, of a count each symbol of the block, and of the rest of a stream each from a block on
abbrev pub IsOfNeed : Need → Want → Type 0
IsOfNeed (Object index) (want.Info other) = other ≡ index
IsOfNeed (Object index) (want.Symbol at) = at.index ≡ index
IsOfNeed (ObjectInfo index) (want.Info other) = other ≡ index
IsOfNeed (ObjectInfo index) (want.Symbol at) = ⊥
IsOfNeed (Symbols index block wanted) (want.Info other) = ⊥
IsOfNeed (Symbols index block wanted) (want.Symbol at) = (point_of at ≡ point index block) × (0 < wanted)
IsOfNeed (Source own) (want.Info other) = ⊥
IsOfNeed (Source own) (want.Symbol at) = at ≡ own
IsOfNeed (Rest index block) (want.Info other) = ⊥
IsOfNeed (Rest index block) (want.Symbol at) = (at.index ≡ index) × (block ≤ at.block)

-- an info of an order, or a closed source symbol of it
abbrev pub is_info_or_source : List Shape → Want → Bool
is_info_or_source shapes (want.Info index) = has_info shapes index
is_info_or_source shapes (want.Symbol at) = is_source shapes at

-- a symbol is no wider than the blocks by which its receiver asks
abbrev pub IsNarrow : ℕ → Want → Type 0
IsNarrow width (want.Info index) = ⊤
IsNarrow width (want.Symbol at) = at.symbol < width

pub record RoundAsks : Type 0 where
  -- If requests, as the sender reads them, ask for all of a need, the round that they join asks for each info and closed source symbol of the window
  -- that is of that need. It does whatever was asked for before.
  pub joins : (p : Settings) → InRange p → (s : SenderState) → IsReached p s → (now : ℕ) (requests : List Request) (h : Holding) (need : Need)
      → IsAskedFor (map (named p (last_index s)) requests) h need → (y : Want) → IsOfNeed need y → IsNarrow (width_at h need) y
      → is_info_or_source (current_shapes p s) y ≡ true → stands_behind s.current.drop y ≡ true → asks_open p (joined_round p s now requests) y ≡ true
  -- What a round asks for it goes on to ask for, whatever joins it.
  pub stays : (p : Settings) (s : SenderState) (now : ℕ) (requests : List Request) (y : Want) → asks_open p s y ≡ true
      → asks_open p (joined_round p s now requests) y ≡ true
