-- What a hold is asked of its objects, in the words of the rules (RFC 5740 section 5.3).
use Rattle.std.specs.Prelude.{ℕ, ◌≡◌, ◌<◌, ◌≤◌, Option, Some, None, MatchOption, true, false}
use Rattle.norm_base.specs.Settings.{Settings}
use Rattle.fec_plan.specs.Partition.{blocks}
use Rattle.fec_plan.specs.declared.position.Position.{Position}
use Rattle.norm_receive_rules.specs.Holding.{Holding}
use Rattle.norm_receive_rules.specs.Plans.{cut_of_plan, is_done, plan_of, says_stream}
use Rattle.norm_receive_rules.specs.StreamNeeds.{end_of}
use Rattle.rx_hold.specs.EntryHold.{EntryHold}
use Rattle.rx_hold.specs.EntryState.{EntryState, alone_in}
use Rattle.rx_hold.specs.declared.entry.Entry.{Entry}
use Rattle.rx_hold.specs.declared.entry.Entry.TheVariants as kinds
use Rattle.rx_stream.specs.StreamState.{alone}
use Rattle.rx_hold.specs.FrontSound.{object_in}

-- the greatest block that was seen of a stream
abbrev pub seen_at : Holding → ℕ → Option ℕ
seen_at s index = elim (plan_of s index) [
  | Some plan ↦ elim (says_stream plan.flags) [ true ↦ Some plan.seen | false ↦ None ]
  | None ↦ None
]

-- the same of what is at a place
abbrev pub seen_in : Entry → Option ℕ
seen_in (kinds.Object o) = None
seen_in (kinds.Stream o) = Some o.plan.seen

-- the place of a stream's end, where that is held or given by what is held of its block
abbrev pub end_at : Settings → Holding → ℕ → Option Position
end_at p s index = elim (plan_of s index) [
  | Some plan ↦ elim (says_stream plan.flags) [ true ↦ end_of p s plan | false ↦ None ]
  | None ↦ None
]

-- the same of what is at a place
abbrev pub end_in : Settings → Entry → Option Position
end_in p (kinds.Object o) = None
end_in p (kinds.Stream o) = end_of p (alone o) o.plan

-- A block of what is held of an object, from its next one on, lacks symbols.
pub record IsShort (o : EntryState) (block : ℕ) : Type 0 where
  pub reached : o.point.block ≤ block
  pub within : block < blocks (cut_of_plan o.plan)
  pub lacks : is_done (alone_in o) o.plan block ≡ false

-- a block of the object with an index lacks symbols
abbrev pub IsShortIn : EntryHold → ℕ → ℕ → Type 0
IsShortIn h index block = MatchOption (object_in h index) ⊥ (λ (o : EntryState). IsShort o block)
