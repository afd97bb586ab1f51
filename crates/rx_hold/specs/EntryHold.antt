-- What a receiver holds of objects of either kind from its hand-up point on, which may lie within a stream, and for which states of the
-- rules that stands (RFC 5740 section 5.2).
use Rattle.std.specs.Prelude.{ℕ, zero, suc, ◌≡◌, ◌<◌, Bool, not, List, [], ◌∷◌, map, filter, filter_map, flat_map, slice_get, Option, Some, None}
use Rattle.std.specs.List.{AllByRecursion}
use Rattle.norm_base.specs.Settings.{Settings}
use Rattle.fec_plan.specs.Partition.{IsSound}
use Rattle.fec_plan.specs.declared.position.Position.{Position}
use Rattle.norm_order.specs.declared.up.Up.{Up}
use Rattle.norm_receive_rules.specs.Acknowledging.{lost_nothing}
use Rattle.norm_receive_rules.specs.Holding.{Holding, Plan, Held, HeldInfo}
use Rattle.norm_receive_rules.specs.Laws.{HasPassed}
use Rattle.norm_receive_rules.specs.Plans.{cut_of_plan, first_block, is_over}
use Rattle.rx_hold.specs.EntryState.{EntryState, IsOfProfile, alone_in, infos_in}
use Rattle.rx_hold.specs.Told.{is_passed}

-- an object with this index, taken up by this profile, all of whose symbols are its own
pub record IsEntryAt (p : Settings) (n : ℕ) (o : EntryState) : Type 0 where
  pub index : o.plan.index ≡ n
  pub own : AllByRecursion (λ (x : Held). x.at.index ≡ n) o.held
  pub sound : IsSound (cut_of_plan o.plan)
  pub profile : IsOfProfile p o
  pub b : o.plan.fti.b ≡ p.b
  pub last : n < 4294967295

-- places of objects from this index on, and at each its object, where there is one
abbrev pub PlacedEntries : Settings → ℕ → List (Option EntryState) → Type 0
PlacedEntries p n [] = Unit {0}
PlacedEntries p n (None ∷ ring) = PlacedEntries p (suc n) ring
PlacedEntries p n (Some o ∷ ring) = IsEntryAt p n o × PlacedEntries p (suc n) ring

-- what is at a place
abbrev pub at_place : {X : Type 0} → List (Option X) → ℕ → Option X
at_place ring i = elim (slice_get ring i) [ Some place ↦ place | None ↦ None ]

-- the object that is there
abbrev pub entry_at : List (Option EntryState) → ℕ → Option EntryState
entry_at ring i = elim (slice_get ring i) [ Some place ↦ place | None ↦ None ]

-- the objects that are there
abbrev pub entries_there : List (Option EntryState) → List EntryState
entries_there ring = filter_map (λ (place : Option EntryState). place) ring

-- how far the object at a place is: the first to the hand-up point's block, and each other one is at its beginning
abbrev pub block_at_place : ℕ → ℕ → ℕ
block_at_place block zero = block
block_at_place block (suc i) = 0

abbrev pub AreAsFar : ℕ → List (Option EntryState) → Type 0
AreAsFar block ring = (i : ℕ) (o : EntryState) → entry_at ring i ≡ Some o → first_block (alone_in o) o.plan.index ≡ block_at_place block i

-- the hand-up point, the objects from there on that have a plan, in the order of indexes, the hand-ups that were not taken,
-- and whether an object was lost
pub record EntryHold : Type 0 where
  pub p : Settings
  pub point : Position
  pub objects : List EntryState
  pub ups : List Up
  pub has_lost : Bool

-- What is held stands for what the rules say is held: it has all of objects that were not handed up or lost, and of symbols
-- all from the hand-up point's block on, that block included whole; what of a stream lies before was handed up whole.
pub record StandsFor (h : EntryHold) (s : Holding) : Type 0 where
  pub point : s.point ≡ h.point
  pub plans : filter (λ (plan : Plan). not (is_over s plan.index)) s.plans ≡ map (λ (o : EntryState). o.plan) h.objects
  pub held : filter (λ (x : Held). not (is_passed s x.at)) s.held ≡ flat_map (λ (o : EntryState). o.held) h.objects
  pub infos : filter (λ (info : HeldInfo). not (is_over s info.index)) s.infos ≡ flat_map infos_in h.objects
  pub ups : s.ups ≡ h.ups
  pub lost : lost_nothing s ≡ not h.has_lost
  pub passed : HasPassed h.p s
