-- What is promised once the members below confirmed everything: there is room for the next hand-up.
use Rattle.std.specs.Prelude.{ℕ, ⊤, ◌≡◌, slice_get, nat_lt, true, false, Some, Result, Ok, Err}
use Rattle.norm_base.specs.Settings.{Settings}
use Rattle.fec_plan.specs.declared.position.Position.{Position}
use Rattle.norm_order.specs.Entries.{Entry}
use Rattle.norm_order.specs.Sets.{is_member}
use Rattle.norm_order.specs.Shapes.{shape_of, sources_in, last_source}
use Rattle.norm_order.specs.declared.up.Up.{Up}
use Rattle.norm_send_rules.specs.InWindow.{current_shapes}
use Rattle.norm_send_rules.specs.Room.{all_sent}
use Rattle.norm_send_rules.specs.SenderState.{SenderState}
use Rattle.norm_send_rules.specs.Waiting.{may_wait}
use Rattle.norm_send_rules.specs.Watermarks.{all_past}
use Rattle.norm_send_rules.specs.declared.fault.SendFault.{SendFault}
use Rattle.norm_send_rules.specs.declared.job.Job.{Job}
use Rattle.norm_send_rules.specs.declared.job.Receipt.{Receipt}
use Rattle.norm_base.specs.Settings.{InRange}
use Rattle.norm_relay.specs.Pumping.{job_of, commands}
use Rattle.norm_relay.specs.RelayState.{Relaying}

-- All that was enqueued was sent, the source symbols and infos of all entries; and every member is listed past the last source symbol.
pub record IsConfirmed (p : Settings) (s : SenderState) : Type 0 where
  pub symbols : (index : ℕ) (entry : Entry) → slice_get s.current.order index ≡ Some entry → all_sent s (sources_in index (shape_of p entry.object)) ≡ true
  pub infos : (index : ℕ) (entry : Entry) → slice_get s.current.order index ≡ Some entry → (shape_of p entry.object).info ≡ true
      → is_member nat_lt index s.sent_infos ≡ true
  pub past : (at : Position) → last_source (current_shapes p s) ≡ Some at → all_past s at ≡ true

-- a job is taken, or refused for another reason than want of room
abbrev pub IsTaken : Result Receipt SendFault → Type 0
IsTaken (Ok receipt) = ⊤
IsTaken (Err fault) = may_wait fault ≡ false

-- Once all that was enqueued below is confirmed, no hand-up is refused for want of room.
abbrev pub TakesOnceConfirmed : Type 0
TakesOnceConfirmed = (now : ℕ) (x : Relaying) (u : Up) (given : Job) → InRange x.lower.p → IsConfirmed x.lower.p x.lower.world.sender
    → job_of x.opened u ≡ Some given → IsTaken (commands now given x).1
