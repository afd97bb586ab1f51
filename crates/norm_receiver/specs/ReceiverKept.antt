-- What a receiver keeps, and for which states of the rules it stands.
use Rattle.std.specs.Prelude.{◌≡◌}
use Rattle.std.specs.List.{AllByRecursion}
use Rattle.norm_base.specs.Settings.{Settings}
use Rattle.fec_plan.specs.Points.{IsBlock}
use Rattle.norm_receive_rules.specs.Heard.{Heard}
use Rattle.norm_receive_rules.specs.Holding.{Holding, Plan}
use Rattle.norm_receive_rules.specs.ReceiverState.{ReceiverState}
use Rattle.rx_hold.specs.EntryHold.{EntryHold, StandsFor as HoldStands}
use Rattle.norm_receiver.specs.Numbers.{numbers_of}
use Rattle.norm_receiver.specs.declared.numbers.Numbers.{Numbers}

-- a receiver: its profile, what it holds, what it heard, and its numbers
pub record ReceiverKept : Type 0 where
  pub p : Settings
  pub hold : EntryHold
  pub heard : Heard
  pub numbers : Numbers

-- the greatest block that was seen of each stream is one that messages name
abbrev pub HasSeenBlocks : Holding → Type 0
HasSeenBlocks s = AllByRecursion (λ (plan : Plan). IsBlock plan.seen) s.plans

-- A receiver stands for a state where its hold does, under its profile, and all else is the state's. Each block that was seen has
-- 24 bits.
pub record Stands (k : ReceiverKept) (s : ReceiverState) : Type 0 where
  pub profile : k.hold.p ≡ k.p
  pub hold : HoldStands k.hold s.holding
  pub seen : HasSeenBlocks s.holding
  pub heard : k.heard ≡ s.knows.heard
  pub numbers : k.numbers ≡ numbers_of s
