-- What is promised of entries as other ones are sent.
use Rattle.std.specs.Prelude.{ℕ, ◌≡◌, nat_lt}
use Rattle.fec_plan.specs.Points.{Position, position_before}
use Rattle.norm_order.specs.Sets.{with_member}
use Rattle.tx_window.specs.EntryState.{EntryReads, StandsFor}
use Rattle.tx_window.specs.declared.entry.HeldEntry.{HeldEntry}

-- what an entry stands for stays so where a symbol or an info of another one was sent
pub record OthersStay : Type 0 where
  pub symbol : (r : EntryReads) (e : HeldEntry) (at : Position) → StandsFor r e → (at.index ≡ r.index → ⊥)
      → StandsFor (record r { sent = with_member position_before at r.sent }) e
  pub info : (r : EntryReads) (e : HeldEntry) (index : ℕ) → StandsFor r e → (index ≡ r.index → ⊥)
      → StandsFor (record r { infos = with_member nat_lt index r.infos }) e
