-- What a NACK counts of blocks, by what its receiver held as it gave it.
use Rattle.std.specs.Prelude.{ℕ, ◌≡◌, ◌+◌, ◌<◌, ◌≤◌, List, length, map, slice_get, true, Some, Ok, Contains}
use Rattle.std.specs.List.{AllByRecursion}
use Rattle.norm_base.specs.Settings.{Settings}
use Rattle.fec_plan.specs.Partition.{source_symbols}
use Rattle.fec_plan.specs.Points.{Point}
use Rattle.norm_ext.specs.Asking.{named, asked_counts}
use Rattle.norm_ext.specs.Message.{Nack}
use Rattle.norm_ext.specs.Reading.{decoded}
use Rattle.norm_ext.specs.Requests.{Request}
use Rattle.norm_order.specs.Entries.{Entry}
use Rattle.norm_order.specs.Shapes.{shape_of, is_full}
use Rattle.norm_receive_rules.specs.Holding.{Held}
use Rattle.norm_receive_rules.specs.ReceiverState.{ReceiverState}
use Rattle.norm_send_rules.specs.SenderState.{SenderState}
use Rattle.norm_safety.specs.OnceEach.{order_of}
use Rattle.norm_safety.specs.RepairSuffices.{Plea, ids_in, counted_blocks}

-- all source symbols of a block of an order are closed, and a receiver lacks no more of its symbols than so many
pub record Lacks (p : Settings) (order : List Entry) (r : ReceiverState) (b : Point) (lack : ℕ) : Type 0 where
  pub entry : Entry
  pub found : slice_get order b.index ≡ Some entry
  pub full : is_full (shape_of p entry.object) b.block ≡ true
  pub some : 0 < source_symbols (shape_of p entry.object).cut b.block
  pub enough : source_symbols (shape_of p entry.object).cut b.block ≤ length (ids_in b (map (λ (h : Held). h.at) r.holding.held)) + lack

-- A request of a NACK counts a block of which it has the index, to whoever knows indices near that, by as many symbols as its receiver
-- lacked.
pub record Counted (p : Settings) (s : SenderState) (x : Plea) (b : Point) : Type 0 where
  pub inside : x.receiver.instance ≡ Some x.nack.instance
  pub request : Request
  pub has : Contains x.nack.requests request
  pub among : Contains x.indices b.index
  pub lack : ℕ
  pub lacks : Lacks p (order_of s x.nack.instance) x.receiver b lack
  pub names : (known : ℕ) → known ≤ b.index + 32767 → b.index ≤ known + 32767
      → Contains (asked_counts (named p known request)) (record { of = b; lacking = lack })

-- no index of a NACK is so far below what its receiver knew that its id names another one to the receiver itself
abbrev pub IsPlain : Plea → Type 0
IsPlain x = AllByRecursion (λ i. x.receiver.knows.known ≤ i + 32768) x.indices

-- A NACK is read again. What its receiver knew has no index above the length of the order. And where its ids name what they were written
-- for, each block that it counts is counted so.
pub record GivesPlea (p : Settings) (s : SenderState) (x : Plea) : Type 0 where
  pub read : decoded x.octets ≡ Ok (Nack x.nack)
  pub within : x.receiver.knows.known ≤ length (order_of s x.nack.instance)
  pub counts : IsPlain x → (b : Point) → Contains (counted_blocks p x) b → Counted p s x b
