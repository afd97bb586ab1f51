-- What is sent for a block that lacks symbols makes it whole (RFC 5740 section 5.4).
use Rattle.std.specs.Prelude.{◌≡◌, ◌≤◌, ◌+◌, ◌⊎◌, ℕ, List, [], ◌∷◌, ◌++◌, map, length, true, false, ⊤}
use Rattle.std.specs.List.{AllByRecursion}
use Rattle.fec_plan.specs.Partition.{source_symbols}
use Rattle.fec_plan.specs.Points.{Point, position, position_before}
use Rattle.fec_plan.specs.declared.position.Position.{Position}
use Rattle.norm_order.specs.Sets.{is_member}
use Rattle.norm_order.specs.Shapes.{Shape, is_full}
use Rattle.norm_send_rules.specs.Closing.{fresh_parity, repairs}
use Rattle.norm_send_rules.specs.SenderState.{SenderState}
use Rattle.norm_send_rules.specs.declared.want.Want.{Want}
use Rattle.norm_send_rules.specs.declared.want.Want.TheVariants.{Symbol}

-- no two of these numbers are equal
abbrev pub AllDiffer : List ℕ → Type 0
AllDiffer [] = ⊤
AllDiffer (n ∷ ns) = AllByRecursion (λ m. n ≡ m → ⊥) ns × AllDiffer ns

-- the symbols of a block with these ids, as wants
abbrev pub wants_of_ids : Point → List ℕ → List Want
wants_of_ids at ids = map (λ id. Symbol (position at.index at.block id)) ids

-- a symbol of a block was sent in this instance
abbrev pub WasSent : SenderState → Point → ℕ → Type 0
WasSent s at id = is_member position_before (position at.index at.block id) s.sent ≡ true

-- so many different symbols
abbrev pub AreDifferent : ℕ → List ℕ → Type 0
AreDifferent count ids = AllDiffer ids × (count ≤ length ids)

-- The repairs of a block are symbols of it by these ids; together with those that a receiver holds they are as many different ones as
-- the block has source symbols, or they are so by themselves.
pub record MakesWhole (s : SenderState) (at : Point) (shape : Shape) (count : ℕ) (held : List ℕ) : Type 0 where
  pub ids : List ℕ
  pub are : repairs s at shape count ≡ wants_of_ids at ids
  pub enough : AreDifferent (source_symbols shape.cut at.block) (held ++ ids) ⊎ AreDifferent (source_symbols shape.cut at.block) ids

-- Fresh parity is parity, and was never sent in this instance. And of a block whose source symbols are all closed: whoever holds any of
-- its symbols that were sent, and lacks at most as many as its count says, can make it whole with the repairs of that count.
pub record RepairLaws : Type 0 where
  pub never_sent : (s : SenderState) (at : Point) (shape : Shape)
      → AllByRecursion (λ (x : Position). is_member position_before x s.sent ≡ false) (fresh_parity s at shape)
  pub parity : (s : SenderState) (at : Point) (shape : Shape)
      → AllByRecursion (λ (x : Position). source_symbols shape.cut at.block ≤ x.symbol) (fresh_parity s at shape)
  pub whole : (s : SenderState) (at : Point) (shape : Shape) (count : ℕ) (held : List ℕ) → is_full shape at.block ≡ true
      → AllDiffer held → AllByRecursion (WasSent s at) held → source_symbols shape.cut at.block ≤ length held + count
      → MakesWhole s at shape count held
