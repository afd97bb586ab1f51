-- What becomes of a block as a symbol comes, and of its segments (RFC 5740 section 4.2.1).
use Rattle.std.specs.Prelude.{ℕ, ◌≡◌, ◌<◌, ◌≤◌, ◌+◌, List, length, nat_lt, true, false, slice_index, Option, Some, None}
use Rattle.norm_ext.specs.Numbers.{number}
use Rattle.norm_order.specs.Sets.{with_member}
use Rattle.norm_order.specs.Symbols.{padded}
use Rattle.rx_stream.specs.BlockState.{BlockState, came_before, has_id, lacks}
use Rattle.rx_stream.specs.BlockSound.{sent_of}

-- a payload is that of a symbol: of a source symbol one segment, and of another one as it is coded
abbrev pub IsSent : ℕ → ℕ → ℕ → List ℕ → Type 0
IsSent k size id payload = elim (nat_lt id k) as (λ _. Type 0) [
  | true ↦ (8 ≤ length payload) × (8 + number 2 0 payload ≡ length payload) × (length payload ≤ size)
  | false ↦ length payload ≡ size
]

-- where an id belongs: those before are below it, and the one there is not
pub record IsPlace (id : ℕ) (ids : List ℕ) (place : ℕ) : Type 0 where
  pub within : place ≤ length ids
  pub before : (i : ℕ) → i < place → slice_index ids i < id
  pub behind : place < length ids → id ≤ slice_index ids place

-- A symbol may come that did not yet, while some are lacking.
pub record MayCome (b : BlockState) (id : ℕ) (payload : List ℕ) : Type 0 where
  pub small : id < 255
  pub new : has_id b id ≡ false
  pub lacks : 0 < lacks b
  pub sent : IsSent b.k b.size id payload

-- the symbol came
abbrev pub with_came : ℕ → List ℕ → BlockState → BlockState
with_came id payload b = record b { came = with_member came_before (record { id = id; octets = payload }) b.came }

-- A row has a symbol as it is coded: its octets, and zeros behind those that are sent of it.
pub record IsCoded (size : ℕ) (row symbol : List ℕ) : Type 0 where
  pub is : padded size symbol ≡ row
  pub sent : sent_of size row ≤ length symbol

-- a row has a symbol where there is one
abbrev pub IsRow : ℕ → Option (List ℕ) → Option (List ℕ) → Type 0
IsRow size None None = Unit {0}
IsRow size None (Some row) = ⊥
IsRow size (Some symbol) None = ⊥
IsRow size (Some symbol) (Some row) = IsCoded size row symbol
