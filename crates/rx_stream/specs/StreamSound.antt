-- What a stream keeps, and what it is seen as.
use Rattle.std.specs.Prelude.{ℕ, suc, ◌≡◌, ◌<◌, ◌≤◌, ◌+◌, List, [], ◌∷◌, ◌++◌, map, length, nat_lt, slice_index_or, Option, is_some, true, false}
use Rattle.std.specs.List.{AllByRecursion}
use Rattle.fec_plan.specs.Partition.{Cut, IsSound, stream_cut}
use Rattle.fec_plan.specs.Points.{position}
use Rattle.norm_receive_rules.specs.Holding.{Plan, Held}
use Rattle.norm_receive_rules.specs.Plans.{says_stream}
use Rattle.rx_stream.specs.BlockState.{Came, BlockState, lacks, source_of}
use Rattle.rx_stream.specs.StreamState.{StreamState}
use Rattle.short_blocks.specs.State.{ShortsState}

-- what came of a block, as it is held
abbrev pub held_in : ℕ → ℕ → BlockState → List Held
held_in index block b = map (λ (c : Came). record { at = position index block c.id; octets = c.octets }) b.came

-- what is held of blocks from this one on
unfoldable pub held_from : ℕ → ℕ → List BlockState → List Held
held_from index first [] = []
held_from index first (b ∷ blocks) = held_in index first b ++ held_from index (suc first) blocks

-- each block is of so many source symbols of so many octets
abbrev pub AreOf : ℕ → ℕ → List BlockState → Type 0
AreOf k size blocks = AllByRecursion (λ (b : BlockState). (b.k ≡ k) × (b.size ≡ size)) blocks

abbrev pub stream_of : Plan → Option (List ℕ) → ℕ → ℕ → List BlockState → StreamState
stream_of plan info first symbol ring = record {
  plan = plan;
  room = length ring;
  info = info;
  point = position plan.index first symbol;
  held = held_from plan.index first ring;
}

-- each source symbol of the first block before this one is there
abbrev pub IsBegun : ℕ → List BlockState → Type 0
IsBegun symbol [] = Unit {0}
IsBegun symbol (b ∷ blocks) = (before : ℕ) → before < symbol → is_some (source_of b before) ≡ true

-- each symbol is of a block that 24 bits name
abbrev pub AreNamed : List Held → Type 0
AreNamed held = AllByRecursion (λ (h : Held). h.at.block < 16777216) held

-- Spare rows for the segments that are handed up: of a block's rows as many as it has segments from the next one on.
pub record AreSpare (k size symbol : ℕ) (rows : List (List ℕ)) : Type 0 where
  pub count : length rows + symbol ≡ k
  pub sizes : AllByRecursion (λ (row : List ℕ). length row ≡ size) rows

-- The plan is a stream's, cut as its information says. There is room for a block at least, and each segment of the first
-- block before the next one is there.
pub record StreamSound (plan : Plan) (cut : Cut) (first symbol : ℕ) (ring : List BlockState) (spares : List (List ℕ)) : Type 0 where
  pub stream : says_stream plan.flags ≡ true
  pub cut_is : cut ≡ stream_cut plan.fti.e plan.fti.b plan.fti.max_n
  pub sound : IsSound cut
  pub next : symbol < plan.fti.b
  pub some : 1 ≤ length ring
  pub blocks : AreOf plan.fti.b (plan.fti.e + 8) ring
  pub begun : IsBegun symbol ring
  pub named : AreNamed (held_from plan.index first ring)
  pub spare : AreSpare plan.fti.b (plan.fti.e + 8) symbol spares

-- The window of the short blocks is the ring: those are short that lack symbols.
pub record AreShorts (first : ℕ) (ring : List BlockState) (shorts : ShortsState) : Type 0 where
  pub start : shorts.start ≡ first
  pub all : length shorts.short ≡ length ring
  pub few : length ring < 65536
  pub named : first ≤ 16777216
  pub short : (place : ℕ) (d : BlockState) → place < length ring → slice_index_or shorts.short place false ≡ nat_lt 0 (lacks (slice_index_or ring place d))

-- All of it.
pub record StreamKept (plan : Plan) (cut : Cut) (first symbol : ℕ) (ring : List BlockState) (spares : List (List ℕ)) (window : ShortsState) : Type 0 where
  pub sound : StreamSound plan cut first symbol ring spares
  pub shorts : AreShorts first ring window
