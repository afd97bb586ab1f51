-- What is kept of a window, and what it is seen as.
use Rattle.std.specs.Prelude.{ℕ, ◌≡◌, ◌<◌, ◌≤◌, ◌-◌, ◌==◌, cond, nat_lt, List, length, map, slice_index_or}
use Rattle.std.specs.List.{range_with_len}
use Rattle.short_blocks.specs.Links.{AreLinked}
use Rattle.short_blocks.specs.State.{ShortsState}
use Rattle.short_blocks.specs.declared.links.Link.{Link}
use Rattle.short_blocks.specs.declared.shorts.Shorts.TheInside.{Inside}

-- the link of a block that is alone in its window
abbrev pub lone : ℕ → ℕ → ℕ → Link
lone start end first = record { done_from = start; next = cond (first == start) end 0 }

-- the link of a block of a window
abbrev pub link_in : ℕ → ℕ → ℕ → List Link → ℕ → Link
link_in start end first links block = slice_index_or links (block - start) (lone start end first)

abbrev pub next_in : ℕ → ℕ → ℕ → List Link → ℕ → ℕ
next_in start end first links block = (link_in start end first links block).next

abbrev pub before_in : ℕ → ℕ → ℕ → List Link → ℕ → ℕ
before_in start end first links block = (link_in start end first links block).done_from

-- a window by its links: those blocks are short that are linked to a next one
abbrev pub window_of : ℕ → ℕ → ℕ → List Link → ShortsState
window_of start end first links = record { start = start; short = map (λ block. nat_lt 0 (next_in start end first links block)) (range_with_len start (end - start)) }

abbrev pub shorts_view : Inside → ShortsState
shorts_view s = window_of s.start s.end s.first s.links.items

-- A window of one block at most has no links, and each other one as many as it has blocks.
pub record IsWindow (start end first done_from : ℕ) (links : List Link) : Type 0 where
  pub few : end - start ≤ 1 → length links ≡ 0
  pub many : 1 < end - start → length links ≡ end - start
  pub linked : AreLinked start end first done_from (next_in start end first links) (before_in start end first links)

abbrev pub IsShorts : Inside → Type 0
IsShorts s = IsWindow s.start s.end s.first s.done_from s.links.items
