-- Objects that lie in a ring one behind the other, and one that is being filled.
use Rattle.std.specs.Prelude.{ℕ, ◌≡◌, ◌+◌, ◌%◌, ◌<◌, ◌≤◌, List, [], ◌∷◌, length, map, sum}
use Rattle.norm_base.specs.Settings.{Settings}
use Rattle.fec_plan.specs.Partition.{IsSound, cut_of}
use Rattle.norm_send_rules.specs.Enqueuing.{info_length}
use Rattle.tx_object.specs.Round.{round, IsAround}
use Rattle.tx_object.specs.Held.{HeldObject, octets_of, begun_at, LiesIn}
use Rattle.tx_object.specs.Placed.{taken_by}
use Rattle.tx_window.specs.WindowState.{Filling}

-- how many octets objects have
abbrev pub all_octets : List HeldObject → ℕ
all_octets hs = sum (map (λ (h : HeldObject). octets_of h.cut) hs)

-- an object of which so many octets were filled
abbrev pub filling_in : List ℕ → ℕ → HeldObject → Filling
filling_in ring filled h = record { kind = h.kind; info = h.info; len = octets_of h.cut; octets = round ring h.start filled }

-- an object of which so many octets were filled has its place in the ring, and nothing of it was sent
pub record IsFilling (ring : List ℕ) (p : Settings) (count : ℕ) (h : HeldObject) : Type 0 where
  pub lies : LiesIn ring h
  pub sound : IsSound h.cut
  pub cut : h.cut ≡ cut_of (octets_of h.cut) p.e p.b p.max_n
  pub some : 0 < octets_of h.cut
  pub most : octets_of h.cut ≤ 16777216
  pub short : info_length h.info ≤ p.e
  pub fresh : h ≡ begun_at h.cut h.kind h.info h.start
  pub within : count ≤ octets_of h.cut

-- objects lie in a ring one behind the other from this octet on, and behind them is the octet `next`
unfoldable pub LieInRow : ℕ → ℕ → List HeldObject → ℕ → Type 0
LieInRow size counted [] next = IsAround size counted next
LieInRow size counted (h ∷ hs) next = IsAround size counted h.start × LieInRow size (counted + taken_by h) hs next

-- Objects lie in neighbouring symbols of a ring, which go on from its end to its beginning. They are no more than the
-- profile's window has, in objects and in octets.
pub record IsRow (ring : List ℕ) (p : Settings) (hs : List HeldObject) (next : ℕ) : Type 0 where
  pub head : ℕ
  pub head_within : head < length ring
  pub in_row : LieInRow (length ring) head hs next
  pub next_whole : next % p.e ≡ 0
  pub few : length hs ≤ p.window
  pub fit : all_octets hs ≤ p.octets
