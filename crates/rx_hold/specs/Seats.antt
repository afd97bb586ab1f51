-- Places of objects of either kind, and what is kept at each: the object, and for how many hand-ups of it there is room.
use Rattle.std.specs.Prelude.{ℕ, ◌≡◌, ◌<◌, ◌≤◌, ◌+◌, ◌-◌, ◌*◌, ◌^◌, ◌==◌, ◌&&◌, Bool, List, map, length, slice_set, true, false, Option, Some, None, option_map, MatchOption}
use Rattle.norm_base.specs.Settings.{Settings}
use Rattle.fec_plan.specs.Points.{position}
use Rattle.fec_plan.specs.declared.position.Position.{Position}
use Rattle.norm_receive_rules.specs.Fitting.{room_of}
use Rattle.norm_receive_rules.specs.Plans.{says_stream}
use Rattle.norm_receive_rules.specs.Putting.{put_by}
use Rattle.norm_receive_rules.specs.declared.words.Put.{Put}
use Rattle.norm_receive_rules.specs.declared.words.Put.TheVariants as put
use Rattle.rs_block.specs.Solver.{SolverState}
use Rattle.rx_hold.specs.EntryState.{EntryState, IsOfKind, IsOfProfile, alone_in, entry_of, with_seen, with_word}
use Rattle.rx_hold.specs.EntryHold.{IsEntryAt, at_place}
use Rattle.rx_hold.specs.declared.ring.Seat.{Seat}

-- what stands at a place
abbrev pub state_of : Option Seat → Option EntryState
state_of place = option_map (λ (seat : Seat). entry_of seat.entry) place

abbrev pub states_of : List (Option Seat) → List (Option EntryState)
states_of ring = map state_of ring

-- a stream is opened with its first segment
abbrev pub opening : Position → ℕ
opening at = elim (at.block == 0 && at.symbol == 0) [ true ↦ 1 | false ↦ 0 ]

-- So many hand-ups may come of what is held of an object: itself, or its loss; of a stream a segment of each held symbol that
-- was not passed, its open where that did not come yet, and its loss.
abbrev pub waiting : EntryState → ℕ
waiting o = elim (says_stream o.plan.flags) [ true ↦ length o.held - o.point.symbol + (1 + opening o.point) | false ↦ 1 ]

-- An object stands at its own place. A stream's next segment is its own; and behind the first place nothing was handed up of it.
-- There is room for its hand-ups.
pub record IsSeat (p : Settings) (i n : ℕ) (seat : Seat) : Type 0 where
  pub entry : IsEntryAt p n (entry_of seat.entry)
  pub kind : IsOfKind seat.entry
  pub own : says_stream (entry_of seat.entry).plan.flags ≡ true → (entry_of seat.entry).point.index ≡ (entry_of seat.entry).plan.index
  pub later : 0 < i → ((entry_of seat.entry).point.block ≡ 0) × ((entry_of seat.entry).point.symbol ≡ 0)
  pub room : waiting (entry_of seat.entry) ≤ seat.waiting

-- each from this index on
abbrev pub AreSeats : Settings → ℕ → List (Option Seat) → Type 0
AreSeats p n ring = (i : ℕ) (seat : Seat) → at_place ring i ≡ Some seat → IsSeat p i (n + i) seat

-- the octets that what is at a place takes, and the hand-ups for which there is room
abbrev pub octets_at : Settings → Option Seat → ℕ
octets_at p place = elim place [ Some seat ↦ room_of p (entry_of seat.entry).plan.fti (entry_of seat.entry).plan.flags | None ↦ 0 ]

abbrev pub waiting_at : Option Seat → ℕ
waiting_at place = elim place [ Some seat ↦ seat.waiting | None ↦ 0 ]

-- the next source symbol to be handed up, by what is at the first place
abbrev pub begins_at : ℕ → Option EntryState → Position
begins_at index first = position index (elim first [ Some o ↦ o.point.block | None ↦ 0 ]) (elim first [ Some o ↦ o.point.symbol | None ↦ 0 ])

-- ---- what becomes of what is at a place

-- a stream stands at a place
abbrev pub stream_at : Option Seat → Bool
stream_at place = elim place [ Some seat ↦ says_stream (entry_of seat.entry).plan.flags | None ↦ false ]

-- a symbol of a stream that is kept may make a hand-up more; data and files have one in all
abbrev pub counted : Bool → Put → ℕ
counted true put.Kept = 1
counted true put.Had = 0
counted true put.Away = 0
counted true put.Unfit = 0
counted false word = 0

-- A symbol of a block may be offered, with such solvers of blocks of data and files, and of streams.
pub record MayOffer (seat : Seat) (block : ℕ) (solver stream_solver : SolverState) : Type 0 where
  pub kind : IsOfKind seat.entry
  pub reached : (entry_of seat.entry).point.block ≤ block
  pub lent : solver ≡ record { k = (entry_of seat.entry).plan.fti.b; size = (entry_of seat.entry).plan.fti.e }
  pub streams : stream_solver ≡ record { k = (entry_of seat.entry).plan.fti.b; size = (entry_of seat.entry).plan.fti.e + 8 }
  pub count : seat.waiting + 1 < 2 ^ 64

-- a symbol was offered that got this word
pub record IsOffered (word : Put) (block symbol : ℕ) (payload : List ℕ) (seat next : Seat) : Type 0 where
  pub entry : entry_of next.entry ≡ with_word word block symbol payload (entry_of seat.entry)
  pub kind : IsOfKind next.entry
  pub waiting : next.waiting ≡ seat.waiting + counted (says_stream (entry_of seat.entry).plan.flags) word

-- a block was seen
pub record IsSeen (block : ℕ) (seat next : Seat) : Type 0 where
  pub entry : entry_of next.entry ≡ with_seen block (entry_of seat.entry)
  pub kind : IsOfKind next.entry
  pub waiting : next.waiting ≡ seat.waiting

-- nothing changed that is seen of it
pub record IsSame (seat next : Seat) : Type 0 where
  pub entry : entry_of next.entry ≡ entry_of seat.entry
  pub kind : IsOfKind next.entry
  pub waiting : next.waiting ≡ seat.waiting

-- the info came
pub record IsInformed (info : List ℕ) (seat next : Seat) : Type 0 where
  pub entry : entry_of next.entry ≡ record (entry_of seat.entry) { info = Some info }
  pub kind : IsOfKind next.entry
  pub waiting : next.waiting ≡ seat.waiting

-- what is at a place became something else, where there was something
abbrev pub Becomes : List (Option Seat) → List (Option Seat) → ℕ → (Seat → Seat → Type 0) → Type 0
Becomes ring after i R = MatchOption (at_place ring i) (after ≡ ring) (λ (seat : Seat). (next : Seat) × (after ≡ slice_set ring i (Some next)) × R seat next)

-- the word of a symbol, by what is at its place
abbrev pub GetsWord : Option Seat → Put → ℕ → ℕ → List ℕ → Type 0
GetsWord None word block symbol payload = word ≡ put.Away
GetsWord (Some seat) word block symbol payload = (p : Settings) → IsOfProfile p (entry_of seat.entry)
    → word ≡ put_by p (alone_in (entry_of seat.entry)) (entry_of seat.entry).plan (position (entry_of seat.entry).plan.index block symbol) payload
