-- What is held of one object of either kind, data and files or a stream, and what the rules say of it by itself (RFC 5740
-- sections 4.2.1 and 5.3).
use Rattle.std.specs.Prelude.{ℕ, ◌≡◌, List, [], ◌∷◌, Option, Some, None, true, false}
use Rattle.norm_base.specs.Settings.{Settings}
use Rattle.fec_plan.specs.Points.{point, position}
use Rattle.fec_plan.specs.declared.position.Position.{Position}
use Rattle.norm_receive_rules.specs.Holding.{Holding, Plan, Held, HeldInfo, holding_nothing}
use Rattle.norm_receive_rules.specs.Plans.{says_stream}
use Rattle.norm_receive_rules.specs.Putting.{with_symbol}
use Rattle.norm_receive_rules.specs.Seeing.{plan_seen}
use Rattle.norm_receive_rules.specs.declared.words.Put.{Put}
use Rattle.rx_hold.specs.declared.entry.Entry.{Entry}
use Rattle.rx_hold.specs.declared.entry.Entry.TheVariants as kinds

-- an object of either kind: its plan, its info where that is held, the symbols that are held, in order; of a stream the next
-- source symbol that is to be handed up, and for how many blocks there is room, which of data and files say nothing
pub record EntryState : Type 0 where
  pub plan : Plan
  pub info : Option (List ℕ)
  pub held : List Held
  pub point : Position
  pub room : ℕ

abbrev pub entry_of : Entry → EntryState
entry_of (kinds.Object o) = record { plan = o.plan; info = o.info; held = o.held; point = position 0 0 0; room = 0 }
entry_of (kinds.Stream o) = record { plan = o.plan; info = o.info; held = o.held; point = o.point; room = o.room }

-- the flags are those of its kind
abbrev pub IsOfKind : Entry → Type 0
IsOfKind (kinds.Object o) = says_stream o.plan.flags ≡ false
IsOfKind (kinds.Stream o) = says_stream o.plan.flags ≡ true

-- its info, as a state holds it
abbrev pub infos_in : EntryState → List HeldInfo
infos_in o = elim o.info [ Some info ↦ record { index = o.plan.index; info = info } ∷ [] | None ↦ [] ]

-- the state of a receiver that knows of this object alone, and has it at its hand-up point
abbrev pub alone_in : EntryState → Holding
alone_in o = record holding_nothing { plans = o.plan ∷ []; held = o.held; infos = infos_in o; point = o.point }

-- The settings are those by which it was taken up.
pub record IsOfProfile (p : Settings) (o : EntryState) : Type 0 where
  pub e : p.e ≡ o.plan.fti.e
  pub blocks : says_stream o.plan.flags ≡ true → p.blocks ≡ o.room

-- after a symbol came that got this word
abbrev pub with_word : Put → ℕ → ℕ → List ℕ → EntryState → EntryState
with_word word block symbol payload o =
    record o { held = (with_symbol word (position o.plan.index block symbol) payload (alone_in o)).held }

-- after a block of it was seen
abbrev pub with_seen : ℕ → EntryState → EntryState
with_seen block o = record o { plan = plan_seen (point o.plan.index block) o.plan }
