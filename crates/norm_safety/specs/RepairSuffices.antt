-- Coded repair suffices (RFC 5740 section 5.4): what a closing round answers a NACK's counts with completes each block, whatever
-- others asked. A NACK is one sending, known by its octets and by the indices for which it was written.
use Rattle.std.specs.Prelude.{ℕ, ◌==◌, ◌&&◌, ◌||◌, not, List, [], ◌∷◌, ◌++◌, length, map, filter, flat_map, slice_get, nat_lt, nat_le, Bool, true, false, Option, None, Some, IsTrue}
use Rattle.std.specs.List.{list_all, list_any, range_with_len}
use Rattle.norm_base.specs.Settings.{Settings}
use Rattle.fec_plan.specs.Partition.{source_symbols}
use Rattle.fec_plan.specs.Points.{Point, point_of, point_before, same_point, same_position, position_before}
use Rattle.fec_plan.specs.declared.position.Position.{Position}
use Rattle.norm_ext.specs.Asking.{named, Count, asked_counts}
use Rattle.norm_ext.specs.Message.{Message, Nack, NackMessage}
use Rattle.norm_ext.specs.Requests.{Request}
use Rattle.norm_order.specs.Sets.{is_member, with_members}
use Rattle.norm_order.specs.Shapes.{Shape, closed_in, is_full}
use Rattle.norm_receive_rules.specs.Leaving.{is_in}
use Rattle.norm_receive_rules.specs.ReceiverState.{ReceiverState}
use Rattle.norm_receive_rules.specs.Holding.{Held}
use Rattle.norm_send_rules.specs.Closing.{round_closed}
use Rattle.norm_send_rules.specs.Hearing.{nack_counts}
use Rattle.norm_send_rules.specs.InWindow.{last_index, current_shapes}
use Rattle.norm_send_rules.specs.SenderState.{SenderState, Round}
use Rattle.norm_send_rules.specs.declared.want.Want.{Want}
use Rattle.norm_send_rules.specs.declared.want.Want.TheVariants.{Info, Symbol}
use Rattle.norm_safety.specs.Events.{Event, Delivered, Ticked, Answer, Sent}
use Rattle.norm_safety.specs.History.{Happening, History}
use Rattle.norm_safety.specs.Lawful.{are_near}
use Rattle.norm_safety.specs.World.{World, receiver_at, same_octets}

-- a NACK, its octets, the indices for which it was written, and its receiver as it was when it gave it
pub record Plea : Type 0 where
  pub receiver : ReceiverState
  pub octets : List ℕ
  pub indices : List ℕ
  pub nack : NackMessage

-- the NACKs that were given so far, and those that joined the open round
pub record Pleas : Type 0 where
  pub given : List Plea
  pub joined : List Plea

-- a datagram that is a NACK, as its receiver's
abbrev pub plea_of : ReceiverState → List ℕ → List ℕ → Message → List Plea
plea_of r octets indices (Nack m) = record { receiver = r; octets = octets; indices = indices; nack = m } ∷ []
plea_of r octets indices _ = []

-- a NACK that a node's tick gave
abbrev pub gave_plea : World → Event → Answer → List Plea
gave_plea w (Ticked node now) (Sent (Some datagram)) = elim (receiver_at w node) [
  | Some r ↦ plea_of r datagram.octets datagram.indices datagram.message
  | None ↦ []
]
gave_plea w _ _ = []

-- A NACK joins the round as a datagram of its octets is delivered to the sender, where it counts then and all its indices lie near the
-- last one of the sender's order. A later NACK may have equal octets for indices that lie 65,536 higher; then the earlier one is near
-- no more, and does not join with it.
abbrev pub joins : Settings → SenderState → List ℕ → Plea → Bool
joins p s octets x = same_octets x.octets octets && nack_counts p s x.nack && are_near (Some (last_index s)) x.indices

-- the NACKs that join as a datagram is delivered
abbrev pub joins_by : Settings → World → List Plea → Event → List Plea
joins_by p w given (Delivered node datagram now draw) = elim (node == p.sender) [ true ↦ filter (joins p w.sender datagram) given | false ↦ [] ]
joins_by p w given _ = []

-- the round that a tick of the sender closes
abbrev pub closes_by : Settings → World → Event → Option Round
closes_by p w (Ticked node now) = elim (node == p.sender) [
  | true ↦ elim w.sender.round [ Some r ↦ elim (nat_le r.closes now) [ true ↦ Some r | false ↦ None ] | None ↦ None ]
  | false ↦ None
]
closes_by p w _ = None

-- what was asked goes on: NACKs are given, and join the open round, which is empty where none is open
abbrev pub pleas_after : Settings → Happening → Pleas → Pleas
pleas_after p h x =
    let joined = x.joined ++ joins_by p h.before x.given h.event in
    record {
      given = x.given ++ gave_plea h.before h.event h.answer;
      joined = elim h.after.sender.round [ Some r ↦ joined | None ↦ [] ];
    }

-- the symbol ids of a block among positions, each once
abbrev pub ids_in : Point → List Position → List ℕ
ids_in block symbols = with_members nat_lt (map (λ (at : Position). at.symbol) (filter (λ at. same_point (point_of at) block) symbols)) []

-- the symbols among wants
abbrev pub wanted_symbols : List Want → List Position
wanted_symbols wants = flat_map (λ (w : Want). elim w [ Info index ↦ [] | Symbol at ↦ at ∷ [] ]) wants

-- These ids are enough of a block: as many as it has source symbols where all of those are closed, and else each closed one.
abbrev pub are_enough : Shape → ℕ → List ℕ → Bool
are_enough shape block ids = elim (is_full shape block) [
  | true ↦ nat_le (source_symbols shape.cut block) (length ids)
  | false ↦ list_all (λ symbol. is_member nat_lt symbol ids) (range_with_len 0 (closed_in shape block))
]

-- What a receiver held of a block, with what the closing wants of it, is enough. A block that lies before the drop point as the round
-- closes counts as completed, and so does one whose index the order lacks.
abbrev pub completes : Settings → SenderState → List Want → ReceiverState → Point → Bool
completes p s wants r block = point_before block s.current.drop || elim (slice_get (current_shapes p s) block.index) [
  | Some shape ↦ are_enough shape block.block (ids_in block (map (λ (x : Held). x.at) r.holding.held ++ wanted_symbols wants))
  | None ↦ true
]

-- the blocks that a NACK counts, by what its receiver knew
abbrev pub counted_blocks : Settings → Plea → List Point
counted_blocks p x =
    map (λ (c : Count). c.of) (flat_map (λ (r : Request). asked_counts (named p x.receiver.knows.known r)) x.nack.requests)

-- a receiver of the instance holds this symbol
abbrev pub holds : ℕ → Position → ReceiverState → Bool
holds instance at r = is_in r instance && list_any (λ (x : Held). same_position x.at at) r.holding.held

-- a want that was never sent in this instance is held by nobody
abbrev pub is_fresh : World → Position → Bool
is_fresh w at = is_member position_before at w.sender.sent || not (list_any (holds w.sender.current.id at) w.receivers)

-- A closing round completes each block that one of its NACKs counts, and nobody holds what it wants and was never sent.
abbrev pub closing_suffices : Settings → World → List Plea → Round → Bool
closing_suffices p w joined r =
    let s = round_closed p r w.sender in
    list_all (λ (x : Plea). list_all (completes p s s.wants x.receiver) (counted_blocks p x)) joined
    && list_all (is_fresh w) (wanted_symbols s.wants)

-- where an event closes a round, that is so
abbrev pub event_suffices : Settings → Happening → List Plea → Bool
event_suffices p h joined = elim (closes_by p h.before h.event) [ Some r ↦ closing_suffices p h.before joined r | None ↦ true ]

-- along what happens from here on
unfoldable pub suffices_from : Settings → Pleas → List Happening → Bool
suffices_from p x [] = true
suffices_from p x (h ∷ happened) = event_suffices p h x.joined && suffices_from p (pleas_after p h x) happened

-- of each closing of a run
abbrev pub repair_suffices : Settings → History → Bool
repair_suffices p h = suffices_from p (record { given = []; joined = [] }) h.happened

-- the same as a claim
abbrev pub RepairSuffices : Settings → History → Type 0
RepairSuffices p h = IsTrue (repair_suffices p h)
