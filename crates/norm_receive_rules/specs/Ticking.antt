-- A tick of a receiver (RFC 5740 section 5.3): it sends an acknowledgement, a NACK, or nothing.
use Rattle.std.specs.Prelude.{ℕ, ◌+◌, ◌*◌, ◌%◌, List, [], ◌∷◌, flat_map, Bool, true, false, nat_le, Option, None, Some}
use Rattle.std.specs.List.{list_all}
use Rattle.norm_base.specs.Settings.{Settings}
use Rattle.norm_ext.specs.Written.{Written, writes}
use Rattle.norm_order.specs.Moments.{moment_after}
use Rattle.norm_receive_rules.specs.ReceiverState.{ReceiverState, Knowledge}
use Rattle.norm_receive_rules.specs.Needs.{Need}
use Rattle.norm_receive_rules.specs.AllNeeds.{needs, needs_nothing}
use Rattle.norm_receive_rules.specs.HeardNeeds.{is_heard}
use Rattle.norm_receive_rules.specs.Nack.{indices_of, fitting, nack_message, ack_message}

-- a datagram is sent
abbrev pub sends : Written → ReceiverState → ReceiverState × Option Written
sends datagram s = (record s { sequence = (s.sequence + 1) % 65536 }, Some datagram)

-- no back-off begins before K + 2 round trips have passed
abbrev pub holds_off : Settings → ℕ → Knowledge → Knowledge
holds_off p now k = record k { holdoff = moment_after now ((p.k + 2) * p.grtt) }

-- all of these needs were heard
abbrev pub are_heard : ReceiverState → List Need → Bool
are_heard s wanted = list_all (is_heard s.knows.heard s.holding) wanted

-- what a NACK would ask for is sent, or not where all of it was heard
abbrev pub asks : Settings → ℕ → List Need → ReceiverState → ReceiverState × Option Written
asks p now wanted s = let held_off = record s { knows = holds_off p now s.knows } in elim (are_heard s wanted) [
  | true ↦ (held_off, None)
  | false ↦ sends (writes (nack_message p s wanted) (flat_map indices_of wanted)) held_off
]

-- the back-off ended: where nothing is needed, nothing is sent or held off
abbrev pub asks_where_needed : Settings → ℕ → ReceiverState → ReceiverState × Option Written
asks_where_needed p now s = elim (needs_nothing p s) [
  | true ↦ (s, None)
  | false ↦ asks p now (fitting p (needs p s) None p.e) s
]

-- where a back-off runs and its moment is reached, it ends
abbrev pub ends_back_off : Settings → ℕ → ReceiverState → ReceiverState × Option Written
ends_back_off p now s = elim s.knows.backoff [
  | Some ends ↦ elim (nat_le ends now) [
    | true ↦ asks_where_needed p now (record s { knows = record (s.knows) { backoff = None } })
    | false ↦ (s, None)
  ]
  | None ↦ (s, None)
]

-- An acknowledgement that is due is sent first.
abbrev pub ticked : Settings → ReceiverState → ℕ → ReceiverState × Option Written
ticked p s now = elim s.knows.due [
  | Some at ↦ sends (writes (ack_message p s at) (at.index ∷ [])) (record s { knows = record (s.knows) { due = None } })
  | None ↦ ends_back_off p now s
]
