-- A tick of a sender (RFC 5740 section 5.1): it sends one datagram or none.
use Rattle.std.specs.Prelude.{ℕ, [], ◌∷◌, Bool, true, false, nat_lt, nat_le, Option, None, Some}
use Rattle.norm_base.specs.Settings.{Settings}
use Rattle.norm_ext.specs.Written.{Written, writes}
use Rattle.norm_send_rules.specs.SenderState.{SenderState}
use Rattle.norm_send_rules.specs.Messages.{squelch_message}
use Rattle.norm_send_rules.specs.Closing.{round_closed}
use Rattle.norm_send_rules.specs.Sending.{sends, repairs_next, next_new, sends_new}
use Rattle.norm_send_rules.specs.Flushing.{flushes}

-- a round whose closing moment is reached is closed
abbrev pub closed_where_due : Settings → ℕ → SenderState → SenderState
closed_where_due p now s = elim s.round [
  | Some r ↦ elim (nat_le r.closes now) [ true ↦ round_closed p r s | false ↦ s ]
  | None ↦ s
]

-- a new symbol or info, or else a flush
abbrev pub sends_further : Settings → ℕ → SenderState → SenderState × Option Written
sends_further p now s = elim (next_new p s) [ Some w ↦ sends_new p now w s | None ↦ flushes p now s ]

-- the lowest want, or else what comes further
abbrev pub sends_wanted : Settings → ℕ → SenderState → SenderState × Option Written
sends_wanted p now s = elim s.wants [ [] ↦ sends_further p now s | w ∷ wants ↦ repairs_next p now w wants s ]

-- a squelch that is due, or else what is wanted
abbrev pub sends_first : Settings → ℕ → SenderState → SenderState × Option Written
sends_first p now s = elim s.squelch_due [
  | true ↦ sends p now (writes (squelch_message p s s.current.drop) (s.current.drop.index ∷ [])) (record s { squelch_due = false })
  | false ↦ sends_wanted p now s
]

-- a datagram, where the next send moment is reached
abbrev pub sends_in_time : Settings → ℕ → SenderState → SenderState × Option Written
sends_in_time p now s = elim (nat_lt now s.next_send) [ true ↦ (s, None) | false ↦ sends_first p now s ]

-- In this order: a round is closed; before the next send moment nothing is sent; then a squelch, the lowest want, a
-- new symbol, or a flush.
abbrev pub ticked : Settings → SenderState → ℕ → SenderState × Option Written
ticked p s now = sends_in_time p now (closed_where_due p now s)

-- no squelch, want, new symbol or open round is there
abbrev pub is_idle : Settings → SenderState → Bool
is_idle p s = elim s.squelch_due [
  | true ↦ false
  | false ↦ elim s.wants [
    | w ∷ wants ↦ false
    | [] ↦ elim (next_new p s) [ Some w ↦ false | None ↦ elim s.round [ Some r ↦ false | None ↦ true ] ]
  ]
]
