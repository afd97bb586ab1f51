-- What `gather` prints: what the receivers of several senders make of the datagrams that the lines of the input spell.
use Rattle.std.specs.Prelude.{ℕ, ◌+◌, ◌*◌, ◌==◌, min, List, [], ◌∷◌, ◌++◌, map, find, fold, Bool, true, false, codes, Option, None, Some, is_some}
use Rattle.std.specs.Fmt.{decimal}
use Rattle.std.specs.List.{flat_map}
use Rattle.hex.specs.Hex.{encode_lower}
use Rattle.rand_pcg.specs.Lcg.{Lcg}
use Rattle.norm_base.specs.Settings.{Settings}
use Rattle.norm_text.specs.Words.{line}
use Rattle.norm_script.specs.Text.{text_lines}
use Rattle.norm_ext.specs.Written.{Written}
use Rattle.norm_receive_rules.specs.ReceiverState.{ReceiverState, receiver_opening}
use Rattle.norm_receive_rules.specs.Receiving.{received}
use Rattle.norm_receive_rules.specs.Ticking.{ticked}
use Rattle.norm_journal.specs.Draws.{first_draws, next_draw, draws_after}
use Rattle.norm_journal.specs.Lines.{of_line}
use Rattle.norm_journal.specs.Totals.{nothing_counted, with_up}
use Rattle.norm_journal.specs.declared.totals.Totals.{Totals}
use Rattle.norm_multi.specs.Owner.{owner_of}
use Rattle.norm_show.specs.Showing.{datagram_in, why_none}
use Rattle.norm_show.specs.declared.fault.NoDatagram.{NoDatagram}

-- the receiver of one of the senders: its profile, its node and its state
pub record Hearer : Type 0 where
  pub p : Settings
  pub node : ℕ
  pub r : ReceiverState

-- What the lines so far led to: the receivers in the order of the words; the draws that are to come; how many lines were not empty; and the
-- counts of what was handed up.
pub record SoFar : Type 0 where
  pub hearers : List Hearer
  pub draws : Lcg
  pub lines : ℕ
  pub counts : Totals

-- the draws are those of the first profile, which is always there
abbrev pub draws_of : List (Settings × ℕ) → Lcg
draws_of [] = record { state = 0; increment = 0 }
draws_of (x ∷ list) = first_draws x.0

-- as it begins, with these profiles and nodes
abbrev pub hearer_at : Settings × ℕ → Hearer
hearer_at x = record { p = x.0; node = x.1; r = receiver_opening x.1 }

abbrev pub opening : List (Settings × ℕ) → SoFar
opening list = record { hearers = map hearer_at list; draws = draws_of list; lines = 0; counts = nothing_counted }

-- line n is a thousand microseconds after the line before it
abbrev pub moment_of_line : ℕ → ℕ
moment_of_line n = min (n * 1000) 18446744073709551615

-- a datagram is delivered; one of another sender changes nothing
abbrev pub hears : List ℕ → (now draw : ℕ) → Hearer → Hearer
hears datagram now draw h = record h { r = received h.p h.r datagram now draw }

-- the receiver of a sender, if it is one of these
abbrev pub hearer_of : List Hearer → ℕ → Option Hearer
hearer_of hearers s = find (λ (h : Hearer). h.p.sender == s) hearers

-- a draw is used for a datagram exactly if it belongs to one of the senders
abbrev pub uses_draw : List Hearer → Option ℕ → Bool
uses_draw hearers None = false
uses_draw hearers (Some s) = is_some (hearer_of hearers s)

abbrev pub draws_if : Bool → Lcg → Lcg
draws_if true draws = draws_after draws
draws_if false draws = draws

-- the lines of what a receiver handed up
abbrev pub up_lines_in : ℕ → Hearer → Option ℕ → List (List ℕ)
up_lines_in s h None = []
up_lines_in s h (Some instance) = map (of_line s h.node instance) h.r.holding.ups

abbrev pub up_lines : Hearer → List (List ℕ)
up_lines h = up_lines_in h.p.sender h h.r.instance

-- the line of a datagram that a receiver sends
abbrev pub send_line : ℕ → List ℕ → List ℕ
send_line s octets = line (codes "send") (decimal s ∷ encode_lower octets ∷ [])

abbrev pub send_lines : ℕ → Option Written → List (List ℕ)
send_lines s None = []
send_lines s (Some datagram) = send_line s datagram.octets ∷ []

-- all hand-ups are taken, and then it ticks
abbrev pub emptied : ReceiverState → ReceiverState
emptied r = record r { holding = record (r.holding) { ups = [] } }

abbrev pub tick_of : ℕ → Hearer → ReceiverState × Option Written
tick_of now h = ticked h.p (emptied h.r) now

abbrev pub after_tick : ℕ → Hearer → Hearer
after_tick now h = record h { r = (tick_of now h).0 }

-- what is printed of a receiver: its hand-ups, and then its datagram
abbrev pub told : ℕ → Hearer → List (List ℕ)
told now h = up_lines h ++ send_lines h.p.sender (tick_of now h).1

-- its hand-ups are counted
abbrev pub with_ups : Totals → Hearer → Totals
with_ups counts h = fold (λ t up. with_up up t) counts h.r.holding.ups

-- A datagram is delivered at this moment, and then each receiver hands up and ticks.
abbrev pub all_hear : ℕ → List ℕ → SoFar → List Hearer
all_hear now datagram g = map (hears datagram now (next_draw g.draws)) g.hearers

abbrev pub after_datagram : ℕ → List ℕ → SoFar → SoFar
after_datagram now datagram g = record {
  hearers = map (after_tick now) (all_hear now datagram g);
  draws = draws_if (uses_draw g.hearers (owner_of datagram)) g.draws;
  lines = g.lines + 1;
  counts = fold with_ups g.counts (all_hear now datagram g);
}

abbrev pub lines_of : ℕ → List ℕ → SoFar → List (List ℕ)
lines_of now datagram g = flat_map (told now) (all_hear now datagram g)

-- the last line: how many lines were not empty, and how many data, files and ended streams were handed up
abbrev pub last_line : (lines handed : ℕ) → List ℕ
last_line lines handed = line (codes "end") (codes "lines" ∷ decimal lines ∷ codes "handed" ∷ decimal handed ∷ [])

-- what is printed, and the number of the first line that spells no datagram, behind which nothing is done, and why it spells none
pub record Printed : Type 0 where
  pub lines : List (List ℕ)
  pub stop : Option (ℕ × NoDatagram)

-- lines in front of what is printed
abbrev pub in_front : List (List ℕ) → Printed → Printed
in_front lines printed = record { lines = lines ++ printed.lines; stop = printed.stop }

abbrev pub stopped : ℕ → NoDatagram → Printed
stopped n why = record { lines = []; stop = Some (n, why) }

abbrev pub ended : SoFar → Printed
ended g = record { lines = last_line g.lines g.counts.handed ∷ []; stop = None }

-- line n, which spells a datagram or none, and then the others; nothing is done at an empty line
abbrev pub gather_or_stop : ℕ → NoDatagram → Option (List ℕ) → SoFar → (SoFar → Printed) → Printed
gather_or_stop n why None g others = stopped n why
gather_or_stop n why (Some datagram) g others =
    in_front (lines_of (moment_of_line n) datagram g) (others (after_datagram (moment_of_line n) datagram g))

abbrev pub gather_line : ℕ → List ℕ → SoFar → (SoFar → Printed) → Printed
gather_line n [] g others = others g
gather_line n (x ∷ xs) g others = gather_or_stop n (why_none (x ∷ xs)) (datagram_in (x ∷ xs)) g others

-- the lines from number n on, and at their end the last line
abbrev pub gather_lines : ℕ → List (List ℕ) → SoFar → Printed
gather_lines n [] g = ended g
gather_lines n (first ∷ lines) g = gather_line n first g (λ after. gather_lines (n + 1) lines after)

-- What is printed of a text for these profiles and nodes.
abbrev pub gathered : List (Settings × ℕ) → List ℕ → Printed
gathered list text = gather_lines 1 (text_lines text) (opening list)
