-- The parts of a relay's run: news, ticks, pumps and datagrams, and acts one after another.
use Rattle.std.proofs.Common.{◌≡◌, ◌∙◌, sym, ap, subst, refl, arith, ℕ, suc, ◌+◌, ◌≤◌, List, [], ◌∷◌, ◌++◌, map, fold, take, length, get_or, Bool, true, false, Option, None, Some, Result, Ok, Err, append_assoc}
use Rattle.std.specs.Prelude.{◌≢◌, ◌==◌, ◌<◌, IfOk}
use Rattle.std.specs.Option.{option_map}
use Rattle.std.proofs.lemmas.Bool.Decides.{Decides-eqb}
use Rattle.std.proofs.lemmas.List.{take_more, take_all}
use Rattle.std.proofs.lemmas.List.Sums.{fold-append}
use Rattle.norm_base.specs.Datagrams.{datagram_of}
use Rattle.norm_base.specs.Told.{Pieces, gained}
use Rattle.norm_base.specs.declared.kinds.Sent.{Sent as Said}
use Rattle.norm_base.specs.declared.kinds.Sent.TheVariants.{Nothing, Datagram}
use Rattle.norm_journal.specs.Draws.{next_draw, draws_after}
use Rattle.norm_order.specs.declared.up.Up.{Up}
use Rattle.norm_order.specs.declared.up.Up.TheVariants as up
use Rattle.norm_relay.specs.RelayKept.{RelayKept, StandsFor as RelayStands}
use Rattle.norm_relay.specs.RelayMoves.{IsCall, IsSent, counted}
use Rattle.norm_relay.specs.RelayState.{Relaying, untold, upper_instance}
use Rattle.norm_relay.specs.RelayStep.{RelayEvent, UpDelivered, DownDelivered, PumpAsked, UpTicked, DownTicked, DownNews, RelayAnswer, Took, Counted, Sent, Other}
use Rattle.norm_relay.specs.Waiting.{waiting_of}
use Rattle.norm_relay.specs.declared.relay.RelayFault.{RelayFault}
use Rattle.norm_relay.specs.declared.relay.RelayFault.TheVariants as relay
use Rattle.norm_relay.specs.declared.waiting.Waiting.{Waiting}
use Rattle.norm_script.specs.Text.{text_lines}
use Rattle.norm_send_rules.specs.declared.fault.SendFault.{SendFault}
use Rattle.norm_turns.specs.Printing.{IsUnwritten}
use Rattle.norm_turns.specs.declared.fault.SessionFault.{SessionFault}
use Rattle.norm_turns.specs.declared.fault.SessionFault.TheVariants as fault
use Rattle.relay_words.specs.Events.{event_in, why_no_event}
use Rattle.relay_words.specs.declared.event.LineEvent.{LineEvent}
use Rattle.relay_words.specs.declared.ends.Losses.{Losses}
use Rattle.relay_words.specs.declared.ends.NoEvent.{NoEvent}
use Rattle.relay_words.specs.declared.ends.RelayEnd.{RelayEnd}
use Rattle.relay_words.specs.declared.ends.RelayEnd.TheVariants as stop
use Rattle.driven_nodes.specs.Chaining.{StandsFor, LeadsTo, Does, Halts, DoesUnless, Breaks, Tells, HearsAbove, heard, Gives, TicksAbove, TicksBelow, IsRefusalOf, with_waiting}
use Rattle.driven_nodes.specs.Gathered.{moment_of_line}
use Rattle.driven_nodes.specs.Relayed.{SoFar, Printed, Act, next, answered, in_front, halted, after, told_news, told_all, tells, octets_in, sent_line, sent_lines, sends, acks_in, pump_told, pumped, pumps_by, pumps, followed, loses, losses_of, delivery, is_taken, busy_line, hears_by, hears_up, hears_down, takes_event, counts, takes_one, takes_or_halts, takes_line, takes_lines, last_line}
use Rattle.driven_nodes.specs.declared.chain.Chain.{Chain}
use Rattle.driven_nodes.proofs.WritingLemmas.{gained-nil, gained-gained, leaves_more, leaves_after, leaves_same, leaves_one, wants_memory}

abbrev Lines : Type 0
Lines = List (List ℕ)

-- ---- calls of the relay

-- a call, as the definitions of this crate name it
pub called : (old new : RelayKept) (e : RelayEvent) (Fits : RelayAnswer → Type 0) → IsCall old new e Fits → (x : Relaying) → RelayStands old x
    → RelayStands new (next e x) × Fits (answered e x)
unfolding next answered
called old new e Fits call x stands = call x stands

-- a chain whose relay moved, or whose line is another
pub moved : (k : Chain) (g : SoFar) (kept : RelayKept) (x : Relaying) → StandsFor k g → RelayStands kept x
    → StandsFor (record k { relay = kept }) (record g { x = x })
moved k g kept x stands relay = record {
  relay = relay;
  draw = stands.draw;
  draws = stands.draws;
  lines = stands.lines;
  enqueued = stands.enqueued;
  acknowledged = stands.acknowledged;
  lost = stands.lost;
}

pub relined : (k : Chain) (g : SoFar) (line : List ℕ) → StandsFor k g → StandsFor (record k { line = line }) g
relined k g line stands = record {
  relay = stands.relay;
  draw = stands.draw;
  draws = stands.draws;
  lines = stands.lines;
  enqueued = stands.enqueued;
  acknowledged = stands.acknowledged;
  lost = stands.lost;
}

-- ---- news

-- so many news were asked for, of whatever it stood for at first
abbrev pub Told : RelayKept → ℕ → RelayKept → Type 0
Told old many new = (x : Relaying) → RelayStands old x → RelayStands new (told_news many x)

pub told_first : (k : RelayKept) → Told k 0 k
unfolding told_news
told_first k x stands = stands

pub told_next : (old mid new : RelayKept) (many : ℕ) (Fits : RelayAnswer → Type 0) → Told old many mid → IsCall mid new DownNews Fits → Told old (many + 1) new
unfolding told_news
told_next old mid new many Fits so call x stands =
    subst (λ n. RelayStands new (told_news n x)) (suc_is many) (called mid new DownNews Fits call (told_news many x) (so x stands)).0
  where
    suc_is : (n : ℕ) → suc n ≡ n + 1
    suc_is n = omega arith

pub told_whole : (old new : RelayKept) (many all : ℕ) → Told old many new → many ≤ all → all ≤ many
    → ((x : Relaying) → RelayStands old x → all ≡ untold x) → Tells old new
told_whole old new many all so within past is x stands =
    let same : many ≡ all = omega (arith, within, past) in
    subst (λ n. RelayStands new (told_news n x)) (same ∙ is x stands) (so x stands)

-- ---- acts one after another

joined_before : (front more : Lines) (p : Printed) → in_front front (in_front more p) ≡ in_front (front ++ more) p
joined_before front more p = ap (λ ls. record { lines = ls; end = p.end }) (sym (append_assoc front more p.lines))

pub goes_on : (a b : Act) (old mid new : Chain) (u v w : Pieces) → Does a old mid u v → Does b mid new v w → Does (followed a b) old new u w
goes_on a b old mid new u v w one two g rest stands =
    let first = one g (λ k. b k rest) stands in
    let second = two first.state rest first.stands in
    record {
      state = second.state;
      front = first.front ++ second.front;
      stands = second.stands;
      is = first.is ∙ ap (in_front first.front) second.is ∙ joined_before first.front second.front (rest second.state);
      output = second.output ∙ ap (λ p. gained p second.front) first.output ∙ gained-gained u first.front second.front;
    }

pub halts_on : (how : RelayEnd) (a b : Act) (old mid : Chain) (u v w : Pieces) → Does a old mid u v → Halts b how mid v w → Halts (followed a b) how old u w
halts_on how a b old mid u v w one halts g rest stands =
    let first = one g (λ k. b k rest) stands in
    let second = halts first.state rest first.stands in
    record {
      is = ap (λ (p : Printed). p.end) first.is ∙ second.is;
      output = second.output ∙ ap (λ p. gained p (b first.state rest).lines) first.output ∙ gained-gained u first.front (b first.state rest).lines
          ∙ ap (gained u) (sym (ap (λ (p : Printed). p.lines) first.is));
    }

pub unless_on : (how : Option RelayEnd) (a b : Act) (old mid new : Chain) (u v w : Pieces) → Does a old mid u v → DoesUnless b how mid new v w
    → DoesUnless (followed a b) how old new u w
unless_on None a b old mid new u v w one two = goes_on a b old mid new u v w one two
unless_on (Some how) a b old mid new u v w one two = halts_on how a b old mid u v w one two

pub breaks_on : (f : SessionFault) (a b : Act) (old mid : Chain) (u v w : Pieces) → Does a old mid u v → Breaks b f mid v w → Breaks (followed a b) f old u w
breaks_on f a b old mid u v w one breaks g rest stands =
    let first = one g (λ k. b k rest) stands in
    leaves_same f u w (first.front ++ (b first.state rest).lines) (a g (λ k. b k rest)).lines (sym (ap (λ (p : Printed). p.lines) first.is))
    (leaves_after f u v w first.front (b first.state rest).lines first.output (breaks first.state rest first.stands))

-- what ends an act ends those that follow it too
pub halts_first : (how : RelayEnd) (a b : Act) (old : Chain) (u w : Pieces) → Halts a how old u w → Halts (followed a b) how old u w
halts_first how a b old u w halts g rest stands = halts g (λ k. b k rest) stands

pub breaks_first : (f : SessionFault) (a b : Act) (old : Chain) (u w : Pieces) → Breaks a f old u w → Breaks (followed a b) f old u w
breaks_first f a b old u w breaks g rest stands = breaks g (λ k. b k rest) stands

-- there was no memory, and nothing was written
pub lacks : (a : Act) (old : Chain) (u w : Pieces) → w ≡ u → Breaks a fault.Memory old u w
lacks a old u w same g rest stands = wants_memory u w [] (a g rest).lines (same ∙ sym (gained-nil u))

-- what became of an act, by what the code answers
pub does_none : (a : Act) (how : Option RelayEnd) (old new : Chain) (u w : Pieces) → DoesUnless a how old new u w → how ≡ None → Does a old new u w
does_none a how old new u w h is = subst (λ o. DoesUnless a o old new u w) is h

pub halts_some : (a : Act) (how : Option RelayEnd) (e : RelayEnd) (old new : Chain) (u w : Pieces) → DoesUnless a how old new u w → how ≡ Some e → Halts a e old u w
halts_some a how e old new u w h is = subst (λ o. DoesUnless a o old new u w) is h

-- what a call's clause says of another one's answer
pub if_ok : {T E : Type 0} {P Q : T → Type 0} (result : Result T E) → ((x : T) → P x → Q x) → IfOk result P → IfOk result Q
if_ok (Ok x) f h = f x h
if_ok (Err e) f h = h

-- an act that prints nothing
pub leads_quiet : (rest : SoFar → Printed) (state : SoFar) (new : Chain) (u : Pieces) → StandsFor new state → LeadsTo (rest state) rest new u u
leads_quiet rest state new u stands = record { state = state; front = []; stands = stands; is = refl; output = sym (gained-nil u) }

-- ---- a tick

pub sent_is : (said : Said) (out : List ℕ) (a : RelayAnswer) → IsSent said out a → datagram_of said out ≡ octets_in a
sent_is said out (Sent datagram) h = h
sent_is said out (Took taken) h = absurd h
sent_is said out (Counted count) h = absurd h
sent_is said out (Other answer) h = absurd h

pub ticked_above : (now : ℕ) (k : Chain) (kept : RelayKept) (out : List ℕ) (said : Said) (count : ℕ) → IsCall k.relay kept (UpTicked now) (IsSent said out)
    → count ≡ k.acknowledged + acks_in (datagram_of said out) → TicksAbove now said k (record k { relay = kept; datagram = out; acknowledged = count })
ticked_above now k kept out said count call counted g stands =
    let both = called k.relay kept (UpTicked now) (IsSent said out) call g.x stands.relay in
    let is = sent_is said out (answered (UpTicked now) g.x) both.1 in
    record {
      gave = is;
      stands = record {
        relay = both.0;
        draw = stands.draw;
        draws = stands.draws;
        lines = stands.lines;
        enqueued = stands.enqueued;
        acknowledged = counted ∙ ap (λ n. n + acks_in (datagram_of said out)) stands.acknowledged ∙ ap (λ o. g.acknowledged + acks_in o) is;
        lost = stands.lost;
      };
    }

pub ticked_below : (now : ℕ) (k : Chain) (kept new : RelayKept) (out : List ℕ) (said : Said) → IsCall k.relay kept (DownTicked now) (IsSent said out) → Tells kept new
    → TicksBelow now said k (record k { relay = new; datagram = out })
ticked_below now k kept new out said call tell g stands =
    let both = called k.relay kept (DownTicked now) (IsSent said out) call g.x stands.relay in
    record {
      gave = sent_is said out (answered (DownTicked now) g.x) both.1;
      stands = record {
        relay = tell (next (DownTicked now) g.x) both.0;
        draw = stands.draw;
        draws = stands.draws;
        lines = stands.lines;
        enqueued = stands.enqueued;
        acknowledged = stands.acknowledged;
        lost = stands.lost;
      };
    }

-- it gave nothing
pub sends_nothing : (side : List ℕ) (given : SoFar → Option (List ℕ)) (state : SoFar → SoFar) (said : Said) (old mid : Chain) (u : Pieces)
    → Gives given state said old mid → said ≡ Nothing → Does (sends side given state) old mid u u
sends_nothing side given state said old mid u gives is g rest stands =
    let t = gives g stands in
    let none : given g ≡ None = sym t.gave ∙ ap (λ s. datagram_of s mid.datagram) is in
    record {
      state = state g;
      front = [];
      stands = t.stands;
      is = ap (λ o. in_front (sent_lines side o) (rest (state g))) none;
      output = sym (gained-nil u);
    }

given_is : (given : SoFar → Option (List ℕ)) (state : SoFar → SoFar) (said : Said) (old mid : Chain) (octets : List ℕ) (g : SoFar) → Gives given state said old mid
    → said ≡ Datagram → octets ≡ mid.datagram → StandsFor old g → given g ≡ Some octets
given_is given state said old mid octets g gives is same stands =
    sym (gives g stands).gave ∙ ap (λ s. datagram_of s mid.datagram) is ∙ ap Some (sym same)

-- it gave a datagram, whose line was written
pub sends_one : (side : List ℕ) (given : SoFar → Option (List ℕ)) (state : SoFar → SoFar) (said : Said) (old mid : Chain) (octets line : List ℕ) (u w : Pieces)
    → Gives given state said old mid → said ≡ Datagram → octets ≡ mid.datagram → w ≡ gained u (sent_line side octets ∷ [])
    → Does (sends side given state) old (record mid { line = line }) u w
sends_one side given state said old mid octets line u w gives is same written g rest stands = record {
  state = state g;
  front = sent_line side octets ∷ [];
  stands = relined mid (state g) line (gives g stands).stands;
  is = ap (λ o. in_front (sent_lines side o) (rest (state g))) (given_is given state said old mid octets g gives is same stands);
  output = written;
}

-- a fault broke its line off
pub sends_less : (f : SessionFault) (side : List ℕ) (given : SoFar → Option (List ℕ)) (state : SoFar → SoFar) (said : Said) (old mid : Chain) (octets : List ℕ)
    (u w : Pieces) → Gives given state said old mid → said ≡ Datagram → octets ≡ mid.datagram → IsUnwritten f u w (Some (sent_line side octets))
    → Breaks (sends side given state) f old u w
sends_less f side given state said old mid octets u w gives is same un g rest stands =
    leaves_same f u w (sent_line side octets ∷ (rest (state g)).lines) (sends side given state g rest).lines
    (sym (ap (λ o. (in_front (sent_lines side o) (rest (state g))).lines) (given_is given state said old mid octets g gives is same stands)))
    (leaves_more f u w (sent_line side octets ∷ []) (rest (state g)).lines (leaves_one f u w (Some (sent_line side octets)) un))

-- ---- a pump

abbrev Same : (a b : Result ℕ RelayFault) → Type 0
Same a b = a ≡ b

pub pumped_on : (now count sum : ℕ) (k : Chain) (kept new : RelayKept) (result : Result ℕ RelayFault) (u : Pieces)
    → (result ≢ Err relay.Memory → IsCall k.relay kept (PumpAsked now) (λ answer. answer ≡ Counted (counted result))) → result ≡ Ok count
    → sum ≡ k.enqueued + count → Tells kept new → Does (pumps now) k (record k { relay = new; enqueued = sum }) u u
pumped_on now count sum k kept new result u call is summed tell g rest stands =
    let both = called k.relay kept (PumpAsked now) (λ answer. answer ≡ Counted (counted result)) (call (λ e. differ (sym is ∙ e))) g.x stands.relay in
    let so : answered (PumpAsked now) g.x ≡ Counted (Ok count) = both.1 ∙ ap (λ r. Counted (counted r)) is in
    record {
      state = pumped now count g;
      front = [];
      stands = record {
        relay = tell (next (PumpAsked now) g.x) both.0;
        draw = stands.draw;
        draws = stands.draws;
        lines = stands.lines;
        enqueued = summed ∙ ap (λ n. n + count) stands.enqueued;
        acknowledged = stands.acknowledged;
        lost = stands.lost;
      };
      is = ap (λ a. pumps_by now (pump_told a) g rest) so;
      output = sym (gained-nil u);
    }
  where
    differ : Same (Ok count) (Err relay.Memory) → ⊥
    differ e = cc

pub pumped_to : (now : ℕ) (f : SendFault) (k : Chain) (kept : RelayKept) (result : Result ℕ RelayFault) (u : Pieces)
    → (result ≢ Err relay.Memory → IsCall k.relay kept (PumpAsked now) (λ answer. answer ≡ Counted (counted result))) → result ≡ Err (relay.Refused f)
    → Halts (pumps now) (stop.Refused f) k u u
pumped_to now f k kept result u call is g rest stands =
    let both = called k.relay kept (PumpAsked now) (λ answer. answer ≡ Counted (counted result)) (call (λ e. differ (sym is ∙ e))) g.x stands.relay in
    let so : answered (PumpAsked now) g.x ≡ Counted (Err f) = both.1 ∙ ap (λ r. Counted (counted r)) is in
    let whole : pumps now g rest ≡ halted (stop.Refused f) = ap (λ a. pumps_by now (pump_told a) g rest) so in
    record {
      is = ap (λ (p : Printed). p.end) whole;
      output = sym (gained-nil u) ∙ ap (gained u) (sym (ap (λ (p : Printed). p.lines) whole));
    }
  where
    differ : Same (Err (relay.Refused f)) (Err relay.Memory) → ⊥
    differ e = cc

-- the same of what the code answers
pub refused_to : (now : ℕ) (why : RelayFault) (k : Chain) (kept : RelayKept) (result : Result ℕ RelayFault) (answer : Result (Option SendFault) SessionFault)
    → (result ≢ Err relay.Memory → IsCall k.relay kept (PumpAsked now) (λ a. a ≡ Counted (counted result))) → result ≡ Err why
    → IfOk answer (IsRefusalOf why)
    → IfOk answer (λ refused. (u : Pieces) → DoesUnless (pumps now) (option_map stop.Refused refused) k (record k { relay = kept }) u u)
refused_to now why k kept result (Ok (Some f)) call is same = λ u. pumped_to now f k kept result u call (is ∙ ap Err same)
refused_to now why k kept result (Ok None) call is same = absurd same
refused_to now why k kept result (Err e) call is same = same

-- ---- a datagram

-- the event that the code made
event_is : (datagram : List ℕ) (now : ℕ) (k : Chain) (g : SoFar) → StandsFor k g → UpDelivered datagram now k.draw ≡ delivery datagram now g
event_is datagram now k g stands = ap (UpDelivered datagram now) stands.draw

delivered : (datagram : List ℕ) (now : ℕ) (k : Chain) (kept : RelayKept) (taken : Bool) (g : SoFar)
    → IsCall k.relay kept (UpDelivered datagram now k.draw) (λ answer. answer ≡ Took taken) → StandsFor k g
    → RelayStands kept (next (delivery datagram now g) g.x) × (answered (delivery datagram now g) g.x ≡ Took taken)
delivered datagram now k kept taken g call stands =
    subst (λ e. RelayStands kept (next e g.x) × (answered e g.x ≡ Took taken)) (event_is datagram now k g stands)
    (called k.relay kept (UpDelivered datagram now k.draw) (λ answer. answer ≡ Took taken) call g.x stands.relay)

pub not_taken : (datagram : List ℕ) (now : ℕ) (k : Chain) (kept : RelayKept) (taken : Bool)
    → IsCall k.relay kept (UpDelivered datagram now k.draw) (λ answer. answer ≡ Took taken) → taken ≡ false
    → HearsAbove datagram now false k (record k { relay = kept })
not_taken datagram now k kept taken call is g stands =
    let both = delivered datagram now k kept taken g call stands in
    record {
      is = ap is_taken both.1 ∙ is;
      stands = moved k g kept (next (delivery datagram now g) g.x) stands both.0;
    }

pub is_taken_up : (datagram : List ℕ) (now : ℕ) (k new : Chain) (kept : RelayKept) (taken : Bool)
    → IsCall k.relay kept (UpDelivered datagram now k.draw) (λ answer. answer ≡ Took taken) → taken ≡ true
    → new.relay ≡ kept → new.draw ≡ next_draw k.draws → new.draws ≡ draws_after k.draws → new.lines ≡ k.lines → new.enqueued ≡ k.enqueued
    → new.acknowledged ≡ k.acknowledged → ((x : Relaying) → RelayStands kept x → new.lost ≡ losses_of (upper_instance x) x.waiting k.lost)
    → HearsAbove datagram now true k new
is_taken_up datagram now k new kept taken call is relay_is draw draws lines enqueued acknowledged losses g stands =
    let both = delivered datagram now k kept taken g call stands in
    let x = next (delivery datagram now g) g.x in
    record {
      is = ap is_taken both.1 ∙ is;
      stands = record {
        relay = subst (λ (r : RelayKept). RelayStands r x) (sym relay_is) both.0;
        draw = draw ∙ ap next_draw stands.draws;
        draws = draws ∙ ap draws_after stands.draws;
        lines = lines ∙ stands.lines;
        enqueued = enqueued ∙ stands.enqueued;
        acknowledged = acknowledged ∙ stands.acknowledged;
        lost = losses x both.0 ∙ ap (losses_of (upper_instance x) x.waiting) stands.lost;
      };
    }

pub hears_taken : (datagram : List ℕ) (now : ℕ) (taken : Bool) (k new : Chain) (u : Pieces) → HearsAbove datagram now taken k new → taken ≡ true
    → Does (hears_up datagram now) k new u u
hears_taken datagram now taken k new u hears is g rest stands =
    let h = hears g stands in
    record {
      state = heard true datagram now g;
      front = [];
      stands = subst (λ b. StandsFor new (heard b datagram now g)) is h.stands;
      is = ap (λ b. hears_by b datagram now g rest) (h.is ∙ is);
      output = sym (gained-nil u);
    }

pub hears_busy : (datagram : List ℕ) (now : ℕ) (taken : Bool) (k mid : Chain) (line : List ℕ) (u w : Pieces) → HearsAbove datagram now taken k mid → taken ≡ false
    → w ≡ gained u (busy_line ∷ []) → Does (hears_up datagram now) k (record mid { line = line }) u w
hears_busy datagram now taken k mid line u w hears is written g rest stands =
    let h = hears g stands in
    record {
      state = heard false datagram now g;
      front = busy_line ∷ [];
      stands = relined mid (heard false datagram now g) line (subst (λ b. StandsFor mid (heard b datagram now g)) is h.stands);
      is = ap (λ b. hears_by b datagram now g rest) (h.is ∙ is);
      output = written;
    }

pub hears_less : (f : SessionFault) (datagram : List ℕ) (now : ℕ) (taken : Bool) (k mid : Chain) (u w : Pieces) → HearsAbove datagram now taken k mid → taken ≡ false
    → IsUnwritten f u w (Some busy_line) → Breaks (hears_up datagram now) f k u w
hears_less f datagram now taken k mid u w hears is un g rest stands =
    let others = rest (heard false datagram now g) in
    leaves_same f u w (busy_line ∷ others.lines) (hears_up datagram now g rest).lines
    (sym (ap (λ b. (hears_by b datagram now g rest).lines) ((hears g stands).is ∙ is)))
    (leaves_more f u w (busy_line ∷ []) others.lines (leaves_one f u w (Some busy_line) un))

pub hears_below : (datagram : List ℕ) (now : ℕ) (k : Chain) (kept new : RelayKept) (Fits : RelayAnswer → Type 0) (u : Pieces)
    → IsCall k.relay kept (DownDelivered datagram now) Fits → Tells kept new → Does (hears_down datagram now) k (record k { relay = new }) u u
hears_below datagram now k kept new Fits u call tell g rest stands =
    let both = called k.relay kept (DownDelivered datagram now) Fits call g.x stands.relay in
    leads_quiet rest (tells (after (DownDelivered datagram now) g)) (record k { relay = new }) u
    (moved k g new (told_all (next (DownDelivered datagram now) g.x)) stands (tell (next (DownDelivered datagram now) g.x) both.0))

-- ---- losses

waits_as : (instance : ℕ) (lost : Losses) (u : Up) → with_waiting instance lost (waiting_of u) ≡ loses instance lost u
waits_as instance lost (up.Object index k info bytes) = refl
waits_as instance lost (up.StreamOpen index) = refl
waits_as instance lost (up.StreamBytes index offset bytes) = refl
waits_as instance lost (up.StreamEnd index) = refl
waits_as instance lost (up.Lost index) = refl

all_wait : (instance : ℕ) (lost : Losses) (ups : List Up) → fold (with_waiting instance) lost (map waiting_of ups) ≡ fold (loses instance) lost ups
all_wait instance lost [] = refl
all_wait instance lost (u ∷ ups) =
    all_wait instance (with_waiting instance lost (waiting_of u)) ups ∙ ap (λ l. fold (loses instance) l ups) (waits_as instance lost u)

pub losses_none : (o : Option ℕ) (ups : List Up) (lost : Losses) → o ≡ None → lost ≡ losses_of o ups lost
losses_none o ups lost is = ap (λ i. losses_of i ups lost) (sym is)

-- what waits lies in two slices
pub losses_some : (o : Option ℕ) (instance : ℕ) (ups : List Up) (lost mid new : Losses) (front back waiting : List Waiting) → o ≡ Some instance
    → front ++ back ≡ waiting → waiting ≡ map waiting_of ups → mid ≡ fold (with_waiting instance) lost front → new ≡ fold (with_waiting instance) mid back
    → new ≡ losses_of o ups lost
losses_some o instance ups lost mid new front back waiting is slices waits first second =
    second ∙ ap (λ l. fold (with_waiting instance) l back) first ∙ sym (fold-append (with_waiting instance) lost front back)
    ∙ ap (fold (with_waiting instance) lost) (slices ∙ waits) ∙ all_wait instance lost ups ∙ ap (λ i. losses_of i ups lost) (sym is)

pub lost_more : (instance : ℕ) (waiting : List Waiting) (i : ℕ) (w : Waiting) (first lost now : Losses) → i < length waiting → w ≡ get_or waiting i w
    → lost ≡ fold (with_waiting instance) first (take i waiting) → now ≡ with_waiting instance lost w
    → now ≡ fold (with_waiting instance) first (take (i + 1) waiting)
lost_more instance waiting i w first lost now lt is so one =
    one ∙ ap (λ l. with_waiting instance l w) so ∙ sym (fold-append (with_waiting instance) first (take i waiting) (w ∷ []))
    ∙ ap (fold (with_waiting instance) first) (sym (take_more waiting i w lt ∙ ap (λ v. take i waiting ++ v ∷ []) (sym is)))

pub lost_all : (instance : ℕ) (waiting : List Waiting) (i : ℕ) (first lost : Losses) → length waiting ≤ i → lost ≡ fold (with_waiting instance) first (take i waiting)
    → lost ≡ fold (with_waiting instance) first waiting
lost_all instance waiting i first lost past so = so ∙ ap (fold (with_waiting instance) first) (take_all i waiting past)

-- ---- lines

pub counted_one : (k : Chain) (lines : ℕ) (u : Pieces) → lines ≡ k.lines + 1 → Does counts k (record k { lines = lines }) u u
counted_one k lines u more g rest stands =
    leads_quiet rest (record g { lines = g.lines + 1 }) (record k { lines = lines }) u record {
      relay = stands.relay;
      draw = stands.draw;
      draws = stands.draws;
      lines = more ∙ ap (λ n. n + 1) stands.lines;
      enqueued = stands.enqueued;
      acknowledged = stands.acknowledged;
      lost = stands.lost;
    }

-- a line that is an event
pub line_does : (n : ℕ) (text : List ℕ) (e : LineEvent) (how : Option RelayEnd) (old new : Chain) (u w : Pieces) → event_in text ≡ Some e
    → DoesUnless (takes_one e n) how old new u w → DoesUnless (takes_line n text) how old new u w
line_does n text e how old new u w is does =
    subst (λ o. DoesUnless (takes_or_halts n (why_no_event text) o) how old new u w) (sym is) does

pub line_breaks : (f : SessionFault) (n : ℕ) (text : List ℕ) (e : LineEvent) (old : Chain) (u w : Pieces) → event_in text ≡ Some e → Breaks (takes_one e n) f old u w
    → Breaks (takes_line n text) f old u w
line_breaks f n text e old u w is breaks = subst (λ o. Breaks (takes_or_halts n (why_no_event text) o) f old u w) (sym is) breaks

-- a line that is none
pub line_halts : (n : ℕ) (text : List ℕ) (why : NoEvent) (old : Chain) (u : Pieces) → event_in text ≡ None → why ≡ why_no_event text
    → Halts (takes_line n text) (stop.NoEvent n why) old u u
line_halts n text why old u is reason g rest stands =
    let whole : takes_line n text g rest ≡ halted (stop.NoEvent n why) =
    ap (λ o. takes_or_halts n (why_no_event text) o g rest) is ∙ ap (λ y. halted (stop.NoEvent n y)) (sym reason) in
    record {
      is = ap (λ (p : Printed). p.end) whole;
      output = sym (gained-nil u) ∙ ap (gained u) (sym (ap (λ (p : Printed). p.lines) whole));
    }

-- an event, by what the code has of it
pub event_does : (e of : LineEvent) (how : Option RelayEnd) (now : ℕ) (old new : Chain) (u w : Pieces) → of ≡ e → DoesUnless (takes_event e now) how old new u w
    → DoesUnless (takes_event of now) how old new u w
event_does e of how now old new u w is does = subst (λ x. DoesUnless (takes_event x now) how old new u w) (sym is) does

pub event_breaks : (f : SessionFault) (e of : LineEvent) (now : ℕ) (old : Chain) (u w : Pieces) → of ≡ e → Breaks (takes_event e now) f old u w
    → Breaks (takes_event of now) f old u w
event_breaks f e of now old u w is breaks = subst (λ x. Breaks (takes_event x now) f old u w) (sym is) breaks

pub hears_this : (octets datagram : List ℕ) (now : ℕ) (old new : Chain) (u w : Pieces) → octets ≡ datagram → Does (hears_up octets now) old new u w
    → Does (hears_up datagram now) old new u w
hears_this octets datagram now old new u w same does = subst (λ o. Does (hears_up o now) old new u w) same does

pub breaks_this : (f : SessionFault) (octets datagram : List ℕ) (now : ℕ) (old : Chain) (u w : Pieces) → octets ≡ datagram → Breaks (hears_up octets now) f old u w
    → Breaks (hears_up datagram now) f old u w
breaks_this f octets datagram now old u w same breaks = subst (λ o. Breaks (hears_up o now) f old u w) same breaks

pub below_this : (octets datagram : List ℕ) (now : ℕ) (old new : Chain) (u : Pieces) → octets ≡ datagram → Does (hears_down octets now) old new u u
    → Does (hears_down datagram now) old new u u
below_this octets datagram now old new u same does = subst (λ o. Does (hears_down o now) old new u u) same does

pub does_at : (e : LineEvent) (how : Option RelayEnd) (n now : ℕ) (old new : Chain) (u w : Pieces) → now ≡ moment_of_line n
    → DoesUnless (takes_event e now) how old new u w → DoesUnless (takes_event e (moment_of_line n)) how old new u w
does_at e how n now old new u w at does = subst (λ m. DoesUnless (takes_event e m) how old new u w) at does

pub breaks_at : (f : SessionFault) (e : LineEvent) (n now : ℕ) (old : Chain) (u w : Pieces) → now ≡ moment_of_line n → Breaks (takes_event e now) f old u w
    → Breaks (takes_event e (moment_of_line n)) f old u w
breaks_at f e n now old u w at breaks = subst (λ m. Breaks (takes_event e m) f old u w) at breaks

-- the lines from a number on
abbrev pub from_line : ℕ → List ℕ → SoFar → Printed
from_line n text k = takes_lines n (text_lines text) k

-- lines were taken, from whatever it stood for at first
abbrev pub Goes : Chain → List ℕ → ℕ → List ℕ → Chain → (u v : Pieces) → Type 0
Goes old text n rest k u v = (g : SoFar) → StandsFor old g → LeadsTo (from_line 1 text g) (from_line n rest) k u v

pub lines_begin : (k : Chain) (text : List ℕ) (u : Pieces) → Goes k text 1 text k u u
lines_begin k text u g stands = leads_quiet (from_line 1 text) g k u stands

-- of what is left the first line is this
first_of : (n : ℕ) (text first more : List ℕ) (g : SoFar) → text_lines text ≡ first ∷ text_lines more
    → from_line n text g ≡ takes_line n first g (from_line (n + 1) more)
first_of n text first more g is = ap (λ lines. takes_lines n lines g) is

pub lines_on : (old : Chain) (whole : List ℕ) (n m : ℕ) (text first more : List ℕ) (k l : Chain) (u v w : Pieces) → Goes old whole n text k u v
    → text_lines text ≡ first ∷ text_lines more → m ≡ n + 1 → Does (takes_line n first) k l v w → Goes old whole m more l u w
lines_on old whole n m text first more k l u v w going lines at does g stands =
    let so = going g stands in
    let on = does so.state (from_line (n + 1) more) so.stands in
    subst (λ i. LeadsTo (from_line 1 whole g) (from_line i more) l u w) (sym at) record {
      state = on.state;
      front = so.front ++ on.front;
      stands = on.stands;
      is = so.is ∙ ap (in_front so.front) (first_of n text first more so.state lines ∙ on.is) ∙ joined_before so.front on.front (from_line (n + 1) more on.state);
      output = on.output ∙ ap (λ p. gained p on.front) so.output ∙ gained-gained u so.front on.front;
    }

-- the act of all lines, which nothing follows
abbrev pub all_lines : List ℕ → Act
all_lines text g others = takes_lines 1 (text_lines text) g

pub lines_halt : (how : RelayEnd) (old : Chain) (whole : List ℕ) (n : ℕ) (text first more : List ℕ) (k : Chain) (u v w : Pieces) → Goes old whole n text k u v
    → text_lines text ≡ first ∷ text_lines more → Halts (takes_line n first) how k v w → Halts (all_lines whole) how old u w
lines_halt how old whole n text first more k u v w going lines halts g rest stands =
    let so = going g stands in
    let on = halts so.state (from_line (n + 1) more) so.stands in
    let is : from_line 1 whole g ≡ in_front so.front (takes_line n first so.state (from_line (n + 1) more)) =
    so.is ∙ ap (in_front so.front) (first_of n text first more so.state lines) in
    record {
      is = ap (λ (p : Printed). p.end) is ∙ on.is;
      output = on.output ∙ ap (λ p. gained p (takes_line n first so.state (from_line (n + 1) more)).lines) so.output
          ∙ gained-gained u so.front (takes_line n first so.state (from_line (n + 1) more)).lines ∙ ap (gained u) (sym (ap (λ (p : Printed). p.lines) is));
    }

pub lines_break : (f : SessionFault) (old : Chain) (whole : List ℕ) (n : ℕ) (text first more : List ℕ) (k : Chain) (u v w : Pieces) → Goes old whole n text k u v
    → text_lines text ≡ first ∷ text_lines more → Breaks (takes_line n first) f k v w → Breaks (all_lines whole) f old u w
lines_break f old whole n text first more k u v w going lines breaks g rest stands =
    let so = going g stands in
    leaves_same f u w (so.front ++ (takes_line n first so.state (from_line (n + 1) more)).lines) (from_line 1 whole g).lines
    (sym (ap (λ (p : Printed). p.lines) (so.is ∙ ap (in_front so.front) (first_of n text first more so.state lines))))
    (leaves_after f u v w so.front _ so.output (breaks so.state (from_line (n + 1) more) so.stands))

-- there was no memory before the next line
pub lines_lack : (old : Chain) (whole : List ℕ) (n : ℕ) (text : List ℕ) (k : Chain) (u w : Pieces) → Goes old whole n text k u w
    → Breaks (all_lines whole) fault.Memory old u w
lines_lack old whole n text k u w going g rest stands =
    let so = going g stands in
    leaves_same fault.Memory u w _ (from_line 1 whole g).lines (sym (ap (λ (p : Printed). p.lines) so.is))
    (wants_memory u w so.front (from_line n text so.state).lines so.output)

-- no line is left
abbrev kept_last : Chain → List ℕ
kept_last k = last_line k.lines k.enqueued k.acknowledged

ended_is : (old : Chain) (whole : List ℕ) (n : ℕ) (text : List ℕ) (k : Chain) (u v : Pieces) (g : SoFar)
    (so : LeadsTo (from_line 1 whole g) (from_line n text) k u v) → text ≡ []
    → from_line 1 whole g ≡ in_front so.front (record { lines = kept_last k ∷ []; end = stop.All k.lost })
ended_is old whole n text k u v g so empty =
    so.is ∙ ap (λ t. in_front so.front (from_line n t so.state)) empty
    ∙ ap (λ i. in_front so.front (record { lines = last_line i so.state.enqueued so.state.acknowledged ∷ []; end = stop.All so.state.lost })) (sym so.stands.lines)
    ∙ ap (λ i. in_front so.front (record { lines = last_line k.lines i so.state.acknowledged ∷ []; end = stop.All so.state.lost })) (sym so.stands.enqueued)
    ∙ ap (λ i. in_front so.front (record { lines = last_line k.lines k.enqueued i ∷ []; end = stop.All so.state.lost })) (sym so.stands.acknowledged)
    ∙ ap (λ i. in_front so.front (record { lines = kept_last k ∷ []; end = stop.All i })) (sym so.stands.lost)

pub lines_end : (old : Chain) (whole : List ℕ) (n : ℕ) (text : List ℕ) (k : Chain) (u v w : Pieces) → Goes old whole n text k u v → text ≡ []
    → w ≡ gained v (last_line k.lines k.enqueued k.acknowledged ∷ []) → Halts (all_lines whole) (stop.All k.lost) old u w
lines_end old whole n text k u v w going empty written g rest stands =
    let so = going g stands in
    let is = ended_is old whole n text k u v g so empty in
    record {
      is = ap (λ (p : Printed). p.end) is;
      output = written ∙ ap (λ p. gained p (kept_last k ∷ [])) so.output ∙ gained-gained u so.front (kept_last k ∷ [])
          ∙ ap (gained u) (sym (ap (λ (p : Printed). p.lines) is));
    }

pub lines_end_break : (f : SessionFault) (old : Chain) (whole : List ℕ) (n : ℕ) (text : List ℕ) (k : Chain) (u v w : Pieces) → Goes old whole n text k u v → text ≡ []
    → IsUnwritten f v w (Some (last_line k.lines k.enqueued k.acknowledged)) → Breaks (all_lines whole) f old u w
lines_end_break f old whole n text k u v w going empty un g rest stands =
    let so = going g stands in
    leaves_same f u w _ (from_line 1 whole g).lines (sym (ap (λ (p : Printed). p.lines) (ended_is old whole n text k u v g so empty)))
    (leaves_after f u v w so.front (kept_last k ∷ []) so.output (leaves_one f v w (Some (kept_last k)) un))

-- ---- what the code asks

-- whether a line is empty
pub no_line : (text : List ℕ) → (length text == 0) ≡ true → text ≡ []
no_line [] is = refl
no_line (x ∷ xs) is = let none : length (x ∷ xs) ≡ 0 = (Decides-eqb (length (x ∷ xs)) 0).0 is in absurd (omega (arith, none))
