-- The parts of a gathering: hand-ups, ticks, a datagram, and lines.
use Rattle.std.proofs.Common.{◌≡◌, ◌∙◌, sym, ap, subst, refl, arith, ℕ, ◌+◌, ◌<◌, ◌≤◌, List, [], ◌∷◌, ◌++◌, map, fold, zero, suc, take, drop, length, get_or, Bool, true, false, Option, None, Some, is_some, append_assoc}
use Rattle.std.specs.Prelude.{◌==◌, IsSome}
use Rattle.std.specs.List.{flat_map}
use Rattle.std.specs.Option.{option_map, option_to_list}
use Rattle.std.proofs.lemmas.List.{append-nil, take_more, drop_more, drop_all, take_all, take-append-drop, length-map, map-append}
use Rattle.std.proofs.lemmas.List.Concat.{flat_map-append}
use Rattle.std.proofs.lemmas.List.Sums.{fold-append}
use Rattle.rand_pcg.specs.Lcg.{Lcg}
use Rattle.norm_base.specs.Datagrams.{datagram_of}
use Rattle.norm_base.specs.Settings.{Settings}
use Rattle.norm_base.specs.Told.{Pieces, gained}
use Rattle.norm_base.specs.declared.kinds.Sent.{Sent as Said}
use Rattle.norm_base.specs.declared.kinds.Sent.TheVariants.{Nothing, Datagram}
use Rattle.norm_ext.specs.Written.{Written}
use Rattle.norm_journal.specs.Draws.{next_draw, draws_after}
use Rattle.norm_journal.specs.Lines.{of_line}
use Rattle.norm_journal.specs.Totals.{nothing_counted, with_up}
use Rattle.norm_journal.specs.declared.totals.Totals.{Totals}
use Rattle.norm_multi.specs.Calls.{Delivered, Taken, Ticked, member_of, owner_in}
use Rattle.norm_multi.specs.MultiMoves.{IsCall, Answers, IsSent}
use Rattle.norm_multi.specs.Owner.{owner_of}
use Rattle.norm_multi.specs.declared.member.Member.{Member}
use Rattle.norm_multi.proofs.MemberLemmas.{is_same}
use Rattle.norm_order.specs.declared.up.Up.{Up}
use Rattle.norm_receive_rules.specs.Holding.{Holding}
use Rattle.norm_receive_rules.specs.ReceiverState.{ReceiverState}
use Rattle.norm_receive_rules.specs.ReceiverStep.{ReceiverAnswer}
use Rattle.norm_receive_rules.specs.ReceiverStep as receiver
use Rattle.norm_receive_rules.specs.Taking.{took}
use Rattle.norm_receive_rules.specs.Ticking.{ticked}
use Rattle.norm_receiver.specs.ReceiverKept.{ReceiverKept}
use Rattle.norm_receiver.specs.ReceiverSound.{StandsFor as ReceiverStands}
use Rattle.norm_script.specs.Text.{text_lines}
use Rattle.norm_show.specs.Showing.{datagram_in, why_none}
use Rattle.norm_show.specs.declared.fault.NoDatagram.{NoDatagram}
use Rattle.norm_turns.specs.Printing.{IsUnwritten}
use Rattle.norm_turns.specs.declared.fault.SessionFault.{SessionFault}
use Rattle.norm_turns.specs.declared.fault.SessionFault.TheVariants as fault
use Rattle.driven_nodes.specs.Gathered.{Hearer, hearer_at, SoFar, draws_of, opening, Printed, in_front, stopped, ended, hears, uses_draw, draws_if, up_lines_in, up_lines, send_line, send_lines, emptied, tick_of, after_tick, told, with_ups, all_hear, after_datagram, lines_of, moment_of_line, last_line, gather_or_stop, gather_line, gather_lines}
use Rattle.driven_nodes.specs.Hearing.{IsMemberOf, IsAt, AreHeard, StandsFor, IsReady, KeepsOthers, Hands, HandsOn, HandedAll, TickedAt, Answered, AllAnswered, IsDelivered, Heard, LeadsTo, TakesLine, role}
use Rattle.driven_nodes.specs.Writing.{TookLines, LeavesLines}
use Rattle.driven_nodes.specs.declared.gathering.Gathering.{Gathering}
use Rattle.driven_nodes.proofs.WritingLemmas.{gained-nil, gained-gained, leaves_more, leaves_after, leaves_same, leaves_one, wants_memory}
use Rattle.driven_nodes.proofs.HearerLemmas.{same_inside, nothing_inside, others_stay, own_moves, there_still, answers_it, lends, all_heard, draws_it, at_one, one_changed}

abbrev Lines : Type 0
Lines = List (List ℕ)

-- there was no memory, and nothing was written
pub lacks_memory : (u w : Pieces) (lines : Lines) → w ≡ u → LeavesLines fault.Memory u w lines
lacks_memory u w lines same = wants_memory u w [] lines (same ∙ sym (gained-nil u))

-- ---- one hand-up

abbrev taken_of : Holding → List Up → Holding × Option Up
taken_of s ups = elim ups [ up ∷ rest ↦ (record s { ups = rest }, Some up) | [] ↦ (s, None) ]

-- what is left of a receiver that handed up
record Took (r : ReceiverState) (up : Up) : Type 0 where
  rest : List Up
  ups : r.holding.ups ≡ up ∷ rest
  state : (took r).0 ≡ record r { holding = record (r.holding) { ups = rest } }

took_one : (r : ReceiverState) (up : Up) → (took r).1 ≡ Some up → Took r up
took_one r up e = go r.holding.ups refl
  where
    other : (ups : List Up) → r.holding.ups ≡ ups → Some up ≡ (taken_of r.holding ups).1
    other ups is = sym e ∙ ap (λ (t : Holding × Option Up). t.1) (ap (taken_of r.holding) is)

    go : (ups : List Up) → r.holding.ups ≡ ups → Took r up
    go [] is = absurd (nothing_inside up (sym (other [] is)))
    go (x ∷ rest) is = record {
      rest = rest;
      ups = is ∙ ap (λ y. y ∷ rest) (sym (same_inside up x (other (x ∷ rest) is)));
      state = ap (λ (t : Holding × Option Up). record r { holding = t.0 }) (ap (taken_of r.holding) is);
    }

-- the receiver after it
abbrev left_with : Hearer → List Up → Hearer
left_with h rest = record h { r = record (h.r) { holding = record (h.r.holding) { ups = rest } } }

up_first : (s instance : ℕ) (h : Hearer) (up : Up) (rest : List Up) → h.r.instance ≡ Some instance → h.r.holding.ups ≡ up ∷ rest
    → up_lines_in s h h.r.instance ≡ of_line s h.node instance up ∷ up_lines_in s (left_with h rest) h.r.instance
up_first s instance h up rest within is =
    ap (up_lines_in s h) within ∙ ap (map (of_line s h.node instance)) is
    ∙ ap (λ o. of_line s h.node instance up ∷ up_lines_in s (left_with h rest) o) (sym within)

gave_up : (members : List Member) (s : ℕ) (h : Hearer) (up : Option Up) → IsMemberOf (member_of members s) (Some h)
    → Answers members s receiver.UpTaken (λ (answer : ReceiverAnswer). answer ≡ receiver.Gave up) → (took h.r).1 ≡ up
gave_up members s h up is answers = inside (took h.r).1 up (answers_it members s h receiver.UpTaken (λ (answer : ReceiverAnswer). answer ≡ receiver.Gave up) is answers)
  where
    inside : (a b : Option Up) → receiver.Gave a ≡ receiver.Gave b → a ≡ b
    inside a b e = cc

-- of a result that is this one
pub gave_this : (members : List Member) (s : ℕ) (a b : Option Up) → a ≡ b → Answers members s receiver.UpTaken (λ (answer : ReceiverAnswer). answer ≡ receiver.Gave a)
    → Answers members s receiver.UpTaken (λ (answer : ReceiverAnswer). answer ≡ receiver.Gave b)
gave_this members s a b same h = subst (λ o. Answers members s receiver.UpTaken (λ (answer : ReceiverAnswer). answer ≡ receiver.Gave o)) same h

-- A hand-up was taken, counted and written.
pub hands_one : (old new : Gathering) (s node instance : ℕ) (within : Option ℕ) (k : ReceiverKept) (up : Up) (u w : Pieces)
    → IsCall old.multi new.multi (Taken s) → Answers old.multi s receiver.UpTaken (λ (answer : ReceiverAnswer). answer ≡ receiver.Gave (Some up))
    → option_map (λ (m : Member). m.receiver) (member_of old.multi s) ≡ Some k → ((r : ReceiverState) → ReceiverStands k r → within ≡ r.instance)
    → within ≡ Some instance → new.counts ≡ with_up up old.counts → w ≡ gained u (of_line s node instance up ∷ []) → HandsOn s node old new u w
hands_one old new s node instance within k up u w call answers lent instance_is some counts written h at =
    let gave = took_one h.r up (gave_up old.multi s h (Some up) at.member answers) in
    let inside : h.r.instance ≡ Some instance = sym (instance_is h.r (lends (member_of old.multi s) k h at.member lent)) ∙ some in
    record {
      left = left_with h gave.rest;
      here = record {
        member = own_moves old.multi new.multi (Taken s) s receiver.UpTaken h (left_with h gave.rest) call (λ t. refl) at.member refl refl (sym gave.state);
        sender = at.sender;
        at = at.at;
      };
      hands = record {
        front = of_line h.p.sender h.node instance up ∷ [];
        p = refl;
        node = refl;
        same = refl;
        lines = up_first h.p.sender instance h up gave.rest inside gave.ups;
        output = written ∙ ap (λ t. gained u (of_line t node instance up ∷ [])) (sym at.sender) ∙ ap (λ n. gained u (of_line h.p.sender n instance up ∷ [])) (sym at.at);
        counts = ap (λ ups. fold (λ (t : Totals) x. with_up x t) old.counts ups) gave.ups
            ∙ ap (λ (t : Totals). fold (λ (t : Totals) x. with_up x t) t gave.rest) (sym counts);
      };
    }

-- The write of its line failed, or there was no memory for it.
pub hands_broken : (f : SessionFault) (members : List Member) (s node instance : ℕ) (within : Option ℕ) (k : ReceiverKept) (up : Up) (u w : Pieces) (h : Hearer)
    → IsAt s node members h → Answers members s receiver.UpTaken (λ (answer : ReceiverAnswer). answer ≡ receiver.Gave (Some up))
    → option_map (λ (m : Member). m.receiver) (member_of members s) ≡ Some k → ((r : ReceiverState) → ReceiverStands k r → within ≡ r.instance)
    → within ≡ Some instance → IsUnwritten f u w (Some (of_line s node instance up)) → LeavesLines f u w (up_lines h)
hands_broken f members s node instance within k up u w h at answers lent instance_is some un =
    let gave = took_one h.r up (gave_up members s h (Some up) at.member answers) in
    let inside : h.r.instance ≡ Some instance = sym (instance_is h.r (lends (member_of members s) k h at.member lent)) ∙ some in
    let line_is : of_line s node instance up ≡ of_line h.p.sender h.node instance up =
    ap (λ t. of_line t node instance up) (sym at.sender) ∙ ap (λ n. of_line h.p.sender n instance up) (sym at.at) in
    leaves_same f u w (of_line s node instance up ∷ up_lines (left_with h gave.rest)) (up_lines h)
    (ap (λ l. l ∷ up_lines (left_with h gave.rest)) line_is ∙ sym (up_first h.p.sender instance h up gave.rest inside gave.ups))
    (leaves_more f u w (of_line s node instance up ∷ []) (up_lines (left_with h gave.rest)) (leaves_one f u w (Some (of_line s node instance up)) un))

-- Nothing was left.
pub hands_none : (old new : Gathering) (s node : ℕ) (u : Pieces) → new.multi ≡ old.multi → new.counts ≡ old.counts → HandsOn s node old new u u
hands_none old new s node u same counts h at = record {
  left = h;
  here = subst (λ ms. IsAt s node ms h) (sym same) at;
  hands = record { front = []; p = refl; node = refl; same = refl; lines = refl; output = sym (gained-nil u); counts = ap (λ t. with_ups t h) (sym counts) };
}

pub keeps_none : (old new : Gathering) (s : ℕ) → new.multi ≡ old.multi → new.draw ≡ old.draw → new.draws ≡ old.draws → new.lines ≡ old.lines → KeepsOthers s old new
keeps_none old new s same draw draws lines = record {
  others = λ t differs o st. subst (λ (ms : List Member). IsMemberOf (member_of ms t) o) (sym same) st;
  there = λ some. subst (λ (ms : List Member). IsSome (member_of ms s)) (sym same) some;
  draw = draw;
  draws = draws;
  lines = lines;
}

pub keeps_taken : (old new : Gathering) (s : ℕ) → IsCall old.multi new.multi (Taken s) → new.draw ≡ old.draw → new.draws ≡ old.draws → new.lines ≡ old.lines
    → KeepsOthers s old new
keeps_taken old new s call draw draws lines = record {
  others = others_stay old.multi new.multi (Taken s) s receiver.UpTaken call (λ t. refl);
  there = there_still old.multi new.multi (Taken s) s call;
  draw = draw;
  draws = draws;
  lines = lines;
}

pub keeps_ticked : (old new : Gathering) (s now : ℕ) → IsCall old.multi new.multi (Ticked s now) → new.draw ≡ old.draw → new.draws ≡ old.draws
    → new.lines ≡ old.lines → KeepsOthers s old new
keeps_ticked old new s now call draw draws lines = record {
  others = others_stay old.multi new.multi (Ticked s now) s (receiver.Ticked now) call (λ t. refl);
  there = there_still old.multi new.multi (Ticked s now) s call;
  draw = draw;
  draws = draws;
  lines = lines;
}

pub keeps_still : (s : ℕ) (k : Gathering) → KeepsOthers s k k
keeps_still s k = record { others = λ t differs o st. st; there = λ some. some; draw = refl; draws = refl; lines = refl }

pub keeps_both : (s : ℕ) (a b c : Gathering) → KeepsOthers s a b → KeepsOthers s b c → KeepsOthers s a c
keeps_both s a b c first second = record {
  others = λ t differs o st. second.others t differs o (first.others t differs o st);
  there = λ some. second.there (first.there some);
  draw = second.draw ∙ first.draw;
  draws = second.draws ∙ first.draws;
  lines = second.lines ∙ first.lines;
}

-- ---- all hand-ups

pub hands_begin : (s node : ℕ) (k : Gathering) (u : Pieces) → HandsOn s node k k u u
hands_begin s node k u = hands_none k k s node u refl refl

hands_joined : (h k l : Hearer) (a b c : Gathering) (u v w : Pieces) → Hands h k a b u v → Hands k l b c v w → Hands h l a c u w
hands_joined h k l a b c u v w first second = record {
  front = first.front ++ second.front;
  p = second.p ∙ first.p;
  node = second.node ∙ first.node;
  same = second.same ∙ first.same;
  lines = first.lines ∙ ap (λ ls. first.front ++ ls) second.lines ∙ sym (append_assoc first.front second.front (up_lines l));
  output = second.output ∙ ap (λ x. gained x second.front) first.output ∙ gained-gained u first.front second.front;
  counts = first.counts ∙ second.counts;
}

pub hands_both : (s node : ℕ) (a b c : Gathering) (u v w : Pieces) → HandsOn s node a b u v → HandsOn s node b c v w → HandsOn s node a c u w
hands_both s node a b c u v w first second h at =
    let f = first h at in
    let g = second f.left f.here in
    record { left = g.left; here = g.here; hands = hands_joined h f.left g.left a b c u v w f.hands g.hands }

pub hands_break : (f : SessionFault) (s node : ℕ) (a b : Gathering) (u v w : Pieces) (h : Hearer) → HandsOn s node a b u v → IsAt s node a.multi h
    → ((k : Hearer) → IsAt s node b.multi k → LeavesLines f v w (up_lines k)) → LeavesLines f u w (up_lines h)
hands_break f s node a b u v w h on at breaks =
    let t = on h at in
    leaves_same f u w (t.hands.front ++ up_lines t.left) (up_lines h) (sym t.hands.lines)
    (leaves_after f u v w t.hands.front (up_lines t.left) t.hands.output (breaks t.left t.here))

-- there was no memory after some of them
pub hands_lack : (s node : ℕ) (a b : Gathering) (u w : Pieces) (h : Hearer) → HandsOn s node a b u w → IsAt s node a.multi h → LeavesLines fault.Memory u w (up_lines h)
hands_lack s node a b u w h on at =
    let t = on h at in
    leaves_same fault.Memory u w (t.hands.front ++ up_lines t.left) (up_lines h) (sym t.hands.lines)
    (wants_memory u w t.hands.front (up_lines t.left) t.hands.output)

no_lines : (s : ℕ) (h : Hearer) (o : Option ℕ) → h.r.holding.ups ≡ [] → up_lines_in s h o ≡ []
no_lines s h None none = refl
no_lines s h (Some instance) none = ap (map (of_line s h.node instance)) none

-- a receiver that has no hand-ups is as it is with all of them taken
emptied_is : (r : ReceiverState) → r.holding.ups ≡ [] → r ≡ emptied r
emptied_is r none = ap (λ (ups : List Up). record r { holding = record (r.holding) { ups = ups } }) none

abbrev made : Settings → ℕ → ReceiverState → Hearer
made p node r = record { p = p; node = node; r = r }

hearer_is : (h k : Hearer) (r : ReceiverState) → k.p ≡ h.p → k.node ≡ h.node → k.r ≡ r → k ≡ record h { r = r }
hearer_is h k r p node state =
    ap (λ (q : Settings). made q k.node k.r) p ∙ ap (λ n. made h.p n k.r) node ∙ ap (made h.p h.node) state

nothing_left : (members : List Member) (s : ℕ) (h : Hearer) (count : ℕ) (k : ReceiverKept) → IsMemberOf (member_of members s) (Some h)
    → option_map (λ (m : Member). m.receiver) (member_of members s) ≡ Some k → ((r : ReceiverState) → ReceiverStands k r → count ≡ length r.holding.ups)
    → count ≡ 0 → h.r.holding.ups ≡ []
nothing_left members s h count k is lent counts zero_is =
    go h.r.holding.ups (sym (counts h.r (lends (member_of members s) k h is lent)) ∙ zero_is)
  where
    go : (ups : List Up) → length ups ≡ 0 → ups ≡ []
    go [] e = refl
    go (x ∷ ups) e = absurd (omega (arith, e))

pub hands_end : (s node : ℕ) (a b : Gathering) (u w : Pieces) (count : ℕ) (k : ReceiverKept) → HandsOn s node a b u w
    → option_map (λ (m : Member). m.receiver) (member_of b.multi s) ≡ Some k → ((r : ReceiverState) → ReceiverStands k r → count ≡ length r.holding.ups)
    → count ≡ 0 → (h : Hearer) → IsAt s node a.multi h → HandedAll s node h a b u w
hands_end s node a b u w count k on lent counts zero_is h at =
    let t = on h at in
    let l = t.left in
    let none : l.r.holding.ups ≡ [] = nothing_left b.multi s l count k t.here.member lent counts zero_is in
    let is : l ≡ record h { r = emptied h.r } = hearer_is h l (emptied h.r) t.hands.p t.hands.node (emptied_is l.r none ∙ t.hands.same) in
    record {
      here = subst (λ x. IsAt s node b.multi x) is t.here;
      output = t.hands.output
          ∙ ap (gained u) (sym (append-nil t.hands.front) ∙ ap (λ ls. t.hands.front ++ ls) (sym (no_lines l.p.sender l l.r.instance none)) ∙ sym t.hands.lines);
      counts = sym (t.hands.counts ∙ ap (λ ups. fold (λ (x : Totals) up. with_up up x) b.counts ups) none);
    }

-- ---- a tick

pub ticked_at : (old new : Gathering) (s now : ℕ) (said : Said) → IsCall old.multi new.multi (Ticked s now)
    → Answers old.multi s (receiver.Ticked now) (IsSent said new.datagram) → new.counts ≡ old.counts → (node : ℕ) (h : Hearer) → IsAt s node old.multi h
    → TickedAt s node now h said old new
ticked_at old new s now said call answers counts node h at = record {
  here = record {
    member = own_moves old.multi new.multi (Ticked s now) s (receiver.Ticked now) h (record h { r = (ticked h.p h.r now).0 }) call (λ t. refl) at.member refl refl refl;
    sender = at.sender;
    at = at.at;
  };
  octets = answers_it old.multi s h (receiver.Ticked now) (IsSent said new.datagram) at.member answers;
  counts = counts;
}

-- ---- one receiver

-- what is written of a datagram, or of none
sent_by : (s : ℕ) (said : Said) (octets : List ℕ) (datagram : Option Written) → datagram_of said octets ≡ option_map (λ (w : Written). w.octets) datagram
    → option_to_list (option_map (send_line s) (datagram_of said octets)) ≡ send_lines s datagram
sent_by s said octets None is = ap (λ o. option_to_list (option_map (send_line s) o)) is
sent_by s said octets (Some datagram) is = ap (λ o. option_to_list (option_map (send_line s) o)) is

answered_with : (s node now : ℕ) (a b c d : Gathering) (u v w : Pieces) (said : Said) (h : Hearer) → HandedAll s node h a b u v
    → TickedAt s node now (record h { r = emptied h.r }) said b c → d.multi ≡ c.multi → d.counts ≡ c.counts → h.p.sender ≡ s
    → w ≡ gained v (option_to_list (option_map (send_line s) (datagram_of said c.datagram))) → Answered s node now h a d u w
answered_with s node now a b c d u v w said h handed tick same counts sender written = record {
  here = subst (λ ms. IsAt s node ms (after_tick now h)) (sym same) tick.here;
  output = written ∙ ap (gained v) (sent_by s said c.datagram (tick_of now h).1 tick.octets)
      ∙ ap (λ x. gained x (send_lines s (tick_of now h).1)) handed.output ∙ gained-gained u (up_lines h) (send_lines s (tick_of now h).1)
      ∙ ap (λ t. gained u (up_lines h ++ send_lines t (tick_of now h).1)) (sym sender);
  counts = counts ∙ tick.counts ∙ handed.counts;
}

pub answered_nothing : (s node now : ℕ) (a b c : Gathering) (u v : Pieces) (said : Said) (h : Hearer) → HandedAll s node h a b u v
    → TickedAt s node now (record h { r = emptied h.r }) said b c → h.p.sender ≡ s → said ≡ Nothing → Answered s node now h a c u v
answered_nothing s node now a b c u v said h handed tick sender nothing =
    answered_with s node now a b c c u v v said h handed tick refl refl sender
    (sym (ap (λ (x : Said). gained v (option_to_list (option_map (send_line s) (datagram_of x c.datagram)))) nothing ∙ gained-nil v))

pub answered_sent : (s node now : ℕ) (a b c d : Gathering) (u v w : Pieces) (said : Said) (h : Hearer) → HandedAll s node h a b u v
    → TickedAt s node now (record h { r = emptied h.r }) said b c → d.multi ≡ c.multi → d.counts ≡ c.counts → h.p.sender ≡ s → said ≡ Datagram
    → w ≡ gained v (send_line s c.datagram ∷ []) → Answered s node now h a d u w
answered_sent s node now a b c d u v w said h handed tick same counts sender sent written =
    answered_with s node now a b c d u v w said h handed tick same counts sender
    (written ∙ sym (ap (λ (x : Said). gained v (option_to_list (option_map (send_line s) (datagram_of x c.datagram)))) sent))

-- a fault while it handed up
pub answer_breaks : (f : SessionFault) (u w : Pieces) (now : ℕ) (h : Hearer) → LeavesLines f u w (up_lines h) → LeavesLines f u w (told now h)
answer_breaks f u w now h leaves = leaves_more f u w (up_lines h) (send_lines h.p.sender (tick_of now h).1) leaves

-- a fault while its datagram was written
pub send_breaks : (f : SessionFault) (s node now : ℕ) (a b c : Gathering) (u v w : Pieces) (said : Said) (h : Hearer) → HandedAll s node h a b u v
    → TickedAt s node now (record h { r = emptied h.r }) said b c → h.p.sender ≡ s → said ≡ Datagram
    → IsUnwritten f v w (Some (send_line s c.datagram)) → LeavesLines f u w (told now h)
send_breaks f s node now a b c u v w said h handed tick sender sent un =
    let is : send_line s c.datagram ∷ [] ≡ send_lines h.p.sender (tick_of now h).1 =
    sym (ap (λ (x : Said). option_to_list (option_map (send_line s) (datagram_of x c.datagram))) sent)
    ∙ sent_by s said c.datagram (tick_of now h).1 tick.octets ∙ ap (λ t. send_lines t (tick_of now h).1) (sym sender) in
    leaves_after f u v w (up_lines h) (send_lines h.p.sender (tick_of now h).1) handed.output
    (leaves_same f v w (send_line s c.datagram ∷ []) (send_lines h.p.sender (tick_of now h).1) is (leaves_one f v w (Some (send_line s c.datagram)) un))

-- ---- all receivers

-- so many of them answered
pub record AnsweredSoFar (list : List (Settings × ℕ)) (now i : ℕ) (hearers : List Hearer) (old new : Gathering) (u w : Pieces) : Type 0 where
  pub heard : AreHeard list new.multi (map (after_tick now) (take i hearers) ++ drop i hearers)
  pub output : w ≡ gained u (flat_map (told now) (take i hearers))
  pub counts : new.counts ≡ fold with_ups old.counts (take i hearers)
  pub draw : new.draw ≡ old.draw
  pub draws : new.draws ≡ old.draws
  pub lines : new.lines ≡ old.lines

pub answers_begin : (list : List (Settings × ℕ)) (now : ℕ) (hearers : List Hearer) (k : Gathering) (u : Pieces) → AreHeard list k.multi hearers
    → AnsweredSoFar list now 0 hearers k k u u
answers_begin list now hearers k u heard =
    record { heard = heard; output = sym (gained-nil u); counts = refl; draw = refl; draws = refl; lines = refl }

pub answers_end : (list : List (Settings × ℕ)) (now i : ℕ) (hearers : List Hearer) (old new : Gathering) (u w : Pieces) → length list ≤ i
    → AreHeard list old.multi hearers → AnsweredSoFar list now i hearers old new u w → AllAnswered list now hearers old new u w
answers_end list now i hearers old new u w past heard so =
    let all : take i hearers ≡ hearers = take_all i hearers (omega (arith, past, many)) in
    let none : drop i hearers ≡ [] = drop_all i hearers (omega (arith, past, many)) in
    record {
      heard = subst (λ hs. AreHeard list new.multi hs)
          (ap (λ hs. map (after_tick now) hs ++ drop i hearers) all ∙ ap (λ hs. map (after_tick now) hearers ++ hs) none ∙ append-nil (map (after_tick now) hearers)) so.heard;
      output = so.output ∙ ap (λ hs. gained u (flat_map (told now) hs)) all;
      counts = so.counts ∙ ap (fold with_ups old.counts) all;
      draw = so.draw;
      draws = so.draws;
      lines = so.lines;
    }
  where
    many : length list ≡ length hearers
    many = ap length (sym heard.roles) ∙ length-map hearers role

-- the receiver of the next profile and node
pub record OneNow (i : ℕ) (x : Settings × ℕ) (hearers : List Hearer) : Type 0 where
  pub h : Hearer
  pub is : role h ≡ x
  pub front : take (i + 1) hearers ≡ take i hearers ++ h ∷ []
  pub rest : drop i hearers ≡ h ∷ drop (i + 1) hearers

role_at : (hearers : List Hearer) (i : ℕ) (d : Hearer) → role (get_or hearers i d) ≡ get_or (map role hearers) i (role d)
role_at [] i d = refl
role_at (h ∷ hearers) zero d = refl
role_at (h ∷ hearers) (suc i) d = role_at hearers i d

pub one_now : (list : List (Settings × ℕ)) (i : ℕ) (x : Settings × ℕ) (hearers : List Hearer) → map role hearers ≡ list → i < length list
    → x ≡ get_or list i x → OneNow i x hearers
one_now list i x hearers roles lt is = record {
  h = get_or hearers i (hearer_at x);
  is = role_at hearers i (hearer_at x) ∙ ap (λ l. get_or l i (role (hearer_at x))) roles ∙ sym is;
  front = take_more hearers i (hearer_at x) (omega (arith, lt, many));
  rest = drop_more hearers i (hearer_at x) (omega (arith, lt, many));
}
  where
    many : length list ≡ length hearers
    many = ap length (sym roles) ∙ length-map hearers role

pub at_now : (list : List (Settings × ℕ)) (now i : ℕ) (x : Settings × ℕ) (hearers : List Hearer) (old new : Gathering) (u w : Pieces) (s node : ℕ)
    → AnsweredSoFar list now i hearers old new u w → (one : OneNow i x hearers) → s ≡ x.0.sender → node ≡ x.1 → IsAt s node new.multi one.h
at_now list now i x hearers old new u w s node so one sender at =
    at_one list new.multi (map (after_tick now) (take i hearers)) one.h (drop (i + 1) hearers) s node
    (subst (λ hs. AreHeard list new.multi (map (after_tick now) (take i hearers) ++ hs)) one.rest so.heard)
    (ap (λ (y : Settings × ℕ). y.0.sender) one.is ∙ sym sender) (ap (λ (y : Settings × ℕ). y.1) one.is ∙ sym at)

done_more : (now i : ℕ) (h : Hearer) (hearers : List Hearer) → take (i + 1) hearers ≡ take i hearers ++ h ∷ []
    → map (after_tick now) (take (i + 1) hearers) ++ drop (i + 1) hearers ≡ map (after_tick now) (take i hearers) ++ after_tick now h ∷ drop (i + 1) hearers
done_more now i h hearers front =
    ap (λ hs. map (after_tick now) hs ++ drop (i + 1) hearers) front
    ∙ ap (λ hs. hs ++ drop (i + 1) hearers) (map-append (after_tick now) (take i hearers) (h ∷ []))
    ∙ append_assoc (map (after_tick now) (take i hearers)) (after_tick now h ∷ []) (drop (i + 1) hearers)

told_more : (now i : ℕ) (h : Hearer) (hearers : List Hearer) → take (i + 1) hearers ≡ take i hearers ++ h ∷ []
    → flat_map (told now) (take (i + 1) hearers) ≡ flat_map (told now) (take i hearers) ++ told now h
told_more now i h hearers front =
    ap (flat_map (told now)) front ∙ flat_map-append (told now) (take i hearers) (h ∷ [])
    ∙ ap (λ ls. flat_map (told now) (take i hearers) ++ ls) (append-nil (told now h))

pub answers_on : (list : List (Settings × ℕ)) (now i : ℕ) (x : Settings × ℕ) (hearers : List Hearer) (old mid new : Gathering) (u v w : Pieces) (s node : ℕ)
    → AnsweredSoFar list now i hearers old mid u v → (one : OneNow i x hearers) → s ≡ x.0.sender → Answered s node now one.h mid new v w
    → KeepsOthers s mid new → AnsweredSoFar list now (i + 1) hearers old new u w
answers_on list now i x hearers old mid new u v w s node so one sender answered keeps = record {
  heard = subst (λ hs. AreHeard list new.multi hs) (sym (done_more now i one.h hearers one.front))
      (one_changed list mid.multi new.multi (map (after_tick now) (take i hearers)) one.h (after_tick now one.h) (drop (i + 1) hearers) s
      (subst (λ hs. AreHeard list mid.multi (map (after_tick now) (take i hearers) ++ hs)) one.rest so.heard)
      (ap (λ (y : Settings × ℕ). y.0.sender) one.is ∙ sym sender) refl refl answered.here.member keeps.others);
  output = answered.output ∙ ap (λ p. gained p (told now one.h)) so.output ∙ gained-gained u (flat_map (told now) (take i hearers)) (told now one.h)
      ∙ ap (gained u) (sym (told_more now i one.h hearers one.front));
  counts = answered.counts ∙ ap (λ (t : Totals). with_ups t one.h) so.counts
      ∙ sym (ap (fold with_ups old.counts) one.front ∙ fold-append with_ups old.counts (take i hearers) (one.h ∷ []));
  draw = keeps.draw ∙ so.draw;
  draws = keeps.draws ∙ so.draws;
  lines = keeps.lines ∙ so.lines;
}

pub answers_break : (f : SessionFault) (list : List (Settings × ℕ)) (now i : ℕ) (x : Settings × ℕ) (hearers : List Hearer) (old mid : Gathering) (u v w : Pieces)
    → AnsweredSoFar list now i hearers old mid u v → (one : OneNow i x hearers) → LeavesLines f v w (told now one.h)
    → LeavesLines f u w (flat_map (told now) hearers)
answers_break f list now i x hearers old mid u v w so one leaves =
    let here = leaves_after f u v w (flat_map (told now) (take i hearers)) (told now one.h) so.output leaves in
    let these = leaves_same f u w _ (flat_map (told now) (take (i + 1) hearers)) (sym (told_more now i one.h hearers one.front)) here in
    leaves_same f u w _ (flat_map (told now) hearers)
    (sym (flat_map-append (told now) (take (i + 1) hearers) (drop (i + 1) hearers)) ∙ ap (flat_map (told now)) (take-append-drop (i + 1) hearers))
    (leaves_more f u w (flat_map (told now) (take (i + 1) hearers)) (flat_map (told now) (drop (i + 1) hearers)) these)

-- ---- a datagram

-- a draw was used, or none
abbrev pub DrawsBy : Bool → (old new : Gathering) → Type 0
DrawsBy true old new = (new.draw ≡ next_draw old.draws) × (new.draws ≡ draws_after old.draws)
DrawsBy false old new = (new.draw ≡ old.draw) × (new.draws ≡ old.draws)

drawn : (b : Bool) (list : List (Settings × ℕ)) (g : SoFar) (old new : Gathering) → StandsFor list old g → DrawsBy b old new
    → (new.draw ≡ next_draw (draws_if b g.draws)) × (new.draws ≡ draws_after (draws_if b g.draws))
drawn true list g old new stands h = (h.0 ∙ ap next_draw stands.draws, h.1 ∙ ap draws_after stands.draws)
drawn false list g old new stands h = (h.0 ∙ stands.draw, h.1 ∙ stands.draws)

pub delivered : (b : Bool) (owner : Option ℕ) (datagram : List ℕ) (now : ℕ) (old new : Gathering) → owner ≡ owner_in old.multi datagram
    → IsCall old.multi new.multi (Delivered datagram now old.draw) → is_some owner ≡ b → DrawsBy b old new → new.lines ≡ old.lines → new.counts ≡ old.counts
    → (list : List (Settings × ℕ)) (g : SoFar) → StandsFor list old g → IsDelivered list datagram now g old new
delivered b owner datagram now old new owner_is call is draws lines counts list g stands =
    let same : uses_draw g.hearers (owner_of datagram) ≡ b =
    sym (draws_it old.multi g.hearers datagram stands.heard.stand) ∙ sym (ap is_some owner_is) ∙ is in
    let d = drawn b list g old new stands draws in
    record {
      heard = subst (λ draw. AreHeard list new.multi (map (hears datagram now draw) g.hearers)) stands.draw
          (all_heard list old.multi new.multi g.hearers datagram now old.draw stands.heard call);
      draw = d.0 ∙ ap (λ t. next_draw (draws_if t g.draws)) (sym same);
      draws = d.1 ∙ ap (λ t. draws_after (draws_if t g.draws)) (sym same);
      lines = lines;
      counts = counts;
    }

pub heard_all : (list : List (Settings × ℕ)) (now : ℕ) (datagram : List ℕ) (g : SoFar) (a b c d : Gathering) (u w : Pieces) → StandsFor list a g
    → IsDelivered list datagram now g a b → c ≡ record b { lines = b.lines + 1 } → AllAnswered list now (all_hear now datagram g) c d u w
    → Heard list now datagram g d u w
heard_all list now datagram g a b c d u w stands delivered counted answered = record {
  stands = record {
    heard = answered.heard;
    draw = answered.draw ∙ ap (λ (k : Gathering). k.draw) counted ∙ delivered.draw;
    draws = answered.draws ∙ ap (λ (k : Gathering). k.draws) counted ∙ delivered.draws;
    lines = answered.lines ∙ ap (λ (k : Gathering). k.lines) counted ∙ ap (λ n. n + 1) (delivered.lines ∙ stands.lines);
    counts = answered.counts ∙ ap (λ (t : Totals). fold with_ups t (all_hear now datagram g))
        (ap (λ (k : Gathering). k.counts) counted ∙ delivered.counts ∙ stands.counts);
  };
  output = answered.output;
}

pub heard_counted : (list : List (Settings × ℕ)) (now : ℕ) (datagram : List ℕ) (g : SoFar) (a b c : Gathering) → IsDelivered list datagram now g a b
    → c ≡ record b { lines = b.lines + 1 } → AreHeard list c.multi (all_hear now datagram g)
heard_counted list now datagram g a b c delivered counted = subst (λ (k : Gathering). AreHeard list k.multi (all_hear now datagram g)) (sym counted) delivered.heard

-- ---- lines

pub nothing_before : (p : Printed) → p ≡ in_front [] p
nothing_before p = refl

joined_before : (front more : Lines) (p : Printed) → in_front front (in_front more p) ≡ in_front (front ++ more) p
joined_before front more p = ap (λ ls. record { lines = ls; stop = p.stop }) (sym (append_assoc front more p.lines))

pub takes_empty : (list : List (Settings × ℕ)) (n : ℕ) (text : List ℕ) (g : SoFar) (k : Gathering) (u : Pieces) → text ≡ [] → StandsFor list k g
    → TakesLine list n text g k u u None
takes_empty list n text g k u empty stands rest = record {
  state = g;
  front = [];
  stands = stands;
  is = ap (λ t. gather_line n t g rest) empty ∙ nothing_before (rest g);
  output = sym (gained-nil u);
}

spelt : (n : ℕ) (text : List ℕ) (o : Option (List ℕ)) (g : SoFar) (rest : SoFar → Printed) → (text ≡ [] → ⊥) → datagram_in text ≡ o
    → gather_line n text g rest ≡ gather_or_stop n (why_none text) o g rest
spelt n [] o g rest some is = absurd (some refl)
spelt n (x ∷ xs) o g rest some is = ap (λ found. gather_or_stop n (why_none (x ∷ xs)) found g rest) is

pub takes_datagram : (list : List (Settings × ℕ)) (n : ℕ) (text octets : List ℕ) (g : SoFar) (k : Gathering) (u w : Pieces) → (text ≡ [] → ⊥)
    → datagram_in text ≡ Some octets → Heard list (moment_of_line n) octets g k u w → TakesLine list n text g k u w None
takes_datagram list n text octets g k u w some is heard rest = record {
  state = after_datagram (moment_of_line n) octets g;
  front = lines_of (moment_of_line n) octets g;
  stands = heard.stands;
  is = spelt n text (Some octets) g rest some is;
  output = heard.output;
}

pub takes_none : (list : List (Settings × ℕ)) (n : ℕ) (text : List ℕ) (why : NoDatagram) (g : SoFar) (k : Gathering) (u : Pieces) → (text ≡ [] → ⊥)
    → datagram_in text ≡ None → why ≡ why_none text → TakesLine list n text g k u u (Some why)
takes_none list n text why g k u some is reason = (λ rest. spelt n text None g rest some is ∙ ap (stopped n) (sym reason), refl)

pub line_breaks : (f : SessionFault) (n : ℕ) (text octets : List ℕ) (g : SoFar) (rest : SoFar → Printed) (u w : Pieces) → (text ≡ [] → ⊥)
    → datagram_in text ≡ Some octets → LeavesLines f u w (lines_of (moment_of_line n) octets g) → LeavesLines f u w (gather_line n text g rest).lines
line_breaks f n text octets g rest u w some is leaves =
    leaves_same f u w _ (gather_line n text g rest).lines (sym (ap (λ (p : Printed). p.lines) (spelt n text (Some octets) g rest some is)))
    (leaves_more f u w (lines_of (moment_of_line n) octets g) (rest (after_datagram (moment_of_line n) octets g)).lines leaves)

-- it stands for something still
pub ready_then : (list : List (Settings × ℕ)) (n : ℕ) (text : List ℕ) (g : SoFar) (k : Gathering) (u w : Pieces) → TakesLine list n text g k u w None → IsReady list k
ready_then list n text g k u w takes = let on = takes (λ after. ended after) in record { state = on.state; stands = on.stands }

-- the lines from a number on
abbrev pub from_line : ℕ → List ℕ → SoFar → Printed
from_line n text after = gather_lines n (text_lines text) after

pub leads_begin : (list : List (Settings × ℕ)) (n : ℕ) (text : List ℕ) (g : SoFar) (k : Gathering) (u : Pieces) → StandsFor list k g
    → LeadsTo list (from_line n text g) (from_line n text) k u u
leads_begin list n text g k u stands =
    record { state = g; front = []; stands = stands; is = nothing_before (from_line n text g); output = sym (gained-nil u) }

-- of what is left the first line is this
first_of : (n : ℕ) (text first more : List ℕ) (g : SoFar) → text_lines text ≡ first ∷ text_lines more
    → from_line n text g ≡ gather_line n first g (from_line (n + 1) more)
first_of n text first more g is = ap (λ lines. gather_lines n lines g) is

pub leads_on : (list : List (Settings × ℕ)) (whole : Printed) (n m : ℕ) (text first more : List ℕ) (k l : Gathering) (u v w : Pieces)
    → (so : LeadsTo list whole (from_line n text) k u v) → text_lines text ≡ first ∷ text_lines more → m ≡ n + 1
    → TakesLine list n first so.state l v w None → LeadsTo list whole (from_line m more) l u w
leads_on list whole n m text first more k l u v w so lines next takes =
    let on = takes (from_line (n + 1) more) in
    subst (λ i. LeadsTo list whole (from_line i more) l u w) (sym next) record {
      state = on.state;
      front = so.front ++ on.front;
      stands = on.stands;
      is = so.is ∙ ap (in_front so.front) (first_of n text first more so.state lines ∙ on.is) ∙ joined_before so.front on.front (from_line (n + 1) more on.state);
      output = on.output ∙ ap (λ p. gained p on.front) so.output ∙ gained-gained u so.front on.front;
    }

pub leads_stop : (list : List (Settings × ℕ)) (whole : Printed) (n : ℕ) (why : NoDatagram) (text first more : List ℕ) (k l : Gathering) (u v w : Pieces)
    → (so : LeadsTo list whole (from_line n text) k u v) → text_lines text ≡ first ∷ text_lines more
    → TakesLine list n first so.state l v w (Some why) → TookLines whole u w (Some (n, why))
leads_stop list whole n why text first more k l u v w so lines takes =
    let is : whole ≡ in_front so.front (stopped n why) =
    so.is ∙ ap (in_front so.front) (first_of n text first more so.state lines ∙ takes.0 (from_line (n + 1) more)) in
    record {
      stop_is = sym (ap (λ (p : Printed). p.stop) is);
      output = takes.1 ∙ so.output ∙ ap (gained u) (sym (append-nil so.front) ∙ sym (ap (λ (p : Printed). p.lines) is));
    }

pub leads_break : (f : SessionFault) (list : List (Settings × ℕ)) (whole : Printed) (n : ℕ) (text first more : List ℕ) (k : Gathering) (u v w : Pieces)
    → (so : LeadsTo list whole (from_line n text) k u v) → text_lines text ≡ first ∷ text_lines more
    → LeavesLines f v w (gather_line n first so.state (from_line (n + 1) more)).lines → LeavesLines f u w whole.lines
leads_break f list whole n text first more k u v w so lines leaves =
    leaves_same f u w _ whole.lines
    (sym (ap (λ (p : Printed). p.lines) (so.is ∙ ap (in_front so.front) (first_of n text first more so.state lines))))
    (leaves_after f u v w so.front _ so.output leaves)

-- there was no memory before the next line
pub leads_lack : (list : List (Settings × ℕ)) (whole : Printed) (rest : SoFar → Printed) (k : Gathering) (u w : Pieces) → LeadsTo list whole rest k u w
    → LeavesLines fault.Memory u w whole.lines
leads_lack list whole rest k u w so =
    leaves_same fault.Memory u w _ whole.lines (sym (ap (λ (p : Printed). p.lines) so.is)) (wants_memory u w so.front (rest so.state).lines so.output)

-- no line is left
ended_is : (list : List (Settings × ℕ)) (whole : Printed) (n : ℕ) (text : List ℕ) (k : Gathering) (u v : Pieces) (so : LeadsTo list whole (from_line n text) k u v)
    → text ≡ [] → whole ≡ in_front so.front (record { lines = last_line k.lines k.counts.handed ∷ []; stop = None })
ended_is list whole n text k u v so empty =
    so.is ∙ ap (λ t. in_front so.front (from_line n t so.state)) empty
    ∙ ap (λ i. in_front so.front (record { lines = last_line i so.state.counts.handed ∷ []; stop = None })) (sym so.stands.lines)
    ∙ ap (λ (t : Totals). in_front so.front (record { lines = last_line k.lines t.handed ∷ []; stop = None })) (sym so.stands.counts)

pub leads_end : (list : List (Settings × ℕ)) (whole : Printed) (n : ℕ) (text : List ℕ) (k : Gathering) (u v w : Pieces)
    → LeadsTo list whole (from_line n text) k u v → text ≡ [] → w ≡ gained v (last_line k.lines k.counts.handed ∷ []) → TookLines whole u w None
leads_end list whole n text k u v w so empty written =
    let is = ended_is list whole n text k u v so empty in
    record {
      stop_is = sym (ap (λ (p : Printed). p.stop) is);
      output = written ∙ ap (λ p. gained p (last_line k.lines k.counts.handed ∷ [])) so.output
          ∙ gained-gained u so.front (last_line k.lines k.counts.handed ∷ []) ∙ ap (gained u) (sym (ap (λ (p : Printed). p.lines) is));
    }

pub leads_end_break : (f : SessionFault) (list : List (Settings × ℕ)) (whole : Printed) (n : ℕ) (text : List ℕ) (k : Gathering) (u v w : Pieces)
    → LeadsTo list whole (from_line n text) k u v → text ≡ [] → IsUnwritten f v w (Some (last_line k.lines k.counts.handed)) → LeavesLines f u w whole.lines
leads_end_break f list whole n text k u v w so empty un =
    leaves_same f u w _ whole.lines (sym (ap (λ (p : Printed). p.lines) (ended_is list whole n text k u v so empty)))
    (leaves_after f u v w so.front (last_line k.lines k.counts.handed ∷ []) so.output (leaves_one f v w (Some (last_line k.lines k.counts.handed)) un))

-- ---- what the code asks

pub no_ups : (k : ReceiverKept) (count : ℕ) → count ≡ length k.hold.ups → count ≡ 0 → k.hold.ups ≡ []
no_ups k count is zero_is = go k.hold.ups (sym is ∙ zero_is)
  where
    go : (ups : List Up) → length ups ≡ 0 → ups ≡ []
    go [] e = refl
    go (x ∷ ups) e = absurd (omega (arith, e))

pub unwritten_same : (f : SessionFault) (v w : Pieces) (s : ℕ) (octets other : List ℕ) → octets ≡ other → IsUnwritten f v w (Some (send_line s octets))
    → IsUnwritten f v w (Some (send_line s other))
unwritten_same f v w s octets other same un = subst (λ x. IsUnwritten f v w (Some (send_line s x))) same un

-- whether a line is empty
pub no_line : (text : List ℕ) → (length text == 0) ≡ true → text ≡ []
no_line [] is = refl
no_line (x ∷ xs) is = let none : length (x ∷ xs) ≡ 0 = is_same (length (x ∷ xs)) 0 is in absurd (omega (arith, none))

pub some_line : (text : List ℕ) → (length text == 0) ≡ false → text ≡ [] → ⊥
some_line [] is e = cc
some_line (x ∷ xs) is e = cc

-- at the moment of a line, with the octets of its datagram
pub heard_at : (list : List (Settings × ℕ)) (n now : ℕ) (octets other : List ℕ) (g : SoFar) (k : Gathering) (u w : Pieces) → now ≡ moment_of_line n → other ≡ octets
    → Heard list now other g k u w → Heard list (moment_of_line n) octets g k u w
heard_at list n now octets other g k u w at same h =
    subst (λ x. Heard list (moment_of_line n) x g k u w) same (subst (λ m. Heard list m other g k u w) at h)

pub breaks_at : (f : SessionFault) (n now : ℕ) (octets other : List ℕ) (g : SoFar) (u w : Pieces) → now ≡ moment_of_line n → other ≡ octets
    → LeavesLines f u w (lines_of now other g) → LeavesLines f u w (lines_of (moment_of_line n) octets g)
breaks_at f n now octets other g u w at same h =
    subst (λ x. LeavesLines f u w (lines_of (moment_of_line n) x g)) same (subst (λ m. LeavesLines f u w (lines_of m other g)) at h)

pub ready_heard : (list : List (Settings × ℕ)) (now : ℕ) (octets : List ℕ) (g : SoFar) (k : Gathering) (u w : Pieces) → Heard list now octets g k u w → IsReady list k
ready_heard list now octets g k u w h = record { state = after_datagram now octets g; stands = h.stands }

-- ---- as it begins

pub begun_stands : (list : List (Settings × ℕ)) (k : Gathering) (draws : Lcg) → AreHeard list k.multi (map hearer_at list) → draws ≡ draws_of list
    → k.draw ≡ next_draw draws → k.draws ≡ draws_after draws → k.lines ≡ 0 → k.counts ≡ nothing_counted → StandsFor list k (opening list)
begun_stands list k draws heard is draw after lines counts = record {
  heard = heard;
  draw = draw ∙ ap next_draw is;
  draws = after ∙ ap draws_after is;
  lines = lines;
  counts = counts;
}
