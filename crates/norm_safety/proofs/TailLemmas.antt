-- Tails are runs, within their bound; what a tick answers is what its node gave; and which tails are refused.
use Rattle.std.proofs.Common.{◌≡◌, ◌≤◌, ℕ, zero, suc, ◌+◌, ◌*◌, ◌++◌, ◌||◌, cond, List, [], ◌∷◌, filter, Bool, true, false, not, Option, None, Some, refl, sym, ap, ◌∙◌, arith}
use Rattle.std.specs.Prelude.{◌==◌, find, fold, is_none, nat_lt}
use Rattle.std.specs.Fn.{iterate}
use Rattle.std.specs.Option.{option_map}
use Rattle.std.proofs.lemmas.Bool.Decides.{Decides-eqb}
use Rattle.std.proofs.lemmas.Bool.{ltb-false, le-ltb}
use Rattle.std.proofs.lemmas.List.{map-append}
use Rattle.norm_base.specs.Settings.{Settings}
use Rattle.norm_base.specs.Members.{receivers_of}
use Rattle.norm_base.specs.declared.kinds.Mode.{Mode}
use Rattle.norm_base.specs.declared.kinds.Mode.TheVariants as mode
use Rattle.norm_ext.specs.Written.{Written}
use Rattle.norm_receive_rules.specs.ReceiverState.{ReceiverState}
use Rattle.norm_receive_rules.specs.ReceiverStep.{receiver_step}
use Rattle.norm_receive_rules.specs.ReceiverStep as receiver
use Rattle.norm_receive_rules.specs.Ticking.{ticked as receiver_ticked}
use Rattle.norm_order.specs.First.{first_where}
use Rattle.norm_send_rules.specs.Repairable.{streams}
use Rattle.norm_send_rules.specs.SenderState.{SenderState, Watermark}
use Rattle.norm_send_rules.specs.SenderStep as sender
use Rattle.norm_send_rules.specs.Ticking.{ticked}
use Rattle.norm_send_rules.specs.Watermarks.{oldest}
use Rattle.norm_safety.specs.Events.{Event, Delivered, Ticked, Offered, UpTaken, NewsAsked, Sent, Silent}
use Rattle.norm_safety.specs.History.{Happening, happens}
use Rattle.norm_safety.specs.Tail.{Course, course_from, events_of, comes, untold, tells, untaken, takes, copy_comes, others_than, given_by, passes_on, sender_ticks, receiver_ticks, serves, goes_round, tail_turn, tail_turns, is_open_mark, cut_turn, Tail, turn_more, tail_until, tail_bound, tail_of, TailRefusal, drops, sent_twice, most_counted, tail_fault}
use Rattle.norm_safety.specs.TailLaws.{IsCourse, IsAccepted, TailLaws}
use Rattle.norm_safety.specs.World.{World, receiver_at, with_receiver, with_given}
use Rattle.norm_safety.specs.WorldStep.{node_move, moved, world_step, run_from}
use Rattle.norm_safety.proofs.EntryLemmas.{clash}
use Rattle.norm_safety.proofs.WorldLemmas.{world_laws}

-- ---- a course is a run

-- what happens with one more event
happening : Settings → World → Event → Happening
happening p w e = record { before = w; event = e; answer = (world_step p w e).1; after = (world_step p w e).0 }

run_more : (p : Settings) (w : World) (events : List Event) (e : Event) → run_from p w (events ++ e ∷ []) ≡ (world_step p (run_from p w events) e).0
run_more p w [] e = refl
run_more p w (x ∷ events) e = run_more p (world_step p w x).0 events e

happens_more : (p : Settings) (w : World) (events : List Event) (e : Event)
    → happens p w (events ++ e ∷ []) ≡ happens p w events ++ happening p (run_from p w events) e ∷ []
unfolding happens happening
happens_more p w [] e = refl
happens_more p w (x ∷ events) e = ap (λ more. happening p w x ∷ more) (happens_more p (world_step p w x).0 events e)

-- what each event keeps, and a draw, a tail keeps
module _ (p : Settings) (draws : ℕ → ℕ) (Kept : Course → Type 0) (each : (e : Event) (c : Course) → Kept c → Kept (comes p e c))
    (drawn : (c : Course) (n : ℕ) → Kept c → Kept (record c { used = n })) where
  times_keep : (n : ℕ) (e : Event) (c : Course) → Kept c → Kept (iterate (comes p e) n c)
  times_keep zero e c h = h
  times_keep (suc n) e c h = times_keep n e (comes p e c) (each e c h)

  tells_keep : (c : Course) → Kept c → Kept (tells p c)
  tells_keep c h = times_keep (untold c.world.sender) NewsAsked c h

  copy_keeps : (now : ℕ) (octets : List ℕ) (c : Course) (node : ℕ) → Kept c → Kept (copy_comes p draws now octets c node)
  copy_keeps now octets c node h = go (node == p.sender)
    where
      go : (b : Bool) → Kept (elim b as (λ _. Course) [
        | true ↦ tells p (comes p (Delivered node octets now 0) c)
        | false ↦ comes p (Delivered node octets now (draws c.used)) (record c { used = c.used + 1 })
      ])
      go true = tells_keep (comes p (Delivered node octets now 0) c) (each (Delivered node octets now 0) c h)
      go false = each (Delivered node octets now (draws c.used)) (record c { used = c.used + 1 }) (drawn c (c.used + 1) h)

  copies_keep : (now : ℕ) (octets : List ℕ) (nodes : List ℕ) (c : Course) → Kept c → Kept (fold (copy_comes p draws now octets) c nodes)
  copies_keep now octets [] c h = h
  copies_keep now octets (node ∷ nodes) c h = copies_keep now octets nodes (copy_comes p draws now octets c node) (copy_keeps now octets c node h)

  passes_keep : (now : ℕ) (c : Course) (node : ℕ) → Kept c → Kept (passes_on p draws now c node)
  passes_keep now c node h = go (given_by c.world node)
    where
      go : (given : Option Written) → Kept (elim given as (λ _. Course) [
        | Some d ↦ fold (copy_comes p draws now d.octets) (comes p (Offered node d.octets) c) (others_than p node)
        | None ↦ c
      ])
      go None = h
      go (Some d) = copies_keep now d.octets (others_than p node) (comes p (Offered node d.octets) c) (each (Offered node d.octets) c h)

  serves_keeps : (now : ℕ) (c : Course) (node : ℕ) → Kept c → Kept (serves p draws now c node)
  serves_keeps now c node h =
      passes_keep now (receiver_ticks p now c node) node
      (each (Ticked node now) (takes p node c) (times_keep (untaken c.world node) (UpTaken node) c h))

  all_served : (now : ℕ) (nodes : List ℕ) (c : Course) → Kept c → Kept (fold (serves p draws now) c nodes)
  all_served now [] c h = h
  all_served now (node ∷ nodes) c h = all_served now nodes (serves p draws now c node) (serves_keeps now c node h)

  round_keeps : (now : ℕ) (c : Course) → Kept c → Kept (goes_round p draws now c)
  round_keeps now c h = all_served now (receivers_of p p.receivers) (passes_on p draws now c p.sender) (passes_keep now c p.sender h)

  tick_keeps : (now : ℕ) (c : Course) → Kept c → Kept (sender_ticks p now c)
  tick_keeps now c h = tells_keep (comes p (Ticked p.sender now) c) (each (Ticked p.sender now) c h)

  cut_keeps : (mark now : ℕ) (c : Course) → Kept c → Kept (cut_turn p draws mark now c)
  cut_keeps mark now c h = go (is_open_mark (sender_ticks p now c).world mark)
    where
      go : (b : Bool) → Kept (elim b as (λ _. Course) [ true ↦ goes_round p draws now (sender_ticks p now c) | false ↦ sender_ticks p now c ])
      go true = round_keeps now (sender_ticks p now c) (tick_keeps now c h)
      go false = tick_keeps now c h

  turns_keep : (n last : ℕ) (c : Course) → Kept c → Kept (tail_turns n p draws last c)
  unfolding tail_turns
  turns_keep zero last c h = h
  turns_keep (suc n) last c h =
      turns_keep n (last + p.step) (tail_turn p draws (last + p.step) c) (round_keeps (last + p.step) (sender_ticks p (last + p.step) c) (tick_keeps (last + p.step) c h))

  until_keeps : (n mark : ℕ) (t : Tail) → Kept t.course → Kept (tail_until n p draws mark t).course
  unfolding tail_until
  until_keeps zero mark t h = h
  until_keeps (suc n) mark t h = go (is_open_mark t.course.world mark) (until_keeps n mark (turn_more p draws mark t) (cut_keeps mark (t.last + p.step) t.course h))
    where
      go : (b : Bool) → Kept (tail_until n p draws mark (turn_more p draws mark t)).course
          → Kept (elim b as (λ _. Tail) [ true ↦ tail_until n p draws mark (turn_more p draws mark t) | false ↦ t ]).course
      go true more = more
      go false more = h

comes_in_course : (p : Settings) (w : World) (e : Event) (c : Course) → IsCourse p w c → IsCourse p w (comes p e c)
unfolding happening
comes_in_course p w e c h =
    let more : events_of (comes p e c) ≡ events_of c ++ e ∷ [] = map-append _ c.happened _ in
    record {
      world = ap (run_from p w) more ∙ run_more p w (events_of c) e ∙ ap (λ v. (world_step p v e).0) h.world;
      happened = ap (happens p w) more ∙ happens_more p w (events_of c) e ∙ ap (λ before. before ++ happening p (run_from p w (events_of c)) e ∷ []) h.happened
          ∙ ap (λ v. c.happened ++ happening p v e ∷ []) h.world;
    }

draw_in_course : (p : Settings) (w : World) (c : Course) (n : ℕ) → IsCourse p w c → IsCourse p w (record c { used = n })
draw_in_course p w c n h = record { world = h.world; happened = h.happened }

course_begins : (p : Settings) (w : World) → IsCourse p w (course_from w)
unfolding happens
course_begins p w = record { world = refl; happened = refl }

-- ---- how many turns, and when

until_within : (n : ℕ) (p : Settings) (draws : ℕ → ℕ) (mark : ℕ) (t : Tail) → (tail_until n p draws mark t).turns ≤ t.turns + n
unfolding tail_until
until_within zero p draws mark t = omega arith
until_within (suc n) p draws mark t = go (is_open_mark t.course.world mark) (until_within n p draws mark (turn_more p draws mark t))
  where
    go : (b : Bool) → (tail_until n p draws mark (turn_more p draws mark t)).turns ≤ (t.turns + 1) + n
        → (elim b as (λ _. Tail) [ true ↦ tail_until n p draws mark (turn_more p draws mark t) | false ↦ t ]).turns ≤ t.turns + suc n
    go true more = omega (arith, more)
    go false more = omega arith

from_none : (bound turns : ℕ) → turns ≤ 0 + bound → turns ≤ bound
from_none bound turns le = omega (arith, le)

step_later : (turns step last now : ℕ) → now ≡ last + turns * step → now + step ≡ last + (turns + 1) * step
step_later turns step last now e = grind (arith, e)

until_apart : (n : ℕ) (p : Settings) (draws : ℕ → ℕ) (mark last : ℕ) (t : Tail) → t.last ≡ last + t.turns * p.step
    → (tail_until n p draws mark t).last ≡ last + (tail_until n p draws mark t).turns * p.step
unfolding tail_until
until_apart zero p draws mark last t e = e
until_apart (suc n) p draws mark last t e =
    go (is_open_mark t.course.world mark) (until_apart n p draws mark last (turn_more p draws mark t) (step_later t.turns p.step last t.last e))
  where
    Apart : Tail → Type 0
    Apart u = u.last ≡ last + u.turns * p.step

    go : (b : Bool) → Apart (tail_until n p draws mark (turn_more p draws mark t))
        → Apart (elim b as (λ _. Tail) [ true ↦ tail_until n p draws mark (turn_more p draws mark t) | false ↦ t ])
    go true more = more
    go false more = e

-- ---- what a tick gave

find_put : (node : ℕ) (given : List (ℕ × Written)) (datagram : Written)
    → find (λ (g : ℕ × Written). g.0 == node) (filter (λ (g : ℕ × Written). not (g.0 == node)) given ++ (node, datagram) ∷ []) ≡ Some (node, datagram)
find_put node [] datagram = ap (λ b. cond b (Some (node, datagram)) None) ((Decides-eqb node node).1 refl)
find_put node (x ∷ given) datagram = go (x.0 == node) refl (find_put node given datagram)
  where
    Finds : List (ℕ × Written) → Type 0
    Finds gs = find (λ (g : ℕ × Written). g.0 == node) (gs ++ (node, datagram) ∷ []) ≡ Some (node, datagram)

    others : List (ℕ × Written)
    others = filter (λ (g : ℕ × Written). not (g.0 == node)) given

    go : (b : Bool) → (x.0 == node) ≡ b → Finds others → Finds (cond (not b) (x ∷ others) others)
    go true is more = more
    go false is more = ap (λ b. cond b (Some x) (find (λ (g : ℕ × Written). g.0 == node) (others ++ (node, datagram) ∷ []))) is ∙ more

find_none : (node : ℕ) (given : List (ℕ × Written))
    → find (λ (g : ℕ × Written). g.0 == node) (filter (λ (g : ℕ × Written). not (g.0 == node)) given) ≡ None
find_none node [] = refl
find_none node (x ∷ given) = go (x.0 == node) refl (find_none node given)
  where
    others : List (ℕ × Written)
    others = filter (λ (g : ℕ × Written). not (g.0 == node)) given

    FindsNone : List (ℕ × Written) → Type 0
    FindsNone gs = find (λ (g : ℕ × Written). g.0 == node) gs ≡ None

    go : (b : Bool) → (x.0 == node) ≡ b → FindsNone others → FindsNone (cond (not b) (x ∷ others) others)
    go true is more = more
    go false is more = ap (λ b. cond b (Some x) (find (λ (g : ℕ × Written). g.0 == node) others)) is ∙ more

put_given : (node : ℕ) (datagram : Option Written) (w : World) → given_by (with_given node datagram w) node ≡ datagram
put_given node None w = ap (option_map (λ (g : ℕ × Written). g.1)) (find_none node w.given)
put_given node (Some datagram) w = ap (option_map (λ (g : ℕ × Written). g.1)) (find_put node w.given datagram)

sent_is : (a b : Option Written) → Sent a ≡ Sent b → a ≡ b
sent_is a b e = cc

silent_sent : (datagram : Option Written) → Silent ≡ Sent datagram → ⊥
silent_sent datagram e = cc

tick_given : (p : Settings) (w : World) (node now : ℕ) (datagram : Option Written) → (world_step p w (Ticked node now)).1 ≡ Sent datagram
    → given_by (world_step p w (Ticked node now)).0 node ≡ datagram
tick_given p w node now datagram e = go (node == p.sender) (receiver_at w node) refl refl e
  where
    go : (b : Bool) (found : Option ReceiverState) → (node == p.sender) ≡ b → receiver_at w node ≡ found
        → (moved p w (node_move b found (sender.Ticked now) (receiver.Ticked now))).1 ≡ Sent datagram
        → given_by (moved p w (node_move b found (sender.Ticked now) (receiver.Ticked now))).0 node ≡ datagram
    go true found is at e =
        let step = ticked p w.sender now in
        let v : World = record w { sender = step.0 } in
        ap (given_by (with_given p.sender step.1 v)) ((Decides-eqb node p.sender).0 is) ∙ put_given p.sender step.1 v ∙ sent_is step.1 datagram e
    go false None is at e = absurd (silent_sent datagram e)
    go false (Some r) is at e =
        let step = receiver_ticked p r now in
        let v : World = with_receiver step.0 w in
        ap (given_by (with_given r.node step.1 v)) (sym (world_laws.found w node r at)) ∙ put_given r.node step.1 v ∙ sent_is step.1 datagram e

-- ---- what is refused

none_first : (b : Bool) (x : TailRefusal) (rows : List (Bool × TailRefusal)) → first_where ((b, x) ∷ rows) ≡ None → (b ≡ false) × (first_where rows ≡ None)
unfolding first_where
none_first true x rows e = absurd (some_none e)
  where
    some_none : Some x ≡ None → ⊥
    some_none e = cc
none_first false x rows e = (refl, e)

first_none : (b : Bool) (x : TailRefusal) (rows : List (Bool × TailRefusal)) → b ≡ false → first_where rows ≡ None → first_where ((b, x) ∷ rows) ≡ None
unfolding first_where
first_none true x rows e more = absurd (clash (sym e))
first_none false x rows e more = more

no_rows : first_where {X = TailRefusal} [] ≡ None
unfolding first_where
no_rows = refl

either_false : (a b : Bool) → (a || b) ≡ false → (a ≡ false) × (b ≡ false)
either_false true b e = absurd (clash (sym e))
either_false false b e = (refl, e)

both_false : (a b : Bool) → a ≡ false → b ≡ false → (a || b) ≡ false
both_false true b e f = absurd (clash (sym e))
both_false false b e f = f

some_oldest : (o : Option Watermark) → is_none o ≡ false → (mark : ℕ) × (option_map (λ (w : Watermark). w.mark) o ≡ Some mark)
some_oldest None e = absurd (clash (sym e))
some_oldest (Some w) e = (w.mark, refl)

oldest_some : (o : Option Watermark) (mark : ℕ) → option_map (λ (w : Watermark). w.mark) o ≡ Some mark → is_none o ≡ false
oldest_some None mark e = absurd (none_some e)
  where
    none_some : None ≡ Some mark → ⊥
    none_some e = cc
oldest_some (Some w) mark e = refl

dropping : Mode → Bool
dropping m = elim m [ mode.Hold ↦ false | mode.Drop ↦ true ]

holds_of : (m : Mode) → dropping m ≡ false → m ≡ mode.Hold
unfolding dropping
holds_of mode.Hold e = refl
holds_of mode.Drop e = absurd (clash (sym e))

some_step : (step : ℕ) → (step == 0) ≡ false → 1 ≤ step
some_step zero e = absurd (clash (sym e))
some_step (suc n) e = omega arith

no_zero : (step : ℕ) → 1 ≤ step → (step == 0) ≡ false
no_zero step le = go (step == 0) refl
  where
    go : (b : Bool) → (step == 0) ≡ b → b ≡ false
    go true is = let none = (Decides-eqb step 0).0 is in absurd (omega (arith, le, none))
    go false is = refl

none_of : (n : ℕ) → n ≤ 0 → n ≡ 0
none_of n le = omega (arith, le)

accepts : (p : Settings) (s : SenderState) → tail_fault p s ≡ None → IsAccepted p s
unfolding dropping
accepts p s e =
    let request = none_first (is_none (oldest s)) _ _ e in
    let drop = none_first (drops p) _ _ request.1 in
    let stream = none_first (nat_lt 0 (streams s)) _ _ drop.1 in
    let step = none_first (p.step == 0 || nat_lt p.gap p.step) _ _ stream.1 in
    let pace = none_first (nat_lt p.grtt (sent_twice p s)) _ _ step.1 in
    let flush = none_first (nat_lt most_counted (s.flushes + 2 * p.k)) _ _ pace.1 in
    let steps = either_false (p.step == 0) (nat_lt p.gap p.step) step.0 in
    let asked = some_oldest (oldest s) request.0 in
    record {
      mark = asked.0;
      oldest = asked.1;
      holds = holds_of p.mode drop.0;
      streams = none_of (streams s) (ltb-false 0 (streams s) stream.0);
      paced = record {
        goes_on = some_step p.step steps.0;
        often = ltb-false p.gap p.step steps.1;
        twice = ltb-false p.grtt (sent_twice p s) pace.0;
        flushes = ltb-false most_counted (s.flushes + 2 * p.k) flush.0;
      };
    }

refuses_none : (p : Settings) (s : SenderState) → IsAccepted p s → tail_fault p s ≡ None
unfolding dropping
refuses_none p s h =
    first_none (is_none (oldest s)) _ _ (oldest_some (oldest s) h.mark h.oldest)
    (first_none (drops p) _ _ (ap dropping h.holds)
    (first_none (nat_lt 0 (streams s)) _ _ (ap (nat_lt 0) h.streams)
    (first_none (p.step == 0 || nat_lt p.gap p.step) _ _
    (both_false (p.step == 0) (nat_lt p.gap p.step) (no_zero p.step h.paced.goes_on) (le-ltb p.gap p.step h.paced.often))
    (first_none (nat_lt p.grtt (sent_twice p s)) _ _ (le-ltb p.grtt (sent_twice p s) h.paced.twice)
    (first_none (nat_lt most_counted (s.flushes + 2 * p.k)) _ _ (le-ltb most_counted (s.flushes + 2 * p.k) h.paced.flushes) no_rows)))))

pub tail_laws : TailLaws
tail_laws = record {
  tail = λ p draws last w mark. until_keeps p draws (IsCourse p w) (comes_in_course p w) (draw_in_course p w) (tail_bound p w.sender) mark
      (record { turns = 0; last = last; course = course_from w }) (course_begins p w);
  turns = λ n p draws last w. turns_keep p draws (IsCourse p w) (comes_in_course p w) (draw_in_course p w) n last (course_from w) (course_begins p w);
  within = λ p draws last w mark. from_none (tail_bound p w.sender) (tail_of p draws last w mark).turns
      (until_within (tail_bound p w.sender) p draws mark (record { turns = 0; last = last; course = course_from w }));
  apart = λ p draws last w mark. until_apart (tail_bound p w.sender) p draws mark last (record { turns = 0; last = last; course = course_from w }) (omega arith);
  given = tick_given;
  accepted = λ p s. (accepts p s, refuses_none p s);
}
