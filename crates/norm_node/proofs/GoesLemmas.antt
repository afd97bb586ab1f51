-- Events that lead on: one more at the end, and what becomes of a run by each of them.
use Rattle.std.proofs.Common.{◌≡◌, ℕ, ◌+◌, ◌<◌, List, [], ◌∷◌, ◌++◌, Option, None, Some, Bool, true, false, refl, sym, ap, ◌∙◌, subst, arith}
use Rattle.std.specs.Prelude.{◌==◌, IsSome, IfErr, Result, Ok, Err}
use Rattle.std.specs.Option.{option_map}
use Rattle.norm_base.specs.Datagrams.{datagram_of}
use Rattle.norm_base.specs.Network.{Network, with_answer, with_offer, answer_of}
use Rattle.norm_base.specs.Told.{Pieces, gained, GainsFront}
use Rattle.norm_base.specs.declared.fault.FabricFault.{FabricFault}
use Rattle.norm_base.specs.declared.fault.FabricFault.TheVariants as network_fault
use Rattle.norm_base.specs.declared.kinds.Sent.{Sent}
use Rattle.norm_base.specs.declared.kinds.Sent.TheVariants as sent
use Rattle.norm_ext.specs.Written.{Written}
use Rattle.norm_order.specs.declared.up.Up.{Up}
use Rattle.norm_receive_rules.specs.ReceiverState.{ReceiverState}
use Rattle.norm_receive_rules.specs.Taking.{took}
use Rattle.norm_receive_rules.specs.Ticking.{ticked}
use Rattle.norm_receiver.specs.ReceiverKept.{ReceiverKept}
use Rattle.norm_receiver.specs.ReceiverSound.{StandsFor, IsTick}
use Rattle.norm_journal.specs.Jobs.{Told}
use Rattle.norm_journal.specs.Lines.{up_line}
use Rattle.norm_journal.specs.Takes.{most_takes}
use Rattle.norm_turns.specs.Causes.{session_fault}
use Rattle.norm_turns.specs.Moments.{IsNextMoment}
use Rattle.norm_turns.specs.declared.fault.SessionFault.{SessionFault}
use Rattle.norm_turns.specs.declared.fault.SessionFault.TheVariants as fault
use Rattle.norm_node.specs.Lone.{Place, Between, Taking, Handing, Offering, Lone, Event, Begins, Takes, FindsNone, HandsUp, Ticks, Offers, IsDue, after, after_take, after_tick, next_up}
use Rattle.norm_node.specs.Shown.{Outside, Shows, Happens, IsSame, Goes, IsTold, IsNextTold, IsPut, file_of}
use Rattle.norm_node.specs.RunKept.{RunKept, Begun, At, lone_of, over, having, asked}
use Rattle.norm_node.specs.Stopping.{Stopped, Leaves, CallsNetwork, IsNextUp}
use Rattle.norm_node.specs.Taking.{Delivers, HasTaken, after_sent}
use Rattle.norm_node.specs.Handing.{OthersStay, IsFailedPut}

-- ---- one more event

goes_on : (s : Lone) (o : Outside) (events : List Event) (last : Lone) (shown : Outside) (e : Event) (next : Outside) → Goes s o events last shown
    → IsDue last e → Shows last e shown next → Goes s o (events ++ e ∷ []) (after last e) next
unfolding Goes
goes_on s o [] last shown e next same due shows = record {
  due = subst (λ (l : Lone). IsDue l e) same.state due;
  between = next;
  shows = subst (λ (l : Lone). Shows l e o next) same.state (subst (λ (b : Outside). Shows last e b next) same.outside shows);
  rest = record { state = ap (λ (l : Lone). after l e) same.state; outside = refl };
}
goes_on s o (first ∷ events) last shown e next h due shows = record {
  due = h.due;
  between = h.between;
  shows = h.shows;
  rest = goes_on (after s first) h.between events last shown e next h.rest due shows;
}

-- no event yet
pub goes_nowhere : (s : Lone) (o : Outside) → Goes s o [] s o
unfolding Goes
goes_nowhere s o = record { state = refl; outside = refl }

-- a run goes on by an event
pub steps_on : (x : Begun) (k new : RunKept) (place next : Place) (o shown : Outside) (e : Event) (r : ReceiverState) (here : At x k place o)
    → IsDue (lone_of k here.receiver place) e → Shows (lone_of k here.receiver place) e o shown
    → after (lone_of k here.receiver place) e ≡ lone_of new r next → StandsFor new.receiver r → new.receiver.p ≡ new.p → At x new next shown
steps_on x k new place next o shown e r here due shows leads stands same = record {
  events = here.events ++ e ∷ [];
  receiver = r;
  goes = subst (λ (l : Lone). Goes x.start x.before (here.events ++ e ∷ []) l shown) leads
      (goes_on x.start x.before here.events (lone_of k here.receiver place) o e shown here.goes due shows);
  stands = stands;
  same = same;
}

-- or stops behind it
pub stops_behind : (x : Begun) (why : SessionFault) (k : RunKept) (place : Place) (o shown now : Outside) (e : Event) (here : At x k place o)
    → IsDue (lone_of k here.receiver place) e → Shows (lone_of k here.receiver place) e o shown
    → Leaves why (after (lone_of k here.receiver place) e) shown now → Stopped x why now
stops_behind x why k place o shown now e here due shows leaves = record {
  events = here.events ++ e ∷ [];
  last = after (lone_of k here.receiver place) e;
  shown = shown;
  goes = goes_on x.start x.before here.events (lone_of k here.receiver place) o e shown here.goes due shows;
  leaves = leaves;
}

-- or where it is
pub stops_here : (x : Begun) (why : SessionFault) (k : RunKept) (place : Place) (o now : Outside) (here : At x k place o)
    → Leaves why (lone_of k here.receiver place) o now → Stopped x why now
stops_here x why k place o now here leaves = record {
  events = here.events;
  last = lone_of k here.receiver place;
  shown = o;
  goes = here.goes;
  leaves = leaves;
}

pub stops_for_memory : (x : Begun) (k : RunKept) (place : Place) (o : Outside) → At x k place o → Stopped x fault.Memory o
stops_for_memory x k place o here = stops_here x fault.Memory k place o o here refl

-- ---- takes

pub takes : (x : Begun) (k new : RunKept) (o : Outside) (count to : ℕ) (octets : List ℕ) (before now : Network) → Delivers k new to octets
    → now ≡ with_answer before (Some (to, octets)) → At x k (Taking count) (over o before) → At x new (after_take (Taking count)) (over o now)
takes x k new o count to octets before now delivers told here =
    let d = delivers here.receiver here.stands here.same in
    steps_on x k new (Taking count) (after_take (Taking count)) (over o before) (over o now) (Takes to octets) d.receiver here tt
    (ap (λ (n : Network). over o n) told)
    (sym (ap (λ (s : Lone). record s { place = after_take (Taking count) }) (d.state (Taking count)))) d.stands d.same

-- there was no memory to deliver what was taken
pub take_lost : (x : Begun) (k : RunKept) (o : Outside) (count to : ℕ) (octets : List ℕ) (before now : Network)
    → now ≡ with_answer before (Some (to, octets)) → At x k (Taking count) (over o before) → Stopped x fault.Memory (over o now)
take_lost x k o count to octets before now told here =
    stops_behind x fault.Memory k (Taking count) (over o before) (over o now) (over o now) (Takes to octets) here tt (ap (λ (n : Network). over o n) told) refl

pub finds_none : (x : Begun) (k : RunKept) (o : Outside) (count : ℕ) (before now : Network) → now ≡ with_answer before None
    → At x k (Taking count) (over o before) → At x k Handing (over o now)
finds_none x k o count before now told here =
    steps_on x k k (Taking count) Handing (over o before) (over o now) FindsNone here.receiver here tt (ap (λ (n : Network). over o n) told) refl here.stands here.same

-- a call of the network why
pub network_stops : (x : Begun) (k : RunKept) (why : FabricFault) (place : Place) (o : Outside) (before now : Network) → CallsNetwork place
    → now ≡ before → At x k place (over o before) → Stopped x (session_fault why) (over o now)
network_stops x k network_fault.Failed place o before now calls same here =
    stops_here x fault.Fabric k place (over o before) (over o now) here (calls, ap (λ (n : Network). over o n) same)
network_stops x k network_fault.Memory place o before now calls same here =
    stops_here x fault.Memory k place (over o before) (over o now) here (ap (λ (n : Network). over o n) same)

-- ---- a turn's first and last events

pub begins : (x : Begun) (k v : RunKept) (number step moment : ℕ) (o : Outside) (before after : Option (List ℕ)) → k ≡ v → number ≡ v.turn + 1
    → v.turn < v.p.turns → step ≡ v.p.step → IsNextMoment number step k.now moment before after → At x v Between (asked o before)
    → At x (record k { turn = number; now = moment }) (Taking 0) (asked o after)
begins x k v number step moment o before after seen is more same next there =
    let here = subst (λ (u : RunKept). At x u Between (asked o before)) (sym seen) there in
    let due = subst (λ (u : RunKept). u.turn < u.p.turns) (sym seen) more in
    let one : number ≡ k.turn + 1 = is ∙ ap (λ (u : RunKept). u.turn + 1) (sym seen) in
    let by : step ≡ k.p.step = same ∙ ap (λ (u : RunKept). u.p.step) (sym seen) in
    steps_on x k (record k { turn = number; now = moment }) Between (Taking 0) (asked o before) (asked o after) (Begins moment) here.receiver here
    (refl, due)
    (record {
      moment = subst (λ s. IsNextMoment (k.turn + 1) s k.now moment before after) by (subst (λ n. IsNextMoment n step k.now moment before after) one next);
      rest = refl;
    })
    (ap (λ n. record (lone_of k here.receiver Between) { turn = n; now = moment; place = Taking 0 }) (sym one)) here.stands here.same

pub offers : (x : Begun) (k : RunKept) (o : Outside) (octets : List ℕ) (before now : Network) → now ≡ with_offer before k.node octets
    → At x k (Offering octets) (over o before) → At x k Between (over o now)
offers x k o octets before now told here =
    steps_on x k k (Offering octets) Between (over o before) (over o now) Offers here.receiver here tt (ap (λ (n : Network). over o n) told) refl here.stands here.same

-- what a tick wrote is what is to be offered
after_is : (said : Sent) (out : List ℕ) (datagram : Option Written) → datagram_of said out ≡ option_map (λ (w : Written). w.octets) datagram
    → after_sent said out ≡ after_tick datagram
after_is sent.Nothing out None e = refl
after_is sent.Datagram out None e = absurd (cc)
after_is sent.Nothing out (Some w) e = absurd (cc)
after_is sent.Datagram out (Some w) e = ap Offering (same out w.octets e)
  where
    same : (a b : List ℕ) → Some a ≡ Some b → a ≡ b
    same a b e = cc

-- nothing is left to be told
none_left : (k : ReceiverKept) (r : ReceiverState) → StandsFor k r → k.hold.ups ≡ [] → r.holding.ups ≡ []
none_left k r stands none = stands.agrees.hold.ups ∙ none

pub ticks : (x : Begun) (k : RunKept) (receiver : ReceiverKept) (said : Sent) (out : List ℕ) (o : Outside) → k.receiver.hold.ups ≡ []
    → receiver.p ≡ k.receiver.p → ((s : ReceiverState) → StandsFor k.receiver s → IsTick receiver out said (ticked k.receiver.p s k.now))
    → At x k Handing o → At x (record k { receiver = receiver }) (after_sent said out) o
ticks x k receiver said out o none profile tick here =
    let t = subst (λ p. IsTick receiver out said (ticked p here.receiver k.now)) here.same (tick here.receiver here.stands) in
    let step = ticked k.p here.receiver k.now in
    steps_on x k (record k { receiver = receiver }) Handing (after_sent said out) o o Ticks step.0 here
    (refl, none_left k.receiver here.receiver here.stands none) refl
    (ap (λ (place : Place). record (lone_of k step.0 Handing) { place = place }) (sym (after_is said out step.1 t.octets)))
    t.stands (profile ∙ here.same)

-- ---- a hand-up

-- the receiver handed this up, in this instance
pub record IsHanded (k : RunKept) (receiver : ReceiverKept) (instance : ℕ) (handed : Up) : Type 0 where
  pub profile : receiver.p ≡ k.receiver.p
  pub stands : (s : ReceiverState) → StandsFor k.receiver s → StandsFor receiver (took s).0 × (Some handed ≡ (took s).1)
  pub within : (s : ReceiverState) → StandsFor k.receiver s → Some instance ≡ s.instance

next_is : (r : ReceiverState) (instance : ℕ) (handed : Up) → Some handed ≡ (took r).1 → Some instance ≡ r.instance → next_up r ≡ Some (instance, handed)
next_is r instance handed up within =
    ap (λ i. Rattle.std.specs.Prelude.option_and_then (λ n. option_map (λ u. (n, u)) (took r).1) i) (sym within) ∙ ap (λ u. option_map (λ v. (instance, v)) u) (sym up)

pub hands : (x : Begun) (k : RunKept) (receiver : ReceiverKept) (instance : ℕ) (handed : Up) (o : Outside) (before now : Pieces) (files then : Told)
    → IsHanded k receiver instance handed → IsPut (file_of k.node instance handed) files then
    → now ≡ gained before (up_line k.node instance handed ∷ []) → At x k Handing (having o before files)
    → At x (record k { receiver = receiver }) Handing (having o now then)
hands x k receiver instance handed o before now files then is put out here =
    let did = is.stands here.receiver here.stands in
    let next = next_is here.receiver instance handed did.1 (is.within here.receiver here.stands) in
    steps_on x k (record k { receiver = receiver }) Handing Handing (having o before files) (having o now then) HandsUp (took here.receiver).0 here
    (refl, subst IsSome (sym next) refl)
    (subst (λ u. IsNextTold k.node u (having o before files) (having o now then)) (sym next)
    (record { file = put; line = ap (λ (w : Pieces). having o w then) out }))
    refl did.0 (is.profile ∙ here.same)

pub line_stops : (x : Begun) (k : RunKept) (receiver : ReceiverKept) (instance : ℕ) (handed : Up) (o : Outside) (before now : Pieces) (files then : Told)
    → IsHanded k receiver instance handed → IsPut (file_of k.node instance handed) files then
    → GainsFront before now (up_line k.node instance handed) → At x k Handing (having o before files) → Stopped x fault.Write (having o now then)
line_stops x k receiver instance handed o before now files then is put front here =
    let next = next_is here.receiver instance handed (is.stands here.receiver here.stands).1 (is.within here.receiver here.stands) in
    stops_here x fault.Write k Handing (having o before files) (having o now then) here
    (record { instance = instance; handed = handed; due = record { place = refl; next = next }; file = put; line = front; rest = refl })

-- ---- takes of a turn

-- after so many takes of a turn
abbrev pub takes_from : ℕ → Place
takes_from count = elim (count == most_takes) [ true ↦ Handing | false ↦ Taking count ]

not_most : (count : ℕ) → count < most_takes → (count == most_takes) ≡ false
not_most count lt = grind (arith, lt)

pub takes_more : (x : Begun) (k : RunKept) (count : ℕ) (now : Outside) → count < most_takes → At x k (takes_from count) now → At x k (Taking count) now
takes_more x k count now lt here = subst (λ b. At x k (elim b [ true ↦ Handing | false ↦ Taking count ]) now) (not_most count lt) here

pub took_one : (more : Bool) (x : Begun) (k : RunKept) (count : ℕ) (now : Outside) → more ≡ true → HasTaken more x k count now
    → At x k (takes_from (count + 1)) now
took_one more x k count now is h = subst (λ b. HasTaken b x k count now) is h

pub took_none : (more : Bool) (x : Begun) (k : RunKept) (count : ℕ) (now : Outside) → more ≡ false → HasTaken more x k count now → At x k Handing now
took_none more x k count now is h = subst (λ b. HasTaken b x k count now) is h

-- ---- as calls leave it

pub begins_here : (x : Begun) (k : RunKept) (r : ReceiverState) → x.start ≡ lone_of k r Between → StandsFor k.receiver r → k.receiver.p ≡ k.p
    → At x k Between x.before
unfolding Goes
begins_here x k r is stands same =
    record { events = []; receiver = r; goes = record { state = sym is; outside = refl }; stands = stands; same = same }

-- the answer of a take, by what was found
pub answer_is : (found : Option ℕ) (node : ℕ) (into octets : List ℕ) → found ≡ Some node → octets ≡ into → answer_of found into ≡ Some (node, octets)
answer_is found node into octets is same = ap (λ n. answer_of n into) is ∙ ap (λ o. Some (node, o)) (sym same)

pub ticks_on : (x : Begun) (k v : RunKept) (receiver : ReceiverKept) (said : Sent) (out : List ℕ) (o : Outside) → k ≡ v → v.receiver.hold.ups ≡ []
    → receiver.p ≡ k.receiver.p → ((s : ReceiverState) → StandsFor k.receiver s → IsTick receiver out said (ticked k.receiver.p s k.now))
    → At x v Handing o → At x (record k { receiver = receiver }) (after_sent said out) o
ticks_on x k v receiver said out o seen none profile tick there =
    ticks x k receiver said out o (subst (λ (u : RunKept). u.receiver.hold.ups ≡ []) (sym seen) none) profile tick
    (subst (λ (u : RunKept). At x u Handing o) (sym seen) there)

pub hands_on : (x : Begun) (k v : RunKept) (receiver : ReceiverKept) (instance : ℕ) (handed : Up) (o : Outside) (before now : Pieces) (files then : Told)
    → k ≡ v → IsHanded k receiver instance handed → IsPut (file_of k.node instance handed) files then
    → now ≡ gained before (up_line k.node instance handed ∷ []) → At x v Handing (having o before files)
    → At x (record k { receiver = receiver }) Handing (having o now then)
hands_on x k v receiver instance handed o before now files then seen is put out there =
    hands x k receiver instance handed o before now files then is put out
    (subst (λ (u : RunKept). At x u Handing (having o before files)) (sym seen) there)

pub line_breaks : (x : Begun) (k v : RunKept) (receiver : ReceiverKept) (instance : ℕ) (handed : Up) (o : Outside) (before now : Pieces) (files then : Told)
    → k ≡ v → IsHanded k receiver instance handed → IsPut (file_of k.node instance handed) files then
    → GainsFront before now (up_line k.node instance handed) → At x v Handing (having o before files) → Stopped x fault.Write (having o now then)
line_breaks x k v receiver instance handed o before now files then seen is put front there =
    line_stops x k receiver instance handed o before now files then is put front
    (subst (λ (u : RunKept). At x u Handing (having o before files)) (sym seen) there)

failed_put : (x : Begun) (k : RunKept) (receiver : ReceiverKept) (instance : ℕ) (handed : Up) (o : Outside) (written : Pieces) (files then : Told)
    (file : Option (List ℕ × List ℕ)) → file_of k.node instance handed ≡ file → IsHanded k receiver instance handed → OthersStay file files then
    → At x k Handing (having o written files) → Stopped x fault.Files (having o written then)
failed_put x k receiver instance handed o written files then None is by stay here = absurd stay
failed_put x k receiver instance handed o written files then (Some file) is by stay here =
    let next = next_is here.receiver instance handed (by.stands here.receiver here.stands).1 (by.within here.receiver here.stands) in
    stops_here x fault.Files k Handing (having o written files) (having o written then) here
    (record { instance = instance; handed = handed; file = file; due = record { place = refl; next = next }; file_is = is; others = stay; rest = refl })

-- a file was not put
pub put_stops : (x : Begun) (why : SessionFault) (k v : RunKept) (receiver : ReceiverKept) (instance : ℕ) (handed : Up) (o : Outside) (written : Pieces)
    (files then : Told) → k ≡ v → IsHanded k receiver instance handed → IsFailedPut why (file_of k.node instance handed) files then
    → At x v Handing (having o written files) → Stopped x why (having o written then)
put_stops x fault.Files k v receiver instance handed o written files then seen is left there =
    failed_put x k receiver instance handed o written files then (file_of k.node instance handed) refl is left
    (subst (λ (u : RunKept). At x u Handing (having o written files)) (sym seen) there)
put_stops x fault.Memory k v receiver instance handed o written files then seen is left there =
    subst (λ (f : Told). Stopped x fault.Memory (having o written f)) (sym left) (stops_for_memory x v Handing (having o written files) there)
put_stops x fault.Write k v receiver instance handed o written files then seen is left there = absurd left
put_stops x fault.Fabric k v receiver instance handed o written files then seen is left there = absurd left
put_stops x (fault.Absent name) k v receiver instance handed o written files then seen is left there = absurd left
