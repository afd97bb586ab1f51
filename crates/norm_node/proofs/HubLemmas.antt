-- What becomes of a hub's run by each event.
use Rattle.std.proofs.Common.{◌≡◌, ℕ, ◌+◌, ◌<◌, ◌≤◌, List, [], ◌∷◌, ◌++◌, Option, None, Some, Bool, true, false, refl, sym, ap, ◌∙◌, subst, arith}
use Rattle.std.specs.Prelude.{◌==◌}
use Rattle.std.proofs.lemmas.Bool.Decides.{Decides-eqb}
use Rattle.norm_base.specs.Network.{Network, with_answer, with_offer}
use Rattle.norm_base.specs.Settings.{Settings}
use Rattle.norm_base.specs.declared.fault.FabricFault.{FabricFault}
use Rattle.norm_base.specs.declared.fault.FabricFault.TheVariants as network_fault
use Rattle.norm_journal.specs.Takes.{most_takes}
use Rattle.norm_turns.specs.Causes.{session_fault}
use Rattle.norm_turns.specs.Moments.{IsNextMoment}
use Rattle.norm_turns.specs.declared.fault.SessionFault.{SessionFault}
use Rattle.norm_turns.specs.declared.fault.SessionFault.TheVariants as fault
use Rattle.norm_node.specs.Hub.{HubPlace, Idle, Listening, Passing, Hub, HubEvent, Opens, Hears, HearsNone, Passes, IsHubDue, after_hub, after_pass, hub_opening, Around, around, HubShows, HubHappens, IsSameHub, HubGoes, HubKept, hub_of, HubAt, CallsAround, HubLeaves, HubStopped}
use Rattle.norm_node.specs.Passing.{HasPassed}

hub_goes_on : (s : Hub) (o : Around) (events : List HubEvent) (last : Hub) (shown : Around) (e : HubEvent) (next : Around) → HubGoes s o events last shown
    → IsHubDue last e → HubShows last e shown next → HubGoes s o (events ++ e ∷ []) (after_hub last e) next
unfolding HubGoes
hub_goes_on s o [] last shown e next same due shows = record {
  due = subst (λ (l : Hub). IsHubDue l e) same.state due;
  between = next;
  shows = subst (λ (l : Hub). HubShows l e o next) same.state (subst (λ (b : Around). HubShows last e b next) same.around shows);
  rest = record { state = ap (λ (l : Hub). after_hub l e) same.state; around = refl };
}
hub_goes_on s o (first ∷ events) last shown e next h due shows = record {
  due = h.due;
  between = h.between;
  shows = h.shows;
  rest = hub_goes_on (after_hub s first) h.between events last shown e next h.rest due shows;
}

-- no event yet
pub hub_begins : (p : Settings) (o : Around) → HubAt p o (record { p = p; turn = 0; now = 0 }) Idle o
unfolding HubGoes
hub_begins p o = record { events = []; goes = record { state = refl; around = refl } }

hub_steps : (p : Settings) (o : Around) (k new : HubKept) (place next : HubPlace) (before after : Around) (e : HubEvent) → HubAt p o k place before
    → IsHubDue (hub_of k place) e → HubShows (hub_of k place) e before after → after_hub (hub_of k place) e ≡ hub_of new next → HubAt p o new next after
hub_steps p o k new place next before after e here due shows leads = record {
  events = here.events ++ e ∷ [];
  goes = subst (λ (l : Hub). HubGoes (hub_opening p) o (here.events ++ e ∷ []) l after) leads
      (hub_goes_on (hub_opening p) o here.events (hub_of k place) before e after here.goes due shows);
}

hub_stops : (p : Settings) (o : Around) (k : HubKept) (place : HubPlace) (why : SessionFault) (now : Around) → HubAt p o k place now → HubLeaves why place
    → HubStopped p o why now
hub_stops p o k place why now here leaves = record { events = here.events; last = hub_of k place; goes = here.goes; leaves = leaves }

-- a call of the network failed
pub around_stops : (p : Settings) (o : Around) (k : HubKept) (place : HubPlace) (why : FabricFault) (before now : Network) (moments : Option (List ℕ))
    → CallsAround place → now ≡ before → HubAt p o k place (around before moments) → HubStopped p o (session_fault why) (around now moments)
around_stops p o k place network_fault.Failed before now moments calls same here =
    hub_stops p o k place fault.Fabric (around now moments) (subst (λ (n : Network). HubAt p o k place (around n moments)) (sym same) here) calls
around_stops p o k place network_fault.Memory before now moments calls same here =
    hub_stops p o k place fault.Memory (around now moments) (subst (λ (n : Network). HubAt p o k place (around n moments)) (sym same) here) tt

pub hears : (p : Settings) (o : Around) (k : HubKept) (count from : ℕ) (octets : List ℕ) (before now : Network) (moments : Option (List ℕ))
    → now ≡ with_answer before (Some (from, octets)) → HubAt p o k (Listening count) (around before moments)
    → HubAt p o k (Passing from octets count) (around now moments)
hears p o k count from octets before now moments told here =
    hub_steps p o k k (Listening count) (Passing from octets count) (around before moments) (around now moments) (Hears from octets) here tt
    (ap (λ (n : Network). around n moments) told) refl

pub hears_none : (p : Settings) (o : Around) (k : HubKept) (count : ℕ) (before now : Network) (moments : Option (List ℕ)) → now ≡ with_answer before None
    → HubAt p o k (Listening count) (around before moments) → HubAt p o k Idle (around now moments)
hears_none p o k count before now moments told here =
    hub_steps p o k k (Listening count) Idle (around before moments) (around now moments) HearsNone here tt (ap (λ (n : Network). around n moments) told) refl

pub passes : (p : Settings) (o : Around) (k : HubKept) (count from : ℕ) (octets : List ℕ) (before now : Network) (moments : Option (List ℕ))
    → now ≡ with_offer before from octets → HubAt p o k (Passing from octets count) (around before moments)
    → HasPassed true p o k count (around now moments)
passes p o k count from octets before now moments told here =
    hub_steps p o k k (Passing from octets count) (after_pass (Passing 0 [] count)) (around before moments) (around now moments) Passes here tt
    (ap (λ (n : Network). around n moments) told) refl

pub hub_opens : (p : Settings) (o : Around) (k v : HubKept) (number step moment : ℕ) (network : Network) (before after : Option (List ℕ)) → k ≡ v
    → number ≡ v.turn + 1 → v.turn < v.p.turns → step ≡ v.p.step → IsNextMoment number step k.now moment before after
    → HubAt p o v Idle (around network before) → HubAt p o (record k { turn = number; now = moment }) (Listening 0) (around network after)
hub_opens p o k v number step moment network before after seen is more same next there =
    let here = subst (λ (u : HubKept). HubAt p o u Idle (around network before)) (sym seen) there in
    let due = subst (λ (u : HubKept). u.turn < u.p.turns) (sym seen) more in
    let one : number ≡ k.turn + 1 = is ∙ ap (λ (u : HubKept). u.turn + 1) (sym seen) in
    let by : step ≡ k.p.step = same ∙ ap (λ (u : HubKept). u.p.step) (sym seen) in
    hub_steps p o k (record k { turn = number; now = moment }) Idle (Listening 0) (around network before) (around network after) (Opens moment) here
    (refl, due)
    (record {
      moment = subst (λ s. IsNextMoment (k.turn + 1) s k.now moment before after) by (subst (λ n. IsNextMoment n step k.now moment before after) one next);
      rest = refl;
    })
    (ap (λ n. record (hub_of k Idle) { turn = n; now = moment; place = Listening 0 }) (sym one))

-- ---- takes of a turn

-- after so many takes of a turn
abbrev pub listens_from : ℕ → HubPlace
listens_from count = elim (count == most_takes) [ true ↦ Idle | false ↦ Listening count ]

not_most : (count : ℕ) → count < most_takes → (count == most_takes) ≡ false
not_most count lt = grind (arith, lt)

pub listens_more : (p : Settings) (o : Around) (k : HubKept) (count : ℕ) (now : Around) → count < most_takes → HubAt p o k (listens_from count) now
    → HubAt p o k (Listening count) now
listens_more p o k count now lt here =
    subst (λ b. HubAt p o k (elim b [ true ↦ Idle | false ↦ Listening count ]) now) (not_most count lt) here

pub passed_one : (more : Bool) (p : Settings) (o : Around) (k : HubKept) (count : ℕ) (now : Around) → more ≡ true → HasPassed more p o k count now
    → HubAt p o k (listens_from (count + 1)) now
passed_one more p o k count now is h = subst (λ b. HasPassed b p o k count now) is h

pub passed_none : (more : Bool) (p : Settings) (o : Around) (k : HubKept) (count : ℕ) (now : Around) → more ≡ false → HasPassed more p o k count now
    → HubAt p o k Idle now
passed_none more p o k count now is h = subst (λ b. HasPassed b p o k count now) is h
