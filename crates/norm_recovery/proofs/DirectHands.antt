-- A session over a direct network that ends whole handed everything up.
use Rattle.std.proofs.Common.{◌≡◌, ℕ, zero, suc, ◌<◌, List, [], ◌∷◌, ◌++◌, length, map, Bool, true, false, cond, Option, None, Some, refl, sym, ap, subst, ◌∙◌, arith, inl, inr}
use Rattle.std.specs.Prelude.{◌==◌, ◌≢◌, ◌⊎◌, not, filter, slice_get, Contains, IsSome, IfSome}
use Rattle.std.specs.List.{AllByRecursion}
use Rattle.std.proofs.lemmas.Bool.Decides.{Decides-eqb}
use Rattle.std.proofs.lemmas.Option.{none-some, same_Some, option_and_then_some}
use Rattle.norm_base.specs.Copies.{copies_for, copies_in}
use Rattle.norm_base.specs.Members.{members_of, receivers_of}
use Rattle.norm_base.specs.Settings.{Settings, InRange}
use Rattle.norm_ext.specs.Written.{Written}
use Rattle.norm_receive_rules.specs.ReceiverState.{receiver_opening}
use Rattle.norm_script.specs.Commands.{Commands}
use Rattle.norm_send_rules.specs.SenderState.{Instance}
use Rattle.norm_send_rules.specs.Ticking.{is_idle}
use Rattle.norm_safety.specs.Events.{Event as WorldEvent}
use Rattle.norm_safety.specs.World.{World, world_opening}
use Rattle.norm_safety.specs.WorldStep.{run}
use Rattle.norm_safety.proofs.EntryLemmas.{clash}
use Rattle.norm_safety.proofs.OrderRun.{opening_world}
use Rattle.norm_safety.proofs.WorldLemmas.{world_laws}
use Rattle.norm_journal.specs.declared.event.Event.{Event}
use Rattle.norm_journal.specs.declared.event.Event.TheVariants as event
use Rattle.norm_journal.specs.Accepting.{accepts, judged_from}
use Rattle.norm_journal.specs.Direct.{IsDirect, taken_with}
use Rattle.norm_journal.specs.Handed.{ups_in}
use Rattle.norm_journal.specs.Honest.{IsHonest}
use Rattle.norm_journal.specs.Jobs.{Told}
use Rattle.norm_journal.specs.Judged.{Judged}
use Rattle.norm_journal.specs.Laws.{octets_given}
use Rattle.norm_journal.specs.Places.{Place, Starting, Between, Pulling, Giving, Again, Sending, Offering, Taking, Handing, Over}
use Rattle.norm_journal.specs.SessionRun.{Whole, ending_of, ends_in}
use Rattle.norm_journal.specs.WorldEvents.{world_events, TakesHonestly, TakesDirectly}
use Rattle.norm_journal.proofs.FrontLemmas.{whole_done}
use Rattle.norm_journal.proofs.HandedLemmas.{says_the_hands}
use Rattle.norm_journal.proofs.LawfulLemmas.{begins_honestly}
use Rattle.norm_journal.proofs.OctetLemmas.{commands_are_events}
use Rattle.norm_journal.proofs.ScriptLemmas.{scripts_named}
use Rattle.norm_journal.proofs.TimeLemmas.{begins_lawfully}
use Rattle.norm_journal.proofs.WorldLemmas.{event_moves, moves_world}
use Rattle.norm_laws.specs.HandedUp.{has_heard, is_passed_on, everything, PassesOn}
use Rattle.norm_laws.proofs.AllHanded.{all_is_handed_up}
use Rattle.norm_recovery.specs.SteadyPasses.{IsBeforeTick, session_opening, RunsDirectly, DirectPasses}
use Rattle.norm_recovery.proofs.DirectTakes.{begins_waiting}
use Rattle.norm_recovery.proofs.DirectKept.{Rests, Rested}
use Rattle.norm_recovery.proofs.DirectPasses.{Comes, Walks, passes_on_to, walk_passes, calm_passed}

-- ---- a direct network is honest

-- what is found in a mapped filter passes the test
passed_test : {X Y : Type 0} (g : X → Y) (test : X → Bool) (ms : List X) (n : ℕ) (z : Y) → slice_get (map g (filter test ms)) n ≡ Some z → (m : X) × (test m ≡ true) × (g m ≡ z)
passed_test {X} {Y} g test [] n z e = absurd (none-some z e)
passed_test {X} {Y} g test (m ∷ ms) n z e = go (test m) refl n e (λ k more. passed_test g test ms k z more)
  where
    Found : Type 0
    Found = (m : X) × (test m ≡ true) × (g m ≡ z)

    go : (b : Bool) → test m ≡ b → (n : ℕ) → slice_get (map g (cond b (m ∷ filter test ms) (filter test ms))) n ≡ Some z
        → ((k : ℕ) → slice_get (map g (filter test ms)) k ≡ Some z → Found) → Found
    go true is zero e more = (m, is, same_Some (g m) z e)
    go true is (suc n) e more = more n e
    go false is n e more = more n e

slice_either : {X : Type 0} (xs ys : List X) (n : ℕ) (z : X) → slice_get (xs ++ ys) n ≡ Some z → (slice_get xs n ≡ Some z) ⊎ ((k : ℕ) × (slice_get ys k ≡ Some z))
slice_either [] ys n z e = inr (n, e)
slice_either (x ∷ xs) ys zero z e = inl e
slice_either (x ∷ xs) ys (suc n) z e = slice_either xs ys n z e

-- the offer of which a copy is
record IsCopy (offered : List (ℕ × Written)) (to : ℕ) (octets : List ℕ) : Type 0 where
  offer : ℕ × Written
  there : Contains offered offer
  other : offer.0 ≢ to
  same : offer.1.octets ≡ octets

copy_offered : (members : List ℕ) (offered : List (ℕ × Written)) (n to : ℕ) (octets : List ℕ)
    → slice_get (copies_in members (map octets_given offered)) n ≡ Some (to, octets) → IsCopy offered to octets
copy_offered members [] n to octets e = absurd (none-some _ e)
copy_offered members (o ∷ offered) n to octets e =
    go (slice_either (copies_for members (o.0, o.1.octets)) (copies_in members (map octets_given offered)) n (to, octets) e)
    (λ k more. copy_offered members offered k to octets more)
  where
    Rest : List (ℕ × List ℕ)
    Rest = copies_in members (map octets_given offered)

    first : slice_get (copies_for members (o.0, o.1.octets)) n ≡ Some (to, octets) → IsCopy (o ∷ offered) to octets
    first e =
        let found = passed_test {X = ℕ} {Y = ℕ × List ℕ} (λ (m : ℕ). (m, o.1.octets)) (λ m. not (m == o.0)) members n (to, octets) e in
        let is : found.0 ≡ to = ap (λ (q : ℕ × List ℕ). q.0) found.2 in
        record {
          offer = o;
          there = (0, (let h : 0 < suc (length offered) = omega arith in h), refl);
          other = λ same. clash (sym (unequal found.0 found.1) ∙ (Decides-eqb found.0 o.0).1 (is ∙ sym same));
          same = ap (λ (q : ℕ × List ℕ). q.1) found.2;
        }
      where
        unequal : (m : ℕ) → not (m == o.0) ≡ true → (m == o.0) ≡ false
        unequal m e = by (m == o.0) e
          where
            by : (b : Bool) → not b ≡ true → b ≡ false
            by true e = absurd (clash e)
            by false e = refl

    go : (slice_get (copies_for members (o.0, o.1.octets)) n ≡ Some (to, octets)) ⊎ ((k : ℕ) × (slice_get Rest k ≡ Some (to, octets)))
        → ((k : ℕ) → slice_get Rest k ≡ Some (to, octets) → IsCopy offered to octets) → IsCopy (o ∷ offered) to octets
    go (inl e) more = first e
    go (inr (k, e)) more =
        let c = more k e in
        record { offer = c.offer; there = later_there c.offer c.there; other = c.other; same = c.same }
      where
        later_there : (x : ℕ × Written) → Contains offered x → Contains (o ∷ offered) x
        later_there x (i, lt, is) = (suc i, (let h : suc i < suc (length offered) = omega (arith, lt) in h), is)

take_honest : (taken : ℕ) (j : Judged) (e : Event) → IsDirect taken j e → IsHonest j e
take_honest taken j (event.Took to octets) direct =
    let c = copy_offered (members_of j.profile) j.world.offered taken to octets direct in
    record { from = c.offer.0; datagram = c.offer.1; other = c.other; offered = c.there; same = c.same }
take_honest taken j event.Start direct = tt
take_honest taken j (event.Turn turn now) direct = tt
take_honest taken j (event.Pull by) direct = tt
take_honest taken j (event.Job by job gave) direct = tt
take_honest taken j (event.Length by name len fault) direct = tt
take_honest taken j (event.Tick node sent) direct = tt
take_honest taken j (event.Offer from octets) direct = tt
take_honest taken j event.Empty direct = tt
take_honest taken j (event.Up node instance up) direct = tt
take_honest taken j (event.News news) direct = tt
take_honest taken j event.End direct = tt

if_some : {X : Type 0} (P Q : X → Type 0) (o : Option X) → ((x : X) → P x → Q x) → IfSome o P → IfSome o Q
if_some P Q None each h = tt
if_some P Q (Some x) each h = each x h

pub takes_honestly : (events : List Event) (taken : ℕ) (j : Judged) → TakesDirectly taken j events → TakesHonestly j events
unfolding TakesDirectly TakesHonestly
takes_honestly [] taken j direct = tt
takes_honestly (e ∷ events) taken j direct = (
  take_honest taken j e direct.0,
  if_some (λ next. TakesDirectly (taken_with taken e) next events) (λ next. TakesHonestly next events) (accepts j e)
      (λ next more. takes_honestly events (taken_with taken e) next more) direct.1,
)

-- ---- as a session begins

rested_opening : (p : Settings) → Rested p (world_opening p) (record { last = None; heard = [] }) []
rested_opening p = record { heard = each (receivers_of p p.receivers); taken = receivers (receivers_of p p.receivers); own = tt }
  where
    each : (nodes : List ℕ) → AllByRecursion (λ node. has_heard (record { last = None; heard = [] }) node ≡ true) nodes
    each [] = tt
    each (n ∷ nodes) = (refl, each nodes)

    receivers : (nodes : List ℕ) → AllByRecursion (Rests []) (map receiver_opening nodes)
    receivers [] = tt
    receivers (n ∷ nodes) = (inr refl, receivers nodes)

pub begins_walking : (script : Commands) (files : Told) → InRange script.profile → Walks [] [] 0 (record { last = None; heard = [] }) (session_opening script files)
begins_walking script files range = record {
  range = range;
  waits = begins_waiting script files;
  holds = opening_world script.profile range;
  nodes = world_laws.nodes script.profile [];
  at = rested_opening script.profile;
}

pub begun_is : (script : Commands) (files : Told) (events : List Event) (last : Judged) (o : Option Judged) → o ≡ Some last → IsSome o
begun_is script files events last None e = absurd (none-some last e)
begun_is script files events last (Some j) e = refl

pub coming : (script : Commands) (files : Told) (events : List Event) (last : Judged) → RunsDirectly script files events last
    → Comes script.profile (world_opening script.profile) [] (world_events (session_opening script files) events)
coming script files events last runs =
    let nodes : List ℕ = receivers_of script.profile script.profile.receivers in
    let honest = takes_honestly events 0 (session_opening script files) runs.direct in
    let begun = begun_is script files events last _ runs.leads in
    let few = (begins_honestly script files nodes events (scripts_named script runs.can_run) begun honest).few in
    let most = runs.can_run.few in
    record {
      lawful = begins_lawfully script files nodes events runs.can_run begun runs.octets honest;
      jobs = commands_are_events script files nodes events runs.can_run begun runs.octets;
      few = omega (arith, few, most);
    }

passes : (script : Commands) (files : Told) (events : List Event) (last : Judged) → RunsDirectly script files events last → IsBeforeTick last.place
    → PassesOn script.profile (world_events (session_opening script files) events)
passes script files events last runs calm =
    passes_on_to script.profile (world_opening script.profile) (record { last = None; heard = [] }) (world_events (session_opening script files) events)
    (walk_passes (λ w x. is_passed_on w x ≡ true) events 0 (session_opening script files) last runs.leads runs.direct
    (λ past accepted taken x k. calm_passed past accepted taken x last calm k) [] [] (record { last = None; heard = [] }) (coming script files events last runs)
    (begins_walking script files runs.can_run.range))

-- ---- the end

-- the profile stays
pub profile_stays : (events : List Event) (j last : Judged) → judged_from j events ≡ Some last → j.profile ≡ last.profile
unfolding judged_from
profile_stays [] j last is = ap (λ (n : Judged). n.profile) (same_Some j last is)
profile_stays (e ∷ events) j last is =
    option_and_then_some (λ next. judged_from next events) (accepts j e) last is (λ next comes more. (event_moves j e next comes).0 ∙ profile_stays events next last more)

ends_calm : (place : Place) (j : Judged) → ends_in place j ≡ Some Whole → IsBeforeTick place
ends_calm (Taking taken) j e = none-some Whole e
ends_calm (Handing node nodes) j e = none-some Whole e
ends_calm (Offering node datagram next) j e = none-some Whole e
ends_calm Starting j e = tt
ends_calm Between j e = tt
ends_calm Pulling j e = tt
ends_calm (Giving line) j e = tt
ends_calm (Again line) j e = tt
ends_calm Sending j e = tt
ends_calm Over j e = tt

whole : (script : Commands) (files : Told) (events : List Event) (last : Judged) → RunsDirectly script files events last → ending_of last ≡ Some Whole
    → (node : ℕ) → Contains (receivers_of script.profile script.profile.receivers) node
    → let i : Instance = last.world.sender.current in ups_in events node i.id ≡ everything script.profile i.order
whole script files events last runs ended node member =
    let p : Settings = script.profile in
    let happened : List WorldEvent = world_events (session_opening script files) events in
    let c = coming script files events last runs in
    let world : run p happened ≡ last.world = moves_world (session_opening script files) last events runs.leads in
    let idle = (whole_done last ended).idle in
    let own : (p ≡ last.profile) = profile_stays events (session_opening script files) last runs.leads in
    let I : Settings → World → Type 0 = λ q w. is_idle q w.sender ≡ true in
    let handed = all_is_handed_up p runs.can_run.range happened c.lawful c.jobs (passes script files events last runs (ends_calm last.place last ended))
    (subst (λ (w : World). I p w) (sym world) (subst (λ (q : Settings). I q last.world) (sym own) idle)) node member in
    let H : World → Type 0 = λ w. ups_in events node w.sender.current.id ≡ everything p w.sender.current.order in
    subst H world (says_the_hands script files (receivers_of p p.receivers) events last runs.leads node (run p happened).sender.current.id ∙ handed)

pub direct_passes : DirectPasses
direct_passes = record {
  honest = λ script files events direct. takes_honestly events 0 (session_opening script files) direct;
  passes = passes;
  whole = whole;
}
