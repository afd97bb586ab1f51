-- The counts of a session of data and files are bounded by its script and its profile, and fit.
use Rattle.std.proofs.Common.{◌≡◌, ℕ, ◌*◌, ◌≤◌, List, [], ◌∷◌, length, Option, Some, refl, sym, ap, ◌∙◌, subst, arith}
use Rattle.std.specs.Prelude.{IsSome}
use Rattle.std.specs.List.{AllByRecursion}
use Rattle.std.proofs.lemmas.Nat.{mul-le}
use Rattle.norm_base.specs.Settings.{Settings}
use Rattle.norm_base.proofs.MemberLemmas.{member_laws}
use Rattle.norm_script.specs.Commands.{Commands}
use Rattle.norm_script.specs.Scripts.{CanRun}
use Rattle.norm_safety.specs.Events.{Event as WorldEvent}
use Rattle.norm_safety.specs.History.{happens, last_world}
use Rattle.norm_safety.specs.InTime.{accepted_in}
use Rattle.norm_safety.specs.OnceEach.{order_of}
use Rattle.norm_safety.specs.World.{World, world_opening}
use Rattle.norm_safety.specs.WorldLaws.{nodes_of}
use Rattle.norm_safety.specs.WorldStep.{world_step, run_from}
use Rattle.norm_safety.proofs.OnceLemmas.{OnceSoFar}
use Rattle.norm_safety.proofs.OnceRun.{once_in}
use Rattle.norm_safety.proofs.OrderRun.{run_of}
use Rattle.norm_safety.proofs.WorldLemmas.{world_laws}
use Rattle.norm_journal.specs.declared.event.Event.{Event}
use Rattle.norm_journal.specs.declared.totals.Totals.{Totals}
use Rattle.norm_journal.specs.Handed.{ups_in}
use Rattle.norm_journal.specs.Jobs.{Told, IsOfObjects}
use Rattle.norm_journal.specs.Judged.{Judged, judged_opening}
use Rattle.norm_journal.specs.Laws.{HasOctets}
use Rattle.norm_journal.specs.SessionRun.{judged, Begun}
use Rattle.norm_journal.specs.Totals.{CountsFit}
use Rattle.norm_journal.specs.WorldEvents.{world_events, TakesHonestly}
use Rattle.norm_journal.proofs.HandedLemmas.{says_the_hands}
use Rattle.norm_journal.proofs.LawfulLemmas.{begins_honestly}
use Rattle.norm_journal.proofs.ObjectLemmas.{commands_are_of_objects}
use Rattle.norm_journal.proofs.OctetLemmas.{commands_are_events}
use Rattle.norm_journal.proofs.ScriptLemmas.{scripts_named}
use Rattle.norm_journal.proofs.TimeLemmas.{begins_lawfully}
use Rattle.norm_journal.proofs.WorldLemmas.{moves_world}
use Rattle.norm_laws.specs.CountsFit.{IsBounded, CountsOfASessionFit}
use Rattle.norm_laws.proofs.CountEntries.{run_counted}
use Rattle.norm_laws.proofs.CountHandUps.{ups_many, entries, entries_few, ups_few}
use Rattle.norm_laws.proofs.WholeOrders.{WholeHolds, whole_run, order_whole, through_few}
use Rattle.norm_laws.proofs.CountHandUpsRun.{ups_of, run_handed}
use Rattle.norm_laws.proofs.CountOctets.{nothing_is_written, run_filled}
use Rattle.norm_laws.proofs.CountOutcomes.{Told as AreTold, opening_told}
use Rattle.norm_laws.proofs.CountOutcomesRun.{outcomes, run_told}

-- the last of the worlds is the run's
last_is_run : (p : Settings) (w : World) (events : List WorldEvent) → last_world w (happens p w events) ≡ run_from p w events
unfolding happens last_world
last_is_run p w [] = refl
last_is_run p w (e ∷ events) = last_is_run p (world_step p w e).0 events

is_some : {X : Type 0} (o : Option X) (x : X) → o ≡ Some x → IsSome o
is_some o x e = subst IsSome (sym e) refl

-- the bounds, of counts that have them
all_fit : (script : Commands) (t : Totals) → CanRun script → IsBounded script t → CountsFit t
all_fit script t is h =
    let few = is.few in
    let commands = h.commands in
    let most : t.objects ≤ 4096 = omega (arith, few, commands) in
    let window : script.profile.octets ≤ 16777216 = omega (arith, is.range.octets.1) in
    let nodes : script.profile.receivers ≤ 16 = omega (arith, is.range.receivers.1) in
    let octets = h.octets in
    let receivers = h.receivers in
    let most_octets = mul-le t.objects script.profile.octets 4096 16777216 most window in
    let most_handed = mul-le script.profile.receivers t.objects 16 4096 nodes most in
    record {
      objects = omega (arith, most);
      octets = omega (arith, octets, most_octets);
      handed = omega (arith, receivers, most_handed);
      lost = omega (arith, receivers, most_handed);
      satisfied = omega (arith, few, commands);
      expired = omega (arith, few, commands);
      cut = omega (arith, few, commands);
    }

-- A session of data and files, with honest takes.
module _ (script : Commands) (files : Told) (nodes : List ℕ) (events : List Event) (last : Judged) (is : CanRun script) (objects : AllByRecursion IsOfObjects script.lines)
    (begun : judged script files nodes events ≡ Some last) (octets : AllByRecursion HasOctets events) (honest : TakesHonestly (judged_opening script files nodes) events) where
  abbrev start : Judged
  start = judged_opening script files nodes

  abbrev happened : List WorldEvent
  happened = world_events start events

  begins : Begun script files nodes events
  begins = is_some (judged script files nodes events) last begun

  -- the world that the run leaves is the judge's
  world_is : last_world (world_opening script.profile) (happens script.profile (world_opening script.profile) happened) ≡ last.world
  world_is = last_is_run script.profile (world_opening script.profile) happened ∙ moves_world start last events begun

  once : OnceSoFar last.world.sender (accepted_in script.profile happened)
  once =
      let run = begins_honestly script files nodes events (scripts_named script is) begins honest in
      subst (λ (w : World). OnceSoFar w.sender (accepted_in script.profile happened)) world_is (once_in script.profile happened run.honest)

  -- what was handed up in an instance is no more than its order
  hands_few : (node id : ℕ) → length (ups_in events node id) ≤ length (order_of last.world.sender id)
  hands_few node id =
      let lawful = begins_lawfully script files nodes events is begins octets honest in
      let run = run_of script.profile is.range happened lawful (commands_are_events script files nodes events is begins octets) in
      let said = ap length (says_the_hands script files nodes events last begun node id) in
      let W : World → Type 0 = λ w. WholeHolds w.sender in
      let whole = subst W (sym (last_is_run script.profile (world_opening script.profile) happened))
      (whole_run script.profile happened (commands_are_of_objects script files nodes events objects begins)) in
      let few = through_few script.profile _ 0 _ _ (order_whole _ id whole) (run.holds.through node id) in
      let at : length (ups_in events node id) ≤ length (order_of (last_world (world_opening script.profile) (happens script.profile (world_opening script.profile) happened)).sender id) =
      omega (arith, said, few) in
      subst (λ (w : World). length (ups_in events node id) ≤ length (order_of w.sender id)) world_is at

  bounded : IsBounded script last.totals
  bounded =
      let counted : entries last.world.sender ≡ last.totals.objects = run_counted events start last begun refl in
      let told : AreTold (outcomes last.totals) last.world.sender = run_told events start last begun (opening_told script.profile) in
      let few = (begins_honestly script files nodes events (scripts_named script is) begins honest).few in
      let origins = once.few in
      let among = entries_few last.world.sender in
      let handed = run_handed events start last begun in
      let ups = ups_few last.world.sender (nodes_of (world_opening script.profile)) events once.ids (ups_of events start last begun) hands_few in
      let many : length (nodes_of (world_opening script.profile)) ≡ script.profile.receivers =
      ap length (world_laws.nodes script.profile []) ∙ member_laws.count script.profile script.profile.receivers in
      let most : ups_many events ≤ script.profile.receivers * last.totals.objects =
      subst (λ n. ups_many events ≤ n * last.totals.objects) many
      (subst (λ n. ups_many events ≤ length (nodes_of (world_opening script.profile)) * n) counted ups) in
      record {
        commands = omega (arith, counted, told, few, origins, among);
        octets = run_filled events start last begun (nothing_is_written script files nodes events objects begins) (omega arith);
        receivers = omega (arith, handed, most);
      }

pub law : CountsOfASessionFit
law script files nodes events last is objects begun octets honest =
    let within = bounded script files nodes events last is objects begun octets honest in (within, all_fit script last.totals is within)
