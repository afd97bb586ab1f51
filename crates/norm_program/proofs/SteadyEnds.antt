-- A session over a direct network that ends whole hands everything up; a steady one that does not had fewer turns than its script tells.
use Rattle.std.proofs.Common.{◌≡◌, ◌<◌, ◌≤◌, List, [], ◌∷◌, Bool, true, false, Option, None, Some, refl, sym, ap, ◌∙◌, ◌⊎◌, inl, inr}
use Rattle.std.specs.Prelude.{filter, cond, is_none, IfSome, ⊤}
use Rattle.std.specs.List.{AllByRecursion}
use Rattle.std.proofs.lemmas.Bool.{cases_lt}
use Rattle.norm_base.specs.Network.{Network}
use Rattle.norm_script.specs.Commands.{Commands}
use Rattle.norm_script.specs.Scripts.{CanRun}
use Rattle.norm_send_rules.specs.SenderState.{Watermark}
use Rattle.norm_send_rules.specs.Watermarks.{is_open}
use Rattle.norm_journal.specs.declared.event.Event.{Event}
use Rattle.norm_journal.specs.Jobs.{Told}
use Rattle.norm_journal.specs.Judged.{Judged}
use Rattle.norm_journal.specs.Laws.{HasOctets}
use Rattle.norm_journal.specs.SessionRun.{Whole, Spent, ending_of}
use Rattle.norm_journal.specs.WorldEvents.{TakesDirectly}
use Rattle.norm_journal.proofs.FrontLemmas.{whole_done}
use Rattle.norm_session.specs.Session.{OverDirect, end_of, session_opening}
use Rattle.norm_recovery.specs.Steady.{Steady, turns_of}
use Rattle.norm_recovery.specs.SteadyAsked.{IsOpenOrSatisfied}
use Rattle.norm_recovery.specs.SteadyPasses.{RunsDirectly}
use Rattle.norm_recovery.specs.SteadyTurns.{IsSatisfied}
use Rattle.norm_recovery.proofs.AskedLaw.{asked_once_or_twice}
use Rattle.norm_recovery.proofs.CountTurns.{turns_suffice}
use Rattle.norm_recovery.proofs.DirectHands.{direct_passes}
use Rattle.norm_program.specs.Asked.{Asked, Members, Sender, Mirror, is_alone}
use Rattle.norm_program.specs.Boarded.{RunsScript, Span}
use Rattle.norm_program.specs.SteadyEnds.{Serves, ServesOrLacks, TurnsTell}

-- watermarks of which none is open
all_satisfied : (ws : List Watermark) → filter is_open ws ≡ [] → AllByRecursion IsOpenOrSatisfied ws → AllByRecursion IsSatisfied ws
all_satisfied [] none all = tt
all_satisfied (w ∷ ws) none all = go (is_open w) refl none (λ rest. all_satisfied ws rest all.1)
  where
    some : (xs : List Watermark) → w ∷ xs ≡ [] → ⊥
    some xs e = cc

    satisfied : is_open w ≡ false → IsOpenOrSatisfied w → IsSatisfied w
    satisfied ended (inl is) = is
    satisfied ended (inr unended) = absurd (differ (sym ended ∙ ap is_none unended))
      where
        differ : false ≡ true → ⊥
        differ e = cc

    go : (b : Bool) → is_open w ≡ b → cond b (w ∷ filter is_open ws) (filter is_open ws) ≡ []
        → (filter is_open ws ≡ [] → AllByRecursion IsSatisfied ws) → IsSatisfied w × AllByRecursion IsSatisfied ws
    go true e none others = absurd (some (filter is_open ws) none)
    go false e none others = (satisfied e all.0, others none)

-- a session that ended whole serves all, however many turns it had
whole_serves : (script : Commands) (files : Told) (events : List Event) (last : Judged) → RunsDirectly script files events last
    → ending_of last ≡ Some Whole → Serves script files events last
whole_serves script files events last runs ended = record {
  handed = λ node member. direct_passes.whole script files events last runs ended node member;
  satisfied = λ steady.
      all_satisfied last.world.sender.watermarks (whole_done last ended).watermarks (asked_once_or_twice script files events last runs steady).ended;
}

-- what follows of a promise over a direct network
over_direct : (before started : Network) (P Q : Type 0) → (P → Q) → OverDirect before started P → OverDirect before started Q
over_direct before started P Q follows promise direct = first before.starts started.starts started.offered started.answers (promise direct)
  where
    If : {X : Type 0} → Option X → Type 0 → Type 0
    If o T = IfSome o (λ x. T)

    if_some : {X : Type 0} (o : Option X) (S T : Type 0) → (S → T) → If o S → If o T
    if_some None S T f h = tt
    if_some (Some x) S T f h = f h

    first : {A B C D : Type 0} (a : Option A) (b : Option B) (c : Option C) (d : Option D) → If a (If b (If c (If d P))) → If a (If b (If c (If d Q)))
    first a b c d h =
        if_some a (If b (If c (If d P))) (If b (If c (If d Q)))
        (if_some b (If c (If d P)) (If c (If d Q)) (if_some c (If d P) (If d Q) (if_some d P Q follows))) h

-- the script can be run, if a session of it is asked for
abbrev pub RunnableWith : Asked → Commands → Type 0
RunnableWith (Members options) script = CanRun script
RunnableWith _ script = ⊤

pub turns_tell : (a : Asked) (script : Commands) (files : Told) (journal : List Event) (whole : Bool) (o : Span)
    (run : RunsScript (is_alone a) script files journal whole o) → RunnableWith a script → TurnsTell a script files journal whole o run
turns_tell (Sender p) script files journal whole o run can = tt
turns_tell (Mirror folder) script files journal whole o run can = tt
turns_tell (Members options) script files journal whole o (unposted, posted, run) can =
    over_direct (o unposted posted).before run.started (TakesDirectly 0 (session_opening script files) journal)
    (AllByRecursion HasOctets journal → ServesOrLacks whole script files journal run.run.last)
    (λ direct octets. tells whole run.run.ended (record { can_run = can; leads = run.run.begun; octets = octets; direct = direct })) run.direct
  where
    tells : (b : Bool) → ending_of run.run.last ≡ Some (end_of b) → RunsDirectly script files journal run.run.last
        → ServesOrLacks b script files journal run.run.last
    tells true ended runs = whole_serves script files journal run.run.last runs ended
    tells false ended runs = lacks
      where
        lacks : Steady script files journal → script.profile.turns < turns_of script run.run.last
        lacks steady = go (cases_lt script.profile.turns (turns_of script run.run.last))
          where
            go : (script.profile.turns < turns_of script run.run.last) ⊎ (turns_of script run.run.last ≤ script.profile.turns)
                → script.profile.turns < turns_of script run.run.last
            go (inl lt) = lt
            go (inr enough) = absurd (turns_suffice script files journal run.run.last Spent runs steady enough ended)
