-- What each ending shows of failed calls, and so each status.
use Rattle.std.proofs.Common.{◌≡◌, ◌∙◌, sym, subst, arith, ℕ, inl, inr, List, [], ◌∷◌, Option, None, Some}
use Rattle.std.specs.Prelude.{⊤}
use Rattle.norm_base.specs.Faults.{one_more}
use Rattle.norm_base.specs.Settings.{Settings}
use Rattle.norm_base.specs.Told.{Pieces, gained}
use Rattle.norm_turns.specs.declared.fault.SessionFault.{SessionFault}
use Rattle.norm_args.specs.NodeTasks.{node_task_of}
use Rattle.norm_args.specs.Tasks.{task_of}
use Rattle.norm_args.specs.declared.node_tasks.NodeTask.{NodeTask}
use Rattle.norm_args.specs.declared.node_tasks.NodeTask.TheVariants.{Send, Receive, Hub, Gather, Relay}
use Rattle.norm_args.specs.declared.tasks.Options.{Options}
use Rattle.norm_args.specs.declared.tasks.Task.{Task}
use Rattle.norm_args.specs.declared.tasks.Task.TheVariants.{Session, Show, Generate, Mirror as ToMirror}
use Rattle.norm_endings.specs.Outside.{Outside, Says, absent_line}
use Rattle.norm_endings.specs.StatusOf.{status_of}
use Rattle.norm_endings.specs.declared.status.Ending.{Ending}
use Rattle.norm_endings.specs.declared.status.Ending.TheVariants.{Done, Datagram, Memory, Refused, Line, Profile, Read, Write, Fabric, Files, Absent, Spent, Tailed, TailRefused, Event, Command, Relayed, Unsendable, NotAccepted, NotSatisfied, Unlike}
use Rattle.norm_program.specs.Asked.{Asked, Members, Sender, with_instance}
use Rattle.norm_program.specs.Commands.{EndsNode, EndsTask, EndsAsked, EndsBy}
use Rattle.norm_program.specs.Ends.{EndsScript}
use Rattle.norm_program.specs.GatherEnds.{EndsAmong, EndsGather}
use Rattle.norm_program.specs.GenerateEnds.{GenerateEnds}
use Rattle.norm_program.specs.Laws.{NoneFailed, NamesAbsent, FourIsOfReads, FiveIsOfWrites, SixIsOfTheNetwork, SevenIsOfFiles}
use Rattle.norm_program.specs.MirrorEnds.{EndsMirror}
use Rattle.norm_program.specs.NodeEnds.{EndsUnloaded, EndsUnder, EndsBroken, BrokenReceiver, BrokenHub, EndsReceiver, EndsHub, EndsSender}
use Rattle.norm_program.specs.RelayEnds.{EndsBetween, EndsRelay}
use Rattle.norm_program.specs.ShowEnds.{ShowEnds}
use Rattle.norm_program.specs.TailEnds.{EndsTails, EndsBeside}

-- what an ending shows of the counts of failed calls, and of the line of a file that is not there
abbrev Shows : Ending → Outside → Outside → Type 0
Shows Read before after = after.read_faults ≡ one_more before.read_faults
Shows Write before after = after.write_faults ≡ one_more before.write_faults
Shows Fabric before after = after.called.network_faults ≡ one_more before.called.network_faults
Shows Files before after = after.called.file_faults ≡ one_more before.called.file_faults
Shows (Absent name) before after = (unsaid : Pieces) × Says unsaid after.written before.write_faults after.write_faults (absent_line name)
Shows _ before after = ⊤

-- ---- what each kind of ending shows

script_shows : (a : Asked) (ending : Ending) (before after : Outside) → EndsScript a ending before after → Shows ending before after
script_shows a Done before after h = tt
script_shows a Memory before after h = tt
script_shows a (Refused refusal) before after h = tt
script_shows a Read before after h = h.cause
script_shows a Write before after h = h.cause
script_shows a Fabric before after h = h.cause
script_shows a Files before after h = h.cause
script_shows a (Absent name) before after h = (h.unsaid, h.output)
script_shows a Spent before after h = tt
script_shows a _ before after h = absurd h

tails_shows : (options : Options) (until : ℕ) (ending : Ending) (before after : Outside) → EndsTails options until ending before after → Shows ending before after
tails_shows options until Done before after h = tt
tails_shows options until (Tailed turns bound) before after h = tt
tails_shows options until (TailRefused why) before after h = tt
tails_shows options until Memory before after h = tt
tails_shows options until (Refused refusal) before after h = tt
tails_shows options until Read before after h = h.cause
tails_shows options until Write before after h = h.cause
tails_shows options until Fabric before after h = h.cause
tails_shows options until Files before after h = h.cause
tails_shows options until (Absent name) before after h = (h.unsaid, h.output)
tails_shows options until _ before after h = absurd h

session_shows : (tail : Option ℕ) (options : Options) (ending : Ending) (before after : Outside) → EndsBeside tail options ending before after
    → Shows ending before after
session_shows None options ending before after h = script_shows (Members options) ending before after h
session_shows (Some until) options ending before after h = tails_shows options until ending before after h

show_shows : (ending : Ending) (before after : Outside) → ShowEnds ending before after → Shows ending before after
show_shows Done before after h = tt
show_shows Datagram before after h = tt
show_shows Memory before after h = tt
show_shows (Line n why) before after h = tt
show_shows Read before after h = h.cause
show_shows Write before after h = h.cause
show_shows _ before after h = absurd h

mirror_shows : (ending : Ending) (before after : Outside) → EndsMirror ending before after → Shows ending before after
mirror_shows Done before after h = tt
mirror_shows Memory before after h = tt
mirror_shows (Refused refusal) before after h = tt
mirror_shows Read before after h = h.cause
mirror_shows Write before after h = h.cause
mirror_shows Fabric before after h = h.0.cause
mirror_shows Files before after (inl h) = h.0.cause
mirror_shows Files before after (inr (inl h)) = h.cause
mirror_shows Files before after (inr (inr h)) = h.cause
mirror_shows (Absent name) before after (inl h) = (h.0.unsaid, h.0.output)
mirror_shows (Absent name) before after (inr h) = (before.written, h.output)
mirror_shows Spent before after h = tt
mirror_shows (Unsendable name len) before after h = tt
mirror_shows (NotAccepted what) before after h = tt
mirror_shows (NotSatisfied which) before after h = tt
mirror_shows (Unlike why) before after h = tt
mirror_shows _ before after h = absurd h

generate_shows : (m : ℕ) (ending : Ending) (before after : Outside) → GenerateEnds m ending before after → Shows ending before after
generate_shows m Done before after h = tt
generate_shows m Write before after h = h.cause
generate_shows m _ before after h = absurd h

broken_shows : (Stops : SessionFault → Outside → Type 0) (ending : Ending) (before after : Outside) → EndsBroken Stops ending before after
    → Shows ending before after
broken_shows Stops Memory before after h = tt
broken_shows Stops Write before after h = h.cause
broken_shows Stops Fabric before after h = h.cause
broken_shows Stops Files before after h = h.cause
broken_shows Stops _ before after h = absurd h

receiver_shows : (node : ℕ) (p : Settings) (ending : Ending) (before after : Outside) → EndsReceiver node p ending before after
    → Shows ending before after
receiver_shows node p Done before after h = tt
receiver_shows node p (Profile why) before after h = tt
receiver_shows node p ending before after h = broken_shows (BrokenReceiver p node before) ending before after h

hub_shows : (p : Settings) (ending : Ending) (before after : Outside) → EndsHub p ending before after → Shows ending before after
hub_shows p Done before after h = tt
hub_shows p ending before after h = broken_shows (BrokenHub p before) ending before after h

unloaded_shows : (path : List ℕ) (ending : Ending) (before after : Outside) → EndsUnloaded path ending before after → Shows ending before after
unloaded_shows path Memory before after h = tt
unloaded_shows path (Profile why) before after h = tt
unloaded_shows path Files before after h = h.cause
unloaded_shows path (Absent name) before after h =
    let P : List ℕ → Type 0 = λ x. Says before.written after.written before.write_faults after.write_faults (absent_line x) in
    (before.written, subst P (sym h.0) h.1.output)
unloaded_shows path _ before after h = absurd h

under_shows : (path : List ℕ) (Ends : Settings → Ending → Outside → Outside → Type 0) (ending : Ending) (before after : Outside)
    → ((p : Settings) → Ends p ending before after → Shows ending before after) → EndsUnder path Ends ending before after
    → Shows ending before after
under_shows path Ends ending before after each (inl h) = unloaded_shows path ending before after h
under_shows path Ends ending before after each (inr h) = each h.0 h.2

among_shows : (list : List (Settings × ℕ)) (ending : Ending) (before after : Outside) → EndsAmong list ending before after → Shows ending before after
among_shows list Done before after h = tt
among_shows list Memory before after h = tt
among_shows list (Line n why) before after h = tt
among_shows list (Profile why) before after h = tt
among_shows list Read before after h = h.cause
among_shows list Write before after h = h.cause
among_shows list _ before after h = absurd h

gather_shows : (pairs : List (List ℕ × ℕ)) (ending : Ending) (before after : Outside) → EndsGather pairs ending before after → Shows ending before after
gather_shows pairs ending before after (inl h) = unloaded_shows h.pair.0 ending before after h.unloaded
gather_shows pairs ending before after (inr h) = among_shows h.0 ending before after h.2

between_shows : (p : Settings) (node : ℕ) (q : Settings) (ending : Ending) (before after : Outside) → EndsBetween p node q ending before after
    → Shows ending before after
between_shows p node q Memory before after h = tt
between_shows p node q (Profile why) before after h = tt
between_shows p node q (Relayed lost patience) before after h = tt
between_shows p node q (Event n why) before after h = tt
between_shows p node q (Command fault) before after h = tt
between_shows p node q Read before after h = h.1.cause
between_shows p node q Write before after h = h.1.cause
between_shows p node q _ before after h = absurd h.1

relay_shows : (up : List ℕ) (node : ℕ) (down : List ℕ) (instance : Option ℕ) (ending : Ending) (before after : Outside)
    → EndsRelay up node down instance ending before after → Shows ending before after
relay_shows up node down instance ending before after h =
    under_shows up (λ p. EndsUnder down (λ q. EndsBetween p node (with_instance instance q))) ending before after
    (λ p below. under_shows down (λ q. EndsBetween p node (with_instance instance q)) ending before after
    (λ q ends. between_shows p node (with_instance instance q) ending before after ends) below) h

-- ---- what the ending of a call shows

task_shows : (task : Task) (ending : Ending) (before after : Outside) → EndsTask task ending before after → Shows ending before after
task_shows (Session options) ending before after h = session_shows options.tail options ending before after h
task_shows Show ending before after h = show_shows ending before after h
task_shows (Generate m) ending before after h = generate_shows m ending before after h
task_shows ToMirror ending before after h = mirror_shows ending before after h

node_shows : (task : Option NodeTask) (ending : Ending) (before after : Outside) → EndsNode task ending before after → Shows ending before after
node_shows None ending before after h =
    let P : Ending → Type 0 = λ e. Shows e before after in
    subst P (sym h.0) tt
node_shows (Some (Send path instance)) ending before after h =
    under_shows path (EndsSender instance) ending before after (λ p ends. script_shows (Sender (with_instance instance p)) ending before after ends) h
node_shows (Some (Receive path node)) ending before after h =
    under_shows path (EndsReceiver node) ending before after (λ p ends. receiver_shows node p ending before after ends) h
node_shows (Some (Hub path)) ending before after h =
    under_shows path EndsHub ending before after (λ p ends. hub_shows p ending before after ends) h
node_shows (Some (Gather pairs)) ending before after h = gather_shows pairs ending before after h
node_shows (Some (Relay up node down instance)) ending before after h = relay_shows up node down instance ending before after h

asked_shows : (task : Option Task) (other : Option NodeTask) (ending : Ending) (before after : Outside)
    → EndsAsked task other ending before after → Shows ending before after
asked_shows (Some task) other ending before after h = task_shows task ending before after h
asked_shows None other ending before after h = node_shows other ending before after h

by_shows : (words : List (List ℕ)) (ending : Ending) (before after : Outside) → EndsBy ending words before after → Shows ending before after
by_shows words ending before after (inl h) = asked_shows (task_of words) (node_task_of words) ending before after h
by_shows words ending before after (inr h) =
    let P : Ending → Type 0 = λ e. Shows e before after in
    subst P (sym h.0) tt

-- ---- what a status shows

-- a count below its end that rose did not stay
rose : (n m : ℕ) → m ≡ one_more n → NoneFailed n m → ⊥
rose n m more none = omega (arith, more, none.same, none.below)

not_four : (ending : Ending) (before after : Outside) → Shows ending before after → NoneFailed before.read_faults after.read_faults
    → status_of ending ≡ 4 → ⊥
not_four Read before after h none is = rose before.read_faults after.read_faults h none
not_four _ before after h none is = omega (arith, is)

not_five : (ending : Ending) (before after : Outside) → Shows ending before after → NoneFailed before.write_faults after.write_faults
    → status_of ending ≡ 5 → ⊥
not_five Write before after h none is = rose before.write_faults after.write_faults h none
not_five _ before after h none is = omega (arith, is)

not_six : (ending : Ending) (before after : Outside) → Shows ending before after → NoneFailed before.called.network_faults after.called.network_faults
    → status_of ending ≡ 6 → ⊥
not_six Fabric before after h none is = rose before.called.network_faults after.called.network_faults h none
not_six _ before after h none is = omega (arith, is)

-- a line that was said where no write failed is the last piece
said : (unsaid written : Pieces) (before now : ℕ) (line : List ℕ) → NoneFailed before now → Says unsaid written before now line
    → written ≡ gained unsaid (line ∷ [])
said unsaid written before now line none (inl h) = h.0
said unsaid written before now line none (inr h) = absurd (rose before now h.1 none)

names_absent : (ending : Ending) (before after : Outside) → Shows ending before after
    → NoneFailed before.called.file_faults after.called.file_faults → NoneFailed before.write_faults after.write_faults
    → status_of ending ≡ 7 → NamesAbsent after
names_absent Files before after h files writes is = absurd (rose before.called.file_faults after.called.file_faults h files)
names_absent (Absent name) before after h files writes is = record {
  name = name;
  unsaid = h.0;
  output = said h.0 after.written before.write_faults after.write_faults (absent_line name) writes h.1;
}
names_absent _ before after h files writes is = absurd (omega (arith, is))

pub four_is_of_reads : FourIsOfReads
four_is_of_reads status words before after ends none is =
    not_four ends.ending before after (by_shows words ends.ending before after ends.holds) none (sym ends.is ∙ is)

pub five_is_of_writes : FiveIsOfWrites
five_is_of_writes status words before after ends none is =
    not_five ends.ending before after (by_shows words ends.ending before after ends.holds) none (sym ends.is ∙ is)

pub six_is_of_the_network : SixIsOfTheNetwork
six_is_of_the_network status words before after ends none is =
    not_six ends.ending before after (by_shows words ends.ending before after ends.holds) none (sym ends.is ∙ is)

pub seven_is_of_files : SevenIsOfFiles
seven_is_of_files status words before after ends files writes is =
    names_absent ends.ending before after (by_shows words ends.ending before after ends.holds) files writes (sym ends.is ∙ is)
