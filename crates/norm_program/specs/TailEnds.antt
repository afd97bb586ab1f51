-- How a session ends whose options have a tail: after that turn its nodes go on over a network that loses nothing, until no watermark is open.
use Rattle.std.specs.Prelude.{◌≡◌, ◌⊎◌, ℕ, zero, suc, ◌+◌, ◌*◌, List, [], ◌∷◌, ◌++◌, length, fold, Bool, true, false, codes, Option, None, Some, is_some}
use Rattle.std.specs.Fmt.{decimal}
use Rattle.std.specs.List.{flat_map}
use Rattle.std.specs.Option.{option_map, option_to_list}
use Rattle.rand_pcg.specs.Lcg.{Lcg}
use Rattle.norm_base.specs.Faults.{one_more}
use Rattle.norm_base.specs.Settings.{Settings}
use Rattle.norm_base.specs.Told.{Pieces, gained}
use Rattle.norm_text.specs.Words.{line}
use Rattle.norm_script.specs.Commands.{Commands}
use Rattle.norm_send_rules.specs.SenderState.{SenderState, Watermark}
use Rattle.norm_send_rules.specs.Watermarks.{oldest, open_watermarks}
use Rattle.norm_safety.specs.Tail.{Tail, TailRefusal, NoRequest, Mode, Streams, Step, Pace, Flushes, tail_bound, tail_fault}
use Rattle.norm_safety.specs.World.{World}
use Rattle.norm_journal.specs.Judged.{Judged, is_whole}
use Rattle.norm_journal.specs.Lines.{up_line, news_line, end_line}
use Rattle.norm_journal.specs.Totals.{with_up, with_news}
use Rattle.norm_journal.specs.declared.totals.Totals.{Totals}
use Rattle.norm_session.specs.Pausing.{has_commands}
use Rattle.norm_session.specs.declared.pausing.Paused.{Paused}
use Rattle.norm_tail.specs.Ending.{tail_in}
use Rattle.norm_tail.specs.Steps.{steps_of, generator_after}
use Rattle.norm_tail.specs.declared.step.TailStep.{TailStep}
use Rattle.norm_tail.specs.declared.step.TailStep.TheVariants as step
use Rattle.norm_turns.specs.Telling.{left_by}
use Rattle.norm_turns.specs.declared.fault.SessionFault.{SessionFault}
use Rattle.norm_turns.specs.declared.fault.SessionFault.TheVariants as fault
use Rattle.norm_args.specs.declared.tasks.Options.{Options}
use Rattle.driven_nodes.specs.Writing.{LeavesLines}
use Rattle.norm_endings.specs.Outside.{Outside, Undisturbed, IsInput, FailedRead}
use Rattle.norm_endings.specs.declared.status.Ending.{Ending}
use Rattle.norm_endings.specs.declared.status.Ending.TheVariants.{Done, Memory, Refused, Read, Write, Fabric, Files, Absent, Tailed, TailRefused}
use Rattle.norm_endings.specs.declared.status.NoTail.{NoTail}
use Rattle.norm_endings.specs.declared.status.NoTail.TheVariants as refusal
use Rattle.norm_program.specs.Asked.{IsAsked, Members}
use Rattle.norm_program.specs.Boarded.{PausesScript}
use Rattle.norm_program.specs.Ends.{StoppedSession, RefusedLine, FailedNetwork, FailedFiles, AbsentFile, WantedMemory, EndsScript, session_span}

-- ---- tails

-- the line of a hand-up or a change, in the sender's instance, with the members that its book has as left
abbrev pub step_line : SenderState → TailStep → Option (List ℕ)
step_line s (step.Up node up) = Some (up_line node s.current.id up)
step_line s (step.News news) = news_line s.current.id (left_by s news) news

-- the lines of a tail, by what the sender knows as it ends
abbrev pub lines_of : SenderState → List TailStep → List (List ℕ)
lines_of s steps = flat_map (λ told. option_to_list (step_line s told)) steps

-- with a hand-up or a change counted
abbrev pub with_step : Totals → TailStep → Totals
with_step t (step.Up node up) = with_up up t
with_step t (step.News news) = with_news news t

-- The tails of a session so far: the world, the moment and the generator that they led to; their turns and their bounds, each added up; the
-- counts of the session with their steps; and the lines of these.
pub record TailsSoFar : Type 0 where
  pub world : World
  pub last : ℕ
  pub draws : Lcg
  pub turns : ℕ
  pub bound : ℕ
  pub totals : Totals
  pub lines : List (List ℕ)

-- no tails, after the turns of a session
abbrev pub no_tails : Judged → TailsSoFar
no_tails j = record { world = j.world; last = j.now; draws = j.draws; turns = 0; bound = 0; totals = j.totals; lines = [] }

-- with a tail
abbrev pub with_tail : Settings → Tail → TailsSoFar → TailsSoFar
with_tail p tail t = record {
  world = tail.course.world;
  last = t.last + tail.turns * p.step;
  draws = generator_after t.draws tail.course.used;
  turns = t.turns + tail.turns;
  bound = t.bound + tail_bound p t.world.sender;
  totals = fold with_step t.totals (steps_of tail.course.happened);
  lines = t.lines ++ lines_of tail.course.world.sender (steps_of tail.course.happened);
}

-- with the tail of a watermark, if there is one
abbrev pub with_tail_of : Settings → TailsSoFar → Option Watermark → TailsSoFar
with_tail_of p t None = t
with_tail_of p t (Some w) = with_tail p (tail_in p t.draws t.last t.world w.mark) t

-- one tail more, that of the oldest open watermark; or none, and why it is refused
abbrev pub tail_unless : Settings → TailsSoFar → Option TailRefusal → TailsSoFar × Option TailRefusal
tail_unless p t None = (with_tail_of p t (oldest t.world.sender), None)
tail_unless p t (Some why) = (t, Some why)

abbrev pub tail_once : Settings → TailsSoFar → TailsSoFar × Option TailRefusal
tail_once p t = tail_unless p t (tail_fault p t.world.sender)

-- a watermark is open
abbrev pub has_open : World → Bool
has_open w = is_some (oldest w.sender)

-- Tails while a watermark is open, so many at most; and why one was refused, if one was.
unfoldable pub tails_from : ℕ → Settings → TailsSoFar → TailsSoFar × Option TailRefusal
tails_from zero p t = (t, None)
tails_from (suc n) p t = elim (has_open t.world) [
  | true ↦ elim (tail_once p t).1 [ Some why ↦ (t, Some why) | None ↦ tails_from n p (tail_once p t).0 ]
  | false ↦ (t, None)
]

-- as many as there are open watermarks
abbrev pub tails_of : Settings → TailsSoFar → TailsSoFar × Option TailRefusal
tails_of p t = tails_from (length (open_watermarks t.world.sender)) p t

-- ---- what comes after the turns

-- why a tail is refused after a turn, with the numbers that decide
abbrev pub no_tail : Settings → ℕ → TailRefusal → NoTail
no_tail p turn NoRequest = refusal.NoRequest turn
no_tail p turn Mode = refusal.Mode
no_tail p turn (Streams count) = refusal.Streams count
no_tail p turn (Step step) = refusal.Step step p.gap
no_tail p turn (Pace symbols) = refusal.Pace symbols p.gap p.step p.grtt
no_tail p turn (Flushes count) = refusal.Flushes count p.k

-- tails, and why there is none or no further one, if there is a reason
abbrev pub Made : Type 0
Made = TailsSoFar × Option NoTail

abbrev pub refused_after : Settings → ℕ → TailsSoFar × Option TailRefusal → Made
refused_after p turn made = (made.0, option_map (no_tail p turn) made.1)

-- The tails of a session that is not whole: none if a command was not pulled or waits, nor if no watermark is open.
abbrev pub going_on_if : (waits opens : Bool) → Settings → ℕ → TailsSoFar → Made
going_on_if true opens p turn t = (t, Some (refusal.Waiting turn))
going_on_if false true p turn t = refused_after p turn (tails_of p t)
going_on_if false false p turn t = (t, Some (refusal.NoRequest turn))

abbrev pub going_on : Settings → Judged → Made
going_on p j = going_on_if (has_commands j) (has_open j.world) p j.turn (no_tails j)

-- the word of a refusal
abbrev pub word_of : NoTail → List ℕ
word_of (refusal.Waiting turn) = codes "waiting"
word_of (refusal.NoRequest turn) = codes "no-request"
word_of refusal.Mode = codes "mode"
word_of (refusal.Streams count) = codes "streams"
word_of (refusal.Step step gap) = codes "step"
word_of (refusal.Pace symbols gap step grtt) = codes "pace"
word_of (refusal.Flushes count k) = codes "flushes"

-- the last line: how many turns the tails took and might take, or the word of the refusal
abbrev pub last_words : (turns bound : ℕ) → Option NoTail → List (List ℕ)
last_words turns bound None = decimal turns ∷ decimal bound ∷ []
last_words turns bound (Some why) = codes "refused" ∷ word_of why ∷ []

abbrev pub last_line : (turns bound : ℕ) → Option NoTail → List ℕ
last_line turns bound why = line (codes "tail") (last_words turns bound why)

abbrev pub ending_of : (turns bound : ℕ) → Option NoTail → Ending
ending_of turns bound None = Tailed turns bound
ending_of turns bound (Some why) = TailRefused why

-- the lines of tails, the summary with all counts, and the last line
abbrev pub lines_with : Made → List (List ℕ)
lines_with t = t.0.lines ++ end_line t.0.totals ∷ last_line t.0.turns t.0.bound t.1 ∷ []

-- how a session ends that has this state after its turns
abbrev pub ending_if : Bool → Made → Ending
ending_if true t = Done
ending_if false t = ending_of t.0.turns t.0.bound t.1

abbrev pub ending_after : Settings → Judged → Ending
ending_after p j = ending_if (is_whole j) (going_on p j)

-- the lines that it then writes: if it is whole, the summary alone
abbrev pub lines_if : Bool → Totals → Made → List (List ℕ)
lines_if true totals t = end_line totals ∷ []
lines_if false totals t = lines_with t

abbrev pub lines_after : Settings → Judged → List (List ℕ)
lines_after p j = lines_if (is_whole j) j.totals (going_on p j)

-- ---- endings

-- A session was run as far as this turn, or to its end if that is before: the input is the script that is asked for, and what was done, with
-- what the network has of it and what is promised of it, is as `PausesSession` says. Its lines had then been written.
pub record PausedSession (options : Options) (until : ℕ) (before after : Outside) (written : Pieces) : Type 0 where
  pub text : List ℕ
  pub script : Commands
  pub paused : Paused
  pub input : IsInput text before.input after.input
  pub read : IsAsked (Members options) text script
  pub session : PausesScript script before.called.files until paused (session_span before after written)

-- the judge's state after its turns
abbrev pub state_of : {options : Options} {until : ℕ} {before after : Outside} {written : Pieces} → PausedSession options until before after written → Judged
state_of turned = turned.session.2.state

-- It went on to its end: its ending and the lines that it then wrote are a function of the state after its turns.
pub record RanTails (options : Options) (until : ℕ) (ending : Ending) (before after : Outside) : Type 0 where
  pub unsaid : Pieces
  pub turned : PausedSession options until before after unsaid
  pub ending_is : ending ≡ ending_after turned.script.profile (state_of turned)
  pub output : after.written ≡ gained unsaid (lines_after turned.script.profile (state_of turned))
  pub undisturbed : Undisturbed before after
  pub writes : after.write_faults ≡ before.write_faults

-- A fault came after its turns, and left whole lines of those that it was to write; and if a write failed, a front of the next.
pub record BrokenTails (options : Options) (until : ℕ) (failed : SessionFault) (before after : Outside) : Type 0 where
  pub unsaid : Pieces
  pub turned : PausedSession options until before after unsaid
  pub output : LeavesLines failed unsaid after.written (lines_after turned.script.profile (state_of turned))

-- There was no memory after the turns. No call failed.
pub record WantedTail (options : Options) (until : ℕ) (before after : Outside) : Type 0 where
  pub tails : BrokenTails options until fault.Memory before after
  pub undisturbed : Undisturbed before after
  pub writes : after.write_faults ≡ before.write_faults

-- One write failed, in the turns or after them.
pub record FailedTail (options : Options) (until : ℕ) (before after : Outside) : Type 0 where
  pub cause : after.write_faults ≡ one_more before.write_faults
  pub session : StoppedSession (Members options) fault.Write before after after.written ⊎ BrokenTails options until fault.Write before after
  pub undisturbed : Undisturbed before after

-- what each ending of a session with a tail says
abbrev pub EndsTails : Options → ℕ → Ending → Outside → Outside → Type 0
EndsTails options until Done before after = RanTails options until Done before after
EndsTails options until (Tailed turns bound) before after = RanTails options until (Tailed turns bound) before after
EndsTails options until (TailRefused why) before after = RanTails options until (TailRefused why) before after
EndsTails options until (Refused why) before after = RefusedLine (Members options) before after why
EndsTails options until Read before after = FailedRead before after
EndsTails options until Memory before after = WantedMemory (Members options) before after ⊎ WantedTail options until before after
EndsTails options until Write before after = FailedTail options until before after
EndsTails options until Fabric before after = FailedNetwork (Members options) before after
EndsTails options until Files before after = FailedFiles (Members options) before after
EndsTails options until (Absent name) before after = AbsentFile (Members options) name before after
EndsTails options until _ before after = ⊥

-- what each ending of a session says, with a tail after a turn or without one
abbrev pub EndsBeside : Option ℕ → Options → Ending → Outside → Outside → Type 0
EndsBeside None options ending before after = EndsScript (Members options) ending before after
EndsBeside (Some until) options ending before after = EndsTails options until ending before after

abbrev pub EndsSession : Options → Ending → Outside → Outside → Type 0
EndsSession options ending before after = EndsBeside options.tail options ending before after
