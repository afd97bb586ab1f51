-- How a session with a tail ends the program.
use Rattle.std.proofs.Common.{◌≡◌, ◌∙◌, sym, ap, subst, ℕ, List, Bool, true, false, Option, None, Some, Result, Err, inl, inr}
use Rattle.std.specs.Prelude.{⊤, IfSome}
use Rattle.norm_base.specs.Faults.{one_more}
use Rattle.norm_base.specs.Keys.{IsValue}
use Rattle.norm_base.specs.declared.key.Key.TheVariants as key
use Rattle.norm_base.specs.Settings.{Settings}
use Rattle.norm_base.specs.Told.{Pieces, gained}
use Rattle.norm_script.specs.Commands.{Commands}
use Rattle.norm_journal.specs.Jobs.{Told}
use Rattle.norm_journal.specs.Judged.{Judged, is_whole}
use Rattle.norm_journal.proofs.WorldLemmas.{moves_world}
use Rattle.norm_safety.specs.WorldStep.{run}
use Rattle.norm_session.specs.Pausing.{PausesSession}
use Rattle.norm_session.specs.Session.{session_opening, session_events}
use Rattle.norm_session.specs.Turning.{Span}
use Rattle.norm_session.specs.declared.pausing.Paused.{Paused}
use Rattle.norm_turns.specs.Causes.{Counted, HasCause, WriteCause, counted}
use Rattle.norm_turns.specs.declared.fault.SessionFault.{SessionFault}
use Rattle.norm_turns.specs.declared.fault.SessionFault.TheVariants as fault
use Rattle.norm_world.specs.WorldKept.{StandsFor}
use Rattle.norm_args.specs.Fits.{FitsOptions}
use Rattle.norm_args.specs.declared.tasks.Options.{Options}
use Rattle.driven_nodes.specs.Writing.{LeavesLines}
use Rattle.norm_endings.specs.Outside.{Outside, Called, outside}
use Rattle.norm_endings.specs.Endings.{IsStoppedEnding}
use Rattle.norm_endings.specs.declared.status.Ending.{Ending}
use Rattle.norm_endings.specs.declared.status.Ending.TheVariants.{Done, Memory, Refused, Read, Write, Absent, Tailed, TailRefused}
use Rattle.norm_endings.specs.declared.status.NoTail.{NoTail}
use Rattle.norm_program.specs.Asked.{Asked, Members}
use Rattle.norm_program.specs.Boarded.{PausesScript, span}
use Rattle.norm_program.specs.Ends.{EndsScript, EndsUnrun, Prepared}
use Rattle.norm_program.specs.TailEnds.{Made, PausedSession, RanTails, EndsTails, EndsBeside, EndsSession, ending_of, ending_if, ending_after, lines_after, going_on}
use Rattle.norm_program.specs.Tailing.{MayGoOn, IsTailsEnding}
use Rattle.norm_program.proofs.EndingLemmas.{Stopped, counts, stopped_ends, stopped_last}

-- ---- the ending of what comes after the turns

-- an ending that tails may have
abbrev IsOfTails : Ending → Type 0
IsOfTails Done = ⊤
IsOfTails (Tailed turns bound) = ⊤
IsOfTails (TailRefused why) = ⊤
IsOfTails _ = ⊥

of_tails : (p : Settings) (j : Judged) → IsOfTails (ending_after p j)
of_tails p j = go (is_whole j) (going_on p j)
  where
    said : (turns bound : ℕ) (why : Option NoTail) → IsOfTails (ending_of turns bound why)
    said turns bound None = tt
    said turns bound (Some why) = tt

    go : (b : Bool) (t : Made) → IsOfTails (ending_if b t)
    go true t = tt
    go false t = said t.0.turns t.0.bound t.1

is_of_tails : (ending : Ending) (p : Settings) (j : Judged) → ending ≡ ending_after p j → IsOfTails ending
is_of_tails ending p j is = subst IsOfTails (sym is) (of_tails p j)

pub tails_written : (ending : Ending) (p : Settings) (j : Judged) (u w : Pieces) (before after : ℕ)
    → (ending ≡ ending_after p j) × (w ≡ gained u (lines_after p j)) → after ≡ before → IsTailsEnding ending p j u w before after
tails_written Memory p j u w before after h count = absurd (is_of_tails Memory p j h.0)
tails_written Write p j u w before after h count = absurd (is_of_tails Write p j h.0)
tails_written _ p j u w before after h count = (h.0, h.1, count)

pub tails_broken : {T : Type 0} (result : Result T SessionFault) (f : SessionFault) (ending : Ending) (p : Settings) (j : Judged) (u v w : Pieces) (before between after : ℕ)
    → result ≡ Err f → LeavesLines f u v (lines_after p j) → WriteCause result before between → IsStoppedEnding f ending v w between after
    → IsTailsEnding ending p j u w before after
tails_broken result fault.Memory ending p j u v w before between after is leaves cause h =
    let why = subst (λ r. HasCause r (counted before 0 0) (counted between 0 0)) is (cause 0 0) in
    subst (λ e. IsTailsEnding e p j u w before after) (sym h.0)
    (subst (λ x. LeavesLines fault.Memory u x (lines_after p j)) (sym h.1) leaves, h.2 ∙ ap (λ (c : Counted). c.output) why)
tails_broken result fault.Write ending p j u v w before between after is leaves cause h =
    let why = subst (λ r. HasCause r (counted before 0 0) (counted between 0 0)) is (cause 0 0) in
    subst (λ e. IsTailsEnding e p j u w before after) (sym h.0)
    (subst (λ x. LeavesLines fault.Write u x (lines_after p j)) (sym h.1) leaves, h.2 ∙ ap (λ (c : Counted). c.output) why)
tails_broken result fault.Fabric ending p j u v w before between after is leaves cause h = absurd leaves
tails_broken result fault.Files ending p j u v w before between after is leaves cause h = absurd leaves
tails_broken result (fault.Absent name) ending p j u v w before between after is leaves cause h = absurd leaves

-- ---- the turns

-- the nodes stand for the world of the judge's state
pub stands_last : (script : Commands) (files : Told) (until : ℕ) (p : Paused) (o : Span) (s : PausesSession script files until p o) → StandsFor p.world s.state.world
stands_last script files until p o s =
    subst (λ w. StandsFor p.world w) (moves_world (session_opening script files) s.state p.journal s.begun)
    (subst (λ (q : Settings). StandsFor p.world (run q (session_events script files p.journal))) s.profile s.nodes)

pub may_tail : (script : Commands) (files : Told) (until : ℕ) (p : Paused) (o : Span) → PausesSession script files until p o → MayGoOn script.profile p.world
may_tail script files until p o s = record { profile = s.profile; ready = s.ready; world = s.state.world; stands = stands_last script files until p o s }

-- the turn after which a tail begins
pub turn_given : (o : Options) (until : ℕ) → FitsOptions o → o.tail ≡ Some until → IsValue key.Turns until
turn_given o until fits is = subst (λ t. IfSome t (IsValue key.Turns)) is fits.tail

-- ---- the whole

-- what ends the program before a session says the same of one with a tail
early_tails : (ending : Ending) (o : Options) (until : ℕ) (before after : Outside) → EndsUnrun (Members o) ending before after → EndsTails o until ending before after
early_tails (Refused refusal) o until before after h = h
early_tails Read o until before after h = h
early_tails Memory o until before after h = inl h
early_tails _ o until before after h = absurd h

pub early_script : (ending : Ending) (a : Asked) (before after : Outside) → EndsUnrun a ending before after → EndsScript a ending before after
early_script (Refused refusal) a before after h = h
early_script Read a before after h = h
early_script Memory a before after h = h
early_script _ a before after h = absurd h

pub early_session : (ending : Ending) (o : Options) (before after : Outside) → EndsUnrun (Members o) ending before after → EndsSession o ending before after
early_session ending o before after h = go o.tail
  where
    go : (tail : Option ℕ) → EndsBeside tail o ending before after
    go (Some until) = early_tails ending o until before after h
    go None = early_script ending (Members o) before after h

-- without a tail, and with one
pub plain_session : (ending : Ending) (o : Options) (before after : Outside) → o.tail ≡ None → EndsScript (Members o) ending before after → EndsSession o ending before after
plain_session ending o before after is h = subst (λ tail. EndsBeside tail o ending before after) (sym is) h

pub tailed_session : (ending : Ending) (o : Options) (until : ℕ) (before after : Outside) → o.tail ≡ Some until → EndsTails o until ending before after
    → EndsSession o ending before after
tailed_session ending o until before after is h = subst (λ tail. EndsBeside tail o ending before after) (sym is) h

-- the input before and after (i, j), the output's pieces (u, v, w), the counts of failed reads (r, s) and writes (k, l, t), and what only a session
-- calls (c, d)

-- of a session that was run as far as this turn, up to when this was written
abbrev PausedAt : Commands → ℕ → Paused → (c d : Called) → (u v : Pieces) → Type 0
PausedAt script until p c d u v = PausesScript script c.files until p (span c.network d.network u v c.moments d.moments)

paused_session : (o : Options) (until : ℕ) (script : Commands) (p : Paused) (i j : Option (List ℕ)) (u v w : Pieces) (r s k t : ℕ) (c d : Called)
    → Prepared (Members o) script i j → PausedAt script until p c d u v → PausedSession o until (outside i u r k c) (outside j w s t d) v
paused_session o until script p i j u v w r s k t c d h runs =
    record { text = h.text; script = script; paused = p; input = h.input; read = h.read; session = runs }

pub tails_end : (ending : Ending) (o : Options) (until : ℕ) (script : Commands) (p : Paused) (i j : Option (List ℕ)) (u v w : Pieces) (r s k l t : ℕ) (c d : Called)
    → Prepared (Members o) script i j → s ≡ r → (runs : PausedAt script until p c d u v) → counts l d ≡ counts k c
    → IsTailsEnding ending script.profile runs.2.state v w l t → EndsTails o until ending (outside i u r k c) (outside j w s t d)
unfolding paused_session
tails_end Memory o until script p i j u v w r s k l t c d h reads runs cause ends = inr (record {
  tails = record { unsaid = v; turned = paused_session o until script p i j u v w r s k t c d h runs; output = ends.0 };
  undisturbed = record { reads = reads; calls = ap (λ n. n.network) cause; files = ap (λ n. n.files) cause };
  writes = ends.1 ∙ ap (λ n. n.output) cause;
})
tails_end Write o until script p i j u v w r s k l t c d h reads runs cause ends = record {
  cause = ends.1 ∙ ap (λ n. one_more n.output) cause;
  session = inr (record { unsaid = v; turned = paused_session o until script p i j u v w r s k t c d h runs; output = ends.0 });
  undisturbed = record { reads = reads; calls = ap (λ n. n.network) cause; files = ap (λ n. n.files) cause };
}
tails_end ending o until script p i j u v w r s k l t c d h reads runs cause ends = go ending (is_of_tails ending script.profile runs.2.state ends.0) (record {
  unsaid = v;
  turned = paused_session o until script p i j u v w r s k t c d h runs;
  ending_is = ends.0;
  output = ends.1;
  undisturbed = record { reads = reads; calls = ap (λ n. n.network) cause; files = ap (λ n. n.files) cause };
  writes = ends.2 ∙ ap (λ n. n.output) cause;
})
  where
    go : (e : Ending) → IsOfTails e → RanTails o until e (outside i u r k c) (outside j w s t d) → EndsTails o until e (outside i u r k c) (outside j w s t d)
    go Done is ran = ran
    go (Tailed turns bound) is ran = ran
    go (TailRefused why) is ran = ran
    go _ is ran = absurd is

-- a fault stopped the turns: what is left is as without a tail
pub tail_stopped : (T : Type 0) (stop : SessionFault) (ending : Ending) (o : Options) (until : ℕ) (script : Commands) (i j : Option (List ℕ)) (u v w : Pieces)
    (r s k l t : ℕ) (c d : Called) → Prepared (Members o) script i j → s ≡ r → Stopped false stop script c d u v
    → HasCause {T = T} (Err stop) (counts k c) (counts l d) → IsStoppedEnding stop ending v w l t → EndsTails o until ending (outside i u r k c) (outside j w s t d)
tail_stopped T fault.Memory ending o until script i j u v w r s k l t c d p reads stops cause h =
    let P : Ending → Type 0 = λ e. EndsTails o until e (outside i u r k c) (outside j w s t d) in
    subst P (sym h.0) (inl (subst (λ e. EndsScript (Members o) e (outside i u r k c) (outside j w s t d)) h.0
    (stopped_ends T fault.Memory ending (Members o) script i j u v w r s k l t c d p reads stops cause h)))
tail_stopped T fault.Write ending o until script i j u v w r s k l t c d p reads stops cause h =
    let P : Ending → Type 0 = λ e. EndsTails o until e (outside i u r k c) (outside j w s t d) in
    subst P (sym h.0) record {
      cause = h.2 ∙ ap (λ n. n.output) cause;
      session = inl (stopped_last fault.Write (Members o) script i j u v w r s k t c d p stops h.1);
      undisturbed = record { reads = reads; calls = ap (λ n. n.network) cause; files = ap (λ n. n.files) cause };
    }
tail_stopped T fault.Fabric ending o until script i j u v w r s k l t c d p reads stops cause h =
    let P : Ending → Type 0 = λ e. EndsTails o until e (outside i u r k c) (outside j w s t d) in
    subst P (sym h.0) (subst (λ e. EndsScript (Members o) e (outside i u r k c) (outside j w s t d)) h.0
    (stopped_ends T fault.Fabric ending (Members o) script i j u v w r s k l t c d p reads stops cause h))
tail_stopped T fault.Files ending o until script i j u v w r s k l t c d p reads stops cause h =
    let P : Ending → Type 0 = λ e. EndsTails o until e (outside i u r k c) (outside j w s t d) in
    subst P (sym h.0) (subst (λ e. EndsScript (Members o) e (outside i u r k c) (outside j w s t d)) h.0
    (stopped_ends T fault.Files ending (Members o) script i j u v w r s k l t c d p reads stops cause h))
tail_stopped T (fault.Absent name) ending o until script i j u v w r s k l t c d p reads stops cause h =
    go ending h (stopped_ends T (fault.Absent name) ending (Members o) script i j u v w r s k l t c d p reads stops cause h)
  where
    go : (e : Ending) → IsStoppedEnding (fault.Absent name) e v w l t → EndsScript (Members o) e (outside i u r k c) (outside j w s t d)
        → EndsTails o until e (outside i u r k c) (outside j w s t d)
    go (Absent said) h ends = ends
    go Memory h ends = inl ends
    go _ h ends = absurd h
