-- How a relay's run ends the program.
use Rattle.std.proofs.Common.{◌≡◌, ◌∙◌, sym, ap, subst, refl, ℕ, ◌++◌, List, [], true, Option, Result, Err, inl, inr}
use Rattle.std.specs.Prelude.{codes}
use Rattle.std.proofs.lemmas.List.{append-nil}
use Rattle.norm_base.specs.Settings.{Settings}
use Rattle.norm_base.specs.Told.{Pieces, gained}
use Rattle.norm_relay.specs.RelayState.{can_relay}
use Rattle.norm_relay.specs.declared.relay.RelayFault.{RelayFault}
use Rattle.norm_relay.specs.declared.relay.RelayFault.TheVariants as relay
use Rattle.norm_turns.specs.Causes.{Counted, HasCause, WriteCause, counted}
use Rattle.norm_turns.specs.declared.fault.SessionFault.{SessionFault}
use Rattle.norm_turns.specs.declared.fault.SessionFault.TheVariants as fault
use Rattle.relay_words.specs.declared.ends.NoEvent.{NoEvent}
use Rattle.relay_words.specs.declared.ends.Patience.{Patience}
use Rattle.relay_words.specs.declared.ends.RelayEnd.{RelayEnd}
use Rattle.relay_words.specs.declared.ends.RelayEnd.TheVariants as stop
use Rattle.driven_nodes.specs.Writing.{Ends, LeavesLines}
use Rattle.driven_nodes.specs.Relayed.{Printed, relayed}
use Rattle.driven_nodes.specs.Misfits.{patience_of}
use Rattle.norm_endings.specs.Outside.{Called, Says, IsInput, outside, refused_line}
use Rattle.norm_endings.specs.Endings.{IsReadEnding, IsStoppedEnding}
use Rattle.norm_endings.specs.declared.status.Ending.{Ending}
use Rattle.norm_endings.specs.declared.status.Ending.TheVariants.{Memory, Event, Command, Relayed, Read, Write}
use Rattle.norm_program.specs.RelayEnds.{EndsBetween}
use Rattle.norm_program.specs.Relaying.{IsEventEnding, IsPrintedEnding, IsSaying, IsSessionsEnding}
use Rattle.driven_nodes.proofs.WritingLemmas.{leaves_same, wants_memory}

-- ---- the lines

-- memory ran out for the last line
said_nothing : (printed : Printed) (u v w : Pieces) → v ≡ gained u printed.lines → w ≡ v → LeavesLines fault.Memory u w printed.lines
said_nothing printed u v w wrote same =
    leaves_same fault.Memory u w (printed.lines ++ []) printed.lines (append-nil printed.lines) (wants_memory u w printed.lines [] (same ∙ wrote))

event_said : (ending : Ending) (n : ℕ) (why : NoEvent) (patience : Patience) (printed : Printed) (u v w : Pieces) (k l t : ℕ) → printed.end ≡ stop.NoEvent n why
    → v ≡ gained u printed.lines → l ≡ k → IsEventEnding ending n why v w l t → IsPrintedEnding ending patience printed u w k t
event_said (Event m reason) n why patience printed u v w k l t is wrote quiet h = (
  is ∙ ap (λ (i : ℕ). stop.NoEvent i why) (sym h.0) ∙ ap (λ (r : NoEvent). stop.NoEvent m r) (sym h.1),
  subst (λ i. Says (gained u printed.lines) w k t (refused_line i)) (sym h.0)
      (subst (λ x. Says x w k t (refused_line n)) wrote (subst (λ i. Says v w i t (refused_line n)) quiet h.2)),
)
event_said Memory n why patience printed u v w k l t is wrote quiet h = (said_nothing printed u v w wrote h.0, h.1 ∙ quiet)
event_said _ n why patience printed u v w k l t is wrote quiet h = absurd h

pub lines_said : (how : RelayEnd) (patience expected : Patience) (ending : Ending) (printed : Printed) (u v w : Pieces) (k l t : ℕ) → Ends printed how u v → l ≡ k
    → patience ≡ expected → IsSaying how patience ending v w l t → IsPrintedEnding ending expected printed u w k t
lines_said (stop.All lost) patience expected ending printed u v w k l t ends quiet same h =
    subst (λ e. IsPrintedEnding e expected printed u w k t) (sym h.0) (ends.is, same, h.1 ∙ ends.output, h.2 ∙ quiet)
lines_said (stop.NoEvent n why) patience expected ending printed u v w k l t ends quiet same h =
    event_said ending n why expected printed u v w k l t ends.is ends.output quiet h
lines_said (stop.Refused f) patience expected ending printed u v w k l t ends quiet same h =
    subst (λ e. IsPrintedEnding e expected printed u w k t) (sym h.0) (
      ends.is,
      subst (λ x. Says x w k t (codes "refused command\n")) ends.output (subst (λ i. Says v w i t (codes "refused command\n")) quiet h.1),
    )

pub lines_broken : {T : Type 0} (result : Result T SessionFault) (f : SessionFault) (ending : Ending) (patience : Patience) (printed : Printed) (u v w : Pieces)
    (k l t : ℕ) → result ≡ Err f → LeavesLines f u v printed.lines → WriteCause result k l → IsStoppedEnding f ending v w l t
    → IsPrintedEnding ending patience printed u w k t
lines_broken result fault.Memory ending patience printed u v w k l t is leaves cause h =
    let why = subst (λ r. HasCause r (counted k 0 0) (counted l 0 0)) is (cause 0 0) in
    subst (λ e. IsPrintedEnding e patience printed u w k t) (sym h.0)
    (subst (λ x. LeavesLines fault.Memory u x printed.lines) (sym h.1) leaves, h.2 ∙ ap (λ (c : Counted). c.output) why)
lines_broken result fault.Write ending patience printed u v w k l t is leaves cause h =
    let why = subst (λ r. HasCause r (counted k 0 0) (counted l 0 0)) is (cause 0 0) in
    subst (λ e. IsPrintedEnding e patience printed u w k t) (sym h.0)
    (subst (λ x. LeavesLines fault.Write u x printed.lines) (sym h.1) leaves, h.2 ∙ ap (λ (c : Counted). c.output) why)
lines_broken result fault.Fabric ending patience printed u v w k l t is leaves cause h = absurd leaves
lines_broken result fault.Files ending patience printed u v w k l t is leaves cause h = absurd leaves
lines_broken result (fault.Absent name) ending patience printed u v w k l t is leaves cause h = absurd leaves

-- ---- under both profiles

-- In plain variables: the input before and after (i, j), the output's pieces (u, v, w), the counts of failed reads (r, s) and writes (k, l, t), and
-- what nobody calls (called).

between_memory : (p : Settings) (node : ℕ) (q : Settings) (i j : Option (List ℕ)) (u w : Pieces) (r s k t : ℕ) (called : Called) → w ≡ u → s ≡ r → t ≡ k
    → EndsBetween p node q Memory (outside i u r k called) (outside j w s t called)
between_memory p node q i j u w r s k t called same reads writes = record {
  some = inl (record { called = refl; output = same });
  no_fault = (record { reads = reads; calls = refl; files = refl }, writes);
}

pub sessions_end : (p : Settings) (node : ℕ) (q : Settings) (why : RelayFault) (ending : Ending) (i : Option (List ℕ)) (u w : Pieces) (r k t : ℕ) (called : Called)
    → IsSessionsEnding p node q why ending u w k t → EndsBetween p node q ending (outside i u r k called) (outside i w r t called)
sessions_end p node q relay.Profiles ending i u w r k t called h =
    subst (λ e. EndsBetween p node q e (outside i u r k called) (outside i w r t called)) (sym h.ends)
    record { is = h.is; why_is = refl; output = h.output; unbegun = refl }
sessions_end p node q relay.Memory ending i u w r k t called h =
    subst (λ e. EndsBetween p node q e (outside i u r k called) (outside i w r t called)) (sym h.0) (between_memory p node q i i u w r r k t called h.1 refl h.2)
sessions_end p node q (relay.Refused f) ending i u w r k t called h =
    subst (λ e. EndsBetween p node q e (outside i u r k called) (outside i w r t called)) (sym h.0) (between_memory p node q i i u w r r k t called h.1 refl h.2)

pub read_end : (ending : Ending) (p : Settings) (node : ℕ) (q : Settings) (i j : Option (List ℕ)) (u w : Pieces) (r s k t : ℕ) (called : Called)
    → can_relay p node q ≡ true → IsReadEnding ending r s u w k t → EndsBetween p node q ending (outside i u r k called) (outside j w s t called)
read_end Memory p node q i j u w r s k t called fits h = between_memory p node q i j u w r s k t called h.1 h.0 h.2
read_end Read p node q i j u w r s k t called fits h = (fits, record { cause = h.0; called = refl; output = h.1 })
read_end _ p node q i j u w r s k t called fits h = absurd h

printed_end : (ending : Ending) (p : Settings) (node : ℕ) (q : Settings) (text : List ℕ) (i j : Option (List ℕ)) (u w : Pieces) (r s k t : ℕ) (called : Called)
    → can_relay p node q ≡ true → IsInput text i j → s ≡ r → IsPrintedEnding ending (patience_of p q) (relayed p node q text) u w k t
    → EndsBetween p node q ending (outside i u r k called) (outside j w s t called)
printed_end (Relayed lost patience) p node q text i j u w r s k t called fits input reads h = (
  fits,
  record {
    text = text;
    input = input;
    ends = h.0;
    patience_is = h.1;
    output = h.2;
    called = refl;
    no_fault = (record { reads = reads; calls = refl; files = refl }, h.3);
  },
)
printed_end (Event n why) p node q text i j u w r s k t called fits input reads h = (
  fits,
  record { text = text; input = input; ends = h.0; output = h.1; called = refl; undisturbed = record { reads = reads; calls = refl; files = refl } },
)
printed_end (Command f) p node q text i j u w r s k t called fits input reads h = (
  fits,
  record { text = text; input = input; ends = h.0; output = h.1; called = refl; undisturbed = record { reads = reads; calls = refl; files = refl } },
)
printed_end Write p node q text i j u w r s k t called fits input reads h = (
  fits,
  record {
    cause = h.1;
    less = record { text = text; input = input; output = h.0; called = refl };
    undisturbed = record { reads = reads; calls = refl; files = refl };
  },
)
printed_end Memory p node q text i j u w r s k t called fits input reads h = record {
  some = inr (record { text = text; input = input; output = h.0; called = refl });
  no_fault = (record { reads = reads; calls = refl; files = refl }, h.1);
}
printed_end _ p node q text i j u w r s k t called fits input reads h = absurd h

pub lines_end : (ending : Ending) (p : Settings) (node : ℕ) (q : Settings) (text : List ℕ) (i j : Option (List ℕ)) (u v w : Pieces) (r s k l t : ℕ) (called : Called)
    → can_relay p node q ≡ true → IsInput text i j → s ≡ r → v ≡ u → l ≡ k → IsPrintedEnding ending (patience_of p q) (relayed p node q text) v w l t
    → EndsBetween p node q ending (outside i u r k called) (outside j w s t called)
lines_end ending p node q text i j u v w r s k l t called fits input reads same quiet h =
    printed_end ending p node q text i j u w r s k t called fits input reads
    (subst (λ n. IsPrintedEnding ending (patience_of p q) (relayed p node q text) u w n t) quiet
    (subst (λ x. IsPrintedEnding ending (patience_of p q) (relayed p node q text) x w l t) same h))
