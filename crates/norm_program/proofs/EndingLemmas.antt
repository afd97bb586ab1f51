use Rattle.std.proofs.Common.{◌≡◌, ◌∙◌, sym, ap, subst, ℕ, List, Option, Result, Ok, Err, Bool, true, refl, inl, inr}
use Rattle.std.specs.Prelude.{IfErr}
use Rattle.norm_base.specs.Faults.{one_more}
use Rattle.norm_base.specs.Told.{Pieces}
use Rattle.norm_script.specs.Commands.{Commands}
use Rattle.norm_journal.specs.declared.event.Event.{Event}
use Rattle.norm_turns.specs.Causes.{Counted, HasCause, counted}
use Rattle.norm_turns.specs.declared.fault.SessionFault.{SessionFault}
use Rattle.norm_turns.specs.declared.fault.SessionFault.TheVariants as fault
use Rattle.norm_endings.specs.Outside.{Called, outside, IsInput}
use Rattle.norm_endings.specs.Endings.{IsReadEnding, IsLastEnding, IsAbsentEnding, IsStoppedEnding}
use Rattle.norm_endings.specs.declared.status.Ending.{Ending}
use Rattle.norm_endings.specs.declared.status.Ending.TheVariants.{Done, Memory, Refused, Read, Write, Absent, Spent}
use Rattle.norm_program.specs.Asked.{Asked, is_alone}
use Rattle.norm_program.specs.Boarded.{RunsScript, StopsScript, span}
use Rattle.norm_program.specs.Ends.{EndsScript, EndsEarly, Prepared, IsTextEnding, RanSession, StoppedSession}
use Rattle.norm_program.proofs.SteadyEnds.{RunnableWith, turns_tell}

-- Each part that ends the program early, or at last, in plain variables: the input before and after (i, j), the output's pieces (u, v, w),
-- the counts of failed reads (r, s) and writes (k, l, t), and what only a session calls (c, d).

-- the input was not read whole
pub read_ends : (ending : Ending) (a : Asked) (i j : Option (List ℕ)) (u w : Pieces) (r s k t : ℕ)
    → IsReadEnding ending r s u w k t → EndsEarly a ending i j u w r s k t
read_ends Memory a i j u w r s k t h = λ called. record {
  session = inl (record { called = refl; output = h.1 });
  undisturbed = record { reads = h.0; calls = refl; files = refl };
  writes = h.2;
}
read_ends Read a i j u w r s k t h = λ called. record { cause = h.0; called = refl; output = h.1 }
read_ends _ a i j u w r s k t h = absurd h

-- the text is no script
pub text_ends : (ending : Ending) (a : Asked) (text : List ℕ) (i j : Option (List ℕ)) (u w : Pieces) (r s k t : ℕ)
    → IsInput text i j → s ≡ r → IsTextEnding a ending text u w k t → EndsEarly a ending i j u w r s k t
text_ends Memory a text i j u w r s k t input quiet h = λ called. record {
  session = inl (record { called = refl; output = h.0 });
  undisturbed = record { reads = quiet; calls = refl; files = refl };
  writes = h.1;
}
text_ends (Refused refusal) a text i j u w r s k t input quiet h = λ called. record {
  text = text;
  input = input;
  read = h.0;
  called = refl;
  output = h.1;
  undisturbed = record { reads = quiet; calls = refl; files = refl };
}
text_ends _ a text i j u w r s k t input quiet h = absurd h

pub text_ended : {T : Type 0} → (result : Result T Ending) (a : Asked) (text : List ℕ) (i j : Option (List ℕ)) (u w : Pieces) (r s k t : ℕ)
    → IsInput text i j → s ≡ r → IfErr result (λ ending. IsTextEnding a ending text u w k t)
    → IfErr result (λ ending. EndsEarly a ending i j u w r s k t)
text_ended (Ok script) a text i j u w r s k t input quiet h = h
text_ended (Err ending) a text i j u w r s k t input quiet h = text_ends ending a text i j u w r s k t input quiet h

-- of a session that was run, up to when this was written
abbrev pub Ran : Bool → Commands → List Event → Bool → (c d : Called) → (u v : Pieces) → Type 0
Ran alone script journal whole c d u v = RunsScript alone script c.files journal whole (span c.network d.network u v c.moments d.moments)

-- of one that a fault stopped
abbrev pub Stopped : Bool → SessionFault → Commands → (c d : Called) → (u v : Pieces) → Type 0
Stopped alone stop script c d u v = StopsScript alone stop script c.files (span c.network d.network u v c.moments d.moments)

-- which calls of it failed
abbrev pub counts : ℕ → Called → Counted
counts writes called = counted writes called.network_faults called.file_faults

ran_session : (a : Asked) (script : Commands) (journal : List Event) (whole : Bool) (i j : Option (List ℕ)) (u v w : Pieces)
    (r s k t : ℕ) (c d : Called) → Prepared a script i j → RunnableWith a script → Ran (is_alone a) script journal whole c d u v
    → RanSession a (outside i u r k c) (outside j w s t d) whole v
ran_session a script journal whole i j u v w r s k t c d p can runs = record {
  text = p.text;
  script = script;
  journal = journal;
  input = p.input;
  read = p.read;
  session = runs;
  turns = turns_tell a script c.files journal whole (span c.network d.network u v c.moments d.moments) runs can;
}

-- the session ran
pub last_ends : (ending : Ending) (a : Asked) (script : Commands) (journal : List Event) (whole : Bool) (i j : Option (List ℕ))
    (u v w : Pieces) (r s k l t : ℕ) (c d : Called) → Prepared a script i j → s ≡ r → RunnableWith a script
    → Ran (is_alone a) script journal whole c d u v → counts l d ≡ counts k c → IsLastEnding ending whole v w l t → EndsScript a ending (outside i u r k c) (outside j w s t d)
last_ends Done a script journal whole i j u v w r s k l t c d p reads can runs cause h =
    let B = outside i u r k c in
    let A = outside j w s t d in
    let P : Bool → Type 0 = λ b. RanSession a B A b v in
    let Q : Pieces → Type 0 = λ x. RanSession a B A true x in record {
      session = subst Q (sym h.1) (subst P h.0 (ran_session a script journal whole i j u v w r s k t c d p can runs));
      undisturbed = record { reads = reads; calls = ap (λ n. n.network) cause; files = ap (λ n. n.files) cause };
      writes = h.2 ∙ ap (λ n. n.output) cause;
    }
last_ends Spent a script journal whole i j u v w r s k l t c d p reads can runs cause h =
    let P : Bool → Type 0 = λ b. RanSession a (outside i u r k c) (outside j w s t d) b v in record {
      unsaid = v;
      session = subst P h.0 (ran_session a script journal whole i j u v w r s k t c d p can runs);
      output = h.1;
      undisturbed = record { reads = reads; calls = ap (λ n. n.network) cause; files = ap (λ n. n.files) cause };
      writes = h.2 ∙ ap (λ n. n.output) cause;
    }
last_ends Write a script journal whole i j u v w r s k l t c d p reads can runs cause h =
    let P : Bool → Type 0 = λ b. RanSession a (outside i u r k c) (outside j w s t d) b v in record {
      cause = h.2 ∙ ap (λ n. one_more n.output) cause;
      session = inr (record { unsaid = v; session = subst P h.0 (ran_session a script journal whole i j u v w r s k t c d p can runs); output = h.1 });
      undisturbed = record { reads = reads; calls = ap (λ n. n.network) cause; files = ap (λ n. n.files) cause };
    }
last_ends _ a script journal whole i j u v w r s k l t c d p reads can runs cause h = absurd h

stopped_session : (stop : SessionFault) (a : Asked) (script : Commands) (i j : Option (List ℕ)) (u v w : Pieces)
    (r s k t : ℕ) (c d : Called) → Prepared a script i j → Stopped (is_alone a) stop script c d u v
    → StoppedSession a stop (outside i u r k c) (outside j w s t d) v
stopped_session stop a script i j u v w r s k t c d p stops =
    record { text = p.text; script = script; input = p.input; read = p.read; session = stops }

-- what was written when a fault stopped the session is what was written at last
pub stopped_last : (stop : SessionFault) (a : Asked) (script : Commands) (i j : Option (List ℕ)) (u v w : Pieces)
    (r s k t : ℕ) (c d : Called) → Prepared a script i j → Stopped (is_alone a) stop script c d u v → w ≡ v
    → StoppedSession a stop (outside i u r k c) (outside j w s t d) w
stopped_last stop a script i j u v w r s k t c d p stops is =
    let Q : Pieces → Type 0 = λ x. StoppedSession a stop (outside i u r k c) (outside j w s t d) x in
    subst Q (sym is) (stopped_session stop a script i j u v w r s k t c d p stops)

-- an absent file stopped it
pub absent_ends : (ending : Ending) (name : List ℕ) (a : Asked) (script : Commands) (i j : Option (List ℕ))
    (u v w : Pieces) (r s k l t : ℕ) (c d : Called) → Prepared a script i j → s ≡ r → Stopped (is_alone a) (fault.Absent name) script c d u v
    → counts l d ≡ counts k c → IsAbsentEnding ending name v w l t → EndsScript a ending (outside i u r k c) (outside j w s t d)
absent_ends (Absent said) name a script i j u v w r s k l t c d p reads stops cause h =
    let writes : l ≡ k = ap (λ n. n.output) cause in
    let P : List ℕ → Type 0 = λ x. EndsScript a (Absent x) (outside i u r k c) (outside j w s t d) in
    subst P (sym h.0) record {
      unsaid = v;
      session = stopped_session (fault.Absent name) a script i j u v w r s k t c d p stops;
      output = rw writes at h.1;
      undisturbed = record { reads = reads; calls = ap (λ n. n.network) cause; files = ap (λ n. n.files) cause };
    }
absent_ends Memory name a script i j u v w r s k l t c d p reads stops cause h = record {
  session = inr (inr (name, stopped_last (fault.Absent name) a script i j u v w r s k t c d p stops h.0));
  undisturbed = record { reads = reads; calls = ap (λ n. n.network) cause; files = ap (λ n. n.files) cause };
  writes = h.1 ∙ ap (λ n. n.output) cause;
}
absent_ends _ name a script i j u v w r s k l t c d p reads stops cause h = absurd h

-- a fault stopped the session
pub stopped_ends : (T : Type 0) (stop : SessionFault) (ending : Ending) (a : Asked) (script : Commands) (i j : Option (List ℕ))
    (u v w : Pieces) (r s k l t : ℕ) (c d : Called) → Prepared a script i j → s ≡ r → Stopped (is_alone a) stop script c d u v
    → HasCause {T = T} (Err stop) (counts k c) (counts l d)
    → IsStoppedEnding stop ending v w l t → EndsScript a ending (outside i u r k c) (outside j w s t d)
stopped_ends T fault.Memory ending a script i j u v w r s k l t c d p reads stops cause h =
    let P : Ending → Type 0 = λ e. EndsScript a e (outside i u r k c) (outside j w s t d) in
    subst P (sym h.0) record {
      session = inr (inl (stopped_last fault.Memory a script i j u v w r s k t c d p stops h.1));
      undisturbed = record { reads = reads; calls = ap (λ n. n.network) cause; files = ap (λ n. n.files) cause };
      writes = h.2 ∙ ap (λ n. n.output) cause;
    }
stopped_ends T fault.Write ending a script i j u v w r s k l t c d p reads stops cause h =
    let P : Ending → Type 0 = λ e. EndsScript a e (outside i u r k c) (outside j w s t d) in
    subst P (sym h.0) record {
      cause = h.2 ∙ ap (λ n. n.output) cause;
      session = inl (stopped_last fault.Write a script i j u v w r s k t c d p stops h.1);
      undisturbed = record { reads = reads; calls = ap (λ n. n.network) cause; files = ap (λ n. n.files) cause };
    }
stopped_ends T fault.Fabric ending a script i j u v w r s k l t c d p reads stops cause h =
    let writes : l ≡ k = ap (λ n. n.output) cause in
    let P : Ending → Type 0 = λ e. EndsScript a e (outside i u r k c) (outside j w s t d) in
    subst P (sym h.0) record {
      cause = ap (λ n. n.network) cause;
      unsaid = v;
      session = stopped_session fault.Fabric a script i j u v w r s k t c d p stops;
      output = rw writes at h.1;
      reads = reads;
      files = ap (λ n. n.files) cause;
    }
stopped_ends T fault.Files ending a script i j u v w r s k l t c d p reads stops cause h =
    let writes : l ≡ k = ap (λ n. n.output) cause in
    let P : Ending → Type 0 = λ e. EndsScript a e (outside i u r k c) (outside j w s t d) in
    subst P (sym h.0) record {
      cause = ap (λ n. n.files) cause;
      unsaid = v;
      session = stopped_session fault.Files a script i j u v w r s k t c d p stops;
      output = rw writes at h.1;
      reads = reads;
      calls = ap (λ n. n.network) cause;
    }
stopped_ends T (fault.Absent name) ending a script i j u v w r s k l t c d p reads stops cause h =
    absent_ends ending name a script i j u v w r s k l t c d p reads stops cause h
