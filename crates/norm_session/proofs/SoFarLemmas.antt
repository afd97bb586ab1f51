-- A run with one event more, and what stops one.
use Rattle.std.proofs.Common.{◌≡◌, ℕ, List, [], ◌∷◌, ◌++◌, Bool, true, false, Option, None, Some, refl, sym, ap, ◌∙◌, subst, append_assoc}
use Rattle.std.specs.Prelude.{option_and_then, map}
use Rattle.std.specs.List.{AllByRecursion}
use Rattle.std.specs.Option.{option_to_list}
use Rattle.std.proofs.lemmas.List.{append-nil, map-append}
use Rattle.std.proofs.lemmas.List.Concat.{flat_map-append}
use Rattle.norm_base.specs.Network.{Network}
use Rattle.norm_base.specs.Told.{Pieces, gained, GainsFront}
use Rattle.norm_journal.specs.declared.event.Event.{Event}
use Rattle.norm_journal.specs.Accepting.{accepts, judged_from}
use Rattle.norm_journal.specs.Judged.{Judged}
use Rattle.norm_journal.specs.Laws.{HasOctets}
use Rattle.norm_journal.specs.Places.{Place}
use Rattle.norm_journal.specs.Printed.{line_of, lines_from}
use Rattle.norm_journal.specs.Projections.{Answer, offer_of, answer_in, moment_in, outcome_in, offers_in, answers_in, moments_in, outcomes_in, network_after}
use Rattle.norm_journal.proofs.FrontLemmas.{judged_from-append, fronts_printed}
use Rattle.norm_safety.specs.World.{World}
use Rattle.norm_world.specs.WorldKept.{StandsFor}
use Rattle.norm_session.specs.Context.{Context, with_moments, with_posted, opening, judged_of}
use Rattle.norm_session.specs.Noting.{kept_of, noted}
use Rattle.norm_session.specs.Posting.{entry_of, entries_in, posting}
use Rattle.norm_session.specs.RunKept.{RunKept, nodes_in}
use Rattle.norm_session.specs.SoFar.{Leads, SoFar, IsTakenFrom, AreTakenFrom}
use Rattle.norm_turns.specs.Printing.{IsUnwritten}
use Rattle.norm_session.specs.Stopping.{Stopped}
use Rattle.norm_turns.specs.declared.fault.SessionFault.{SessionFault}
use Rattle.norm_turns.specs.declared.fault.SessionFault.TheVariants as fault
use Rattle.producer_gate.specs.Boards.{BoardState}
use Rattle.producer_gate.specs.Entries.{Entry}

-- ---- what is told in two steps is told in one

pub gained-nil : {X : Type 0} (told : Option (List X)) → gained told [] ≡ told
gained-nil None = refl
gained-nil (Some xs) = ap Some (append-nil xs)

pub gained-gained : {X : Type 0} (told : Option (List X)) (xs ys : List X) → gained (gained told xs) ys ≡ gained told (xs ++ ys)
gained-gained None xs ys = refl
gained-gained (Some zs) xs ys = ap Some (append_assoc zs xs ys)

-- a network that tells this of offers and answers
abbrev pub tells : Network → Option (List (ℕ × List ℕ)) → Option (List Answer) → Network
tells n offered answers = record { starts = n.starts; offered = offered; answers = answers; honest = n.honest; direct = n.direct }

network_more : (n : Network) (xs ys : List Event) → network_after (network_after n xs) ys ≡ network_after n (xs ++ ys)
network_more n xs ys =
    ap (λ o. tells n o (gained (gained n.answers (answers_in xs)) (answers_in ys)))
    (gained-gained n.offered (offers_in xs) (offers_in ys) ∙ ap (gained n.offered) (sym (flat_map-append offer_of xs ys)))
    ∙ ap (λ a. tells n (gained n.offered (offers_in (xs ++ ys))) a)
    (gained-gained n.answers (answers_in xs) (answers_in ys) ∙ ap (gained n.answers) (sym (flat_map-append answer_in xs ys)))

-- of an event that the network has no part in nothing is told
pub untold : (n : Network) (e : Event) → offers_in (e ∷ []) ≡ [] → answers_in (e ∷ []) ≡ [] → n ≡ network_after n (e ∷ [])
untold n e no_offer no_answer =
    ap (λ o. tells n o n.answers) (sym (gained-nil n.offered) ∙ ap (gained n.offered) (sym no_offer))
    ∙ ap (λ a. tells n (gained n.offered (offers_in (e ∷ []))) a) (sym (gained-nil n.answers) ∙ ap (gained n.answers) (sym no_answer))

-- an offer is told
pub offer_told : (n : Network) (e : Event) → answers_in (e ∷ []) ≡ [] → tells n (gained n.offered (offers_in (e ∷ []))) n.answers ≡ network_after n (e ∷ [])
offer_told n e no_answer =
    ap (λ a. tells n (gained n.offered (offers_in (e ∷ []))) a) (sym (gained-nil n.answers) ∙ ap (gained n.answers) (sym no_answer))

-- an answer is told
pub answer_told : (n : Network) (e : Event) → offers_in (e ∷ []) ≡ [] → tells n n.offered (gained n.answers (answers_in (e ∷ []))) ≡ network_after n (e ∷ [])
answer_told n e no_offer =
    ap (λ o. tells n o (gained n.answers (answers_in (e ∷ [])))) (sym (gained-nil n.offered) ∙ ap (gained n.offered) (sym no_offer))

-- ---- takes of what the network may answer

taken_more : (n : Network) (past events : List Event) (e : Event) → AreTakenFrom n past events → IsTakenFrom n (past ++ events) e
    → AreTakenFrom n past (events ++ e ∷ [])
unfolding AreTakenFrom
taken_more n past [] e all one = (subst (λ front. IsTakenFrom n front e) (append-nil past) one, tt)
taken_more n past (x ∷ events) e all one =
    (all.0, taken_more n (past ++ x ∷ []) events e all.1 (subst (λ front. IsTakenFrom n front e) (sym (append_assoc past (x ∷ []) events)) one))

-- ---- the board

pub posting-nil : (b : BoardState) → posting b [] ≡ b
posting-nil b = ap (λ (es : List Entry). record b { entries = es }) (append-nil b.entries)

posting-posting : (b : BoardState) (xs ys : List Entry) → posting (posting b xs) ys ≡ posting b (xs ++ ys)
posting-posting b xs ys = ap (λ (es : List Entry). record b { entries = es }) (append_assoc b.entries xs ys)

entries-append : (xs ys : List Event) → entries_in (xs ++ ys) ≡ entries_in xs ++ entries_in ys
entries-append xs ys = ap (map entry_of) (flat_map-append outcome_in xs ys) ∙ map-append entry_of (outcomes_in xs) (outcomes_in ys)

-- ---- one event more

pub judged_one : (j next : Judged) (e : Event) → accepts j e ≡ Some next → judged_from j (e ∷ []) ≡ Some next
unfolding judged_from
judged_one j next e is = ap (λ o. option_and_then (λ n. judged_from n []) o) is

lines_one : (j next : Judged) (e : Event) → accepts j e ≡ Some next → lines_from j (e ∷ []) ≡ option_to_list (line_of j e)
unfolding lines_from
lines_one j next e is =
    ap (λ o. option_to_list (line_of j e) ++ elim o [ Some n ↦ lines_from n [] | None ↦ [] ]) is ∙ append-nil (option_to_list (line_of j e))

octets_more : (journal : List Event) (e : Event) → AllByRecursion HasOctets journal → HasOctets e → AllByRecursion HasOctets (journal ++ e ∷ [])
octets_more [] e all one = (one, tt)
octets_more (y ∷ journal) e all one = (all.0, octets_more journal e all.1 one)

-- the board once this event was told
abbrev pub posted_by : Context → Event → BoardState
posted_by x e = posting x.posted (entries_in (e ∷ []))

leads_with : (x : Context) (journal : List Event) (e : Event) (j next : Judged) (before now : Network) (unwritten written : Pieces)
    → Leads x journal j before unwritten → accepts j e ≡ Some next → now ≡ network_after before (e ∷ [])
    → written ≡ gained unwritten (option_to_list (line_of j e)) → IsTakenFrom x.network journal e
    → HasOctets e → Leads (with_posted (with_moments x (moments_in (e ∷ []))) (posted_by x e)) (journal ++ e ∷ []) next now written
leads_with x journal e j next before now unwritten written s accepted net out taken octets =
    let lines_all : lines_from (opening x) (journal ++ e ∷ []) ≡ lines_from (opening x) journal ++ option_to_list (line_of j e) =
    fronts_printed (opening x) j journal (e ∷ []) s.judged
    ∙ ap (λ ls. lines_from (opening x) journal ++ ls) (lines_one j next e accepted) in
    record {
      judged = judged_from-append (opening x) journal (e ∷ [])
          ∙ ap (λ o. option_and_then (λ n. judged_from n (e ∷ [])) o) s.judged ∙ judged_one j next e accepted;
      told = net ∙ ap (λ n. network_after n (e ∷ [])) s.told ∙ network_more x.network journal (e ∷ []);
      lines = out ∙ ap (λ ps. gained ps (option_to_list (line_of j e))) s.lines
          ∙ gained-gained x.written (lines_from (opening x) journal) (option_to_list (line_of j e)) ∙ ap (gained x.written) (sym lines_all);
      taken = taken_more x.network [] journal e s.taken taken;
      moments = flat_map-append moment_in journal (e ∷ []) ∙ ap (λ ms. ms ++ moments_in (e ∷ [])) s.moments;
      board = ap (λ (b : BoardState). posting b (entries_in (e ∷ []))) s.board ∙ posting-posting x.board (entries_in journal) (entries_in (e ∷ []))
          ∙ ap (posting x.board) (sym (entries-append journal (e ∷ [])));
      octets = octets_more journal e s.octets octets;
    }

-- an event that tells no outcome
pub leads_by : (x : Context) (journal : List Event) (e : Event) (j next : Judged) (before now : Network) (unwritten written : Pieces)
    → Leads x journal j before unwritten → accepts j e ≡ Some next → now ≡ network_after before (e ∷ [])
    → written ≡ gained unwritten (option_to_list (line_of j e)) → IsTakenFrom x.network journal e
    → entries_in (e ∷ []) ≡ [] → HasOctets e → Leads (with_moments x (moments_in (e ∷ []))) (journal ++ e ∷ []) next now written
leads_by x journal e j next before now unwritten written s accepted net out taken no_outcome octets =
    subst (λ (b : BoardState). Leads (with_posted (with_moments x (moments_in (e ∷ []))) b) (journal ++ e ∷ []) next now written)
    (ap (posting x.posted) no_outcome ∙ posting-nil x.posted)
    (leads_with x journal e j next before now unwritten written s accepted net out taken octets)

-- an event that begins no turn
pub leads_told : (x : Context) (journal : List Event) (e : Event) (j next : Judged) (before now : Network) (unwritten written : Pieces)
    → Leads x journal j before unwritten → accepts j e ≡ Some next → now ≡ network_after before (e ∷ [])
    → written ≡ gained unwritten (option_to_list (line_of j e)) → IsTakenFrom x.network journal e
    → moments_in (e ∷ []) ≡ [] → HasOctets e → Leads (with_posted x (posted_by x e)) (journal ++ e ∷ []) next now written
leads_told x journal e j next before now unwritten written s accepted net out taken no_turn octets =
    subst (λ ms. Leads (with_posted (record x { moments = ms }) (posted_by x e)) (journal ++ e ∷ []) next now written)
    (ap (λ ms. x.moments ++ ms) no_turn ∙ append-nil x.moments)
    (leads_with x journal e j next before now unwritten written s accepted net out taken octets)

-- an event that begins no turn and tells no outcome
pub leads_on : (x : Context) (journal : List Event) (e : Event) (j next : Judged) (before now : Network) (unwritten written : Pieces)
    → Leads x journal j before unwritten → accepts j e ≡ Some next → now ≡ network_after before (e ∷ [])
    → written ≡ gained unwritten (option_to_list (line_of j e)) → IsTakenFrom x.network journal e
    → moments_in (e ∷ []) ≡ [] → entries_in (e ∷ []) ≡ [] → HasOctets e → Leads x (journal ++ e ∷ []) next now written
leads_on x journal e j next before now unwritten written s accepted net out taken no_turn no_outcome octets =
    subst (λ ms. Leads (record x { moments = ms }) (journal ++ e ∷ []) next now written) (ap (λ ms. x.moments ++ ms) no_turn ∙ append-nil x.moments)
    (leads_by x journal e j next before now unwritten written s accepted net out taken no_outcome octets)

-- what is kept of a journal with one event more
pub kept_more : (alone : Bool) (kept : Option (List Event)) (journal : List Event) (e : Event) → kept ≡ kept_of alone journal
    → noted kept e ≡ kept_of alone (journal ++ e ∷ [])
kept_more true kept journal e is = ap (λ k. noted k e) is
kept_more false kept journal e is = ap (λ k. noted k e) is

-- A run moves by an event: it is noted, the judge accepts it with the new state, and the world stands for the nodes.
pub record Moves (x : Context) (k new : RunKept) (e : Event) (w v : World) (place next : Place) : Type 0 where
  pub profile : new.p ≡ k.p
  pub alone : new.alone ≡ k.alone
  pub nodes : new.world.p ≡ k.world.p
  pub journal : new.journal ≡ noted k.journal e
  pub stands : StandsFor new.world v
  pub accepted : accepts (judged_of x k w place) e ≡ Some (judged_of x new v next)

-- the run with that event, and with the board as it is then
moved : (x : Context) (board : BoardState) (k new : RunKept) (e : Event) (w v : World) (place next : Place) (before now : Network)
    (unwritten written : Pieces) (s : SoFar x k w place before unwritten) → Moves x k new e w v place next
    → Leads (with_posted x board) (s.journal ++ e ∷ []) (judged_of x new v next) now written → SoFar (with_posted x board) new v next now written
moved x board k new e w v place next before now unwritten written s m leads = record {
  all = record {
    script = m.profile ∙ s.all.script;
    world = m.nodes ∙ s.all.world ∙ sym m.profile;
    alone = m.alone ∙ s.all.alone;
    receivers = s.all.receivers ∙ ap (nodes_in k.alone) (sym m.profile) ∙ ap (λ b. nodes_in b new.p) (sym m.alone);
  };
  stands = m.stands;
  journal = s.journal ++ e ∷ [];
  kept = m.journal ∙ kept_more k.alone k.journal s.journal e s.kept ∙ ap (λ b. kept_of b (s.journal ++ e ∷ [])) (sym m.alone);
  leads = leads;
}

pub more : (x : Context) (k new : RunKept) (e : Event) (w v : World) (place next : Place) (before now : Network) (unwritten written : Pieces)
    (s : SoFar x k w place before unwritten) → Moves x k new e w v place next → now ≡ network_after before (e ∷ [])
    → written ≡ gained unwritten (option_to_list (line_of (judged_of x k w place) e))
    → IsTakenFrom x.network s.journal e → moments_in (e ∷ []) ≡ [] → entries_in (e ∷ []) ≡ []
    → HasOctets e → SoFar x new v next now written
more x k new e w v place next before now unwritten written s m net out taken no_turn no_outcome octets =
    moved x x.posted k new e w v place next before now unwritten written s m
    (leads_on x s.journal e (judged_of x k w place) (judged_of x new v next) before now unwritten written s.leads m.accepted net out taken no_turn
    no_outcome octets)

-- the same of an event that may tell an outcome
pub more_told : (x : Context) (k new : RunKept) (e : Event) (w v : World) (place next : Place) (before now : Network) (unwritten written : Pieces)
    (s : SoFar x k w place before unwritten) → Moves x k new e w v place next → now ≡ network_after before (e ∷ [])
    → written ≡ gained unwritten (option_to_list (line_of (judged_of x k w place) e))
    → IsTakenFrom x.network s.journal e → moments_in (e ∷ []) ≡ [] → HasOctets e
    → SoFar (with_posted x (posted_by x e)) new v next now written
more_told x k new e w v place next before now unwritten written s m net out taken no_turn octets =
    moved x (posted_by x e) k new e w v place next before now unwritten written s m
    (leads_told x s.journal e (judged_of x k w place) (judged_of x new v next) before now unwritten written s.leads m.accepted net out taken no_turn
    octets)

-- ---- where a run stops

pub stops_for_memory : (x : Context) (journal : List Event) (j : Judged) (network : Network) (written : Pieces)
    → Leads x journal j network written → Stopped x fault.Memory network written
stops_for_memory x journal j network written s =
    record {
      journal = journal;
      last = j;
      begun = s.judged;
      told = s.told;
      taken = s.taken;
      moments = s.moments;
      board = s.board;
      octets = s.octets;
      leaves = s.lines;
    }

-- ---- the line of an event, in a state that the judge accepts it in

-- the journal has the event, and its line is not written whole
broken_line : (x : Context) (board : BoardState) (journal : List Event) (e : Event) (j next : Judged) (network : Network) (unwritten written : Pieces)
    → Leads x journal j network unwritten
    → Leads (with_posted x board) (journal ++ e ∷ []) next network (gained unwritten (option_to_list (line_of j e)))
    → IsUnwritten fault.Write unwritten written (line_of j e) → Stopped (with_posted x board) fault.Write network written
broken_line x board journal e j next network unwritten written s leads un = record {
  journal = journal ++ e ∷ [];
  last = next;
  begun = leads.judged;
  told = leads.told;
  taken = leads.taken;
  moments = leads.moments;
  board = leads.board;
  octets = leads.octets;
  leaves = record {
    front = journal;
    event = e;
    before = j;
    line = un.0;
    journal_is = refl;
    begun = s.judged;
    line_is = un.1;
    output = subst (λ (ps : Pieces). GainsFront ps written un.0) s.lines un.2;
  };
}

-- an event that the network has no part in is accepted, and its line is not written whole
pub line_stops : (x : Context) (fault : SessionFault) (journal : List Event) (e : Event) (j next : Judged) (network : Network) (unwritten written : Pieces)
    → Leads x journal j network unwritten → accepts j e ≡ Some next → offers_in (e ∷ []) ≡ [] → answers_in (e ∷ []) ≡ [] → moments_in (e ∷ []) ≡ []
    → entries_in (e ∷ []) ≡ [] → IsTakenFrom x.network journal e → HasOctets e
    → IsUnwritten fault unwritten written (line_of j e) → Stopped x fault network written
line_stops x fault.Memory journal e j next network unwritten written s accepted no_offer no_answer no_turn no_outcome taken octets un =
    stops_for_memory x journal j network written (subst (λ (ps : Pieces). Leads x journal j network ps) (sym un) s)
line_stops x fault.Write journal e j next network unwritten written s accepted no_offer no_answer no_turn no_outcome taken octets un =
    broken_line x x.posted journal e j next network unwritten written s
    (leads_on x journal e j next network network unwritten (gained unwritten (option_to_list (line_of j e))) s accepted
    (untold network e no_offer no_answer) refl taken no_turn no_outcome octets) un
line_stops x fault.Fabric journal e j next network unwritten written s accepted no_offer no_answer no_turn no_outcome taken octets un = absurd un
line_stops x fault.Files journal e j next network unwritten written s accepted no_offer no_answer no_turn no_outcome taken octets un = absurd un
line_stops x (fault.Absent name) journal e j next network unwritten written s accepted no_offer no_answer no_turn no_outcome taken octets un = absurd un

-- the same where the event may tell an outcome, which is on the board
pub told_line_stops : (x : Context) (journal : List Event) (e : Event) (j next : Judged) (network : Network) (unwritten written : Pieces)
    → Leads x journal j network unwritten → accepts j e ≡ Some next → offers_in (e ∷ []) ≡ [] → answers_in (e ∷ []) ≡ [] → moments_in (e ∷ []) ≡ []
    → IsTakenFrom x.network journal e → HasOctets e
    → IsUnwritten fault.Write unwritten written (line_of j e) → Stopped (with_posted x (posted_by x e)) fault.Write network written
told_line_stops x journal e j next network unwritten written s accepted no_offer no_answer no_turn taken octets un =
    broken_line x (posted_by x e) journal e j next network unwritten written s
    (leads_told x journal e j next network network unwritten (gained unwritten (option_to_list (line_of j e))) s accepted
    (untold network e no_offer no_answer) refl taken no_turn octets) un
