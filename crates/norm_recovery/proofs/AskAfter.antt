-- Over a turn that leaves no less, once all is spent: who is asked for goes on to be; and a late back-off runs on as it was, or its member is asked for.
use Rattle.std.proofs.Common.{◌≡◌, ℕ, ◌+◌, ◌≤◌, List, [], ◌∷◌, Bool, true, false, Option, None, Some, Result, Ok, refl, sym, ap, ◌∙◌, subst, arith, ◌⊎◌, inl, inr}
use Rattle.std.specs.Prelude.{◌==◌, ◌&&◌, ◌||◌, not, nat_lt, nat_le, is_some, is_none, length, IfSome, option_and_then, unwrap_or}
use Rattle.std.specs.List.{list_all, list_any}
use Rattle.std.proofs.lemmas.Bool.Decides.{Decides-eqb}
use Rattle.norm_base.specs.Settings.{Settings}
use Rattle.norm_ext.specs.Message.{Message, Info, Data, Flush, Squelch, Eot, RepairAdv, AckReq, Opaque, Nack, Ack, Report}
use Rattle.norm_ext.specs.ObjectIds.{index_named}
use Rattle.norm_ext.specs.Written.{Written}
use Rattle.norm_receive_rules.specs.AllNeeds.{needs_nothing}
use Rattle.norm_receive_rules.specs.BackingOff.{may_back_off, backs_off_for_needs, may_need}
use Rattle.norm_receive_rules.specs.Leaving.{is_in, goes_to, enters, entered}
use Rattle.norm_receive_rules.specs.ReceiverState.{ReceiverState}
use Rattle.norm_receive_rules.specs.Receiving.{info_received, data_received, flush_received, squelch_received, learns, takes_in, in_instance, message_received, received}
use Rattle.norm_receive_rules.specs.Ticking.{ticked as receiver_ticked}
use Rattle.norm_send_rules.specs.SenderState.{SenderState, Instance, Round}
use Rattle.norm_send_rules.specs.Ticking.{closed_where_due, ticked}
use Rattle.norm_send_rules.specs.Watermarks.{has_member}
use Rattle.norm_send_rules.specs.declared.want.Want.{Want}
use Rattle.norm_safety.specs.Events.{Event, Ticked}
use Rattle.norm_safety.specs.Tail.{Course, course_from, comes, sender_ticks, tail_turn}
use Rattle.norm_safety.specs.World.{receiver_at}
use Rattle.norm_safety.specs.WorldStep.{world_step, run}
use Rattle.norm_safety.proofs.EntryLemmas.{clash}
use Rattle.norm_safety.proofs.ReceiverMoves.{in_instance_is}
use Rattle.norm_ext.specs.declared.refusal.Refusal.{Refusal}
use Rattle.norm_laws.proofs.LaterTailLemmas.{Quiet}
use Rattle.norm_recovery.specs.Asking.{asks, all_have, have_wanted, with_closed}
use Rattle.norm_recovery.specs.BackOffEnds.{IsAsked}
use Rattle.norm_recovery.specs.Clean.{hears_of, is_clean, ClosesInVain}
use Rattle.norm_recovery.specs.Left.{has, in_window, left}
use Rattle.norm_recovery.specs.MembersEnter.{IsOwnMessage, IsOwn}
use Rattle.norm_recovery.specs.NackAsks.{AskedOf}
use Rattle.norm_recovery.specs.RoundAsks.{asks_open}
use Rattle.norm_recovery.specs.RunsOut.{all_new}
use Rattle.norm_recovery.specs.Watch.{Phase, is_asked, is_spent}
use Rattle.norm_recovery.proofs.AsksOn.{AsksOn, asks_both, tick_on, event_on}
use Rattle.norm_recovery.proofs.BackOffTurn.{back_off_ends}
use Rattle.norm_recovery.proofs.BeforeFlush.{le_so}
use Rattle.norm_recovery.proofs.CleanSteps.{both, member_has}
use Rattle.norm_recovery.proofs.ClosingHelps.{closings_help}
use Rattle.norm_recovery.proofs.ClosingLists.{In, in_contained, of_any}
use Rattle.norm_recovery.proofs.HeardSteps.{tick_keeps}
use Rattle.norm_recovery.proofs.MembersEnter.{members_enter}
use Rattle.norm_recovery.proofs.NodeTurn.{node_turn}
use Rattle.norm_recovery.proofs.MemberSame.{SameAfter, member_same}
use Rattle.norm_recovery.proofs.NeedLacks.{contained}
use Rattle.norm_recovery.proofs.PhaseTurn.{InPhase}
use Rattle.norm_recovery.proofs.RunsOutTail.{own_tick}
use Rattle.norm_recovery.proofs.RunsOutTurns.{IsAt, tells_keep, round_keeps}
use Rattle.norm_recovery.proofs.TickDoes.{Closing, Open, Closes, closing}
use Rattle.norm_recovery.proofs.WatchSpent.{stays}

and_so : (a b : Bool) → a ≡ true → b ≡ true → (a && b) ≡ true
and_so true b e f = f
and_so false b e f = absurd (clash e)

pub any_so : {X : Type 0} (test : X → Bool) (x : X) (xs : List X) → In x xs → test x ≡ true → list_any test xs ≡ true
any_so test x [] there e = absurd there
any_so test x (y ∷ xs) (inl same) e = ap (λ (b : Bool). b || list_any test xs) (ap test (sym same) ∙ e)
any_so test x (y ∷ xs) (inr more) e = go (test y) (any_so test x xs more e)
  where
    go : (b : Bool) → list_any test xs ≡ true → (b || list_any test xs) ≡ true
    go true f = refl
    go false f = f

-- ---- a back-off that runs, and the sender's datagram

-- it ends then, in this instance
abbrev pub RunsTo : (ends id : ℕ) → ReceiverState → Type 0
RunsTo ends id x = (x.knows.backoff ≡ Some ends) × (x.instance ≡ Some id)

may_need_runs : (p : Settings) (now draw ends id : ℕ) (x : ReceiverState) → RunsTo ends id x → RunsTo ends id (may_need p now draw x)
may_need_runs p now draw ends id x k = go (may_back_off now x.knows) refl
  where
    runs : may_back_off now x.knows ≡ false
    runs = ap (λ (o : Option ℕ). is_none o && not (nat_lt now x.knows.holdoff)) k.0

    go : (b : Bool) → may_back_off now x.knows ≡ b → RunsTo ends id (elim b as (λ _. ReceiverState) [ true ↦ backs_off_for_needs p now draw x | false ↦ x ])
    go false e = k
    go true e = absurd (clash (sym runs ∙ e))

in_runs : (p : Settings) (now draw ends id source object : ℕ) (does : ℕ → ReceiverState → ReceiverState)
    → ((index : ℕ) (x : ReceiverState) → RunsTo ends id x → RunsTo ends id (does index x)) → (x : ReceiverState) → RunsTo ends id x
    → RunsTo ends id (in_instance p now draw source id object does x)
in_runs p now draw ends id source object does leaves x k = go (source == p.sender)
  where
    inside : is_in x id ≡ true
    inside = ap (λ (o : Option ℕ). elim o as (λ _. Bool) [ Some current ↦ current == id | None ↦ false ]) k.1 ∙ (Decides-eqb id id).1 refl

    own : entered x id ≡ Some x
    own = ap (λ (b : Bool). elim b as (λ _. Option ReceiverState) [ true ↦ Some x | false ↦ elim (goes_to x id) [ true ↦ Some (enters id x) | false ↦ None ] ]) inside

    names : (found : Option ℕ) → RunsTo ends id (unwrap_or (elim found as (λ _. Option ReceiverState) [
      | Some index ↦ Some (may_need p now draw (does index (record x { knows = learns index x.knows })))
      | None ↦ None
    ]) x)
    names None = k
    names (Some index) =
        may_need_runs p now draw ends id (does index (record x { knows = learns index x.knows })) (leaves index (record x { knows = learns index x.knows }) k)

    go : (b : Bool) → RunsTo ends id (elim b as (λ _. ReceiverState) [ true ↦ unwrap_or (option_and_then (takes_in p now draw object does) (entered x id)) x | false ↦ x ])
    go true = subst (λ (o : Option ReceiverState). RunsTo ends id (unwrap_or (option_and_then (takes_in p now draw object does) o) x)) (sym own)
        (names (index_named p x.knows.known object))
    go false = k

abbrev ok_of : Message → Result Message Refusal
ok_of m = Ok m

own_runs : (p : Settings) (now draw ends id : ℕ) (d : Written) → IsOwn p id d → (x : ReceiverState) → RunsTo ends id x → RunsTo ends id (received p x d.octets now draw)
own_runs p now draw ends id d own x k =
    subst (λ (read : Result Message Refusal). RunsTo ends id (message_received p now draw read x)) (sym own.read) (go d.message own.message)
  where
    turned : (a : ℕ) (y : ℕ → ReceiverState) → a ≡ id → RunsTo ends id (y id) → RunsTo ends id (y a)
    turned a y e f = subst (λ (n : ℕ). RunsTo ends id (y n)) (sym e) f

    go : (m : Message) → IsOwnMessage p id m → RunsTo ends id (message_received p now draw (ok_of m) x)
    go (Info m) is = turned m.head.instance (λ n. in_instance p now draw m.head.source n m.head.object (info_received p m) x) is.1
        (in_runs p now draw ends id m.head.source m.head.object (info_received p m) (λ index y f. f) x k)
    go (Data m) is = turned m.head.instance (λ n. in_instance p now draw m.head.source n m.head.object (data_received p m) x) is.1
        (in_runs p now draw ends id m.head.source m.head.object (data_received p m) (λ index y f. f) x k)
    go (Flush m) is = turned m.head.instance (λ n. in_instance p now draw m.head.source n m.object (flush_received m) x) is.1
        (in_runs p now draw ends id m.head.source m.object (flush_received m) (λ index y f. f) x k)
    go (Squelch m) is = turned m.head.instance (λ n. in_instance p now draw m.head.source n m.object (squelch_received p m) x) is.1
        (in_runs p now draw ends id m.head.source m.object (squelch_received p m) (λ index y f. f) x k)
    go (Eot m) is = absurd is
    go (RepairAdv m) is = absurd is
    go (AckReq m) is = absurd is
    go (Opaque m) is = absurd is
    go (Nack m) is = absurd is
    go (Ack m) is = absurd is
    go (Report m) is = absurd is

module _ (p : Settings) (events : List Event) (last : ℕ) (draws : ℕ → ℕ) (ph : Phase) (h : InPhase p events last ph) (spent : is_spent p (run p events) ≡ true) where
  abbrev s : SenderState
  s = (run p events).sender

  abbrev u : SenderState
  u = (tail_turn p draws (last + p.step) (course_from (run p events))).world.sender

  pub have : have_wanted p (run p events) ≡ true
  have = (both (length (all_new p s) == 0) (have_wanted p (run p events)) spent).1

  pub vain : ClosesInVain p (last + p.step) (run p events)
  vain = inr (have, h.no_less)

  -- the window stays
  same_current : u.current ≡ s.current
  same_current = (stays p events last draws h.follows h.may h.no_less).current

  -- what the round asks for it goes on to ask for, if it stays open
  asks_after : closed_where_due p (last + p.step) (run p events).sender ≡ (run p events).sender
      → AsksOn p (run p events).sender (tail_turn p draws (last + p.step) (course_from (run p events))).world.sender
  asks_after same =
      round_keeps p draws (last + p.step) Kept each (λ d n k. k) (sender_ticks p (last + p.step) (course_from (run p events)))
      (tells_keep p draws (last + p.step) Kept each (λ d n k. k) (comes p (Ticked p.sender (last + p.step)) (course_from (run p events)))
      (subst (AsksOn p s) (sym (own_tick p (run p events) (last + p.step)))
      (subst (λ (x : SenderState). AsksOn p x (ticked p s (last + p.step)).0) same (tick_on p s (last + p.step)))))
    where
      Kept : Course → Type 0
      Kept d = AsksOn p s d.world.sender

      each : (e : Event) → Quiet p e → IsAt (last + p.step) e → (d : Course) → AsksOn p s d.world.sender → AsksOn p s (comes p e d).world.sender
      each e quiet at d k = asks_both p s d.world.sender (world_step p d.world e).0.sender k (event_on p d.world e quiet)

  -- ---- a member that is asked for

  module _ (node : ℕ) (other : (node == p.sender) ≡ false) (member : has_member node (run p events).sender ≡ true) (r t : ReceiverState)
      (found : receiver_at (run p events) node ≡ Some r)
      (is : receiver_at (tail_turn p draws (last + p.step) (course_from (run p events))).world node ≡ Some t) where
    pub same : SameAfter p (run p events).sender (tail_turn p draws (last + p.step) (course_from (run p events))).world.sender r t
    same = member_same p events last draws ph h spent node other member r t found is

    -- its round does not close: it would leave less
    pub none_closes : is_asked p (run p events).sender r ≡ true → closed_where_due p (last + p.step) (run p events).sender ≡ (run p events).sender
    none_closes asked = go (closing p (last + p.step) s)
      where
        of : (y : Want) × In y (in_window p s) × ((not (has p s r y) && asks_open p s y) ≡ true)
        of = of_any (λ (y : Want). not (has p s r y) && asks_open p s y) (in_window p s) asked

        two : (not (has p s r of.0) ≡ true) × (asks_open p s of.0 ≡ true)
        two = both (not (has p s r of.0)) (asks_open p s of.0) of.2

        lacked : all_have p (run p events) of.0 ≡ false
        lacked = by (all_have p (run p events) of.0) refl
          where
            by : (b : Bool) → all_have p (run p events) of.0 ≡ b → b ≡ false
            by false e = refl
            by true e = absurd (clash (sym (ap not (member_has p (run p events) of.0 e node r found member)) ∙ two.0))

        go : Closing p (last + p.step) (run p events).sender → closed_where_due p (last + p.step) (run p events).sender ≡ (run p events).sender
        go (Open e) = e
        go (Closes x open_then due e) =
            let in_round : asks p s x of.0 ≡ true =
            sym (ap (λ (o : Option Round). elim o as (λ _. Bool) [ Some y ↦ asks p s y of.0 | None ↦ false ]) open_then) ∙ two.1 in
            let less = (closings_help.helps p h.follows.profile events h.may.lawful h.may.jobs have x of.0 (contained of.0 (in_window p s) of.1) lacked in_round).less in
            let no_less : left p (with_closed p x (run p events)) ≡ left p (run p events) =
            subst (λ (y : SenderState). left p (record (run p events) { sender = y }) ≡ left p (run p events)) e h.no_less in
            absurd (omega (arith, less, no_less))

    pub asked_after : is_asked p (run p events).sender r ≡ true → is_asked p (tail_turn p draws (last + p.step) (course_from (run p events))).world.sender t ≡ true
    asked_after asked =
        any_so (λ (y : Want). not (has p u t y) && asks_open p u y) of.0 (in_window p u)
        (subst (λ (i : Instance). In of.0 (in_window p (record u { current = i }))) (sym same_current) of.1)
        (and_so (not (has p u t of.0)) (asks_open p u of.0) (ap not (same.has of.0) ∙ two.0) ((asks_after (none_closes asked)).asks of.0 two.1))
      where
        of : (y : Want) × In y (in_window p s) × ((not (has p s r y) && asks_open p s y) ≡ true)
        of = of_any (λ (y : Want). not (has p s r y) && asks_open p s y) (in_window p s) asked

        two : (not (has p s r of.0) ≡ true) × (asks_open p s of.0 ≡ true)
        two = both (not (has p s r of.0)) (asks_open p s of.0) of.2

    -- what is asked for it
    pub asked_of : AskedOf p (tail_turn p draws (last + p.step) (course_from (run p events))).world.sender
        (tail_turn p draws (last + p.step) (course_from (run p events))).world.sender t
        → is_asked p (tail_turn p draws (last + p.step) (course_from (run p events))).world.sender t ≡ true
    asked_of a =
        any_so (λ (y : Want). not (has p u t y) && asks_open p u y) a.y (in_window p u) (in_contained a.y (in_window p u) a.within)
        (and_so (not (has p u t a.y)) (asks_open p u a.y) (ap not a.lacks) a.asked)

    -- ---- a member that backs off, and needs something after the turn

    -- a back-off that runs on ends as it did
    pub runs_on : (ends : ℕ) → r.knows.backoff ≡ Some ends → is_in r (run p events).sender.current.id ≡ true → IfSome t.knows.backoff (λ m. m ≡ ends)
    runs_on ends backs inside =
        node_turn p h.follows.profile events h.may node other draws (last + p.step) (RunsTo ends s.current.id) S
        (record { heard = λ x heard k. k }) (λ x k. k) (record { heard = λ x heard k. k }) ticks r found
        (backs, in_instance_is r s.current.id inside)
        (λ d gives x draw k. own_runs p (last + p.step) draw ends s.current.id d
        (members_enter.own p h.follows.profile events h.may.lawful h.may.jobs (last + p.step) d gives) x k) t is
      where
        S : ReceiverState → Type 0
        S x = IfSome x.knows.backoff (λ m. m ≡ ends)

        ticks : (x : ReceiverState) → RunsTo ends (run p events).sender.current.id x → S (receiver_ticked p x (last + p.step)).0
        ticks x k = go (tick_keeps p x (last + p.step)).backoff
          where
            go : ((receiver_ticked p x (last + p.step)).0.knows.backoff ≡ x.knows.backoff) ⊎ ((receiver_ticked p x (last + p.step)).0.knows.backoff ≡ None)
                → S (receiver_ticked p x (last + p.step)).0
            go (inl e) = subst (λ (o : Option ℕ). IfSome o (λ m. m ≡ ends)) (sym (e ∙ k.0)) refl
            go (inr e) = subst (λ (o : Option ℕ). IfSome o (λ m. m ≡ ends)) (sym e) tt

    -- a clean one runs on, or the member is asked for
    pub waits_after : (ends by : ℕ) → r.knows.backoff ≡ Some ends → ends ≤ by → is_clean p (run p events).sender r ≡ true → needs_nothing p t ≡ false
        → (is_asked p (tail_turn p draws (last + p.step) (course_from (run p events))).world.sender t
        || elim t.knows.backoff [ Some m ↦ nat_le m by | None ↦ false ]) ≡ true
    waits_after ends by backs le clean needs = go t.knows.backoff refl
      where
        inside : is_in r s.current.id ≡ true
        inside = (both (is_in r s.current.id) (list_all (λ y. not (hears_of p s r y) || asks_open p s y) (in_window p s)) clean).0

        or_so : (a b : Bool) → (a ≡ true) ⊎ (b ≡ true) → (a || b) ≡ true
        or_so true b e = refl
        or_so false b (inl e) = absurd (clash e)
        or_so false b (inr e) = e

        by_case : (o : Option ℕ) → (is_asked p u t ≡ true) ⊎ ((elim o as (λ _. Bool) [ Some m ↦ nat_le m by | None ↦ false ]) ≡ true)
            → (is_asked p u t || elim o [ Some m ↦ nat_le m by | None ↦ false ]) ≡ true
        by_case o e = or_so (is_asked p u t) (elim o as (λ _. Bool) [ Some m ↦ nat_le m by | None ↦ false ]) e

        ended : IsAsked p u t → is_asked p u t ≡ true
        ended (inl none) = absurd (clash (sym needs ∙ none))
        ended (inr a) = asked_of a

        go : (o : Option ℕ) → t.knows.backoff ≡ o → (is_asked p u t || elim t.knows.backoff [ Some m ↦ nat_le m by | None ↦ false ]) ≡ true
        go None e =
            by_case t.knows.backoff
            (inl (ended (back_off_ends p h.follows.profile h.holds events h.may h.none draws (last + p.step) vain node member r t found
            (ap (λ (o : Option ℕ). is_some o) backs) clean is e)))
        go (Some m) e =
            by_case t.knows.backoff (inr (ap (λ (o : Option ℕ). elim o as (λ _. Bool) [ Some m ↦ nat_le m by | None ↦ false ]) e
            ∙ le_so m by (let same = subst (λ (o : Option ℕ). IfSome o (λ m. m ≡ ends)) e (runs_on ends backs inside) in omega (arith, same, le))))
