-- Over a turn that closes no round, or one in vain, a member is held off no longer, or is asked for, if it did not back off or was clean.
use Rattle.std.proofs.Common.{◌≡◌, ℕ, List, [], ◌∷◌, ◌++◌, flat_map, Bool, true, false, Option, None, Some, Result, Ok, refl, sym, ap, ◌∙◌, subst, ◌⊎◌, inl, inr}
use Rattle.std.specs.Prelude.{Contains, ◌==◌, find, nat_lt, nat_le, ◌||◌, is_some, unwrap_or, option_and_then}
use Rattle.norm_base.specs.Members.{receivers_of}
use Rattle.norm_base.specs.Settings.{Settings, InRange}
use Rattle.norm_base.specs.declared.kinds.Mode.TheVariants.{Hold}
use Rattle.fec_plan.specs.declared.position.Position.{Position}
use Rattle.norm_ext.specs.Message.{Message, Info, Data, Flush, Eot, Squelch, RepairAdv, AckReq, Opaque, Nack, Ack, Report}
use Rattle.norm_ext.specs.ObjectIds.{index_named}
use Rattle.norm_ext.specs.Written.{Written, writes}
use Rattle.norm_ext.specs.declared.refusal.Refusal.{Refusal}
use Rattle.norm_receive_rules.specs.AllNeeds.{needs, needs_nothing}
use Rattle.norm_receive_rules.specs.BackingOff.{may_back_off, backs_off, backs_off_for_needs, may_need}
use Rattle.norm_receive_rules.specs.Leaving.{is_in, enters, goes_to}
use Rattle.norm_receive_rules.specs.Nack.{indices_of, fitting, nack_message, ack_message}
use Rattle.norm_receive_rules.specs.Needs.{Need}
use Rattle.norm_receive_rules.specs.ReceiverState.{ReceiverState}
use Rattle.norm_receive_rules.specs.Receiving.{info_received, data_received, flush_received, squelch_received, learns, takes_in, in_instance, message_received, received}
use Rattle.norm_receive_rules.specs.Ticking.{sends as receiver_sends, holds_off, are_heard, asks, asks_where_needed, ends_back_off, ticked as receiver_ticked}
use Rattle.norm_send_rules.specs.Repairable.{streams}
use Rattle.norm_send_rules.specs.SenderState.{SenderState, Instance}
use Rattle.norm_send_rules.specs.Ticking.{ticked}
use Rattle.norm_send_rules.specs.Watermarks.{has_member}
use Rattle.norm_safety.specs.Events.{Event}
use Rattle.norm_safety.specs.Tail.{Course, course_from, events_of, passes_on, sender_ticks, tail_turn}
use Rattle.norm_safety.specs.World.{World, receiver_at}
use Rattle.norm_safety.specs.WorldStep.{run}
use Rattle.norm_safety.proofs.EntryLemmas.{clash}
use Rattle.norm_safety.proofs.FreshRun.{receivers_rise}
use Rattle.norm_safety.proofs.ReceiverMoves.{in_instance_is}
use Rattle.norm_safety.proofs.WorldLemmas.{world_laws}
use Rattle.norm_laws.proofs.LaterTailLemmas.{not_sender}
use Rattle.norm_recovery.specs.BackOffEnds.{IsAsked}
use Rattle.norm_recovery.specs.Clean.{is_clean, is_clean_from, ClosesInVain}
use Rattle.norm_recovery.specs.MembersEnter.{IsOwn, IsOwnMessage}
use Rattle.norm_recovery.specs.NackAsks.{AskedOf}
use Rattle.norm_recovery.specs.TailKeeps.{Stays}
use Rattle.norm_recovery.specs.TailLawful.{MayGoOn, GoesOn}
use Rattle.norm_recovery.proofs.BackOffTurn.{Outcome, all_served as all_ended, back_off_ends}
use Rattle.norm_recovery.proofs.CleanTurn.{each_there, clean_passed}
use Rattle.norm_recovery.proofs.KeepsSender.{quiet_run_stays}
use Rattle.norm_recovery.proofs.LawfulTail.{goes_on}
use Rattle.norm_recovery.proofs.MembersEnter.{members_enter, enters_in_run}
use Rattle.norm_recovery.proofs.NodeTurn.{Plain, Holds, Hears, holding, passed_holds, all_served, node_turn}
use Rattle.norm_recovery.proofs.ServeWalk.{has_receiver}
use Rattle.norm_recovery.proofs.TailWalk.{no_receiver}

no_some : {X : Type 0} (x : X) → None ≡ Some x → ⊥
no_some x e = cc

-- ---- one step

-- held off as before, or not at all
abbrev pub IsOff : ℕ → ReceiverState → Type 0
IsOff n t = (t.knows.holdoff ≡ n) ⊎ (t.knows.holdoff ≡ 0)

-- or a back-off ended while something was needed
abbrev pub IsOffOr : Settings → ℕ → ReceiverState → Type 0
IsOffOr p n t = IsOff n t ⊎ ((t.knows.backoff ≡ None) × (needs_nothing p t ≡ false))

-- A tick holds its receiver off as before; or its back-off ended, and something is needed.
data Ticks (p : Settings) (r t : ReceiverState) : Type 0 where
  As : t.knows.holdoff ≡ r.knows.holdoff → Ticks p r t
  Ends : is_some r.knows.backoff ≡ true → t.knows.backoff ≡ None → needs_nothing p t ≡ false → Ticks p r t

tick_off : (p : Settings) (r : ReceiverState) (now : ℕ) → Ticks p r (receiver_ticked p r now).0
tick_off p r now = due r.knows.due
  where
    t : ReceiverState
    t = record r { knows = record (r.knows) { backoff = None } }

    state_of : ReceiverState × Option Written → ReceiverState
    state_of step = step.0

    asked : is_some r.knows.backoff ≡ true → needs_nothing p t ≡ false → (wanted : List Need) (all : Bool) → Ticks p r (state_of (elim all [
      | true ↦ (record t { knows = holds_off p now t.knows }, None)
      | false ↦ receiver_sends (writes (nack_message p t wanted) (flat_map indices_of wanted)) (record t { knows = holds_off p now t.knows })
    ]))
    asked runs e wanted true = Ends runs refl e
    asked runs e wanted false = Ends runs refl e

    needed : is_some r.knows.backoff ≡ true → (none : Bool) → needs_nothing p t ≡ none
        → Ticks p r (state_of (elim none [ true ↦ (t, None) | false ↦ asks p now (fitting p (needs p t) None p.e) t ]))
    needed runs true e = As refl
    needed runs false e = asked runs e (fitting p (needs p t) None p.e) (are_heard t (fitting p (needs p t) None p.e))

    ended : is_some r.knows.backoff ≡ true → (reached : Bool) → Ticks p r (state_of (elim reached [ true ↦ asks_where_needed p now t | false ↦ (r, None) ]))
    ended runs true = needed runs (needs_nothing p t) refl
    ended runs false = As refl

    backed : (backoff : Option ℕ) → r.knows.backoff ≡ backoff
        → Ticks p r (state_of (elim backoff [ Some ends ↦ elim (nat_le ends now) [ true ↦ asks_where_needed p now t | false ↦ (r, None) ] | None ↦ (r, None) ]))
    backed None e = As refl
    backed (Some ends) e = ended (ap (λ (o : Option ℕ). is_some o) e) (nat_le ends now)

    due : (at : Option Position) → Ticks p r (state_of (elim at [
      | Some at ↦ receiver_sends (writes (ack_message p r at) (at.index ∷ [])) (record r { knows = record (r.knows) { due = None } })
      | None ↦ ends_back_off p now r
    ]))
    due None = backed r.knows.backoff refl
    due (Some at) = As refl

need_off : (p : Settings) (now draw : ℕ) (t : ReceiverState) → (may_need p now draw t).knows.holdoff ≡ t.knows.holdoff
need_off p now draw t = go (may_back_off now t.knows)
  where
    needed : (none : Bool) → (elim none as (λ _. ReceiverState) [ true ↦ t | false ↦ record t { knows = backs_off p now draw t.knows } ]).knows.holdoff ≡ t.knows.holdoff
    needed true = refl
    needed false = refl

    go : (b : Bool) → (elim b as (λ _. ReceiverState) [ true ↦ backs_off_for_needs p now draw t | false ↦ t ]).knows.holdoff ≡ t.knows.holdoff
    go true = needed (needs_nothing p t)
    go false = refl

in_off : (p : Settings) (now draw source id object : ℕ) (does : ℕ → ReceiverState → ReceiverState)
    → ((index : ℕ) (t : ReceiverState) → (does index t).knows.holdoff ≡ t.knows.holdoff) → (r : ReceiverState)
    → IsOff r.knows.holdoff (in_instance p now draw source id object does r)
in_off p now draw source id object does same r = go (source == p.sender)
  where
    learnt : ReceiverState → ℕ → ReceiverState
    learnt t index = record t { knows = learns index t.knows }

    of : ReceiverState → Option ℕ → ReceiverState
    of t found = unwrap_or (elim found as (λ _. Option ReceiverState) [ Some index ↦ Some (may_need p now draw (does index (learnt t index))) | None ↦ None ]) r

    names : (t : ReceiverState) → IsOff r.knows.holdoff t → (found : Option ℕ) → IsOff r.knows.holdoff (of t found)
    names t (inl e) (Some index) = inl (need_off p now draw (does index (learnt t index)) ∙ same index (learnt t index) ∙ e)
    names t (inr e) (Some index) = inr (need_off p now draw (does index (learnt t index)) ∙ same index (learnt t index) ∙ e)
    names t h None = inl refl

    above : (b : Bool)
        → IsOff r.knows.holdoff (unwrap_or (option_and_then (takes_in p now draw object does) (elim b as (λ _. Option ReceiverState) [ true ↦ Some (enters id r) | false ↦ None ])) r)
    above true = names (enters id r) (inr refl) (index_named p (enters id r).knows.known object)
    above false = inl refl

    within : (b : Bool) → IsOff r.knows.holdoff (unwrap_or (option_and_then (takes_in p now draw object does) (elim b as (λ _. Option ReceiverState) [
      | true ↦ Some r
      | false ↦ elim (goes_to r id) [ true ↦ Some (enters id r) | false ↦ None ]
    ])) r)
    within true = names r (inl refl) (index_named p r.knows.known object)
    within false = above (goes_to r id)

    go : (b : Bool) → IsOff r.knows.holdoff (elim b as (λ _. ReceiverState) [
      | true ↦ unwrap_or (option_and_then (takes_in p now draw object does) (elim (is_in r id) as (λ _. Option ReceiverState) [
        | true ↦ Some r
        | false ↦ elim (goes_to r id) [ true ↦ Some (enters id r) | false ↦ None ]
      ])) r
      | false ↦ r
    ])
    go true = within (is_in r id)
    go false = inl refl

abbrev ok_of : Message → Result Message Refusal
ok_of m = Ok m

-- what it hears of the sender holds it off no longer
own_off : (p : Settings) (id now draw : ℕ) (d : Written) → IsOwn p id d → (r : ReceiverState) → IsOff r.knows.holdoff (received p r d.octets now draw)
own_off p id now draw d own r = subst (λ (read : Result Message Refusal). IsOff r.knows.holdoff (message_received p now draw read r)) (sym own.read) (go d.message own.message)
  where
    go : (m : Message) → IsOwnMessage p id m → IsOff r.knows.holdoff (message_received p now draw (ok_of m) r)
    go (Info m) is = in_off p now draw m.head.source m.head.instance m.head.object (info_received p m) (λ index t. refl) r
    go (Data m) is = in_off p now draw m.head.source m.head.instance m.head.object (data_received p m) (λ index t. refl) r
    go (Flush m) is = in_off p now draw m.head.source m.head.instance m.object (flush_received m) (λ index t. refl) r
    go (Squelch m) is = in_off p now draw m.head.source m.head.instance m.object (squelch_received p m) (λ index t. refl) r
    go (Eot m) is = absurd is
    go (RepairAdv m) is = absurd is
    go (AckReq m) is = absurd is
    go (Opaque m) is = absurd is
    go (Nack m) is = absurd is
    go (Ack m) is = absurd is
    go (Report m) is = absurd is

off_both : (n : ℕ) (r t : ReceiverState) → IsOff n r → IsOff r.knows.holdoff t → IsOff n t
off_both n r t (inl e) (inl f) = inl (f ∙ e)
off_both n r t (inr e) (inl f) = inr (f ∙ e)
off_both n r t h (inr f) = inr f

off_plain : (n : ℕ) → Plain (IsOff n)
off_plain n = record { heard = λ r heard h. h }

or_plain : (p : Settings) (n : ℕ) → Plain (IsOffOr p n)
or_plain p n = record { heard = λ r heard h. h }

off_ticks : (p : Settings) (n now : ℕ) (r : ReceiverState) → IsOff n r → IsOffOr p n (receiver_ticked p r now).0
off_ticks p n now r h = go (tick_off p r now)
  where
    as_before : (t : ReceiverState) → t.knows.holdoff ≡ r.knows.holdoff → IsOff n r → IsOff n t
    as_before t e (inl f) = inl (e ∙ f)
    as_before t e (inr f) = inr (e ∙ f)

    go : Ticks p r (receiver_ticked p r now).0 → IsOffOr p n (receiver_ticked p r now).0
    go (As e) = inl (as_before (receiver_ticked p r now).0 e h)
    go (Ends runs none some) = inr (none, some)

-- ---- the turn

module _ (p : Settings) (range : InRange p) (hold : p.mode ≡ Hold) (events : List Event) (may : MayGoOn p events) (none : streams (run p events).sender ≡ 0)
    (draws : ℕ → ℕ) (now : ℕ) (vain : ClosesInVain p now (run p events)) (node : ℕ) (other : (node == p.sender) ≡ false) (r : ReceiverState)
    (found : receiver_at (run p events) node ≡ Some r) (member : has_member node (run p events).sender ≡ true) where
  abbrev s : SenderState
  s = (run p events).sender

  abbrev after : World
  after = (tail_turn p draws now (course_from (run p events))).world

  -- it is held off no longer, or is asked for
  abbrev pub Ends_so : ReceiverState → Type 0
  Ends_so t = IsOff r.knows.holdoff t
      ⊎ AskedOf p (tail_turn p draws now (course_from (run p events))).world.sender (tail_turn p draws now (course_from (run p events))).world.sender t

  own_of : (d : Written) → (ticked p (run p events).sender now).1 ≡ Some d → IsOwn p (run p events).sender.current.id d
  own_of d gives = members_enter.own p range events may.lawful may.jobs now d gives

  off_turn : (t : ReceiverState) → receiver_at (tail_turn p draws now (course_from (run p events))).world node ≡ Some t → IsOffOr p r.knows.holdoff t
  off_turn t is =
      node_turn p range events may node other draws now (IsOff r.knows.holdoff) (IsOffOr p r.knows.holdoff) (off_plain r.knows.holdoff) (λ x h. h) (or_plain p r.knows.holdoff)
      (λ x h. off_ticks p r.knows.holdoff now x h) r found (inl refl)
      (λ d gives x draw h. off_both r.knows.holdoff x (received p x d.octets now draw) h (own_off p s.current.id now draw d (own_of d gives) x)) t is

  by_asked : (t : ReceiverState) → (t.knows.backoff ≡ None) × (needs_nothing p t ≡ false) → IsAsked p after.sender t → Ends_so t
  by_asked t ends (inl nothing) = absurd (clash (sym ends.1 ∙ nothing))
  by_asked t ends (inr a) = inr a

  -- it backed off, and was clean
  backed_turn : is_some r.knows.backoff ≡ true → is_clean p (run p events).sender r ≡ true → (t : ReceiverState)
      → receiver_at (tail_turn p draws now (course_from (run p events))).world node ≡ Some t → Ends_so t
  backed_turn runs clean t is = go (off_turn t is)
    where
      go : IsOffOr p r.knows.holdoff t → Ends_so t
      go (inl off) = inl off
      go (inr ends) =
          by_asked t ends (back_off_ends p range hold events may none draws now vain node member r t found runs clean is ends.0)

  -- ---- it did not back off

  module _ (rests : r.knows.backoff ≡ None) where
    abbrev passed_c : Course
    passed_c = passes_on p draws now (sender_ticks p now (course_from (run p events))) p.sender

    -- up to when receivers are served, it does not back off, or is in the instance
    abbrev Before : ReceiverState → Type 0
    Before x = IsOff r.knows.holdoff x × ((x.knows.backoff ≡ None) ⊎ (is_in x (run p events).sender.current.id ≡ true))

    before_plain : Plain Before
    before_plain = record { heard = λ x heard h. h }

    hears : (d : Written) → (ticked p (run p events).sender now).1 ≡ Some d → Hears p range events may node other draws now Before before_plain d
    hears d gives c calm offered draw may_come x there h =
        (off_both r.knows.holdoff x (received p x d.octets now draw) h.0 (own_off p s.current.id now draw d (own_of d gives) x), inr inside)
      where
        on : GoesOn p events c
        on = goes_on p range events may c calm

        stays : Stays (run p events).sender (run p (events ++ events_of c)).sender
        stays = subst (λ (v : World). Stays (run p events).sender v.sender) (calm.leads ∙ sym on.leads) (quiet_run_stays p (run p events) (events_of c) calm.quiet)

        inside : is_in (received p x d.octets now draw) (run p events).sender.current.id ≡ true
        inside =
            subst (λ (i : Instance). is_in (received p x d.octets now draw) i.id ≡ true) stays.current
            (enters_in_run p range (events ++ events_of c) on.again.lawful on.again.jobs on.again.few p.sender d
            (subst (λ (v : World). Contains v.offered (p.sender, d)) (sym on.leads) offered) (subst (λ (i : Instance). IsOwn p i.id d) (sym stays.current) (own_of d gives)) node x
            (ap (λ (v : World). receiver_at v node) on.leads ∙ there) now draw)

    at_pass : Holds p range events may node other draws now Before before_plain passed_c
    at_pass = passed_holds p range events may node other draws now Before before_plain r found (inl refl, inl rests) hears

    there0 : find (λ (to : ℕ). to == node) (receivers_of p p.receivers) ≡ None → ⊥
    there0 nobody = no_some r (sym (no_receiver node (run p events).receivers (ap (find (λ (n : ℕ). n == node)) (world_laws.nodes p events) ∙ nobody)) ∙ found)

    who : (x : ReceiverState) × (receiver_at passed_c.world node ≡ Some x)
    who = has_receiver p range events may node other draws now (Holds p range events may node other draws now Before before_plain)
        (holding p range events may node other draws now Before before_plain) passed_c at_pass.calm node there0

    -- its tick ends no back-off
    abbrev Quiet : ReceiverState → Type 0
    Quiet x = IsOff r.knows.holdoff x × (x.knows.backoff ≡ None)

    quiet_ticks : (x : ReceiverState) → Quiet x → IsOff r.knows.holdoff (receiver_ticked p x now).0
    quiet_ticks x h = go (tick_off p x now)
      where
        as_before : (t : ReceiverState) → t.knows.holdoff ≡ x.knows.holdoff → IsOff r.knows.holdoff x → IsOff r.knows.holdoff t
        as_before t e (inl f) = inl (e ∙ f)
        as_before t e (inr f) = inr (e ∙ f)

        go : Ticks p x (receiver_ticked p x now).0 → IsOff r.knows.holdoff (receiver_ticked p x now).0
        go (As e) = as_before (receiver_ticked p x now).0 e h.0
        go (Ends runs n some) = absurd (clash (sym (ap (λ (o : Option ℕ). is_some o) h.1) ∙ runs))

    never : who.0.knows.backoff ≡ None → (t : ReceiverState) → receiver_at (tail_turn p draws now (course_from (run p events))).world node ≡ Some t → IsOff r.knows.holdoff t
    never no_backoff t is =
        (all_served p range events may node other draws now Quiet (IsOff r.knows.holdoff) (record { heard = λ x heard h. h }) (λ x h. h)
        (off_plain r.knows.holdoff) quiet_ticks r found (receivers_of p p.receivers) (not_sender p p.receivers) (each_there (receivers_of p p.receivers))
        (receivers_rise p p.receivers).1 there0 passed_c (record {
          calm = at_pass.calm;
          so = λ x there. subst Quiet (same_some who.0 x (sym who.1 ∙ there)) ((at_pass.so who.0 who.1).0, no_backoff);
        })).so t is
      where
        same_some : (x y : ReceiverState) → Some x ≡ Some y → x ≡ y
        same_some x y e = cc

    clean_so : is_clean_from 0 p (ticked p (run p events).sender now).0 r ≡ true
    clean_so = ap (λ (o : Option ℕ). elim o as (λ _. Bool) [ Some ends ↦ nat_lt ends 0 || is_clean p (ticked p (run p events).sender now).0 r | None ↦ true ]) rests

    fresh_turn : (t : ReceiverState) → receiver_at (tail_turn p draws now (course_from (run p events))).world node ≡ Some t → Ends_so t
    fresh_turn t is = go who.0.knows.backoff refl
      where
        go : (o : Option ℕ) → who.0.knows.backoff ≡ o → Ends_so t
        go None e = inl (never e t is)
        go (Some ends) e = by (off_turn t is)
          where
            inside : is_in who.0 (run p events).sender.current.id ≡ true
            inside = pick (at_pass.so who.0 who.1).1
              where
                pick : (who.0.knows.backoff ≡ None) ⊎ (is_in who.0 (run p events).sender.current.id ≡ true) → is_in who.0 (run p events).sender.current.id ≡ true
                pick (inl rest) = absurd (no_some ends (sym rest ∙ e))
                pick (inr within) = within

            ended : Outcome p range events may node other (tail_turn p draws now (course_from (run p events))).world.sender t
            ended = (all_ended p range events may node other draws now hold none member (receivers_of p p.receivers) (not_sender p p.receivers)
                (each_there (receivers_of p p.receivers)) (receivers_rise p p.receivers).1 there0 passed_c
                (clean_passed p range events may draws now 0 node other r found clean_so) (record {
                  calm = at_pass.calm;
                  r = who.0;
                  found = who.1;
                  runs = ap (λ (o : Option ℕ). is_some o) e;
                  inside = in_instance_is who.0 (run p events).sender.current.id inside;
                })).so t is

            by : IsOffOr p r.knows.holdoff t → Ends_so t
            by (inl off) = inl off
            by (inr ends_so) = stopped ended
              where
                stopped : Outcome p range events may node other (tail_turn p draws now (course_from (run p events))).world.sender t → Ends_so t
                stopped (inl runs) = absurd (clash (sym (ap (λ (o : Option ℕ). is_some o) ends_so.0) ∙ runs))
                stopped (inr asked) = by_asked t ends_so asked

  -- it did not back off, or was clean
  pub held_turn : (r.knows.backoff ≡ None) ⊎ (is_clean p (run p events).sender r ≡ true) → (t : ReceiverState)
      → receiver_at (tail_turn p draws now (course_from (run p events))).world node ≡ Some t → Ends_so t
  held_turn (inl rests) t is = fresh_turn rests t is
  held_turn (inr clean) t is = go r.knows.backoff refl
    where
      go : (o : Option ℕ) → r.knows.backoff ≡ o → Ends_so t
      go None e = fresh_turn e t is
      go (Some ends) e = backed_turn (ap (λ (o : Option ℕ). is_some o) e) clean t is
