-- In the turn in which a clean back-off of a member ends, the open round comes to ask for something that it lacks.
use Rattle.std.proofs.Common.{◌≡◌, ℕ, List, [], ◌∷◌, ◌++◌, Bool, true, false, Option, None, Some, refl, sym, ap, ◌∙◌, subst, arith, ◌⊎◌, inl, inr}
use Rattle.std.specs.Prelude.{Contains, ◌==◌, ◌&&◌, ◌||◌, not, cond, find, fold, is_some}
use Rattle.std.specs.List.{AllByRecursion, list_all}
use Rattle.std.proofs.lemmas.Bool.Decides.{Decides-eqb}
use Rattle.norm_base.specs.Members.{receivers_of}
use Rattle.norm_base.specs.Settings.{Settings, InRange}
use Rattle.norm_base.specs.declared.kinds.Mode.TheVariants.{Hold}
use Rattle.norm_ext.specs.Asking.{Named}
use Rattle.norm_ext.specs.Message.{Nack, NackMessage}
use Rattle.norm_ext.specs.Reading.{decoded}
use Rattle.norm_ext.specs.Written.{Written}
use Rattle.norm_receive_rules.specs.Heard.{Heard, heard_all}
use Rattle.norm_receive_rules.specs.HeardNeeds.{is_heard}
use Rattle.norm_receive_rules.specs.AllNeeds.{needs_nothing}
use Rattle.norm_receive_rules.specs.Leaving.{is_in}
use Rattle.norm_receive_rules.specs.Needs.{Need}
use Rattle.norm_receive_rules.specs.ReceiverState.{ReceiverState}
use Rattle.norm_receive_rules.specs.ReceiverStep.{ReceiverEvent, receiver_step}
use Rattle.norm_receive_rules.specs.ReceiverStep as receiver
use Rattle.norm_receive_rules.specs.Receiving.{received}
use Rattle.norm_receive_rules.specs.Ticking.{are_heard, ticked as receiver_ticked}
use Rattle.norm_send_rules.specs.Hearing.{heard}
use Rattle.norm_send_rules.specs.InWindow.{current_shapes}
use Rattle.norm_send_rules.specs.Repairable.{streams}
use Rattle.norm_send_rules.specs.SenderState.{SenderState, Instance}
use Rattle.norm_send_rules.specs.Watermarks.{has_member}
use Rattle.norm_send_rules.specs.declared.want.Want.{Want}
use Rattle.norm_send_rules.specs.declared.want.Want.TheVariants as want
use Rattle.norm_send_rules.proofs.ReachedLemmas.{reached_laws}
use Rattle.norm_safety.specs.Events.{Event, Commanded, Delivered, Ticked, Offered, UpTaken, NewsAsked}
use Rattle.norm_safety.specs.Lawful.{AllTaken}
use Rattle.norm_safety.specs.Tail.{Course, course_from, events_of, comes, untold, untaken, takes, given_by, passes_on, sender_ticks, serves, tail_turn}
use Rattle.norm_safety.specs.World.{World, receiver_at}
use Rattle.norm_safety.specs.WorldLaws.{is_senders, to_receiver, comes_to}
use Rattle.norm_safety.specs.WorldStep.{world_step, run}
use Rattle.norm_safety.proofs.EntryLemmas.{clash}
use Rattle.norm_safety.proofs.FreshRun.{Differ, receivers_rise}
use Rattle.norm_safety.proofs.ReceiverMoves.{in_instance_is}
use Rattle.norm_safety.proofs.WorldLemmas.{world_laws}
use Rattle.norm_laws.proofs.LaterTailLemmas.{Quiet, not_sender}
use Rattle.norm_recovery.specs.BackOffEnds.{IsAsked, BackOffEnds}
use Rattle.norm_recovery.specs.Clean.{heard_asks, hears_of, is_clean}
use Rattle.norm_recovery.specs.Left.{has, in_window}
use Rattle.norm_recovery.specs.NackAsks.{AskedOf}
use Rattle.norm_recovery.specs.NeedLacks.{LacksOf}
use Rattle.norm_recovery.specs.RoundAsks.{asks_open, is_info_or_source}
use Rattle.norm_recovery.specs.TailKeeps.{Stays}
use Rattle.norm_recovery.specs.TailLawful.{MayGoOn, GoesOn}
use Rattle.norm_recovery.specs.TailOf.{ComesInTail}
use Rattle.norm_recovery.proofs.AsksOn.{AsksOn, event_on, message_on}
use Rattle.norm_recovery.proofs.BackOffRuns.{runs_on, feed_leaves, same_has, Holds, Comes, RunsOn, Needless, WasHeard, Nacked, tick_comes}
use Rattle.norm_recovery.proofs.CleanSteps.{both, clean_so, clean_if_runs, tick_clean}
use Rattle.norm_recovery.proofs.CleanTurn.{Clean, takes_own, kept, each_there, clean_passed}
use Rattle.norm_recovery.proofs.ClosingLists.{in_contained, of_all}
use Rattle.norm_recovery.proofs.FeedRead.{Feed, Joined, feed_of}
use Rattle.norm_recovery.proofs.FlushConfirmed.{Spares, news_spare, takes_spare, passes_spare, serves_spare}
use Rattle.norm_recovery.proofs.HeardAsks.{IsLow, need_heard}
use Rattle.norm_recovery.proofs.HeardSteps.{has_heard}
use Rattle.norm_recovery.proofs.KeepsSender.{quiet_run_stays}
use Rattle.norm_recovery.proofs.LawfulTail.{goes_on}
use Rattle.norm_recovery.proofs.LeftTurn.{same_members}
use Rattle.norm_recovery.proofs.MembersRun.{none_stays}
use Rattle.norm_recovery.proofs.NackAsks.{wanted_of, first_of, nack_asks, reach}
use Rattle.norm_recovery.proofs.NeedLacks.{need_lacks}
use Rattle.norm_recovery.proofs.PassTurn.{stays_in, is_other}
use Rattle.norm_recovery.proofs.ServeWalk.{KeptServing, tick_given, gave_passes, passes_heard, hears_is, may_hear, serves_other}
use Rattle.norm_recovery.proofs.TailCourses.{IsCalm, comes_calm, begins_calm, draw_calm}
use Rattle.norm_recovery.proofs.TailWalk.{all_are_taken, no_receiver, sender_takes_none, given_may_come}

none_some : {X : Type 0} (x : X) → None ≡ Some x → ⊥
none_some x e = cc

same_some : {X : Type 0} (x y : X) → Some x ≡ Some y → x ≡ y
same_some x y e = cc

-- ---- asked for, as the sender goes on

-- in a later state of the same instance
later_asked : (p : Settings) (s v t : SenderState) (r x : ReceiverState) → t.current ≡ s.current → x.holding ≡ r.holding → x.instance ≡ r.instance → (a : AskedOf p s v r)
    → asks_open p t a.y ≡ true → AskedOf p t t x
later_asked p s v t r x current held inside a asked = record {
  y = a.y;
  within = subst (λ (i : Instance). Contains (in_window p (record t { current = i })) a.y) (sym current) a.within;
  lacks = subst (λ (i : Instance). has p (record t { current = i }) x a.y ≡ false) (sym current) (same_has p s r x a.y held inside ∙ a.lacks);
  asked = asked;
}

asked_on : (p : Settings) (s t : SenderState) (r : ReceiverState) → AsksOn p s t → IsAsked p s r → IsAsked p t r
asked_on p s t r on (inl none) = inl none
asked_on p s t r on (inr a) = inr (later_asked p s s t r r on.current refl refl a (on.asks a.y a.asked))

-- ---- the node, before and after it is served

module _ (p : Settings) (range : InRange p) (events : List Event) (may : MayGoOn p events) (node : ℕ) (other : (node == p.sender) ≡ false) where
  -- its receiver is in the current instance and backs off
  pub record Running (c : Course) : Type 0 where
    pub calm : IsCalm p (run p events) c
    pub r : ReceiverState
    pub found : receiver_at c.world node ≡ Some r
    pub runs : is_some r.knows.backoff ≡ true
    pub inside : r.instance ≡ Some (run p events).sender.current.id

  pub running_on : (e : Event) (c : Course) → Spares node e → ComesInTail c.world e → Running c → Running (comes p e c)
  running_on e c spares comes_so h = go e spares refl
    where
      calm : IsCalm p (run p events) (comes p e c)
      calm = comes_calm p (run p events) e c comes_so h.calm

      still : receiver_at (world_step p c.world e).0 node ≡ receiver_at c.world node → Running (comes p e c)
      still same = record { calm = calm; r = h.r; found = same ∙ h.found; runs = h.runs; inside = h.inside }

      same_instance : (own : ReceiverEvent) → receiver_at (world_step p c.world e).0 node ≡ Some (receiver_step p h.r own).0
          → (receiver_step p h.r own).0.instance ≡ h.r.instance
      same_instance own found = stays_in p range events may node other (comes p e c) calm h.r (receiver_step p h.r own).0 own found refl h.inside

      by_node : (to : ℕ) (own : ReceiverEvent) → to_receiver e ≡ Some (to, own) → ((to == p.sender) ≡ false → is_senders p e ≡ false)
          → ((to == node) ≡ false → receiver_at (world_step p c.world e).0 node ≡ receiver_at c.world node)
          → (receiver_at (world_step p c.world e).0 node ≡ Some (receiver_step p h.r own).0 → Running (comes p e c)) → Running (comes p e c)
      by_node to own names theirs stays steps = by (to == node) refl
        where
          by : (b : Bool) → (to == node) ≡ b → Running (comes p e c)
          by false apart = still (stays apart)
          by true is =
              let same : to ≡ node = (Decides-eqb to node).0 is in
              steps (world_laws.moves p c.world e node own h.r (theirs (ap (λ (n : ℕ). n == p.sender) same ∙ other))
              (names ∙ ap (λ (n : ℕ). Some (n, own)) same) h.found)

      go : (x : Event) → Spares node x → e ≡ x → Running (comes p e c)
      go (Commanded by job now) spares is = still (world_laws.others p c.world e node (ap (comes_to node) is))
      go (Delivered to octets now draw) spares is =
          by_node to (receiver.Delivered octets now draw) (ap to_receiver is) (λ f. ap (is_senders p) is ∙ f)
          (λ apart. world_laws.others p c.world e node (ap (comes_to node) is ∙ apart))
          (λ found. record {
            calm = calm;
            r = (receiver_step p h.r (receiver.Delivered octets now draw)).0;
            found = found;
            runs = runs_on p h.r octets now draw h.runs (same_instance (receiver.Delivered octets now draw) found);
            inside = same_instance (receiver.Delivered octets now draw) found ∙ h.inside;
          })
      go (Ticked to now) spares is = still (world_laws.others p c.world e node (ap (comes_to node) is ∙ spares))
      go (Offered to octets) spares is = still (world_laws.others p c.world e node (ap (comes_to node) is))
      go (UpTaken to) spares is =
          by_node to receiver.UpTaken (ap to_receiver is) (λ f. ap (is_senders p) is) (λ apart. world_laws.others p c.world e node (ap (comes_to node) is ∙ apart))
          (λ found. record {
            calm = calm;
            r = (receiver_step p h.r receiver.UpTaken).0;
            found = found;
            runs = h.runs;
            inside = same_instance receiver.UpTaken found ∙ h.inside;
          })
      go NewsAsked spares is = still (world_laws.others p c.world e node (ap (comes_to node) is))

  pub running_drawn : (c : Course) (n : ℕ) → Running c → Running (record c { used = n })
  running_drawn c n h = record { calm = draw_calm p (run p events) c n h.calm; r = h.r; found = h.found; runs = h.runs; inside = h.inside }

  -- it backs off still, or is asked for
  abbrev pub Outcome : SenderState → ReceiverState → Type 0
  Outcome s t = (is_some t.knows.backoff ≡ true) ⊎ IsAsked p s t

  pub record Stopped (c : Course) : Type 0 where
    pub calm : IsCalm p (run p events) c
    pub so : (t : ReceiverState) → receiver_at c.world node ≡ Some t → Outcome c.world.sender t

  outcome_on : (s t : SenderState) (r : ReceiverState) → AsksOn p s t → Outcome s r → Outcome t r
  outcome_on s t r on (inl runs) = inl runs
  outcome_on s t r on (inr asked) = inr (asked_on p s t r on asked)

  -- whatever it hears of others
  outcome_hears : (s : SenderState) (r : ReceiverState) (heard : Heard) → Outcome s r → Outcome s (record r { knows = record (r.knows) { heard = heard } })
  outcome_hears s r heard (inl runs) = inl runs
  outcome_hears s r heard (inr (inl none)) = inr (inl none)
  outcome_hears s r heard (inr (inr a)) = inr (inr (record { y = a.y; within = a.within; lacks = a.lacks; asked = a.asked }))

  module _ (draws : ℕ → ℕ) (now : ℕ) where
    stopped_rests : (e : Event) (c : Course) → ComesInTail c.world e → Quiet p e → comes_to node e ≡ false → Stopped c → Stopped (comes p e c)
    stopped_rests e c may_come quiet apart h = record {
      calm = comes_calm p (run p events) e c may_come h.calm;
      so = λ t is. outcome_on c.world.sender (world_step p c.world e).0.sender t (event_on p c.world e quiet)
          (h.so t (sym (world_laws.others p c.world e node apart) ∙ is));
    }

    stopped_hears : (c : Course) (d : Written) (f : Feed p d) (draw : ℕ) → ComesInTail c.world (Delivered node d.octets now draw) → Joined p d f c.world.sender
        → Stopped c → Stopped (comes p (Delivered node d.octets now draw) c)
    stopped_hears c d f draw may_come joined h = record {
      calm = comes_calm p (run p events) (Delivered node d.octets now draw) c may_come h.calm;
      so = λ t is. subst (λ (s : SenderState). Outcome s t) (sym (world_laws.sender p c.world (Delivered node d.octets now draw) other)) (go t is (receiver_at c.world node) refl);
    }
      where
        none_still : receiver_at c.world node ≡ None → (t : ReceiverState) → receiver_at (world_step p c.world (Delivered node d.octets now draw)).0 node ≡ Some t → ⊥
        none_still none t is = none_some t (sym (none_stays p c.world (Delivered node d.octets now draw) node none) ∙ is)

        go : (t : ReceiverState) → receiver_at (world_step p c.world (Delivered node d.octets now draw)).0 node ≡ Some t → (found : Option ReceiverState)
            → receiver_at c.world node ≡ found → Outcome c.world.sender t
        go t is None none = absurd (none_still none t is)
        go t is (Some r) found =
            subst (Outcome c.world.sender) (same_some (received p r d.octets now draw) t
            (sym (world_laws.moves p c.world (Delivered node d.octets now draw) node (receiver.Delivered d.octets now draw) r other refl found) ∙ is))
            (feed_leaves p r d f now draw (Outcome c.world.sender) (λ heard. outcome_hears c.world.sender r heard (h.so r found)))

    stopped : KeptServing p (run p events) node now Stopped
    stopped = record {
      calm = λ c h. h.calm;
      rests = stopped_rests;
      drawn = λ c n h. record { calm = draw_calm p (run p events) c n h.calm; so = h.so };
      hears = stopped_hears;
    }

    -- others are served after it
    others_served : (nodes : List ℕ) → AllByRecursion (λ (q : ℕ). (q == p.sender) ≡ false) nodes
        → AllByRecursion (λ (q : ℕ). find (λ (to : ℕ). to == q) (receivers_of p p.receivers) ≡ None → ⊥) nodes → AllByRecursion (λ (q : ℕ). (node == q) ≡ false) nodes
        → (c : Course) → Stopped c → Stopped (fold (serves p draws now) c nodes)
    others_served [] mine there apart c h = h
    others_served (q ∷ nodes) mine there apart c h =
        others_served nodes mine.1 there.1 apart.1 (serves p draws now c q)
        (serves_other p range events may node other draws now Stopped stopped q mine.0 (turned (q == node) refl) there.0 c h)
      where
        turned : (b : Bool) → (q == node) ≡ b → (q == node) ≡ false
        turned false e = e
        turned true e = absurd (clash (sym apart.0 ∙ (Decides-eqb node q).1 (sym ((Decides-eqb q node).0 e))))

    -- ---- its own turn

    module _ (hold : p.mode ≡ Hold) (none : streams (run p events).sender ≡ 0) (member : has_member node (run p events).sender ≡ true)
        (c : Course) (clean : Clean p range events may node other 0 c) (h : Running c) where
      on : GoesOn p events c
      on = goes_on p range events may c h.calm

      stays : Stays (run p events).sender c.world.sender
      stays = subst (λ (v : World). Stays (run p events).sender v.sender) h.calm.leads (quiet_run_stays p (run p events) (events_of c) h.calm.quiet)

      abbrev ran : List Event
      ran = events ++ events_of c

      abbrev u : SenderState
      u = (run p (events ++ events_of c)).sender

      current : u.current ≡ (run p events).sender.current
      current = ap (λ (v : World). v.sender.current) on.leads ∙ stays.current

      there : receiver_at (run p (events ++ events_of c)) node ≡ Some h.r
      there = ap (λ (v : World). receiver_at v node) on.leads ∙ h.found

      no_streams : streams u ≡ 0
      no_streams = ap (λ (i : Instance). streams (record u { current = i })) current ∙ none

      is_member : has_member node u ≡ true
      is_member = ap (λ (v : World). has_member node v.sender) on.leads ∙ same_members (run p events).sender c.world.sender node stays.members ∙ member

      inside : is_in h.r u.current.id ≡ true
      inside = ap (λ (o : Option ℕ). elim o as (λ _. Bool) [ Some x ↦ x == u.current.id | None ↦ false ]) (h.inside ∙ ap (λ (i : Instance). Some i.id) (sym current))
          ∙ (Decides-eqb u.current.id u.current.id).1 refl

      abbrev t : ReceiverState
      t = (receiver_ticked p h.r now).0

      abbrev ticks : Course
      ticks = comes p (Ticked node now) c

      -- its state after its tick
      after_tick : AllTaken (receiver_at c.world node) → (s : SenderState) → s ≡ c.world.sender → Outcome s t → Stopped ticks
      after_tick taken s same outcome = record {
        calm = comes_calm p (run p events) (Ticked node now) c taken h.calm;
        so = λ x is.
            subst (λ (v : SenderState). Outcome v x) (same ∙ sym (world_laws.sender p c.world (Ticked node now) other))
            (subst (Outcome s) (same_some t x (sym (world_laws.moves p c.world (Ticked node now) node (receiver.Ticked now) h.r other refl h.found) ∙ is)) outcome);
      }

      -- what it lacks of its first need
      lack : (some : needs_nothing p h.r ≡ false) → LacksOf p u h.r (first_of p range h.r some).need
      lack some =
          need_lacks p range hold ran on.again.lawful on.again.jobs no_streams node other h.r there is_member inside (first_of p range h.r some).need
          (first_of p range h.r some).one

      low : (y : Want) → is_info_or_source (current_shapes p u) y ≡ true → IsLow y
      low (want.Info index) e = tt
      low (want.Symbol at) e =
          let name = reached_laws.sources p u at range (reach p range ran on.again node h.r there) e in let lt = name.1 in omega (arith, lt)

      -- if all of it was heard, the open round asks for that
      was_heard : (some : needs_nothing p h.r ≡ false) → are_heard h.r (wanted_of p h.r) ≡ true → AskedOf p u u h.r
      was_heard some all = record {
        y = l.y;
        within = l.within;
        lacks = l.lacks;
        asked = so (hears_of p u h.r l.y) (asks_open p u l.y) hears
            (of_all (λ y. not (hears_of p u h.r y) || asks_open p u y) l.y (in_window p u)
            (both (is_in h.r u.current.id) (list_all (λ y. not (hears_of p u h.r y) || asks_open p u y) (in_window p u)) is_so).1
            (in_contained l.y (in_window p u) l.within));
      }
        where
          need : Need
          need = (first_of p range h.r some).need

          l : LacksOf p u h.r (first_of p range h.r some).need
          l = lack some

          hs : (rs : List Named) × (h.r.knows.heard ≡ heard_all rs)
          hs = has_heard p ran node h.r other there

          is : is_heard h.r.knows.heard h.r.holding (first_of p range h.r some).need ≡ true
          is = of_all (is_heard h.r.knows.heard h.r.holding) (first_of p range h.r some).need (wanted_of p h.r) all
              (in_contained (first_of p range h.r some).need (wanted_of p h.r) (first_of p range h.r some).asked)

          asks_it : heard_asks h.r.knows.heard l.y ≡ true
          asks_it = ap (λ (x : Heard). heard_asks x l.y) hs.1
              ∙ need_heard hs.0 h.r.holding (first_of p range h.r some).need l.y
              (ap (λ (x : Heard). is_heard x h.r.holding (first_of p range h.r some).need) (sym hs.1) ∙ is) l.of l.narrow (low l.y l.source)

          and_is : (a b : Bool) → a ≡ true → b ≡ true → (a && b) ≡ true
          and_is true b e f = f
          and_is false b e f = absurd (clash e)

          hears : hears_of p u h.r l.y ≡ true
          hears =
              and_is (is_info_or_source (current_shapes p u) l.y && not (has p u h.r l.y)) (heard_asks h.r.knows.heard l.y)
              (and_is (is_info_or_source (current_shapes p u) l.y) (not (has p u h.r l.y)) l.source (ap not l.lacks)) asks_it

          is_so : is_clean p u h.r ≡ true
          is_so = subst (λ (v : World). is_clean p v.sender h.r ≡ true) (sym on.leads)
              (clean_if_runs p c.world.sender h.r h.runs (clean.clean h.r h.found))

          so : (a b : Bool) → a ≡ true → (not a || b) ≡ true → b ≡ true
          so true b e f = f
          so false b e f = absurd (clash e)

      -- what its tick gave is passed on
      its_turn : AllTaken (receiver_at c.world node) → Stopped (passes_on p draws now (comes p (Ticked node now) c) node)
      its_turn taken = go (tick_comes p h.r now h.runs)
        where
          u_is : u ≡ c.world.sender
          u_is = ap (λ (v : World). v.sender) on.leads

          plainly : Outcome u t → Stopped (passes_on p draws now (comes p (Ticked node now) c) node)
          plainly outcome =
              gave_passes p range events may node other draws now Stopped stopped node other c h.r h.calm h.found (after_tick taken u u_is outcome)

          nacked : Holds h.r t → (d : Written) (m : NackMessage) → (receiver_ticked p h.r now).1 ≡ Some d → d.message ≡ Nack m
              → Stopped (passes_on p draws now (comes p (Ticked node now) c) node)
          nacked held d m gives is =
              passes_heard p range events may node other draws now Stopped stopped d f node other ticks given (record { calm = calm_h; so = λ x there. inr (inr (asked x there)) })
              calm_o
            where
              f : Feed p d
              f = feed_of p range ran on.again node other h.r there now d gives

              given : given_by (comes p (Ticked node now) c).world node ≡ Some d
              given = tick_given p range events may node other draws now Stopped stopped node other c h.r h.found (Some d) gives

              offered : Course
              offered = comes p (Offered node d.octets) (comes p (Ticked node now) c)

              then : Course
              then = comes p (Delivered p.sender d.octets now 0) (comes p (Offered node d.octets) (comes p (Ticked node now) c))

              calm_o : IsCalm p (run p events) (comes p (Offered node d.octets) (comes p (Ticked node now) c))
              calm_o = comes_calm p (run p events) (Offered node d.octets) ticks (given_may_come ticks.world node d given)
                  (comes_calm p (run p events) (Ticked node now) c taken h.calm)

              calm_h : IsCalm p (run p events) (comes p (Delivered p.sender d.octets now 0) (comes p (Offered node d.octets) (comes p (Ticked node now) c)))
              calm_h = comes_calm p (run p events) (Delivered p.sender d.octets now 0) offered
                  (may_hear p range events may node other draws now Stopped stopped d f node other ticks given) calm_o

              v : SenderState
              v = heard p u d.octets now

              sender_is : then.world.sender ≡ v
              sender_is = hears_is p range events may node other draws now Stopped stopped d f node other ticks given
                  ∙ ap (λ (s : SenderState). heard p s d.octets now)
                  (world_laws.sender p ticks.world (Offered node d.octets) refl ∙ world_laws.sender p c.world (Ticked node now) other ∙ sym u_is)

              apart : (p.sender == node) ≡ false
              apart = by (p.sender == node) refl
                where
                  by : (b : Bool) → (p.sender == node) ≡ b → b ≡ false
                  by false e = refl
                  by true e = absurd (clash (sym other ∙ (Decides-eqb node p.sender).1 (sym ((Decides-eqb p.sender node).0 e))))

              it_is : receiver_at then.world node ≡ Some t
              it_is = world_laws.others p offered.world (Delivered p.sender d.octets now 0) node apart ∙ world_laws.others p ticks.world (Offered node d.octets) node refl
                  ∙ world_laws.moves p c.world (Ticked node now) node (receiver.Ticked now) h.r other refl h.found

              of_nack : AskedOf p u (heard p u d.octets now) h.r
              of_nack = nack_asks p range hold ran on.again no_streams node other h.r there is_member inside now now d m gives is

              asked : (x : ReceiverState) → receiver_at then.world node ≡ Some x → AskedOf p then.world.sender then.world.sender x
              asked x is_x =
                  subst (λ (y : ReceiverState). AskedOf p then.world.sender then.world.sender y) (same_some t x (sym it_is ∙ is_x))
                  (subst (λ (s : SenderState). AskedOf p s s t) (sym sender_is)
                  (later_asked p u v v h.r t (message_on p u now (decoded d.octets)).current held.holding held.instance of_nack of_nack.asked))

          go : Holds h.r t × Comes p h.r t (receiver_ticked p h.r now).1 → Stopped (passes_on p draws now (comes p (Ticked node now) c) node)
          go (held, RunsOn e) = plainly (inl e)
          go (held, Needless e) = plainly (inr (inl e))
          go (held, WasHeard some all gives) =
              plainly (inr (inr (later_asked p u u u h.r t refl held.holding held.instance (was_heard some all) (was_heard some all).asked)))
          go (held, Nacked d m gives is) = nacked held d m gives is

    -- ---- one of the receivers is the node

    module _ (hold : p.mode ≡ Hold) (none : streams (run p events).sender ≡ 0) (member : has_member node (run p events).sender ≡ true) where
      is_served : (c : Course) → Clean p range events may node other 0 c → Running c → Stopped (serves p draws now c node)
      is_served c clean h =
          its_turn hold none member (takes p node c) (takes_own p range events may node other 0 (untaken c.world node) c clean)
          (takes_spare p draws node Running running_on running_drawn node (untaken c.world node) c h) (all_are_taken p node (untaken c.world node) c refl)

      pub all_served : (nodes : List ℕ) → AllByRecursion (λ (q : ℕ). (q == p.sender) ≡ false) nodes
          → AllByRecursion (λ (q : ℕ). find (λ (to : ℕ). to == q) (receivers_of p p.receivers) ≡ None → ⊥) nodes → Differ nodes
          → (find (λ (to : ℕ). to == node) nodes ≡ None → ⊥) → (c : Course) → Clean p range events may node other 0 c → Running c → Stopped (fold (serves p draws now) c nodes)
      all_served [] mine present differ has c clean h = absurd (has refl)
      all_served (q ∷ nodes) mine present differ has c clean h = go (q == node) refl has (λ more. all_served nodes mine.1 present.1 differ.1 more)
        where
          go : (b : Bool) → (q == node) ≡ b → (cond b (Some q) (find (λ (to : ℕ). to == node) nodes) ≡ None → ⊥)
              → ((find (λ (to : ℕ). to == node) nodes ≡ None → ⊥) → (v : Course) → Clean p range events may node other 0 v → Running v
              → Stopped (fold (serves p draws now) v nodes)) → Stopped (fold (serves p draws now) (serves p draws now c q) nodes)
          go true e has_q more =
              let same : q ≡ node = (Decides-eqb q node).0 e in
              let A : ℕ → Type 0 = λ n. Stopped (serves p draws now c n) in
              others_served nodes mine.1 present.1 (subst (λ (n : ℕ). AllByRecursion (λ (m : ℕ). (n == m) ≡ false) nodes) same differ.0) (serves p draws now c q)
              (subst A (sym same) (is_served c clean h))
          go false e has_q more =
              more has_q (serves p draws now c q)
              (serves_other p range events may node other draws now (Clean p range events may node other 0) (kept p range events may node other 0 draws now) q mine.0 e present.0 c clean)
              (serves_spare p draws node Running running_on running_drawn now c q e h)

-- ---- the turn

pub back_off_ends : BackOffEnds
back_off_ends p range hold events may none draws now vain node member r t found runs clean is stops = go ended
  where
    other : (node == p.sender) ≡ false
    other = is_other p (run p events) (world_laws.nodes p events) node r found

    s : SenderState
    s = (run p events).sender

    R : Course → Type 0
    R c = Running p range events may node other c

    within : is_in r s.current.id ≡ true
    within = (both (is_in r s.current.id) (list_all (λ y. not (hears_of p s r y) || asks_open p s y) (in_window p s)) clean).0

    ticks : Course
    ticks = comes p (Ticked p.sender now) (course_from (run p events))

    apart : (p.sender == node) ≡ false
    apart = by (p.sender == node) refl
      where
        by : (b : Bool) → (p.sender == node) ≡ b → b ≡ false
        by false e = refl
        by true e = absurd (clash (sym other ∙ (Decides-eqb node p.sender).1 (sym ((Decides-eqb p.sender node).0 e))))

    at_first : Running p range events may node other (course_from (run p events))
    at_first = record { calm = begins_calm p (run p events); r = r; found = found; runs = runs; inside = in_instance_is r s.current.id within }

    ticked_so : Running p range events may node other ticks
    ticked_so = running_on p range events may node other (Ticked p.sender now) (course_from (run p events)) apart
        (sender_takes_none p (run p events) (world_laws.nodes p events)) at_first

    passed_so : Running p range events may node other (passes_on p draws now (sender_ticks p now (course_from (run p events))) p.sender)
    passed_so = passes_spare p draws node R (running_on p range events may node other) (running_drawn p range events may node other) now
        (sender_ticks p now (course_from (run p events))) p.sender
        (news_spare p draws node R (running_on p range events may node other) (running_drawn p range events may node other) (untold ticks.world.sender) ticks ticked_so)

    there : find (λ (to : ℕ). to == node) (receivers_of p p.receivers) ≡ None → ⊥
    there nobody = none_some r (sym (no_receiver node (run p events).receivers (ap (find (λ (n : ℕ). n == node)) (world_laws.nodes p events) ∙ nobody)) ∙ found)

    ended : Outcome p range events may node other (tail_turn p draws now (course_from (run p events))).world.sender t
    ended = (all_served p range events may node other draws now hold none member (receivers_of p p.receivers) (not_sender p p.receivers)
        (each_there (receivers_of p p.receivers)) (receivers_rise p p.receivers).1 there
        (passes_on p draws now (sender_ticks p now (course_from (run p events))) p.sender)
        (clean_passed p range events may draws now 0 node other r found
        (tick_clean p range events may.lawful may.jobs now vain node r found member 0 (clean_so p 0 s r clean))) passed_so).so t is

    go : (is_some t.knows.backoff ≡ true) ⊎ IsAsked p (tail_turn p draws now (course_from (run p events))).world.sender t
        → IsAsked p (tail_turn p draws now (course_from (run p events))).world.sender t
    go (inl e) = absurd (clash (sym (ap (λ (o : Option ℕ). is_some o) stops) ∙ e))
    go (inr asked) = asked
