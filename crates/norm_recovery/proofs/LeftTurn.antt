-- Over a turn a member goes on to have what it will have, without the want that the sender's tick sends.
use Rattle.std.proofs.Common.{◌≡◌, ℕ, ◌+◌, List, [], ◌∷◌, ◌++◌, map, Bool, true, false, Some, refl, sym, ap, ◌∙◌, subst}
use Rattle.std.specs.Prelude.{◌==◌, ◌||◌, Contains}
use Rattle.std.specs.List.{list_any}
use Rattle.norm_base.specs.Members.{receivers_of}
use Rattle.norm_base.specs.Settings.{Settings, InRange}
use Rattle.norm_base.specs.declared.kinds.Mode.TheVariants.{Hold}
use Rattle.norm_ext.specs.Written.{Written}
use Rattle.norm_receive_rules.specs.Leaving.{is_in}
use Rattle.norm_receive_rules.specs.ReceiverState.{ReceiverState}
use Rattle.norm_receive_rules.specs.ReceiverStep.{ReceiverEvent, receiver_step}
use Rattle.norm_receive_rules.specs.ReceiverStep as receiver
use Rattle.norm_receive_rules.specs.Receiving.{received}
use Rattle.norm_send_rules.specs.InWindow.{stands_behind}
use Rattle.norm_send_rules.specs.Repairable.{streams}
use Rattle.norm_send_rules.specs.SenderState.{SenderState, Instance, Listing}
use Rattle.norm_send_rules.specs.Ticking.{ticked}
use Rattle.norm_send_rules.specs.Watermarks.{members, has_member}
use Rattle.norm_send_rules.specs.declared.want.Want.{Want}
use Rattle.norm_safety.specs.Events.{Event, Delivered}
use Rattle.norm_safety.specs.Said.{first_index}
use Rattle.norm_safety.specs.Tail.{Course, course_from, events_of, comes, passes_on, sender_ticks, tail_turn}
use Rattle.norm_safety.specs.World.{World, receiver_at}
use Rattle.norm_safety.specs.WorldLaws.{nodes_of}
use Rattle.norm_safety.specs.WorldStep.{run}
use Rattle.norm_safety.proofs.ReceiverMoves.{in_instance_is}
use Rattle.norm_safety.proofs.WorldLemmas.{world_laws}
use Rattle.norm_recovery.specs.Left.{held_for, is_had}
use Rattle.norm_recovery.specs.LeftHeard.{brings}
use Rattle.norm_recovery.specs.MembersEnter.{IsOwn}
use Rattle.norm_recovery.specs.TailKeeps.{Stays}
use Rattle.norm_recovery.specs.TailLawful.{MayGoOn, GoesOn}
use Rattle.norm_recovery.specs.TailOf.{ComesInTail}
use Rattle.norm_recovery.proofs.KeepsSender.{quiet_run_stays}
use Rattle.norm_recovery.proofs.LawfulTail.{goes_on}
use Rattle.norm_recovery.proofs.LeftComes.{inside_is, left_heard}
use Rattle.norm_recovery.proofs.LeftSent.{had_goes}
use Rattle.norm_recovery.proofs.LeftStays.{had_stays}
use Rattle.norm_recovery.proofs.PassTurn.{After, Still, Steps, Before, before, stays_in, Waits, calm_then, may_then, passed}
use Rattle.norm_recovery.proofs.TailCourses.{IsCalm, comes_calm, begins_calm, draw_calm}
use Rattle.norm_recovery.proofs.TailWalk.{copies_keep, all_served, turn_keeps}

same_some : {X : Type 0} (x y : X) → Some x ≡ Some y → x ≡ y
same_some x y e = cc

-- members stay
pub same_members : (s t : SenderState) (node : ℕ) → members t ≡ members s → has_member node t ≡ has_member node s
same_members s t node e = as_nodes t.listings ∙ ap (list_any (λ (n : ℕ). n == node)) e ∙ sym (as_nodes s.listings)
  where
    as_nodes : (ls : List Listing) → list_any (λ (l : Listing). l.node == node) ls ≡ list_any (λ (n : ℕ). n == node) (map (λ (l : Listing). l.node) ls)
    as_nodes [] = refl
    as_nodes (l ∷ ls) = ap (λ (b : Bool). l.node == node || b) (as_nodes ls)

module _ (p : Settings) (range : InRange p) (events : List Event) (may : MayGoOn p events) (node : ℕ) (other : (node == p.sender) ≡ false) where
  abbrev s : SenderState
  s = (run p events).sender

  -- ---- what is had stays so

  -- the node's receiver has an info or a symbol, with these wants
  pub record Had (wants : List Want) (z : Want) (c : Course) : Type 0 where
    calm : IsCalm p (run p events) c
    pub had : (r : ReceiverState) → receiver_at c.world node ≡ Some r → is_had wants p s (held_for s r) z ≡ true

  had_on : (wants : List Want) (z : Want) (e : Event) (c : Course) → ComesInTail c.world e → Had wants z c → Had wants z (comes p e c)
  had_on wants z e c comes_so h = record { calm = calm; had = had }
    where
      calm : IsCalm p (run p events) (comes p e c)
      calm = comes_calm p (run p events) e c comes_so h.calm

      had : (t : ReceiverState) → receiver_at (comes p e c).world node ≡ Some t → is_had wants p s (held_for s t) z ≡ true
      had t is = go (before p c.world e node other t is)
        where
          inside : (r : ReceiverState) (own : ReceiverEvent) → t ≡ (receiver_step p r own).0 → is_in r s.current.id ≡ true
              → is_in (receiver_step p r own).0 s.current.id ≡ true
          inside r own steps within =
              let there : r.instance ≡ Some s.current.id = in_instance_is r s.current.id within in
              inside_is (receiver_step p r own).0 s.current.id (stays_in p range events may node other (comes p e c) calm r t own is steps there ∙ there)

          go : Before p c.world node t → is_had wants p s (held_for s t) z ≡ true
          go b = by b.after
            where
              by : After p b.r t → is_had wants p s (held_for s t) z ≡ true
              by (Still same) = subst (λ (x : ReceiverState). is_had wants p s (held_for s x) z ≡ true) (sym same) (h.had b.r b.found)
              by (Steps own steps) =
                  subst (λ (x : ReceiverState). is_had wants p s (held_for s x) z ≡ true) (sym steps)
                  (had_stays wants p s b.r own z (inside b.r own steps) (h.had b.r b.found))

  had_drawn : (wants : List Want) (z : Want) (c : Course) (n : ℕ) → Had wants z c → Had wants z (record c { used = n })
  had_drawn wants z c n h = record { calm = draw_calm p (run p events) c n h.calm; had = h.had }

  had_nodes : (wants : List Want) (z : Want) (c : Course) → Had wants z c → nodes_of c.world ≡ receivers_of p p.receivers
  had_nodes wants z c h = h.calm.nodes ∙ world_laws.nodes p events

  -- the receiver before the turn
  module _ (draws : ℕ → ℕ) (now : ℕ) (r : ReceiverState) (found : receiver_at (run p events) node ≡ Some r) where
    pub turn_had : (wants : List Want) (z : Want) → is_had wants p s (held_for s r) z ≡ true → Had wants z (tail_turn p draws now (course_from (run p events)))
    turn_had wants z e =
        turn_keeps p draws (Had wants z) (had_nodes wants z) (had_on wants z) (had_drawn wants z) now (course_from (run p events))
        (record {
          calm = begins_calm p (run p events);
          had = λ x is. subst (λ (x : ReceiverState). is_had wants p s (held_for s x) z ≡ true) (same_some r x (sym found ∙ is)) e;
        })

    -- ---- what the tick gave is heard

    module _ (hold : p.mode ≡ Hold) (none : streams s ≡ 0) (member : has_member node s ≡ true) (d : Written) (own : IsOwn p s.current.id d) (y : Want)
        (brings_it : brings (first_index d.indices) d.message ≡ Some y) (behind : stands_behind s.current.drop y ≡ true) where
      heard : (c : Course) → Waits p range events may node other d r c → is_had [] p s (held_for s (received p r d.octets now (draws c.used))) y ≡ true
      heard c h =
          subst (λ (i : Instance). is_had [] p (record t { current = i }) (held_for (record t { current = i }) x) y ≡ true) stays.current
          (left_heard p range hold (events ++ events_of c) node now (draws c.used) p.sender d
          (may_then p range events may node other d draws now r c h)
          (ap (λ (i : Instance). streams (record t { current = i })) stays.current ∙ none) other r
          (ap (λ (v : World). receiver_at v node) on.leads ∙ h.found) (same_members s t node stays.members ∙ member)
          (subst (λ (v : World). Contains v.offered (p.sender, d)) (sym on.leads) h.offered)
          (subst (λ (i : Instance). IsOwn p i.id d) (sym stays.current) own) y brings_it
          (ap (λ (i : Instance). stands_behind i.drop y) stays.current ∙ behind) [])
        where
          on : GoesOn p events c
          on = goes_on p range events may c h.calm

          t : SenderState
          t = (run p (events ++ events_of c)).sender

          x : ReceiverState
          x = received p r d.octets now (draws c.used)

          stays : Stays (run p events).sender (run p (events ++ events_of c)).sender
          stays = subst (λ (v : World). Stays (run p events).sender v.sender) (h.calm.leads ∙ sym on.leads)
              (quiet_run_stays p (run p events) (events_of c) h.calm.quiet)

      hears : (rest : List Want) (z : Want) → is_had (y ∷ rest) p s (held_for s r) z ≡ true → (c : Course) → Waits p range events may node other d r c
          → Had rest z (comes p (Delivered node d.octets now (draws c.used)) (record c { used = c.used + 1 }))
      hears rest z e c h = record { calm = calm; had = had }
        where
          next : Course
          next = comes p (Delivered node d.octets now (draws c.used)) (record c { used = c.used + 1 })

          calm : IsCalm p (run p events) (comes p (Delivered node d.octets now (draws c.used)) (record c { used = c.used + 1 }))
          calm = calm_then p range events may node other d draws now r c h

          x : ReceiverState
          x = received p r d.octets now (draws c.used)

          moved_is : receiver_at (comes p (Delivered node d.octets now (draws c.used)) (record c { used = c.used + 1 })).world node ≡ Some x
          moved_is = world_laws.moves p c.world (Delivered node d.octets now (draws c.used)) node (receiver.Delivered d.octets now (draws c.used)) r other refl h.found

          inside : is_in r s.current.id ≡ true → is_in (received p r d.octets now (draws c.used)) s.current.id ≡ true
          inside e =
              let there : r.instance ≡ Some s.current.id = in_instance_is r s.current.id e in
              inside_is x s.current.id
              (stays_in p range events may node other next calm r x (receiver.Delivered d.octets now (draws c.used)) moved_is refl there ∙ there)

          had : (t : ReceiverState) → receiver_at (comes p (Delivered node d.octets now (draws c.used)) (record c { used = c.used + 1 })).world node ≡ Some t
              → is_had rest p s (held_for s t) z ≡ true
          had t is =
              subst (λ (x : ReceiverState). is_had rest p s (held_for s x) z ≡ true) (same_some x t (sym moved_is ∙ is))
              (had_goes p s (held_for s x) y rest (heard c h) z
              (had_stays (y ∷ rest) p s r (receiver.Delivered d.octets now (draws c.used)) z inside e))

      -- the member will have whatever it would have had with the want that was sent
      pub turn_sends : (rest : List Want) (z : Want) → (ticked p s now).1 ≡ Some d → is_had (y ∷ rest) p s (held_for s r) z ≡ true
          → Had rest z (tail_turn p draws now (course_from (run p events)))
      turn_sends rest z gives e =
          all_served p draws (Had rest z) (had_nodes rest z) (had_on rest z) (had_drawn rest z) now (receivers_of p p.receivers)
          (passes_on p draws now (sender_ticks p now (course_from (run p events))) p.sender)
          (passed p range events may draws now d gives node other r found (Had rest z) (hears rest z e)
          (copies_keep p draws (Had rest z) (had_nodes rest z) (had_on rest z) (had_drawn rest z) now p.sender d.octets))
