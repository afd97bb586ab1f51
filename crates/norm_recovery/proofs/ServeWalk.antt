-- While the receivers are served, a node hears only what others' ticks gave, after the sender heard that.
use Rattle.std.proofs.Common.{◌≡◌, ◌≢◌, ℕ, zero, suc, ◌+◌, cond, List, [], ◌∷◌, ◌++◌, filter, Bool, true, false, Option, None, Some, refl, sym, ap, ◌∙◌, subst}
use Rattle.std.specs.Prelude.{◌==◌, not, find, fold}
use Rattle.std.specs.Fn.{iterate}
use Rattle.std.specs.List.{AllByRecursion}
use Rattle.std.proofs.lemmas.Bool.Decides.{Decides-eqb}
use Rattle.norm_base.specs.Members.{receivers_of}
use Rattle.norm_base.specs.Settings.{Settings, InRange}
use Rattle.norm_ext.specs.Written.{Written}
use Rattle.norm_receive_rules.specs.ReceiverState.{ReceiverState}
use Rattle.norm_receive_rules.specs.Ticking.{ticked as receiver_ticked}
use Rattle.norm_send_rules.specs.Hearing.{heard}
use Rattle.norm_send_rules.specs.Reached.{IsReached}
use Rattle.norm_send_rules.proofs.ReachedLemmas.{reached_laws}
use Rattle.norm_safety.specs.Events.{Event, Delivered, Ticked, Offered, UpTaken, NewsAsked, Sent}
use Rattle.norm_safety.specs.Tail.{Course, events_of, comes, untold, tells, untaken, takes, copy_comes, others_than, given_by, passes_on, serves}
use Rattle.norm_safety.specs.World.{World, world_opening, receiver_at}
use Rattle.norm_safety.specs.WorldLaws.{comes_to}
use Rattle.norm_safety.specs.WorldStep.{world_step, run}
use Rattle.norm_safety.proofs.EntryLemmas.{clash}
use Rattle.norm_safety.proofs.TailLemmas.{tail_laws}
use Rattle.norm_safety.proofs.WorldLemmas.{world_laws}
use Rattle.norm_laws.proofs.CountSender.{sender_is}
use Rattle.norm_laws.proofs.LaterTailLemmas.{Quiet, if_own}
use Rattle.norm_recovery.specs.TailLawful.{MayGoOn, GoesOn}
use Rattle.norm_recovery.specs.TailOf.{ComesInTail}
use Rattle.norm_recovery.proofs.AsksOn.{event_on}
use Rattle.norm_recovery.proofs.FeedRead.{Feed, Joined, joined_stays, sender_joins, feed_of}
use Rattle.norm_recovery.proofs.FlushConfirmed.{receiver_answer}
use Rattle.norm_recovery.proofs.LawfulTail.{goes_on}
use Rattle.norm_recovery.proofs.MembersRun.{no_node}
use Rattle.norm_recovery.proofs.NackAsks.{run_reached}
use Rattle.norm_recovery.proofs.TailCourses.{IsCalm}
use Rattle.norm_recovery.proofs.TailWalk.{all_are_taken, HasOffered, Gift, given_may_come, given_offered, offered_may_come, others_differ}

-- What is kept while other nodes are served: by each event that is not the node's, nor the sender's tick; by a draw; and as the node hears what another
-- one's tick gave, once the sender's round asks for what that asks for.
pub record KeptServing (p : Settings) (w : World) (node now : ℕ) (Kept : Course → Type 0) : Type 0 where
  pub calm : (c : Course) → Kept c → IsCalm p w c
  pub rests : (e : Event) (c : Course) → ComesInTail c.world e → Quiet p e → comes_to node e ≡ false → Kept c → Kept (comes p e c)
  pub drawn : (c : Course) (n : ℕ) → Kept c → Kept (record c { used = n })
  pub hears : (c : Course) (d : Written) (f : Feed p d) (draw : ℕ) → ComesInTail c.world (Delivered node d.octets now draw) → Joined p d f c.world.sender
      → Kept c → Kept (comes p (Delivered node d.octets now draw) c)

module _ (p : Settings) (range : InRange p) (events : List Event) (may : MayGoOn p events) (node : ℕ) (other : (node == p.sender) ≡ false)
    (draws : ℕ → ℕ) (now : ℕ) (Kept : Course → Type 0) (k : KeptServing p (run p events) node now Kept) where
  sender_apart : (p.sender == node) ≡ false
  sender_apart = go (p.sender == node) refl
    where
      go : (b : Bool) → (p.sender == node) ≡ b → b ≡ false
      go false e = refl
      go true e = absurd (clash (sym other ∙ (Decides-eqb node p.sender).1 (sym ((Decides-eqb p.sender node).0 e))))

  pub news_rest : (n : ℕ) (c : Course) → Kept c → Kept (iterate (comes p NewsAsked) n c)
  news_rest zero c h = h
  news_rest (suc n) c h = news_rest n (comes p NewsAsked c) (k.rests NewsAsked c tt tt refl h)

  takes_rest : (to n : ℕ) → (to == node) ≡ false → (c : Course) → Kept c → Kept (iterate (comes p (UpTaken to)) n c)
  takes_rest to zero apart c h = h
  takes_rest to (suc n) apart c h = takes_rest to n apart (comes p (UpTaken to) c) (k.rests (UpTaken to) c tt tt apart h)

  -- ---- a datagram is passed on

  module _ (d : Written) (f : Feed p d) (q : ℕ) where
    -- and the sender heard it
    pub record Told (c : Course) : Type 0 where
      pub kept : Kept c
      pub joined : Joined p d f c.world.sender
      pub offered : HasOffered q d.octets c.world

    told_rests : (e : Event) (c : Course) → ComesInTail c.world e → Quiet p e → comes_to node e ≡ false → (world_step p c.world e).0.offered ≡ c.world.offered
        → Told c → Told (comes p e c)
    told_rests e c may_come quiet apart same h = record {
      kept = k.rests e c may_come quiet apart h.kept;
      joined = joined_stays p d f c.world.sender (world_step p c.world e).0.sender (event_on p c.world e quiet) h.joined;
      offered = subst (Gift q d.octets) (sym same) h.offered;
    }

    told_news : (n : ℕ) (c : Course) → Told c → Told (iterate (comes p NewsAsked) n c)
    told_news zero c h = h
    told_news (suc n) c h = told_news n (comes p NewsAsked c) (told_rests NewsAsked c tt tt refl (world_laws.offered p c.world NewsAsked refl) h)

    told_drawn : (c : Course) (n : ℕ) → Told c → Told (record c { used = n })
    told_drawn c n h = record { kept = k.drawn c n h.kept; joined = h.joined; offered = h.offered }

    told_copy : (to : ℕ) → q ≢ to → (c : Course) → Told c → Told (copy_comes p draws now d.octets c to)
    told_copy to apart c h = go (to == node) refl
      where
        comes_so : (draw : ℕ) → ComesInTail c.world (Delivered to d.octets now draw)
        comes_so draw = offered_may_come c.world q to d.octets apart h.offered

        elsewhere : (to == node) ≡ false → (draw : ℕ) (v : Course) → v.world ≡ c.world → Told v → Told (comes p (Delivered to d.octets now draw) v)
        elsewhere not_node draw v same g =
            told_rests (Delivered to d.octets now draw) v (subst (λ (w : World). ComesInTail w (Delivered to d.octets now draw)) (sym same) (comes_so draw)) tt not_node
            (world_laws.offered p v.world (Delivered to d.octets now draw) refl) g

        by : (to == node) ≡ false → (b : Bool) → Told (elim b as (λ _. Course) [
          | true ↦ tells p (comes p (Delivered to d.octets now 0) c)
          | false ↦ comes p (Delivered to d.octets now (draws c.used)) (record c { used = c.used + 1 })
        ])
        by not_node true =
            told_news (untold (comes p (Delivered to d.octets now 0) c).world.sender) (comes p (Delivered to d.octets now 0) c) (elsewhere not_node 0 c refl h)
        by not_node false = elsewhere not_node (draws c.used) (record c { used = c.used + 1 }) refl (told_drawn c (c.used + 1) h)

        own : to ≡ node → Told (comes p (Delivered to d.octets now (draws c.used)) (record c { used = c.used + 1 }))
        own same =
            let A : ℕ → Type 0 = λ n. Told (comes p (Delivered n d.octets now (draws c.used)) (record c { used = c.used + 1 })) in
            subst A (sym same) (record {
              kept = k.hears (record c { used = c.used + 1 }) d f (draws c.used)
                  (subst (λ (n : ℕ). ComesInTail c.world (Delivered n d.octets now (draws c.used))) same (comes_so (draws c.used))) h.joined (k.drawn c (c.used + 1) h.kept);
              joined = subst (Joined p d f) (sym (world_laws.sender p c.world (Delivered node d.octets now (draws c.used)) other)) h.joined;
              offered = subst (Gift q d.octets) (sym (world_laws.offered p c.world (Delivered node d.octets now (draws c.used)) refl)) h.offered;
            })

        go : (b : Bool) → (to == node) ≡ b → Told (copy_comes p draws now d.octets c to)
        go false e = by e (to == p.sender)
        go true e =
            let same : to ≡ node = (Decides-eqb to node).0 e in
            subst (λ (b : Bool). Told (elim b as (λ _. Course) [
              | true ↦ tells p (comes p (Delivered to d.octets now 0) c)
              | false ↦ comes p (Delivered to d.octets now (draws c.used)) (record c { used = c.used + 1 })
            ])) (sym (ap (λ (n : ℕ). n == p.sender) same ∙ other)) (own same)

    told_copies : (others : List ℕ) → AllByRecursion (λ (to : ℕ). q ≢ to) others → (c : Course) → Told c → Told (fold (copy_comes p draws now d.octets) c others)
    told_copies [] apart c h = h
    told_copies (to ∷ others) apart c h = told_copies others apart.1 (copy_comes p draws now d.octets c to) (told_copy to apart.0 c h)

    -- what holds once the sender heard it holds after it was passed on
    module _ (not_sender : (q == p.sender) ≡ false) (c : Course) (given : given_by c.world q ≡ Some d) where
      abbrev pub offered_c : Course
      offered_c = comes p (Offered q d.octets) c

      abbrev pub heard_c : Course
      heard_c = comes p (Delivered p.sender d.octets now 0) (comes p (Offered q d.octets) c)

      own : (p.sender == p.sender) ≡ true
      own = (Decides-eqb p.sender p.sender).1 refl

      apart : (p.sender == q) ≡ false
      apart = go (p.sender == q) refl
        where
          go : (b : Bool) → (p.sender == q) ≡ b → b ≡ false
          go false e = refl
          go true e = absurd (clash (sym not_sender ∙ (Decides-eqb q p.sender).1 (sym ((Decides-eqb p.sender q).0 e))))

      pub is_offered : HasOffered q d.octets offered_c.world
      is_offered = given_offered p c.world q d given

      pub may_hear : ComesInTail offered_c.world (Delivered p.sender d.octets now 0)
      may_hear = offered_may_come offered_c.world q p.sender d.octets (λ same. clash (sym not_sender ∙ (Decides-eqb q p.sender).1 same)) is_offered

      -- what the sender makes of it
      pub hears_is : heard_c.world.sender ≡ heard p offered_c.world.sender d.octets now
      hears_is = sender_is p offered_c.world (Delivered p.sender d.octets now 0)
          ∙ ap (λ (b : Bool). if_own b (heard p offered_c.world.sender d.octets now) offered_c.world.sender) own

      pub passes_heard : Kept heard_c → IsCalm p (run p events) offered_c → Kept (passes_on p draws now c q)
      passes_heard h calm =
          (subst Told (sym passes_is)
          (subst Told (sym (ap (fold (copy_comes p draws now d.octets) offered_c) others_are))
          (subst (λ (v : Course). Told (fold (copy_comes p draws now d.octets) v rest)) (sym first_is)
          (told_copies rest (others_differ q (receivers_of p p.receivers)) (tells p heard_c) (told_news (untold heard_c.world.sender) heard_c told_c))))).kept
        where
          rest : List ℕ
          rest = filter (λ (to : ℕ). not (to == q)) (receivers_of p p.receivers)

          reach_o : IsReached p offered_c.world.sender
          reach_o = subst (λ (v : World). IsReached p v.sender) (goes_on p range events may offered_c calm).leads
              (run_reached p range (world_opening p) (events ++ events_of offered_c) (reached_laws.at_first p p.instance range))

          told_c : Told heard_c
          told_c = record {
            kept = h;
            joined = subst (Joined p d f) (sym hears_is) (sender_joins p range d f offered_c.world.sender reach_o now);
            offered = subst (Gift q d.octets) (sym (world_laws.offered p offered_c.world (Delivered p.sender d.octets now 0) refl)) is_offered;
          }

          passes_is : passes_on p draws now c q ≡ fold (copy_comes p draws now d.octets) offered_c (others_than p q)
          passes_is = ap (λ (g : Option Written). elim g as (λ _. Course) [
            | Some x ↦ fold (copy_comes p draws now x.octets) (comes p (Offered q x.octets) c) (others_than p q)
            | None ↦ c
          ]) given

          others_are : others_than p q ≡ p.sender ∷ rest
          others_are = ap (λ (b : Bool). cond (not b) (p.sender ∷ rest) rest) apart

          first_is : copy_comes p draws now d.octets offered_c p.sender ≡ tells p heard_c
          first_is = ap (λ (b : Bool). elim b as (λ _. Course) [
            | true ↦ tells p (comes p (Delivered p.sender d.octets now 0) offered_c)
            | false ↦ comes p (Delivered p.sender d.octets now (draws offered_c.used)) (record offered_c { used = offered_c.used + 1 })
          ]) own

      pub passes_kept : Kept c → Kept (passes_on p draws now c q)
      passes_kept h =
          passes_heard (k.rests (Delivered p.sender d.octets now 0) offered_c may_hear tt sender_apart kept_o) (k.calm offered_c kept_o)
        where
          kept_o : Kept offered_c
          kept_o = k.rests (Offered q d.octets) c (given_may_come c.world q d given) tt refl h

  pub nothing_passes : (q : ℕ) (c : Course) → given_by c.world q ≡ None → Kept c → Kept (passes_on p draws now c q)
  nothing_passes q c none h = subst Kept (sym (ap (λ (g : Option Written). elim g as (λ _. Course) [
    | Some x ↦ fold (copy_comes p draws now x.octets) (comes p (Offered q x.octets) c) (others_than p q)
    | None ↦ c
  ]) none)) h

  -- what a receiver's tick gave
  pub tick_given : (q : ℕ) → (q == p.sender) ≡ false → (c : Course) (r : ReceiverState) → receiver_at c.world q ≡ Some r → (sent : Option Written)
      → (receiver_ticked p r now).1 ≡ sent → given_by (comes p (Ticked q now) c).world q ≡ sent
  tick_given q not_sender c r found sent is = tail_laws.given p c.world q now sent (receiver_answer p c.world q now r not_sender found ∙ ap Sent is)

  -- what a node's tick gave is passed on
  pub gave_passes : (q : ℕ) → (q == p.sender) ≡ false → (c : Course) (r : ReceiverState) → IsCalm p (run p events) c → receiver_at c.world q ≡ Some r
      → Kept (comes p (Ticked q now) c) → Kept (passes_on p draws now (comes p (Ticked q now) c) q)
  gave_passes q not_sender c r calm found h = go (receiver_ticked p r now).1 refl
    where
      ticked_c : Course
      ticked_c = comes p (Ticked q now) c

      on : GoesOn p events c
      on = goes_on p range events may c calm

      go : (sent : Option Written) → (receiver_ticked p r now).1 ≡ sent → Kept (passes_on p draws now ticked_c q)
      go None is = nothing_passes q ticked_c (tick_given q not_sender c r found None is) h
      go (Some d) is =
          passes_kept d
          (feed_of p range (events ++ events_of c) on.again q not_sender r (ap (λ (v : World). receiver_at v q) on.leads ∙ found) now d is) q not_sender ticked_c
          (tick_given q not_sender c r found (Some d) is) h

  -- ---- another node is served

  -- a node that is there has a receiver
  pub has_receiver : (c : Course) → IsCalm p (run p events) c → (q : ℕ) → (find (λ (to : ℕ). to == q) (receivers_of p p.receivers) ≡ None → ⊥)
      → (r : ReceiverState) × (receiver_at c.world q ≡ Some r)
  has_receiver c calm q there = go (receiver_at c.world q) refl
    where
      go : (found : Option ReceiverState) → receiver_at c.world q ≡ found → (r : ReceiverState) × (receiver_at c.world q ≡ Some r)
      go None none =
          absurd (there (ap (find (λ (to : ℕ). to == q)) (sym (calm.nodes ∙ world_laws.nodes p events)) ∙ no_node q c.world.receivers none))
      go (Some r) found = (r, found)

  pub serves_other : (q : ℕ) → (q == p.sender) ≡ false → (q == node) ≡ false → (find (λ (to : ℕ). to == q) (receivers_of p p.receivers) ≡ None → ⊥)
      → (c : Course) → Kept c → Kept (serves p draws now c q)
  serves_other q not_sender apart there c h =
      gave_passes q not_sender (takes p q c) who.0 calm who.1
      (k.rests (Ticked q now) (takes p q c) (all_are_taken p q (untaken c.world q) c refl) not_sender apart taken)
    where
      taken : Kept (takes p q c)
      taken = takes_rest q (untaken c.world q) apart c h

      calm : IsCalm p (run p events) (takes p q c)
      calm = k.calm (takes p q c) taken

      who : (r : ReceiverState) × (receiver_at (takes p q c).world q ≡ Some r)
      who = has_receiver (takes p q c) calm q there
