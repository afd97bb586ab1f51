-- What holds of a node's receiver as a turn begins, and is kept by what it hears, holds as it ticks; and what holds after its tick, to the turn's end.
use Rattle.std.proofs.Common.{◌≡◌, ◌≢◌, ℕ, zero, suc, ◌+◌, cond, List, [], ◌∷◌, Bool, true, false, Option, None, Some, refl, sym, ap, ◌∙◌, subst}
use Rattle.std.specs.Prelude.{Contains, ◌==◌, find, fold}
use Rattle.std.specs.Fn.{iterate}
use Rattle.std.specs.List.{AllByRecursion}
use Rattle.std.specs.Option.{option_map}
use Rattle.std.proofs.lemmas.Bool.Decides.{Decides-eqb}
use Rattle.norm_base.specs.Members.{receivers_of, members_of}
use Rattle.norm_base.specs.Settings.{Settings, InRange}
use Rattle.norm_ext.specs.Written.{Written}
use Rattle.norm_receive_rules.specs.Heard.{Heard}
use Rattle.norm_receive_rules.specs.ReceiverState.{ReceiverState}
use Rattle.norm_receive_rules.specs.ReceiverStep.{ReceiverEvent, receiver_step}
use Rattle.norm_receive_rules.specs.ReceiverStep as receiver
use Rattle.norm_receive_rules.specs.Receiving.{received}
use Rattle.norm_receive_rules.specs.Taking.{took}
use Rattle.norm_receive_rules.specs.Ticking.{ticked as receiver_ticked}
use Rattle.norm_send_rules.specs.Ticking.{ticked}
use Rattle.norm_safety.specs.Events.{Event, Delivered, Ticked, Offered, UpTaken}
use Rattle.norm_safety.specs.Tail.{Course, course_from, comes, untold, tells, untaken, takes, copy_comes, others_than, given_by, passes_on, sender_ticks, serves, tail_turn}
use Rattle.norm_safety.specs.World.{receiver_at}
use Rattle.norm_safety.specs.WorldLaws.{is_senders, to_receiver, comes_to}
use Rattle.norm_safety.specs.WorldStep.{world_step, run}
use Rattle.norm_safety.proofs.EntryLemmas.{clash}
use Rattle.norm_safety.proofs.FreshRun.{Differ, receivers_rise}
use Rattle.norm_safety.proofs.TailLemmas.{tail_laws}
use Rattle.norm_safety.proofs.WorldLemmas.{world_laws}
use Rattle.norm_laws.proofs.LaterTailLemmas.{Quiet, not_sender}
use Rattle.norm_recovery.specs.TailLawful.{MayGoOn}
use Rattle.norm_recovery.specs.TailOf.{ComesInTail}
use Rattle.norm_recovery.proofs.BackOffRuns.{feed_leaves}
use Rattle.norm_recovery.proofs.CleanTurn.{each_there}
use Rattle.norm_recovery.proofs.FeedRead.{Feed, Joined}
use Rattle.norm_recovery.proofs.MembersRun.{none_stays}
use Rattle.norm_recovery.proofs.PassTurn.{news_leave, own_answer, others_mine}
use Rattle.norm_recovery.proofs.ServeWalk.{KeptServing, news_rest, gave_passes, has_receiver, serves_other}
use Rattle.norm_recovery.proofs.TailCourses.{IsCalm, comes_calm, begins_calm, draw_calm}
use Rattle.norm_recovery.proofs.TailWalk.{all_are_taken, no_receiver, sender_takes_none, given_may_come, given_itself, offered_may_come, others_differ, copy_offered}

none_some : {X : Type 0} (x : X) → None ≡ Some x → ⊥
none_some x e = cc

same_some : {X : Type 0} (x y : X) → Some x ≡ Some y → x ≡ y
same_some x y e = cc

-- It does not depend on what was heard.
pub record Plain (R : ReceiverState → Type 0) : Type 0 where
  pub heard : (r : ReceiverState) (heard : Heard) → R r → R (record r { knows = record (r.knows) { heard = heard } })

module _ (p : Settings) (range : InRange p) (events : List Event) (may : MayGoOn p events) (node : ℕ) (other : (node == p.sender) ≡ false) (draws : ℕ → ℕ) (now : ℕ) where
  module _ (R : ReceiverState → Type 0) (plain : Plain R) where
    -- it holds of the node's receiver
    pub record Holds (c : Course) : Type 0 where
      pub calm : IsCalm p (run p events) c
      pub so : (t : ReceiverState) → receiver_at c.world node ≡ Some t → R t

    holds_rests : (e : Event) (c : Course) → ComesInTail c.world e → Quiet p e → comes_to node e ≡ false → Holds c → Holds (comes p e c)
    holds_rests e c may_come quiet apart h = record {
      calm = comes_calm p (run p events) e c may_come h.calm;
      so = λ t is. h.so t (sym (world_laws.others p c.world e node apart) ∙ is);
    }

    holds_drawn : (c : Course) (n : ℕ) → Holds c → Holds (record c { used = n })
    holds_drawn c n h = record { calm = draw_calm p (run p events) c n h.calm; so = h.so }

    -- an event of the receiver's own
    pub holds_own : (S : ReceiverState → Type 0) → (c : Course) (e : Event) (own : ReceiverEvent) → ComesInTail c.world e → is_senders p e ≡ false
        → to_receiver e ≡ Some (node, own) → ((r : ReceiverState) → receiver_at c.world node ≡ Some r → R r → S (receiver_step p r own).0) → Holds c
        → IsCalm p (run p events) (comes p e c) × ((t : ReceiverState) → receiver_at (comes p e c).world node ≡ Some t → S t)
    holds_own S c e own may_come theirs to steps h = (comes_calm p (run p events) e c may_come h.calm, λ t is. go t is (receiver_at c.world node) refl)
      where
        go : (t : ReceiverState) → receiver_at (world_step p c.world e).0 node ≡ Some t → (found : Option ReceiverState) → receiver_at c.world node ≡ found → S t
        go t is None none = absurd (none_some t (sym (none_stays p c.world e node none) ∙ is))
        go t is (Some r) found =
            subst S (same_some (receiver_step p r own).0 t (sym (world_laws.moves p c.world e node own r theirs to found) ∙ is)) (steps r found (h.so r found))

    holds_takes : ((r : ReceiverState) → R r → R (took r).0) → (n : ℕ) (c : Course) → Holds c → Holds (iterate (comes p (UpTaken node)) n c)
    holds_takes taken zero c h = h
    holds_takes taken (suc n) c h =
        let next = holds_own R c (UpTaken node) receiver.UpTaken tt refl refl (λ r found so. taken r so) h in
        holds_takes taken n (comes p (UpTaken node) c) (record { calm = next.0; so = next.1 })

    holds_hears : (c : Course) (d : Written) (f : Feed p d) (draw : ℕ) → ComesInTail c.world (Delivered node d.octets now draw) → Joined p d f c.world.sender
        → Holds c → Holds (comes p (Delivered node d.octets now draw) c)
    holds_hears c d f draw may_come joined h =
        let next = holds_own R c (Delivered node d.octets now draw) (receiver.Delivered d.octets now draw) may_come other refl
        (λ r found so. feed_leaves p r d f now draw R (λ heard. plain.heard r heard so)) h in
        record { calm = next.0; so = next.1 }

    pub holding : KeptServing p (run p events) node now Holds
    holding = record { calm = λ c h. h.calm; rests = holds_rests; drawn = holds_drawn; hears = holds_hears }

    pub others_hold : (nodes : List ℕ) → AllByRecursion (λ (q : ℕ). (q == p.sender) ≡ false) nodes
        → AllByRecursion (λ (q : ℕ). find (λ (to : ℕ). to == q) (receivers_of p p.receivers) ≡ None → ⊥) nodes → AllByRecursion (λ (q : ℕ). (node == q) ≡ false) nodes
        → (c : Course) → Holds c → Holds (fold (serves p draws now) c nodes)
    others_hold [] mine there apart c h = h
    others_hold (q ∷ nodes) mine there apart c h =
        others_hold nodes mine.1 there.1 apart.1 (serves p draws now c q)
        (serves_other p range events may node other draws now Holds holding q mine.0 (turned (q == node) refl) there.0 c h)
      where
        turned : (b : Bool) → (q == node) ≡ b → (q == node) ≡ false
        turned false e = e
        turned true e = absurd (clash (sym apart.0 ∙ (Decides-eqb node q).1 (sym ((Decides-eqb q node).0 e))))

    -- ---- what the sender's tick gave

    -- Whenever it is heard, what holds of the node's receiver goes on to hold.
    abbrev pub Hears : Written → Type 0
    Hears d = (c : Course) → IsCalm p (run p events) c → Contains c.world.offered (p.sender, d) → (draw : ℕ)
        → ComesInTail c.world (Delivered node d.octets now draw) → (r : ReceiverState) → receiver_at c.world node ≡ Some r → R r → R (received p r d.octets now draw)

    module _ (d : Written) (own : Hears d) where
      record Passed (c : Course) : Type 0 where
        kept : Holds c
        offered : Contains c.world.offered (p.sender, d)

      copy_passed : (to : ℕ) → (to == p.sender) ≡ false → p.sender ≢ to → (c : Course) → Passed c → Passed (copy_comes p draws now d.octets c to)
      copy_passed to mine apart c h = record {
        kept = subst Holds (sym (ap (λ (b : Bool). elim b as (λ _. Course) [
          | true ↦ tells p (comes p (Delivered to d.octets now 0) c)
          | false ↦ comes p (Delivered to d.octets now (draws c.used)) (record c { used = c.used + 1 })
        ]) mine)) (go (to == node) refl);
        offered = subst (λ (os : List (ℕ × Written)). Contains os (p.sender, d)) (sym (copy_offered p draws now d.octets c to)) h.offered;
      }
        where
          v : Course
          v = record c { used = c.used + 1 }

          comes_so : ComesInTail c.world (Delivered to d.octets now (draws c.used))
          comes_so = offered_may_come c.world p.sender to d.octets apart (d, h.offered, refl)

          mine_hears : ComesInTail c.world (Delivered node d.octets now (draws c.used)) → Holds (comes p (Delivered node d.octets now (draws c.used)) v)
          mine_hears may_come =
              let next = holds_own R v (Delivered node d.octets now (draws c.used)) (receiver.Delivered d.octets now (draws c.used)) may_come other refl
              (λ r found so. own v (draw_calm p (run p events) c (c.used + 1) h.kept.calm) h.offered (draws c.used) may_come r found so) (holds_drawn c (c.used + 1) h.kept) in
              record { calm = next.0; so = next.1 }

          go : (b : Bool) → (to == node) ≡ b → Holds (comes p (Delivered to d.octets now (draws c.used)) v)
          go false e = holds_rests (Delivered to d.octets now (draws c.used)) v comes_so tt e (holds_drawn c (c.used + 1) h.kept)
          go true e =
              let A : ℕ → Type 0 = λ n. ComesInTail c.world (Delivered n d.octets now (draws c.used)) → Holds (comes p (Delivered n d.octets now (draws c.used)) v) in
              subst A (sym ((Decides-eqb to node).0 e)) mine_hears comes_so

      copies_passed : (nodes : List ℕ) → AllByRecursion (λ (to : ℕ). (to == p.sender) ≡ false) nodes → AllByRecursion (λ (to : ℕ). p.sender ≢ to) nodes → (c : Course)
          → Passed c → Passed (fold (copy_comes p draws now d.octets) c nodes)
      copies_passed [] mine apart c h = h
      copies_passed (to ∷ nodes) mine apart c h =
          copies_passed nodes mine.1 apart.1 (copy_comes p draws now d.octets c to) (copy_passed to mine.0 apart.0 c h)

    passes_own : (c : Course) (given : Option Written) → given_by c.world p.sender ≡ given
        → ((d : Written) → given ≡ Some d → Hears d) → Holds c → Holds (passes_on p draws now c p.sender)
    passes_own c None is own h = subst Holds (sym (ap (λ (g : Option Written). elim g as (λ _. Course) [
      | Some x ↦ fold (copy_comes p draws now x.octets) (comes p (Offered p.sender x.octets) c) (others_than p p.sender)
      | None ↦ c
    ]) is)) h
    passes_own c (Some d) is own h = subst Holds (sym (ap (λ (g : Option Written). elim g as (λ _. Course) [
      | Some x ↦ fold (copy_comes p draws now x.octets) (comes p (Offered p.sender x.octets) c) (others_than p p.sender)
      | None ↦ c
    ]) is))
        (copies_passed d (own d refl) (others_than p p.sender) (others_mine p (members_of p)) (others_differ p.sender (members_of p)) (comes p (Offered p.sender d.octets) c)
        (record {
          kept = holds_rests (Offered p.sender d.octets) c (given_may_come c.world p.sender d is) tt refl h;
          offered = given_itself p c.world p.sender d is;
        })).kept

    -- up to when the receivers are served
    pub passed_holds : (r : ReceiverState) → receiver_at (run p events) node ≡ Some r → R r
        → ((d : Written) → (ticked p (run p events).sender now).1 ≡ Some d → Hears d) → Holds (passes_on p draws now (sender_ticks p now (course_from (run p events))) p.sender)
    passed_holds r found so own =
        passes_own (sender_ticks p now (course_from (run p events))) (ticked p (run p events).sender now).1 given own told
      where
        ticks : Course
        ticks = comes p (Ticked p.sender now) (course_from (run p events))

        still : receiver_at ticks.world node ≡ receiver_at (run p events) node
        still = ap (find (λ (x : ReceiverState). x.node == node)) (world_laws.receivers p (run p events) (Ticked p.sender now) ((Decides-eqb p.sender p.sender).1 refl))

        told : Holds (sender_ticks p now (course_from (run p events)))
        told = news_rest p range events may node other draws now Holds holding (untold ticks.world.sender) ticks (record {
          calm = comes_calm p (run p events) (Ticked p.sender now) (course_from (run p events)) (sender_takes_none p (run p events) (world_laws.nodes p events))
              (begins_calm p (run p events));
          so = λ x there. subst R (same_some r x (sym found ∙ sym still ∙ there)) so;
        })

        given : given_by (sender_ticks p now (course_from (run p events))).world p.sender ≡ (ticked p (run p events).sender now).1
        given = ap (λ (gifts : List (ℕ × Written)). option_map (λ (g : ℕ × Written). g.1) (find (λ (g : ℕ × Written). g.0 == p.sender) gifts))
            (news_leave p (untold ticks.world.sender) node ticks).1
            ∙ tail_laws.given p (run p events) p.sender now (ticked p (run p events).sender now).1 (own_answer p (run p events) now)

  -- ---- its own tick

  module _ (R S : ReceiverState → Type 0) (plain : Plain R) (takes_on : (r : ReceiverState) → R r → R (took r).0) (after : Plain S) (ticks : (r : ReceiverState) → R r → S (receiver_ticked p r now).0)
      (r0 : ReceiverState) (found0 : receiver_at (run p events) node ≡ Some r0) where
    there0 : find (λ (to : ℕ). to == node) (receivers_of p p.receivers) ≡ None → ⊥
    there0 none = none_some r0 (sym (no_receiver node (run p events).receivers (ap (find (λ (n : ℕ). n == node)) (world_laws.nodes p events) ∙ none)) ∙ found0)

    is_served : (c : Course) → Holds R plain c → Holds S after (serves p draws now c node)
    is_served c h =
        let next = holds_own R plain S (takes p node c) (Ticked node now) (receiver.Ticked now) (all_are_taken p node (untaken c.world node) c refl) other refl (λ r found so. ticks r so) taken in
        gave_passes p range events may node other draws now (Holds S after) (holding S after) node other (takes p node c) who.0 taken.calm who.1
        (record { calm = next.0; so = next.1 })
      where
        taken : Holds R plain (takes p node c)
        taken = holds_takes R plain takes_on (untaken c.world node) c h

        who : (r : ReceiverState) × (receiver_at (takes p node c).world node ≡ Some r)
        who = has_receiver p range events may node other draws now (Holds R plain) (holding R plain) (takes p node c) taken.calm node there0

    pub all_served : (nodes : List ℕ) → AllByRecursion (λ (q : ℕ). (q == p.sender) ≡ false) nodes
        → AllByRecursion (λ (q : ℕ). find (λ (to : ℕ). to == q) (receivers_of p p.receivers) ≡ None → ⊥) nodes → Differ nodes
        → (find (λ (to : ℕ). to == node) nodes ≡ None → ⊥) → (c : Course) → Holds R plain c → Holds S after (fold (serves p draws now) c nodes)
    all_served [] mine there differ has c h = absurd (has refl)
    all_served (q ∷ nodes) mine there differ has c h = go (q == node) refl has (λ more. all_served nodes mine.1 there.1 differ.1 more)
      where
        go : (b : Bool) → (q == node) ≡ b → (cond b (Some q) (find (λ (to : ℕ). to == node) nodes) ≡ None → ⊥)
            → ((find (λ (to : ℕ). to == node) nodes ≡ None → ⊥) → (v : Course) → Holds R plain v → Holds S after (fold (serves p draws now) v nodes))
            → Holds S after (fold (serves p draws now) (serves p draws now c q) nodes)
        go true e has_q more =
            let same : q ≡ node = (Decides-eqb q node).0 e in
            let A : ℕ → Type 0 = λ n. Holds S after (serves p draws now c n) in
            others_hold S after nodes mine.1 there.1 (subst (λ (n : ℕ). AllByRecursion (λ (m : ℕ). (n == m) ≡ false) nodes) same differ.0) (serves p draws now c q)
            (subst A (sym same) (is_served c h))
        go false e has_q more =
            more has_q (serves p draws now c q)
            (serves_other p range events may node other draws now (Holds R plain) (holding R plain) q mine.0 e there.0 c h)

    -- so it is at the turn's end
    pub node_turn_in : R r0 → ((d : Written) → (ticked p (run p events).sender now).1 ≡ Some d → Hears R plain d)
        → (t : ReceiverState) → receiver_at (tail_turn p draws now (course_from (run p events))).world node ≡ Some t → S t
    node_turn_in so own t is =
        (all_served (receivers_of p p.receivers) (not_sender p p.receivers) (each_there (receivers_of p p.receivers)) (receivers_rise p p.receivers).1 there0
        (passes_on p draws now (sender_ticks p now (course_from (run p events))) p.sender) (passed_holds R plain r0 found0 so own)).so t is

    -- and if it holds whoever hears it
    pub node_turn : R r0 → ((d : Written) → (ticked p (run p events).sender now).1 ≡ Some d → (x : ReceiverState) (draw : ℕ) → R x → R (received p x d.octets now draw))
        → (t : ReceiverState) → receiver_at (tail_turn p draws now (course_from (run p events))).world node ≡ Some t → S t
    node_turn so own t is = node_turn_in so (λ d gives c calm offered draw may_come r found h. own d gives r draw h) t is
