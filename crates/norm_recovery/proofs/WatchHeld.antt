-- Over a turn that leaves no less, whoever is held off longer than by what it heard before the phase is asked for.
use Rattle.std.proofs.Common.{◌≡◌, ℕ, ◌+◌, ◌*◌, ◌<◌, ◌≤◌, List, Bool, true, false, Option, None, Some, refl, sym, ap, ◌∙◌, arith, ◌⊎◌, inl, inr}
use Rattle.std.specs.Prelude.{◌==◌, ◌&&◌, ◌||◌, not, nat_lt, nat_le}
use Rattle.std.specs.List.{list_all}
use Rattle.std.proofs.lemmas.Bool.Decides.{Decides-ltb, leb_tells}
use Rattle.norm_base.specs.Settings.{Settings}
use Rattle.norm_receive_rules.specs.ReceiverState.{ReceiverState}
use Rattle.norm_send_rules.specs.Repairable.{repairable}
use Rattle.norm_send_rules.specs.SenderState.{SenderState}
use Rattle.norm_send_rules.specs.Watermarks.{has_member}
use Rattle.norm_safety.specs.Events.{Event}
use Rattle.norm_safety.specs.Tail.{course_from, tail_turn}
use Rattle.norm_safety.specs.World.{World, receiver_at}
use Rattle.norm_safety.specs.WorldStep.{run}
use Rattle.norm_safety.proofs.EntryLemmas.{clash}
use Rattle.norm_safety.proofs.OrderRun.{found_holds}
use Rattle.norm_safety.proofs.WorldLemmas.{world_laws}
use Rattle.norm_recovery.specs.Clean.{is_clean, is_clean_from}
use Rattle.norm_recovery.specs.Timely.{ReceiverTimely}
use Rattle.norm_recovery.specs.Watch.{Phase, is_asked, most_held, flushed_at, owes_nothing, has_ticked, is_spent}
use Rattle.norm_recovery.specs.WatchHolds.{WatchHolds}
use Rattle.norm_recovery.proofs.AskAfter.{asked_after, asked_of, vain}
use Rattle.norm_recovery.proofs.CleanSteps.{both}
use Rattle.norm_recovery.proofs.HoldOff.{Ends_so, held_turn}
use Rattle.norm_recovery.proofs.LeftNever.{all_true}
use Rattle.norm_recovery.proofs.PhaseTurn.{InPhase}
use Rattle.norm_recovery.proofs.WatchSpent.{WasThere, was_there, each_after}
use Rattle.norm_recovery.proofs.WatchTurn.{goes}

le_of : (a b : ℕ) → nat_le a b ≡ true → a ≤ b
le_of a b e = go (leb_tells a b)
  where
    go : ((nat_le a b ≡ true) × (a ≤ b)) ⊎ ((nat_le a b ≡ false) × (b < a)) → a ≤ b
    go (inl tells) = tells.1
    go (inr tells) = absurd (clash (sym tells.0 ∙ e))

lt_of : (a b : ℕ) → nat_le a b ≡ false → b < a
lt_of a b e = go (leb_tells a b)
  where
    go : ((nat_le a b ≡ true) × (a ≤ b)) ⊎ ((nat_le a b ≡ false) × (b < a)) → b < a
    go (inl tells) = absurd (clash (sym e ∙ tells.0))
    go (inr tells) = tells.1

or_right : (a b : Bool) → b ≡ true → (a || b) ≡ true
or_right true b e = refl
or_right false b e = e

own_of : (a b : Bool) → a ≡ true → (not a || b) ≡ true → b ≡ true
own_of true b is e = e
own_of false b is e = absurd (clash is)

second : (a b : Bool) → a ≡ false → (a || b) ≡ true → b ≡ true
second true b is e = absurd (clash (sym is))
second false b is e = e

not_lt : (a b : ℕ) → b ≤ a → nat_lt a b ≡ false
not_lt a b le = go (nat_lt a b) refl
  where
    go : (c : Bool) → nat_lt a b ≡ c → c ≡ false
    go true e = absurd (let lt = (Decides-ltb a b).0 e in omega (arith, lt, le))
    go false e = refl

module _ (p : Settings) (events : List Event) (last : ℕ) (draws : ℕ → ℕ) (ph : Phase) (h : InPhase p events last ph) where
  abbrev s : SenderState
  s = (run p events).sender

  abbrev now : ℕ
  now = last + p.step

  abbrev after : World
  after = (tail_turn p draws (last + p.step) (course_from (run p events))).world

  abbrev H : ℕ
  H = most_held p ph

  spans : (2 * p.k + 4) * p.grtt ≡ 2 * (p.k * p.grtt) + 4 * p.grtt
  spans = grind arith

  span : (p.k + 2) * p.grtt ≡ p.k * p.grtt + 2 * p.grtt
  span = grind arith

  few : 2 * p.step ≤ p.grtt
  few = go (repairable p s) h.follows.twice
    where
      go : (m : ℕ) → 2 * (m + 1) * (p.gap + p.step) ≤ p.grtt → 2 * p.step ≤ p.grtt
      go m le =
          let more : 2 * (m + 1) * (p.gap + p.step) ≡ 2 * (m * (p.gap + p.step)) + 2 * (p.gap + p.step) = grind arith in
          omega (arith, le, more)

  -- of a test of each receiver
  at_node : (test : ReceiverState → Bool) → list_all test (run p events).receivers ≡ true → (node : ℕ) (r : ReceiverState) → receiver_at (run p events) node ≡ Some r → test r ≡ true
  at_node test all node r found =
      found_holds (λ (x : ReceiverState). test x ≡ true) (λ (x : ReceiverState). x.node == node) (run p events).receivers r (all_true test (run p events).receivers all) found

  one : (x : ReceiverState) → receiver_at (tail_turn p draws (last + p.step) (course_from (run p events))).world x.node ≡ Some x → has_member x.node (run p events).sender ≡ true
      → (nat_le x.knows.holdoff (most_held p ph) || is_asked p (tail_turn p draws (last + p.step) (course_from (run p events))).world.sender x) ≡ true
  one x there member = go (nat_le x.knows.holdoff H) refl (was_there p events last draws h.follows h.may h.no_less x there)
    where
      asked_x : Bool
      asked_x = is_asked p after.sender x

      go : (b : Bool) → nat_le x.knows.holdoff H ≡ b → WasThere p events last draws h.follows h.may h.no_less x → (b || asked_x) ≡ true
      go true e was = refl
      go false e was = late
        where
          r : ReceiverState
          r = was.r

          more : ph.began + (2 * p.k + 4) * p.grtt + 2 * p.step < x.knows.holdoff
          more = lt_of x.knows.holdoff H e

          timely_x : x.knows.holdoff ≤ (last + p.step) + (p.k + 2) * p.grtt
          timely_x = (found_holds (ReceiverTimely p now) (λ (y : ReceiverState). y.node == x.node) after.receivers x (goes p events last draws h.follows 0).timely.receivers there).holdoff

          -- so it is late in the phase
          is_late : ph.began + p.k * p.grtt + 2 * p.grtt + p.step < last
          is_late = let a = more in let b = timely_x in let c = spans in let d = span in omega (arith, a, b, c, d)

          spent : is_spent p (run p events) ≡ true
          spent = of (nat_lt (ph.began + p.grtt) ph.since) (nat_le (ph.began + 2 * p.grtt) last) long h.watch.spent
            where
              of : (a b : Bool) → b ≡ true → (not (a || b) || is_spent p (run p events)) ≡ true → is_spent p (run p events) ≡ true
              of true b is f = f
              of false true is f = f
              of false false is f = absurd (clash is)

              long : nat_le (ph.began + 2 * p.grtt) last ≡ true
              long = by (leb_tells (ph.began + 2 * p.grtt) last)
                where
                  by : ((nat_le (ph.began + 2 * p.grtt) last ≡ true) × (ph.began + 2 * p.grtt ≤ last)) ⊎ ((nat_le (ph.began + 2 * p.grtt) last ≡ false) × (last < ph.began + 2 * p.grtt))
                      → nat_le (ph.began + 2 * p.grtt) last ≡ true
                  by (inl tells) = tells.0
                  by (inr tells) = absurd (let lt = tells.1 in let far = is_late in omega (arith, lt, far))

          is : r.node ≡ x.node
          is = world_laws.found (run p events) x.node r was.found

          member_r : has_member r.node s ≡ true
          member_r = ap (λ (n : ℕ). has_member n s) is ∙ member

          clean_from : is_clean_from (ph.began + (p.k + 2) * p.grtt + 1) p s r ≡ true
          clean_from =
              own_of (has_member r.node s) (is_clean_from (ph.began + (p.k + 2) * p.grtt + 1) p s r) member_r
              (at_node (λ (y : ReceiverState). not (has_member y.node s) || is_clean_from (ph.began + (p.k + 2) * p.grtt + 1) p s y) h.watch.clean x.node r was.found)

          ticked_r : has_ticked p last s r ≡ true
          ticked_r =
              second (nat_lt last (ph.began + 3 * p.step)) (has_ticked p last s r)
              (not_lt last (ph.began + 3 * p.step) (let far = is_late in let small = few in omega (arith, far, small)))
              (later (nat_lt last (ph.began + 3 * p.step)) h.watch.ticked)
            where
              later : (a : Bool) → (a || list_all (has_ticked p last s) (run p events).receivers) ≡ true → (a || has_ticked p last s r) ≡ true
              later true f = refl
              later false f = at_node (has_ticked p last s) f x.node r was.found

          -- it does not back off, or is clean
          quiet_or_clean : (r.knows.backoff ≡ None) ⊎ (is_clean p s r ≡ true)
          quiet_or_clean = by r.knows.backoff refl clean_from (both (owes_nothing r) (waited r.knows.backoff) ticked_r).1
            where
              waited : Option ℕ → Bool
              waited o = elim o [ Some ends ↦ nat_lt last ends || flushed_at last s && nat_lt last (ends + p.step) | None ↦ true ]

              by : (o : Option ℕ) → r.knows.backoff ≡ o
                  → (elim o as (λ _. Bool) [ Some ends ↦ nat_lt ends (ph.began + (p.k + 2) * p.grtt + 1) || is_clean p s r | None ↦ true ]) ≡ true
                  → waited o ≡ true → (r.knows.backoff ≡ None) ⊎ (is_clean p s r ≡ true)
              by None is f g = inl is
              by (Some ends) is f g = pick (nat_lt ends (ph.began + (p.k + 2) * p.grtt + 1)) refl f
                where
                  soon : ends < ph.began + (p.k + 2) * p.grtt + 1 → ⊥
                  soon lt = far (nat_lt last ends) (flushed_at last s) (nat_lt last (ends + p.step)) refl refl g
                    where
                      far : (a b c : Bool) → nat_lt last ends ≡ a → nat_lt last (ends + p.step) ≡ c → (a || b && c) ≡ true → ⊥
                      far true b c i j k = (let m = (Decides-ltb last ends).0 i in let l = is_late in let d = span in omega (arith, m, l, d, lt))
                      far false true true i j k = (let m = (Decides-ltb last (ends + p.step)).0 j in let l = is_late in let d = span in omega (arith, m, l, d, lt))
                      far false true false i j k = clash k
                      far false false c i j k = clash k

                  pick : (b : Bool) → nat_lt ends (ph.began + (p.k + 2) * p.grtt + 1) ≡ b → (b || is_clean p s r) ≡ true → (r.knows.backoff ≡ None) ⊎ (is_clean p s r ≡ true)
                  pick true i k = absurd (soon ((Decides-ltb ends (ph.began + (p.k + 2) * p.grtt + 1)).0 i))
                  pick false i k = inr k

          held_before : (nat_le r.knows.holdoff H || is_asked p s r) ≡ true
          held_before =
              own_of (has_member r.node s) (nat_le r.knows.holdoff H || is_asked p s r) member_r
              (at_node (λ (y : ReceiverState). not (has_member y.node s) || (nat_le y.knows.holdoff H || is_asked p s y)) held_all x.node r was.found)
            where
              held_all : list_all (λ (y : ReceiverState). not (has_member y.node s) || (nat_le y.knows.holdoff H || is_asked p s y)) (run p events).receivers ≡ true
              held_all = h.watch.held_off

          -- held off as long before, it was asked for
          as_before : x.knows.holdoff ≡ r.knows.holdoff → asked_x ≡ true
          as_before same =
              asked_after p events last draws ph h spent x.node was.other member r x was.found there
              (second (nat_le r.knows.holdoff H) (is_asked p s r) (ap (λ (n : ℕ). nat_le n H) (sym same) ∙ e) held_before)

          late : asked_x ≡ true
          late = by (held_turn p h.follows.profile h.holds events h.may h.none draws now (vain p events last draws ph h spent) x.node was.other r was.found member quiet_or_clean x there)
            where
              by : Ends_so p h.follows.profile h.holds events h.may h.none draws now (vain p events last draws ph h spent) x.node was.other r was.found member x → asked_x ≡ true
              by (inl (inl same)) = as_before same
              by (inl (inr nothing)) = absurd (let m = more in omega (arith, m, nothing))
              by (inr a) = asked_of p events last draws ph h spent x.node was.other member r x was.found there a

pub watch_holds : WatchHolds
watch_holds p events last draws f may hold none goes often no_less ph enough h =
    each_after p events last draws f may no_less (λ x. nat_le x.knows.holdoff (most_held p ph) || is_asked p (tail_turn p draws (last + p.step) (course_from (run p events))).world.sender x)
    (λ x there member. one p events last draws ph
    (record { follows = f; may = may; holds = hold; none = none; goes_on = goes; often = often; few = enough; no_less = no_less; watch = h }) x there member)
