-- Over a turn that leaves no less, each back-off that began two round trips after the phase, or later, is clean.
use Rattle.std.proofs.Common.{◌≡◌, ℕ, ◌+◌, ◌*◌, ◌<◌, ◌≤◌, List, length, Bool, true, false, Option, None, Some, refl, ap, ◌∙◌, arith, ◌⊎◌, inl, inr}
use Rattle.std.specs.Prelude.{◌==◌, ◌||◌, not, nat_lt, nat_le, IfSome}
use Rattle.std.proofs.lemmas.Bool.{cases_lt}
use Rattle.std.proofs.lemmas.Bool.Decides.{Decides-ltb, leb_tells}
use Rattle.norm_base.specs.Settings.{Settings}
use Rattle.norm_receive_rules.specs.ReceiverState.{ReceiverState}
use Rattle.norm_send_rules.specs.SenderState.{SenderState}
use Rattle.norm_send_rules.specs.Ticking.{closed_where_due, ticked}
use Rattle.norm_send_rules.specs.Watermarks.{has_member}
use Rattle.norm_safety.specs.Events.{Event}
use Rattle.norm_safety.specs.Tail.{course_from, tail_turn}
use Rattle.norm_safety.specs.World.{World, receiver_at}
use Rattle.norm_safety.specs.WorldStep.{run}
use Rattle.norm_safety.proofs.EntryLemmas.{clash}
use Rattle.norm_safety.proofs.OrderRun.{found_holds}
use Rattle.norm_safety.proofs.WorldLemmas.{world_laws}
use Rattle.norm_recovery.specs.Asking.{have_wanted}
use Rattle.norm_recovery.specs.Clean.{is_clean, is_clean_from}
use Rattle.norm_recovery.specs.Left.{left}
use Rattle.norm_recovery.specs.RunsOut.{all_new}
use Rattle.norm_recovery.specs.TailLawful.{MayGoOn}
use Rattle.norm_recovery.specs.Timely.{WorldTimely, ReceiverTimely}
use Rattle.norm_recovery.specs.Watch.{Phase, each_member, is_spent, Watch}
use Rattle.norm_recovery.specs.WatchCleans.{WatchCleans}
use Rattle.norm_recovery.specs.WatchKeeps.{Follows, turn_after}
use Rattle.norm_recovery.proofs.CleanSteps.{both, tick_clean}
use Rattle.norm_recovery.proofs.CleanTurn.{clean_turn}
use Rattle.norm_recovery.proofs.LeftNever.{all_true}
use Rattle.norm_recovery.proofs.WatchSpent.{WasThere, was_there, each_after, spent}
use Rattle.norm_recovery.proofs.WatchTurn.{goes}

-- a back-off that ends early enough
pub early_clean : (p : Settings) (late : ℕ) (s : SenderState) (r : ReceiverState) → IfSome r.knows.backoff (λ ends. ends < late) → is_clean_from late p s r ≡ true
early_clean p late s r early = go r.knows.backoff early
  where
    left_is : (a b : Bool) → a ≡ true → (a || b) ≡ true
    left_is true b e = refl
    left_is false b e = absurd (clash e)

    go : (found : Option ℕ) → IfSome found (λ ends. ends < late)
        → (elim found as (λ _. Bool) [ Some ends ↦ nat_lt ends late || is_clean p s r | None ↦ true ]) ≡ true
    go None lt = refl
    go (Some ends) lt = left_is (nat_lt ends late) (is_clean p s r) ((Decides-ltb ends late).1 lt)

pub sooner : (found : Option ℕ) (n late : ℕ) → n < late → IfSome found (λ ends. ends ≤ n) → IfSome found (λ ends. ends < late)
sooner None n late lt h = tt
sooner (Some ends) n late lt h = omega (arith, lt, h)

module _ (p : Settings) (events : List Event) (last : ℕ) (draws : ℕ → ℕ) (f : Follows p events last) (may : MayGoOn p events)
    (same : left p (record (run p events) { sender = closed_where_due p (last + p.step) (run p events).sender }) ≡ left p (run p events))
    (ph : Phase) (h : Watch p ph last (run p events)) where
  abbrev s : SenderState
  s = (run p events).sender

  abbrev now : ℕ
  now = last + p.step

  abbrev late : ℕ
  late = ph.began + (p.k + 2) * p.grtt + 1

  abbrev after : World
  after = (tail_turn p draws (last + p.step) (course_from (run p events))).world

  span : (p.k + 2) * p.grtt ≡ p.k * p.grtt + 2 * p.grtt
  span = grind arith

  -- at a moment by which nothing is put off too far
  timely_early : (v : World) (moment : ℕ) → WorldTimely p moment v → moment ≤ ph.began + 2 * p.grtt → (node : ℕ) (r : ReceiverState) → receiver_at v node ≡ Some r
      → IfSome r.knows.backoff (λ ends. ends < ph.began + (p.k + 2) * p.grtt + 1)
  timely_early v moment timely le node r found =
      let own = found_holds (ReceiverTimely p moment) (λ (x : ReceiverState). x.node == node) v.receivers r timely.receivers found in
      sooner r.knows.backoff (moment + p.k * p.grtt) late (let z = span in omega (arith, le, z)) own.backoff

  -- by what was so before
  was_clean : (node : ℕ) (r : ReceiverState) → receiver_at (run p events) node ≡ Some r → has_member node (run p events).sender ≡ true
      → is_clean_from (ph.began + (p.k + 2) * p.grtt + 1) p (run p events).sender r ≡ true
  was_clean node r found member =
      own (has_member r.node s) (is_clean_from late p s r) (ap (λ (n : ℕ). has_member n s) (world_laws.found (run p events) node r found) ∙ member)
      (found_holds (λ (x : ReceiverState). (not (has_member x.node s) || is_clean_from late p s x) ≡ true) (λ (x : ReceiverState). x.node == node) (run p events).receivers r
      (all_true (λ (x : ReceiverState). not (has_member x.node s) || is_clean_from late p s x) (run p events).receivers h.clean) found)
    where
      own : (a b : Bool) → a ≡ true → (not a || b) ≡ true → b ≡ true
      own true b is e = e
      own false b is e = absurd (clash is)

  have : ph.began + 2 * p.grtt ≤ last → have_wanted p (run p events) ≡ true
  have le = go (nat_lt (ph.began + p.grtt) ph.since) (nat_le (ph.began + 2 * p.grtt) last) (le_so (leb_tells (ph.began + 2 * p.grtt) last)) h.spent
    where
      le_so : ((nat_le (ph.began + 2 * p.grtt) last ≡ true) × (ph.began + 2 * p.grtt ≤ last)) ⊎ ((nat_le (ph.began + 2 * p.grtt) last ≡ false) × (last < ph.began + 2 * p.grtt))
          → nat_le (ph.began + 2 * p.grtt) last ≡ true
      le_so (inl tells) = tells.0
      le_so (inr tells) = absurd (let lt = tells.1 in omega (arith, lt, le))

      of_spent : is_spent p (run p events) ≡ true → have_wanted p (run p events) ≡ true
      of_spent e = (both (length (all_new p s) == 0) (have_wanted p (run p events)) e).1

      go : (a b : Bool) → b ≡ true → (not (a || b) || is_spent p (run p events)) ≡ true → have_wanted p (run p events) ≡ true
      go true b is e = of_spent e
      go false true is e = of_spent e
      go false false is e = absurd (clash is)

  one : (x : ReceiverState) → receiver_at (tail_turn p draws (last + p.step) (course_from (run p events))).world x.node ≡ Some x
      → has_member x.node (run p events).sender ≡ true
      → is_clean_from (ph.began + (p.k + 2) * p.grtt + 1) p (tail_turn p draws (last + p.step) (course_from (run p events))).world.sender x ≡ true
  one x there member = go (was_there p events last draws f may same x there) (cases_lt (ph.began + 2 * p.grtt) now) (cases_lt last (ph.began + 2 * p.grtt))
    where
      go : WasThere p events last draws f may same x → (ph.began + 2 * p.grtt < now) ⊎ (now ≤ ph.began + 2 * p.grtt)
          → (last < ph.began + 2 * p.grtt) ⊎ (ph.began + 2 * p.grtt ≤ last)
          → is_clean_from (ph.began + (p.k + 2) * p.grtt + 1) p (tail_turn p draws (last + p.step) (course_from (run p events))).world.sender x ≡ true
      go was (inr soon) second = early_clean p late after.sender x (timely_early after now (goes p events last draws f 0).timely soon x.node x there)
      go was (inl long) (inl before) =
          clean_turn p f.profile events may draws now late x.node was.r x was.found
          (early_clean p late (ticked p s now).0 was.r (timely_early (run p events) last h.timely (omega (arith, before)) x.node was.r was.found)) there
      go was (inl long) (inr later) =
          clean_turn p f.profile events may draws now late x.node was.r x was.found
          (tick_clean p f.profile events may.lawful may.jobs now (inr (have later, same)) x.node was.r was.found member late (was_clean x.node was.r was.found member)) there

  clean : each_member (is_clean_from (ph.began + (p.k + 2) * p.grtt + 1) p (turn_after p draws events last).world.sender) (turn_after p draws events last).world ≡ true
  clean = each_after p events last draws f may same (is_clean_from (ph.began + (p.k + 2) * p.grtt + 1) p after.sender) (λ x there member. one x there member)

pub watch_cleans : WatchCleans
watch_cleans = record {
  spent = λ p events last draws f may same ph h. spent p events last draws f may same ph h;
  clean = λ p events last draws f may same ph h. clean p events last draws f may same ph h;
}
