-- The members of a sender are receivers of the profile, in rising order, in every run: a strike takes one out, and nothing else changes them.
use Rattle.std.proofs.Common.{◌≡◌, ℕ, zero, suc, ◌+◌, cond, List, [], ◌∷◌, ◌++◌, length, map, Bool, true, false, Option, None, Some, Ok, Err, refl, sym, ap, subst}
use Rattle.std.specs.Prelude.{◌==◌, filter, find, not, nat_le}
use Rattle.std.specs.List.{AllByRecursion}
use Rattle.norm_base.specs.Members.{receivers_of}
use Rattle.norm_base.specs.Settings.{Settings}
use Rattle.norm_base.specs.declared.kinds.Kind.TheVariants as kind
use Rattle.norm_base.specs.declared.node.Origin.{Origin}
use Rattle.fec_plan.specs.declared.position.Position.{Position}
use Rattle.norm_order.specs.Entries.{Write, End, Cut, Whole, Stream}
use Rattle.norm_order.specs.Segments.{unclosed}
use Rattle.norm_order.specs.Shapes.{last_source}
use Rattle.norm_send_rules.specs.Commanding.{commanded}
use Rattle.norm_send_rules.specs.Enqueuing.{object_fault, joined}
use Rattle.norm_send_rules.specs.InWindow.{current_shapes}
use Rattle.norm_send_rules.specs.Marking.{is_no_quorum, most_open, with_watermark, watermark_at, cut_and_marked}
use Rattle.norm_send_rules.specs.Restarting.{is_used, begun_anew}
use Rattle.norm_send_rules.specs.SenderState.{SenderState, Listing, Watermark, unlisted}
use Rattle.norm_send_rules.specs.Streaming.{open_fault, parts_now, with_parts, write_fault, close_fault, grown, cut}
use Rattle.norm_send_rules.specs.Striking.{strike_fault, without_node, struck_off}
use Rattle.norm_send_rules.specs.Watermarks.{members, open_watermarks, keeps_oldest, counted_anew, settled}
use Rattle.norm_send_rules.specs.declared.job.Job.{Job}
use Rattle.norm_send_rules.specs.declared.job.Job.TheVariants as job
use Rattle.norm_send_rules.proofs.WantLemmas.{where_free, either}
use Rattle.norm_safety.specs.Events.{Event, Commanded, Delivered, Ticked, Offered, UpTaken, NewsAsked}
use Rattle.norm_safety.specs.World.{World, world_opening}
use Rattle.norm_safety.specs.WorldStep.{world_step, run_from, run}
use Rattle.norm_laws.proofs.CountSender.{sender_is}
use Rattle.norm_recovery.proofs.AskedMoves.{AllOver, RisingNodes, receivers_rise}
use Rattle.norm_recovery.proofs.CleanTurn.{each_there}
use Rattle.norm_recovery.proofs.KeepsSender.{event_stays}

-- they rise, and each is a receiver
pub record AreReceivers (p : Settings) (nodes : List ℕ) : Type 0 where
  pub rise : RisingNodes nodes
  pub there : AllByRecursion (λ (q : ℕ). find (λ (to : ℕ). to == q) (receivers_of p p.receivers) ≡ None → ⊥) nodes

-- so they are without some
all_fewer : (P : ℕ → Type 0) (test : ℕ → Bool) (ns : List ℕ) → AllByRecursion P ns → AllByRecursion P (filter test ns)
all_fewer P test [] all = tt
all_fewer P test (n ∷ ns) all = go (test n) (all_fewer P test ns all.1)
  where
    go : (b : Bool) → AllByRecursion P (filter test ns) → AllByRecursion P (cond b (n ∷ filter test ns) (filter test ns))
    go true more = (all.0, more)
    go false more = more

rise_fewer : (test : ℕ → Bool) (ns : List ℕ) → RisingNodes ns → RisingNodes (filter test ns)
rise_fewer test [] rise = tt
rise_fewer test (n ∷ ns) rise = go (test n) (rise_fewer test ns rise.1)
  where
    go : (b : Bool) → RisingNodes (filter test ns) → RisingNodes (cond b (n ∷ filter test ns) (filter test ns))
    go true more = (over ns rise.0, more)
      where
        over : (ms : List ℕ) → AllOver n ms → AllOver n (filter test ms)
        over [] all = tt
        over (m ∷ ms) all = by (test m) (over ms all.1)
          where
            by : (b : Bool) → AllOver n (filter test ms) → AllOver n (cond b (m ∷ filter test ms) (filter test ms))
            by true more = (all.0, more)
            by false more = more
    go false more = more

fewer : (p : Settings) (test : ℕ → Bool) (ns : List ℕ) → AreReceivers p ns → AreReceivers p (filter test ns)
fewer p test ns h = record {
  rise = rise_fewer test ns h.rise;
  there = all_fewer (λ (q : ℕ). find (λ (to : ℕ). to == q) (receivers_of p p.receivers) ≡ None → ⊥) test ns h.there;
}

-- ---- commands

-- the members are as they were
abbrev Same : SenderState → SenderState → Type 0
Same s t = members t ≡ members s

module _ (p : Settings) where
  abbrev A : SenderState → Type 0
  A s = AreReceivers p (members s)

  by_fault : {F X : Type 0} (found : Option F) (s after : SenderState) (refused : F → X) (given : X) → A s → A after → A (where_free found s after refused given).0
  by_fault None s after refused given h k = k
  by_fault (Some fault) s after refused given h k = h

  by_test : {X : Type 0} (b : Bool) (t u : SenderState × X) → A t.0 → A u.0 → A (either b t u).0
  by_test true t u h k = h
  by_test false t u h k = k

  counted : (old t : SenderState) → A t → A (counted_anew old t)
  counted old t h = go (keeps_oldest old t)
    where
      go : (b : Bool) → A (elim b [ true ↦ t | false ↦ record t { flushes = 0 } ])
      go true = h
      go false = h

  cut_same : (s : SenderState) → A s → A (cut p s)
  cut_same s h = go (unclosed p.e (parts_now s))
    where
      cut_by : ℕ → SenderState
      cut_by n = elim n [ zero ↦ s | suc n ↦ with_parts (parts_now s ++ Cut ∷ []) s ]

      go : (n : ℕ) → A (cut_by n)
      go zero = h
      go (suc n) = h

  watermark_same : (s : SenderState) (by : Origin) (quorum : Option ℕ) (found : Option Position) → A s → A (watermark_at s by quorum found).0
  watermark_same s by quorum None h = h
  watermark_same s by quorum (Some at) h =
      let w : Watermark = record { mark = length s.watermarks + 1; by = by; at = at; quorum = quorum; ended = None } in
      let more : SenderState = record s { watermarks = s.watermarks ++ w ∷ [] } in
      by_test (nat_le most_open (length (open_watermarks s))) (s, _) (with_watermark s by quorum at, _) h (counted s (settled more) h)

  mark_same : (s : SenderState) (by : Origin) (quorum : Option ℕ) → A s → A (cut_and_marked p s by quorum).0
  mark_same s by quorum h = watermark_same (cut p s) by quorum (last_source (current_shapes p (cut p s))) (cut_same s h)

  as_nodes : (nodes : List ℕ) → map (λ (l : Listing). l.node) (unlisted nodes) ≡ nodes
  as_nodes [] = refl
  as_nodes (n ∷ nodes) = ap (λ (ns : List ℕ). n ∷ ns) (as_nodes nodes)

  without : (node : ℕ) (ls : List Listing) → map (λ (l : Listing). l.node) (filter (λ (l : Listing). not (l.node == node)) ls)
      ≡ filter (λ (n : ℕ). not (n == node)) (map (λ (l : Listing). l.node) ls)
  without node [] = refl
  without node (l ∷ ls) = go (not (l.node == node)) (without node ls)
    where
      go : (b : Bool) → map (λ (l : Listing). l.node) (filter (λ (l : Listing). not (l.node == node)) ls) ≡ filter (λ (n : ℕ). not (n == node)) (map (λ (l : Listing). l.node) ls)
          → map (λ (l : Listing). l.node) (cond b (l ∷ filter (λ (l : Listing). not (l.node == node)) ls) (filter (λ (l : Listing). not (l.node == node)) ls))
          ≡ cond b (l.node ∷ filter (λ (n : ℕ). not (n == node)) (map (λ (l : Listing). l.node) ls)) (filter (λ (n : ℕ). not (n == node)) (map (λ (l : Listing). l.node) ls))
      go true e = ap (λ (ns : List ℕ). l.node ∷ ns) e
      go false e = e

  command_keeps : (s : SenderState) (by : Origin) (j : Job) → A s → A (commanded p s by j).0
  command_keeps s by (job.Data info bytes) h = by_fault (object_fault p s info bytes) s (joined p by (Whole kind.Data info bytes) s) Err (Ok _) h h
  command_keeps s by (job.File name bytes) h = by_fault (object_fault p s (Some name) bytes) s (joined p by (Whole kind.File (Some name) bytes) s) Err (Ok _) h h
  command_keeps s by job.Open h = by_fault (open_fault p s) s (joined p by (Stream []) s) Err (Ok _) h h
  command_keeps s by (job.Write bytes) h =
      let parts = parts_now s ++ Write by bytes ∷ [] in by_fault (write_fault p s bytes parts) s (grown p s parts) Err (Ok _) h h
  command_keeps s by job.Close h = let parts = parts_now s ++ End ∷ [] in by_fault (close_fault p s parts) s (grown p s parts) Err (Ok _) h h
  command_keeps s by (job.Mark None) h = mark_same s by None h
  command_keeps s by (job.Mark (Some q)) h = by_test (is_no_quorum p q) (s, _) (cut_and_marked p s by (Some q)) h (mark_same s by (Some q) h)
  command_keeps s by (job.Restart id) h = by_test (is_used s id) (s, _) (begun_anew id s, _) h (subst (AreReceivers p) (sym (as_nodes (members s))) h)
  command_keeps s by (job.Strike node) h =
      by_fault (strike_fault s node) s (struck_off node s) Err (Ok _) h
      (counted s (settled (without_node node s)) (subst (AreReceivers p) (sym (without node s.listings)) (fewer p (λ (n : ℕ). not (n == node)) (members s) h)))

  -- ---- runs

  event_keeps : (w : World) (e : Event) → A w.sender → A (world_step p w e).0.sender
  event_keeps w (Commanded by j now) h = subst A (sym (sender_is p w (Commanded by j now))) (command_keeps w.sender by j h)
  event_keeps w (Delivered node octets now draw) h = subst (AreReceivers p) (sym (event_stays p w (Delivered node octets now draw) tt).members) h
  event_keeps w (Ticked node now) h = subst (AreReceivers p) (sym (event_stays p w (Ticked node now) tt).members) h
  event_keeps w (Offered node octets) h = subst (AreReceivers p) (sym (event_stays p w (Offered node octets) tt).members) h
  event_keeps w (UpTaken node) h = subst (AreReceivers p) (sym (event_stays p w (UpTaken node) tt).members) h
  event_keeps w NewsAsked h = subst (AreReceivers p) (sym (event_stays p w NewsAsked tt).members) h

  run_keeps : (w : World) (events : List Event) → A w.sender → A (run_from p w events).sender
  run_keeps w [] h = h
  run_keeps w (e ∷ events) h = run_keeps (world_step p w e).0 events (event_keeps w e h)

  pub members_rise : (events : List Event) → AreReceivers p (members (run p events).sender)
  members_rise events =
      run_keeps (world_opening p) events (subst (AreReceivers p) (sym (as_nodes (receivers_of p p.receivers)))
      (record { rise = receivers_rise p p.receivers; there = each_there (receivers_of p p.receivers) }))
