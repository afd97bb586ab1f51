-- Orders of data, files and streams within the profile: what a command does to them is one of five things.
use Rattle.std.proofs.Common.{◌≡◌, ℕ, zero, suc, ◌+◌, ◌*◌, ◌/◌, ◌%◌, ◌<◌, ◌≤◌, List, [], ◌∷◌, ◌++◌, length, Bool, true, false, Option, None, Some, Result, Ok, Err, refl, sym, ◌∙◌, arith}
use Rattle.std.specs.Prelude.{◌==◌, not, nat_le, nat_lt, is_none, is_some, ⊤}
use Rattle.std.specs.List.{AllByRecursion}
use Rattle.std.proofs.lemmas.Bool.Decides.{Decides-ltb}
use Rattle.std.proofs.Math.Nat.{zero-mod, zero-div}
use Rattle.gf_field.specs.Element.{AreElements}
use Rattle.gf_field.proofs.Places.{elements_of_octets}
use Rattle.norm_base.specs.Settings.{Settings}
use Rattle.norm_base.specs.declared.kinds.Kind.{Kind}
use Rattle.norm_base.specs.declared.kinds.Kind.TheVariants as kind
use Rattle.norm_base.specs.declared.node.Origin.{Origin}
use Rattle.fec_plan.specs.Points.{position_before}
use Rattle.fec_plan.specs.declared.position.Position.{Position}
use Rattle.norm_order.specs.Sets.{is_member}
use Rattle.norm_order.specs.Entries.{Part, Write, End, Object, Whole, Stream, Entry}
use Rattle.norm_order.specs.Segments.{pieces, closed_from, since_cut, written}
use Rattle.norm_order.specs.Shapes.{last_source}
use Rattle.norm_send_rules.specs.SenderState.{SenderState, Watermark}
use Rattle.norm_send_rules.specs.InWindow.{next_index, current_shapes}
use Rattle.norm_send_rules.specs.Restarting.{is_used, begun_anew}
use Rattle.norm_send_rules.specs.Room.{size_of, can_make_room}
use Rattle.norm_send_rules.specs.Enqueuing.{info_length, open_stream, object_fault, joined, ids_spent}
use Rattle.norm_send_rules.specs.Streaming.{open_fault, parts_now, used_segments, is_spent, is_crowded, write_fault, close_fault, grown, cut}
use Rattle.norm_send_rules.specs.Marking.{is_no_quorum, most_open, with_watermark, watermark_at, cut_and_marked}
use Rattle.norm_send_rules.specs.Striking.{strike_fault, struck_off}
use Rattle.norm_send_rules.specs.Watermarks.{open_watermarks}
use Rattle.norm_send_rules.specs.Commanding.{commanded, answered}
use Rattle.norm_send_rules.specs.declared.fault.EnqueueFault.{EnqueueFault}
use Rattle.norm_send_rules.specs.declared.fault.MarkFault.TheVariants.{TooMany, Quorum}
use Rattle.norm_send_rules.specs.declared.fault.StrikeFault.{StrikeFault}
use Rattle.norm_send_rules.specs.declared.fault.SendFault.{SendFault}
use Rattle.norm_send_rules.specs.declared.fault.SendFault.TheVariants.{Mark, Strike, IdUsed}
use Rattle.norm_send_rules.specs.declared.job.Job.{Job}
use Rattle.norm_send_rules.specs.declared.job.Job.TheVariants as job
use Rattle.norm_send_rules.specs.declared.job.Receipt.{Receipt}
use Rattle.norm_send_rules.specs.declared.job.Receipt.TheVariants as receipt
use Rattle.norm_safety.specs.Jobs.{IsJob}
use Rattle.norm_safety.proofs.SenderKeeps.{Keeps, keeps_all, struck_keeps, FewNodes, AllOpen}
use Rattle.norm_safety.proofs.EntryLemmas.{clash}
use Rattle.norm_safety.proofs.CommandSteps.{where_free, first_none, marked_keeps}
use Rattle.norm_safety.proofs.Members.{Strikes}

-- a part of a stream is of octets
abbrev pub IsOfOctets : Part → Type 0
IsOfOctets (Write by octets) = AreElements octets
IsOfOctets _ = ⊤

-- Data or a file, of octets, and no larger than the profile lets it be; or a stream of octets, no more of them than 32 bits count, and
-- of no more segments than its blocks.
abbrev pub IsSized : Settings → Object → Type 0
IsSized p (Whole kind info octets) = (0 < length octets) × (length octets ≤ p.octets) × (info_length info ≤ p.e) × AreElements octets
IsSized p (Stream parts) =
    (used_segments p parts ≤ 16777216 * p.b) × (length (written parts) ≤ 4294967295) × AllByRecursion IsOfOctets parts

-- each entry is such
abbrev pub AreSized : Settings → List Entry → Type 0
AreSized p order = AllByRecursion (λ (x : Entry). IsSized p x.object) order

-- a stream that opens
pub empty_sized : (p : Settings) → IsSized p (Stream [])
unfolding closed_from since_cut pieces written
empty_sized p =
    let no_blocks : 0 / p.e ≡ 0 = zero-div p.e in
    let nothing : 0 % p.e ≡ 0 = zero-mod p.e in
    let none = no_pieces p.e (0 / p.e) no_blocks in
    (omega (arith, none, nothing), omega arith, tt)
  where
    no_pieces : (e n : ℕ) → n ≡ 0 → length (pieces e n []) ≡ 0
    no_pieces e zero is = refl
    no_pieces e (suc n) is = absurd (omega arith)

-- What stays but for watermarks: orders, instances, drop points, that members' ids have 32 bits; and the sequence number has
-- 16 bits. A watermark is open where it was, or is of the last source symbol of the order. Members stay, or are struck.
pub record Steady (p : Settings) (old new : SenderState) : Type 0 where
  pub earlier : new.earlier ≡ old.earlier
  pub current : new.current ≡ old.current
  pub nodes : FewNodes old.listings → FewNodes new.listings
  pub sequence : old.sequence < 65536 → new.sequence < 65536
  pub asked : (test : Position → Bool) → ((at : Position) → last_source (current_shapes p old) ≡ Some at → test at ≡ true)
      → AllOpen test old.watermarks → AllOpen test new.watermarks
  pub strikes : Strikes old.listings new.listings old.struck new.struck
  pub sent : (at : Position) → is_member position_before at old.sent ≡ true → is_member position_before at new.sent ≡ true

pub keeps_steady : (p : Settings) (old new : SenderState) → Keeps old new → Steady p old new
keeps_steady p old new h = record {
  earlier = h.earlier;
  current = h.current;
  nodes = h.nodes;
  sequence = h.sequence;
  asked = λ test last all. h.asked test all;
  strikes = h.strikes;
  sent = h.sent;
}

-- What a command does to orders: they stay, but for watermarks; an object joins, where no stream is open; the open stream gets a part,
-- for which there is room; the open stream is cut where it has to be; or a new instance begins.
pub data OrderCase (p : Settings) (s : SenderState) (by : Origin) : SenderState → Type 0 where
  Rests : {new : SenderState} → Steady p s new → OrderCase p s by new
  Enqueues : (object : Object) → IsSized p object → open_stream s ≡ None → next_index s < 4294967295 → can_make_room p s (size_of p object) ≡ true
      → OrderCase p s by (joined p by object s)
  Grows : (part : Part) → IsOfOctets part → is_none (open_stream s) ≡ false → is_spent p (parts_now s ++ part ∷ []) ≡ false
      → is_crowded p s (parts_now s ++ part ∷ []) ≡ false → OrderCase p s by (grown p s (parts_now s ++ part ∷ []))
  Marks : {new : SenderState} → Steady p (cut p s) new → OrderCase p s by new
  Begins : (id : ℕ) → is_used s id ≡ false → id < 65536 → OrderCase p s by (begun_anew id s)

-- the state of a step
abbrev state_of : SenderState × Result Receipt SendFault → SenderState
state_of step = step.0

pub not_less : (a b : ℕ) → nat_lt a b ≡ false → b ≤ a
not_less a b e = by_cases (nat_lt a b) refl
  where
    by_cases : (t : Bool) → nat_lt a b ≡ t → b ≤ a
    by_cases true is = absurd (clash (sym e ∙ is))
    by_cases false is = (let no : a < b → ⊥ = λ lt. clash (sym e ∙ (Decides-ltb a b).1 lt) in omega arith)

-- the cases of a step that answers a receipt where there is no fault
free_case : (p : Settings) (by : Origin) (found : Option EnqueueFault) (s after : SenderState) (receipt : Receipt)
    → (found ≡ None → OrderCase p s by after) → OrderCase p s by (where_free found s after receipt).0
free_case p by None s after receipt h = h refl
free_case p by (Some fault) s after receipt h = Rests (keeps_steady p s s (keeps_all s))

none_of : {X : Type 0} (o : Option X) → is_some o ≡ false → o ≡ None
none_of None e = refl
none_of (Some x) e = absurd (clash (sym e))

pub roomy : (b : Bool) → not b ≡ false → b ≡ true
roomy true e = refl
roomy false e = absurd (clash (sym e))

below_last : (s : SenderState) → ids_spent s ≡ false → next_index s < 4294967295
below_last s e = let le = not_less 4294967294 (next_index s) e in omega arith

-- an object that has no fault joins
object_case : (p : Settings) (by : Origin) (kind : Kind) (info : Option (List ℕ)) (octets : List ℕ) (s : SenderState) → AreElements octets
    → object_fault p s info octets ≡ None → OrderCase p s by (joined p by (Whole kind info octets) s)
object_case p by kind info octets s are none =
    let first = first_none _ _ _ none in
    let second = first_none _ _ _ first.1 in
    let third = first_none _ _ _ second.1 in
    let fourth = first_none _ _ _ third.1 in
    let fifth = first_none _ _ _ fourth.1 in
    Enqueues (Whole kind info octets)
    (some_length first.0, not_less p.octets (length octets) second.0, not_less p.e (info_length info) third.0, are)
    (none_of (open_stream s) fourth.0) (below_last s fifth.0) (roomy _ (first_none _ _ _ fifth.1).0)
  where
    some_length : (length octets == 0) ≡ false → 0 < length octets
    some_length e = go (length octets) e
      where
        go : (n : ℕ) → (n == 0) ≡ false → 0 < n
        go zero e = absurd (clash (sym e))
        go (suc n) e = omega arith

-- a stream opens
open_case : (p : Settings) (by : Origin) (s : SenderState) → open_fault p s ≡ None → OrderCase p s by (joined p by (Stream []) s)
open_case p by s none =
    let first = first_none _ _ _ none in
    let second = first_none _ _ _ first.1 in
    let third = first_none _ _ _ second.1 in
    Enqueues (Stream []) (empty_sized p) (none_of (open_stream s) second.0) (below_last s third.0) (roomy _ (first_none _ _ _ third.1).0)

-- one more watermark of a position that passes the test
open_more : (test : Position → Bool) (watermarks : List Watermark) (w : Watermark) → test w.at ≡ true → AllOpen test watermarks → AllOpen test (watermarks ++ w ∷ [])
open_more test [] w h all = (λ is. h, tt)
open_more test (x ∷ watermarks) w h all = (all.0, open_more test watermarks w h all.1)

-- a mark asks for the last source symbol, or changes nothing
pub mark_steady : (p : Settings) (by : Origin) (quorum : Option ℕ) (s : SenderState) (found : Option Position)
    → found ≡ last_source (current_shapes p s) → Steady p s (answered Mark (watermark_at s by quorum found)).0
mark_steady p by quorum s None is = keeps_steady p s s (keeps_all s)
mark_steady p by quorum s (Some at) is = few (nat_le most_open (length (open_watermarks s)))
  where
    few : (many : Bool) → Steady p s (state_of (answered Mark (elim many [
      | true ↦ (s, Err (TooMany (length (open_watermarks s))))
      | false ↦ (with_watermark s by quorum at, Ok (receipt.Mark (length s.watermarks + 1) at))
    ])))
    few true = keeps_steady p s s (keeps_all s)
    few false =
        let kept = marked_keeps by s quorum at in
        record {
          earlier = kept.earlier;
          current = kept.current;
          nodes = kept.nodes;
          sequence = kept.sequence;
          asked = λ test last all. kept.asked test (open_more test s.watermarks _ (last at (sym is)) all);
          strikes = kept.strikes;
          sent = kept.sent;
        }

cut_mark_case : (p : Settings) (s : SenderState) (by : Origin) (quorum : Option ℕ) → OrderCase p s by (answered Mark (cut_and_marked p s by quorum)).0
cut_mark_case p s by quorum = Marks (mark_steady p by quorum (cut p s) (last_source (current_shapes p (cut p s))) refl)

pub order_case : (p : Settings) (s : SenderState) (by : Origin) (job : Job) → IsJob job → OrderCase p s by (commanded p s by job).0
order_case p s by (job.Data info bytes) are =
    free_case p by (object_fault p s info bytes) s (joined p by (Whole kind.Data info bytes) s) _ (object_case p by kind.Data info bytes s (elements_of_octets bytes are))
order_case p s by (job.File name bytes) are =
    free_case p by (object_fault p s (Some name) bytes) s (joined p by (Whole kind.File (Some name) bytes) s) _
    (object_case p by kind.File (Some name) bytes s (elements_of_octets bytes are))
order_case p s by job.Open are = free_case p by (open_fault p s) s (joined p by (Stream []) s) _ (open_case p by s)
order_case p s by (job.Write bytes) are =
    let parts = parts_now s ++ Write by bytes ∷ [] in
    free_case p by (write_fault p s bytes parts) s (grown p s parts) _ (λ none. (
    let first = first_none _ _ _ none in
    let second = first_none _ _ _ first.1 in
    let third = first_none _ _ _ second.1 in
    let fourth = first_none _ _ _ third.1 in
    Grows (Write by bytes) (elements_of_octets bytes are) third.0 fourth.0 (first_none _ _ _ fourth.1).0
    ))
order_case p s by job.Close are =
    let parts = parts_now s ++ End ∷ [] in
    free_case p by (close_fault p s parts) s (grown p s parts) _ (λ none. (
    let first = first_none _ _ _ none in
    let second = first_none _ _ _ first.1 in
    Grows End tt first.0 second.0 (first_none _ _ _ second.1).0
    ))
order_case p s by (job.Mark None) are = cut_mark_case p s by None
order_case p s by (job.Mark (Some q)) are = go (is_no_quorum p q)
  where
    go : (no : Bool) → OrderCase p s by (state_of (answered Mark (elim no [ true ↦ (s, Err (Quorum q)) | false ↦ cut_and_marked p s by (Some q) ])))
    go true = Rests (keeps_steady p s s (keeps_all s))
    go false = cut_mark_case p s by (Some q)
order_case p s by (job.Restart id) are = go (is_used s id) refl
  where
    go : (used : Bool) → is_used s id ≡ used → OrderCase p s by (state_of (elim used [
      | true ↦ (s, Err (IdUsed id))
      | false ↦ (begun_anew id s, Ok (receipt.Restarted id))
    ]))
    go true e = Rests (keeps_steady p s s (keeps_all s))
    go false e = Begins id e are
order_case p s by (job.Strike node) are = go (strike_fault s node)
  where
    go : (found : Option StrikeFault) → OrderCase p s by (state_of (answered Strike (elim found [
      | Some fault ↦ (s, Err fault)
      | None ↦ (struck_off node s, Ok (receipt.Struck node))
    ])))
    go (Some fault) = Rests (keeps_steady p s s (keeps_all s))
    go None = Rests (keeps_steady p s (struck_off node s) (struck_keeps node s))
