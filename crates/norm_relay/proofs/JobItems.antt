-- What an accepted job adds to the order, as items; and what else leaves the order as it is.
use Rattle.std.proofs.Common.{◌≡◌, ℕ, zero, suc, List, [], ◌∷◌, ◌++◌, Bool, true, false, Option, None, Some, Result, Ok, Err, refl, sym, ap, ◌∙◌, subst}
use Rattle.std.specs.Prelude.{reverse, is_none, unwrap_or, map, nat_le, length, ◌+◌}
use Rattle.std.proofs.lemmas.List.{append-nil}
use Rattle.norm_base.specs.Settings.{Settings}
use Rattle.norm_base.specs.declared.kinds.Kind.TheVariants as kind
use Rattle.norm_base.specs.declared.node.Origin.{Origin}
use Rattle.fec_plan.specs.declared.position.Position.{Position}
use Rattle.norm_order.specs.Entries.{Part, Write, Cut, End, Object, Whole, Stream, Entry}
use Rattle.norm_order.specs.Segments.{written, has_end, unclosed}
use Rattle.norm_order.specs.Shapes.{last_source}
use Rattle.norm_order.specs.declared.up.Up.{Up}
use Rattle.norm_order.specs.declared.up.Up.TheVariants as up
use Rattle.norm_send_rules.specs.SenderState.{SenderState, Instance}
use Rattle.norm_send_rules.specs.Commanding.{commanded, answered}
use Rattle.norm_send_rules.specs.Enqueuing.{open_stream, open_parts, object_fault, joined}
use Rattle.norm_send_rules.specs.InWindow.{current_shapes}
use Rattle.norm_send_rules.specs.Marking.{watermark_at, with_watermark, most_open}
use Rattle.norm_send_rules.specs.Streaming.{parts_now, with_parts, grown, write_fault, wrote, close_fault, closed, open_fault, cut}
use Rattle.norm_send_rules.specs.Watermarks.{open_watermarks}
use Rattle.norm_send_rules.specs.declared.fault.EnqueueFault.{EnqueueFault}
use Rattle.norm_send_rules.specs.declared.fault.MarkFault.TheVariants.{TooMany}
use Rattle.norm_send_rules.specs.declared.fault.SendFault.{SendFault}
use Rattle.norm_send_rules.specs.declared.fault.SendFault.TheVariants.{Enqueue, Mark}
use Rattle.norm_send_rules.specs.declared.job.Job.{Job}
use Rattle.norm_send_rules.specs.declared.job.Job.TheVariants as job
use Rattle.norm_send_rules.specs.declared.job.Receipt.{Receipt}
use Rattle.norm_send_rules.specs.declared.job.Receipt.TheVariants as receipt
use Rattle.norm_safety.proofs.EntryLemmas.{clash}
use Rattle.norm_safety.proofs.CommandSteps.{first_none, open_parts_now, marked_keeps, with_mark, no_parts}
use Rattle.norm_safety.proofs.SenderKeeps.{Keeps}
use Rattle.norm_relay.specs.Flat.{Item, Begins, Octet, Ends, items_of, object_items, order_items, Thing}
use Rattle.norm_relay.specs.OrderLaws.{IsNamed}
use Rattle.norm_relay.specs.Pumping.{job_of}
use Rattle.norm_relay.proofs.FlatLemmas.{items_entry, items_grown, write_brings, end_brings}

-- the current order as items
abbrev pub now_items : SenderState → List Item
now_items s = order_items s.current.order

-- a step that is accepted adds these items to the order, and one that is not adds none
abbrev pub AddsItems : SenderState → List Item → SenderState × Result Receipt SendFault → Type 0
AddsItems s items step = elim step.1 [
  | Ok receipt ↦ now_items step.0 ≡ now_items s ++ items
  | Err fault ↦ now_items step.0 ≡ now_items s
]

-- a part's step that changes nothing if there is a fault
free_adds : (items : List Item) (found : Option EnqueueFault) (s after : SenderState) (receipt : Receipt) → (found ≡ None → now_items after ≡ now_items s ++ items)
    → AddsItems s items (answered Enqueue (elim found [ Some fault ↦ (s, Err fault) | None ↦ (after, Ok receipt) ]))
free_adds items None s after receipt h = h refl
free_adds items (Some fault) s after receipt h = refl

joined_adds : (p : Settings) (by : Origin) (object : Object) (s : SenderState) → now_items (joined p by object s) ≡ now_items s ++ object_items object
joined_adds p by object s = items_entry s.current.order (record { by = by; object = object })

-- the parts of an open stream have no end
open_unended : (entries : List Entry) → is_none (elim entries [ [] ↦ None | entry ∷ more ↦ open_parts entry.object ]) ≡ false
    → has_end (unwrap_or (elim entries [ [] ↦ None | entry ∷ more ↦ open_parts entry.object ]) []) ≡ false
open_unended [] e = absurd (clash (sym e))
open_unended (entry ∷ more) e = by_object entry.object e
  where
    by_end : (parts : List Part) (b : Bool) → has_end parts ≡ b → is_none (elim b [ true ↦ None | false ↦ Some parts ]) ≡ false
        → has_end (unwrap_or (elim b [ true ↦ None | false ↦ Some parts ]) []) ≡ false
    by_end parts true same e = absurd (clash (sym e))
    by_end parts false same e = same

    by_object : (o : Object) → is_none (open_parts o) ≡ false → has_end (unwrap_or (open_parts o) []) ≡ false
    by_object (Whole kind info octets) e = absurd (clash (sym e))
    by_object (Stream parts) e = by_end parts (has_end parts) refl e

write_adds : (p : Settings) (s : SenderState) (by : Origin) (octets : List ℕ) → AddsItems s (map Octet octets) (answered Enqueue (wrote p s by octets))
unfolding has_end written
write_adds p s by octets =
    let parts = parts_now s ++ Write by octets ∷ [] in
    free_adds (map Octet octets) (write_fault p s octets parts) s (grown p s parts) _ (λ none. (
    let first = first_none _ _ _ none in
    let second = first_none _ _ _ first.1 in
    let third = first_none _ _ _ second.1 in
    items_grown (parts_now s) (Write by octets ∷ []) (map Octet octets) s.current.order
    (write_brings (parts_now s) (Write by octets) octets (open_unended (reverse s.current.order) third.0) refl (append-nil octets)) (open_parts_now s third.0)
    ))

close_adds : (p : Settings) (s : SenderState) → AddsItems s (Ends ∷ []) (answered Enqueue (closed p s))
close_adds p s =
    let parts = parts_now s ++ End ∷ [] in
    free_adds (Ends ∷ []) (close_fault p s parts) s (grown p s parts) _ (λ none. (
    let first = first_none _ _ _ none in
    items_grown (parts_now s) (End ∷ []) (Ends ∷ []) s.current.order (end_brings (parts_now s) (open_unended (reverse s.current.order) first.0)) (open_parts_now s first.0)
    ))

data_adds : (p : Settings) (s : SenderState) (by : Origin) (info : Option (List ℕ)) (bytes : List ℕ)
    → AddsItems s (Thing kind.Data info bytes ∷ []) (commanded p s by (job.Data info bytes))
data_adds p s by info bytes =
    free_adds (Thing kind.Data info bytes ∷ []) (object_fault p s info bytes) s (joined p by (Whole kind.Data info bytes) s) _ (λ none. joined_adds p by (Whole kind.Data info bytes) s)

file_adds : (p : Settings) (s : SenderState) (by : Origin) (name bytes : List ℕ)
    → AddsItems s (Thing kind.File (Some name) bytes ∷ []) (commanded p s by (job.File name bytes))
file_adds p s by name bytes =
    free_adds (Thing kind.File (Some name) bytes ∷ []) (object_fault p s (Some name) bytes) s (joined p by (Whole kind.File (Some name) bytes) s) _
    (λ none. joined_adds p by (Whole kind.File (Some name) bytes) s)

open_adds : (p : Settings) (s : SenderState) (by : Origin) → AddsItems s (Begins ∷ []) (commanded p s by job.Open)
unfolding has_end written
open_adds p s by = free_adds (Begins ∷ []) (open_fault p s) s (joined p by (Stream []) s) _ (λ none. joined_adds p by (Stream []) s)

-- If the job of a hand-up is accepted, the order gains what the hand-up brings.
pub job_adds : (p : Settings) (s : SenderState) (by : Origin) (opened : Bool) (u : Up) (j : Job) → IsNamed u → job_of opened u ≡ Some j
    → AddsItems s (items_of opened u) (commanded p s by j)
job_adds p s by opened u j named is = go opened u named j is
  where
    same : (a b : Job) → Some a ≡ Some b → a ≡ b
    same a b e = cc

    none : (a : Job) → None ≡ Some a → ⊥
    none a e = cc

    on : (items : List Item) (a b : Job) → Some a ≡ Some b → AddsItems s items (commanded p s by a) → AddsItems s items (commanded p s by b)
    on items a b e h = let A : Job → Type 0 = λ x. AddsItems s items (commanded p s by x) in subst A (same a b e) h

    go : (o : Bool) (u : Up) → IsNamed u → (j : Job) → job_of o u ≡ Some j → AddsItems s (items_of o u) (commanded p s by j)
    go o (up.Object index kind.Data info bytes) n j e = on (Thing kind.Data info bytes ∷ []) (job.Data info bytes) j e (data_adds p s by info bytes)
    go o (up.Object index kind.File (Some name) bytes) n j e = on (Thing kind.File (Some name) bytes ∷ []) (job.File name bytes) j e (file_adds p s by name bytes)
    go o (up.Object index kind.File None bytes) n j e = absurd n
    go o (up.StreamOpen index) n j e = on (Begins ∷ []) job.Open j e (open_adds p s by)
    go o (up.StreamBytes index offset bytes) n j e = on (map Octet bytes) (job.Write bytes) j e (write_adds p s by bytes)
    go o (up.StreamEnd index) n j e = on (Ends ∷ []) job.Close j e (close_adds p s)
    go true (up.Lost index) n j e = on (Ends ∷ []) job.Close j e (close_adds p s)
    go false (up.Lost index) n j e = absurd (none j e)

-- a cut brings nothing
cut_keeps : (p : Settings) (s : SenderState) → now_items (cut p s) ≡ now_items s
unfolding has_end written
cut_keeps p s = found (is_none (open_stream s)) refl
  where
    cuts : (n : ℕ) → is_none (open_stream s) ≡ false → now_items (elim n [ zero ↦ s | suc n ↦ with_parts (parts_now s ++ Cut ∷ []) s ]) ≡ now_items s
    cuts zero e = refl
    cuts (suc n) e =
        items_grown (parts_now s) (Cut ∷ []) [] s.current.order (write_brings (parts_now s) Cut [] (open_unended (reverse s.current.order) e) refl refl) (open_parts_now s e)
        ∙ append-nil (now_items s)

    nothing : (o : Option (List Part)) → is_none o ≡ true → unclosed p.e (unwrap_or o []) ≡ 0
    nothing None e = no_parts p.e
    nothing (Some parts) e = absurd (clash e)

    found : (b : Bool) → is_none (open_stream s) ≡ b → now_items (cut p s) ≡ now_items s
    found false e = cuts (unclosed p.e (parts_now s)) e
    found true e =
        let G : ℕ → Type 0 = λ n. now_items (elim n [ zero ↦ s | suc n ↦ with_parts (parts_now s ++ Cut ∷ []) s ]) ≡ now_items s in
        subst G (sym (nothing (open_stream s) e)) refl

-- a mark leaves the order's items as they are
pub mark_keeps : (p : Settings) (s : SenderState) (by : Origin) → now_items (commanded p s by (job.Mark None)).0 ≡ now_items s
mark_keeps p s by = at (last_source (current_shapes p (cut p s)))
  where
    at : (found : Option Position) → now_items (answered Mark (watermark_at (cut p s) by None found)).0 ≡ now_items s
    at None = cut_keeps p s
    at (Some q) = go (nat_le most_open (length (open_watermarks (cut p s))))
      where
        go : (many : Bool) → now_items (answered Mark (elim many [
          | true ↦ (cut p s, Err (TooMany (length (open_watermarks (cut p s)))))
          | false ↦ (with_watermark (cut p s) by None q, Ok (receipt.Mark (length (cut p s).watermarks + 1) q))
        ])).0 ≡ now_items s
        go true = cut_keeps p s
        go false =
            let k : Keeps (with_mark by None q (cut p s)) (with_watermark (cut p s) by None q) = marked_keeps by (cut p s) None q in
            ap (λ (i : Instance). order_items i.order) k.current ∙ cut_keeps p s
