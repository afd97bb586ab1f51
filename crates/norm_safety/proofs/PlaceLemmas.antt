-- An accepted object stands at the index that it was answered, and stays there.
use Rattle.std.proofs.Common.{◌≡◌, ℕ, ◌+◌, cond, List, [], ◌∷◌, ◌++◌, length, Bool, true, false, Option, None, Some, Result, Ok, Err, refl, sym, ap, ◌∙◌, arith}
use Rattle.std.specs.Prelude.{map, find, ◌-◌, ◌==◌, ◌&&◌, is_none, nat_eq, nat_le}
use Rattle.std.specs.Cmp.Lexicographic.{pointwise}
use Rattle.std.specs.List.{IsDistinct, AllByRecursion}
use Rattle.std.proofs.lemmas.Bool.Decides.{Decides-eqb}
use Rattle.std.proofs.lemmas.List.{length-append}
use Rattle.norm_base.specs.Settings.{Settings}
use Rattle.norm_base.specs.declared.kinds.Kind.TheVariants as kind
use Rattle.norm_base.specs.declared.node.Origin.{Origin}
use Rattle.fec_plan.specs.declared.position.Position.{Position}
use Rattle.norm_order.specs.Entries.{Part, Write, End, Object, Whole, Stream, Entry}
use Rattle.norm_order.specs.Segments.{written}
use Rattle.norm_order.specs.Shapes.{last_source}
use Rattle.norm_send_rules.specs.SenderState.{SenderState, Instance}
use Rattle.norm_send_rules.specs.InWindow.{next_index, last_index, current_shapes}
use Rattle.norm_send_rules.specs.Restarting.{instances, is_used, begun_anew}
use Rattle.norm_send_rules.specs.Enqueuing.{open_stream, object_fault, joined}
use Rattle.norm_send_rules.specs.Streaming.{open_fault, write_fault, close_fault, grown, parts_now, with_last, cut}
use Rattle.norm_send_rules.specs.Marking.{is_no_quorum, most_open, with_watermark, watermark_at, cut_and_marked}
use Rattle.norm_send_rules.specs.Striking.{strike_fault, struck_off}
use Rattle.norm_send_rules.specs.Watermarks.{open_watermarks}
use Rattle.norm_send_rules.specs.Commanding.{commanded, answered}
use Rattle.norm_send_rules.specs.declared.fault.EnqueueFault.{EnqueueFault}
use Rattle.norm_send_rules.specs.declared.fault.MarkFault.TheVariants.{TooMany, Quorum}
use Rattle.norm_send_rules.specs.declared.fault.StrikeFault.{StrikeFault}
use Rattle.norm_send_rules.specs.declared.fault.SendFault.{SendFault}
use Rattle.norm_send_rules.specs.declared.fault.SendFault.TheVariants.{Mark, IdUsed, Strike}
use Rattle.norm_send_rules.specs.declared.job.Job.{Job}
use Rattle.norm_send_rules.specs.declared.job.Job.TheVariants as job
use Rattle.norm_send_rules.specs.declared.job.Receipt.{Receipt}
use Rattle.norm_send_rules.specs.declared.job.Receipt.TheVariants as receipt
use Rattle.norm_safety.specs.Lawful.{same_origin}
use Rattle.norm_safety.specs.OnceEach.{instance_ids, brings, is_by, has_written, is_closed, holds_at}
use Rattle.norm_safety.proofs.EntryLemmas.{clash, Stays, true_at, with_last_is, AllKept}
use Rattle.norm_safety.proofs.FrontLemmas.{list_itself}
use Rattle.norm_safety.proofs.OnceLemmas.{same_self}
use Rattle.norm_safety.proofs.CommandSteps.{where_free, first_none, open_parts_now}
use Rattle.norm_safety.proofs.WrittenLemmas.{written_stays, has_last, closed_stays, ends_last}

-- at an answered index of this instance stands what the command brought there
abbrev pub has_place : ℕ → SenderState → Origin → Job → Result Receipt SendFault → Bool
has_place id s by job (Ok (receipt.Object index len)) = holds_at s id index (is_by by job)
has_place id s by job (Ok (receipt.Opened index)) = holds_at s id index (is_by by job)
has_place id s by job (Ok (receipt.Wrote index offset len)) = holds_at s id index (λ entry. has_written by job offset entry.object)
has_place id s by job (Ok (receipt.Closed index)) = holds_at s id index (λ entry. is_closed entry.object)
has_place id s by job _ = true

-- a step's answer has its place
abbrev pub IsPlaced : ℕ → Origin → Job → SenderState × Result Receipt SendFault → Type 0
IsPlaced id by job step = has_place id step.0 by job step.1 ≡ true

-- a command brings a stream whatever its parts
brings_stream : (job : Job) (parts more : List Part) → brings job (Stream parts) ≡ brings job (Stream more)
brings_stream (job.Data info bytes) parts more = refl
brings_stream (job.File name bytes) parts more = refl
brings_stream job.Open parts more = refl
brings_stream (job.Write bytes) parts more = refl
brings_stream job.Close parts more = refl
brings_stream (job.Mark quorum) parts more = refl
brings_stream (job.Restart instance) parts more = refl
brings_stream (job.Strike node) parts more = refl

brought_stays : (by : Origin) (job : Job) → Stays (is_by by job)
brought_stays by job own parts more h = ap (λ (b : Bool). same_origin own by && b) (sym (brings_stream job parts (parts ++ more))) ∙ h

pub stays_placed : (id : ℕ) (s later : SenderState) (by : Origin) (job : Job) (r : Result Receipt SendFault) → AllKept (instances s) (instances later)
    → has_place id s by job r ≡ true → has_place id later by job r ≡ true
stays_placed id s later by job (Ok (receipt.Object index len)) kept h = kept id index (is_by by job) (brought_stays by job) h
stays_placed id s later by job (Ok (receipt.Opened index)) kept h = kept id index (is_by by job) (brought_stays by job) h
stays_placed id s later by job (Ok (receipt.Wrote index offset len)) kept h =
    kept id index (λ entry. has_written by job offset entry.object) (written_stays by job offset) h
stays_placed id s later by job (Ok (receipt.Closed index)) kept h = kept id index (λ entry. is_closed entry.object) closed_stays h
stays_placed id s later by job (Ok (receipt.Mark mark at)) kept h = h
stays_placed id s later by job (Ok (receipt.Restarted instance)) kept h = h
stays_placed id s later by job (Ok (receipt.Struck node)) kept h = h
stays_placed id s later by job (Err fault) kept h = h

-- the last of several different ids is found behind the others
pub current_found : (earlier : List Instance) (current new : Instance) → new.id ≡ current.id
    → IsDistinct nat_eq (map (λ (i : Instance). i.id) (earlier ++ current ∷ []))
    → find (λ (i : Instance). i.id == current.id) (earlier ++ new ∷ []) ≡ Some new
unfolding IsDistinct
current_found [] current new e all = go (new.id == current.id) ((Decides-eqb new.id current.id).1 e)
  where
    go : (b : Bool) → b ≡ true → cond b (Some new) None ≡ Some new
    go true e = refl
    go false e = absurd (clash e)
current_found (i ∷ earlier) current new e all =
    go (i.id == current.id) (last_differs earlier all.0) (current_found earlier current new e all.1)
  where
    last_differs : (more : List Instance) → AllByRecursion (λ id. (i.id == id) ≡ false) (map (λ (i : Instance). i.id) (more ++ current ∷ []))
        → (i.id == current.id) ≡ false
    last_differs [] all = all.0
    last_differs (j ∷ more) all = last_differs more all.1

    go : (b : Bool) → b ≡ false → find (λ (i : Instance). i.id == current.id) (earlier ++ new ∷ []) ≡ Some new
        → cond b (Some i) (find (λ (i : Instance). i.id == current.id) (earlier ++ new ∷ [])) ≡ Some new
    go true e found = absurd (clash (sym e))
    go false e found = found

last_at : (order : List Entry) (entry : Entry) (test : Entry → Bool) → test entry ≡ true → true_at (order ++ entry ∷ []) (length order) test ≡ true
last_at [] entry test is = is
last_at (x ∷ order) entry test is = last_at order entry test is

-- a command's own entry
own_entry : (by : Origin) (job : Job) (object : Object) → brings job object ≡ true → is_by by job (record { by = by; object = object }) ≡ true
own_entry by job object is = ap (λ (b : Bool). b && brings job object) (same_self by) ∙ is

-- octets are themselves, and so is an info
brings_data : (info : Option (List ℕ)) (bytes : List ℕ) → brings (job.Data info bytes) (Whole kind.Data info bytes) ≡ true
brings_data None bytes = list_itself bytes
brings_data (Some info) bytes = ap (λ (b : Bool). b && pointwise nat_eq bytes bytes) (list_itself info) ∙ list_itself bytes

brings_file : (name bytes : List ℕ) → brings (job.File name bytes) (Whole kind.File (Some name) bytes) ≡ true
brings_file name bytes = ap (λ (b : Bool). b && pointwise nat_eq bytes bytes) (list_itself name) ∙ list_itself bytes

-- what joins the order stands at its end
joined_placed : (p : Settings) (by : Origin) (job : Job) (object : Object) (s : SenderState) → brings job object ≡ true → IsDistinct nat_eq (instance_ids s)
    → holds_at (joined p by object s) s.current.id (next_index s) (is_by by job) ≡ true
joined_placed p by job object s is differ =
    let after = joined p by object s in
    ap (λ (found : Option Instance). true_at (elim found [ Some i ↦ i.order | None ↦ [] ]) (next_index s) (is_by by job))
    (current_found s.earlier s.current after.current refl differ)
    ∙ last_at s.current.order (record { by = by; object = object }) (is_by by job) (own_entry by job object is)

free_placed : (by : Origin) (job : Job) (found : Option EnqueueFault) (s after : SenderState) (receipt : Receipt)
    → (found ≡ None → has_place s.current.id after by job (Ok receipt) ≡ true)
    → IsPlaced s.current.id by job (where_free found s after receipt)
free_placed by job None s after receipt h = h refl
free_placed by job (Some fault) s after receipt h = refl

-- the open stream with one part more stands at the end of the order
grown_placed : (p : Settings) (s : SenderState) (part : Part) (test : Entry → Bool) → is_none (open_stream s) ≡ false → IsDistinct nat_eq (instance_ids s)
    → ((own : Origin) → test (record { by = own; object = Stream (parts_now s ++ part ∷ []) }) ≡ true)
    → holds_at (grown p s (parts_now s ++ part ∷ [])) s.current.id (last_index s) test ≡ true
grown_placed p s part test is differ holds =
    let parts = parts_now s ++ part ∷ [] in
    let after = grown p s parts in
    let ends = open_parts_now s is in
    let last : Entry = record { by = ends.by; object = Stream parts } in
    let order : after.current.order ≡ ends.front ++ last ∷ [] =
    ap (λ (xs : List Entry). with_last (Stream parts) xs) ends.is ∙ with_last_is (Stream parts) ends.front (record { by = ends.by; object = Stream (parts_now s) }) in
    let index : last_index s ≡ length ends.front =
    ap (λ (xs : List Entry). length xs - 1) ends.is ∙ ends_length ends.front (record { by = ends.by; object = Stream (parts_now s) }) in
    ap (λ (found : Option Instance). true_at (elim found [ Some i ↦ i.order | None ↦ [] ]) (last_index s) test)
    (current_found s.earlier s.current after.current refl differ)
    ∙ ap (λ (n : ℕ). true_at after.current.order n test) index
    ∙ ap (λ (xs : List Entry). true_at xs (length ends.front) test) order
    ∙ last_at ends.front last test (holds ends.by)
  where
    ends_length : (front : List Entry) (last : Entry) → length (front ++ last ∷ []) - 1 ≡ length front
    ends_length front last = (let all = length-append front (last ∷ []) in omega (arith, all))

mark_placed : (p : Settings) (s : SenderState) (by : Origin) (job : Job) (quorum : Option ℕ) (found : Option Position)
    → IsPlaced s.current.id by job (answered Mark (watermark_at (cut p s) by quorum found))
mark_placed p s by job quorum None = refl
mark_placed p s by job quorum (Some at) = go (nat_le most_open (length (open_watermarks (cut p s))))
  where
    go : (many : Bool) → IsPlaced s.current.id by job (answered Mark (elim many [
      | true ↦ (cut p s, Err (TooMany (length (open_watermarks (cut p s)))))
      | false ↦ (with_watermark (cut p s) by quorum at, Ok (receipt.Mark (length (cut p s).watermarks + 1) at))
    ]))
    go true = refl
    go false = refl

-- An accepted object or stream stands at the index that it is answered.
pub command_placed : (p : Settings) (s : SenderState) (by : Origin) (job : Job) → IsDistinct nat_eq (instance_ids s)
    → IsPlaced s.current.id by job (commanded p s by job)
command_placed p s by (job.Data info bytes) differ =
    free_placed by (job.Data info bytes) (object_fault p s info bytes) s (joined p by (Whole kind.Data info bytes) s) _
    (λ none. joined_placed p by (job.Data info bytes) (Whole kind.Data info bytes) s (brings_data info bytes) differ)
command_placed p s by (job.File name bytes) differ =
    free_placed by (job.File name bytes) (object_fault p s (Some name) bytes) s (joined p by (Whole kind.File (Some name) bytes) s) _
    (λ none. joined_placed p by (job.File name bytes) (Whole kind.File (Some name) bytes) s (brings_file name bytes) differ)
command_placed p s by job.Open differ =
    free_placed by job.Open (open_fault p s) s (joined p by (Stream []) s) _ (λ none. joined_placed p by job.Open (Stream []) s refl differ)
command_placed p s by (job.Write bytes) differ =
    let parts = parts_now s ++ Write by bytes ∷ [] in
    free_placed by (job.Write bytes) (write_fault p s bytes parts) s (grown p s parts) _ (λ none.
    let first = first_none _ _ _ none in
    let second = first_none _ _ _ first.1 in
    let third = first_none _ _ _ second.1 in
    grown_placed p s (Write by bytes) (λ entry. has_written by (job.Write bytes) (length (written (parts_now s))) entry.object) third.0 differ
    (λ own. has_last by bytes (parts_now s)))
command_placed p s by job.Close differ =
    let parts = parts_now s ++ End ∷ [] in
    free_placed by job.Close (close_fault p s parts) s (grown p s parts) _ (λ none.
    grown_placed p s End (λ entry. is_closed entry.object) (first_none _ _ _ none).0 differ (λ own. ends_last (parts_now s)))
command_placed p s by (job.Mark None) differ = mark_placed p s by (job.Mark None) None (last_source (current_shapes p (cut p s)))
command_placed p s by (job.Mark (Some q)) differ = go (is_no_quorum p q)
  where
    go : (none : Bool) → IsPlaced s.current.id by (job.Mark (Some q)) (answered Mark (elim none [ true ↦ (s, Err (Quorum q)) | false ↦ cut_and_marked p s by (Some q) ]))
    go true = refl
    go false = mark_placed p s by (job.Mark (Some q)) (Some q) (last_source (current_shapes p (cut p s)))
command_placed p s by (job.Restart id) differ = go (is_used s id)
  where
    go : (used : Bool) → IsPlaced s.current.id by (job.Restart id) (elim used [
      | true ↦ (s, Err (IdUsed id))
      | false ↦ (begun_anew id s, Ok (receipt.Restarted id))
    ])
    go true = refl
    go false = refl
command_placed p s by (job.Strike node) differ = go (strike_fault s node)
  where
    go : (found : Option StrikeFault)
        → IsPlaced s.current.id by (job.Strike node) (answered Strike (elim found [ Some fault ↦ (s, Err fault) | None ↦ (struck_off node s, Ok (receipt.Struck node)) ]))
    go (Some fault) = refl
    go None = refl
