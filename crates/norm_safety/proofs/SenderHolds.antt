-- What holds of a sender after every event, and that its instances go on.
use Rattle.std.proofs.Common.{cond, ◌≡◌, ℕ, zero, suc, ◌+◌, ◌<◌, ◌≤◌, List, [], ◌∷◌, ◌++◌, length, Bool, true, false, Option, None, Some, refl, sym, ap, ◌∙◌, subst, arith, ◌⊎◌, inl, inr}
use Rattle.std.specs.Prelude.{slice_get, map, ◌==◌, ◌&&◌, ◌*◌, nat_le, is_none, is_some, unwrap_or}
use Rattle.std.specs.Int.{div_ceil}
use Rattle.std.specs.List.{AllByRecursion}
use Rattle.std.proofs.lemmas.Bool.{cases_lt}
use Rattle.std.proofs.lemmas.Bool.Decides.{leb_tells}
use Rattle.std.proofs.lemmas.Grind.{div_ceil_times}
use Rattle.std.proofs.lemmas.List.{length-append, length-drop}
use Rattle.std.proofs.Math.Nat.{mul-le-mul_right}
use Rattle.norm_base.specs.Settings.{Settings, InRange}
use Rattle.norm_base.specs.Members.{receivers_of}
use Rattle.norm_base.specs.declared.node.Origin.{Origin}
use Rattle.fec_plan.specs.Points.{Point, point, point_before}
use Rattle.fec_plan.specs.declared.position.Position.{Position}
use Rattle.norm_ext.specs.InstanceIds.{rise}
use Rattle.norm_order.specs.Entries.{Part, Cut, Object, Stream, Entry}
use Rattle.norm_order.specs.Segments.{has_end, unclosed}
use Rattle.norm_order.specs.Shapes.{shape_of, shapes_of, is_source, last_source}
use Rattle.norm_order.proofs.UptoLemmas.{nothing_there}
use Rattle.norm_order.proofs.GoingOnLemmas.{last_there}
use Rattle.norm_send_rules.specs.SenderState.{SenderState, Instance, Listing, Watermark, begun, unlisted, sender_opening}
use Rattle.norm_send_rules.specs.SenderStep as events
use Rattle.norm_send_rules.specs.InWindow.{next_index, last_index, current_shapes}
use Rattle.norm_send_rules.specs.Restarting.{instances, first_id, is_used, begun_anew}
use Rattle.norm_send_rules.specs.Watermarks.{members, is_open, ended_with}
use Rattle.norm_send_rules.specs.declared.news.Outcome.TheVariants.{Cut as CutOff}
use Rattle.norm_send_rules.specs.Room.{size_of, window, has_room, has_to_go, drop_after, first_kept, least_kept, stream_has_room}
use Rattle.norm_send_rules.specs.Enqueuing.{open_stream, joined}
use Rattle.norm_send_rules.specs.Streaming.{parts_now, used_segments, is_spent, is_crowded, with_last, with_parts, grown, cut}
use Rattle.norm_send_rules.specs.Commanding.{commanded}
use Rattle.norm_send_rules.specs.Laws.{WantsHold}
use Rattle.norm_send_rules.specs.DropLaws.{DropHolds}
use Rattle.norm_send_rules.specs.declared.job.Job.{Job}
use Rattle.norm_send_rules.proofs.StepLemmas.{step_holds as wants_step}
use Rattle.norm_send_rules.proofs.ShapeLemmas.{blocks_of}
use Rattle.norm_send_rules.proofs.DropLemmas.{drop_laws}
use Rattle.norm_send_rules.proofs.WantLemmas.{EndsOpen, ends_open, with_last_is, goes_on}
use Rattle.norm_safety.specs.OnceEach.{order_of}
use Rattle.norm_safety.specs.InOrder.{drop_of}
use Rattle.norm_safety.specs.Jobs.{IsJob}
use Rattle.norm_safety.proofs.SenderKeeps.{Keeps, FewNodes, AllOpen, mark_position}
use Rattle.norm_safety.proofs.OnceLemmas.{unused_few}
use Rattle.norm_safety.proofs.EntryLemmas.{open_in, clash}
use Rattle.norm_safety.proofs.CommandSteps.{no_parts}
use Rattle.norm_send_rules.proofs.CutNames.{cut_range}
use Rattle.norm_safety.proofs.LastLemmas.{last_is_source}
use Rattle.norm_safety.proofs.SizedOrders.{IsOfOctets, IsSized, AreSized, Steady, keeps_steady, OrderCase, Rests, Enqueues, Grows, Marks, Begins, roomy, order_case}
use Rattle.norm_safety.proofs.CutLemmas.{cut_sized, unspent_sized, last_sized, with_last_sized}
use Rattle.fec_plan.proofs.PointLemmas.{not_before, not_before_itself}
use Rattle.norm_safety.proofs.GoesOn.{ObjectLater, OrderLater, DropWithin, source_later}
use Rattle.norm_safety.proofs.EndedLemmas.{OnlyLast, only_last_joined, only_last_grown, drop_later, blocks_later, drop_joined, drop_grown, room_closed}
use Rattle.norm_safety.proofs.Onward.{GoOn, Onward, LaterThan, instance_in, goes_on_itself, go_on_both, last_goes_on, more_goes_on, order_joined, order_grown}

-- an instance's objects are of their sizes, and its drop point lies within its order
abbrev pub IsKept : Settings → Instance → Type 0
IsKept p i = AreSized p i.order × DropWithin p i.order i.drop

-- each instance is so
abbrev pub AllSized : Settings → List Instance → Type 0
AllSized p all = AllByRecursion (IsKept p) all

-- What holds: wants are symbols and infos of the window; objects are of their sizes, and only the last of an order can be an open stream;
-- the current id lies less than half of all ids above the first, which is the profile's; ids and the sequence number have 16 bits,
-- indices and members' ids 32, and the drop point's block 24; the drop point lies within the order, and an open stream was not dropped
-- whole; and open watermarks are of source symbols of the order.
pub record SenderHolds (p : Settings) (s : SenderState) : Type 0 where
  pub wants : WantsHold p s
  pub drops : DropHolds s
  pub sized : AllSized p (instances s)
  pub ends : OnlyLast s.current.order
  pub id : s.current.id < 65536
  pub first : first_id s ≡ p.instance
  pub few : rise p.instance s.current.id ≤ 32767
  pub many : length s.current.order ≤ 4294967295
  pub sequence : s.sequence < 65536
  pub nodes : FewNodes s.listings
  pub within : s.current.drop.index ≤ length s.current.order
  pub index : s.current.drop.index < 4294967295
  pub block : s.current.drop.block < 16777216
  pub asked : AllOpen (is_source (shapes_of p s.current.order)) s.watermarks

same_all : (p : Settings) (s t : SenderState) → Steady p s t → instances t ≡ instances s
same_all p s t h = ap (λ (xs : List Instance). xs ++ t.current ∷ []) h.earlier ∙ ap (λ (x : Instance). s.earlier ++ x ∷ []) h.current

-- the id of the first of these instances
abbrev first_in : List Instance → Instance → ℕ
first_in earlier current = elim earlier [ i ∷ more ↦ i.id | [] ↦ current.id ]

steady_holds : (p : Settings) (s t : SenderState) → Steady p s t → AllOpen (is_source (shapes_of p s.current.order)) t.watermarks
    → WantsHold p t → SenderHolds p s → SenderHolds p t
steady_holds p s t same asked wants h =
    let A : List Instance → Type 0 = λ all. AllSized p all in
    let C : Instance → Type 0 = λ i. i.id < 65536 in
    let U : Instance → Type 0 = λ i. rise p.instance i.id ≤ 32767 in
    let M : Instance → Type 0 = λ i. length i.order ≤ 4294967295 in
    let W : Instance → Type 0 = λ i. i.drop.index ≤ length i.order in
    let I : Instance → Type 0 = λ i. i.drop.index < 4294967295 in
    let B : Instance → Type 0 = λ i. i.drop.block < 16777216 in
    let E : Instance → Type 0 = λ i. OnlyLast i.order in
    let S : Instance → Type 0 = λ i. is_some (open_in i.order) ≡ true → i.drop.index < length i.order in
    let O : Instance → Type 0 = λ i. AllOpen (is_source (shapes_of p i.order)) t.watermarks in
    record {
      wants = wants;
      drops = record { within = subst W (sym same.current) h.within; stream = subst S (sym same.current) h.drops.stream };
      sized = subst A (sym (same_all p s t same)) h.sized;
      ends = subst E (sym same.current) h.ends;
      id = subst C (sym same.current) h.id;
      first = ap (λ (earlier : List Instance). first_in earlier t.current) same.earlier ∙ ap (λ (x : Instance). first_in s.earlier x) same.current ∙ h.first;
      few = subst U (sym same.current) h.few;
      many = subst M (sym same.current) h.many;
      sequence = same.sequence h.sequence;
      nodes = same.nodes h.nodes;
      within = subst W (sym same.current) h.within;
      index = subst I (sym same.current) h.index;
      block = subst B (sym same.current) h.block;
      asked = subst O (sym same.current) asked;
    }

pub steady_onward : (p : Settings) (s t : SenderState) → Steady p s t → Onward s t
steady_onward p s t same =
    let G : List Instance → Type 0 = λ all. GoOn (instances s) all in subst G (sym (same_all p s t same)) (goes_on_itself (instances s))

-- the drop point of an instance that is found
abbrev pub point_in : Option Instance → Point
point_in found = elim found [ Some i ↦ i.drop | None ↦ point 0 0 ]

-- the order of an instance that is found
abbrev pub entries_in : Option Instance → List Entry
entries_in found = elim found [ Some i ↦ i.order | None ↦ [] ]

-- no more objects go than there are
pub goes_within : (p : Settings) (size : ℕ) (entries : List Entry) → has_to_go p size entries ≤ length entries
unfolding has_to_go
goes_within p size [] = omega arith
goes_within p size (entry ∷ entries) = go (has_room p size (entry ∷ entries)) (goes_within p size entries)
  where
    go : (b : Bool) → has_to_go p size entries ≤ length entries → elim b [ true ↦ 0 | false ↦ suc (has_to_go p size entries) ] ≤ suc (length entries)
    go true le = omega arith
    go false le = omega arith

-- where the drop point comes to
drop_index : (d : Point) (n : ℕ) → (drop_after d n).index ≡ d.index + n
drop_index d zero = omega arith
drop_index d (suc n) = refl

-- how many go for an object
abbrev going : Settings → Object → SenderState → ℕ
going p object s = has_to_go p (size_of p object) (window s)

drop_most : (p : Settings) (object : Object) (s : SenderState) → s.current.drop.index ≤ length s.current.order
    → (drop_after s.current.drop (going p object s)).index ≤ length s.current.order
drop_most p object s h =
    let le = goes_within p (size_of p object) (window s) in
    let room = length-drop s.current.drop.index s.current.order in
    let is = drop_index s.current.drop (going p object s) in omega arith

last_more : (P : Instance → Type 0) (earlier : List Instance) (was now : Instance) → P now → AllByRecursion P (earlier ++ was ∷ [])
    → AllByRecursion P (earlier ++ now ∷ [])
last_more P [] was now h all = (h, tt)
last_more P (x ∷ earlier) was now h all = (all.0, last_more P earlier was now h all.1)

last_of : (P : Instance → Type 0) (earlier : List Instance) (was : Instance) → AllByRecursion P (earlier ++ was ∷ []) → P was
last_of P [] was all = all.0
last_of P (x ∷ earlier) was all = last_of P earlier was all.1

entries_more : (p : Settings) (order : List Entry) (entry : Entry) → IsSized p entry.object → AreSized p order → AreSized p (order ++ entry ∷ [])
entries_more p [] entry h all = (h, tt)
entries_more p (x ∷ order) entry h all = (all.0, entries_more p order entry h all.1)

pub current_sized : (p : Settings) (s : SenderState) → SenderHolds p s → AreSized p s.current.order
current_sized p s h = (last_of (IsKept p) s.earlier s.current h.sized).0

pub current_within : (p : Settings) (s : SenderState) → SenderHolds p s → DropWithin p s.current.order s.current.drop
current_within p s h = (last_of (IsKept p) s.earlier s.current h.sized).1

-- where an order goes on, the positions that are asked for stay source symbols
still_asked : (p : Settings) → 0 < p.e → (order later : List Entry) (watermarks : List Watermark) → OrderLater order later
    → AllOpen (is_source (shapes_of p order)) watermarks → AllOpen (is_source (shapes_of p later)) watermarks
still_asked p some order later [] on all = tt
still_asked p some order later (w ∷ watermarks) on all =
    (λ is. source_later p order later w.at some on (all.0 is), still_asked p some order later watermarks on all.1)

-- where all watermarks end, none is open
ended_all : (test : Position → Bool) (watermarks : List Watermark) → AllOpen test (map (λ (w : Watermark). cond (is_open w && true) (ended_with CutOff w) w) watermarks)
ended_all test [] = tt
ended_all test (w ∷ watermarks) = (go (is_open w) refl, ended_all test watermarks)
  where
    now : Bool → Watermark
    now b = cond (b && true) (ended_with CutOff w) w

    go : (b : Bool) → is_open w ≡ b → is_open (now b) ≡ true → test (mark_position (now b)) ≡ true
    go true is e = absurd (clash e)
    go false is e = absurd (clash (sym is ∙ e))

-- ---- an object joins

pub some_octets : (p : Settings) → InRange p → 0 < p.e
some_octets p range = omega (arith, range.e.0)

joins_holds : (p : Settings) → 0 < p.e → (by : Origin) (object : Object) (s : SenderState) → IsSized p object → open_stream s ≡ None
    → next_index s < 4294967295 → WantsHold p (joined p by object s) → DropHolds (joined p by object s) → SenderHolds p s
    → SenderHolds p (joined p by object s)
joins_holds p some by object s is none few wants drops h =
    let new = joined p by object s in
    let entry : Entry = record { by = by; object = object } in
    let more = length-append s.current.order (entry ∷ []) in
    let le = drop_most p object s h.within in
    record {
      wants = wants;
      drops = drops;
      sized = last_more (IsKept p) s.earlier s.current new.current
          (entries_more p s.current.order entry is (current_sized p s h), within entry (going p object s) (drop_index s.current.drop (going p object s)) le) h.sized;
      ends = only_last_joined s.current.order entry h.ends none;
      id = h.id;
      first = h.first;
      few = h.few;
      many = omega arith;
      sequence = h.sequence;
      nodes = h.nodes;
      within = omega arith;
      index = omega arith;
      block = block (going p object s);
      asked = still_asked p some s.current.order (s.current.order ++ entry ∷ []) s.watermarks (order_joined s.current.order (entry ∷ [])) h.asked;
    }
  where
    block : (n : ℕ) → (drop_after s.current.drop n).block < 16777216
    block zero = h.block
    block (suc n) = omega arith

    within : (entry : Entry) (n : ℕ) → (drop_after s.current.drop n).index ≡ s.current.drop.index + n
        → (drop_after s.current.drop n).index ≤ length s.current.order → DropWithin p (s.current.order ++ entry ∷ []) (drop_after s.current.drop n)
    within entry zero e le =
        drop_later p some s.current.order (s.current.order ++ entry ∷ []) s.current.drop (order_joined s.current.order (entry ∷ [])) (current_within p s h)
    within entry (suc n) e le = drop_joined p s.current.order entry (drop_after s.current.drop (suc n)) refl le h.ends none

joins_onward : (p : Settings) (by : Origin) (object : Object) (s : SenderState)
    → point_before (joined p by object s).current.drop s.current.drop ≡ false → Onward s (joined p by object s)
joins_onward p by object s falls =
    let new = joined p by object s in
    last_goes_on s.earlier s.current new.current refl (record { order = order_joined s.current.order (record { by = by; object = object } ∷ []); drop = falls })

-- ---- the open stream gets a part

-- an entry that is a stream
abbrev pub stream_entry : Origin → List Part → Entry
stream_entry by parts = record { by = by; object = Stream parts }

-- The open stream, which is the order's last entry, has a part more, and the drop point is further on at most.
record Longer (p : Settings) (s t : SenderState) : Type 0 where
  front : List Entry
  own : Origin
  parts : List Part
  part : Part
  was : s.current.order ≡ front ++ stream_entry own parts ∷ []
  unended : has_end parts ≡ false
  earlier : t.earlier ≡ s.earlier
  id : t.current.id ≡ s.current.id
  order : t.current.order ≡ front ++ stream_entry own (parts ++ part ∷ []) ∷ []
  sized : IsSized p (Stream (parts ++ part ∷ []))
  within : DropWithin p t.current.order t.current.drop
  index : t.current.drop.index < 4294967295
  block : t.current.drop.block < 16777216
  falls : point_before t.current.drop s.current.drop ≡ false
  watermarks : t.watermarks ≡ s.watermarks
  listings : t.listings ≡ s.listings
  sequence : t.sequence ≡ s.sequence

-- a command keeps what holds, and instances go on
pub record Steps (p : Settings) (s t : SenderState) : Type 0 where
  pub holds : SenderHolds p t
  pub onward : Onward s t

first_same : (earlier : List Instance) (i j : Instance) → j.id ≡ i.id → first_in earlier j ≡ first_in earlier i
first_same [] i j e = e
first_same (x ∷ earlier) i j e = refl

longer_steps : (p : Settings) → 0 < p.e → (s t : SenderState) → Longer p s t → WantsHold p t → DropHolds t → SenderHolds p s → Steps p s t
longer_steps p some s t longer wants drops h =
    let x : Entry = stream_entry longer.own longer.parts in
    let y : Entry = stream_entry longer.own (longer.parts ++ longer.part ∷ []) in
    let A : List Entry → Type 0 = λ xs. AreSized p xs in
    let E : List Entry → Type 0 = λ xs. OnlyLast xs in
    let F : List Entry → Type 0 = λ xs. OrderLater xs t.current.order in
    let G : List Entry → Type 0 = λ ys. OrderLater (longer.front ++ x ∷ []) ys in
    let grows : ObjectLater x.object y.object = (longer.part ∷ [], refl, λ e. absurd (clash (sym longer.unended ∙ e))) in
    let later : OrderLater s.current.order t.current.order = subst F (sym longer.was) (subst G (sym longer.order) (order_grown longer.front x y refl grows)) in
    let sized : AreSized p t.current.order = subst A (sym longer.order) (with_last_sized p longer.front x y longer.sized (subst A longer.was (current_sized p s h))) in
    let S : List Instance → Type 0 = λ earlier. AllSized p (earlier ++ t.current ∷ []) in
    let O : List Instance → Type 0 = λ earlier. GoOn (instances s) (earlier ++ t.current ∷ []) in
    let W : List Watermark → Type 0 = λ ws. AllOpen (is_source (shapes_of p t.current.order)) ws in
    let N : List Listing → Type 0 = λ ls. FewNodes ls in
    let was_long = ap (λ (xs : List Entry). length xs) longer.was ∙ length-append longer.front (x ∷ []) in
    let now_long = ap (λ (xs : List Entry). length xs) longer.order ∙ length-append longer.front (y ∷ []) in
    let most = h.many in
    record {
      holds = record {
        wants = wants;
        drops = drops;
        sized = subst S (sym longer.earlier) (last_more (IsKept p) s.earlier s.current t.current (sized, longer.within) h.sized);
        ends = subst E (sym longer.order) (only_last_grown longer.front x y (subst E longer.was h.ends));
        id = (let e = longer.id in let lt = h.id in omega arith);
        first = ap (λ (earlier : List Instance). first_in earlier t.current) longer.earlier ∙ first_same s.earlier s.current t.current longer.id ∙ h.first;
        few = (let R : ℕ → Type 0 = λ id. rise p.instance id ≤ 32767 in subst R (sym longer.id) h.few);
        many = omega arith;
        sequence = (let e = longer.sequence in let lt = h.sequence in omega arith);
        nodes = subst N (sym longer.listings) h.nodes;
        within = drops.within;
        index = longer.index;
        block = longer.block;
        asked = subst W (sym longer.watermarks) (still_asked p some s.current.order t.current.order s.watermarks later h.asked);
      };
      onward = subst O (sym longer.earlier) (last_goes_on s.earlier s.current t.current longer.id (record { order = later; drop = longer.falls }));
    }

-- the parts of the open stream, where there is one
open_now : (s : SenderState) → is_none (open_stream s) ≡ false → EndsOpen s.current.order (parts_now s)
open_now s e = go (open_stream s) refl e
  where
    go : (found : Option (List Part)) → open_stream s ≡ found → is_none found ≡ false → EndsOpen s.current.order (unwrap_or found [])
    go None is none = absurd (clash (sym none))
    go (Some parts) is there = ends_open s.current.order parts is

last_is : (last : Entry) (parts : List Part) → last.object ≡ Stream parts → last ≡ stream_entry last.by parts
last_is last parts e = ap (λ (object : Object). entry_with last.by object) e
  where
    entry_with : Origin → Object → Entry
    entry_with by object = record { by = by; object = object }

pub not_below : (a b : ℕ) → nat_le a b ≡ false → b < a
not_below a b e = go (leb_tells a b)
  where
    go : ((nat_le a b ≡ true) × (a ≤ b)) ⊎ ((nat_le a b ≡ false) × (b < a)) → b < a
    go (inl tells) = absurd (clash (sym e ∙ tells.0))
    go (inr tells) = tells.1

-- The order ends with the open stream.
pub record OpenEnds (s : SenderState) : Type 0 where
  pub front : List Entry
  pub own : Origin
  pub is : s.current.order ≡ front ++ stream_entry own (parts_now s) ∷ []
  pub unended : has_end (parts_now s) ≡ false

pub open_ends : (s : SenderState) → is_none (open_stream s) ≡ false → OpenEnds s
open_ends s there =
    let found = open_now s there in
    record {
      front = found.0;
      own = (found.1).by;
      is = found.2 ∙ ap (λ (z : Entry). found.0 ++ z ∷ []) (last_is found.1 (parts_now s) found.3);
      unended = found.4;
    }

-- it is the last entry
pub ends_found : (s : SenderState) (ends : OpenEnds s) → slice_get s.current.order (last_index s) ≡ Some (stream_entry ends.own (parts_now s))
ends_found s ends =
    let x : Entry = stream_entry ends.own (parts_now s) in
    let long = ap (λ (xs : List Entry). length xs) ends.is ∙ length-append ends.front (x ∷ []) in
    ap (λ (xs : List Entry). slice_get xs (last_index s)) ends.is
    ∙ ap (slice_get (ends.front ++ x ∷ [])) (let z : last_index s ≡ length ends.front = omega arith in z) ∙ last_there ends.front x

-- and the order goes on where it gets a part
pub ends_later : (s : SenderState) (part : Part) (ends : OpenEnds s) → OrderLater s.current.order (with_last (Stream (parts_now s ++ part ∷ [])) s.current.order)
ends_later s part ends =
    let x : Entry = stream_entry ends.own (parts_now s) in
    let y : Entry = stream_entry ends.own (parts_now s ++ part ∷ []) in
    let grows : ObjectLater x.object y.object = (part ∷ [], refl, λ e. absurd (clash (sym ends.unended ∙ e))) in
    let L : List Entry → Type 0 = λ xs. OrderLater xs (with_last (Stream (parts_now s ++ part ∷ [])) xs) in
    let M : List Entry → Type 0 = λ ys. OrderLater (ends.front ++ x ∷ []) ys in
    subst L (sym ends.is) (subst M (sym (with_last_is (Stream (parts_now s ++ part ∷ [])) ends.front x)) (order_grown ends.front x y refl grows))

-- where the drop point is for a stream that gets a part
record Place (p : Settings) (order : List Entry) (d : Point) : Type 0 where
  within : DropWithin p order d
  index : d.index < 4294967295
  block : d.block < 16777216

-- so many segments have no more blocks than 24 bits number, and fewer that go
few_kept : (p : Settings) → InRange p → (segments : ℕ) → segments ≤ 16777216 * p.b → least_kept p segments < 16777216
few_kept p range segments le = go (cases_lt (least_kept p segments) 16777216)
  where
    go : (least_kept p segments < 16777216) ⊎ (16777216 ≤ least_kept p segments) → least_kept p segments < 16777216
    go (inl lt) = lt
    go (inr ge) =
        let some : 0 < p.b = omega (arith, range.b.0) in
        let times = (div_ceil_times segments p.b some).1 in
        let many : 16777218 ≤ div_ceil segments p.b = omega (arith, ge, range.blocks.0) in
        let more : 16777218 * p.b ≤ div_ceil segments p.b * p.b = mul-le-mul_right p.b many in
        absurd (omega (arith, times, more, le, some))

grown_place : (p : Settings) → InRange p → (s : SenderState) (front : List Entry) (own : Origin) (parts : List Part) (part : Part)
    → s.current.order ≡ front ++ stream_entry own parts ∷ [] → has_end parts ≡ false → IsSized p (Stream (parts ++ part ∷ []))
    → stream_has_room p s (last_index s) (shape_of p (Stream parts)) (used_segments p (parts ++ part ∷ [])) ≡ true → SenderHolds p s
    → (b : Bool) → nat_le (least_kept p (used_segments p (parts ++ part ∷ []))) (first_kept s (last_index s)) ≡ b
    → Place p (front ++ stream_entry own (parts ++ part ∷ []) ∷ [])
    (elim b [ true ↦ s.current.drop | false ↦ point (last_index s) (least_kept p (used_segments p (parts ++ part ∷ []))) ])
grown_place p range s front own parts part was unended sized room h = go
  where
    x : Entry
    x = stream_entry own parts

    y : Entry
    y = stream_entry own (parts ++ part ∷ [])

    segments : ℕ
    segments = used_segments p (parts ++ part ∷ [])

    grows : ObjectLater (Stream parts) (Stream (parts ++ part ∷ []))
    grows = (part ∷ [], refl, λ e. absurd (clash (sym unended ∙ e)))

    last : last_index s ≡ length front
    last = (let long = ap (λ (xs : List Entry). length xs) was ∙ length-append front (stream_entry own parts ∷ []) in omega arith)

    go : (b : Bool) → nat_le (least_kept p segments) (first_kept s (last_index s)) ≡ b
        → Place p (front ++ y ∷ []) (elim b [ true ↦ s.current.drop | false ↦ point (last_index s) (least_kept p segments) ])
    go true e =
        let D : List Entry → Type 0 = λ xs. DropWithin p xs s.current.drop in
        record {
          within = drop_later p (some_octets p range) (front ++ x ∷ []) (front ++ y ∷ []) s.current.drop (order_grown front x y refl grows) (subst D was (current_within p s h));
          index = h.index;
          block = h.block;
        }
    go false e =
        let E : List Entry → Type 0 = λ xs. OnlyLast xs in
        let lt = not_below (least_kept p segments) (first_kept s (last_index s)) e in
        let closed = room_closed p (omega (arith, range.b.0)) s (last_index s) segments parts room e lt in
        record {
          within = drop_grown p front y (point (last_index s) (least_kept p segments)) last (only_last_grown front x y (subst E was h.ends))
              (blocks_later p (some_octets p range) (least_kept p segments) (Stream parts) (Stream (parts ++ part ∷ [])) grows closed);
          index = (let long = ap (λ (xs : List Entry). length xs) was ∙ length-append front (x ∷ []) in let most = h.many in let is = last in omega arith);
          block = few_kept p range segments sized.0;
        }

grown_longer : (p : Settings) → InRange p → (s : SenderState) (part : Part) → IsOfOctets part → is_none (open_stream s) ≡ false
    → is_spent p (parts_now s ++ part ∷ []) ≡ false → is_crowded p s (parts_now s ++ part ∷ []) ≡ false
    → point_before (grown p s (parts_now s ++ part ∷ [])).current.drop s.current.drop ≡ false
    → SenderHolds p s → Longer p s (grown p s (parts_now s ++ part ∷ []))
grown_longer p range s part octets there spent crowded falls h =
    let t = grown p s (parts_now s ++ part ∷ []) in
    let found = open_now s there in
    let front : List Entry = found.0 in
    let x : Entry = stream_entry (found.1).by (parts_now s) in
    let y : Entry = stream_entry (found.1).by (parts_now s ++ part ∷ []) in
    let was : s.current.order ≡ front ++ x ∷ [] = found.2 ∙ ap (λ (z : Entry). front ++ z ∷ []) (last_is found.1 (parts_now s) found.3) in
    let order : t.current.order ≡ front ++ y ∷ [] =
    ap (λ (xs : List Entry). with_last (Stream (parts_now s ++ part ∷ [])) xs) was ∙ with_last_is (Stream (parts_now s ++ part ∷ [])) front x in
    let A : List Entry → Type 0 = λ xs. AreSized p xs in
    let old : IsSized p (Stream (parts_now s)) = last_sized p front x (subst A was (current_sized p s h)) in
    let sized = unspent_sized p (parts_now s) part octets spent old in
    let place = grown_place p range s front (found.1).by (parts_now s) part was found.4 sized (roomy _ crowded) h
    (nat_le (least_kept p (used_segments p (parts_now s ++ part ∷ []))) (first_kept s (last_index s))) refl in
    let D : List Entry → Type 0 = λ xs. DropWithin p xs t.current.drop in
    record {
      front = front;
      own = (found.1).by;
      parts = parts_now s;
      part = part;
      was = was;
      unended = found.4;
      earlier = refl;
      id = refl;
      order = order;
      sized = sized;
      within = subst D (sym order) place.within;
      index = place.index;
      block = place.block;
      falls = falls;
      watermarks = refl;
      listings = refl;
      sequence = refl;
    }

unlisted_few : (nodes : List ℕ) → AllByRecursion (λ id. id < 4294967296) nodes → FewNodes (unlisted nodes)
unlisted_few [] few = tt
unlisted_few (node ∷ nodes) few = (few.0, unlisted_few nodes few.1)

-- the receivers have ids of 32 bits
receivers_few : (p : Settings) → InRange p → (n : ℕ) → n ≤ p.receivers → AllByRecursion (λ id. id < 4294967296) (receivers_of p n)
receivers_few p range zero le = tt
receivers_few p range (suc n) le =
    ids_append (receivers_of p n) (p.sender + 1 + n) (receivers_few p range n (omega arith)) (omega (arith, range.sender.1, range.receivers.1))
  where
    ids_append : (ids : List ℕ) (id : ℕ) → AllByRecursion (λ id. id < 4294967296) ids → id < 4294967296 → AllByRecursion (λ id. id < 4294967296) (ids ++ id ∷ [])
    ids_append [] id all few = (few, tt)
    ids_append (x ∷ ids) id all few = (all.0, ids_append ids id all.1 few)

all_with : (P : Instance → Type 0) (all : List Instance) (x : Instance) → P x → AllByRecursion P all → AllByRecursion P (all ++ x ∷ [])
all_with P [] x h all = (h, tt)
all_with P (y ∷ more) x h all = (all.0, all_with P more x h all.1)

-- a new instance leaves the first one
first_stays : (p : Settings) (id : ℕ) (s : SenderState) → first_id (begun_anew id s) ≡ first_id s
first_stays p id s = go s.earlier
  where
    go : (earlier : List Instance) → first_in (earlier ++ s.current ∷ []) (begun id) ≡ first_in earlier s.current
    go [] = refl
    go (i ∷ earlier) = refl

-- nothing was dropped of nothing
pub none_within : (p : Settings) → DropWithin p [] (point 0 0)
none_within p = record {
  within = omega arith;
  finished = λ i x found lt. absurd (nothing_there x found);
  blocks = λ lt. absurd (omega arith);
}

restarts_holds : (p : Settings) (id : ℕ) (s : SenderState) → is_used s id ≡ false → id < 65536 → WantsHold p (begun_anew id s) → SenderHolds p s
    → SenderHolds p (begun_anew id s)
restarts_holds p id s unused few wants h = record {
  wants = wants;
  drops = record { within = omega arith; stream = λ is. absurd (clash is) };
  sized = all_with (IsKept p) (instances s) (begun id) (tt, none_within p) h.sized;
  ends = λ i x found lt. absurd (nothing_there x found);
  id = few;
  first = first_stays p id s ∙ h.first;
  few = (let F : ℕ → Type 0 = λ first. rise first id ≤ 32767 in subst F h.first (unused_few s id unused));
  many = omega arith;
  sequence = h.sequence;
  nodes = unlisted_few (members s) h.nodes;
  within = omega arith;
  index = omega arith;
  block = omega arith;
  asked = ended_all (is_source []) s.watermarks;
}

-- the open stream is cut, where a segment of it is not closed
cut_steps : (p : Settings) → InRange p → (s : SenderState) → SenderHolds p s → Steps p s (cut p s)
cut_steps p range s h = go (open_stream s) refl
  where
    cut_where : ℕ → List Part → SenderState
    cut_where n parts = elim n [ zero ↦ s | suc k ↦ with_parts (parts ++ Cut ∷ []) s ]

    here : Steps p s s
    here = record { holds = h; onward = goes_on_itself (instances s) }

    cuts : (parts : List Part) → open_stream s ≡ Some parts → Steps p s (with_parts (parts ++ Cut ∷ []) s)
    cuts parts e =
        let t : SenderState = with_parts (parts ++ Cut ∷ []) s in
        let found = ends_open s.current.order parts e in
        let front : List Entry = found.0 in
        let x : Entry = stream_entry (found.1).by parts in
        let y : Entry = stream_entry (found.1).by (parts ++ Cut ∷ []) in
        let was : s.current.order ≡ front ++ x ∷ [] = found.2 ∙ ap (λ (z : Entry). front ++ z ∷ []) (last_is found.1 parts found.3) in
        let order : t.current.order ≡ front ++ y ∷ [] =
        ap (λ (xs : List Entry). with_last (Stream (parts ++ Cut ∷ [])) xs) was ∙ with_last_is (Stream (parts ++ Cut ∷ [])) front x in
        let A : List Entry → Type 0 = λ xs. AreSized p xs in
        let D : List Entry → Type 0 = λ xs. DropWithin p xs s.current.drop in
        let grows : ObjectLater (Stream parts) (Stream (parts ++ Cut ∷ [])) = (Cut ∷ [], refl, λ f. absurd (clash (sym found.4 ∙ f))) in
        let was_long = ap (λ (xs : List Entry). length xs) was ∙ length-append front (x ∷ []) in
        let now_long = ap (λ (xs : List Entry). length xs) order ∙ length-append front (y ∷ []) in
        let lt = h.drops.stream (ap (λ (o : Option (List Part)). is_some o) e) in
        longer_steps p (some_octets p range) s t (record {
          front = front;
          own = (found.1).by;
          parts = parts;
          part = Cut;
          was = was;
          unended = found.4;
          earlier = refl;
          id = refl;
          order = order;
          sized = cut_sized p parts found.4 (last_sized p front x (subst A was (current_sized p s h)));
          within = subst D (sym order)
              (drop_later p (some_octets p range) (front ++ x ∷ []) (front ++ y ∷ []) s.current.drop (order_grown front x y refl grows) (subst D was (current_within p s h)));
          index = h.index;
          block = h.block;
          falls = not_before_itself s.current.drop;
          watermarks = refl;
          listings = refl;
          sequence = refl;
        }) (goes_on p (blocks_of p range) s parts (Cut ∷ []) e h.wants)
        (record { within = omega arith; stream = λ is. (let z : s.current.drop.index < length t.current.order = omega arith in z) }) h

    by_number : (parts : List Part) → open_stream s ≡ Some parts → (n : ℕ) → Steps p s (cut_where n parts)
    by_number parts e zero = here
    by_number parts e (suc n) = cuts parts e

    go : (found : Option (List Part)) → open_stream s ≡ found → Steps p s (cut_where (unclosed p.e (unwrap_or found [])) (unwrap_or found []))
    go None e = (let C : ℕ → Type 0 = λ n. Steps p s (cut_where n []) in subst C (sym (no_parts p.e)) here)
    go (Some parts) e = by_number parts e (unclosed p.e parts)

pub command_steps : (p : Settings) → InRange p → (s : SenderState) (by : Origin) (job : Job) (now : ℕ) → IsJob job → SenderHolds p s
    → Steps p s (commanded p s by job).0
command_steps p range s by job now is h =
    let event = events.Commanded by job now in
    go (commanded p s by job).0 (order_case p s by job is) (wants_step p (blocks_of p range) s event h.wants)
    (drop_laws.always p s event h.drops) (drop_laws.never_falls p s event h.drops)
  where
    steady : (s t : SenderState) → Steady p s t → WantsHold p t → SenderHolds p s → Steps p s t
    steady s t same wants h =
        let last = λ (at : Position) (e : last_source (current_shapes p s) ≡ Some at). last_is_source p (cut_range p range) s.current.order at (current_sized p s h) e in
        record {
          holds = steady_holds p s t same (same.asked (is_source (shapes_of p s.current.order)) last h.asked) wants h;
          onward = steady_onward p s t same;
        }

    go : (t : SenderState) → OrderCase p s by t → WantsHold p t → DropHolds t
        → (t.earlier ≡ s.earlier → point_before t.current.drop s.current.drop ≡ false) → Steps p s t
    go t (Rests same) wants drops falls = steady s t same wants h
    go t (Enqueues object sized none few room) wants drops falls = record {
      holds = joins_holds p (some_octets p range) by object s sized none few wants drops h;
      onward = joins_onward p by object s (falls refl);
    }
    go t (Grows part octets there spent crowded) wants drops falls =
        longer_steps p (some_octets p range) s t (grown_longer p range s part octets there spent crowded (falls refl) h) wants drops h
    go t (Marks same) wants drops falls =
        let first = cut_steps p range s h in
        let second = steady (cut p s) t same wants first.holds in
        record { holds = second.holds; onward = go_on_both (instances s) (instances (cut p s)) (instances t) first.onward second.onward }
    go t (Begins id unused few) wants drops falls = record {
      holds = restarts_holds p id s unused few wants h;
      onward = more_goes_on (instances s) (begun id);
    }

-- and so does what keeps the orders
pub keeps_steps : (p : Settings) (s t : SenderState) → Keeps s t → WantsHold p t → SenderHolds p s → Steps p s t
keeps_steps p s t keeps wants h =
    let same = keeps_steady p s t keeps in
    record {
      holds = steady_holds p s t same (keeps.asked (is_source (shapes_of p s.current.order)) h.asked) wants h;
      onward = steady_onward p s t same;
    }

pub opening_holds : (p : Settings) → InRange p → SenderHolds p (sender_opening p p.instance)
opening_holds p range = record {
  wants = record { rise = tt; of_order = tt; in_window = tt };
  drops = record { within = omega arith; stream = λ is. absurd (clash is) };
  sized = ((tt, none_within p), tt);
  ends = λ i x found lt. absurd (nothing_there x found);
  id = omega (arith, range.instance.1);
  first = refl;
  few = omega arith;
  many = omega arith;
  sequence = omega arith;
  nodes = unlisted_few (receivers_of p p.receivers) (receivers_few p range p.receivers (omega arith));
  within = omega arith;
  index = omega arith;
  block = omega arith;
  asked = tt;
}

-- what is kept of the instance with an id, where there is one
pub record OrdersHold (p : Settings) (s : SenderState) : Type 0 where
  pub sized : (id : ℕ) → AreSized p (order_of s id)
  pub within : (id : ℕ) → DropWithin p (order_of s id) (drop_of s id)

found_kept : (p : Settings) (all : List Instance) (id : ℕ) → AllSized p all
    → AreSized p (entries_in (instance_in all id)) × DropWithin p (entries_in (instance_in all id)) (point_in (instance_in all id))
found_kept p [] id all = (tt, none_within p)
found_kept p (i ∷ more) id all = go (i.id == id) (found_kept p more id all.1)
  where
    go : (b : Bool) → AreSized p (entries_in (instance_in more id)) × DropWithin p (entries_in (instance_in more id)) (point_in (instance_in more id))
        → AreSized p (entries_in (cond b (Some i) (instance_in more id)))
        × DropWithin p (entries_in (cond b (Some i) (instance_in more id))) (point_in (cond b (Some i) (instance_in more id)))
    go true rest = all.0
    go false rest = rest

pub orders_hold : (p : Settings) (s : SenderState) → SenderHolds p s → OrdersHold p s
orders_hold p s h = record {
  sized = λ id. (found_kept p (instances s) id h.sized).0;
  within = λ id. (found_kept p (instances s) id h.sized).1;
}

-- an order later, and its drop point
pub record OrderGoes (s t : SenderState) (id : ℕ) : Type 0 where
  pub order : OrderLater (order_of s id) (order_of t id)
  pub drop : point_before (drop_of t id) (drop_of s id) ≡ false

pub order_later : (s t : SenderState) → Onward s t → (id : ℕ) → OrderGoes s t id
order_later s t onward id = go (instance_in (instances s) id) refl (onward id)
  where
    L : Option Instance → Type 0
    L found = OrderLater (entries_in found) (order_of t id)

    P : Option Instance → Type 0
    P found = point_before (drop_of t id) (point_in found) ≡ false

    go : (found : Option Instance) → instance_in (instances s) id ≡ found
        → ((i : Instance) → found ≡ Some i → (j : Instance) × (instance_in (instances t) id ≡ Some j) × LaterThan j i) → OrderGoes s t id
    go None e next = record { order = subst L (sym e) tt; drop = subst P (sym e) (first (drop_of t id)) }
      where
        first : (d : Point) → point_before d (point 0 0) ≡ false
        first d = not_before d (point 0 0) (from_none d.index)
          where
            from_none : (n : ℕ) → (0 < n) ⊎ ((0 ≡ n) × (0 ≤ d.block))
            from_none zero = inr (refl, omega arith)
            from_none (suc n) = inl (omega arith)
    go (Some i) e next =
        let later = next i refl in
        let M : Option Instance → Type 0 = λ found. OrderLater i.order (entries_in found) in
        let Q : Option Instance → Type 0 = λ found. point_before (point_in found) i.drop ≡ false in
        record { order = subst L (sym e) (subst M (sym later.1) later.2.order); drop = subst P (sym e) (subst Q (sym later.1) later.2.drop) }
