-- Enqueuing, over what a sender keeps.
use Rattle.std.proofs.Common.{◌≡◌, ◌∙◌, ℕ, zero, suc, ◌-◌, ◌≤◌, List, [], ◌∷◌, length, Option, Some, None, Result, Ok, Err, Bool, true, false, refl, sym, ap, subst, arith}
use Rattle.std.specs.Prelude.{replicate, not, ◌||◌, is_some}
use Rattle.std.specs.List.{list_any}
use Rattle.std.proofs.lemmas.List.{length-drop, length-replicate}
use Rattle.norm_base.specs.Settings.{Settings}
use Rattle.norm_base.specs.declared.kinds.Kind.{Kind}
use Rattle.norm_base.specs.declared.node.Origin.{Origin}
use Rattle.fec_plan.specs.Partition.{cut_of}
use Rattle.fec_plan.specs.Points.{Point}
use Rattle.norm_order.specs.Entries.{Entry, Whole}
use Rattle.norm_order.specs.Shapes.{shape_of}
use Rattle.norm_send_rules.specs.SenderState.{SenderState}
use Rattle.norm_send_rules.specs.InWindow.{stands_behind, next_index}
use Rattle.norm_send_rules.specs.Dropping.{dropped_to}
use Rattle.norm_send_rules.specs.Room.{window, has_room, has_to_go, drop_after}
use Rattle.norm_send_rules.specs.Enqueuing.{object_fault, with_entry, joined, enqueued}
use Rattle.norm_send_rules.specs.declared.job.Receipt.{Receipt}
use Rattle.norm_send_rules.specs.declared.job.Receipt.TheVariants.{Object}
use Rattle.norm_send_rules.specs.declared.fault.EnqueueFault.{EnqueueFault}
use Rattle.tx_window.specs.Taking.{room_made, filled_entry, with_piece}
use Rattle.tx_window.specs.WindowMoves.{WindowMoves}
use Rattle.tx_window.specs.WindowState.{WindowState, Stands as WindowStands, drop_of, Filling}
use Rattle.nack_union.specs.Kept.{Kept, Marked, MayRetire, admitted, with_object, retired, shape_of_marked}
use Rattle.nack_union.specs.UnionState.{UnionState, Stands as UnionStands}
use Rattle.nack_union.specs.UnionMoves.{UnionMoves}
use Rattle.nack_union.proofs.Retired.{retired_stands}
use Rattle.norm_sender.specs.Pacing.{pace_of}
use Rattle.norm_sender.specs.SenderKept.{SenderKept, Agrees}
use Rattle.norm_sender.specs.Filling.{Fills, entry_of}
use Rattle.norm_sender.specs.Retiring.{IsOnward, CanRetire}
use Rattle.norm_sender.specs.declared.pace.Pace.{Pace}
use Rattle.norm_sender.proofs.RetiringLemmas.{stays_onward, onward_more, may_retire, retired_more}
use Rattle.norm_sender.proofs.SenderLemmas.{anyone}

-- Where the window begins after room was made.

-- no more objects go than there are
pub goes_le : (p : Settings) (size : ℕ) (entries : List Entry) → has_to_go p size entries ≤ length entries
unfolding has_to_go
goes_le p size [] = omega arith
goes_le p size (x ∷ xs) = go (has_room p size (x ∷ xs)) (goes_le p size xs)
  where
    go : (b : Bool) → has_to_go p size xs ≤ length xs → (elim b as (λ _. ℕ) [ true ↦ 0 | false ↦ suc (has_to_go p size xs) ]) ≤ length (x ∷ xs)
    go true le = omega arith
    go false le = omega (arith, le)

-- Before an object or a stream is begun no more was dropped than afterwards, and all that is dropped then is of the order.
pub room_onward : (k : SenderKept) (w : WindowState) (s t : SenderState) (n : ℕ) → Agrees k s → WindowStands w t → t.current.drop ≡ drop_after s.current.drop n
    → n ≤ length (window s) → IsOnward k.union.p s (drop_of w)
room_onward k w s t n h st is le =
    subst (λ (q : Settings). IsOnward q s (drop_of w)) (h.window_profile ∙ sym h.union_profile)
    (subst (λ (d : Point). IsOnward k.window.p s d) (sym is ∙ st.dropped) (go n le))
  where
    kept : s.current.drop.index ≤ length s.current.order
    kept = omega (arith, ap (λ (d : Point). d.index) h.window.dropped, h.window.next)

    go : (m : ℕ) → m ≤ length (window s) → IsOnward k.window.p s (drop_after s.current.drop m)
    go zero few = stays_onward k.window s h.window
    go (suc m) few = record {
      not_back = omega arith;
      within = omega (arith, few, kept, length-drop s.current.drop.index s.current.order);
      onward = λ same. absurd (omega (arith, same));
      stream = λ some. absurd (omega (arith, some));
    }

-- An object is begun.

shape_is : (p : Settings) (f : Filling) (octets : List ℕ) (m : Marked) → m ≡ admitted (cut_of f.len p.e p.b p.max_n) (is_some f.info) → length octets ≡ f.len
    → shape_of p (Whole f.kind f.info octets) ≡ shape_of_marked m
shape_is p f octets m is long =
    ap (λ (n : ℕ). shape_of_marked (admitted (cut_of n p.e p.b p.max_n) (is_some f.info))) long ∙ ap shape_of_marked (sym is)

-- so many octets
abbrev some_octets : ℕ → List ℕ
some_octets n = replicate n 0

-- the union takes an object in, and then retires what the window dropped
pub record TakesIn (k : SenderKept) (m : Marked) (u1 u2 : UnionState) (drop : Point) (pace : Pace) : Type 0 where
  pub admits : u1 ≡ record (k.union) { kept = with_object m k.union.kept }
  pub joins : (entry : Entry) → shape_of k.union.p entry.object ≡ shape_of_marked m → UnionMoves k.union u1 (with_entry entry)
  pub retires : u2 ≡ record u1 { kept = retired drop.index drop.block u1.kept }
  pub few : drop.block ≤ 16777216
  pub drops : UnionMoves u1 u2 (dropped_to drop)
  pub due : (t : SenderState) → UnionStands u1 t
      → pace ≡ record (k.pace) { squelch_due = k.pace.squelch_due || list_any (λ want. not (stands_behind drop want)) t.wants }

-- the window begins it
pub record Begins (old new : WindowState) (s : SenderState) (f : Filling) : Type 0 where
  pub profile : new.p ≡ old.p
  pub filling : new.filling ≡ Some f
  pub stands : WindowStands new (room_made old.p f.len s)
  pub free : (octets : List ℕ) → length octets ≡ f.len → object_fault old.p s f.info octets ≡ None

pub begun_fills : (k : SenderKept) (s : SenderState) (f : Filling) (w : WindowState) (m : Marked) (u1 u2 : UnionState) (pace : Pace) → Agrees k s
    → Begins k.window w s f → m ≡ admitted (cut_of f.len k.p.e k.p.b k.p.max_n) (is_some f.info) → TakesIn k m u1 u2 (drop_of w) pace
    → Fills (record k { window = w; union = u2; pace = pace }) s f
begun_fills k s f w m u1 u2 pace h begins is takes =
    let st : WindowStands w (room_made k.p f.len s) = subst (λ (q : Settings). WindowStands w (room_made q f.len s)) h.window_profile begins.stands in
    let d = drop_of w in
    let may : MayRetire d.index d.block k.union.kept =
    may_retire k.union s d h.union (room_onward k w s (room_made k.p f.len s) (has_to_go k.p f.len (window s)) h st refl (goes_le k.p f.len (window s))) takes.few in
    let shape : (by : Origin) (octets : List ℕ) → length octets ≡ f.len → shape_of k.union.p (Whole f.kind f.info octets) ≡ shape_of_marked m =
    λ by octets long. subst (λ (q : Settings). shape_of q (Whole f.kind f.info octets) ≡ shape_of_marked m) (sym h.union_profile) (shape_is k.p f octets m is long) in
    let one : UnionStands u1 (with_entry (entry_of anyone f (some_octets f.len)) s) =
    takes.joins (entry_of anyone f (some_octets f.len)) (shape anyone (some_octets f.len) (length-replicate f.len 0)) s h.union in
    record {
      window_profile = begins.profile ∙ h.window_profile;
      union_profile = ap (λ (u : UnionState). u.p) takes.retires ∙ ap (λ (u : UnionState). u.p) takes.admits ∙ h.union_profile;
      filling = begins.filling;
      window = st;
      union = record {
        before = record (k.union) { kept = retired d.index d.block k.union.kept };
        marked = m;
        is =
            takes.retires ∙ ap (λ (u : UnionState). record u { kept = retired d.index d.block u.kept }) takes.admits
            ∙ ap (λ (kept : Kept). record (k.union) { kept = kept }) (retired_more d.index d.block m k.union.kept may);
        stands =
            subst (λ (at : Point). UnionStands (record (k.union) { kept = retired d.index d.block k.union.kept }) (dropped_to at s)) (sym st.dropped)
            (retired_stands k.union s d.index d.block may h.union);
        joins = λ by octets long.
            subst (λ (at : Point). UnionStands u2 (dropped_to at (with_entry (entry_of by f octets) s))) (sym st.dropped)
            (takes.drops (with_entry (entry_of by f octets) s) (takes.joins (entry_of by f octets) (shape by octets long) s h.union));
      };
      book = h.book;
      pace =
          takes.due (with_entry (entry_of anyone f (some_octets f.len)) s) one
          ∙ ap (λ (q : Pace). record q { squelch_due = q.squelch_due || list_any (λ want. not (stands_behind (drop_of w) want)) s.wants }) h.pace
          ∙ ap (λ (d : Point). record (pace_of s) { squelch_due = s.squelch_due || list_any (λ want. not (stands_behind d want)) s.wants }) (sym st.dropped);
      free = λ octets long. subst (λ (q : Settings). object_fault q s f.info octets ≡ None) h.window_profile (begins.free octets long);
    }

-- the union, which took the object in, may follow the window
pub begun_onward : (k : SenderKept) (w : WindowState) (s : SenderState) (f : Filling) (m : Marked) (u1 : UnionState) → Agrees k s
    → WindowStands w (room_made k.window.p f.len s) → m ≡ admitted (cut_of f.len k.p.e k.p.b k.p.max_n) (is_some f.info)
    → u1 ≡ record (k.union) { kept = with_object m k.union.kept }
    → ((entry : Entry) → shape_of k.union.p entry.object ≡ shape_of_marked m → UnionMoves k.union u1 (with_entry entry)) → CanRetire u1 (drop_of w)
begun_onward k w s f m u1 h st is admits joins =
    let entry = entry_of anyone f (some_octets f.len) in
    let shape = subst (λ (q : Settings). shape_of q (Whole f.kind f.info (some_octets f.len)) ≡ shape_of_marked m) (sym h.union_profile)
    (shape_is k.p f (some_octets f.len) m is (length-replicate f.len 0)) in
    record {
      state = with_entry entry s;
      stands = joins entry shape s h.union;
      onward = subst (λ (q : Settings). IsOnward q (with_entry entry s) (drop_of w)) (sym (ap (λ (u : UnionState). u.p) admits))
          (onward_more k.union.p s entry (drop_of w)
          (room_onward k w s (room_made k.window.p f.len s) (has_to_go k.window.p f.len (window s)) h st refl (goes_le k.window.p f.len (window s))));
    }

-- one piece more of it
pub filled_more : (k : SenderKept) (w : WindowState) (s : SenderState) (f : Filling) (piece : List ℕ) → w.p ≡ k.window.p → w.filling ≡ Some (with_piece piece f)
    → WindowMoves k.window w (λ t. t) → Fills k s f → Fills (record k { window = w }) s (with_piece piece f)
filled_more k w s f piece profile filling moves h = record {
  window_profile = profile ∙ h.window_profile;
  union_profile = h.union_profile;
  filling = filling;
  window = moves (room_made k.p f.len s) h.window;
  union = record { before = h.union.before; marked = h.union.marked; is = h.union.is; stands = h.union.stands; joins = h.union.joins };
  book = h.book;
  pace = h.pace;
  free = h.free;
}

-- an object without a fault joins
enqueued_is : (p : Settings) (s : SenderState) (by : Origin) (kind : Kind) (info : Option (List ℕ)) (octets : List ℕ) → object_fault p s info octets ≡ None
    → enqueued p s by kind info octets ≡ (joined p by (Whole kind info octets) s, Ok (Object (next_index s) (length octets)))
enqueued_is p s by kind info octets free =
    ap (λ (r : Option EnqueueFault). elim r as (λ _. SenderState × Result Receipt EnqueueFault) [
      | Some fault ↦ (s, Err fault)
      | None ↦ (joined p by (Whole kind info octets) s, Ok (Object (next_index s) (length octets)))
    ]) free

-- it joins the order
pub finished : (k : SenderKept) (w : WindowState) (s : SenderState) (by : Origin) (f : Filling) (index len : ℕ) → Fills k s f → length f.octets ≡ f.len
    → w.p ≡ k.window.p → w.filling ≡ None → WindowStands w (with_entry (filled_entry by f) (room_made k.p f.len s))
    → index ≡ next_index (room_made k.p f.len s) → len ≡ f.len
    → Agrees (record k { window = w }) (enqueued k.p s by f.kind f.info f.octets).0 × (Ok (Object index len) ≡ (enqueued k.p s by f.kind f.info f.octets).1)
finished k w s by f index len h long profile filling st at many =
    let object = Whole f.kind f.info f.octets in
    let is = enqueued_is k.p s by f.kind f.info f.octets (h.free f.octets long) in
    let agrees : Agrees (record k { window = w }) (with_entry (filled_entry by f) (room_made k.p f.len s)) = record {
      window_profile = profile ∙ h.window_profile;
      filling = filling;
      union_profile = h.union_profile;
      window = st;
      union = h.union.joins by f.octets long;
      book = h.book;
      pace = h.pace;
    } in
    let here : Agrees (record k { window = w }) (joined k.p by object s) =
    subst (λ (n : ℕ). Agrees (record k { window = w }) (with_entry (filled_entry by f) (room_made k.p n s))) (sym long) agrees in (
      subst (λ (step : SenderState × Result Receipt EnqueueFault). Agrees (record k { window = w }) step.0) (sym is) here,
      ap (λ (i : ℕ). Ok (Object i len)) at ∙ ap (λ (n : ℕ). Ok (Object (next_index s) n)) (many ∙ sym long)
          ∙ sym (ap (λ (step : SenderState × Result Receipt EnqueueFault). step.1) is),
    )

-- it is given up
pub left_agrees : (k : SenderKept) (w : WindowState) (u : UnionState) (s : SenderState) (f : Filling) → Fills k s f → w ≡ record (k.window) { filling = None }
    → WindowMoves k.window w (λ t. t) → ((m : Marked) (v : UnionState) → k.union ≡ record v { kept = with_object m v.kept } → u ≡ v)
    → Agrees (record k { window = w; union = u }) (room_made k.p f.len s)
left_agrees k w u s f h is moves withdrawn =
    let back = withdrawn h.union.marked h.union.before h.union.is in
    record {
      window_profile = ap (λ (v : WindowState). v.p) is ∙ h.window_profile;
      filling = ap (λ (v : WindowState). v.filling) is;
      union_profile = ap (λ (v : UnionState). v.p) back ∙ sym (ap (λ (v : UnionState). v.p) h.union.is) ∙ h.union_profile;
      window = moves (room_made k.p f.len s) h.window;
      union = subst (λ (v : UnionState). UnionStands v (room_made k.p f.len s)) (sym back) h.union.stands;
      book = h.book;
      pace = h.pace;
    }
