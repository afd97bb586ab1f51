-- What a member that is asked says, and what the sender makes of it.
use Rattle.std.proofs.Common.{◌≡◌, ℕ, ◌<◌, ◌≤◌, List, [], ◌∷◌, ◌++◌, length, map, filter, Bool, true, false, Option, None, Some, Ok, refl, sym, ap, ◌∙◌, subst, arith}
use Rattle.std.specs.Prelude.{◌==◌, ◌&&◌, ◌||◌, not, cond, nat_lt, unwrap_or}
use Rattle.std.specs.List.{list_any}
use Rattle.std.proofs.lemmas.Bool.Decides.{Decides-eqb}
use Rattle.std.proofs.lemmas.Option.{slice_get_within}
use Rattle.norm_base.specs.Settings.{Settings, InRange}
use Rattle.norm_base.specs.declared.node.Origin.{Origin}
use Rattle.fec_plan.specs.Points.{position, reaches}
use Rattle.fec_plan.specs.declared.position.Position.{Position}
use Rattle.norm_ext.specs.Message.{Flush, Ack}
use Rattle.norm_ext.specs.ObjectIds.{object_id, index_named}
use Rattle.norm_ext.specs.Octets.{octets_of}
use Rattle.norm_ext.specs.Reading.{decoded}
use Rattle.norm_ext.specs.Written.{Written, writes}
use Rattle.norm_ext.proofs.LawsHold.{read_again_law}
use Rattle.norm_order.specs.Entries.{Entry}
use Rattle.norm_order.specs.Shapes.{closed_in, shapes_of, is_source}
use Rattle.norm_receive_rules.specs.Leaving.{is_in, goes_to, enters, entered}
use Rattle.norm_receive_rules.specs.Nack.{instance_id, ack_message}
use Rattle.norm_receive_rules.specs.ReceiverState.{ReceiverState}
use Rattle.norm_receive_rules.specs.Receiving.{received}
use Rattle.norm_receive_rules.specs.Ticking.{sends, ends_back_off, ticked}
use Rattle.norm_send_rules.specs.Hearing.{is_for, ack_counts}
use Rattle.norm_send_rules.specs.InWindow.{last_index, current_shapes}
use Rattle.norm_send_rules.specs.SenderState.{SenderState, Listing, Watermark}
use Rattle.norm_send_rules.specs.Watermarks.{is_past, has_member, members, pending}
use Rattle.norm_safety.specs.Acknowledges.{owes, HandedAll}
use Rattle.norm_safety.specs.CreditsMembers.{confirmed}
use Rattle.norm_safety.specs.Events.{Event}
use Rattle.norm_safety.specs.Hands.{hands}
use Rattle.norm_safety.specs.History.{Happening, history}
use Rattle.norm_safety.specs.OnceEach.{order_of}
use Rattle.norm_safety.specs.World.{World, world_opening, receiver_at}
use Rattle.norm_safety.specs.WorldStep.{run}
use Rattle.norm_safety.proofs.Feedback.{ack_of}
use Rattle.norm_safety.proofs.Owing.{acknowledge_run}
use Rattle.norm_safety.proofs.ReceiverMoves.{StandingIn, near_named}
use Rattle.norm_safety.proofs.SenderHolds.{orders_hold}
use Rattle.norm_safety.proofs.Spoken.{current_order, entry_with, sized_at, source_named}
use Rattle.norm_safety.proofs.Stood.{Stood, Due}
use Rattle.norm_safety.proofs.WorldHolds.{AtReceiver, AtNode, WorldHolds}
use Rattle.norm_safety.proofs.WorldLemmas.{world_laws}
use Rattle.norm_laws.proofs.NewOrder.{clash}
use Rattle.norm_recovery.specs.FlushConfirmed.{is_asked}
use Rattle.norm_recovery.specs.TailLawful.{MayGoOn}
use Rattle.norm_recovery.proofs.FlushKnown.{flush_command, HearsIt, near_small}
use Rattle.norm_recovery.proofs.MembersTail.{last_is_run}

-- ---- the member that is asked owes it

same_state : (a b : ReceiverState) → Some a ≡ Some b → a ≡ b
same_state a b e = cc

pub handed_there : (p : Settings) (events : List Event) (node id : ℕ) (r : ReceiverState) (at : Position) → HandedAll p (history p events) node id r at
    → receiver_at (run p events) node ≡ Some r
handed_there p events node id r at handed = sym (ap (λ (w : World). receiver_at w node) (last_is_run p (world_opening p) events)) ∙ handed.there

pub owes_flush : (p : Settings) → InRange p → (events : List Event) → MayGoOn p events → (wm : Watermark) (node : ℕ) (r : ReceiverState)
    → is_asked (run p events).sender wm.at node ≡ true → HandedAll p (history p events) node (run p events).sender.current.id r wm.at
    → (octets : List ℕ) (now draw : ℕ) → decoded octets ≡ Ok (Flush (flush_command p (run p events).sender wm))
    → HearsIt p r (flush_command p (run p events).sender wm) wm.at → owes (received p r octets now draw) wm.at ≡ true
owes_flush p range events may wm node r asked handed octets now draw read hears =
    acknowledge_run.owed p range events may.lawful may.jobs node wm.at.index r octets now draw (flush_command p s wm) read refl names named handed
  where
    s : SenderState
    s = (run p events).sender

    in_it : is_in r (run p events).sender.current.id ≡ true
    in_it = ap (λ (o : Option ℕ). elim o as (λ _. Bool) [ Some current ↦ current == (run p events).sender.current.id | None ↦ false ]) handed.inside
        ∙ (Decides-eqb (run p events).sender.current.id (run p events).sender.current.id).1 refl

    own : entered r (run p events).sender.current.id ≡ Some r
    own = ap (λ (b : Bool). elim b as (λ _. Option ReceiverState) [
      | true ↦ Some r
      | false ↦ elim (goes_to r (run p events).sender.current.id) [ true ↦ Some (enters (run p events).sender.current.id r) | false ↦ None ]
    ]) in_it

    named : index_named p r.knows.known (object_id p wm.at.index) ≡ Some wm.at.index
    named = ap (λ (t : ReceiverState). index_named p t.knows.known (object_id p wm.at.index)) (same_state r hears.t (sym own ∙ hears.enters)) ∙ hears.named

    names : list_any (λ (n : ℕ). n == r.node) (pending (run p events).sender wm.at) ≡ true
    names = ap (λ (n : ℕ). list_any (λ (other : ℕ). other == n) (pending (run p events).sender wm.at))
        (world_laws.found (run p events) node r (handed_there p events node (run p events).sender.current.id r wm.at handed)) ∙ asked

-- ---- its next tick says it

pub record Says (p : Settings) (x : ReceiverState) (now : ℕ) (at : Position) : Type 0 where
  pub due : Position
  pub is : x.knows.due ≡ Some due
  pub further : reaches due at ≡ true
  pub sent : (ticked p x now).1 ≡ Some (writes (ack_message p x due) (due.index ∷ []))

pub says_due : (p : Settings) (x : ReceiverState) (now : ℕ) (at : Position) → owes x at ≡ true → Says p x now at
says_due p x now at h = go x.knows.due refl h
  where
    given : ReceiverState × Option Written → Option Written
    given step = step.1

    go : (o : Option Position) → x.knows.due ≡ o → (elim o as (λ _. Bool) [ Some due ↦ reaches due at | None ↦ false ]) ≡ true → Says p x now at
    go None e h = absurd (clash h)
    go (Some due) e h = record {
      due = due;
      is = e;
      further = h;
      sent = ap (λ (o : Option Position). given (elim o [
        | Some own ↦ sends (writes (ack_message p x own) (own.index ∷ [])) (record x { knows = record (x.knows) { due = None } })
        | None ↦ ends_back_off p now x
      ])) e;
    }

-- ---- it is read as it was written, and names a source symbol

pub record AckReads (p : Settings) (s : SenderState) (x : ReceiverState) (due : Position) : Type 0 where
  pub read : decoded (octets_of (Ack (ack_of p x due))) ≡ Ok (Ack (ack_of p x due))
  pub source : is_source (current_shapes p s) due ≡ true

pub ack_reads : (p : Settings) → InRange p → (past : List Happening) (accepted : List Origin) (v : World) → WorldHolds p past accepted v → (node : ℕ) (x : ReceiverState)
    → receiver_at v node ≡ Some x → x.instance ≡ Some v.sender.current.id → (due : Position) → x.knows.due ≡ Some due → AckReads p v.sender x due
ack_reads p range past accepted v holds node x found inside due is =
    let s : SenderState = v.sender in
    let id : ℕ = s.current.id in
    let here : AtReceiver p s past node x = subst (AtNode p s past node) found (holds.nodes node) in
    let stands : StandingIn p s (hands past node) x (Some id) = subst (StandingIn p s (hands past node) x) inside here.stands in
    let stood : Stood p (order_of s id) (hands past node id ++ x.holding.ups) due = subst (Due p (order_of s id) (hands past node id ++ x.holding.ups)) is stands.confirms in
    let entry = entry_with p (order_of s id) due.index (λ y. nat_lt due.symbol (closed_in y due.block)) stood.0 in
    let sized = sized_at p (order_of s id) due.index entry.0 ((orders_hold p s holds.sender).sized id) entry.1 in
    let same : instance_id x ≡ id = ap (λ (o : Option ℕ). unwrap_or o 0) inside in
    let small : id < 65536 = holds.sender.id in
    record {
      read = read_again_law (Ack (ack_of p x due)) (record {
        source = here.member;
        sequence = here.sequence;
        sender = (omega (arith, range.sender.0), omega (arith, range.sender.1));
        instance = omega (arith, same, small);
        ack_type = omega arith;
        ack_id = omega arith;
        extensions = record { each = tt; most = omega arith };
        content = (refl, record { object = omega arith; id = source_named p range entry.0.object due.block due.symbol sized entry.2 });
      });
      source = subst (λ (order : List Entry). is_source (shapes_of p order) due ≡ true) (current_order s holds.once.ids) stood.0;
    }

-- ---- and it counts

-- an asked node is a member
pub member_asked : (s : SenderState) (at : Position) (node : ℕ) → is_asked s at node ≡ true → list_any (λ (n : ℕ). n == node) (members s) ≡ true
member_asked s at node h = go s.listings h
  where
    go : (ls : List Listing) → list_any (λ (n : ℕ). n == node) (map (λ (l : Listing). l.node) (filter (λ (l : Listing). not (is_past at l)) ls)) ≡ true
        → list_any (λ (n : ℕ). n == node) (map (λ (l : Listing). l.node) ls) ≡ true
    go [] h = h
    go (l ∷ ls) h = by (l.node == node) (is_past at l) refl h (go ls)
      where
        left : List Listing
        left = filter (λ (x : Listing). not (is_past at x)) ls

        by : (a b : Bool) → (l.node == node) ≡ a
            → list_any (λ (n : ℕ). n == node) (map (λ (x : Listing). x.node) (cond (not b) (l ∷ left) left)) ≡ true
            → (list_any (λ (n : ℕ). n == node) (map (λ (x : Listing). x.node) left) ≡ true → list_any (λ (n : ℕ). n == node) (map (λ (x : Listing). x.node) ls) ≡ true)
            → (a || list_any (λ (n : ℕ). n == node) (map (λ (x : Listing). x.node) ls)) ≡ true
        by true b is some more = refl
        by false true is some more = more some
        by false false is some more =
            more (ap (λ (c : Bool). c || list_any (λ (n : ℕ). n == node) (map (λ (x : Listing). x.node) left)) (sym is) ∙ some)

member_is : (node : ℕ) (ls : List Listing) → list_any (λ (l : Listing). l.node == node) ls ≡ list_any (λ (n : ℕ). n == node) (map (λ (l : Listing). l.node) ls)
member_is node [] = refl
member_is node (l ∷ ls) = ap (λ (b : Bool). (l.node == node) || b) (member_is node ls)

both_true : (a b : Bool) → a ≡ true → b ≡ true → (a && b) ≡ true
both_true true b e f = f
both_true false b e f = absurd (clash e)

pub ack_is_counted : (p : Settings) (s : SenderState) (x : ReceiverState) (node : ℕ) (due : Position) → x.node ≡ node → list_any (λ (n : ℕ). n == node) (members s) ≡ true
    → x.instance ≡ Some s.current.id → ack_counts p s (ack_of p x due) ≡ true
ack_is_counted p s x node due own member inside =
    both_true (has_member x.node s) (is_for p s p.sender (instance_id x))
    (ap (λ (n : ℕ). has_member n s) own ∙ member_is node s.listings ∙ member)
    (both_true (p.sender == p.sender) (instance_id x == s.current.id) ((Decides-eqb p.sender p.sender).1 refl)
    ((Decides-eqb (instance_id x) s.current.id).1 (ap (λ (o : Option ℕ). unwrap_or o 0) inside)))

pub names_due : (p : Settings) (s : SenderState) (x : ReceiverState) (due : Position) → length s.current.order ≤ 32768 → is_source (current_shapes p s) due ≡ true
    → confirmed p s (ack_of p x due) ≡ Some due
names_due p s x due few source =
    let entry = entry_with p s.current.order due.index (λ y. nat_lt due.symbol (closed_in y due.block)) source in
    let lt = slice_get_within s.current.order due.index entry.0 entry.1 in
    let last : last_index s ≤ 32767 = omega (arith, few) in
    let index : due.index ≤ 32767 = omega (arith, lt, few) in
    ap (λ (o : Option ℕ). elim o as (λ _. Option Position) [ Some i ↦ Some (position i due.block due.symbol) | None ↦ None ])
    (near_named p (last_index s) (object_id p due.index) due.index refl (omega (arith, index)) (near_small (last_index s) due.index last index))
