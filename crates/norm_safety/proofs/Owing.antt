-- What was handed up is owed once a flush asks for it, and is acknowledged at the next tick.
use Rattle.std.proofs.Common.{◌≡◌, ℕ, zero, suc, ◌+◌, ◌*◌, ◌<◌, ◌≤◌, List, [], ◌∷◌, ◌++◌, length, take, Bool, true, false, Option, None, Some, Result, Ok, Err, refl, sym, ap, ◌∙◌, subst, arith, ◌⊎◌, inl, inr}
use Rattle.std.proofs.Math.Nat.{mul-le-mul_right, add-mul}
use Rattle.std.specs.Prelude.{slice_get, map, min, not, ◌==◌, ◌&&◌, option_and_then, unwrap_or, if◌then◌else◌}
use Rattle.std.proofs.lemmas.Bool.Decides.{Decides-eqb, Decides-ltb}
use Rattle.std.proofs.lemmas.List.{length-append, length-take}
use Rattle.std.proofs.lemmas.Option.{slice_get_within}
use Rattle.norm_base.specs.Settings.{Settings, InRange}
use Rattle.fec_plan.specs.Points.{Point, position, position_before, reaches, further}
use Rattle.fec_plan.specs.declared.position.Position.{Position}
use Rattle.fec_plan.proofs.PositionLemmas.{Behind, behind, reached, behind_both, positions_are_ordered}
use Rattle.norm_ext.specs.Message.{Message, Info, Data, Flush, Eot, Squelch, RepairAdv, AckReq, Opaque, Nack, Ack, Report, FlushCommand, RepairAdvCommand}
use Rattle.norm_ext.specs.ObjectIds.{index_named}
use Rattle.norm_ext.specs.Reading.{decoded}
use Rattle.norm_ext.specs.Requests.{Request}
use Rattle.norm_ext.specs.Written.{Written, writes}
use Rattle.norm_ext.specs.declared.refusal.Refusal.{Refusal}
use Rattle.norm_order.specs.Entries.{Object, Whole, Stream, Entry}
use Rattle.norm_order.specs.Segments.{segments}
use Rattle.norm_order.specs.Shapes.{shape_of, closed_in}
use Rattle.norm_order.specs.Upto.{segment_up, parts_of, all_parts, ends_at, parts_through, upto}
use Rattle.norm_order.proofs.UptoLemmas.{there}
use Rattle.norm_order.specs.declared.up.Up.{Up}
use Rattle.norm_receive_rules.specs.Acknowledging.{names_this, acknowledges}
use Rattle.norm_receive_rules.specs.AllNeeds.{needs_nothing}
use Rattle.norm_receive_rules.specs.BackingOff.{may_back_off, backs_off, may_need}
use Rattle.norm_receive_rules.specs.Leaving.{is_in, goes_to, enters, entered}
use Rattle.norm_receive_rules.specs.Nack.{ack_message}
use Rattle.norm_receive_rules.specs.Overhearing.{overheard, adv_overheard}
use Rattle.norm_receive_rules.specs.ReceiverState.{ReceiverState, Knowledge}
use Rattle.norm_receive_rules.specs.Receiving.{info_received, data_received, flush_received, squelch_received, takes_in, in_instance, message_received, received}
use Rattle.norm_receive_rules.specs.Ticking.{sends, ends_back_off, ticked}
use Rattle.norm_safety.specs.Acknowledges.{owes, EndsPart, EndsPartOf, OwesWhatItHanded, OwingLaws}
use Rattle.norm_safety.specs.Events.{Event}
use Rattle.norm_safety.specs.Fronts.{IsFront}
use Rattle.norm_safety.specs.Hands.{hands}
use Rattle.norm_safety.specs.History.{Happening, history}
use Rattle.norm_safety.specs.Jobs.{AreEvents}
use Rattle.norm_safety.specs.Lawful.{Lawful}
use Rattle.norm_safety.specs.Laws.{AcknowledgeRun}
use Rattle.norm_safety.specs.OnceEach.{order_of}
use Rattle.norm_safety.specs.InOrder.{drop_of}
use Rattle.norm_safety.specs.World.{World}
use Rattle.norm_safety.proofs.AckHanded.{handed_run}
use Rattle.norm_safety.proofs.EntryLemmas.{clash}
use Rattle.norm_safety.proofs.Holding.{ReceiverHolds, some_and}
use Rattle.norm_safety.proofs.OrderRun.{run_of}
use Rattle.norm_safety.proofs.ReceiverMoves.{StandingIn, knowing}
use Rattle.norm_safety.proofs.Passed.{StandsIn, StandsAt, begun, length-parts}
use Rattle.norm_safety.proofs.ReceiverHolds.{there as there_is}
use Rattle.norm_safety.proofs.Stood.{entries_front}
use Rattle.norm_safety.proofs.WorldHolds.{AtNode, AtReceiver}

-- ---- what is owed

-- by what is due
abbrev due_reaches : Option Position → Position → Bool
due_reaches due at = elim due [ Some own ↦ reaches own at | None ↦ false ]

owes_same : (r t : ReceiverState) (at : Position) → t.knows.due ≡ r.knows.due → owes r at ≡ true → owes t at ≡ true
owes_same r t at e h = ap (λ (due : Option Position). due_reaches due at) e ∙ h

-- the further of two
further_owes : (now at : Position) (due : Option Position) → due_reaches due at ≡ true → due_reaches (further now due) at ≡ true
further_owes now at None h = absurd (clash h)
further_owes now at (Some own) h = go (position_before own now) refl
  where
    go : (b : Bool) → position_before own now ≡ b → due_reaches (if b then Some now else Some own) at ≡ true
    go false e = h
    go true e =
        let over : reaches now own ≡ true = ap not (positions_are_ordered.one_way own now e) in
        reached now at (behind_both now own at (behind now own over) (behind own at h))

now_owes : (at : Position) (due : Option Position) → due_reaches (further at due) at ≡ true
now_owes at None = reached at at (inr (refl, inr (refl, omega arith)))
now_owes at (Some own) = go (position_before own at) refl
  where
    go : (b : Bool) → position_before own at ≡ b → due_reaches (if b then Some at else Some own) at ≡ true
    go true e = reached at at (inr (refl, inr (refl, omega arith)))
    go false e = ap not e

need_due : (p : Settings) (now draw : ℕ) (r : ReceiverState) → (may_need p now draw r).knows.due ≡ r.knows.due
need_due p now draw r = go (may_back_off now r.knows) (needs_nothing p r)
  where
    left : Bool → Bool → ReceiverState
    left b c = elim b [ true ↦ elim c [ true ↦ r | false ↦ record r { knows = backs_off p now draw r.knows } ] | false ↦ r ]

    go : (b c : Bool) → (left b c).knows.due ≡ r.knows.due
    go true true = refl
    go true false = refl
    go false c = refl

need_instance : (p : Settings) (now draw : ℕ) (r : ReceiverState) → (may_need p now draw r).instance ≡ r.instance
need_instance p now draw r = go (may_back_off now r.knows) (needs_nothing p r)
  where
    left : Bool → Bool → ReceiverState
    left b c = elim b [ true ↦ elim c [ true ↦ r | false ↦ record r { knows = backs_off p now draw r.knows } ] | false ↦ r ]

    go : (b c : Bool) → (left b c).instance ≡ r.instance
    go true true = refl
    go true false = refl
    go false c = refl

-- a message of the sender, in the instance that the receiver is in
instance_owes : (p : Settings) (now draw source id object : ℕ) (brings : ℕ → ReceiverState → ReceiverState) (r : ReceiverState) (at : Position)
    → ((index : ℕ) (t : ReceiverState) → (brings index t).instance ≡ t.instance)
    → ((index : ℕ) (t : ReceiverState) → owes t at ≡ true → owes (brings index t) at ≡ true)
    → (in_instance p now draw source id object brings r).instance ≡ r.instance → owes r at ≡ true
    → owes (in_instance p now draw source id object brings r) at ≡ true
instance_owes p now draw source id object brings r at same kept = go (source == p.sender) (is_in r id) refl (goes_to r id)
  where
    taken : (t : ReceiverState) → Option ℕ → ReceiverState
    taken t found = unwrap_or (elim found [ Some index ↦ Some (may_need p now draw (brings index (knowing index t))) | None ↦ None ]) r

    inside : (found : Option ℕ) → owes r at ≡ true → owes (taken r found) at ≡ true
    inside None h = h
    inside (Some index) h =
        owes_same (brings index (knowing index r)) (may_need p now draw (brings index (knowing index r))) at
        (need_due p now draw (brings index (knowing index r))) (kept index (knowing index r) h)

    out : is_in r id ≡ false → r.instance ≡ Some id → ⊥
    out e is = clash (sym e ∙ ap (λ (o : Option ℕ). elim o [ Some current ↦ current == id | None ↦ false ]) is ∙ (Decides-eqb id id).1 refl)

    outside : (found : Option ℕ) → is_in r id ≡ false → (taken (enters id r) found).instance ≡ r.instance → owes r at ≡ true
        → owes (taken (enters id r) found) at ≡ true
    outside None e stays h = h
    outside (Some index) e stays h =
        let inner : (may_need p now draw (brings index (knowing index (enters id r)))).instance ≡ Some id =
        need_instance p now draw (brings index (knowing index (enters id r))) ∙ same index (knowing index (enters id r)) in
        absurd (out e (sym stays ∙ inner))

    left : Bool → Bool → Bool → ReceiverState
    left own inner above = elim own [
      | true ↦ unwrap_or (option_and_then (takes_in p now draw object brings)
          (elim inner [ true ↦ Some r | false ↦ elim above [ true ↦ Some (enters id r) | false ↦ None ] ])) r
      | false ↦ r
    ]

    go : (own inner : Bool) → is_in r id ≡ inner → (above : Bool) → (left own inner above).instance ≡ r.instance → owes r at ≡ true → owes (left own inner above) at ≡ true
    go false inner e above stays h = h
    go true true e above stays h = inside (index_named p r.knows.known object) h
    go true false e true stays h = outside (index_named p (enters id r).knows.known object) e stays h
    go true false e false stays h = h

overheard_due : (p : Settings) (requests : List Request) (r : ReceiverState) → (overheard p requests r).knows.due ≡ r.knows.due
overheard_due p requests r = go r.knows.backoff _ refl
  where
    knows : Option ℕ → Knowledge → Knowledge
    knows backoff k = elim backoff [ Some ends ↦ k | None ↦ r.knows ]

    go : (backoff : Option ℕ) (k : Knowledge) → k.due ≡ r.knows.due → (knows backoff k).due ≡ r.knows.due
    go (Some ends) k e = e
    go None k e = refl

where_owes : (b : Bool) (r t : ReceiverState) (at : Position) → t.knows.due ≡ r.knows.due → owes r at ≡ true → owes (elim b [ true ↦ t | false ↦ r ]) at ≡ true
where_owes true r t at e h = owes_same r t at e h
where_owes false r t at e h = h

hears_owes : (p : Settings) (r : ReceiverState) (octets : List ℕ) (now draw : ℕ) (at : Position) → (received p r octets now draw).instance ≡ r.instance
    → owes r at ≡ true → owes (received p r octets now draw) at ≡ true
hears_owes p r octets now draw at = go (decoded octets)
  where
    flushed_owes : (m : FlushCommand) (index : ℕ) (t : ReceiverState) → owes t at ≡ true → owes (flush_received m index t) at ≡ true
    flushed_owes m index t h = by (acknowledges t (position index m.id.block m.id.symbol) m.nodes)
      where
        by : (b : Bool) → due_reaches (elim b [ true ↦ further (position index m.id.block m.id.symbol) t.knows.due | false ↦ t.knows.due ]) at ≡ true
        by true = further_owes (position index m.id.block m.id.symbol) at t.knows.due h
        by false = h

    adv_due : (m : RepairAdvCommand) → (adv_overheard p m r).knows.due ≡ r.knows.due
    adv_due m = by (is_in r m.head.instance)
      where
        left : Bool → ReceiverState
        left b = elim b [ true ↦ overheard p m.requests r | false ↦ r ]

        by : (b : Bool) → (left b).knows.due ≡ r.knows.due
        by true = overheard_due p m.requests r
        by false = refl

    go : (read : Result Message Refusal) → (message_received p now draw read r).instance ≡ r.instance → owes r at ≡ true → owes (message_received p now draw read r) at ≡ true
    go (Ok (Info m)) = instance_owes p now draw m.head.source m.head.instance m.head.object (info_received p m) r at (λ index t. refl) (λ index t h. h)
    go (Ok (Data m)) = instance_owes p now draw m.head.source m.head.instance m.head.object (data_received p m) r at (λ index t. refl) (λ index t h. h)
    go (Ok (Flush m)) = instance_owes p now draw m.head.source m.head.instance m.object (flush_received m) r at (λ index t. refl) (flushed_owes m)
    go (Ok (Squelch m)) = instance_owes p now draw m.head.source m.head.instance m.object (squelch_received p m) r at (λ index t. refl) (λ index t h. h)
    go (Ok (RepairAdv m)) = λ stays h. where_owes (m.head.source == p.sender) r (adv_overheard p m r) at (adv_due m) h
    go (Ok (Nack m)) = λ stays h. where_owes (not (m.source == r.node) && m.sender == p.sender && is_in r m.instance) r (overheard p m.requests r) at (overheard_due p m.requests r) h
    go (Ok (Eot m)) = λ stays h. h
    go (Ok (AckReq m)) = λ stays h. h
    go (Ok (Opaque m)) = λ stays h. h
    go (Ok (Ack m)) = λ stays h. h
    go (Ok (Report m)) = λ stays h. h
    go (Err refusal) = λ stays h. h

says_owed : (p : Settings) (r : ReceiverState) (now : ℕ) (at : Position) → owes r at ≡ true
    → (due : Position) × (reaches due at ≡ true) × ((ticked p r now).1 ≡ Some (writes (ack_message p r due) (due.index ∷ [])))
says_owed p r now at = go r.knows.due
  where
    sent : ReceiverState × Option Written → Option Written
    sent step = step.1

    go : (found : Option Position) → due_reaches found at ≡ true → (due : Position) × (reaches due at ≡ true) × (sent (elim found [
      | Some own ↦ sends (writes (ack_message p r own) (own.index ∷ [])) (record r { knows = record (r.knows) { due = None } })
      | None ↦ ends_back_off p now r
    ]) ≡ Some (writes (ack_message p r due) (due.index ∷ [])))
    go None h = absurd (clash h)
    go (Some own) h = (own, h, refl)

pub owing_laws : OwingLaws
owing_laws = record {
  hears = hears_owes;
  takes = λ r at h. h;
  says = says_owed;
}

-- ---- what was handed up is owed once it is asked for

-- what stands before the place of an entry, with a part of it, is handed up in so many steps
before_many : (p : Settings) (order : List Entry) (i j : ℕ) (x : Entry) → slice_get order i ≡ Some x → i < j
    → length (all_parts p 0 (take i order)) + length (parts_of p i x.object) ≤ length (all_parts p 0 (take j order))
before_many p order i j x found lt =
    let front = entries_front p 0 i order i j x found lt (omega arith) in
    let whole = ap (λ (ups : List Up). length ups) front.1 in
    let one = length-append (all_parts p 0 (take i order) ++ parts_of p i x.object) front.0 in
    let two = length-append (all_parts p 0 (take i order)) (parts_of p i x.object) in
    omega (arith, whole, one, two)

-- with a position at which something is handed up that is
through_some : (p : Settings) (at : Position) (object : Object) → EndsPart p at object → 0 < length (parts_through p at object)
through_some p at (Whole kind info octets) ends =
    let is : ends_at p (Whole kind info octets) at ≡ true =
    ap (λ (o : Option Position). elim o [ Some l ↦ reaches at l | None ↦ false ]) ends ∙ reached at at (inr (refl, inr (refl, omega arith))) in
    let all = ap (λ (b : Bool). length (by b)) is in
    let z : length (by true) ≡ 1 = refl in
    omega (arith, all, z)
  where
    by : Bool → List Up
    by b = elim b [ true ↦ parts_of p at.index (Whole kind info octets) | false ↦ [] ]
through_some p at (Stream parts) ends =
    let one : length (parts_through p at (Stream parts)) ≡ suc (length (take (suc (at.block * p.b + at.symbol)) (map (segment_up at.index) (segments p.e parts)))) =
    ap (λ (n : ℕ). length (take n (parts_of p at.index (Stream parts)))) (let z : 2 + (at.block * p.b + at.symbol) ≡ suc (suc (at.block * p.b + at.symbol)) = omega arith in z) in
    omega (arith, one)

-- what was handed up of an entry is no more than all of it
begun_few : (p : Settings) (index n : ℕ) (x : Entry) → (length (begun p index n (Some x)) ≤ length (parts_of p index x.object)) × (length (begun p index n (Some x)) ≤ suc n)
begun_few p index zero x = (omega arith, omega arith)
begun_few p index (suc n) x = let few = length-take (suc (suc n)) (parts_of p index x.object) in (omega (arith, few), omega (arith, few))

-- Where all through a position at which something is handed up was handed up without a loss, the hand-up point is behind it.
point_behind : (p : Settings) → InRange p → (order : List Entry) (d : Point) (taken : List Up) (r : ReceiverState) (at : Position)
    → ReceiverHolds p order d taken r → r.holding.lost ≡ [] → EndsPartOf p order at → IsFront (upto p order at) (taken ++ r.holding.ups)
    → position_before at r.holding.point ≡ true
point_behind p range order d taken r at h none ends front = go (position_before at r.holding.point) refl
  where
    point : Position
    point = r.holding.point

    n : ℕ
    n = point.block * p.b + point.symbol

    entry : (x : Entry) × (slice_get order at.index ≡ Some x) × EndsPart p at x.object
    entry = some_and (λ (x : Entry). EndsPart p at x.object) (slice_get order at.index) ends

    -- so many were handed up
    many : length (upto p order at) ≤ length (all_parts p 0 (take point.index order)) + length (begun p point.index n (slice_get order point.index))
    many =
        let gone = h.gone in
        let all = ap (λ (ups : List Up). length ups) (sym front.1 ∙ gone.all) in
        let one = length-append (upto p order at) front.0 in
        let two = length-append gone.before (begun p point.index n (slice_get order point.index)) in
        let three = ap (λ (ups : List Up). length ups) (gone.clean none).1 in
        omega (arith, all, one, two, three)

    upto_many : length (upto p order at) ≡ length (all_parts p 0 (take at.index order)) + length (parts_through p at entry.0.object)
    upto_many =
        length-append (all_parts p 0 (take at.index order)) (there p at (slice_get order at.index))
        ∙ ap (λ (o : Option Entry). length (all_parts p 0 (take at.index order)) + length (there p at o)) entry.1

    further : point.index < at.index → ⊥
    further lt =
        let within = slice_get_within order at.index entry.0 entry.1 in
        let here = there_is order point.index (omega (arith, lt, within)) in
        let before = before_many p order point.index at.index here.0 here.1 lt in
        let own = through_some p at entry.0.object entry.2 in
        let few = (begun_few p point.index n here.0).0 in
        let same : length (begun p point.index n (slice_get order point.index)) ≡ length (begun p point.index n (Some here.0)) =
        ap (λ (o : Option Entry). length (begun p point.index n o)) here.1 in
        let most = many in
        let sum = upto_many in
        absurd (omega (arith, most, sum, before, own, few, same))

    here_number : (point.block < at.block) ⊎ ((point.block ≡ at.block) × (point.symbol ≤ at.symbol)) → point.symbol < p.b → n ≤ at.block * p.b + at.symbol
    here_number (inl lt) low =
        let up_to : (point.block + 1) * p.b ≤ at.block * p.b = mul-le-mul_right p.b (let z : point.block + 1 ≤ at.block = omega (arith, lt) in z) in
        let next : (point.block + 1) * p.b ≡ point.block * p.b + 1 * p.b = add-mul point.block 1 p.b in
        omega (arith, up_to, next, low)
    here_number (inr same) low =
        let e : point.block * p.b ≡ at.block * p.b = ap (λ (k : ℕ). k * p.b) same.0 in
        let le = same.1 in
        omega (arith, e, le)

    within : point.index ≡ at.index → (point.block < at.block) ⊎ ((point.block ≡ at.block) × (point.symbol ≤ at.symbol)) → ⊥
    within same le = by_object entry.0.object refl entry.2 stands
      where
        x : Entry
        x = entry.0

        here : slice_get order point.index ≡ Some x
        here = ap (slice_get order) same ∙ entry.1

        stands : StandsIn p x.object point.block point.symbol
        stands = let S : Option Entry → Type 0 = λ o. StandsAt p o point.block point.symbol in subst S here h.gone.stands

        count : length (parts_through p at x.object) ≤ length (begun p point.index n (Some x))
        count =
            let most = many in
            let sum = upto_many in
            let one : length (begun p point.index n (slice_get order point.index)) ≡ length (begun p point.index n (Some x)) =
            ap (λ (o : Option Entry). length (begun p point.index n o)) here in
            let two : length (all_parts p 0 (take point.index order)) ≡ length (all_parts p 0 (take at.index order)) =
            ap (λ (i : ℕ). length (all_parts p 0 (take i order))) same in
            omega (arith, most, sum, one, two)

        by_object : (o : Object) → x.object ≡ o → EndsPart p at o → StandsIn p o point.block point.symbol → ⊥
        by_object (Whole kind info octets) is ends h =
            let E : Object → Type 0 = λ o. EndsPart p at o in
            let own = through_some p at x.object (subst E (sym is) ends) in
            let zero_is : n ≡ 0 = ap (λ (b : ℕ). b * p.b + point.symbol) h.0 ∙ ap (λ (s : ℕ). 0 * p.b + s) h.1 ∙ (let z : 0 * p.b + 0 ≡ 0 = omega arith in z) in
            let nothing : length (begun p point.index n (Some x)) ≡ 0 = ap (λ (k : ℕ). length (begun p point.index k (Some x))) zero_is in
            let few = count in
            absurd (omega (arith, own, nothing, few))
        by_object (Stream parts) is ends h =
            let lt = (Decides-ltb at.symbol (closed_in (shape_of p (Stream parts)) at.block)).0 ends in
            let le = here_number le h.0 in
            let all : length (parts_through p at x.object) ≡ min (2 + (at.block * p.b + at.symbol)) (length (parts_of p at.index (Stream parts))) =
            ap (λ (o : Object). length (parts_through p at o)) is ∙ length-take (2 + (at.block * p.b + at.symbol)) (parts_of p at.index (Stream parts)) in
            let long = length-parts p at.index parts in
            let few = (begun_few p point.index n x).1 in
            let most = count in
            absurd (omega (arith, lt, le, all, long, few, most))

    by_order : Behind at point → ⊥
    by_order (inl lt) = further lt
    by_order (inr both) = within both.0 both.1

    go : (b : Bool) → position_before at point ≡ b → position_before at point ≡ true
    go true e = e
    go false e = absurd (by_order (behind at point (ap not e)))

flush_owed : (p : Settings) (r : ReceiverState) (octets : List ℕ) (now draw index : ℕ) (m : FlushCommand) → decoded octets ≡ Ok (Flush m)
    → m.head.source ≡ p.sender → names_this r m.nodes ≡ true → index_named p r.knows.known m.object ≡ Some index → r.instance ≡ Some m.head.instance
    → r.holding.lost ≡ [] → position_before (position index m.id.block m.id.symbol) r.holding.point ≡ true
    → owes (received p r octets now draw) (position index m.id.block m.id.symbol) ≡ true
flush_owed p r octets now draw index m read source names named inside none before =
    let at : Position = position index m.id.block m.id.symbol in
    let O : ReceiverState → Type 0 = λ t. owes t at ≡ true in
    let own : (m.head.source == p.sender) ≡ true = (Decides-eqb m.head.source p.sender).1 source in
    let in_it : is_in r m.head.instance ≡ true =
    ap (λ (o : Option ℕ). elim o [ Some current ↦ current == m.head.instance | None ↦ false ]) inside ∙ (Decides-eqb m.head.instance m.head.instance).1 refl in
    let step : received p r octets now draw ≡ may_need p now draw (flush_received m index (knowing index r)) =
    ap (λ (said : Result Message Refusal). message_received p now draw said r) read
    ∙ ap (λ (b : Bool). by_sender b) own ∙ ap by_place in_it ∙ ap by_name named in
    let asked : acknowledges (knowing index r) at m.nodes ≡ true = both _ _ names (both _ _ before (ap (λ (lost : List ℕ). elim lost [ [] ↦ true | x ∷ more ↦ false ]) none)) in
    subst O (sym step) (owes_same (flush_received m index (knowing index r)) (may_need p now draw (flush_received m index (knowing index r))) at
    (need_due p now draw (flush_received m index (knowing index r)))
    (ap (λ (b : Bool). due_reaches (elim b [ true ↦ further at r.knows.due | false ↦ r.knows.due ]) at) asked ∙ now_owes at r.knows.due))
  where
    both : (a b : Bool) → a ≡ true → b ≡ true → (a && b) ≡ true
    both true b e f = f
    both false b e f = absurd (clash e)

    by_sender : Bool → ReceiverState
    by_sender b = elim b [
      | true ↦ unwrap_or (option_and_then (takes_in p now draw m.object (flush_received m)) (entered r m.head.instance)) r
      | false ↦ r
    ]

    by_place : Bool → ReceiverState
    by_place b = unwrap_or (option_and_then (takes_in p now draw m.object (flush_received m))
        (elim b [ true ↦ Some r | false ↦ elim (goes_to r m.head.instance) [ true ↦ Some (enters m.head.instance r) | false ↦ None ] ])) r

    by_name : Option ℕ → ReceiverState
    by_name found = unwrap_or (elim found [ Some i ↦ Some (may_need p now draw (flush_received m i (knowing i r))) | None ↦ None ]) r

pub owed_run : (p : Settings) → InRange p → (events : List Event) → Lawful p events → AreEvents events → OwesWhatItHanded p (history p events)
owed_run p range events lawful are node index r octets now draw m read source names named all =
    let run = run_of p range events lawful are in
    let w : World = (history p events).now in
    let past : List Happening = (history p events).happened in
    let id : ℕ = m.head.instance in
    let at : Position = position index m.id.block m.id.symbol in
    let N : Option ReceiverState → Type 0 = λ o. AtNode p w.sender past node o in
    let here : AtReceiver p w.sender past node r = subst N all.there (run.holds.nodes node) in
    let S : Option ℕ → Type 0 = λ instance. StandingIn p w.sender (hands past node) r instance in
    let holds : ReceiverHolds p (order_of w.sender id) (drop_of w.sender id) (hands past node id) r = subst S all.inside here.stands in
    let F : ℕ → Type 0 = λ n. IsFront (upto p (order_of w.sender id) at) (hands past n id ++ r.holding.ups) in
    flush_owed p r octets now draw index m read source names named all.inside all.lost
    (point_behind p range (order_of w.sender id) (drop_of w.sender id) (hands past node id) r at holds all.lost all.ends (subst F here.here all.front))

pub acknowledge_run : AcknowledgeRun
acknowledge_run = record { handed = handed_run; owed = owed_run; stays = owing_laws }
