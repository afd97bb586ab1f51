-- What is kept of a receiver while each datagram of the sender is passed on: all that counts as sent it has, or is about to hear.
use Rattle.std.proofs.Common.{◌≡◌, ℕ, zero, suc, ◌<◌, ◌≤◌, List, [], Bool, true, false, Option, None, Some, refl, sym, ap, ◌∙◌, subst, arith, ◌⊎◌, inl, inr}
use Rattle.std.specs.Prelude.{◌==◌, ◌&&◌, nat_le, nat_lt, ⊤}
use Rattle.std.proofs.lemmas.Bool.Decides.{Decides-eqb, leb_tells}
use Rattle.norm_base.specs.Settings.{Settings}
use Rattle.fec_plan.specs.Points.{Point, point, point_of, point_before, position_before}
use Rattle.fec_plan.specs.declared.position.Position.{Position}
use Rattle.fec_plan.proofs.PointLemmas.{behind_point, not_before}
use Rattle.norm_ext.specs.InstanceIds.{rise, is_above}
use Rattle.norm_ext.specs.Message.{Message, Info, Data, Flush, Eot, Squelch, RepairAdv, AckReq, Opaque, Nack, Ack, Report}
use Rattle.norm_ext.specs.Written.{Written}
use Rattle.norm_order.specs.Sets.{is_member}
use Rattle.norm_receive_rules.specs.FarLaws.{IsFar}
use Rattle.norm_receive_rules.specs.Holding.{Holding}
use Rattle.norm_receive_rules.specs.ReceiverState.{ReceiverState}
use Rattle.norm_receive_rules.specs.ReceiverStep.{ReceiverEvent, receiver_step}
use Rattle.norm_receive_rules.proofs.FarLemmas.{far_laws}
use Rattle.norm_send_rules.specs.SenderState.{SenderState}
use Rattle.norm_safety.specs.Said.{first_index}
use Rattle.norm_safety.proofs.EntryLemmas.{clash}
use Rattle.norm_safety.proofs.ReceiverMoves.{Moved, Remains, Enters}
use Rattle.norm_safety.proofs.Spoken.{IsBegun}
use Rattle.norm_laws.specs.HandedUp.{Passing, has_heard}
use Rattle.norm_laws.proofs.GivenTicks.{BringsSymbol, BringsInfo}
use Rattle.norm_laws.proofs.HeldStays.{Apart, symbol_stays, info_stays, front_stays, apart_step}
use Rattle.norm_laws.proofs.HeldWords.{HasSymbol, HasInfo}

-- ---- words

-- the datagram that was given last brings something, and did not come to the node yet
pub record Awaited (x : Passing) (node : ℕ) (Brings : Written → Type 0) : Type 0 where
  pub datagram : Written
  pub last : x.last ≡ Some datagram
  pub brings : Brings datagram
  pub unheard : has_heard x node ≡ false

-- the receiver is in the instance and has it, or it is awaited
abbrev pub Got : Passing → ℕ → ReceiverState → ℕ → (Holding → Type 0) → (Written → Type 0) → Type 0
Got x node r id P Brings = ((r.instance ≡ Some id) × P r.holding) ⊎ Awaited x node Brings

-- nothing was dropped of an instance up to a point, or the receiver is there with its hand-up point behind it
abbrev pub IsPast : ℕ → Point → ReceiverState → Type 0
IsPast id d r = (point_before (point 0 0) d ≡ false) ⊎ ((r.instance ≡ Some id) × (point_before (point_of r.holding.point) d ≡ false))

-- a receiver's instance lies no higher above the profile's than another
abbrev pub IsBelow : Settings → Option ℕ → ℕ → Type 0
IsBelow p None id = ⊤
IsBelow p (Some current) id = rise p.instance current ≤ rise p.instance id

-- What is kept of a node's receiver, with a sender's state: all that counts as sent in the instance is had, or awaited; nothing was dropped
-- that it has to hand up yet; it lost nothing, and handed up as far as it can.
pub record Has (p : Settings) (s : SenderState) (x : Passing) (node : ℕ) (r : ReceiverState) : Type 0 where
  pub symbols : (at : Position) → is_member position_before at s.sent ≡ true
      → Got x node r s.current.id (λ (h : Holding). HasSymbol h at) (BringsSymbol p s.current.id at)
  pub infos : (index : ℕ) → is_member nat_lt index s.sent_infos ≡ true
      → Got x node r s.current.id (λ (h : Holding). HasInfo h index) (BringsInfo p s.current.id index)
  pub past : IsPast s.current.id s.current.drop r
  pub lost : r.holding.lost ≡ []
  pub apart : Apart r.holding.plans
  pub far : IsFar p r.holding
  pub below : IsBelow p r.instance s.current.id

-- a squelch up to a point of an instance makes a receiver lose nothing: it is past it, or in an instance that lies higher
abbrev pub IsSparedBy : Settings → ReceiverState → ℕ → Point → Type 0
IsSparedBy p r id d = IsPast id d r ⊎ ((current : ℕ) × (r.instance ≡ Some current) × (rise p.instance id < rise p.instance current))

-- so is each squelch
abbrev pub SparedBy : Settings → ReceiverState → List ℕ → Message → Type 0
SparedBy p r indices (Squelch m) = IsSparedBy p r m.head.instance (point (first_index indices) m.id.block)
SparedBy p r indices _ = ⊤

-- ---- instances

-- a receiver stays in its instance, or goes on to one that lies higher above the profile's
pub data Goes (p : Settings) (r t : ReceiverState) : Type 0 where
  Stays : t.instance ≡ r.instance → Goes p r t
  Rises : (id : ℕ) → t.instance ≡ Some id → ((current : ℕ) → r.instance ≡ Some current → rise p.instance current < rise p.instance id) → Goes p r t

le_true : (a b : ℕ) → nat_le a b ≡ true → a ≤ b
le_true a b e = go (leb_tells a b)
  where
    go : ((nat_le a b ≡ true) × (a ≤ b)) ⊎ ((nat_le a b ≡ false) × (b < a)) → a ≤ b
    go (inl tells) = tells.1
    go (inr tells) = absurd (clash (sym tells.0 ∙ e))

both_true : (a b : Bool) → (a && b) ≡ true → (a ≡ true) × (b ≡ true)
both_true true b e = (refl, e)
both_true false b e = absurd (clash e)

-- an instance that lies above another lies higher above the profile's
pub goes_higher : (p : Settings) (current id : ℕ) → IsBegun p current → IsBegun p id → is_above current id ≡ true → rise p.instance current < rise p.instance id
goes_higher p current id was now above =
    let two = both_true (nat_le 1 (rise current id)) (nat_le (rise current id) 32767) above in
    higher p.instance current id was.first was.small now.small was.few now.few (le_true 1 (rise current id) two.0) (le_true (rise current id) 32767 two.1)
  where
    higher : (f c i : ℕ) → f < 65536 → c < 65536 → i < 65536 → rise f c ≤ 32767 → rise f i ≤ 32767 → 1 ≤ rise c i → rise c i ≤ 32767 → rise f c < rise f i
    higher f c i hf hc hi fc fi least most = omega (arith, hf, hc, hi, fc, fi, least, most)

-- one that lies no higher is the same, or the other lies above it
pub same_or_above : (p : Settings) (current id : ℕ) → IsBegun p current → IsBegun p id → rise p.instance current ≤ rise p.instance id
    → (current ≡ id) ⊎ (is_above current id ≡ true)
same_or_above p current id was now le = go (current == id) refl
  where
    one : (f c i : ℕ) → f < 65536 → c < 65536 → i < 65536 → rise f c ≤ 32767 → rise f i ≤ 32767 → rise f c ≤ rise f i → (c ≡ i → ⊥) → 1 ≤ rise c i
    one f c i hf hc hi fc fi le differ = omega (arith, hf, hc, hi, fc, fi, le, differ)

    two : (f c i : ℕ) → f < 65536 → c < 65536 → i < 65536 → rise f c ≤ 32767 → rise f i ≤ 32767 → rise f c ≤ rise f i → rise c i ≤ 32767
    two f c i hf hc hi fc fi le = omega (arith, hf, hc, hi, fc, fi, le)

    is_le : (a b : ℕ) → a ≤ b → nat_le a b ≡ true
    is_le a b h = by (leb_tells a b)
      where
        by : ((nat_le a b ≡ true) × (a ≤ b)) ⊎ ((nat_le a b ≡ false) × (b < a)) → nat_le a b ≡ true
        by (inl tells) = tells.0
        by (inr tells) = absurd (let lt = tells.1 in omega (arith, lt, h))

    and_is : (a b : Bool) → a ≡ true → b ≡ true → (a && b) ≡ true
    and_is true b e f = f
    and_is false b e f = absurd (clash e)

    go : (b : Bool) → (current == id) ≡ b → (current ≡ id) ⊎ (is_above current id ≡ true)
    go true e = inl ((Decides-eqb current id).0 e)
    go false e =
        let differ : current ≡ id → ⊥ = λ same. clash (sym e ∙ (Decides-eqb current id).1 same) in
        inr (and_is (nat_le 1 (rise current id)) (nat_le (rise current id) 32767)
        (is_le 1 (rise current id) (one p.instance current id was.first was.small now.small was.few now.few le differ))
        (is_le (rise current id) 32767 (two p.instance current id was.first was.small now.small was.few now.few le)))

-- an instance that lies as high is the same
pub same_height : (p : Settings) (a b : ℕ) → IsBegun p a → IsBegun p b → rise p.instance a ≡ rise p.instance b → a ≡ b
same_height p a b was now same = one p.instance a b was.first was.small now.small same
  where
    one : (f a b : ℕ) → f < 65536 → a < 65536 → b < 65536 → rise f a ≡ rise f b → a ≡ b
    one f a b hf ha hb e = omega (arith, hf, ha, hb, e)

some_is : (a b : ℕ) → Some a ≡ Some b → a ≡ b
some_is a b e = cc

-- a receiver that came to begun instances
pub moved_goes : (p : Settings) (s : SenderState) (r t : ReceiverState) → ((current : ℕ) → r.instance ≡ Some current → IsBegun p current) → Moved p s r t → Goes p r t
moved_goes p s r t begun (Remains ids stands) = Stays ids.instance
moved_goes p s r t begun (Enters id out goes now ids holds) =
    Rises id ids.instance (λ current is. goes_higher p current id (begun current is) now (by r.instance is goes))
  where
    by : {current : ℕ} (instance : Option ℕ) → instance ≡ Some current → (elim instance [ Some own ↦ is_above own id | None ↦ true ]) ≡ true → is_above current id ≡ true
    by None is above = absurd (none is)
      where
        none : {n : ℕ} → None ≡ Some n → ⊥
        none e = cc
    by (Some own) is above = ap (λ (n : ℕ). is_above n id) (some_is _ _ (sym is)) ∙ above

-- ---- as a receiver moves

-- one that is in the instance above which it does not go stays there
pub stays_in : (p : Settings) (r t : ReceiverState) (id : ℕ) → Goes p r t → IsBelow p t.instance id → r.instance ≡ Some id → t.instance ≡ Some id
stays_in p r t id (Stays same) below is = same ∙ is
stays_in p r t id (Rises higher now up) below is =
    let B : Option ℕ → Type 0 = λ instance. IsBelow p instance id in
    let le : rise p.instance higher ≤ rise p.instance id = subst B now below in
    let lt = up id is in absurd (omega (arith, lt, le))

-- where nothing was dropped no point is before it
pub none_dropped : (at d : Point) → point_before (point 0 0) d ≡ false → point_before at d ≡ false
none_dropped at d e = not_before at d (go (behind_point (point 0 0) d e))
  where
    go : (d.index < 0) ⊎ ((d.index ≡ 0) × (d.block ≤ 0)) → (d.index < at.index) ⊎ ((d.index ≡ at.index) × (d.block ≤ at.block))
    go (inl lt) = absurd (omega (arith, lt))
    go (inr (same, le)) = by at.index refl
      where
        by : (n : ℕ) → at.index ≡ n → (d.index < at.index) ⊎ ((d.index ≡ at.index) × (d.block ≤ at.block))
        by zero is = inr (omega (arith, same, is), omega (arith, le))
        by (suc n) is = inl (omega (arith, same, is))

pub past_front : (id : ℕ) (d : Point) (r : ReceiverState) → IsPast id d r → point_before (point_of r.holding.point) d ≡ false
past_front id d r (inl none) = none_dropped (point_of r.holding.point) d none
past_front id d r (inr is) = is.1

module _ (p : Settings) (r : ReceiverState) (event : ReceiverEvent) where
  abbrev pub After : ReceiverState
  After = (receiver_step p r event).0

  past_still : (id : ℕ) (d : Point) → (r.instance ≡ Some id → After.instance ≡ Some id) → IsPast id d r → IsPast id d After
  past_still id d still (inl none) = inl none
  past_still id d still (inr (is, front)) = inr (still is, front_stays p d id r event is front (still is))

  pub spared_still : (id : ℕ) (d : Point) → Goes p r After → IsSparedBy p r id d → IsSparedBy p After id d
  spared_still id d (Stays same) (inl past) = inl (past_still id d (λ is. same ∙ is) past)
  spared_still id d (Stays same) (inr (current, is, lt)) = inr (current, same ∙ is, lt)
  spared_still id d (Rises higher now up) (inl (inl none)) = inl (inl none)
  spared_still id d (Rises higher now up) (inl (inr (is, front))) = inr (higher, now, up id is)
  spared_still id d (Rises higher now up) (inr (current, is, lt)) = inr (higher, now, (let more = up current is in omega (arith, lt, more)))

  pub spared_message : (indices : List ℕ) (m : Message) → Goes p r After → SparedBy p r indices m → SparedBy p After indices m
  spared_message indices (Squelch m) goes h = spared_still m.head.instance (point (first_index indices) m.id.block) goes h
  spared_message indices (Info m) goes h = tt
  spared_message indices (Data m) goes h = tt
  spared_message indices (Flush m) goes h = tt
  spared_message indices (Eot m) goes h = tt
  spared_message indices (RepairAdv m) goes h = tt
  spared_message indices (AckReq m) goes h = tt
  spared_message indices (Opaque m) goes h = tt
  spared_message indices (Nack m) goes h = tt
  spared_message indices (Ack m) goes h = tt
  spared_message indices (Report m) goes h = tt

  -- What is kept, where nothing is lost, the receiver goes no higher than the sender, and what was awaited is had or still awaited.
  pub has_still : (s : SenderState) (x y : Passing) (node : ℕ) → Goes p r After → IsBelow p After.instance s.current.id → After.holding.lost ≡ []
      → ((at : Position) → Awaited x node (BringsSymbol p s.current.id at) → Got y node After s.current.id (λ (h : Holding). HasSymbol h at) (BringsSymbol p s.current.id at))
      → ((index : ℕ) → Awaited x node (BringsInfo p s.current.id index) → Got y node After s.current.id (λ (h : Holding). HasInfo h index) (BringsInfo p s.current.id index))
      → Has p s x node r → Has p s y node After
  has_still s x y node goes below lost symbols infos h = record {
    symbols = λ at e. symbol at (h.symbols at e);
    infos = λ index e. info index (h.infos index e);
    past = past_still s.current.id s.current.drop (stays_in p r After s.current.id goes below) h.past;
    lost = lost;
    apart = apart_step p r event h.apart;
    far = far_laws.goes_on p r event h.far;
    below = below;
  }
    where
      symbol : (at : Position) → Got x node r s.current.id (λ (h : Holding). HasSymbol h at) (BringsSymbol p s.current.id at)
          → Got y node After s.current.id (λ (h : Holding). HasSymbol h at) (BringsSymbol p s.current.id at)
      symbol at (inl (is, has)) =
          let still = stays_in p r After s.current.id goes below is in inl (still, symbol_stays p at s.current.id r event is has still)
      symbol at (inr awaited) = symbols at awaited

      info : (index : ℕ) → Got x node r s.current.id (λ (h : Holding). HasInfo h index) (BringsInfo p s.current.id index)
          → Got y node After s.current.id (λ (h : Holding). HasInfo h index) (BringsInfo p s.current.id index)
      info index (inl (is, has)) =
          let still = stays_in p r After s.current.id goes below is in inl (still, info_stays p index s.current.id r event is has still)
      info index (inr awaited) = infos index awaited
