-- A receiver hears a datagram before which it has all: it has all before what it saw then, and does not back off unless it needs something.
use Rattle.std.proofs.Common.{◌≡◌, ℕ, ◌+◌, ◌≤◌, List, [], ◌∷◌, Bool, true, false, Option, None, Some, Result, Ok, Err, refl, sym, ap, ◌∙◌, subst, ◌⊎◌, inl, inr}
use Rattle.std.specs.Prelude.{map, ◌==◌, unwrap_or, option_and_then}
use Rattle.norm_base.specs.Settings.{Settings}
use Rattle.fec_plan.specs.Points.{Point, point, position, further, further_point}
use Rattle.fec_plan.specs.declared.position.Position.{Position}
use Rattle.norm_ext.specs.Asking.{named}
use Rattle.norm_ext.specs.Message.{Message, Info, Data, Flush, Eot, Squelch, RepairAdv, AckReq, Opaque, Nack, Ack, Report}
use Rattle.norm_ext.specs.ObjectIds.{object_id}
use Rattle.norm_ext.specs.Reading.{decoded}
use Rattle.norm_ext.specs.Requests.{Request}
use Rattle.norm_ext.specs.Written.{Written}
use Rattle.norm_ext.specs.declared.refusal.Refusal.{Refusal}
use Rattle.norm_receive_rules.specs.AllNeeds.{needs_nothing}
use Rattle.norm_receive_rules.specs.BackingOff.{may_back_off, backs_off, may_need}
use Rattle.norm_receive_rules.specs.Holding.{holding_nothing}
use Rattle.norm_receive_rules.specs.Leaving.{is_in, goes_to, enters, entered}
use Rattle.norm_receive_rules.specs.Overhearing.{asked_all, heard_whole, overheard, adv_overheard, nack_counts}
use Rattle.norm_receive_rules.specs.ReceiverState.{ReceiverState, Knowledge}
use Rattle.norm_receive_rules.specs.Receiving.{info_received, data_received, flush_received, takes_in, in_instance, message_received, received}
use Rattle.norm_send_rules.specs.SenderState.{SenderState, Instance}
use Rattle.norm_safety.specs.Lawful.{receiver_knows, are_near}
use Rattle.norm_safety.specs.Said.{first_index}
use Rattle.norm_safety.proofs.EntryLemmas.{clash}
use Rattle.norm_safety.proofs.Feedback.{SaysNothing}
use Rattle.norm_safety.proofs.ReceiverMoves.{need_same, knowing, known_in, near_named, in_instance_is}
use Rattle.norm_safety.proofs.Spoken.{IsTrueOf, SaysTrue}
use Rattle.norm_recovery.proofs.SteadyBefore.{Before, FarHad, FlushHad, SawHad, further_had, flush_had}
use Rattle.norm_recovery.proofs.SteadyTells.{Leads}

-- ---- words

-- the same is held and was seen in the same instance, and the same back-off runs
pub record SameSight (r t : ReceiverState) : Type 0 where
  pub instance : t.instance ≡ r.instance
  pub holding : t.holding ≡ r.holding
  pub farthest : t.knows.farthest ≡ r.knows.farthest
  pub flush : t.knows.flush ≡ r.knows.flush
  pub backoff : t.knows.backoff ≡ r.knows.backoff

pub sight_itself : (r : ReceiverState) → SameSight r r
sight_itself r = record { instance = refl; holding = refl; farthest = refl; flush = refl; backoff = refl }

-- a receiver as it is, or as it enters an instance
abbrev pub IsFrom : ReceiverState → ReceiverState → Type 0
IsFrom r u = (u ≡ r) ⊎ ((u.knows.farthest ≡ None) × (u.knows.flush ≡ None) × (u.knows.backoff ≡ None))

-- What a datagram makes a receiver see: nothing; a point before which it has all; or a flush before which it has all.
pub data Sees (p : Settings) (now draw : ℕ) (i : Instance) (r : ReceiverState) : ReceiverState → Type 0 where
  SeesNothing : {t : ReceiverState} → SameSight r t → Sees p now draw i r t
  SeesPoint : (u v : ReceiverState) (at : Point) → IsFrom r u → v.instance ≡ Some i.id → v.knows.farthest ≡ further_point at u.knows.farthest
      → v.knows.flush ≡ u.knows.flush → v.knows.backoff ≡ u.knows.backoff → Before p i r at.index at.block → Sees p now draw i r (may_need p now draw v)
  SeesFlush : (u v : ReceiverState) (at : Position) → IsFrom r u → v.instance ≡ Some i.id → v.knows.farthest ≡ u.knows.farthest
      → v.knows.flush ≡ further at u.knows.flush → v.knows.backoff ≡ u.knows.backoff → Before p i r (at.index + 1) 0 → Sees p now draw i r (may_need p now draw v)

-- ---- what a message makes it see

-- what holds of a receiver that a message leaves, and of one that takes it in, holds after it
instance_leaves : (P : ReceiverState → Type 0) (p : Settings) (now draw source id object index : ℕ) (brings : ℕ → ReceiverState → ReceiverState) (r : ReceiverState)
    → object ≡ object_id p index → index ≤ 4294967294 → are_near (known_in (entered r id)) (index ∷ []) ≡ true → P r
    → (r.instance ≡ Some id → P (may_need p now draw (brings index (knowing index r)))) → P (may_need p now draw (brings index (knowing index (enters id r))))
    → P (in_instance p now draw source id object brings r)
instance_leaves P p now draw source id object index brings r named most near stays inside enter =
    go (source == p.sender) (is_in r id) (goes_to r id) refl near
  where
    in_state : (t : ReceiverState) → are_near (Some t.knows.known) (index ∷ []) ≡ true → P (may_need p now draw (brings index (knowing index t)))
        → P (unwrap_or (takes_in p now draw object brings t) r)
    in_state t close k =
        let M : Option ℕ → Type 0 = λ found. P (unwrap_or (elim found [
          | Some n ↦ Some (may_need p now draw (brings n (knowing n t)))
          | None ↦ None
        ]) r) in
        subst M (sym (near_named p t.knows.known object index named most close)) k

    go : (own inner above : Bool) → is_in r id ≡ inner
        → are_near (known_in (elim inner [ true ↦ Some r | false ↦ elim above [ true ↦ Some (enters id r) | false ↦ None ] ])) (index ∷ []) ≡ true
        → P (elim own [
          | true ↦ unwrap_or (option_and_then (takes_in p now draw object brings)
              (elim inner [ true ↦ Some r | false ↦ elim above [ true ↦ Some (enters id r) | false ↦ None ] ])) r
          | false ↦ r
        ])
    go false inner above e close = stays
    go true true above e close = in_state r close (inside (in_instance_is r id e))
    go true false true e close = in_state (enters id r) close enter
    go true false false e close = stays

where_sight : (b : Bool) (r t : ReceiverState) → SameSight r t → SameSight r (elim b as (λ _. ReceiverState) [ true ↦ t | false ↦ r ])
where_sight true r t h = h
where_sight false r t h = sight_itself r

over_sight : (p : Settings) (requests : List Request) (r : ReceiverState) → SameSight r (overheard p requests r)
over_sight p requests r = go r.knows.backoff
  where
    go : (backoff : Option ℕ) → SameSight r (record r {
      knows = elim backoff as (λ _. Knowledge) [
        | Some ends ↦ record (r.knows) { heard = heard_whole r.knows.heard (asked_all (map (named p r.knows.known) requests)) }
        | None ↦ r.knows
      ];
    })
    go None = record { instance = refl; holding = refl; farthest = refl; flush = refl; backoff = refl }
    go (Some ends) = record { instance = refl; holding = refl; farthest = refl; flush = refl; backoff = refl }

quiet_sight : (p : Settings) (now draw : ℕ) (said : Result Message Refusal) (r : ReceiverState) → SaysNothing said → SameSight r (message_received p now draw said r)
quiet_sight p now draw (Ok (Info m)) r none = absurd none
quiet_sight p now draw (Ok (Data m)) r none = absurd none
quiet_sight p now draw (Ok (Flush m)) r none = absurd none
quiet_sight p now draw (Ok (Squelch m)) r none = absurd none
quiet_sight p now draw (Ok (RepairAdv m)) r none =
    where_sight (m.head.source == p.sender) r (adv_overheard p m r) (where_sight (is_in r m.head.instance) r (overheard p m.requests r) (over_sight p m.requests r))
quiet_sight p now draw (Ok (Nack m)) r none = where_sight (nack_counts p m r) r (overheard p m.requests r) (over_sight p m.requests r)
quiet_sight p now draw (Ok (Eot m)) r none = sight_itself r
quiet_sight p now draw (Ok (AckReq m)) r none = sight_itself r
quiet_sight p now draw (Ok (Opaque m)) r none = sight_itself r
quiet_sight p now draw (Ok (Ack m)) r none = sight_itself r
quiet_sight p now draw (Ok (Report m)) r none = sight_itself r
quiet_sight p now draw (Err refusal) r none = sight_itself r

abbrev ok_of : Message → Result Message Refusal
ok_of m = Ok m

module _ (p : Settings) (s : SenderState) (i : Instance) (now draw : ℕ) (r : ReceiverState) (indices : List ℕ) where
  abbrev SeesThen : ReceiverState → Type 0
  SeesThen t = Sees p now draw i r t

  near_alone : (id index : ℕ) → indices ≡ index ∷ [] → are_near (known_in (entered r id)) indices ≡ true → are_near (known_in (entered r id)) (index ∷ []) ≡ true
  near_alone id index alone near = ap (are_near (known_in (entered r id))) (sym alone) ∙ near

  message_sees : (m : Message) → IsTrueOf p s indices m → are_near (receiver_knows r m) indices ≡ true → Leads p i r indices m
      → SeesThen (message_received p now draw (ok_of m) r)
  message_sees (Info m) (speaks, says) near (same, before) =
      let id : ℕ = m.head.instance in
      let at : Point = point speaks.index 0 in
      let B : ℕ → Type 0 = λ n. Before p i r n 0 in
      let own = subst B (ap first_index speaks.alone) before in
      instance_leaves SeesThen p now draw m.head.source id m.head.object speaks.index (info_received p m) r speaks.named speaks.most
      (near_alone id speaks.index speaks.alone near) (SeesNothing (sight_itself r))
      (λ is. SeesPoint r (info_received p m speaks.index (knowing speaks.index r)) at (inl refl) (is ∙ ap (λ (n : ℕ). Some n) same) refl refl refl own)
      (SeesPoint (enters id r) (info_received p m speaks.index (knowing speaks.index (enters id r))) at (inr (refl, refl, refl)) (ap (λ (n : ℕ). Some n) same) refl refl refl own)
  message_sees (Data m) (speaks, says) near (same, before) =
      let id : ℕ = m.head.instance in
      let at : Point = point speaks.index m.id.block in
      let B : ℕ → Type 0 = λ n. Before p i r n m.id.block in
      let own = subst B (ap first_index speaks.alone) before in
      instance_leaves SeesThen p now draw m.head.source id m.head.object speaks.index (data_received p m) r speaks.named speaks.most
      (near_alone id speaks.index speaks.alone near) (SeesNothing (sight_itself r))
      (λ is. SeesPoint r (data_received p m speaks.index (knowing speaks.index r)) at (inl refl) (is ∙ ap (λ (n : ℕ). Some n) same) refl refl refl own)
      (SeesPoint (enters id r) (data_received p m speaks.index (knowing speaks.index (enters id r))) at (inr (refl, refl, refl)) (ap (λ (n : ℕ). Some n) same) refl refl refl own)
  message_sees (Flush m) (speaks, says) near (same, before) =
      let id : ℕ = m.head.instance in
      let at : Position = position speaks.index m.id.block m.id.symbol in
      let B : ℕ → Type 0 = λ n. Before p i r (n + 1) 0 in
      let own = subst B (ap first_index speaks.alone) before in
      instance_leaves SeesThen p now draw m.head.source id m.object speaks.index (flush_received m) r speaks.named speaks.most
      (near_alone id speaks.index speaks.alone near) (SeesNothing (sight_itself r))
      (λ is. SeesFlush r (flush_received m speaks.index (knowing speaks.index r)) at (inl refl) (is ∙ ap (λ (n : ℕ). Some n) same) refl refl refl own)
      (SeesFlush (enters id r) (flush_received m speaks.index (knowing speaks.index (enters id r))) at (inr (refl, refl, refl)) (ap (λ (n : ℕ). Some n) same) refl refl refl own)
  message_sees (Squelch m) says near none = absurd none
  message_sees (RepairAdv m) says near leads = SeesNothing (quiet_sight p now draw (ok_of (RepairAdv m)) r tt)
  message_sees (Nack m) says near leads = SeesNothing (quiet_sight p now draw (ok_of (Nack m)) r tt)
  message_sees (Eot m) says near leads = SeesNothing (sight_itself r)
  message_sees (AckReq m) says near leads = SeesNothing (sight_itself r)
  message_sees (Opaque m) says near leads = SeesNothing (sight_itself r)
  message_sees (Ack m) says near leads = SeesNothing (sight_itself r)
  message_sees (Report m) says near leads = SeesNothing (sight_itself r)

pub received_sees : (p : Settings) (s : SenderState) (i : Instance) (now draw : ℕ) (r : ReceiverState) (o : Written) → SaysTrue p s o
    → are_near (receiver_knows r o.message) o.indices ≡ true → Leads p i r o.indices o.message → Sees p now draw i r (received p r o.octets now draw)
received_sees p s i now draw r o says near leads = go says.0
  where
    M : Result Message Refusal → Type 0
    M said = Sees p now draw i r (message_received p now draw said r)

    go : (decoded o.octets ≡ Ok o.message) ⊎ SaysNothing (decoded o.octets) → Sees p now draw i r (received p r o.octets now draw)
    go (inl read) = subst M (sym read) (message_sees p s i now draw r o.indices o.message says.1 near leads)
    go (inr none) = SeesNothing (quiet_sight p now draw (decoded o.octets) r none)

-- ---- after it

-- a receiver is in none, and saw nothing, or is in the instance
abbrev pub IsInNone : ReceiverState → Type 0
IsInNone r = (r.instance ≡ None) × (r.holding ≡ holding_nothing) × (r.knows.farthest ≡ None) × (r.knows.flush ≡ None)

abbrev pub Sits : Instance → ReceiverState → Type 0
Sits i r = IsInNone r ⊎ (r.instance ≡ Some i.id)

-- what is needed does not depend on whether it backs off
need_sight : (p : Settings) (now draw : ℕ) (v : ReceiverState) → (may_need p now draw v).knows.farthest ≡ v.knows.farthest
need_sight p now draw v = go (may_back_off now v.knows) (needs_nothing p v)
  where
    left : Bool → Bool → ReceiverState
    left b c = elim b [ true ↦ elim c [ true ↦ v | false ↦ record v { knows = backs_off p now draw v.knows } ] | false ↦ v ]

    go : (b c : Bool) → (left b c).knows.farthest ≡ v.knows.farthest
    go true true = refl
    go true false = refl
    go false c = refl

need_flush : (p : Settings) (now draw : ℕ) (v : ReceiverState) → (may_need p now draw v).knows.flush ≡ v.knows.flush
need_flush p now draw v = go (may_back_off now v.knows) (needs_nothing p v)
  where
    left : Bool → Bool → ReceiverState
    left b c = elim b [ true ↦ elim c [ true ↦ v | false ↦ record v { knows = backs_off p now draw v.knows } ] | false ↦ v ]

    go : (b c : Bool) → (left b c).knows.flush ≡ v.knows.flush
    go true true = refl
    go true false = refl
    go false c = refl

-- if it needs nothing, it goes on as it is
need_backoff : (p : Settings) (now draw : ℕ) (v : ReceiverState) → needs_nothing p (may_need p now draw v) ≡ true
    → (may_need p now draw v).knows.backoff ≡ v.knows.backoff
need_backoff p now draw v = go (may_back_off now v.knows) (needs_nothing p v) refl
  where
    left : Bool → Bool → ReceiverState
    left b c = elim b [ true ↦ elim c [ true ↦ v | false ↦ record v { knows = backs_off p now draw v.knows } ] | false ↦ v ]

    go : (b c : Bool) → needs_nothing p v ≡ c → needs_nothing p (left b c) ≡ true → (left b c).knows.backoff ≡ v.knows.backoff
    go true true is e = refl
    go true false is e = absurd (clash (sym is ∙ e))
    go false c is e = refl

module _ (p : Settings) (now draw : ℕ) (i : Instance) (r : ReceiverState) where
  pub sees_still : (t : ReceiverState) → Sees p now draw i r t → r.instance ≡ Some i.id → t.instance ≡ Some i.id
  sees_still t (SeesNothing same) is = same.instance ∙ is
  sees_still _ (SeesPoint u v at from inside farthest flush backoff own) is = (need_same p now draw v).instance ∙ inside
  sees_still _ (SeesFlush u v at from inside farthest flush backoff own) is = (need_same p now draw v).instance ∙ inside

  pub sees_sits : (t : ReceiverState) → Sees p now draw i r t → Sits i r → Sits i t
  sees_sits t (SeesNothing same) (inl none) =
      inl (same.instance ∙ none.0, same.holding ∙ none.1, same.farthest ∙ none.2, same.flush ∙ none.3)
  sees_sits t (SeesNothing same) (inr is) = inr (same.instance ∙ is)
  sees_sits _ (SeesPoint u v at from inside farthest flush backoff own) h = inr ((need_same p now draw v).instance ∙ inside)
  sees_sits _ (SeesFlush u v at from inside farthest flush backoff own) h = inr ((need_same p now draw v).instance ∙ inside)

  from_far : (t u : ReceiverState) → IsFrom r u → FarHad p i t r.knows.farthest → FarHad p i t u.knows.farthest
  from_far t u (inl same) h = let F : ReceiverState → Type 0 = λ w. FarHad p i t w.knows.farthest in subst F (sym same) h
  from_far t u (inr none) h = let F : Option Point → Type 0 = λ f. FarHad p i t f in subst F (sym none.0) tt

  from_flush : (t u : ReceiverState) → IsFrom r u → FlushHad p i t r.knows.flush → FlushHad p i t u.knows.flush
  from_flush t u (inl same) h = let F : ReceiverState → Type 0 = λ w. FlushHad p i t w.knows.flush in subst F (sym same) h
  from_flush t u (inr none) h = let F : Option Position → Type 0 = λ f. FlushHad p i t f in subst F (sym none.1) tt

  -- What the receiver had before it has still.
  pub sees_had : (t : ReceiverState) → ((index block : ℕ) → Before p i r index block → Before p i t index block) → FarHad p i t r.knows.farthest
      → FlushHad p i t r.knows.flush → Sees p now draw i r t → SawHad p i t
  sees_had t still far near (SeesNothing same) =
      let F : Option Point → Type 0 = λ f. FarHad p i t f in
      let G : Option Position → Type 0 = λ f. FlushHad p i t f in
      record { farthest = subst F (sym same.farthest) far; flush = subst G (sym same.flush) near }
  sees_had t still far near (SeesPoint u v at from inside farthest flush backoff own) =
      let F : Option Point → Type 0 = λ f. FarHad p i t f in
      let G : Option Position → Type 0 = λ f. FlushHad p i t f in
      record {
        farthest = subst F (sym (need_sight p now draw v ∙ farthest)) (further_had p i t at u.knows.farthest (still at.index at.block own) (from_far t u from far));
        flush = subst G (sym (need_flush p now draw v ∙ flush)) (from_flush t u from near);
      }
  sees_had t still far near (SeesFlush u v at from inside farthest flush backoff own) =
      let F : Option Point → Type 0 = λ f. FarHad p i t f in
      let G : Option Position → Type 0 = λ f. FlushHad p i t f in
      record {
        farthest = subst F (sym (need_sight p now draw v ∙ farthest)) (from_far t u from far);
        flush = subst G (sym (need_flush p now draw v ∙ flush)) (flush_had p i t at u.knows.flush (still (at.index + 1) 0 own) (from_flush t u from near));
      }

  from_backoff : (u : ReceiverState) → IsFrom r u → r.knows.backoff ≡ None → u.knows.backoff ≡ None
  from_backoff u (inl same) e = ap (λ (w : ReceiverState). w.knows.backoff) same ∙ e
  from_backoff u (inr none) e = none.2

  -- If it needs nothing then, it does not back off.
  pub sees_backoff : (t : ReceiverState) → Sees p now draw i r t → needs_nothing p t ≡ true → r.knows.backoff ≡ None → t.knows.backoff ≡ None
  sees_backoff t (SeesNothing same) needs e = same.backoff ∙ e
  sees_backoff _ (SeesPoint u v at from inside farthest flush backoff own) needs e = need_backoff p now draw v needs ∙ backoff ∙ from_backoff u from e
  sees_backoff _ (SeesFlush u v at from inside farthest flush backoff own) needs e = need_backoff p now draw v needs ∙ backoff ∙ from_backoff u from e
