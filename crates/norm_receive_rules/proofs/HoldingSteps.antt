-- What every change of what is held and of the acknowledgement that is due keeps, every step of a receiver keeps.
use Rattle.std.proofs.Common.{ℕ, List, [], ◌∷◌, Bool, true, false, Option, None, Some, Result, Ok, Err}
use Rattle.std.specs.Prelude.{◌==◌, ◌&&◌, not, nat_le, map, flat_map, unwrap_or, option_and_then}
use Rattle.norm_base.specs.Settings.{Settings}
use Rattle.fec_plan.specs.Points.{Point, point, position}
use Rattle.fec_plan.specs.declared.position.Position.{Position}
use Rattle.norm_ext.specs.Extensions.{Extension}
use Rattle.norm_ext.specs.Message.{Message, Info, Data, Flush, Eot, Squelch, RepairAdv, AckReq, Opaque, Nack, Ack, Report, FlushCommand}
use Rattle.norm_ext.specs.Asking.{named}
use Rattle.norm_ext.specs.ObjectIds.{index_named}
use Rattle.norm_ext.specs.Requests.{Request}
use Rattle.norm_ext.specs.Reading.{decoded}
use Rattle.norm_ext.specs.Written.{Written, writes}
use Rattle.norm_receive_rules.specs.AllNeeds.{needs, needs_nothing}
use Rattle.norm_receive_rules.specs.BackingOff.{may_back_off, backs_off, may_need}
use Rattle.norm_receive_rules.specs.Holding.{Holding, holding_nothing}
use Rattle.norm_receive_rules.specs.Leaving.{is_in, goes_to, enters}
use Rattle.norm_receive_rules.specs.Losing.{squelched}
use Rattle.norm_receive_rules.specs.Nack.{indices_of, fitting, nack_message, ack_message}
use Rattle.norm_receive_rules.specs.Needs.{Need}
use Rattle.norm_receive_rules.specs.Overhearing.{asked_all, heard_whole, overheard, adv_overheard}
use Rattle.norm_receive_rules.specs.Putting.{put_symbol, put_info}
use Rattle.norm_receive_rules.specs.ReceiverState.{ReceiverState}
use Rattle.norm_receive_rules.specs.ReceiverStep.{ReceiverEvent, Delivered, Ticked, UpTaken, receiver_step}
use Rattle.norm_receive_rules.specs.Receiving.{object_held, info_received, data_received, flush_received, squelch_received, learns, takes_in, in_instance, message_received}
use Rattle.norm_receive_rules.specs.Taking.{up_taken}
use Rattle.norm_receive_rules.specs.Ticking.{sends, holds_off, are_heard, asks, asks_where_needed, ends_back_off, ticked}

-- what each change of what is held keeps, and each of the acknowledgement that is due
pub record IsKept (p : Settings) (P : Holding → Option Position → Type 0) : Type 0 where
  pub nothing : P holding_nothing None
  pub symbol : (at : Position) (extensions : List Extension) (flags : ℕ) (payload : List ℕ) (s : Holding) (due : Option Position)
      → P s due → P (object_held p at extensions flags (put_symbol p at payload) s) due
  pub info : (at : Position) (extensions : List Extension) (flags index : ℕ) (info : List ℕ) (s : Holding) (due : Option Position)
      → P s due → P (object_held p at extensions flags (put_info p index info) s) due
  pub squelch : (first : Point) (s : Holding) (due : Option Position) → P s due → P (squelched p first s) due
  pub take : (s : Holding) (due : Option Position) → P s due → P (up_taken s).0 due
  pub flush : (m : FlushCommand) (index : ℕ) (s : ReceiverState) → P s.holding s.knows.due → P s.holding (flush_received m index s).knows.due
  pub told : (s : Holding) (due : Option Position) → P s due → P s None

-- what keeps only what is held
pub record HoldingIsKept (p : Settings) (P : Holding → Type 0) : Type 0 where
  pub nothing : P holding_nothing
  pub symbol : (at : Position) (extensions : List Extension) (flags : ℕ) (payload : List ℕ) (s : Holding)
      → P s → P (object_held p at extensions flags (put_symbol p at payload) s)
  pub info : (at : Position) (extensions : List Extension) (flags index : ℕ) (info : List ℕ) (s : Holding)
      → P s → P (object_held p at extensions flags (put_info p index info) s)
  pub squelch : (first : Point) (s : Holding) → P s → P (squelched p first s)
  pub take : (s : Holding) → P s → P (up_taken s).0

-- the state of a tick
abbrev state_of : ReceiverState × Option Written → ReceiverState
state_of step = step.0

module _ (p : Settings) (P : Holding → Option Position → Type 0) (kept : IsKept p P) where
  abbrev Of : ReceiverState → Type 0
  Of s = P s.holding s.knows.due

  tick_keeps : (s : ReceiverState) (now : ℕ) → Of s → Of (ticked p s now).0
  tick_keeps s now h = due s.knows.due
    where
      asked : (wanted : List Need) (t : ReceiverState) → Of t → (all : Bool) → Of (state_of (elim all [
        | true ↦ (record t { knows = holds_off p now t.knows }, None)
        | false ↦ sends (writes (nack_message p t wanted) (flat_map indices_of wanted)) (record t { knows = holds_off p now t.knows })
      ]))
      asked wanted t k true = k
      asked wanted t k false = k

      needed : (t : ReceiverState) → Of t → (none : Bool) → Of (state_of (elim none [
        | true ↦ (t, None)
        | false ↦ asks p now (fitting p (needs p t) None p.e) t
      ]))
      needed t k true = k
      needed t k false = asked (fitting p (needs p t) None p.e) t k (are_heard t (fitting p (needs p t) None p.e))

      ended : (t : ReceiverState) → Of t → (reached : Bool)
          → Of (state_of (elim reached [ true ↦ asks_where_needed p now t | false ↦ (s, None) ]))
      ended t k true = needed t k (needs_nothing p t)
      ended t k false = h

      backed : (backoff : Option ℕ) → Of (state_of (elim backoff [
        | Some ends ↦ elim (nat_le ends now) [
          | true ↦ asks_where_needed p now (record s { knows = record (s.knows) { backoff = None } })
          | false ↦ (s, None)
        ]
        | None ↦ (s, None)
      ]))
      backed None = h
      backed (Some ends) = ended (record s { knows = record (s.knows) { backoff = None } }) h (nat_le ends now)

      due : (at : Option Position) → Of (state_of (elim at [
        | Some at ↦ sends (writes (ack_message p s at) (at.index ∷ [])) (record s { knows = record (s.knows) { due = None } })
        | None ↦ ends_back_off p now s
      ]))
      due None = backed s.knows.backoff
      due (Some at) = kept.told s.holding s.knows.due h

  need_keeps : (now draw : ℕ) (s : ReceiverState) → Of s → Of (may_need p now draw s)
  need_keeps now draw s h = go (may_back_off now s.knows) (needs_nothing p s)
    where
      go : (b c : Bool) → Of (elim b as (λ _. ReceiverState) [ true ↦ elim c [ true ↦ s | false ↦ record s { knows = backs_off p now draw s.knows } ] | false ↦ s ])
      go true true = h
      go true false = h
      go false c = h

  instance_keeps : (now draw source id object : ℕ) (brings : ℕ → ReceiverState → ReceiverState) (s : ReceiverState)
      → ((index : ℕ) (t : ReceiverState) → Of t → Of (brings index t)) → Of s
      → Of (in_instance p now draw source id object brings s)
  instance_keeps now draw source id object brings s keeps h = go (source == p.sender) (is_in s id) (goes_to s id)
    where
      taken : (t : ReceiverState) → Of t → Of (unwrap_or (takes_in p now draw object brings t) s)
      taken t k = by (index_named p t.knows.known object)
        where
          by : (named : Option ℕ) → Of (unwrap_or (elim named as (λ _. Option ReceiverState) [
            | Some index ↦ Some (may_need p now draw (brings index (record t { knows = learns index t.knows })))
            | None ↦ None
          ]) s)
          by None = h
          by (Some index) =
              need_keeps now draw (brings index (record t { knows = learns index t.knows })) (keeps index (record t { knows = learns index t.knows }) k)

      go : (own inside above : Bool) → Of (elim own as (λ _. ReceiverState) [
        | true ↦ unwrap_or (option_and_then (takes_in p now draw object brings)
            (elim inside [ true ↦ Some s | false ↦ elim above [ true ↦ Some (enters id s) | false ↦ None ] ])) s
        | false ↦ s
      ])
      go false inside above = h
      go true true above = taken s h
      go true false true = taken (enters id s) kept.nothing
      go true false false = h

  where_keeps : (b : Bool) (s t : ReceiverState) → Of s → Of t → Of (elim b as (λ _. ReceiverState) [ true ↦ t | false ↦ s ])
  where_keeps true s t h k = k
  where_keeps false s t h k = h

  overheard_keeps : (requests : List Request) (s : ReceiverState) → Of s → Of (overheard p requests s)
  overheard_keeps requests s h = go s.knows.backoff
    where
      go : (backoff : Option ℕ) → Of (record s {
        knows = elim backoff [
          | Some ends ↦ record (s.knows) { heard = heard_whole s.knows.heard (asked_all (map (named p s.knows.known) requests)) }
          | None ↦ s.knows
        ];
      })
      go (Some ends) = h
      go None = h

  message_keeps : {E : Type 0} (s : ReceiverState) (now draw : ℕ) (said : Result Message E) → Of s → Of (message_received p now draw said s)
  message_keeps s now draw (Ok (Info m)) h = instance_keeps now draw m.head.source m.head.instance m.head.object (info_received p m) s
      (λ index t k. kept.info (position index 0 0) m.extensions m.head.flags index m.info t.holding t.knows.due k) h
  message_keeps s now draw (Ok (Data m)) h = instance_keeps now draw m.head.source m.head.instance m.head.object (data_received p m) s
      (λ index t k. kept.symbol (position index m.id.block m.id.symbol) m.extensions m.head.flags m.payload t.holding t.knows.due k) h
  message_keeps s now draw (Ok (Flush m)) h =
      instance_keeps now draw m.head.source m.head.instance m.object (flush_received m) s (λ index t k. kept.flush m index t k) h
  message_keeps s now draw (Ok (Squelch m)) h = instance_keeps now draw m.head.source m.head.instance m.object (squelch_received p m) s
      (λ index t k. kept.squelch (point index m.id.block) t.holding t.knows.due k) h
  message_keeps s now draw (Ok (RepairAdv m)) h =
      where_keeps (m.head.source == p.sender) s (adv_overheard p m s) h
      (where_keeps (is_in s m.head.instance) s (overheard p m.requests s) h (overheard_keeps m.requests s h))
  message_keeps s now draw (Ok (Nack m)) h =
      where_keeps (not (m.source == s.node) && m.sender == p.sender && is_in s m.instance) s (overheard p m.requests s) h (overheard_keeps m.requests s h)
  message_keeps s now draw (Ok (Eot m)) h = h
  message_keeps s now draw (Ok (AckReq m)) h = h
  message_keeps s now draw (Ok (Opaque m)) h = h
  message_keeps s now draw (Ok (Ack m)) h = h
  message_keeps s now draw (Ok (Report m)) h = h
  message_keeps s now draw (Err refusal) h = h

  pub steps_keep_both : (s : ReceiverState) (event : ReceiverEvent) → P s.holding s.knows.due
      → P (receiver_step p s event).0.holding (receiver_step p s event).0.knows.due
  steps_keep_both s (Delivered datagram now draw) h = message_keeps s now draw (decoded datagram) h
  steps_keep_both s (Ticked now) h = tick_keeps s now h
  steps_keep_both s UpTaken h = kept.take s.holding s.knows.due h

-- what is kept of what is held alone
pub steps_keep : (p : Settings) (P : Holding → Type 0) → HoldingIsKept p P → (s : ReceiverState) (event : ReceiverEvent)
    → P s.holding → P (receiver_step p s event).0.holding
steps_keep p P kept s event h = steps_keep_both p (λ t due. P t) (record {
  nothing = kept.nothing;
  symbol = λ at extensions flags payload t due k. kept.symbol at extensions flags payload t k;
  info = λ at extensions flags index info t due k. kept.info at extensions flags index info t k;
  squelch = λ first t due k. kept.squelch first t k;
  take = λ t due k. kept.take t k;
  flush = λ m index t k. k;
  told = λ t due k. k;
}) s event h
