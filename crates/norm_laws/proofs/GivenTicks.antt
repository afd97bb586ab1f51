-- What counts as sent after a tick was given by it, or counted before: the converse of what is said of ticks in safety.
use Rattle.std.proofs.Common.{◌≡◌, ℕ, List, [], ◌∷◌, length, Bool, true, false, Option, None, Some, refl, ap, ◌∙◌}
use Rattle.std.specs.Prelude.{◌==◌, nat_lt, nat_le, ⊤}
use Rattle.norm_base.specs.Settings.{Settings}
use Rattle.fec_plan.specs.Points.{Point, position_before}
use Rattle.fec_plan.specs.declared.position.Position.{Position}
use Rattle.norm_ext.specs.Message.{Message, Info as InfoOf, Data, Squelch, InfoMessage, DataMessage}
use Rattle.norm_ext.specs.Written.{Written, writes}
use Rattle.norm_order.specs.Entries.{Object, Whole, Stream}
use Rattle.norm_order.specs.Sets.{with_member}
use Rattle.norm_send_rules.specs.Closing.{round_closed}
use Rattle.norm_send_rules.specs.Flushing.{most_flushes, flushes_for, expired, flushes_oldest, flushes_no_more, flushed, flushes_in_turn, flushes, may_flush}
use Rattle.norm_send_rules.specs.Messages.{squelch_message}
use Rattle.norm_send_rules.specs.SenderState.{SenderState, Instance, Watermark, Round}
use Rattle.norm_send_rules.specs.Sending.{next_new, behind, sends, noted, repair_flags, object_of, message_of, sends_want, repairs_next, sends_new}
use Rattle.norm_send_rules.specs.Ticking.{closed_where_due, sends_further, sends_wanted, sends_first, ticked}
use Rattle.norm_send_rules.specs.Watermarks.{oldest, pending, keeps_oldest, counted_anew, end_where}
use Rattle.norm_send_rules.specs.declared.news.Outcome.TheVariants.{Expired}
use Rattle.norm_send_rules.specs.declared.want.Want.{Want}
use Rattle.norm_send_rules.specs.declared.want.Want.TheVariants.{Info, Symbol}

-- ---- what a tick gives

-- a datagram brings a symbol of an instance
pub record BringsSymbol (p : Settings) (id : ℕ) (at : Position) (o : Written) : Type 0 where
  pub message : DataMessage
  pub is : o.message ≡ Data message
  pub source : message.head.source ≡ p.sender
  pub instance : message.head.instance ≡ id
  pub block : message.id.block ≡ at.block
  pub symbol : message.id.symbol ≡ at.symbol
  pub indices : o.indices ≡ at.index ∷ []

-- a datagram brings an info of an instance
pub record BringsInfo (p : Settings) (id index : ℕ) (o : Written) : Type 0 where
  pub message : InfoMessage
  pub is : o.message ≡ InfoOf message
  pub source : message.head.source ≡ p.sender
  pub instance : message.head.instance ≡ id
  pub indices : o.indices ≡ index ∷ []

-- where a datagram is a squelch, it says an instance's drop point
abbrev pub SquelchesAt : ℕ → Point → List ℕ → Message → Type 0
SquelchesAt id drop indices (Squelch m) = (m.head.instance ≡ id) × (m.id.block ≡ drop.block) × (indices ≡ drop.index ∷ [])
SquelchesAt id drop indices _ = ⊤

abbrev pub SaysDrop : Instance → Option Written → Type 0
SaysDrop i (Some o) = SquelchesAt i.id i.drop o.indices o.message
SaysDrop i None = ⊤

-- the same instance, and the same counts as sent
pub record SameSent (s t : SenderState) : Type 0 where
  pub current : t.current ≡ s.current
  pub sent : t.sent ≡ s.sent
  pub infos : t.sent_infos ≡ s.sent_infos

-- A tick gives a symbol that counts as sent then, or an info that does; or nothing that does.
pub data Gives (p : Settings) (s : SenderState) : SenderState → Option Written → Type 0 where
  Nothing : {t : SenderState} {o : Option Written} → SameSent s t → SaysDrop s.current o → Gives p s t o
  ASymbol : {t : SenderState} {o : Written} (at : Position) → t.current ≡ s.current → t.sent ≡ with_member position_before at s.sent → t.sent_infos ≡ s.sent_infos
      → BringsSymbol p s.current.id at o → Gives p s t (Some o)
  AnInfo : {t : SenderState} {o : Written} (index : ℕ) → t.current ≡ s.current → t.sent ≡ s.sent → t.sent_infos ≡ with_member nat_lt index s.sent_infos
      → BringsInfo p s.current.id index o → Gives p s t (Some o)

-- of a step
abbrev StepGives : Settings → SenderState → SenderState × Option Written → Type 0
StepGives p s step = Gives p s step.0 step.1

same_itself : (s : SenderState) → SameSent s s
same_itself s = record { current = refl; sent = refl; infos = refl }

-- ---- one step after the other

want_gives : (p : Settings) (now : ℕ) (repair : Object → ℕ) (w : Want) (s t : SenderState) → t.current ≡ s.current → t.sent ≡ s.sent → t.sent_infos ≡ s.sent_infos
    → StepGives p s (sends_want p now repair w t)
want_gives p now repair (Symbol at) s t current sent infos =
    ASymbol at current (ap (with_member position_before at) sent) infos (record {
      message = _;
      is = refl;
      source = refl;
      instance = ap (λ (i : Instance). i.id) current;
      block = refl;
      symbol = refl;
      indices = refl;
    })
want_gives p now repair (Info index) s t current sent infos = go (object_of t (Info index)) (repair (object_of t (Info index)))
  where
    says : (m : InfoMessage) → m.head.source ≡ p.sender → m.head.instance ≡ t.current.id
        → StepGives p s (sends p now (writes (InfoOf m) (index ∷ [])) (noted (Info index) t))
    says m source instance = AnInfo index current sent (ap (with_member nat_lt index) infos) (record {
      message = m;
      is = refl;
      source = source;
      instance = instance ∙ ap (λ (i : Instance). i.id) current;
      indices = refl;
    })

    go : (object : Object) (flags : ℕ) → StepGives p s (sends p now (writes (message_of p t (Info index) object flags) (index ∷ [])) (noted (Info index) t))
    go (Whole kind None octets) flags = says _ refl refl
    go (Whole kind (Some info) octets) flags = says _ refl refl
    go (Stream parts) flags = says _ refl refl

flush_gives : (p : Settings) (now : ℕ) (w : Watermark) (s t : SenderState) → SameSent s t → StepGives p s (flushes_for p now w t)
flush_gives p now w s t h = Nothing (record { current = h.current; sent = h.sent; infos = h.infos }) tt

oldest_gives : (p : Settings) (now : ℕ) (s t : SenderState) → SameSent s t → StepGives p s (flushes_oldest p now t)
oldest_gives p now s t h = go (oldest t)
  where
    go : (found : Option Watermark) → StepGives p s (elim found [ Some w ↦ flushes_for p now w t | None ↦ (t, None) ])
    go None = Nothing h tt
    go (Some w) = flush_gives p now w s t h

anew_same : (before s t : SenderState) → SameSent s t → SameSent s (counted_anew before t)
anew_same before s t h = go (keeps_oldest before t)
  where
    go : (b : Bool) → SameSent s (elim b as (λ _. SenderState) [ true ↦ t | false ↦ record t { flushes = 0 } ])
    go true = h
    go false = record { current = h.current; sent = h.sent; infos = h.infos }

no_more_gives : (p : Settings) (now : ℕ) (w : Watermark) (s t : SenderState) → SameSent s t → StepGives p s (flushes_no_more p now w t)
no_more_gives p now w s t h = go t.round
  where
    go : (round : Option Round) → StepGives p s (elim round [ Some r ↦ (t, None) | None ↦ flushes_oldest p now (expired w.mark t) ])
    go (Some r) = Nothing h tt
    go None = oldest_gives p now s (expired w.mark t)
        (anew_same t s (end_where (λ (v : Watermark). v.mark == w.mark) (λ (v : Watermark). Expired (length (pending t v.at))) t)
        (record { current = h.current; sent = h.sent; infos = h.infos }))

flushed_gives : (p : Settings) (now : ℕ) (w : Watermark) (s t : SenderState) → SameSent s t → StepGives p s (flushed p now w t)
flushed_gives p now w s t h = go (nat_lt t.flushes most_flushes)
  where
    go : (b : Bool) → StepGives p s (elim b [ true ↦ flushes_for p now w t | false ↦ flushes_no_more p now w t ])
    go true = flush_gives p now w s t h
    go false = no_more_gives p now w s t h

in_turn_gives : (p : Settings) (now : ℕ) (s t : SenderState) → SameSent s t → StepGives p s (flushes_in_turn p now t)
in_turn_gives p now s t h = go (oldest t)
  where
    go : (found : Option Watermark) → StepGives p s (elim found [ Some w ↦ flushed p now w t | None ↦ (t, None) ])
    go None = Nothing h tt
    go (Some w) = flushed_gives p now w s t h

flushes_gives : (p : Settings) (now : ℕ) (s t : SenderState) → SameSent s t → StepGives p s (flushes p now t)
flushes_gives p now s t h = go (may_flush p t now)
  where
    go : (b : Bool) → StepGives p s (elim b [ true ↦ flushes_in_turn p now t | false ↦ (t, None) ])
    go true = in_turn_gives p now s t h
    go false = Nothing h tt

further_gives : (p : Settings) (now : ℕ) (s t : SenderState) → SameSent s t → StepGives p s (sends_further p now t)
further_gives p now s t h = go (next_new p t)
  where
    go : (found : Option Want) → StepGives p s (elim found [ Some w ↦ sends_new p now w t | None ↦ flushes p now t ])
    go None = flushes_gives p now s t h
    go (Some w) = want_gives p now (λ object. 0) w s (record t { next = behind w }) h.current h.sent h.infos

wanted_gives : (p : Settings) (now : ℕ) (s t : SenderState) → SameSent s t → StepGives p s (sends_wanted p now t)
wanted_gives p now s t h = go t.wants
  where
    go : (wants : List Want) → StepGives p s (elim wants [ [] ↦ sends_further p now t | w ∷ wants ↦ repairs_next p now w wants t ])
    go [] = further_gives p now s t h
    go (w ∷ wants) = want_gives p now (λ object. repair_flags p object w) w s (record t { wants = wants }) h.current h.sent h.infos

first_gives : (p : Settings) (now : ℕ) (s t : SenderState) → SameSent s t → StepGives p s (sends_first p now t)
first_gives p now s t h = go t.squelch_due
  where
    go : (due : Bool) → StepGives p s (elim due [
      | true ↦ sends p now (writes (squelch_message p t t.current.drop) (t.current.drop.index ∷ [])) (record t { squelch_due = false })
      | false ↦ sends_wanted p now t
    ])
    go true = Nothing (record { current = h.current; sent = h.sent; infos = h.infos }) (
      ap (λ (i : Instance). i.id) h.current,
      ap (λ (i : Instance). i.drop.block) h.current,
      ap (λ (i : Instance). i.drop.index ∷ []) h.current,
    )
    go false = wanted_gives p now s t h

closed_same : (p : Settings) (now : ℕ) (s : SenderState) → SameSent s (closed_where_due p now s)
closed_same p now s = go s.round
  where
    due : (r : Round) (b : Bool) → SameSent s (elim b as (λ _. SenderState) [ true ↦ round_closed p r s | false ↦ s ])
    due r true = record { current = refl; sent = refl; infos = refl }
    due r false = same_itself s

    go : (round : Option Round) → SameSent s (elim round as (λ _. SenderState) [
      | Some r ↦ elim (nat_le r.closes now) [ true ↦ round_closed p r s | false ↦ s ]
      | None ↦ s
    ])
    go None = same_itself s
    go (Some r) = due r (nat_le r.closes now)

pub tick_gives : (p : Settings) (s : SenderState) (now : ℕ) → Gives p s (ticked p s now).0 (ticked p s now).1
tick_gives p s now = go (closed_where_due p now s) (closed_same p now s) (nat_lt now (closed_where_due p now s).next_send)
  where
    go : (c : SenderState) → SameSent s c → (early : Bool) → StepGives p s (elim early [ true ↦ (c, None) | false ↦ sends_first p now c ])
    go c h true = Nothing h tt
    go c h false = first_gives p now s c h
