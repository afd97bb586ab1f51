-- A receiver that overhears a NACK stays clean, if the sender heard that before.
use Rattle.std.proofs.Common.{◌≡◌, ℕ, ◌≤◌, List, ◌++◌, map, Bool, true, false, Option, None, Some, refl, sym, ap, ◌∙◌, subst, ◌⊎◌, inl, inr}
use Rattle.std.specs.Prelude.{◌==◌, ◌&&◌, not, Result, Ok, Err}
use Rattle.std.proofs.lemmas.Bool.Decides.{Decides-eqb}
use Rattle.norm_base.specs.Settings.{Settings}
use Rattle.norm_ext.specs.Asking.{Named, named}
use Rattle.norm_ext.specs.Message.{Message, Info, Data, Flush, Squelch, Eot, RepairAdv, AckReq, Opaque, Nack, Ack, Report}
use Rattle.norm_ext.specs.Reading.{decoded}
use Rattle.norm_ext.specs.Written.{Written}
use Rattle.norm_ext.specs.declared.refusal.Refusal.{Refusal}
use Rattle.norm_receive_rules.specs.Heard.{Heard, heard_all}
use Rattle.norm_receive_rules.specs.Leaving.{is_in}
use Rattle.norm_receive_rules.specs.NackLaws.{requests_heard}
use Rattle.norm_receive_rules.specs.Overhearing.{asked_all, can_hear, heard_whole, nack_counts, overheard}
use Rattle.norm_receive_rules.specs.ReceiverState.{ReceiverState, Knowledge}
use Rattle.norm_receive_rules.specs.Receiving.{message_received, received}
use Rattle.norm_receive_rules.proofs.NackLemmas.{nack_laws}
use Rattle.norm_send_rules.specs.InWindow.{last_index, current_shapes}
use Rattle.norm_send_rules.specs.SenderState.{SenderState}
use Rattle.norm_send_rules.specs.declared.want.Want.{Want}
use Rattle.norm_safety.proofs.EntryLemmas.{clash}
use Rattle.norm_recovery.specs.Clean.{heard_asks, is_clean_from}
use Rattle.norm_recovery.specs.Left.{in_window}
use Rattle.norm_recovery.specs.RoundAsks.{asks_open, is_info_or_source}
use Rattle.norm_recovery.proofs.CleanSteps.{both, overheard_clean, outside_clean}
use Rattle.norm_recovery.proofs.ClosingLists.{In}
use Rattle.norm_recovery.proofs.FeedRead.{IsAckOnly, Nacks, Feed, Acks, Asks, asked_in_round, Joined}
use Rattle.norm_recovery.proofs.HeardAsks.{asked_by, heard_is, asked_more}
use Rattle.norm_recovery.proofs.HeardSteps.{HasHeard}
use Rattle.norm_recovery.proofs.SameReading.{same_reading}

-- What a receiver overhears of a NACK of low indices, which the sender's round asks for.
module _ (p : Settings) (late : ℕ) (s : SenderState) (r : ReceiverState) (old : HasHeard r.knows.heard) (known : r.knows.known ≤ 32767) (last : last_index s ≤ 32767)
    (d : Written) (n : Nacks p d) (joined : asked_in_round p n.m s (asks_open p s)) (clean : is_clean_from late p s r ≡ true) where
  abbrev message : List Named
  message = map (named p r.knows.known) n.m.requests

  -- it is taken as the sender takes it
  taken_alike : message ≡ map (named p (last_index s)) n.m.requests
  taken_alike =
      ap (map (named p r.knows.known)) n.requests ∙ same_reading p r.knows.known (last_index s) known last n.wanted n.low
      ∙ ap (map (named p (last_index s))) (sym n.requests)

  -- what is heard then was heard before, or the message asks for it
  heard_then : (y : Want) → heard_asks (heard_whole r.knows.heard (asked_all message)) y ≡ true → (heard_asks r.knows.heard y ≡ true) ⊎ (asked_by message y ≡ true)
  heard_then y e =
      by (can_hear (heard_all old.0) (asked_all message)) (sym (heard_is (requests_heard old.0 message) y) ∙ ap (λ (h : Heard). heard_asks h y) (sym (nack_laws.more old.0 message))
      ∙ ap (λ (h : Heard). heard_asks (heard_whole h (asked_all message)) y) (sym old.1) ∙ e)
    where
      was : asked_by old.0 y ≡ true → heard_asks r.knows.heard y ≡ true
      was f = ap (λ (h : Heard). heard_asks h y) old.1 ∙ heard_is old.0 y ∙ f

      either : (asked_by old.0 y ≡ true) ⊎ (asked_by message y ≡ true) → (heard_asks r.knows.heard y ≡ true) ⊎ (asked_by message y ≡ true)
      either (inl f) = inl (was f)
      either (inr f) = inr f

      by : (b : Bool) → asked_by (elim b as (λ _. List Named) [ true ↦ old.0 ++ message | false ↦ old.0 ]) y ≡ true
          → (heard_asks r.knows.heard y ≡ true) ⊎ (asked_by message y ≡ true)
      by true f = either (asked_more old.0 message y f)
      by false f = inl (was f)

  overhears_clean : (is_in r n.m.instance ≡ true) → is_clean_from late p s (overheard p n.m.requests r) ≡ true
  overhears_clean inside = go r.knows.backoff
    where
      t : Knowledge
      t = record (r.knows) { heard = heard_whole r.knows.heard (asked_all message) }

      same_ids : (o : Option ℕ) → (elim o as (λ _. Bool) [ Some current ↦ current == n.m.instance | None ↦ false ]) ≡ true
          → (elim o as (λ _. Bool) [ Some current ↦ current == s.current.id | None ↦ false ]) ≡ true → (n.m.instance == s.current.id) ≡ true
      same_ids None e f = absurd (clash e)
      same_ids (Some current) e f = ap (λ (i : ℕ). i == s.current.id) (sym ((Decides-eqb current n.m.instance).0 e)) ∙ f

      hears_so : (b : Bool) → is_in r s.current.id ≡ b → is_clean_from late p s (record r { knows = t }) ≡ true
      hears_so false out = outside_clean p late s r (heard_whole r.knows.heard (asked_all message)) out clean
      hears_so true within =
          overheard_clean p late s r (heard_whole r.knows.heard (asked_all message)) (λ y there source e. asked y there source (heard_then y e)) clean
        where
          asked : (y : Want) → In y (in_window p s) → is_info_or_source (current_shapes p s) y ≡ true → (heard_asks r.knows.heard y ≡ true) ⊎ (asked_by message y ≡ true)
              → (heard_asks r.knows.heard y ≡ true) ⊎ (asks_open p s y ≡ true)
          asked y there source (inl was) = inl was
          asked y there source (inr now) =
              inr (joined (same_ids r.instance inside within) y there source (ap (λ (ns : List Named). asked_by ns y) (sym taken_alike) ∙ now))

      go : (found : Option ℕ) → is_clean_from late p s (record r { knows = elim found [ Some ends ↦ t | None ↦ r.knows ] }) ≡ true
      go None = clean
      go (Some ends) = hears_so (is_in r s.current.id) refl

-- a receiver hears what another one's tick gave
pub feed_clean : (p : Settings) (late : ℕ) (s : SenderState) (r : ReceiverState) → HasHeard r.knows.heard → r.knows.known ≤ 32767 → last_index s ≤ 32767
    → (d : Written) (f : Feed p d) → Joined p d f s → (now draw : ℕ) → is_clean_from late p s r ≡ true → is_clean_from late p s (received p r d.octets now draw) ≡ true
feed_clean p late s r old known last d (Acks is) joined now draw clean = go (decoded d.octets) is
  where
    go : (read : Result Message Refusal) → IsAckOnly read → is_clean_from late p s (message_received p now draw read r) ≡ true
    go (Ok (Ack m)) is = clean
    go (Err refusal) is = clean
    go (Ok (Info m)) is = absurd is
    go (Ok (Data m)) is = absurd is
    go (Ok (Flush m)) is = absurd is
    go (Ok (Squelch m)) is = absurd is
    go (Ok (Eot m)) is = absurd is
    go (Ok (RepairAdv m)) is = absurd is
    go (Ok (AckReq m)) is = absurd is
    go (Ok (Opaque m)) is = absurd is
    go (Ok (Nack m)) is = absurd is
    go (Ok (Report m)) is = absurd is
feed_clean p late s r old known last d (Asks n) joined now draw clean =
    subst (λ (read : Result Message Refusal). is_clean_from late p s (message_received p now draw read r) ≡ true) (sym n.read)
    (go (nack_counts p n.m r) (λ e. e))
  where
    inside : nack_counts p n.m r ≡ true → is_in r n.m.instance ≡ true
    inside e = (both (not (n.m.source == r.node) && n.m.sender == p.sender) (is_in r n.m.instance) e).1

    go : (b : Bool) → (b ≡ true → nack_counts p n.m r ≡ true) → is_clean_from late p s (elim b as (λ _. ReceiverState) [ true ↦ overheard p n.m.requests r | false ↦ r ]) ≡ true
    go true counts = overhears_clean p late s r old known last d n joined clean (inside (counts refl))
    go false counts = clean
