-- A tick, over what a sender keeps.
use Rattle.std.proofs.Common.{◌≡◌, ◌∙◌, ℕ, List, [], ◌∷◌, Bool, true, false, Option, Some, None, sym, subst, ap}
use Rattle.std.specs.Prelude.{nat_lt}
use Rattle.norm_base.specs.Settings.{Settings, InRange}
use Rattle.norm_base.specs.declared.kinds.Sent.{Sent}
use Rattle.norm_base.specs.declared.kinds.Sent.TheVariants.{Datagram}
use Rattle.norm_ext.specs.Message.{Squelch}
use Rattle.norm_ext.specs.ObjectIds.{object_id}
use Rattle.norm_ext.specs.Octets.{octets_of}
use Rattle.norm_ext.specs.Written.{Written, writes}
use Rattle.norm_send_rules.specs.SenderState.{SenderState}
use Rattle.std.specs.List.{AllByRecursion}
use Rattle.norm_send_rules.specs.Laws.{WantsHold, is_of_order}
use Rattle.norm_send_rules.specs.InWindow.{stands_behind, current_shapes}
use Rattle.norm_send_rules.specs.Wants.{want_index}
use Rattle.nack_union.specs.UnionState.{UnionState, Stands as UnionStands}
use Rattle.norm_send_rules.specs.Messages.{squelch_message}
use Rattle.norm_send_rules.specs.Sending.{sends, sends_new, next_new, behind, sends_want, repairs_next, repair_flags, object_of, message_of, noted}
use Rattle.norm_send_rules.specs.Flushing.{flushes}
use Rattle.norm_send_rules.specs.Ticking.{closed_where_due, sends_first, sends_wanted, sends_further}
use Rattle.norm_send_rules.specs.declared.want.Want.{Want}
use Rattle.norm_send_rules.proofs.StepLemmas.{due_holds}
use Rattle.norm_send_rules.proofs.ShapeLemmas.{blocks_of}
use Rattle.norm_sender.specs.declared.pace.Pace.{Pace}
use Rattle.norm_sender.specs.Heads.{command_front}
use Rattle.norm_sender.specs.SenderKept.{SenderKept, Agrees}
use Rattle.norm_sender.specs.SenderMoves.{IsSent}
use Rattle.norm_sender.specs.Wanted.{spent, IsValid}

pub closed_wants : (p : Settings) → InRange p → (now : ℕ) (s : SenderState) → WantsHold p s → WantsHold p (closed_where_due p now s)
closed_wants p range now s h = due_holds p (blocks_of p range) now s h

-- a squelch that is due, or else what is wanted
abbrev first_if : Settings → ℕ → SenderState → Bool → SenderState × Option Written
first_if p now s due = elim due [
  | true ↦ sends p now (writes (squelch_message p s s.current.drop) (s.current.drop.index ∷ [])) (record s { squelch_due = false })
  | false ↦ sends_wanted p now s
]

pub squelch_sent : (k : SenderKept) (out : List ℕ) (now : ℕ) (s : SenderState) (index block : ℕ) → Agrees k s → s.squelch_due ≡ true
    → index ≡ s.current.drop.index → block ≡ s.current.drop.block
    → out ≡ octets_of (Squelch (record { head = command_front k.p k.pace; object = object_id k.p index; id = record { block = block; symbol = 0 }; extensions = []; invalid = [] }))
    → IsSent (record k { pace = spent k.p now (record (k.pace) { squelch_due = false }) }) out Datagram (sends_first k.p now s)
squelch_sent k out now s index block h due index_is block_is written =
    let at_index = ap (λ (n : ℕ). octets_of (Squelch (record { head = command_front k.p k.pace; object = object_id k.p n; id = record { block = block; symbol = 0 }; extensions = []; invalid = [] }))) index_is in
    let at_block = ap (λ (n : ℕ). octets_of (Squelch (record { head = command_front k.p k.pace; object = object_id k.p s.current.drop.index; id = record { block = n; symbol = 0 }; extensions = []; invalid = [] }))) block_is in
    let with_pace = ap (λ (q : Pace). octets_of (Squelch (record { head = command_front k.p q; object = object_id k.p s.current.drop.index; id = record { block = s.current.drop.block; symbol = 0 }; extensions = []; invalid = [] }))) h.pace in
    subst (IsSent (record k { pace = spent k.p now (record (k.pace) { squelch_due = false }) }) out Datagram) (sym (ap (first_if k.p now s) due))
    (record {
      stands = record {
        window_profile = h.window_profile;
        filling = h.filling;
        union_profile = h.union_profile;
        window = h.window;
        union = h.union;
        book = h.book;
        pace = ap (λ (q : Pace). spent k.p now (record q { squelch_due = false })) h.pace;
      };
      octets = ap Some (written ∙ at_index ∙ at_block ∙ with_pace);
    })

abbrev in_time_if : Settings → ℕ → SenderState → Bool → SenderState × Option Written
in_time_if p now s early = elim early [ true ↦ (s, None) | false ↦ sends_first p now s ]

-- in time, a datagram may be sent
pub in_time : (k new : SenderKept) (out : List ℕ) (answer : Sent) (p : Settings) (now : ℕ) (s : SenderState) → Agrees k s → nat_lt now k.pace.next_send ≡ false
    → IsSent new out answer (sends_first p now s) → IsSent new out answer (elim (nat_lt now s.next_send) [ true ↦ (s, None) | false ↦ sends_first p now s ])
in_time k new out answer p now s h e sent =
    subst (IsSent new out answer) (sym (ap (in_time_if p now s) (ap (λ (q : Pace). nat_lt now q.next_send) (sym h.pace) ∙ e))) sent

abbrev further_if : Settings → ℕ → SenderState → Option Want → SenderState × Option Written
further_if p now s found = elim found [ Some w ↦ sends_new p now w s | None ↦ flushes p now s ]

pub new_sends : (k : SenderKept) (out : List ℕ) (answer : Sent) (p : Settings) (now : ℕ) (w : Want) (s : SenderState) → next_new p s ≡ Some w
    → IsSent k out answer (sends_new p now w s) → IsSent k out answer (sends_further p now s)
new_sends k out answer p now w s e sent = subst (IsSent k out answer) (sym (ap (further_if p now s) e)) sent

-- what comes behind an info or symbol is next
pub goes_on_stands : (k : SenderKept) (s : SenderState) (w next : Want) (pace : Pace) → Agrees k s → next ≡ behind w → pace ≡ record (k.pace) { next = next }
    → Agrees (record k { pace = pace }) (record s { next = behind w })
goes_on_stands k s w next pace h is becomes = record {
  window_profile = h.window_profile;
  filling = h.filling;
  union_profile = h.union_profile;
  window = h.window;
  union = h.union;
  book = h.book;
  pace =
      becomes ∙ ap (λ (n : Want). record (k.pace) { next = n }) is
      ∙ ap (λ (q : Pace). record q { next = behind w }) h.pace;
}

-- The lowest want is taken out.
pub took : (k : SenderKept) (union : UnionState) (s : SenderState) (rest : List Want) → Agrees k s → union.p ≡ k.union.p
    → UnionStands union (record s { wants = rest }) → Agrees (record k { union = union }) (record s { wants = rest })
took k union s rest h same after = record {
  window_profile = h.window_profile;
  filling = h.filling;
  union_profile = same ∙ h.union_profile;
  window = h.window;
  union = after;
  book = h.book;
  pace = h.pace;
}

pub first_valid : (p : Settings) (s : SenderState) (w : Want) (rest : List Want) → WantsHold p s → s.wants ≡ w ∷ rest → IsValid p (record s { wants = rest }) w
first_valid p s w rest hold e = record {
  of_order = (subst (λ (ws : List Want). AllByRecursion (λ want. is_of_order (current_shapes p s) want ≡ true) ws) e hold.of_order).0;
  behind = (subst (λ (ws : List Want). AllByRecursion (λ want. stands_behind s.current.drop want ≡ true) ws) e hold.in_window).0;
}

abbrev wanted_if : Settings → ℕ → SenderState → List Want → SenderState × Option Written
wanted_if p now s wants = elim wants [ [] ↦ sends_further p now s | w ∷ rest ↦ repairs_next p now w rest s ]

pub repair_sent : (k : SenderKept) (out : List ℕ) (answer : Sent) (p : Settings) (now : ℕ) (w : Want) (s : SenderState) (rest : List Want) (repair : ℕ)
    → s.wants ≡ w ∷ rest → repair ≡ repair_flags p (object_of (record s { wants = rest }) w) w
    → IsSent k out answer (sends_want p now (λ object. repair) w (record s { wants = rest })) → IsSent k out answer (sends_wanted p now s)
repair_sent k out answer p now w s rest repair e is sent =
    let t = record s { wants = rest } in
    subst (IsSent k out answer) (sym (ap (wanted_if p now s) e))
    (subst (λ (n : ℕ). IsSent k out answer (sends p now (writes (message_of p t w (object_of t w) n) (want_index w ∷ [])) (noted w t))) is sent)
