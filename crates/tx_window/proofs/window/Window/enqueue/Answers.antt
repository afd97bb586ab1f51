use Rattle.std.proofs.Common.{◌≡◌, ap, sym, subst, ◌∙◌, Some, ℕ, List, [], length, Ok, Option}
use Rattle.std.specs.Prelude.{MatchOption, Result}
use Rattle.norm_order.specs.Entries.{Whole}
use Rattle.norm_send_rules.specs.SenderState.{SenderState}
use Rattle.norm_send_rules.specs.Enqueuing.{with_entry}
use Rattle.norm_send_rules.specs.declared.job.Receipt.{Receipt}
use Rattle.norm_send_rules.specs.declared.fault.EnqueueFault.{EnqueueFault}
use Rattle.norm_send_rules.specs.declared.job.Receipt.TheVariants.{Object as EnqueuedObject}
use Rattle.tx_window.specs.WindowState.{Filling, Stands}
use Rattle.tx_window.specs.Taking.{room_made, with_piece}
use Rattle.tx_window.proofs.FaultLemmas.{enqueued_is}
use Rattle.tx_window.proofs.window.Window.enqueue.Goals as goal

-- the object as it was begun
abbrev first : goal.After-finish-arg-1 → Filling
first c = record { kind = c.args.kind; info = c.args.info; len = length c.bytes-2.result.now; octets = [] }

full : (c : goal.After-finish-arg-1) → c.fill.new.self.filling ≡ Some (with_piece c.bytes-in-Ok.result.now (first c))
full c = c.fill.ensures.filling (first c) c.in-Ok.ensures.begun

same : (c : goal.After-finish-arg-1) → c.bytes-in-Ok.result.now ≡ c.bytes-2.result.now
same c = c.bytes-in-Ok.ensures ∙ sym c.bytes-2.ensures

pub finish-requires : goal.finish-requires
finish-requires c =
    subst (λ (r : Option Filling). MatchOption r ⊥ (λ f. length f.octets ≡ f.len)) (sym (full c)) (ap length (same c))

pub returns-in-Ok-clause-enqueued : goal.returns-in-Ok-clause-enqueued
returns-in-Ok-clause-enqueued c = λ s by stands.
    let p = c.args.self.now.p in
    let bytes = c.args.bytes in
    let len = ap length c.bytes-2.ensures in
    let room : SenderState = room_made p (length c.bytes-2.result.now) s in
    let first : Filling = record { kind = c.args.kind; info = c.args.info; len = length c.bytes-2.result.now; octets = [] } in
    let filled = c.fill.ensures.filling first c.in-Ok.ensures.begun in
    let f : Filling = record { kind = c.args.kind; info = c.args.info; len = length c.bytes-2.result.now; octets = c.bytes-in-Ok.result.now } in
    let here : Stands c.fill.new.self room = c.fill.ensures.stands room (c.in-Ok.ensures.stands s stands) in
    let joined = c.finish.ensures.stands room by f here filled in
    let free = c.in-Ok.ensures.free s bytes stands (sym len) in
    let is = enqueued_is p s by c.args.kind c.args.info bytes free in
    record {
      answer = ap (λ (x : SenderState × Result Receipt EnqueueFault). x.1) is ∙ ap (λ i. Ok (EnqueuedObject i (length bytes))) (sym (c.finish.ensures.index room here));
      stands = subst (λ (t : SenderState). Stands c.finish.new.self t) (sym (ap (λ (x : SenderState × Result Receipt EnqueueFault). x.0) is))
          (subst (λ n. Stands c.finish.new.self (with_entry (record { by = by; object = Whole c.args.kind c.args.info bytes }) (room_made p n s))) len
          (subst (λ (xs : List ℕ). Stands c.finish.new.self (with_entry (record { by = by; object = Whole c.args.kind c.args.info xs }) room)) c.bytes-in-Ok.ensures joined));
    }

pub returns-in-Ok-clause-profile : goal.returns-in-Ok-clause-profile
returns-in-Ok-clause-profile c = c.finish.ensures.profile ∙ c.fill.ensures.profile ∙ c.begin.ensures.profile
