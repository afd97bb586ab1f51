use Rattle.std.proofs.Common.{◌≡◌, ◌∙◌, ℕ, List, [], length, Option, Ok, ap, sym, subst}
use Rattle.std.specs.Prelude.{MatchOption}
use Rattle.norm_base.specs.Settings.{Settings}
use Rattle.norm_send_rules.specs.Enqueuing.{enqueued}
use Rattle.tx_window.specs.Taking.{with_piece}
use Rattle.tx_window.specs.WindowState.{Filling}
use Rattle.norm_sender.specs.Inside.{kept_of}
use Rattle.norm_sender.specs.SenderKept.{Agrees}
use Rattle.norm_sender.proofs.parts.Parts.enqueue.Goals as goal

-- the object as it was begun
abbrev first : goal.After-finish-arg-1 → Filling
first c = record { kind = c.args.kind; info = c.args.info; len = length c.bytes-2.result.now; octets = [] }

pub finish-requires : goal.finish-requires
finish-requires c =
    subst (λ (o : Option Filling). MatchOption o ⊥ (λ (f : Filling). length f.octets ≡ f.len)) (sym (c.fill.ensures.filling (first c) c.in-Ok.ensures.filling))
    (ap length (c.bytes-in-Ok.ensures ∙ sym c.bytes-2.ensures))

pub returns-in-Ok-clause-enqueued : goal.returns-in-Ok-clause-enqueued
returns-in-Ok-clause-enqueued c = λ s by h.
    let new = kept_of c.finish.new.self in
    let f : Filling = record { kind = c.args.kind; info = c.args.info; len = length c.bytes-2.result.now; octets = [] } in
    let piece = c.bytes-in-Ok.result.now in
    let done = c.finish.ensures.stands s by (with_piece piece f) (c.fill.ensures.fills s f (c.in-Ok.ensures.begun s h)) in
    subst (λ (p : Settings). Agrees new (enqueued p s by c.args.kind c.args.info c.args.bytes).0 × (Ok c.finish.result ≡ (enqueued p s by c.args.kind c.args.info c.args.bytes).1))
    (c.fill.ensures.profile ∙ c.begin.ensures.profile)
    (subst (λ (xs : List ℕ). Agrees new (enqueued c.fill.new.self.profile s by c.args.kind c.args.info xs).0
    × (Ok c.finish.result ≡ (enqueued c.fill.new.self.profile s by c.args.kind c.args.info xs).1)) c.bytes-in-Ok.ensures done)
