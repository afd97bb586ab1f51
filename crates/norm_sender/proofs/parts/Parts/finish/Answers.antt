use Rattle.std.proofs.Common.{◌≡◌, ◌∙◌, length, Option, subst}
use Rattle.std.specs.Prelude.{MatchOption}
use Rattle.tx_window.specs.Taking.{room_made}
use Rattle.tx_window.specs.WindowState.{Filling}
use Rattle.norm_sender.specs.Inside.{kept_of}
use Rattle.norm_sender.proofs.EnqueuingLemmas.{finished}
use Rattle.norm_sender.proofs.parts.Parts.finish.Goals as goal

pub returns-clause-stands : goal.returns-clause-stands
returns-clause-stands c s by f h =
    let k = kept_of c.args.self.now in
    let room = room_made k.p f.len s in
    let long : length f.octets ≡ f.len = subst (λ (o : Option Filling). MatchOption o ⊥ (λ (g : Filling). length g.octets ≡ g.len)) h.filling c.requires in
    finished k c.finish-index.new.self s by f c.finish-index.result c.from-len.result h long c.finish-index.ensures.profile c.finish-index.ensures.finished
    (c.finish-index.ensures.stands room by f h.window h.filling) (c.finish-index.ensures.index room h.window) (c.from-len.ensures ∙ c.begun_len.ensures f h.filling)
