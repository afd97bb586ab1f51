use Rattle.std.proofs.Common.{◌+◌, ◌<◌, ◌∙◌, refl, ap, arith, length}
use Rattle.rx_hold.specs.Seats.{counted}
use Rattle.rx_hold.proofs.ChangeLemmas.{on_err}
use Rattle.rx_hold.proofs.PutLemmas.{may_offer, offered_sound, offered_stands, offered_word, refused_sound, refused_view}
use Rattle.rx_hold.proofs.front.Front.offer.Goals as goal

pub offer_at-requires-clause-may : goal.offer_at-requires-clause-may
offer_at-requires-clause-may c =
    may_offer c.args.self.now c.args.place c.args.id.block c.args.solver.now c.args.stream_solver.now c.requires.front c.requires.room c.requires.reached c.requires.solver c.requires.stream_solver

pub returns-in_err-word-clause-sound : goal.returns-in_err-word-clause-sound
returns-in_err-word-clause-sound c =
    refused_sound c.args.self.now _ c.args.place c.requires.front
    (record { profile = refl; point = refl; ring_room = c.offer_at.ensures.capacity; taken = refl; ups = refl; lost = refl }) c.in_err-word.ensures.refused refl

pub returns-in_err-word-clause-refused : goal.returns-in_err-word-clause-refused
returns-in_err-word-clause-refused c =
    on_err _ _ c.from_residual.result _ (refused_view c.args.self.now (record { profile = c.args.self.now.profile; point = c.args.self.now.point; ring = c.offer_at.new.ring; taken = c.args.self.now.taken; waiting = c.args.self.now.waiting; ups = c.args.self.now.ups; lost = c.args.self.now.lost })
    c.args.place (record { profile = refl; point = refl; ring_room = c.offer_at.ensures.capacity; taken = refl; ups = refl; lost = refl }) c.in_err-word.ensures.refused)

pub returns-clause-sound : goal.returns-clause-sound
returns-clause-sound c =
    offered_sound c.args.self.now _ c.args.place c.args.id.block c.args.id.symbol c.args.payload.now c.in_ok-word.word c.requires.front
    (record { profile = refl; point = refl; ring_room = c.offer_at.ensures.capacity; taken = refl; ups = refl; lost = refl }) c.requires.room
    (omega (arith, c.requires.place, c.requires.front.places)) c.in_ok-word.ensures.items
    (ap (λ n. c.args.self.now.waiting + n) (c.counted.ensures ∙ ap (λ stream. counted stream c.in_ok-word.word) c.is_stream_at-is_stream.ensures))

pub returns-clause-state : goal.returns-clause-state
returns-clause-state c = λ s stands.
    let f = c.args.self.now in
    let lt : c.args.place < length f.ring.items = omega (arith, c.requires.place, c.requires.front.places) in (
      offered_word f s (f.point + c.args.place) c.args.place c.requires.front stands refl lt c.args.id.block c.args.id.symbol c.args.payload.now c.in_ok-word.word c.requires.reached c.in_ok-word.ensures.word,
      offered_stands f s (f.point + c.args.place) c.args.place c.requires.front stands refl lt (record { profile = c.args.self.now.profile; point = c.args.self.now.point; ring = c.offer_at.new.ring; taken = c.args.self.now.taken; waiting = c.args.self.now.waiting + c.counted.result; ups = c.args.self.now.ups; lost = c.args.self.now.lost }) c.args.id.block c.args.id.symbol c.args.payload.now c.in_ok-word.word c.requires.reached
          (record { profile = refl; point = refl; ring_room = c.offer_at.ensures.capacity; taken = refl; ups = refl; lost = refl }) c.in_ok-word.ensures.items c.in_ok-word.ensures.word,
    )
