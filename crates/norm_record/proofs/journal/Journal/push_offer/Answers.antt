-- An offer is kept once.
use Rattle.std.proofs.Common.{refl, ◌∙◌, ap, ◌++◌, ◌∷◌, []}
use Rattle.norm_journal.specs.declared.event.Event.TheVariants as event
use Rattle.norm_record.specs.declared.entry.Entry.TheVariants as entry
use Rattle.norm_record.proofs.CountedLemmas.{counts_stay}
use Rattle.norm_record.proofs.HandLemmas.{hands_stay}
use Rattle.norm_record.proofs.PushLemmas.{offer_joins}
use Rattle.norm_record.proofs.journal.Journal.push_offer.Goals as goal

pub invariant_of-self-2 : goal.invariant_of-self-2
invariant_of-self-2 c =
    let k = offer_joins (record { offers = c.self.inside.offers; apart = c.self.inside.apart; ups = c.self.inside.ups; rares = c.self.inside.rares.items; turns = c.self.inside.turns.items })
    c.self.inside.entries.items c.push_reserved.new.self.items c.keep.new.self c.args.from c.args.octets.now c.in_ok-at.at c.self.invariant.0
    c.in_ok-at.ensures.kept c.in_ok-at.ensures.place
    (c.push_reserved.ensures.items ∙ ap (λ es. es ++ entry.Offer c.args.from c.in_ok-at.at ∷ []) c.reserve.ensures.items) in
    (k.0, hands_stay _ _ _ _ (event.Offer c.args.from c.args.octets.now) k.1 refl c.self.invariant.1, counts_stay _ _ _ (event.Offer c.args.from c.args.octets.now) k.1 refl refl c.self.invariant.2)

pub returns : goal.returns
returns c =
    (offer_joins (record { offers = c.self.inside.offers; apart = c.self.inside.apart; ups = c.self.inside.ups; rares = c.self.inside.rares.items; turns = c.self.inside.turns.items })
    c.self.inside.entries.items c.push_reserved.new.self.items c.keep.new.self c.args.from c.args.octets.now c.in_ok-at.at c.self.invariant.0
    c.in_ok-at.ensures.kept c.in_ok-at.ensures.place
    (c.push_reserved.ensures.items ∙ ap (λ es. es ++ entry.Offer c.args.from c.in_ok-at.at ∷ []) c.reserve.ensures.items)).1
    ∙ ap (λ old. old ++ event.Offer c.args.from c.args.octets.now ∷ []) c.self.view_is
