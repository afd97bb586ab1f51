-- A take is of the latest offer with its name, or is kept apart.
use Rattle.std.proofs.Common.{refl, ◌∙◌, ap, ◌++◌, ◌∷◌, [], arith}
use Rattle.std.proofs.lemmas.Grind.{common_steps}
use Rattle.norm_journal.specs.declared.event.Event.TheVariants as event
use Rattle.norm_record.specs.declared.entry.Entry.TheVariants as entry
use Rattle.norm_record.proofs.CountedLemmas.{counts_stay}
use Rattle.norm_record.proofs.HandLemmas.{hands_stay}
use Rattle.norm_record.proofs.PushLemmas.{take_joins, apart_joins}
use Rattle.norm_record.proofs.journal.Journal.push_took.Goals as goal

pub invariant_of-self-in-Some : goal.invariant_of-self-in-Some
invariant_of-self-in-Some c =
    let k = take_joins (record { offers = c.self.inside.offers; apart = c.self.inside.apart; ups = c.self.inside.ups; rares = c.self.inside.rares.items; turns = c.self.inside.turns.items })
    c.self.inside.entries.items c.push_reserved.new.self.items c.args.to c.args.octets.now c.in-Some.at c.self.invariant.0 c.in-Some.ensures.found
    (c.push_reserved.ensures.items ∙ ap (λ es. es ++ entry.Took c.args.to c.in-Some.at ∷ []) c.reserve.ensures.items) in
    (k.0, hands_stay _ _ _ _ (event.Took c.args.to c.args.octets.now) k.1 refl c.self.invariant.1, counts_stay _ _ _ (event.Took c.args.to c.args.octets.now) k.1 refl refl c.self.invariant.2)

pub returns-in-Some : goal.returns-in-Some
returns-in-Some c =
    (take_joins (record { offers = c.self.inside.offers; apart = c.self.inside.apart; ups = c.self.inside.ups; rares = c.self.inside.rares.items; turns = c.self.inside.turns.items })
    c.self.inside.entries.items c.push_reserved.new.self.items c.args.to c.args.octets.now c.in-Some.at c.self.invariant.0 c.in-Some.ensures.found
    (c.push_reserved.ensures.items ∙ ap (λ es. es ++ entry.Took c.args.to c.in-Some.at ∷ []) c.reserve.ensures.items)).1
    ∙ ap (λ old. old ++ event.Took c.args.to c.args.octets.now ∷ []) c.self.view_is

pub invariant_of-self-2 : goal.invariant_of-self-2
invariant_of-self-2 c =
    let k = apart_joins (record { offers = c.self.inside.offers; apart = c.self.inside.apart; ups = c.self.inside.ups; rares = c.self.inside.rares.items; turns = c.self.inside.turns.items })
    c.self.inside.entries.items c.push_reserved-2.new.self.items c.keep.new.self c.args.to c.args.octets.now c.in-Ok.at c.self.invariant.0
    c.in_default.ensures.latest c.in_ok-keep.ensures.kept (grind (arith, common_steps))
    (c.push_reserved-2.ensures.items ∙ ap (λ es. es ++ entry.Apart c.args.to c.in-Ok.at ∷ []) c.reserve.ensures.items) in
    (k.0, hands_stay _ _ _ _ (event.Took c.args.to c.args.octets.now) k.1 refl c.self.invariant.1, counts_stay _ _ _ (event.Took c.args.to c.args.octets.now) k.1 refl refl c.self.invariant.2)

pub returns : goal.returns
returns c =
    (apart_joins (record { offers = c.self.inside.offers; apart = c.self.inside.apart; ups = c.self.inside.ups; rares = c.self.inside.rares.items; turns = c.self.inside.turns.items })
    c.self.inside.entries.items c.push_reserved-2.new.self.items c.keep.new.self c.args.to c.args.octets.now c.in-Ok.at c.self.invariant.0
    c.in_default.ensures.latest c.in_ok-keep.ensures.kept (grind (arith, common_steps))
    (c.push_reserved-2.ensures.items ∙ ap (λ es. es ++ entry.Apart c.args.to c.in-Ok.at ∷ []) c.reserve.ensures.items)).1
    ∙ ap (λ old. old ++ event.Took c.args.to c.args.octets.now ∷ []) c.self.view_is
