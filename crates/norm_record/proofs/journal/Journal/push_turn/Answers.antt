-- A turn is kept.
use Rattle.std.proofs.Common.{refl, ◌∙◌, ap, ◌++◌, ◌∷◌, [], arith}
use Rattle.std.proofs.lemmas.Grind.{common_steps}
use Rattle.norm_journal.specs.declared.event.Event.TheVariants as event
use Rattle.norm_record.specs.declared.entry.Entry.TheVariants as entry
use Rattle.norm_record.proofs.CountedLemmas.{counts_stay}
use Rattle.norm_record.proofs.HandLemmas.{hands_stay}
use Rattle.norm_record.proofs.PushLemmas.{turn_joins}
use Rattle.norm_record.proofs.journal.Journal.push_turn.Goals as goal

pub invariant_of-self-2 : goal.invariant_of-self-2
invariant_of-self-2 c =
    let k = turn_joins (record { offers = c.self.inside.offers; apart = c.self.inside.apart; ups = c.self.inside.ups; rares = c.self.inside.rares.items; turns = c.self.inside.turns.items })
    c.self.inside.entries.items c.push_reserved.new.self.items c.push.new.self.items (record { t = c.args.t; now = c.args.now }) c.in-Ok.at c.self.invariant.0 c.in_ok-push.ensures.items
    (grind (arith, common_steps)) (c.push_reserved.ensures.items ∙ ap (λ es. es ++ entry.Turn c.in-Ok.at ∷ []) c.reserve.ensures.items) in
    (k.0, hands_stay _ _ _ _ (event.Turn c.args.t c.args.now) k.1 refl c.self.invariant.1, counts_stay _ _ _ (event.Turn c.args.t c.args.now) k.1 refl refl c.self.invariant.2)

pub returns : goal.returns
returns c =
    (turn_joins (record { offers = c.self.inside.offers; apart = c.self.inside.apart; ups = c.self.inside.ups; rares = c.self.inside.rares.items; turns = c.self.inside.turns.items })
    c.self.inside.entries.items c.push_reserved.new.self.items c.push.new.self.items (record { t = c.args.t; now = c.args.now }) c.in-Ok.at c.self.invariant.0 c.in_ok-push.ensures.items
    (grind (arith, common_steps)) (c.push_reserved.ensures.items ∙ ap (λ es. es ++ entry.Turn c.in-Ok.at ∷ []) c.reserve.ensures.items)).1
    ∙ ap (λ old. old ++ event.Turn c.args.t c.args.now ∷ []) c.self.view_is
