-- A hand-up is the latest with its name, or is kept.
use Rattle.std.proofs.Common.{refl, ◌∙◌, ap, ◌++◌, ◌∷◌, []}
use Rattle.norm_journal.specs.declared.event.Event.TheVariants as event
use Rattle.norm_record.specs.declared.entry.Entry.TheVariants as entry
use Rattle.norm_record.proofs.CountedLemmas.{counts_stay}
use Rattle.norm_record.proofs.HandLemmas.{known_hand, new_hand}
use Rattle.norm_record.proofs.PushLemmas.{same_up_joins, up_joins}
use Rattle.norm_record.proofs.journal.Journal.push_up.Goals as goal

pub invariant_of-self-in-Some : goal.invariant_of-self-in-Some
invariant_of-self-in-Some c =
    let k = same_up_joins (record { offers = c.self.inside.offers; apart = c.self.inside.apart; ups = c.self.inside.ups; rares = c.self.inside.rares.items; turns = c.self.inside.turns.items })
    c.self.inside.entries.items c.push_reserved.new.self.items c.args.node (record { instance = c.args.instance; up = c.args.up }) c.in-Some.at c.self.invariant.0 c.in-Some.ensures.found
    (c.push_reserved.ensures.items ∙ ap (λ es. es ++ entry.Up c.args.node c.in-Some.at ∷ []) c.reserve.ensures.items) in (
      k.0,
      known_hand _ _ _ _ _ c.args.node c.in-Some.at (record { instance = c.args.instance; up = c.args.up }) c.in-Some.ensures.found (c.push_reserved-in-Some.ensures.items ∙ ap (λ hs. hs ++ record { node = c.args.node; at = c.in-Some.at } ∷ []) c.reserve-2.ensures.items) k.1 c.self.invariant.1,
      counts_stay _ _ _ (event.Up c.args.node c.args.instance c.args.up) k.1 refl refl c.self.invariant.2,
    )

pub returns-in-Some : goal.returns-in-Some
returns-in-Some c =
    (same_up_joins (record { offers = c.self.inside.offers; apart = c.self.inside.apart; ups = c.self.inside.ups; rares = c.self.inside.rares.items; turns = c.self.inside.turns.items })
    c.self.inside.entries.items c.push_reserved.new.self.items c.args.node (record { instance = c.args.instance; up = c.args.up }) c.in-Some.at c.self.invariant.0 c.in-Some.ensures.found
    (c.push_reserved.ensures.items ∙ ap (λ es. es ++ entry.Up c.args.node c.in-Some.at ∷ []) c.reserve.ensures.items)).1
    ∙ ap (λ old. old ++ event.Up c.args.node c.args.instance c.args.up ∷ []) c.self.view_is

pub invariant_of-self-2 : goal.invariant_of-self-2
invariant_of-self-2 c =
    let k = up_joins (record { offers = c.self.inside.offers; apart = c.self.inside.apart; ups = c.self.inside.ups; rares = c.self.inside.rares.items; turns = c.self.inside.turns.items })
    c.self.inside.entries.items c.push_reserved-2.new.self.items c.keep.new.self c.args.node (record { instance = c.args.instance; up = c.args.up }) c.in_ok-at.at c.self.invariant.0
    c.in_default.ensures.latest c.in_ok-at.ensures.kept c.in_ok-at.ensures.place
    (c.push_reserved-2.ensures.items ∙ ap (λ es. es ++ entry.Up c.args.node c.in_ok-at.at ∷ []) c.reserve.ensures.items) in (
      k.0,
      new_hand _ _ _ _ _ _ c.args.node c.in_ok-at.at (record { instance = c.args.instance; up = c.args.up }) c.in_ok-at.ensures.kept c.in_ok-at.ensures.place (c.push_reserved-3.ensures.items ∙ ap (λ hs. hs ++ record { node = c.args.node; at = c.in_ok-at.at } ∷ []) c.reserve-2.ensures.items) k.1 c.self.invariant.1,
      counts_stay _ _ _ (event.Up c.args.node c.args.instance c.args.up) k.1 refl refl c.self.invariant.2,
    )

pub returns : goal.returns
returns c =
    (up_joins (record { offers = c.self.inside.offers; apart = c.self.inside.apart; ups = c.self.inside.ups; rares = c.self.inside.rares.items; turns = c.self.inside.turns.items })
    c.self.inside.entries.items c.push_reserved-2.new.self.items c.keep.new.self c.args.node (record { instance = c.args.instance; up = c.args.up }) c.in_ok-at.at c.self.invariant.0
    c.in_default.ensures.latest c.in_ok-at.ensures.kept c.in_ok-at.ensures.place
    (c.push_reserved-2.ensures.items ∙ ap (λ es. es ++ entry.Up c.args.node c.in_ok-at.at ∷ []) c.reserve.ensures.items)).1
    ∙ ap (λ old. old ++ event.Up c.args.node c.args.instance c.args.up ∷ []) c.self.view_is
