-- A rare event is kept whole.
use Rattle.std.proofs.Common.{refl, ◌∙◌, ap, ◌++◌, ◌∷◌, [], arith}
use Rattle.std.proofs.lemmas.Grind.{common_steps}
use Rattle.norm_record.specs.declared.entry.Entry.TheVariants as entry
use Rattle.norm_record.specs.Events.{rare_event}
use Rattle.norm_record.proofs.CountedLemmas.{counts_join}
use Rattle.norm_record.proofs.HandLemmas.{hands_stay, rare_hands}
use Rattle.norm_record.proofs.PushLemmas.{rare_joins}
use Rattle.norm_record.proofs.journal.Journal.push_rare.Goals as goal

pub invariant_of-self-2 : goal.invariant_of-self-2
invariant_of-self-2 c =
    let k = rare_joins (record { offers = c.self.inside.offers; apart = c.self.inside.apart; ups = c.self.inside.ups; rares = c.self.inside.rares.items; turns = c.self.inside.turns.items })
    c.self.inside.entries.items c.push_reserved.new.self.items c.push.new.self.items c.args.rare c.in-Ok.at c.self.invariant.0 c.in_ok-push.ensures.items
    (grind (arith, common_steps)) (c.push_reserved.ensures.items ∙ ap (λ es. es ++ entry.Rare c.in-Ok.at ∷ []) c.reserve.ensures.items) in (
      k.0,
      hands_stay _ _ _ _ (rare_event c.args.rare) k.1 (rare_hands c.args.rare) c.self.invariant.1,
      counts_join _ c.in-Some.counted _ _ (rare_event c.args.rare) k.1 c.in-Some.ensures c.self.invariant.2,
    )

pub returns : goal.returns
returns c =
    (rare_joins (record { offers = c.self.inside.offers; apart = c.self.inside.apart; ups = c.self.inside.ups; rares = c.self.inside.rares.items; turns = c.self.inside.turns.items })
    c.self.inside.entries.items c.push_reserved.new.self.items c.push.new.self.items c.args.rare c.in-Ok.at c.self.invariant.0 c.in_ok-push.ensures.items
    (grind (arith, common_steps)) (c.push_reserved.ensures.items ∙ ap (λ es. es ++ entry.Rare c.in-Ok.at ∷ []) c.reserve.ensures.items)).1
    ∙ ap (λ old. old ++ rare_event c.args.rare ∷ []) c.self.view_is
