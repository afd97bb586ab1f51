-- A tick has no octets.
use Rattle.std.proofs.Common.{refl}
use Rattle.norm_journal.specs.declared.event.Event.TheVariants as event
use Rattle.norm_record.specs.declared.entry.Entry.TheVariants as entry
use Rattle.norm_record.proofs.CountedLemmas.{counts_stay}
use Rattle.norm_record.proofs.HandLemmas.{hands_stay}
use Rattle.norm_record.proofs.PushLemmas.{quiet}
use Rattle.norm_record.proofs.journal.Journal.push_tick.Goals as goal

pub invariant_of-self-2 : goal.invariant_of-self-2
invariant_of-self-2 c =
    let k = quiet (record { offers = c.self.inside.offers; apart = c.self.inside.apart; ups = c.self.inside.ups; rares = c.self.inside.rares.items; turns = c.self.inside.turns.items })
    c.self.inside.entries.items c.push.new.self.items (entry.Tick c.args.node c.args.sent) (event.Tick c.args.node c.args.sent) c.self.invariant.0 c.in_ok-push.ensures.items tt refl refl refl in
    (k.0, hands_stay _ _ _ _ (event.Tick c.args.node c.args.sent) k.1 refl c.self.invariant.1, counts_stay _ _ _ (event.Tick c.args.node c.args.sent) k.1 refl refl c.self.invariant.2)
