use Rattle.std.proofs.Common.{[], ◌∷◌, sym, subst}
use Rattle.norm_order.specs.Entries.{End}
use Rattle.tx_window.specs.EntryState.{StandsFor, reads_of}
use Rattle.tx_window.specs.EntryGrowing.{EntryGoesOn}
use Rattle.tx_window.specs.declared.entry.HeldEntry.{HeldEntry}
use Rattle.tx_window.specs.declared.entry.HeldEntry.TheVariants as held
use Rattle.tx_window.proofs.EntryGrowth.{entry_goes}
use Rattle.tx_window.proofs.entry.HeldEntry.close.Goals as goal

pub returns-in-Stream-clause-answer : goal.returns-in-Stream-clause-answer
returns-in-Stream-clause-answer c = λ ring object s is past.
    let p = c.args.profile.now in
    subst (λ (e : HeldEntry). EntryGoesOn ring p c.args.index object s (End ∷ []) c.args.before (λ parts. tt) e (held.Stream c.close.new.stream) c.close.result) (sym c.in-Stream.is)
    (entry_goes ring p c.args.index object s (End ∷ []) c.args.before (λ parts. tt) c.in-Stream.stream c.close.new.stream c.close.result
    (subst (StandsFor (reads_of ring p c.args.index object s)) c.in-Stream.is is) (λ parts knows. c.close.ensures.answer s parts knows past))
