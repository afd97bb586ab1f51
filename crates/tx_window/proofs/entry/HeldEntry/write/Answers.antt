use Rattle.std.proofs.Common.{[], ◌∷◌, length, sym, subst}
use Rattle.norm_order.specs.Entries.{Write}
use Rattle.norm_order.specs.Segments.{written}
use Rattle.tx_window.specs.EntryState.{StandsFor, reads_of}
use Rattle.tx_window.specs.EntryGrowing.{EntryGoesOn}
use Rattle.tx_window.specs.declared.entry.HeldEntry.{HeldEntry}
use Rattle.tx_window.specs.declared.entry.HeldEntry.TheVariants as held
use Rattle.tx_window.proofs.EntryGrowth.{entry_goes}
use Rattle.tx_window.proofs.entry.HeldEntry.write.Goals as goal

pub returns-in-Stream-clause-answer : goal.returns-in-Stream-clause-answer
returns-in-Stream-clause-answer c = λ ring object s by is past.
    let p = c.args.profile.now in
    let more = Write by c.args.bytes.now ∷ [] in
    subst (λ (e : HeldEntry). EntryGoesOn ring p c.args.index object s more c.args.before (λ parts. length (written parts)) e (held.Stream c.write_to.new.stream) c.write_to.result) (sym c.in-Stream.is)
    (entry_goes ring p c.args.index object s more c.args.before (λ parts. length (written parts)) c.in-Stream.stream c.write_to.new.stream c.write_to.result
    (subst (StandsFor (reads_of ring p c.args.index object s)) c.in-Stream.is is) (λ parts knows. c.write_to.ensures.answer s parts by knows past))
