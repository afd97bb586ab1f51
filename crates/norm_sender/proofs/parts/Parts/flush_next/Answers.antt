use Rattle.std.proofs.Common.{ap, arith}
use Rattle.norm_send_rules.specs.Watermarks.{oldest}
use Rattle.norm_send_rules.specs.Flushing.{flushes_for}
use Rattle.mark_book.specs.declared.watermark.OpenWatermark.{OpenWatermark}
use Rattle.norm_sender.specs.Inside.{kept_of}
use Rattle.norm_sender.proofs.FlushingLemmas.{none_open, some_open}
use Rattle.norm_sender.proofs.parts.Parts.flush_next.Goals as goal

pub returns-clause-stands : goal.returns-clause-stands
returns-clause-stands c s h anew =
    let k = kept_of c.args.self.now in
    some_open (kept_of c.flush_for.new.self) c.flush_for.new.out c.flush_for.result s (λ w. flushes_for k.p c.args.now w s) (oldest s) c.in-Some.oldest
    (c.in-Some.ensures k.p s h.book)
    (λ w is found. let none = anew w found in c.flush_for.ensures.stands s w h (ap (λ (o : OpenWatermark). o.at) is) (omega arith))

pub returns-in_default-clause-stands : goal.returns-in_default-clause-stands
returns-in_default-clause-stands c s h anew =
    let k = kept_of c.args.self.now in
    let found = c.oldest.ensures k.p s h.book in
    none_open k c.args.out.now s (λ w. flushes_for k.p c.args.now w s) (oldest s) (cc (c.in_default.is, found)) h
