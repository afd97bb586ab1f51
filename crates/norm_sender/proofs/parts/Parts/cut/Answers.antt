use Rattle.std.proofs.Common.{ap, sym, subst, arith}
use Rattle.norm_send_rules.specs.SenderState.{SenderState}
use Rattle.norm_send_rules.specs.Streaming.{cut}
use Rattle.norm_send_rules.specs.Enqueuing.{open_stream}
use Rattle.stream_buffer.specs.StreamState.{with_cut}
use Rattle.tx_window.specs.Asked.{IsOpenAt}
use Rattle.tx_window.proofs.StreamLemmas.{cut_none, open_is}
use Rattle.norm_sender.specs.Inside.{kept_of}
use Rattle.norm_sender.specs.SenderKept.{SenderKept}
use Rattle.norm_sender.specs.SenderMoves.{IsBehind}
use Rattle.norm_sender.specs.declared.parts.Parts.{Parts}
use Rattle.norm_sender.proofs.StreamingLemmas.{cut_goes, cut_behind}
use Rattle.norm_sender.proofs.parts.Parts.cut.Goals as goal

pub cut-requires : goal.cut-requires
cut-requires c = c.requires.behind.filling

pub grow-requires : goal.grow-requires
grow-requires c =
    let k = kept_of c.args.self.now in
    let r = c.requires in
    let opened = subst (IsOpenAt r.state) c.in-Some.is (c.open_index.ensures r.state r.behind.window) in
    let was = open_is (open_stream r.state) opened.0 in
    record {
      state = r.state;
      parts = with_cut k.p.e was.0;
      goes = cut_goes k c.cut.new.self r.state r.ahead was.0 r.behind was.1 (omega (arith, c.hold_range.ensures.e.0)) c.cut.ensures.profile
          (c.cut.ensures.stands r.state r.behind.window);
      place = opened.1;
    }

pub returns-in_default-clause-stands : goal.returns-in_default-clause-stands
returns-in_default-clause-stands c s t h =
    let k = kept_of c.args.self.now in
    let none = subst (IsOpenAt s) c.in_default.is (c.open_index.ensures s h.window) in
    subst (λ (x : SenderState). IsBehind k x t) (sym (cut_none k.p s none)) h

pub returns-clause-stands : goal.returns-clause-stands
returns-clause-stands c s t h =
    let k = kept_of c.args.self.now in
    let w = c.cut.new.self in
    let opened = subst (IsOpenAt s) c.in-Some.is (c.open_index.ensures s h.window) in
    let was = open_is (open_stream s) opened.0 in
    let stands = c.cut.ensures.stands s h.window in
    let goes = cut_goes k w s t was.0 h was.1 (omega (arith, c.hold_range.ensures.e.0)) c.cut.ensures.profile stands in
    subst (λ (q : SenderKept). IsBehind q (cut k.p s) t) (sym (ap (λ (x : Parts). kept_of x) c.grow.ensures.rest))
    (cut_behind k w c.grow.new.self.union s t was.0 h was.1 c.cut.ensures.profile c.cut.ensures.finished c.grow.ensures.profile stands
    (c.grow.ensures.union s (with_cut k.p.e was.0) goes))
