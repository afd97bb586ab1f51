use Rattle.std.proofs.Common.{List, ap, ◌++◌, ◌∙◌}
use Rattle.norm_ext.specs.Asking.{Span, named, named_spans, asked_spans}
use Rattle.norm_ext.specs.RequestView.{request_of}
use Rattle.norm_receive_rules.specs.Heard.{Heard, asked_infos}
use Rattle.rx_heard.specs.Overhearing.{with_spans, with_named, naming}
use Rattle.rx_heard.specs.declared.overhearing.Width.TheVariants as width
use Rattle.rx_heard.proofs.OverhearingLemmas.{from_buffer}
use Rattle.rx_heard.proofs.asked.Asked.read_once.Goals as goal

pub returns : goal.returns
returns c =
    from_buffer (record { symbols = c.self.inside.symbols.items; infos = c.self.inside.infos.items; counts = c.self.inside.counts.items })
    (named c.args.profile.now c.args.known (request_of c.args.request.now)) c.hear_named.new.spans.items c.note_symbols.new.spans.items c.note_infos.new.spans.items
    (c.in_ok-hear_named.ensures
    ∙ ap (λ (spans : List Span). with_spans width.Symbols spans (named_spans (named c.args.profile.now c.args.known (request_of c.args.request.now)))) c.clear.ensures.items)
    (c.in_ok-note_symbols.ensures ∙ ap (λ (spans : List Span). c.self.inside.symbols.items ++ asked_spans (naming c.args.request.now.flags spans)) c.as_slice.ensures.value)
    (c.in_ok-note_infos.ensures ∙ ap (λ (spans : List Span). c.self.inside.infos.items ++ asked_infos (naming c.args.request.now.flags spans)) c.as_slice-2.ensures.value)
    ∙ ap (λ (heard : Heard). with_named heard (named c.args.profile.now c.args.known (request_of c.args.request.now))) c.self.view_is
