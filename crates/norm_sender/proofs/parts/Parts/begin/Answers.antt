use Rattle.std.proofs.Common.{◌≡◌, ◌∙◌, [], Bool, ap, sym, subst}
use Rattle.norm_base.specs.Settings.{Settings}
use Rattle.fec_plan.specs.Partition.{Cut, cut_of}
use Rattle.tx_window.specs.WindowState.{WindowState, Filling}
use Rattle.nack_union.specs.Kept.{admitted}
use Rattle.mark_book.specs.BookState.{BookState}
use Rattle.norm_sender.specs.SenderKept.{SenderKept}
use Rattle.norm_sender.specs.Filling.{Fills}
use Rattle.norm_sender.specs.Inside.{kept_of}
use Rattle.norm_sender.proofs.EnqueuingLemmas.{begun_fills, begun_onward}
use Rattle.norm_sender.proofs.parts.Parts.begin.Goals as goal

pub returns-in-Ok-begin-clause-begun : goal.returns-in-Ok-begin-clause-begun
returns-in-Ok-begin-clause-begun c s h =
    let k = kept_of c.args.self.now in
    let new = c.retire.new.self in
    let rest = c.retire.ensures.rest in
    let f : Filling = record { kind = c.args.kind; info = c.args.info; len = c.args.len; octets = [] } in
    let w = c.begin.new.self in
    let is : kept_of new ≡ record k { window = w; union = new.union; pace = new.pace } =
    ap (λ (q : Settings). record { p = q; window = new.window; union = new.union; book = new.book; pace = new.pace }) rest.0
    ∙ ap (λ (v : WindowState). record { p = k.p; window = v; union = new.union; book = new.book; pace = new.pace }) rest.1
    ∙ ap (λ (b : BookState). record { p = k.p; window = w; union = new.union; book = b; pace = new.pace }) rest.2 in
    subst (λ (v : SenderKept). Fills v s f) (sym is)
    (begun_fills k s f w (admitted c.plan_of-plan.result c.is_some.result) c.admit.new.self new.union new.pace h
    (record {
      profile = c.begin.ensures.profile;
      filling = c.in-Ok-begin.ensures.begun;
      stands = c.in-Ok-begin.ensures.stands s h.window;
      free = λ octets long. c.in-Ok-begin.ensures.free s octets h.window long;
    })
    (ap (λ (cut : Cut). admitted cut c.is_some.result) c.plan_of-plan.ensures ∙ ap (λ (b : Bool). admitted (cut_of c.args.len k.p.e k.p.b k.p.max_n) b) c.is_some.ensures)
    (record {
      admits = c.in-Ok.ensures.exact;
      joins = c.in-Ok.ensures.stands;
      retires = c.retire.ensures.exact;
      few = c.retire.ensures.few;
      drops = c.retire.ensures.union;
      due = c.retire.ensures.pace;
    }))

pub retire-requires : goal.retire-requires
retire-requires c =
    let k = kept_of c.args.self.now in
    let s = c.requires.state in
    let h = c.requires.stands in
    let f : Filling = record { kind = c.args.kind; info = c.args.info; len = c.args.len; octets = [] } in
    let w = c.begin.new.self in
    begun_onward k w s f (admitted c.plan_of-plan.result c.is_some.result) c.admit.new.self h (c.in-Ok-begin.ensures.stands s h.window)
    (ap (λ (cut : Cut). admitted cut c.is_some.result) c.plan_of-plan.ensures ∙ ap (λ (b : Bool). admitted (cut_of c.args.len k.p.e k.p.b k.p.max_n) b) c.is_some.ensures)
    c.in-Ok.ensures.exact c.in-Ok.ensures.stands
