use Rattle.std.proofs.Common.{◌≡◌, ap, sym, subst}
use Rattle.fec_plan.specs.Partition.{Cut}
use Rattle.nack_union.specs.Kept.{Marked, admitted_stream}
use Rattle.nack_union.specs.UnionState.{UnionState}
use Rattle.norm_sender.specs.Inside.{kept_of}
use Rattle.norm_sender.specs.SenderKept.{SenderKept, Agrees}
use Rattle.norm_send_rules.specs.Streaming.{opened}
use Rattle.norm_send_rules.specs.declared.job.Receipt.TheVariants.{Opened}
use Rattle.norm_sender.proofs.RetiringLemmas.{kept_is}
use Rattle.norm_sender.proofs.StreamingLemmas.{TakesStream, opened_onward, opened_agrees}
use Rattle.norm_sender.proofs.parts.Parts.open.Goals as goal

pub retire-requires : goal.retire-requires
retire-requires c =
    let k = kept_of c.args.self.now in
    let s = c.requires.state in
    let h = c.requires.stands in
    opened_onward k c.open_stream.new.self (admitted_stream c.stream_plan-plan.result k.union.p.blocks) c.admit_stream.new.self s h (record {
      profile = c.open_stream.ensures.profile;
      filling = c.open_stream.ensures.finished;
      is = ap (λ (cut : Cut). admitted_stream cut k.union.p.blocks) c.stream_plan-plan.ensures;
      admits = c.in-Ok.ensures.exact;
      joins = c.in-Ok.ensures.stands;
      index = c.in-Ok-open_stream.index;
      answer = λ by. (c.in-Ok-open_stream.ensures.opened s by h.window).answer;
      stands = λ by. (c.in-Ok-open_stream.ensures.opened s by h.window).stands;
    })

pub returns-in-Ok-open_stream-clause-opened : goal.returns-in-Ok-open_stream-clause-opened
returns-in-Ok-open_stream-clause-opened c s by h =
    let k = kept_of c.args.self.now in
    let new = c.retire.new.self in
    let w = c.open_stream.new.self in
    let rest = c.retire.ensures.rest in
    let m : Marked = admitted_stream c.stream_plan-plan.result k.union.p.blocks in
    let takes : TakesStream k w m c.admit_stream.new.self s = record {
      profile = c.open_stream.ensures.profile;
      filling = c.open_stream.ensures.finished;
      is = ap (λ (cut : Cut). admitted_stream cut k.union.p.blocks) c.stream_plan-plan.ensures;
      admits = c.in-Ok.ensures.exact;
      joins = c.in-Ok.ensures.stands;
      index = c.in-Ok-open_stream.index;
      answer = λ o. (c.in-Ok-open_stream.ensures.opened s o h.window).answer;
      stands = λ o. (c.in-Ok-open_stream.ensures.opened s o h.window).stands;
    } in
    subst (λ (q : SenderKept). Agrees q (opened k.p s by).0 × (Rattle.std.specs.Prelude.Ok (Opened takes.index) ≡ (opened k.p s by).1)) (sym (kept_is new k w rest.0 rest.1 rest.2))
    (opened_agrees k w m c.admit_stream.new.self new.union new.pace s by h takes (ap (λ (u : UnionState). u.p) c.retire.ensures.exact) c.retire.ensures.union c.retire.ensures.pace)
