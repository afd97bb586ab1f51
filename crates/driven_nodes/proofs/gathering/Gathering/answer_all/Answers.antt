use Rattle.std.proofs.Common.{◌∙◌, ◌≤◌, ◌<◌, length, ap, refl, rules}
use Rattle.std.proofs.lemmas.Result.{err_from_is_err_and}
use Rattle.norm_multi.specs.Calls.{member_of}
use Rattle.norm_turns.specs.Causes.{Counted}
use Rattle.norm_turns.proofs.FaultLemmas.{at_fault}
use Rattle.driven_nodes.proofs.HearerLemmas.{is_there}
use Rattle.driven_nodes.proofs.GatherLemmas.{answers_begin, answers_end, answers_on, answers_break, one_now, at_now}
use Rattle.driven_nodes.proofs.gathering.Gathering.answer_all.Goals as goal

pub loop-member-init : goal.loop-member-init
loop-member-init g c = record {
  going = λ hearers heard. answers_begin c.args.members.now c.args.now hearers c.args.self.now (g.K.Sink.pieces c.args.output.now) heard;
  writes = refl;
}

pub answer-requires : goal.answer-requires
answer-requires g c =
    let i = c.loop-member.member-index in
    let x = c.member-item.result in
    let hs = c.requires.hearers in
    let one = one_now c.args.members.now i x hs c.requires.heard.roles (search rules) c.member-item.is in
    let at = at_now c.args.members.now c.args.now i x hs c.args.self.now c.loop-member.self (g.K.Sink.pieces c.args.output.now) (g.K.Sink.pieces c.loop-member.output)
    c.sender_of.result x.1 (c.loop-member.invariant.going hs c.requires.heard) one c.sender_of.ensures refl in
    is_there (member_of c.loop-member.self.multi c.sender_of.result) one.h at.member

pub returns-in_err-answer-clause-stops : goal.returns-in_err-answer-clause-stops
returns-in_err-answer-clause-stops g c =
    let exit = err_from_is_err_and c.from_residual.result c.from_residual.ensures.1 in
    let i = c.loop-member.member-index in
    let x = c.member-item.result in
    let lt : i < length c.args.members.now = search rules in
    at_fault _ c.from_residual.result exit.0 c.in_err-answer.field-0.0 exit.1 exit.2
    (λ hs heard.
    let so = c.loop-member.invariant.going hs heard in
    let one = one_now c.args.members.now i x hs heard.roles lt c.member-item.is in
    let at = at_now c.args.members.now c.args.now i x hs c.args.self.now c.loop-member.self (g.K.Sink.pieces c.args.output.now) (g.K.Sink.pieces c.loop-member.output)
    c.sender_of.result x.1 so one c.sender_of.ensures refl in
    answers_break c.in_err-answer.field-0.0 c.args.members.now c.args.now i x hs c.args.self.now c.loop-member.self (g.K.Sink.pieces c.args.output.now)
    (g.K.Sink.pieces c.loop-member.output) (g.K.Sink.pieces c.answer.new.output) so one (c.in_err-answer.ensures.stops one.h at))

pub loop-member-preserved : goal.loop-member-preserved
loop-member-preserved g c =
    let i = c.loop-member.member-index in
    let x = c.member-item.result in
    let lt : i < length c.args.members.now = search rules in
    record {
      going = λ hs heard.
          let so = c.loop-member.invariant.going hs heard in
          let one = one_now c.args.members.now i x hs heard.roles lt c.member-item.is in
          let at = at_now c.args.members.now c.args.now i x hs c.args.self.now c.loop-member.self (g.K.Sink.pieces c.args.output.now)
          (g.K.Sink.pieces c.loop-member.output) c.sender_of.result x.1 so one c.sender_of.ensures refl in
          answers_on c.args.members.now c.args.now i x hs c.args.self.now c.loop-member.self c.answer.new.self (g.K.Sink.pieces c.args.output.now)
          (g.K.Sink.pieces c.loop-member.output) (g.K.Sink.pieces c.answer.new.output) c.sender_of.result x.1 so one c.sender_of.ensures
          (c.in_ok-answer.ensures.goes one.h at) c.in_ok-answer.ensures.keeps;
      writes = ap (λ (k : Counted). k.output) (c.in_ok-answer.ensures.cause 0 0) ∙ c.loop-member.invariant.writes;
    }

pub returns-clause-goes : goal.returns-clause-goes
returns-clause-goes g c hs heard =
    let past : length c.args.members.now ≤ c.loop-member.member-index = search rules in
    answers_end c.args.members.now c.args.now c.loop-member.member-index hs c.args.self.now c.loop-member.self (g.K.Sink.pieces c.args.output.now)
    (g.K.Sink.pieces c.loop-member.output) past heard (c.loop-member.invariant.going hs heard)
