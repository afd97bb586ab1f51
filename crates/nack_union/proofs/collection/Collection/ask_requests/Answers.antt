use Rattle.std.proofs.Common.{List, Option, map, sym, ap, subst, ◌∙◌}
use Rattle.norm_ext.specs.Asking.{named}
use Rattle.norm_ext.specs.Requests.{Request}
use Rattle.norm_ext.specs.RequestView.{request_of}
use Rattle.fec_plan.specs.Points.{Point}
use Rattle.nack_union.specs.Earliest.{earliest_with, lesser}
use Rattle.nack_union.specs.Kept.{Kept}
use Rattle.nack_union.specs.More.{HasPart, requests_part}
use Rattle.nack_union.proofs.Parts.{part_then, part_none}
use Rattle.nack_union.proofs.Items.{request_front, no_request}
use Rattle.nack_union.proofs.collection.Collection.ask_requests.Goals as goal

pub requests-preserved : goal.requests-preserved
requests-preserved c = record {
  asked = λ u more.
      c.requests.invariant.asked u
      (subst (λ (rs : List Request). HasPart (requests_part (map (named c.args.profile.now c.args.known) rs)) c.requests.self u)
      (sym (request_front c.requests.request-iterator (request_of c.in-Some.request) c.next.new.self c.in-Some.ensures.steps.0 c.in-Some.ensures.steps.1))
      (part_then _ _ c.requests.self c.ask_request-least.new.self u c.ask_request-least.ensures.asked more));
  least =
      ap (λ (o : Option Point). earliest_with o (map (named c.args.profile.now c.args.known) c.next.new.self)) (c.lesser-earliest.ensures ∙ ap (lesser c.requests.earliest) c.ask_request-least.ensures.earliest)
      ∙ ap (λ (rs : List Request). earliest_with c.requests.earliest (map (named c.args.profile.now c.args.known) rs))
      (sym (request_front c.requests.request-iterator (request_of c.in-Some.request) c.next.new.self c.in-Some.ensures.steps.0 c.in-Some.ensures.steps.1))
      ∙ c.requests.invariant.least;
}

pub returns-clause-asked : goal.returns-clause-asked
returns-clause-asked c =
    subst (λ (u : Kept). HasPart (requests_part (map (named c.args.profile.now c.args.known) c.args.requests)) c.args.self.now u) (sym c.count_from.ensures)
    (record { first = all.first; objects = all.objects; each = all.each })
  where
    all : HasPart (requests_part (map (named c.args.profile.now c.args.known) c.args.requests)) c.args.self.now c.requests.self
    all =
        subst (λ (rs : List Request). HasPart (requests_part (map (named c.args.profile.now c.args.known) rs)) c.args.self.now c.requests.self) c.into_iter-request-iterator.ensures.into_iter_gives
        (c.requests.invariant.asked c.requests.self
        (subst (λ (rs : List Request). HasPart (requests_part (map (named c.args.profile.now c.args.known) rs)) c.requests.self c.requests.self)
        (sym (no_request c.requests.request-iterator c.in-None.ensures.steps.0)) (part_none c.requests.self)))

pub returns-clause-earliest : goal.returns-clause-earliest
returns-clause-earliest c =
    ap (λ (u : Kept). u.earliest) c.count_from.ensures
    ∙ sym (ap (λ (rs : List Request). earliest_with c.requests.earliest (map (named c.args.profile.now c.args.known) rs)) (no_request c.requests.request-iterator c.in-None.ensures.steps.0))
    ∙ c.requests.invariant.least
    ∙ ap (λ (u : Kept). earliest_with u.earliest (map (named c.args.profile.now c.args.known) c.into_iter-request-iterator.result)) c.self.view_is
    ∙ ap (λ (rs : List Request). earliest_with c.args.self.now.earliest (map (named c.args.profile.now c.args.known) rs)) c.into_iter-request-iterator.ensures.into_iter_gives
