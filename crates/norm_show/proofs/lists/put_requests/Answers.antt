use Rattle.std.proofs.Common.{ap, ◌∙◌, List, drop}
use Rattle.std.specs.Prelude.{slice_get}
use Rattle.norm_ext.specs.Requests.{Request}
use Rattle.norm_ext.specs.RequestView.{request_of}
use Rattle.norm_show.proofs.ListLemmas.{requests_begin}
use Rattle.norm_show.proofs.lists.put_requests.Goals as goal

pub loop-request-init : goal.loop-request-init
loop-request-init c = (
  tt,
  tt,
  requests_begin c.args.line.now c.put_request.new.line (request_of c.in-Some.first) c.args.list.now c.into_iter-request-iterator.result c.in_ok-put_request.ensures
      (c.in-Some.ensures.steps.0 ∙ ap (λ (l : List Request). slice_get l 0) c.iter-requests.ensures)
      (c.into_iter-request-iterator.ensures.into_iter_gives ∙ c.in-Some.ensures.steps.1 ∙ ap (λ (l : List Request). drop 1 l) c.iter-requests.ensures),
)
