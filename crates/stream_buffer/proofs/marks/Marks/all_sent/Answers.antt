use Rattle.std.proofs.Common.{◌≡◌, ap, ◌∙◌, arith, length}
use Rattle.std.specs.Prelude.{nat_eq}
use Rattle.std.specs.List.{list_all}
use Rattle.stream_buffer.specs.HeldState.{run_of}
use Rattle.stream_buffer.specs.MarksState.{MarksState}
use Rattle.stream_buffer.proofs.MarkLemmas.{run_whole}
use Rattle.stream_buffer.proofs.marks.Marks.all_sent.Goals as goal

pub returns : goal.returns
returns c =
    let long : c.len.result ≡ length c.self.inside.sent.items = omega (arith, c.len.ensures, c.self.inside.sent.ok.0) in
    ap (λ n. nat_eq n c.len.result) c.self.invariant.run
    ∙ ap (λ n. nat_eq (run_of c.self.inside.sent.items) n) long
    ∙ run_whole c.self.inside.sent.items
    ∙ ap (λ (m : MarksState). list_all (λ b. b) m.sent) c.self.view_is
