use Rattle.std.proofs.Common.{◌≡◌, ◌+◌, ◌-◌, ◌++◌, ap, sym, subst, ◌∙◌, ℕ, List, Option, Some, take}
use Rattle.std.specs.Prelude.{slice_get, MatchOption}
use Rattle.stream_buffer.specs.StreamState.{StreamState, kept_from, sent_of}
use Rattle.stream_buffer.proofs.SymbolLemmas.{take_min}
use Rattle.stream_buffer.proofs.stream.StreamBuf.push_segment.Goals as goal

pub returns : goal.returns
returns c =
    let row : List ℕ = c.row-row.result.now in
    let there : slice_get c.args.self.now.rows (c.args.number - kept_from c.args.self.now) ≡ Some row =
    ap (λ (v : StreamState). slice_get v.rows (c.args.number - kept_from v)) (sym c.self.view_is)
    ∙ ap (λ n. slice_get c.self.inside.rows.rows (c.args.number - n)) (sym c.self.invariant.first)
    ∙ c.row-row.ensures.row in
    subst (λ (o : Option (List ℕ)). MatchOption o ⊥ (λ r. c.push.new.self ≡ c.args.out.now ++ sent_of r)) (sym there)
    (c.push.ensures
    ∙ ap (λ (xs : List ℕ). c.args.out.now ++ xs)
    (c.split_at.ensures.front
    ∙ ap (λ n. take n row) c.min.ensures
    ∙ take_min (8 + c.from-len.result) row
    ∙ ap (λ n. take (8 + n) row) (c.from-len.ensures ∙ c.from_be_bytes.ensures)))
