use Rattle.std.proofs.Common.{◌≡◌, ◌-◌, ◌≤◌, ◌∙◌, ap, sym, subst, arith, ℕ, length}
use Rattle.fec_plan.specs.Partition.{Cut}
use Rattle.stream_buffer.specs.StreamState.{StreamState, StandsFor, with_cut}
use Rattle.stream_buffer.specs.StreamMoves.{cut_here}
use Rattle.stream_buffer.specs.StreamSound.{stream_view}
use Rattle.stream_buffer.proofs.MovesLemmas.{over_rows, sealed_is, cut_some, cut_none}
use Rattle.stream_buffer.proofs.StandingLemmas.{cut_with}
use Rattle.stream_buffer.proofs.stream.StreamBuf.cut.Goals as goal

-- what it keeps then
exact : (c : goal.After-seal) → over_rows (stream_view c.self.inside) c.self.inside.octets c.seal.new.self ≡ cut_here (stream_view c.self.inside)
exact c =
    let s : StreamState = stream_view c.self.inside in
    let offset : ℕ = c.self.inside.octets - c.filled-filled.result in
    let filled : c.filled-filled.result ≡ length s.filling = c.filled-filled.ensures in
    ap (over_rows s s.octets) c.seal.ensures
    ∙ sealed_is s c.self.inside.rows offset s.octets c.self.invariant.size
    ∙ cut_some s offset (omega (arith, filled, c.if-filled-gt0.true)) c.self.invariant.short (ap (λ n. s.octets - n) filled)

pub returns-then-filled-gt0-clause-exact : goal.returns-then-filled-gt0-clause-exact
returns-then-filled-gt0-clause-exact c = exact c ∙ ap cut_here c.self.view_is

pub returns-then-filled-gt0-clause-cut : goal.returns-then-filled-gt0-clause-cut
returns-then-filled-gt0-clause-cut c = λ p parts st.
    let s : StreamState = stream_view c.self.inside in
    let here : StandsFor p parts s = subst (StandsFor p parts) (sym c.self.view_is) st in
    let least : 64 ≤ s.cut.e = c.self.invariant.least_e in
    subst (StandsFor p (with_cut p.e parts)) (sym (exact c))
    (cut_with p parts s here (omega (arith, least, ap (λ (k : Cut). k.e) here.cut)) (omega (arith, least)) c.self.invariant.ended)

pub returns-else-filled-gt0-clause-exact : goal.returns-else-filled-gt0-clause-exact
returns-else-filled-gt0-clause-exact c =
    let s : StreamState = stream_view c.self.inside in
    let least : 64 ≤ s.cut.e = c.self.invariant.least_e in
    sym c.self.view_is
    ∙ cut_none s (omega (arith, least)) (omega (arith, c.filled-filled.ensures, c.if-filled-gt0.false))
    ∙ ap cut_here c.self.view_is
