use Rattle.std.proofs.Common.{◌≡◌, ◌+◌, ◌-◌, ◌++◌, ◌*◌, ◌≤◌, ◌<◌, ◌∙◌, ap, subst, arith, ℕ, length}
use Rattle.std.specs.Prelude.{slice_get, MatchOption}
use Rattle.std.proofs.Math.Nat.{mul-le-mul_right}
use Rattle.fec_plan.specs.Partition.{Cut}
use Rattle.stream_buffer.specs.StreamState.{StreamState, closed_segments, kept_from, sent_of}
use Rattle.stream_buffer.specs.StreamSound.{stream_view, StreamSound}
use Rattle.stream_buffer.specs.declared.stream.StreamBuf.TheInside.{Inside}
use Rattle.stream_buffer.proofs.SymbolLemmas.{answered_no, answered_source, answered_parity, source_sent, parity_sent}
use Rattle.stream_buffer.proofs.stream.StreamBuf.symbol.Goals as goal

-- what is kept, as the caller knows it
first_is : (v : Inside) (s : StreamState) → stream_view v ≡ s → v.first ≡ s.first
first_is v s is = ap (λ (w : StreamState). w.first) is

b_is : (v : Inside) (s : StreamState) → stream_view v ≡ s → v.b ≡ s.cut.b
b_is v s is = ap (λ (w : StreamState). w.cut.b) is

start_is : (v : Inside) (s : StreamState) (block b : ℕ) → stream_view v ≡ s → b ≡ v.b → block * b ≡ block * s.cut.b
start_is v s block b is same = ap (λ n. block * n) same ∙ ap (λ (w : StreamState). block * w.cut.b) is

closed_is : (v : Inside) (s : StreamState) → StreamSound v → stream_view v ≡ s → v.rows.first + length v.rows.rows ≡ closed_segments s
closed_is v s sound is = ap (λ n. n + length v.rows.rows) sound.first ∙ ap closed_segments is

pub returns-then-number-closed : goal.returns-then-number-closed
returns-then-number-closed c = λ p parts st.
    let v = c.self.inside in
    let s = c.args.self.now in
    let is = c.self.view_is in
    answered_no p parts s c.args.block c.args.symbol c.args.out.now st
    (omega (arith, first_is v s is, c.if-block-self.false))
    (omega (arith, b_is v s is, c.self.invariant.least_b))
    (omega (arith, b_is v s is, start_is v s c.args.block c.from-b.result is c.from-b.ensures, closed_is v s c.self.invariant is, c.closed.ensures, c.from.ensures, c.if-number-closed.true, c.if-symbol-self.true))
    (omega (arith, start_is v s c.args.block c.from-b.result is c.from-b.ensures, closed_is v s c.self.invariant is, c.closed.ensures, c.from.ensures, c.if-number-closed.true))

pub returns-then-symbol-self : goal.returns-then-symbol-self
returns-then-symbol-self c = λ p parts st.
    let v = c.self.inside in
    let s = c.args.self.now in
    let is = c.self.view_is in
    let start = start_is v s c.args.block c.from-b.result is c.from-b.ensures in
    let number : c.args.block * c.from-b.result + c.from.result ≡ c.args.block * s.cut.b + c.args.symbol = omega (arith, start, c.from.ensures) in
    let there : c.args.block * s.cut.b + c.args.symbol < closed_segments s = omega (arith, start, closed_is v s c.self.invariant is, c.closed.ensures, c.from.ensures, c.if-number-closed.false) in
    let from : s.first ≤ c.args.block = omega (arith, first_is v s is, c.if-block-self.false) in
    let kept : kept_from s ≤ c.args.block * s.cut.b = mul-le-mul_right s.cut.b from in
    answered_source p parts s c.args.block c.args.symbol c.args.out.now c.push_segment.new.out st from
    (omega (arith, b_is v s is, c.if-symbol-self.true))
    (omega (arith, c.self.invariant.fits, ap (λ (w : StreamState). w.cut.b) is, ap (λ (w : StreamState). w.cut.max_n) is))
    there
    (source_sent p parts s (c.args.block * s.cut.b + c.args.symbol) c.args.out.now c.push_segment.new.out st
    (omega (arith, c.self.invariant.most_e, ap (λ (w : StreamState). w.cut.e) is, ap (λ (k : Cut). k.e) st.cut))
    (omega (arith, kept)) there
    (subst (λ n. MatchOption (slice_get s.rows (n - kept_from s)) ⊥ (λ row. c.push_segment.new.out ≡ c.args.out.now ++ sent_of row)) number c.push_segment.ensures))

pub returns-then-number-b : goal.returns-then-number-b
returns-then-number-b c = λ p parts st.
    let v = c.self.inside in
    let s = c.args.self.now in
    let is = c.self.view_is in
    let start = start_is v s c.args.block c.from-b.result is c.from-b.ensures in
    let less : closed_segments s < c.args.block * s.cut.b + s.cut.b = omega (arith, start, b_is v s is, c.from-b.ensures, closed_is v s c.self.invariant is, c.closed-2.ensures, c.if-number-b.true) in
    answered_no p parts s c.args.block c.args.symbol c.args.out.now st
    (omega (arith, first_is v s is, c.if-block-self.false))
    (omega (arith, b_is v s is, c.self.invariant.least_b))
    less
    (omega (arith, less, b_is v s is, c.if-symbol-self.false))

pub returns : goal.returns
returns c = λ p parts st.
    let v = c.self.inside in
    let s = c.args.self.now in
    let is = c.self.view_is in
    let start = start_is v s c.args.block c.from-b.result is c.from-b.ensures in
    let from : s.first ≤ c.args.block = omega (arith, first_is v s is, c.if-block-self.false) in
    let to : c.args.block * s.cut.b + s.cut.b ≤ closed_segments s = omega (arith, start, b_is v s is, c.from-b.ensures, closed_is v s c.self.invariant is, c.closed-2.ensures, c.if-number-b.false) in
    let n = ap (λ (w : StreamState). w.cut.max_n) is in
    answered_parity p parts s c.args.block c.args.symbol c.args.out.now c.push_parity.new.out st from
    (omega (arith, b_is v s is, c.self.invariant.least_b))
    (omega (arith, b_is v s is, c.if-symbol-self.false))
    c.requires.symbol to
    (parity_sent p parts s c.args.block c.args.symbol c.args.out.now c.push_parity.new.out st from to
    (omega (arith, c.self.invariant.fits, b_is v s is, n)) (omega (arith, c.self.invariant.most_n, n)) c.requires.symbol c.push_parity.ensures.symbol c.push_parity.ensures.octets)
