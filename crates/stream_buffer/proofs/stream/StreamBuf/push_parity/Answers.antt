use Rattle.std.proofs.Common.{◌≡◌, ◌+◌, ◌-◌, ◌*◌, ◌%◌, ◌≤◌, ap, sym, subst, ◌∙◌, ℕ, List, take, drop, rules}
use Rattle.std.specs.List.{concat}
use Rattle.fec_plan.specs.Partition.{place_octets}
use Rattle.rs_block.specs.Code.{CodeState}
use Rattle.rs_block.specs.Codeword.{IsSymbol}
use Rattle.stream_buffer.specs.StreamState.{StreamState, rows_of_block, block_code}
use Rattle.stream_buffer.proofs.SymbolLemmas.{block_whole}
use Rattle.stream_buffer.proofs.stream.StreamBuf.push_parity.Goals as goal

pub run-sources-requires-clause-whole : goal.run-sources-requires-clause-whole
run-sources-requires-clause-whole c =
    subst (λ r. c.args.block * c.from-b.result % r + c.from-b.result ≤ r) (sym c.self.invariant.room)
    (subst (λ n. c.args.block * n % (c.self.inside.blocks * c.self.inside.b) + n ≤ c.self.inside.blocks * c.self.inside.b) (sym c.from-b.ensures)
    (block_whole c.args.block c.self.inside.b c.self.inside.blocks c.self.invariant.least_b c.self.invariant.some))

pub returns-clause-symbol : goal.returns-clause-symbol
returns-clause-symbol c =
    let v = c.self.inside in
    let e-is : c.from-size.result + 8 ≡ c.args.self.now.cut.e + place_octets =
    ap (λ n. n + 8) c.from-size.ensures ∙ ap (λ (w : StreamState). w.cut.e + 8) c.self.view_is in
    let rows : c.run-sources.result.now ≡ concat (rows_of_block c.args.self.now c.args.block) =
    c.run-sources.ensures.rows
    ∙ ap (λ n. concat (take n (drop (c.args.block * n - v.rows.first) v.rows.rows))) c.from-b.ensures
    ∙ ap (λ n. concat (take v.b (drop (c.args.block * v.b - n) v.rows.rows))) c.self.invariant.first
    ∙ ap (λ (w : StreamState). concat (rows_of_block w c.args.block)) c.self.view_is in
    let code : v.code ≡ block_code c.args.self.now = c.self.invariant.code ∙ ap block_code c.self.view_is in
    record {
      symbol = c.parity.new.out;
      appended = c.push.ensures;
      size = c.parity.auto.out ∙ (search rules) ∙ e-is;
      is =
          subst (λ (k : CodeState). IsSymbol k.k k.n (c.args.self.now.cut.e + place_octets) (concat (rows_of_block c.args.self.now c.args.block)) c.args.symbol c.parity.new.out) code
          (subst (λ n. IsSymbol v.code.k v.code.n n (concat (rows_of_block c.args.self.now c.args.block)) c.args.symbol c.parity.new.out) e-is
          (subst (λ (xs : List ℕ). IsSymbol v.code.k v.code.n (c.from-size.result + 8) xs c.args.symbol c.parity.new.out) rows c.parity.ensures));
    }
