use Rattle.std.proofs.Common.{◌≡◌, ◌*◌, ◌%◌, ◌≤◌, ◌<◌, ap, sym, subst, ◌∙◌, arith, length, ℕ, List, take, drop, ◌++◌, rules}
use Rattle.fec_plan.specs.Partition.{symbol_number, source_symbols}
use Rattle.rs_block.specs.Code.{CodeState}
use Rattle.rs_block.specs.Codeword.{IsSymbol}
use Rattle.fec_plan.proofs.PartitionLemmas.{block_octets_within}
use Rattle.obj_buffer.proofs.PieceLemmas.{whole_part}
use Rattle.obj_buffer.proofs.symbol.push_parity.Goals as goal

pub range_of-requires : goal.range_of-requires
range_of-requires c =
    let plan = c.args.plan.now in
    let e-is = c.from-e.ensures ∙ c.e.ensures.exact in
    let start = ap (λ n. n * c.from-e.result) c.symbol_number.ensures.exact ∙ ap (λ e. symbol_number plan c.args.block 0 * e) e-is in
    let long = ap (λ n. n * c.from-e.result) (c.from.ensures ∙ c.source_len.ensures.exact) ∙ ap (λ e. source_symbols plan c.args.block * e) e-is in
    let within = block_octets_within plan c.args.block c.e.ensures.sound c.requires.object c.requires.block in
    omega (arith, start, long, within, c.requires.pieces)

pub parity_in_two-requires-clause-whole : goal.parity_in_two-requires-clause-whole
parity_in_two-requires-clause-whole c =
    let e-is = c.from-e.ensures ∙ c.e.ensures.exact in
    let least : 64 ≤ c.args.plan.now.e = c.e.ensures.sound.least_e in
    let some : 0 < c.from-e.result = omega (arith, e-is, least) in
    let whole : length c.args.front.now % c.from-e.result ≡ 0 = ap (λ e. length c.args.front.now % e) e-is ∙ c.requires.whole in
    ap (λ n. n % c.from-e.result) c.range_of.ensures.front_len
    ∙ whole_part c.from-e.result c.from.result c.symbol_number.result (length c.args.front.now) some whole

pub returns : goal.returns
returns c =
    let e-is = c.from-e.ensures ∙ c.e.ensures.exact in
    let k-is = ap (λ (code : CodeState). code.k) c.requires.code.is in
    let plan = c.args.plan.now in
    let start = ap (λ n. n * c.from-e.result) c.symbol_number.ensures.exact ∙ ap (λ e. symbol_number plan c.args.block 0 * e) e-is in
    let long = ap (λ n. n * c.from-e.result) (c.from.ensures ∙ c.source_len.ensures.exact ∙ sym k-is) ∙ ap (λ e. c.args.code.now.k * e) e-is in
    record {
      symbol = c.parity_in_two.new.out;
      appended = c.push.ensures;
      size = c.parity_in_two.auto.out ∙ (search rules) ∙ e-is;
      is =
          subst (λ (xs : List ℕ). IsSymbol c.args.code.now.k c.args.code.now.n plan.e xs c.args.symbol c.parity_in_two.new.out)
          (c.range_of.ensures.octets
          ∙ ap (λ n. take n (drop (c.symbol_number.result * c.from-e.result) (c.args.front.now ++ c.args.back.now))) long
          ∙ ap (λ n. take (c.args.code.now.k * plan.e) (drop n (c.args.front.now ++ c.args.back.now))) start)
          (subst (λ e. IsSymbol c.args.code.now.k c.args.code.now.n e (c.range_of.result.0.now ++ c.range_of.result.1.now) c.args.symbol c.parity_in_two.new.out) e-is c.parity_in_two.ensures);
    }
