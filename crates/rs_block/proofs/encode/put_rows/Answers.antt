use Rattle.std.proofs.Common.{◌∙◌, sym, ap, arith, ℕ, length, take, drop, get_or, ◌≡◌, ◌≤◌, ◌*◌, ◌+◌, ◌-◌}
use Rattle.std.proofs.Math.Nat.{mul-le-mul_right, suc-mul}
use Rattle.std.proofs.lemmas.List.Edits.{length-between}
use Rattle.gf_field.specs.Power.{power, powers}
use Rattle.gf_field.specs.Interpolation.{coefficient}
use Rattle.gf_field.proofs.Places.{length-powers}
use Rattle.rs_block.specs.Row.{coefficients}
use Rattle.rs_block.proofs.Parts.{rows_go_on}
use Rattle.rs_block.proofs.Rows.{entry_at}
use Rattle.rs_block.proofs.Words.{sources_differ, away_from_sources}
use Rattle.rs_block.proofs.encode.put_rows.Goals as goal

pub put_coefficients-requires-clause-different : goal.put_coefficients-requires-clause-different
put_coefficients-requires-clause-different c = sources_differ c.args.places.now c.args.k c.requires.places (omega arith)

pub put_coefficients-requires-clause-away : goal.put_coefficients-requires-clause-away
put_coefficients-requires-clause-away c =
    away_from_sources c.args.places.now c.args.k (c.args.k + c.loop-m.m) c.place_of.result c.requires.places c.place_of.ensures (omega arith) (omega arith)

pub put_coefficients-requires-clause-few : goal.put_coefficients-requires-clause-few
put_coefficients-requires-clause-few c = omega (arith, ap length c.requires.places, length-powers c.args.k)

pub put_coefficients-requires-clause-count : goal.put_coefficients-requires-clause-count
put_coefficients-requires-clause-count c =
    let start : ℕ = c.from.result * c.from-width.result in
    let start_is : start ≡ c.loop-m.m * c.args.k = ap (λ n. n * c.from-width.result) c.from.ensures ∙ ap (λ n. c.loop-m.m * n) c.from-width.ensures in
    let fits : start + c.from-width.result ≤ length c.loop-m.rows =
    omega (arith, mul-le-mul_right c.args.k c.loop-m-test.true, suc-mul c.loop-m.m c.args.k, c.requires.room, c.loop-m.auto.rows) in
    length-between c.loop-m.rows start (start + c.from-width.result) fits
    ∙ (let e : start + c.from-width.result - start ≡ length c.args.places.now = omega (arith, ap length c.requires.places, length-powers c.args.k) in e)

pub loop-m-preserved : goal.loop-m-preserved
loop-m-preserved c =
    let width : ℕ = c.from-width.result in
    let start : ℕ = c.from.result * width in
    let start_is : start ≡ c.loop-m.m * width = ap (λ n. n * width) c.from.ensures in
    let start_k : start ≡ c.loop-m.m * c.args.k = start_is ∙ ap (λ n. c.loop-m.m * n) c.from-width.ensures in
    let fits : start + width ≤ length c.loop-m.rows =
    omega (arith, mul-le-mul_right c.args.k c.loop-m-test.true, suc-mul c.loop-m.m c.args.k, c.requires.room, c.loop-m.auto.rows) in
    let long : length (take (start + width - start) (drop start c.loop-m.rows)) ≡ width =
    length-between c.loop-m.rows start (start + width) fits ∙ (let e : start + width - start ≡ width = omega arith in e) in
    rows_go_on (λ m i. coefficient (powers c.args.k) (power i) (power (c.args.k + m)))
    width c.loop-m.m start c.loop-m.rows c.put_coefficients.new.row _
    start_is fits (c.put_coefficients.auto.row ∙ long) c.loop-m.invariant
    (λ i lt.
    ap (λ r. get_or r i 0) c.put_coefficients.ensures
    ∙ ap (λ ps. get_or (coefficients ps c.place_of.result) i 0) c.requires.places
    ∙ ap (λ x. get_or (coefficients (powers c.args.k) x) i 0) c.place_of.ensures
    ∙ entry_at c.args.k i (power (c.args.k + c.loop-m.m)) (omega arith))

pub returns : goal.returns
returns c = record {
  some = c.requires.some;
  fits = c.requires.fits;
  most = omega arith;
  size = c.loop-m.auto.rows ∙ c.requires.room;
  entries = λ m i lt i_lt.
      ap (λ w. get_or c.loop-m.rows (m * w + i) 0) (sym c.from-width.ensures)
      ∙ c.loop-m.invariant m i (omega arith) (omega arith);
}
