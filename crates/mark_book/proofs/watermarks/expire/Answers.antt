use Rattle.std.proofs.Common.{◌≡◌, ◌<◌, [], ◌∷◌, length, arith}
use Rattle.mark_book.specs.BookMoves.{expired_by}
use Rattle.mark_book.proofs.Counts.{count_at_most, count_front, count_more}
use Rattle.mark_book.proofs.Lists.{written_more}
use Rattle.mark_book.proofs.watermarks.expire.Goals as goal

pub overflow_add-still_open : goal.overflow_add-still_open
overflow_add-still_open c =
    let many : length c.loop-watermark.watermarks ≡ length c.args.watermarks.now = c.loop-watermark.auto.watermarks in
    let so_far = count_front c.loop-watermark.watermarks c.loop-watermark.watermark-index c.loop-watermark.still_open (omega (arith, many)) c.loop-watermark.invariant.still_open in
    let one = count_at_most (c.expired-expired.result ∷ []) in
    let is = c.count_open-still_open.ensures in
    omega (arith, so_far, one, is)

pub loop-watermark-preserved : goal.loop-watermark-preserved
loop-watermark-preserved c =
    let many : length c.loop-watermark.watermarks ≡ length c.args.watermarks.now = c.loop-watermark.auto.watermarks in
    let within : c.loop-watermark.watermark-index < length c.loop-watermark.watermarks = omega (arith, many) in
    record {
      written = written_more (expired_by c.args.listings.now c.args.mark) _ _ _ _ _ c.expired-expired.ensures c.loop-watermark-test.true c.loop-watermark.invariant.written c.watermark-item.is;
      still_open = count_more _ _ _ _ _ within c.loop-watermark.invariant.still_open c.count_open-still_open.ensures;
    }
