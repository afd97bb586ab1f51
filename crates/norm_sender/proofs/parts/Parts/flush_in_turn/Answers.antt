use Rattle.std.proofs.Common.{◌<◌, ap, sym, subst, arith}
use Rattle.norm_send_rules.specs.Watermarks.{oldest}
use Rattle.norm_send_rules.specs.Flushing.{flushed, expired, flushes_oldest}
use Rattle.mark_book.specs.declared.watermark.OpenWatermark.{OpenWatermark}
use Rattle.norm_sender.specs.declared.pace.Pace.{Pace}
use Rattle.std.proofs.Common.{ℕ}
use Rattle.norm_base.specs.Settings.{Settings}
use Rattle.norm_sender.specs.SenderKept.{Agrees}
use Rattle.norm_sender.specs.Inside.{kept_of}
use Rattle.norm_sender.specs.SenderMoves.{IsSent}
use Rattle.norm_sender.proofs.FlushingLemmas.{none_open, some_open, flushes_more, flushes_less, flushes_wait, flushes_next, counts_anew}
use Rattle.norm_sender.proofs.parts.Parts.flush_in_turn.Goals as goal

pub returns-then-self-lt-MOST_FLUSHES-clause-stands : goal.returns-then-self-lt-MOST_FLUSHES-clause-stands
returns-then-self-lt-MOST_FLUSHES-clause-stands c s h =
    let k = kept_of c.args.self.now in
    let few : s.flushes < 20 = subst (λ (q : Pace). q.flushes < 20) h.pace c.if-self-lt-MOST_FLUSHES.true in
    some_open (kept_of c.flush_for.new.self) c.flush_for.new.out c.flush_for.result s (λ w. flushed k.p c.args.now w s) (oldest s) c.in-Some.oldest
    (c.in-Some.ensures k.p s h.book)
    (λ w is found. flushes_more k _ _ _ c.args.now w s h c.if-self-lt-MOST_FLUSHES.true
    (c.flush_for.ensures.stands s w h (ap (λ (o : OpenWatermark). o.at) is) (omega arith)))

pub returns-then-is_some-clause-stands : goal.returns-then-is_some-clause-stands
returns-then-is_some-clause-stands c s h =
    let k = kept_of c.args.self.now in
    some_open k _ _ s (λ w. flushed k.p c.args.now w s) (oldest s) c.in-Some.oldest
    (c.in-Some.ensures k.p s h.book)
    (λ w is found. flushes_less k _ _ _ c.args.now w s h c.if-self-lt-MOST_FLUSHES.false
    (flushes_wait k _ c.args.now w s h (cc (c.is_some.ensures, c.if-is_some.true))))

pub returns-clause-stands : goal.returns-clause-stands
returns-clause-stands c s h =
    let k = kept_of c.args.self.now in
    let new = kept_of c.flush_next.new.self in
    some_open new c.flush_next.new.out c.flush_next.result s (λ w. flushed k.p c.args.now w s) (oldest s) c.in-Some.oldest
    (c.in-Some.ensures k.p s h.book)
    (λ w is found. flushes_less k _ _ _ c.args.now w s h c.if-self-lt-MOST_FLUSHES.false
    (flushes_next k _ _ _ c.args.now w s h (cc (c.is_some.ensures, c.if-is_some.false))
    (let same = ap (λ (o : OpenWatermark). o.mark) is in
    let t = expired w.mark s in
    let after : Agrees (kept_of c.expire.new.self) t =
    subst (λ (n : ℕ). Agrees (kept_of c.expire.new.self) (expired n s)) (sym same) (c.expire.ensures.stands s h) in
    subst (λ (q : Settings). IsSent new c.flush_next.new.out c.flush_next.result (flushes_oldest q c.args.now t)) c.expire.ensures.profile
    (c.flush_next.ensures.stands t after (λ v next. counts_anew s w v found next)))))

pub returns-in_default-clause-stands : goal.returns-in_default-clause-stands
returns-in_default-clause-stands c s h =
    let k = kept_of c.args.self.now in
    let found = c.oldest.ensures k.p s h.book in
    none_open k c.args.out.now s (λ w. flushed k.p c.args.now w s) (oldest s) (cc (c.in_default.is, found)) h
