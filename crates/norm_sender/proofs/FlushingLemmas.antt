-- Flushes, over what a sender keeps.
use Rattle.std.proofs.Common.{◌≡◌, ◌∙◌, ℕ, ◌+◌, ◌<◌, List, [], ◌∷◌, ◌++◌, map, Bool, true, false, cond, Option, Some, None, refl, sym, subst, ap, arith}
use Rattle.std.specs.Prelude.{◌==◌, ◌&&◌, ◌≤◌, is_some, find, nat_lt, if◌then◌else◌, length}
use Rattle.std.specs.Option.{option_map}
use Rattle.std.proofs.lemmas.Bool.Decides.{nat_tests}
use Rattle.norm_base.specs.Settings.{Settings}
use Rattle.norm_base.specs.declared.kinds.Sent.{Sent}
use Rattle.norm_base.specs.declared.kinds.Sent.TheVariants.{Nothing, Datagram}
use Rattle.fec_plan.specs.declared.position.Position.{Position}
use Rattle.norm_ext.specs.Octets.{octets_of, nodes_octets}
use Rattle.norm_ext.specs.ObjectIds.{object_id}
use Rattle.norm_ext.specs.Message.{Flush}
use Rattle.norm_ext.specs.Written.{Written}
use Rattle.norm_send_rules.specs.SenderState.{SenderState, Watermark, Round}
use Rattle.norm_send_rules.specs.Watermarks.{is_open, oldest, keeps_oldest, ended_with, end_where, pending}
use Rattle.norm_send_rules.specs.Messages.{flush_message}
use Rattle.norm_send_rules.specs.Flushing.{flushes_for, flushes_no_more, flushed, flushes_oldest, expired}
use Rattle.norm_send_rules.specs.declared.news.Outcome.{Outcome}
use Rattle.norm_send_rules.specs.declared.news.Outcome.TheVariants.{Expired}
use Rattle.tx_window.specs.WindowState.{WindowState, Stands as WindowStands}
use Rattle.nack_union.specs.UnionState.{UnionState, Stands as UnionStands}
use Rattle.mark_book.specs.BookState.{BookState, Stands as BookStands}
use Rattle.mark_book.specs.Answers.{open_watermark}
use Rattle.mark_book.specs.declared.watermark.OpenWatermark.{OpenWatermark}
use Rattle.norm_sender.specs.declared.pace.Pace.{Pace}
use Rattle.norm_sender.specs.Heads.{command_front}
use Rattle.norm_sender.specs.Pacing.{pace_of, counted_by}
use Rattle.norm_sender.specs.SenderKept.{SenderKept, Agrees}
use Rattle.norm_sender.specs.SenderMoves.{IsSent}
use Rattle.norm_sender.specs.Wanted.{spent}

pub flush_whole : (p : Settings) (pace : Pace) (at : Position) (nodes front out : List ℕ) (s : SenderState) → pace ≡ pace_of s
    → front ≡ octets_of (Flush (record { head = command_front p pace; object = object_id p at.index; id = record { block = at.block; symbol = at.symbol }; extensions = []; nodes = [] }))
    → out ≡ front ++ nodes_octets nodes
    → out ≡ octets_of (flush_message p s at nodes)
flush_whole p pace at nodes front out s is begun more =
    more ∙ ap (λ (f : List ℕ). f ++ nodes_octets nodes) begun
    ∙ ap (λ (q : Pace). octets_of (Flush (record { head = command_front p q; object = object_id p at.index; id = record { block = at.block; symbol = at.symbol }; extensions = []; nodes = nodes }))) is

-- A watermark that is given up.

abbrev given_up : ℕ → SenderState → SenderState
given_up mark s = end_where (λ w. w.mark == mark) (λ w. Expired (length (pending s w.at))) s

abbrev expired_if : Bool → ℕ → SenderState → SenderState
expired_if kept mark s = elim kept [ true ↦ given_up mark s | false ↦ record (given_up mark s) { flushes = 0 } ]

expired_window : (kept : Bool) (mark : ℕ) (s : SenderState) (w : WindowState) → WindowStands w s → WindowStands w (expired_if kept mark s)
expired_window true mark s w h = h
expired_window false mark s w h = h

expired_union : (kept : Bool) (mark : ℕ) (s : SenderState) (u : UnionState) → UnionStands u s → UnionStands u (expired_if kept mark s)
expired_union true mark s u h = h
expired_union false mark s u h = h

expired_pace : (kept : Bool) (mark : ℕ) (s : SenderState) → keeps_oldest s (given_up mark s) ≡ kept
    → counted_by (keeps_oldest s (expired_if kept mark s)) (pace_of s) ≡ pace_of (expired_if kept mark s)
expired_pace true mark s e = ap (λ (b : Bool). counted_by b (pace_of s)) e
expired_pace false mark s e = ap (λ (b : Bool). counted_by b (pace_of s)) e

pub expired_stands : (k : SenderKept) (book : BookState) (kept : Bool) (mark : ℕ) (s : SenderState) → Agrees k s
    → BookStands k.p book (expired mark s) → kept ≡ keeps_oldest s (expired mark s)
    → Agrees (record k { book = book; pace = counted_by kept k.pace }) (expired mark s)
expired_stands k book kept mark s h listed is = record {
  window_profile = h.window_profile;
  filling = h.filling;
  union_profile = h.union_profile;
  window = expired_window (keeps_oldest s (given_up mark s)) mark s k.window h.window;
  union = expired_union (keeps_oldest s (given_up mark s)) mark s k.union h.union;
  book = listed;
  pace = ap (counted_by kept) h.pace ∙ ap (λ (b : Bool). counted_by b (pace_of s)) is ∙ expired_pace (keeps_oldest s (given_up mark s)) mark s refl;
}

-- The watermark that is the oldest behind one that was given up is another one.

abbrev ended_if : ℕ → (Watermark → Outcome) → Watermark → Watermark
ended_if mark f w = if is_open w && w.mark == mark then ended_with (f w) w else w

other_found : (mark : ℕ) (f : Watermark → Outcome) (w found : Watermark) (rest : Option Watermark) (opened same : Bool) → is_open w ≡ opened → (w.mark == mark) ≡ same
    → (rest ≡ Some found → (mark == found.mark) ≡ false)
    → cond (is_open (if opened && same then ended_with (f w) w else w)) (Some (if opened && same then ended_with (f w) w else w)) rest ≡ Some found
    → (mark == found.mark) ≡ false
other_found mark f w found rest true true is_it same again e = again e
other_found mark f w found rest false same is_it is_same again e = again (ap (λ (b : Bool). cond b (Some w) rest) (sym is_it) ∙ e)
other_found mark f w found rest true false is_it is_same again e =
    let first : Some w ≡ Some found = ap (λ (b : Bool). cond b (Some w) rest) (sym is_it) ∙ e in
    let one : w ≡ found = cc in
    let differs : (found.mark == mark) ≡ false = subst (λ (v : Watermark). (v.mark == mark) ≡ false) one is_same in
    grind (arith, nat_tests)

not_again : (mark : ℕ) (f : Watermark → Outcome) (ws : List Watermark) (found : Watermark) → find is_open (map (ended_if mark f) ws) ≡ Some found → (mark == found.mark) ≡ false
not_again mark f [] found e = absurd (cc)
not_again mark f (w ∷ ws) found e =
    other_found mark f w found (find is_open (map (ended_if mark f) ws)) (is_open w) (w.mark == mark) refl refl (not_again mark f ws found) e

-- keeping the oldest watermark, by what is the oldest afterwards, and before
abbrev kept_after : SenderState → Option Watermark → Bool
kept_after old found = elim found [ Some w ↦ elim (oldest old) [ Some v ↦ v.mark == w.mark | None ↦ false ] | None ↦ true ]

abbrev kept_before : Watermark → Option Watermark → Bool
kept_before w found = elim found [ Some v ↦ v.mark == w.mark | None ↦ false ]

counted_new : (kept : Bool) (s : SenderState) (v found : Watermark) → oldest s ≡ Some v → keeps_oldest s (given_up v.mark s) ≡ kept
    → oldest (expired_if kept v.mark s) ≡ Some found → (expired_if kept v.mark s).flushes ≡ 0
counted_new false s v found first e next = refl
counted_new true s v found first e next =
    let kept : true ≡ (v.mark == found.mark) = sym e ∙ ap (kept_after s) next ∙ ap (kept_before found) first in
    let other : (v.mark == found.mark) ≡ false = not_again v.mark (λ w. Expired (length (pending s w.at))) s.watermarks found next in
    absurd (cc)

pub counts_anew : (s : SenderState) (v found : Watermark) → oldest s ≡ Some v → oldest (expired v.mark s) ≡ Some found → (expired v.mark s).flushes ≡ 0
counts_anew s v found first next = counted_new (keeps_oldest s (given_up v.mark s)) s v found first refl next

-- Whose turn it is.

pub none_open : (k : SenderKept) (out : List ℕ) (s : SenderState) (rule : Watermark → SenderState × Option Written) (found : Option Watermark)
    → None ≡ option_map open_watermark found → Agrees k s
    → IsSent k out Nothing (elim found [ Some w ↦ rule w | None ↦ (s, None) ])
none_open k out s rule None e h = record { stands = h; octets = refl }
none_open k out s rule (Some w) e h = absurd (cc)

pub some_open : (k : SenderKept) (out : List ℕ) (answer : Sent) (s : SenderState) (rule : Watermark → SenderState × Option Written) (found : Option Watermark) (o : OpenWatermark)
    → Some o ≡ option_map open_watermark found
    → ((w : Watermark) → open_watermark w ≡ o → found ≡ Some w → IsSent k out answer (rule w))
    → IsSent k out answer (elim found [ Some w ↦ rule w | None ↦ (s, None) ])
some_open k out answer s rule None o e sent = absurd (cc)
some_open k out answer s rule (Some w) o e sent = sent w (cc) refl

-- with fewer flushes counted, one more
abbrev flushed_if : Settings → ℕ → Watermark → SenderState → Bool → SenderState × Option Written
flushed_if p now w s few = elim few [ true ↦ flushes_for p now w s | false ↦ flushes_no_more p now w s ]

pub flushes_more : (k new : SenderKept) (out : List ℕ) (answer : Sent) (now : ℕ) (w : Watermark) (s : SenderState) → Agrees k s → k.pace.flushes < 20
    → IsSent new out answer (flushes_for k.p now w s) → IsSent new out answer (flushed k.p now w s)
flushes_more k new out answer now w s h few sent =
    let f : s.flushes < 20 = subst (λ (q : Pace). q.flushes < 20) h.pace few in
    let e : nat_lt s.flushes 20 ≡ true = grind (arith, nat_tests) in
    subst (IsSent new out answer) (sym (ap (flushed_if k.p now w s) e)) sent

pub flushes_less : (k new : SenderKept) (out : List ℕ) (answer : Sent) (now : ℕ) (w : Watermark) (s : SenderState) → Agrees k s → 20 ≤ k.pace.flushes
    → IsSent new out answer (flushes_no_more k.p now w s) → IsSent new out answer (flushed k.p now w s)
flushes_less k new out answer now w s h many sent =
    let f : 20 ≤ s.flushes = subst (λ (q : Pace). 20 ≤ q.flushes) h.pace many in
    let e : nat_lt s.flushes 20 ≡ false = grind (arith, nat_tests) in
    subst (IsSent new out answer) (sym (ap (flushed_if k.p now w s) e)) sent

-- while a round is open it is waited for
round_waits : (k : SenderKept) (out : List ℕ) (now : ℕ) (w : Watermark) (s : SenderState) (round : Option Round) → Agrees k s
    → is_some (option_map (λ (r : Round). r.closes) round) ≡ true
    → IsSent k out Nothing (elim round [ Some r ↦ (s, None) | None ↦ flushes_oldest k.p now (expired w.mark s) ])
round_waits k out now w s None h e = absurd (cc)
round_waits k out now w s (Some r) h e = record { stands = h; octets = refl }

pub flushes_wait : (k : SenderKept) (out : List ℕ) (now : ℕ) (w : Watermark) (s : SenderState) → Agrees k s → is_some k.pace.closes ≡ true
    → IsSent k out Nothing (flushes_no_more k.p now w s)
flushes_wait k out now w s h e = round_waits k out now w s s.round h (ap (λ (q : Pace). is_some q.closes) (sym h.pace) ∙ e)

round_over : (new : SenderKept) (out : List ℕ) (answer : Sent) (p : Settings) (now : ℕ) (w : Watermark) (s : SenderState) (round : Option Round)
    → is_some (option_map (λ (r : Round). r.closes) round) ≡ false
    → IsSent new out answer (flushes_oldest p now (expired w.mark s))
    → IsSent new out answer (elim round [ Some r ↦ (s, None) | None ↦ flushes_oldest p now (expired w.mark s) ])
round_over new out answer p now w s None e sent = sent
round_over new out answer p now w s (Some r) e sent = absurd (cc)

pub flushes_next : (k new : SenderKept) (out : List ℕ) (answer : Sent) (now : ℕ) (w : Watermark) (s : SenderState) → Agrees k s → is_some k.pace.closes ≡ false
    → IsSent new out answer (flushes_oldest k.p now (expired w.mark s)) → IsSent new out answer (flushes_no_more k.p now w s)
flushes_next k new out answer now w s h e sent = round_over new out answer k.p now w s s.round (ap (λ (q : Pace). is_some q.closes) (sym h.pace) ∙ e) sent

-- A flush was written, counted and spent.
pub flush_sent : (k : SenderKept) (pace : Pace) (now : ℕ) (at : Position) (out : List ℕ) (w : Watermark) (s : SenderState) → Agrees k s → w.at ≡ at
    → s.flushes < 4294967295 → (k.pace.flushes < 4294967295 → pace ≡ record (k.pace) { flushes = k.pace.flushes + 1; last_flush = Some now })
    → out ≡ octets_of (flush_message k.p s at (pending s at))
    → IsSent (record k { pace = spent k.p now pace }) out Datagram (flushes_for k.p now w s)
flush_sent k pace now at out w s h same few counted written = record {
  stands = record {
    window_profile = h.window_profile;
    filling = h.filling;
    union_profile = h.union_profile;
    window = h.window;
    union = h.union;
    book = h.book;
    pace =
        ap (spent k.p now) (counted (subst (λ (q : Pace). q.flushes < 4294967295) (sym h.pace) few))
        ∙ ap (λ (q : Pace). spent k.p now (record q { flushes = q.flushes + 1; last_flush = Some now })) h.pace;
  };
  octets = ap Some (written ∙ ap (λ (a : Position). octets_of (flush_message k.p s a (pending s a))) (sym same));
}
