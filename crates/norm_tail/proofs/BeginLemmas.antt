-- Whether a tail may begin.
use Rattle.std.proofs.Common.{◌≡◌, ℕ, ◌+◌, ◌*◌, ◌≤◌, Bool, true, false, Option, None, Some, refl, sym, ap, arith}
use Rattle.std.specs.Prelude.{not, is_none, is_some, option_map}
use Rattle.std.proofs.lemmas.Nat.{mul-le}
use Rattle.mark_book.specs.Answers.{open_watermark}
use Rattle.mark_book.specs.declared.watermark.OpenWatermark.{OpenWatermark}
use Rattle.norm_base.specs.Settings.{Settings, InRange}
use Rattle.norm_send_rules.specs.Repairable.{repairable}
use Rattle.norm_send_rules.specs.SenderState.{SenderState, Watermark}
use Rattle.norm_safety.specs.Recovery.{IsPaced}
use Rattle.norm_safety.specs.Tail.{tail_fault}
use Rattle.norm_safety.proofs.TailLemmas.{tail_laws}

-- a tail that is not refused is paced
pub may_begin : (p : Settings) (s : SenderState) → tail_fault p s ≡ None → IsPaced p s
may_begin p s none = ((tail_laws.accepted p s).0 none).paced

-- there are not so many symbols
pub few_symbols : (p : Settings) (s : SenderState) → InRange p → IsPaced p s → repairable p s ≤ 10000000
few_symbols p s range paced =
    let gap = range.gap.0 in
    let most = range.grtt.1 in
    let twice = paced.twice in
    let one = mul-le (2 * (repairable p s + 1)) 1 (2 * (repairable p s + 1)) (p.gap + p.step) (omega arith) (omega (arith, gap)) in
    omega (arith, one, twice, most)

clash : {X : Type 0} (x : X) → Some x ≡ None → ⊥
clash x e = cc

-- the oldest watermark has a number
pub none_open : (o : Option Watermark) → option_map (λ (m : Watermark). m.mark) o ≡ None → is_none o ≡ true
none_open None e = refl
none_open (Some w) e = absurd (clash w.mark e)

pub none_both : (o : Option Watermark) (n : Option ℕ) → n ≡ option_map (λ (m : Watermark). m.mark) o → is_none n ≡ is_none o
none_both None n e = ap is_none e
none_both (Some w) n e = ap is_none e

pub mark_none : (o : Option Watermark) → option_map open_watermark o ≡ None → None ≡ option_map (λ (m : Watermark). m.mark) o
mark_none None e = refl
mark_none (Some w) e = absurd (clash (open_watermark w) e)

pub mark_some : (o : Option Watermark) (w : OpenWatermark) → option_map open_watermark o ≡ Some w → Some w.mark ≡ option_map (λ (m : Watermark). m.mark) o
mark_some None w e = absurd (clash w (sym e))
mark_some (Some m) w e = ap (option_map (λ (v : OpenWatermark). v.mark)) (sym e)

-- whether none is open, as the code asks it
pub asked_none : (o : Option ℕ) (b : Bool) → is_some o ≡ not b → b ≡ is_none o
asked_none None true e = refl
asked_none None false e = e
asked_none (Some n) true e = e
asked_none (Some n) false e = refl
