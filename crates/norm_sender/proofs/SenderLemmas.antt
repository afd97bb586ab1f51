-- What a sender stands for after each of its calls.
use Rattle.std.proofs.Common.{◌≡◌, ℕ, zero, suc, ◌+◌, List, [], ◌∷◌, length, Option, Some, None, refl, sym, subst, ap, arith}
use Rattle.std.specs.Prelude.{MatchOption}
use Rattle.std.proofs.lemmas.List.{length-append}
use Rattle.norm_base.specs.Members.{receivers_of}
use Rattle.norm_base.specs.Settings.{Settings, InRange}
use Rattle.norm_base.specs.declared.kinds.Sent.{Sent}
use Rattle.norm_send_rules.specs.SenderState.{SenderState, sender_opening}
use Rattle.norm_send_rules.specs.SenderStep.{Commanded, Ticked, Delivered, NewsAsked}
use Rattle.norm_send_rules.specs.Ticking.{ticked}
use Rattle.norm_send_rules.specs.Commanding.{commanded}
use Rattle.norm_send_rules.specs.declared.job.Job.{Job}
use Rattle.norm_base.specs.declared.node.Origin.{Origin}
use Rattle.norm_send_rules.specs.Hearing.{heard}
use Rattle.norm_send_rules.specs.Telling.{told}
use Rattle.norm_send_rules.specs.Reached.{IsReached}
use Rattle.norm_send_rules.proofs.ReachedLemmas.{reached_laws}
use Rattle.tx_window.specs.WindowState.{Stands as WindowStands, Filling}
use Rattle.nack_union.specs.UnionState.{UnionState, empty_union, Stands as UnionStands}
use Rattle.mark_book.specs.BookState.{Stands as BookStands}
use Rattle.norm_sender.specs.Pacing.{pace_of}
use Rattle.norm_sender.specs.SenderKept.{SenderKept, Agrees, Stands}
use Rattle.norm_sender.specs.Filling.{HasBegun}
use Rattle.norm_sender.specs.SenderSound.{SenderSound}
use Rattle.norm_sender.specs.SenderMoves.{IsSent, IsTick}
use Rattle.norm_sender.specs.Wanted.{IsStanding}

-- What holds of each sender, by whether a file is begun.

abbrev sound_where : SenderKept → SenderState → List ℕ → Option Filling → Type 0
sound_where k s name found = MatchOption found (Stands k s) (λ (f : Filling). HasBegun k s name f.len f.octets)

-- where none is begun, a sender stands for its state
pub stands_here : (k : SenderKept) (sound : SenderSound k) → k.window.filling ≡ None → Stands k sound.state
stands_here k sound none = subst (sound_where k sound.state sound.name) none sound.stands

-- and where one is, it stood for it before
pub begun_here : (k : SenderKept) (sound : SenderSound k) (f : Filling) → k.window.filling ≡ Some f → HasBegun k sound.state sound.name f.len f.octets
begun_here k sound f is = subst (sound_where k sound.state sound.name) is sound.stands

pub sound_standing : (k : SenderKept) (s : SenderState) → Stands k s → SenderSound k
sound_standing k s h = record { state = s; name = []; stands = subst (sound_where k s []) (sym h.agrees.filling) h }

pub sound_begun : (k : SenderKept) (s : SenderState) (name : List ℕ) (len : ℕ) (octets : List ℕ) → HasBegun k s name len octets → SenderSound k
sound_begun k s name len octets h = record { state = s; name = name; stands = subst (sound_where k s name) (sym h.fills.filling) h }

-- what the parts of a sender need of it
pub standing : (k : SenderKept) (s : SenderState) → Stands k s → IsStanding k
standing k s h = record { state = s; stands = h.agrees; wants = h.reached.wants }

-- what is reached under a profile is under one that equals it
pub under : (p q : Settings) (s : SenderState) → q ≡ p → IsReached p s → IsReached q s
under p q s same h = subst (λ (r : Settings). IsReached r s) (sym same) h

pub ticks : (k new : SenderKept) (out : List ℕ) (answer : Sent) (now : ℕ) (s : SenderState) → InRange k.p → new.p ≡ k.p
    → IsSent new out answer (ticked k.p s now) → IsReached k.p s → IsTick new out answer (ticked k.p s now)
ticks k new out answer now s range same sent reached = record {
  stands = record { agrees = sent.stands; reached = under k.p new.p (ticked k.p s now).0 same (reached_laws.always k.p s (Ticked now) range reached) };
  octets = sent.octets;
}

pub hears : (k new : SenderKept) (bytes : List ℕ) (now : ℕ) (s : SenderState) → InRange k.p → new.p ≡ k.p
    → Agrees new (heard k.p s bytes now) → IsReached k.p s → Stands new (heard k.p s bytes now)
hears k new bytes now s range same after reached =
    record { agrees = after; reached = under k.p new.p (heard k.p s bytes now) same (reached_laws.always k.p s (Delivered bytes now) range reached) }

pub tells : (k new : SenderKept) (s : SenderState) → InRange k.p → new.p ≡ k.p → Agrees new (told s).0 → IsReached k.p s → Stands new (told s).0
tells k new s range same after reached =
    record { agrees = after; reached = under k.p new.p (told s).0 same (reached_laws.always k.p s NewsAsked range reached) }

-- whose command a strike or a restart was is not looked at
pub anyone : Origin
anyone = record { producer = 0; number = 0 }

-- A command by its state: the sender stands for what the rules leave of it.
pub commands : (k new : SenderKept) (by : Origin) (job : Job) (s : SenderState) → InRange k.p → new.p ≡ k.p
    → Agrees new (commanded k.p s by job).0 → IsReached k.p s → Stands new (commanded k.p s by job).0
commands k new by job s range same after reached =
    record { agrees = after; reached = under k.p new.p (commanded k.p s by job).0 same (reached_laws.always k.p s (Commanded by job 0) range reached) }

-- A sender as it begins.

pub receivers_count : (p : Settings) (n : ℕ) → length (receivers_of p n) ≡ n
receivers_count p zero = refl
receivers_count p (suc n) = omega (arith, length-append (receivers_of p n) ((p.sender + 1 + n) ∷ []), receivers_count p n)

pub begins : (k : SenderKept) (instance : ℕ) → InRange k.p → k.window.p ≡ k.p → k.window.filling ≡ None → k.union ≡ empty_union k.p
    → WindowStands k.window (sender_opening k.p instance) → UnionStands k.union (sender_opening k.p instance)
    → BookStands k.p k.book (sender_opening k.p instance) → k.pace ≡ pace_of (sender_opening k.p instance) → Stands k (sender_opening k.p instance)
begins k instance range profile filling union_is window union book pace = record {
  agrees = record {
    window_profile = profile;
    filling = filling;
    union_profile = ap (λ (u : UnionState). u.p) union_is;
    window = window;
    union = union;
    book = book;
    pace = pace;
  };
  reached = reached_laws.at_first k.p instance range;
}
