-- A file in pieces, over what a sender keeps.
use Rattle.std.proofs.Common.{◌≡◌, ℕ, ◌<◌, [], ◌∷◌, length, Option, None, Some, IsSome, Result, Ok, Err, refl, ap, arith}
use Rattle.std.specs.Prelude.{MatchOption, IfOk, IfErr, IsErr}
use Rattle.std.proofs.lemmas.List.{length-append}
use Rattle.norm_send_rules.specs.SenderState.{SenderState}
use Rattle.norm_send_rules.specs.Room.{window, has_to_go, drop_after}
use Rattle.norm_send_rules.specs.Reached.{IsReached}
use Rattle.norm_send_rules.proofs.WantLemmas.{drops}
use Rattle.tx_window.specs.Taking.{room_made}
use Rattle.tx_window.specs.WindowState.{Filling}
use Rattle.nack_union.specs.UnionState.{UnionState}
use Rattle.norm_sender.specs.Filling.{Fills}
use Rattle.norm_sender.specs.SenderKept.{SenderKept, Agrees, Stands}
use Rattle.norm_sender.proofs.SenderLemmas.{under}

-- What holds of a value, or of an error, by what held.

pub if_ok : {T E : Type 0} {P Q : Type 0} (r : Result T E) → (P → Q) → IfOk r (λ _. P) → IfOk r (λ _. Q)
if_ok (Ok x) f h = f h
if_ok (Err e) f h = tt

pub if_err : {T E : Type 0} {P Q : E → Type 0} (r : Result T E) → ((e : E) → P e → Q e) → IfErr r P → IfErr r Q
if_err (Ok x) f h = tt
if_err (Err e) f h = f e h

pub either_way : {T E : Type 0} {P : Type 0} (r : Result T E) → IfOk r (λ _. P) → (IsErr r → P) → P
either_way (Ok x) h f = h
either_way (Err e) h f = f refl

-- something is being filled, of which this holds
pub record FillingWith (found : Option Filling) (P : Filling → Type 0) : Type 0 where
  pub filling : Filling
  pub is : found ≡ Some filling
  pub holds : P filling

pub has_filling : {P : Filling → Type 0} (found : Option Filling) → MatchOption found ⊥ P → FillingWith found P
has_filling None h = absurd h
has_filling (Some f) h = record { filling = f; is = refl; holds = h }

pub some_filling : (found : Option Filling) → IsSome found → FillingWith found (λ f. found ≡ Some f)
some_filling None e = absurd (cc)
some_filling (Some f) e = record { filling = f; is = refl; holds = refl }

-- a union that has what was admitted is not empty
pub is_admitted : (k : SenderKept) (s : SenderState) (f : Filling) → Fills k s f → 0 < length k.union.kept.objects
is_admitted k s f h =
    let is = ap (λ (u : UnionState). length u.kept.objects) h.union.is in
    omega (arith, is, length-append h.union.before.kept.objects (h.union.marked ∷ []))

-- A state in which room was made is one that a sender can come to.
pub room_stands : (k new : SenderKept) (len : ℕ) (s : SenderState) → new.p ≡ k.p → IsReached k.p s → Agrees new (room_made k.p len s) → Stands new (room_made k.p len s)
room_stands k new len s same reached agrees =
    let t = room_made k.p len s in
    let there : IsReached k.p t = record {
      wants = drops k.p (drop_after s.current.drop (has_to_go k.p len (window s))) s reached.wants;
      objects = reached.objects;
      indices = reached.indices;
      book = record { members = reached.book.members; numbered = reached.book.numbered; rises = reached.book.rises; outcomes = reached.book.outcomes };
      asked = reached.asked;
      listed = reached.listed;
    } in
    record { agrees = agrees; reached = under k.p new.p t same there }
