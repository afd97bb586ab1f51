-- A world as it begins.
use Rattle.std.proofs.Common.{◌≡◌, ℕ, zero, suc, ◌+◌, ◌<◌, ◌≤◌, ◌⊎◌, inl, inr, List, [], ◌∷◌, ◌++◌, map, Option, None, Some, refl, sym, ap, ◌∙◌, subst, length, arith, cond}
use Rattle.std.specs.Prelude.{◌==◌, find, slice_get}
use Rattle.std.specs.Option.{option_or}
use Rattle.std.proofs.lemmas.Bool.{cases_lt}
use Rattle.std.proofs.lemmas.Bool.Decides.{Decides-eqb}
use Rattle.std.proofs.lemmas.List.{length-append, map-append}
use Rattle.std.proofs.lemmas.List.Folds.{find-append}
use Rattle.std.proofs.lemmas.Option.{slice_get_within}
use Rattle.norm_base.specs.Members.{receivers_of}
use Rattle.norm_base.specs.Settings.{Settings}
use Rattle.norm_receive_rules.specs.ReceiverState.{ReceiverState, receiver_opening}
use Rattle.norm_receiver.specs.ReceiverKept.{ReceiverKept}
use Rattle.norm_receiver.specs.ReceiverSound.{StandsFor as ReceiverStands}
use Rattle.norm_safety.specs.World.{world_opening}
use Rattle.norm_send_rules.specs.SenderState.{sender_opening}
use Rattle.norm_sender.specs.SenderKept.{SenderKept, Stands as SenderStands}
use Rattle.norm_world.specs.WorldKept.{StandsFor, IsReceiver, node_at}
use Rattle.norm_world.specs.WorldMoves.{AreBegun}
use Rattle.norm_world.proofs.WorldLemmas.{kept}
use Rattle.norm_world.proofs.ReceiverEvents.{not_same}

-- what stands in a list with one more at its end
append_get : {X : Type 0} (xs : List X) (x o : X) (n : ℕ) → slice_get (xs ++ x ∷ []) n ≡ Some o → (n ≡ length xs × x ≡ o) ⊎ (slice_get xs n ≡ Some o)
append_get [] x o zero e = inl (refl, cc)
append_get [] x o (suc n) e = absurd (cc)
append_get (y ∷ xs) x o zero e = inr e
append_get (y ∷ xs) x o (suc n) e = go (append_get xs x o n e)
  where
    go : (n ≡ length xs × x ≡ o) ⊎ (slice_get xs n ≡ Some o) → (suc n ≡ suc (length xs) × x ≡ o) ⊎ (slice_get xs n ≡ Some o)
    go (inl at_end) = inl (ap suc at_end.0, at_end.1)
    go (inr before) = inr before

pub begun_none : (p : Settings) → AreBegun p [] 0
begun_none p = record { count = refl; begun = λ place k e. absurd (nothing k e) }
  where
    nothing : (k : ReceiverKept) → None ≡ Some k → ⊥
    nothing k e = cc

pub begun_more : (p : Settings) (ks : List ReceiverKept) (n : ℕ) (k : ReceiverKept) → AreBegun p ks n → k.p ≡ p
    → ReceiverStands k (receiver_opening (p.sender + 1 + n)) → AreBegun p (ks ++ k ∷ []) (n + 1)
begun_more p ks n k before under stands = record {
  count = omega (arith, length-append ks (k ∷ []), before.count);
  begun = λ place o e. go place o (append_get ks k o place e);
}
  where
    go : (place : ℕ) (o : ReceiverKept) → (place ≡ length ks × k ≡ o) ⊎ (slice_get ks place ≡ Some o)
        → (o.p ≡ p) × ReceiverStands o (receiver_opening (node_at p place))
    go place o (inr front) = before.begun place o front
    go place o (inl at_end) =
        let here : n ≡ place = omega (arith, at_end.0, before.count) in
        subst (λ (x : ReceiverKept). (x.p ≡ p) × ReceiverStands x (receiver_opening (node_at p place))) at_end.1
        (under, subst (λ i. ReceiverStands k (receiver_opening (node_at p i))) here stands)

-- ---- the rules' receivers of a profile as they begin

abbrev openings : Settings → ℕ → List ReceiverState
openings p n = map receiver_opening (receivers_of p n)

abbrev at_node : ℕ → List ReceiverState → Option ReceiverState
at_node node rs = find (λ (r : ReceiverState). r.node == node) rs

last_or : (p : Settings) (n node : ℕ) → at_node node (openings p (suc n))
    ≡ option_or (at_node node (openings p n)) (cond (node_at p n == node) (Some (receiver_opening (node_at p n))) None)
last_or p n node =
    ap (at_node node) (map-append receiver_opening (receivers_of p n) (node_at p n ∷ []))
    ∙ find-append (λ (r : ReceiverState). r.node == node) (openings p n) (receiver_opening (node_at p n) ∷ [])

no_opening : (p : Settings) (n place : ℕ) → n ≤ place → at_node (node_at p place) (openings p n) ≡ None
no_opening p zero place le = refl
no_opening p (suc n) place le =
    last_or p n (node_at p place)
    ∙ ap (λ found. option_or found (cond (node_at p n == node_at p place) (Some (receiver_opening (node_at p n))) None)) (no_opening p n place (omega (arith, le)))
    ∙ ap (λ b. cond b (Some (receiver_opening (node_at p n))) None) (not_same (node_at p n) (node_at p place) (λ same. omega (arith, le, same)))

opening_at : (p : Settings) (n place : ℕ) → place < n → at_node (node_at p place) (openings p n) ≡ Some (receiver_opening (node_at p place))
opening_at p zero place lt = absurd (omega (arith, lt))
opening_at p (suc n) place lt = last_or p n (node_at p place) ∙ go (cases_lt place n) (opening_at p n place)
  where
    own : Option ReceiverState
    own = cond (node_at p n == node_at p place) (Some (receiver_opening (node_at p n))) None

    go : (place < n) ⊎ (n ≤ place) → (place < n → at_node (node_at p place) (openings p n) ≡ Some (receiver_opening (node_at p place)))
        → option_or (at_node (node_at p place) (openings p n)) (cond (node_at p n == node_at p place) (Some (receiver_opening (node_at p n))) None)
        ≡ Some (receiver_opening (node_at p place))
    go (inl less) front = ap (λ found. option_or found own) (front less)
    go (inr more) front =
        let is : n ≡ place = omega (arith, lt, more) in
        ap (λ found. option_or found own) (no_opening p n place more)
        ∙ ap (λ i. cond (node_at p i == node_at p place) (Some (receiver_opening (node_at p i))) None) is
        ∙ ap (λ b. cond b (Some (receiver_opening (node_at p place))) None) ((Decides-eqb (node_at p place) (node_at p place)).1 refl)

pub begins : (p : Settings) (s : SenderKept) (ks : List ReceiverKept) → s.p ≡ p → SenderStands s (sender_opening p p.instance) → AreBegun p ks p.receivers
    → StandsFor (kept p s ks) (world_opening p)
begins p s ks under stands begun = record {
  profile = under;
  sender = stands;
  receivers = λ place k e.
      let lt : place < p.receivers = omega (arith, slice_get_within ks place k e, begun.count) in
      subst (IsReceiver p k) (sym (opening_at p p.receivers place lt)) (begun.begun place k e);
}
