use Rattle.std.proofs.Common.{◌≡◌, ◌∙◌, sym, ap, refl, ℕ, zero, suc, ◌+◌, ◌≤◌, ◌<◌, List, [], ◌∷◌, ◌++◌, length, get_or, arith}
use Rattle.std.specs.List.{slice_range}
use Rattle.std.proofs.lemmas.List.{map-append, get_or-map}
use Rattle.norm_memory.specs.Offers.{offer_in, offered_in, IsWithin, AreWithin, offer_at}
use Rattle.norm_memory.specs.declared.offers.Offer.{Offer}
use Rattle.norm_memory.proofs.RangeLemmas.{range-append, range-appended}

offered-row : (octets more : List ℕ) (offers : List Offer) → AreWithin (length octets) offers → offered_in (octets ++ more) offers ≡ offered_in octets offers
offered-row octets more [] h = refl
offered-row octets more (o ∷ os) h =
    ap (λ bytes. (o.from, bytes) ∷ offered_in (octets ++ more) os) (range-append octets more o.start o.stop h.0.up h.0.within)
    ∙ ap (λ rest. offer_in octets o ∷ rest) (offered-row octets more os h.1)

-- a datagram that comes last in the row
pub offered-more : (octets more : List ℕ) (offers : List Offer) (from start stop : ℕ) → start ≡ length octets → stop ≡ length octets + length more → AreWithin (length octets) offers
    → offered_in (octets ++ more) (offers ++ record { from = from; start = start; stop = stop } ∷ []) ≡ offered_in octets offers ++ (from, more) ∷ []
offered-more octets more offers from start stop at is h =
    map-append (offer_in (octets ++ more)) offers _
    ∙ ap (λ front. front ++ (from, slice_range (octets ++ more) start stop) ∷ []) (offered-row octets more offers h)
    ∙ ap (λ bytes. offered_in octets offers ++ (from, bytes) ∷ []) (rw at (range-appended octets more stop is))

pub within-more : (n m : ℕ) (offers : List Offer) (o : Offer) → n ≤ m → IsWithin m o → AreWithin n offers → AreWithin m (offers ++ o ∷ [])
within-more n m [] o up last h = (last, tt)
within-more n m (x ∷ xs) o up last h =
    (record { up = h.0.up; within = omega (arith, h.0.within); most = h.0.most }, within-more n m xs o up last h.1)

-- the offer at a place
pub within-at : (n : ℕ) (offers : List Offer) (place : ℕ) (o : Offer) → place < length offers → o ≡ get_or offers place o → AreWithin n offers → IsWithin n o
within-at n [] place o inside is h = absurd (omega arith)
within-at n (x ∷ xs) zero o inside is h = rw is h.0
within-at n (x ∷ xs) (suc place) o inside is h = within-at n xs place o (omega arith) is h.1

pub offer_at-row : (octets : List ℕ) (offers : List Offer) (place : ℕ) (o : Offer) → place < length offers → o ≡ get_or offers place o → offer_at (offered_in octets offers) place ≡ offer_in octets o
offer_at-row octets offers place o inside is =
    get_or-map (offer_in octets) offers place o (0, []) inside ∙ ap (offer_in octets) (sym is)
