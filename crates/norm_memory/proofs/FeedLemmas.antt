use Rattle.std.proofs.Common.{◌≡◌, ap, ℕ, ◌<◌, List, [], length, drop, get_or, Some, Vec, drop-cons}
use Rattle.std.proofs.lemmas.List.{get_or-map, length-map}
use Rattle.std.specs.declared.alloc.Global.{Global}
use Rattle.norm_memory.specs.Feeding.{fed}
use Rattle.norm_memory.specs.Waiting.{first_of}

abbrev datagram_of : ℕ × Vec ℕ Global → ℕ × List ℕ
datagram_of p = (p.0, p.1.items)

-- the next of what is left to give
pub first-fed : (feed : List (ℕ × Vec ℕ Global)) (next : ℕ) (p : ℕ × Vec ℕ Global) → next < length feed → p ≡ get_or feed next p → Some (p.0, p.1.items) ≡ first_of (drop next (fed feed))
first-fed feed next p inside is =
    let here : get_or (fed feed) next (0, []) ≡ datagram_of (get_or feed next p) = get_or-map datagram_of feed next p (0, []) inside in
    let within : next < length (fed feed) = rw length-map inside in
    rw (drop-cons (fed feed) next (0, []) within, here) (ap (λ q. Some (datagram_of q)) is)
