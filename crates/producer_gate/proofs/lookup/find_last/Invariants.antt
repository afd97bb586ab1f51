use Rattle.std.proofs.Common.{◌≡◌, ◌≤◌, take, map}
use Rattle.producer_gate.specs.Entries.{entry_in, last_of}
use Rattle.producer_gate.specs.Places.{IsAt}
use Rattle.producer_gate.specs.Plays.{known_in}
use Rattle.producer_gate.proofs.lookup.find_last.Given as goal

abbrev pub invariant-back : goal.invariant-back
invariant-back l =
    let known = known_in l.initial.place.me.0 in
    IsAt l.words.shared.table_id l.place × (l.place.me ≡ l.initial.place.me) × (l.left ≤ l.count)
    × (last_of l.mark (map entry_in known) ≡ last_of l.mark (map entry_in (take l.left known)))

abbrev pub decreases-back : goal.decreases-back
decreases-back l = l.left
