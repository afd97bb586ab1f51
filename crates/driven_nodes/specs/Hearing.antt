-- What the parts of a gathering say: which receivers they stand for, and what each call makes of these.
use Rattle.std.specs.Prelude.{◌≡◌, ⊤, ℕ, List, [], ◌∷◌, ◌++◌, map, fold, Option, None, Some, IsSome}
use Rattle.std.specs.List.{flat_map}
use Rattle.std.specs.Option.{option_map}
use Rattle.norm_base.specs.Datagrams.{datagram_of}
use Rattle.norm_base.specs.Settings.{Settings}
use Rattle.norm_base.specs.Told.{Pieces, gained}
use Rattle.norm_base.specs.declared.kinds.Sent.{Sent}
use Rattle.norm_ext.specs.Written.{Written}
use Rattle.norm_journal.specs.Draws.{next_draw, draws_after}
use Rattle.norm_multi.specs.Calls.{member_of}
use Rattle.norm_multi.specs.Owner.{owner_of}
use Rattle.norm_multi.specs.declared.member.Member.{Member}
use Rattle.norm_receive_rules.specs.Ticking.{ticked}
use Rattle.norm_receiver.specs.ReceiverSound.{StandsFor as ReceiverStands}
use Rattle.norm_show.specs.declared.fault.NoDatagram.{NoDatagram}
use Rattle.driven_nodes.specs.Gathered.{Hearer, SoFar, Printed, in_front, stopped, gather_line, hearer_of, up_lines, emptied, after_tick, told, with_ups, all_hear, uses_draw, draws_if, after_datagram, lines_of}
use Rattle.driven_nodes.specs.declared.gathering.Gathering.{Gathering}

-- ---- receivers

-- a sender's member is this receiver, or there is neither
abbrev pub IsMemberOf : Option Member → Option Hearer → Type 0
IsMemberOf None None = ⊤
IsMemberOf (Some m) (Some h) = (m.receiver.p ≡ h.p) × (m.node ≡ h.node) × ReceiverStands m.receiver h.r
IsMemberOf _ _ = ⊥

-- the member of this sender, at this node, is this receiver
pub record IsAt (s node : ℕ) (members : List Member) (h : Hearer) : Type 0 where
  pub member : IsMemberOf (member_of members s) (Some h)
  pub sender : h.p.sender ≡ s
  pub at : h.node ≡ node

-- no receiver is that of this sender
abbrev pub IsApart : ℕ → List Hearer → Type 0
IsApart s [] = ⊤
IsApart s (h ∷ hearers) = (h.p.sender ≡ s → ⊥) × IsApart s hearers

-- the senders differ
abbrev pub AreApart : List Hearer → Type 0
AreApart [] = ⊤
AreApart (h ∷ hearers) = IsApart h.p.sender hearers × AreApart hearers

-- a receiver's profile and node
abbrev pub role : Hearer → Settings × ℕ
role h = (h.p, h.node)

-- The members are these receivers, which have these profiles and nodes, and whose senders differ.
pub record AreHeard (list : List (Settings × ℕ)) (members : List Member) (hearers : List Hearer) : Type 0 where
  pub roles : map role hearers ≡ list
  pub apart : AreApart hearers
  pub stand : (s : ℕ) → IsMemberOf (member_of members s) (hearer_of hearers s)

-- A gathering stands for what the lines so far led to. It has the next draw already.
pub record StandsFor (list : List (Settings × ℕ)) (k : Gathering) (g : SoFar) : Type 0 where
  pub heard : AreHeard list k.multi g.hearers
  pub draw : k.draw ≡ next_draw g.draws
  pub draws : k.draws ≡ draws_after g.draws
  pub lines : k.lines ≡ g.lines
  pub counts : k.counts ≡ g.counts

-- it stands for something
pub record IsReady (list : List (Settings × ℕ)) (k : Gathering) : Type 0 where
  pub state : SoFar
  pub stands : StandsFor list k state

-- the members are receivers
pub record AreReady (list : List (Settings × ℕ)) (members : List Member) : Type 0 where
  pub hearers : List Hearer
  pub heard : AreHeard list members hearers

-- ---- one receiver

-- The members of other senders stay, this one is there still, and so are the draws and the count of lines.
pub record KeepsOthers (s : ℕ) (old new : Gathering) : Type 0 where
  pub others : (t : ℕ) → (s ≡ t → ⊥) → (o : Option Hearer) → IsMemberOf (member_of old.multi t) o → IsMemberOf (member_of new.multi t) o
  pub there : IsSome (member_of old.multi s) → IsSome (member_of new.multi s)
  pub draw : new.draw ≡ old.draw
  pub draws : new.draws ≡ old.draws
  pub lines : new.lines ≡ old.lines

-- Some hand-ups of a receiver were taken, counted and written: what is left makes the whole.
pub record Hands (h k : Hearer) (old new : Gathering) (unwritten written : Pieces) : Type 0 where
  pub front : List (List ℕ)
  pub p : k.p ≡ h.p
  pub node : k.node ≡ h.node
  pub same : emptied k.r ≡ emptied h.r
  pub lines : up_lines h ≡ front ++ up_lines k
  pub output : written ≡ gained unwritten front
  pub counts : with_ups old.counts h ≡ with_ups new.counts k

pub record HandsTo (s node : ℕ) (h : Hearer) (old new : Gathering) (unwritten written : Pieces) : Type 0 where
  pub left : Hearer
  pub here : IsAt s node new.multi left
  pub hands : Hands h left old new unwritten written

-- from whatever receiver it was
abbrev pub HandsOn : (s node : ℕ) → (old new : Gathering) → (unwritten written : Pieces) → Type 0
HandsOn s node old new unwritten written = (h : Hearer) → IsAt s node old.multi h → HandsTo s node h old new unwritten written

-- all hand-ups of a receiver were taken, counted and written
pub record HandedAll (s node : ℕ) (h : Hearer) (old new : Gathering) (unwritten written : Pieces) : Type 0 where
  pub here : IsAt s node new.multi (record h { r = emptied h.r })
  pub output : written ≡ gained unwritten (up_lines h)
  pub counts : new.counts ≡ with_ups old.counts h

-- a receiver ticked
pub record TickedAt (s node now : ℕ) (h : Hearer) (sent : Sent) (old new : Gathering) : Type 0 where
  pub here : IsAt s node new.multi (record h { r = (ticked h.p h.r now).0 })
  pub octets : datagram_of sent new.datagram ≡ option_map (λ (w : Written). w.octets) (ticked h.p h.r now).1
  pub counts : new.counts ≡ old.counts

-- a receiver handed all up and ticked, and its lines were written
pub record Answered (s node now : ℕ) (h : Hearer) (old new : Gathering) (unwritten written : Pieces) : Type 0 where
  pub here : IsAt s node new.multi (after_tick now h)
  pub output : written ≡ gained unwritten (told now h)
  pub counts : new.counts ≡ with_ups old.counts h

-- ---- all receivers

-- all receivers did so, in their order
pub record AllAnswered (list : List (Settings × ℕ)) (now : ℕ) (hearers : List Hearer) (old new : Gathering) (unwritten written : Pieces) : Type 0 where
  pub heard : AreHeard list new.multi (map (after_tick now) hearers)
  pub output : written ≡ gained unwritten (flat_map (told now) hearers)
  pub counts : new.counts ≡ fold with_ups old.counts hearers
  pub draw : new.draw ≡ old.draw
  pub draws : new.draws ≡ old.draws
  pub lines : new.lines ≡ old.lines

-- A datagram was delivered. A draw was used if it belongs to one of the senders.
pub record IsDelivered (list : List (Settings × ℕ)) (datagram : List ℕ) (now : ℕ) (g : SoFar) (old new : Gathering) : Type 0 where
  pub heard : AreHeard list new.multi (all_hear now datagram g)
  pub draw : new.draw ≡ next_draw (draws_if (uses_draw g.hearers (owner_of datagram)) g.draws)
  pub draws : new.draws ≡ draws_after (draws_if (uses_draw g.hearers (owner_of datagram)) g.draws)
  pub lines : new.lines ≡ old.lines
  pub counts : new.counts ≡ old.counts

abbrev pub Delivers : List ℕ → ℕ → (old new : Gathering) → Type 0
Delivers datagram now old new =
    (list : List (Settings × ℕ)) (g : SoFar) → StandsFor list old g → IsDelivered list datagram now g old new

-- a datagram led on
pub record Heard (list : List (Settings × ℕ)) (now : ℕ) (datagram : List ℕ) (g : SoFar) (new : Gathering) (unwritten written : Pieces) : Type 0 where
  pub stands : StandsFor list new (after_datagram now datagram g)
  pub output : written ≡ gained unwritten (lines_of now datagram g)

-- ---- lines

-- Lines were taken: whatever follows, what is printed from there makes the whole.
pub record LeadsTo (list : List (Settings × ℕ)) (whole : Printed) (rest : SoFar → Printed) (new : Gathering) (unwritten written : Pieces) : Type 0 where
  pub state : SoFar
  pub front : List (List ℕ)
  pub stands : StandsFor list new state
  pub is : whole ≡ in_front front (rest state)
  pub output : written ≡ gained unwritten front

-- a line was taken, or it spells no datagram for this reason and nothing was done
abbrev pub TakesLine : List (Settings × ℕ) → ℕ → List ℕ → SoFar → Gathering → (unwritten written : Pieces) → Option NoDatagram → Type 0
TakesLine list n text g new unwritten written None =
    (rest : SoFar → Printed) → LeadsTo list (gather_line n text g rest) rest new unwritten written
TakesLine list n text g new unwritten written (Some why) =
    ((rest : SoFar → Printed) → gather_line n text g rest ≡ stopped n why) × (written ≡ unwritten)
