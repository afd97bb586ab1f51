-- What the outside has of what a receiver did: the network, the lines, the files and the clock, event by event.
use Rattle.std.specs.Prelude.{ℕ, ◌≡◌, ◌+◌, ◌++◌, List, [], ◌∷◌, Option, None, Some, IfSome, codes}
use Rattle.std.specs.Fmt.{decimal}
use Rattle.norm_base.specs.Contents.{content_of, ChangesOnly}
use Rattle.norm_base.specs.Network.{Network, with_offer, with_answer}
use Rattle.norm_base.specs.Told.{Pieces, gained}
use Rattle.norm_base.specs.declared.kinds.Kind.TheVariants as kind
use Rattle.norm_order.specs.declared.up.Up.{Up}
use Rattle.norm_order.specs.declared.up.Up.TheVariants as up
use Rattle.norm_journal.specs.Jobs.{Told}
use Rattle.norm_journal.specs.Lines.{up_line}
use Rattle.norm_turns.specs.Moments.{IsNextMoment}
use Rattle.norm_node.specs.Lone.{Place, Offering, Lone, Event, Begins, Takes, FindsNone, HandsUp, Ticks, Offers, next_up, IsDue, after}

-- What the outside tells: the network, the pieces that the output has, the files, and the moments that the clock gave.
pub record Outside : Type 0 where
  pub network : Network
  pub written : Pieces
  pub files : Told
  pub moments : Option (List ℕ)

abbrev pub outside : Network → Pieces → Told → Option (List ℕ) → Outside
outside network written files moments = record { network = network; written = written; files = files; moments = moments }

-- the name under which a node puts the file of an object
unfoldable pub file_name : (node instance index : ℕ) → List ℕ
file_name node instance index =
    codes "n" ++ (decimal node ++ (codes "-i" ++ (decimal instance ++ (codes "-x" ++ decimal index))))

-- the file that a hand-up puts, if it is one of a file
abbrev pub file_of : (node instance : ℕ) → Up → Option (List ℕ × List ℕ)
file_of node instance (up.Object index kind.File info octets) = Some (file_name node instance index, octets)
file_of node instance _ = None

-- A file was put, if there is one: its name has these octets, and all others have what they had.
abbrev pub IsPut : Option (List ℕ × List ℕ) → (before after : Told) → Type 0
IsPut (Some file) before after = IfSome after (λ files. content_of files file.0 ≡ Some file.1) × ChangesOnly before after file.0
IsPut None before after = after ≡ before

-- A hand-up was told: its file was put, and its line written in one piece.
pub record IsTold (node : ℕ) (instance : ℕ) (handed : Up) (before after : Outside) : Type 0 where
  pub file : IsPut (file_of node instance handed) before.files after.files
  pub line : after ≡ record before { written = gained before.written (up_line node instance handed ∷ []); files = after.files }

-- the next hand-up was told
abbrev pub IsNextTold : ℕ → Option (ℕ × Up) → (before after : Outside) → Type 0
IsNextTold node (Some handed) before after = IsTold node handed.0 handed.1 before after
IsNextTold node None before after = ⊥

-- the datagram at this place was offered
abbrev pub IsOffered : ℕ → Place → (before after : Outside) → Type 0
IsOffered node (Offering octets) before after = after ≡ record before { network = with_offer before.network node octets }
IsOffered node _ before after = ⊥

-- The moment of a turn: its number times the profile's step; where that is 0 the clock was asked, and the moment does not fall.
pub record AsksMoment (s : Lone) (now : ℕ) (before after : Outside) : Type 0 where
  pub moment : IsNextMoment (s.turn + 1) s.profile.step s.now now before.moments after.moments
  pub rest : after ≡ record before { moments = after.moments }

-- What the outside has after an event, and had before it.
abbrev pub Shows : Lone → Event → (before after : Outside) → Type 0
Shows s (Begins now) before after = AsksMoment s now before after
Shows s (Takes to octets) before after = after ≡ record before { network = with_answer before.network (Some (to, octets)) }
Shows s FindsNone before after = after ≡ record before { network = with_answer before.network None }
Shows s HandsUp before after = IsNextTold s.node (next_up s.receiver) before after
Shows s Ticks before after = after ≡ before
Shows s Offers before after = IsOffered s.node s.place before after

-- An event that is due happened, and the rest followed from what the outside has then.
pub record Happens (s : Lone) (e : Event) (before : Outside) (Rest : Outside → Type 0) : Type 0 where
  pub due : IsDue s e
  pub between : Outside
  pub shows : Shows s e before between
  pub rest : Rest between

-- Nothing happened.
pub record IsSame (s last : Lone) (before after : Outside) : Type 0 where
  pub state : last ≡ s
  pub outside : after ≡ before

-- Events led one after the other from a state, and from what the outside had, to those.
unfoldable pub Goes : Lone → Outside → List Event → Lone → Outside → Type 0
Goes s before [] last shown = IsSame s last before shown
Goes s before (e ∷ events) last shown = Happens s e before (λ between. Goes (after s e) between events last shown)
