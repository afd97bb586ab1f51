-- Hand-ups that are equal, and lists of them that begin with others.
use Rattle.std.specs.Prelude.{◌≡◌, ◌==◌, ◌&&◌, List, [], ◌∷◌, ◌++◌, Bool, true, false, nat_eq}
use Rattle.std.specs.Option.{option_eq}
use Rattle.std.specs.Cmp.Lexicographic.{pointwise}
use Rattle.norm_base.specs.declared.kinds.Kind.{Kind}
use Rattle.norm_base.specs.declared.kinds.Kind.TheVariants as kind
use Rattle.norm_order.specs.declared.up.Up.{Up}
use Rattle.norm_order.specs.declared.up.Up.TheVariants as up

-- a list is a front of another
abbrev pub IsFront : {X : Type 0} → List X → List X → Type 0
IsFront {X} front whole = (rest : List X) × (whole ≡ front ++ rest)

-- two kinds are equal
abbrev pub same_kind : Kind → Kind → Bool
same_kind kind.Data kind.Data = true
same_kind kind.File kind.File = true
same_kind _ _ = false

-- two hand-ups are equal
abbrev pub same_up : Up → Up → Bool
same_up (up.Object i k info bytes) (up.Object j l other octets) =
    i == j && same_kind k l && option_eq (pointwise nat_eq) info other && pointwise nat_eq bytes octets
same_up (up.StreamOpen i) (up.StreamOpen j) = i == j
same_up (up.StreamBytes i offset bytes) (up.StreamBytes j other octets) = i == j && offset == other && pointwise nat_eq bytes octets
same_up (up.StreamEnd i) (up.StreamEnd j) = i == j
same_up (up.Lost i) (up.Lost j) = i == j
same_up _ _ = false

-- a list of hand-ups is a front of another
unfoldable pub is_front : List Up → List Up → Bool
is_front [] whole = true
is_front (x ∷ front) [] = false
is_front (x ∷ front) (y ∷ whole) = elim (same_up x y) [ true ↦ is_front front whole | false ↦ false ]
