-- A round asked for what lies before the window exactly where the first point from which it counts lies before it.
use Rattle.std.proofs.Common.{◌≡◌, ℕ, List, [], ◌∷◌, map, Bool, true, false, Option, Some, None, refl, sym, ap, ◌∙◌, arith}
use Rattle.std.specs.Prelude.{nat_lt, ◌&&◌, ◌||◌, ◌==◌}
use Rattle.std.specs.List.{list_any}
use Rattle.std.proofs.Math.Bool.{or_assoc}
use Rattle.std.proofs.lemmas.Bool.Decides.{nat_tests}
use Rattle.fec_plan.specs.Points.{Point, point_before}
use Rattle.fec_plan.specs.declared.position.Position.{Position}
use Rattle.norm_ext.specs.Asking.{Named}
use Rattle.norm_send_rules.specs.SenderState.{Asked}
use Rattle.norm_send_rules.specs.Closing.{asks_early, gives_something, begins_at, counts_from}
use Rattle.nack_union.specs.Earliest.{lesser, least_with, earliest, earliest_with, is_before_window}

or_false : (a : Bool) → (a || false) ≡ a
or_false true = refl
or_false false = refl

-- the nearer of two is before where one is
by_numbers : (ai ab bi bb di db : ℕ) (t : Bool) → (nat_lt bi ai || (bi == ai && nat_lt bb ab)) ≡ t
    → (elim t as (λ _. Bool) [ true ↦ nat_lt bi di || (bi == di && nat_lt bb db) | false ↦ nat_lt ai di || (ai == di && nat_lt ab db) ])
    ≡ ((nat_lt ai di || (ai == di && nat_lt ab db)) || (nat_lt bi di || (bi == di && nat_lt bb db)))
by_numbers ai ab bi bb di db true e = grind (arith, nat_tests)
by_numbers ai ab bi bb di db false e = grind (arith, nat_tests)

nearer_before : (d a b : Point) (t : Bool) → point_before b a ≡ t
    → point_before (elim t as (λ _. Point) [ true ↦ b | false ↦ a ]) d ≡ (elim t as (λ _. Bool) [ true ↦ point_before b d | false ↦ point_before a d ])
nearer_before d a b true e = refl
nearer_before d a b false e = refl

before_lesser : (d : Point) (a b : Option Point) → is_before_window (lesser a b) d ≡ (is_before_window a d || is_before_window b d)
before_lesser d None b = refl
before_lesser d (Some a) None = sym (or_false (point_before a d))
before_lesser d (Some a) (Some b) =
    nearer_before d a b (point_before b a) refl ∙ by_numbers a.index a.block b.index b.block d.index d.block (point_before b a) refl

before_least : (d : Point) (found : Option Point) (points : List Point) → is_before_window (least_with found points) d ≡ (is_before_window found d || list_any (λ at. point_before at d) points)
before_least d found [] = sym (or_false (is_before_window found d))
before_least d found (at ∷ points) =
    before_least d (lesser found (Some at)) points
    ∙ ap (λ t. t || list_any (λ at. point_before at d) points) (before_lesser d found (Some at))
    ∙ or_assoc (is_before_window found d) (point_before at d) (list_any (λ at. point_before at d) points)

any_counts : (flags : ℕ) (places : List Position) (d : Point)
    → list_any (λ at. point_before at d) (map (counts_from flags) places) ≡ list_any (λ at. point_before (counts_from flags at) d) places
any_counts flags [] d = refl
any_counts flags (at ∷ places) d = ap (λ t. point_before (counts_from flags at) d || t) (any_counts flags places d)

-- of one request
before_earliest : (d : Point) (r : Named) → is_before_window (earliest r) d ≡ asks_early d r
before_earliest d r = go (gives_something r)
  where
    go : (b : Bool) → is_before_window (elim b as (λ _. Option Point) [ true ↦ least_with None (map (counts_from r.flags) (begins_at r)) | false ↦ None ]) d
        ≡ (b && list_any (λ at. point_before (counts_from r.flags at) d) (begins_at r))
    go true = before_least d None (map (counts_from r.flags) (begins_at r)) ∙ any_counts r.flags (begins_at r) d
    go false = refl

before_all : (d : Point) (found : Option Point) (asked : List Asked)
    → is_before_window (earliest_with found (map (λ (a : Asked). a.request) asked)) d ≡ (is_before_window found d || list_any (λ (a : Asked). asks_early d a.request) asked)
before_all d found [] = sym (or_false (is_before_window found d))
before_all d found (a ∷ asked) =
    before_all d (lesser found (earliest a.request)) asked
    ∙ ap (λ t. t || list_any (λ (a : Asked). asks_early d a.request) asked)
    (before_lesser d found (earliest a.request) ∙ ap (λ t. is_before_window found d || t) (before_earliest d a.request))
    ∙ or_assoc (is_before_window found d) (asks_early d a.request) (list_any (λ (a : Asked). asks_early d a.request) asked)

-- of a round
pub early_is : (d : Point) (asked : List Asked)
    → is_before_window (earliest_with None (map (λ (a : Asked). a.request) asked)) d ≡ list_any (λ (a : Asked). asks_early d a.request) asked
early_is d asked = before_all d None asked
