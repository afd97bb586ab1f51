-- In a lawful session each file that is handed up has a name.
use Rattle.std.proofs.Common.{◌≡◌, ℕ, suc, List, [], ◌∷◌, ◌++◌, map, Option, None, Some, sym, subst}
use Rattle.std.specs.List.{AllByRecursion}
use Rattle.norm_base.specs.Settings.{Settings}
use Rattle.norm_base.specs.declared.kinds.Kind.{Kind}
use Rattle.norm_base.specs.declared.kinds.Kind.TheVariants as kind
use Rattle.fec_plan.specs.Points.{Point}
use Rattle.norm_order.specs.Entries.{Object, Whole, Stream, Entry}
use Rattle.norm_order.specs.Segments.{Segment, segments}
use Rattle.norm_order.specs.Upto.{segment_up, parts_of}
use Rattle.norm_order.specs.declared.up.Up.{Up}
use Rattle.norm_order.specs.declared.up.Up.TheVariants as up
use Rattle.norm_safety.proofs.FilesNamed.{files_have_names}
use Rattle.norm_safety.proofs.OrderRun.{in_order_run}
use Rattle.norm_safety.specs.FilesHaveNames.{HasName}
use Rattle.norm_safety.specs.InOrder.{IsHandedOf, GoesThrough, Stops, Hands, Loses, Within}
use Rattle.norm_relay.specs.HandLaws.{handed_in}
use Rattle.norm_relay.specs.Handing.{IsLawfulSide}
use Rattle.norm_relay.specs.OrderLaws.{IsNamed, AreNamed}
use Rattle.norm_relay.specs.Sides.{Side}

pub front_named : (xs ys : List Up) → AreNamed (xs ++ ys) → AreNamed xs
front_named [] ys all = tt
front_named (x ∷ xs) ys all = (all.0, front_named xs ys all.1)

pub rest_named : (xs ys : List Up) → AreNamed (xs ++ ys) → AreNamed ys
rest_named [] ys all = all
rest_named (x ∷ xs) ys all = rest_named xs ys all.1

both_named : (xs ys : List Up) → AreNamed xs → AreNamed ys → AreNamed (xs ++ ys)
both_named [] ys a b = b
both_named (x ∷ xs) ys a b = (a.0, both_named xs ys a.1 b)

segment_named : (index : ℕ) (s : Segment) → IsNamed (segment_up index s)
segment_named index s = go s.octets
  where
    go : (octets : List ℕ) → IsNamed (elim octets [ [] ↦ up.StreamEnd index | octet ∷ more ↦ up.StreamBytes index s.offset (octet ∷ more) ])
    go [] = tt
    go (octet ∷ more) = tt

segments_named : (index : ℕ) (all : List Segment) → AreNamed (map (segment_up index) all)
segments_named index [] = tt
segments_named index (s ∷ all) = (segment_named index s, segments_named index all)

whole_named : (index : ℕ) (k : Kind) (info : Option (List ℕ)) (octets : List ℕ) → HasName (Whole k info octets) → IsNamed (up.Object index k info octets)
whole_named index kind.Data info octets has = tt
whole_named index kind.File (Some name) octets has = tt
whole_named index kind.File None octets has = absurd (never has.0 has.1)
  where
    never : (name : List ℕ) → None ≡ Some name → ⊥
    never name e = cc

object_named : (p : Settings) (index : ℕ) (o : Object) → HasName o → AreNamed (parts_of p index o)
object_named p index (Whole k info octets) has = (whole_named index k info octets has, tt)
object_named p index (Stream parts) has = (tt, segments_named index (segments p.e parts))

before_named : (p : Settings) (index : ℕ) (o : Object) (front : List Up) → HasName o → IsHandedOf p index o front → AreNamed front
before_named p index (Whole k info octets) front has none = subst AreNamed (sym none) tt
before_named p index (Stream parts) front has less =
    front_named front (less.0 ∷ less.1) (subst AreNamed less.2 (object_named p index (Stream parts) has))

through_named : (p : Settings) (d : Point) (index : ℕ) (order : List Entry) (ups : List Up) → GoesThrough p d index order ups
    → AllByRecursion (λ (x : Entry). HasName x.object) order → AreNamed ups
through_named p d index _ _ Stops has = tt
through_named p d index (_ ∷ order) _ (Hands {rest = rest} x goes) has =
    both_named (parts_of p index x.object) rest (object_named p index x.object has.0) (through_named p d (suc index) order rest goes has.1)
through_named p d index (_ ∷ order) _ (Loses {rest = rest} x front part may goes) has =
    both_named front (up.Lost index ∷ rest) (before_named p index x.object front has.0 part) (tt, through_named p d (suc index) order rest goes has.1)
through_named p d index (_ ∷ order) _ (Within x front stream part) has = before_named p index x.object front has.0 part

pub hands_named : (s : Side) (node id : ℕ) → IsLawfulSide s → AreNamed (handed_in s node id)
hands_named s node id lawful =
    through_named s.p _ 0 _ (handed_in s node id) ((in_order_run s.p lawful.range s.events lawful.lawful lawful.events).through node id)
    (files_have_names s.p s.events id)
