-- The tests of safety say what they test.
use Rattle.std.proofs.Common.{◌≡◌, List, Bool, true, false, refl, sym}
use Rattle.std.specs.Prelude.{nat_eq, IsTrue, IfSome, Option, None, Some}
use Rattle.std.specs.Bool.{Decides, beq}
use Rattle.std.proofs.lemmas.Bool.Decides.{Decides-and}
use Rattle.norm_send_rules.specs.SenderState.{Watermark}
use Rattle.norm_safety.specs.Lawful.{same_origin}
use Rattle.norm_base.specs.Settings.{Settings}
use Rattle.fec_plan.specs.declared.position.Position.{Position}
use Rattle.norm_send_rules.specs.SenderState.{Listing}
use Rattle.norm_safety.specs.Events.{Event}
use Rattle.norm_safety.specs.History.{Happening, History, history}
use Rattle.norm_safety.specs.Fronts.{IsFront, is_front}
use Rattle.norm_safety.specs.ListedAfter.{ListedAfter, is_listed_after, before_mark, handed_now}
use Rattle.norm_safety.specs.Safe.{Safe, is_safe}
use Rattle.norm_safety.specs.OnceEach.{OnceEach, is_once_each, origins, instance_ids, has_its_place}
use Rattle.norm_safety.specs.SatisfiedExactly.{SatisfiedExactly, is_satisfied_exactly, is_satisfied, was_past, keeps_outcomes}
use Rattle.norm_safety.specs.Laws.{TestLaws}
use Rattle.norm_safety.proofs.FrontLemmas.{front_decides}
use Rattle.norm_safety.proofs.DistinctLemmas.{each_decides, distinct_decides}
use Rattle.norm_safety.proofs.LawfulLemmas.{lawful_decides}
use Rattle.norm_safety.proofs.RunLemmas.{order_decides}

clash : false ≡ true → ⊥
clash e = cc

is_true_decides : (b : Bool) → Decides b (IsTrue b)
is_true_decides b = (λ e. e, λ e. e)

same_decides : (a b : Bool) → Decides (beq a b) (a ≡ b)
same_decides true true = (λ e. refl, λ e. refl)
same_decides true false = (λ e. absurd (clash e), λ e. absurd (clash (sym e)))
same_decides false true = (λ e. absurd (clash e), λ e. absurd (clash e))
same_decides false false = (λ e. refl, λ e. refl)

once_decides : (h : History) → Decides (is_once_each h) (OnceEach h)
once_decides h =
    let by = distinct_decides same_origin (origins h.now.sender) in
    let ids = distinct_decides nat_eq (instance_ids h.now.sender) in
    let places = each_decides (λ (x : Happening). has_its_place h.now.sender x x.event x.answer)
    (λ x. IsTrue (has_its_place h.now.sender x x.event x.answer)) (λ x. is_true_decides _) h.happened in
    let all = Decides-and _ _ (Decides-and _ _ by ids) places in (
      λ e. let parts = all.0 e in record { origins = parts.0.0; ids = parts.0.1; places = parts.1 },
      λ once. all.1 ((once.origins, once.ids), once.places),
    )

satisfied_decides : (h : History) → Decides (is_satisfied_exactly h) (SatisfiedExactly h)
satisfied_decides h =
    let exactly = each_decides (λ (w : Watermark). beq (is_satisfied w) (was_past h.happened w.mark))
    (λ w. is_satisfied w ≡ was_past h.happened w.mark) (λ w. same_decides _ _) h.now.sender.watermarks in
    let stays = each_decides keeps_outcomes (λ x. IsTrue (keeps_outcomes x)) (λ x. is_true_decides _) h.happened in
    let all = Decides-and _ _ exactly stays in (
      λ e. let parts = all.0 e in record { exactly = parts.0; stays = parts.1 },
      λ right. all.1 (right.exactly, right.stays),
    )

listed_decides : (p : Settings) (h : History) → Decides (is_listed_after p h) (ListedAfter p h)
listed_decides p h =
    let all = each_decides (λ (l : Listing). test l l.past) (λ l. IfSome l.past (λ at. IsFront (before_mark p h at) (handed_now h l.node)))
    (λ l. go l l.past) h.now.sender.listings in
    (λ e. record { each = all.0 e }, λ listed. all.1 listed.each)
  where
    test : Listing → Option Position → Bool
    test l past = elim past [ Some at ↦ is_front (before_mark p h at) (handed_now h l.node) | None ↦ true ]

    go : (l : Listing) (past : Option Position) → Decides (test l past) (IfSome past (λ at. IsFront (before_mark p h at) (handed_now h l.node)))
    go l (Some at) = front_decides (before_mark p h at) (handed_now h l.node)
    go l None = (λ e. tt, λ all. refl)

safe_decides : (p : Settings) (events : List Event) → Decides (is_safe p (history p events)) (Safe p events)
safe_decides p events =
    let h = history p events in
    let all = Decides-and _ _ (Decides-and _ _ (Decides-and _ _ (once_decides h) (order_decides p events)) (listed_decides p h)) (satisfied_decides h) in (
      λ e. let parts = all.0 e in record { once = parts.0.0.0; order = parts.0.0.1; listed = parts.0.1; satisfied = parts.1 },
      λ safe. all.1 (((safe.once, safe.order), safe.listed), safe.satisfied),
    )

pub test_laws : TestLaws
test_laws = record {
  once = once_decides;
  order = order_decides;
  listed = listed_decides;
  satisfied = satisfied_decides;
  safe = safe_decides;
  lawful = lawful_decides;
}
