use Rattle.std.proofs.Common.{rules, ◌≡◌, ◌∙◌, ℕ, ◌<◌, List, [], length, replicate, None, false, true, refl, sym, ap, subst}
use Rattle.std.specs.Prelude.{nat_lt}
use Rattle.std.proofs.lemmas.Bool.{lt-ltb}
use Rattle.std.proofs.lemmas.List.{length-replicate}
use Rattle.norm_base.specs.Settings.{Settings, defaults}
use Rattle.norm_base.specs.declared.kinds.Kind.TheVariants.{Data}
use Rattle.fec_plan.specs.Partition.{Cut, cut_of}
use Rattle.fec_plan.specs.Points.{position, position_before}
use Rattle.fec_plan.specs.declared.position.Position.{Position}
use Rattle.norm_order.specs.Entries.{Entry, Whole}
use Rattle.norm_order.specs.Shapes.{encoded_in, is_encoded, shape_of}
use Rattle.norm_order.specs.Sets.{with_member}
use Rattle.norm_send_rules.specs.SenderState.{SenderState, sender_opening}
use Rattle.norm_send_rules.specs.InWindow.{current_shapes}
use Rattle.norm_send_rules.specs.Enqueuing.{with_entry}
use Rattle.nack_union.specs.Kept.{IsEncodedIn, admitted, shape_of_marked}
use Rattle.nack_union.specs.UnionState.{UnionState, Stands}
use Rattle.nack_union.proofs.Heard.{may_be_noted}
use Rattle.tests_sender_parts.proofs.nack_union_tests.two_sent.Goals as goal

-- an object of these octets
abbrev entry_of : List ℕ → Entry
entry_of octets = record { by = record { producer = 1; number = 1 }; object = Whole Data None octets }

-- a state of which that object is enqueued, and these symbols were sent
abbrev with_sent : Settings → List ℕ → List Position → SenderState
with_sent p octets sent = record (with_entry (entry_of octets) (sender_opening p 0)) { sent = sent }

-- how many encoded symbols its first block has
abbrev encoded : ℕ → ℕ
encoded len = encoded_in (shape_of_marked (admitted (cut_of len defaults.e defaults.b defaults.max_n) false)) 0

-- its shape is that of an object as it is admitted
is_admitted : (p : Settings) (octets : List ℕ) (len : ℕ) (cut : Cut) → length octets ≡ len → cut ≡ cut_of len p.e p.b p.max_n
    → shape_of p (Whole Data None octets) ≡ shape_of_marked (admitted cut false)
is_admitted p octets len cut many is =
    ap (λ (n : ℕ). shape_of_marked (admitted (cut_of n p.e p.b p.max_n) false)) many ∙ ap (λ (c : Cut). shape_of_marked (admitted c false)) (sym is)

-- each of its encoded symbols may be noted
may : (u : UnionState) (p : Settings) (octets : List ℕ) (sent : List Position) (len symbol : ℕ) → u.p ≡ defaults → length octets ≡ len
    → Stands u (with_sent p octets sent) → symbol < encoded len → IsEncodedIn u.kept (position 0 0 symbol)
may u p octets sent len symbol profile many stands lt =
    may_be_noted u (with_sent p octets sent) (position 0 0 symbol) stands
    (subst (λ (q : Settings). is_encoded (current_shapes q (with_sent p octets sent)) (position 0 0 symbol) ≡ true) (sym profile)
    (ap (λ (n : ℕ). nat_lt symbol (encoded n)) many ∙ lt-ltb symbol (encoded len) lt))
    refl

pub note_sent-requires-in-Ok : goal.note_sent-requires-in-Ok
note_sent-requires-in-Ok g c =
    let p = c.default-profile.result in
    let octets : List ℕ = replicate c.args.len 0 in
    let sent : List Position = with_member position_before c.symbol_at.result [] in
    let many : length octets ≡ c.args.len = length-replicate c.args.len 0 in
    let begun : c.new-union.result.p ≡ p = ap (λ (u : UnionState). u.p) c.new-union.ensures.empty in
    let profile : c.note_sent.new.self.p ≡ defaults =
    c.note_sent.ensures.profile ∙ ap (λ (u : UnionState). u.p) c.in-Ok.ensures.exact ∙ begun ∙ c.default-profile.ensures in
    let cut : c.expect-plan.result ≡ cut_of c.args.len c.new-union.result.p.e c.new-union.result.p.b c.new-union.result.p.max_n = search rules in
    let stands : Stands c.note_sent.new.self (with_sent p octets sent) =
    c.note_sent.ensures.stands (with_entry (entry_of octets) (sender_opening p 0)) (c.in-Ok.ensures.stands (entry_of octets) (is_admitted c.new-union.result.p octets c.args.len c.expect-plan.result many cut) (sender_opening p 0) (c.new-union.ensures.begun 0)) in
    subst (λ (at : Position). IsEncodedIn c.note_sent.new.self.kept at) (sym c.symbol_at-in-Ok.ensures)
    (may c.note_sent.new.self p octets sent c.args.len c.args.second profile many stands c.requires.second)
