-- The closing of a round, over what a sender keeps.
use Rattle.std.proofs.Common.{◌≡◌, ◌∙◌, ℕ, ◌-◌, length, Bool, true, false, Option, Some, None, refl, sym, subst, ap, arith}
use Rattle.std.specs.Prelude.{min, nat_lt, nat_le}
use Rattle.std.specs.List.{list_any}
use Rattle.std.specs.Option.{option_map}
use Rattle.std.proofs.lemmas.Bool.Decides.{nat_tests}
use Rattle.norm_base.specs.Settings.{Settings}
use Rattle.norm_send_rules.specs.SenderState.{SenderState, Round, Asked}
use Rattle.norm_send_rules.specs.Closing.{round_closed, asks_early}
use Rattle.norm_send_rules.specs.Ticking.{closed_where_due}
use Rattle.nack_union.specs.UnionState.{UnionState, Stands as UnionStands}
use Rattle.norm_sender.specs.Pacing.{pace_of, is_over, closed_at}
use Rattle.norm_sender.specs.SenderKept.{SenderKept, Agrees}

-- a closing by its round
abbrev closed_by : Settings → ℕ → SenderState → Option Round → SenderState
closed_by p now s round = elim round [
  | Some r ↦ elim (nat_le r.closes now) [ true ↦ round_closed p r s | false ↦ s ]
  | None ↦ s
]

-- the round that closes
record Over (p : Settings) (now : ℕ) (s : SenderState) (round : Option Round) : Type 0 where
  round_of : Round
  is : round ≡ Some round_of
  closed : closed_by p now s round ≡ round_closed p round_of s

over : (p : Settings) (now : ℕ) (s : SenderState) (round : Option Round)
    → is_over (option_map (λ (r : Round). r.closes) round) now ≡ true → Over p now s round
over p now s None e = absurd (cc)
over p now s (Some r) e = record {
  round_of = r;
  is = refl;
  closed = ap (λ (b : Bool). elim b as (λ _. SenderState) [ true ↦ round_closed p r s | false ↦ s ]) e;
}

more_wants : (m n : ℕ) → nat_lt 0 (min (n - m) 4294967295) ≡ nat_lt m n
more_wants m n = grind (arith, nat_tests)

pub closed_stands : (k : SenderKept) (now : ℕ) (union : UnionState) (queued : ℕ) (early : Bool) (s : SenderState)
    → ((r : Round) (s : SenderState) → s.round ≡ Some r → UnionStands k.union s → UnionStands union (round_closed k.union.p r s))
    → ((r : Round) (s : SenderState) → s.round ≡ Some r → UnionStands k.union s
    → (queued ≡ min (length (round_closed k.union.p r s).wants - length s.wants) 4294967295)
    × (early ≡ list_any (λ (a : Asked). asks_early s.current.drop a.request) r.asked))
    → union.p ≡ k.union.p
    → is_over k.pace.closes now ≡ true
    → Agrees k s
    → Agrees (record k { union = union; pace = closed_at (nat_lt 0 queued) early k.pace }) (closed_where_due k.p now s)
closed_stands k now union queued early s stands answer profile e h =
    let o = over k.p now s s.round (ap (λ pace. is_over pace.closes now) (sym h.pace) ∙ e) in
    let r = o.round_of in
    let under = subst (λ (q : Settings). UnionStands union (round_closed q r s)) h.union_profile (stands r s o.is h.union) in
    let many = subst (λ (q : Settings). queued ≡ min (length (round_closed q r s).wants - length s.wants) 4294967295) h.union_profile (answer r s o.is h.union).0 in
    let wanted : nat_lt 0 queued ≡ nat_lt (length s.wants) (length (round_closed k.p r s).wants) = ap (nat_lt 0) many ∙ more_wants _ _ in
    subst (λ (t : SenderState). Agrees (record k { union = union; pace = closed_at (nat_lt 0 queued) early k.pace }) t) (sym o.closed)
    (record {
      window_profile = h.window_profile;
      filling = h.filling;
      union_profile = profile ∙ h.union_profile;
      window = h.window;
      union = under;
      book = h.book;
      pace =
          ap (closed_at (nat_lt 0 queued) early) h.pace
          ∙ ap (λ (b : Bool). closed_at b early (pace_of s)) wanted
          ∙ ap (λ (b : Bool). closed_at (nat_lt (length s.wants) (length (round_closed k.p r s).wants)) b (pace_of s)) (answer r s o.is h.union).1;
    })
