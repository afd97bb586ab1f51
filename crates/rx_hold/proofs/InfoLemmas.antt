-- An info that comes to a front: the word that it gets.
use Rattle.std.proofs.Common.{◌≡◌, ℕ, ◌+◌, ◌-◌, ◌<◌, ◌≤◌, ◌⊎◌, inl, inr, refl, sym, ap, ◌∙◌, subst, arith, Option, Some, None, List, length, Bool, true, false}
use Rattle.std.specs.Prelude.{is_some, not, nat_lt, ◌||◌, MatchOption}
use Rattle.std.proofs.lemmas.Bool.{cases_lt, le-ltb, lt-ltb}
use Rattle.norm_base.specs.Settings.{Settings}
use Rattle.fec_plan.specs.declared.position.Position.{Position}
use Rattle.norm_receive_rules.specs.Holding.{Holding, Plan}
use Rattle.norm_receive_rules.specs.Plans.{info_of, is_over, plan_of, says_info}
use Rattle.norm_receive_rules.specs.Putting.{put_info_by, put_info_of}
use Rattle.norm_receive_rules.specs.declared.words.Put.{Put}
use Rattle.norm_receive_rules.specs.declared.words.Put.TheVariants as put
use Rattle.rx_hold.specs.EntryState.{EntryState}
use Rattle.rx_hold.specs.EntryHold.{StandsFor, entry_at}
use Rattle.rx_hold.proofs.EntryStands.{placed_at}
use Rattle.rx_hold.specs.FrontSound.{IsFront, front_view}
use Rattle.rx_hold.specs.Seats.{states_of}
use Rattle.rx_hold.specs.declared.front.Front.{Front}
use Rattle.rx_hold.proofs.ReadLemmas.{past_end, read_info, read_none, read_plan}
use Rattle.rx_hold.proofs.SeatLemmas.{placed}

abbrev by_found : Settings → Holding → List ℕ → Bool → Option Plan → Put
by_found p s info over found = elim over as (λ _. Put) [
  | true ↦ put.Had
  | false ↦ elim found as (λ _. Put) [ Some plan ↦ put_info_by p s plan info | None ↦ put.Away ]
]

-- whether it is held, and whether it is too long or the object has none
abbrev pub by_bools : Bool → Bool → Put
by_bools told bad = elim told as (λ _. Put) [ true ↦ put.Had | false ↦ elim bad as (λ _. Put) [ true ↦ put.Unfit | false ↦ put.Kept ] ]

module _ (f : Front) (s : Holding) (index : ℕ) (info : List ℕ) (front : IsFront f) (stands : StandsFor (front_view f) s) where
  at_point : s.point.index ≡ f.point
  at_point = ap (λ (y : Position). y.index) stands.point

  pub info_over : index < f.point → put.Had ≡ put_info_of f.profile s index info
  info_over lt = sym (ap (λ b. by_found f.profile s info b (plan_of s index)) (lt-ltb index s.point.index (let at = at_point in omega (arith, at, lt))))

  module _ (le : f.point ≤ index) where
    open_still : is_over s index ≡ false
    open_still = le-ltb index s.point.index (let at = at_point in omega (arith, at, le))

    pub info_away : entry_at (states_of f.ring.items) (index - f.point) ≡ None → put.Away ≡ put_info_of f.profile s index info
    info_away e =
        sym (ap (λ b. by_found f.profile s info b (plan_of s index)) open_still ∙ ap (by_found f.profile s info false) (read_none f s index front stands le e))

    pub info_there : (o : EntryState) (told bad : Bool) → entry_at (states_of f.ring.items) (index - f.point) ≡ Some o → is_some o.info ≡ told
        → (nat_lt f.profile.e (length info) || not (says_info o.plan.flags)) ≡ bad → by_bools told bad ≡ put_info_of f.profile s index info
    info_there o told bad e is test =
        ap (λ b. by_bools b bad) (sym is ∙ read_info f s index front stands le o e ∙ ap (λ n. is_some (info_of s n)) (sym own))
        ∙ ap (λ b. by_bools (is_some (info_of s o.plan.index)) b) (sym test)
        ∙ sym (ap (λ b. by_found f.profile s info b (plan_of s index)) open_still ∙ ap (by_found f.profile s info false) (read_plan f s index front stands le o e))
      where
        own : o.plan.index ≡ index
        own =
            (placed_at f.profile f.point (index - f.point) (states_of f.ring.items) o (placed f.profile f.point f.ring.items front.seats) e).index
            ∙ (let at : f.point + (index - f.point) ≡ index = omega (arith, le) in at)

none_told : (told : Option (List ℕ)) → is_some told ≡ false → told ≡ None
none_told None e = refl
none_told (Some x) e = absurd (cc e)

pub may_inform : (f : Front) (index : ℕ) (o : EntryState) → f.point ≤ index → entry_at (states_of f.ring.items) (index - f.point) ≡ Some o → is_some o.info ≡ false
    → (f.point ≤ index) × MatchOption (entry_at (states_of f.ring.items) (index - f.point)) ⊥ (λ (x : EntryState). x.info ≡ None)
may_inform f index o le e none =
    (le, subst (λ (found : Option EntryState). MatchOption found ⊥ (λ (x : EntryState). x.info ≡ None)) (sym e) (none_told o.info none))

pub near_there : (f : Front) (index : ℕ) → IsFront f → MatchOption (entry_at (states_of f.ring.items) (index - f.point)) ⊥ (λ (x : EntryState). x.info ≡ None) → index - f.point < 256
near_there f index front there = go (cases_lt (index - f.point) 256)
  where
    go : (index - f.point < 256) ⊎ (256 ≤ index - f.point) → index - f.point < 256
    go (inl lt) = lt
    go (inr le) =
        absurd (subst (λ (found : Option EntryState). MatchOption found ⊥ (λ (x : EntryState). x.info ≡ None))
        (past_end f.ring.items (index - f.point) (omega (arith, le, front.places))) there)
