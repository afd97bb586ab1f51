-- What becomes of a want in a step of a sender.
use Rattle.std.proofs.Common.{◌≡◌, ℕ, zero, suc, ◌+◌, cond, List, [], ◌∷◌, ◌++◌, length, Bool, true, false, Option, None, Some, Ok, Err, refl, sym, ap, subst, ◌∙◌, arith, ◌⊎◌, inl, inr}
use Rattle.std.specs.Prelude.{Contains, filter, not, nat_lt, nat_le, ◌||◌}
use Rattle.std.specs.List.{list_any}
use Rattle.norm_base.specs.Settings.{Settings}
use Rattle.norm_base.specs.declared.kinds.Kind.TheVariants as kind
use Rattle.norm_base.specs.declared.node.Origin.{Origin}
use Rattle.fec_plan.specs.Points.{Point}
use Rattle.fec_plan.specs.declared.position.Position.{Position}
use Rattle.norm_ext.specs.Reading.{decoded}
use Rattle.norm_ext.specs.Written.{Written, writes}
use Rattle.norm_order.specs.Entries.{Object, Write, Cut, End, Whole, Stream}
use Rattle.norm_order.specs.Segments.{unclosed}
use Rattle.norm_order.specs.Sets.{with_member, with_members}
use Rattle.norm_order.specs.Shapes.{last_source}
use Rattle.norm_send_rules.specs.Closing.{asked_in, round_closed}
use Rattle.norm_send_rules.specs.Commanding.{commanded}
use Rattle.norm_send_rules.specs.Dropping.{dropped_to}
use Rattle.norm_send_rules.specs.Enqueuing.{object_fault, joined}
use Rattle.norm_send_rules.specs.Hearing.{heard}
use Rattle.norm_send_rules.specs.InWindow.{stands_behind, last_index, current_shapes}
use Rattle.norm_send_rules.specs.Marking.{is_no_quorum, most_open, watermark_at, with_watermark, cut_and_marked}
use Rattle.norm_send_rules.specs.Messages.{squelch_message}
use Rattle.norm_send_rules.specs.NoneForgotten.{Brings, Carries, Fate, Stays, Goes, Drops, Ends, NoneForgotten}
use Rattle.norm_send_rules.specs.Restarting.{is_used, begun_anew}
use Rattle.norm_send_rules.specs.Room.{size_of, window, has_to_go, drop_after, stream_drop}
use Rattle.norm_send_rules.specs.SenderState.{SenderState, Instance, Watermark, Round}
use Rattle.norm_send_rules.specs.SenderStep as events
use Rattle.norm_send_rules.specs.SenderStep.{SenderEvent, SenderAnswer, Answered, Silent, Sent, Told, sender_step}
use Rattle.norm_send_rules.specs.Sending.{sends, noted, repair_flags, message_of, object_of, sends_want, repairs_next}
use Rattle.norm_send_rules.specs.Streaming.{open_fault, used_segments, with_parts, parts_now, write_fault, close_fault, grown, cut}
use Rattle.norm_send_rules.specs.Striking.{strike_fault, without_node, struck_off}
use Rattle.norm_send_rules.specs.Telling.{told}
use Rattle.norm_send_rules.specs.Ticking.{closed_where_due, sends_further, sends_wanted, sends_first, ticked}
use Rattle.norm_send_rules.specs.Wants.{want_before, want_index}
use Rattle.norm_send_rules.specs.Watermarks.{keeps_oldest, counted_anew, settled, open_watermarks}
use Rattle.norm_send_rules.specs.declared.job.Job.{Job}
use Rattle.norm_send_rules.specs.declared.job.Job.TheVariants as job
use Rattle.norm_send_rules.specs.declared.want.Want.{Want}
use Rattle.norm_send_rules.specs.declared.want.Want.TheVariants.{Info, Symbol}
use Rattle.norm_send_rules.proofs.StepLemmas.{heard_same, told_same}
use Rattle.norm_send_rules.proofs.WantLemmas.{either}

-- ---- members of lists

-- a member
abbrev IsIn : List Want → Want → Type 0
IsIn [] w = ⊥
IsIn (v ∷ vs) w = (v ≡ w) ⊎ IsIn vs w

in_of : (vs : List Want) (w : Want) → Contains vs w → IsIn vs w
in_of [] w has = absurd (omega (arith, has.1))
in_of (v ∷ vs) w (zero, lt, is) = inl is
in_of (v ∷ vs) w (suc k, lt, is) = inr (in_of vs w (k, omega (arith, lt), is))

contains_of : (vs : List Want) (w : Want) → IsIn vs w → Contains vs w
contains_of [] w has = absurd has
contains_of (v ∷ vs) w (inl is) = (zero, omega arith, is)
contains_of (v ∷ vs) w (inr has) = let more = contains_of vs w has in (suc more.0, (let lt = more.1 in omega (arith, lt)), more.2)

in_filter : (test : Want → Bool) (vs : List Want) (w : Want) → test w ≡ true → IsIn vs w → IsIn (filter test vs) w
in_filter test [] w e has = absurd has
in_filter test (v ∷ vs) w e has = go (test v) refl has (in_filter test vs w e)
  where
    clash : false ≡ true → ⊥
    clash e = cc

    go : (b : Bool) → test v ≡ b → (v ≡ w) ⊎ IsIn vs w → (IsIn vs w → IsIn (filter test vs) w) → IsIn (cond b (v ∷ filter test vs) (filter test vs)) w
    go true f (inl is) more = inl is
    go true f (inr has) more = inr (more has)
    go false f (inl is) more = absurd (clash (sym f ∙ ap test is ∙ e))
    go false f (inr has) more = more has

-- one of them passes a test
any_of : (test : Want → Bool) (vs : List Want) (w : Want) → test w ≡ true → IsIn vs w → list_any test vs ≡ true
any_of test [] w e has = absurd has
any_of test (v ∷ vs) w e (inl is) = ap (λ (b : Bool). b || list_any test vs) (ap test is ∙ e)
any_of test (v ∷ vs) w e (inr has) = or_last (test v) (list_any test vs) (any_of test vs w e has)
  where
    or_last : (a b : Bool) → b ≡ true → (a || b) ≡ true
    or_last true b h = refl
    or_last false b h = h

-- with one more, by what the two comparisons say
abbrev put : Bool → Bool → Want → Want → List Want → List Want
put b c x y ys = elim b [
  | true ↦ x ∷ y ∷ ys
  | false ↦ elim c [ true ↦ y ∷ with_member want_before x ys | false ↦ y ∷ ys ]
]

with_in : (x : Want) (ys : List Want) (w : Want) → IsIn ys w → IsIn (with_member want_before x ys) w
unfolding with_member
with_in x [] w has = absurd has
with_in x (y ∷ ys) w has = go (want_before x y) (want_before y x) has (with_in x ys w)
  where
    go : (b c : Bool) → (y ≡ w) ⊎ IsIn ys w → (IsIn ys w → IsIn (with_member want_before x ys) w) → IsIn (put b c x y ys) w
    go true c has more = inr has
    go false true (inl is) more = inl is
    go false true (inr has) more = inr (more has)
    go false false has more = has

more_in : (more ys : List Want) (w : Want) → IsIn ys w → IsIn (with_members want_before more ys) w
more_in [] ys w has = has
more_in (x ∷ more) ys w has = more_in more (with_member want_before x ys) w (with_in x ys w has)

-- ---- what a state keeps, whatever is answered

abbrev LeftSo : SenderState → SenderState → Want → Type 0
LeftSo s t w = (answer : SenderAnswer) → Fate s (t, answer) w

keeps_want : (s t : SenderState) (w : Want) → t.wants ≡ s.wants → IsIn s.wants w → LeftSo s t w
keeps_want s t w same has answer = Stays (contains_of t.wants w (subst (λ (wants : List Want). IsIn wants w) (sym same) has))

-- all before a point is dropped
drops_want : (d : Point) (s t : SenderState) (w : Want) → t.wants ≡ (dropped_to d s).wants → t.current.drop ≡ d → t.squelch_due ≡ (dropped_to d s).squelch_due
    → IsIn s.wants w → LeftSo s t w
drops_want d s t w wants at due has answer = go (stands_behind d w) refl
  where
    turned : (b : Bool) → b ≡ false → not b ≡ true
    turned true e = sym e
    turned false e = refl

    or_last : (a b : Bool) → b ≡ true → (a || b) ≡ true
    or_last true b h = refl
    or_last false b h = h

    go : (b : Bool) → stands_behind d w ≡ b → Fate s (t, answer) w
    go true e = Stays (contains_of t.wants w (subst (λ (wants : List Want). IsIn wants w) (sym wants) (in_filter (stands_behind d) s.wants w e has)))
    go false e = Drops (ap (λ (x : Point). stands_behind x w) at ∙ e)
        (due ∙ or_last s.squelch_due (list_any (λ v. not (stands_behind d v)) s.wants)
        (any_of (λ v. not (stands_behind d v)) s.wants w (turned (stands_behind d w) e) has))

joins_want : (p : Settings) (by : Origin) (object : Object) (s : SenderState) (w : Want) → IsIn s.wants w → LeftSo s (joined p by object s) w
joins_want p by object s w has = drops_want (drop_after s.current.drop (has_to_go p (size_of p object) (window s))) s (joined p by object s) w refl refl refl has

unless : {A B : Type 0} (fault : Option A) (s t : SenderState) (refuses : A → B) (gives : B) (w : Want) → IsIn s.wants w → LeftSo s t w
    → LeftSo s (elim fault as (λ _. SenderState × B) [ Some f ↦ (s, refuses f) | None ↦ (t, gives) ]).0 w
unless (Some f) s t refuses gives w has h = keeps_want s s w refl has
unless None s t refuses gives w has h = h

-- ---- what leaves the wants

anew_wants : (s t : SenderState) → (counted_anew s t).wants ≡ t.wants
anew_wants s t = go (keeps_oldest s t)
  where
    go : (b : Bool) → (elim b as (λ _. SenderState) [ true ↦ t | false ↦ record t { flushes = 0 } ]).wants ≡ t.wants
    go true = refl
    go false = refl

cut_wants : (p : Settings) (s : SenderState) → (cut p s).wants ≡ s.wants
cut_wants p s = go (unclosed p.e (parts_now s))
  where
    go : (n : ℕ) → (elim n as (λ _. SenderState) [ zero ↦ s | suc k ↦ with_parts (parts_now s ++ Cut ∷ []) s ]).wants ≡ s.wants
    go zero = refl
    go (suc n) = refl

either_wants : {A : Type 0} (b : Bool) (s : SenderState) (t u : SenderState × A) → t.0.wants ≡ s.wants → u.0.wants ≡ s.wants
    → (either b t u).0.wants ≡ s.wants
either_wants true s t u h k = h
either_wants false s t u h k = k

watermark_wants : (s : SenderState) (by : Origin) (quorum : Option ℕ) (found : Option Position) → (watermark_at s by quorum found).0.wants ≡ s.wants
watermark_wants s by quorum None = refl
watermark_wants s by quorum (Some at) =
    let w : Watermark = record { mark = length s.watermarks + 1; by = by; at = at; quorum = quorum; ended = None } in
    either_wants (nat_le most_open (length (open_watermarks s))) s (s, _) (with_watermark s by quorum at, _) refl
    (anew_wants s (settled (record s { watermarks = s.watermarks ++ w ∷ [] })))

mark_wants : (p : Settings) (s : SenderState) (by : Origin) (quorum : Option ℕ) → (cut_and_marked p s by quorum).0.wants ≡ s.wants
mark_wants p s by quorum = watermark_wants (cut p s) by quorum (last_source (current_shapes p (cut p s))) ∙ cut_wants p s

-- ---- commands

restart_leaves : (s : SenderState) (id : ℕ) (b : Bool) {A : Type 0} (refusal gives : A) (w : Want) → IsIn s.wants w
    → LeftSo s (either b (s, refusal) (begun_anew id s, gives)).0 w
restart_leaves s id true refusal gives w has = keeps_want s s w refl has
restart_leaves s id false refusal gives w has = λ answer. Ends refl

commands_leave : (p : Settings) (s : SenderState) (by : Origin) (job : Job) (w : Want) → IsIn s.wants w → LeftSo s (commanded p s by job).0 w
commands_leave p s by (job.Data info bytes) w has =
    unless (object_fault p s info bytes) s (joined p by (Whole kind.Data info bytes) s) Err (Ok _) w has (joins_want p by (Whole kind.Data info bytes) s w has)
commands_leave p s by (job.File name bytes) w has =
    unless (object_fault p s (Some name) bytes) s (joined p by (Whole kind.File (Some name) bytes) s) Err (Ok _) w has
    (joins_want p by (Whole kind.File (Some name) bytes) s w has)
commands_leave p s by job.Open w has = unless (open_fault p s) s (joined p by (Stream []) s) Err (Ok _) w has (joins_want p by (Stream []) s w has)
commands_leave p s by (job.Write bytes) w has =
    let parts = parts_now s ++ Write by bytes ∷ [] in
    unless (write_fault p s bytes parts) s (grown p s parts) Err (Ok _) w has
    (drops_want (stream_drop p s (last_index s) (used_segments p parts)) s (grown p s parts) w refl refl refl has)
commands_leave p s by job.Close w has =
    let parts = parts_now s ++ End ∷ [] in
    unless (close_fault p s parts) s (grown p s parts) Err (Ok _) w has
    (drops_want (stream_drop p s (last_index s) (used_segments p parts)) s (grown p s parts) w refl refl refl has)
commands_leave p s by (job.Mark None) w has = keeps_want s _ w (mark_wants p s by None) has
commands_leave p s by (job.Mark (Some q)) w has =
    keeps_want s _ w (either_wants (is_no_quorum p q) s (s, _) (cut_and_marked p s by (Some q)) refl (mark_wants p s by (Some q))) has
commands_leave p s by (job.Restart instance) w has = restart_leaves s instance (is_used s instance) _ _ w has
commands_leave p s by (job.Strike node) w has =
    unless (strike_fault s node) s (struck_off node s) Err (Ok _) w has
    (keeps_want s (struck_off node s) w (anew_wants s (settled (without_node node s))) has)

-- ---- a tick

-- a want stays, or is sent
abbrev TickFate : ℕ → SenderState × Option Written → Want → Type 0
TickFate instance step w = IsIn step.0.wants w ⊎ ((datagram : Written) × (step.1 ≡ Some datagram) × Carries instance datagram w)

message_brings : (p : Settings) (s : SenderState) (w : Want) (object : Object) (repair : ℕ) → Brings s.current.id w (message_of p s w object repair)
message_brings p s (Symbol at) object repair = (refl, refl, refl)
message_brings p s (Info index) (Whole kind None octets) repair = refl
message_brings p s (Info index) (Whole kind (Some info) octets) repair = refl
message_brings p s (Info index) (Stream parts) repair = refl

noted_wants : (v : Want) (s : SenderState) → (noted v s).wants ≡ s.wants
noted_wants (Info index) s = refl
noted_wants (Symbol at) s = refl

is_sent : (p : Settings) (now : ℕ) (repair : Object → ℕ) (w : Want) (s : SenderState) → TickFate s.current.id (sends_want p now repair w s) w
is_sent p now repair w s =
    let object = object_of s w in
    inr (writes (message_of p s w object (repair object)) (want_index w ∷ []), refl, record { written = refl; brings = message_brings p s w object (repair object) })

is_left : (p : Settings) (now : ℕ) (repair : Object → ℕ) (v w : Want) (s : SenderState) → IsIn s.wants w → TickFate s.current.id (sends_want p now repair v s) w
is_left p now repair v w s has = inl (subst (λ (wants : List Want). IsIn wants w) (sym (noted_wants v s)) has)

wanted_fate : (p : Settings) (now : ℕ) (s : SenderState) (w : Want) → IsIn s.wants w → TickFate s.current.id (sends_wanted p now s) w
wanted_fate p now s w has = go s.wants has
  where
    go : (wants : List Want) → IsIn wants w → TickFate s.current.id (elim wants [ [] ↦ sends_further p now s | v ∷ vs ↦ repairs_next p now v vs s ]) w
    go [] has = absurd has
    go (v ∷ vs) (inl is) =
        subst (λ (x : Want). TickFate s.current.id (repairs_next p now v vs s) x) is (is_sent p now (λ object. repair_flags p object v) v (record s { wants = vs }))
    go (v ∷ vs) (inr has) = is_left p now (λ object. repair_flags p object v) v w (record s { wants = vs }) has

first_fate : (p : Settings) (now : ℕ) (s : SenderState) (w : Want) → IsIn s.wants w → TickFate s.current.id (sends_first p now s) w
first_fate p now s w has = go s.squelch_due
  where
    go : (due : Bool) → TickFate s.current.id (elim due [
      | true ↦ sends p now (writes (squelch_message p s s.current.drop) (s.current.drop.index ∷ [])) (record s { squelch_due = false })
      | false ↦ sends_wanted p now s
    ]) w
    go true = inl has
    go false = wanted_fate p now s w has

-- a round that closes only adds wants
closed_in : (p : Settings) (now : ℕ) (s : SenderState) (w : Want) → IsIn s.wants w
    → IsIn (closed_where_due p now s).wants w × ((closed_where_due p now s).current ≡ s.current)
closed_in p now s w has = go s.round
  where
    Left : SenderState → Type 0
    Left t = IsIn t.wants w × (t.current ≡ s.current)

    by : (b : Bool) (r : Round) → Left (elim b [ true ↦ round_closed p r s | false ↦ s ])
    by true r = (more_in (filter (stands_behind s.current.drop) (asked_in p s r.asked)) s.wants w has, refl)
    by false r = (has, refl)

    go : (round : Option Round)
        → Left (elim round [ Some r ↦ elim (nat_le r.closes now) [ true ↦ round_closed p r s | false ↦ s ] | None ↦ s ])
    go (Some r) = by (nat_le r.closes now) r
    go None = (has, refl)

tick_fate : (p : Settings) (s : SenderState) (now : ℕ) (w : Want) → IsIn s.wants w → TickFate s.current.id (ticked p s now) w
tick_fate p s now w has =
    let left = closed_in p now s w has in
    subst (λ (i : Instance). TickFate i.id (ticked p s now) w) left.1 (go (closed_where_due p now s) left.0 (nat_lt now (closed_where_due p now s).next_send))
  where
    go : (c : SenderState) → IsIn c.wants w → (early : Bool) → TickFate c.current.id (elim early [ true ↦ (c, None) | false ↦ sends_first p now c ]) w
    go c has true = inl has
    go c has false = first_fate p now c w has

-- ---- each step

none_is : (p : Settings) (s : SenderState) (event : SenderEvent) (w : Want) → IsIn s.wants w → Fate s (sender_step p s event) w
none_is p s (events.Commanded by job now) w has = commands_leave p s by job w has (Answered (commanded p s by job).1)
none_is p s (events.Delivered datagram now) w has = keeps_want s (heard p s datagram now) w (heard_same p s now (decoded datagram)).1 has Silent
none_is p s (events.Ticked now) w has = go (tick_fate p s now w has)
  where
    go : TickFate s.current.id (ticked p s now) w → Fate s ((ticked p s now).0, Sent (ticked p s now).1) w
    go (inl has) = Stays (contains_of (ticked p s now).0.wants w has)
    go (inr (datagram, is, carries)) = Goes datagram (ap Sent is) carries
none_is p s events.NewsAsked w has = keeps_want s (told s).0 w (told_same s).1 has (Told (told s).1)

pub none_forgotten : NoneForgotten
none_forgotten p s event w has = none_is p s event w (in_of s.wants w has)
