-- What a step of the sender makes of its watermarks: each is satisfied exactly where enough members are listed past it.
use Rattle.std.proofs.Common.{◌≡◌, ℕ, zero, suc, ◌+◌, ◌<◌, ◌≤◌, cond, List, [], ◌∷◌, ◌++◌, length, map, Bool, true, false, Option, None, Some, Result, Ok, Err, refl, sym, ap, ◌∙◌, subst, arith, ◌⊎◌, inl, inr}
use Rattle.std.specs.Prelude.{filter, min, nat_lt, nat_le, ◌==◌, ◌&&◌}
use Rattle.std.specs.List.{AllByRecursion}
use Rattle.std.proofs.lemmas.Bool.Decides.{leb_tells}
use Rattle.std.proofs.lemmas.List.{length-map}
use Rattle.norm_base.specs.Settings.{Settings}
use Rattle.norm_base.specs.declared.kinds.Kind.TheVariants as kind
use Rattle.norm_base.specs.declared.node.Origin.{Origin}
use Rattle.fec_plan.specs.declared.position.Position.{Position}
use Rattle.norm_ext.specs.Asking.{item_named}
use Rattle.norm_ext.specs.Message.{Message, Nack, Ack, AckContent, Mark, Unread}
use Rattle.norm_ext.specs.Reading.{decoded}
use Rattle.norm_ext.specs.Requests.{Request}
use Rattle.norm_order.specs.Entries.{Write, End, Cut, Whole, Stream}
use Rattle.norm_order.specs.Segments.{unclosed}
use Rattle.norm_order.specs.Sets.{with_member}
use Rattle.norm_order.specs.Shapes.{is_source, last_source}
use Rattle.norm_send_rules.specs.SenderState.{SenderState, Listing, Watermark, unlisted}
use Rattle.norm_send_rules.specs.InWindow.{last_index, current_shapes}
use Rattle.norm_send_rules.specs.Watermarks.{members, is_past, pending, is_open, open_watermarks, keeps_oldest, counted_anew, ended_with, end_where, settled, watermark_of}
use Rattle.norm_send_rules.specs.Enqueuing.{object_fault, joined}
use Rattle.norm_send_rules.specs.Streaming.{open_fault, parts_now, with_parts, write_fault, close_fault, grown, cut}
use Rattle.norm_send_rules.specs.Marking.{is_no_quorum, most_open, with_watermark, watermark_at, cut_and_marked}
use Rattle.norm_send_rules.specs.Striking.{strike_fault, without_node, struck_off}
use Rattle.norm_send_rules.specs.Restarting.{is_used, begun_anew}
use Rattle.norm_send_rules.specs.Commanding.{commanded}
use Rattle.norm_send_rules.specs.Hearing.{listed_past, rises, credited_at, credited_by, joined_round, nack_counts, ack_counts, message_heard}
use Rattle.norm_send_rules.specs.Sending.{noted}
use Rattle.norm_send_rules.specs.Flushing.{expired}
use Rattle.norm_send_rules.specs.Ticking.{ticked}
use Rattle.norm_send_rules.specs.Telling.{listing_of, past_news, done_news, told}
use Rattle.norm_send_rules.specs.SenderStep as events
use Rattle.norm_send_rules.specs.SenderStep.{SenderEvent, sender_step}
use Rattle.norm_send_rules.specs.declared.job.Job.{Job}
use Rattle.norm_send_rules.specs.declared.job.Job.TheVariants as job
use Rattle.norm_send_rules.specs.declared.news.Outcome.{Outcome}
use Rattle.norm_send_rules.specs.declared.news.Outcome.TheVariants.{Satisfied, Expired, Cut as CutOff}
use Rattle.norm_send_rules.specs.declared.news.News.{News}
use Rattle.norm_send_rules.specs.declared.want.Want.{Want}
use Rattle.norm_send_rules.specs.declared.want.Want.TheVariants.{Info, Symbol}
use Rattle.norm_send_rules.proofs.TickLemmas.{TickKeeps, tick_keeps}
use Rattle.norm_send_rules.proofs.WantLemmas.{where_free, either}
use Rattle.norm_safety.specs.SatisfiedExactly.{is_satisfied}

clash : false ≡ true → ⊥
clash e = cc

-- What became of a watermark by a test: it is the same watermark; where it had ended it did not change; else it is satisfied
-- exactly where it passes the test, and open at most where it does not.
pub record Became (test : Watermark → Bool) (v w : Watermark) : Type 0 where
  pub mark : w.mark ≡ v.mark
  pub ended : is_open v ≡ false → w.ended ≡ v.ended
  pub settles : is_open v ≡ true → is_satisfied w ≡ test w
  pub opens : is_open w ≡ true → test w ≡ false

-- a watermark that was made is satisfied exactly where it passes the test, and else is open
pub record Made (test : Watermark → Bool) (w : Watermark) : Type 0 where
  pub settles : is_satisfied w ≡ test w
  pub opens : is_open w ≡ true → test w ≡ false

-- watermarks became those of another list, in which more may be made
abbrev pub Went : (Watermark → Bool) → List Watermark → List Watermark → Type 0
Went test [] ws = AllByRecursion (Made test) ws
Went test (v ∷ vs) [] = ⊥
Went test (v ∷ vs) (w ∷ ws) = Became test v w × Went test vs ws

-- no open watermark passes the test
abbrev pub NonePass : (Watermark → Bool) → List Watermark → Type 0
NonePass test ws = AllByRecursion (λ (w : Watermark). is_open w ≡ true → test w ≡ false) ws

-- the test of a state: enough of its listings are past a watermark
abbrev pub met_by : List Listing → Watermark → Bool
met_by ls w = nat_le (elim w.quorum [ Some q ↦ min q (length ls) | None ↦ length ls ]) (length (filter (is_past w.at) ls))

pub open_unsatisfied : (w : Watermark) → is_open w ≡ true → is_satisfied w ≡ false
open_unsatisfied w e = go w.ended e
  where
    go : (ended : Option Outcome) → is_open (record w { ended = ended }) ≡ true → is_satisfied (record w { ended = ended }) ≡ false
    go None e = refl
    go (Some o) e = absurd (clash e)

went_same : (test : Watermark → Bool) (ws : List Watermark) → NonePass test ws → Went test ws ws
went_same test [] none = tt
went_same test (w ∷ ws) none = (
  record { mark = refl; ended = λ e. refl; settles = λ e. open_unsatisfied w e ∙ sym (none.0 e); opens = none.0 },
  went_same test ws none.1,
)

-- the test looks at no outcome
abbrev LooksAtNone : (Watermark → Bool) → Type 0
LooksAtNone test = (w : Watermark) (outcome : Outcome) → test (ended_with outcome w) ≡ test w

became_settled : (test : Watermark → Bool) → LooksAtNone test → (w : Watermark) → Became test w (cond (is_open w && test w) (ended_with Satisfied w) w)
became_settled test none w = go (is_open w) refl (test w) refl
  where
    go : (b : Bool) → is_open w ≡ b → (c : Bool) → test w ≡ c → Became test w (cond (b && c) (ended_with Satisfied w) w)
    go true is true passes = record { mark = refl; ended = λ e. absurd (clash (sym e ∙ is)); settles = λ e. sym (none w Satisfied ∙ passes); opens = λ e. absurd (clash e) }
    go true is false passes = record { mark = refl; ended = λ e. refl; settles = λ e. open_unsatisfied w e ∙ sym passes; opens = λ e. passes }
    go false is c passes = record { mark = refl; ended = λ e. refl; settles = λ e. absurd (clash (sym is ∙ e)); opens = λ e. absurd (clash (sym is ∙ e)) }

made_settled : (test : Watermark → Bool) → LooksAtNone test → (w : Watermark) → is_open w ≡ true → Made test (cond (is_open w && test w) (ended_with Satisfied w) w)
made_settled test none w is =
    let became = became_settled test none w in record { settles = became.settles is; opens = became.opens }

-- where all that pass are satisfied, and one more may be made
went_settled : (test : Watermark → Bool) → LooksAtNone test → (vs : List Watermark) → Went test vs (map (λ w. cond (is_open w && test w) (ended_with Satisfied w) w) vs)
went_settled test none [] = tt
went_settled test none (w ∷ ws) = (became_settled test none w, went_settled test none ws)

went_made : (test : Watermark → Bool) → LooksAtNone test → (vs : List Watermark) (w : Watermark) → is_open w ≡ true
    → Went test vs (map (λ w. cond (is_open w && test w) (ended_with Satisfied w) w) (vs ++ w ∷ []))
went_made test none [] w is = (made_settled test none w is, tt)
went_made test none (v ∷ vs) w is = (became_settled test none v, went_made test none vs w is)

-- where some that do not pass end, with another outcome
went_ended : (test ends : Watermark → Bool) (outcome : Watermark → Outcome) → LooksAtNone test → ((w : Watermark) → is_satisfied (ended_with (outcome w) w) ≡ false)
    → (vs ws : List Watermark) → Went test vs ws → Went test vs (map (λ w. cond (is_open w && ends w) (ended_with (outcome w) w) w) ws)
went_ended test ends outcome none not_it [] [] went = tt
went_ended test ends outcome none not_it [] (w ∷ ws) went = (go (is_open w) refl (ends w), went_ended test ends outcome none not_it [] ws went.1)
  where
    go : (b : Bool) → is_open w ≡ b → (c : Bool) → Made test (cond (b && c) (ended_with (outcome w) w) w)
    go true is true = record { settles = not_it w ∙ sym (none w (outcome w) ∙ went.0.opens is); opens = λ e. absurd (clash e) }
    go true is false = went.0
    go false is c = went.0
went_ended test ends outcome none not_it (v ∷ vs) [] went = absurd went
went_ended test ends outcome none not_it (v ∷ vs) (w ∷ ws) went = (go (is_open w) refl (ends w), went_ended test ends outcome none not_it vs ws went.1)
  where
    still : is_open w ≡ true → is_open v ≡ false → ⊥
    still is was = clash (sym was ∙ sym (ap (λ (ended : Option Outcome). is_open (record v { ended = ended })) (went.0.ended was)) ∙ is)

    go : (b : Bool) → is_open w ≡ b → (c : Bool) → Became test v (cond (b && c) (ended_with (outcome w) w) w)
    go true is true = record {
      mark = went.0.mark;
      ended = λ e. absurd (still is e);
      settles = λ e. not_it w ∙ sym (none w (outcome w) ∙ went.0.opens is);
      opens = λ e. absurd (clash e);
    }
    go true is false = went.0
    go false is c = went.0

-- no open one passes behind a step
pub none_after : (test : Watermark → Bool) (vs ws : List Watermark) → Went test vs ws → NonePass test ws
none_after test [] [] went = tt
none_after test [] (w ∷ ws) went = (went.0.opens, none_after test [] ws went.1)
none_after test (v ∷ vs) [] went = absurd went
none_after test (v ∷ vs) (w ∷ ws) went = (went.0.opens, none_after test vs ws went.1)

-- ---- steps

-- what a step makes of a state's watermarks, by the listings that it leaves
abbrev pub Steps : SenderState → SenderState → Type 0
Steps s t = Went (met_by t.listings) s.watermarks t.watermarks

looks_at_none : (ls : List Listing) → LooksAtNone (met_by ls)
looks_at_none ls w outcome = refl

abbrev pub NoneMet : SenderState → Type 0
NoneMet s = NonePass (met_by s.listings) s.watermarks

steps_same : (s t : SenderState) → t.listings ≡ s.listings → t.watermarks ≡ s.watermarks → NoneMet s → Steps s t
steps_same s t listings watermarks none =
    let L : List Listing → Type 0 = λ ls. Went (met_by ls) s.watermarks t.watermarks in
    let W : List Watermark → Type 0 = λ ws. Went (met_by s.listings) s.watermarks ws in
    subst L (sym listings) (subst W (sym watermarks) (went_same (met_by s.listings) s.watermarks none))

counted_steps : (old s t : SenderState) → Steps s t → Steps s (counted_anew old t)
counted_steps old s t h = go (keeps_oldest old t)
  where
    go : (b : Bool) → Steps s (elim b [ true ↦ t | false ↦ record t { flushes = 0 } ])
    go true = h
    go false = h

settled_steps : (s t : SenderState) → t.watermarks ≡ s.watermarks → Steps s (settled t)
settled_steps s t e =
    let S : List Watermark → Type 0 = λ vs. Went (met_by t.listings) vs (settled t).watermarks in
    subst S e (went_settled (met_by t.listings) (looks_at_none t.listings) t.watermarks)

-- a step that is refused where a fault was found
by_fault : {F A : Type 0} (found : Option F) (s after : SenderState) (refused : F → A) (given : A) → Steps s s → Steps s after
    → Steps s (where_free found s after refused given).0
by_fault None s after refused given h k = k
by_fault (Some fault) s after refused given h k = h

by_test : {A : Type 0} (b : Bool) (s : SenderState) (t u : SenderState × A) → Steps s t.0 → Steps s u.0 → Steps s (either b t u).0
by_test true s t u h k = h
by_test false s t u h k = k

cut_fields : (p : Settings) (s : SenderState) → ((cut p s).listings ≡ s.listings) × ((cut p s).watermarks ≡ s.watermarks)
cut_fields p s = go (unclosed p.e (parts_now s))
  where
    cut_by : ℕ → SenderState
    cut_by n = elim n [ zero ↦ s | suc n ↦ with_parts (parts_now s ++ Cut ∷ []) s ]

    go : (n : ℕ) → ((cut_by n).listings ≡ s.listings) × ((cut_by n).watermarks ≡ s.watermarks)
    go zero = (refl, refl)
    go (suc n) = (refl, refl)

watermark_steps : (s : SenderState) (by : Origin) (quorum : Option ℕ) (found : Option Position) → NoneMet s → Steps s (watermark_at s by quorum found).0
watermark_steps s by quorum None none = went_same (met_by s.listings) s.watermarks none
watermark_steps s by quorum (Some at) none =
    let w : Watermark = record { mark = length s.watermarks + 1; by = by; at = at; quorum = quorum; ended = None } in
    let more : SenderState = record s { watermarks = s.watermarks ++ w ∷ [] } in
    by_test (nat_le most_open (length (open_watermarks s))) s (s, _) (with_watermark s by quorum at, _) (went_same (met_by s.listings) s.watermarks none)
    (counted_steps s s (settled more) (went_made (met_by s.listings) (looks_at_none s.listings) s.watermarks w refl))

mark_steps : (p : Settings) (s : SenderState) (by : Origin) (quorum : Option ℕ) → NoneMet s → Steps s (cut_and_marked p s by quorum).0
mark_steps p s by quorum none =
    let fields = cut_fields p s in
    let L : List Listing → Type 0 = λ ls. NonePass (met_by ls) (cut p s).watermarks in
    let W : List Watermark → Type 0 = λ ws. NonePass (met_by s.listings) ws in
    let S : List Watermark → Type 0 = λ ws. Went (met_by (cut_and_marked p s by quorum).0.listings) ws (cut_and_marked p s by quorum).0.watermarks in
    subst S fields.1 (watermark_steps (cut p s) by quorum (last_source (current_shapes p (cut p s)))
    (subst L (sym fields.0) (subst W (sym fields.1) none)))

-- a restart cuts all that are open, of which none is past anything
nobody_past : (at : Position) (nodes : List ℕ) → length (filter (is_past at) (unlisted nodes)) ≡ 0
nobody_past at [] = refl
nobody_past at (node ∷ nodes) = nobody_past at nodes

not_met : (w : Watermark) (ls : List Listing) (nodes : List ℕ) → length nodes ≡ length ls → met_by ls w ≡ false → met_by (unlisted nodes) w ≡ false
not_met w ls nodes same e =
    let many : length (unlisted nodes) ≡ length ls = length-map nodes (λ (node : ℕ). record { node = node; past = None }) ∙ same in
    let none = nobody_past w.at nodes in
    above (quorum_of (length (unlisted nodes)) w.quorum) (length (filter (is_past w.at) (unlisted nodes)))
    (let wants : 0 < quorum_of (length ls) w.quorum = some (quorum_of (length ls) w.quorum) (length (filter (is_past w.at) ls)) e in
    let equal : quorum_of (length (unlisted nodes)) w.quorum ≡ quorum_of (length ls) w.quorum = ap (λ (n : ℕ). quorum_of n w.quorum) many in
    omega (arith, wants, equal, none))
  where
    quorum_of : ℕ → Option ℕ → ℕ
    quorum_of n quorum = elim quorum [ Some q ↦ min q n | None ↦ n ]

    some : (a b : ℕ) → nat_le a b ≡ false → 0 < a
    some a b e = go (leb_tells a b)
      where
        go : ((nat_le a b ≡ true) × (a ≤ b)) ⊎ ((nat_le a b ≡ false) × (b < a)) → 0 < a
        go (inl tells) = absurd (clash (sym e ∙ tells.0))
        go (inr tells) = omega (arith, tells.1)

    above : (a b : ℕ) → b < a → nat_le a b ≡ false
    above a b lt = go (leb_tells a b)
      where
        go : ((nat_le a b ≡ true) × (a ≤ b)) ⊎ ((nat_le a b ≡ false) × (b < a)) → nat_le a b ≡ false
        go (inl tells) = absurd (omega (arith, tells.1, lt))
        go (inr tells) = tells.0

restart_steps : (id : ℕ) (s : SenderState) → NoneMet s → Steps s (begun_anew id s)
restart_steps id s none = went_ended (met_by (unlisted (members s))) (λ w. true) (λ w. CutOff) (looks_at_none (unlisted (members s))) (λ w. refl)
    s.watermarks s.watermarks (went_same (met_by (unlisted (members s))) s.watermarks (none_past s.watermarks none))
  where
    none_past : (ws : List Watermark) → NonePass (met_by s.listings) ws → NonePass (met_by (unlisted (members s))) ws
    none_past [] all = tt
    none_past (w ∷ ws) all =
        (λ is. not_met w s.listings (members s) (length-map s.listings (λ (l : Listing). l.node)) (all.0 is), none_past ws all.1)

command_steps : (p : Settings) (s : SenderState) (by : Origin) (job : Job) → NoneMet s → Steps s (commanded p s by job).0
command_steps p s by (job.Data info bytes) none =
    by_fault (object_fault p s info bytes) s (joined p by (Whole kind.Data info bytes) s) Err (Ok _) (steps_same s s refl refl none) (steps_same s (joined p by (Whole kind.Data info bytes) s) refl refl none)
command_steps p s by (job.File name bytes) none =
    by_fault (object_fault p s (Some name) bytes) s (joined p by (Whole kind.File (Some name) bytes) s) Err (Ok _) (steps_same s s refl refl none)
    (steps_same s (joined p by (Whole kind.File (Some name) bytes) s) refl refl none)
command_steps p s by job.Open none =
    by_fault (open_fault p s) s (joined p by (Stream []) s) Err (Ok _) (steps_same s s refl refl none) (steps_same s (joined p by (Stream []) s) refl refl none)
command_steps p s by (job.Write bytes) none =
    let parts = parts_now s ++ Write by bytes ∷ [] in
    by_fault (write_fault p s bytes parts) s (grown p s parts) Err (Ok _) (steps_same s s refl refl none) (steps_same s (grown p s parts) refl refl none)
command_steps p s by job.Close none =
    let parts = parts_now s ++ End ∷ [] in
    by_fault (close_fault p s parts) s (grown p s parts) Err (Ok _) (steps_same s s refl refl none) (steps_same s (grown p s parts) refl refl none)
command_steps p s by (job.Mark None) none = mark_steps p s by None none
command_steps p s by (job.Mark (Some q)) none =
    by_test (is_no_quorum p q) s (s, _) (cut_and_marked p s by (Some q)) (steps_same s s refl refl none) (mark_steps p s by (Some q) none)
command_steps p s by (job.Restart id) none =
    by_test (is_used s id) s (s, _) (begun_anew id s, _) (steps_same s s refl refl none) (restart_steps id s none)
command_steps p s by (job.Strike node) none =
    by_fault (strike_fault s node) s (struck_off node s) Err (Ok _) (steps_same s s refl refl none)
    (counted_steps s s (settled (without_node node s)) (settled_steps s (without_node node s) refl))

-- along a tick the listings stay
abbrev Ticks : SenderState → SenderState → Type 0
Ticks s t = (t.listings ≡ s.listings) × Went (met_by s.listings) s.watermarks t.watermarks

noted_ticks : (s t : SenderState) (w : Want) → Ticks s t → Ticks s (noted w t)
noted_ticks s t (Info index) h = h
noted_ticks s t (Symbol at) h = h

expired_ticks : (s t : SenderState) (w : Watermark) → Ticks s t → Ticks s (expired w.mark t)
expired_ticks s t w h = go (keeps_oldest t ended)
  where
    ended : SenderState
    ended = end_where (λ v. v.mark == w.mark) (λ v. Expired (length (pending t v.at))) t

    went : Ticks s ended
    went = (
      h.0,
      went_ended (met_by s.listings) (λ v. v.mark == w.mark) (λ v. Expired (length (pending t v.at))) (looks_at_none s.listings) (λ v. refl)
          s.watermarks t.watermarks h.1,
    )

    go : (b : Bool) → Ticks s (elim b [ true ↦ ended | false ↦ record ended { flushes = 0 } ])
    go true = went
    go false = went

ticks_go : (p : Settings) (s : SenderState) → TickKeeps p (Ticks s)
ticks_go p s = record {
  closes = λ t r h. h;
  squelched = λ t h. h;
  repaired = λ t w wants e h. h;
  goes_on = λ t w e h. h;
  notes = λ t w h. noted_ticks s t w h;
  flushes = λ t now h. h;
  expires = λ t w e h. expired_ticks s t w h;
  spends = λ t moment h. h;
}

tick_steps : (p : Settings) (s : SenderState) (now : ℕ) → NoneMet s → Steps s (ticked p s now).0
tick_steps p s now none =
    let ends = tick_keeps p (Ticks s) (ticks_go p s) s now (refl, went_same (met_by s.listings) s.watermarks none) in
    let L : List Listing → Type 0 = λ ls. Went (met_by ls) s.watermarks (ticked p s now).0.watermarks in
    subst L (sym ends.0) ends.1

credited_steps : (p : Settings) (node : ℕ) (at : Position) (s : SenderState) → NoneMet s → Steps s (credited_at p node at s)
credited_steps p node at s none = go (is_source (current_shapes p s) at) (rises node at s)
  where
    risen : SenderState
    risen = record s { listings = map (listed_past node at) s.listings; untold_nodes = with_member nat_lt node s.untold_nodes }

    go : (b c : Bool) → Steps s (elim b [ true ↦ elim c [ true ↦ counted_anew s (settled risen) | false ↦ s ] | false ↦ s ])
    go true true = counted_steps s s (settled risen) (settled_steps s risen refl)
    go true false = went_same (met_by s.listings) s.watermarks none
    go false c = went_same (met_by s.listings) s.watermarks none

heard_steps : {E : Type 0} (p : Settings) (s : SenderState) (now : ℕ) (read : Result Message E) → NoneMet s → Steps s (message_heard p s now read)
heard_steps p s now (Ok (Nack m)) none = go (nack_counts p s m) m.requests
  where
    go : (b : Bool) (requests : List Request) → Steps s (elim b [ true ↦ joined_round p s now requests | false ↦ s ])
    go true [] = went_same (met_by s.listings) s.watermarks none
    go true (r ∷ requests) = steps_same s (joined_round p s now (r ∷ requests)) refl refl none
    go false requests = went_same (met_by s.listings) s.watermarks none
heard_steps p s now (Ok (Ack m)) none = go (ack_counts p s m) m.content
  where
    by : (at : Option Position) → Steps s (credited_by p m.source at s)
    by None = went_same (met_by s.listings) s.watermarks none
    by (Some at) = credited_steps p m.source at s none

    go : (b : Bool) (content : AckContent) → Steps s (elim b [
      | true ↦ elim content [ Mark item ↦ credited_by p m.source (item_named p (last_index s) item) s | Unread octets ↦ s ]
      | false ↦ s
    ])
    go true (Mark item) = by (item_named p (last_index s) item)
    go true (Unread octets) = went_same (met_by s.listings) s.watermarks none
    go false content = went_same (met_by s.listings) s.watermarks none
heard_steps p s now _ none = went_same (met_by s.listings) s.watermarks none

told_steps : (s : SenderState) → NoneMet s → Steps s (told s).0
told_steps s none = go s.untold_nodes s.untold_marks
  where
    news : List ℕ → List ℕ → SenderState × Option News
    news nodes marks = elim nodes [
      | node ∷ others ↦ (record s { untold_nodes = others }, past_news node (listing_of s node))
      | [] ↦ elim marks [
        | mark ∷ others ↦ (record s { untold_marks = others }, done_news s mark (watermark_of s mark))
        | [] ↦ (s, None)
      ]
    ]

    go : (nodes marks : List ℕ) → Steps s (news nodes marks).0
    go (node ∷ nodes) marks = went_same (met_by s.listings) s.watermarks none
    go [] (mark ∷ marks) = went_same (met_by s.listings) s.watermarks none
    go [] [] = went_same (met_by s.listings) s.watermarks none

-- What a step of the sender makes of its watermarks.
pub sender_steps : (p : Settings) (s : SenderState) (event : SenderEvent) → NoneMet s → Steps s (sender_step p s event).0
sender_steps p s (events.Commanded by job now) none = command_steps p s by job none
sender_steps p s (events.Delivered datagram now) none = heard_steps p s now (decoded datagram) none
sender_steps p s (events.Ticked now) none = tick_steps p s now none
sender_steps p s events.NewsAsked none = told_steps s none

pub same_steps : (s : SenderState) → NoneMet s → Steps s s
same_steps s none = went_same (met_by s.listings) s.watermarks none
