-- How the count of turns stands at each place of a turn.
use Rattle.std.proofs.Common.{◌≡◌, ℕ, ◌+◌, ◌*◌, ◌≤◌, List, [], ◌∷◌, ◌++◌, length, drop, filter, cond, Bool, true, false, Option, None, Some, refl, sym, ap, ◌∙◌, subst, arith, inl, inr}
use Rattle.std.specs.Prelude.{◌==◌, ◌&&◌, ◌||◌, ◌⊎◌, find, is_none, is_some, nat_le, not}
use Rattle.std.proofs.lemmas.Bool.Decides.{leb_tells}
use Rattle.std.proofs.lemmas.List.{length-append}
use Rattle.std.proofs.lemmas.List.Elements.{filter-append}
use Rattle.std.proofs.lemmas.Option.{none-some, same_Some}
use Rattle.std.proofs.lemmas.List.Sums.{length-filter}
use Rattle.norm_base.specs.Settings.{Settings}
use Rattle.norm_ext.specs.Written.{Written}
use Rattle.norm_order.specs.Shapes.{shapes_of}
use Rattle.norm_script.specs.declared.script.Line.{Line}
use Rattle.norm_script.specs.declared.script.Verb.{Verb}
use Rattle.norm_script.specs.declared.script.Verb.TheVariants as verb
use Rattle.norm_send_rules.specs.InWindow.{stands_behind}
use Rattle.norm_send_rules.specs.SenderState.{SenderState, Instance, Round, Watermark}
use Rattle.norm_send_rules.specs.Sending.{new_from, next_new}
use Rattle.norm_send_rules.specs.Telling.{told, past_news, done_news, listing_of}
use Rattle.norm_send_rules.specs.Ticking.{is_idle}
use Rattle.norm_send_rules.specs.Wants.{want_before, want_index}
use Rattle.norm_send_rules.specs.Watermarks.{is_open, oldest, open_watermarks, watermark_of}
use Rattle.norm_send_rules.specs.declared.job.Job.{Job}
use Rattle.norm_send_rules.specs.declared.job.Job.TheVariants as job
use Rattle.norm_send_rules.specs.declared.news.News.{News}
use Rattle.norm_send_rules.specs.declared.want.Want.{Want}
use Rattle.norm_safety.proofs.EntryLemmas.{clash}
use Rattle.norm_journal.specs.Follows.{IsJobOf}
use Rattle.norm_journal.specs.Jobs.{Told as Files, job_of}
use Rattle.norm_journal.specs.Judged.{Judged, is_whole, is_done}
use Rattle.norm_journal.specs.Places.{Place, Starting, Between, Pulling, Giving, Again, Sending, Offering, Taking, Handing, Over, handing, after_tick, command_due}
use Rattle.norm_journal.proofs.NameLemmas.{both_true}
use Rattle.norm_recovery.specs.Steady.{is_mark, marks_of}
use Rattle.norm_recovery.specs.SteadyNothing.{AsksNothing}
use Rattle.norm_recovery.proofs.CountMoves.{ended_in, made_by}
use Rattle.norm_recovery.proofs.SteadyJobs.{IsPlainJob}
use Rattle.norm_recovery.proofs.CountTicks.{trips, Within, Since, FlushedBy, AskedMost, Waited, ForNone, Before, Behind, Ticked}

-- ---- at a place

-- the next datagram may go, and a turn is over since the last flush
pub record Timed (p : Settings) (by : ℕ) (s : SenderState) : Type 0 where
  pub flushed : FlushedBy p by s.last_flush
  pub send : s.next_send ≤ by

-- before the command of a turn, or with so many turns not paid for yet
pub record Due (p : Settings) (commands turn left now : ℕ) (waits : Bool) (s : SenderState) (d : ℕ) : Type 0 where
  pub begun : 1 ≤ turn
  pub x : ℕ
  pub within : Within p commands turn left s (x + d)
  pub waited : Waited p now None s waits x
  pub timed : Timed p now s

-- before the sender's tick
pub record AtTick (p : Settings) (commands turn left now : ℕ) (waits : Bool) (s : SenderState) : Type 0 where
  pub d : ℕ
  pub most : d ≤ 1
  pub due : Due p commands turn left now waits s d
  pub free : 1 ≤ d → oldest s ≡ None → next_new p s ≡ None → due.x ≤ 0
  pub opens : waits ≡ true → oldest s ≡ None → ⊥

-- behind the takes of a turn
pub record Rested (p : Settings) (commands turn left now : ℕ) (waits : Bool) (s : SenderState) : Type 0 where
  pub x : ℕ
  pub within : Within p commands turn left s x
  pub waited : Waited p (now + p.step) None s waits x
  pub timed : Timed p (now + p.step) s
  pub first : turn ≡ 0 → x ≤ 0

-- nothing is left to do
abbrev pub is_all_done : Settings → ℕ → Option Line → SenderState → Bool
is_all_done p left waiting s = left == 0 && is_none waiting && length (open_watermarks s) == 0 && is_idle p s

-- by the place
abbrev pub CountAt : Settings → (commands turn left now : ℕ) → Option Line → SenderState → Place → Type 0
CountAt p commands turn left now waiting s Pulling = (waiting ≡ None) × Due p commands turn left now (is_some waiting) s 1
CountAt p commands turn left now waiting s (Giving line) = (waiting ≡ None) × Due p commands turn left now (is_some waiting) s 0
CountAt p commands turn left now waiting s (Again line) = (waiting ≡ Some line) × Due p commands turn left now (is_some waiting) s 1
CountAt p commands turn left now waiting s Sending = AtTick p commands turn left now (is_some waiting) s
CountAt p commands turn left now waiting s (Taking taken) = (1 ≤ turn) × Ticked p commands turn left now (is_some waiting) s
CountAt p commands turn left now waiting s (Offering node octets (Taking taken)) = (1 ≤ turn) × Ticked p commands turn left now (is_some waiting) s
CountAt p commands turn left now waiting s (Offering node octets (Handing other nodes)) = Rested p commands turn left now (is_some waiting) s
CountAt p commands turn left now waiting s (Offering node octets Between) = Rested p commands turn left now (is_some waiting) s
CountAt p commands turn left now waiting s (Offering node octets next) = ⊥
CountAt p commands turn left now waiting s Starting = Rested p commands turn left now (is_some waiting) s
CountAt p commands turn left now waiting s Between = Rested p commands turn left now (is_some waiting) s
CountAt p commands turn left now waiting s (Handing node nodes) = Rested p commands turn left now (is_some waiting) s
CountAt p commands turn left now waiting s Over =
    Rested p commands turn left now (is_some waiting) s × ((is_all_done p left waiting s ≡ true) ⊎ (turn ≡ p.turns))

pub handing_rests : (p : Settings) (commands turn left now : ℕ) (waiting : Option Line) (s : SenderState) (nodes : List ℕ) → Rested p commands turn left now (is_some waiting) s
    → CountAt p commands turn left now waiting s (handing nodes)
handing_rests p commands turn left now waiting s [] h = h
handing_rests p commands turn left now waiting s (node ∷ nodes) h = h

pub ticked_rests : (p : Settings) (commands turn left now : ℕ) (waiting : Option Line) (s : SenderState) (node : ℕ) (d : Option Written) (nodes : List ℕ)
    → Rested p commands turn left now (is_some waiting) s → CountAt p commands turn left now waiting s (after_tick node d (handing nodes))
ticked_rests p commands turn left now waiting s node None nodes h = handing_rests p commands turn left now waiting s nodes h
ticked_rests p commands turn left now waiting s node (Some d) [] h = h
ticked_rests p commands turn left now waiting s node (Some d) (other ∷ nodes) h = h

pub ticked_takes : (p : Settings) (commands turn left now : ℕ) (waiting : Option Line) (s : SenderState) (node : ℕ) (d : Option Written)
    → (1 ≤ turn) × Ticked p commands turn left now (is_some waiting) s → CountAt p commands turn left now waiting s (after_tick node d (Taking 0))
ticked_takes p commands turn left now waiting s node None h = h
ticked_takes p commands turn left now waiting s node (Some d) h = h

pub offered_counts : (p : Settings) (commands turn left now : ℕ) (waiting : Option Line) (s : SenderState) (node : ℕ) (octets : List ℕ) (after : Place)
    → CountAt p commands turn left now waiting s (Offering node octets after) → CountAt p commands turn left now waiting s after
offered_counts p commands turn left now waiting s node octets (Taking taken) h = h
offered_counts p commands turn left now waiting s node octets (Handing other nodes) h = h
offered_counts p commands turn left now waiting s node octets Between h = h
offered_counts p commands turn left now waiting s node octets (Offering f o next) h = absurd h
offered_counts p commands turn left now waiting s node octets Starting h = absurd h
offered_counts p commands turn left now waiting s node octets Pulling h = absurd h
offered_counts p commands turn left now waiting s node octets (Giving line) h = absurd h
offered_counts p commands turn left now waiting s node octets (Again line) h = absurd h
offered_counts p commands turn left now waiting s node octets Sending h = absurd h
offered_counts p commands turn left now waiting s node octets Over h = absurd h

-- ---- a sender that tells its news

-- the same but for what is untold
pub record TellsSame (s t : SenderState) : Type 0 where
  pub current : t.current ≡ s.current
  pub next : t.next ≡ s.next
  pub marks : t.watermarks ≡ s.watermarks
  pub flushes : t.flushes ≡ s.flushes
  pub last : t.last_flush ≡ s.last_flush
  pub send : t.next_send ≡ s.next_send
  pub idle : (p : Settings) → is_idle p t ≡ is_idle p s

module _ (p : Settings) (commands turn left now : ℕ) (s t : SenderState) (same : TellsSame s t) where
  tells_oldest : oldest t ≡ oldest s
  tells_oldest = ap (λ (ws : List Watermark). find is_open ws) same.marks

  tells_within : (x : ℕ) → Within p commands turn left s x → Within p commands turn left t x
  tells_within x h =
      let n = ap (λ (i : Instance). length (filter (λ w. not (want_before w t.next) && stands_behind i.drop w) (new_from p 0 (shapes_of p i.order)))) same.current
      ∙ ap (λ (z : Want). length (filter (λ w. not (want_before w z) && stands_behind s.current.drop w) (new_from p 0 (shapes_of p s.current.order)))) same.next in
      let f = ap (λ (i : Instance). length (new_from p 0 (shapes_of p i.order))) same.current in
      let k = ap (λ (ws : List Watermark). ended_in ws * (trips p + 2)) same.marks in
      omega (arith, n, f, k, h)

  tells_waited : (by : ℕ) (late : Option ℕ) (waits : Bool) (x : ℕ) → Waited p by late s waits x → Waited p by late t waits x
  tells_waited by late waits x (ForNone none le strict) = ForNone (tells_oldest ∙ none) le strict
  tells_waited by late waits x (Before wm is zero_is le since) =
      Before wm (tells_oldest ∙ is) (same.flushes ∙ zero_is) le (subst (λ (o : Option ℕ). Since p by o x) (sym same.last) since)
  tells_waited by late waits x (Behind wm is some_is most) =
      Behind wm (tells_oldest ∙ is) (let e = same.flushes in omega (arith, some_is, e))
      (subst (λ (n : ℕ). AskedMost p late n t.last_flush x) (sym same.flushes) (subst (λ (o : Option ℕ). AskedMost p late s.flushes o x) (sym same.last) most))

  tells_timed : (by : ℕ) → Timed p by s → Timed p by t
  tells_timed by h = record {
    flushed = subst (λ (o : Option ℕ). FlushedBy p by o) (sym same.last) h.flushed;
    send = (let e = same.send in let le = h.send in omega (arith, e, le));
  }

  tells_due : (waits : Bool) (d : ℕ) → Due p commands turn left now waits s d → Due p commands turn left now waits t d
  tells_due waits d h = record {
    begun = h.begun;
    x = h.x;
    within = tells_within (h.x + d) h.within;
    waited = tells_waited now None waits h.x h.waited;
    timed = tells_timed now h.timed;
  }

  tells_rested : (waits : Bool) → Rested p commands turn left now waits s → Rested p commands turn left now waits t
  tells_rested waits h = record {
    x = h.x;
    within = tells_within h.x h.within;
    waited = tells_waited (now + p.step) None waits h.x h.waited;
    timed = tells_timed (now + p.step) h.timed;
    first = h.first;
  }

  tells_ticked : (waits : Bool) → Ticked p commands turn left now waits s → Ticked p commands turn left now waits t
  tells_ticked waits h =
      let timed = tells_timed (now + p.step) (record { flushed = h.flushed; send = h.send }) in
      record {
        x = h.x;
        within = tells_within h.x h.within;
        waited = tells_waited (now + p.step) (Some now) waits h.x h.waited;
        flushed = timed.flushed;
        send = timed.send;
      }

  tells_next : next_new p t ≡ next_new p s
  tells_next =
      ap (λ (i : Instance). find (λ w. not (want_before w t.next) && stands_behind i.drop w) (new_from p (want_index t.next) (shapes_of p (drop (want_index t.next) i.order)))) same.current
      ∙ ap (λ (z : Want). find (λ w. not (want_before w z) && stands_behind s.current.drop w) (new_from p (want_index z) (shapes_of p (drop (want_index z) s.current.order)))) same.next

  pub tells_counts : (waiting : Option Line) (place : Place) → CountAt p commands turn left now waiting s place → CountAt p commands turn left now waiting t place
  unfolding tells_due
  tells_counts waiting Pulling h = (h.0, tells_due (is_some waiting) 1 h.1)
  tells_counts waiting (Giving line) h = (h.0, tells_due (is_some waiting) 0 h.1)
  tells_counts waiting (Again line) h = (h.0, tells_due (is_some waiting) 1 h.1)
  tells_counts waiting Sending h = record {
    d = h.d;
    most = h.most;
    due = tells_due (is_some waiting) h.d h.due;
    free = λ one none next. h.free one (sym tells_oldest ∙ none) (sym tells_next ∙ next);
    opens = λ w none. h.opens w (sym tells_oldest ∙ none);
  }
  tells_counts waiting (Taking taken) h = (h.0, tells_ticked (is_some waiting) h.1)
  tells_counts waiting (Offering node octets (Taking taken)) h = (h.0, tells_ticked (is_some waiting) h.1)
  tells_counts waiting (Offering node octets (Handing other nodes)) h = tells_rested (is_some waiting) h
  tells_counts waiting (Offering node octets Between) h = tells_rested (is_some waiting) h
  tells_counts waiting (Offering node octets (Offering f o next)) h = absurd h
  tells_counts waiting (Offering node octets Starting) h = absurd h
  tells_counts waiting (Offering node octets Pulling) h = absurd h
  tells_counts waiting (Offering node octets (Giving line)) h = absurd h
  tells_counts waiting (Offering node octets (Again line)) h = absurd h
  tells_counts waiting (Offering node octets Sending) h = absurd h
  tells_counts waiting (Offering node octets Over) h = absurd h
  tells_counts waiting Starting h = tells_rested (is_some waiting) h
  tells_counts waiting Between h = tells_rested (is_some waiting) h
  tells_counts waiting (Handing node nodes) h = tells_rested (is_some waiting) h
  tells_counts waiting Over h = (tells_rested (is_some waiting) h.0, ended h.1)
    where
      same_done : is_all_done p left waiting t ≡ is_all_done p left waiting s
      same_done =
          ap (λ (ws : List Watermark). left == 0 && is_none waiting && length (filter is_open ws) == 0 && is_idle p t) same.marks
          ∙ ap (λ (b : Bool). left == 0 && is_none waiting && length (open_watermarks s) == 0 && b) (same.idle p)

      ended : (is_all_done p left waiting s ≡ true) ⊎ (turn ≡ p.turns) → (is_all_done p left waiting t ≡ true) ⊎ (turn ≡ p.turns)
      ended (inl done) = inl (same_done ∙ done)
      ended (inr spent) = inr spent

pub told_same : (s : SenderState) → TellsSame s (told s).0
told_same s = go s.untold_nodes s.untold_marks
  where
    by : List ℕ → List ℕ → SenderState × Option News
    by nodes marks = elim nodes [
      | node ∷ others ↦ (record s { untold_nodes = others }, past_news node (listing_of s node))
      | [] ↦ elim marks [
        | mark ∷ others ↦ (record s { untold_marks = others }, done_news s mark (watermark_of s mark))
        | [] ↦ (s, None)
      ]
    ]

    go : (nodes marks : List ℕ) → TellsSame s (by nodes marks).0
    go (node ∷ nodes) marks = record { current = refl; next = refl; marks = refl; flushes = refl; last = refl; send = refl; idle = λ p. refl }
    go [] (mark ∷ marks) = record { current = refl; next = refl; marks = refl; flushes = refl; last = refl; send = refl; idle = λ p. refl }
    go [] [] = record { current = refl; next = refl; marks = refl; flushes = refl; last = refl; send = refl; idle = λ p. refl }

-- ---- marks

-- one for a mark
abbrev pub one_mark : Line → ℕ
one_mark line = cond (is_mark line.verb) 1 0

-- the mark that is to be offered, or waits
abbrev pub waiting_mark : Option Line → ℕ
waiting_mark None = 0
waiting_mark (Some line) = one_mark line

abbrev pub pending_mark : Place → Option Line → ℕ
pending_mark (Giving line) waiting = one_mark line
pending_mark _ waiting = waiting_mark waiting

abbrev marks_line : Line → Bool
marks_line line = is_mark line.verb

pub marks_split : (before behind : List Line) (line : Line) → marks_of (before ++ line ∷ behind) ≡ marks_of (before ++ behind) + one_mark line
marks_split before behind line =
    let one = sym (length-filter marks_line (before ++ line ∷ behind)) ∙ ap length (filter-append marks_line before (line ∷ behind)) in
    let a = length-append (filter marks_line before) (filter marks_line (line ∷ behind)) in
    let two = sym (length-filter marks_line (before ++ behind)) ∙ ap length (filter-append marks_line before behind) in
    let b = length-append (filter marks_line before) (filter marks_line behind) in
    let c = here (marks_line line) in
    omega (arith, one, a, two, b, c)
  where
    here : (b : Bool) → length (cond b (line ∷ filter marks_line behind) (filter marks_line behind)) ≡ length (filter marks_line behind) + cond b 1 0
    here true = omega arith
    here false = omega arith

pub made_told : (files : Files) (v : Verb) (given : Job) → IsPlainJob given → IsJobOf files v given → made_by given ≡ cond (is_mark v) 1 0
made_told files (verb.Data info octets) (job.Data other bytes) is its = refl
made_told files (verb.File name) (job.File other octets) is its = refl
made_told files verb.Open job.Open is its = absurd is
made_told files (verb.Write octets) (job.Write bytes) is its = absurd is
made_told files verb.Close job.Close is its = absurd is
made_told files (verb.Mark quorum) (job.Mark other) is its = refl
made_told files (verb.Restart instance) (job.Restart other) is its = absurd is
made_told files (verb.Strike node) (job.Strike other) is its = absurd is
made_told files _ _ is its = absurd its

pub made_known : (v : Verb) (given : Job) → IsPlainJob given → job_of v ≡ Some given → made_by given ≡ cond (is_mark v) 1 0
made_known (verb.Data info octets) given is its = ap made_by (sym (same_Some (job.Data info octets) given its))
made_known (verb.File name) given is its = absurd (none-some given its)
made_known verb.Open given is its = absurd (subst IsPlainJob (sym (same_Some job.Open given its)) is)
made_known (verb.Write octets) given is its = absurd (subst IsPlainJob (sym (same_Some (job.Write octets) given its)) is)
made_known verb.Close given is its = absurd (subst IsPlainJob (sym (same_Some job.Close given its)) is)
made_known (verb.Mark quorum) given is its = ap made_by (sym (same_Some (job.Mark quorum) given its))
made_known (verb.Restart instance) given is its = absurd (subst IsPlainJob (sym (same_Some (job.Restart instance) given its)) is)
made_known (verb.Strike node) given is its = absurd (subst IsPlainJob (sym (same_Some (job.Strike node) given its)) is)

-- but for a line that was pulled it is the one that waits
pub due_pending : (waiting : Option Line) (lines : List Line) (w : Option Line) → pending_mark (command_due w lines) waiting ≡ waiting_mark waiting
due_pending waiting lines (Some line) = refl
due_pending waiting [] None = refl
due_pending waiting (line ∷ lines) None = refl

pub handing_pending : (waiting : Option Line) (nodes : List ℕ) → pending_mark (handing nodes) waiting ≡ waiting_mark waiting
handing_pending waiting [] = refl
handing_pending waiting (node ∷ nodes) = refl

pub ticked_pending : (waiting : Option Line) (node : ℕ) (d : Option Written) (after : Place) → pending_mark after waiting ≡ waiting_mark waiting
    → pending_mark (after_tick node d after) waiting ≡ waiting_mark waiting
ticked_pending waiting node None after e = e
ticked_pending waiting node (Some d) after e = refl

pub offered_pending : (p : Settings) (commands turn left now : ℕ) (waiting : Option Line) (s : SenderState) (node : ℕ) (octets : List ℕ) (after : Place)
    → CountAt p commands turn left now waiting s (Offering node octets after) → pending_mark after waiting ≡ waiting_mark waiting
offered_pending p commands turn left now waiting s node octets (Taking taken) h = refl
offered_pending p commands turn left now waiting s node octets (Handing other nodes) h = refl
offered_pending p commands turn left now waiting s node octets Between h = refl
offered_pending p commands turn left now waiting s node octets (Offering f o next) h = refl
offered_pending p commands turn left now waiting s node octets Starting h = refl
offered_pending p commands turn left now waiting s node octets Pulling h = refl
offered_pending p commands turn left now waiting s node octets (Giving line) h = absurd h
offered_pending p commands turn left now waiting s node octets (Again line) h = refl
offered_pending p commands turn left now waiting s node octets Sending h = refl
offered_pending p commands turn left now waiting s node octets Over h = refl

-- ---- a turn that finds nothing to do

pub none_open : (ws : List Watermark) → find is_open ws ≡ None → filter is_open ws ≡ []
none_open [] e = refl
none_open (w ∷ ws) e = go (is_open w) e (none_open ws)
  where
    go : (b : Bool) → cond b (Some w) (find is_open ws) ≡ None → (find is_open ws ≡ None → filter is_open ws ≡ []) → cond b (w ∷ filter is_open ws) (filter is_open ws) ≡ []
    go true e next = absurd (none-some w (sym e))
    go false e next = next e

idle_so : (p : Settings) (s : SenderState) → AsksNothing s → next_new p s ≡ None → is_idle p s ≡ true
idle_so p s calm none =
    ap by_squelch calm.squelch ∙ ap by_wants calm.wants ∙ ap by_new none ∙ ap by_round calm.round
  where
    by_round : Option Round → Bool
    by_round o = elim o [ Some r ↦ false | None ↦ true ]

    by_new : Option Want → Bool
    by_new o = elim o [ Some w ↦ false | None ↦ by_round s.round ]

    by_wants : List Want → Bool
    by_wants ws = elim ws [ w ∷ wants ↦ false | [] ↦ by_new (next_new p s) ]

    by_squelch : Bool → Bool
    by_squelch b = elim b [ true ↦ false | false ↦ by_wants s.wants ]

-- a turn in which nothing was to do would have been the last
pub not_whole : (j : Judged) → AsksNothing j.world.sender → is_done j ≡ false → 1 ≤ j.turn → j.left ≡ [] → j.waiting ≡ None → oldest j.world.sender ≡ None
    → next_new j.profile j.world.sender ≡ None → ⊥
not_whole j calm done begun left waiting none next = clash (sym done ∙ both_true (nat_le 1 j.turn) _ (le_test 1 j.turn begun) (or_left (is_whole j) _ whole))
  where
    le_test : (a b : ℕ) → a ≤ b → nat_le a b ≡ true
    le_test a b le = grind (arith, leb_tells a b)

    or_left : (a b : Bool) → a ≡ true → (a || b) ≡ true
    or_left true b e = refl
    or_left false b e = absurd (clash e)

    whole : is_whole j ≡ true
    whole =
        both_true (length j.left == 0 && is_none j.waiting && length (open_watermarks j.world.sender) == 0) (is_idle j.profile j.world.sender)
        (both_true (length j.left == 0 && is_none j.waiting) (length (open_watermarks j.world.sender) == 0)
        (both_true (length j.left == 0) (is_none j.waiting) (ap (λ (ls : List Line). length ls == 0) left) (ap (λ (o : Option Line). is_none o) waiting))
        (ap (λ (ws : List Watermark). length ws == 0) (none_open j.world.sender.watermarks none)))
        (idle_so j.profile j.world.sender calm next)
