-- What members confirmed is what they are listed past, as far as it was told.
use Rattle.std.proofs.Common.{◌≡◌, ◌+◌, ℕ, ◌+◌, cond, List, [], ◌∷◌, ◌++◌, map, Bool, true, false, Option, None, Some, Result, Ok, Err, refl, sym, ap, subst, ◌∙◌, inl, inr}
use Rattle.std.specs.Prelude.{◌⊎◌, ◌==◌, ◌||◌, find, nat_le, length, Contains, ⊤}
use Rattle.std.specs.List.{list_any}
use Rattle.std.proofs.lemmas.Bool.{eqb-true}
use Rattle.std.proofs.lemmas.Bool.Decides.{Decides-eqb}
use Rattle.std.proofs.lemmas.Option.{none-some, same_Some, option_and_then_some}
use Rattle.norm_base.specs.Members.{receivers_of}
use Rattle.norm_base.specs.Settings.{Settings}
use Rattle.norm_base.specs.declared.node.Origin.{Origin}
use Rattle.norm_base.specs.declared.kinds.Kind.TheVariants as kind
use Rattle.fec_plan.specs.declared.position.Position.{Position}
use Rattle.norm_ext.specs.Reading.{decoded}
use Rattle.norm_ext.specs.Written.{Written}
use Rattle.norm_order.specs.Entries.{Write, End, Whole, Stream}
use Rattle.norm_order.specs.Shapes.{last_source}
use Rattle.norm_receive_rules.specs.ReceiverState.{ReceiverState}
use Rattle.norm_receive_rules.specs.ReceiverStep as receiver
use Rattle.norm_receive_rules.specs.Ticking.{ticked as receiver_ticked}
use Rattle.norm_send_rules.specs.Commanding.{commanded, refused_as}
use Rattle.norm_send_rules.specs.Enqueuing.{object_fault, joined}
use Rattle.norm_send_rules.specs.InWindow.{current_shapes}
use Rattle.norm_send_rules.specs.Marking.{is_no_quorum, most_open, watermark_at, with_watermark, cut_and_marked}
use Rattle.norm_send_rules.specs.Restarting.{is_used, begun_anew as rules_begin}
use Rattle.norm_send_rules.specs.SenderState.{SenderState, Listing, Watermark, unlisted, sender_opening}
use Rattle.norm_send_rules.specs.SenderStep as sender
use Rattle.norm_send_rules.specs.Streaming.{open_fault, parts_now, write_fault, close_fault, grown, cut}
use Rattle.norm_send_rules.specs.Striking.{strike_fault, struck_off}
use Rattle.norm_send_rules.specs.Telling.{told, past_news, done_news, listing_of}
use Rattle.norm_send_rules.specs.Ticking.{ticked as sender_ticked}
use Rattle.norm_send_rules.specs.Watermarks.{members, open_watermarks, outcome_of, watermark_of}
use Rattle.norm_send_rules.specs.declared.fault.MarkFault.{MarkFault}
use Rattle.norm_send_rules.specs.declared.fault.MarkFault.TheVariants as mark
use Rattle.norm_send_rules.specs.declared.fault.SendFault.{SendFault}
use Rattle.norm_send_rules.specs.declared.fault.SendFault.TheVariants.{Enqueue, IdUsed, Mark as MarkRefused, Strike as StrikeRefused}
use Rattle.norm_send_rules.specs.declared.job.Job.{Job}
use Rattle.norm_send_rules.specs.declared.job.Job.TheVariants as job
use Rattle.norm_send_rules.specs.declared.job.Receipt.{Receipt}
use Rattle.norm_send_rules.specs.declared.job.Receipt.TheVariants as receipt
use Rattle.norm_send_rules.specs.declared.news.News.{News}
use Rattle.norm_send_rules.specs.declared.news.News.TheVariants as news
use Rattle.norm_send_rules.specs.declared.news.Outcome.{Outcome}
use Rattle.norm_send_rules.specs.declared.news.Outcome.TheVariants as outcome
use Rattle.norm_send_rules.proofs.WantLemmas.{where_free, either}
use Rattle.norm_safety.specs.Events.{Commanded, Delivered, Ticked, Offered, UpTaken, Answer, Gave}
use Rattle.norm_safety.specs.World.{World, receiver_at, with_receiver, with_given, offers, is_of}
use Rattle.norm_safety.specs.WorldStep.{world_step, moved, node_move, receiver_move}
use Rattle.norm_safety.proofs.ListRun.{given_leaves}
use Rattle.norm_journal.specs.declared.event.Event.{Event}
use Rattle.norm_journal.specs.declared.event.Event.TheVariants as event
use Rattle.norm_journal.specs.Draws.{next_draw, draws_after}
use Rattle.norm_journal.specs.Follows.{Follows}
use Rattle.norm_journal.specs.InWorld.{world_after, at}
use Rattle.norm_journal.specs.Jobs.{file_of_length}
use Rattle.norm_journal.specs.Judged.{Judged, news_due}
use Rattle.norm_journal.specs.Places.{Over}
use Rattle.norm_journal.specs.Printed.{left_of}
use Rattle.norm_journal.specs.Takes.{is_receiver, delivered}
use Rattle.norm_journal.specs.Turns.{in_turn}
use Rattle.norm_journal.proofs.FollowLemmas.{judges_what_follows}
use Rattle.norm_journal.proofs.SameLemmas.{answers_same}
use Rattle.norm_persist.specs.declared.account.Account.{Account}
use Rattle.norm_persist.specs.Accepting.{own_made, own_gave, accepts_persisting, persisted_from}
use Rattle.norm_persist.specs.Accounts.{opened, begun_anew, excused_by, risen, passed_by}
use Rattle.norm_persist.specs.Laws.{ConfirmedIsListed}
use Rattle.norm_persist.specs.Persisted.{Persisted, persisted_opening, accounts_after, led_to, own_name, is_own}
use Rattle.norm_persist.proofs.EventKinds.{Kind, Own, Bound, AsEver, kind_of}
use Rattle.norm_persist.proofs.Listed.{is_one, IsTold, Says, itself, same_says, NoRestart, command_says, tick_says, heard_says}
use Rattle.norm_persist.proofs.Tests.{clash, at_head, in_tail, in_nothing, either_in}

-- what the accounts of members say is what they are listed past, as far as it was told
abbrev Agree : SenderState → List Account → Type 0
Agree s accounts = (a : Account) → Contains accounts a → IsTold s a.node → a.confirmed ≡ listing_of s a.node

-- a change that leaves whose an account is, and what was confirmed
record Leaves (f : Account → Account) : Type 0 where
  node : (a : Account) → (f a).node ≡ a.node
  confirmed : (a : Account) → (f a).confirmed ≡ a.confirmed

of_map : (f : Account → Account) (accounts : List Account) (b : Account) → Contains (map f accounts) b → (a : Account) × Contains accounts a × (f a ≡ b)
of_map f [] b has = absurd (in_nothing b has)
of_map f (a ∷ accounts) b has = go (either_in (f a) (map f accounts) b has) (of_map f accounts b)
  where
    go : (f a ≡ b) ⊎ Contains (map f accounts) b → (Contains (map f accounts) b → (c : Account) × Contains accounts c × (f c ≡ b))
        → (c : Account) × Contains (a ∷ accounts) c × (f c ≡ b)
    go (inl is) more = (a, at_head a accounts, is)
    go (inr there) more = let found = more there in (found.0, in_tail a accounts found.0 found.1, found.2)

stay_agree : (s t : SenderState) (accounts : List Account) → Says s t → Agree s accounts → Agree t accounts
stay_agree s t accounts says agree a has told = let h = says a.node told in agree a has h.0 ∙ sym h.1

map_agree : (f : Account → Account) → Leaves f → (s t : SenderState) (accounts : List Account) → Says s t → Agree s accounts → Agree t (map f accounts)
map_agree f leaves s t accounts says agree b has told =
    let found = of_map f accounts b has in
    let node : found.0.node ≡ b.node = sym (leaves.node found.0) ∙ ap (λ (x : Account). x.node) found.2 in
    let T : ℕ → Type 0 = λ n. IsTold t n in
    let h = says found.0.node (subst T (sym node) told) in
    sym (ap (λ (x : Account). x.confirmed) found.2) ∙ leaves.confirmed found.0 ∙ agree found.0 found.1 h.0 ∙ sym h.1 ∙ ap (listing_of t) node

either_leaves : (b : Bool) (a c : Account) → c.node ≡ a.node → c.confirmed ≡ a.confirmed
    → ((elim b as (λ _. Account) [ true ↦ c | false ↦ a ]).node ≡ a.node) × ((elim b as (λ _. Account) [ true ↦ c | false ↦ a ]).confirmed ≡ a.confirmed)
either_leaves true a c n k = (n, k)
either_leaves false a c n k = (refl, refl)

passed_leaves : (left : List ℕ) → Leaves (passed_by left)
passed_leaves left = record {
  node = λ a. (either_leaves (list_any (λ node. node == a.node) left) a (record a { expired = a.expired + 1 }) refl refl).0;
  confirmed = λ a. (either_leaves (list_any (λ node. node == a.node) left) a (record a { expired = a.expired + 1 }) refl refl).1;
}

excused_leaves : (node : ℕ) → Leaves (excused_by node)
excused_leaves node = record {
  node = λ a. (either_leaves (a.node == node) a (record a { excused = true }) refl refl).0;
  confirmed = λ a. (either_leaves (a.node == node) a (record a { excused = true }) refl refl).1;
}

-- ---- a restart, and the opening

abbrev past_in : List Listing → ℕ → Option Position
past_in ls node = elim (find (λ (l : Listing). l.node == node) ls) as (λ _. Option Position) [ Some l ↦ l.past | None ↦ None ]

unlisted_past : (nodes : List ℕ) (node : ℕ) → past_in (unlisted nodes) node ≡ None
unlisted_past [] node = refl
unlisted_past (n ∷ nodes) node = go (n == node) (unlisted_past nodes node)
  where
    go : (b : Bool) → past_in (unlisted nodes) node ≡ None
        → elim (cond b (Some (record { node = n; past = None })) (find (λ (l : Listing). l.node == node) (unlisted nodes))) as (λ _. Option Position) [ Some l ↦ l.past | None ↦ None ] ≡ None
    go true more = refl
    go false more = more

restart_agrees : (id : ℕ) (s : SenderState) (accounts : List Account) → Agree (rules_begin id s) (map begun_anew accounts)
restart_agrees id s accounts b has told =
    let found = of_map begun_anew accounts b has in
    sym (ap (λ (x : Account). x.confirmed) found.2) ∙ sym (unlisted_past (members s) b.node)

opening_agrees : (p : Settings) (id : ℕ) (nodes : List ℕ) → Agree (sender_opening p id) (map opened nodes)
opening_agrees p id nodes b has told = sym (opened_none nodes b has) ∙ sym (unlisted_past (receivers_of p p.receivers) b.node)
  where
    opened_none : (nodes : List ℕ) (b : Account) → Contains (map opened nodes) b → None ≡ b.confirmed
    opened_none [] b has = absurd (in_nothing b has)
    opened_none (n ∷ nodes) b has = go (either_in (opened n) (map opened nodes) b has) (opened_none nodes b)
      where
        go : (opened n ≡ b) ⊎ Contains (map opened nodes) b → (Contains (map opened nodes) b → None ≡ b.confirmed) → None ≡ b.confirmed
        go (inl is) more = ap (λ (x : Account). x.confirmed) is
        go (inr there) more = more there

-- ---- changes that are told

is_or_not : (b : Bool) → (b ≡ true → ⊥) → b ≡ false
is_or_not false never = refl
is_or_not true never = absurd (never refl)

rise_agrees : (s : SenderState) (node : ℕ) (nodes : List ℕ) (at : Position) (accounts : List Account) → s.untold_nodes ≡ node ∷ nodes → listing_of s node ≡ Some at
    → Agree s accounts → Agree (record s { untold_nodes = nodes }) (map (risen node at) accounts)
rise_agrees s node nodes at accounts has_nodes listed agree b has is_told =
    let found = of_map (risen node at) accounts b has in go found.0 found.1 found.2 (found.0.node == node) refl
  where
    now : Account → Bool → Account
    now a c = elim c as (λ _. Account) [ true ↦ record a { confirmed = Some at; expired = 0 } | false ↦ a ]

    go : (a : Account) → Contains accounts a → risen node at a ≡ b → (c : Bool) → (a.node == node) ≡ c → b.confirmed ≡ listing_of s b.node
    go a there is true own =
        let same : now a true ≡ b = sym (ap (now a) own) ∙ is in
        let named : node ≡ b.node = sym (eqb-true a.node node own) ∙ ap (λ (x : Account). x.node) same in
        sym (ap (λ (x : Account). x.confirmed) same) ∙ sym listed ∙ ap (listing_of s) named
    go a there is false own =
        let same : a ≡ b = sym (ap (now a) own) ∙ is in
        let T : Account → Type 0 = λ x. IsTold (record s { untold_nodes = nodes }) x.node in
        let late = subst T (sym same) is_told in
        let apart : (node == a.node) ≡ false = is_or_not (node == a.node) (λ f. clash (sym own ∙ (Decides-eqb a.node node).1 (sym (eqb-true node a.node f)))) in
        let U : List ℕ → Type 0 = λ ns. is_one a.node ns ≡ false in
        let early : IsTold s a.node = record { member = late.member; told = subst U (sym has_nodes) (ap (λ c. c || is_one a.node nodes) apart ∙ late.told) } in
        sym (ap (λ (x : Account). x.confirmed) same) ∙ agree a there early ∙ ap (λ (x : Account). listing_of s x.node) same

outcome_agrees : (j : Judged) (t : SenderState) (mark : ℕ) (o : Outcome) (accounts : List Account) → Says j.world.sender t → Agree j.world.sender accounts
    → Agree t (accounts_after j (event.News (news.Done mark o)) accounts)
outcome_agrees j t mark (outcome.Expired many) accounts says agree = map_agree (passed_by (left_of j mark)) (passed_leaves (left_of j mark)) j.world.sender t accounts says agree
outcome_agrees j t mark outcome.Satisfied accounts says agree = stay_agree j.world.sender t accounts says agree
outcome_agrees j t mark outcome.Cut accounts says agree = stay_agree j.world.sender t accounts says agree
outcome_agrees j t mark (outcome.Open many) accounts says agree = stay_agree j.world.sender t accounts says agree

news_agree : (j : Judged) (change : News) (accounts : List Account) → news_due j ≡ Some change → Agree j.world.sender accounts
    → Agree (told j.world.sender).0 (accounts_after j (event.News change) accounts)
news_agree j change accounts is agree = go j.world.sender.untold_nodes j.world.sender.untold_marks refl is
  where
    s : SenderState
    s = j.world.sender

    by : List ℕ → List ℕ → SenderState × Option News
    by nodes marks = elim nodes as (λ _. SenderState × Option News) [
      | node ∷ others ↦ (record s { untold_nodes = others }, past_news node (listing_of s node))
      | [] ↦ elim marks as (λ _. SenderState × Option News) [
        | mark ∷ others ↦ (record s { untold_marks = others }, done_news s mark (watermark_of s mark))
        | [] ↦ (s, None)
      ]
    ]

    listed : (node : ℕ) (nodes : List ℕ) (past : Option Position) → s.untold_nodes ≡ node ∷ nodes → listing_of s node ≡ past → past_news node past ≡ Some change
        → Agree (record s { untold_nodes = nodes }) (accounts_after j (event.News change) accounts)
    listed node nodes None has l e = absurd (none-some change e)
    listed node nodes (Some at) has l e =
        subst (λ n. Agree (record s { untold_nodes = nodes }) (accounts_after j (event.News n) accounts)) (same_Some (news.Past node at) change e)
        (rise_agrees s node nodes at accounts has l agree)

    ended : (mark : ℕ) (marks : List ℕ) (w : Option Watermark) → done_news s mark w ≡ Some change
        → Agree (record s { untold_marks = marks }) (accounts_after j (event.News change) accounts)
    ended mark marks None e = absurd (none-some change e)
    ended mark marks (Some w) e =
        subst (λ n. Agree (record s { untold_marks = marks }) (accounts_after j (event.News n) accounts)) (same_Some (news.Done mark (outcome_of s w)) change e)
        (outcome_agrees j (record s { untold_marks = marks }) mark (outcome_of s w) accounts (same_says s (record s { untold_marks = marks }) (record { listings = refl; untold = refl })) agree)

    go : (nodes marks : List ℕ) → s.untold_nodes ≡ nodes → (by nodes marks).1 ≡ Some change → Agree (by nodes marks).0 (accounts_after j (event.News change) accounts)
    go (node ∷ nodes) marks has e = listed node nodes (listing_of s node) has refl e
    go [] (mark ∷ marks) has e = ended mark marks (watermark_of s mark) e
    go [] [] has e = absurd (none-some change e)

-- ---- commands

-- an answer says that another instance began
abbrev IsRestarted : Result Receipt SendFault → Type 0
IsRestarted (Ok (receipt.Restarted id)) = ⊤
IsRestarted _ = ⊥

free_not : {F E : Type 0} (found : Option F) (s after : SenderState) (given : Receipt) (refused : F → Result Receipt E) (word : E → SendFault)
    → ((f : F) → IsRestarted (refused_as word (refused f)) → ⊥) → (IsRestarted (Ok given) → ⊥) → IsRestarted (refused_as word (where_free found s after refused (Ok given)).1) → ⊥
free_not None s after given refused word no_fault plain is = plain is
free_not (Some f) s after given refused word no_fault plain is = no_fault f is

choice_not : (b : Bool) (s t : SenderState) (fault : MarkFault) (given : Receipt) → (IsRestarted (Ok given) → ⊥)
    → IsRestarted (refused_as MarkRefused (either b (s, Err fault) (t, Ok given)).1) → ⊥
choice_not true s t fault given plain is = is
choice_not false s t fault given plain is = plain is

at_not : (s : SenderState) (by : Origin) (quorum : Option ℕ) (found : Option Position) → IsRestarted (refused_as MarkRefused (watermark_at s by quorum found).1) → ⊥
at_not s by quorum None is = is
at_not s by quorum (Some place) is =
    choice_not (nat_le most_open (length (open_watermarks s))) s (with_watermark s by quorum place) (mark.TooMany (length (open_watermarks s)))
    (receipt.Mark (length s.watermarks + 1) place) (λ r. r) is

quorum_not : (b : Bool) (s : SenderState) (fault : MarkFault) (t : SenderState × Result Receipt MarkFault) → (IsRestarted (refused_as MarkRefused t.1) → ⊥)
    → IsRestarted (refused_as MarkRefused (either b (s, Err fault) t).1) → ⊥
quorum_not true s fault t plain is = is
quorum_not false s fault t plain is = plain is

restarts_not : (p : Settings) (s : SenderState) (by : Origin) (given : Job) → NoRestart given → IsRestarted (commanded p s by given).1 → ⊥
restarts_not p s by (job.Data info bytes) plain is =
    free_not (object_fault p s info bytes) s (joined p by (Whole kind.Data info bytes) s) _ Err Enqueue (λ f r. r) (λ r. r) is
restarts_not p s by (job.File name bytes) plain is =
    free_not (object_fault p s (Some name) bytes) s (joined p by (Whole kind.File (Some name) bytes) s) _ Err Enqueue (λ f r. r) (λ r. r) is
restarts_not p s by job.Open plain is = free_not (open_fault p s) s (joined p by (Stream []) s) _ Err Enqueue (λ f r. r) (λ r. r) is
restarts_not p s by (job.Write bytes) plain is =
    let parts = parts_now s ++ Write by bytes ∷ [] in free_not (write_fault p s bytes parts) s (grown p s parts) _ Err Enqueue (λ f r. r) (λ r. r) is
restarts_not p s by job.Close plain is =
    let parts = parts_now s ++ End ∷ [] in free_not (close_fault p s parts) s (grown p s parts) _ Err Enqueue (λ f r. r) (λ r. r) is
restarts_not p s by (job.Mark None) plain is = at_not (cut p s) by None (last_source (current_shapes p (cut p s))) is
restarts_not p s by (job.Mark (Some q)) plain is =
    quorum_not (is_no_quorum p q) s (mark.Quorum q) (cut_and_marked p s by (Some q)) (at_not (cut p s) by (Some q) (last_source (current_shapes p (cut p s)))) is
restarts_not p s by (job.Restart instance) plain is = absurd plain
restarts_not p s by (job.Strike node) plain is = free_not (strike_fault s node) s (struck_off node s) _ Err StrikeRefused (λ f r. r) (λ r. r) is

struck_agree : (own : Bool) (node : ℕ) (s t : SenderState) (accounts : List Account) → Says s t → Agree s accounts
    → Agree t (elim own as (λ _. List Account) [ true ↦ accounts | false ↦ map (excused_by node) accounts ])
struck_agree true node s t accounts says agree = stay_agree s t accounts says agree
struck_agree false node s t accounts says agree = map_agree (excused_by node) (excused_leaves node) s t accounts says agree

-- a command that begins no instance
plain_agrees : (j : Judged) (t : SenderState) (by : Origin) (said : Option Job) (gave : Result Receipt SendFault) (accounts : List Account)
    → Says j.world.sender t → (IsRestarted gave → ⊥) → Agree j.world.sender accounts → Agree t (accounts_after j (event.Job by said gave) accounts)
plain_agrees j t by said (Ok (receipt.Restarted id)) accounts says no_restart agree = absurd (no_restart tt)
plain_agrees j t by said (Ok (receipt.Struck node)) accounts says no_restart agree = struck_agree (is_own by) node j.world.sender t accounts says agree
plain_agrees j t by said _ accounts says no_restart agree = stay_agree j.world.sender t accounts says agree

other_agrees : (j : Judged) (by : Origin) (said : Option Job) (given : Job) (gave : Result Receipt SendFault) (accounts : List Account) → NoRestart given
    → (commanded j.profile j.world.sender by given).1 ≡ gave → Agree j.world.sender accounts
    → Agree (commanded j.profile j.world.sender by given).0 (accounts_after j (event.Job by said gave) accounts)
other_agrees j by said given gave accounts plain is agree =
    plain_agrees j (commanded j.profile j.world.sender by given).0 by said gave accounts (command_says j.profile j.world.sender by given plain)
    (λ r. restarts_not j.profile j.world.sender by given plain (subst IsRestarted (sym is) r)) agree

command_agrees : (j : Judged) (by : Origin) (said : Option Job) (given : Job) (gave : Result Receipt SendFault) (accounts : List Account)
    → (commanded j.profile j.world.sender by given).1 ≡ gave → Agree j.world.sender accounts
    → Agree (commanded j.profile j.world.sender by given).0 (accounts_after j (event.Job by said gave) accounts)
command_agrees j by said (job.Restart id) gave accounts is agree = go (is_used j.world.sender id) is
  where
    s : SenderState
    s = j.world.sender

    step : Bool → SenderState × Result Receipt SendFault
    step used = elim used as (λ _. SenderState × Result Receipt SendFault) [ true ↦ (s, Err (IdUsed id)) | false ↦ (rules_begin id s, Ok (receipt.Restarted id)) ]

    go : (used : Bool) → (step used).1 ≡ gave → Agree (step used).0 (accounts_after j (event.Job by said gave) accounts)
    go true e = subst (λ g. Agree s (accounts_after j (event.Job by said g) accounts)) e agree
    go false e = subst (λ g. Agree (rules_begin id s) (accounts_after j (event.Job by said g) accounts)) e (restart_agrees id s accounts)
command_agrees j by said (job.Data info bytes) gave accounts is agree = other_agrees j by said (job.Data info bytes) gave accounts tt is agree
command_agrees j by said (job.File name bytes) gave accounts is agree = other_agrees j by said (job.File name bytes) gave accounts tt is agree
command_agrees j by said job.Open gave accounts is agree = other_agrees j by said job.Open gave accounts tt is agree
command_agrees j by said (job.Write bytes) gave accounts is agree = other_agrees j by said (job.Write bytes) gave accounts tt is agree
command_agrees j by said job.Close gave accounts is agree = other_agrees j by said job.Close gave accounts tt is agree
command_agrees j by said (job.Mark quorum) gave accounts is agree = other_agrees j by said (job.Mark quorum) gave accounts tt is agree
command_agrees j by said (job.Strike node) gave accounts is agree = other_agrees j by said (job.Strike node) gave accounts tt is agree

-- ---- the world

given_says : (s : SenderState) (node : ℕ) (sent : Option Written) (w : World) → Says s w.sender → Says s (with_given node sent w).sender
given_says s node sent w h = subst (λ t. Says s t) (sym (given_leaves node sent w).0) h

tick_world : (p : Settings) (w : World) (node now : ℕ) → Says w.sender (world_step p w (Ticked node now)).0.sender
tick_world p w node now = go (node == p.sender) (receiver_at w node)
  where
    go : (own : Bool) (found : Option ReceiverState) → Says w.sender (moved p w (node_move own found (sender.Ticked now) (receiver.Ticked now))).0.sender
    go true found = given_says w.sender p.sender (sender_ticked p w.sender now).1 (record w { sender = (sender_ticked p w.sender now).0 }) (tick_says p w.sender now)
    go false None = itself w.sender
    go false (Some r) = given_says w.sender r.node (receiver_ticked p r now).1 (with_receiver (receiver_ticked p r now).0 w) (itself w.sender)

deliver_world : (p : Settings) (w : World) (node : ℕ) (octets : List ℕ) (now draw : ℕ) → Says w.sender (world_step p w (Delivered node octets now draw)).0.sender
deliver_world p w node octets now draw = go (node == p.sender) (receiver_at w node)
  where
    go : (own : Bool) (found : Option ReceiverState) → Says w.sender (moved p w (node_move own found (sender.Delivered octets now) (receiver.Delivered octets now draw))).0.sender
    go true found = heard_says p w.sender now (decoded octets)
    go false None = itself w.sender
    go false (Some r) = itself w.sender

offer_world : (p : Settings) (w : World) (node : ℕ) (octets : List ℕ) → Says w.sender (world_step p w (Offered node octets)).0.sender
offer_world p w node octets = go (find (is_of node octets) w.given)
  where
    go : (found : Option (ℕ × Written)) → Says w.sender (offers found node w).sender
    go None = itself w.sender
    go (Some o) = itself w.sender

take_world : (p : Settings) (w : World) (node : ℕ) → Says w.sender (world_step p w (UpTaken node)).0.sender
take_world p w node = go (receiver_at w node)
  where
    go : (found : Option ReceiverState) → Says w.sender (moved p w (receiver_move found receiver.UpTaken)).0.sender
    go None = itself w.sender
    go (Some r) = itself w.sender

delivered_says : (to : ℕ) (octets : List ℕ) (j : Judged) → Says j.world.sender (delivered to octets j).world.sender
delivered_says to octets j = go (to == j.profile.sender) (is_receiver j to)
  where
    go : (own found : Bool) → Says j.world.sender (elim own as (λ _. Judged) [
      | true ↦ world_after (Delivered to octets j.now 0) j
      | false ↦ elim found as (λ _. Judged) [
        | true ↦ record (world_after (Delivered to octets j.now (next_draw j.draws)) j) { draws = draws_after j.draws }
        | false ↦ j
      ]
    ]).world.sender
    go true found = deliver_world j.profile j.world to octets j.now 0
    go false true = deliver_world j.profile j.world to octets j.now (next_draw j.draws)
    go false false = itself j.world.sender

-- ---- each event

same_gave : (a b : Result Receipt SendFault) → ◌≡◌ {A = Answer} (Gave a) (Gave b) → a ≡ b
same_gave a b e = cc

event_agrees : (j next : Judged) (e : Event) (accounts : List Account) → Follows j e next → Agree j.world.sender accounts
    → Agree next.world.sender (accounts_after j e accounts)
event_agrees j next event.Start accounts f agree = subst (λ (n : Judged). Agree n.world.sender accounts) (sym f.1.then) agree
event_agrees j next (event.Turn turn now) accounts f agree = subst (λ (n : Judged). Agree n.world.sender accounts) (sym f.1.then) agree
event_agrees j next (event.Pull by) accounts f agree = subst (λ (n : Judged). Agree n.world.sender accounts) (sym f.1.then) agree
event_agrees j next (event.Job by said gave) accounts f agree =
    subst (λ (n : Judged). Agree n.world.sender (accounts_after j (event.Job by said gave) accounts)) (sym f.1.then)
    (command_agrees j by said f.1.job gave accounts (same_gave _ gave f.1.gives) agree)
event_agrees j next (event.Length by name len fault) accounts f agree =
    subst (λ (n : Judged). Agree n.world.sender accounts) (sym f.1.then) (stay_agree j.world.sender _ accounts (command_says j.profile j.world.sender by (file_of_length name len) tt) agree)
event_agrees j next (event.Tick node said) accounts f agree =
    subst (λ (n : Judged). Agree n.world.sender accounts) (sym f.1.then) (stay_agree j.world.sender _ accounts (tick_world j.profile j.world node j.now) agree)
event_agrees j next (event.Offer from octets) accounts f agree =
    subst (λ (n : Judged). Agree n.world.sender accounts) (sym f.1.then) (stay_agree j.world.sender _ accounts (offer_world j.profile j.world from octets) agree)
event_agrees j next (event.Took to octets) accounts f agree =
    subst (λ (n : Judged). Agree n.world.sender accounts) (sym f.1.then) (stay_agree j.world.sender _ accounts (delivered_says to octets j) agree)
event_agrees j next event.Empty accounts f agree = subst (λ (n : Judged). Agree n.world.sender accounts) (sym f.1.then) agree
event_agrees j next (event.Up node instance up) accounts f agree =
    subst (λ (n : Judged). Agree n.world.sender accounts) (sym f.1.then) (stay_agree j.world.sender _ accounts (take_world j.profile j.world node) agree)
event_agrees j next (event.News change) accounts f agree =
    subst (λ (n : Judged). Agree n.world.sender (accounts_after j (event.News change) accounts)) (sym f.then) (news_agree j change accounts f.due agree)
event_agrees j next event.End accounts f agree = subst (λ (n : Judged). Agree n.world.sender accounts) (sym f.1.then) agree

kind_agrees : (x : Persisted) (e : Event) (next : Persisted) → Kind x e next → Agree x.judged.world.sender x.accounts → Agree next.judged.world.sender next.accounts
kind_agrees x e next (Own o) agree =
    let E : Event = event.Job (own_name x) (Some o.own) o.gave in
    let made : Event → Persisted = λ f. own_made x f o.gave (own_gave o.gave (world_after (Commanded (own_name x) o.own x.judged.now) x.judged)) in
    let A : Persisted → Type 0 = λ y. Agree y.judged.world.sender y.accounts in
    subst A (sym (o.then ∙ ap made o.event_is))
    (command_agrees x.judged (own_name x) (Some o.own) o.own o.gave x.accounts (same_gave _ o.gave (answers_same _ _ o.answers)) agree)
kind_agrees x e next (Bound b) agree = by b.bound
  where
    A : Persisted → Type 0
    A y = Agree y.judged.world.sender y.accounts

    by : ((turn : ℕ) × (now : ℕ) × (e ≡ event.Turn turn now) × (b.after ≡ in_turn turn now x.judged) × (turn ≡ x.judged.turn + 1)) ⊎ ((e ≡ event.End) × (b.after ≡ at Over x.judged))
        → Agree next.judged.world.sender next.accounts
    by (inl t) = subst A (sym (b.then ∙ ap (λ f. led_to x f b.after) t.2 ∙ ap (λ (j : Judged). led_to x (event.Turn t.0 t.1) j) t.3)) agree
    by (inr t) = subst A (sym (b.then ∙ ap (λ f. led_to x f b.after) t.0 ∙ ap (λ (j : Judged). led_to x event.End j) t.1)) agree
kind_agrees x e next (AsEver a) agree =
    let A : Persisted → Type 0 = λ y. Agree y.judged.world.sender y.accounts in
    subst A (sym a.then) (event_agrees x.judged a.after e x.accounts ((judges_what_follows x.judged a.after e).0 a.accepted) agree)

run_agrees : (x last : Persisted) (events : List Event) → persisted_from x events ≡ Some last → Agree x.judged.world.sender x.accounts
    → Agree last.judged.world.sender last.accounts
unfolding persisted_from
run_agrees x last [] is agree =
    let A : Persisted → Type 0 = λ y. Agree y.judged.world.sender y.accounts in subst A (same_Some x last is) agree
run_agrees x last (e ∷ events) is agree = option_and_then_some (λ next. persisted_from next events) (accepts_persisting x e) last is (λ next comes more.
    run_agrees next last events more (kind_agrees x e next (kind_of x e next comes) agree))

pub confirmed_is_listed : ConfirmedIsListed
confirmed_is_listed script files nodes give_up events x a is member told =
    run_agrees (persisted_opening script files nodes give_up) x events is
    (opening_agrees script.profile script.profile.instance (receivers_of script.profile script.profile.receivers)) a member.kept
    (record { member = member.member; told = told })
