-- A change that is told.
use Rattle.std.proofs.Common.{◌≡◌, ℕ, ◌+◌, ◌-◌, ◌≤◌, List, [], ◌∷◌, length, Option, None, Some, Bool, true, refl, sym, ap, ◌∙◌, subst, arith}
use Rattle.std.specs.Option.{option_to_list}
use Rattle.norm_base.specs.Network.{Network}
use Rattle.norm_base.specs.Settings.{Settings}
use Rattle.norm_base.specs.Told.{Pieces, gained}
use Rattle.norm_journal.specs.Accepting.{accepts}
use Rattle.norm_journal.specs.Follows.{ChangeTold}
use Rattle.norm_journal.specs.Places.{Place}
use Rattle.norm_journal.specs.Lines.{news_line}
use Rattle.norm_journal.specs.Printed.{line_of}
use Rattle.norm_journal.specs.Totals.{with_news}
use Rattle.norm_journal.specs.declared.event.Event.{Event}
use Rattle.norm_journal.specs.declared.event.Event.TheVariants as event
use Rattle.norm_journal.proofs.FollowLemmas.{judges_what_follows}
use Rattle.norm_safety.specs.Events.{NewsAsked, Told}
use Rattle.norm_safety.specs.World.{World}
use Rattle.norm_safety.specs.WorldStep.{world_step}
use Rattle.norm_send_rules.specs.SenderState.{SenderState}
use Rattle.norm_send_rules.specs.Telling.{told, past_news, done_news, listing_of}
use Rattle.norm_send_rules.specs.Watermarks.{watermark_of}
use Rattle.norm_send_rules.specs.declared.news.News.{News}
use Rattle.norm_send_rules.specs.declared.news.News.TheVariants as news
use Rattle.norm_sender.specs.SenderKept.{Stands}
use Rattle.norm_world.specs.WorldKept.{WorldKept, StandsFor}
use Rattle.norm_world.specs.WorldMoves.{IsEvent}
use Rattle.norm_session.specs.Context.{Context, with_posted, judged_of}
use Rattle.norm_session.specs.Noting.{noted}
use Rattle.norm_session.specs.RunKept.{RunKept}
use Rattle.norm_session.specs.SoFar.{SoFar, At}
use Rattle.norm_turns.specs.Printing.{IsUnwritten}
use Rattle.norm_session.specs.Stopping.{Stopped}
use Rattle.norm_turns.specs.Telling.{left_by}
use Rattle.norm_session.specs.Telling.{untold_count, IsTellingOf, HasTold}
use Rattle.norm_turns.specs.declared.fault.SessionFault.TheVariants as fault
use Rattle.producer_gate.specs.Boards.{BoardState}
use Rattle.norm_session.proofs.SoFarLemmas.{more_told, posted_by, untold, told_line_stops}

-- ---- what telling leaves of a sender

-- what is told, by what is to be told
abbrev told_by : SenderState → List ℕ → List ℕ → SenderState × Option News
told_by s nodes marks = elim nodes [
  | node ∷ rest ↦ (record s { untold_nodes = rest }, past_news node (listing_of s node))
  | [] ↦ elim marks [
    | mark ∷ rest ↦ (record s { untold_marks = rest }, done_news s mark (watermark_of s mark))
    | [] ↦ (s, None)
  ]
]

-- what a change's line tells of the sender is as it was
record Tells (s t : SenderState) : Type 0 where
  instance : t.current.id ≡ s.current.id
  left : (n : News) → left_by t n ≡ left_by s n

tells_same : (s : SenderState) → Tells s (told s).0
tells_same s = go s.untold_nodes s.untold_marks
  where
    of_nodes : (rest : List ℕ) (n : News) → left_by (record s { untold_nodes = rest }) n ≡ left_by s n
    of_nodes rest (news.Past node at) = refl
    of_nodes rest (news.Done mark outcome) = refl

    of_marks : (rest : List ℕ) (n : News) → left_by (record s { untold_marks = rest }) n ≡ left_by s n
    of_marks rest (news.Past node at) = refl
    of_marks rest (news.Done mark outcome) = refl

    go : (nodes marks : List ℕ) → Tells s (told_by s nodes marks).0
    go (node ∷ nodes) marks = record { instance = refl; left = of_nodes nodes }
    go [] (mark ∷ marks) = record { instance = refl; left = of_marks marks }
    go [] [] = record { instance = refl; left = λ n. refl }

-- one fewer is to be told
one_fewer : (s : SenderState) (n : News) → (told s).1 ≡ Some n → untold_count (told s).0 ≡ untold_count s - 1
one_fewer s n = go s.untold_nodes s.untold_marks refl refl
  where
    go : (nodes marks : List ℕ) → s.untold_nodes ≡ nodes → s.untold_marks ≡ marks → (told_by s nodes marks).1 ≡ Some n
        → untold_count (told_by s nodes marks).0 ≡ untold_count s - 1
    go (node ∷ nodes) marks ns ms e = let many = ap length ns in omega (arith, many)
    go [] (mark ∷ marks) ns ms e = let none = ap length ns in let many = ap length ms in omega (arith, none, many)
    go [] [] ns ms e = absurd (cc)

-- nothing is to be told where the count says so
none_due : (s : SenderState) → untold_count s ≡ 0 → (told s).1 ≡ None
none_due s = go s.untold_nodes s.untold_marks refl refl
  where
    go : (nodes marks : List ℕ) → s.untold_nodes ≡ nodes → s.untold_marks ≡ marks → untold_count s ≡ 0 → (told_by s nodes marks).1 ≡ None
    go (node ∷ nodes) marks ns ms e = let many = ap length ns in absurd (omega (arith, many, e))
    go [] (mark ∷ marks) ns ms e = let many = ap length ms in absurd (omega (arith, many, e))
    go [] [] ns ms e = refl

-- ---- a change is told

-- the run after it
abbrev pub having_told : RunKept → WorldKept → News → RunKept
having_told k world n = record k { world = world; journal = noted k.journal (event.News n); totals = with_news n k.totals }

-- the world's answer is the change that was due
record IsTold (k : RunKept) (world : WorldKept) (w : World) (n : News) : Type 0 where
  stands : StandsFor world (world_step k.p w NewsAsked).0
  due : (told w.sender).1 ≡ Some n

is_told : (x : Context) (k : RunKept) (world : WorldKept) (w : World) (n : News) (place : Place) (network : Network) (written : Pieces)
    → SoFar x k w place network written → IsEvent k.world world NewsAsked (λ answer. answer ≡ Told (Some n)) → IsTold k world w n
is_told x k world w n place network written s asked =
    let step = asked.steps w s.stands in
    record {
      stands = subst (λ (q : Settings). StandsFor world (world_step q w NewsAsked).0) s.all.world step.0;
      due = same (told w.sender).1 (Some n) step.1;
    }
  where
    same : (a b : Option News) → Told a ≡ Told b → a ≡ b
    same a b e = cc

news_accepted : (x : Context) (k : RunKept) (world : WorldKept) (w : World) (n : News) (place : Place) → IsTold k world w n
    → accepts (judged_of x k w place) (event.News n) ≡ Some (judged_of x (having_told k world n) (world_step k.p w NewsAsked).0 place)
news_accepted x k world w n place is =
    let j = judged_of x k w place in
    let next = judged_of x (having_told k world n) (world_step k.p w NewsAsked).0 place in
    let follows : ChangeTold j n next = record { due = is.due; then = refl } in
    (judges_what_follows j next (event.News n)).1 follows

-- what its line tells of the state before it is what the sender after it says
news_is : (x : Context) (k : RunKept) (w : World) (place : Place) (n : News) (instance : ℕ) (left : List ℕ) → w.sender.current.id ≡ instance
    → left_by w.sender n ≡ left → line_of (judged_of x k w place) (event.News n) ≡ news_line instance left n
news_is x k w place (news.Past node at) instance left same others = ap (λ i. news_line i [] (news.Past node at)) same
news_is x k w place (news.Done mark outcome) instance left same others =
    ap (λ ms. news_line w.sender.current.id ms (news.Done mark outcome)) others

-- what is said of the sender's state: its instance, and the members that are left
pub record SaysLeft (world : WorldKept) (n : News) (instance : ℕ) (left : List ℕ) : Type 0 where
  pub instance_is : (s : SenderState) → Stands world.sender s → instance ≡ s.current.id
  pub left_is : (s : SenderState) → Stands world.sender s → left ≡ left_by s n

line_said : (x : Context) (k : RunKept) (world : WorldKept) (w : World) (n : News) (place : Place) (instance : ℕ) (left : List ℕ)
    → SaysLeft world n instance left → IsTold k world w n → line_of (judged_of x k w place) (event.News n) ≡ news_line instance left n
line_said x k world w n place instance left says is =
    let after = is.stands.sender in
    let same = tells_same w.sender in
    news_is x k w place n instance left (sym (says.instance_is (told w.sender).0 after ∙ same.instance))
    (sym (says.left_is (told w.sender).0 after ∙ same.left n))

pub tells : (x : Context) (board : BoardState) (k v : RunKept) (world : WorldKept) (n : News) (place : Place) (network : Network) (unwritten written : Pieces)
    (instance : ℕ) (left : List ℕ) (many : ℕ) → board ≡ posted_by x (event.News n) → k ≡ v → world.p ≡ k.world.p → IsEvent k.world world NewsAsked (λ answer. answer ≡ Told (Some n))
    → SaysLeft world n instance left → written ≡ gained unwritten (option_to_list (news_line instance left n))
    → IsTellingOf x v place network unwritten many
    → IsTellingOf (with_posted x board) (having_told k world n) place network written (many - 1)
tells x board k v world n place network unwritten written instance left many posted seen same asked says out there =
    let here = subst (λ (u : RunKept). IsTellingOf x u place network unwritten many) (sym seen) there in
    let s = here.so_far in
    let w = here.world in
    let e : Event = event.News n in
    let is = is_told x k world w n place network unwritten s asked in
    subst (λ (b : BoardState). IsTellingOf (with_posted x b) (having_told k world n) place network written (many - 1)) (sym posted)
    (record {
      world = (world_step k.p w NewsAsked).0;
      so_far = more_told x k (having_told k world n) e w (world_step k.p w NewsAsked).0 place place network network unwritten written s
          (record {
            profile = refl;
            alone = refl;
            nodes = same;
            journal = refl;
            stands = is.stands;
            accepted = news_accepted x k world w n place is;
          })
          (untold network e refl refl)
          (out ∙ ap (λ l. gained unwritten (option_to_list l)) (sym (line_said x k world w n place instance left says is))) tt refl tt;
      count = one_fewer w.sender n is.due ∙ ap (λ m. m - 1) here.count;
    })

-- its line was not written
pub tell_stops : (x : Context) (board : BoardState) (k v : RunKept) (world : WorldKept) (n : News) (place : Place) (network : Network)
    (unwritten written : Pieces) (instance : ℕ) (left : List ℕ) (many : ℕ) → board ≡ posted_by x (event.News n) → k ≡ v
    → IsEvent k.world world NewsAsked (λ answer. answer ≡ Told (Some n)) → SaysLeft world n instance left
    → IsUnwritten fault.Write unwritten written (news_line instance left n) → IsTellingOf x v place network unwritten many
    → Stopped (with_posted x board) fault.Write network written
tell_stops x board k v world n place network unwritten written instance left many posted seen asked says un there =
    let here = subst (λ (u : RunKept). IsTellingOf x u place network unwritten many) (sym seen) there in
    let s = here.so_far in
    let w = here.world in
    let is = is_told x k world w n place network unwritten s asked in
    subst (λ (b : BoardState). Stopped (with_posted x b) fault.Write network written) (sym posted)
    (told_line_stops x s.journal (event.News n) (judged_of x k w place) (judged_of x (having_told k world n) (world_step k.p w NewsAsked).0 place)
    network unwritten written s.leads (news_accepted x k world w n place is) refl refl refl tt tt
    (subst (λ l. IsUnwritten fault.Write unwritten written l) (sym (line_said x k world w n place instance left says is)) un))

-- ---- all changes are told

-- one fewer
pub tells_on : (x : Context) (k : RunKept) (place : Place) (network : Network) (written : Pieces) (told : Bool) (end counter : ℕ) → told ≡ true
    → HasTold told x k place network written (end - counter) → IsTellingOf x k place network written (end - (counter + 1))
tells_on x k place network written told end counter is h =
    let here = subst (λ b. HasTold b x k place network written (end - counter)) is h in
    record { world = here.world; so_far = here.so_far; count = let less = here.count in omega (arith, less) }

-- none is left
pub told_all : (x : Context) (k : RunKept) (place : Place) (network : Network) (written : Pieces) (end counter : ℕ) → end ≤ counter
    → IsTellingOf x k place network written (end - counter) → At x k place network written
told_all x k place network written end counter past here =
    let many = here.count in
    record { world = here.world; so_far = here.so_far; quiet = none_due here.world.sender (omega (arith, many, past)) }
