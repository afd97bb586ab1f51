-- What may come next in a session, and the state after it: one sentence for each kind of event.
use Rattle.std.specs.Prelude.{◌≡◌, ◌≢◌, ℕ, ◌+◌, ◌*◌, ◌≤◌, ◌⊎◌, List, ◌∷◌, ◌++◌, length, All, true, false, Option, None, Some, Result, Err, ⊤}
use Rattle.std.specs.Option.{option_map}
use Rattle.norm_base.specs.Contents.{content_of}
use Rattle.norm_base.specs.declared.kinds.Sent.{Sent}
use Rattle.norm_base.specs.declared.kinds.Sent.TheVariants as sent
use Rattle.norm_base.specs.declared.node.Origin.{Origin}
use Rattle.norm_ext.specs.Written.{Written}
use Rattle.norm_order.specs.declared.up.Up.{Up}
use Rattle.norm_script.specs.declared.script.Line.{Line}
use Rattle.norm_script.specs.declared.script.Verb.{Verb}
use Rattle.norm_script.specs.declared.script.Verb.TheVariants as verb
use Rattle.norm_send_rules.specs.declared.fault.SendFault.{SendFault}
use Rattle.norm_send_rules.specs.declared.job.Job.{Job}
use Rattle.norm_send_rules.specs.declared.job.Job.TheVariants as job
use Rattle.norm_send_rules.specs.declared.job.Receipt.{Receipt}
use Rattle.norm_send_rules.specs.declared.news.News.{News}
use Rattle.norm_safety.specs.Events.{Commanded, Ticked, Offered, UpTaken, NewsAsked, Gave, Sent as Gives, Took}
use Rattle.norm_safety.specs.Hands.{instance_at}
use Rattle.norm_safety.specs.Lawful.{AllTaken}
use Rattle.norm_safety.specs.World.{receiver_at}
use Rattle.norm_journal.specs.Accepting.{accepts, told_of}
use Rattle.norm_journal.specs.Commands.{offered, telling, repeating}
use Rattle.norm_journal.specs.InWorld.{world_after, answer_to, at}
use Rattle.norm_journal.specs.Jobs.{Told, is_read, file_of_length}
use Rattle.norm_journal.specs.Judged.{Judged, is_done, news_due}
use Rattle.norm_journal.specs.Places.{Place, Starting, Between, Pulling, Giving, Sending, Offering, Taking, Handing, Over, handing, after_tick}
use Rattle.norm_journal.specs.Pulling.{origin_of}
use Rattle.norm_journal.specs.Takes.{delivered, after_take, receivers_due}
use Rattle.norm_journal.specs.Ticks.{handed}
use Rattle.norm_journal.specs.Turns.{in_turn}
use Rattle.norm_journal.specs.declared.event.Event.{Event}
use Rattle.norm_journal.specs.declared.event.Event.TheVariants as event

-- The network is started once, before all else.
pub record NetworkStarts (j next : Judged) : Type 0 where
  pub place : j.place ≡ Starting
  pub then : next ≡ at Between j

-- A turn's moment is its number times the step; where the step is 0 the clock gives it, and it does not fall.
pub record IsMoment (j : Judged) (turn now : ℕ) : Type 0 where
  pub stepped : j.profile.step ≢ 0 → now ≡ turn * j.profile.step
  pub clocked : j.profile.step ≡ 0 → j.now ≤ now

-- The next turn begins at its moment, where the last one was not done.
pub record TurnBegins (j : Judged) (turn now : ℕ) (next : Judged) : Type 0 where
  pub place : j.place ≡ Between
  pub number : turn ≡ j.turn + 1
  pub moment : IsMoment j turn now
  pub more : is_done j ≡ false
  pub then : next ≡ in_turn turn now j

-- A line has this name, and is the first that is left of its producer; the rest is what is left without it.
pub record IsFirstLeft (by : Origin) (lines : List Line) (line : Line) (rest : List Line) : Type 0 where
  pub named : origin_of line ≡ by
  pub before : List Line
  pub behind : List Line
  pub its_place : lines ≡ before ++ line ∷ behind
  pub rest_is : rest ≡ before ++ behind
  pub first : All (λ (l : Line). l.producer ≢ by.producer) before

-- A command is pulled: the first line left of its producer. It is to be offered then.
pub record CommandPulled (j : Judged) (by : Origin) (next : Judged) : Type 0 where
  pub place : j.place ≡ Pulling
  pub line : Line
  pub rest : List Line
  pub is_first : IsFirstLeft by j.left line rest
  pub then : next ≡ record j { left = rest; place = Giving line }

-- the file of a name has these octets, where it is told which files are there
abbrev pub IsContent : Told → List ℕ → List ℕ → Type 0
IsContent None name octets = ⊤
IsContent (Some files) name octets = content_of files name ≡ Some octets

-- the file of a name has so many octets, where it is told which files are there
abbrev pub IsLength : Told → List ℕ → ℕ → Type 0
IsLength None name len = ⊤
IsLength (Some files) name len = option_map length (content_of files name) ≡ Some len

-- A job is its command's: with the same info and octets; a file's with the octets of the file that has its name.
abbrev pub IsJobOf : Told → Verb → Job → Type 0
IsJobOf files (verb.Data info octets) (job.Data other bytes) = (info ≡ other) × (octets ≡ bytes)
IsJobOf files (verb.File name) (job.File other octets) = (name ≡ other) × IsContent files name octets
IsJobOf files verb.Open job.Open = ⊤
IsJobOf files (verb.Write octets) (job.Write bytes) = octets ≡ bytes
IsJobOf files verb.Close job.Close = ⊤
IsJobOf files (verb.Mark quorum) (job.Mark other) = quorum ≡ other
IsJobOf files (verb.Restart instance) (job.Restart other) = instance ≡ other
IsJobOf files (verb.Strike node) (job.Strike other) = node ≡ other
IsJobOf files _ _ = ⊥

-- A command is offered for the first time, or a file again, and its job is told: a file's where it is accepted.
pub record OfferedAndTold (j : Judged) (line : Line) (told : Option Job) (job : Job) (gave : Result Receipt SendFault) : Type 0 where
  pub place : telling j.place ≡ Some line
  pub told_is : told ≡ Some job
  pub its_job : IsJobOf j.files line.verb job
  pub read : is_read job gave ≡ true

-- A command that waits is offered again, and its job is not told again.
pub record OfferedAgain (j : Judged) (line : Line) (told : Option Job) (job : Job) : Type 0 where
  pub place : repeating j.place ≡ Some (line, job)
  pub told_is : told ≡ None

-- A command is offered to the sender, for the first time or again, and the sender gives this.
pub record CommandOffered (j : Judged) (by : Origin) (told : Option Job) (gave : Result Receipt SendFault) (next : Judged) : Type 0 where
  pub line : Line
  pub job : Job
  pub named : origin_of line ≡ by
  pub due : OfferedAndTold j line told job gave ⊎ OfferedAgain j line told job
  pub gives : answer_to (Commanded by job j.now) j ≡ Gave gave
  pub then : next ≡ offered line gave (world_after (Commanded by job j.now) j)

-- A file is offered, for the first time or again, and the sender refuses it, as it refuses each file of this name and length.
-- Its octets are not read.
pub record FileRefused (j : Judged) (by : Origin) (name : List ℕ) (len : ℕ) (fault : SendFault) (next : Judged) : Type 0 where
  pub line : Line
  pub place : telling j.place ≡ Some line
  pub named : origin_of line ≡ by
  pub its_name : line.verb ≡ verb.File name
  pub its_length : IsLength j.files name len
  pub gives : answer_to (Commanded by (file_of_length name len) j.now) j ≡ Gave (Err fault)
  pub then : next ≡ offered line (Err fault) (world_after (Commanded by (file_of_length name len) j.now) j)

-- the sender's tick is due, and then the takes
pub record SendersTick (j : Judged) (node : ℕ) (after : Place) : Type 0 where
  pub place : j.place ≡ Sending
  pub node_is : node ≡ j.profile.sender
  pub after_is : after ≡ Taking 0

-- a receiver's tick is due, and then the receivers after it
pub record ReceiversTick (j : Judged) (node : ℕ) (after : Place) : Type 0 where
  pub nodes : List ℕ
  pub place : j.place ≡ Handing node nodes
  pub after_is : after ≡ handing nodes

-- whether a tick gave a datagram
abbrev pub sent_of : Option Written → Sent
sent_of None = sent.Nothing
sent_of (Some datagram) = sent.Datagram

-- The node whose part of the turn it is ticks, after all its hand-ups were taken. What it gives is to be offered, and then
-- the turn goes on.
pub record NodeTicks (j : Judged) (node : ℕ) (said : Sent) (next : Judged) : Type 0 where
  pub after : Place
  pub due : SendersTick j node after ⊎ ReceiversTick j node after
  pub taken : AllTaken (receiver_at j.world node)
  pub datagram : Option Written
  pub gives : answer_to (Ticked node j.now) j ≡ Gives datagram
  pub said_is : said ≡ sent_of datagram
  pub then : next ≡ at (after_tick node datagram after) (world_after (Ticked node j.now) j)

-- The datagram that the last tick gave is offered by its node.
pub record DatagramOffered (j : Judged) (from : ℕ) (octets : List ℕ) (next : Judged) : Type 0 where
  pub after : Place
  pub place : j.place ≡ Offering from octets after
  pub then : next ≡ at after (world_after (Offered from octets) j)

-- A datagram is taken, whichever the network gives, and delivered.
pub record DatagramTaken (j : Judged) (to : ℕ) (octets : List ℕ) (next : Judged) : Type 0 where
  pub count : ℕ
  pub place : j.place ≡ Taking count
  pub then : next ≡ at (after_take count j) (delivered to octets j)

-- The network has no datagram ready; the receivers' parts follow.
pub record NoneReady (j next : Judged) : Type 0 where
  pub count : ℕ
  pub place : j.place ≡ Taking count
  pub then : next ≡ at (receivers_due j) j

-- The receiver whose part of the turn it is hands up what is next, in the instance that it is in.
pub record HandedUp (j : Judged) (node instance : ℕ) (up : Up) (next : Judged) : Type 0 where
  pub nodes : List ℕ
  pub place : j.place ≡ Handing node nodes
  pub within : instance_at j.world node ≡ Some instance
  pub gives : answer_to (UpTaken node) j ≡ Took (Some up)
  pub then : next ≡ handed up (world_after (UpTaken node) j)

-- The change that is due is told.
pub record ChangeTold (j : Judged) (news : News) (next : Judged) : Type 0 where
  pub due : news_due j ≡ Some news
  pub then : next ≡ told_of news (world_after NewsAsked j)

-- The summary comes where the last turn was done.
pub record SummaryMade (j next : Judged) : Type 0 where
  pub place : j.place ≡ Between
  pub done : is_done j ≡ true
  pub then : next ≡ at Over j

-- no change is to be told
abbrev pub IsQuiet : Judged → Type 0
IsQuiet j = news_due j ≡ None

-- The event may come in this state, and leads to the next: a change that is due comes before all else.
abbrev pub Follows : Judged → Event → Judged → Type 0
Follows j event.Start next = IsQuiet j × NetworkStarts j next
Follows j (event.Turn turn now) next = IsQuiet j × TurnBegins j turn now next
Follows j (event.Pull by) next = IsQuiet j × CommandPulled j by next
Follows j (event.Job by job gave) next = IsQuiet j × CommandOffered j by job gave next
Follows j (event.Length by name len fault) next = IsQuiet j × FileRefused j by name len fault next
Follows j (event.Tick node sent) next = IsQuiet j × NodeTicks j node sent next
Follows j (event.Offer from octets) next = IsQuiet j × DatagramOffered j from octets next
Follows j (event.Took to octets) next = IsQuiet j × DatagramTaken j to octets next
Follows j event.Empty next = IsQuiet j × NoneReady j next
Follows j (event.Up node instance up) next = IsQuiet j × HandedUp j node instance up next
Follows j (event.News news) next = ChangeTold j news next
Follows j event.End next = IsQuiet j × SummaryMade j next

-- The judge accepts an event with a state exactly where the event may come, and leads there.
abbrev pub JudgesWhatFollows : Type 0
JudgesWhatFollows = (j next : Judged) (e : Event) → (accepts j e ≡ Some next → Follows j e next) × (Follows j e next → accepts j e ≡ Some next)
