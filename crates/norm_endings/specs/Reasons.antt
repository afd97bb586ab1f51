-- What stands on standard error of an ending, for people: why words, a line, a profile or the memory ended the program.
use Rattle.std.specs.Prelude.{ℕ, ◌+◌, List, [], ◌∷◌, ◌++◌, Bool, true, false, Option, None, Some, codes, nat_eq, if◌then◌else◌}
use Rattle.std.specs.Cmp.Lexicographic.{pointwise}
use Rattle.std.specs.Fmt.{decimal}
use Rattle.norm_multi.specs.declared.multi.MultiFault.{MultiFault}
use Rattle.norm_multi.specs.declared.multi.MultiFault.TheVariants as multi
use Rattle.norm_script.specs.Sentences.{refusal_text}
use Rattle.norm_show.specs.Sentences.{sentence_of_none}
use Rattle.norm_endings.specs.MirrorReasons.{not_satisfied_reason}
use Rattle.norm_endings.specs.Usage.{asks_help, asks_version, usage_for, version_text}
use Rattle.relay_words.specs.Reasons.{relay_reason, event_reason, command_reason, relayed_reason, is_told}
use Rattle.norm_endings.specs.declared.status.Ending.{Ending}
use Rattle.norm_endings.specs.declared.status.Ending.TheVariants.{Memory, Words, Refused, Line, Event, Profile, TailRefused, Relayed, Command, Unsendable, NotAccepted, NotSatisfied, Unlike}
use Rattle.norm_endings.specs.declared.status.NoTail.{NoTail}
use Rattle.norm_endings.specs.declared.status.NoTail.TheVariants.{Waiting, NoRequest, Mode, Streams, Step, Pace, Flushes}
use Rattle.norm_endings.specs.declared.status.ProfileFault.{ProfileFault}
use Rattle.norm_endings.specs.declared.status.ProfileFault.TheVariants.{Document, Node, Members, Relay}

-- what the commands take that do not stand alone
abbrev pub session_takes : List ℕ
session_takes =
    codes "session takes --chance N, from 0 to 4294967295, --turns N and --tail T, from 1 to 4000000, each at most once, and no other word"

abbrev pub generate_takes : List ℕ
generate_takes = codes "generate takes one word, a number from 0 to 4294967295"

abbrev pub send_takes : List ℕ
send_takes =
    codes "send takes one word, the path of a profile, --instance I, from 0 to 65535, and --group ADDRESS or ADDRESS:PORT, four numbers with points and a port from 1024 to 65534, each at most once"

abbrev pub recv_takes : List ℕ
recv_takes =
    codes "recv takes two words, the path of a profile and a node, from 1 to 4294967294, and --group ADDRESS or ADDRESS:PORT, four numbers with points and a port from 1024 to 65534, at most once"

abbrev pub hub_takes : List ℕ
hub_takes = codes "hub takes one word, the path of a profile"

abbrev pub gather_takes : List ℕ
gather_takes = codes "gather takes one to eight pairs of words, the path of a profile and a node, from 1 to 4294967294"

abbrev pub relay_takes : List ℕ
relay_takes = codes "relay takes three words, the path of the profile above, a node of it, from 1 to 4294967294, and the path of the profile below, and --instance I, from 0 to 65535, at most once"

-- what is wrong with a command that stands alone, by the words behind it
abbrev pub extra_reason : List ℕ → List (List ℕ) → List ℕ
extra_reason word [] = []
extra_reason word (extra ∷ others) = codes "the word " ++ (extra ++ (codes " is one too many behind " ++ word))

-- why words are refused: the first is unknown, or what stands behind it is not what it takes
abbrev pub refused_reason : List (List ℕ) → List ℕ
refused_reason [] = codes "no word says what to do"
refused_reason (word ∷ others) =
    if pointwise nat_eq word (codes "session") then session_takes else
    (if pointwise nat_eq word (codes "generate") then generate_takes else
    (if pointwise nat_eq word (codes "show") then extra_reason word others else
    (if pointwise nat_eq word (codes "mirror") then extra_reason word others else
    (if pointwise nat_eq word (codes "send") then send_takes else
    (if pointwise nat_eq word (codes "recv") then recv_takes else
    (if pointwise nat_eq word (codes "hub") then hub_takes else
    (if pointwise nat_eq word (codes "gather") then gather_takes else
    (if pointwise nat_eq word (codes "relay") then relay_takes else codes "the word " ++ (word ++ codes " is unknown")))))))))

-- What is said of refused words: the usage text that they ask for, or the version, or why they are refused.
abbrev pub words_reason : List (List ℕ) → List ℕ
words_reason words =
    if asks_help words then usage_for words else
    (if asks_version words then version_text else refused_reason words)

-- why a node is none of a profile's receivers, which are those from the first to the last
abbrev pub node_reason : (node first last : ℕ) → List ℕ
node_reason node first last =
    codes "the node " ++ (decimal node ++ (codes " is no receiver of the profile, whose receivers are " ++ (decimal first ++ (codes " to " ++ decimal last))))

-- why several senders are refused: a node of a pair, counted from 1, or an id
abbrev pub members_reason : MultiFault → List ℕ
members_reason (multi.NotReceiver i) = codes "the node of pair " ++ (decimal (i + 1) ++ codes " is no receiver of its profile")
members_reason (multi.SameId node) = codes "the id " ++ (decimal node ++ codes " stands twice among the senders and nodes")
members_reason multi.Memory = codes "out of memory"

-- why a profile is refused; of a document the sentence is that of its refusal, which is not named here
abbrev pub profile_reason : ProfileFault → Option (List ℕ)
profile_reason (Document why) = None
profile_reason (Node node first last) = Some (node_reason node first last)
profile_reason (Members why) = Some (members_reason why)
profile_reason (Relay why) = Some (relay_reason why)

-- why a tail is too slow
abbrev pub pace_reason : (symbols gap step grtt : ℕ) → List ℕ
pace_reason symbols gap step grtt =
    codes "the number of infos and symbols in the window is " ++ (decimal symbols ++ (codes ": with one more, sent twice, a gap of " ++ (decimal gap
    ++ (codes " and a step of " ++ (decimal step ++ (codes " apart, they take longer than the grtt of " ++ (decimal grtt ++ codes " microseconds")))))))

-- more flushes were counted than a tail allows
abbrev pub flushes_reason : (count k : ℕ) → List ℕ
flushes_reason count k =
    codes "the number of flushes that were counted is " ++ (decimal count ++ (codes ": with twice the k of " ++ (decimal k ++ codes " it is above 15")))

-- why there is no tail
abbrev pub no_tail_reason : NoTail → List ℕ
no_tail_reason (Waiting turn) = codes "after turn " ++ (decimal turn ++ codes " a command was not pulled yet, or waits")
no_tail_reason (NoRequest turn) = codes "after turn " ++ (decimal turn ++ codes " no watermark is open, and the session is not whole")
no_tail_reason Mode = codes "the mode of the profile is drop, and a tail wants hold"
no_tail_reason (Streams count) = codes "the number of streams in the window is " ++ (decimal count ++ codes ", and a tail wants none")
no_tail_reason (Step step gap) = codes "the step of " ++ (decimal step ++ (codes " microseconds is not from 1 to the gap of " ++ decimal gap))
no_tail_reason (Pace symbols gap step grtt) = pace_reason symbols gap step grtt
no_tail_reason (Flushes count k) = flushes_reason count k

-- an ending has a reason of its own, beside what the objects of the outside keep
abbrev pub has_reason : Ending → Bool
has_reason Memory = true
has_reason Words = true
has_reason (Refused refusal) = true
has_reason (Line n why) = true
has_reason (Event n why) = true
has_reason (Profile why) = true
has_reason (TailRefused why) = true
has_reason (Relayed lost patience) = is_told lost patience
has_reason (Command fault) = true
has_reason (Unsendable name len) = true
has_reason (NotAccepted what) = true
has_reason (NotSatisfied which) = true
has_reason (Unlike why) = true
has_reason _ = false

-- what it is, where that is named
abbrev pub reason_of : Ending → List (List ℕ) → Option (List ℕ)
reason_of Memory words = Some (codes "out of memory")
reason_of Words words = Some (words_reason words)
reason_of (Refused refusal) words = Some (refusal_text refusal)
reason_of (Line n why) words = Some (codes "line " ++ (decimal n ++ (codes ": " ++ sentence_of_none why)))
reason_of (Event n why) words = Some (codes "line " ++ (decimal n ++ (codes ": " ++ event_reason why)))
reason_of (Profile why) words = profile_reason why
reason_of (TailRefused why) words = Some (no_tail_reason why)
reason_of (Relayed lost patience) words = Some (relayed_reason lost patience)
reason_of (Command fault) words = Some (command_reason fault)
reason_of (Unsendable name len) words = None
reason_of (NotAccepted what) words = None
reason_of (NotSatisfied which) words = Some (not_satisfied_reason which)
reason_of (Unlike why) words = None
reason_of _ words = Some []
