-- What the words of the command line ask for under profiles: of one node of a session over a network, of receivers of several senders, or of a relay.
use Rattle.std.specs.Prelude.{ℕ, List, [], ◌∷◌, Option, None, Some, codes, if◌then◌else◌, option_and_then}
use Rattle.std.specs.Option.{option_map}
use Rattle.clap.specs.Words.{Row, first_of, all_of}
use Rattle.norm_base.specs.declared.key.Key.TheVariants as key
use Rattle.norm_script.specs.Words.{is_text, number_within}
use Rattle.norm_args.specs.Groups.{Named, group_in}
use Rattle.norm_args.specs.Forms.{send_form, recv_form, hub_form, gather_form, relay_form, found_in}
use Rattle.norm_args.specs.Tasks.{value_given}
use Rattle.norm_args.specs.declared.node_tasks.NodeTask.{NodeTask}
use Rattle.norm_args.specs.declared.node_tasks.NodeTask.TheVariants as task

-- the path of the profile, as the shell gives it
abbrev pub profile_in : List Row → Option (List ℕ)
profile_in rows = first_of (codes "PROFILE") rows

-- the instance that an option gives: none, or a number that the key may have; None where it gives another word
abbrev pub instance_in : List Row → Option (Option ℕ)
instance_in rows = value_given key.Instance (first_of (codes "instance") rows)

-- the number of the node
abbrev pub node_in : List Row → Option ℕ
node_in rows = option_and_then (number_within 1 4294967294) (first_of (codes "NODE") rows)

-- the path, and the instance if one is given, where no other word stands in its place
abbrev pub send_of : Option (List ℕ) → Option (Option ℕ) → Option NodeTask
send_of None given = None
send_of (Some profile) None = None
send_of (Some profile) (Some instance) = Some (task.Send profile instance)

-- both words, where the second is the number of a node
abbrev pub receive_of : Option (List ℕ) → Option ℕ → Option NodeTask
receive_of None number = None
receive_of (Some profile) None = None
receive_of (Some profile) (Some number) = Some (task.Receive profile number)

-- A task of a node of its own, where the option of its group has no other word. The group is of the network, and no part of the task.
abbrev pub with_group : Option (Option Named) → Option NodeTask → Option NodeTask
with_group None asked = None
with_group (Some group) asked = asked

abbrev pub send_in : List (List ℕ) → Option NodeTask
send_in words = option_and_then (λ rows. with_group (group_in rows) (send_of (profile_in rows) (instance_in rows))) (found_in send_form words)

abbrev pub receive_in : List (List ℕ) → Option NodeTask
receive_in words = option_and_then (λ rows. with_group (group_in rows) (receive_of (profile_in rows) (node_in rows))) (found_in recv_form words)

abbrev pub hub_in : List (List ℕ) → Option NodeTask
hub_in words = option_and_then (λ rows. option_map task.Hub (profile_in rows)) (found_in hub_form words)

-- a pair before others
abbrev pub onto_pairs : List ℕ → Option ℕ → Option (List (List ℕ × ℕ)) → Option (List (List ℕ × ℕ))
onto_pairs path None pairs = None
onto_pairs path (Some node) pairs = option_map (λ others. (path, node) ∷ others) pairs

-- Words in pairs, each the path of a profile and the number of a node. None if there is an odd number of them, or if a node is no number
-- of one.
abbrev pub pairs_of : List (List ℕ) → Option (List (List ℕ × ℕ))
pairs_of [] = Some []
pairs_of (path ∷ []) = None
pairs_of (path ∷ node ∷ words) = onto_pairs path (number_within 1 4294967294 node) (pairs_of words)

abbrev pub gather_in : List (List ℕ) → Option NodeTask
gather_in words = option_map task.Gather (option_and_then pairs_of (option_and_then (all_of (codes "PAIRS")) (found_in gather_form words)))

-- the paths of both profiles, the node between them, and the instance if one is given, where no other word stands in its place
abbrev pub relay_of : (up : Option (List ℕ)) (node : Option ℕ) (down : Option (List ℕ)) → Option (Option ℕ) → Option NodeTask
relay_of None _ _ _ = None
relay_of (Some up) None _ _ = None
relay_of (Some up) (Some node) None _ = None
relay_of (Some up) (Some node) (Some down) None = None
relay_of (Some up) (Some node) (Some down) (Some instance) = Some (task.Relay up node down instance)

abbrev pub relay_in : List (List ℕ) → Option NodeTask
relay_in words =
    option_and_then (λ rows. relay_of (first_of (codes "UP") rows) (node_in rows) (first_of (codes "DOWN") rows) (instance_in rows)) (found_in relay_form words)

-- what words ask for whose first is this one
abbrev pub node_named : List ℕ → List (List ℕ) → Option NodeTask
node_named word words =
    if is_text word (codes "send") then send_in words else
    (if is_text word (codes "recv") then receive_in words else
    (if is_text word (codes "hub") then hub_in words else
    (if is_text word (codes "gather") then gather_in words else
    (if is_text word (codes "relay") then relay_in words else None))))

-- What the words behind the program's name ask for under profiles. None where they are of no such form.
unfoldable pub node_task_of : List (List ℕ) → Option NodeTask
node_task_of [] = None
node_task_of (word ∷ others) = node_named word (word ∷ others)
