-- What standard error says to words that ask for help or for the version. They are refused words, as others are.
use Rattle.std.specs.Prelude.{ℕ, ◌||◌, ◌++◌, List, [], ◌∷◌, Bool, codes, nat_eq, if◌then◌else◌}
use Rattle.std.specs.Cmp.Lexicographic.{pointwise}
use Rattle.std.specs.List.{list_any}

abbrev pub program_usage : List ℕ
program_usage =
    codes "usage: normd COMMAND ..\n"
    ++ (codes "\n"
    ++ (codes "  session   runs the script that the input is, with all its members\n"
    ++ (codes "  show      shows the datagrams of the input, one a line in hexadecimal\n"
    ++ (codes "  generate  writes a script that is made of a number\n"
    ++ (codes "  send      runs the sender of a profile, with the input as its script\n"
    ++ (codes "  recv      runs one receiver of a profile\n"
    ++ (codes "  hub       hands on what the members of a profile send\n"
    ++ (codes "  gather    hears several senders, by the datagrams of the input\n"
    ++ (codes "  relay     relays between two sessions, by the events of the input\n"
    ++ (codes "  mirror    sends the folder that the input names to all members\n"
    ++ (codes "\n"
    ++ (codes "normd COMMAND --help says what a command takes."))))))))))))

abbrev pub session_usage : List ℕ
session_usage =
    codes "usage: normd session [--chance N] [--turns N] [--tail T]\n"
    ++ (codes "\n"
    ++ (codes "Runs the script that the input is, with all its members, and prints the\n"
    ++ (codes "journal.\n"
    ++ (codes "\n"
    ++ (codes "  --chance N  the seed of the network, 0 to 4294967295, in place of the\n"
    ++ (codes "              script's\n"
    ++ (codes "  --turns N   the most turns, 1 to 4000000, in place of the script's\n"
    ++ (codes "  --tail T    after turn T, 1 to 4000000, no command comes and nothing is\n"
    ++ (codes "              lost, until no watermark is open")))))))))

abbrev pub show_usage : List ℕ
show_usage =
    codes "usage: normd show\n"
    ++ (codes "\n"
    ++ (codes "Shows the datagrams of the input, one a line in hexadecimal, or why each is\n"
    ++ (codes "refused. It takes no word.")))

abbrev pub generate_usage : List ℕ
generate_usage =
    codes "usage: normd generate N\n"
    ++ (codes "\n"
    ++ (codes "Writes the script that is made of N, a number from 0 to 4294967295."))

abbrev pub send_usage : List ℕ
send_usage =
    codes "usage: normd send PROFILE [--instance I] [--group ADDRESS[:PORT]]\n"
    ++ (codes "\n"
    ++ (codes "Runs the sender alone, with the input as its script, and prints the journal.\n"
    ++ (codes "\n"
    ++ (codes "  PROFILE       the path of the profile\n"
    ++ (codes "  --instance I  the first instance, 0 to 65535, in place of the profile's\n"
    ++ (codes "  --group ADDRESS[:PORT]\n"
    ++ (codes "                a broadcast address, four numbers with points, and a port\n"
    ++ (codes "                from 1024 to 65534: all members are there, and no hub"))))))))

abbrev pub recv_usage : List ℕ
recv_usage =
    codes "usage: normd recv PROFILE NODE [--group ADDRESS[:PORT]]\n"
    ++ (codes "\n"
    ++ (codes "Runs one receiver, prints what it hands up, and puts the files of that here.\n"
    ++ (codes "\n"
    ++ (codes "  PROFILE       the path of the profile\n"
    ++ (codes "  NODE          the receiver, a node of the profile, 1 to 4294967294\n"
    ++ (codes "  --group ADDRESS[:PORT]\n"
    ++ (codes "                a broadcast address, four numbers with points, and a port\n"
    ++ (codes "                from 1024 to 65534: all members are there, and no hub"))))))))

abbrev pub hub_usage : List ℕ
hub_usage =
    codes "usage: normd hub PROFILE\n"
    ++ (codes "\n"
    ++ (codes "Hands on what the members of a profile send.\n"
    ++ (codes "\n"
    ++ (codes "  PROFILE       the path of the profile"))))

abbrev pub gather_usage : List ℕ
gather_usage =
    codes "usage: normd gather PROFILE NODE ..\n"
    ++ (codes "\n"
    ++ (codes "Hears one to eight senders, by the datagrams of the input, and prints what\n"
    ++ (codes "each receiver hands up and would send. It opens no sockets.\n"
    ++ (codes "\n"
    ++ (codes "  PROFILE       the path of a profile\n"
    ++ (codes "  NODE          a receiver of it, 1 to 4294967294"))))))

abbrev pub relay_usage : List ℕ
relay_usage =
    codes "usage: normd relay UP NODE DOWN [--instance I]\n"
    ++ (codes "\n"
    ++ (codes "Relays between two sessions, by the events of the input, and prints what it\n"
    ++ (codes "would send. It opens no sockets.\n"
    ++ (codes "\n"
    ++ (codes "  UP            the path of the profile above\n"
    ++ (codes "  NODE          a receiver of it, 1 to 4294967294\n"
    ++ (codes "  DOWN          the path of the profile below\n"
    ++ (codes "  --instance I  the first instance below, 0 to 65535, in place of the\n"
    ++ (codes "                profile's")))))))))

abbrev pub mirror_usage : List ℕ
mirror_usage =
    codes "usage: normd mirror\n"
    ++ (codes "\n"
    ++ (codes "Sends the folder that the input names, and puts each receiver's copies of its\n"
    ++ (codes "files. It takes no word.")))

-- the text of a command, or of the program
abbrev pub usage_of : List ℕ → List ℕ
usage_of word =
    if pointwise nat_eq word (codes "session") then session_usage else
    (if pointwise nat_eq word (codes "show") then show_usage else
    (if pointwise nat_eq word (codes "generate") then generate_usage else
    (if pointwise nat_eq word (codes "send") then send_usage else
    (if pointwise nat_eq word (codes "recv") then recv_usage else
    (if pointwise nat_eq word (codes "hub") then hub_usage else
    (if pointwise nat_eq word (codes "gather") then gather_usage else
    (if pointwise nat_eq word (codes "relay") then relay_usage else
    (if pointwise nat_eq word (codes "mirror") then mirror_usage else
    program_usage))))))))

abbrev pub usage_for : List (List ℕ) → List ℕ
usage_for [] = program_usage
usage_for (word ∷ others) = usage_of word

abbrev pub version_text : List ℕ
version_text = codes "normd 0.1.0"

-- a word that asks for help, and one that asks for the version
abbrev pub is_help : List ℕ → Bool
is_help word = pointwise nat_eq word (codes "--help") || (pointwise nat_eq word (codes "-h") || pointwise nat_eq word (codes "help"))

abbrev pub is_version : List ℕ → Bool
is_version word = pointwise nat_eq word (codes "--version")

-- some word asks for it
abbrev pub asks_help : List (List ℕ) → Bool
asks_help words = list_any is_help words

abbrev pub asks_version : List (List ℕ) → Bool
asks_version words = list_any is_version words
